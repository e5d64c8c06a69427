-- What is left to do inside the body of a Finalize, which nests wherever it is called: what it creates needs no collection that is open around it.

use Rattle.std.proofs.Common.{◌≡◌, ℕ, ◌≤◌, ◌==◌, ◌||◌, Bool, true, false, List, [], ◌∷◌, ◌++◌, arith, refl, ap, subst}
use Rattle.std.proofs.lemmas.Bool.{eq-eqb}
use Rattle.ada_parts.specs.Task.{Task}
use Rattle.ada_program.specs.Form.{DeclarationForm, creates_pool, collects, declares, declares_record}
use Rattle.ada_program.specs.ProgramForm.{TypeForm}
use Rattle.ada_program.specs.WellFormed.{reached_components}
use Rattle.ada_program.specs.Nested.{Callees, collected, are_open}
use Rattle.ada_meaning.specs.declared.state.Value.{Value}
use Rattle.ada_meaning.specs.Frame.{Frame, Treatment}
use Rattle.ada_meaning.specs.Frame as frame
use Rattle.ada_meaning.specs.Step.{treating, storing}
use Rattle.ada_meaning.specs.Named.{State, Next, named}
use Rattle.ada_meaning.specs.State.{Master}
use Rattle.ada_order.proofs.Controls.{Does}
use Rattle.ada_scopes.proofs.Counts.{one, times}
use Rattle.ada_scopes.proofs.Texts.{RecordsNest, PartNests, StatementsNest, BranchesNest, HandlersNest, BodyNests}
use Rattle.ada_scopes.proofs.Control.{is_confine}
use Rattle.ada_scopes.proofs.Layers.{AllLayered}
use Rattle.ada_outlived.proofs.Records.{NeedNow, CanOwn}

-- Does the body of a Finalize wait to come to its end?
abbrev pub inside : List (Frame Value) → Bool
inside [] = false
inside (f ∷ k) = is_confine f || inside k

-- Inside such a body, it holds whatever is open around.
abbrev pub Anywhere : Bool → (List ℕ → Type 0) → Type 0
Anywhere within P = within ≡ true → (around : List ℕ) → P around

-- What a frame holds nests anywhere, if it stands inside such a body.
abbrev pub FrameFree : List TypeForm → Callees → (within : Bool) → Frame Value → Type 0
FrameFree types callees within (frame.Elaborates ds fs hs) =
    Anywhere within (λ around. StatementsNest types callees around fs × HandlersNest types callees around hs × RecordsNest types around ds)
FrameFree types callees within (frame.Does fs) = Anywhere within (λ around. StatementsNest types callees around fs)
FrameFree types callees within (frame.Decides fs branches) =
    Anywhere within (λ around. StatementsNest types callees around fs × BranchesNest types callees around branches)
FrameFree types callees within (frame.Repeats condition fs) = Anywhere within (λ around. StatementsNest types callees around fs)
FrameFree types callees within (frame.Turns condition fs) = Anywhere within (λ around. StatementsNest types callees around fs)
FrameFree types callees within (frame.Ranges x fs) = Anywhere within (λ around. StatementsNest types callees around fs)
FrameFree types callees within (frame.Counts x value last fs) = Anywhere within (λ around. StatementsNest types callees around fs)
FrameFree types callees within (frame.Handles hs) = Anywhere within (λ around. HandlersNest types callees around hs)
FrameFree types callees within (frame.Calls procedure b actuals) = Anywhere within (λ around. BodyNests types callees around b)
FrameFree types callees within (frame.DeclaresRecord x t) = Anywhere within (λ around. are_open around (reached_components types t) ≡ true)
FrameFree types callees within f = Unit {0}

-- So it is of all that is left to do.
abbrev pub Free : List TypeForm → Callees → List (Frame Value) → Type 0
Free types callees [] = Unit {0}
Free types callees (f ∷ k) = FrameFree types callees (inside k) f × Free types callees k

-- What each state keeps.
abbrev pub Keeps : List TypeForm → Callees → State → Type 0
Keeps types callees s = NeedNow types s.masters × Free types callees s.control

-- What comes next keeps it, whatever is answered.
abbrev pub Good : List TypeForm → Callees → Next → Type 0
Good types callees coming = Does (λ told e s. Keeps types callees s) coming

-- What a frame relies on as it is taken off: a record object can be created, and a master that is being left loses its objects first.
abbrev pub PartReady : List TypeForm → List Master → List DeclarationForm → Type 0
PartReady types ms [] = Unit {0}
PartReady types ms (creates_pool pool ∷ ds) = Unit {0}
PartReady types ms (collects access ∷ ds) = Unit {0}
PartReady types ms (declares x right ∷ ds) = Unit {0}
PartReady types ms (declares_record x t initial ∷ ds) = CanOwn types t ms

abbrev pub FrameReady : List TypeForm → List Master → Frame Value → Type 0
FrameReady types ms (frame.Elaborates ds fs hs) = PartReady types ms ds
FrameReady types ms (frame.DeclaresRecord x t) = CanOwn types t ms
FrameReady types ms (frame.Leaves mode) = AllLayered ms
FrameReady types ms f = Unit {0}

-- An object is treated before what is left to do (7.6, 7.6.1).
pub free_treating : (types : List TypeForm) (callees : Callees) (v : Value) (treatment : Treatment) (tasks : List Task) (k : List (Frame Value)) → Free types callees k → Free types callees (treating v treatment tasks k)
free_treating types callees v treatment [] k n = n
free_treating types callees v treatment (task ∷ tasks) k n = (tt, n)

-- What goes back to components is stored before it (6.4.1).
pub free_storing : (types : List TypeForm) (callees : Callees) (references : List Value) (k : List (Frame Value)) → Free types callees k → Free types callees (storing named references k)
free_storing types callees [] k n = n
free_storing types callees (r ∷ rs) k n = (tt, free_storing types callees rs k n)

pub inside_storing : (references : List Value) (k : List (Frame Value)) → inside (storing named references k) ≡ inside k
inside_storing [] k = refl
inside_storing (r ∷ rs) k = inside_storing rs k

-- A part that nests anywhere creates no collection.
none_twice : (us : List ℕ) → ((t : ℕ) → 1 ≤ times t us → times t us ≡ 0) → us ≡ []
none_twice [] away = refl
none_twice (u ∷ us) away =
    let found : one (u == u) ≡ 1 = ap one (eq-eqb u u refl) in
    let none = away u (omega (arith, found)) in
    absurd (omega (arith, found, none))

pub collects_none : (types : List TypeForm) (ds : List DeclarationForm) → ((around : List ℕ) → PartNests types around ds) → collected ds ≡ []
collects_none types ds parts = none_twice (collected ds) (parts (collected ds)).away

-- So what is behind it nests anywhere, too.
behind_part : (us around : List ℕ) → us ≡ [] → us ++ around ≡ around
behind_part us around none = ap (λ (vs : List ℕ). vs ++ around) none

pub part_free :
    (types : List TypeForm) (ds : List DeclarationForm) (P : List ℕ → Type 0)
    → ((around : List ℕ) → PartNests types around ds) → ((around : List ℕ) → P (collected ds ++ around)) → (around : List ℕ) → P around × RecordsNest types around ds
part_free types ds P parts h around =
    let same = behind_part (collected ds) around (collects_none types ds parts) in
    (subst P same (h around), subst (λ (us : List ℕ). RecordsNest types us ds) same (parts around).records)
