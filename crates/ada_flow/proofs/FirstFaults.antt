-- The first fault of bodies, each examined on its own.

use Rattle.std.proofs.Common.{◌≡◌, ℕ, ◌+◌, ◌<◌, length, get_or, drop, map, Bool, true, false, List, [], ◌∷◌, ◌++◌, Option, Some, None, refl, sym, ap, ◌∙◌}
use Rattle.std.proofs.lemmas.List.{at_drop_more}
use Rattle.std.specs.Prelude.{Ok, Err, if◌then◌else◌}
use Rattle.ada_effects.specs.Effects.{Effect, Effects, Implicit, effect_of, known_of}
use Rattle.ada_program.specs.declared.program.FormalMode.{FormalMode}
use Rattle.ada_program.specs.declared.program.Procedure.{Procedure}
use Rattle.ada_program.specs.ProgramForm.{TypeForm, VariableForm, BodyForm, body_form}
use Rattle.ada_program.specs.WellFormed.{variable_kind}
use Rattle.ada_text.specs.declared.spot.Spot.{Spot}
use Rattle.ada_flow.specs.declared.rule.Rule.{Rule}
use Rattle.ada_flow.specs.Flow.{Holds, Gone, Outcome, faults, goes, Breach, is_left_of, leftmost, Keeping, first_fault, body_flow, body_keeps, bodies_flow, ends_body, kept_by, kept_from, leaves_block, left_option, judged_flow, object_record, tracked_by_adjust, tracks_of}
use Rattle.ada_flow.specs.Tracking.{Tracks, tracks_behind, tracked_variable, with_tracked}
use Rattle.ada_flow.specs.Told.{Noted, ending, fault_in, judgement, kept_judgement, noted_first, raised_by}
use Rattle.ada_flow.proofs.Noted.{End}
use Rattle.ada_flow.proofs.Tracked.{with_tracked_is}
use Rattle.ada_flow.proofs.Leftmost.{leftmost_of_one, leftmost_of_three}

chosen : (b : Bool) (s t : Spot) (r q : Rule) → fault_in (if b then faults s r else faults t q) ≡ (if b then Some (s, r) else Some (t, q))
chosen true s t r q = refl
chosen false s t r q = refl

-- the fault of two bodies is the leftmost of theirs
pub fault_in_both : (o p : Outcome) → fault_in (first_fault o p) ≡ leftmost (fault_in o) (fault_in p)
fault_in_both (goes normal raising) p = refl
fault_in_both (faults s r) (goes normal raising) = refl
fault_in_both (faults s r) (faults t q) = chosen (is_left_of t s) t s q r

-- body by body
pub fault_in_more : (so_far : Option Breach) (types : List TypeForm) (implicit : Implicit) (es : List Effect) (ks : List Keeping) (b : BodyForm) (bs : List BodyForm) (main : BodyForm) →
    leftmost so_far (fault_in (bodies_flow types implicit es ks (b ∷ bs) main))
    ≡ leftmost (leftmost so_far (fault_in (body_flow types (known_of implicit es) ks (tracks_of types (length es) b) b)))
    (fault_in (bodies_flow types implicit (es ++ effect_of types (known_of implicit es) b ∷ []) (ks ++ body_keeps types (known_of implicit es) ks (tracks_of types (length es) b) b ∷ []) bs main))
fault_in_more so_far types implicit es ks b bs main =
    let first = body_flow types (known_of implicit es) ks (tracks_of types (length es) b) b in
    let others = bodies_flow types implicit (es ++ effect_of types (known_of implicit es) b ∷ []) (ks ++ body_keeps types (known_of implicit es) ks (tracks_of types (length es) b) b ∷ []) bs main in
    ap (leftmost so_far) (fault_in_both first others) ∙ sym (leftmost_of_three so_far (fault_in first) (fault_in others))

-- one procedure more
pub procedure_step : (so_far found joined all : Option Breach) (types : List TypeForm) (implicit : Implicit) (es es' : List Effect) (ks ks' : List Keeping) (procedures : List Procedure) (i : ℕ) (one : Procedure) (main : BodyForm) →
    i < length procedures → one ≡ get_or procedures i one → found ≡ fault_in (body_flow types (known_of implicit es) ks (tracks_of types (length es) (body_form one)) (body_form one)) →
    es' ≡ es ++ effect_of types (known_of implicit es) (body_form one) ∷ [] → ks' ≡ ks ++ body_keeps types (known_of implicit es) ks (tracks_of types (length es) (body_form one)) (body_form one) ∷ [] →
    joined ≡ leftmost so_far found →
    leftmost so_far (fault_in (bodies_flow types implicit es ks (map body_form (drop i procedures)) main)) ≡ all →
    leftmost joined (fault_in (bodies_flow types implicit es' ks' (map body_form (drop (i + 1) procedures)) main)) ≡ all
procedure_step so_far found joined all types implicit es es' ks ks' procedures i one main inside item found_is es_is ks_is joins before =
    let rest = map body_form (drop (i + 1) procedures) in
    let known = known_of implicit es in
    let first = fault_in (body_flow types known ks (tracks_of types (length es) (body_form one)) (body_form one)) in
    let step : map body_form (drop i procedures) ≡ body_form one ∷ rest =
    at_drop_more (map body_form) procedures i one inside ∙ ap (λ (p : Procedure). body_form p ∷ rest) (sym item) in
    ap (λ (j : Option Breach). leftmost j (fault_in (bodies_flow types implicit es' ks' rest main))) (joins ∙ ap (leftmost so_far) found_is)
    ∙ ap (λ (e : List Effect). leftmost (leftmost so_far first) (fault_in (bodies_flow types implicit e ks' rest main))) es_is
    ∙ ap (λ (k : List Keeping). leftmost (leftmost so_far first) (fault_in (bodies_flow types implicit (es ++ effect_of types known (body_form one) ∷ []) k rest main))) ks_is
    ∙ sym (fault_in_more so_far types implicit es ks (body_form one) rest main)
    ∙ sym (ap (λ (bs : List BodyForm). leftmost so_far (fault_in (bodies_flow types implicit es ks bs main))) step)
    ∙ before

-- what tracks components tracks these
components_behind : (n : ℕ) (cs : List ℕ) → (tracks_behind n cs).components ≡ cs
components_behind n [] = refl
components_behind n (c ∷ cs) = refl

-- a body as it is judged, by what the code keeps of the components that it tracks
pub judged_so : (types : List TypeForm) (effects : Effects) (kept : List Keeping) (q : ℕ) (b : BodyForm) (vs : List VariableForm) (tracks : Tracks) (n : ℕ) (cs : List ℕ) →
    tracks ≡ tracks_behind n cs → n ≡ length b.variables → cs ≡ tracked_by_adjust types q (object_record types (variable_kind b.variables 0)) →
    vs ≡ b.variables ++ map (tracked_variable types (variable_kind b.variables 0)) cs →
    judged_flow types vs effects kept tracks b ≡ body_flow types effects kept (tracks_of types q b) b
judged_so types effects kept q b vs tracks n cs tracks_is first_is cs_is vs_is =
    ap (λ (all : List VariableForm). judged_flow types all effects kept tracks b)
    (vs_is ∙ sym (with_tracked_is b.variables (map (tracked_variable types (variable_kind b.variables 0)) cs)))
    ∙ ap (λ (seen : Tracks). judged_flow types (with_tracked b.variables (map (tracked_variable types (variable_kind b.variables 0)) cs)) effects kept seen b) tracks_is
    ∙ ap (λ (xs : List ℕ). judged_flow types (with_tracked b.variables (map (tracked_variable types (variable_kind b.variables 0)) xs)) effects kept (tracks_behind n cs) b)
    (sym (components_behind n cs))
    ∙ ap (λ (k : ℕ). body_flow types effects kept (tracks_behind k cs) b) first_is
    ∙ ap (λ (xs : List ℕ). body_flow types effects kept (tracks_behind (length b.variables) xs) b) cs_is

-- where there is no fault, the rules are obeyed; and else the fault is told
pub obeys_if_none : (o : Outcome) → fault_in o ≡ None → judgement o ≡ Ok tt
obeys_if_none (faults s r) h = cc
obeys_if_none (goes normal raising) h = refl

pub breaks_if_some : (o : Outcome) (b : Breach) → fault_in o ≡ Some b → judgement o ≡ Err b
breaks_if_some (faults s r) b h = cc
breaks_if_some (goes normal raising) b h = cc

-- and so it is by the judgement of a body, with what it keeps
pub fault_if_kept : (o : Outcome) (ms : List FormalMode) (k : Keeping) → kept_judgement o ms ≡ Ok k → None ≡ fault_in o
fault_if_kept (faults s r) ms k h = cc
fault_if_kept (goes normal raising) ms k h = refl

pub kept_if_kept : (o : Outcome) (ms : List FormalMode) (k : Keeping) → kept_judgement o ms ≡ Ok k → k ≡ kept_by o ms
kept_if_kept (faults s r) ms k h = cc
kept_if_kept (goes normal raising) ms k h = let one : kept_from raising 0 ms ≡ k = cc in sym one

pub fault_if_broken : (o : Outcome) (ms : List FormalMode) (b : Breach) → kept_judgement o ms ≡ Err b → Some b ≡ fault_in o
fault_if_broken (faults s r) ms b h = cc
fault_if_broken (goes normal raising) ms b h = cc

pub none_if_broken : (o : Outcome) (ms : List FormalMode) (b : Breach) → kept_judgement o ms ≡ Err b → [] ≡ kept_by o ms
none_if_broken (faults s r) ms b h = refl
none_if_broken (goes normal raising) ms b h = cc

-- the end of a form, by its parts
abbrev normal_of : End → Option Holds
normal_of (Err breach) = None
normal_of (Ok end) = end.0

abbrev raising_of : End → Option Holds
raising_of (Err breach) = None
raising_of (Ok end) = raised_by end.1

-- a body that does not give back what it is to give back
pub body_owes : (n m : Noted) (vs : List VariableForm) (owed : List ℕ) (spot : Spot) (gone : Gone) (ms : List FormalMode) (o : Outcome) (normal : Option Holds) (s : Spot) (q : Rule) →
    ending n o ≡ Ok (normal, m) → ((raising : Option Holds) → ends_body owed spot (goes (left_option vs gone normal) raising) ≡ faults s q) →
    kept_judgement (ends_body owed spot (leaves_block vs gone o)) ms ≡ Err (s, q)
body_owes n m vs owed spot gone ms (faults t r) normal s q ends owes = cc
body_owes n m vs owed spot gone ms (goes first raising) normal s q ends owes =
    let same : first ≡ normal = ap normal_of ends in
    ap (λ (h : Option Holds). kept_judgement (ends_body owed spot (goes (left_option vs gone h) (left_option vs gone raising))) ms) same
    ∙ ap (λ (o : Outcome). kept_judgement o ms) (owes (left_option vs gone raising))

-- and one that breaks none
pub body_obeys : (ms : List FormalMode) (m : Noted) (vs : List VariableForm) (owed : List ℕ) (spot : Spot) (gone : Gone) (o : Outcome) (normal : Option Holds) →
    ending (noted_first ms) o ≡ Ok (normal, m) →
    ((raising : Option Holds) → ends_body owed spot (goes (left_option vs gone normal) raising) ≡ goes (left_option vs gone normal) raising) →
    kept_judgement (ends_body owed spot (leaves_block vs gone o)) ms ≡ Ok (kept_from (left_option vs gone (raised_by m)) 0 ms)
body_obeys ms m vs owed spot gone (faults t r) normal ends gives = cc
body_obeys [] m vs owed spot gone (goes first raising) normal ends gives =
    let same : first ≡ normal = ap normal_of ends in
    ap (λ (h : Option Holds). kept_judgement (ends_body owed spot (goes (left_option vs gone h) (left_option vs gone raising))) []) same
    ∙ ap (λ (o : Outcome). kept_judgement o []) (gives (left_option vs gone raising))
body_obeys (f ∷ ms) m vs owed spot gone (goes first raising) normal ends gives =
    let same : first ≡ normal = ap normal_of ends in
    let raises : raising ≡ raised_by m = ap raising_of ends in
    ap (λ (h : Option Holds). kept_judgement (ends_body owed spot (goes (left_option vs gone h) (left_option vs gone raising))) (f ∷ ms)) same
    ∙ ap (λ (o : Outcome). kept_judgement o (f ∷ ms)) (gives (left_option vs gone raising))
    ∙ ap (λ (h : Option Holds). Ok (kept_from (left_option vs gone h) 0 (f ∷ ms))) raises

pub ruleset body_steps = (fault_in_more, leftmost_of_one)

pub ruleset fault_steps = (fault_if_kept, kept_if_kept, fault_if_broken, none_if_broken)

pub ruleset program_steps = (obeys_if_none, breaks_if_some)
