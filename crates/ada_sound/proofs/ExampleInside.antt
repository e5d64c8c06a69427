-- Three nodes go with their collection, and Finalize of one does nothing: where its statement begins, another one's component names the node that is gone.

use Rattle.std.proofs.Common.{◌≡◌, ℕ, List, [], ◌∷◌, ◌++◌, refl, sym, ap, ◌∙◌, subst, ◌⊎◌, inl, inr, arith}
use Rattle.std.specs.Prelude.{Bool, true, false, ◌||◌, if◌then◌else◌, Option, Some, None}
use Rattle.std.specs.List.{slice_get}
use Rattle.ada_program.specs.declared.program.Path.{Path}
use Rattle.ada_program.specs.declared.program.Declaration.TheVariants as declaration
use Rattle.ada_program.specs.declared.program.Right.TheVariants as right
use Rattle.ada_program.specs.declared.program.Stmt as stmt
use Rattle.ada_program.specs.declared.program.Program.{Program}
use Rattle.ada_program.specs.Controlled.{operations_of}
use Rattle.ada_program.specs.Form.{stmt_forms, no_handlers, statement_rules}
use Rattle.ada_program.specs.ProgramForm.{BodyForm, body_forms, program_form}
use Rattle.ada_flow.specs.Flow.{uses_in}
use Rattle.ada_meaning.specs.declared.state.Id.{Id}
use Rattle.ada_meaning.specs.declared.state.Stage.{Stage}
use Rattle.ada_meaning.specs.declared.state.Stage.TheVariants.{Building, Existing, Gone}
use Rattle.ada_meaning.specs.declared.state.Value.{Value}
use Rattle.ada_meaning.specs.declared.state.Value.TheVariants.{Names}
use Rattle.ada_meaning.specs.Named.{Object, State, object_at, next}
use Rattle.ada_meaning.specs.Run.{Choice, grants, takes}
use Rattle.ada_meaning.specs.Frame.{Frame}
use Rattle.ada_meaning.proofs.Beginnings.{statements_begin}
use Rattle.ada_finalized.specs.Law.{waits_for_operation, NoOperationRuns}
use Rattle.ada_quiet.specs.Apart.{is_tracker}
use Rattle.ada_quiet.specs.Quiet.{is_plain_body}
use Rattle.ada_sound.specs.Agreement.{RunsPlainly, RunsTracking, running_procedure}
use Rattle.ada_sound.specs.Always.{IsChecked, InSomeRun, AgreesThere}
use Rattle.ada_sound.specs.OperationExamples.{node_operations, silent_finalize, three_nodes, DisagreesInside}
use Rattle.ada_sound.proofs.Choices.{accepted_in, run_in, last}
use Rattle.ada_sound.proofs.Example.{steps, vec, link}
use Rattle.ada_sound.proofs.ExampleOwners.{path, whole, part as component}
use Rattle.ada_sound.proofs.ExampleOperations.{node_types, operation}
use Rattle.ada_owners.specs.Places.{is_there}

-- Where the body of a program's procedure of this number runs, which is not plain and tracks nothing, none of these kinds does.
pub runs_neither :
    (program : Program) (s : State) (bodies : List BodyForm) (q : ℕ) (b : BodyForm) → body_forms program ≡ bodies → slice_get bodies q ≡ Some b
    → running_procedure s ≡ Some q → is_plain_body (program_form program).types b ≡ false → is_tracker (program_form program) q ≡ false
    → RunsPlainly program s ⊎ RunsTracking program s → ⊥
runs_neither program s bodies q b has at first not_plain tracks_nothing (inl (number, c, runs, there, plain)) =
    let known : Some q ≡ Some number = sym first ∙ runs in
    let same : q ≡ number = cc known in
    let here : Some b ≡ Some c =
    sym at ∙ (sym (ap (λ (all : List BodyForm). slice_get all q) has) ∙ subst (λ (n : ℕ). slice_get (body_forms program) n ≡ Some c) (sym same) there) in
    let is : b ≡ c = cc here in
    let never : is_plain_body (program_form program).types b ≡ true = subst (λ (d : BodyForm). is_plain_body (program_form program).types d ≡ true) (sym is) plain in
    cc (not_plain, never)
runs_neither program s bodies q b has at first not_plain tracks_nothing (inr (number, runs, tracks)) =
    let known : Some q ≡ Some number = sym first ∙ runs in
    let same : q ≡ number = cc known in
    let never : is_tracker (program_form program) q ≡ true = subst (λ (n : ℕ). is_tracker (program_form program) n ≡ true) (sym same) tracks in
    cc (tracks_nothing, never)

-- What a component of an object that is in its collection holds; and whether an object is gone.
abbrev holds_there : Option Object → (c : ℕ) → Option Value
holds_there None c = None
holds_there (Some x) c = if is_there x.stage then slice_get x.cell.values c else None

abbrev is_gone_by : Stage → Bool
is_gone_by Building = false
is_gone_by Existing = false
is_gone_by Gone = true

abbrev is_gone : Option Object → Bool
is_gone None = true
is_gone (Some x) = is_gone_by x.stage

-- Flow is not agreed with where a component names what is gone.
module _ (program : Program) (s : State) (o p : Id) (c : ℕ) where
  there_holds : (x : Object) (there : Bool) → is_there x.stage ≡ there → (if there then slice_get x.cell.values c else None) ≡ Some (Names p) → (is_there x.stage ≡ true) × (slice_get x.cell.values c ≡ Some (Names p))
  there_holds x true is at = (is, at)
  there_holds x false is at = absurd (cc at)

  holder : (found : Option Object) → object_at s.heap o ≡ found → holds_there found c ≡ Some (Names p) → (x : Object) × (object_at s.heap o ≡ Some x) × (is_there x.stage ≡ true) × (slice_get x.cell.values c ≡ Some (Names p))
  holder None at holds = absurd (cc holds)
  holder (Some x) at holds = let h = there_holds x (is_there x.stage) refl holds in (x, at, h.0, h.1)

  pub names_gone : holds_there (object_at s.heap o) c ≡ Some (Names p) → is_gone (object_at s.heap p) ≡ true → AgreesThere program s → ⊥
  names_gone holds gone there =
      let h = holder (object_at s.heap o) refl holds in
      let exists = (there.5).components o h.0 c (Names p) h.1 h.2 h.3 in
      let ended : is_gone (Some exists.0) ≡ true = rw (exists.1) at gone in
      let still : is_gone_by Existing ≡ true = rw (exists.2) at ended in
      cc still

-- An operation runs.
abbrev pub some_waits : List (Frame Value) → Bool
some_waits [] = false
some_waits (f ∷ k) = waits_for_operation f || some_waits k

pub operates_here : (k : List (Frame Value)) → some_waits k ≡ true → NoOperationRuns k → ⊥
operates_here [] some none = cc some
operates_here (f ∷ k) some none = by (waits_for_operation f) refl (λ later. operates_here k later none.1)
  where
    by : (waits : Bool) → waits_for_operation f ≡ waits → (some_waits k ≡ true → ⊥) → ⊥
    by true is behind = cc (is, none.0)
    by false is behind = behind (rw is at some)

-- Head.Next.Next
abbrev behind_next : Path
behind_next = path 0 (record { 0 = 1 } ∷ record { 0 = 1 } ∷ []) (omega arith)

-- Head := new Node; Head.Next := new Node; Head.Next.Next := new Node; where Finalize does nothing
abbrev pub silent : Program
silent = record {
  types = vec node_types (omega arith);
  pools = vec [] (omega arith);
  procedures = vec (operation 2 (stmt.Null ∷ []) (omega arith) [] (omega arith) ∷ []) (omega arith);
  variables = vec (link ∷ []) (omega arith);
  texts = vec [] (omega arith);
  exceptions = vec [] (omega arith);
  declarations = vec (declaration.Collection (record { 0 = 1 }) ∷ declaration.Variable (record { 0 = 0 }) None ∷ []) (omega arith);
  statements = vec
      (stmt.Assign (whole 0) (right.Default (record { 0 = 1 })) ∷ stmt.Assign (component 0 1) (right.Default (record { 0 = 1 }))
      ∷ stmt.Assign behind_next (right.Default (record { 0 = 1 })) ∷ []) (omega arith);
  handlers = vec [] (omega arith);
}

pub silent_operations : operations_of silent.types.items 0 ≡ node_operations
silent_operations = refl

pub silent_bodies : body_forms silent ≡ silent_finalize ∷ []
silent_bodies = simp statement_rules

pub silent_form : stmt_forms silent ≡ three_nodes
silent_form = simp statement_rules

pub silent_accepted : IsChecked silent
unfolding uses_in
silent_accepted = accepted_in silent (silent_finalize ∷ []) three_nodes no_handlers silent_bodies silent_form refl _ _ refl refl refl

-- The nodes are granted. At the leaving the third one is picked first, and then the first one, whose Finalize begins.
abbrev choices : List Choice
choices =
    steps 7 ++ grants true ∷ steps 5 ++ grants true ∷ steps 5 ++ grants true ∷ steps 6 ++ takes 0 ∷ steps 11 ++ takes 1 ∷ steps 2

abbrev inside : State
inside = last silent [] (silent_finalize ∷ []) three_nodes no_handlers choices

pub disagrees : InSomeRun silent (λ events s. DisagreesInside silent s)
unfolding next
disagrees = run_in silent (silent_finalize ∷ []) three_nodes no_handlers silent_bodies silent_form refl [] choices (λ events s. DisagreesInside silent s) refl (
  (statements_begin inside).0 refl,
  operates_here inside.control refl,
  (0, silent_finalize, refl, ap (λ (bodies : List BodyForm). slice_get bodies 0) silent_bodies, refl),
  names_gone silent inside (record { 0 = 1 }) (record { 0 = 2 }) 1 refl refl,
)
