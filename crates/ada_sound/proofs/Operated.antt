-- A treatment's next task speaks of a record that is controlled itself and lies in objects of the type of the one that is treated (7.6).

use Rattle.std.proofs.Common.{◌≡◌, ℕ, List, [], ◌∷◌, sym, ◌∙◌}
use Rattle.ada_parts.specs.declared.tasks.Next.TheVariants.{Perform}
use Rattle.ada_parts.specs.Task.{Task, treats, performs, next as task_next}
use Rattle.ada_program.specs.ProgramForm.{TypeForm, ProgramForm}
use Rattle.ada_meaning.specs.declared.state.Id.{Id}
use Rattle.ada_meaning.specs.declared.state.Mode.TheVariants.{Running}
use Rattle.ada_meaning.specs.declared.state.Value.{Value}
use Rattle.ada_meaning.specs.declared.state.Value.TheVariants.{Names}
use Rattle.ada_meaning.specs.Frame.{Frame, Treatment, Treats}
use Rattle.ada_meaning.specs.Named.{State}
use Rattle.ada_typed.specs.Holding.{Cells, Designates, cells_of}
use Rattle.ada_typed.proofs.Control as typed
use Rattle.ada_typed.proofs.Lying.{IsOperable}
use Rattle.ada_sound.proofs.Calm.{operation_ends_there}
use Rattle.ada_sound.proofs.Invariant.{Control, IsOfAssigned}

-- A record of this number lies in objects of the type of this one.
abbrev pub OperatedOn : List TypeForm → Cells → (o : Id) → (of : ℕ) → Type 0
OperatedOn types cells o of = (access : ℕ) × (part : ℕ) × Designates cells access o × IsOperable types access of part

-- It is the operation of one by this treatment of what a value names, behind which this stands: at an assignment, of one that lies in the record that is assigned to.
abbrev pub OperatedAs : List TypeForm → (v : Value) → Treatment → Cells → (behind : Control) → (by : Treatment) → (o : Id) → (of : ℕ) → Type 0
OperatedAs types v treatment cells k by o of = (by ≡ treatment) × OperatedOn types cells o of × IsOfAssigned types treatment (performs of 0 ∷ []) k × (v ≡ Names o)

operated_on : (types : List TypeForm) (cells : Cells) (o : Id) (treatment : Treatment) (tasks : List Task) → typed.IsTreated types cells (Names o) treatment tasks → (of part : ℕ) → task_next tasks ≡ Perform of part → OperatedOn types cells o of
operated_on types cells o treatment [] t of part is = absurd (cc is)
operated_on types cells o treatment (treats cs ∷ behind) t of part is = absurd (cc is)
operated_on types cells o treatment (performs g number ∷ behind) t of part is =
    let same : g ≡ of = cc is in
    (t.0, number, t.1, rw (← same) (t.2.1.0))

-- What typing says of a treatment.
is_treated : (p : ProgramForm) (s : State) (v : Value) (treatment : Treatment) (tasks : List Task) (k : List (Frame Value)) → s.mode ≡ Running → s.control ≡ Treats v treatment tasks ∷ k → typed.TypedIn p s → typed.IsTreated p.types (cells_of s.heap) v treatment tasks
is_treated p s v treatment tasks k runs is (typed.running kinds ready fits) = let f = rw is at fits in f.0
is_treated p s v treatment tasks k runs is (typed.operated kinds ready ended) = let there = operation_ends_there p (cells_of s.heap) kinds s.control ended in absurd (cc (rw is at there))
is_treated p s v treatment tasks k runs is (typed.out_of_operation e kinds jumps ended) = let there = operation_ends_there p (cells_of s.heap) kinds s.control ended in absurd (cc (rw is at there))
is_treated p s v treatment tasks k runs is (typed.on_jump mode jumps goes) =
    let same : mode ≡ Running = sym jumps.jumps ∙ runs in
    let nowhere : typed.Goes p (cells_of s.heap) Running s.control = rw same at goes in
    absurd nowhere

pub operated_by : (p : ProgramForm) (s : State) (v : Value) (treatment : Treatment) (tasks : List Task) (k : List (Frame Value)) → s.mode ≡ Running → s.control ≡ Treats v treatment tasks ∷ k → typed.TypedIn p s → (of part : ℕ) → task_next tasks ≡ Perform of part → (o : Id) → v ≡ Names o → OperatedOn p.types (cells_of s.heap) o of
operated_by p s v treatment tasks k runs is typing of part next o named = operated_on p.types (cells_of s.heap) o treatment tasks (rw named at (is_treated p s v treatment tasks k runs is typing)) of part next
