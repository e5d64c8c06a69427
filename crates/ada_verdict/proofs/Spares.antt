-- An accepted program uses, where an object ends, none of the same access type, and frees none where one is adjusted; and it lets no exception out there.
use Rattle.std.proofs.Common.{◌≡◌, ℕ, ◌+◌, suc, Bool, true, false, not, ◌&&◌, List, [], ◌∷◌, refl, ap, ◌∙◌, arith}
use Rattle.std.specs.List.{slice_get}
use Rattle.std.specs.Prelude.{Option, Some, None, is_some}
use Rattle.ada_deeds.specs.Implicit.{implicit_of}
use Rattle.ada_effects.specs.Effects.{Implicit}
use Rattle.ada_operations.specs.Laws.{EndsSpareTheirOwn}
use Rattle.ada_operations.specs.Operations.{IsFirstFault, PropagatesNothing}
use Rattle.ada_program.specs.ProgramForm.{TypeForm, record_of, access_to, object_of, ProgramForm}
use Rattle.ada_program.specs.WellFormed.{is_access, designated_in}
use Rattle.ada_sound.specs.Always.{LetsNothingOut, spares_own_type, spare_own_types}

-- An object of the access type of a number spares that type, where it ends, and where it is adjusted.
abbrev Spares : Implicit → ℕ → Type 0
Spares implicit t = (implicit.end_reaches t t ≡ false) × (implicit.adjust_frees t t ≡ false)

type_spares : (implicit : Implicit) (t : ℕ) (form : TypeForm) → (is_some (designated_in (Some form)) ≡ true → Spares implicit t) → spares_own_type implicit t form ≡ true
type_spares implicit t (record_of name parts components finalization) h = refl
type_spares implicit t (access_to name designated pool) h =
    let (ends, adjusts) = h refl in
    ap (λ (b : Bool). not b && not (implicit.adjust_frees t t)) ends ∙ ap not adjusts
type_spares implicit t (object_of record_type) h = refl

-- Those from a number on do.
from_on : (implicit : Implicit) (types : List TypeForm) → ((t : ℕ) → is_access types t ≡ true → Spares implicit t) → (n : ℕ) (rest : List TypeForm) →
    ((i : ℕ) → slice_get types (n + i) ≡ slice_get rest i) → spare_own_types implicit n rest ≡ true
from_on implicit types each n [] at = refl
from_on implicit types each n (form ∷ rest) at =
    let here : spares_own_type implicit n form ≡ true =
    type_spares implicit n form (λ is. each n (ap (λ (o : Option TypeForm). is_some (designated_in o)) (ap (slice_get types) (omega arith) ∙ at 0) ∙ is)) in
    let behind : spare_own_types implicit (suc n) rest ≡ true =
    from_on implicit types each (suc n) rest (λ i. ap (slice_get types) (omega arith) ∙ at (suc i)) in
    ap (λ (b : Bool). b && spare_own_types implicit (suc n) rest) here ∙ behind

-- All types do, where no body breaks a rule on operations.
pub all_spare : EndsSpareTheirOwn → (p : ProgramForm) → IsFirstFault p None → spare_own_types (implicit_of p) 0 p.types ≡ true
all_spare law p none = from_on (implicit_of p) p.types (law p none) 0 p.types (λ i. ap (slice_get p.types) (omega arith))

-- Where no exception comes out of any Adjust or Finalize, none comes out of one that may be called.
pub none_called : (p : ProgramForm) → PropagatesNothing p → LetsNothingOut p
none_called p none = record { finalizes = λ made. none.finalizes; adjusts = λ copies. none.adjusts }
