-- Controlled parts of a record (7.6): one in which a record with some lies has some, too, and a record type that has some says that there is at least one.

use Rattle.std.proofs.Common.{◌≡◌, ℕ, ◌<◌, ◌&&◌, true, List, ap}
use Rattle.std.specs.Prelude.{Option, Some, None, is_some, nat_lt}
use Rattle.std.specs.List.{list_all, slice_get}
use Rattle.std.proofs.lemmas.Bool.{ltb-true}
use Rattle.ada_deeds.proofs.Naming.{all_at}
use Rattle.ada_program.specs.declared.program.Finalization.{Finalization}
use Rattle.ada_program.specs.ProgramForm.{TypeForm, record_of, access_to, object_of}
use Rattle.ada_program.specs.Walks.{Walks, ends, into}
use Rattle.ada_program.specs.WellFormed.{count_said, finalization_in, finalization_of, is_numbered_alone, is_of_earlier, kind_fits, parent_first, parts_in_order, says_parts, type_fits}
use Rattle.ada_typed.proofs.Operators.{and_left, and_right}

-- A record in which one with controlled parts lies has some, too.
pub walked_parts : (types : List TypeForm) (t first part u : ℕ) → Walks types t first part u → is_some (finalization_of types u) ≡ true → is_some (finalization_of types t) ≡ true
walked_parts types t _ _ _ ends h = h
walked_parts types t _ _ u (into i first part _ m name ps components f q v at there is known walks) h = ap (λ (o : Option TypeForm). is_some (finalization_in o)) at

-- A record type with a number has controlled parts, at least one.
pub some_parts : (types : List TypeForm) → list_all (type_fits types) types ≡ true → (t : ℕ) (o : Option TypeForm) (f : Finalization) → slice_get types t ≡ o → finalization_in o ≡ Some f → 0 < count_said (finalization_in o)
some_parts types fit t None f at is = absurd (cc is)
some_parts types fit t (Some (record_of name ps components None)) f at is = absurd (cc is)
some_parts types fit t (Some (record_of name ps components (Some g))) f at is =
    let counted = nat_lt 0 g.parts in
    let ordered = parts_in_order types g.parts 0 ps in
    let earlier = list_all (λ q. is_of_earlier types g.number.0 q.kind) ps in
    let before = list_all (kind_fits types) components && parent_first ps in
    let said = says_parts types (Some g) ps in
    let fits = all_at (type_fits types) types t (record_of name ps components (Some g)) fit at in
    let says = and_right before said (and_left (before && said) (is_numbered_alone types (Some g)) fits) in
    ltb-true 0 g.parts (and_left counted ordered (and_left (counted && ordered) earlier says))
some_parts types fit t (Some (access_to name designated pool)) f at is = absurd (cc is)
some_parts types fit t (Some (object_of record_type)) f at is = absurd (cc is)
