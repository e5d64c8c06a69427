-- A master that is left loses its objects first, of whose types no component is, and then its collections (7.6.1, 13.11).

use Rattle.ada_program.specs.declared.program.TypeNo.{TypeNo}
use Rattle.ada_program.specs.declared.program.ComponentKind.{ComponentKind}
use Rattle.ada_program.specs.declared.program.ComponentKind.TheVariants as component
use Rattle.std.proofs.Common.{◌≡◌, ℕ, zero, suc, true, false, List, [], ◌∷◌, refl, subst}
use Rattle.std.specs.Prelude.{Option, Some, None}
use Rattle.std.specs.List.{list_all}
use Rattle.ada_program.specs.declared.program.Program.{Program}
use Rattle.ada_program.specs.declared.program.VariableKind.{VariableKind}
use Rattle.ada_program.specs.declared.program.VariableKind.TheVariants as variable
use Rattle.ada_program.specs.ProgramForm.{TypeForm, program_form}
use Rattle.ada_program.specs.WellFormed.{IsWellFormed, type_fits, is_access, access_of, kind_among, reached_components}
use Rattle.ada_meaning.specs.State.{Owned, declared, collection, record_object, storage_pool, Item, Master}
use Rattle.ada_meaning.specs.Named.{State}
use Rattle.ada_meaning.specs.Law.{items_of}
use Rattle.ada_scopes.specs.Scopes.{is_declared_object}
use Rattle.ada_scopes.proofs.Homes.{OwnedFits, ItemsFit}
use Rattle.ada_scopes.proofs.Components.{items_fit}
use Rattle.ada_scopes.proofs.Runs.{Scoped}
use Rattle.ada_sound.proofs.FrugalFrees.{component_access}
use Rattle.ada_sound.proofs.Invariant.{innermost}
use Rattle.ada_sound.proofs.Items.{Houses}
use Rattle.ada_sound.proofs.Leavings.{NamesNoObject, GoesWell}
use Rattle.ada_sound.proofs.Stored.{AllOut}

-- No component is a record.
no_record : (components : Option (List ComponentKind)) (c : ℕ) (t : TypeNo) → kind_among components c ≡ Some (variable.Record t) → ⊥
no_record None c t is = cc is
no_record (Some []) c t is = cc is
no_record (Some (component.Integer initial ∷ ks)) zero t is = cc is
no_record (Some (component.Boolean initial ∷ ks)) zero t is = cc is
no_record (Some (component.Access access ∷ ks)) zero t is = cc is
no_record (Some (k ∷ ks)) (suc c) t is = no_record (Some ks) c t is

-- What a component is to name is of an access type.
pub component_is_access : (types : List TypeForm) → list_all (type_fits types) types ≡ true → (holder c access : ℕ) → access_of (kind_among (reached_components types holder) c) ≡ Some access → is_access types access ≡ true
component_is_access types fit holder c access is = by (kind_among (reached_components types holder) c) refl is
  where
    by : (kind : Option VariableKind) → kind_among (reached_components types holder) c ≡ kind → access_of kind ≡ Some access → is_access types access ≡ true
    by None at is' = absurd (cc is')
    by (Some variable.Integer) at is' = absurd (cc is')
    by (Some variable.Boolean) at is' = absurd (cc is')
    by (Some (variable.Record t)) at is' = absurd (no_record (reached_components types holder) c t at)
    by (Some (variable.Access own)) at is' = let same : own.0 ≡ access = cc is' in rw same at (component_access types fit holder c own at)

-- No component is of the type of a declared object.
names_no_object : (program : Program) → IsWellFormed (program_form program) → (s : State) → Scoped (program_form program) s → (m : ℕ) (i : Item) (is : List Item) (ms : List Master) → s.masters ≡ record { number = m; items = i ∷ is } ∷ ms → (owned : Owned) → i.owned ≡ owned → NamesNoObject (program_form program).types i
names_no_object program well s nested m i is ms masters (declared x) own alone access pool houses v c named = let none : Houses (declared x) access pool = rw own at houses in none
names_no_object program well s nested m i is ms masters (collection t own_pool) own alone access pool houses v c named = let never : is_declared_object (collection t own_pool) ≡ true = rw own at alone in cc never
names_no_object program well s nested m i is ms masters (record_object t) own alone access pool houses v c named =
    let own_type : t ≡ access = (let h : Houses (record_object t) access pool = rw own at houses in h.0) in
    let fits : OwnedFits (program_form program).types i.owned = (let all = items_fit (program_form program) s nested in (subst (λ (ms' : List Master). ItemsFit (program_form program).types (items_of ms')) masters all).0) in
    let none : is_access (program_form program).types t ≡ false = rw own at fits in
    let one = component_is_access (program_form program).types well.types_fit v c access named in
    cc (one, none, own_type)
names_no_object program well s nested m i is ms masters (storage_pool declaration number) own alone access pool houses v c named = let none : Houses (storage_pool declaration number) access pool = rw own at houses in none

-- So the newest item of the innermost master goes well, where the words of all that is there are out.
pub goes_well : (program : Program) → IsWellFormed (program_form program) → (s : State) → Scoped (program_form program) s → AllOut s.heap → (types : List TypeForm) → types ≡ (program_form program).types → (ms : List Master) → s.masters ≡ ms → GoesWell types s.heap (innermost ms)
goes_well program well s nested out types same [] masters = tt
goes_well program well s nested out types same (m ∷ ms) masters = by m.items masters
  where
    by : (items : List Item) → s.masters ≡ record { number = m.number; items = items } ∷ ms → GoesWell types s.heap items
    by [] at = tt
    by (i ∷ is) at = (rw same (names_no_object program well s nested m.number i is ms at i.owned refl), λ collected. out)
