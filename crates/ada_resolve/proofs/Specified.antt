-- Specifications of operations, as the code keeps them by their types; types that are overridden; and types that are frozen.

use Rattle.std.proofs.Common.{◌≡◌, ◌∙◌, ◌<◌, ◌≤◌, ◌+◌, ℕ, zero, suc, List, [], ◌∷◌, map, drop, length, get_or, refl, sym, ap, arith, nat_eq, Option, Some}
use Rattle.std.specs.Map.{lookup}
use Rattle.std.specs.Prelude.{if◌then◌else◌, Bool, true, false, option_map, slice_get, slice_set}
use Rattle.std.proofs.lemmas.List.{drop_all}
use Rattle.std.proofs.lemmas.Option.{slice_get_past, slice_get_read}
use Rattle.indexmap.specs.IndexMap.{insert_entry}
use Rattle.ada_program.specs.ProgramForm.{TypeForm}
use Rattle.ada_program.specs.declared.program.PartKind.{PartKind}
use Rattle.ada_program.specs.declared.program.ProcedureNo.{ProcedureNo}
use Rattle.ada_resolve.specs.declared.components.KnownComponent.{KnownComponent}
use Rattle.ada_resolve.specs.declared.components.KnownType.{KnownType}
use Rattle.ada_resolve.specs.declared.primitives.Operation.{Operation}
use Rattle.ada_resolve.specs.Instances.{is_among, kinds_declared, with_kinds_frozen, with_number, with_record_frozen}
use Rattle.ada_resolve.specs.Kept.{kind_of_known, known_type_form}
use Rattle.ada_resolve.specs.Primitives.{formal_specified, overridden, overridden_by, specified_with, type_overridden}
use Rattle.ada_resolve.specs.View.{specified_of, text_of}
use Rattle.ada_resolve.proofs.Names.{map_get, map_set}
use denote.Ref.{Bor}

-- the name of a formal is what the map has for its type
pub formal_map : (t : ℕ) (entries : List (ℕ × Bor (List ℕ))) → formal_specified t (map specified_of entries) ≡ text_of (lookup (nat_eq t) entries)
formal_map t [] = refl
formal_map t (e ∷ es) =
    elim (nat_eq t e.0) as (λ b. (if b then Some e.1.now else formal_specified t (map specified_of es)) ≡ text_of (if b then Some e.1 else lookup (nat_eq t) es))
    [ true ↦ refl | false ↦ formal_map t es ]

-- a specification that is added is inserted
pub specified_map : (t : ℕ) (formal : Bor (List ℕ)) (entries : List (ℕ × Bor (List ℕ))) → specified_with t formal.now (map specified_of entries) ≡ map specified_of (insert_entry nat_eq entries t formal)
specified_map t formal [] = refl
specified_map t formal (e ∷ es) =
    elim (nat_eq t e.0) as (λ b. (if b then record { record_type = e.0; formal = formal.now } ∷ map specified_of es else specified_of e ∷ specified_with t formal.now (map specified_of es)) ≡ map specified_of (if b then (e.0, formal) ∷ es else e ∷ insert_entry nat_eq es t formal))
    [ true ↦ refl | false ↦ ap (λ ss. specified_of e ∷ ss) (specified_map t formal es) ]

-- a type that is overridden in its place
pub override_there : (types : List KnownType) (n : ℕ) (operation : Operation) (procedure : ProcedureNo) (before after : KnownType) → n < length types → before ≡ get_or types n before → known_type_form after ≡ type_overridden operation procedure (known_type_form before) → map known_type_form (slice_set types n after) ≡ overridden operation procedure (map known_type_form types) n
unfolding overridden
override_there types n operation procedure before after inside at same =
    map_set known_type_form types n after ∙
    (ap (λ (form : TypeForm). slice_set (map known_type_form types) n form) same ∙
    ap (λ (o : Option TypeForm). overridden_by o operation procedure (map known_type_form types) n) (sym (map_get known_type_form types n ∙
    ap (λ (o : Option KnownType). option_map known_type_form o) (slice_get_read types (length types) n before refl inside at))))

-- no type is overridden beyond the end
pub override_past : (types : List KnownType) (n : ℕ) (operation : Operation) (procedure : ProcedureNo) → length types ≤ n → overridden operation procedure (map known_type_form types) n ≡ map known_type_form types
unfolding overridden
override_past types n operation procedure past =
    ap (λ (o : Option TypeForm). overridden_by o operation procedure (map known_type_form types) n) (map_get known_type_form types n ∙
    ap (λ (o : Option KnownType). option_map known_type_form o) (slice_get_past types n past))

-- what is frozen with a record type
pub frozen_next : (types : List TypeForm) (levels n t : ℕ) (frozen : List ℕ) → levels ≡ n + 1 → is_among t frozen ≡ false → with_record_frozen types levels t frozen ≡ with_kinds_frozen (with_record_frozen types n) (kinds_declared (slice_get types t)) (with_number frozen t)
unfolding with_record_frozen
frozen_next types levels n t frozen more new =
    let next : levels ≡ suc n = more ∙ omega arith in
    ap (λ (m : ℕ). with_record_frozen types m t frozen) next ∙
    ap (λ (b : Bool). if b then frozen else with_kinds_frozen (with_record_frozen types n) (kinds_declared (slice_get types t)) (with_number frozen t)) new

-- nothing more is frozen where no level is left, or where the type is frozen already
pub frozen_last : (types : List TypeForm) (levels t : ℕ) (frozen : List ℕ) → levels ≡ 0 → with_record_frozen types levels t frozen ≡ frozen
unfolding with_record_frozen
frozen_last types levels t frozen none = ap (λ (m : ℕ). with_record_frozen types m t frozen) none

pub frozen_before : (types : List TypeForm) (levels t : ℕ) (frozen : List ℕ) → is_among t frozen ≡ true → with_record_frozen types levels t frozen ≡ frozen
unfolding with_record_frozen
frozen_before types zero t frozen old = refl
frozen_before types (suc n) t frozen old =
    ap (λ (b : Bool). if b then frozen else with_kinds_frozen (with_record_frozen types n) (kinds_declared (slice_get types t)) (with_number frozen t)) old

-- what is frozen once no component is left
pub frozen_whole : (types : List TypeForm) (levels n t : ℕ) (frozen last : List ℕ) (cs : List KnownComponent) (i : ℕ) → levels ≡ n + 1 → is_among t frozen ≡ false → map kind_of_known cs ≡ kinds_declared (slice_get types t) → with_kinds_frozen (with_record_frozen types n) (map kind_of_known (drop i cs)) last ≡ with_kinds_frozen (with_record_frozen types n) (map kind_of_known cs) (with_number frozen t) → length cs ≤ i → last ≡ with_record_frozen types levels t frozen
frozen_whole types levels n t frozen last cs i more new kinds done end =
    ap (λ (ds : List KnownComponent). with_kinds_frozen (with_record_frozen types n) (map kind_of_known ds) last) (sym (drop_all i cs end)) ∙
    (done ∙ (ap (λ (ks : List PartKind). with_kinds_frozen (with_record_frozen types n) ks (with_number frozen t)) kinds ∙
    sym (frozen_next types levels n t frozen more new)))
