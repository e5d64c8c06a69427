-- Where the types of a part have ended: its collections nest in those around it, and its statements stand where all of these are open.

use Rattle.std.proofs.Common.{◌≡◌, ◌∙◌, ℕ, ◌+◌, ◌<◌, ◌≤◌, Bool, true, false, cond, List, [], ◌∷◌, ◌++◌, length, refl, sym, arith}
use Rattle.std.specs.Prelude.{Option, Some, None, ◌||◌, not, nat_le, is_some}
use Rattle.std.specs.List.{list_all, slice_get}
use Rattle.std.proofs.lemmas.Bool.{leb-true, leb-false}
use Rattle.ada_program.specs.declared.program.ComponentKind.{ComponentKind}
use Rattle.ada_program.specs.declared.program.ComponentKind.TheVariants as component
use Rattle.ada_program.specs.Nested.{collected, record_objects, is_one_of, kind_is_open, are_open, collection_nests, record_nests, part_nests}
use Rattle.ada_program.specs.declared.program.Finalization.{Finalization}
use Rattle.ada_program.specs.ProgramForm.{PartForm, TypeForm, record_of, access_to, object_of}
use Rattle.ada_program.specs.WellFormed as fits
use Rattle.ada_resolve.specs.declared.scope.Entity.{Entity}
use Rattle.ada_resolve.specs.declared.scope.Entity.TheVariants as entity
use Rattle.ada_resolve.specs.Instances.{is_collected}
use Rattle.ada_resolve.specs.Known.{Known, named}
use Rattle.ada_resolve.proofs.Nesting.Callees.{IsAway, Wider}
use Rattle.ada_resolve.proofs.Nesting.Open.{RecordOpen, EntityOpen, OpenAt, KindLies, ComponentsLie, IsOwnType, OpenAround, all_of, collected_is, one_of_both, one_of_first, one_of_second, record_opener, parts_opener}
use Rattle.ada_resolve.proofs.Standing.{Sound, Complete}
use Rattle.ada_resolve.proofs.WellFormed.Counts.{count, count_known}
use Rattle.ada_resolve.proofs.WellFormed.Created.{accesses, collect_later, due}
use Rattle.ada_resolve.proofs.WellFormed.Elaborated.{Late, ended_here}
use Rattle.ada_resolve.proofs.WellFormed.Forms.{AreIn, forms, access_stays, object_stays, record_stays}
use Rattle.ada_resolve.proofs.WellFormed.Names.{EntityFits}
use Rattle.ada_resolve.proofs.WellFormed.Tables.{both_parts, first_part, second_part, all_get, get_within, plain_of}

-- a part creates the collections of its own access types, and of no others
due_most : (c d : Bool) → cond c (cond d 1 0) 0 ≤ 1
due_most true true = omega arith
due_most true false = omega arith
due_most false d = omega arith

one_is_due : (b c d : Bool) → cond {A = ℕ} b 1 0 ≡ cond c (cond d 1 0) 0 → b ≡ true → (c ≡ true) × (d ≡ true)
one_is_due true true true e on = (refl, refl)
one_is_due true true false e on = absurd (cc e)
one_is_due true false d e on = absurd (cc e)
one_is_due false c d e on = absurd (cc on)

due_is_one : (b c d : Bool) → cond {A = ℕ} b 1 0 ≡ cond c (cond d 1 0) 0 → c ≡ true → d ≡ true → b ≡ true
due_is_one true c d e f g = refl
due_is_one false true true e f g = absurd (cc e)
due_is_one false true false e f g = absurd (cc g)
due_is_one false false d e f g = absurd (cc f)

-- no body that has ended creates a collection of an access type of the part, or of one behind it
abbrev pub IsFresh : Known → Type 0
IsFresh m = (a : ℕ) → m.here.first_type ≤ a → IsAway m.bodies a

one_each : (m : Known) → Late m → IsFresh m → (a : ℕ) → cond {A = ℕ} (is_collected a m.here.elaborated) 1 0 ≡ due m.here.first_type m.types a
one_each m l f a = sym (count_known a m.here.elaborated most) ∙ own (nat_le m.here.first_type a) refl (l.one_each a)
  where
    most : count a m.here.elaborated ≤ 1
    most =
        let due_is = l.one_each a in
        let at_most = due_most (nat_le m.here.first_type a) (fits.is_access m.types a) in
        omega (arith, due_is, at_most)

    own : (b : Bool) → nat_le m.here.first_type a ≡ b → count a m.here.elaborated + ended_here m a ≡ cond b (accesses m.types a) 0 → count a m.here.elaborated ≡ cond b (accesses m.types a) 0
    own true behind e =
        let none = f a (leb-true m.here.first_type a behind) in
        let later = collect_later m.bodies m.here.first_body a in
        omega (arith, e, none, later)
    own false before e = omega (arith, e)

own_collected : (m : Known) → Late m → IsFresh m → (a : ℕ) → is_one_of (collected m.here.elaborated) a ≡ true → (m.here.first_type ≤ a) × (fits.is_access m.types a ≡ true)
own_collected m l f a e =
    let is = one_is_due (is_collected a m.here.elaborated) (nat_le m.here.first_type a) (fits.is_access m.types a) (one_each m l f a)
    (sym (collected_is m.here.elaborated a) ∙ e) in
    (leb-true m.here.first_type a is.0, is.1)

collected_own : (m : Known) → Late m → IsFresh m → (a : ℕ) → nat_le m.here.first_type a ≡ true → fits.is_access m.types a ≡ true → is_one_of (collected m.here.elaborated) a ≡ true
collected_own m l f a e g =
    collected_is m.here.elaborated a ∙
    due_is_one (is_collected a m.here.elaborated) (nat_le m.here.first_type a) (fits.is_access m.types a) (one_each m l f a) e g

-- an access type is there
access_there : (types : List TypeForm) (a : ℕ) → fits.is_access types a ≡ true → (name : List ℕ) × (d : ℕ) × (pool : Option ℕ) × (slice_get types a ≡ Some (access_to name d pool))
access_there types a e = by_form (slice_get types a) refl e
  where
    by_form : (o : Option TypeForm) → slice_get types a ≡ o → is_some (fits.designated_in o) ≡ true → (name : List ℕ) × (d : ℕ) × (pool : Option ℕ) × (slice_get types a ≡ Some (access_to name d pool))
    by_form None is e = absurd (cc e)
    by_form (Some (record_of name ps cs final)) is e = absurd (cc e)
    by_form (Some (access_to name d pool)) is e = (name, d, pool, is)
    by_form (Some (object_of r)) is e = absurd (cc e)

record_there : (types : List TypeForm) (d : ℕ) → fits.is_record types d ≡ true → (name : List ℕ) × (ps : List PartForm) × (cs : List ComponentKind) × (final : Option Finalization) × (slice_get types d ≡ Some (record_of name ps cs final))
record_there types d e = by_form (slice_get types d) refl e
  where
    by_form : (o : Option TypeForm) → slice_get types d ≡ o → is_some (fits.components_in o) ≡ true → (name : List ℕ) × (ps : List PartForm) × (cs : List ComponentKind) × (final : Option Finalization) × (slice_get types d ≡ Some (record_of name ps cs final))
    by_form None is e = absurd (cc e)
    by_form (Some (record_of name ps cs final)) is e = (name, ps, cs, final, is)
    by_form (Some (access_to name d pool)) is e = absurd (cc e)
    by_form (Some (object_of r)) is e = absurd (cc e)

module _ (around : List ℕ) (m : Known) (s : Sound m) (l : Late m) (f : IsFresh m) (w : OpenAround around m) where
  -- the collections that are open where the statements of the part stand
  abbrev there : List ℕ
  there = collected m.here.elaborated ++ around

  own_there : (a : ℕ) → (a < m.here.first_type → is_one_of around a ≡ true) → fits.is_access m.types a ≡ true → is_one_of there a ≡ true
  own_there a lies is = by_place (nat_le m.here.first_type a) refl
    where
      by_place : (b : Bool) → nat_le m.here.first_type a ≡ b → is_one_of there a ≡ true
      by_place true behind = one_of_first (collected m.here.elaborated) around a (collected_own m l f a behind is)
      by_place false before = one_of_second (collected m.here.elaborated) around a (lies (leb-false m.here.first_type a before))

  kind_there : (k : ComponentKind) → KindLies around m.here.first_type k → fits.kind_fits m.types k ≡ true → kind_is_open there k ≡ true
  kind_there (component.Integer initial) lies fit = refl
  kind_there (component.Boolean initial) lies fit = refl
  kind_there (component.Access t) lies fit = own_there t.0 lies fit

  components_there : (cs : List ComponentKind) → ComponentsLie around m.here.first_type cs → list_all (fits.kind_fits m.types) cs ≡ true → list_all (kind_is_open there) cs ≡ true
  components_there [] lies fit = refl
  components_there (c ∷ cs) lies fit =
      both_parts (kind_is_open there c) (list_all (kind_is_open there) cs)
      (kind_there c lies.0 (first_part (fits.kind_fits m.types c) (list_all (fits.kind_fits m.types) cs) fit))
      (components_there cs lies.1 (second_part (fits.kind_fits m.types c) (list_all (fits.kind_fits m.types) cs) fit))

  -- a record type of the part, or one that is open around it
  record_own : (t : ℕ) (name : List ℕ) (ps : List PartForm) (cs : List ComponentKind) (final : Option Finalization) → m.here.first_type ≤ t → slice_get m.types t ≡ Some (record_of name ps cs final) → RecordOpen there m.types t
  record_own t name ps cs final behind is =
      let form = record_of name ps cs final in
      (name, ps, cs, final, is, components_there cs (w.forms t form behind is) (plain_of m.types form (all_get (fits.type_fits m.types) m.types t form s.types_fit is)))

  record_designated : (d : ℕ) → (d < m.here.first_type → RecordOpen around m.types d) → fits.is_record m.types d ≡ true → RecordOpen there m.types d
  record_designated d lies is = by_place (nat_le m.here.first_type d) refl
    where
      by_place : (b : Bool) → nat_le m.here.first_type d ≡ b → RecordOpen there m.types d
      by_place true behind = let r = record_there m.types d is in record_own d r.0 r.1 r.2 r.3 (leb-true m.here.first_type d behind) r.4
      by_place false before = record_opener (collected m.here.elaborated) around m.types d (lies (leb-false m.here.first_type d before))

  -- the objects of a collection of the part
  not_around : (a : ℕ) → m.here.first_type ≤ a → not (is_one_of around a) ≡ true
  not_around a behind = by_test (is_one_of around a) refl
    where
      by_test : (b : Bool) → is_one_of around a ≡ b → not b ≡ true
      by_test true on = let less = w.before a on in absurd (omega (arith, less, behind))
      by_test false off = refl

  access_nests : (types : List TypeForm) → AreIn (forms m.types) (forms types) → (a : ℕ) → is_one_of (collected m.here.elaborated) a ≡ true → collection_nests types around there a ≡ true
  access_nests types g a e =
      let own = own_collected m l f a e in
      let is = access_there m.types a own.1 in
      let record_is = all_get (fits.type_fits m.types) m.types a (access_to is.0 is.1 is.2) s.types_fit is.3 in
      let r = record_designated is.1 (w.forms a (access_to is.0 is.1 is.2) own.0 is.3) record_is in
      let access_later = access_stays m.types types g a is.0 is.1 is.2 is.3 in
      let record_later = record_stays m.types types g is.1 r.0 r.1 r.2 r.3 r.4 in
      both_parts (not (is_one_of around a)) (are_open there (fits.reached_components types a)) (not_around a own.0) (rw (access_later.1, record_later.1) r.5)

  -- the record objects of the part
  object_nests : (types : List TypeForm) → AreIn (forms m.types) (forms types) → (o : ℕ) → is_one_of (record_objects m.here.elaborated) o ≡ true → record_nests types there o ≡ true
  object_nests types g o e =
      let own = w.objects o e in
      let record_is = all_get (fits.type_fits m.types) m.types o (object_of own.1) s.types_fit own.2 in
      let r = record_designated own.1 (w.forms o (object_of own.1) own.0 own.2) record_is in
      let object_later = object_stays m.types types g o own.1 own.2 in
      let record_later = record_stays m.types types g own.1 r.0 r.1 r.2 r.3 r.4 in
      rw (object_later, record_later.1) r.5

  -- the collections and the record objects of the part nest, whatever types are declared behind it
  pub own_nests : (types : List TypeForm) → AreIn (forms m.types) (forms types) → part_nests types around m.here.elaborated ≡ true
  own_nests types g =
      both_parts (list_all (collection_nests types around there) (collected m.here.elaborated)) (list_all (record_nests types there) (record_objects m.here.elaborated))
      (all_of (collection_nests types around there) (collected m.here.elaborated) (access_nests types g))
      (all_of (record_nests types there) (record_objects m.here.elaborated) (object_nests types g))

  -- what procedures create nests where the collections of the part are open, too
  pub own_wider : Wider m.bodies around (collected m.here.elaborated ++ around)
  own_wider = record {
    within = λ a e. one_of_second (collected m.here.elaborated) around a e;
    away = λ a out e. by_part a (is_one_of (collected m.here.elaborated) a) refl (is_one_of around a) out (sym (one_of_both (collected m.here.elaborated) around a) ∙ e);
  }
    where
      by_part : (a : ℕ) (b : Bool) → is_one_of (collected m.here.elaborated) a ≡ b → (c : Bool) → c ≡ false → (b || c) ≡ true → IsAway m.bodies a
      by_part a true own c out e = f a (own_collected m l f a own).0
      by_part a false own true out e = absurd (cc out)
      by_part a false own false out e = absurd (cc e)

  -- what a name of the part stands for
  entity_own : Complete m → (text : List ℕ) (e : Entity) → named text m.here.names ≡ Some e → IsOwnType m.here.first_type e → EntityFits m.types m.variables text e → EntityOpen there m.types e
  entity_own c text (entity.Incomplete t) is own fit = c text t is
  entity_own c text (entity.Record t size) is own fit = record_own t.0 text fit.0 fit.1 fit.2 own fit.3
  entity_own c text (entity.Access t) is own fit = own_there t.0 (λ less. absurd (omega (arith, less, own))) (rw fit.2 refl)
  entity_own c text e is own fit = tt

  collected_before : (a : ℕ) (b c : Bool) → is_one_of (collected m.here.elaborated) a ≡ b → is_one_of around a ≡ c → (b || c) ≡ true → a < length m.types
  collected_before a true c own out e = let is = access_there m.types a (own_collected m l f a own).1 in get_within m.types a (access_to is.0 is.1 is.2) is.3
  collected_before a false true own out e = let less = w.before a out in let first = s.bounds.first in omega (arith, less, first)
  collected_before a false false own out e = absurd (cc e)

  -- where the statements of the part stand
  pub open_behind : Complete m → OpenAt (collected m.here.elaborated ++ around) m
  open_behind c = record {
    before = λ a e. collected_before a (is_one_of (collected m.here.elaborated) a) (is_one_of around a) refl refl
        (sym (one_of_both (collected m.here.elaborated) around a) ∙ e);
    names = (
      λ text e is. entity_own c text e is (w.own text e is) (s.names.0 text e is),
      parts_opener (collected m.here.elaborated) around m.types m.outer w.outer,
    );
  }
