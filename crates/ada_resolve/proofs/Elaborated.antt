-- A declarative part is read as it is written: its types, its names and its objects.

use Rattle.std.proofs.Common.{◌≡◌, ◌∙◌, ℕ, ◌+◌, ◌<◌, ◌≤◌, Bool, true, false, cond, ◌||◌, ◌&&◌, List, [], ◌∷◌, ◌++◌, length, length-append, append_assoc, refl, sym, ap, subst, arith, eqb, eq-eqb}
use Rattle.std.specs.Prelude.{Option, Some, None, bytes_eq, codes, is_some, nat_le, nat_lt, ◌==◌, pos, negsuc}
use Rattle.std.specs.List.{slice_get, slice_set, list_all}
use Rattle.std.proofs.lemmas.List.{append-nil, length-set}
use Rattle.std.proofs.lemmas.Bool.{ne_eqb, both_ways, false_from_ne_true, leb-true, ltb-false}
use Rattle.ada_text.specs.declared.spot.Spot.{Spot}
use Rattle.ada_tree.specs.Names.{Ident, NameTree}
use Rattle.ada_tree.specs.Records.{ComponentTree, RecordTree}
use Rattle.ada_tree.specs.Declarations.{AspectTree, HeadTree, SizeTree, number_size, named_size}
use Rattle.ada_resolve.specs.Procedures.{body_head_remark}
use Rattle.ada_resolve.specs.Spots.{end_of, head_spot}
use Rattle.ada_tree.specs.Expressions.{RightTree}
use Rattle.ada_tree.specs.Statements.{DeclarationTree, exception_declaration, constant_declaration, pool_declaration, attribute_clause, incomplete_type, access_type, record_type, derived_type, specification, instance, body_declaration, SequenceTree, object_declaration, borrower_declaration, DeclarationsTree, no_declarations, a_declaration}
use Rattle.ada_program.specs.declared.program.Exception.TheVariants as exception
use Rattle.ada_program.specs.declared.program.PoolNo.{PoolNo}
use Rattle.ada_program.specs.declared.program.TypeNo.{TypeNo}
use Rattle.ada_program.specs.declared.program.VariableKind.{VariableKind}
use Rattle.ada_program.specs.declared.program.VariableKind.TheVariants as variable
use Rattle.ada_program.specs.Form.{value_of, DeclarationForm, creates_pool, collects, declares, declares_record}
use Rattle.ada_program.specs.declared.program.ComponentKind.{ComponentKind}
use Rattle.ada_program.specs.declared.program.Finalization.{Finalization as Finalized}
use Rattle.ada_program.specs.ProgramForm.{PartForm, PoolForm, TypeForm, record_of, access_to, object_of, pool_number, VariableForm}
use Rattle.ada_program.specs.WellFormed as well
use Rattle.ada_resolve.specs.declared.fault.NameRule.TheVariants.{UnknownName, NotInProfile, Layout, Limit}
use Rattle.ada_resolve.specs.declared.library.LibraryName.{LibraryName}
use Rattle.ada_resolve.specs.declared.library.LibraryName.TheVariants.{TextIo, PutLine, UncheckedDeallocation, Finalization, Controlled, LimitedControlled, Pools, FirstFitPool, OfPools, RunInput, Get, EndError, OtherUnit, Unknown}
use Rattle.ada_resolve.specs.declared.library.Withs.{Withs}
use Rattle.ada_resolve.specs.Borrowers.{borrower_remark, borrower_known}
use Rattle.ada_resolve.specs.declared.rights.Held.{Held}
use Rattle.ada_resolve.specs.declared.rights.Held.TheVariants as held
use Rattle.ada_resolve.specs.declared.scope.Entity.{Entity}
use Rattle.ada_resolve.specs.declared.scope.Entity.TheVariants as entity
use Rattle.ada_resolve.specs.Clauses as clauses
use Rattle.ada_resolve.specs.Clauses.{pool_by, pool_of, placed_if, clause_pool, clause_known, clause_type_wanted, clause_place_remark, clause_value_remark, clause_remark}
use Rattle.ada_resolve.specs.Library.{library_name, is_library_root, no_component_rule}
use Rattle.ada_resolve.specs.Pools.{aspect_found, aspect_remark, first_fit_wanted, is_size, is_storage_pool, label_remark, most_words, next_pool, no_pool_type, pool_found, pool_in, pool_known, pool_name_remark, pool_type_remark, pool_wanted, size_in, size_remark, size_value, size_wanted}
use Rattle.ada_resolve.specs.Remark.{wrong, ◌also◌}
use Rattle.ada_resolve.specs.Known.{Known, Named, Specifications, named, visible, missing, is_with, if_with, library_wrong, library_remark, declared, new_name_remark, type_begins, no_variable_yet, no_body_yet, types_go_on, next_variable, with_elaborated}
use Rattle.ada_resolve.specs.Types.{completed_type, defined, number_of, record_found, access_defined, new_unless}
use Rattle.ada_resolve.specs.Exceptions.{next_exception}
use Rattle.ada_resolve.specs.Statics.{static_value}
use Rattle.ada_program.specs.Controlled.{no_operations, operations_in}
use Rattle.ada_resolve.specs.declared.primitives.Operation.{Operation}
use Rattle.ada_resolve.specs.Derived.{derived_type_known, derived_type_remark, is_limited_parent, limited_parent, limited_with, parent_part, parent_remark, with_parent}
use Rattle.ada_resolve.specs.Primitives.{formal_name, overrider}
use Rattle.ada_resolve.specs.Records.{Composition, components_written, composed, counted, finalization_made, no_components, record_made as type_made, record_type_remark, record_type_known, with_record}
use Rattle.ada_resolve.specs.Instances.{access_type_in, freed_found, frozen_by, generic_remark, is_among, is_collected, instance_of, with_frozen}
use Rattle.ada_resolve.specs.Objects.{missing_collections, ends_types, after_types, next_record, object_remark, variable_created, record_created, created_of, object_known, held_of, object_type_found, initial_found, initial_items_in, initial_source, initial_value_in}
use Rattle.ada_resolve.specs.Resolution.{gives, At, known_at, declaration_remark, declaration_known, single_told, declaration_told, declarations_told}
use Rattle.ada_resolve.specs.Naming.{Context, Place, Meaning, an_incomplete_type, a_type, a_number, an_exception, a_pool, an_instance, a_variable, meaning_among, is_one_of, IsTypeRead, IsInstanceRead, IsNumberNamed, IsPoolNamed, IsSizeRead, IsLabelRead, IsPoolRead, IsAspectRead, IsClauseRead, IsParentRead, AreComponentsRead, AreNamedApart, AreLaidOut, IsFinalized}
use Rattle.ada_resolve.specs.Reading.{read_at, IsNew, with_binding, with_incomplete_type, with_new_type, with_new_exception, with_new_variable, with_new_record, with_new_pool, with_placed, with_limited_if, with_aspect, with_complete, with_specified, HaveBodies, AreObjectsRead, AreCompleted, IsTypeDeclared, by_completion, by_new_type, DoTypesEnd, IsPartRead}
use Rattle.ada_resolve.proofs.WellFormed.Forms.{bare, bare_final, forms, get_form, access_there, object_stays, record_there, same_final}
use Rattle.ada_resolve.proofs.WellFormed.Placed.{none_defined, none_more, placed_forms, placed_length, placed_pool, placed_there, pool_placed, some_defined}
use Rattle.ada_resolve.proofs.WellFormed.Remarks.{Quiet, quiet_if, quiet_unless}
use Rattle.ada_resolve.proofs.WellFormed.Borrowers.{lent_of, borrower_is}
use Rattle.ada_resolve.proofs.WellFormed.Names.{EntityFits, named_entered, same_text, text_same, visible_fits}
use Rattle.ada_resolve.proofs.WellFormed.Tables.{get_last, second_part}
use Rattle.ada_resolve.proofs.Standing.{Sound, Complete, Grows, Keeps, no_pool, storage_quiet, complete_grows, record_settled, visible_settled, longer, ended_sound, declarations_done, single_done, ProcedureDone, procedure_done, told_sound, told_keeps, head_is_new, body_stays, around_body, around_sound, body_ended_names, body_ended_some, declarations_keep, IsSlot, new_slot, slot_of, old_name, defined_there}
use Rattle.ada_resolve.proofs.Agreeing.{bound_to, Stands, Agrees, Ahead, EntityRead, Readable, stands_entered, agrees_same, visible_read, not_predefined}
use Rattle.ada_resolve.proofs.Keeping.{Lasts, lasts_ahead, lasts_on}
use Rattle.ada_resolve.proofs.WellFormed.Types.{by_none, by_parent}
use Rattle.ada_resolve.proofs.Written.{Legible, record_lasts, static_read, further_parts, composed_parts, components_read, all_laid, all_apart, all_finalized, finalized_alike, parent_apart, parent_read, FoundRecord, record_read, designated_read, FoundAccess, access_read, generic_read, ObjectRead, RecordRead, TypeRead, object_read, IsObjectType, object_type_is}
use Rattle.ada_resolve.proofs.Lent.{borrower_read}
use Rattle.ada_resolve.proofs.Others.{others_of}
use Rattle.ada_resolve.proofs.Operating.{Inherits, limited_now, overrider_defined, overrider_more, overrider_placed}
use Rattle.ada_resolve.proofs.Bodied.{Early, Waits, early_on, have_bodies, specified_early}
use Rattle.ada_resolve.proofs.Operands.{RecordsStay, operand_below, operation_read, specification_begins, specification_done, specified_agrees}

-- tables that are ahead of longer ones
pub ahead_on : (k m : Known) (p : Context) → Grows k m → Ahead m p → Ahead k p
ahead_on k m p g w = record {
  types = λ t x is. w.types t x (g.types t x is);
  placed = λ t n is. w.placed t n (g.placed t n is);
  pools = λ n x is. w.pools n x (g.pools n x is);
  variables = λ t x is. w.variables t x (g.variables t x is);
  exceptions = λ t x is. w.exceptions t x (g.exceptions t x is);
  texts = λ t x is. w.texts t x (g.texts t x is);
  bodies = λ t x is. w.bodies t x (g.bodies t x is);
}

-- and at another place
pub ahead_at : (k : Known) (p : Context) (place : Place) → Ahead k p → Ahead k (read_at place p)
ahead_at k p place w = record { types = w.types; placed = w.placed; pools = w.pools; variables = w.variables; exceptions = w.exceptions; texts = w.texts; bodies = w.bodies }

-- where the types end, the tables stay, and so do the names
pub after_ahead : (k : Known) (p : Context) → Ahead k p → Ahead (after_types k) p
unfolding after_types
after_ahead k p w = by_end (types_go_on k)
  where
    by_end : (b : Bool) → Ahead (ends_types b k) p
    by_end true = record { types = w.types; placed = w.placed; pools = w.pools; variables = w.variables; exceptions = w.exceptions; texts = w.texts; bodies = w.bodies }
    by_end false = w

pub ahead_before : (k : Known) (p : Context) → Ahead (after_types k) p → Ahead k p
unfolding after_types
ahead_before k p w = by_end (types_go_on k) w
  where
    by_end : (b : Bool) → Ahead (ends_types b k) p → Ahead k p
    by_end true w = record { types = w.types; placed = w.placed; pools = w.pools; variables = w.variables; exceptions = w.exceptions; texts = w.texts; bodies = w.bodies }
    by_end false w = w

pub after_agrees : (k : Known) (place : Place) → Agrees k place → Agrees (after_types k) place
unfolding after_types
after_agrees k place w = by_end (types_go_on k)
  where
    by_end : (b : Bool) → Agrees (ends_types b k) place
    by_end true = agrees_same k (ends_types true k) place refl refl refl refl refl refl refl refl refl refl refl (λ t. refl) refl refl refl (λ o t. refl) w
    by_end false = w

pub after_full : (k : Known) → types_go_on k ≡ false → after_types k ≡ k
unfolding after_types
after_full k off = ap (λ (b : Bool). ends_types b k) off

pub after_none : (k : Known) → types_go_on k ≡ true → after_types k ≡ with_elaborated (missing_collections k) k
unfolding after_types
after_none k on = ap (λ (b : Bool). ends_types b k) on

pub after_names : (k : Known) → (after_types k).here.names ≡ k.here.names
unfolding after_types
after_names k = by_end (types_go_on k)
  where
    by_end : (b : Bool) → (ends_types b k).here.names ≡ k.here.names
    by_end true = refl
    by_end false = refl

pub after_variables : (k : Known) → no_variable_yet (after_types k) ≡ no_variable_yet k
unfolding after_types
after_variables k = by_end (types_go_on k)
  where
    by_end : (b : Bool) → no_variable_yet (ends_types b k) ≡ no_variable_yet k
    by_end true = refl
    by_end false = refl

-- a name is declared, and tables grow
agrees_declared : (k : Known) (place : Place) (name : Ident) (e : Entity) (meaning : Meaning) (types : List TypeForm) (variables : List VariableForm) (exceptions : List (List ℕ)) (frozen : List ℕ) (elaborated : List DeclarationForm) (nt nv ne : ℕ) (ps : List ℕ) → bound_to e ≡ Some meaning → nt ≡ length types → nv ≡ length variables → ne ≡ length exceptions → ((u : ℕ) → is_one_of u ps ≡ is_some (pool_of types u)) → ((o : Operation) (u : ℕ) → overrider o types u ≡ overrider o k.types u) → Agrees k place → Agrees (declared (record k { types = types; variables = variables; exceptions = exceptions; frozen = frozen; here = record k.here { elaborated = elaborated } }) name.text e) (record (with_binding name meaning place) { types = nt; variables = nv; exceptions = ne; placed = ps })
agrees_declared k place name e meaning types variables exceptions frozen elaborated nt nv ne ps own t v x h more w = record {
  here = stands_entered k.here.names place.here name e meaning own w.here;
  outer = w.outer;
  first_type = w.first_type;
  types = t;
  pools = w.pools;
  placed = h;
  bodies = w.bodies;
  variables = v;
  exceptions = x;
  texts = w.texts;
  controlled = w.controlled;
  limited = w.limited;
  specified = w.specified;
  overridden = λ o u. more o u ∙ w.overridden o u;
  kept = w.kept;
}

one_longer : {X : Type 0} (xs : List X) (x : X) (n : ℕ) → n ≡ length xs → n + 1 ≡ length (xs ++ x ∷ [])
one_longer xs x n is = ap (λ (m : ℕ). m + 1) is ∙ sym (length-append xs (x ∷ []))

-- no name of a complete part is bound to an incomplete type
completed_place : (k : Known) (place : Place) → Agrees k place → Complete k → AreCompleted place
completed_place k place w c text t is = by_name (named text k.here.names) refl (w.here text)
  where
    by_entity : (e : Entity) → named text k.here.names ≡ Some e → bound_to e ≡ Some (an_incomplete_type t) → ⊥
    by_entity (entity.Incomplete u) there so = c text u there
    by_entity (entity.Record u size) there so = cc so
    by_entity (entity.Access u) there so = cc so
    by_entity (entity.Number n) there so = cc so
    by_entity (entity.Exception (exception.Declared n)) there so = cc so
    by_entity (entity.Exception exception.ConstraintError) there so = cc so
    by_entity (entity.Exception exception.ProgramError) there so = cc so
    by_entity (entity.Exception exception.StorageError) there so = cc so
    by_entity (entity.Exception exception.EndError) there so = cc so
    by_entity (entity.Pool n) there so = cc so
    by_entity (entity.Instance u) there so = cc so
    by_entity (entity.Variable x kind) there so = cc so
    by_entity (entity.Parameter x kind) there so = cc so
    by_entity (entity.Callable n) there so = cc so
    by_entity (entity.Outer kind r) there so = cc so
    by_entity entity.Integer there so = cc so
    by_entity entity.Boolean there so = cc so
    by_entity (entity.Truth b) there so = cc so
    by_entity entity.Procedure there so = cc so
    by_entity entity.LibraryUnit there so = cc so

    by_name : (o : Option Entity) → named text k.here.names ≡ o → Stands o (meaning_among text place.here) → ⊥
    by_name None there s = let no : None ≡ Some (an_incomplete_type t) = sym s ∙ is in cc no
    by_name (Some e) there s = by_entity e there (s.1 ∙ (sym s.2 ∙ is))

-- what a name of the part is bound to
bound_here : (k : Known) (place : Place) (text : List ℕ) (e : Entity) (meaning : Meaning) → Agrees k place → named text k.here.names ≡ Some e → bound_to e ≡ Some meaning → meaning_among text place.here ≡ Some meaning
bound_here k place text e meaning w there own =
    let s : Stands (Some e) (meaning_among text place.here) = subst (λ (o : Option Entity). Stands o (meaning_among text place.here)) there (w.here text) in
    s.2 ∙ (sym s.1 ∙ own)

not_bound : (k : Known) (place : Place) (text : List ℕ) → Agrees k place → named text k.here.names ≡ None → meaning_among text place.here ≡ None
not_bound k place text w there = subst (λ (o : Option Entity). Stands o (meaning_among text place.here)) there (w.here text)

pub new_there : (k : Known) (place : Place) (name : Ident) (spot : Spot) → Agrees k place → Quiet (new_name_remark k name spot) → IsNew place name
new_there k place name spot w q = (not_bound k place name.text w (new_slot k name spot q), not_predefined name q.0)

-- variables that are there stay
full_on : (k m : Known) → Sound k → Keeps k m → no_variable_yet k ≡ false → no_variable_yet m ≡ false
full_on k m s f off =
    let more = longer k.variables m.variables f.variables in
    let least = s.bounds.first_variable in
    let same = f.first_variable in
    ne_eqb (length m.variables) m.here.first_variable (apart more least same)
  where
    not_equal : length k.variables ≡ k.here.first_variable → ⊥
    not_equal is = let on : (length k.variables == k.here.first_variable) ≡ true = eq-eqb (length k.variables) k.here.first_variable is in cc (on, off)

    apart : length k.variables ≤ length m.variables → k.here.first_variable ≤ length k.variables → m.here.first_variable ≡ k.here.first_variable → length m.variables ≡ m.here.first_variable → ⊥
    apart more least same is = not_equal (omega (arith, more, least, same, is))

-- where a variable is there, the types have ended
pub some_variable : (k : Known) → no_variable_yet k ≡ false → types_go_on k ≡ false
some_variable k off = ap (λ (b : Bool). b && no_body_yet k) off

bodies_on : (k m : Known) → Sound k → Keeps k m → no_body_yet k ≡ false → no_body_yet m ≡ false
bodies_on k m s f off =
    let more = longer k.bodies m.bodies f.bodies in
    let least = s.bounds.first_body in
    let same = f.first_body in
    ne_eqb (length m.bodies) m.here.first_body (apart more least same)
  where
    not_equal : length k.bodies ≡ k.here.first_body → ⊥
    not_equal is = let on : (length k.bodies == k.here.first_body) ≡ true = eq-eqb (length k.bodies) k.here.first_body is in cc (on, off)

    apart : length k.bodies ≤ length m.bodies → k.here.first_body ≤ length k.bodies → m.here.first_body ≡ k.here.first_body → length m.bodies ≡ m.here.first_body → ⊥
    apart more least same is = not_equal (omega (arith, more, least, same, is))

-- where types have ended, they go on no more
pub late_on : (k m : Known) → Sound k → Keeps k m → types_go_on k ≡ false → types_go_on m ≡ false
late_on k m s f off = by_variable (no_variable_yet k) refl
  where
    right_off : (a b : Bool) → b ≡ false → (a && b) ≡ false
    right_off true b e = e
    right_off false b e = refl

    by_variable : (b : Bool) → no_variable_yet k ≡ b → types_go_on m ≡ false
    by_variable false is = some_variable m (full_on k m s f is)
    by_variable true is = right_off (no_variable_yet m) (no_body_yet m) (bodies_on k m s f (sym (ap (λ (b : Bool). b && no_body_yet k) is) ∙ off))

-- no type follows a variable or a body
pub no_types : (k : Known) (spot : Spot) → types_go_on k ≡ false → Quiet (type_begins k spot) → ⊥
no_types k spot e q = both_ways (types_go_on k) e (quiet_unless (types_go_on k) spot Layout q.1)

-- what is known once a variable is declared, and the part elaborates it so, with these types
abbrev with_made : Known → Ident → List TypeForm → VariableForm → DeclarationForm → Known
with_made k name types v form =
    declared (record k { types = types; variables = k.variables ++ v ∷ []; here = record k.here { elaborated = k.here.elaborated ++ form ∷ [] } }) name.text
    (entity.Variable (next_variable k) v.kind)

-- a declaration that makes a variable, an object or a borrower: what is known behind it, the place there, and how it is read with the objects
-- behind it
pub record Made (d : DeclarationTree) (name : Ident) (k m : Known) : Type 0 where
  v : VariableForm
  types : List TypeForm
  form : DeclarationForm
  place : Place → Place
  is : m ≡ with_made k name types v form
  new : Quiet (new_name_remark k name name.spot)
  agrees : (at : Place) → Agrees k at → Agrees m (place at)
  read : (p : Context) (ds : DeclarationsTree) (forms : List DeclarationForm) (end : Place) → Readable k p → Ahead m p → IsNew p.place name →
      AreObjectsRead (read_at (place p.place) p) ds forms end → AreObjectsRead p (a_declaration d ds) (form ∷ forms) end

-- the variable is that of the program
variable_there : (k m : Known) (p : Context) (name : Ident) (types : List TypeForm) (v : VariableForm) (form : DeclarationForm) → m ≡ with_made k name types v form → Ahead m p → slice_get p.variables (length k.variables) ≡ Some v
variable_there k m p name types v form is ahead =
    ahead.variables (length k.variables) v (ap (λ (u : Known). slice_get u.variables (length k.variables)) is ∙ get_last k.variables v)

variable_agrees : (k m : Known) (at : Place) (name : Ident) (v : VariableForm) (form : DeclarationForm) → m ≡ with_made k name k.types v form → Agrees k at → Agrees m (with_new_variable name at)
variable_agrees k m at name v form is w =
    subst (λ u. Agrees u (with_new_variable name at)) (sym is)
    (agrees_declared k at name (entity.Variable (next_variable k) v.kind) (a_variable at.variables) k.types (k.variables ++ v ∷ []) k.exceptions k.frozen (k.here.elaborated ++ form ∷ [])
    at.types (at.variables + 1) at.exceptions at.placed (ap (λ (n : ℕ). Some (a_variable n)) (sym w.variables)) w.types (one_longer k.variables v at.variables w.variables) w.exceptions w.placed (λ o u. refl) w)

-- `X : T := ..;`
value_made : (name : Ident) (type_name : NameTree) (initial : Option RightTree) (kind : Held) (of : VariableKind) (k m : Known) → Quiet (new_name_remark k name name.spot) → ((p : Context) → Readable k p → ObjectRead k p type_name initial kind of) → m ≡ variable_created k name false of (initial_source (initial_value_in (initial_found k (Some kind) initial))) → Made (object_declaration name type_name initial) name k m
value_made name type_name initial kind of k m new said is =
    let v : VariableForm = record { name = name.text; spot = name.spot; kind = of; borrows = false } in
    let source = initial_source (initial_value_in (initial_found k (Some kind) initial)) in
    record {
      v = v;
      types = k.types;
      form = declares (length k.variables) source;
      place = with_new_variable name;
      is = is;
      new = new;
      agrees = λ at w. variable_agrees k m at name v (declares (length k.variables) source) is w;
      read = λ p ds forms end w ahead new rest.
          let r = said p w in (
            sym w.agrees.variables,
            new,
            record { kind = of; there = variable_there k m p name k.types v (declares (length k.variables) source) is ahead; kind_named = r.kind_named; starts = r.starts },
            rest,
          );
    }

-- `R : T;`
record_made : (name : Ident) (type_name : NameTree) (initial : Option RightTree) (t : TypeNo) (k m : Known) → Quiet (new_name_remark k name name.spot) → ((p : Context) → Readable k p → RecordRead k p type_name initial t) → m ≡ record_created k name t (initial_items_in (initial_found k (Some (held.Record t)) initial)) → Made (object_declaration name type_name initial) name k m
record_made name type_name initial t k m new said is =
    let v : VariableForm = record { name = name.text; spot = name.spot; kind = next_record k; borrows = false } in
    let types = k.types ++ object_of t.0 ∷ [] in
    let form = declares_record (length k.variables) (length k.types) (initial_items_in (initial_found k (Some (held.Record t)) initial)) in
    record {
      v = v;
      types = types;
      form = form;
      place = with_new_record name;
      is = is;
      new = new;
      agrees = λ at w. subst (λ u. Agrees u (with_new_record name at)) (sym is)
          (agrees_declared k at name (entity.Variable (next_variable k) (next_record k)) (a_variable at.variables) types (k.variables ++ v ∷ []) k.exceptions k.frozen (k.here.elaborated ++ form ∷ [])
          (at.types + 1) (at.variables + 1) at.exceptions at.placed (ap (λ (n : ℕ). Some (a_variable n)) (sym w.variables)) (one_longer k.types (object_of t.0) at.types w.types)
          (one_longer k.variables v at.variables w.variables) w.exceptions (λ u. w.placed u ∙ sym (none_more k.types (object_of t.0) u refl)) (overrider_more k.types (object_of t.0) refl) w);
      read = λ p ds forms end w ahead new rest.
          let r = said p w in
          let known_by : slice_get m.types (length k.types) ≡ Some (object_of t.0) = ap (λ (u : Known). slice_get u.types (length k.types)) is ∙ get_last k.types (object_of t.0) in (
            sym w.agrees.variables,
            sym w.agrees.types,
            new,
            record {
              there = variable_there k m p name types v form is ahead;
              t = t.0;
              known_by = object_stays m.types p.types ahead.types (length k.types) t.0 known_by;
              alone = r.alone;
              record_named = r.record_named;
              starts = r.starts;
            },
            rest,
          );
    }

-- an object of either sort
object_made_of : (name : Ident) (type_name : NameTree) (initial : Option RightTree) (k m : Known) (o : Option Entity) → Quiet (new_name_remark k name name.spot) → IsObjectType o → ((p : Context) → Readable k p → TypeRead k p type_name initial o) → m ≡ created_of k name o (initial_found k (held_of o) initial) → Made (object_declaration name type_name initial) name k m
object_made_of name type_name initial k m (Some entity.Integer) new typed said is = value_made name type_name initial held.Integer variable.Integer k m new said is
object_made_of name type_name initial k m (Some entity.Boolean) new typed said is = value_made name type_name initial held.Boolean variable.Boolean k m new said is
object_made_of name type_name initial k m (Some (entity.Access t)) new typed said is = value_made name type_name initial (held.Access t) (variable.Access t) k m new said is
object_made_of name type_name initial k m (Some (entity.Record t size)) new typed said is = record_made name type_name initial t k m new said is
object_made_of name type_name initial k m o new typed said is = absurd typed

pub object_made : (name : Ident) (type_name : NameTree) (initial : Option RightTree) (k m : Known) → Quiet (object_remark k name type_name initial) → m ≡ object_known k name type_name initial → Made (object_declaration name type_name initial) name k m
object_made name type_name initial k m q is =
    object_made_of name type_name initial k m (object_type_found k type_name) q.1.0 (object_type_is k type_name q.1.1.0)
    (λ p w. object_read k p name type_name initial w q.1.1.0 q.1.1.1.0 q.1.1.1.1) is

-- `B : access T := P;`
pub borrower_made : (name designated : Ident) (initial : Option RightTree) (k m : Known) → Sound k → Quiet (borrower_remark k name designated initial) → m ≡ borrower_known k name initial → Made (borrower_declaration name designated initial) name k m
borrower_made name designated initial k m s q is =
    let r = lent_of k name designated initial s.names q in
    let v : VariableForm = record { name = name.text; spot = name.spot; kind = variable.Access r.access; borrows = true } in
    let form = declares (length k.variables) (value_of r.path) in
    let is_so : m ≡ with_made k name k.types v form = is ∙ borrower_is k name designated initial r in
    record {
      v = v;
      types = k.types;
      form = form;
      place = with_new_variable name;
      is = is_so;
      new = q.1.0;
      agrees = λ at w. variable_agrees k m at name v form is_so w;
      read = λ p ds forms end w ahead new rest.
          (sym w.agrees.variables, new, borrower_read k p name designated initial (length k.variables) w q.1.1.0 r (variable_there k m p name k.types v form is_so ahead), rest);
    }

pub made_full : (d : DeclarationTree) (name : Ident) (k m : Known) → k.here.first_variable ≤ length k.variables → Made d name k m → no_variable_yet m ≡ false
made_full d name k m le r =
    let more = length-append k.variables (r.v ∷ []) in
    let off : (length (k.variables ++ r.v ∷ []) == k.here.first_variable) ≡ false = ne_eqb (length (k.variables ++ r.v ∷ [])) k.here.first_variable (omega (arith, more, le)) in
    ap (λ (z : Known). no_variable_yet z) r.is ∙ off

made_open : (d : DeclarationTree) (name : Ident) (k m : Known) → Made d name k m → Complete m → Complete k
made_open d name k m r c text u is =
    let none = new_slot k name name.spot r.new in
    let there = old_name k.here.names name.text text (entity.Variable (next_variable k) r.v.kind) (entity.Incomplete u) none is in
    c text u (ap (λ (z : Known). named text z.here.names) r.is ∙ there)

complete_before : (k : Known) → Complete (after_types k) → Complete k
complete_before k c text u is = c text u (ap (λ (ns : List Named). named text ns) (after_names k) ∙ is)

-- one declaration, and what is known at the rest
pub record Next (d : DeclarationTree) (ds : DeclarationsTree) (at after : At) : Type 0 where
  quiet : Quiet (declaration_remark (known_at at.0 d) d)
  then : At
  is : then.0 ≡ declaration_known (known_at at.0 d) d
  sound : Sound then.0
  keeps : Keeps at.0 then.0
  rest : declarations_told ds then ≡ gives after
  to_end : Keeps then.0 after.0

-- a declaration with no others in it
abbrev pub IsSingle : DeclarationTree → Type 0
IsSingle (body_declaration head ds body end_name) = ⊥
IsSingle d = Unit {0}

single_so : (d : DeclarationTree) (at : At) → IsSingle d → declaration_told d at ≡ single_told d at
single_so (body_declaration head ds body end_name) at single = absurd single
single_so d at single = refl

pub next_of : (d : DeclarationTree) (ds : DeclarationsTree) (at after : At) → IsSingle d → Sound at.0 → declarations_told (a_declaration d ds) at ≡ gives after → Next d ds at after
next_of d ds at after single s e =
    let done = declarations_done d ds at after e in
    let one = single_done d at done.next (sym (single_so d at single) ∙ done.one) in
    let sound : Sound done.next.0 = told_sound d at done.next s done.one in
    record {
      quiet = one.quiet;
      then = done.next;
      is = one.known;
      sound = sound;
      keeps = told_keeps d at done.next s done.one;
      rest = done.told;
      to_end = declarations_keep ds done.next after sound done.told;
    }

gives_same : {X : Type 0} (x y : X) → gives x ≡ gives y → x ≡ y
gives_same x y e = cc e

-- where no type is incomplete behind the objects, none is before them
pub made_back : (d : DeclarationTree) (name : Ident) (k m : Known) → Made d name (after_types k) m → Complete m → Complete k
made_back d name k m r c = complete_before k (made_open d name (after_types k) m r c)

-- nor before a body
pub body_back : (head : HeadTree) (ds : DeclarationsTree) (body : SequenceTree) (end_name : Option Ident) (at next : At) (d : ProcedureDone head ds body end_name at next) → Sound at.0 → Complete next.0 → Complete at.0
body_back head ds body end_name at next d s c text t is =
    let stays = body_stays head ds body end_name at next d s in
    let k = after_types at.0 in
    let none = head_is_new k head d.quiet in
    let there : named text k.here.names ≡ Some (entity.Incomplete t) = ap (λ (ns : List Named). named text ns) (after_names at.0) ∙ is in
    c text t (ap (λ (v : Known). named text v.here.names) d.known ∙ body_ended_names k d.done.1.0 head d.done.0.0 d.done.0.1 (head_spot head) (end_of body) none stays.done_in text (entity.Incomplete t) there)

-- and the types have ended behind it
pub body_late : (head : HeadTree) (ds : DeclarationsTree) (body : SequenceTree) (end_name : Option Ident) (at next : At) (d : ProcedureDone head ds body end_name at next) → Sound at.0 → types_go_on next.0 ≡ false
body_late head ds body end_name at next d s = right_off (no_variable_yet next.0) (no_body_yet next.0) (false_from_ne_true (no_body_yet next.0) some)
  where
    right_off : (a b : Bool) → b ≡ false → (a && b) ≡ false
    right_off true b e = e
    right_off false b e = refl

    some : no_body_yet next.0 ≡ true → ⊥
    some on =
        let stays = body_stays head ds body end_name at next d s in
        body_ended_some (around_body (after_types at.0) head) d.done.1.0 head.name d.done.0.0 d.done.0.1 (head_spot head) (end_of body) (around_sound (after_types at.0) head stays.before) stays.done_in
        (ap (λ (v : Known). no_body_yet v) (sym d.known) ∙ on)

pub complete_back : (ds : DeclarationsTree) (at after : At) → Sound at.0 → types_go_on at.0 ≡ false → declarations_told ds at ≡ gives after → Complete after.0 → Complete at.0
complete_back no_declarations at after s full e c = subst (λ (v : At). Complete v.0) (sym (gives_same at after e)) c
complete_back (a_declaration (object_declaration name type_name initial) ds) at after s full e c =
    let d = object_declaration name type_name initial in
    let next = next_of d ds at after tt s e in
    made_back d name at.0 next.then.0 (object_made name type_name initial (after_types at.0) next.then.0 next.quiet next.is)
    (complete_back ds next.then after next.sound (late_on at.0 next.then.0 s next.keeps full) next.rest c)
complete_back (a_declaration (borrower_declaration name designated initial) ds) at after s full e c =
    let d = borrower_declaration name designated initial in
    let next = next_of d ds at after tt s e in
    made_back d name at.0 next.then.0 (borrower_made name designated initial (after_types at.0) next.then.0 (ended_sound at.0 s) next.quiet next.is)
    (complete_back ds next.then after next.sound (late_on at.0 next.then.0 s next.keeps full) next.rest c)
complete_back (a_declaration (incomplete_type spot name) ds) at after s full e c = absurd (no_types at.0 spot full (next_of (incomplete_type spot name) ds at after tt s e).quiet.0)
complete_back (a_declaration (access_type spot name designated aspect) ds) at after s full e c = absurd (no_types at.0 spot full (next_of (access_type spot name designated aspect) ds at after tt s e).quiet.0)
complete_back (a_declaration (record_type spot name definition) ds) at after s full e c = absurd (no_types at.0 spot full (next_of (record_type spot name definition) ds at after tt s e).quiet.0)
complete_back (a_declaration (derived_type spot name parent definition) ds) at after s full e c = absurd (no_types at.0 spot full (next_of (derived_type spot name parent definition) ds at after tt s e).quiet.0)
complete_back (a_declaration (instance spot name generic object access) ds) at after s full e c = absurd (no_types at.0 spot full (next_of (instance spot name generic object access) ds at after tt s e).quiet.0)
complete_back (a_declaration (constant_declaration name value) ds) at after s full e c = absurd (no_types at.0 name.spot full (next_of (constant_declaration name value) ds at after tt s e).quiet.0)
complete_back (a_declaration (exception_declaration name) ds) at after s full e c = absurd (no_types at.0 name.spot full (next_of (exception_declaration name) ds at after tt s e).quiet.0)
complete_back (a_declaration (pool_declaration name type_name label size) ds) at after s full e c = absurd (no_types at.0 name.spot full (next_of (pool_declaration name type_name label size) ds at after tt s e).quiet.0)
complete_back (a_declaration (attribute_clause spot name attribute value) ds) at after s full e c = absurd (no_types at.0 spot full (next_of (attribute_clause spot name attribute value) ds at after tt s e).quiet.0)
complete_back (a_declaration (body_declaration head inner body end_name) ds) at after s full e c =
    let d = body_declaration head inner body end_name in
    let done = declarations_done d ds at after e in
    body_back head inner body end_name at done.next (procedure_done head inner body end_name at done.next done.one) s
    (complete_back ds done.next after (told_sound d at done.next s done.one) (late_on at.0 done.next.0 s (told_keeps d at done.next s done.one) full) done.told c)
complete_back (a_declaration (specification head) ds) at after s full e c =
    absurd (no_types at.0 (head_spot head) full (specification_begins at.0 head (next_of (specification head) ds at after tt s e).quiet))

-- where a part is over, no type is incomplete and no operation waits for its body
pub record Over (k : Known) : Type 0 where
  pub complete : Complete k
  pub awaited : k.here.specified.awaited ≡ 0

-- objects behind an object
record ObjectsRead (p : Context) (ds : DeclarationsTree) (k z : Known) : Type 0 where
  forms : List DeclarationForm
  end : Place
  specified : z.here.specified ≡ k.here.specified
  elaborated : z.here.elaborated ≡ k.here.elaborated ++ forms
  full : no_variable_yet z ≡ false
  read : AreObjectsRead p ds forms end
  agrees : Agrees z end

behind_one : {X : Type 0} (xs zs forms : List X) (x : X) → zs ≡ (xs ++ x ∷ []) ++ forms → zs ≡ xs ++ (x ∷ forms)
behind_one xs zs forms x all = all ∙ append_assoc xs (x ∷ []) forms

-- a variable, and those behind it
variable_first : (k : Known) (p : Context) (d : DeclarationTree) (name : Ident) (ds : DeclarationsTree) (m z : Known) → Readable k p → (r : Made d name k m) → Ahead m p → ObjectsRead (read_at (r.place p.place) p) ds m z → ObjectsRead p (a_declaration d ds) k z
variable_first k p d name ds m z w r ahead on = record {
  forms = r.form ∷ on.forms;
  end = on.end;
  specified = on.specified ∙ ap (λ (u : Known). u.here.specified) r.is;
  elaborated = behind_one k.here.elaborated z.here.elaborated on.forms r.form (on.elaborated ∙ ap (λ (u : Known). u.here.elaborated ++ on.forms) r.is);
  full = on.full;
  read = r.read p ds on.forms on.end w ahead (new_there k p.place name name.spot w.agrees r.new) on.read;
  agrees = on.agrees;
}

-- at an object no type is incomplete, if none is at the end
readable_at : (k : Known) (p : Context) (z : Known) → Sound k → Agrees k p.place → Complete k → Keeps k z → Ahead z p → Readable (after_types k) p
readable_at k p z s w c f ahead = record {
  fits = (ended_sound k s).names;
  agrees = after_agrees k p.place w;
  ahead = after_ahead k p (ahead_on k z p (complete_grows k z c f) ahead);
}

-- a variable is read, if the objects behind it are
record VariableRead (p : Context) (d : DeclarationTree) (ds : DeclarationsTree) (k z : Known) : Type 0 where
  open_so : Complete k
  objects : ObjectsRead p (a_declaration d ds) (after_types k) z

variable_read : (p : Context) (d : DeclarationTree) (name : Ident) (ds : DeclarationsTree) (at after : At) → Sound at.0 → Agrees at.0 p.place → Complete after.0 → Ahead after.0 p → (e : declarations_told (a_declaration d ds) at ≡ gives after) → (next : Next d ds at after) → (r : Made d name (after_types at.0) next.then.0) → (Agrees next.then.0 (r.place p.place) → no_variable_yet next.then.0 ≡ false → ObjectsRead (read_at (r.place p.place) p) ds next.then.0 after.0) → VariableRead p d ds at.0 after.0
variable_read p d name ds at after s w c ahead e next r rest =
    let k = after_types at.0 in
    let filled = made_full d name k next.then.0 (ended_sound at.0 s).bounds.first_variable r in
    let inner = complete_back ds next.then after next.sound (some_variable next.then.0 filled) next.rest c in
    let open_so = made_back d name at.0 next.then.0 r inner in
    let readable = readable_at at.0 p after.0 s w open_so (declarations_keep (a_declaration d ds) at after s e) ahead in
    let last = ahead_on next.then.0 after.0 p (complete_grows next.then.0 after.0 inner next.to_end) ahead in
    record {
      open_so = open_so;
      objects = variable_first k p d name ds next.then.0 after.0 readable r last (rest (r.agrees p.place readable.agrees) filled);
    }

-- no body follows a variable
no_body : (k : Known) (head : HeadTree) (spot : Spot) → no_variable_yet k ≡ false → Quiet (body_head_remark (after_types k) head) → ⊥
unfolding body_head_remark
no_body k head spot off q =
    let same : no_variable_yet (after_types k) ≡ no_variable_yet k = after_variables k in
    both_ways (no_variable_yet k) off (sym same ∙ quiet_unless (no_variable_yet (after_types k)) (head_spot head) Layout q.1.0)

objects_read : (p : Context) (ds : DeclarationsTree) (at after : At) → Sound at.0 → Agrees at.0 p.place → no_variable_yet at.0 ≡ false → Complete after.0 → Ahead after.0 p → declarations_told ds at ≡ gives after → ObjectsRead p ds at.0 after.0
objects_read p no_declarations at after s w full c ahead e =
    subst (λ (v : At). ObjectsRead p no_declarations at.0 v.0) (gives_same at after e) (record {
      forms = [];
      end = p.place;
      specified = refl;
      elaborated = sym (append-nil at.0.here.elaborated);
      full = full;
      read = refl;
      agrees = w;
    })
objects_read p (a_declaration (object_declaration name type_name initial) ds) at after s w full c ahead e =
    let d = object_declaration name type_name initial in
    let next = next_of d ds at after tt s e in
    let made = object_made name type_name initial (after_types at.0) next.then.0 next.quiet next.is in
    let place = made.place p.place in
    let on = variable_read p d name ds at after s w c ahead e next made
    (λ agrees filled. objects_read (read_at place p) ds next.then after next.sound agrees filled c (ahead_at after.0 p place ahead) next.rest) in
    subst (λ u. ObjectsRead p (a_declaration d ds) u after.0) (after_full at.0 (some_variable at.0 full)) on.objects
objects_read p (a_declaration (borrower_declaration name designated initial) ds) at after s w full c ahead e =
    let d = borrower_declaration name designated initial in
    let next = next_of d ds at after tt s e in
    let made = borrower_made name designated initial (after_types at.0) next.then.0 (ended_sound at.0 s) next.quiet next.is in
    let place = made.place p.place in
    let on = variable_read p d name ds at after s w c ahead e next made
    (λ agrees filled. objects_read (read_at place p) ds next.then after next.sound agrees filled c (ahead_at after.0 p place ahead) next.rest) in
    subst (λ u. ObjectsRead p (a_declaration d ds) u after.0) (after_full at.0 (some_variable at.0 full)) on.objects
objects_read p (a_declaration (incomplete_type spot name) ds) at after s w full c ahead e = absurd (no_types at.0 spot (some_variable at.0 full) (next_of (incomplete_type spot name) ds at after tt s e).quiet.0)
objects_read p (a_declaration (access_type spot name designated aspect) ds) at after s w full c ahead e = absurd (no_types at.0 spot (some_variable at.0 full) (next_of (access_type spot name designated aspect) ds at after tt s e).quiet.0)
objects_read p (a_declaration (record_type spot name definition) ds) at after s w full c ahead e = absurd (no_types at.0 spot (some_variable at.0 full) (next_of (record_type spot name definition) ds at after tt s e).quiet.0)
objects_read p (a_declaration (derived_type spot name parent definition) ds) at after s w full c ahead e = absurd (no_types at.0 spot (some_variable at.0 full) (next_of (derived_type spot name parent definition) ds at after tt s e).quiet.0)
objects_read p (a_declaration (instance spot name generic object access) ds) at after s w full c ahead e = absurd (no_types at.0 spot (some_variable at.0 full) (next_of (instance spot name generic object access) ds at after tt s e).quiet.0)
objects_read p (a_declaration (constant_declaration name value) ds) at after s w full c ahead e = absurd (no_types at.0 name.spot (some_variable at.0 full) (next_of (constant_declaration name value) ds at after tt s e).quiet.0)
objects_read p (a_declaration (exception_declaration name) ds) at after s w full c ahead e = absurd (no_types at.0 name.spot (some_variable at.0 full) (next_of (exception_declaration name) ds at after tt s e).quiet.0)
objects_read p (a_declaration (pool_declaration name type_name label size) ds) at after s w full c ahead e = absurd (no_types at.0 name.spot (some_variable at.0 full) (next_of (pool_declaration name type_name label size) ds at after tt s e).quiet.0)
objects_read p (a_declaration (attribute_clause spot name attribute value) ds) at after s w full c ahead e = absurd (no_types at.0 spot (some_variable at.0 full) (next_of (attribute_clause spot name attribute value) ds at after tt s e).quiet.0)
objects_read p (a_declaration (body_declaration head inner body end_name) ds) at after s w full c ahead e =
    let done = declarations_done (body_declaration head inner body end_name) ds at after e in
    absurd (no_body at.0 head (head_spot head) full (procedure_done head inner body end_name at done.next done.one).quiet)
objects_read p (a_declaration (specification head) ds) at after s w full c ahead e =
    absurd (no_types at.0 (head_spot head) (some_variable at.0 full) (specification_begins at.0 head (next_of (specification head) ds at after tt s e).quiet))

-- a declarative part, up to its end
pub record PartRead (p : Context) (ds : DeclarationsTree) (k z : Known) : Type 0 where
  pub forms : List DeclarationForm
  pub end : Place
  pub elaborated : (after_types z).here.elaborated ≡ k.here.elaborated ++ forms
  pub read : (made : List ℕ) → ((t : ℕ) → is_one_of t made ≡ is_collected t k.here.elaborated) → IsPartRead p (Some made) ds forms end
  pub agrees : Agrees z end

-- the rest of a declarative part behind its types
pub record LateRead (p : Context) (ds : DeclarationsTree) (k z : Known) : Type 0 where
  pub forms : List DeclarationForm
  pub end : Place
  pub elaborated : (after_types z).here.elaborated ≡ k.here.elaborated ++ forms
  pub read : IsPartRead p None ds forms end
  pub agrees : Agrees z end

-- the collections of the others are created where the types end
pub ends_read : (k : Known) (p : Context) (rest : List DeclarationForm) → Agrees k p.place → Complete k → Ahead k p → (made : List ℕ) → ((t : ℕ) → is_one_of t made ≡ is_collected t k.here.elaborated) → DoTypesEnd p (Some made) (missing_collections k ++ rest) rest
ends_read k p rest w c ahead made collected =
    let o = others_of k p made w.first_type w.types ahead.types collected in
    (o.others, ap (λ (forms : List DeclarationForm). forms ++ rest) o.these, completed_place k p.place w c, o.so)

pub nothing_left : (k : Known) (p : Context) → Agrees k p.place → Waits k p.place → types_go_on k ≡ true → Over k → Ahead k p → PartRead p no_declarations k k
nothing_left k p w waits none c ahead = record {
  forms = missing_collections k ++ [];
  end = p.place;
  elaborated = ap (λ (v : Known). v.here.elaborated) (after_none k none) ∙ ap (λ forms. k.here.elaborated ++ forms) (sym (append-nil (missing_collections k)));
  read = λ made collected. ([], ends_read k p [] w c.complete ahead made collected, have_bodies k p.place waits c.awaited, refl);
  agrees = w;
}

-- how a part is read whose types end before objects
abbrev EndsBefore : Context → DeclarationsTree → Place → Type 0
EndsBefore p ds end =
    (made : Option (List ℕ)) (forms rest : List DeclarationForm) → DoTypesEnd p made forms rest → HaveBodies p.place → AreObjectsRead p ds rest end →
    IsPartRead p made ds forms end

object_ends : (p : Context) (name : Ident) (type_name : NameTree) (initial : Option RightTree) (ds : DeclarationsTree) (end : Place) → EndsBefore p (a_declaration (object_declaration name type_name initial) ds) end
object_ends p name type_name initial ds end (Some made) forms rest a n b = (rest, a, n, b)
object_ends p name type_name initial ds end None forms rest a n b = (rest, a, n, b)

borrower_ends : (p : Context) (name designated : Ident) (initial : Option RightTree) (ds : DeclarationsTree) (end : Place) → EndsBefore p (a_declaration (borrower_declaration name designated initial) ds) end
borrower_ends p name designated initial ds end (Some made) forms rest a n b = (rest, a, n, b)
borrower_ends p name designated initial ds end None forms rest a n b = (rest, a, n, b)

-- the types end, and the specifications stay
pub after_specified : (k : Known) → (after_types k).here.specified ≡ k.here.specified
unfolding after_types
after_specified k = by_end (types_go_on k)
  where
    by_end : (b : Bool) → (ends_types b k).here.specified ≡ k.here.specified
    by_end true = refl
    by_end false = refl

-- none waits for its body where objects begin
none_waits : (k z : Known) (p : Context) (ds : DeclarationsTree) → Waits k p.place → Over z → ObjectsRead p ds (after_types k) z → HaveBodies p.place
none_waits k z p ds waits c on =
    have_bodies k p.place waits (sym (ap (λ (ss : Specifications). ss.awaited) (on.specified ∙ after_specified k)) ∙ c.awaited)

objects_left : (k z : Known) (p : Context) (ds : DeclarationsTree) → ((end : Place) → EndsBefore p ds end) → Agrees k p.place → Waits k p.place → types_go_on k ≡ true → Complete k → Over z → Ahead k p → ObjectsRead p ds (after_types k) z → PartRead p ds k z
objects_left k z p ds ends w waits none c over ahead on = record {
  forms = missing_collections k ++ on.forms;
  end = on.end;
  elaborated = ap (λ (v : Known). v.here.elaborated) (after_full z (some_variable z on.full)) ∙
      (on.elaborated ∙ (ap (λ (v : Known). v.here.elaborated ++ on.forms) (after_none k none) ∙ append_assoc k.here.elaborated (missing_collections k) on.forms));
  read = λ made collected. ends on.end (Some made) (missing_collections k ++ on.forms) on.forms (ends_read k p on.forms w c ahead made collected) (none_waits k z p ds waits over on) on.read;
  agrees = on.agrees;
}

variables_left : (p : Context) (d : DeclarationTree) (ds : DeclarationsTree) (at after : At) → ((end : Place) → EndsBefore p (a_declaration d ds) end) → Sound at.0 → Agrees at.0 p.place → Waits at.0 p.place → types_go_on at.0 ≡ true → Over after.0 → Ahead after.0 p → declarations_told (a_declaration d ds) at ≡ gives after → VariableRead p d ds at.0 after.0 → PartRead p (a_declaration d ds) at.0 after.0
variables_left p d ds at after ends s w waits none c ahead e on =
    let grows = complete_grows at.0 after.0 on.open_so (declarations_keep (a_declaration d ds) at after s e) in
    objects_left at.0 after.0 p (a_declaration d ds) ends w waits none on.open_so c (ahead_on at.0 after.0 p grows ahead) on.objects

-- a declaration that elaborates nothing
plain_first : (k m z : Known) (p q : Context) (d : DeclarationTree) (ds : DeclarationsTree) → m.here.elaborated ≡ k.here.elaborated → (on : PartRead q ds m z) → ((made : List ℕ) → IsPartRead q (Some made) ds on.forms on.end → IsPartRead p (Some made) (a_declaration d ds) on.forms on.end) → PartRead p (a_declaration d ds) k z
plain_first k m z p q d ds same on more = record {
  forms = on.forms;
  end = on.end;
  elaborated = on.elaborated ∙ ap (λ es. es ++ on.forms) same;
  read = λ made w. more made (on.read made (λ t. w t ∙ ap (λ es. is_collected t es) (sym same)));
  agrees = on.agrees;
}

-- the place behind a full type declaration
abbrev type_place : Option TypeNo → Ident → DeclarationTree → Option Finalized → Place → Place
type_place (Some t) name d final place = with_binding name (a_type t.0) (with_complete final (with_aspect d t.0 place))
type_place None name d final place = with_new_type name (with_complete final (with_aspect d place.types place))

abbrev defining : Known → Ident → Option TypeNo → TypeForm → Entity → ℕ → List ℕ → Known
defining k name c form e n ls = declared (record k { types = defined c form k.types; controlled = n; limited = ls }) name.text e

-- one more type is complete
agrees_complete : (k : Known) (final : Option Finalized) (ls ts : List ℕ) (place : Place) → ((u : ℕ) → is_one_of u ts ≡ is_among u ls) → Agrees k place → Agrees (record k { controlled = counted final k.controlled; limited = ls }) (with_complete final (record place { limited = ts }))
agrees_complete k final ls ts place limits w = record {
  here = w.here;
  outer = w.outer;
  first_type = w.first_type;
  types = w.types;
  pools = w.pools;
  placed = w.placed;
  bodies = w.bodies;
  variables = w.variables;
  exceptions = w.exceptions;
  texts = w.texts;
  controlled = ap (λ (n : ℕ). counted final n) w.controlled;
  limited = limits;
  specified = w.specified;
  overridden = w.overridden;
  kept = w.kept;
}

-- an aspect names the pool of its type
abbrev aspect_placed : Option AspectTree → ℕ → List ℕ → List ℕ
aspect_placed None t ps = ps
aspect_placed (Some aspect) t ps = t ∷ ps

abbrev names_pool : DeclarationTree → ℕ → List ℕ → List ℕ
names_pool (access_type spot name designated aspect) t ps = aspect_placed aspect t ps
names_pool d t ps = ps

-- a parent makes its type limited
abbrev limited_by : DeclarationTree → ℕ → List ℕ → List ℕ
limited_by (derived_type spot name parent definition) t ts = cond (is_limited_parent (Some (library_name parent.first.text parent.rest))) (t ∷ ts) ts
limited_by d t ts = ts

abbrev IsFullType : DeclarationTree → Type 0
IsFullType (access_type spot name designated aspect) = Unit {0}
IsFullType (record_type spot name definition) = Unit {0}
IsFullType (derived_type spot name parent definition) = Unit {0}
IsFullType d = ⊥

limited_place : (b : Bool) (t : ℕ) (place : Place) → with_limited_if b t place ≡ record place { limited = cond b (t ∷ place.limited) place.limited }
limited_place true t place = refl
limited_place false t place = refl

aspect_place : (d : DeclarationTree) (t : ℕ) (place : Place) → IsFullType d → with_aspect d t place ≡ record place { placed = names_pool d t place.placed; limited = limited_by d t place.limited }
aspect_place (access_type spot name designated None) t place full = refl
aspect_place (access_type spot name designated (Some aspect)) t place full = refl
aspect_place (record_type spot name definition) t place full = refl
aspect_place (derived_type spot name parent definition) t place full = limited_place (is_limited_parent (Some (library_name parent.first.text parent.rest))) t place
aspect_place d t place full = absurd full

-- what a declaration completes had no pool
had_none : (k : Known) (text : List ℕ) (c : Option TypeNo) → Sound k → IsSlot k text c → (u : TypeNo) → c ≡ Some u → (x : TypeForm) × (slice_get k.types u.0 ≡ Some x) × (pool_by (Some x) ≡ None)
had_none k text None s slot u is = absurd (cc is)
had_none k text (Some t) s slot u is =
    let same : t ≡ u = cc is in
    (record_of text [] [] None, subst (λ (v : TypeNo). slice_get k.types v.0 ≡ Some (record_of text [] [] None)) same (s.names.0 text (entity.Incomplete t) slot), refl)

-- and overrode nothing
inherited_none : (k : Known) (text : List ℕ) (c : Option TypeNo) → Sound k → IsSlot k text c → (u : TypeNo) → c ≡ Some u → (x : TypeForm) × (slice_get k.types u.0 ≡ Some x) × Inherits x
inherited_none k text None s slot u is = absurd (cc is)
inherited_none k text (Some t) s slot u is =
    let same : t ≡ u = cc is in
    (record_of text [] [] None, subst (λ (v : TypeNo). slice_get k.types v.0 ≡ Some (record_of text [] [] None)) same (s.names.0 text (entity.Incomplete t) slot), refl)

agrees_type : (k : Known) (place : Place) (name : Ident) (c : Option TypeNo) (d : DeclarationTree) (form : TypeForm) (e : Entity) (final : Option Finalized) (ls : List ℕ) → IsFullType d → bound_to e ≡ Some (a_type (number_of c k.types).0) → ((u : ℕ) → is_one_of u (names_pool d (number_of c k.types).0 place.placed) ≡ is_some (pool_of (defined c form k.types) u)) → ((u : ℕ) → is_one_of u (limited_by d (number_of c k.types).0 place.limited) ≡ is_among u ls) → ((o : Operation) (u : ℕ) → overrider o (defined c form k.types) u ≡ overrider o k.types u) → Agrees k place → Agrees (defining k name c form e (counted final k.controlled) ls) (type_place c name d final place)
agrees_type k place name (Some t) d form e final ls full own h limits more w =
    let ts = limited_by d t.0 place.limited in
    let counts = agrees_complete k final ls ts place limits w in
    subst (λ (q : Place). Agrees (defining k name (Some t) form e (counted final k.controlled) ls) (with_binding name (a_type t.0) (with_complete final q))) (sym (aspect_place d t.0 place full))
    (agrees_declared (record k { controlled = counted final k.controlled; limited = ls }) (with_complete final (record place { limited = ts })) name e (a_type t.0) (slice_set k.types t.0 form) k.variables k.exceptions k.frozen k.here.elaborated place.types place.variables place.exceptions
    (names_pool d t.0 place.placed) own (w.types ∙ sym (length-set k.types t.0 form)) w.variables w.exceptions h more counts)
agrees_type k place name None d form e final ls full own h limits more w =
    let ts = limited_by d place.types place.limited in
    let counts = agrees_complete k final ls ts place (λ u. ap (λ (n : ℕ). is_one_of u (limited_by d n place.limited)) w.types ∙ limits u) w in
    subst (λ (q : Place). Agrees (defining k name None form e (counted final k.controlled) ls) (with_new_type name (with_complete final q))) (sym (aspect_place d place.types place full))
    (agrees_declared (record k { controlled = counted final k.controlled; limited = ls }) (with_complete final (record place { limited = ts })) name e (a_type place.types) (k.types ++ form ∷ []) k.variables k.exceptions k.frozen k.here.elaborated (place.types + 1) place.variables place.exceptions
    (names_pool d place.types place.placed) (own ∙ ap (λ (n : ℕ). Some (a_type n)) (sym w.types)) (one_longer k.types form place.types w.types) w.variables w.exceptions
    (λ u. ap (λ (n : ℕ). is_one_of u (names_pool d n place.placed)) w.types ∙ h u) more counts)

-- what is specified stays behind a type
type_early : (k m : Known) (place : Place) (name : Ident) (c : Option TypeNo) (d : DeclarationTree) (final : Option Finalized) → IsFullType d → m.here.specified ≡ k.here.specified → Early k place → Early m (type_place c name d final place)
type_early k m place name (Some t) d final full known early =
    let next = record place { placed = names_pool d t.0 place.placed; limited = limited_by d t.0 place.limited } in
    subst (λ (q : Place). Early m (with_binding name (a_type t.0) (with_complete final q))) (sym (aspect_place d t.0 place full))
    (early_on k m place (with_binding name (a_type t.0) (with_complete final next)) refl refl refl (omega arith) known early)
type_early k m place name None d final full known early =
    let next = record place { placed = names_pool d place.types place.placed; limited = limited_by d place.types place.limited } in
    subst (λ (q : Place). Early m (with_new_type name (with_complete final q))) (sym (aspect_place d place.types place full))
    (early_on k m place (with_new_type name (with_complete final next)) refl refl refl (omega arith) known early)

-- a full type declaration completes a type, or declares the next
type_first : (k : Known) (p : Context) (name : Ident) (c : Option TypeNo) (d : DeclarationTree) (spot : Spot) (final : Option Finalized) → Agrees k p.place → IsSlot k name.text c → Quiet (new_unless c (new_name_remark k name spot)) → IsTypeRead p d (number_of c k.types).0 → well.finalization_of p.types (number_of c k.types).0 ≡ final → IsTypeDeclared p d name (type_place c name d final p.place)
type_first k p name (Some t) d spot final w slot q r f =
    subst (λ (o : Option Finalized). IsTypeDeclared p d name (type_place (Some t) name d o p.place)) f
    (by_completion (bound_here k p.place name.text (entity.Incomplete t) (an_incomplete_type t.0) w slot refl) r)
type_first k p name None d spot final w slot q r f =
    subst (λ (o : Option Finalized). IsTypeDeclared p d name (type_place None name d o p.place)) (ap (λ (n : ℕ). well.finalization_of p.types n) w.types ∙ f)
    (by_new_type (new_there k p.place name spot w q) (subst (λ (n : ℕ). IsTypeRead p d n) (sym w.types) r))

-- what declarations are read by
legible_at : (k z : Known) (p : Context) → Sound k → Agrees k p.place → Keeps k z → Ahead z p → Legible k p
legible_at k z p s w f ahead = record { sound = s; agrees = w; lasts = lasts_on k z p s f (lasts_ahead z p ahead) }

-- the pool that a name stands for
record PoolRead (k : Known) (p : Context) (name : Ident) : Type 0 where
  pool : PoolNo
  found : pool_found k name ≡ Some pool
  named_so : IsPoolNamed p name.text pool.0

pool_at : (k : Known) (p : Context) (name : Ident) (o : Option Entity) → visible k name.text ≡ o → ((e : Entity) → o ≡ Some e → EntityRead p name.text e) → Quiet (pool_wanted o name) → (pool : PoolNo) × (o ≡ Some (entity.Pool pool)) × IsPoolNamed p name.text pool.0
pool_at k p name (Some (entity.Pool n)) is r q = (n, refl, r (entity.Pool n) refl)
pool_at k p name (Some e) is r q = absurd q
pool_at k p name None is r q = absurd q

pool_read : (k : Known) (p : Context) (name : Ident) → Agrees k p.place → Quiet (pool_name_remark k name) → PoolRead k p name
unfolding pool_found pool_name_remark
pool_read k p name w q =
    let at = pool_at k p name (visible k name.text) refl (visible_read k p w name.text) q in
    record { pool = at.0; found = ap (λ (o : Option Entity). pool_in o) at.1; named_so = at.2 }

-- the pool of an aspect
record AspectDone (k : Known) (p : Context) (aspect : AspectTree) : Type 0 where
  on : is_storage_pool aspect.name ≡ true
  read : PoolRead k p aspect.value

aspect_done : (k : Known) (p : Context) (aspect : AspectTree) → Agrees k p.place → Quiet (aspect_remark k (Some aspect)) → AspectDone k p aspect
aspect_done k p aspect w q = by_name (is_storage_pool aspect.name) refl q
  where
    by_name : (b : Bool) → is_storage_pool aspect.name ≡ b → Quiet (cond b (pool_name_remark k aspect.value) (wrong aspect.name.spot NotInProfile)) → AspectDone k p aspect
    by_name true is q = record { on = is; read = pool_read k p aspect.value w q }
    by_name false is q = absurd q

aspect_is : (k : Known) (p : Context) (aspect : AspectTree) (d : AspectDone k p aspect) → aspect_found k (Some aspect) ≡ Some d.read.pool
aspect_is k p aspect d = ap (λ (b : Bool). cond b (pool_found k aspect.value) None) d.on ∙ d.read.found

-- the pool of an aspect is named at the place behind it, and no other one
aspect_agrees : (k : Known) (p : Context) (name : Ident) (aspect : Option AspectTree) (c : Option TypeNo) (r : TypeNo) → Sound k → IsSlot k name.text c → Agrees k p.place → Quiet (aspect_remark k aspect) → (u : ℕ) → is_one_of u (aspect_placed aspect (number_of c k.types).0 p.place.placed) ≡ is_some (pool_of (defined c (access_to name.text r.0 (pool_number (aspect_found k aspect))) k.types) u)
aspect_agrees k p name None c r s slot w q u =
    w.placed u ∙ sym (none_defined k.types c (access_to name.text r.0 None) u (had_none k name.text c s slot) refl)
aspect_agrees k p name (Some aspect) c r s slot w q u =
    let n = (number_of c k.types).0 in
    let d = aspect_done k p aspect w q in
    let form = access_to name.text r.0 (pool_number (aspect_found k (Some aspect))) in
    let on : is_some (pool_by (Some form)) ≡ true = ap (λ (o : Option PoolNo). is_some (pool_number o)) (aspect_is k p aspect d) in
    ap (λ (b : Bool). eqb n u || b) (w.placed u) ∙ sym (some_defined k.types c form u (had_none k name.text c s slot) on)

-- `type A is access T;`
-- what an access type leaves
record AccessDone (k m : Known) (p : Context) (name designated : Ident) (aspect : Option AspectTree) : Type 0 where
  r : TypeNo
  is : m ≡ defining k name (completed_type k name) (access_to name.text r.0 (pool_number (aspect_found k aspect))) (entity.Access (number_of (completed_type k name) k.types)) k.controlled k.limited
  found : FoundRecord k p designated (Some r)

access_done : (k m : Known) (p : Context) (name designated : Ident) (aspect : Option AspectTree) (o : Option TypeNo) → FoundRecord k p designated o → m ≡ access_defined k name (completed_type k name) o (aspect_found k aspect) → AccessDone k m p name designated aspect
access_done k m p name designated aspect None found is = absurd found
access_done k m p name designated aspect (Some r) found is = record { r = r; is = is; found = found }

-- the pool of the type in the end is that of its aspect
aspect_read : (k m : Known) (p : Context) (aspect : Option AspectTree) (t : ℕ) (name : List ℕ) (d : ℕ) (pool : Option ℕ) → Agrees k p.place → Quiet (aspect_remark k aspect) → Lasts m p → slice_get m.types t ≡ Some (access_to name d (pool_number (aspect_found k aspect))) → slice_get p.types t ≡ Some (access_to name d pool) → IsAspectRead p aspect pool
unfolding pool_of
aspect_read k m p None t name d pool w q lasts there last = tt
aspect_read k m p (Some aspect) t name d pool w q lasts there last =
    let done = aspect_done k p aspect w q in
    let had : pool_of m.types t ≡ Some done.read.pool.0 = ap (λ (o : Option TypeForm). pool_by o) there ∙ ap (λ (o : Option PoolNo). pool_number o) (aspect_is k p aspect done) in
    let has = lasts.placed t done.read.pool.0 had in
    let own : pool ≡ Some done.read.pool.0 = sym (ap (λ (o : Option TypeForm). pool_by o) last) ∙ has in
    (done.read.pool.0, own, text_same aspect.name.text (codes "STORAGE_POOL") done.on, done.read.named_so)

access_type_read : (k m : Known) (p : Context) (spot : Spot) (name designated : Ident) (aspect : Option AspectTree) → Legible k p → Lasts m p → IsSlot k name.text (completed_type k name) → list_all (well.type_fits p.types) p.types ≡ true → Quiet (aspect_remark k aspect) → AccessDone k m p name designated aspect → IsTypeRead p (access_type spot name designated aspect) (number_of (completed_type k name) k.types).0
access_type_read k m p spot name designated aspect w lasts slot fit q r =
    let c = completed_type k name in
    let t = (number_of c k.types).0 in
    let form = access_to name.text r.r.0 (pool_number (aspect_found k aspect)) in
    let there : slice_get m.types t ≡ Some form = ap (λ (v : Known). slice_get v.types t) r.is ∙ defined_there k name.text c form w.sound slot in
    let last = access_there p.types t name.text r.r.0 (lasts.accesses t name.text r.r.0 (get_form m.types t form there)) in (
      r.r.0,
      last.0,
      last.1,
      designated_read p name.text designated.text t r.r.0 last.0 fit last.1 (w.lasts.type_names r.r.0 designated.text r.found.0) r.found.1,
      aspect_read k m p aspect t name.text r.r.0 last.0 w.agrees q lasts there last.1,
    )

-- a record type that is made of this is there, whatever it overrides
abbrev MadeThere : Context → ℕ → Ident → Composition → Option Finalized → Type 0
MadeThere p t name made final = (z : Option Finalized) × (slice_get p.types t ≡ Some (record_of name.text made.parts made.kinds z)) × (bare_final z ≡ bare_final final)

-- a record type that is made of these components, with a parent part or without one
made_there : (k m : Known) (p : Context) (name : Ident) (before : Composition) (cs : List ComponentTree) (ls : List ℕ) → Legible k p → Sound m → Lasts m p → IsSlot k name.text (completed_type k name) → m ≡ record (with_record k name (composed k before cs)) { limited = ls } → MadeThere p (number_of (completed_type k name) k.types).0 name (composed k before cs) (finalization_made k.controlled (composed k before cs))
made_there k m p name before cs ls w sound lasts slot is =
    let c = completed_type k name in
    let made = composed k before cs in
    let n = number_of c k.types in
    let form = type_made k.controlled name made in
    let e = entity.Record n made.size in
    let there : slice_get m.types n.0 ≡ Some form = ap (λ (v : Known). slice_get v.types n.0) is ∙ defined_there k name.text c form w.sound slot in
    let on : bytes_eq name.text name.text ≡ true = same_text name.text name.text refl in
    let mine : named name.text m.here.names ≡ Some e =
    ap (λ (v : Known). named name.text v.here.names) is ∙ (named_entered k.here.names name.text name.text e ∙ ap (λ (b : Bool). cond b (Some e) (named name.text k.here.names)) on) in
    record_there p.types n.0 name.text made.parts made.kinds (bare_final (finalization_made k.controlled made)) (lasts.settled n.0 (bare form) (get_form m.types n.0 form there) (record_settled m name.text n made.size sound mine))

-- `type T is record .. end record;`
record_type_read : (k m : Known) (p : Context) (spot : Spot) (name : Ident) (definition : RecordTree) → Legible k p → Sound m → Lasts m p → IsSlot k name.text (completed_type k name) → m ≡ record_type_known k name definition → Quiet (record_type_remark k spot name definition) → IsTypeRead p (record_type spot name definition) (number_of (completed_type k name) k.types).0
record_type_read k m p spot name definition w sound lasts slot is q =
    let cs = components_written definition in
    let made = composed k no_components cs in
    let there = made_there k m p name no_components cs k.limited w sound lasts slot is in
    let whole = composed_parts k no_components cs in (
      made.parts,
      made.kinds,
      there.0,
      there.1,
      subst (λ (ps : List PartForm). AreComponentsRead p cs ps) whole (components_read k p no_components cs w q.1.1),
      subst (λ (ps : List PartForm). AreNamedApart ps) whole (all_apart k no_components cs q.1.1),
      all_laid k p no_components cs by_none w,
      finalized_alike p.types p.place.controlled false made.parts there.0 (finalization_made k.controlled made) there.2 (all_finalized k p false no_components cs by_none refl w),
    )

-- `type T is new Ada.Finalization.Controlled with record .. end record;`
abbrev IsMadeOf : Context → ℕ → List ℕ → (limited : Bool) → List PartForm → List ComponentKind → Option Finalized → Type 0
IsMadeOf p t name limited ps kinds final =
    (slice_get p.types t ≡ Some (record_of name ps kinds final)) × AreLaidOut p.types 0 ps kinds × IsFinalized p.types p.place.controlled limited ps final

parent_limits : (limited : Bool) → limited ≡ (limited || (false || false))
parent_limits true = refl
parent_limits false = refl

derived_type_read : (k m : Known) (p : Context) (spot : Spot) (name : Ident) (parent : NameTree) (definition : RecordTree) → Legible k p → Sound m → Lasts m p → IsSlot k name.text (completed_type k name) → m ≡ derived_type_known k name parent definition → Quiet (derived_type_remark k spot name parent definition) → IsTypeRead p (derived_type spot name parent definition) (number_of (completed_type k name) k.types).0
derived_type_read k m p spot name parent definition w sound lasts slot is q =
    let cs = components_written definition in
    let limited = limited_parent k parent in
    let before = with_parent limited in
    let made = composed k before cs in
    let parts = further_parts k before cs in
    let t = (number_of (completed_type k name) k.types).0 in
    let there = made_there k m p name before cs (limited_with limited (number_of (completed_type k name) k.types) k.limited) w sound lasts slot is in
    let final = there.0 in
    let of : IsMadeOf p t name.text limited (parent_part ∷ parts) made.kinds final =
    subst (λ (ps : List PartForm). IsMadeOf p t name.text limited ps made.kinds final) (sym (composed_parts k before cs)) (
      there.1,
      all_laid k p before cs (by_parent limited) w,
      finalized_alike p.types p.place.controlled limited made.parts final (finalization_made k.controlled made) there.2
          (all_finalized k p limited before cs (by_parent limited) (parent_limits limited) w),
    ) in (
      limited,
      parts,
      made.kinds,
      final,
      of.0,
      parent_read k parent q.1.1.0,
      components_read k p before cs w q.1.1.1,
      parent_apart k limited cs q.1.1.1,
      of.1,
      of.2,
    )

-- `procedure Free is new Ada.Unchecked_Deallocation (T, A);`
record Freed (k m : Known) (p : Context) (name object access : Ident) : Type 0 where
  t : TypeNo
  is : m ≡ declared (with_frozen t.0 (with_elaborated (collects t.0 ∷ []) k)) name.text (entity.Instance t)
  found : FoundAccess k p access object (Some t)

freed_at : (k m : Known) (p : Context) (name object access : Ident) (o : Option TypeNo) → FoundAccess k p access object o → m ≡ instance_of k name o → Freed k m p name object access
freed_at k m p name object access None found is = absurd found
freed_at k m p name object access (Some t) found is = record { t = t; is = is; found = found }

collected_more : (es : List DeclarationForm) (t u : ℕ) → is_collected u (es ++ collects t ∷ []) ≡ (eqb t u || is_collected u es)
collected_more [] t u = refl
collected_more (collects s ∷ es) t u = rw (collected_more es t u) (turn (eqb s u) (eqb t u) (is_collected u es))
  where
    turn : (a b c : Bool) → (a || (b || c)) ≡ (b || (a || c))
    turn true true c = refl
    turn true false c = refl
    turn false b c = refl
collected_more (creates_pool n ∷ es) t u = collected_more es t u
collected_more (declares x value ∷ es) t u = collected_more es t u
collected_more (declares_record x object initial ∷ es) t u = collected_more es t u

instance_first : (k m z : Known) (p : Context) (spot : Spot) (name : Ident) (generic : NameTree) (object access : Ident) (ds : DeclarationsTree) (r : Freed k m p name object access) → IsNew p.place name → IsInstanceRead p generic object access r.t.0 → PartRead (read_at (with_binding name (an_instance r.t.0) p.place) p) ds m z → PartRead p (a_declaration (instance spot name generic object access) ds) k z
instance_first k m z p spot name generic object access ds r new own on = record {
  forms = collects r.t.0 ∷ on.forms;
  end = on.end;
  elaborated = behind_one k.here.elaborated (after_types z).here.elaborated on.forms (collects r.t.0) (on.elaborated ∙ ap (λ (u : Known). u.here.elaborated ++ on.forms) r.is);
  read = λ made w. (r.t.0, on.forms, refl, new, own, on.read (r.t.0 ∷ made) (λ u. ap (λ b. eqb r.t.0 u || b) (w u) ∙ (sym (collected_more k.here.elaborated r.t.0 u) ∙ ap (λ (v : Known). is_collected u v.here.elaborated) (sym r.is))));
  agrees = on.agrees;
}

instance_read : (k : Known) (p : Context) (generic : NameTree) (object access : Ident) (t : TypeNo) → Legible k p → list_all (well.type_fits p.types) p.types ≡ true → Quiet (generic_remark k generic) → FoundAccess k p access object (Some t) → IsInstanceRead p generic object access t.0
instance_read k p generic object access t w fit q (named_so, d, pool, there, form, typed) =
    let last = access_there p.types t.0 access.text d (w.lasts.accesses t.0 access.text d (get_form k.types t.0 (access_to access.text d pool) there)) in
    (generic_read k generic q, (named_so, d, last.0, last.1, designated_read p access.text object.text t.0 d last.0 fit last.1 (w.lasts.type_names d object.text form) typed))

-- `P : Profile_Pools.First_Fit_Pool (64);`
first_fit_is : (withs : Withs) (n : LibraryName) (spot : Spot) → Quiet (library_wrong withs n spot) → Quiet (first_fit_wanted (if_with (is_with withs n) n) spot) → n ≡ FirstFitPool
first_fit_is withs FirstFitPool spot q d = refl
first_fit_is withs TextIo spot q d = absurd (subst (λ (b : Bool). Quiet (first_fit_wanted (if_with b TextIo) spot)) (quiet_unless withs.text_io spot UnknownName q) d)
first_fit_is withs PutLine spot q d = absurd (subst (λ (b : Bool). Quiet (first_fit_wanted (if_with b PutLine) spot)) (quiet_unless withs.text_io spot UnknownName q) d)
first_fit_is withs UncheckedDeallocation spot q d = absurd (subst (λ (b : Bool). Quiet (first_fit_wanted (if_with b UncheckedDeallocation) spot)) (quiet_unless withs.deallocation spot UnknownName q) d)
first_fit_is withs Finalization spot q d = absurd (subst (λ (b : Bool). Quiet (first_fit_wanted (if_with b Finalization) spot)) (quiet_unless withs.finalization spot UnknownName q) d)
first_fit_is withs Controlled spot q d = absurd (subst (λ (b : Bool). Quiet (first_fit_wanted (if_with b Controlled) spot)) (quiet_unless withs.finalization spot UnknownName q) d)
first_fit_is withs LimitedControlled spot q d = absurd (subst (λ (b : Bool). Quiet (first_fit_wanted (if_with b LimitedControlled) spot)) (quiet_unless withs.finalization spot UnknownName q) d)
first_fit_is withs Pools spot q d = absurd (subst (λ (b : Bool). Quiet (first_fit_wanted (if_with b Pools) spot)) (quiet_unless withs.pools spot UnknownName q) d)
first_fit_is withs OfPools spot q d = absurd q
first_fit_is withs RunInput spot q d = absurd (subst (λ (b : Bool). Quiet (first_fit_wanted (if_with b RunInput) spot)) (quiet_unless withs.run_input spot UnknownName q) d)
first_fit_is withs Get spot q d = absurd (subst (λ (b : Bool). Quiet (first_fit_wanted (if_with b Get) spot)) (quiet_unless withs.run_input spot UnknownName q) d)
first_fit_is withs EndError spot q d = absurd (subst (λ (b : Bool). Quiet (first_fit_wanted (if_with b EndError) spot)) (quiet_unless withs.run_input spot UnknownName q) d)
first_fit_is withs OtherUnit spot q d = absurd q
first_fit_is withs Unknown spot q d = absurd q

pool_type_read : (k : Known) (type_name : NameTree) → Quiet (pool_type_remark k type_name) → library_name type_name.first.text type_name.rest ≡ FirstFitPool
unfolding pool_type_remark
pool_type_read k type_name q = by_root (is_library_root type_name.first.text) q
  where
    by_entity : (o : Option Entity) → Quiet (no_pool_type o type_name.first) → ⊥
    by_entity (Some e) q = q
    by_entity None q = q

    by_root : (b : Bool) → Quiet (cond b (library_remark k type_name.first type_name.rest also first_fit_wanted (if_with (is_with k.withs (library_name type_name.first.text type_name.rest)) (library_name type_name.first.text type_name.rest)) type_name.first.spot) (no_pool_type (visible k type_name.first.text) type_name.first)) → library_name type_name.first.text type_name.rest ≡ FirstFitPool
    by_root true q = first_fit_is k.withs (library_name type_name.first.text type_name.rest) type_name.first.spot q.0 q.1
    by_root false q = absurd (by_entity (visible k type_name.first.text) q)

label_read : (label : Option Ident) → Quiet (label_remark label) → IsLabelRead label
label_read None q = tt
label_read (Some label) q = text_same label.text (codes "POOL_SIZE") (quiet_unless (bytes_eq label.text (codes "POOL_SIZE")) label.spot (no_component_rule label.text) q)

size_named : (p : Context) (name : Ident) (o : Option Entity) → ((e : Entity) → o ≡ Some e → EntityRead p name.text e) → Quiet (size_wanted o name) → IsNumberNamed p name.text (pos (size_in o)) × (size_in o ≤ most_words)
size_named p name (Some (entity.Number (pos n))) r q =
    (r (entity.Number (pos n)) refl, leb-true n most_words (second_part (nat_le 0 n) (nat_le n most_words) (quiet_unless (is_size (pos n)) name.spot Limit q)))
size_named p name (Some (entity.Number (negsuc n))) r q = let no : false ≡ true = quiet_unless (is_size (negsuc n)) name.spot Limit q in absurd (cc no)
size_named p name (Some e) r q = absurd q
size_named p name None r q = absurd q

size_read : (k : Known) (p : Context) (size : SizeTree) → Agrees k p.place → Quiet (size_remark k size) → IsSizeRead p size (size_value k size) × (size_value k size ≤ most_words)
size_read k p (number_size spot n) w q = (refl, leb-true n most_words (quiet_unless (nat_le n most_words) spot Limit q))
size_read k p (named_size name) w q = size_named p name (visible k name.text) (visible_read k p w name.text) q

pool_agrees : (k : Known) (place : Place) (name : Ident) (size : SizeTree) → Agrees k place → Agrees (pool_known k name size) (with_new_pool name place)
pool_agrees k place name size w = record {
  here = stands_entered k.here.names place.here name (entity.Pool (next_pool k)) (a_pool place.pools) (ap (λ (n : ℕ). Some (a_pool n)) (sym w.pools)) w.here;
  outer = w.outer;
  first_type = w.first_type;
  types = w.types;
  pools = one_longer k.pools (record { name = name.text; words = size_value k size }) place.pools w.pools;
  placed = w.placed;
  bodies = w.bodies;
  variables = w.variables;
  exceptions = w.exceptions;
  texts = w.texts;
  controlled = w.controlled;
  limited = w.limited;
  specified = w.specified;
  overridden = w.overridden;
  kept = w.kept;
}

collected_pool : (es : List DeclarationForm) (n u : ℕ) → is_collected u (es ++ creates_pool n ∷ []) ≡ is_collected u es
collected_pool [] n u = refl
collected_pool (creates_pool m ∷ es) n u = collected_pool es n u
collected_pool (collects s ∷ es) n u = ap (λ (b : Bool). eqb s u || b) (collected_pool es n u)
collected_pool (declares x value ∷ es) n u = collected_pool es n u
collected_pool (declares_record x object initial ∷ es) n u = collected_pool es n u

pool_first : (k m z : Known) (p : Context) (name : Ident) (type_name : NameTree) (label : Option Ident) (size : SizeTree) (ds : DeclarationsTree) → Agrees k p.place → m ≡ pool_known k name size → IsNew p.place name → IsPoolRead p name type_name label size → PartRead (read_at (with_new_pool name p.place) p) ds m z → PartRead p (a_declaration (pool_declaration name type_name label size) ds) k z
pool_first k m z p name type_name label size ds w is new own on =
    let made_pool : DeclarationForm = creates_pool (length k.pools) in
    record {
      forms = made_pool ∷ on.forms;
      end = on.end;
      elaborated = behind_one k.here.elaborated (after_types z).here.elaborated on.forms made_pool (on.elaborated ∙ ap (λ (u : Known). u.here.elaborated ++ on.forms) is);
      read = λ made collected. (
        on.forms,
        ap (λ (n : ℕ). creates_pool n ∷ on.forms) (sym w.pools),
        new,
        own,
        on.read made (λ u. collected u ∙ (sym (collected_pool k.here.elaborated (length k.pools) u) ∙ ap (λ (v : Known). is_collected u v.here.elaborated) (sym is))),
      );
      agrees = on.agrees;
    }

-- `for A'Storage_Pool use P;`
record ClauseDone (k m : Known) (p : Context) (name attribute : Ident) (value : SizeTree) : Type 0 where
  t : ℕ
  agrees : Agrees m (with_placed t p.place)
  elaborated : m.here.elaborated ≡ k.here.elaborated
  specified : m.here.specified ≡ k.here.specified
  going : types_go_on m ≡ types_go_on k
  read : Lasts m p → IsClauseRead p name attribute value t

placed_agrees : (k : Known) (place : Place) (t : TypeNo) (pool : PoolNo) → well.is_access k.types t.0 ≡ true → pool_of k.types t.0 ≡ None → Agrees k place → Agrees (clauses.with_placed t pool k) (with_placed t.0 place)
placed_agrees k place t pool is none w = record {
  here = w.here;
  outer = w.outer;
  first_type = w.first_type;
  types = w.types ∙ sym (placed_length pool.0 k.types t.0);
  pools = w.pools;
  placed = λ u. ap (λ (b : Bool). eqb t.0 u || b) (w.placed u) ∙ sym (pool_placed pool.0 k.types t.0 is none u);
  bodies = w.bodies;
  variables = w.variables;
  exceptions = w.exceptions;
  texts = w.texts;
  controlled = w.controlled;
  limited = w.limited;
  specified = w.specified;
  overridden = λ o u. overrider_placed pool.0 k.types t.0 o u ∙ w.overridden o u;
  kept = w.kept;
}

clause_named : (k m : Known) (p : Context) (spot : Spot) (name attribute pool_name : Ident) (t : TypeNo) → Sound k → Agrees k p.place → is_storage_pool attribute ≡ true → EntityFits k.types k.variables name.text (entity.Access t) → EntityRead p name.text (entity.Access t) → Quiet (clause_place_remark k (Some t) spot) → PoolRead k p pool_name → m ≡ placed_if (Some t) (pool_found k pool_name) k → ClauseDone k m p name attribute (named_size pool_name)
clause_named k m p spot name attribute pool_name t s w on f r q pool is =
    let n = pool.pool in
    let so : m ≡ clauses.with_placed t n k = is ∙ ap (λ (o : Option PoolNo). placed_if (Some t) o k) pool.found in
    let there : well.is_access k.types t.0 ≡ true = ap (λ (o : Option TypeForm). is_some (well.designated_in o)) f.2 in
    let none : pool_of k.types t.0 ≡ None = no_pool (pool_of k.types t.0) (quiet_if (is_some (pool_of k.types t.0)) spot Layout q.1.0) in
    let same : forms m.types ≡ forms k.types = ap (λ (v : Known). forms v.types) so ∙ placed_forms n.0 k.types t.0 in
    record {
      t = t.0;
      agrees = subst (λ (v : Known). Agrees v (with_placed t.0 p.place)) (sym so) (placed_agrees k p.place t n there none w);
      elaborated = ap (λ (v : Known). v.here.elaborated) so;
      specified = ap (λ (v : Known). v.here.specified) so;
      going = ap (λ (v : Known). types_go_on v) so;
      read = λ lasts.
          let form : slice_get (forms m.types) t.0 ≡ Some (access_to name.text f.0 None) =
          ap (λ (ts : List TypeForm). slice_get ts t.0) same ∙ get_form k.types t.0 (access_to name.text f.0 f.1) f.2 in
          let has : pool_of m.types t.0 ≡ Some n.0 = ap (λ (v : Known). pool_of v.types t.0) so ∙ placed_pool n.0 k.types t.0 there in (
            text_same attribute.text (codes "STORAGE_POOL") on,
            f.0,
            n.0,
            r,
            placed_there p.types t.0 name.text f.0 n.0 (lasts.accesses t.0 name.text f.0 form) (lasts.placed t.0 n.0 has),
            pool.named_so,
            subst (λ (first : ℕ). first ≤ t.0) (sym w.first_type) (ltb-false t.0 k.here.first_type (quiet_if (nat_lt t.0 k.here.first_type) spot Layout q.0)),
            w.placed t.0 ∙ ap (λ (o : Option ℕ). is_some o) none,
          );
    }

clause_at : (k m : Known) (p : Context) (spot : Spot) (name attribute : Ident) (value : SizeTree) (o : Option Entity) → Sound k → Agrees k p.place → is_storage_pool attribute ≡ true → ((e : Entity) → o ≡ Some e → EntityFits k.types k.variables name.text e) → ((e : Entity) → o ≡ Some e → EntityRead p name.text e) → Quiet (missing o name) → Quiet (clause_type_wanted o name.spot) → Quiet (clause_place_remark k (access_type_in o) spot) → Quiet (clause_value_remark k value) → m ≡ placed_if (access_type_in o) (clause_pool k value) k → ClauseDone k m p name attribute value
clause_at k m p spot name attribute (number_size at n) o s w on f r q a b c is = absurd c
clause_at k m p spot name attribute (named_size pool) (Some (entity.Access t)) s w on f r q a b c is =
    clause_named k m p spot name attribute pool t s w on (f (entity.Access t) refl) (r (entity.Access t) refl) b (pool_read k p pool w c) is
clause_at k m p spot name attribute (named_size pool) (Some e) s w on f r q a b c is = absurd a
clause_at k m p spot name attribute (named_size pool) None s w on f r q a b c is = absurd q

clause_done : (k m : Known) (p : Context) (spot : Spot) (name attribute : Ident) (value : SizeTree) → Sound k → Agrees k p.place → Quiet (clause_remark k spot name attribute value) → m ≡ clause_known k name value → ClauseDone k m p name attribute value
clause_done k m p spot name attribute value s w q is =
    let stored = storage_quiet k spot name attribute value q in
    clause_at k m p spot name attribute value (visible k name.text) s w stored.0 (visible_fits k s.names name.text) (visible_read k p w name.text) q.1.0 stored.1.0 stored.1.1.0 stored.1.1.1 is

-- how the declarations behind one are read
abbrev pub ReadsRest : DeclarationsTree → At → Type 0
ReadsRest ds after =
    (q : Context) (next : At) → Sound next.0 → Agrees next.0 q.place → Early next.0 q.place → types_go_on next.0 ≡ true → Ahead after.0 q → list_all (well.type_fits q.types) q.types ≡ true →
    declarations_told ds next ≡ gives after → PartRead q ds next.0 after.0

counted_bare : (n : ℕ) (o : Option Finalized) → counted (bare_final o) n ≡ counted o n
counted_bare n None = refl
counted_bare n (Some f) = refl

-- a record type that is made overrides nothing yet
made_inherits : (n : ℕ) (name : Ident) (made : Composition) → Inherits (type_made n name made)
made_inherits n name made = by_count (eqb made.controlled 0)
  where
    by_count : (b : Bool) → operations_in (cond b None (Some (record { number = record { 0 = n }; parts = made.controlled; limited = made.limited; operations = no_operations }))) ≡ no_operations
    by_count true = refl
    by_count false = refl

-- the parent that is written makes a type limited
limited_as_read : (parent : NameTree) (b : Bool) → IsParentRead parent b → is_limited_parent (Some (library_name parent.first.text parent.rest)) ≡ b
limited_as_read parent true e = ap (λ (n : LibraryName). is_limited_parent (Some n)) e
limited_as_read parent false e = ap (λ (n : LibraryName). is_limited_parent (Some n)) e

limits_now : (b : Bool) (t : TypeNo) (ts ls : List ℕ) → ((u : ℕ) → is_one_of u ts ≡ is_among u ls) → (u : ℕ) → is_one_of u (cond b (t.0 ∷ ts) ts) ≡ is_among u (limited_with b t ls)
limits_now true t ts ls w u = ap (λ (b : Bool). eqb t.0 u || b) (w u) ∙ sym (limited_now ls t.0 u)
limits_now false t ts ls w u = w u

parent_limits_now : (k : Known) (p : Context) (spot : Spot) (name : Ident) (parent : NameTree) (definition : RecordTree) (t : TypeNo) → Agrees k p.place → Quiet (parent_remark k parent) → (u : ℕ) → is_one_of u (limited_by (derived_type spot name parent definition) t.0 p.place.limited) ≡ is_among u (limited_with (limited_parent k parent) t k.limited)
parent_limits_now k p spot name parent definition t w q u =
    ap (λ (b : Bool). is_one_of u (cond b (t.0 ∷ p.place.limited) p.place.limited)) (limited_as_read parent (limited_parent k parent) (parent_read k parent q)) ∙
    limits_now (limited_parent k parent) t p.place.limited k.limited w.limited u

-- a record type, and what follows it
record_first : (p : Context) (d : DeclarationTree) (ds : DeclarationsTree) (at after : At) (name : Ident) (spot : Spot) (made : Composition) (ls : List ℕ) → IsFullType d → ((t : ℕ) (ps : List ℕ) → names_pool d t ps ≡ ps) → ((u : ℕ) → is_one_of u (limited_by d (number_of (completed_type at.0 name) at.0.types).0 p.place.limited) ≡ is_among u ls) → Sound at.0 → Agrees at.0 p.place → Early at.0 p.place → types_go_on at.0 ≡ true → Ahead after.0 p → list_all (well.type_fits p.types) p.types ≡ true → (next : Next d ds at after) → next.then.0 ≡ record (with_record at.0 name made) { limited = ls } → Quiet (new_unless (completed_type at.0 name) (new_name_remark at.0 name spot)) → IsSlot at.0 name.text (completed_type at.0 name) → IsTypeRead p d (number_of (completed_type at.0 name) at.0.types).0 → MadeThere p (number_of (completed_type at.0 name) at.0.types).0 name made (finalization_made at.0.controlled made) → ((collected : List ℕ) (place : Place) → IsTypeDeclared p d name place → (forms : List DeclarationForm) (end : Place) → IsPartRead (read_at place p) (Some collected) ds forms end → IsPartRead p (Some collected) (a_declaration d ds) forms end) → ReadsRest ds after → PartRead p (a_declaration d ds) at.0 after.0
record_first p d ds at after name spot made ls full unplaced limits s w early none ahead fit next is q slot own there more rest =
    let k = at.0 in
    let completes = completed_type k name in
    let final = there.0 in
    let place = type_place completes name d final p.place in
    let form = type_made k.controlled name made in
    let counts : counted final k.controlled ≡ counted (finalization_made k.controlled made) k.controlled =
    same_final (λ o. counted o k.controlled) (counted_bare k.controlled) final (finalization_made k.controlled made) there.2 in
    let agrees : Agrees next.then.0 place = subst (λ u. Agrees u place) (sym (is ∙ ap (λ (n : ℕ). defining k name completes form (entity.Record (number_of completes k.types) made.size) n ls) (sym counts)))
    (agrees_type k p.place name completes d form (entity.Record (number_of completes k.types) made.size) final ls full refl
    (λ u. ap (λ (ps : List ℕ). is_one_of u ps) (unplaced (number_of completes k.types).0 p.place.placed) ∙ (w.placed u ∙ sym (none_defined k.types completes form u (had_none k name.text completes s slot) refl)))
    limits (overrider_defined k.types completes form (inherited_none k name.text completes s slot) (made_inherits k.controlled name made)) w) in
    let on = rest (read_at place p) next.then next.sound agrees (type_early k next.then.0 p.place name completes d final full (ap (λ (v : Known). v.here.specified) is) early) (ap (λ (v : Known). types_go_on v) is ∙ none) (ahead_at after.0 p place ahead) fit next.rest in
    plain_first k next.then.0 after.0 p (read_at place p) d ds (ap (λ (v : Known). v.here.elaborated) is) on
    (λ collected m. more collected place (type_first k p name completes d spot final w slot q own (ap (λ (o : Option TypeForm). well.finalization_in o) there.1)) on.forms on.end m)

-- a record type that a name stands for lasts
records_last : (k : Known) (p : Context) → Legible k p → RecordsStay k p
records_last k p w text t size is ps cs final there =
    let last = record_lasts k p w.lasts t.0 text ps cs final there (visible_settled k text t size w.sound is) in (last.0, last.1)

-- a declaration with no others in it, where the types go on
pub part_first : (p : Context) (d : DeclarationTree) (ds : DeclarationsTree) (at after : At) → IsSingle d → Sound at.0 → Agrees at.0 p.place → Early at.0 p.place → types_go_on at.0 ≡ true → Over after.0 → Ahead after.0 p → list_all (well.type_fits p.types) p.types ≡ true → declarations_told (a_declaration d ds) at ≡ gives after → ReadsRest ds after → PartRead p (a_declaration d ds) at.0 after.0
part_first p (body_declaration head inner body end_name) ds at after single s w early none c ahead fit e rest = absurd single
part_first p (incomplete_type spot name) ds at after single s w early none c ahead fit e rest =
    let next = next_of (incomplete_type spot name) ds at after tt s e in
    let place = with_incomplete_type name p.place in
    let form = record_of name.text [] [] None in
    let agrees : Agrees next.then.0 place = subst (λ u. Agrees u place) (sym next.is)
    (agrees_declared at.0 p.place name (entity.Incomplete (record { 0 = length at.0.types })) (an_incomplete_type p.place.types) (at.0.types ++ form ∷ []) at.0.variables at.0.exceptions at.0.frozen at.0.here.elaborated
    (p.place.types + 1) p.place.variables p.place.exceptions p.place.placed (ap (λ (n : ℕ). Some (an_incomplete_type n)) (sym w.types)) (one_longer at.0.types form p.place.types w.types) w.variables w.exceptions (λ u. w.placed u ∙ sym (none_more at.0.types form u refl)) (overrider_more at.0.types form refl) w) in
    let on = rest (read_at place p) next.then next.sound agrees (early_on at.0 next.then.0 p.place place refl refl refl (omega arith) (ap (λ (v : Known). v.here.specified) next.is) early) (ap (λ (v : Known). types_go_on v) next.is ∙ none) (ahead_at after.0 p place ahead) fit next.rest in
    plain_first at.0 next.then.0 after.0 p (read_at place p) (incomplete_type spot name) ds (ap (λ (v : Known). v.here.elaborated) next.is) on (λ made r. (new_there at.0 p.place name spot w next.quiet.1, r))
part_first p (access_type spot name designated aspect) ds at after single s w early none c ahead fit e rest =
    let d = access_type spot name designated aspect in
    let next = next_of d ds at after tt s e in
    let k = at.0 in
    let q = next.quiet in
    let completes = completed_type k name in
    let r = access_done k next.then.0 p name designated aspect (record_found k designated) (record_read k p designated s.names w q.1.1.1.0) next.is in
    let slot = slot_of k name spot q.1.1.0 in
    let place = type_place completes name d None p.place in
    let agrees : Agrees next.then.0 place = subst (λ u. Agrees u place) (sym r.is)
    (agrees_type k p.place name completes d (access_to name.text r.r.0 (pool_number (aspect_found k aspect))) (entity.Access (number_of completes k.types)) None k.limited tt refl
    (aspect_agrees k p name aspect completes r.r s slot w q.1.1.1.1) w.limited
    (overrider_defined k.types completes (access_to name.text r.r.0 (pool_number (aspect_found k aspect))) (inherited_none k name.text completes s slot) refl) w) in
    let on = rest (read_at place p) next.then next.sound agrees (type_early k next.then.0 p.place name completes d None tt (ap (λ (v : Known). v.here.specified) r.is) early) (ap (λ (v : Known). types_go_on v) r.is ∙ none) (ahead_at after.0 p place ahead) fit next.rest in
    let legible = legible_at k after.0 p s w (declarations_keep (a_declaration d ds) at after s e) ahead in
    let lasts = lasts_on next.then.0 after.0 p next.sound next.to_end (lasts_ahead after.0 p ahead) in
    let own = access_type_read k next.then.0 p spot name designated aspect legible lasts slot fit q.1.1.1.1 r in
    plain_first k next.then.0 after.0 p (read_at place p) d ds (ap (λ (v : Known). v.here.elaborated) r.is) on
    (λ made m. (place, type_first k p name completes d spot None w slot q.1.1.0 own (ap (λ (o : Option TypeForm). well.finalization_in o) own.2), m))
part_first p (record_type spot name definition) ds at after single s w early none c ahead fit e rest =
    let d = record_type spot name definition in
    let next = next_of d ds at after tt s e in
    let k = at.0 in
    let slot = slot_of k name spot next.quiet.1.0 in
    let legible = legible_at k after.0 p s w (declarations_keep (a_declaration d ds) at after s e) ahead in
    let lasts = lasts_on next.then.0 after.0 p next.sound next.to_end (lasts_ahead after.0 p ahead) in
    record_first p d ds at after name spot (composed k no_components (components_written definition)) k.limited tt (λ t ps. refl) w.limited s w early none ahead fit next next.is next.quiet.1.0 slot
    (record_type_read k next.then.0 p spot name definition legible next.sound lasts slot next.is next.quiet)
    (made_there k next.then.0 p name no_components (components_written definition) k.limited legible next.sound lasts slot next.is) (λ made place more forms end m. (place, more, m)) rest
part_first p (derived_type spot name parent definition) ds at after single s w early none c ahead fit e rest =
    let d = derived_type spot name parent definition in
    let next = next_of d ds at after tt s e in
    let k = at.0 in
    let slot = slot_of k name spot next.quiet.1.0 in
    let legible = legible_at k after.0 p s w (declarations_keep (a_declaration d ds) at after s e) ahead in
    let lasts = lasts_on next.then.0 after.0 p next.sound next.to_end (lasts_ahead after.0 p ahead) in
    record_first p d ds at after name spot (composed k (with_parent (limited_parent k parent)) (components_written definition)) (limited_with (limited_parent k parent) (number_of (completed_type k name) k.types) k.limited) tt (λ t ps. refl)
    (parent_limits_now k p spot name parent definition (number_of (completed_type k name) k.types) w next.quiet.1.1.0) s w early none ahead fit next next.is next.quiet.1.0 slot
    (derived_type_read k next.then.0 p spot name parent definition legible next.sound lasts slot next.is next.quiet)
    (made_there k next.then.0 p name (with_parent (limited_parent k parent)) (components_written definition) (limited_with (limited_parent k parent) (number_of (completed_type k name) k.types) k.limited) legible next.sound lasts slot next.is) (λ made place more forms end m. (place, more, m)) rest
part_first p (constant_declaration name value) ds at after single s w early none c ahead fit e rest =
    let next = next_of (constant_declaration name value) ds at after tt s e in
    let n = static_value at.0 value in
    let place = with_binding name (a_number n) p.place in
    let agrees : Agrees next.then.0 place = subst (λ u. Agrees u place) (sym next.is)
    (agrees_declared at.0 p.place name (entity.Number n) (a_number n) at.0.types at.0.variables at.0.exceptions at.0.frozen at.0.here.elaborated p.place.types p.place.variables p.place.exceptions p.place.placed refl w.types w.variables w.exceptions w.placed (λ o u. refl) w) in
    let on = rest (read_at place p) next.then next.sound agrees (early_on at.0 next.then.0 p.place place refl refl refl (omega arith) (ap (λ (v : Known). v.here.specified) next.is) early) (ap (λ (v : Known). types_go_on v) next.is ∙ none) (ahead_at after.0 p place ahead) fit next.rest in
    let own = static_read at.0 p value w next.quiet.1.1 in
    plain_first at.0 next.then.0 after.0 p (read_at place p) (constant_declaration name value) ds (ap (λ (v : Known). v.here.elaborated) next.is) on (λ made r. (n, new_there at.0 p.place name name.spot w next.quiet.1.0, own, r))
part_first p (exception_declaration name) ds at after single s w early none c ahead fit e rest =
    let next = next_of (exception_declaration name) ds at after tt s e in
    let k = at.0 in
    let place = with_new_exception name p.place in
    let agrees : Agrees next.then.0 place = subst (λ u. Agrees u place) (sym next.is)
    (agrees_declared k p.place name (entity.Exception (exception.Declared (next_exception k))) (an_exception p.place.exceptions) k.types k.variables (k.exceptions ++ name.text ∷ []) k.frozen k.here.elaborated
    p.place.types p.place.variables (p.place.exceptions + 1) p.place.placed (ap (λ (n : ℕ). Some (an_exception n)) (sym w.exceptions)) w.types w.variables (one_longer k.exceptions name.text p.place.exceptions w.exceptions) w.placed (λ o u. refl) w) in
    let on = rest (read_at place p) next.then next.sound agrees (early_on at.0 next.then.0 p.place place refl refl refl (omega arith) (ap (λ (v : Known). v.here.specified) next.is) early) (ap (λ (v : Known). types_go_on v) next.is ∙ none) (ahead_at after.0 p place ahead) fit next.rest in
    let there : slice_get next.then.0.exceptions (length k.exceptions) ≡ Some name.text =
    ap (λ (v : Known). slice_get v.exceptions (length k.exceptions)) next.is ∙ get_last k.exceptions name.text in
    let last = ahead.exceptions (length k.exceptions) name.text (next.to_end.exceptions (length k.exceptions) name.text there) in
    let own : slice_get p.exceptions p.place.exceptions ≡ Some name.text = ap (λ (n : ℕ). slice_get p.exceptions n) w.exceptions ∙ last in
    plain_first k next.then.0 after.0 p (read_at place p) (exception_declaration name) ds (ap (λ (v : Known). v.here.elaborated) next.is) on (λ made r. (new_there k p.place name name.spot w next.quiet.1, own, r))
part_first p (pool_declaration name type_name label size) ds at after single s w early none c ahead fit e rest =
    let d = pool_declaration name type_name label size in
    let next = next_of d ds at after tt s e in
    let k = at.0 in
    let q = next.quiet in
    let place = with_new_pool name p.place in
    let agrees : Agrees next.then.0 place = subst (λ u. Agrees u place) (sym next.is) (pool_agrees k p.place name size w) in
    let on = rest (read_at place p) next.then next.sound agrees (early_on at.0 next.then.0 p.place place refl refl refl (omega arith) (ap (λ (v : Known). v.here.specified) next.is) early) (ap (λ (v : Known). types_go_on v) next.is ∙ none) (ahead_at after.0 p place ahead) fit next.rest in
    let pool : PoolForm = record { name = name.text; words = size_value k size } in
    let there : slice_get next.then.0.pools (length k.pools) ≡ Some pool = ap (λ (v : Known). slice_get v.pools (length k.pools)) next.is ∙ get_last k.pools pool in
    let last = ahead.pools (length k.pools) pool (next.to_end.pools (length k.pools) pool there) in
    let sized = size_read k p size w q.1.1.1.1 in
    pool_first k next.then.0 after.0 p name type_name label size ds w next.is (new_there k p.place name name.spot w q.1.0)
    (size_value k size, ap (λ (n : ℕ). slice_get p.pools n) w.pools ∙ last, pool_type_read k type_name q.1.1.0, label_read label q.1.1.1.0, sized.0, sized.1) on
part_first p (attribute_clause spot name attribute value) ds at after single s w early none c ahead fit e rest =
    let d = attribute_clause spot name attribute value in
    let next = next_of d ds at after tt s e in
    let k = at.0 in
    let r = clause_done k next.then.0 p spot name attribute value s w next.quiet next.is in
    let place = with_placed r.t p.place in
    let on = rest (read_at place p) next.then next.sound r.agrees (early_on k next.then.0 p.place place refl refl refl (omega arith) r.specified early) (r.going ∙ none) (ahead_at after.0 p place ahead) fit next.rest in
    let lasts = lasts_on next.then.0 after.0 p next.sound next.to_end (lasts_ahead after.0 p ahead) in
    plain_first k next.then.0 after.0 p (read_at place p) d ds r.elaborated on (λ made m. (r.t, r.read lasts, m))
part_first p (instance spot name generic object access) ds at after single s w early none c ahead fit e rest =
    let d = instance spot name generic object access in
    let next = next_of d ds at after tt s e in
    let k = at.0 in
    let q = next.quiet in
    let found = access_read k p access object (record_found k object) s.names w (record_read k p object s.names w q.1.1.1.0) q.1.1.1.1.1.0 in
    let r = freed_at k next.then.0 p name object access (freed_found k access (record_found k object)) found next.is in
    let place = with_binding name (an_instance r.t.0) p.place in
    let agrees : Agrees next.then.0 place = subst (λ u. Agrees u place) (sym r.is)
    (agrees_declared k p.place name (entity.Instance r.t) (an_instance r.t.0) k.types k.variables k.exceptions (frozen_by k.types k.controlled r.t.0 k.frozen) (k.here.elaborated ++ collects r.t.0 ∷ []) p.place.types p.place.variables p.place.exceptions p.place.placed refl w.types w.variables w.exceptions w.placed (λ o u. refl) w) in
    let on = rest (read_at place p) next.then next.sound agrees (early_on k next.then.0 p.place place refl refl refl (omega arith) (ap (λ (v : Known). v.here.specified) r.is) early) (ap (λ (v : Known). types_go_on v) r.is ∙ none) (ahead_at after.0 p place ahead) fit next.rest in
    let legible = legible_at k after.0 p s w (declarations_keep (a_declaration d ds) at after s e) ahead in
    instance_first k next.then.0 after.0 p spot name generic object access ds r (new_there k p.place name spot w q.1.0) (instance_read k p generic object access r.t legible fit q.1.1.0 r.found) on
part_first p (object_declaration name type_name initial) ds at after single s w early none c ahead fit e rest =
    let d = object_declaration name type_name initial in
    let next = next_of d ds at after tt s e in
    let made = object_made name type_name initial (after_types at.0) next.then.0 next.quiet next.is in
    let place = made.place p.place in
    let on = variable_read p d name ds at after s w c.complete ahead e next made
    (λ agrees filled. objects_read (read_at place p) ds next.then after next.sound agrees filled c.complete (ahead_at after.0 p place ahead) next.rest) in
    variables_left p d ds at after (object_ends p name type_name initial ds) s w early.waits none c ahead e on
part_first p (borrower_declaration name designated initial) ds at after single s w early none c ahead fit e rest =
    let d = borrower_declaration name designated initial in
    let next = next_of d ds at after tt s e in
    let made = borrower_made name designated initial (after_types at.0) next.then.0 (ended_sound at.0 s) next.quiet next.is in
    let place = made.place p.place in
    let on = variable_read p d name ds at after s w c.complete ahead e next made
    (λ agrees filled. objects_read (read_at place p) ds next.then after next.sound agrees filled c.complete (ahead_at after.0 p place ahead) next.rest) in
    variables_left p d ds at after (borrower_ends p name designated initial ds) s w early.waits none c ahead e on
part_first p (specification head) ds at after single s w early none c ahead fit e rest =
    let d = specification head in
    let next = next_of d ds at after tt s e in
    let k = at.0 in
    let r = specification_done k next.then.0 head next.quiet next.is in
    let formal = formal_name head.formals in
    let place = with_specified r.operation r.t formal p.place in
    let agrees : Agrees next.then.0 place = subst (λ u. Agrees u place) (sym r.is) (specified_agrees k p.place r.operation r.t formal w) in
    let legible = legible_at k after.0 p s w (declarations_keep (a_declaration d ds) at after s e) ahead in
    let own = operation_read k p r.operation head r.t s.names w (records_last k p legible) r.named r.operand in
    let less : r.t < p.place.types = subst (λ (n : ℕ). r.t < n) (sym w.types) (operand_below k r.operation head r.t r.operand) in
    let new = w.specified r.operation r.t ∙ r.new in
    let begun : Early next.then.0 place = subst (λ u. Early u place) (sym r.is) (specified_early k p.place r.operation r.t formal new own.own less early) in
    let on = rest (read_at place p) next.then next.sound agrees begun (ap (λ (v : Known). types_go_on v) r.is ∙ none) (ahead_at after.0 p place ahead) fit next.rest in
    plain_first k next.then.0 after.0 p (read_at place p) d ds (ap (λ (v : Known). v.here.elaborated) r.is) on
    (λ made m. (r.operation, r.t, formal, own, new, m))

-- where the types have ended, nothing is created but objects
late_full : (k z : Known) (p : Context) (ds : DeclarationsTree) → ((end : Place) → EndsBefore p ds end) → Waits k p.place → types_go_on k ≡ false → Over z → ObjectsRead p ds (after_types k) z → LateRead p ds k z
late_full k z p ds ends waits late c on = record {
  forms = on.forms;
  end = on.end;
  elaborated = ap (λ (v : Known). v.here.elaborated) (after_full z (some_variable z on.full)) ∙ (on.elaborated ∙ ap (λ (v : Known). v.here.elaborated ++ on.forms) (after_full k late));
  read = ends on.end None on.forms on.forms refl (none_waits k z p ds waits c on) on.read;
  agrees = on.agrees;
}

pub late_none : (p : Context) (at after : At) → Agrees at.0 p.place → Waits at.0 p.place → types_go_on at.0 ≡ false → Over after.0 → declarations_told no_declarations at ≡ gives after → LateRead p no_declarations at.0 after.0
late_none p at after w waits late c e =
    let same : at.0 ≡ after.0 = ap (λ (v : At). v.0) (gives_same at after e) in
    subst (λ (v : At). LateRead p no_declarations at.0 v.0) (gives_same at after e) (record {
      forms = [];
      end = p.place;
      elaborated = ap (λ (v : Known). v.here.elaborated) (after_full at.0 late) ∙ sym (append-nil at.0.here.elaborated);
      read = ([], refl, have_bodies at.0 p.place waits (ap (λ (v : Known). v.here.specified.awaited) same ∙ c.awaited), refl);
      agrees = w;
    })

-- a declaration with no others in it, behind the types
pub late_first : (p : Context) (d : DeclarationTree) (ds : DeclarationsTree) (at after : At) → IsSingle d → Sound at.0 → Agrees at.0 p.place → Waits at.0 p.place → types_go_on at.0 ≡ false → Over after.0 → Ahead after.0 p → declarations_told (a_declaration d ds) at ≡ gives after → LateRead p (a_declaration d ds) at.0 after.0
late_first p (body_declaration head inner body end_name) ds at after single s w waits late c ahead e = absurd single
late_first p (object_declaration name type_name initial) ds at after single s w waits late c ahead e =
    let d = object_declaration name type_name initial in
    let next = next_of d ds at after tt s e in
    let made = object_made name type_name initial (after_types at.0) next.then.0 next.quiet next.is in
    let place = made.place p.place in
    let on = variable_read p d name ds at after s w c.complete ahead e next made
    (λ agrees filled. objects_read (read_at place p) ds next.then after next.sound agrees filled c.complete (ahead_at after.0 p place ahead) next.rest) in
    late_full at.0 after.0 p (a_declaration d ds) (object_ends p name type_name initial ds) waits late c on.objects
late_first p (borrower_declaration name designated initial) ds at after single s w waits late c ahead e =
    let d = borrower_declaration name designated initial in
    let next = next_of d ds at after tt s e in
    let made = borrower_made name designated initial (after_types at.0) next.then.0 (ended_sound at.0 s) next.quiet next.is in
    let place = made.place p.place in
    let on = variable_read p d name ds at after s w c.complete ahead e next made
    (λ agrees filled. objects_read (read_at place p) ds next.then after next.sound agrees filled c.complete (ahead_at after.0 p place ahead) next.rest) in
    late_full at.0 after.0 p (a_declaration d ds) (borrower_ends p name designated initial ds) waits late c on.objects
late_first p (incomplete_type spot name) ds at after single s w waits late c ahead e = absurd (no_types at.0 spot late (next_of (incomplete_type spot name) ds at after tt s e).quiet.0)
late_first p (access_type spot name designated aspect) ds at after single s w waits late c ahead e = absurd (no_types at.0 spot late (next_of (access_type spot name designated aspect) ds at after tt s e).quiet.0)
late_first p (record_type spot name definition) ds at after single s w waits late c ahead e = absurd (no_types at.0 spot late (next_of (record_type spot name definition) ds at after tt s e).quiet.0)
late_first p (derived_type spot name parent definition) ds at after single s w waits late c ahead e = absurd (no_types at.0 spot late (next_of (derived_type spot name parent definition) ds at after tt s e).quiet.0)
late_first p (instance spot name generic object access) ds at after single s w waits late c ahead e = absurd (no_types at.0 spot late (next_of (instance spot name generic object access) ds at after tt s e).quiet.0)
late_first p (constant_declaration name value) ds at after single s w waits late c ahead e = absurd (no_types at.0 name.spot late (next_of (constant_declaration name value) ds at after tt s e).quiet.0)
late_first p (exception_declaration name) ds at after single s w waits late c ahead e = absurd (no_types at.0 name.spot late (next_of (exception_declaration name) ds at after tt s e).quiet.0)
late_first p (pool_declaration name type_name label size) ds at after single s w waits late c ahead e = absurd (no_types at.0 name.spot late (next_of (pool_declaration name type_name label size) ds at after tt s e).quiet.0)
late_first p (attribute_clause spot name attribute value) ds at after single s w waits late c ahead e = absurd (no_types at.0 spot late (next_of (attribute_clause spot name attribute value) ds at after tt s e).quiet.0)
late_first p (specification head) ds at after single s w waits late c ahead e =
    absurd (no_types at.0 (head_spot head) late (specification_begins at.0 head (next_of (specification head) ds at after tt s e).quiet))
