-- Where the types of a part have ended: its collections are open from there on, objects and bodies of procedures follow, and what these create nests.

use Rattle.std.proofs.Common.{◌≡◌, ◌∙◌, ℕ, ◌+◌, ◌≤◌, Bool, true, false, List, [], ◌∷◌, ◌++◌, length, length-append, refl, sym, ap, subst, arith}
use Rattle.std.specs.Prelude.{Option, Some, None, ◌&&◌}
use Rattle.std.specs.List.{list_all}
use Rattle.ada_text.specs.declared.spot.Spot.{Spot}
use Rattle.ada_tree.specs.Declarations.{HeadTree}
use Rattle.ada_tree.specs.Names.{Ident}
use Rattle.ada_tree.specs.Statements.{DeclarationTree, exception_declaration, constant_declaration, pool_declaration, attribute_clause, incomplete_type, access_type, record_type, derived_type, specification, instance}
use Rattle.ada_program.specs.declared.program.PoolNo.{PoolNo}
use Rattle.ada_program.specs.declared.program.TypeNo.{TypeNo}
use Rattle.ada_program.specs.declared.program.VariableKind.{VariableKind}
use Rattle.ada_program.specs.declared.program.VariableKind.TheVariants as variable
use Rattle.ada_program.specs.Form.{ItemForm, PathForm, RightForm, value_of, DeclarationForm, creates_pool, collects, declares, declares_record, StmtsForm, HandlersForm}
use Rattle.ada_program.specs.Nested.{collected, record_objects, collection_nests, record_nests, part_nests, body_nests, callees_from}
use Rattle.ada_program.specs.ProgramForm.{TypeForm, record_of, object_of}
use Rattle.ada_resolve.specs.declared.primitives.Operation.{Operation}
use Rattle.ada_resolve.specs.declared.scope.Entity.{Entity}
use Rattle.ada_resolve.specs.declared.scope.Entity.TheVariants as entity
use Rattle.ada_resolve.specs.Borrowers.{borrower_created}
use Rattle.ada_resolve.specs.Clauses.{placed_if, clause_pool}
use Rattle.ada_resolve.specs.Instances.{access_type_in, freed_found, instance_of}
use Rattle.ada_resolve.specs.Known.{Known, Named, Part, entered, named, next_procedure, next_variable, parts, types_go_on, visible}
use Rattle.ada_resolve.specs.Objects.{after_types, ends_types, initial_source, kind_of, initial_value_in, initial_items_in, variable_created, object_created, record_created, created_of, next_record}
use Rattle.ada_resolve.specs.Pools.{aspect_found}
use Rattle.ada_resolve.specs.Primitives.{entered_unless, formal_name, operation_named, overridden_if}
use Rattle.ada_resolve.specs.Procedures.{body_of, head_operand}
use Rattle.ada_resolve.specs.Rights.{Assigned}
use Rattle.ada_resolve.specs.Resolution.{known_at, declaration_known}
use Rattle.ada_resolve.specs.Specifications.{operation_known, specified_if}
use Rattle.ada_resolve.specs.Types.{access_defined, completed_type, record_found}
use Rattle.ada_resolve.proofs.Elaborated.{after_full, after_names}
use Rattle.ada_resolve.proofs.Nesting.Calls.{PartsCall, calls_on, calls_entered, calls_unless, callee_more}
use Rattle.ada_resolve.proofs.Nesting.Callees.{IsAway, wider_same}
use Rattle.ada_resolve.proofs.Nesting.Collected.{IsFresh, own_nests, own_wider, open_behind}
use Rattle.ada_resolve.proofs.Nesting.Declared.{ended_open}
use Rattle.ada_resolve.proofs.Nesting.Open.{RecordOpen, EntityOpen, NamesOpen, PartsOpen, OpenAt, OpenAround, EntityLies, record_later}
use Rattle.ada_resolve.proofs.Standing.{Sound, Complete, longer_types, ended_sound, ended_keeps, around_body, InBody, closed_body, operand_at}
use Rattle.ada_resolve.proofs.WellFormed.Alike.{after_alike}
use Rattle.ada_resolve.proofs.WellFormed.Elaborated.{InOrder, after_late}
use Rattle.ada_resolve.proofs.WellFormed.Forms.{AreIn, forms, forms_in, object_stays, record_stays}
use Rattle.ada_resolve.proofs.WellFormed.Names.{all_entered}
use Rattle.ada_resolve.proofs.WellFormed.Overridden.{if_forms}
use Rattle.ada_resolve.proofs.WellFormed.Placed.{grown}
use Rattle.ada_resolve.proofs.WellFormed.Tables.{all_more, both_parts, first_part, second_part, get_more, get_last}

-- behind more types the same collections are open
entity_later : (around : List ℕ) (types more : List TypeForm) → AreIn (forms types) (forms more) → (e : Entity) → EntityOpen around types e → EntityOpen around more e
entity_later around types more g (entity.Incomplete t) w = w
entity_later around types more g (entity.Record t size) w = record_later around types more t.0 (g t.0) w
entity_later around types more g (entity.Access t) w = w
entity_later around types more g e w = tt

pub parts_later : (around : List ℕ) (types more : List TypeForm) → AreIn (forms types) (forms more) → (ps : List Part) → PartsOpen around types ps → PartsOpen around more ps
parts_later around types more g [] w = tt
parts_later around types more g (p ∷ ps) w = (λ text e is. entity_later around types more g e (w.0 text e is), parts_later around types more g ps w.1)

names_entered : (around : List ℕ) (types : List TypeForm) (ns : List Named) (text : List ℕ) (e : Entity) → EntityOpen around types e → NamesOpen around types ns → NamesOpen around types (entered text e ns)
names_entered around types ns text e own old = all_entered (λ t x. EntityOpen around types x) ns text e own (λ t x ne is. old t x is)

pub names_unless : (around : List ℕ) (types : List TypeForm) (o : Option Operation) (ns : List Named) (text : List ℕ) (e : Entity) → EntityOpen around types e → NamesOpen around types ns → NamesOpen around types (entered_unless o text e ns)
names_unless around types None ns text e own old = names_entered around types ns text e own old
names_unless around types (Some o) ns text e own old = old

-- an object creates no collection
collected_value : (es : List DeclarationForm) (x : ℕ) (v : RightForm) → collected (es ++ declares x v ∷ []) ≡ collected es
collected_value [] x v = refl
collected_value (creates_pool p ∷ es) x v = collected_value es x v
collected_value (collects t ∷ es) x v = ap (λ ts. t ∷ ts) (collected_value es x v)
collected_value (declares y w ∷ es) x v = collected_value es x v
collected_value (declares_record y o i ∷ es) x v = collected_value es x v

objects_value : (es : List DeclarationForm) (x : ℕ) (v : RightForm) → record_objects (es ++ declares x v ∷ []) ≡ record_objects es
objects_value [] x v = refl
objects_value (creates_pool p ∷ es) x v = objects_value es x v
objects_value (collects t ∷ es) x v = objects_value es x v
objects_value (declares y w ∷ es) x v = objects_value es x v
objects_value (declares_record y o i ∷ es) x v = ap (λ ts. o ∷ ts) (objects_value es x v)

collected_record : (es : List DeclarationForm) (x o : ℕ) (i : Option (List ItemForm)) → collected (es ++ declares_record x o i ∷ []) ≡ collected es
collected_record [] x o i = refl
collected_record (creates_pool p ∷ es) x o i = collected_record es x o i
collected_record (collects t ∷ es) x o i = ap (λ ts. t ∷ ts) (collected_record es x o i)
collected_record (declares y w ∷ es) x o i = collected_record es x o i
collected_record (declares_record y p j ∷ es) x o i = collected_record es x o i

objects_record : (es : List DeclarationForm) (x o : ℕ) (i : Option (List ItemForm)) → record_objects (es ++ declares_record x o i ∷ []) ≡ record_objects es ++ o ∷ []
objects_record [] x o i = refl
objects_record (creates_pool p ∷ es) x o i = objects_record es x o i
objects_record (collects t ∷ es) x o i = objects_record es x o i
objects_record (declares y w ∷ es) x o i = objects_record es x o i
objects_record (declares_record y p j ∷ es) x o i = ap (λ ts. p ∷ ts) (objects_record es x o i)

-- the collections and record objects of a part nest, by these lists
part_by : (types : List TypeForm) (around cs os : List ℕ) (ds : List DeclarationForm) → collected ds ≡ cs → record_objects ds ≡ os → (list_all (collection_nests types around (cs ++ around)) cs && list_all (record_nests types (cs ++ around)) os) ≡ true → part_nests types around ds ≡ true
part_by types around cs os ds c o h = rw (c, o) h

module _ (types : List TypeForm) where
  -- where statements or objects stand: these collections are open, and what procedures create nests in them
  pub record Place (around : List ℕ) (k : Known) : Type 0 where
    pub open_at : OpenAt around k
    pub calls : PartsCall types k.bodies around (parts k)

  -- in a part whose types have ended
  pub record LateOpen (around : List ℕ) (k : Known) : Type 0 where
    pub place : Place (collected k.here.elaborated ++ around) k
    pub nests : AreIn (forms k.types) (forms types) → part_nests types around k.here.elaborated ≡ true

  -- in a part whose types may go on
  pub record EarlyOpen (around : List ℕ) (k : Known) : Type 0 where
    pub lies : OpenAround around k
    pub calls : PartsCall types k.bodies around (parts k)
    pub fresh : IsFresh k

  pub data State (around : List ℕ) (k : Known) : Type 0 where
    early : EarlyOpen around k → State around k
    behind : types_go_on k ≡ false → LateOpen around k → State around k

  -- the types end
  after_calls : (us : List ℕ) (k : Known) → PartsCall types k.bodies us (parts k) → PartsCall types (after_types k).bodies us (parts (after_types k))
  unfolding after_types
  after_calls us k w = by_end (types_go_on k)
    where
      by_end : (b : Bool) → PartsCall types (ends_types b k).bodies us (parts (ends_types b k))
      by_end true = (w.0, w.1)
      by_end false = w

  pub ready : (around : List ℕ) (k : Known) → Sound k → InOrder k → State around k → Complete k → LateOpen around (after_types k)
  ready around k s o (behind off w) c = subst (λ v. LateOpen around v) (sym (after_full k off)) w
  ready around k s o (early w) c =
      let m = after_types k in
      let sound = ended_sound k s in
      let late = after_late k o in
      let lies = ended_open around k w.lies in
      let fresh : IsFresh m = λ a behind.
      subst (λ bs. IsAway bs a) (sym (after_alike k).bodies) (w.fresh a (subst (λ n. n ≤ a) (ended_keeps k).first_type behind)) in
      let complete : Complete m = λ text t is. c text t (ap (λ (ns : List Named). named text ns) (sym (after_names k)) ∙ is) in
      let cs = collected m.here.elaborated in
      record {
        place = record {
          open_at = open_behind around m sound late fresh lies complete;
          calls = calls_on types m.bodies m.bodies around (cs ++ around) (λ i x is. is) (own_wider around m sound late fresh lies) (parts m) (after_calls around k w.calls);
        };
        nests = λ g. own_nests around m sound late fresh lies types g;
      }

  -- an object of an elementary type
  late_value : (around : List ℕ) (k : Known) (name : Ident) (borrows : Bool) (kind : VariableKind) (value : RightForm) → LateOpen around k → LateOpen around (variable_created k name borrows kind value)
  late_value around k name borrows kind value w =
      let es = k.here.elaborated in
      let x = length k.variables in
      let e = entity.Variable (next_variable k) kind in
      let m = variable_created k name borrows kind value in
      let place : Place (collected es ++ around) m = record {
        open_at = record {
          before = w.place.open_at.before;
          names = (names_entered (collected es ++ around) k.types k.here.names name.text e tt w.place.open_at.names.0, w.place.open_at.names.1);
        };
        calls = (calls_entered types k.bodies (collected es ++ around) k.here.names name.text e tt w.place.calls.0, w.place.calls.1);
      } in
      record {
        place = subst (λ (cs : List ℕ). Place (cs ++ around) m) (sym (collected_value es x value)) place;
        nests = λ g. part_by types around (collected es) (record_objects es) (es ++ declares x value ∷ []) (collected_value es x value) (objects_value es x value) (w.nests g);
      }

  late_created : (around : List ℕ) (k : Known) (name : Ident) (kind : Option VariableKind) (value : Option RightForm) → LateOpen around k → LateOpen around (object_created k name kind value)
  late_created around k name None value w = w
  late_created around k name (Some kind) value w = late_value around k name false kind (initial_source value) w

  -- a record object
  object_nests : (us : List ℕ) (k : Known) (t : ℕ) → RecordOpen us k.types t → AreIn (forms (k.types ++ object_of t ∷ [])) (forms types) → record_nests types us (length k.types) ≡ true
  object_nests us k t r g =
      let more = k.types ++ object_of t ∷ [] in
      let object_later = object_stays more types g (length k.types) t (get_last k.types (object_of t)) in
      let record_is = record_stays more types g t r.0 r.1 r.2 r.3 (get_more k.types (object_of t) t (record_of r.0 r.1 r.2 r.3) r.4) in
      rw (object_later, record_is.1) r.5

  late_record : (around : List ℕ) (k : Known) (name : Ident) (t : TypeNo) (initial : Option (List ItemForm)) → RecordOpen (collected k.here.elaborated ++ around) k.types t.0 → LateOpen around k → LateOpen around (record_created k name t initial)
  late_record around k name t initial r w =
      let es = k.here.elaborated in
      let x = length k.variables in
      let o = length k.types in
      let us = collected es ++ around in
      let e = entity.Variable (next_variable k) (next_record k) in
      let more = k.types ++ object_of t.0 ∷ [] in
      let m = record_created k name t initial in
      let stays : AreIn (forms k.types) (forms more) = forms_in k.types more (λ i y is. get_more k.types (object_of t.0) i y is) in
      let old = parts_later us k.types more stays (parts k) w.place.open_at.names in
      let longer_by = length-append k.types (object_of t.0 ∷ []) in
      let place : Place us m = record {
        open_at = record {
          before = λ a is. let less = w.place.open_at.before a is in omega (arith, less, longer_by);
          names = (names_entered us more k.here.names name.text e tt old.0, old.1);
        };
        calls = (calls_entered types k.bodies us k.here.names name.text e tt w.place.calls.0, w.place.calls.1);
      } in
      record {
        place = subst (λ (cs : List ℕ). Place (cs ++ around) m) (sym (collected_record es x o initial)) place;
        nests = λ g.
            let before = w.nests (λ i y is. g i y (stays i y is)) in
            let collections = list_all (collection_nests types around us) (collected es) in
            let records = list_all (record_nests types us) (record_objects es) in
            part_by types around (collected es) (record_objects es ++ o ∷ []) (es ++ declares_record x o initial ∷ []) (collected_record es x o initial) (objects_record es x o initial)
            (both_parts collections (list_all (record_nests types us) (record_objects es ++ o ∷ []))
            (first_part collections records before)
            (all_more (record_nests types us) (record_objects es) (o ∷ []) (second_part collections records before)
            (both_parts (record_nests types us o) true (object_nests us k t.0 r g) refl)));
      }

  pub late_object : (around : List ℕ) (k : Known) (name : Ident) (o : Option Entity) (value : Option Assigned) → ((n : ℕ) (e : Entity) → o ≡ Some e → EntityLies (collected k.here.elaborated ++ around) n k.types e) → LateOpen around k → LateOpen around (created_of k name o value)
  late_object around k name (Some (entity.Record t size)) value lies w =
      late_record around k name t (initial_items_in value) (lies (t.0 + 1) (entity.Record t size) refl (omega arith)) w
  late_object around k name o value lies w = late_created around k name (kind_of o) (initial_value_in value) w

  pub late_borrower : (around : List ℕ) (k : Known) (name : Ident) (o : Option (PathForm × TypeNo)) → LateOpen around k → LateOpen around (borrower_created k name o)
  late_borrower around k name None w = w
  late_borrower around k name (Some lender) w = late_value around k name true (variable.Access lender.1) (value_of lender.0) w

  -- the body of a procedure, which nests where it stands
  pub late_body : (around : List ℕ) (k z : Known) (head : HeadTree) (fs : StmtsForm) (hs : HandlersForm) (start last : Spot) → LateOpen around k → InBody (around_body k head) z → body_nests types (callees_from types [] z.bodies) (body_of z fs hs start last) (collected k.here.elaborated ++ around) ≡ true → LateOpen around (closed_body (around_body k head) z head.name.text (body_of z fs hs start last))
  late_body around k z head fs hs start last w f h =
      let b = body_of z fs hs start last in
      let us = collected k.here.elaborated ++ around in
      let text = head.name.text in
      let ns = k.here.names in
      let e = entity.Callable (next_procedure z) in
      let all = z.bodies ++ b ∷ [] in
      let grows : AreIn k.bodies all = λ i x is. get_more z.bodies b i x (f.bodies i x is) in
      let o = operation_named text in
      let now = overridden_if o (next_procedure z) (operand_at z) z.types in
      let types_in : AreIn (forms k.types) (forms now) = λ i x is. grown z.types now (if_forms o (next_procedure z) (operand_at z) z.types) i x (f.types i x is) in
      let more = longer_types k.types now types_in in
      let old = parts_later us k.types now types_in (parts k) w.place.open_at.names in
      let called = calls_on types k.bodies all us us grows (wider_same k.bodies us) (parts k) w.place.calls in
      let own = callee_more types z.bodies us b h in
      record {
        place = record {
          open_at = record {
            before = λ a is. let less = w.place.open_at.before a is in omega (arith, less, more);
            names = (names_unless us now o (entered_unless o text entity.Procedure ns) text e tt (names_unless us now o ns text entity.Procedure tt old.0), old.1);
          };
          calls = (
            calls_unless types all us o (entered_unless o text entity.Procedure ns) text e own (calls_unless types all us o ns text entity.Procedure tt called.0),
            called.1,
          );
        };
        nests = λ g. w.nests (λ i x is. g i x (types_in i x is));
      }

  -- among the types: a declaration names no procedure
  access_calls : (us : List ℕ) (k : Known) (name : Ident) (c o : Option TypeNo) (pool : Option PoolNo) → PartsCall types k.bodies us (parts k) → PartsCall types (access_defined k name c o pool).bodies us (parts (access_defined k name c o pool))
  access_calls us k name c None pool w = w
  access_calls us k name c (Some d) pool w = (calls_entered types k.bodies us k.here.names name.text _ tt w.0, w.1)

  instance_calls : (us : List ℕ) (k : Known) (name : Ident) (o : Option TypeNo) → PartsCall types k.bodies us (parts k) → PartsCall types (instance_of k name o).bodies us (parts (instance_of k name o))
  instance_calls us k name None w = w
  instance_calls us k name (Some t) w = (calls_entered types k.bodies us k.here.names name.text (entity.Instance t) tt w.0, w.1)

  clause_calls : (us : List ℕ) (k : Known) (access : Option TypeNo) (pool : Option PoolNo) → PartsCall types k.bodies us (parts k) → PartsCall types (placed_if access pool k).bodies us (parts (placed_if access pool k))
  clause_calls us k (Some access) (Some pool) w = w
  clause_calls us k (Some access) None w = w
  clause_calls us k None pool w = w

  specified_calls : (us : List ℕ) (k : Known) (o : Operation) (t : Option ℕ) (formal : List ℕ) → PartsCall types k.bodies us (parts k) → PartsCall types (specified_if o t formal k).bodies us (parts (specified_if o t formal k))
  specified_calls us k o (Some t) formal w = w
  specified_calls us k o None formal w = w

  operation_calls : (us : List ℕ) (k : Known) (o : Option Operation) (head : HeadTree) → PartsCall types k.bodies us (parts k) → PartsCall types (operation_known o k head).bodies us (parts (operation_known o k head))
  operation_calls us k (Some o) head w = specified_calls us k o (head_operand (Some o) k head) (formal_name head.formals) w
  operation_calls us k None head w = w

  -- declarations among the types
  abbrev pub IsEarly : DeclarationTree → Type 0
  IsEarly (incomplete_type spot name) = Unit {0}
  IsEarly (access_type spot name designated aspect) = Unit {0}
  IsEarly (record_type spot name definition) = Unit {0}
  IsEarly (derived_type spot name parent definition) = Unit {0}
  IsEarly (instance spot name generic object access) = Unit {0}
  IsEarly (constant_declaration name value) = Unit {0}
  IsEarly (exception_declaration name) = Unit {0}
  IsEarly (pool_declaration name type_name label size) = Unit {0}
  IsEarly (attribute_clause spot name attribute value) = Unit {0}
  IsEarly (specification head) = Unit {0}
  IsEarly d = ⊥

  pub declaration_calls : (us : List ℕ) (k : Known) (d : DeclarationTree) → IsEarly d → PartsCall types k.bodies us (parts k) → PartsCall types (declaration_known (known_at k d) d).bodies us (parts (declaration_known (known_at k d) d))
  declaration_calls us k (incomplete_type spot name) is w = (calls_entered types k.bodies us k.here.names name.text _ tt w.0, w.1)
  declaration_calls us k (access_type spot name designated aspect) is w = access_calls us k name (completed_type k name) (record_found k designated) (aspect_found k aspect) w
  declaration_calls us k (record_type spot name definition) is w = (calls_entered types k.bodies us k.here.names name.text _ tt w.0, w.1)
  declaration_calls us k (derived_type spot name parent definition) is w = (calls_entered types k.bodies us k.here.names name.text _ tt w.0, w.1)
  declaration_calls us k (instance spot name generic object access) is w = instance_calls us k name (freed_found k access (record_found k object)) w
  declaration_calls us k (constant_declaration name value) is w = (calls_entered types k.bodies us k.here.names name.text _ tt w.0, w.1)
  declaration_calls us k (exception_declaration name) is w = (calls_entered types k.bodies us k.here.names name.text _ tt w.0, w.1)
  declaration_calls us k (pool_declaration name type_name label size) is w = (calls_entered types k.bodies us k.here.names name.text _ tt w.0, w.1)
  declaration_calls us k (attribute_clause spot name attribute value) is w = clause_calls us k (access_type_in (visible k name.text)) (clause_pool k value) w
  declaration_calls us k (specification head) is w = operation_calls us k (operation_named head.name.text) head w
  declaration_calls us k d is w = absurd is
