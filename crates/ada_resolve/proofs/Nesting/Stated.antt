-- Statements, declarations and bodies: the collections of the blocks and the calls in them nest in those that are open where they stand, where these
-- are the types in the end.

use Rattle.std.proofs.Common.{◌≡◌, ◌∙◌, ℕ, ◌≤◌, Bool, true, false, List, [], ◌∷◌, ◌++◌, length-append, refl, sym, ap, subst, arith}
use Rattle.std.specs.Prelude.{◌&&◌, Option, Some, None}
use Rattle.std.specs.List.{slice_get}
use Rattle.ada_text.specs.declared.spot.Spot.{Spot}
use Rattle.ada_tree.specs.Declarations.{HeadTree}
use Rattle.ada_tree.specs.Names.{Ident}
use Rattle.ada_tree.specs.Statements.{DeclarationTree, exception_declaration, constant_declaration, pool_declaration, attribute_clause, incomplete_type, access_type, record_type, derived_type, specification, instance, object_declaration, borrower_declaration, body_declaration, SchemeTree, endless, while_scheme, for_scheme, StatementTree, if_statement, loop_statement, block, declare_block, DeclarationsTree, no_declarations, a_declaration, StatementsTree, no_statements, a_statement, BranchesTree, no_branches, a_branch, HandlersTree, no_handlers, a_handler, SequenceTree, a_sequence}
use Rattle.ada_program.specs.declared.program.VariableKind.TheVariants as variable
use Rattle.ada_program.specs.Form.{StmtForm, chooses, repeats, counts, encloses, StmtsForm, no_stmts, a_stmt, BranchesForm, otherwise, HandlersForm}
use Rattle.ada_program.specs.Form as form
use Rattle.ada_program.specs.Nested.{collected, part_nests, statement_nests, statements_nest, branches_nest, handlers_nest, callees_from}
use Rattle.ada_program.specs.ProgramForm.{TypeForm, BodyForm, VariableForm}
use Rattle.ada_resolve.specs.declared.primitives.Operation.{Operation}
use Rattle.ada_resolve.specs.declared.scope.Entity.{Entity}
use Rattle.ada_resolve.specs.declared.scope.Entity.TheVariants as entity
use Rattle.ada_resolve.specs.Borrowers.{lender_found}
use Rattle.ada_resolve.specs.Known.{Known, Part, parts, with_part, left_to, next_procedure, next_variable, types_go_on}
use Rattle.ada_resolve.specs.Objects.{after_types, object_type_found, initial_found, held_of}
use Rattle.ada_resolve.specs.Primitives.{operation_named}
use Rattle.ada_resolve.specs.Procedures.{no_formals, with_formals, behind_head}
use Rattle.ada_resolve.specs.Specifications.{specified_remark}
use Rattle.ada_resolve.specs.Resolution.{gives, At, known_at, declaration_remark, declaration_known, LoopHead, on_condition, over_range, with_parameter, loop_of, behind_loop, Others, SequenceForm, simple_told, statement_told, sequence_told, statements_told, branches_told, handlers_told, declaration_told, declarations_told}
use Rattle.ada_resolve.specs.Spots.{end_of, head_spot}
use Rattle.ada_resolve.proofs.Elaborated.{no_types, some_variable, object_made, borrower_made, made_full, made_back, body_back, body_late, complete_back}
use Rattle.ada_resolve.proofs.Nesting.Callees.{IsAway, wider_same}
use Rattle.ada_resolve.proofs.Nesting.Calls.{EntityCalls, NamesCall, PartsCall, calls_on, calls_entered, calls_unless}
use Rattle.ada_resolve.proofs.Nesting.Declared.{declaration_open, object_type_at}
use Rattle.ada_resolve.proofs.Nesting.Later.{Place, LateOpen, State, early, behind, ready, names_unless, parts_later, late_object, late_borrower, late_body, IsEarly, declaration_calls}
use Rattle.ada_resolve.proofs.Nesting.Open.{EntityOpen, NamesOpen, PartsOpen, IsOwnType}
use Rattle.ada_resolve.proofs.Nesting.Simple.{meant_nests}
use Rattle.ada_resolve.proofs.Standing.{get_front, Sound, Complete, Stays, IsFormal, head_formals, more_types, made_gives, gives_same, HeadIs, simple_done, if_done, loop_done, block_done, declare_done, sequence_done, procedure_done, single_done, declarations_done, statements_done, branch_done, handler_done, complete_grows, ended_sound, ended_keeps, told_sound, declarations_sound, declarations_keep, declaration_keeps, begin_open, begin_complete, part_sound, OthersStay, around_body, operand_at, ended_is, body_stays, sequence_stays, head_sound, head_complete, statement_stays, statements_stay, branches_stay, handlers_stay}
use Rattle.ada_resolve.proofs.WellFormed.Alike.{body_early, after_follows, declaration_alike}
use Rattle.ada_resolve.proofs.WellFormed.Bodies.{body_begins}
use Rattle.ada_resolve.proofs.WellFormed.Doing.{parameter_follows, part_follows}
use Rattle.ada_resolve.proofs.WellFormed.Elaborated.{InOrder, part_early}
use Rattle.ada_resolve.proofs.WellFormed.Forms.{AreIn, forms, forms_in}
use Rattle.ada_resolve.proofs.WellFormed.Lasting.{Ended}
use Rattle.ada_resolve.proofs.WellFormed.Names.{all_entered}
use Rattle.ada_resolve.proofs.WellFormed.Overridden.{if_forms}
use Rattle.ada_resolve.proofs.WellFormed.Remarks.{Quiet}
use Rattle.ada_resolve.proofs.WellFormed.Stated.{statement_fit, statements_fit, told_ordered, declarations_ordered}
use Rattle.ada_resolve.proofs.WellFormed.Tables.{both_parts, get_within}

-- what is in a list is in a longer one
in_on : {X : Type 0} (xs ys zs : List X) → AreIn xs ys → AreIn ys zs → AreIn xs zs
in_on xs ys zs f g = λ t x is. g t x (f t x is)

-- what is known behind
known_of : {v u : At} → v ≡ u → v.0 ≡ u.0
known_of e = ap (λ x. x.0) e

-- where parts end, the tables stay
left_types : (m : Known) (ps : List Part) → (left_to ps m).types ≡ m.types
left_types m [] = refl
left_types m (p ∷ ps) = refl

left_bodies : (m : Known) (ps : List Part) → (left_to ps m).bodies ≡ m.bodies
left_bodies m [] = refl
left_bodies m (p ∷ ps) = refl

loop_types : (head : LoopHead) (m : Known) → (behind_loop head m).types ≡ m.types
loop_types (on_condition condition) m = refl
loop_types (over_range x low high) m = left_types m m.outer

loop_bodies : (head : LoopHead) (m : Known) → (behind_loop head m).bodies ≡ m.bodies
loop_bodies (on_condition condition) m = refl
loop_bodies (over_range x low high) m = left_bodies m m.outer

-- a formal parameter is no type
formal_own : (n : ℕ) (variables : List VariableForm) (text : List ℕ) (e : Entity) → IsFormal variables text e → IsOwnType n e
formal_own n variables text (entity.Parameter x kind) f = tt
formal_own n variables text (entity.Variable x kind) f = tt
formal_own n variables text e f = absurd f

formal_calls : (types : List TypeForm) (bodies : List BodyForm) (us : List ℕ) (variables : List VariableForm) (text : List ℕ) (e : Entity) → IsFormal variables text e → EntityCalls types bodies us e
formal_calls types bodies us variables text (entity.Parameter x kind) f = tt
formal_calls types bodies us variables text (entity.Variable x kind) f = tt
formal_calls types bodies us variables text e f = absurd f

-- where a loop begins, bodies are what they were
head_ended : (spot : Spot) (scheme : SchemeTree) (k : Known) (head : LoopHead) (m : Known) → Ended k → HeadIs spot scheme k head m → Ended m
head_ended spot endless k head m w is = subst Ended (sym is.1) w
head_ended spot (while_scheme e) k head m w is = subst Ended (sym is.2) w
head_ended spot (for_scheme name low high) k head m w is = subst Ended (sym is.2) ((parameter_follows name k).ended w)

module _ (types : List TypeForm) where
  -- behind statements the same collections are open
  pub place_later : (us : List ℕ) (k m : Known) → Stays k m → Place types us k → Place types us m
  place_later us k m f w =
      let open_later = parts_later us k.types m.types f.grows.types (parts k) w.open_at.names in
      let calls_later = calls_on types k.bodies m.bodies us us f.grows.bodies (wider_same k.bodies us) (parts k) w.calls in
      record {
        open_at = record {
          before = λ a e. let less = w.open_at.before a e in let more = more_types k m f.grows in omega (arith, less, more);
          names = (
            subst (λ (p : Part). NamesOpen us m.types p.names) (sym f.here) open_later.0,
            subst (λ (ps : List Part). PartsOpen us m.types ps) (sym f.outer) open_later.1,
          );
        };
        calls = (
          subst (λ (p : Part). NamesCall types m.bodies us p.names) (sym f.here) calls_later.0,
          subst (λ (ps : List Part). PartsCall types m.bodies us ps) (sym f.outer) calls_later.1,
        );
      }

  -- where a part begins
  begun_part : (us : List ℕ) (k : Known) → Ended k → Place types us k → State types us (with_part k)
  begun_part us k b w = early (record {
    lies = record {
      before = w.open_at.before;
      outer = w.open_at.names;
      own = λ text e is. absurd (cc is);
      forms = λ t form behind is. let within = get_within k.types t form is in absurd (omega (arith, behind, within));
      objects = λ o e. absurd (cc e);
    };
    calls = (λ text e is. absurd (cc is), w.calls);
    fresh = b.below;
  })

  -- where a body begins
  begun_body : (us : List ℕ) (k : Known) (head : HeadTree) → Ended k → Place types us k → State types us (behind_head k head)
  unfolding behind_head
  begun_body us k head b w =
      let f = head_formals k head.formals in
      let own = (with_formals k head.formals no_formals).types in
      let more = k.types ++ own in
      let longer = length-append k.types own in
      let open_later = parts_later us k.types more (forms_in k.types more (λ t form is. get_front k.types own t form is)) (parts k) w.open_at.names in
      early (record {
        lies = record {
          before = λ a e. let less = w.open_at.before a e in omega (arith, less, longer);
          outer = (names_unless us more (operation_named head.name.text) k.here.names head.name.text entity.Procedure tt open_later.0, open_later.1);
          own = λ text e is. formal_own _ _ text e (f.names text e is);
          forms = λ t form behind is. let within = get_within more t form is in absurd (omega (arith, behind, within));
          objects = λ o e. absurd (cc e);
        };
        calls = (
          λ text e is. formal_calls types k.bodies us _ text e (f.names text e is),
          (calls_unless types k.bodies us (operation_named head.name.text) k.here.names head.name.text entity.Procedure tt w.calls.0, w.calls.1),
        );
        fresh = λ a past. b.below a (omega (arith, past, longer));
      })

  -- where the statements of a loop begin
  parameter_place : (us : List ℕ) (name : Ident) (k : Known) → Place types us k → Place types us (with_parameter name k)
  parameter_place us name k w =
      let e = entity.Parameter (next_variable k) variable.Integer in
      record {
        open_at = record {
          before = w.open_at.before;
          names = (all_entered (λ t x. EntityOpen us k.types x) [] name.text e tt (λ t x ne is. absurd (cc is)), w.open_at.names);
        };
        calls = (calls_entered types k.bodies us [] name.text e tt (λ t x is. absurd (cc is)), w.calls);
      }

  head_place : (us : List ℕ) (spot : Spot) (scheme : SchemeTree) (k : Known) (head : LoopHead) (m : Known) → Place types us k → HeadIs spot scheme k head m → Place types us m
  head_place us spot endless k head m w is = subst (λ v. Place types us v) (sym is.1) w
  head_place us spot (while_scheme e) k head m w is = subst (λ v. Place types us v) (sym is.2) w
  head_place us spot (for_scheme name low high) k head m w is = subst (λ v. Place types us v) (sym is.2) (parameter_place us name k w)

  -- what is done nests, whatever bodies end behind it
  abbrev pub DoneNests : (us : List ℕ) → Known → StmtForm → Type 0
  DoneNests us m f = (bs : List BodyForm) → AreIn m.bodies bs → statement_nests types (callees_from types [] bs) us f ≡ true

  abbrev pub AllNest : (us : List ℕ) → Known → StmtsForm → Type 0
  AllNest us m fs = (bs : List BodyForm) → AreIn m.bodies bs → statements_nest types (callees_from types [] bs) us fs ≡ true

  abbrev BranchesNest : (us : List ℕ) → Known → BranchesForm → Type 0
  BranchesNest us m f = (bs : List BodyForm) → AreIn m.bodies bs → branches_nest types (callees_from types [] bs) us f ≡ true

  abbrev pub HandledNest : (us : List ℕ) → Known → HandlersForm → Type 0
  HandledNest us m f = (bs : List BodyForm) → AreIn m.bodies bs → handlers_nest types (callees_from types [] bs) us f ≡ true

  -- so does a part with its statements and its handlers
  abbrev pub SequenceNests : (us : List ℕ) → Known → SequenceForm → Type 0
  SequenceNests us z body =
      (part_nests types us z.here.elaborated ≡ true) × AllNest (collected z.here.elaborated ++ us) z body.0 × HandledNest (collected z.here.elaborated ++ us) z body.1

  -- the statements behind branches
  abbrev TailNests : (us : List ℕ) → Others → Type 0
  TailNests us tail = (at : At) (done : StmtsForm × At) → Sound at.0 → Complete at.0 → Ended at.0 → Place types us at.0 → AreIn (forms done.1.0.types) (forms types) → tail at ≡ gives done → AllNest us done.1.0 done.0

  done_nests : {m m2 : Known} {f f2 : StmtForm} (us : List ℕ) → m2 ≡ m → f2 ≡ f → DoneNests us m f → DoneNests us m2 f2
  done_nests us ms fs h = rw (ms, fs) h

  all_done : {m m2 : Known} {f f2 : StmtsForm} (us : List ℕ) → m2 ≡ m → f2 ≡ f → AllNest us m f → AllNest us m2 f2
  all_done us ms fs h = rw (ms, fs) h

  branches_done : {m m2 : Known} {f f2 : BranchesForm} (us : List ℕ) → m2 ≡ m → f2 ≡ f → BranchesNest us m f → BranchesNest us m2 f2
  branches_done us ms fs h = rw (ms, fs) h

  handlers_done : {m m2 : Known} {f f2 : HandlersForm} (us : List ℕ) → m2 ≡ m → f2 ≡ f → HandledNest us m f → HandledNest us m2 f2
  handlers_done us ms fs h = rw (ms, fs) h

  sequence_is : {z z2 : Known} {b b2 : SequenceForm} (us : List ℕ) → z2 ≡ z → b2 ≡ b → SequenceNests us z b → SequenceNests us z2 b2
  sequence_is us zs bs h = rw (zs, bs) h

  types_of : (m m2 : Known) → m2 ≡ m → AreIn (forms m2.types) (forms types) → AreIn (forms m.types) (forms types)
  types_of m m2 is g = subst (λ (v : Known). AreIn (forms v.types) (forms types)) is g

  -- a statement with no others in it
  simple_nests : (inside : Bool) (s : StatementTree) (us : List ℕ) (at : At) (done : StmtForm × At) → Place types us at.0 → simple_told inside s at ≡ gives done → DoneNests us done.1.0 done.0
  simple_nests inside s us at done w e bs g =
      let d = simple_done inside s at done e in
      let k = at.0 in
      let grows : AreIn k.bodies bs = subst (λ (v : Known). AreIn v.bodies bs) d.known g in
      subst (λ (f : StmtForm). statement_nests types (callees_from types [] bs) us f ≡ true) (sym d.form)
      (meant_nests types us k bs grows s w.calls)

  -- a loop, given what its statements do
  loop_nests : (bs : List BodyForm) (us : List ℕ) (head : LoopHead) (fs : StmtsForm) (last : Spot) → statements_nest types (callees_from types [] bs) us fs ≡ true → statement_nests types (callees_from types [] bs) us (loop_of head fs last) ≡ true
  loop_nests bs us (on_condition condition) fs last h = h
  loop_nests bs us (over_range x low high) fs last h = h

  -- where the bodies of what is known are the same
  same_bodies : (us : List ℕ) (m z : Known) (f : StmtForm) → z.bodies ≡ m.bodies → DoneNests us m f → DoneNests us z f
  same_bodies us m z f is h bs g = h bs (subst (λ (ts : List BodyForm). AreIn ts bs) is g)

  -- a block
  block_nests : (us : List ℕ) (z : Known) (body : SequenceForm) → SequenceNests us z body → DoneNests us z (encloses z.here.elaborated body.0 body.1)
  block_nests us z body h bs g =
      let ds = z.here.elaborated in
      let callees = callees_from types [] bs in
      both_parts (part_nests types us ds && statements_nest types callees (collected ds ++ us) body.0) (handlers_nest types callees (collected ds ++ us) body.1)
      (both_parts (part_nests types us ds) (statements_nest types callees (collected ds ++ us) body.0) h.0 (h.1 bs g)) (h.2 bs g)

  -- no operation is specified behind the types
  no_operation : (k : Known) (head : HeadTree) → types_go_on k ≡ false → (o : Option Operation) → Quiet (specified_remark o k head) → ⊥
  no_operation k head off (Some o) q = no_types k (head_spot head) off q.0
  no_operation k head off None q = q

  -- a declaration among the types
  early_state : (us : List ℕ) (k : Known) (d : DeclarationTree) → IsEarly types d → Sound k → State types us k → Quiet (declaration_remark (known_at k d) d) → State types us (declaration_known (known_at k d) d)
  early_state us k d is s (early w) q =
      early (record {
        lies = declaration_open us k d s w.lies q;
        calls = declaration_calls types us k d is w.calls;
        fresh = λ a behind. subst (λ bs. IsAway bs a) (sym (declaration_alike k d q).bodies)
            (w.fresh a (subst (λ n. n ≤ a) (declaration_keeps k d s q).first_type behind));
      })
  early_state us k (incomplete_type spot name) is s (behind off w) q = absurd (no_types k spot off q.0)
  early_state us k (access_type spot name designated aspect) is s (behind off w) q = absurd (no_types k spot off q.0)
  early_state us k (record_type spot name definition) is s (behind off w) q = absurd (no_types k spot off q.0)
  early_state us k (derived_type spot name parent definition) is s (behind off w) q = absurd (no_types k spot off q.0)
  early_state us k (instance spot name generic object access) is s (behind off w) q = absurd (no_types k spot off q.0)
  early_state us k (constant_declaration name value) is s (behind off w) q = absurd (no_types k name.spot off q.0)
  early_state us k (exception_declaration name) is s (behind off w) q = absurd (no_types k name.spot off q.0)
  early_state us k (pool_declaration name type_name label size) is s (behind off w) q = absurd (no_types k name.spot off q.0)
  early_state us k (attribute_clause spot name attribute value) is s (behind off w) q = absurd (no_types k spot off q.0)
  early_state us k (specification head) is s (behind off w) q = absurd (no_operation k head off (operation_named head.name.text) q)
  early_state us k d is s (behind off w) q = absurd is

  -- a part, with its declarations, given what these and its statements do
  part_by : (inside : Bool) (ds : DeclarationsTree) (body : SequenceTree) (us : List ℕ) (at after : At) (done : SequenceForm × At) → Sound at.0 → InOrder at.0 → Ended at.0 → AreIn (forms done.1.0.types) (forms types) → declarations_told ds at ≡ gives after → sequence_told inside body after ≡ gives done → (Complete after.0 → AreIn (forms after.0.types) (forms types) → State types us after.0) → (Sound after.0 → InOrder after.0 → Ended after.0 → State types us after.0 → SequenceNests us done.1.0 done.0) → SequenceNests us done.1.0 done.0
  part_by inside ds body us at after done s o b g declared told f h =
      let sound = declarations_sound ds at after s declared in
      let ordered = declarations_ordered ds at after s o declared in
      let stays = sequence_stays inside body after done sound told in
      let grows = complete_grows after.0 (after_types after.0) stays.complete (ended_keeps after.0) in
      let ts : AreIn (forms after.0.types) (forms types) = λ i x is. g i x (stays.stays.grows.types i x (grows.types i x is)) in
      h sound ordered.order (ordered.follows.ended b) (f stays.complete ts)

  -- the statements, with those in them
  mutual
    pub statement_nested : (inside : Bool) (s : StatementTree) (us : List ℕ) (at : At) (done : StmtForm × At) → Sound at.0 → Complete at.0 → Ended at.0 → Place types us at.0 → AreIn (forms done.1.0.types) (forms types) → statement_told inside s at ≡ gives done → DoneNests us done.1.0 done.0
    statement_nested inside (if_statement spot branches others last) us at done w c b a g e =
        let d = if_done inside spot branches others last at done e in
        let tail : Others = λ behind. statements_told inside others behind in
        done_nests us (known_of d.behind) d.form
        (branches_nested inside branches tail us d.begun d.own
        (λ before out v complete bodies place ts told. statements_nested inside others us before out v complete bodies place ts told)
        (λ before out v complete told. statements_stay inside others before out v complete told)
        (subst Sound (sym d.begun_known) w) (subst (λ (v : Known). Complete v) (sym d.begun_known) c) (subst Ended (sym d.begun_known) b) (subst (λ v. Place types us v) (sym d.begun_known) a)
        (types_of d.own.1.0 done.1.0 (known_of d.behind) g) d.told)
    statement_nested inside (loop_statement spot scheme ss last) us at done w c b a g e =
        let d = loop_done inside spot scheme ss last at done e in
        let k = d.head.1.0 in
        let ts : AreIn (forms d.own.1.0.types) (forms types) =
        subst (λ (xs : List TypeForm). AreIn (forms xs) (forms types)) (loop_types d.head.0 d.own.1.0) (types_of (behind_loop d.head.0 d.own.1.0) done.1.0 d.known g) in
        let own = statements_nested true ss us d.head.1 d.own (head_sound spot scheme at.0 d.head.0 k w c d.head_so.is)
        (head_complete spot scheme at.0 d.head.0 k c d.head_so.is) (head_ended spot scheme at.0 d.head.0 k b d.head_so.is)
        (head_place us spot scheme at.0 d.head.0 k a d.head_so.is) ts d.told in
        done_nests us d.known d.form
        (same_bodies us d.own.1.0 (behind_loop d.head.0 d.own.1.0) (loop_of d.head.0 d.own.0 last) (loop_bodies d.head.0 d.own.1.0)
        (λ bs more. loop_nests bs us d.head.0 d.own.0 last (own bs more)))
    statement_nested inside (block body) us at done w c b a g e =
        let d = block_done inside body at done e in
        let z = d.body_done.1.0 in
        let ts : AreIn (forms z.types) (forms types) = subst (λ (xs : List TypeForm). AreIn (forms xs) (forms types)) (left_types z z.outer) (types_of (left_to z.outer z) done.1.0 d.known g) in
        let h = sequence_nested inside body us d.inner d.body_done (subst Sound (sym d.inner_known) (part_sound at.0 w c)) (subst InOrder (sym d.inner_known) (part_early at.0))
        (subst Ended (sym d.inner_known) ((part_follows at.0).ended b)) (subst (λ v. State types us v) (sym d.inner_known) (begun_part us at.0 b a)) ts d.told in
        done_nests us d.known d.form
        (same_bodies us z (left_to z.outer z) (encloses z.here.elaborated d.body_done.0.0 d.body_done.0.1) (left_bodies z z.outer) (block_nests us z d.body_done.0 h))
    statement_nested inside (declare_block spot ds body) us at done w c b a g e =
        let d = declare_done inside spot ds body at done e in
        let z = d.body_done.1.0 in
        let ts : AreIn (forms z.types) (forms types) = subst (λ (xs : List TypeForm). AreIn (forms xs) (forms types)) (left_types z z.outer) (types_of (left_to z.outer z) done.1.0 d.known g) in
        let sound : Sound d.inner.0 = subst Sound (sym d.inner_known) (part_sound at.0 w c) in
        let order : InOrder d.inner.0 = subst InOrder (sym d.inner_known) (part_early at.0) in
        let ended : Ended d.inner.0 = subst Ended (sym d.inner_known) ((part_follows at.0).ended b) in
        let state : State types us d.inner.0 = subst (λ v. State types us v) (sym d.inner_known) (begun_part us at.0 b a) in
        let h = part_by inside ds body us d.inner d.behind d.body_done sound order ended ts d.declared d.told
        (λ complete grown. declarations_nested ds us d.inner d.behind sound order ended state complete grown d.declared)
        (λ v ordered bodies there. sequence_nested inside body us d.behind d.body_done v ordered bodies there ts d.told) in
        done_nests us d.known d.form
        (same_bodies us z (left_to z.outer z) (encloses z.here.elaborated d.body_done.0.0 d.body_done.0.1) (left_bodies z z.outer) (block_nests us z d.body_done.0 h))
    statement_nested inside s us at done w c b a g e = simple_nests inside s us at done a e

    pub sequence_nested : (inside : Bool) (body : SequenceTree) (us : List ℕ) (at : At) (done : SequenceForm × At) → Sound at.0 → InOrder at.0 → Ended at.0 → State types us at.0 → AreIn (forms done.1.0.types) (forms types) → sequence_told inside body at ≡ gives done → SequenceNests us done.1.0 done.0
    sequence_nested inside (a_sequence start ss hs last) us at done s o b w g e =
        let d = sequence_done inside start ss hs last at done e in
        let m = d.ready.0 in
        let z = d.handled.1.0 in
        let sound : Sound m = subst Sound (sym d.ready_known) (ended_sound at.0 s) in
        let complete : Complete m = subst (λ (v : Known). Complete v) (sym d.ready_known) (begin_complete at.0 start d.quiet) in
        let ended : Ended m = subst Ended (sym d.ready_known) ((after_follows at.0).ended b) in
        let late : LateOpen types us m = subst (λ v. LateOpen types us v) (sym d.ready_known) (ready types us at.0 s o w (begin_open at.0 start d.quiet)) in
        let own_stays = statements_stay inside ss d.ready d.own sound complete d.told in
        let handled_stays = handlers_stay inside hs d.own.1 d.handled own_stays.sound own_stays.complete d.handlers_so in
        let gz : AreIn (forms z.types) (forms types) = types_of z done.1.0 d.known g in
        let go : AreIn (forms d.own.1.0.types) (forms types) = λ i x is. gz i x (handled_stays.grows.types i x is) in
        let gm : AreIn (forms m.types) (forms types) = λ i x is. go i x (own_stays.grows.types i x is) in
        let vs = collected m.here.elaborated ++ us in
        let own_ended : Ended d.own.1.0 = (statements_fit inside ss d.ready d.own sound complete d.told).2.ended ended in
        let own = statements_nested inside ss vs d.ready d.own sound complete ended late.place go d.told in
        let handled = handlers_nested inside hs vs d.own.1 d.handled own_stays.sound own_stays.complete own_ended (place_later vs m d.own.1.0 own_stays late.place) gz d.handlers_so in
        let same : z.here ≡ m.here = handled_stays.here ∙ own_stays.here in
        sequence_is us d.known d.form (
          subst (λ (p : Part). part_nests types us p.elaborated ≡ true) (sym same) (late.nests gm),
          λ bs more. subst (λ (p : Part). statements_nest types (callees_from types [] bs) (collected p.elaborated ++ us) d.own.0 ≡ true) (sym same)
              (own bs (λ i x is. more i x (handled_stays.grows.bodies i x is))),
          λ bs more. subst (λ (p : Part). handlers_nest types (callees_from types [] bs) (collected p.elaborated ++ us) d.handled.0 ≡ true) (sym same) (handled bs more),
        )

    -- a declaration
    told_nested : (d : DeclarationTree) (us : List ℕ) (at next : At) → Sound at.0 → InOrder at.0 → Ended at.0 → State types us at.0 → (types_go_on next.0 ≡ false → Complete next.0) → (types_go_on next.0 ≡ false → AreIn (forms next.0.types) (forms types)) → declaration_told d at ≡ gives next → State types us next.0
    told_nested (body_declaration head ds body end_name) us at next s o b w c g e =
        let d = procedure_done head ds body end_name at next e in
        let k = after_types at.0 in
        let z = d.done.1.0 in
        let fs = d.done.0.0 in
        let hs = d.done.0.1 in
        let start = head_spot head in
        let last = end_of body in
        let stays = body_stays head ds body end_name at next d s in
        let off = body_late head ds body end_name at next d s in
        let late = ready types us at.0 s o w (body_back head ds body end_name at next d s (c off)) in
        let vs = collected k.here.elaborated ++ us in
        let is = d.known ∙ ended_is (around_body k head) z head.name fs hs start last stays.done_in in
        let behind_in = subst (λ (v : Known). AreIn (forms v.types) (forms types)) is (g off) in
        let same = if_forms (operation_named head.name.text) (next_procedure z) (operand_at z) z.types in
        let ts : AreIn (forms z.types) (forms types) = λ i x there. behind_in i x (ap (λ (fs : List TypeForm). slice_get fs i) same ∙ there) in
        let order : InOrder d.inner.0 = subst InOrder (sym d.inner_known) (body_early k head) in
        let ended : Ended d.inner.0 = subst Ended (sym d.inner_known) ((body_begins k head).ended ((after_follows at.0).ended b)) in
        let state : State types vs d.inner.0 = subst (λ v. State types vs v) (sym d.inner_known) (begun_body vs k head ((after_follows at.0).ended b) late.place) in
        let h = part_by false ds body vs d.inner d.behind d.done stays.inner_sound order ended ts d.declared d.told
        (λ complete grown. declarations_nested ds vs d.inner d.behind stays.inner_sound order ended state complete grown d.declared)
        (λ v ordered bodies there. sequence_nested false body vs d.behind d.done v ordered bodies there ts d.told) in
        behind off
        (subst (λ v. LateOpen types us v) (sym is)
        (late_body types us k z head fs hs start last late stays.done_in (block_nests vs z d.done.0 h z.bodies (λ i x there. there))))
    told_nested (object_declaration name type_name initial) us at next s o b w c g e =
        let d = object_declaration name type_name initial in
        let one = single_done d at next e in
        let k = after_types at.0 in
        let made = object_made name type_name initial k next.0 one.quiet one.known in
        let off = some_variable next.0 (made_full d name k next.0 (ended_sound at.0 s).bounds.first_variable made) in
        let late = ready types us at.0 s o w (made_back d name at.0 next.0 made (c off)) in
        behind off
        (subst (λ v. LateOpen types us v) (sym one.known)
        (late_object types us k name (object_type_found k type_name) (initial_found k (held_of (object_type_found k type_name)) initial)
        (λ n. object_type_at (collected k.here.elaborated ++ us) n k type_name late.place.open_at.names) late))
    told_nested (borrower_declaration name designated initial) us at next s o b w c g e =
        let d = borrower_declaration name designated initial in
        let one = single_done d at next e in
        let k = after_types at.0 in
        let made = borrower_made name designated initial k next.0 (ended_sound at.0 s) one.quiet one.known in
        let off = some_variable next.0 (made_full d name k next.0 (ended_sound at.0 s).bounds.first_variable made) in
        let late = ready types us at.0 s o w (made_back d name at.0 next.0 made (c off)) in
        behind off (subst (λ v. LateOpen types us v) (sym one.known) (late_borrower types us k name (lender_found k initial) late))
    told_nested (incomplete_type spot name) us at next s o b w c g e =
        let one = single_done (incomplete_type spot name) at next e in
        subst (λ v. State types us v) (sym one.known) (early_state us at.0 (incomplete_type spot name) tt s w one.quiet)
    told_nested (access_type spot name designated aspect) us at next s o b w c g e =
        let one = single_done (access_type spot name designated aspect) at next e in
        subst (λ v. State types us v) (sym one.known) (early_state us at.0 (access_type spot name designated aspect) tt s w one.quiet)
    told_nested (record_type spot name definition) us at next s o b w c g e =
        let one = single_done (record_type spot name definition) at next e in
        subst (λ v. State types us v) (sym one.known) (early_state us at.0 (record_type spot name definition) tt s w one.quiet)
    told_nested (derived_type spot name parent definition) us at next s o b w c g e =
        let one = single_done (derived_type spot name parent definition) at next e in
        subst (λ v. State types us v) (sym one.known) (early_state us at.0 (derived_type spot name parent definition) tt s w one.quiet)
    told_nested (instance spot name generic object access) us at next s o b w c g e =
        let one = single_done (instance spot name generic object access) at next e in
        subst (λ v. State types us v) (sym one.known) (early_state us at.0 (instance spot name generic object access) tt s w one.quiet)
    told_nested (constant_declaration name value) us at next s o b w c g e =
        let one = single_done (constant_declaration name value) at next e in
        subst (λ v. State types us v) (sym one.known) (early_state us at.0 (constant_declaration name value) tt s w one.quiet)
    told_nested (exception_declaration name) us at next s o b w c g e =
        let one = single_done (exception_declaration name) at next e in
        subst (λ v. State types us v) (sym one.known) (early_state us at.0 (exception_declaration name) tt s w one.quiet)
    told_nested (pool_declaration name type_name label size) us at next s o b w c g e =
        let one = single_done (pool_declaration name type_name label size) at next e in
        subst (λ v. State types us v) (sym one.known) (early_state us at.0 (pool_declaration name type_name label size) tt s w one.quiet)
    told_nested (attribute_clause spot name attribute value) us at next s o b w c g e =
        let one = single_done (attribute_clause spot name attribute value) at next e in
        subst (λ v. State types us v) (sym one.known) (early_state us at.0 (attribute_clause spot name attribute value) tt s w one.quiet)
    told_nested (specification head) us at next s o b w c g e =
        let one = single_done (specification head) at next e in
        subst (λ v. State types us v) (sym one.known) (early_state us at.0 (specification head) tt s w one.quiet)

    -- declarations, one behind another
    pub declarations_nested : (ds : DeclarationsTree) (us : List ℕ) (at after : At) → Sound at.0 → InOrder at.0 → Ended at.0 → State types us at.0 → Complete after.0 → AreIn (forms after.0.types) (forms types) → declarations_told ds at ≡ gives after → State types us after.0
    declarations_nested no_declarations us at after s o b w c g e = subst (λ (v : At). State types us v.0) (gives_same e) w
    declarations_nested (a_declaration d ds) us at after s o b w c g e =
        let done = declarations_done d ds at after e in
        let next = done.next in
        let sound = told_sound d at next s done.one in
        let ordered = told_ordered d at next s o done.one in
        let complete : types_go_on next.0 ≡ false → Complete next.0 = λ off. complete_back ds next after sound off done.told c in
        let there : types_go_on next.0 ≡ false → AreIn (forms next.0.types) (forms types) =
        λ off. (let grows = complete_grows next.0 after.0 (complete off) (declarations_keep ds next after sound done.told) in λ i x is. g i x (grows.types i x is)) in
        declarations_nested ds us next after sound ordered.order (ordered.follows.ended b) (told_nested d us at next s o b w complete there done.one) c g done.told

    pub statements_nested : (inside : Bool) (ss : StatementsTree) (us : List ℕ) (at : At) (done : StmtsForm × At) → Sound at.0 → Complete at.0 → Ended at.0 → Place types us at.0 → AreIn (forms done.1.0.types) (forms types) → statements_told inside ss at ≡ gives done → AllNest us done.1.0 done.0
    statements_nested inside no_statements us at done w c b a g e =
        let same : (no_stmts, at) ≡ done = cc e in
        subst (λ (v : StmtsForm × At). AllNest us v.1.0 v.0) same (λ bs more. refl)
    statements_nested inside (a_statement s ss) us at done w c b a g e =
        let d = statements_done inside s ss at done e in
        let stays = statement_stays inside s at d.own w c d.told in
        let later = statements_stay inside ss d.own.1 d.others stays.sound stays.complete d.others_told in
        let ts = types_of d.others.1.0 done.1.0 (known_of d.behind) g in
        let ended : Ended d.own.1.0 = (statement_fit inside s at d.own w c d.told).2.ended b in
        let own = statement_nested inside s us at d.own w c b a (λ i x is. ts i x (later.grows.types i x is)) d.told in
        let others = statements_nested inside ss us d.own.1 d.others stays.sound stays.complete ended (place_later us at.0 d.own.1.0 stays a) ts d.others_told in
        all_done us (known_of d.behind) d.form
        (λ bs more. both_parts (statement_nests types (callees_from types [] bs) us d.own.0) (statements_nest types (callees_from types [] bs) us d.others.0)
        (own bs (λ i x is. more i x (later.grows.bodies i x is))) (others bs more))

    branches_nested : (inside : Bool) (branches : BranchesTree) (tail : Others) (us : List ℕ) (at : At) (done : BranchesForm × At) → TailNests us tail → OthersStay tail → Sound at.0 → Complete at.0 → Ended at.0 → Place types us at.0 → AreIn (forms done.1.0.types) (forms types) → branches_told inside branches tail at ≡ gives done → BranchesNest us done.1.0 done.0
    branches_nested inside no_branches tail us at done f stay w c b a g e =
        let made = made_gives otherwise (tail at) done e in
        branches_done us (known_of (sym made.3)) (sym made.2) (f at made.0 w c b a (types_of made.0.1.0 done.1.0 (known_of (sym made.3)) g) made.1)
    branches_nested inside (a_branch condition ss bs) tail us at done f stay w c b a g e =
        let d = branch_done inside condition ss bs tail at done e in
        let k = d.begun.1.0 in
        let sound : Sound k = subst Sound (sym d.condition.known) w in
        let complete : Complete k = subst (λ (v : Known). Complete v) (sym d.condition.known) c in
        let ended : Ended k = subst Ended (sym d.condition.known) b in
        let place : Place types us k = subst (λ v. Place types us v) (sym d.condition.known) a in
        let stays = statements_stay inside ss d.begun.1 d.own sound complete d.told in
        let later = branches_stay inside bs tail d.own.1 d.others stay stays.sound stays.complete d.others_told in
        let ts = types_of d.others.1.0 done.1.0 (known_of d.behind) g in
        let own_ended : Ended d.own.1.0 = (statements_fit inside ss d.begun.1 d.own sound complete d.told).2.ended ended in
        let own = statements_nested inside ss us d.begun.1 d.own sound complete ended place (λ i x is. ts i x (later.grows.types i x is)) d.told in
        let others = branches_nested inside bs tail us d.own.1 d.others f stay stays.sound stays.complete own_ended (place_later us k d.own.1.0 stays place) ts d.others_told in
        branches_done us (known_of d.behind) d.form
        (λ cs more. both_parts (statements_nest types (callees_from types [] cs) us d.own.0) (branches_nest types (callees_from types [] cs) us d.others.0)
        (own cs (λ i x is. more i x (later.grows.bodies i x is))) (others cs more))

    pub handlers_nested : (inside : Bool) (hs : HandlersTree) (us : List ℕ) (at : At) (done : HandlersForm × At) → Sound at.0 → Complete at.0 → Ended at.0 → Place types us at.0 → AreIn (forms done.1.0.types) (forms types) → handlers_told inside hs at ≡ gives done → HandledNest us done.1.0 done.0
    handlers_nested inside no_handlers us at done w c b a g e =
        let same : (form.no_handlers, at) ≡ done = cc e in
        subst (λ (v : HandlersForm × At). HandledNest us v.1.0 v.0) same (λ bs more. refl)
    handlers_nested inside (a_handler spot choices ss hs) us at done w c b a g e =
        let d = handler_done inside spot choices ss hs at done e in
        let k = d.begun.1.0 in
        let sound : Sound k = subst Sound (sym d.begun_known) w in
        let complete : Complete k = subst (λ (v : Known). Complete v) (sym d.begun_known) c in
        let ended : Ended k = subst Ended (sym d.begun_known) b in
        let place : Place types us k = subst (λ v. Place types us v) (sym d.begun_known) a in
        let stays = statements_stay inside ss d.begun.1 d.own sound complete d.told in
        let later = handlers_stay inside hs d.own.1 d.others stays.sound stays.complete d.others_told in
        let ts = types_of d.others.1.0 done.1.0 (known_of d.behind) g in
        let own_ended : Ended d.own.1.0 = (statements_fit inside ss d.begun.1 d.own sound complete d.told).2.ended ended in
        let own = statements_nested inside ss us d.begun.1 d.own sound complete ended place (λ i x is. ts i x (later.grows.types i x is)) d.told in
        let others = handlers_nested inside hs us d.own.1 d.others stays.sound stays.complete own_ended (place_later us k d.own.1.0 stays place) ts d.others_told in
        handlers_done us (known_of d.behind) d.form
        (λ cs more. both_parts (statements_nest types (callees_from types [] cs) us d.own.0) (handlers_nest types (callees_from types [] cs) us d.others.0)
        (own cs (λ i x is. more i x (later.grows.bodies i x is))) (others cs more))

  -- a part, with its declarations
  pub part_nested : (inside : Bool) (ds : DeclarationsTree) (body : SequenceTree) (us : List ℕ) (at after : At) (done : SequenceForm × At) → Sound at.0 → InOrder at.0 → Ended at.0 → State types us at.0 → AreIn (forms done.1.0.types) (forms types) → declarations_told ds at ≡ gives after → sequence_told inside body after ≡ gives done → SequenceNests us done.1.0 done.0
  part_nested inside ds body us at after done s o b w g declared told =
      part_by inside ds body us at after done s o b g declared told
      (λ complete grown. declarations_nested ds us at after s o b w complete grown declared)
      (λ v ordered bodies there. sequence_nested inside body us after done v ordered bodies there g told)
