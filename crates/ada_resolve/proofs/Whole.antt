-- The program that a tree means is read back as the tree: its statements, with the declarations in them, and the whole unit.

use Rattle.std.proofs.Common.{drop, append_assoc, ◌≡◌, ◌∙◌, ℕ, Bool, true, false, List, [], ◌∷◌, ◌++◌, ◌+◌, ◌<◌, length, length-append, refl, sym, ap, subst, arith, eqb-true, eq-eqb}
use Rattle.std.specs.Prelude.{Option, Some, None, ◌==◌, is_some}
use Rattle.std.specs.List.{slice_get, list_all}
use Rattle.std.proofs.lemmas.List.{append-nil}
use Rattle.ada_text.specs.declared.spot.Spot.{Spot}
use Rattle.ada_tree.specs.Names.{Ident, PathTree}
use Rattle.ada_tree.specs.Expressions.{ExpressionTree, path_expression, ArgumentTree, expression_argument, text_argument, attribute_argument}
use Rattle.ada_tree.specs.Statements.{body_declaration, a_declaration, DeclarationsTree, no_declarations, endless, while_scheme, for_scheme, StatementTree, null_statement, assignment, call, exit_statement, return_statement, raise_statement, if_statement, loop_statement, block, declare_block, StatementsTree, no_statements, a_statement, BranchesTree, no_branches, a_branch, HandlersTree, no_handlers, a_handler, SequenceTree, a_sequence, UnitTree}
use Rattle.ada_program.specs.declared.program.Choice.{Choice}
use Rattle.ada_program.specs.declared.program.FormalMode.{FormalMode}
use Rattle.ada_program.specs.declared.program.VariableKind.TheVariants as variable
use Rattle.ada_tree.specs.Declarations.{HeadTree}
use Rattle.ada_program.specs.Form.{calls, DeclarationForm, ExpressionForm, StmtForm, skips, assigns, assigns_record, frees, gets, writes, writes_text, exits, returns, raises, chooses, repeats, counts, encloses, StmtsForm, no_stmts, a_stmt, BranchesForm, otherwise, HandlersForm}
use Rattle.ada_program.specs.Form as form
use Rattle.ada_program.specs.WellFormed.{type_fits}
use Rattle.ada_program.specs.declared.program.Finalization.{Finalization as Finalized}
use Rattle.ada_program.specs.ProgramForm.{TypeForm, record_of, VariableForm, BodyForm, ProgramForm}
use Rattle.ada_resolve.specs.declared.fault.NameRule.TheVariants.{BodyMissing}
use Rattle.ada_resolve.specs.declared.primitives.Operation.{Operation}
use Rattle.ada_resolve.specs.Primitives.{answered, operand_of, operation_named, overrider}
use Rattle.ada_resolve.specs.Clauses.{pool_of}
use Rattle.ada_resolve.specs.Known.{Known, Part, Specifications, with_part, left_to, without_part, no_variable_yet, no_body_yet, types_go_on}
use Rattle.ada_resolve.specs.Instances.{is_collected}
use Rattle.ada_resolve.specs.Objects.{after_types, ends_types, missing_collections, collections_of}
use Rattle.ada_resolve.specs.Procedures.{no_formals, with_formals, behind_head, body_of, body_ended}
use Rattle.ada_resolve.specs.Statements.{bound_meant, condition_meant, text_in, simple_texts, with_texts}
use Rattle.ada_resolve.specs.Resolution.{gives, At, LoopHead, loop_of, behind_loop, with_parameter, declarations_told, SequenceForm, sequence_told, Others, simple_told, statement_told, statements_told, branches_told, handlers_told, program_of, known_first, Resolves}
use Rattle.ada_resolve.specs.Spots.{end_of, head_spot}
use Rattle.ada_resolve.specs.declared.library.Withs.{Withs}
use Rattle.ada_resolve.specs.Naming.{Context, Place, is_one_of}
use Rattle.ada_resolve.specs.Reading.{read_at, inside, behind, with_new_constant, IsPartRead, IsExpressionRead, IsCallRead, IsSimpleRead, behind_simple, AreChoicesRead, IsStatementRead, AreStatementsRead, AreBranchesRead, AreHandlersRead, IsSequenceRead, IsHeadRead, AreFormalsRead, IsNextBody, IsEndName, in_body, behind_body, first_place, first_context, IsReadAs}
use Rattle.ada_resolve.proofs.WellFormed.Tables.{get_last, both_parts}
use Rattle.ada_resolve.proofs.Standing.{Grows, Keeps, complete_grows, gives_same, SequenceStays, sequence_stays, BodyStays, body_stays, ProcedureDone, procedure_done, declarations_done, told_sound, told_keeps, declarations_keep, ended_keeps, head_formals, around_body, ended_is, behind_sound, Sound, Complete, Stays, OthersStay, made_from, first_sound, if_done, loop_done, LoopDone, HeadIs, block_done, declare_done, SequenceDone, sequence_done, statements_done, branch_done, handler_done, simple_done, ended_sound, declarations_sound, begin_complete, part_sound, parameter_sound, parameter_complete, texts_stay, statement_stays, statements_stay, branches_stay, handlers_stay, body_done, BodyDone}
use Rattle.ada_resolve.proofs.Agreeing.{Agrees, Ahead, Readable, agrees_same, agrees_inside, agrees_parameter, agrees_behind, none_specified, not_predefined}
use Rattle.ada_resolve.proofs.Reading.{simple_read, condition_read, bound_read, choices_read}
use Rattle.ada_resolve.proofs.Elaborated.{Over, after_specified, ahead_on, ahead_at, ahead_before, after_agrees, after_none, after_full, PartRead, LateRead, ends_read, nothing_left, part_first, late_none, late_first, complete_back, body_back, body_late}
use Rattle.ada_resolve.proofs.Bodied.{Early, Waits, body_waits, early_first}
use Rattle.ada_resolve.proofs.Heads.{HeadNamed, HeadRead, IsFinalizedRecord, IsOf, IsThere, head_named, head_read, ended_agrees, ahead_within, body_there}
use Rattle.ada_resolve.proofs.Operating.{is_finalized, no_overrider, operand_is}
use Rattle.ada_resolve.proofs.WellFormed.Forms.{AreIn, bare_final, forms, longer_types, record_stays}
use Rattle.ada_resolve.proofs.WellFormed.Remarks.{quiet_unless}

-- where a statement is read: all is in order there, and so are the types of the program
record Here (k : Known) (p : Context) : Type 0 where
  sound : Sound k
  complete : Complete k
  agrees : Agrees k p.place
  fit : list_all (type_fits p.types) p.types ≡ true

-- what is read at a place, and what is known behind it
record StatementRead (p : Context) (s : StatementTree) (f : StmtForm) (k : Known) : Type 0 where
  end : Place
  read : IsStatementRead p s f end
  agrees : Agrees k end

record StatementsRead (p : Context) (ss : StatementsTree) (fs : StmtsForm) (k : Known) : Type 0 where
  end : Place
  read : AreStatementsRead p ss fs end
  agrees : Agrees k end

record BranchesRead (p : Context) (bs : BranchesTree) (others : StatementsTree) (fs : BranchesForm) (k : Known) : Type 0 where
  end : Place
  read : AreBranchesRead p bs (λ q these place. AreStatementsRead q others these place) fs end
  agrees : Agrees k end

record HandlersRead (p : Context) (hs : HandlersTree) (fs : HandlersForm) (k : Known) : Type 0 where
  end : Place
  read : AreHandlersRead p hs fs end
  agrees : Agrees k end

statement_is : (p : Context) (s : StatementTree) (f g : StmtForm) (k m : Known) → f ≡ g → k ≡ m → StatementRead p s g m → StatementRead p s f k
statement_is p s f g k m same known r = subst (λ (h : StmtForm). StatementRead p s h k) (sym same) (subst (λ v. StatementRead p s g v) (sym known) r)

here_as : (k m : Known) (p : Context) → m ≡ k → Here k p → Here m p
here_as k m p same w = subst (λ v. Here v p) (sym same) w

ahead_as : (k m : Known) (p : Context) → k ≡ m → Ahead k p → Ahead m p
ahead_as k m p same w = subst (λ v. Ahead v p) same w

here_behind : (k m : Known) (p : Context) (end : Place) → Stays k m → list_all (type_fits p.types) p.types ≡ true → Agrees m end → Here m (read_at end p)
here_behind k m p end f fit agrees = record { sound = f.sound; complete = f.complete; agrees = agrees; fit = fit }

-- an inner part ends: tables stay
left_ahead : (m : Known) (outer : List Part) (p : Context) → Ahead (left_to outer m) p → Ahead m p
left_ahead m [] p w = record { types = w.types; placed = w.placed; pools = w.pools; variables = w.variables; exceptions = w.exceptions; texts = w.texts; bodies = w.bodies }
left_ahead m (part ∷ outer) p w = record { types = w.types; placed = w.placed; pools = w.pools; variables = w.variables; exceptions = w.exceptions; texts = w.texts; bodies = w.bodies }

record SameCounts (k m : Known) : Type 0 where
  types : length k.types ≡ length m.types
  pools : length k.pools ≡ length m.pools
  placed : (t : ℕ) → pool_of k.types t ≡ pool_of m.types t
  variables : length k.variables ≡ length m.variables
  exceptions : length k.exceptions ≡ length m.exceptions
  texts : length k.texts ≡ length m.texts
  bodies : length k.bodies ≡ length m.bodies
  controlled : k.controlled ≡ m.controlled
  limited : k.limited ≡ m.limited
  overridden : (o : Operation) (t : ℕ) → overrider o k.types t ≡ overrider o m.types t

left_counts : (m : Known) (outer : List Part) → SameCounts (left_to outer m) m
left_counts m [] = record { types = refl; pools = refl; placed = λ t. refl; variables = refl; exceptions = refl; texts = refl; bodies = refl; controlled = refl; limited = refl; overridden = λ o t. refl }
left_counts m (part ∷ outer) = record { types = refl; pools = refl; placed = λ t. refl; variables = refl; exceptions = refl; texts = refl; bodies = refl; controlled = refl; limited = refl; overridden = λ o t. refl }

agrees_left : (k m z : Known) (place end : Place) → Stays k z → z ≡ without_part m → Agrees k place → Agrees m end → Agrees z (behind place end)
agrees_left k m z place end f is w v =
    let c : SameCounts z m = subst (λ u. SameCounts u m) (sym is) (left_counts m m.outer) in
    agrees_behind k m z place end (ap (λ (x : Part). x.names) f.here) (ap (λ (x : Part). x.first_type) f.here) (ap (λ (x : Part). x.keeps_operand) f.here) (ap (λ (x : Part). x.around) f.here) f.outer c.types c.bodies c.variables c.exceptions c.texts c.pools c.placed c.controlled c.limited (ap (λ (x : Part). x.specified) f.here) c.overridden w v

-- behind a statement with no others in it, where the texts that it writes are counted
no_texts : (k : Known) (place : Place) → Agrees k place → Agrees (with_texts [] k) place
no_texts k place w =
    agrees_same k (with_texts [] k) place refl refl refl refl refl refl refl refl refl (ap (λ (ts : List (List ℕ)). length ts) (append-nil k.texts)) refl (λ t. refl) refl refl refl (λ o t. refl) w

one_text : (k : Known) (place : Place) (text : List ℕ) → Agrees k place → Agrees (with_texts (text ∷ []) k) (record place { texts = place.texts + 1 })
one_text k place text w = record {
  here = w.here;
  outer = w.outer;
  first_type = w.first_type;
  types = w.types;
  pools = w.pools;
  placed = w.placed;
  bodies = w.bodies;
  variables = w.variables;
  exceptions = w.exceptions;
  controlled = w.controlled;
  limited = w.limited;
  specified = w.specified;
  overridden = w.overridden;
  kept = w.kept;
  texts = ap (λ (n : ℕ). n + 1) w.texts ∙ sym (length-append k.texts (text ∷ []));
}

agrees_called : (k : Known) (p : Context) (procedure : PathTree) (arguments : List ArgumentTree) (form : StmtForm) → Agrees k p.place → IsCallRead p procedure arguments form → Agrees (with_texts (text_in arguments) k) (behind_simple form p.place)
agrees_called k p procedure (text_argument spot text ∷ []) (writes_text n) w r = one_text k p.place text w
agrees_called k p procedure (attribute_argument prefix attribute value ∷ []) (writes form) w r = no_texts k p.place w
agrees_called k p procedure (expression_argument (path_expression tree) ∷ []) (frees access path) w r = no_texts k p.place w
agrees_called k p procedure (expression_argument (path_expression tree) ∷ []) (gets path) w r = no_texts k p.place w
agrees_called k p procedure [] (calls n actuals) w r = no_texts k p.place w
agrees_called k p procedure (expression_argument (path_expression tree) ∷ []) (calls n actuals) w r = no_texts k p.place w
agrees_called k p procedure (expression_argument (path_expression tree) ∷ (other ∷ more)) (calls n actuals) w r = no_texts k p.place w
agrees_called k p procedure (text_argument spot text ∷ []) (calls n []) w r = absurd r.2
agrees_called k p procedure (text_argument spot text ∷ []) (calls n (actual ∷ actuals)) w r = absurd r.2
agrees_called k p procedure (text_argument spot text ∷ (other ∷ more)) (calls n []) w r = absurd r.2
agrees_called k p procedure (text_argument spot text ∷ (other ∷ more)) (calls n (actual ∷ actuals)) w r = absurd r.2
agrees_called k p procedure (attribute_argument prefix attribute value ∷ []) (calls n actuals) w r = no_texts k p.place w
agrees_called k p procedure (attribute_argument prefix attribute value ∷ (other ∷ more)) (calls n actuals) w r = no_texts k p.place w
agrees_called k p procedure (expression_argument e ∷ []) (calls n actuals) w r = no_texts k p.place w
agrees_called k p procedure (expression_argument e ∷ (other ∷ more)) (calls n actuals) w r = no_texts k p.place w
agrees_called k p procedure arguments form w r = absurd r

agrees_simple : (k : Known) (p : Context) (s : StatementTree) (form : StmtForm) → Agrees k p.place → IsSimpleRead p s form → Agrees (with_texts (simple_texts s) k) (behind_simple form p.place)
agrees_simple k p (null_statement spot) skips w r = no_texts k p.place w
agrees_simple k p (assignment target value) (assigns path right) w r = no_texts k p.place w
agrees_simple k p (assignment target value) (assigns_record path items) w r = no_texts k p.place w
agrees_simple k p (call procedure arguments) form w r = agrees_called k p procedure arguments form w r
agrees_simple k p (exit_statement spot written) (exits condition at) w r = no_texts k p.place w
agrees_simple k p (return_statement spot) (returns at) w r = no_texts k p.place w
agrees_simple k p (raise_statement spot name) (raises e) w r = no_texts k p.place w
agrees_simple k p s form w r = absurd r

-- a statement with no others in it
simple_one : (p : Context) (inside_loop : Bool) (s : StatementTree) (at : At) (done : StmtForm × At) → Here at.0 p → Ahead done.1.0 p → simple_told inside_loop s at ≡ gives done → IsSimpleRead p s done.0 × Agrees done.1.0 (behind_simple done.0 p.place)
simple_one p inside_loop s at done w ahead e =
    let d = simple_done inside_loop s at done e in
    let more = with_texts (simple_texts s) at.0 in
    let last = ahead_as done.1.0 more p d.known ahead in
    let grows = (texts_stay (simple_texts s) at.0 w.sound w.complete).grows in
    let readable : Readable at.0 p = record { fits = w.sound.names; agrees = w.agrees; ahead = ahead_on at.0 more p grows last } in
    let means = simple_read at.0 p inside_loop s readable (λ text is. (sym w.agrees.texts, text_there at.0 p (simple_texts s) text last is)) d.quiet in
    let read : IsSimpleRead p s done.0 = subst (λ (f : StmtForm). IsSimpleRead p s f) (sym d.form) means in
    (read, subst (λ v. Agrees v (behind_simple done.0 p.place)) (sym d.known) (agrees_simple at.0 p s done.0 w.agrees read))
  where
    text_there : (k : Known) (p : Context) (texts : List (List ℕ)) (text : List ℕ) → Ahead (with_texts texts k) p → texts ≡ text ∷ [] → slice_get p.texts (length k.texts) ≡ Some text
    text_there k p texts text last is =
        last.texts (length k.texts) text (ap (λ (ts : List (List ℕ)). slice_get (k.texts ++ ts) (length k.texts)) is ∙ get_last k.texts text)

-- how statements and handlers are read, wherever they stand
abbrev ReadsStatements : Context → Bool → StatementsTree → Type 0
ReadsStatements p inside_loop ss =
    (place : Place) (at : At) (done : StmtsForm × At) → Here at.0 (read_at place p) → Ahead done.1.0 (read_at place p) → statements_told inside_loop ss at ≡ gives done → StatementsRead (read_at place p) ss done.0 done.1.0

abbrev ReadsHandlers : Context → Bool → HandlersTree → Type 0
ReadsHandlers p inside_loop hs =
    (place : Place) (at : At) (done : HandlersForm × At) → Here at.0 (read_at place p) → Ahead done.1.0 (read_at place p) → handlers_told inside_loop hs at ≡ gives done → HandlersRead (read_at place p) hs done.0 done.1.0

abbrev ReadsOthers : Context → StatementsTree → Others → Type 0
ReadsOthers p others tail =
    (place : Place) (at : At) (done : StmtsForm × At) → Here at.0 (read_at place p) → Ahead done.1.0 (read_at place p) → tail at ≡ gives done → StatementsRead (read_at place p) others done.0 done.1.0

-- the statements and the handlers of a part
record SequenceRead (p : Context) (body : SequenceTree) (fs : SequenceForm) (k : Known) : Type 0 where
  end : Place
  read : IsSequenceRead p body fs.0 fs.1 end
  agrees : Agrees k end

-- where a declarative part is read, up to its end
record Begun (k : Known) (p : Context) : Type 0 where
  sound : Sound k
  agrees : Agrees k p.place
  fit : list_all (type_fits p.types) p.types ≡ true

-- how the parts of a body are read, wherever it stands
abbrev ReadsPart : DeclarationsTree → Type 0
ReadsPart ds =
    (q : Context) (at after : At) → Begun at.0 q → Early at.0 q.place → types_go_on at.0 ≡ true → Over after.0 → Ahead after.0 q → declarations_told ds at ≡ gives after → PartRead q ds at.0 after.0

abbrev ReadsSequence : Bool → SequenceTree → Type 0
ReadsSequence inside_loop body =
    (q : Context) (at : At) (done : SequenceForm × At) → Begun at.0 q → Ahead done.1.0 q → sequence_told inside_loop body at ≡ gives done → SequenceRead q body done.0 done.1.0

sequence_one : (p : Context) (inside_loop : Bool) (start : Spot) (ss : StatementsTree) (hs : HandlersTree) (last : Spot) (at : At) (done : SequenceForm × At) → Begun at.0 p → Ahead done.1.0 p → SequenceDone inside_loop start ss hs at done → ReadsStatements p inside_loop ss → ReadsHandlers p inside_loop hs → SequenceRead p (a_sequence start ss hs last) done.0 done.1.0
sequence_one p inside_loop start ss hs last at done w ahead d reads handles =
    subst (λ (fs : SequenceForm). SequenceRead p (a_sequence start ss hs last) fs done.1.0) (sym d.form) (record {
      end = handlers.end;
      read = (statements.end, statements.read, handlers.read);
      agrees = subst (λ v. Agrees v handlers.end) (sym d.known) handlers.agrees;
    })
  where
    ready_sound : Sound d.ready.0
    ready_sound = subst Sound (sym d.ready_known) (ended_sound at.0 w.sound)

    ready_complete : Complete d.ready.0
    ready_complete = subst (λ (v : Known). Complete v) (sym d.ready_known) (begin_complete at.0 start d.quiet)

    ready_agrees : Agrees d.ready.0 p.place
    ready_agrees = subst (λ v. Agrees v p.place) (sym d.ready_known) (after_agrees at.0 p.place w.agrees)

    first : Stays d.ready.0 d.own.1.0
    first = statements_stay inside_loop ss d.ready d.own ready_sound ready_complete d.told

    second : Stays d.own.1.0 d.handled.1.0
    second = handlers_stay inside_loop hs d.own.1 d.handled first.sound first.complete d.handlers_so

    last_ahead : Ahead d.handled.1.0 p
    last_ahead = ahead_as done.1.0 d.handled.1.0 p d.known ahead

    own_ahead : Ahead d.own.1.0 p
    own_ahead = ahead_on d.own.1.0 d.handled.1.0 p second.grows last_ahead

    statements : StatementsRead p ss d.own.0 d.own.1.0
    statements = reads p.place d.ready d.own (record { sound = ready_sound; complete = ready_complete; agrees = ready_agrees; fit = w.fit }) own_ahead d.told

    handlers : HandlersRead (read_at statements.end p) hs d.handled.0 d.handled.1.0
    handlers = handles statements.end d.own.1 d.handled (here_behind d.ready.0 d.own.1.0 p statements.end first w.fit statements.agrees) (ahead_at d.handled.1.0 p statements.end last_ahead) d.handlers_so

-- no operation waits for its body there
part_over : (inside_loop : Bool) (body : SequenceTree) (at : At) (done : SequenceForm × At) → Complete at.0 → sequence_told inside_loop body at ≡ gives done → Over at.0
part_over inside_loop (a_sequence start ss hs last) at done c e =
    let d = sequence_done inside_loop start ss hs last at done e in
    let n = at.0.here.specified.awaited in
    record { complete = c; awaited = eqb-true n 0 (quiet_unless (n == 0) start BodyMissing d.quiet.1) }

-- an inner part begins
inner_begun : (k m : Known) (p : Context) → m ≡ with_part k → Here k p → Begun m (read_at (inside p.place) p)
inner_begun k m p is w =
    subst (λ v. Begun v (read_at (inside p.place) p)) (sym is) (record { sound = part_sound k w.sound w.complete; agrees = agrees_inside k p.place w.agrees; fit = w.fit })

block_early : (k : Known) (place : Place) → Agrees k place → Early (with_part k) (inside place)
block_early k place w = early_first (with_part k) (inside place) (agrees_inside k place w) refl refl (λ o t. refl)

part_goes_on : (k : Known) → types_go_on (with_part k) ≡ true
part_goes_on k = both_parts (no_variable_yet (with_part k)) (no_body_yet (with_part k)) (eq-eqb (length k.variables) (length k.variables) refl) (eq-eqb (length k.bodies) (length k.bodies) refl)

types_inside : (k m : Known) → m ≡ with_part k → types_go_on m ≡ true
types_inside k m is = ap (λ (v : Known). types_go_on v) is ∙ part_goes_on k

-- a part without declarations creates nothing
nothing_behind : {X : Type 0} (xs : List X) → drop (length xs) xs ≡ []
nothing_behind [] = refl
nothing_behind (x ∷ xs) = nothing_behind xs

nothing_made : (k : Known) → (after_types (with_part k)).here.elaborated ≡ []
unfolding after_types
nothing_made k = by_end (types_go_on (with_part k))
  where
    none : missing_collections (with_part k) ≡ []
    none = ap (λ (ts : List TypeForm). collections_of (length k.types) ts []) (nothing_behind k.types)

    by_end : (b : Bool) → (ends_types b (with_part k)).here.elaborated ≡ []
    by_end true = none
    by_end false = refl

-- a block, once its part is read
block_behind : (p : Context) (k m z : Known) (place : Place) → Stays k z → z ≡ without_part m → Agrees k p.place → Agrees m place → Agrees z (behind p.place place)
block_behind p k m z place f is w v = agrees_left k m z p.place place f is w v

block_ahead : (p : Context) (m z : Known) → z ≡ without_part m → Ahead z p → Ahead m (read_at (inside p.place) p)
block_ahead p m z is ahead = ahead_at m p (inside p.place) (left_ahead m m.outer p (ahead_as z (without_part m) p is ahead))

-- the body of a procedure, with its head, and what is known behind it
record ProcedureRead (p : Context) (head : HeadTree) (inner : DeclarationsTree) (body : SequenceTree) (end_name : Option Ident) (k m : Known) : Type 0 where
  b : BodyForm
  overrides : Option (Operation × ℕ)
  formals : Place
  declared : Place
  done : Place
  head_so : IsHeadRead p head overrides
  formals_so : AreFormalsRead (in_body overrides head.name b p) p.place head.formals b.formals formals
  part_so : IsPartRead (read_at formals (in_body overrides head.name b p)) (Some []) inner b.declarations declared
  body_so : IsSequenceRead (read_at declared (in_body overrides head.name b p)) body b.statements b.handlers done
  next_so : IsNextBody p b head body formals done
  end_so : IsEndName head.name.text end_name
  agrees : Agrees m (behind_body overrides head.name p.place done)
  waits : Waits k p.place → Waits m (behind_body overrides head.name p.place done)

inner_goes_on : (k : Known) (head : HeadTree) → types_go_on (behind_head k head) ≡ true
unfolding behind_head
inner_goes_on k head =
    let f = with_formals k head.formals no_formals in
    both_parts (length f.variables == length f.variables) (length k.bodies == length k.bodies) (eq-eqb (length f.variables) (length f.variables) refl) (eq-eqb (length k.bodies) (length k.bodies) refl)

-- nothing is specified in it yet
inner_early : (k : Known) (head : HeadTree) (place : Place) → Agrees (behind_head k head) place → Early (behind_head k head) place
unfolding behind_head
inner_early k head place w = early_first (behind_head k head) place w refl refl (λ o t. w.specified o t ∙ sym (none_specified o t))

named_alike : (o : Option Operation) (overrides : Option (Operation × ℕ)) → IsOf o overrides → is_some o ≡ is_some overrides
named_alike None None is = refl
named_alike (Some o) (Some which) is = refl
named_alike None (Some which) is = absurd is
named_alike (Some o) None is = absurd is

inner_elaborated : (k : Known) (head : HeadTree) → (behind_head k head).here.elaborated ≡ []
unfolding behind_head
inner_elaborated k head = refl

inner_modes : (k : Known) (head : HeadTree) → length (behind_head k head).here.modes ≡ length (behind_head k head).variables
unfolding behind_head
inner_modes k head = (head_formals k head.formals).modes

-- a record type with controlled parts stays one
finalized_stays : (types more : List TypeForm) → AreIn (forms types) (forms more) → (t : ℕ) → IsFinalizedRecord types t → IsFinalizedRecord more t
finalized_stays types more g t (name, ps, cs, f, is) =
    let last = record_stays types more g t name ps cs (Some f) is in
    let some = some_final last.0 f last.2 in
    (name, ps, cs, some.0, last.1 ∙ ap (λ (z : Option Finalized). Some (record_of name ps cs z)) some.1)
  where
    some_final : (z : Option Finalized) (f : Finalized) → bare_final z ≡ bare_final (Some f) → (g : Finalized) × (z ≡ Some g)
    some_final (Some g) f e = (g, refl)
    some_final None f e = absurd (cc e)

procedure_read : (p : Context) (head : HeadTree) (inner : DeclarationsTree) (body : SequenceTree) (end_name : Option Ident) (at next : At) → Begun at.0 p → Ahead next.0 p → ProcedureDone head inner body end_name at next → ReadsPart inner → ReadsSequence false body → ProcedureRead p head inner body end_name at.0 next.0
procedure_read p head inner body end_name at next w ahead d part_so sequence_so = record {
  b = b;
  overrides = h.overrides;
  formals = first.end;
  declared = part.end;
  done = sequence.end;
  head_so = first.head_so;
  formals_so = subst (λ (ms : List FormalMode). AreFormalsRead q p.place head.formals ms first.end) (sym same_modes) first.read;
  part_so = subst (λ (es : List DeclarationForm). IsPartRead (read_at first.end q) (Some []) inner es part.end) (sym elaborated) (part.read [] nothing_yet);
  body_so = sequence.read;
  next_so = (body_there k z head d.done.0.0 d.done.0.1 (head_spot head) (end_of body) p sequence.end stays.done_in next_ahead sequence.agrees, formals_count, sym sequence.agrees.variables, refl, refl);
  end_so = d.end_so;
  agrees = subst (λ v. Agrees v (behind_body h.overrides head.name p.place sequence.end)) (sym d.known)
      (ended_agrees k z head h.overrides d.done.0.0 d.done.0.1 (head_spot head) (end_of body) p.place sequence.end stays.done_in h.is_of there agrees sequence.agrees);
  waits = λ w.
      let types = agrees.types in
      let behind = sequence.agrees.types in
      let longer = longer_types k.types z.types stays.done_in.types in
      body_waits at.0 next.0 p head h.overrides (operation_named head.name.text) head.name sequence.end first.head_so
      (named_alike (operation_named head.name.text) h.overrides h.is_of)
      (λ o t is. sym (sequence.agrees.overridden o t) ∙ (stays.done_in.overriders o t (subst (λ (n : ℕ). t < n) agrees.types (w.below o t is)) ∙ agrees.overridden o t))
      (omega (arith, types, behind, longer))
      (ap (λ (v : Known). v.here.specified) (d.known ∙ ended_is (around_body k head) z head.name d.done.0.0 d.done.0.1 (head_spot head) (end_of body) stays.done_in) ∙
      ap (λ (ss : Specifications). answered (operation_named head.name.text) ss) (after_specified at.0)) w;
}
  where
    k : Known
    k = after_types at.0

    z : Known
    z = d.done.1.0

    b : BodyForm
    b = body_of z d.done.0.0 d.done.0.1 (head_spot head) (end_of body)

    h : HeadNamed k head
    h = head_named k head d.quiet

    q : Context
    q = in_body h.overrides head.name b p

    stays : BodyStays at d.inner d.behind next head d.done
    stays = body_stays head inner body end_name at next d w.sound

    agrees : Agrees k p.place
    agrees = after_agrees at.0 p.place w.agrees

    next_ahead : Ahead (body_ended head.name d.done.0.0 d.done.0.1 (head_spot head) (end_of body) z) p
    next_ahead = ahead_as next.0 (body_ended head.name d.done.0.0 d.done.0.1 (head_spot head) (end_of body) z) p d.known ahead

    z_ahead : Ahead z q
    z_ahead = ahead_within k z head h.overrides d.done.0.0 d.done.0.1 (head_spot head) (end_of body) p stays.done_in next_ahead

    behind_ahead : Ahead d.behind.0 q
    behind_ahead = ahead_before d.behind.0 q (ahead_on (after_types d.behind.0) z q stays.sequence.stays.grows z_ahead)

    inner_keeps : Keeps d.inner.0 d.behind.0
    inner_keeps = declarations_keep inner d.inner d.behind stays.inner_sound d.declared

    inner_grows : Grows d.inner.0 d.behind.0
    inner_grows = complete_grows d.inner.0 d.behind.0 stays.inner_complete inner_keeps

    inner_ahead : Ahead (behind_head k head) q
    inner_ahead = ahead_as d.inner.0 (behind_head k head) q d.inner_known (ahead_on d.inner.0 d.behind.0 q inner_grows behind_ahead)

    first : HeadRead p head h.overrides b (behind_head k head)
    first = head_read k p head b h stays.before agrees d.quiet inner_ahead

    -- what it overrides is there at its end
    there : IsThere h.overrides z.types (operand_of z.types z.here.modes z.variables)
    there = by_overrides h.overrides refl
      where
        by_overrides : (overrides : Option (Operation × ℕ)) → h.overrides ≡ overrides → IsThere overrides z.types (operand_of z.types z.here.modes z.variables)
        by_overrides None is = tt
        by_overrides (Some which) is =
            let found = h.operand which is in
            let own = operand_is k which.0 head which.1 found.1 in
            let had = is_finalized k.types which.1 stays.before.types_fit own.controlled in
            (stays.operand which.0 which.1 found.0 found.1, finalized_stays k.types z.types stays.done_in.types which.1 had)

    part : PartRead (read_at first.end q) inner d.inner.0 d.behind.0
    part = part_so (read_at first.end q) d.inner d.behind
        (record { sound = stays.inner_sound; agrees = subst (λ v. Agrees v first.end) (sym d.inner_known) first.agrees; fit = w.fit })
        (subst (λ v. Early v first.end) (sym d.inner_known) (inner_early k head first.end first.agrees))
        (ap (λ (v : Known). types_go_on v) d.inner_known ∙ inner_goes_on k head) (part_over false body d.behind d.done stays.sequence.complete d.told) (ahead_at d.behind.0 q first.end behind_ahead) d.declared

    sequence : SequenceRead (read_at part.end q) body d.done.0 z
    sequence = sequence_so (read_at part.end q) d.behind d.done (record { sound = stays.behind_in.sound; agrees = part.agrees; fit = w.fit }) (ahead_at z q part.end z_ahead) d.told

    nothing : d.inner.0.here.elaborated ≡ []
    nothing = ap (λ (v : Known). v.here.elaborated) d.inner_known ∙ inner_elaborated k head

    nothing_yet : (t : ℕ) → is_one_of t [] ≡ is_collected t d.inner.0.here.elaborated
    nothing_yet t = ap (λ (es : List DeclarationForm). is_collected t es) (sym nothing)

    elaborated : z.here.elaborated ≡ part.forms
    elaborated =
        ap (λ (x : Part). x.elaborated) stays.sequence.stays.here ∙
        (part.elaborated ∙ ap (λ (es : List DeclarationForm). es ++ part.forms) nothing)

    same_modes : z.here.modes ≡ (behind_head k head).here.modes
    same_modes =
        ap (λ (x : Part). x.modes) stays.sequence.stays.here ∙
        ((ended_keeps d.behind.0).modes ∙ (inner_keeps.modes ∙ ap (λ (v : Known). v.here.modes) d.inner_known))

    formals_count : length z.here.modes ≡ first.end.variables
    formals_count = ap (λ (ms : List FormalMode). length ms) same_modes ∙ (inner_modes k head ∙ sym first.agrees.variables)

-- a body among types, and one behind another
body_first : (p : Context) (head : HeadTree) (inner : DeclarationsTree) (body : SequenceTree) (end_name : Option Ident) (ds : DeclarationsTree) (at next after : At) → Agrees at.0 p.place → types_go_on at.0 ≡ true → Complete at.0 → Ahead at.0 p → next.0.here.elaborated ≡ (after_types at.0).here.elaborated → (r : ProcedureRead p head inner body end_name at.0 next.0) → LateRead (read_at (behind_body r.overrides head.name p.place r.done) p) ds next.0 after.0 → PartRead p (a_declaration (body_declaration head inner body end_name) ds) at.0 after.0
body_first p head inner body end_name ds at next after w go c ahead same r on = record {
  forms = missing_collections at.0 ++ on.forms;
  end = on.end;
  elaborated = on.elaborated ∙ (ap (λ (es : List DeclarationForm). es ++ on.forms) (same ∙ ap (λ (v : Known). v.here.elaborated) (after_none at.0 go)) ∙
      append_assoc at.0.here.elaborated (missing_collections at.0) on.forms);
  read = λ made collected. (r.b, on.forms, r.overrides, r.formals, r.declared, r.done, ends_read at.0 p on.forms w c ahead made collected, r.head_so, r.formals_so, r.part_so, r.body_so, r.next_so, r.end_so, on.read);
  agrees = on.agrees;
}

body_later : (p : Context) (head : HeadTree) (inner : DeclarationsTree) (body : SequenceTree) (end_name : Option Ident) (ds : DeclarationsTree) (at next after : At) → types_go_on at.0 ≡ false → next.0.here.elaborated ≡ (after_types at.0).here.elaborated → (r : ProcedureRead p head inner body end_name at.0 next.0) → LateRead (read_at (behind_body r.overrides head.name p.place r.done) p) ds next.0 after.0 → LateRead p (a_declaration (body_declaration head inner body end_name) ds) at.0 after.0
body_later p head inner body end_name ds at next after late same r on = record {
  forms = on.forms;
  end = on.end;
  elaborated = on.elaborated ∙ ap (λ (es : List DeclarationForm). es ++ on.forms) (same ∙ ap (λ (v : Known). v.here.elaborated) (after_full at.0 late));
  read = (r.b, on.forms, r.overrides, r.formals, r.declared, r.done, refl, r.head_so, r.formals_so, r.part_so, r.body_so, r.next_so, r.end_so, on.read);
  agrees = on.agrees;
}

-- a body elaborates nothing in the part around it
body_elaborates : (head : HeadTree) (inner : DeclarationsTree) (body : SequenceTree) (end_name : Option Ident) (at next : At) (d : ProcedureDone head inner body end_name at next) → Sound at.0 → next.0.here.elaborated ≡ (after_types at.0).here.elaborated
body_elaborates head inner body end_name at next d s =
    let stays = body_stays head inner body end_name at next d s in
    ap (λ (v : Known). v.here.elaborated) (d.known ∙ ended_is (around_body (after_types at.0) head) d.done.1.0 head.name d.done.0.0 d.done.0.1 (head_spot head) (end_of body) stays.done_in)

-- a loop over the values of a parameter
range_read : (p : Context) (inside_loop : Bool) (spot : Spot) (name : Ident) (low high : ExpressionTree) (ss : StatementsTree) (last : Spot) (at : At) (done : StmtForm × At) → Here at.0 p → Ahead done.1.0 p → Stays at.0 done.1.0 → (d : LoopDone spot (for_scheme name low high) ss last at done) → ReadsStatements p true ss → StatementRead p (loop_statement spot (for_scheme name low high) ss last) done.0 done.1.0
range_read p inside_loop spot name low high ss last at done w ahead stays d reads =
    statement_is p (loop_statement spot (for_scheme name low high) ss last) done.0 (counts x (bound_meant k low) (bound_meant k high) d.own.0 last) done.1.0 done.1.0 form refl (record {
      end = behind p.place r.end;
      read = ((sym w.agrees.variables, (refl, not_predefined name is.0.1.0.0), there, bound_read k p low readable is.0.1.1.0, bound_read k p high readable is.0.1.1.1), refl, r.end, r.read, refl);
      agrees = agrees_left k d.own.1.0 done.1.0 p.place r.end stays known w.agrees r.agrees;
    })
  where
    k : Known
    k = at.0

    x : ℕ
    x = length k.variables

    is : HeadIs spot (for_scheme name low high) k d.head.0 d.head.1.0
    is = d.head_so.is

    form : done.0 ≡ counts x (bound_meant k low) (bound_meant k high) d.own.0 last
    form = d.form ∙ ap (λ (h : LoopHead). loop_of h d.own.0 last) is.1

    known : done.1.0 ≡ without_part d.own.1.0
    known = d.known ∙ ap (λ (h : LoopHead). behind_loop h d.own.1.0) is.1

    place : Place
    place = with_new_constant name (inside p.place)

    begun : Here d.head.1.0 (read_at place p)
    begun = here_as (with_parameter name k) d.head.1.0 (read_at place p) is.2
        (record { sound = parameter_sound name k w.sound w.complete; complete = parameter_complete name k; agrees = agrees_parameter k p.place name w.agrees; fit = w.fit })

    own_ahead : Ahead d.own.1.0 p
    own_ahead = left_ahead d.own.1.0 d.own.1.0.outer p (ahead_as done.1.0 (without_part d.own.1.0) p known ahead)

    r : StatementsRead (read_at place p) ss d.own.0 d.own.1.0
    r = reads place d.head.1 d.own begun (ahead_at d.own.1.0 p place own_ahead) d.told

    begun_ahead : Ahead d.head.1.0 p
    begun_ahead = ahead_on d.head.1.0 d.own.1.0 p (statements_stay true ss d.head.1 d.own begun.sound begun.complete d.told).grows own_ahead

    v : VariableForm
    v = record { name = name.text; spot = name.spot; kind = variable.Integer; borrows = false }

    there : slice_get p.variables x ≡ Some v
    there = begun_ahead.variables x v (ap (λ (u : Known). slice_get u.variables x) is.2 ∙ get_last k.variables v)

    readable : Readable k p
    readable = record { fits = w.sound.names; agrees = w.agrees; ahead = ahead_on k done.1.0 p stays.grows ahead }

-- the statements, with those in them
mutual
  statement_read : (p : Context) (inside_loop : Bool) (s : StatementTree) (at : At) (done : StmtForm × At) → Here at.0 p → Ahead done.1.0 p → statement_told inside_loop s at ≡ gives done → StatementRead p s done.0 done.1.0
  statement_read p inside_loop (if_statement spot branches others last) at done w ahead e =
      let tail : Others = λ more. statements_told inside_loop others more in
      let d = if_done inside_loop spot branches others last at done e in
      let known : done.1.0 ≡ d.own.1.0 = ap (λ (v : At). v.0) d.behind in
      let r = branches_read p inside_loop branches others tail d.begun d.own (here_as at.0 d.begun.0 p d.begun_known w) (ahead_as done.1.0 d.own.1.0 p known ahead)
      (λ before out s c told. statements_stay inside_loop others before out s c told)
      (λ place before out here there told. statements_read (read_at place p) inside_loop others before out here there told) d.told in
      statement_is p (if_statement spot branches others last) done.0 (chooses d.own.0) done.1.0 d.own.1.0 d.form known (record { end = r.end; read = r.read; agrees = r.agrees })
  statement_read p inside_loop (loop_statement spot endless ss last) at done w ahead e =
      let d = loop_done inside_loop spot endless ss last at done e in
      let is = d.head_so.is in
      let form : done.0 ≡ repeats None d.own.0 last = d.form ∙ ap (λ (h : LoopHead). loop_of h d.own.0 last) is.0 in
      let known : done.1.0 ≡ d.own.1.0 = d.known ∙ ap (λ (h : LoopHead). behind_loop h d.own.1.0) is.0 in
      let r = statements_read p true ss d.head.1 d.own (here_as at.0 d.head.1.0 p is.1 w) (ahead_as done.1.0 d.own.1.0 p known ahead) d.told in
      statement_is p (loop_statement spot endless ss last) done.0 (repeats None d.own.0 last) done.1.0 d.own.1.0 form known (record { end = r.end; read = (tt, refl, r.read); agrees = r.agrees })
  statement_read p inside_loop (loop_statement spot (while_scheme c) ss last) at done w ahead e =
      let d = loop_done inside_loop spot (while_scheme c) ss last at done e in
      let is = d.head_so.is in
      let condition = condition_meant at.0 c in
      let form : done.0 ≡ repeats (Some condition) d.own.0 last = d.form ∙ ap (λ (h : LoopHead). loop_of h d.own.0 last) is.1 in
      let known : done.1.0 ≡ d.own.1.0 = d.known ∙ ap (λ (h : LoopHead). behind_loop h d.own.1.0) is.1 in
      let own_ahead = ahead_as done.1.0 d.own.1.0 p known ahead in
      let r = statements_read p true ss d.head.1 d.own (here_as at.0 d.head.1.0 p is.2 w) own_ahead d.told in
      let stays = statement_stays inside_loop (loop_statement spot (while_scheme c) ss last) at done w.sound w.complete e in
      let readable : Readable at.0 p = record { fits = w.sound.names; agrees = w.agrees; ahead = ahead_on at.0 done.1.0 p stays.grows ahead } in
      statement_is p (loop_statement spot (while_scheme c) ss last) done.0 (repeats (Some condition) d.own.0 last) done.1.0 d.own.1.0 form known
      (record { end = r.end; read = (condition_read at.0 p c readable is.0, refl, r.read); agrees = r.agrees })
  statement_read p inside_loop (loop_statement spot (for_scheme name low high) ss last) at done w ahead e =
      range_read p inside_loop spot name low high ss last at done w ahead (statement_stays inside_loop (loop_statement spot (for_scheme name low high) ss last) at done w.sound w.complete e)
      (loop_done inside_loop spot (for_scheme name low high) ss last at done e)
      (λ place before out here there told. statements_read (read_at place p) true ss before out here there told)
  statement_read p inside_loop (block body) at done w ahead e =
      let s = block body in
      let d = block_done inside_loop body at done e in
      let stays = statement_stays inside_loop s at done w.sound w.complete e in
      let q = read_at (inside p.place) p in
      let m = d.body_done.1.0 in
      let begun = inner_begun at.0 d.inner.0 p d.inner_known w in
      let own = sequence_stays inside_loop body d.inner d.body_done begun.sound d.told in
      let r = sequence_read q inside_loop body d.inner d.body_done begun (block_ahead p m done.1.0 d.known ahead) d.told in
      let nothing : m.here.elaborated ≡ [] = ap (λ (x : Part). x.elaborated) own.stays.here ∙
      (ap (λ (v : Known). (after_types v).here.elaborated) d.inner_known ∙ nothing_made at.0) in
      statement_is p s done.0 (encloses m.here.elaborated d.body_done.0.0 d.body_done.0.1) done.1.0 done.1.0 d.form refl (record {
        end = behind p.place r.end;
        read = (r.end, nothing, r.read, refl);
        agrees = agrees_left at.0 m done.1.0 p.place r.end stays d.known w.agrees r.agrees;
      })
  statement_read p inside_loop (declare_block spot ds body) at done w ahead e =
      let s = declare_block spot ds body in
      let d = declare_done inside_loop spot ds body at done e in
      let stays = statement_stays inside_loop s at done w.sound w.complete e in
      let q = read_at (inside p.place) p in
      let m = d.body_done.1.0 in
      let begun = inner_begun at.0 d.inner.0 p d.inner_known w in
      let behind_sound = declarations_sound ds d.inner d.behind begun.sound d.declared in
      let own = sequence_stays inside_loop body d.behind d.body_done behind_sound d.told in
      let last = block_ahead p m done.1.0 d.known ahead in
      let behind_ahead = ahead_before d.behind.0 q (ahead_on (after_types d.behind.0) m q own.stays.grows last) in
      let part = part_read q ds d.inner d.behind begun (subst (λ v. Early v (inside p.place)) (sym d.inner_known) (block_early at.0 p.place w.agrees)) (types_inside at.0 d.inner.0 d.inner_known) (part_over inside_loop body d.behind d.body_done own.complete d.told) behind_ahead d.declared in
      let r = sequence_read (read_at part.end q) inside_loop body d.behind d.body_done (record { sound = behind_sound; agrees = part.agrees; fit = w.fit }) (ahead_at m q part.end last) d.told in
      let nothing : d.inner.0.here.elaborated ≡ [] = ap (λ (v : Known). v.here.elaborated) d.inner_known in
      let elaborated : m.here.elaborated ≡ part.forms = ap (λ (x : Part). x.elaborated) own.stays.here ∙
      (part.elaborated ∙ ap (λ (es : List DeclarationForm). es ++ part.forms) nothing) in
      let begins : IsPartRead q (Some []) ds m.here.elaborated part.end = subst (λ (es : List DeclarationForm). IsPartRead q (Some []) ds es part.end) (sym elaborated)
      (part.read [] (λ t. ap (λ (es : List DeclarationForm). is_collected t es) (sym nothing))) in
      statement_is p s done.0 (encloses m.here.elaborated d.body_done.0.0 d.body_done.0.1) done.1.0 done.1.0 d.form refl (record {
        end = behind p.place r.end;
        read = (part.end, r.end, begins, r.read, refl);
        agrees = agrees_left at.0 m done.1.0 p.place r.end stays d.known w.agrees r.agrees;
      })
  statement_read p inside_loop s at done w ahead e =
      let r = simple_one p inside_loop s at done w ahead e in record { end = behind_simple done.0 p.place; read = (r.0, refl); agrees = r.1 }

  -- the statements and the handlers of a part
  sequence_read : (p : Context) (inside_loop : Bool) (body : SequenceTree) (at : At) (done : SequenceForm × At) → Begun at.0 p → Ahead done.1.0 p → sequence_told inside_loop body at ≡ gives done → SequenceRead p body done.0 done.1.0
  sequence_read p inside_loop (a_sequence start ss hs last) at done w ahead e =
      sequence_one p inside_loop start ss hs last at done w ahead (sequence_done inside_loop start ss hs last at done e)
      (λ place before out here there told. statements_read (read_at place p) inside_loop ss before out here there told)
      (λ place before out here there told. handlers_read (read_at place p) inside_loop hs before out here there told)

  -- the declarations, from one on where the types go on
  part_read : (p : Context) (ds : DeclarationsTree) (at after : At) → Begun at.0 p → Early at.0 p.place → types_go_on at.0 ≡ true → Over after.0 → Ahead after.0 p → declarations_told ds at ≡ gives after → PartRead p ds at.0 after.0
  part_read p no_declarations at after w early go c ahead e =
      let same = gives_same e in
      subst (λ (v : At). PartRead p no_declarations at.0 v.0) same
      (nothing_left at.0 p w.agrees early.waits go (subst (λ (v : At). Over v.0) (sym same) c) (subst (λ (v : At). Ahead v.0 p) (sym same) ahead))
  part_read p (a_declaration (body_declaration head inner body end_name) ds) at after w early go c ahead e =
      let d = body_declaration head inner body end_name in
      let done = declarations_done d ds at after e in
      let own = procedure_done head inner body end_name at done.next done.one in
      let sound = told_sound d at done.next w.sound done.one in
      let late = body_late head inner body end_name at done.next own w.sound in
      let next_complete = complete_back ds done.next after sound late done.told c.complete in
      let complete = body_back head inner body end_name at done.next own w.sound next_complete in
      let next_ahead = ahead_on done.next.0 after.0 p (complete_grows done.next.0 after.0 next_complete (declarations_keep ds done.next after sound done.told)) ahead in
      let at_ahead = ahead_on at.0 done.next.0 p (complete_grows at.0 done.next.0 complete (told_keeps d at done.next w.sound done.one)) next_ahead in
      let r = procedure_read p head inner body end_name at done.next w next_ahead own
      (λ q before out begun early going full there told. part_read q inner before out begun early going full there told)
      (λ q before out begun there told. sequence_read q false body before out begun there told) in
      let place = behind_body r.overrides head.name p.place r.done in
      let on = late_read (read_at place p) ds done.next after (record { sound = sound; agrees = r.agrees; fit = w.fit }) (r.waits early.waits) late c (ahead_at after.0 p place ahead) done.told in
      body_first p head inner body end_name ds at done.next after w.agrees go complete at_ahead (body_elaborates head inner body end_name at done.next own w.sound) r on
  part_read p (a_declaration d ds) at after w early go c ahead e =
      part_first p d ds at after tt w.sound w.agrees early go c ahead w.fit e
      (λ q next sound agrees begun going there fit told. part_read q ds next after (record { sound = sound; agrees = agrees; fit = fit }) begun going c there told)

  -- from one on where they have ended
  late_read : (p : Context) (ds : DeclarationsTree) (at after : At) → Begun at.0 p → Waits at.0 p.place → types_go_on at.0 ≡ false → Over after.0 → Ahead after.0 p → declarations_told ds at ≡ gives after → LateRead p ds at.0 after.0
  late_read p no_declarations at after w waits late c ahead e = late_none p at after w.agrees waits late c e
  late_read p (a_declaration (body_declaration head inner body end_name) ds) at after w waits late c ahead e =
      let d = body_declaration head inner body end_name in
      let done = declarations_done d ds at after e in
      let own = procedure_done head inner body end_name at done.next done.one in
      let sound = told_sound d at done.next w.sound done.one in
      let next_late = body_late head inner body end_name at done.next own w.sound in
      let next_complete = complete_back ds done.next after sound next_late done.told c.complete in
      let next_ahead = ahead_on done.next.0 after.0 p (complete_grows done.next.0 after.0 next_complete (declarations_keep ds done.next after sound done.told)) ahead in
      let r = procedure_read p head inner body end_name at done.next w next_ahead own
      (λ q before out begun early going full there told. part_read q inner before out begun early going full there told)
      (λ q before out begun there told. sequence_read q false body before out begun there told) in
      let place = behind_body r.overrides head.name p.place r.done in
      let on = late_read (read_at place p) ds done.next after (record { sound = sound; agrees = r.agrees; fit = w.fit }) (r.waits waits) next_late c (ahead_at after.0 p place ahead) done.told in
      body_later p head inner body end_name ds at done.next after late (body_elaborates head inner body end_name at done.next own w.sound) r on
  late_read p (a_declaration d ds) at after w waits late c ahead e = late_first p d ds at after tt w.sound w.agrees waits late c ahead e

  statements_read : (p : Context) (inside_loop : Bool) (ss : StatementsTree) (at : At) (done : StmtsForm × At) → Here at.0 p → Ahead done.1.0 p → statements_told inside_loop ss at ≡ gives done → StatementsRead p ss done.0 done.1.0
  statements_read p inside_loop no_statements at done w ahead e =
      let same : (no_stmts, at) ≡ done = cc e in
      subst (λ (v : StmtsForm × At). StatementsRead p no_statements v.0 v.1.0) same (record { end = p.place; read = refl; agrees = w.agrees })
  statements_read p inside_loop (a_statement s ss) at done w ahead e =
      let d = statements_done inside_loop s ss at done e in
      let first = statement_stays inside_loop s at d.own w.sound w.complete d.told in
      let second = statements_stay inside_loop ss d.own.1 d.others first.sound first.complete d.others_told in
      let known : done.1.0 ≡ d.others.1.0 = ap (λ (v : At). v.0) d.behind in
      let last = ahead_as done.1.0 d.others.1.0 p known ahead in
      let own = statement_read p inside_loop s at d.own w (ahead_on d.own.1.0 d.others.1.0 p second.grows last) d.told in
      let rest = statements_read (read_at own.end p) inside_loop ss d.own.1 d.others (here_behind at.0 d.own.1.0 p own.end first w.fit own.agrees) (ahead_at d.others.1.0 p own.end last) d.others_told in
      subst (λ (fs : StmtsForm). StatementsRead p (a_statement s ss) fs done.1.0) (sym d.form) (record {
        end = rest.end;
        read = (own.end, own.read, rest.read);
        agrees = subst (λ v. Agrees v rest.end) (sym known) rest.agrees;
      })

  branches_read : (p : Context) (inside_loop : Bool) (branches : BranchesTree) (others : StatementsTree) (tail : Others) (at : At) (done : BranchesForm × At) → Here at.0 p → Ahead done.1.0 p → OthersStay tail → ReadsOthers p others tail → branches_told inside_loop branches tail at ≡ gives done → BranchesRead p branches others done.0 done.1.0
  branches_read p inside_loop no_branches others tail at done w ahead stay reads e =
      let made = made_from otherwise (tail at) done e in
      let known : done.1.0 ≡ made.0.1.0 = ap (λ (v : At). v.0) made.3 in
      let r = reads p.place at made.0 w (ahead_as done.1.0 made.0.1.0 p known ahead) made.1 in
      subst (λ (fs : BranchesForm). BranchesRead p no_branches others fs done.1.0) (sym made.2) (record { end = r.end; read = r.read; agrees = subst (λ v. Agrees v r.end) (sym known) r.agrees })
  branches_read p inside_loop (a_branch c ss branches) others tail at done w ahead stay reads e =
      let d = branch_done inside_loop c ss branches tail at done e in
      let begun = here_as at.0 d.begun.1.0 p d.condition.known w in
      let first = statements_stay inside_loop ss d.begun.1 d.own begun.sound begun.complete d.told in
      let second = branches_stay inside_loop branches tail d.own.1 d.others stay first.sound first.complete d.others_told in
      let known : done.1.0 ≡ d.others.1.0 = ap (λ (v : At). v.0) d.behind in
      let last = ahead_as done.1.0 d.others.1.0 p known ahead in
      let middle = ahead_on d.own.1.0 d.others.1.0 p second.grows last in
      let readable : Readable at.0 p = record { fits = w.sound.names; agrees = w.agrees; ahead = ahead_as d.begun.1.0 at.0 p d.condition.known (ahead_on d.begun.1.0 d.own.1.0 p first.grows middle) } in
      let own = statements_read p inside_loop ss d.begun.1 d.own begun middle d.told in
      let rest = branches_read (read_at own.end p) inside_loop branches others tail d.own.1 d.others (here_behind d.begun.1.0 d.own.1.0 p own.end first w.fit own.agrees) (ahead_at d.others.1.0 p own.end last) stay reads d.others_told in
      subst (λ (fs : BranchesForm). BranchesRead p (a_branch c ss branches) others fs done.1.0) (sym d.form) (record {
        end = rest.end;
        read = (subst (λ (x : ExpressionForm). IsExpressionRead p c x) (sym d.condition.form) (condition_read at.0 p c readable d.condition.quiet), own.end, own.read, rest.read);
        agrees = subst (λ v. Agrees v rest.end) (sym known) rest.agrees;
      })

  handlers_read : (p : Context) (inside_loop : Bool) (hs : HandlersTree) (at : At) (done : HandlersForm × At) → Here at.0 p → Ahead done.1.0 p → handlers_told inside_loop hs at ≡ gives done → HandlersRead p hs done.0 done.1.0
  handlers_read p inside_loop no_handlers at done w ahead e =
      let same : (form.no_handlers, at) ≡ done = cc e in
      subst (λ (v : HandlersForm × At). HandlersRead p no_handlers v.0 v.1.0) same (record { end = p.place; read = refl; agrees = w.agrees })
  handlers_read p inside_loop (a_handler spot choices ss hs) at done w ahead e =
      let d = handler_done inside_loop spot choices ss hs at done e in
      let begun = here_as at.0 d.begun.1.0 p d.begun_known w in
      let first = statements_stay inside_loop ss d.begun.1 d.own begun.sound begun.complete d.told in
      let second = handlers_stay inside_loop hs d.own.1 d.others first.sound first.complete d.others_told in
      let known : done.1.0 ≡ d.others.1.0 = ap (λ (v : At). v.0) d.behind in
      let last = ahead_as done.1.0 d.others.1.0 p known ahead in
      let middle = ahead_on d.own.1.0 d.others.1.0 p second.grows last in
      let readable : Readable at.0 p = record { fits = w.sound.names; agrees = w.agrees; ahead = ahead_as d.begun.1.0 at.0 p d.begun_known (ahead_on d.begun.1.0 d.own.1.0 p first.grows middle) } in
      let own = statements_read p inside_loop ss d.begun.1 d.own begun middle d.told in
      let rest = handlers_read (read_at own.end p) inside_loop hs d.own.1 d.others (here_behind d.begun.1.0 d.own.1.0 p own.end first w.fit own.agrees) (ahead_at d.others.1.0 p own.end last) d.others_told in
      subst (λ (fs : HandlersForm). HandlersRead p (a_handler spot choices ss hs) fs done.1.0) (sym d.form) (record {
        end = rest.end;
        read = (subst (λ (cs : List Choice). AreChoicesRead p choices cs) (sym d.choices_are) (choices_read at.0 p choices readable d.quiet.1.1), own.end, own.read, rest.read);
        agrees = subst (λ v. Agrees v rest.end) (sym known) rest.agrees;
      })

-- nothing is bound before the first declaration
first_agrees : (withs : Withs) (procedure : List ℕ) → Agrees (known_first withs procedure) first_place
unfolding pool_of
first_agrees withs procedure = record { here = λ text. refl; outer = λ text. refl; first_type = refl; types = refl; pools = refl; placed = λ t. refl; bodies = refl; variables = refl; exceptions = refl; texts = refl; controlled = refl; limited = λ t. refl; specified = none_specified; overridden = none_overridden; kept = refl }
  where
    none_overridden : (o : Operation) (t : ℕ) → overrider o [] t ≡ None
    none_overridden o t = no_overrider o t

-- a whole unit
unit_read : (tree : UnitTree) (p : ProgramForm) (b : BodyDone tree p) → IsReadAs tree p
unit_read tree p b = subst (λ v. IsReadAs tree v) (sym b.form) (record {
  own_name = (refl, not_predefined tree.name b.quiet_name.0);
  end_name = b.end_so;
  declared = part.end;
  end = sequence.end;
  elaborated = begins;
  body = sequence.read;
  counted = record {
    types = sym sequence.agrees.types;
    pools = sym sequence.agrees.pools;
    bodies = sym sequence.agrees.bodies;
    variables = sym sequence.agrees.variables;
    exceptions = sym sequence.agrees.exceptions;
    texts = sym sequence.agrees.texts;
  };
  placed = λ t n has. sequence.agrees.placed t ∙ ap (λ (o : Option ℕ). is_some o) has;
  overridden = sequence.agrees.overridden;
})
  where
    z : Known
    z = b.done.1.0

    c : Context
    c = first_context (program_of z b.done.0.0 b.done.0.1)

    first : Begun (known_first b.withs tree.name.text) (first_context (program_of z b.done.0.0 b.done.0.1)) → Begun b.first.0 c
    first w = subst (λ v. Begun v c) (sym b.first_known) w

    behind : Sound b.behind.0
    behind = behind_sound tree p b

    own : SequenceStays b.behind.0 z
    own = sequence_stays false tree.body b.behind b.done behind b.told

    ahead : Ahead z c
    ahead = record { types = λ t x is. is; placed = λ t n is. is; pools = λ t x is. is; variables = λ t x is. is; exceptions = λ t x is. is; texts = λ t x is. is; bodies = λ t x is. is }

    begun : Begun b.first.0 c
    begun = first (record { sound = first_sound b.withs tree.name.text; agrees = first_agrees b.withs tree.name.text; fit = own.stays.sound.types_fit })

    behind_ahead : Ahead b.behind.0 c
    behind_ahead = ahead_before b.behind.0 c (ahead_on (after_types b.behind.0) z c own.stays.grows ahead)

    part : PartRead c tree.declarations b.first.0 b.behind.0
    part = part_read c tree.declarations b.first b.behind begun (early_first b.first.0 first_place begun.agrees (ap (λ (v : Known). v.here.first_type) b.first_known ∙ ap (λ (v : Known). length v.types) (sym b.first_known)) (ap (λ (v : Known). v.here.specified.awaited) b.first_known) (λ o t. refl)) (ap (λ (v : Known). types_go_on v) b.first_known) (part_over false tree.body b.behind b.done own.complete b.told) behind_ahead b.declared

    sequence : SequenceRead (read_at part.end c) tree.body b.done.0 z
    sequence = sequence_read (read_at part.end c) false tree.body b.behind b.done (record { sound = behind; agrees = part.agrees; fit = own.stays.sound.types_fit }) (ahead_at z c part.end ahead) b.told

    nothing : b.first.0.here.elaborated ≡ []
    nothing = ap (λ (v : Known). v.here.elaborated) b.first_known

    elaborated : z.here.elaborated ≡ part.forms
    elaborated = ap (λ (x : Part). x.elaborated) own.stays.here ∙ (part.elaborated ∙ ap (λ (es : List DeclarationForm). es ++ part.forms) nothing)

    begins : IsPartRead c (Some []) tree.declarations z.here.elaborated part.end
    begins = subst (λ (es : List DeclarationForm). IsPartRead c (Some []) tree.declarations es part.end) (sym elaborated)
        (part.read [] (λ t. ap (λ (es : List DeclarationForm). is_collected t es) (sym nothing)))

-- a program is read as its tree
pub read_as : (tree : UnitTree) (program : ProgramForm) → Resolves tree program → IsReadAs tree program
read_as tree program e = unit_read tree program (body_done tree program e)
