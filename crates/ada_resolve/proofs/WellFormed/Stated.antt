-- What statements do has the types that it wants, at what is known behind them, and creates what is declared on the way.

use Rattle.std.proofs.Common.{◌≡◌, ◌∙◌, Bool, true, false, length, refl, sym, ap, subst}
use Rattle.std.specs.Prelude.{Some, None}
use Rattle.std.specs.List.{list_all}
use Rattle.ada_text.specs.declared.spot.Spot.{Spot}
use Rattle.ada_tree.specs.Statements.{DeclarationTree, body_declaration, DeclarationsTree, no_declarations, a_declaration, SchemeTree, endless, while_scheme, for_scheme, StatementTree, if_statement, loop_statement, block, declare_block, StatementsTree, no_statements, a_statement, BranchesTree, no_branches, a_branch, HandlersTree, no_handlers, a_handler, SequenceTree, a_sequence}
use Rattle.ada_program.specs.declared.program.ScalarType.TheVariants.{Integer, Boolean}
use Rattle.ada_program.specs.Form.{ExpressionForm, StmtForm, chooses, repeats, counts, encloses, StmtsForm, no_stmts, a_stmt, BranchesForm, otherwise, HandlersForm}
use Rattle.ada_program.specs.Form as form
use Rattle.ada_program.specs.WellFormed.{has_type, has_statement, choice_fits}
use Rattle.ada_resolve.specs.Known.{Known, left_to}
use Rattle.ada_resolve.specs.Resolution.{gives, At, with_parameter, loop_of, behind_loop, Others, statement_told, SequenceForm, sequence_told, declaration_told, declarations_told, statements_told, branches_told, handlers_told}
use Rattle.ada_resolve.specs.Statements.{bound_meant, condition_meant}
use Rattle.ada_resolve.proofs.Standing.{Sound, Complete, Grows, Stays, Inside, grows_on, made_gives, LoopDone, if_done, loop_done, block_done, declare_done, sequence_done, procedure_done, single_done, declarations_done, statements_done, branch_done, handler_done, ended_sound, declarations_sound, declarations_keep, told_sound, body_stays, gives_same, begin_open, begin_complete, part_complete, part_inside, parameter_inside, inside_on, begun_inside, sequence_inside, leave_stays, OthersStay, head_sound, head_complete, statement_stays, sequence_stays, statements_stay, branches_stay, handlers_stay}
use Rattle.ada_resolve.proofs.WellFormed.Exceptions.{choices_are}
use Rattle.ada_resolve.proofs.WellFormed.Created.{creates_none}
use Rattle.ada_resolve.proofs.WellFormed.Elaborated.{InOrder, part_early}
use Rattle.ada_resolve.proofs.WellFormed.Alike.{declaration_follows}
use Rattle.ada_resolve.proofs.WellFormed.Lasting.{Follows, follows_same, follows_on}
use Rattle.ada_resolve.proofs.WellFormed.Elaborating.{declaration_order}
use Rattle.ada_resolve.proofs.WellFormed.Statements.{bound_is, condition_is}
use Rattle.ada_resolve.proofs.WellFormed.Doing.{AllFit, BranchesFit, DoneFits, HandledFit, Ordered, SequenceFits, TailFits, block_fits, body_has, body_ordered, branch_fits, choices_later, handler_fits, is_done, left_fits, more_fit, on_condition_fits, ordered_on, over_range_fits, part_follows, sequence_fits_by, sequence_is, simple_fits, type_later}

-- a loop, given what its statements do
loop_fits : (inside : Bool) (spot : Spot) (scheme : SchemeTree) (ss : StatementsTree) (last : Spot) (at : At) (done : StmtForm × At) (d : LoopDone spot scheme ss last at done) → Sound at.0 → Complete at.0 → has_statement d.own.0 ≡ true → Stays d.head.1.0 d.own.1.0 → AllFit d.head.1.0 d.own.1.0 true d.own.0 → DoneFits at.0 done.1.0 inside done.0
loop_fits inside spot endless ss last at done d w c there g h =
    let is = d.head_so.is in
    let z = d.own.1.0 in
    is_done inside (sym is.1) (d.known ∙ ap (λ v. behind_loop v z) is.0) (d.form ∙ ap (λ v. loop_of v d.own.0 last) is.0)
    (on_condition_fits d.head.1.0 z None d.own.0 last inside refl there h)
loop_fits inside spot (while_scheme e) ss last at done d w c there g h =
    let is = d.head_so.is in
    let z = d.own.1.0 in
    let grows : Grows at.0 z = subst (λ (v : Known). Grows v z) is.2 g.grows in
    is_done inside (sym is.2) (d.known ∙ ap (λ v. behind_loop v z) is.1) (d.form ∙ ap (λ v. loop_of v d.own.0 last) is.1)
    (on_condition_fits d.head.1.0 z (Some (condition_meant at.0 e)) d.own.0 last inside
    (type_later at.0 z grows Boolean (condition_meant at.0 e) (condition_is at.0 e w.names is.0)) there h)
loop_fits inside spot (for_scheme name low high) ss last at done d w c there g h =
    let is = d.head_so.is in
    let k = at.0 in
    let z = d.own.1.0 in
    let stays : Stays (with_parameter name k) z = subst (λ (v : Known). Stays v z) is.2 g in
    let inner : Grows (with_parameter name k) z = stays.grows in
    let left : Stays k (left_to z.outer z) = leave_stays k z w c (inside_on k (with_parameter name k) z (parameter_inside name k w c) stays) in
    let grows : Grows k z = grows_on k (with_parameter name k) z (parameter_inside name k w c).grows inner in
    let own : AllFit (with_parameter name k) z true d.own.0 = subst (λ (v : Known). AllFit v z true d.own.0) is.2 h in
    let low_is = type_later k z grows Integer (bound_meant k low) (bound_is k low w.names is.0.1.1.0) in
    let high_is = type_later k z grows Integer (bound_meant k high) (bound_is k high w.names is.0.1.1.1) in
    is_done inside refl (d.known ∙ ap (λ v. behind_loop v z) is.1) (d.form ∙ ap (λ v. loop_of v d.own.0 last) is.1)
    (left_fits k z z.outer inside (counts (length k.variables) (bound_meant k low) (bound_meant k high) d.own.0 last) left
    (over_range_fits name k z (bound_meant k low) (bound_meant k high) d.own.0 last inside inner low_is high_is there own))

-- what is known behind statements, branches and handlers
all_done : {k m m2 : Known} {f f2 : StmtsForm} (inside : Bool) → m2 ≡ m → f2 ≡ f → AllFit k m inside f → AllFit k m2 inside f2
all_done inside ms fs h = rw (ms, fs) h

branches_done : {k m m2 : Known} {f f2 : BranchesForm} (inside : Bool) → m2 ≡ m → f2 ≡ f → BranchesFit k m inside f → BranchesFit k m2 inside f2
branches_done inside ms fs h = rw (ms, fs) h

handlers_done : {k m m2 : Known} {f f2 : HandlersForm} (inside : Bool) → m2 ≡ m → f2 ≡ f → HandledFit k m inside f → HandledFit k m2 inside f2
handlers_done inside ms fs h = rw (ms, fs) h

known_of : {v u : At} → v ≡ u → v.0 ≡ u.0
known_of e = ap (λ x. x.0) e

-- the statements, with those in them
mutual
  pub statement_fit : (inside : Bool) (s : StatementTree) (at : At) (done : StmtForm × At) → Sound at.0 → Complete at.0 → statement_told inside s at ≡ gives done → DoneFits at.0 done.1.0 inside done.0
  statement_fit inside (if_statement spot branches others last) at done w c e =
      let d = if_done inside spot branches others last at done e in
      let tail : Others = λ behind. statements_told inside others behind in
      let h = branches_all_fit inside branches tail d.begun d.own (λ before out v complete told. statements_fit inside others before out v complete told)
      (λ before out v complete told. statements_stay inside others before out v complete told)
      (subst Sound (sym d.begun_known) w) (subst Complete (sym d.begun_known) c) d.told in
      is_done inside (sym d.begun_known) (known_of d.behind) d.form h
  statement_fit inside (loop_statement spot scheme ss last) at done w c e =
      let d = loop_done inside spot scheme ss last at done e in
      let sound = head_sound spot scheme at.0 d.head.0 d.head.1.0 w c d.head_so.is in
      let complete = head_complete spot scheme at.0 d.head.0 d.head.1.0 c d.head_so.is in
      let stays = statements_stay true ss d.head.1 d.own sound complete d.told in
      loop_fits inside spot scheme ss last at done d w c (body_has true spot ss d.head.1 d.own d.head_so.quiet d.told) stays
      (statements_fit true ss d.head.1 d.own sound complete d.told)
  statement_fit inside (block body) at done w c e =
      let d = block_done inside body at done e in
      let f : Inside at.0 d.inner.0 = subst (λ v. Inside at.0 v) (sym d.inner_known) (part_inside at.0 w c) in
      let z = d.body_done.1.0 in
      let left = leave_stays at.0 z w c (sequence_inside at.0 d.inner.0 z f (sequence_stays inside body d.inner d.body_done f.sound d.told)) in
      is_done inside refl d.known d.form
      (block_fits at.0 d.inner.0 z inside d.body_done.0 f.grows.types f.grows.bodies (ap (λ (v : Known). v.here.first_type) d.inner_known)
      (ap (λ (v : Known). v.here.first_variable) d.inner_known) (ap (λ (v : Known). v.here.first_body) d.inner_known) (subst (λ v. Follows at.0 v) (sym d.inner_known) (part_follows at.0)) left
      (sequence_fit inside body d.inner d.body_done f.sound (subst InOrder (sym d.inner_known) (part_early at.0)) d.told))
  statement_fit inside (declare_block spot ds body) at done w c e =
      let d = declare_done inside spot ds body at done e in
      let f : Inside at.0 d.inner.0 = subst (λ v. Inside at.0 v) (sym d.inner_known) (part_inside at.0 w c) in
      let inner_complete : Complete d.inner.0 = subst (λ (v : Known). Complete v) (sym d.inner_known) (part_complete at.0) in
      let sound = declarations_sound ds d.inner d.behind f.sound d.declared in
      let keeps = declarations_keep ds d.inner d.behind f.sound d.declared in
      let begun = begun_inside at.0 d.inner.0 d.behind.0 f inner_complete sound keeps in
      let z = d.body_done.1.0 in
      let left = leave_stays at.0 z w c (sequence_inside at.0 d.behind.0 z begun (sequence_stays inside body d.behind d.body_done sound d.told)) in
      let o = declarations_ordered ds d.inner d.behind f.sound (subst InOrder (sym d.inner_known) (part_early at.0)) d.declared in
      is_done inside refl d.known d.form
      (block_fits at.0 d.behind.0 z inside d.body_done.0 begun.grows.types begun.grows.bodies (keeps.first_type ∙ ap (λ (v : Known). v.here.first_type) d.inner_known)
      (keeps.first_variable ∙ ap (λ (v : Known). v.here.first_variable) d.inner_known) (keeps.first_body ∙ ap (λ (v : Known). v.here.first_body) d.inner_known)
      (follows_on at.0 d.inner.0 d.behind.0 (subst (λ v. Follows at.0 v) (sym d.inner_known) (part_follows at.0)) o.follows) left
      (sequence_fit inside body d.behind d.body_done sound o.order d.told))
  statement_fit inside s at done w c e = simple_fits inside s at done w e

  -- the statements and the handlers of a part
  pub sequence_fit : (inside : Bool) (body : SequenceTree) (at : At) (done : SequenceForm × At) → Sound at.0 → InOrder at.0 → sequence_told inside body at ≡ gives done → SequenceFits at.0 done.1.0 inside done.0
  sequence_fit inside (a_sequence start ss hs last) at done w order e =
      let d = sequence_done inside start ss hs last at done e in
      let sound : Sound d.ready.0 = subst Sound (sym d.ready_known) (ended_sound at.0 w) in
      let complete : Complete d.ready.0 = subst (λ (v : Known). Complete v) (sym d.ready_known) (begin_complete at.0 start d.quiet) in
      let stays = statements_stay inside ss d.ready d.own sound complete d.told in
      let later = handlers_stay inside hs d.own.1 d.handled stays.sound stays.complete d.handlers_so in
      let own = statements_fit inside ss d.ready d.own sound complete d.told in
      let handled = handlers_all_fit inside hs d.own.1 d.handled stays.sound stays.complete d.handlers_so in
      sequence_is inside d.known d.form
      (sequence_fits_by at.0 d.own.1.0 d.handled.1.0 inside d.own.0 d.handled.0 order (begin_open at.0 start d.quiet) (ended_sound at.0 w)
      (subst (λ (v : Known). Stays v d.own.1.0) d.ready_known stays) later
      (subst (λ (v : Known). AllFit v d.own.1.0 inside d.own.0) d.ready_known own) handled)

  -- a declaration
  pub told_ordered : (d : DeclarationTree) (at next : At) → Sound at.0 → InOrder at.0 → declaration_told d at ≡ gives next → Ordered at.0 next.0
  told_ordered (body_declaration head ds body end_name) at next s o e =
      let d = procedure_done head ds body end_name at next e in
      let stays = body_stays head ds body end_name at next d s in
      body_ordered head ds body end_name at next d o stays (declarations_keep ds d.inner d.behind stays.inner_sound d.declared)
      (λ order. declarations_ordered ds d.inner d.behind stays.inner_sound order d.declared)
      (λ order. sequence_fit false body d.behind d.done stays.behind_in.sound order d.told)
  told_ordered d at next s o e =
      let one = single_done d at next e in
      subst (λ (v : Known). Ordered at.0 v) (sym one.known) (record { order = declaration_order at.0 d s o one.quiet; follows = declaration_follows at.0 d s one.quiet })

  -- declarations, one behind another
  pub declarations_ordered : (ds : DeclarationsTree) (at after : At) → Sound at.0 → InOrder at.0 → declarations_told ds at ≡ gives after → Ordered at.0 after.0
  declarations_ordered no_declarations at after s o e =
      subst (λ (v : At). Ordered at.0 v.0) (gives_same e) (record { order = o; follows = follows_same at.0 })
  declarations_ordered (a_declaration d ds) at after s o e =
      let done = declarations_done d ds at after e in
      let one = told_ordered d at done.next s o done.one in
      ordered_on at.0 done.next.0 after.0 one (declarations_ordered ds done.next after (told_sound d at done.next s done.one) one.order done.told)

  pub statements_fit : (inside : Bool) (ss : StatementsTree) (at : At) (done : StmtsForm × At) → Sound at.0 → Complete at.0 → statements_told inside ss at ≡ gives done → AllFit at.0 done.1.0 inside done.0
  statements_fit inside no_statements at done w c e =
      let same : (no_stmts, at) ≡ done = cc e in
      subst (λ (v : StmtsForm × At). AllFit at.0 v.1.0 inside v.0) same (refl, creates_none at.0 at.0 refl refl refl, follows_same at.0, refl)
  statements_fit inside (a_statement s ss) at done w c e =
      let d = statements_done inside s ss at done e in
      let stays = statement_stays inside s at d.own w c d.told in
      let later = statements_stay inside ss d.own.1 d.others stays.sound stays.complete d.others_told in
      all_done inside (known_of d.behind) d.form
      (more_fit at.0 d.own.1.0 d.others.1.0 inside d.own.0 d.others.0 stays.sound later.grows
      (statement_fit inside s at d.own w c d.told) (statements_fit inside ss d.own.1 d.others stays.sound stays.complete d.others_told))

  pub branches_all_fit : (inside : Bool) (bs : BranchesTree) (tail : Others) (at : At) (done : BranchesForm × At) → TailFits inside tail → OthersStay tail → Sound at.0 → Complete at.0 → branches_told inside bs tail at ≡ gives done → BranchesFit at.0 done.1.0 inside done.0
  branches_all_fit inside no_branches tail at done f g w c e =
      let made = made_gives otherwise (tail at) done e in
      branches_done inside (known_of (sym made.3)) (sym made.2) (f at made.0 w c made.1)
  branches_all_fit inside (a_branch condition ss bs) tail at done f g w c e =
      let d = branch_done inside condition ss bs tail at done e in
      let k = at.0 in
      let m = d.own.1.0 in
      let z = d.others.1.0 in
      let begun = d.condition.known in
      let sound = subst Sound (sym begun) w in
      let complete = subst Complete (sym begun) c in
      let stays = statements_stay inside ss d.begun.1 d.own sound complete d.told in
      let later = branches_stay inside bs tail d.own.1 d.others g stays.sound stays.complete d.others_told in
      let grows : Grows k m = subst (λ (v : Known). Grows v m) begun stays.grows in
      let own : AllFit k m inside d.own.0 = subst (λ (v : Known). AllFit v m inside d.own.0) begun
      (statements_fit inside ss d.begun.1 d.own sound complete d.told) in
      let is : has_type k.types k.variables Boolean d.begun.0 ≡ true =
      subst (λ (x : ExpressionForm). has_type k.types k.variables Boolean x ≡ true) (sym d.condition.form)
      (condition_is k condition w.names d.condition.quiet) in
      branches_done inside (known_of d.behind) d.form
      (branch_fits k m z inside d.begun.0 d.own.0 d.others.0 (type_later k z (grows_on k m z grows later.grows) Boolean d.begun.0 is) stays.sound later.grows own
      (branches_all_fit inside bs tail d.own.1 d.others f g stays.sound stays.complete d.others_told))

  pub handlers_all_fit : (inside : Bool) (hs : HandlersTree) (at : At) (done : HandlersForm × At) → Sound at.0 → Complete at.0 → handlers_told inside hs at ≡ gives done → HandledFit at.0 done.1.0 inside done.0
  handlers_all_fit inside no_handlers at done w c e =
      let same : (form.no_handlers, at) ≡ done = cc e in
      subst (λ (v : HandlersForm × At). HandledFit at.0 v.1.0 inside v.0) same (refl, creates_none at.0 at.0 refl refl refl, follows_same at.0, refl)
  handlers_all_fit inside (a_handler spot choices ss hs) at done w c e =
      let d = handler_done inside spot choices ss hs at done e in
      let k = at.0 in
      let m = d.own.1.0 in
      let z = d.others.1.0 in
      let begun = d.begun_known in
      let sound = subst Sound (sym begun) w in
      let complete = subst Complete (sym begun) c in
      let stays = statements_stay inside ss d.begun.1 d.own sound complete d.told in
      let later = handlers_stay inside hs d.own.1 d.others stays.sound stays.complete d.others_told in
      let grows : Grows k m = subst (λ (v : Known). Grows v m) begun stays.grows in
      let own : AllFit k m inside d.own.0 = subst (λ (v : Known). AllFit v m inside d.own.0) begun
      (statements_fit inside ss d.begun.1 d.own sound complete d.told) in
      let named : list_all (choice_fits k.exceptions) d.begun.0 ≡ true =
      subst (λ cs. list_all (choice_fits k.exceptions) cs ≡ true) (sym d.choices_are) (choices_are k choices w.exceptions) in
      handlers_done inside (known_of d.behind) d.form
      (handler_fits k m z inside d.begun.0 d.own.0 d.others.0 (choices_later k z w (grows_on k m z grows later.grows) d.begun.0 named)
      (body_has inside spot ss d.begun.1 d.own d.quiet.0 d.told) stays.sound later.grows own
      (handlers_all_fit inside hs d.own.1 d.others stays.sound stays.complete d.others_told))
