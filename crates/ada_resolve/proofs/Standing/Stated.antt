-- Statements leave the parts as they were.

use Rattle.std.proofs.Common.{◌≡◌, ◌∙◌, ℕ, arith, Bool, true, false, List, refl, sym, ap, subst}
use Rattle.ada_text.specs.declared.spot.Spot.{Spot}
use Rattle.ada_program.specs.Form.{StmtForm, StmtsForm, no_stmts, BranchesForm, otherwise, HandlersForm}
use Rattle.ada_program.specs.Form as form
use Rattle.ada_tree.specs.Statements.{DeclarationTree, body_declaration, DeclarationsTree, no_declarations, a_declaration, SchemeTree, endless, while_scheme, for_scheme, StatementTree, if_statement, loop_statement, block, declare_block, StatementsTree, no_statements, a_statement, BranchesTree, no_branches, a_branch, HandlersTree, no_handlers, a_handler, SequenceTree, a_sequence}
use Rattle.ada_resolve.specs.declared.primitives.Operation.{Operation}
use Rattle.ada_resolve.specs.Known.{Known, Part}
use Rattle.ada_resolve.specs.Primitives.{operation_named}
use Rattle.std.specs.Prelude.{Option, Some}
use Rattle.ada_tree.specs.Names.{Ident}
use Rattle.ada_tree.specs.Declarations.{HeadTree}
use Rattle.ada_resolve.specs.Procedures.{head_operand}
use Rattle.ada_resolve.specs.Spots.{end_of, head_spot}
use Rattle.ada_resolve.specs.Objects.{after_types}
use Rattle.ada_resolve.specs.Resolution.{gives, At, LoopHead, behind_loop, Others, simple_told, statement_told, SequenceForm, sequence_told, declaration_told, declarations_told, statements_told, branches_told, handlers_told}
use Rattle.ada_resolve.specs.Statements.{simple_texts, with_texts}
use Rattle.ada_resolve.proofs.Standing.Order.{Sound, Complete, Keeps, keeps_same, keeps_on, complete_grows, grows_on, Stays, Inside, stays_same, stays_on}
use Rattle.ada_resolve.proofs.Standing.Given.{made_gives, HeadIs, simple_done, if_done, loop_done, block_done, declare_done, sequence_done, ProcedureDone, procedure_done, single_done, declarations_done, statements_done, branch_done, handler_done}
use Rattle.ada_resolve.proofs.Standing.Declared.{ended_sound, ended_keeps, declaration_sound, declaration_keeps}
use Rattle.ada_resolve.proofs.Standing.Operands.{head_is_new, is_open, operand_ends}
use Rattle.ada_resolve.proofs.Standing.Procedures.{get_front, around_body, around_sound, InBody, head_in_body, head_complete as body_complete, body_ended_sound, body_ended_keeps, operand_at}
use Rattle.ada_resolve.proofs.Standing.Declarations.{gives_same, begin_open, begin_complete}
use Rattle.ada_resolve.proofs.Standing.Inner.{part_complete, part_inside, parameter_sound, parameter_complete, parameter_inside, inside_on, begun_inside, leave_stays}

-- the statements behind branches
abbrev pub OthersStay : Others → Type 0
OthersStay tail = (at : At) (done : StmtsForm × At) → Sound at.0 → Complete at.0 → tail at ≡ gives done → Stays at.0 done.1.0

-- what stays, between places that are known
stays_from : (k begun m done : Known) → begun ≡ k → done ≡ m → Stays begun m → Stays k done
stays_from k begun m done at behind f = subst (λ v. Stays k v) (sym behind) (subst (λ v. Stays v m) at f)

-- more texts
pub texts_stay : (texts : List (List ℕ)) (k : Known) → Sound k → Complete k → Stays k (with_texts texts k)
texts_stay texts k s c = record {
  sound = record {
    types_fit = s.types_fit;
    operations = s.operations;
    variables_fit = s.variables_fit;
    names = s.names;
    exceptions = s.exceptions;
    called = s.called;
    housed = s.housed;
    controlled = s.controlled;
    sized = s.sized;
    bounds = record { first = s.bounds.first; first_variable = s.bounds.first_variable; modes = s.bounds.modes; first_body = s.bounds.first_body; open_own = s.bounds.open_own; open_unused = s.bounds.open_unused; outer_before = s.bounds.outer_before };
  };
  complete = c;
  here = refl;
  outer = refl;
  withs = refl;
  procedure = refl;
  grows = record { types = λ t x is. is; overridden = λ o t p is. is; overriders = λ o t less. refl; first_type = omega arith; placed = λ t n is. is; pools = λ t x is. is; variables = λ t x is. is; exceptions = λ t x is. is; texts = λ n x is. get_front k.texts texts n x is; bodies = λ n x is. is };
}

pub simple_stays : (inside : Bool) (s : StatementTree) (at : At) (done : StmtForm × At) → Sound at.0 → Complete at.0 → simple_told inside s at ≡ gives done → Stays at.0 done.1.0
simple_stays inside s at done w c e = let d = simple_done inside s at done e in subst (λ v. Stays at.0 v) (sym d.known) (texts_stay (simple_texts s) at.0 w c)

-- where the statements of a loop begin
pub head_sound : (spot : Spot) (scheme : SchemeTree) (k : Known) (head : LoopHead) (m : Known) → Sound k → Complete k → HeadIs spot scheme k head m → Sound m
head_sound spot endless k head m w c is = subst Sound (sym is.1) w
head_sound spot (while_scheme e) k head m w c is = subst Sound (sym is.2) w
head_sound spot (for_scheme name low high) k head m w c is = subst Sound (sym is.2) (parameter_sound name k w c)

pub head_complete : (spot : Spot) (scheme : SchemeTree) (k : Known) (head : LoopHead) (m : Known) → Complete k → HeadIs spot scheme k head m → Complete m
head_complete spot endless k head m c is = subst (λ (v : Known). Complete v) (sym is.1) c
head_complete spot (while_scheme e) k head m c is = subst (λ (v : Known). Complete v) (sym is.2) c
head_complete spot (for_scheme name low high) k head m c is = subst (λ (v : Known). Complete v) (sym is.2) (parameter_complete name k)

-- behind the loop
pub loop_stays : (spot : Spot) (scheme : SchemeTree) (k : Known) (head : LoopHead) (m z : Known) → Sound k → Complete k → HeadIs spot scheme k head m → Stays m z → Stays k (behind_loop head z)
loop_stays spot endless k head m z w c is f = subst (λ (h : LoopHead). Stays k (behind_loop h z)) (sym is.0) (subst (λ v. Stays v z) is.1 f)
loop_stays spot (while_scheme e) k head m z w c is f = subst (λ (h : LoopHead). Stays k (behind_loop h z)) (sym is.1) (subst (λ v. Stays v z) is.2 f)
loop_stays spot (for_scheme name low high) k head m z w c is f =
    subst (λ (h : LoopHead). Stays k (behind_loop h z)) (sym is.1)
    (leave_stays k z w c (inside_on k m z (subst (λ v. Inside k v) (sym is.2) (parameter_inside name k w c)) f))

-- a part whose declarations are known: where its statements begin nothing is incomplete, and they leave it as it was
pub record SequenceStays (k z : Known) : Type 0 where
  pub complete : Complete k
  pub stays : Stays (after_types k) z

-- behind the statements of an inner part
pub sequence_inside : (k m z : Known) → Inside k m → SequenceStays m z → Inside k z
sequence_inside k m z f g = inside_on k (after_types m) z (begun_inside k m (after_types m) f g.complete (ended_sound m f.sound) (ended_keeps m)) g.stays

-- behind the declarations of a body
body_behind : (k m z : Known) → InBody k m → Complete m → Sound z → Keeps m z → InBody k z
body_behind k m z f c s g =
    let grows = complete_grows m z c g in
    record {
      sound = s;
      around = g.around ∙ f.around;
      outer = g.outer ∙ f.outer;
      withs = g.withs ∙ f.withs;
      procedure = g.procedure ∙ f.procedure;
      types = λ t x is. grows.types t x (f.types t x is);
      overriders = λ o t less. let first = f.first_type in g.overriders o t (omega (arith, first, less)) ∙ f.overriders o t less;
      first_type = let first = f.first_type in let same = g.first_type in omega (arith, first, same);
      placed = λ t n is. grows.placed t n (f.placed t n is);
      pools = λ t x is. grows.pools t x (f.pools t x is);
      exceptions = λ t x is. grows.exceptions t x (f.exceptions t x is);
      texts = λ t x is. grows.texts t x (f.texts t x is);
      bodies = λ t x is. grows.bodies t x (f.bodies t x is);
    }

-- behind its statements
body_on : (k m z : Known) → InBody k m → Stays m z → InBody k z
body_on k m z f g = record {
  sound = g.sound;
  around = ap (λ (p : Part). p.around) g.here ∙ f.around;
  outer = g.outer ∙ f.outer;
  withs = g.withs ∙ f.withs;
  procedure = g.procedure ∙ f.procedure;
  types = λ t x is. g.grows.types t x (f.types t x is);
  overriders = λ o t less. let first = f.first_type in g.grows.overriders o t (omega (arith, first, less)) ∙ f.overriders o t less;
  first_type = let first = f.first_type in let more = g.grows.first_type in omega (arith, first, more);
  placed = λ t n is. g.grows.placed t n (f.placed t n is);
  pools = λ t x is. g.grows.pools t x (f.pools t x is);
  exceptions = λ t x is. g.grows.exceptions t x (f.exceptions t x is);
  texts = λ t x is. g.grows.texts t x (f.texts t x is);
  bodies = λ t x is. g.grows.bodies t x (f.bodies t x is);
}

-- a body, with what its declarations and its statements leave
pub record BodyStays (at inner behind next : At) (head : HeadTree) (done : SequenceForm × At) : Type 0 where
  pub before : Sound (after_types at.0)
  pub inner_sound : Sound inner.0
  pub inner_complete : Complete inner.0
  pub behind_in : InBody (around_body (after_types at.0) head) behind.0
  pub sequence : SequenceStays behind.0 done.1.0
  pub done_in : InBody (around_body (after_types at.0) head) done.1.0
  pub sound : Sound next.0
  pub keeps : Keeps at.0 next.0
  -- an operation that ends is one of the type for which its formal stands
  pub operand : (o : Operation) (t : ℕ) → operation_named head.name.text ≡ Some o → head_operand (Some o) (after_types at.0) head ≡ Some t → operand_at done.1.0 ≡ Some t

body_stays_by : (head : HeadTree) (ds : DeclarationsTree) (body : SequenceTree) (end_name : Option Ident) (at next : At) (d : ProcedureDone head ds body end_name at next) → Sound at.0 → (Sound d.inner.0 → Sound d.behind.0) → (Sound d.inner.0 → Keeps d.inner.0 d.behind.0) → (Sound d.behind.0 → SequenceStays d.behind.0 d.done.1.0) → BodyStays at d.inner d.behind next head d.done
body_stays_by head ds body end_name at next d s declares keeps sequence =
    let k = after_types at.0 in
    let before : Sound k = ended_sound at.0 s in
    let inner_in : InBody (around_body k head) d.inner.0 = subst (λ v. InBody (around_body k head) v) (sym d.inner_known) (head_in_body k head before) in
    let inner_complete : Complete d.inner.0 = subst (λ (v : Known). Complete v) (sym d.inner_known) (body_complete k head) in
    let behind_sound = declares inner_in.sound in
    let behind_in = body_behind (around_body k head) d.inner.0 d.behind.0 inner_in inner_complete behind_sound (keeps inner_in.sound) in
    let stays = sequence behind_sound in
    let ready_in = body_behind (around_body k head) d.behind.0 (after_types d.behind.0) behind_in stays.complete (ended_sound d.behind.0 behind_sound) (ended_keeps d.behind.0) in
    let done_in = body_on (around_body k head) (after_types d.behind.0) d.done.1.0 ready_in stays.stays in
    let z = d.done.1.0 in
    let inner_keeps = keeps inner_in.sound in
    let declared_stay = complete_grows d.inner.0 d.behind.0 inner_complete inner_keeps in
    let ended_stay = complete_grows d.behind.0 (after_types d.behind.0) stays.complete (ended_keeps d.behind.0) in
    let grows = grows_on d.inner.0 d.behind.0 z declared_stay (grows_on d.behind.0 (after_types d.behind.0) z ended_stay stays.stays.grows) in
    let modes : z.here.modes ≡ d.inner.0.here.modes = ap (λ (p : Part). p.modes) stays.stays.here ∙ ((ended_keeps d.behind.0).modes ∙ inner_keeps.modes) in
    let operand : (o : Operation) (t : ℕ) → operation_named head.name.text ≡ Some o → head_operand (Some o) k head ≡ Some t → operand_at z ≡ Some t =
    λ o t named has. operand_ends k head o t d.inner.0 z d.inner_known modes grows.types grows.variables has in
    record {
      operand = operand;
      before = before;
      inner_sound = inner_in.sound;
      inner_complete = inner_complete;
      behind_in = behind_in;
      sequence = stays;
      done_in = done_in;
      sound = subst Sound (sym d.known) (body_ended_sound (around_body k head) d.done.1.0 head.name d.done.0.0 d.done.0.1 (head_spot head) (end_of body) (around_sound k head before) done_in);
      keeps = keeps_on at.0 k next.0 (ended_keeps at.0)
          (subst (λ (v : Known). Keeps k v) (sym d.known)
          (body_ended_keeps k d.done.1.0 head head.spot d.done.0.0 d.done.0.1 (head_spot head) (end_of body) before (head_is_new k head d.quiet) (is_open k head z d.quiet operand) done_in));
    }

mutual
  pub statement_stays : (inside : Bool) (s : StatementTree) (at : At) (done : StmtForm × At) → Sound at.0 → Complete at.0 → statement_told inside s at ≡ gives done → Stays at.0 done.1.0
  statement_stays inside (if_statement spot branches others last) at done w c e =
      let d = if_done inside spot branches others last at done e in
      let tail : Others = λ behind. statements_told inside others behind in
      let own = branches_stay inside branches tail d.begun d.own (λ before more v b told. statements_stay inside others before more v b told)
      (subst Sound (sym d.begun_known) w) (subst (λ (v : Known). Complete v) (sym d.begun_known) c) d.told in
      stays_from at.0 d.begun.0 d.own.1.0 done.1.0 d.begun_known (ap (λ v. v.0) d.behind) own
  statement_stays inside (loop_statement spot scheme ss last) at done w c e =
      let d = loop_done inside spot scheme ss last at done e in
      let own = statements_stay true ss d.head.1 d.own (head_sound spot scheme at.0 d.head.0 d.head.1.0 w c d.head_so.is) (head_complete spot scheme at.0 d.head.0 d.head.1.0 c d.head_so.is) d.told in
      subst (λ v. Stays at.0 v) (sym d.known) (loop_stays spot scheme at.0 d.head.0 d.head.1.0 d.own.1.0 w c d.head_so.is own)
  statement_stays inside (block body) at done w c e =
      let d = block_done inside body at done e in
      let f : Inside at.0 d.inner.0 = subst (λ v. Inside at.0 v) (sym d.inner_known) (part_inside at.0 w c) in
      let own = sequence_stays inside body d.inner d.body_done f.sound d.told in
      subst (λ v. Stays at.0 v) (sym d.known) (leave_stays at.0 d.body_done.1.0 w c (sequence_inside at.0 d.inner.0 d.body_done.1.0 f own))
  statement_stays inside (declare_block spot ds body) at done w c e =
      let d = declare_done inside spot ds body at done e in
      let f : Inside at.0 d.inner.0 = subst (λ v. Inside at.0 v) (sym d.inner_known) (part_inside at.0 w c) in
      let b : Complete d.inner.0 = subst (λ (v : Known). Complete v) (sym d.inner_known) (part_complete at.0) in
      let sound = declarations_sound ds d.inner d.behind f.sound d.declared in
      let begun = begun_inside at.0 d.inner.0 d.behind.0 f b sound (declarations_keep ds d.inner d.behind f.sound d.declared) in
      let own = sequence_stays inside body d.behind d.body_done sound d.told in
      subst (λ v. Stays at.0 v) (sym d.known) (leave_stays at.0 d.body_done.1.0 w c (sequence_inside at.0 d.behind.0 d.body_done.1.0 begun own))
  statement_stays inside s at done w c e = simple_stays inside s at done w c e

  -- the statements and the handlers of a part
  pub sequence_stays : (inside : Bool) (body : SequenceTree) (at : At) (done : SequenceForm × At) → Sound at.0 → sequence_told inside body at ≡ gives done → SequenceStays at.0 done.1.0
  sequence_stays inside (a_sequence start ss hs last) at done w e =
      let d = sequence_done inside start ss hs last at done e in
      let f : Sound d.ready.0 = subst Sound (sym d.ready_known) (ended_sound at.0 w) in
      let b : Complete d.ready.0 = subst (λ (v : Known). Complete v) (sym d.ready_known) (begin_complete at.0 start d.quiet) in
      let own = statements_stay inside ss d.ready d.own f b d.told in
      let handled = handlers_stay inside hs d.own.1 d.handled own.sound own.complete d.handlers_so in
      record {
        complete = begin_open at.0 start d.quiet;
        stays = stays_from (after_types at.0) d.ready.0 d.handled.1.0 done.1.0 d.ready_known d.known (stays_on d.ready.0 d.own.1.0 d.handled.1.0 own handled);
      }

  -- a declaration
  pub told_sound : (d : DeclarationTree) (at next : At) → Sound at.0 → declaration_told d at ≡ gives next → Sound next.0
  told_sound (body_declaration head ds body end_name) at next s e =
      let d = procedure_done head ds body end_name at next e in
      (body_stays_by head ds body end_name at next d s (λ inner. declarations_sound ds d.inner d.behind inner d.declared)
      (λ inner. declarations_keep ds d.inner d.behind inner d.declared) (λ behind. sequence_stays false body d.behind d.done behind d.told)).sound
  told_sound d at next s e = let one = single_done d at next e in subst Sound (sym one.known) (declaration_sound at.0 d s one.quiet)

  pub told_keeps : (d : DeclarationTree) (at next : At) → Sound at.0 → declaration_told d at ≡ gives next → Keeps at.0 next.0
  told_keeps (body_declaration head ds body end_name) at next s e =
      let d = procedure_done head ds body end_name at next e in
      (body_stays_by head ds body end_name at next d s (λ inner. declarations_sound ds d.inner d.behind inner d.declared)
      (λ inner. declarations_keep ds d.inner d.behind inner d.declared) (λ behind. sequence_stays false body d.behind d.done behind d.told)).keeps
  told_keeps d at next s e = let one = single_done d at next e in subst (λ (v : Known). Keeps at.0 v) (sym one.known) (declaration_keeps at.0 d s one.quiet)

  -- declarations, one behind another
  pub declarations_sound : (ds : DeclarationsTree) (at after : At) → Sound at.0 → declarations_told ds at ≡ gives after → Sound after.0
  declarations_sound no_declarations at after s e = subst (λ (v : At). Sound v.0) (gives_same e) s
  declarations_sound (a_declaration d ds) at after s e =
      let done = declarations_done d ds at after e in
      declarations_sound ds done.next after (told_sound d at done.next s done.one) done.told

  pub declarations_keep : (ds : DeclarationsTree) (at after : At) → Sound at.0 → declarations_told ds at ≡ gives after → Keeps at.0 after.0
  declarations_keep no_declarations at after s e = subst (λ (v : At). Keeps at.0 v.0) (gives_same e) (keeps_same at.0)
  declarations_keep (a_declaration d ds) at after s e =
      let done = declarations_done d ds at after e in
      keeps_on at.0 done.next.0 after.0 (told_keeps d at done.next s done.one) (declarations_keep ds done.next after (told_sound d at done.next s done.one) done.told)

  pub statements_stay : (inside : Bool) (ss : StatementsTree) (at : At) (done : StmtsForm × At) → Sound at.0 → Complete at.0 → statements_told inside ss at ≡ gives done → Stays at.0 done.1.0
  statements_stay inside no_statements at done w c e = let same : (no_stmts, at) ≡ done = cc e in subst (λ (v : StmtsForm × At). Stays at.0 v.1.0) same (stays_same at.0 w c)
  statements_stay inside (a_statement s ss) at done w c e =
      let d = statements_done inside s ss at done e in
      let own = statement_stays inside s at d.own w c d.told in
      let others = statements_stay inside ss d.own.1 d.others own.sound own.complete d.others_told in
      stays_from at.0 at.0 d.others.1.0 done.1.0 refl (ap (λ v. v.0) d.behind) (stays_on at.0 d.own.1.0 d.others.1.0 own others)

  pub branches_stay : (inside : Bool) (branches : BranchesTree) (tail : Others) (at : At) (done : BranchesForm × At) → OthersStay tail → Sound at.0 → Complete at.0 → branches_told inside branches tail at ≡ gives done → Stays at.0 done.1.0
  branches_stay inside no_branches tail at done others w c e =
      let made = made_gives otherwise (tail at) done e in
      stays_from at.0 at.0 made.0.1.0 done.1.0 refl (sym (ap (λ v. v.0) made.3)) (others at made.0 w c made.1)
  branches_stay inside (a_branch condition ss more) tail at done others w c e =
      let d = branch_done inside condition ss more tail at done e in
      let own = statements_stay inside ss d.begun.1 d.own (subst Sound (sym d.condition.known) w) (subst (λ (v : Known). Complete v) (sym d.condition.known) c) d.told in
      let rest = branches_stay inside more tail d.own.1 d.others others own.sound own.complete d.others_told in
      stays_from at.0 d.begun.1.0 d.others.1.0 done.1.0 d.condition.known (ap (λ v. v.0) d.behind) (stays_on d.begun.1.0 d.own.1.0 d.others.1.0 own rest)

  pub handlers_stay : (inside : Bool) (hs : HandlersTree) (at : At) (done : HandlersForm × At) → Sound at.0 → Complete at.0 → handlers_told inside hs at ≡ gives done → Stays at.0 done.1.0
  handlers_stay inside no_handlers at done w c e = let same : (form.no_handlers, at) ≡ done = cc e in subst (λ (v : HandlersForm × At). Stays at.0 v.1.0) same (stays_same at.0 w c)
  handlers_stay inside (a_handler spot choices ss hs) at done w c e =
      let d = handler_done inside spot choices ss hs at done e in
      let own = statements_stay inside ss d.begun.1 d.own (subst Sound (sym d.begun_known) w) (subst (λ (v : Known). Complete v) (sym d.begun_known) c) d.told in
      let rest = handlers_stay inside hs d.own.1 d.others own.sound own.complete d.others_told in
      stays_from at.0 d.begun.1.0 d.others.1.0 done.1.0 d.begun_known (ap (λ v. v.0) d.behind) (stays_on d.begun.1.0 d.own.1.0 d.others.1.0 own rest)

-- the body of a procedure
pub body_stays : (head : HeadTree) (ds : DeclarationsTree) (body : SequenceTree) (end_name : Option Ident) (at next : At) (d : ProcedureDone head ds body end_name at next) → Sound at.0 → BodyStays at d.inner d.behind next head d.done
body_stays head ds body end_name at next d s =
    body_stays_by head ds body end_name at next d s (λ inner. declarations_sound ds d.inner d.behind inner d.declared)
    (λ inner. declarations_keep ds d.inner d.behind inner d.declared) (λ behind. sequence_stays false body d.behind d.done behind d.told)
