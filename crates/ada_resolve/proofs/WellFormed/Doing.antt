-- What each kind of statement, a block and the body of a procedure do has the types that it wants, given what is in them.

use Rattle.std.proofs.Common.{◌≡◌, ◌∙◌, ℕ, ◌+◌, Bool, true, false, List, [], ◌∷◌, ◌++◌, length, drop, refl, sym, ap, subst, arith}
use Rattle.std.specs.Prelude.{Option, ◌&&◌, map}
use Rattle.std.specs.List.{list_all}
use Rattle.ada_text.specs.declared.spot.Spot.{Spot}
use Rattle.ada_tree.specs.Names.{Ident}
use Rattle.ada_tree.specs.Declarations.{HeadTree}
use Rattle.ada_tree.specs.Statements.{DeclarationsTree, StatementTree, StatementsTree, no_statements, a_statement, SequenceTree}
use Rattle.ada_program.specs.declared.program.Choice.{Choice}
use Rattle.ada_program.specs.declared.program.FormalMode.{FormalMode}
use Rattle.ada_program.specs.declared.program.ScalarType.TheVariants.{Integer, Boolean}
use Rattle.ada_program.specs.declared.program.VariableKind.TheVariants as variable
use Rattle.ada_program.specs.Form.{ExpressionForm, StmtForm, chooses, repeats, counts, encloses, StmtsForm, no_stmts, a_stmt, BranchesForm, otherwise, HandlersForm}
use Rattle.ada_program.specs.Form as form
use Rattle.ada_program.specs.Freed.{statement_frees_own, statements_free_own, branches_free_own, handlers_free_own}
use Rattle.ada_program.specs.ProgramForm.{VariableForm}
use Rattle.ada_program.specs.WellFormed.{Creation, of_variable, creation, created_in, created_by, created_by_all, created_by_branches, created_by_handlers, statement_fits, stmts_fit, branches_fit, handlers_fit, has_type, condition_fits, has_statement, choice_fits, declarations_fit, collections_first, collection_fits, initial_fits}
use Rattle.ada_program.specs.WellFormed as fits
use Rattle.ada_resolve.specs.Known.{Known, Part, with_part, left_to}
use Rattle.ada_resolve.specs.Objects.{after_types}
use Rattle.ada_resolve.specs.Resolution.{gives, At, with_parameter, body_remark, Others, simple_told, SequenceForm, block_of, statements_told}
use Rattle.ada_resolve.specs.Spots.{end_of, head_spot}
use Rattle.ada_resolve.specs.Procedures.{body_of}
use Rattle.ada_resolve.specs.Statements.{simple_texts, with_texts}
use Rattle.ada_resolve.proofs.Standing.{Sound, Complete, Grows, Keeps, Stays, longer, sound_laid, more_pools, grows_on, complete_grows, get_front, ProcedureDone, BodyStays, simple_done, statements_done, ended_keeps, part_complete, parameter_complete}
use Rattle.ada_resolve.proofs.WellFormed.Remarks.{Quiet}
use Rattle.ada_resolve.proofs.WellFormed.Tables.{both_parts, get_last}
use Rattle.ada_resolve.proofs.WellFormed.Growing as growing
use Rattle.ada_resolve.proofs.WellFormed.Forms.{AreIn, forms}
use Rattle.ada_resolve.proofs.WellFormed.Counts.{count}
use Rattle.ada_resolve.proofs.WellFormed.Created.{Creates, creates_none, creates_both, creates_variable, accesses_grow, bodies_collect, collect_more, due, known_made, none_behind}
use Rattle.ada_resolve.proofs.WellFormed.Elaborated.{Late, InOrder, after_late, ended_here}
use Rattle.ada_resolve.proofs.WellFormed.Alike.{body_early, after_follows}
use Rattle.ada_resolve.proofs.WellFormed.Bodies.{BodyBegun, body_begins, body_is, created_between, body_behind}
use Rattle.ada_resolve.proofs.WellFormed.Called.{callables, callables_in}
use Rattle.ada_resolve.proofs.WellFormed.Freed.{statement_frees, statements_free}
use Rattle.ada_resolve.proofs.WellFormed.Lasting.{Ended, ended_on, Follows, follows_on, follows_left}
use Rattle.ada_resolve.proofs.WellFormed.Objects.{one_longer}
use Rattle.ada_resolve.proofs.WellFormed.Statements.{meant_fits}

-- from one place to another: what is done there has the types that it wants, at the second place, creates what is declared between them, and frees by the
-- instances for the very types of what it frees
abbrev pub DoneFits : Known → Known → (inside : Bool) → StmtForm → Type 0
DoneFits k m inside f = (statement_fits m.types m.variables m.texts m.exceptions (callables m.bodies) inside f ≡ true) × Creates k m (created_by f) × Follows k m × (statement_frees_own m.types m.variables f ≡ true)

abbrev pub AllFit : Known → Known → (inside : Bool) → StmtsForm → Type 0
AllFit k m inside fs = (stmts_fit m.types m.variables m.texts m.exceptions (callables m.bodies) inside fs ≡ true) × Creates k m (created_by_all fs) × Follows k m × (statements_free_own m.types m.variables fs ≡ true)

abbrev pub BranchesFit : Known → Known → (inside : Bool) → BranchesForm → Type 0
BranchesFit k m inside f = (branches_fit m.types m.variables m.texts m.exceptions (callables m.bodies) inside f ≡ true) × Creates k m (created_by_branches f) × Follows k m × (branches_free_own m.types m.variables f ≡ true)

abbrev pub HandledFit : Known → Known → (inside : Bool) → HandlersForm → Type 0
HandledFit k m inside f = (handlers_fit m.types m.variables m.texts m.exceptions (callables m.bodies) inside f ≡ true) × Creates k m (created_by_handlers f) × Follows k m × (handlers_free_own m.types m.variables f ≡ true)

-- what fits stays so further on
pub type_later : (k m : Known) (g : Grows k m) (t : _) (e : ExpressionForm) → has_type k.types k.variables t e ≡ true → has_type m.types m.variables t e ≡ true
type_later k m g t e h = growing.has_type_stays k.types m.types k.variables m.variables g.types g.variables t e h

module _ (k m : Known) (s : Sound k) (g : Grows k m) where
  pub declarations_later : (ds : _) → declarations_fit k.types k.variables ds ≡ true → declarations_fit m.types m.variables ds ≡ true
  declarations_later ds h = growing.declarations_stay k.types m.types k.variables m.variables g.types g.variables (sound_laid k s) ds h

  statement_later : (inside : Bool) (f : StmtForm) → statement_fits k.types k.variables k.texts k.exceptions (callables k.bodies) inside f ≡ true → statement_fits m.types m.variables m.texts m.exceptions (callables m.bodies) inside f ≡ true
  statement_later inside f h = growing.statement_stays k.types m.types k.variables m.variables g.types g.variables (sound_laid k s) k.texts m.texts k.exceptions m.exceptions (callables k.bodies) (callables m.bodies)
      (longer k.texts m.texts g.texts) (longer k.exceptions m.exceptions g.exceptions) (callables_in k.bodies m.bodies g.bodies) inside f h

  pub stmts_later : (inside : Bool) (fs : StmtsForm) → stmts_fit k.types k.variables k.texts k.exceptions (callables k.bodies) inside fs ≡ true → stmts_fit m.types m.variables m.texts m.exceptions (callables m.bodies) inside fs ≡ true
  stmts_later inside fs h = growing.stmts_stay k.types m.types k.variables m.variables g.types g.variables (sound_laid k s) k.texts m.texts k.exceptions m.exceptions (callables k.bodies) (callables m.bodies)
      (longer k.texts m.texts g.texts) (longer k.exceptions m.exceptions g.exceptions) (callables_in k.bodies m.bodies g.bodies) inside fs h

  pub choices_later : (cs : List Choice) → list_all (choice_fits k.exceptions) cs ≡ true → list_all (choice_fits m.exceptions) cs ≡ true
  choices_later cs h = growing.choices_stay k.types m.types k.variables m.variables g.types g.variables (sound_laid k s) k.texts m.texts k.exceptions m.exceptions (callables k.bodies) (callables m.bodies)
      (longer k.texts m.texts g.texts) (longer k.exceptions m.exceptions g.exceptions) (callables_in k.bodies m.bodies g.bodies) cs h

-- so does what frees by the instances for the very types
module _ (k m : Known) (g : Grows k m) where
  frees_later : (f : StmtForm) → statement_frees_own k.types k.variables f ≡ true → statement_frees_own m.types m.variables f ≡ true
  frees_later f h = statement_frees k.types m.types k.variables m.variables g.types g.variables f h

  free_later : (fs : StmtsForm) → statements_free_own k.types k.variables fs ≡ true → statements_free_own m.types m.variables fs ≡ true
  free_later fs h = statements_free k.types m.types k.variables m.variables g.types g.variables fs h

-- where the innermost part ends, the tables stay
creates_left : (k m : Known) (ps : List Part) (cs : List Creation) → Creates k m cs → Creates k (left_to ps m) cs
creates_left k m [] cs f = record { collections = f.collections; in_order = f.in_order; pools = f.pools }
creates_left k m (p ∷ ps) cs f = record { collections = f.collections; in_order = f.in_order; pools = f.pools }

pub left_fits : (k m : Known) (ps : List Part) (inside : Bool) (f : StmtForm) → Stays k (left_to ps m) → DoneFits k m inside f → DoneFits k (left_to ps m) inside f
left_fits k m [] inside f s h = (h.0, creates_left k m [] (created_by f) h.1, follows_left k m [] s h.2, h.3)
left_fits k m (p ∷ ps) inside f s h = (h.0, creates_left k m (p ∷ ps) (created_by f) h.1, follows_left k m (p ∷ ps) s h.2, h.3)

-- what is known at both places, and what is done
pub is_done : {k k2 m m2 : Known} {f f2 : StmtForm} (inside : Bool) → k2 ≡ k → m2 ≡ m → f2 ≡ f → DoneFits k m inside f → DoneFits k2 m2 inside f2
is_done inside ks ms fs h = rw (ks, ms, fs) h

-- texts alone are written
texts_follow : (texts : List (List ℕ)) (k : Known) → Follows k (with_texts texts k)
texts_follow texts k = record {
  ended = ended_on k (with_texts texts k) refl (longer k.texts (k.texts ++ texts) (λ i x is. get_front k.texts texts i x is)) (omega arith) (omega arith) (omega arith) (λ t form is settled. (is, settled));
}

-- a statement with no others in it
pub simple_fits : (inside : Bool) (s : StatementTree) (at : At) (done : StmtForm × At) → Sound at.0 → simple_told inside s at ≡ gives done → DoneFits at.0 done.1.0 inside done.0
simple_fits inside s at done w e =
    let d = simple_done inside s at done e in
    let k = at.0 in
    let m = with_texts (simple_texts s) k in
    let h = meant_fits k inside s w.names w.exceptions w.sized w.called d.quiet in
    is_done inside refl d.known d.form (h.0, subst (λ (cs : List Creation). Creates k m cs) (sym h.1) (creates_none k m refl refl refl), texts_follow (simple_texts s) k, h.2)

-- what a part has elaborated once its types end: it fits, and from where the part began it creates what is declared since then
pub late_fits : (m : Known) → Late m → declarations_fit m.types m.variables m.here.elaborated ≡ true
late_fits m w =
    let ds = m.here.elaborated in
    both_parts (collections_first ds && list_all (collection_fits m.types) ds) (list_all (initial_fits m.types m.variables) ds)
    (both_parts (collections_first ds) (list_all (collection_fits m.types) ds) w.collections_first w.collections_fit) w.initials_fit

pub late_creates : (k m : Known) → Late m → AreIn (forms k.types) (forms m.types) → AreIn k.bodies m.bodies → m.here.first_type ≡ length k.types → m.here.first_variable ≡ length k.variables → m.here.first_body ≡ length k.bodies → Creates k m (map creation m.here.elaborated)
late_creates k m w grows bodies first_type first_variable first_body = record {
  collections = λ a.
      let own : count a m.here.elaborated + ended_here m a ≡ due (length k.types) m.types a = w.one_each a ∙ ap (λ (n : ℕ). due n m.types a) first_type in
      let all = accesses_grow k.types m.types grows a in
      let ended : ended_here m a ≡ bodies_collect (drop (length k.bodies) m.bodies) a = ap (λ n. bodies_collect (drop n m.bodies) a) first_body in
      let more = collect_more k.bodies m.bodies (length k.bodies) bodies (omega arith) a in
      let none = none_behind k.bodies a in
      omega (arith, own, all, ended, more, none);
  in_order = λ n rest. ap (λ v. fits.creates_from n v (map creation m.here.elaborated ++ rest)) (sym first_variable) ∙ w.in_order n rest;
  pools = known_made (length m.pools) m.here.elaborated w.pools;
}

-- a loop has a statement
pub body_has : (inside : Bool) (spot : Spot) (ss : StatementsTree) (at : At) (done : StmtsForm × At) → Quiet (body_remark spot ss) → statements_told inside ss at ≡ gives done → has_statement done.0 ≡ true
body_has inside spot no_statements at done q e = absurd q
body_has inside spot (a_statement s ss) at done q e =
    let d = statements_done inside s ss at done e in subst (λ (fs : StmtsForm). has_statement fs ≡ true) (sym d.form) refl

-- the statements behind branches
abbrev pub TailFits : (inside : Bool) → Others → Type 0
TailFits inside tail = (at : At) (done : StmtsForm × At) → Sound at.0 → Complete at.0 → tail at ≡ gives done → AllFit at.0 done.1.0 inside done.0

-- a loop on a condition
pub on_condition_fits : (k z : Known) (condition : Option ExpressionForm) (own : StmtsForm) (last : Spot) (inside : Bool) → condition_fits z.types z.variables condition ≡ true → has_statement own ≡ true → AllFit k z true own → DoneFits k z inside (repeats condition own last)
on_condition_fits k z condition own last inside c s h = (
  both_parts (condition_fits z.types z.variables condition && has_statement own) (stmts_fit z.types z.variables z.texts z.exceptions (callables z.bodies) true own)
      (both_parts (condition_fits z.types z.variables condition) (has_statement own) c s) h.0,
  h.1,
  h.2,
  h.3,
)

-- a loop over a range
parameter_held : (name : Ident) (k z : Known) → Grows (with_parameter name k) z → fits.is_type Integer (fits.scalar_of (fits.variable_kind z.variables (length k.variables))) ≡ true
parameter_held name k z g =
    let v : VariableForm = record { name = name.text; spot = name.spot; kind = variable.Integer; borrows = false } in
    let there = g.variables (length k.variables) v (get_last k.variables v) in
    rw there refl

-- the parameter's part begins
pub parameter_follows : (name : Ident) (k : Known) → Follows k (with_parameter name k)
parameter_follows name k = record {
  ended = ended_on k (with_parameter name k) refl (omega arith) (omega arith) (omega arith) (omega arith) (λ t form is settled. (is, λ yet text u there same. parameter_complete name k text u there));
}

pub over_range_fits : (name : Ident) (k z : Known) (low high : ExpressionForm) (own : StmtsForm) (last : Spot) (inside : Bool) → Grows (with_parameter name k) z → has_type z.types z.variables Integer low ≡ true → has_type z.types z.variables Integer high ≡ true → has_statement own ≡ true → AllFit (with_parameter name k) z true own → DoneFits k z inside (counts (length k.variables) low high own last)
over_range_fits name k z low high own last inside g l u s h =
    let x = length k.variables in
    let held = fits.is_type Integer (fits.scalar_of (fits.variable_kind z.variables x)) in
    let low_is = has_type z.types z.variables Integer low in
    let high_is = has_type z.types z.variables Integer high in (
      both_parts (held && low_is && high_is && has_statement own) (stmts_fit z.types z.variables z.texts z.exceptions (callables z.bodies) true own)
          (both_parts (held && low_is && high_is) (has_statement own)
          (both_parts (held && low_is) high_is (both_parts held low_is (parameter_held name k z g) l) u) s) h.0,
      creates_both k (with_parameter name k) z (of_variable x ∷ []) (created_by_all own) (more_pools (with_parameter name k) z g)
          (creates_variable k (with_parameter name k) refl refl (one_longer k.variables (record { name = name.text; spot = name.spot; kind = variable.Integer; borrows = false }))) h.1,
      follows_on k (with_parameter name k) z (parameter_follows name k) h.2,
      h.3,
    )

-- a statement and those behind it, a branch and those behind it, a handler and those behind it
pub more_fit : (k m z : Known) (inside : Bool) (f : StmtForm) (fs : StmtsForm) → Sound m → Grows m z → DoneFits k m inside f → AllFit m z inside fs → AllFit k z inside (a_stmt f fs)
more_fit k m z inside f fs s g h i = (
  both_parts (statement_fits z.types z.variables z.texts z.exceptions (callables z.bodies) inside f) (stmts_fit z.types z.variables z.texts z.exceptions (callables z.bodies) inside fs)
      (statement_later m z s g inside f h.0) i.0,
  creates_both k m z (created_by f) (created_by_all fs) (more_pools m z g) h.1 i.1,
  follows_on k m z h.2 i.2,
  both_parts (statement_frees_own z.types z.variables f) (statements_free_own z.types z.variables fs) (frees_later m z g f h.3) i.3,
)

pub branch_fits : (k m z : Known) (inside : Bool) (c : ExpressionForm) (fs : StmtsForm) (bs : BranchesForm) → has_type z.types z.variables Boolean c ≡ true → Sound m → Grows m z → AllFit k m inside fs → BranchesFit m z inside bs → BranchesFit k z inside (form.a_branch c fs bs)
branch_fits k m z inside c fs bs condition s g h i = (
  both_parts (has_type z.types z.variables Boolean c && stmts_fit z.types z.variables z.texts z.exceptions (callables z.bodies) inside fs)
      (branches_fit z.types z.variables z.texts z.exceptions (callables z.bodies) inside bs)
      (both_parts (has_type z.types z.variables Boolean c) (stmts_fit z.types z.variables z.texts z.exceptions (callables z.bodies) inside fs) condition
      (stmts_later m z s g inside fs h.0)) i.0,
  creates_both k m z (created_by_all fs) (created_by_branches bs) (more_pools m z g) h.1 i.1,
  follows_on k m z h.2 i.2,
  both_parts (statements_free_own z.types z.variables fs) (branches_free_own z.types z.variables bs) (free_later m z g fs h.3) i.3,
)

pub handler_fits : (k m z : Known) (inside : Bool) (cs : List Choice) (fs : StmtsForm) (hs : HandlersForm) → list_all (choice_fits z.exceptions) cs ≡ true → has_statement fs ≡ true → Sound m → Grows m z → AllFit k m inside fs → HandledFit m z inside hs → HandledFit k z inside (form.a_handler cs fs hs)
handler_fits k m z inside cs fs hs named there s g h i = (
  both_parts (list_all (choice_fits z.exceptions) cs && has_statement fs && stmts_fit z.types z.variables z.texts z.exceptions (callables z.bodies) inside fs)
      (handlers_fit z.types z.variables z.texts z.exceptions (callables z.bodies) inside hs)
      (both_parts (list_all (choice_fits z.exceptions) cs && has_statement fs) (stmts_fit z.types z.variables z.texts z.exceptions (callables z.bodies) inside fs)
      (both_parts (list_all (choice_fits z.exceptions) cs) (has_statement fs) named there) (stmts_later m z s g inside fs h.0)) i.0,
  creates_both k m z (created_by_all fs) (created_by_handlers hs) (more_pools m z g) h.1 i.1,
  follows_on k m z h.2 i.2,
  both_parts (statements_free_own z.types z.variables fs) (handlers_free_own z.types z.variables hs) (free_later m z g fs h.3) i.3,
)

-- the part of a block begins
pub part_follows : (k : Known) → Follows k (with_part k)
part_follows k = record {
  ended = ended_on k (with_part k) refl (omega arith) (omega arith) (omega arith) (omega arith) (λ t form is settled. (is, λ yet text u there same. part_complete k text u there));
}

-- the statements and the handlers of a part whose declarations are known: with these they fit, and from where the part began they create what is
-- declared since then
pub record SequenceFits (m z : Known) (inside : Bool) (body : SequenceForm) : Type 0 where
  pub declares : declarations_fit z.types z.variables z.here.elaborated ≡ true
  pub own : stmts_fit z.types z.variables z.texts z.exceptions (callables z.bodies) inside body.0 ≡ true
  pub handled : handlers_fit z.types z.variables z.texts z.exceptions (callables z.bodies) inside body.1 ≡ true
  pub creates : (k : Known) → AreIn (forms k.types) (forms m.types) → AreIn k.bodies m.bodies → m.here.first_type ≡ length k.types → m.here.first_variable ≡ length k.variables → m.here.first_body ≡ length k.bodies → Creates k z (map creation z.here.elaborated ++ created_by_all body.0 ++ created_by_handlers body.1)
  pub follows : Follows m z
  pub own_frees : statements_free_own z.types z.variables body.0 ≡ true
  pub handled_frees : handlers_free_own z.types z.variables body.1 ≡ true

pub sequence_fits_by : (m o z : Known) (inside : Bool) (fs : StmtsForm) (hs : HandlersForm) → InOrder m → Complete m → Sound (after_types m) → Stays (after_types m) o → Stays o z → AllFit (after_types m) o inside fs → HandledFit o z inside hs → SequenceFits m z inside (fs, hs)
sequence_fits_by m o z inside fs hs order complete s f g h i =
    let r = after_types m in
    let late = after_late m order in
    let here : z.here ≡ r.here = g.here ∙ f.here in
    let keeps = ended_keeps m in
    let ds = r.here.elaborated in
    record {
      declares = subst (λ (p : Part). declarations_fit z.types z.variables p.elaborated ≡ true) (sym here)
          (declarations_later r z s (grows_on r o z f.grows g.grows) ds (late_fits r late));
      own = stmts_later o z f.sound g.grows inside fs h.0;
      handled = i.0;
      creates = λ k types bodies first_type first_variable first_body.
          subst (λ (p : Part). Creates k z (map creation p.elaborated ++ created_by_all fs ++ created_by_handlers hs)) (sym here)
          (creates_both k o z (map creation ds ++ created_by_all fs) (created_by_handlers hs) (more_pools o z g.grows)
          (creates_both k r o (map creation ds) (created_by_all fs) (more_pools r o f.grows)
          (late_creates k r late (λ t x is. (complete_grows m r complete keeps).types t x (types t x is)) (λ i x is. keeps.bodies i x (bodies i x is))
          (keeps.first_type ∙ first_type) (keeps.first_variable ∙ first_variable) (keeps.first_body ∙ first_body)) h.1) i.1);
      follows = follows_on m r z (after_follows m) (follows_on r o z h.2 i.2);
      own_frees = free_later o z g.grows fs h.3;
      handled_frees = i.3;
    }

pub sequence_is : {m z z2 : Known} {b b2 : SequenceForm} (inside : Bool) → z2 ≡ z → b2 ≡ b → SequenceFits m z inside b → SequenceFits m z2 inside b2
sequence_is inside zs bs h = rw (zs, bs) h

-- a block, from where its statements begin
pub block_fits : (k m z : Known) (inside : Bool) (body : SequenceForm) → AreIn (forms k.types) (forms m.types) → AreIn k.bodies m.bodies → m.here.first_type ≡ length k.types → m.here.first_variable ≡ length k.variables → m.here.first_body ≡ length k.bodies → Follows k m → Stays k (left_to z.outer z) → SequenceFits m z inside body → DoneFits k (left_to z.outer z) inside (block_of z body)
block_fits k m z inside body types bodies first_type first_variable first_body follows stays f =
    let ds = z.here.elaborated in
    left_fits k z z.outer inside (block_of z body) stays (
      both_parts (declarations_fit z.types z.variables ds && stmts_fit z.types z.variables z.texts z.exceptions (callables z.bodies) inside body.0)
          (handlers_fit z.types z.variables z.texts z.exceptions (callables z.bodies) inside body.1)
          (both_parts (declarations_fit z.types z.variables ds) (stmts_fit z.types z.variables z.texts z.exceptions (callables z.bodies) inside body.0)
          f.declares f.own) f.handled,
      f.creates k types bodies first_type first_variable first_body,
      follows_on k m z follows f.follows,
      both_parts (statements_free_own z.types z.variables body.0) (handlers_free_own z.types z.variables body.1) f.own_frees f.handled_frees,
    )

-- what is elaborated stays in order from one place of a part to another
pub record Ordered (k m : Known) : Type 0 where
  pub order : InOrder m
  pub follows : Follows k m

pub ordered_on : (k m z : Known) → Ordered k m → Ordered m z → Ordered k z
ordered_on k m z f g = record { order = g.order; follows = follows_on k m z f.follows g.follows }

-- the body of a procedure
pub body_ordered : (head : HeadTree) (ds : DeclarationsTree) (body : SequenceTree) (end_name : Option Ident) (at next : At) (d : ProcedureDone head ds body end_name at next) → InOrder at.0 → BodyStays at d.inner d.behind next head d.done → Keeps d.inner.0 d.behind.0 → (InOrder d.inner.0 → Ordered d.inner.0 d.behind.0) → (InOrder d.behind.0 → SequenceFits d.behind.0 d.done.1.0 false d.done.0) → Ordered at.0 next.0
body_ordered head ds body end_name at next d order s keeps declares sequence =
    let k = after_types at.0 in
    let inner = d.inner.0 in
    let behind = d.behind.0 in
    let z = d.done.1.0 in
    let fs = d.done.0.0 in
    let hs = d.done.0.1 in
    let start = head_spot head in
    let last = end_of body in
    let begun : BodyBegun k inner = subst (λ v. BodyBegun k v) (sym d.inner_known) (body_begins k head) in
    let o = declares (subst InOrder (sym d.inner_known) (body_early k head)) in
    let f = sequence o.order in
    let follows = follows_on inner behind z o.follows f.follows in
    let grows = complete_grows inner behind s.inner_complete keeps in
    let creates : Creates inner z (created_in (body_of z fs hs start last)) =
    f.creates inner grows.types grows.bodies (keeps.first_type ∙ begun.first_type) (keeps.first_variable ∙ begun.first_variable) (keeps.first_body ∙ begun.first_body) in
    let same_modes : z.here.modes ≡ inner.here.modes =
    ap (λ (p : Part). p.modes) s.sequence.stays.here ∙ ((ended_keeps behind).modes ∙ keeps.modes) in
    let modes : length z.here.modes ≡ length inner.variables = ap (λ (ms : List FormalMode). length ms) same_modes ∙ begun.modes in
    let fit = body_is inner z fs hs start last s.done_in.sound modes creates f.declares f.own f.handled in
    let own_frees = both_parts (statements_free_own z.types z.variables fs) (handlers_free_own z.types z.variables hs) f.own_frees f.handled_frees in
    let after = body_behind k z head fs hs start last s.before (after_late at.0 order) s.done_in (created_between k inner z (created_in (body_of z fs hs start last)) begun.accesses begun.bodies creates) fit own_frees creates.pools in
    let types_end = after_follows at.0 in
    record {
      order = subst InOrder (sym d.known) after.order;
      follows = record {
        ended = λ e. subst Ended (sym d.known) (after.ended (follows.ended (begun.ended (types_end.ended e))));
      };
    }
