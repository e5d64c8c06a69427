-- What a quiet body does: it may raise exceptions, as the definitions of effects say, and nothing else.

use Rattle.std.proofs.Common.{◌≡◌, ℕ, Bool, true, false, not, ◌&&◌, ◌||◌, List, [], ◌∷◌, refl, sym, ap, ◌∙◌, inl, inr}
use Rattle.std.specs.Prelude.{Option, Some, None}
use Rattle.std.proofs.lemmas.Bool.{and_parts, and_from, or_cases, or_left, or_right, not-true}
use Rattle.ada_deeds.specs.Follows.{path_follows, expression_follows, links_follow, condition_follows}
use Rattle.ada_deeds.specs.Forms.{is_raising, evaluation_does, path_does, expression_does, condition_does, is_left, right_does, declaration_does, declarations_do, leaving_does, stmt_does, stmts_do, branches_do, handlers_do, body_does}
use Rattle.ada_deeds.specs.declared.deed.Callee.{Callee}
use Rattle.ada_deeds.specs.declared.deed.Deed.{Deed}
use Rattle.ada_deeds.specs.declared.deed.Deed.TheVariants as deed
use Rattle.ada_effects.specs.Effects.{path_raises, expression_raises, condition_raises, no_implicit, no_calls, untaken, right_raises, right_starts, declaration_raises, declarations_raise, stmt_raises, stmts_raise, branches_raise, handlers_raise, body_raises}
use Rattle.ada_effects.proofs.Sameness.{are_equal}
use Rattle.ada_program.specs.declared.program.Exception.{Exception}
use Rattle.ada_program.specs.declared.program.Exception.TheVariants.{ConstraintError, EndError}
use Rattle.ada_program.specs.Form.{PathForm, ExpressionForm, integer, boolean, reads, is_null, applied_to, chained, LinksForm, no_more_links, a_link, RightForm, nothing, value_of, allocates, allocates_default, computes, DeclarationForm, creates_pool, collects, declares, declares_record, StmtForm, skips, assigns, assigns_record, frees, gets, writes, writes_text, chooses, repeats, counts, exits, calls, returns, raises, encloses, StmtsForm, no_stmts, a_stmt, BranchesForm, otherwise, a_branch, HandlersForm, no_handlers, a_handler}
use Rattle.ada_program.specs.Handling.{is_same, is_taken}
use Rattle.ada_program.specs.ProgramForm.{TypeForm, VariableForm, BodyForm}
use Rattle.ada_program.specs.WellFormed.{variable_kind}
use Rattle.ada_quiet.specs.Quiet.{holds_elementary, is_quiet_path, is_quiet_expression, are_quiet_links, is_quiet_condition, is_quiet_right, is_quiet_declaration, are_quiet_declarations, is_quiet_stmt, are_quiet, are_quiet_branches, are_quiet_handlers, is_elementary, is_quiet_body}
use Rattle.std.specs.List.{list_all}
use Rattle.std.specs.Prelude.{drop}

-- Of two tests one holds.
either : {X : Type 0} (a b : Bool) → (a || b) ≡ true → (a ≡ true → X) → (b ≡ true → X) → X
either a b h f g = elim (or_cases a b h) [ inl e ↦ f e | inr e ↦ g e ]

-- Neither holds.
pub neither : (a b : Bool) → a ≡ false → b ≡ false → (a || b) ≡ false
neither a b h g = ap (λ (x : Bool). x || b) h ∙ g

-- What is done is that an exception comes out, where this is raised besides.
abbrev Out : Deed → (among : Exception → Bool) → (raised : Bool) → Type 0
Out (deed.Raises e) among raised = among e ≡ true → raised ≡ true
Out (deed.Frees t) among raised = ⊥
Out (deed.Follows t) among raised = ⊥
Out deed.Allocates among raised = ⊥
Out deed.Calls among raised = ⊥

out_as : (d : Deed) (among : Exception → Bool) (a b : Bool) → (a ≡ true → b ≡ true) → Out d among a → Out d among b
out_as (deed.Raises e) among a b f h = λ is. f (h is)
out_as (deed.Frees t) among a b f h = h
out_as (deed.Follows t) among a b f h = h
out_as deed.Allocates among a b f h = h
out_as deed.Calls among a b f h = h

out_left : (d : Deed) (among : Exception → Bool) (a b : Bool) → Out d among a → Out d among (a || b)
out_left d among a b = out_as d among a (a || b) (or_left a b)

out_right : (d : Deed) (among : Exception → Bool) (a b : Bool) → Out d among b → Out d among (a || b)
out_right d among a b = out_as d among b (a || b) (or_right a b)

-- Two parts do, or one of them.
out_both : (d : Deed) (among : Exception → Bool) (does also raised more : Bool) → (does || also) ≡ true → (does ≡ true → Out d among raised) →
    (also ≡ true → Out d among more) → Out d among (raised || more)
out_both d among does also raised more h f g =
    either does also h (λ e. out_left d among raised more (f e)) (λ e. out_right d among raised more (g e))

-- An evaluation that follows nothing.
out_of : (d : Deed) (among : Exception → Bool) (fails : Bool) (follows : ℕ → Bool) → ((t : ℕ) → follows t ≡ false) → evaluation_does d fails follows ≡ true →
    Out d among (among ConstraintError && fails)
out_of (deed.Raises e) among fails follows none h =
    let both = and_parts (is_same ConstraintError e) fails h in
    λ is. and_from (among ConstraintError) fails (ap among (are_equal ConstraintError e both.0) ∙ is) both.1
out_of (deed.Frees t) among fails follows none h = absurd (cc h)
out_of (deed.Follows t) among fails follows none h = absurd (cc (sym (none t.0) ∙ h))
out_of deed.Allocates among fails follows none h = absurd (cc h)
out_of deed.Calls among fails follows none h = absurd (cc h)

-- An exception is raised.
out_raised : (d : Deed) (among : Exception → Bool) (e : Exception) → is_raising e d ≡ true → Out d among (among e)
out_raised (deed.Raises f) among e h = λ is. ap among (are_equal e f h) ∙ is
out_raised (deed.Frees t) among e h = absurd (cc h)
out_raised (deed.Follows t) among e h = absurd (cc h)
out_raised deed.Allocates among e h = absurd (cc h)
out_raised deed.Calls among e h = absurd (cc h)

-- What leaves statements by their handlers.
out_untaken : (d : Deed) (among : Exception → Bool) (hs : HandlersForm) (raised : Bool) → is_left hs d ≡ true → Out d (untaken hs among) raised → Out d among raised
out_untaken (deed.Raises e) among hs raised left h = λ is. h (and_from (among e) (not (is_taken hs e)) is left)
out_untaken (deed.Frees t) among hs raised left h = h
out_untaken (deed.Follows t) among hs raised left h = h
out_untaken deed.Allocates among hs raised left h = h
out_untaken deed.Calls among hs raised left h = h

-- No quiet path follows an access value.
abbrev pub NothingFollowed : List TypeForm → List VariableForm → Type 0
NothingFollowed types variables = (path : PathForm) → is_quiet_path types variables path ≡ true → (t : ℕ) → path_follows types variables t path ≡ false

module _ (types : List TypeForm) (variables : List VariableForm) (near : NothingFollowed types variables) where
  mutual
    expression_stays : (e : ExpressionForm) → is_quiet_expression types variables e ≡ true → (t : ℕ) → expression_follows types variables t e ≡ false
    expression_stays (integer i) q t = refl
    expression_stays (boolean b) q t = refl
    expression_stays (reads path) q t = near path q t
    expression_stays (is_null equal path) q t = absurd (cc q)
    expression_stays (applied_to operator e) q t = expression_stays e q t
    expression_stays (chained e links) q t =
        let both = and_parts (is_quiet_expression types variables e) (are_quiet_links types variables links) q in
        neither (expression_follows types variables t e) (links_follow types variables t links) (expression_stays e both.0 t) (links_stay links both.1 t)

    links_stay : (links : LinksForm) → are_quiet_links types variables links ≡ true → (t : ℕ) → links_follow types variables t links ≡ false
    links_stay no_more_links q t = refl
    links_stay (a_link operator e links) q t =
        let both = and_parts (is_quiet_expression types variables e) (are_quiet_links types variables links) q in
        neither (expression_follows types variables t e) (links_follow types variables t links) (expression_stays e both.0 t) (links_stay links both.1 t)

  condition_stays : (e : Option ExpressionForm) → is_quiet_condition types variables e ≡ true → (t : ℕ) → condition_follows types variables t e ≡ false
  condition_stays None q t = refl
  condition_stays (Some e) q t = expression_stays e q t

  module _ (known : Callee → Bool) (d : Deed) where
    path_out : (path : PathForm) → is_quiet_path types variables path ≡ true → path_does types variables d path ≡ true → (among : Exception → Bool) →
        Out d among (among ConstraintError && path_raises path)
    path_out path q h among = out_of d among (path_raises path) (λ t. path_follows types variables t path) (near path q) h

    expression_out : (e : ExpressionForm) → is_quiet_expression types variables e ≡ true → expression_does types variables d e ≡ true → (among : Exception → Bool) →
        Out d among (among ConstraintError && expression_raises e)
    expression_out e q h among = out_of d among (expression_raises e) (λ t. expression_follows types variables t e) (expression_stays e q) h

    condition_out : (e : Option ExpressionForm) → is_quiet_condition types variables e ≡ true → condition_does types variables d e ≡ true → (among : Exception → Bool) →
        Out d among (among ConstraintError && condition_raises e)
    condition_out e q h among = out_of d among (condition_raises e) (λ t. condition_follows types variables t e) (condition_stays e q) h

    right_out : (right : RightForm) → is_quiet_right types variables right ≡ true → right_does types variables known d right ≡ true → (among : Exception → Bool) →
        Out d among (right_raises among right)
    right_out nothing q h among = absurd (cc q)
    right_out (value_of path) q h among = absurd (cc q)
    right_out (allocates access items) q h among = absurd (cc q)
    right_out (allocates_default access) q h among = absurd (cc q)
    right_out (computes e) q h among = expression_out e q h among

    declaration_out : (c : DeclarationForm) → is_quiet_declaration types variables c ≡ true → declaration_does types variables known d c ≡ true →
        (among : Exception → Bool) → Out d among (declaration_raises no_implicit among c)
    declaration_out (creates_pool pool) q h among = absurd (cc q)
    declaration_out (collects access) q h among = absurd (cc q)
    declaration_out (declares x right) q h among =
        out_left d among (right_raises among right) (right_starts no_implicit among right)
        (right_out right (and_parts (holds_elementary (variable_kind variables x)) (is_quiet_right types variables right) q).1 h among)
    declaration_out (declares_record x object initial) q h among = absurd (cc q)

    declarations_out : (cs : List DeclarationForm) → are_quiet_declarations types variables cs ≡ true → declarations_do types variables known d cs ≡ true →
        (among : Exception → Bool) → Out d among (declarations_raise no_implicit among cs)
    declarations_out [] q h among = absurd (cc h)
    declarations_out (c ∷ cs) q h among =
        let both = and_parts (is_quiet_declaration types variables c) (are_quiet_declarations types variables cs) q in
        out_both d among (declaration_does types variables known d c) (declarations_do types variables known d cs) (declaration_raises no_implicit among c) (declarations_raise no_implicit among cs) h
        (λ e. declaration_out c both.0 e among) (λ e. declarations_out cs both.1 e among)

    -- Nothing that was created is finalized.
    leaves_nothing : (cs : List DeclarationForm) → are_quiet_declarations types variables cs ≡ true → leaving_does types known cs ≡ false
    leaves_nothing [] q = refl
    leaves_nothing (creates_pool pool ∷ cs) q = absurd (cc q)
    leaves_nothing (collects access ∷ cs) q = absurd (cc q)
    leaves_nothing (declares x right ∷ cs) q =
        leaves_nothing cs (and_parts (is_quiet_declaration types variables (declares x right)) (are_quiet_declarations types variables cs) q).1
    leaves_nothing (declares_record x object initial ∷ cs) q = absurd (cc q)

    -- A block, or a body, by what its statements and its handlers do.
    block_out : (cs : List DeclarationForm) (fs : StmtsForm) (hs : HandlersForm) → are_quiet_declarations types variables cs ≡ true →
        (stmts_do types variables known d fs ≡ true → (among : Exception → Bool) → Out d among (stmts_raise no_calls among fs)) →
        (handlers_do types variables known d hs ≡ true → (among : Exception → Bool) → Out d among (handlers_raise no_calls among hs)) →
        (declarations_do types variables known d cs || (is_left hs d && stmts_do types variables known d fs) || handlers_do types variables known d hs
        || leaving_does types known cs) ≡ true → (among : Exception → Bool) →
        Out d among (declarations_raise no_implicit among cs || stmts_raise no_calls (untaken hs among) fs || handlers_raise no_calls among hs)
    block_out cs fs hs q within behind h among =
        either (declarations_do types variables known d cs || (is_left hs d && stmts_do types variables known d fs) || handlers_do types variables known d hs)
        (leaving_does types known cs) h
        (λ all. out_both d among (declarations_do types variables known d cs || (is_left hs d && stmts_do types variables known d fs)) (handlers_do types variables known d hs)
        (declarations_raise no_implicit among cs || stmts_raise no_calls (untaken hs among) fs) (handlers_raise no_calls among hs) all
        (λ two. out_both d among (declarations_do types variables known d cs) (is_left hs d && stmts_do types variables known d fs) (declarations_raise no_implicit among cs)
        (stmts_raise no_calls (untaken hs among) fs) two (λ e. declarations_out cs q e among)
        (λ e. let both = and_parts (is_left hs d) (stmts_do types variables known d fs) e in
        out_untaken d among hs (stmts_raise no_calls (untaken hs among) fs) both.0 (within both.1 (untaken hs among))))
        (λ e. behind e among))
        (λ e. absurd (cc (sym (leaves_nothing cs q) ∙ e)))

    mutual
      stmt_out : (f : StmtForm) → is_quiet_stmt types variables f ≡ true → stmt_does types variables known d f ≡ true → (among : Exception → Bool) →
          Out d among (stmt_raises no_calls among f)
      stmt_out skips q h among = absurd (cc h)
      stmt_out (assigns target right) q h among =
          let both = and_parts (is_quiet_path types variables target) (is_quiet_right types variables right) q in
          out_left d among ((among ConstraintError && path_raises target) || right_raises among right) (right_starts no_implicit among right)
          (out_both d among (path_does types variables d target) (right_does types variables known d right) (among ConstraintError && path_raises target)
          (right_raises among right) h (λ e. path_out target both.0 e among) (λ e. right_out right both.1 e among))
      stmt_out (assigns_record target items) q h among = absurd (cc q)
      stmt_out (frees access path) q h among = absurd (cc q)
      stmt_out (gets target) q h among =
          out_both d among (is_raising EndError d) (path_does types variables d target) (among EndError) (among ConstraintError && path_raises target) h
          (out_raised d among EndError) (λ e. path_out target q e among)
      stmt_out (writes e) q h among = expression_out e q h among
      stmt_out (writes_text text) q h among = absurd (cc h)
      stmt_out (chooses branches) q h among = branches_out branches q h among
      stmt_out (repeats condition fs spot) q h among =
          let both = and_parts (is_quiet_condition types variables condition) (are_quiet types variables fs) q in
          out_both d among (condition_does types variables d condition) (stmts_do types variables known d fs) (among ConstraintError && condition_raises condition)
          (stmts_raise no_calls among fs) h (λ e. condition_out condition both.0 e among) (λ e. stmts_out fs both.1 e among)
      stmt_out (counts x low high fs spot) q h among =
          let all = and_parts (holds_elementary (variable_kind variables x) && is_quiet_expression types variables low && is_quiet_expression types variables high)
          (are_quiet types variables fs) q in
          let bounds = and_parts (holds_elementary (variable_kind variables x) && is_quiet_expression types variables low) (is_quiet_expression types variables high) all.0 in
          let first = and_parts (holds_elementary (variable_kind variables x)) (is_quiet_expression types variables low) bounds.0 in
          out_both d among (expression_does types variables d low || expression_does types variables d high) (stmts_do types variables known d fs)
          (among ConstraintError && (expression_raises low || expression_raises high)) (stmts_raise no_calls among fs) h
          (λ e. either (expression_does types variables d low) (expression_does types variables d high) e
          (λ g. out_as d among (among ConstraintError && expression_raises low) (among ConstraintError && (expression_raises low || expression_raises high))
          (λ r. let two = and_parts (among ConstraintError) (expression_raises low) r in
          and_from (among ConstraintError) (expression_raises low || expression_raises high) two.0 (or_left (expression_raises low) (expression_raises high) two.1))
          (expression_out low first.1 g among))
          (λ g. out_as d among (among ConstraintError && expression_raises high) (among ConstraintError && (expression_raises low || expression_raises high))
          (λ r. let two = and_parts (among ConstraintError) (expression_raises high) r in
          and_from (among ConstraintError) (expression_raises low || expression_raises high) two.0 (or_right (expression_raises low) (expression_raises high) two.1))
          (expression_out high bounds.1 g among)))
          (λ e. stmts_out fs all.1 e among)
      stmt_out (exits condition spot) q h among = condition_out condition q h among
      stmt_out (calls procedure actuals) q h among = absurd (cc q)
      stmt_out (returns spot) q h among = absurd (cc h)
      stmt_out (raises e) q h among = out_raised d among e h
      stmt_out (encloses cs fs hs) q h among =
          let all = and_parts (are_quiet_declarations types variables cs && are_quiet types variables fs) (are_quiet_handlers types variables hs) q in
          let two = and_parts (are_quiet_declarations types variables cs) (are_quiet types variables fs) all.0 in
          block_out cs fs hs two.0 (λ e more. stmts_out fs two.1 e more) (λ e more. handlers_out hs all.1 e more) h among

      stmts_out : (fs : StmtsForm) → are_quiet types variables fs ≡ true → stmts_do types variables known d fs ≡ true → (among : Exception → Bool) →
          Out d among (stmts_raise no_calls among fs)
      stmts_out no_stmts q h among = absurd (cc h)
      stmts_out (a_stmt f fs) q h among =
          let both = and_parts (is_quiet_stmt types variables f) (are_quiet types variables fs) q in
          out_both d among (stmt_does types variables known d f) (stmts_do types variables known d fs) (stmt_raises no_calls among f) (stmts_raise no_calls among fs) h
          (λ e. stmt_out f both.0 e among) (λ e. stmts_out fs both.1 e among)

      branches_out : (branches : BranchesForm) → are_quiet_branches types variables branches ≡ true → branches_do types variables known d branches ≡ true →
          (among : Exception → Bool) → Out d among (branches_raise no_calls among branches)
      branches_out (otherwise fs) q h among = stmts_out fs q h among
      branches_out (a_branch e fs branches) q h among =
          let all = and_parts (is_quiet_expression types variables e && are_quiet types variables fs) (are_quiet_branches types variables branches) q in
          let two = and_parts (is_quiet_expression types variables e) (are_quiet types variables fs) all.0 in
          out_both d among (expression_does types variables d e || stmts_do types variables known d fs) (branches_do types variables known d branches)
          ((among ConstraintError && expression_raises e) || stmts_raise no_calls among fs) (branches_raise no_calls among branches) h
          (λ g. out_both d among (expression_does types variables d e) (stmts_do types variables known d fs) (among ConstraintError && expression_raises e)
          (stmts_raise no_calls among fs) g (λ k. expression_out e two.0 k among) (λ k. stmts_out fs two.1 k among))
          (λ g. branches_out branches all.1 g among)

      handlers_out : (hs : HandlersForm) → are_quiet_handlers types variables hs ≡ true → handlers_do types variables known d hs ≡ true → (among : Exception → Bool) →
          Out d among (handlers_raise no_calls among hs)
      handlers_out no_handlers q h among = absurd (cc h)
      handlers_out (a_handler choices fs hs) q h among =
          let both = and_parts (are_quiet types variables fs) (are_quiet_handlers types variables hs) q in
          out_both d among (stmts_do types variables known d fs) (handlers_do types variables known d hs) (stmts_raise no_calls among fs) (handlers_raise no_calls among hs) h
          (λ e. stmts_out fs both.0 e among) (λ e. handlers_out hs both.1 e among)

-- A body.

-- The parts of a quiet body.
pub record IsSilent (types : List TypeForm) (b : BodyForm) : Type 0 where
  pub declarations : are_quiet_declarations types b.variables b.declarations ≡ true
  pub statements : are_quiet types b.variables b.statements ≡ true
  pub handlers : are_quiet_handlers types b.variables b.handlers ≡ true
  pub raises : body_raises no_calls b (λ e. true) ≡ false

silent : (types : List TypeForm) (b : BodyForm) → is_quiet_body types b ≡ true → IsSilent types b
silent types b q =
    let elementary = list_all (λ x. is_elementary x.kind) (drop 1 b.variables) in
    let declared = are_quiet_declarations types b.variables b.declarations in
    let stated = are_quiet types b.variables b.statements in
    let handled = are_quiet_handlers types b.variables b.handlers in
    let last = and_parts (elementary && declared && stated && handled) (not (body_raises no_calls b (λ e. true))) q in
    let three = and_parts (elementary && declared && stated) handled last.0 in
    let two = and_parts (elementary && declared) stated three.0 in
    let one = and_parts elementary declared two.0 in
    record { declarations = one.1; statements = two.1; handlers = three.1; raises = not-true (body_raises no_calls b (λ e. true)) last.1 }

out_none : (d : Deed) (among : Exception → Bool) (raised : Bool) → ((e : Exception) → among e ≡ true) → raised ≡ false → Out d among raised → ⊥
out_none (deed.Raises e) among raised all none h = absurd (cc (sym none ∙ h (all e)))
out_none (deed.Frees t) among raised all none h = h
out_none (deed.Follows t) among raised all none h = h
out_none deed.Allocates among raised all none h = h
out_none deed.Calls among raised all none h = h

pub does_nothing : (types : List TypeForm) (b : BodyForm) → NothingFollowed types b.variables → is_quiet_body types b ≡ true → (known : Callee → Bool) (d : Deed) →
    ¬ (body_does types known d b ≡ true)
does_nothing types b near q known d h =
    let s = silent types b q in
    let among : Exception → Bool = λ e. true in
    out_none d among (body_raises no_calls b among) (λ e. refl) s.raises
    (block_out types b.variables near known d b.declarations b.statements b.handlers s.declarations
    (λ e more. stmts_out types b.variables near known d b.statements s.statements e more)
    (λ e more. handlers_out types b.variables near known d b.handlers s.handlers e more) h among)
