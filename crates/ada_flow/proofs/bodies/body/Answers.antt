use Rattle.std.proofs.Common.{◌≡◌, ℕ, List, map, Option, None, sym, ap, ◌∙◌, subst}
use Rattle.std.proofs.lemmas.Result.{err_from_is_err_and}
use Rattle.std.specs.Prelude.{Ok, Err}
use Rattle.ada_text.specs.declared.spot.Spot.{Spot}
use Rattle.ada_effects.specs.Effects.{Effects, passes}
use Rattle.ada_effects.specs.Found.{effects_in}
use Rattle.ada_program.specs.declared.program.FormalMode.{FormalMode}
use Rattle.ada_program.specs.Form.{StmtsForm, HandlersForm, DeclarationForm, declaration_form, handlers_form, stmts_form}
use Rattle.ada_program.specs.ProgramForm.{TypeForm, type_form, VariableForm, variable_form, BodyForm}
use Rattle.ada_flow.specs.Flow.{Holds, Gone, Around, Keeping, Outcome, body_around, judged_flow, declarations_flow, ends_body, faults, goes, gone_with, handled, handlers_flow, holds_at_first, kept_from, left_option, nothing_gone, owed_at_ends, stmts_flow, then_flow}
use Rattle.ada_flow.specs.Told.{Noted, around_of, body_in, ending, gone_of, held, keepings_in, kept_judgement, noted, noted_first, raised_by, tracks_in, types_in, variable_number, variables_in}
use Rattle.ada_flow.proofs.Noted.{End}
use Rattle.ada_flow.proofs.FirstFaults.{body_obeys, body_owes}
use Rattle.ada_flow.proofs.bodies.body.Goals as goal
use Rattle.ada_flow.specs.Tracking.{Tracks}

-- the parts of a body that stand here
abbrev parts_at : List TypeForm → List VariableForm → Around → List DeclarationForm → StmtsForm → HandlersForm → Holds → Outcome
parts_at types variables around ds fs hs holds =
    then_flow (declarations_flow types variables around.tracks around.effects.implicit ds holds)
    (λ at. handled (passes around.effects fs hs) (handlers_flow types variables around hs) (stmts_flow types variables around fs at))

-- in no loop, and in no block but the body
abbrev stands : Effects → List Keeping → Tracks → (owed : List ℕ) → (inside within : Gone) → Around
stands effects kept tracks owed inside within = record { effects = effects; kept = kept; tracks = tracks; owed = owed; start = None; inside = inside; within = within }

place_in : (effects : Effects) (kept : List Keeping) (tracks : Tracks) (b : BodyForm) (owed : List ℕ) (inside within : Gone) (place : Around) → place ≡ stands effects kept tracks owed inside within →
    owed ≡ owed_at_ends tracks b.formals b.variables → inside ≡ nothing_gone → within ≡ gone_with b.declarations → place ≡ body_around effects kept tracks b
place_in effects kept tracks b owed inside within place place_is owed_is nothing within_is =
    place_is
    ∙ ap (λ (o : List ℕ). stands effects kept tracks o inside within) owed_is
    ∙ ap (λ (g : Gone). stands effects kept tracks (owed_at_ends tracks b.formals b.variables) g within) nothing
    ∙ ap (λ (g : Gone). stands effects kept tracks (owed_at_ends tracks b.formals b.variables) nothing_gone g) within_is

-- how they end, as the code keeps them
parts_end_so : (n : Noted) (ms : List FormalMode) (types ts : List TypeForm) (variables vs : List VariableForm) (around place : Around) (ds : List DeclarationForm) (fs : StmtsForm) (hs : HandlersForm) (holds first : Holds) (end : End) →
    n ≡ noted_first ms → ts ≡ types → vs ≡ variables → place ≡ around → first ≡ holds →
    ending n (parts_at ts vs place ds fs hs first) ≡ end → ending (noted_first ms) (parts_at types variables around ds fs hs holds) ≡ end
parts_end_so n ms types ts variables vs around place ds fs hs holds first end n_is ts_is vs_is place_is first_is ends =
    subst (λ (m : Noted). ending m (parts_at types variables around ds fs hs holds) ≡ end) n_is
    (subst (λ (t : List TypeForm). ending n (parts_at t variables around ds fs hs holds) ≡ end) ts_is
    (subst (λ (v : List VariableForm). ending n (parts_at ts v around ds fs hs holds) ≡ end) vs_is
    (subst (λ (p : Around). ending n (parts_at ts vs p ds fs hs holds) ≡ end) place_is
    (subst (λ (h : Holds). ending n (parts_at ts vs place ds fs hs h) ≡ end) first_is ends))))

-- what is given back, as the code keeps it
given_so : (owed xs : List ℕ) (spot : Spot) (end left : Option Holds) (outcome : Option Holds → Option Holds → Outcome) → xs ≡ owed → end ≡ left →
    ((raising : Option Holds) → ends_body xs spot (goes end raising) ≡ outcome end raising) → (raising : Option Holds) → ends_body owed spot (goes left raising) ≡ outcome left raising
given_so owed xs spot end left outcome xs_is end_is given raising =
    subst (λ (h : Option Holds). ends_body owed spot (goes h raising) ≡ outcome h raising) end_is
    (subst (λ (os : List ℕ). ends_body os spot (goes end raising) ≡ outcome end raising) xs_is (given raising))

pub returns-in_err-give_all_back : goal.returns-in_err-give_all_back
returns-in_err-give_all_back c =
    let ms = c.args.formals.now in
    let types = map type_form c.args.types.now in
    let own = map variable_form c.args.variables.now in
    let variables = map variable_form c.args.judged.now in
    let tracks = tracks_in c.args.tracks in
    let ds = map declaration_form c.args.declarations.now in
    let fs = stmts_form c.args.statements.now in
    let hs = handlers_form c.args.handlers.now in
    let b = body_in ms c.args.variables.now c.args.declarations.now c.args.statements.now c.args.handlers.now c.args.end in
    let effects = effects_in c.args.effects in
    let kept = keepings_in c.args.kept.now in
    let owed = owed_at_ends tracks ms own in
    let gone = gone_with ds in
    let place : around_of c.in_body-around.result ≡ body_around effects kept tracks b =
    place_in effects kept tracks b (map variable_number c.deref.result.now) (gone_of c.nothing-nothing.result) (gone_of c.in_ok-gone.gone) (around_of c.in_body-around.result) c.in_body-around.ensures.place
    (ap (map variable_number) c.deref.ensures.value ∙ c.in_ok-owed.ensures) c.nothing-nothing.ensures c.in_ok-gone.ensures in
    let ends = parts_end_so (noted c.at_first-raised.result) ms types (types_in c.in_body-around.result) variables (variables_in c.in_body-around.result) (body_around effects kept tracks b) (around_of c.in_body-around.result)
    ds fs hs (holds_at_first tracks ms own) c.of-known.result.holds.items (Ok (held c.in_ok-last.last, noted c.parts.new.raised))
    c.at_first-raised.ensures c.in_body-around.ensures.types c.in_body-around.ensures.variables place (c.of-known.ensures ∙ c.in_ok-holds_at_first.ensures) c.in_ok-last.ensures in
    let left : held c.in_ok-last-2.last ≡ left_option variables gone (held c.in_ok-last.last) =
    c.in_ok-last-2.ensures ∙ ap (λ (g : Gone). left_option variables g (held c.in_ok-last.last)) c.in_ok-gone.ensures in
    let breach = c.in_err-give_all_back.field-0.0 in
    let owes = given_so owed (map variable_number c.deref-2.result.now) c.args.end (held c.in_ok-last-2.last) (left_option variables gone (held c.in_ok-last.last)) (λ end raising. faults breach.spot breach.rule)
    (ap (map variable_number) c.deref-2.ensures.value ∙ c.in_ok-owed.ensures) left c.in_err-give_all_back.ensures in
    let broken : kept_judgement (judged_flow types variables effects kept tracks b) ms ≡ Err (breach.spot, breach.rule) =
    body_owes (noted_first ms) (noted c.parts.new.raised) variables owed c.args.end gone ms (parts_at types variables (body_around effects kept tracks b) ds fs hs (holds_at_first tracks ms own)) (held c.in_ok-last.last) breach.spot breach.rule ends owes in
    let p = err_from_is_err_and c.from_residual-in_err-give_all_back.result c.from_residual-in_err-give_all_back.ensures.1 in
    rw (p.1, p.2) broken

pub returns : goal.returns
returns c =
    let ms = c.args.formals.now in
    let types = map type_form c.args.types.now in
    let own = map variable_form c.args.variables.now in
    let variables = map variable_form c.args.judged.now in
    let tracks = tracks_in c.args.tracks in
    let ds = map declaration_form c.args.declarations.now in
    let fs = stmts_form c.args.statements.now in
    let hs = handlers_form c.args.handlers.now in
    let b = body_in ms c.args.variables.now c.args.declarations.now c.args.statements.now c.args.handlers.now c.args.end in
    let effects = effects_in c.args.effects in
    let kept = keepings_in c.args.kept.now in
    let owed = owed_at_ends tracks ms own in
    let gone = gone_with ds in
    let raised = noted c.parts.new.raised in
    let place : around_of c.in_body-around.result ≡ body_around effects kept tracks b =
    place_in effects kept tracks b (map variable_number c.deref.result.now) (gone_of c.nothing-nothing.result) (gone_of c.in_ok-gone.gone) (around_of c.in_body-around.result) c.in_body-around.ensures.place
    (ap (map variable_number) c.deref.ensures.value ∙ c.in_ok-owed.ensures) c.nothing-nothing.ensures c.in_ok-gone.ensures in
    let ends = parts_end_so (noted c.at_first-raised.result) ms types (types_in c.in_body-around.result) variables (variables_in c.in_body-around.result) (body_around effects kept tracks b) (around_of c.in_body-around.result)
    ds fs hs (holds_at_first tracks ms own) c.of-known.result.holds.items (Ok (held c.in_ok-last.last, raised))
    c.at_first-raised.ensures c.in_body-around.ensures.types c.in_body-around.ensures.variables place (c.of-known.ensures ∙ c.in_ok-holds_at_first.ensures) c.in_ok-last.ensures in
    let left : held c.in_ok-last-2.last ≡ left_option variables gone (held c.in_ok-last.last) =
    c.in_ok-last-2.ensures ∙ ap (λ (g : Gone). left_option variables g (held c.in_ok-last.last)) c.in_ok-gone.ensures in
    let gives = given_so owed (map variable_number c.deref-2.result.now) c.args.end (held c.in_ok-last-2.last) (left_option variables gone (held c.in_ok-last.last)) (λ end raising. goes end raising)
    (ap (map variable_number) c.deref-2.ensures.value ∙ c.in_ok-owed.ensures) left c.in_ok-give_all_back.ensures in
    let raising : held c.in_ok-raising.raising ≡ left_option variables gone (raised_by raised) =
    c.in_ok-raising.ensures
    ∙ ap (λ (g : Gone). left_option variables g (held c.into_known.result)) c.in_ok-gone.ensures
    ∙ ap (left_option variables gone) c.into_known.ensures in
    body_obeys ms raised variables owed c.args.end gone (parts_at types variables (body_around effects kept tracks b) ds fs hs (holds_at_first tracks ms own)) (held c.in_ok-last.last) ends gives
    ∙ ap Ok (sym (c.in_ok-what_is_kept.ensures ∙ ap (λ (h : Option Holds). kept_from h 0 ms) raising))
