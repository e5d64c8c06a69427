use Rattle.std.proofs.Common.{◌≡◌, ◌++◌, [], ◌∷◌, arith, subst}
use Rattle.std.proofs.lemmas.List.{append-nil, drop_all}
use Rattle.std.proofs.lemmas.Result.{err_from_is_err_and}
use Rattle.ada_text.specs.Gap.{next_start}
use Rattle.ada_text.specs.Token.{lexeme_of, lexemes_of}
use Rattle.ada_text.specs.Reading.{Reads, complete, Spells, IsFirstFault}
use Rattle.ada_text.proofs.ReadingLemmas.{StandsIn_start, token_takes, next_place, joins_token, fault_behind, one_spelling, no_spelling}
use Rattle.ada_text.proofs.scanner.tokens.Goals as goal

pub past_gap-place-requires-clause-here : goal.past_gap-place-requires-clause-here
past_gap-place-requires-clause-here c = StandsIn_start c.args.source.now

pub past-requires-clause-more : goal.past-requires-clause-more
past-requires-clause-more c = (token_takes c.args.source.now c.loop-place.place.at (lexeme_of c.in_ok-token.token) c.loop-place-test.true c.in_ok-token.ensures.token).within

pub past-requires-clause-on_line : goal.past-requires-clause-on_line
past-requires-clause-on_line c = (token_takes c.args.source.now c.loop-place.place.at (lexeme_of c.in_ok-token.token) c.loop-place-test.true c.in_ok-token.ensures.token).on_line

pub loop-place-smaller : goal.loop-place-smaller
loop-place-smaller c =
    let next = next_place c.args.source.now c.loop-place.place.at c.past.result.at c.past_gap-place-in-loop-place.result.at (lexeme_of c.in_ok-token.token)
    c.loop-place-test.true c.in_ok-token.ensures.token c.past.ensures.at c.past_gap-place-in-loop-place.ensures.at in
    omega (arith, next.1)

pub loop-place-preserved : goal.loop-place-preserved
loop-place-preserved c =
    let pushed : c.push.new.self.items ≡ c.loop-place.found.items ++ c.in_ok-token.token ∷ [] = rw c.if-is_err.ensures.negation at c.push.ensures.items in
    let joins = joins_token c.args.source.now c.loop-place.place.at c.past.result.at c.past_gap-place-in-loop-place.result.at c.loop-place.found.items c.in_ok-token.token
    c.loop-place-test.true c.in_ok-token.ensures.token c.past.ensures.at c.past_gap-place-in-loop-place.ensures.at c.loop-place.invariant.joins in
    record {
      joins = λ ts end r. rw pushed (joins ts end r);
      stands = c.past_gap-place-in-loop-place.ensures.stands;
      limit = c.loop-place.invariant.limit;
    }

-- nothing is left behind the last token
whole : (c : goal.After-loop-place) → Spells c.args.source.now (lexemes_of c.loop-place.found.items)
whole c =
    let invariant = c.loop-place.invariant in
    let tokens = lexemes_of c.loop-place.found.items in
    let reads = invariant.joins [] complete (drop_all c.loop-place.place.at c.args.source.now c.loop-place-test.false) in
    record {
      limit = invariant.limit;
      reads = subst (λ ts. Reads c.args.source.now (next_start c.args.source.now 0) ts complete) (append-nil tokens) reads;
    }

pub returns-clause-tokens : goal.returns-clause-tokens
returns-clause-tokens c = whole c

pub returns-clause-only : goal.returns-clause-only
returns-clause-only c = λ ts h. one_spelling c.args.source.now ts (lexemes_of c.loop-place.found.items) h (whole c)

-- the flaw stands behind the tokens found so far
first : (c : goal.After-drop-found) → IsFirstFault c.args.source.now c.in_err-token.field-0.0
first c =
    let invariant = c.loop-place.invariant in
    let tokens = lexemes_of c.loop-place.found.items in
    fault_behind c.args.source.now c.loop-place.place.at tokens c.in_err-token.field-0.0 invariant.limit
    (λ end here. subst (λ ts. Reads c.args.source.now (next_start c.args.source.now 0) ts end) (append-nil tokens) (invariant.joins [] end here))
    c.in_err-token.ensures.fault

pub returns-in_err-token-clause-fault : goal.returns-in_err-token-clause-fault
returns-in_err-token-clause-fault c =
    let p = err_from_is_err_and c.from_residual.result c.from_residual.ensures.1 in
    rw (p.1, p.2) (first c)

pub returns-in_err-token-clause-none : goal.returns-in_err-token-clause-none
returns-in_err-token-clause-none c =
    let p = err_from_is_err_and c.from_residual.result c.from_residual.ensures.1 in
    rw (p.1, p.2) (λ ts h. no_spelling c.args.source.now ts c.in_err-token.field-0.0 (first c) h)
