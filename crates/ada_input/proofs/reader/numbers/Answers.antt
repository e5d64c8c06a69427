use Rattle.std.proofs.Common.{rules, w32, SFits, ◌≡◌, ◌+◌, ◌-◌, ◌≤◌, length, [], ◌∷◌, ◌++◌, Some, None, Ok, Err, get_or, drop, take, true, false, ap, sym, ◌∙◌, arith}
use Rattle.std.proofs.lemmas.List.{take_rest, length-drop, append-nil, drop_all}
use Rattle.std.proofs.lemmas.Int.{to_z-of_z}
use Rattle.ada_input.specs.Input.{is_separator, number_of, before, with_word, words_from, numbers_of}
use Rattle.ada_input.proofs.WordLemmas.{onto, onto-before, numbers-gap, numbers-at, numbers-none}
use Rattle.ada_input.proofs.reader.numbers.Goals as goal

pub loop-at-preserved-then-is_separator : goal.loop-at-preserved-then-is_separator
loop-at-preserved-then-is_separator c =
    let at = c.loop-at.at in
    let here : is_separator (get_or c.args.bytes.now at 0) ≡ true = sym c.if-is_separator.ensures in
    let within : at + 1 ≤ length c.args.bytes.now = omega arith in
    record {
      joins = ap (onto c.loop-at.found.items) (sym (numbers-gap (at + 1) at c.args.bytes.now c.loop-at-test.true here)) ∙ c.loop-at.invariant.joins;
      within = within;
    }

pub returns-in_default-clause-fault : goal.returns-in_default-clause-fault
returns-in_default-clause-fault c =
    let at = c.loop-at.at in
    let bytes = c.args.bytes.now in
    let len = c.word_len.result in
    let here : is_separator (get_or bytes at 0) ≡ false = sym c.if-is_separator.ensures in
    let word = numbers-at bytes (take (length bytes - at) (drop at bytes)) at len
    (take_rest bytes at) c.loop-at-test.true here c.word_len.ensures.within c.word_len.ensures.before c.word_len.ensures.behind in
    let none : number_of (take (at + len - at) (drop at bytes)) ≡ None = sym c.in_default.ensures in
    let bad : numbers_of (words_from (at + 1) (drop at bytes)) ≡ Err (at + 1) = word ∙ ap (λ n. with_word (at + 1) n (numbers_of (words_from (at + len + 1) (drop (at + len) bytes)))) none in
    sym c.loop-at.invariant.joins ∙ ap (onto c.loop-at.found.items) bad

pub loop-at-preserved : goal.loop-at-preserved
loop-at-preserved c =
    let at = c.loop-at.at in
    let bytes = c.args.bytes.now in
    let len = c.word_len.result in
    let here : is_separator (get_or bytes at 0) ≡ false = sym c.if-is_separator.ensures in
    let word = numbers-at bytes (take (length bytes - at) (drop at bytes)) at len
    (take_rest bytes at) c.loop-at-test.true here c.word_len.ensures.within c.word_len.ensures.before c.word_len.ensures.behind in
    let some : number_of (take (at + len - at) (drop at bytes)) ≡ Some c.in-Some.value = sym c.in-Some.ensures in
    let behind = numbers_of (words_from (at + len + 1) (drop (at + len) bytes)) in
    let good : numbers_of (words_from (at + 1) (drop at bytes)) ≡ before c.in-Some.value behind = word ∙ ap (λ n. with_word (at + 1) n behind) some in
    let fits : SFits w32 c.in-Some.value = search rules in
    let pushed : c.push.new.self.items ≡ c.loop-at.found.items ++ c.in-Some.value ∷ [] = simp to_z-of_z at (rw c.if-is_err.ensures.negation at c.push.ensures.items) in
    let within : at + len ≤ length bytes = omega (arith, length-drop at bytes, c.word_len.ensures.within, ap length (take_rest bytes at)) in
    record {
      joins = rw pushed (sym (onto-before c.loop-at.found.items c.in-Some.value behind) ∙ ap (onto c.loop-at.found.items) (sym good) ∙ c.loop-at.invariant.joins);
      within = within;
    }

pub returns-clause-numbers : goal.returns-clause-numbers
returns-clause-numbers c =
    let at = c.loop-at.at in
    let bytes = c.args.bytes.now in
    let rest : drop at bytes ≡ [] = drop_all at bytes (omega arith) in
    let none : numbers_of (words_from (at + 1) (drop at bytes)) ≡ Ok [] = ap (λ s. numbers_of (words_from (at + 1) s)) rest ∙ numbers-none (at + 1) in
    sym c.loop-at.invariant.joins ∙ ap (onto c.loop-at.found.items) none ∙ ap Ok (append-nil c.loop-at.found.items)
