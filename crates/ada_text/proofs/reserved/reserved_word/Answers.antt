use Rattle.std.proofs.Common.{◌≡◌, ◌∙◌, ap, find, get_or, map}
use Rattle.std.specs.Char.{to_ascii_uppercase}
use Rattle.ada_text.specs.Reserved.{words_from}
use Rattle.ada_text.specs.Word.{is_spelled}
use Rattle.ada_text.proofs.WordLemmas.{reserved_word-by_letter, initial-map}
use Rattle.ada_text.proofs.reserved.reserved_word.Goals as goal

-- the words looked among are those from the letters' first
pub returns : goal.returns
returns c =
    let letters = map to_ascii_uppercase c.args.text.now in
    let initial : c.to_ascii_uppercase-initial.result ≡ get_or letters 0 0 = cc (initial-map c.args.text.now) in
    c.word_among.ensures ∙ ap (λ words. find (is_spelled letters) words) (c.words_from.ensures ∙ ap words_from initial) ∙ reserved_word-by_letter letters
