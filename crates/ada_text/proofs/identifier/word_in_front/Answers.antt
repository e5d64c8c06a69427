use Rattle.ada_text.proofs.IdentifierLemmas.{word_bytes-below_128}
use Rattle.ada_text.proofs.identifier.word_in_front.Goals as goal

pub upper_case-requires : goal.upper_case-requires
upper_case-requires c = word_bytes-below_128 _ _ c.word_len-len.ensures
