-- What is built of its parts, in its box.
use Rattle.std.proofs.Common.{◌≡◌, Ok, Err, Result, ap, ◌∙◌}
use Rattle.std.specs.Global.{Box}
use Rattle.ada_tree.specs.declared.declarations.Declaration.{Declaration}
use Rattle.ada_tree.specs.declared.statements.Sequence.{Sequence}
use Rattle.ada_tree.specs.Statements.{DeclarationTree, SequenceTree}
use Rattle.ada_tree.specs.StatementView.{declaration_of, sequence_of}
use Rattle.ada_reader.specs.declared.reader.Stop.{Stop}
use Rattle.ada_phrases.specs.Boxes.{Boxes}
use Rattle.ada_phrases.specs.StatementPhrases.{BuildsDeclaration, BuildsSequence}

pub built_declaration : (value : Declaration) (result : Result (Box Declaration) Stop) (tree : DeclarationTree) → Boxes value result → declaration_of value ≡ tree → BuildsDeclaration tree result
built_declaration value (Ok found) tree holds viewed = ap declaration_of holds ∙ viewed
built_declaration value (Err stop) tree holds viewed = holds

pub built_sequence : (value : Sequence) (result : Result (Box Sequence) Stop) (tree : SequenceTree) → Boxes value result → sequence_of value ≡ tree → BuildsSequence tree result
built_sequence value (Ok found) tree holds viewed = ap sequence_of holds ∙ viewed
built_sequence value (Err stop) tree holds viewed = holds
