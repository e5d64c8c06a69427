-- Reading a compilation unit.

use Rattle.std.specs.Prelude.{ℕ, List, [], ◌∷◌, Option, Ok, Err}
use Rattle.ada_text.specs.declared.spot.Spot.{Spot}
use Rattle.ada_text.specs.declared.word.Word.TheVariants.{Is, Procedure}
use Rattle.ada_text.specs.Token.{reserved}
use Rattle.ada_tree.specs.Names.{Ident}
use Rattle.ada_tree.specs.Declarations.{ClauseTree}
use Rattle.ada_tree.specs.Statements.{DeclarationTree, SequenceTree, UnitTree, declarations_from, deepest}
use Rattle.ada_reader.specs.Step.{Phrase, here, fixed, identifier_at, continued, mapped, both, after}
use Rattle.ada_phrases.specs.Declarations.{clauses_at, end_at, end_name_at}
use Rattle.ada_phrases.specs.Statements.{declarations_at, statements_at, begin_in}

-- A unit of its parts.
abbrev pub unit_from : List ClauseTree × (Spot × (Ident × (List DeclarationTree × (SequenceTree × (Option Ident × Unit {0}))))) → UnitTree
unit_from x = record {
  clauses = x.0;
  spot = x.1.0;
  name = x.1.1.0;
  declarations = declarations_from x.1.1.1.0;
  body = x.1.1.1.1.0;
  end_name = x.1.1.1.1.1.0;
}

-- `with .. procedure P is .. begin .. end P;`; `room` levels of nesting may be open inside.
unfoldable pub unit_at : ℕ → Phrase UnitTree
unit_at room =
    mapped unit_from (both clauses_at (both (fixed (reserved Procedure)) (both identifier_at (after (reserved Is)
    (both (declarations_at room) (both (begin_in (statements_at room)) (both end_name_at end_at)))))))

-- The end of the tokens.
abbrev pub ended : {A : Type 0} → A → Phrase A
ended x [] = Ok (x, [])
ended x (t ∷ ts) = Err (here (t ∷ ts))

-- A unit, and nothing behind it.
unfoldable pub whole_at : Phrase UnitTree
whole_at = continued (unit_at deepest) ended
