-- Reading the parts of declarations, and the declarations in which no other nests.

use Rattle.std.specs.Prelude.{ℕ, List, ◌∷◌, Option, Some, None}
use Rattle.ada_text.specs.declared.spot.Spot.{Spot}
use Rattle.ada_text.specs.declared.word.Word.TheVariants as word
use Rattle.ada_text.specs.declared.delimiter.Delimiter.TheVariants.{Arrow, Assign, Bar, Colon, Comma, LeftParenthesis, RightParenthesis, Semicolon, Tick}
use Rattle.ada_text.specs.Token.{Kind, reserved, delimiter}
use Rattle.ada_tree.specs.Names.{Ident, NameTree}
use Rattle.ada_tree.specs.Expressions.{RightTree}
use Rattle.ada_tree.specs.Records.{StaticTree, RecordTree}
use Rattle.ada_tree.specs.Declarations.{SizeTree, number_size, named_size, AspectTree, FormalTree, HeadTree, ChoiceTree, named_choice, others_choice, ClauseTree}
use Rattle.ada_tree.specs.Statements.{DeclarationTree, exception_declaration, constant_declaration, pool_declaration, object_declaration, borrower_declaration, incomplete_type, access_type, record_type, derived_type, attribute_clause, instance}
use Rattle.ada_reader.specs.Step.{Phrase, is_identifier, is_at, fixed, identifier_at, number_at, nothing, continued, mapped, both, after, choose, all_of, opened, at}
use Rattle.ada_phrases.specs.Expressions.{name_at, initial_at}
use Rattle.ada_phrases.specs.Records.{static_at, record_at}

-- `;`
abbrev pub end_at : Phrase (Unit {0})
end_at = after (delimiter Semicolon) nothing

-- Where a word stands, if it is next.
abbrev pub optional_fixed : Kind → Phrase (Option Spot)
optional_fixed k = choose (at k) (mapped Some (fixed k)) (mapped (λ _. None) nothing)

-- An identifier, if one is next.
unfoldable pub end_name_at : Phrase (Option Ident)
end_name_at = choose (is_at is_identifier) (mapped Some identifier_at) (mapped (λ _. None) nothing)

-- `with` clauses.

-- `, A.B`
unfoldable pub next_name_at : Phrase NameTree
next_name_at = after (delimiter Comma) name_at

-- A clause of its parts.
abbrev pub clause_from : NameTree × (List NameTree × Unit {0}) → ClauseTree
clause_from x = record { first = x.0; rest = x.1.0 }

-- `with A.B, C;`
unfoldable pub clause_at : Phrase ClauseTree
clause_at =
    mapped clause_from (after (reserved word.With) (both name_at (both (all_of (at (delimiter Comma)) next_name_at) end_at)))

-- The clauses, as many as there are.
unfoldable pub clauses_at : Phrase (List ClauseTree)
clauses_at = all_of (at (reserved word.With)) clause_at

-- Choices of a handler.

-- A name or `others`.
unfoldable pub choice_at : Phrase ChoiceTree
choice_at =
    choose (at (reserved word.Others)) (mapped others_choice (fixed (reserved word.Others))) (mapped named_choice name_at)

-- `| A.B`
unfoldable pub next_choice_at : Phrase ChoiceTree
next_choice_at = after (delimiter Bar) choice_at

-- The first and the others.
abbrev pub cons_from : {A : Type 0} → A × List A → List A
cons_from x = x.0 ∷ x.1

-- `A.B | others`
unfoldable pub choices_at : Phrase (List ChoiceTree)
choices_at = mapped cons_from (both choice_at (all_of (at (delimiter Bar)) next_choice_at))

-- Sizes.

-- A number as a size.
abbrev pub number_size_from : ℕ × Spot → SizeTree
number_size_from x = number_size x.1 x.0

-- A number or a name.
unfoldable pub size_at : Phrase SizeTree
size_at = choose (is_at is_identifier) (mapped named_size identifier_at) (mapped number_size_from number_at)

-- A size behind its label.
abbrev pub labelled_size : Ident → SizeTree → Option Ident × SizeTree
labelled_size label size = (Some label, size)

-- A size with no label.
abbrev pub bare_size : SizeTree → Option Ident × SizeTree
bare_size size = (None, size)

-- What stands behind an identifier in a constraint: `=>` and a size, if it is a label, and else nothing.
unfoldable pub size_led : Ident → Phrase (Option Ident × SizeTree)
size_led first =
    choose (at (delimiter Arrow)) (mapped (labelled_size first) (after (delimiter Arrow) size_at))
    (mapped (λ _. (None, named_size first)) nothing)

-- A size, perhaps behind its label.
unfoldable pub labelled_size_at : Phrase (Option Ident × SizeTree)
labelled_size_at = choose (is_at is_identifier) (continued identifier_at size_led) (mapped bare_size size_at)

-- What stands in parentheses, without them.
abbrev pub first_of_two : {A : Type 0} → A × Unit {0} → A
first_of_two x = x.0

-- `(Pool_Size => 64)`
unfoldable pub constraint_at : ℕ → Phrase (Option Ident × SizeTree)
constraint_at room =
    opened room (delimiter LeftParenthesis)
    (mapped first_of_two (both labelled_size_at (after (delimiter RightParenthesis) nothing)))

-- Objects.

-- A constant of its parts.
abbrev pub constant_from : Ident → StaticTree × Unit {0} → DeclarationTree
constant_from name x = constant_declaration name x.0

-- A borrower of its parts.
abbrev pub borrower_from : Ident → Ident × (Option RightTree × Unit {0}) → DeclarationTree
borrower_from name x = borrower_declaration name x.0 x.1.0

-- A pool of its parts.
abbrev pub pool_from : Ident → NameTree → (Option Ident × SizeTree) × Unit {0} → DeclarationTree
pool_from name type_name x = pool_declaration name type_name x.0.0 x.0.1

-- An object of its parts.
abbrev pub object_from : Ident → NameTree → Option RightTree × Unit {0} → DeclarationTree
object_from name type_name x = object_declaration name type_name x.0

-- What stands behind `X : T`: a constraint, or an initial value or nothing.
unfoldable pub object_typed_at : ℕ → Ident → NameTree → Phrase DeclarationTree
object_typed_at room name type_name =
    choose (at (delimiter LeftParenthesis)) (mapped (pool_from name type_name) (both (constraint_at room) end_at))
    (mapped (object_from name type_name) (both (initial_at room) end_at))

-- `exception;`, behind `E :`.
abbrev pub exception_at : Ident → Phrase DeclarationTree
exception_at name = mapped (λ _. exception_declaration name) (after (reserved word.Exception) end_at)

-- `constant := 1;`, behind `N :`.
abbrev pub constant_at : Ident → Phrase DeclarationTree
constant_at name =
    mapped (constant_from name) (after (reserved word.Constant) (after (delimiter Assign) (both static_at end_at)))

-- `access T := ..;`, behind `X :`.
abbrev pub borrower_at : ℕ → Ident → Phrase DeclarationTree
borrower_at room name =
    mapped (borrower_from name) (after (reserved word.Access) (both identifier_at (both (initial_at room) end_at)))

-- What stands behind `X :`.
unfoldable pub object_named_at : ℕ → Ident → Phrase DeclarationTree
object_named_at room name =
    choose (at (reserved word.Exception)) (exception_at name)
    (choose (at (reserved word.Constant)) (constant_at name)
    (choose (at (reserved word.Access)) (borrower_at room name) (continued name_at (object_typed_at room name))))

-- `X : ..;`
unfoldable pub object_at : ℕ → Phrase DeclarationTree
object_at room = continued identifier_at (λ name. after (delimiter Colon) (object_named_at room name))

-- Types.

-- An aspect of its parts.
abbrev pub aspect_from : Spot × (Ident × Ident) → AspectTree
aspect_from x = record { spot = x.0; name = x.1.0; value = x.1.1 }

-- `with Storage_Pool => P`
unfoldable pub aspect_at : Phrase AspectTree
aspect_at =
    mapped aspect_from (both (fixed (reserved word.With)) (both identifier_at (after (delimiter Arrow) identifier_at)))

-- An aspect, or nothing.
unfoldable pub optional_aspect_at : Phrase (Option AspectTree)
optional_aspect_at = choose (at (reserved word.With)) (mapped Some aspect_at) (mapped (λ _. None) nothing)

-- An access type of its parts.
abbrev pub access_from : Spot → Ident → Ident × (Option AspectTree × Unit {0}) → DeclarationTree
access_from spot name x = access_type spot name x.0 x.1.0

-- A record type of its parts.
abbrev pub record_from : Spot → Ident → RecordTree × Unit {0} → DeclarationTree
record_from spot name x = record_type spot name x.0

-- A derived type of its parts.
abbrev pub derived_from : Spot → Ident → NameTree × (RecordTree × Unit {0}) → DeclarationTree
derived_from spot name x = derived_type spot name x.0 x.1.0

-- `access T with ..;`, behind `type A is`.
abbrev pub access_at : Spot → Ident → Phrase DeclarationTree
access_at spot name =
    mapped (access_from spot name) (after (reserved word.Access) (both identifier_at (both optional_aspect_at end_at)))

-- `new P with record .. end record;`, behind `type T is`.
abbrev pub derived_at : Spot → Ident → Phrase DeclarationTree
derived_at spot name =
    mapped (derived_from spot name) (after (reserved word.New) (both name_at (after (reserved word.With) (both record_at end_at))))

-- `record .. end record;`, behind `type T is`.
abbrev pub record_type_at : Spot → Ident → Phrase DeclarationTree
record_type_at spot name = mapped (record_from spot name) (both record_at end_at)

-- What stands behind `type T is`.
unfoldable pub definition_at : Spot → Ident → Phrase DeclarationTree
definition_at spot name =
    choose (at (reserved word.Access)) (access_at spot name)
    (choose (at (reserved word.New)) (derived_at spot name) (record_type_at spot name))

-- What stands behind `type T`.
unfoldable pub type_named_at : Spot → Ident → Phrase DeclarationTree
type_named_at spot name =
    choose (at (delimiter Semicolon)) (mapped (λ _. incomplete_type spot name) end_at)
    (after (reserved word.Is) (definition_at spot name))

-- `type T ..;`
unfoldable pub type_at : Phrase DeclarationTree
type_at = continued (both (fixed (reserved word.«Type»)) identifier_at) (λ x. type_named_at x.0 x.1)

-- A clause of its parts.
abbrev pub attribute_clause_from : Spot × (Ident × (Ident × (SizeTree × Unit {0}))) → DeclarationTree
attribute_clause_from x = attribute_clause x.0 x.1.0 x.1.1.0 x.1.1.1.0

-- `for A'Storage_Size use 64;`
unfoldable pub attribute_clause_at : Phrase DeclarationTree
attribute_clause_at =
    mapped attribute_clause_from (both (fixed (reserved word.For)) (both identifier_at (after (delimiter Tick)
    (both identifier_at (after (reserved word.Use) (both size_at end_at))))))

-- Heads of procedures.

-- A formal of its parts.
abbrev pub formal_from : Ident × (Option Spot × (Option Spot × Ident)) → FormalTree
formal_from x = record { name = x.0; input = x.1.0; output = x.1.1.0; type_name = x.1.1.1 }

-- `X : in out T`
unfoldable pub formal_at : Phrase FormalTree
formal_at =
    mapped formal_from (both identifier_at (after (delimiter Colon)
    (both (optional_fixed (reserved word.«In»)) (both (optional_fixed (reserved word.Out)) identifier_at))))

-- `; X : T`
unfoldable pub next_formal_at : Phrase FormalTree
next_formal_at = after (delimiter Semicolon) formal_at

-- The first formal and the others.
abbrev pub formals_from : FormalTree × (List FormalTree × Unit {0}) → List FormalTree
formals_from x = x.0 ∷ x.1.0

-- `X : T; Y : T)`, what stands behind the `(`.
unfoldable pub formals_at : Phrase (List FormalTree)
formals_at =
    mapped formals_from (both formal_at (both (all_of (at (delimiter Semicolon)) next_formal_at)
    (after (delimiter RightParenthesis) nothing)))

-- The first words of a procedure: where `overriding` stands, if it is written, where `procedure` stands, and the name.
pub record Start : Type 0 where
  pub overriding : Option Spot
  pub spot : Spot
  pub name : Ident

-- The first words of their parts.
abbrev pub start_from : Option Spot × (Spot × Ident) → Start
start_from x = record { overriding = x.0; spot = x.1.0; name = x.1.1 }

-- `overriding procedure P`
unfoldable pub start_at : Phrase Start
start_at =
    mapped start_from (both (optional_fixed (reserved word.Overriding)) (both (fixed (reserved word.Procedure)) identifier_at))

-- Where the first of them stands, if the other stands there.
abbrev pub earlier : Option Spot → Spot → Spot
earlier None spot = spot
earlier (Some first) spot = first

-- A head of its first words and its formals.
abbrev pub head_from : Start → List FormalTree → HeadTree
head_from s formals = record { overriding = s.overriding; spot = s.spot; name = s.name; formals = formals }

-- An instance of its parts.
abbrev pub instance_from : Start → NameTree → (Ident × (Ident × Unit {0})) × Unit {0} → DeclarationTree
instance_from s generic x = instance s.spot s.name generic x.0.0 x.0.1.0

-- `(T, A)`
unfoldable pub actuals_at : ℕ → Phrase (Ident × (Ident × Unit {0}))
actuals_at room =
    opened room (delimiter LeftParenthesis) (both identifier_at (after (delimiter Comma)
    (both identifier_at (after (delimiter RightParenthesis) nothing))))

-- What stands behind the generic unit of an instance.
unfoldable pub instance_named_at : ℕ → Start → NameTree → Phrase DeclarationTree
instance_named_at room s generic = mapped (instance_from s generic) (both (actuals_at room) end_at)

-- `new Ada.Unchecked_Deallocation (T, A);`, what stands behind `procedure Free is`.
unfoldable pub instance_at : ℕ → Start → Phrase DeclarationTree
instance_at room s = after (reserved word.New) (continued name_at (instance_named_at room s))
