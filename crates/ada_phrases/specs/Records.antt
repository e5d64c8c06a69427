-- Reading record types and the values that are known before the run.

use Rattle.std.specs.Prelude.{ℕ, List, Option, Some, None}
use Rattle.ada_text.specs.declared.spot.Spot.{Spot}
use Rattle.ada_text.specs.declared.word.Word.TheVariants.{End, Null, Record}
use Rattle.ada_text.specs.declared.delimiter.Delimiter.TheVariants.{Assign, Colon, Minus, Semicolon}
use Rattle.ada_text.specs.Token.{reserved, delimiter}
use Rattle.ada_tree.specs.Names.{Ident}
use Rattle.ada_tree.specs.Records.{StaticTree, plain, minus, named, ComponentTree, RecordTree, null_record, null_components, components}
use Rattle.ada_reader.specs.Step.{Phrase, is_identifier, is_at, fixed, identifier_at, number_at, nothing, mapped, both, after, choose, all_of, at, not_at}

-- A number, wherever it stands.
abbrev pub amount_at : Phrase ℕ
amount_at = mapped (λ x. x.0) number_at

-- A negative value.
abbrev pub minus_from : Spot × ℕ → StaticTree
minus_from x = minus x.0 x.1

-- A value with no sign.
abbrev pub plain_from : ℕ × Spot → StaticTree
plain_from x = plain x.1 x.0

-- A number, perhaps with a minus sign, or a name.
unfoldable pub static_at : Phrase StaticTree
static_at =
    choose (is_at is_identifier) (mapped named identifier_at)
    (choose (at (delimiter Minus)) (mapped minus_from (both (fixed (delimiter Minus)) amount_at)) (mapped plain_from number_at))

-- `:= -1`, or nothing.
unfoldable pub initial_static_at : Phrase (Option StaticTree)
initial_static_at =
    choose (at (delimiter Assign)) (mapped Some (after (delimiter Assign) static_at)) (mapped (λ _. None) nothing)

-- A component of its parts.
abbrev pub component_from : Ident × (Ident × (Option StaticTree × Unit {0})) → ComponentTree
component_from x = record { name = x.0; type_name = x.1.0; initial = x.1.1.0 }

-- `C : T := 0;`
unfoldable pub component_at : Phrase ComponentTree
component_at =
    mapped component_from (both identifier_at (after (delimiter Colon)
    (both identifier_at (both initial_static_at (after (delimiter Semicolon) nothing)))))

-- `end record`
unfoldable pub end_record_at : Phrase (Unit {0})
end_record_at = after (reserved End) (after (reserved Record) nothing)

-- Components, one or more, of the first and the others.
abbrev pub components_from : ComponentTree × (List ComponentTree × Unit {0}) → RecordTree
components_from x = components x.0 x.1.0

-- Components up to `end record`.
unfoldable pub components_at : Phrase RecordTree
components_at =
    mapped components_from (both component_at (both (all_of (not_at (reserved End)) component_at) end_record_at))

-- `null record` or `record .. end record`
unfoldable pub record_at : Phrase RecordTree
record_at =
    choose (at (reserved Null)) (mapped (λ _. null_record) (after (reserved Null) (after (reserved Record) nothing)))
    (after (reserved Record)
    (choose (at (reserved Null)) (mapped (λ _. null_components) (after (reserved Null) (after (delimiter Semicolon) end_record_at)))
    components_at))
