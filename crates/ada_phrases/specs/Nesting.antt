-- What stands inside a level of nesting, by the room that is left there.

use Rattle.std.specs.Prelude.{ℕ}
use Rattle.ada_phrases.specs.Statements.{Inner, declarations_at, statements_at}

-- Declarations and statements; `room` levels of nesting may be open inside.
abbrev pub inside_at : ℕ → Inner
inside_at room = record { declarations = declarations_at room; statements = statements_at room }
