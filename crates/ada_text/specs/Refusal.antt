-- What a reader of one token answers.
use Rattle.std.specs.Prelude.{◌≡◌, ℕ, Result, Ok, Err}
use Rattle.ada_text.specs.declared.element.Refusal.{Refusal}
use Rattle.ada_text.specs.declared.element.Refusal.TheVariants.{Flaw as AFlaw, NoMemory}
use Rattle.ada_text.specs.declared.token.TokenKind.{TokenKind}
use Rattle.ada_text.specs.Element.{Element, token, flaw}
use Rattle.ada_text.specs.Token.{kind_of}

-- It answers what the element says, unless memory ran out.
abbrev pub Gives : Result (TokenKind × ℕ) Refusal → Element → Type 0
Gives (Ok found) e = e ≡ token (kind_of found.0) found.1
Gives (Err (AFlaw f)) e = e ≡ flaw f
Gives (Err NoMemory) e = Unit {0}
