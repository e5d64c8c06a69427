-- What stands inside a level of nesting, and the items of an aggregate.
use Rattle.std.proofs.Common.{◌≡◌, ℕ, zero, suc, ◌<◌, ◌-◌, List, [], ◌∷◌, map, refl, sym, ap, arith}
use Rattle.std.proofs.Common.{Ok, Err, Option}
use Rattle.ada_text.specs.Token.{Lexeme}
use Rattle.ada_tree.specs.Expressions.{ExpressionTree, an_item}
use Rattle.ada_tree.specs.ExpressionView.{expression_of, item_of, items_of}
use Rattle.ada_tree.specs.Names.{Ident, optional_ident_of}
use Rattle.ada_tree.specs.declared.expressions.Item.{Item}
use Rattle.ada_phrases.specs.Expressions.{inside, expression_at, items_at, items_in, items_from, all_items_from}
use Rattle.ada_reader.specs.Step.{Outcome, Phrase, all_of, at, both, mapped, nothing}
use Rattle.ada_phrases.specs.Phrases.{item_at, next_item_at, more_items_at}
use Rattle.ada_text.specs.Token.{delimiter}
use Rattle.ada_text.specs.declared.delimiter.Delimiter.TheVariants.{Comma}

pub inside_expression : (room : ℕ) (ts : List Lexeme) → 0 < room → (inside room).expression ts ≡ expression_at (room - 1) ts
unfolding inside expression_at
inside_expression zero ts h = absurd (omega arith)
inside_expression (suc room) ts h =
    let e : suc room - 1 ≡ room = omega arith in
    ap (λ n. expression_at n ts) (sym e)

pub inside_items : (room : ℕ) (ts : List Lexeme) → 0 < room → (inside room).items ts ≡ items_at (room - 1) ts
unfolding inside items_at
inside_items zero ts h = absurd (omega arith)
inside_items (suc room) ts h =
    let e : suc room - 1 ≡ room = omega arith in
    ap (λ n. items_at n ts) (sym e)

-- the items of the code's list
pub items_viewed : (items : List Item) → items_from (map item_of items) ≡ items_of items
items_viewed [] = refl
items_viewed (item ∷ items) = ap (an_item (optional_ident_of item.label) (expression_of item.value)) (items_viewed items)

-- a reader that answers so everywhere
abbrev answering : {A : Type 0} → Outcome A → Phrase A
answering read ts = read

-- the same of a value
abbrev giving : {A : Type 0} → A → List Lexeme → Phrase A
giving x rest ts = Ok (x, rest)

item_in_front : (x : Option Ident × ExpressionTree) (rest : List Lexeme) (read : Outcome (List (Option Ident × ExpressionTree))) → mapped all_items_from (both (giving x rest) (both (answering read) nothing)) rest ≡ mapped items_from (mapped (λ more. x ∷ more) (answering read)) rest
item_in_front x rest (Ok z) = refl
item_in_front x rest (Err stop) = refl

-- items behind the first
pub items_behind : (room : ℕ) (ts rest : List Lexeme) (x : Option Ident × ExpressionTree) → item_at room ts ≡ Ok (x, rest) → items_at room ts ≡ more_items_at room (x ∷ []) rest
unfolding items_at items_in more_items_at
items_behind room ts rest x e = rw e (item_in_front x rest (all_of (at (delimiter Comma)) (next_item_at room) rest))
