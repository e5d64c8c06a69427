-- What is written so is read so: names and expressions.
use Rattle.std.proofs.Common.{◌≡◌, ℕ, zero, suc, Bool, true, false, ◌&&◌, ◌||◌, List, [], ◌∷◌, ◌++◌, Option, Some, None, Ok, Err, inl, inr, length, ◌<◌, lt-suc_self, refl, sym, ap, subst, ◌∙◌, append_assoc, append-nil, arith}
use Rattle.std.specs.Prelude.{◌-◌, leb, eqb}
use Rattle.std.specs.List.{flat_map}
use Rattle.ada_text.specs.declared.spot.Spot.{Spot}
use Rattle.ada_text.specs.declared.word.Word.TheVariants as word
use Rattle.ada_text.specs.declared.delimiter.Delimiter.TheVariants as mark
use Rattle.ada_text.specs.Token.{Kind, identifier, number, reserved, delimiter, Lexeme}
use Rattle.ada_values.specs.declared.operator.UnaryOperator.{UnaryOperator}
use Rattle.ada_values.specs.declared.operator.UnaryOperator.TheVariants as unary
use Rattle.ada_values.specs.declared.operator.BinaryOperator.{BinaryOperator}
use Rattle.ada_values.specs.declared.operator.BinaryOperator.TheVariants as binary
use denote.Enum.Bare.{sameb, same_true}
use Rattle.ada_values.specs.contracts.operator.BinaryOperator.{the_type as operators}
use Rattle.ada_tree.specs.Piece.{Piece, anywhere, placed, never, Spelled, opening, opening_at, guarded}
use Rattle.ada_tree.specs.Names.{Ident, NameTree, SelectorTree, component, dereference, PathTree, part_pieces, name_pieces, selector_pieces}
use Rattle.ada_tree.specs.Expressions.{ExpressionTree, number_expression, null_expression, path_expression, aggregate_expression, enclosed_expression, unary_expression, binary_expression, ItemsTree, Rank, primary, factor, term, sum, relation, logical, number_of, unary_rank, binary_rank, rank_of, is_at_most, left_rank, right_rank, operand_rank, repeats, joins, unary_kind, binary_pieces, expression_pieces, items_pieces}
use Rattle.ada_reader.specs.Step.{◌>>=◌, Phrase, here, spot_of, is_kind, is_at, at, fixed, nothing, continued, mapped, both, after, choose, all_of, opening_in, chain}
use Rattle.ada_reader.specs.Operators.{at_multiplying, operator_at, multiplying_at, at_adding, adding_at, at_comparing, comparing_at, sign_at}
use Rattle.ada_phrases.specs.Expressions.{part_at, name_from, name_at, selector_at, selectors_at, path_from, path_led, beside, signed_from, not_from, number_from_parts, enclosed_from, term_from, sum_from, relation_from, logical_from, enclosed_items_in, primary_led, primary_in, factor_in, term_in, first_term_in, sum_in, relation_in, expression_in}
use Rattle.ada_parser.proofs.Sound.{bind_ok, chosen, ok_is, is_filled}
use Rattle.ada_parser.proofs.Local.{Plain, Advances, chain_unfold}
use Rattle.ada_parser.proofs.Complete.{Follow, Next, any, any_next, unless, before, Leads, Complete, sinks, expected, or_else, append_spelled, sinks_append, leads_first, leads_any, leads_same, leads_front, complete_as, weaken, guarded_complete, nothing_complete, mapped_complete, continued_complete, both_complete, choose_true, choose_false, placed_complete, after_complete, opened_complete, opened_at_complete, identifier_complete, number_complete, all_complete, while_items}

-- ---- names and paths

part_complete : (i : Ident) → Complete (part_pieces i) part_at i any
unfolding part_at
part_complete i = after_complete refl (identifier_complete i)

parts_complete : (parts : List Ident) → Complete (flat_map part_pieces parts) (all_of (at (delimiter mark.Dot)) part_at) parts (unless (delimiter mark.Dot))
parts_complete = all_complete (while_items (delimiter mark.Dot) (λ x. refl) part_complete (λ x. leads_first refl) (λ x. leads_any) leads_same leads_any)

pub name_complete : (n : NameTree) → Complete (name_pieces n) name_at n (unless (delimiter mark.Dot))
unfolding name_at
name_complete n = mapped_complete name_from (both_complete (identifier_complete n.first) (parts_complete n.rest) leads_any)

selector_complete : (s : SelectorTree) → Complete (selector_pieces s) selector_at s any
unfolding selector_at
selector_complete (component i) = after_complete refl (choose_false (mapped_complete component (identifier_complete i)) (leads_first refl))
selector_complete (dereference spot) = after_complete refl (choose_true (mapped_complete dereference (placed_complete spot refl)) (leads_first refl))

selector_filled : (s : SelectorTree) → is_filled (selector_pieces s) ≡ true
selector_filled (component i) = refl
selector_filled (dereference spot) = refl

selector_leads : (s : SelectorTree) → Leads (selector_pieces s) any (before (delimiter mark.Dot))
selector_leads (component i) = leads_first refl
selector_leads (dereference spot) = leads_first refl

selectors_complete : (ss : List SelectorTree) → Complete (flat_map selector_pieces ss) selectors_at ss (unless (delimiter mark.Dot))
unfolding selectors_at
selectors_complete = all_complete (while_items (delimiter mark.Dot) selector_filled selector_complete selector_leads (λ x. leads_any) leads_same leads_any)

pub path_complete : (root : Ident) (ss : List SelectorTree) → Complete (flat_map selector_pieces ss) (path_led root) (record { root = root; selectors = ss }) (unless (delimiter mark.Dot))
unfolding path_led
path_complete root ss = mapped_complete (path_from root) (selectors_complete ss)

-- ---- what may stand behind each phrase

abbrev pub is_multiplying : Kind → Bool
is_multiplying k = is_kind (delimiter mark.Star) k || is_kind (delimiter mark.Slash) k || is_kind (reserved word.Mod) k || is_kind (reserved word.Rem) k

abbrev pub is_adding : Kind → Bool
is_adding k = is_kind (delimiter mark.Plus) k || is_kind (delimiter mark.Minus) k

abbrev pub is_comparing : Kind → Bool
is_comparing k =
    is_kind (delimiter mark.Equal) k || is_kind (delimiter mark.NotEqual) k || is_kind (delimiter mark.Less) k ||
    is_kind (delimiter mark.LessEqual) k || is_kind (delimiter mark.Greater) k || is_kind (delimiter mark.GreaterEqual) k

abbrev pub is_connecting : Kind → Bool
is_connecting k = is_kind (reserved word.And) k || is_kind (reserved word.Or) k || is_kind (reserved word.Xor) k

-- a primary goes on with a dot or a tick
abbrev pub goes_on : Kind → Bool
goes_on k = is_kind (delimiter mark.Dot) k || is_kind (delimiter mark.Tick) k

-- Whether a token goes on with a phrase of this rank.
abbrev pub continues : Rank → Kind → Bool
continues primary k = goes_on k
continues factor k = goes_on k
continues term k = is_multiplying k || goes_on k
continues sum k = is_adding k || (is_multiplying k || goes_on k)
continues relation k = is_comparing k || (is_adding k || (is_multiplying k || goes_on k))
continues logical k = is_connecting k || (is_comparing k || (is_adding k || (is_multiplying k || goes_on k)))

-- What does not go on with a phrase of this rank.
abbrev pub past : Rank → Follow
past rank = record { test = continues rank; value = false }

pub or_right : (a b : Bool) → a || b ≡ false → b ≡ false
or_right true b e = absurd cc
or_right false b e = e

pub or_left : (a b : Bool) → a || b ≡ false → a ≡ false
or_left true b e = absurd cc
or_left false b e = refl

-- what one test refuses the other refuses
pub narrower : (f g : Follow) → ((k : Kind) → g.test k ≡ g.value → f.test k ≡ f.value) → f.value ≡ false → (rest : List Lexeme) → Next g rest → Next f rest
narrower f g h e [] n = sym e
narrower f g h e (t ∷ ts) n = h t.kind n

leads_narrower : {f g : Follow} → ((k : Kind) → g.test k ≡ g.value → f.test k ≡ f.value) → f.value ≡ false → Leads [] g f
leads_narrower {f} {g} h e = record { next = λ ts rest w n. subst (Next f) (sym w) (narrower f g h e rest n) }

-- ---- chains

-- What is written with the pieces is read as x, and reading goes on from there with q.
pub record Reaches {A : Type 0} (ps : List Piece) (read : Phrase A) (x : A) (f : Follow) (q : A → Phrase A) : Type 0 where
  pub reaches : (ts rest : List Lexeme) → Spelled ps ts rest → Next f rest → read ts ≡ (expected (sinks ps ts) x rest >>= λ z. q z.0 z.1)

never_reaches : {A : Type 0} (read : Phrase A) (x : A) (q : A → Phrase A) (ts rest : List Lexeme) → Spelled (never ∷ []) ts rest → read ts ≡ (expected (sinks (never ∷ []) ts) x rest >>= λ z. q z.0 z.1)
never_reaches read x q [] rest w = absurd w
never_reaches read x q (t ∷ ts) rest w = absurd w.0

guarded_reaches : {A : Type 0} {ps : List Piece} {read : Phrase A} {x : A} {f : Follow} {q : A → Phrase A} (b : Bool) → (b ≡ true → Reaches ps read x f q) → Reaches (guarded b ps) read x f q
guarded_reaches true r = r refl
guarded_reaches {A} {ps} {read} {x} {f} {q} false r = record { reaches = λ ts rest w n. never_reaches read x q ts rest w }

reaches_item : {A : Type 0} {ps : List Piece} {read : Phrase A} {x : A} {f : Follow} (q : A → Phrase A) → Complete ps read x f → Reaches ps (continued read q) x f q
reaches_item q c = record { reaches = λ ts rest w n. rw (c.reads ts rest w n) refl }

reaches_as : {A : Type 0} {ps qs : List Piece} {read : Phrase A} {x : A} {f : Follow} {q : A → Phrase A} → Reaches ps read x f q → qs ≡ ps → Reaches qs read x f q
reaches_as {A} {ps} {qs} {read} {x} {f} {q} r e = subst (λ (us : List Piece). Reaches us read x f q) (sym e) r

further : {A : Type 0} (q : A → Phrase A) (x y : A) (mid rest : List Lexeme) (o other : Option Spot) → q x mid ≡ (expected other y rest >>= λ z. q z.0 z.1) → (expected o x mid >>= λ z. q z.0 z.1) ≡ (expected (or_else o other) y rest >>= λ z. q z.0 z.1)
further q x y mid rest None other e = e
further q x y mid rest (Some spot) other e = refl

one_step : {A O : Type 0} (item : Phrase A) (q : A → Phrase A) (join : A → O → A → A) (x y : A) (o : O) (mid rest : List Lexeme) (a b : Option Spot) → item mid ≡ expected b y rest → (expected a o mid >>= λ z. continued item (λ v. q (join x z.0 v)) z.1) ≡ (expected (or_else a b) (join x o y) rest >>= λ z. q z.0 z.1)
one_step item q join x y o mid rest None None e = rw e refl
one_step item q join x y o mid rest None (Some spot) e = rw e refl
one_step item q join x y o mid rest (Some spot) b e = refl

-- one operator more, and its operand
pub reaches_more : {A O : Type 0} {read : Phrase A} {ps po py : List Piece} {x y : A} {o : O} {f : Follow} (goes : List Lexeme → Bool) (operator : Phrase O) (item : Phrase A) (join : A → O → A → A) → Advances operator → Plain item → Reaches ps read x f (chain goes operator item join) → Complete po operator o any → ((ts rest : List Lexeme) → Spelled po ts rest → goes ts ≡ true) → Leads po any f → Complete py item y f → Reaches (ps ++ (po ++ py)) read (join x o y) f (chain goes operator item join)
reaches_more {A} {O} {read} {ps} {po} {py} {x} {y} {o} {f} goes operator item join advances plain r c starts leads d = record {
  reaches = λ ts rest w n.
      let s = append_spelled ps (po ++ py) ts rest w in
      let u = append_spelled po py s.0 rest s.2 in
      let q : A → Phrase A = chain goes operator item join in
      let there : goes s.0 ≡ true = starts s.0 u.0 u.1 in
      let behind : q x s.0 ≡ (expected (or_else (sinks po s.0) (sinks py u.0)) (join x o y) rest >>= λ z. q z.0 z.1) =
      chain_unfold goes operator item join advances plain x s.0 ∙ rw (there, c.reads s.0 u.0 u.1 (any_next u.0)) (one_step item q join x y o u.0 rest (sinks po s.0) (sinks py u.0) (d.reads u.0 rest u.2 n)) in
      let sunk : sinks (ps ++ (po ++ py)) ts ≡ or_else (sinks ps ts) (or_else (sinks po s.0) (sinks py u.0)) = sinks_append ps (po ++ py) ts s.0 s.1 ∙ ap (or_else (sinks ps ts)) (sinks_append po py s.0 u.0 u.1) in
      r.reaches ts s.0 s.1 (leads.next s.0 u.0 u.1 (any_next u.0)) ∙ rw sunk (further q x (join x o y) s.0 rest (sinks ps ts) (or_else (sinks po s.0) (sinks py u.0)) behind);
}

stops_so : {A : Type 0} (q : A → Phrase A) (x : A) (rest : List Lexeme) (o : Option Spot) → q x rest ≡ Ok (x, rest) → (expected o x rest >>= λ z. q z.0 z.1) ≡ expected o x rest
stops_so q x rest None e = e
stops_so q x rest (Some spot) e = refl

-- no operator more
pub reaches_end : {A : Type 0} {read : Phrase A} {ps : List Piece} {x : A} {f g : Follow} {q : A → Phrase A} → Reaches ps read x f q → ((rest : List Lexeme) → Next g rest → q x rest ≡ Ok (x, rest)) → Leads [] g f → Complete ps read x g
reaches_end {A} {read} {ps} {x} {f} {g} {q} r ends leads = record {
  reads = λ ts rest w n. r.reaches ts rest w (leads.next rest rest refl n) ∙ stops_so q x rest (sinks ps ts) (ends rest n);
}

chain_ends : {A O : Type 0} (goes : List Lexeme → Bool) (operator : Phrase O) (item : Phrase A) (join : A → O → A → A) (x : A) (rest : List Lexeme) → goes rest ≡ false → chain goes operator item join x rest ≡ Ok (x, rest)
unfolding chain
chain_ends goes operator item join x rest e = rw e refl

-- ---- primaries and factors

-- What stands inside a level is read, and how its phrases look ahead.
pub record Inner (room : ℕ) (inside : Phrase ExpressionTree) (items : Phrase ItemsTree) : Type 0 where
  pub expression : (less : ℕ) → room ≡ suc less → (e : ExpressionTree) → Complete (expression_pieces less e) inside e (before (delimiter mark.RightParenthesis))
  pub listed : (less : ℕ) → room ≡ suc less → (xs : ItemsTree) → Complete (items_pieces less xs) items xs (before (delimiter mark.RightParenthesis))
  pub plain_factor : Plain (factor_in room inside items)
  pub plain_term : Plain (term_in room inside items)
  pub plain_relation : Plain (relation_in room inside items)

pub closing_complete : Complete (anywhere (delimiter mark.RightParenthesis) ∷ []) (after (delimiter mark.RightParenthesis) nothing) tt any
closing_complete = after_complete refl nothing_complete

pub one_less : (room less : ℕ) → room ≡ suc less → room - 1 ≡ less
one_less room less e = omega (arith, e)

-- items between parentheses
pub enclosed_items_complete : {inside : Phrase ExpressionTree} {items : Phrase ItemsTree} (room : ℕ) → Inner room inside items → (xs : ItemsTree) → Complete (opening room (delimiter mark.LeftParenthesis) ∷ (items_pieces (room - 1) xs ++ anywhere (delimiter mark.RightParenthesis) ∷ [])) (enclosed_items_in room items) xs any
unfolding enclosed_items_in
enclosed_items_complete {inside} {items} room inner xs = opened_complete room (delimiter mark.LeftParenthesis) refl
    (λ less e. rw (one_less room less e) (mapped_complete (λ (x : ItemsTree × Unit {0}). x.0) (both_complete (inner.listed less e xs) closing_complete (leads_first refl))))

narrow_complete : {A : Type 0} {ps : List Piece} {read : Phrase A} {x : A} → Complete ps read x (unless (delimiter mark.Dot)) → Complete ps read x (past primary)
narrow_complete {A} {ps} {read} {x} c = record { reads = λ ts rest w n. c.reads ts rest w (narrower (unless (delimiter mark.Dot)) (past primary) (λ k e. or_left (is_kind (delimiter mark.Dot) k) (is_kind (delimiter mark.Tick) k) e) refl rest n) }

selectors_lead : (ss : List SelectorTree) → Leads (flat_map selector_pieces ss) (past primary) (record { test = is_kind (delimiter mark.Tick); value = false })
selectors_lead [] = leads_narrower (λ k e. or_right (is_kind (delimiter mark.Dot) k) (is_kind (delimiter mark.Tick) k) e) refl
selectors_lead (component i ∷ ss) = leads_first refl
selectors_lead (dereference spot ∷ ss) = leads_first refl

led_by_path : (items : Phrase ItemsTree) (room : ℕ) (path : PathTree) → Complete (flat_map selector_pieces path.selectors) (primary_led room items path.root) (path_expression path) (past primary)
unfolding primary_led
led_by_path items room path = choose_false (mapped_complete path_expression (narrow_complete (path_complete path.root path.selectors))) (selectors_lead path.selectors)

-- an operator makes no primary and no factor, but `not`
unary_above : (operator : UnaryOperator) → unary_rank operator ≡ primary → ⊥
unary_above unary.Plus e = cc
unary_above unary.Minus e = cc
unary_above unary.Not e = cc

binary_above : (operator : BinaryOperator) → leb (number_of (binary_rank operator)) (number_of factor) ≡ true → ⊥
binary_above binary.And e = cc
binary_above binary.Or e = cc
binary_above binary.Xor e = cc
binary_above binary.AndThen e = cc
binary_above binary.OrElse e = cc
binary_above binary.Equal e = cc
binary_above binary.NotEqual e = cc
binary_above binary.Less e = cc
binary_above binary.LessOrEqual e = cc
binary_above binary.Greater e = cc
binary_above binary.GreaterOrEqual e = cc
binary_above binary.Add e = cc
binary_above binary.Subtract e = cc
binary_above binary.Multiply e = cc
binary_above binary.Divide e = cc
binary_above binary.Modulo e = cc
binary_above binary.Remainder e = cc

leads_opening : {ps : List Piece} {g f : Follow} (k : Kind) (room : ℕ) (spot : Spot) → f.test k ≡ f.value → Leads (opening_at room k spot ∷ ps) g f
leads_opening k zero spot e = leads_first e
leads_opening k (suc room) spot e = leads_first e

opened_then : {inside : Phrase ExpressionTree} {items : Phrase ItemsTree} (room : ℕ) (spot : Spot) → Inner room inside items → (e : ExpressionTree) → Complete (opening_at room (delimiter mark.LeftParenthesis) spot ∷ (expression_pieces (room - 1) e ++ anywhere (delimiter mark.RightParenthesis) ∷ [])) (mapped enclosed_from (both (opening_in room (delimiter mark.LeftParenthesis)) (both inside (after (delimiter mark.RightParenthesis) nothing)))) (enclosed_expression spot e) any
opened_then {inside} {items} room spot inner e = mapped_complete enclosed_from
    (opened_at_complete room (delimiter mark.LeftParenthesis) spot (λ s. mapped (λ y. (s, y)) (both inside (after (delimiter mark.RightParenthesis) nothing))) refl
    (λ less h. rw (one_less room less h) (mapped_complete (λ y. (spot, y)) (both_complete (inner.expression less h e) closing_complete (leads_first refl)))))

pub primary_complete : {inside : Phrase ExpressionTree} {items : Phrase ItemsTree} (room : ℕ) → Inner room inside items → (e : ExpressionTree) → rank_of e ≡ primary → Complete (expression_pieces room e) (primary_in room inside items) e (past primary)
unfolding primary_in primary_led
primary_complete room inner (number_expression spot n) r = choose_true (weaken (mapped_complete number_from_parts (number_complete n spot))) (leads_first refl)
primary_complete room inner (null_expression spot) r = choose_false (choose_true (weaken (mapped_complete null_expression (placed_complete spot refl))) (leads_first refl)) (leads_first refl)
primary_complete room inner (path_expression path) r = choose_false (choose_false (choose_false
    (continued_complete (primary_led room _) (identifier_complete path.root) (led_by_path _ room path) leads_any)
    (leads_first refl)) (leads_first refl)) (leads_first refl)
primary_complete room inner (aggregate_expression type_name items) r = choose_false (choose_false (choose_false
    (continued_complete (primary_led room _) (identifier_complete type_name)
    (choose_true (weaken (after_complete refl (mapped_complete (aggregate_expression type_name) (enclosed_items_complete room inner items)))) (leads_first refl)) leads_any)
    (leads_first refl)) (leads_first refl)) (leads_first refl)
primary_complete room inner (enclosed_expression spot e) r = choose_false (choose_false (choose_true
    (weaken (opened_then room spot inner e))
    (leads_opening (delimiter mark.LeftParenthesis) room spot refl)) (leads_opening (delimiter mark.LeftParenthesis) room spot refl)) (leads_opening (delimiter mark.LeftParenthesis) room spot refl)
primary_complete room inner (unary_expression operator spot e) r = absurd (unary_above operator r)
primary_complete room inner (binary_expression operator left right) r = absurd (binary_above operator (rw r refl))

primary_of : (rank : Rank) → leb (number_of rank) (number_of primary) ≡ true → rank ≡ primary
primary_of primary e = refl
primary_of factor e = absurd cc
primary_of term e = absurd cc
primary_of sum e = absurd cc
primary_of relation e = absurd cc
primary_of logical e = absurd cc

pub factor_complete : {inside : Phrase ExpressionTree} {items : Phrase ItemsTree} (room : ℕ) → Inner room inside items → (e : ExpressionTree) → is_at_most factor e ≡ true → Complete (expression_pieces room e) (factor_in room inside items) e (past factor)
unfolding factor_in
factor_complete room inner (number_expression spot n) h = choose_false (primary_complete room inner (number_expression spot n) refl) (leads_first refl)
factor_complete room inner (null_expression spot) h = choose_false (primary_complete room inner (null_expression spot) refl) (leads_first refl)
factor_complete room inner (path_expression path) h = choose_false (primary_complete room inner (path_expression path) refl) (leads_first refl)
factor_complete room inner (aggregate_expression type_name items) h = choose_false (primary_complete room inner (aggregate_expression type_name items) refl) (leads_first refl)
factor_complete room inner (enclosed_expression spot e) h = choose_false (primary_complete room inner (enclosed_expression spot e) refl) (leads_opening (delimiter mark.LeftParenthesis) room spot refl)
factor_complete room inner (unary_expression unary.Not spot e) h = guarded_complete (is_at_most primary e) (λ g.
    choose_true (mapped_complete not_from (both_complete (placed_complete spot refl) (primary_complete room inner e (primary_of (rank_of e) g)) leads_any)) (leads_first refl))
factor_complete room inner (unary_expression unary.Plus spot e) h = absurd cc
factor_complete room inner (unary_expression unary.Minus spot e) h = absurd cc
factor_complete room inner (binary_expression operator left right) h = absurd (binary_above operator h)

-- ---- operators

both_true : (a b : Bool) → a && b ≡ true → (a ≡ true) × (b ≡ true)
both_true true b e = (refl, e)
both_true false b e = absurd cc

or_none : (a : Bool) → a || false ≡ true → a ≡ true
or_none true e = refl
or_none false e = absurd cc

never_repeats : (operator : BinaryOperator) (left : ExpressionTree) → eqb (number_of (binary_rank operator)) (number_of logical) ≡ false → repeats operator left ≡ false
never_repeats operator (binary_expression other l r) e = rw e refl
never_repeats operator (number_expression spot n) e = refl
never_repeats operator (null_expression spot) e = refl
never_repeats operator (path_expression path) e = refl
never_repeats operator (aggregate_expression t items) e = refl
never_repeats operator (enclosed_expression spot x) e = refl
never_repeats operator (unary_expression o spot x) e = refl

-- operands of an operator that is no logical one
operands_of : (operator : BinaryOperator) (left right : ExpressionTree) → eqb (number_of (binary_rank operator)) (number_of logical) ≡ false → joins operator left right ≡ true → (is_at_most (left_rank (binary_rank operator)) left ≡ true) × (is_at_most (right_rank (binary_rank operator)) right ≡ true)
operands_of operator left right e j =
    let b = both_true (is_at_most (left_rank (binary_rank operator)) left || repeats operator left) (is_at_most (right_rank (binary_rank operator)) right) j in
    (or_none (is_at_most (left_rank (binary_rank operator)) left) (subst (λ c. is_at_most (left_rank (binary_rank operator)) left || c ≡ true) (never_repeats operator left e) b.0), b.1)

-- an operator of one word
word_reads : (k : Kind) (operator : BinaryOperator) (ts rest : List Lexeme) → is_kind k k ≡ true → Spelled (anywhere k ∷ []) ts rest → operator_at k operator ts ≡ expected (sinks (anywhere k ∷ []) ts) operator rest
unfolding fixed
word_reads k operator [] rest e w = absurd w
word_reads k operator (t ∷ ts) rest e w = let g : is_kind k t.kind ≡ true = ap (is_kind k) w.0 ∙ e in rw g (ap (λ (us : List Lexeme). Ok (operator, us)) w.1)

word_complete : (k : Kind) (operator : BinaryOperator) → is_kind k k ≡ true → Complete (anywhere k ∷ []) (operator_at k operator) operator any
word_complete k operator e = record { reads = λ ts rest w n. word_reads k operator ts rest e w }

multiplying_complete : (operator : BinaryOperator) → binary_rank operator ≡ term → Complete (binary_pieces operator) multiplying_at operator any
unfolding multiplying_at
multiplying_complete binary.And e = absurd cc
multiplying_complete binary.Or e = absurd cc
multiplying_complete binary.Xor e = absurd cc
multiplying_complete binary.AndThen e = absurd cc
multiplying_complete binary.OrElse e = absurd cc
multiplying_complete binary.Equal e = absurd cc
multiplying_complete binary.NotEqual e = absurd cc
multiplying_complete binary.Less e = absurd cc
multiplying_complete binary.LessOrEqual e = absurd cc
multiplying_complete binary.Greater e = absurd cc
multiplying_complete binary.GreaterOrEqual e = absurd cc
multiplying_complete binary.Add e = absurd cc
multiplying_complete binary.Subtract e = absurd cc
multiplying_complete binary.Multiply e = choose_true (word_complete (delimiter mark.Star) binary.Multiply refl) (leads_first refl)
multiplying_complete binary.Divide e = choose_false (choose_true (word_complete (delimiter mark.Slash) binary.Divide refl) (leads_first refl)) (leads_first refl)
multiplying_complete binary.Modulo e = choose_false (choose_false (choose_true (word_complete (reserved word.Mod) binary.Modulo refl) (leads_first refl)) (leads_first refl)) (leads_first refl)
multiplying_complete binary.Remainder e = choose_false (choose_false (choose_false (word_complete (reserved word.Rem) binary.Remainder refl) (leads_first refl)) (leads_first refl)) (leads_first refl)

multiplying_starts : {g : Follow} (operator : BinaryOperator) → binary_rank operator ≡ term → Leads (binary_pieces operator) g (record { test = is_multiplying; value = true })
multiplying_starts binary.And e = absurd cc
multiplying_starts binary.Or e = absurd cc
multiplying_starts binary.Xor e = absurd cc
multiplying_starts binary.AndThen e = absurd cc
multiplying_starts binary.OrElse e = absurd cc
multiplying_starts binary.Equal e = absurd cc
multiplying_starts binary.NotEqual e = absurd cc
multiplying_starts binary.Less e = absurd cc
multiplying_starts binary.LessOrEqual e = absurd cc
multiplying_starts binary.Greater e = absurd cc
multiplying_starts binary.GreaterOrEqual e = absurd cc
multiplying_starts binary.Add e = absurd cc
multiplying_starts binary.Subtract e = absurd cc
multiplying_starts binary.Multiply e = leads_first refl
multiplying_starts binary.Divide e = leads_first refl
multiplying_starts binary.Modulo e = leads_first refl
multiplying_starts binary.Remainder e = leads_first refl

adding_complete : (operator : BinaryOperator) → binary_rank operator ≡ sum → Complete (binary_pieces operator) adding_at operator any
unfolding adding_at
adding_complete binary.And e = absurd cc
adding_complete binary.Or e = absurd cc
adding_complete binary.Xor e = absurd cc
adding_complete binary.AndThen e = absurd cc
adding_complete binary.OrElse e = absurd cc
adding_complete binary.Equal e = absurd cc
adding_complete binary.NotEqual e = absurd cc
adding_complete binary.Less e = absurd cc
adding_complete binary.LessOrEqual e = absurd cc
adding_complete binary.Greater e = absurd cc
adding_complete binary.GreaterOrEqual e = absurd cc
adding_complete binary.Add e = choose_true (word_complete (delimiter mark.Plus) binary.Add refl) (leads_first refl)
adding_complete binary.Subtract e = choose_false (word_complete (delimiter mark.Minus) binary.Subtract refl) (leads_first refl)
adding_complete binary.Multiply e = absurd cc
adding_complete binary.Divide e = absurd cc
adding_complete binary.Modulo e = absurd cc
adding_complete binary.Remainder e = absurd cc

adding_starts : {g : Follow} (operator : BinaryOperator) → binary_rank operator ≡ sum → Leads (binary_pieces operator) g (record { test = is_adding; value = true })
adding_starts binary.And e = absurd cc
adding_starts binary.Or e = absurd cc
adding_starts binary.Xor e = absurd cc
adding_starts binary.AndThen e = absurd cc
adding_starts binary.OrElse e = absurd cc
adding_starts binary.Equal e = absurd cc
adding_starts binary.NotEqual e = absurd cc
adding_starts binary.Less e = absurd cc
adding_starts binary.LessOrEqual e = absurd cc
adding_starts binary.Greater e = absurd cc
adding_starts binary.GreaterOrEqual e = absurd cc
adding_starts binary.Add e = leads_first refl
adding_starts binary.Subtract e = leads_first refl
adding_starts binary.Multiply e = absurd cc
adding_starts binary.Divide e = absurd cc
adding_starts binary.Modulo e = absurd cc
adding_starts binary.Remainder e = absurd cc

comparing_complete : (operator : BinaryOperator) → binary_rank operator ≡ relation → Complete (binary_pieces operator) comparing_at operator any
unfolding comparing_at
comparing_complete binary.And e = absurd cc
comparing_complete binary.Or e = absurd cc
comparing_complete binary.Xor e = absurd cc
comparing_complete binary.AndThen e = absurd cc
comparing_complete binary.OrElse e = absurd cc
comparing_complete binary.Equal e = choose_true (word_complete (delimiter mark.Equal) binary.Equal refl) (leads_first refl)
comparing_complete binary.NotEqual e = choose_false (choose_true (word_complete (delimiter mark.NotEqual) binary.NotEqual refl) (leads_first refl)) (leads_first refl)
comparing_complete binary.Less e = choose_false (choose_false (choose_true (word_complete (delimiter mark.Less) binary.Less refl) (leads_first refl)) (leads_first refl)) (leads_first refl)
comparing_complete binary.LessOrEqual e = choose_false (choose_false (choose_false (choose_true (word_complete (delimiter mark.LessEqual) binary.LessOrEqual refl) (leads_first refl)) (leads_first refl)) (leads_first refl)) (leads_first refl)
comparing_complete binary.Greater e = choose_false (choose_false (choose_false (choose_false (choose_true (word_complete (delimiter mark.Greater) binary.Greater refl) (leads_first refl)) (leads_first refl)) (leads_first refl)) (leads_first refl)) (leads_first refl)
comparing_complete binary.GreaterOrEqual e = choose_false (choose_false (choose_false (choose_false (choose_false (word_complete (delimiter mark.GreaterEqual) binary.GreaterOrEqual refl) (leads_first refl)) (leads_first refl)) (leads_first refl)) (leads_first refl)) (leads_first refl)
comparing_complete binary.Add e = absurd cc
comparing_complete binary.Subtract e = absurd cc
comparing_complete binary.Multiply e = absurd cc
comparing_complete binary.Divide e = absurd cc
comparing_complete binary.Modulo e = absurd cc
comparing_complete binary.Remainder e = absurd cc

comparing_starts : {g : Follow} (operator : BinaryOperator) → binary_rank operator ≡ relation → Leads (binary_pieces operator) g (record { test = is_comparing; value = true })
comparing_starts binary.And e = absurd cc
comparing_starts binary.Or e = absurd cc
comparing_starts binary.Xor e = absurd cc
comparing_starts binary.AndThen e = absurd cc
comparing_starts binary.OrElse e = absurd cc
comparing_starts binary.Equal e = leads_first refl
comparing_starts binary.NotEqual e = leads_first refl
comparing_starts binary.Less e = leads_first refl
comparing_starts binary.LessOrEqual e = leads_first refl
comparing_starts binary.Greater e = leads_first refl
comparing_starts binary.GreaterOrEqual e = leads_first refl
comparing_starts binary.Add e = absurd cc
comparing_starts binary.Subtract e = absurd cc
comparing_starts binary.Multiply e = absurd cc
comparing_starts binary.Divide e = absurd cc
comparing_starts binary.Modulo e = absurd cc
comparing_starts binary.Remainder e = absurd cc

multiplying_is : (ts : List Lexeme) → at_multiplying ts ≡ is_at is_multiplying ts
multiplying_is [] = refl
multiplying_is (t ∷ ts) = refl

adding_is : (ts : List Lexeme) → at_adding ts ≡ is_at is_adding ts
adding_is [] = refl
adding_is (t ∷ ts) = refl

comparing_is : (ts : List Lexeme) → at_comparing ts ≡ is_at is_comparing ts
comparing_is [] = refl
comparing_is (t ∷ ts) = refl

-- an operator takes a token
fixed_advances : (k : Kind) → Advances (fixed k)
unfolding fixed
fixed_advances k [] x rest e = absurd cc
fixed_advances k (t ∷ ts) x rest e =
    elim (chosen (is_kind k t.kind) (Ok (spot_of t, ts)) (Err (here (t ∷ ts))) (Ok (x, rest)) e) [
      | inl h ↦ subst (λ (z : Spot × List Lexeme). length z.1 < suc (length ts)) (ok_is (spot_of t, ts) (x, rest) h.1) (lt-suc_self (length ts))
      | inr h ↦ absurd (let d : ⊥ = (let q = h.1 in cc) in d)
    ]

mapped_advances : {A B : Type 0} (f : A → B) (p : Phrase A) → Advances p → Advances (mapped f p)
mapped_advances {A} {B} f p advances ts y rest e =
    let a = bind_ok (p ts) (λ x. Ok (f x.0, x.1)) (y, rest) e in
    subst (λ (z : B × List Lexeme). length z.1 < length ts) (ok_is (f a.0.0, a.0.1) (y, rest) a.2) (advances ts a.0.0 a.0.1 a.1)

choose_advances : {A : Type 0} (test : List Lexeme → Bool) (p q : Phrase A) → Advances p → Advances q → Advances (choose test p q)
choose_advances test p q f g ts x rest e =
    elim (chosen (test ts) (p ts) (q ts) (Ok (x, rest)) e) [
      | inl h ↦ f ts x rest h.1
      | inr h ↦ g ts x rest h.1
    ]

after_advances : {A : Type 0} {p : Phrase A} (k : Kind) → Advances p → Advances (after k p)
after_advances {A} {p} k advances ts x rest e =
    let a = bind_ok (fixed k ts) (λ y. p y.1) (x, rest) e in
    let less : length a.0.1 < length ts = fixed_advances k ts a.0.0 a.0.1 a.1 in
    let more : length rest < length a.0.1 = advances a.0.1 x rest a.2 in
    omega arith

word_advances : (k : Kind) (operator : BinaryOperator) → Advances (operator_at k operator)
word_advances k operator = mapped_advances (λ _. operator) (fixed k) (fixed_advances k)

pub multiplying_advances : Advances multiplying_at
unfolding multiplying_at
multiplying_advances = choose_advances _ _ _ (word_advances (delimiter mark.Star) binary.Multiply) (choose_advances _ _ _ (word_advances (delimiter mark.Slash) binary.Divide)
    (choose_advances _ _ _ (word_advances (reserved word.Mod) binary.Modulo) (word_advances (reserved word.Rem) binary.Remainder)))

pub adding_advances : Advances adding_at
unfolding adding_at
adding_advances = choose_advances _ _ _ (word_advances (delimiter mark.Plus) binary.Add) (word_advances (delimiter mark.Minus) binary.Subtract)

-- ---- terms

-- an operator that makes no more than a term makes a term
term_rank : (operator : BinaryOperator) → leb (number_of (binary_rank operator)) (number_of term) ≡ true → binary_rank operator ≡ term
term_rank binary.And e = absurd cc
term_rank binary.Or e = absurd cc
term_rank binary.Xor e = absurd cc
term_rank binary.AndThen e = absurd cc
term_rank binary.OrElse e = absurd cc
term_rank binary.Equal e = absurd cc
term_rank binary.NotEqual e = absurd cc
term_rank binary.Less e = absurd cc
term_rank binary.LessOrEqual e = absurd cc
term_rank binary.Greater e = absurd cc
term_rank binary.GreaterOrEqual e = absurd cc
term_rank binary.Add e = absurd cc
term_rank binary.Subtract e = absurd cc
term_rank binary.Multiply e = refl
term_rank binary.Divide e = refl
term_rank binary.Modulo e = refl
term_rank binary.Remainder e = refl

multiplying_lead : {g : Follow} (operator : BinaryOperator) → binary_rank operator ≡ term → Leads (binary_pieces operator) g (past factor)
multiplying_lead binary.And e = absurd cc
multiplying_lead binary.Or e = absurd cc
multiplying_lead binary.Xor e = absurd cc
multiplying_lead binary.AndThen e = absurd cc
multiplying_lead binary.OrElse e = absurd cc
multiplying_lead binary.Equal e = absurd cc
multiplying_lead binary.NotEqual e = absurd cc
multiplying_lead binary.Less e = absurd cc
multiplying_lead binary.LessOrEqual e = absurd cc
multiplying_lead binary.Greater e = absurd cc
multiplying_lead binary.GreaterOrEqual e = absurd cc
multiplying_lead binary.Add e = absurd cc
multiplying_lead binary.Subtract e = absurd cc
multiplying_lead binary.Multiply e = leads_first refl
multiplying_lead binary.Divide e = leads_first refl
multiplying_lead binary.Modulo e = leads_first refl
multiplying_lead binary.Remainder e = leads_first refl

multiplying_goes : (operator : BinaryOperator) → binary_rank operator ≡ term → (ts rest : List Lexeme) → Spelled (binary_pieces operator) ts rest → at_multiplying ts ≡ true
multiplying_goes operator e ts rest w = multiplying_is ts ∙ (multiplying_starts {g = any} operator e).next ts rest w (any_next rest)

term_reaches : {inside : Phrase ExpressionTree} {items : Phrase ItemsTree} (room : ℕ) → Inner room inside items → (e : ExpressionTree) → is_at_most term e ≡ true → Reaches (expression_pieces room e) (continued (factor_in room inside items) (chain at_multiplying multiplying_at (factor_in room inside items) beside)) e (past factor) (chain at_multiplying multiplying_at (factor_in room inside items) beside)
term_reaches room inner (number_expression spot n) h = reaches_item _ (factor_complete room inner (number_expression spot n) refl)
term_reaches room inner (null_expression spot) h = reaches_item _ (factor_complete room inner (null_expression spot) refl)
term_reaches room inner (path_expression path) h = reaches_item _ (factor_complete room inner (path_expression path) refl)
term_reaches room inner (aggregate_expression type_name items) h = reaches_item _ (factor_complete room inner (aggregate_expression type_name items) refl)
term_reaches room inner (enclosed_expression spot e) h = reaches_item _ (factor_complete room inner (enclosed_expression spot e) refl)
term_reaches room inner (unary_expression unary.Not spot e) h = reaches_item _ (factor_complete room inner (unary_expression unary.Not spot e) refl)
term_reaches room inner (unary_expression unary.Plus spot e) h = absurd cc
term_reaches room inner (unary_expression unary.Minus spot e) h = absurd cc
term_reaches room inner (binary_expression operator left right) h =
    let r : binary_rank operator ≡ term = term_rank operator h in
    guarded_reaches (joins operator left right) (λ g.
    let o = operands_of operator left right (rw r refl) g in
    reaches_as (reaches_more at_multiplying multiplying_at _ beside multiplying_advances inner.plain_factor
    (term_reaches room inner left (subst (λ k. is_at_most (left_rank k) left ≡ true) r o.0)) (multiplying_complete operator r) (multiplying_goes operator r)
    (multiplying_lead operator r) (factor_complete room inner right (subst (λ k. is_at_most (right_rank k) right ≡ true) r o.1)))
    (append_assoc (expression_pieces room left) (binary_pieces operator) (expression_pieces room right)))

term_stops : (inside : Phrase ExpressionTree) (items : Phrase ItemsTree) (room : ℕ) (e : ExpressionTree) (rest : List Lexeme) → Next (past term) rest → chain at_multiplying multiplying_at (factor_in room inside items) beside e rest ≡ Ok (e, rest)
term_stops inside items room e rest n = chain_ends at_multiplying multiplying_at _ beside e rest (multiplying_is rest ∙ narrower (record { test = is_multiplying; value = false }) (past term) (λ k. or_left (is_multiplying k) (goes_on k)) refl rest n)

pub term_complete : {inside : Phrase ExpressionTree} {items : Phrase ItemsTree} (room : ℕ) → Inner room inside items → (e : ExpressionTree) → is_at_most term e ≡ true → Complete (expression_pieces room e) (term_in room inside items) e (past term)
unfolding term_in term_from
term_complete {inside} {items} room inner e h = reaches_end (term_reaches room inner e h) (term_stops inside items room e) (leads_narrower (λ k. or_right (is_multiplying k) (goes_on k)) refl)

-- ---- sums

choose_by_true : {A : Type 0} {ps : List Piece} {x : A} {f : Follow} (test : List Lexeme → Bool) (p q : Phrase A) → Complete ps p x f → ((ts rest : List Lexeme) → Spelled ps ts rest → Next f rest → test ts ≡ true) → Complete ps (choose test p q) x f
choose_by_true test p q c l = record { reads = λ ts rest w n. rw (l ts rest w n) (c.reads ts rest w n) }

choose_by_false : {A : Type 0} {ps : List Piece} {x : A} {f : Follow} (test : List Lexeme → Bool) (p q : Phrase A) → Complete ps q x f → ((ts rest : List Lexeme) → Spelled ps ts rest → Next f rest → test ts ≡ false) → Complete ps (choose test p q) x f
choose_by_false test p q c l = record { reads = λ ts rest w n. rw (l ts rest w n) (c.reads ts rest w n) }

-- what is no sign may stand where a term begins
guarded_leads : {ps : List Piece} {g f : Follow} (b : Bool) → (b ≡ true → Leads ps g f) → Leads (guarded b ps) g f
guarded_leads true l = l refl
guarded_leads false l = leads_first tt

-- The tests that no term's first token passes.
pub record Unopened (f : Follow) : Type 0 where
  pub by_number : (n : ℕ) → f.test (number n) ≡ f.value
  pub by_null : f.test (reserved word.Null) ≡ f.value
  pub by_name : (text : List ℕ) → f.test (identifier text) ≡ f.value
  pub by_parenthesis : f.test (delimiter mark.LeftParenthesis) ≡ f.value
  pub by_not : f.test (reserved word.Not) ≡ f.value

term_leads : {f : Follow} (room : ℕ) → Unopened f → (e : ExpressionTree) → is_at_most term e ≡ true → {g : Follow} → Leads (expression_pieces room e) g f
term_leads room u (number_expression spot n) h = leads_first (u.by_number n)
term_leads room u (null_expression spot) h = leads_first u.by_null
term_leads room u (path_expression path) h = leads_first (u.by_name path.root.text)
term_leads room u (aggregate_expression type_name items) h = leads_first (u.by_name type_name.text)
term_leads room u (enclosed_expression spot e) h = leads_opening (delimiter mark.LeftParenthesis) room spot u.by_parenthesis
term_leads room u (unary_expression unary.Not spot e) h = guarded_leads (is_at_most primary e) (λ g. leads_first u.by_not)
term_leads room u (unary_expression unary.Plus spot e) h = absurd cc
term_leads room u (unary_expression unary.Minus spot e) h = absurd cc
term_leads room u (binary_expression operator left right) h =
    let r : binary_rank operator ≡ term = term_rank operator h in
    guarded_leads (joins operator left right) (λ g.
    let o = operands_of operator left right (rw r refl) g in
    leads_front (expression_pieces room right) (leads_front (binary_pieces operator) (term_leads room u left (subst (λ k. is_at_most (left_rank k) left ≡ true) r o.0))))

no_sign : Unopened (record { test = is_adding; value = false })
no_sign = record { by_number = λ n. refl; by_null = refl; by_name = λ t. refl; by_parenthesis = refl; by_not = refl }

sign_complete : (operator : UnaryOperator) (spot : Spot) → unary_rank operator ≡ sum → Complete (placed (unary_kind operator) spot ∷ []) sign_at (operator, spot) any
unfolding sign_at
sign_complete unary.Plus spot e = choose_true (mapped_complete (λ s. (unary.Plus, s)) (placed_complete spot refl)) (leads_first refl)
sign_complete unary.Minus spot e = choose_false (mapped_complete (λ s. (unary.Minus, s)) (placed_complete spot refl)) (leads_first refl)
sign_complete unary.Not spot e = absurd cc

sign_starts : {ps : List Piece} {g : Follow} (operator : UnaryOperator) (spot : Spot) → unary_rank operator ≡ sum → Leads (placed (unary_kind operator) spot ∷ ps) g (record { test = is_adding; value = true })
sign_starts unary.Plus spot e = leads_first refl
sign_starts unary.Minus spot e = leads_first refl
sign_starts unary.Not spot e = absurd cc

signed_complete : {inside : Phrase ExpressionTree} {items : Phrase ItemsTree} (room : ℕ) → Inner room inside items → (operator : UnaryOperator) (spot : Spot) (e : ExpressionTree) → unary_rank operator ≡ sum → operand_rank operator ≡ term → Complete (expression_pieces room (unary_expression operator spot e)) (first_term_in room inside items) (unary_expression operator spot e) (past term)
unfolding first_term_in
signed_complete room inner operator spot e r o = guarded_complete (is_at_most (operand_rank operator) e) (λ g.
    choose_by_true at_adding _ _ (mapped_complete signed_from (both_complete (sign_complete operator spot r)
    (term_complete room inner e (subst (λ k. is_at_most k e ≡ true) o g)) leads_any))
    (λ ts rest w n. adding_is ts ∙ (sign_starts {g = past term} operator spot r).next ts rest w n))

unsigned_complete : {inside : Phrase ExpressionTree} {items : Phrase ItemsTree} (room : ℕ) → Inner room inside items → (e : ExpressionTree) → is_at_most term e ≡ true → Complete (expression_pieces room e) (first_term_in room inside items) e (past term)
unfolding first_term_in
unsigned_complete room inner e h = choose_by_false at_adding _ _ (term_complete room inner e h) (λ ts rest w n. adding_is ts ∙ (term_leads room no_sign e h {g = past term}).next ts rest w n)

sum_or_less : (operator : BinaryOperator) → leb (number_of (binary_rank operator)) (number_of sum) ≡ true → leb (number_of (binary_rank operator)) (number_of term) ≡ false → binary_rank operator ≡ sum
sum_or_less binary.And e f = absurd cc
sum_or_less binary.Or e f = absurd cc
sum_or_less binary.Xor e f = absurd cc
sum_or_less binary.AndThen e f = absurd cc
sum_or_less binary.OrElse e f = absurd cc
sum_or_less binary.Equal e f = absurd cc
sum_or_less binary.NotEqual e f = absurd cc
sum_or_less binary.Less e f = absurd cc
sum_or_less binary.LessOrEqual e f = absurd cc
sum_or_less binary.Greater e f = absurd cc
sum_or_less binary.GreaterOrEqual e f = absurd cc
sum_or_less binary.Add e f = refl
sum_or_less binary.Subtract e f = refl
sum_or_less binary.Multiply e f = absurd cc
sum_or_less binary.Divide e f = absurd cc
sum_or_less binary.Modulo e f = absurd cc
sum_or_less binary.Remainder e f = absurd cc

adding_lead : {g : Follow} (operator : BinaryOperator) → binary_rank operator ≡ sum → Leads (binary_pieces operator) g (past term)
adding_lead binary.And e = absurd cc
adding_lead binary.Or e = absurd cc
adding_lead binary.Xor e = absurd cc
adding_lead binary.AndThen e = absurd cc
adding_lead binary.OrElse e = absurd cc
adding_lead binary.Equal e = absurd cc
adding_lead binary.NotEqual e = absurd cc
adding_lead binary.Less e = absurd cc
adding_lead binary.LessOrEqual e = absurd cc
adding_lead binary.Greater e = absurd cc
adding_lead binary.GreaterOrEqual e = absurd cc
adding_lead binary.Add e = leads_first refl
adding_lead binary.Subtract e = leads_first refl
adding_lead binary.Multiply e = absurd cc
adding_lead binary.Divide e = absurd cc
adding_lead binary.Modulo e = absurd cc
adding_lead binary.Remainder e = absurd cc

adding_goes : (operator : BinaryOperator) → binary_rank operator ≡ sum → (ts rest : List Lexeme) → Spelled (binary_pieces operator) ts rest → at_adding ts ≡ true
adding_goes operator e ts rest w = adding_is ts ∙ (adding_starts {g = any} operator e).next ts rest w (any_next rest)

sum_reaches_by : {inside : Phrase ExpressionTree} {items : Phrase ItemsTree} (room : ℕ) → Inner room inside items → (operator : BinaryOperator) (left right : ExpressionTree) (b : Bool) → leb (number_of (binary_rank operator)) (number_of term) ≡ b → leb (number_of (binary_rank operator)) (number_of sum) ≡ true →
    (is_at_most sum left ≡ true → Reaches (expression_pieces room left) (continued (first_term_in room inside items) (chain at_adding adding_at (term_in room inside items) beside)) left (past term) (chain at_adding adding_at (term_in room inside items) beside)) →
    Reaches (expression_pieces room (binary_expression operator left right)) (continued (first_term_in room inside items) (chain at_adding adding_at (term_in room inside items) beside)) (binary_expression operator left right) (past term) (chain at_adding adding_at (term_in room inside items) beside)
sum_reaches_by room inner operator left right true b h before_it = reaches_item _ (unsigned_complete room inner (binary_expression operator left right) b)
sum_reaches_by room inner operator left right false b h before_it =
    let r : binary_rank operator ≡ sum = sum_or_less operator h b in
    guarded_reaches (joins operator left right) (λ g.
    let o = operands_of operator left right (rw r refl) g in
    reaches_as (reaches_more at_adding adding_at _ beside adding_advances inner.plain_term
    (before_it (subst (λ k. is_at_most (left_rank k) left ≡ true) r o.0)) (adding_complete operator r) (adding_goes operator r)
    (adding_lead operator r) (term_complete room inner right (subst (λ k. is_at_most (right_rank k) right ≡ true) r o.1)))
    (append_assoc (expression_pieces room left) (binary_pieces operator) (expression_pieces room right)))

sum_reaches : {inside : Phrase ExpressionTree} {items : Phrase ItemsTree} (room : ℕ) → Inner room inside items → (e : ExpressionTree) → is_at_most sum e ≡ true → Reaches (expression_pieces room e) (continued (first_term_in room inside items) (chain at_adding adding_at (term_in room inside items) beside)) e (past term) (chain at_adding adding_at (term_in room inside items) beside)
sum_reaches room inner (number_expression spot n) h = reaches_item _ (unsigned_complete room inner (number_expression spot n) refl)
sum_reaches room inner (null_expression spot) h = reaches_item _ (unsigned_complete room inner (null_expression spot) refl)
sum_reaches room inner (path_expression path) h = reaches_item _ (unsigned_complete room inner (path_expression path) refl)
sum_reaches room inner (aggregate_expression type_name items) h = reaches_item _ (unsigned_complete room inner (aggregate_expression type_name items) refl)
sum_reaches room inner (enclosed_expression spot e) h = reaches_item _ (unsigned_complete room inner (enclosed_expression spot e) refl)
sum_reaches room inner (unary_expression unary.Not spot e) h = reaches_item _ (unsigned_complete room inner (unary_expression unary.Not spot e) refl)
sum_reaches room inner (unary_expression unary.Plus spot e) h = reaches_item _ (signed_complete room inner unary.Plus spot e refl refl)
sum_reaches room inner (unary_expression unary.Minus spot e) h = reaches_item _ (signed_complete room inner unary.Minus spot e refl refl)
sum_reaches room inner (binary_expression operator left right) h =
    sum_reaches_by room inner operator left right (leb (number_of (binary_rank operator)) (number_of term)) refl h (sum_reaches room inner left)

sum_stops : (inside : Phrase ExpressionTree) (items : Phrase ItemsTree) (room : ℕ) (e : ExpressionTree) (rest : List Lexeme) → Next (past sum) rest → chain at_adding adding_at (term_in room inside items) beside e rest ≡ Ok (e, rest)
sum_stops inside items room e rest n = chain_ends at_adding adding_at _ beside e rest (adding_is rest ∙ narrower (record { test = is_adding; value = false }) (past sum) (λ k. or_left (is_adding k) (is_multiplying k || goes_on k)) refl rest n)

pub sum_complete : {inside : Phrase ExpressionTree} {items : Phrase ItemsTree} (room : ℕ) → Inner room inside items → (e : ExpressionTree) → is_at_most sum e ≡ true → Complete (expression_pieces room e) (sum_in room inside items) e (past sum)
unfolding sum_in sum_from
sum_complete {inside} {items} room inner e h = reaches_end (sum_reaches room inner e h) (sum_stops inside items room e) (leads_narrower (λ k. or_right (is_adding k) (is_multiplying k || goes_on k)) refl)

-- ---- relations

relation_or_less : (operator : BinaryOperator) → leb (number_of (binary_rank operator)) (number_of relation) ≡ true → leb (number_of (binary_rank operator)) (number_of sum) ≡ false → binary_rank operator ≡ relation
relation_or_less binary.And e f = absurd cc
relation_or_less binary.Or e f = absurd cc
relation_or_less binary.Xor e f = absurd cc
relation_or_less binary.AndThen e f = absurd cc
relation_or_less binary.OrElse e f = absurd cc
relation_or_less binary.Equal e f = refl
relation_or_less binary.NotEqual e f = refl
relation_or_less binary.Less e f = refl
relation_or_less binary.LessOrEqual e f = refl
relation_or_less binary.Greater e f = refl
relation_or_less binary.GreaterOrEqual e f = refl
relation_or_less binary.Add e f = absurd cc
relation_or_less binary.Subtract e f = absurd cc
relation_or_less binary.Multiply e f = absurd cc
relation_or_less binary.Divide e f = absurd cc
relation_or_less binary.Modulo e f = absurd cc
relation_or_less binary.Remainder e f = absurd cc

comparing_lead : {g : Follow} (operator : BinaryOperator) → binary_rank operator ≡ relation → Leads (binary_pieces operator) g (past sum)
comparing_lead binary.And e = absurd cc
comparing_lead binary.Or e = absurd cc
comparing_lead binary.Xor e = absurd cc
comparing_lead binary.AndThen e = absurd cc
comparing_lead binary.OrElse e = absurd cc
comparing_lead binary.Equal e = leads_first refl
comparing_lead binary.NotEqual e = leads_first refl
comparing_lead binary.Less e = leads_first refl
comparing_lead binary.LessOrEqual e = leads_first refl
comparing_lead binary.Greater e = leads_first refl
comparing_lead binary.GreaterOrEqual e = leads_first refl
comparing_lead binary.Add e = absurd cc
comparing_lead binary.Subtract e = absurd cc
comparing_lead binary.Multiply e = absurd cc
comparing_lead binary.Divide e = absurd cc
comparing_lead binary.Modulo e = absurd cc
comparing_lead binary.Remainder e = absurd cc

-- a sum alone is a relation
alone_complete : {inside : Phrase ExpressionTree} {items : Phrase ItemsTree} (room : ℕ) → Inner room inside items → (e : ExpressionTree) → is_at_most sum e ≡ true → Complete (expression_pieces room e) (relation_in room inside items) e (past relation)
unfolding relation_in relation_from
alone_complete room inner e h = complete_as (continued_complete _ (sum_complete room inner e h)
    (choose_by_false at_comparing _ _ (weaken (mapped_complete (λ _. e) nothing_complete)) (λ ts rest w n. comparing_is ts ∙ narrower (record { test = is_comparing; value = false }) (past relation) (λ k. or_left (is_comparing k) (is_adding k || (is_multiplying k || goes_on k))) refl ts (subst (Next (past relation)) (sym w) n)))
    (leads_narrower (λ k. or_right (is_comparing k) (is_adding k || (is_multiplying k || goes_on k))) refl)) (sym (append-nil (expression_pieces room e)))

sum_past : {inside : Phrase ExpressionTree} {items : Phrase ItemsTree} (room : ℕ) → Inner room inside items → (e : ExpressionTree) → is_at_most sum e ≡ true → Complete (expression_pieces room e) (sum_in room inside items) e (past relation)
sum_past {inside} {items} room inner e h = record { reads = λ ts rest w n. (sum_complete room inner e h).reads ts rest w (narrower (past sum) (past relation) (λ k. or_right (is_comparing k) (is_adding k || (is_multiplying k || goes_on k))) refl rest n) }

compared_complete : {inside : Phrase ExpressionTree} {items : Phrase ItemsTree} (room : ℕ) → Inner room inside items → (operator : BinaryOperator) (left right : ExpressionTree) (b : Bool) → leb (number_of (binary_rank operator)) (number_of sum) ≡ b → leb (number_of (binary_rank operator)) (number_of relation) ≡ true → Complete (expression_pieces room (binary_expression operator left right)) (relation_in room inside items) (binary_expression operator left right) (past relation)
unfolding relation_in relation_from
compared_complete room inner operator left right true b h = alone_complete room inner (binary_expression operator left right) b
compared_complete {inside} {items} room inner operator left right false b h =
    let r : binary_rank operator ≡ relation = relation_or_less operator h b in
    guarded_complete (joins operator left right) (λ g.
    let o = operands_of operator left right (rw r refl) g in
    complete_as (continued_complete _ (sum_complete room inner left (subst (λ k. is_at_most (left_rank k) left ≡ true) r o.0))
    (choose_by_true at_comparing _ _ (continued_complete (λ operator. mapped (λ right. binary_expression operator left right) (sum_in room inside items)) (comparing_complete operator r)
    (mapped_complete (λ right. binary_expression operator left right) (sum_past room inner right (subst (λ k. is_at_most (right_rank k) right ≡ true) r o.1))) leads_any)
    (λ ts rest w n. comparing_is ts ∙ (leads_front {g = past relation} (expression_pieces room right) (comparing_starts {g = any} operator r)).next ts rest w n))
    (leads_front (expression_pieces room right) (comparing_lead {g = any} operator r)))
    (append_assoc (expression_pieces room left) (binary_pieces operator) (expression_pieces room right)))

pub relation_complete : {inside : Phrase ExpressionTree} {items : Phrase ItemsTree} (room : ℕ) → Inner room inside items → (e : ExpressionTree) → is_at_most relation e ≡ true → Complete (expression_pieces room e) (relation_in room inside items) e (past relation)
relation_complete room inner (number_expression spot n) h = alone_complete room inner (number_expression spot n) refl
relation_complete room inner (null_expression spot) h = alone_complete room inner (null_expression spot) refl
relation_complete room inner (path_expression path) h = alone_complete room inner (path_expression path) refl
relation_complete room inner (aggregate_expression type_name items) h = alone_complete room inner (aggregate_expression type_name items) refl
relation_complete room inner (enclosed_expression spot e) h = alone_complete room inner (enclosed_expression spot e) refl
relation_complete room inner (unary_expression unary.Not spot e) h = alone_complete room inner (unary_expression unary.Not spot e) refl
relation_complete room inner (unary_expression unary.Plus spot e) h = alone_complete room inner (unary_expression unary.Plus spot e) refl
relation_complete room inner (unary_expression unary.Minus spot e) h = alone_complete room inner (unary_expression unary.Minus spot e) refl
relation_complete room inner (binary_expression operator left right) h = compared_complete room inner operator left right (leb (number_of (binary_rank operator)) (number_of sum)) refl h

-- ---- logical operators

further_on : {A B : Type 0} (p : A → Phrase B) (q : B → Phrase B) (x : A) (y : B) (mid rest : List Lexeme) (o other : Option Spot) → p x mid ≡ (expected other y rest >>= λ z. q z.0 z.1) → (expected o x mid >>= λ z. p z.0 z.1) ≡ (expected (or_else o other) y rest >>= λ z. q z.0 z.1)
further_on p q x y mid rest None other e = e
further_on p q x y mid rest (Some spot) other e = refl

reaches_behind : {A B : Type 0} {ps qs : List Piece} {read : Phrase A} {x : A} {y : B} {f g : Follow} (p : A → Phrase B) (q : B → Phrase B) → Complete ps read x f → Reaches qs (p x) y g q → Leads qs g f → Reaches (ps ++ qs) (continued read p) y g q
reaches_behind {A} {B} {ps} {qs} {read} {x} {y} {f} {g} p q c r l = record {
  reaches = λ ts rest w n.
      let s = append_spelled ps qs ts rest w in
      rw (c.reads ts s.0 s.1 (l.next s.0 rest s.2 n), sinks_append ps qs ts s.0 s.1)
      (further_on p q x y s.0 rest (sinks ps ts) (sinks qs s.0) (r.reaches s.0 rest s.2 n));
}

reaches_true : {A : Type 0} {ps : List Piece} {p : Phrase A} {x : A} {f : Follow} {q : A → Phrase A} (test : Kind → Bool) (other : Phrase A) → Reaches ps p x f q → Leads ps f (record { test = test; value = true }) → Reaches ps (choose (is_at test) p other) x f q
reaches_true test other r l = record { reaches = λ ts rest w n. rw (l.next ts rest w n) (r.reaches ts rest w n) }

reaches_false : {A : Type 0} {ps : List Piece} {p : Phrase A} {x : A} {f : Follow} {q : A → Phrase A} (test : Kind → Bool) (other : Phrase A) → Reaches ps p x f q → Leads ps f (record { test = test; value = false }) → Reaches ps (choose (is_at test) other p) x f q
reaches_false test other r l = record { reaches = λ ts rest w n. rw (l.next ts rest w n) (r.reaches ts rest w n) }

after_reaches : {A : Type 0} (k : Kind) (p : Phrase A) (x : A) (ps : List Piece) (f : Follow) (q : A → Phrase A) (ts rest : List Lexeme) → is_kind k k ≡ true → Reaches ps p x f q → Spelled (anywhere k ∷ ps) ts rest → Next f rest → after k p ts ≡ (expected (sinks (anywhere k ∷ ps) ts) x rest >>= λ z. q z.0 z.1)
unfolding fixed
after_reaches k p x ps f q [] rest e r w n = absurd w
after_reaches k p x ps f q (t ∷ ts) rest e r w n =
    let g : is_kind k t.kind ≡ true = ap (is_kind k) w.0 ∙ e in
    rw g (r.reaches ts rest w.1 n)

reaches_after : {A : Type 0} {k : Kind} {p : Phrase A} {x : A} {ps : List Piece} {f : Follow} {q : A → Phrase A} → is_kind k k ≡ true → Reaches ps p x f q → Reaches (anywhere k ∷ ps) (after k p) x f q
reaches_after {A} {k} {p} {x} {ps} {f} {q} e r = record { reaches = λ ts rest w n. after_reaches k p x ps f q ts rest e r w n }

applied : {A B : Type 0} (h : A → B) (q : B → Phrase B) (x : A) (rest : List Lexeme) (o : Option Spot) → (expected o x rest >>= λ z. q (h z.0) z.1) ≡ (expected o (h x) rest >>= λ z. q z.0 z.1)
applied h q x rest None = refl
applied h q x rest (Some spot) = refl

-- an operand, and on with it
reaches_operand : {A B : Type 0} {ps : List Piece} {read : Phrase A} {x : A} {f : Follow} (h : A → B) (q : B → Phrase B) → Complete ps read x f → Reaches ps (continued read (λ y. q (h y))) (h x) f q
reaches_operand {A} {B} {ps} {read} {x} {f} h q c = record { reaches = λ ts rest w n. rw (c.reads ts rest w n) (applied h q x rest (sinks ps ts)) }

pub expression_leads : {f : Follow} (room : ℕ) → Unopened f → f.test (delimiter mark.Plus) ≡ f.value → f.test (delimiter mark.Minus) ≡ f.value → (e : ExpressionTree) → {g : Follow} → Leads (expression_pieces room e) g f
expression_leads room u plus minus (number_expression spot n) = leads_first (u.by_number n)
expression_leads room u plus minus (null_expression spot) = leads_first u.by_null
expression_leads room u plus minus (path_expression path) = leads_first (u.by_name path.root.text)
expression_leads room u plus minus (aggregate_expression type_name items) = leads_first (u.by_name type_name.text)
expression_leads room u plus minus (enclosed_expression spot e) = leads_opening (delimiter mark.LeftParenthesis) room spot u.by_parenthesis
expression_leads room u plus minus (unary_expression unary.Not spot e) = guarded_leads (is_at_most primary e) (λ g. leads_first u.by_not)
expression_leads room u plus minus (unary_expression unary.Plus spot e) = guarded_leads (is_at_most term e) (λ g. leads_first plus)
expression_leads room u plus minus (unary_expression unary.Minus spot e) = guarded_leads (is_at_most term e) (λ g. leads_first minus)
expression_leads room u plus minus (binary_expression operator left right) =
    guarded_leads (joins operator left right) (λ g. leads_front (expression_pieces room right) (leads_front (binary_pieces operator) (expression_leads room u plus minus left)))

-- the first word of a logical operator
abbrev connecting_kind : BinaryOperator → Kind
connecting_kind binary.And = reserved word.And
connecting_kind binary.Or = reserved word.Or
connecting_kind binary.Xor = reserved word.Xor
connecting_kind binary.AndThen = reserved word.And
connecting_kind binary.OrElse = reserved word.Or
connecting_kind _ = reserved word.Xor

-- a logical operator
abbrev connecting_at : BinaryOperator → Phrase BinaryOperator
connecting_at binary.And = operator_at (reserved word.And) binary.And
connecting_at binary.Or = operator_at (reserved word.Or) binary.Or
connecting_at binary.Xor = operator_at (reserved word.Xor) binary.Xor
connecting_at binary.AndThen = after (reserved word.And) (operator_at (reserved word.Then) binary.AndThen)
connecting_at binary.OrElse = after (reserved word.Or) (operator_at (reserved word.Else) binary.OrElse)
connecting_at other = operator_at (reserved word.Xor) other

-- relations behind the first, with this operator
abbrev connected : BinaryOperator → Phrase ExpressionTree → ExpressionTree → Phrase ExpressionTree
connected operator read left = chain (at (connecting_kind operator)) (connecting_at operator) read beside left

connecting_complete : (operator : BinaryOperator) → binary_rank operator ≡ logical → Complete (binary_pieces operator) (connecting_at operator) operator any
connecting_complete binary.And e = word_complete (reserved word.And) binary.And refl
connecting_complete binary.Or e = word_complete (reserved word.Or) binary.Or refl
connecting_complete binary.Xor e = word_complete (reserved word.Xor) binary.Xor refl
connecting_complete binary.AndThen e = after_complete refl (word_complete (reserved word.Then) binary.AndThen refl)
connecting_complete binary.OrElse e = after_complete refl (word_complete (reserved word.Else) binary.OrElse refl)
connecting_complete binary.Equal e = absurd cc
connecting_complete binary.NotEqual e = absurd cc
connecting_complete binary.Less e = absurd cc
connecting_complete binary.LessOrEqual e = absurd cc
connecting_complete binary.Greater e = absurd cc
connecting_complete binary.GreaterOrEqual e = absurd cc
connecting_complete binary.Add e = absurd cc
connecting_complete binary.Subtract e = absurd cc
connecting_complete binary.Multiply e = absurd cc
connecting_complete binary.Divide e = absurd cc
connecting_complete binary.Modulo e = absurd cc
connecting_complete binary.Remainder e = absurd cc

connecting_advances : (operator : BinaryOperator) → binary_rank operator ≡ logical → Advances (connecting_at operator)
connecting_advances binary.And e = word_advances (reserved word.And) binary.And
connecting_advances binary.Or e = word_advances (reserved word.Or) binary.Or
connecting_advances binary.Xor e = word_advances (reserved word.Xor) binary.Xor
connecting_advances binary.AndThen e = after_advances (reserved word.And) (word_advances (reserved word.Then) binary.AndThen)
connecting_advances binary.OrElse e = after_advances (reserved word.Or) (word_advances (reserved word.Else) binary.OrElse)
connecting_advances binary.Equal e = absurd cc
connecting_advances binary.NotEqual e = absurd cc
connecting_advances binary.Less e = absurd cc
connecting_advances binary.LessOrEqual e = absurd cc
connecting_advances binary.Greater e = absurd cc
connecting_advances binary.GreaterOrEqual e = absurd cc
connecting_advances binary.Add e = absurd cc
connecting_advances binary.Subtract e = absurd cc
connecting_advances binary.Multiply e = absurd cc
connecting_advances binary.Divide e = absurd cc
connecting_advances binary.Modulo e = absurd cc
connecting_advances binary.Remainder e = absurd cc

connecting_lead : {g : Follow} (operator : BinaryOperator) → binary_rank operator ≡ logical → Leads (binary_pieces operator) g (past relation)
connecting_lead binary.And e = leads_first refl
connecting_lead binary.Or e = leads_first refl
connecting_lead binary.Xor e = leads_first refl
connecting_lead binary.AndThen e = leads_first refl
connecting_lead binary.OrElse e = leads_first refl
connecting_lead binary.Equal e = absurd cc
connecting_lead binary.NotEqual e = absurd cc
connecting_lead binary.Less e = absurd cc
connecting_lead binary.LessOrEqual e = absurd cc
connecting_lead binary.Greater e = absurd cc
connecting_lead binary.GreaterOrEqual e = absurd cc
connecting_lead binary.Add e = absurd cc
connecting_lead binary.Subtract e = absurd cc
connecting_lead binary.Multiply e = absurd cc
connecting_lead binary.Divide e = absurd cc
connecting_lead binary.Modulo e = absurd cc
connecting_lead binary.Remainder e = absurd cc

connecting_starts : {g : Follow} (operator : BinaryOperator) → binary_rank operator ≡ logical → Leads (binary_pieces operator) g (before (connecting_kind operator))
connecting_starts binary.And e = leads_first refl
connecting_starts binary.Or e = leads_first refl
connecting_starts binary.Xor e = leads_first refl
connecting_starts binary.AndThen e = leads_first refl
connecting_starts binary.OrElse e = leads_first refl
connecting_starts binary.Equal e = absurd cc
connecting_starts binary.NotEqual e = absurd cc
connecting_starts binary.Less e = absurd cc
connecting_starts binary.LessOrEqual e = absurd cc
connecting_starts binary.Greater e = absurd cc
connecting_starts binary.GreaterOrEqual e = absurd cc
connecting_starts binary.Add e = absurd cc
connecting_starts binary.Subtract e = absurd cc
connecting_starts binary.Multiply e = absurd cc
connecting_starts binary.Divide e = absurd cc
connecting_starts binary.Modulo e = absurd cc
connecting_starts binary.Remainder e = absurd cc

connecting_past : (operator : BinaryOperator) → binary_rank operator ≡ logical → (k : Kind) → is_connecting k ≡ false → is_kind (connecting_kind operator) k ≡ false
connecting_past binary.And e k h = or_left (is_kind (reserved word.And) k) (is_kind (reserved word.Or) k) (or_left (is_kind (reserved word.And) k || is_kind (reserved word.Or) k) (is_kind (reserved word.Xor) k) h)
connecting_past binary.Or e k h = or_right (is_kind (reserved word.And) k) (is_kind (reserved word.Or) k) (or_left (is_kind (reserved word.And) k || is_kind (reserved word.Or) k) (is_kind (reserved word.Xor) k) h)
connecting_past binary.Xor e k h = or_right (is_kind (reserved word.And) k || is_kind (reserved word.Or) k) (is_kind (reserved word.Xor) k) h
connecting_past binary.AndThen e k h = or_left (is_kind (reserved word.And) k) (is_kind (reserved word.Or) k) (or_left (is_kind (reserved word.And) k || is_kind (reserved word.Or) k) (is_kind (reserved word.Xor) k) h)
connecting_past binary.OrElse e k h = or_right (is_kind (reserved word.And) k) (is_kind (reserved word.Or) k) (or_left (is_kind (reserved word.And) k || is_kind (reserved word.Or) k) (is_kind (reserved word.Xor) k) h)
connecting_past binary.Equal e k h = absurd cc
connecting_past binary.NotEqual e k h = absurd cc
connecting_past binary.Less e k h = absurd cc
connecting_past binary.LessOrEqual e k h = absurd cc
connecting_past binary.Greater e k h = absurd cc
connecting_past binary.GreaterOrEqual e k h = absurd cc
connecting_past binary.Add e k h = absurd cc
connecting_past binary.Subtract e k h = absurd cc
connecting_past binary.Multiply e k h = absurd cc
connecting_past binary.Divide e k h = absurd cc
connecting_past binary.Modulo e k h = absurd cc
connecting_past binary.Remainder e k h = absurd cc

no_second : (second : Kind) → is_kind second (reserved word.Null) ≡ false → is_kind second (reserved word.Not) ≡ false → is_kind second (delimiter mark.LeftParenthesis) ≡ false → ((n : ℕ) → is_kind second (number n) ≡ false) → ((t : List ℕ) → is_kind second (identifier t) ≡ false) → Unopened (unless second)
no_second second a b c d e = record { by_number = d; by_null = a; by_name = e; by_parenthesis = c; by_not = b }

connected_first : {inside : Phrase ExpressionTree} {items : Phrase ItemsTree} (room : ℕ) → Inner room inside items → (operator : BinaryOperator) (left right : ExpressionTree) → binary_rank operator ≡ logical → is_at_most relation right ≡ true → Reaches (binary_pieces operator ++ expression_pieces room right) (logical_from (relation_in room inside items) left) (binary_expression operator left right) (past relation) (connected operator (relation_in room inside items))
unfolding logical_from
connected_first room inner binary.And left right e h = reaches_true (is_kind (reserved word.And)) _ (reaches_after refl (reaches_false (is_kind (reserved word.Then)) _ (reaches_operand (λ right. binary_expression binary.And left right) _ (relation_complete room inner right h)) (expression_leads room (no_second (reserved word.Then) refl refl refl (λ n. refl) (λ t. refl)) refl refl right))) (leads_first refl)
connected_first room inner binary.Or left right e h = reaches_false (is_kind (reserved word.And)) _ (reaches_true (is_kind (reserved word.Or)) _ (reaches_after refl (reaches_false (is_kind (reserved word.Else)) _ (reaches_operand (λ right. binary_expression binary.Or left right) _ (relation_complete room inner right h)) (expression_leads room (no_second (reserved word.Else) refl refl refl (λ n. refl) (λ t. refl)) refl refl right))) (leads_first refl)) (leads_first refl)
connected_first room inner binary.Xor left right e h = reaches_false (is_kind (reserved word.And)) _ (reaches_false (is_kind (reserved word.Or)) _ (reaches_true (is_kind (reserved word.Xor)) _ (reaches_after refl (reaches_operand (λ right. binary_expression binary.Xor left right) _ (relation_complete room inner right h))) (leads_first refl)) (leads_first refl)) (leads_first refl)
connected_first room inner binary.AndThen left right e h = reaches_true (is_kind (reserved word.And)) _ (reaches_after refl (reaches_true (is_kind (reserved word.Then)) _ (reaches_after refl (reaches_operand (λ right. binary_expression binary.AndThen left right) _ (relation_complete room inner right h))) (leads_first refl))) (leads_first refl)
connected_first room inner binary.OrElse left right e h = reaches_false (is_kind (reserved word.And)) _ (reaches_true (is_kind (reserved word.Or)) _ (reaches_after refl (reaches_true (is_kind (reserved word.Else)) _ (reaches_after refl (reaches_operand (λ right. binary_expression binary.OrElse left right) _ (relation_complete room inner right h))) (leads_first refl))) (leads_first refl)) (leads_first refl)
connected_first room inner binary.Equal left right e h = absurd cc
connected_first room inner binary.NotEqual left right e h = absurd cc
connected_first room inner binary.Less left right e h = absurd cc
connected_first room inner binary.LessOrEqual left right e h = absurd cc
connected_first room inner binary.Greater left right e h = absurd cc
connected_first room inner binary.GreaterOrEqual left right e h = absurd cc
connected_first room inner binary.Add left right e h = absurd cc
connected_first room inner binary.Subtract left right e h = absurd cc
connected_first room inner binary.Multiply left right e h = absurd cc
connected_first room inner binary.Divide left right e h = absurd cc
connected_first room inner binary.Modulo left right e h = absurd cc
connected_first room inner binary.Remainder left right e h = absurd cc

connected_goes : (operator : BinaryOperator) → binary_rank operator ≡ logical → (ts rest : List Lexeme) → Spelled (binary_pieces operator) ts rest → at (connecting_kind operator) ts ≡ true
connected_goes operator e ts rest w = (connecting_starts {g = any} operator e).next ts rest w (any_next rest)

-- the operands of a logical operator
logical_operands : (operator : BinaryOperator) (left right : ExpressionTree) → binary_rank operator ≡ logical → joins operator left right ≡ true → ((is_at_most relation left || repeats operator left) ≡ true) × (is_at_most relation right ≡ true)
logical_operands operator left right r j =
    subst (λ k. ((is_at_most (left_rank k) left || repeats operator left) ≡ true) × (is_at_most (right_rank k) right ≡ true)) r
    (both_true (is_at_most (left_rank (binary_rank operator)) left || repeats operator left) (is_at_most (right_rank (binary_rank operator)) right) j)

same_operator : (operator other : BinaryOperator) → binary_rank operator ≡ logical → eqb (number_of (binary_rank operator)) (number_of logical) && sameb operators other operator ≡ true → other ≡ operator
same_operator operator other r e = same_true operators tt other operator (both_true (eqb (number_of (binary_rank operator)) (number_of logical)) (sameb operators other operator) e).1

-- what an expression of this operator reaches
abbrev pub Connects : (room : ℕ) → Phrase ExpressionTree → Phrase ItemsTree → BinaryOperator → ExpressionTree → Type 0
Connects room inside items operator e = Reaches (expression_pieces room e) (expression_in room inside items) e (past relation) (connected operator (relation_in room inside items))

-- behind a relation
connects_first : {inside : Phrase ExpressionTree} {items : Phrase ItemsTree} (room : ℕ) → Inner room inside items → (operator : BinaryOperator) (left right : ExpressionTree) → binary_rank operator ≡ logical → is_at_most relation left ≡ true → is_at_most relation right ≡ true → Reaches (expression_pieces room left ++ binary_pieces operator ++ expression_pieces room right) (expression_in room inside items) (binary_expression operator left right) (past relation) (connected operator (relation_in room inside items))
unfolding expression_in
connects_first {inside} {items} room inner operator left right r l h =
    reaches_as (reaches_behind (logical_from (relation_in room inside items)) (connected operator (relation_in room inside items)) (relation_complete room inner left l) (connected_first room inner operator left right r h)
    (leads_front (expression_pieces room right) (connecting_lead {g = any} operator r)))
    (append_assoc (expression_pieces room left) (binary_pieces operator) (expression_pieces room right))

-- behind an expression of the same operator
connects_more : {inside : Phrase ExpressionTree} {items : Phrase ItemsTree} (room : ℕ) → Inner room inside items → (operator : BinaryOperator) (left right : ExpressionTree) → binary_rank operator ≡ logical → Connects room inside items operator left → is_at_most relation right ≡ true → Reaches (expression_pieces room left ++ binary_pieces operator ++ expression_pieces room right) (expression_in room inside items) (binary_expression operator left right) (past relation) (connected operator (relation_in room inside items))
connects_more room inner operator left right r c h =
    reaches_as (reaches_more (at (connecting_kind operator)) (connecting_at operator) _ beside (connecting_advances operator r) inner.plain_relation
    c (connecting_complete operator r) (connected_goes operator r) (connecting_lead operator r) (relation_complete room inner right h))
    (append_assoc (expression_pieces room left) (binary_pieces operator) (expression_pieces room right))

-- one or the other
connects_by : {inside : Phrase ExpressionTree} {items : Phrase ItemsTree} (room : ℕ) → Inner room inside items → (operator : BinaryOperator) (left right : ExpressionTree) → binary_rank operator ≡ logical → (b : Bool) → is_at_most relation left ≡ b → (b || repeats operator left ≡ true) → is_at_most relation right ≡ true → (repeats operator left ≡ true → Connects room inside items operator left) → Reaches (expression_pieces room left ++ binary_pieces operator ++ expression_pieces room right) (expression_in room inside items) (binary_expression operator left right) (past relation) (connected operator (relation_in room inside items))
connects_by room inner operator left right r true l e h before_it = connects_first room inner operator left right r l h
connects_by room inner operator left right r false l e h before_it = connects_more room inner operator left right r (before_it e) h

connects : {inside : Phrase ExpressionTree} {items : Phrase ItemsTree} (room : ℕ) → Inner room inside items → (operator : BinaryOperator) (left right : ExpressionTree) → binary_rank operator ≡ logical → Connects room inside items operator (binary_expression operator left right)
connects {inside} {items} room inner operator (binary_expression other l r) right e = guarded_reaches (joins operator (binary_expression other l r) right) (λ g.
    let o = logical_operands operator (binary_expression other l r) right e g in
    connects_by room inner operator (binary_expression other l r) right e (is_at_most relation (binary_expression other l r)) refl o.0 o.1
    (λ h. let same : other ≡ operator = same_operator operator other e h in
    subst (λ k. Connects room inside items k (binary_expression other l r)) same (connects room inner other l r (ap binary_rank same ∙ e))))
connects room inner operator (number_expression spot n) right e = guarded_reaches (joins operator (number_expression spot n) right) (λ g. connects_first room inner operator (number_expression spot n) right e refl (logical_operands operator (number_expression spot n) right e g).1)
connects room inner operator (null_expression spot) right e = guarded_reaches (joins operator (null_expression spot) right) (λ g. connects_first room inner operator (null_expression spot) right e refl (logical_operands operator (null_expression spot) right e g).1)
connects room inner operator (path_expression path) right e = guarded_reaches (joins operator (path_expression path) right) (λ g. connects_first room inner operator (path_expression path) right e refl (logical_operands operator (path_expression path) right e g).1)
connects room inner operator (aggregate_expression t items) right e = guarded_reaches (joins operator (aggregate_expression t items) right) (λ g. connects_first room inner operator (aggregate_expression t items) right e refl (logical_operands operator (aggregate_expression t items) right e g).1)
connects room inner operator (enclosed_expression spot x) right e = guarded_reaches (joins operator (enclosed_expression spot x) right) (λ g. connects_first room inner operator (enclosed_expression spot x) right e refl (logical_operands operator (enclosed_expression spot x) right e g).1)
connects room inner operator (unary_expression unary.Not spot x) right e = guarded_reaches (joins operator (unary_expression unary.Not spot x) right) (λ g. connects_first room inner operator (unary_expression unary.Not spot x) right e refl (logical_operands operator (unary_expression unary.Not spot x) right e g).1)
connects room inner operator (unary_expression unary.Plus spot x) right e = guarded_reaches (joins operator (unary_expression unary.Plus spot x) right) (λ g. connects_first room inner operator (unary_expression unary.Plus spot x) right e refl (logical_operands operator (unary_expression unary.Plus spot x) right e g).1)
connects room inner operator (unary_expression unary.Minus spot x) right e = guarded_reaches (joins operator (unary_expression unary.Minus spot x) right) (λ g. connects_first room inner operator (unary_expression unary.Minus spot x) right e refl (logical_operands operator (unary_expression unary.Minus spot x) right e g).1)

-- ---- expressions

not_connecting : (operator : BinaryOperator) → binary_rank operator ≡ logical → Leads [] (past logical) (record { test = is_kind (connecting_kind operator); value = false })
not_connecting operator r = leads_narrower (λ k e. connecting_past operator r k (or_left (is_connecting k) (is_comparing k || (is_adding k || (is_multiplying k || goes_on k))) e)) refl

no_more : (inside : Phrase ExpressionTree) (items : Phrase ItemsTree) (room : ℕ) (e : ExpressionTree) → Complete [] (logical_from (relation_in room inside items) e) e (past logical)
unfolding logical_from
no_more inside items room e = choose_false (choose_false (choose_false (weaken (mapped_complete (λ _. e) nothing_complete)) (not_connecting binary.Xor refl)) (not_connecting binary.Or refl)) (not_connecting binary.And refl)

alone_expression : {inside : Phrase ExpressionTree} {items : Phrase ItemsTree} (room : ℕ) → Inner room inside items → (e : ExpressionTree) → is_at_most relation e ≡ true → Complete (expression_pieces room e) (expression_in room inside items) e (past logical)
unfolding expression_in
alone_expression {inside} {items} room inner e h = complete_as (continued_complete _ (relation_complete room inner e h) (no_more inside items room e)
    (leads_narrower (λ k. or_right (is_connecting k) (is_comparing k || (is_adding k || (is_multiplying k || goes_on k)))) refl)) (sym (append-nil (expression_pieces room e)))

logical_or_less : (operator : BinaryOperator) → leb (number_of (binary_rank operator)) (number_of relation) ≡ false → binary_rank operator ≡ logical
logical_or_less binary.And e = refl
logical_or_less binary.Or e = refl
logical_or_less binary.Xor e = refl
logical_or_less binary.AndThen e = refl
logical_or_less binary.OrElse e = refl
logical_or_less binary.Equal e = absurd cc
logical_or_less binary.NotEqual e = absurd cc
logical_or_less binary.Less e = absurd cc
logical_or_less binary.LessOrEqual e = absurd cc
logical_or_less binary.Greater e = absurd cc
logical_or_less binary.GreaterOrEqual e = absurd cc
logical_or_less binary.Add e = absurd cc
logical_or_less binary.Subtract e = absurd cc
logical_or_less binary.Multiply e = absurd cc
logical_or_less binary.Divide e = absurd cc
logical_or_less binary.Modulo e = absurd cc
logical_or_less binary.Remainder e = absurd cc

by_operator : {inside : Phrase ExpressionTree} {items : Phrase ItemsTree} (room : ℕ) → Inner room inside items → (operator : BinaryOperator) (left right : ExpressionTree) (b : Bool) → leb (number_of (binary_rank operator)) (number_of relation) ≡ b → Complete (expression_pieces room (binary_expression operator left right)) (expression_in room inside items) (binary_expression operator left right) (past logical)
by_operator room inner operator left right true h = alone_expression room inner (binary_expression operator left right) h
by_operator {inside} {items} room inner operator left right false h =
    let r : binary_rank operator ≡ logical = logical_or_less operator h in
    reaches_end (connects room inner operator left right r)
    (λ rest n. chain_ends (at (connecting_kind operator)) (connecting_at operator) (relation_in room inside items) beside (binary_expression operator left right) rest
    ((not_connecting operator r).next rest rest refl n))
    (leads_narrower (λ k. or_right (is_connecting k) (is_comparing k || (is_adding k || (is_multiplying k || goes_on k)))) refl)

pub expression_complete : {inside : Phrase ExpressionTree} {items : Phrase ItemsTree} (room : ℕ) → Inner room inside items → (e : ExpressionTree) → Complete (expression_pieces room e) (expression_in room inside items) e (past logical)
expression_complete room inner (number_expression spot n) = alone_expression room inner (number_expression spot n) refl
expression_complete room inner (null_expression spot) = alone_expression room inner (null_expression spot) refl
expression_complete room inner (path_expression path) = alone_expression room inner (path_expression path) refl
expression_complete room inner (aggregate_expression t items) = alone_expression room inner (aggregate_expression t items) refl
expression_complete room inner (enclosed_expression spot e) = alone_expression room inner (enclosed_expression spot e) refl
expression_complete room inner (unary_expression unary.Not spot e) = alone_expression room inner (unary_expression unary.Not spot e) refl
expression_complete room inner (unary_expression unary.Plus spot e) = alone_expression room inner (unary_expression unary.Plus spot e) refl
expression_complete room inner (unary_expression unary.Minus spot e) = alone_expression room inner (unary_expression unary.Minus spot e) refl
expression_complete room inner (binary_expression operator left right) = by_operator room inner operator left right (leb (number_of (binary_rank operator)) (number_of relation)) refl
