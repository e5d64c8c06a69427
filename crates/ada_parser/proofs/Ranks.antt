-- Which phrase a tree is, and how operators join trees: what the pieces of a rank say.
use Rattle.std.proofs.Common.{◌≡◌, ℕ, zero, suc, le_refl, Bool, true, false, ◌&&◌, ◌||◌, eqb, leb, List, ◌++◌, refl, sym, ap, subst, ◌∙◌, le_trans, append_assoc}
use Rattle.std.proofs.lemmas.Bool.{eqb-true, leb-true, le-leb}
use denote.Enum.Bare.{sameb, same_true}
use Rattle.ada_values.specs.declared.operator.BinaryOperator.{BinaryOperator}
use Rattle.ada_values.specs.contracts.operator.BinaryOperator.{the_type as operators}
use Rattle.ada_tree.specs.Piece.{Piece, guarded}
use Rattle.ada_tree.specs.Expressions.{ExpressionTree, binary_expression, Rank, primary, factor, term, sum, relation, logical, number_of, binary_rank, rank_of, is_at_most, left_rank, right_rank, repeats, joins, binary_pieces, expression_pieces}
use Rattle.ada_phrases.specs.Expressions.{beside}
use Rattle.ada_parser.proofs.Sound.{Able, guard_holds, guard_true, Joins}

-- An expression, where it is such a phrase.
abbrev pub ranked : Rank → ℕ → ExpressionTree → List Piece
ranked rank room e = guarded (is_at_most rank e) (expression_pieces room e)

-- An operator, where it makes such a phrase.
abbrev pub operator_pieces : Rank → BinaryOperator → List Piece
operator_pieces rank operator = guarded (eqb (number_of (binary_rank operator)) (number_of rank)) (binary_pieces operator)

-- An expression, where it is made by this very operator.
abbrev pub repeated : BinaryOperator → ℕ → ExpressionTree → List Piece
repeated operator room e = guarded (repeats operator e) (expression_pieces room e)

-- This very operator.
abbrev pub only_operator : BinaryOperator → BinaryOperator → List Piece
only_operator operator other = guarded (sameb operators other operator) (binary_pieces other)

-- ---- ranks

abbrev rank_at : ℕ → Rank
rank_at zero = primary
rank_at (suc zero) = factor
rank_at (suc (suc zero)) = term
rank_at (suc (suc (suc zero))) = sum
rank_at (suc (suc (suc (suc zero)))) = relation
rank_at (suc (suc (suc (suc (suc n))))) = logical

rank_again : (r : Rank) → rank_at (number_of r) ≡ r
rank_again primary = refl
rank_again factor = refl
rank_again term = refl
rank_again sum = refl
rank_again relation = refl
rank_again logical = refl

pub rank_same : (a b : Rank) → eqb (number_of a) (number_of b) ≡ true → a ≡ b
rank_same a b e = sym (rank_again a) ∙ (ap rank_at (eqb-true (number_of a) (number_of b) e) ∙ rank_again b)

-- a phrase may stand where one that binds less is wanted
pub wider : (a b : Rank) (e : ExpressionTree) → leb (number_of a) (number_of b) ≡ true → is_at_most a e ≡ true → is_at_most b e ≡ true
wider a b e h k = le-leb (number_of (rank_of e)) (number_of b) (le_trans (leb-true (number_of (rank_of e)) (number_of a) k) (leb-true (number_of a) (number_of b) h))

under_logical : (r : Rank) → leb (number_of r) (number_of logical) ≡ true
under_logical primary = refl
under_logical factor = refl
under_logical term = refl
under_logical sum = refl
under_logical relation = refl
under_logical logical = refl

pub any_logical : (e : ExpressionTree) → is_at_most logical e ≡ true
any_logical e = under_logical (rank_of e)

pub ranked_is : (r : Rank) (room : ℕ) (e : ExpressionTree) → Able (ranked r room e) → ranked r room e ≡ expression_pieces room e
ranked_is r room e able = guard_true (is_at_most r e) (expression_pieces room e) (guard_holds (is_at_most r e) (expression_pieces room e) able)

pub ranked_wider : (a b : Rank) (room : ℕ) (e : ExpressionTree) → leb (number_of a) (number_of b) ≡ true → Able (ranked a room e) → ranked b room e ≡ ranked a room e
ranked_wider a b room e h able =
    guard_true (is_at_most b e) (expression_pieces room e) (wider a b e h (guard_holds (is_at_most a e) (expression_pieces room e) able)) ∙ sym (ranked_is a room e able)

pub repeated_is : (o : BinaryOperator) (room : ℕ) (e : ExpressionTree) → Able (repeated o room e) → repeated o room e ≡ expression_pieces room e
repeated_is o room e able = guard_true (repeats o e) (expression_pieces room e) (guard_holds (repeats o e) (expression_pieces room e) able)

-- ---- operators

own_rank : (r : Rank) → leb (number_of r) (number_of r) ≡ true
own_rank r = le-leb (number_of r) (number_of r) (le_refl (number_of r))

may_join : (a b c : Bool) → (a || b) ≡ true → c ≡ true → ((a || b) && c) ≡ true
may_join a b c e f = rw (e, f) refl

or_first : (a b : Bool) → a ≡ true → (a || b) ≡ true
or_first a b e = rw e refl

or_second : (a b : Bool) → b ≡ true → (a || b) ≡ true
or_second true b e = refl
or_second false b e = e

-- what an operator joins, where its operands may stand there
pub joined_is : (room : ℕ) (o : BinaryOperator) (x y : ExpressionTree) → (is_at_most (left_rank (binary_rank o)) x || repeats o x) ≡ true → is_at_most (right_rank (binary_rank o)) y ≡ true → expression_pieces room (binary_expression o x y) ≡ expression_pieces room x ++ (binary_pieces o ++ expression_pieces room y)
joined_is room o x y h k =
    guard_true (joins o x y) ((expression_pieces room x ++ binary_pieces o) ++ expression_pieces room y)
    (may_join (is_at_most (left_rank (binary_rank o)) x) (repeats o x) (is_at_most (right_rank (binary_rank o)) y) h k) ∙
    append_assoc (expression_pieces room x) (binary_pieces o) (expression_pieces room y)

parts : (o x y u v w : List Piece) → x ≡ u → o ≡ v → y ≡ w → u ++ (v ++ w) ≡ x ++ (o ++ y)
parts o x y u v w a b c = rw (a, b, c) refl

ranked_joined : (room : ℕ) (o : BinaryOperator) (x y : ExpressionTree) (r : Rank) → binary_rank o ≡ r → is_at_most (left_rank r) x ≡ true → is_at_most (right_rank r) y ≡ true → ranked r room (binary_expression o x y) ≡ expression_pieces room x ++ (binary_pieces o ++ expression_pieces room y)
ranked_joined room o x y r e =
    subst (λ (s : Rank). is_at_most (left_rank s) x ≡ true → is_at_most (right_rank s) y ≡ true → ranked s room (binary_expression o x y) ≡ expression_pieces room x ++ (binary_pieces o ++ expression_pieces room y)) e
    (λ h k.
    guard_true (is_at_most (binary_rank o) (binary_expression o x y)) (expression_pieces room (binary_expression o x y)) (own_rank (binary_rank o)) ∙
    joined_is room o x y (or_first (is_at_most (left_rank (binary_rank o)) x) (repeats o x) h) k)

-- operands of the wanted ranks beside an operator of this one
pub beside_is : (r : Rank) (room : ℕ) (x : ExpressionTree) (o : BinaryOperator) (y : ExpressionTree) → Able (ranked (left_rank r) room x) → Able (operator_pieces r o) → Able (ranked (right_rank r) room y) → ranked r room (beside x o y) ≡ ranked (left_rank r) room x ++ (operator_pieces r o ++ ranked (right_rank r) room y)
beside_is r room x o y a b c =
    let e : eqb (number_of (binary_rank o)) (number_of r) ≡ true = guard_holds (eqb (number_of (binary_rank o)) (number_of r)) (binary_pieces o) b in
    ranked_joined room o x y r (rank_same (binary_rank o) r e)
    (guard_holds (is_at_most (left_rank r) x) (expression_pieces room x) a) (guard_holds (is_at_most (right_rank r) y) (expression_pieces room y) c) ∙
    parts (operator_pieces r o) (ranked (left_rank r) room x) (ranked (right_rank r) room y) (expression_pieces room x) (binary_pieces o) (expression_pieces room y)
    (ranked_is (left_rank r) room x a) (guard_true (eqb (number_of (binary_rank o)) (number_of r)) (binary_pieces o) e) (ranked_is (right_rank r) room y c)

pub term_joins : (room : ℕ) → Joins (ranked term room) (operator_pieces term) (ranked factor room) beside
term_joins room = beside_is term room

pub sum_joins : (room : ℕ) → Joins (ranked sum room) (operator_pieces sum) (ranked term room) beside
sum_joins room = beside_is sum room

-- ---- logical operators

itself : (o : BinaryOperator) → binary_rank o ≡ logical → sameb operators o o ≡ true → (x y : ExpressionTree) → repeats o (binary_expression o x y) ≡ true
itself o e f x y = rw (e, f) refl

logical_joined : (o : BinaryOperator) (room : ℕ) → binary_rank o ≡ logical → sameb operators o o ≡ true → (x y : ExpressionTree) → (is_at_most relation x || repeats o x) ≡ true → is_at_most relation y ≡ true → repeated o room (binary_expression o x y) ≡ expression_pieces room x ++ (binary_pieces o ++ expression_pieces room y)
logical_joined o room e f x y h k =
    guard_true (repeats o (binary_expression o x y)) (expression_pieces room (binary_expression o x y)) (itself o e f x y) ∙
    joined_is room o x y (rw e h) (rw e k)

-- the first relation and the second
pub logical_first : (o : BinaryOperator) (room : ℕ) → binary_rank o ≡ logical → sameb operators o o ≡ true → (x y : ExpressionTree) → Able (ranked relation room x) → Able (ranked relation room y) → repeated o room (binary_expression o x y) ≡ ranked relation room x ++ (binary_pieces o ++ ranked relation room y)
logical_first o room e f x y a b =
    logical_joined o room e f x y (or_first (is_at_most relation x) (repeats o x) (guard_holds (is_at_most relation x) (expression_pieces room x) a)) (guard_holds (is_at_most relation y) (expression_pieces room y) b) ∙
    parts (binary_pieces o) (ranked relation room x) (ranked relation room y) (expression_pieces room x) (binary_pieces o) (expression_pieces room y) (ranked_is relation room x a) refl (ranked_is relation room y b)

logical_next : (o : BinaryOperator) (room : ℕ) → binary_rank o ≡ logical → sameb operators o o ≡ true → (x y : ExpressionTree) → Able (repeated o room x) → Able (ranked relation room y) → repeated o room (binary_expression o x y) ≡ repeated o room x ++ (binary_pieces o ++ ranked relation room y)
logical_next o room e f x y a b =
    logical_joined o room e f x y (or_second (is_at_most relation x) (repeats o x) (guard_holds (repeats o x) (expression_pieces room x) a)) (guard_holds (is_at_most relation y) (expression_pieces room y) b) ∙
    parts (binary_pieces o) (repeated o room x) (ranked relation room y) (expression_pieces room x) (binary_pieces o) (expression_pieces room y) (repeated_is o room x a) refl (ranked_is relation room y b)

-- one relation more behind the same operator
pub logical_joins : (o : BinaryOperator) (room : ℕ) → binary_rank o ≡ logical → sameb operators o o ≡ true → Joins (repeated o room) (only_operator o) (ranked relation room) beside
logical_joins o room e f x p y a b c =
    let k : sameb operators p o ≡ true = guard_holds (sameb operators p o) (binary_pieces p) b in
    subst (λ (q : BinaryOperator). Able (only_operator o q) → repeated o room (beside x q y) ≡ repeated o room x ++ (only_operator o q ++ ranked relation room y)) (sym (same_true operators tt p o k))
    (λ d. logical_next o room e f x y a c ∙ parts (only_operator o o) (repeated o room x) (ranked relation room y) (repeated o room x) (binary_pieces o) (ranked relation room y) refl (guard_true (sameb operators o o) (binary_pieces o) f) refl) b
