-- What is read is written so: names and expressions.
use Rattle.std.proofs.Common.{◌≡◌, ℕ, zero, suc, ◌-◌, Bool, true, false, eqb, leb, List, [], ◌∷◌, ◌++◌, Option, None, refl, sym, ap, subst, ◌∙◌, append_assoc, append-nil, arith}
use Rattle.std.specs.List.{flat_map}
use Rattle.std.proofs.lemmas.List.Concat.{flat_map-cons}
use denote.Enum.Bare.{sameb}
use Rattle.ada_text.specs.declared.spot.Spot.{Spot}
use Rattle.ada_text.specs.declared.word.Word.TheVariants as word
use Rattle.ada_text.specs.declared.delimiter.Delimiter.TheVariants as mark
use Rattle.ada_text.specs.Token.{Kind, reserved, delimiter}
use Rattle.ada_values.specs.declared.operator.UnaryOperator.{UnaryOperator}
use Rattle.ada_values.specs.declared.operator.UnaryOperator.TheVariants as unary
use Rattle.ada_values.specs.declared.operator.BinaryOperator.{BinaryOperator}
use Rattle.ada_values.specs.declared.operator.BinaryOperator.TheVariants as binary
use Rattle.ada_values.specs.contracts.operator.BinaryOperator.{the_type as operators}
use Rattle.ada_tree.specs.Piece.{Piece, anywhere, placed, opening, guarded}
use Rattle.ada_tree.specs.Names.{Ident, SelectorTree, component, dereference, ident_pieces, part_pieces, name_pieces, selector_pieces, path_pieces}
use Rattle.ada_tree.specs.Expressions.{ExpressionTree, null_expression, path_expression, aggregate_expression, unary_expression, binary_expression, ItemsTree, no_more_items, an_item, Rank, primary, factor, term, sum, relation, logical, number_of, binary_rank, is_at_most, unary_rank, unary_kind, binary_pieces, label_pieces, expression_pieces, items_pieces, more_items_pieces}
use Rattle.ada_reader.specs.Step.{Phrase, is_identifier, is_number, is_at, at, nothing, continued, mapped, after, chain}
use Rattle.ada_reader.specs.Operators.{at_multiplying, operator_at, multiplying_at, at_adding, adding_at, at_comparing, comparing_at, sign_at}
use Rattle.ada_phrases.specs.Expressions.{part_at, name_from, name_at, selector_at, selectors_at, path_from, path_led, items_from, all_items_from, labelled, positional, beside, signed_from, not_from, number_from_parts, enclosed_from, term_from, sum_from, relation_from, repeated_from, short_from, logical_from, enclosed_items_in, primary_led, primary_in, factor_in, term_in, first_term_in, sum_in, relation_in, expression_in, behind_primary, expression_led, item_in, items_in, inside, expression_at}
use Rattle.ada_parser.proofs.Sound.{Able, able_append, guard_holds, guard_true, is_filled, Sound, Goes, sound_of, nothing_sound, refuses_sound, mapped_goes, mapped_sound, continued_goes, continued_sound, goes_on, both_sound, choose_goes, choose_sound, goes_as, sound_as, all_sound, chain_goes, IsOther, placed_sound, fixed_sound, after_goes, after_sound, some_spot, identifier_sound, number_sound, opening_sound, opened_sound, goes_front, goes_mapped}
use Rattle.ada_parser.proofs.Ranks.{ranked, operator_pieces, repeated, only_operator, ranked_is, ranked_wider, repeated_is, beside_is, term_joins, sum_joins, logical_first, logical_joins}

-- ---- names

pub part_sound : Sound part_pieces part_at
unfolding part_at
part_sound = after_sound (delimiter mark.Dot) refl identifier_sound

pub name_sound : Sound name_pieces name_at
unfolding name_at
name_sound = mapped_sound name_pieces name_from (both_sound identifier_sound (all_sound (at (delimiter mark.Dot)) (λ t ts us. refl) (λ x able. refl) part_sound)) (λ x able. refl)

selector_sound : Sound selector_pieces selector_at
unfolding selector_at
selector_sound = sound_of (after_goes [] selector_pieces (delimiter mark.Dot) _ refl
    (choose_goes (anywhere (delimiter mark.Dot) ∷ []) selector_pieces (at (reserved word.All)) _ _ (λ t ts us. refl)
    (mapped_goes (anywhere (delimiter mark.Dot) ∷ []) selector_pieces dereference (placed_sound (reserved word.All) refl) (λ x able. refl))
    (mapped_goes (anywhere (delimiter mark.Dot) ∷ []) selector_pieces component identifier_sound (λ x able. refl))))

pub selector_filled : (s : SelectorTree) → is_filled (selector_pieces s) ≡ true
selector_filled (component i) = refl
selector_filled (dereference spot) = refl

selectors_sound : Sound (flat_map selector_pieces) selectors_at
unfolding selectors_at
selectors_sound = all_sound (at (delimiter mark.Dot)) (λ t ts us. refl) (λ x able. selector_filled x) selector_sound

pub path_goes : (root : Ident) → Goes (ident_pieces root) path_pieces (path_led root)
unfolding path_led
path_goes root = mapped_goes (ident_pieces root) path_pieces (path_from root) selectors_sound (λ x able. refl)

-- ---- operators

pub multiplying_sound : Sound (operator_pieces term) multiplying_at
unfolding multiplying_at
multiplying_sound = choose_sound (operator_pieces term) (at (delimiter mark.Star)) _ _ (λ t ts us. refl)
    (mapped_sound (operator_pieces term) (λ _. binary.Multiply) (fixed_sound (delimiter mark.Star) refl) (λ x able. refl))
    (choose_sound (operator_pieces term) (at (delimiter mark.Slash)) _ _ (λ t ts us. refl)
    (mapped_sound (operator_pieces term) (λ _. binary.Divide) (fixed_sound (delimiter mark.Slash) refl) (λ x able. refl))
    (choose_sound (operator_pieces term) (at (reserved word.Mod)) _ _ (λ t ts us. refl)
    (mapped_sound (operator_pieces term) (λ _. binary.Modulo) (fixed_sound (reserved word.Mod) refl) (λ x able. refl))
    (mapped_sound (operator_pieces term) (λ _. binary.Remainder) (fixed_sound (reserved word.Rem) refl) (λ x able. refl))))

pub adding_sound : Sound (operator_pieces sum) adding_at
unfolding adding_at
adding_sound = choose_sound (operator_pieces sum) (at (delimiter mark.Plus)) _ _ (λ t ts us. refl)
    (mapped_sound (operator_pieces sum) (λ _. binary.Add) (fixed_sound (delimiter mark.Plus) refl) (λ x able. refl))
    (mapped_sound (operator_pieces sum) (λ _. binary.Subtract) (fixed_sound (delimiter mark.Minus) refl) (λ x able. refl))

pub comparing_sound : Sound (operator_pieces relation) comparing_at
unfolding comparing_at
comparing_sound = choose_sound (operator_pieces relation) (at (delimiter mark.Equal)) _ _ (λ t ts us. refl)
    (mapped_sound (operator_pieces relation) (λ _. binary.Equal) (fixed_sound (delimiter mark.Equal) refl) (λ x able. refl))
    (choose_sound (operator_pieces relation) (at (delimiter mark.NotEqual)) _ _ (λ t ts us. refl)
    (mapped_sound (operator_pieces relation) (λ _. binary.NotEqual) (fixed_sound (delimiter mark.NotEqual) refl) (λ x able. refl))
    (choose_sound (operator_pieces relation) (at (delimiter mark.Less)) _ _ (λ t ts us. refl)
    (mapped_sound (operator_pieces relation) (λ _. binary.Less) (fixed_sound (delimiter mark.Less) refl) (λ x able. refl))
    (choose_sound (operator_pieces relation) (at (delimiter mark.LessEqual)) _ _ (λ t ts us. refl)
    (mapped_sound (operator_pieces relation) (λ _. binary.LessOrEqual) (fixed_sound (delimiter mark.LessEqual) refl) (λ x able. refl))
    (choose_sound (operator_pieces relation) (at (delimiter mark.Greater)) _ _ (λ t ts us. refl)
    (mapped_sound (operator_pieces relation) (λ _. binary.Greater) (fixed_sound (delimiter mark.Greater) refl) (λ x able. refl))
    (mapped_sound (operator_pieces relation) (λ _. binary.GreaterOrEqual) (fixed_sound (delimiter mark.GreaterEqual) refl) (λ x able. refl))))))

guarded_filled : (b : Bool) (ps : List Piece) → is_filled ps ≡ true → is_filled (guarded b ps) ≡ true
guarded_filled true ps e = e
guarded_filled false ps e = refl

pub operator_filled : (o : BinaryOperator) → is_filled (binary_pieces o) ≡ true
operator_filled binary.And = refl
operator_filled binary.Or = refl
operator_filled binary.Xor = refl
operator_filled binary.AndThen = refl
operator_filled binary.OrElse = refl
operator_filled binary.Equal = refl
operator_filled binary.NotEqual = refl
operator_filled binary.Less = refl
operator_filled binary.LessOrEqual = refl
operator_filled binary.Greater = refl
operator_filled binary.GreaterOrEqual = refl
operator_filled binary.Add = refl
operator_filled binary.Subtract = refl
operator_filled binary.Multiply = refl
operator_filled binary.Divide = refl
operator_filled binary.Modulo = refl
operator_filled binary.Remainder = refl

pub rank_filled : (r : Rank) (o : BinaryOperator) → Able (operator_pieces r o) → is_filled (operator_pieces r o) ≡ true
rank_filled r o able = guarded_filled (eqb (number_of (binary_rank o)) (number_of r)) (binary_pieces o) (operator_filled o)

pub only_filled : (o p : BinaryOperator) → Able (only_operator o p) → is_filled (only_operator o p) ≡ true
only_filled o p able = guarded_filled (sameb operators p o) (binary_pieces p) (operator_filled p)

-- ---- what stands behind a phrase

-- a phrase behind which nothing more stands
ends_here : (front : List Piece) (pA : ExpressionTree → List Piece) (x : ExpressionTree) → pA x ≡ front → Goes front pA (mapped (λ _. x) nothing)
ends_here front pA x e = mapped_goes front pA (λ _. x) nothing_sound (λ _ able. e ∙ sym (append-nil front))

pub term_goes : (room : ℕ) (item : Phrase ExpressionTree) → Sound (ranked factor room) item → (x : ExpressionTree) → Able (ranked term room x) → Goes (ranked term room x) (ranked term room) (term_from item x)
unfolding term_from
term_goes room item sound x able = chain_goes (ranked term room) at_multiplying beside (λ t ts us. refl) (rank_filled term) multiplying_sound sound (term_joins room) x able

pub sum_goes : (room : ℕ) (item : Phrase ExpressionTree) → Sound (ranked term room) item → (x : ExpressionTree) → Able (ranked sum room x) → Goes (ranked sum room x) (ranked sum room) (sum_from item x)
unfolding sum_from
sum_goes room item sound x able = chain_goes (ranked sum room) at_adding beside (λ t ts us. refl) (rank_filled sum) adding_sound sound (sum_joins room) x able

pub relation_goes : (room : ℕ) (item : Phrase ExpressionTree) → Sound (ranked sum room) item → (x : ExpressionTree) → Able (ranked sum room x) → Goes (ranked sum room x) (ranked relation room) (relation_from item x)
unfolding relation_from
relation_goes room item sound x able = choose_goes (ranked sum room x) (ranked relation room) at_comparing _ _ (λ t ts us. refl)
    (continued_goes (ranked sum room x) (ranked relation room) (λ o. mapped (λ y. binary_expression o x y) item) comparing_sound
    (λ o able_o. mapped_goes (ranked sum room x ++ operator_pieces relation o) (ranked relation room) (λ y. binary_expression o x y) sound
    (λ y able_y. beside_is relation room x o y able able_o able_y ∙ sym (append_assoc (ranked sum room x) (operator_pieces relation o) (ranked sum room y)))))
    (ends_here (ranked sum room x) (ranked relation room) x (ranked_wider sum relation room x refl able))

operator_able : (o : BinaryOperator) → Able (binary_pieces o)
operator_able binary.And = (tt, tt)
operator_able binary.Or = (tt, tt)
operator_able binary.Xor = (tt, tt)
operator_able binary.AndThen = (tt, (tt, tt))
operator_able binary.OrElse = (tt, (tt, tt))
operator_able binary.Equal = (tt, tt)
operator_able binary.NotEqual = (tt, tt)
operator_able binary.Less = (tt, tt)
operator_able binary.LessOrEqual = (tt, tt)
operator_able binary.Greater = (tt, tt)
operator_able binary.GreaterOrEqual = (tt, tt)
operator_able binary.Add = (tt, tt)
operator_able binary.Subtract = (tt, tt)
operator_able binary.Multiply = (tt, tt)
operator_able binary.Divide = (tt, tt)
operator_able binary.Modulo = (tt, tt)
operator_able binary.Remainder = (tt, tt)

-- one relation behind an operator that was read, and then as many as there are
repeated_goes : (room : ℕ) (o : BinaryOperator) (front : List Piece) (operator : Phrase BinaryOperator) (k : Kind) (item : Phrase ExpressionTree) → binary_rank o ≡ logical → sameb operators o o ≡ true → Sound (only_operator o) operator → Sound (ranked relation room) item → (x : ExpressionTree) → Able (ranked relation room x) → front ≡ ranked relation room x ++ binary_pieces o → Goes front (expression_pieces room) (continued item (λ y. chain (at k) operator item beside (binary_expression o x y)))
repeated_goes room o front operator k item e f reads sound x able whole =
    continued_goes front (expression_pieces room) (λ y. chain (at k) operator item beside (binary_expression o x y)) sound
    (λ y able_y.
    let first : repeated o room (beside x o y) ≡ ranked relation room x ++ (binary_pieces o ++ ranked relation room y) = logical_first o room e f x y able able_y in
    let there : repeated o room (beside x o y) ≡ front ++ ranked relation room y = first ∙ (sym (append_assoc (ranked relation room x) (binary_pieces o) (ranked relation room y)) ∙ ap (λ (ps : List Piece). ps ++ ranked relation room y) (sym whole)) in
    let able_first : Able (repeated o room (beside x o y)) = subst Able (sym first) (able_append (ranked relation room x) (binary_pieces o ++ ranked relation room y) able (able_append (binary_pieces o) (ranked relation room y) (operator_able o) able_y)) in
    goes_front (goes_as (expression_pieces room) able_first
    (chain_goes (repeated o room) (at k) beside (λ t ts us. refl) (only_filled o) reads sound (logical_joins o room e f) (beside x o y) able_first)
    (λ z able_z. sym (repeated_is o room z able_z))) there)

pub one_word : (o : BinaryOperator) (k : Kind) → IsOther k → only_operator o o ≡ anywhere k ∷ [] → Sound (only_operator o) (operator_at k o)
one_word o k other e = mapped_sound (only_operator o) (λ _. o) (fixed_sound k other) (λ x able. e)

pub two_words : (o : BinaryOperator) (k second : Kind) → IsOther k → IsOther second → only_operator o o ≡ anywhere k ∷ anywhere second ∷ [] → Sound (only_operator o) (after k (operator_at second o))
two_words o k second other others e = sound_of (after_goes [] (only_operator o) k _ other (mapped_goes (anywhere k ∷ []) (only_operator o) (λ _. o) (fixed_sound second others) (λ x able. e)))

short_goes : (room : ℕ) (o : BinaryOperator) (k second : Kind) (item : Phrase ExpressionTree) → IsOther k → IsOther second → binary_rank o ≡ logical → sameb operators o o ≡ true → binary_pieces o ≡ anywhere k ∷ anywhere second ∷ [] → only_operator o o ≡ anywhere k ∷ anywhere second ∷ [] → Sound (ranked relation room) item → (x : ExpressionTree) → Able (ranked relation room x) → Goes (ranked relation room x ++ anywhere k ∷ []) (expression_pieces room) (short_from k second o item x)
short_goes room o k second item other others e f two only sound x able = after_goes (ranked relation room x ++ anywhere k ∷ []) (expression_pieces room) second _ others
    (repeated_goes room o ((ranked relation room x ++ anywhere k ∷ []) ++ anywhere second ∷ []) (after k (operator_at second o)) k item e f (two_words o k second other others only) sound x able
    (append_assoc (ranked relation room x) (anywhere k ∷ []) (anywhere second ∷ []) ∙ ap (λ (ps : List Piece). ranked relation room x ++ ps) (sym two)))

long_goes : (room : ℕ) (o : BinaryOperator) (k : Kind) (item : Phrase ExpressionTree) → IsOther k → binary_rank o ≡ logical → sameb operators o o ≡ true → binary_pieces o ≡ anywhere k ∷ [] → only_operator o o ≡ anywhere k ∷ [] → Sound (ranked relation room) item → (x : ExpressionTree) → Able (ranked relation room x) → Goes (ranked relation room x ++ anywhere k ∷ []) (expression_pieces room) (repeated_from k o item x)
long_goes room o k item other e f one only sound x able =
    repeated_goes room o (ranked relation room x ++ anywhere k ∷ []) (operator_at k o) k item e f (one_word o k other only) sound x able
    (ap (λ (ps : List Piece). ranked relation room x ++ ps) (sym one))

pub logical_goes : (room : ℕ) (item : Phrase ExpressionTree) → Sound (ranked relation room) item → (x : ExpressionTree) → Able (ranked relation room x) → Goes (ranked relation room x) (expression_pieces room) (logical_from item x)
unfolding logical_from
logical_goes room item sound x able =
    choose_goes (ranked relation room x) (expression_pieces room) (at (reserved word.And)) _ _ (λ t ts us. refl)
    (after_goes (ranked relation room x) (expression_pieces room) (reserved word.And) _ refl
    (choose_goes (ranked relation room x ++ anywhere (reserved word.And) ∷ []) (expression_pieces room) (at (reserved word.Then)) _ _ (λ t ts us. refl)
    (short_goes room binary.AndThen (reserved word.And) (reserved word.Then) item refl refl refl refl refl refl sound x able)
    (long_goes room binary.And (reserved word.And) item refl refl refl refl refl sound x able)))
    (choose_goes (ranked relation room x) (expression_pieces room) (at (reserved word.Or)) _ _ (λ t ts us. refl)
    (after_goes (ranked relation room x) (expression_pieces room) (reserved word.Or) _ refl
    (choose_goes (ranked relation room x ++ anywhere (reserved word.Or) ∷ []) (expression_pieces room) (at (reserved word.Else)) _ _ (λ t ts us. refl)
    (short_goes room binary.OrElse (reserved word.Or) (reserved word.Else) item refl refl refl refl refl refl sound x able)
    (long_goes room binary.Or (reserved word.Or) item refl refl refl refl refl sound x able)))
    (choose_goes (ranked relation room x) (expression_pieces room) (at (reserved word.Xor)) _ _ (λ t ts us. refl)
    (after_goes (ranked relation room x) (expression_pieces room) (reserved word.Xor) _ refl
    (long_goes room binary.Xor (reserved word.Xor) item refl refl refl refl refl sound x able))
    (ends_here (ranked relation room x) (expression_pieces room) x (sym (ranked_is relation room x able)))))

-- ---- the phrases, of what stands inside a level

-- What stands inside a level is written so.
pub record InsideSound (room : ℕ) (inner : Phrase ExpressionTree) (listed : Phrase ItemsTree) : Type 0 where
  pub expression : Sound (expression_pieces (room - 1)) inner
  pub items : Sound (items_pieces (room - 1)) listed

close_sound : Sound (λ _. anywhere (delimiter mark.RightParenthesis) ∷ []) (after (delimiter mark.RightParenthesis) nothing)
close_sound = after_sound (delimiter mark.RightParenthesis) refl nothing_sound

abbrev enclosed_items_pieces : ℕ → ItemsTree → List Piece
enclosed_items_pieces room items = opening room (delimiter mark.LeftParenthesis) ∷ items_pieces (room - 1) items ++ anywhere (delimiter mark.RightParenthesis) ∷ []

pub enclosed_items_sound : {inner : Phrase ExpressionTree} {items : Phrase ItemsTree} (room : ℕ) → InsideSound room inner items → Sound (enclosed_items_pieces room) (enclosed_items_in room items)
unfolding enclosed_items_in
enclosed_items_sound room deeper = opened_sound room (delimiter mark.LeftParenthesis) refl
    (mapped_sound (λ is. items_pieces (room - 1) is ++ anywhere (delimiter mark.RightParenthesis) ∷ []) (λ (x : ItemsTree × Unit {0}). x.0) (both_sound deeper.items close_sound) (λ x able. refl))

pub led_goes : {inner : Phrase ExpressionTree} {items : Phrase ItemsTree} (room : ℕ) → InsideSound room inner items → (first : Ident) → Goes (ident_pieces first) (ranked primary room) (primary_led room items first)
unfolding primary_led
led_goes room deeper first = choose_goes (ident_pieces first) (ranked primary room) (at (delimiter mark.Tick)) _ _ (λ t ts us. refl)
    (after_goes (ident_pieces first) (ranked primary room) (delimiter mark.Tick) _ refl
    (mapped_goes (ident_pieces first ++ anywhere (delimiter mark.Tick) ∷ []) (ranked primary room) (aggregate_expression first) (enclosed_items_sound room deeper) (λ x able. refl)))
    (goes_mapped (ranked primary room) path_expression (tt, tt) (path_goes first) (λ x able. refl))

pub primary_sound : {inner : Phrase ExpressionTree} {items : Phrase ItemsTree} (room : ℕ) → InsideSound room inner items → Sound (ranked primary room) (primary_in room inner items)
unfolding primary_in
primary_sound room deeper = choose_sound (ranked primary room) (is_at is_number) _ _ (λ t ts us. refl) (mapped_sound (ranked primary room) number_from_parts number_sound (λ x able. refl))
    (choose_sound (ranked primary room) (at (reserved word.Null)) _ _ (λ t ts us. refl) (mapped_sound (ranked primary room) null_expression (placed_sound (reserved word.Null) refl) (λ x able. refl))
    (choose_sound (ranked primary room) (at (delimiter mark.LeftParenthesis)) _ _ (λ t ts us. refl)
    (mapped_sound (ranked primary room) enclosed_from (both_sound (opening_sound room (delimiter mark.LeftParenthesis) refl) (both_sound deeper.expression close_sound)) (λ x able. refl))
    (continued_sound (ranked primary room) _ identifier_sound (λ i able. led_goes room deeper i))))

-- what stands behind a sign or `not`
operand_is : (p : Piece) (room : ℕ) (r : Rank) (e : ExpressionTree) → Able (p ∷ ranked r room e) → guarded (is_at_most r e) (p ∷ expression_pieces room e) ≡ p ∷ ranked r room e
operand_is p room r e able =
    guard_true (is_at_most r e) (p ∷ expression_pieces room e) (guard_holds (is_at_most r e) (expression_pieces room e) able.1) ∙
    ap (λ (ps : List Piece). p ∷ ps) (sym (ranked_is r room e able.1))

pub factor_sound : {inner : Phrase ExpressionTree} {items : Phrase ItemsTree} (room : ℕ) → InsideSound room inner items → Sound (ranked factor room) (factor_in room inner items)
unfolding factor_in
factor_sound room deeper = choose_sound (ranked factor room) (at (reserved word.Not)) _ _ (λ t ts us. refl)
    (mapped_sound (ranked factor room) not_from (both_sound (placed_sound (reserved word.Not) refl) (primary_sound room deeper))
    (λ x able. operand_is (placed (reserved word.Not) x.0) room primary x.1 able))
    (sound_as (ranked factor room) (primary_sound room deeper) (λ x able. ranked_wider primary factor room x refl able))

pub term_sound : {inner : Phrase ExpressionTree} {items : Phrase ItemsTree} (room : ℕ) → InsideSound room inner items → Sound (ranked term room) (term_in room inner items)
unfolding term_in
term_sound room deeper = continued_sound (ranked term room) _ (sound_as (ranked term room) (factor_sound room deeper) (λ x able. ranked_wider factor term room x refl able))
    (λ x able. term_goes room _ (factor_sound room deeper) x able)

abbrev sign_pieces : UnaryOperator × Spot → List Piece
sign_pieces x = guarded (eqb (number_of (unary_rank x.0)) (number_of sum)) (placed (unary_kind x.0) x.1 ∷ [])

sign_sound : Sound sign_pieces sign_at
unfolding sign_at
sign_sound = choose_sound sign_pieces (at (delimiter mark.Plus)) _ _ (λ t ts us. refl)
    (mapped_sound sign_pieces (λ spot. (unary.Plus, spot)) (placed_sound (delimiter mark.Plus) refl) (λ x able. refl))
    (mapped_sound sign_pieces (λ spot. (unary.Minus, spot)) (placed_sound (delimiter mark.Minus) refl) (λ x able. refl))

signed_is : (room : ℕ) (operator : UnaryOperator) (spot : Spot) (e : ExpressionTree) → Able (sign_pieces (operator, spot) ++ ranked term room e) → ranked sum room (unary_expression operator spot e) ≡ sign_pieces (operator, spot) ++ ranked term room e
signed_is room unary.Plus spot e able = operand_is (placed (delimiter mark.Plus) spot) room term e able
signed_is room unary.Minus spot e able = operand_is (placed (delimiter mark.Minus) spot) room term e able
signed_is room unary.Not spot e able = absurd able.0

pub first_term_sound : {inner : Phrase ExpressionTree} {items : Phrase ItemsTree} (room : ℕ) → InsideSound room inner items → Sound (ranked sum room) (first_term_in room inner items)
unfolding first_term_in
first_term_sound room deeper = choose_sound (ranked sum room) at_adding _ _ (λ t ts us. refl)
    (mapped_sound (ranked sum room) signed_from (both_sound sign_sound (term_sound room deeper)) (λ x able. signed_is room x.0.0 x.0.1 x.1 able))
    (sound_as (ranked sum room) (term_sound room deeper) (λ x able. ranked_wider term sum room x refl able))

pub sum_sound : {inner : Phrase ExpressionTree} {items : Phrase ItemsTree} (room : ℕ) → InsideSound room inner items → Sound (ranked sum room) (sum_in room inner items)
unfolding sum_in
sum_sound room deeper = continued_sound (ranked sum room) _ (first_term_sound room deeper) (λ x able. sum_goes room _ (term_sound room deeper) x able)

pub relation_sound : {inner : Phrase ExpressionTree} {items : Phrase ItemsTree} (room : ℕ) → InsideSound room inner items → Sound (ranked relation room) (relation_in room inner items)
unfolding relation_in
relation_sound room deeper = continued_sound (ranked relation room) _ (sum_sound room deeper) (λ x able. relation_goes room _ (sum_sound room deeper) x able)

pub expression_in_sound : {inner : Phrase ExpressionTree} {items : Phrase ItemsTree} (room : ℕ) → InsideSound room inner items → Sound (expression_pieces room) (expression_in room inner items)
unfolding expression_in
expression_in_sound room deeper = continued_sound (expression_pieces room) _ (relation_sound room deeper) (λ x able. logical_goes room _ (relation_sound room deeper) x able)

-- ---- what stands behind a first primary

wide_able : (a b : Rank) (room : ℕ) (x : ExpressionTree) → leb (number_of a) (number_of b) ≡ true → Able (ranked a room x) → Able (ranked b room x)
wide_able a b room x e able = subst Able (sym (ranked_wider a b room x e able)) able

pub behind_goes : {inner : Phrase ExpressionTree} {items : Phrase ItemsTree} (room : ℕ) → InsideSound room inner items → (x : ExpressionTree) → Able (ranked primary room x) → Goes (ranked primary room x) (expression_pieces room) (behind_primary room inner items x)
unfolding behind_primary
behind_goes room deeper x able =
    goes_on (expression_pieces room) _ able
    (goes_on (ranked relation room) _ able
    (goes_on (ranked sum room) _ able
    (goes_front (term_goes room _ (factor_sound room deeper) x (wide_able primary term room x refl able)) (ranked_wider primary term room x refl able))
    (λ t able_t. goes_front (sum_goes room _ (term_sound room deeper) t (wide_able term sum room t refl able_t)) (ranked_wider term sum room t refl able_t)))
    (λ s able_s. relation_goes room _ (sum_sound room deeper) s able_s))
    (λ r able_r. logical_goes room _ (relation_sound room deeper) r able_r)

pub expression_led_goes : {inner : Phrase ExpressionTree} {items : Phrase ItemsTree} (room : ℕ) → InsideSound room inner items → (first : Ident) → Goes (ident_pieces first) (expression_pieces room) (expression_led room inner items first)
unfolding expression_led
expression_led_goes room deeper first = goes_on (expression_pieces room) _ (tt, tt) (led_goes room deeper first) (λ x able. behind_goes room deeper x able)

-- ---- items

-- `C => null`
abbrev pub item_pieces : ℕ → Option Ident × ExpressionTree → List Piece
item_pieces room x = label_pieces x.0 ++ expression_pieces room x.1

-- `, C => null`
abbrev pub next_item_pieces : ℕ → Option Ident × ExpressionTree → List Piece
next_item_pieces room x = anywhere (delimiter mark.Comma) ∷ item_pieces room x

pub item_sound : {inner : Phrase ExpressionTree} {items : Phrase ItemsTree} (room : ℕ) → InsideSound room inner items → Sound (item_pieces room) (item_in room inner items)
unfolding item_in
item_sound room deeper = choose_sound (item_pieces room) (is_at is_identifier) _ _ (λ t ts us. refl)
    (continued_sound (item_pieces room) _ identifier_sound
    (λ first able. choose_goes (ident_pieces first) (item_pieces room) (at (delimiter mark.Arrow)) _ _ (λ t ts us. refl)
    (mapped_goes (ident_pieces first) (item_pieces room) (labelled first) (after_sound (delimiter mark.Arrow) refl (expression_in_sound room deeper)) (λ x able_x. refl))
    (goes_mapped (item_pieces room) positional able (expression_led_goes room deeper first) (λ x able_x. refl))))
    (mapped_sound (item_pieces room) positional (expression_in_sound room deeper) (λ x able. refl))

pub more_items_are : (room : ℕ) (xs : List (Option Ident × ExpressionTree)) → more_items_pieces room (items_from xs) ≡ flat_map (next_item_pieces room) xs
more_items_are room [] = refl
more_items_are room (x ∷ xs) =
    ap (λ (ps : List Piece). (anywhere (delimiter mark.Comma) ∷ (label_pieces x.0 ++ expression_pieces room x.1)) ++ ps) (more_items_are room xs) ∙
    sym (flat_map-cons (next_item_pieces room) x xs)

pub all_items_are : (room : ℕ) (x : (Option Ident × ExpressionTree) × (List (Option Ident × ExpressionTree) × Unit {0})) → items_pieces room (all_items_from x) ≡ item_pieces room x.0 ++ (flat_map (next_item_pieces room) x.1.0 ++ [])
all_items_are room x = ap (λ (ps : List Piece). (label_pieces x.0.0 ++ expression_pieces room x.0.1) ++ ps) (more_items_are room x.1.0 ∙ sym (append-nil (flat_map (next_item_pieces room) x.1.0)))

pub items_in_sound : {inner : Phrase ExpressionTree} {items : Phrase ItemsTree} (room : ℕ) → InsideSound room inner items → Sound (items_pieces room) (items_in room inner items)
unfolding items_in
items_in_sound room deeper = mapped_sound (items_pieces room) all_items_from
    (both_sound (item_sound room deeper) (both_sound (all_sound (at (delimiter mark.Comma)) (λ t ts us. refl) (λ x able. refl) (after_sound (delimiter mark.Comma) refl (item_sound room deeper))) nothing_sound))
    (λ x able. all_items_are room x)

-- ---- by the room

pub less_one : (room : ℕ) → room ≡ suc room - 1
less_one room = omega arith

pub inside_sound : (room : ℕ) → InsideSound room (inside room).expression (inside room).items
unfolding inside
inside_sound zero = record {
  expression = refuses_sound (expression_pieces 0) (null_expression some_spot, ((tt, tt), refl));
  items = refuses_sound (items_pieces 0) (an_item None (null_expression some_spot) no_more_items, ((tt, tt), refl));
}
inside_sound (suc room) = record {
  expression = subst (λ (n : ℕ). Sound (expression_pieces n) (inside (suc room)).expression) (less_one room) (expression_in_sound room (inside_sound room));
  items = subst (λ (n : ℕ). Sound (items_pieces n) (inside (suc room)).items) (less_one room) (items_in_sound room (inside_sound room));
}

pub expression_sound : (room : ℕ) → Sound (expression_pieces room) (expression_at room)
unfolding expression_at
expression_sound room = expression_in_sound room (inside_sound room)
