-- What is written so is read so: expressions at any depth of nesting, right sides and arguments.
use Rattle.std.proofs.Common.{◌≡◌, ℕ, zero, suc, Bool, true, false, List, [], ◌∷◌, ◌++◌, Option, Some, None, Ok, Err, refl, sym, ap, subst, ◌∙◌, append_assoc}
use Rattle.std.specs.Prelude.{◌-◌}
use Rattle.std.specs.List.{flat_map}
use Rattle.ada_text.specs.declared.spot.Spot.{Spot}
use Rattle.ada_text.specs.declared.word.Word.TheVariants as word
use Rattle.ada_text.specs.declared.delimiter.Delimiter.TheVariants as mark
use Rattle.ada_text.specs.Token.{Kind, identifier, number, string, reserved, delimiter, Lexeme}
use Rattle.ada_tree.specs.Piece.{Piece, anywhere, opening}
use Rattle.ada_tree.specs.Names.{Ident, SelectorTree, component, dereference, PathTree, is_name, ident_pieces, selector_pieces}
use Rattle.ada_tree.specs.Expressions.{ExpressionTree, path_expression, aggregate_expression, ItemsTree, no_more_items, an_item, RightTree, expression_right, allocator_right, creation_right, ArgumentTree, expression_argument, text_argument, attribute_argument, logical, expression_pieces, items_pieces, aggregate_pieces, handle_pieces, right_pieces, initial_pieces, argument_pieces}
use Rattle.ada_reader.specs.Step.{◌>>=◌, Phrase, Outcome, Stopped, here, too_deep, spot_of, is_kind, is_identifier, is_string, is_at, at, fixed, identifier_at, continued, mapped, choose}
use Rattle.ada_phrases.specs.Expressions.{path_led, primary_led, factor_in, term_in, relation_in, behind_primary, expression_led, enclosed_items_in, inside, expression_at, aggregate_at, enclosed_identifier_at, handle_at, allocator_from, allocator_at, creation_from, behind_path, right_led, right_at, initial_at, text_from, attribute_from, behind_tick, argument_led, argument_at}
use Rattle.ada_parser.proofs.Sound.{ok_is, done, kind_is}
use Rattle.ada_parser.proofs.Local.{Plain}
use Rattle.ada_parser.proofs.Complete.{Follow, Next, any, unless, before, Leads, Complete, sinks, expected, before_next, leads_first, leads_any, leads_same, leads_before, complete_as, weaken, guarded_complete, nothing_complete, mapped_complete, continued_complete, both_complete, choose_true, choose_false, placed_complete, after_complete, opened_complete, identifier_complete, string_complete}
use Rattle.ada_parser.proofs.ExpressionTexts.{past, Unopened, Inner, one_less, closing_complete, enclosed_items_complete, path_complete, expression_leads, expression_complete}
use Rattle.ada_parser.proofs.ItemTexts.{complete_before, led_same, ends_at_parenthesis, past_item, past_is, mapped_same, items_complete}

-- ---- the knot

-- How the phrases of expressions look ahead.
pub record Looks (room : ℕ) : Type 0 where
  pub plain_factor : Plain (factor_in room (inside room).expression (inside room).items)
  pub plain_term : Plain (term_in room (inside room).expression (inside room).items)
  pub plain_relation : Plain (relation_in room (inside room).expression (inside room).items)

one_deeper : (room less : ℕ) → suc room ≡ suc less → room ≡ less
one_deeper room less e = cc

closes : (rest : List Lexeme) → Next (before (delimiter mark.RightParenthesis)) rest → Next (past logical) rest
closes rest n = before_next (delimiter mark.RightParenthesis) (past logical) rest refl n

pub knot : ((n : ℕ) → Looks n) → (room : ℕ) → Inner room (inside room).expression (inside room).items
unfolding inside
knot looks zero = record {
  expression = λ less e. absurd (let c : ⊥ = cc in c);
  listed = λ less e. absurd (let c : ⊥ = cc in c);
  plain_factor = (looks zero).plain_factor;
  plain_term = (looks zero).plain_term;
  plain_relation = (looks zero).plain_relation;
}
knot looks (suc room) = record {
  expression = λ less e x. subst (λ n. Complete (expression_pieces n x) (inside (suc room)).expression x (before (delimiter mark.RightParenthesis))) (one_deeper room less e) (complete_before (expression_complete room (knot looks room) x) closes);
  listed = λ less e xs. subst (λ n. Complete (items_pieces n xs) (inside (suc room)).items xs (before (delimiter mark.RightParenthesis))) (one_deeper room less e) (items_complete room (knot looks room) xs);
  plain_factor = (looks (suc room)).plain_factor;
  plain_term = (looks (suc room)).plain_term;
  plain_relation = (looks (suc room)).plain_relation;
}

pub expression_at_complete : ((n : ℕ) → Looks n) → (room : ℕ) (e : ExpressionTree) → Complete (expression_pieces room e) (expression_at room) e (past logical)
unfolding expression_at
expression_at_complete looks room e = expression_complete room (knot looks room) e

-- ---- right sides

enclosed_identifier_complete : (room : ℕ) (i : Ident) → Complete (opening room (delimiter mark.LeftParenthesis) ∷ (ident_pieces i ++ anywhere (delimiter mark.RightParenthesis) ∷ [])) (enclosed_identifier_at room) i any
unfolding enclosed_identifier_at
enclosed_identifier_complete room i = opened_complete room (delimiter mark.LeftParenthesis) refl
    (λ less e. mapped_complete (λ (x : Ident × Unit {0}). x.0) (both_complete (identifier_complete i) closing_complete leads_any))

leads_open : {ps : List Piece} {g f : Follow} (k : Kind) (room : ℕ) → f.test k ≡ f.value → Leads (opening room k ∷ ps) g f
leads_open k zero e = leads_first e
leads_open k (suc room) e = leads_first e

handle_complete : (room : ℕ) (h : Option Ident) → Complete (handle_pieces room h) (handle_at room) h (unless (delimiter mark.LeftParenthesis))
unfolding handle_at
handle_complete room None = choose_false (weaken (mapped_complete (λ _. None) nothing_complete)) leads_same
handle_complete room (Some i) = choose_true (weaken (mapped_complete Some (enclosed_identifier_complete room i))) (leads_open (delimiter mark.LeftParenthesis) room refl)

aggregate_complete : ((n : ℕ) → Looks n) → (room : ℕ) (xs : ItemsTree) → Complete (aggregate_pieces room xs) (aggregate_at room) xs (unless (delimiter mark.Tick))
unfolding aggregate_at
aggregate_complete looks room no_more_items = choose_false (weaken (mapped_complete (λ _. no_more_items) nothing_complete)) leads_same
aggregate_complete looks room (an_item label value rest) = choose_true (weaken (after_complete refl (enclosed_items_complete room (knot looks room) (an_item label value rest)))) (leads_first refl)

allocator_complete : ((n : ℕ) → Looks n) → (room : ℕ) (spot : Spot) (handle : Option Ident) (type_name : Ident) (xs : ItemsTree) → Complete (right_pieces room (allocator_right spot handle type_name xs)) (allocator_at room) (allocator_right spot handle type_name xs) (unless (delimiter mark.Tick))
unfolding allocator_at
allocator_complete looks room spot handle type_name xs = complete_as (mapped_complete allocator_from (both_complete (placed_complete spot refl)
    (both_complete (handle_complete room handle) (both_complete (identifier_complete type_name) (aggregate_complete looks room xs) leads_any) (leads_first refl)) leads_any)) (simp append_assoc)

no_new : Unopened (unless (reserved word.New))
no_new = record { by_number = λ n. refl; by_null = refl; by_name = λ t. refl; by_parenthesis = refl; by_not = refl }

no_string : Unopened (record { test = is_string; value = false })
no_string = record { by_number = λ n. refl; by_null = refl; by_name = λ t. refl; by_parenthesis = refl; by_not = refl }

-- What stands behind a right side.
abbrev pub past_right : Follow
past_right = before (delimiter mark.Semicolon)

ends_right : (rest : List Lexeme) → Next past_right rest → Next (past logical) rest
ends_right rest n = before_next (delimiter mark.Semicolon) (past logical) rest refl n

no_parenthesis : (rest : List Lexeme) → Next past_right rest → at (delimiter mark.LeftParenthesis) rest ≡ true → ⊥
no_parenthesis rest n a = let b : at (delimiter mark.LeftParenthesis) rest ≡ false = before_next (delimiter mark.Semicolon) (unless (delimiter mark.LeftParenthesis)) rest refl n in (let c : true ≡ false = sym a ∙ b in cc)

parenthesis_first : (e x : ExpressionTree) (ts rest : List Lexeme) (o : Option Spot) → Next past_right rest → at (delimiter mark.LeftParenthesis) ts ≡ true → done (x, ts) ≡ expected o e rest → ⊥
parenthesis_first e x ts rest None n a h = no_parenthesis rest n (subst (λ (us : List Lexeme). at (delimiter mark.LeftParenthesis) us ≡ true) (ap (λ (z : ExpressionTree × List Lexeme). z.1) (ok_is (x, ts) (e, rest) h)) a)
parenthesis_first e x ts rest (Some spot) n a h = cc

-- what stands behind a path
behind_is : (room : ℕ) (path : PathTree) (mid : List Lexeme) (e : ExpressionTree) (rest : List Lexeme) (o : Option Spot) (b c : Bool) → at (delimiter mark.LeftParenthesis) mid ≡ c → Next past_right rest → behind_primary room (inside room).expression (inside room).items (path_expression path) mid ≡ expected o e rest → behind_path room path b mid ≡ expected o (expression_right e) rest
behind_is room path mid e rest o false c a n h = mapped_same expression_right (behind_primary room (inside room).expression (inside room).items (path_expression path) mid) o e rest h
behind_is room path mid e rest o true false a n h = rw a (mapped_same expression_right (behind_primary room (inside room).expression (inside room).items (path_expression path) mid) o e rest h)
behind_is room path [] e rest o true true a n h = absurd cc
behind_is room path (t ∷ ts) e rest o true true a n h =
    absurd (parenthesis_first e (path_expression path) (t ∷ ts) rest o n a (sym (ends_at_parenthesis room (inside room).expression (inside room).items (path_expression path) t ts (kind_is (delimiter mark.LeftParenthesis) t.kind a)) ∙ h))

-- a path as an expression
abbrev as_path : Outcome PathTree → Outcome ExpressionTree
as_path r = r >>= λ x. Ok (path_expression x.0, x.1)

behind_read : (room : ℕ) (r : Outcome PathTree) (e : ExpressionTree) (rest : List Lexeme) (o : Option Spot) → Next past_right rest → (as_path r >>= λ x. behind_primary room (inside room).expression (inside room).items x.0 x.1) ≡ expected o e rest → (r >>= λ x. behind_path room x.0 (is_name x.0.selectors) x.1) ≡ expected o (expression_right e) rest
behind_read room (Ok x) e rest o n h = behind_is room x.0 x.1 e rest o (is_name x.0.selectors) (at (delimiter mark.LeftParenthesis) x.1) refl n h
behind_read room (Err s) e rest None n h = absurd cc
behind_read room (Err s) e rest (Some spot) n h = let g : s ≡ too_deep spot = cc in ap Err g

led_is_path : (room : ℕ) (i : Ident) (ts : List Lexeme) → at (delimiter mark.Tick) ts ≡ false → (as_path (path_led i ts) >>= λ x. behind_primary room (inside room).expression (inside room).items x.0 x.1) ≡ expression_led room (inside room).expression (inside room).items i ts
unfolding expression_led primary_led
led_is_path room i ts a = rw a refl

right_by : (room : ℕ) (i : Ident) (ts : List Lexeme) (e : ExpressionTree) (rest : List Lexeme) (o : Option Spot) (b : Bool) → at (delimiter mark.Tick) ts ≡ b → Next past_right rest → expression_led room (inside room).expression (inside room).items i ts ≡ expected o e rest → right_led room i ts ≡ expected o (expression_right e) rest
unfolding right_led
right_by room i ts e rest o true a n h = rw a (mapped_same expression_right (expression_led room (inside room).expression (inside room).items i ts) o e rest h)
right_by room i ts e rest o false a n h = rw a (behind_read room (path_led i ts) e rest o n (led_is_path room i ts a ∙ h))

-- a right side that is an expression, behind the test for `new`
abbrev right_else : ℕ → Phrase RightTree
right_else room = choose (is_at is_identifier) (continued identifier_at (right_led room)) (mapped expression_right (expression_at room))

right_of_kind : (room : ℕ) (e : ExpressionTree) (rest : List Lexeme) (o : Option Spot) (t : Lexeme) (ts : List Lexeme) (k : Kind) → t.kind ≡ k → Next past_right rest → expression_at room (t ∷ ts) ≡ expected o e rest → right_else room (t ∷ ts) ≡ expected o (expression_right e) rest
unfolding identifier_at expression_at
right_of_kind room e rest o t ts (identifier text) k n h =
    rw k (right_by room (record { text = text; spot = spot_of t }) ts e rest o (at (delimiter mark.Tick) ts) refl n (sym (led_same room (inside room).expression (inside room).items text t ts k) ∙ h))
right_of_kind room e rest o t ts (number m) k n h = let a : is_identifier t.kind ≡ false = ap is_identifier k in rw a (mapped_same expression_right (expression_at room (t ∷ ts)) o e rest h)
right_of_kind room e rest o t ts (string m) k n h = let a : is_identifier t.kind ≡ false = ap is_identifier k in rw a (mapped_same expression_right (expression_at room (t ∷ ts)) o e rest h)
right_of_kind room e rest o t ts (reserved m) k n h = let a : is_identifier t.kind ≡ false = ap is_identifier k in rw a (mapped_same expression_right (expression_at room (t ∷ ts)) o e rest h)
right_of_kind room e rest o t ts (delimiter m) k n h = let a : is_identifier t.kind ≡ false = ap is_identifier k in rw a (mapped_same expression_right (expression_at room (t ∷ ts)) o e rest h)

right_reads : (room : ℕ) (e : ExpressionTree) (rest : List Lexeme) (o : Option Spot) (ts : List Lexeme) → Next past_right rest → expression_at room ts ≡ expected o e rest → right_else room ts ≡ expected o (expression_right e) rest
right_reads room e rest o [] n h = mapped_same expression_right (expression_at room []) o e rest h
right_reads room e rest o (t ∷ ts) n h = right_of_kind room e rest o t ts t.kind refl n h

right_expression : ((n : ℕ) → Looks n) → (room : ℕ) (e : ExpressionTree) → Complete (expression_pieces room e) (right_at room) (expression_right e) past_right
unfolding right_at
right_expression looks room e = choose_false (record { reads = λ ts rest w n. right_reads room e rest (sinks (expression_pieces room e) ts) ts n ((expression_at_complete looks room e).reads ts rest w (ends_right rest n)) })
    (expression_leads room no_new refl refl e)

selectors_no_tick : (ps : List Piece) (room : ℕ) (ss : List SelectorTree) {g : Follow} → Leads (flat_map selector_pieces ss ++ opening room (delimiter mark.LeftParenthesis) ∷ ps) g (unless (delimiter mark.Tick))
selectors_no_tick ps room [] = leads_open (delimiter mark.LeftParenthesis) room refl
selectors_no_tick ps room (component i ∷ ss) = leads_first refl
selectors_no_tick ps room (dereference spot ∷ ss) = leads_first refl

named_complete : (room : ℕ) (function : PathTree) (argument : Ident) (b : Bool) → b ≡ true → Complete (opening room (delimiter mark.LeftParenthesis) ∷ (ident_pieces argument ++ anywhere (delimiter mark.RightParenthesis) ∷ [])) (behind_path room function b) (creation_right function argument) past_right
named_complete room function argument false e = absurd cc
named_complete room function argument true e = choose_true (weaken (mapped_complete (creation_from function) (enclosed_identifier_complete room argument))) (leads_open (delimiter mark.LeftParenthesis) room refl)

creation_complete : (room : ℕ) (function : PathTree) (argument : Ident) → Complete (right_pieces room (creation_right function argument)) (right_at room) (creation_right function argument) past_right
unfolding right_at right_led
creation_complete room function argument = guarded_complete (is_name function.selectors) (λ g.
    complete_as (choose_false (choose_true (continued_complete (right_led room) (identifier_complete function.root)
    (choose_false (continued_complete (λ path. behind_path room path (is_name path.selectors)) (path_complete function.root function.selectors)
    (named_complete room function argument (is_name function.selectors) g)
    (leads_open (delimiter mark.LeftParenthesis) room refl)) (selectors_no_tick _ room function.selectors)) leads_any) (leads_first refl)) (leads_first refl)) (simp append_assoc))

ends_allocator : (rest : List Lexeme) → Next past_right rest → Next (unless (delimiter mark.Tick)) rest
ends_allocator rest n = before_next (delimiter mark.Semicolon) (unless (delimiter mark.Tick)) rest refl n

pub right_complete : ((n : ℕ) → Looks n) → (room : ℕ) (r : RightTree) → Complete (right_pieces room r) (right_at room) r past_right
unfolding right_at
right_complete looks room (expression_right e) = right_expression looks room e
right_complete looks room (creation_right function argument) = creation_complete room function argument
right_complete looks room (allocator_right spot handle type_name xs) = choose_true (complete_before (allocator_complete looks room spot handle type_name xs) ends_allocator) (leads_first refl)

pub initial_complete : ((n : ℕ) → Looks n) → (room : ℕ) (v : Option RightTree) → Complete (initial_pieces room v) (initial_at room) v past_right
unfolding initial_at
initial_complete looks room None = choose_false (weaken (mapped_complete (λ _. None) nothing_complete)) (leads_before (delimiter mark.Semicolon) refl)
initial_complete looks room (Some r) = choose_true (mapped_complete Some (after_complete refl (right_complete looks room r))) (leads_first refl)

-- ---- arguments

not_opening : (k : Kind) → is_identifier k ≡ true → is_kind (delimiter mark.LeftParenthesis) k ≡ false
not_opening (identifier text) e = refl
not_opening (number n) e = absurd cc
not_opening (string n) e = absurd cc
not_opening (reserved n) e = absurd cc
not_opening (delimiter n) e = absurd cc

-- items in parentheses do not begin with an identifier
no_items : (room : ℕ) (items : Phrase ItemsTree) (t : Lexeme) (ts : List Lexeme) → is_identifier t.kind ≡ true → enclosed_items_in room items (t ∷ ts) ≡ Err (here (t ∷ ts))
unfolding enclosed_items_in fixed
no_items room items t ts a = let b : is_kind (delimiter mark.LeftParenthesis) t.kind ≡ false = not_opening t.kind a in rw b refl

-- an aggregate as an expression
abbrev as_aggregate : Ident → Outcome ItemsTree → Outcome ExpressionTree
as_aggregate i r = r >>= λ x. Ok (aggregate_expression i x.0, x.1)

led_is_aggregate : (room : ℕ) (i : Ident) (t : Lexeme) (ts : List Lexeme) → is_kind (delimiter mark.Tick) t.kind ≡ true → (as_aggregate i (enclosed_items_in room (inside room).items ts) >>= λ x. behind_primary room (inside room).expression (inside room).items x.0 x.1) ≡ expression_led room (inside room).expression (inside room).items i (t ∷ ts)
unfolding expression_led primary_led fixed
led_is_aggregate room i t ts k = rw k refl

abbrev stopped : Stopped → Outcome ExpressionTree
stopped s = Err s

nothing_there : (ts : List Lexeme) (e : ExpressionTree) (rest : List Lexeme) (o : Option Spot) → stopped (here ts) ≡ expected o e rest → ⊥
nothing_there ts e rest None h = cc
nothing_there ts e rest (Some spot) h = let g : here ts ≡ too_deep spot = cc in (let c : ⊥ = cc in c)

argument_tick : (room : ℕ) (i : Ident) (ts : List Lexeme) (e : ExpressionTree) (rest : List Lexeme) (o : Option Spot) (b : Bool) → is_at is_identifier ts ≡ b → (as_aggregate i (enclosed_items_in room (inside room).items ts) >>= λ x. behind_primary room (inside room).expression (inside room).items x.0 x.1) ≡ expected o e rest → behind_tick room i ts ≡ expected o (expression_argument e) rest
unfolding behind_tick
argument_tick room i ts e rest o false a h = rw a (mapped_same expression_argument (as_aggregate i (enclosed_items_in room (inside room).items ts) >>= λ x. behind_primary room (inside room).expression (inside room).items x.0 x.1) o e rest h)
argument_tick room i [] e rest o true a h = absurd cc
argument_tick room i (t ∷ ts) e rest o true a h = absurd (nothing_there (t ∷ ts) e rest o (rw (no_items room (inside room).items t ts a) at h))

argument_by : (room : ℕ) (i : Ident) (ts : List Lexeme) (e : ExpressionTree) (rest : List Lexeme) (o : Option Spot) (b : Bool) → at (delimiter mark.Tick) ts ≡ b → expression_led room (inside room).expression (inside room).items i ts ≡ expected o e rest → argument_led room i ts ≡ expected o (expression_argument e) rest
unfolding argument_led fixed
argument_by room i ts e rest o false a h = rw a (mapped_same expression_argument (as_path (path_led i ts) >>= λ x. behind_primary room (inside room).expression (inside room).items x.0 x.1) o e rest (led_is_path room i ts a ∙ h))
argument_by room i [] e rest o true a h = absurd cc
argument_by room i (t ∷ ts) e rest o true a h = rw a (argument_tick room i ts e rest o (is_at is_identifier ts) refl (led_is_aggregate room i t ts a ∙ h))

-- an argument that is an expression, behind the test for a string
abbrev argument_else : ℕ → Phrase ArgumentTree
argument_else room = choose (is_at is_identifier) (continued identifier_at (argument_led room)) (mapped expression_argument (expression_at room))

argument_of_kind : (room : ℕ) (e : ExpressionTree) (rest : List Lexeme) (o : Option Spot) (t : Lexeme) (ts : List Lexeme) (k : Kind) → t.kind ≡ k → expression_at room (t ∷ ts) ≡ expected o e rest → argument_else room (t ∷ ts) ≡ expected o (expression_argument e) rest
unfolding identifier_at expression_at
argument_of_kind room e rest o t ts (identifier text) k h =
    rw k (argument_by room (record { text = text; spot = spot_of t }) ts e rest o (at (delimiter mark.Tick) ts) refl (sym (led_same room (inside room).expression (inside room).items text t ts k) ∙ h))
argument_of_kind room e rest o t ts (number m) k h = let a : is_identifier t.kind ≡ false = ap is_identifier k in rw a (mapped_same expression_argument (expression_at room (t ∷ ts)) o e rest h)
argument_of_kind room e rest o t ts (string m) k h = let a : is_identifier t.kind ≡ false = ap is_identifier k in rw a (mapped_same expression_argument (expression_at room (t ∷ ts)) o e rest h)
argument_of_kind room e rest o t ts (reserved m) k h = let a : is_identifier t.kind ≡ false = ap is_identifier k in rw a (mapped_same expression_argument (expression_at room (t ∷ ts)) o e rest h)
argument_of_kind room e rest o t ts (delimiter m) k h = let a : is_identifier t.kind ≡ false = ap is_identifier k in rw a (mapped_same expression_argument (expression_at room (t ∷ ts)) o e rest h)

argument_reads : (room : ℕ) (e : ExpressionTree) (rest : List Lexeme) (o : Option Spot) (ts : List Lexeme) → expression_at room ts ≡ expected o e rest → argument_else room ts ≡ expected o (expression_argument e) rest
argument_reads room e rest o [] h = mapped_same expression_argument (expression_at room []) o e rest h
argument_reads room e rest o (t ∷ ts) h = argument_of_kind room e rest o t ts t.kind refl h

argument_expression : ((n : ℕ) → Looks n) → (room : ℕ) (e : ExpressionTree) → Complete (expression_pieces room e) (argument_at room) (expression_argument e) past_item
unfolding argument_at
argument_expression looks room e = choose_false (record { reads = λ ts rest w n. argument_reads room e rest (sinks (expression_pieces room e) ts) ts ((expression_at_complete looks room e).reads ts rest w (past_is rest n)) })
    (expression_leads room no_string refl refl e)

attribute_complete : ((n : ℕ) → Looks n) → (room : ℕ) (prefix attribute : Ident) (value : ExpressionTree) → Complete (argument_pieces room (attribute_argument prefix attribute value)) (argument_at room) (attribute_argument prefix attribute value) past_item
unfolding argument_at argument_led behind_tick
attribute_complete looks room prefix attribute value = complete_as (choose_false (choose_true (continued_complete (argument_led room) (identifier_complete prefix)
    (choose_true (after_complete refl (choose_true (weaken (mapped_complete (attribute_from prefix) (both_complete (identifier_complete attribute)
    (opened_complete {ps = expression_pieces (room - 1) value ++ anywhere (delimiter mark.RightParenthesis) ∷ []} room (delimiter mark.LeftParenthesis) refl (λ less e. rw (one_less room less e) (both_complete ((knot looks room).expression less e value) closing_complete (leads_first refl)))) leads_any)))
    (leads_first refl))) (leads_first refl)) leads_any) (leads_first refl)) (leads_first refl)) (simp append_assoc)

pub argument_complete : ((n : ℕ) → Looks n) → (room : ℕ) (a : ArgumentTree) → Complete (argument_pieces room a) (argument_at room) a past_item
unfolding argument_at
argument_complete looks room (expression_argument e) = argument_expression looks room e
argument_complete looks room (text_argument spot bytes) = choose_true (weaken (mapped_complete text_from (string_complete bytes spot))) (leads_first refl)
argument_complete looks room (attribute_argument prefix attribute value) = attribute_complete looks room prefix attribute value
