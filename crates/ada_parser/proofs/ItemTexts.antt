-- What is written so is read so: items, and expressions at any depth of nesting.
use Rattle.std.proofs.Common.{◌≡◌, ℕ, Bool, true, false, ◌||◌, List, [], ◌∷◌, ◌++◌, Option, Some, None, Ok, Err, refl, sym, ap, subst, ◌∙◌, append-nil}
use Rattle.std.specs.List.{flat_map}
use Rattle.std.proofs.lemmas.List.Concat.{flat_map-cons}
use Rattle.ada_text.specs.declared.spot.Spot.{Spot}
use Rattle.ada_text.specs.declared.delimiter.Delimiter.TheVariants as mark
use Rattle.ada_text.specs.Token.{Kind, identifier, number, string, reserved, delimiter, Lexeme}
use Rattle.ada_tree.specs.Piece.{Piece, anywhere}
use Rattle.ada_tree.specs.Names.{Ident}
use Rattle.ada_tree.specs.Expressions.{ExpressionTree, path_expression, ItemsTree, no_more_items, an_item, logical, label_pieces, expression_pieces, items_pieces, more_items_pieces}
use Rattle.ada_reader.specs.Step.{◌>>=◌, Phrase, Outcome, spot_of, is_kind, is_identifier, is_at, at, identifier_at, after, all_of, chain}
use Rattle.ada_phrases.specs.Expressions.{items_from, all_items_from, labelled, positional, path_led, selectors_at, primary_led, primary_in, factor_in, term_in, first_term_in, sum_in, relation_in, expression_in, term_from, sum_from, relation_from, logical_from, behind_primary, expression_led, item_in, items_in}
use Rattle.ada_parser.proofs.Sound.{ok_is, done, is_filled, kind_is}
use Rattle.ada_parser.proofs.Complete.{Follow, Next, before, Leads, Complete, sinks, expected, leads_first, leads_any, leads_same, leads_before, complete_as, weaken, never_complete, nothing_complete, mapped_complete, continued_complete, both_complete, choose_true, after_complete, identifier_complete, all_complete, while_items}
use Rattle.ada_parser.proofs.ExpressionTexts.{continues, past, narrower, or_left, or_right, Inner, expression_complete}

-- before what g allows, if that is what f allows
pub complete_before : {A : Type 0} {ps : List Piece} {read : Phrase A} {x : A} {f g : Follow} → Complete ps read x f → ((rest : List Lexeme) → Next g rest → Next f rest) → Complete ps read x g
complete_before c h = record { reads = λ ts rest w n. c.reads ts rest w (h rest n) }

-- ---- expressions that begin with an identifier

regrouped : {A : Type 0} (r : Outcome A) (f g h k : A → Phrase A) → ((((r >>= λ x. f x.0 x.1) >>= λ x. g x.0 x.1) >>= λ x. h x.0 x.1) >>= λ x. k x.0 x.1) ≡ (r >>= λ x. ((f x.0 x.1 >>= λ y. g y.0 y.1) >>= λ y. h y.0 y.1) >>= λ y. k y.0 y.1)
regrouped (Ok x) f g h k = refl
regrouped (Err e) f g h k = refl

-- whether the identifier was read before makes no difference
pub led_same : (room : ℕ) (inner : Phrase ExpressionTree) (items : Phrase ItemsTree) (text : List ℕ) (t : Lexeme) (ts : List Lexeme) → t.kind ≡ identifier text → expression_in room inner items (t ∷ ts) ≡ expression_led room inner items (record { text = text; spot = spot_of t }) ts
unfolding expression_in relation_in sum_in first_term_in term_in factor_in primary_in identifier_at expression_led behind_primary
led_same room inner items text t ts k =
    rw k (regrouped (primary_led room items (record { text = text; spot = spot_of t }) ts) (term_from (factor_in room inner items)) (sum_from (term_in room inner items)) (relation_from (sum_in room inner items)) (logical_from (relation_in room inner items)))

-- a token that goes on with no expression
pub ends_at_arrow : (room : ℕ) (inner : Phrase ExpressionTree) (items : Phrase ItemsTree) (p : ExpressionTree) (t : Lexeme) (ts : List Lexeme) → t.kind ≡ delimiter mark.Arrow → behind_primary room inner items p (t ∷ ts) ≡ Ok (p, t ∷ ts)
unfolding behind_primary term_from sum_from relation_from logical_from chain
ends_at_arrow room inner items p t ts k = rw k refl

pub ends_at_parenthesis : (room : ℕ) (inner : Phrase ExpressionTree) (items : Phrase ItemsTree) (p : ExpressionTree) (t : Lexeme) (ts : List Lexeme) → t.kind ≡ delimiter mark.LeftParenthesis → behind_primary room inner items p (t ∷ ts) ≡ Ok (p, t ∷ ts)
unfolding behind_primary term_from sum_from relation_from logical_from chain
ends_at_parenthesis room inner items p t ts k = rw k refl

led_at_arrow : (room : ℕ) (inner : Phrase ExpressionTree) (items : Phrase ItemsTree) (i : Ident) (t : Lexeme) (ts : List Lexeme) → t.kind ≡ delimiter mark.Arrow → expression_led room inner items i (t ∷ ts) ≡ Ok (path_expression (record { root = i; selectors = [] }), t ∷ ts)
unfolding expression_led primary_led path_led selectors_at all_of
led_at_arrow room inner items i t ts k =
    let a : is_kind (delimiter mark.Tick) t.kind ≡ false = ap (is_kind (delimiter mark.Tick)) k in
    let b : is_kind (delimiter mark.Dot) t.kind ≡ false = ap (is_kind (delimiter mark.Dot)) k in
    rw (a, b) (ends_at_arrow room inner items (path_expression (record { root = i; selectors = [] })) t ts k)

-- ---- items

-- What stands behind an item: no arrow, and nothing that goes on with it.
abbrev pub past_item : Follow
past_item = record { test = λ k. is_kind (delimiter mark.Arrow) k || continues logical k; value = false }

-- The items of a list.
abbrev pub list_of : ItemsTree → List (Option Ident × ExpressionTree)
list_of no_more_items = []
list_of (an_item label value rest) = (label, value) ∷ list_of rest

from_list : (xs : ItemsTree) → items_from (list_of xs) ≡ xs
from_list no_more_items = refl
from_list (an_item label value rest) = ap (an_item label value) (from_list rest)

abbrev pub item_pieces : ℕ → Option Ident × ExpressionTree → List Piece
item_pieces room x = label_pieces x.0 ++ expression_pieces room x.1

abbrev pub next_item_pieces : ℕ → Option Ident × ExpressionTree → List Piece
next_item_pieces room x = anywhere (delimiter mark.Comma) ∷ item_pieces room x

pub more_are : (room : ℕ) (xs : ItemsTree) → more_items_pieces room xs ≡ flat_map (next_item_pieces room) (list_of xs)
more_are room no_more_items = refl
more_are room (an_item label value rest) =
    ap (λ (us : List Piece). anywhere (delimiter mark.Comma) ∷ ((label_pieces label ++ expression_pieces room value) ++ us)) (more_are room rest) ∙
    sym (flat_map-cons (next_item_pieces room) (label, value) (list_of rest))

at_same : (k : Kind) (ts rest : List Lexeme) → ts ≡ rest → at k ts ≡ true → at k rest ≡ true
at_same k ts rest e a = subst (λ (us : List Lexeme). at k us ≡ true) e a

no_arrow : (rest : List Lexeme) → Next past_item rest → at (delimiter mark.Arrow) rest ≡ true → ⊥
no_arrow [] n a = absurd cc
no_arrow (t ∷ ts) n a = let b : is_kind (delimiter mark.Arrow) t.kind ≡ false = or_left (is_kind (delimiter mark.Arrow) t.kind) (continues logical t.kind) n in absurd (let c : true ≡ false = sym a ∙ b in cc)

-- no expression ends before an arrow
arrow_first : (e x : ExpressionTree) (ts rest : List Lexeme) (o : Option Spot) → Next past_item rest → at (delimiter mark.Arrow) ts ≡ true → (done (x, ts)) ≡ expected o e rest → ⊥
arrow_first e x ts rest None n a h = no_arrow rest n (at_same (delimiter mark.Arrow) ts rest (ap (λ (z : ExpressionTree × List Lexeme). z.1) (ok_is (x, ts) (e, rest) h)) a)
arrow_first e x ts rest (Some spot) n a h = cc

pub mapped_same : {A B : Type 0} (h : A → B) (r : Outcome A) (o : Option Spot) (x : A) (rest : List Lexeme) → r ≡ expected o x rest → (r >>= λ y. Ok (h y.0, y.1)) ≡ expected o (h x) rest
mapped_same h r None x rest e = rw e refl
mapped_same h r (Some spot) x rest e = rw e refl

-- an item without a label
item_by : (room : ℕ) (inner : Phrase ExpressionTree) (items : Phrase ItemsTree) (e : ExpressionTree) (rest : List Lexeme) (o : Option Spot) (text : List ℕ) (t : Lexeme) (ts : List Lexeme) (b : Bool) → t.kind ≡ identifier text → at (delimiter mark.Arrow) ts ≡ b → Next past_item rest → expression_in room inner items (t ∷ ts) ≡ expected o e rest → item_in room inner items (t ∷ ts) ≡ expected o (positional e) rest
unfolding item_in identifier_at
item_by room inner items e rest o text t ts false k a n h = rw (k, a) (mapped_same positional (expression_led room inner items (record { text = text; spot = spot_of t }) ts) o e rest (sym (led_same room inner items text t ts k) ∙ h))
item_by room inner items e rest o text t [] true k a n h = absurd cc
item_by room inner items e rest o text t (u ∷ us) true k a n h =
    absurd (arrow_first e (path_expression (record { root = record { text = text; spot = spot_of t }; selectors = [] })) (u ∷ us) rest o n a
    (sym (led_at_arrow room inner items (record { text = text; spot = spot_of t }) u us (kind_is (delimiter mark.Arrow) u.kind a)) ∙ (sym (led_same room inner items text t (u ∷ us) k) ∙ h)))

item_other : (room : ℕ) (inner : Phrase ExpressionTree) (items : Phrase ItemsTree) (e : ExpressionTree) (rest : List Lexeme) (o : Option Spot) (ts : List Lexeme) → is_at is_identifier ts ≡ false → expression_in room inner items ts ≡ expected o e rest → item_in room inner items ts ≡ expected o (positional e) rest
unfolding item_in
item_other room inner items e rest o ts a h = rw a (mapped_same positional (expression_in room inner items ts) o e rest h)

item_of_kind : (room : ℕ) (inner : Phrase ExpressionTree) (items : Phrase ItemsTree) (e : ExpressionTree) (rest : List Lexeme) (o : Option Spot) (t : Lexeme) (ts : List Lexeme) (k : Kind) → t.kind ≡ k → Next past_item rest → expression_in room inner items (t ∷ ts) ≡ expected o e rest → item_in room inner items (t ∷ ts) ≡ expected o (positional e) rest
item_of_kind room inner items e rest o t ts (identifier text) k n h = item_by room inner items e rest o text t ts (at (delimiter mark.Arrow) ts) k refl n h
item_of_kind room inner items e rest o t ts (number m) k n h = item_other room inner items e rest o (t ∷ ts) (ap is_identifier k) h
item_of_kind room inner items e rest o t ts (string m) k n h = item_other room inner items e rest o (t ∷ ts) (ap is_identifier k) h
item_of_kind room inner items e rest o t ts (reserved m) k n h = item_other room inner items e rest o (t ∷ ts) (ap is_identifier k) h
item_of_kind room inner items e rest o t ts (delimiter m) k n h = item_other room inner items e rest o (t ∷ ts) (ap is_identifier k) h

item_at : (room : ℕ) (inner : Phrase ExpressionTree) (items : Phrase ItemsTree) (e : ExpressionTree) (rest : List Lexeme) (o : Option Spot) (ts : List Lexeme) → Next past_item rest → expression_in room inner items ts ≡ expected o e rest → item_in room inner items ts ≡ expected o (positional e) rest
item_at room inner items e rest o [] n h = item_other room inner items e rest o [] refl h
item_at room inner items e rest o (t ∷ ts) n h = item_of_kind room inner items e rest o t ts t.kind refl n h

pub past_is : (rest : List Lexeme) → Next past_item rest → Next (past logical) rest
past_is rest n = narrower (past logical) past_item (λ k. or_right (is_kind (delimiter mark.Arrow) k) (continues logical k)) refl rest n

labelled_complete : {inner : Phrase ExpressionTree} {items : Phrase ItemsTree} (room : ℕ) → Inner room inner items → (label : Ident) (e : ExpressionTree) → Complete (item_pieces room (Some label, e)) (item_in room inner items) (Some label, e) past_item
unfolding item_in
labelled_complete {inner} {items} room i label e = choose_true (continued_complete _ (identifier_complete label)
    (choose_true (mapped_complete (labelled label) (after_complete refl (complete_before (expression_complete room i e) past_is))) (leads_first refl)) leads_any) (leads_first refl)

pub item_complete : {inner : Phrase ExpressionTree} {items : Phrase ItemsTree} (room : ℕ) → Inner room inner items → (label : Option Ident) (e : ExpressionTree) → Complete (item_pieces room (label, e)) (item_in room inner items) (label, e) past_item
item_complete {inner} {items} room i None e = record { reads = λ ts rest w n. item_at room inner items e rest (sinks (expression_pieces room e) ts) ts n ((expression_complete room i e).reads ts rest w (past_is rest n)) }
item_complete {inner} {items} room i (Some label) e = labelled_complete room i label e

-- ---- lists of items

item_filled : (room : ℕ) (x : Option Ident × ExpressionTree) → is_filled (next_item_pieces room x) ≡ true
item_filled room x = refl

next_complete : {inner : Phrase ExpressionTree} {items : Phrase ItemsTree} (room : ℕ) → Inner room inner items → (x : Option Ident × ExpressionTree) → Complete (next_item_pieces room x) (after (delimiter mark.Comma) (item_in room inner items)) x past_item
next_complete room i x = after_complete refl (item_complete room i x.0 x.1)

more_complete : {inner : Phrase ExpressionTree} {items : Phrase ItemsTree} (room : ℕ) → Inner room inner items → (xs : List (Option Ident × ExpressionTree)) → Complete (flat_map (next_item_pieces room) xs) (all_of (at (delimiter mark.Comma)) (after (delimiter mark.Comma) (item_in room inner items))) xs (before (delimiter mark.RightParenthesis))
more_complete room i = all_complete (while_items (delimiter mark.Comma) (item_filled room) (next_complete room i) (λ x. leads_first refl) (λ x. leads_first refl) (leads_before (delimiter mark.RightParenthesis) refl) (leads_before (delimiter mark.RightParenthesis) refl))

items_lead : (room : ℕ) (xs : List (Option Ident × ExpressionTree)) → Leads (flat_map (next_item_pieces room) xs) (before (delimiter mark.RightParenthesis)) past_item
items_lead room [] = leads_before (delimiter mark.RightParenthesis) refl
items_lead room (x ∷ xs) = leads_first refl

leads_nothing : {ps : List Piece} {g f : Follow} → Leads ps g f → Leads (ps ++ []) g f
leads_nothing {ps} {g} {f} l = subst (λ (us : List Piece). Leads us g f) (sym (append-nil ps)) l

pub items_complete : {inner : Phrase ExpressionTree} {items : Phrase ItemsTree} (room : ℕ) → Inner room inner items → (xs : ItemsTree) → Complete (items_pieces room xs) (items_in room inner items) xs (before (delimiter mark.RightParenthesis))
unfolding items_in
items_complete room i no_more_items = never_complete []
items_complete room i (an_item label value rest) =
    complete_as (subst (λ ys. Complete ((label_pieces label ++ expression_pieces room value) ++ (flat_map (next_item_pieces room) (list_of rest) ++ [])) (items_in room _ _) (an_item label value ys) (before (delimiter mark.RightParenthesis))) (from_list rest)
    (mapped_complete all_items_from (both_complete (item_complete room i label value) (both_complete (more_complete room i (list_of rest)) (weaken nothing_complete) leads_same) (leads_nothing (items_lead room (list_of rest))))))
    (ap (λ (us : List Piece). (label_pieces label ++ expression_pieces room value) ++ us) (more_are room rest ∙ sym (append-nil (flat_map (next_item_pieces room) (list_of rest)))))
