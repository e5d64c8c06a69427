-- Items of an aggregate that move paths, one behind the other.

use Rattle.std.proofs.Common.{◌≡◌, ℕ, ◌+◌, ◌<◌, Bool, ◌||◌, List, [], ◌∷◌, ◌++◌, Option, append_assoc, append-nil, length, get_or, take, drop, map, refl, sym, ap, ◌∙◌}
use Rattle.std.proofs.Math.Bool.{or_assoc, or_comm}
use Rattle.std.proofs.lemmas.List.{at_drop_more, take_more, map-append}
use Rattle.std.specs.Prelude.{if◌then◌else◌}
use Rattle.ada_text.specs.declared.spot.Spot.{Spot}
use Rattle.ada_flow.specs.Flow.{Breach, Holds, Use, moves_it, moves_again, all_touched, broken_among, leftmost, is_named, is_target, named_by_item, same_path, touched, uses_in_item, uses_in_items, without_value, without_values}
use Rattle.ada_flow.specs.Told.{named_by_items}
use Rattle.ada_flow.proofs.Leftmost.{broken_among_more, leftmost_of_three}
use Rattle.ada_program.specs.declared.program.Item.{Item}
use Rattle.ada_program.specs.Form.{PathForm, ItemForm, null_item, item_of_path, item_of_value, item_of_record, item_form}
use Rattle.ada_program.specs.ProgramForm.{TypeForm}
use Rattle.ada_flow.specs.Tracking.{Tracks}

-- a path among more is among the first ones, or the others
pub is_named_more : (xs ys : List PathForm) (path : PathForm) → is_named (xs ++ ys) path ≡ (is_named xs path || is_named ys path)
is_named_more [] ys path = refl
is_named_more (x ∷ xs) ys path =
    ap (λ (b : Bool). same_path x path || b) (is_named_more xs ys path) ∙ sym (or_assoc (same_path x path) (is_named xs path) (is_named ys path))

-- in whatever order they stand
is_named_swapped : (xs ys : List PathForm) (path : PathForm) → is_named (xs ++ ys) path ≡ is_named (ys ++ xs) path
is_named_swapped xs ys path = is_named_more xs ys path ∙ or_comm (is_named xs path) (is_named ys path) ∙ sym (is_named_more ys xs path)

-- items move what the first ones do, and the others
named_by_more : (is js : List ItemForm) → named_by_items (is ++ js) ≡ named_by_items is ++ named_by_items js
named_by_more [] js = refl
named_by_more (i ∷ is) js = ap (λ (ps : List PathForm). named_by_item i ++ ps) (named_by_more is js) ∙ sym (append_assoc (named_by_item i) (named_by_items is) (named_by_items js))

-- more variables are lost in turn
pub without_more : (xs ys : List ℕ) (holds : Holds) → without_values (xs ++ ys) holds ≡ without_values ys (without_values xs holds)
without_more [] ys holds = refl
without_more (x ∷ xs) ys holds = without_more xs ys (without_value x holds)

-- and touched in turn
pub touched_more : (xs ys : List ℕ) (holds : Holds) → all_touched (xs ++ ys) holds ≡ all_touched ys (all_touched xs holds)
touched_more [] ys holds = refl
touched_more (x ∷ xs) ys holds = touched_more xs ys (touched x holds)

pub ruleset touching_steps = (touched_more)

-- how an item moves its path, behind items that move the same paths
item_uses_by_same : (types : List TypeForm) (spot : Spot) (target : Option PathForm) (xs ys : List PathForm) (i : ItemForm) → ((path : PathForm) → is_named xs path ≡ is_named ys path) →
    uses_in_item types spot target xs i ≡ uses_in_item types spot target ys i
item_uses_by_same types spot target xs ys null_item same = refl
item_uses_by_same types spot target xs ys (item_of_path path) same =
    ap (λ (b : Bool). (if b then moves_again path else moves_it (is_target target path) path) ∷ []) (same path)
item_uses_by_same types spot target xs ys (item_of_value e) same = refl
item_uses_by_same types spot target xs ys (item_of_record p) same = refl

-- one more of them
same_behind : (zs xs ys : List PathForm) (path : PathForm) → is_named xs path ≡ is_named ys path → is_named (zs ++ xs) path ≡ is_named (zs ++ ys) path
same_behind zs xs ys path same = is_named_more zs xs path ∙ ap (λ (b : Bool). is_named zs path || b) same ∙ sym (is_named_more zs ys path)

uses_by_same : (types : List TypeForm) (spot : Spot) (target : Option PathForm) (xs ys : List PathForm) (is : List ItemForm) → ((path : PathForm) → is_named xs path ≡ is_named ys path) →
    uses_in_items types spot target xs is ≡ uses_in_items types spot target ys is
uses_by_same types spot target xs ys [] same = refl
uses_by_same types spot target xs ys (i ∷ is) same =
    ap (λ (us : List Use). us ++ uses_in_items types spot target (named_by_item i ++ xs) is) (item_uses_by_same types spot target xs ys i same)
    ∙ ap (λ (us : List Use). uses_in_item types spot target ys i ++ us)
    (uses_by_same types spot target (named_by_item i ++ xs) (named_by_item i ++ ys) is (λ path. same_behind (named_by_item i) xs ys path (same path)))

-- what one more item moves is moved besides
named_next : (items : List Item) (n : ℕ) (one : Item) → n < length items →
    named_by_items (map item_form (take (n + 1) items)) ≡ named_by_items (map item_form (take n items)) ++ named_by_item (item_form (get_or items n one))
named_next items n one inside =
    let i = item_form (get_or items n one) in
    ap (λ is. named_by_items (map item_form is)) (take_more items n one inside)
    ∙ ap named_by_items (map-append item_form (take n items) (get_or items n one ∷ []))
    ∙ named_by_more (map item_form (take n items)) (i ∷ [])
    ∙ ap (λ ps. named_by_items (map item_form (take n items)) ++ ps) (append-nil (named_by_item i))

-- the uses in the items that are left, behind those that are done
broken_among_next : (types : List TypeForm) (tracks : Tracks) (spot : Spot) (holds : Holds) (target : Option PathForm) (items : List Item) (n : ℕ) (one : Item) → n < length items →
    broken_among tracks holds (uses_in_items types spot target (named_by_items (map item_form (take n items))) (map item_form (drop n items)))
    ≡ leftmost (broken_among tracks holds (uses_in_item types spot target (named_by_items (map item_form (take n items))) (item_form (get_or items n one))))
    (broken_among tracks holds (uses_in_items types spot target (named_by_items (map item_form (take (n + 1) items))) (map item_form (drop (n + 1) items))))
broken_among_next types tracks spot holds target items n one inside =
    let earlier = named_by_items (map item_form (take n items)) in
    let i = item_form (get_or items n one) in
    let left = map item_form (drop (n + 1) items) in
    at_drop_more (λ is. broken_among tracks holds (uses_in_items types spot target earlier (map item_form is))) items n one inside
    ∙ broken_among_more tracks holds (uses_in_item types spot target earlier i) (uses_in_items types spot target (named_by_item i ++ earlier) left)
    ∙ ap (λ us. leftmost (broken_among tracks holds (uses_in_item types spot target earlier i)) (broken_among tracks holds us))
    (uses_by_same types spot target (named_by_item i ++ earlier) (named_by_items (map item_form (take (n + 1) items))) left
    (λ path. is_named_swapped (named_by_item i) earlier path ∙ ap (λ ps. is_named ps path) (sym (named_next items n one inside))))

-- what is found in one more item is the leftmost of what was found, and of what it breaks
pub found_next : (types : List TypeForm) (tracks : Tracks) (spot : Spot) (holds : Holds) (target : Option PathForm) (items : List Item) (n : ℕ) (one : Item) (found own joined all : Option Breach) → n < length items → one ≡ get_or items n one →
    own ≡ broken_among tracks holds (uses_in_item types spot target (named_by_items (map item_form (take n items))) (item_form one)) → joined ≡ leftmost found own →
    leftmost found (broken_among tracks holds (uses_in_items types spot target (named_by_items (map item_form (take n items))) (map item_form (drop n items)))) ≡ all →
    leftmost joined (broken_among tracks holds (uses_in_items types spot target (named_by_items (map item_form (take (n + 1) items))) (map item_form (drop (n + 1) items)))) ≡ all
found_next types tracks spot holds target items n one found own joined all inside item own_is joins before =
    let earlier = named_by_items (map item_form (take n items)) in
    let left = broken_among tracks holds (uses_in_items types spot target (named_by_items (map item_form (take (n + 1) items))) (map item_form (drop (n + 1) items))) in
    ap (λ (b : Option Breach). leftmost b left) (joins ∙ ap (leftmost found) own_is)
    ∙ leftmost_of_three found (broken_among tracks holds (uses_in_item types spot target earlier (item_form one))) left
    ∙ ap (λ (i : Item). leftmost found (leftmost (broken_among tracks holds (uses_in_item types spot target earlier (item_form i))) left)) item
    ∙ sym (ap (leftmost found) (broken_among_next types tracks spot holds target items n one inside))
    ∙ before

-- which paths items move, one behind the other
pub ruleset named_steps = (is_named_more)

-- what the variables hold behind the move
pub ruleset losing_steps = (without_more)
