-- Where nothing is wrong with the items of an aggregate, there are as many of them as components.

use Rattle.std.proofs.Common.{◌≡◌, ◌∙◌, ℕ, ◌+◌, ◌<◌, Bool, true, false, List, [], ◌∷◌, length, refl, sym, ap, zero, suc, arith}
use Rattle.std.specs.Prelude.{Option, Some, None, is_some}
use Rattle.std.specs.List.{slice_set, list_all}
use Rattle.std.proofs.Math.ListN.{replicate}
use Rattle.ada_tree.specs.Names.{Ident}
use Rattle.ada_tree.specs.Expressions.{ExpressionTree, ItemsTree, no_more_items, an_item}
use Rattle.ada_program.specs.Form.{ItemForm}
use Rattle.ada_program.specs.ProgramForm.{PartForm, VariableForm}
use Rattle.ada_resolve.specs.declared.fault.NameRule.TheVariants.{WrongType}
use Rattle.ada_resolve.specs.Expressions.{after_items, expression_meant, expression_remark, items_remark}
use Rattle.ada_resolve.specs.Items.{Filling, component_for, is_filled, item_meant, item_spot, for_remark, is_alike, filled_for, after_item, first_filling, names_component}
use Rattle.ada_resolve.specs.declared.components.KnownComponent.{KnownComponent}
use Rattle.ada_resolve.specs.Known.{Known}
use Rattle.ada_resolve.specs.Paths.{Meant}
use Rattle.ada_resolve.specs.Reading.{how_many}
use Rattle.ada_resolve.proofs.WellFormed.Remarks.{Quiet, quiet_if}
use Rattle.ada_resolve.proofs.WellFormed.Selected.{IsComponentOf}
use Rattle.ada_resolve.proofs.WellFormed.Tables.{get_within}
use Rattle.ada_resolve.proofs.WellFormed.Items.{for_is}

-- how many components have their item
abbrev filled_count : List (Option (List ItemForm)) → ℕ
filled_count [] = 0
filled_count (None ∷ slots) = filled_count slots
filled_count (Some i ∷ slots) = filled_count slots + 1

-- one more has its item
one_filled : (slots : List (Option (List ItemForm))) (c : ℕ) (i : List ItemForm) → c < length slots → is_filled c slots ≡ false → filled_count (slice_set slots c (Some i)) ≡ filled_count slots + 1
one_filled [] c i within fresh = let no : ⊥ = omega (arith, within) in absurd no
one_filled (None ∷ slots) zero i within fresh = refl
one_filled (Some old ∷ slots) zero i within fresh = absurd (cc fresh)
one_filled (None ∷ slots) (suc c) i within fresh = one_filled slots c i (omega (arith, within)) fresh
one_filled (Some old ∷ slots) (suc c) i within fresh = ap (λ (n : ℕ). n + 1) (one_filled slots c i (omega (arith, within)) fresh)

same_length : (slots : List (Option (List ItemForm))) (c : ℕ) (i : Option (List ItemForm)) → length (slice_set slots c i) ≡ length slots
same_length [] c i = refl
same_length (s ∷ slots) zero i = refl
same_length (s ∷ slots) (suc c) i = let h = same_length slots c i in omega arith

none_filled : (cs : List PartForm) → (length (replicate (length cs) (let none : Option (List ItemForm) = None in none)) ≡ length cs) × (filled_count (replicate (length cs) None) ≡ 0)
none_filled [] = (refl, refl)
none_filled (c ∷ cs) = let h = none_filled cs in (omega (arith, h.0), h.1)

all_filled : (slots : List (Option (List ItemForm))) → list_all is_some slots ≡ true → filled_count slots ≡ length slots
all_filled [] all = refl
all_filled (None ∷ slots) all = absurd (cc all)
all_filled (Some i ∷ slots) all = let h = all_filled slots all in omega (arith, h)

-- before an item there is a slot for each component, and as many have their items as come before it
record Counted (cs : List PartForm) (filling : Filling) : Type 0 where
  long : length filling.slots ≡ length cs
  filled : filled_count filling.slots ≡ filling.count

filled_counted : (variables : List VariableForm) (cs : List PartForm) (filling : Filling) (label : Option Ident) (value : ExpressionTree) (m : Meant) (alike : Bool) (o : Option (ℕ × KnownComponent)) → IsComponentOf cs 0 o → Quiet (for_remark variables o filling label value m) → Counted cs filling → Counted cs (filled_for o filling alike (item_meant m)) × ((filled_for o filling alike (item_meant m)).count ≡ filling.count + 1)
filled_counted variables cs filling label value m alike None is q w = absurd (none_for label q)
  where
    none_for : (l : Option Ident) → Quiet (for_remark variables None filling l value m) → ⊥
    none_for (Some l) q = q
    none_for None q = q
filled_counted variables cs filling label value m alike (Some found) is q w =
    let fresh = quiet_if (is_filled found.0 filling.slots) (item_spot label value) WrongType q.0 in
    let within = get_within cs is.0 is.1 is.3 in
    let at = is.2 in
    let long = w.long in
    let more = one_filled filling.slots found.0 (item_meant m) (omega (arith, within, at, long)) fresh in (
      record { long = same_length filling.slots found.0 (Some (item_meant m)) ∙ w.long; filled = more ∙ ap (λ (n : ℕ). n + 1) w.filled },
      refl,
    )

items_counted : (k : Known) (cs : List PartForm) (is_named : Bool) (filling : Filling) (items : ItemsTree) → Quiet (items_remark k (Some cs) is_named filling items) → Counted cs filling → Counted cs (after_items k (Some cs) is_named filling items) × ((after_items k (Some cs) is_named filling items).count ≡ filling.count + how_many items)
unfolding expression_remark expression_meant after_item
items_counted k cs is_named filling no_more_items q w = (w, omega arith)
items_counted k cs is_named filling (an_item label e rest) q w =
    let one = filled_counted k.variables cs filling label e (expression_meant k e) (is_alike is_named label) (component_for cs label filling.count) (for_is cs label filling.count) q.0.1.1 w in
    let others = items_counted k cs is_named (after_item (Some cs) is_named filling label (expression_meant k e)) rest q.1 one.0 in
    (others.0, others.1 ∙ (ap (λ (n : ℕ). n + how_many rest) one.1 ∙ omega arith))

-- where each component has its items, none is left out
pub items_all : (k : Known) (cs : List PartForm) (items : ItemsTree) → Quiet (items_remark k (Some cs) (names_component items) (first_filling (Some cs)) items) → list_all is_some (after_items k (Some cs) (names_component items) (first_filling (Some cs)) items).slots ≡ true → (how_many items ≡ length cs) × (length (after_items k (Some cs) (names_component items) (first_filling (Some cs)) items).slots ≡ length cs)
items_all k cs items q all =
    let none = none_filled cs in
    let start : Counted cs (first_filling (Some cs)) = record { long = none.0; filled = none.1 } in
    let done = items_counted k cs (names_component items) (first_filling (Some cs)) items q start in
    let slots = (after_items k (Some cs) (names_component items) (first_filling (Some cs)) items).slots in
    let count : how_many items ≡ 0 + how_many items = omega arith in
    (count ∙ (sym done.1 ∙ (sym done.0.filled ∙ (all_filled slots all ∙ done.0.long))), done.0.long)
