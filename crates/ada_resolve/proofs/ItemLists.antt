-- The items of aggregates in lists.

use Rattle.std.proofs.Common.{◌≡◌, List, [], ◌∷◌, length, ◌==◌, Bool, false, cond, refl, arith}
use Rattle.std.specs.Prelude.{Option}
use Rattle.ada_text.specs.declared.spot.Spot.{Spot}
use Rattle.ada_tree.specs.declared.expressions.Item.{Item}
use Rattle.ada_tree.specs.ExpressionView.{items_of}
use Rattle.ada_tree.specs.Expressions.{ExpressionTree, ItemsTree, no_more_items, an_item}
use Rattle.ada_tree.specs.Names.{Ident}
use Rattle.ada_program.specs.ProgramForm.{PartForm}
use Rattle.ada_program.specs.declared.program.TypeNo.{TypeNo}
use Rattle.ada_resolve.specs.Allocators.{aggregate_found, aggregate_remark, allocated_remark, default_found, new_found, new_remark}
use Rattle.ada_resolve.specs.Expressions.{after_items, expression_meant, item_remark, items_remark}
use Rattle.ada_resolve.specs.Items.{Filling, after_item}
use Rattle.ada_resolve.specs.Known.{Known}
use Rattle.ada_resolve.specs.Remark.{fine, both}

-- a list with an item is not empty
some_items : (item : Item) (items : List Item) → (length (item ∷ items) == 0) ≡ false
some_items item items = grind arith

-- an allocator without items is the default, and one with items is an aggregate
pub new_remarked : (k : Known) (access : Option TypeNo) (spot : Spot) (name : Ident) (items : List Item) → new_remark k access spot name (items_of items) ≡ cond (length items == 0) (allocated_remark k access spot name) (aggregate_remark k access spot name (items_of items))
new_remarked k access spot name [] = refl
new_remarked k access spot name (item ∷ items) = rw (some_items item items) refl

pub new_meant : (k : Known) (access : Option TypeNo) (name : Ident) (items : List Item) → new_found k access name (items_of items) ≡ cond (length items == 0) (default_found k access name) (aggregate_found k access name (items_of items))
new_meant k access name [] = refl
new_meant k access name (item ∷ items) = rw (some_items item items) refl

-- items, one by one

pub after_none : (k : Known) (components : Option (List PartForm)) (is_named : Bool) (filling : Filling) → after_items k components is_named filling no_more_items ≡ filling
unfolding after_items
after_none k components is_named filling = refl

pub after_one : (k : Known) (components : Option (List PartForm)) (is_named : Bool) (filling : Filling) (label : Option Ident) (value : ExpressionTree) (rest : ItemsTree) → after_items k components is_named filling (an_item label value rest) ≡ after_items k components is_named (after_item components is_named filling label (expression_meant k value)) rest
unfolding after_items
after_one k components is_named filling label value rest = refl

pub remark_none : (k : Known) (components : Option (List PartForm)) (is_named : Bool) (filling : Filling) → items_remark k components is_named filling no_more_items ≡ fine
unfolding items_remark
remark_none k components is_named filling = refl

pub remark_one : (k : Known) (components : Option (List PartForm)) (is_named : Bool) (filling : Filling) (label : Option Ident) (value : ExpressionTree) (rest : ItemsTree) → items_remark k components is_named filling (an_item label value rest) ≡ both (item_remark k components is_named filling label value) (items_remark k components is_named (after_item components is_named filling label (expression_meant k value)) rest)
unfolding items_remark item_remark
remark_one k components is_named filling label value rest = refl

pub ruleset items_rules = (after_none, after_one, remark_none, remark_one)
