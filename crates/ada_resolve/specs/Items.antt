-- The items of aggregates: what is wrong with each, and which component it is for.

use Rattle.std.specs.Prelude.{ℕ, ◌+◌, Bool, true, false, ◌==◌, ◌&&◌, not, nat_lt, if◌then◌else◌, List, [], ◌∷◌, ◌++◌, length, Option, Some, None, is_some, is_none}
use Rattle.std.specs.List.{slice_get, slice_set, slice_index_or, list_all}
use Rattle.std.proofs.Math.ListN.{replicate}
use Rattle.ada_text.specs.declared.spot.Spot.{Spot}
use Rattle.ada_program.specs.Form.{ItemForm, null_item, item_of_path, item_of_value, item_of_record}
use Rattle.ada_tree.specs.Names.{Ident}
use Rattle.ada_program.specs.declared.program.TypeNo.{TypeNo}
use Rattle.ada_tree.specs.Expressions.{ExpressionTree, ItemsTree, no_more_items, an_item}
use Rattle.ada_program.specs.ProgramForm.{PartForm, VariableForm}
use Rattle.ada_program.specs.declared.program.ComponentKind.TheVariants as kind
use Rattle.ada_program.specs.declared.program.PartKind.{PartKind}
use Rattle.ada_program.specs.declared.program.PartKind.TheVariants as part
use Rattle.ada_resolve.specs.declared.components.KnownComponent.{KnownComponent}
use Rattle.ada_resolve.specs.declared.fault.NameRule.TheVariants.{WrongType, NotInProfile}
use Rattle.ada_resolve.specs.Known.{Known}
use Rattle.ada_resolve.specs.Library.{no_component_rule}
use Rattle.ada_resolve.specs.Remark.{Remark, fine, wrong, ◌also◌, wrong_if}
use Rattle.ada_resolve.specs.Spots.{expression_spot}
use Rattle.ada_resolve.specs.Operators.{access_wanted, boolean_wanted, integer_wanted, owner_wanted, record_value_wanted}
use Rattle.ada_resolve.specs.Paths.{Meant, access_value, aggregate_value, boolean_value, component_at, component_named, components_of, integer_value, lent_value, null_value, record_value, unknown}

-- What is known before an item: how many items come before it, which components have their items (a record component has those of its
-- elementary components, or one that is a record), and whether each item so far names a component of its own.
pub record Filling : Type 0 where
  pub count : ℕ
  pub slots : List (Option (List ItemForm))
  pub whole : Bool

-- The component that an item is for: that of its name, or the one at its place.
abbrev pub component_for : List PartForm → Option Ident → ℕ → Option (ℕ × KnownComponent)
component_for components (Some label) at = component_named 0 label.text components
component_for components None at = component_at at (slice_get components at)

-- Where an item begins.
abbrev pub item_spot : Option Ident → ExpressionTree → Spot
item_spot (Some label) value = label.spot
item_spot None value = expression_spot value

-- What an item gives its component: one item, or, where it is an aggregate, those of that.
abbrev pub item_meant : Meant → List ItemForm
item_meant unknown = []
item_meant null_value = null_item ∷ []
item_meant (access_value path t) = item_of_path path ∷ []
item_meant (integer_value e) = item_of_value e ∷ []
item_meant (boolean_value e) = item_of_value e ∷ []
item_meant (record_value path) = item_of_record path ∷ []
item_meant (aggregate_value t items) = items
item_meant (lent_value t) = []

-- A value is of its component's type: an access component is given null, or what a path of that very type names, which is no borrower as a whole,
-- and a record component a record of that very type. The parent part is given nothing (3.4): it has no component.
abbrev pub fits_remark : List VariableForm → PartKind → Meant → Spot → Remark
fits_remark variables (part.Elementary (kind.Integer initial)) value spot = integer_wanted value spot
fits_remark variables (part.Elementary (kind.Boolean initial)) value spot = boolean_wanted value spot
fits_remark variables (part.Elementary (kind.Access t)) value spot =
    access_wanted t value spot also owner_wanted variables value spot
fits_remark variables (part.Record t) value spot = record_value_wanted t value spot
fits_remark variables part.Parent value spot = wrong spot WrongType

-- No component has that name (4.1.3), or there are too many items.
abbrev pub no_component : Option Ident → ExpressionTree → Remark
no_component (Some label) value = wrong label.spot (no_component_rule label.text)
no_component None value = wrong (expression_spot value) WrongType

-- Whether the component of this number has its item.
abbrev pub is_filled : ℕ → List (Option (List ItemForm)) → Bool
is_filled c slots = is_some (slice_index_or slots c None)

-- What is wrong with the component of an item, and with its value for it: a component has one item.
abbrev pub for_remark : List VariableForm → Option (ℕ × KnownComponent) → Filling → Option Ident → ExpressionTree → Meant → Remark
for_remark variables (Some found) filling label value meant =
    wrong_if (is_filled found.0 filling.slots) (item_spot label value) WrongType also
    fits_remark variables found.1.kind meant (expression_spot value)
for_remark variables None filling label value meant = no_component label value

-- What is wrong with an item for its component, which only a known record type has.
abbrev pub component_item_remark : List VariableForm → Option (List PartForm) → Filling → Option Ident → ExpressionTree → Meant → Remark
component_item_remark variables (Some components) filling label value meant =
    for_remark variables (component_for components label filling.count) filling label value meant
component_item_remark variables None filling label value meant = fine

-- Whether an item names its component where the first item does, and doesn't where that does not.
abbrev pub is_alike : Bool → Option Ident → Bool
is_alike true label = is_some label
is_alike false label = is_none label

-- The first item tells whether all name their components: an item that does otherwise is wrong.
abbrev pub label_remark : Bool → Option Ident → ExpressionTree → Remark
label_remark is_named label value = wrong_if (not (is_alike is_named label)) (item_spot label value) WrongType

-- What is known once the component of this number has these items.
abbrev pub with_item : ℕ → List ItemForm → Filling → Filling
with_item c items filling = record filling { slots = slice_set filling.slots c (Some items) }

-- What is known after an item for this component, which gives it these.
abbrev pub filled_for : Option (ℕ × KnownComponent) → Filling → Bool → List ItemForm → Filling
filled_for (Some found) filling alike items = record {
  count = filling.count + 1;
  slots = slice_set filling.slots found.0 (Some items);
  whole = filling.whole && (alike && not (is_filled found.0 filling.slots));
}
filled_for None filling alike items = record { count = filling.count + 1; slots = filling.slots; whole = false }

-- What is known after an item. Where the record type is not known, the item is only counted.
abbrev pub filled_by : Option (List PartForm) → Filling → Option Ident → Bool → List ItemForm → Filling
filled_by (Some components) filling label alike items = filled_for (component_for components label filling.count) filling alike items
filled_by None filling label alike items = record { count = filling.count + 1; slots = filling.slots; whole = false }

-- What is known after an item, by what its value means.
unfoldable pub after_item : Option (List PartForm) → Bool → Filling → Option Ident → Meant → Filling
after_item components is_named filling label meant =
    filled_by components filling label (is_alike is_named label) (item_meant meant)

-- No component has its item yet.
abbrev pub empty_slots : Option (List PartForm) → List (Option (List ItemForm))
empty_slots (Some components) = replicate (length components) None
empty_slots None = []

-- What is known before the first item.
abbrev pub first_filling : Option (List PartForm) → Filling
first_filling components = record { count = 0; slots = empty_slots components; whole = is_some components }

-- Whether the first item names its component.
abbrev pub names_component : ItemsTree → Bool
names_component no_more_items = false
names_component (an_item label value rest) = is_some label

-- The components of the record type of an aggregate, as they are declared, where that is known.
abbrev pub filled_components : Known → Option TypeNo → Option (List PartForm)
filled_components known (Some t) = Some (components_of known.types t.0)
filled_components known None = None

-- What is wrong with how many items there are: an aggregate of one item names its component (4.3.1), and one is missing where there are more
-- components; and where each item has a component of its own, each component has its item.
abbrev pub count_remark : Bool → Filling → Spot → Remark
count_remark is_named filling spot =
    if not is_named && (filling.count == 1)
    then wrong spot NotInProfile also wrong_if (nat_lt 1 (length filling.slots)) spot WrongType
    else wrong_if (filling.whole && not (list_all is_some filling.slots)) spot WrongType

-- The items of all components, in the order of the components; a component that has none gives none.
abbrev pub flattened : List (Option (List ItemForm)) → List ItemForm
flattened [] = []
flattened (Some items ∷ slots) = items ++ flattened slots
flattened (None ∷ slots) = flattened slots

-- What an aggregate means, whose items are known: one of its record type, where that is known.
abbrev pub aggregate_meant : Option TypeNo → Filling → Meant
aggregate_meant (Some t) filling = aggregate_value t (flattened filling.slots)
aggregate_meant None filling = unknown
