-- What is written so is read so: records and the values that are known before the run.
use Rattle.std.proofs.Common.{List, [], ◌∷◌, ◌++◌, Option, Some, None, refl, append_assoc}
use Rattle.std.specs.List.{flat_map}
use Rattle.ada_text.specs.declared.word.Word.TheVariants as word
use Rattle.ada_text.specs.declared.delimiter.Delimiter.TheVariants as mark
use Rattle.ada_text.specs.Token.{reserved, delimiter}
use Rattle.ada_tree.specs.Piece.{anywhere}
use Rattle.ada_tree.specs.Records.{StaticTree, plain, minus, named, ComponentTree, RecordTree, null_record, null_components, components, static_pieces, initial_static_pieces, component_pieces, record_pieces}
use Rattle.ada_reader.specs.Step.{nothing, after, all_of, not_at}
use Rattle.ada_phrases.specs.Records.{minus_from, plain_from, static_at, initial_static_at, component_from, component_at, end_record_at, components_from, components_at, record_at}
use Rattle.ada_parser.proofs.Complete.{any, unless, before, Complete, leads_first, leads_any, leads_same, complete_as, weaken, nothing_complete, mapped_complete, both_complete, choose_true, choose_false, placed_complete, after_complete, identifier_complete, number_complete, amount_complete, all_complete, until_items}

pub semicolon_complete : Complete (anywhere (delimiter mark.Semicolon) ∷ []) (after (delimiter mark.Semicolon) nothing) tt any
semicolon_complete = after_complete refl nothing_complete

pub static_complete : (v : StaticTree) → Complete (static_pieces v) static_at v any
unfolding static_at
static_complete (named i) = choose_true (mapped_complete named (identifier_complete i)) (leads_first refl)
static_complete (minus spot n) = choose_false (choose_true (mapped_complete minus_from (both_complete (placed_complete spot refl) (amount_complete n) leads_any)) (leads_first refl)) (leads_first refl)
static_complete (plain spot n) = choose_false (choose_false (mapped_complete plain_from (number_complete n spot)) (leads_first refl)) (leads_first refl)

initial_static_complete : (v : Option StaticTree) → Complete (initial_static_pieces v) initial_static_at v (unless (delimiter mark.Assign))
unfolding initial_static_at
initial_static_complete None = choose_false (weaken (mapped_complete (λ _. None) nothing_complete)) leads_same
initial_static_complete (Some v) = choose_true (weaken (mapped_complete Some (after_complete refl (static_complete v)))) (leads_first refl)

component_complete : (c : ComponentTree) → Complete (component_pieces c) component_at c any
unfolding component_at
component_complete c = mapped_complete component_from (both_complete (identifier_complete c.name) (after_complete refl
    (both_complete (identifier_complete c.type_name) (both_complete (initial_static_complete c.initial) semicolon_complete (leads_first refl)) leads_any)) leads_any)

more_components_complete : (cs : List ComponentTree) → Complete (flat_map component_pieces cs) (all_of (not_at (reserved word.End)) component_at) cs (before (reserved word.End))
more_components_complete = all_complete (until_items (reserved word.End) (λ x. refl) component_complete (λ x. leads_first refl) (λ x. leads_any) leads_same leads_any)

end_record_complete : Complete (anywhere (reserved word.End) ∷ anywhere (reserved word.Record) ∷ []) end_record_at tt any
unfolding end_record_at
end_record_complete = after_complete refl (after_complete refl nothing_complete)

components_complete : (first : ComponentTree) (rest : List ComponentTree) → Complete (component_pieces first ++ (flat_map component_pieces rest ++ (anywhere (reserved word.End) ∷ anywhere (reserved word.Record) ∷ []))) components_at (components first rest) any
unfolding components_at
components_complete first rest = mapped_complete components_from (both_complete (component_complete first) (both_complete (more_components_complete rest) end_record_complete (leads_first refl)) leads_any)

pub record_complete : (r : RecordTree) → Complete (record_pieces r) record_at r any
unfolding record_at
record_complete null_record = choose_true (mapped_complete (λ _. null_record) (after_complete refl (after_complete refl nothing_complete))) (leads_first refl)
record_complete null_components = choose_false (after_complete refl (choose_true (mapped_complete (λ _. null_components) (after_complete refl (after_complete refl end_record_complete))) (leads_first refl))) (leads_first refl)
record_complete (components first rest) = complete_as (choose_false (after_complete refl (choose_false (components_complete first rest) (leads_first refl))) (leads_first refl)) (simp append_assoc)
