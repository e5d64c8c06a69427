-- What is read is written so: record types and static values.
use Rattle.std.proofs.Common.{ℕ, [], ◌∷◌, Some, None, refl, append_assoc}
use Rattle.ada_text.specs.declared.word.Word.TheVariants as word
use Rattle.ada_text.specs.declared.delimiter.Delimiter.TheVariants as mark
use Rattle.ada_text.specs.Token.{number, reserved, delimiter}
use Rattle.ada_tree.specs.Piece.{anywhere}
use Rattle.ada_tree.specs.Records.{named, null_record, null_components, static_pieces, initial_static_pieces, component_pieces, record_pieces}
use Rattle.ada_reader.specs.Step.{is_identifier, is_at, at, not_at}
use Rattle.ada_phrases.specs.Records.{amount_at, minus_from, plain_from, static_at, initial_static_at, component_from, component_at, end_record_at, components_from, components_at, record_at}
use Rattle.ada_parser.proofs.Sound.{Sound, Goes, sound_of, nothing_sound, mapped_goes, mapped_sound, both_sound, choose_goes, choose_sound, all_sound, placed_sound, after_goes, after_sound, identifier_sound, number_sound, number_anywhere}

amount_sound : Sound (λ (n : ℕ). anywhere (number n) ∷ []) amount_at
amount_sound = mapped_sound (λ (n : ℕ). anywhere (number n) ∷ []) (λ x. x.0) number_anywhere (λ x able. refl)

pub static_sound : Sound static_pieces static_at
unfolding static_at
static_sound = choose_sound static_pieces (is_at is_identifier) _ _ (λ t ts us. refl) (mapped_sound static_pieces named identifier_sound (λ x able. refl))
    (choose_sound static_pieces (at (delimiter mark.Minus)) _ _ (λ t ts us. refl)
    (mapped_sound static_pieces minus_from (both_sound (placed_sound (delimiter mark.Minus) refl) amount_sound) (λ x able. refl))
    (mapped_sound static_pieces plain_from number_sound (λ x able. refl)))

initial_static_sound : Sound initial_static_pieces initial_static_at
unfolding initial_static_at
initial_static_sound = choose_sound initial_static_pieces (at (delimiter mark.Assign)) _ _ (λ t ts us. refl)
    (mapped_sound initial_static_pieces Some (after_sound (delimiter mark.Assign) refl static_sound) (λ x able. refl))
    (mapped_sound initial_static_pieces (λ _. None) nothing_sound (λ x able. refl))

component_sound : Sound component_pieces component_at
unfolding component_at
component_sound = mapped_sound component_pieces component_from
    (both_sound identifier_sound (after_sound (delimiter mark.Colon) refl
    (both_sound identifier_sound (both_sound initial_static_sound (after_sound (delimiter mark.Semicolon) refl nothing_sound)))))
    (λ x able. simp append_assoc)

end_record_sound : Sound (λ _. anywhere (reserved word.End) ∷ anywhere (reserved word.Record) ∷ []) end_record_at
unfolding end_record_at
end_record_sound = after_sound (reserved word.End) refl (after_sound (reserved word.Record) refl nothing_sound)

components_goes : Goes (anywhere (reserved word.Record) ∷ []) record_pieces components_at
unfolding components_at
components_goes = mapped_goes (anywhere (reserved word.Record) ∷ []) record_pieces components_from
    (both_sound component_sound (both_sound (all_sound (not_at (reserved word.End)) (λ t ts us. refl) (λ x able. refl) component_sound) end_record_sound))
    (λ x able. simp append_assoc)

pub record_sound : Sound record_pieces record_at
unfolding record_at
record_sound = choose_sound record_pieces (at (reserved word.Null)) _ _ (λ t ts us. refl)
    (mapped_sound record_pieces (λ _. null_record) (after_sound (reserved word.Null) refl (after_sound (reserved word.Record) refl nothing_sound)) (λ x able. refl))
    (sound_of (after_goes [] record_pieces (reserved word.Record) _ refl
    (choose_goes (anywhere (reserved word.Record) ∷ []) record_pieces (at (reserved word.Null)) _ _ (λ t ts us. refl)
    (mapped_goes (anywhere (reserved word.Record) ∷ []) record_pieces (λ _. null_components)
    (after_sound (reserved word.Null) refl (after_sound (delimiter mark.Semicolon) refl end_record_sound)) (λ x able. refl))
    components_goes)))
