-- What is read is written so: right sides and arguments.
use Rattle.std.proofs.Common.{◌≡◌, ℕ, ◌-◌, Bool, true, false, List, [], ◌∷◌, ◌++◌, Some, None, refl, ◌∙◌, append_assoc}
use Rattle.ada_text.specs.declared.delimiter.Delimiter.TheVariants as mark
use Rattle.ada_text.specs.Token.{delimiter}
use Rattle.ada_tree.specs.Piece.{Piece, anywhere, opening}
use Rattle.ada_tree.specs.Names.{Ident, PathTree, is_name, ident_pieces, path_pieces}
use Rattle.ada_tree.specs.Expressions.{path_expression, aggregate_expression, ItemsTree, no_more_items, an_item, expression_right, expression_argument, primary, expression_pieces, items_pieces, aggregate_pieces, handle_pieces, right_pieces, initial_pieces, argument_pieces}
use Rattle.ada_reader.specs.Step.{is_identifier, is_string, is_at, at}
use Rattle.ada_phrases.specs.Expressions.{behind_primary, inside, aggregate_at, enclosed_identifier_at, handle_at, allocator_from, allocator_at, creation_from, behind_path, right_led, right_at, initial_at, text_from, attribute_from, behind_tick, argument_led, argument_at}
use Rattle.ada_parser.proofs.Sound.{Able, guard_true, Sound, Goes, nothing_sound, mapped_goes, mapped_sound, continued_sound, goes_on, both_sound, choose_goes, choose_sound, sound_as, after_goes, after_sound, identifier_sound, string_sound, opened_sound, goes_mapped, Anew, anew_both, anew_mapped, anew_sound}
use Rattle.ada_parser.proofs.Ranks.{ranked}
use Rattle.ada_parser.proofs.ExpressionPhrases.{path_goes, enclosed_items_sound, expression_led_goes, behind_goes, inside_sound, expression_sound}

aggregate_is : (room : ℕ) (items : ItemsTree) → Able (anywhere (delimiter mark.Tick) ∷ opening room (delimiter mark.LeftParenthesis) ∷ items_pieces (room - 1) items ++ anywhere (delimiter mark.RightParenthesis) ∷ []) → aggregate_pieces room items ≡ anywhere (delimiter mark.Tick) ∷ opening room (delimiter mark.LeftParenthesis) ∷ items_pieces (room - 1) items ++ anywhere (delimiter mark.RightParenthesis) ∷ []
aggregate_is room no_more_items able = absurd able.1.1.0
aggregate_is room (an_item label value rest) able = refl

aggregate_sound : (room : ℕ) → Sound (aggregate_pieces room) (aggregate_at room)
unfolding aggregate_at
aggregate_sound room = choose_sound (aggregate_pieces room) (at (delimiter mark.Tick)) _ _ (λ t ts us. refl)
    (sound_as (aggregate_pieces room) (after_sound (delimiter mark.Tick) refl (enclosed_items_sound room (inside_sound room))) (aggregate_is room))
    (mapped_sound (aggregate_pieces room) (λ _. no_more_items) nothing_sound (λ x able. refl))

abbrev enclosed_identifier_pieces : ℕ → Ident → List Piece
enclosed_identifier_pieces room i = opening room (delimiter mark.LeftParenthesis) ∷ ident_pieces i ++ anywhere (delimiter mark.RightParenthesis) ∷ []

enclosed_identifier_sound : (room : ℕ) → Sound (enclosed_identifier_pieces room) (enclosed_identifier_at room)
unfolding enclosed_identifier_at
enclosed_identifier_sound room = opened_sound room (delimiter mark.LeftParenthesis) refl
    (mapped_sound (λ i. ident_pieces i ++ anywhere (delimiter mark.RightParenthesis) ∷ []) (λ (x : Ident × Unit {0}). x.0) (both_sound identifier_sound (after_sound (delimiter mark.RightParenthesis) refl nothing_sound)) (λ x able. refl))

handle_sound : (room : ℕ) → Sound (handle_pieces room) (handle_at room)
unfolding handle_at
handle_sound room = choose_sound (handle_pieces room) (at (delimiter mark.LeftParenthesis)) _ _ (λ t ts us. refl)
    (mapped_sound (handle_pieces room) Some (enclosed_identifier_sound room) (λ x able. refl))
    (mapped_sound (handle_pieces room) (λ _. None) nothing_sound (λ x able. refl))

allocator_anew : (room : ℕ) → Anew [] (right_pieces room) (allocator_at room)
unfolding allocator_at
allocator_anew room = anew_mapped [] (right_pieces room) allocator_from
    (anew_both (both_sound (handle_sound room) (both_sound identifier_sound (aggregate_sound room)))) (λ x able. simp append_assoc)

behind_path_goes : (room : ℕ) (path : PathTree) (b : Bool) → is_name path.selectors ≡ b → Able (path_pieces path) → Goes (path_pieces path) (right_pieces room) (behind_path room path b)
behind_path_goes room path true e able = choose_goes (path_pieces path) (right_pieces room) (at (delimiter mark.LeftParenthesis)) _ _ (λ t ts us. refl)
    (mapped_goes (path_pieces path) (right_pieces room) (creation_from path) (enclosed_identifier_sound room)
    (λ i able_i. guard_true (is_name path.selectors) _ e ∙ simp append_assoc))
    (goes_mapped (right_pieces room) expression_right able (behind_goes room (inside_sound room) (path_expression path) able) (λ x able_x. refl))
behind_path_goes room path false e able = goes_mapped (right_pieces room) expression_right able (behind_goes room (inside_sound room) (path_expression path) able) (λ x able_x. refl)

right_led_goes : (room : ℕ) (first : Ident) → Goes (ident_pieces first) (right_pieces room) (right_led room first)
unfolding right_led
right_led_goes room first = choose_goes (ident_pieces first) (right_pieces room) (at (delimiter mark.Tick)) _ _ (λ t ts us. refl)
    (goes_mapped (right_pieces room) expression_right (tt, tt) (expression_led_goes room (inside_sound room) first) (λ x able. refl))
    (goes_on (right_pieces room) (λ path. behind_path room path (is_name path.selectors)) (tt, tt) (path_goes first) (λ path able. behind_path_goes room path (is_name path.selectors) refl able))

pub right_sound : (room : ℕ) → Sound (right_pieces room) (right_at room)
unfolding right_at
right_sound room = anew_sound (right_pieces room) _ _ (allocator_anew room)
    (choose_sound (right_pieces room) (is_at is_identifier) _ _ (λ t ts us. refl)
    (continued_sound (right_pieces room) (right_led room) identifier_sound (λ i able. right_led_goes room i))
    (mapped_sound (right_pieces room) expression_right (expression_sound room) (λ x able. refl)))

pub initial_sound : (room : ℕ) → Sound (initial_pieces room) (initial_at room)
unfolding initial_at
initial_sound room = choose_sound (initial_pieces room) (at (delimiter mark.Assign)) _ _ (λ t ts us. refl)
    (mapped_sound (initial_pieces room) Some (after_sound (delimiter mark.Assign) refl (right_sound room)) (λ x able. refl))
    (mapped_sound (initial_pieces room) (λ _. None) nothing_sound (λ x able. refl))

behind_tick_goes : (room : ℕ) (first : Ident) → Goes (ident_pieces first ++ anywhere (delimiter mark.Tick) ∷ []) (argument_pieces room) (behind_tick room first)
unfolding behind_tick
behind_tick_goes room first = choose_goes (ident_pieces first ++ anywhere (delimiter mark.Tick) ∷ []) (argument_pieces room) (is_at is_identifier) _ _ (λ t ts us. refl)
    (mapped_goes (ident_pieces first ++ anywhere (delimiter mark.Tick) ∷ []) (argument_pieces room) (attribute_from first)
    (both_sound identifier_sound (opened_sound room (delimiter mark.LeftParenthesis) refl (both_sound (inside_sound room).expression (after_sound (delimiter mark.RightParenthesis) refl nothing_sound)))) (λ x able. simp append_assoc))
    (goes_mapped (argument_pieces room) expression_argument (tt, (tt, tt))
    (goes_on (expression_pieces room) (behind_primary room (inside room).expression (inside room).items) (tt, (tt, tt))
    (mapped_goes (ident_pieces first ++ anywhere (delimiter mark.Tick) ∷ []) (ranked primary room) (aggregate_expression first) (enclosed_items_sound room (inside_sound room)) (λ x able. refl))
    (λ x able. behind_goes room (inside_sound room) x able)) (λ x able. refl))

argument_led_goes : (room : ℕ) (first : Ident) → Goes (ident_pieces first) (argument_pieces room) (argument_led room first)
unfolding argument_led
argument_led_goes room first = choose_goes (ident_pieces first) (argument_pieces room) (at (delimiter mark.Tick)) _ _ (λ t ts us. refl)
    (after_goes (ident_pieces first) (argument_pieces room) (delimiter mark.Tick) _ refl (behind_tick_goes room first))
    (goes_mapped (argument_pieces room) expression_argument (tt, tt)
    (goes_on (expression_pieces room) (behind_primary room (inside room).expression (inside room).items) (tt, tt)
    (goes_mapped (ranked primary room) path_expression (tt, tt) (path_goes first) (λ x able. refl))
    (λ x able. behind_goes room (inside_sound room) x able)) (λ x able. refl))

pub argument_sound : (room : ℕ) → Sound (argument_pieces room) (argument_at room)
unfolding argument_at
argument_sound room = choose_sound (argument_pieces room) (is_at is_string) _ _ (λ t ts us. refl) (mapped_sound (argument_pieces room) text_from string_sound (λ x able. refl))
    (choose_sound (argument_pieces room) (is_at is_identifier) _ _ (λ t ts us. refl)
    (continued_sound (argument_pieces room) (argument_led room) identifier_sound (λ i able. argument_led_goes room i))
    (mapped_sound (argument_pieces room) expression_argument (expression_sound room) (λ x able. refl)))
