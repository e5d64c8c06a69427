-- What is read is written so: procedures, whose bodies show only behind their heads that they open a level of nesting.
use Rattle.std.proofs.Common.{◌≡◌, ℕ, zero, suc, ◌-◌, ◌≤◌, Bool, true, false, cond, List, [], ◌∷◌, ◌++◌, length, Option, Some, None, Ok, Err, ◌⊎◌, inl, inr, refl, sym, ap, subst, ◌∙◌, append_assoc, append-nil, arith}
use Rattle.ada_text.specs.declared.spot.Spot.{Spot}
use Rattle.ada_text.specs.declared.word.Word.TheVariants as word
use Rattle.ada_text.specs.declared.delimiter.Delimiter.TheVariants as mark
use Rattle.ada_text.specs.Token.{Kind, reserved, delimiter, Lexeme}
use Rattle.ada_tree.specs.Piece.{Piece, anywhere, placed, deep, opening, Written, Spelled}
use Rattle.ada_tree.specs.Names.{Ident, ident_pieces}
use Rattle.ada_tree.specs.Declarations.{FormalTree, HeadTree, optional_word_pieces, formals_pieces, specification_pieces, body_head_pieces, end_name_pieces}
use Rattle.ada_tree.specs.Statements.{DeclarationTree, specification, body_declaration, no_declarations, null_statement, no_statements, a_statement, no_handlers, SequenceTree, a_sequence, begin_of, ending_pieces, declaration_pieces, sequence_pieces}
use Rattle.ada_reader.specs.Step.{Stopped, here, too_deep, Outcome, Phrase, is_kind, fixed, identifier_at, at, nothing, continued}
use Rattle.ada_phrases.specs.Declarations.{optional_fixed, formal_from, formal_at, next_formal_at, formals_from, formals_at, Start, earlier, head_from, instance_at}
use Rattle.ada_phrases.specs.Statements.{Inner, body_from, body_in, specification_at, behind_formals_in, without_room, with_formals_in, at_instance, behind_is_in, behind_name_in, procedure_in}
use Rattle.ada_parser.specs.FirstFault.{MayFollow}
use Rattle.ada_parser.proofs.Local.{left_of, Fate, found, failed, sunk, passed, Plain, Peeks, fixed_single, identifier_single, continued_plain, choose_plain}
use Rattle.ada_parser.proofs.Sound.{bind_ok, bind_err, chosen, err_is, Able, able_append, written_able, written_spelled, Written-append, written_used, written_before, Ready, ready_append, Tells, settled, unsettled, Sinks, Carries, stays, stops_there, Stuck, Sound, Goes, kind_is, mapped_goes, continued_goes, both_sound, choose_goes, fixed_sound, after_goes, some_spot, spot_is, goes_front, Anew, choose_anew}
use Rattle.ada_parser.proofs.Shallow.{Shallow, single_shallow, continued_shallow, done_shallow, mapped_shallow, both_shallow, after_shallow, choose_shallow, all_shallow}
use Rattle.ada_parser.proofs.ExpressionPhrases.{less_one}
use Rattle.ada_parser.proofs.DeclarationPhrases.{end_sound, end_name_sound, inside_formals_pieces, formals_sound, formals_are, start_pieces, start_sound, instance_anew, specification_goes}
use Rattle.ada_parser.proofs.StatementPhrases.{listed_declarations, InnerSound, begin_sound}
use Rattle.ada_parser.proofs.Follows.{Alike, Whichever, Onward, Follows, behind_front, follows_of, choose_follows, Begins, token_fails, found_fails, after_follows, continued_follows, spelled_append, first_sinks, written_split, sunk_plain, bind_ok_on, bind_err_on}

-- ---- heads

-- the first words of their parts
abbrev start_of : Option Spot → Spot → Ident → Start
start_of o spot name = record { overriding = o; spot = spot; name = name }

head_parts : (overriding name formals : List Piece) (first : Piece) → overriding ++ first ∷ name ++ formals ≡ (overriding ++ first ∷ name) ++ formals
head_parts overriding name formals first = simp append_assoc

specification_is : (room : ℕ) (s : Start) (fs : List FormalTree) → specification_pieces room (head_from s fs) ≡ start_pieces s ++ formals_pieces room fs
specification_is room s fs = head_parts (optional_word_pieces word.Overriding s.overriding) (ident_pieces s.name) (formals_pieces room fs) (placed (reserved word.Procedure) s.spot)

specification_with : (room : ℕ) (s : Start) (fs : List FormalTree) → Able (inside_formals_pieces fs) → specification_pieces room (head_from s fs) ≡ start_pieces s ++ opening room (delimiter mark.LeftParenthesis) ∷ inside_formals_pieces fs
specification_with room s fs able = specification_is room s fs ∙ ap (λ (ps : List Piece). start_pieces s ++ ps) (formals_are room fs able)

body_head_of : (room : ℕ) (o : Option Spot) (spot : Spot) (name : Ident) (fs : List FormalTree) → body_head_pieces (suc room) (head_from (start_of o spot name) fs) ≡ start_pieces (start_of o spot name) ++ formals_pieces (suc room - 1) fs
body_head_of room None spot name fs = refl
body_head_of room (Some first) spot name fs = refl

body_head_is : (room : ℕ) (s : Start) (fs : List FormalTree) → body_head_pieces (suc room) (head_from s fs) ≡ start_pieces s ++ formals_pieces (suc room - 1) fs
body_head_is room s fs = body_head_of room s.overriding s.spot s.name fs

body_head_with : (room : ℕ) (s : Start) (fs : List FormalTree) → Able (inside_formals_pieces fs) → body_head_pieces (suc room) (head_from s fs) ≡ start_pieces s ++ opening room (delimiter mark.LeftParenthesis) ∷ inside_formals_pieces fs
body_head_with room s fs able =
    body_head_is room s fs ∙
    ap (λ (ps : List Piece). start_pieces s ++ ps)
    (subst (λ (n : ℕ). formals_pieces n fs ≡ opening room (delimiter mark.LeftParenthesis) ∷ inside_formals_pieces fs) (less_one room) (formals_are room fs able))

specification_begins : (room : ℕ) (s : Start) → Begins (start_pieces s) (declaration_pieces room)
specification_begins room s = (specification (head_from s []), ending_pieces, ap (λ (ps : List Piece). ps ++ ending_pieces) (specification_is room s [] ∙ append-nil (start_pieces s)), ((tt, tt), refl))

-- ---- bodies

body_parts : (head declarations body end_name last : List Piece) (shows start : Piece) → head ++ shows ∷ declarations ++ start ∷ body ++ end_name ++ last ≡ (head ++ shows ∷ []) ++ (declarations ++ ((start ∷ body) ++ (end_name ++ last)))
body_parts head declarations body end_name last shows start = simp append_assoc

body_goes : {inner : Inner} (room : ℕ) → InnerSound room inner → (head : HeadTree) → Goes (body_head_pieces room head ++ anywhere (reserved word.Is) ∷ []) (declaration_pieces room) (body_in inner head)
unfolding body_in
body_goes room sound head =
    mapped_goes (body_head_pieces room head ++ anywhere (reserved word.Is) ∷ []) (declaration_pieces room) (body_from head)
    (both_sound sound.declarations (both_sound (begin_sound (room - 1) sound.statements) (both_sound end_name_sound end_sound)))
    (λ x able. body_parts (body_head_pieces room head) (listed_declarations (room - 1) x.0) (sequence_pieces (room - 1) x.1.0) (end_name_pieces x.1.1.0) ending_pieces (anywhere (reserved word.Is)) (placed (reserved word.Begin) (begin_of x.1.0)))

-- a body, whichever
abbrev some_sequence : SequenceTree
some_sequence = a_sequence some_spot (a_statement (null_statement some_spot) no_statements) no_handlers some_spot

abbrev some_body : HeadTree → DeclarationTree
some_body head = body_declaration head no_declarations some_sequence None

-- what stands behind its `is`
abbrev some_body_pieces : List Piece
some_body_pieces =
    placed (reserved word.Begin) some_spot ∷ placed (reserved word.Null) some_spot ∷ anywhere (delimiter mark.Semicolon) ∷
    placed (reserved word.End) some_spot ∷ anywhere (delimiter mark.Semicolon) ∷ []

some_body_ready : Ready some_body_pieces
some_body_ready = ((tt, (tt, (tt, (tt, (tt, tt))))), refl)

abbrev is_piece : List Piece
is_piece = anywhere (reserved word.Is) ∷ []

some_body_is : (room : ℕ) (head : HeadTree) → declaration_pieces room (some_body head) ≡ (body_head_pieces room head ++ is_piece) ++ some_body_pieces
some_body_is room head = body_parts (body_head_pieces room head) [] (sequence_pieces (room - 1) some_sequence) [] ending_pieces (anywhere (reserved word.Is)) (placed (reserved word.Begin) some_spot)

-- ---- where nesting is too deep

head_sinks : (whole : Phrase DeclarationTree) (o : Option Spot) (spot : Spot) (name : Ident) (fs : List FormalTree) (used shown left : List Lexeme) → Written (start_pieces (start_of o spot name)) used [] → Spelled (formals_pieces 0 fs ++ is_piece) shown [] → ((more : List Lexeme) → MayFollow left more → whole (used ++ (shown ++ more)) ≡ Err (too_deep (earlier o spot))) → Sinks whole (body_head_pieces 0 (head_from (start_of o spot name) fs) ++ is_piece) (used ++ (shown ++ left)) (earlier o spot)
head_sinks whole None spot name fs used shown left w s h =
    subst (λ (ps : List Piece). Sinks whole ps (used ++ (shown ++ left)) spot) (sym (append_assoc (deep (reserved word.Procedure) ∷ ident_pieces name) (formals_pieces 0 fs) is_piece))
    (first_sinks whole (reserved word.Procedure) spot (ident_pieces name) (formals_pieces 0 fs ++ is_piece) used shown left w s h)
head_sinks whole (Some first) spot name fs used shown left w s h =
    subst (λ (ps : List Piece). Sinks whole ps (used ++ (shown ++ left)) first) (sym (append_assoc (deep (reserved word.Overriding) ∷ placed (reserved word.Procedure) spot ∷ ident_pieces name) (formals_pieces 0 fs) is_piece))
    (first_sinks whole (reserved word.Overriding) first (placed (reserved word.Procedure) spot ∷ ident_pieces name) (formals_pieces 0 fs ++ is_piece) used shown left w s h)

-- A body at whose first word it is too deep.
deep_body : (whole : Phrase DeclarationTree) (s : Start) (fs : List FormalTree) (used shown left : List Lexeme) → Written (start_pieces s) used [] → Spelled (formals_pieces 0 fs ++ is_piece) shown [] → ((more : List Lexeme) → MayFollow left more → whole (used ++ (shown ++ more)) ≡ Err (too_deep (earlier s.overriding s.spot))) → Stuck whole [] (declaration_pieces 0) (used ++ (shown ++ left)) (too_deep (earlier s.overriding s.spot))
deep_body whole s fs used shown left w sp h = record {
  tree = some_body (head_from s fs);
  begun = body_head_pieces 0 (head_from s fs) ++ is_piece;
  more = some_body_pieces;
  whole = some_body_is 0 (head_from s fs);
  reached = head_sinks whole s.overriding s.spot s.name fs used shown left w sp h;
  ready = some_body_ready;
}

deep_parts : (start inside begun more last : List Piece) (p : Piece) → inside ≡ begun ++ more → (start ++ p ∷ inside) ++ last ≡ (start ++ p ∷ begun) ++ (more ++ last)
deep_parts start inside begun more last p e = ap (λ (ps : List Piece). (start ++ p ∷ ps) ++ last) e ∙ simp append_assoc

parenthesis_sinks : (whole : Phrase DeclarationTree) (s : Start) (begun : List Piece) (used : List Lexeme) (t : Lexeme) (shown left : List Lexeme) (spot : Spot) → Written (start_pieces s) used [] → Written (placed (delimiter mark.LeftParenthesis) spot ∷ []) (t ∷ []) [] → Spelled begun shown [] → Tells whole used t shown left spot → Sinks whole (start_pieces s ++ deep (delimiter mark.LeftParenthesis) ∷ begun) (used ++ t ∷ (shown ++ left)) spot
parenthesis_sinks whole s begun used t shown left spot w p sp tells = record {
  shallow = start_pieces s;
  kind = delimiter mark.LeftParenthesis;
  behind = begun;
  whole = refl;
  before = used;
  token = t;
  shown = shown;
  left = left;
  split = refl;
  written = w;
  is_so = p.0.0;
  stands = spot_is t spot p.0.1 p.0.2;
  spelled = sp;
  tells = tells;
}

-- A specification at whose formals it is too deep.
deep_specification : (whole : Phrase DeclarationTree) (s : Start) (fs : List FormalTree) (begun more : List Piece) (used : List Lexeme) (t : Lexeme) (shown left : List Lexeme) (spot : Spot) → inside_formals_pieces fs ≡ begun ++ more → Able (inside_formals_pieces fs) → Ready more → Written (start_pieces s) used [] → Written (placed (delimiter mark.LeftParenthesis) spot ∷ []) (t ∷ []) [] → Spelled begun shown [] → Tells whole used t shown left spot → Stuck whole [] (declaration_pieces 0) (used ++ t ∷ (shown ++ left)) (too_deep spot)
deep_specification whole s fs begun more used t shown left spot e able rest w p sp tells = record {
  tree = specification (head_from s fs);
  begun = start_pieces s ++ deep (delimiter mark.LeftParenthesis) ∷ begun;
  more = more ++ ending_pieces;
  whole =
      ap (λ (ps : List Piece). ps ++ ending_pieces) (specification_with 0 s fs able) ∙
      deep_parts (start_pieces s) (inside_formals_pieces fs) begun more ending_pieces (deep (delimiter mark.LeftParenthesis)) e;
  reached = parenthesis_sinks whole s begun used t shown left spot w p sp tells;
  ready = ready_append more ending_pieces rest ((tt, tt), refl);
}

-- A body at whose formals it is too deep.
deep_formals : (whole : Phrase DeclarationTree) (s : Start) (fs : List FormalTree) (used : List Lexeme) (t : Lexeme) (shown left : List Lexeme) (spot : Spot) → Able (inside_formals_pieces fs) → Written (start_pieces s) used [] → Written (placed (delimiter mark.LeftParenthesis) spot ∷ []) (t ∷ []) [] → Spelled (inside_formals_pieces fs ++ is_piece) shown [] → Tells whole used t shown left spot → Stuck whole [] (declaration_pieces 1) (used ++ t ∷ (shown ++ left)) (too_deep spot)
deep_formals whole s fs used t shown left spot able w p sp tells = record {
  tree = some_body (head_from s fs);
  begun = start_pieces s ++ deep (delimiter mark.LeftParenthesis) ∷ (inside_formals_pieces fs ++ is_piece);
  more = some_body_pieces;
  whole =
      some_body_is 1 (head_from s fs) ∙
      ap (λ (ps : List Piece). ps ++ some_body_pieces)
      (ap (λ (ps : List Piece). ps ++ is_piece) (body_head_with 0 s fs able) ∙ append_assoc (start_pieces s) (deep (delimiter mark.LeftParenthesis) ∷ inside_formals_pieces fs) is_piece);
  reached = parenthesis_sinks whole s (inside_formals_pieces fs ++ is_piece) used t shown left spot w p sp tells;
  ready = some_body_ready;
}

-- ---- formals

word_shallow : (k : Kind) → Shallow (optional_fixed k)
word_shallow k = choose_shallow (at k) _ _ (mapped_shallow Some (fixed k) (single_shallow (fixed k) (fixed_single k))) (mapped_shallow (λ _. None) nothing (done_shallow tt))

formals_shallow : Shallow formals_at
unfolding formals_at formal_at next_formal_at identifier_at
formals_shallow =
    let one : Shallow formal_at = mapped_shallow formal_from _ (both_shallow identifier_at _ (single_shallow identifier_at identifier_single) (after_shallow (delimiter mark.Colon) _
    (both_shallow _ _ (word_shallow (reserved word.«In»)) (both_shallow _ identifier_at (word_shallow (reserved word.Out)) (single_shallow identifier_at identifier_single))))) in
    mapped_shallow formals_from _ (both_shallow formal_at _ one (both_shallow _ _ (all_shallow (at (delimiter mark.Semicolon)) next_formal_at (after_shallow (delimiter mark.Semicolon) formal_at one))
    (after_shallow (delimiter mark.RightParenthesis) nothing (done_shallow tt))))

-- formals, and the `is` behind them
formals_shown : (fs : List FormalTree) (shown : List Lexeme) (t : Lexeme) → Written (inside_formals_pieces fs) shown [] → t.kind ≡ reserved word.Is → Spelled (inside_formals_pieces fs ++ is_piece) (shown ++ t ∷ []) []
formals_shown fs shown t f e = spelled_append (inside_formals_pieces fs) is_piece (shown ++ t ∷ []) (t ∷ []) [] (written_spelled (inside_formals_pieces fs) (shown ++ t ∷ []) (t ∷ []) (written_before (inside_formals_pieces fs) shown (t ∷ []) f)) (e, refl)

-- formals that are there are read so before the `is` behind them, whatever follows it
formals_stay : (fs : List FormalTree) (shown : List Lexeme) (t : Lexeme) (rest : List Lexeme) → formals_at (shown ++ t ∷ rest) ≡ Ok (fs, t ∷ rest) → (more : List Lexeme) → formals_at ((shown ++ t ∷ []) ++ more) ≡ Ok (fs, t ∷ more)
formals_stay fs shown t rest e more = ap formals_at (append_assoc shown (t ∷ []) more) ∙ stays formals_at formals_sound.plain shown t rest fs e more

-- ---- without room for a level

without_ok : (first parenthesis : Spot) (o : Outcome (List FormalTree)) (x : DeclarationTree × List Lexeme) → without_room first parenthesis o ≡ Ok x → ⊥
without_ok first parenthesis (Ok y) x e =
    elim (chosen (at (reserved word.Is) y.1) (Err (too_deep first)) (Err (too_deep parenthesis)) (Ok x) e) [
      | inl h ↦ (let c : ⊥ = (let q = h.1 in cc) in c)
      | inr h ↦ (let c : ⊥ = (let q = h.1 in cc) in c)
    ]
without_ok first parenthesis (Err d) x e = absurd cc

abbrev refused_at : Spot → Outcome DeclarationTree
refused_at spot = Err (too_deep spot)

one_told : (first parenthesis : Spot) (b : Bool) → (cond b (refused_at first) (refused_at parenthesis) ≡ refused_at parenthesis) ⊎ (cond b (refused_at first) (refused_at parenthesis) ≡ refused_at first)
one_told first parenthesis true = inr refl
one_told first parenthesis false = inl refl

-- one of the two is told
either_told : (first parenthesis : Spot) (o : Outcome (List FormalTree)) → (without_room first parenthesis o ≡ refused_at parenthesis) ⊎ (without_room first parenthesis o ≡ refused_at first)
either_told first parenthesis (Ok x) = one_told first parenthesis (at (reserved word.Is) x.1)
either_told first parenthesis (Err e) = inl refl

-- what becomes of formals without room for their level
abbrev formals_without : Spot → Spot → Phrase DeclarationTree
formals_without first parenthesis ts = without_room first parenthesis (formals_at ts)

-- Behind the parenthesis the whole stops as its formals do.
abbrev Behind : Spot → Spot → List Lexeme → Lexeme → Phrase DeclarationTree → Type 0
Behind first parenthesis used t whole = (more : List Lexeme) (s : Stopped) → formals_without first parenthesis more ≡ Err s → whole (used ++ t ∷ more) ≡ Err s

either_behind : (first parenthesis : Spot) (used : List Lexeme) (t : Lexeme) (whole : Phrase DeclarationTree) → Behind first parenthesis used t whole → (more : List Lexeme) → (whole (used ++ t ∷ more) ≡ refused_at parenthesis) ⊎ (whole (used ++ t ∷ more) ≡ refused_at first)
either_behind first parenthesis used t whole on more =
    elim (either_told first parenthesis (formals_at more)) [
      | inl e ↦ inl (on more (too_deep parenthesis) e)
      | inr e ↦ inr (on more (too_deep first) e)
    ]

-- `is` shows a body
shown_body : (whole : Phrase DeclarationTree) (s : Start) (fs : List FormalTree) (used : List Lexeme) (t : Lexeme) (shown left : List Lexeme) (spot : Spot) → Written (start_pieces s) used [] → Written (placed (delimiter mark.LeftParenthesis) spot ∷ []) (t ∷ []) [] → Behind (earlier s.overriding s.spot) spot used t whole → Written (inside_formals_pieces fs) shown [] → formals_at (shown ++ left) ≡ Ok (fs, left) → at (reserved word.Is) left ≡ true → Stuck whole [] (declaration_pieces 0) (used ++ t ∷ (shown ++ left)) (too_deep (earlier s.overriding s.spot))
shown_body whole s fs used t shown [] spot w p on f e h = absurd cc
shown_body whole s fs used t shown (i ∷ left) spot w p on f e h =
    let able : Able (inside_formals_pieces fs) = written_able (inside_formals_pieces fs) shown [] f in
    let head : Spelled (formals_pieces 0 fs ++ is_piece) (t ∷ (shown ++ i ∷ [])) [] =
    subst (λ (ps : List Piece). Spelled (ps ++ is_piece) (t ∷ (shown ++ i ∷ [])) []) (sym (formals_are 0 fs able)) (p.0.0, formals_shown fs shown i f (kind_is (reserved word.Is) i.kind h)) in
    subst (λ (us : List Lexeme). Stuck whole [] (declaration_pieces 0) (used ++ t ∷ us) (too_deep (earlier s.overriding s.spot))) (append_assoc shown (i ∷ []) left)
    (deep_body whole s fs used (t ∷ (shown ++ i ∷ [])) left w head
    (λ more _. on ((shown ++ i ∷ []) ++ more) (too_deep (earlier s.overriding s.spot)) (rw (formals_stay fs shown i left e more, h) refl)))

-- whether the formals are followed by `is`, which was not so
not_shown : (first parenthesis : Spot) (fs : List FormalTree) (shown left : List Lexeme) → formals_at (shown ++ left) ≡ Ok (fs, left) → at (reserved word.Is) left ≡ false → (t : Lexeme) (more rest : List Lexeme) → left ≡ t ∷ rest → formals_without first parenthesis (shown ++ t ∷ more) ≡ refused_at parenthesis
not_shown first parenthesis fs shown left e h t more rest split =
    let there : formals_at (shown ++ t ∷ rest) ≡ Ok (fs, t ∷ rest) = subst (λ (us : List Lexeme). formals_at (shown ++ us) ≡ Ok (fs, us)) split e in
    let g : is_kind (reserved word.Is) t.kind ≡ false = subst (λ (us : List Lexeme). at (reserved word.Is) us ≡ false) split h in
    rw (stays formals_at formals_sound.plain shown t rest fs there more, g) refl

-- no `is` follows the formals
shown_formals : (whole : Phrase DeclarationTree) (s : Start) (fs : List FormalTree) (used : List Lexeme) (t : Lexeme) (shown left : List Lexeme) (spot : Spot) → Written (start_pieces s) used [] → Written (placed (delimiter mark.LeftParenthesis) spot ∷ []) (t ∷ []) [] → Behind (earlier s.overriding s.spot) spot used t whole → Written (inside_formals_pieces fs) shown [] → formals_at (shown ++ left) ≡ Ok (fs, left) → at (reserved word.Is) left ≡ false → Stuck whole [] (declaration_pieces 0) (used ++ t ∷ (shown ++ left)) (too_deep spot)
shown_formals whole s fs used t shown left spot w p on f e h =
    deep_specification whole s fs (inside_formals_pieces fs) [] used t shown left spot (sym (append-nil (inside_formals_pieces fs))) (written_able (inside_formals_pieces fs) shown [] f) (tt, refl) w p (written_spelled (inside_formals_pieces fs) shown [] f)
    (unsettled (earlier s.overriding s.spot) (either_behind (earlier s.overriding s.spot) spot used t whole on)
    (λ u more rest split. on (shown ++ u ∷ more) (too_deep spot) (not_shown (earlier s.overriding s.spot) spot fs shown left e h u more rest split)))

-- the formals break off
broken_off : (first parenthesis : Spot) (shown left : List Lexeme) → formals_at (shown ++ left) ≡ Err (here left) → (t : Lexeme) (more rest : List Lexeme) → left ≡ t ∷ rest → formals_without first parenthesis (shown ++ t ∷ more) ≡ refused_at parenthesis
broken_off first parenthesis shown left e t more rest split =
    let there : formals_at (shown ++ t ∷ rest) ≡ Err (here (t ∷ rest)) = subst (λ (us : List Lexeme). formals_at (shown ++ us) ≡ Err (here us)) split e in
    rw (stops_there formals_at formals_sound.plain shown t rest there more) refl

broken_formals : (whole : Phrase DeclarationTree) (s : Start) (used : List Lexeme) (t : Lexeme) (rest left : List Lexeme) (spot : Spot) → Written (start_pieces s) used [] → Written (placed (delimiter mark.LeftParenthesis) spot ∷ []) (t ∷ []) [] → Behind (earlier s.overriding s.spot) spot used t whole → formals_at rest ≡ Err (here left) → Stuck whole [] (declaration_pieces 0) (used ++ t ∷ rest) (too_deep spot)
broken_formals whole s used t rest left spot w p on e =
    let k : Stuck formals_at [] inside_formals_pieces rest (here left) = formals_sound.fails rest (here left) e in
    let u = written_used k.begun rest left k.reached in
    let able : Able (inside_formals_pieces k.tree) = subst Able (sym k.whole) (able_append k.begun k.more (written_able k.begun u.0 [] u.2) k.ready.0) in
    subst (λ (us : List Lexeme). Stuck whole [] (declaration_pieces 0) (used ++ t ∷ us) (too_deep spot)) (sym u.1)
    (deep_specification whole s k.tree k.begun k.more used t u.0 left spot k.whole able k.ready w p (written_spelled k.begun u.0 [] u.2)
    (unsettled (earlier s.overriding s.spot) (either_behind (earlier s.overriding s.spot) spot used t whole on)
    (λ v more behind split. on (u.0 ++ v ∷ more) (too_deep spot)
    (broken_off (earlier s.overriding s.spot) spot u.0 left (subst (λ (us : List Lexeme). formals_at us ≡ Err (here left)) u.1 e) v more behind split))))

without_fails : (whole : Phrase DeclarationTree) (s : Start) (used : List Lexeme) (t : Lexeme) (rest : List Lexeme) (spot : Spot) (o : Outcome (List FormalTree)) (stop : Stopped) → Written (start_pieces s) used [] → Written (placed (delimiter mark.LeftParenthesis) spot ∷ []) (t ∷ []) [] → Behind (earlier s.overriding s.spot) spot used t whole → formals_at rest ≡ o → without_room (earlier s.overriding s.spot) spot o ≡ Err stop → Stuck whole [] (declaration_pieces 0) (used ++ t ∷ rest) stop
without_fails whole s used t rest spot (Ok x) stop w p on e d =
    let u = written_used (inside_formals_pieces x.0) rest x.1 (formals_sound.takes rest x.0 x.1 e) in
    let there : formals_at (u.0 ++ x.1) ≡ Ok (x.0, x.1) = subst (λ (us : List Lexeme). formals_at us ≡ Ok (x.0, x.1)) u.1 e in
    subst (λ (us : List Lexeme). Stuck whole [] (declaration_pieces 0) (used ++ t ∷ us) stop) (sym u.1)
    (elim (chosen (at (reserved word.Is) x.1) (Err (too_deep (earlier s.overriding s.spot))) (Err (too_deep spot)) (Err stop) d) [
      | inl h ↦
          subst (λ (z : Stopped). Stuck whole [] (declaration_pieces 0) (used ++ t ∷ (u.0 ++ x.1)) z) (err_is (too_deep (earlier s.overriding s.spot)) stop h.1)
          (shown_body whole s x.0 used t u.0 x.1 spot w p on u.2 there h.0)
      | inr h ↦
          subst (λ (z : Stopped). Stuck whole [] (declaration_pieces 0) (used ++ t ∷ (u.0 ++ x.1)) z) (err_is (too_deep spot) stop h.1)
          (shown_formals whole s x.0 used t u.0 x.1 spot w p on u.2 there h.0)
    ])
without_fails whole s used t rest spot (Err (here left)) stop w p on e d =
    subst (λ (z : Stopped). Stuck whole [] (declaration_pieces 0) (used ++ t ∷ rest) z) (err_is (too_deep spot) stop d)
    (broken_formals whole s used t rest left spot w p on e)
without_fails whole s used t rest spot (Err (too_deep other)) stop w p on e d = absurd (formals_shallow rest other e)

either_short : (first parenthesis : Spot) (b : Bool) (n : ℕ) → length (left_of {A = DeclarationTree} (cond b (Err (too_deep first)) (Err (too_deep parenthesis)))) ≤ n
either_short first parenthesis true n = omega arith
either_short first parenthesis false n = omega arith

without_short : (first parenthesis : Spot) (o : Outcome (List FormalTree)) (n : ℕ) → length (left_of (without_room first parenthesis o)) ≤ n
without_short first parenthesis (Ok x) n = either_short first parenthesis (at (reserved word.Is) x.1) n
without_short first parenthesis (Err e) n = omega arith

found_fate : (first parenthesis : Spot) (u : List Lexeme) (t : Lexeme) (x : List FormalTree) (v : List Lexeme) (b : Bool) → ((a : List Lexeme) → formals_at (u ++ t ∷ a) ≡ Ok (x, v ++ t ∷ a)) → ((a : List Lexeme) → at (reserved word.Is) (v ++ t ∷ a) ≡ b) → Fate (formals_without first parenthesis) u t
found_fate first parenthesis u t x v true e h = sunk first (λ a. rw (e a, h a) refl)
found_fate first parenthesis u t x v false e h = sunk parenthesis (λ a. rw (e a, h a) refl)

without_fate : (first parenthesis : Spot) (u : List Lexeme) (t : Lexeme) → Fate formals_at u t → Fate (formals_without first parenthesis) u t
without_fate first parenthesis u t (found x [] e) = found_fate first parenthesis u t x [] (is_kind (reserved word.Is) t.kind) e (λ a. refl)
without_fate first parenthesis u t (found x (y ∷ v) e) = found_fate first parenthesis u t x (y ∷ v) (is_kind (reserved word.Is) y.kind) e (λ a. refl)
without_fate first parenthesis u t (failed v e) = sunk parenthesis (λ a. rw (e a) refl)
without_fate first parenthesis u t (sunk spot e) = sunk parenthesis (λ a. rw (e a) refl)
without_fate first parenthesis u t (passed le) = passed (λ a. without_short first parenthesis (formals_at (u ++ t ∷ a)) (length a))

without_plain : (first parenthesis : Spot) → Plain (formals_without first parenthesis)
without_plain first parenthesis = record {
  shrinks = λ ts. without_short first parenthesis (formals_at ts) (length ts);
  fate = λ u t. without_fate first parenthesis u t (formals_sound.plain.fate u t);
}

-- formals where there is no room for a level
formals_zero : (inner : Inner) (s : Start) → Follows Alike (start_pieces s) (declaration_pieces 0) (continued (fixed (delimiter mark.LeftParenthesis)) (with_formals_in 0 inner s))
formals_zero inner s = record {
  takes = λ ts x rest e.
      let a = bind_ok (fixed (delimiter mark.LeftParenthesis) ts) (λ z. with_formals_in 0 inner s z.0 z.1) (x, rest) e in
      absurd (without_ok (earlier s.overriding s.spot) a.0.0 (formals_at a.0.1) (x, rest) a.2);
  fails = λ whole used ts stop w c e.
      elim (bind_err (fixed (delimiter mark.LeftParenthesis) ts) (λ z. with_formals_in 0 inner s z.0 z.1) stop e) [
        | inl d ↦ token_fails (start_pieces s) (declaration_pieces 0) (delimiter mark.LeftParenthesis) (specification_begins 0 s) whole used ts stop w d
        | inr d ↦ found_fails (start_pieces s) (declaration_pieces 0) (delimiter mark.LeftParenthesis) (with_formals_in 0 inner s) whole used ts stop c d.0 d.1 d.2
            (λ t rest p onward f. subst (λ (us : List Lexeme). Stuck whole [] (declaration_pieces 0) us stop) (sym (append_assoc used (t ∷ []) rest))
            (without_fails whole s used t rest d.0.0 (formals_at rest) stop w p (λ more z g. ap whole (sym (append_assoc used (t ∷ []) more)) ∙ onward more z tt g) refl f))
      ];
  plain = continued_plain (fixed (delimiter mark.LeftParenthesis)) (with_formals_in 0 inner s) (fixed_sound (delimiter mark.LeftParenthesis) refl).plain (λ ts spot rest e. without_plain (earlier s.overriding s.spot) spot);
}

-- ---- with room for one level, which the formals of a body would open a second in

-- a specification's formals behind their parenthesis, and what stands behind them
abbrev behind_only : Start → Phrase DeclarationTree
behind_only s = continued formals_at (λ fs. specification_at (head_from s fs))

-- the same with the parenthesis
abbrev formals_only : Start → Phrase DeclarationTree
formals_only s = continued (fixed (delimiter mark.LeftParenthesis)) (λ _. behind_only s)

specification_front : (room : ℕ) (s : Start) (fs : List FormalTree) → Able (inside_formals_pieces fs) → specification_pieces (suc room) (head_from s fs) ≡ (start_pieces s ++ anywhere (delimiter mark.LeftParenthesis) ∷ []) ++ inside_formals_pieces fs
specification_front room s fs able = specification_with (suc room) s fs able ∙ sym (append_assoc (start_pieces s) (anywhere (delimiter mark.LeftParenthesis) ∷ []) (inside_formals_pieces fs))

behind_only_goes : (room : ℕ) (s : Start) → Goes (start_pieces s ++ anywhere (delimiter mark.LeftParenthesis) ∷ []) (declaration_pieces (suc room)) (behind_only s)
behind_only_goes room s =
    continued_goes (start_pieces s ++ anywhere (delimiter mark.LeftParenthesis) ∷ []) (declaration_pieces (suc room)) (λ fs. specification_at (head_from s fs)) formals_sound
    (λ fs able. goes_front (specification_goes (suc room) s fs) (specification_front room s fs able))

formals_only_goes : (room : ℕ) (s : Start) → Goes (start_pieces s) (declaration_pieces (suc room)) (formals_only s)
formals_only_goes room s = after_goes (start_pieces s) (declaration_pieces (suc room)) (delimiter mark.LeftParenthesis) _ refl (behind_only_goes room s)

behind_only_shallow : (s : Start) → Shallow (behind_only s)
behind_only_shallow s = continued_shallow formals_at _ formals_shallow (λ fs. mapped_shallow _ _ (after_shallow (delimiter mark.Semicolon) nothing (done_shallow tt)))

-- where it stops it stops at a token, behind a front that was read
only_fails : (whole : Phrase DeclarationTree) (s : Start) (used rest : List Lexeme) (stop : Stopped) → Written (start_pieces s ++ anywhere (delimiter mark.LeftParenthesis) ∷ []) used [] → behind_only s rest ≡ Err stop → Stuck whole [] (declaration_pieces 1) (used ++ rest) stop
only_fails whole s used rest (here left) w e =
    let front : List Piece = start_pieces s ++ anywhere (delimiter mark.LeftParenthesis) ∷ [] in
    let k : Stuck (behind_only s) front (declaration_pieces 1) rest (here left) = (behind_only_goes 0 s).fails rest (here left) e in
    record { tree = k.tree; begun = front ++ k.begun; more = k.more; whole = k.whole ∙ sym (append_assoc front k.begun k.more); reached = Written-append front k.begun (used ++ rest) rest left (written_before front used rest w) k.reached; ready = k.ready }
only_fails whole s used rest (too_deep spot) w e = absurd (behind_only_shallow s rest spot e)

behind_ok : (inner : Inner) (head : HeadTree) (spot : Spot) (ts : List Lexeme) (y : DeclarationTree × List Lexeme) → behind_formals_in 0 inner head spot ts ≡ Ok y → specification_at head ts ≡ Ok y
unfolding behind_formals_in
behind_ok inner head spot ts y e =
    elim (chosen (at (reserved word.Is) ts) (Err (too_deep spot)) (specification_at head ts) (Ok y) e) [
      | inl h ↦ absurd (let c : ⊥ = (let q = h.1 in cc) in c)
      | inr h ↦ h.1
    ]

behind_err : (inner : Inner) (head : HeadTree) (spot : Spot) (ts : List Lexeme) (stop : Stopped) → behind_formals_in 0 inner head spot ts ≡ Err stop → (specification_at head ts ≡ Err stop) ⊎ ((at (reserved word.Is) ts ≡ true) × (too_deep spot ≡ stop))
unfolding behind_formals_in
behind_err inner head spot ts stop e =
    elim (chosen (at (reserved word.Is) ts) (Err (too_deep spot)) (specification_at head ts) (Err stop) e) [
      | inl h ↦ inr (h.0, err_is (too_deep spot) stop h.1)
      | inr h ↦ inl h.1
    ]

-- `is` behind formals is too deep at their parenthesis
behind_is : (inner : Inner) (s : Start) (fs : List FormalTree) (spot : Spot) (shown : List Lexeme) (i : Lexeme) (rest : List Lexeme) → formals_at (shown ++ i ∷ rest) ≡ Ok (fs, i ∷ rest) → is_kind (reserved word.Is) i.kind ≡ true → (more : List Lexeme) → with_formals_in 1 inner s spot ((shown ++ i ∷ []) ++ more) ≡ refused_at spot
unfolding behind_formals_in
behind_is inner s fs spot shown i rest e h more = rw (formals_stay fs shown i rest e more, h) refl

-- `is` shows a body, of which the first word opens the last level there is room for
formals_too_deep : (inner : Inner) (whole : Phrase DeclarationTree) (s : Start) (fs : List FormalTree) (used : List Lexeme) (t : Lexeme) (shown left : List Lexeme) (spot : Spot) → Written (start_pieces s) used [] → Written (placed (delimiter mark.LeftParenthesis) spot ∷ []) (t ∷ []) [] → Onward Whichever (with_formals_in 1 inner s spot) (used ++ t ∷ []) (shown ++ left) whole → Written (inside_formals_pieces fs) shown [] → formals_at (shown ++ left) ≡ Ok (fs, left) → at (reserved word.Is) left ≡ true → Stuck whole [] (declaration_pieces 1) (used ++ t ∷ (shown ++ left)) (too_deep spot)
formals_too_deep inner whole s fs used t shown [] spot w p on f e h = absurd cc
formals_too_deep inner whole s fs used t shown (i ∷ left) spot w p on f e h =
    subst (λ (us : List Lexeme). Stuck whole [] (declaration_pieces 1) (used ++ t ∷ us) (too_deep spot)) (append_assoc shown (i ∷ []) left)
    (deep_formals whole s fs used t (shown ++ i ∷ []) left spot (written_able (inside_formals_pieces fs) shown [] f) w p (formals_shown fs shown i f (kind_is (reserved word.Is) i.kind h))
    (settled (λ more _. ap whole (sym (append_assoc used (t ∷ []) ((shown ++ i ∷ []) ++ more))) ∙ on ((shown ++ i ∷ []) ++ more) (too_deep spot) tt (behind_is inner s fs spot shown i left e h more))))

behind_plain : (inner : Inner) (s : Start) (fs : List FormalTree) (spot : Spot) → Plain (behind_formals_in 0 inner (head_from s fs) spot)
unfolding behind_formals_in
behind_plain inner s fs spot = choose_plain (at (reserved word.Is)) _ _ (λ t ts us. refl) (sunk_plain spot) (specification_goes 0 s fs).plain

body_told : (inner : Inner) (whole : Phrase DeclarationTree) (s : Start) (used : List Lexeme) (t : Lexeme) (rest : List Lexeme) (spot : Spot) (stop : Stopped) (y : List FormalTree × List Lexeme) → Written (start_pieces s) used [] → Written (placed (delimiter mark.LeftParenthesis) spot ∷ []) (t ∷ []) [] → Onward Whichever (with_formals_in 1 inner s spot) (used ++ t ∷ []) rest whole → formals_at rest ≡ Ok y → at (reserved word.Is) y.1 ≡ true → too_deep spot ≡ stop → Stuck whole [] (declaration_pieces 1) ((used ++ t ∷ []) ++ rest) stop
body_told inner whole s used t rest spot stop y w p on e h d =
    let u = written_used (inside_formals_pieces y.0) rest y.1 (formals_sound.takes rest y.0 y.1 e) in
    let there : formals_at (u.0 ++ y.1) ≡ Ok (y.0, y.1) = subst (λ (us : List Lexeme). formals_at us ≡ Ok (y.0, y.1)) u.1 e in
    subst (λ (us : List Lexeme). Stuck whole [] (declaration_pieces 1) us stop) (ap (λ (us : List Lexeme). used ++ t ∷ us) (sym u.1) ∙ sym (append_assoc used (t ∷ []) rest))
    (subst (λ (z : Stopped). Stuck whole [] (declaration_pieces 1) (used ++ t ∷ (u.0 ++ y.1)) z) d
    (formals_too_deep inner whole s y.0 used t u.0 y.1 spot w p on u.2 there h))

formals_one_fails : (inner : Inner) (whole : Phrase DeclarationTree) (s : Start) (used : List Lexeme) (t : Lexeme) (rest : List Lexeme) (spot : Spot) (stop : Stopped) → Written (start_pieces s) used [] → Written (placed (delimiter mark.LeftParenthesis) spot ∷ []) (t ∷ []) [] → Onward Whichever (with_formals_in 1 inner s spot) (used ++ t ∷ []) rest whole → with_formals_in 1 inner s spot rest ≡ Err stop → Stuck whole [] (declaration_pieces 1) ((used ++ t ∷ []) ++ rest) stop
formals_one_fails inner whole s used t rest spot stop w p on e =
    elim (bind_err_on (Stuck whole [] (declaration_pieces 1) ((used ++ t ∷ []) ++ rest) stop) (formals_at rest) (λ y. behind_formals_in 0 inner (head_from s y.0) spot y.1) (λ y. specification_at (head_from s y.0) y.1) stop
    (λ y f d. elim (behind_err inner (head_from s y.0) spot y.1 stop d) [
      | inl h ↦ inl h
      | inr h ↦ inr (body_told inner whole s used t rest spot stop y w p on f h.0 h.1)
    ]) e) [
      | inl d ↦ only_fails whole s (used ++ t ∷ []) rest stop (Written-append (start_pieces s) (anywhere (delimiter mark.LeftParenthesis) ∷ []) (used ++ t ∷ []) (t ∷ []) [] (written_before (start_pieces s) used (t ∷ []) w) (p.0.0, refl)) d
      | inr k ↦ k
    ]

formals_one : (inner : Inner) (s : Start) → Follows Alike (start_pieces s) (declaration_pieces 1) (continued (fixed (delimiter mark.LeftParenthesis)) (with_formals_in 1 inner s))
formals_one inner s = record {
  takes = λ ts x rest e.
      (formals_only_goes 0 s).takes ts x rest
      (bind_ok_on (fixed (delimiter mark.LeftParenthesis) ts) (λ z. with_formals_in 1 inner s z.0 z.1) (λ z. continued formals_at (λ fs. specification_at (head_from s fs)) z.1) (x, rest)
      (λ z. bind_ok_on (formals_at z.1) (λ y. behind_formals_in 0 inner (head_from s y.0) z.0 y.1) (λ y. specification_at (head_from s y.0) y.1) (x, rest)
      (λ y. behind_ok inner (head_from s y.0) z.0 y.1 (x, rest))) e);
  fails = λ whole used ts stop w c e.
      elim (bind_err (fixed (delimiter mark.LeftParenthesis) ts) (λ z. with_formals_in 1 inner s z.0 z.1) stop e) [
        | inl d ↦ token_fails (start_pieces s) (declaration_pieces 1) (delimiter mark.LeftParenthesis) (specification_begins 1 s) whole used ts stop w d
        | inr d ↦ found_fails (start_pieces s) (declaration_pieces 1) (delimiter mark.LeftParenthesis) (with_formals_in 1 inner s) whole used ts stop c d.0 d.1 d.2
            (λ t rest p onward f. formals_one_fails inner whole s used t rest d.0.0 stop w p onward f)
      ];
  plain = continued_plain (fixed (delimiter mark.LeftParenthesis)) (with_formals_in 1 inner s) (fixed_sound (delimiter mark.LeftParenthesis) refl).plain
      (λ ts spot rest e. continued_plain formals_at (λ fs. behind_formals_in 0 inner (head_from s fs) spot) formals_sound.plain (λ us fs left d. behind_plain inner s fs spot));
}

-- ---- with room for more

behind_formals_goes : {inner : Inner} (room : ℕ) → InnerSound (suc (suc room)) inner → (s : Start) (fs : List FormalTree) (spot : Spot) → Able (inside_formals_pieces fs) → Goes ((start_pieces s ++ anywhere (delimiter mark.LeftParenthesis) ∷ []) ++ inside_formals_pieces fs) (declaration_pieces (suc (suc room))) (behind_formals_in (suc room) inner (head_from s fs) spot)
unfolding behind_formals_in
behind_formals_goes room sound s fs spot able =
    let front : List Piece = (start_pieces s ++ anywhere (delimiter mark.LeftParenthesis) ∷ []) ++ inside_formals_pieces fs in
    choose_goes front (declaration_pieces (suc (suc room))) (at (reserved word.Is)) _ _ (λ t ts us. refl)
    (after_goes front (declaration_pieces (suc (suc room))) (reserved word.Is) _ refl
    (goes_front (body_goes (suc (suc room)) sound (head_from s fs))
    (ap (λ (ps : List Piece). ps ++ anywhere (reserved word.Is) ∷ [])
    (body_head_with (suc room) s fs able ∙ sym (append_assoc (start_pieces s) (anywhere (delimiter mark.LeftParenthesis) ∷ []) (inside_formals_pieces fs))))))
    (goes_front (specification_goes (suc (suc room)) s fs) (specification_front (suc room) s fs able))

formals_more : {inner : Inner} (room : ℕ) → InnerSound (suc (suc room)) inner → (s : Start) → Goes (start_pieces s) (declaration_pieces (suc (suc room))) (continued (fixed (delimiter mark.LeftParenthesis)) (with_formals_in (suc (suc room)) inner s))
formals_more {inner} room sound s =
    continued_goes (start_pieces s) (declaration_pieces (suc (suc room))) (with_formals_in (suc (suc room)) inner s) (fixed_sound (delimiter mark.LeftParenthesis) refl)
    (λ spot able. continued_goes (start_pieces s ++ anywhere (delimiter mark.LeftParenthesis) ∷ []) (declaration_pieces (suc (suc room))) (λ fs. behind_formals_in (suc room) inner (head_from s fs) spot) formals_sound
    (λ fs able_fs. behind_formals_goes room sound s fs spot able_fs))

formals_follow : {inner : Inner} (room : ℕ) → InnerSound room inner → (s : Start) → Follows Alike (start_pieces s) (declaration_pieces room) (continued (fixed (delimiter mark.LeftParenthesis)) (with_formals_in room inner s))
formals_follow {inner} zero sound s = formals_zero inner s
formals_follow {inner} (suc zero) sound s = formals_one inner s
formals_follow (suc (suc room)) sound s = follows_of Alike (λ t us vs. refl) (formals_more room sound s)

-- ---- what stands behind `is`

at_instance_peeks : (o : Option Spot) → Peeks (at_instance o)
at_instance_peeks None t ts us = refl
at_instance_peeks (Some spot) t ts us = refl

at_new : (o : Option Spot) (ts : List Lexeme) → at_instance o ts ≡ true → (o ≡ None) × (at (reserved word.New) ts ≡ true)
at_new None ts e = (refl, e)
at_new (Some first) ts e = absurd cc

-- an instance, which none is behind `overriding`
instance_follows : (room : ℕ) (o : Option Spot) (spot : Spot) (name : Ident) → o ≡ None → Anew (start_pieces (start_of o spot name) ++ anywhere (reserved word.Is) ∷ []) (declaration_pieces room) (instance_at room (start_of o spot name))
instance_follows room None spot name e = instance_anew room (start_of None spot name)
instance_follows room (Some first) spot name e = absurd cc

abbrev is_front : Start → List Piece
is_front s = start_pieces s ++ anywhere (reserved word.Is) ∷ []

not_new : (b : Bool) (left : List Lexeme) → at (reserved word.New) left ≡ false → (b ≡ true → at (reserved word.New) left ≡ true) → b ≡ false
not_new true left e f = absurd (let c : ⊥ = (let q = sym (f refl) ∙ e in cc) in c)
not_new false left e f = refl

-- none is where `new` does not follow
no_instance : (o : Option Spot) (left more : List Lexeme) → at_instance o left ≡ false → MayFollow left more → at_instance o more ≡ false
no_instance None left more e f = not_new (at (reserved word.New) more) left e f
no_instance (Some first) left more e f = refl

carries_instance : (inner : Inner) (s : Start) (whole : Phrase DeclarationTree) (used ts : List Lexeme) → Onward Whichever (behind_is_in 0 inner s) used ts whole → at_instance s.overriding ts ≡ true → Carries (instance_at 0 s) used ts whole
unfolding behind_is_in
carries_instance inner s whole used ts on h t rest e more z d =
    let g : at_instance s.overriding (t ∷ more) ≡ true = at_instance_peeks s.overriding t more rest ∙ subst (λ (us : List Lexeme). at_instance s.overriding us ≡ true) e h in
    on (t ∷ more) z tt (rw g d)

is_sinks : (inner : Inner) (s : Start) (more : List Lexeme) → at_instance s.overriding more ≡ false → behind_is_in 0 inner s more ≡ refused_at (earlier s.overriding s.spot)
unfolding behind_is_in
is_sinks inner s more e = rw e refl

body_without : (inner : Inner) (s : Start) (whole : Phrase DeclarationTree) (used ts : List Lexeme) → Written (is_front s) used [] → Onward Whichever (behind_is_in 0 inner s) used ts whole → at_instance s.overriding ts ≡ false → Stuck whole [] (declaration_pieces 0) (used ++ ts) (too_deep (earlier s.overriding s.spot))
body_without inner s whole used ts w on h =
    let m = written_split (start_pieces s) is_piece used [] w in
    let u = written_used (start_pieces s) used m.0 m.1 in
    let whole_is : (more : List Lexeme) → used ++ more ≡ u.0 ++ (m.0 ++ more) = λ more. ap (λ (us : List Lexeme). us ++ more) u.1 ∙ append_assoc u.0 m.0 more in
    subst (λ (us : List Lexeme). Stuck whole [] (declaration_pieces 0) us (too_deep (earlier s.overriding s.spot))) (sym (whole_is ts))
    (deep_body whole s [] u.0 m.0 ts u.2 (written_spelled is_piece m.0 [] m.2)
    (λ more f. ap whole (sym (whole_is more)) ∙ on more (too_deep (earlier s.overriding s.spot)) tt (is_sinks inner s more (no_instance s.overriding ts more h f))))

is_zero : (inner : Inner) (s : Start) → Follows Whichever (is_front s) (declaration_pieces 0) (behind_is_in 0 inner s)
unfolding behind_is_in
is_zero inner s = record {
  takes = λ ts x rest e.
      elim (chosen (at_instance s.overriding ts) (instance_at 0 s ts) (Err (too_deep (earlier s.overriding s.spot))) (Ok (x, rest)) e) [
        | inl h ↦ (instance_follows 0 s.overriding s.spot s.name (at_new s.overriding ts h.0).0).takes ts x rest h.1
        | inr h ↦ absurd (let c : ⊥ = (let q = h.1 in cc) in c)
      ];
  fails = λ whole used ts stop w on e.
      elim (chosen (at_instance s.overriding ts) (instance_at 0 s ts) (Err (too_deep (earlier s.overriding s.spot))) (Err stop) e) [
        | inl h ↦
            let n = at_new s.overriding ts h.0 in
            behind_front (is_front s) (declaration_pieces 0) (instance_at 0 s) whole used ts stop w (carries_instance inner s whole used ts on h.0) ((instance_follows 0 s.overriding s.spot s.name n.0).fails ts stop n.1 h.1)
        | inr h ↦ subst (λ (z : Stopped). Stuck whole [] (declaration_pieces 0) (used ++ ts) z) (err_is (too_deep (earlier s.overriding s.spot)) stop h.1) (body_without inner s whole used ts w on h.0)
      ];
  plain = choose_plain (at_instance s.overriding) (instance_at 0 s) _ (at_instance_peeks s.overriding) (instance_anew 0 s).plain (sunk_plain (earlier s.overriding s.spot));
}

is_more : {inner : Inner} (room : ℕ) → InnerSound (suc room) inner → (o : Option Spot) (spot : Spot) (name : Ident) → Goes (is_front (start_of o spot name)) (declaration_pieces (suc room)) (behind_is_in (suc room) inner (start_of o spot name))
unfolding behind_is_in
is_more room sound None spot name =
    choose_anew (is_front (start_of None spot name)) (declaration_pieces (suc room)) _ _
    (instance_anew (suc room) (start_of None spot name)) (body_goes (suc room) sound (head_from (start_of None spot name) []))
is_more room sound (Some first) spot name = body_goes (suc room) sound (head_from (start_of (Some first) spot name) [])

is_follows : {inner : Inner} (room : ℕ) → InnerSound room inner → (s : Start) → Follows Whichever (is_front s) (declaration_pieces room) (behind_is_in room inner s)
is_follows {inner} zero sound s = is_zero inner s
is_follows (suc room) sound s = follows_of Whichever (λ t us vs. tt) (is_more room sound s.overriding s.spot s.name)

-- ---- procedures

name_follows : {inner : Inner} (room : ℕ) → InnerSound room inner → (s : Start) → Follows Alike (start_pieces s) (declaration_pieces room) (behind_name_in room inner s)
unfolding behind_name_in
name_follows room sound s =
    choose_follows (start_pieces s) (declaration_pieces room) (at (delimiter mark.LeftParenthesis)) _ _ (λ t ts us. refl) (formals_follow room sound s)
    (choose_follows (start_pieces s) (declaration_pieces room) (at (reserved word.Is)) _ _ (λ t ts us. refl)
    (after_follows (start_pieces s) (declaration_pieces room) (reserved word.Is) _ refl (specification_begins room s) (is_follows room sound s))
    (follows_of Alike (λ t us vs. refl) (goes_front (specification_goes room s []) (specification_is room s [] ∙ append-nil (start_pieces s)))))

pub procedure_sound : {inner : Inner} (room : ℕ) → InnerSound room inner → Sound (declaration_pieces room) (procedure_in room inner)
unfolding procedure_in
procedure_sound {inner} room sound = continued_follows (declaration_pieces room) (behind_name_in room inner) start_sound (specification_begins room) (name_follows room sound)
