-- What is read is written so: lists that have one phrase at least.
use Rattle.std.proofs.Common.{◌≡◌, Bool, true, false, not, List, [], ◌∷◌, ◌++◌, length, Ok, Err, inl, inr, refl, sym, ap, subst, ◌∙◌, append-nil}
use Rattle.std.specs.List.{flat_map}
use Rattle.std.proofs.lemmas.List.Concat.{flat_map-cons}
use Rattle.ada_text.specs.Token.{Lexeme}
use Rattle.ada_tree.specs.Piece.{Piece, never, Written}
use Rattle.ada_reader.specs.Step.{◌>>=◌, Stopped, here, Phrase, choose, many, all_of}
use Rattle.ada_phrases.specs.Expressions.{refuses}
use Rattle.ada_parser.proofs.Local.{Peeks, choose_plain}
use Rattle.ada_parser.proofs.Sound.{bind_ok, chosen, ok_is, Able, Ready, is_filled, Reached, Stuck, choose_stuck, Sound, refuses_sound, all_sound}

-- One phrase or more.
abbrev pub some_pieces : {A : Type 0} → (A → List Piece) → List A → List Piece
some_pieces pA [] = never ∷ []
some_pieces pA (x ∷ xs) = flat_map pA (x ∷ xs)

written_some : {A : Type 0} (pA : A → List Piece) (xs ys : List A) (x : A) (ts rest : List Lexeme) → x ∷ xs ≡ ys → Written (flat_map pA ys) ts rest → Written (some_pieces pA ys) ts rest
written_some pA xs [] x ts rest e w = absurd cc
written_some pA xs (y ∷ ys) x ts rest e w = w

-- where the list goes on at once, there is one
some_takes : {A : Type 0} (pA : A → List Piece) (rA : Phrase A) (goes : List Lexeme → Bool) → Sound (flat_map pA) (all_of goes rA) → (ts : List Lexeme) (xs : List A) (rest : List Lexeme) → goes ts ≡ true → all_of goes rA ts ≡ Ok (xs, rest) → Written (some_pieces pA xs) ts rest
unfolding all_of
some_takes {A} pA rA goes sound ts xs rest h e =
    elim (chosen (goes ts) (rA ts >>= (λ x. many goes rA (length ts) x.1 >>= λ ys. Ok (x.0 ∷ ys.0, ys.1))) (Ok ([], ts)) (Ok (xs, rest)) e) [
      | inl d ↦
          let a = bind_ok (rA ts) (λ x. many goes rA (length ts) x.1 >>= λ ys. Ok (x.0 ∷ ys.0, ys.1)) (xs, rest) d.1 in
          let b = bind_ok (many goes rA (length ts) a.0.1) (λ ys. Ok (a.0.0 ∷ ys.0, ys.1)) (xs, rest) a.2 in
          written_some pA b.0.0 xs a.0.0 ts rest (ap (λ (z : List A × List Lexeme). z.0) (ok_is (a.0.0 ∷ b.0.0, b.0.1) (xs, rest) b.2)) (sound.takes ts xs rest e)
      | inr d ↦ absurd (let c : ⊥ = (let q : true ≡ false = sym h ∙ d.0 in cc) in c)
    ]

none_begun : (begun more : List Piece) → [] ≡ begun ++ more → begun ≡ []
none_begun [] more e = refl
none_begun (p ∷ begun) more e = absurd cc

some_stuck : {A : Type 0} (read : Phrase (List A)) (pA : A → List Piece) (x : A) → Ready (pA x) → (ts : List Lexeme) (s : Stopped) (xs : List A) (begun more : List Piece) → flat_map pA xs ≡ begun ++ more → Reached read begun ts s → Ready more → Stuck read [] (some_pieces pA) ts s
some_stuck read pA x ready ts s [] begun more e reached rest = record {
  tree = x ∷ [];
  begun = [];
  more = pA x;
  whole = flat_map-cons pA x [] ∙ append-nil (pA x);
  reached = subst (λ (ps : List Piece). Reached read ps ts s) (none_begun begun more e) reached;
  ready = ready;
}
some_stuck read pA x ready ts s (y ∷ ys) begun more e reached rest = record { tree = y ∷ ys; begun = begun; more = more; whole = e; reached = reached; ready = rest }

some_fails : {A : Type 0} (pA : A → List Piece) (rA : Phrase A) (goes : List Lexeme → Bool) → (x : A) → Ready (pA x) → Sound (flat_map pA) (all_of goes rA) → (ts : List Lexeme) (s : Stopped) → all_of goes rA ts ≡ Err s → Stuck (all_of goes rA) [] (some_pieces pA) ts s
some_fails {A} pA rA goes x ready sound ts s e =
    let k : Stuck (all_of goes rA) [] (flat_map pA) ts s = sound.fails ts s e in
    some_stuck (all_of goes rA) pA x ready ts s k.tree k.begun k.more k.whole k.reached k.ready

one_ready : {A : Type 0} (pA : A → List Piece) (x : A) → Ready (pA x) → Ready (some_pieces pA (x ∷ []))
one_ready pA x ready = subst Ready (sym (flat_map-cons pA x [] ∙ append-nil (pA x))) ready

-- where the test holds, as many phrases as there are, and else none
pub some_sound : {A : Type 0} {pA : A → List Piece} {rA : Phrase A} (goes : List Lexeme → Bool) → Peeks goes → ((x : A) → Able (pA x) → is_filled (pA x) ≡ true) → Sound pA rA → Sound (some_pieces pA) (choose goes (all_of goes rA) refuses)
some_sound {A} {pA} {rA} goes peeks filled sound =
    let listed : Sound (flat_map pA) (all_of goes rA) = all_sound goes peeks filled sound in
    let none : Sound (some_pieces pA) (refuses {A = List A}) = refuses_sound (some_pieces pA) (sound.some.0 ∷ [], one_ready pA sound.some.0 sound.some.1) in
    record {
      takes = λ ts xs rest e.
          elim (chosen (goes ts) (all_of goes rA ts) (Err (here ts)) (Ok (xs, rest)) e) [
            | inl h ↦ some_takes pA rA goes listed ts xs rest h.0 h.1
            | inr h ↦ none.takes ts xs rest h.1
          ];
      fails = λ ts s e. choose_stuck [] (some_pieces pA) goes (all_of goes rA) refuses peeks ts s (λ h d. some_fails pA rA goes sound.some.0 sound.some.1 listed ts s d) (λ h d. none.fails ts s d) e;
      some = none.some;
      plain = choose_plain goes (all_of goes rA) refuses peeks listed.plain none.plain;
    }

not_false : (b : Bool) → b ≡ false → not b ≡ true
not_false b e = ap not e

-- the same, where a test says where the list ends
pub unended_sound : {A : Type 0} {pA : A → List Piece} {rA : Phrase A} (ends goes : List Lexeme → Bool) → Peeks ends → Peeks goes → ((ts : List Lexeme) → goes ts ≡ not (ends ts)) → ((x : A) → Able (pA x) → is_filled (pA x) ≡ true) → Sound pA rA → Sound (some_pieces pA) (choose ends refuses (all_of goes rA))
unended_sound {A} {pA} {rA} ends goes peeks looks opposite filled sound =
    let listed : Sound (flat_map pA) (all_of goes rA) = all_sound goes looks filled sound in
    let none : Sound (some_pieces pA) (refuses {A = List A}) = refuses_sound (some_pieces pA) (sound.some.0 ∷ [], one_ready pA sound.some.0 sound.some.1) in
    record {
      takes = λ ts xs rest e.
          elim (chosen (ends ts) (Err (here ts)) (all_of goes rA ts) (Ok (xs, rest)) e) [
            | inl h ↦ none.takes ts xs rest h.1
            | inr h ↦ some_takes pA rA goes listed ts xs rest (opposite ts ∙ not_false (ends ts) h.0) h.1
          ];
      fails = λ ts s e. choose_stuck [] (some_pieces pA) ends refuses (all_of goes rA) peeks ts s (λ h d. none.fails ts s d) (λ h d. some_fails pA rA goes sound.some.0 sound.some.1 listed ts s d) e;
      some = none.some;
      plain = choose_plain ends refuses (all_of goes rA) peeks none.plain listed.plain;
    }
