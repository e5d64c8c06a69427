-- The bodies of procedures that have ended fit, and go on fitting as more is declared.

use Rattle.std.proofs.Common.{◌≡◌, ℕ, ◌≤◌, true, false, List, [], ◌∷◌, ◌++◌, length, append_assoc, refl, sym, subst, arith}
use Rattle.std.specs.Prelude.{Some, ◌&&◌}
use Rattle.std.specs.List.{list_all, slice_get}
use Rattle.std.proofs.lemmas.List.{append-nil}
use Rattle.ada_program.specs.Freed.{body_frees_own}
use Rattle.ada_program.specs.ProgramForm.{TypeForm, BodyForm}
use Rattle.ada_program.specs.WellFormed as fits
use Rattle.ada_resolve.specs.Known.{Known, Part, left_to}
use Rattle.ada_resolve.proofs.Standing.Order.{IsSettled, Sound, Stays, sound_laid}
use Rattle.ada_resolve.proofs.WellFormed.Called.{callables}
use Rattle.ada_resolve.proofs.WellFormed.Created.{bodies_collect, creations_later}
use Rattle.ada_resolve.proofs.WellFormed.Forms.{AreIn, forms}
use Rattle.ada_resolve.proofs.WellFormed.Growing as growing
use Rattle.ada_resolve.proofs.WellFormed.Laid.{AreRecordsLaid}
use Rattle.ada_resolve.proofs.WellFormed.Tables.{all_weaker, both_parts, first_part, second_part, types_keep, variable_kept}

-- as types, texts and exceptions are added
module _ (types more : List TypeForm) (texts longer exceptions raised : List (List ℕ)) (ts : AreIn (forms types) (forms more)) (laid : AreRecordsLaid types) (room : length texts ≤ length longer) (declared : length exceptions ≤ length raised) where
  pub body_later : (callable : List fits.Profile) (b : BodyForm) → fits.body_fits types texts exceptions callable b ≡ true → fits.body_fits more longer raised callable b ≡ true
  body_later callable b h =
      let vs = b.variables in
      let held = list_all (fits.variable_fits types) vs in
      let created = fits.creates_from (length vs) (length b.formals) (fits.created_in b) in
      let part = fits.declarations_fit types vs b.declarations in
      let own = fits.stmts_fit types vs texts exceptions callable false b.statements in
      let handled = fits.handlers_fit types vs texts exceptions callable false b.handlers in
      let four : (held && created && part && own) ≡ true = first_part (held && created && part && own) handled h in
      let three : (held && created && part) ≡ true = first_part (held && created && part) own four in
      let two : (held && created) ≡ true = first_part (held && created) part three in
      let held_now = list_all (fits.variable_fits more) vs in
      let part_now = fits.declarations_fit more vs b.declarations in
      let own_now = fits.stmts_fit more vs longer raised callable false b.statements in
      let handled_now = fits.handlers_fit more vs longer raised callable false b.handlers in
      both_parts (held_now && created && part_now && own_now) handled_now
      (both_parts (held_now && created && part_now) own_now
      (both_parts (held_now && created) part_now
      (both_parts held_now created
      (all_weaker (fits.variable_fits types) (fits.variable_fits more) (variable_kept types more (types_keep types more ts)) vs (first_part held created two))
      (second_part held created two))
      (growing.declarations_stay types more vs vs ts (λ i x is. is) laid b.declarations (second_part (held && created) part three)))
      (growing.stmts_stay types more vs vs ts (λ i x is. is) laid texts longer exceptions raised callable callable room declared (λ i x is. is) false b.statements
      (second_part (held && created && part) own four)))
      (growing.handlers_stay types more vs vs ts (λ i x is. is) laid texts longer exceptions raised callable callable room declared (λ i x is. is) false b.handlers
      (second_part (held && created && part && own) handled h))

  pub bodies_later : (callable : List fits.Profile) (bs : List BodyForm) → fits.bodies_fit types texts exceptions callable bs ≡ true → fits.bodies_fit more longer raised callable bs ≡ true
  bodies_later callable [] h = refl
  bodies_later callable (b ∷ bs) h =
      let next = callable ++ fits.profile_of b ∷ [] in
      let own = fits.body_fits types texts exceptions callable b in
      let rest = fits.bodies_fit types texts exceptions next bs in
      both_parts (fits.body_fits more longer raised callable b) (fits.bodies_fit more longer raised next bs)
      (body_later callable b (first_part own rest h)) (bodies_later next bs (second_part own rest h))

-- one more body
pub one_body_more : (types : List TypeForm) (texts exceptions : List (List ℕ)) (callable : List fits.Profile) (bs : List BodyForm) (b : BodyForm) → fits.bodies_fit types texts exceptions callable bs ≡ true → fits.body_fits types texts exceptions (callable ++ callables bs) b ≡ true → fits.bodies_fit types texts exceptions callable (bs ++ b ∷ []) ≡ true
one_body_more types texts exceptions callable [] b h g =
    both_parts (fits.body_fits types texts exceptions callable b) true
    (subst (λ ps. fits.body_fits types texts exceptions ps b ≡ true) (append-nil callable) g) refl
one_body_more types texts exceptions callable (c ∷ bs) b h g =
    let next = callable ++ fits.profile_of c ∷ [] in
    let own = fits.body_fits types texts exceptions callable c in
    let rest = fits.bodies_fit types texts exceptions next bs in
    both_parts own (fits.bodies_fit types texts exceptions next (bs ++ b ∷ [])) (first_part own rest h)
    (one_body_more types texts exceptions next bs b (second_part own rest h)
    (subst (λ ps. fits.body_fits types texts exceptions ps b ≡ true) (sym (append_assoc callable (fits.profile_of c ∷ []) (callables bs))) g))

-- the bodies that have ended fit, whatever types that are still incomplete become, create collections of types that are there, and free by the instances
-- for the very types of what they free; the pools that they create are there
pub record Ended (k : Known) : Type 0 where
  pub fit : (ts : List TypeForm) → AreRecordsLaid ts → ((t : ℕ) (form : TypeForm) → slice_get (forms k.types) t ≡ Some form → IsSettled k t → slice_get (forms ts) t ≡ Some form) → fits.bodies_fit ts k.texts k.exceptions [] k.bodies ≡ true
  pub below : (a : ℕ) → length k.types ≤ a → bodies_collect k.bodies a ≡ 0
  pub frees : (ts : List TypeForm) → ((t : ℕ) (form : TypeForm) → slice_get (forms k.types) t ≡ Some form → IsSettled k t → slice_get (forms ts) t ≡ Some form) → list_all (body_frees_own ts) k.bodies ≡ true
  pub pools : list_all (fits.creates_known_pool (length k.pools)) (fits.created_in_all k.bodies) ≡ true

-- where no body ends, they go on fitting
pub ended_on : (k m : Known) → m.bodies ≡ k.bodies → length k.texts ≤ length m.texts → length k.exceptions ≤ length m.exceptions → length k.types ≤ length m.types → length k.pools ≤ length m.pools → ((t : ℕ) (form : TypeForm) → slice_get (forms k.types) t ≡ Some form → IsSettled k t → (slice_get (forms m.types) t ≡ Some form) × IsSettled m t) → Ended k → Ended m
ended_on k m same texts exceptions types pools keeps e = record {
  fit = λ ts laid w. subst (λ bs. fits.bodies_fit ts m.texts m.exceptions [] bs ≡ true) (sym same)
      (bodies_later ts ts k.texts m.texts k.exceptions m.exceptions (λ i x is. is) laid texts exceptions [] k.bodies
      (e.fit ts laid (λ t form is settled. let so = keeps t form is settled in w t form so.0 so.1)));
  below = λ a past. subst (λ bs. bodies_collect bs a ≡ 0) (sym same) (e.below a (omega (arith, past, types)));
  frees = λ ts w. subst (λ bs. list_all (body_frees_own ts) bs ≡ true) (sym same) (e.frees ts (λ t form is settled. let so = keeps t form is settled in w t form so.0 so.1));
  pools = subst (λ bs. list_all (fits.creates_known_pool (length m.pools)) (fits.created_in_all bs) ≡ true) (sym same)
      (creations_later (length k.pools) (length m.pools) pools (fits.created_in_all k.bodies) e.pools);
}

-- where no type is incomplete
pub ended_all : (k : Known) → Sound k → Ended k → fits.bodies_fit k.types k.texts k.exceptions [] k.bodies ≡ true
ended_all k s e = e.fit k.types (sound_laid k s) (λ t form is settled. is)

pub ended_free : (k : Known) → Ended k → list_all (body_frees_own k.types) k.bodies ≡ true
ended_free k e = e.frees k.types (λ t form is settled. is)

-- from one place to another behind it in the same part: the bodies that have ended go on fitting
pub record Follows (k m : Known) : Type 0 where
  pub ended : Ended k → Ended m

pub follows_same : (k : Known) → Follows k k
follows_same k = record { ended = λ e. e }

pub follows_on : (k m z : Known) → Follows k m → Follows m z → Follows k z
follows_on k m z f g = record { ended = λ e. g.ended (f.ended e) }

-- where the innermost part ends
pub follows_left : (k z : Known) (ps : List Part) → Stays k (left_to ps z) → Follows k z → Follows k (left_to ps z)
follows_left k z [] s f = record {
  ended = λ e. ended_on z (left_to [] z) refl (omega arith) (omega arith) (omega arith) (omega arith) (λ t form is settled. (is, λ yet text u there same. s.complete text u there)) (f.ended e);
}
follows_left k z (p ∷ ps) s f = record {
  ended = λ e. ended_on z (left_to (p ∷ ps) z) refl (omega arith) (omega arith) (omega arith) (omega arith) (λ t form is settled. (is, λ yet text u there same. s.complete text u there)) (f.ended e);
}
