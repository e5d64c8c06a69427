-- What procedures do is known of their calls: with what is known to be done, effects say exactly what is done.

use Rattle.std.proofs.Common.{◌≡◌, ℕ, Bool, true, List, [], ◌∷◌, length, refl, ap, ◌∙◌, subst, arith}
use Rattle.std.specs.List.{list_any, slice_get}
use Rattle.std.specs.Prelude.{Option, Some, None}
use Rattle.ada_deeds.specs.Aggregates.{body_suits, aggregates_suit}
use Rattle.ada_deeds.specs.Does.{called_does, is_deed_of, Does}
use Rattle.ada_deeds.specs.Forms.{parts_do, creation_does}
use Rattle.ada_deeds.specs.Implicit.{implicit_of, record_at}
use Rattle.ada_deeds.specs.Laws.{IsWithin, IsClosed, KeepsIn, RaisesAreKnown, FreesAreKnown}
use Rattle.ada_deeds.specs.Within.{does_by}
use Rattle.ada_deeds.specs.declared.deed.Callee.{Callee}
use Rattle.ada_deeds.specs.declared.deed.Callee.TheVariants as callee
use Rattle.ada_deeds.specs.declared.deed.Deed.{Deed}
use Rattle.ada_deeds.specs.declared.deed.Deed.TheVariants.{Raises}
use Rattle.ada_deeds.specs.declared.deed.Operation.{Operation}
use Rattle.ada_deeds.specs.declared.deed.Operation.TheVariants.{Initialize, Adjust, Finalize}
use Rattle.ada_deeds.proofs.Freed.{deed}
use Rattle.ada_deeds.proofs.FreesKnown.{AreKnown as AreFreed, body_in as frees_in}
use Rattle.ada_deeds.proofs.Kept.{no_adjust_raises, no_finalize_raises}
use Rattle.ada_deeds.proofs.Known.{raises_are_done, frees_are_done}
use Rattle.ada_deeds.proofs.More.{either, callee_stays, least}
use Rattle.ada_deeds.proofs.Naming.{all_at}
use Rattle.ada_deeds.proofs.Parted.{does_parted}
use Rattle.ada_deeds.proofs.RaisesKnown.{AreKnown, body_in}
use Rattle.ada_deeds.proofs.Starting.{closes, created_out}
use Rattle.ada_deeds.proofs.Told.{told_by}
use Rattle.ada_deeds.proofs.Within.{counts_are_enough, is_one_of}
use Rattle.ada_effects.specs.Effects.{Effect, call_raises, call_frees, known_of, effects_of}
use Rattle.ada_effects.proofs.Programs.{calls_raise_each}
use Rattle.ada_effects.proofs.Sameness.{are_equal, is_itself}
use Rattle.ada_program.specs.declared.program.Exception.{Exception}
use Rattle.ada_program.specs.Handling.{is_same}
use Rattle.ada_program.specs.ProgramForm.{BodyForm, ProgramForm}
use Rattle.ada_program.specs.WellFormed.{IsWellFormed}

-- What is known of callees: of procedures by their effects, of operations by what they do.
abbrev known_by : ProgramForm → Deed → (says : Option Effect → Bool) → Callee → Bool
known_by p d says (callee.Procedure procedure) = says (slice_get (effects_of (implicit_of p) p).calls procedure.0)
known_by p d says (callee.Parts operation t) = does_by p d (callee.Parts operation t)

module _ (p : ProgramForm) (d : Deed) (says : Option Effect → Bool)
    (done : (procedure : ℕ) → says (slice_get (effects_of (implicit_of p) p).calls procedure) ≡ true → Does p d (callee.Procedure (record { 0 = procedure }))) where
  -- All that is known does it.
  known_does : IsWithin (known_by p d says) (does_by p d)
  known_does (callee.Procedure procedure) h = (counts_are_enough p d (callee.Procedure procedure)).1 (done procedure.0 h)
  known_does (callee.Parts operation t) h = h

  -- Known operations do.
  parts_in : (operation : Operation) (o : Option ℕ) → parts_do (known_by p d says) operation o ≡ true → parts_do (does_by p d) operation o ≡ true
  parts_in operation None h = h
  parts_in operation (Some t) h = h

  creation_in : (o : Option ℕ) → creation_does (known_by p d says) o ≡ true → creation_does (does_by p d) o ≡ true
  creation_in o h =
      either (parts_do (known_by p d says) Initialize o) (parts_do (known_by p d says) Finalize o) (parts_do (does_by p d) Initialize o) (parts_do (does_by p d) Finalize o)
      (parts_in Initialize o) (parts_in Finalize o) h

  -- Where what is known closes each body, it is closed.
  closed_in : is_deed_of p d ≡ true →
      ((procedure : ℕ) (o : Option BodyForm) → slice_get p.bodies procedure ≡ o → called_does p.types (known_by p d says) d o ≡ true →
      says (slice_get (effects_of (implicit_of p) p).calls procedure) ≡ true) → IsClosed p d (known_by p d says)
  closed_in of each (callee.Procedure procedure) h = each procedure.0 (slice_get p.bodies procedure.0) refl h
  closed_in of each (callee.Parts operation t) h =
      (counts_are_enough p d (callee.Parts operation t)).1
      (closes p d (callee.Parts operation t) of (callee_stays p d (known_by p d says) (does_by p d) known_does (callee.Parts operation t) h))

-- One exception among some is raised where it is.
any_among : (among : Exception → Bool) (e : Exception) (xs : List Exception) → among e ≡ true → list_any (is_same e) xs ≡ true → list_any among xs ≡ true
any_among among e [] is h = h
any_among among e (x ∷ xs) is h =
    either (is_same e x) (list_any (is_same e) xs) (among x) (list_any among xs) (λ same. subst (λ (y : Exception). among y ≡ true) (are_equal e x same) is)
    (any_among among e xs is) h

-- Exceptions.
module _ (p : ProgramForm) (well : IsWellFormed p) (e : Exception) (keeps : KeepsIn p e) (of : is_deed_of p (Raises e) ≡ true) where
  abbrev says : Option Effect → Bool
  says effect = call_raises effect (is_same e)

  abbrev knows : Callee → Bool
  knows = known_by p (Raises e) says

  done : (procedure : ℕ) → says (slice_get (effects_of (implicit_of p) p).calls procedure) ≡ true → Does p (Raises e) (callee.Procedure (record { 0 = procedure }))
  done procedure h = raises_are_done p well procedure e h

  started_in : (among : Exception → Bool) → among e ≡ true → (u : ℕ) (o : Option ℕ) → record_at p.types u ≡ o → creation_does knows o ≡ true →
      list_any among ((implicit_of p).start_raises u) ≡ true
  started_in among is u None at h = absurd (cc h)
  started_in among is u (Some r) at h =
      any_among among e ((implicit_of p).start_raises u) is (created_out p e u r at (creation_in p (Raises e) says done (Some r) h) of)

  no_adjust : (o : Option ℕ) → parts_do knows Adjust o ≡ true → ⊥
  no_adjust None h = cc h
  no_adjust (Some t) h = no_adjust_raises p e keeps t ((counts_are_enough p (Raises e) (callee.Parts Adjust (record { 0 = t }))).0 h)

  no_finalize : (o : Option ℕ) → parts_do knows Finalize o ≡ true → ⊥
  no_finalize None h = cc h
  no_finalize (Some t) h = no_finalize_raises p e keeps t ((counts_are_enough p (Raises e) (callee.Parts Finalize (record { 0 = t }))).0 h)

  body_known : (procedure : ℕ) (o : Option BodyForm) → slice_get p.bodies procedure ≡ o → called_does p.types knows (Raises e) o ≡ true →
      says (slice_get (effects_of (implicit_of p) p).calls procedure) ≡ true
  body_known procedure None at h = absurd (cc h)
  body_known procedure (Some b) at h =
      let t = told_by p well.bodies_fit procedure b at in
      let effects = known_of (implicit_of p) t.known in
      let many = t.many in
      let are : AreKnown p.types effects knows e (length t.callable) = record {
        starts = λ among is u k. started_in among is u (record_at p.types u) refl k;
        called = λ among is n below k.
            subst (λ (x : Option Effect). call_raises x among ≡ true) (t.before n (omega (arith, below, many)))
            ((calls_raise_each (implicit_of p) p n among).1 (e, is, k));
        adjusts = no_adjust;
        finalizes = no_finalize;
      } in
      ap says t.told ∙ body_in p.types p.texts p.exceptions t.callable effects knows e are well.types_fit b t.fits (is_same e) (is_itself e) h

  raise_known : (procedure : ℕ) → Does p (Raises e) (callee.Procedure (record { 0 = procedure })) → says (slice_get (effects_of (implicit_of p) p).calls procedure) ≡ true
  raise_known procedure h = least p (Raises e) knows (closed_in p (Raises e) says done of body_known) (callee.Procedure (record { 0 = procedure })) h

-- An exception that comes out of a procedure is known of its calls.
pub raises_are_known : RaisesAreKnown
raises_are_known p well e keeps procedure h = raise_known p well e keeps (is_one_of p (Raises e) (callee.Procedure (record { 0 = procedure })) h) procedure h

-- Frees.
module _ (p : ProgramForm) (well : IsWellFormed p) (suit : aggregates_suit p ≡ true) (t : ℕ) (of : is_deed_of p (deed t) ≡ true) where
  abbrev tells : Option Effect → Bool
  tells effect = call_frees effect t

  abbrev tell : Callee → Bool
  tell = known_by p (deed t) tells

  freed : (procedure : ℕ) → tells (slice_get (effects_of (implicit_of p) p).calls procedure) ≡ true → Does p (deed t) (callee.Procedure (record { 0 = procedure }))
  freed procedure h = frees_are_done p well procedure t h

  body_told : (procedure : ℕ) (o : Option BodyForm) → slice_get p.bodies procedure ≡ o → called_does p.types tell (deed t) o ≡ true →
      tells (slice_get (effects_of (implicit_of p) p).calls procedure) ≡ true
  body_told procedure None at h = absurd (cc h)
  body_told procedure (Some b) at h =
      let told = told_by p well.bodies_fit procedure b at in
      let effects = known_of (implicit_of p) told.known in
      let many = told.many in
      let are : AreFreed p.types effects tell t (length told.callable) = record {
        starts = λ u k. creation_in p (deed t) tells freed (record_at p.types u) k;
        adjusts = λ u k. parts_in p (deed t) tells freed Adjust (record_at p.types u) k;
        ends = λ u k. parts_in p (deed t) tells freed Finalize (record_at p.types u) k;
        called = λ n below k. subst (λ (x : Option Effect). call_frees x t ≡ true) (told.before n (omega (arith, below, many))) k;
        parted = λ operation r k.
            does_parted p well.types_fit (deed t) operation r ((counts_are_enough p (deed t) (callee.Parts operation (record { 0 = r }))).0 k);
      } in
      ap tells told.told
      ∙ frees_in p.types p.texts p.exceptions told.callable effects tell t are well.types_fit b told.fits
      (all_at (body_suits p.types) p.bodies procedure b suit at) h

  free_known : (procedure : ℕ) → Does p (deed t) (callee.Procedure (record { 0 = procedure })) → tells (slice_get (effects_of (implicit_of p) p).calls procedure) ≡ true
  free_known procedure h = least p (deed t) tell (closed_in p (deed t) tells freed of body_told) (callee.Procedure (record { 0 = procedure })) h

-- Objects that a procedure frees are known of its calls.
pub frees_are_known : FreesAreKnown
frees_are_known p well suit procedure t h = free_known p well suit t (is_one_of p (deed t) (callee.Procedure (record { 0 = procedure })) h) procedure h
