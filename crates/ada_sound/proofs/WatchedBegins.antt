-- The body of a Finalize begins while an object is freed (7.6.1, 13.11.2): what is watched, the object in which a component lies that names the freed one, is
-- left alone by that body, by those that it calls, and by the operations of what they free.

use Rattle.std.proofs.Common.{◌≡◌, ℕ, Bool, true, false, not, ◌==◌, ◌&&◌, List, ◌∷◌, arith, refl, subst, sym}
use Rattle.std.specs.Prelude.{Option, Some, None}
use Rattle.std.specs.List.{slice_get}
use Rattle.std.proofs.lemmas.Bool.{and_parts, eqb-true}
use Rattle.ada_deeds.specs.Implicit.{implicit_of}
use Rattle.ada_program.specs.declared.program.Program.{Program}
use Rattle.ada_program.specs.Controlled.{operations_of}
use Rattle.ada_program.specs.ProgramForm.{TypeForm, BodyForm, ProgramForm, program_form, body_forms}
use Rattle.ada_program.specs.WellFormed.{is_access, IsWellFormed}
use Rattle.ada_quiet.specs.Frugal.{is_frugal_body, thrift_of}
use Rattle.ada_quiet.specs.InUse.{operations_may_be_called}
use Rattle.ada_meaning.specs.declared.state.Id.{Id}
use Rattle.ada_meaning.specs.declared.state.Mode.TheVariants.{Running}
use Rattle.ada_meaning.specs.declared.state.Place.{Place}
use Rattle.ada_meaning.specs.declared.state.Value.{Value}
use Rattle.ada_meaning.specs.declared.state.Value.TheVariants.{Part}
use Rattle.ada_meaning.specs.Frame.{Treatment, begins, ends}
use Rattle.ada_meaning.specs.State.{Activation}
use Rattle.ada_meaning.specs.Step.{operating}
use Rattle.ada_meaning.specs.Named.{Object, State, object_at, named}
use Rattle.ada_owners.proofs.Objects.{id_is}
use Rattle.ada_parts.proofs.Facts.{eq_self}
use Rattle.ada_reaching.proofs.Law.{operation_reaches}
use Rattle.ada_reaching.specs.Apart.{Apart}
use Rattle.ada_reaching.specs.Forms.{body_shuns}
use Rattle.ada_reaching.specs.Law.{AreApart}
use Rattle.ada_reaching.specs.Reaching.{AreLow, IsGhost, IsReaching}
use Rattle.ada_tracked.proofs.Lists.{apart_is, is_same}
use Rattle.ada_typed.proofs.Lying.{IsOperable}
use Rattle.ada_sound.proofs.Callers.{Suspension, known_in}
use Rattle.ada_sound.proofs.Calls.{home_low}
use Rattle.ada_sound.proofs.Invariant.{Control, Known}
use Rattle.ada_sound.proofs.Operating.{IsCalled}
use Rattle.ada_sound.proofs.Returns.{same_types}
use Rattle.ada_sound.proofs.ShunningEnds.{body_is_shaped, finalize_shuns}
use Rattle.ada_sound.proofs.Stored.{Stored, listed_out}
use Rattle.ada_sound.proofs.Touching.{IsSpared, Watch, Watched, is_unnamed, is_watched, watches}

module _
    (program : Program) (well : IsWellFormed (program_form program)) (uses : operations_may_be_called (program_form program) ≡ true)
    (a : Activation Value) (rest : List (Activation Value)) (gs : List Suspension) (s : State) where
  abbrev p : ProgramForm
  p = program_form program

  abbrev known : Known
  known = known_in program a.procedure gs

  -- What is watched, if something is, is left alone by the body of a Finalize that begins, and by those that run in front of it.
  pub watched_begins :
      {under : List Id} (by : Treatment) (watch : Option Watch) (o : Id) (access of part number : ℕ) (b : BodyForm) (place : Place) (behind : Control)
      (heap : List Object)
      → IsOperable p.types access of part → IsCalled (operations_of program.types.items of) by number → slice_get (body_forms program) number ≡ Some b
      → is_frugal_body (thrift_of p) b ≡ true → IsSpared known by o access heap watch → Stored under heap s.masters
      → Watched program watch behind s.masters
      (operating named number b (Part o place) behind (record s { activations = a ∷ rest; heap = heap; mode = Running }))
  watched_begins by None o access of part number b place behind heap operable called there frugal spared stored = tt
  watched_begins (begins by done) (Some w) o access of part number b place behind heap operable called there frugal spared stored = absurd spared
  watched_begins (ends cause) (Some w) o access of part number b place behind heap operable called there frugal (at, exists, other, spared) stored =
      (at, (shunned.0, shunned.1, reaching))
    where
      -- The end of the object reaches none of the type of what is watched, if that is an access type.
      apart : is_access p.types w.is.cell.access ≡ true → (implicit_of p).end_reaches access w.is.cell.access ≡ false
      apart is = spared (subst (λ (types : List TypeForm). is_access types w.is.cell.access ≡ true) (sym (same_types a.procedure p)) is)

      -- The procedures that it calls are among some whose bodies neither follow nor free values of that type, if it is an access type, and neither do the
      -- operations of what they free.
      shunned_by :
          (accessed : Bool) → is_access p.types w.is.cell.access ≡ accessed → (among : Apart) × AreApart p program.types.items (λ t. accessed && (w.is.cell.access == t)) among
          × (body_shuns p.types (λ t. accessed && (w.is.cell.access == t)) among b ≡ true)
      shunned_by true is =
          finalize_shuns program well uses access of part number (λ t. w.is.cell.access == t) b operable called there
          (λ t same. subst (λ (u : ℕ). (implicit_of p).end_reaches access u ≡ false) (eqb-true w.is.cell.access t same) (apart is))
      shunned_by false is = body_is_shaped program well uses number b there frugal

      shunned :
          (among : Apart) × AreApart p program.types.items (watches p.types (Some w)) among × (body_shuns p.types (watches p.types (Some w)) among b ≡ true)
      shunned = shunned_by (is_access p.types w.is.cell.access) refl

      -- What is watched is there: it is of that type, or a record object that is declared.
      ghost_by :
          (accessed : Bool) → is_access p.types w.is.cell.access ≡ accessed → (q : Id) → is_watched (Some w) q ≡ true
          → IsGhost p.types (λ t. accessed && (w.is.cell.access == t)) (not accessed && is_watched (Some w) q) (object_at heap q)
      ghost_by true is q same = record {
        object = w.is;
        there = subst (λ (r : Id). object_at heap r ≡ Some w.is) (id_is w.holder q (is_same w.holder.0 q.0 same)) at;
        shunned = eq_self w.is.cell.access;
        accessed = is;
      }
      ghost_by false is q same = rw same (record {
        object = w.is;
        there = subst (λ (r : Id). object_at heap r ≡ Some w.is) (id_is w.holder q (is_same w.holder.0 q.0 same)) at;
        declared = is;
      })

      -- Its home is an item of the masters that were entered before.
      low : AreLow (is_watched (Some w)) s.masters heap
      low q x is found listed =
          let below = home_low heap s.masters q stored x found (listed_out q x found listed stored) in
          omega (arith, below)

      -- The body begins so, for a part of another object.
      reaching :
          IsReaching p (watches p.types (Some w)) shunned.0 (is_watched (Some w)) (is_unnamed p.types (Some w)) behind s.masters
          (operating named number b (Part o place) behind (record s { activations = a ∷ rest; heap = heap; mode = Running }))
      reaching =
          operation_reaches p (watches p.types (Some w)) shunned.0 (is_watched (Some w)) (is_unnamed p.types (Some w)) number b (Part o place) behind
          (record s { activations = a ∷ rest; heap = heap; mode = Running }) there shunned.2 (ghost_by (is_access p.types w.is.cell.access) refl)
          (λ q is. (and_parts (not (is_access p.types w.is.cell.access)) (is_watched (Some w) q) is).1) low
          (apart_is w.holder.0 o.0 (λ same. other (id_is w.holder o same)))
