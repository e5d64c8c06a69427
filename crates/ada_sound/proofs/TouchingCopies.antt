-- The Adjust of a part of a copy is called that touches storage (7.6) and does not track, in a program in which none tracks beside it: so no component of the copy is
-- of an access type that is to be adjusted, and what waits for it is as it was.

use Rattle.std.proofs.Common.{◌≡◌, ℕ, true, false, List, [], ◌∷◌, refl, sym, ap, subst, ◌∙◌}
use Rattle.std.specs.Prelude.{Option, Some, None}
use Rattle.std.specs.List.{slice_get}
use Rattle.ada_deeds.proofs.Freed.{deed}
use Rattle.ada_deeds.specs.declared.deed.Operation.TheVariants.{Adjust}
use Rattle.ada_deeds.specs.Implicit.{implicit_of}
use Rattle.ada_meaning.specs.declared.event.Birth.{Birth}
use Rattle.ada_meaning.specs.declared.event.Birth.TheVariants.{Copy, Adjustment}
use Rattle.ada_meaning.specs.declared.state.Id.{Id}
use Rattle.ada_meaning.specs.declared.state.Value.{Value}
use Rattle.ada_meaning.specs.declared.state.Value.TheVariants.{Names}
use Rattle.ada_meaning.specs.Frame.{Treatment, begins}
use Rattle.ada_meaning.specs.Named.{Object, object_at}
use Rattle.ada_owners.specs.Places.{is_there}
use Rattle.ada_meaning.specs.State.{Master}
use Rattle.ada_meaning.specs.Step.{beginning}
use Rattle.ada_parts.specs.Law.{parts_left}
use Rattle.ada_parts.specs.Part as parts
use Rattle.ada_parts.specs.Task.{Task, performs}
use Rattle.ada_program.specs.Controlled.{operations_of, procedure_number}
use Rattle.ada_program.specs.declared.program.Program.{Program}
use Rattle.ada_program.specs.ProgramForm.{BodyForm, ProgramForm, TypeForm, body_forms, program_form, seen_in}
use Rattle.ada_program.specs.WellFormed.{IsWellFormed}
use Rattle.ada_quiet.specs.Bare.{has_bare_objects}
use Rattle.ada_quiet.specs.InUse.{tracks_beside_none, tracks_nothing}
use Rattle.ada_quiet.specs.Quiet.{is_quiet_body}
use Rattle.ada_typed.proofs.Lying.{IsOperable}
use Rattle.ada_typed.proofs.Parts.{shown_shapes}
use Rattle.ada_tracked.specs.Frames.{blanked}
use Rattle.ada_sound.proofs.AdjustedParts.{adjusted_frees}
use Rattle.ada_sound.proofs.Callers.{Suspension, known_in}
use Rattle.ada_sound.proofs.CopiedOwners.{BeginsCopy, CopyLeft, hiding, owners_left, owners_numbered}
use Rattle.ada_sound.proofs.CopyParts.{head_in, left_called, owners_skipped}
use Rattle.ada_sound.proofs.FrugalUseEnds.{covered_done, done_lying}
use Rattle.ada_sound.proofs.Invariant.{AdjustsAside, AdjustsTo, Control, CoveredIn, Known, OneAwaits, RunsOn, Working}
use Rattle.ada_sound.proofs.NoneHidden.{blanked_none}
use Rattle.ada_sound.proofs.Returns.{same_types}
use Rattle.ada_sound.proofs.Touching.{AdjustsBy, Adjusts, AreAround, Enters, IsSpared, Rests, treated_frees}
use Rattle.ada_sound.proofs.TouchingRests.{names_lie, there_lies}
use Rattle.ada_sound.proofs.Unmixed.{behind_none, left_owns_none, nothing_nowhere}

-- What is known where the body begins of an operation that touches storage: what waits for it, and what is left behind it, if that is an Adjust; and what the body
-- frees is among what may be freed there.
pub record Entered (program : Program) (known : Known) (treatment : Treatment) (number : ℕ) (o : Id) (x : Object) (k : Control) (heap : List Object) (places operands : List Value) (masters : List Master) (tasks : List Task) : Type 0 where
  pub at : Enters known treatment o x k heap places operands masters
  pub adjusts : AdjustsBy known treatment x.cell.access tasks k at.rooms at.holds
  pub frees : (t : ℕ) → CoveredIn (implicit_of (program_form program)) (seen_in (Some number) (program_form program)) t → at.may t ≡ true

module _ (program : Program) (well : IsWellFormed (program_form program)) where
  abbrev p : ProgramForm
  p = program_form program

  -- What the body of an Adjust may free, the adjustment of an object may in which such a part lies.
  pub adjusts_free :
      (access of part number : ℕ) (b : BodyForm) → IsOperable p.types access of part → procedure_number (operations_of program.types.items of).adjust ≡ Some number
      → slice_get (body_forms program) number ≡ Some b → (t : ℕ) → CoveredIn (implicit_of p) (seen_in (Some number) p) t → (implicit_of p).adjust_frees access t ≡ true
  adjusts_free access of part number b operable overrides there t covered =
      done_lying program well (deed t) Adjust access of part number operable overrides (covered_done p well number t b there covered)

  -- Where no Adjust tracks, the part that is adjusted next declares no component of an access type.
  pub next_owns_none :
      tracks_nothing p ≡ true → (procedure : Option ℕ) (gs : List Suspension) (access r of part : ℕ) (tasks : List Task)
      → CopyLeft (known_in program procedure gs).program.types access r (performs of part ∷ tasks)
      → owners_numbered (known_in program procedure gs).program.types of ≡ []
  next_owns_none nothing procedure gs access r of part tasks left =
      let same = same_types procedure p in
      subst (λ (types : List TypeForm). owners_numbered types of ≡ []) (sym same)
      (left_owns_none program well access r (performs of part ∷ tasks) (subst (λ (types : List TypeForm). CopyLeft types access r (performs of part ∷ tasks)) same left)
      (nothing_nowhere program well nothing r) (record { of = of; number = part })
      (head_in (record { of = of; number = part }) (parts_left (shown_shapes p.types) tasks)))

  module _ (beside : tracks_beside_none p ≡ true) (procedure : Option ℕ) (gs : List Suspension) where
    abbrev known : Known
    known = known_in program procedure gs

    -- The Adjust of a part is called, whose type declares none.
    module _
        (o : Id) (x : Object) (heap : List Object) (found : object_at heap o ≡ Some x) (places operands : List Value) (ms : List Master) (k : Control)
        (not_bare : has_bare_objects known.program.types x.cell.access ≡ false) (of part : ℕ) (tasks : List Task)
        (owns : owners_numbered known.program.types of ≡ []) (number : ℕ) (b : BodyForm) (there_is : slice_get (body_forms program) number ≡ Some b)
        (called : procedure_number (operations_of program.types.items of).adjust ≡ Some number) (loud : is_quiet_body p.types b ≡ false) (to : AdjustsTo known (Names o) (performs of part ∷ tasks) k heap places ms)
        (around : AreAround heap (OneAwaits known.callers))
      where
        same_object : to.o ≡ o
        same_object = let is = to.is in cc is

        same_found : to.x ≡ x
        same_found = let there = to.found in cc (rw same_object at there, found)

        there : is_there x.stage ≡ true
        there = rw same_found at to.there

        -- What is left of the copy, this part included.
        whole : CopyLeft known.program.types x.cell.access to.record_type (performs of part ∷ tasks)
        whole = rw same_found at to.left

        -- No component is to be adjusted behind it.
        known_none : (access r : ℕ) → CopyLeft known.program.types access r (performs of part ∷ tasks) → owners_left known.program.types access tasks ≡ []
        known_none access r left =
            let same = same_types procedure p in
            subst (λ (types : List TypeForm). owners_left types access tasks ≡ []) (sym same)
            (behind_none program well access r of part tasks (subst (λ (types : List TypeForm). CopyLeft types access r (performs of part ∷ tasks)) same left)
            (subst (λ (types : List TypeForm). owners_numbered types of ≡ []) same owns) number b there_is called loud beside)

        -- Nothing is hidden.
        none_hidden : blanked (hiding (owners_left known.program.types to.x.cell.access (performs of part ∷ tasks)) to.o) heap ≡ heap
        none_hidden =
            ap (λ (owners : List ℕ). blanked (hiding owners to.o) heap)
            (owners_skipped known.program.types to.x.cell.access of part tasks owns ∙ known_none to.x.cell.access to.record_type to.left)
            ∙ blanked_none to.o heap

        works : Working known heap places ms (λ rooms holds. RunsOn known k rooms holds × AdjustsAside known x.cell.access to.record_type holds)
        works =
            subst (λ (y : Object). Working known heap places ms (λ rooms holds. RunsOn known k rooms holds × AdjustsAside known y.cell.access to.record_type holds)) same_found
            (subst (λ (objects : List Object). Working known objects places ms (λ rooms holds. RunsOn known k rooms holds × AdjustsAside known to.x.cell.access to.record_type holds))
            none_hidden to.works)

        left : CopyLeft known.program.types x.cell.access to.record_type tasks
        left = left_called known.program.types x.cell.access to.record_type (performs of part ∷ tasks) whole of part refl

        -- The type, of the object or of the record that was copied, of which it is known what its adjustment may free.
        abbrev aside : AdjustsAside known x.cell.access to.record_type works.holds
        aside = works.rest.1

        what_is_left : Adjusts known x.cell.access tasks k works.rooms works.holds
        what_is_left = record { record_type = to.record_type; left = left; none = known_none x.cell.access to.record_type whole; runs = works.rest.0; aside = aside }

        abbrev enters_by :
            (by : Birth) (done : List parts.Part) → Rests known (begins by done) false None o x.cell.access x.cell.home places operands [] k ms works.rooms works.holds
            → IsSpared known (begins by done) o x.cell.access heap None
            → ((t : ℕ) → treated_frees known.implicit (begins by done) x.cell.access k t ≡ true → known.implicit.adjust_frees aside.0 t ≡ true)
            → Enters known (begins by done) o x k heap places operands ms
        enters_by by done rests spared includes = record {
          rooms = works.rooms;
          holds = works.holds;
          also = [];
          there = λ q t none. absurd none;
          waits = record { parted = not_bare; roomed = works.roomed; said = works.fit.said; objects = works.fit.objects };
          held = false;
          hand = tt;
          watch = None;
          spared = spared;
          rests = rests;
          fit = works.fit;
          stored = works.stored;
          may = known.implicit.adjust_frees aside.0;
          includes = includes;
          spares = aside.1.0;
          unaliased = aside.1.1;
          kept = λ q t none freed access. absurd none;
          low = names_lie known heap places ms works.stored around works.holds works.fit;
          lies = there_lies known heap places ms works.stored around o (x, found, there);
          others_low = λ q t none. absurd none;
          under_low = λ q none. absurd none;
        }

        -- The body frees no more than the adjustment.
        frees_so :
            (by : Birth) → BeginsCopy by → beginning by (operations_of program.types.items of) ≡ Some number
            → (t : ℕ) → CoveredIn (implicit_of p) (seen_in (Some number) p) t → (implicit_of p).adjust_frees aside.0 t ≡ true
        frees_so by copies called_so =
            adjusted_frees program well x.cell.access to.record_type of part tasks
            (subst (λ (types : List TypeForm). CopyLeft types x.cell.access to.record_type (performs of part ∷ tasks)) (same_types procedure p) whole) aside.0 aside.2 by copies
            number b there_is called_so

        -- So its body may begin, at the declaration of a copy, and behind an assignment.
        pub declared_enters :
            (done : List parts.Part) → Entered program known (begins Copy done) number o x k heap places operands ms tasks
        declared_enters done = record {
          at = enters_by Copy done refl tt (λ t never. absurd (cc never));
          adjusts = what_is_left;
          frees = frees_so Copy tt called;
        }

        pub assigned_enters :
            (n : ℕ) (done : List parts.Part) → Entered program known (begins (Adjustment n) done) number o x k heap places operands ms tasks
        assigned_enters n done = record {
          at = enters_by (Adjustment n) done refl tt (λ t never. absurd (cc never));
          adjusts = what_is_left;
          frees = frees_so (Adjustment n) tt called;
        }
