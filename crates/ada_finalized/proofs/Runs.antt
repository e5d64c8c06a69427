-- The laws of whole runs.

use Rattle.std.proofs.Common.{◌≡◌, ◌⊎◌, ℕ, ◌+◌, ◌≤◌, ℤ, true, false, List, [], ◌∷◌, ◌++◌, Option, Some, None, refl, sym, ap, ◌∙◌, inl, inr, subst, arith}
use Rattle.std.specs.Prelude.{IfSome}
use Rattle.std.specs.List.{slice_get, AllPairs, AllByRecursion}
use Rattle.std.proofs.lemmas.List.Elements.{All-from_recursion}
use Rattle.std.proofs.lemmas.List.Kept.{AllPairs-cons}
use Rattle.ada_program.specs.declared.program.Program.{Program}
use Rattle.ada_program.specs.declared.program.TypeDefinition.{TypeDefinition}
use Rattle.ada_program.specs.Controlled.{shapes_of}
use Rattle.ada_program.specs.ProgramForm.{body_forms}
use Rattle.ada_meaning.specs.declared.state.Id.{Id}
use Rattle.ada_meaning.specs.declared.state.Value.{Value}
use Rattle.ada_meaning.specs.Event.{Request}
use Rattle.ada_meaning.specs.Heap.{PartState}
use Rattle.ada_meaning.specs.Named.{Object, State, next}
use Rattle.ada_meaning.specs.Run.{Event, Choice, Step, Run, here, there, first_state}
use Rattle.ada_meaning.specs.Law.{ControlledValue, finalized_of, Happened, GivesBackOf, FinalizedTwoValues}
use Rattle.ada_meaning.specs.Life.{KeepsObjects}
use Rattle.ada_meaning.specs.Finalization.{Bears, Finalizes, IsBorn, FinalizedByBack, begun_of, InsideIsBegun, FinalizationLaw}
use Rattle.ada_meaning.proofs.Lives.{names_are_used_once}
use Rattle.ada_order.proofs.Controls.{Work, stays, numbers, owns, enters, Leave, waits, shortens, gives, operates, left, Deed, works, leaves}
use Rattle.ada_order.proofs.Leavings.{step_deed}
use Rattle.ada_order.proofs.Orders.{Kept, kept_first, step_keeps}
use Rattle.ada_finalized.specs.Law.{InEveryRun}
use Rattle.ada_finalized.proofs.Counts.{one_if}
use Rattle.ada_finalized.proofs.Ranks.{Heap, rank_of, rank_in, rank_by, rank_at}
use Rattle.ada_finalized.proofs.Stacks.{nothing, calm}
use Rattle.ada_finalized.proofs.Leading.{led}
use Rattle.ada_finalized.proofs.Invariant.{Sane, exists, is_gone, runs, Fits, IsOut, out_kept, Told, Goes, GoesOn}
use Rattle.ada_finalized.proofs.Steps.{sound}
use Rattle.ada_finalized.proofs.Told.{value, born_at, finalized_at, begun_at, told_born, told_finalized, Marks, told_back, marked, marks_kept, Pairs, paired}

-- The number of the next master or cause never falls.
work_grows : (types : List TypeDefinition) (s : State) (told : Option (Request Value)) (e : Event) (after : State) → Work types s.masters s.next told e after → s.next ≤ after.next
work_grows types s told e after (stays none by stands masters is) = omega (arith, is)
work_grows types s told e after (numbers none by stands masters is) = omega (arith, is)
work_grows types s told e after (owns what due begun by stands masters is) = omega (arith, is)
work_grows types s told e after (enters none by stands masters is) = omega (arith, is)

leave_grows : (s : State) (told : Option (Request Value)) (e : Event) (after : State) → Leave s.masters s.next told e after → s.next ≤ after.next
leave_grows s told e after (waits none by stands masters is) = omega (arith, is)
leave_grows s told e after (shortens gone by stands masters is) = omega (arith, is)
leave_grows s told e after (gives m i none of by newest seen stands masters is) = omega (arith, is)
leave_grows s told e after (operates m i none of by newest seen stands masters is) = omega (arith, is)
leave_grows s told e after (left m rest none e_is before remains masters is) = omega (arith, is)

deed_grows : (types : List TypeDefinition) (s : State) (told : Option (Request Value)) (e : Event) (after : State) → Deed types s told e after → s.next ≤ after.next
deed_grows types s told e after (works w) = work_grows types s told e after w
deed_grows types s told e after (leaves l) = leave_grows s told e after l

-- The events of a run behind others, the newest first.
abbrev pub past_then : (events past : List Event) → List Event
past_then [] past = past
past_then (e ∷ events) past = past_then events (e ∷ past)

pub happened_then : (P : Event → Type 0) (events past : List Event) → Happened P (past_then events past) → Happened P events ⊎ Happened P past
happened_then P [] past h = inr h
happened_then P (e ∷ events) past h =
    elim (happened_then P events (e ∷ past) h) [ inl later ↦ inl (inr later) | inr before ↦ elim before [ inl now ↦ inl (inl now) | inr long ↦ inr long ] ]

-- What every state of a run keeps.
pub record Holds (types : List TypeDefinition) (past : List Event) (s : State) : Type 0 where
  pub fits : Fits types past s
  pub kept : Kept types s

pub first_holds : (program : Program) (input : List ℤ) → Holds program.types.items [] (first_state program input)
first_holds program input = record {
  fits = record {
    stands = runs (calm _ [] tt nothing);
    inv = record {
      fine = tt;
      apart = tt;
      claims = λ j n. refl;
      sane = λ j y is. absurd (cc is);
      there = tt;
    };
  };
  kept = kept_first program input;
}

-- Of an object whose words are back no value is left.
odd_never : (found : Option PartState) (turn : ℕ) → ((p : PartState) → found ≡ Some p → p.alive ≡ false) → rank_of found ≡ turn + turn + 1 → ⊥
odd_never None turn dead one = omega (arith, one)
odd_never (Some p) turn dead one = let none = ap one_if (dead p refl) in omega (arith, one, none)

all_finalized : (types : List TypeDefinition) (x : Object) (n turn : ℕ) → Sane types x → x.out ≡ false → rank_in x n ≡ turn + turn + 1 → ⊥
all_finalized types x n turn (exists stage out parts) back one = let never : true ≡ false = sym out ∙ back in absurd (cc never)
all_finalized types x n turn (is_gone gone listed dead) back one = odd_never (slice_get x.cell.parts n) turn (dead n) one

back_finalized : (types : List TypeDefinition) (past : List Event) (s : State) (o n turn : ℕ) → Fits types past s → IsOut s.heap o false → rank_at s.heap o n ≡ turn + turn + 1 → ⊥
back_finalized types past s o n turn h (x, (is, back)) one =
    all_finalized types x n turn (h.inv.sane o x is) back (sym (ap (λ (found : Option Object). rank_by found n) is) ∙ one)

module _ (program : Program) where
  step_remains : (s after : State) (choice : Choice) (e : Event) → Step program s choice e after → KeepsObjects s.heap after.heap
  step_remains s after choice e l = names_are_used_once program s after (e ∷ []) (there choice after l here)

  step_grows : (past : List Event) (s after : State) (choice : Choice) (e : Event) → Holds program.types.items past s → Step program s choice e after → s.next ≤ after.next
  step_grows past s after choice e h l =
      let d = step_deed program s choice e after h.kept.stands l in
      deed_grows program.types.items s d.0 e after d.1

  pub step_goes : (past : List Event) (s after : State) (choice : Choice) (e : Event) → Holds program.types.items past s → Step program s choice e after → Goes program.types.items past s e after
  step_goes past s after choice e h l =
      led (GoesOn program.types.items past s) (next program.types.items (body_forms program) s) choice e after (sound program.types.items (body_forms program) past s h.fits) l
      (record { grows = step_grows past s after choice e h l; keeps = step_remains s after choice e l })

  pub step_holds : (past : List Event) (s after : State) (choice : Choice) (e : Event) → Holds program.types.items past s → Step program s choice e after → Holds program.types.items (e ∷ past) after
  step_holds past s after choice e h l = record { fits = (step_goes past s after choice e h l).fits; kept = step_keeps program s choice e after h.kept l }

  step_told : (past : List Event) (s after : State) (choice : Choice) (e : Event) → Holds program.types.items past s → Step program s choice e after → Told program.types.items past s e after
  step_told past s after choice e h l = (step_goes past s after choice e h l).told

  pub holds_then : (past : List Event) (s last : State) (events : List Event) → Run program s events last → Holds program.types.items past s → Holds program.types.items (past_then events past) last
  holds_then past s last events here h = h
  holds_then past s last (e ∷ events) (there choice mid l rest) h = holds_then (e ∷ past) mid last events rest (step_holds past s mid choice e h l)

  -- What comes behind an event.
  later_paired : (past : List Event) (s last : State) (e : Event) (events : List Event) → Run program s events last → Holds program.types.items past s → Marks program.types.items e s → AllByRecursion (Pairs (shapes_of program.types.items) e) events
  later_paired past s last e [] here h m = tt
  later_paired past s last e (f ∷ events) (there choice mid l rest) h m =
      let g = step_goes past s mid choice f h l in (
        paired program.types.items past s e f mid m g.told,
        later_paired (f ∷ past) mid last e events rest (step_holds past s mid choice f h l)
            (marks_kept program.types.items s mid (step_remains s mid choice f l) (step_grows past s mid choice f h l) past e f g.told g.origins m),
      )

  all_paired : (past : List Event) (s last : State) (events : List Event) → Run program s events last → Holds program.types.items past s → AllPairs (Pairs (shapes_of program.types.items)) events
  all_paired past s last events here h = λ i j d lt within. absurd (omega (arith, lt, within))
  all_paired past s last (e ∷ events) (there choice mid l rest) h =
      let after = step_holds past s mid choice e h l in
      AllPairs-cons (Pairs (shapes_of program.types.items)) e events
      (All-from_recursion (Pairs (shapes_of program.types.items) e) events
      (later_paired (e ∷ past) mid last e events rest after (marked program.types.items past s e mid (step_told past s mid choice e h l))))
      (all_paired (e ∷ past) mid last events rest after)

  -- What is finalized had come to exist before, or does so in the run.
  abbrev BornSince : Heap → List Event → Event → Type 0
  BornSince xs events e = (o n turn : ℕ) → finalized_of e ≡ Some (value o n turn) → (turn + turn + 1 ≤ rank_at xs o n) ⊎ Happened (Bears (value o n turn)) events

  since_earlier :
      (past : List Event) (s mid : State) (e : Event) (events more : List Event) → Told program.types.items past s e mid → AllByRecursion (BornSince mid.heap events) more
      → AllByRecursion (BornSince s.heap (e ∷ events)) more
  since_earlier past s mid e events [] told h = tt
  since_earlier past s mid e events (f ∷ more) told h = (one, since_earlier past s mid e events more told h.1)
    where
      one : BornSince s.heap (e ∷ events) f
      one o n turn is =
          elim (h.0 o n turn is) [
            | inl some ↦ elim (told_born program.types.items past s e mid o n turn told some) [ inl a ↦ inl a | inr b ↦ inr (inl b) ]
            | inr later ↦ inr (inr later)
          ]

  born_since : (past : List Event) (s last : State) (events : List Event) → Run program s events last → Holds program.types.items past s → AllByRecursion (BornSince s.heap events) events
  born_since past s last [] here h = tt
  born_since past s last (e ∷ events) (there choice mid l rest) h =
      let told = step_told past s mid choice e h l in (
        (λ o n turn is. inl (let a = (finalized_at program.types.items past s e mid (value o n turn) told is).before in omega (arith, a))),
        since_earlier past s mid e events events told (born_since (e ∷ past) mid last events rest (step_holds past s mid choice e h l)),
      )

  -- Each value that exists is there in the end, or is finalized.
  finalized_since :
      (past : List Event) (s last : State) (events : List Event) (o n turn : ℕ) → Run program s events last → Holds program.types.items past s
      → rank_at s.heap o n ≡ turn + turn + 1 → (rank_at last.heap o n ≡ turn + turn + 1) ⊎ Happened (Finalizes (value o n turn)) events
  finalized_since past s last events o n turn here h one = inl one
  finalized_since past s last (e ∷ events) o n turn (there choice mid l rest) h one =
      elim (told_finalized program.types.items past s e mid o n turn (step_told past s mid choice e h l) one) [
        | inl still_one ↦ elim (finalized_since (e ∷ past) mid last events o n turn rest (step_holds past s mid choice e h l) still_one) [ inl a ↦ inl a | inr b ↦ inr (inr b) ]
        | inr now ↦ inr (inl now)
      ]

  born_then :
      (past : List Event) (s last : State) (events : List Event) (v : ControlledValue) → Run program s events last → Holds program.types.items past s
      → Happened (Bears v) events → (rank_at last.heap v.object.0 v.part ≡ v.turn + v.turn + 1) ⊎ Happened (Finalizes v) events
  born_then past s last events v here h born = absurd born
  born_then past s last (e ∷ events) v (there choice mid l rest) h (inl now) =
      let b = born_at program.types.items past s e mid v (step_told past s mid choice e h l) now in
      elim (finalized_since (e ∷ past) mid last events v.object.0 v.part v.turn rest (step_holds past s mid choice e h l) b.after) [
        | inl a ↦ inl a
        | inr later ↦ inr (inr later)
      ]
  born_then past s last (e ∷ events) v (there choice mid l rest) h (inr later) =
      elim (born_then (e ∷ past) mid last events v rest (step_holds past s mid choice e h l) later) [ inl a ↦ inl a | inr b ↦ inr (inr b) ]

  back_then : (past : List Event) (s last : State) (events : List Event) (o : Id) → Run program s events last → Holds program.types.items past s → Happened (GivesBackOf o) events → IsOut last.heap o.0 false
  back_then past s last events o here h back = absurd back
  back_then past s last (e ∷ events) o (there choice mid l rest) h (inl now) =
      out_kept mid.heap last.heap o.0 (names_are_used_once program mid last events rest) (told_back program.types.items past s e mid (step_told past s mid choice e h l) o now)
  back_then past s last (e ∷ events) o (there choice mid l rest) h (inr later) =
      back_then (e ∷ past) mid last events o rest (step_holds past s mid choice e h l) later

  -- Where a part begins, all that lies in it has begun before.
  inside_then :
      (past : List Event) (s last : State) (earlier later : List Event) (e : Event) → Run program s (earlier ++ e ∷ later) last → Holds program.types.items past s
      → (mid after : State) × (Told program.types.items (past_then earlier past) mid e after)
  inside_then past s last [] later e (there choice mid l rest) h = (s, mid, step_told past s mid choice e h l)
  inside_then past s last (f ∷ earlier) later e (there choice mid l rest) h = inside_then (f ∷ past) mid last earlier later e rest (step_holds past s mid choice f h l)

  if_some : {X : Type 0} (P : X → Type 0) (found : Option X) → ((x : X) → found ≡ Some x → P x) → IfSome found P
  if_some P None h = tt
  if_some P (Some x) h = h x refl

-- From the first state on.
module _ (program : Program) (input : List ℤ) (events : List Event) (last : State) (run : Run program (first_state program input) events last) where
  abbrev start : State
  start = first_state program input

  pairs : AllPairs (Pairs (shapes_of program.types.items)) events
  pairs = all_paired program [] start last events run (first_holds program input)

  pub last_holds : Holds program.types.items (past_then events []) last
  last_holds = holds_then program [] start last events run (first_holds program input)

  -- Each event of the run that finalizes is of a value that comes to exist in it.
  born_of_all : AllByRecursion (IsBorn events) events
  born_of_all = go events (born_since program [] start last events run (first_holds program input))
    where
      one : (e : Event) → BornSince program [] events e → IsBorn events e
      one e since =
          if_some program (λ v. Happened (Bears v) events) (finalized_of e)
          (λ v is. elim (since v.object.0 v.part v.turn is) [ inl some ↦ absurd (omega (arith, some)) | inr h ↦ h ])

      go : (more : List Event) → AllByRecursion (BornSince program [] events) more → AllByRecursion (IsBorn events) more
      go [] h = tt
      go (e ∷ more) h = (one e h.0, go more h.1)

  by_back : FinalizedByBack events
  by_back v born back =
      elim (born_then program [] start last events v run (first_holds program input) born) [
        | inl alive ↦ absurd (back_finalized program.types.items (past_then events []) last v.object.0 v.part v.turn last_holds.fits (back_then program [] start last events v.object run (first_holds program input) back) alive)
        | inr h ↦ h
      ]

  inside_begun : InsideIsBegun (shapes_of program.types.items) events
  inside_begun earlier later e b p is begun lies within =
      let t = inside_then program [] start last earlier later e (subst (λ (es : List Event). Run program start es last) is run) (first_holds program input) in
      let h = (begun_at program.types.items (past_then earlier []) t.0 e t.1 b t.2 begun).inside p lies within in
      elim (happened_then (λ f. begun_of f ≡ Some (record { treated = record { object = b.treated.object; part = p }; by = b.by })) earlier [] h) [ inl before ↦ before | inr never ↦ absurd never ]

  law : FinalizationLaw (shapes_of program.types.items) events
  law = record {
    born_once = λ i j d lt within. (pairs i j d lt within).born_once;
    born_before = λ i j d lt within. (pairs i j d lt within).born_before;
    is_born = All-from_recursion (IsBorn events) events born_of_all;
    finalized_by_back = by_back;
    nothing_after_back = λ i j d lt within. (pairs i j d lt within).nothing_after_back;
    parts_first = λ i j d lt within. (pairs i j d lt within).parts_first;
    wholes_first = λ i j d lt within. (pairs i j d lt within).wholes_first;
    inside_begun = inside_begun;
    assigned_once = λ i j d lt within. (pairs i j d lt within).assigned_once;
  }

-- What a crate above takes from here.
pub finalizations : InEveryRun FinalizationLaw
finalizations program input events last run = law program input events last run

pub finalized_once : InEveryRun (λ shapes events. AllPairs FinalizedTwoValues events)
finalized_once program input events last run = λ i j d lt within. (pairs program input events last run i j d lt within).finalized_once
