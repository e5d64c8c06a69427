-- What is taken of the body of a procedure that tracks components (7.6), as it is judged; and what a step keeps of what waits for it, and tells.

use Rattle.std.proofs.Common.{◌≡◌, ℕ, false, List, ◌∷◌, sym, subst, inl, inr, Bool, true}
use Rattle.std.specs.Prelude.{Some}
use Rattle.std.specs.List.{AllPairs, list_all}
use Rattle.ada_deeds.specs.Implicit.{implicit_of}
use Rattle.ada_effects.specs.Effects.{Implicit}
use Rattle.ada_flow.specs.Tracking.{Tracks}
use Rattle.ada_meaning.specs.declared.event.Cause.{Cause}
use Rattle.ada_meaning.specs.declared.event.Cause.TheVariants.{Leaving, Freeing, Assigning, Undoing}
use Rattle.ada_meaning.specs.declared.state.Mode.{Mode}
use Rattle.ada_meaning.specs.declared.state.Mode.TheVariants.{Running}
use Rattle.ada_meaning.specs.declared.state.Value.TheVariants.{Names}
use Rattle.ada_meaning.specs.Event.{Born, Finalized, Back, Followed, Left, Line, Quiet}
use Rattle.ada_meaning.specs.Frame.{Leaves}
use Rattle.ada_meaning.specs.Law.{items_of}
use Rattle.ada_meaning.specs.Named.{Object, State, Next, next}
use Rattle.ada_meaning.specs.Run.{Event}
use Rattle.ada_meaning.specs.Step.{halts, moves, tells, asks, picks, older}
use Rattle.ada_program.specs.declared.program.Program.{Program}
use Rattle.ada_program.specs.declared.program.TypeDefinition.{TypeDefinition}
use Rattle.ada_program.specs.ProgramForm.{BodyForm, ProgramForm, TypeForm, body_forms, program_form, seen_in}
use Rattle.ada_program.specs.WellFormed.{is_access}
use Rattle.ada_scopes.specs.Scopes.{CollectTwoTypes}
use Rattle.ada_tracked.specs.Frames.{View}
use Rattle.ada_tracked.specs.Law.{IsSilent, Matches}
use Rattle.ada_tracked.specs.Law as matching
use Rattle.ada_typed.proofs.Bodies.{TablesFit}
use Rattle.ada_sound.proofs.Gathered.{AllocatesBare}
use Rattle.ada_quiet.specs.Apart.{is_tracker, body_calls_apart}
use Rattle.ada_typed.proofs.Control as typed
use Rattle.ada_typed.proofs.Kept.{Each}
use Rattle.ada_sound.proofs.AdjustingSeen.{calls_or_copies}
use Rattle.ada_sound.proofs.Alters.{Alters}
use Rattle.ada_sound.proofs.Calm.{ends_operation}
use Rattle.ada_sound.proofs.Callers.{Suspension}
use Rattle.ada_sound.proofs.Homes.{NoneIsUnder}
use Rattle.ada_sound.proofs.Invariant.{Control, CoveredIn, Fine, IsCovered, IsFollowed, Known, Ready, Says, Standing, departs, departs_next, innermost, outers}
use Rattle.ada_sound.proofs.Judged.{judged_in, known_judged}
use Rattle.ada_sound.proofs.Leavings.{GoesWell, HeldIn, NamedBelow}
use Rattle.ada_sound.proofs.Standing.{FinalizesIn, FreesAmong}
use Rattle.ada_sound.proofs.Steps as inside
use Rattle.ada_sound.proofs.Defaults.{Reaches}
use Rattle.ada_sound.proofs.Sees.{reaches_in}
use Rattle.ada_sound.proofs.Waiting.{low_kept}

-- One step keeps the invariant of a body, where no body begins and none ends, nothing is called and no record comes to be as a whole.
abbrev pub StepsKeep : Known → List TypeDefinition → List BodyForm → Type 0
StepsKeep known types bodies =
    (t : State) → calls_or_copies t.control ≡ false → inside.crosses t.mode t.control ≡ false → typed.TypedIn known.program t
    → AllocatesBare known.program known.touches t.control → AllPairs CollectTwoTypes (items_of t.masters)
    → (may : ℕ → Bool) → FinalizesIn may known.program.types (outers known) types bodies t.mode t.control t → NoneIsUnder may (outers known).under t.heap
    → (t.mode ≡ Running → FreesAmong may t.control)
    → ((left : Mode) (k : Control) → t.mode ≡ Running → t.control ≡ Leaves left ∷ k
    → HeldIn t.heap t.masters × NamedBelow (outers known) t.heap t.masters × GoesWell known.program.types t.heap (innermost t.masters))
    → (t.mode ≡ Running → departs_next (departs known.ahead (innermost t.masters)) t.control ≡ false)
    → Ready known t → Fine known t.heap t.masters (next types bodies t)

-- A step leaves typed what is typed by the program as a body sees it, where no body begins and none ends, and nothing is called or treated.
abbrev pub StepsStayTyped : ProgramForm → List TypeDefinition → List BodyForm → Type 0
StepsStayTyped own types bodies =
    (t : State) → typed.TypedIn own t → calls_or_copies t.control ≡ false → inside.crosses t.mode t.control ≡ false → ends_operation t.control ≡ false
    → Each (typed.TypedIn own) (next types bodies t)

-- What is known of the body of a procedure as it is judged: it fits, frees by its own instances, and may free nothing more than it may as it stands; its steps leave it typed, and keep the
-- invariant, whatever has called it.
pub record IsJudged (program : Program) (number : ℕ) (tracks : Tracks) : Type 0 where
  pub fits : TablesFit (judged_in tracks (seen_in (Some number) (program_form program)))
  pub owns : typed.OwnBody (judged_in tracks (seen_in (Some number) (program_form program)))
  pub covered : (t : ℕ) → CoveredIn (implicit_of (program_form program)) (judged_in tracks (seen_in (Some number) (program_form program))) t
      → CoveredIn (implicit_of (program_form program)) (seen_in (Some number) (program_form program)) t
  pub apart : list_all (body_calls_apart (program_form program).types (is_tracker (program_form program))) (body_forms program) ≡ true
  pub stays : StepsStayTyped (judged_in tracks (seen_in (Some number) (program_form program))) program.types.items (body_forms program)
  pub keeps : (gs : List Suspension) → StepsKeep (known_judged program number tracks gs) program.types.items (body_forms program)

-- The types that the body sees are those of the program.
pub reaches_judged : (program : Program) (number : ℕ) (tracks : Tracks) (gs : List Suspension) → Reaches (known_judged program number tracks gs) program.types.items
reaches_judged program number tracks gs = let same = reaches_in program (Some number) gs in (same.0, same.1, same.2, same.3, same.4, same.5, same.6)

-- What is known of what waits stays known.
pub standing_kept : (known : Known) (s : State) (e : Event) (after : State) → older after.activations ≡ older s.activations → Alters s.heap e after.heap → Standing known s → Standing known after
standing_kept known s e after same a standing = record {
  suspended = rw same standing.suspended;
  waiting = standing.waiting;
  low = low_kept s.heap e after.heap a known.callers standing.low;
}

-- An event is that of the other run, or the object is followed to: nothing else changes.
pub alters_matched : (w : View) (e g : Event) (h after : List Object) → Matches w e g → Alters h g after → Alters h e after
alters_matched w e g h after (matching.same is) a = subst (λ (told : Event). Alters h told after) is a
alters_matched w e g h after (matching.followed is quiet) a = record { kept = a.kept; told = λ o y at back. elim (a.told o y at back) [ inl b ↦ inl b | inr told ↦ absurd (cc (rw quiet at told)) ] }

pub says_matched : (w : View) (implicit : Implicit) (own : ProgramForm) (e g : Event) (h : List Object) (after : State) → IsFollowed (Names w.object) h → Matches w e g → Says implicit own g h after → Says implicit own e h after
says_matched w implicit own e g h after there (matching.same is) says = subst (λ (told : Event). Says implicit own told h after) is says
says_matched w implicit own e g h after there (matching.followed is quiet) says = subst (λ (told : Event). Says implicit own told h after) (sym is) there

pub says_silent : (w : View) (implicit : Implicit) (own : ProgramForm) (e : Event) (h : List Object) (after : State) → IsFollowed (Names w.object) h → IsSilent w e → Says implicit own e h after
says_silent w implicit own e h after there (matching.quiet is) = subst (λ (told : Event). Says implicit own told h after) (sym is) tt
says_silent w implicit own e h after there (matching.followed is) = subst (λ (told : Event). Says implicit own told h after) (sym is) there

-- What an event says of a body, it says of one that may free as much.
module _ (implicit : Implicit) (p own : ProgramForm) (types : own.types ≡ p.types) (covers : (t : ℕ) → CoveredIn implicit p t → CoveredIn implicit own t) where
  covered_so : (cause : Cause) (access : ℕ) → IsCovered implicit p cause access → IsCovered implicit own cause access
  covered_so (Freeing number) access c = (covers access c.0, subst (λ (all : List TypeForm). is_access all access ≡ true) (sym types) c.1)
  covered_so (Leaving m item) access c = tt
  covered_so (Assigning number) access c = tt
  covered_so (Undoing number) access c = tt

  pub says_covered : (e : Event) (before : List Object) (after : State) → Says implicit p e before after → Says implicit own e before after
  says_covered (Born object part turn type number by) before after says = tt
  says_covered (Finalized object part turn type number cause) before after says = tt
  says_covered (Back object access number pool subpool cause) before after g = record {
    id = g.id;
    object = g.object;
    is = g.is;
    found = g.found;
    out = g.out;
    of_type = g.of_type;
    numbered = g.numbered;
    to_pool = g.to_pool;
    to_subpool = g.to_subpool;
    home = g.home;
    covered = covered_so cause access g.covered;
    back = g.back;
  }
  says_covered (Followed object) before after says = says
  says_covered (Left master) before after says = tt
  says_covered (Line line) before after says = tt
  says_covered Quiet before after says = tt

-- Whatever comes next, both of two hold.
pub each_both : (P Q : State → Type 0) (n : Next) → Each P n → Each Q n → Each (λ (s : State). P s × Q s) n
each_both P Q (halts halt) p q = tt
each_both P Q (moves e after) p q = (p, q)
each_both P Q (tells request e after) p q = (p, q)
each_both P Q (asks request answers) p q = λ granted. (p granted, q granted)
each_both P Q (picks n taking) p q = λ i lt. (p i lt, q i lt)
