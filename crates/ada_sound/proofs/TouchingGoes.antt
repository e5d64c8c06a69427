-- While an operation that touches storage is under way, whatever runs goes on (7.6, 7.6.1): a step leaves what waits as it is, and what is left to do leads on.

use Rattle.std.proofs.Common.{◌≡◌, ℕ, Bool, List, [], ◌∷◌, refl, sym, ap, subst, ◌∙◌, ◌⊎◌, inl, inr, ◌++◌, ◌≤◌, ◌+◌, arith, drop, length, suc, zero}
use Rattle.std.specs.Prelude.{Option, Some}
use Rattle.ada_program.specs.declared.program.Program.{Program}
use Rattle.ada_program.specs.ProgramForm.{ProgramForm, program_form, body_forms}
use Rattle.ada_meaning.specs.declared.state.Mode.{Mode}
use Rattle.ada_meaning.specs.declared.state.Value.{Value}
use Rattle.ada_meaning.specs.Event.{Quiet}
use Rattle.ada_meaning.specs.Frame.{Returns}
use Rattle.ada_meaning.specs.State.{Activation}
use Rattle.ada_meaning.specs.Step.{halts, moves, tells, asks, picks, older, operands_of}
use Rattle.ada_meaning.specs.Named.{Object, State, Next, next}
use Rattle.ada_meaning.specs.Run.{Event}
use Rattle.ada_typed.proofs.Kept.{behind_call, Each}
use Rattle.ada_sound.specs.Agreement.{running_procedure}
use Rattle.ada_sound.proofs.Alters.{Alters}
use Rattle.ada_sound.proofs.Callers.{AreCalls, Suspension, known_in}
use Rattle.ada_sound.proofs.Allowance.{Allowance, allowance_of}
use Rattle.ada_sound.proofs.FrugalControl.{Frugally, GoesFrugally}
use Rattle.ada_sound.proofs.Invariant.{Control, EndsWell, Fine, IsAwaited, Stepped}
use Rattle.ada_sound.proofs.Operates.{InOperation}
use Rattle.ada_sound.proofs.Operating.{InBody, IsCalm}
use Rattle.ada_sound.proofs.OperationStarts.{is_awaited}
use Rattle.ada_sound.proofs.Pauses.{AllWatched, inner_on, pause_on}
use Rattle.ada_sound.proofs.Returns.{Crosses, CrossesTo}
use Rattle.ada_sound.proofs.Grounds.{Grounds}
use Rattle.ada_sound.proofs.Touching.{AreInner, Pause, Touching, Watched, Within, operated_among, origin}
use Rattle.ada_sound.proofs.TouchingWatched.{AllGoOnInside, all_watched, each_and, watched_stays}
use Rattle.ada_sound.proofs.Waiting.{SameBody, stands_kept}

-- The body of such an operation runs behind a step, or one since then; and what that does to objects.
abbrev pub InTouching : Program → List Object → Event → State → Type 0
InTouching program before e after = InBody program (Touching program) before e after

-- It runs on, or the body of an operation begins that touches no storage, or what waits for it goes on, and what waits behind that waits for calls.
abbrev pub Went : Program → List Object → Event → State → Type 0
Went program before e after =
    InTouching program before e after
    ⊎ (InOperation program before e after ⊎ ((c : Crosses program before e after) × IsCalm (behind_call after.control) × (AreCalls c.suspensions)))

-- So it is whatever comes next.
abbrev pub GoesTouching : Program → State → Next → Type 0
GoesTouching program s (halts halt) = EndsWell halt s.heap s.masters
GoesTouching program s (moves e after) = Went program s.heap e after
GoesTouching program s (tells request e after) = Went program s.heap e after
GoesTouching program s (asks request answered) = (granted : Bool) → Went program s.heap Quiet (answered granted)
GoesTouching program s (picks n taken) = (i : ℕ) → suc i ≤ n → Went program s.heap Quiet (taken i)

-- A state with these parts.
abbrev pub with_parts : Mode → Control → List (Activation Value) → State → State
with_parts mode k all s = record s { mode = mode; control = k; activations = all }

-- What waits has the operands that it had.
behind_older : (count : ℕ) (acts : List (Activation Value)) → operands_of (drop (suc count) acts) ≡ operands_of (drop count (older acts))
behind_older zero [] = refl
behind_older (suc count) [] = refl
behind_older count (a ∷ acts) = refl

pub operands_behind : (count : ℕ) (after before : List (Activation Value)) → older after ≡ older before → operands_of (drop (suc count) after) ≡ operands_of (drop (suc count) before)
operands_behind count after before same =
    behind_older count after ∙ (ap (λ (all : List (Activation Value)). operands_of (drop count all)) same ∙ sym (behind_older count before))

-- So it has where one more activation waits, or one less.
pub operands_deeper : (n : ℕ) (acts : List (Activation Value)) (a b : Activation Value) → operands_of (drop (0 + n) acts) ≡ operands_of (drop (suc (1 + n)) (a ∷ b ∷ acts))
operands_deeper n acts a b =
    let one : 1 + n ≡ suc n = omega arith in
    let none : 0 + n ≡ n = omega arith in
    rw (one, none) refl

module _ (program : Program) (s : State) (f : Touching program s) where
  abbrev p : ProgramForm
  p = program_form program

  abbrev w : Within program f.suspensions s
  w = f.within

  -- The outermost operation, and the activations that wait for that and behind.
  abbrev pub outermost : Pause program (length w.inner) s
  outermost = w.outermost

  abbrev pub behind_it : List Suspension
  behind_it = origin program (length w.inner) s outermost ∷ outermost.suspensions

  -- What the bodies of these operations go by.
  abbrev pub thrifty : Allowance
  thrifty = allowance_of (program_form program)

  -- What waits for operations since then, in a state.
  abbrev pub InnerIn : State → (running : Option ℕ) → List Suspension → Type 0
  InnerIn after running inner = AreInner program after thrifty outermost.behind outermost.lower running 0 (Some outermost.number) behind_it inner

  -- What is watched is so still.
  abbrev pub Still : State → Type 0
  Still after =
      Watched program outermost.watch outermost.behind outermost.lower after
      × AllWatched program s thrifty outermost.behind outermost.lower after (running_procedure s) 0 (Some outermost.number) behind_it w.inner w.within

  -- Whatever is called from now on, and whoever goes on: the outermost operation is the same.
  pub within_on :
      (inner : List Suspension) (e : Event) (after : State) → InnerIn after (running_procedure after) inner
      → operands_of (drop (suc (length inner)) after.activations) ≡ operands_of (drop (suc (length w.inner)) s.activations) → Frugally thrifty outermost.lower outermost.behind (operated_among inner) after
      → Watched program outermost.watch outermost.behind outermost.lower after → Alters s.heap e after.heap → Within program (inner ++ behind_it) after
  within_on inner e after are same goes still alters = record {
    inner = inner;
    outermost = pause_on program (length w.inner) (length inner) s after e outermost alters same still;
    are = refl;
    within = are;
    frugal = goes;
    untreated = w.untreated;
    alone = w.alone;
    calm = w.calm;
    settled = w.settled;
    may = w.may;
  }

  pub touching_on :
      (inner : List Suspension) (e : Event) (after : State) → InnerIn after (running_procedure after) inner
      → operands_of (drop (suc (length inner)) after.activations) ≡ operands_of (drop (suc (length w.inner)) s.activations) → Frugally thrifty outermost.lower outermost.behind (operated_among inner) after
      → Watched program outermost.watch outermost.behind outermost.lower after → CrossesTo program (inner ++ behind_it) s.heap e after → InTouching program s.heap e after
  touching_on inner e after are same goes still c = record {
    body = record {
      suspensions = inner ++ behind_it;
      ready = c.stepped.ready;
      stands = c.stands;
      within = within_on inner e after are same goes still c.stepped.alters;
    };
    alters = c.stepped.alters;
    says = c.stepped.says;
  }

  -- Where the same activations wait.
  pub inner_stays : (e : Event) (after : State) → SameBody s after → Alters s.heap e after.heap → Still after → InnerIn after (running_procedure after) w.inner
  inner_stays e after same alters still =
      subst (λ (running : Option ℕ). InnerIn after running w.inner) (sym same.procedure)
      (inner_on program s thrifty outermost.behind outermost.lower after e (running_procedure s) 0 0 (Some outermost.number) behind_it w.inner w.within alters
      (λ n. operands_behind (0 + n) after.activations s.activations same.suspended) still.1)

  pub stays_on : (e : Event) (after : State) → SameBody s after → Stepped (known_in program (running_procedure s) f.suspensions) s.heap e after → Frugally thrifty outermost.lower outermost.behind (operated_among w.inner) after → Still after → InTouching program s.heap e after
  stays_on e after same st goes still =
      touching_on w.inner e after (inner_stays e after same st.alters still) (operands_behind (length w.inner) after.activations s.activations same.suspended) goes still.0
      (subst (λ (all : List Suspension). CrossesTo program all s.heap e after) w.are (record {
        stepped = subst (λ (procedure : Option ℕ). Stepped (known_in program procedure f.suspensions) s.heap e after) (sym same.procedure) st;
        stands = stands_kept program s after f.suspensions f.stands e same st.alters;
      }))

  pub stays_next : (n : Next) → Each (SameBody s) n → Fine (known_in program (running_procedure s) f.suspensions) s.heap s.masters n → GoesFrugally thrifty outermost.lower outermost.behind (operated_among w.inner) n → Each Still n → GoesTouching program s n
  stays_next (halts halt) same fine goes still = fine
  stays_next (moves e after) same fine goes still = inl (stays_on e after same fine goes still)
  stays_next (tells request e after) same fine goes still = inl (stays_on e after same fine goes still)
  stays_next (asks request answered) same fine goes still = λ granted. inl (stays_on Quiet (answered granted) (same granted) (fine granted) (goes granted) (still granted))
  stays_next (picks n taken) same fine goes still = λ i lt. inl (stays_on Quiet (taken i) (same i lt) (fine i lt) (goes i lt) (still i lt))

  -- The body of no operation ends next.
  module _ (grounds : Grounds program s) (on : (k : Control) → IsAwaited k → s.control ≡ Returns [] [] ∷ k → ⊥) where
    pub none_end : (running : Option ℕ) (depth : ℕ) (last : Option ℕ) (others inner : List Suspension) (are : AreInner program s thrifty outermost.behind outermost.lower running depth last others inner)
        → AllGoOnInside program f.suspensions s f.ready grounds thrifty outermost.behind outermost.lower running depth last others inner are
    none_end running depth last others [] are = tt
    none_end running depth last others (g ∷ inner) (inl (call, more)) = none_end g.procedure (suc depth) last others inner more
    none_end running depth last others (g ∷ inner) (inr (operation, more)) =
        let o = operation.pause in
        (on o.behind (is_awaited p.types o.object o.of o.treatment o.tasks o.after o.behind o.awaited), none_end g.procedure (suc depth) last others inner more)

    -- What is watched is so behind whatever comes next.
    pub still_on : Each Still (next program.types.items (body_forms program) s)
    still_on =
        each_and (Watched program outermost.watch outermost.behind outermost.lower)
        (λ after. AllWatched program s thrifty outermost.behind outermost.lower after (running_procedure s) 0 (Some outermost.number) behind_it w.inner w.within)
        (next program.types.items (body_forms program) s)
        (watched_stays program f.suspensions s f.ready grounds outermost.watch outermost.behind outermost.lower outermost.still
        (on outermost.behind (is_awaited p.types outermost.object outermost.of outermost.treatment outermost.tasks outermost.after outermost.behind outermost.awaited)))
        (all_watched program f.suspensions s f.ready grounds thrifty outermost.behind outermost.lower (running_procedure s) 0 (Some outermost.number) behind_it w.inner w.within
        (none_end (running_procedure s) 0 (Some outermost.number) behind_it w.inner w.within))
