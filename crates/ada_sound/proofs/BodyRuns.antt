-- A body runs from where its call has given it its formal parameters: it breaks no rule, and ends as its caller waits for it.

use Rattle.std.proofs.Common.{◌≡◌, ◌≢◌, ℕ, zero, suc, ◌+◌, Bool, true, false, ◌||◌, List, [], ◌∷◌, ◌⊎◌, inl, inr, refl, arith, ◌++◌}
use Rattle.std.specs.Prelude.{Option, Some, None}
use Rattle.ada_program.specs.declared.program.Exception.{Exception}
use Rattle.ada_program.specs.declared.program.Program.{Program}
use Rattle.ada_program.specs.Handling.{is_same}
use Rattle.ada_program.specs.declared.program.FormalMode.{FormalMode}
use Rattle.ada_program.specs.Form.{ActualForm, in_value, in_null, in_access, in_record, in_out_path, in_out_access, in_out_component, in_out_record}
use Rattle.ada_program.specs.ProgramForm.{TypeForm, VariableForm, BodyForm, ProgramForm, main_body}
use Rattle.ada_effects.specs.Effects.{Effect, Effects, declarations_free, leaving_frees, untaken, declarations_raise, stmts_raise, handlers_raise, stmts_free, handlers_free, call_frees, body_frees, effects_of, passes}
use Rattle.ada_flow.specs.declared.rule.Hold.{Hold}
use Rattle.ada_flow.specs.declared.rule.Hold.TheVariants as hold
use Rattle.ada_flow.specs.Flow.{left_finalized, Holds, hold_at, variable_access, Outcome, then_flow, declarations_flow, stmts_flow, handlers_flow, handled, leaves_block, ends_body, Keeping, keeping_of, body_keeps, kept_from, kept_by, is_kept, all_give_back, first_kept, others_kept, unless_kept, left_unkept, left_by_move, without_alias, without_freed, left_by_call, left, gone_with, nothing_gone, collected, have_exit, handlers_have_exit, body_flow, first_holds}
use Rattle.ada_flow.specs.Tracking.{no_tracks}
use Rattle.ada_meaning.specs.declared.state.Id.{Id}
use Rattle.ada_meaning.specs.declared.state.Value.{Value}
use Rattle.ada_program.specs.WellFormed.{is_access}
use Rattle.std.specs.List.{slice_get}
use Rattle.ada_meaning.specs.Frame.{Elaborates}
use Rattle.ada_owners.specs.Reliance.{Borrows}
use Rattle.ada_sound.proofs.Fits.{Outer, Outsiders, IsOwnedOutside, NoOuterAlias, Reference, IsReferred, owned_deeper, referred_either, outer_access, outer_hold}
use Rattle.ada_sound.proofs.Outcomes.{goes_map, to_here, block_goes, body_goes}
use Rattle.ada_sound.proofs.Values.{read_same, read_other, same_or_not}
use Rattle.ada_sound.proofs.Leavings.{all_among}
use Rattle.ada_sound.proofs.Raising.{or_left, or_right}
use Rattle.ada_sound.proofs.Nestings.{part_from}
use Rattle.ada_sound.proofs.Bodies.{IsFine}
use Rattle.ada_sound.proofs.Invariant.{MayEnd, Known, Goes, GoesBy, To, Ways, Raised, Outside, RunsOn, Spares, Where, Control, owed_by, around_at, body_among, is_kept_at, KeepsAll, ways}
use Rattle.ada_sound.specs.Agreement.{Turning, ComesInside}
use Rattle.ada_sound.proofs.Callers.{Suspension, rest_of, known_in}
use Rattle.ada_sound.proofs.LeftFinalized.{finalized_gives, finalized_keeps, endings_leave}

-- What obeys the rules breaks none.
pub goes_anywhere : (normal : Option Holds) → GoesBy normal (λ holds. Unit {0})
goes_anywhere None = tt
goes_anywhere (Some holds) = tt

-- What is kept, by what is held where an exception leaves a body, is kept there.
kept_there : (holds : Holds) (n : ℕ) (modes : List FormalMode) (x : ℕ) → is_kept_at (kept_from (Some holds) n modes) x ≡ true → is_kept (hold_at holds (n + x)) ≡ true
kept_there holds n [] x kept = absurd (cc kept)
kept_there holds n (m ∷ ms) zero kept =
    let at : n + zero ≡ n = omega arith in
    rw at kept
kept_there holds n (m ∷ ms) (suc x) kept =
    let at : (n + 1) + x ≡ n + suc x = omega arith in
    rw at at (kept_there holds (n + 1) ms x kept)

-- Where what flow answers for a body breaks no rule, formal parameters are kept where an exception leaves it.
pub fine_keeps : (o : Outcome) (formals : List FormalMode) → IsFine o → Goes o (λ holds. Unit {0}) (KeepsAll (kept_by o formals))
fine_keeps o formals (normal, raising, is) = rw is (goes_anywhere normal, keeps raising)
  where
    keeps : (raising : Option Holds) → GoesBy raising (KeepsAll (kept_from raising 0 formals))
    keeps None = tt
    keeps (Some holds) = λ x e. let at : 0 + x ≡ x = omega arith in rw at at (kept_there holds 0 formals x e)

-- Where a body breaks no rule, formal parameters give back what they owe at its end, and are kept where an exception leaves it.
pub gives_and_keeps : (types : List TypeForm) (effects : Effects) (kept : List Keeping) (b : BodyForm) → IsFine (body_flow types effects kept no_tracks b) → Goes (body_flow types effects kept no_tracks b) (λ holds. Unit {0}) (KeepsAll (body_keeps types effects kept no_tracks b))
gives_and_keeps types effects kept b fine = fine_keeps (body_flow types effects kept no_tracks b) b.formals fine

-- Any body, of which this is known, and behind which this is to be done.
module _ (known : Known) (rest : Control) where
  abbrev own : ProgramForm
  own = known.program

  -- What is behind the body: its caller waits for each way in which it ends.
  abbrev behind : Ways
  behind = ways known rest []

  -- It waits for what the body gives back, and for what that keeps.
  pub record AwaitsEnds (kept : Keeping) : Type 0 where
    pub ends : (holds : Holds) → all_give_back (owed_by known) holds ≡ true → behind.normal holds
    pub raises : (e : Exception) (holds : Holds) → body_among known.implicit own e ≡ true → KeepsAll kept holds → behind.raised e holds
    pub returns : (holds : Holds) → all_give_back (owed_by known) holds ≡ true → behind.returned holds

  -- At first a body is in no loop, and in no block but itself.
  abbrev nowhere_yet : Where
  nowhere_yet = record { start = None; inside = nothing_gone; within = gone_with own.declarations }

  abbrev outside : Ways
  outside = Outside known (gone_with own.declarations) behind

  -- Its part: its declarations, its statements and its handlers, before the body is left, where it begins with these holds.
  abbrev part : Holds → Outcome
  part first =
      then_flow (declarations_flow own.types own.variables no_tracks known.implicit own.declarations first)
      (λ at. handled (passes (effects_of known.implicit own) own.statements own.handlers)
      (handlers_flow own.types own.variables (around_at known nowhere_yet) own.handlers)
      (stmts_flow own.types own.variables (around_at known nowhere_yet) own.statements at))

  -- The whole body.
  abbrev pub whole_flow : Holds → Outcome
  whole_flow first = ends_body (owed_by known) own.end_spot (leaves_block own.variables (gone_with own.declarations) (part first))

  -- Flow comes from its beginning to places of which that is known.
  abbrev pub ComesFrom : Holds → Type 0
  ComesFrom first =
      (way : List Turning) (place : Control) (at : Holds)
      → ComesInside own.types own.variables (around_at known nowhere_yet) rest own.declarations own.statements own.handlers first way place at → known.At place at

  abbrev left_there : Holds → Holds
  left_there holds = left own.variables (gone_with own.declarations) holds

  abbrev behind_there : Holds → Holds
  behind_there holds = left_finalized own.variables known.implicit (gone_with own.declarations) holds

  part_goes : (first : Holds) (kept : Keeping) → Goes (whole_flow first) (λ h. Unit {0}) (KeepsAll kept) → Goes (part first) (λ h. all_give_back (owed_by known) (left_there h) ≡ true) (λ h. KeepsAll kept (left_there h))
  part_goes first kept goes =
      block_goes own.variables (gone_with own.declarations) (part first) (λ h. all_give_back (owed_by known) h ≡ true) (KeepsAll kept)
      (body_goes (owed_by known) own.end_spot (leaves_block own.variables (gone_with own.declarations) (part first)) (λ h. Unit {0}) (KeepsAll kept) goes)

  -- What its statements and its handlers may free, it may.
  freed_there : (t : ℕ) → (stmts_free own.types own.variables (effects_of known.implicit own) t own.statements || handlers_free own.types own.variables (effects_of known.implicit own) t own.handlers) ≡ true → body_frees own.types (effects_of known.implicit own) (main_body own) t ≡ true
  freed_there t i =
      or_left (stmts_free own.types own.variables (effects_of known.implicit own) t own.statements || handlers_free own.types own.variables (effects_of known.implicit own) t own.handlers)
      (declarations_free known.implicit t own.declarations || leaving_frees known.implicit t own.declarations) i

  -- It runs, if it breaks no rule, no exit leads out of it, no suspended activation has an alias of what it may free, and its caller waits for what it
  -- keeps.
  pub any_body_runs : (first : Holds) (kept : Keeping) → ComesFrom first → Goes (whole_flow first) (λ h. Unit {0}) (KeepsAll kept)
      → have_exit own.statements ≡ false → handlers_have_exit own.handlers ≡ false → Spares known (body_frees own.types (effects_of known.implicit own) (main_body own)) → AwaitsEnds kept
      → RunsOn known (Elaborates own.declarations own.statements own.handlers ∷ rest) (gone_with own.declarations ∷ []) first
  any_body_runs first kept from goes none_out none_on spares awaits =
      let effects = effects_of known.implicit own in
      let gone = gone_with own.declarations in
      let may_state = λ (t : ℕ). stmts_free own.types own.variables effects t own.statements in
      let may_handle = λ (t : ℕ). handlers_free own.types own.variables effects t own.handlers in
      let may_declare = λ (t : ℕ). declarations_free known.implicit t own.declarations in
      let may_leave = λ (t : ℕ). leaving_frees known.implicit t own.declarations in
      let declaring = λ (e : Exception). declarations_raise known.implicit (is_same e) own.declarations in
      let stating = λ (e : Exception). stmts_raise effects (untaken own.handlers (is_same e)) own.statements in
      let handling = λ (e : Exception). handlers_raise effects (is_same e) own.handlers in
      let may_end : MayEnd known gone = λ t i. spares t (or_right (may_state t || may_handle t) (may_declare t || may_leave t) (or_right (may_declare t) (may_leave t) (endings_leave known.implicit t own.declarations i))) in (
        all_among (collected own.declarations),
        part_from known nowhere_yet rest own.declarations own.statements own.handlers outside (body_among known.implicit own) first
            (record {
              by_declarations = λ e i. or_left (declaring e || stating e) (handling e) (or_left (declaring e) (stating e) i);
              by_statements = λ e i. or_left (declaring e || stating e) (handling e) (or_right (declaring e) (stating e) i);
              by_handlers = λ e i. or_right (declaring e || stating e) (handling e) i;
            })
            from
            (goes_map (part first) (λ h. all_give_back (owed_by known) (left_there h) ≡ true) (λ h. KeepsAll kept (left_there h)) (To outside.normal) (Raised (body_among known.implicit own) outside)
            (λ h gives. to_here outside.normal h (may_end, to_here behind.normal (behind_there h) (awaits.ends (behind_there h) (finalized_gives own.variables known.implicit gone (owed_by known) h gives))))
            (λ h keeps. λ e i. to_here (outside.raised e) h (may_end, to_here (behind.raised e) (behind_there h) (awaits.raises e (behind_there h) i (λ x is. finalized_keeps own.variables known.implicit gone h x (keeps x is))))) (part_goes first kept goes))
            (λ one h may. absurd (cc (one, none_out)))
            (λ one h may. absurd (cc (one, none_on)))
            (λ h gives. (may_end, to_here behind.returned (behind_there h) (awaits.returns (behind_there h) (finalized_gives own.variables known.implicit gone (owed_by known) h gives))))
            (λ t i. spares t (freed_there t (or_left (may_state t) (may_handle t) i)))
            (λ t i. spares t (freed_there t (or_right (may_state t) (may_handle t) i)))
            (λ t i. spares t (or_right (may_state t || may_handle t) (may_declare t || may_leave t) (or_left (may_declare t) (may_leave t) i))),
      )

-- A body that tracks nothing.
module _ (program : Program) (procedure : Option ℕ) (gs : List Suspension) where
  abbrev known_here : Known
  known_here = known_in program procedure gs

  abbrev p : ProgramForm
  p = known_here.program

  -- What the body keeps, by its outcome.
  abbrev kept_here : Keeping
  kept_here = body_keeps p.types (effects_of known_here.implicit p) (keeping_of known_here.implicit p) no_tracks (main_body p)

  -- The body's caller waits for what it keeps.
  abbrev pub KeepsFor : List Suspension → Type 0
  KeepsFor [] = Unit {0}
  KeepsFor (g ∷ gs) = g.kept ≡ kept_here

  awaited : (gs : List Suspension) → KeepsFor gs → AwaitsEnds (known_in program procedure gs) (rest_of gs) kept_here
  awaited [] same = record { ends = λ holds gives. tt; raises = λ e holds may keeps. tt; returns = λ holds gives. tt }
  awaited (g ∷ gs) same = record {
    ends = λ holds gives. (refl, refl, refl, gives);
    raises = λ e holds may keeps. (may, refl, rw same keeps);
    returns = λ holds gives. (refl, refl, refl, gives);
  }

  -- It runs, if it breaks no rule, no exit leads out of it, no suspended activation has an alias of what it may free, and its caller waits for what it
  -- keeps.
  pub body_runs : IsFine (body_flow p.types (effects_of known_here.implicit p) (keeping_of known_here.implicit p) no_tracks (main_body p)) → have_exit p.statements ≡ false → handlers_have_exit p.handlers ≡ false → Spares known_here (body_frees p.types (effects_of known_here.implicit p) (main_body p)) → KeepsFor gs → RunsOn known_here (Elaborates p.declarations p.statements p.handlers ∷ rest_of gs) (gone_with p.declarations ∷ []) (first_holds p.formals p.variables)
  body_runs fine none_out none_on spares same =
      any_body_runs known_here (rest_of gs) (first_holds p.formals p.variables) kept_here (λ way place at comes. (way, comes))
      (gives_and_keeps p.types (effects_of known_here.implicit p) (keeping_of known_here.implicit p) (main_body p) fine) none_out none_on spares (awaited gs same)

-- The main body has no caller, so no suspended activation has an alias.
pub none_suspended : (program : Program) (procedure : Option ℕ) → let known : Known = known_in program procedure [] in Spares known (body_frees known.program.types (effects_of known.implicit known.program) (main_body known.program))
none_suspended program procedure t is = (((λ d x e b. cc e), (λ o refers of. absurd refers)), is)

-- Behind a call no alias is left of what its procedure may free.
no_alias : (h : Hold) → Borrows (without_alias true h) → ⊥
no_alias hold.Null b = b
no_alias (hold.Kept r) b = b
no_alias (hold.Own r) b = b
no_alias (hold.Alias r) b = b
no_alias hold.Lost b = b

freed_aliases : (variables : List VariableForm) (may : ℕ → Bool) (holds : Holds) (x t : ℕ) → variable_access variables x ≡ Some t → may t ≡ true → Borrows (hold_at (without_freed variables may holds) x) → ⊥
freed_aliases [] may holds x t of is b = cc of
freed_aliases (v ∷ vs) may [] x t of is b = b
freed_aliases (v ∷ vs) may (h ∷ holds) zero t of is b = no_alias h (rw (of, is) at b)
freed_aliases (v ∷ vs) may (h ∷ holds) (suc x) t of is b = freed_aliases vs may holds x t of is b

-- Nor is one among what is handed over.
moved_borrows : (h : Hold) → Borrows (left_by_move h) → Borrows h
moved_borrows hold.Null b = b
moved_borrows (hold.Kept r) b = absurd b
moved_borrows (hold.Own r) b = absurd b
moved_borrows (hold.Alias r) b = b
moved_borrows hold.Lost b = b

unless_borrows : (keeps : Bool) (y : ℕ) (holds : Holds) (x : ℕ) → Borrows (hold_at (unless_kept keeps y holds) x) → Borrows (hold_at holds x)
unless_borrows true y holds x b = b
unless_borrows false y holds x b = go (same_or_not x y)
  where
    go : (x ≡ y) ⊎ (x ≢ y) → Borrows (hold_at holds x)
    go (inl e) = rw e (elim (read_same holds y (left_by_move (hold_at holds y)) hold.Lost) [ inl at ↦ moved_borrows (hold_at holds y) (rw (e, at) at b) | inr at ↦ absurd (rw (e, at) at b) ])
    go (inr ne) = rw (read_other holds y x (left_by_move (hold_at holds y)) hold.Lost ne) at b

pub unkept_borrows : (keeping : Keeping) (actuals : List ActualForm) (holds : Holds) (x : ℕ) → Borrows (hold_at (left_unkept keeping actuals holds) x) → Borrows (hold_at holds x)
unkept_borrows keeping [] holds x b = b
unkept_borrows keeping (in_value e ∷ rest) holds x b = unkept_borrows (others_kept keeping) rest holds x b
unkept_borrows keeping (in_null ∷ rest) holds x b = unkept_borrows (others_kept keeping) rest holds x b
unkept_borrows keeping (in_access path ∷ rest) holds x b = unkept_borrows (others_kept keeping) rest holds x b
unkept_borrows keeping (in_record p ∷ rest) holds x b = unkept_borrows (others_kept keeping) rest holds x b
unkept_borrows keeping (in_out_component path ∷ rest) holds x b = unkept_borrows (others_kept keeping) rest holds x b
unkept_borrows keeping (in_out_record p ∷ rest) holds x b = unkept_borrows (others_kept keeping) rest holds x b
unkept_borrows keeping (in_out_path path ∷ rest) holds x b = unkept_borrows (others_kept keeping) rest holds x b
unkept_borrows keeping (in_out_access path ∷ rest) holds x b =
    unless_borrows (first_kept keeping) path.root holds x (unkept_borrows (others_kept keeping) rest (unless_kept (first_kept keeping) path.root holds) x b)

-- Neither has a caller that waits, nor those before it, and an object of it to which the call refers is owned outside.
pub call_spares : (types : List TypeForm) (variables : List VariableForm) (effect : Option Effect) (actuals : List ActualForm) (places given : List Value) (referenced : List Reference) (holds : Holds) (outer : Outsiders) (t : ℕ) → call_frees effect t ≡ true → NoOuterAlias types outer t → (is_access types t ≡ true → (o : Id) → IsReferred referenced o t → IsOwnedOutside outer o) → NoOuterAlias types (record { given = given; suspended = record { variables = variables; places = places; holds = left_unkept [] actuals (left_by_call variables effect holds) } ∷ outer.suspended; referenced = referenced ++ outer.referenced; under = outer.under }) t
call_spares types variables effect actuals places given referenced holds outer t is none passed = (
  (λ d x of b. aliases effect is d x of b),
  (λ o refers of. owned_deeper (waiting effect) outer.suspended o (elim (referred_either referenced outer.referenced o t refers) [ inl here ↦ passed of o here | inr before ↦ none.1 o before of ])),
)
  where
    waiting : Option Effect → Outer
    waiting found = record { variables = variables; places = places; holds = left_unkept [] actuals (left_by_call variables found holds) }

    aliases : (found : Option Effect) → call_frees found t ≡ true → (d x : ℕ) → outer_access (slice_get (waiting found ∷ outer.suspended) d) x ≡ Some t → Borrows (outer_hold (slice_get (waiting found ∷ outer.suspended) d) x) → ⊥
    aliases None is' d x of b = cc is'
    aliases (Some found) is' zero x of b =
        freed_aliases variables found.frees holds x t of is' (unkept_borrows [] actuals (without_freed variables found.frees holds) x b)
    aliases (Some found) is' (suc d) x of b = none.0 d x of b
