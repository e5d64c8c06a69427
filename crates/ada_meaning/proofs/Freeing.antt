-- Which objects are freed.

use Rattle.std.proofs.Common.{◌≡◌, inl, inr, ℕ, zero, suc, ◌+◌, ◌<◌, Bool, true, false, ◌==◌, if◌then◌else◌, List, [], ◌∷◌, Option, Some, refl, sym, ap, ◌∙◌, arith}
use Rattle.std.specs.Prelude.{◌&&◌}
use Rattle.std.specs.List.{slice_get, slice_index_or}
use Rattle.std.proofs.lemmas.Bool.{ne_eqb}
use Rattle.std.proofs.lemmas.Option.{get_or_from_slice_get}
use Rattle.ada_program.specs.declared.program.Program.{Program}
use Rattle.ada_program.specs.declared.program.TypeDefinition.{TypeDefinition}
use Rattle.ada_program.specs.Form.{PathForm, StmtsForm, a_stmt, frees}
use Rattle.ada_program.specs.ProgramForm.{BodyForm, body_forms}
use Rattle.ada_parts.specs.declared.tasks.Direction.TheVariants.{WholeFirst}
use Rattle.ada_meaning.specs.declared.event.Cause.TheVariants.{Freeing}
use Rattle.ada_meaning.specs.declared.event.Halt.TheVariants.{Erroneous}
use Rattle.ada_meaning.specs.declared.event.Why.{Why}
use Rattle.ada_meaning.specs.declared.event.Why.TheVariants.{EndsTwice, GivesElsewhere, FinalizesTwice}
use Rattle.ada_meaning.specs.declared.state.Id.{Id}
use Rattle.ada_meaning.specs.declared.state.Mode.TheVariants.{Running}
use Rattle.ada_meaning.specs.declared.state.Value.{Value}
use Rattle.ada_meaning.specs.declared.state.Value.TheVariants.{Null, Names}
use Rattle.ada_meaning.specs.Frame.{Frame, ends}
use Rattle.ada_meaning.specs.Frame as frame
use Rattle.ada_meaning.specs.Heap.{PartState, Cell, Found, on_gone, finds}
use Rattle.ada_meaning.specs.State.{Activation, home_of, pool_freed_to}
use Rattle.ada_meaning.specs.Step.{halts, moves, at, all_tasks, parts_held, treating, same_pool, ends_again, freeing, freeing_next, free_next, freed_next, free_component_next, free_in_next}
use Rattle.ada_meaning.specs.Named.{Object, State, Next, named, next, look, standing, standing_by, all_alive, object_at, parted}
use Rattle.ada_meaning.specs.Run.{Event}
use Rattle.ada_meaning.specs.Operations.{OneChanges, ComesToFree, of_variable, of_component, IsNotWhole, FreesOnce, FreesToItsPool, FreesFinalize}
use Rattle.ada_meaning.proofs.Operations.{makes, look_exists, changes_alone}
use Rattle.ada_meaning.proofs.Undoing.{same_self, same_apart}

module _ (types : List TypeDefinition) (bodies : List BodyForm) (access : ℕ) (s : State) where
  variable_step :
      (path : PathForm) (later : StmtsForm) (outer : List (Frame Value)) (running : Activation Value) (suspended : List (Activation Value))
      → s.mode ≡ Running → s.control ≡ frame.Does (a_stmt (frees access path) later) ∷ outer → s.activations ≡ running ∷ suspended → path.selectors ≡ []
      → next types bodies s
      ≡ free_next named types access path.root (slice_index_or running.places path.root Null) (standing s.heap (slice_index_or running.places path.root Null))
      (record s { control = frame.Does later ∷ outer; activations = running ∷ suspended })
  unfolding next
  variable_step path later outer running suspended runs is active alone = rw (runs, is, active, alone) refl

  component_step :
      (p : Id) (c : ℕ) (outer : List (Frame Value)) (procedure : Option ℕ) (places pending : List Value) (suspended : List (Activation Value))
      → s.mode ≡ Running → s.control ≡ frame.FreesIn access c ∷ outer
      → s.activations ≡ record { procedure = procedure; places = places; operands = Names p ∷ pending } ∷ suspended
      → next types bodies s
      ≡ free_in_next named types access (Names p) c (look s.heap (Names p))
      (record s { control = outer; activations = record { procedure = procedure; places = places; operands = pending } ∷ suspended })
  unfolding next
  component_step p c outer procedure places pending suspended runs is active = rw (runs, is, active) refl

  -- The state that a Free leaves, and what is found where its object is looked for decides what comes next.
  abbrev left_so : List (Frame Value) → List (Activation Value) → State
  left_so behind activations = record s { control = behind; activations = activations }

  record Frees (o : Id) (shown : Event) (clears : Frame Value) (behind : List (Frame Value)) (activations : List (Activation Value)) : Type 0 where
    gone : standing s.heap (Names o) ≡ on_gone → next types bodies s ≡ halts (Erroneous (ends_again named types access))
    found :
        (cell : Cell Value) → standing s.heap (Names o) ≡ finds cell
        → next types bodies s ≡ freeing_next named types access (Names o) cell clears shown (left_so behind activations)

  frees_so :
      {o : Id} {shown : Event} {clears : Frame Value} {behind : List (Frame Value)} {activations : List (Activation Value)}
      → ComesToFree access o s shown clears behind activations → Frees o shown clears behind activations
  frees_so {o} (of_variable path later outer running suspended runs is active alone held) =
      record { gone = λ is_gone. step ∙ ap coming is_gone; found = λ cell finds_it. step ∙ ap coming finds_it }
    where
      coming : Found (Cell Value) → Next
      coming found = free_next named types access path.root (Names o) found (left_so (frame.Does later ∷ outer) s.activations)

      step : next types bodies s ≡ coming (standing s.heap (Names o))
      step =
          variable_step path later outer running suspended runs is active alone
          ∙ ap (λ (v : Value). free_next named types access path.root v (standing s.heap v) (left_so (frame.Does later ∷ outer) (running ∷ suspended)))
          (get_or_from_slice_get running.places path.root (Names o) Null held)
          ∙ ap (λ (xs : List (Activation Value)). free_next named types access path.root (Names o) (standing s.heap (Names o)) (left_so (frame.Does later ∷ outer) xs))
          (sym active)
  frees_so {o} (of_component p holder c outer procedure places pending suspended runs is active there exists held) =
      record { gone = λ is_gone. step ∙ ap coming is_gone; found = λ cell finds_it. step ∙ ap coming finds_it }
    where
      ready : State
      ready = left_so outer (record { procedure = procedure; places = places; operands = pending } ∷ suspended)

      coming : Found (Cell Value) → Next
      coming found = freed_next named types access (Names p) c (Names o) found ready

      step : next types bodies s ≡ coming (standing s.heap (Names o))
      step =
          component_step p c outer procedure places pending suspended runs is active
          ∙ ap (λ (found : Found (Cell Value)). free_in_next named types access (Names p) c found ready) (look_exists s.heap p holder there exists)
          ∙ ap (λ (v : Option Value). free_component_next named types access (Names p) c v ready) held

-- Whether each part of an object has a value.
not_all : (parts : List PartState) (part : ℕ) (state : PartState) → slice_get parts part ≡ Some state → state.alive ≡ false → all_alive parts ≡ false
not_all [] part state at ended = absurd (cc)
not_all (p ∷ ps) zero state at ended = let same : p ≡ state = cc in rw (same, ended) refl
not_all (p ∷ ps) (suc part) state at ended = neither p.alive (not_all ps part state at ended)
  where
    neither : (b : Bool) → all_alive ps ≡ false → (b && all_alive ps) ≡ false
    neither true none = none
    neither false none = refl

all_so : (parts : List PartState) → ((part : ℕ) (state : PartState) → slice_get parts part ≡ Some state → state.alive ≡ false → ⊥) → all_alive parts ≡ true
all_so [] each = refl
all_so (p ∷ ps) each = go p.alive refl (all_so ps (λ part state at ended. each (suc part) state at ended))
  where
    go : (b : Bool) → p.alive ≡ b → all_alive ps ≡ true → (b && all_alive ps) ≡ true
    go true is others = others
    go false is others = absurd (each 0 p refl is)

-- So whether an object is whole.
module _ (xs : List Object) (o : Id) (object : Object) (there : object_at xs o ≡ Some object) where
  abbrev found_by : (listed alive : Bool) → Found (Cell Value)
  found_by listed alive = if listed && alive then finds object.cell else on_gone

  standing_so : (listed alive : Bool) → object.listed ≡ listed → all_alive object.cell.parts ≡ alive → standing xs (Names o) ≡ found_by listed alive
  standing_so listed alive is_listed is_alive =
      ap standing_by there ∙ ap (λ (b : Bool). found_by b (all_alive object.cell.parts)) is_listed ∙ ap (λ (b : Bool). found_by listed b) is_alive

  not_whole : IsNotWhole object → standing xs (Names o) ≡ on_gone
  not_whole (inl unlisted) = standing_so false (all_alive object.cell.parts) unlisted refl
  not_whole (inr (part, state, at, ended)) =
      standing_so object.listed false refl (not_all object.cell.parts part state at ended) ∙ neither object.listed
    where
      neither : (b : Bool) → found_by b false ≡ on_gone
      neither true = refl
      neither false = refl

  whole : (IsNotWhole object → ⊥) → standing xs (Names o) ≡ finds object.cell
  whole is = go object.listed refl
    where
      go : (b : Bool) → object.listed ≡ b → standing xs (Names o) ≡ finds object.cell
      go true listed = standing_so true true listed (all_so object.cell.parts (λ part state at ended. is (inr (part, state, at, ended))))
      go false unlisted = absurd (is (inl unlisted))

-- Why a Free is erroneous.
again_without : (types : List TypeDefinition) (access : ℕ) → parts_held types access ≡ 0 → ends_again named types access ≡ EndsTwice
again_without types access none = ap (λ (n : ℕ). if n == 0 then EndsTwice else FinalizesTwice) none

again_with : (types : List TypeDefinition) (access : ℕ) → 0 < parts_held types access → ends_again named types access ≡ FinalizesTwice
again_with types access some =
    ap (λ (b : Bool). if b then EndsTwice else FinalizesTwice) (ne_eqb (parts_held types access) 0 (λ none. absurd (omega (arith, some, none))))

pub frees_once : FreesOnce
frees_once program access o object shown clears behind activations before c there is =
    let types = program.types.items in
    let bodies = body_forms program in
    let halts_so : next types bodies before ≡ halts (Erroneous (ends_again named types access)) =
    (frees_so types bodies access before c).gone (not_whole before.heap o object there is) in (
      λ none. halts_so ∙ ap (λ (why : Why). halts (Erroneous why)) (again_without types access none),
      λ some. halts_so ∙ ap (λ (why : Why). halts (Erroneous why)) (again_with types access some),
    )

-- A Free of a whole object, as it is of the pool of the access type, or is not.
freed_by :
    (program : Program) (access : ℕ) (o : Id) (object : Object) (shown : Event) (clears : Frame Value) (behind : List (Frame Value))
    (activations : List (Activation Value)) (before : State) (own : Bool)
    → ComesToFree access o before shown clears behind activations → object_at before.heap o ≡ Some object → (IsNotWhole object → ⊥)
    → same_pool (Some (pool_freed_to (home_of access before.masters))) object.cell.home.pool ≡ own
    → next program.types.items (body_forms program) before
    ≡ (if own
    then moves shown (freeing named program.types.items access (Names o) object.cell clears (record before { control = behind; activations = activations }))
    else halts (Erroneous GivesElsewhere))
freed_by program access o object shown clears behind activations before own c there is is_own =
    (frees_so program.types.items (body_forms program) access before c).found object.cell (whole before.heap o object there is)
    ∙ ap (λ (b : Bool). if b
    then moves shown (freeing named program.types.items access (Names o) object.cell clears (record before { control = behind; activations = activations }))
    else halts (Erroneous GivesElsewhere)) is_own

pub frees_to_its_pool : FreesToItsPool
frees_to_its_pool program access o object shown clears behind activations before c there is apart =
    freed_by program access o object shown clears behind activations before false c there is
    (same_apart (Some (pool_freed_to (home_of access before.masters))) object.cell.home.pool (λ same. apart (sym same)))

pub frees_finalize : FreesFinalize
frees_finalize program access o object shown clears behind activations before c there is home =
    makes program before known shown HasFreed (changes_alone parted before.heap o object there, rest_so) comes_so
  where
    types : List TypeDefinition
    types = program.types.items

    pool : Option ℕ
    pool = Some (pool_freed_to (home_of access before.masters))

    known : State
    known = freeing named types access (Names o) object.cell clears (record before { control = behind; activations = activations })

    left : (to : Option ℕ) → List (Frame Value)
    left to =
        treating (Names o) (ends (Freeing before.next)) (all_tasks types object.cell.access WholeFirst)
        (frame.Ends (Names o) ∷ frame.GivesBack (Names o) (Freeing before.next) to ∷ clears ∷ behind)

    HasFreed : State → Type 0
    HasFreed after =
        OneChanges before.heap after.heap o (record object { listed = false })
        × (after ≡ record before { heap = after.heap; next = suc before.next; activations = activations; control = left object.cell.home.pool })

    counted_so : before.next + 1 ≡ suc before.next
    counted_so = omega arith

    rest_so : known ≡ record before { heap = known.heap; next = suc before.next; activations = activations; control = left object.cell.home.pool }
    rest_so =
        ap (λ (n : ℕ). record known { next = n }) counted_so
        ∙ ap (λ (to : Option ℕ). record known { next = suc before.next; control = left to }) (sym home)

    comes_so : next types (body_forms program) before ≡ moves shown known
    comes_so =
        freed_by program access o object shown clears behind activations before true c there is
        (ap (λ (to : Option ℕ). same_pool pool to) home ∙ same_self pool)
