-- The parts of a copy are adjusted, one after another (7.6), in a program: an Adjust that is overridden sees to the components of access types that its type
-- declares, or the type declares none.

use Rattle.std.proofs.Common.{◌≡◌, ◌≢◌, ℕ, true, List, [], ◌∷◌, ◌++◌, refl, sym, ap, subst, ◌∙◌}
use Rattle.std.specs.Prelude.{◌||◌, Option, Some}
use Rattle.std.specs.List.{list_any}
use Rattle.ada_parts.specs.Task.{Task, performs}
use Rattle.ada_program.specs.declared.program.ComponentKind.TheVariants as component
use Rattle.ada_program.specs.declared.program.PartKind.{PartKind}
use Rattle.ada_program.specs.declared.program.PartKind.TheVariants as part
use Rattle.ada_program.specs.declared.program.Program.{Program}
use Rattle.ada_program.specs.Controlled.{operations_of, procedure_number}
use Rattle.ada_program.specs.ProgramForm.{PartForm, ProgramForm, TypeForm, body_forms, program_form}
use Rattle.ada_program.specs.WellFormed.{IsWellFormed}
use Rattle.ada_flow.specs.Flow.{is_owning_part}
use Rattle.ada_flow.specs.Tracking.{access_numbers, number_within}
use Rattle.ada_meaning.specs.declared.event.Birth.TheVariants.{Creation, Copy, Adjustment}
use Rattle.ada_meaning.specs.declared.state.Id.{Id}
use Rattle.ada_meaning.specs.declared.state.Value.{Value}
use Rattle.ada_meaning.specs.Frame.{Treatment, begins, ends}
use Rattle.ada_meaning.specs.Named.{Object, State}
use Rattle.ada_meaning.specs.Run.{Event}
use Rattle.ada_meaning.specs.State.{Activation, Master}
use Rattle.ada_quiet.specs.InUse.{may_track}
use Rattle.ada_typed.proofs.Parts.{shown_parts}
use Rattle.ada_sound.proofs.Callers.{Suspension, known_in}
use Rattle.ada_sound.proofs.CopiedOwners.{CopyLeft, SeesToOwners, owners_numbered}
use Rattle.ada_sound.proofs.Invariant.{AdjustsTo, Control}
use Rattle.ada_sound.proofs.OnlyPlaces.{controlled_as_shown}
use Rattle.ada_sound.proofs.PartsApart.{called_sees, type_numbered}
use Rattle.ada_sound.proofs.QuietOperations.{AdjustsCopy, AdjustsOwn}
use Rattle.ada_sound.proofs.Returns.{same_types}
use Rattle.ada_sound.proofs.Sees.{adjust_overridden}
use Rattle.ada_sound.proofs.TracksAs.{own_sees}
use Rattle.ada_sound.proofs.Treatments.{Begins}

-- Of declared components of which one is of an access type, there are numbers.
pub some_numbers : (ps : List PartForm) → list_any (λ c. is_owning_part c.kind) ps ≡ true → access_numbers ps ≡ [] → ⊥
some_numbers [] is none = absurd (cc is)
some_numbers (p ∷ ps) is none = by (λ own nothing. some_numbers ps own nothing) p.kind is none
  where
    by : (list_any (λ c. is_owning_part c.kind) ps ≡ true → access_numbers ps ≡ [] → ⊥) → (kind : PartKind)
        → (is_owning_part kind || list_any (λ c. is_owning_part c.kind) ps) ≡ true → number_within p.first kind ++ access_numbers ps ≡ [] → ⊥
    by later (part.Elementary (component.Integer initial)) own nothing = later own nothing
    by later (part.Elementary (component.Boolean initial)) own nothing = later own nothing
    by later (part.Elementary (component.Access access)) own nothing = cc nothing
    by later (part.Record t) own nothing = later own nothing
    by later part.Parent own nothing = later own nothing

module _ (program : Program) (well : IsWellFormed (program_form program)) where
  abbrev p : ProgramForm
  p = program_form program

  -- The operation that is called next for a copy sees to the components of access types that its type declares.
  pub next_sees :
      (types : List TypeForm) → types ≡ p.types → (access r of part : ℕ) (tasks : List Task) → CopyLeft types access r (performs of part ∷ tasks)
      → owners_numbered types of ≢ [] → (u : ℕ) × SeesToOwners p.types u of
  next_sees types same access r of part tasks left owns = called_sees program well access r of part tasks (rw same at left) (rw same at owns)

  pub next_overrides :
      (procedure : Option ℕ) (gs : List Suspension) (v : Value) (k : Control) (heap : List Object) (places : List Value) (ms : List Master) (of part : ℕ)
      (tasks : List Task) → AdjustsTo (known_in program procedure gs) v (performs of part ∷ tasks) k heap places ms
      → owners_numbered (known_in program procedure gs).program.types of ≢ []
      → (number : ℕ) × (procedure_number (operations_of program.types.items of).adjust ≡ Some number)
  next_overrides procedure gs v k heap places ms of part tasks to owns =
      let sees = next_sees (known_in program procedure gs).program.types (same_types procedure p) to.x.cell.access to.record_type of part tasks to.left owns in
      adjust_overridden program procedure well sees.0 of (subst (λ (types : List TypeForm). SeesToOwners types sees.0 of) (sym (same_types procedure p)) sees.1)

  module _ (may : may_track p ≡ true) where
    -- A type whose own Adjust sees to its components declares some of access types.
    pub own_owners : (of number : ℕ) → AdjustsOwn p.types of number → owners_numbered p.types of ≢ []
    own_owners of number own none =
        let sees = own_sees program well may of number own in
        let c = controlled_as_shown p.types well.types_fit own.record_type of sees.numbered sees.controlled in
        let form = type_numbered program well own.record_type of c sees.numbered ∙ sees.at in
        some_numbers sees.parts sees.declares (sym (ap (λ (o : Option TypeForm). access_numbers (shown_parts o)) form) ∙ none)

    -- Where the body of an Adjust begins whose type declares none, it sees to none.
    pub sees_to_none :
        (a : Activation Value) (rest : List (Activation Value)) (s : State) (gs : List Suspension) (k : Control) (IsOperated : Treatment → Id → ℕ → Type 0)
        (e : Event) (after : State) (c : Begins (known_in program a.procedure gs) a rest s program.types.items (body_forms program) k IsOperated e after)
        → AdjustsCopy c.treatment → AdjustsOwn p.types c.of c.number → ⊥
    sees_to_none a rest s gs k IsOperated e after c copies own =
        own_owners c.of c.number own (rw (same_types a.procedure p) at (by c.treatment refl copies))
      where
        by : (treatment : Treatment) → c.treatment ≡ treatment → AdjustsCopy treatment → owners_numbered (known_in program a.procedure gs).program.types c.of ≡ []
        by (begins Creation done) is adjusts = absurd adjusts
        by (begins Copy done) is adjusts = c.plain Copy done is tt
        by (begins (Adjustment number) done) is adjusts = c.plain (Adjustment number) done is tt
        by (ends cause) is adjusts = absurd adjusts
