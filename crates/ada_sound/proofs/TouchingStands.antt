-- What the laws of finalization say while the body of an operation runs that touches storage (7.6, 7.6.1), or one in front of it: of the objects that stand,
-- and of those that are treated. None of those is freed meanwhile (13.11.2): what is finalized is of no type that is freed, and what is initialized is owned outside
-- of the body that frees.

use Rattle.std.proofs.Common.{◌≡◌, ℕ, suc, Bool, true, false, if◌then◌else◌, List, [], ◌∷◌, ◌++◌, length, refl, sym, ap, ◌∙◌, subst, ◌⊎◌, inl, inr, ◌≢◌, Option, Some, None, slice_get, ◌==◌}
use Rattle.std.proofs.lemmas.Bool.{and_parts, false_from_ne_true}
use Rattle.ada_deeds.specs.Implicit.{implicit_of}
use Rattle.ada_program.specs.declared.program.Program.{Program}
use Rattle.ada_program.specs.declared.program.TypeDefinition.{TypeDefinition}
use Rattle.ada_program.specs.ProgramForm.{TypeForm, BodyForm, ProgramForm, program_form, body_forms, seen_in}
use Rattle.ada_program.specs.WellFormed.{is_access}
use Rattle.ada_flow.specs.Flow.{Holds}
use Rattle.ada_flow.specs.Tracking.{no_tracks}
use Rattle.ada_parts.specs.declared.tasks.Next.{Next as NextTask}
use Rattle.ada_parts.specs.declared.tasks.Next.TheVariants.{Done, Pick, Perform}
use Rattle.ada_parts.specs.Part as parts
use Rattle.ada_parts.specs.Task.{Task, performed, next as task_next}
use Rattle.ada_program.specs.Controlled.{operations_of, shapes_of}
use Rattle.ada_program.specs.Form.{ActualForm}
use Rattle.ada_assigned.specs.Law.{RunsAlone}
use Rattle.ada_finalized.specs.Law.{NothingBegins, NoOperationRuns, NoOperationRunsOn, finalized_before}
use Rattle.ada_meaning.specs.declared.event.Cause.TheVariants.{Leaving, Freeing, Assigning, Undoing}
use Rattle.ada_meaning.specs.declared.event.Birth.{Birth}
use Rattle.ada_meaning.specs.declared.event.Birth.TheVariants.{Creation, Copy, Adjustment}
use Rattle.ada_meaning.specs.declared.event.Cause.{Cause}
use Rattle.ada_meaning.specs.Event.{Quiet}
use Rattle.ada_meaning.specs.declared.event.Halt.TheVariants.{Erroneous, Stuck}
use Rattle.ada_meaning.specs.declared.event.Why.TheVariants.{FinalizesTwice}
use Rattle.ada_meaning.specs.declared.state.Id.{Id}
use Rattle.ada_meaning.specs.declared.state.Mode.{Mode}
use Rattle.ada_meaning.specs.declared.state.Stage.{Stage}
use Rattle.ada_meaning.specs.declared.state.Stage.TheVariants.{Building, Existing, Gone}
use Rattle.ada_owners.specs.Places.{is_there}
use Rattle.ada_meaning.specs.declared.state.Mode.TheVariants.{Running, Raising, Exiting, Returning}
use Rattle.ada_meaning.specs.declared.state.Value.{Value}
use Rattle.ada_meaning.specs.declared.state.Value.TheVariants.{Names}
use Rattle.ada_meaning.specs.Heap.{Home, Cell, Found, on_null, on_gone, on_other, finds, PartState}
use Rattle.ada_meaning.specs.Frame.{Frame, ends, Treatment, begins}
use Rattle.ada_meaning.specs.Frame as frame
use Rattle.ada_meaning.specs.State.{Master}
use Rattle.ada_meaning.specs.Step.{beginning, begun_next, direction_of, halts, operands, operation_next, part_reference, performed_next, picked_task, picks, places, treated_on, treating, treats_next}
use Rattle.ada_meaning.specs.Named.{State, Object, existing, look, named, object_at, next, seen}
use Rattle.ada_meaning.specs.Run.{Halts}
use Rattle.ada_typed.proofs.Bodies.{own_bodies}
use Rattle.ada_typed.proofs.Kept.{behind_call}
use Rattle.ada_sound.specs.Agreement.{running_procedure}
use Rattle.ada_sound.specs.Always.{SparesOwn}
use Rattle.ada_sound.proofs.BegunOutside.{begun_outside, owned_behind, owned_further}
use Rattle.ada_sound.proofs.Below.{either_one}
use Rattle.ada_sound.proofs.Callers.{Suspension, caller_of, callers_of, covers_plainly, known_in, none_under, waits_plainly, Stands}
use Rattle.ada_scopes.specs.Scopes.{is_innermost}
use Rattle.ada_sound.proofs.Fits.{IsOwnedAmong, IsOwnedOutside, IsReferred, Outsiders, Reference, referred_behind, referred_first}
use Rattle.ada_sound.proofs.FreesCovered.{frees_among}
use Rattle.ada_sound.proofs.Allowance.{Allowance, allowance_of}
use Rattle.ada_sound.proofs.FrugalControl.{Frugal, FrugalBegins, FrugalLeads, FrugalLeaves, FrugalOperated, IsAssigned, begins_first, none_operated, operated_in, own_in, waits_first, replaced_in, replacing_in, IsEnded, IsLeft}
use Rattle.ada_sound.proofs.FrugalFrees.{LeftAlone}
use Rattle.ada_sound.proofs.Leavings.{NamedBelow}
use Rattle.ada_sound.proofs.Grounds.{Grounds, may_free}
use Rattle.ada_sound.proofs.Homes.{NoneIsUnder}
use Rattle.ada_sound.proofs.Invariant.{AllWait, Control, CoveredIn, Known, Ready, ReadyIn, Rooms, outer_in, outers, referenced_in, under_in, waits_covers}
use Rattle.ada_sound.proofs.Operating.{IsCalm, WaitsFor}
use Rattle.ada_sound.proofs.Returns.{same_types}
use Rattle.ada_sound.proofs.SparesOwn.{spares_end}
use Rattle.ada_sound.proofs.Standing.{AllStand, FinalizesBy, FinalizesIn, FreesAmong}
use Rattle.ada_sound.proofs.Stored.{IsUnder, listed_out}
use Rattle.ada_sound.proofs.Touching.{AreInner, CoversBy, IsOperation, Pause, Rests, RestsAsOwned, RestsAtEnd, RestsBy, StoresInto, Watch, Within, operated_among, origin, under_way}
use Rattle.ada_sound.proofs.TouchingRests.{IsEnd}

-- A value is one of these.
abbrev pub IsAmong : Value → List Value → Type 0
IsAmong v [] = ⊥
IsAmong v (w ∷ ws) = (v ≡ w) ⊎ IsAmong v ws

-- So it is with more in front.
pub later_among : (v : Value) (vs ws : List Value) → IsAmong v ws → IsAmong v (vs ++ ws)
later_among v [] ws later = later
later_among v (w ∷ vs) ws later = inr (later_among v vs ws later)

module _ (frugal : Allowance) where
  mutual
    -- In front of the end of a frugal body, nothing begins but the objects whose operations run inside: what is treated there is finalized.
    leads_begin :
        (v : Value) (behind : Control) (among : List Value) (k : Control) (ms : List Master) → (IsAmong v among → ⊥) → NothingBegins v behind
        → FrugalLeads frugal behind among k ms → NothingBegins v k
    leads_begin v behind among [] ms apart none q = absurd q
    leads_begin v behind among (frame.Returns actuals references ∷ k) ms apart none (inl q) = subst (NothingBegins v) (sym q.2) none
    leads_begin v behind among (frame.Returns actuals references ∷ k) ms apart none (inr (inl q)) = leads_begin v behind among k ms apart none q
    leads_begin v behind among (frame.Returns actuals references ∷ k) ms apart none (inr (inr q)) = operated_begin v behind among k ms apart none q
    leads_begin v behind among (frame.Elaborates ds fs hs ∷ k) [] apart none q = absurd q
    leads_begin v behind among (frame.Elaborates ds fs hs ∷ k) (m ∷ ms) apart none q = leads_begin v behind among k ms apart none q.1
    leads_begin v behind among (frame.Closes ∷ k) [] apart none q = absurd q
    leads_begin v behind among (frame.Closes ∷ k) (m ∷ ms) apart none q = leads_begin v behind among k ms apart none q.1
    leads_begin v behind among (frame.Declares x ∷ k) [] apart none q = absurd q
    leads_begin v behind among (frame.Declares x ∷ k) (m ∷ ms) apart none q = leads_begin v behind among k (m ∷ ms) apart none q.1
    leads_begin v behind among (frame.DeclaresRecord x t ∷ k) [] apart none q = absurd q
    leads_begin v behind among (frame.DeclaresRecord x t ∷ k) (m ∷ ms) apart none q = leads_begin v behind among k (m ∷ ms) apart none q.1
    leads_begin v behind among (frame.Treats w (begins by done) tasks ∷ k) ms apart none q = absurd q.0.0
    leads_begin v behind among (frame.Treats w (ends cause) tasks ∷ k) ms apart none q = leads_begin v behind among k ms apart none q.1
    leads_begin v behind among (frame.Awaits w by done of part tasks ∷ k) ms apart none q = absurd q.0
    leads_begin v behind among (f ∷ k) ms apart none q = leads_begin v behind among k ms apart none q.1

    -- So it is while a master is left.
    leaves_begin :
        (v : Value) (behind : Control) (among : List Value) (k : Control) (ms : List Master) → (IsAmong v among → ⊥) → NothingBegins v behind
        → FrugalLeaves frugal behind among k ms → NothingBegins v k
    leaves_begin v behind among [] ms apart none q = absurd q
    leaves_begin v behind among (frame.Leaves left ∷ k) [] apart none q = absurd q
    leaves_begin v behind among (frame.Leaves left ∷ k) (m ∷ ms) apart none q = leads_begin v behind among k ms apart none q.1
    leaves_begin v behind among (frame.Ends w ∷ k) ms apart none q = leaves_begin v behind among k ms apart none q
    leaves_begin v behind among (frame.GivesBack w cause pool ∷ k) ms apart none q = leaves_begin v behind among k ms apart none q
    leaves_begin v behind among (frame.Treats w (begins by done) tasks ∷ k) ms apart none q = absurd q.0.0
    leaves_begin v behind among (frame.Treats w (ends cause) tasks ∷ k) ms apart none q = leaves_begin v behind among k ms apart none q.1
    leaves_begin v behind among (frame.Confines ∷ k) ms apart none q = leaves_begin v behind among k ms apart none q.1
    leaves_begin v behind among (f ∷ k) ms apart none q = absurd q

    operated_begin :
        (v : Value) (behind : Control) (among : List Value) (k : Control) (ms : List Master) → (IsAmong v among → ⊥) → NothingBegins v behind
        → FrugalOperated frugal behind among k ms → NothingBegins v k
    operated_begin v behind among [] ms apart none q = absurd q
    operated_begin v behind among (frame.Confines ∷ k) ms apart none (vs, is, inl (ending, q)) =
        leads_begin v behind vs k ms (λ later. apart (subst (IsAmong v) (sym is) (inr later))) none q
    operated_begin v behind among (frame.Confines ∷ k) ms apart none (vs, is, inr (inr (ending, q))) =
        replaces_begin v behind vs k ms (λ same. apart (subst (IsAmong v) (sym is) (inl (same ∙ ending.1)))) (λ later. apart (subst (IsAmong v) (sym is) (inr later))) none q
    operated_begin v behind among (frame.Confines ∷ k) ms apart none (vs, is, inr (inl (ending, q))) =
        leaves_begin v behind vs k ms (λ later. apart (subst (IsAmong v) (sym is) (inr later))) none q
    operated_begin v behind among (frame.Awaits w by done of part tasks ∷ k) ms apart none (vs, is, beginning, q) = (
      (λ same. apart (subst (IsAmong v) (sym is) (inl (sym same)))),
      leads_begin v behind vs k ms (λ later. apart (subst (IsAmong v) (sym is) (inr later))) none q,
    )
    operated_begin v behind among (f ∷ k) ms apart none q = absurd q

    -- And where a record of another object is assigned to.
    replaces_begin :
        (v : Value) (behind : Control) (among : List Value) (k : Control) (ms : List Master) → (v ≡ replaced_in k → ⊥) → (IsAmong v among → ⊥) → NothingBegins v behind
        → FrugalBegins frugal behind among k ms → NothingBegins v k
    replaces_begin v behind among [] ms other apart none q = absurd q
    replaces_begin v behind among (frame.Treats w (begins by done) tasks ∷ k) ms other apart none q = ((λ same. other (sym same)), leads_begin v behind among k ms apart none q.1)
    replaces_begin v behind among (frame.Treats w (ends cause) tasks ∷ k) ms other apart none q =
        replaces_begin v behind among k ms (λ same. other (same ∙ replacing_in w k q.0.2.1)) apart none q.1
    replaces_begin v behind among (frame.Awaits w by done of part tasks ∷ k) ms other apart none q = ((λ same. other (sym same)), leads_begin v behind among k ms apart none q.1)
    replaces_begin v behind among (frame.Copies first t ∷ k) ms other apart none q = replaces_begin v behind among k ms other apart none q
    replaces_begin v behind among (frame.StoresRecord w first count ∷ k) ms other apart none (inl (same, q)) =
        replaces_begin v behind among k ms (λ is. other (is ∙ same)) apart none q
    replaces_begin v behind among (frame.StoresRecord w first count ∷ k) ms other apart none (inr q) = leads_begin v behind among k ms apart none q
    replaces_begin v behind among (frame.Confines ∷ k) ms other apart none q = replaces_begin v behind among k ms other apart none q.1
    replaces_begin v behind among (f ∷ k) ms other apart none q = absurd q

  -- So it is where a record is assigned to, of which nothing is adjusted.
  begins_begin :
      (v : Value) (behind : Control) (among : List Value) (k : Control) (ms : List Master) → begins_first k ≡ false → (IsAmong v among → ⊥)
      → NothingBegins v behind → FrugalBegins frugal behind among k ms → NothingBegins v k
  begins_begin v behind among [] ms other apart none q = absurd q
  begins_begin v behind among (frame.Treats w (begins by done) tasks ∷ k) ms other apart none q = absurd (cc other)
  begins_begin v behind among (frame.Treats w (ends cause) tasks ∷ k) ms other apart none q = begins_begin v behind among k ms other apart none q.1
  begins_begin v behind among (frame.Awaits w by done of part tasks ∷ k) ms other apart none q = absurd (cc other)
  begins_begin v behind among (frame.Copies first t ∷ k) ms other apart none q = begins_begin v behind among k ms other apart none q
  begins_begin v behind among (frame.StoresRecord w first count ∷ k) ms other apart none (inl (same, q)) = begins_begin v behind among k ms other apart none q
  begins_begin v behind among (frame.StoresRecord w first count ∷ k) ms other apart none (inr q) = leads_begin v behind among k ms apart none q
  begins_begin v behind among (frame.Confines ∷ k) ms other apart none q = begins_begin v behind among k ms other apart none q.1
  begins_begin v behind among (f ∷ k) ms other apart none q = absurd q

  frugal_begin :
      (v : Value) (behind : Control) (among : List Value) (mode : Mode) (k : Control) (ms : List Master) → begins_first k ≡ false → (IsAmong v among → ⊥)
      → NothingBegins v behind → Frugal frugal behind among mode k ms → NothingBegins v k
  frugal_begin v behind among mode k ms other apart none (inl q) = leads_begin v behind among k ms apart none q
  frugal_begin v behind among mode k ms other apart none (inr (inl leaving)) = leaves_begin v behind among k ms apart none leaving.1
  frugal_begin v behind among mode k ms other apart none (inr (inr beginning)) = begins_begin v behind among k ms other apart none beginning.1

  mutual
    -- Where no operation of an object runs, none does behind that end.
    leads_alone :
        (v : Value) (behind : Control) (among : List Value) (k : Control) (ms : List Master) → NoOperationRunsOn v k → FrugalLeads frugal behind among k ms
        → NoOperationRunsOn v behind
    leads_alone v behind among [] ms none q = absurd q
    leads_alone v behind among (frame.Returns actuals references ∷ k) ms none (inl q) = subst (NoOperationRunsOn v) q.2 none
    leads_alone v behind among (frame.Returns actuals references ∷ k) ms none (inr (inl q)) = leads_alone v behind among k ms none q
    leads_alone v behind among (frame.Returns actuals references ∷ k) ms none (inr (inr q)) = operated_alone v behind among k ms none q
    leads_alone v behind among (frame.Elaborates ds fs hs ∷ k) [] none q = absurd q
    leads_alone v behind among (frame.Elaborates ds fs hs ∷ k) (m ∷ ms) none q = leads_alone v behind among k ms none q.1
    leads_alone v behind among (frame.Closes ∷ k) [] none q = absurd q
    leads_alone v behind among (frame.Closes ∷ k) (m ∷ ms) none q = leads_alone v behind among k ms none q.1
    leads_alone v behind among (frame.Declares x ∷ k) [] none q = absurd q
    leads_alone v behind among (frame.Declares x ∷ k) (m ∷ ms) none q = leads_alone v behind among k (m ∷ ms) none q.1
    leads_alone v behind among (frame.DeclaresRecord x t ∷ k) [] none q = absurd q
    leads_alone v behind among (frame.DeclaresRecord x t ∷ k) (m ∷ ms) none q = leads_alone v behind among k (m ∷ ms) none q.1
    leads_alone v behind among (frame.Awaits w by done of part tasks ∷ k) ms none q = absurd q.0
    leads_alone v behind among (frame.Confines ∷ k) ms none q = leads_alone v behind among k ms none.1 q.1
    leads_alone v behind among (f ∷ k) ms none q = leads_alone v behind among k ms none q.1

    leaves_alone :
        (v : Value) (behind : Control) (among : List Value) (k : Control) (ms : List Master) → NoOperationRunsOn v k → FrugalLeaves frugal behind among k ms
        → NoOperationRunsOn v behind
    leaves_alone v behind among [] ms none q = absurd q
    leaves_alone v behind among (frame.Leaves left ∷ k) [] none q = absurd q
    leaves_alone v behind among (frame.Leaves left ∷ k) (m ∷ ms) none q = leads_alone v behind among k ms none q.1
    leaves_alone v behind among (frame.Ends w ∷ k) ms none q = leaves_alone v behind among k ms none q
    leaves_alone v behind among (frame.GivesBack w cause pool ∷ k) ms none q = leaves_alone v behind among k ms none q
    leaves_alone v behind among (frame.Treats w treatment tasks ∷ k) ms none q = leaves_alone v behind among k ms none q.1
    leaves_alone v behind among (frame.Confines ∷ k) ms none q = leaves_alone v behind among k ms none.1 q.1
    leaves_alone v behind among (f ∷ k) ms none q = absurd q

    operated_alone :
        (v : Value) (behind : Control) (among : List Value) (k : Control) (ms : List Master) → NoOperationRunsOn v k
        → FrugalOperated frugal behind among k ms → NoOperationRunsOn v behind
    operated_alone v behind among [] ms none q = absurd q
    operated_alone v behind among (frame.Confines ∷ k) ms none (vs, is, inl (ending, q)) = leads_alone v behind vs k ms none.1 q
    operated_alone v behind among (frame.Confines ∷ k) ms none (vs, is, inr (inl (ending, q))) = leaves_alone v behind vs k ms none.1 q
    operated_alone v behind among (frame.Confines ∷ k) ms none (vs, is, inr (inr (ending, q))) = begins_alone v behind vs k ms none.1 q
    operated_alone v behind among (frame.Awaits w by done of part tasks ∷ k) ms none (vs, is, beginning, q) = leads_alone v behind vs k ms none.1 q
    operated_alone v behind among (f ∷ k) ms none q = absurd q

    begins_alone :
        (v : Value) (behind : Control) (among : List Value) (k : Control) (ms : List Master) → NoOperationRunsOn v k → FrugalBegins frugal behind among k ms
        → NoOperationRunsOn v behind
    begins_alone v behind among [] ms none q = absurd q
    begins_alone v behind among (frame.Treats w (begins by done) tasks ∷ k) ms none q = leads_alone v behind among k ms none q.1
    begins_alone v behind among (frame.Treats w (ends cause) tasks ∷ k) ms none q = begins_alone v behind among k ms none q.1
    begins_alone v behind among (frame.Awaits w by done of part tasks ∷ k) ms none q = leads_alone v behind among k ms none.1 q.1
    begins_alone v behind among (frame.Copies first t ∷ k) ms none q = begins_alone v behind among k ms none q
    begins_alone v behind among (frame.StoresRecord w first count ∷ k) ms none (inl (same, q)) = begins_alone v behind among k ms none q
    begins_alone v behind among (frame.StoresRecord w first count ∷ k) ms none (inr q) = leads_alone v behind among k ms none q
    begins_alone v behind among (frame.Confines ∷ k) ms none q = begins_alone v behind among k ms none.1 q.1
    begins_alone v behind among (f ∷ k) ms none q = absurd q

  mutual
    -- An operation runs of each of the objects whose operations run inside.
    pub operated_runs :
        (v : Value) (behind : Control) (among : List Value) (k : Control) (ms : List Master) → IsAmong v among → FrugalLeads frugal behind among k ms
        → NoOperationRunsOn v k → ⊥
    operated_runs v behind among [] ms is q none = q
    operated_runs v behind among (frame.Returns actuals references ∷ k) ms is (inl q) none = subst (IsAmong v) q.3 is
    operated_runs v behind among (frame.Returns actuals references ∷ k) ms is (inr (inl q)) none = operated_runs v behind among k ms is q none
    operated_runs v behind among (frame.Returns actuals references ∷ k) ms is (inr (inr q)) none = operation_runs v behind among k ms is q none
    operated_runs v behind among (frame.Elaborates ds fs hs ∷ k) [] is q none = q
    operated_runs v behind among (frame.Elaborates ds fs hs ∷ k) (m ∷ ms) is q none = operated_runs v behind among k ms is q.1 none
    operated_runs v behind among (frame.Closes ∷ k) [] is q none = q
    operated_runs v behind among (frame.Closes ∷ k) (m ∷ ms) is q none = operated_runs v behind among k ms is q.1 none
    operated_runs v behind among (frame.Declares x ∷ k) [] is q none = q
    operated_runs v behind among (frame.Declares x ∷ k) (m ∷ ms) is q none = operated_runs v behind among k (m ∷ ms) is q.1 none
    operated_runs v behind among (frame.DeclaresRecord x t ∷ k) [] is q none = q
    operated_runs v behind among (frame.DeclaresRecord x t ∷ k) (m ∷ ms) is q none = operated_runs v behind among k (m ∷ ms) is q.1 none
    operated_runs v behind among (frame.Awaits w by done of part tasks ∷ k) ms is q none = q.0
    operated_runs v behind among (frame.Confines ∷ k) ms is q none = operated_runs v behind among k ms is q.1 none.1
    operated_runs v behind among (f ∷ k) ms is q none = operated_runs v behind among k ms is q.1 none

    pub leaving_runs :
        (v : Value) (behind : Control) (among : List Value) (k : Control) (ms : List Master) → IsAmong v among → FrugalLeaves frugal behind among k ms
        → NoOperationRunsOn v k → ⊥
    leaving_runs v behind among [] ms is q none = q
    leaving_runs v behind among (frame.Leaves left ∷ k) [] is q none = q
    leaving_runs v behind among (frame.Leaves left ∷ k) (m ∷ ms) is q none = operated_runs v behind among k ms is q.1 none
    leaving_runs v behind among (frame.Ends w ∷ k) ms is q none = leaving_runs v behind among k ms is q none
    leaving_runs v behind among (frame.GivesBack w cause pool ∷ k) ms is q none = leaving_runs v behind among k ms is q none
    leaving_runs v behind among (frame.Treats w treatment tasks ∷ k) ms is q none = leaving_runs v behind among k ms is q.1 none
    leaving_runs v behind among (frame.Confines ∷ k) ms is q none = leaving_runs v behind among k ms is q.1 none.1
    leaving_runs v behind among (f ∷ k) ms is q none = q

    operation_runs :
        (v : Value) (behind : Control) (among : List Value) (k : Control) (ms : List Master) → IsAmong v among
        → FrugalOperated frugal behind among k ms → NoOperationRunsOn v k → ⊥
    operation_runs v behind among [] ms is q none = q
    operation_runs v behind among (frame.Confines ∷ k) ms is (vs, same, inl (ending, q)) none =
        elim (subst (IsAmong v) same is) [ inl first ↦ none.0 (sym first) | inr later ↦ operated_runs v behind vs k ms later q none.1 ]
    operation_runs v behind among (frame.Confines ∷ k) ms is (vs, same, inr (inr (ending, q))) none =
        elim (subst (IsAmong v) same is) [ inl first ↦ none.0 (sym first) | inr later ↦ replacing_runs v behind vs k ms later q none.1 ]
    operation_runs v behind among (frame.Confines ∷ k) ms is (vs, same, inr (inl (ending, q))) none =
        elim (subst (IsAmong v) same is) [ inl first ↦ none.0 (sym first) | inr later ↦ leaving_runs v behind vs k ms later q none.1 ]
    operation_runs v behind among (frame.Awaits w by done of part tasks ∷ k) ms is (vs, same, beginning, q) none =
        elim (subst (IsAmong v) same is) [ inl first ↦ none.0 (sym first) | inr later ↦ operated_runs v behind vs k ms later q none.1 ]
    operation_runs v behind among (f ∷ k) ms is q none = q

    pub replacing_runs :
        (v : Value) (behind : Control) (among : List Value) (k : Control) (ms : List Master) → IsAmong v among → FrugalBegins frugal behind among k ms
        → NoOperationRunsOn v k → ⊥
    replacing_runs v behind among [] ms is q none = q
    replacing_runs v behind among (frame.Treats w (begins by done) tasks ∷ k) ms is q none = operated_runs v behind among k ms is q.1 none
    replacing_runs v behind among (frame.Treats w (ends cause) tasks ∷ k) ms is q none = replacing_runs v behind among k ms is q.1 none
    replacing_runs v behind among (frame.Awaits w by done of part tasks ∷ k) ms is q none = operated_runs v behind among k ms is q.1 none.1
    replacing_runs v behind among (frame.Copies first t ∷ k) ms is q none = replacing_runs v behind among k ms is q none
    replacing_runs v behind among (frame.StoresRecord w first count ∷ k) ms is (inl (same, q)) none = replacing_runs v behind among k ms is q none
    replacing_runs v behind among (frame.StoresRecord w first count ∷ k) ms is (inr q) none = operated_runs v behind among k ms is q none
    replacing_runs v behind among (frame.Confines ∷ k) ms is q none = replacing_runs v behind among k ms is q.1 none.1
    replacing_runs v behind among (f ∷ k) ms is q none = q

  -- The object whose operation comes to its end in front of this is none of those whose operations run behind that.
  pub operated_once :
      (v : Value) (behind : Control) (vs : List Value) (k : Control) (ms : List Master) → operated_in k ≡ v ∷ []
      → FrugalOperated frugal behind (operated_in k ++ vs) k ms → IsAmong v vs → ⊥
  operated_once v behind vs [] ms first q among = q
  operated_once v behind vs (frame.Confines ∷ k) ms first (ws, is, inl (ending, q)) among =
      let one : finalized_before k ≡ v = cc first in
      let same : vs ≡ ws = cc is in
      operated_runs v behind vs k ms among (subst (λ (us : List Value). FrugalLeads frugal behind us k ms) (sym same) q)
      (subst (λ (w : Value). NoOperationRunsOn w k) one ending.1)
  operated_once v behind vs (frame.Confines ∷ k) ms first (ws, is, inr (inr (ending, q))) among =
      let one : finalized_before k ≡ v = cc first in
      let same : vs ≡ ws = cc is in
      replacing_runs v behind vs k ms among (subst (λ (us : List Value). FrugalBegins frugal behind us k ms) (sym same) q)
      (subst (λ (w : Value). NoOperationRunsOn w k) one ending.2)
  operated_once v behind vs (frame.Confines ∷ k) ms first (ws, is, inr (inl (ending, q))) among =
      let one : finalized_before k ≡ v = cc first in
      let same : vs ≡ ws = cc is in
      leaving_runs v behind vs k ms among (subst (λ (us : List Value). FrugalLeaves frugal behind us k ms) (sym same) q)
      (subst (λ (w : Value). NoOperationRunsOn w k) one ending.1)
  operated_once v behind vs (frame.Awaits w by done of part tasks ∷ k) ms first (ws, is, beginning, q) among =
      let one : w ≡ v = cc first in
      let same : vs ≡ ws = cc is in
      operated_runs v behind vs k ms among (subst (λ (us : List Value). FrugalLeads frugal behind us k ms) (sym same) q)
      (subst (λ (u : Value). NoOperationRunsOn u k) one beginning.2)
  operated_once v behind vs (f ∷ k) ms first q among = q

  mutual
    -- Where no operation runs behind the call of the running body, none does behind that end.
    leads_calm : (behind : Control) (among : List Value) (k : Control) (ms : List Master) → NoOperationRuns k → FrugalLeads frugal behind among k ms → NoOperationRuns behind
    leads_calm behind among [] ms none q = absurd q
    leads_calm behind among (frame.Returns actuals references ∷ k) ms none (inl q) = subst NoOperationRuns q.2 none.1
    leads_calm behind among (frame.Returns actuals references ∷ k) ms none (inr (inl q)) = leads_calm behind among k ms none.1 q
    leads_calm behind among (frame.Returns actuals references ∷ k) ms none (inr (inr q)) = operated_calm behind among k ms none.1 q
    leads_calm behind among (frame.Elaborates ds fs hs ∷ k) [] none q = absurd q
    leads_calm behind among (frame.Elaborates ds fs hs ∷ k) (m ∷ ms) none q = leads_calm behind among k ms none.1 q.1
    leads_calm behind among (frame.Closes ∷ k) [] none q = absurd q
    leads_calm behind among (frame.Closes ∷ k) (m ∷ ms) none q = leads_calm behind among k ms none.1 q.1
    leads_calm behind among (frame.Declares x ∷ k) [] none q = absurd q
    leads_calm behind among (frame.Declares x ∷ k) (m ∷ ms) none q = leads_calm behind among k (m ∷ ms) none.1 q.1
    leads_calm behind among (frame.DeclaresRecord x t ∷ k) [] none q = absurd q
    leads_calm behind among (frame.DeclaresRecord x t ∷ k) (m ∷ ms) none q = leads_calm behind among k (m ∷ ms) none.1 q.1
    leads_calm behind among (f ∷ k) ms none q = leads_calm behind among k ms none.1 q.1

    leaves_calm : (behind : Control) (among : List Value) (k : Control) (ms : List Master) → NoOperationRuns k → FrugalLeaves frugal behind among k ms → NoOperationRuns behind
    leaves_calm behind among [] ms none q = absurd q
    leaves_calm behind among (frame.Leaves left ∷ k) [] none q = absurd q
    leaves_calm behind among (frame.Leaves left ∷ k) (m ∷ ms) none q = leads_calm behind among k ms none.1 q.1
    leaves_calm behind among (frame.Ends w ∷ k) ms none q = leaves_calm behind among k ms none.1 q
    leaves_calm behind among (frame.GivesBack w cause pool ∷ k) ms none q = leaves_calm behind among k ms none.1 q
    leaves_calm behind among (frame.Treats w treatment tasks ∷ k) ms none q = leaves_calm behind among k ms none.1 q.1
    leaves_calm behind among (frame.Confines ∷ k) ms none q = leaves_calm behind among k ms none.1 q.1
    leaves_calm behind among (f ∷ k) ms none q = absurd q

    operated_calm :
        (behind : Control) (among : List Value) (k : Control) (ms : List Master) → NoOperationRuns k → FrugalOperated frugal behind among k ms
        → NoOperationRuns behind
    operated_calm behind among [] ms none q = absurd q
    operated_calm behind among (frame.Confines ∷ k) ms none (vs, is, inl (ending, q)) = leads_calm behind vs k ms none.1 q
    operated_calm behind among (frame.Confines ∷ k) ms none (vs, is, inr (inl (ending, q))) = leaves_calm behind vs k ms none.1 q
    operated_calm behind among (frame.Confines ∷ k) ms none (vs, is, inr (inr (ending, q))) = begins_calm behind vs k ms none.1 q
    operated_calm behind among (frame.Awaits w by done of part tasks ∷ k) ms none (vs, is, beginning, q) = leads_calm behind vs k ms none.1 q
    operated_calm behind among (f ∷ k) ms none q = absurd q

    begins_calm : (behind : Control) (among : List Value) (k : Control) (ms : List Master) → NoOperationRuns k → FrugalBegins frugal behind among k ms → NoOperationRuns behind
    begins_calm behind among [] ms none q = absurd q
    begins_calm behind among (frame.Treats w (begins by done) tasks ∷ k) ms none q = leads_calm behind among k ms none.1 q.1
    begins_calm behind among (frame.Treats w (ends cause) tasks ∷ k) ms none q = begins_calm behind among k ms none.1 q.1
    begins_calm behind among (frame.Awaits w by done of part tasks ∷ k) ms none q = leads_calm behind among k ms none.1 q.1
    begins_calm behind among (frame.Copies first t ∷ k) ms none q = begins_calm behind among k ms none.1 q
    begins_calm behind among (frame.StoresRecord w first count ∷ k) ms none (inl (same, q)) = begins_calm behind among k ms none.1 q
    begins_calm behind among (frame.StoresRecord w first count ∷ k) ms none (inr q) = leads_calm behind among k ms none.1 q
    begins_calm behind among (frame.Confines ∷ k) ms none q = begins_calm behind among k ms none.1 q.1
    begins_calm behind among (f ∷ k) ms none q = absurd q

  pub leads_calm_behind :
      (behind : Control) (among : List Value) (k : Control) (ms : List Master) → IsCalm (behind_call k) → FrugalLeads frugal behind among k ms → NoOperationRuns behind
  leads_calm_behind behind among [] ms calm q = absurd q
  leads_calm_behind behind among (frame.Returns actuals references ∷ k) ms calm (inl q) = subst NoOperationRuns q.2 calm
  leads_calm_behind behind among (frame.Returns actuals references ∷ k) ms calm (inr (inl q)) = leads_calm behind among k ms calm q
  leads_calm_behind behind among (frame.Returns actuals references ∷ k) ms calm (inr (inr q)) = operated_calm behind among k ms calm q
  leads_calm_behind behind among (frame.Elaborates ds fs hs ∷ k) [] calm q = absurd q
  leads_calm_behind behind among (frame.Elaborates ds fs hs ∷ k) (m ∷ ms) calm q = leads_calm_behind behind among k ms calm q.1
  leads_calm_behind behind among (frame.Closes ∷ k) [] calm q = absurd q
  leads_calm_behind behind among (frame.Closes ∷ k) (m ∷ ms) calm q = leads_calm_behind behind among k ms calm q.1
  leads_calm_behind behind among (frame.Declares x ∷ k) [] calm q = absurd q
  leads_calm_behind behind among (frame.Declares x ∷ k) (m ∷ ms) calm q = leads_calm_behind behind among k (m ∷ ms) calm q.1
  leads_calm_behind behind among (frame.DeclaresRecord x t ∷ k) [] calm q = absurd q
  leads_calm_behind behind among (frame.DeclaresRecord x t ∷ k) (m ∷ ms) calm q = leads_calm_behind behind among k (m ∷ ms) calm q.1
  leads_calm_behind behind among (f ∷ k) ms calm q = leads_calm_behind behind among k ms calm q.1

  pub leaves_calm_behind :
      (behind : Control) (among : List Value) (k : Control) (ms : List Master) → IsCalm (behind_call k) → FrugalLeaves frugal behind among k ms → NoOperationRuns behind
  leaves_calm_behind behind among [] ms calm q = absurd q
  leaves_calm_behind behind among (frame.Leaves left ∷ k) [] calm q = absurd q
  leaves_calm_behind behind among (frame.Leaves left ∷ k) (m ∷ ms) calm q = leads_calm_behind behind among k ms calm q.1
  leaves_calm_behind behind among (frame.Ends w ∷ k) ms calm q = leaves_calm_behind behind among k ms calm q
  leaves_calm_behind behind among (frame.GivesBack w cause pool ∷ k) ms calm q = leaves_calm_behind behind among k ms calm q
  leaves_calm_behind behind among (frame.Treats w treatment tasks ∷ k) ms calm q = leaves_calm_behind behind among k ms calm q.1
  leaves_calm_behind behind among (frame.Confines ∷ k) ms calm q = leaves_calm_behind behind among k ms calm q.1
  leaves_calm_behind behind among (f ∷ k) ms calm q = absurd q

  begins_calm_behind :
      (behind : Control) (among : List Value) (k : Control) (ms : List Master) → IsCalm (behind_call k) → FrugalBegins frugal behind among k ms → NoOperationRuns behind
  begins_calm_behind behind among [] ms calm q = absurd q
  begins_calm_behind behind among (frame.Treats w (begins by done) tasks ∷ k) ms calm q = leads_calm_behind behind among k ms calm q.1
  begins_calm_behind behind among (frame.Treats w (ends cause) tasks ∷ k) ms calm q = begins_calm_behind behind among k ms calm q.1
  begins_calm_behind behind among (frame.Awaits w by done of part tasks ∷ k) ms calm q = leads_calm_behind behind among k ms calm q.1
  begins_calm_behind behind among (frame.Copies first t ∷ k) ms calm q = begins_calm_behind behind among k ms calm q
  begins_calm_behind behind among (frame.Confines ∷ k) ms calm q = begins_calm_behind behind among k ms calm q.1
  begins_calm_behind behind among (frame.StoresRecord w first count ∷ k) ms calm (inl (same, q)) = begins_calm_behind behind among k ms calm q
  begins_calm_behind behind among (frame.StoresRecord w first count ∷ k) ms calm (inr q) = leads_calm_behind behind among k ms calm q
  begins_calm_behind behind among (f ∷ k) ms calm q = absurd q

  pub frugal_calm :
      (behind : Control) (among : List Value) (mode : Mode) (k : Control) (ms : List Master) → IsCalm (behind_call k) → Frugal frugal behind among mode k ms
      → NoOperationRuns behind
  frugal_calm behind among mode k ms calm (inl q) = leads_calm_behind behind among k ms calm q
  frugal_calm behind among mode k ms calm (inr (inl leaving)) = leaves_calm_behind behind among k ms calm leaving.1
  frugal_calm behind among mode k ms calm (inr (inr beginning)) = begins_calm_behind behind among k ms calm beginning.1

  -- Behind the body of an operation itself, that one waits, and where it is of an object, no other one of that runs.
  returns_alone :
      (v : Value) (behind : Control) (among : List Value) (actuals : List ActualForm) (references : List Value) (k : Control) (ms : List Master)
      → waits_first k ≡ true → FrugalLeads frugal behind among k ms ⊎ FrugalOperated frugal behind among k ms → RunsAlone v (frame.Returns actuals references ∷ k)
  returns_alone v behind among actuals references [] ms own q = absurd (cc own)
  returns_alone v behind among actuals references (frame.Awaits w by done of part tasks ∷ k) ms own (inl q) = absurd q.0
  returns_alone v behind among actuals references (frame.Awaits w by done of part tasks ∷ k) ms own (inr (vs, is, beginning, q)) =
      λ same. subst (λ (u : Value). NoOperationRunsOn u k) same beginning.2
  returns_alone v behind among actuals references (frame.Confines ∷ k) ms own (inl q) = λ same. subst (λ (u : Value). NoOperationRunsOn u k) same q.0.1
  returns_alone v behind among actuals references (frame.Confines ∷ k) ms own (inr (vs, is, inl (ending, q))) =
      λ same. subst (λ (u : Value). NoOperationRunsOn u k) same ending.1
  returns_alone v behind among actuals references (frame.Confines ∷ k) ms own (inr (vs, is, inr (inl (ending, q)))) =
      λ same. subst (λ (u : Value). NoOperationRunsOn u k) same ending.1
  returns_alone v behind among actuals references (frame.Confines ∷ k) ms own (inr (vs, is, inr (inr (ending, q)))) =
      λ same. subst (λ (u : Value). NoOperationRunsOn u k) same ending.2
  returns_alone v behind among actuals references (f ∷ k) ms own q = absurd (cc own)

  module _ (v : Value) (behind : Control) (outer : (actuals : List ActualForm) (references : List Value) → RunsAlone v (frame.Returns actuals references ∷ behind)) where
    leads_run_alone : (among : List Value) (k : Control) (ms : List Master) → own_in k ≡ true → FrugalLeads frugal behind among k ms → RunsAlone v k
    leads_run_alone among [] ms own q = absurd q
    leads_run_alone among (frame.Returns actuals references ∷ k) ms own (inl q) =
        subst (λ (j : Control). RunsAlone v (frame.Returns actuals references ∷ j)) (sym q.2) (outer actuals references)
    leads_run_alone among (frame.Returns actuals references ∷ k) ms own (inr q) = returns_alone v behind among actuals references k ms own q
    leads_run_alone among (frame.Elaborates ds fs hs ∷ k) [] own q = absurd q
    leads_run_alone among (frame.Elaborates ds fs hs ∷ k) (m ∷ ms) own q = leads_run_alone among k ms own q.1
    leads_run_alone among (frame.Closes ∷ k) [] own q = absurd q
    leads_run_alone among (frame.Closes ∷ k) (m ∷ ms) own q = leads_run_alone among k ms own q.1
    leads_run_alone among (frame.Declares x ∷ k) [] own q = absurd q
    leads_run_alone among (frame.Declares x ∷ k) (m ∷ ms) own q = leads_run_alone among k (m ∷ ms) own q.1
    leads_run_alone among (frame.DeclaresRecord x t ∷ k) [] own q = absurd q
    leads_run_alone among (frame.DeclaresRecord x t ∷ k) (m ∷ ms) own q = leads_run_alone among k (m ∷ ms) own q.1
    leads_run_alone among (f ∷ k) ms own q = leads_run_alone among k ms own q.1

    begins_run_alone : (among : List Value) (k : Control) (ms : List Master) → own_in k ≡ true → FrugalBegins frugal behind among k ms → RunsAlone v k
    begins_run_alone among [] ms own q = absurd q
    begins_run_alone among (frame.Treats w (begins by done) tasks ∷ k) ms own q = leads_run_alone among k ms own q.1
    begins_run_alone among (frame.Treats w (ends cause) tasks ∷ k) ms own q = begins_run_alone among k ms own q.1
    begins_run_alone among (frame.Awaits w by done of part tasks ∷ k) ms own q = leads_run_alone among k ms own q.1
    begins_run_alone among (frame.Copies first t ∷ k) ms own q = begins_run_alone among k ms own q
    begins_run_alone among (frame.Confines ∷ k) ms own q = begins_run_alone among k ms own q.1
    begins_run_alone among (frame.StoresRecord w first count ∷ k) ms own (inl (same, q)) = begins_run_alone among k ms own q
    begins_run_alone among (frame.StoresRecord w first count ∷ k) ms own (inr q) = leads_run_alone among k ms own q
    begins_run_alone among (f ∷ k) ms own q = absurd q

-- Nor does anything begin where an object is finalized.
treating_begin : (v w : Value) (cause : Cause) (tasks : List Task) (k : Control) → NothingBegins v k → NothingBegins v (treating w (ends cause) tasks k)
treating_begin v w cause [] k none = none
treating_begin v w cause (task ∷ tasks) k none = none

-- Nor does an operation run.
treating_alone : (v w : Value) (cause : Cause) (tasks : List Task) (k : Control) → NoOperationRunsOn v k → NoOperationRunsOn v (treating w (ends cause) tasks k)
treating_alone v w cause [] k none = none
treating_alone v w cause (task ∷ tasks) k none = none

-- The object whose Finalize has ended is the one that is finalized.
pub treating_before :
    (w : Value) (cause : Cause) (tasks : List Task) (k : Control) → finalized_before k ≡ w → finalized_before (treating w (ends cause) tasks k) ≡ w
treating_before w cause [] k before = before
treating_before w cause (task ∷ tasks) k before = refl

-- Where an operation waits that finalizes an object, that object is the one that is finalized.
finalized_at_end : (known : Known) (object : Id) (access : ℕ) (home : Home) (places : List Value) (after : Control) (lower : List Master) (rooms : Rooms) (holds : Holds)
    → RestsAtEnd known object access home places after lower rooms holds → finalized_before after ≡ Names object
finalized_at_end known object access home places after lower rooms holds (inl resting) = rw (resting.is) refl
finalized_at_end known object access home places after lower rooms holds (inr (inl undoes)) = rw (undoes.is) refl
finalized_at_end known object access home places after lower rooms holds (inr (inr empties)) = rw (empties.is) refl

finalized_owned : (known : Known) (held : Bool) (watch : Option Watch) (object : Id) (access : ℕ) (home : Home) (places : List Value) (after : Control) (lower : List Master) (rooms : Rooms) (holds : Holds)
    → RestsAsOwned known held watch object access home places after lower rooms holds → finalized_before after ≡ Names object
finalized_owned known held watch object access home places after lower rooms holds (inl (is_held, r)) = finalized_at_end known object access home places after lower rooms holds r
finalized_owned known held watch object access home places after lower rooms holds (inr (inl releases)) = rw (releases.is) refl
finalized_owned known held watch object access home places after lower rooms holds (inr (inr (unheld, departing))) = rw (departing.is) refl

finalized_stored : (known : Known) (object : Id) (access record_type : ℕ) (k : Control) (rooms : Rooms) (holds : Holds) → StoresInto known object access record_type k rooms holds → finalized_before k ≡ Names object
finalized_stored known object access record_type [] rooms holds into = absurd into
finalized_stored known object access record_type (frame.StoresRecord v first count ∷ k) rooms holds into = into.0
finalized_stored known object access record_type (f ∷ k) rooms holds into = absurd into

pub finalized_by : (known : Known) (cause : Cause) (held : Bool) (watch : Option Watch) (object : Id) (access : ℕ) (home : Home) (places operands : List Value) (also : List Reference) (after : Control) (lower : List Master) (rooms : Rooms) (holds : Holds)
    → RestsBy known cause held watch object access home places operands also after lower rooms holds → finalized_before after ≡ Names object
finalized_by known (Leaving m item) held watch object access home places operands also after lower rooms holds r = finalized_owned known held watch object access home places after lower rooms holds r.1
finalized_by known (Freeing number) held watch object access home places operands also after lower rooms holds r = finalized_owned known held watch object access home places after lower rooms holds r.1
finalized_by known (Assigning number) held watch object access home places operands also after lower rooms holds r = rw (r.is) (finalized_stored known object access r.record_type r.stores rooms holds r.into)
finalized_by known (Undoing number) held watch object access home places operands also after lower rooms holds r = finalized_owned known held watch object access home places after lower rooms holds r.1

-- So where no operation of an object runs, another one is treated behind the body.
module _ (program : Program) (depth : ℕ) (s : State) (f : Pause program depth s) where
  other_treated : (v : Value) → NoOperationRunsOn v f.behind → v ≢ Names f.object
  other_treated v none same = by f.treatment f.awaited f.rests
    where
      by : (treatment : Treatment) → WaitsFor (program_form program).types f.object f.of treatment f.tasks f.after f.behind
          → Rests (known_in program f.procedure f.suspensions) treatment f.held f.watch f.object f.access f.home f.places f.operands f.also f.after f.lower f.rooms f.holds → ⊥
      by (begins birth done) (part, is) rests = let one = subst (NoOperationRunsOn v) is none in one.0 (sym same)
      by (ends cause) (is, inside) rests =
          let one : NoOperationRunsOn v (frame.Confines ∷ treating (Names f.object) (ends cause) f.tasks f.after) = subst (NoOperationRunsOn v) is none in
          let before = finalized_by (known_in program f.procedure f.suspensions) cause f.held f.watch f.object f.access f.home f.places f.operands f.also f.after f.lower f.rooms f.holds rests in
          one.0 (treating_before (Names f.object) cause f.tasks f.after before ∙ sym same)

  -- The body of the operation runs alone of the object, where no operation of that runs behind.
  waits_alone : (v : Value) → NoOperationRunsOn (Names f.object) f.after → (actuals : List ActualForm) (references : List Value)
      → RunsAlone v (frame.Returns actuals references ∷ f.behind)
  waits_alone v alone actuals references = by f.treatment f.awaited f.rests
    where
      by : (treatment : Treatment) → WaitsFor (program_form program).types f.object f.of treatment f.tasks f.after f.behind
          → Rests (known_in program f.procedure f.suspensions) treatment f.held f.watch f.object f.access f.home f.places f.operands f.also f.after f.lower f.rooms f.holds
          → RunsAlone v (frame.Returns actuals references ∷ f.behind)
      by (begins birth done) (part, is) rests =
          subst (λ (j : Control). RunsAlone v (frame.Returns actuals references ∷ j)) (sym is) (λ same. subst (λ (u : Value). NoOperationRunsOn u f.after) same alone)
      by (ends cause) (is, inside) rests =
          let before = finalized_by (known_in program f.procedure f.suspensions) cause f.held f.watch f.object f.access f.home f.places f.operands f.also f.after f.lower f.rooms f.holds rests in
          subst (λ (j : Control). RunsAlone v (frame.Returns actuals references ∷ j)) (sym is)
          (λ same. treating_alone v (Names f.object) cause f.tasks f.after
          (subst (λ (u : Value). NoOperationRunsOn u f.after) (sym (treating_before (Names f.object) cause f.tasks f.after before) ∙ same) alone))

  -- Its operation runs in front of that.
  pub operated_is : operated_in f.behind ≡ Names f.object ∷ []
  operated_is = by f.treatment f.awaited f.rests
    where
      by : (treatment : Treatment) → WaitsFor (program_form program).types f.object f.of treatment f.tasks f.after f.behind
          → Rests (known_in program f.procedure f.suspensions) treatment f.held f.watch f.object f.access f.home f.places f.operands f.also f.after f.lower f.rooms f.holds
          → operated_in f.behind ≡ Names f.object ∷ []
      by (begins birth done) (part, is) rests = ap operated_in is
      by (ends cause) (is, inside) rests =
          let before = finalized_by (known_in program f.procedure f.suspensions) cause f.held f.watch f.object f.access f.home f.places f.operands f.also f.after f.lower f.rooms f.holds rests in
          ap operated_in is ∙ ap (λ (v : Value). v ∷ []) (treating_before (Names f.object) cause f.tasks f.after before)

-- It is known of each such type that the body may free it.
may_cover : (program : Program) (s : State) (t : ℕ) → may_free program s t ≡ true → (is_access (program_form program).types t ≡ true) × CoveredIn (implicit_of (program_form program)) (seen_in (running_procedure s) (program_form program)) t
may_cover program s t may = and_parts (is_access (program_form program).types t) _ may

-- Where something is freed next, it is of such a type.
pub touching_frees :
    (program : Program) (s : State) → Grounds program s → (gs : List Suspension) → Ready (known_in program (running_procedure s) gs) s → s.mode ≡ Running → FreesAmong (may_free program s) s.control
touching_frees program s grounds gs ready runs =
    frees_among (known_in program (running_procedure s) gs) (own_bodies (program_form program) grounds.frees_own (running_procedure s)) (may_free program s) may s ready grounds.typed.inside runs
  where
    may : (t : ℕ) → CoveredIn (implicit_of (program_form program)) (seen_in (running_procedure s) (program_form program)) t → is_access (seen_in (running_procedure s) (program_form program)).types t ≡ true → may_free program s t ≡ true
    may t covered of =
        let of_access : is_access (program_form program).types t ≡ true = subst (λ (types : List TypeForm). is_access types t ≡ true) (same_types (running_procedure s) (program_form program)) of in
        rw (of_access, covered) refl

-- No object of an operation that is under way is freed.
module _ (program : Program) (spares : SparesOwn program) (s : State) where
  abbrev p : ProgramForm
  p = program_form program

  abbrev Covers : (procedure : Option ℕ) → ℕ → Type 0
  Covers procedure t = CoveredIn (implicit_of p) (seen_in procedure p) t

  -- What the body of an operation may free that finalizes an object is not of the type of that object.
  frees_other : (depth : ℕ) (f : Pause program depth s) (cause : Cause) → f.treatment ≡ ends cause → (t : ℕ) → Covers (Some f.number) t → is_access p.types t ≡ true → t ≡ f.access → ⊥
  frees_other depth f cause is t covered of same =
      let may : (implicit_of p).end_frees f.access t ≡ true = subst (λ (treatment : Treatment). CoversBy p treatment f.access t) is (f.covers t covered) in
      let none = (spares_end p spares t of).0 in
      cc (none, same, may)

  -- Nor is what the body of an Adjust may free.
  adjusts_other : (depth : ℕ) (f : Pause program depth s) (by : Treatment) → f.treatment ≡ by → ((u : ℕ) → CoversBy p by f.access u → (implicit_of p).adjust_frees f.access u ≡ true)
      → (t : ℕ) → Covers (Some f.number) t → is_access p.types t ≡ true → t ≡ f.access → ⊥
  adjusts_other depth f by is adjusts t covered of same =
      let may : (implicit_of p).adjust_frees f.access t ≡ true = adjusts t (subst (λ (treatment : Treatment). CoversBy p treatment f.access t) is (f.covers t covered)) in
      let none = (spares_end p spares t of).1 in
      cc (none, same, may)

  -- So it is of the object.
  pub frees_not : (depth : ℕ) (f : Pause program depth s) (cause : Cause) → f.treatment ≡ ends cause → (o : Id) (x : Object) → object_at s.heap o ≡ Some x → f.object ≡ o
      → Covers (Some f.number) x.cell.access → is_access p.types x.cell.access ≡ true → ⊥
  frees_not depth f cause is o x found same covered of =
      let one : x ≡ f.x = let here = f.found in cc (same, here, found) in
      frees_other depth f cause is x.cell.access covered of (ap (λ (y : Object). y.cell.access) one ∙ f.of_access)

  adjusts_not : (depth : ℕ) (f : Pause program depth s) (by : Treatment) → f.treatment ≡ by → ((u : ℕ) → CoversBy p by f.access u → (implicit_of p).adjust_frees f.access u ≡ true)
      → (o : Id) (x : Object) → object_at s.heap o ≡ Some x → f.object ≡ o → Covers (Some f.number) x.cell.access → is_access p.types x.cell.access ≡ true → ⊥
  adjusts_not depth f by is adjusts o x found same covered of =
      let one : x ≡ f.x = let here = f.found in cc (same, here, found) in
      adjusts_other depth f by is adjusts x.cell.access covered of (ap (λ (y : Object). y.cell.access) one ∙ f.of_access)

  -- An object that may be freed, and is not owned outside, is not the one of an operation: what is initialized is owned outside.
  operated_not : (depth : ℕ) (f : Pause program depth s) (others : List Suspension) (o : Id) (x : Object) → object_at s.heap o ≡ Some x
      → (IsOwnedAmong (outer_in (callers_of program (origin program depth s f ∷ others))) o → ⊥) → f.object ≡ o
      → Covers (Some f.number) x.cell.access → is_access p.types x.cell.access ≡ true → ⊥
  operated_not depth f others o x found inside same covered of = by f.treatment refl
    where
      by : (treatment : Treatment) → f.treatment ≡ treatment → ⊥
      by (begins Creation done) is =
          inside (subst (IsOwnedAmong (outer_in (callers_of program (origin program depth s f ∷ others)))) same (begun_outside program depth s f done is others))
      by (begins Copy done) is = adjusts_not depth f (begins Copy done) is (λ u covers. covers) o x found same covered of
      by (begins (Adjustment number) done) is = adjusts_not depth f (begins (Adjustment number) done) is (λ u covers. covers) o x found same covered of
      by (ends cause) is = frees_not depth f cause is o x found same covered of

  -- An object that is under way in an activation that waits for the operation is the one of the operation.
  treated_is : (treatment : Treatment) (object o : Id) → IsUnder (under_way treatment object) o → object ≡ o
  treated_is (begins birth done) object o under = absurd under
  treated_is (ends (Leaving m item)) object o (inl same) = same
  treated_is (ends (Leaving m item)) object o (inr none) = absurd none
  treated_is (ends (Freeing number)) object o (inl same) = same
  treated_is (ends (Freeing number)) object o (inr none) = absurd none
  treated_is (ends (Assigning number)) object o under = absurd under
  treated_is (ends (Undoing number)) object o (inl same) = same
  treated_is (ends (Undoing number)) object o (inr none) = absurd none

  -- So it is none that may be freed: what is under way is finalized.
  under_not : (depth : ℕ) (f : Pause program depth s) (o : Id) (x : Object) → object_at s.heap o ≡ Some x → IsUnder (under_way f.treatment f.object) o
      → Covers (Some f.number) x.cell.access → is_access p.types x.cell.access ≡ true → ⊥
  under_not depth f o x found under covered of = by f.treatment refl under
    where
      by : (treatment : Treatment) → f.treatment ≡ treatment → IsUnder (under_way treatment f.object) o → ⊥
      by (begins birth done) is under' = under'
      by (ends cause) is under' = frees_not depth f cause is o x found (treated_is (ends cause) f.object o under') covered of

  -- Those behind an activation that tracks nothing wait as its program says.
  waits_further :
      (g : Suspension) (gs : List Suspension) → g.tracks ≡ no_tracks → AllWait (caller_of program g gs).implicit (caller_of program g gs).program (callers_of program gs)
      → AllWait (implicit_of p) (seen_in g.procedure p) (callers_of program gs)
  waits_further g gs plain waits = waits_plainly program g gs plain (callers_of program gs) waits

  module _ (frugal : Allowance) (back : Control) (lower : List Master) where
    -- What waits for an operation tracks nothing.
    tracks_nothing : (running : Option ℕ) (depth : ℕ) (others : List Suspension) (among : List Value) (g : Suspension)
        → IsOperation program s frugal back lower running depth others among g → g.tracks ≡ no_tracks
    tracks_nothing running depth others among g operation = ap (λ (waiting : Suspension). waiting.tracks) operation.is

    -- What the running body may free, that of the outermost operation may free.
    pub covers_outermost :
        (procedure : Option ℕ) (depth number : ℕ) (others inner : List Suspension) → AreInner program s frugal back lower procedure depth (Some number) others inner
        → AllWait (implicit_of p) (seen_in procedure p) (callers_of program (inner ++ others)) → (t : ℕ) → Covers procedure t → Covers (Some number) t
    covers_outermost procedure depth number others [] w waits t covered = subst (λ (own : Option ℕ). Covers own t) w covered
    covers_outermost procedure depth number others (g ∷ inner) (inl (call, more)) waits t covered =
        covers_outermost g.procedure (suc depth) number others inner more (waits_further g (inner ++ others) call.2 waits.1) t
        (covers_plainly program g (inner ++ others) call.2 t (waits_covers waits.0 t covered))
    covers_outermost procedure depth number others (g ∷ inner) (inr (operation, more)) waits t covered =
        let plain = tracks_nothing procedure depth (inner ++ others) (operated_among inner) g operation in
        covers_outermost g.procedure (suc depth) number others inner more (waits_further g (inner ++ others) plain waits.1) t
        (covers_plainly program g (inner ++ others) plain t (waits_covers waits.0 t covered))

    -- No object under way in the activations that wait is one that the running body may free, if none is in those behind them.
    pub none_in :
        (procedure : Option ℕ) (depth number : ℕ) (others inner : List Suspension) → AreInner program s frugal back lower procedure depth (Some number) others inner
        → AllWait (implicit_of p) (seen_in procedure p) (callers_of program (inner ++ others)) → (o : Id) (x : Object) → object_at s.heap o ≡ Some x → is_access p.types x.cell.access ≡ true
        → Covers procedure x.cell.access → (Covers (Some number) x.cell.access → IsUnder (under_in (callers_of program others)) o → ⊥) → IsUnder (under_in (callers_of program (inner ++ others))) o → ⊥
    none_in procedure depth number others [] w waits o x found of covered behind under = behind (subst (λ (own : Option ℕ). Covers own x.cell.access) w covered) under
    none_in procedure depth number others (g ∷ inner) (inl (call, more)) waits o x found of covered behind under =
        elim (either_one g.under (under_in (callers_of program (inner ++ others))) o under) [
          | inl here ↦ subst (λ (under' : List Id). IsUnder under' o) call.1 here
          | inr later ↦ none_in g.procedure (suc depth) number others inner more (waits_further g (inner ++ others) call.2 waits.1) o x found of
              (covers_plainly program g (inner ++ others) call.2 x.cell.access (waits_covers waits.0 x.cell.access covered)) behind later
        ]
    none_in procedure depth number others (g ∷ inner) (inr (operation, more)) waits o x found of covered behind under =
        by (λ later. none_in g.procedure (suc depth) number others inner more (waits_further g (inner ++ others) plain waits.1) o x found of
        (covers_plainly program g (inner ++ others) plain x.cell.access (waits_covers waits.0 x.cell.access covered)) behind later)
        (either_one g.under (under_in (callers_of program (inner ++ others))) o under)
      where
        plain : g.tracks ≡ no_tracks
        plain = tracks_nothing procedure depth (inner ++ others) (operated_among inner) g operation

        by : (IsUnder (under_in (callers_of program (inner ++ others))) o → ⊥) → IsUnder g.under o ⊎ IsUnder (under_in (callers_of program (inner ++ others))) o → ⊥
        by further (inl here) =
            let f = operation.pause in
            let way : IsUnder (under_way f.treatment f.object) o = subst (λ (waiting : Suspension). IsUnder waiting.under o) operation.is here in
            under_not depth f o x found way (subst (λ (own : Option ℕ). Covers own x.cell.access) operation.runs covered) of
        by further (inr later) = further later

    -- The object whose operation such an activation waits for is the first one.
    operated_first : (running : Option ℕ) (depth : ℕ) (others : List Suspension) (among : List Value) (g : Suspension)
        → (operation : IsOperation program s frugal back lower running depth others among g) → operated_in g.control ≡ Names operation.pause.object ∷ []
    operated_first running depth others among g operation =
        ap (λ (waiting : Suspension). operated_in waiting.control) operation.is ∙ operated_is program depth s operation.pause

    -- Nor is an object that the running body may free one whose operation they wait for, if it is not owned outside.
    pub operated_apart :
        (procedure : Option ℕ) (depth number : ℕ) (others inner : List Suspension) → AreInner program s frugal back lower procedure depth (Some number) others inner
        → AllWait (implicit_of p) (seen_in procedure p) (callers_of program (inner ++ others)) → (o : Id) (x : Object) → object_at s.heap o ≡ Some x → is_access p.types x.cell.access ≡ true
        → Covers procedure x.cell.access → (IsOwnedAmong (outer_in (callers_of program (inner ++ others))) o → ⊥) → IsAmong (Names o) (operated_among inner) → ⊥
    operated_apart procedure depth number others [] w waits o x found of covered inside among = among
    operated_apart procedure depth number others (g ∷ inner) (inl (call, more)) waits o x found of covered inside among =
        operated_apart g.procedure (suc depth) number others inner more (waits_further g (inner ++ others) call.2 waits.1) o x found of
        (covers_plainly program g (inner ++ others) call.2 x.cell.access (waits_covers waits.0 x.cell.access covered))
        (λ owned. inside (owned_behind program g (inner ++ others) o owned))
        (subst (λ (vs : List Value). IsAmong (Names o) (vs ++ operated_among inner)) (none_operated g.control call.0) among)
    operated_apart procedure depth number others (g ∷ inner) (inr (operation, more)) waits o x found of covered inside among =
        by (λ later. operated_apart g.procedure (suc depth) number others inner more (waits_further g (inner ++ others) plain waits.1) o x found of
        (covers_plainly program g (inner ++ others) plain x.cell.access (waits_covers waits.0 x.cell.access covered))
        (λ owned. inside (owned_behind program g (inner ++ others) o owned)) later)
        (subst (λ (vs : List Value). IsAmong (Names o) (vs ++ operated_among inner))
        (operated_first procedure depth (inner ++ others) (operated_among inner) g operation) among)
      where
        plain : g.tracks ≡ no_tracks
        plain = tracks_nothing procedure depth (inner ++ others) (operated_among inner) g operation

        owned : IsOwnedAmong (outer_in (callers_of program (origin program depth s operation.pause ∷ inner ++ others))) o → ⊥
        owned among' = inside (subst (λ (waiting : Suspension). IsOwnedAmong (outer_in (callers_of program (waiting ∷ inner ++ others))) o) (sym operation.is) among')

        by : (IsAmong (Names o) (operated_among inner) → ⊥) → IsAmong (Names o) (Names operation.pause.object ∷ operated_among inner) → ⊥
        by further (inl same) =
            operated_not depth operation.pause (inner ++ others) o x found owned (cc same) (subst (λ (own : Option ℕ). Covers own x.cell.access) operation.runs covered) of
        by further (inr later) = further later

    -- Each of these is one to which an activation that waits refers.
    operated_referred :
        (running : Option ℕ) (depth : ℕ) (outermost : Option ℕ) (others inner : List Suspension)
        → AreInner program s frugal back lower running depth outermost others inner
        → (o : Id) → IsAmong (Names o) (operated_among inner) → (t : ℕ) × IsReferred (referenced_in (callers_of program (inner ++ others))) o t
    operated_referred running depth outermost others [] w o among = absurd among
    operated_referred running depth outermost others (g ∷ inner) (inl (call, more)) o among =
        let later = operated_referred g.procedure (suc depth) outermost others inner more o
        (subst (λ (vs : List Value). IsAmong (Names o) (vs ++ operated_among inner)) (none_operated g.control call.0) among) in
        (later.0, referred_behind g.referenced (referenced_in (callers_of program (inner ++ others))) o later.0 later.1)
    operated_referred running depth outermost others (g ∷ inner) (inr (operation, more)) o among =
        by (operated_referred g.procedure (suc depth) outermost others inner more o)
        (subst (λ (vs : List Value). IsAmong (Names o) (vs ++ operated_among inner))
        (operated_first running depth (inner ++ others) (operated_among inner) g operation) among)
      where
        behind : List Reference
        behind = referenced_in (callers_of program (inner ++ others))

        by : (IsAmong (Names o) (operated_among inner) → (t : ℕ) × IsReferred behind o t) → IsAmong (Names o) (Names operation.pause.object ∷ operated_among inner)
            → (t : ℕ) × IsReferred (g.referenced ++ behind) o t
        by further (inl same) =
            let f = operation.pause in
            let one : f.object ≡ o = cc same in (
              f.access,
              referred_first g.referenced behind o f.access (subst (λ (waiting : Suspension). IsReferred waiting.referenced o f.access) (sym operation.is) (inl (one, refl))),
            )
        by further (inr later) =
            let is = further later in
            (is.0, referred_behind g.referenced behind o is.0 is.1)

    -- So it is of what is behind all of them.
    others_referred : (others inner : List Suspension) (o : Id) (t : ℕ) → IsReferred (referenced_in (callers_of program others)) o t
        → IsReferred (referenced_in (callers_of program (inner ++ others))) o t
    others_referred others [] o t is = is
    others_referred others (g ∷ inner) o t is = referred_behind g.referenced (referenced_in (callers_of program (inner ++ others))) o t (others_referred others inner o t is)

-- Nothing ends that is assigned to.
assigned_outside : (cause : Cause) → IsAssigned cause → IsEnded (ends cause) ⊎ IsLeft (ends cause) → ⊥
assigned_outside (Leaving m item) assigned inside = assigned
assigned_outside (Freeing number) assigned inside = assigned
assigned_outside (Assigning number) assigned (inl inside) = inside
assigned_outside (Assigning number) assigned (inr inside) = inside
assigned_outside (Undoing number) assigned inside = assigned

-- An object that is there is found.
adjusted_live : (heap : List Object) (o : Id) (x : Object) → object_at heap o ≡ Some x → is_there x.stage ≡ true → look heap (Names o) ≡ on_gone → ⊥
adjusted_live heap o x found there gone = by x.stage refl (ap seen (sym found) ∙ gone)
  where
    by : (stage : Stage) → x.stage ≡ stage → existing x x.stage ≡ on_gone → ⊥
    by Building is gone' = let same = rw is at gone' in cc same
    by Existing is gone' = let same = rw is at gone' in cc same
    by Gone is gone' = let never = rw is at there in cc never

-- Where an object begins, or is adjusted, that is found, no value is finalized.
module _ (types : List TypeDefinition) (bodies : List BodyForm) (v : Value) (by : Birth) (done : List parts.Part) (tasks : List Task) (s : State) (live : look s.heap v ≡ on_gone → ⊥) where
  begun_live : (of part : ℕ) (operation : Option ℕ) (found : Option PartState) → begun_next named bodies v by done of part (performed tasks) operation found s ≡ halts (Erroneous FinalizesTwice) → ⊥
  begun_live of part operation None twice = cc twice
  begun_live of part None (Some state) twice = cc twice
  begun_live of part (Some procedure) (Some state) twice = called (slice_get bodies procedure) twice
    where
      called : (b : Option BodyForm) → operation_next named procedure b (part_reference named v part state) (frame.Awaits v by done of part (performed tasks) ∷ s.control) Quiet s ≡ halts (Erroneous FinalizesTwice) → ⊥
      called None twice' = cc twice'
      called (Some b) twice' = cc twice'

  found_live : (of part : ℕ) (found : Found (Cell Value)) → (found ≡ on_gone → ⊥) → performed_next named types bodies v (begins by done) of part (performed tasks) found s ≡ halts (Erroneous FinalizesTwice) → ⊥
  found_live of part on_null there twice = cc twice
  found_live of part on_gone there twice = there refl
  found_live of part on_other there twice = cc twice
  found_live of part (finds cell) there twice = begun_live of part (beginning by (operations_of types of)) (slice_get cell.parts part) twice

  adjusts_live : (n : NextTask) → treats_next named types bodies v (begins by done) tasks n s ≡ halts (Erroneous FinalizesTwice) → ⊥
  adjusts_live Done twice = cc twice
  adjusts_live (Pick count) twice = picked (count == 0) twice
    where
      picked : (none : Bool) → (if none then halts Stuck else picks count (λ i. treated_on named v (begins by done) (picked_task (shapes_of types) (direction_of (begins by done)) tasks i) s)) ≡ halts (Erroneous FinalizesTwice) → ⊥
      picked true twice' = cc twice'
      picked false twice' = cc twice'
  adjusts_live (Perform of part) twice = found_live of part (look s.heap v) live twice

-- What is known while the body of an operation runs that touches storage.
module _ (program : Program) (s : State) (grounds : Grounds program s) (gs : List Suspension) (w : Within program gs s) (stands : Stands program gs s) where
  abbrev form : ProgramForm
  form = program_form program

  abbrev types : List TypeDefinition
  types = program.types.items

  abbrev bodies : List BodyForm
  bodies = body_forms program

  abbrev outermost : Pause program (length w.inner) s
  outermost = w.outermost

  -- What the bodies of these operations go by.
  abbrev thrifty : Allowance
  thrifty = allowance_of form

  abbrev behind_it : List Suspension
  behind_it = origin program (length w.inner) s outermost ∷ outermost.suspensions

  waiting : AllWait (implicit_of form) (seen_in (running_procedure s) form) (callers_of program (w.inner ++ behind_it))
  waiting = subst (λ (all : List Suspension). AllWait (implicit_of form) (seen_in (running_procedure s) form) (callers_of program all)) w.are stands.standing.waiting

  -- What is under way where the outermost operation waits is its object.
  under_outermost : (o : Id) → IsUnder (under_in (callers_of program behind_it)) o → IsUnder (under_way outermost.treatment outermost.object) o
  under_outermost o under =
      elim (either_one (under_way outermost.treatment outermost.object) (under_in (callers_of program outermost.suspensions)) o under) [
        | inl here ↦ here
        | inr later ↦ absurd (subst (λ (none : List Id). IsUnder none o) (none_under program outermost.suspensions w.settled) later)
      ]

  -- No object that the running body may free is under way.
  not_freed : (o : Id) (x : Object) → IsUnder (under_in (callers_of program gs)) o → object_at s.heap o ≡ Some x → may_free program s x.cell.access ≡ true → ⊥
  not_freed o x under found may =
      let so = may_cover program s x.cell.access may in
      none_in program grounds.spares_own s thrifty outermost.behind outermost.lower (running_procedure s) 0 outermost.number behind_it w.inner w.within waiting o x found so.0 so.1
      (λ covered there. under_not program grounds.spares_own s (length w.inner) outermost o x found (under_outermost o there) covered so.0)
      (subst (λ (all : List Suspension). IsUnder (under_in (callers_of program all)) o) w.are under)

  -- In front of what waits for the outermost operation, nothing of another object begins.
  waits_begin : (v : Value) → (v ≢ Names outermost.object) → (treatment : Treatment) → WaitsFor form.types outermost.object outermost.of treatment outermost.tasks outermost.after outermost.behind → NothingBegins v outermost.behind
  waits_begin v ne (begins by done) (part, is) = subst (NothingBegins v) (sym is) ((λ same. ne (sym same)), w.untreated v ne)
  waits_begin v ne (ends cause) (is, inside) = subst (NothingBegins v) (sym is) (treating_begin v (Names outermost.object) cause outermost.tasks outermost.after (w.untreated v ne))

  -- What is left to do initializes and adjusts no other object but those whose operations run inside, if none begins first.
  pub begins_nothing : begins_first s.control ≡ false → (v : Value) → (v ≢ Names outermost.object) → (IsAmong v (operated_among w.inner) → ⊥) → NothingBegins v s.control
  begins_nothing other v ne apart =
      frugal_begin thrifty v outermost.behind (operated_among w.inner) s.mode s.control w.frugal.upper other apart
      (waits_begin v ne outermost.treatment outermost.awaited) w.frugal.frugally

  -- So it is of an object that ends next, behind its treatment.
  pub treated_begin : (v : Value) (cause : Cause) (tasks : List Task) (k : Control) → s.control ≡ frame.Treats v (ends cause) tasks ∷ k
      → IsEnded (ends cause) ⊎ IsLeft (ends cause) → NothingBegins v k
  treated_begin v cause tasks k is inside =
      by cause inside w.frugal.upper
      (subst (λ (all : Control). Frugal thrifty outermost.behind (operated_among w.inner) s.mode all w.frugal.upper) is w.frugal.frugally)
    where
      behind : (ms : List Master) → NoOperationRunsOn v k → FrugalLeads thrifty outermost.behind (operated_among w.inner) k ms → NothingBegins v k
      behind ms alone q =
          let other = other_treated program (length w.inner) s outermost v (leads_alone thrifty v outermost.behind (operated_among w.inner) k ms alone q) in
          leads_begin thrifty v outermost.behind (operated_among w.inner) k ms
          (λ among. operated_runs thrifty v outermost.behind (operated_among w.inner) k ms among q alone)
          (waits_begin v other outermost.treatment outermost.awaited) q

      behind_leaving : (ms : List Master) → NoOperationRunsOn v k → FrugalLeaves thrifty outermost.behind (operated_among w.inner) k ms → NothingBegins v k
      behind_leaving ms alone q =
          let other = other_treated program (length w.inner) s outermost v (leaves_alone thrifty v outermost.behind (operated_among w.inner) k ms alone q) in
          leaves_begin thrifty v outermost.behind (operated_among w.inner) k ms
          (λ among. leaving_runs thrifty v outermost.behind (operated_among w.inner) k ms among q alone)
          (waits_begin v other outermost.treatment outermost.awaited) q

      by : (way : Cause) → IsEnded (ends way) ⊎ IsLeft (ends way) → (ms : List Master)
          → Frugal thrifty outermost.behind (operated_among w.inner) s.mode (frame.Treats v (ends way) tasks ∷ k) ms → NothingBegins v k
      by way here ms (inl q) = behind ms q.0.3 q.1
      by way here ms (inr (inl leaving)) = behind_leaving ms leaving.1.0.3 leaving.1.1
      by way here ms (inr (inr (may, (ending, q)))) = absurd (assigned_outside way ending.0 here)

  -- What is outside of the running body.
  abbrev outer : Outsiders
  outer = outers (known_in program (running_procedure s) gs)

  -- No variable of an activation that waits owns the object.
  abbrev IsNotOutside : Id → Type 0
  IsNotOutside o = IsOwnedOutside outer o → ⊥

  -- So none owns it of those that wait since the outermost operation, and none of those behind.
  none_owned : (o : Id) → IsNotOutside o → IsOwnedAmong (outer_in (callers_of program (w.inner ++ behind_it))) o → ⊥
  none_owned o inside owned = inside (subst (λ (all : List Suspension). IsOwnedAmong (outer_in (callers_of program all)) o) (sym w.are) owned)

  -- The object of the outermost operation is none that the running body may free and that is not owned outside.
  other_object : (o : Id) (x : Object) → object_at s.heap o ≡ Some x → may_free program s x.cell.access ≡ true → IsNotOutside o → Names o ≡ Names outermost.object → ⊥
  other_object o x found may inside same =
      let so = may_cover program s x.cell.access may in
      let covered = covers_outermost program grounds.spares_own s thrifty outermost.behind outermost.lower (running_procedure s) 0 outermost.number behind_it w.inner w.within waiting x.cell.access so.1 in
      operated_not program grounds.spares_own s (length w.inner) outermost outermost.suspensions o x found
      (λ owned. none_owned o inside (owned_further program w.inner behind_it o owned)) (cc same) covered so.0

  -- Nor are those of the operations inside.
  other_objects : (o : Id) (x : Object) → object_at s.heap o ≡ Some x → may_free program s x.cell.access ≡ true → IsNotOutside o → IsAmong (Names o) (operated_among w.inner) → ⊥
  other_objects o x found may inside among =
      let so = may_cover program s x.cell.access may in
      operated_apart program grounds.spares_own s thrifty outermost.behind outermost.lower (running_procedure s) 0 outermost.number behind_it w.inner w.within waiting o x found so.0 so.1
      (none_owned o inside) among

  -- Nothing begins of an object that the running body may free, where it is not owned outside.
  pub freed_begin : begins_first s.control ≡ false → (o : Id) (x : Object) → object_at s.heap o ≡ Some x → may_free program s x.cell.access ≡ true → IsNotOutside o
      → NothingBegins (Names o) s.control
  freed_begin first o x found may inside = begins_nothing first (Names o) (other_object o x found may inside) (other_objects o x found may inside)

  -- So no operation of it runs, where it is in its collection.
  pub listed_alone : begins_first s.control ≡ false → (o : Id) (x : Object) → object_at s.heap o ≡ Some x → x.listed ≡ true → may_free program s x.cell.access ≡ true → IsNotOutside o
      → NoOperationRunsOn (Names o) s.control
  listed_alone first o x found listed may inside = grounds.unrun o x found listed (freed_begin first o x found may inside)

  -- Nor does one run of an object in the master that is left: the objects whose operations run lie in outer ones.
  module _ (low : NamedBelow (outers (known_in program (running_procedure s) gs)) s.heap s.masters) where
    referred_out : (o : Id) (x : Object) → object_at s.heap o ≡ Some x → x.out ≡ true → is_innermost s.masters x.cell.home.item ≡ true
        → (t : ℕ) → IsReferred (referenced_in (callers_of program (w.inner ++ behind_it))) o t → ⊥
    referred_out o x found out inner t is = low.1 o t x (subst (λ (all : List Suspension). IsReferred (referenced_in (callers_of program all)) o t) (sym w.are) is) found out inner

    outermost_out : (o : Id) (x : Object) → object_at s.heap o ≡ Some x → x.out ≡ true → is_innermost s.masters x.cell.home.item ≡ true → Names o ≢ Names outermost.object
    outermost_out o x found out inner same =
        let one : outermost.object ≡ o = cc same in
        referred_out o x found out inner outermost.access
        (others_referred program grounds.spares_own s thrifty outermost.behind outermost.lower behind_it w.inner o outermost.access (inl (one, refl)))

    operated_out : (o : Id) (x : Object) → object_at s.heap o ≡ Some x → x.out ≡ true → is_innermost s.masters x.cell.home.item ≡ true → IsAmong (Names o) (operated_among w.inner) → ⊥
    operated_out o x found out inner among =
        let is = operated_referred program grounds.spares_own s thrifty outermost.behind outermost.lower (running_procedure s) 0 (Some outermost.number) behind_it
        w.inner w.within o among in
        referred_out o x found out inner is.0 is.1

    inner_alone : begins_first s.control ≡ false → (o : Id) (x : Object) → object_at s.heap o ≡ Some x → x.listed ≡ true → x.out ≡ true → is_innermost s.masters x.cell.home.item ≡ true
        → NoOperationRunsOn (Names o) s.control
    inner_alone first o x found listed out inner =
        grounds.unrun o x found listed (begins_nothing first (Names o) (outermost_out o x found out inner) (operated_out o x found out inner))

  pub left_alone :
      Ready (known_in program (running_procedure s) gs) s → s.mode ≡ Running
      → ((left : Mode) (j : Control) → s.control ≡ frame.Leaves left ∷ j → NamedBelow (outers (known_in program (running_procedure s) gs)) s.heap s.masters)
      → LeftAlone s.heap s.masters s.control
  left_alone ready runs low = by s.control refl
    where
      -- The words of an object in its collection are out.
      out_of : (left : Mode) (j : Control) → s.control ≡ frame.Leaves left ∷ j → (o : Id) (x : Object) → object_at s.heap o ≡ Some x → x.listed ≡ true → x.out ≡ true
      out_of left j is o x found listed = let parting = rw (runs, is) at ready.1 in listed_out o x found listed parting.stored

      by : (k : Control) → s.control ≡ k → LeftAlone s.heap s.masters k
      by [] is = tt
      by (frame.Leaves left ∷ j) is =
          λ o x found listed inner. subst (NoOperationRunsOn (Names o)) is (inner_alone (low left j is) (ap begins_first is) o x found listed (out_of left j is o x found listed) inner)
      by (f ∷ j) is = tt

  -- An operation runs behind the call of the running body: the outermost one.
  waits_operated : (treatment : Treatment) → WaitsFor form.types outermost.object outermost.of treatment outermost.tasks outermost.after outermost.behind → NoOperationRuns outermost.behind → ⊥
  waits_operated (begins by done) (part, is) none = let waits = (subst NoOperationRuns is none).0 in cc waits
  waits_operated (ends cause) (is, inside) none = let waits = (subst NoOperationRuns is none).0 in cc waits

  pub touching_runs : IsCalm (behind_call s.control) → ⊥
  touching_runs calm = waits_operated outermost.treatment outermost.awaited (frugal_calm thrifty outermost.behind (operated_among w.inner) s.mode s.control w.frugal.upper calm w.frugal.frugally)

  -- So no object that is under way, or has gone with its collection, is one that the running body may free.
  pub none_is_under : NoneIsUnder (may_free program s) (under_in (callers_of program gs)) s.heap
  none_is_under o x (inl under) found = false_from_ne_true (may_free program s x.cell.access) (λ may. not_freed o x under found may)
  none_is_under o x (inr gone) found = (grounds.departed o x gone).unfreed touching_runs

  -- Each object that may be freed, and is not owned outside, stands.
  stand : begins_first s.control ≡ false → (forms : List TypeForm) → AllStand (may_free program s) forms outer s.heap
  stand first forms o x found listed of may inside = grounds.stands touching_runs o x found listed (freed_begin first o x found may inside) may

  -- A state with these parts.
  state_is : (mode : Mode) (k : Control) → s.mode ≡ mode → s.control ≡ k → s ≡ record s { mode = mode; control = k }
  state_is mode k runs is =
      subst (λ (m : Mode). s ≡ record s { mode = m; control = k }) runs
      (subst (λ (j : Control). s ≡ record s { control = j }) is refl)

  module _ (ready : Ready (known_in program (running_procedure s) gs) s) where
    -- An object that is treated next has values of all parts that are to be finalized: no other operation of it runs.
    treated : (v : Value) (treatment : Treatment) (tasks : List Task) (k : Control) → s.mode ≡ Running → s.control ≡ frame.Treats v treatment tasks ∷ k → NoOperationRunsOn v k → (forms : List TypeForm)
        → FinalizesBy (may_free program s) forms outer types bodies (frame.Treats v treatment tasks) (record s { mode = Running; control = k })
    unfolding next
    treated v treatment tasks k runs is alone forms = λ twice.
        grounds.exist v treatment tasks k is alone
        (subst (λ (t : State). Halts program t (Erroneous FinalizesTwice)) (sym (state_is Running (frame.Treats v treatment tasks ∷ k) runs is)) twice)

    -- Where the body of an operation itself assigns to a record, each part that is finalized has a value,
    assigned : (v : Value) (number : ℕ) (tasks : List Task) (first t : ℕ) (k : Control) (ms : List Master) → s.mode ≡ Running → s.control ≡ frame.Treats v (ends (Assigning number)) tasks ∷ frame.Copies first t ∷ k
        → own_in k ≡ true → FrugalBegins thrifty outermost.behind (operated_among w.inner) k ms → (forms : List TypeForm)
        → FinalizesBy (may_free program s) forms outer types bodies (frame.Treats v (ends (Assigning number)) tasks) (record s { mode = Running; control = frame.Copies first t ∷ k })
    unfolding next
    assigned v number tasks first t k ms runs is own q forms = λ twice.
        grounds.assigned v number tasks first t k is
        (begins_run_alone thrifty v outermost.behind (waits_alone program (length w.inner) s outermost v w.alone) (operated_among w.inner) k ms own q)
        (subst (λ (t' : State). Halts program t' (Erroneous FinalizesTwice)) (sym (state_is Running (frame.Treats v (ends (Assigning number)) tasks ∷ frame.Copies first t ∷ k) runs is)) twice)

    -- and the object of what is adjusted is there.
    adjusted : (v : Value) (number : ℕ) (done : List parts.Part) (tasks : List Task) (k : Control) → s.mode ≡ Running → s.control ≡ frame.Treats v (begins (Adjustment number) done) tasks ∷ k → (forms : List TypeForm)
        → FinalizesBy (may_free program s) forms outer types bodies (frame.Treats v (begins (Adjustment number) done) tasks) (record s { mode = Running; control = k })
    adjusted v number done tasks k runs is forms = λ twice. adjusts_live types bodies v (Adjustment number) done tasks (record s { mode = Running; control = k }) live (task_next tasks) twice
      where
        known : Known
        known = known_in program (running_procedure s) gs

        by_ready : ReadyIn known Running (frame.Treats v (begins (Adjustment number) done) tasks ∷ k) s.heap (places s) (operands s) s.masters
        by_ready = subst (λ (mode : Mode). ReadyIn known mode (frame.Treats v (begins (Adjustment number) done) tasks ∷ k) s.heap (places s) (operands s) s.masters) runs
            (subst (λ (j : Control). ReadyIn known s.mode j s.heap (places s) (operands s) s.masters) is ready.1)

        live : look s.heap v ≡ on_gone → ⊥
        live gone = adjusted_live s.heap by_ready.0.o by_ready.0.x by_ready.0.found by_ready.0.there (ap (look s.heap) (sym by_ready.0.is) ∙ gone)

    by_frame :
        (g : Frame Value) (k : Control) (ms : List Master) → s.mode ≡ Running → s.control ≡ g ∷ k → Frugal thrifty outermost.behind (operated_among w.inner) Running (g ∷ k) ms → (forms : List TypeForm)
        → FinalizesBy (may_free program s) forms outer types bodies g (record s { mode = Running; control = k })
    by_frame (frame.Does fs) k ms runs is q forms = stand (ap begins_first is) forms
    by_frame (frame.FreesIn access c) k ms runs is q forms = stand (ap begins_first is) forms
    by_frame (frame.Treats v treatment tasks) k ms runs is (inl q) forms = treated v treatment tasks k runs is q.0.3 forms
    by_frame (frame.Treats v treatment tasks) k ms runs is (inr (inl leaving)) forms = treated v treatment tasks k runs is leaving.1.0.3 forms
    by_frame (frame.Treats v (begins birth done) tasks) k ms runs is (inr (inr (may, (inl fresh, q)))) forms = treated v (begins birth done) tasks k runs is fresh.2 forms
    by_frame (frame.Treats v (begins Creation done) tasks) k ms runs is (inr (inr (may, (inr adjusting, q)))) forms = absurd adjusting.0
    by_frame (frame.Treats v (begins Copy done) tasks) k ms runs is (inr (inr (may, (inr adjusting, q)))) forms = treated v (begins Copy done) tasks k runs is adjusting.1.2 forms
    by_frame (frame.Treats v (begins (Adjustment number) done) tasks) k ms runs is (inr (inr (may, (inr adjusting, q)))) forms = adjusted v number done tasks k runs is forms
    by_frame (frame.Treats v (ends (Leaving m item)) tasks) k ms runs is (inr (inr (may, (ending, q)))) forms = absurd ending.0
    by_frame (frame.Treats v (ends (Freeing number)) tasks) k ms runs is (inr (inr (may, (ending, q)))) forms = absurd ending.0
    by_frame (frame.Treats v (ends (Undoing number)) tasks) k ms runs is (inr (inr (may, (ending, q)))) forms = absurd ending.0
    by_frame (frame.Treats v (ends (Assigning number)) tasks) [] ms runs is (inr (inr (may, (ending, q)))) forms = absurd q
    by_frame (frame.Treats v (ends (Assigning number)) tasks) (frame.Copies first t ∷ k) ms runs is (inr (inr (may, ((assigns, copies, (treats, replacing, inl (own, known))), q)))) forms =
        assigned v number tasks first t k ms runs is own q forms
    by_frame (frame.Treats v (ends (Assigning number)) tasks) (frame.Copies first t ∷ k) ms runs is (inr (inr (may, ((assigns, copies, (treats, replacing, inr alone)), q)))) forms =
        treated v (ends (Assigning number)) tasks (frame.Copies first t ∷ k) runs is alone forms
    by_frame (frame.Treats v (ends (Assigning number)) tasks) (f ∷ k) ms runs is (inr (inr (may, (ending, q)))) forms = let copies = ending.1 in absurd (cc copies)
    by_frame g k ms runs is q forms = tt

    by_mode : (mode : Mode) (k : Control) (ms : List Master) → s.mode ≡ mode → s.control ≡ k → Frugal thrifty outermost.behind (operated_among w.inner) mode k ms → (forms : List TypeForm) → FinalizesIn (may_free program s) forms outer types bodies mode k s
    by_mode Running [] ms runs is q forms = tt
    by_mode Running (g ∷ k) ms runs is q forms = by_frame g k ms runs is q forms
    by_mode (Raising e) k ms runs is q forms = tt
    by_mode Exiting k ms runs is q forms = tt
    by_mode Returning k ms runs is q forms = tt

    -- Each object that may be freed, and is not owned outside, stands, and no treatment finalizes a value that does not exist.
    pub touching_stands : (forms : List TypeForm) → FinalizesIn (may_free program s) forms outer types bodies s.mode s.control s
    touching_stands forms = by_mode s.mode s.control w.frugal.upper refl refl w.frugal.frugally forms

-- An object that is finalized has left its collection by the end of the body.
pub touching_unlisted :
    (program : Program) (s : State) → Grounds program s → (f : Pause program 0 s) → s.control ≡ frame.Returns [] [] ∷ f.behind → (cause : Cause) → IsEnd cause → f.treatment ≡ ends cause
    → f.x.listed ≡ false
touching_unlisted program s grounds f ends_next cause end is = go f.x.listed refl
  where
    waits : WaitsFor (program_form program).types f.object f.of (ends cause) f.tasks f.after f.behind
    waits = rw is at f.awaited

    rests : RestsBy (known_in program f.procedure f.suspensions) cause f.held f.watch f.object f.access f.home f.places f.operands f.also f.after f.lower f.rooms f.holds
    rests = rw is at f.rests

    -- Nothing begins behind its end.
    behind_by : RestsAtEnd (known_in program f.procedure f.suspensions) f.object f.access f.home f.places f.after f.lower f.rooms f.holds → NothingBegins (Names f.object) f.after
    behind_by (inl resting) = rw (resting.is) (resting.untreated)
    behind_by (inr (inl undoes)) = rw (undoes.is) (undoes.untreated)
    behind_by (inr (inr empties)) = rw (empties.is) (empties.untreated)

    behind_owned : RestsAsOwned (known_in program f.procedure f.suspensions) f.held f.watch f.object f.access f.home f.places f.after f.lower f.rooms f.holds → NothingBegins (Names f.object) f.after
    behind_owned (inl (held, resting)) = behind_by resting
    behind_owned (inr (inl releases)) = rw (releases.is) (releases.untreated)
    behind_owned (inr (inr (unheld, departing))) = rw (departing.is) (departing.untreated)

    behind_end : (by : Cause) → IsEnd by → RestsBy (known_in program f.procedure f.suspensions) by f.held f.watch f.object f.access f.home f.places f.operands f.also f.after f.lower f.rooms f.holds → NothingBegins (Names f.object) f.after
    behind_end (Leaving m item) e r = behind_owned r.1
    behind_end (Freeing number) e r = behind_owned r.1
    behind_end (Assigning number) e r = absurd e
    behind_end (Undoing number) e r = behind_owned r.1

    -- Nothing that is left to do initializes or adjusts it.
    none_begins : NothingBegins (Names f.object) s.control
    none_begins =
        let behind = subst (NothingBegins (Names f.object)) (sym waits.0) (treating_begin (Names f.object) (Names f.object) cause f.tasks f.after (behind_end cause end rests)) in
        subst (NothingBegins (Names f.object)) (sym ends_next) behind

    never : f.x.listed ≡ true → ⊥
    never listed =
        let o = Names f.object in
        let none = grounds.unrun f.object f.x f.found listed none_begins in
        let behind : NoOperationRunsOn o f.behind = subst (NoOperationRunsOn o) ends_next none in
        let confined : NoOperationRunsOn o (frame.Confines ∷ treating o (ends cause) f.tasks f.after) =
        subst (NoOperationRunsOn o) waits.0 behind in
        confined.0 (treating_before o cause f.tasks f.after (finalized_by (known_in program f.procedure f.suspensions) cause f.held f.watch f.object f.access f.home f.places f.operands f.also f.after f.lower f.rooms f.holds rests))

    go : (b : Bool) → f.x.listed ≡ b → b ≡ false
    go true listed = absurd (never listed)
    go false listed = refl
