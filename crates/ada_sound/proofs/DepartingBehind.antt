-- What is behind the end of an operation that runs for a member of a collection that goes (7.6.1): there is one such end, all masters of the bodies have been left
-- there, and no body goes on in front of what is left of the member.

use Rattle.std.proofs.Common.{◌≡◌, ℕ, zero, suc, ◌<◌, ◌≤◌, Bool, false, List, [], ◌∷◌, ◌++◌, length, refl, sym, ap, subst, ◌∙◌, ◌⊎◌, inl, inr, arith}
use Rattle.std.specs.Prelude.{Option, Some, ◌==◌}
use Rattle.std.specs.List.{All, AllPairs}
use Rattle.std.proofs.lemmas.Bool.{and_parts, eqb-true, or_parts}
use Rattle.ada_deeds.specs.declared.deed.Deed.TheVariants.{Follows}
use Rattle.ada_deeds.specs.declared.deed.Operation.TheVariants.{Finalize}
use Rattle.ada_deeds.specs.Forms.{parts_do}
use Rattle.ada_deeds.specs.Implicit.{implicit_of, record_at}
use Rattle.ada_deeds.specs.Within.{does_by}
use Rattle.ada_finalized.specs.Law.{NoOperationRuns}
use Rattle.ada_program.specs.declared.program.Program.{Program}
use Rattle.ada_program.specs.declared.program.TypeDefinition.{TypeDefinition}
use Rattle.ada_program.specs.Nested.{Callees}
use Rattle.ada_program.specs.ProgramForm.{ProgramForm, TypeForm, body_forms}
use Rattle.ada_meaning.specs.declared.state.Id.{Id}
use Rattle.ada_meaning.specs.declared.state.Mode.{Mode}
use Rattle.ada_meaning.specs.declared.state.Mode.TheVariants.{Running, Raising, Exiting, Returning}
use Rattle.ada_meaning.specs.declared.state.Value.{Value}
use Rattle.ada_meaning.specs.Event.{Quiet}
use Rattle.ada_meaning.specs.Frame as frame
use Rattle.ada_meaning.specs.Frame.{Frame, begins, ends, is_return, Leaves, Returns}
use Rattle.ada_meaning.specs.Law.{items_of, Falls}
use Rattle.ada_meaning.specs.Named.{Object, State, next}
use Rattle.ada_meaning.specs.State.{Activation, Item, Master, type_housed}
use Rattle.ada_meaning.specs.Step.{moves, older, procedure_of}
use Rattle.ada_reaching.specs.Apart.{Apart}
use Rattle.ada_reaching.specs.Law.{FirstHousesIts, NewestHousesIts, none_hidden}
use Rattle.ada_reaching.specs.Reaching.{IsReaching, LeftShuns, none_unnamed}
use Rattle.ada_scopes.proofs.Control as nesting
use Rattle.ada_scopes.proofs.Homes.{HasHome, Housed, housed_after}
use Rattle.ada_scopes.proofs.Runs.{Scoped}
use Rattle.ada_typed.proofs.Kept.{behind_call}
use Rattle.ada_untouched.specs.Untouched.{Untouched}
use Rattle.ada_sound.proofs.Allowance.{Allowance}
use Rattle.ada_sound.proofs.FrugalControl.{Frugal, FrugalBegins, FrugalLeads, FrugalLeaves, FrugalOperated, MayLeave}
use Rattle.ada_sound.proofs.Invariant.{Control, Known, ReadyIn}
use Rattle.ada_sound.proofs.Operating.{Comes, IsCalm, Sight}
use Rattle.ada_sound.proofs.OrdinarySteps.{state_with}
use Rattle.ada_sound.proofs.TouchingStands.{frugal_calm}

-- A master may be left, where nothing goes wrong.
may_leave : (k : Control) → MayLeave Running k
may_leave [] = refl
may_leave (frame.Confines ∷ k) = tt
may_leave (f ∷ k) = refl

-- What is left of bodies that shun access types, in front of the end of the outermost one, in masters of their own.
module _ (p : ProgramForm) (shuns : ℕ → Bool) (apart : Apart) (ghosts : Id → Bool) (behind : Control) (lower : List Master) where
  -- What is left of them.
  abbrev Left : Option ℕ → Control → List Master → List (Activation Value) → Type 0
  Left procedure k own suspended = LeftShuns p shuns apart ghosts none_unnamed behind lower procedure k own suspended

  -- Behind a frame that ends no body, less of them is left, in the same masters, or in all of these but the innermost one.
  pub left_behind : (procedure : Option ℕ) (f : Frame Value) (k : Control) (own : List Master) (suspended : List (Activation Value)) → is_return f ≡ false
      → Left procedure (f ∷ k) own suspended → (outer : List Master) × Left procedure k outer suspended
  left_behind procedure (Returns actuals references) k own suspended goes_on left = absurd (cc goes_on)
  left_behind procedure (frame.Elaborates ds fs hs) k [] suspended goes_on left = absurd left.2
  left_behind procedure (frame.Elaborates ds fs hs) k (m ∷ own) suspended goes_on left = (own, left.2.1)
  left_behind procedure frame.Closes k [] suspended goes_on left = absurd left.2
  left_behind procedure frame.Closes k (m ∷ own) suspended goes_on left = (own, left.2.1)
  left_behind procedure (Leaves mode) k [] suspended goes_on left = absurd left.2
  left_behind procedure (Leaves mode) k (m ∷ own) suspended goes_on left = (own, left.2.1)
  left_behind procedure (frame.Declares x) k [] suspended goes_on left = absurd left.2
  left_behind procedure (frame.Declares x) k (m ∷ own) suspended goes_on left = (m ∷ own, left.2)
  left_behind procedure (frame.DeclaresRecord x t) k [] suspended goes_on left = absurd left.2
  left_behind procedure (frame.DeclaresRecord x t) k (m ∷ own) suspended goes_on left = (m ∷ own, left.2)
  left_behind procedure f k own suspended goes_on left = (own, left.2)

  -- Where an operation runs behind that end, one runs in front of it.
  module _ (waits : NoOperationRuns behind → ⊥) where
    -- It runs in front of that.
    left_waits : (procedure : Option ℕ) (k : Control) (own : List Master) (suspended : List (Activation Value)) → Left procedure k own suspended → NoOperationRuns k → ⊥
    left_waits procedure [] own suspended left none = left
    left_waits procedure (Returns actuals references ∷ k) own suspended (inl last) none = let same : k ≡ behind = cc last.0 in waits (subst NoOperationRuns same none.1)
    left_waits procedure (Returns actuals references ∷ k) own suspended (inr inner) none =
        left_waits (procedure_of suspended) k own (older suspended) inner.others none.1
    left_waits procedure (f ∷ k) own suspended left none =
        let further = left_behind procedure f k own suspended refl left in left_waits procedure k further.0 suspended further.1 none.1

    -- So one runs behind the call of the running body.
    left_not_calm : (procedure : Option ℕ) (k : Control) (own : List Master) (suspended : List (Activation Value)) → Left procedure k own suspended → IsCalm (behind_call k) → ⊥
    left_not_calm procedure [] own suspended left calm = left
    left_not_calm procedure (Returns actuals references ∷ k) own suspended (inl last) calm = let same : k ≡ behind = cc last.0 in waits (subst NoOperationRuns same calm)
    left_not_calm procedure (Returns actuals references ∷ k) own suspended (inr inner) calm =
        left_waits (procedure_of suspended) k own (older suspended) inner.others calm
    left_not_calm procedure (f ∷ k) own suspended left calm =
        let further = left_behind procedure f k own suspended refl left in left_not_calm procedure k further.0 suspended further.1 calm

    -- So it is in each such state.
    pub reaching_not_calm : (s : State) → IsReaching p shuns apart ghosts none_unnamed behind lower s → IsCalm (behind_call s.control) → ⊥
    reaching_not_calm s reaching calm = left_not_calm (procedure_of s.activations) s.control reaching.upper (older s.activations) reaching.control calm

  -- There is more to do than what is behind that end.
  left_longer : (procedure : Option ℕ) (k : Control) (own : List Master) (suspended : List (Activation Value)) → Left procedure k own suspended
      → suc (length behind) ≤ length k
  left_longer procedure [] own suspended left = absurd left
  left_longer procedure (Returns actuals references ∷ k) own suspended (inl last) =
      let same : k ≡ behind = cc last.0 in let long = ap length same in omega (arith, long)
  left_longer procedure (Returns actuals references ∷ k) own suspended (inr inner) =
      let longer = left_longer (procedure_of suspended) k own (older suspended) inner.others in omega (arith, longer)
  left_longer procedure (f ∷ k) own suspended left =
      let further = left_behind procedure f k own suspended refl left in
      let longer = left_longer procedure k further.0 suspended further.1 in
      omega (arith, longer)

  -- The outermost one ends next, or not.
  pub ends_or_not : (procedure : Option ℕ) (k : Control) (own : List Master) (suspended : List (Activation Value)) → Left procedure k own suspended
      → (k ≡ Returns [] [] ∷ behind) ⊎ (k ≡ Returns [] [] ∷ behind → ⊥)
  ends_or_not procedure [] own suspended left = absurd left
  ends_or_not procedure (Returns actuals references ∷ k) own suspended (inl last) = inl last.0
  ends_or_not procedure (Returns actuals references ∷ k) own suspended (inr inner) =
      inr (λ is.
      let same : k ≡ behind = cc is in
      let long = ap length same in
      let longer = left_longer (procedure_of suspended) k own (older suspended) inner.others in
      omega (arith, long, longer))
  ends_or_not procedure (f ∷ k) own suspended left = inr (λ is. cc is)

  -- Where it ends next, all masters of the bodies have been left.
  pub last_masters : (procedure : Option ℕ) (own : List Master) (suspended : List (Activation Value)) → Left procedure (Returns [] [] ∷ behind) own suspended → own ≡ []
  last_masters procedure own suspended (inl last) = last.1
  last_masters procedure own suspended (inr inner) =
      let longer = left_longer (procedure_of suspended) behind own (older suspended) inner.others in absurd (omega (arith, longer))

  -- Frugal bodies go on up to the same end, where no operation runs behind what is behind it, of the one and of the other.
  module _ (waits : NoOperationRuns behind → ⊥) (calm : IsCalm (behind_call behind)) (frugal : Allowance) (back : Control) (back_waits : NoOperationRuns back → ⊥) (back_calm : IsCalm (behind_call back)) where
    -- Behind an operation one runs there.
    operated_calm : (among : List Value) (k : Control) (ms : List Master) → IsCalm (behind_call k) → FrugalOperated frugal back among k ms → ⊥
    operated_calm among [] ms calm_there q = q
    operated_calm among (frame.Confines ∷ k) ms calm_there (vs, is, inl (ending, q)) = back_waits (frugal_calm frugal back vs Running k ms calm_there (inl q))
    operated_calm among (frame.Confines ∷ k) ms calm_there (vs, is, inr (inl (ending, q))) =
        back_waits (frugal_calm frugal back vs Running k ms calm_there (inr (inl (may_leave k, q))))
    operated_calm among (frame.Confines ∷ k) ms calm_there (vs, is, inr (inr (ending, q))) =
        back_waits (frugal_calm frugal back vs Running k ms calm_there (inr (inr (tt, q))))
    operated_calm among (frame.Awaits v by done of part tasks ∷ k) ms calm_there (vs, is, beginning, q) =
        back_waits (frugal_calm frugal back vs Running k ms calm_there (inl q))
    operated_calm among (f ∷ k) ms calm_there q = q

    mutual
      -- Where no master is being left.
      leads_same :
          (among : List Value) (k : Control) (ms : List Master) (procedure : Option ℕ) (own : List Master) (suspended : List (Activation Value))
          → FrugalLeads frugal back among k ms → Left procedure k own suspended → back ≡ behind
      leads_same among [] ms procedure own suspended q left = absurd q
      leads_same among (Returns actuals references ∷ k) ms procedure own suspended (inl q) (inl last) = let same : k ≡ behind = cc last.0 in sym q.2 ∙ same
      leads_same among (Returns actuals references ∷ k) ms procedure own suspended (inl q) (inr inner) =
          absurd (left_not_calm waits (procedure_of suspended) k own (older suspended) inner.others (subst (λ (j : Control). IsCalm (behind_call j)) (sym q.2) back_calm))
      leads_same among (Returns actuals references ∷ k) ms procedure own suspended (inr (inl q)) (inl last) =
          let same : k ≡ behind = cc last.0 in
          absurd (back_waits (frugal_calm frugal back among Running k ms (subst (λ (j : Control). IsCalm (behind_call j)) (sym same) calm) (inl q)))
      leads_same among (Returns actuals references ∷ k) ms procedure own suspended (inr (inr q)) (inl last) =
          let same : k ≡ behind = cc last.0 in
          absurd (operated_calm among k ms (subst (λ (j : Control). IsCalm (behind_call j)) (sym same) calm) q)
      leads_same among (Returns actuals references ∷ k) ms procedure own suspended (inr (inl q)) (inr inner) =
          leads_same among k ms (procedure_of suspended) own (older suspended) q inner.others
      leads_same among (Returns actuals references ∷ k) ms procedure own suspended (inr (inr q)) (inr inner) =
          operated_same among k ms (procedure_of suspended) own (older suspended) q inner.others
      leads_same among (frame.Elaborates ds fs hs ∷ k) [] procedure own suspended q left = absurd q
      leads_same among (frame.Elaborates ds fs hs ∷ k) (m ∷ ms) procedure own suspended q left =
          let further = left_behind procedure (frame.Elaborates ds fs hs) k own suspended refl left in leads_same among k ms procedure further.0 suspended q.1 further.1
      leads_same among (frame.Closes ∷ k) [] procedure own suspended q left = absurd q
      leads_same among (frame.Closes ∷ k) (m ∷ ms) procedure own suspended q left =
          let further = left_behind procedure frame.Closes k own suspended refl left in leads_same among k ms procedure further.0 suspended q.1 further.1
      leads_same among (frame.Declares x ∷ k) [] procedure own suspended q left = absurd q
      leads_same among (frame.Declares x ∷ k) (m ∷ ms) procedure own suspended q left =
          let further = left_behind procedure (frame.Declares x) k own suspended refl left in leads_same among k (m ∷ ms) procedure further.0 suspended q.1 further.1
      leads_same among (frame.DeclaresRecord x t ∷ k) [] procedure own suspended q left = absurd q
      leads_same among (frame.DeclaresRecord x t ∷ k) (m ∷ ms) procedure own suspended q left =
          let further = left_behind procedure (frame.DeclaresRecord x t) k own suspended refl left in leads_same among k (m ∷ ms) procedure further.0 suspended q.1 further.1
      leads_same among (f ∷ k) ms procedure own suspended q left =
          let further = left_behind procedure f k own suspended refl left in leads_same among k ms procedure further.0 suspended q.1 further.1

      -- Where one is.
      leaves_same :
          (among : List Value) (k : Control) (ms : List Master) (procedure : Option ℕ) (own : List Master) (suspended : List (Activation Value))
          → FrugalLeaves frugal back among k ms → Left procedure k own suspended → back ≡ behind
      leaves_same among [] ms procedure own suspended q left = absurd q
      leaves_same among (Leaves exit ∷ k) [] procedure own suspended q left = absurd q
      leaves_same among (Leaves exit ∷ k) (m ∷ ms) procedure own suspended q left =
          let further = left_behind procedure (Leaves exit) k own suspended refl left in leads_same among k ms procedure further.0 suspended q.1 further.1
      leaves_same among (frame.Ends v ∷ k) ms procedure own suspended q left = leaves_same among k ms procedure own suspended q left.2
      leaves_same among (frame.GivesBack v cause pool ∷ k) ms procedure own suspended q left = leaves_same among k ms procedure own suspended q left.2
      leaves_same among (frame.Treats v treatment tasks ∷ k) ms procedure own suspended q left = leaves_same among k ms procedure own suspended q.1 left.2
      leaves_same among (frame.Confines ∷ k) ms procedure own suspended q left = leaves_same among k ms procedure own suspended q.1 left.2
      leaves_same among (f ∷ k) ms procedure own suspended q left = absurd q

      -- So it is behind an operation.
      operated_same :
          (among : List Value) (k : Control) (ms : List Master) (procedure : Option ℕ) (own : List Master) (suspended : List (Activation Value))
          → FrugalOperated frugal back among k ms → Left procedure k own suspended → back ≡ behind
      operated_same among [] ms procedure own suspended q left = absurd q
      operated_same among (frame.Confines ∷ k) ms procedure own suspended (vs, is, inl (ending, q)) left = leads_same vs k ms procedure own suspended q left.2
      operated_same among (frame.Confines ∷ k) ms procedure own suspended (vs, is, inr (inl (ending, q))) left = leaves_same vs k ms procedure own suspended q left.2
      operated_same among (frame.Confines ∷ k) ms procedure own suspended (vs, is, inr (inr (ending, q))) left = begins_same vs k ms procedure own suspended q left.2
      operated_same among (frame.Awaits v by done of part tasks ∷ k) ms procedure own suspended (vs, is, beginning, q) left =
          leads_same vs k ms procedure own suspended q left.2
      operated_same among (f ∷ k) ms procedure own suspended q left = absurd q

      -- Where a new object begins first, or a record is assigned to.
      begins_same :
          (among : List Value) (k : Control) (ms : List Master) (procedure : Option ℕ) (own : List Master) (suspended : List (Activation Value))
          → FrugalBegins frugal back among k ms → Left procedure k own suspended → back ≡ behind
      begins_same among [] ms procedure own suspended q left = absurd q
      begins_same among (frame.Treats v (begins by done) tasks ∷ k) ms procedure own suspended q left = leads_same among k ms procedure own suspended q.1 left.2
      begins_same among (frame.Treats v (ends cause) tasks ∷ k) ms procedure own suspended q left = begins_same among k ms procedure own suspended q.1 left.2
      begins_same among (frame.Awaits v by done of part tasks ∷ k) ms procedure own suspended q left = leads_same among k ms procedure own suspended q.1 left.2
      begins_same among (frame.Copies first t ∷ k) ms procedure own suspended q left =
          let further = left_behind procedure (frame.Copies first t) k own suspended refl left in begins_same among k ms procedure further.0 suspended q further.1
      begins_same among (frame.StoresRecord v first count ∷ k) ms procedure own suspended (inl (same, q)) left =
          let further = left_behind procedure (frame.StoresRecord v first count) k own suspended refl left in begins_same among k ms procedure further.0 suspended q further.1
      begins_same among (frame.StoresRecord v first count ∷ k) ms procedure own suspended (inr q) left =
          let further = left_behind procedure (frame.StoresRecord v first count) k own suspended refl left in leads_same among k ms procedure further.0 suspended q further.1
      begins_same among (frame.Confines ∷ k) ms procedure own suspended q left = begins_same among k ms procedure own suspended q.1 left.2
      begins_same among (f ∷ k) ms procedure own suspended q left = absurd q

    -- Wherever they are.
    pub same_end :
        (among : List Value) (mode : Mode) (k : Control) (ms : List Master) (procedure : Option ℕ) (own : List Master) (suspended : List (Activation Value))
        → Frugal frugal back among mode k ms → Left procedure k own suspended → back ≡ behind
    same_end among mode k ms procedure own suspended (inl q) left = leads_same among k ms procedure own suspended q left
    same_end among mode k ms procedure own suspended (inr (inl (may, leaving))) left = leaves_same among k ms procedure own suspended leaving left
    same_end among mode k ms procedure own suspended (inr (inr (may, beginning))) left = begins_same among k ms procedure own suspended beginning left

-- Where the numbers of items fall, the newest item is the only one of its number.
home_newest : (n access : ℕ) (pool : Option ℕ) (i : Item) (is : List Item) → n ≡ i.number → AllPairs Falls (i ∷ is) → HasHome n access pool (i ∷ is)
    → type_housed i.owned ≡ Some access
home_newest n access pool i is same falls (inl here) = here.1
home_newest n access pool i is same falls (inr later) =
    let less = below is (λ d j at. falls zero (suc d) j (omega arith) (omega (arith, at))) later in absurd (omega (arith, less, same))
  where
    below : (js : List Item) → All (Falls i) js → HasHome n access pool js → n < i.number
    below [] all has = absurd has
    below (j ∷ js) all (inl here) = let less = all zero j (omega arith) in let at = here.0 in omega (arith, less, at)
    below (j ∷ js) all (inr further) = below js (λ d l at. all (suc d) l (omega (arith, at))) further

-- So each object that goes with it is of its type.
newest_houses : (heap : List Object) (is js : List Item) → AllPairs Falls (is ++ js) → Housed heap (is ++ js) → NewestHousesIts heap is
newest_houses heap [] js falls housed = tt
newest_houses heap (i ∷ is) js falls housed = λ o x found member.
    let both = and_parts x.listed (x.cell.home.item == i.number) member in
    home_newest x.cell.home.item x.cell.access x.cell.home.pool i (is ++ js) (eqb-true x.cell.home.item i.number both.1) falls (housed o x found both.0)

-- So it is where the innermost master is left first.
first_houses : (k : Control) (heap : List Object) (ms : List Master) → AllPairs Falls (items_of ms) → Housed heap (items_of ms) → FirstHousesIts k heap ms
first_houses (Leaves mode ∷ k) heap [] falls housed = tt
first_houses (Leaves mode ∷ k) heap (m ∷ ms) falls housed = newest_houses heap m.items (items_of ms) falls housed
first_houses k heap ms falls housed = tt

-- Where collections nest, each object that is in its collection has that among the items.
nested_housed : (types : List TypeForm) (callees : Callees) (main : Option (List ℕ)) (calling : Bool) (s : State) → nesting.Nested types callees main calling s → Housed s.heap (items_of s.masters)
nested_housed types callees main calling s (nesting.standing ss w n) = w.housed
nested_housed types callees main calling s (nesting.beginning b) =
    subst (λ (ms : List Master). Housed s.heap (items_of ms)) (sym b.masters) (housed_after s.heap b.m.items (items_of b.rest) b.growing.housed)
nested_housed types callees main calling s (nesting.parting ss w runs goes) = w.housed
nested_housed types callees main calling s (nesting.resting ss w none done) = w.housed

-- So in such a state each object that goes with the newest item of a master that is left is of that item's type.
pub scoped_houses : (p : ProgramForm) (s : State) → Scoped p s → AllPairs Falls (items_of s.masters) → FirstHousesIts s.control s.heap s.masters
scoped_houses p s scoped falls = first_houses s.control s.heap s.masters falls (nested_housed p.types _ _ _ s scoped.nested)

-- Where a jump is on its way, nothing is ready there.
pub confines_running : (known : Known) (mode : Mode) (k : Control) (heap : List Object) (places operands : List Value) (masters : List Master) → ReadyIn known mode (frame.Confines ∷ k) heap places operands masters
    → mode ≡ Running
confines_running known Running k heap places operands masters ready = refl
confines_running known (Raising e) k heap places operands masters ready = absurd (ready.rest)
confines_running known Exiting k heap places operands masters ready = absurd (ready.rest)
confines_running known Returning k heap places operands masters ready = absurd (ready.rest)

-- No body that touches no storage runs in front of the end of a member.
pub none_quiet : (sight : Sight) (back : Control) (ms : List Master) (mode : Mode) (k : Control) (operands : List Value) → Comes sight back ms mode (frame.Confines ∷ k) operands → ⊥
none_quiet sight back ms mode k operands (inl (scalars, goes, leads)) = leads
none_quiet sight back ms mode k [] (inr (runs, finds)) = finds
none_quiet sight back ms mode k (v ∷ vs) (inr (runs, finds)) = finds

-- What the end of an object does not reach, it does not free (13.11.2).
pub unreached_unfreed : (p : ProgramForm) (access t : ℕ) → (implicit_of p).end_reaches access t ≡ false → (implicit_of p).end_frees access t ≡ false
unreached_unfreed p access t none =
    (or_parts ((implicit_of p).end_frees access t) (parts_do (does_by p (Follows (record { 0 = t }))) Finalize (record_at p.types access)) none).0

-- The outermost body ends: what is behind it comes next.
pub record BodyEnds (program : Program) (behind : Control) (s : State) : Type 0 where
  pub after : State
  pub is : next program.types.items (body_forms program) s ≡ moves Quiet after
  pub control : after.control ≡ behind
  pub heap : after.heap ≡ s.heap
  pub masters : after.masters ≡ s.masters

-- It does, in whatever mode.
pub body_ends : (program : Program) (behind : Control) (mode : Mode) (acts : List (Activation Value)) (s : State) → BodyEnds program behind (state_with mode (Returns [] [] ∷ behind) acts s)
unfolding next
body_ends program behind Running acts s = record { after = _; is = refl; control = refl; heap = refl; masters = refl }
body_ends program behind (Raising e) acts s = record { after = _; is = refl; control = refl; heap = refl; masters = refl }
body_ends program behind Exiting acts s = record { after = _; is = refl; control = refl; heap = refl; masters = refl }
body_ends program behind Returning acts s = record { after = _; is = refl; control = refl; heap = refl; masters = refl }

-- Such a step looks at no object.
pub returns_untouched : (types : List TypeDefinition) (ghosts : Id → Bool) (mode : Mode) (behind : Control) (acts : List (Activation Value)) (s : State) → Untouched types none_hidden ghosts (state_with mode (Returns [] [] ∷ behind) acts s)
returns_untouched types ghosts Running behind acts s = tt
returns_untouched types ghosts (Raising e) behind acts s = tt
returns_untouched types ghosts Exiting behind acts s = tt
returns_untouched types ghosts Returning behind acts s = tt
