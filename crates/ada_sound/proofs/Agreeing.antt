-- Where a statement begins, variables and components are as they are relied on to be.

use Rattle.std.proofs.Common.{◌≡◌, ◌≢◌, ℕ, zero, suc, Bool, true, List, [], ◌∷◌, refl, sym, ap, subst, ◌∙◌, ◌⊎◌, inl, inr, false}
use Rattle.std.specs.Prelude.{Option, Some, None}
use Rattle.std.specs.List.{slice_get, slice_index_or}
use Rattle.ada_parts.specs.Task.{Task}
use Rattle.ada_program.specs.declared.program.Program.{Program}
use Rattle.ada_program.specs.declared.program.VariableKind.{VariableKind}
use Rattle.ada_program.specs.declared.program.VariableKind.TheVariants as variable
use Rattle.ada_program.specs.Form.{PathForm, nothing, assigns, StmtsForm, a_stmt}
use Rattle.ada_program.specs.declared.program.ComponentKind.{ComponentKind}
use Rattle.ada_program.specs.ProgramForm.{TypeForm, ProgramForm, program_form, seen_in}
use Rattle.ada_program.specs.WellFormed.{IsWellFormed, access_of, variable_kind, held_kind, component_kind, kind_among}
use Rattle.ada_flow.specs.declared.rule.Hold.{Hold}
use Rattle.ada_flow.specs.declared.rule.Hold.TheVariants as hold
use Rattle.ada_flow.specs.Flow.{Holds, hold_at, variable_access}
use Rattle.ada_meaning.specs.declared.state.Id.{Id}
use Rattle.ada_meaning.specs.declared.state.Value.{Value}
use Rattle.ada_meaning.specs.declared.state.Value.TheVariants.{Null, Names, Scalar, Part}
use Rattle.ada_meaning.specs.declared.state.Mode.TheVariants.{Running}
use Rattle.ada_meaning.specs.Frame.{Does, Treatment}
use Rattle.ada_meaning.specs.Frame as frame
use Rattle.ada_meaning.specs.State.{Master, Owned}
use Rattle.ada_meaning.specs.Heap.{finds}
use Rattle.ada_meaning.specs.Step.{places, last_of, selected, treating, procedure_of}
use Rattle.ada_meaning.specs.Beginning.{BeginsStatement}
use Rattle.ada_meaning.specs.Named.{Object, State, object_at, store, named, whole, inside}
use Rattle.ada_meaning.specs.Law.{items_of}
use Rattle.ada_typed.specs.Holding.{Cells, Designates, HasKind, HaveKinds, cells_of}
use Rattle.ada_typed.proofs.Values.{filled_at, active_held}
use Rattle.ada_typed.proofs.Evaluations.{cell_at}
use Rattle.ada_typed.proofs.Control as typed
use Rattle.ada_owners.specs.Places.{is_there, Place, variable, component, elsewhere, value_at, access_at}
use Rattle.ada_owners.specs.Reliance.{IsOf, Says, Owns}
use Rattle.ada_owners.specs.Walks.{walk}
use Rattle.ada_owners.specs.Keeping.{IsThere}
use Rattle.ada_owners.proofs.Kernel.{same_place, of_same}
use Rattle.ada_owners.proofs.Objects.{present_at}
use Rattle.ada_owners.proofs.Changes.{store_access, store_reads}
use Rattle.ada_finalized.specs.Law.{NoOperationRuns}
use Rattle.ada_sound.specs.Always.{AgreesThere, AgreesWhileLeft, WordsAreOut}
use Rattle.ada_sound.specs.Agreement.{Exists, IsValid, IsAs, Turning, here, IsFlowAt, IsBehind, IsSpokenOf, running_procedure, component_access, IsKept, IsOwning, IsCleared, Agrees, value_in}
use Rattle.ada_sound.specs.Agreement as agreement
use Rattle.ada_sound.proofs.Items as items
use Rattle.ada_sound.proofs.Stored.{Stored}
use Rattle.ada_sound.proofs.Back.{stored_before}
use Rattle.ada_sound.proofs.Calm.{behind_calm, filled_in}
use Rattle.ada_sound.proofs.Steps.{heap_typed}
use Rattle.ada_sound.proofs.Fits.{Outsiders, Fit, IsRelied, none_spared, hold_in, stacked, component_value, access_is, names_object}
use Rattle.ada_sound.proofs.Scalars.{scalars_lost}
use Rattle.ada_sound.proofs.Invariant.{Known, Control, RunsOn, Working, Half, Resumes, outers, front, final}
use Rattle.ada_typed.proofs.Bodies.{SeenFits, seen_fits}
use Rattle.ada_sound.proofs.Callers.{Suspension, rest_of, known_in}
use Rattle.ada_sound.proofs.Returns.{same_types}
use Rattle.ada_sound.proofs.Touching.{Touching}
use Rattle.ada_sound.proofs.Operating.{IsCalm, Sight, WaitsFor, Quietly, Comes, Body}
use Rattle.ada_sound.proofs.Operates.{Operates}
use Rattle.ada_sound.proofs.Departing.{Departing, IsLeft, Within}
use Rattle.ada_sound.proofs.Departing as departing
use Rattle.ada_sound.proofs.DepartingSights.{is_being_left, stands_for}
use Rattle.ada_sound.proofs.SeenGrounds.{seen_typed}
use Rattle.ada_sound.proofs.Starts.{Ordinary, Sound}
use Rattle.ada_sound.proofs.WordsOut.{words_out}
use Rattle.ada_sound.proofs.Adjusting.{AdjustingCopy}
use Rattle.ada_typed.proofs.Kept.{behind_call}

-- What is there exists, and an open collection of its type is its home, if its words are out.
exists_there : {under : List Id} {heap : List Object} {masters : List Master} (o : Id) (x : Object) (access : Option ℕ) → Stored under heap masters → object_at heap o ≡ Some x → is_there x.stage ≡ true → access ≡ Some x.cell.access → Exists heap masters access o
exists_there {heap = heap} {masters = masters} o x access stored found there of_type =
    let sane = stored.sane o x found in (
      x,
      found,
      sane.there_exists there,
      of_type,
      λ out.
          let i = items.contains_item x.cell.home.item x.cell.access x.cell.home.pool (items_of masters) (sane.housed out) in
          (i.0, i.1, i.2, i.3),
    )

exists_by : {under : List Id} {heap : List Object} {masters : List Master} (access : Option ℕ) (o : Id) → Stored under heap masters → IsOf (access_at heap) access o → Exists heap masters access o
exists_by None o stored of = absurd of
exists_by {heap = heap} (Some t) o stored of = let h = present_at heap o t of in exists_there o h.object (Some t) stored h.found h.there (ap Some (sym h.access))

-- What typing says.
typed_held : (p : ProgramForm) (s : State) (x : ℕ) (kind : VariableKind) → typed.TypedIn p s → variable_kind p.variables x ≡ Some kind → HasKind p.types (cells_of s.heap) kind (slice_index_or (places s) x Null)
typed_held p s x kind (typed.running kinds r fits) is = active_held p.types (cells_of s.heap) p.variables kinds s.activations x kind r.active is
typed_held p s x kind (typed.on_jump mode j goes) is = active_held p.types (cells_of s.heap) p.variables [] s.activations x kind j.active is
typed_held p s x kind (typed.operated kinds r ended) is = active_held p.types (cells_of s.heap) p.variables kinds s.activations x kind r.active is
typed_held p s x kind (typed.out_of_operation e kinds j ended) is = active_held p.types (cells_of s.heap) p.variables [] s.activations x kind j.active is

-- A component names an object of its access type, as typing has it.
named_by : (types : List TypeForm) (cells : Cells) (kind : VariableKind) (k : Id) → HasKind types cells kind (Names k) → (t : ℕ) × (access_of (Some kind) ≡ Some t) × Designates cells t k
named_by types cells variable.Integer k has = absurd has
named_by types cells variable.Boolean k has = absurd has
named_by types cells (variable.Access access) k has = (access.0, refl, has)
named_by types cells (variable.Record t) k has = (t.0, refl, has)

named_at : (types : List TypeForm) (cells : Cells) (cs : List ComponentKind) (vs : List Value) (c : ℕ) (k : Id) → HaveKinds types cells cs vs → slice_get vs c ≡ Some (Names k) → (t : ℕ) × (access_of (component_kind (slice_get cs c)) ≡ Some t) × Designates cells t k
named_at types cells [] [] c k have is = absurd (cc is)
named_at types cells [] (v ∷ vs) c k have is = absurd have
named_at types cells (d ∷ cs) [] c k have is = absurd have
named_at types cells (d ∷ cs) (v ∷ vs) zero k have is = let same : v ≡ Names k = cc is in named_by types cells (held_kind d) k (rw same at (have.0))
named_at types cells (d ∷ cs) (v ∷ vs) (suc c) k have is = named_at types cells cs vs c k have.1 is

-- What a component of an object names exists if it is there.
kept_exists : {under : List Id} (own : ProgramForm) (s : State) (o : Id) (object : Object) (c : ℕ) (k : Id) → typed.TypedIn own s → Stored under s.heap s.masters → object_at s.heap o ≡ Some object → slice_get object.cell.values c ≡ Some (Names k) → IsThere s.heap k → Exists s.heap s.masters (component_access own.types object c) k
kept_exists own s o object c k t stored found at (x, there, listed) =
    let filled = filled_at own.types (cells_of s.heap) (cells_of s.heap) o.0 object.cell (filled_in own s t) (cell_at s.heap o.0 object found) in
    let named = named_at own.types (cells_of s.heap) filled.0 object.cell.values c k filled.2 at in
    let of_type : component_access own.types object c ≡ Some named.0 = ap (λ components. access_of (kind_among components c)) filled.1 ∙ named.1 in
    let same : Some x.cell ≡ Some named.2.0 = sym (cell_at s.heap k.0 x there) ∙ named.2.1 in
    let access : x.cell.access ≡ named.0 = cc (same, named.2.2) in
    exists_there k x (component_access own.types object c) stored there listed (of_type ∙ ap Some (sym access))

-- An owner is read as if no activation were suspended.
read_bare : (heap : List Object) (outer : Outsiders) (s : State) (holds : Holds) (p : Place) → IsOwning holds p → value_at heap s.activations p ≡ value_at heap (stacked (places s) outer) p
read_bare heap outer s holds (variable x) own = refl
read_bare heap outer s holds (component o c) own = refl
read_bare heap outer s holds (elsewhere d x) own = absurd own

owns_is : (outer : Outsiders) (holds : Holds) (p : Place) → IsOwning holds p → Owns (hold_in outer none_spared holds p)
owns_is outer holds (variable x) own = own
owns_is outer holds (component o c) own = tt
owns_is outer holds (elsewhere d x) own = absurd own

-- Places are as they are relied on to be in a heap in which at most one component is another than it is: one that the statement sets to null, and
-- which names what is there.
module _ (own : ProgramForm) (outer : Outsiders) (s : State) (holds : Holds) (types : typed.TypedIn own s) (stored : Stored outer.under s.heap s.masters)
    (lost : (x : ℕ) → variable_access own.variables x ≡ None → hold_at holds x ≡ hold.Lost)
    (heap : List Object) (same : (k : Id) → access_at heap k ≡ access_at s.heap k)
    (reads : (p : Place) → (value_at heap (stacked (places s) outer) p ≡ value_at s.heap (stacked (places s) outer) p) ⊎ (IsCleared s p × ((k : Id) → value_at s.heap (stacked (places s) outer) p ≡ Names k → IsThere s.heap k)))
    (fit : Fit own.types own.variables outer none_spared heap (places s) holds) where
  exists_here : (access : Option ℕ) (o : Id) → IsOf (access_at heap) access o → Exists s.heap s.masters access o
  exists_here access o of = exists_by access o stored (of_same (access_at heap) (access_at s.heap) access o (sym (same o)) of)

  -- What is not lost holds no Integer or Boolean.
  no_scalar : (x : ℕ) (kind : Option VariableKind) → variable_kind own.variables x ≡ kind → hold_at holds x ≢ hold.Lost → (n : _) → value_in s x ≡ Scalar n → ⊥
  no_scalar x None is kept n v = kept (lost x (ap access_of is))
  no_scalar x (Some variable.Integer) is kept n v = kept (lost x (ap access_of is))
  no_scalar x (Some variable.Boolean) is kept n v = kept (lost x (ap access_of is))
  no_scalar x (Some (variable.Access access)) is kept n v = rw v at (typed_held own s x (variable.Access access) types is)
  no_scalar x (Some (variable.Record t)) is kept n v = rw v at (typed_held own s x (variable.Record t) types is)

  -- What an owner or a borrower names exists.
  relied_exists : (access : Option ℕ) (h : Hold) (o : Id) → IsRelied h → Says (access_at heap) h access o → Exists s.heap s.masters access o
  relied_exists access hold.Null o is says = absurd is
  relied_exists access (hold.Kept r) o is says = exists_here access o says
  relied_exists access (hold.Own r) o is says = exists_here access o says
  relied_exists access (hold.Alias r) o is says = exists_here access o says
  relied_exists access hold.Lost o is says = absurd is

  valid_by : (x : ℕ) (v : Value) → IsRelied (hold_at holds x) → hold_at holds x ≢ hold.Lost → value_in s x ≡ v → IsValid s.heap s.masters (variable_access own.variables x) v
  valid_by x Null is kept v = tt
  valid_by x (Names o) is kept v = relied_exists (variable_access own.variables x) (hold_at holds x) o is (fit.owners.fit.relied (variable x) o v)
  valid_by x (Scalar n) is kept v = no_scalar x (variable_kind own.variables x) refl kept n v
  valid_by x (Part o first) is kept v =
      let place = fit.objects x kept in
      let here = rw v at place in
      let there = exists_here (Some here.1) o (fit.referred o here.1 here.2) in
      (there.0, there.1, there.2, there.4)

  each_is : (x : ℕ) (h : Hold) → hold_at holds x ≡ h → IsAs s.heap s.masters (variable_access own.variables x) h (value_in s x)
  each_is x hold.Null e = rw e at (fit.said x)
  each_is x (hold.Kept r) e = valid_by x (value_in s x) (rw e tt) (λ lost'. cc (e, lost')) refl
  each_is x (hold.Own r) e = valid_by x (value_in s x) (rw e tt) (λ lost'. cc (e, lost')) refl
  each_is x (hold.Alias r) e = valid_by x (value_in s x) (rw e tt) (λ lost'. cc (e, lost')) refl
  each_is x hold.Lost e = tt

  named_is : (o : Id) (object : Object) (c : ℕ) (k : Id) → object_at s.heap o ≡ Some object → is_there object.stage ≡ true → slice_get object.cell.values c ≡ Some (Names k) → Exists s.heap s.masters (component_access own.types object c) k
  named_is o object c k found listed at = go (reads (component o c))
    where
      value : value_at s.heap (stacked (places s) outer) (component o c) ≡ Names k
      value = component_value s.heap (stacked (places s) outer) o object c (Names k) found listed at

      go : (value_at heap (stacked (places s) outer) (component o c) ≡ value_at s.heap (stacked (places s) outer) (component o c)) ⊎ (IsCleared s (component o c) × ((i : Id) → value_at s.heap (stacked (places s) outer) (component o c) ≡ Names i → IsThere s.heap i)) → Exists s.heap s.masters (component_access own.types object c) k
      go (inl e) = exists_here (component_access own.types object c) k (rw (same o ∙ access_is s.heap o object found listed) at (fit.owners.fit.relied (component o c) k (e ∙ value)))
      go (inr cleared) = kept_exists own s o object c k types stored found at (cleared.1 k value)

  component_holds : (o : Id) (object : Object) (c : ℕ) (v : Value) → object_at s.heap o ≡ Some object → is_there object.stage ≡ true → slice_get object.cell.values c ≡ Some v → IsKept s.heap s.masters (component_access own.types object c) v
  component_holds o object c Null found listed at = tt
  component_holds o object c (Names k) found listed at = named_is o object c k found listed at
  component_holds o object c (Scalar n) found listed at = tt
  component_holds o object c (Part k first) found listed at = (heap_typed own s types).1 o object c (Part k first) found at

  variables_apart : (x y : ℕ) (o : Id) → x ≢ y → Owns (hold_at holds x) → Owns (hold_at holds y) → value_in s x ≡ Names o → value_in s y ≡ Names o → ⊥
  variables_apart x y o ne a b c d =
      let one : variable x ≡ variable y = fit.owners.fit.apart (variable x) (variable y) o a b c d in
      ne (cc one)

  owners_apart : (p q : Place) (o : Id) → IsOwning holds p → IsOwning holds q → value_at s.heap s.activations p ≡ Names o → value_at s.heap s.activations q ≡ Names o → (p ≡ q) ⊎ (IsCleared s p ⊎ IsCleared s q)
  owners_apart p q o a b c d = go (reads p) (reads q)
    where
      go : (value_at heap (stacked (places s) outer) p ≡ value_at s.heap (stacked (places s) outer) p) ⊎ (IsCleared s p × ((k : Id) → value_at s.heap (stacked (places s) outer) p ≡ Names k → IsThere s.heap k))
          → (value_at heap (stacked (places s) outer) q ≡ value_at s.heap (stacked (places s) outer) q) ⊎ (IsCleared s q × ((k : Id) → value_at s.heap (stacked (places s) outer) q ≡ Names k → IsThere s.heap k))
          → (p ≡ q) ⊎ (IsCleared s p ⊎ IsCleared s q)
      go (inr cleared) other = inr (inl cleared.0)
      go (inl e) (inr cleared) = inr (inr cleared.0)
      go (inl e) (inl f) =
          inl (fit.owners.fit.apart p q o (owns_is outer holds p a) (owns_is outer holds q b) (e ∙ sym (read_bare s.heap outer s holds p a) ∙ c) (f ∙ sym (read_bare s.heap outer s holds q b) ∙ d))

  agrees_by : Agrees own.types own.variables s holds
  agrees_by = record {
    each = λ x. each_is x (hold_at holds x) refl;
    one_owner = variables_apart;
    records = λ x t is kept null. (
        let place = fit.objects x kept in
        let none : names_object (variable_kind own.variables x) ≡ false = rw null at place in
        let never : names_object (Some (variable.Record t)) ≡ false = rw is at none in
        cc never
        );
    components = component_holds;
    one_owner_each = owners_apart;
  }

-- The component that the second half of a take pair sets to null.
cleared_is : (s : State) (path : PathForm) (later : StmtsForm) (outer : Control) (o : Id) (c : ℕ) (cs : List ℕ) → path.selectors ≡ cs → s.control ≡ Does (a_stmt (assigns path nothing) later) ∷ outer → final (selected named (value_in s path.root) cs) ≡ Some c → walk s.heap (whole (value_in s path.root)) (front (selected named (value_in s path.root) cs)) ≡ finds (Names o) → IsCleared s (component o c)
cleared_is s path later outer o c [] is begins last leads = absurd (cc last)
cleared_is s path later outer o c (d ∷ ds) is begins last leads =
    let same : last_of (inside (value_in s path.root) d) ds ≡ c = cc last in
    record { path = path; later = later; outer = outer; c = d; cs = ds; object = o; begins = begins; selects = is; leads = leads; is = ap (component o) (sym same) }

place_is : (program : Program) (procedure : Option ℕ) (rest : agreement.Place) (way : List Turning) (control place : agreement.Place) (holds : Holds) → control ≡ place → IsFlowAt program procedure rest way place holds → IsFlowAt program procedure rest way control holds
place_is program procedure rest way control place holds is at = rw is at

module _ (program : Program) (s : State) (gs : List Suspension) (fits : SeenFits (seen_in (running_procedure s) (program_form program))) (types : typed.TypedIn (seen_in (running_procedure s) (program_form program)) s) (rest_is : IsBehind (running_procedure s) (rest_of gs)) (b : BeginsStatement s) where
  abbrev known : Known
  known = known_in program (running_procedure s) gs

  abbrev own : ProgramForm
  own = known.program

  there : (way : List Turning) (holds : Holds) → IsFlowAt program (running_procedure s) (rest_of gs) way (Does (a_stmt b.stmt b.later) ∷ b.outer) holds → Agrees own.types own.variables s holds → AgreesThere program s
  there way holds comes agrees = (
    rest_of gs,
    way,
    holds,
    rest_is,
    place_is program (running_procedure s) (rest_of gs) way s.control (Does (a_stmt b.stmt b.later) ∷ b.outer) holds b.first comes,
    subst (λ (ts : List TypeForm). Agrees ts own.variables s holds) (same_types (running_procedure s) (program_form program)) agrees,
  )

  whole_agrees : Working known s.heap (places s) s.masters (RunsOn known (Does (a_stmt b.stmt b.later) ∷ b.outer)) → AgreesThere program s
  whole_agrees w =
      let comes = w.rest.1 [] (Does (a_stmt b.stmt b.later) ∷ b.outer) w.holds here in
      there comes.0 w.holds comes.1
      (agrees_by own (outers known) s w.holds types w.stored (scalars_lost program (running_procedure s) (rest_of gs) comes.0 (Does (a_stmt b.stmt b.later) ∷ b.outer) w.holds fits comes.1)
      s.heap (λ k. refl) (λ p. inl refl) w.fit)

  half_agrees : Half known (a_stmt b.stmt b.later) b.outer s.heap (places s) s.masters → AgreesThere program s
  half_agrees h =
      let w = h.works in
      let comes = w.rest.1 [] (Does (a_stmt b.stmt b.later) ∷ b.outer) w.holds here in
      there comes.0 w.holds comes.1
      (agrees_by own (outers known) s w.holds types (stored_before s.heap s.masters (Names h.o) h.c Null w.stored)
      (scalars_lost program (running_procedure s) (rest_of gs) comes.0 (Does (a_stmt b.stmt b.later) ∷ b.outer) w.holds fits comes.1)
      (store s.heap (Names h.o) h.c Null) (store_access s.heap h.o h.there.0 h.there.1 h.c Null) (λ p. go p (same_place p (component h.o h.c))) w.fit)
    where
      go : (p : Place) → (p ≡ component h.o h.c) ⊎ (p ≢ component h.o h.c) → (value_at (store s.heap (Names h.o) h.c Null) (stacked (places s) (outers known)) p ≡ value_at s.heap (stacked (places s) (outers known)) p) ⊎ (IsCleared s p × ((k : Id) → value_at s.heap (stacked (places s) (outers known)) p ≡ Names k → IsThere s.heap k))
      go p (inl e) =
          let begins = b.first ∙ ap (λ fs. Does fs ∷ b.outer) h.is in
          rw e (inr (cleared_is s h.path h.later b.outer h.o h.c h.path.selectors refl begins h.last h.found, h.kept))
      go p (inr ne) = inl (store_reads s.heap h.o h.there.0 h.there.1 h.c Null (stacked (places s) (outers known)) p ne)

  resumes_agrees : Resumes known s.heap (places s) s.masters (Does (a_stmt b.stmt b.later) ∷ b.outer) → AgreesThere program s
  resumes_agrees (inl w) = whole_agrees w
  resumes_agrees (inr h) = half_agrees h

-- Where the body of an operation runs, something waits for its end.
waits_for_end : (sight : Sight) (behind k : Control) (ms : List Master) → Quietly sight behind ms k → NoOperationRuns k → NoOperationRuns behind
waits_for_end sight behind [] ms leads none = absurd leads
waits_for_end sight behind (frame.Elaborates ds fs hs ∷ k) [] leads none = absurd leads
waits_for_end sight behind (frame.Elaborates ds fs hs ∷ k) (m ∷ ms) leads none = waits_for_end sight behind k ms leads.1 none.1
waits_for_end sight behind (frame.Does fs ∷ k) ms leads none = waits_for_end sight behind k ms leads.1 none.1
waits_for_end sight behind (frame.Decides fs branches ∷ k) ms leads none = waits_for_end sight behind k ms leads.1 none.1
waits_for_end sight behind (frame.Repeats condition fs ∷ k) ms leads none = waits_for_end sight behind k ms leads.1 none.1
waits_for_end sight behind (frame.Turns e fs ∷ k) ms leads none = waits_for_end sight behind k ms leads.1 none.1
waits_for_end sight behind (frame.Ranges x fs ∷ k) ms leads none = waits_for_end sight behind k ms leads.1 none.1
waits_for_end sight behind (frame.Counts x value last fs ∷ k) ms leads none = waits_for_end sight behind k ms leads.1 none.1
waits_for_end sight behind (frame.Exits ∷ k) ms leads none = waits_for_end sight behind k ms leads.1 none.1
waits_for_end sight behind (frame.Handles hs ∷ k) ms leads none = waits_for_end sight behind k ms leads.1 none.1
waits_for_end sight behind (frame.Closes ∷ k) [] leads none = absurd leads
waits_for_end sight behind (frame.Closes ∷ k) (m ∷ ms) leads none = waits_for_end sight behind k ms leads.1 none.1
waits_for_end sight behind (frame.Evaluates right ∷ k) ms leads none = waits_for_end sight behind k ms leads.1 none.1
waits_for_end sight behind (frame.Computes e ∷ k) ms leads none = waits_for_end sight behind k ms leads.1 none.1
waits_for_end sight behind (frame.Continues links ∷ k) ms leads none = waits_for_end sight behind k ms leads.1 none.1
waits_for_end sight behind (frame.Applies operator ∷ k) ms leads none = waits_for_end sight behind k ms leads.1 none.1
waits_for_end sight behind (frame.AppliesAlone operator ∷ k) ms leads none = waits_for_end sight behind k ms leads.1 none.1
waits_for_end sight behind (frame.Stores x ∷ k) ms leads none = waits_for_end sight behind k ms leads.1 none.1
waits_for_end sight behind (frame.Declares x ∷ k) [] leads none = absurd leads
waits_for_end sight behind (frame.Declares x ∷ k) (m ∷ ms) leads none = waits_for_end sight behind k (m ∷ ms) leads.1 none.1
waits_for_end sight behind (frame.StoresIn v c ∷ k) ms leads none = waits_for_end sight behind k ms leads.1 none.1
waits_for_end sight behind (frame.Writes ∷ k) ms leads none = waits_for_end sight behind k ms leads.1 none.1
waits_for_end sight behind (frame.Returns actuals references ∷ k) ms leads none = rw (leads.2) at (none.1)
waits_for_end sight behind (f ∷ k) ms leads none = absurd leads

none_waits : (types : List TypeForm) (o : Id) (of : ℕ) (treatment : Treatment) (tasks : List Task) (k behind : Control) → WaitsFor types o of treatment tasks k behind → NoOperationRuns behind → ⊥
none_waits types o of (frame.begins by done) tasks k behind (part, is) none = let there : NoOperationRuns (frame.Awaits (Names o) by done of part tasks ∷ k) = rw is at none in absurd (cc (there.0))
none_waits types o of (frame.ends cause) tasks k behind (is, inside) none = let there : NoOperationRuns (frame.Confines ∷ treating (Names o) (frame.ends cause) tasks k) = rw is at none in absurd (cc (there.0))

-- The body of an operation that touches Integers and Booleans alone is not spoken of.
module _ (program : Program) (s : State) (b : BeginsStatement s) where
  no_statement : (sight : Sight) (behind : Control) (ms : List Master) (operands : List Value) → Comes sight behind ms Running (Does (a_stmt b.stmt b.later) ∷ b.outer) operands → Quietly sight behind ms (Does (a_stmt b.stmt b.later) ∷ b.outer)
  no_statement sight behind ms operands (inl (all, goes, leads)) = leads
  no_statement sight behind ms [] (inr (running, next)) = absurd next
  no_statement sight behind ms (v ∷ vs) (inr (running, next)) = absurd next

  runs_apart : (o : Operates program s) → NoOperationRuns s.control → ⊥
  runs_apart o none =
      let sight : Sight = record { program = seen_in (Some o.procedure) (program_form program); object = o.object; access = o.access } in
      let body : Body sight o.behind o.upper s.heap o.places o.operands Running (Does (a_stmt b.stmt b.later) ∷ b.outer) = rw (b.runs, b.first) at o.body in
      let none_here : NoOperationRuns (Does (a_stmt b.stmt b.later) ∷ b.outer) = rw b.first at none in
      none_waits (program_form program).types o.object o.suspended.of o.treatment o.suspended.tasks o.suspended.after o.behind o.suspended.waits
      (waits_for_end sight o.behind (Does (a_stmt b.stmt b.later) ∷ b.outer) o.upper (no_statement sight o.behind o.upper o.operands body.comes) none_here)

  unspoken : Operates program s → IsSpokenOf program s → ⊥
  unspoken o (inl none) = runs_apart o none
  unspoken o (inr neither) = neither (inl (o.procedure, o.is_body.0, ap procedure_of o.active, o.is_body.1, o.plain))

  -- Where one runs that touches storage, flow agrees.
  touching_agrees : IsWellFormed (program_form program) → typed.Typed (program_form program) s → Touching program s → AgreesThere program s
  touching_agrees well types f =
      resumes_agrees program s f.suspensions (seen_fits (program_form program) well (running_procedure s)) types.inside f.stands.behind b (rw (b.runs, b.first) at (f.ready.1))

-- No statement begins where a member of a collection that goes is treated.
none_begins : {owned : Owned} {master item : ℕ} {ghosts : Id → Bool} {heap : List Object} (k : Control) (fs : StmtsForm) (outer : Control) → IsLeft owned master item ghosts heap k → k ≡ Does fs ∷ outer → ⊥
none_begins k fs outer (departing.next_member mode j) is = cc is
none_begins k fs outer (departing.treated access pool o tasks mode j own plain has) is = cc is
none_begins k fs outer (departing.confined access pool o tasks mode j own plain has) is = cc is
none_begins k fs outer (departing.ended access pool o mode j own plain has) is = cc is

-- Wherever a statement begins, but in the body of an operation that touches Integers and Booleans alone, or of an Adjust that tracks components. While an operation
-- runs for a member of a collection that goes, flow agrees with the state that stands for this one. The words of each object that exists are out.
pub agrees_at : (program : Program) (s : State) → Sound program s → BeginsStatement s → IsSpokenOf program s → WordsAreOut s × (AgreesThere program s ⊎ AgreesWhileLeft program s)
agrees_at program s sound b spoken = (λ o x found exists. words_out program s sound.reached o x found (rw exists refl), by sound.goes)
  where
    untold : (d : AdjustingCopy program s) → IsSpokenOf program s → ⊥
    untold d (inl none) =
        let f = d.adjusting in
        let behind : IsCalm (behind_call s.control) = behind_calm s.control none in
        let left : IsCalm (Some (record { actuals = []; references = []; left = f.behind })) = rw f.ends at behind in
        none_waits (program_form program).types f.object f.of (frame.begins f.by f.done) f.tasks f.after f.behind f.awaited left
    untold d (inr neither) = neither (inr (d.adjusting.number, d.adjusting.runs, d.adjusting.tracker))

    within : Within program s → AgreesWhileLeft program s
    within d =
        let same = d.seen.alike.rest in
        let begins : BeginsStatement d.v = subst BeginsStatement (sym same) (record { runs = b.runs; stmt = b.stmt; later = b.later; outer = b.outer; first = b.first }) in
        let told : IsSpokenOf program d.v = subst (IsSpokenOf program) (sym same) spoken in
        (d.access, d.item, d.v, is_being_left program s d, stands_for d.seen, agrees begins told d.goes)
      where
        agrees : BeginsStatement d.v → IsSpokenOf program d.v → Operates program d.v ⊎ Touching program d.v → AgreesThere program d.v
        agrees begins told (inl o) = absurd (unspoken program d.v begins o told)
        agrees begins told (inr f) = touching_agrees program d.v begins sound.well (seen_typed d.seen (program_form program) sound.typed) f

    by : Ordinary program s ⊎ (Operates program s ⊎ (Touching program s ⊎ (AdjustingCopy program s ⊎ Departing program s))) → AgreesThere program s ⊎ AgreesWhileLeft program s
    by (inl o) =
        inl (resumes_agrees program s o.suspensions (seen_fits (program_form program) sound.well (running_procedure s)) sound.typed.inside o.stands.behind b (rw (b.runs, b.first) at (o.ready.1)))
    by (inr (inl o)) = absurd (unspoken program s b o spoken)
    by (inr (inr (inl f))) = inl (touching_agrees program s b sound.well sound.typed f)
    by (inr (inr (inr (inl d)))) = absurd (untold d spoken)
    by (inr (inr (inr (inr (inl d))))) = absurd (none_begins s.control (a_stmt b.stmt b.later) b.outer d.left b.first)
    by (inr (inr (inr (inr (inr (inl d)))))) = absurd (let other = d.control in let first = b.first in cc (other, first))
    by (inr (inr (inr (inr (inr (inr d)))))) = inr (within d)
