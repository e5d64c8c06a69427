-- What is left to do fits as well once objects have come to be or have changed.

use Rattle.ada_typed.specs.Holding.{Cells}
use Rattle.std.proofs.Common.{ℕ, Bool, true, false, List, [], ◌∷◌, Option, Some, None}
use Rattle.ada_program.specs.declared.program.VariableKind.{VariableKind}
use Rattle.ada_program.specs.declared.program.VariableKind.TheVariants as variable
use Rattle.ada_program.specs.Form.{ActualForm, HandlersForm}
use Rattle.ada_program.specs.ProgramForm.{TypeForm, ProgramForm, seen_in}
use Rattle.ada_parts.specs.Task.{Task, performs}
use Rattle.ada_meaning.specs.declared.state.Value.{Value}
use Rattle.ada_meaning.specs.declared.state.Value.TheVariants.{Null, Names, Scalar, Part}
use Rattle.ada_meaning.specs.declared.state.Mode.TheVariants.{Running, Raising, Exiting, Returning}
use Rattle.ada_meaning.specs.Frame.{Frame, Treatment, is_loop, is_return}
use Rattle.ada_meaning.specs.Frame as frame
use Rattle.ada_meaning.specs.State.{Activation}
use Rattle.ada_meaning.specs.Step.{procedure_of, older}
use Rattle.ada_typed.proofs.Values.{OperandKind, of_kind, refers_to, StayDesignated, access_later, refers_later, held_later, computed_later, kind_of}
use Rattle.ada_typed.proofs.Control.{onto, IsTreated, AtReturn, AtLoop, WhereInside, handlers_in, AtHandlers, is_operation, NoOperation, Fits, Lands, Catches, AtOperation, awaiting, confined, WaitsBy, for_call, for_operation, actuals_at, references_at, kinds_in, stored_kinds, AreReferences, WaitsFirst, Waiting}

inside_later : (inside : Bool) (lands later : Type 0) → (lands → later) → WhereInside inside lands → WhereInside inside later
inside_later true lands later f h = f h
inside_later false lands later f h = tt

return_later : (return : Bool) (ends further ends_after further_after : Type 0) → (ends → ends_after) → (further → further_after) → AtReturn return ends further → AtReturn return ends_after further_after
return_later true ends further ends_after further_after f g h = f h
return_later false ends further ends_after further_after f g h = g h

loop_later : (loop : Bool) (behind further behind_later further_later : Type 0) → (behind → behind_later) → (further → further_later) → AtLoop loop behind further → AtLoop loop behind_later further_later
loop_later true behind further behind_later further_later f g h = f h
loop_later false behind further behind_later further_later f g h = g h

handlers_later : (p : ProgramForm) (o : Option HandlersForm) (lands behind further lands_after behind_after further_after : Type 0) → (lands → lands_after) → (behind → behind_after) → (further → further_after) → AtHandlers p o lands behind further → AtHandlers p o lands_after behind_after further_after
handlers_later p None lands behind further lands_after behind_after further_after f g i h = i h
handlers_later p (Some hs) lands behind further lands_after behind_after further_after f g i h = (h.0, h.1, inside_later h.0 lands lands_after f h.2, g h.3)

operation_later : (operation : Bool) (holds later : Type 0) → (holds → later) → NoOperation operation holds → NoOperation operation later
operation_later true holds later f h = h
operation_later false holds later f h = f h

treated_later : (types : List TypeForm) (cells after : Cells) → StayDesignated cells after → (v : Value) (treatment : Treatment) (tasks : List Task) → IsTreated types cells v treatment tasks → IsTreated types after v treatment tasks
treated_later types cells after stay Null treatment tasks h = h
treated_later types cells after stay (Names o) treatment tasks h = (h.0, stay h.0 o h.1, h.2, h.3)
treated_later types cells after stay (Scalar v) treatment tasks h = h
treated_later types cells after stay (Part o place) treatment tasks h = h

module _ (p : ProgramForm) (cells after : Cells) (stay : StayDesignated cells after) where
  mutual
    pub fits_later : (k : List (Frame Value)) (kinds : List OperandKind) → Fits p cells kinds k → Fits p after kinds k
    fits_later [] kinds h = tt
    fits_later (frame.Elaborates ds fs hs ∷ k) kinds h = (h.0, h.1, h.2, h.3, h.4, inside_later h.1 (Lands p cells k) (Lands p after k) (lands_later k) h.5, fits_later k [] h.6)
    fits_later (frame.Does fs ∷ k) kinds h = (h.0, h.1, h.2, inside_later h.1 (Lands p cells k) (Lands p after k) (lands_later k) h.3, fits_later k [] h.4)
    fits_later (frame.Decides fs branches ∷ k) kinds h = (h.0, h.1, h.2, h.3, inside_later h.1 (Lands p cells k) (Lands p after k) (lands_later k) h.4, fits_later k [] h.5)
    fits_later (frame.Repeats condition fs ∷ k) kinds h = (h.0, h.1, h.2, h.3, fits_later k [] h.4)
    fits_later (frame.Turns e fs ∷ k) kinds h = (h.0, h.1, h.2, h.3, fits_later k [] h.4)
    fits_later (frame.Ranges x fs ∷ k) kinds h = (h.0, h.1, h.2, h.3, fits_later k [] h.4)
    fits_later (frame.Counts x value last fs ∷ k) kinds h = (h.0, h.1, h.2, h.3, fits_later k [] h.4)
    fits_later (frame.Exits ∷ k) kinds h = (h.0, lands_later k h.1, fits_later k [] h.2)
    fits_later (frame.Handles hs ∷ k) kinds h = (h.0, h.1, h.2, inside_later h.1 (Lands p cells k) (Lands p after k) (lands_later k) h.3, fits_later k [] h.4)
    fits_later (frame.Closes ∷ k) kinds h = fits_later k kinds h
    fits_later (frame.Leaves Running ∷ k) kinds h = fits_later k kinds h
    fits_later (frame.Leaves (Raising e) ∷ k) kinds h = catches_later k h
    fits_later (frame.Leaves Exiting ∷ k) kinds h = (lands_later k h.0, catches_later k h.1)
    fits_later (frame.Leaves Returning ∷ k) kinds h = catches_later k h
    fits_later (frame.Calls procedure b actuals ∷ k) kinds h = (h.0, h.1, h.2, fits_later k [] h.3)
    fits_later (frame.Returns actuals references ∷ k) kinds h = h
    fits_later (frame.Evaluates right ∷ k) kinds h = (h.0, h.1, fits_later k (of_kind h.0 ∷ kinds) h.2)
    fits_later (frame.Computes e ∷ k) kinds h = (h.0, h.1, fits_later k (of_kind (kind_of h.0) ∷ kinds) h.2)
    fits_later (frame.Follows cs ∷ k) kinds h = (h.0, h.1, h.2, h.3, h.4, h.5, fits_later k (of_kind h.2 ∷ h.0) h.6)
    fits_later (frame.TestsNull equal ∷ k) kinds h = (h.0, h.1, h.2, fits_later k (of_kind variable.Boolean ∷ h.0) h.3)
    fits_later (frame.Refers q ∷ k) kinds h = (h.0, h.1, h.2, fits_later k (h.0 ∷ kinds) h.3)
    fits_later (frame.RefersIn place t ∷ k) kinds h = (h.0, h.1, h.2, h.3, h.4, h.5, h.6, h.7, h.8, fits_later k (h.2 ∷ h.0) h.9)
    fits_later (frame.Opens path ∷ k) kinds h = (h.0, h.1, h.2, fits_later k (of_kind h.0 ∷ refers_to h.0 ∷ kinds) h.3)
    fits_later (frame.OpensIn c ∷ k) kinds h = (h.0, h.1, h.2, h.3, h.4, fits_later k (of_kind h.2 ∷ refers_to h.2 ∷ h.0) h.5)
    fits_later (frame.Continues links ∷ k) kinds h = (h.0, h.1, h.2, h.3, h.4, fits_later k (of_kind (kind_of h.2) ∷ h.0) h.5)
    fits_later (frame.Applies operator ∷ k) kinds h = (h.0, h.1, h.2, h.3, h.4, h.5, fits_later k (of_kind (kind_of h.3) ∷ h.0) h.6)
    fits_later (frame.AppliesAlone operator ∷ k) kinds h = (h.0, h.1, h.2, h.3, h.4, fits_later k (of_kind (kind_of h.2) ∷ h.0) h.5)
    fits_later (frame.Fills items ∷ k) kinds h = (h.0, h.1, fits_later k (onto h.0 kinds) h.2)
    fits_later (frame.Copies first t ∷ k) kinds h = (h.0, h.1, h.2, h.3, h.4, h.5, h.6, fits_later k (onto h.2 h.0) h.7)
    fits_later (frame.Creates access count ∷ k) kinds h = (h.0, h.1, h.2, h.3, h.4, fits_later k (of_kind (variable.Access (record { 0 = access })) ∷ h.0) h.5)
    fits_later (frame.Stores x ∷ k) kinds h = (h.0, h.1, h.2, h.3, fits_later k h.0 h.4)
    fits_later (frame.Targets c right ∷ k) kinds h = (h.0, h.1, h.2, h.3, h.4, h.5, fits_later k h.0 h.6)
    fits_later (frame.StoresIn object c ∷ k) kinds h = (h.0, h.1, h.2, h.3, h.4, access_later cells after stay h.1.0 object h.5, h.6, fits_later k h.0 h.7)
    fits_later (frame.TargetsRecord first t items ∷ k) kinds h = (h.0, h.1, h.2, h.3, h.4, h.5, h.6, fits_later k h.0 h.7)
    fits_later (frame.StoresRecord object first count ∷ k) kinds h = (h.0, h.1, h.2, h.3, h.4, h.5, access_later cells after stay h.1.0 object h.6, h.7, fits_later k h.0 h.8)
    fits_later (frame.Assigns t ∷ k) kinds h = (h.0, h.1, h.2, h.3, fits_later k h.0 h.4)
    fits_later (frame.Receives c ∷ k) kinds h = (h.0, h.1, h.2, h.3, fits_later k h.0 h.4)
    fits_later (frame.FreesIn access c ∷ k) kinds h = (h.0, h.1, h.2, h.3, h.4, h.5, fits_later k h.0 h.6)
    fits_later (frame.Declares x ∷ k) kinds h = (h.0, h.1, h.2, h.3, fits_later k h.0 h.4)
    fits_later (frame.DeclaresRecord x t ∷ k) kinds h = (h.0, h.1, h.2, h.3, h.4, h.5, h.6, h.7, fits_later k h.0 h.8)
    fits_later (frame.Treats v treatment tasks ∷ k) kinds h = (treated_later p.types cells after stay v treatment tasks h.0, fits_later k kinds h.1)
    fits_later (frame.Awaits v by done of part tasks ∷ k) kinds h = h
    fits_later (frame.Confines ∷ k) kinds h = h
    fits_later (frame.Resumes Running ∷ k) kinds h = fits_later k kinds h
    fits_later (frame.Resumes (Raising e) ∷ k) kinds h = catches_later k h
    fits_later (frame.Resumes Exiting ∷ k) kinds h = (lands_later k h.0, catches_later k h.1)
    fits_later (frame.Resumes Returning ∷ k) kinds h = catches_later k h
    fits_later (frame.Writes ∷ k) kinds h = (h.0, h.1, fits_later k h.0 h.2)
    fits_later (frame.Ends v ∷ k) kinds h = (h.0, fits_later k kinds h.1)
    fits_later (frame.GivesBack v cause pool ∷ k) kinds h = (h.0, fits_later k kinds h.1)
    fits_later (frame.Clears x ∷ k) kinds h = (h.0, h.1, fits_later k kinds h.2)
    fits_later (frame.ClearsIn object c ∷ k) kinds h = (h.0, h.1, h.2, access_later cells after stay h.0.0 object h.3, h.4, fits_later k kinds h.5)

    lands_later : (k : List (Frame Value)) → Lands p cells k → Lands p after k
    lands_later [] h = h
    lands_later (f ∷ k) h = return_later (is_return f) ⊥ (AtLoop (is_loop f) (Fits p cells [] k) (Lands p cells k)) ⊥ (AtLoop (is_loop f) (Fits p after [] k) (Lands p after k)) (λ no. no) (loop_later (is_loop f) (Fits p cells [] k) (Lands p cells k) (Fits p after [] k) (Lands p after k) (fits_later k []) (lands_later k)) h

    catches_later : (k : List (Frame Value)) → Catches p cells k → Catches p after k
    catches_later [] h = tt
    catches_later (f ∷ k) h =
        let here = AtHandlers p (handlers_in f) (Lands p cells k) (Fits p cells [] k) (Catches p cells k) in
        let there = AtHandlers p (handlers_in f) (Lands p after k) (Fits p after [] k) (Catches p after k) in
        let caught = handlers_later p (handlers_in f) (Lands p cells k) (Fits p cells [] k) (Catches p cells k) (Lands p after k) (Fits p after [] k) (Catches p after k) (lands_later k) (fits_later k []) (catches_later k) in
        return_later (is_return f) (Unit {0}) (NoOperation (is_operation f) here) (Unit {0}) (NoOperation (is_operation f) there) (λ yes. yes)
        (operation_later (is_operation f) here there caught) h

-- So does what is left where the call of an operation ends.
operation_stays : (p : ProgramForm) (cells after : Cells) → StayDesignated cells after → (kinds : List OperandKind) (k : List (Frame Value)) → AtOperation p cells kinds k → AtOperation p after kinds k
operation_stays p cells after stay kinds _ (awaiting {v} {by} {done} {of} {part} {tasks} {k} some treated fits) =
    awaiting some (treated_later p.types cells after stay v (frame.begins by done) (performs of part ∷ tasks) treated) (fits_later p cells after stay k kinds fits)
operation_stays p cells after stay kinds _ (confined {k} some fits) = confined some (fits_later p cells after stay k kinds fits)

-- Activations wait as well.
module _ (p : ProgramForm) (cells after : Cells) (stay : StayDesignated cells after) where
  references_later : (types : List TypeForm) (kinds : List VariableKind) (rs : List Value) → AreReferences types cells kinds rs → AreReferences types after kinds rs
  references_later types [] [] h = tt
  references_later types [] (r ∷ rs) h = h
  references_later types (kind ∷ kinds) [] h = h
  references_later types (kind ∷ kinds) (r ∷ rs) h = (refers_later types cells after stay kind r h.0, references_later types kinds rs h.1)

  one_later : (own : ProgramForm) (kinds : List VariableKind) (actuals : List ActualForm) (references : List Value) (k : List (Frame Value)) (a : Activation Value) → WaitsBy own cells kinds actuals references k a → WaitsBy own after kinds actuals references k a
  one_later own kinds actuals references k a (for_call h) =
      for_call (record { no_operands = h.no_operands; held = held_later own.types cells after stay own.variables a.places h.held; suits = h.suits; referred = references_later own.types (stored_kinds kinds actuals) references h.referred; fits = fits_later own cells after stay k [] h.fits })
  one_later own kinds actuals references k a (for_operation h) =
      for_operation (record {
        no_actuals = h.no_actuals;
        no_references = h.no_references;
        kinds = h.kinds;
        held = held_later own.types cells after stay own.variables a.places h.held;
        computed = computed_later own.types cells after stay h.kinds a.operands h.computed;
        awaits = operation_stays own cells after stay h.kinds k h.awaits;
      })

  first_later : (callee : Option ℕ) (actuals : List ActualForm) (references : List Value) (k : List (Frame Value)) (suspended : List (Activation Value)) (others others_after : Type 0) → (others → others_after) → WaitsFirst p cells callee actuals references k suspended others → WaitsFirst p after callee actuals references k suspended others_after
  first_later callee actuals references k [] others others_after f h = h
  first_later callee actuals references k (a ∷ suspended) others others_after f h =
      (one_later (seen_in a.procedure p) (kinds_in p callee) actuals references k a h.0, f h.1)

  pub waiting_later : (callee : Option ℕ) (k : List (Frame Value)) (suspended : List (Activation Value)) → Waiting p cells callee k suspended → Waiting p after callee k suspended
  waiting_later callee [] suspended h = h
  waiting_later callee (f ∷ k) suspended h =
      let others = Waiting p cells (procedure_of suspended) k (older suspended) in
      let others_after = Waiting p after (procedure_of suspended) k (older suspended) in
      return_later (is_return f) (WaitsFirst p cells callee (actuals_at f) (references_at f) k suspended others) (Waiting p cells callee k suspended)
      (WaitsFirst p after callee (actuals_at f) (references_at f) k suspended others_after) (Waiting p after callee k suspended)
      (first_later callee (actuals_at f) (references_at f) k suspended others others_after (waiting_later (procedure_of suspended) k (older suspended))) (waiting_later callee k suspended) h
