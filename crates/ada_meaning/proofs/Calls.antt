-- What comes next where a call begins, and where its body ends.

use Rattle.std.proofs.Common.{◌≡◌, inl, inr, ℕ, zero, suc, ◌+◌, pos, false, List, [], ◌∷◌, ◌++◌, length, map, take, drop, reverse, Some, refl, sym, ap, ◌∙◌, subst, arith}
use Rattle.std.specs.List.{slice_get}
use Rattle.std.proofs.lemmas.List.{reverse-reverse, length-reverse}
use Rattle.std.proofs.Math.Seq.{take-append_seam, drop-append_seam}
use Rattle.ada_program.specs.declared.program.Program.{Program}
use Rattle.ada_program.specs.declared.program.TypeDefinition.{TypeDefinition}
use Rattle.ada_program.specs.declared.program.VariableKind.{VariableKind}
use Rattle.ada_program.specs.declared.program.VariableKind.TheVariants as variable
use Rattle.ada_program.specs.Form.{ActualForm, in_value, in_null, in_access, in_record, in_out_path, in_out_access, in_out_component, in_out_record, calls, StmtsForm, a_stmt}
use Rattle.ada_program.specs.ProgramForm.{VariableForm, BodyForm, body_forms}
use Rattle.ada_meaning.specs.declared.state.Mode.{Mode}
use Rattle.ada_meaning.specs.declared.state.Mode.TheVariants.{Running, Raising, Exiting, Returning}
use Rattle.ada_meaning.specs.declared.state.Value.{Value}
use Rattle.ada_meaning.specs.Event.{Quiet}
use Rattle.ada_meaning.specs.Frame.{Frame, evaluating}
use Rattle.ada_meaning.specs.Frame as frame
use Rattle.ada_meaning.specs.State.{Activation}
use Rattle.ada_meaning.specs.Step.{moves, at, blank, blanks, given_places, given_values, references_in, operand_count, entered, activated, begun, computing, newest_ones, storing, resumed, returned}
use Rattle.ada_meaning.specs.Named.{State, Next, named, next, whole, base}
use Rattle.ada_meaning.specs.Run.{Event, Choice, settled, grants, takes, Leads}
use Rattle.ada_meaning.specs.Calls.{callers_in, EndsNormally, EndsAbruptly, ComesBack, ComesTo, EvaluatesActuals, CallsEvaluate, IsOfKind, AreOfKinds, IsComponent, AreGiven, nothing, a_value, a_component, HasBegun, ActualsArrive, AreStoredIn, HasReturned, CallersResume}
use Rattle.ada_meaning.proofs.CopiedBack.{comes_back, older_callers}

-- A step that is known, and that shows nothing.
module _ (program : Program) (before known : State) (P : State → Type 0) (holds : P known) where
  led : (choice : Choice) (event : Event) (after : State) → Leads (moves Quiet known) choice event after → (event ≡ Quiet) × P after
  led settled event after l = (l.0, subst P (sym l.1) holds)
  led (grants granted) event after l = absurd l
  led (takes i) event after l = absurd l

  comes_to : next program.types.items (body_forms program) before ≡ moves Quiet known → ComesTo program before P
  comes_to is = record {
    goes = (known, subst (λ (coming : Next). Leads coming settled Quiet known) (sym is) (refl, refl));
    leads = λ choice event after step. led choice event after (subst (λ (coming : Next). Leads coming choice event after) is step);
  }

-- Actual parameters that are evaluated.
computing_all :
    (actuals : List ActualForm) (k : List (Frame Value)) → computing named actuals k ≡ map evaluating actuals ++ k
computing_all [] k = refl
computing_all (a ∷ rest) k = ap (λ (fs : List (Frame Value)). evaluating a ∷ fs) (computing_all rest k)

module _ (types : List TypeDefinition) (bodies : List BodyForm) (procedure : ℕ) (outer : List (Frame Value)) where
  abbrev called : List ActualForm → BodyForm → StmtsForm → State → State
  called actuals body later s = record s { control = computing named actuals (frame.Calls procedure body actuals ∷ frame.Does later ∷ outer) }

  call_step :
      (actuals : List ActualForm) (body : BodyForm) (later : StmtsForm) (s : State) → slice_get bodies procedure ≡ Some body → s.mode ≡ Running
      → s.control ≡ frame.Does (a_stmt (calls procedure actuals) later) ∷ outer → next types bodies s ≡ moves Quiet (called actuals body later s)
  unfolding next
  call_step actuals body later s named_so runs is = rw (runs, is, named_so) refl

  begin_step :
      (body : BodyForm) (given : List ActualForm) (s : State) → s.mode ≡ Running → s.control ≡ frame.Calls procedure body given ∷ outer
      → next types bodies s ≡ moves Quiet (begun named procedure body given (newest_ones named (operand_count given) s) (at outer s))
  unfolding next
  begin_step body given s runs is = rw (runs, is) refl

pub calls_evaluate : CallsEvaluate
calls_evaluate program procedure actuals body later outer before named_so runs is =
    let known = called program.types.items (body_forms program) procedure outer actuals body later before in
    comes_to program before known (EvaluatesActuals procedure actuals body later outer before)
    (record {
      control = computing_all actuals (frame.Calls procedure body actuals ∷ frame.Does later ∷ outer);
      mode = runs;
      activations = refl;
      masters = refl;
      next = refl;
      alone = record { heap = refl; input = refl; allocated = refl; born = refl };
    })
    (call_step program.types.items (body_forms program) procedure outer actuals body later before named_so runs is)

-- The newest operands are those of the actual parameters, in the order in which they were computed.
newest_are : (computed pending : List Value) → reverse (take (length computed) (reverse computed ++ pending)) ≡ computed
newest_are computed pending =
    ap (λ (n : ℕ). reverse (take n (reverse computed ++ pending))) (sym (length-reverse computed)) ∙
    ap reverse (take-append_seam (reverse computed) pending) ∙ reverse-reverse computed

-- An actual parameter that is no component has one operand, its value.
pub record HasOne (a : ActualForm) (rest : List ActualForm) : Type 0 where
  pub counts : operand_count (a ∷ rest) ≡ 1 + operand_count rest
  pub values : (v : Value) (vs : List Value) → given_values (a ∷ rest) (v ∷ vs) ≡ v ∷ given_values rest vs
  pub references : (v : Value) (vs : List Value) → references_in (a ∷ rest) (v ∷ vs) ≡ references_in rest vs

has_one : (a : ActualForm) (rest : List ActualForm) → (IsComponent a → ⊥) → HasOne a rest
has_one (in_value e) rest apart = record { counts = refl; values = λ v vs. refl; references = λ v vs. refl }
has_one in_null rest apart = record { counts = refl; values = λ v vs. refl; references = λ v vs. refl }
has_one (in_access path) rest apart = record { counts = refl; values = λ v vs. refl; references = λ v vs. refl }
has_one (in_record p) rest apart = record { counts = refl; values = λ v vs. refl; references = λ v vs. refl }
has_one (in_out_path path) rest apart = record { counts = refl; values = λ v vs. refl; references = λ v vs. refl }
has_one (in_out_access path) rest apart = record { counts = refl; values = λ v vs. refl; references = λ v vs. refl }
has_one (in_out_component path) rest apart = absurd (apart tt)
has_one (in_out_record p) rest apart = record { counts = refl; values = λ v vs. refl; references = λ v vs. refl }

-- A component has two, what refers to it and its value.
pub record HasTwo (a : ActualForm) (rest : List ActualForm) : Type 0 where
  pub counts : operand_count (a ∷ rest) ≡ 2 + operand_count rest
  pub values : (r v : Value) (vs : List Value) → given_values (a ∷ rest) (r ∷ v ∷ vs) ≡ v ∷ given_values rest vs
  pub references : (r v : Value) (vs : List Value) → references_in (a ∷ rest) (r ∷ v ∷ vs) ≡ r ∷ references_in rest vs

has_two : (a : ActualForm) (rest : List ActualForm) → IsComponent a → HasTwo a rest
has_two (in_value e) rest is = absurd is
has_two in_null rest is = absurd is
has_two (in_access path) rest is = absurd is
has_two (in_record p) rest is = absurd is
has_two (in_out_path path) rest is = absurd is
has_two (in_out_access path) rest is = absurd is
has_two (in_out_component path) rest is = record { counts = refl; values = λ r v vs. refl; references = λ r v vs. refl }
has_two (in_out_record p) rest is = absurd is

-- So the operands are told apart.
operands_counted :
    (given : List ActualForm) (computed formals references : List Value) → AreGiven given computed formals references
    → operand_count given ≡ length computed
operands_counted [] computed formals references nothing = refl
operands_counted (a ∷ rest) [] formals references are = elim are [ ]
operands_counted (a ∷ rest) (v ∷ computed) formals references (a_value apart are) =
    omega (arith, (has_one a rest apart).counts, operands_counted rest computed _ references are)
operands_counted (a ∷ rest) (r ∷ v ∷ computed) formals references (a_component is are) =
    omega (arith, (has_two a rest is).counts, operands_counted rest computed _ _ are)

pub values_given :
    (given : List ActualForm) (computed formals references : List Value) → AreGiven given computed formals references
    → given_values given computed ≡ formals
values_given [] computed formals references nothing = refl
values_given (a ∷ rest) [] formals references are = elim are [ ]
values_given (a ∷ rest) (v ∷ computed) formals references (a_value apart are) =
    (has_one a rest apart).values v computed ∙ ap (λ (vs : List Value). v ∷ vs) (values_given rest computed _ references are)
values_given (a ∷ rest) (r ∷ v ∷ computed) formals references (a_component is are) =
    (has_two a rest is).values r v computed ∙ ap (λ (vs : List Value). v ∷ vs) (values_given rest computed _ _ are)

pub references_given :
    (given : List ActualForm) (computed formals references : List Value) → AreGiven given computed formals references
    → references_in given computed ≡ references
references_given [] computed formals references nothing = refl
references_given (a ∷ rest) [] formals references are = elim are [ ]
references_given (a ∷ rest) (v ∷ computed) formals references (a_value apart are) =
    (has_one a rest apart).references v computed ∙ references_given rest computed _ references are
references_given (a ∷ rest) (r ∷ v ∷ computed) formals references (a_component is are) =
    (has_two a rest is).references r v computed ∙ ap (λ (rs : List Value). r ∷ rs) (references_given rest computed _ _ are)

-- What lies in places where nothing is given.
is_of_kind : (kind : VariableKind) → IsOfKind kind (blank named kind)
is_of_kind variable.Integer = (pos 0, refl)
is_of_kind variable.Boolean = (false, refl)
is_of_kind (variable.Access access) = refl
is_of_kind (variable.Record object) = refl

pub are_of_kinds : (n : ℕ) (xs : List VariableForm) → AreOfKinds (drop n xs) (drop n (blanks named xs))
are_of_kinds zero [] = tt
are_of_kinds zero (x ∷ xs) = (is_of_kind x.kind, are_of_kinds zero xs)
are_of_kinds (suc n) [] = tt
are_of_kinds (suc n) (x ∷ xs) = are_of_kinds n xs

others_given : (actuals : List Value) (xs : List VariableForm) → AreOfKinds (drop (length actuals) xs) (drop (length actuals) (given_places named actuals xs))
others_given actuals xs =
    subst (AreOfKinds (drop (length actuals) xs)) (sym (drop-append_seam actuals (drop (length actuals) (blanks named xs)))) (are_of_kinds (length actuals) xs)

module _ (procedure : ℕ) (body : BodyForm) (given : List ActualForm) (outer : List (Frame Value)) (before : State) where
  -- The state where the body has begun with these values, and these references to components.
  abbrev begun_with : (actuals references : List Value) → State
  begun_with actuals references =
      entered (activated named procedure body actuals
      (at (frame.Elaborates body.declarations body.statements body.handlers ∷ frame.Returns given references ∷ outer) before))

  module _ (computed actuals references pending : List Value) (caller : Activation Value) (callers : List (Activation Value)) where
    taken :
        AreGiven given computed actuals references → before.activations ≡ caller ∷ callers → caller.operands ≡ reverse computed ++ pending
        → newest_ones named (operand_count given) before ≡ computed
    taken are active kept = rw (operands_counted given computed actuals references are, active, kept) (newest_are computed pending)

    given_so :
        AreGiven given computed actuals references → before.activations ≡ caller ∷ callers → caller.operands ≡ reverse computed ++ pending
        → begun named procedure body given (newest_ones named (operand_count given) before) (at outer before) ≡ begun_with actuals references
    given_so are active kept =
        ap (λ (vs : List Value). begun named procedure body given vs (at outer before)) (taken are active kept)
        ∙ ap (λ (vs : List Value). begun_with vs (references_in given computed)) (values_given given computed actuals references are)
        ∙ ap (λ (rs : List Value). begun_with actuals rs) (references_given given computed actuals references are)

  has_begun :
      (actuals references : List Value) (caller : Activation Value) (callers : List (Activation Value)) → before.mode ≡ Running
      → before.activations ≡ caller ∷ callers
      → HasBegun procedure body given actuals references caller callers outer before (begun_with actuals references)
  has_begun actuals references caller callers runs active = record {
    callee = record { procedure = Some procedure; places = given_places named actuals body.variables; operands = [] };
    activations = rw active refl;
    procedure_called = refl;
    formals = take-append_seam actuals (drop (length actuals) (blanks named body.variables));
    others = others_given actuals body.variables;
    operands = refl;
    masters = refl;
    next = refl;
    control = refl;
    mode = runs;
    alone = record { heap = refl; input = refl; allocated = refl; born = refl };
  }

pub actuals_arrive : ActualsArrive
actuals_arrive program procedure body given computed actuals references pending caller callers outer before runs is are active kept =
    comes_to program before (begun_with procedure body given outer before actuals references)
    (HasBegun procedure body given actuals references caller callers outer before)
    (has_begun procedure body given outer before actuals references caller callers runs active)
    (begin_step program.types.items (body_forms program) procedure outer body given before runs is
    ∙ ap (moves Quiet) (given_so procedure body given outer before computed actuals references pending caller callers are active kept))

-- The end of a body, in each mode.
abbrev mode_behind : Mode → Mode
mode_behind Running = Running
mode_behind (Raising e) = Raising e
mode_behind Exiting = Exiting
mode_behind Returning = Running

runs_behind : (mode : Mode) → EndsNormally mode → mode_behind mode ≡ Running
runs_behind mode (inl is) = ap mode_behind is
runs_behind mode (inr is) = ap mode_behind is

-- What a body that ends leaves of the activations, where no exception passes and where one does.
abbrev activations_behind : Mode → List ActualForm → List Value → State → List (Activation Value)
activations_behind Running actuals references s = (returned named actuals references s).activations
activations_behind (Raising e) actuals references s = (resumed s).activations
activations_behind Exiting actuals references s = (resumed s).activations
activations_behind Returning actuals references s = (returned named actuals references s).activations

-- What it leaves to do.
abbrev left_behind : Mode → List Value → List (Frame Value) → List (Frame Value)
left_behind Running references outer = storing named references outer
left_behind (Raising e) references outer = outer
left_behind Exiting references outer = outer
left_behind Returning references outer = storing named references outer

abbrev ended : Mode → List ActualForm → List Value → List (Frame Value) → State → State
ended mode actuals references outer s = record s {
  activations = activations_behind mode actuals references s;
  control = left_behind mode references outer;
  mode = mode_behind mode;
}

end_step :
    (types : List TypeDefinition) (bodies : List BodyForm) (actuals : List ActualForm) (references : List Value) (outer : List (Frame Value)) (mode : Mode)
    (s : State) → s.mode ≡ mode → s.control ≡ frame.Returns actuals references ∷ outer
    → next types bodies s ≡ moves Quiet (ended mode actuals references outer s)
unfolding next
end_step types bodies actuals references outer Running s m is = rw (m, is) refl
end_step types bodies actuals references outer (Raising e) s m is = rw (m, is) refl
end_step types bodies actuals references outer Exiting s m is = rw (m, is) refl
end_step types bodies actuals references outer Returning s m is = rw (m, is) refl

comes_behind :
    (mode : Mode) (actuals : List ActualForm) (references : List Value) (s : State) → EndsNormally mode
    → ComesBack actuals s.activations (activations_behind mode actuals references s)
comes_behind Running actuals references s normal = comes_back actuals s.activations
comes_behind (Raising e) actuals references s (inl is) = absurd (cc)
comes_behind (Raising e) actuals references s (inr is) = absurd (cc)
comes_behind Exiting actuals references s (inl is) = absurd (cc)
comes_behind Exiting actuals references s (inr is) = absurd (cc)
comes_behind Returning actuals references s normal = comes_back actuals s.activations

holds_behind :
    (mode : Mode) (actuals : List ActualForm) (references : List Value) (s : State) → EndsAbruptly mode
    → activations_behind mode actuals references s ≡ callers_in s.activations
holds_behind Running actuals references s abrupt = absurd abrupt
holds_behind (Raising e) actuals references s abrupt = older_callers s.activations
holds_behind Exiting actuals references s abrupt = older_callers s.activations
holds_behind Returning actuals references s abrupt = absurd abrupt

-- What goes to components is stored in front of what was left, in order.
storing_first : (references : List Value) (k : List (Frame Value)) → storing named references k ≡ storing named references [] ++ k
storing_first [] k = refl
storing_first (r ∷ rs) k = ap (λ (fs : List (Frame Value)). frame.StoresIn (whole r) (base r) ∷ fs) (storing_first rs k)

are_stored : (references : List Value) → AreStoredIn references (storing named references [])
are_stored [] = tt
are_stored (r ∷ rs) = (λ o c is. ap (λ (v : Value). frame.StoresIn (whole v) (base v)) is, are_stored rs)

stores_first :
    (mode : Mode) (references : List Value) (outer : List (Frame Value)) → EndsNormally mode
    → left_behind mode references outer ≡ storing named references [] ++ outer
stores_first Running references outer normal = storing_first references outer
stores_first (Raising e) references outer (inl is) = absurd (cc)
stores_first (Raising e) references outer (inr is) = absurd (cc)
stores_first Exiting references outer (inl is) = absurd (cc)
stores_first Exiting references outer (inr is) = absurd (cc)
stores_first Returning references outer normal = storing_first references outer

passes_first : (mode : Mode) (references : List Value) (outer : List (Frame Value)) → EndsAbruptly mode → left_behind mode references outer ≡ outer
passes_first Running references outer abrupt = absurd abrupt
passes_first (Raising e) references outer abrupt = refl
passes_first Exiting references outer abrupt = refl
passes_first Returning references outer abrupt = absurd abrupt

pub callers_resume : CallersResume
callers_resume program actuals references callee callers outer before is active =
    let behind = activations_behind before.mode actuals references before in
    comes_to program before (ended before.mode actuals references outer before) (HasReturned actuals references callee callers outer before)
    (record {
      gets_back = λ normal. subst (λ (xs : List (Activation Value)). ComesBack actuals xs behind) active
          (comes_behind before.mode actuals references before normal);
      holds_on = λ abrupt. holds_behind before.mode actuals references before abrupt ∙ ap callers_in active;
      stores = λ normal. (storing named references [], are_stored references, stores_first before.mode references outer normal);
      passes = λ abrupt. passes_first before.mode references outer abrupt;
      runs = λ normal. runs_behind before.mode normal;
      raises = λ e raises. ap mode_behind raises;
      masters = refl;
      next = refl;
      alone = record { heap = refl; input = refl; allocated = refl; born = refl };
    })
    (end_step program.types.items (body_forms program) actuals references outer before.mode before refl is)
