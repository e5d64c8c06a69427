-- What overrides an operation is plain or frugal (7.6): so it creates no collection, no record object that names something in a collection of an inner part,
-- and calls frugal bodies alone. One that is quiet lets no exception out, either.

use Rattle.std.proofs.Common.{◌≡◌, ℕ, zero, suc, ◌+◌, Bool, true, false, ◌&&◌, ◌||◌, if◌then◌else◌, List, [], ◌∷◌, ◌++◌, length, map, refl, sym, ap, ◌∙◌, arith, length-append, ◌⊎◌, inl, inr}
use Rattle.std.specs.Prelude.{Option, Some, None, find, is_some}
use Rattle.std.specs.List.{list_all, slice_get, slice_index_or}
use Rattle.std.specs.Option.{option_map}
use Rattle.std.proofs.lemmas.Bool.{eq-eqb, eqb-true, not-true, or_cases}
use Rattle.std.proofs.lemmas.Option.{slice_get-map}
use Rattle.ada_program.specs.declared.program.Finalization.{Finalization}
use Rattle.ada_program.specs.declared.program.Operations.{Operations}
use Rattle.ada_program.specs.declared.program.ProcedureNo.{ProcedureNo}
use Rattle.ada_program.specs.declared.program.Program.{Program}
use Rattle.ada_program.specs.declared.program.TypeDefinition.{TypeDefinition}
use Rattle.ada_program.specs.declared.program.TypeDefinition.TheVariants as definition
use Rattle.ada_program.specs.Controlled.{number_in, is_number, number_by, operations_by, operations_in, operations_of, procedure_number}
use Rattle.ada_program.specs.Form.{StmtForm, skips, assigns, assigns_record, frees, gets, writes, writes_text, chooses, repeats, counts, exits, calls, returns, raises, encloses, StmtsForm, no_stmts, a_stmt, BranchesForm, otherwise, a_branch, HandlersForm, no_handlers, a_handler, DeclarationForm, creates_pool, collects, declares, declares_record}
use Rattle.ada_program.specs.Nested.{Callees, collected, record_objects, part_nests, statement_nests, statements_nest, branches_nest, handlers_nest, body_nests, call_nests, callees_from, callees_of}
use Rattle.ada_program.specs.ProgramForm.{TypeForm, VariableForm, BodyForm, ProgramForm, type_form, main_body, program_form, body_forms, seen_in}
use Rattle.ada_program.specs.WellFormed.{IsWellFormed, is_access, profile_of, callable_in, finalization_in, is_inherited, is_operation, overrides_rightly, has_operations, have_operations}
use Rattle.ada_effects.specs.Effects.{no_calls, body_raises}
use Rattle.ada_flow.specs.Flow.{have_exit, handlers_have_exit}
use Rattle.ada_typed.proofs.Bodies.{seen_as, seen_fits}
use Rattle.ada_scopes.proofs.Lacked.{kinds_open}
use Rattle.ada_scopes.specs.Scopes.{NestsWhereOpen, AllNestWhereOpen, OperationsNest}
use Rattle.ada_quiet.specs.Apart.{body_calls_apart, is_this_one, is_adjust_of, is_tracker, leaves_access, operations_apart, overrides_apart}
use Rattle.ada_quiet.specs.Quiet.{is_quiet_stmt, are_quiet, are_quiet_branches, are_quiet_handlers, are_quiet_declarations, is_plain_body, is_quiet_body, is_plain_procedure, is_quiet_procedure, is_plain_operation, is_quiet_operation, has_access, operation_body}
use Rattle.ada_quiet.specs.Frugal.{is_frugal_body, frugal_operations, thrift_of, is_frugal_operation}
use Rattle.ada_quiet.specs.InUse.{may_adjust_frugally, tracks_beside_none, tracks_nothing, may_be_frugal, uses_initialize, uses_finalize, uses_operations, operations_may_be_called, adjusts_nothing, may_track, uses_adjust, uses_called_adjust}
use Rattle.ada_quiet.specs.Idle.{copies_parts}
use Rattle.ada_quiet.specs.Simple.{is_simple_body, is_simple_procedure, is_simple_operation}
use Rattle.ada_quiet.proofs.InUse.{plain_procedure, plain_operation}
use Rattle.ada_sound.proofs.Exits.{no_exits, no_exit_handlers}
use Rattle.ada_sound.proofs.OperationStarts.{apart}
use Rattle.ada_parts.specs.Part as parts
use Rattle.ada_meaning.specs.declared.event.Birth.TheVariants.{Creation, Copy, Adjustment}
use Rattle.ada_meaning.specs.declared.event.Cause.{Cause}
use Rattle.ada_meaning.specs.Frame.{Treatment, begins, ends}
use Rattle.ada_quiet.proofs.FrugalAt.{operation_at}
use Rattle.ada_quiet.proofs.QuietFrugal.{frugal_body}
use Rattle.ada_sound.proofs.OnlyParts.{passed_at}
use Rattle.ada_sound.proofs.OperationNests.{operation_nests}
use Rattle.ada_sound.proofs.SimpleBodies.{simple_nests}
use Rattle.ada_sound.proofs.Operating.{IsCalled, PlainBody}

-- Quiet statements create nothing but Integers and Booleans.
module _ (types : List TypeForm) (variables : List VariableForm) where
  none_collected : (ds : List DeclarationForm) → are_quiet_declarations types variables ds ≡ true → (collected ds ≡ []) × (record_objects ds ≡ [])
  none_collected [] quiet = (refl, refl)
  none_collected (creates_pool p ∷ ds) quiet = absurd (cc quiet)
  none_collected (collects access ∷ ds) quiet = absurd (cc quiet)
  none_collected (declares x right ∷ ds) quiet = none_collected ds (apart _ _ quiet).1
  none_collected (declares_record x t initial ∷ ds) quiet = absurd (cc quiet)

  part_is : (around : List ℕ) (ds : List DeclarationForm) → are_quiet_declarations types variables ds ≡ true → part_nests types around ds ≡ true
  part_is around ds quiet = let none = none_collected ds quiet in rw (none.0, none.1) refl

  module _ (callees : Callees) where
    mutual
      stmt_is : (around : List ℕ) (f : StmtForm) → is_quiet_stmt types variables f ≡ true → statement_nests types callees around f ≡ true
      stmt_is around skips quiet = refl
      stmt_is around (assigns target right) quiet = refl
      stmt_is around (assigns_record target items) quiet = refl
      stmt_is around (frees access path) quiet = refl
      stmt_is around (gets target) quiet = refl
      stmt_is around (writes e) quiet = refl
      stmt_is around (writes_text text) quiet = refl
      stmt_is around (chooses branches) quiet = branches_are around branches quiet
      stmt_is around (repeats condition fs spot) quiet = stmts_are around fs (apart _ _ quiet).1
      stmt_is around (counts x low high fs spot) quiet = stmts_are around fs (apart _ _ quiet).1
      stmt_is around (exits condition spot) quiet = refl
      stmt_is around (calls procedure actuals) quiet = absurd (cc quiet)
      stmt_is around (returns spot) quiet = refl
      stmt_is around (raises e) quiet = refl
      stmt_is around (encloses ds fs hs) quiet =
          let two = apart _ _ quiet in
          let three = apart _ _ two.0 in
          rw (part_is around ds three.0, stmts_are (collected ds ++ around) fs three.1, handlers_are (collected ds ++ around) hs two.1) refl

      stmts_are : (around : List ℕ) (fs : StmtsForm) → are_quiet types variables fs ≡ true → statements_nest types callees around fs ≡ true
      stmts_are around no_stmts quiet = refl
      stmts_are around (a_stmt f fs) quiet = let both = apart _ _ quiet in rw (stmt_is around f both.0, stmts_are around fs both.1) refl

      branches_are : (around : List ℕ) (branches : BranchesForm) → are_quiet_branches types variables branches ≡ true → branches_nest types callees around branches ≡ true
      branches_are around (otherwise fs) quiet = stmts_are around fs quiet
      branches_are around (a_branch e fs branches) quiet =
          let two = apart _ _ quiet in
          let three = apart _ _ two.0 in
          rw (stmts_are around fs three.1, branches_are around branches two.1) refl

      handlers_are : (around : List ℕ) (hs : HandlersForm) → are_quiet_handlers types variables hs ≡ true → handlers_nest types callees around hs ≡ true
      handlers_are around no_handlers quiet = refl
      handlers_are around (a_handler choices fs hs) quiet = let both = apart _ _ quiet in rw (stmts_are around fs both.0, handlers_are around hs both.1) refl

-- What is known of a plain body.
plain_is : (types : List TypeForm) (b : BodyForm) → is_plain_body types b ≡ true → have_exit b.statements ≡ false → handlers_have_exit b.handlers ≡ false → PlainBody types b
plain_is types b plain out on =
    let four = apart _ _ plain in
    let three = apart _ _ four.0 in
    let two = apart _ _ three.0 in
    record {
      plain = plain;
      elementary = two.0;
      declarations = two.1;
      statements = three.1;
      handlers = four.1;
      none_out = out;
      none_on = on;
    }

body_is : (types : List TypeForm) (callees : Callees) (b : BodyForm) (around : List ℕ) → is_plain_body types b ≡ true → body_nests types callees b around ≡ true
body_is types callees b around plain =
    let four = apart _ _ plain in
    let three = apart _ _ four.0 in
    let two = apart _ _ three.0 in
    rw (
      part_is types b.variables around b.declarations two.1,
      stmts_are types b.variables callees (collected b.declarations ++ around) b.statements three.1,
      handlers_are types b.variables callees (collected b.declarations ++ around) b.handlers four.1,
    ) refl

-- What overrides an operation is the procedure of its number.
pub this_one : (o : Option ProcedureNo) (number : ℕ) → procedure_number o ≡ Some number → is_this_one number o ≡ true
this_one None number is = absurd (cc is)
this_one (Some procedure) number is = let same : procedure.0 ≡ number = cc is in eq-eqb procedure.0 number same

module _ (p : ProgramForm) where
  abbrev pub IsPlain : ℕ → Type 0
  IsPlain number = is_plain_procedure p.types (slice_get p.bodies number) ≡ true

  abbrev pub IsQuiet : ℕ → Type 0
  IsQuiet number = is_quiet_procedure p.types (slice_get p.bodies number) ≡ true

  -- A procedure is not plain, or not quiet.
  abbrev pub IsNotPlain : ℕ → Type 0
  IsNotPlain number = is_plain_procedure p.types (slice_get p.bodies number) ≡ false

  abbrev pub IsNotQuiet : ℕ → Type 0
  IsNotQuiet number = is_quiet_procedure p.types (slice_get p.bodies number) ≡ false

  -- A procedure is frugal, where that may be.
  abbrev pub IsFrugal : ℕ → Type 0
  IsFrugal number = (may_be_frugal p ≡ true) × (slice_index_or (frugal_operations p) number false ≡ true)

  abbrev pub IsSimple : ℕ → Type 0
  IsSimple number = (may_track p ≡ true) × (is_simple_procedure p.types (slice_get p.bodies number) ≡ true)

  -- A procedure is frugal, and no Adjust tracks beside one that does not.
  abbrev pub IsFreelyFrugal : ℕ → Type 0
  IsFreelyFrugal number = (tracks_beside_none p ≡ true) × IsFrugal number × IsNotQuiet number

  -- Such a procedure does not track.
  abbrev pub IsUntracked : ℕ → Type 0
  IsUntracked number = IsFreelyFrugal number × (is_tracker p number ≡ false)

  -- What overrides Initialize is plain or frugal, what overrides Adjust is quiet, or frugal where none tracks beside it, or simple and of a type that owns, and
  -- what overrides Finalize is quiet, or frugal.
  record AreUsed (Owns : Type 0) (o : Operations) (number : ℕ) : Type 0 where
    initializes : procedure_number o.initialize ≡ Some number → IsPlain number ⊎ (IsFrugal number × IsNotPlain number)
    adjusts : copies_parts p ≡ true → procedure_number o.adjust ≡ Some number → IsQuiet number ⊎ (IsUntracked number ⊎ (IsSimple number × Owns))
    finalizes : procedure_number o.finalize ≡ Some number → IsQuiet number ⊎ (IsFrugal number × IsNotQuiet number)
    -- whether an Adjust may be called or not, it is quiet, or frugal, or of a type that owns
    overrides_adjust : procedure_number o.adjust ≡ Some number → IsQuiet number ⊎ ((slice_index_or (frugal_operations p) number false ≡ true) ⊎ Owns)

  plain_one : (o : Option ProcedureNo) (number : ℕ) → is_plain_operation p o ≡ true → procedure_number o ≡ Some number → IsPlain number
  plain_one None number plain is = absurd (cc is)
  plain_one (Some procedure) number plain is = let same : procedure.0 ≡ number = cc is in rw same at plain

  quiet_one : (o : Option ProcedureNo) (number : ℕ) → is_quiet_operation p o ≡ true → procedure_number o ≡ Some number → IsQuiet number
  quiet_one None number quiet is = absurd (cc is)
  quiet_one (Some procedure) number quiet is = let same : procedure.0 ≡ number = cc is in rw same at quiet

  not_plain : (o : Option ProcedureNo) (number : ℕ) → is_plain_operation p o ≡ false → procedure_number o ≡ Some number → IsNotPlain number
  not_plain None number other is = absurd (cc is)
  not_plain (Some procedure) number other is = let same : procedure.0 ≡ number = cc is in rw same at other

  not_quiet : (o : Option ProcedureNo) (number : ℕ) → is_quiet_operation p o ≡ false → procedure_number o ≡ Some number → IsNotQuiet number
  not_quiet None number other is = absurd (cc is)
  not_quiet (Some procedure) number other is = let same : procedure.0 ≡ number = cc is in rw same at other

  frugal_one : (o : Option ProcedureNo) (number : ℕ) → is_frugal_operation p o ≡ true → procedure_number o ≡ Some number
      → slice_index_or (frugal_operations p) number false ≡ true
  frugal_one None number frugal is = absurd (cc is)
  frugal_one (Some procedure) number frugal is = let same : procedure.0 ≡ number = cc is in rw same at frugal

  finalize_one : (o : Option ProcedureNo) (number : ℕ) → uses_finalize p o ≡ true → procedure_number o ≡ Some number → IsQuiet number ⊎ (IsFrugal number × IsNotQuiet number)
  finalize_one o number uses is = by (is_quiet_operation p o) refl uses
    where
      by : (quiet : Bool) → is_quiet_operation p o ≡ quiet → (quiet || (may_be_frugal p && is_frugal_operation p o)) ≡ true
          → IsQuiet number ⊎ (IsFrugal number × IsNotQuiet number)
      by true quiet uses' = inl (quiet_one o number quiet is)
      by false quiet uses' =
          let both = apart (may_be_frugal p) (is_frugal_operation p o) uses' in
          inr ((both.0, frugal_one o number both.1 is), not_quiet o number quiet is)

  simple_one :
      (o : Option ProcedureNo) (number : ℕ) → is_simple_operation p o ≡ true → procedure_number o ≡ Some number
      → is_simple_procedure p.types (slice_get p.bodies number) ≡ true
  simple_one None number simple is = absurd (cc is)
  simple_one (Some procedure) number simple is = let same : procedure.0 ≡ number = cc is in rw same at simple

  -- Where records with controlled parts are copied, an Adjust is in use as one that may be called.
  pub called_adjust : (owns : Bool) (o : Option ProcedureNo) → copies_parts p ≡ true → uses_adjust p owns o ≡ true → uses_called_adjust p owns o ≡ true
  called_adjust owns o copies uses = rw copies at uses

  -- What is frugal has a body.
  has_body : (bs : List BodyForm) (number : ℕ) → slice_index_or (map (is_frugal_body (thrift_of p)) bs) number false ≡ true → is_some (slice_get bs number) ≡ true
  has_body [] number frugal = absurd (cc frugal)
  has_body (b ∷ bs) zero frugal = refl
  has_body (b ∷ bs) (suc number) frugal = has_body bs number frugal

  -- What is frugal overrides an Adjust of a type without a component of an access type, if it is not asked to be simple.
  owns_none : (owns : Bool) (o : Option ProcedureNo) (number : ℕ) → (owns && is_some (operation_body p o)) ≡ false → is_frugal_operation p o ≡ true
      → procedure_number o ≡ Some number → owns ≡ false
  owns_none false o number none frugal is = refl
  owns_none true None number none frugal is = absurd (cc is)
  owns_none true (Some procedure) number none frugal is = let some = has_body p.bodies procedure.0 frugal in absurd (cc (none, some))

  -- One of such a type does not track, where operations stand apart.
  tracks_none : (owns : Bool) (o : Option ProcedureNo) (number : ℕ) → owns ≡ false → (owns || overrides_apart (is_tracker p) o) ≡ true
      → procedure_number o ≡ Some number → is_tracker p number ≡ false
  tracks_none true o number none stands is = absurd (cc none)
  tracks_none false None number none stands is = absurd (cc is)
  tracks_none false (Some procedure) number none stands is =
      let same : procedure.0 ≡ number = cc is in not-true (is_tracker p number) (rw same at stands)

  pub adjust_one : (owns : Bool) (o : Option ProcedureNo) (number : ℕ) → uses_called_adjust p owns o ≡ true → procedure_number o ≡ Some number → IsQuiet number ⊎ ((IsFreelyFrugal number × (owns ≡ false)) ⊎ (IsSimple number × (owns ≡ true)))
  adjust_one owns o number uses is = by (owns && is_some (operation_body p o)) refl uses
    where
      freely : (owns && is_some (operation_body p o)) ≡ false → (quiet : Bool) → is_quiet_operation p o ≡ quiet
          → (quiet || (may_adjust_frugally p && is_frugal_operation p o)) ≡ true
          → IsQuiet number ⊎ ((IsFreelyFrugal number × (owns ≡ false)) ⊎ (IsSimple number × (owns ≡ true)))
      freely none true quiet uses' = inl (quiet_one o number quiet is)
      freely none false quiet uses' =
          let both = apart (may_adjust_frugally p) (is_frugal_operation p o) uses' in
          let may = apart (may_be_frugal p) (tracks_beside_none p) both.0 in
          inr (inl ((may.1, (may.0, frugal_one o number both.1 is), not_quiet o number quiet is), owns_none owns o number none both.1 is))

      by : (tracks : Bool) → (owns && is_some (operation_body p o)) ≡ tracks
          → (if tracks then may_track p && is_simple_operation p o else (is_quiet_operation p o || (may_adjust_frugally p && is_frugal_operation p o))) ≡ true
          → IsQuiet number ⊎ ((IsFreelyFrugal number × (owns ≡ false)) ⊎ (IsSimple number × (owns ≡ true)))
      by false so uses' = freely so (is_quiet_operation p o) refl uses'
      by true so uses' =
          let both = apart (may_track p) (is_simple_operation p o) uses' in
          inr (inr ((both.0, simple_one o number both.1 is), (apart owns (is_some (operation_body p o)) so).0))

  -- Whether it may be called or not.
  any_adjust : (owns : Bool) (o : Option ProcedureNo) (number : ℕ) → uses_adjust p owns o ≡ true → procedure_number o ≡ Some number
      → IsQuiet number ⊎ ((slice_index_or (frugal_operations p) number false ≡ true) ⊎ (owns ≡ true))
  any_adjust owns o number uses is = either (or_cases (adjusts_nothing p && is_frugal_operation p o) (uses_called_adjust p owns o) uses)
    where
      by : IsQuiet number ⊎ ((IsFreelyFrugal number × (owns ≡ false)) ⊎ (IsSimple number × (owns ≡ true)))
          → IsQuiet number ⊎ ((slice_index_or (frugal_operations p) number false ≡ true) ⊎ (owns ≡ true))
      by (inl quiet) = inl quiet
      by (inr (inl freely)) = inr (inl freely.0.1.1)
      by (inr (inr simple)) = inr (inr simple.1)

      either : ((adjusts_nothing p && is_frugal_operation p o) ≡ true) ⊎ (uses_called_adjust p owns o ≡ true)
          → IsQuiet number ⊎ ((slice_index_or (frugal_operations p) number false ≡ true) ⊎ (owns ≡ true))
      either (inl nothing) = inr (inl (frugal_one o number (apart (adjusts_nothing p) (is_frugal_operation p o) nothing).1 is))
      either (inr called) = by (adjust_one owns o number called is)

  initialize_one : (o : Option ProcedureNo) (number : ℕ) → uses_initialize p o ≡ true → procedure_number o ≡ Some number → IsPlain number ⊎ (IsFrugal number × IsNotPlain number)
  initialize_one o number uses is = by (is_plain_operation p o) refl uses
    where
      by : (plain : Bool) → is_plain_operation p o ≡ plain → (plain || (may_be_frugal p && is_frugal_operation p o)) ≡ true → IsPlain number ⊎ (IsFrugal number × IsNotPlain number)
      by true plain uses' = inl (plain_one o number plain is)
      by false plain uses' = let both = apart (may_be_frugal p) (is_frugal_operation p o) uses' in inr ((both.0, frugal_one o number both.1 is), not_plain o number plain is)

  three_used : (Owns : Type 0) (owns : Bool) (f : Option Finalization) (number : ℕ) → (owns ≡ true → is_adjust_of number f ≡ true → Owns)
      → (may_be_frugal p ≡ true → operations_apart (is_tracker p) owns f ≡ true) → uses_operations p owns f ≡ true → AreUsed Owns (operations_in f) number
  three_used Owns owns None number own stands uses = record { initializes = λ is. absurd (cc is); adjusts = λ copies is. absurd (cc is); finalizes = λ is. absurd (cc is); overrides_adjust = λ is. absurd (cc is) }
  three_used Owns owns (Some f) number own stands uses =
      let three = apart _ _ uses in
      let two = apart _ _ three.0 in
      record {
        initializes = λ is. initialize_one f.operations.initialize number two.0 is;
        adjusts = λ copies is. by is (adjust_one owns f.operations.adjust number (called_adjust owns f.operations.adjust copies two.1) is);
        finalizes = λ is. finalize_one f.operations.finalize number three.1 is;
        overrides_adjust = λ is. owned is (any_adjust owns f.operations.adjust number two.1 is);
      }
    where
      owned : procedure_number f.operations.adjust ≡ Some number → IsQuiet number ⊎ ((slice_index_or (frugal_operations p) number false ≡ true) ⊎ (owns ≡ true))
          → IsQuiet number ⊎ ((slice_index_or (frugal_operations p) number false ≡ true) ⊎ Owns)
      owned is (inl quiet) = inl quiet
      owned is (inr (inl frugal)) = inr (inl frugal)
      owned is (inr (inr owns')) = inr (inr (own owns' (this_one f.operations.adjust number is)))

      left : may_be_frugal p ≡ true → (owns || overrides_apart (is_tracker p) f.operations.adjust) ≡ true
      left may = (apart (overrides_apart (is_tracker p) f.operations.initialize) _ (apart _ (overrides_apart (is_tracker p) f.operations.finalize) (stands may)).0).1

      by : procedure_number f.operations.adjust ≡ Some number → IsQuiet number ⊎ ((IsFreelyFrugal number × (owns ≡ false)) ⊎ (IsSimple number × (owns ≡ true)))
          → IsQuiet number ⊎ (IsUntracked number ⊎ (IsSimple number × Owns))
      by is (inl quiet) = inl quiet
      by is (inr (inl freely)) =
          inr (inl (freely.0, tracks_none owns f.operations.adjust number freely.1 (left freely.0.1.0) is))
      by is (inr (inr simple)) = inr (inr (simple.0, own simple.1 (this_one f.operations.adjust number is)))

  none_used : (Owns : Type 0) (number : ℕ) → AreUsed Owns (operations_in None) number
  none_used Owns number = three_used Owns false None number (λ owns is. absurd (cc owns)) (λ may. refl) refl

  -- A type declares a component of an access type, and the procedure overrides its Adjust.
  abbrev OwnsIn : TypeForm → (number : ℕ) → Type 0
  OwnsIn t number = (has_access (Some t) ≡ true) × (is_adjust_of number (finalization_in (Some t)) ≡ true)

  -- Its operations stand apart.
  abbrev StandsApart : TypeForm → Type 0
  StandsApart t = operations_apart (is_tracker p) (has_access (Some t)) (finalization_in (Some t)) ≡ true

  used_by : (Owns : Type 0) (t : TypeDefinition) (number : ℕ) → (OwnsIn (type_form t) number → Owns) → (may_be_frugal p ≡ true → StandsApart (type_form t))
      → uses_operations p (has_access (Some (type_form t))) (finalization_in (Some (type_form t))) ≡ true → AreUsed Owns (operations_by (Some t)) number
  used_by Owns (definition.Record name parts components finalization) number own stands uses =
      three_used Owns (has_access (Some (type_form (definition.Record name parts components finalization)))) finalization number (λ owns is. own (owns, is)) stands uses
  used_by Owns (definition.Access name designated pool) number own stands uses = none_used Owns number
  used_by Owns (definition.Object record_type) number own stands uses = none_used Owns number

  -- What is found is the type of some number, and passes the test.
  used_found : (Owns : Type 0) (test : TypeDefinition → Bool) (types : List TypeDefinition) (number : ℕ)
      → ((i : ℕ) (t : TypeDefinition) → slice_get types i ≡ Some t → test t ≡ true → OwnsIn (type_form t) number → Owns)
      → (may_be_frugal p ≡ true → list_all (λ t. operations_apart (is_tracker p) (has_access (Some t)) (finalization_in (Some t))) (map type_form types) ≡ true)
      → list_all (λ t. uses_operations p (has_access (Some t)) (finalization_in (Some t))) (map type_form types) ≡ true → AreUsed Owns (operations_by (find test types)) number
  used_found Owns test [] number own stands uses = none_used Owns number
  used_found Owns test (t ∷ types) number own stands uses =
      by (test t) refl (used_found Owns test types number (λ i u at. own (suc i) u at) (λ may. (apart _ _ (stands may)).1) (apart _ _ uses).1)
    where
      by : (here : Bool) → test t ≡ here → AreUsed Owns (operations_by (find test types)) number → AreUsed Owns (operations_by (if here then Some t else find test types)) number
      by true passes later = used_by Owns t number (own 0 t refl passes) (λ may. (apart _ _ (stands may)).0) (apart _ _ uses).0
      by false fails later = later

  -- What overrides is there.
  there_by : (t number : ℕ) (found : Option BodyForm) → slice_get p.bodies number ≡ found → is_operation p.types t (option_map profile_of found) ≡ true → (b : BodyForm) × (slice_get p.bodies number ≡ Some b)
  there_by t number None at is = absurd (cc is)
  there_by t number (Some b) at is = (b, at)

  there_one : (t : ℕ) (o : Option ProcedureNo) (number : ℕ) → overrides_rightly p.types (callable_in p) t o ≡ true → procedure_number o ≡ Some number → (b : BodyForm) × (slice_get p.bodies number ≡ Some b)
  there_one t None number is said = absurd (cc said)
  there_one t (Some procedure) number is said =
      let same : procedure.0 ≡ number = cc said in
      rw same at (there_by t procedure.0 (slice_get p.bodies procedure.0) refl (ap (is_operation p.types t) (sym (slice_get-map profile_of p.bodies procedure.0)) ∙ is))

  -- Wherever it is called, what it creates nests, where the main procedure's collections are open.
  stays_there : (before : Callees) (bs : List BodyForm) (i : ℕ) (nests : List ℕ → Bool) → slice_get before i ≡ Some nests → slice_get (callees_from p.types before bs) i ≡ Some nests
  stays_there before [] i nests is = is
  stays_there before (b ∷ bs) i nests is = stays_there (before ++ body_nests p.types before b ∷ []) bs i nests (before_more before (body_nests p.types before b) i nests is)
    where
      before_more : (xs : Callees) (y : List ℕ → Bool) (j : ℕ) (x : List ℕ → Bool) → slice_get xs j ≡ Some x → slice_get (xs ++ y ∷ []) j ≡ Some x
      before_more [] y j x at = absurd (cc at)
      before_more (z ∷ zs) y zero x at = at
      before_more (z ∷ zs) y (suc j) x at = before_more zs y j x at

  at_last : (xs : Callees) (y : List ℕ → Bool) → slice_get (xs ++ y ∷ []) (length xs) ≡ Some y
  at_last [] y = refl
  at_last (x ∷ xs) y = at_last xs y

  callee_is : (before : Callees) (bs : List BodyForm) (i : ℕ) (b : BodyForm) → slice_get bs i ≡ Some b → (some : Callees) × (slice_get (callees_from p.types before bs) (length before + i) ≡ Some (body_nests p.types some b))
  callee_is before [] i b is = absurd (cc is)
  callee_is before (c ∷ bs) zero b is =
      let same : c ≡ b = cc is in
      let at : length before + zero ≡ length before = omega arith in
      (before, rw (at, ← same) (stays_there (before ++ body_nests p.types before c ∷ []) bs (length before) (body_nests p.types before c) (at_last before (body_nests p.types before c))))
  callee_is before (c ∷ bs) (suc i) b is =
      let more = before ++ body_nests p.types before c ∷ [] in
      let later = callee_is more bs i b is in
      let at : length more + i ≡ length before + suc i = omega (arith, length-append before (body_nests p.types before c ∷ [])) in
      (later.0, rw at at later.1)

  nests_there : (number : ℕ) (b : BodyForm) → slice_get p.bodies number ≡ Some b → (around : List ℕ) → ((callees : Callees) → body_nests p.types callees b around ≡ true) → call_nests (slice_get (callees_of p) number) around ≡ true
  nests_there number b there around nests =
      let c = callee_is [] p.bodies number b there in
      let at : zero + number ≡ number = omega arith in
      let found : slice_get (callees_of p) number ≡ Some (body_nests p.types c.0 b) = rw at at c.1 in
      rw found (nests c.0)

  abbrev Nests : Option ProcedureNo → Type 0
  Nests o = NestsWhereOpen (is_access p.types) (callees_of p) o

  abbrev AllNest : Operations → Type 0
  AllNest o = AllNestWhereOpen (is_access p.types) (callees_of p) o

  plain_nests : (t : ℕ) (o : Option ProcedureNo) → overrides_rightly p.types (callable_in p) t o ≡ true → is_plain_operation p o ≡ true → Nests o
  plain_nests t None right plain = tt
  plain_nests t (Some procedure) right plain =
      let b = there_one t (Some procedure) procedure.0 right refl in
      λ around all. nests_there procedure.0 b.0 b.1 around (λ callees. body_is p.types callees b.0 around (rw (b.1) at plain))

  initialize_nests : IsWellFormed p → (t : ℕ) (o : Option ProcedureNo) → overrides_rightly p.types (callable_in p) t o ≡ true → uses_initialize p o ≡ true → Nests o
  initialize_nests well t None right uses = tt
  initialize_nests well t (Some procedure) right uses = by (initialize_one (Some procedure) procedure.0 uses refl)
    where
      by : IsPlain procedure.0 ⊎ (IsFrugal procedure.0 × IsNotPlain procedure.0) → Nests (Some procedure)
      by (inl plain) = plain_nests t (Some procedure) right plain
      by (inr both) = operation_nests p well procedure.0 both.0.1

  finalize_nests : IsWellFormed p → (t : ℕ) (o : Option ProcedureNo) → overrides_rightly p.types (callable_in p) t o ≡ true → uses_finalize p o ≡ true → Nests o
  finalize_nests well t None right uses = tt
  finalize_nests well t (Some procedure) right uses = by (finalize_one (Some procedure) procedure.0 uses refl)
    where
      by : IsQuiet procedure.0 ⊎ (IsFrugal procedure.0 × IsNotQuiet procedure.0) → Nests (Some procedure)
      by (inl quiet) = plain_nests t (Some procedure) right (plain_operation p (Some procedure) quiet)
      by (inr both) = operation_nests p well procedure.0 both.0.1

  adjust_nests : IsWellFormed p → (t : ℕ) (owns : Bool) (o : Option ProcedureNo) → overrides_rightly p.types (callable_in p) t o ≡ true → uses_adjust p owns o ≡ true → Nests o
  adjust_nests well t owns None right uses = tt
  adjust_nests well t owns (Some procedure) right uses = either (or_cases (adjusts_nothing p && is_frugal_operation p (Some procedure)) (uses_called_adjust p owns (Some procedure)) uses)
    where
      by : IsQuiet procedure.0 ⊎ ((IsFreelyFrugal procedure.0 × (owns ≡ false)) ⊎ (IsSimple procedure.0 × (owns ≡ true))) → Nests (Some procedure)
      by (inl quiet) = plain_nests t (Some procedure) right (plain_operation p (Some procedure) quiet)
      by (inr (inl freely)) = operation_nests p well procedure.0 freely.0.1.1
      by (inr (inr both)) =
          let b = there_one t (Some procedure) procedure.0 right refl in
          let simple : is_simple_body p.types b.0 ≡ true = rw (b.1) at both.0.1 in
          λ around all. nests_there procedure.0 b.0 b.1 around (λ callees. simple_nests p.types (kinds_open p well) callees b.0 around all simple)

      either : ((adjusts_nothing p && is_frugal_operation p (Some procedure)) ≡ true) ⊎ (uses_called_adjust p owns (Some procedure) ≡ true) → Nests (Some procedure)
      either (inl nothing) = operation_nests p well procedure.0 (apart (adjusts_nothing p) (is_frugal_operation p (Some procedure)) nothing).1
      either (inr called) = by (adjust_one owns (Some procedure) procedure.0 called refl)

  nests_three : IsWellFormed p → (t : ℕ) (owns : Bool) (f : Option Finalization) → has_operations p.types (callable_in p) t f ≡ true → uses_operations p owns f ≡ true → AllNest (operations_in f)
  nests_three well t owns None right uses = (tt, tt, tt)
  nests_three well t owns (Some f) right uses =
      let two = apart _ _ right in
      let three = apart _ _ two.0 in
      let uses_two = apart _ _ uses in
      let uses_three = apart _ _ uses_two.0 in
      (initialize_nests well t f.operations.initialize three.0 uses_three.0, adjust_nests well t owns f.operations.adjust three.1 uses_three.1, finalize_nests well t f.operations.finalize two.1 uses_two.1)

  nests_at : IsWellFormed p → (ts : List TypeForm) (n i : ℕ) → have_operations p.types (callable_in p) n ts ≡ true → list_all (λ t. uses_operations p (has_access (Some t)) (finalization_in (Some t))) ts ≡ true → AllNest (operations_in (finalization_in (slice_get ts i)))
  nests_at well [] n i right uses = (tt, tt, tt)
  nests_at well (t ∷ ts) n zero right uses = nests_three well n (has_access (Some t)) (finalization_in (Some t)) (apart _ _ right).0 (apart _ _ uses).0
  nests_at well (t ∷ ts) n (suc i) right uses = nests_at well ts (1 + n) i (apart _ _ right).1 (apart _ _ uses).1

  pub operations_nest : IsWellFormed p → operations_may_be_called p ≡ true → OperationsNest p
  operations_nest well uses t = nests_at well p.types 0 t well.operations_fit uses

-- The body of a procedure lets no exception out, unless it initializes a new object (7.6).
abbrev pub LetsNothingOut : Treatment → BodyForm → Type 0
LetsNothingOut (begins Creation done) b = Unit {0}
LetsNothingOut (begins Copy done) b = body_raises no_calls b (λ e. true) ≡ false
LetsNothingOut (begins (Adjustment number) done) b = body_raises no_calls b (λ e. true) ≡ false
LetsNothingOut (ends cause) b = body_raises no_calls b (λ e. true) ≡ false

-- A procedure does not track, and nothing in a copy is tracked beside one that does not.
abbrev pub IsAdjustedFreely : ProgramForm → (number : ℕ) → Type 0
IsAdjustedFreely p number = (tracks_beside_none p ≡ true) × (is_tracker p number ≡ false)

-- What is called for a new object, or for one that is finalized, may touch storage, and so may what is called for a copy, if it does not track, in a program
-- that copies records with controlled parts, and in which nothing tracks beside it (7.6, 7.6.1).
abbrev pub MayTouch : ProgramForm → (number : ℕ) → Treatment → Type 0
MayTouch p number (begins Creation done) = Unit {0}
MayTouch p number (begins Copy done) = IsAdjustedFreely p number × (copies_parts p ≡ true)
MayTouch p number (begins (Adjustment n) done) = IsAdjustedFreely p number × (copies_parts p ≡ true)
MayTouch p number (ends cause) = Unit {0}

-- What is called for a copy is an Adjust (7.6).
abbrev pub AdjustsCopy : Treatment → Type 0
AdjustsCopy (begins Creation done) = ⊥
AdjustsCopy (begins Copy done) = Unit {0}
AdjustsCopy (begins (Adjustment number) done) = Unit {0}
AdjustsCopy (ends cause) = ⊥

-- An Adjust may track components of its formal parameter: it is simple.
abbrev pub MayTrack : ProgramForm → BodyForm → Type 0
MayTrack p b = (may_track p ≡ true) × (is_simple_body p.types b ≡ true)

-- A type of this number, among the controlled ones, declares a component of an access type directly, and the procedure overrides its Adjust (3.10, 7.6).
pub record AdjustsOwn (types : List TypeForm) (of number : ℕ) : Type 0 where
  pub record_type : ℕ
  pub t : TypeForm
  pub at : slice_get types record_type ≡ Some t
  pub owns : has_access (Some t) ≡ true
  pub numbered : number_in (finalization_in (Some t)) ≡ Some of
  pub overrides : is_adjust_of number (finalization_in (Some t)) ≡ true

-- Where nothing tracks, none does.
pub none_adjusts_own : (p : ProgramForm) → tracks_nothing p ≡ true → (of number : ℕ) → AdjustsOwn p.types of number → ⊥
none_adjusts_own p nothing of number own =
    by (finalization_in (Some own.t)) (passed_at (λ t. leaves_access t (finalization_in (Some t))) p.types own.record_type own.t nothing own.at) own.overrides
  where
    overridden : (o : Option ProcedureNo) → is_this_one number o ≡ true → is_inherited o ≡ false
    overridden None this = absurd (cc this)
    overridden (Some procedure) this = refl

    by : (f : Option Finalization) → leaves_access own.t f ≡ true → is_adjust_of number f ≡ true → ⊥
    by None leaves adjusts = cc adjusts
    by (Some f) leaves adjusts =
        let other = overridden f.operations.adjust adjusts in
        let owns = own.owns in
        let both = rw (owns, other) at leaves in
        cc both

-- A body that begins or ends a part touches storage: that of an Initialize is not plain, or that of an Adjust or a Finalize is not quiet.
abbrev pub TouchesStorage : ProgramForm → Treatment → BodyForm → Type 0
TouchesStorage p (begins Creation done) b = is_plain_body p.types b ≡ false
TouchesStorage p (begins Copy done) b = is_quiet_body p.types b ≡ false
TouchesStorage p (begins (Adjustment number) done) b = is_quiet_body p.types b ≡ false
TouchesStorage p (ends cause) b = is_quiet_body p.types b ≡ false

-- What is called is plain, or it touches storage and is frugal, where it may be, or it is an Adjust that may track.
abbrev pub IsUsedAs : ProgramForm → (of number : ℕ) → Treatment → BodyForm → Type 0
IsUsedAs p of number treatment b =
    (PlainBody p.types b × LetsNothingOut treatment b)
    ⊎ ((MayTouch p number treatment × (may_be_frugal p ≡ true) × (is_frugal_body (thrift_of p) b ≡ true) × TouchesStorage p treatment b)
    ⊎ (AdjustsCopy treatment × MayTrack p b × AdjustsOwn p.types of number))

-- A type that passes the test of a number has that number among the controlled ones, as what is shown of it says.
number_passed : (n : ℕ) (o : Option ℕ) → is_number n o ≡ true → o ≡ Some n
number_passed n None is = absurd (cc is)
number_passed n (Some m) is = ap (λ (k : ℕ). Some k) (eqb-true m n is)

numbered_so : (n : ℕ) (t : TypeDefinition) → is_number n (number_by (Some t)) ≡ true → number_in (finalization_in (Some (type_form t))) ≡ Some n
numbered_so n (definition.Record name parts components finalization) is = number_passed n (number_in finalization) is
numbered_so n (definition.Access name designated pool) is = absurd (cc is)
numbered_so n (definition.Object record_type) is = absurd (cc is)

-- What overrides an operation, by the number of the type among the controlled ones.
module _ (program : Program) (uses : operations_may_be_called (program_form program) ≡ true) (well : IsWellFormed (program_form program)) (of number : ℕ) (b : BodyForm) (there : slice_get (body_forms program) number ≡ Some b) where
  abbrev whole : ProgramForm
  whole = program_form program

  -- The type of a number that has this one among the controlled ones, as the program's form shows it.
  own_type : (i : ℕ) (t : TypeDefinition) → slice_get program.types.items i ≡ Some t → is_number of (number_by (Some t)) ≡ true → OwnsIn whole (type_form t) number → AdjustsOwn whole.types of number
  own_type i t at passes own = record {
    record_type = i;
    t = type_form t;
    at = slice_get-map type_form program.types.items i ∙ ap (option_map type_form) at;
    owns = own.0;
    numbered = numbered_so of t passes;
    overrides = own.1;
  }

  -- Where a body may be frugal, the operations of each type stand apart.
  types_apart :
      may_be_frugal whole ≡ true
      → list_all (λ t. operations_apart (is_tracker whole) (has_access (Some t)) (finalization_in (Some t))) (map type_form program.types.items) ≡ true
  types_apart may =
      (apart (body_calls_apart whole.types (is_tracker whole) (main_body whole) && list_all (body_calls_apart whole.types (is_tracker whole)) whole.bodies) _ may).1

  used : AreUsed whole (AdjustsOwn whole.types of number) (operations_of program.types.items of) number
  used = used_found whole (AdjustsOwn whole.types of number) (λ t. is_number of (number_by (Some t))) program.types.items number own_type types_apart uses

  plain_body : IsPlain whole number → PlainBody whole.types b
  plain_body plain =
      let own = seen_in (Some number) whole in
      let fits = seen_fits whole well (Some number) in
      let seen = seen_as whole number b there in
      plain_is whole.types b (rw there at plain)
      (rw seen at (no_exits own.types own.variables own.texts own.exceptions _ own.statements fits.statements_fit))
      (rw seen at (no_exit_handlers own.types own.variables own.texts own.exceptions _ own.handlers fits.handlers_fit))

  quiet_body : IsQuiet whole number → PlainBody whole.types b × (body_raises no_calls b (λ e. true) ≡ false)
  quiet_body quiet = (plain_body (plain_procedure whole.types (slice_get whole.bodies number) quiet), not-true (body_raises no_calls b (λ e. true)) (apart _ _ (rw there at quiet)).1)

  finalizes_as : (cause : Cause) → IsQuiet whole number ⊎ (IsFrugal whole number × IsNotQuiet whole number) → IsUsedAs whole of number (ends cause) b
  finalizes_as cause (inl quiet) = inl (quiet_body quiet)
  finalizes_as cause (inr both) = inr (inl (tt, both.0.0, operation_at whole number b both.0.1 there, rw there at both.1))

  initializes_as : (done : List parts.Part) → IsPlain whole number ⊎ (IsFrugal whole number × IsNotPlain whole number) → IsUsedAs whole of number (begins Creation done) b
  initializes_as done (inl plain) = inl (plain_body plain, tt)
  initializes_as done (inr both) = inr (inl (tt, both.0.0, operation_at whole number b both.0.1 there, rw there at both.1))

  adjusts_as : (treatment : Treatment) → AdjustsCopy treatment → (body_raises no_calls b (λ e. true) ≡ false → LetsNothingOut treatment b)
      → (IsAdjustedFreely whole number → MayTouch whole number treatment) → (is_quiet_body whole.types b ≡ false → TouchesStorage whole treatment b)
      → IsQuiet whole number ⊎ (IsUntracked whole number ⊎ (IsSimple whole number × AdjustsOwn whole.types of number)) → IsUsedAs whole of number treatment b
  adjusts_as treatment copies lets may touches (inl quiet) = let q = quiet_body quiet in inl (q.0, lets q.1)
  adjusts_as treatment copies lets may touches (inr (inl ((beside, frugal, other), untracked))) =
      inr (inl (may (beside, untracked), frugal.0, operation_at whole number b frugal.1 there, touches (rw there at other)))
  adjusts_as treatment copies lets may touches (inr (inr both)) = inr (inr (copies, (both.0.0, rw there at both.0.1), both.1))

  -- What overrides an Adjust is frugal where nothing tracks, whether it may be called or not: what is plain is so, too.
  pub adjusts_frugally : tracks_nothing whole ≡ true → procedure_number (operations_of program.types.items of).adjust ≡ Some number → is_frugal_body (thrift_of whole) b ≡ true
  adjusts_frugally nothing overrides = by (used.overrides_adjust overrides)
    where
      by : IsQuiet whole number ⊎ ((slice_index_or (frugal_operations whole) number false ≡ true) ⊎ AdjustsOwn whole.types of number) → is_frugal_body (thrift_of whole) b ≡ true
      by (inl quiet) = frugal_body (thrift_of whole) whole.types b (quiet_body quiet).0.plain
      by (inr (inl frugal)) = operation_at whole number b frugal there
      by (inr (inr own)) = absurd (none_adjusts_own whole nothing of number own)

  pub used_as : (treatment : Treatment) → (AdjustsCopy treatment → copies_parts whole ≡ true) → IsCalled (operations_of program.types.items of) treatment number → IsUsedAs whole of number treatment b
  used_as (begins Creation done) copies called = initializes_as done (used.initializes called)
  used_as (begins Copy done) copies called = adjusts_as (begins Copy done) tt (λ none. none) (λ freely. (freely, copies tt)) (λ other. other) (used.adjusts (copies tt) called)
  used_as (begins (Adjustment n) done) copies called =
      adjusts_as (begins (Adjustment n) done) tt (λ none. none) (λ freely. (freely, copies tt)) (λ other. other) (used.adjusts (copies tt) called)
  used_as (ends cause) copies called = finalizes_as cause (used.finalizes called)
