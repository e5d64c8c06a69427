-- Variables and whole bodies, as they are judged.

use Rattle.std.proofs.Common.{◌≡◌, ℕ, zero, suc, ◌+◌, ◌<◌, Bool, true, false, List, [], ◌∷◌, ◌++◌, length, map, Option, Some, None, refl, ap, ◌∙◌, subst, arith}
use Rattle.std.specs.Prelude.{◌&&◌, not}
use Rattle.std.specs.List.{list_all, slice_get}
use Rattle.ada_program.specs.declared.program.ComponentKind.{ComponentKind}
use Rattle.ada_program.specs.declared.program.ComponentKind.TheVariants as component
use Rattle.ada_program.specs.declared.program.Exception.{Exception}
use Rattle.ada_program.specs.declared.program.TypeNo.{TypeNo}
use Rattle.ada_program.specs.declared.program.VariableKind.{VariableKind}
use Rattle.ada_program.specs.declared.program.VariableKind.TheVariants as variable
use Rattle.ada_program.specs.Handling.{is_taken}
use Rattle.ada_program.specs.ProgramForm.{TypeForm, record_of, access_to, object_of, VariableForm}
use Rattle.ada_program.specs.WellFormed.{named_in, components_in, record_components, components_reached, is_access, kind_fits, parent_first, says_parts, is_numbered_alone, type_fits, variable_kind_fits, variable_fits, variable_kind, is_borrower, selected_kind, component_kind, kind_among, created_in, creates_from, declarations_fit, stmts_fit, handlers_fit}
use Rattle.ada_program.specs.Nested.{collected, record_objects}
use Rattle.ada_effects.specs.Effects.{untaken, stmts_raise}
use Rattle.ada_flow.specs.Tracking.{Tracks, with_tracked, kind_or_integer, tracked_variable, judged}
use Rattle.ada_tracked.specs.Forms.{seen_declarations, seen_stmts, seen_handlers}
use Rattle.ada_judged.specs.Fitting.{AreOfAccess, TracksComponents, VariablesFitAsJudged, FormsFitAsJudged, FittingFormsAreOfRecord, BodiesFitAsJudged, TrackedComponentsFitAsVariables}
use Rattle.ada_judged.proofs.FittingPaths.{and_left, and_right, and_both, Stand, stand, front_kind, front_borrows, path_fits}
use Rattle.ada_judged.proofs.FittingForms.{below, expression_fits, conditions_fit, item_list_fits, right_is_fit, declarations_are_fit}
use Rattle.ada_judged.proofs.FittingStatements.{same_untaken, block_nests, statements_are_fit, branches_are_fit, handlers_are_fit}
use Rattle.ada_judged.proofs.FittingRecords.{declarations_record, statements_record, handlers_record}

-- Of all of them, and of one.
all_at : {X : Type 0} (P : X → Bool) (xs : List X) (i : ℕ) (x : X) → list_all P xs ≡ true → slice_get xs i ≡ Some x → P x ≡ true
all_at P [] i x h is = absurd (cc)
all_at P (y ∷ xs) zero x h is = let one : y ≡ x = cc in subst (λ z. P z ≡ true) one (and_left (P y) (list_all P xs) h)
all_at P (y ∷ xs) (suc i) x h is = all_at P xs i x (and_right (P y) (list_all P xs) h) is

all_append : {X : Type 0} (P : X → Bool) (xs ys : List X) → list_all P xs ≡ true → list_all P ys ≡ true → list_all P (xs ++ ys) ≡ true
all_append P [] ys h g = g
all_append P (x ∷ xs) ys h g = and_both (P x) (list_all P (xs ++ ys)) (and_left (P x) (list_all P xs) h) (all_append P xs ys (and_right (P x) (list_all P xs) h) g)

all_with : {X : Type 0} (P : X → Bool) (xs ys : List X) → list_all P xs ≡ true → list_all P ys ≡ true → list_all P (with_tracked xs ys) ≡ true
all_with P xs [] h g = h
all_with P xs (y ∷ ys) h g = all_append P xs (y ∷ ys) h g

-- Access types of components.
by_kind : (types : List TypeForm) (access : TypeNo) (found : Option ComponentKind) → ((kind : ComponentKind) → found ≡ Some kind → kind_fits types kind ≡ true) → component_kind found ≡ Some (variable.Access access) → is_access types access.0 ≡ true
by_kind types access None h is = absurd (cc)
by_kind types access (Some (component.Integer initial)) h is = absurd (cc)
by_kind types access (Some (component.Boolean initial)) h is = absurd (cc)
by_kind types access (Some (component.Access other)) h is =
    let one : other ≡ access = cc in
    subst (λ (t : TypeNo). is_access types t.0 ≡ true) one (h (component.Access other) refl)

in_type : (types : List TypeForm) (found : Option TypeForm) → ((type : TypeForm) → found ≡ Some type → type_fits types type ≡ true) → (ks : List ComponentKind) → components_in found ≡ Some ks → list_all (kind_fits types) ks ≡ true
in_type types None h ks is = absurd (cc)
in_type types (Some (record_of name parts components finalization)) h ks is =
    let one : components ≡ ks = cc in
    let a = list_all (kind_fits types) components in
    let b = parent_first parts in
    let c = says_parts types finalization parts in
    let d = is_numbered_alone types finalization in
    subst (λ (us : List ComponentKind). list_all (kind_fits types) us ≡ true) one
    (and_left a b (and_left (a && b) c (and_left (a && b && c) d (h (record_of name parts components finalization) refl))))
in_type types (Some (access_to name designated pool)) h ks is = absurd (cc)
in_type types (Some (object_of record_type)) h ks is = absurd (cc)

by_components : (types : List TypeForm) (access : TypeNo) (t c : ℕ) (found : Option (List ComponentKind)) → list_all (type_fits types) types ≡ true → record_components types t ≡ found → kind_among found c ≡ Some (variable.Access access) → is_access types access.0 ≡ true
by_components types access t c None fit e is = absurd (cc)
by_components types access t c (Some ks) fit e is =
    by_kind types access (slice_get ks c)
    (λ kind at. all_at (kind_fits types) ks c kind (in_type types (slice_get types t) (λ type there. all_at (type_fits types) types t type fit there) ks e) at) is

by_named : (types : List TypeForm) (access : TypeNo) (c : ℕ) (named : Option ℕ) → list_all (type_fits types) types ≡ true → kind_among (components_reached types named) c ≡ Some (variable.Access access) → is_access types access.0 ≡ true
by_named types access c None fit is = absurd (cc)
by_named types access c (Some t) fit is = by_components types access t c (record_components types t) fit refl is

-- The variables that stand for components.
tracked_fit : (types : List TypeForm) (object : TypeNo) (formal : Option VariableKind) → formal ≡ Some (variable.Record object) → list_all (type_fits types) types ≡ true → (cs : List ℕ) → AreOfAccess types object cs → list_all (variable_fits types) (map (tracked_variable types formal) cs) ≡ true
tracked_fit types object formal is fit [] h = refl
tracked_fit types object formal is fit (c ∷ cs) h =
    and_both (variable_fits types (tracked_variable types formal c)) (list_all (variable_fits types) (map (tracked_variable types formal) cs))
    (ap (λ (f : Option VariableKind). variable_kind_fits types (kind_or_integer (selected_kind types f c)) && true) is
    ∙ ap (λ (k : Option VariableKind). variable_kind_fits types (kind_or_integer k) && true) h.0.1
    ∙ and_both (is_access types h.0.0.0) true (by_named types h.0.0 c (named_in (slice_get types object.0)) fit h.0.1) refl)
    (tracked_fit types object formal is fit cs h.1)

behind_at : (types : List TypeForm) (object : TypeNo) (all : List VariableForm) (n : ℕ) (cs : List ℕ) → Stand types object all n cs → (i c : ℕ) → slice_get cs i ≡ Some c → (access : TypeNo) × (variable_kind all (n + i) ≡ Some (variable.Access access)) × (selected_kind types (Some (variable.Record object)) c ≡ Some (variable.Access access)) × (is_borrower all (n + i) ≡ false)
behind_at types object all n [] h i c is = absurd (cc)
behind_at types object all n (d ∷ cs) h zero c is =
    let one : d ≡ c = cc in (
      h.0,
      subst (λ (k : ℕ). variable_kind all k ≡ Some (variable.Access h.0)) (omega arith) h.2,
      subst (λ (k : ℕ). selected_kind types (Some (variable.Record object)) k ≡ Some (variable.Access h.0)) one h.1,
      subst (λ (k : ℕ). is_borrower all k ≡ false) (omega arith) h.3,
    )
behind_at types object all n (d ∷ cs) h (suc i) c is =
    subst (λ (k : ℕ). (access : TypeNo) × (variable_kind all k ≡ Some (variable.Access access)) × (selected_kind types (Some (variable.Record object)) c ≡ Some (variable.Access access)) × (is_borrower all k ≡ false))
    (omega arith) (behind_at types object all (n + 1) cs h.4 i c is)

some_there : (variables : List VariableForm) (k : VariableKind) → variable_kind variables 0 ≡ Some k → 0 < length variables
some_there [] k is = absurd (cc)
some_there (x ∷ xs) k is = omega arith

variables_fit : (types : List TypeForm) (tracks : Tracks) (own : List VariableForm) → TracksComponents types tracks own → VariablesFitAsJudged types tracks own
variables_fit types tracks own p =
    let formal = front_kind types tracks own 0 (some_there own (variable.Record p.object) p.formal) ∙ p.formal in (
      (λ x lt. (front_kind types tracks own x (below types tracks own p x lt), front_borrows types tracks own x (below types tracks own p x lt))),
      (λ i c is.
          let h = behind_at types p.object (judged types tracks own) tracks.first tracks.components (stand types tracks own p) i c is in
          (h.0, h.1, ap (λ (k : Option VariableKind). selected_kind types k c) formal ∙ h.2, h.3)),
      (λ fit h.
          all_with (variable_fits types) own (map (tracked_variable types (variable_kind own 0)) tracks.components) h
          (tracked_fit types p.object (variable_kind own 0) p.formal fit tracks.components p.components)),
    )

forms_fit : (types : List TypeForm) (tracks : Tracks) (own : List VariableForm) → TracksComponents types tracks own → FormsFitAsJudged types tracks own
forms_fit types tracks own p = (
  path_fits types tracks own p,
  expression_fits types tracks own p,
  conditions_fit types tracks own p,
  item_list_fits types tracks own p,
  right_is_fit types tracks own p,
  declarations_are_fit types tracks own p,
  statements_are_fit types tracks own p,
  branches_are_fit types tracks own p,
  handlers_are_fit types tracks own p,
)

fitting_record : (types : List TypeForm) (tracks : Tracks) (own : List VariableForm) → TracksComponents types tracks own → FittingFormsAreOfRecord types tracks own
fitting_record types tracks own p = (
  (λ ds h. declarations_record types tracks own p ds h),
  (λ texts exceptions callable inside fs h. statements_record types tracks own p texts exceptions callable inside fs h),
  (λ texts exceptions callable inside hs h. handlers_record types tracks own p texts exceptions callable inside hs h),
)

bodies_fit : (types : List TypeForm) (tracks : Tracks) → BodiesFitAsJudged types tracks
bodies_fit types tracks texts exceptions callable b p simple fit h =
    let own = b.variables in
    let v = list_all (variable_fits types) own in
    let n = creates_from (length own) (length b.formals) (created_in b) in
    let d = declarations_fit types own b.declarations in
    let s = stmts_fit types own texts exceptions callable false b.statements in
    let g = handlers_fit types own texts exceptions callable false b.handlers in
    let four = and_left (v && n && d && s) g h in
    let three = and_left (v && n && d) s four in
    let hv = and_left v n (and_left (v && n) d three) in
    let hd = and_right (v && n) d three in
    let hs = and_right (v && n && d) s four in
    let hg = and_right (v && n && d && s) g h in
    let declaring = declarations_record types tracks own p b.declarations hd in
    let stating = statements_record types tracks own p texts exceptions callable false b.statements hs in
    let handling = handlers_record types tracks own p texts exceptions callable false b.handlers hg in
    let declared = declarations_are_fit types tracks own p b.declarations simple.0 declaring in
    let stated = statements_are_fit types tracks own p b.statements simple.1 stating in
    let handled = handlers_are_fit types tracks own p b.handlers simple.2 handling in (
      (declaring, stating, handling),
      record {
        fits = λ before. record {
          variables = (variables_fit types tracks own p).2 fit hv;
          declarations = declared.fits hd before.0;
          statements = stated.fits texts exceptions callable false hs before.1;
          handlers = handled.fits texts exceptions callable false hg before.2;
        };
        creates =
            let one = declared.creates in
            let two = stated.creates in
            let three = handled.creates in
            cc (one, two, three);
        nests = λ callees around.
            block_nests types tracks own p callees around (collected (seen_declarations tracks b.declarations)) (collected b.declarations) (record_objects (seen_declarations tracks b.declarations)) (record_objects b.declarations) (seen_stmts tracks b.statements) b.statements (seen_handlers tracks b.handlers) b.handlers
            declared.collects declared.has_records (stated.nests callees (collected b.declarations ++ around)) (handled.nests callees (collected b.declarations ++ around));
        frees_own =
            let one = stated.frees_own in
            let two = handled.frees_own in
            cc (one, two);
        may_pass = λ effects.
            stated.may_raise effects (λ e. not (is_taken (seen_handlers tracks b.handlers) e))
            ∙ ap (λ (m : Exception → Bool). stmts_raise effects m b.statements) (λ i e. not (handled.takes e i));
        may_raise = λ effects among.
            let one = declared.may_raise effects.implicit among in
            let two = stated.may_raise effects (untaken (seen_handlers tracks b.handlers) among) ∙ ap (λ (m : Exception → Bool). stmts_raise effects m b.statements) (same_untaken b.handlers (seen_handlers tracks b.handlers) among handled.takes) in
            let three = handled.may_raise effects among in
            cc (one, two, three);
        may_free = λ effects access.
            let one = stated.may_free effects access in
            let two = handled.may_free effects access in
            let three = declared.may_free effects.implicit access in
            let four = declared.may_free_at_end effects.implicit access in
            cc (one, two, three, four);
      },
    )

-- The law.
pub tracked_fit_as_variables : TrackedComponentsFitAsVariables
tracked_fit_as_variables types tracks = ((λ variables p. (variables_fit types tracks variables p, forms_fit types tracks variables p, fitting_record types tracks variables p)), bodies_fit types tracks)
