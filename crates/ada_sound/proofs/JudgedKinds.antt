-- The forms of a body that tracks components of its formal parameter (7.6) are of the kinds that are wanted, as they are judged, where they are so as they are.

use Rattle.std.proofs.Common.{◌≡◌, ◌≢◌, ℕ, zero, suc, ◌<◌, ◌&&◌, not, Bool, true, false, List, [], ◌∷◌, ◌++◌, length, Option, Some, None, refl, ap, ◌∙◌, subst}
use Rattle.std.specs.Prelude.{if◌then◌else◌}
use Rattle.std.specs.List.{list_all, slice_get}
use Rattle.ada_program.specs.declared.program.ComponentKind.{ComponentKind}
use Rattle.ada_program.specs.declared.program.ComponentKind.TheVariants as component
use Rattle.ada_program.specs.declared.program.PartKind.{PartKind}
use Rattle.ada_program.specs.declared.program.PartKind.TheVariants as part
use Rattle.ada_program.specs.declared.program.ScalarType.TheVariants.{Integer, Boolean}
use Rattle.ada_program.specs.declared.program.TypeNo.{TypeNo}
use Rattle.ada_program.specs.declared.program.VariableKind.{VariableKind}
use Rattle.ada_program.specs.declared.program.VariableKind.TheVariants as variable
use Rattle.ada_program.specs.Form.{ExpressionForm, StmtForm, skips, assigns, assigns_record, frees, gets, writes, writes_text, chooses, repeats, counts, exits, calls, returns, raises, encloses, StmtsForm, no_stmts, a_stmt, BranchesForm, otherwise, a_branch, HandlersForm, no_handlers, a_handler, DeclarationForm, creates_pool, collects, declares, declares_record}
use Rattle.ada_program.specs.ProgramForm.{PartForm, TypeForm, record_of, access_to, object_of, VariableForm, BodyForm, ProgramForm}
use Rattle.ada_program.specs.WellFormed.{IsWellFormed, variable_kind, is_borrower, path_kind, names_borrower, right_fits, lends_to, is_object, collections_first, collection_fits, is_freed_by, is_type, type_of, scalar_of, has_statement, Profile, choice_fits, kind_among, object_in, named_in, components_in, components_reached, reached_components, component_lies, components_lie, has_record_at}
use Rattle.ada_flow.specs.Tracking.{Tracks, tracks_behind, judged, number_within, access_numbers}
use Rattle.ada_flow.specs.Flow.{object_record, adjusts, tracked_of, tracked_by_adjust, tracks_of}
use Rattle.ada_tracked.specs.Forms.{seen_expression, seen_right, seen_declaration, seen_declarations, seen_stmt, seen_stmts, seen_branches, seen_handlers}
use Rattle.ada_tracked.specs.Simple.{DeclarationIsSimple, DeclarationsAreSimple, StatementIsSimple, StatementsAreSimple, BranchesAreSimple, HandlersAreSimple, ExpressionIsSimple}
use Rattle.ada_judged.specs.Fitting.{AreOfAccess, TracksComponents, DeclarationIsOfRecord, DeclarationsAreOfRecord, StatementIsOfRecord, StatementsAreOfRecord, BranchesAreOfRecord, HandlersAreOfRecord, ExpressionIsOfRecord}
use Rattle.ada_judged.proofs.FittingPaths.{front_kind, front_borrows, path_fits}
use Rattle.ada_judged.proofs.FittingStatements.{same_record}
use Rattle.ada_judged.proofs.FittingForms.{below, expression_fits, conditions_fit, right_is_fit}
use Rattle.ada_typed.proofs.Operators.{and_left, and_right}
use Rattle.ada_typed.proofs.OfKinds.{initial_is_of_kind, declarations_are_of_kind, statement_is_of_kind, statements_are_of_kind, branches_are_of_kind, handlers_are_of_kind}
use Rattle.ada_typed.proofs.Records.{record_first}

-- Two tests are the same as two others.
both_same : {a b c d : Bool} → a ≡ c → b ≡ d → (a && b) ≡ (c && d)
both_same e f = cc (e, f)

module _ (types : List TypeForm) (tracks : Tracks) (own : List VariableForm) (tracking : TracksComponents types tracks own) where
  -- A variable of the body.
  own_kind : (x : ℕ) → x < tracks.first → variable_kind (judged types tracks own) x ≡ variable_kind own x
  own_kind x lt = front_kind types tracks own x (below types tracks own tracking x lt)

  own_borrows : (x : ℕ) → x < tracks.first → is_borrower (judged types tracks own) x ≡ is_borrower own x
  own_borrows x lt = front_borrows types tracks own x (below types tracks own tracking x lt)

  -- Expressions have the types that they have.
  expression_same : (e : ExpressionForm) → ExpressionIsSimple tracks.first e → ExpressionIsOfRecord e → type_of types (judged types tracks own) (seen_expression tracks e) ≡ type_of types own e
  expression_same e simple of_record = (expression_fits types tracks own tracking e simple of_record).kind

  -- Initial values.
  initial_same : (d : DeclarationForm) → DeclarationIsSimple tracks.first d → DeclarationIsOfRecord d → initial_is_of_kind types (judged types tracks own) (seen_declaration tracks d) ≡ initial_is_of_kind types own d
  initial_same (creates_pool pool) simple of_record = refl
  initial_same (collects access) simple of_record = refl
  initial_same (declares x right) simple of_record =
      let kinds = own_kind x simple.0.1 in
      let borrows = own_borrows x simple.0.1 in
      let same = right_is_fit types tracks own tracking right simple.1 of_record in
      both_same
      (ap (λ (k : Option VariableKind). right_fits types (judged types tracks own) k (seen_right tracks right)) kinds ∙ same.fits (variable_kind own x))
      (ap (λ (b : Bool). lends_to (judged types tracks own) b (seen_right tracks right)) borrows ∙ same.lends (is_borrower own x))
  initial_same (declares_record x object initial) simple of_record = absurd simple

  pub initials_same : (ds : List DeclarationForm) → DeclarationsAreSimple tracks.first ds → DeclarationsAreOfRecord ds → list_all (initial_is_of_kind types (judged types tracks own)) (seen_declarations tracks ds) ≡ list_all (initial_is_of_kind types own) ds
  initials_same [] simple of_record = refl
  initials_same (d ∷ ds) simple of_record =
      both_same (initial_same d simple.0 of_record.0) (initials_same ds simple.1 of_record.1)

  object_same : (d : DeclarationForm) → is_object (seen_declaration tracks d) ≡ is_object d
  object_same (creates_pool pool) = refl
  object_same (collects access) = refl
  object_same (declares x right) = refl
  object_same (declares_record x object initial) = refl

  objects_same : (ds : List DeclarationForm) → list_all is_object (seen_declarations tracks ds) ≡ list_all is_object ds
  objects_same [] = refl
  objects_same (d ∷ ds) =
      both_same (object_same d) (objects_same ds)

  first_same : (ds : List DeclarationForm) → collections_first (seen_declarations tracks ds) ≡ collections_first ds
  first_same [] = refl
  first_same (creates_pool pool ∷ ds) = first_same ds
  first_same (collects access ∷ ds) = first_same ds
  first_same (declares x right ∷ ds) = objects_same ds
  first_same (declares_record x object initial ∷ ds) = objects_same ds

  collection_same : (d : DeclarationForm) → collection_fits types (seen_declaration tracks d) ≡ collection_fits types d
  collection_same (creates_pool pool) = refl
  collection_same (collects access) = refl
  collection_same (declares x right) = refl
  collection_same (declares_record x object initial) = refl

  collections_same : (ds : List DeclarationForm) → list_all (collection_fits types) (seen_declarations tracks ds) ≡ list_all (collection_fits types) ds
  collections_same [] = refl
  collections_same (d ∷ ds) =
      both_same (collection_same d) (collections_same ds)

  declarations_same : (ds : List DeclarationForm) → DeclarationsAreSimple tracks.first ds → DeclarationsAreOfRecord ds → declarations_are_of_kind types (judged types tracks own) (seen_declarations tracks ds) ≡ declarations_are_of_kind types own ds
  declarations_same ds simple of_record =
      both_same (both_same (first_same ds) (collections_same ds)) (initials_same ds simple of_record)

  there_same : (fs : StmtsForm) → has_statement (seen_stmts tracks fs) ≡ has_statement fs
  there_same no_stmts = refl
  there_same (a_stmt f fs) = refl

  -- Statements (5.1).
  module _ (texts exceptions : List (List ℕ)) (callable : List Profile) where
    mutual
      statement_same : (inside : Bool) (f : StmtForm) → StatementIsSimple tracks.first f → StatementIsOfRecord tracks f → statement_is_of_kind types (judged types tracks own) texts exceptions callable inside (seen_stmt tracks f) ≡ statement_is_of_kind types own texts exceptions callable inside f
      statement_same inside skips simple of_record = refl
      statement_same inside (assigns target right) simple of_record =
          let path = path_fits types tracks own tracking target simple.0 of_record.0 in
          let same = right_is_fit types tracks own tracking right simple.1 of_record.1 in
          both_same
          (ap (λ (k : Option VariableKind). right_fits types (judged types tracks own) k (seen_right tracks right)) path.kind ∙ same.fits (path_kind types own target))
          (ap (λ (b : Bool). lends_to (judged types tracks own) b (seen_right tracks right)) path.borrows ∙ same.lends (names_borrower own target))
      statement_same inside (assigns_record target items) simple of_record =
          same_record types tracks own tracking target items simple.0 of_record.0 simple.1 of_record.1
      statement_same inside (frees access path) simple of_record =
          let same = path_fits types tracks own tracking path simple of_record in
          both_same (ap (is_freed_by types access) same.access) (ap not same.borrows)
      statement_same inside (gets target) simple of_record = let k = (path_fits types tracks own tracking target simple of_record.0).kind in ap (λ (kind : Option VariableKind). is_type Integer (scalar_of kind)) k
      statement_same inside (writes e) simple of_record = ap (is_type Integer) (expression_same e simple of_record)
      statement_same inside (writes_text text) simple of_record = refl
      statement_same inside (chooses branches) simple of_record = branches_same inside branches simple of_record
      statement_same inside (repeats condition fs spot) simple of_record =
          both_same (both_same (conditions_fit types tracks own tracking condition simple.0 of_record.0).fits (there_same fs)) (statements_same true fs simple.1 of_record.1)
      statement_same inside (counts x low high fs spot) simple of_record =
          both_same
          (both_same
          (both_same
          (both_same (ap (λ (kind : Option VariableKind). is_type Integer (scalar_of kind)) (own_kind x simple.0.1)) (ap (is_type Integer) (expression_same low simple.1 of_record.0)))
          (ap (is_type Integer) (expression_same high simple.2 of_record.1)))
          (there_same fs))
          (statements_same true fs simple.3 of_record.2)
      statement_same inside (exits condition spot) simple of_record =
          ap (λ (b : Bool). inside && b) (conditions_fit types tracks own tracking condition simple of_record).fits
      statement_same inside (calls procedure actuals) simple of_record = absurd simple
      statement_same inside (returns spot) simple of_record = refl
      statement_same inside (raises e) simple of_record = refl
      statement_same inside (encloses ds fs hs) simple of_record =
          both_same (both_same (declarations_same ds simple.0 of_record.0) (statements_same inside fs simple.1 of_record.1)) (handlers_same inside hs simple.2 of_record.2)

      pub statements_same : (inside : Bool) (fs : StmtsForm) → StatementsAreSimple tracks.first fs → StatementsAreOfRecord tracks fs → statements_are_of_kind types (judged types tracks own) texts exceptions callable inside (seen_stmts tracks fs) ≡ statements_are_of_kind types own texts exceptions callable inside fs
      statements_same inside no_stmts simple of_record = refl
      statements_same inside (a_stmt f fs) simple of_record =
          both_same (statement_same inside f simple.0 of_record.0) (statements_same inside fs simple.1 of_record.1)

      branches_same : (inside : Bool) (branches : BranchesForm) → BranchesAreSimple tracks.first branches → BranchesAreOfRecord tracks branches → branches_are_of_kind types (judged types tracks own) texts exceptions callable inside (seen_branches tracks branches) ≡ branches_are_of_kind types own texts exceptions callable inside branches
      branches_same inside (otherwise fs) simple of_record = statements_same inside fs simple of_record
      branches_same inside (a_branch e fs branches) simple of_record =
          both_same (both_same (ap (is_type Boolean) (expression_same e simple.0 of_record.0)) (statements_same inside fs simple.1 of_record.1)) (branches_same inside branches simple.2 of_record.2)

      pub handlers_same : (inside : Bool) (hs : HandlersForm) → HandlersAreSimple tracks.first hs → HandlersAreOfRecord tracks hs → handlers_are_of_kind types (judged types tracks own) texts exceptions callable inside (seen_handlers tracks hs) ≡ handlers_are_of_kind types own texts exceptions callable inside hs
      handlers_same inside no_handlers simple of_record = refl
      handlers_same inside (a_handler choices fs hs) simple of_record =
          both_same (both_same (ap (λ (b : Bool). list_all (choice_fits exceptions) choices && b) (there_same fs)) (statements_same inside fs simple.0 of_record.0)) (handlers_same inside hs simple.1 of_record.1)

-- What an Adjust tracks (7.6).

-- A declared component of an access type lies where it says.
within_of_access : (types : List TypeForm) (object : TypeNo) (components : List ComponentKind) (q : PartForm) → reached_components types object.0 ≡ Some components → component_lies types components q ≡ true → AreOfAccess types object (number_within q.first q.kind)
within_of_access types object components q reached lies = by q.kind refl
  where
    by : (kind : PartKind) → q.kind ≡ kind → AreOfAccess types object (number_within q.first kind)
    by (part.Elementary (component.Integer initial)) is = tt
    by (part.Elementary (component.Boolean initial)) is = tt
    by (part.Elementary (component.Access access)) is =
        let here : has_record_at (Some components) q.first (Some (component.Access access ∷ [])) ≡ true = rw is at lies in
        let found = (record_first components [] q.first (component.Access access) here).0 in
        ((access, ap (λ (ks : Option (List ComponentKind)). kind_among ks q.first) reached ∙ found), tt)
    by (part.Record t) is = tt
    by part.Parent is = tt

are_both : (types : List TypeForm) (object : TypeNo) (xs ys : List ℕ) → AreOfAccess types object xs → AreOfAccess types object ys → AreOfAccess types object (xs ++ ys)
are_both types object [] ys h g = g
are_both types object (x ∷ xs) ys h g = (h.0, are_both types object xs ys h.1 g)

-- So do all of them.
numbers_of_access : (types : List TypeForm) (object : TypeNo) (components : List ComponentKind) (qs : List PartForm) → reached_components types object.0 ≡ Some components → list_all (component_lies types components) qs ≡ true → AreOfAccess types object (access_numbers qs)
numbers_of_access types object components [] reached lie = tt
numbers_of_access types object components (q ∷ qs) reached lie =
    let here = component_lies types components q in
    let later = list_all (component_lies types components) qs in
    are_both types object (number_within q.first q.kind) (access_numbers qs)
    (within_of_access types object components q reached (and_left here later lie)) (numbers_of_access types object components qs reached (and_right here later lie))

of_type : (types : List TypeForm) (object : TypeNo) (procedure : ℕ) (found : Option TypeForm) → reached_components types object.0 ≡ components_in found → ((type : TypeForm) → found ≡ Some type → components_lie types type ≡ true) → AreOfAccess types object (tracked_of procedure found)
of_type types object procedure None reached lie = tt
of_type types object procedure (Some (record_of name parts components finalization)) reached lie = by (adjusts procedure finalization)
  where
    by : (b : Bool) → AreOfAccess types object (if b then access_numbers parts else [])
    by true = numbers_of_access types object components parts reached (lie (record_of name parts components finalization) refl)
    by false = tt
of_type types object procedure (Some (access_to name designated pool)) reached lie = tt
of_type types object procedure (Some (object_of record_type)) reached lie = tt

-- The record type by which an object is known is that of what it names.
names_it : (o : Option TypeForm) (t : ℕ) → object_in o ≡ Some t → named_in o ≡ Some t
names_it None t is = absurd (cc is)
names_it (Some (record_of name parts components finalization)) t is = absurd (cc is)
names_it (Some (access_to name designated pool)) t is = absurd (cc is)
names_it (Some (object_of record_type)) t is = is

all_at : {X : Type 0} (P : X → Bool) (xs : List X) (i : ℕ) (x : X) → list_all P xs ≡ true → slice_get xs i ≡ Some x → P x ≡ true
all_at P [] i x h is = absurd (cc is)
all_at P (y ∷ xs) zero x h is = let one : y ≡ x = cc is in subst (λ z. P z ≡ true) one (and_left (P y) (list_all P xs) h)
all_at P (y ∷ xs) (suc i) x h is = all_at P xs i x (and_right (P y) (list_all P xs) h) is

-- What a body of a well-formed program tracks are components of its formal parameter, each of an access type.
pub tracks_components : (p : ProgramForm) → IsWellFormed p → (number : ℕ) (b : BodyForm) → (tracks_of p.types number b).components ≢ [] → TracksComponents p.types (tracks_of p.types number b) b.variables
tracks_components p well number b some = by_kind (variable_kind b.variables 0) refl some
  where
    by_components : (object : TypeNo) → variable_kind b.variables 0 ≡ Some (variable.Record object) → (cs : List ℕ) → AreOfAccess p.types object cs → (tracks_behind (length b.variables) cs).components ≢ [] → TracksComponents p.types (tracks_behind (length b.variables) cs) b.variables
    by_components object formal [] each none = absurd (none refl)
    by_components object formal (c ∷ cs) each none = record { object = object; formal = formal; components = each; behind = refl }

    by_record : (object : TypeNo) → variable_kind b.variables 0 ≡ Some (variable.Record object) → (r : Option ℕ) → object_in (slice_get p.types object.0) ≡ r → (tracks_behind (length b.variables) (tracked_by_adjust p.types number r)).components ≢ [] → TracksComponents p.types (tracks_behind (length b.variables) (tracked_by_adjust p.types number r)) b.variables
    by_record object formal None is none = absurd (none refl)
    by_record object formal (Some r) is none =
        let reached : reached_components p.types object.0 ≡ components_in (slice_get p.types r) = ap (components_reached p.types) (names_it (slice_get p.types object.0) r is) in
        by_components object formal (tracked_of number (slice_get p.types r))
        (of_type p.types object number (slice_get p.types r) reached (λ type found. all_at (components_lie p.types) p.types r type well.components_lie found)) none

    by_kind : (kind : Option VariableKind) → variable_kind b.variables 0 ≡ kind → (tracks_behind (length b.variables) (tracked_by_adjust p.types number (object_record p.types kind))).components ≢ [] → TracksComponents p.types (tracks_behind (length b.variables) (tracked_by_adjust p.types number (object_record p.types kind))) b.variables
    by_kind None is none = absurd (none refl)
    by_kind (Some variable.Integer) is none = absurd (none refl)
    by_kind (Some variable.Boolean) is none = absurd (none refl)
    by_kind (Some (variable.Access access)) is none = absurd (none refl)
    by_kind (Some (variable.Record object)) is none = by_record object is (object_in (slice_get p.types object.0)) refl none
