-- Frugal bodies (7.6, 4.8, 13.11.2) that free no objects with controlled parts, or may do so, and that create none and declare no record objects, or may do so,
-- as what is proved of them tells them apart. Those that free some may assign to records with such parts as wholes (5.2).

use Rattle.std.proofs.Common.{◌≡◌, ℕ, Bool, true, false, ◌&&◌, ◌||◌, List, Option, refl, ◌∙◌, [], ◌∷◌, inl, inr}
use Rattle.std.specs.Prelude.{not, is_some, if◌then◌else◌, Some, None}
use Rattle.std.specs.List.{list_all, slice_index_or}
use Rattle.std.proofs.lemmas.Bool.{and_parts, or_cases, or_left, or_right}
use Rattle.ada_effects.specs.Effects.{record_path_raises}
use Rattle.ada_program.specs.Form.{RecordPathForm, ItemForm, RightForm, nothing, value_of, allocates, allocates_default, computes, DeclarationForm, creates_pool, collects, declares, declares_record, StmtForm, skips, assigns, assigns_record, frees, gets, writes, writes_text, chooses, repeats, counts, exits, calls, returns, raises, encloses, StmtsForm, no_stmts, a_stmt, BranchesForm, otherwise, a_branch, HandlersForm, no_handlers, a_handler}
use Rattle.ada_program.specs.ProgramForm.{TypeForm, BodyForm, ProgramForm}
use Rattle.ada_program.specs.WellFormed.{finalization_of, object_named}
use Rattle.ada_quiet.specs.Apart.{is_bare_item, leave_access}
use Rattle.ada_quiet.specs.Bare.{has_bare_objects}
use Rattle.ada_quiet.specs.Calm.{is_known_calm, unadjusted_types, unfinalized_types}
use Rattle.ada_quiet.specs.Idle.{holds_parts}
use Rattle.ada_quiet.specs.Frugal.{allocates_frugally, is_bare_initial, is_copied_initial, is_unadjusted_named as frugal_named, is_unadjusted_initial, is_frugal_declaration, are_frugal_declarations, frugal_procedures, is_frugal_stmt, are_frugal, are_frugal_branches, are_frugal_handlers, is_frugal_body, Thrift, assigns_at_hand}
use Rattle.ada_quiet.proofs.FrugalAt.{thrift_at}

-- What such bodies go by: as frugal ones do, also whether no Adjust tracks, whether they may free objects with controlled parts, and whether they may allocate
-- some and declare record objects.
pub record Allowance : Type 0 where
  pub types : List TypeForm
  pub unadjusted : List Bool
  pub unfinalized : List Bool
  pub untracked : Bool
  pub treats_parts : Bool
  pub objects : Bool
  pub procedures : List Bool

-- It is known of a record type that nothing is called as a copy is adjusted,
abbrev pub is_unadjusted : Allowance → (record_type : ℕ) → Bool
is_unadjusted allowance t = is_known_calm allowance.unadjusted (finalization_of allowance.types t)

-- or as a value ends.
abbrev pub is_unfinalized : Allowance → (record_type : ℕ) → Bool
is_unfinalized allowance t = is_known_calm allowance.unfinalized (finalization_of allowance.types t)

-- Nothing is called for it, in neither way.
abbrev pub is_inert : Allowance → (record_type : ℕ) → Bool
is_inert allowance t = is_unfinalized allowance t && is_unadjusted allowance t

-- Such a body may assign to a record as a whole (5.2), if it may treat parts, where no Adjust tracks, or for which none is called.
abbrev pub may_assign : Allowance → (record_type : ℕ) → Bool
may_assign allowance t = allowance.treats_parts && ((allowance.objects && allowance.untracked) || is_unadjusted allowance t)

-- Such a body may free objects of an access type (13.11.2): they have no controlled parts, or it may treat those that have some.
abbrev pub may_treat : Allowance → (access : ℕ) → Bool
may_treat allowance access = allowance.treats_parts || has_bare_objects allowance.types access

-- Or allocate them by default (4.8).
abbrev pub may_create : Allowance → (access : ℕ) → Bool
may_create allowance access = allowance.objects || has_bare_objects allowance.types access

-- What is assigned is allocated frugally, and is no new object with controlled parts unless that may be (4.8).
abbrev pub allocates_thriftily : Allowance → RightForm → Bool
allocates_thriftily allowance nothing = true
allocates_thriftily allowance (value_of path) = true
allocates_thriftily allowance (allocates access items) = has_bare_objects allowance.types access
allocates_thriftily allowance (allocates_default access) = may_create allowance access
allocates_thriftily allowance (computes e) = true

-- If there is a record type, it is known of it.
abbrev pub is_unadjusted_named : Allowance → (record_type : Option ℕ) → Bool
is_unadjusted_named allowance None = false
is_unadjusted_named allowance (Some t) = is_unadjusted allowance t

-- An object of a type may be copied: no Adjust tracks, or none is called for it.
abbrev pub copies_object : Allowance → (object_type : ℕ) → Bool
copies_object allowance t = allowance.untracked || is_unadjusted_named allowance (object_named allowance.types (Some t))

abbrev pub fills_parts : Allowance → (object_type : ℕ) → Bool
fills_parts allowance t = not (holds_parts allowance.types t) || (allowance.treats_parts && copies_object allowance t)

-- Or declare a record object with an initial value (3.3.1): one without controlled parts, where it may declare some, or one that may be copied, where it may
-- treat parts.
abbrev pub may_fill : Allowance → (object_type : ℕ) → Bool
may_fill allowance t = allowance.objects && fills_parts allowance t

-- So it is with what a variable is given at first (3.3.1), and nothing but variables is declared, unless record objects may be.
abbrev pub is_thrifty_declaration : Allowance → DeclarationForm → Bool
is_thrifty_declaration allowance (creates_pool p) = false
is_thrifty_declaration allowance (collects access) = false
is_thrifty_declaration allowance (declares x right) = allocates_thriftily allowance right
is_thrifty_declaration allowance (declares_record x t None) = allowance.objects
is_thrifty_declaration allowance (declares_record x t (Some items)) = may_fill allowance t

-- So it is with declarations.
abbrev pub are_thrifty_declarations : Allowance → List DeclarationForm → Bool
are_thrifty_declarations allowance ds = list_all (is_thrifty_declaration allowance) ds

module _ (allowance : Allowance) where
  abbrev mutual
    -- A statement is frugal, and allocates, frees and assigns nothing with controlled parts unless it may (4.8, 13.11.2, 5.2).
    pub is_thrifty_stmt : StmtForm → Bool
    is_thrifty_stmt skips = true
    is_thrifty_stmt (assigns target right) = allocates_thriftily allowance right
    is_thrifty_stmt (assigns_record target items) =
        not (is_some (finalization_of allowance.types target.record_type)) || may_assign allowance target.record_type
    is_thrifty_stmt (frees access path) = may_treat allowance access
    is_thrifty_stmt (gets target) = true
    is_thrifty_stmt (writes e) = true
    is_thrifty_stmt (writes_text text) = true
    is_thrifty_stmt (chooses branches) = are_thrifty_branches branches
    is_thrifty_stmt (repeats condition fs spot) = are_thrifty fs
    is_thrifty_stmt (counts x low high fs spot) = are_thrifty fs
    is_thrifty_stmt (exits condition spot) = true
    is_thrifty_stmt (calls procedure actuals) = slice_index_or allowance.procedures procedure false
    is_thrifty_stmt (returns spot) = true
    is_thrifty_stmt (raises e) = true
    is_thrifty_stmt (encloses ds fs hs) = are_thrifty_declarations allowance ds && are_thrifty fs && are_thrifty_handlers hs

    -- So it is with statements.
    pub are_thrifty : StmtsForm → Bool
    are_thrifty no_stmts = true
    are_thrifty (a_stmt f fs) = is_thrifty_stmt f && are_thrifty fs

    -- So it is with branches (5.3).
    pub are_thrifty_branches : BranchesForm → Bool
    are_thrifty_branches (otherwise fs) = are_thrifty fs
    are_thrifty_branches (a_branch e fs branches) = are_thrifty fs && are_thrifty_branches branches

    -- So it is with handlers (11.2).
    pub are_thrifty_handlers : HandlersForm → Bool
    are_thrifty_handlers no_handlers = true
    are_thrifty_handlers (a_handler choices fs hs) = are_thrifty fs && are_thrifty_handlers hs

-- All of a body is so.
abbrev pub is_thrifty_body : Allowance → BodyForm → Bool
is_thrifty_body allowance b =
    are_thrifty_declarations allowance b.declarations && are_thrifty allowance b.statements && are_thrifty_handlers allowance b.handlers

-- Those of a program, which may free and create such objects.
abbrev pub allowance_of : ProgramForm → Allowance
allowance_of p = record {
  types = p.types;
  unadjusted = unadjusted_types p.types;
  unfinalized = unfinalized_types p.types;
  untracked = leave_access p.types;
  treats_parts = true;
  objects = true;
  procedures = frugal_procedures p;
}

-- What is frugal is so.
module _ (p : ProgramForm) where
  -- What the body goes by, be it that of an operation or one that is called.
  abbrev judged : Thrift
  judged = thrift_at p

  right_thrifty : (right : RightForm) → allocates_frugally judged right ≡ true → allocates_thriftily (allowance_of p) right ≡ true
  right_thrifty nothing is = refl
  right_thrifty (value_of path) is = refl
  right_thrifty (allocates access items) is = is
  right_thrifty (allocates_default access) is = refl
  right_thrifty (computes e) is = refl

  named_thrifty : (o : Option ℕ) → frugal_named judged o ≡ true → is_unadjusted_named (allowance_of p) o ≡ true
  named_thrifty None is = is
  named_thrifty (Some t) is = is

  copied_thrifty : (t : ℕ) → is_copied_initial judged t ≡ true → copies_object (allowance_of p) t ≡ true
  copied_thrifty t is =
      let named = is_unadjusted_named (allowance_of p) (object_named p.types (Some t)) in
      elim (or_cases (leave_access p.types) (is_unadjusted_initial judged t) is) [
        | inl none ↦ or_left (leave_access p.types) named none
        | inr copied ↦ or_right (leave_access p.types) named (named_thrifty (object_named p.types (Some t)) copied)
      ]

  initial_thrifty : (t : ℕ) (items : List ItemForm) → (is_bare_initial p.types t items || is_copied_initial judged t) ≡ true → may_fill (allowance_of p) t ≡ true
  initial_thrifty t items is =
      let bare = not (holds_parts p.types t) in
      let copied = copies_object (allowance_of p) t in
      elim (or_cases (is_bare_initial p.types t items) (is_copied_initial judged t) is) [
        | inl bare_so ↦ or_left bare copied (and_parts bare (list_all (is_bare_item p.types) items) bare_so).0
        | inr copied_so ↦ or_right bare copied (copied_thrifty t copied_so)
      ]

  declaration_thrifty : (d : DeclarationForm) → is_frugal_declaration judged d ≡ true → is_thrifty_declaration (allowance_of p) d ≡ true
  declaration_thrifty (creates_pool pool) is = is
  declaration_thrifty (collects access) is = is
  declaration_thrifty (declares x right) is = right_thrifty right is
  declaration_thrifty (declares_record x t None) is = refl
  declaration_thrifty (declares_record x t (Some items)) is = initial_thrifty t items is

  declarations_thrifty : (ds : List DeclarationForm) → are_frugal_declarations judged ds ≡ true → are_thrifty_declarations (allowance_of p) ds ≡ true
  declarations_thrifty [] is = refl
  declarations_thrifty (d ∷ ds) is =
      let both = and_parts (is_frugal_declaration judged d) (are_frugal_declarations judged ds) is in
      rw (declaration_thrifty d both.0, declarations_thrifty ds both.1) refl

  -- A record that is assigned has no controlled parts, or no Adjust is called for it, or none tracks.
  assigned_thrifty :
      (target : RecordPathForm) (items : List ItemForm) (parted : Bool)
      → (if parted then assigns_at_hand judged target else list_all (is_bare_item p.types) items) ≡ true
      → (not parted || may_assign (allowance_of p) target.record_type) ≡ true
  assigned_thrifty target items false is = refl
  assigned_thrifty target items true is =
      let copied = leave_access p.types || is_unadjusted (allowance_of p) target.record_type in
      let three = and_parts (copied && not (record_path_raises target)) _ is in
      let two = and_parts copied (not (record_path_raises target)) three.0 in
      two.0

  mutual
    stmt_thrifty : (f : StmtForm) → is_frugal_stmt judged f ≡ true → is_thrifty_stmt (allowance_of p) f ≡ true
    stmt_thrifty skips is = refl
    stmt_thrifty (assigns target right) is = right_thrifty right is
    stmt_thrifty (assigns_record target items) is = assigned_thrifty target items (is_some (finalization_of p.types target.record_type)) is
    stmt_thrifty (frees access path) is = refl
    stmt_thrifty (gets target) is = refl
    stmt_thrifty (writes e) is = refl
    stmt_thrifty (writes_text text) is = refl
    stmt_thrifty (chooses branches) is = branches_thrifty branches is
    stmt_thrifty (repeats condition fs spot) is = stmts_thrifty fs is
    stmt_thrifty (counts x low high fs spot) is = stmts_thrifty fs is
    stmt_thrifty (exits condition spot) is = refl
    stmt_thrifty (calls procedure actuals) is = is
    stmt_thrifty (returns spot) is = refl
    stmt_thrifty (raises e) is = refl
    stmt_thrifty (encloses ds fs hs) is =
        let two = and_parts (are_frugal_declarations judged ds && are_frugal judged fs) (are_frugal_handlers judged hs) is in
        let three = and_parts (are_frugal_declarations judged ds) (are_frugal judged fs) two.0 in
        rw (declarations_thrifty ds three.0, stmts_thrifty fs three.1, handlers_thrifty hs two.1) refl

    stmts_thrifty : (fs : StmtsForm) → are_frugal judged fs ≡ true → are_thrifty (allowance_of p) fs ≡ true
    stmts_thrifty no_stmts is = refl
    stmts_thrifty (a_stmt f fs) is =
        let both = and_parts (is_frugal_stmt judged f) (are_frugal judged fs) is in rw (stmt_thrifty f both.0, stmts_thrifty fs both.1) refl

    branches_thrifty : (branches : BranchesForm) → are_frugal_branches judged branches ≡ true → are_thrifty_branches (allowance_of p) branches ≡ true
    branches_thrifty (otherwise fs) is = stmts_thrifty fs is
    branches_thrifty (a_branch e fs branches) is =
        let both = and_parts (are_frugal judged fs) (are_frugal_branches judged branches) is in
        rw (stmts_thrifty fs both.0, branches_thrifty branches both.1) refl

    handlers_thrifty : (hs : HandlersForm) → are_frugal_handlers judged hs ≡ true → are_thrifty_handlers (allowance_of p) hs ≡ true
    handlers_thrifty no_handlers is = refl
    handlers_thrifty (a_handler choices fs hs) is =
        let both = and_parts (are_frugal judged fs) (are_frugal_handlers judged hs) is in
        rw (stmts_thrifty fs both.0, handlers_thrifty hs both.1) refl

  -- So is a body.
  pub body_thrifty : (b : BodyForm) → is_frugal_body judged b ≡ true → is_thrifty_body (allowance_of p) b ≡ true
  body_thrifty b is =
      let two = and_parts (are_frugal_declarations judged b.declarations && are_frugal judged b.statements) (are_frugal_handlers judged b.handlers) is in
      let three = and_parts (are_frugal_declarations judged b.declarations) (are_frugal judged b.statements) two.0 in
      rw (declarations_thrifty b.declarations three.0, stmts_thrifty b.statements three.1, handlers_thrifty b.handlers two.1) refl

-- The declarations, the statements and the handlers of such a body are so.
pub thrifty_parts : (allowance : Allowance) (b : BodyForm) → is_thrifty_body allowance b ≡ true
    → (are_thrifty_declarations allowance b.declarations ≡ true) × (are_thrifty allowance b.statements ≡ true) × (are_thrifty_handlers allowance b.handlers ≡ true)
thrifty_parts allowance b is =
    let three = and_parts _ _ is in
    let two = and_parts _ _ three.0 in
    (two.0, two.1, three.1)

-- A record with controlled parts is assigned by no body that treats none.
pub bare_assigned : (allowance : Allowance) → allowance.treats_parts ≡ false → (t : ℕ)
    → (not (is_some (finalization_of allowance.types t)) || may_assign allowance t) ≡ true → not (is_some (finalization_of allowance.types t)) ≡ true
bare_assigned allowance none t is = by (not (is_some (finalization_of allowance.types t))) (may_assign allowance t) refl is
  where
    by : (bare may : Bool) → may_assign allowance t ≡ may → (bare || may) ≡ true → bare ≡ true
    by true may same is' = refl
    by false may same is' =
        let treats = (and_parts allowance.treats_parts ((allowance.objects && allowance.untracked) || is_unadjusted allowance t) (same ∙ is')).0 in
        absurd (cc (none, treats))

-- What a body goes by that calls nothing, declares variables alone, and neither allocates nor frees an object with controlled parts.
abbrev pub simple_allowance : List TypeForm → Allowance
simple_allowance types = record { types = types; unadjusted = []; unfinalized = []; untracked = false; treats_parts = false; objects = false; procedures = [] }
