-- Procedures that are frugal have frugal bodies, by what is known of all procedures: what is known of the first ones stays known.

use Rattle.std.proofs.Common.{◌≡◌, ℕ, zero, suc, Bool, true, false, ◌&&◌, ◌||◌, List, [], ◌∷◌, ◌++◌, length, map, ◌+◌, ◌<◌, Option, Some, None, refl, sym, ap, ◌∙◌, subst, inl, inr, arith}
use Rattle.std.specs.Prelude.{not, ◌==◌, ◌≤◌, nat_lt, if◌then◌else◌, is_some, Option}
use Rattle.std.specs.List.{list_all, slice_get, slice_index_or}
use Rattle.ada_effects.specs.Effects.{record_path_raises}
use Rattle.ada_program.specs.Form.{RecordPathForm, ItemForm, RightForm, nothing, value_of, allocates, allocates_default, computes, StmtForm, skips, assigns, assigns_record, frees, gets, writes, writes_text, chooses, repeats, counts, exits, calls, returns, raises, encloses, StmtsForm, no_stmts, a_stmt, BranchesForm, otherwise, a_branch, HandlersForm, no_handlers, a_handler, DeclarationForm, creates_pool, collects, declares, declares_record}
use Rattle.ada_program.specs.ProgramForm.{TypeForm, BodyForm, ProgramForm}
use Rattle.ada_program.specs.WellFormed.{finalization_of, object_named}
use Rattle.ada_quiet.specs.Apart.{is_bare_item}
use Rattle.ada_quiet.specs.Bare.{has_bare_objects}
use Rattle.std.proofs.lemmas.Bool.{lt-ltb, ltb-true, or_cases, or_left, or_right}
use Rattle.ada_quiet.specs.Calm.{is_known_calm}
use Rattle.ada_quiet.specs.Frugal.{Thrift, assigns_at_hand, is_formal, allocates_frugally, called_by, is_bare_initial, is_copied_initial, is_unfinalized, is_unadjusted, is_unadjusted_named, is_unadjusted_initial, is_frugal_declaration, are_frugal_declarations, is_frugal_stmt, are_frugal, are_frugal_branches, are_frugal_handlers, is_frugal_body, frugal_from, frugal_procedures, frugal_operations, thrift_of, is_inert, is_copied}
use Rattle.ada_quiet.proofs.InUse.{others}

-- One of two tests is passed, where one is of two that ask for more.
either_more : (first other less more : Bool) → (first ≡ true → other ≡ true) → (less ≡ true → more ≡ true) → (first || less) ≡ true → (other || more) ≡ true
either_more true other less more one two is = or_left other more (one refl)
either_more false other less more one two is = or_right other more (two is)

-- Of two tests one is chosen in the same way.
either : (which a b c d : Bool) → (a ≡ true → c ≡ true) → (b ≡ true → d ≡ true) → (if which then a else b) ≡ true → (if which then c else d) ≡ true
either true a b c d one other h = one h
either false a b c d one other h = other h

-- All that one list tells to be frugal the other one tells, too.
abbrev pub TellsMore : (less more : List Bool) → Type 0
TellsMore less more = (n : ℕ) → slice_index_or less n false ≡ true → slice_index_or more n false ≡ true

-- Where bodies of one kind are those of operations, those of the other kind are, too.
abbrev pub OperatesMore : (less more : Bool) → Type 0
OperatesMore less more = less ≡ true → more ≡ true

-- A variable that is none of the first ones is none of fewer ones.
behind_fewer : (x more less : ℕ) → less ≤ more → not (nat_lt x more) ≡ true → not (nat_lt x less) ≡ true
behind_fewer x more less fewer h = by (nat_lt x less) refl
  where
    by : (first : Bool) → nat_lt x less ≡ first → not first ≡ true
    by false is = refl
    by true is =
        let below = ltb-true x less is in
        absurd (cc (lt-ltb x more (omega (arith, below, fewer)), h))

-- What is frugal by the one is so by the other, which knows at least the same procedures, the same of record types, and the same of what tracks, is asked of
-- operations, if the one is, and has no more formal parameters.
module _ (one other : Thrift) (same : one.types ≡ other.types) (alike : one.unadjusted ≡ other.unadjusted) (finalized : one.unfinalized ≡ other.unfinalized)
    (untracked : one.untracked ≡ other.untracked)
    (tells : TellsMore one.procedures other.procedures) (operates : OperatesMore one.operation other.operation)
    (fewer : other.formals ≤ one.formals) where
  -- What is asked of types holds of the same types.
  bare_more : (t : ℕ) → has_bare_objects one.types t ≡ has_bare_objects other.types t
  bare_more t = ap (λ (types : List TypeForm). has_bare_objects types t) same

  right_more : (right : RightForm) → allocates_frugally one right ≡ true → allocates_frugally other right ≡ true
  right_more nothing h = refl
  right_more (value_of path) h = refl
  right_more (allocates access items) h = sym (bare_more access) ∙ h
  right_more (allocates_default access) h = refl
  right_more (computes e) h = refl

  -- So is what is known of a record type.
  known_more : (t : ℕ) (less more : List Bool) → less ≡ more → is_known_calm less (finalization_of one.types t) ≡ true
      → is_known_calm more (finalization_of other.types t) ≡ true
  known_more t less more told h =
      let known = λ (marks : List Bool) (types : List TypeForm). is_known_calm marks (finalization_of types t) in
      sym (ap (λ (marks : List Bool). known marks one.types) told ∙ ap (known more) same) ∙ h

  -- So is an initial value of a type that overrides no Adjust.
  unadjusted_more : (o : Option ℕ) → is_unadjusted_named one o ≡ true → is_unadjusted_named other o ≡ true
  unadjusted_more None h = absurd (cc h)
  unadjusted_more (Some t) h = known_more t one.unadjusted other.unadjusted alike h

  copied_more : (t : ℕ) → is_copied_initial one t ≡ true → is_copied_initial other t ≡ true
  copied_more t h = elim (or_cases one.untracked (is_unadjusted_initial one t) h) [
    | inl none ↦ or_left other.untracked (is_unadjusted_initial other t) (sym untracked ∙ none)
    | inr copied ↦
        or_right other.untracked (is_unadjusted_initial other t)
        (ap (λ (types : List TypeForm). is_unadjusted_named other (object_named types (Some t))) (sym same)
        ∙ unadjusted_more (object_named one.types (Some t)) copied)
  ]

  initial_more : (t : ℕ) (items : List ItemForm) → (is_bare_initial one.types t items || is_copied_initial one t) ≡ true
      → (is_bare_initial other.types t items || is_copied_initial other t) ≡ true
  initial_more t items h = elim (or_cases (is_bare_initial one.types t items) (is_copied_initial one t) h) [
    | inl bare ↦
        or_left (is_bare_initial other.types t items) (is_copied_initial other t)
        (ap (λ (types : List TypeForm). is_bare_initial types t items) (sym same) ∙ bare)
    | inr copied ↦ or_right (is_bare_initial other.types t items) (is_copied_initial other t) (copied_more t copied)
  ]

  declaration_more : (d : DeclarationForm) → is_frugal_declaration one d ≡ true → is_frugal_declaration other d ≡ true
  declaration_more (creates_pool p) h = h
  declaration_more (collects access) h = h
  declaration_more (declares x right) h = right_more right h
  declaration_more (declares_record x t None) h = refl
  declaration_more (declares_record x t (Some items)) h = initial_more t items h

  declarations_more : (ds : List DeclarationForm) → are_frugal_declarations one ds ≡ true → are_frugal_declarations other ds ≡ true
  declarations_more [] h = refl
  declarations_more (d ∷ ds) h =
      others (is_frugal_declaration one d) (are_frugal_declarations one ds) (is_frugal_declaration other d) (are_frugal_declarations other ds)
      (declaration_more d) (declarations_more ds) h

  -- So is what is copied to a record, and a record for which nothing is called,
  copied_to : (t : ℕ) → is_copied one t ≡ true → is_copied other t ≡ true
  copied_to t h =
      elim (or_cases one.untracked (is_unadjusted one t) h) [
        | inl none ↦ or_left other.untracked (is_unadjusted other t) (sym untracked ∙ none)
        | inr known ↦ or_right other.untracked (is_unadjusted other t) (known_more t one.unadjusted other.unadjusted alike known)
      ]

  inert_more : (t : ℕ) → is_inert one t ≡ true → is_inert other t ≡ true
  inert_more t h =
      others (is_unfinalized one t) (is_unadjusted one t) (is_unfinalized other t) (is_unadjusted other t)
      (known_more t one.unfinalized other.unfinalized finalized) (known_more t one.unadjusted other.unadjusted alike) h

  -- a record with controlled parts that lies at hand,
  hand_more : (target : RecordPathForm) → assigns_at_hand one target ≡ true → assigns_at_hand other target ≡ true
  hand_more target h =
      let t = target.record_type in
      let near = not (record_path_raises target) in
      let x = target.object.root in
      let part = not (target.part == 0) in
      let in_one = one.operation && is_inert one t && part in
      let in_other = other.operation && is_inert other t && part in
      others (is_copied one t && near) (not (is_formal one x) || in_one) (is_copied other t && near) (not (is_formal other x) || in_other)
      (others (is_copied one t) near (is_copied other t) near (copied_to t) (λ is. is))
      (either_more (not (is_formal one x)) (not (is_formal other x)) in_one in_other (behind_fewer x one.formals other.formals fewer)
      (others (one.operation && is_inert one t) part (other.operation && is_inert other t) part
      (others one.operation (is_inert one t) other.operation (is_inert other t) operates (inert_more t)) (λ is. is))) h

  -- and so is one that is assigned.
  assigned_more : (target : RecordPathForm) (items : List ItemForm) → is_frugal_stmt one (assigns_record target items) ≡ true
      → is_frugal_stmt other (assigns_record target items) ≡ true
  assigned_more target items h =
      let parts = λ (types : List TypeForm). is_some (finalization_of types target.record_type) in
      let bare = λ (types : List TypeForm). list_all (is_bare_item types) items in
      ap (λ (b : Bool). if b then assigns_at_hand other target else bare other.types) (sym (ap parts same))
      ∙ either (parts one.types) (assigns_at_hand one target) (bare one.types) (assigns_at_hand other target) (bare other.types) (hand_more target)
      (λ is. sym (ap bare same) ∙ is) h

  mutual
    stmt_more : (f : StmtForm) → is_frugal_stmt one f ≡ true → is_frugal_stmt other f ≡ true
    stmt_more skips h = refl
    stmt_more (assigns target right) h = right_more right h
    stmt_more (assigns_record target items) h = assigned_more target items h
    stmt_more (frees access path) h = refl
    stmt_more (gets target) h = refl
    stmt_more (writes e) h = refl
    stmt_more (writes_text text) h = refl
    stmt_more (chooses branches) h = branches_more branches h
    stmt_more (repeats condition fs spot) h = stmts_more fs h
    stmt_more (counts x low high fs spot) h = stmts_more fs h
    stmt_more (exits condition spot) h = refl
    stmt_more (calls procedure actuals) h = tells procedure h
    stmt_more (returns spot) h = refl
    stmt_more (raises e) h = refl
    stmt_more (encloses ds fs hs) h =
        others (are_frugal_declarations one ds && are_frugal one fs) (are_frugal_handlers one hs) (are_frugal_declarations other ds && are_frugal other fs)
        (are_frugal_handlers other hs)
        (others (are_frugal_declarations one ds) (are_frugal one fs) (are_frugal_declarations other ds) (are_frugal other fs) (declarations_more ds)
        (stmts_more fs))
        (handlers_more hs) h

    stmts_more : (fs : StmtsForm) → are_frugal one fs ≡ true → are_frugal other fs ≡ true
    stmts_more no_stmts h = refl
    stmts_more (a_stmt f fs) h =
        others (is_frugal_stmt one f) (are_frugal one fs) (is_frugal_stmt other f) (are_frugal other fs) (stmt_more f) (stmts_more fs) h

    branches_more : (branches : BranchesForm) → are_frugal_branches one branches ≡ true → are_frugal_branches other branches ≡ true
    branches_more (otherwise fs) h = stmts_more fs h
    branches_more (a_branch e fs branches) h =
        others (are_frugal one fs) (are_frugal_branches one branches) (are_frugal other fs) (are_frugal_branches other branches) (stmts_more fs)
        (branches_more branches) h

    handlers_more : (hs : HandlersForm) → are_frugal_handlers one hs ≡ true → are_frugal_handlers other hs ≡ true
    handlers_more no_handlers h = refl
    handlers_more (a_handler choices fs hs) h =
        others (are_frugal one fs) (are_frugal_handlers one hs) (are_frugal other fs) (are_frugal_handlers other hs) (stmts_more fs) (handlers_more hs) h

  pub body_more : (b : BodyForm) → is_frugal_body one b ≡ true → is_frugal_body other b ≡ true
  body_more b h =
      others (are_frugal_declarations one b.declarations && are_frugal one b.statements) (are_frugal_handlers one b.handlers)
      (are_frugal_declarations other b.declarations && are_frugal other b.statements) (are_frugal_handlers other b.handlers)
      (others (are_frugal_declarations one b.declarations) (are_frugal one b.statements) (are_frugal_declarations other b.declarations)
      (are_frugal other b.statements)
      (declarations_more b.declarations) (stmts_more b.statements))
      (handlers_more b.handlers) h

-- What is known of the first procedures stays known.
append_more : (xs ys : List Bool) → TellsMore xs (xs ++ ys)
append_more [] ys n h = absurd (cc h)
append_more (x ∷ xs) ys zero h = h
append_more (x ∷ xs) ys (suc n) h = append_more xs ys n h

-- What is told of the first procedures is told of them later, too.
append_keeps : (xs ys : List Bool) (n : ℕ) → n < length xs → slice_index_or (xs ++ ys) n false ≡ slice_index_or xs n false
append_keeps [] ys n less = absurd (omega (arith, less))
append_keeps (x ∷ xs) ys zero less = refl
append_keeps (x ∷ xs) ys (suc n) less = append_keeps xs ys n (omega (arith, less))

append_last : (xs : List Bool) (x : Bool) → slice_index_or (xs ++ x ∷ []) (length xs) false ≡ x
append_last [] x = refl
append_last (y ∷ xs) x = append_last xs x

pub append_length : (xs : List Bool) (x : Bool) → length (xs ++ x ∷ []) ≡ suc (length xs)
append_length [] x = refl
append_length (y ∷ xs) x = ap suc (append_length xs x)

-- Procedures come behind others.
module _ (types : List TypeForm) where
  from_more : (known : List Bool) (bs : List BodyForm) → TellsMore known (frugal_from types known bs)
  from_more known [] n h = h
  from_more known (b ∷ bs) n h =
      let here = is_frugal_body (called_by types known (length b.formals)) b in
      from_more (known ++ here ∷ []) bs n (append_more known (here ∷ []) n h)

  from_keeps : (known : List Bool) (bs : List BodyForm) (n : ℕ) → n < length known
      → slice_index_or (frugal_from types known bs) n false ≡ slice_index_or known n false
  from_keeps known [] n less = refl
  from_keeps known (b ∷ bs) n less =
      let here = is_frugal_body (called_by types known (length b.formals)) b in
      from_keeps (known ++ here ∷ []) bs n (omega (arith, less, append_length known here)) ∙ append_keeps known (here ∷ []) n less

  -- So each one behind those that are known is told as its body is.
  from_at : (known : List Bool) (bs : List BodyForm) (n i : ℕ) (b : BodyForm) → i ≡ n + length known → slice_get bs n ≡ Some b
      → slice_index_or (frugal_from types known bs) i false ≡ true
      → is_frugal_body (called_by types (frugal_from types known bs) (length b.formals)) b ≡ true
  from_at known [] n i b place at told = absurd (cc at)
  from_at known (c ∷ bs) zero i b place at told =
      let here = is_frugal_body (called_by types known (length c.formals)) c in
      let more = known ++ here ∷ [] in
      let all = frugal_from types more bs in
      let first : i ≡ length known = omega (arith, place) in
      let kept : slice_index_or all (length known) false ≡ slice_index_or more (length known) false =
      from_keeps more bs (length known) (omega (arith, append_length known here)) in
      let frugal : here ≡ true = sym (kept ∙ append_last known here) ∙ ap (λ (j : ℕ). slice_index_or all j false) (sym first) ∙ told in
      let same : c ≡ b = cc at in
      subst (λ (d : BodyForm). is_frugal_body (called_by types all (length d.formals)) d ≡ true) same
      (body_more (called_by types known (length c.formals)) (called_by types all (length c.formals)) refl refl refl refl (λ j h. from_more more bs j (append_more known (here ∷ []) j h))
      (λ h. h) (omega arith) c frugal)
  from_at known (c ∷ bs) (suc n) i b place at told =
      let here = is_frugal_body (called_by types known (length c.formals)) c in
      from_at (known ++ here ∷ []) bs n i b (omega (arith, place, append_length known here)) at told

-- A procedure that is told to be frugal has a frugal body, as it is called.
pub frugal_called : (p : ProgramForm) (number : ℕ) (b : BodyForm) → slice_index_or (frugal_procedures p) number false ≡ true
    → slice_get p.bodies number ≡ Some b → is_frugal_body (called_by p.types (frugal_procedures p) (length b.formals)) b ≡ true
frugal_called p number b told there = from_at p.types [] p.bodies number number b (omega arith) there told

-- What all bodies go by, those that are called and those of operations, whatever formal parameters they have.
abbrev pub thrift_at : ProgramForm → Thrift
thrift_at p = record (thrift_of p) { formals = 0 }

-- So what is frugal as an operation is frugal,
pub operation_more : (p : ProgramForm) (b : BodyForm) → is_frugal_body (thrift_of p) b ≡ true → is_frugal_body (thrift_at p) b ≡ true
operation_more p b frugal = body_more (thrift_of p) (thrift_at p) refl refl refl refl (λ n h. h) (λ h. refl) (omega arith) b frugal

-- and a procedure that is told to be frugal has such a body.
pub frugal_at : (p : ProgramForm) (number : ℕ) (b : BodyForm) → slice_index_or (frugal_procedures p) number false ≡ true
    → slice_get p.bodies number ≡ Some b → is_frugal_body (thrift_at p) b ≡ true
frugal_at p number b told there =
    body_more (called_by p.types (frugal_procedures p) (length b.formals)) (thrift_at p) refl refl refl refl (λ n h. h) (λ h. refl) (omega arith) b
    (frugal_called p number b told there)

-- What is told of each element is so of the one of a number.
told_at : {A : Type 0} (test : A → Bool) (xs : List A) (n : ℕ) (x : A) → slice_index_or (map test xs) n false ≡ true → slice_get xs n ≡ Some x → test x ≡ true
told_at test [] n x told there = absurd (cc there)
told_at test (y ∷ xs) zero x told there = let same : y ≡ x = cc there in subst (λ z. test z ≡ true) same told
told_at test (y ∷ xs) (suc n) x told there = told_at test xs n x told there

-- A procedure that is told to be frugal as an operation has a body that is so.
pub operation_at : (p : ProgramForm) (number : ℕ) (b : BodyForm) → slice_index_or (frugal_operations p) number false ≡ true
    → slice_get p.bodies number ≡ Some b → is_frugal_body (thrift_of p) b ≡ true
operation_at p number b told there = told_at (is_frugal_body (thrift_of p)) p.bodies number b told there

-- Two tests are alike where each one holds if the other one does.
alike : (a b : Bool) → (a ≡ true → b ≡ true) → (b ≡ true → a ≡ true) → a ≡ b
alike true b there back = sym (there refl)
alike false true there back = back refl
alike false false there back = refl

-- So it is by what is known, where the same is.
pub thrift_alike :
    (one other : Thrift) → one.types ≡ other.types → one.unadjusted ≡ other.unadjusted → one.unfinalized ≡ other.unfinalized → one.untracked ≡ other.untracked
    → one.procedures ≡ other.procedures → one.operation ≡ other.operation → one.formals ≡ other.formals → (b : BodyForm)
    → is_frugal_body one b ≡ is_frugal_body other b
thrift_alike one other types unadjusted unfinalized untracked procedures operation formals b =
    alike (is_frugal_body one b) (is_frugal_body other b)
    (body_more one other types unadjusted unfinalized untracked (λ n h. ap (λ (known : List Bool). slice_index_or known n false) (sym procedures) ∙ h)
    (λ h. sym operation ∙ h) (omega (arith, formals)) b)
    (body_more other one (sym types) (sym unadjusted) (sym unfinalized) (sym untracked) (λ n h. ap (λ (known : List Bool). slice_index_or known n false) procedures ∙ h)
    (λ h. operation ∙ h) (omega (arith, formals)) b)

-- Tests that tell the same tell the same of each element.
pub tests_alike : {A : Type 0} (one other : A → Bool) → ((x : A) → one x ≡ other x) → (xs : List A) → map one xs ≡ map other xs
tests_alike one other same [] = refl
tests_alike one other same (x ∷ xs) =
    ap (λ (b : Bool). b ∷ map one xs) (same x) ∙ ap (λ (bs : List Bool). other x ∷ bs) (tests_alike one other same xs)
