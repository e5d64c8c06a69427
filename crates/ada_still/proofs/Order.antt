-- Procedures that are found still in the order in which they call each other are so: what each may do, it may do where more procedures are known to be still.

use Rattle.std.proofs.Common.{◌≡◌, ℕ, zero, suc, ◌+◌, Bool, true, false, ◌&&◌, List, [], ◌∷◌, ◌++◌, length, Some, refl, sym, ap, ◌∙◌, subst, arith, append-nil}
use Rattle.std.specs.List.{slice_get, slice_index_or}
use Rattle.std.proofs.lemmas.Bool.{and_from, and_parts}
use Rattle.std.proofs.lemmas.List.{append_assoc}
use Rattle.ada_program.specs.declared.program.Program.{Program}
use Rattle.ada_program.specs.Form.{RightForm, nothing, value_of, allocates, allocates_default, computes, StmtForm, skips, assigns, assigns_record, frees, gets, writes, writes_text, chooses, repeats, counts, exits, calls, returns, raises, encloses, StmtsForm, no_stmts, a_stmt, BranchesForm, otherwise, a_branch, HandlersForm, no_handlers, a_handler, DeclarationForm, creates_pool, collects, declares, declares_record}
use Rattle.ada_program.specs.ProgramForm.{TypeForm, BodyForm, program_form}
use Rattle.ada_still.specs.Still.{Bounds, right_keeps, declaration_keeps, declarations_keep, stmt_keeps, stmts_keep, branches_keep, handlers_keep, still_bounds, is_still_body, still_from, is_still, CollectWhereStill, CollectStill}
use Rattle.ada_still.specs.Law.{CollectionsStandStill}
use Rattle.ada_still.proofs.Law.{stand_still}

both : (a b c d : Bool) → (a ≡ true → c ≡ true) → (b ≡ true → d ≡ true) → (a && b) ≡ true → (c && d) ≡ true
both a b c d one other is =
    let parts = and_parts a b is in
    and_from c d (one parts.0) (other parts.1)

module _ (types : List TypeForm) (known more : ℕ → Bool) (grows : (procedure : ℕ) → known procedure ≡ true → more procedure ≡ true) where
  abbrev less : Bounds
  less = still_bounds types known

  abbrev wider : Bounds
  wider = still_bounds types more

  right_wider : (right : RightForm) → right_keeps less right ≡ true → right_keeps wider right ≡ true
  right_wider nothing is = refl
  right_wider (value_of path) is = refl
  right_wider (allocates access items) is = is
  right_wider (allocates_default access) is = is
  right_wider (computes e) is = refl

  declaration_wider : (d : DeclarationForm) → declaration_keeps less d ≡ true → declaration_keeps wider d ≡ true
  declaration_wider (creates_pool p) is = refl
  declaration_wider (collects access) is = is
  declaration_wider (declares x right) is = right_wider right is
  declaration_wider (declares_record x t initial) is = is

  declarations_wider : (ds : List DeclarationForm) → declarations_keep less ds ≡ true → declarations_keep wider ds ≡ true
  declarations_wider [] is = refl
  declarations_wider (d ∷ ds) is =
      both (declaration_keeps less d) (declarations_keep less ds) (declaration_keeps wider d) (declarations_keep wider ds) (declaration_wider d) (declarations_wider ds) is

  mutual
    stmt_wider : (f : StmtForm) → stmt_keeps less f ≡ true → stmt_keeps wider f ≡ true
    stmt_wider skips is = refl
    stmt_wider (assigns target right) is = right_wider right is
    stmt_wider (assigns_record target items) is = is
    stmt_wider (frees access path) is = is
    stmt_wider (gets target) is = refl
    stmt_wider (writes e) is = refl
    stmt_wider (writes_text text) is = refl
    stmt_wider (chooses branches) is = branches_wider branches is
    stmt_wider (repeats condition fs spot) is = stmts_wider fs is
    stmt_wider (counts x low high fs spot) is = stmts_wider fs is
    stmt_wider (exits condition spot) is = refl
    stmt_wider (calls procedure actuals) is = grows procedure is
    stmt_wider (returns spot) is = refl
    stmt_wider (raises e) is = refl
    stmt_wider (encloses ds fs hs) is =
        both (declarations_keep less ds && stmts_keep less fs) (handlers_keep less hs) (declarations_keep wider ds && stmts_keep wider fs) (handlers_keep wider hs)
        (both (declarations_keep less ds) (stmts_keep less fs) (declarations_keep wider ds) (stmts_keep wider fs) (declarations_wider ds) (stmts_wider fs))
        (handlers_wider hs) is

    stmts_wider : (fs : StmtsForm) → stmts_keep less fs ≡ true → stmts_keep wider fs ≡ true
    stmts_wider no_stmts is = refl
    stmts_wider (a_stmt f fs) is = both (stmt_keeps less f) (stmts_keep less fs) (stmt_keeps wider f) (stmts_keep wider fs) (stmt_wider f) (stmts_wider fs) is

    branches_wider : (branches : BranchesForm) → branches_keep less branches ≡ true → branches_keep wider branches ≡ true
    branches_wider (otherwise fs) is = stmts_wider fs is
    branches_wider (a_branch e fs branches) is =
        both (stmts_keep less fs) (branches_keep less branches) (stmts_keep wider fs) (branches_keep wider branches) (stmts_wider fs) (branches_wider branches) is

    handlers_wider : (hs : HandlersForm) → handlers_keep less hs ≡ true → handlers_keep wider hs ≡ true
    handlers_wider no_handlers is = refl
    handlers_wider (a_handler choices fs hs) is =
        both (stmts_keep less fs) (handlers_keep less hs) (stmts_keep wider fs) (handlers_keep wider hs) (stmts_wider fs) (handlers_wider hs) is

  -- A still body is still where more procedures are known to be.
  body_wider : (b : BodyForm) → is_still_body types known b ≡ true → is_still_body types more b ≡ true
  body_wider b is =
      both (declarations_keep less b.declarations && stmts_keep less b.statements) (handlers_keep less b.handlers)
      (declarations_keep wider b.declarations && stmts_keep wider b.statements) (handlers_keep wider b.handlers)
      (both (declarations_keep less b.declarations) (stmts_keep less b.statements) (declarations_keep wider b.declarations) (stmts_keep wider b.statements)
      (declarations_wider b.declarations) (stmts_wider b.statements)) (handlers_wider b.handlers) is

-- What is known of procedures stays, as more is found.
front_stays : (known more : List Bool) (procedure : ℕ) → slice_index_or known procedure false ≡ true → slice_index_or (known ++ more) procedure false ≡ true
front_stays [] more procedure is = absurd (cc is)
front_stays (k ∷ known) more zero is = is
front_stays (k ∷ known) more (suc procedure) is = front_stays known more procedure is

next_found : (known : List Bool) (found : Bool) (more : List Bool) (place : ℕ) → place ≡ length known + 0 → slice_index_or (known ++ found ∷ more) place false ≡ found
next_found [] found more zero at = refl
next_found [] found more (suc place) at = absurd (omega (arith, at))
next_found (k ∷ known) found more zero at = absurd (omega (arith, at))
next_found (k ∷ known) found more (suc place) at = next_found known found more place (omega (arith, at))

length_more : (known : List Bool) (found : Bool) → length (known ++ found ∷ []) ≡ suc (length known)
length_more [] found = refl
length_more (k ∷ known) found = ap suc (length_more known found)

grown : (types : List TypeForm) (known : List Bool) (bs : List BodyForm) → (more : List Bool) × (still_from types known bs ≡ known ++ more)
grown types known [] = ([], sym (append-nil known))
grown types known (b ∷ bs) =
    let found = is_still_body types (λ procedure. slice_index_or known procedure false) b in
    let later = grown types (known ++ found ∷ []) bs in
    (found ∷ later.0, later.1 ∙ append_assoc known (found ∷ []) later.0)

-- Each procedure that is found still is so, where those that are found so are.
found_still : (types : List TypeForm) (known : List Bool) (bs : List BodyForm) (i place : ℕ) (b : BodyForm) → place ≡ length known + i → slice_get bs i ≡ Some b
    → slice_index_or (still_from types known bs) place false ≡ true → is_still_body types (λ procedure. slice_index_or (still_from types known bs) procedure false) b ≡ true
found_still types known [] i place b at there is = absurd (cc there)
found_still types known (c ∷ bs) zero place b at there is =
    let found = is_still_body types (λ procedure. slice_index_or known procedure false) c in
    let later = grown types (known ++ found ∷ []) bs in
    let all : still_from types known (c ∷ bs) ≡ known ++ (found ∷ later.0) = later.1 ∙ append_assoc known (found ∷ []) later.0 in
    let so : found ≡ true = sym (next_found known found later.0 place at) ∙ subst (λ (known_all : List Bool). slice_index_or known_all place false ≡ true) all is in
    let same : c ≡ b = cc there in
    body_wider types (λ procedure. slice_index_or known procedure false) (λ procedure. slice_index_or (still_from types known (c ∷ bs)) procedure false)
    (λ procedure of. subst (λ (known_all : List Bool). slice_index_or known_all procedure false ≡ true) (sym all) (front_stays known (found ∷ later.0) procedure of)) b
    (subst (λ (d : BodyForm). is_still_body types (λ procedure. slice_index_or known procedure false) d ≡ true) same so)
found_still types known (c ∷ bs) (suc i) place b at there is =
    let found = is_still_body types (λ procedure. slice_index_or known procedure false) c in
    let longer = length_more known found in
    found_still types (known ++ found ∷ []) bs i place b (omega (arith, at, longer)) there is

-- So where procedures are found still that declare such types, these are those of still procedures.
pub where_still : (program : Program) (own : ℕ → Bool) → CollectStill own (program_form program) → CollectWhereStill own (λ procedure. is_still (program_form program) procedure) (program_form program)
where_still program own collect = record {
  main = collect.main;
  bodies = collect.bodies;
  keeps = λ procedure b there is. found_still (program_form program).types [] (program_form program).bodies procedure procedure b (omega arith) there is;
}

-- The law for the procedures that are found still.
pub in_order : CollectionsStandStill
in_order program well frees_own own collect =
    stand_still program well frees_own own (λ procedure. is_still (program_form program) procedure) (where_still program own collect)
