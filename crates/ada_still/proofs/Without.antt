-- What nests where some access types are open nests where those of their own are not, if the text declares none of these and creates none of their objects.

use Rattle.std.proofs.Common.{◌≡◌, ℕ, ◌+◌, ◌≤◌, ◌==◌, ◌&&◌, not, Bool, true, false, List, [], ◌∷◌, ◌++◌, Option, Some, None, arith, refl, ◌∙◌}
use Rattle.std.specs.List.{slice_get, list_all}
use Rattle.std.proofs.lemmas.Bool.{and_from, and_parts, eqb-true}
use Rattle.ada_program.specs.declared.program.ComponentKind.{ComponentKind}
use Rattle.ada_program.specs.declared.program.ComponentKind.TheVariants as component
use Rattle.ada_program.specs.Form.{DeclarationForm, creates_pool, collects, declares, declares_record, StmtForm, skips, assigns, assigns_record, frees, gets, writes, writes_text, chooses, repeats, counts, exits, calls, returns, raises, encloses, StmtsForm, no_stmts, a_stmt, BranchesForm, otherwise, a_branch, HandlersForm, no_handlers, a_handler}
use Rattle.ada_program.specs.Nested.{Callees, call_nests, collected, is_one_of, kind_is_open, are_open}
use Rattle.ada_program.specs.ProgramForm.{TypeForm}
use Rattle.ada_program.specs.WellFormed.{reached_components}
use Rattle.ada_scopes.proofs.Counts.{one, times, times_append, times_of, times_none, of_times}
use Rattle.ada_scopes.proofs.Texts.{RecordsNest, PartNests, StatementNests, StatementsNest, BranchesNest, HandlersNest}
use Rattle.ada_still.specs.Still.{right_keeps, declarations_keep, stmt_keeps, stmts_keep, branches_keep, handlers_keep, bounds_without}
use Rattle.ada_still.specs.Beside.{IsWithout, is_other_kind, are_other_kinds}
use Rattle.ada_still.proofs.Sits.{not_true}

-- The others of some access types stand there as often, and those of their own do not.
pub record Others (own : ℕ → Bool) (all others : List ℕ) : Type 0 where
  pub other : (t : ℕ) → own t ≡ false → times t others ≡ times t all
  pub mine : (t : ℕ) → own t ≡ true → times t others ≡ 0

-- The list of the others.
abbrev pub and_other : Bool → ℕ → List ℕ → List ℕ
and_other true t us = us
and_other false t us = t ∷ us

abbrev pub without : (own : ℕ → Bool) → List ℕ → List ℕ
without own [] = []
without own (u ∷ us) = and_other (own u) u (without own us)

module _ (own : ℕ → Bool) where
  one_other : (t u : ℕ) (mine : Bool) (us : List ℕ) → own u ≡ mine → own t ≡ false → times t (and_other mine u us) ≡ one (u == t) + times t us
  one_other t u true us is other = by (u == t) refl
    where
      by : (same : Bool) → (u == t) ≡ same → times t us ≡ one same + times t us
      by true same = let e = eqb-true u t same in absurd (cc (is, other, e))
      by false same = omega arith
  one_other t u false us is other = refl

  one_mine : (t u : ℕ) (mine : Bool) (us : List ℕ) → own u ≡ mine → own t ≡ true → times t us ≡ 0 → times t (and_other mine u us) ≡ 0
  one_mine t u true us is mine none = none
  one_mine t u false us is mine none = by (u == t) refl
    where
      by : (same : Bool) → (u == t) ≡ same → one same + times t us ≡ 0
      by true same = let e = eqb-true u t same in absurd (cc (is, mine, e))
      by false same = omega (arith, none)

  pub others_without : (us : List ℕ) → Others own us (without own us)
  others_without us = record { other = other us; mine = mine us }
    where
      other : (vs : List ℕ) (t : ℕ) → own t ≡ false → times t (without own vs) ≡ times t vs
      other [] t is = refl
      other (v ∷ vs) t is = let rest = other vs t is in let first = one_other t v (own v) (without own vs) refl is in omega (arith, rest, first)

      mine : (vs : List ℕ) (t : ℕ) → own t ≡ true → times t (without own vs) ≡ 0
      mine [] t is = refl
      mine (v ∷ vs) t is = one_mine t v (own v) (without own vs) refl is (mine vs t is)

  -- They stand there no more often.
  pub others_fewer : (us vs : List ℕ) → Others own us vs → (t : ℕ) → times t vs ≤ times t us
  others_fewer us vs others t = by (own t) refl
    where
      by : (b : Bool) → own t ≡ b → times t vs ≤ times t us
      by true is = let none = others.mine t is in omega (arith, none)
      by false is = let same = others.other t is in omega (arith, same)

  others_one : (us vs : List ℕ) (t : ℕ) → times t vs ≡ times t us → is_one_of vs t ≡ is_one_of us t
  others_one us vs t same = by (is_one_of us t) (is_one_of vs t) refl refl
    where
      by : (b c : Bool) → is_one_of us t ≡ b → is_one_of vs t ≡ c → c ≡ b
      by true true is at = refl
      by true false is at = let some = times_of us t is in let none = times_none vs t at in absurd (omega (arith, some, none, same))
      by false true is at = let none = times_none us t is in let some = times_of vs t at in absurd (omega (arith, some, none, same))
      by false false is at = refl

  pub others_none : (vs : List ℕ) (t : ℕ) → times t vs ≡ 0 → is_one_of vs t ≡ false
  others_none vs t none = by (is_one_of vs t) refl
    where
      by : (c : Bool) → is_one_of vs t ≡ c → c ≡ false
      by true at = let some = times_of vs t at in absurd (omega (arith, some, none))
      by false at = refl

  and_not : (b c : Bool) → c ≡ false → b ≡ (b && not c)
  and_not true c is = rw is refl
  and_not false c is = refl

  and_so : (b c : Bool) → c ≡ true → false ≡ (b && not c)
  and_so true c is = rw is refl
  and_so false c is = refl

  pub is_without : (us vs : List ℕ) → Others own us vs → IsWithout own us vs
  is_without us vs others t = by (own t) refl
    where
      by : (b : Bool) → own t ≡ b → is_one_of vs t ≡ (is_one_of us t && not (own t))
      by true is = others_none vs t (others.mine t is) ∙ and_so (is_one_of us t) (own t) is
      by false is = others_one us vs t (others.other t is) ∙ and_not (is_one_of us t) (own t) is

  -- What the components of other objects name is open still.
  kind_without : (us vs : List ℕ) (kind : ComponentKind) → Others own us vs → is_other_kind own kind ≡ true → kind_is_open us kind ≡ true → kind_is_open vs kind ≡ true
  kind_without us vs (component.Integer initial) others is opens = refl
  kind_without us vs (component.Boolean initial) others is opens = refl
  kind_without us vs (component.Access access) others is opens =
      let some = times_of us access.0 opens in
      let same = others.other access.0 (not_true (own access.0) is) in
      of_times vs access.0 (omega (arith, some, same))

  kinds_without : (us vs : List ℕ) (kinds : List ComponentKind) → Others own us vs → list_all (is_other_kind own) kinds ≡ true → list_all (kind_is_open us) kinds ≡ true
      → list_all (kind_is_open vs) kinds ≡ true
  kinds_without us vs [] others is opens = refl
  kinds_without us vs (kind ∷ kinds) others is opens =
      let two = and_parts (is_other_kind own kind) (list_all (is_other_kind own) kinds) is in
      let both = and_parts (kind_is_open us kind) (list_all (kind_is_open us) kinds) opens in
      and_from (kind_is_open vs kind) (list_all (kind_is_open vs) kinds) (kind_without us vs kind others two.0 both.0) (kinds_without us vs kinds others two.1 both.1)

  pub open_without : (us vs : List ℕ) (found : Option (List ComponentKind)) → Others own us vs → are_other_kinds own found ≡ true → are_open us found ≡ true → are_open vs found ≡ true
  open_without us vs None others is opens = refl
  open_without us vs (Some kinds) others is opens = kinds_without us vs kinds others is opens

  -- What such declarations collect is of other types.
  pub collected_other : (ds : List DeclarationForm) → declarations_keep (bounds_without own) ds ≡ true → (t : ℕ) → own t ≡ true → times t (collected ds) ≡ 0
  collected_other [] keeps t mine = refl
  collected_other (creates_pool p ∷ ds) keeps t mine = collected_other ds keeps t mine
  collected_other (declares x right ∷ ds) keeps t mine =
      collected_other ds (and_parts (right_keeps (bounds_without own) right) (declarations_keep (bounds_without own) ds) keeps).1 t mine
  collected_other (declares_record x u initial ∷ ds) keeps t mine = collected_other ds (and_parts (not (own u)) (declarations_keep (bounds_without own) ds) keeps).1 t mine
  collected_other (collects access ∷ ds) keeps t mine =
      let both = and_parts (not (own access)) (declarations_keep (bounds_without own) ds) keeps in
      by (access == t) refl (not_true (own access) both.0) (collected_other ds both.1 t mine)
    where
      by : (same : Bool) → (access == t) ≡ same → own access ≡ false → times t (collected ds) ≡ 0 → one same + times t (collected ds) ≡ 0
      by true same other none = let e = eqb-true access t same in absurd (cc (other, mine, e))
      by false same other none = omega (arith, none)

  pub others_under : (ws us vs : List ℕ) → ((t : ℕ) → own t ≡ true → times t ws ≡ 0) → Others own us vs → Others own (ws ++ us) (ws ++ vs)
  others_under ws us vs apart others = record {
    other = λ t is. let same = others.other t is in let one = times_append t ws us in let two = times_append t ws vs in omega (arith, same, one, two);
    mine = λ t is. let none = others.mine t is in let away = apart t is in let two = times_append t ws vs in omega (arith, none, away, two);
  }

-- Texts (5.1).
module _ (types : List TypeForm) (callees : Callees) (own : ℕ → Bool) (other_kinds : (t : ℕ) → own t ≡ false → are_other_kinds own (reached_components types t) ≡ true)
    (call_without : (procedure : ℕ) (all others : List ℕ) → IsWithout own all others → call_nests (slice_get callees procedure) all ≡ true → call_nests (slice_get callees procedure) others ≡ true) where
  pub records_without : (us vs : List ℕ) (ds : List DeclarationForm) → Others own us vs → declarations_keep (bounds_without own) ds ≡ true → RecordsNest types us ds → RecordsNest types vs ds
  records_without us vs [] others keeps nest = tt
  records_without us vs (creates_pool p ∷ ds) others keeps nest = records_without us vs ds others keeps nest
  records_without us vs (collects access ∷ ds) others keeps nest =
      records_without us vs ds others (and_parts (not (own access)) (declarations_keep (bounds_without own) ds) keeps).1 nest
  records_without us vs (declares x right ∷ ds) others keeps nest =
      records_without us vs ds others (and_parts (right_keeps (bounds_without own) right) (declarations_keep (bounds_without own) ds) keeps).1 nest
  records_without us vs (declares_record x t initial ∷ ds) others keeps nest =
      let both = and_parts (not (own t)) (declarations_keep (bounds_without own) ds) keeps in
      (nest.0, open_without own us vs (reached_components types t) others (other_kinds t (not_true (own t) both.0)) nest.1, records_without us vs ds others both.1 nest.2)

  pub part_without : (us vs : List ℕ) (ds : List DeclarationForm) → Others own us vs → declarations_keep (bounds_without own) ds ≡ true → PartNests types us ds → PartNests types vs ds
  part_without us vs ds others keeps nest =
      let apart = collected_other own ds keeps in
      let under = others_under own (collected ds) us vs apart others in
      record {
        first = nest.first;
        once = nest.once;
        away = λ t some. let away = nest.away t some in let fewer = others_fewer own us vs others t in omega (arith, away, fewer);
        needs = λ t some. open_without own (collected ds ++ us) (collected ds ++ vs) (reached_components types t) under (other_kinds t (other_by t (own t) refl (apart t) some)) (nest.needs t some);
        accesses = nest.accesses;
        records = records_without (collected ds ++ us) (collected ds ++ vs) ds under keeps nest.records;
      }
    where
      other_by : (t : ℕ) (b : Bool) → own t ≡ b → (own t ≡ true → times t (collected ds) ≡ 0) → 1 ≤ times t (collected ds) → own t ≡ false
      other_by t true is apart some = let none = apart is in absurd (omega (arith, none, some))
      other_by t false is apart some = is

  mutual
    statement_without : (us vs : List ℕ) (f : StmtForm) → Others own us vs → stmt_keeps (bounds_without own) f ≡ true → StatementNests types callees us f → StatementNests types callees vs f
    statement_without us vs skips others keeps nest = tt
    statement_without us vs (assigns target right) others keeps nest = tt
    statement_without us vs (assigns_record target items) others keeps nest = tt
    statement_without us vs (frees access path) others keeps nest = tt
    statement_without us vs (gets target) others keeps nest = tt
    statement_without us vs (writes e) others keeps nest = tt
    statement_without us vs (writes_text text) others keeps nest = tt
    statement_without us vs (chooses branches) others keeps nest = branches_without us vs branches others keeps nest
    statement_without us vs (repeats condition fs spot) others keeps nest = statements_without us vs fs others keeps nest
    statement_without us vs (counts x low high fs spot) others keeps nest = statements_without us vs fs others keeps nest
    statement_without us vs (exits condition spot) others keeps nest = tt
    statement_without us vs (calls procedure actuals) others keeps nest = call_without procedure us vs (is_without own us vs others) nest
    statement_without us vs (returns spot) others keeps nest = tt
    statement_without us vs (raises e) others keeps nest = tt
    statement_without us vs (encloses ds fs hs) others keeps nest =
        let outer = and_parts (declarations_keep (bounds_without own) ds && stmts_keep (bounds_without own) fs) (handlers_keep (bounds_without own) hs) keeps in
        let inner = and_parts (declarations_keep (bounds_without own) ds) (stmts_keep (bounds_without own) fs) outer.0 in
        let under = others_under own (collected ds) us vs (collected_other own ds inner.0) others in (
          part_without us vs ds others inner.0 nest.0,
          statements_without (collected ds ++ us) (collected ds ++ vs) fs under inner.1 nest.1,
          handlers_without (collected ds ++ us) (collected ds ++ vs) hs under outer.1 nest.2,
        )

    pub statements_without : (us vs : List ℕ) (fs : StmtsForm) → Others own us vs → stmts_keep (bounds_without own) fs ≡ true → StatementsNest types callees us fs → StatementsNest types callees vs fs
    statements_without us vs no_stmts others keeps nest = tt
    statements_without us vs (a_stmt f fs) others keeps nest =
        let both = and_parts (stmt_keeps (bounds_without own) f) (stmts_keep (bounds_without own) fs) keeps in
        (statement_without us vs f others both.0 nest.0, statements_without us vs fs others both.1 nest.1)

    pub branches_without : (us vs : List ℕ) (branches : BranchesForm) → Others own us vs → branches_keep (bounds_without own) branches ≡ true → BranchesNest types callees us branches → BranchesNest types callees vs branches
    branches_without us vs (otherwise fs) others keeps nest = statements_without us vs fs others keeps nest
    branches_without us vs (a_branch e fs branches) others keeps nest =
        let both = and_parts (stmts_keep (bounds_without own) fs) (branches_keep (bounds_without own) branches) keeps in
        (statements_without us vs fs others both.0 nest.0, branches_without us vs branches others both.1 nest.1)

    pub handlers_without : (us vs : List ℕ) (hs : HandlersForm) → Others own us vs → handlers_keep (bounds_without own) hs ≡ true → HandlersNest types callees us hs → HandlersNest types callees vs hs
    handlers_without us vs no_handlers others keeps nest = tt
    handlers_without us vs (a_handler choices fs hs) others keeps nest =
        let both = and_parts (stmts_keep (bounds_without own) fs) (handlers_keep (bounds_without own) hs) keeps in
        (statements_without us vs fs others both.0 nest.0, handlers_without us vs hs others both.1 nest.1)
