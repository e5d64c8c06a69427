-- What nests in the text of a program stays so where none of some access types is open, where the text names these only inside what creates their collections.

use Rattle.std.proofs.Common.{◌≡◌, ℕ, zero, suc, ◌==◌, ◌&&◌, ◌||◌, not, Bool, true, false, List, [], ◌∷◌, ◌++◌, Option, Some, None, append-nil, refl, subst}
use Rattle.std.specs.List.{list_all, slice_get, slice_index_or}
use Rattle.std.proofs.lemmas.Bool.{and_from, and_parts}
use Rattle.ada_program.specs.declared.program.ComponentKind.{ComponentKind}
use Rattle.ada_program.specs.declared.program.ComponentKind.TheVariants as component
use Rattle.ada_program.specs.Form.{DeclarationForm, StmtForm, skips, assigns, assigns_record, frees, gets, writes, writes_text, chooses, repeats, counts, exits, calls, returns, raises, encloses, StmtsForm, no_stmts, a_stmt, BranchesForm, otherwise, a_branch, HandlersForm, no_handlers, a_handler}
use Rattle.ada_program.specs.Nested.{Callees, call_nests, collected, record_objects, is_one_of, kind_is_open, are_open, collection_nests, record_nests, part_nests, statement_nests, statements_nest, branches_nest, handlers_nest, body_nests, callees_from}
use Rattle.ada_program.specs.ProgramForm.{TypeForm, BodyForm}
use Rattle.ada_program.specs.WellFormed.{reached_components}
use Rattle.ada_still.specs.Text.{kind_stays, kinds_stay, type_stays, part_stays, stmt_stays, stmts_stay, branches_stay, handlers_stay, body_stays, staying_from}

-- Where some types are open, others are instead: all other types that were, those inside, and none of these that may be created if it was not.
pub record Turns (own collects : ℕ → Bool) (inside us vs : List ℕ) : Type 0 where
  pub other : (t : ℕ) → own t ≡ false → is_one_of us t ≡ true → is_one_of vs t ≡ true
  pub within : (t : ℕ) → is_one_of inside t ≡ true → is_one_of vs t ≡ true
  pub back : (t : ℕ) → collects t ≡ true → is_one_of vs t ≡ true → is_one_of us t ≡ true

or_so : (b c d : Bool) → (c ≡ true → d ≡ true) → (b || c) ≡ true → (b || d) ≡ true
or_so true c d so is = refl
or_so false c d so is = so is

pub more_one : (ws us vs : List ℕ) (t : ℕ) → (is_one_of us t ≡ true → is_one_of vs t ≡ true) → is_one_of (ws ++ us) t ≡ true → is_one_of (ws ++ vs) t ≡ true
more_one [] us vs t so is = so is
more_one (w ∷ ws) us vs t so is = or_so (w == t) (is_one_of (ws ++ us) t) (is_one_of (ws ++ vs) t) (more_one ws us vs t so) is

module _ (own collects : ℕ → Bool) where
  turns_under : (ws inside us vs : List ℕ) → Turns own collects inside us vs → Turns own collects (ws ++ inside) (ws ++ us) (ws ++ vs)
  turns_under ws inside us vs turns = record {
    other = λ t is. more_one ws us vs t (turns.other t is);
    within = λ t. more_one ws inside vs t (turns.within t);
    back = λ t may. more_one ws vs us t (turns.back t may);
  }

  turns_called : (inside us vs : List ℕ) → Turns own collects inside us vs → Turns own collects [] us vs
  turns_called inside us vs turns = record { other = turns.other; within = λ t is. absurd (cc is); back = turns.back }

  module _ (types : List TypeForm) where
    -- What the components of objects name is open.
    kind_turns : (inside us vs : List ℕ) (kind : ComponentKind) → Turns own collects inside us vs → kind_stays own inside kind ≡ true → kind_is_open us kind ≡ true → kind_is_open vs kind ≡ true
    kind_turns inside us vs (component.Integer initial) turns stays opens = refl
    kind_turns inside us vs (component.Boolean initial) turns stays opens = refl
    kind_turns inside us vs (component.Access access) turns stays opens = by (own access.0) refl stays
      where
        by : (b : Bool) → own access.0 ≡ b → (not b || is_one_of inside access.0) ≡ true → is_one_of vs access.0 ≡ true
        by true is stays = turns.within access.0 stays
        by false is stays = turns.other access.0 is opens

    kinds_turn : (inside us vs : List ℕ) (kinds : List ComponentKind) → Turns own collects inside us vs → list_all (kind_stays own inside) kinds ≡ true
        → list_all (kind_is_open us) kinds ≡ true → list_all (kind_is_open vs) kinds ≡ true
    kinds_turn inside us vs [] turns stay opens = refl
    kinds_turn inside us vs (kind ∷ kinds) turns stay opens =
        let two = and_parts (kind_stays own inside kind) (list_all (kind_stays own inside) kinds) stay in
        let both = and_parts (kind_is_open us kind) (list_all (kind_is_open us) kinds) opens in
        and_from (kind_is_open vs kind) (list_all (kind_is_open vs) kinds) (kind_turns inside us vs kind turns two.0 both.0) (kinds_turn inside us vs kinds turns two.1 both.1)

    pub found_turns : (inside us vs : List ℕ) (found : Option (List ComponentKind)) → Turns own collects inside us vs → kinds_stay own inside found ≡ true → are_open us found ≡ true → are_open vs found ≡ true
    found_turns inside us vs None turns stay opens = refl
    found_turns inside us vs (Some kinds) turns stay opens = kinds_turn inside us vs kinds turns stay opens

    -- So collections and record objects nest.
    not_turns : (inside us vs : List ℕ) (t : ℕ) → Turns own collects inside us vs → collects t ≡ true → not (is_one_of us t) ≡ true → not (is_one_of vs t) ≡ true
    not_turns inside us vs t turns may none = by (is_one_of vs t) refl
      where
        by : (b : Bool) → is_one_of vs t ≡ b → not b ≡ true
        by true is = let was = turns.back t may is in absurd (cc (none, was))
        by false is = refl

    module _ (ws inside us vs : List ℕ) (turns : Turns own collects inside us vs) where
      collection_turns : (t : ℕ) → collects t ≡ true → type_stays types own (ws ++ inside) t ≡ true → collection_nests types us (ws ++ us) t ≡ true → collection_nests types vs (ws ++ vs) t ≡ true
      collection_turns t may stays nests =
          let both = and_parts (not (is_one_of us t)) (are_open (ws ++ us) (reached_components types t)) nests in
          and_from (not (is_one_of vs t)) (are_open (ws ++ vs) (reached_components types t)) (not_turns inside us vs t turns may both.0)
          (found_turns (ws ++ inside) (ws ++ us) (ws ++ vs) (reached_components types t) (turns_under ws inside us vs turns) stays both.1)

      collections_turn : (ts : List ℕ) → list_all collects ts ≡ true → list_all (type_stays types own (ws ++ inside)) ts ≡ true → list_all (collection_nests types us (ws ++ us)) ts ≡ true
          → list_all (collection_nests types vs (ws ++ vs)) ts ≡ true
      collections_turn [] may stay nest = refl
      collections_turn (t ∷ ts) may stay nest =
          let mays = and_parts (collects t) (list_all collects ts) may in
          let stays = and_parts (type_stays types own (ws ++ inside) t) (list_all (type_stays types own (ws ++ inside)) ts) stay in
          let nests = and_parts (collection_nests types us (ws ++ us) t) (list_all (collection_nests types us (ws ++ us)) ts) nest in
          and_from (collection_nests types vs (ws ++ vs) t) (list_all (collection_nests types vs (ws ++ vs)) ts) (collection_turns t mays.0 stays.0 nests.0)
          (collections_turn ts mays.1 stays.1 nests.1)

      records_turn : (ts : List ℕ) → list_all (type_stays types own (ws ++ inside)) ts ≡ true → list_all (record_nests types (ws ++ us)) ts ≡ true → list_all (record_nests types (ws ++ vs)) ts ≡ true
      records_turn [] stay nest = refl
      records_turn (t ∷ ts) stay nest =
          let stays = and_parts (type_stays types own (ws ++ inside) t) (list_all (type_stays types own (ws ++ inside)) ts) stay in
          let nests = and_parts (record_nests types (ws ++ us) t) (list_all (record_nests types (ws ++ us)) ts) nest in
          and_from (record_nests types (ws ++ vs) t) (list_all (record_nests types (ws ++ vs)) ts)
          (found_turns (ws ++ inside) (ws ++ us) (ws ++ vs) (reached_components types t) (turns_under ws inside us vs turns) stays.0 nests.0) (records_turn ts stays.1 nests.1)

    part_turns : (inside us vs : List ℕ) (ds : List DeclarationForm) → Turns own collects inside us vs → part_stays types own collects inside ds ≡ true → part_nests types us ds ≡ true → part_nests types vs ds ≡ true
    part_turns inside us vs ds turns stays nests =
        let ws = collected ds in
        let three = and_parts (list_all collects ws && list_all (type_stays types own (ws ++ inside)) ws) (list_all (type_stays types own (ws ++ inside)) (record_objects ds)) stays in
        let two = and_parts (list_all collects ws) (list_all (type_stays types own (ws ++ inside)) ws) three.0 in
        let both = and_parts (list_all (collection_nests types us (ws ++ us)) ws) (list_all (record_nests types (ws ++ us)) (record_objects ds)) nests in
        and_from (list_all (collection_nests types vs (ws ++ vs)) ws) (list_all (record_nests types (ws ++ vs)) (record_objects ds))
        (collections_turn ws inside us vs turns ws two.0 two.1 both.0) (records_turn ws inside us vs turns (record_objects ds) three.1 both.1)

    -- What calls create nests there, too, where these procedures' bodies stay so.
    abbrev CallTurns : ((around : List ℕ) → Bool) → Type 0
    CallTurns nests = (us vs : List ℕ) → Turns own collects [] us vs → nests us ≡ true → nests vs ≡ true

    module _ (may_call : ℕ → Bool) (callees : Callees) (calls_turn : (procedure : ℕ) → may_call procedure ≡ true → CallTurns (call_nests (slice_get callees procedure))) where
      mutual
        stmt_turns : (inside us vs : List ℕ) (f : StmtForm) → Turns own collects inside us vs → stmt_stays types own collects may_call inside f ≡ true → statement_nests types callees us f ≡ true → statement_nests types callees vs f ≡ true
        stmt_turns inside us vs skips turns stays nests = refl
        stmt_turns inside us vs (assigns target right) turns stays nests = refl
        stmt_turns inside us vs (assigns_record target items) turns stays nests = refl
        stmt_turns inside us vs (frees access path) turns stays nests = refl
        stmt_turns inside us vs (gets target) turns stays nests = refl
        stmt_turns inside us vs (writes e) turns stays nests = refl
        stmt_turns inside us vs (writes_text text) turns stays nests = refl
        stmt_turns inside us vs (chooses branches) turns stays nests = branches_turn inside us vs branches turns stays nests
        stmt_turns inside us vs (repeats condition fs spot) turns stays nests = stmts_turn inside us vs fs turns stays nests
        stmt_turns inside us vs (counts x low high fs spot) turns stays nests = stmts_turn inside us vs fs turns stays nests
        stmt_turns inside us vs (exits condition spot) turns stays nests = refl
        stmt_turns inside us vs (calls procedure actuals) turns stays nests = calls_turn procedure stays us vs (turns_called inside us vs turns) nests
        stmt_turns inside us vs (returns spot) turns stays nests = refl
        stmt_turns inside us vs (raises e) turns stays nests = refl
        stmt_turns inside us vs (encloses ds fs hs) turns stays nests =
            let ws = collected ds in
            let all = and_parts (part_stays types own collects inside ds && stmts_stay types own collects may_call (ws ++ inside) fs) (handlers_stay types own collects may_call (ws ++ inside) hs) stays in
            let two = and_parts (part_stays types own collects inside ds) (stmts_stay types own collects may_call (ws ++ inside) fs) all.0 in
            let so = and_parts (part_nests types us ds && statements_nest types callees (ws ++ us) fs) (handlers_nest types callees (ws ++ us) hs) nests in
            let both = and_parts (part_nests types us ds) (statements_nest types callees (ws ++ us) fs) so.0 in
            let under = turns_under ws inside us vs turns in
            and_from (part_nests types vs ds && statements_nest types callees (ws ++ vs) fs) (handlers_nest types callees (ws ++ vs) hs)
            (and_from (part_nests types vs ds) (statements_nest types callees (ws ++ vs) fs) (part_turns inside us vs ds turns two.0 both.0)
            (stmts_turn (ws ++ inside) (ws ++ us) (ws ++ vs) fs under two.1 both.1)) (handlers_turn (ws ++ inside) (ws ++ us) (ws ++ vs) hs under all.1 so.1)

        stmts_turn : (inside us vs : List ℕ) (fs : StmtsForm) → Turns own collects inside us vs → stmts_stay types own collects may_call inside fs ≡ true → statements_nest types callees us fs ≡ true → statements_nest types callees vs fs ≡ true
        stmts_turn inside us vs no_stmts turns stays nests = refl
        stmts_turn inside us vs (a_stmt f fs) turns stays nests =
            let two = and_parts (stmt_stays types own collects may_call inside f) (stmts_stay types own collects may_call inside fs) stays in
            let both = and_parts (statement_nests types callees us f) (statements_nest types callees us fs) nests in
            and_from (statement_nests types callees vs f) (statements_nest types callees vs fs) (stmt_turns inside us vs f turns two.0 both.0) (stmts_turn inside us vs fs turns two.1 both.1)

        branches_turn : (inside us vs : List ℕ) (branches : BranchesForm) → Turns own collects inside us vs → branches_stay types own collects may_call inside branches ≡ true → branches_nest types callees us branches ≡ true → branches_nest types callees vs branches ≡ true
        branches_turn inside us vs (otherwise fs) turns stays nests = stmts_turn inside us vs fs turns stays nests
        branches_turn inside us vs (a_branch e fs branches) turns stays nests =
            let two = and_parts (stmts_stay types own collects may_call inside fs) (branches_stay types own collects may_call inside branches) stays in
            let both = and_parts (statements_nest types callees us fs) (branches_nest types callees us branches) nests in
            and_from (statements_nest types callees vs fs) (branches_nest types callees vs branches) (stmts_turn inside us vs fs turns two.0 both.0) (branches_turn inside us vs branches turns two.1 both.1)

        handlers_turn : (inside us vs : List ℕ) (hs : HandlersForm) → Turns own collects inside us vs → handlers_stay types own collects may_call inside hs ≡ true → handlers_nest types callees us hs ≡ true → handlers_nest types callees vs hs ≡ true
        handlers_turn inside us vs no_handlers turns stays nests = refl
        handlers_turn inside us vs (a_handler choices fs hs) turns stays nests =
            let two = and_parts (stmts_stay types own collects may_call inside fs) (handlers_stay types own collects may_call inside hs) stays in
            let both = and_parts (statements_nest types callees us fs) (handlers_nest types callees us hs) nests in
            and_from (statements_nest types callees vs fs) (handlers_nest types callees vs hs) (stmts_turn inside us vs fs turns two.0 both.0) (handlers_turn inside us vs hs turns two.1 both.1)

      body_turns : (b : BodyForm) → body_stays types own collects may_call b ≡ true → CallTurns (body_nests types callees b)
      body_turns b stays us vs turns nests =
          let ws = collected b.declarations in
          let all = and_parts (part_stays types own collects [] b.declarations && stmts_stay types own collects may_call ws b.statements) (handlers_stay types own collects may_call ws b.handlers) stays in
          let two = and_parts (part_stays types own collects [] b.declarations) (stmts_stay types own collects may_call ws b.statements) all.0 in
          let so = and_parts (part_nests types us b.declarations && statements_nest types callees (ws ++ us) b.statements) (handlers_nest types callees (ws ++ us) b.handlers) nests in
          let both = and_parts (part_nests types us b.declarations) (statements_nest types callees (ws ++ us) b.statements) so.0 in
          let under : Turns own collects ws (ws ++ us) (ws ++ vs) = subst (λ (inside : List ℕ). Turns own collects inside (ws ++ us) (ws ++ vs)) (append-nil ws) (turns_under ws [] us vs turns) in
          and_from (part_nests types vs b.declarations && statements_nest types callees (ws ++ vs) b.statements) (handlers_nest types callees (ws ++ vs) b.handlers)
          (and_from (part_nests types vs b.declarations) (statements_nest types callees (ws ++ vs) b.statements) (part_turns [] us vs b.declarations turns two.0 both.0)
          (stmts_turn ws (ws ++ us) (ws ++ vs) b.statements under two.1 both.1)) (handlers_turn ws (ws ++ us) (ws ++ vs) b.handlers under all.1 so.1)

    -- Of each procedure one knows both, by its number.
    abbrev InStep : List Bool → Callees → Type 0
    InStep [] [] = Unit {0}
    InStep [] (n ∷ ns) = ⊥
    InStep (m ∷ ms) [] = ⊥
    InStep (m ∷ ms) (n ∷ ns) = (m ≡ true → CallTurns n) × InStep ms ns

    step_turns : (marks : List Bool) (nests : Callees) → InStep marks nests → (number : ℕ) → slice_index_or marks number false ≡ true → CallTurns (call_nests (slice_get nests number))
    step_turns [] [] step number is = absurd (cc is)
    step_turns [] (n ∷ ns) step number is = absurd step
    step_turns (m ∷ ms) [] step number is = absurd step
    step_turns (m ∷ ms) (n ∷ ns) step zero is = step.0 is
    step_turns (m ∷ ms) (n ∷ ns) step (suc number) is = step_turns ms ns step.1 number is

    pub all_turn : (marks : List Bool) (nests : Callees) → InStep marks nests → list_all (λ stays. stays) marks ≡ true → (number : ℕ) → CallTurns (call_nests (slice_get nests number))
    all_turn [] [] step all number us vs turns is = absurd (cc is)
    all_turn [] (n ∷ ns) step all number us vs turns is = absurd step
    all_turn (m ∷ ms) [] step all number us vs turns is = absurd step
    all_turn (m ∷ ms) (n ∷ ns) step all zero us vs turns is = step.0 (and_parts m (list_all (λ stays. stays) ms) all).0 us vs turns is
    all_turn (m ∷ ms) (n ∷ ns) step all (suc number) us vs turns is = all_turn ms ns step.1 (and_parts m (list_all (λ stays. stays) ms) all).1 number us vs turns is

    one_more : (marks : List Bool) (nests : Callees) (mark : Bool) (nest : (around : List ℕ) → Bool) → InStep marks nests → (mark ≡ true → CallTurns nest)
        → InStep (marks ++ mark ∷ []) (nests ++ nest ∷ [])
    one_more [] [] mark nest step more = (more, tt)
    one_more [] (n ∷ ns) mark nest step more = absurd step
    one_more (m ∷ ms) [] mark nest step more = absurd step
    one_more (m ∷ ms) (n ∷ ns) mark nest step more = (step.0, one_more ms ns mark nest step.1 more)

    pub all_step : (bodies : List BodyForm) (marks : List Bool) (nests : Callees) → InStep marks nests → InStep (staying_from types own collects marks bodies) (callees_from types nests bodies)
    all_step [] marks nests step = step
    all_step (b ∷ bodies) marks nests step =
        let may_call = λ (procedure : ℕ). slice_index_or marks procedure false in
        let mark = body_stays types own collects may_call b in
        all_step bodies (marks ++ mark ∷ []) (nests ++ body_nests types nests b ∷ [])
        (one_more marks nests mark (body_nests types nests b) step (body_turns may_call nests (step_turns marks nests step) b))
