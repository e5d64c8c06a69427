-- A body that creates collections of own types alone, and names own types only inside what creates them, nests wherever those of all others are open, and
-- none of these: since each access type has one collection (7.6.1), none is open yet where its own is created.

use Rattle.std.proofs.Common.{◌≡◌, ℕ, zero, suc, ◌+◌, ◌≤◌, ◌==◌, ◌&&◌, not, Bool, true, false, List, [], ◌∷◌, ◌++◌, map, append-nil, arith, refl, subst}
use Rattle.std.specs.Prelude.{None}
use Rattle.std.specs.List.{list_all, slice_get, slice_index_or}
use Rattle.std.proofs.lemmas.Bool.{and_from, and_parts, or_right, eq-eqb}
use Rattle.ada_program.specs.Form.{DeclarationForm, creates_pool, collects, declares, declares_record, StmtForm, skips, assigns, assigns_record, frees, gets, writes, writes_text, chooses, repeats, counts, exits, calls, returns, raises, encloses, StmtsForm, no_stmts, a_stmt, BranchesForm, otherwise, a_branch, HandlersForm, no_handlers, a_handler}
use Rattle.ada_program.specs.Nested.{Callees, call_nests, collected, record_objects, is_one_of, are_open, collection_nests, record_nests, part_nests, statement_nests, statements_nest, branches_nest, handlers_nest, body_nests, callees_from, callees_of}
use Rattle.ada_program.specs.ProgramForm.{TypeForm, BodyForm, ProgramForm}
use Rattle.ada_program.specs.WellFormed.{IsWellFormed, Creation, creation, created_by, created_by_all, created_by_branches, created_by_handlers, created_in, created_in_all, creations, is_access, reached_components}
use Rattle.ada_scopes.proofs.Counts.{times, times_append, times_of, times_none}
use Rattle.ada_scopes.proofs.Lacked.{KindsOpen, kinds_open, lacked, lacked_open, lacked_so}
use Rattle.ada_scopes.proofs.Texts.{makes, all_once}
use Rattle.ada_still.specs.Text.{type_stays, part_stays, stmt_stays, stmts_stay, branches_stay, handlers_stay, body_stays, staying_from, own_accesses, collecting_own}
use Rattle.ada_still.proofs.Turns.{Turns, more_one, found_turns}

makes_append : (t : ℕ) (bs cs : List Creation) → makes t (bs ++ cs) ≡ makes t bs + makes t cs
makes_append t [] cs = omega arith
makes_append t (b ∷ bs) cs = let h = makes_append t bs cs in omega (arith, h)

times_makes : (t : ℕ) (ds : List DeclarationForm) → makes t (map creation ds) ≡ times t (collected ds)
times_makes t [] = refl
times_makes t (creates_pool pool ∷ ds) = let h = times_makes t ds in omega (arith, h)
times_makes t (collects access ∷ ds) = let h = times_makes t ds in omega (arith, h)
times_makes t (declares x right ∷ ds) = let h = times_makes t ds in omega (arith, h)
times_makes t (declares_record x u initial ∷ ds) = let h = times_makes t ds in omega (arith, h)

in_more : (ws us : List ℕ) (t : ℕ) → is_one_of us t ≡ true → is_one_of (ws ++ us) t ≡ true
in_more [] us t is = is
in_more (w ∷ ws) us t is = or_right (w == t) (is_one_of (ws ++ us) t) (in_more ws us t is)

module _ (types : List TypeForm) (own : ℕ → Bool) where
  -- The collections of all others are open, and of those that the text creates around this one; and there is room for what is still to be created.
  pub record Room (inside around : List ℕ) (made : ℕ → ℕ) : Type 0 where
    pub others : (t : ℕ) → is_access types t ≡ true → own t ≡ false → is_one_of around t ≡ true
    pub within : (t : ℕ) → is_one_of inside t ≡ true → is_one_of around t ≡ true
    pub once : (t : ℕ) → own t ≡ true → is_access types t ≡ true → times t around + made t ≤ 1

  less : (inside around : List ℕ) (made fewer : ℕ → ℕ) → Room inside around made → ((t : ℕ) → fewer t ≤ made t) → Room inside around fewer
  less inside around made fewer room le = record {
    others = room.others;
    within = room.within;
    once = λ t mine is. let all = room.once t mine is in let most = le t in omega (arith, all, most);
  }

  called_room : (inside around : List ℕ) (made : ℕ → ℕ) → Room inside around made → Room [] around made
  called_room inside around made room = record { others = room.others; within = λ t is. absurd (cc is); once = room.once }

  under_room : (ds : List DeclarationForm) (inside around : List ℕ) (made rest : ℕ → ℕ) → Room inside around made → ((t : ℕ) → times t (collected ds) + rest t ≤ made t)
      → Room (collected ds ++ inside) (collected ds ++ around) rest
  under_room ds inside around made rest room le = record {
    others = λ t is other. in_more (collected ds) around t (room.others t is other);
    within = λ t. more_one (collected ds) inside around t (room.within t);
    once = λ t mine is.
        let all = room.once t mine is in
        let most = le t in
        let both = times_append t (collected ds) around in
        omega (arith, all, most, both);
  }

  -- What the components of objects name is open.
  all_accesses : List ℕ
  all_accesses = lacked types None [] ++ []

  module _ (kinds : KindsOpen types) where
    room_turns : (inside around : List ℕ) (made : ℕ → ℕ) → Room inside around made → Turns own (λ t. false) inside all_accesses around
    unfolding all_accesses
    room_turns inside around made room = record {
      other = λ t other is.
          let some = times_of (lacked types None [] ++ []) t is in
          let both = times_append t (lacked types None []) [] in
          room.others t ((lacked_so types None [] kinds).known t (omega (arith, some, both))) other;
      within = room.within;
      back = λ t may is. absurd (cc may);
    }

    room_open : (inside around : List ℕ) (made : ℕ → ℕ) (t : ℕ) → Room inside around made → type_stays types own inside t ≡ true → are_open around (reached_components types t) ≡ true
    unfolding all_accesses
    room_open inside around made t room stays =
        found_turns own (λ u. false) types inside all_accesses around (reached_components types t) (room_turns inside around made room) stays
        (kinds all_accesses (lacked_open types None [] tt) t)

    records_room : (inside around : List ℕ) (made : ℕ → ℕ) (ts : List ℕ) → Room inside around made → list_all (type_stays types own inside) ts ≡ true → list_all (record_nests types around) ts ≡ true
    records_room inside around made [] room stay = refl
    records_room inside around made (t ∷ ts) room stay =
        let stays = and_parts (type_stays types own inside t) (list_all (type_stays types own inside) ts) stay in
        and_from (record_nests types around t) (list_all (record_nests types around) ts) (room_open inside around made t room stays.0) (records_room inside around made ts room stays.1)

    -- Each collection is not open around it.
    away : (around : List ℕ) (t : ℕ) (ts : List ℕ) → times t around + times t (t ∷ ts) ≤ 1 → not (is_one_of around t) ≡ true
    away around t ts le = by (is_one_of around t) refl
      where
        by : (b : Bool) → is_one_of around t ≡ b → not b ≡ true
        by true is =
            let some = times_of around t is in
            let self = times_of (t ∷ ts) t (first t ts) in
            absurd (omega (arith, le, some, self))
          where
            first : (u : ℕ) (us : List ℕ) → is_one_of (u ∷ us) u ≡ true
            first u us = rw (eq-eqb u u refl) refl
        by false is = refl

    collections_room : (inside around there : List ℕ) (made : ℕ → ℕ) (ts : List ℕ) → Room inside there made
        → ((t : ℕ) → own t ≡ true → is_access types t ≡ true → times t around + times t ts ≤ 1) → list_all (own_accesses types own) ts ≡ true → list_all (type_stays types own inside) ts ≡ true
        → list_all (collection_nests types around there) ts ≡ true
    collections_room inside around there made [] room once may stay = refl
    collections_room inside around there made (t ∷ ts) room once may stay =
        let mays = and_parts (own_accesses types own t) (list_all (own_accesses types own) ts) may in
        let mine = and_parts (own t) (is_access types t) mays.0 in
        let stays = and_parts (type_stays types own inside t) (list_all (type_stays types own inside) ts) stay in
        and_from (collection_nests types around there t) (list_all (collection_nests types around there) ts)
        (and_from (not (is_one_of around t)) (are_open there (reached_components types t)) (away around t ts (once t mine.0 mine.1)) (room_open inside there made t room stays.0))
        (collections_room inside around there made ts room (λ u own_u is. let all = once u own_u is in omega (arith, all)) mays.1 stays.1)

    part_room : (inside around : List ℕ) (made : ℕ → ℕ) (ds : List DeclarationForm) → Room inside around made → ((t : ℕ) → times t (collected ds) ≤ made t)
        → part_stays types own (own_accesses types own) inside ds ≡ true → part_nests types around ds ≡ true
    part_room inside around made ds room le stays =
        let ws = collected ds in
        let three = and_parts (list_all (own_accesses types own) ws && list_all (type_stays types own (ws ++ inside)) ws) (list_all (type_stays types own (ws ++ inside)) (record_objects ds)) stays in
        let two = and_parts (list_all (own_accesses types own) ws) (list_all (type_stays types own (ws ++ inside)) ws) three.0 in
        let under = under_room ds inside around made (λ t. 0) room (λ t. let some = le t in omega (arith, some)) in
        and_from (list_all (collection_nests types around (ws ++ around)) ws) (list_all (record_nests types (ws ++ around)) (record_objects ds))
        (collections_room (ws ++ inside) around (ws ++ around) (λ t. 0) ws under (λ t mine is. let all = room.once t mine is in let some = le t in omega (arith, all, some)) two.0 two.1)
        (records_room (ws ++ inside) (ws ++ around) (λ t. 0) (record_objects ds) under three.1)

    -- So does what calls create, where there is room for what those before it create.
    abbrev FindsRoom : (before : ℕ → ℕ) → ((around : List ℕ) → Bool) → Type 0
    FindsRoom before nests = (around : List ℕ) → Room [] around before → nests around ≡ true

    module _ (may_call : ℕ → Bool) (callees : Callees) (before : ℕ → ℕ) (calls_find : (procedure : ℕ) → may_call procedure ≡ true → FindsRoom before (call_nests (slice_get callees procedure))) where
      abbrev collecting : ℕ → Bool
      collecting = own_accesses types own

      abbrev with_before : List Creation → ℕ → ℕ
      with_before cs t = makes t cs + before t

      left_room : (inside around : List ℕ) (cs ds : List Creation) → Room inside around (with_before (cs ++ ds)) → Room inside around (with_before cs)
      left_room inside around cs ds room = less inside around (with_before (cs ++ ds)) (with_before cs) room (λ t. let both = makes_append t cs ds in omega (arith, both))

      right_room : (inside around : List ℕ) (cs ds : List Creation) → Room inside around (with_before (cs ++ ds)) → Room inside around (with_before ds)
      right_room inside around cs ds room = less inside around (with_before (cs ++ ds)) (with_before ds) room (λ t. let both = makes_append t cs ds in omega (arith, both))

      abbrev block : List DeclarationForm → StmtsForm → HandlersForm → List Creation
      block ds fs hs = map creation ds ++ created_by_all fs ++ created_by_handlers hs

      block_makes : (ds : List DeclarationForm) (fs : StmtsForm) (hs : HandlersForm) (t : ℕ) → makes t (block ds fs hs) ≡ times t (collected ds) + makes t (created_by_all fs) + makes t (created_by_handlers hs)
      block_makes ds fs hs t =
          let all = makes_append t (map creation ds ++ created_by_all fs) (created_by_handlers hs) in
          let both = makes_append t (map creation ds) (created_by_all fs) in
          let same = times_makes t ds in
          omega (arith, all, both, same)

      inner_stmts : (ds : List DeclarationForm) (fs : StmtsForm) (hs : HandlersForm) (inside around : List ℕ) → Room inside around (with_before (block ds fs hs))
          → Room (collected ds ++ inside) (collected ds ++ around) (with_before (created_by_all fs))
      inner_stmts ds fs hs inside around room =
          under_room ds inside around (with_before (block ds fs hs)) (with_before (created_by_all fs)) room (λ t. let all = block_makes ds fs hs t in omega (arith, all))

      inner_handlers : (ds : List DeclarationForm) (fs : StmtsForm) (hs : HandlersForm) (inside around : List ℕ) → Room inside around (with_before (block ds fs hs))
          → Room (collected ds ++ inside) (collected ds ++ around) (with_before (created_by_handlers hs))
      inner_handlers ds fs hs inside around room =
          under_room ds inside around (with_before (block ds fs hs)) (with_before (created_by_handlers hs)) room (λ t. let all = block_makes ds fs hs t in omega (arith, all))

      outer_part : (ds : List DeclarationForm) (fs : StmtsForm) (hs : HandlersForm) (inside around : List ℕ) → Room inside around (with_before (block ds fs hs)) → part_stays types own collecting inside ds ≡ true → part_nests types around ds ≡ true
      outer_part ds fs hs inside around room stays =
          part_room inside around (with_before (block ds fs hs)) ds room (λ t. let all = block_makes ds fs hs t in omega (arith, all)) stays

      mutual
        stmt_finds : (inside around : List ℕ) (f : StmtForm) → Room inside around (with_before (created_by f)) → stmt_stays types own collecting may_call inside f ≡ true → statement_nests types callees around f ≡ true
        stmt_finds inside around skips room stays = refl
        stmt_finds inside around (assigns target right) room stays = refl
        stmt_finds inside around (assigns_record target items) room stays = refl
        stmt_finds inside around (frees access path) room stays = refl
        stmt_finds inside around (gets target) room stays = refl
        stmt_finds inside around (writes e) room stays = refl
        stmt_finds inside around (writes_text text) room stays = refl
        stmt_finds inside around (chooses branches) room stays = branches_find inside around branches room stays
        stmt_finds inside around (repeats condition fs spot) room stays = stmts_find inside around fs room stays
        stmt_finds inside around (counts x low high fs spot) room stays =
            stmts_find inside around fs (less inside around (with_before (created_by (counts x low high fs spot))) (with_before (created_by_all fs)) room (λ t. omega arith)) stays
        stmt_finds inside around (exits condition spot) room stays = refl
        stmt_finds inside around (calls procedure actuals) room stays =
            calls_find procedure stays around
            (less [] around (with_before []) before (called_room inside around (with_before []) room) (λ t. omega arith))
        stmt_finds inside around (returns spot) room stays = refl
        stmt_finds inside around (raises e) room stays = refl
        stmt_finds inside around (encloses ds fs hs) room stays =
            let ws = collected ds in
            let all = and_parts (part_stays types own collecting inside ds && stmts_stay types own collecting may_call (ws ++ inside) fs) (handlers_stay types own collecting may_call (ws ++ inside) hs) stays in
            let two = and_parts (part_stays types own collecting inside ds) (stmts_stay types own collecting may_call (ws ++ inside) fs) all.0 in
            and_from (part_nests types around ds && statements_nest types callees (ws ++ around) fs) (handlers_nest types callees (ws ++ around) hs)
            (and_from (part_nests types around ds) (statements_nest types callees (ws ++ around) fs) (outer_part ds fs hs inside around room two.0)
            (stmts_find (ws ++ inside) (ws ++ around) fs (inner_stmts ds fs hs inside around room) two.1))
            (handlers_find (ws ++ inside) (ws ++ around) hs (inner_handlers ds fs hs inside around room) all.1)

        stmts_find : (inside around : List ℕ) (fs : StmtsForm) → Room inside around (with_before (created_by_all fs)) → stmts_stay types own collecting may_call inside fs ≡ true → statements_nest types callees around fs ≡ true
        stmts_find inside around no_stmts room stays = refl
        stmts_find inside around (a_stmt f fs) room stays =
            let two = and_parts (stmt_stays types own collecting may_call inside f) (stmts_stay types own collecting may_call inside fs) stays in
            and_from (statement_nests types callees around f) (statements_nest types callees around fs)
            (stmt_finds inside around f (left_room inside around (created_by f) (created_by_all fs) room) two.0)
            (stmts_find inside around fs (right_room inside around (created_by f) (created_by_all fs) room) two.1)

        branches_find : (inside around : List ℕ) (branches : BranchesForm) → Room inside around (with_before (created_by_branches branches)) → branches_stay types own collecting may_call inside branches ≡ true → branches_nest types callees around branches ≡ true
        branches_find inside around (otherwise fs) room stays = stmts_find inside around fs room stays
        branches_find inside around (a_branch e fs branches) room stays =
            let two = and_parts (stmts_stay types own collecting may_call inside fs) (branches_stay types own collecting may_call inside branches) stays in
            and_from (statements_nest types callees around fs) (branches_nest types callees around branches)
            (stmts_find inside around fs (left_room inside around (created_by_all fs) (created_by_branches branches) room) two.0)
            (branches_find inside around branches (right_room inside around (created_by_all fs) (created_by_branches branches) room) two.1)

        handlers_find : (inside around : List ℕ) (hs : HandlersForm) → Room inside around (with_before (created_by_handlers hs)) → handlers_stay types own collecting may_call inside hs ≡ true → handlers_nest types callees around hs ≡ true
        handlers_find inside around no_handlers room stays = refl
        handlers_find inside around (a_handler choices fs hs) room stays =
            let two = and_parts (stmts_stay types own collecting may_call inside fs) (handlers_stay types own collecting may_call inside hs) stays in
            and_from (statements_nest types callees around fs) (handlers_nest types callees around hs)
            (stmts_find inside around fs (left_room inside around (created_by_all fs) (created_by_handlers hs) room) two.0)
            (handlers_find inside around hs (right_room inside around (created_by_all fs) (created_by_handlers hs) room) two.1)

      body_finds : (b : BodyForm) → body_stays types own collecting may_call b ≡ true → FindsRoom (with_before (created_in b)) (body_nests types callees b)
      body_finds b stays around room =
          let ws = collected b.declarations in
          let fs = b.statements in
          let hs = b.handlers in
          let all = and_parts (part_stays types own collecting [] b.declarations && stmts_stay types own collecting may_call ws fs) (handlers_stay types own collecting may_call ws hs) stays in
          let two = and_parts (part_stays types own collecting [] b.declarations) (stmts_stay types own collecting may_call ws fs) all.0 in
          let ds = b.declarations in
          let here = λ (made : ℕ → ℕ) (within : Room (ws ++ []) (ws ++ around) made). subst (λ (inside : List ℕ). Room inside (ws ++ around) made) (append-nil ws) within in
          and_from (part_nests types around ds && statements_nest types callees (ws ++ around) fs) (handlers_nest types callees (ws ++ around) hs)
          (and_from (part_nests types around ds) (statements_nest types callees (ws ++ around) fs) (outer_part ds fs hs [] around room two.0)
          (stmts_find ws (ws ++ around) fs (here (with_before (created_by_all fs)) (inner_stmts ds fs hs [] around room)) two.1))
          (handlers_find ws (ws ++ around) hs (here (with_before (created_by_handlers hs)) (inner_handlers ds fs hs [] around room)) all.1)

    -- Of each procedure one knows both, by its number.
    abbrev InStep : (before : ℕ → ℕ) → List Bool → Callees → Type 0
    InStep before [] [] = Unit {0}
    InStep before [] (n ∷ ns) = ⊥
    InStep before (m ∷ ms) [] = ⊥
    InStep before (m ∷ ms) (n ∷ ns) = (m ≡ true → FindsRoom before n) × InStep before ms ns

    step_finds : (before : ℕ → ℕ) (marks : List Bool) (nests : Callees) → InStep before marks nests → (number : ℕ) → slice_index_or marks number false ≡ true → FindsRoom before (call_nests (slice_get nests number))
    step_finds before [] [] step number is = absurd (cc is)
    step_finds before [] (n ∷ ns) step number is = absurd step
    step_finds before (m ∷ ms) [] step number is = absurd step
    step_finds before (m ∷ ms) (n ∷ ns) step zero is = step.0 is
    step_finds before (m ∷ ms) (n ∷ ns) step (suc number) is = step_finds before ms ns step.1 number is

    one_more : (before more : ℕ → ℕ) → ((t : ℕ) → before t ≤ more t) → (marks : List Bool) (nests : Callees) (mark : Bool) (nest : (around : List ℕ) → Bool) → InStep before marks nests
        → (mark ≡ true → FindsRoom more nest) → InStep more (marks ++ mark ∷ []) (nests ++ nest ∷ [])
    one_more before more le [] [] mark nest step new = (new, tt)
    one_more before more le [] (n ∷ ns) mark nest step new = absurd step
    one_more before more le (m ∷ ms) [] mark nest step new = absurd step
    one_more before more le (m ∷ ms) (n ∷ ns) mark nest step new =
        (λ is around room. step.0 is around (less [] around more before room le), one_more before more le ms ns mark nest step.1 new)

    abbrev made_from : (before : ℕ → ℕ) → List BodyForm → ℕ → ℕ
    made_from before [] = before
    made_from before (b ∷ bs) = made_from (λ t. makes t (created_in b) + before t) bs

    made_is : (before : ℕ → ℕ) (bs : List BodyForm) (t : ℕ) → made_from before bs t ≡ before t + makes t (created_in_all bs)
    made_is before [] t = omega arith
    made_is before (b ∷ bs) t =
        let rest = made_is (λ u. makes u (created_in b) + before u) bs t in
        let both = makes_append t (created_in b) (created_in_all bs) in
        omega (arith, rest, both)

    all_step : (bodies : List BodyForm) (before : ℕ → ℕ) (marks : List Bool) (nests : Callees) → InStep before marks nests
        → InStep (made_from before bodies) (staying_from types own (own_accesses types own) marks bodies) (callees_from types nests bodies)
    all_step [] before marks nests step = step
    all_step (b ∷ bodies) before marks nests step =
        let may_call = λ (procedure : ℕ). slice_index_or marks procedure false in
        let mark = body_stays types own (own_accesses types own) may_call b in
        let more = λ (t : ℕ). makes t (created_in b) + before t in
        all_step bodies more (marks ++ mark ∷ []) (nests ++ body_nests types nests b ∷ [])
        (one_more before more (λ t. omega arith) marks nests mark (body_nests types nests b) step
        (body_finds may_call nests before (step_finds before marks nests step) b))

-- So a procedure that creates collections of own types alone nests wherever the others are open, and none of these.
pub collecting_nests : (p : ProgramForm) → IsWellFormed p → (own : ℕ → Bool) (procedure : ℕ) → slice_index_or (collecting_own own p) procedure false ≡ true → (around : List ℕ)
    → ((t : ℕ) → is_access p.types t ≡ true → own t ≡ false → is_one_of around t ≡ true) → ((t : ℕ) → own t ≡ true → is_one_of around t ≡ false)
    → call_nests (slice_get (callees_of p) procedure) around ≡ true
collecting_nests p well own procedure is around opened none =
    step_finds p.types own (kinds_open p well) (made_from p.types own (kinds_open p well) (λ t. 0) p.bodies) (collecting_own own p) (callees_of p)
    (all_step p.types own (kinds_open p well) p.bodies (λ t. 0) [] [] tt) procedure is around
    (record {
      others = opened;
      within = λ t at. absurd (cc at);
      once = λ t mine access.
          let never = times_none around t (none t mine) in
          let all = all_once p well t access in
          let both = makes_append t (created_in_all p.bodies) (creations p) in
          let made = made_is p.types own (kinds_open p well) (λ u. 0) p.bodies t in
          omega (arith, never, all, both, made);
    })
