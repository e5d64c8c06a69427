-- Calls: what a procedure creates nests wherever at least those collections are open that are open where it is declared, and no other one that it or a
-- procedure before it creates.

use Rattle.std.proofs.Common.{◌≡◌, ◌∙◌, ℕ, zero, suc, Bool, true, false, List, [], ◌∷◌, ◌++◌, ◌+◌, arith, length, length-append, refl, sym, ap, subst}
use Rattle.std.specs.Prelude.{Option, Some, None, ◌&&◌, ◌||◌, map, not}
use Rattle.std.specs.List.{list_all, slice_get}
use Rattle.std.proofs.lemmas.Bool.{both_ways}
use Rattle.ada_program.specs.declared.program.ComponentKind.{ComponentKind}
use Rattle.ada_program.specs.declared.program.ComponentKind.TheVariants as component
use Rattle.ada_program.specs.Form.{DeclarationForm, StmtForm, chooses, repeats, counts, calls, encloses, StmtsForm, no_stmts, a_stmt, BranchesForm, otherwise, HandlersForm}
use Rattle.ada_program.specs.Form as form
use Rattle.ada_program.specs.Nested.{collected, record_objects, is_one_of, kind_is_open, are_open, collection_nests, record_nests, part_nests, Callees, call_nests, statement_nests, statements_nest, branches_nest, handlers_nest, body_nests, callees_from}
use Rattle.ada_program.specs.ProgramForm.{TypeForm, BodyForm}
use Rattle.ada_program.specs.WellFormed.{Creation, creation, created_by, created_by_all, created_by_branches, created_by_handlers, created_in, created_in_all, reached_components}
use Rattle.ada_resolve.proofs.Nesting.Open.{all_of, of_all, collected_is, one_of_both}
use Rattle.ada_resolve.proofs.Standing.{get_front}
use Rattle.ada_resolve.proofs.WellFormed.Counts.{is_counted}
use Rattle.ada_resolve.proofs.WellFormed.Created as created
use Rattle.ada_resolve.proofs.WellFormed.Created.{bodies_collect, collect_least, collected_both}
use Rattle.ada_resolve.proofs.WellFormed.Growing.{AreIn}
use Rattle.ada_resolve.proofs.WellFormed.Tables.{all_weaker, both_parts, first_part, second_part, get_last}

-- all of these collections are among those
abbrev pub Within : List ℕ → List ℕ → Type 0
Within us vs = (t : ℕ) → is_one_of us t ≡ true → is_one_of vs t ≡ true

-- none of these bodies creates the collection of this access type
abbrev pub IsAway : List BodyForm → ℕ → Type 0
IsAway bodies a = bodies_collect bodies a ≡ 0

-- all that is open at one place is open at another, and besides nothing that these bodies create
pub record Wider (bodies : List BodyForm) (us vs : List ℕ) : Type 0 where
  pub within : Within us vs
  pub away : (a : ℕ) → is_one_of us a ≡ false → is_one_of vs a ≡ true → IsAway bodies a

-- what a call creates nests where more is open that these bodies don't create, too
abbrev pub Widens : List BodyForm → ((around : List ℕ) → Bool) → Type 0
Widens bodies f = (us vs : List ℕ) → Wider bodies us vs → f us ≡ true → f vs ≡ true

abbrev pub AllWiden : List BodyForm → Callees → Type 0
AllWiden bodies callees = (n : ℕ) (f : (around : List ℕ) → Bool) → slice_get callees n ≡ Some f → Widens bodies f

-- these bodies create all collections that are created here
abbrev pub AreTheirs : List BodyForm → List Creation → Type 0
AreTheirs bodies cs = (a : ℕ) → IsAway bodies a → created.collected a cs ≡ 0

first_theirs : (bodies : List BodyForm) (cs ds : List Creation) → AreTheirs bodies (cs ++ ds) → AreTheirs bodies cs
first_theirs bodies cs ds w a away = let all = w a away in let both = collected_both a cs ds in omega (arith, all, both)

second_theirs : (bodies : List BodyForm) (cs ds : List Creation) → AreTheirs bodies (cs ++ ds) → AreTheirs bodies ds
second_theirs bodies cs ds w a away = let all = w a away in let both = collected_both a cs ds in omega (arith, all, both)

-- so it is of what each of them creates
pub bodies_theirs : (bs : List BodyForm) (n : ℕ) (b : BodyForm) → slice_get bs n ≡ Some b → AreTheirs bs (created_in b)
bodies_theirs [] n b is = absurd (cc is)
bodies_theirs (c ∷ bs) zero b is =
    let same : c ≡ b = cc is in
    subst (λ (x : BodyForm). AreTheirs (c ∷ bs) (created_in x)) same (λ a away. let both = collected_both a (created_in c) (created_in_all bs) in omega (arith, away, both))
bodies_theirs (c ∷ bs) (suc n) b is =
    λ a away. bodies_theirs bs n b is a (let both = collected_both a (created_in c) (created_in_all bs) in omega (arith, away, both))

-- what some bodies don't create, fewer of them don't create
away_before : (bs cs : List BodyForm) → AreIn bs cs → (a : ℕ) → IsAway cs a → IsAway bs a
away_before bs cs g a away = let least = collect_least bs cs g a in omega (arith, away, least)

pub wider_same : (bodies : List BodyForm) (us : List ℕ) → Wider bodies us us
wider_same bodies us = record { within = λ t is. is; away = λ a out is. absurd (both_ways (is_one_of us a) out is) }

pub wider_on : (bs cs : List BodyForm) (us vs ws : List ℕ) → AreIn bs cs → Wider bs us vs → Wider cs vs ws → Wider bs us ws
wider_on bs cs us vs ws g f h = record {
  within = λ t is. h.within t (f.within t is);
  away = λ a out is. by_test a out is (is_one_of vs a) refl;
}
  where
    by_test : (a : ℕ) → is_one_of us a ≡ false → is_one_of ws a ≡ true → (b : Bool) → is_one_of vs a ≡ b → IsAway bs a
    by_test a out is true on = f.away a out on
    by_test a out is false off = away_before bs cs g a (h.away a off is)

-- more is open behind more
kind_wider : (us vs : List ℕ) → Within us vs → (k : ComponentKind) → kind_is_open us k ≡ true → kind_is_open vs k ≡ true
kind_wider us vs w (component.Integer initial) e = refl
kind_wider us vs w (component.Boolean initial) e = refl
kind_wider us vs w (component.Access t) e = w t.0 e

open_wider : (us vs : List ℕ) → Within us vs → (o : Option (List ComponentKind)) → are_open us o ≡ true → are_open vs o ≡ true
open_wider us vs w None e = refl
open_wider us vs w (Some ks) e = all_weaker (kind_is_open us) (kind_is_open vs) (kind_wider us vs w) ks e

-- what is open behind a part that creates these collections
wider_both : (bodies : List BodyForm) (us vs cs : List ℕ) → Wider bodies us vs → Wider bodies (cs ++ us) (cs ++ vs)
wider_both bodies us vs cs w = record {
  within = λ a is. one_of_both cs vs a ∙ more (is_one_of cs a) (is_one_of us a) (is_one_of vs a) (w.within a) (sym (one_of_both cs us a) ∙ is);
  away = λ a out is. later (is_one_of cs a) (is_one_of us a) (is_one_of vs a) (IsAway bodies a) (w.away a) (sym (one_of_both cs us a) ∙ out) (sym (one_of_both cs vs a) ∙ is);
}
  where
    more : (b c d : Bool) → (c ≡ true → d ≡ true) → (b || c) ≡ true → (b || d) ≡ true
    more true c d f e = refl
    more false c d f e = f e

    later : (b c d : Bool) (P : Type 0) → (c ≡ false → d ≡ true → P) → (b || c) ≡ false → (b || d) ≡ true → P
    later true c d P f out e = absurd (cc out)
    later false c d P f out e = f out e

-- a collection of one of these bodies is none that is open besides
not_open : (bodies : List BodyForm) (us vs : List ℕ) (a : ℕ) → Wider bodies us vs → (IsAway bodies a → ⊥) → not (is_one_of us a) ≡ true → not (is_one_of vs a) ≡ true
not_open bodies us vs a w own out = by_test (is_one_of us a) (is_one_of vs a) (w.away a) out
  where
    by_test : (b c : Bool) → (b ≡ false → c ≡ true → IsAway bodies a) → not b ≡ true → not c ≡ true
    by_test b false f e = refl
    by_test true true f e = absurd (cc e)
    by_test false true f e = absurd (own (f refl refl))

-- what declarations create
declared_theirs : (bodies : List BodyForm) (ds : List DeclarationForm) → AreTheirs bodies (map creation ds) → (a : ℕ) → is_one_of (collected ds) a ≡ true → IsAway bodies a → ⊥
declared_theirs bodies ds p a is away =
    let some = is_counted a ds (sym (collected_is ds a) ∙ is) in let none = p a away in omega (arith, some, none)

part_wider : (types : List TypeForm) (bodies : List BodyForm) (us vs : List ℕ) (ds : List DeclarationForm) → AreTheirs bodies (map creation ds) → Wider bodies us vs → part_nests types us ds ≡ true → part_nests types vs ds ≡ true
part_wider types bodies us vs ds p w e =
    let cs = collected ds in
    let os = record_objects ds in
    let inner = (wider_both bodies us vs cs w).within in
    let collections : list_all (collection_nests types us (cs ++ us)) cs ≡ true =
    first_part (list_all (collection_nests types us (cs ++ us)) cs) (list_all (record_nests types (cs ++ us)) os) e in
    both_parts (list_all (collection_nests types vs (cs ++ vs)) cs) (list_all (record_nests types (cs ++ vs)) os)
    (all_of (collection_nests types vs (cs ++ vs)) cs
    (λ a is.
    let out = not (is_one_of us a) in
    let opens = are_open (cs ++ us) (reached_components types a) in
    let own : (out && opens) ≡ true = of_all (collection_nests types us (cs ++ us)) cs collections a is in
    both_parts (not (is_one_of vs a)) (are_open (cs ++ vs) (reached_components types a))
    (not_open bodies us vs a w (declared_theirs bodies ds p a is) (first_part out opens own))
    (open_wider (cs ++ us) (cs ++ vs) inner (reached_components types a) (second_part out opens own))))
    (all_weaker (record_nests types (cs ++ us)) (record_nests types (cs ++ vs)) (λ o h. open_wider (cs ++ us) (cs ++ vs) inner (reached_components types o) h) os
    (second_part (list_all (collection_nests types us (cs ++ us)) cs) (list_all (record_nests types (cs ++ us)) os) e))

module _ (types : List TypeForm) (bodies : List BodyForm) (callees : Callees) (all : AllWiden bodies callees) where
  mutual
    pub statement_wider : (us vs : List ℕ) (f : StmtForm) → Wider bodies us vs → AreTheirs bodies (created_by f) → statement_nests types callees us f ≡ true → statement_nests types callees vs f ≡ true
    statement_wider us vs (chooses branches) w p e = branches_wider us vs branches w p e
    statement_wider us vs (repeats condition fs end_spot) w p e = statements_wider us vs fs w p e
    statement_wider us vs (counts x low high fs end_spot) w p e = statements_wider us vs fs w (λ a away. p a away) e
    statement_wider us vs (calls n actuals) w p e = by_callee (slice_get callees n) refl e
      where
        by_callee : (o : Option ((around : List ℕ) → Bool)) → slice_get callees n ≡ o → call_nests o us ≡ true → call_nests o vs ≡ true
        by_callee None is e = e
        by_callee (Some f) is e = all n f is us vs w e
    statement_wider us vs (encloses ds fs hs) w p e =
        let cs = collected ds in
        let inner = wider_both bodies us vs cs w in
        let front = part_nests types us ds && statements_nest types callees (cs ++ us) fs in
        let back = handlers_nest types callees (cs ++ us) hs in
        let one : front ≡ true = first_part front back e in
        let own = first_theirs bodies (map creation ds ++ created_by_all fs) (created_by_handlers hs) p in
        both_parts (part_nests types vs ds && statements_nest types callees (cs ++ vs) fs) (handlers_nest types callees (cs ++ vs) hs)
        (both_parts (part_nests types vs ds) (statements_nest types callees (cs ++ vs) fs)
        (part_wider types bodies us vs ds (first_theirs bodies (map creation ds) (created_by_all fs) own) w
        (first_part (part_nests types us ds) (statements_nest types callees (cs ++ us) fs) one))
        (statements_wider (cs ++ us) (cs ++ vs) fs inner (second_theirs bodies (map creation ds) (created_by_all fs) own)
        (second_part (part_nests types us ds) (statements_nest types callees (cs ++ us) fs) one)))
        (handlers_wider (cs ++ us) (cs ++ vs) hs inner (second_theirs bodies (map creation ds ++ created_by_all fs) (created_by_handlers hs) p) (second_part front back e))
    statement_wider us vs f w p e = refl

    pub statements_wider : (us vs : List ℕ) (fs : StmtsForm) → Wider bodies us vs → AreTheirs bodies (created_by_all fs) → statements_nest types callees us fs ≡ true → statements_nest types callees vs fs ≡ true
    statements_wider us vs no_stmts w p e = refl
    statements_wider us vs (a_stmt f fs) w p e =
        both_parts (statement_nests types callees vs f) (statements_nest types callees vs fs)
        (statement_wider us vs f w (first_theirs bodies (created_by f) (created_by_all fs) p) (first_part (statement_nests types callees us f) (statements_nest types callees us fs) e))
        (statements_wider us vs fs w (second_theirs bodies (created_by f) (created_by_all fs) p) (second_part (statement_nests types callees us f) (statements_nest types callees us fs) e))

    branches_wider : (us vs : List ℕ) (bs : BranchesForm) → Wider bodies us vs → AreTheirs bodies (created_by_branches bs) → branches_nest types callees us bs ≡ true → branches_nest types callees vs bs ≡ true
    branches_wider us vs (otherwise fs) w p e = statements_wider us vs fs w p e
    branches_wider us vs (form.a_branch c fs bs) w p e =
        both_parts (statements_nest types callees vs fs) (branches_nest types callees vs bs)
        (statements_wider us vs fs w (first_theirs bodies (created_by_all fs) (created_by_branches bs) p) (first_part (statements_nest types callees us fs) (branches_nest types callees us bs) e))
        (branches_wider us vs bs w (second_theirs bodies (created_by_all fs) (created_by_branches bs) p) (second_part (statements_nest types callees us fs) (branches_nest types callees us bs) e))

    pub handlers_wider : (us vs : List ℕ) (hs : HandlersForm) → Wider bodies us vs → AreTheirs bodies (created_by_handlers hs) → handlers_nest types callees us hs ≡ true → handlers_nest types callees vs hs ≡ true
    handlers_wider us vs form.no_handlers w p e = refl
    handlers_wider us vs (form.a_handler cs fs hs) w p e =
        both_parts (statements_nest types callees vs fs) (handlers_nest types callees vs hs)
        (statements_wider us vs fs w (first_theirs bodies (created_by_all fs) (created_by_handlers hs) p) (first_part (statements_nest types callees us fs) (handlers_nest types callees us hs) e))
        (handlers_wider us vs hs w (second_theirs bodies (created_by_all fs) (created_by_handlers hs) p) (second_part (statements_nest types callees us fs) (handlers_nest types callees us hs) e))

  -- so it is of a body
  pub body_wider : (b : BodyForm) → AreTheirs bodies (created_in b) → Widens bodies (body_nests types callees b)
  body_wider b p us vs w e = statement_wider us vs (encloses b.declarations b.statements b.handlers) w p e

-- the callees of these bodies
widen_more : (bodies : List BodyForm) (callees : Callees) (f : (around : List ℕ) → Bool) → AllWiden bodies callees → Widens bodies f → AllWiden bodies (callees ++ f ∷ [])
widen_more bodies [] f all own zero g is = let same : f ≡ g = cc is in subst (Widens bodies) same own
widen_more bodies [] f all own (suc n) g is = absurd (cc is)
widen_more bodies (c ∷ callees) f all own zero g is = all zero g is
widen_more bodies (c ∷ callees) f all own (suc n) g is = widen_more bodies callees f (λ m h there. all (suc m) h there) own n g is

pub callees_widen : (types : List TypeForm) (bodies : List BodyForm) (callees : Callees) (bs : List BodyForm) → AllWiden bodies callees → ((n : ℕ) (b : BodyForm) → slice_get bs n ≡ Some b → AreTheirs bodies (created_in b)) → AllWiden bodies (callees_from types callees bs)
callees_widen types bodies callees [] all own = all
callees_widen types bodies callees (b ∷ bs) all own =
    callees_widen types bodies (callees ++ body_nests types callees b ∷ []) bs
    (widen_more bodies callees (body_nests types callees b) all (body_wider types bodies callees all b (own zero b refl))) (λ n c is. own (suc n) c is)

-- callees stay what they are behind more bodies
pub callees_front : (types : List TypeForm) (callees : Callees) (bs : List BodyForm) (n : ℕ) (f : (around : List ℕ) → Bool) → slice_get callees n ≡ Some f → slice_get (callees_from types callees bs) n ≡ Some f
callees_front types callees [] n f is = is
callees_front types callees (b ∷ bs) n f is =
    callees_front types (callees ++ body_nests types callees b ∷ []) bs n f (get_front callees (body_nests types callees b ∷ []) n f is)

callees_on : (types : List TypeForm) (callees : Callees) (bs cs : List BodyForm) → AreIn bs cs → (n : ℕ) (f : (around : List ℕ) → Bool) → slice_get (callees_from types callees bs) n ≡ Some f → slice_get (callees_from types callees cs) n ≡ Some f
callees_on types callees [] cs w n f is = callees_front types callees cs n f is
callees_on types callees (b ∷ bs) [] w n f is = let no : None ≡ Some b = w zero b refl in absurd (cc no)
callees_on types callees (b ∷ bs) (c ∷ cs) w n f is =
    let same : c ≡ b = let there : Some c ≡ Some b = w zero b refl in cc there in
    subst (λ (x : BodyForm). slice_get (callees_from types (callees ++ body_nests types callees x ∷ []) cs) n ≡ Some f) (sym same)
    (callees_on types (callees ++ body_nests types callees b ∷ []) bs cs (λ i x there. w (suc i) x there) n f is)

pub callees_in : (types : List TypeForm) (bs cs : List BodyForm) → AreIn bs cs → (n : ℕ) (f : (around : List ℕ) → Bool) → slice_get (callees_from types [] bs) n ≡ Some f → slice_get (callees_from types [] cs) n ≡ Some f
callees_in types bs cs w n f is = callees_on types [] bs cs w n f is

-- the callee of the last body
callees_last_at : (types : List TypeForm) (callees : Callees) (bs : List BodyForm) (b : BodyForm) → callees_from types callees (bs ++ b ∷ []) ≡ callees_from types callees bs ++ body_nests types (callees_from types callees bs) b ∷ []
callees_last_at types callees [] b = refl
callees_last_at types callees (c ∷ bs) b = callees_last_at types (callees ++ body_nests types callees c ∷ []) bs b

callees_length : (types : List TypeForm) (callees : Callees) (bs : List BodyForm) → length (callees_from types callees bs) ≡ length callees + length bs
callees_length types callees [] = omega arith
callees_length types callees (b ∷ bs) =
    let rest = callees_length types (callees ++ body_nests types callees b ∷ []) bs in
    let one = length-append callees (body_nests types callees b ∷ []) in
    omega (arith, rest, one)

pub callees_last : (types : List TypeForm) (bs : List BodyForm) (b : BodyForm) → slice_get (callees_from types [] (bs ++ b ∷ [])) (length bs) ≡ Some (body_nests types (callees_from types [] bs) b)
callees_last types bs b =
    let count : length bs ≡ length (callees_from types [] bs) = sym (callees_length types [] bs ∙ none (length bs)) in
    ap (λ (n : ℕ). slice_get (callees_from types [] (bs ++ b ∷ [])) n) count ∙
    (ap (λ (cs : Callees). slice_get cs (length (callees_from types [] bs))) (callees_last_at types [] bs b) ∙
    get_last (callees_from types [] bs) (body_nests types (callees_from types [] bs) b))
  where
    none : (n : ℕ) → 0 + n ≡ n
    none n = omega arith
