-- What is created from one place to another: the variables that are declared, in order, and a collection for each access type, there or in a body
-- that ends between them.

use Rattle.std.proofs.Common.{◌≡◌, ◌∙◌, ℕ, ◌+◌, ◌≤◌, ◌<◌, Bool, true, false, List, [], ◌∷◌, ◌++◌, length, drop, refl, zero, suc, sym, ap, subst, append_assoc, arith, cond, eqb, eq-eqb}
use Rattle.std.specs.Prelude.{Option, Some, None, count_by, map, nat_le}
use Rattle.std.specs.List.{list_all, slice_get}
use Rattle.std.proofs.lemmas.Bool.{leb-true, leb-false, lt-ltb, ltb-true}
use Rattle.std.proofs.lemmas.List.{append-nil}
use Rattle.std.proofs.lemmas.List.Sums.{sum_by-append}
use Rattle.ada_program.specs.Form.{DeclarationForm}
use Rattle.ada_program.specs.ProgramForm.{TypeForm, record_of, access_to, object_of, VariableForm, BodyForm}
use Rattle.ada_program.specs.WellFormed as fits
use Rattle.ada_program.specs.WellFormed.{Creation, of_pool, of_collection, of_variable}
use Rattle.ada_resolve.specs.Known.{Known}
use Rattle.ada_resolve.proofs.WellFormed.Forms.{AreIn, forms}
use Rattle.ada_resolve.proofs.WellFormed.Tables.{access_same, all_back, all_front, all_more, all_weaker, both_parts, first_part, second_part, get_within}

-- how many access types have this number: one or none
abbrev pub accesses : List TypeForm → ℕ → ℕ
accesses types a = cond (fits.is_access types a) 1 0

-- a type by which a record object is known is none
pub accesses_object : (types : List TypeForm) (r a : ℕ) → accesses (types ++ object_of r ∷ []) a ≡ accesses types a
accesses_object [] r zero = refl
accesses_object [] r (suc a) = refl
accesses_object (x ∷ types) r zero = refl
accesses_object (x ∷ types) r (suc a) = accesses_object types r a

-- how many collections of this access type are created
abbrev pub collected : ℕ → List Creation → ℕ
collected a cs = count_by (fits.is_collection a) cs

pub collected_both : (a : ℕ) (cs ds : List Creation) → collected a (cs ++ ds) ≡ collected a cs + collected a ds
collected_both a cs ds = sum_by-append (λ c. cond (fits.is_collection a c) 1 0) cs ds

-- how many of them bodies create
abbrev pub bodies_collect : List BodyForm → ℕ → ℕ
bodies_collect bs a = collected a (fits.created_in_all bs)

-- behind as many bodies these create as many as before, and those that end later the others
pub collect_more : (bs cs : List BodyForm) (n : ℕ) → AreIn bs cs → n ≤ length bs → (a : ℕ) → bodies_collect cs a + bodies_collect (drop n bs) a ≡ bodies_collect bs a + bodies_collect (drop n cs) a
collect_more bs cs zero g within a = omega arith
collect_more [] cs (suc n) g within a = absurd (omega (arith, within))
collect_more (b ∷ bs) [] (suc n) g within a = let no : None ≡ Some b = g zero b refl in absurd (cc no)
collect_more (b ∷ bs) (c ∷ cs) (suc n) g within a =
    let same : c ≡ b = let there : Some c ≡ Some b = g zero b refl in cc there in
    let rest = collect_more bs cs n (λ i x is. g (suc i) x is) (omega (arith, within)) a in
    let front = collected_both a (fits.created_in b) (fits.created_in_all bs) in
    let back = collected_both a (fits.created_in b) (fits.created_in_all cs) in
    subst (λ (x : BodyForm). bodies_collect (x ∷ cs) a + bodies_collect (drop n bs) a ≡ bodies_collect (b ∷ bs) a + bodies_collect (drop n cs) a) (sym same)
    (omega (arith, rest, front, back))

-- no body ends behind all of them
pub none_behind : (bs : List BodyForm) (a : ℕ) → bodies_collect (drop (length bs) bs) a ≡ 0
none_behind [] a = refl
none_behind (b ∷ bs) a = none_behind bs a

-- so what some create, more create too
pub collect_least : (bs cs : List BodyForm) → AreIn bs cs → (a : ℕ) → bodies_collect bs a ≤ bodies_collect cs a
collect_least bs cs g a = let all = collect_more bs cs (length bs) g (omega arith) a in let none = none_behind bs a in omega (arith, all, none)

-- those that end later are among all
pub collect_later : (bs : List BodyForm) (n a : ℕ) → bodies_collect (drop n bs) a ≤ bodies_collect bs a
collect_later bs zero a = omega arith
collect_later [] (suc n) a = omega arith
collect_later (b ∷ bs) (suc n) a =
    let rest = collect_later bs n a in let all = collected_both a (fits.created_in b) (fits.created_in_all bs) in omega (arith, rest, all)

-- one more body
pub created_more : (a : ℕ) (bs : List BodyForm) (b : BodyForm) → bodies_collect (bs ++ b ∷ []) a ≡ bodies_collect bs a + collected a (fits.created_in b)
created_more a [] b = ap (λ cs. collected a cs) (append-nil (fits.created_in b)) ∙ omega arith
created_more a (c ∷ bs) b =
    let rest = created_more a bs b in
    let front = collected_both a (fits.created_in c) (fits.created_in_all (bs ++ b ∷ [])) in
    let back = collected_both a (fits.created_in c) (fits.created_in_all bs) in
    omega (arith, rest, front, back)

pub drop_more : (bs : List BodyForm) (n : ℕ) (b : BodyForm) → n ≤ length bs → drop n (bs ++ b ∷ []) ≡ drop n bs ++ b ∷ []
drop_more bs zero b within = refl
drop_more [] (suc n) b within = absurd (omega (arith, within))
drop_more (c ∷ bs) (suc n) b within = drop_more bs n b (omega (arith, within))

-- the pools that are created are there
abbrev pub makes_known : ℕ → DeclarationForm → Bool
makes_known n e = fits.creates_known_pool n (fits.creation e)

pub known_made : (n : ℕ) (es : List DeclarationForm) → list_all (makes_known n) es ≡ true → list_all (fits.creates_known_pool n) (map fits.creation es) ≡ true
known_made n [] h = refl
known_made n (e ∷ es) h =
    both_parts (makes_known n e) (list_all (fits.creates_known_pool n) (map fits.creation es)) (first_part (makes_known n e) (list_all (makes_known n) es) h)
    (known_made n es (second_part (makes_known n e) (list_all (makes_known n) es) h))

creation_later : (n m : ℕ) → n ≤ m → (c : Creation) → fits.creates_known_pool n c ≡ true → fits.creates_known_pool m c ≡ true
creation_later n m le (of_pool p) h = let less = ltb-true p n h in lt-ltb p m (omega (arith, less, le))
creation_later n m le (of_collection a) h = refl
creation_later n m le (of_variable x) h = refl

pub creations_later : (n m : ℕ) → n ≤ m → (cs : List Creation) → list_all (fits.creates_known_pool n) cs ≡ true → list_all (fits.creates_known_pool m) cs ≡ true
creations_later n m le cs h = all_weaker (fits.creates_known_pool n) (fits.creates_known_pool m) (creation_later n m le) cs h

pub makes_later : (n m : ℕ) → n ≤ m → (es : List DeclarationForm) → list_all (makes_known n) es ≡ true → list_all (makes_known m) es ≡ true
makes_later n m le es h = all_weaker (makes_known n) (makes_known m) (λ e known. creation_later n m le (fits.creation e) known) es h

-- so it is with those of one more body
pub bodies_known : (n : ℕ) (bs : List BodyForm) (b : BodyForm) → list_all (fits.creates_known_pool n) (fits.created_in_all bs) ≡ true → list_all (fits.creates_known_pool n) (fits.created_in b) ≡ true → list_all (fits.creates_known_pool n) (fits.created_in_all (bs ++ b ∷ [])) ≡ true
bodies_known n [] b all own = all_more (fits.creates_known_pool n) (fits.created_in b) [] own refl
bodies_known n (c ∷ bs) b all own =
    let p = fits.creates_known_pool n in
    all_more p (fits.created_in c) (fits.created_in_all (bs ++ b ∷ [])) (all_front p (fits.created_in c) (fits.created_in_all bs) all)
    (bodies_known n bs b (all_back p (fits.created_in c) (fits.created_in_all bs) all) own)

-- from one place to another these are created: a collection for each access type, there or in a body that ends between them, and the variables, in
-- order; and pools that are there
pub record Creates (k m : Known) (cs : List Creation) : Type 0 where
  pub collections : (a : ℕ) → accesses k.types a + collected a cs + bodies_collect m.bodies a ≡ accesses m.types a + bodies_collect k.bodies a
  pub in_order : (n : ℕ) (rest : List Creation) → fits.creates_from n (length k.variables) (cs ++ rest) ≡ fits.creates_from n (length m.variables) rest
  pub pools : list_all (fits.creates_known_pool (length m.pools)) cs ≡ true

pub creates_none : (k m : Known) → k.types ≡ m.types → k.variables ≡ m.variables → k.bodies ≡ m.bodies → Creates k m []
creates_none k m ts vs bs = record {
  collections = λ a. rw (sym ts, sym bs) (omega arith);
  in_order = λ n rest. ap (λ (xs : List VariableForm). fits.creates_from n (length xs) rest) vs;
  pools = refl;
}

pub creates_both : (k m z : Known) (cs ds : List Creation) → length m.pools ≤ length z.pools → Creates k m cs → Creates m z ds → Creates k z (cs ++ ds)
creates_both k m z cs ds le f g = record {
  collections = λ a.
      let front = f.collections a in
      let back = g.collections a in
      let all = collected_both a cs ds in
      omega (arith, front, back, all);
  in_order = λ n rest. ap (λ es. fits.creates_from n (length k.variables) es) (append_assoc cs ds rest) ∙ (f.in_order n (ds ++ rest) ∙ g.in_order n rest);
  pools = all_more (fits.creates_known_pool (length z.pools)) cs ds (creations_later (length m.pools) (length z.pools) le cs f.pools) g.pools;
}

-- one variable more
pub creates_variable : (k m : Known) → k.types ≡ m.types → k.bodies ≡ m.bodies → length m.variables ≡ length k.variables + 1 → Creates k m (of_variable (length k.variables) ∷ [])
creates_variable k m ts bs longer = record {
  collections = λ a. rw (sym ts, sym bs) (omega arith);
  in_order = λ n rest. rw (longer, eq-eqb (length k.variables) (length k.variables) refl) refl;
  pools = refl;
}

-- how many collections the types from this number on have, of an access type
abbrev pub due : ℕ → List TypeForm → ℕ → ℕ
due first types a = cond (nat_le first a) (accesses types a) 0

-- an element of a lower number is there
not_past : {X : Type 0} (xs : List X) (i : ℕ) → i < length xs → slice_get xs i ≡ None → ⊥
not_past [] i less e = omega arith
not_past (x ∷ xs) zero less e = (cc e)
not_past (x ∷ xs) (suc i) less e = not_past xs i (omega arith) e

-- a type that is there is an access type still, or is none
stays_access : (types more : List TypeForm) → AreIn (forms types) (forms more) → (a : ℕ) (x : TypeForm) → slice_get types a ≡ Some x → accesses more a ≡ accesses types a
stays_access types more w a x is = ap (λ (b : Bool). cond {A = ℕ} b 1 0) (access_same types more w a x is)

-- the access types among more types are those among these, and those behind them
pub accesses_grow : (types more : List TypeForm) → AreIn (forms types) (forms more) → (a : ℕ) → accesses types a + due (length types) more a ≡ accesses more a
accesses_grow types more w a = by_place (nat_le (length types) a) refl (slice_get types a) refl
  where
    by_place : (b : Bool) → nat_le (length types) a ≡ b → (o : Option TypeForm) → slice_get types a ≡ o → accesses types a + cond b (accesses more a) 0 ≡ accesses more a
    by_place true past None is = rw is (omega arith)
    by_place true past (Some x) is =
        let before : a < length types = get_within types a x is in let behind : length types ≤ a = leb-true (length types) a past in absurd (omega arith)
    by_place false past None is = absurd (not_past types a (leb-false (length types) a past) is)
    by_place false past (Some x) is = let same = stays_access types more w a x is in omega (arith, same)

-- an access type with the number of one that was there is that one
access_forms : (types : List TypeForm) (t : ℕ) → fits.is_access (forms types) t ≡ fits.is_access types t
access_forms [] t = refl
access_forms (record_of name ps cs final ∷ types) zero = refl
access_forms (access_to name d pool ∷ types) zero = refl
access_forms (object_of r ∷ types) zero = refl
access_forms (x ∷ types) (suc t) = access_forms types t

-- types that are the same but for their pools and operations
pub accesses_alike : (types more : List TypeForm) → forms more ≡ forms types → (a : ℕ) → accesses more a ≡ accesses types a
accesses_alike types more same a =
    ap (λ (b : Bool). cond b 1 0) (sym (access_forms more a) ∙ (ap (λ (ts : List TypeForm). fits.is_access ts a) same ∙ access_forms types a))

pub accesses_before : (types more : List TypeForm) → AreIn (forms types) (forms more) → (a : ℕ) → a < length types → accesses more a ≡ accesses types a
accesses_before types more w a less = by_place (slice_get types a) refl
  where
    by_place : (o : Option TypeForm) → slice_get types a ≡ o → accesses more a ≡ accesses types a
    by_place None is = absurd (not_past types a less is)
    by_place (Some x) is = stays_access types more w a x is

-- no type has a number past all of them
pub accesses_past : (types : List TypeForm) (a : ℕ) → length types ≤ a → accesses types a ≡ 0
accesses_past types a past = by_place (slice_get types a) refl
  where
    by_place : (o : Option TypeForm) → slice_get types a ≡ o → accesses types a ≡ 0
    by_place None is = rw is refl
    by_place (Some x) is = let within = get_within types a x is in absurd (omega (arith, past, within))

-- one collection each, from a number on
has_from : (cs : List Creation) (ts : List TypeForm) (k : ℕ) → ((i : ℕ) → fits.is_access ts i ≡ true → collected (k + i) cs ≡ 1) → fits.has_collections cs k ts ≡ true
has_from cs [] k w = refl
has_from cs (record_of name ps parts final ∷ ts) k w = has_from cs ts (k + 1) (λ i e. let next : (k + 1) + i ≡ k + suc i = omega arith in rw next (w (suc i) e))
has_from cs (access_to name d pool ∷ ts) k w =
    let here : collected k cs ≡ 1 = let at : k ≡ k + 0 = omega arith in rw at (w 0 refl) in
    both_parts (eqb (collected k cs) 1) (fits.has_collections cs (k + 1) ts) (eq-eqb (collected k cs) 1 here)
    (has_from cs ts (k + 1) (λ i e. let next : (k + 1) + i ≡ k + suc i = omega arith in rw next (w (suc i) e)))
has_from cs (object_of r ∷ ts) k w = has_from cs ts (k + 1) (λ i e. let next : (k + 1) + i ≡ k + suc i = omega arith in rw next (w (suc i) e))

-- where nothing is known at first, each access type has one collection
pub has_each : (cs : List Creation) (types : List TypeForm) → ((a : ℕ) → collected a cs ≡ accesses types a) → fits.has_collections cs 0 types ≡ true
has_each cs types w = has_from cs types 0 (λ i e. w (0 + i) ∙ (let at : 0 + i ≡ i = omega arith in rw (at, e) refl))
