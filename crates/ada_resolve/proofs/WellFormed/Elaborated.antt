-- What a declarative part elaborates: collections before the types end, of its own access types, and then a variable for each object.

use Rattle.std.proofs.Common.{◌≡◌, ◌∙◌, ℕ, ◌+◌, ◌-◌, ◌≤◌, ◌<◌, Bool, true, false, List, [], ◌∷◌, ◌++◌, length, drop, refl, zero, suc, sym, ap, subst, arith, cond, eqb, eqb-true, eq-eqb}
use Rattle.std.specs.Prelude.{Option, ◌||◌, is_some, map, nat_le}
use Rattle.std.specs.List.{list_all, slice_get}
use Rattle.std.proofs.lemmas.Bool.{both_ways, leb-true, leb-false}
use Rattle.ada_text.specs.declared.spot.Spot.{Spot}
use Rattle.ada_program.specs.Form.{DeclarationForm, creates_pool, collects, declares, declares_record}
use Rattle.ada_program.specs.ProgramForm.{TypeForm, record_of, access_to, object_of, VariableForm}
use Rattle.ada_program.specs.WellFormed as fits
use Rattle.ada_program.specs.WellFormed.{Creation}
use Rattle.ada_resolve.specs.declared.fault.NameRule.TheVariants.{Layout}
use Rattle.ada_resolve.specs.declared.library.Withs.{Withs}
use Rattle.ada_resolve.specs.Resolution.{known_first}
use Rattle.ada_resolve.specs.Known.{Known, no_variable_yet, no_body_yet, types_go_on, type_begins, with_part, with_elaborated}
use Rattle.ada_resolve.specs.Instances.{is_collected}
use Rattle.ada_resolve.specs.Objects.{collections_of, missing_collections, ends_types, after_types}
use Rattle.ada_resolve.proofs.WellFormed.Remarks.{Quiet, quiet_unless}
use Rattle.ada_resolve.proofs.WellFormed.Tables.{all_more, all_weaker, both_parts, first_part, second_part}
use Rattle.ada_resolve.proofs.WellFormed.Counts.{count, count_more, count_known, made, later_none, at_most_made}
use Rattle.ada_resolve.proofs.WellFormed.Created.{accesses, due, bodies_collect, makes_known, none_behind}

-- a pool or a collection is created, and no variable
abbrev pub is_first : DeclarationForm → Bool
is_first (creates_pool p) = true
is_first (collects t) = true
is_first (declares x source) = false
is_first (declares_record x object initial) = false

-- before the first object of the part: it creates pools that are there, and collections of its own access types, none of them twice
pub record Early (k : Known) : Type 0 where
  pub collections_fit : list_all (fits.collection_fits k.types) k.here.elaborated ≡ true
  pub only_collections : list_all is_first k.here.elaborated ≡ true
  pub at_most_one : (a : ℕ) → count a k.here.elaborated ≤ 1
  pub own : (a : ℕ) → a < k.here.first_type → count a k.here.elaborated ≡ 0
  pub pools : list_all (makes_known (length k.pools)) k.here.elaborated ≡ true

-- how many collections of an access type the bodies create that have ended in the innermost part
abbrev pub ended_here : Known → ℕ → ℕ
ended_here k a = bodies_collect (drop k.here.first_body k.bodies) a

-- once its types end: it creates a collection for each of its access types, but for those of its bodies, which create theirs, and then its
-- variables, in order
pub record Late (k : Known) : Type 0 where
  pub collections_first : fits.collections_first k.here.elaborated ≡ true
  pub collections_fit : list_all (fits.collection_fits k.types) k.here.elaborated ≡ true
  pub initials_fit : list_all (fits.initial_fits k.types k.variables) k.here.elaborated ≡ true
  pub one_each : (a : ℕ) → count a k.here.elaborated + ended_here k a ≡ due k.here.first_type k.types a
  pub in_order : (n : ℕ) (rest : List Creation) → fits.creates_from n k.here.first_variable (map fits.creation k.here.elaborated ++ rest) ≡ fits.creates_from n (length k.variables) rest
  pub pools : list_all (makes_known (length k.pools)) k.here.elaborated ≡ true

-- before the first object, or behind one
pub data InOrder (k : Known) : Type 0 where
  early : Early k → types_go_on k ≡ true → InOrder k
  late : Late k → types_go_on k ≡ false → InOrder k

-- nothing is elaborated where a part begins
pub part_early : (k : Known) → InOrder (with_part k)
part_early k =
    early (record { collections_fit = refl; only_collections = refl; at_most_one = λ a. omega arith; own = λ a less. refl; pools = refl })
    (both_parts (eqb (length k.variables) (length k.variables)) (eqb (length k.bodies) (length k.bodies))
    (eq-eqb (length k.variables) (length k.variables) refl) (eq-eqb (length k.bodies) (length k.bodies) refl))

-- and at first
pub first_order : (withs : Withs) (procedure : List ℕ) → InOrder (known_first withs procedure)
first_order withs procedure = early (record { collections_fit = refl; only_collections = refl; at_most_one = λ a. omega arith; own = λ a less. refl; pools = refl }) refl

-- no type and no instance follows an object
pub early_of : (k : Known) (spot : Spot) → InOrder k → Quiet (type_begins k spot) → Early k
early_of k spot (early w none) q = w
early_of k spot (late w e) q =
    let on : types_go_on k ≡ true = quiet_unless (types_go_on k) spot Layout q.1 in absurd (both_ways (types_go_on k) e on)

pub none_yet_of : (k : Known) (spot : Spot) → Quiet (type_begins k spot) → types_go_on k ≡ true
none_yet_of k spot q = quiet_unless (types_go_on k) spot Layout q.1

-- collections alone stand before the first object
only_in_order : (es : List DeclarationForm) (n k : ℕ) (rest : List Creation) → list_all is_first es ≡ true → fits.creates_from n k (map fits.creation es ++ rest) ≡ fits.creates_from n k rest
only_in_order [] n k rest e = refl
only_in_order (creates_pool p ∷ es) n k rest e = only_in_order es n k rest e
only_in_order (collects t ∷ es) n k rest e = only_in_order es n k rest e
only_in_order (declares x source ∷ es) n k rest e = absurd (cc e)
only_in_order (declares_record x object initial ∷ es) n k rest e = absurd (cc e)

only_first : (es : List DeclarationForm) → list_all is_first es ≡ true → fits.collections_first es ≡ true
only_first [] e = refl
only_first (creates_pool p ∷ es) e = only_first es e
only_first (collects t ∷ es) e = only_first es e
only_first (declares x source ∷ es) e = absurd (cc e)
only_first (declares_record x object initial ∷ es) e = absurd (cc e)

only_fit : (types : List TypeForm) (variables : List VariableForm) (e : DeclarationForm) → is_first e ≡ true → fits.initial_fits types variables e ≡ true
only_fit types variables (creates_pool p) e = refl
only_fit types variables (collects t) e = refl
only_fit types variables (declares x source) e = absurd (cc e)
only_fit types variables (declares_record x object initial) e = absurd (cc e)

-- the collections that end the types
made_are_first : (ts : List TypeForm) (t : ℕ) (es : List DeclarationForm) → list_all is_first (collections_of t ts es) ≡ true
made_are_first [] t es = refl
made_are_first (record_of name ps cs final ∷ ts) t es = made_are_first ts (t + 1) es
made_are_first (object_of r ∷ ts) t es = made_are_first ts (t + 1) es
made_are_first (access_to name d pool ∷ ts) t es = first_either (is_collected t es) (collections_of (t + 1) ts es) (made_are_first ts (t + 1) es)
  where
    first_either : (b : Bool) (fs : List DeclarationForm) → list_all is_first fs ≡ true → list_all is_first (cond b fs (collects t ∷ fs)) ≡ true
    first_either true fs e = e
    first_either false fs e = e

made_known : (n : ℕ) (ts : List TypeForm) (t : ℕ) (es : List DeclarationForm) → list_all (makes_known n) (collections_of t ts es) ≡ true
made_known n [] t es = refl
made_known n (record_of name ps cs final ∷ ts) t es = made_known n ts (t + 1) es
made_known n (object_of r ∷ ts) t es = made_known n ts (t + 1) es
made_known n (access_to name d pool ∷ ts) t es = either (is_collected t es) (collections_of (t + 1) ts es) (made_known n ts (t + 1) es)
  where
    either : (b : Bool) (fs : List DeclarationForm) → list_all (makes_known n) fs ≡ true → list_all (makes_known n) (cond b fs (collects t ∷ fs)) ≡ true
    either true fs e = e
    either false fs e = e

made_fit : (types ts : List TypeForm) (t : ℕ) (es : List DeclarationForm) → ((i : ℕ) → fits.is_access ts i ≡ true → fits.is_access types (t + i) ≡ true) → list_all (fits.collection_fits types) (collections_of t ts es) ≡ true
made_fit types [] t es w = refl
made_fit types (record_of name ps cs final ∷ ts) t es w = made_fit types ts (t + 1) es (λ i e. let next : (t + 1) + i ≡ t + suc i = omega arith in rw next (w (suc i) e))
made_fit types (object_of r ∷ ts) t es w = made_fit types ts (t + 1) es (λ i e. let next : (t + 1) + i ≡ t + suc i = omega arith in rw next (w (suc i) e))
made_fit types (access_to name d pool ∷ ts) t es w =
    fit_either (is_collected t es) (collections_of (t + 1) ts es) (let at : t ≡ t + 0 = omega arith in rw at (w 0 refl))
    (made_fit types ts (t + 1) es (λ i e. let next : (t + 1) + i ≡ t + suc i = omega arith in rw next (w (suc i) e)))
  where
    fit_either : (b : Bool) (fs : List DeclarationForm) → fits.is_access types t ≡ true → list_all (fits.collection_fits types) fs ≡ true → list_all (fits.collection_fits types) (cond b fs (collects t ∷ fs)) ≡ true
    fit_either true fs own e = e
    fit_either false fs own e = both_parts (fits.is_access types t) (list_all (fits.collection_fits types) fs) own e

-- the types of the part are types
own_type : (n : ℕ) (types : List TypeForm) (i : ℕ) → slice_get (drop n types) i ≡ slice_get types (n + i)
own_type zero types i = let at : 0 + i ≡ i = omega arith in rw at refl
own_type (suc n) [] i = refl
own_type (suc n) (x ∷ types) i = let at : suc n + i ≡ suc (n + i) = omega arith in own_type n types i ∙ ap (λ j. slice_get (x ∷ types) j) (sym at)

-- what is collected is an access type
collected_is : (types : List TypeForm) (a : ℕ) (es : List DeclarationForm) → list_all (fits.collection_fits types) es ≡ true → is_collected a es ≡ true → fits.is_access types a ≡ true
collected_is types a [] all is = absurd (cc is)
collected_is types a (creates_pool p ∷ es) all is = collected_is types a es all is
collected_is types a (declares x source ∷ es) all is = collected_is types a es all is
collected_is types a (declares_record x object initial ∷ es) all is = collected_is types a es all is
collected_is types a (collects t ∷ es) all is =
    first_or (eqb t a) refl is (λ h. collected_is types a es (second_part (fits.is_access types t) (list_all (fits.collection_fits types) es) all) h)
  where
    first_or : (b : Bool) → eqb t a ≡ b → (b || is_collected a es) ≡ true → (is_collected a es ≡ true → fits.is_access types a ≡ true) → fits.is_access types a ≡ true
    first_or true same is more =
        subst (λ v. fits.is_access types v ≡ true) (eqb-true t a same) (first_part (fits.is_access types t) (list_all (fits.collection_fits types) es) all)
    first_or false off is more = more is

-- one in all
in_all : (b c : Bool) → (b ≡ true → c ≡ true) → cond b 1 0 + cond b 0 (cond c 1 0) ≡ cond c 1 0
in_all true c w = let on : c ≡ true = w refl in rw on refl
in_all false c w = omega arith

most_in_all : (b : Bool) (n m : ℕ) → n ≡ cond b 1 0 → m ≤ cond b 0 1 → n + m ≤ 1
most_in_all true n m e f = omega arith
most_in_all false n m e f = omega arith

abbrev ended : Known → Known
ended k = with_elaborated (missing_collections k) k

ended_fit : (k : Known) → Early k → list_all (fits.collection_fits k.types) (ended k).here.elaborated ≡ true
ended_fit k w =
    all_more (fits.collection_fits k.types) k.here.elaborated (missing_collections k) w.collections_fit
    (made_fit k.types (drop k.here.first_type k.types) k.here.first_type k.here.elaborated
    (λ i e. subst (λ (o : Option TypeForm). is_some (fits.designated_in o) ≡ true) (own_type k.here.first_type k.types i) e))

ended_first : (k : Known) → Early k → list_all is_first (ended k).here.elaborated ≡ true
ended_first k w = all_more is_first k.here.elaborated (missing_collections k) w.only_collections
    (made_are_first (drop k.here.first_type k.types) k.here.first_type k.here.elaborated)

ended_known : (k : Known) → Early k → list_all (makes_known (length k.pools)) (ended k).here.elaborated ≡ true
ended_known k w = all_more (makes_known (length k.pools)) k.here.elaborated (missing_collections k) w.pools
    (made_known (length k.pools) (drop k.here.first_type k.types) k.here.first_type k.here.elaborated)

ended_early : (k : Known) → Early k → Early (ended k)
ended_early k w =
    let ts = drop k.here.first_type k.types in
    let first = k.here.first_type in
    let es = k.here.elaborated in
    record {
      collections_fit = ended_fit k w;
      only_collections = ended_first k w;
      at_most_one = λ a. rw (count_more a es (missing_collections k))
          (most_in_all (is_collected a es) (count a es) (count a (missing_collections k)) (count_known a es (w.at_most_one a)) (at_most_made ts first a es));
      own = λ a less. count_more a es (missing_collections k) ∙
          (let before = w.own a less in let behind : count a (missing_collections k) ≡ 0 = later_none ts first a es less in omega (arith, before, behind));
      pools = ended_known k w;
    }

own_one : (types : List TypeForm) (es : List DeclarationForm) (n i : ℕ) → list_all (fits.collection_fits types) es ≡ true → count (n + i) es ≤ 1 → count (n + i) (es ++ collections_of n (drop n types) es) ≡ accesses types (n + i)
own_one types es n i all most =
    let front : count (n + i) es ≡ cond (is_collected (n + i) es) 1 0 = count_known (n + i) es most in
    let back : count (n + i) (collections_of n (drop n types) es) ≡ cond (is_collected (n + i) es) 0 (accesses (drop n types) i) = made (drop n types) n i es in
    count_more (n + i) es (collections_of n (drop n types) es) ∙
    (rw (front, back, own_type n types i) (in_all (is_collected (n + i) es) (fits.is_access types (n + i)) (collected_is types (n + i) es all)))

ended_one : (k : Known) → Early k → (a : ℕ) (b : Bool) → nat_le k.here.first_type a ≡ b → count a (ended k).here.elaborated ≡ cond b (accesses k.types a) 0
ended_one k w a true at =
    let there : k.here.first_type ≤ a = leb-true k.here.first_type a at in
    let same : k.here.first_type + (a - k.here.first_type) ≡ a = omega arith in
    subst (λ (v : ℕ). count v (ended k).here.elaborated ≡ accesses k.types v) same
    (own_one k.types k.here.elaborated k.here.first_type (a - k.here.first_type) w.collections_fit
    (w.at_most_one (k.here.first_type + (a - k.here.first_type))))
ended_one k w a false at =
    let less : a < k.here.first_type = leb-false k.here.first_type a at in
    (ended_early k w).own a less

ended_late : (k : Known) → Early k → types_go_on k ≡ true → Late (ended k)
ended_late k w none = record {
  collections_first = only_first (ended k).here.elaborated (ended_first k w);
  collections_fit = ended_fit k w;
  initials_fit = all_weaker is_first (fits.initial_fits k.types k.variables) (only_fit k.types k.variables) (ended k).here.elaborated (ended_first k w);
  one_each = λ a.
      let own = ended_one k w a (nat_le k.here.first_type a) refl in
      let same : k.here.first_body ≡ length k.bodies = sym (eqb-true (length k.bodies) k.here.first_body (second_part (no_variable_yet k) (no_body_yet k) none)) in
      let nothing : ended_here k a ≡ 0 = ap (λ n. bodies_collect (drop n k.bodies) a) same ∙ none_behind k.bodies a in
      omega (arith, own, nothing);
  in_order = λ n rest. only_in_order (ended k).here.elaborated n k.here.first_variable rest (ended_first k w) ∙ ap (λ v. fits.creates_from n v rest)
      (sym (eqb-true (length k.variables) k.here.first_variable (first_part (no_variable_yet k) (no_body_yet k) none)));
  pools = ended_known k w;
}

-- the types end
ends_early : (b : Bool) (k : Known) → b ≡ true → Early (ended k) × Late (ended k) → Early (ends_types b k) × Late (ends_types b k)
ends_early true k e w = w
ends_early false k e w = absurd (cc e)

ends_late : (b : Bool) (k : Known) → b ≡ false → ends_types b k ≡ k
ends_late true k e = absurd (cc e)
ends_late false k e = refl

ends_none : (b : Bool) (k : Known) → types_go_on k ≡ b → types_go_on (ends_types b k) ≡ b
ends_none true k e = e
ends_none false k e = e

pub after_late : (k : Known) → InOrder k → Late (after_types k)
unfolding after_types
after_late k (early w none) = (ends_early (types_go_on k) k none (ended_early k w, ended_late k w none)).1
after_late k (late w some) = rw (ends_late (types_go_on k) k some) w

pub after_order : (k : Known) → InOrder k → InOrder (after_types k)
unfolding after_types
after_order k (early w none) =
    early (ends_early (types_go_on k) k none (ended_early k w, ended_late k w none)).0 (ends_none (types_go_on k) k refl ∙ none)
after_order k (late w some) = rw (ends_late (types_go_on k) k some) (late w some)
