-- A record that is assigned: storage finalizes its parts, and then it adjusts them.

use Rattle.std.proofs.Common.{◌≡◌, ℕ, Bool, true, false, cond, if◌then◌else◌, List, [], ◌∷◌, ◌++◌, Option, Some, None, refl, sym, ap, ◌∙◌, subst}
use Rattle.std.proofs.lemmas.List.{append-nil}
use Rattle.ada_parts.specs.declared.tasks.Component.{Component}
use Rattle.ada_parts.specs.declared.tasks.Direction.TheVariants.{PartsFirst, WholeFirst}
use Rattle.ada_parts.specs.Shape.{Shape, IsTable, shape_of}
use Rattle.ada_parts.specs.Part.{components_of}
use Rattle.ada_parts.specs.Task.{Task, performs, treats, treatment_of}
use Rattle.ada_meaning.specs.Step.{tasks_in}
use Rattle.ada_storage.specs.State.{Forest, none, tree, Job, all_in, call, is_top, kids_of, others_of, assigns, adjusts, in_forest}
use Rattle.ada_storage.specs.State as storage
use Rattle.ada_storage.specs.Step.{goes_on, at, at_adjustment}
use Rattle.ada_storage.proofs.Facts.{eq_self}
use Rattle.ada_following.specs.Forests.{forest_of, forest_in, forest_adjusted, AreAlike, Begins}
use Rattle.ada_following.proofs.Forests.{at_step}
use Rattle.ada_following.proofs.Frames.{IsRecord}
use Rattle.ada_following.proofs.Goings.{by_running, Silent, stands_still, one_more, then_silent}
use Rattle.ada_following.proofs.Treating.{takes_top, Reaches, done_begins}

-- What is to be done where a record is adjusted, and its parts.
module _ (shapes : List Shape) (table : IsTable shapes) where
  abbrev own : Bool → (of part : ℕ) → List Task
  own true t p = performs t p ∷ []
  own false t p = []

  own_is : (b : Bool) (t p : ℕ) → (if b then performs t p ∷ [] else []) ≡ own b t p
  own_is true t p = refl
  own_is false t p = refl

  is_record : (cs : List Component) (b : Bool) (t p : ℕ) → IsRecord (treatment_of cs ++ own b t p)
  is_record [] true t p = refl
  is_record [] false t p = tt
  is_record (c ∷ cs) true t p = refl
  is_record (c ∷ cs) false t p = tt

  is_around : (cs : List Component) (b : Bool) (t p : ℕ) → forest_adjusted shapes (treatment_of cs ++ own b t p) ≡ (if b then tree p (forest_of shapes cs) none else forest_of shapes cs)
  is_around [] true t p = refl
  is_around [] false t p = refl
  is_around (c ∷ cs) true t p = refl
  is_around (c ∷ cs) false t p = refl

  none_of_both : (cs : List Component) (b : Bool) (t p : ℕ) → treatment_of cs ++ own b t p ≡ [] → own b t p ++ treatment_of cs ≡ []
  none_of_both [] true t p e = absurd (cc e)
  none_of_both [] false t p e = refl
  none_of_both (c ∷ cs) b t p e = absurd (cc e)

  pub record_is : (d : Option ℕ) (p : ℕ) → IsRecord (tasks_in shapes PartsFirst d p)
  record_is None p = tt
  record_is (Some t) p =
      subst (λ (ts : List Task). IsRecord (treatment_of (components_of shapes t p) ++ ts)) (sym (own_is (shape_of shapes t).controlled t p))
      (is_record (components_of shapes t p) (shape_of shapes t).controlled t p)

  pub record_forest : (d : Option ℕ) (p : ℕ) → forest_adjusted shapes (tasks_in shapes PartsFirst d p) ≡ forest_in shapes d p
  record_forest None p = refl
  record_forest (Some t) p =
      ap (λ (ts : List Task). forest_adjusted shapes (treatment_of (components_of shapes t p) ++ ts)) (own_is (shape_of shapes t).controlled t p)
      ∙ is_around (components_of shapes t p) (shape_of shapes t).controlled t p
      ∙ sym (at_step shapes t p table)

  pub record_none : (d : Option ℕ) (p : ℕ) → tasks_in shapes PartsFirst d p ≡ [] → tasks_in shapes WholeFirst d p ≡ []
  record_none None p e = refl
  record_none (Some t) p e =
      ap (λ (ts : List Task). ts ++ treatment_of (components_of shapes t p)) (own_is (shape_of shapes t).controlled t p)
      ∙ none_of_both (components_of shapes t p) (shape_of shapes t).controlled t p
      (ap (λ (ts : List Task). treatment_of (components_of shapes t p) ++ ts) (sym (own_is (shape_of shapes t).controlled t p)) ∙ e)

  -- An assignment goes on with the adjustment, which begins, and ends.
  module _ (o : ℕ) (f : Forest) (K : storage.Control) where
    pub adjusts_next : (n : ℕ) (r : storage.State) → r.control ≡ assigns n o f [] K → r.mode ≡ storage.running → Silent r (at (adjusts o f (all_in f ∷ []) [] K) r)
    adjusts_next n r is run =
        let t = at (adjusts o f (all_in f ∷ []) [] K) r in
        one_more r t t goes_on (by_running r (assigns n o f [] K) goes_on storage.quiet t is run refl) (stands_still t t refl)

    pub adjusts_empty : (jobs : List Job) (done : List ℕ) (r : storage.State) → r.control ≡ adjusts o f jobs done K → r.mode ≡ storage.running → Begins shapes jobs [] → Silent r (at (adjusts o f [] done K) r)
    adjusts_empty jobs done r is run b = done_begins shapes table (at_adjustment f K) o done (λ c js q. refl) r jobs is run b

    pub adjusts_done : (jobs : List Job) (done : List ℕ) (r : storage.State) → r.control ≡ adjusts o f jobs done K → r.mode ≡ storage.running → Begins shapes jobs [] → Silent r (at K r)
    adjusts_done jobs done r is run b =
        let r1 = at (adjusts o f [] done K) r in
        let t = at K r in
        then_silent r r1 t (done_begins shapes table (at_adjustment f K) o done (λ c js q. refl) r jobs is run b)
        (one_more r1 t t goes_on (by_running r1 (adjusts o f [] done K) goes_on storage.quiet t refl run refl) (stands_still t t refl))

    -- these jobs come first
    abbrev First : storage.State → List Task → Type 0
    First r tasks = Reaches shapes table (at_adjustment f K) o [] (λ c js q. refl) r tasks

    components_first : (cs : List Component) (r : storage.State) → f ≡ forest_of shapes cs → r.control ≡ adjusts o f (all_in f ∷ []) [] K → First r (treats cs ∷ [])
    components_first cs r e is = record {
      jobs = all_in f ∷ [];
      steps = stands_still r (at (adjusts o f (all_in f ∷ []) [] K) r) (λ i. record r { control = is i });
      left = (
        [],
        record {
          groups = cs ∷ [];
          next = refl;
          alike = subst (AreAlike f) (ap (forest_of shapes) (sym (append-nil cs))) (subst (λ (g : Forest). AreAlike f g) e (record { counts = λ x. refl; trees = λ x k h. h }));
        },
        refl,
      );
    }

    whole_first :
        (t p : ℕ) (inside : Forest) (tasks : List Task) (r : storage.State) → f ≡ tree p inside none → r.control ≡ adjusts o f (all_in f ∷ []) [] K → r.mode ≡ storage.running
        → ((jobs : List Job) → Begins shapes jobs (performs t p ∷ []) → Begins shapes (all_in inside ∷ jobs) tasks) → First r tasks
    whole_first t p inside tasks r e is run more =
        let self = eq_self p in
        let top : is_top p f ≡ true = ap (is_top p) e ∙ ap (λ (b : Bool). cond b true false) self in
        let kids : kids_of p f ≡ inside = ap (kids_of p) e ∙ ap (λ (b : Bool). cond b inside none) self in
        let others : others_of p f ≡ none = ap (others_of p) e ∙ ap (λ (b : Bool). cond b none (tree p inside none)) self in
        record {
          jobs = all_in (kids_of p f) ∷ call p ∷ all_in (others_of p f) ∷ [];
          steps = takes_top shapes table (at_adjustment f K) o [] (λ c js q. refl) r p f [] is run top;
          left =
              subst (λ (g : Forest). Begins shapes (all_in g ∷ call p ∷ all_in (others_of p f) ∷ []) tasks) (sym kids)
              (subst (λ (g : Forest). Begins shapes (all_in inside ∷ call p ∷ all_in g ∷ []) tasks) (sym others)
              (more (call p ∷ all_in none ∷ []) (t, [], refl, ([], record { groups = []; next = refl; alike = record { counts = λ x. refl; trees = λ x k h. h } }, refl))));
        }

    pub starts_adjusting : (tasks : List Task) (r : storage.State) → IsRecord tasks → forest_adjusted shapes tasks ≡ f → r.control ≡ adjusts o f (all_in f ∷ []) [] K → r.mode ≡ storage.running → First r tasks
    starts_adjusting [] r is e at_r run = record {
      jobs = all_in f ∷ [];
      steps = stands_still r (at (adjusts o f (all_in f ∷ []) [] K) r) (λ i. record r { control = at_r i });
      left = ([], record { groups = []; next = refl; alike = subst (λ (g : Forest). AreAlike g none) e (record { counts = λ x. refl; trees = λ x k h. h }) }, refl);
    }
    starts_adjusting (treats cs ∷ []) r is e at_r run = components_first cs r (sym e) at_r
    starts_adjusting (treats cs ∷ treats ds ∷ rest) r is e at_r run = absurd is
    starts_adjusting (treats cs ∷ performs t p ∷ rest) r is e at_r run =
        whole_first t p (forest_of shapes cs) (treats cs ∷ performs t p ∷ rest) r (sym e) at_r run
        (λ jobs more. (
          performs t p ∷ [],
          record {
            groups = cs ∷ [];
            next = ap (λ (ts : List Task). treats cs ∷ performs t p ∷ ts) is;
            alike = subst (AreAlike (forest_of shapes cs)) (ap (forest_of shapes) (sym (append-nil cs))) (record { counts = λ x. refl; trees = λ x k h. h });
          },
          more,
        ))
    starts_adjusting (performs t p ∷ rest) r is e at_r run =
        whole_first t p none (performs t p ∷ rest) r (sym e) at_r run
        (λ jobs more. (performs t p ∷ [], record { groups = []; next = ap (λ (ts : List Task). performs t p ∷ ts) is; alike = record { counts = λ x. refl; trees = λ x k h. h } }, more))
