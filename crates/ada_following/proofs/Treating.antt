-- What storage does where a component is picked, or an operation is called, up to the step that shows it.

use Rattle.std.proofs.Common.{◌≡◌, ℕ, ◌+◌, ◌≤◌, Bool, true, false, if◌then◌else◌, List, [], ◌∷◌, ◌++◌, Some, refl, sym, ap, ◌∙◌, ◌⊎◌, inl, inr, subst, arith}
use Rattle.std.specs.List.{remove, slice_get}
use Rattle.std.proofs.lemmas.List.{append_assoc}
use Rattle.ada_parts.specs.declared.tasks.Component.{Component}
use Rattle.ada_parts.specs.declared.tasks.Direction.TheVariants.{PartsFirst, WholeFirst}
use Rattle.ada_parts.specs.Shape.{Shape, IsTable, shape_of}
use Rattle.ada_parts.specs.Part.{components_of}
use Rattle.ada_parts.specs.Task.{Task, performs, treats, treatment_of, opened}
use Rattle.ada_storage.specs.State.{Forest, none, tree, quiet, same, Job, all_in, call, called, running, Control, State, in_forest, in_forests, in_jobs, kids_of, others_of, is_top}
use Rattle.ada_storage.specs.Step.{Choice, goes_on, takes, goes, at, Ending, frame, ends, ends_part, Beginning, frame_of, begins, begins_part, running_step}
use Rattle.ada_following.specs.Forests.{forest_at, forest_of, tops, grouped, AreNext, Begins, IsWhole, Ends}
use Rattle.ada_following.proofs.Forests.{at_step, tops_le, top_is}
use Rattle.ada_following.proofs.Groups.{next_with, next_two, next_alone, no_next, call_next, IsOpened, group_next, passed_through, is_part, kids, others_alike}
use Rattle.ada_following.proofs.Goings.{by_running, Silent, stands_still, one_more, then_silent}

-- What is left behind a component that is picked.
abbrev rest_of : List Component → (i : ℕ) → List Task → List Task
rest_of cs i rest = treatment_of (remove cs i) ++ rest

-- The state with this under way.
pub is_at : (r : State) (k : Control) → r.control ≡ k → Silent r (at k r)
is_at r k is = stands_still r (at k r) (λ j. record r { control = is j })

module _ (shapes : List Shape) (table : IsTable shapes) where
  -- What a record is, opened: its parts, and what is to be done.
  pub record Opens (c : Component) : Type 0 where
    pub forest : Forest
    pub inside : forest ≡ forest_of shapes (components_of shapes c.of c.first)
    pub whole :
        ((forest_at shapes c.of c.first ≡ tree c.first forest none)
        × (opened shapes PartsFirst c.of c.first ≡ treatment_of (components_of shapes c.of c.first) ++ performs c.of c.first ∷ [])
        × (opened shapes WholeFirst c.of c.first ≡ performs c.of c.first ∷ treatment_of (components_of shapes c.of c.first)))
        ⊎ ((forest_at shapes c.of c.first ≡ forest)
        × (opened shapes PartsFirst c.of c.first ≡ treatment_of (components_of shapes c.of c.first))
        × (opened shapes WholeFirst c.of c.first ≡ treatment_of (components_of shapes c.of c.first)))

  pub nothing_behind : (tasks : List Task) → tasks ++ [] ≡ tasks
  nothing_behind [] = refl
  nothing_behind (t ∷ ts) = ap (λ (us : List Task). t ∷ us) (nothing_behind ts)

  opens_by : (c : Component) (controlled : Bool) → (shape_of shapes c.of).controlled ≡ controlled → Opens c
  opens_by c true is = record {
    forest = forest_of shapes (components_of shapes c.of c.first);
    inside = refl;
    whole = inl (
      at_step shapes c.of c.first table ∙ ap (λ (b : Bool). if b then tree c.first (forest_of shapes (components_of shapes c.of c.first)) none else forest_of shapes (components_of shapes c.of c.first)) is,
      ap (λ (b : Bool). treatment_of (components_of shapes c.of c.first) ++ (if b then performs c.of c.first ∷ [] else [])) is,
      ap (λ (b : Bool). (if b then performs c.of c.first ∷ [] else []) ++ treatment_of (components_of shapes c.of c.first)) is,
    );
  }
  opens_by c false is = record {
    forest = forest_of shapes (components_of shapes c.of c.first);
    inside = refl;
    whole = inr (
      at_step shapes c.of c.first table ∙ ap (λ (b : Bool). if b then tree c.first (forest_of shapes (components_of shapes c.of c.first)) none else forest_of shapes (components_of shapes c.of c.first)) is,
      ap (λ (b : Bool). treatment_of (components_of shapes c.of c.first) ++ (if b then performs c.of c.first ∷ [] else [])) is ∙ nothing_behind (treatment_of (components_of shapes c.of c.first)),
      ap (λ (b : Bool). (if b then performs c.of c.first ∷ [] else []) ++ treatment_of (components_of shapes c.of c.first)) is,
    );
  }

  pub opens : (c : Component) → Opens c
  opens c = opens_by c (shape_of shapes c.of).controlled refl

  -- An initialization, or an adjustment.
  module _ (beginning : Beginning) (o : ℕ) (done : List ℕ) (at_begin : (c : Choice) (jobs : List Job) (s : State) → running_step c (frame_of beginning o jobs done) s ≡ begins jobs c beginning o done s) where
    -- the state with these jobs left
    abbrev pub doing : List Job → State → State
    doing jobs r = at (frame_of beginning o jobs done) r

    drops : (r : State) (f : Forest) (jobs : List Job) → r.control ≡ frame_of beginning o (all_in f ∷ jobs) done → r.mode ≡ running → f ≡ none → Silent r (doing jobs r)
    drops r f jobs is run e =
        one_more r (doing jobs r) (doing jobs r) goes_on
        (by_running r (frame_of beginning o (all_in none ∷ jobs) done) goes_on quiet (doing jobs r) (is ∙ ap (λ (g : Forest). frame_of beginning o (all_in g ∷ jobs) done) e) run (at_begin goes_on (all_in none ∷ jobs) r))
        (stands_still (doing jobs r) (doing jobs r) refl)

    pub takes_top : (r : State) (x : ℕ) (f : Forest) (jobs : List Job) → r.control ≡ frame_of beginning o (all_in f ∷ jobs) done → r.mode ≡ running → is_top x f ≡ true → Silent r (doing (all_in (kids_of x f) ∷ call x ∷ all_in (others_of x f) ∷ jobs) r)
    takes_top r x none jobs is run top = absurd (cc top)
    takes_top r x (tree p inside others) jobs is run top =
        let t = doing (all_in (kids_of x (tree p inside others)) ∷ call x ∷ all_in (others_of x (tree p inside others)) ∷ jobs) r in
        one_more r t t (takes x)
        (by_running r (frame_of beginning o (all_in (tree p inside others) ∷ jobs) done) (takes x) quiet t is run
        (at_begin (takes x) (all_in (tree p inside others) ∷ jobs) r ∙ ap (λ (b : Bool). begins_part b x beginning o (tree p inside others) jobs done r) top))
        (stands_still t t refl)

    -- Some silent steps lead to these jobs.
    pub record Reaches (r : State) (tasks : List Task) : Type 0 where
      pub jobs : List Job
      pub steps : Silent r (doing jobs r)
      pub left : Begins shapes jobs tasks

    after_drop : (r : State) (f : Forest) (jobs : List Job) (tasks : List Task) → r.control ≡ frame_of beginning o (all_in f ∷ jobs) done → r.mode ≡ running → f ≡ none → Reaches (doing jobs r) tasks → Reaches r tasks
    after_drop r f jobs tasks is run e m = record { jobs = m.jobs; steps = then_silent r (doing jobs r) (doing m.jobs r) (drops r f jobs is run e) m.steps; left = m.left }

    -- A component is picked.
    module _ (cs : List Component) (rest : List Task) (i : ℕ) (c : Component) (picked : slice_get cs i ≡ Some c) where
      abbrev next_tasks : List Task
      next_tasks = opened shapes PartsFirst c.of c.first ++ rest_of cs i rest

      opened_begins :
          (r : State) (f : Forest) (jobs : List Job) (behind : List Task) → r.control ≡ frame_of beginning o (all_in f ∷ jobs) done → r.mode ≡ running → ((x : ℕ) → in_forest x f ≤ 1)
          → IsOpened shapes f cs rest behind → Begins shapes jobs behind → Opens c → Reaches r next_tasks
      opened_begins r f jobs behind is run once g more u = go u.whole
        where
          inner : List Component
          inner = components_of shapes c.of c.first

          go :
              ((forest_at shapes c.of c.first ≡ tree c.first u.forest none) × (opened shapes PartsFirst c.of c.first ≡ treatment_of (components_of shapes c.of c.first) ++ performs c.of c.first ∷ []) × (opened shapes WholeFirst c.of c.first ≡ performs c.of c.first ∷ treatment_of (components_of shapes c.of c.first)))
              ⊎ ((forest_at shapes c.of c.first ≡ u.forest) × (opened shapes PartsFirst c.of c.first ≡ treatment_of (components_of shapes c.of c.first)) × (opened shapes WholeFirst c.of c.first ≡ treatment_of (components_of shapes c.of c.first)))
              → Reaches r next_tasks
          go (inl (e, p, w)) =
              let x = c.first in
              let le = tops_le x f in
              let lim = once x in
              let one : tops x f ≤ 1 = omega (arith, le, lim) in
              let a = is_part shapes f cs g.groups g.alike i c picked u.forest e one in
              let ks = kids shapes f cs g.groups g.alike i c picked u.forest e one in
              let oa = others_alike shapes f cs g.groups g.alike i c picked u.forest e one in
              let later = treatment_of (remove cs i) ++ grouped g.groups behind in
              let same_rest : rest_of cs i rest ≡ later = ap (λ (ts : List Task). treatment_of (remove cs i) ++ ts) g.next in
              let all : next_tasks ≡ treatment_of (components_of shapes c.of c.first) ++ performs c.of c.first ∷ later =
              ap (λ (ts : List Task). ts ++ rest_of cs i rest) p ∙ append_assoc (treatment_of (components_of shapes c.of c.first)) (performs c.of c.first ∷ []) (rest_of cs i rest)
              ∙ ap (λ (ts : List Task). treatment_of (components_of shapes c.of c.first) ++ performs c.of c.first ∷ ts) same_rest in
              subst (Reaches r) (sym all) (record {
                jobs = all_in (kids_of x f) ∷ call x ∷ all_in (others_of x f) ∷ jobs;
                steps = takes_top r x f jobs is run (top_is x u.forest f a);
                left = (
                  performs c.of c.first ∷ later,
                  next_alone shapes (kids_of x f) (components_of shapes c.of c.first) (performs c.of c.first ∷ later) (ks ∙ u.inside),
                  (c.of, later, refl, (behind, next_with shapes (others_of x f) (remove cs i) g.groups behind oa, more)),
                );
              })
          go (inr (e, p, w)) =
              let all : next_tasks ≡ treatment_of (components_of shapes c.of c.first) ++ (treatment_of (remove cs i) ++ grouped g.groups behind) =
              ap (λ (ts : List Task). ts ++ rest_of cs i rest) p ∙ ap (λ (ts : List Task). treatment_of (components_of shapes c.of c.first) ++ (treatment_of (remove cs i) ++ ts)) g.next in
              subst (Reaches r) (sym all) (record {
                jobs = all_in f ∷ jobs;
                steps = is_at r (frame_of beginning o (all_in f ∷ jobs) done) is;
                left = (behind, next_two shapes f (components_of shapes c.of c.first) (remove cs i) g.groups behind (passed_through shapes f cs g.groups g.alike i c picked (components_of shapes c.of c.first) (e ∙ u.inside)), more);
              })

      pub pick_begins :
          (r : State) (jobs : List Job) → r.control ≡ frame_of beginning o jobs done → r.mode ≡ running → ((x : ℕ) → in_jobs x jobs ≤ 1)
          → Begins shapes jobs (treats cs ∷ rest) → Reaches r next_tasks
      pick_begins r [] is run once b = absurd (cc b)
      pick_begins r (call p ∷ jobs) is run once b = let e = b.2 in absurd (cc e)
      pick_begins r (called p ∷ jobs) is run once b = absurd b
      pick_begins r (all_in f ∷ jobs) is run once b =
          go (group_next shapes f cs rest b.0 b.1)
          (λ d. pick_begins (doing jobs r) jobs refl run (λ x. let le = once x in omega (arith, le)) d)
        where
          go : ((f ≡ none) × (b.0 ≡ treats cs ∷ rest)) ⊎ IsOpened shapes f cs rest b.0 → (Begins shapes jobs (treats cs ∷ rest) → Reaches (doing jobs r) next_tasks) → Reaches r next_tasks
          go (inl (e, same_one)) again = after_drop r f jobs next_tasks is run e (again (subst (Begins shapes jobs) same_one b.2))
          go (inr g) again = opened_begins r f jobs b.0 is run (λ x. let le = once x in omega (arith, le)) g b.2 (opens c)

    -- An operation is called.
    pub record Calls (r : State) (p : ℕ) (tasks : List Task) : Type 0 where
      pub jobs : List Job
      pub steps : Silent r (doing (call p ∷ jobs) r)
      pub left : Begins shapes jobs tasks

    pub call_begins :
        (r : State) (t p : ℕ) (tasks : List Task) (jobs : List Job) → r.control ≡ frame_of beginning o jobs done → r.mode ≡ running → Begins shapes jobs (performs t p ∷ tasks)
        → Calls r p tasks
    call_begins r t p tasks [] is run b = absurd (cc b)
    call_begins r t p tasks (called q ∷ jobs) is run b = absurd b
    call_begins r t p tasks (call q ∷ jobs) is run b =
        let e = b.2 in
        let same_part : q ≡ p = cc in
        let same_rest : b.1 ≡ tasks = cc in
        record {
          jobs = jobs;
          steps = is_at r (frame_of beginning o (call p ∷ jobs) done) (is ∙ ap (λ (x : ℕ). frame_of beginning o (call x ∷ jobs) done) same_part);
          left = subst (Begins shapes jobs) same_rest b.3;
        }
    call_begins r t p tasks (all_in f ∷ jobs) is run b =
        let a = call_next shapes f t p tasks b.0 b.1 in
        let m = call_begins (doing jobs r) t p tasks jobs refl run (subst (Begins shapes jobs) a.1 b.2) in
        record { jobs = m.jobs; steps = then_silent r (doing jobs r) (doing (call p ∷ m.jobs) r) (drops r f jobs is run a.0) m.steps; left = m.left }

    -- Nothing is left.
    pub done_begins : (r : State) (jobs : List Job) → r.control ≡ frame_of beginning o jobs done → r.mode ≡ running → Begins shapes jobs [] → Silent r (doing [] r)
    done_begins r [] is run b = is_at r (frame_of beginning o [] done) is
    done_begins r (call p ∷ jobs) is run b = let e = b.2 in absurd (cc e)
    done_begins r (called p ∷ jobs) is run b = absurd b
    done_begins r (all_in f ∷ jobs) is run b =
        let a = no_next shapes f b.0 b.1 in
        then_silent r (doing jobs r) (doing [] r) (drops r f jobs is run a.0) (done_begins (doing jobs r) jobs refl run (subst (Begins shapes jobs) a.1 b.2))

  -- A finalization at a leaving, or by a Free.
  module _ (ending : Ending) (o : ℕ) (at_end : (c : Choice) (fs : List Forest) (s : State) → running_step c (frame ending o fs) s ≡ ends fs c ending o s) where
    -- the state with these parts left
    abbrev pub leaving : List Forest → State → State
    leaving fs r = at (frame ending o fs) r

    goes_to : (r : State) (c : Choice) (fs : List Forest) (t : State) → r.control ≡ frame ending o fs → r.mode ≡ running → ends fs c ending o r ≡ goes quiet t → Silent r t
    goes_to r c fs t is run e =
        one_more r t t c (by_running r (frame ending o fs) c quiet t is run (at_end c fs r ∙ e)) (stands_still t t refl)

    pub lets_go : (r : State) (f : Forest) (fs : List Forest) → r.control ≡ frame ending o (f ∷ fs) → r.mode ≡ running → f ≡ none → Silent r (leaving fs r)
    lets_go r f fs is run e = goes_to r goes_on (none ∷ fs) (leaving fs r) (is ∙ ap (λ (g : Forest). frame ending o (g ∷ fs)) e) run refl

    pub takes_one : (r : State) (x : ℕ) (f : Forest) (fs : List Forest) → r.control ≡ frame ending o (f ∷ fs) → r.mode ≡ running → is_top x f ≡ true → Silent r (leaving (tree x (kids_of x f) none ∷ others_of x f ∷ fs) r)
    takes_one r x none fs is run top = absurd (cc top)
    takes_one r x (tree p inside others) fs is run top =
        goes_to r (takes x) (tree p inside others ∷ fs) (leaving (tree x (kids_of x (tree p inside others)) none ∷ others_of x (tree p inside others) ∷ fs) r) is run
        (ap (λ (b : Bool). ends_part b x ending o (tree p inside others) fs r) top)

    pub record Arrives (r : State) (tasks : List Task) : Type 0 where
      pub forests : List Forest
      pub steps : Silent r (leaving forests r)
      pub left : Ends shapes forests tasks

    after_letting : (r : State) (f : Forest) (fs : List Forest) (tasks : List Task) → r.control ≡ frame ending o (f ∷ fs) → r.mode ≡ running → f ≡ none → Arrives (leaving fs r) tasks → Arrives r tasks
    after_letting r f fs tasks is run e m = record { forests = m.forests; steps = then_silent r (leaving fs r) (leaving m.forests r) (lets_go r f fs is run e) m.steps; left = m.left }

    -- A component is picked.
    module _ (cs : List Component) (rest : List Task) (i : ℕ) (c : Component) (picked : slice_get cs i ≡ Some c) where
      abbrev ending_tasks : List Task
      ending_tasks = opened shapes WholeFirst c.of c.first ++ rest_of cs i rest

      opened_ends :
          (r : State) (f : Forest) (fs : List Forest) (behind : List Task) → r.control ≡ frame ending o (f ∷ fs) → r.mode ≡ running → ((x : ℕ) → in_forest x f ≤ 1)
          → IsOpened shapes f cs rest behind → Ends shapes fs behind → Opens c → Arrives r ending_tasks
      opened_ends r f fs behind is run once g more u = go u.whole
        where
          go :
              ((forest_at shapes c.of c.first ≡ tree c.first u.forest none) × (opened shapes PartsFirst c.of c.first ≡ treatment_of (components_of shapes c.of c.first) ++ performs c.of c.first ∷ []) × (opened shapes WholeFirst c.of c.first ≡ performs c.of c.first ∷ treatment_of (components_of shapes c.of c.first)))
              ⊎ ((forest_at shapes c.of c.first ≡ u.forest) × (opened shapes PartsFirst c.of c.first ≡ treatment_of (components_of shapes c.of c.first)) × (opened shapes WholeFirst c.of c.first ≡ treatment_of (components_of shapes c.of c.first)))
              → Arrives r ending_tasks
          go (inl (e, p, w)) =
              let x = c.first in
              let le = tops_le x f in
              let lim = once x in
              let one : tops x f ≤ 1 = omega (arith, le, lim) in
              let a = is_part shapes f cs g.groups g.alike i c picked u.forest e one in
              let ks = kids shapes f cs g.groups g.alike i c picked u.forest e one in
              let oa = others_alike shapes f cs g.groups g.alike i c picked u.forest e one in
              let later = treatment_of (remove cs i) ++ grouped g.groups behind in
              let same_rest : rest_of cs i rest ≡ later = ap (λ (ts : List Task). treatment_of (remove cs i) ++ ts) g.next in
              let all : ending_tasks ≡ performs c.of c.first ∷ (treatment_of (components_of shapes c.of c.first) ++ later) =
              ap (λ (ts : List Task). ts ++ rest_of cs i rest) w ∙ ap (λ (ts : List Task). performs c.of c.first ∷ (treatment_of (components_of shapes c.of c.first) ++ ts)) same_rest in
              subst (Arrives r) (sym all) (record {
                forests = tree x (kids_of x f) none ∷ others_of x f ∷ fs;
                steps = takes_one r x f fs is run (top_is x u.forest f a);
                left = (
                  later,
                  inr (record { of = c.of; part = x; inside = kids_of x f; rest = treatment_of (components_of shapes c.of c.first) ++ later; is = refl; first = refl; components = next_alone shapes (kids_of x f) (components_of shapes c.of c.first) later (ks ∙ u.inside) }),
                  (behind, inl (next_with shapes (others_of x f) (remove cs i) g.groups behind oa), more),
                );
              })
          go (inr (e, p, w)) =
              let all : ending_tasks ≡ treatment_of (components_of shapes c.of c.first) ++ (treatment_of (remove cs i) ++ grouped g.groups behind) =
              ap (λ (ts : List Task). ts ++ rest_of cs i rest) w ∙ ap (λ (ts : List Task). treatment_of (components_of shapes c.of c.first) ++ (treatment_of (remove cs i) ++ ts)) g.next in
              subst (Arrives r) (sym all) (record {
                forests = f ∷ fs;
                steps = is_at r (frame ending o (f ∷ fs)) is;
                left = (behind, inl (next_two shapes f (components_of shapes c.of c.first) (remove cs i) g.groups behind (passed_through shapes f cs g.groups g.alike i c picked (components_of shapes c.of c.first) (e ∙ u.inside))), more);
              })

      pub pick_ends :
          (r : State) (fs : List Forest) → r.control ≡ frame ending o fs → r.mode ≡ running → ((x : ℕ) → in_forests x fs ≤ 1)
          → Ends shapes fs (treats cs ∷ rest) → Arrives r ending_tasks
      pick_ends r [] is run once b = absurd (cc b)
      pick_ends r (f ∷ fs) is run once b = go b.1 (λ d. pick_ends (leaving fs r) fs refl run (λ x. let le = once x in omega (arith, le)) d)
        where
          opens_or_not : ((f ≡ none) × (b.0 ≡ treats cs ∷ rest)) ⊎ IsOpened shapes f cs rest b.0 → (Ends shapes fs (treats cs ∷ rest) → Arrives (leaving fs r) ending_tasks) → Arrives r ending_tasks
          opens_or_not (inl (e, same_one)) again = after_letting r f fs ending_tasks is run e (again (subst (Ends shapes fs) same_one b.2))
          opens_or_not (inr g) again = opened_ends r f fs b.0 is run (λ x. let le = once x in omega (arith, le)) g b.2 (opens c)

          go : AreNext shapes f (treats cs ∷ rest) b.0 ⊎ IsWhole shapes f (treats cs ∷ rest) b.0 → (Ends shapes fs (treats cs ∷ rest) → Arrives (leaving fs r) ending_tasks) → Arrives r ending_tasks
          go (inl a) again = opens_or_not (group_next shapes f cs rest b.0 a) again
          go (inr w) again = let e = w.first in absurd (cc e)

    -- An operation is called.
    pub record CallsEnd (r : State) (before : List Forest) (p : ℕ) (tasks : List Task) : Type 0 where
      pub inside : Forest
      pub forests : List Forest
      pub steps : Silent r (leaving (tree p inside none ∷ forests) r)
      pub left : Ends shapes (inside ∷ forests) tasks
      pub counts : (q : ℕ) → in_forests q before ≡ same q p + in_forests q (inside ∷ forests)

    pub call_ends :
        (r : State) (t p : ℕ) (tasks : List Task) (fs : List Forest) → r.control ≡ frame ending o fs → r.mode ≡ running → Ends shapes fs (performs t p ∷ tasks)
        → CallsEnd r fs p tasks
    call_ends r t p tasks [] is run b = absurd (cc b)
    call_ends r t p tasks (f ∷ fs) is run b = go b.1 (λ d. call_ends (leaving fs r) t p tasks fs refl run d)
      where
        drops_first : (f ≡ none) → CallsEnd (leaving fs r) fs p tasks → CallsEnd r (f ∷ fs) p tasks
        drops_first e m = record {
          inside = m.inside;
          forests = m.forests;
          steps = then_silent r (leaving fs r) (leaving (tree p m.inside none ∷ m.forests) r) (lets_go r f fs is run e) m.steps;
          left = m.left;
          counts = λ q. let a = ap (in_forest q) e in let c = m.counts q in omega (arith, a, c);
        }

        go : AreNext shapes f (performs t p ∷ tasks) b.0 ⊎ IsWhole shapes f (performs t p ∷ tasks) b.0 → (Ends shapes fs (performs t p ∷ tasks) → CallsEnd (leaving fs r) fs p tasks) → CallsEnd r (f ∷ fs) p tasks
        go (inl a) again = let n = call_next shapes f t p tasks b.0 a in drops_first n.0 (again (subst (Ends shapes fs) n.1 b.2))
        go (inr w) again =
            let e = w.first in
            let same_part : w.part ≡ p = cc in
            let same_rest : w.rest ≡ tasks = cc in
            record {
              inside = w.inside;
              forests = fs;
              steps = is_at r (frame ending o (tree p w.inside none ∷ fs)) (is ∙ ap (λ (g : Forest). frame ending o (g ∷ fs)) (w.is ∙ ap (λ (x : ℕ). tree x w.inside none) same_part));
              left = (b.0, inl (subst (λ (ts : List Task). AreNext shapes w.inside ts b.0) same_rest w.components), b.2);
              counts = λ q. let a = ap (in_forest q) w.is in let d = ap (same q) same_part in omega (arith, a, d);
            }

    -- Nothing is left.
    pub done_ends : (r : State) (fs : List Forest) → r.control ≡ frame ending o fs → r.mode ≡ running → Ends shapes fs [] → Silent r (leaving [] r)
    done_ends r [] is run b = is_at r (frame ending o []) is
    done_ends r (f ∷ fs) is run b = go b.1 (λ d. done_ends (leaving fs r) fs refl run d)
      where
        go : AreNext shapes f [] b.0 ⊎ IsWhole shapes f [] b.0 → (Ends shapes fs [] → Silent (leaving fs r) (leaving [] r)) → Silent r (leaving [] r)
        go (inl a) again = let n = no_next shapes f b.0 a in then_silent r (leaving fs r) (leaving [] r) (lets_go r f fs is run n.0) (again (subst (Ends shapes fs) n.1 b.2))
        go (inr w) again = let e = w.first in absurd (cc e)
