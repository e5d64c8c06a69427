-- What is left of a treatment, and what storage does where a component is picked or an operation is called.

use Rattle.std.proofs.Common.{◌≡◌, ◌≢◌, ℕ, ◌+◌, ◌≤◌, List, [], ◌∷◌, ◌++◌, Some, refl, sym, ap, ◌∙◌, ◌⊎◌, inl, inr, subst, arith}
use Rattle.std.specs.List.{remove, slice_get}
use Rattle.ada_parts.specs.declared.tasks.Component.{Component}
use Rattle.ada_parts.specs.Shape.{Shape}
use Rattle.ada_parts.specs.Task.{Task, performs, treats, treatment_of}
use Rattle.ada_storage.specs.State.{Forest, none, tree, same, kids_of, others_of}
use Rattle.ada_storage.proofs.Facts.{same_self}
use Rattle.ada_following.specs.Forests.{forest_at, forest_of, tops, HasTree, AreAlike, grouped, in_groups, AreNext}
use Rattle.ada_following.proofs.Forests.{of_both, tops_both, tree_first, tree_later, tree_either, tree_counts, no_tops, kids_are, others_count, others_keep, pick_counts, pick_here, pick_others}

-- Groups with one more in front, if it has components.
abbrev groups_with : List Component → List (List Component) → List (List Component)
groups_with [] groups = groups
groups_with (c ∷ cs) groups = (c ∷ cs) ∷ groups

grouped_with : (cs : List Component) (groups : List (List Component)) (behind : List Task) → treatment_of cs ++ grouped groups behind ≡ grouped (groups_with cs groups) behind
grouped_with [] groups behind = refl
grouped_with (c ∷ cs) groups behind = refl

in_groups_with : (cs : List Component) (groups : List (List Component)) → in_groups (groups_with cs groups) ≡ cs ++ in_groups groups
in_groups_with [] groups = refl
in_groups_with (c ∷ cs) groups = refl

module _ (shapes : List Shape) where
  pub next_with : (f : Forest) (cs : List Component) (groups : List (List Component)) (behind : List Task) → AreAlike f (forest_of shapes (cs ++ in_groups groups)) → AreNext shapes f (treatment_of cs ++ grouped groups behind) behind
  next_with f cs groups behind a = record {
    groups = groups_with cs groups;
    next = grouped_with cs groups behind;
    alike = subst (λ (ds : List Component). AreAlike f (forest_of shapes ds)) (sym (in_groups_with cs groups)) a;
  }

  -- Two groups in front.
  pub next_two :
      (f : Forest) (xs ys : List Component) (groups : List (List Component)) (behind : List Task) → AreAlike f (forest_of shapes (xs ++ (ys ++ in_groups groups)))
      → AreNext shapes f (treatment_of xs ++ (treatment_of ys ++ grouped groups behind)) behind
  next_two f xs ys groups behind a =
      subst (λ (ts : List Task). AreNext shapes f (treatment_of xs ++ ts) behind) (sym (grouped_with ys groups behind))
      (next_with f xs (groups_with ys groups) behind (subst (λ (ds : List Component). AreAlike f (forest_of shapes (xs ++ ds))) (sym (in_groups_with ys groups)) a))

  nil_right : (cs : List Component) → cs ++ [] ≡ cs
  nil_right [] = refl
  nil_right (c ∷ cs) = ap (λ (ds : List Component). c ∷ ds) (nil_right cs)

  pub next_alone : (f : Forest) (cs : List Component) (behind : List Task) → f ≡ forest_of shapes cs → AreNext shapes f (treatment_of cs ++ behind) behind
  next_alone f cs behind is =
      next_with f cs [] behind
      (subst (λ (g : Forest). AreAlike g (forest_of shapes (cs ++ []))) (ap (forest_of shapes) (nil_right cs) ∙ sym is) (record { counts = λ x. refl; trees = λ x k h. h }))

  -- None is open.
  is_none : (f : Forest) → AreAlike f none → f ≡ none
  is_none f a = no_tops f (λ x. a.counts x)

  pub no_next : (f : Forest) (behind : List Task) → AreNext shapes f [] behind → (f ≡ none) × (behind ≡ [])
  no_next f behind a = go a.groups a.next a.alike
    where
      go : (groups : List (List Component)) → [] ≡ grouped groups behind → AreAlike f (forest_of shapes (in_groups groups)) → (f ≡ none) × (behind ≡ [])
      go [] e alike = (is_none f alike, sym e)
      go (cs ∷ groups) e alike = absurd (cc e)

  pub call_next : (f : Forest) (t p : ℕ) (rest behind : List Task) → AreNext shapes f (performs t p ∷ rest) behind → (f ≡ none) × (behind ≡ performs t p ∷ rest)
  call_next f t p rest behind a = go a.groups a.next a.alike
    where
      go : (groups : List (List Component)) → performs t p ∷ rest ≡ grouped groups behind → AreAlike f (forest_of shapes (in_groups groups)) → (f ≡ none) × (behind ≡ performs t p ∷ rest)
      go [] e alike = (is_none f alike, sym e)
      go (cs ∷ groups) e alike = absurd (cc e)

  -- A group is open.
  pub record IsOpened (f : Forest) (cs : List Component) (rest behind : List Task) : Type 0 where
    pub groups : List (List Component)
    pub next : rest ≡ grouped groups behind
    pub alike : AreAlike f (forest_of shapes (cs ++ in_groups groups))

  pub group_next :
      (f : Forest) (cs : List Component) (rest behind : List Task) → AreNext shapes f (treats cs ∷ rest) behind
      → ((f ≡ none) × (behind ≡ treats cs ∷ rest)) ⊎ IsOpened f cs rest behind
  group_next f cs rest behind a = go a.groups a.next a.alike
    where
      go : (groups : List (List Component)) → treats cs ∷ rest ≡ grouped groups behind → AreAlike f (forest_of shapes (in_groups groups)) → ((f ≡ none) × (behind ≡ treats cs ∷ rest)) ⊎ IsOpened f cs rest behind
      go [] e alike = inl (is_none f alike, sym e)
      go (ds ∷ groups) e alike =
          let same_group : cs ≡ ds = cc in
          let same_rest : rest ≡ grouped groups behind = cc in
          inr (record { groups = groups; next = same_rest; alike = subst (λ (es : List Component). AreAlike f (forest_of shapes (es ++ in_groups groups))) (sym same_group) alike })

  module _ (f : Forest) (cs : List Component) (groups : List (List Component)) (a : AreAlike f (forest_of shapes (cs ++ in_groups groups))) (i : ℕ) (c : Component) (is : slice_get cs i ≡ Some c) where
    -- all that is open, without the component
    abbrev others : List Component
    others = remove cs i ++ in_groups groups

    split_counts : (x : ℕ) → tops x f ≡ tops x (forest_at shapes c.of c.first) + tops x (forest_of shapes others)
    split_counts x =
        let p = a.counts x in
        let q = ap (tops x) (of_both shapes cs (in_groups groups)) ∙ tops_both x (forest_of shapes cs) (forest_of shapes (in_groups groups)) in
        let r = pick_counts shapes cs i c x is in
        let t = ap (tops x) (of_both shapes (remove cs i) (in_groups groups)) ∙ tops_both x (forest_of shapes (remove cs i)) (forest_of shapes (in_groups groups)) in
        omega (arith, p, q, r, t)

    from_first : (x : ℕ) (k : Forest) → HasTree x k (forest_of shapes cs) → HasTree x k f
    from_first x k h = a.trees x k (subst (HasTree x k) (sym (of_both shapes cs (in_groups groups))) (tree_first x k (forest_of shapes cs) (forest_of shapes (in_groups groups)) h))

    from_picked : (x : ℕ) (k : Forest) → HasTree x k (forest_at shapes c.of c.first) → HasTree x k f
    from_picked x k h = from_first x k (pick_here shapes cs i c x k is h)

    from_others : (x : ℕ) (k : Forest) → HasTree x k (forest_of shapes others) → HasTree x k f
    from_others x k h =
        elim (tree_either x k (forest_of shapes (remove cs i)) (forest_of shapes (in_groups groups)) (subst (HasTree x k) (of_both shapes (remove cs i) (in_groups groups)) h)) [
          | inl b ↦ from_first x k (pick_others shapes cs i x k b)
          | inr b ↦ a.trees x k (subst (HasTree x k) (sym (of_both shapes cs (in_groups groups))) (tree_later x k (forest_of shapes cs) (forest_of shapes (in_groups groups)) b))
        ]

    -- It is not controlled: its components are open now.
    pub passed_through : (ds : List Component) → forest_at shapes c.of c.first ≡ forest_of shapes ds → AreAlike f (forest_of shapes (ds ++ others))
    passed_through ds e = record { counts = counts; trees = trees }
      where
        counts : (x : ℕ) → tops x f ≡ tops x (forest_of shapes (ds ++ others))
        counts x =
            let p = split_counts x in
            let q = ap (tops x) e in
            let r = ap (tops x) (of_both shapes ds others) ∙ tops_both x (forest_of shapes ds) (forest_of shapes others) in
            omega (arith, p, q, r)

        trees : (x : ℕ) (k : Forest) → HasTree x k (forest_of shapes (ds ++ others)) → HasTree x k f
        trees x k h =
            elim (tree_either x k (forest_of shapes ds) (forest_of shapes others) (subst (HasTree x k) (of_both shapes ds others) h)) [
              | inl b ↦ from_picked x k (subst (HasTree x k) (sym e) b)
              | inr b ↦ from_others x k b
            ]

    -- It is controlled, and so it is a part.
    module _ (k : Forest) (e : forest_at shapes c.of c.first ≡ tree c.first k none) (once : tops c.first f ≤ 1) where
      pub is_part : HasTree c.first k f
      is_part = from_picked c.first k (subst (HasTree c.first k) (sym e) (inl (refl, refl)))

      pub kids : kids_of c.first f ≡ k
      kids = kids_are c.first k f is_part once

      pub others_alike : AreAlike (others_of c.first f) (forest_of shapes others)
      others_alike = record { counts = counts; trees = trees }
        where
          picked_counts : (y : ℕ) → tops y (forest_at shapes c.of c.first) ≡ same y c.first + 0
          picked_counts y = ap (tops y) e

          counts : (y : ℕ) → tops y (others_of c.first f) ≡ tops y (forest_of shapes others)
          counts y =
              let p = split_counts y in
              let q = picked_counts y in
              let r = others_count c.first y k f is_part in
              omega (arith, p, q, r)

          trees : (y : ℕ) (j : Forest) → HasTree y j (forest_of shapes others) → HasTree y j (others_of c.first f)
          trees y j h = others_keep c.first y j f apart (from_others y j h)
            where
              apart : y ≢ c.first
              apart same_one =
                  let some = tree_counts y j (forest_of shapes others) h in
                  let at_first = ap (λ (z : ℕ). tops z (forest_of shapes others)) same_one in
                  let p = split_counts c.first in
                  let q = picked_counts c.first in
                  let one = same_self c.first in
                  let le = once in
                  omega (arith, some, at_first, p, q, one, le)
