use Rattle.std.proofs.Common.{◌≡◌, ℕ, true, false, not, get_or, set, refl, sym, ap, ◌∙◌, arith, Some, None, Contains, length-set, get_or-set_same, subst}
use Rattle.std.specs.List.{position}
use Rattle.std.proofs.lemmas.List.Quantifiers.{position-Some}
use Rattle.pool_kinds.specs.Kinds.{opened_subpool, open_from}
use Rattle.pool_kinds.specs.Marked.{Subpools}
use Rattle.pool_kinds.proofs.Numbers.{opened_is, none_opens, off_is, on_is, no_closed, flag_open, stays_open}
use Rattle.pool_kinds.proofs.subpools.SubpoolPoolPool.open.Goals as goal

pub returns-in-Some-clause-some : goal.returns-in-Some-clause-some
returns-in-Some-clause-some c =
    let flags = c.self.inside.flags.items in let p = c.in-Some.index in
    let at : position not flags ≡ Some p = ap (position not) (sym c.deref.ensures.value) ∙ sym c.first_closed.ensures ∙ c.in-Some.is in
    let x = position-Some not flags p false at in
    ap (λ (q : Subpools). opened_subpool q.owners) (sym c.self.view_is)
    ∙ opened_is flags p c.self.invariant x.0 (off_is (get_or flags p false) x.1) (λ j less. on_is (get_or flags j false) (x.2 j less))
    ∙ ap (λ (n : ℕ). Some (n, open_from 1 (set flags p true))) (omega arith)

pub returns-in-None-clause-none : goal.returns-in-None-clause-none
returns-in-None-clause-none c =
    let flags = c.self.inside.flags.items in
    let at : position not flags ≡ None = ap (position not) (sym c.deref.ensures.value) ∙ sym c.first_closed.ensures ∙ c.in-None.is in (
      ap (λ (q : Subpools). opened_subpool q.owners) (sym c.self.view_is) ∙ none_opens flags c.self.invariant (no_closed flags at),
      refl,
    )

pub returns-in-Some-clause-is_open : goal.returns-in-Some-clause-is_open
returns-in-Some-clause-is_open c =
    let flags = c.self.inside.flags.items in let p = c.in-Some.index in
    let at : position not flags ≡ Some p = ap (position not) (sym c.deref.ensures.value) ∙ sym c.first_closed.ensures ∙ c.in-Some.is in
    let x = position-Some not flags p false at in let long = length-set flags p true in
    subst (Contains (open_from 1 (set flags p true))) (omega arith) (flag_open 1 (set flags p true) p (omega (arith, x.0)) (get_or-set_same flags p true false x.0))

pub returns-in-Some-clause-still_open : goal.returns-in-Some-clause-still_open
returns-in-Some-clause-still_open c other is_open =
    let flags = c.self.inside.flags.items in let p = c.in-Some.index in
    let at : position not flags ≡ Some p = ap (position not) (sym c.deref.ensures.value) ∙ sym c.first_closed.ensures ∙ c.in-Some.is in
    let x = position-Some not flags p false at in
    stays_open flags p true other x.0 (λ _. refl) (subst (λ (q : Subpools). Contains q.owners other) (sym c.self.view_is) is_open)
