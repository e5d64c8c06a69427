use Rattle.std.proofs.Common.{◌≡◌, ℕ, ◌+◌, ◌<◌, ◌||◌, ◌==◌, List, [], ◌∷◌, ◌++◌, length, take, get_or, refl, inl, inr, sym, ap, ◌∙◌, subst}
use Rattle.std.specs.Prelude.{Some, None}
use Rattle.std.specs.Global.{Vec}
use Rattle.std.specs.List.{Contains}
use Rattle.std.proofs.lemmas.Bool.{or_cases, or_left, or_right, eqb-true, eq-eqb}
use Rattle.std.proofs.lemmas.List.{take_all}
use Rattle.std.proofs.lemmas.List.Elements.{Contains-append_left, Contains-push, Contains-push_cases}
use Rattle.std.proofs.lemmas.List.Folds.{list_any_more}
use Rattle.ada_effects.specs.Found.{has_number}
use Rattle.ada_flow.specs.Reached.{IsDesignated}
use Rattle.ada_program.specs.declared.program.TypeNo.{TypeNo}
use Rattle.ada_program.specs.Kept.{types_in}
use Rattle.ada_program.specs.ProgramForm.{TypeForm}
use Rattle.ada_program.specs.WellFormed.{designated_type}
use Rattle.ada_flow.proofs.reached.designated_types.Goals as goal
use Rattle.ada_flow.proofs.reached.designated_types.Goals.{in-Some+in_ok-push, in_default}

record AreFound (types : List TypeForm) (accesses : List TypeNo) (found : List ℕ) : Type 0 where
  all : (w : ℕ) → IsDesignated types (has_number accesses) w → Contains found w
  only : (w : ℕ) → Contains found w → IsDesignated types (has_number accesses) w

-- One access type more.
number_more : (xs : List TypeNo) (i t : ℕ) → i < length xs → has_number (take (i + 1) xs) t ≡ (has_number (take i xs) t || ((get_or xs i (record { 0 = 0 })).0 == t))
number_more xs i t inside = list_any_more (λ (x : TypeNo). x.0 == t) xs i (record { 0 = 0 }) inside

one_more : (types : List TypeForm) (xs : List TypeNo) (i : ℕ) (found after : List ℕ) (x : ℕ) → i < length xs →
    designated_type types (get_or xs i (record { 0 = 0 })).0 ≡ Some x → after ≡ found ++ x ∷ [] →
    AreFound types (take i xs) found → AreFound types (take (i + 1) xs) after
one_more types xs i found after x inside is made h = record {
  all = λ w (t, known, at). subst (λ (ys : List ℕ). Contains ys w) (sym made)
      (elim (or_cases (has_number (take i xs) t) ((get_or xs i (record { 0 = 0 })).0 == t) (sym (number_more xs i t inside) ∙ known)) [
        | inl before ↦ Contains-append_left found (x ∷ []) w (h.all w (t, before, at))
        | inr here ↦
            let same : (get_or xs i (record { 0 = 0 })).0 ≡ t = eqb-true (get_or xs i (record { 0 = 0 })).0 t here in
            let one : x ≡ w = cc (sym is ∙ ap (designated_type types) same ∙ at) in
            subst (Contains (found ++ x ∷ [])) one (Contains-push found x)
      ]);
  only = λ w g. elim (Contains-push_cases found x w (subst (λ (ys : List ℕ). Contains ys w) made g)) [
    | inl before ↦
        let (t, known, at) = h.only w before in
        (t, number_more xs i t inside ∙ or_left (has_number (take i xs) t) ((get_or xs i (record { 0 = 0 })).0 == t) known, at)
    | inr same ↦ (
      (get_or xs i (record { 0 = 0 })).0,
      number_more xs i (get_or xs i (record { 0 = 0 })).0 inside
          ∙ or_right (has_number (take i xs) (get_or xs i (record { 0 = 0 })).0) ((get_or xs i (record { 0 = 0 })).0 == (get_or xs i (record { 0 = 0 })).0)
          (eq-eqb (get_or xs i (record { 0 = 0 })).0 (get_or xs i (record { 0 = 0 })).0 refl),
      is ∙ ap (λ (y : ℕ). Some y) same,
    )
  ];
}

none_more : (types : List TypeForm) (xs : List TypeNo) (i : ℕ) (found : List ℕ) → i < length xs →
    designated_type types (get_or xs i (record { 0 = 0 })).0 ≡ None → AreFound types (take i xs) found → AreFound types (take (i + 1) xs) found
none_more types xs i found inside is h = record {
  all = λ w (t, known, at).
      elim (or_cases (has_number (take i xs) t) ((get_or xs i (record { 0 = 0 })).0 == t) (sym (number_more xs i t inside) ∙ known)) [
        | inl before ↦ h.all w (t, before, at)
        | inr here ↦
            let same : (get_or xs i (record { 0 = 0 })).0 ≡ t = eqb-true (get_or xs i (record { 0 = 0 })).0 t here in
            absurd (cc (sym is ∙ ap (designated_type types) same ∙ at))
      ];
  only = λ w g.
      let (t, known, at) = h.only w g in
      (t, number_more xs i t inside ∙ or_left (has_number (take i xs) t) ((get_or xs i (record { 0 = 0 })).0 == t) known, at);
}

pub accesses-preserved : goal.accesses-preserved
accesses-preserved c =
    let types = types_in c.args.types.now in
    let xs = c.args.accesses.now in
    let i = c.accesses.access-index in
    let before : AreFound types (take i xs) c.accesses.found.items = record { all = c.accesses.invariant.all; only = c.accesses.invariant.only } in
    let after : AreFound types (take (i + 1) xs) c.match-designated_type.found.items =
    elim c.match-designated_type.branch [
      | in-Some+in_ok-push w ↦
          subst (λ (v : Vec ℕ). AreFound types (take (i + 1) xs) v.items) (sym w.found-is)
          (one_more types xs i c.accesses.found.items w.push.new.self.items w.in-Some.whole c.accesses-test.true (sym c.designated_type.ensures ∙ w.in-Some.is)
          w.in_ok-push.ensures.items before)
      | in_default w ↦
          subst (λ (v : Vec ℕ). AreFound types (take (i + 1) xs) v.items) (sym w.found-is)
          (none_more types xs i c.accesses.found.items c.accesses-test.true (sym c.designated_type.ensures ∙ w.in_default.is) before)
    ] in
    record { all = after.all; only = after.only }

pub returns-clause-only : goal.returns-clause-only
returns-clause-only c = λ w g.
    let xs = c.args.accesses.now in
    let (t, known, at) = c.accesses.invariant.only w g in
    (t, sym (ap (λ (ys : List TypeNo). has_number ys t) (take_all c.accesses.access-index xs c.accesses-test.false)) ∙ known, at)
