use Rattle.std.proofs.Common.{◌≡◌, ℕ, ◌+◌, List, [], ◌∷◌, ◌++◌, inl, inr, sym, ap, ◌∙◌, subst, arith}
use Rattle.std.specs.Prelude.{Option, Some, None}
use Rattle.std.specs.Global.{Vec}
use Rattle.std.specs.List.{Contains}
use Rattle.std.proofs.lemmas.Bool.{cases_lt}
use Rattle.std.proofs.lemmas.List.Elements.{Contains-append_left, Contains-push, Contains-push_cases}
use Rattle.ada_operations.specs.View.{begun_type, IsBegun}
use Rattle.ada_operations.specs.declared.places.Place.{Place}
use Rattle.ada_program.specs.Kept.{types_in}
use Rattle.ada_program.specs.ProgramForm.{TypeForm}
use Rattle.ada_operations.proofs.late.begun_types.Goals as goal
use Rattle.ada_operations.proofs.late.begun_types.Goals.{in-Some+in_ok-push, in_default}

record IsAll (types : List TypeForm) (table : List (Option Place)) (place : Place) (count : ℕ) (begun : List ℕ) : Type 0 where
  all : (w : ℕ) → IsBegun types table place count w → Contains begun w
  only : (w : ℕ) → Contains begun w → IsBegun types table place count w

one_more : (types : List TypeForm) (table : List (Option Place)) (place : Place) (t : ℕ) (begun after : List ℕ) (x : ℕ) → begun_type types table place t ≡ Some x →
    after ≡ begun ++ x ∷ [] → IsAll types table place t begun → IsAll types table place (t + 1) after
one_more types table place t begun after x is made h = record {
  all = λ w g. subst (λ (xs : List ℕ). Contains xs w) (sym made) (elim (cases_lt g.0 t) [
    | inl less ↦ Contains-append_left begun (x ∷ []) w (h.all w (g.0, less, g.2))
    | inr more ↦
        let here : t ≡ g.0 = omega (arith, more, g.1) in
        let same : x ≡ w = cc (sym is ∙ ap (begun_type types table place) here ∙ g.2) in
        subst (Contains (begun ++ x ∷ [])) same (Contains-push begun x)
  ]);
  only = λ w g. elim (Contains-push_cases begun x w (subst (λ (xs : List ℕ). Contains xs w) made g)) [
    | inl before ↦ let (n, lt, at) = h.only w before in (n, omega (arith, lt), at)
    | inr same ↦ (t, omega arith, is ∙ ap (λ (y : ℕ). Some y) same)
  ];
}

none_more : (types : List TypeForm) (table : List (Option Place)) (place : Place) (t : ℕ) (begun : List ℕ) → begun_type types table place t ≡ None →
    IsAll types table place t begun → IsAll types table place (t + 1) begun
none_more types table place t begun is h = record {
  all = λ w g. elim (cases_lt g.0 t) [
    | inl less ↦ h.all w (g.0, less, g.2)
    | inr more ↦
        let here : t ≡ g.0 = omega (arith, more, g.1) in
        absurd (cc (sym is ∙ ap (begun_type types table place) here ∙ g.2))
  ];
  only = λ w g. let (n, lt, at) = h.only w g in (n, omega (arith, lt), at);
}

pub types-preserved : goal.types-preserved
types-preserved c =
    let types = types_in c.args.types.now in
    let table = c.args.places.now.table.items in
    let i = c.types.invariant in
    let before : IsAll types table c.args.place c.types.access c.types.begun.items = record { all = i.all; only = i.only } in
    let after : IsAll types table c.args.place (c.types.access + 1) c.match-begun_type.begun.items =
    elim c.match-begun_type.branch [
      | in-Some+in_ok-push w ↦
          subst (λ (v : Vec ℕ). IsAll types table c.args.place (c.types.access + 1) v.items) (sym w.begun-is)
          (one_more types table c.args.place c.types.access c.types.begun.items w.push.new.self.items w.in-Some.whole (sym c.begun_type.ensures ∙ w.in-Some.is)
          w.in_ok-push.ensures.items before)
      | in_default w ↦
          subst (λ (v : Vec ℕ). IsAll types table c.args.place (c.types.access + 1) v.items) (sym w.begun-is)
          (none_more types table c.args.place c.types.access c.types.begun.items (sym c.begun_type.ensures ∙ w.in_default.is) before)
    ] in
    record { all = after.all; only = after.only }

pub returns-clause-all : goal.returns-clause-all
returns-clause-all c = λ w g. c.types.invariant.all w (g.0, omega (arith, g.1, c.types-test.false), g.2)

pub returns-clause-only : goal.returns-clause-only
returns-clause-only c = λ w g.
    let (n, lt, at) = c.types.invariant.only w g in
    (n, omega (arith, lt, c.types.auto.access-end), at)
