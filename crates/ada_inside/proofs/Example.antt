-- The program whose operations assign inside of each other, and its run.

use Rattle.std.proofs.Common.{◌≡◌, ℕ, ◌≤◌, true, false, List, [], ◌∷◌, ◌++◌, refl, inl, inr, sym, subst, arith}
use Rattle.std.specs.List.{Contains}
use Rattle.ada_program.specs.Form.{StmtsForm, stmt_form, expression_form}
use Rattle.ada_program.specs.ProgramForm.{ProgramForm, program_form}
use Rattle.ada_program.specs.WellFormed.{IsWellFormed, creates_from, creations, stmts_fit, callable_in, pools_fit as pools_are_known}
use Rattle.ada_parts.specs.Part.{LiesIn}
use Rattle.ada_meaning.specs.Named.{next}
use Rattle.ada_meaning.specs.Run.{Choice, takes}
use Rattle.ada_order.specs.Example.{InSomeRun}
use Rattle.ada_order.proofs.Choices.{run_by}
use Rattle.ada_order.proofs.Example.{steps}
use Rattle.ada_finalized.specs.Example.{object_x}
use Rattle.ada_finalized.specs.Nested.{nested_shapes, nested_finalize, nested_initialize, nested_stmts}
use Rattle.ada_finalized.proofs.NestedExample.{program, shapes, inner_operations, outer_operations, bodies, form}
use Rattle.ada_finalized.proofs.Treated.{none_in, cons_cases}
use Rattle.ada_assigned.specs.Law.{operations_assign_inside}
use Rattle.ada_inside.specs.Example.{NestsInnermost, PremisesAreMet}

-- The program with these statements.
abbrev with_stmts : StmtsForm → ProgramForm
with_stmts fs = record (program_form program) { statements = fs }

well_formed : IsWellFormed (program_form program)
unfolding expression_form stmt_form
well_formed = record {
  types_fit = refl;
  components_lie = refl;
  operations_fit = refl;
  pools_fit = subst (λ (fs : StmtsForm). pools_are_known (with_stmts fs) ≡ true) (sym form) refl;
  variables_fit = refl;
  creates_in_order = subst (λ (fs : StmtsForm). creates_from 1 0 (creations (with_stmts fs)) ≡ true) (sym form) refl;
  collections_first = refl;
  collections_fit = refl;
  has_one_each = refl;
  initials_fit = refl;
  statements_fit =
      subst
      (λ (fs : StmtsForm). stmts_fit (with_stmts fs).types (with_stmts fs).variables (with_stmts fs).texts (with_stmts fs).exceptions (callable_in (with_stmts fs)) false fs ≡ true)
      (sym form) refl;
  handlers_fit = refl;
  bodies_fit = refl;
}

assigns_so : operations_assign_inside (program_form program) (λ t. true) (λ procedure. false) ≡ true
unfolding expression_form stmt_form
assigns_so = refl

-- What lies in X.
abbrev InX : ℕ → Type 0
InX n = (object_x ≡ object_x → LiesIn nested_shapes n (record { of = 2; number = 0 })) × Unit {0}

in_x : (n : ℕ) → 1 ≤ n → n ≤ 2 → InX n
in_x n some few = ((λ same. record { behind = omega (arith, some); within = omega (arith, few) }), tt)

-- The part of Leaf is left to be finalized behind its component, too.
abbrev InBoth : ℕ → Type 0
InBoth n = (object_x ≡ object_x → Contains (2 ∷ []) n) × InX n

leaf_in_both : InBoth 2
leaf_in_both = ((λ same. (0, omega arith, refl)), in_x 2 (omega arith) (omega arith))

none_of : (P : ℕ → Type 0) (n : ℕ) → Contains [] n → P n
none_of P n has = none_in n has

one_of : (P : ℕ → Type 0) (m : ℕ) → P m → (n : ℕ) → Contains (m ∷ []) n → P n
one_of P m holds n has = elim (cons_cases m n [] has) [ inl same ↦ subst P same holds | inr more ↦ none_in n more ]

two_of : (P : ℕ → Type 0) (m k : ℕ) → P m → P k → (n : ℕ) → Contains (m ∷ k ∷ []) n → P n
two_of P m k holds also n has = elim (cons_cases m n (k ∷ []) has) [ inl same ↦ subst P same holds | inr more ↦ one_of P k also n more ]

-- The parts of X are initialized, and Initialize is called, whose object Y is initialized; X.C := Y; begins, and Finalize is called for X.C; then its object is
-- initialized, and X.C.C := Y; begins.
abbrev up_to_innermost : List Choice
up_to_innermost = steps 3 ++ takes 0 ∷ takes 0 ∷ steps 4 ++ takes 0 ∷ steps 9 ++ steps 10

nests_innermost : InSomeRun program (λ events last. NestsInnermost program last)
unfolding next expression_form stmt_form
nests_innermost =
    run_by program (nested_finalize ∷ nested_initialize ∷ []) nested_stmts bodies form up_to_innermost (λ events last. NestsInnermost program last) refl (
      (_, _, (_ ∷ _ ∷ _ ∷ _ ∷ _ ∷ _ ∷ _ ∷ []), _, refl, refl, (λ none. none.0 refl), one_of InBoth 2 leaf_in_both),
      (
        one_of InBoth 2 leaf_in_both,
        (
          (one_of InBoth 2 leaf_in_both, none_of InBoth),
          (
            one_of InX 2 (in_x 2 (omega arith) (omega arith)),
            (
              (two_of InX 2 1 (in_x 2 (omega arith) (omega arith)) (in_x 1 (omega arith) (omega arith)), none_of InX),
              ((record { itself = tt; within = λ n lies. tt }, (λ n has. tt), (λ n has. tt)), tt),
            ),
          ),
        ),
      ),
      λ v m i tasks k never. absurd (cc never),
    )

pub premises_are_met : PremisesAreMet
premises_are_met = (program, shapes, inner_operations, outer_operations, bodies, form, well_formed, assigns_so, (λ procedure never. absurd (cc never)), nests_innermost)
