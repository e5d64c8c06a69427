-- The nodes of callees.

use Rattle.std.proofs.Common.{◌≡◌, ℕ, ◌+◌, ◌<◌, Bool, true, false, nat_lt, length, refl, ap, sym, ◌∙◌, inl, inr, arith}
use Rattle.std.proofs.lemmas.Bool.{cases_lt}
use Rattle.std.proofs.lemmas.Option.{slice_get_past}
use Rattle.std.specs.Prelude.{if◌then◌else◌, Some, None}
use Rattle.ada_deeds.specs.Does.{called_does, operations_do, callee_does}
use Rattle.ada_deeds.specs.Graph.{first_node, node_count, node_of}
use Rattle.ada_deeds.specs.declared.deed.Callee.{Callee}
use Rattle.ada_deeds.specs.declared.deed.Callee.TheVariants as callee
use Rattle.ada_deeds.specs.declared.deed.Deed.{Deed}
use Rattle.ada_deeds.specs.declared.deed.Operation.{Operation}
use Rattle.ada_deeds.specs.declared.deed.Operation.TheVariants.{Initialize, Adjust, Finalize}
use Rattle.ada_program.specs.ProgramForm.{ProgramForm}

some_if : (b : Bool) (x n : ℕ) → (if b then Some x else None) ≡ Some n → (b ≡ true) × (x ≡ n)
some_if true x n h = (refl, cc h)
some_if false x n h = absurd (cc h)

-- Where a callee stands among the nodes.
abbrev pub IsAt : (procedures types : ℕ) → Callee → ℕ → Type 0
IsAt p t (callee.Procedure i) n = (i.0 < p) × (i.0 ≡ n)
IsAt p t (callee.Parts o r) n = (r.0 < t) × (first_node p t o + r.0 ≡ n)

pub at_node : (p t : ℕ) (c : Callee) (n : ℕ) → node_of p t c ≡ Some n → IsAt p t c n
unfolding node_of
at_node p t (callee.Procedure i) n h = let parts = some_if (nat_lt i.0 p) i.0 n h in (grind (arith, parts.0), parts.1)
at_node p t (callee.Parts o r) n h = let parts = some_if (nat_lt r.0 t) (first_node p t o + r.0) n h in (grind (arith, parts.0), parts.1)

less : (m n : ℕ) → m < n → nat_lt m n ≡ true
less m n lt = grind (arith, lt)

pub node_at : (p t : ℕ) (c : Callee) (n : ℕ) → IsAt p t c n → node_of p t c ≡ Some n
unfolding node_of
node_at p t (callee.Procedure i) n h = ap (λ b. if b then Some i.0 else None) (less i.0 p h.0) ∙ ap (λ m. Some m) h.1
node_at p t (callee.Parts o r) n h = ap (λ b. if b then Some (first_node p t o + r.0) else None) (less r.0 t h.0) ∙ ap (λ m. Some m) h.1

-- Two callees have two nodes.

one_type : (o : Operation) (r s : ℕ) → r ≡ s → callee.Parts o (record { 0 = r }) ≡ callee.Parts o (record { 0 = s })
one_type o r s same = ap (λ k. callee.Parts o (record { 0 = k })) same

pub same_callee : (p t : ℕ) (c d : Callee) (n : ℕ) → IsAt p t c n → IsAt p t d n → c ≡ d
same_callee p t (callee.Procedure i) (callee.Procedure j) n (a, b) (e, f) = ap (λ k. callee.Procedure (record { 0 = k })) (b ∙ sym f)
same_callee p t (callee.Procedure i) (callee.Parts Initialize s) n (a, b) (e, f) = absurd (omega (arith, a, b, e, f))
same_callee p t (callee.Procedure i) (callee.Parts Adjust s) n (a, b) (e, f) = absurd (omega (arith, a, b, e, f))
same_callee p t (callee.Procedure i) (callee.Parts Finalize s) n (a, b) (e, f) = absurd (omega (arith, a, b, e, f))
same_callee p t (callee.Parts Initialize r) (callee.Procedure j) n (a, b) (e, f) = absurd (omega (arith, a, b, e, f))
same_callee p t (callee.Parts Adjust r) (callee.Procedure j) n (a, b) (e, f) = absurd (omega (arith, a, b, e, f))
same_callee p t (callee.Parts Finalize r) (callee.Procedure j) n (a, b) (e, f) = absurd (omega (arith, a, b, e, f))
same_callee p t (callee.Parts Initialize r) (callee.Parts Initialize s) n (a, b) (e, f) = one_type Initialize r.0 s.0 (omega (arith, b, f))
same_callee p t (callee.Parts Initialize r) (callee.Parts Adjust s) n (a, b) (e, f) = absurd (omega (arith, a, b, e, f))
same_callee p t (callee.Parts Initialize r) (callee.Parts Finalize s) n (a, b) (e, f) = absurd (omega (arith, a, b, e, f))
same_callee p t (callee.Parts Adjust r) (callee.Parts Initialize s) n (a, b) (e, f) = absurd (omega (arith, a, b, e, f))
same_callee p t (callee.Parts Adjust r) (callee.Parts Adjust s) n (a, b) (e, f) = one_type Adjust r.0 s.0 (omega (arith, b, f))
same_callee p t (callee.Parts Adjust r) (callee.Parts Finalize s) n (a, b) (e, f) = absurd (omega (arith, a, b, e, f))
same_callee p t (callee.Parts Finalize r) (callee.Parts Initialize s) n (a, b) (e, f) = absurd (omega (arith, a, b, e, f))
same_callee p t (callee.Parts Finalize r) (callee.Parts Adjust s) n (a, b) (e, f) = absurd (omega (arith, a, b, e, f))
same_callee p t (callee.Parts Finalize r) (callee.Parts Finalize s) n (a, b) (e, f) = one_type Finalize r.0 s.0 (omega (arith, b, f))

pub one_callee : (p t : ℕ) (c d : Callee) (n : ℕ) → node_of p t c ≡ Some n → node_of p t d ≡ Some n → c ≡ d
one_callee p t c d n h k = same_callee p t c d n (at_node p t c n h) (at_node p t d n k)

at_below : (p t : ℕ) (c : Callee) (n : ℕ) → IsAt p t c n → n < node_count p t
at_below p t (callee.Procedure i) n (a, b) = omega (arith, a, b)
at_below p t (callee.Parts Initialize r) n (a, b) = omega (arith, a, b)
at_below p t (callee.Parts Adjust r) n (a, b) = omega (arith, a, b)
at_below p t (callee.Parts Finalize r) n (a, b) = omega (arith, a, b)

pub is_below : (p t : ℕ) (c : Callee) (n : ℕ) → node_of p t c ≡ Some n → n < node_count p t
is_below p t c n h = at_below p t c n (at_node p t c n h)

-- What does a deed has a node.
pub has_node : (program : ProgramForm) (d : Deed) (known : Callee → Bool) (c : Callee) → callee_does program known d c ≡ true →
    (n : ℕ) × (node_of (length program.bodies) (length program.types) c ≡ Some n)
has_node program d known (callee.Procedure i) h = elim (cases_lt i.0 (length program.bodies)) [
  | inl lt ↦ (i.0, node_at (length program.bodies) (length program.types) (callee.Procedure i) i.0 (lt, refl))
  | inr le ↦ absurd (cc (sym (ap (called_does program.types known d) (slice_get_past program.bodies i.0 le)) ∙ h))
]
has_node program d known (callee.Parts o r) h =
    let first = first_node (length program.bodies) (length program.types) o in
    elim (cases_lt r.0 (length program.types)) [
      | inl lt ↦ (first + r.0, node_at (length program.bodies) (length program.types) (callee.Parts o r) (first + r.0) (lt, refl))
      | inr le ↦ absurd (cc (sym (ap (operations_do known o) (slice_get_past program.types r.0 le)) ∙ h))
    ]
