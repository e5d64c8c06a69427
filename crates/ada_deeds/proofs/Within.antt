-- What does a deed is known within as many calls of calls as the program has callees.

use Rattle.std.proofs.Common.{◌≡◌, ℕ, ◌<◌, zero, suc, Bool, true, List, [], ◌∷◌, ◌++◌, length, refl, sym, ap, ◌∙◌, inl, inr, arith, length-append}
use Rattle.std.proofs.lemmas.Bool.{cases_eq, cases_lt, and_parts, and_from}
use Rattle.std.proofs.lemmas.List.Elements.{Contains-append_left, Contains-append_right}
use Rattle.std.proofs.lemmas.Option.{slice_get_past}
use Rattle.std.specs.List.{Contains}
use Rattle.ada_deeds.specs.Does.{called_does, operations_do, callee_does, is_deed_of, Does, does}
use Rattle.ada_deeds.specs.Laws.{IsWithin, IsClosed}
use Rattle.ada_deeds.specs.Within.{does_within, callee_count, CountsAreEnough}
use Rattle.ada_deeds.specs.declared.deed.Callee.{Callee}
use Rattle.ada_deeds.specs.declared.deed.Callee.TheVariants as callee
use Rattle.ada_deeds.specs.declared.deed.Deed.{Deed}
use Rattle.ada_deeds.specs.declared.deed.Operation.{Operation}
use Rattle.ada_deeds.specs.declared.deed.Operation.TheVariants.{Initialize, Adjust, Finalize}
use Rattle.ada_deeds.proofs.More.{callee_stays, least}
use Rattle.ada_program.proofs.Growing.{Rounds, has_stopped}
use Rattle.ada_program.specs.ProgramForm.{ProgramForm}

-- The callees of a program.

-- So many of a kind, by their numbers.
abbrev numbered : (of : ℕ → Callee) → ℕ → List Callee
numbered of zero = []
numbered of (suc n) = of n ∷ numbered of n

length_numbered : (of : ℕ → Callee) (n : ℕ) → length (numbered of n) ≡ n
length_numbered of zero = refl
length_numbered of (suc n) = ap (λ m. suc m) (length_numbered of n)

behind : (e : Callee) (cs : List Callee) (c : Callee) → Contains cs c → Contains (e ∷ cs) c
behind e cs c (k, lt, is) = (suc k, omega (arith, lt), is)

has_numbered : (of : ℕ → Callee) (n k : ℕ) → k < n → Contains (numbered of n) (of k)
has_numbered of zero k lt = absurd (omega (arith, lt))
has_numbered of (suc n) k lt = elim (cases_eq k n) [
  | inl is ↦ (0, omega arith, ap of (sym is))
  | inr other ↦ behind (of n) (numbered of n) (of k) (has_numbered of n k (omega (arith, lt, other)))
]

abbrev procedure : ℕ → Callee
procedure n = callee.Procedure (record { 0 = n })

abbrev parts : Operation → ℕ → Callee
parts o n = callee.Parts o (record { 0 = n })

-- Those of the types, and all.
type_callees : ProgramForm → List Callee
type_callees p =
    numbered (parts Initialize) (length p.types) ++ (numbered (parts Adjust) (length p.types) ++ numbered (parts Finalize) (length p.types))

callees : ProgramForm → List Callee
callees p = numbered procedure (length p.bodies) ++ type_callees p

callees_are_counted : (p : ProgramForm) → length (callees p) ≡ callee_count p
unfolding callees type_callees
callees_are_counted p =
    let n = length p.types in
    let a = length_numbered procedure (length p.bodies) in
    let i = length_numbered (parts Initialize) n in
    let j = length_numbered (parts Adjust) n in
    let k = length_numbered (parts Finalize) n in
    let x = length-append (numbered procedure (length p.bodies)) (type_callees p) in
    let y = length-append (numbered (parts Initialize) n) (numbered (parts Adjust) n ++ numbered (parts Finalize) n) in
    let z = length-append (numbered (parts Adjust) n) (numbered (parts Finalize) n) in
    omega (arith, a, i, j, k, x, y, z)

has_parts : (p : ProgramForm) (o : Operation) (n : ℕ) → n < length p.types → Contains (type_callees p) (parts o n)
unfolding type_callees
has_parts p Initialize n lt =
    Contains-append_left (numbered (parts Initialize) (length p.types)) (numbered (parts Adjust) (length p.types) ++ numbered (parts Finalize) (length p.types)) (parts Initialize n)
    (has_numbered (parts Initialize) (length p.types) n lt)
has_parts p Adjust n lt =
    Contains-append_right (numbered (parts Initialize) (length p.types)) (numbered (parts Adjust) (length p.types) ++ numbered (parts Finalize) (length p.types)) (parts Adjust n)
    (Contains-append_left (numbered (parts Adjust) (length p.types)) (numbered (parts Finalize) (length p.types)) (parts Adjust n)
    (has_numbered (parts Adjust) (length p.types) n lt))
has_parts p Finalize n lt =
    Contains-append_right (numbered (parts Initialize) (length p.types)) (numbered (parts Adjust) (length p.types) ++ numbered (parts Finalize) (length p.types)) (parts Finalize n)
    (Contains-append_right (numbered (parts Adjust) (length p.types)) (numbered (parts Finalize) (length p.types)) (parts Finalize n)
    (has_numbered (parts Finalize) (length p.types) n lt))

-- What does a deed is one of them.
does_listed : (p : ProgramForm) (d : Deed) (known : Callee → Bool) (c : Callee) → callee_does p known d c ≡ true → Contains (callees p) c
unfolding callees
does_listed p d known (callee.Procedure i) h = elim (cases_lt i.0 (length p.bodies)) [
  | inl lt ↦ Contains-append_left (numbered procedure (length p.bodies)) (type_callees p) (procedure i.0) (has_numbered procedure (length p.bodies) i.0 lt)
  | inr le ↦ absurd (cc (sym (ap (called_does p.types known d) (slice_get_past p.bodies i.0 le)) ∙ h))
]
does_listed p d known (callee.Parts o t) h = elim (cases_lt t.0 (length p.types)) [
  | inl lt ↦ Contains-append_right (numbered procedure (length p.bodies)) (type_callees p) (parts o t.0) (has_parts p o t.0 lt)
  | inr le ↦ absurd (cc (sym (ap (operations_do known o) (slice_get_past p.types t.0 le)) ∙ h))
]

-- The sets of what does a deed within so many calls of calls.

grows : (p : ProgramForm) (d : Deed) (n : ℕ) → IsWithin (does_within p d n) (does_within p d (suc n))
grows p d zero c h = absurd (cc h)
grows p d (suc n) c h = callee_stays p d (does_within p d n) (does_within p d (suc n)) (grows p d n) c h

rounds : (p : ProgramForm) (d : Deed) → Rounds (callees p) (does_within p d)
rounds p d = record {
  grows = grows p d;
  listed = λ n c h. does_listed p d (does_within p d n) c h;
  stops = λ n stopped c h. callee_stays p d (does_within p d (suc n)) (does_within p d n) stopped c h;
}

-- The last one is closed.
is_closed : (p : ProgramForm) (d : Deed) → IsClosed p d (does_within p d (callee_count p))
is_closed p d c h =
    let n = callees_are_counted p in
    let stopped = has_stopped (callees p) (does_within p d) (rounds p d) c in
    let there : does_within p d (suc (length (callees p))) c ≡ true = ap (λ (m : ℕ). does_within p d (suc m) c) n ∙ h in
    sym (ap (λ (m : ℕ). does_within p d m c) n) ∙ stopped there

-- What does a deed within some calls does it.
within_does : (p : ProgramForm) (d : Deed) → is_deed_of p d ≡ true → (n : ℕ) (c : Callee) → does_within p d n c ≡ true → Does p d c
within_does p d of zero c h = absurd (cc h)
within_does p d of (suc n) c h = does of (does_within p d n) (λ other known. within_does p d of n other known) h

pub is_one_of : (p : ProgramForm) (d : Deed) (c : Callee) → Does p d c → is_deed_of p d ≡ true
is_one_of p d c (does of known each h) = of

pub counts_are_enough : CountsAreEnough
counts_are_enough p d c = (
  (λ h. let both = and_parts (is_deed_of p d) (does_within p d (callee_count p) c) h in within_does p d both.0 (callee_count p) c both.1),
  (λ h. and_from (is_deed_of p d) (does_within p d (callee_count p) c) (is_one_of p d c h) (least p d (does_within p d (callee_count p)) (is_closed p d) c h)),
)
