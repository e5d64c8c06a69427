-- The marks of all deeds of a program.

use Rattle.std.proofs.Common.{◌≡◌, ℕ, ◌+◌, ◌<◌, ◌≤◌, Bool, true, false, nat_lt, List, [], ◌∷◌, ◌++◌, length, get_or, map, refl, sym, ap, ◌∙◌, subst, inl, inr, arith}
use Rattle.std.proofs.lemmas.Bool.{cases_lt}
use Rattle.std.proofs.lemmas.List.{length-map, map-append, get_or-map, get_or_past, get_or_append_left, get_or_push}
use Rattle.std.specs.Global.{Vec}
use Rattle.std.specs.Prelude.{◌↔◌, Option, Some, None}
use Rattle.ada_deeds.specs.Does.{is_deed_of, Does, does}
use Rattle.ada_deeds.specs.Graph.{node_of, MarksDoers}
use Rattle.ada_deeds.specs.Rows.{row_at, is_marked, does_in, RaisesNone, RaisesNoDeclared}
use Rattle.ada_deeds.specs.declared.deed.Callee.{Callee}
use Rattle.ada_deeds.specs.declared.deed.Deed.{Deed}
use Rattle.ada_deeds.specs.declared.deed.Deed.TheVariants as deed
use Rattle.ada_deeds.specs.declared.deeds.Deeds.{Deeds}
use Rattle.ada_deeds.proofs.Numbering.{has_node}
use Rattle.ada_program.specs.declared.program.Exception.TheVariants.{ConstraintError, ProgramError, StorageError, EndError, Declared}
use Rattle.ada_program.specs.ProgramForm.{ProgramForm}

-- The marks of a number.

pub row_past : (rows : List (Vec Bool)) (n : ℕ) → length rows ≤ n → row_at rows n ≡ []
unfolding row_at
row_past rows n le = let l = length-map rows (λ (row : Vec Bool). row.items) in get_or_past (map (λ (row : Vec Bool). row.items) rows) n [] (omega (arith, l, le))

pub row_here : (rows : List (Vec Bool)) (n : ℕ) (v : Vec Bool) → n < length rows → v ≡ get_or rows n v → v.items ≡ row_at rows n
unfolding row_at
row_here rows n v lt is = ap (λ (row : Vec Bool). row.items) is ∙ sym (get_or-map (λ (row : Vec Bool). row.items) rows n v [] lt)

pub row_before : (rows : List (Vec Bool)) (v : Vec Bool) (n : ℕ) → n < length rows → row_at (rows ++ v ∷ []) n ≡ row_at rows n
unfolding row_at
row_before rows v n lt =
    let l = length-map rows (λ (row : Vec Bool). row.items) in
    ap (λ (xs : List (List Bool)). get_or xs n []) (map-append (λ (row : Vec Bool). row.items) rows (v ∷ []))
    ∙ get_or_append_left (map (λ (row : Vec Bool). row.items) rows) (v.items ∷ []) [] n (omega (arith, l, lt))

pub row_behind : (rows : List (Vec Bool)) (v : Vec Bool) (n : ℕ) → length rows ≡ n → row_at (rows ++ v ∷ []) n ≡ v.items
unfolding row_at
row_behind rows v n is =
    ap (λ (xs : List (List Bool)). get_or xs n []) (map-append (λ (row : Vec Bool). row.items) rows (v ∷ []))
    ∙ get_or_push (map (λ (row : Vec Bool). row.items) rows) v.items [] n (length-map rows (λ (row : Vec Bool). row.items) ∙ is)

-- One row more.
pub row_more : (P : ℕ → List Bool → Type 0) (number : ℕ) (rows after : List (Vec Bool)) (v : Vec Bool) → length rows ≡ number → after ≡ rows ++ v ∷ [] →
    ((n : ℕ) → n < number → P n (row_at rows n)) → P number v.items → (n : ℕ) → n < number + 1 → P n (row_at after n)
row_more P number rows after v size is before new n lt =
    subst (λ (rs : List (Vec Bool)). P n (row_at rs n)) (sym is)
    (elim (cases_lt n number) [
      | inl less ↦ subst (P n) (sym (row_before rows v n (omega (arith, size, less)))) (before n less)
      | inr more ↦
          let here : number ≡ n = omega (arith, more, lt) in
          subst (P n) (sym (row_behind rows v n (size ∙ here))) (subst (λ (m : ℕ). P m v.items) here new)
    ])

-- A deed of a number below their count is one of the program.
pub is_counted : (p : ProgramForm) (of : ℕ → Deed) (count n : ℕ) → is_deed_of p (of n) ≡ nat_lt n count → n < count → is_deed_of p (of n) ≡ true
is_counted p of count n is lt = let b : nat_lt n count ≡ true = grind (arith, lt) in is ∙ b

-- What is marked does the deed, and what does it is marked.

marked_does : (p : ProgramForm) (d : Deed) (procedures types : ℕ) (marks : List Bool) → MarksDoers p d procedures types marks → (c : Callee) →
    (o : Option ℕ) → node_of procedures types c ≡ o → is_marked marks o ≡ true → Does p d c
marked_does p d procedures types marks m c None at h = absurd (cc h)
marked_does p d procedures types marks m c (Some n) at h = m.only c n at h

node_here : (p : ProgramForm) (d : Deed) (procedures types : ℕ) → procedures ≡ length p.bodies → types ≡ length p.types → (c : Callee) → Does p d c →
    (n : ℕ) × (node_of procedures types c ≡ Some n)
node_here p d procedures types ps ts c (does of known each h) =
    let (n, at) = has_node p d known c h in
    (n, ap (λ (x : ℕ). node_of x types c) ps ∙ ap (λ (x : ℕ). node_of (length p.bodies) x c) ts ∙ at)

pub row_exact : (p : ProgramForm) (d : Deed) (procedures types : ℕ) (marks : List Bool) → procedures ≡ length p.bodies → types ≡ length p.types →
    MarksDoers p d procedures types marks → (c : Callee) → (is_marked marks (node_of procedures types c) ≡ true) ↔ Does p d c
row_exact p d procedures types marks ps ts m c = (
  (λ h. marked_does p d procedures types marks m c (node_of procedures types c) refl h),
  (λ h. let (n, at) = node_here p d procedures types ps ts c h in ap (is_marked marks) at ∙ m.marked c n at h),
)

none_marked : (o : Option ℕ) → is_marked [] o ≡ false
none_marked None = refl
none_marked (Some n) = refl

is_of : (p : ProgramForm) (d : Deed) (c : Callee) → Does p d c → is_deed_of p d ≡ true
is_of p d c (does of known each h) = of

pub numbered_exact : (p : ProgramForm) (of : ℕ → Deed) (procedures types count : ℕ) (rows : List (Vec Bool)) → procedures ≡ length p.bodies → types ≡ length p.types →
    ((n : ℕ) → is_deed_of p (of n) ≡ nat_lt n count) → length rows ≡ count → ((n : ℕ) → n < count → MarksDoers p (of n) procedures types (row_at rows n)) →
    (n : ℕ) (c : Callee) → (is_marked (row_at rows n) (node_of procedures types c) ≡ true) ↔ Does p (of n) c
numbered_exact p of procedures types count rows ps ts deeds size each n c = elim (cases_lt n count) [
  | inl lt ↦ row_exact p (of n) procedures types (row_at rows n) ps ts (each n lt) c
  | inr le ↦ (
    (λ h. absurd (cc (sym (ap (λ (xs : List Bool). is_marked xs (node_of procedures types c)) (row_past rows n (omega (arith, size, le))) ∙ none_marked (node_of procedures types c)) ∙ h))),
    (λ h. let b : nat_lt n count ≡ true = sym (deeds n) ∙ is_of p (of n) c h in absurd (beyond n count b le)),
  )
]
  where
    beyond : (n m : ℕ) → nat_lt n m ≡ true → m ≤ n → ⊥
    beyond n m b le = grind (arith, b, le)

-- What the code keeps.
pub record AreRows (deeds : Deeds) (p : ProgramForm) : Type 0 where
  pub procedures : deeds.nodes.procedures ≡ length p.bodies
  pub types : deeds.nodes.types ≡ length p.types
  pub constraint_error : MarksDoers p (deed.Raises ConstraintError) deeds.nodes.procedures deeds.nodes.types deeds.constraint_error.items
  pub program_error : MarksDoers p (deed.Raises ProgramError) deeds.nodes.procedures deeds.nodes.types deeds.program_error.items
  pub storage_error : MarksDoers p (deed.Raises StorageError) deeds.nodes.procedures deeds.nodes.types deeds.storage_error.items
  pub end_error : MarksDoers p (deed.Raises EndError) deeds.nodes.procedures deeds.nodes.types deeds.end_error.items
  pub allocates : MarksDoers p deed.Allocates deeds.nodes.procedures deeds.nodes.types deeds.allocates.items
  pub calls : MarksDoers p deed.Calls deeds.nodes.procedures deeds.nodes.types []
  pub declared : (n : ℕ) (c : Callee) → (is_marked (row_at deeds.declared.items n) (node_of deeds.nodes.procedures deeds.nodes.types c) ≡ true) ↔ Does p (deed.Raises (Declared (record { 0 = n }))) c
  pub frees : (n : ℕ) (c : Callee) → (is_marked (row_at deeds.frees.items n) (node_of deeds.nodes.procedures deeds.nodes.types c) ≡ true) ↔ Does p (deed.Frees (record { 0 = n })) c
  pub follows : (n : ℕ) (c : Callee) → (is_marked (row_at deeds.follows.items n) (node_of deeds.nodes.procedures deeds.nodes.types c) ≡ true) ↔ Does p (deed.Follows (record { 0 = n })) c

pub exact : (deeds : Deeds) (p : ProgramForm) → AreRows deeds p → (d : Deed) (c : Callee) → (does_in deeds d c ≡ true) ↔ Does p d c
unfolding does_in
exact deeds p r (deed.Raises ConstraintError) c = row_exact p (deed.Raises ConstraintError) deeds.nodes.procedures deeds.nodes.types deeds.constraint_error.items r.procedures r.types r.constraint_error c
exact deeds p r (deed.Raises ProgramError) c = row_exact p (deed.Raises ProgramError) deeds.nodes.procedures deeds.nodes.types deeds.program_error.items r.procedures r.types r.program_error c
exact deeds p r (deed.Raises StorageError) c = row_exact p (deed.Raises StorageError) deeds.nodes.procedures deeds.nodes.types deeds.storage_error.items r.procedures r.types r.storage_error c
exact deeds p r (deed.Raises EndError) c = row_exact p (deed.Raises EndError) deeds.nodes.procedures deeds.nodes.types deeds.end_error.items r.procedures r.types r.end_error c
exact deeds p r (deed.Raises (Declared e)) c = r.declared e.0 c
exact deeds p r (deed.Frees t) c = r.frees t.0 c
exact deeds p r (deed.Follows t) c = r.follows t.0 c
exact deeds p r deed.Allocates c = row_exact p deed.Allocates deeds.nodes.procedures deeds.nodes.types deeds.allocates.items r.procedures r.types r.allocates c
exact deeds p r deed.Calls c = row_exact p deed.Calls deeds.nodes.procedures deeds.nodes.types [] r.procedures r.types r.calls c

-- Where no row is left, nothing is told.
pub none_beyond : (deeds : Deeds) (n : ℕ) (c : Callee) → length deeds.declared.items ≤ n → does_in deeds (deed.Raises (Declared (record { 0 = n }))) c ≡ false
unfolding does_in
none_beyond deeds n c le =
    ap (λ (xs : List Bool). is_marked xs (node_of deeds.nodes.procedures deeds.nodes.types c)) (row_past deeds.declared.items n le)
    ∙ none_marked (node_of deeds.nodes.procedures deeds.nodes.types c)

-- None is told, if none of the predefined ones and none of the declared ones is.
pub none_told : (deeds : Deeds) (c : Callee) → does_in deeds (deed.Raises ConstraintError) c ≡ false → does_in deeds (deed.Raises ProgramError) c ≡ false →
    does_in deeds (deed.Raises StorageError) c ≡ false → does_in deeds (deed.Raises EndError) c ≡ false → RaisesNoDeclared deeds c → RaisesNone deeds c
none_told deeds c a b s t none ConstraintError = a
none_told deeds c a b s t none ProgramError = b
none_told deeds c a b s t none StorageError = s
none_told deeds c a b s t none EndError = t
none_told deeds c a b s t none (Declared e) = none e.0
