-- Calls: what is created by each procedure that may be called at a place nests there, and wherever more is open that no procedure creates.

use Rattle.std.proofs.Common.{◌≡◌, ℕ, Bool, true, false, cond, List, [], ◌∷◌, ◌++◌, length, refl, sym}
use Rattle.std.specs.Prelude.{Option, Some, None, bytes_eq, codes}
use Rattle.std.specs.List.{slice_get}
use Rattle.ada_program.specs.declared.program.Exception.TheVariants.{ConstraintError, ProgramError, StorageError}
use Rattle.ada_program.specs.Nested.{body_nests, callees_from}
use Rattle.ada_program.specs.ProgramForm.{TypeForm, BodyForm}
use Rattle.ada_resolve.specs.declared.library.Withs.{Withs}
use Rattle.ada_resolve.specs.declared.primitives.Operation.{Operation}
use Rattle.ada_resolve.specs.declared.scope.Entity.{Entity}
use Rattle.ada_resolve.specs.declared.scope.Entity.TheVariants as entity
use Rattle.ada_resolve.specs.Known.{Known, Named, Part, entered, named, from_part, named_in, inner_first, outermost, unit_named, visible, parts}
use Rattle.ada_resolve.specs.Library.{predefined}
use Rattle.ada_resolve.specs.Primitives.{entered_unless}
use Rattle.ada_resolve.proofs.Nesting.Callees.{Wider, wider_on, bodies_theirs, body_wider, callees_widen, callees_in, callees_last}
use Rattle.ada_resolve.proofs.WellFormed.Growing.{AreIn}
use Rattle.ada_resolve.proofs.WellFormed.Names.{all_entered, first_of_two, within_of, unit_only}
use Rattle.ada_resolve.proofs.WellFormed.Tables.{get_more, get_last}

-- a procedure creates what nests wherever these are open, and maybe others that no body creates
abbrev pub IsCallee : List TypeForm → List BodyForm → List ℕ → ℕ → Type 0
IsCallee types bodies around q =
    (f : (around : List ℕ) → Bool) × (slice_get (callees_from types [] bodies) q ≡ Some f) × ((wider : List ℕ) → Wider bodies around wider → f wider ≡ true)

abbrev pub EntityCalls : List TypeForm → List BodyForm → List ℕ → Entity → Type 0
EntityCalls types bodies around (entity.Callable q) = IsCallee types bodies around q.0
EntityCalls types bodies around e = Unit {0}

abbrev pub NamesCall : List TypeForm → List BodyForm → List ℕ → List Named → Type 0
NamesCall types bodies around names = (text : List ℕ) (e : Entity) → named text names ≡ Some e → EntityCalls types bodies around e

-- so does each that a part names
abbrev pub PartsCall : List TypeForm → List BodyForm → List ℕ → List Part → Type 0
PartsCall types bodies around [] = Unit {0}
PartsCall types bodies around (p ∷ ps) = NamesCall types bodies around p.names × PartsCall types bodies around ps

module _ (types : List TypeForm) where
  -- behind more bodies, and where more is open
  entity_on : (bs cs : List BodyForm) (us vs : List ℕ) → AreIn bs cs → Wider bs us vs → (e : Entity) → EntityCalls types bs us e → EntityCalls types cs vs e
  entity_on bs cs us vs g w (entity.Callable q) f =
      (f.0, callees_in types bs cs g q.0 f.0 f.1, λ wider more. f.2 wider (wider_on bs cs us vs wider g w more))
  entity_on bs cs us vs g w e f = tt

  pub calls_on : (bs cs : List BodyForm) (us vs : List ℕ) → AreIn bs cs → Wider bs us vs → (ps : List Part) → PartsCall types bs us ps → PartsCall types cs vs ps
  calls_on bs cs us vs g w [] f = tt
  calls_on bs cs us vs g w (p ∷ ps) f = (λ text e is. entity_on bs cs us vs g w e (f.0 text e is), calls_on bs cs us vs g w ps f.1)

  -- one more name
  pub calls_entered : (bodies : List BodyForm) (around : List ℕ) (ns : List Named) (text : List ℕ) (e : Entity) → EntityCalls types bodies around e → NamesCall types bodies around ns → NamesCall types bodies around (entered text e ns)
  calls_entered bodies around ns text e own old =
      all_entered (λ t x. EntityCalls types bodies around x) ns text e own (λ t x ne is. old t x is)

  pub calls_unless : (bodies : List BodyForm) (around : List ℕ) (o : Option Operation) (ns : List Named) (text : List ℕ) (e : Entity) → EntityCalls types bodies around e → NamesCall types bodies around ns → NamesCall types bodies around (entered_unless o text e ns)
  calls_unless bodies around None ns text e own old = calls_entered bodies around ns text e own old
  calls_unless bodies around (Some o) ns text e own old = old

  -- one more procedure, whose body nests
  pub callee_more : (bodies : List BodyForm) (around : List ℕ) (b : BodyForm) → body_nests types (callees_from types [] bodies) b around ≡ true → IsCallee types (bodies ++ b ∷ []) around (length bodies)
  callee_more bodies around b e =
      let all = bodies ++ b ∷ [] in
      let before = callees_widen types all [] bodies (λ n f is. absurd (cc is)) (λ n c is. bodies_theirs all n c (get_more bodies b n c is)) in (
        body_nests types (callees_from types [] bodies) b,
        callees_last types bodies b,
        λ wider more. body_wider types all (callees_from types [] bodies) before b (bodies_theirs all (length bodies) b (get_last bodies b)) around wider more e,
      )

  -- nothing predefined is such a procedure
  standard_calls : (bs : List BodyForm) (us : List ℕ) (x : Entity) (a b c d f g h : Bool) → cond a (Some entity.Integer) (cond b (Some entity.Boolean) (cond c (Some (entity.Truth true)) (cond d (Some (entity.Truth false)) (cond f (Some (entity.Exception ConstraintError)) (cond g (Some (entity.Exception ProgramError)) (cond h (Some (entity.Exception StorageError)) None)))))) ≡ Some x → EntityCalls types bs us x
  standard_calls bs us x true b c d f g h e = let is : entity.Integer ≡ x = cc e in rw (sym is) tt
  standard_calls bs us x false true c d f g h e = let is : entity.Boolean ≡ x = cc e in rw (sym is) tt
  standard_calls bs us x false false true d f g h e = let is : entity.Truth true ≡ x = cc e in rw (sym is) tt
  standard_calls bs us x false false false true f g h e = let is : entity.Truth false ≡ x = cc e in rw (sym is) tt
  standard_calls bs us x false false false false true g h e = let is : entity.Exception ConstraintError ≡ x = cc e in rw (sym is) tt
  standard_calls bs us x false false false false false true h e = let is : entity.Exception ProgramError ≡ x = cc e in rw (sym is) tt
  standard_calls bs us x false false false false false false true e = let is : entity.Exception StorageError ≡ x = cc e in rw (sym is) tt
  standard_calls bs us x false false false false false false false e = absurd (cc e)

  predefined_calls : (bs : List BodyForm) (us : List ℕ) (text : List ℕ) (x : Entity) → predefined text ≡ Some x → EntityCalls types bs us x
  unfolding predefined
  predefined_calls bs us text x e =
      standard_calls bs us x (bytes_eq text (codes "INTEGER")) (bytes_eq text (codes "BOOLEAN")) (bytes_eq text (codes "TRUE")) (bytes_eq text (codes "FALSE"))
      (bytes_eq text (codes "CONSTRAINT_ERROR")) (bytes_eq text (codes "PROGRAM_ERROR")) (bytes_eq text (codes "STORAGE_ERROR")) e

  inner_calls : (bs : List BodyForm) (us : List ℕ) (withs : Withs) (text : List ℕ) (x : Entity) (own : Option Entity) (b : Bool) → ((y : Entity) → own ≡ Some y → EntityCalls types bs us y) → inner_first own b (outermost withs text) ≡ Some x → EntityCalls types bs us x
  inner_calls bs us withs text x (Some y) b w e = let is : y ≡ x = cc e in rw (sym is) (w y refl)
  inner_calls bs us withs text x None true w e = let is : entity.Procedure ≡ x = cc e in rw (sym is) tt
  inner_calls bs us withs text x None false w e =
      first_of_two (EntityCalls types bs us) (predefined text) (unit_named withs text) x (predefined_calls bs us text) (λ y. unit_only (EntityCalls types bs us) withs text y tt) e

  parts_call : (bs : List BodyForm) (us : List ℕ) (ps : List Part) → PartsCall types bs us ps → (text : List ℕ) (x : Entity) → named_in text ps ≡ Some x → EntityCalls types bs us x
  parts_call bs us [] w text x e = absurd (cc e)
  parts_call bs us (p ∷ ps) w text x e =
      first_of_two (EntityCalls types bs us) (named text p.names) (from_part p.around (named_in text ps)) x (w.0 text)
      (λ y is. within_of (EntityCalls types bs us) p.around (named_in text ps) y (λ kind r. tt) (parts_call bs us ps w.1 text) is) e

  -- what is visible
  pub visible_calls : (k : Known) (us : List ℕ) → PartsCall types k.bodies us (parts k) → (text : List ℕ) (x : Entity) → visible k text ≡ Some x → EntityCalls types k.bodies us x
  unfolding visible
  visible_calls k us w text x e = inner_calls k.bodies us k.withs text x (named_in text (parts k)) (bytes_eq text k.procedure) (parts_call k.bodies us (parts k) w text) e
