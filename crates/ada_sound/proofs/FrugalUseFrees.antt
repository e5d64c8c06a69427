-- What a body may free that calls nothing, and frees and allocates no object with controlled parts (7.6, 7.6.1, 13.11.2), has none: a Free of it says so, and
-- implicitly it calls nothing, also where it assigns a record (5.2).

use Rattle.std.proofs.Common.{◌≡◌, ℕ, Bool, true, false, ◌||◌, List, [], ◌∷◌, ◌++◌, map, take, refl, sym, ◌∙◌, subst, inl, inr}
use Rattle.std.proofs.lemmas.Bool.{eqb-true, not-true, or_cases}
use Rattle.std.specs.List.{list_all, slice_get}
use Rattle.std.specs.Prelude.{Option, Some, None, is_some, not}
use Rattle.ada_deeds.proofs.Freed.{deed}
use Rattle.ada_deeds.proofs.Parted.{does_parted}
use Rattle.ada_deeds.proofs.Within.{counts_are_enough}
use Rattle.ada_deeds.specs.Forms.{creation_does, parts_do}
use Rattle.ada_deeds.specs.Implicit.{implicit_of, record_at, record_in}
use Rattle.ada_deeds.specs.Within.{does_by}
use Rattle.ada_deeds.specs.declared.deed.Callee.{Callee}
use Rattle.ada_deeds.specs.declared.deed.Callee.TheVariants as callee
use Rattle.ada_deeds.specs.declared.deed.Deed.{Deed}
use Rattle.ada_deeds.specs.declared.deed.Operation.{Operation}
use Rattle.ada_deeds.specs.declared.deed.Operation.TheVariants.{Initialize, Adjust, Finalize}
use Rattle.ada_effects.specs.Effects.{Effect, Effects, assignment_frees, right_frees, ending_frees, declarations_free, leaving_frees, stmt_frees, stmts_free, branches_free, handlers_free, body_frees, known_of, effects_from, effects_of}
use Rattle.ada_program.specs.Form.{RecordPathForm, RightForm, nothing, value_of, allocates, allocates_default, computes, DeclarationForm, creates_pool, collects, declares, declares_record, StmtForm, skips, assigns, assigns_record, frees, gets, writes, writes_text, chooses, repeats, counts, exits, calls, returns, raises, encloses, StmtsForm, no_stmts, a_stmt, BranchesForm, otherwise, a_branch, HandlersForm, no_handlers, a_handler}
use Rattle.ada_program.specs.declared.program.ComponentKind.{ComponentKind}
use Rattle.ada_program.specs.ProgramForm.{TypeForm, record_of, access_to, object_of, VariableForm, BodyForm, ProgramForm, seen_in, seen_by}
use Rattle.ada_program.specs.WellFormed.{IsWellFormed, Profile, profile_of, components_in, finalization_of, is_record_path, designated_in, is_freed_by, is_this, path_access, same_record, type_fits, statement_fits, stmts_fit, branches_fit, handlers_fit, body_fits}
use Rattle.ada_quiet.specs.Bare.{has_bare_objects, is_bare_access}
use Rattle.ada_sound.proofs.Allowance.{bare_assigned, simple_allowance, allocates_thriftily, are_thrifty_declarations, is_thrifty_stmt, are_thrifty, are_thrifty_branches, are_thrifty_handlers, is_thrifty_body}
use Rattle.ada_sound.proofs.Bodies.{seen_is}
use Rattle.ada_sound.proofs.Copied.{record_there}
use Rattle.ada_sound.proofs.Invariant.{CoveredIn}
use Rattle.ada_sound.proofs.OperationStarts.{apart}
use Rattle.ada_typed.proofs.Bodies.{body_at}

-- Two access types that designate the same record type have bare objects, or neither has.
bare_same : (types : List TypeForm) (o q : Option TypeForm) → same_record (designated_in o) (designated_in q) ≡ true → is_bare_access types o ≡ true → is_bare_access types q ≡ true
bare_same types None q same is = absurd (cc is)
bare_same types (Some (record_of name parts components finalization)) q same is = absurd (cc is)
bare_same types (Some (access_to name designated pool)) None same is = absurd (cc same)
bare_same types (Some (access_to name designated pool)) (Some (record_of other parts components finalization)) same is = absurd (cc same)
bare_same types (Some (access_to name designated pool)) (Some (access_to other own from)) same is = let one : own ≡ designated = eqb-true own designated same in rw one is
bare_same types (Some (access_to name designated pool)) (Some (object_of record_type)) same is = absurd (cc same)
bare_same types (Some (object_of record_type)) q same is = absurd (cc is)

module _ (p : ProgramForm) (types_fit : list_all (type_fits p.types) p.types ≡ true) where
  -- Nothing is done for a record without controlled parts.
  does_nothing : (d : Deed) (operation : Operation) (r : ℕ) → is_some (finalization_of p.types r) ≡ false → does_by p d (callee.Parts operation (record { 0 = r })) ≡ false
  does_nothing d operation r none = by (does_by p d c) refl
    where
      c : Callee
      c = callee.Parts operation (record { 0 = r })

      by : (done : Bool) → does_by p d c ≡ done → done ≡ false
      by false is = refl
      by true is = let some = does_parted p types_fit d operation r ((counts_are_enough p d c).0 is) in absurd (cc (none, some))

  -- Nor is it for an object that an access value designates, if these have none.
  bare_does_nothing : (d : Deed) (operation : Operation) (access : ℕ) (o : Option TypeForm) → is_bare_access p.types o ≡ true → parts_do (does_by p d) operation (record_in access o) ≡ false
  bare_does_nothing d operation access None is = absurd (cc is)
  bare_does_nothing d operation access (Some (record_of name parts components finalization)) is = absurd (cc is)
  bare_does_nothing d operation access (Some (access_to name designated pool)) is = does_nothing d operation designated (not-true (is_some (finalization_of p.types designated)) is)
  bare_does_nothing d operation access (Some (object_of record_type)) is = absurd (cc is)

  -- Nor is it for a record that is assigned (5.2), if it has none.
  record_does_nothing : (d : Deed) (operation : Operation) (r : ℕ) (o : Option TypeForm) (kinds : List ComponentKind) → components_in o ≡ Some kinds → not (is_some (finalization_of p.types r)) ≡ true → parts_do (does_by p d) operation (record_in r o) ≡ false
  record_does_nothing d operation r None kinds of is = absurd (cc of)
  record_does_nothing d operation r (Some (record_of name parts components finalization)) kinds of is = does_nothing d operation r (not-true (is_some (finalization_of p.types r)) is)
  record_does_nothing d operation r (Some (access_to name designated pool)) kinds of is = absurd (cc of)
  record_does_nothing d operation r (Some (object_of record_type)) kinds of is = absurd (cc of)

  -- So the creation of such an object does nothing, whatever is asked for.
  created_nothing : (d : Deed) (access : ℕ) → has_bare_objects p.types access ≡ true → creation_does (does_by p d) (record_at p.types access) ≡ false
  created_nothing d access is =
      let o = slice_get p.types access in
      rw (bare_does_nothing d Initialize access o is, bare_does_nothing d Finalize access o is) refl

  abbrev IsBare : ℕ → Type 0
  IsBare t = has_bare_objects p.types t ≡ true

  module _ (t : ℕ) where
    right_spares : (right : RightForm) → allocates_thriftily (simple_allowance p.types) right ≡ true → right_frees (implicit_of p) t right ≡ false
    right_spares nothing is = refl
    right_spares (value_of path) is = refl
    right_spares (allocates access items) is = refl
    right_spares (allocates_default access) is = created_nothing (deed t) access is
    right_spares (computes e) is = refl

    declarations_spare : (ds : List DeclarationForm) → are_thrifty_declarations (simple_allowance p.types) ds ≡ true → declarations_free (implicit_of p) t ds ≡ false
    declarations_spare [] is = refl
    declarations_spare (creates_pool pool ∷ ds) is = absurd (cc is)
    declarations_spare (collects access ∷ ds) is = absurd (cc is)
    declarations_spare (declares x right ∷ ds) is =
        let both = apart (allocates_thriftily (simple_allowance p.types) right) (are_thrifty_declarations (simple_allowance p.types) ds) is in
        rw (right_spares right both.0, declarations_spare ds both.1) refl
    declarations_spare (declares_record x object None ∷ ds) is = absurd (cc is)
    declarations_spare (declares_record x object (Some items) ∷ ds) is = absurd (cc is)

    -- Where their master is left, no object with controlled parts ends: they declare variables alone (7.6.1).
    leaving_spares : (ds : List DeclarationForm) → are_thrifty_declarations (simple_allowance p.types) ds ≡ true → leaving_frees (implicit_of p) t ds ≡ false
    leaving_spares [] is = refl
    leaving_spares (creates_pool pool ∷ ds) is = absurd (cc is)
    leaving_spares (collects access ∷ ds) is = absurd (cc is)
    leaving_spares (declares x right ∷ ds) is = leaving_spares ds (apart (allocates_thriftily (simple_allowance p.types) right) (are_thrifty_declarations (simple_allowance p.types) ds) is).1
    leaving_spares (declares_record x object None ∷ ds) is = absurd (cc is)
    leaving_spares (declares_record x object (Some items) ∷ ds) is = absurd (cc is)

    -- What a Free frees is of the access type of what it is given, which designates what the instance's access type does; and its end calls nothing.
    freed_bare : (access : ℕ) (own : Option ℕ) → is_freed_by p.types access own ≡ true → IsBare access → (is_this t own || ending_frees (implicit_of p) t own) ≡ true → IsBare t
    freed_bare access None freed is h = absurd (cc freed)
    freed_bare access (Some u) freed is h =
        let bare = bare_same p.types (slice_get p.types access) (slice_get p.types u) freed is in
        let none = bare_does_nothing (deed t) Finalize u (slice_get p.types u) bare in
        elim (or_cases (is_this t (Some u)) (ending_frees (implicit_of p) t (Some u)) h) [
          | inl same ↦ subst (λ (v : ℕ). IsBare v) (eqb-true u t same) bare
          | inr ended ↦ absurd (cc (sym none ∙ ended))
        ]

    -- Where a record without controlled parts is assigned (5.2), nothing is finalized or adjusted.
    assignment_spares : (variables : List VariableForm) (target : RecordPathForm) → is_record_path p.types variables target ≡ true → not (is_some (finalization_of p.types target.record_type)) ≡ true
        → assignment_frees (implicit_of p) t target.record_type ≡ false
    assignment_spares variables target leads is =
        let there = record_there p.types variables target leads in
        let r = target.record_type in
        let o = slice_get p.types r in
        rw (
          record_does_nothing (deed t) Finalize r o there.kinds there.components is,
          record_does_nothing (deed t) Adjust r o there.kinds there.components is,
        ) refl

    -- Neither of two frees what is not bare.
    either : (a b : Bool) → (a ≡ true → IsBare t) → (b ≡ true → IsBare t) → (a || b) ≡ true → IsBare t
    either a b first second h = elim (or_cases a b h) [ inl x ↦ first x | inr y ↦ second y ]

    not_so : (b : Bool) → b ≡ false → b ≡ true → IsBare t
    not_so true none h = absurd (cc none)
    not_so false none h = absurd (cc h)

    -- It calls none, so whatever is known of procedures.
    module _ (known : List Effect) (callable : List Profile) where
      abbrev effects : Effects
      effects = known_of (implicit_of p) known

      module _ (variables : List VariableForm) where
        -- A block, by its statements and handlers.
        block_bare : (ds : List DeclarationForm) (fs : StmtsForm) (hs : HandlersForm) → are_thrifty_declarations (simple_allowance p.types) ds ≡ true
            → (stmts_free p.types variables effects t fs ≡ true → IsBare t) → (handlers_free p.types variables effects t hs ≡ true → IsBare t)
            → ((stmts_free p.types variables effects t fs || handlers_free p.types variables effects t hs) || (declarations_free (implicit_of p) t ds || leaving_frees (implicit_of p) t ds)) ≡ true → IsBare t
        block_bare ds fs hs is first behind h =
            either (stmts_free p.types variables effects t fs || handlers_free p.types variables effects t hs) (declarations_free (implicit_of p) t ds || leaving_frees (implicit_of p) t ds)
            (λ some. either (stmts_free p.types variables effects t fs) (handlers_free p.types variables effects t hs) first behind some)
            (λ some. either (declarations_free (implicit_of p) t ds) (leaving_frees (implicit_of p) t ds) (not_so (declarations_free (implicit_of p) t ds) (declarations_spare ds is))
            (not_so (leaving_frees (implicit_of p) t ds) (leaving_spares ds is)) some) h

        mutual
          stmt_bare : (inside : Bool) (f : StmtForm) → is_thrifty_stmt (simple_allowance p.types) f ≡ true → statement_fits p.types variables p.texts p.exceptions callable inside f ≡ true
              → stmt_frees p.types variables effects t f ≡ true → IsBare t
          stmt_bare inside skips is fits h = absurd (cc h)
          stmt_bare inside (assigns target right) is fits h = not_so (right_frees (implicit_of p) t right) (right_spares right is) h
          stmt_bare inside (assigns_record target items) is fits h =
              not_so (assignment_frees (implicit_of p) t target.record_type) (assignment_spares variables target (apart _ _ fits).0 (bare_assigned (simple_allowance p.types) refl target.record_type is)) h
          stmt_bare inside (frees access path) is fits h = freed_bare access (path_access p.types variables path) (apart _ _ fits).0 is h
          stmt_bare inside (gets target) is fits h = absurd (cc h)
          stmt_bare inside (writes e) is fits h = absurd (cc h)
          stmt_bare inside (writes_text text) is fits h = absurd (cc h)
          stmt_bare inside (chooses branches) is fits h = branches_bare inside branches is fits h
          stmt_bare inside (repeats condition fs spot) is fits h = stmts_bare true fs is (apart _ _ fits).1 h
          stmt_bare inside (counts x low high fs spot) is fits h = stmts_bare true fs is (apart _ _ fits).1 h
          stmt_bare inside (exits condition spot) is fits h = absurd (cc h)
          stmt_bare inside (calls procedure actuals) is fits h = absurd (cc is)
          stmt_bare inside (returns spot) is fits h = absurd (cc h)
          stmt_bare inside (raises e) is fits h = absurd (cc h)
          stmt_bare inside (encloses ds fs hs) is fits h =
              let two = apart _ _ is in
              let three = apart _ _ two.0 in
              let fits_two = apart _ _ fits in
              let fits_three = apart _ _ fits_two.0 in
              block_bare ds fs hs three.0 (λ some. stmts_bare inside fs three.1 fits_three.1 some) (λ some. handlers_bare inside hs two.1 fits_two.1 some) h

          stmts_bare : (inside : Bool) (fs : StmtsForm) → are_thrifty (simple_allowance p.types) fs ≡ true → stmts_fit p.types variables p.texts p.exceptions callable inside fs ≡ true
              → stmts_free p.types variables effects t fs ≡ true → IsBare t
          stmts_bare inside no_stmts is fits h = absurd (cc h)
          stmts_bare inside (a_stmt f fs) is fits h =
              let both = apart _ _ is in
              let two = apart _ _ fits in
              either (stmt_frees p.types variables effects t f) (stmts_free p.types variables effects t fs) (λ some. stmt_bare inside f both.0 two.0 some) (λ some. stmts_bare inside fs both.1 two.1 some) h

          branches_bare : (inside : Bool) (branches : BranchesForm) → are_thrifty_branches (simple_allowance p.types) branches ≡ true
              → branches_fit p.types variables p.texts p.exceptions callable inside branches ≡ true → branches_free p.types variables effects t branches ≡ true → IsBare t
          branches_bare inside (otherwise fs) is fits h = stmts_bare inside fs is fits h
          branches_bare inside (a_branch e fs branches) is fits h =
              let both = apart _ _ is in
              let two = apart _ _ fits in
              let three = apart _ _ two.0 in
              either (stmts_free p.types variables effects t fs) (branches_free p.types variables effects t branches) (λ some. stmts_bare inside fs both.0 three.1 some)
              (λ some. branches_bare inside branches both.1 two.1 some) h

          handlers_bare : (inside : Bool) (hs : HandlersForm) → are_thrifty_handlers (simple_allowance p.types) hs ≡ true
              → handlers_fit p.types variables p.texts p.exceptions callable inside hs ≡ true → handlers_free p.types variables effects t hs ≡ true → IsBare t
          handlers_bare inside no_handlers is fits h = absurd (cc h)
          handlers_bare inside (a_handler choices fs hs) is fits h =
              let both = apart _ _ is in
              let two = apart _ _ fits in
              let three = apart _ _ two.0 in
              either (stmts_free p.types variables effects t fs) (handlers_free p.types variables effects t hs) (λ some. stmts_bare inside fs both.0 three.1 some)
              (λ some. handlers_bare inside hs both.1 two.1 some) h

      -- So it is with a body.
      body_bare : (b : BodyForm) → is_thrifty_body (simple_allowance p.types) b ≡ true → body_fits p.types p.texts p.exceptions callable b ≡ true → body_frees p.types effects b t ≡ true → IsBare t
      body_bare b is fits h =
          let two = apart _ _ is in
          let three = apart _ _ two.0 in
          let five = apart _ _ fits in
          let four = apart _ _ five.0 in
          block_bare b.variables b.declarations b.statements b.handlers three.0 (λ some. stmts_bare b.variables false b.statements three.1 four.1 some)
          (λ some. handlers_bare b.variables false b.handlers two.1 five.1 some) h

-- What is known of such a body says so.
pub covered_bare : (p : ProgramForm) → IsWellFormed p → (number : ℕ) (b : BodyForm) → slice_get p.bodies number ≡ Some b → is_thrifty_body (simple_allowance p.types) b ≡ true → (t : ℕ)
    → CoveredIn (implicit_of p) (seen_in (Some number) p) t → has_bare_objects p.types t ≡ true
covered_bare p well number b there simple t covered =
    let callable = [] ++ map profile_of (take number p.bodies) in
    let known = effects_from p.types (implicit_of p) [] (take number p.bodies) in
    let fits = body_at p.types p.texts p.exceptions [] p.bodies number b well.bodies_fit there in
    let freed : body_frees p.types (effects_of (implicit_of p) (seen_by number b p)) b t ≡ true = rw (seen_is p number b there) at covered in
    body_bare p well.types_fit t known callable b simple fits freed
