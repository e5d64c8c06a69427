-- Variables and paths over the variables as they are judged.

use Rattle.std.proofs.Common.{◌≡◌, ℕ, zero, suc, ◌+◌, ◌<◌, Bool, true, false, List, [], ◌∷◌, ◌++◌, length, map, Option, Some, None, refl, sym, ap, ◌∙◌, subst, arith}
use Rattle.std.specs.Prelude.{◌==◌, ◌&&◌, if◌then◌else◌}
use Rattle.std.specs.List.{slice_get}
use Rattle.ada_program.specs.declared.program.TypeNo.{TypeNo}
use Rattle.ada_program.specs.declared.program.VariableKind.{VariableKind}
use Rattle.ada_program.specs.declared.program.VariableKind.TheVariants as variable
use Rattle.ada_program.specs.Form.{PathForm}
use Rattle.ada_program.specs.ProgramForm.{TypeForm, VariableForm}
use Rattle.ada_program.specs.WellFormed.{kind_in, borrows_in, variable_kind, is_borrower, selected_kind, root_kind, selectors_kind, value_access, names_variable}
use Rattle.ada_effects.specs.Effects.{follows_value}
use Rattle.ada_flow.specs.Tracking.{Tracks, begins_with, behind_first, seen_from, seen, with_tracked, kind_or_integer, tracked_variable, judged}
use Rattle.ada_tracked.specs.Simple.{PathIsSimple}
use Rattle.ada_tracked.proofs.Lists.{is_same, apart_is}
use Rattle.ada_tracked.proofs.Paths.{moved, within}
use Rattle.ada_judged.specs.Fitting.{AreOfAccess, TracksComponents, PathIsOfRecord, PathFits}

-- Both are true.
pub and_left : (a b : Bool) → (a && b) ≡ true → a ≡ true
and_left true b e = refl
and_left false b e = absurd (cc)

pub and_right : (a b : Bool) → (a && b) ≡ true → b ≡ true
and_right true b e = e
and_right false b e = absurd (cc)

pub and_both : (a b : Bool) → a ≡ true → b ≡ true → (a && b) ≡ true
and_both true b e f = f
and_both false b e f = absurd (cc)

and_false : (a b : Bool) → b ≡ false → (a && b) ≡ false
and_false true b e = e
and_false false b e = refl

-- What stands in front, and what behind it.
in_front : {X : Type 0} (xs ys : List X) (i : ℕ) → i < length xs → slice_get (xs ++ ys) i ≡ slice_get xs i
in_front [] ys i lt = absurd (omega (arith, lt))
in_front (x ∷ xs) ys zero lt = refl
in_front (x ∷ xs) ys (suc i) lt = in_front xs ys i (omega (arith, lt))

behind_it : {X : Type 0} (xs ys : List X) (i j : ℕ) → j ≡ length xs + i → slice_get (xs ++ ys) j ≡ slice_get ys i
behind_it [] ys i j e = ap (slice_get ys) (omega (arith, e))
behind_it (x ∷ xs) ys i zero e = absurd (omega (arith, e))
behind_it (x ∷ xs) ys i (suc j) e = behind_it xs ys i j (omega (arith, e))

past : {X : Type 0} (xs : List X) (i j : ℕ) → j ≡ length xs + i → slice_get xs j ≡ None
past [] i j e = refl
past (x ∷ xs) i zero e = absurd (omega (arith, e))
past (x ∷ xs) i (suc j) e = past xs i j (omega (arith, e))

pub tracked_front : {X : Type 0} (xs ys : List X) (i : ℕ) → i < length xs → slice_get (with_tracked xs ys) i ≡ slice_get xs i
tracked_front xs [] i lt = refl
tracked_front xs (y ∷ ys) i lt = in_front xs (y ∷ ys) i lt

tracked_behind : {X : Type 0} (xs ys : List X) (i j : ℕ) → j ≡ length xs + i → slice_get (with_tracked xs ys) j ≡ slice_get ys i
tracked_behind xs [] i j e = past xs i j e
tracked_behind xs (y ∷ ys) i j e = behind_it xs (y ∷ ys) i j e

-- From a number on variables stand for components.
abbrev pub Stand : List TypeForm → (object : TypeNo) → (all : List VariableForm) → (number : ℕ) → (components : List ℕ) → Type 0
Stand types object all n [] = Unit {0}
Stand types object all n (c ∷ cs) =
    (access : TypeNo) × (selected_kind types (Some (variable.Record object)) c ≡ Some (variable.Access access))
    × (variable_kind all n ≡ Some (variable.Access access)) × (is_borrower all n ≡ false) × Stand types object all (n + 1) cs

stand_from : (types : List TypeForm) (object : TypeNo) (all : List VariableForm) (formal : Option VariableKind) → formal ≡ Some (variable.Record object)
    → (n : ℕ) (cs : List ℕ) → AreOfAccess types object cs
    → ((i : ℕ) → slice_get all (n + i) ≡ slice_get (map (tracked_variable types formal) cs) i) → Stand types object all n cs
stand_from types object all formal is n [] h there = tt
stand_from types object all formal is n (c ∷ cs) h there =
    let here : slice_get all n ≡ Some (tracked_variable types formal c) = subst (λ (k : ℕ). slice_get all k ≡ Some (tracked_variable types formal c)) (omega arith) (there 0) in (
      h.0.0,
      h.0.1,
      ap kind_in here ∙ ap (λ (f : Option VariableKind). Some (kind_or_integer (selected_kind types f c))) is ∙ ap (λ (k : Option VariableKind). Some (kind_or_integer k)) h.0.1,
      ap borrows_in here,
      stand_from types object all formal is (n + 1) cs h.1
          (λ i. subst (λ (k : ℕ). slice_get all k ≡ slice_get (map (tracked_variable types formal) cs) i) (omega arith) (there (suc i))),
    )

-- A variable of the body.
pub front_kind : (types : List TypeForm) (tracks : Tracks) (own : List VariableForm) (x : ℕ) → x < length own → variable_kind (judged types tracks own) x ≡ variable_kind own x
front_kind types tracks own x lt = ap kind_in (tracked_front own (map (tracked_variable types (variable_kind own 0)) tracks.components) x lt)

pub front_borrows : (types : List TypeForm) (tracks : Tracks) (own : List VariableForm) (x : ℕ) → x < length own → is_borrower (judged types tracks own) x ≡ is_borrower own x
front_borrows types tracks own x lt = ap borrows_in (tracked_front own (map (tracked_variable types (variable_kind own 0)) tracks.components) x lt)

-- A path as it is.
as_it_is : (types : List TypeForm) (own all : List VariableForm) (path : PathForm) → variable_kind all path.root ≡ variable_kind own path.root → is_borrower all path.root ≡ is_borrower own path.root → PathFits types own all path path
as_it_is types own all path kinds borrows = record {
  kind = ap (λ (k : Option VariableKind). selectors_kind types (root_kind path.of_record k) path.selectors) kinds;
  access = ap (λ (k : Option VariableKind). value_access (selectors_kind types (root_kind path.of_record k) path.selectors)) kinds;
  borrows = ap (λ (b : Bool). names_variable path && b) borrows;
  may_raise = refl;
}

-- One that begins with a tracked component.
begun : (c x : ℕ) (ds : List ℕ) → begins_with c x ds ≡ true → (x ≡ 0) × (ds ≡ c ∷ behind_first ds)
begun c x [] e = absurd (cc)
begun c x (d ∷ ds) e = (is_same x 0 (and_left (x == 0) (d == c) e), ap (λ (k : ℕ). k ∷ ds) (is_same d c (and_right (x == 0) (d == c) e)))

none_empty : (c : ℕ) (ds : List ℕ) → (length (c ∷ ds) == 0) ≡ false
none_empty c ds = apart_is (length (c ∷ ds)) 0 (λ e. absurd (omega (arith, e)))

follows_from : (c : ℕ) (ds : List ℕ) → follows_value false ds ≡ follows_value true (c ∷ ds)
follows_from c [] = refl
follows_from c (d ∷ ds) = refl

moved_kind : (types : List TypeForm) (own all : List VariableForm) (object access : TypeNo) (n c root : ℕ) (of_record : Bool) (ds selectors : List ℕ) → variable_kind all n ≡ Some (variable.Access access) → variable_kind own 0 ≡ Some (variable.Record object) → selected_kind types (Some (variable.Record object)) c ≡ Some (variable.Access access) → root ≡ 0 → of_record ≡ true → selectors ≡ c ∷ ds → selectors_kind types (root_kind false (variable_kind all n)) ds ≡ selectors_kind types (root_kind of_record (variable_kind own root)) selectors
moved_kind types own all object access n c root of_record ds selectors held formal selected at_root is_record is =
    ap (λ (k : Option VariableKind). selectors_kind types (root_kind false k) ds) held
    ∙ sym (ap (λ (s : List ℕ). selectors_kind types (root_kind of_record (variable_kind own root)) s) is
    ∙ ap (λ (b : Bool). selectors_kind types (root_kind b (variable_kind own root)) (c ∷ ds)) is_record
    ∙ ap (λ (x : ℕ). selectors_kind types (root_kind true (variable_kind own x)) (c ∷ ds)) at_root
    ∙ ap (λ (k : Option VariableKind). selectors_kind types (root_kind true k) (c ∷ ds)) formal
    ∙ ap (λ (k : Option VariableKind). selectors_kind types k ds) selected)

moved_fits : (types : List TypeForm) (own all : List VariableForm) (object access : TypeNo) (n c : ℕ) (path : PathForm) → variable_kind own 0 ≡ Some (variable.Record object) → selected_kind types (Some (variable.Record object)) c ≡ Some (variable.Access access) → variable_kind all n ≡ Some (variable.Access access) → is_borrower all n ≡ false → PathIsOfRecord path → begins_with c path.root path.selectors ≡ true → PathFits types own all path (moved n path)
moved_fits types own all object access n c path formal selected held owns of_record begins =
    let h = begun c path.root path.selectors begins in
    let ds = behind_first path.selectors in
    let kinds = moved_kind types own all object access n c path.root path.of_record ds path.selectors held formal selected h.0 (of_record h.0) h.1 in
    record {
      kind = kinds;
      access = ap value_access kinds;
      borrows =
          and_false (length ds == 0) (is_borrower all n) owns
          ∙ sym (ap (λ (s : List ℕ). (length s == 0) && is_borrower own path.root) h.1 ∙ ap (λ (b : Bool). b && is_borrower own path.root) (none_empty c ds));
      may_raise =
          follows_from c ds
          ∙ sym (ap (λ (s : List ℕ). follows_value path.of_record s) h.1 ∙ ap (λ (b : Bool). follows_value b (c ∷ ds)) (of_record h.0));
    }

-- One of two paths, by a test.
chosen : (P : PathForm → Type 0) (b : Bool) (one other : PathForm) → (b ≡ true → P one) → (b ≡ false → P other) → P (if b then one else other)
chosen P true one other f g = f refl
chosen P false one other f g = g refl

seen_fits : (types : List TypeForm) (own all : List VariableForm) (object : TypeNo) → variable_kind own 0 ≡ Some (variable.Record object) → (path : PathForm) → variable_kind all path.root ≡ variable_kind own path.root → is_borrower all path.root ≡ is_borrower own path.root → PathIsOfRecord path → (n : ℕ) (cs : List ℕ) → Stand types object all n cs → PathFits types own all path (seen_from cs n path)
seen_fits types own all object formal path kinds borrows of_record n [] h = as_it_is types own all path kinds borrows
seen_fits types own all object formal path kinds borrows of_record n (c ∷ cs) h =
    chosen (λ (q : PathForm). PathFits types own all path q) (begins_with c path.root path.selectors) (moved n path) (seen_from cs (n + 1) path)
    (λ begins. moved_fits types own all object h.0 n c path formal h.1 h.2 h.3 of_record begins)
    (λ e. seen_fits types own all object formal path kinds borrows of_record (n + 1) cs h.4)

-- The tracked components stand behind the variables.
pub stand : (types : List TypeForm) (tracks : Tracks) (own : List VariableForm) (p : TracksComponents types tracks own) → Stand types p.object (judged types tracks own) tracks.first tracks.components
stand types tracks own p =
    stand_from types p.object (judged types tracks own) (variable_kind own 0) p.formal tracks.first tracks.components p.components
    (λ i. tracked_behind own (map (tracked_variable types (variable_kind own 0)) tracks.components) i (tracks.first + i) (ap (λ (k : ℕ). k + i) p.behind))

-- A path from any variable of the body, which may be the formal parameter alone.
pub inside_fits : (types : List TypeForm) (tracks : Tracks) (own : List VariableForm) → TracksComponents types tracks own → (path : PathForm) → path.root < tracks.first → PathIsOfRecord path → PathFits types own (judged types tracks own) path (seen tracks path)
inside_fits types tracks own p path inside of_record =
    let lt : path.root < length own = subst (λ (k : ℕ). path.root < k) p.behind inside in
    seen_fits types own (judged types tracks own) p.object p.formal path (front_kind types tracks own path.root lt) (front_borrows types tracks own path.root lt) of_record tracks.first tracks.components (stand types tracks own p)

pub path_fits : (types : List TypeForm) (tracks : Tracks) (own : List VariableForm) → TracksComponents types tracks own → (path : PathForm) → PathIsSimple tracks.first path → PathIsOfRecord path → PathFits types own (judged types tracks own) path (seen tracks path)
path_fits types tracks own p path simple of_record = inside_fits types tracks own p path (within tracks.first path.root path.selectors simple) of_record
