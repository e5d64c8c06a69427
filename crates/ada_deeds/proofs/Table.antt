-- The table of what implicit calls may do, number by number, and row by row; and that it is the one of the program.

use Rattle.std.proofs.Common.{◌≡◌, ◌⊎◌, ◌↔◌, ℕ, ◌+◌, ◌<◌, ◌≤◌, zero, suc, Bool, true, false, cond, nat_lt, ◌&&◌, List, [], ◌∷◌, ◌++◌, length, refl, sym, ap, ◌∙◌, subst, inl, inr, arith, add-one}
use Rattle.std.proofs.lemmas.Bool.{cases_lt, le-ltb, and_left, and_right, and_cases, or_from, or_parts}
use Rattle.std.proofs.lemmas.List.{append_assoc, length-map}
use Rattle.std.proofs.lemmas.List.Elements.{filter-append}
use Rattle.std.proofs.lemmas.Option.{slice_get_past}
use Rattle.std.proofs.Math.Path.{fun_ext}
use Rattle.std.specs.List.{filter, slice_get}
use Rattle.std.specs.Prelude.{Option, Some, None}
use Rattle.ada_deeds.specs.Does.{is_deed_of}
use Rattle.ada_deeds.specs.Forms.{parts_do}
use Rattle.ada_deeds.specs.Graph.{node_of}
use Rattle.ada_deeds.specs.Implicit.{declared_up_to, exceptions_of, record_in, record_at, implicit_of}
use Rattle.ada_deeds.specs.Rows.{row_of, is_marked, has_marks, is_raised, is_freed, is_used, does_in, KnowsDeeds}
use Rattle.ada_deeds.specs.Table.{comes_out, coming_out, is_in, is_in_among, IsStart, IsListed, raised_among, is_freed_among, is_used_among}
use Rattle.ada_deeds.specs.Within.{does_within, callee_count, does_by}
use Rattle.ada_deeds.specs.declared.deed.Callee.{Callee}
use Rattle.ada_deeds.specs.declared.deed.Deed.{Deed}
use Rattle.ada_deeds.specs.declared.deed.Deed.TheVariants.{Raises, Frees, Follows}
use Rattle.ada_deeds.specs.declared.deed.Operation.{Operation}
use Rattle.ada_deeds.specs.declared.deed.Operation.TheVariants.{Initialize, Adjust, Finalize}
use Rattle.ada_deeds.specs.declared.deeds.Deeds.{Deeds}
use Rattle.ada_deeds.specs.declared.implicit.Column.{Column}
use Rattle.ada_deeds.specs.declared.implicit.Column.TheVariants as column
use Rattle.ada_deeds.proofs.Within.{counts_are_enough}
use Rattle.ada_effects.specs.declared.effect.Effect.{Effect as HeldEffect}
use Rattle.ada_effects.specs.declared.implicit.AccessTypes.{AccessTypes}
use Rattle.ada_effects.specs.declared.implicit.Implicit.{Implicit as HeldImplicit}
use Rattle.ada_effects.specs.Effects.{Implicit}
use Rattle.ada_effects.specs.Found.{has_number, implicit_in}
use Rattle.ada_program.specs.declared.program.Exception.{Exception}
use Rattle.ada_program.specs.declared.program.Exception.TheVariants.{ConstraintError, ProgramError, StorageError, EndError, Declared}
use Rattle.ada_program.specs.declared.program.TypeDefinition.{TypeDefinition}
use Rattle.ada_program.specs.Kept.{types_in}
use Rattle.ada_program.specs.ProgramForm.{type_form, ProgramForm}

-- One declared exception more.
pub exceptions_more : (deeds : Deeds) (n : ℕ) → raised_among (n + 1) deeds ≡ raised_among n deeds ++ filter (is_raised deeds) (Declared (record { 0 = n }) ∷ [])
exceptions_more deeds n =
    ap (λ (m : ℕ). raised_among m deeds) (add-one n) ∙
    filter-append (is_raised deeds) (ConstraintError ∷ ProgramError ∷ StorageError ∷ EndError ∷ declared_up_to n) (Declared (record { 0 = n }) ∷ [])

-- One exception more of those that are asked for.

pub one_taken : (f : Exception → Bool) (list rest : List Exception) (e : Exception) → f e ≡ true →
    (list ++ e ∷ []) ++ filter f rest ≡ list ++ filter f (e ∷ rest)
one_taken f list rest e h = append_assoc list (e ∷ []) (filter f rest) ∙ ap (λ b. list ++ cond b (e ∷ filter f rest) (filter f rest)) (sym h)

pub one_passed : (f : Exception → Bool) (list rest : List Exception) (e : Exception) → f e ≡ false → list ++ filter f rest ≡ list ++ filter f (e ∷ rest)
one_passed f list rest e h = ap (λ b. list ++ cond b (e ∷ filter f rest) (filter f rest)) (sym h)

-- One row more.

get_left : {X : Type 0} (xs : List X) (x : X) (n : ℕ) → n < length xs → slice_get (xs ++ x ∷ []) n ≡ slice_get xs n
get_left [] x n lt = absurd (omega (arith, lt))
get_left (y ∷ xs) x zero lt = refl
get_left (y ∷ xs) x (suc n) lt = get_left xs x n (omega (arith, lt))

get_last : {X : Type 0} (xs : List X) (x : X) → slice_get (xs ++ x ∷ []) (length xs) ≡ Some x
get_last [] x = refl
get_last (y ∷ xs) x = get_last xs x

pub rows_more : {X : Type 0} (P : ℕ → Option X → Type 0) (n : ℕ) (rows : List X) (x : X) → length rows ≡ n → ((u : ℕ) → u < n → P u (slice_get rows u)) →
    P n (Some x) → (u : ℕ) → u < n + 1 → P u (slice_get (rows ++ x ∷ []) u)
rows_more P n rows x size each new u lt = elim (cases_lt u n) [
  | inl before ↦ subst (P u) (sym (get_left rows x u (omega (arith, size, before)))) (each u before)
  | inr le ↦
      let is : u ≡ length rows = omega (arith, size, lt, le) in
      let here : n ≡ u = omega (arith, lt, le) in
      subst (P u) (sym (ap (slice_get (rows ++ x ∷ [])) is ∙ get_last rows x)) (subst (λ (m : ℕ). P m (Some x)) here new)
]

-- A row stands for what was asked for.
pub start_here : {exceptions : List Exception} {among : ℕ → Bool} {does : Deed → Callee → Bool} {r u : Option ℕ} (row : HeldEffect) → r ≡ u →
    row.raises.items ≡ coming_out does r exceptions → ((x : ℕ) → has_number row.frees.items x ≡ is_in_among among does r column.Starts x) →
    IsStart exceptions among does u (Some row)
start_here {exceptions} {among} {does} {r} {u} row same_record raises frees = record {
  raises = raises ∙ ap (λ (o : Option ℕ). coming_out does o exceptions) same_record;
  frees = λ x. frees x ∙ ap (λ (o : Option ℕ). is_in_among among does o column.Starts x) same_record;
}

pub list_here : (among : ℕ → Bool) (does : Deed → Callee → Bool) {r u : Option ℕ} (c : Column) (row : AccessTypes) → r ≡ u →
    ((x : ℕ) → has_number row.list.items x ≡ is_in_among among does r c x) → IsListed among does u c (Some row)
list_here among does {r} {u} c row same_record listed x = listed x ∙ ap (λ (o : Option ℕ). is_in_among among does o c x) same_record

-- Past the last type there is no record type, and so nothing is done.

pub no_record : (types : List TypeDefinition) (u : ℕ) → length types ≤ u → record_at (types_in types) u ≡ None
no_record types u le = let n = length-map types type_form in ap (record_in u) (slice_get_past (types_in types) u (omega (arith, n, le)))

nothing_passes : (f : Exception → Bool) (es : List Exception) → ((e : Exception) → f e ≡ false) → filter f es ≡ []
nothing_passes f [] none = refl
nothing_passes f (e ∷ es) none = ap (λ b. cond b (e ∷ filter f es) (filter f es)) (none e) ∙ nothing_passes f es none

not_in : (does : Deed → Callee → Bool) (c : Column) (t : ℕ) → is_in does None c t ≡ false
not_in does column.Starts t = refl
not_in does column.Adjusts t = refl
not_in does column.Ends t = refl
not_in does column.Reached t = refl

none_in : (among : ℕ → Bool) (does : Deed → Callee → Bool) (c : Column) (t : ℕ) → is_in_among among does None c t ≡ false
none_in among does c t = and_right (among t) (is_in does None c t) (not_in does c t)

no_start : (exceptions : List Exception) (among : ℕ → Bool) (does : Deed → Callee → Bool) → IsStart exceptions among does None None
no_start exceptions among does = record {
  raises = sym (nothing_passes (comes_out does None) exceptions (λ e. refl));
  frees = λ t. sym (none_in among does column.Starts t);
}

no_list : (among : ℕ → Bool) (does : Deed → Callee → Bool) (c : Column) → IsListed among does None c None
no_list among does c t = sym (none_in among does c t)

rows_all : {X : Type 0} (P : Option ℕ → Option X → Type 0) (types : List TypeDefinition) (n : ℕ) (rows : List X) → length rows ≡ n → length types ≤ n →
    ((u : ℕ) → u < n → P (record_at (types_in types) u) (slice_get rows u)) → P None None → (u : ℕ) → P (record_at (types_in types) u) (slice_get rows u)
rows_all {X} P types n rows size le each none u = elim (cases_lt u n) [
  | inl lt ↦ each u lt
  | inr past ↦
      subst (λ (r : Option ℕ). P r (slice_get rows u)) (sym (no_record types u (omega (arith, le, past))))
      (subst (λ (row : Option X). P None row) (sym (slice_get_past rows u (omega (arith, size, past)))) none)
]

-- All rows of the first column, and of another one.
pub starts_all : (exceptions : List Exception) (among : ℕ → Bool) (does : Deed → Callee → Bool) (types : List TypeDefinition) (n : ℕ) (rows : List HeldEffect) →
    length rows ≡ n → length types ≤ n → ((u : ℕ) → u < n → IsStart exceptions among does (record_at (types_in types) u) (slice_get rows u)) →
    (u : ℕ) → IsStart exceptions among does (record_at (types_in types) u) (slice_get rows u)
starts_all exceptions among does types n rows size le each =
    rows_all (λ r row. IsStart exceptions among does r row) types n rows size le each (no_start exceptions among does)

pub column_all : (among : ℕ → Bool) (does : Deed → Callee → Bool) (c : Column) (types : List TypeDefinition) (n : ℕ) (rows : List AccessTypes) →
    length rows ≡ n → length types ≤ n → ((u : ℕ) → u < n → IsListed among does (record_at (types_in types) u) c (slice_get rows u)) →
    (u : ℕ) → IsListed among does (record_at (types_in types) u) c (slice_get rows u)
column_all among does c types n rows size le each =
    rows_all (λ r row. IsListed among does r c row) types n rows size le each (no_list among does c)

-- The deeds of a program are what its callees do within so many calls of calls.

same_answer : (a b : Bool) {P : Type 0} → ((a ≡ true) ↔ P) → ((b ≡ true) ↔ P) → a ≡ b
same_answer true true f g = refl
same_answer true false f g = sym (g.1 (f.0 refl))
same_answer false true f g = f.1 (g.0 refl)
same_answer false false f g = refl

deeds_are : (deeds : Deeds) (p : ProgramForm) → KnowsDeeds deeds p → does_in deeds ≡ does_by p
deeds_are deeds p knows = fun_ext (λ d. fun_ext (λ c. same_answer (does_in deeds d c) (does_by p d c) (knows d c) (counts_are_enough p d c)))

-- Of a number past the last type nothing is done.

does_none : (p : ProgramForm) (d : Deed) → is_deed_of p d ≡ false → (c : Callee) → does_by p d c ≡ false
does_none p d none c = and_left (is_deed_of p d) (does_within p d (callee_count p) c) none

parts_do_none : (known : Callee → Bool) → ((c : Callee) → known c ≡ false) → (o : Operation) (r : Option ℕ) → parts_do known o r ≡ false
parts_do_none known none o None = refl
parts_do_none known none o (Some u) = none _

past_all : (p : ProgramForm) (r : Option ℕ) (c : Column) (t : ℕ) → length p.types ≤ t → is_in (does_by p) r c t ≡ false
past_all p r c t le = past c
  where
    past_type : nat_lt t (length p.types) ≡ false
    past_type = le-ltb t (length p.types) le

    frees_none : (o : Operation) → parts_do (does_by p (Frees (record { 0 = t }))) o r ≡ false
    frees_none o = parts_do_none (does_by p (Frees (record { 0 = t }))) (does_none p (Frees (record { 0 = t })) past_type) o r

    follows_none : (o : Operation) → parts_do (does_by p (Follows (record { 0 = t }))) o r ≡ false
    follows_none o = parts_do_none (does_by p (Follows (record { 0 = t }))) (does_none p (Follows (record { 0 = t })) past_type) o r

    past : (c : Column) → is_in (does_by p) r c t ≡ false
    past column.Starts = or_from _ _ (frees_none Initialize) (frees_none Finalize)
    past column.Adjusts = frees_none Adjust
    past column.Ends = frees_none Finalize
    past column.Reached = or_from _ _ (frees_none Finalize) (follows_none Finalize)

-- Where no mark is kept, nothing is done.

unmarked : (marks : List Bool) → has_marks marks ≡ false → (o : Option ℕ) → is_marked marks o ≡ false
unmarked [] h None = refl
unmarked [] h (Some n) = refl
unmarked (mark ∷ marks) h o = absurd (cc h)

does_not : (deeds : Deeds) (d : Deed) → has_marks (row_of deeds d) ≡ false → (c : Callee) → does_in deeds d c ≡ false
unfolding does_in
does_not deeds d h c = unmarked (row_of deeds d) h (node_of deeds.nodes.procedures deeds.nodes.types c)

frees_nothing : (deeds : Deeds) (r : Option ℕ) (t : ℕ) → is_freed deeds t ≡ false → (o : Operation) → parts_do (does_in deeds (Frees (record { 0 = t }))) o r ≡ false
frees_nothing deeds r t none o = parts_do_none (does_in deeds (Frees (record { 0 = t }))) (does_not deeds (Frees (record { 0 = t })) none) o r

not_started : (deeds : Deeds) (r : Option ℕ) (t : ℕ) → is_freed deeds t ≡ false → is_in (does_in deeds) r column.Starts t ≡ false
not_started deeds r t none = or_from _ _ (frees_nothing deeds r t none Initialize) (frees_nothing deeds r t none Finalize)

not_reached : (deeds : Deeds) (r : Option ℕ) (t : ℕ) → is_used deeds t ≡ false → is_in (does_in deeds) r column.Reached t ≡ false
not_reached deeds r t none =
    let parts = or_parts (is_freed deeds t) (has_marks (row_of deeds (Follows (record { 0 = t })))) none in
    or_from _ _ (frees_nothing deeds r t parts.0 Finalize)
    (parts_do_none (does_in deeds (Follows (record { 0 = t }))) (does_not deeds (Follows (record { 0 = t })) parts.1) Finalize r)

unraised : (deeds : Deeds) (r : Option ℕ) (e : Exception) → is_raised deeds e ≡ false → comes_out (does_in deeds) r e ≡ false
unraised deeds r e h =
    or_from _ _ (parts_do_none (does_in deeds (Raises e)) (does_not deeds (Raises e) h) Initialize r)
    (parts_do_none (does_in deeds (Raises e)) (does_not deeds (Raises e) h) Finalize r)

-- So those that are not asked for would not be listed.

filter_twice : (f g : Exception → Bool) → ((e : Exception) → g e ≡ false → f e ≡ false) → (es : List Exception) → filter f (filter g es) ≡ filter f es
filter_twice f g only [] = refl
filter_twice f g only (e ∷ es) = by (g e) refl (filter_twice f g only es)
  where
    by : (b : Bool) → g e ≡ b → filter f (filter g es) ≡ filter f es → filter f (cond b (e ∷ filter g es) (filter g es)) ≡ filter f (e ∷ es)
    by true is rest = ap (λ xs. cond (f e) (e ∷ xs) xs) rest
    by false is rest = rest ∙ sym (ap (λ b. cond b (e ∷ filter f es) (filter f es)) (only e is))

among_all : (deeds : Deeds) (p : ProgramForm) → does_in deeds ≡ does_by p → (r : Option ℕ) (c : Column) (t : ℕ) (asked : Bool) →
    (asked ≡ false → is_in (does_in deeds) r c t ≡ false) → ((nat_lt t (length p.types) && asked) && is_in (does_in deeds) r c t) ≡ is_in (does_by p) r c t
among_all deeds p same r c t asked otherwise = by (nat_lt t (length p.types) && asked) refl
  where
    none : (nat_lt t (length p.types) ≡ false) ⊎ (asked ≡ false) → is_in (does_by p) r c t ≡ false
    none (inl past) = past_all p r c t (grind (arith, past))
    none (inr h) = sym (ap (λ does. is_in does r c t) same) ∙ otherwise h

    by : (b : Bool) → (nat_lt t (length p.types) && asked) ≡ b → (b && is_in (does_in deeds) r c t) ≡ is_in (does_by p) r c t
    by true is = ap (λ does. is_in does r c t) same
    by false is = sym (none (and_cases (nat_lt t (length p.types)) asked is))

-- Two tables are one, where all their answers are.
same_table : (a b : Implicit) → a.start_raises ≡ b.start_raises → a.start_frees ≡ b.start_frees → a.adjust_frees ≡ b.adjust_frees →
    a.end_frees ≡ b.end_frees → a.end_reaches ≡ b.end_reaches → a ≡ b
same_table a b r f j e s =
    ap (λ x. record { start_raises = x; start_frees = a.start_frees; adjust_frees = a.adjust_frees; end_frees = a.end_frees; end_reaches = a.end_reaches }) r ∙
    ap (λ x. record { start_raises = b.start_raises; start_frees = x; adjust_frees = a.adjust_frees; end_frees = a.end_frees; end_reaches = a.end_reaches }) f ∙
    ap (λ x. record { start_raises = b.start_raises; start_frees = b.start_frees; adjust_frees = x; end_frees = a.end_frees; end_reaches = a.end_reaches }) j ∙
    ap (λ x. record { start_raises = b.start_raises; start_frees = b.start_frees; adjust_frees = b.adjust_frees; end_frees = x; end_reaches = a.end_reaches }) e ∙
    ap (λ x. record { start_raises = b.start_raises; start_frees = b.start_frees; adjust_frees = b.adjust_frees; end_frees = b.end_frees; end_reaches = x }) s

-- So the table with these rows is that of the program.
pub table_is : (deeds : Deeds) (p : ProgramForm) (i : HeldImplicit) (raised : List Exception) (freed used : ℕ → Bool) → KnowsDeeds deeds p →
    raised ≡ raised_among (length p.exceptions) deeds → ((t : ℕ) → freed t ≡ is_freed_among (length p.types) deeds t) →
    ((t : ℕ) → used t ≡ is_used_among (length p.types) deeds t) →
    ((u : ℕ) → IsStart raised freed (does_in deeds) (record_at p.types u) (slice_get i.starts.items u)) →
    ((u : ℕ) → IsListed freed (does_in deeds) (record_at p.types u) column.Adjusts (slice_get i.adjusts.items u)) →
    ((u : ℕ) → IsListed freed (does_in deeds) (record_at p.types u) column.Ends (slice_get i.ends.items u)) →
    ((u : ℕ) → IsListed used (does_in deeds) (record_at p.types u) column.Reached (slice_get i.reached.items u)) →
    implicit_in i ≡ implicit_of p
table_is deeds p i raised freed used knows all_raised all_freed all_used starts adjusts ends reached =
    same_table (implicit_in i) (implicit_of p)
    (fun_ext (λ u. (starts u).raises ∙ comes u))
    (fun_ext (λ u. fun_ext (λ t. (starts u).frees t ∙ told column.Starts u t (not_started deeds (record_at p.types u) t))))
    (fun_ext (λ u. fun_ext (λ t. adjusts u t ∙ told column.Adjusts u t (λ h. frees_nothing deeds (record_at p.types u) t h Adjust))))
    (fun_ext (λ u. fun_ext (λ t. ends u t ∙ told column.Ends u t (λ h. frees_nothing deeds (record_at p.types u) t h Finalize))))
    (fun_ext (λ u. fun_ext (λ t. reached u t ∙ all_reached u t)))
  where
    same : does_in deeds ≡ does_by p
    same = deeds_are deeds p knows

    comes : (u : ℕ) → coming_out (does_in deeds) (record_at p.types u) raised ≡ coming_out (does_by p) (record_at p.types u) (exceptions_of p)
    comes u =
        ap (coming_out (does_in deeds) (record_at p.types u)) all_raised ∙
        filter_twice (comes_out (does_in deeds) (record_at p.types u)) (is_raised deeds) (unraised deeds (record_at p.types u)) (exceptions_of p) ∙
        ap (λ does. coming_out does (record_at p.types u) (exceptions_of p)) same

    told : (c : Column) (u t : ℕ) → (is_freed deeds t ≡ false → is_in (does_in deeds) (record_at p.types u) c t ≡ false) →
        is_in_among freed (does_in deeds) (record_at p.types u) c t ≡ is_in (does_by p) (record_at p.types u) c t
    told c u t otherwise =
        ap (λ b. b && is_in (does_in deeds) (record_at p.types u) c t) (all_freed t) ∙ among_all deeds p same (record_at p.types u) c t (is_freed deeds t) otherwise

    all_reached : (u t : ℕ) → is_in_among used (does_in deeds) (record_at p.types u) column.Reached t ≡ is_in (does_by p) (record_at p.types u) column.Reached t
    all_reached u t =
        ap (λ b. b && is_in (does_in deeds) (record_at p.types u) column.Reached t) (all_used t) ∙
        among_all deeds p same (record_at p.types u) column.Reached t (is_used deeds t) (not_reached deeds (record_at p.types u) t)
