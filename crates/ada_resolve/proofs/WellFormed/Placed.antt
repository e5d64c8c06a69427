-- A clause puts the objects of an access type into a pool, and leaves all else of the types as it was.

use Rattle.std.proofs.Common.{◌≡◌, ◌∙◌, ℕ, ◌+◌, ◌≤◌, Bool, true, false, List, [], ◌∷◌, ◌++◌, length, length-append, refl, sym, ap, subst, eqb, eqb-true, eq-eqb, arith}
use Rattle.std.specs.Prelude.{Option, Some, None, ◌&&◌, ◌||◌, nat_le, nat_lt, is_some}
use Rattle.std.specs.List.{list_all, slice_get, slice_set}
use Rattle.std.proofs.lemmas.Bool.{leb-true, leb-false, ne_eqb}
use Rattle.ada_program.specs.declared.program.TypeNo.{TypeNo}
use Rattle.ada_program.specs.ProgramForm.{TypeForm, record_of, access_to, object_of, VariableForm}
use Rattle.ada_program.specs.WellFormed as fits
use Rattle.ada_resolve.specs.declared.scope.Entity.{Entity}
use Rattle.ada_resolve.specs.declared.scope.Entity.TheVariants as entity
use Rattle.ada_resolve.specs.Clauses.{placed, placed_by, pool_by, pool_of}
use Rattle.ada_resolve.specs.Known.{Part}
use Rattle.ada_resolve.specs.Types.{defined, number_of}
use Rattle.ada_resolve.specs.Paths.{elementary_of, elementary_in}
use Rattle.ada_resolve.proofs.WellFormed.Forms.{AreIn, bare, forms, get_form, form_there, forms_length, forms_set, plain_stays, record_stays, access_stays, access_there, same_at, all_forms}
use Rattle.ada_resolve.proofs.WellFormed.Laid.{AreRecordsLaid, IsLaid, IsUnused, Avoids, record_has, laid_stays}
use Rattle.ada_resolve.proofs.WellFormed.Names.{EntityFits, PartsFit, variables_behind}
use Rattle.ada_resolve.proofs.WellFormed.Numbered.{types_kept, counted_same}
use Rattle.ada_resolve.proofs.WellFormed.Operations.{HaveOperations, have_set}
use Rattle.ada_resolve.proofs.WellFormed.Tables.{all_set, get_more, get_last, get_other, get_set, get_within, none_past, past_none, object_kind_kept, types_keep, record_grows}

pub placed_forms : (pool : ℕ) (types : List TypeForm) (access : ℕ) → forms (placed pool types access) ≡ forms types
unfolding placed
placed_forms pool types access = by_form (slice_get types access) refl
  where
    by_form : (o : Option TypeForm) → slice_get types access ≡ o → forms (placed_by o pool types access) ≡ forms types
    by_form None is = refl
    by_form (Some (record_of name ps cs final)) is = refl
    by_form (Some (access_to name d before)) is = forms_set types access (access_to name d before) (access_to name d (Some pool)) is refl
    by_form (Some (object_of r)) is = refl

pub placed_length : (pool : ℕ) (types : List TypeForm) (access : ℕ) → length (placed pool types access) ≡ length types
placed_length pool types access =
    sym (forms_length (placed pool types access)) ∙ (ap (λ (ts : List TypeForm). length ts) (placed_forms pool types access) ∙ forms_length types)

-- the pool is there
pub placed_housed : (n pool : ℕ) (types : List TypeForm) (access : ℕ) → nat_lt pool n ≡ true → list_all (fits.has_known_pool n) types ≡ true → list_all (fits.has_known_pool n) (placed pool types access) ≡ true
unfolding placed
placed_housed n pool types access less all = by_form (slice_get types access)
  where
    by_form : (o : Option TypeForm) → list_all (fits.has_known_pool n) (placed_by o pool types access) ≡ true
    by_form None = all
    by_form (Some (record_of name ps cs final)) = all
    by_form (Some (access_to name d before)) = all_set (fits.has_known_pool n) types access (access_to name d (Some pool)) all less
    by_form (Some (object_of r)) = all

-- each type has the operations that it has
pub placed_operations : (pool : ℕ) (types : List TypeForm) (access : ℕ) (callable : List fits.Profile) → HaveOperations types callable → HaveOperations (placed pool types access) callable
unfolding placed
placed_operations pool types access callable h = by_form (slice_get types access) refl
  where
    by_form : (o : Option TypeForm) → slice_get types access ≡ o → HaveOperations (placed_by o pool types access) callable
    by_form None is = h
    by_form (Some (record_of name ps cs final)) is = h
    by_form (Some (access_to name d before)) is = have_set types access (access_to name d before) (access_to name d (Some pool)) callable is refl refl h
    by_form (Some (object_of r)) is = h

fit_bare : (types : List TypeForm) (x : TypeForm) → fits.type_fits types (bare x) ≡ fits.type_fits types x
fit_bare types (record_of name ps cs None) = refl
fit_bare types (record_of name ps cs (Some f)) = refl
fit_bare types (access_to name d pool) = refl
fit_bare types (object_of r) = refl

elementary_bare : (x : TypeForm) → elementary_in (Some (bare x)) ≡ elementary_in (Some x)
elementary_bare (record_of name ps cs final) = refl
elementary_bare (access_to name d pool) = refl
elementary_bare (object_of r) = refl

laid_bare : (types : List TypeForm) (x : TypeForm) → IsLaid types x → IsLaid types (bare x)
laid_bare types (record_of name ps cs final) l = l
laid_bare types (access_to name d pool) l = l
laid_bare types (object_of r) l = l

bare_laid : (types : List TypeForm) (x : TypeForm) → IsLaid types (bare x) → IsLaid types x
bare_laid types (record_of name ps cs final) l = l
bare_laid types (access_to name d pool) l = l
bare_laid types (object_of r) l = l

avoids_bare : (t : ℕ) (x : TypeForm) → Avoids t x → Avoids t (bare x)
avoids_bare t (record_of name ps cs final) a = a
avoids_bare t (access_to name d pool) a = a
avoids_bare t (object_of r) a = a

bare_avoids : (t : ℕ) (x : TypeForm) → Avoids t (bare x) → Avoids t x
bare_avoids t (record_of name ps cs final) a = a
bare_avoids t (access_to name d pool) a = a
bare_avoids t (object_of r) a = a

-- types that are the same as these but for their pools and operations
module _ (types more : List TypeForm) (same : forms more ≡ forms types) where
  pub grown : AreIn (forms types) (forms more)
  grown t x is = subst (λ (ts : List TypeForm). slice_get ts t ≡ Some x) (sym same) is

  -- what each of them is among these
  pub each_was : (t : ℕ) (form : TypeForm) → slice_get more t ≡ Some form → (x : TypeForm) × (slice_get types t ≡ Some x) × (bare x ≡ bare form)
  each_was t form is = form_there types t (bare form) (subst (λ (ts : List TypeForm). slice_get ts t ≡ Some (bare form)) same (get_form more t form is))

  pub placed_fit : AreRecordsLaid types → list_all (fits.type_fits types) types ≡ true → list_all (fits.type_fits more) more ≡ true
  placed_fit laid all =
      sym (all_forms (fits.type_fits more) (fit_bare more) more) ∙
      (ap (λ ts. list_all (fits.type_fits more) ts) same ∙
      (all_forms (fits.type_fits more) (fit_bare more) types ∙ types_kept types more (types_keep types more grown) (record_grows types more grown) (counted_same types more same grown laid) all))

  elementary_stays : (t : ℕ) → fits.is_record types t ≡ true → elementary_of more t ≡ elementary_of types t
  unfolding elementary_of
  elementary_stays t e = by_form (slice_get types t) refl e
    where
      by_form : (o : Option TypeForm) → slice_get types t ≡ o → is_some (fits.components_in o) ≡ true → elementary_in (slice_get more t) ≡ elementary_in (slice_get types t)
      by_form None is e = absurd (cc e)
      by_form (Some x) is e = same_at types more grown (λ o. elementary_in o) elementary_bare t x is ∙ ap (λ o. elementary_in o) (sym is)

  form_laid : (x : TypeForm) → IsLaid types x → IsLaid more x
  form_laid (record_of name ps cs final) l = (
    laid_stays types more 0 ps cs (λ i c is. record_has (λ t. fits.is_record types t ≡ true) (λ t. elementary_of more t ≡ elementary_of types t) elementary_stays c.kind (l.1 i c is)) l.0,
    λ i c is. record_has (λ t. fits.is_record types t ≡ true) (λ t. fits.is_record more t ≡ true) (record_grows types more grown) c.kind (l.1 i c is),
  )
  form_laid (access_to name d pool) l = tt
  form_laid (object_of r) l = record_grows types more grown r l

  pub placed_laid : AreRecordsLaid types → AreRecordsLaid more
  placed_laid all t form is =
      let was = each_was t form is in
      bare_laid more form (subst (λ (x : TypeForm). IsLaid more x) was.2 (laid_bare more was.0 (form_laid was.0 (all t was.0 was.1))))

  pub placed_unused : (t : ℕ) → IsUnused types t → IsUnused more t
  placed_unused t all u form is =
      let was = each_was u form is in
      bare_avoids t form (subst (λ (x : TypeForm). Avoids t x) was.2 (avoids_bare t was.0 (all u was.0 was.1)))

  entity_placed : (variables : List VariableForm) (text : List ℕ) (e : Entity) → EntityFits types variables text e → EntityFits more variables text e
  entity_placed variables text (entity.Incomplete t) f = plain_stays types more grown t.0 text [] [] f
  entity_placed variables text (entity.Record t size) f = let there = record_stays types more grown t.0 text f.0 f.1 f.2 f.3 in (f.0, f.1, there.0, there.1)
  entity_placed variables text (entity.Access t) f = let there = access_stays types more grown t.0 text f.0 f.1 f.2 in (f.0, there.0, there.1)
  entity_placed variables text (entity.Instance t) f = (types_keep types more grown).0 t.0 f
  entity_placed variables text (entity.Variable x kind) f = (f.0, object_kind_kept types more (types_keep types more grown) kind f.1)
  entity_placed variables text (entity.Parameter x kind) f = (f.0, object_kind_kept types more (types_keep types more grown) kind f.1)
  entity_placed variables text e f = f

  pub parts_placed : (variables : List VariableForm) (ps : List Part) → PartsFit types variables ps → PartsFit more variables ps
  parts_placed variables [] f = (placed_laid f.0, placed_fit f.0 f.1)
  parts_placed variables (p ∷ ps) f = (λ text e is. entity_placed variables text e (f.0 text e is), parts_placed (variables_behind p.around variables) ps f.1)

-- a pool that a type has stays its own where types go on
pub pools_in : (types more : List TypeForm) → AreIn types more → (t n : ℕ) → pool_of types t ≡ Some n → pool_of more t ≡ Some n
unfolding pool_of
pools_in types more g t n e = by_form (slice_get types t) refl e
  where
    by_form : (o : Option TypeForm) → slice_get types t ≡ o → pool_by o ≡ Some n → pool_by (slice_get more t) ≡ Some n
    by_form None is e = absurd (cc e)
    by_form (Some x) is e = ap (λ (o : Option TypeForm). pool_by o) (g t x is) ∙ e

-- where a type becomes another that had none
pub pools_set : (types : List TypeForm) (u : ℕ) (x y : TypeForm) → slice_get types u ≡ Some x → pool_by (Some x) ≡ None → (t n : ℕ) → pool_of types t ≡ Some n → pool_of (slice_set types u y) t ≡ Some n
unfolding pool_of
pools_set types u x y is none t n e = by_number (eqb u t) refl
  where
    by_number : (b : Bool) → eqb u t ≡ b → pool_by (slice_get (slice_set types u y) t) ≡ Some n
    by_number true on =
        let there : slice_get types t ≡ Some x = subst (λ (v : ℕ). slice_get types v ≡ Some x) (eqb-true u t on) is in
        let no : None ≡ Some n = sym none ∙ (ap (λ (o : Option TypeForm). pool_by o) (sym there) ∙ e) in absurd (cc no)
    by_number false off =
        ap (λ (o : Option TypeForm). pool_by o) (get_other types u t y (λ same. apart (eq-eqb u t same))) ∙ e
      where
        apart : eqb u t ≡ true → ⊥
        apart on = cc (on, off)

-- and where a clause gives it its first
pub pools_placed : (pool : ℕ) (types : List TypeForm) (access : ℕ) → pool_of types access ≡ None → (t n : ℕ) → pool_of types t ≡ Some n → pool_of (placed pool types access) t ≡ Some n
unfolding placed pool_of
pools_placed pool types access none t n e = by_form (slice_get types access) refl
  where
    by_form : (o : Option TypeForm) → slice_get types access ≡ o → pool_of (placed_by o pool types access) t ≡ Some n
    by_form None is = e
    by_form (Some (record_of name ps cs final)) is = e
    by_form (Some (access_to name d before)) is =
        let own : before ≡ None = ap (λ (o : Option TypeForm). pool_by o) (sym is) ∙ none in
        pools_set types access (access_to name d before) (access_to name d (Some pool)) is own t n e
    by_form (Some (object_of r)) is = e

-- past the end
behind_end : (n t : ℕ) → eqb n t ≡ false → n ≤ t → n + 1 ≤ t
behind_end n t off le = by_place (nat_le (n + 1) t) refl
  where
    apart : n ≡ t → ⊥
    apart same = let on = eq-eqb n t same in cc (on, off)

    by_place : (b : Bool) → nat_le (n + 1) t ≡ b → n + 1 ≤ t
    by_place true on = leb-true (n + 1) t on
    by_place false less = let before = leb-false (n + 1) t less in absurd (apart (omega (arith, before, le)))

-- which types have a pool, where one more is declared
or_none : (b : Bool) → b ≡ (b || false)
or_none true = refl
or_none false = refl

pub pool_more : (types : List TypeForm) (form : TypeForm) (t : ℕ) → is_some (pool_of (types ++ form ∷ []) t) ≡ ((eqb (length types) t && is_some (pool_by (Some form))) || is_some (pool_of types t))
unfolding pool_of
pool_more types form t = by_form (slice_get types t) refl
  where
    own : Bool
    own = is_some (pool_by (Some form))

    by_place : slice_get types t ≡ None → (b : Bool) → eqb (length types) t ≡ b → is_some (pool_by (slice_get (types ++ form ∷ []) t)) ≡ ((b && own) || false)
    by_place none true on =
        let there : slice_get (types ++ form ∷ []) t ≡ Some form = subst (λ (v : ℕ). slice_get (types ++ form ∷ []) v ≡ Some form) (eqb-true (length types) t on) (get_last types form) in
        ap (λ (o : Option TypeForm). is_some (pool_by o)) there ∙ or_none own
    by_place none false off =
        let le = behind_end (length types) t off (none_past types t none) in
        let one = length-append types (form ∷ []) in
        ap (λ (o : Option TypeForm). is_some (pool_by o)) (past_none (types ++ form ∷ []) t (omega (arith, le, one)))

    by_form : (o : Option TypeForm) → slice_get types t ≡ o → is_some (pool_by (slice_get (types ++ form ∷ []) t)) ≡ ((eqb (length types) t && own) || is_some (pool_by o))
    by_form None is = by_place is (eqb (length types) t) refl
    by_form (Some x) is =
        let within = get_within types t x is in
        let other : eqb (length types) t ≡ false = ne_eqb (length types) t (omega (arith, within)) in
        ap (λ (o : Option TypeForm). is_some (pool_by o)) (get_more types form t x is) ∙ ap (λ (b : Bool). (b && own) || is_some (pool_by (Some x))) (sym other)

-- or becomes another that had none
pub pool_set : (types : List TypeForm) (u : ℕ) (x y : TypeForm) → slice_get types u ≡ Some x → pool_by (Some x) ≡ None → (t : ℕ) → is_some (pool_of (slice_set types u y) t) ≡ ((eqb u t && is_some (pool_by (Some y))) || is_some (pool_of types t))
unfolding pool_of
pool_set types u x y is none t = by_number (eqb u t) refl
  where
    own : Bool
    own = is_some (pool_by (Some y))

    by_number : (b : Bool) → eqb u t ≡ b → is_some (pool_by (slice_get (slice_set types u y) t)) ≡ ((b && own) || is_some (pool_by (slice_get types t)))
    by_number true on =
        let same : u ≡ t = eqb-true u t on in
        let there : slice_get types t ≡ Some x = subst (λ (v : ℕ). slice_get types v ≡ Some x) same is in
        let now : slice_get (slice_set types u y) t ≡ Some y = subst (λ (v : ℕ). slice_get (slice_set types u y) v ≡ Some y) same (get_set types u x y is) in
        ap (λ (o : Option TypeForm). is_some (pool_by o)) now ∙
        (or_none own ∙ ap (λ (o : Option ℕ). own || is_some o) (sym (ap (λ (o : Option TypeForm). pool_by o) there ∙ none)))
    by_number false off = ap (λ (o : Option TypeForm). is_some (pool_by o)) (get_other types u t y (λ same. apart (eq-eqb u t same)))
      where
        apart : eqb u t ≡ true → ⊥
        apart on = cc (on, off)

-- or a clause gives it one
pub pool_placed : (pool : ℕ) (types : List TypeForm) (access : ℕ) → fits.is_access types access ≡ true → pool_of types access ≡ None → (t : ℕ) → is_some (pool_of (placed pool types access) t) ≡ (eqb access t || is_some (pool_of types t))
unfolding placed pool_of
pool_placed pool types access there none t = by_form (slice_get types access) refl
  where
    always : (b c : Bool) → ((b && true) || c) ≡ (b || c)
    always true c = refl
    always false c = refl

    not_there : (o : Option TypeForm) → slice_get types access ≡ o → is_some (fits.designated_in o) ≡ false → ⊥
    not_there o is off = let on : is_some (fits.designated_in o) ≡ true = ap (λ (x : Option TypeForm). is_some (fits.designated_in x)) (sym is) ∙ there in cc (on, off)

    by_form : (o : Option TypeForm) → slice_get types access ≡ o → is_some (pool_of (placed_by o pool types access) t) ≡ (eqb access t || is_some (pool_of types t))
    by_form None is = absurd (not_there None is refl)
    by_form (Some (record_of name ps cs final)) is = absurd (not_there (Some (record_of name ps cs final)) is refl)
    by_form (Some (access_to name d before)) is =
        let own : before ≡ None = ap (λ (o : Option TypeForm). pool_by o) (sym is) ∙ none in
        pool_set types access (access_to name d before) (access_to name d (Some pool)) is own t ∙ always (eqb access t) (is_some (pool_of types t))
    by_form (Some (object_of r)) is = absurd (not_there (Some (object_of r)) is refl)

-- and that is its own
pub placed_pool : (pool : ℕ) (types : List TypeForm) (access : ℕ) → fits.is_access types access ≡ true → pool_of (placed pool types access) access ≡ Some pool
unfolding placed pool_of
placed_pool pool types access there = by_form (slice_get types access) refl
  where
    not_there : (o : Option TypeForm) → slice_get types access ≡ o → is_some (fits.designated_in o) ≡ false → ⊥
    not_there o is off = let on : is_some (fits.designated_in o) ≡ true = ap (λ (x : Option TypeForm). is_some (fits.designated_in x)) (sym is) ∙ there in cc (on, off)

    by_form : (o : Option TypeForm) → slice_get types access ≡ o → pool_by (slice_get (placed_by o pool types access) access) ≡ Some pool
    by_form None is = absurd (not_there None is refl)
    by_form (Some (record_of name ps cs final)) is = absurd (not_there (Some (record_of name ps cs final)) is refl)
    by_form (Some (access_to name d before)) is =
        ap (λ (o : Option TypeForm). pool_by o) (get_set types access (access_to name d before) (access_to name d (Some pool)) is)
    by_form (Some (object_of r)) is = absurd (not_there (Some (object_of r)) is refl)

-- a type that has a pool in the end
pub placed_there : (types : List TypeForm) (t : ℕ) (name : List ℕ) (d n : ℕ) → slice_get (forms types) t ≡ Some (access_to name d None) → pool_of types t ≡ Some n → slice_get types t ≡ Some (access_to name d (Some n))
unfolding pool_of
placed_there types t name d n is has =
    let there = access_there types t name d is in
    let own : there.0 ≡ Some n = ap (λ (o : Option TypeForm). pool_by o) (sym there.1) ∙ has in
    there.1 ∙ ap (λ (pool : Option ℕ). Some (access_to name d pool)) own

-- a type that has none changes nothing
none_own : (b c : Bool) → ((b && false) || c) ≡ c
none_own true c = refl
none_own false c = refl

pub none_more : (types : List TypeForm) (form : TypeForm) (t : ℕ) → pool_by (Some form) ≡ None → is_some (pool_of (types ++ form ∷ []) t) ≡ is_some (pool_of types t)
none_more types form t none =
    pool_more types form t ∙
    (ap (λ (o : Option ℕ). (eqb (length types) t && is_some o) || is_some (pool_of types t)) none ∙ none_own (eqb (length types) t) (is_some (pool_of types t)))

-- a type that is declared or completed has the pool of its aspect
pub pool_defined : (types : List TypeForm) (c : Option TypeNo) (form : TypeForm) (t : ℕ) → ((u : TypeNo) → c ≡ Some u → (x : TypeForm) × (slice_get types u.0 ≡ Some x) × (pool_by (Some x) ≡ None)) → is_some (pool_of (defined c form types) t) ≡ ((eqb (number_of c types).0 t && is_some (pool_by (Some form))) || is_some (pool_of types t))
pool_defined types None form t was = pool_more types form t
pool_defined types (Some u) form t was = let x = was u refl in pool_set types u.0 x.0 form x.1 x.2 t

pub none_defined : (types : List TypeForm) (c : Option TypeNo) (form : TypeForm) (t : ℕ) → ((u : TypeNo) → c ≡ Some u → (x : TypeForm) × (slice_get types u.0 ≡ Some x) × (pool_by (Some x) ≡ None)) → pool_by (Some form) ≡ None → is_some (pool_of (defined c form types) t) ≡ is_some (pool_of types t)
none_defined types c form t was none =
    pool_defined types c form t was ∙
    (ap (λ (o : Option ℕ). (eqb (number_of c types).0 t && is_some o) || is_some (pool_of types t)) none ∙ none_own (eqb (number_of c types).0 t) (is_some (pool_of types t)))

some_own : (b c : Bool) → ((b && true) || c) ≡ (b || c)
some_own true c = refl
some_own false c = refl

pub some_defined : (types : List TypeForm) (c : Option TypeNo) (form : TypeForm) (t : ℕ) → ((u : TypeNo) → c ≡ Some u → (x : TypeForm) × (slice_get types u.0 ≡ Some x) × (pool_by (Some x) ≡ None)) → is_some (pool_by (Some form)) ≡ true → is_some (pool_of (defined c form types) t) ≡ (eqb (number_of c types).0 t || is_some (pool_of types t))
some_defined types c form t was on =
    pool_defined types c form t was ∙
    (ap (λ (b : Bool). (eqb (number_of c types).0 t && b) || is_some (pool_of types t)) on ∙ some_own (eqb (number_of c types).0 t) (is_some (pool_of types t)))
