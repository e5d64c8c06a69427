-- What a call gives to formal parameters (6.4.1): values that are lent to them, and owners that are handed over.

use Rattle.std.proofs.Common.{◌≡◌, ◌≢◌, ℕ, zero, suc, ◌+◌, Bool, true, false, ◌||◌, not, ◌==◌, List, [], ◌∷◌, ◌++◌, length, map, take, refl, sym, ap, ◌⊎◌, inl, inr, arith, subst}
use Rattle.std.specs.Prelude.{Option, Some, None}
use Rattle.std.proofs.lemmas.Bool.{and_parts, eqb-true, eq-eqb}
use Rattle.ada_text.specs.declared.spot.Spot.{Spot}
use Rattle.ada_program.specs.declared.program.FormalMode.{FormalMode}
use Rattle.ada_program.specs.declared.program.FormalMode.TheVariants.{In, InOut}
use Rattle.ada_program.specs.declared.program.ScalarType.{ScalarType}
use Rattle.ada_program.specs.declared.program.ScalarType.TheVariants as scalar_type
use Rattle.ada_program.specs.declared.program.VariableKind.{VariableKind}
use Rattle.ada_program.specs.declared.program.VariableKind.TheVariants as variable_kinds
use Rattle.ada_program.specs.declared.program.TypeNo.{TypeNo}
use Rattle.ada_program.specs.Form.{PathForm, RecordPathForm, ActualForm, in_value, in_null, in_access, in_record, in_out_path, in_out_access, in_out_component, in_out_record}
use Rattle.ada_program.specs.ProgramForm.{TypeForm, record_of, access_to, object_of, VariableForm}
use Rattle.ada_program.specs.WellFormed as fits
use Rattle.ada_program.specs.WellFormed.{access_of, kind_among, variable_kind, selected_kind, reached_components, record_components, object_in, is_record_path, names_record, path_access, is_this, names_borrower, names_access, stands_alone, actual_fits, actuals_fit, mode_of, same_mode, modes_fit, kind_held}
use Rattle.ada_effects.specs.Effects.{Effect}
use Rattle.ada_flow.specs.declared.rule.Hold.{Hold}
use Rattle.ada_flow.specs.declared.rule.Hold.TheVariants as hold
use Rattle.ada_flow.specs.declared.rule.Region.TheVariants.{Whole}
use Rattle.ada_flow.specs.Flow.{Holds, hold_at, variable_access, lost_by, taken_by, passed_by, passes_it, opens_it, names_value, component_passes, record_passes, lent_by, handed_by, given_by_both, is_given, is_begun_with, uses_in_actual, uses_in_actuals, lends_it, hands_it, formal_hold, first_holds, gives_back, all_give_back, owed_by, owed_from, is_as_good, without_alias, without_freed, is_freed, without_value, left_by_move, left_by_call, Keeping, first_kept, others_kept, unless_kept, left_unkept}
use Rattle.ada_meaning.specs.declared.state.Value.{Value}
use Rattle.ada_meaning.specs.declared.state.Value.TheVariants.{Null}
use Rattle.ada_meaning.specs.Heap.{finds}
use Rattle.ada_meaning.specs.Named.{Object, whole}
use Rattle.std.specs.List.{slice_get}
use Rattle.ada_owners.specs.Reliance.{Owns}
use Rattle.ada_owners.specs.Walks.{walk}
use Rattle.ada_sound.proofs.Fits.{place_at, names_object, is_object}
use Rattle.ada_sound.proofs.Values.{read_same, read_other, same_or_not}
use Rattle.ada_sound.proofs.Roots.{value_root}
use Rattle.ada_sound.proofs.Begins.{along_root}
use Rattle.ada_sound.proofs.Orderings.{AsGood, good_here, good_lost, as_good, as_good_then}
use Rattle.ada_sound.proofs.Raising.{or_right}
use Rattle.ada_sound.proofs.Followings as followings
use Rattle.ada_sound.proofs.Followings.{kept_apart}
use Rattle.ada_sound.proofs.Invariant.{NoneBroken, begun, along, ReferredBy, PassedBy, handed, handed_at}

-- A hold of which one of these breaks no rule.
pub lent_kept : (again : Bool) (h : Hold) (spot : Spot) → lent_by again h spot ≡ None → lost_by h spot ≡ None
lent_kept again hold.Null spot e = refl
lent_kept again (hold.Kept r) spot e = refl
lent_kept again (hold.Own r) spot e = refl
lent_kept again (hold.Alias r) spot e = refl
lent_kept again hold.Lost spot e = absurd (cc e)

handed_owns : (again : Bool) (h : Hold) (spot : Spot) → handed_by again h spot ≡ None → gives_back h ≡ true
handed_owns again hold.Null spot e = refl
handed_owns again (hold.Kept r) spot e = refl
handed_owns again (hold.Own r) spot e = refl
handed_owns again (hold.Alias r) spot e = absurd (cc e)
handed_owns again hold.Lost spot e = absurd (cc e)

pub handed_kept : (again : Bool) (h : Hold) (spot : Spot) → handed_by again h spot ≡ None → lost_by h spot ≡ None
handed_kept again hold.Null spot e = refl
handed_kept again (hold.Kept r) spot e = refl
handed_kept again (hold.Own r) spot e = refl
handed_kept again (hold.Alias r) spot e = refl
handed_kept again hold.Lost spot e = absurd (cc e)

once_by : (again : Bool) (spot : Spot) → given_by_both again spot ≡ None → again ≡ false
once_by true spot e = absurd (cc e)
once_by false spot e = refl

handed_once : (again : Bool) (h : Hold) (spot : Spot) → handed_by again h spot ≡ None → again ≡ false
handed_once again hold.Null spot e = once_by again spot e
handed_once again (hold.Kept r) spot e = once_by again spot e
handed_once again (hold.Own r) spot e = once_by again spot e
handed_once again (hold.Alias r) spot e = absurd (cc e)
handed_once again hold.Lost spot e = absurd (cc e)

-- What is passed breaks no rule only if it is safe, and not lost.
pub passed_safe : (unsafe : Bool) (h : Hold) (spot : Spot) → passed_by unsafe h spot ≡ None → (unsafe ≡ false) × (lost_by h spot ≡ None)
passed_safe unsafe hold.Null spot e = (once_by unsafe spot e, refl)
passed_safe unsafe (hold.Kept r) spot e = (once_by unsafe spot e, refl)
passed_safe unsafe (hold.Own r) spot e = (once_by unsafe spot e, refl)
passed_safe unsafe (hold.Alias r) spot e = (once_by unsafe spot e, refl)
passed_safe unsafe hold.Lost spot e = absurd (cc e)

pub or_false : (a b : Bool) → a || b ≡ false → b ≡ false
or_false true b e = absurd (cc e)
or_false false b e = e

pub taken_never : (h : Hold) (spot : Spot) → taken_by false h spot ≡ None → ⊥
taken_never hold.Null spot e = cc e
taken_never (hold.Kept r) spot e = cc e
taken_never (hold.Own r) spot e = cc e
taken_never (hold.Alias r) spot e = cc e
taken_never hold.Lost spot e = cc e

-- Of an access type is what is of this one.
pub this_is : (access : ℕ) (found : Option ℕ) → is_this access found ≡ true → found ≡ Some access
this_is access None e = absurd (cc e)
this_is access (Some t) e = ap Some (eqb-true t access e)

-- These are the values of actual parameters, in order.
abbrev pub AreGiven : List Object → List Value → List ActualForm → List Value → Type 0
AreGiven heap places [] values = Unit {0}
AreGiven heap places (a ∷ rest) [] = ⊥
AreGiven heap places (a ∷ rest) (v ∷ vs) = PassedBy heap places a v × AreGiven heap places rest vs

-- Nothing is known of the variables of a body that are no formal parameters.
pub no_formal : (vs : List VariableForm) (i : ℕ) → hold_at (first_holds [] vs) i ≡ hold.Lost
no_formal [] i = refl
no_formal (v ∷ vs) zero = refl
no_formal (v ∷ vs) (suc i) = no_formal vs i

-- A formal parameter by what its call gives it: nothing that is relied on; a value that is lent, or null; a record that is passed; or what a variable owns.
module _ (types : List TypeForm) (own : List VariableForm) (may : ℕ → Bool) (heap : List Object) (places : List Value) (holds : Holds) where
  pub record Lending (kind : Option ℕ) (v : Value) : Type 0 where
    pub path : PathForm
    pub access : ℕ
    pub of : kind ≡ Some access
    pub names : path_access types own path ≡ Some access
    pub found : walk heap (begun places path) (along places path) ≡ finds v
    pub kept : lost_by (hold_at holds path.root) path.spot ≡ None

  pub record Handing (given : Option ℕ) (kind : Option ℕ) (v : Value) : Type 0 where
    pub x : ℕ
    pub is : given ≡ Some x
    pub of : kind ≡ variable_access own x
    pub there : variable_access own x ≢ None
    pub plain : is_object own x ≡ false
    pub value : v ≡ whole (place_at places x)
    pub owner : gives_back (hold_at holds x) ≡ true

  pub record Passing (kind : Option VariableKind) (v : Value) : Type 0 where
    pub p : RecordPathForm
    pub object : names_object kind ≡ true
    pub lies : is_record_path types own p ≡ true
    pub reached : (c : ℕ) (k : VariableKind) → selected_kind types kind c ≡ Some k → kind_among (record_components types p.record_type) c ≡ Some k
    pub by : ReferredBy heap places p v
    pub kept : lost_by (hold_at holds p.object.root) p.object.spot ≡ None
    pub safe : record_passes types own may p ≡ false

  abbrev pub IsFormal : (given : Option ℕ) → Hold → (kind : Option VariableKind) → Value → Type 0
  IsFormal given h kind v =
      ((given ≡ None) × (h ≡ hold.Lost))
      ⊎ (((given ≡ None) × (h ≡ hold.Alias Whole) × (((names_object kind ≡ false) × ((v ≡ Null) ⊎ Lending (access_of kind) v)) ⊎ Passing kind v))
      ⊎ ((h ≡ hold.Kept Whole) × Handing given (access_of kind) v × (names_object kind ≡ false)))

  -- One of them, by its mode, its kind and its actual parameter.
  alone_is : (cs : List ℕ) → stands_alone cs ≡ true → cs ≡ []
  alone_is [] e = refl
  alone_is (c ∷ cs) e = absurd (cc e)

  named_is : (path : PathForm) (t : ℕ) → names_access types own t path ≡ true → path_access types own path ≡ Some t
  named_is path t e = this_is t (path_access types own path) (and_parts (is_this t (path_access types own path)) (not (names_borrower own path)) e).0

  lent : (path : PathForm) (t : ℕ) (v : Value) (earlier : List ActualForm) → names_access types own t path ≡ true → PassedBy heap places (in_access path) v → NoneBroken holds (uses_in_actual types own may earlier (in_access path)) → Lending (Some t) v
  lent path t v earlier names found kept = record {
    path = path;
    access = t;
    of = refl;
    names = named_is path t names;
    found = found;
    kept = lent_kept (is_given earlier path.root) (hold_at holds path.root) path.spot (followings.first_kept holds (lends_it (is_given earlier path.root) path) [] kept).0;
  }

  root_alone : (path : PathForm) (t : ℕ) → path.selectors ≡ [] → path_access types own path ≡ Some t → variable_access own path.root ≡ Some t
  root_alone path t none is = rw none at (along_root types path.of_record (variable_kind own path.root) path.selectors t is)

  found_alone : (path : PathForm) (v : Value) → path.selectors ≡ [] → walk heap (begun places path) (along places path) ≡ finds v → v ≡ whole (place_at places path.root)
  found_alone path v none found = let is : finds (whole (place_at places path.root)) ≡ finds v = rw none at found in cc is

  given : (path : PathForm) (t : ℕ) (v : Value) (earlier : List ActualForm) → names_access types own t path ≡ true → stands_alone path.selectors ≡ true → PassedBy heap places (in_out_access path) v → NoneBroken holds (uses_in_actual types own may earlier (in_out_access path)) → Handing (Some path.root) (Some t) v
  given path t v earlier names alone found kept =
      let none = alone_is path.selectors alone in
      let is = named_is path t names in
      let of = root_alone path t none is in
      record {
        x = path.root;
        is = refl;
        of = sym of;
        there = λ nothing. absurd (cc (of, nothing));
        plain = value_root types own path t none is;
        value = found_alone path v none found;
        owner = handed_owns (is_begun_with earlier path.root) (hold_at holds path.root) path.spot (followings.first_kept holds (hands_it (is_begun_with earlier path.root) path) [] kept).0;
      }

  integer_lost : (m : FormalMode) → formal_hold m variable_kinds.Integer ≡ hold.Lost
  integer_lost In = refl
  integer_lost InOut = refl

  boolean_lost : (m : FormalMode) → formal_hold m variable_kinds.Boolean ≡ hold.Lost
  boolean_lost In = refl
  boolean_lost InOut = refl

  scalar_one : (a : ActualForm) (t : ScalarType) → fits.is_scalar_given types own t a ≡ true → handed a ≡ None
  scalar_one (in_value e) t suits = refl
  scalar_one in_null t suits = refl
  scalar_one (in_access path) t suits = refl
  scalar_one (in_record p) t suits = refl
  scalar_one (in_out_path path) t suits = refl
  scalar_one (in_out_access path) t suits = absurd (cc suits)
  scalar_one (in_out_component path) t suits = refl
  scalar_one (in_out_record p) t suits = refl

  -- A record that is passed.
  reached_of : (object record_type c : ℕ) (k : VariableKind) → object_in (slice_get types object) ≡ Some record_type → kind_among (reached_components types object) c ≡ Some k → kind_among (record_components types record_type) c ≡ Some k
  reached_of object record_type c k is at = go (slice_get types object) refl
    where
      go : (found : Option TypeForm) → slice_get types object ≡ found → kind_among (record_components types record_type) c ≡ Some k
      go None e = let none = rw e at is in absurd (cc none)
      go (Some (record_of name parts components finalization)) e = let none = rw e at is in absurd (cc none)
      go (Some (access_to name designated pool)) e = let none = rw e at is in absurd (cc none)
      go (Some (object_of other)) e =
          let one : Some other ≡ Some record_type = rw e at is in
          let same : other ≡ record_type = cc one in
          rw (← same) (rw e at at)

  passing : (object : TypeNo) (p : RecordPathForm) (v : Value) (again : Bool) → names_record types own object.0 p ≡ true → ReferredBy heap places p v → NoneBroken holds (passes_it (again || record_passes types own may p) p.object ∷ []) → Passing (Some (variable_kinds.Record object)) v
  passing object p v again names by kept =
      let two = and_parts (is_record_path types own p) (is_this p.record_type (object_in (slice_get types object.0))) names in
      let used = (followings.first_kept holds (passes_it (again || record_passes types own may p) p.object) [] kept).0 in
      let safe = passed_safe (again || record_passes types own may p) (hold_at holds p.object.root) p.object.spot used in
      record {
        p = p;
        object = refl;
        lies = two.0;
        reached = λ c k is. reached_of object.0 p.record_type c k (this_is p.record_type (object_in (slice_get types object.0)) two.1) is;
        by = by;
        kept = safe.1;
        safe = or_false again (record_passes types own may p) safe.0;
      }

  -- A component that owns what it names is not given.
  opened_owner : (t : ℕ) (path : PathForm) (unsafe : Bool) → path_access types own path ≡ Some t → NoneBroken holds (opens_it (names_value (path_access types own path)) unsafe path ∷ []) → ⊥
  opened_owner t path unsafe is kept =
      let used = (followings.first_kept holds (opens_it (names_value (path_access types own path)) unsafe path) [] kept).0 in
      taken_never (hold_at holds path.root) path.spot (rw is at used)

  one_formal : (m : FormalMode) (kind : VariableKind) (a : ActualForm) (v : Value) (earlier : List ActualForm) → actual_fits types own kind a ≡ true → same_mode m (mode_of a) ≡ true → PassedBy heap places a v → NoneBroken holds (uses_in_actual types own may earlier a) → IsFormal (handed a) (formal_hold m kind) (Some kind) v
  one_formal m variable_kinds.Integer a v earlier suits mode passed kept = inl (scalar_one a scalar_type.Integer suits, integer_lost m)
  one_formal m variable_kinds.Boolean a v earlier suits mode passed kept = inl (scalar_one a scalar_type.Boolean suits, boolean_lost m)
  one_formal m (variable_kinds.Record object) (in_value e) v earlier suits mode passed kept = absurd (cc suits)
  one_formal m (variable_kinds.Record object) in_null v earlier suits mode passed kept = absurd (cc suits)
  one_formal m (variable_kinds.Record object) (in_access path) v earlier suits mode passed kept = absurd (cc suits)
  one_formal In (variable_kinds.Record object) (in_record p) v earlier suits mode passed kept = inr (inl (refl, refl, inr (passing object p v (is_given earlier p.object.root) suits passed kept)))
  one_formal InOut (variable_kinds.Record object) (in_record p) v earlier suits mode passed kept = absurd (cc mode)
  one_formal m (variable_kinds.Record object) (in_out_path path) v earlier suits mode passed kept = absurd (cc suits)
  one_formal m (variable_kinds.Record object) (in_out_access path) v earlier suits mode passed kept = absurd (cc suits)
  one_formal m (variable_kinds.Record object) (in_out_component path) v earlier suits mode passed kept = absurd (cc suits)
  one_formal In (variable_kinds.Record object) (in_out_record p) v earlier suits mode passed kept = absurd (cc mode)
  one_formal InOut (variable_kinds.Record object) (in_out_record p) v earlier suits mode passed kept = inr (inl (refl, refl, inr (passing object p v (is_begun_with earlier p.object.root) suits passed kept)))
  one_formal m (variable_kinds.Access access) (in_value e) v earlier suits mode passed kept = absurd (cc suits)
  one_formal In (variable_kinds.Access access) in_null v earlier suits mode passed kept = inr (inl (refl, refl, inl (refl, inl passed)))
  one_formal InOut (variable_kinds.Access access) in_null v earlier suits mode passed kept = absurd (cc mode)
  one_formal In (variable_kinds.Access access) (in_access path) v earlier suits mode passed kept = inr (inl (refl, refl, inl (refl, inr (lent path access.0 v earlier suits passed kept))))
  one_formal InOut (variable_kinds.Access access) (in_access path) v earlier suits mode passed kept = absurd (cc mode)
  one_formal m (variable_kinds.Access access) (in_record p) v earlier suits mode passed kept = absurd (cc suits)
  one_formal m (variable_kinds.Access access) (in_out_path path) v earlier suits mode passed kept = absurd (cc suits)
  one_formal In (variable_kinds.Access access) (in_out_access path) v earlier suits mode passed kept = absurd (cc mode)
  one_formal InOut (variable_kinds.Access access) (in_out_access path) v earlier suits mode passed kept =
      let two = and_parts (names_access types own access.0 path) (stands_alone path.selectors) suits in
      inr (inr (refl, given path access.0 v earlier two.0 two.1 passed kept, refl))
  one_formal m (variable_kinds.Access access) (in_out_component path) v earlier suits mode passed kept =
      let two = and_parts (names_access types own access.0 path) (not (stands_alone path.selectors)) suits in
      absurd (opened_owner access.0 path (is_begun_with earlier path.root || component_passes types own may path) (named_is path access.0 two.0) kept)
  one_formal m (variable_kinds.Access access) (in_out_record p) v earlier suits mode passed kept = absurd (cc suits)

  module _ (more : List Value) where
    -- Each of them, by its number.
    pub formal_at : (ms : List FormalMode) (vs : List VariableForm) (actuals : List ActualForm) (values : List Value) (earlier : List ActualForm) → actuals_fit types own (map kind_held (take (length ms) vs)) actuals ≡ true → modes_fit ms actuals ≡ true → AreGiven heap places actuals values → NoneBroken holds (uses_in_actuals types own may earlier actuals) → (i : ℕ) → IsFormal (handed_at actuals i) (hold_at (first_holds ms vs) i) (variable_kind vs i) (place_at (values ++ more) i)
    formal_at [] vs [] values earlier suits modes passed kept i = inl (refl, no_formal vs i)
    formal_at [] vs (a ∷ rest) values earlier suits modes passed kept i = absurd (cc modes)
    formal_at (m ∷ ms) vs [] values earlier suits modes passed kept i = absurd (cc modes)
    formal_at (m ∷ ms) [] (a ∷ rest) values earlier suits modes passed kept i = absurd (cc suits)
    formal_at (m ∷ ms) (v ∷ vs) (a ∷ rest) [] earlier suits modes passed kept i = absurd passed
    formal_at (m ∷ ms) (v ∷ vs) (a ∷ rest) (u ∷ us) earlier suits modes passed kept zero =
        one_formal m v.kind a u earlier (and_parts (actual_fits types own v.kind a) (actuals_fit types own (map kind_held (take (length ms) vs)) rest) suits).0 (and_parts (same_mode m (mode_of a)) (modes_fit ms rest) modes).0 passed.0
        (kept_apart holds (uses_in_actual types own may earlier a) (uses_in_actuals types own may (earlier ++ a ∷ []) rest) kept).0
    formal_at (m ∷ ms) (v ∷ vs) (a ∷ rest) (u ∷ us) earlier suits modes passed kept (suc i) =
        formal_at ms vs rest us (earlier ++ a ∷ []) (and_parts (actual_fits types own v.kind a) (actuals_fit types own (map kind_held (take (length ms) vs)) rest) suits).1 (and_parts (same_mode m (mode_of a)) (modes_fit ms rest) modes).1 passed.1
        (kept_apart holds (uses_in_actual types own may earlier a) (uses_in_actuals types own may (earlier ++ a ∷ []) rest) kept).1 i

    -- A value that is passed stands where its formal parameter does.
    pub stands_at : (actuals : List ActualForm) (values : List Value) → AreGiven heap places actuals values → (i x : ℕ) → handed_at actuals i ≡ Some x → place_at (values ++ more) i ≡ place_at values i
    stands_at [] values passed i x is = absurd (cc is)
    stands_at (a ∷ rest) [] passed i x is = absurd passed
    stands_at (a ∷ rest) (v ∷ vs) passed zero x is = refl
    stands_at (a ∷ rest) (v ∷ vs) passed (suc i) x is = stands_at rest vs passed.1 i x is

  -- Each variable is handed over once.
  or_on : (a b d : Bool) → (b ≡ true → d ≡ true) → (a || b) ≡ true → (a || d) ≡ true
  or_on true b d f e = refl
  or_on false b d f e = f e

  begun_more : (earlier : List ActualForm) (a : ActualForm) (x : ℕ) → is_begun_with earlier x ≡ true → is_begun_with (earlier ++ a ∷ []) x ≡ true
  begun_more (in_value e ∷ rest) a x is = begun_more rest a x is
  begun_more (in_null ∷ rest) a x is = begun_more rest a x is
  begun_more (in_access path ∷ rest) a x is = or_on (x == path.root) (is_begun_with rest x) (is_begun_with (rest ++ a ∷ []) x) (begun_more rest a x) is
  begun_more (in_record p ∷ rest) a x is = or_on (x == p.object.root) (is_begun_with rest x) (is_begun_with (rest ++ a ∷ []) x) (begun_more rest a x) is
  begun_more (in_out_component path ∷ rest) a x is = or_on (x == path.root) (is_begun_with rest x) (is_begun_with (rest ++ a ∷ []) x) (begun_more rest a x) is
  begun_more (in_out_record p ∷ rest) a x is = or_on (x == p.object.root) (is_begun_with rest x) (is_begun_with (rest ++ a ∷ []) x) (begun_more rest a x) is
  begun_more (in_out_path path ∷ rest) a x is = or_on (x == path.root) (is_begun_with rest x) (is_begun_with (rest ++ a ∷ []) x) (begun_more rest a x) is
  begun_more (in_out_access path ∷ rest) a x is = or_on (x == path.root) (is_begun_with rest x) (is_begun_with (rest ++ a ∷ []) x) (begun_more rest a x) is
  begun_more [] a x is = absurd (cc is)

  begun_last : (earlier : List ActualForm) (path : PathForm) → is_begun_with (earlier ++ in_out_access path ∷ []) path.root ≡ true
  begun_last [] path = rw (eq-eqb path.root path.root refl) refl
  begun_last (in_value e ∷ rest) path = begun_last rest path
  begun_last (in_null ∷ rest) path = begun_last rest path
  begun_last (in_record p ∷ rest) path = or_right (path.root == p.object.root) (is_begun_with (rest ++ in_out_access path ∷ []) path.root) (begun_last rest path)
  begun_last (in_out_component other ∷ rest) path = or_right (path.root == other.root) (is_begun_with (rest ++ in_out_access path ∷ []) path.root) (begun_last rest path)
  begun_last (in_out_record p ∷ rest) path = or_right (path.root == p.object.root) (is_begun_with (rest ++ in_out_access path ∷ []) path.root) (begun_last rest path)
  begun_last (in_access other ∷ rest) path = or_right (path.root == other.root) (is_begun_with (rest ++ in_out_access path ∷ []) path.root) (begun_last rest path)
  begun_last (in_out_path other ∷ rest) path = or_right (path.root == other.root) (is_begun_with (rest ++ in_out_access path ∷ []) path.root) (begun_last rest path)
  begun_last (in_out_access other ∷ rest) path = or_right (path.root == other.root) (is_begun_with (rest ++ in_out_access path ∷ []) path.root) (begun_last rest path)

  begun_by : (earlier : List ActualForm) (a : ActualForm) (x : ℕ) → handed a ≡ Some x → is_begun_with (earlier ++ a ∷ []) x ≡ true
  begun_by earlier (in_value e) x is = absurd (cc is)
  begun_by earlier in_null x is = absurd (cc is)
  begun_by earlier (in_access path) x is = absurd (cc is)
  begun_by earlier (in_record p) x is = absurd (cc is)
  begun_by earlier (in_out_component path) x is = absurd (cc is)
  begun_by earlier (in_out_record p) x is = absurd (cc is)
  begun_by earlier (in_out_path path) x is = absurd (cc is)
  begun_by earlier (in_out_access path) x is = let same : path.root ≡ x = cc is in subst (λ (y : ℕ). is_begun_with (earlier ++ in_out_access path ∷ []) y ≡ true) same (begun_last earlier path)

  first_time : (earlier : List ActualForm) (a : ActualForm) (x : ℕ) → NoneBroken holds (uses_in_actual types own may earlier a) → handed a ≡ Some x → is_begun_with earlier x ≡ false
  first_time earlier (in_value e) x kept is = absurd (cc is)
  first_time earlier in_null x kept is = absurd (cc is)
  first_time earlier (in_access path) x kept is = absurd (cc is)
  first_time earlier (in_record p) x kept is = absurd (cc is)
  first_time earlier (in_out_component path) x kept is = absurd (cc is)
  first_time earlier (in_out_record p) x kept is = absurd (cc is)
  first_time earlier (in_out_path path) x kept is = absurd (cc is)
  first_time earlier (in_out_access path) x kept is =
      let same : path.root ≡ x = cc is in
      rw same at (handed_once (is_begun_with earlier path.root) (hold_at holds path.root) path.spot (followings.first_kept holds (hands_it (is_begun_with earlier path.root) path) [] kept).0)

  not_again : (earlier actuals : List ActualForm) (x i : ℕ) → is_begun_with earlier x ≡ true → NoneBroken holds (uses_in_actuals types own may earlier actuals) → handed_at actuals i ≡ Some x → ⊥
  not_again earlier [] x i begun kept is = cc is
  not_again earlier (a ∷ rest) x zero begun kept is =
      let never = first_time earlier a x (kept_apart holds (uses_in_actual types own may earlier a) (uses_in_actuals types own may (earlier ++ a ∷ []) rest) kept).0 is in
      cc (begun, never)
  not_again earlier (a ∷ rest) x (suc i) begun kept is =
      not_again (earlier ++ a ∷ []) rest x i (begun_more earlier a x begun) (kept_apart holds (uses_in_actual types own may earlier a) (uses_in_actuals types own may (earlier ++ a ∷ []) rest) kept).1 is

  pub handed_over_once : (earlier actuals : List ActualForm) → NoneBroken holds (uses_in_actuals types own may earlier actuals) → (i j x : ℕ) → handed_at actuals i ≡ Some x → handed_at actuals j ≡ Some x → i ≡ j
  handed_over_once earlier [] kept i j x is at = absurd (cc is)
  handed_over_once earlier (a ∷ rest) kept zero zero x is at = refl
  handed_over_once earlier (a ∷ rest) kept zero (suc j) x is at =
      absurd (not_again (earlier ++ a ∷ []) rest x j (begun_by earlier a x is) (kept_apart holds (uses_in_actual types own may earlier a) (uses_in_actuals types own may (earlier ++ a ∷ []) rest) kept).1 at)
  handed_over_once earlier (a ∷ rest) kept (suc i) zero x is at =
      absurd (not_again (earlier ++ a ∷ []) rest x i (begun_by earlier a x at) (kept_apart holds (uses_in_actual types own may earlier a) (uses_in_actuals types own may (earlier ++ a ∷ []) rest) kept).1 is)
  handed_over_once earlier (a ∷ rest) kept (suc i) (suc j) x is at =
      ap suc (handed_over_once (earlier ++ a ∷ []) rest (kept_apart holds (uses_in_actual types own may earlier a) (uses_in_actuals types own may (earlier ++ a ∷ []) rest) kept).1 i j x is at)

  -- What a variable was handed over to owes something at a normal end.
  all_two : (xs ys : List ℕ) (after : Holds) → all_give_back (xs ++ ys) after ≡ true → (all_give_back xs after ≡ true) × (all_give_back ys after ≡ true)
  all_two [] ys after e = (refl, e)
  all_two (x ∷ xs) ys after e =
      let two = and_parts (gives_back (hold_at after x)) (all_give_back (xs ++ ys) after) e in
      let rest = all_two xs ys after two.1 in
      (rw (two.0, rest.0) refl, rest.1)

  owed_one : (n : ℕ) (m : FormalMode) (kind : VariableKind) (a : ActualForm) (x : ℕ) (after : Holds) → actual_fits types own kind a ≡ true → same_mode m (mode_of a) ≡ true → handed a ≡ Some x → all_give_back (owed_by m kind n) after ≡ true → gives_back (hold_at after n) ≡ true
  owed_one n m kind (in_value e) x after suits mode is e' = absurd (cc is)
  owed_one n m kind in_null x after suits mode is e = absurd (cc is)
  owed_one n m kind (in_access path) x after suits mode is e = absurd (cc is)
  owed_one n m kind (in_record p) x after suits mode is e = absurd (cc is)
  owed_one n m kind (in_out_component path) x after suits mode is e = absurd (cc is)
  owed_one n m kind (in_out_record p) x after suits mode is e = absurd (cc is)
  owed_one n m kind (in_out_path path) x after suits mode is e = absurd (cc is)
  owed_one n In kind (in_out_access path) x after suits mode is e = absurd (cc mode)
  owed_one n InOut variable_kinds.Integer (in_out_access path) x after suits mode is e = absurd (cc suits)
  owed_one n InOut variable_kinds.Boolean (in_out_access path) x after suits mode is e = absurd (cc suits)
  owed_one n InOut (variable_kinds.Record object) (in_out_access path) x after suits mode is e = absurd (cc suits)
  owed_one n InOut (variable_kinds.Access access) (in_out_access path) x after suits mode is e = (and_parts (gives_back (hold_at after n)) true e).0

  owed_at : (n : ℕ) (ms : List FormalMode) (vs : List VariableForm) (actuals : List ActualForm) → actuals_fit types own (map kind_held (take (length ms) vs)) actuals ≡ true → modes_fit ms actuals ≡ true → (i x : ℕ) → handed_at actuals i ≡ Some x → (after : Holds) → all_give_back (owed_from n ms vs) after ≡ true → gives_back (hold_at after (n + i)) ≡ true
  owed_at n ms vs [] suits modes i x is after e = absurd (cc is)
  owed_at n [] vs (a ∷ rest) suits modes i x is after e = absurd (cc modes)
  owed_at n (m ∷ ms) [] (a ∷ rest) suits modes i x is after e = absurd (cc suits)
  owed_at n (m ∷ ms) (v ∷ vs) (a ∷ rest) suits modes zero x is after e =
      let here : n + zero ≡ n = omega arith in
      rw here (owed_one n m v.kind a x after (and_parts (actual_fits types own v.kind a) (actuals_fit types own (map kind_held (take (length ms) vs)) rest) suits).0 (and_parts (same_mode m (mode_of a)) (modes_fit ms rest) modes).0 is (all_two (owed_by m v.kind n) (owed_from (n + 1) ms vs) after e).0)
  owed_at n (m ∷ ms) (v ∷ vs) (a ∷ rest) suits modes (suc i) x is after e =
      let next : n + suc i ≡ (n + 1) + i = omega arith in
      rw next (owed_at (n + 1) ms vs rest (and_parts (actual_fits types own v.kind a) (actuals_fit types own (map kind_held (take (length ms) vs)) rest) suits).1 (and_parts (same_mode m (mode_of a)) (modes_fit ms rest) modes).1 i x is after (all_two (owed_by m v.kind n) (owed_from (n + 1) ms vs) after e).1)

  pub handed_owes : (ms : List FormalMode) (vs : List VariableForm) (actuals : List ActualForm) → actuals_fit types own (map kind_held (take (length ms) vs)) actuals ≡ true → modes_fit ms actuals ≡ true → (i x : ℕ) → handed_at actuals i ≡ Some x → (after : Holds) → all_give_back (owed_from 0 ms vs) after ≡ true → gives_back (hold_at after i) ≡ true
  handed_owes ms vs actuals suits modes i x is after e = let here : 0 + i ≡ i = omega arith in rw here at (owed_at 0 ms vs actuals suits modes i x is after e)

-- What is handed over is left by the call, as if it were not, but for aliases.
left_one : (b : Bool) (h : Hold) → gives_back h ≡ true → gives_back (without_alias b h) ≡ true
left_one false h e = e
left_one true hold.Null e = e
left_one true (hold.Kept r) e = e
left_one true (hold.Own r) e = e
left_one true (hold.Alias r) e = absurd (cc e)
left_one true hold.Lost e = absurd (cc e)

left_freed : (variables : List VariableForm) (may : ℕ → Bool) (holds : Holds) (x : ℕ) → variable_access variables x ≢ None → gives_back (hold_at holds x) ≡ true → gives_back (hold_at (without_freed variables may holds) x) ≡ true
left_freed [] may holds x there e = absurd (there refl)
left_freed (v ∷ vs) may [] x there e = absurd (cc e)
left_freed (v ∷ vs) may (h ∷ holds) zero there e = left_one (is_freed may (access_of (Some v.kind))) h e
left_freed (v ∷ vs) may (h ∷ holds) (suc x) there e = left_freed vs may holds x there e

pub left_owner : (variables : List VariableForm) (effect : Option Effect) (holds : Holds) (x : ℕ) → variable_access variables x ≢ None → gives_back (hold_at holds x) ≡ true → gives_back (hold_at (left_by_call variables effect holds) x) ≡ true
left_owner variables None holds x there e = e
left_owner variables (Some effect) holds x there e = left_freed variables effect.frees holds x there e

-- What was handed over is not relied on during the call, and all else as behind it.
moved_owns : (h : Hold) → Owns (left_by_move h) → ⊥
moved_owns hold.Null own = own
moved_owns (hold.Kept r) own = own
moved_owns (hold.Own r) own = own
moved_owns (hold.Alias r) own = own
moved_owns hold.Lost own = own

moved_less : (h : Hold) → is_as_good h (left_by_move h) ≡ true
moved_less hold.Null = refl
moved_less (hold.Kept Whole) = refl
moved_less (hold.Own Whole) = refl
moved_less (hold.Alias Whole) = refl
moved_less hold.Lost = refl

set_owns : (g h : Hold) → (g ≡ h) ⊎ (g ≡ hold.Lost) → (Owns h → ⊥) → Owns g → ⊥
set_owns g h (inl e) none own = none (rw e at own)
set_owns g h (inr e) none own = rw e at own

gone_owns : (holds : Holds) (y : ℕ) → Owns (hold_at (without_value y holds) y) → ⊥
gone_owns holds y own = set_owns (hold_at (without_value y holds) y) (left_by_move (hold_at holds y)) (read_same holds y (left_by_move (hold_at holds y)) hold.Lost) (moved_owns (hold_at holds y)) own

still_owns : (holds : Holds) (y x : ℕ) → Owns (hold_at (without_value y holds) x) → Owns (hold_at holds x)
still_owns holds y x own = go (same_or_not x y)
  where
    go : (x ≡ y) ⊎ (x ≢ y) → Owns (hold_at holds x)
    go (inl e) = absurd (gone_owns holds y (rw e at own))
    go (inr ne) = rw (read_other holds y x (left_by_move (hold_at holds y)) hold.Lost ne) at own

set_less : (g h old : Hold) → (g ≡ h) ⊎ (g ≡ hold.Lost) → is_as_good old h ≡ true → is_as_good old g ≡ true
set_less g h old (inl e) good = rw e good
set_less g h old (inr e) good = rw e (good_lost old)

gone_less : (y : ℕ) (holds : Holds) → AsGood holds (without_value y holds)
gone_less y holds x = go (same_or_not x y)
  where
    go : (x ≡ y) ⊎ (x ≢ y) → is_as_good (hold_at holds x) (hold_at (without_value y holds) x) ≡ true
    go (inl e) = rw e (set_less (hold_at (without_value y holds) y) (left_by_move (hold_at holds y)) (hold_at holds y) (read_same holds y (left_by_move (hold_at holds y)) hold.Lost) (moved_less (hold_at holds y)))
    go (inr ne) = rw (read_other holds y x (left_by_move (hold_at holds y)) hold.Lost ne) (good_here (hold_at holds x))

pub waiting_owns : (actuals : List ActualForm) (holds : Holds) (x : ℕ) → Owns (hold_at (left_unkept [] actuals holds) x) → Owns (hold_at holds x)
waiting_owns [] holds x own = own
waiting_owns (in_value e ∷ rest) holds x own = waiting_owns rest holds x own
waiting_owns (in_null ∷ rest) holds x own = waiting_owns rest holds x own
waiting_owns (in_access path ∷ rest) holds x own = waiting_owns rest holds x own
waiting_owns (in_record p ∷ rest) holds x own = waiting_owns rest holds x own
waiting_owns (in_out_component path ∷ rest) holds x own = waiting_owns rest holds x own
waiting_owns (in_out_record p ∷ rest) holds x own = waiting_owns rest holds x own
waiting_owns (in_out_path path ∷ rest) holds x own = waiting_owns rest holds x own
waiting_owns (in_out_access path ∷ rest) holds x own = still_owns holds path.root x (waiting_owns rest (without_value path.root holds) x own)

unless_less : (kept : Bool) (y : ℕ) (holds : Holds) → AsGood holds (unless_kept kept y holds)
unless_less true y holds = as_good holds
unless_less false y holds = gone_less y holds

pub unkept_less : (kept : Keeping) (actuals : List ActualForm) (holds : Holds) → AsGood holds (left_unkept kept actuals holds)
unkept_less kept [] holds = as_good holds
unkept_less kept (in_value e ∷ rest) holds = unkept_less (others_kept kept) rest holds
unkept_less kept (in_null ∷ rest) holds = unkept_less (others_kept kept) rest holds
unkept_less kept (in_access path ∷ rest) holds = unkept_less (others_kept kept) rest holds
unkept_less kept (in_record p ∷ rest) holds = unkept_less (others_kept kept) rest holds
unkept_less kept (in_out_component path ∷ rest) holds = unkept_less (others_kept kept) rest holds
unkept_less kept (in_out_record p ∷ rest) holds = unkept_less (others_kept kept) rest holds
unkept_less kept (in_out_path path ∷ rest) holds = unkept_less (others_kept kept) rest holds
unkept_less kept (in_out_access path ∷ rest) holds =
    let here = unless_kept (first_kept kept) path.root holds in
    as_good_then holds here (left_unkept (others_kept kept) rest here) (unless_less (first_kept kept) path.root holds) (unkept_less (others_kept kept) rest here)

pub waiting_lost : (actuals : List ActualForm) (holds : Holds) (i x : ℕ) → handed_at actuals i ≡ Some x → Owns (hold_at (left_unkept [] actuals holds) x) → ⊥
waiting_lost [] holds i x is own = cc is
waiting_lost (in_out_access path ∷ rest) holds zero x is own = let same : path.root ≡ x = cc is in gone_owns holds path.root (subst (λ (y : ℕ). Owns (hold_at (without_value path.root holds) y)) (sym same) (waiting_owns rest (without_value path.root holds) x own))
waiting_lost (a ∷ rest) holds zero x is own = cc is
waiting_lost (in_value e ∷ rest) holds (suc i) x is own = waiting_lost rest holds i x is own
waiting_lost (in_null ∷ rest) holds (suc i) x is own = waiting_lost rest holds i x is own
waiting_lost (in_access path ∷ rest) holds (suc i) x is own = waiting_lost rest holds i x is own
waiting_lost (in_record p ∷ rest) holds (suc i) x is own = waiting_lost rest holds i x is own
waiting_lost (in_out_component path ∷ rest) holds (suc i) x is own = waiting_lost rest holds i x is own
waiting_lost (in_out_record p ∷ rest) holds (suc i) x is own = waiting_lost rest holds i x is own
waiting_lost (in_out_path path ∷ rest) holds (suc i) x is own = waiting_lost rest holds i x is own
waiting_lost (in_out_access path ∷ rest) holds (suc i) x is own = waiting_lost rest (without_value path.root holds) i x is own
