-- The variables that stand for the tracked components of an object (7.6), where the body begins: each is an alias of what its component held.

use Rattle.std.proofs.Common.{◌≡◌, ◌≢◌, ℕ, zero, suc, ◌+◌, Bool, false, List, [], ◌∷◌, ◌++◌, length, map, refl, sym, ap, ◌∙◌, ◌⊎◌, inl, inr, subst, arith}
use Rattle.std.proofs.lemmas.List.{append_assoc, append-nil}
use Rattle.std.specs.Prelude.{Option, Some, None}
use Rattle.std.specs.List.{slice_index_or}
use Rattle.ada_program.specs.ProgramForm.{TypeForm, VariableForm}
use Rattle.ada_program.specs.declared.program.TypeNo.{TypeNo}
use Rattle.ada_program.specs.declared.program.VariableKind.{VariableKind}
use Rattle.ada_program.specs.declared.program.VariableKind.TheVariants as variable_kinds
use Rattle.ada_program.specs.WellFormed.{access_of, kind_in, selected_kind, variable_kind}
use Rattle.ada_flow.specs.declared.rule.Hold.TheVariants as hold
use Rattle.ada_flow.specs.declared.rule.Region.{Region}
use Rattle.ada_flow.specs.declared.rule.Region.TheVariants.{Whole}
use Rattle.ada_flow.specs.Flow.{Holds, hold_at, variable_access, tracked_hold}
use Rattle.ada_flow.specs.Tracking.{with_tracked, kind_or_integer, tracked_variable, judged}
use Rattle.ada_meaning.specs.declared.state.Id.{Id}
use Rattle.ada_meaning.specs.declared.state.Value.{Value}
use Rattle.ada_meaning.specs.declared.state.Value.TheVariants.{Null, Names, Scalar, Part}
use Rattle.ada_meaning.specs.Named.{Object, object_at}
use Rattle.ada_owners.specs.Places.{Place, variable, component, elsewhere, value_at, access_at}
use Rattle.ada_owners.specs.Reliance.{Says, Owns, kind_of}
use Rattle.ada_owners.proofs.Kernel.{of_same}
use Rattle.ada_owners.proofs.Objects.{read_more, read_last, get_more, get_last}
use Rattle.ada_judged.specs.Fitting.{IsOfAccess, AreOfAccess, TracksComponents}
use Rattle.ada_tracked.specs.Frames.{View, shifted, blanked, values_at, tracked_values}
use Rattle.ada_tracked.specs.Seen.{refers, AreNoReferences, IsWatched}
use Rattle.ada_tracked.proofs.Heaps.{values_there}
use Rattle.ada_sound.proofs.Blanked.{access_blanked}
use Rattle.ada_sound.proofs.Fits.{Outsiders, Fit, MayName, IsPlace, IsPlain, IsSaid, plain_by, names_object, kinds_of, stacked, hold_in, place_at}
use Rattle.ada_sound.proofs.Values.{same_or_not}

-- So it is of each of these numbers.
abbrev pub EachNumber : (ℕ → Type 0) → List ℕ → Type 0
EachNumber P [] = Unit {0}
EachNumber P (c ∷ cs) = P c × EachNumber P cs

-- One variable is another one, or is added, that owns nothing; and all others are as they were.
module _ (types : List TypeForm) (outer : Outsiders) (spared : Id → Bool) (heap : List Object) (variables now : List VariableForm)
    (places later : List Value) (holds after : Holds) (n : ℕ)
    (kinds : (y : ℕ) → y ≢ n → variable_kind now y ≡ variable_kind variables y)
    (values : (y : ℕ) → y ≢ n → place_at later y ≡ place_at places y) (held : (y : ℕ) → y ≢ n → hold_at after y ≡ hold_at holds y)
    (f : Fit types variables outer spared heap places holds) where
  module _ (says : (o : Id) → place_at later n ≡ Names o → Says (access_at heap) (hold_at after n) (variable_access now n) o)
      (none : Owns (hold_at after n) → ⊥) where
    relied_by : (y : ℕ) → (y ≡ n) ⊎ (y ≢ n) → (o : Id) → place_at later y ≡ Names o → Says (access_at heap) (hold_at after y) (variable_access now y) o
    relied_by y (inl e) o names =
        subst (λ (x : ℕ). Says (access_at heap) (hold_at after x) (variable_access now x) o) (sym e)
        (says o (subst (λ (x : ℕ). place_at later x ≡ Names o) e names))
    relied_by y (inr ne) o names = rw (held y ne, ap access_of (kinds y ne)) (f.owners.fit.relied (variable y) o (sym (values y ne) ∙ names))

    before_by :
        (y : ℕ) → (y ≡ n) ⊎ (y ≢ n) → (o : Id) → Owns (hold_at after y) → place_at later y ≡ Names o → Owns (hold_at holds y) × (place_at places y ≡ Names o)
    before_by y (inl e) o own names = absurd (none (subst (λ (x : ℕ). Owns (hold_at after x)) e own))
    before_by y (inr ne) o own names = (rw (held y ne) at own, sym (values y ne) ∙ names)

    before :
        (q : Place) (o : Id) → Owns (hold_in outer spared after q) → value_at heap (stacked later outer) q ≡ Names o
        → Owns (hold_in outer spared holds q) × (value_at heap (stacked places outer) q ≡ Names o)
    before (variable y) o own names = before_by y (same_or_not y n) o own names
    before (component k c) o own names = (own, names)
    before (elsewhere zero x) o own names = (own, names)
    before (elsewhere (suc d) x) o own names = (own, names)

    relied :
        (q : Place) (o : Id) → value_at heap (stacked later outer) q ≡ Names o
        → Says (access_at heap) (hold_in outer spared after q) (kind_of (kinds_of types now outer) (access_at heap) q) o
    relied (variable y) o names = relied_by y (same_or_not y n) o names
    relied (component k c) o names = f.owners.fit.relied (component k c) o names
    relied (elsewhere zero x) o names = f.owners.fit.relied (elsewhere zero x) o names
    relied (elsewhere (suc d) x) o names = f.owners.fit.relied (elsewhere (suc d) x) o names

    apart :
        (p q : Place) (o : Id) → Owns (hold_in outer spared after p) → Owns (hold_in outer spared after q) → value_at heap (stacked later outer) p ≡ Names o
        → value_at heap (stacked later outer) q ≡ Names o → p ≡ q
    apart p q o a b c d =
        let here = before p o a c in
        let there = before q o b d in
        f.owners.fit.apart p q o here.0 there.0 here.1 there.1

    module _ (said : IsSaid (place_at outer.given n) (hold_at after n) (place_at later n))
        (place : IsPlace types outer.referenced (variable_kind now n) (place_at later n)) where
      said_by : (y : ℕ) → (y ≡ n) ⊎ (y ≢ n) → IsSaid (place_at outer.given y) (hold_at after y) (place_at later y)
      said_by y (inl e) = rw e said
      said_by y (inr ne) = rw (held y ne, values y ne) (f.said y)

      objects_by : (y : ℕ) → (y ≡ n) ⊎ (y ≢ n) → hold_at after y ≢ hold.Lost → IsPlace types outer.referenced (variable_kind now y) (place_at later y)
      objects_by y (inl e) kept = rw e place
      objects_by y (inr ne) kept = rw (kinds y ne, values y ne) (f.objects y (rw (held y ne) at kept))

      other_fit : Fit types now outer spared heap later after
      other_fit = record {
        owners = record { fit = record { relied = relied; apart = apart } };
        said = λ y. said_by y (same_or_not y n);
        objects = λ y. objects_by y (same_or_not y n);
        referred = f.referred;
      }

-- A variable more, that is an alias of what another place owns.
pub more_fit :
    {types : List TypeForm} {outer : Outsiders} {spared : Id → Bool} {heap : List Object} {variables : List VariableForm} {places : List Value}
    {holds : Holds} (x : VariableForm) (v : Value) (r : Region) → length places ≡ length variables → length holds ≡ length variables
    → names_object (Some x.kind) ≡ false → IsPlain v → MayName heap (access_of (Some x.kind)) v → Fit types variables outer spared heap places holds
    → Fit types (variables ++ x ∷ []) outer spared heap (places ++ v ∷ []) (holds ++ hold.Alias r ∷ [])
more_fit {types} {outer} {spared} {heap} {variables} {places} {holds} x v r so_many_places so_many_holds none plain may f =
    other_fit types outer spared heap variables (variables ++ x ∷ []) places (places ++ v ∷ []) holds (holds ++ hold.Alias r ∷ []) (length variables)
    (λ y ne. ap kind_in (get_more variables x y ne))
    (λ y ne. read_more places v Null y (λ e. ne (e ∙ so_many_places)))
    (λ y ne. read_more holds (hold.Alias r) hold.Lost y (λ e. ne (e ∙ so_many_holds)))
    f
    (λ o names. rw (held, ap access_of kind) (may o (sym value ∙ names)))
    (λ own. rw held at own)
    (rw held tt)
    (rw (kind, value) (plain_by types outer.referenced (Some x.kind) v none plain))
  where
    kind : variable_kind (variables ++ x ∷ []) (length variables) ≡ Some x.kind
    kind = ap kind_in (get_last variables x)

    value : place_at (places ++ v ∷ []) (length variables) ≡ v
    value = ap (λ (i : ℕ). place_at (places ++ v ∷ []) i) (sym so_many_places) ∙ read_last places v Null

    held : hold_at (holds ++ hold.Alias r ∷ []) (length variables) ≡ hold.Alias r
    held = ap (λ (i : ℕ). hold_at (holds ++ hold.Alias r ∷ []) i) (sym so_many_holds) ∙ read_last holds (hold.Alias r) hold.Lost

-- The kind of the variable that stands for a component.
kind_elementary : (kind : Option VariableKind) → names_object (Some (kind_or_integer kind)) ≡ names_object kind
kind_elementary None = refl
kind_elementary (Some k) = refl

pub kind_access : (kind : Option VariableKind) → access_of (Some (kind_or_integer kind)) ≡ access_of kind
kind_access None = refl
kind_access (Some k) = refl

-- What a component of the formal parameter holds may lie in the variable that stands for it, and be named there.
pub record MayStand (types : List TypeForm) (formal : Option VariableKind) (heap : List Object) (c : ℕ) (v : Value) : Type 0 where
  pub elementary : names_object (selected_kind types formal c) ≡ false
  pub plain : IsPlain v
  pub names : MayName heap (access_of (selected_kind types formal c)) v

pub one_more : {X : Type 0} (xs : List X) (x : X) → length (xs ++ x ∷ []) ≡ length xs + 1
one_more [] x = refl
one_more (y ∷ xs) x = let h = one_more xs x in omega (arith, h)

fit_as :
    {types : List TypeForm} {outer : Outsiders} {spared : Id → Bool} {heap : List Object} {variables now : List VariableForm} {places later : List Value}
    {holds after : Holds} → variables ≡ now → places ≡ later → holds ≡ after → Fit types variables outer spared heap places holds
    → Fit types now outer spared heap later after
fit_as {types} {outer} {spared} {heap} {variables} {now} {places} {later} {holds} {after} vs ps hs f =
    subst (λ (all : List VariableForm). Fit types all outer spared heap later after) vs
    (subst (λ (all : List Value). Fit types variables outer spared heap all after) ps
    (subst (λ (all : Holds). Fit types variables outer spared heap places all) hs f))

pub with_is : {X : Type 0} (xs ys : List X) → xs ++ ys ≡ with_tracked xs ys
with_is xs [] = append-nil xs
with_is xs (y ∷ ys) = refl

-- A variable more for each tracked component.
module _ (types : List TypeForm) (formal : Option VariableKind) (outer : Outsiders) (spared : Id → Bool) (heap : List Object)
    (base : ℕ) (values : List Value) where
  pub more_fits :
      (cs : List ℕ) (variables : List VariableForm) (places : List Value) (holds : Holds) → length places ≡ length variables → length holds ≡ length variables
      → EachNumber (λ (c : ℕ). MayStand types formal heap c (slice_index_or values (base + c) Null)) cs → Fit types variables outer spared heap places holds
      → Fit types (variables ++ map (tracked_variable types formal) cs) outer spared heap
      (places ++ values_at (shifted base cs) values) (holds ++ map tracked_hold cs)
  more_fits [] variables places holds so_many_places so_many_holds may f =
      fit_as (sym (append-nil variables)) (sym (append-nil places)) (sym (append-nil holds)) f
  more_fits (c ∷ cs) variables places holds so_many_places so_many_holds may f =
      let x = tracked_variable types formal c in
      let v = slice_index_or values (base + c) Null in
      let more = one_more variables x in
      fit_as (append_assoc variables (x ∷ []) (map (tracked_variable types formal) cs)) (append_assoc places (v ∷ []) (values_at (shifted base cs) values))
      (append_assoc holds (tracked_hold c ∷ []) (map tracked_hold cs))
      (more_fits cs (variables ++ x ∷ []) (places ++ v ∷ []) (holds ++ tracked_hold c ∷ [])
      (one_more places v ∙ (ap (λ (n : ℕ). n + 1) so_many_places ∙ sym more))
      (one_more holds (tracked_hold c) ∙ (ap (λ (n : ℕ). n + 1) so_many_holds ∙ sym more))
      may.1
      (more_fit x v Whole so_many_places so_many_holds (kind_elementary (selected_kind types formal c) ∙ may.0.elementary) may.0.plain
      (rw (kind_access (selected_kind types formal c)) may.0.names) f))

-- Where the body begins: each variable that stands for a component is an alias of what that held.
pub begun_judged :
    {types : List TypeForm} {variables : List VariableForm} {outer : Outsiders} {spared : Id → Bool} {places : List Value} {holds : Holds} (w : View)
    (h : List Object) (x : Object) → object_at h w.object ≡ Some x → length places ≡ length variables → length holds ≡ length variables
    → EachNumber (λ (c : ℕ). MayStand types (variable_kind variables 0) h c (slice_index_or x.cell.values (w.base + c) Null)) w.tracks.components
    → Fit types variables outer spared (blanked w h) places holds
    → Fit types (judged types w.tracks variables) outer spared (blanked w h) (places ++ tracked_values w h)
    (with_tracked holds (map tracked_hold w.tracks.components))
begun_judged {types} {variables} {outer} {spared} {places} {holds} w h x there so_many_places so_many_holds may f =
    fit_as (with_is variables (map (tracked_variable types (variable_kind variables 0)) w.tracks.components))
    (ap (λ (vs : List Value). places ++ vs) (sym (values_there w h x there)))
    (with_is holds (map tracked_hold w.tracks.components))
    (more_fits types (variable_kind variables 0) outer spared (blanked w h) w.base x.cell.values w.tracks.components variables places holds
    so_many_places so_many_holds (still w.tracks.components may) f)
  where
    still :
        (cs : List ℕ) → EachNumber (λ (c : ℕ). MayStand types (variable_kind variables 0) h c (slice_index_or x.cell.values (w.base + c) Null)) cs
        → EachNumber (λ (c : ℕ). MayStand types (variable_kind variables 0) (blanked w h) c (slice_index_or x.cell.values (w.base + c) Null)) cs
    still [] may = tt
    still (c ∷ cs) may =
        let kind = access_of (selected_kind types (variable_kind variables 0) c) in (
          record {
            elementary = may.0.elementary;
            plain = may.0.plain;
            names = λ o e. of_same (access_at h) (access_at (blanked w h)) kind o (access_blanked w h o) (may.0.names o e);
          },
          still cs may.1,
        )

-- The same where the components are such as a body tracks, of an object that is watched.
plain_value : (v : Value) → refers v ≡ false → IsPlain v
plain_value Null none = tt
plain_value (Names o) none = tt
plain_value (Scalar v) none = tt
plain_value (Part o place) none = absurd (cc none)

-- What each of these components of a formal parameter of this kind holds may be named by a variable of its access type. It lies in an object with these values,
-- from the component `base` on.
abbrev pub MayBeNamed : List TypeForm → (formal : Option VariableKind) → List Object → (base : ℕ) → (values : List Value) → (cs : List ℕ) → Type 0
MayBeNamed types formal heap base values cs =
    EachNumber (λ (c : ℕ). MayName heap (access_of (selected_kind types formal c)) (slice_index_or values (base + c) Null)) cs

module _ (types : List TypeForm) (formal : Option VariableKind) (object : TypeNo) (is : formal ≡ Some (variable_kinds.Record object)) where
  pub kind_of_access : (c : ℕ) → (of : IsOfAccess types object c) → selected_kind types formal c ≡ Some (variable_kinds.Access of.0)
  kind_of_access c of = ap (λ (kind : Option VariableKind). selected_kind types kind c) is ∙ of.1

  all_stand :
      (heap : List Object) (base : ℕ) (values : List Value) (cs : List ℕ) → AreOfAccess types object cs → AreNoReferences (values_at (shifted base cs) values)
      → MayBeNamed types formal heap base values cs → EachNumber (λ (c : ℕ). MayStand types formal heap c (slice_index_or values (base + c) Null)) cs
  all_stand heap base values [] of none may = tt
  all_stand heap base values (c ∷ cs) of none may = (
    record {
      elementary = ap names_object (kind_of_access c of.0);
      plain = plain_value (slice_index_or values (base + c) Null) none.0;
      names = may.0;
    },
    all_stand heap base values cs of.1 none.1 may.1,
  )

-- The body begins.
pub judged_begins :
    {types : List TypeForm} {variables : List VariableForm} {outer : Outsiders} {spared : Id → Bool} {places : List Value} {holds : Holds} (w : View)
    (h : List Object) (watches : IsWatched w places h) → TracksComponents types w.tracks variables → length holds ≡ length variables
    → MayBeNamed types (variable_kind variables 0) h w.base watches.object.cell.values w.tracks.components
    → Fit types variables outer spared (blanked w h) places holds
    → Fit types (judged types w.tracks variables) outer spared (blanked w h) (places ++ tracked_values w h)
    (with_tracked holds (map tracked_hold w.tracks.components))
judged_begins {types} {variables} {outer} {spared} {places} {holds} w h watches tracks so_many may f =
    begun_judged w h watches.object watches.at_object (watches.count ∙ tracks.behind) so_many
    (all_stand types (variable_kind variables 0) tracks.object tracks.formal h w.base watches.object.cell.values w.tracks.components tracks.components
    (subst AreNoReferences (values_there w h watches.object watches.at_object) watches.no_references) may) f
