-- A record that an Adjust copies out of the object that is adjusted has no component of an access type, since it is an item of an aggregate (S11), and so it is
-- with one that it assigns there as a whole. So none of the components that are copied or stored is tracked, and none is put aside (7.6).

use Rattle.std.proofs.Common.{◌≡◌, ℕ, zero, suc, ◌+◌, ◌<◌, Bool, true, false, List, [], ◌∷◌, length, take, drop, map, Option, Some, None, refl, sym, ap, ◌∙◌, subst, inl, inr, arith}
use Rattle.std.specs.Prelude.{◌==◌, ◌||◌, not, if◌then◌else◌, is_some}
use Rattle.std.specs.List.{Contains, list_any, slice_get}
use Rattle.std.proofs.lemmas.Bool.{and_parts, eqb-true, false_from_ne_true}
use Rattle.ada_program.specs.declared.program.ComponentKind.{ComponentKind}
use Rattle.ada_program.specs.declared.program.ComponentKind.TheVariants as component
use Rattle.ada_program.specs.declared.program.Program.{Program}
use Rattle.ada_program.specs.declared.program.TypeDefinition.{TypeDefinition}
use Rattle.ada_program.specs.declared.program.TypeNo.{TypeNo}
use Rattle.ada_program.specs.declared.program.VariableKind.{VariableKind}
use Rattle.ada_program.specs.declared.program.VariableKind.TheVariants as variable
use Rattle.ada_program.specs.Form.{RecordPathForm, ItemForm, item_of_record, assigns_record, a_stmt}
use Rattle.ada_program.specs.ProgramForm.{TypeForm, ProgramForm, program_form, body_forms, type_form}
use Rattle.ada_program.specs.Typed.{width_of}
use Rattle.ada_program.specs.WellFormed.{component_kind, finalization_of, has_record_at, held_kind, kind_among, reached_components}
use Rattle.ada_parts.specs.Task.{Task}
use Rattle.ada_meaning.specs.declared.event.Birth.TheVariants.{Adjustment}
use Rattle.ada_meaning.specs.declared.state.Id.{Id}
use Rattle.ada_meaning.specs.declared.state.Mode.{Mode}
use Rattle.ada_meaning.specs.declared.state.Mode.TheVariants.{Running, Raising, Exiting, Returning}
use Rattle.ada_meaning.specs.declared.state.Value.{Value}
use Rattle.ada_meaning.specs.declared.state.Value.TheVariants.{Null, Names, Scalar, Part}
use Rattle.ada_meaning.specs.Frame.{begins, Frame}
use Rattle.ada_meaning.specs.Frame as frame
use Rattle.ada_meaning.specs.State.{Activation, Master}
use Rattle.ada_meaning.specs.Step.{first_or, newest, operands, operands_of, places, treating}
use Rattle.ada_meaning.specs.Named.{Object, State, named, object_at}
use Rattle.ada_flow.specs.Flow.{Holds, is_owning, is_owning_record, owns_among}
use Rattle.ada_tracked.specs.Copying.{AreNoneOf, FirstAssignsBare, AssignsBare, FirstCopiesNone, CopiesNone, is_tracked_at}
use Rattle.ada_tracked.specs.Forms.{seen_record}
use Rattle.ada_tracked.specs.Frames.{View, watched, number_at, number_in, stored_as, cleared_as, seen_control, blanked}
use Rattle.ada_tracked.specs.Seen.{leads_to, Waiting, assigning, getting, freeing, waiting_frame, Seen, plainly, following, elsewhere, behind}
use Rattle.ada_tracked.specs.Staying.{BodyIsSimple}
use Rattle.ada_typed.specs.Holding.{Cells, cells_of}
use Rattle.ada_typed.proofs.Control as typed
use Rattle.ada_typed.proofs.Evaluations.{own_access, width_shown}
use Rattle.ada_typed.proofs.Records.{inside_kind}
use Rattle.ada_typed.proofs.Values.{OperandKind, of_kind, AreComputed, IsActive}
use Rattle.ada_sound.proofs.Adjusting.{Adjusting, is_one_of}
use Rattle.ada_sound.proofs.Allowance.{simple_allowance}
use Rattle.ada_sound.proofs.Blanked.{unblanked}
use Rattle.ada_sound.proofs.Calm.{ends_operation, operation_ends_there}
use Rattle.ada_sound.proofs.CopiedOwners.{Covered, owners_left}
use Rattle.ada_sound.proofs.CopyParts.{head_in, tail_in}
use Rattle.ada_sound.proofs.FrugalControl.{Frugal, FrugalBegins, FrugalLeads, FrugalLeaves}
use Rattle.ada_sound.proofs.FrugalFrees.{RecordIsBare, records_bare_by}
use Rattle.ada_sound.proofs.Invariant.{Control, FillsTo, Known, OwnsNothing, Ready, ReadyIn, Rooms, StoresFrom, Working}
use Rattle.ada_sound.proofs.JudgedTyped.{AreAccess}
use Rattle.ada_sound.proofs.Returns.{same_types}
use Rattle.ada_sound.proofs.SparingLooks.{NextIsBare, SoughtIsOther}

-- These components are of access types in the objects that are known by a type (3.10).
abbrev pub EachIsAccess : List TypeForm → (access : ℕ) → (these : (component : ℕ) → Bool) → Type 0
EachIsAccess types access these =
    (c : ℕ) → these c ≡ true → (own : TypeNo) × (kind_among (reached_components types access) c ≡ Some (variable.Access own))

-- Where no component is of an access type, each that is there is of another kind.
plain_at :
    (rs : List ComponentKind) (i : ℕ) → i < length rs → list_any is_owning rs ≡ false
    → (kind : ComponentKind) × (slice_get rs i ≡ Some kind) × (is_owning kind ≡ false)
plain_at [] i lt plain = absurd (omega (arith, lt))
plain_at (r ∷ rs) zero lt plain = (r, refl, neither (is_owning r) (list_any is_owning rs) plain)
  where
    neither : (a b : Bool) → (a || b) ≡ false → a ≡ false
    neither true b e = absurd (cc)
    neither false b e = refl
plain_at (r ∷ rs) (suc i) lt plain = plain_at rs i (omega (arith, lt)) (behind_it (is_owning r) (list_any is_owning rs) plain)
  where
    behind_it : (a b : Bool) → (a || b) ≡ false → b ≡ false
    behind_it true b e = absurd (cc)
    behind_it false b e = e

not_access : (kind : ComponentKind) (access : TypeNo) → is_owning kind ≡ false → held_kind kind ≡ variable.Access access → ⊥
not_access (component.Integer initial) access plain is = cc
not_access (component.Boolean initial) access plain is = cc
not_access (component.Access own) access plain is = cc

-- Nor is a component, where none of some is that it is one of.
none_there :
    (ks : List ComponentKind) (c count i n : ℕ) → n ≡ c + i → i < count → list_any is_owning (take count (drop c ks)) ≡ false
    → (kind : ComponentKind) → slice_get ks n ≡ Some kind → is_owning kind ≡ false
none_there [] c count i n e lt plain kind is = absurd (cc is)
none_there (r ∷ rs) zero zero i n e lt plain kind is = absurd (omega (arith, lt))
none_there (r ∷ rs) zero (suc count) zero zero e lt plain kind is =
    let same : r ≡ kind = cc is in
    ap is_owning (sym same) ∙ first_plain (is_owning r) (list_any is_owning (take count rs)) plain
  where
    first_plain : (a b : Bool) → (a || b) ≡ false → a ≡ false
    first_plain true b e = absurd (cc)
    first_plain false b e = refl
none_there (r ∷ rs) zero (suc count) (suc i) zero e lt plain kind is = absurd (omega (arith, e))
none_there (r ∷ rs) zero (suc count) zero (suc n) e lt plain kind is = absurd (omega (arith, e))
none_there (r ∷ rs) zero (suc count) (suc i) (suc n) e lt plain kind is =
    none_there rs zero count i n (omega (arith, e)) (omega (arith, lt)) (rest_plain (is_owning r) (list_any is_owning (take count rs)) plain) kind is
  where
    rest_plain : (a b : Bool) → (a || b) ≡ false → b ≡ false
    rest_plain true b e = absurd (cc)
    rest_plain false b e = e
none_there (r ∷ rs) (suc c) count i zero e lt plain kind is = absurd (omega (arith, e))
none_there (r ∷ rs) (suc c) count i (suc n) e lt plain kind is = none_there rs c count i n (omega (arith, e)) lt plain kind is

-- A record that is stored next in an object that is known by a type has no component of an access type there.
abbrev pub StoresBare : List TypeForm → Id → (access : ℕ) → Mode → Control → Type 0
StoresBare types o access Running (frame.StoresRecord v first count ∷ k) =
    leads_to o v ≡ true → (ks : List ComponentKind) → reached_components types access ≡ Some ks → list_any is_owning (take count (drop first ks)) ≡ false
StoresBare types o access m k = Unit {0}

-- In a state whose values are of their kinds: an object, and components of it that are of access types.
module _ (tds : List TypeDefinition) (own : ProgramForm) (shows : map type_form tds ≡ own.types) (s : State) (o : Id) (x : Object)
    (found : object_at s.heap o ≡ Some x) (these : (component : ℕ) → Bool) (each : EachIsAccess own.types x.cell.access these) where
  abbrev cells : Cells
  cells = cells_of s.heap

  -- An operand that leads to the object is of its access type.
  value_access :
      (access : TypeNo) (ks : List OperandKind) (vs : List Value) → AreComputed own.types cells (of_kind (variable.Access access) ∷ ks) vs
      → leads_to o (first_or Null vs) ≡ true → x.cell.access ≡ access.0
  value_access access ks [] held itself = absurd held
  value_access access ks (Null ∷ vs) held itself = absurd (cc)
  value_access access ks (Names q ∷ vs) held itself =
      own_access s.heap q access.0 x held.0 (ap (slice_get s.heap) (eqb-true q.0 o.0 itself) ∙ found)
  value_access access ks (Scalar n ∷ vs) held itself = absurd (cc)
  value_access access ks (Part q place ∷ vs) held itself = absurd held.0

  newest_access :
      (access : TypeNo) (ks : List OperandKind) (acts : List (Activation Value))
      → IsActive own.types cells own.variables (of_kind (variable.Access access) ∷ ks) acts → leads_to o (first_or Null (operands_of acts)) ≡ true
      → x.cell.access ≡ access.0
  newest_access access ks [] active itself = absurd active
  newest_access access ks (a ∷ rest) active itself = value_access access ks a.operands active.1 itself

  -- A record without components of access types is copied out of the object: none of its components is one of these.
  copied_none :
      (c t : ℕ) (k : Control) (kinds : List OperandKind) → IsActive own.types cells own.variables kinds s.activations
      → typed.Fits own cells kinds (frame.Copies c t ∷ k) → is_owning_record own.types t ≡ false → leads_to o (newest named s) ≡ true
      → AreNoneOf these c (width_of tds t)
  copied_none c t k kinds active fits bare itself i lt =
      let rs = fits.2 in
      let same : x.cell.access ≡ fits.1.0 =
      newest_access fits.1 fits.0 s.activations
      (subst (λ (ks : List OperandKind). IsActive own.types cells own.variables ks s.activations) fits.3 active) itself in
      let plain : list_any is_owning rs ≡ false = ap owns_among (sym fits.4) ∙ bare in
      let inside : i < length rs = subst (λ (n : ℕ). i < n) (width_shown tds t rs shows fits.4) lt in
      let one = plain_at rs i inside plain in
      let lies : has_record_at (reached_components own.types x.cell.access) c (Some rs) ≡ true =
      ap (λ (access : ℕ). has_record_at (reached_components own.types access) c (Some rs)) same ∙ fits.5 in
      let kind : kind_among (reached_components own.types x.cell.access) (c + i) ≡ Some (held_kind one.0) =
      inside_kind (reached_components own.types x.cell.access) (Some rs) c i (held_kind one.0) lies (ap component_kind one.1) in
      false_from_ne_true (these (c + i)) (λ is. let has = each (c + i) is in not_access one.0 has.0 one.2 (same_kind (sym kind ∙ has.1)))
    where
      same_kind : {a b : VariableKind} → Some a ≡ Some b → a ≡ b
      same_kind e = cc e

  -- A record is stored in the object, in components of no access type: none of these is one of them.
  no_access : (c : ℕ) (access : TypeNo) (found : Option ComponentKind) → ((kind : ComponentKind) → found ≡ Some kind → is_owning kind ≡ false) → component_kind found ≡ Some (variable.Access access) → ⊥
  no_access c access None plain is = cc
  no_access c access (Some kind) plain is = not_access kind access (plain kind refl) (same_held is)
    where
      same_held : {a b : VariableKind} → Some a ≡ Some b → a ≡ b
      same_held e = cc e

  no_access_among :
      (c count i : ℕ) (access : TypeNo) (found : Option (List ComponentKind)) → i < count
      → ((ks : List ComponentKind) → found ≡ Some ks → list_any is_owning (take count (drop c ks)) ≡ false)
      → kind_among found (c + i) ≡ Some (variable.Access access) → ⊥
  no_access_among c count i access None lt plain is = cc
  no_access_among c count i access (Some ks) lt plain is =
      no_access c access (slice_get ks (c + i)) (none_there ks c count i (c + i) refl lt (plain ks refl)) is

  stored_none :
      (c count : ℕ)
      → ((ks : List ComponentKind) → reached_components own.types x.cell.access ≡ Some ks → list_any is_owning (take count (drop c ks)) ≡ false)
      → AreNoneOf these c count
  stored_none c count plain i lt =
      false_from_ne_true (these (c + i))
      (λ is. let has = each (c + i) is in no_access_among c count i has.0 (reached_components own.types x.cell.access) lt plain has.1)

  no_end : (kinds : List OperandKind) (c t : ℕ) (k : Control) → s.control ≡ frame.Copies c t ∷ k → typed.AtOperation own cells kinds s.control → ⊥
  no_end kinds c t k is ended =
      let there : false ≡ true = ap ends_operation (sym is) ∙ operation_ends_there own cells kinds s.control ended in
      cc (there)

  -- What typing says where a record is copied next.
  fits_now :
      typed.TypedIn own s → s.mode ≡ Running → (c t : ℕ) (k : Control) → s.control ≡ frame.Copies c t ∷ k
      → (kinds : List OperandKind) × IsActive own.types cells own.variables kinds s.activations × typed.Fits own cells kinds (frame.Copies c t ∷ k)
  fits_now (typed.running kinds ready fits) runs c t k is = (kinds, ready.active, subst (typed.Fits own cells kinds) is fits)
  fits_now (typed.operated kinds ready ended) runs c t k is = absurd (no_end kinds c t k is ended)
  fits_now (typed.out_of_operation e kinds jumps ended) runs c t k is = absurd (no_end kinds c t k is ended)
  fits_now (typed.on_jump mode jumps goes) runs c t k is =
      let same : mode ≡ Running = sym jumps.jumps ∙ runs in
      let nowhere : typed.Goes own cells Running s.control = rw same at goes in
      absurd nowhere

  first_none :
      (m : Mode) (k : Control) → typed.TypedIn own s → s.mode ≡ m → s.control ≡ k → SoughtIsOther own.types o m k (operands s) → FirstAssignsBare tds m k
      → StoresBare own.types o x.cell.access m k → FirstCopiesNone tds o these s m k
  first_none Running [] typing runs is bare assigns stores = tt
  first_none Running (frame.Copies c t ∷ k) typing runs is bare assigns stores = λ itself.
      let now = fits_now typing runs c t k is in
      copied_none c t k now.0 now.1 now.2 bare itself
  first_none Running (frame.Does fs ∷ k) typing runs is bare assigns stores = assigns
  first_none Running (frame.StoresRecord v c count ∷ k) typing runs is bare assigns stores = λ itself. stored_none c count (stores itself)
  first_none Running (f ∷ k) typing runs is bare assigns stores = tt
  first_none (Raising e) [] typing runs is bare assigns stores = tt
  first_none (Raising e) (f ∷ k) typing runs is bare assigns stores = tt
  first_none Exiting [] typing runs is bare assigns stores = tt
  first_none Exiting (f ∷ k) typing runs is bare assigns stores = tt
  first_none Returning [] typing runs is bare assigns stores = tt
  first_none Returning (f ∷ k) typing runs is bare assigns stores = tt

  -- The next step copies none of these components of the object, and stores none with a record.
  pub copies_none :
      typed.TypedIn own s → SoughtIsOther own.types o s.mode s.control (operands s) → AssignsBare tds s → StoresBare own.types o x.cell.access s.mode s.control
      → CopiesNone tds o these s
  copies_none typing bare assigns stores = first_none s.mode s.control typing refl refl bare assigns stores

-- A component of an object with these is of an access type.
abbrev IsOfAccess : List ComponentKind → (component : ℕ) → Type 0
IsOfAccess ks c = (own : TypeNo) × (component_kind (slice_get ks c) ≡ Some (variable.Access own))

-- Each that is tracked is.
number_access : (ks : List ComponentKind) (bs : List ℕ) (n c : ℕ) → AreAccess ks bs → is_some (number_at bs n c) ≡ true → IsOfAccess ks c
number_access ks [] n c each is = absurd (cc)
number_access ks (b ∷ bs) n c each is = by (c == b) refl is (λ more. number_access ks bs (n + 1) c each.1 more)
  where
    by :
        (q : Bool) → (c == b) ≡ q → is_some (if q then Some n else number_at bs (n + 1) c) ≡ true
        → (is_some (number_at bs (n + 1) c) ≡ true → IsOfAccess ks c) → IsOfAccess ks c
    by true same first further = (each.0.0, ap (λ (i : ℕ). component_kind (slice_get ks i)) (eqb-true c b same) ∙ each.0.1)
    by false same first further = further first

pub tracked_access :
    (types : List TypeForm) (w : View) (access : ℕ) (ks : List ComponentKind) → reached_components types access ≡ Some ks → AreAccess ks (watched w)
    → EachIsAccess types access (is_tracked_at w)
tracked_access types w access ks reached each c is =
    let one = number_access ks (watched w) w.tracks.first c each is in
    (one.0, ap (λ (found : Option (List ComponentKind)). kind_among found c) reached ∙ one.1)

-- A component that is one of these is in their list.
pub one_contained : (owners : List ℕ) (c : ℕ) → is_one_of owners c ≡ true → Contains owners c
one_contained [] c is = absurd (cc)
one_contained (d ∷ ds) c is = by (d == c) refl is (one_contained ds c)
  where
    by : (q : Bool) → (d == c) ≡ q → (q || is_one_of ds c) ≡ true → (is_one_of ds c ≡ true → Contains ds c) → Contains (d ∷ ds) c
    by true same first further = subst (λ (e : ℕ). Contains (d ∷ ds) e) (eqb-true d c same) (head_in d ds)
    by false same first further = tail_in d c ds (further first)

-- Items are evaluated of a new object, as the body is judged that makes it: a record that is one of them has no component of an access type.
module _ (known : Known) (w : View) (heap : List Object) (places operands : List Value) (rooms : Rooms) (holds : Holds) (i : ItemForm) (is : List ItemForm) where
  bare_to :
      (k : Control) → BodyIsSimple w.tracks.first k → FillsTo known heap places (i ∷ is) (seen_control w k) operands rooms holds
      → OwnsNothing known.program.types i
  bare_to [] simple fills = absurd fills
  bare_to (frame.Creates access count ∷ k) simple fills = fills.bare.0
  bare_to (frame.StoresRecord o first count ∷ k) simple fills = (fills.0.bare refl).0
  bare_to (frame.DeclaresRecord x t ∷ k) simple fills = absurd simple.0
  bare_to (frame.StoresIn o c ∷ k) simple fills = absurd (by (number_in w o c) fills)
    where
      by : (x : Option ℕ) → FillsTo known heap places (i ∷ is) (stored_as x o c ∷ seen_control w k) operands rooms holds → ⊥
      by None none = none
      by (Some x) none = none
  bare_to (frame.ClearsIn o c ∷ k) simple fills = absurd (by (number_in w o c) fills)
    where
      by : (x : Option ℕ) → FillsTo known heap places (i ∷ is) (cleared_as x o c ∷ seen_control w k) operands rooms holds → ⊥
      by None none = none
      by (Some x) none = none
  bare_to (f ∷ k) simple fills = absurd fills

-- So it is in the state that stands for the real one.
plainly_bare :
    (known : Known) (w : View) (q : RecordPathForm) (is : List ItemForm) (k : Control) (m : Mode) (control : Control) (heap : List Object)
    (places operands : List Value) (masters : List Master) → m ≡ Running → control ≡ frame.Fills (item_of_record q ∷ is) ∷ k
    → BodyIsSimple w.tracks.first control → ReadyIn known m (seen_control w control) heap places operands masters
    → is_owning_record known.program.types q.record_type ≡ false
plainly_bare known w q is k m control heap places operands masters runs at simple ready =
    let works : ReadyIn known Running (seen_control w (frame.Fills (item_of_record q ∷ is) ∷ k)) heap places operands masters =
    subst (λ (l : Control). ReadyIn known Running (seen_control w l) heap places operands masters) at
    (subst (λ (mode : Mode). ReadyIn known mode (seen_control w control) heap places operands masters) runs ready) in
    let simple_so : BodyIsSimple w.tracks.first (frame.Fills (item_of_record q ∷ is) ∷ k) = subst (BodyIsSimple w.tracks.first) at simple in
    bare_to known w heap places operands works.rooms works.holds (item_of_record (seen_record w.tracks q)) _ k simple_so.1 works.rest

-- What is left to do of a simple body begins with no treatment of an object.
no_treatment :
    (w : View) (k : Control) (v : Value) (treatment : frame.Treatment) (tasks : List Task) (l : Control) → BodyIsSimple w.tracks.first k
    → seen_control w k ≡ frame.Treats v treatment tasks ∷ l → ⊥
no_treatment w [] v treatment tasks l simple is = cc
no_treatment w (frame.Treats u other left ∷ k) v treatment tasks l simple is = simple.0
no_treatment w (frame.Returns actuals references ∷ k) v treatment tasks l simple is = cc
no_treatment w (frame.StoresIn o c ∷ k) v treatment tasks l simple is = by (number_in w o c) is
  where
    by : (x : Option ℕ) → stored_as x o c ∷ seen_control w k ≡ frame.Treats v treatment tasks ∷ l → ⊥
    by None e = cc
    by (Some x) e = cc
no_treatment w (frame.ClearsIn o c ∷ k) v treatment tasks l simple is = by (number_in w o c) is
  where
    by : (x : Option ℕ) → cleared_as x o c ∷ seen_control w k ≡ frame.Treats v treatment tasks ∷ l → ⊥
    by None e = cc
    by (Some x) e = cc
no_treatment w (f ∷ k) v treatment tasks l simple is = cc

-- Where nothing is hidden, components that are covered are of no access type.
uncovered : (c : ℕ) (kinds : List ComponentKind) → Covered [] c kinds → list_any is_owning kinds ≡ false
uncovered c [] covers = refl
uncovered c (kind ∷ kinds) covers = by (is_owning kind) refl (uncovered (c + 1) kinds covers.1)
  where
    by : (owns : Bool) → is_owning kind ≡ owns → list_any is_owning kinds ≡ false → (is_owning kind || list_any is_owning kinds) ≡ false
    by true is others = absurd (cc ((covers.0 is).1))
    by false is others = ap (λ (b : Bool). b || list_any is_owning kinds) is ∙ others

-- A record that is stored next, by a body that is judged, has no component of an access type: no Adjust sees to it behind that.
module _ (known : Known) (w : View) (heap : List Object) (operands : List Value) (c count : ℕ) (k : Control) (simple : BodyIsSimple w.tracks.first k)
    (rooms : Rooms) (holds : Holds) (o : Id) (access : ℕ) (known_as : (y : Object) → object_at heap o ≡ Some y → y.cell.access ≡ access) where
  adjusted_plain :
      (tasks : List Task) (later : Control) (number r : ℕ) (ks : List ComponentKind)
      → seen_control w k ≡ treating (Names o) (begins (Adjustment number) []) tasks later
      → Covered (owners_left known.program.types r tasks) c (take count (drop c ks)) → list_any is_owning (take count (drop c ks)) ≡ false
  adjusted_plain [] later number r ks is covers = uncovered c (take count (drop c ks)) covers
  adjusted_plain (task ∷ tasks) later number r ks is covers =
      absurd (no_treatment w k (Names o) (begins (Adjustment number) []) (task ∷ tasks) later simple is)

  stored_plain :
      StoresFrom known heap operands (Names o) c count (seen_control w k) rooms holds → (ks : List ComponentKind)
      → reached_components known.program.types access ≡ Some ks → list_any is_owning (take count (drop c ks)) ≡ false
  stored_plain (inl plain) ks is =
      plain.0.3 ks (ap (λ (t : ℕ). reached_components known.program.types t) (known_as plain.0.0 plain.0.1) ∙ is)
  stored_plain (inr adjusted) ks is =
      let to = adjusted.1 in
      adjusted_plain to.3.tasks to.3.behind to.3.number to.0.cell.access ks to.3.is
      (to.3.covers ks (ap (λ (t : ℕ). reached_components known.program.types t) (known_as to.0 to.1) ∙ is))

-- What is known where that is next in the state that stands for the real one.
plainly_stored :
    (known : Known) (w : View) (v : Value) (c count : ℕ) (k : Control) (m : Mode) (control : Control) (heap : List Object)
    (places operands : List Value) (masters : List Master) → m ≡ Running → control ≡ frame.StoresRecord v c count ∷ k
    → BodyIsSimple w.tracks.first control → ReadyIn known m (seen_control w control) heap places operands masters
    → BodyIsSimple w.tracks.first k × Working known heap places masters (StoresFrom known heap operands v c count (seen_control w k))
plainly_stored known w v c count k m control heap places operands masters runs at simple ready =
    let works : ReadyIn known Running (seen_control w (frame.StoresRecord v c count ∷ k)) heap places operands masters =
    subst (λ (l : Control). ReadyIn known Running (seen_control w l) heap places operands masters) at
    (subst (λ (mode : Mode). ReadyIn known mode (seen_control w control) heap places operands masters) runs ready) in
    let simple_so : BodyIsSimple w.tracks.first (frame.StoresRecord v c count ∷ k) = subst (BodyIsSimple w.tracks.first) at simple in
    (simple_so.1, works)

not_filling : (waiting : Waiting) (c : ℕ) (k l : Control) (items : List ItemForm) → waiting_frame waiting c ∷ k ≡ frame.Fills items ∷ l → ⊥
not_filling (assigning right) c k l items e = cc
not_filling getting c k l items e = cc
not_filling (freeing access) c k l items e = cc

not_storing :
    (waiting : Waiting) (c : ℕ) (k l : Control) (v : Value) (first count : ℕ) → waiting_frame waiting c ∷ k ≡ frame.StoresRecord v first count ∷ l → ⊥
not_storing (assigning right) c k l v first count e = cc
not_storing getting c k l v first count e = cc
not_storing (freeing access) c k l v first count e = cc

-- A frugal body that treats no controlled parts assigns no record with some as a whole (5.2, 7.6).
abbrev AssignsNone : List TypeForm → Control → Type 0
AssignsNone types (frame.Does (a_stmt (assigns_record target items) fs) ∷ k) = not (is_some (finalization_of types target.record_type)) ≡ true
AssignsNone types k = Unit {0}

first_or_none : (b : Bool) → (b || false) ≡ true → b ≡ true
first_or_none true e = refl
first_or_none false e = e

leads_bare :
    (types : List TypeForm) (later : Control) (among : List Value) (k : Control) (ms : List Master) → FrugalLeads (simple_allowance types) later among k ms
    → AssignsNone types k
leads_bare types later among (frame.Does (a_stmt (assigns_record target items) fs) ∷ k) ms leads =
    first_or_none (not (is_some (finalization_of types target.record_type))) (and_parts _ _ leads.0).0
leads_bare types later among k ms leads = tt

leaves_bare :
    (types : List TypeForm) (later : Control) (among : List Value) (k : Control) (ms : List Master) → FrugalLeaves (simple_allowance types) later among k ms
    → AssignsNone types k
leaves_bare types later among (frame.Does (a_stmt (assigns_record target items) fs) ∷ k) ms leaves = absurd leaves
leaves_bare types later among k ms leaves = tt

begins_bare :
    (types : List TypeForm) (later : Control) (among : List Value) (k : Control) (ms : List Master) → FrugalBegins (simple_allowance types) later among k ms
    → AssignsNone types k
begins_bare types later among (frame.Does (a_stmt (assigns_record target items) fs) ∷ k) ms starts = absurd starts
begins_bare types later among k ms starts = tt

frugal_bare :
    (types : List TypeForm) (later : Control) (among : List Value) (mode : Mode) (k : Control) (ms : List Master)
    → Frugal (simple_allowance types) later among mode k ms → AssignsNone types k
frugal_bare types later among mode k ms (inl leads) = leads_bare types later among k ms leads
frugal_bare types later among mode k ms (inr (inl leaves)) = leaves_bare types later among k ms leaves.1
frugal_bare types later among mode k ms (inr (inr starts)) = begins_bare types later among k ms starts.1

-- So it is in the real state, if it is so in the one that stands for it.
seen_bare :
    (types : List TypeForm) (tds : List TypeDefinition) → RecordIsBare types tds → (w : View) (m : Mode) (k : Control) → AssignsNone types (seen_control w k)
    → FirstAssignsBare tds m k
seen_bare types tds records w Running (frame.Does (a_stmt (assigns_record target items) fs) ∷ k) none = records target.record_type none
seen_bare types tds records w m k none = tt

waiting_bare : (tds : List TypeDefinition) (waiting : Waiting) (c : ℕ) (k : Control) → FirstAssignsBare tds Running (waiting_frame waiting c ∷ k)
waiting_bare tds (assigning right) c k = tt
waiting_bare tds getting c k = tt
waiting_bare tds (freeing access) c k = tt

-- A record that is the next item has no component of an access type.
module _ (program : Program) (s : State) (f : Adjusting program s) where
  abbrev types : List TypeForm
  types = (program_form program).types

  item_bare :
      (q : RecordPathForm) (is : List ItemForm) (k : Control) → s.mode ≡ Running → s.control ≡ frame.Fills (item_of_record q ∷ is) ∷ k
      → Seen program.types.items (body_forms program) f.w s f.t → is_owning_record types q.record_type ≡ false
  item_bare q is k runs at (plainly others stands) =
      subst (λ (ts : List TypeForm). is_owning_record ts q.record_type ≡ false) (same_types (Some f.number) (program_form program))
      (plainly_bare _ f.w q is k s.mode s.control _ _ _ _ runs at f.simple (subst (Ready _) stands f.ready).1)
  item_bare q is k runs at (following c cs j running_is control_is l vs stands goes_on) = absurd (cc (control_is, at))
  item_bare q is k runs at (elsewhere waiting c j vs running_is control_is operands_are none stands) =
      absurd (not_filling waiting c j k (item_of_record q ∷ is) (sym control_is ∙ at))
  item_bare q is k runs at (behind waiting c x spot fs j vs running_is control_is operands_are number stands) =
      absurd (not_filling waiting c (frame.Does fs ∷ j) k (item_of_record q ∷ is) (sym control_is ∙ at))

  first_bare : (m : Mode) (k : Control) → s.mode ≡ m → s.control ≡ k → NextIsBare types m k
  first_bare Running [] runs at = tt
  first_bare Running (frame.Fills [] ∷ k) runs at = tt
  first_bare Running (frame.Fills (item_of_record q ∷ is) ∷ k) runs at = item_bare q is k runs at f.seen
  first_bare Running (frame.Fills (i ∷ is) ∷ k) runs at = tt
  first_bare Running (f ∷ k) runs at = tt
  first_bare (Raising e) k runs at = tt
  first_bare Exiting k runs at = tt
  first_bare Returning k runs at = tt

  pub next_bare : NextIsBare types s.mode s.control
  next_bare = first_bare s.mode s.control refl refl

  -- The object of the formal parameter is known by its type in the state that stands for the real one, too.
  known_as : (q : Id) → (q.0 == f.w.object.0) ≡ true → (y : Object) → object_at (blanked f.w s.heap) q ≡ Some y → y.cell.access ≡ f.access
  known_as q itself y found =
      let a = unblanked f.w s.heap q y found in
      let here : object_at s.heap q ≡ Some f.x = ap (slice_get s.heap) (eqb-true q.0 f.w.object.0 itself) ∙ ap (object_at s.heap) f.object_so ∙ f.found in
      let same : a.object ≡ f.x = cc (sym a.found ∙ here) in
      sym a.alike.access ∙ ap (λ (x : Object). x.cell.access) same ∙ f.of_access

  lies_there :
      (known : Known) (v : Value) (c count : ℕ) (k : Control) → BodyIsSimple f.w.tracks.first k → (operands : List Value) (rooms : Rooms) (holds : Holds)
      → StoresFrom known (blanked f.w s.heap) operands v c count (seen_control f.w k) rooms holds → leads_to f.w.object v ≡ true
      → (ks : List ComponentKind) → reached_components known.program.types f.access ≡ Some ks → list_any is_owning (take count (drop c ks)) ≡ false
  lies_there known Null c count k simple operands rooms holds stores itself = absurd (cc)
  lies_there known (Names q) c count k simple operands rooms holds stores itself =
      stored_plain known f.w (blanked f.w s.heap) operands c count k simple rooms holds q f.access (known_as q itself) stores
  lies_there known (Scalar n) c count k simple operands rooms holds stores itself = absurd (cc)
  lies_there known (Part q place) c count k simple operands rooms holds (inl plain) itself = absurd plain.0
  lies_there known (Part q place) c count k simple operands rooms holds (inr adjusted) itself = absurd adjusted.1

  -- Nor has one that is stored next in the object.
  stored_bare :
      (v : Value) (c count : ℕ) (k : Control) → s.mode ≡ Running → s.control ≡ frame.StoresRecord v c count ∷ k
      → Seen program.types.items (body_forms program) f.w s f.t → leads_to f.w.object v ≡ true → (ks : List ComponentKind)
      → reached_components types f.access ≡ Some ks → list_any is_owning (take count (drop c ks)) ≡ false
  stored_bare v c count k runs at (plainly others stands) itself ks is =
      let both = plainly_stored _ f.w v c count k s.mode s.control _ _ _ _ runs at f.simple (subst (Ready _) stands f.ready).1 in
      lies_there _ v c count k both.0 _ both.1.rooms both.1.holds both.1.rest itself ks
      (ap (λ (ts : List TypeForm). reached_components ts f.access) (same_types (Some f.number) (program_form program)) ∙ is)
  stored_bare v c count k runs at (following d ds j running_is control_is l vs stands goes_on) itself ks is = absurd (cc (control_is, at))
  stored_bare v c count k runs at (elsewhere waiting d j vs running_is control_is operands_are none stands) itself ks is =
      absurd (not_storing waiting d j k v c count (sym control_is ∙ at))
  stored_bare v c count k runs at (behind waiting d y spot fs j vs running_is control_is operands_are number stands) itself ks is =
      absurd (not_storing waiting d (frame.Does fs ∷ j) k v c count (sym control_is ∙ at))

  first_stored : (m : Mode) (k : Control) → s.mode ≡ m → s.control ≡ k → StoresBare types f.w.object f.access m k
  first_stored Running [] runs at = tt
  first_stored Running (frame.StoresRecord v c count ∷ k) runs at = stored_bare v c count k runs at f.seen
  first_stored Running (g ∷ k) runs at = tt
  first_stored (Raising e) k runs at = tt
  first_stored Exiting k runs at = tt
  first_stored Returning k runs at = tt

  pub next_stored : StoresBare types f.w.object f.access s.mode s.control
  next_stored = first_stored s.mode s.control refl refl

  -- No record with controlled parts is assigned as a whole.
  by_seen : Seen program.types.items (body_forms program) f.w s f.t → AssignsBare program.types.items s
  by_seen (plainly others stands) =
      let frugal : Frugal (simple_allowance types) f.behind [] f.t.mode f.t.control f.frugal.upper = f.frugal.frugally in
      seen_bare types program.types.items (records_bare_by program) f.w s.mode s.control
      (subst (λ (u : State). AssignsNone types u.control) stands (frugal_bare types f.behind [] f.t.mode f.t.control f.frugal.upper frugal))
  by_seen (following d ds j running_is control_is l vs stands goes_on) =
      subst (λ (m : Mode). FirstAssignsBare program.types.items m s.control) (sym running_is)
      (subst (λ (k : Control). FirstAssignsBare program.types.items Running k) (sym control_is) tt)
  by_seen (elsewhere waiting d j vs running_is control_is operands_are none stands) =
      subst (λ (m : Mode). FirstAssignsBare program.types.items m s.control) (sym running_is)
      (subst (λ (k : Control). FirstAssignsBare program.types.items Running k) (sym control_is) (waiting_bare program.types.items waiting d j))
  by_seen (behind waiting d y spot fs j vs running_is control_is operands_are number stands) =
      subst (λ (m : Mode). FirstAssignsBare program.types.items m s.control) (sym running_is)
      (subst (λ (k : Control). FirstAssignsBare program.types.items Running k) (sym control_is) (waiting_bare program.types.items waiting d (frame.Does fs ∷ j)))

  pub next_assigns_bare : AssignsBare program.types.items s
  next_assigns_bare = by_seen f.seen
