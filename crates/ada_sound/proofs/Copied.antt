-- Records that are copied as items: each of their components counts as an item of its own, which is what it holds at first.

use Rattle.std.proofs.Common.{◌≡◌, ℕ, ◌==◌, Bool, true, false, not, ◌&&◌, ◌||◌, List, [], ◌∷◌, ◌++◌, length, map, take, drop, reverse, refl, sym, ap, subst, ◌∙◌, arith, inl, inr}
use Rattle.std.specs.Prelude.{Option, Some, None}
use Rattle.std.specs.List.{list_all, list_any}
use Rattle.std.proofs.lemmas.Bool.{eqb-true, not-true}
use Rattle.ada_text.specs.declared.spot.Spot.{Spot}
use Rattle.ada_program.specs.declared.program.ComponentKind.{ComponentKind}
use Rattle.ada_program.specs.declared.program.ComponentKind.TheVariants as component
use Rattle.ada_program.specs.declared.program.VariableKind.{VariableKind}
use Rattle.ada_program.specs.Form.{PathForm, RecordPathForm, integer, boolean, ItemForm, null_item, item_of_path, item_of_value, item_of_record}
use Rattle.ada_program.specs.ProgramForm.{TypeForm, VariableForm}
use Rattle.ada_program.specs.declared.program.Finalization.{Finalization}
use Rattle.ada_program.specs.Controlled.{number_in}
use Rattle.ada_program.specs.WellFormed.{copies_whole, finalization_of, is_copy, is_record_item, is_filled, item_owns, record_fits as fits_record, access_of, path_kind, record_components, object_components, is_alike, begins_with, begins_with_record, has_record_at, is_record_path, item_fits, item_width, width_in, items_fit}
use Rattle.ada_effects.specs.Effects.{items_raise, item_raises}
use Rattle.ada_flow.specs.Flow.{Holds, moved_by_item, moved_by_items, named_by_item, is_owning, uses_in, uses_in_item, uses_in_items, copied_to}
use Rattle.ada_flow.specs.Tracking.{no_tracks}
use Rattle.ada_meaning.specs.declared.state.Value.{Value}
use Rattle.ada_meaning.specs.Frame.{Creates, StoresRecord, DeclaresRecord}
use Rattle.ada_meaning.specs.Step.{in_front}
use Rattle.ada_meaning.specs.Named.{Object}
use Rattle.ada_meaning.proofs.Defaults.{taken_back}
use Rattle.ada_typed.proofs.Parts.{shown_number}
use Rattle.ada_sound.proofs.Raising.{or_right}
use Rattle.ada_sound.proofs.Followings.{kept_apart}
use Rattle.ada_sound.proofs.CopiedOwners.{NameThere, Original, names_in_front}
use Rattle.ada_sound.proofs.Invariant.{Known, Control, Rooms, InitialTo, NoneBroken, back_onto, named_of, ItemsKeep, FilledBy, Given, Filling, FillsTo, OwnNothing}

-- What a component holds at first, as an item.
abbrev pub default_item : ComponentKind → ItemForm
default_item (component.Integer initial) = item_of_value (integer initial)
default_item (component.Boolean initial) = item_of_value (boolean initial)
default_item (component.Access access) = null_item

-- What an item may raise, all items may.
pub raise_back : (done todo : List ItemForm) → items_raise todo ≡ true → items_raise (back_onto done todo) ≡ true
raise_back [] todo e = e
raise_back (d ∷ done) todo e = raise_back done (d ∷ todo) (or_right (item_raises d) (items_raise todo) e)

module _ (known : Known) (heap : List Object) (places : List Value) where
  -- An item has its value.
  pub fill_one : (access count : ℕ) (i : ItemForm) (items : List ItemForm) (k : Control) (operands : List Value) (v : Value) (rooms : Rooms) (holds : Holds) → FilledBy heap places i v → Filling known heap places access count (i ∷ items) k operands rooms holds → Filling known heap places access count items k (v ∷ operands) rooms holds
  fill_one access count i items k operands v rooms holds is f = record {
    done = i ∷ f.done;
    spot = f.spot;
    target = f.target;
    into = f.into;
    unlent = f.unlent;
    filled = (is, f.filled);
    before = (f.behind.0, f.before);
    behind = f.behind.1;
    bare = f.bare.1;
    leads = f.leads;
    counted = f.counted;
  }

  -- So it is where the items are those of a record.
  pub give_next : {plain : Bool} (i : ItemForm) (items : List ItemForm) (k : Control) (rooms : Rooms) (holds : Holds) → Given known plain (i ∷ items) k rooms holds → Given known plain items k rooms holds
  give_next i items k rooms holds g = record {
    spot = g.spot;
    earlier = named_by_item i ++ g.earlier;
    keeps = g.keeps.1;
    raises = λ may. g.raises (or_right (item_raises i) (items_raise items) may);
    bare = λ is. (g.bare is).1;
  }

-- What items say is as much where some behind others are replaced.
and_map : (a b d : Bool) → (b ≡ true → d ≡ true) → (a && b) ≡ true → (a && d) ≡ true
and_map true b d f e = f e
and_map false b d f e = absurd (cc e)

or_map : (a b d : Bool) → (b ≡ true → d ≡ true) → (a || b) ≡ true → (a || d) ≡ true
or_map true b d f e = refl
or_map false b d f e = f e

back_fit : (types : List TypeForm) (variables : List VariableForm) (done todo other : List ItemForm) → ((cs : List ComponentKind) → items_fit types variables cs todo ≡ true → items_fit types variables cs other ≡ true) → (cs : List ComponentKind) → items_fit types variables cs (back_onto done todo) ≡ true → items_fit types variables cs (back_onto done other) ≡ true
back_fit types variables [] todo other f cs e = f cs e
back_fit types variables (d ∷ done) todo other f cs e =
    back_fit types variables done (d ∷ todo) (d ∷ other)
    (λ ks. and_map (item_fits types variables ks d) (items_fit types variables (drop (item_width types d) ks) todo) (items_fit types variables (drop (item_width types d) ks) other) (f (drop (item_width types d) ks))) cs e

back_raise : (done todo other : List ItemForm) → (items_raise todo ≡ true → items_raise other ≡ true) → items_raise (back_onto done todo) ≡ true → items_raise (back_onto done other) ≡ true
back_raise [] todo other f e = f e
back_raise (d ∷ done) todo other f e = back_raise done (d ∷ todo) (d ∷ other) (or_map (item_raises d) (items_raise todo) (items_raise other) f) e

back_move : (done todo other : List ItemForm) → moved_by_items no_tracks todo ≡ moved_by_items no_tracks other → moved_by_items no_tracks (back_onto done todo) ≡ moved_by_items no_tracks (back_onto done other)
back_move [] todo other e = e
back_move (d ∷ done) todo other e = back_move done (d ∷ todo) (d ∷ other) (ap (λ xs. moved_by_item no_tracks d ++ xs) e)

-- What a record's components hold at first, in place of the record.
both : (a b : Bool) → (a && b) ≡ true → (a ≡ true) × (b ≡ true)
both true b e = (refl, e)
both false b e = absurd (cc e)

alike_fits : (types : List TypeForm) (variables : List VariableForm) (c kind : ComponentKind) (cs : List ComponentKind) (items : List ItemForm) → is_alike c kind ≡ true → items_fit types variables cs items ≡ true → items_fit types variables (c ∷ cs) (default_item kind ∷ items) ≡ true
alike_fits types variables (component.Integer i) (component.Integer j) cs items like e = e
alike_fits types variables (component.Boolean i) (component.Boolean j) cs items like e = e
alike_fits types variables (component.Access t) (component.Access u) cs items like e = e
alike_fits types variables (component.Integer i) (component.Boolean j) cs items like e = absurd (cc like)
alike_fits types variables (component.Integer i) (component.Access u) cs items like e = absurd (cc like)
alike_fits types variables (component.Boolean i) (component.Integer j) cs items like e = absurd (cc like)
alike_fits types variables (component.Boolean i) (component.Access u) cs items like e = absurd (cc like)
alike_fits types variables (component.Access t) (component.Integer j) cs items like e = absurd (cc like)
alike_fits types variables (component.Access t) (component.Boolean j) cs items like e = absurd (cc like)

record_fits : (types : List TypeForm) (variables : List VariableForm) (kinds cs : List ComponentKind) (items : List ItemForm) → begins_with cs kinds ≡ true → items_fit types variables (drop (length kinds) cs) items ≡ true → items_fit types variables cs (map default_item kinds ++ items) ≡ true
record_fits types variables [] cs items begins e = e
record_fits types variables (kind ∷ kinds) [] items begins e = absurd (cc begins)
record_fits types variables (kind ∷ kinds) (c ∷ cs) items begins e =
    let b = both (is_alike c kind) (begins_with cs kinds) begins in
    alike_fits types variables c kind cs (map default_item kinds ++ items) b.0 (record_fits types variables kinds cs items b.1 e)

unrolled_fits : (types : List TypeForm) (variables : List VariableForm) (p : RecordPathForm) (kinds : List ComponentKind) (items : List ItemForm) → record_components types p.record_type ≡ Some kinds → (cs : List ComponentKind) → items_fit types variables cs (item_of_record p ∷ items) ≡ true → items_fit types variables cs (map default_item kinds ++ items) ≡ true
unrolled_fits types variables p kinds items is cs e =
    let b = both (is_record_path types variables p && begins_with_record cs (record_components types p.record_type)) (items_fit types variables (drop (width_in (record_components types p.record_type)) cs) items) e in
    let begins = (both (is_record_path types variables p) (begins_with_record cs (record_components types p.record_type)) b.0).1 in
    record_fits types variables kinds cs items (rw is at begins) (rw is at b.1)

unrolled_raises : (kinds : List ComponentKind) (items : List ItemForm) → items_raise (map default_item kinds ++ items) ≡ items_raise items
unrolled_raises [] items = refl
unrolled_raises (component.Integer initial ∷ kinds) items = unrolled_raises kinds items
unrolled_raises (component.Boolean initial ∷ kinds) items = unrolled_raises kinds items
unrolled_raises (component.Access access ∷ kinds) items = unrolled_raises kinds items

unrolled_moves : (kinds : List ComponentKind) (items : List ItemForm) → moved_by_items no_tracks (map default_item kinds ++ items) ≡ moved_by_items no_tracks items
unrolled_moves [] items = refl
unrolled_moves (component.Integer initial ∷ kinds) items = unrolled_moves kinds items
unrolled_moves (component.Boolean initial ∷ kinds) items = unrolled_moves kinds items
unrolled_moves (component.Access access ∷ kinds) items = unrolled_moves kinds items

pub unrolled_bare : (types : List TypeForm) (kinds : List ComponentKind) (items : List ItemForm) → OwnNothing types items → OwnNothing types (map default_item kinds ++ items)
unrolled_bare types [] items bare = bare
unrolled_bare types (component.Integer initial ∷ kinds) items bare = (tt, unrolled_bare types kinds items bare)
unrolled_bare types (component.Boolean initial ∷ kinds) items bare = (tt, unrolled_bare types kinds items bare)
unrolled_bare types (component.Access access ∷ kinds) items bare = (tt, unrolled_bare types kinds items bare)

unrolled_keep : (types : List TypeForm) (spot : Spot) (target : Option PathForm) (holds : Holds) (earlier : List PathForm) (kinds : List ComponentKind) (items : List ItemForm) → ItemsKeep types spot target holds earlier items → ItemsKeep types spot target holds earlier (map default_item kinds ++ items)
unfolding uses_in
unrolled_keep types spot target holds earlier [] items keep = keep
unrolled_keep types spot target holds earlier (component.Integer initial ∷ kinds) items keep = (refl, unrolled_keep types spot target holds earlier kinds items keep)
unrolled_keep types spot target holds earlier (component.Boolean initial ∷ kinds) items keep = (refl, unrolled_keep types spot target holds earlier kinds items keep)
unrolled_keep types spot target holds earlier (component.Access access ∷ kinds) items keep = (refl, unrolled_keep types spot target holds earlier kinds items keep)

module _ (known : Known) (heap : List Object) (places : List Value) where
  unrolled : (access count : ℕ) (p : RecordPathForm) (kinds : List ComponentKind) (items : List ItemForm) (k : Control) (operands : List Value) (rooms : Rooms) (holds : Holds) → record_components known.program.types p.record_type ≡ Some kinds → Filling known heap places access count (item_of_record p ∷ items) k operands rooms holds → Filling known heap places access count (map default_item kinds ++ items) k operands rooms holds
  unrolled access count p kinds items k operands rooms holds is f =
      let types = known.program.types in
      let variables = known.program.variables in
      let others = map default_item kinds ++ items in
      let moves : moved_by_items no_tracks (back_onto f.done (item_of_record p ∷ items)) ≡ moved_by_items no_tracks (back_onto f.done others) =
      back_move f.done (item_of_record p ∷ items) others (rw (unrolled_moves kinds items) refl) in
      record {
        done = f.done;
        spot = f.spot;
        target = f.target;
        into = f.into;
        unlent = f.unlent;
        filled = f.filled;
        before = f.before;
        behind = unrolled_keep types f.spot f.target holds (named_of f.done) kinds items f.behind.1;
        bare = unrolled_bare types kinds items f.bare.1;
        leads = record {
          components = f.leads.components;
          reached = f.leads.reached;
          fit = back_fit types variables f.done (item_of_record p ∷ items) others (unrolled_fits types variables p kinds items is) f.leads.components f.leads.fit;
          fails = λ may. f.leads.fails (back_raise f.done others (item_of_record p ∷ items) (λ some. or_right (item_raises (item_of_record p)) (items_raise items) (rw (unrolled_raises kinds items) at some)) may);
          refused = f.leads.refused;
          starts = f.leads.starts;
          room = f.leads.room;
          to = rw moves at f.leads.to;
          initializes = λ touches. (let i = f.leads.initializes touches in (sym moves ∙ i.0, i.1));
        };
        counted = f.counted;
      }

  -- The value of an Integer or a Boolean is any one.
  plain_filled : (kind : ComponentKind) (v : Value) → is_owning kind ≡ false → FilledBy heap places (default_item kind) v
  plain_filled (component.Integer initial) v plain = tt
  plain_filled (component.Boolean initial) v plain = tt
  plain_filled (component.Access access) v plain = absurd (cc plain)

  neither : (a b : Bool) → (a || b) ≡ false → (a ≡ false) × (b ≡ false)
  neither true b e = absurd (cc e)
  neither false b e = (refl, e)

  filled_plain : (access count : ℕ) (kinds : List ComponentKind) (items : List ItemForm) (k : Control) (vs operands : List Value) (rooms : Rooms) (holds : Holds) → list_any is_owning kinds ≡ false → length vs ≡ length kinds → Filling known heap places access count (map default_item kinds ++ items) k operands rooms holds → Filling known heap places access count items k (in_front vs operands) rooms holds
  filled_plain access count [] items k [] operands rooms holds plain as_many f = f
  filled_plain access count [] items k (v ∷ vs) operands rooms holds plain as_many f = absurd (omega (arith, as_many))
  filled_plain access count (kind ∷ kinds) items k [] operands rooms holds plain as_many f = absurd (omega (arith, as_many))
  filled_plain access count (kind ∷ kinds) items k (v ∷ vs) operands rooms holds plain as_many f =
      let two = neither (is_owning kind) (list_any is_owning kinds) plain in
      filled_plain access count kinds items k vs (v ∷ operands) rooms holds two.1 (omega (arith, as_many))
      (fill_one known heap places access count (default_item kind) (map default_item kinds ++ items) k operands v rooms holds (plain_filled kind v two.0) f)

  -- The components of a record are there.
  pub copies_on : (p : RecordPathForm) (kinds : List ComponentKind) (items : List ItemForm) (k : Control) (operands : List Value) (rooms : Rooms) (holds : Holds) → record_components known.program.types p.record_type ≡ Some kinds → FillsTo known heap places (item_of_record p ∷ items) k operands rooms holds → (vs : List Value) → length vs ≡ length kinds → NameThere heap vs → Original known.program.types heap p.record_type vs → FillsTo known heap places items k (in_front vs operands) rooms holds
  copies_on p kinds items [] operands rooms holds is f vs as_many names original = f
  copies_on p kinds items (Creates access count ∷ k) operands rooms holds is f vs as_many names original =
      filled_plain access count kinds items k vs operands rooms holds (rw is at (f.bare.0)) as_many (unrolled access count p kinds items k operands rooms holds is f)
  copies_on p kinds items (StoresRecord o first count ∷ k) operands rooms holds is f vs as_many names original = (give_next known heap places (item_of_record p) items k rooms holds f.0, f.1)
  copies_on p kinds items (DeclaresRecord x t ∷ k) operands rooms holds is (giving, initial, recording) vs as_many names original =
      (give_next known heap places (item_of_record p) items k rooms holds giving, copied_first initial, recording)
    where
      copied_first : InitialTo known heap (item_of_record p ∷ items) operands t → InitialTo known heap items (in_front vs operands) t
      copied_first (inl none) = inl none
      copied_first (inr (r, first, inr (nothing_left, has))) = absurd (cc nothing_left)
      copied_first (inr (r, first, inl (q, all, of))) =
          let same : p ≡ q = cc all in
          let last : items ≡ [] = cc all in
          let own : record_components known.program.types r ≡ Some kinds = rw (← of, ← same) is in
          let front : reverse (take (length kinds) (in_front vs operands)) ≡ vs = ap (λ (n : ℕ). reverse (take n (in_front vs operands))) (sym as_many) ∙ taken_back vs operands in
          let here : Original known.program.types heap r vs = subst (λ (u : ℕ). Original known.program.types heap u vs) (ap (λ (q : RecordPathForm). q.record_type) same ∙ of) original in
          inr (
            r,
            first,
            inr (
              last,
              (
                kinds,
                own,
                rw (← as_many) (names_in_front heap vs operands names),
                subst (λ (us : List Value). Original known.program.types heap r us) (sym front) here,
              ),
            ),
          )
  copies_on p kinds items (f ∷ k) operands rooms holds is g vs as_many names original = g

-- Items that use no path that breaks a rule.
pub items_keep : (types : List TypeForm) (spot : Spot) (target : Option PathForm) (holds : Holds) (earlier : List PathForm) (items : List ItemForm) → NoneBroken holds (uses_in_items types spot target earlier items) → ItemsKeep types spot target holds earlier items
items_keep types spot target holds earlier [] kept = tt
items_keep types spot target holds earlier (i ∷ is) kept =
    let h = kept_apart holds (uses_in_item types spot target earlier i) (uses_in_items types spot target (named_by_item i ++ earlier) is) kept in
    (h.0, items_keep types spot target holds (named_by_item i ++ earlier) is h.1)

-- What is copied owns nothing.
pub copied_plain : (owning : Bool) (spot : Spot) → copied_to owning spot ≡ None → owning ≡ false
copied_plain true spot e = absurd (cc e)
copied_plain false spot e = refl

-- What typing says of a record that is copied, or assigned to: its path leads somewhere, and it has these components.
pub record RecordThere (types : List TypeForm) (variables : List VariableForm) (p : RecordPathForm) : Type 0 where
  pub to : VariableKind
  pub leads : path_kind types variables p.object ≡ Some to
  pub kinds : List ComponentKind
  pub components : record_components types p.record_type ≡ Some kinds

pub record_there : (types : List TypeForm) (variables : List VariableForm) (p : RecordPathForm) → is_record_path types variables p ≡ true → RecordThere types variables p
record_there types variables p e =
    by (path_kind types variables p.object) (record_components types p.record_type) refl refl
    (both (has_record_at (object_components types (access_of (path_kind types variables p.object))) p.first (record_components types p.record_type)) _ e).0
  where
    some_first : (components : Option (List ComponentKind)) → has_record_at components p.first None ≡ true → ⊥
    some_first None e' = cc e'
    some_first (Some components) e' = cc e'

    by : (found : Option VariableKind) (record_kinds : Option (List ComponentKind)) → path_kind types variables p.object ≡ found → record_components types p.record_type ≡ record_kinds → has_record_at (object_components types (access_of found)) p.first record_kinds ≡ true → RecordThere types variables p
    by None record_kinds leads is e' = absurd (cc e')
    by (Some to) None leads is e' = absurd (some_first (object_components types (access_of (Some to))) e')
    by (Some to) (Some kinds) leads is e' = record { to = to; leads = leads; kinds = kinds; components = is }

-- A record that gets items gets them whole, where it has controlled parts.
fits_whole : (types : List TypeForm) (variables : List VariableForm) (t : ℕ) (items : List ItemForm) → fits_record types variables t items ≡ true → copies_whole t (finalization_of types t) items ≡ true
fits_whole types variables t items fits =
    (both (is_filled types variables (record_components types t) items && list_all (item_owns variables) items) (copies_whole t (finalization_of types t) items) fits).1

-- The only item is a record of a type.
abbrev pub IsCopy : (t : ℕ) → List ItemForm → Type 0
IsCopy t items = (p : RecordPathForm) × (items ≡ item_of_record p ∷ []) × (p.record_type ≡ t)

-- What typing says of such items.
one_copy : (t : ℕ) (items : List ItemForm) → is_copy t items ≡ true → IsCopy t items
one_copy t [] e = absurd (cc e)
one_copy t (i ∷ is) e =
    let b = both (is_record_item t i) (length is == 0) e in
    by i is b.0 (eqb-true (length is) 0 b.1)
  where
    by : (i : ItemForm) (is : List ItemForm) → is_record_item t i ≡ true → length is ≡ 0 → IsCopy t (i ∷ is)
    by null_item is e none = absurd (cc e)
    by (item_of_path path) is e none = absurd (cc e)
    by (item_of_value value) is e none = absurd (cc e)
    by (item_of_record p) [] e none = (p, refl, eqb-true p.record_type t e)
    by (item_of_record p) (j ∷ is) e none = absurd (omega (arith, none))

-- A record with controlled parts that gets items is copied (7.6).
pub copied_whole : (types : List TypeForm) (variables : List VariableForm) (t of : ℕ) (items : List ItemForm) → shown_number types (Some t) ≡ Some of → fits_record types variables t items ≡ true → IsCopy t items
copied_whole types variables t of items numbered fits = by (finalization_of types t) numbered (fits_whole types variables t items fits)
  where
    by : (found : Option Finalization) → number_in found ≡ Some of → copies_whole t found items ≡ true → IsCopy t items
    by None none copies = absurd (cc none)
    by (Some f) is copies = one_copy t items (both (not f.limited) (is_copy t items) copies).1

-- A record that gets items is of a type that is not limited, where it has controlled parts.
pub may_copy : (types : List TypeForm) (variables : List VariableForm) (t : ℕ) (items : List ItemForm) → fits_record types variables t items ≡ true → (f : Finalization) → finalization_of types t ≡ Some f → f.limited ≡ false
may_copy types variables t items fits f is = by (finalization_of types t) is (fits_whole types variables t items fits)
  where
    by : (found : Option Finalization) → found ≡ Some f → copies_whole t found items ≡ true → f.limited ≡ false
    by None at copies = absurd (cc at)
    by (Some g) at copies = let same : g ≡ f = cc at in rw (← same) (not-true g.limited (both (not g.limited) (is_copy t items) copies).0)
