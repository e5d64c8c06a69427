-- Where no operation runs, and collections are left up to one for whose objects operations may be called that touch storage (7.6.1), the state stands for itself, if of
-- all that is there the words are out: nothing counts as there that has gone.

use Rattle.std.proofs.Common.{◌≡◌, ℕ, Bool, true, false, not, List, [], ◌∷◌, ◌++◌, refl, sym, ap, subst, ◌∙◌}
use Rattle.std.proofs.lemmas.Bool.{and_parts, not-true}
use Rattle.std.specs.Prelude.{Option}
use Rattle.ada_deeds.specs.Implicit.{implicit_of}
use Rattle.ada_effects.specs.Effects.{Implicit}
use Rattle.ada_flow.specs.declared.rule.Hold.{Hold}
use Rattle.ada_flow.specs.declared.rule.Hold.TheVariants as hold
use Rattle.ada_flow.specs.Flow.{Holds, hold_at, variable_access}
use Rattle.ada_program.specs.declared.program.Program.{Program}
use Rattle.ada_program.specs.ProgramForm.{program_form}
use Rattle.ada_meaning.specs.declared.event.Cause.TheVariants.{Leaving}
use Rattle.ada_meaning.specs.declared.state.Mode.{Mode}
use Rattle.ada_meaning.specs.declared.state.Mode.TheVariants.{Running}
use Rattle.ada_meaning.specs.declared.state.Value.{Value}
use Rattle.ada_meaning.specs.declared.state.Value.TheVariants.{Names, Null, Scalar, Part}
use Rattle.ada_meaning.specs.Frame as frame
use Rattle.ada_meaning.specs.Law.{items_of}
use Rattle.ada_meaning.specs.Named.{Object, State}
use Rattle.ada_meaning.specs.State.{Activation, Item, Master, Owned, declared, collection, record_object, storage_pool}
use Rattle.ada_meaning.specs.Step.{operands_of, places_of}
use Rattle.ada_owners.specs.Places.{variable}
use Rattle.ada_owners.proofs.Kernel as kernel
use Rattle.ada_scopes.specs.Scopes.{is_declared_object}
use Rattle.ada_sound.specs.Agreement.{running_procedure}
use Rattle.ada_sound.proofs.Ahead.{ahead_in}
use Rattle.ada_sound.proofs.Callers.{known_in}
use Rattle.ada_sound.proofs.Calls.{home_low}
use Rattle.ada_sound.proofs.Departing.{AllSpareGone, AreGone, AreGoneFrom, Between, IsGoing, IsLeft, IsLow, SparesGone, next_member, ended}
use Rattle.ada_sound.proofs.Fits.{IsRelied, some_ahead, there_by}
use Rattle.ada_sound.proofs.Grounds.{Ordinary}
use Rattle.ada_sound.proofs.Invariant.{Control, EndingBy, IsNewest, Known, NamesLow, Parting, ReadyIn, Rooms, departs, departs_next, innermost}
use Rattle.ada_sound.proofs.Items.{Counted, HasItem, Houses, newest_is}
use Rattle.ada_sound.proofs.SeenStates.{seen_itself}
use Rattle.ada_sound.proofs.Stored.{AllOut}

-- The newest item is no declared object then, and for the objects of one of the items operations may be called that touch storage.
pub going_parts : (ahead : Owned → Bool) (i : Item) (is : List Item) → departs ahead (i ∷ is) ≡ true → (is_declared_object i.owned ≡ false) × (some_ahead ahead (i ∷ is) ≡ true)
going_parts ahead i is goes =
    let both = and_parts (not (is_declared_object i.owned)) (some_ahead ahead (i ∷ is)) goes in
    (not-true (is_declared_object i.owned) both.0, both.1)

-- What houses objects, and is no declared object, is the collection of their access type.
pub collection_is : (owned : Owned) (access : ℕ) (pool : Option ℕ) → is_declared_object owned ≡ false → Houses owned access pool → owned ≡ collection access pool
collection_is (declared x) access pool none houses = absurd houses
collection_is (collection t own) access pool none houses = ap (λ (u : ℕ). collection u own) houses.0 ∙ ap (λ (p : Option ℕ). collection access p) houses.1
collection_is (record_object t) access pool none houses = absurd (cc none)
collection_is (storage_pool declaration number) access pool none houses = absurd houses

-- What is relied on is not lost.
pub relied_kept : (h : Hold) → IsRelied h → h ≡ hold.Lost → ⊥
relied_kept h relied lost = rw lost at relied

-- What each variable is relied on to name lies low, where of all that is there the words are out.
pub names_low : (known : Known) (heap : List Object) (places : List Value) (masters : List Master) (more : Rooms → Holds → Type 0) → AllOut heap → (p : Parting known heap places masters more)
    → NamesLow heap places masters p.holds
names_low known heap places masters more out p x o object relied names found =
    let of = kernel.right_at p.fit.owners.fit (variable x) (relied_kept (hold_at p.holds x) relied) o names in
    let there = there_by heap (variable_access known.program.variables x) o of in
    let at = there.1 in
    let same : there.0 ≡ object = cc (at, found) in
    home_low heap masters o p.stored object found (subst (λ (y : Object). y.out ≡ true) same (out o there.0 there.1 there.2))

-- Where no type has lost members, nothing is to be known of such types.
spare_none : (implicit : Implicit) (owned : Owned) → SparesGone implicit [] owned
spare_none implicit (declared x) = tt
spare_none implicit (collection access pool) = λ t none. absurd (cc none)
spare_none implicit (record_object u) = tt
spare_none implicit (storage_pool declaration number) = tt

all_spare_none : (implicit : Implicit) (items : List Item) → AllSpareGone implicit [] items
all_spare_none implicit [] = tt
all_spare_none implicit (i ∷ is) = (spare_none implicit i.owned, all_spare_none implicit is)

none_gone : (program : Program) (items : List Item) (outer : List Master) → AreGone program [] items outer
none_gone program items outer = record {
  accessed = λ t none. absurd (cc none);
  unheld = λ t none. absurd (cc none);
  spared = all_spare_none (implicit_of (program_form program)) items;
}

-- What the newest item is then.
pub record Newest (program : Program) (masters : List Master) : Type 0 where
  pub item : ℕ
  pub owned : Owned
  pub going : IsGoing program item owned masters

newest_going : (program : Program) (masters : List Master) → departs (ahead_in (program_form program)) (innermost masters) ≡ true → Newest program masters
newest_going program [] is = absurd (cc is)
newest_going program (m ∷ ms) is = by m.items refl is
  where
    by : (items : List Item) → m.items ≡ items → departs (ahead_in (program_form program)) m.items ≡ true → Newest program (m ∷ ms)
    by [] at is' = absurd (let never : false ≡ true = rw at at is' in cc never)
    by (i ∷ items) at is' = record {
      item = i.number;
      owned = i.owned;
      going = record {
        number = m.number;
        items = items;
        outer = ms;
        is = ap (λ (all : List Item). record { number = m.number; items = all } ∷ ms) at;
        goes = rw at at is';
      };
    }

module _ (program : Program) (s : State) (o : Ordinary program s) (runs : s.mode ≡ Running) (out : AllOut s.heap) where
  abbrev known : Known
  known = known_in program (running_procedure s) o.suspensions

  -- Where a master is left next, each variable is relied on to name what lies low.
  low_by : (mode : Mode) (k : Control) (places operands : List Value) (ready : ReadyIn known mode k s.heap places operands s.masters) → IsLow known mode k s.heap places operands s.masters ready
  low_by Running (frame.Leaves left ∷ k) places operands ready = names_low known s.heap places s.masters _ out ready
  low_by mode k places operands ready = tt

  module _ (n : Newest program s.masters) where
    -- What is left is that of a collection's members: the next one is to be taken, ...
    abbrev Left : Control → Type 0
    Left k = (master : ℕ) × IsLeft n.owned master n.item (λ p. false) s.heap k

    -- ... or one is to end.
    member_ends : (v w : Value) (master item : ℕ) (pool : Option ℕ) (k : Control) (places : List Value) → EndingBy known v (frame.GivesBack w (Leaving master item) pool ∷ k) s.heap places s.masters
        → Left (frame.Ends v ∷ frame.GivesBack w (Leaving master item) pool ∷ k)
    member_ends Null w master item pool k places e = absurd e
    member_ends (Scalar x) w master item pool k places e = absurd e
    member_ends (Part p place) w master item pool k places e = absurd e
    member_ends (Names p) Null master item pool k places e = absurd e.rest
    member_ends (Names p) (Scalar x) master item pool k places e = absurd e.rest
    member_ends (Names p) (Part q place) master item pool k places e = absurd e.rest
    member_ends (Names p) (Names q) master item pool [] places e = absurd e.rest.2.2
    member_ends (Names p) (Names q) master item pool (frame.Leaves mode ∷ k) places e =
        let x = e.object in
        let home : x.cell.home.item ≡ n.item = sym e.rest.2.0 ∙ number_is in
        let houses = housed x ((e.stored.sane p x e.found).housed e.out) home in
        let none = (going_parts (ahead_in (program_form program)) (record { number = n.item; owned = n.owned }) n.going.items n.going.goes).0 in
        let own = collection_is n.owned x.cell.access x.cell.home.pool none houses in
        let same : q ≡ p = e.rest.0 in
        let from : pool ≡ x.cell.home.pool = e.rest.1 in (
          master,
          rw (same, from, number_is) (ended x.cell.access x.cell.home.pool p mode k own refl (x, e.found, refl)),
        )
      where
        number_is : item ≡ n.item
        number_is =
            let newest = subst (λ (ms : List Master). IsNewest e.object.cell.home.item (innermost ms)) n.going.is e.rest.2.1 in
            e.rest.2.0 ∙ sym newest

        housed : (x : Object) → HasItem x.cell.home.item x.cell.access x.cell.home.pool (items_of s.masters) → x.cell.home.item ≡ n.item → Houses n.owned x.cell.access x.cell.home.pool
        housed x has home =
            newest_is x.cell.home.item x.cell.access x.cell.home.pool (record { number = n.item; owned = n.owned }) (n.going.items ++ items_of n.going.outer) home
            (subst (λ (ms : List Master). Counted (items_of ms)) n.going.is e.stored.counted)
            (subst (λ (ms : List Master). HasItem x.cell.home.item x.cell.access x.cell.home.pool (items_of ms)) n.going.is has)
    member_ends (Names p) (Names q) master item pool (f ∷ k) places e = absurd e.rest.2.2

    left_by : (k : Control) (all : List (Activation Value)) → departs_next true k ≡ true
        → ReadyIn known Running k s.heap (places_of all) (operands_of all) s.masters → Left k
    left_by (frame.Leaves mode ∷ k) all leaves ready = (0, next_member mode k)
    left_by (frame.Ends v ∷ frame.GivesBack w (Leaving master item) pool ∷ k) all leaves ready = member_ends v w master item pool k (places_of all) ready
    left_by k all leaves ready = absurd (cc leaves)

    between_by : departs_next true s.control ≡ true → Between program s
    between_by leaves =
        let left = left_by s.control s.activations leaves (subst (λ (mode : Mode). ReadyIn known mode s.control s.heap (places_of s.activations) (operands_of s.activations) s.masters) runs o.ready.1) in
        record {
          types = [];
          master = left.0;
          item = n.item;
          owned = n.owned;
          ghosts = λ p. false;
          v = s;
          seen = seen_itself [] n.item s;
          runs = runs;
          going = n.going;
          are = subst (λ (ms : List Master). AreGoneFrom program [] ms) (sym n.going.is) (none_gone program (record { number = n.item; owned = n.owned } ∷ n.going.items) n.going.outer);
          here = λ p x none. absurd (cc none);
          left = left.1;
          kept = record { ordinary = o; low = low_by s.mode s.control (places_of s.activations) (operands_of s.activations) o.ready.1 };
        }

  -- Where collections go so, a step is one of that.
  next_so : (b : Bool) (k : Control) → departs_next b k ≡ true → (b ≡ true) × (departs_next true k ≡ true)
  next_so true k is = (refl, is)
  next_so false (frame.Ends v ∷ frame.GivesBack w (Leaving master item) pool ∷ k) is = absurd (cc is)
  next_so false k is = absurd (cc is)

  pub between_here : departs_next (departs (ahead_in (program_form program)) (innermost s.masters)) s.control ≡ true → (d : Between program s) × (departs_next true s.control ≡ true)
  between_here leaves =
      let both = next_so (departs (ahead_in (program_form program)) (innermost s.masters)) s.control leaves in
      (between_by (newest_going program s.masters both.0) both.1, both.1)
