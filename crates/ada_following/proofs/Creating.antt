-- A new object is initialized, and then it joins where it belongs.

use Rattle.std.proofs.Common.{◌≡◌, ◌≢◌, ℕ, suc, Bool, true, false, List, [], ◌∷◌, Option, Some, None, refl, sym, ap, ◌∙◌, inl, inr, subst, arith}
use Rattle.std.specs.List.{slice_get}
use Rattle.std.proofs.lemmas.Bool.Decides.{eqb_tells}
use Rattle.ada_program.specs.declared.program.TypeDefinition.{TypeDefinition}
use Rattle.ada_program.specs.Controlled.{shapes_of}
use Rattle.ada_parts.specs.declared.tasks.Component.{Component}
use Rattle.ada_parts.specs.declared.tasks.Direction.TheVariants.{PartsFirst, WholeFirst}
use Rattle.ada_parts.specs.Shape.{Shape, IsTable}
use Rattle.ada_parts.specs.Part.{Part as PartOf, numbers}
use Rattle.ada_parts.specs.Task.{Task, opened}
use Rattle.ada_meaning.specs.declared.event.Birth.{Birth}
use Rattle.ada_meaning.specs.declared.event.Birth.TheVariants.{Creation, Copy, Adjustment}
use Rattle.ada_meaning.specs.declared.state.Id.{Id}
use Rattle.ada_meaning.specs.declared.state.Value.{Value}
use Rattle.ada_meaning.specs.declared.state.Value.TheVariants.{Names}
use Rattle.ada_meaning.specs.declared.state.Mode.TheVariants.{Running}
use Rattle.ada_meaning.specs.Frame.{begins}
use Rattle.ada_meaning.specs.Step.{older, tasks_for, tasks_in, treating}
use Rattle.ada_meaning.specs.State.{Activation, record_object, Item, Master}
use Rattle.ada_meaning.specs.Named.{Object}
use Rattle.ada_meaning.proofs.Treatments.{are_table}
use Rattle.ada_storage.specs.State.{Forest, Job, all_in, bit, same, placed, initializes}
use Rattle.ada_storage.specs.State as storage
use Rattle.ada_storage.specs.Step.{Choice, goes_on, joins_as, at, owns_by, joins_by, is_above, Beginning, frame_of, begins as begins_by, at_creation, Ending, frame as ending_frame, ends, running_step}
use Rattle.ada_storage.proofs.Facts.{same_self, same_other}
use Rattle.ada_following.specs.Forests.{forest_at, forest_in, forest_for, AreAlike, Begins}
use Rattle.ada_following.specs.Reading.{birth_seen, joins_seen}
use Rattle.ada_following.proofs.Forests.{both_none, simple_at}
use Rattle.ada_following.proofs.Heaps.{Heap}
use Rattle.ada_following.proofs.Places.{Listing, Items, passed, single, NotIn, below_not_in, above_seen, items_off, Gains}
use Rattle.ada_following.proofs.Frames.{Control, static, listing, but, Joining, as_item, as_member, IsActing, IsCreated, Reads}
use Rattle.ada_following.proofs.Readings.{but_here, but_other, reads_join, opens_once, acting}
use Rattle.ada_following.proofs.Stands.{codes, beginning}
use Rattle.ada_following.proofs.Goings.{by_running, Silent, stands_still, one_more, then_silent}
use Rattle.ada_following.proofs.Treating.{doing, Reaches, pick_begins, done_begins, Arrives, pick_ends, nothing_behind}
use Rattle.ada_following.proofs.Follows.{Facts, Arrived}

pub creation_seen : (by : Birth) → IsCreated by → birth_seen by ≡ storage.creation
creation_seen Creation created = refl
creation_seen Copy created = refl
creation_seen (Adjustment n) created = absurd created

-- An object is listed, and without it it is not.
gains_but : (o n : ℕ) (L : Listing) → L n o ≡ 1 → ((i : ℕ) → i ≢ n → L i o ≡ 0) → Gains o n (but o L) L
gains_but o n L one off = record {
  rest = λ i x ne. sym (but_other o L i x ne);
  off = λ i ne. off i ne ∙ sym (but_here o L i);
  on = one ∙ ap suc (sym (but_here o L n));
}

-- The items with the object.
with_object :
    (L : Listing) (o n t : ℕ) (is : List Item) (js : List storage.Item) → ((x : ℕ) → L n x ≡ same x o) → ((i : ℕ) → i ≢ n → L i o ≡ 0) → NotIn n is
    → Items (but o L) (record { number = n; owned = record_object t } ∷ is) js → Items L (record { number = n; owned = record_object t } ∷ is) (record { number = n; owned = storage.declared o } ∷ js)
with_object L o n t is js one off not (passed n2 what none zero more) =
    let self = same_self o in
    single n t o one (items_off o n L (gains_but o n L (one o ∙ self) off) not more)
with_object L o n t is js one off not (single n2 t2 y count more) = absurd (elim (eqb_tells y o) [
  | inl h ↦ (let a = but_here o L n in let b = ap (λ (z : ℕ). but o L n z) h.1 in let c = count y in let self = same_self y in omega (arith, a, b, c, self))
  | inr h ↦ (let a = but_other o L n y h.1 in let b = one y in let d = same_other y o h.1 in let c = count y in let self = same_self y in omega (arith, a, b, c, d, self))
])

-- Storage comes to a state that is known.
pub record Settles (types : List TypeDefinition) (acts : List (Activation Value)) (h : Heap) (ms : List Master) (n : ℕ) (k : Control) (r : storage.State) : Type 0 where
  pub state : storage.State
  pub steps : Silent r state
  pub arrived : Arrived types acts h ms n Running k state

pub facts_at : {types : List TypeDefinition} {h : Heap} {ms : List Master} {n : ℕ} {s : storage.State} (c : storage.Control) → Facts types h ms n s → Facts types h ms n (at c s)
facts_at c f = record { out = f.out; shape = record { shape = f.shape.shape; alive = f.shape.alive; turn = f.shape.turn }; created = f.created; next = f.next; sound = f.sound }

module _ (types : List TypeDefinition) (acts : List (Activation Value)) (h : Heap) (n : ℕ) (k : Control) where
  -- The object joins.
  joined_now :
      (o : ℕ) (done : List ℕ) (ms : List Master) (M : storage.Master) (c : storage.Control) (joins : storage.Joins) (r : storage.State) → Joining (listing h) o ms joins
      → r.control ≡ initializes o joins [] done (storage.acts M c) → r.mode ≡ storage.running → Facts types h ms n r → placed o (storage.acts M c) ≡ 0
      → Reads types (static h) false (but o (listing h)) r.alive (older acts) k ms (storage.acts M c) → Settles types acts h ms n k r
  joined_now o done _ M c _ r (as_item a i t is ms one off below not) is_r run f z reads =
      let L = listing h in
      let g = gains_but o i L (let self = same_self o in one o ∙ self) off in
      let A = acting reads in
      let ks = record { number = i; owned = storage.declared o } ∷ A.js in
      let items = with_object L o i t is A.js one off (below_not_in i is below) A.items in
      let above : is_above i A.js ≡ true = is_above_items A.items in
      let t2 = at (storage.acts (record { number = suc a; items = ks }) c) r in
      record {
        state = t2;
        steps =
            one_more r t2 t2 (joins_as i)
            (by_running r (initializes o storage.to_items [] done (storage.acts (record { number = suc a; items = A.js }) c)) (joins_as i) storage.quiet t2
            (is_r ∙ ap (λ (N : storage.Master). initializes o storage.to_items [] done (storage.acts N c)) A.seen) run
            (ap (λ (b : Bool). owns_by b i (storage.declared o) (record { number = suc a; items = A.js }) c r) above))
            (stands_still t2 t2 refl);
        arrived =
            record {
              control = t2.control;
              moded = storage.running;
              is_control = refl;
              is_moded = run;
              stands = codes (A.gain L o i g not (let y = z in omega (arith, y)) (record { number = i; owned = record_object t } ∷ is) ks items);
              facts = facts_at t2.control f;
            };
      }
    where
      is_above_items : {js : List storage.Item} → Items (but o (listing h)) (record { number = i; owned = record_object t } ∷ is) js → is_above i js ≡ true
      is_above_items (passed i2 what none zero more) = above_seen i more below
      is_above_items (single i2 t2 y count more) =
          absurd (elim (eqb_tells y o) [
            | inl e ↦ (let a2 = but_here o (listing h) i in let b = ap (λ (x : ℕ). but o (listing h) i x) e.1 in let d = count y in let self = same_self y in omega (arith, a2, b, d, self))
            | inr e ↦ (let a2 = but_other o (listing h) i y e.1 in let b = one y in let d = same_other y o e.1 in let u = count y in let self = same_self y in omega (arith, a2, b, d, u, self))
          ])
  joined_now o done ms M c _ r (as_member a i on off once) is_r run f z reads =
      let L = listing h in
      let t2 = at (storage.joined a i o (storage.acts M c)) r in
      record {
        state = t2;
        steps =
            one_more r t2 t2 goes_on
            (by_running r (initializes o (storage.to_collection a i) [] done (storage.acts M c)) goes_on storage.quiet t2 is_r run
            (ap (λ (j : ℕ). joins_by j a i o (storage.acts M c) r) (opens_once a i once reads)))
            (stands_still t2 t2 refl);
        arrived =
            record {
              control = t2.control;
              moded = storage.running;
              is_control = refl;
              is_moded = run;
              stands = codes (reads_join a i o L (gains_but o i L on off) (inl once) z reads);
              facts = facts_at t2.control f;
            };
      }

  acting_joins :
      (o : ℕ) (done : List ℕ) (ms : List Master) (c : storage.Control) (joins : storage.Joins) (r : storage.State) → IsActing c → Joining (listing h) o ms joins
      → r.control ≡ initializes o joins [] done c → r.mode ≡ storage.running → Facts types h ms n r → placed o c ≡ 0
      → Reads types (static h) false (but o (listing h)) r.alive (older acts) k ms c → Settles types acts h ms n k r
  acting_joins o done ms (storage.acts M c) joins r is j is_r run f z reads = joined_now o done ms M c joins r j is_r run f z reads
  acting_joins o done ms c joins r is j is_r run f z reads = absurd is

  -- An initialization goes on, or it is done.
  pub settles_made :
      (ms : List Master) (o : Id) (x : Object) (by : Birth) (jobs : List Job) (done : List PartOf) (joins : storage.Joins) (c : storage.Control) (tasks : List Task) (r : storage.State)
      → IsCreated by → slice_get h o.0 ≡ Some x → joins_seen (slice_get h o.0) ms ≡ joins → Joining (listing h) o.0 ms joins → IsActing c → placed o.0 c ≡ 0
      → Reads types (static h) false (but o.0 (listing h)) r.alive (older acts) k ms c
      → r.control ≡ initializes o.0 joins jobs (numbers done) c → r.mode ≡ storage.running → Begins (shapes_of types) jobs tasks → Facts types h ms n r
      → Settles types acts h ms n (treating (Names o) (begins by done) tasks k) r
  settles_made ms o x by jobs done joins c [] r created there is_joins j act z reads is run b f =
      let r1 = at (initializes o.0 joins [] (numbers done) c) r in
      let m = acting_joins o.0 (numbers done) ms c joins r1 act j refl run (facts_at r1.control f) z reads in
      record {
        state = m.state;
        steps = then_silent r r1 m.state (done_begins (shapes_of types) (are_table types) (at_creation joins c) o.0 (numbers done) (λ c js q. refl) r jobs is run b) m.steps;
        arrived = m.arrived;
      }
  settles_made ms o x by jobs done joins c (task ∷ tasks) r created there is_joins j act z reads is run b f = record {
    state = r;
    steps = stands_still r r refl;
    arrived =
        record {
          control = initializes o.0 joins jobs (numbers done) c;
          moded = storage.running;
          is_control = is;
          is_moded = run;
          stands = beginning o x by done task tasks jobs joins created there b is_joins j act reads;
          facts = f;
        };
  }

-- A forest is alike to itself.
alike_self : (f : Forest) → AreAlike f f
alike_self f = record { counts = λ x. refl; trees = λ x k h. h }

module _ (shapes : List Shape) (table : IsTable shapes) where
  abbrev record_at : (type first : ℕ) → Component
  record_at t p = record { of = t; first = p }

  -- What is to be done first for a new object.
  pub starts :
      (start : Beginning) (o : ℕ) (done : List ℕ) (at_begin : (c : Choice) (jobs : List Job) (s : storage.State) → running_step c (frame_of start o jobs done) s ≡ begins_by jobs c start o done s)
      (d : Option ℕ) (r : storage.State)
      → r.control ≡ frame_of start o (all_in (forest_for shapes d) ∷ []) done → r.mode ≡ storage.running → Reaches shapes table start o done at_begin r (tasks_for shapes PartsFirst d)
  starts start o done at_begin None r is run = record {
    jobs = all_in storage.none ∷ [];
    steps = stands_still r (doing shapes table start o done at_begin (all_in storage.none ∷ []) r) (λ i. record r { control = is i });
    left = ([], record { groups = []; next = refl; alike = alike_self storage.none }, refl);
  }
  starts start o done at_begin (Some t) r is run =
      subst (Reaches shapes table start o done at_begin r) (nothing_behind shapes table (opened shapes PartsFirst t 0))
      (pick_begins shapes table start o done at_begin (record_at t 0 ∷ []) [] 0 (record_at t 0) refl r (all_in (forest_at shapes t 0) ∷ []) is run
      (λ x. let le = simple_at shapes t 0 x in omega (arith, le))
      ([], record { groups = (record_at t 0 ∷ []) ∷ []; next = refl; alike = subst (AreAlike (forest_at shapes t 0)) (sym (both_none (forest_at shapes t 0))) (alike_self (forest_at shapes t 0)) }, refl))

  -- And for a record that is to be ended, which lies in an object.
  pub starts_ending_in :
      (ending : Ending) (o : ℕ) (at_end : (c : Choice) (fs : List Forest) (s : storage.State) → running_step c (ending_frame ending o fs) s ≡ ends fs c ending o s) (d : Option ℕ) (p : ℕ) (r : storage.State)
      → r.control ≡ ending_frame ending o (forest_in shapes d p ∷ []) → r.mode ≡ storage.running → Arrives shapes table ending o at_end r (tasks_in shapes WholeFirst d p)
  starts_ending_in ending o at_end None p r is run = record {
    forests = storage.none ∷ [];
    steps = stands_still r (at (ending_frame ending o (storage.none ∷ [])) r) (λ i. record r { control = is i });
    left = ([], inl (record { groups = []; next = refl; alike = alike_self storage.none }), refl);
  }
  starts_ending_in ending o at_end (Some t) p r is run =
      subst (Arrives shapes table ending o at_end r) (nothing_behind shapes table (opened shapes WholeFirst t p))
      (pick_ends shapes table ending o at_end (record_at t p ∷ []) [] 0 (record_at t p) refl r (forest_at shapes t p ∷ []) is run
      (λ x. let le = simple_at shapes t p x in omega (arith, le))
      ([], inl (record { groups = (record_at t p ∷ []) ∷ []; next = refl; alike = subst (AreAlike (forest_at shapes t p)) (sym (both_none (forest_at shapes t p))) (alike_self (forest_at shapes t p)) }), refl))

  -- And for an object that is.
  pub starts_ending :
      (ending : Ending) (o : ℕ) (at_end : (c : Choice) (fs : List Forest) (s : storage.State) → running_step c (ending_frame ending o fs) s ≡ ends fs c ending o s) (d : Option ℕ) (r : storage.State)
      → r.control ≡ ending_frame ending o (forest_for shapes d ∷ []) → r.mode ≡ storage.running → Arrives shapes table ending o at_end r (tasks_for shapes WholeFirst d)
  starts_ending ending o at_end None r is run = starts_ending_in ending o at_end None 0 r is run
  starts_ending ending o at_end (Some t) r is run = starts_ending_in ending o at_end (Some t) 0 r is run
