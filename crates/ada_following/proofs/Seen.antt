-- What is left to do is read as what storage has under way.

use Rattle.std.proofs.Common.{◌≡◌, ℕ, suc, Bool, true, false, cond, List, [], ◌∷◌, Option, Some, None, refl, sym, ap, ◌∙◌, inl, inr, subst, arith}
use Rattle.std.specs.Prelude.{◌==◌, ◌++◌, is_some}
use Rattle.std.specs.List.{slice_get}
use Rattle.std.proofs.lemmas.Bool.Decides.{eqb_tells}
use Rattle.ada_program.specs.declared.program.TypeDefinition.{TypeDefinition}
use Rattle.ada_program.specs.Controlled.{shapes_of}
use Rattle.ada_program.specs.declared.program.Exception.{Exception}
use Rattle.ada_program.specs.Form.{RecordPathForm}
use Rattle.ada_parts.specs.Shape.{Shape}
use Rattle.ada_parts.specs.Part.{Part as PartOf, numbers}
use Rattle.ada_parts.specs.Task.{Task}
use Rattle.ada_parts.specs.Law.{parts_left}
use Rattle.ada_meaning.specs.declared.event.Birth.{Birth}
use Rattle.ada_meaning.specs.declared.event.Birth.TheVariants.{Creation, Copy, Adjustment}
use Rattle.ada_meaning.specs.declared.event.Cause.{Cause}
use Rattle.ada_meaning.specs.declared.event.Cause.TheVariants.{Leaving, Freeing, Assigning, Undoing}
use Rattle.ada_meaning.specs.declared.state.Id.{Id}
use Rattle.ada_meaning.specs.declared.state.Value.{Value}
use Rattle.ada_meaning.specs.declared.state.Value.TheVariants.{Names}
use Rattle.ada_meaning.specs.declared.state.Mode.{Mode}
use Rattle.ada_meaning.specs.declared.state.Mode.TheVariants.{Running, Raising, Exiting, Returning}
use Rattle.ada_meaning.specs.Frame.{begins, ends, Frame, is_master}
use Rattle.ada_meaning.specs.Frame as frame
use Rattle.ada_meaning.specs.State.{Activation, declared, collection, record_object, storage_pool, Item, Master}
use Rattle.ada_meaning.specs.Step.{treating}
use Rattle.ada_meaning.specs.Named.{Object, on_object, parted}
use Rattle.ada_storage.specs.State.{Forest, Job, same, in_list, in_forest, in_forests, without}
use Rattle.ada_storage.specs.State as storage
use Rattle.ada_storage.proofs.Invariant.{Alive, after}
use Rattle.ada_storage.proofs.Facts.{same_self, same_is}
use Rattle.ada_following.specs.Forests.{forest_adjusted, Begins, Ends}
use Rattle.ada_following.specs.Reading.{listed_in, mode_seen, joins_seen, part_of, is_alive, IsObject, AreItems, Behind, IsActing, IsBegun, LacksValue, IsFrame, IsControl, IsUnderWay, mode_after}
use Rattle.ada_following.proofs.Heaps.{Heap, unlists_parted}
use Rattle.ada_following.proofs.Places.{Listing, Items, no_items, passed, collected, single, in_without, in_others}
use Rattle.ada_following.proofs.Frames.{Control, IsCode, Static, static, listing, but, Treating, before, alive_behind, listing_behind, IsCreated, copying, taking, giving_up, undoing, performing, Lacks, Waits, made, adjusted, freed, undone, assigned_to, failing, Reads, nothing, code, calls, enters, operates, treats_behind, leaves_behind}
use Rattle.ada_following.proofs.Readings.{after_more}
use Rattle.ada_following.proofs.PartsLeft.{beside, in_beside}
use Rattle.ada_following.proofs.Stands.{still_found, Path, at_path, on_path, off_path, Passed, AreBeside, Stands}
use Rattle.ada_following.proofs.Stands as stands

-- Lists by counts.
pub no_list : (xs : List ℕ) → ((o : ℕ) → in_list o xs ≡ 0) → xs ≡ []
no_list [] z = refl
no_list (x ∷ xs) z = let none = z x in let self = same_self x in absurd (omega (arith, none, self))

pub one_list : (o : ℕ) (xs : List ℕ) → ((x : ℕ) → in_list x xs ≡ same x o) → xs ≡ o ∷ []
one_list o [] one = let self = same_self o in let none = one o in absurd (omega (arith, self, none))
one_list o (x ∷ xs) one =
    let first = one x in
    let self = same_self x in
    let is : x ≡ o = same_is x o (omega (arith, first, self)) in
    ap (λ (ys : List ℕ). x ∷ ys) (no_list xs (λ y. let e = one y in let d = ap (same y) is in omega (arith, e, d))) ∙ ap (λ (y : ℕ). y ∷ []) is

-- A heap, as it is read.
record Agrees (h : Heap) (S : Static) (L : Listing) (A : Alive) : Type 0 where
  listed : (n o : ℕ) → L n o ≡ in_list o (listed_in h n)
  holds : (o p : ℕ) → S.holds o p ≡ is_some (part_of (slice_get h o) p)
  joins : (o : ℕ) (ms : List Master) → S.joins o ms ≡ joins_seen (slice_get h o) ms
  alive : (o p : ℕ) → is_alive (part_of (slice_get h o) p) ≡ true → A o p ≡ true

-- An object with parts is there.
record IsThere (h : Heap) (o : ℕ) : Type 0 where
  x : Object
  there : slice_get h o ≡ Some x

there_by : (h : Heap) (o p : ℕ) (found : Option Object) → slice_get h o ≡ found → is_some (part_of found p) ≡ true → IsThere h o
there_by h o p None is e = absurd (cc e)
there_by h o p (Some x) is e = record { x = x; there = is }

is_there : (h : Heap) (S : Static) (L : Listing) (A : Alive) (o p : ℕ) → Agrees h S L A → S.holds o p ≡ true → IsThere h o
is_there h S L A o p a e = there_by h o p (slice_get h o) refl (sym (a.holds o p) ∙ e)

agrees_parted : (h : Heap) (S : Static) (L : Listing) (A : Alive) (o : Id) (p : ℕ) → S.holds o.0 p ≡ true → Agrees h S L A → Agrees (on_object parted h (Names o)) S (but o.0 L) A
agrees_parted h S L A o p has a =
    let t = is_there h S L A o.0 p a has in
    let u = unlists_parted h o t.x t.there in
    record {
      listed = λ n y. elim (eqb_tells y o.0) [
        | inl e ↦ (ap (λ (b : Bool). cond b 0 (L n y)) e.0 ∙ sym (in_without o.0 (listed_in h n)) ∙ ap (λ (z : ℕ). in_list z (without o.0 (listed_in h n))) (sym e.1) ∙ ap (in_list y) (sym (u.listed n)))
        | inr e ↦ (ap (λ (b : Bool). cond b 0 (L n y)) e.0 ∙ a.listed n y ∙ sym (in_others o.0 y (listed_in h n) e.1) ∙ ap (in_list y) (sym (u.listed n)))
      ];
      holds = λ y q. a.holds y q ∙ ap is_some (sym (u.parts y q));
      joins = λ y ms. a.joins y ms ∙ sym (u.joins y ms);
      alive = λ y q e. a.alive y q (ap is_alive (sym (u.parts y q)) ∙ e);
    }

agrees_after : (h : Heap) (S : Static) (L : Listing) (A : Alive) (o : ℕ) (f : Forest) → Agrees h S L A → Agrees h S L (after A o f)
agrees_after h S L A o f a = record { listed = a.listed; holds = a.holds; joins = a.joins; alive = λ x q e. after_more (x == o) (in_forest q f) (A x q) (a.alive x q e) }

-- Items.
items_seen : {L : Listing} {is : List Item} {js : List storage.Item} (h : Heap) → ((n o : ℕ) → L n o ≡ in_list o (listed_in h n)) → Items L is js → AreItems h is js
items_seen h l no_items = refl
items_seen h l (passed n (declared x) none z more) = items_seen h l more
items_seen h l (passed n (collection access pool) none z more) = absurd none
items_seen h l (passed n (record_object t) {is} {js} none z more) =
    subst (λ (os : List ℕ). IsObject n os (AreItems h is) js) (sym (no_list (listed_in h n) (λ o. sym (l n o) ∙ z o))) (items_seen h l more)
items_seen h l (passed n (storage_pool d p) none z more) = items_seen h l more
items_seen h l (collected n access pool os {is} {js} count more) = (os, js, λ o. count o ∙ l n o, items_seen h l more, refl)
items_seen h l (single n t o {is} {js} count more) =
    subst (λ (os : List ℕ). IsObject n os (AreItems h is) (record { number = n; owned = storage.declared o } ∷ js)) (sym (one_list o (listed_in h n) (λ x. sym (l n x) ∙ count x))) (js, items_seen h l more, refl)

-- Parts of an object that is undone.
numbers_left : (shapes : List Shape) (done : List PartOf) → numbers (parts_left shapes (performing done)) ≡ numbers done
numbers_left shapes [] = refl
numbers_left shapes (p ∷ done) = ap (λ (ns : List ℕ). p.number ∷ ns) (numbers_left shapes done)

-- What comes behind values that end.
abbrev IsEndOrCopy : Frame Value → Type 0
IsEndOrCopy (frame.Ends v) = Unit {0}
IsEndOrCopy (frame.Copies base t) = Unit {0}
IsEndOrCopy f = ⊥

-- No jump goes on by itself.
abbrev IsOther : Frame Value → Type 0
IsOther (frame.Resumes mode) = ⊥
IsOther f = Unit {0}

module _ (types : List TypeDefinition) where
  code_frame : (h : Heap) (f : Frame Value) (behind : Heap → Behind) (ms : List Master) (c : storage.Control) → IsCode f → behind h ms c → IsFrame types h f behind ms c
  code_frame h (frame.Elaborates ds fs hs) behind ms c is b = absurd is
  code_frame h frame.Closes behind ms c is b = absurd is
  code_frame h (frame.Leaves mode) behind ms c is b = absurd is
  code_frame h (frame.Treats v treatment tasks) behind ms c is b = absurd is
  code_frame h (frame.Awaits v by done of part tasks) behind ms c is b = absurd is
  code_frame h (frame.Ends v) behind ms c is b = absurd is
  code_frame h (frame.GivesBack v cause pool) behind ms c is b = absurd is
  code_frame h f behind ms c is b = b

  acts_frame : (h : Heap) (f : Frame Value) (behind : Heap → Behind) (ms : List Master) (c : storage.Control) → is_master f ≡ true → IsActing h (behind h) ms c → IsFrame types h f behind ms c
  acts_frame h (frame.Elaborates ds fs hs) behind ms c is b = b
  acts_frame h frame.Closes behind ms c is b = b
  acts_frame h f behind ms c is b = absurd (cc is)

  -- A treatment that ends values, with what is behind it.
  module _ (h : Heap) (k : Control) (ms : List Master) (l : storage.Control) (o : Id) (behind : IsControl types k h ms l) where
    leaving_seen :
        (m : Master) (js : List storage.Item) (i : ℕ) (pool : Option ℕ) (mode : Mode) (tasks : List Task) (left : List Forest) → AreItems h m.items js → Ends (shapes_of types) left tasks
        → IsControl types (treating (Names o) (ends (Leaving m.number i)) tasks (taking o m.number i pool mode k)) h (m ∷ ms) (storage.finalizes (record { number = suc m.number; items = js }) i o.0 left (mode_seen mode) l)
    leaving_seen m js i pool mode [] left items e =
        let M : storage.Master = record { number = suc m.number; items = js } in
        (left, storage.finalizes M i o.0 [] (mode_seen mode) l, e, (storage.leaves M (mode_seen mode) l, (M, l, (refl, items), behind, refl), refl), refl)
    leaving_seen m js i pool mode (t ∷ ts) left items e =
        let M : storage.Master = record { number = suc m.number; items = js } in (
          storage.finalizes M i o.0 [] (mode_seen mode) l,
          ([], storage.finalizes M i o.0 [] (mode_seen mode) l, refl, (storage.leaves M (mode_seen mode) l, (M, l, (refl, items), behind, refl), refl), refl),
          inl (left, e, refl),
        )

    freeing_seen : (n : ℕ) (pool : Option ℕ) (tasks : List Task) (left : List Forest) → Ends (shapes_of types) left tasks → IsControl types (treating (Names o) (ends (Freeing n)) tasks (giving_up o n pool k)) h ms (storage.frees (suc n) o.0 left l)
    freeing_seen n pool [] left e = (left, storage.frees (suc n) o.0 [] l, e, (l, behind, refl), refl)
    freeing_seen n pool (t ∷ ts) left e = (storage.frees (suc n) o.0 [] l, ([], storage.frees (suc n) o.0 [] l, refl, (l, behind, refl), refl), inl (left, e, refl))

    undoing_seen : (n : ℕ) (pool : Option ℕ) (e : Exception) (done : List PartOf) → IsControl types (treating (Names o) (ends (Undoing n)) (performing done) (undoing o n pool e k)) h ms (storage.undoes (suc n) o.0 (numbers done) l)
    undoing_seen n pool e [] = ([], storage.undoes (suc n) o.0 [] l, refl, (l, behind, refl), refl)
    undoing_seen n pool e (p ∷ done) = (
      storage.undoes (suc n) o.0 [] l,
      ([], storage.undoes (suc n) o.0 [] l, refl, (l, behind, refl), refl),
      inl (ap (λ (ns : List ℕ). storage.undoes (suc n) o.0 ns l) (sym (numbers_left (shapes_of types) (p ∷ done)))),
    )

    module _ (base t first count n : ℕ) (last : Task) (lasts : List Task) where
      abbrev F : Forest
      F = forest_adjusted (shapes_of types) (last ∷ lasts)

      assigning_seen : (tasks : List Task) (left : List Forest) → Ends (shapes_of types) left tasks → IsControl types (treating (Names o) (ends (Assigning n)) tasks (copying o base t first count n last lasts k)) h ms (storage.assigns (suc n) o.0 F left l)
      assigning_seen [] left e = (left, l, e, behind, refl)
      assigning_seen (u ∷ us) left e = (storage.assigns (suc n) o.0 F [] l, ([], l, refl, behind, refl), inl (left, e, refl))

      fails_seen :
          (S : Static) (L : Listing) (A : Alive) (tasks : List Task) (parts : Forest) (qs : List ℕ) (left : List Forest) → Agrees h S L A → Lacks types A o.0 tasks qs → ((p : ℕ) → in_forests p left ≡ in_list p qs)
          → IsControl types (treating (Names o) (ends (Assigning n)) tasks (copying o base t first count n last lasts k)) h ms (storage.assigns (suc n) o.0 parts left l)
      fails_seen S L A [] parts qs left a lacks count = let some = lacks.to_end in absurd (omega (arith, some))
      fails_seen S L A (u ∷ us) parts qs left a lacks count = (
        storage.assigns (suc n) o.0 F [] l,
        ([], l, refl, behind, refl),
        inr (parts, left, lacks_value, refl),
      )
        where
          dead : (b : Bool) → is_alive (part_of (slice_get h o.0) lacks.dead) ≡ b → b ≡ false
          dead true e = let some = lacks.others lacks.dead lacks.to_end (a.alive o.0 lacks.dead e) in let none = lacks.is_dead in absurd (omega (arith, some, none))
          dead false e = refl

          lacks_value : LacksValue types h o.0 (u ∷ us) left
          lacks_value = record {
            dead = lacks.dead;
            to_end = lacks.to_end;
            is_dead = dead (is_alive (part_of (slice_get h o.0) lacks.dead)) refl;
            others = λ p to_end lives. let some = lacks.others p to_end (a.alive o.0 p lives) in let same_one = count p in omega (arith, some, same_one);
          }

  created_begun :
      (h : Heap) (o : Id) (by : Birth) (jobs : List Job) (first : List Job) (done : List PartOf) (tasks : List Task) (k : Control) (ms : List Master) (l : storage.Control) → IsCreated by
      → Begins (shapes_of types) jobs tasks → IsControl types k (on_object parted h (Names o)) ms l
      → IsBegun types h (Names o) by first done tasks ms (IsControl types k) (storage.initializes o.0 (joins_seen (slice_get h o.0) ms) (first ++ jobs) (numbers done) l)
  created_begun h o Creation jobs first done tasks k ms l created b behind = (jobs, l, b, behind, refl)
  created_begun h o Copy jobs first done tasks k ms l created b behind = (jobs, l, b, behind, refl)
  created_begun h o (Adjustment n) jobs first done tasks k ms l created b behind = absurd created

  -- A treatment that waits.
  waits_seen :
      {S : Static} {L : Listing} {A : Alive} {acts : List (Activation Value)} {k l : Control} {ms : List Master} {t : Treating} (c : storage.Control) (h : Heap) → Agrees h S L A
      → Waits types S L A acts ms k l t → ((g : Heap) → Agrees g S (listing_behind L t) (alive_behind A t) → IsControl types k g ms c) → IsControl types l h ms (before t c)
  waits_seen {S} {L} {A} {acts} {k} {l} {ms} c h a (made o by done of part tasks jobs joins created has b is j) again =
      subst (λ (js : storage.Joins). IsBegun types h (Names o) by (storage.called part ∷ []) done tasks ms (IsControl types k) (storage.initializes o.0 js (storage.called part ∷ jobs) (numbers done) c)) (sym (a.joins o.0 ms) ∙ is)
      (created_begun h o by jobs (storage.called part ∷ []) done tasks k ms c created b (again (on_object parted h (Names o)) (agrees_parted h S L A o part has a)))
  waits_seen {S} {L} {A} c h a (adjusted o n done of part tasks f jobs has b) again = (f, jobs, c, b, again h (agrees_after h S L A o.0 f a), refl)
  waits_seen {k = k} {ms = ms} c h a (freed o n pool tasks left dead has none e is) again =
      subst (λ (l : Control). IsControl types l h ms (storage.frees (suc n) o.0 left c)) (sym is) (freeing_seen h k ms c o (again h (record { listed = a.listed; holds = a.holds; joins = a.joins; alive = a.alive })) n pool tasks left e)
  waits_seen {k = k} {ms = ms} c h a (undone o n pool e done dead has none is) again =
      subst (λ (l : Control). IsControl types l h ms (storage.undoes (suc n) o.0 (numbers done) c)) (sym is) (undoing_seen h k ms c o (again h (record { listed = a.listed; holds = a.holds; joins = a.joins; alive = a.alive })) n pool e done)
  waits_seen {S} {L} {A} {acts} {k} {l} {ms} c h a (assigned_to o p us base t first count n last lasts tasks left dead has some none newest rec e is) again =
      let F = forest_adjusted (shapes_of types) (last ∷ lasts) in
      subst (λ (l : Control). IsControl types l h ms (storage.assigns (suc n) o.0 F left c)) (sym is)
      (assigning_seen h k ms c o (again h (agrees_after h S L A o.0 F a)) base t first count n last lasts tasks left e)
  waits_seen {S} {L} {A} {acts} {k} {l} {ms} c h a (failing o p us base t first count n last lasts tasks parts qs dead has some none newest rec lacks is) again =
      subst (λ (l : Control). IsControl types l h ms (storage.assigns (suc n) o.0 (beside parts) (storage.none ∷ beside qs ∷ []) c)) (sym is)
      (fails_seen h k ms c o (again h (agrees_after h S L A o.0 (beside parts) a)) base t first count n last lasts S L A tasks (beside parts) qs (storage.none ∷ beside qs ∷ []) a lacks (λ q. let e = in_beside q qs in omega (arith, e)))

  -- All that is left to do.
  reads_seen :
      {S : Static} {w : Bool} {L : Listing} {A : Alive} {acts : List (Activation Value)} {k : Control} {ms : List Master} {c : storage.Control} (h : Heap) → Agrees h S L A
      → Reads types S w L A acts k ms c → IsControl types k h ms c
  reads_seen h a nothing = refl
  reads_seen h a (code {f = f} {k = k} {ms = ms} {M = M} {c = c} is rest) = code_frame h f (IsControl types k) ms (storage.acts M c) is (reads_seen h a rest)
  reads_seen h a (calls actuals references rest) = reads_seen h a rest
  reads_seen h a (enters f {k = k} m {ms = ms} {js = js} {c = c} is items rest) =
      acts_frame h f (IsControl types k) (m ∷ ms) (storage.acts (record { number = suc m.number; items = js }) c) is
      (record { number = suc m.number; items = js }, c, (refl, items_seen h a.listed items), reads_seen h a rest, refl)
  reads_seen h a (operates rest) = reads_seen h a rest
  reads_seen h a (treats_behind {l = l} {ms = ms} {c = c} t waits acting rest is) =
      subst (λ (d : storage.Control). IsControl types l h ms d) (sym is) (waits_seen c h a waits (λ g b. reads_seen g b rest))
  reads_seen h a (leaves_behind {k = k} o i pool mode tasks left dead m {ms = ms} {js = js} {c = c} has none e items rest is) =
      subst (λ (l : Control). IsControl types l h (m ∷ ms) (storage.finalizes (record { number = suc m.number; items = js }) i o.0 left (mode_seen mode) c)) (sym is)
      (leaving_seen h k ms c o (reads_seen h a rest) m js i pool mode tasks left (items_seen h a.listed items) e)

  -- What comes first is no treatment that begins values.
  code_under : (h : Heap) (f : Frame Value) (k : Control) (ms : List Master) (c : storage.Control) → IsCode f → IsControl types (f ∷ k) h ms c → IsUnderWay types h (f ∷ k) ms c
  code_under h (frame.Treats v treatment tasks) k ms c is b = absurd is
  code_under h f k ms c is b = b

  master_under : (h : Heap) (f : Frame Value) (k : Control) (ms : List Master) (c : storage.Control) → is_master f ≡ true → IsControl types (f ∷ k) h ms c → IsUnderWay types h (f ∷ k) ms c
  master_under h (frame.Treats v treatment tasks) k ms c is b = absurd (cc is)
  master_under h f k ms c is b = b

  waits_under :
      {S : Static} {L : Listing} {A : Alive} {acts : List (Activation Value)} {k l : Control} {ms : List Master} {t : Treating} (h : Heap) (c : storage.Control)
      → Waits types S L A acts ms k l t → IsControl types l h ms c → IsUnderWay types h l ms c
  waits_under h c (made o by done of part tasks jobs joins created has b is j) seen = seen
  waits_under h c (adjusted o n done of part tasks f jobs has b) seen = seen
  waits_under h c (freed o n pool tasks left dead has none e is) seen = seen
  waits_under h c (undone o n pool e done dead has none is) seen = seen
  waits_under h c (assigned_to o p us base t first count n last lasts tasks left dead has some none newest rec e is) seen = seen
  waits_under h c (failing o p us base t first count n last lasts tasks parts qs dead has some none newest rec lacks is) seen = seen

  reads_under :
      {S : Static} {w : Bool} {L : Listing} {A : Alive} {acts : List (Activation Value)} {k : Control} {ms : List Master} {c : storage.Control} (h : Heap)
      → Reads types S w L A acts k ms c → IsControl types k h ms c → IsUnderWay types h k ms c
  reads_under h nothing seen = seen
  reads_under h (code {f = f} {k = k} {ms = ms} {M = M} {c = c} is rest) seen = code_under h f k ms (storage.acts M c) is seen
  reads_under h (calls actuals references rest) seen = seen
  reads_under h (enters f {k = k} m {ms = ms} {js = js} {c = c} is items rest) seen = master_under h f k (m ∷ ms) (storage.acts (record { number = suc m.number; items = js }) c) is seen
  reads_under h (operates rest) seen = seen
  reads_under h (treats_behind {c = c} {d = d} t waits acting rest is) seen = waits_under h d waits seen
  reads_under h (leaves_behind o i pool mode tasks left dead m has none e items rest is) seen = seen

  ends_under : (h : Heap) (v : Value) (cause : Cause) (tasks : List Task) (f : Frame Value) (k : Control) (ms : List Master) (c : storage.Control) → IsEndOrCopy f → IsControl types (treating v (ends cause) tasks (f ∷ k)) h ms c → IsUnderWay types h (treating v (ends cause) tasks (f ∷ k)) ms c
  ends_under h v cause [] (frame.Ends w) k ms c is seen = seen
  ends_under h v cause [] (frame.Copies base t) k ms c is seen = seen
  ends_under h v cause [] f k ms c is seen = absurd (is)
  ends_under h v cause (t ∷ ts) f k ms c is seen = seen

  -- A record that is found, or passed.
  path_seen : {vs : List Value} {has : Bool} {rest l : Control} (h g : Heap) (ms : List Master) (c : storage.Control) → Path vs g has rest l → IsControl types rest h ms c → IsUnderWay types h l ms c
  path_seen h g ms c (at_path p kept) seen = seen
  path_seen h g ms c (on_path cs place t kept) seen = seen
  path_seen h g ms c (off_path place t kept) seen = seen

  rest_seen : (h : Heap) (ms : List Master) (has : Bool) (source : RecordPathForm) (t : ℕ) (k : Control) (c : storage.Control) → IsControl types k h ms c → IsControl types (still_found has source t k) h ms c
  rest_seen h ms false source t k c seen = seen
  rest_seen h ms true source t k c seen = seen

  passed_seen : {k l : Control} (h : Heap) (ms : List Master) (c : storage.Control) → Passed k l → IsControl types k h ms c → IsControl types l h ms c
  passed_seen h ms c stands.passed seen = seen
  passed_seen h ms c (stands.passes_path p later) seen = passed_seen h ms c later seen
  passed_seen h ms c (stands.passes_record place t later) seen = passed_seen h ms c later seen
  passed_seen h ms c (stands.passes_assignment t later) seen = passed_seen h ms c later seen

  passed_under : {k l : Control} (h : Heap) (ms : List Master) (c : storage.Control) → Passed k l → IsUnderWay types h k ms c → IsControl types l h ms c → IsUnderWay types h l ms c
  passed_under h ms c stands.passed first seen = first
  passed_under h ms c (stands.passes_path p later) first seen = seen
  passed_under h ms c (stands.passes_record place t later) first seen = seen
  passed_under h ms c (stands.passes_assignment t later) first seen = seen

  beside_counts : (qs : List ℕ) (left : List Forest) → AreBeside qs left → (p : ℕ) → in_forests p left ≡ in_list p qs
  beside_counts qs left (inl e) p = let d = ap (in_forests p) e in let f = in_beside p qs in omega (arith, d, f)
  beside_counts qs left (inr e) p = let d = ap (in_forests p) e in let f = in_beside p qs in omega (arith, d, f)

  module _ (h : Heap) (A : Alive) (acts : List (Activation Value)) (alive : (o p : ℕ) → A o p ≡ is_alive (part_of (slice_get h o) p)) where
    as_is : Agrees h (static h) (listing h) A
    as_is = record { listed = λ n o. refl; holds = λ o p. refl; joins = λ o ms. refl; alive = λ o p e. alive o p ∙ e }

    agrees_but : (o : Id) (x : Object) → slice_get h o.0 ≡ Some x → Agrees (on_object parted h (Names o)) (static h) (but o.0 (listing h)) A
    agrees_but o x there =
        let u = unlists_parted h o x there in
        record {
          listed = λ n y. elim (eqb_tells y o.0) [
            | inl e ↦ (ap (λ (b : Bool). cond b 0 (listing h n y)) e.0 ∙ sym (in_without o.0 (listed_in h n)) ∙ ap (λ (z : ℕ). in_list z (without o.0 (listed_in h n))) (sym e.1) ∙ ap (in_list y) (sym (u.listed n)))
            | inr e ↦ (ap (λ (b : Bool). cond b 0 (listing h n y)) e.0 ∙ sym (in_others o.0 y (listed_in h n) e.1) ∙ ap (in_list y) (sym (u.listed n)))
          ];
          holds = λ y q. ap is_some (sym (u.parts y q));
          joins = λ y ms. sym (u.joins y ms);
          alive = λ y q e. alive y q ∙ ap is_alive (sym (u.parts y q)) ∙ e;
        }

    after_is : (o : ℕ) (f : Forest) → Agrees h (static h) (listing h) (after A o f)
    after_is o f = agrees_after h (static h) (listing h) A o f as_is

    pub stands_seen : {ms : List Master} {mode : Mode} {k : Control} {c : storage.Control} {md : storage.Mode} → Stands types h A acts ms mode k c md → IsUnderWay types h k ms c
    stands_seen (stands.codes rest) = reads_under h rest (reads_seen h as_is rest)
    stands_seen (stands.waits rest) = reads_under h rest (reads_seen h as_is rest)
    stands_seen (stands.leaving mode m {ms} {js} {c} items rest) = (record { number = suc m.number; items = js }, c, (refl, items_seen h (λ n o. refl) items), reads_seen h as_is rest, refl)
    stands_seen (stands.taken o i pool mode tasks left {k = k} m {ms = ms} {js = js} {c = c} e items rest is) =
        subst (λ (l : Control). IsUnderWay types h l (m ∷ ms) (storage.finalizes (record { number = suc m.number; items = js }) i o.0 left (mode_seen mode) c)) (sym is)
        (ends_under h (Names o) (Leaving m.number i) tasks (frame.Ends (Names o)) _ (m ∷ ms) _ tt (leaving_seen h k ms c o (reads_seen h as_is rest) m js i pool mode tasks left (items_seen h (λ n o. refl) items) e))
    stands_seen (stands.taken_gone o x i pool mode m {ms = ms} {js = js} {c = c} there gone items rest) =
        let M : storage.Master = record { number = suc m.number; items = js } in
        (storage.leaves M (mode_seen mode) c, (M, c, (refl, items_seen h (λ n o. refl) items), reads_seen h as_is rest, refl), refl)
    stands_seen (stands.freed o n pool tasks left {k = k} {ms = ms} {c = c} e acting rest is) =
        subst (λ (l : Control). IsUnderWay types h l ms (storage.frees (suc n) o.0 left c)) (sym is)
        (ends_under h (Names o) (Freeing n) tasks (frame.Ends (Names o)) _ ms _ tt (freeing_seen h k ms c o (reads_seen h as_is rest) n pool tasks left e))
    stands_seen (stands.freed_gone o x n pool {c = c} there gone acting rest) = (c, reads_seen h as_is rest, refl)
    stands_seen (stands.undone o n pool e done {k = k} {ms = ms} {c = c} acting rest is) =
        subst (λ (l : Control). IsUnderWay types h l ms (storage.undoes (suc n) o.0 (numbers done) c)) (sym is)
        (ends_under h (Names o) (Undoing n) (performing done) (frame.Ends (Names o)) _ ms _ tt (undoing_seen h k ms c o (reads_seen h as_is rest) n pool e done))
    stands_seen (stands.undone_gone o x n pool e {c = c} there gone acting rest) = (c, reads_seen h as_is rest, refl)
    stands_seen (stands.resuming e rest) = reads_seen h as_is rest
    stands_seen (stands.beginning o x by done task tasks jobs joins {k = k} {ms = ms} {c = c} created there b is j acting rest) =
        subst (λ (js : storage.Joins). IsBegun types h (Names o) by [] done (task ∷ tasks) ms (IsControl types k) (storage.initializes o.0 js jobs (numbers done) c)) is
        (created_begun h o by jobs [] done (task ∷ tasks) k ms c created b (reads_seen (on_object parted h (Names o)) (agrees_but o x there) rest))
    stands_seen (stands.adjusting o n done task tasks f jobs {c = c} b acting rest) = (f, jobs, c, b, reads_seen h (after_is o.0 f) rest, refl)
    stands_seen (stands.assigning o p us base t first count n last lasts tasks left {k = k} {ms = ms} {c = c} newest rec e acting rest is) =
        let F = forest_adjusted (shapes_of types) (last ∷ lasts) in
        subst (λ (l : Control). IsUnderWay types h l ms (storage.assigns (suc n) o.0 F left c)) (sym is)
        (ends_under h (Names o) (Assigning n) tasks (frame.Copies base t) _ ms _ tt (assigning_seen h k ms c o (reads_seen h (after_is o.0 F) rest) base t first count n last lasts tasks left e))
    stands_seen (stands.storing o first count n last lasts left {c = c} rec e acting rest) = (left, c, e, reads_seen h (after_is o.0 (forest_adjusted (shapes_of types) (last ∷ lasts))) rest, refl)
    stands_seen (stands.failing o p us base t first count n last lasts tasks parts qs left {k = k} {ms = ms} {c = c} newest rec lacks are acting rest is) =
        subst (λ (l : Control). IsUnderWay types h l ms (storage.assigns (suc n) o.0 (beside parts) left c)) (sym is)
        (ends_under h (Names o) (Assigning n) tasks (frame.Copies base t) _ ms _ tt (fails_seen h k ms c o (reads_seen h (after_is o.0 (beside parts)) rest) base t first count n last lasts (static h) (listing h) A tasks (beside parts) qs left as_is lacks (beside_counts qs left are)))
    stands_seen (stands.finding has source t {k = k} {ms = ms} {M = M} {c = c} path rest) =
        path_seen h h ms (storage.acts M c) path (rest_seen h ms has source t k (storage.acts M c) (reads_seen h as_is rest))
    stands_seen (stands.records_found t kept rest) = reads_seen h as_is rest
    stands_seen (stands.passing e {ms = ms} {M = M} {c = c} over rest) =
        let seen = reads_seen h as_is rest in
        passed_under h ms (storage.acts M c) over (reads_under h rest seen) (passed_seen h ms (storage.acts M c) over seen)

-- The mode.
code_mode : (mode : Mode) (f : Frame Value) (k : Control) → IsCode f → mode_after mode (f ∷ k) ≡ mode
code_mode Running (frame.Resumes mode) k is = absurd is
code_mode Running f k is = refl
code_mode (Raising e) f k is = refl
code_mode Exiting f k is = refl
code_mode Returning f k is = refl

master_mode : (mode : Mode) (f : Frame Value) (k : Control) → is_master f ≡ true → mode_after mode (f ∷ k) ≡ mode
master_mode Running (frame.Resumes mode) k is = absurd (cc is)
master_mode Running f k is = refl
master_mode (Raising e) f k is = refl
master_mode Exiting f k is = refl
master_mode Returning f k is = refl

none_mode : (mode : Mode) → mode_after mode [] ≡ mode
none_mode Running = refl
none_mode (Raising e) = refl
none_mode Exiting = refl
none_mode Returning = refl

other_mode : (mode : Mode) (f : Frame Value) (k : Control) → IsOther f → mode_after mode (f ∷ k) ≡ mode
other_mode Running (frame.Resumes mode) k is = absurd is
other_mode Running f k is = refl
other_mode (Raising e) f k is = refl
other_mode Exiting f k is = refl
other_mode Returning f k is = refl

reads_mode :
    {types : List TypeDefinition} {S : Static} {w : Bool} {L : Listing} {A : Alive} {acts : List (Activation Value)} {k : Control} {ms : List Master} {c : storage.Control} (mode : Mode)
    → Reads types S w L A acts k ms c → mode_after mode k ≡ mode
reads_mode mode nothing = none_mode mode
reads_mode mode (code {f = f} {k = k} is rest) = code_mode mode f k is
reads_mode mode (calls actuals references {k = k} rest) = other_mode mode (frame.Returns actuals references) k tt
reads_mode mode (enters f {k = k} m is items rest) = master_mode mode f k is
reads_mode mode (operates {k = k} rest) = other_mode mode (frame.Returns [] []) k tt
reads_mode mode (treats_behind t (made o by done of part tasks jobs joins created has b is j) acting rest e) = other_mode mode (frame.Awaits (Names o) by done of part tasks) _ tt
reads_mode mode (treats_behind t (adjusted o n done of part tasks f jobs has b) acting rest e) = other_mode mode (frame.Awaits (Names o) (Adjustment n) done of part tasks) _ tt
reads_mode mode (treats_behind t (freed o n pool tasks left dead has none some_left is) acting rest e) = other_mode mode frame.Confines _ tt
reads_mode mode (treats_behind t (undone o n pool ex done dead has none is) acting rest e) = other_mode mode frame.Confines _ tt
reads_mode mode (treats_behind t (assigned_to o p us base u first count n last lasts tasks left dead has some none newest rec some_left is) acting rest e) = other_mode mode frame.Confines _ tt
reads_mode mode (treats_behind t (failing o p us base u first count n last lasts tasks parts qs dead has some none newest rec lacks is) acting rest e) = other_mode mode frame.Confines _ tt
reads_mode mode (leaves_behind o i pool md tasks left dead m has none some_left items rest is) = other_mode mode frame.Confines _ tt

ends_mode : (v : Value) (cause : Cause) (tasks : List Task) (f : Frame Value) (k : Control) → IsEndOrCopy f → mode_after Running (treating v (ends cause) tasks (f ∷ k)) ≡ Running
ends_mode v cause [] (frame.Ends w) k is = refl
ends_mode v cause [] (frame.Copies base t) k is = refl
ends_mode v cause [] f k is = absurd is
ends_mode v cause (t ∷ ts) f k is = refl

path_mode : {vs : List Value} {h : Heap} {has : Bool} {rest l : Control} → Path vs h has rest l → mode_after Running l ≡ Running
path_mode (at_path p kept) = refl
path_mode (on_path cs place t kept) = refl
path_mode (off_path place t kept) = refl

pub stands_mode :
    {types : List TypeDefinition} {h : Heap} {A : Alive} {acts : List (Activation Value)} {ms : List Master} {mode : Mode} {k : Control} {c : storage.Control} {md : storage.Mode}
    → Stands types h A acts ms mode k c md → md ≡ mode_seen (mode_after mode k)
stands_mode {mode = mode} (stands.codes rest) = ap mode_seen (sym (reads_mode mode rest))
stands_mode {mode = mode} (stands.waits rest) = ap mode_seen (sym (reads_mode mode rest))
stands_mode (stands.leaving mode m items rest) = refl
stands_mode (stands.taken o i pool mode tasks left m e items rest is) = ap mode_seen (sym (ap (mode_after Running) is ∙ ends_mode (Names o) (Leaving m.number i) tasks (frame.Ends (Names o)) _ tt))
stands_mode (stands.taken_gone o x i pool mode m there gone items rest) = refl
stands_mode (stands.freed o n pool tasks left e acting rest is) = ap mode_seen (sym (ap (mode_after Running) is ∙ ends_mode (Names o) (Freeing n) tasks (frame.Ends (Names o)) _ tt))
stands_mode (stands.freed_gone o x n pool there gone acting rest) = refl
stands_mode (stands.undone o n pool e done acting rest is) = ap mode_seen (sym (ap (mode_after Running) is ∙ ends_mode (Names o) (Undoing n) (performing done) (frame.Ends (Names o)) _ tt))
stands_mode (stands.undone_gone o x n pool e there gone acting rest) = refl
stands_mode (stands.resuming e rest) = refl
stands_mode (stands.beginning o x by done task tasks jobs joins created there b is j acting rest) = refl
stands_mode (stands.adjusting o n done task tasks f jobs b acting rest) = refl
stands_mode (stands.assigning o p us base t first count n last lasts tasks left newest rec e acting rest is) = ap mode_seen (sym (ap (mode_after Running) is ∙ ends_mode (Names o) (Assigning n) tasks (frame.Copies base t) _ tt))
stands_mode (stands.storing o first count n last lasts left rec e acting rest) = refl
stands_mode (stands.failing o p us base t first count n last lasts tasks parts qs left newest rec lacks are acting rest is) = ap mode_seen (sym (ap (mode_after Running) is ∙ ends_mode (Names o) (Assigning n) tasks (frame.Copies base t) _ tt))
stands_mode (stands.finding has source t path rest) = ap mode_seen (sym (path_mode path))
stands_mode (stands.records_found t kept rest) = refl
stands_mode (stands.passing e over rest) = refl
