-- What an event tells, what it leaves behind for good, and what two events say of each other.

use Rattle.std.proofs.Common.{◌≡◌, ◌≢◌, ◌⊎◌, ℕ, ◌+◌, ◌<◌, ◌≤◌, true, false, List, ◌∷◌, length, Option, Some, None, refl, sym, ap, ◌∙◌, inl, inr, subst, arith}
use Rattle.std.specs.List.{slice_get, Contains}
use Rattle.std.proofs.lemmas.Bool.Decides.{eqb_tells}
use Rattle.ada_program.specs.declared.program.TypeDefinition.{TypeDefinition}
use Rattle.ada_program.specs.Controlled.{shapes_of}
use Rattle.ada_parts.specs.Shape.{Shape}
use Rattle.ada_parts.specs.Part.{Part, LiesIn, parts_at}
use Rattle.ada_parts.specs.Task.{Task, performs}
use Rattle.ada_parts.specs.Law.{parts_left}
use Rattle.ada_meaning.specs.declared.state.Id.{Id}
use Rattle.ada_meaning.specs.declared.state.Value.{Value}
use Rattle.ada_meaning.specs.declared.state.Value.TheVariants.{Names}
use Rattle.ada_meaning.specs.declared.event.Birth.TheVariants.{Adjustment}
use Rattle.ada_meaning.specs.declared.event.Cause.{Cause}
use Rattle.ada_meaning.specs.declared.event.Cause.TheVariants.{Leaving, Freeing, Assigning, Undoing}
use Rattle.ada_meaning.specs.Event.{Born, Finalized, Back, Followed, Left, Line, Quiet}
use Rattle.ada_meaning.specs.Frame.{Treatment, begins, ends}
use Rattle.ada_meaning.specs.Named.{Object, State}
use Rattle.ada_meaning.specs.Run.{Event}
use Rattle.ada_meaning.specs.Law.{ControlledValue, back_of, finalized_of, cause_of, Between, FinalizedTwoValues, Happened}
use Rattle.ada_meaning.specs.Life.{KeepsObjects}
use Rattle.ada_meaning.specs.Finalization.{born_of, object_in, BornTwoValues, BornBeforeFinalized, NothingAfterBack, BegunPart, begun_of, EndedPart, ended_of, NotInside, PartsComeFirst, NotAround, WholesComeFirst, adjusted_by, adjusted_of, assigned_by, EndsBeforeItAdjusts}
use Rattle.ada_finalized.proofs.Counts.{count}
use Rattle.ada_finalized.proofs.Going.{one_here}
use Rattle.ada_finalized.proofs.Ranks.{Heap, rank_at, rise, rise_or, rise_self}
use Rattle.ada_finalized.proofs.Doings.{name, doings, Key, begin, end, number_of, IsLeft, OfTreatments, of_left, treatments_map}
use Rattle.ada_finalized.proofs.Invariant.{Numbered, begun_part, Origin, goes_on, creates, adjusts, clears, parts, Untold, IsOut, IsUnlisted, NoneInside, NotLeft, NotCleared, Caused, caused_on, out_kept, length_kept, Told, still, bears, finalizes}

-- A value of a part, by how often the part had one before.
abbrev pub value : (object part turn : ℕ) → ControlledValue
value o n turn = record { object = record { 0 = o }; part = n; turn = turn }

-- Events that tell of no part.
untold_born : (e : Event) → Untold e → born_of e ≡ None
untold_born (Born object part turn type number by) h = absurd h
untold_born (Finalized object part turn type number cause) h = absurd h
untold_born (Back object access number pool subpool cause) h = refl
untold_born (Followed object) h = refl
untold_born (Left master) h = refl
untold_born (Line line) h = refl
untold_born Quiet h = refl

untold_finalized : (e : Event) → Untold e → finalized_of e ≡ None
untold_finalized (Born object part turn type number by) h = absurd h
untold_finalized (Finalized object part turn type number cause) h = absurd h
untold_finalized (Back object access number pool subpool cause) h = refl
untold_finalized (Followed object) h = refl
untold_finalized (Left master) h = refl
untold_finalized (Line line) h = refl
untold_finalized Quiet h = refl

untold_begun : (e : Event) → Untold e → begun_of e ≡ None
untold_begun (Born object part turn type number by) h = absurd h
untold_begun (Finalized object part turn type number cause) h = absurd h
untold_begun (Back object access number pool subpool cause) h = refl
untold_begun (Followed object) h = refl
untold_begun (Left master) h = refl
untold_begun (Line line) h = refl
untold_begun Quiet h = refl

untold_ended : (e : Event) → Untold e → ended_of e ≡ None
untold_ended (Born object part turn type number by) h = absurd h
untold_ended (Finalized object part turn type number cause) h = absurd h
untold_ended (Back object access number pool subpool cause) h = refl
untold_ended (Followed object) h = refl
untold_ended (Left master) h = refl
untold_ended (Line line) h = refl
untold_ended Quiet h = refl

untold_adjusted : (e : Event) → Untold e → adjusted_of e ≡ None
untold_adjusted (Born object part turn type number by) h = absurd h
untold_adjusted (Finalized object part turn type number cause) h = absurd h
untold_adjusted (Back object access number pool subpool cause) h = refl
untold_adjusted (Followed object) h = refl
untold_adjusted (Left master) h = refl
untold_adjusted (Line line) h = refl
untold_adjusted Quiet h = refl

-- What is there is one thing.
some_is : {X : Type 0} (P : X → Type 0) (found : Option X) (x y : X) → found ≡ Some x → found ≡ Some y → P x → P y
some_is P found x y a b p = let both : Some x ≡ Some y = sym a ∙ b in let one : x ≡ y = cc both in subst P one p

nothing_is : {X : Type 0} {P : Type 0} (found : Option X) (y : X) → found ≡ None → found ≡ Some y → P
nothing_is found y a b = let both : None ≡ Some y = sym a ∙ b in absurd (cc both)

-- What an event tells of the value that comes to exist, or is finalized.
pub record BornAt (xs ys : Heap) (v : ControlledValue) : Type 0 where
  pub before : rank_at xs v.object.0 v.part ≡ v.turn + v.turn
  pub after : rank_at ys v.object.0 v.part ≡ v.turn + v.turn + 1
  pub out : IsOut xs v.object.0 true

pub record FinalizedAt (xs ys : Heap) (v : ControlledValue) : Type 0 where
  pub before : rank_at xs v.object.0 v.part ≡ v.turn + v.turn + 1
  pub after : rank_at ys v.object.0 v.part ≡ v.turn + v.turn + 2
  pub out : IsOut xs v.object.0 true

-- The part that comes to have a value, by what is left to do: nothing that lies in it is left then, as under its creation or assignment it has all begun.
pub record BegunAt (types : List TypeDefinition) (past : List Event) (s after : State) (b : BegunPart) : Type 0 where
  pub numbered : Numbered (adjusted_by b.by) after.next
  pub there : b.treated.object.0 < length after.heap
  pub done : List Part
  pub behind : List Task
  pub left : IsLeft (name b.treated.object.0) (begins b.by done) (performs b.treated.part.of b.treated.part.number ∷ behind) (doings s.control)
  pub none_inside : OfTreatments (NoneInside (shapes_of types) b) (doings after.control)
  pub inside :
      (p : Part) → LiesIn (shapes_of types) p.number b.treated.part → Contains (parts_at (shapes_of types) b.treated.part.of b.treated.part.number) p
      → Happened (λ f. begun_of f ≡ Some (record { treated = record { object = b.treated.object; part = p }; by = b.by })) past

-- The part whose value is finalized: all that lies in it is left.
pub record EndedAt (types : List TypeDefinition) (s after : State) (t : EndedPart) : Type 0 where
  pub caused : Caused t.treated.object.0 t.cause after.heap after.next
  pub behind : List Task
  pub left : IsLeft (name t.treated.object.0) (ends t.cause) (performs t.treated.part.of t.treated.part.number ∷ behind) (doings s.control)
  pub not_left : OfTreatments (NotLeft (shapes_of types) t) (doings after.control)
  pub inside : (m : ℕ) → LiesIn (shapes_of types) m t.treated.part → 1 ≤ count m (parts_left (shapes_of types) behind)

-- What an assignment adjusts, and what it finalizes.
pub record AdjustedAt (after : State) (n : ℕ) : Type 0 where
  pub numbered : n < after.next
  pub cleared : OfTreatments (NotCleared n) (doings after.control)

pub record AssignedAt (s : State) (n : ℕ) : Type 0 where
  pub object : ℕ
  pub tasks : List Task
  pub left : IsLeft (name object) (ends (Assigning n)) tasks (doings s.control)

one_more : (xs ys : Heap) (o n : ℕ) → ((j m : ℕ) → rank_at ys j m ≡ rank_at xs j m + rise o n j m) → rank_at ys o n ≡ rank_at xs o n + 1
one_more xs ys o n ranks = let a = ranks o n in let b = rise_self o n in omega (arith, a, b)

-- The cause that has this number.
assigning_is : (c : Cause) (n : ℕ) → assigned_by (Some c) ≡ Some n → c ≡ Assigning n
assigning_is (Leaving master item) n is = absurd (cc is)
assigning_is (Freeing number) n is = absurd (cc is)
assigning_is (Assigning number) n is = let one : number ≡ n = cc is in ap Assigning one
assigning_is (Undoing number) n is = absurd (cc is)

module _ (types : List TypeDefinition) (past : List Event) (s : State) (e : Event) (after : State) where
  pub born_at : (v : ControlledValue) → Told types past s e after → born_of e ≡ Some v → BornAt s.heap after.heap v
  born_at v (still untold own ranks back) is = nothing_is (born_of e) v (untold_born e untold) is
  born_at v (bears o n of turn number by done behind e_is rank ranks out there numbered left none not_cleared inside) is =
      some_is (BornAt s.heap after.heap) (born_of e) (value o n turn) v (ap born_of e_is) is
      (record { before = rank; after = (let a = one_more s.heap after.heap o n ranks in omega (arith, a, rank)); out = out })
  born_at v (finalizes o n of turn number cause behind e_is rank ranks out caused left not_left inside) is = nothing_is (born_of e) v (ap born_of e_is) is

  pub finalized_at : (v : ControlledValue) → Told types past s e after → finalized_of e ≡ Some v → FinalizedAt s.heap after.heap v
  finalized_at v (still untold own ranks back) is = nothing_is (finalized_of e) v (untold_finalized e untold) is
  finalized_at v (bears o n of turn number by done behind e_is rank ranks out there numbered left none not_cleared inside) is =
      nothing_is (finalized_of e) v (ap finalized_of e_is) is
  finalized_at v (finalizes o n of turn number cause behind e_is rank ranks out caused left not_left inside) is =
      some_is (FinalizedAt s.heap after.heap) (finalized_of e) (value o n turn) v (ap finalized_of e_is) is
      (record { before = rank; after = (let a = one_more s.heap after.heap o n ranks in omega (arith, a, rank)); out = out })

  pub begun_at : (b : BegunPart) → Told types past s e after → begun_of e ≡ Some b → BegunAt types past s after b
  begun_at b (still untold own ranks back) is = nothing_is (begun_of e) b (untold_begun e untold) is
  begun_at b (bears o n of turn number by done behind e_is rank ranks out there numbered left none not_cleared inside) is =
      some_is (BegunAt types past s after) (begun_of e) (begun_part o (record { of = of; number = n }) by) b (ap begun_of e_is) is
      (record { numbered = numbered; there = there; done = done; behind = behind; left = left; none_inside = none; inside = inside })
  begun_at b (finalizes o n of turn number cause behind e_is rank ranks out caused left not_left inside) is = nothing_is (begun_of e) b (ap begun_of e_is) is

  pub ended_at : (t : EndedPart) → Told types past s e after → ended_of e ≡ Some t → EndedAt types s after t
  ended_at t (still untold own ranks back) is = nothing_is (ended_of e) t (untold_ended e untold) is
  ended_at t (bears o n of turn number by done behind e_is rank ranks out there numbered left none not_cleared inside) is = nothing_is (ended_of e) t (ap ended_of e_is) is
  ended_at t (finalizes o n of turn number cause behind e_is rank ranks out caused left not_left inside) is =
      some_is (EndedAt types s after) (ended_of e) (record { treated = record { object = record { 0 = o }; part = record { of = of; number = n } }; cause = cause }) t
      (ap ended_of e_is) is (record { caused = caused; behind = behind; left = left; not_left = not_left; inside = inside })

  adjusted_at : (n : ℕ) → Told types past s e after → adjusted_of e ≡ Some n → AdjustedAt after n
  adjusted_at n (still untold own ranks back) is = nothing_is (adjusted_of e) n (untold_adjusted e untold) is
  adjusted_at n (bears o m of turn number by done behind e_is rank ranks out there numbered left none not_cleared inside) is =
      record { numbered = numbered n (sym (ap adjusted_of e_is) ∙ is); cleared = not_cleared n (sym (ap adjusted_of e_is) ∙ is) }
  adjusted_at n (finalizes o m of turn number cause behind e_is rank ranks out caused left not_left inside) is = nothing_is (adjusted_of e) n (ap adjusted_of e_is) is

  assigned_at : (n : ℕ) → Told types past s e after → assigned_by (cause_of e) ≡ Some n → AssignedAt s n
  assigned_at n (still untold own ranks back) is = nothing_is (assigned_by (cause_of e)) n own is
  assigned_at n (bears o m of turn number by done behind e_is rank ranks out there numbered left none not_cleared inside) is =
      nothing_is (assigned_by (cause_of e)) n (ap (λ (f : Event). assigned_by (cause_of f)) e_is) is
  assigned_at n (finalizes o m of turn number cause behind e_is rank ranks out caused left not_left inside) is =
      let by = assigning_is cause n (sym (ap (λ (f : Event). assigned_by (cause_of f)) e_is) ∙ is) in
      record { object = o; tasks = performs of m ∷ behind; left = subst (λ (c : Cause). IsLeft (name o) (ends c) (performs of m ∷ behind) (doings s.control)) by left }

  -- Ranks never fall.
  rank_grows : Told types past s e after → (j m : ℕ) → rank_at s.heap j m ≤ rank_at after.heap j m
  rank_grows (still untold own ranks back) j m = let a = ranks j m in omega (arith, a)
  rank_grows (bears o n of turn number by done behind e_is rank ranks out there numbered left none not_cleared inside) j m = let a = ranks j m in omega (arith, a)
  rank_grows (finalizes o n of turn number cause behind e_is rank ranks out caused left not_left inside) j m = let a = ranks j m in omega (arith, a)

  -- A value that exists after a step has come to exist in it, or before; and it is there after it, or has been finalized in it.
  pub told_born : (o n turn : ℕ) → Told types past s e after → turn + turn + 1 ≤ rank_at after.heap o n → (turn + turn + 1 ≤ rank_at s.heap o n) ⊎ (born_of e ≡ Some (value o n turn))
  told_born o n turn (still untold own ranks back) some = inl (let a = ranks o n in omega (arith, a, some))
  told_born o n turn (bears j m of turn' number by done behind e_is rank ranks out there numbered left none not_cleared inside) some =
      elim (rise_or j m o n) [
        | inl h ↦ inl (let a = ranks o n in omega (arith, a, some, h))
        | inr h ↦ here h.0 h.1 h.2
      ]
    where
      here : rise j m o n ≡ 1 → j ≡ o → m ≡ n → (turn + turn + 1 ≤ rank_at s.heap o n) ⊎ (born_of e ≡ Some (value o n turn))
      here one same_o same_n =
          let before = subst (λ (i : ℕ). rank_at s.heap i n ≡ turn' + turn') same_o (subst (λ (i : ℕ). rank_at s.heap j i ≡ turn' + turn') same_n rank) in
          let a = ranks o n in
          elim (eqb_tells turn' turn) [
            | inl t ↦ inr (ap born_of e_is ∙ ap (λ (i : ℕ). Some (value i m turn')) same_o ∙ ap (λ (i : ℕ). Some (value o i turn')) same_n ∙ ap (λ (i : ℕ). Some (value o n i)) t.1)
            | inr t ↦ let ne = t.1 in inl (omega (arith, before, a, one, some, ne))
          ]
  told_born o n turn (finalizes j m of turn' number cause behind e_is rank ranks out caused left not_left inside) some =
      elim (rise_or j m o n) [
        | inl h ↦ inl (let a = ranks o n in omega (arith, a, some, h))
        | inr h ↦ inl (here h.0 h.1 h.2)
      ]
    where
      here : rise j m o n ≡ 1 → j ≡ o → m ≡ n → turn + turn + 1 ≤ rank_at s.heap o n
      here one same_o same_n =
          let before = subst (λ (i : ℕ). rank_at s.heap i n ≡ turn' + turn' + 1) same_o (subst (λ (i : ℕ). rank_at s.heap j i ≡ turn' + turn' + 1) same_n rank) in
          let a = ranks o n in
          omega (arith, before, a, one, some)

  pub told_finalized :
      (o n turn : ℕ) → Told types past s e after → rank_at s.heap o n ≡ turn + turn + 1
      → (rank_at after.heap o n ≡ turn + turn + 1) ⊎ (finalized_of e ≡ Some (value o n turn))
  told_finalized o n turn (still untold own ranks back) one = inl (ranks o n ∙ one)
  told_finalized o n turn (bears j m of turn' number by done behind e_is rank ranks out there numbered left none not_cleared inside) one =
      elim (rise_or j m o n) [
        | inl h ↦ inl (let a = ranks o n in omega (arith, a, one, h))
        | inr h ↦ absurd (never (subst (λ (i : ℕ). rank_at s.heap i n ≡ turn' + turn') h.1 (subst (λ (i : ℕ). rank_at s.heap j i ≡ turn' + turn') h.2 rank)))
      ]
    where
      never : rank_at s.heap o n ≡ turn' + turn' → ⊥
      never h = omega (arith, h, one)
  told_finalized o n turn (finalizes j m of turn' number cause behind e_is rank ranks out caused left not_left inside) one =
      elim (rise_or j m o n) [
        | inl h ↦ inl (let a = ranks o n in omega (arith, a, one, h))
        | inr h ↦ inr (here h.1 h.2)
      ]
    where
      here : j ≡ o → m ≡ n → finalized_of e ≡ Some (value o n turn)
      here same_o same_n =
          let before = subst (λ (i : ℕ). rank_at s.heap i n ≡ turn' + turn' + 1) same_o (subst (λ (i : ℕ). rank_at s.heap j i ≡ turn' + turn' + 1) same_n rank) in
          let t : turn' ≡ turn = omega (arith, before, one) in
          ap finalized_of e_is ∙ ap (λ (i : ℕ). Some (value i m turn')) same_o ∙ ap (λ (i : ℕ). Some (value o i turn')) same_n ∙ ap (λ (i : ℕ). Some (value o n i)) t

-- What an event leaves behind for good.
pub record Marks (types : List TypeDefinition) (e : Event) (s : State) : Type 0 where
  pub born : (v : ControlledValue) → born_of e ≡ Some v → v.turn + v.turn + 1 ≤ rank_at s.heap v.object.0 v.part
  pub finalized : (v : ControlledValue) → finalized_of e ≡ Some v → v.turn + v.turn + 2 ≤ rank_at s.heap v.object.0 v.part
  pub back : (o : Id) → back_of e ≡ Some o → IsOut s.heap o.0 false
  pub numbered : (b : BegunPart) → begun_of e ≡ Some b → Numbered (adjusted_by b.by) s.next
  pub there : (b : BegunPart) → begun_of e ≡ Some b → b.treated.object.0 < length s.heap
  pub none_inside : (b : BegunPart) → begun_of e ≡ Some b → OfTreatments (NoneInside (shapes_of types) b) (doings s.control)
  pub caused : (t : EndedPart) → ended_of e ≡ Some t → Caused t.treated.object.0 t.cause s.heap s.next
  pub not_left : (t : EndedPart) → ended_of e ≡ Some t → OfTreatments (NotLeft (shapes_of types) t) (doings s.control)
  pub adjusted : (n : ℕ) → adjusted_of e ≡ Some n → AdjustedAt s n

pub told_back : (types : List TypeDefinition) (past : List Event) (s : State) (e : Event) (after : State) → Told types past s e after → (o : Id) → back_of e ≡ Some o → IsOut after.heap o.0 false
told_back types past s e after (still untold own ranks back) o is = back o is
told_back types past s e after (bears j m of turn number by done behind e_is rank ranks out there numbered left none not_cleared inside) o is = nothing_is (back_of e) o (ap back_of e_is) is
told_back types past s e after (finalizes j m of turn number cause behind e_is rank ranks out caused left not_left inside) o is = nothing_is (back_of e) o (ap back_of e_is) is

pub marked : (types : List TypeDefinition) (past : List Event) (s : State) (e : Event) (after : State) → Told types past s e after → Marks types e after
marked types past s e after told = record {
  born = λ v is. let a = (born_at types past s e after v told is).after in omega (arith, a);
  finalized = λ v is. let a = (finalized_at types past s e after v told is).after in omega (arith, a);
  back = told_back types past s e after told;
  numbered = λ b is. (begun_at types past s e after b told is).numbered;
  there = λ b is. (begun_at types past s e after b told is).there;
  none_inside = λ b is. (begun_at types past s e after b told is).none_inside;
  caused = λ t is. (ended_at types past s e after t told is).caused;
  not_left = λ t is. (ended_at types past s e after t told is).not_left;
  adjusted = λ n is. adjusted_at types past s e after n told is;
}

-- What is in its collection has not left it.
unlisted_once : (xs : Heap) (o : ℕ) (x : Object) → slice_get xs o ≡ Some x → x.listed ≡ true → IsUnlisted xs o → ⊥
unlisted_once xs o x is listed (y, (is', unlisted)) =
    let never : true ≡ false = sym listed ∙ some_is (λ (z : Object). x.listed ≡ z.listed) (slice_get xs o) x y is is' refl ∙ unlisted in
    absurd (cc never)

-- The number of a name.
abbrev place_of : Value → ℕ → ℕ
place_of (Names i) d = i.0
place_of v d = d

-- What an event has left behind stays, since what is left to do goes on or is new.
module _ (types : List TypeDefinition) (s after : State) (keeps : KeepsObjects s.heap after.heap) (grows : s.next ≤ after.next) where
  none_inside_kept :
      (b : BegunPart) → Numbered (adjusted_by b.by) s.next → b.treated.object.0 < length s.heap → OfTreatments (NoneInside (shapes_of types) b) (doings s.control)
      → (v : Value) (treatment : Treatment) (tasks : List Task) → Origin types s v treatment tasks → NoneInside (shapes_of types) b v treatment tasks
  none_inside_kept b numbered there each v treatment tasks (goes_on earlier before left same less) v_is t_is m lies =
      let none = of_left (NoneInside (shapes_of types) b) v earlier before (doings s.control) left each v_is (same ∙ t_is) m lies in
      let l = less m in
      omega (arith, none, l)
  none_inside_kept b numbered there each v treatment tasks (creates by t_new own v_new) v_is t_is m lies =
      let place : length s.heap ≡ b.treated.object.0 = ap (λ (u : Value). place_of u 0) (sym v_new ∙ v_is) in
      absurd (omega (arith, there, place))
  none_inside_kept b numbered there each v treatment tasks (adjusts t_new) v_is t_is m lies =
      let lt = numbered s.next (ap number_begun (sym t_is ∙ t_new)) in absurd (omega (arith, lt))
    where
      number_begun : Key → Option ℕ
      number_begun (begin by) = adjusted_by by
      number_begun (end cause) = None
  none_inside_kept b numbered there each v treatment tasks (clears cause t_new number) v_is t_is m lies = let never : begin b.by ≡ end cause = sym t_is ∙ t_new in absurd (cc never)
  none_inside_kept b numbered there each v treatment tasks (parts cause o x t_new own v_new is listed) v_is t_is m lies =
      let never : begin b.by ≡ end cause = sym t_is ∙ t_new in absurd (cc never)

  not_left_kept :
      (t : EndedPart) → Caused t.treated.object.0 t.cause s.heap s.next → OfTreatments (NotLeft (shapes_of types) t) (doings s.control)
      → (v : Value) (treatment : Treatment) (tasks : List Task) → Origin types s v treatment tasks → NotLeft (shapes_of types) t v treatment tasks
  not_left_kept t caused each v treatment tasks (goes_on earlier before left same less) v_is t_is =
      let none = of_left (NotLeft (shapes_of types) t) v earlier before (doings s.control) left each v_is (same ∙ t_is) in
      let l = less t.treated.part.number in
      omega (arith, none, l)
  not_left_kept t caused each v treatment tasks (creates by t_new own v_new) v_is t_is = let never : end t.cause ≡ begin by = sym t_is ∙ t_new in absurd (cc never)
  not_left_kept t caused each v treatment tasks (adjusts t_new) v_is t_is = let never : end t.cause ≡ begin (Adjustment s.next) = sym t_is ∙ t_new in absurd (cc never)
  not_left_kept t caused each v treatment tasks (clears cause t_new number) v_is t_is =
      let same : end t.cause ≡ end cause = sym t_is ∙ t_new in
      let one : t.cause ≡ cause = cc same in
      let lt = caused.numbered s.next (ap number_of one ∙ number) in
      absurd (omega (arith, lt))
  not_left_kept t caused each v treatment tasks (parts cause o x t_new own v_new is listed) v_is t_is =
      let same : end t.cause ≡ end cause = sym t_is ∙ t_new in
      let one : t.cause ≡ cause = cc same in
      let place : o ≡ t.treated.object.0 = ap (λ (u : Value). place_of u 0) (sym v_new ∙ v_is) in
      let unlisted = caused.parted (ap number_of one ∙ own) in
      absurd (unlisted_once s.heap o x is listed (subst (IsUnlisted s.heap) (sym place) unlisted))

  not_cleared_kept :
      (n : ℕ) → n < s.next → OfTreatments (NotCleared n) (doings s.control) → (v : Value) (treatment : Treatment) (tasks : List Task)
      → Origin types s v treatment tasks → NotCleared n v treatment tasks
  not_cleared_kept n lt each v treatment tasks (goes_on earlier before left same less) t_is = of_left (NotCleared n) v earlier before (doings s.control) left each (same ∙ t_is)
  not_cleared_kept n lt each v treatment tasks (creates by t_new own v_new) t_is = let never : end (Assigning n) ≡ begin by = sym t_is ∙ t_new in absurd (cc never)
  not_cleared_kept n lt each v treatment tasks (adjusts t_new) t_is = let never : end (Assigning n) ≡ begin (Adjustment s.next) = sym t_is ∙ t_new in absurd (cc never)
  not_cleared_kept n lt each v treatment tasks (clears cause t_new number) t_is =
      let same : end (Assigning n) ≡ end cause = sym t_is ∙ t_new in
      let one : Assigning n ≡ cause = cc same in
      let both : Some n ≡ Some s.next = ap number_of one ∙ number in
      let number_is : n ≡ s.next = cc both in
      absurd (omega (arith, lt, number_is))
  not_cleared_kept n lt each v treatment tasks (parts cause o x t_new own v_new is listed) t_is =
      let same : end (Assigning n) ≡ end cause = sym t_is ∙ t_new in
      let one : Assigning n ≡ cause = cc same in
      let never : Some n ≡ None = ap number_of one ∙ own in
      absurd (cc never)

  numbered_kept : (number : Option ℕ) → Numbered number s.next → Numbered number after.next
  numbered_kept number h n is = let lt = h n is in omega (arith, lt, grows)

  pub marks_kept : (past : List Event) (e f : Event) → Told types past s f after → OfTreatments (Origin types s) (doings after.control) → Marks types e s → Marks types e after
  marks_kept past e f told origins m = record {
    born = λ v is. let a = m.born v is in let b = rank_grows types past s f after told v.object.0 v.part in omega (arith, a, b);
    finalized = λ v is. let a = m.finalized v is in let b = rank_grows types past s f after told v.object.0 v.part in omega (arith, a, b);
    back = λ o is. out_kept s.heap after.heap o.0 keeps (m.back o is);
    numbered = λ b is. numbered_kept (adjusted_by b.by) (m.numbered b is);
    there = λ b is. let lt = m.there b is in let le = length_kept s.heap after.heap keeps in omega (arith, lt, le);
    none_inside = λ b is. treatments_map (Origin types s) (NoneInside (shapes_of types) b) (doings after.control) (none_inside_kept b (m.numbered b is) (m.there b is) (m.none_inside b is)) origins;
    caused = λ t is. caused_on types past f s.heap after.heap s.next after.next keeps grows t.treated.object.0 t.cause (m.caused t is);
    not_left = λ t is. treatments_map (Origin types s) (NotLeft (shapes_of types) t) (doings after.control) (not_left_kept t (m.caused t is) (m.not_left t is)) origins;
    adjusted = λ n is.
        let a = m.adjusted n is in
        let lt = a.numbered in
        record {
          numbered = omega (arith, lt, grows);
          cleared = treatments_map (Origin types s) (NotCleared n) (doings after.control) (not_cleared_kept n lt a.cleared) origins;
        };
  }

-- What two events say of each other, the first before the second.
pub record Pairs (shapes : List Shape) (e f : Event) : Type 0 where
  pub born_once : BornTwoValues e f
  pub finalized_once : FinalizedTwoValues e f
  pub born_before : BornBeforeFinalized e f
  pub nothing_after_back : NothingAfterBack e f
  pub parts_first : PartsComeFirst shapes e f
  pub wholes_first : WholesComeFirst shapes e f
  pub assigned_once : EndsBeforeItAdjusts e f

between : {X Y : Type 0} (R : X → Y → Type 0) (a : Option X) (b : Option Y) → ((x : X) (y : Y) → a ≡ Some x → b ≡ Some y → R x y) → Between R a b
between R None b h = tt
between R (Some x) None h = tt
between R (Some x) (Some y) h = h x y refl refl

object_of : (found : Option ControlledValue) (o : Id) → object_in found ≡ Some o → (v : ControlledValue) × ((found ≡ Some v) × (v.object ≡ o))
object_of None o is = absurd (cc is)
object_of (Some v) o is = (v, (refl, cc is))

pub out_once : (xs : Heap) (o : ℕ) → IsOut xs o true → IsOut xs o false → ⊥
out_once xs o (x, (is, out)) (y, (is', back)) =
    let never : true ≡ false = sym out ∙ some_is (λ (z : Object). x.out ≡ z.out) (slice_get xs o) x y is is' refl ∙ back in
    absurd (cc never)

module _ (types : List TypeDefinition) (past : List Event) (s : State) (e f : Event) (after : State) (m : Marks types e s) (told : Told types past s f after) where
  abbrev xs : Heap
  xs = s.heap

  born_once_here : (v w : ControlledValue) → born_of e ≡ Some v → born_of f ≡ Some w → v ≢ w
  born_once_here v w is at_f one =
      let a = subst (λ (u : ControlledValue). u.turn + u.turn + 1 ≤ rank_at xs u.object.0 u.part) one (m.born v is) in
      let b = (born_at types past s f after w told at_f).before in
      omega (arith, a, b)

  finalized_once_here : (v w : ControlledValue) → finalized_of e ≡ Some v → finalized_of f ≡ Some w → v ≢ w
  finalized_once_here v w is at_f one =
      let a = subst (λ (u : ControlledValue). u.turn + u.turn + 2 ≤ rank_at xs u.object.0 u.part) one (m.finalized v is) in
      let b = (finalized_at types past s f after w told at_f).before in
      omega (arith, a, b)

  born_before_here : (v w : ControlledValue) → finalized_of e ≡ Some v → born_of f ≡ Some w → v ≢ w
  born_before_here v w is at_f one =
      let a = subst (λ (u : ControlledValue). u.turn + u.turn + 2 ≤ rank_at xs u.object.0 u.part) one (m.finalized v is) in
      let b = (born_at types past s f after w told at_f).before in
      omega (arith, a, b)

  none_born_here : (o p : Id) → back_of e ≡ Some o → object_in (born_of f) ≡ Some p → o ≢ p
  none_born_here o p is at_f one =
      let v = object_of (born_of f) p at_f in
      out_once xs p.0 (subst (λ (i : Id). IsOut xs i.0 true) v.1.1 (born_at types past s f after v.0 told v.1.0).out) (subst (λ (i : Id). IsOut xs i.0 false) one (m.back o is))

  none_finalized_here : (o p : Id) → back_of e ≡ Some o → object_in (finalized_of f) ≡ Some p → o ≢ p
  none_finalized_here o p is at_f one =
      let v = object_of (finalized_of f) p at_f in
      out_once xs p.0 (subst (λ (i : Id). IsOut xs i.0 true) v.1.1 (finalized_at types past s f after v.0 told v.1.0).out) (subst (λ (i : Id). IsOut xs i.0 false) one (m.back o is))

  -- What begins now was left, so it lies in nothing that has begun before under the same creation or assignment.
  not_inside_here : (a b : BegunPart) → begun_of e ≡ Some a → begun_of f ≡ Some b → NotInside (shapes_of types) a b
  not_inside_here a b is at_f same_by same_object lies =
      let now = begun_at types past s f after b told at_f in
      let tasks = performs b.treated.part.of b.treated.part.number ∷ now.behind in
      let none =
      of_left (NoneInside (shapes_of types) a) (name b.treated.object.0) (begins b.by now.done) tasks (doings s.control) now.left (m.none_inside a is)
      (ap (λ (o : Id). name o.0) (sym same_object)) (ap begin (sym same_by)) b.treated.part.number lies in
      let one = one_here b.treated.part (parts_left (shapes_of types) now.behind) in
      omega (arith, none, one)

  -- What is finalized now has all that lies in it left, so nothing of that has been finalized before by the same cause.
  not_around_here : (a b : EndedPart) → ended_of e ≡ Some a → ended_of f ≡ Some b → NotAround (shapes_of types) a b
  not_around_here a b is at_f same_cause same_object lies =
      let now = ended_at types past s f after b told at_f in
      let tasks = performs b.treated.part.of b.treated.part.number ∷ now.behind in
      let none =
      of_left (NotLeft (shapes_of types) a) (name b.treated.object.0) (ends b.cause) tasks (doings s.control) now.left (m.not_left a is)
      (ap (λ (o : Id). name o.0) (sym same_object)) (ap end (sym same_cause)) in
      let some = now.inside a.treated.part.number lies in
      omega (arith, none, some)

  -- What is finalized now by an assignment has it left, so it has adjusted nothing.
  ends_first_here : (a b : ℕ) → adjusted_of e ≡ Some a → assigned_by (cause_of f) ≡ Some b → a ≢ b
  ends_first_here a b is at_f one =
      let now = assigned_at types past s f after b told at_f in
      of_left (NotCleared a) (name now.object) (ends (Assigning b)) now.tasks (doings s.control) now.left (m.adjusted a is).cleared
      (ap (λ (n : ℕ). end (Assigning n)) (sym one))

  pub paired : Pairs (shapes_of types) e f
  paired = record {
    born_once = between (λ (v w : ControlledValue). v ≢ w) (born_of e) (born_of f) born_once_here;
    finalized_once = between (λ (v w : ControlledValue). v ≢ w) (finalized_of e) (finalized_of f) finalized_once_here;
    born_before = between (λ (v w : ControlledValue). v ≢ w) (finalized_of e) (born_of f) born_before_here;
    nothing_after_back = (
      between (λ (o p : Id). o ≢ p) (back_of e) (object_in (born_of f)) none_born_here,
      between (λ (o p : Id). o ≢ p) (back_of e) (object_in (finalized_of f)) none_finalized_here,
    );
    parts_first = between (NotInside (shapes_of types)) (begun_of e) (begun_of f) not_inside_here;
    wholes_first = between (NotAround (shapes_of types)) (ended_of e) (ended_of f) not_around_here;
    assigned_once = between (λ (a b : ℕ). a ≢ b) (adjusted_of e) (assigned_by (cause_of f)) ends_first_here;
  }
