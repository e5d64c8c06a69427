-- Places, their holds, and what elementary changes keep. Nothing here knows how a heap is kept.

use Rattle.std.proofs.Common.{◌≡◌, ◌≢◌, ℕ, zero, suc, true, refl, sym, ap, ◌∙◌, ◌⊎◌, inl, inr, arith}
use Rattle.std.specs.Prelude.{Option, Some, None}
use Rattle.ada_flow.specs.declared.rule.Hold.{Hold}
use Rattle.ada_flow.specs.declared.rule.Hold.TheVariants as held
use Rattle.ada_flow.specs.declared.rule.Region.TheVariants.{Whole}
use Rattle.ada_flow.specs.Flow.{is_as_good}
use Rattle.ada_meaning.specs.declared.state.Id.{Id}
use Rattle.ada_meaning.specs.declared.state.Value.{Value}
use Rattle.ada_meaning.specs.declared.state.Value.TheVariants.{Names}
use Rattle.ada_owners.specs.Places.{Place, variable, component, elsewhere}
use Rattle.ada_owners.specs.Reliance.{IsOf, Says, Owns, Fit, InHand}

-- Two numbers, two names, two places are one or two.
pub same_or_not : (a b : ℕ) → (a ≡ b) ⊎ (a ≢ b)
same_or_not zero zero = inl refl
same_or_not zero (suc b) = inr (λ e. absurd (omega (arith, e)))
same_or_not (suc a) zero = inr (λ e. absurd (omega (arith, e)))
same_or_not (suc a) (suc b) = elim (same_or_not a b) [ inl e ↦ inl (ap suc e) | inr ne ↦ inr (λ e. ne (omega (arith, e))) ]

pub same_id : (o k : Id) → (o ≡ k) ⊎ (o ≢ k)
same_id o k = elim (same_or_not o.0 k.0) [ inl e ↦ inl (ap (λ n. record { 0 = n }) e) | inr ne ↦ inr (λ e. ne (ap (λ i. i.0) e)) ]

same_components : (o k : Id) (c d : ℕ) → (o ≡ k) ⊎ (o ≢ k) → (c ≡ d) ⊎ (c ≢ d) → (component o c ≡ component k d) ⊎ (component o c ≢ component k d)
same_components o k c d (inl e) (inl f) = inl (cc)
same_components o k c d (inl e) (inr ne) = inr (λ h. ne (cc))
same_components o k c d (inr ne) f = inr (λ h. ne (cc))

same_variables : (x y : ℕ) → (x ≡ y) ⊎ (x ≢ y) → (variable x ≡ variable y) ⊎ (variable x ≢ variable y)
same_variables x y (inl e) = inl (cc)
same_variables x y (inr ne) = inr (λ h. ne (cc))

same_elsewhere : (a b x y : ℕ) → (a ≡ b) ⊎ (a ≢ b) → (x ≡ y) ⊎ (x ≢ y) → (elsewhere a x ≡ elsewhere b y) ⊎ (elsewhere a x ≢ elsewhere b y)
same_elsewhere a b x y (inl e) (inl f) = inl (cc)
same_elsewhere a b x y (inl e) (inr ne) = inr (λ h. ne (cc))
same_elsewhere a b x y (inr ne) f = inr (λ h. ne (cc))

pub same_place : (p q : Place) → (p ≡ q) ⊎ (p ≢ q)
same_place (variable x) (variable y) = same_variables x y (same_or_not x y)
same_place (variable x) (component o c) = inr (λ e. cc)
same_place (variable x) (elsewhere d y) = inr (λ e. cc)
same_place (component o c) (variable y) = inr (λ e. cc)
same_place (component o c) (component k d) = same_components o k c d (same_id o k) (same_or_not c d)
same_place (component o c) (elsewhere d y) = inr (λ e. cc)
same_place (elsewhere d x) (variable y) = inr (λ e. cc)
same_place (elsewhere d x) (component o c) = inr (λ e. cc)
same_place (elsewhere a x) (elsewhere b y) = same_elsewhere a b x y (same_or_not a b) (same_or_not x y)

-- A hold that is not lost says that the object exists; one that is not null may say so.
pub right_by : (access : Id → Option ℕ) (h : Hold) (k : Option ℕ) (o : Id) → h ≢ held.Lost → Says access h k o → IsOf access k o
right_by access held.Null k o ne s = absurd s
right_by access (held.Kept r) k o ne s = s
right_by access (held.Own r) k o ne s = s
right_by access (held.Alias r) k o ne s = s
right_by access held.Lost k o ne s = absurd (ne refl)

pub says_right : (access : Id → Option ℕ) (h : Hold) (k : Option ℕ) (o : Id) → h ≢ held.Null → IsOf access k o → Says access h k o
says_right access held.Null k o ne s = absurd (ne refl)
says_right access (held.Kept r) k o ne s = s
says_right access (held.Own r) k o ne s = s
says_right access (held.Alias r) k o ne s = s
says_right access held.Lost k o ne s = tt

owner_right : (access : Id → Option ℕ) (h : Hold) (k : Option ℕ) (o : Id) → Owns h → Says access h k o → IsOf access k o
owner_right access held.Null k o own s = absurd own
owner_right access (held.Kept r) k o own s = s
owner_right access (held.Own r) k o own s = s
owner_right access (held.Alias r) k o own s = absurd own
owner_right access held.Lost k o own s = absurd own

pub lost_owns : (h : Hold) → h ≡ held.Lost → Owns h → ⊥
lost_owns held.Null e own = own
lost_owns (held.Kept r) e own = cc e
lost_owns (held.Own r) e own = cc e
lost_owns (held.Alias r) e own = own
lost_owns held.Lost e own = own

-- What is as good says as much, and what owns by the worse hold owned by the better one.
says_worse : (access : Id → Option ℕ) (g h : Hold) (k : Option ℕ) (o : Id) → is_as_good g h ≡ true → Says access g k o → Says access h k o
says_worse access held.Null h k o e s = absurd s
says_worse access (held.Kept Whole) held.Null k o e s = absurd (cc e)
says_worse access (held.Kept Whole) (held.Kept Whole) k o e s = s
says_worse access (held.Kept Whole) (held.Own Whole) k o e s = s
says_worse access (held.Kept Whole) (held.Alias q) k o e s = s
says_worse access (held.Kept Whole) held.Lost k o e s = tt
says_worse access (held.Own Whole) held.Null k o e s = absurd (cc e)
says_worse access (held.Own Whole) (held.Kept Whole) k o e s = s
says_worse access (held.Own Whole) (held.Own Whole) k o e s = s
says_worse access (held.Own Whole) (held.Alias q) k o e s = s
says_worse access (held.Own Whole) held.Lost k o e s = tt
says_worse access (held.Alias Whole) held.Null k o e s = absurd (cc e)
says_worse access (held.Alias Whole) (held.Kept q) k o e s = s
says_worse access (held.Alias Whole) (held.Own q) k o e s = s
says_worse access (held.Alias Whole) (held.Alias Whole) k o e s = s
says_worse access (held.Alias Whole) held.Lost k o e s = tt
says_worse access held.Lost held.Null k o e s = absurd (cc e)
says_worse access held.Lost (held.Kept q) k o e s = absurd (cc e)
says_worse access held.Lost (held.Own q) k o e s = absurd (cc e)
says_worse access held.Lost (held.Alias q) k o e s = absurd (cc e)
says_worse access held.Lost held.Lost k o e s = tt

owned_before : (access : Id → Option ℕ) (g h : Hold) (k : Option ℕ) (o : Id) → is_as_good g h ≡ true → Says access g k o → Owns h → Owns g
owned_before access held.Null h k o e s own = absurd s
owned_before access (held.Kept r) h k o e s own = tt
owned_before access (held.Own r) h k o e s own = tt
owned_before access (held.Alias Whole) held.Null k o e s own = own
owned_before access (held.Alias Whole) (held.Kept q) k o e s own = absurd (cc e)
owned_before access (held.Alias Whole) (held.Own q) k o e s own = absurd (cc e)
owned_before access (held.Alias Whole) (held.Alias q) k o e s own = own
owned_before access (held.Alias Whole) held.Lost k o e s own = own
owned_before access held.Lost held.Null k o e s own = own
owned_before access held.Lost (held.Kept q) k o e s own = absurd (cc e)
owned_before access held.Lost (held.Own q) k o e s own = absurd (cc e)
owned_before access held.Lost (held.Alias q) k o e s own = own
owned_before access held.Lost held.Lost k o e s own = own

-- An object that is of an access type may be asked of another heap.
pub of_same : (access now : Id → Option ℕ) (k : Option ℕ) (o : Id) → now o ≡ access o → IsOf access k o → IsOf now k o
of_same access now None o e s = s
of_same access now (Some t) o e s = e ∙ s

pub says_same : (access now : Id → Option ℕ) (h : Hold) (k : Option ℕ) (o : Id) → now o ≡ access o → Says access h k o → Says now h k o
says_same access now held.Null k o e s = s
says_same access now (held.Kept r) k o e s = of_same access now k o e s
says_same access now (held.Own r) k o e s = of_same access now k o e s
says_same access now (held.Alias r) k o e s = of_same access now k o e s
says_same access now held.Lost k o e s = tt

-- No object of a name that has none is of an access type.
pub of_none : (access : Id → Option ℕ) (k : Option ℕ) (o : Id) → access o ≡ None → IsOf access k o → ⊥
of_none access None o e s = s
of_none access (Some t) o e s = cc (e, s)

module _ {access : Id → Option ℕ} {read : Place → Value} {hold : Place → Hold} {kind : Place → Option ℕ} (f : Fit access read hold kind) where
  -- Each place is seen as another one was: what it names was named there, its hold says no more, and no two owners come from one place.
  module _ (to : Id → Option ℕ) (now : Place → Value) (after : Place → Hold) (other : Place → Option ℕ) (from : Place → Place)
      (reads : (p : Place) (o : Id) → now p ≡ Names o → read (from p) ≡ Names o)
      (says : (p : Place) (o : Id) → now p ≡ Names o → Says access (hold (from p)) (kind (from p)) o → Says to (after p) (other p) o)
      (owns : (p : Place) (o : Id) → now p ≡ Names o → Owns (after p) → Owns (hold (from p)))
      (one : (p q : Place) (o : Id) → Owns (after p) → Owns (after q) → now p ≡ Names o → now q ≡ Names o → from p ≡ from q → p ≡ q) where
    pub seen_from : Fit to now after other
    seen_from = record {
      relied = λ p o e. says p o e (f.relied (from p) o (reads p o e));
      apart = λ p q o a b c d. one p q o a b c d (f.apart (from p) (from q) o (owns p o c a) (owns q o d b) (reads p o c) (reads q o d));
    }

  -- Holds get worse.
  pub weaken : (after : Place → Hold) → ((p : Place) → is_as_good (hold p) (after p) ≡ true) → Fit access read after kind
  weaken after worse = record {
    relied = λ p o e. says_worse access (hold p) (after p) (kind p) o (worse p) (f.relied p o e);
    apart = λ p q o a b c d. f.apart p q o (owned_before access (hold p) (after p) (kind p) o (worse p) (f.relied p o c) a) (owned_before access (hold q) (after q) (kind q) o (worse q) (f.relied q o d) b) c d;
  }

  -- One place is written, with a hold.
  module _ (p : Place) (now : Place → Value) (after : Place → Hold)
      (others : (q : Place) → q ≢ p → (now q ≡ read q) × (after q ≡ hold q))
      (says : (o : Id) → now p ≡ Names o → Says access (after p) (kind p) o)
      (fresh : (o : Id) → Owns (after p) → now p ≡ Names o → (q : Place) → Owns (hold q) → read q ≡ Names o → q ≡ p) where
    write_relied : (q : Place) (o : Id) → (q ≡ p) ⊎ (q ≢ p) → now q ≡ Names o → Says access (after q) (kind q) o
    write_relied q o (inl e) n = rw e (says o (rw e at n))
    write_relied q o (inr ne) n = let h = others q ne in rw h.1 (f.relied q o (sym h.0 ∙ n))

    write_apart : (q r : Place) (o : Id) → (q ≡ p) ⊎ (q ≢ p) → (r ≡ p) ⊎ (r ≢ p) → Owns (after q) → Owns (after r) → now q ≡ Names o → now r ≡ Names o → q ≡ r
    write_apart q r o (inl i) (inl j) a b c d = i ∙ sym j
    write_apart q r o (inl i) (inr j) a b c d = let h = others r j in absurd (j (fresh o (rw i at a) (rw i at c) r (rw h.1 at b) (sym h.0 ∙ d)))
    write_apart q r o (inr i) (inl j) a b c d = let h = others q i in absurd (i (fresh o (rw j at b) (rw j at d) q (rw h.1 at a) (sym h.0 ∙ c)))
    write_apart q r o (inr i) (inr j) a b c d = let h = others q i in let g = others r j in f.apart q r o (rw h.1 at a) (rw g.1 at b) (sym h.0 ∙ c) (sym g.0 ∙ d)

    pub write : Fit access now after kind
    write = record { relied = λ q o e. write_relied q o (same_place q p) e; apart = λ q r o a b c d. write_apart q r o (same_place q p) (same_place r p) a b c d }

  -- Each place that is not lost names what its kind says.
  pub right_at : (p : Place) → hold p ≢ held.Lost → (o : Id) → read p ≡ Names o → IsOf access (kind p) o
  right_at p ne o e = right_by access (hold p) (kind p) o ne (f.relied p o e)

  pub owned_at : (p : Place) → Owns (hold p) → (o : Id) → read p ≡ Names o → IsOf access (kind p) o
  owned_at p own o e = owner_right access (hold p) (kind p) o own (f.relied p o e)

  -- A place that is null names nothing.
  pub null_names : (p : Place) → hold p ≡ held.Null → (o : Id) → read p ≡ Names o → ⊥
  null_names p is o e = rw is at (f.relied p o e)

  -- The value of an owner is in hand once the owner owns it no more.
  module _ (p : Place) (after : Place → Hold) (own : Owns (hold p)) (gone : Owns (after p) → ⊥) (others : (q : Place) → q ≢ p → after q ≡ hold q) where
    taken_free : (o : Id) → read p ≡ Names o → (q : Place) → (q ≡ p) ⊎ (q ≢ p) → Owns (after q) → read q ≡ Names o → ⊥
    taken_free o e q (inl i) a b = gone (rw i at a)
    taken_free o e q (inr ne) a b = ne (f.apart q p o (rw (others q ne) at a) own b e)

    pub taken : InHand access read after (kind p) (read p)
    taken = record { right = λ o e. owned_at p own o e; free = λ o e q a b. taken_free o e q (same_place q p) a b }

  -- One more object, whose components name nothing yet.
  pub grow : (new : Id) (to : Id → Option ℕ) (now : Place → Value) (other : Place → Option ℕ) → access new ≡ None → ((k : Id) → k ≢ new → to k ≡ access k) → ((p : Place) (o : Id) → now p ≡ Names o → (read p ≡ Names o) × (other p ≡ kind p)) → Fit to now hold other
  grow new to now other none others stays = seen_from to now hold other (λ p. p) (λ p o e. (stays p o e).0) (λ p o e s. rw (stays p o e).1 (grown (hold p) (kind p) o s)) (λ p o e own. own) (λ p q o a b c d e. e)
    where
      grown_of : (k : Option ℕ) (o : Id) → IsOf access k o → IsOf to k o
      grown_of None o s = s
      grown_of (Some t) o s = others o (λ e. let n = rw e at s in cc (none, n)) ∙ s

      grown : (h : Hold) (k : Option ℕ) (o : Id) → Says access h k o → Says to h k o
      grown held.Null k o s = s
      grown (held.Kept r) k o s = grown_of k o s
      grown (held.Own r) k o s = grown_of k o s
      grown (held.Alias r) k o s = grown_of k o s
      grown held.Lost k o s = tt

  -- An object ends that only lost places name.
  pub ends : (gone : Id) (to : Id → Option ℕ) (now : Place → Value) (other : Place → Option ℕ) → ((k : Id) → k ≢ gone → to k ≡ access k) → ((p : Place) (o : Id) → now p ≡ Names o → (read p ≡ Names o) × (other p ≡ kind p)) → ((p : Place) → now p ≡ Names gone → hold p ≡ held.Lost) → Fit to now hold other
  ends gone to now other others stays unnamed = seen_from to now hold other (λ p. p) (λ p o e. (stays p o e).0) (λ p o e s. rw (stays p o e).1 (ended p o (same_id o gone) e s)) (λ p o e own. own) (λ p q o a b c d e. e)
    where
      ended : (p : Place) (o : Id) → (o ≡ gone) ⊎ (o ≢ gone) → now p ≡ Names o → Says access (hold p) (kind p) o → Says to (hold p) (kind p) o
      ended p o (inl i) e s = rw (unnamed p (rw i at e)) tt
      ended p o (inr ne) e s = says_same access to (hold p) (kind p) o (others o ne) s

  -- The same objects, values and kinds, given otherwise.
  pub same : (to : Id → Option ℕ) (now : Place → Value) (other : Place → Option ℕ) → ((k : Id) → to k ≡ access k) → ((p : Place) → now p ≡ read p) → ((p : Place) → other p ≡ kind p) → Fit to now hold other
  same to now other objects reads kinds = seen_from to now hold other (λ p. p) (λ p o e. sym (reads p) ∙ e) (λ p o e s. rw (kinds p) (says_same access to (hold p) (kind p) o (objects o) s)) (λ p o e own. own) (λ p q o a b c d e. e)

  -- Other holds, which are the same wherever something is named.
  pub held_same : (after : Place → Hold) → ((p : Place) (o : Id) → read p ≡ Names o → after p ≡ hold p) → Fit access read after kind
  held_same after same = seen_from access read after kind (λ p. p) (λ p o e. e) (λ p o e s. rw (same p o e) s) (λ p o e own. rw (same p o e) at own) (λ p q o a b c d e. e)

-- What is in hand stays so where each place that owns its object is seen as one that owned it.
pub hand_seen : {access : Id → Option ℕ} {read : Place → Value} {hold : Place → Hold} {kind : Option ℕ} {v : Value} (now : Place → Value) (after : Place → Hold) (from : Place → Place) → ((o : Id) → v ≡ Names o → (q : Place) → Owns (after q) → now q ≡ Names o → Owns (hold (from q)) × (read (from q) ≡ Names o)) → InHand access read hold kind v → InHand access now after kind v
hand_seen now after from back i = record { right = i.right; free = λ o e q a b. let h = back o e q a b in i.free o e (from q) h.0 h.1 }

-- What owns nothing else may own later on; what is named may be read otherwise; objects may be more.
pub hand_by : {access : Id → Option ℕ} {read : Place → Value} {hold : Place → Hold} {kind : Option ℕ} {v : Value} (to : Id → Option ℕ) (now : Place → Value) (after : Place → Hold) → ((o : Id) → v ≡ Names o → to o ≡ access o) → ((o : Id) → v ≡ Names o → (q : Place) → Owns (after q) → now q ≡ Names o → Owns (hold q) × (read q ≡ Names o)) → InHand access read hold kind v → InHand to now after kind v
hand_by {access} {read} {hold} {kind} {v} to now after objects back i = record { right = λ o e. of_same access to kind o (objects o e) (i.right o e); free = λ o e q a b. let h = back o e q a b in i.free o e q h.0 h.1 }

-- What names nothing is in hand.
pub blank : {access : Id → Option ℕ} {read : Place → Value} {hold : Place → Hold} {kind : Option ℕ} {v : Value} → ((o : Id) → v ≡ Names o → ⊥) → InHand access read hold kind v
blank none = record { right = λ o e. absurd (none o e); free = λ o e. absurd (none o e) }
