-- What is being done to objects, by what is left to do: their parts come to have values, or these are finalized; and objects are to cease to exist.

use Rattle.std.proofs.Common.{◌≡◌, ◌≢◌, ◌⊎◌, ℕ, zero, ◌+◌, ◌≤◌, Bool, true, false, ◌==◌, if◌then◌else◌, List, [], ◌∷◌, Option, Some, None, refl, sym, ap, ◌∙◌, inl, inr, subst, arith}
use Rattle.ada_parts.proofs.Facts.{eq_self, eq_not}
use Rattle.ada_parts.specs.Shape.{Shape}
use Rattle.ada_parts.specs.Part.{Part}
use Rattle.ada_parts.specs.Task.{Task, performs}
use Rattle.ada_parts.specs.Law.{parts_left}
use Rattle.ada_meaning.specs.declared.state.Value.{Value}
use Rattle.ada_meaning.specs.declared.state.Value.TheVariants.{Names}
use Rattle.ada_meaning.specs.declared.event.Birth.{Birth}
use Rattle.ada_meaning.specs.declared.event.Cause.{Cause}
use Rattle.ada_meaning.specs.declared.event.Cause.TheVariants.{Leaving, Freeing, Assigning, Undoing}
use Rattle.ada_meaning.specs.Frame.{Frame, Treatment, begins, ends}
use Rattle.ada_meaning.specs.Frame as frame
use Rattle.ada_meaning.specs.Step.{treating}
use Rattle.ada_meaning.specs.Finalization.{adjusted_by}
use Rattle.ada_finalized.proofs.Counts.{count}

-- The value that names the object of a number.
abbrev pub name : ℕ → Value
name o = Names (record { 0 = o })

number_in : Value → ℕ
number_in (Names i) = i.0
number_in v = 0

pub same_name : (i j : ℕ) → name i ≡ name j → i ≡ j
unfolding number_in
same_name i j e = ap number_in e

pub data Doing : Type 0 where
  -- this is left of a treatment of an object
  Treating : Value → Treatment → List Task → Doing
  -- an object is to cease to exist
  Ending : Value → Doing

-- All that is being done.
abbrev pub doings : List (Frame Value) → List Doing
doings [] = []
doings (frame.Treats v treatment tasks ∷ k) = Treating v treatment tasks ∷ doings k
doings (frame.Awaits v by done of part tasks ∷ k) = Treating v (begins by done) (performs of part ∷ tasks) ∷ doings k
doings (frame.Ends v ∷ k) = Ending v ∷ doings k
doings (f ∷ k) = doings k

-- A frame that treats and ends no object, assigns none that has controlled parts, and ends no body.
abbrev pub Calm : Frame Value → Type 0
Calm (frame.Treats v treatment tasks) = ⊥
Calm (frame.Awaits v by done of part tasks) = ⊥
Calm frame.Confines = ⊥
Calm (frame.Assigns t) = ⊥
Calm (frame.Ends v) = ⊥
Calm (frame.GivesBack v cause pool) = ⊥
Calm (frame.Returns actuals references) = ⊥
Calm f = Unit {0}

-- What is left to do from the first other frame on.
abbrev pub rest : List (Frame Value) → List (Frame Value)
rest [] = []
rest (frame.Treats v treatment tasks ∷ k) = frame.Treats v treatment tasks ∷ k
rest (frame.Awaits v by done of part tasks ∷ k) = frame.Awaits v by done of part tasks ∷ k
rest (frame.Confines ∷ k) = frame.Confines ∷ k
rest (frame.Assigns t ∷ k) = frame.Assigns t ∷ k
rest (frame.Ends v ∷ k) = frame.Ends v ∷ k
rest (frame.GivesBack v cause pool ∷ k) = frame.GivesBack v cause pool ∷ k
rest (frame.Returns actuals references ∷ k) = frame.Returns actuals references ∷ k
rest (f ∷ k) = rest k

pub calm_rest : (f : Frame Value) (k : List (Frame Value)) → Calm f → rest (f ∷ k) ≡ rest k
calm_rest (frame.Treats v treatment tasks) k c = absurd c
calm_rest (frame.Awaits v by done of part tasks) k c = absurd c
calm_rest frame.Confines k c = absurd c
calm_rest (frame.Assigns t) k c = absurd c
calm_rest (frame.Ends v) k c = absurd c
calm_rest (frame.GivesBack v cause pool) k c = absurd c
calm_rest (frame.Returns actuals references) k c = absurd c
calm_rest f k c = refl

pub calm_doings : (f : Frame Value) (k : List (Frame Value)) → Calm f → doings (f ∷ k) ≡ doings k
calm_doings (frame.Treats v treatment tasks) k c = absurd c
calm_doings (frame.Awaits v by done of part tasks) k c = absurd c
calm_doings (frame.Ends v) k c = absurd c
calm_doings f k c = refl

pub rest_doings : (k : List (Frame Value)) → doings (rest k) ≡ doings k
rest_doings [] = refl
rest_doings (frame.Treats v treatment tasks ∷ k) = refl
rest_doings (frame.Awaits v by done of part tasks ∷ k) = refl
rest_doings (frame.Confines ∷ k) = refl
rest_doings (frame.Assigns t ∷ k) = refl
rest_doings (frame.Ends v ∷ k) = refl
rest_doings (frame.GivesBack v cause pool ∷ k) = refl
rest_doings (frame.Returns actuals references ∷ k) = refl
rest_doings (f ∷ k) = rest_doings k

pub same_doings : (a b : List (Frame Value)) → rest a ≡ rest b → doings a ≡ doings b
same_doings a b e = sym (rest_doings a) ∙ ap doings e ∙ rest_doings b

-- What a treatment does.
pub data Key : Type 0 where
  begin : Birth → Key
  end : Cause → Key

abbrev pub key : Treatment → Key
key (begins by done) = begin by
key (ends cause) = end cause

-- The number of a cause: that of a Free, of an assignment, or of an initialization that is undone. Nothing else has it.
abbrev pub number_of : Cause → Option ℕ
number_of (Leaving master item) = None
number_of (Freeing number) = Some number
number_of (Assigning number) = Some number
number_of (Undoing number) = Some number

-- So it is with all that is being done.
abbrev pub Of : (Doing → Type 0) → List Doing → Type 0
Of P [] = Unit {0}
Of P (d ∷ ds) = P d × Of P ds

pub of_map : (P Q : Doing → Type 0) (ds : List Doing) → ((d : Doing) → P d → Q d) → Of P ds → Of Q ds
of_map P Q [] then' h = tt
of_map P Q (d ∷ ds) then' h = (then' d h.0, of_map P Q ds then' h.1)

-- So it is with each treatment.
abbrev pub OfTreating : (Value → Treatment → List Task → Type 0) → Doing → Type 0
OfTreating P (Treating v treatment tasks) = P v treatment tasks
OfTreating P (Ending v) = Unit {0}

abbrev pub OfTreatments : (Value → Treatment → List Task → Type 0) → List Doing → Type 0
OfTreatments P [] = Unit {0}
OfTreatments P (d ∷ ds) = OfTreating P d × OfTreatments P ds

-- This is one of them.
abbrev pub IsLeft : Value → Treatment → List Task → List Doing → Type 0
IsLeft v treatment tasks [] = ⊥
IsLeft v treatment tasks (d ∷ ds) = (d ≡ Treating v treatment tasks) ⊎ IsLeft v treatment tasks ds

pub of_left : (P : Value → Treatment → List Task → Type 0) (v : Value) (treatment : Treatment) (tasks : List Task) (ds : List Doing) → IsLeft v treatment tasks ds → OfTreatments P ds → P v treatment tasks
of_left P v treatment tasks [] is each = absurd is
of_left P v treatment tasks (d ∷ ds) (inl is) each = subst (OfTreating P) is each.0
of_left P v treatment tasks (d ∷ ds) (inr later) each = of_left P v treatment tasks ds later each.1

treating_map : (P Q : Value → Treatment → List Task → Type 0) (d : Doing) → ((v : Value) (treatment : Treatment) (tasks : List Task) → P v treatment tasks → Q v treatment tasks) → OfTreating P d → OfTreating Q d
treating_map P Q (Treating v treatment tasks) then' h = then' v treatment tasks h
treating_map P Q (Ending v) then' h = tt

pub treatments_map : (P Q : Value → Treatment → List Task → Type 0) (ds : List Doing) → ((v : Value) (treatment : Treatment) (tasks : List Task) → P v treatment tasks → Q v treatment tasks) → OfTreatments P ds → OfTreatments Q ds
treatments_map P Q [] then' h = tt
treatments_map P Q (d ∷ ds) then' h = (treating_map P Q d then' h.0, treatments_map P Q ds then' h.1)

-- A fact that each of them is has what it says of treatments.
pub of_treatments : (P : Doing → Type 0) (Q : Value → Treatment → List Task → Type 0) (ds : List Doing) → ((v : Value) (treatment : Treatment) (tasks : List Task) → P (Treating v treatment tasks) → Q v treatment tasks) → Of P ds → OfTreatments Q ds
of_treatments P Q [] then' h = tt
of_treatments P Q (Treating v treatment tasks ∷ ds) then' h = (then' v treatment tasks h.0, of_treatments P Q ds then' h.1)
of_treatments P Q (Ending v ∷ ds) then' h = (tt, of_treatments P Q ds then' h.1)

-- Nothing is done to this object.
abbrev pub Other : (object : ℕ) → Doing → Type 0
Other o (Treating v treatment tasks) = v ≡ name o → ⊥
Other o (Ending v) = v ≡ name o → ⊥

-- A treatment of which nothing is left counts for nothing.
pub data Fewer : List Doing → List Doing → Type 0 where
  alike : {ds : List Doing} → Fewer ds ds
  one : {ds es : List Doing} (d : Doing) → Fewer ds es → Fewer (d ∷ ds) (d ∷ es)
  none_left : {ds es : List Doing} (v : Value) (treatment : Treatment) → Fewer ds es → Fewer (Treating v treatment [] ∷ ds) es

pub fewer_treating :
    (v : Value) (treatment : Treatment) (tasks : List Task) (ds : List Doing) (k : List (Frame Value)) → Fewer ds (doings k)
    → Fewer (Treating v treatment tasks ∷ ds) (doings (treating v treatment tasks k))
fewer_treating v treatment [] ds k h = none_left v treatment h
fewer_treating v treatment (task ∷ tasks) ds k h = one (Treating v treatment (task ∷ tasks)) h

pub fewer_of : (P : Doing → Type 0) (ds es : List Doing) → Fewer ds es → Of P ds → Of P es
fewer_of P ds _ alike h = h
fewer_of P (d ∷ ds) (_ ∷ es) (one d' f) h = (h.0, fewer_of P ds es f h.1)
fewer_of P (_ ∷ ds) es (none_left v treatment f) h = fewer_of P ds es f h.1

pub fewer_treatments : (P : Value → Treatment → List Task → Type 0) (ds es : List Doing) → Fewer ds es → OfTreatments P ds → OfTreatments P es
fewer_treatments P ds _ alike h = h
fewer_treatments P (d ∷ ds) (_ ∷ es) (one d' f) h = (h.0, fewer_treatments P ds es f h.1)
fewer_treatments P (_ ∷ ds) es (none_left v treatment f) h = fewer_treatments P ds es f h.1

-- No two of them are of one kind: by one creation or assignment, or by one cause, an object is treated once; and what an assignment finalizes stands in
-- front of what it adjusts.
abbrev pub Differs : Doing → Doing → Type 0
Differs (Treating v (begins by done) tasks) (Treating w (begins other done') tasks') = v ≡ w → by ≡ other → ⊥
Differs (Treating v (begins by done) tasks) (Treating w (ends cause) tasks') = (m : ℕ) → adjusted_by by ≡ Some m → cause ≡ Assigning m → ⊥
Differs (Treating v (ends cause) tasks) (Treating w (begins other done') tasks') = Unit {0}
Differs (Treating v (ends cause) tasks) (Treating w (ends other) tasks') = v ≡ w → cause ≡ other → ⊥
Differs (Treating v (begins by done) tasks) (Ending w) = Unit {0}
Differs (Treating v (ends cause) tasks) (Ending w) = Unit {0}
Differs (Ending v) e = Unit {0}

abbrev pub Apart : List Doing → Type 0
Apart [] = Unit {0}
Apart (d ∷ ds) = Of (Differs d) ds × Apart ds

pub fewer_apart : (ds es : List Doing) → Fewer ds es → Apart ds → Apart es
fewer_apart ds _ alike h = h
fewer_apart (d ∷ ds) (_ ∷ es) (one d' f) h = (fewer_of (Differs d) ds es f h.0, fewer_apart ds es f h.1)
fewer_apart (_ ∷ ds) es (none_left v treatment f) h = fewer_apart ds es f h.1

-- What is left of a treatment, and which parts it has begun, makes no difference.
differs_begun :
    (v : Value) (by : Birth) (done done' : List Part) (tasks tasks' : List Task) (d : Doing)
    → Differs (Treating v (begins by done) tasks) d → Differs (Treating v (begins by done') tasks') d
differs_begun v by done done' tasks tasks' (Treating w (begins other b) t) h = h
differs_begun v by done done' tasks tasks' (Treating w (ends cause) t) h = h
differs_begun v by done done' tasks tasks' (Ending w) h = tt

differs_ended : (v : Value) (cause : Cause) (tasks tasks' : List Task) (d : Doing) → Differs (Treating v (ends cause) tasks) d → Differs (Treating v (ends cause) tasks') d
differs_ended v cause tasks tasks' (Treating w (begins other b) t) h = tt
differs_ended v cause tasks tasks' (Treating w (ends other) t) h = h
differs_ended v cause tasks tasks' (Ending w) h = tt

pub apart_begun :
    (v : Value) (by : Birth) (done done' : List Part) (tasks tasks' : List Task) (ds : List Doing)
    → Apart (Treating v (begins by done) tasks ∷ ds) → Apart (Treating v (begins by done') tasks' ∷ ds)
apart_begun v by done done' tasks tasks' ds h =
    (of_map (Differs (Treating v (begins by done) tasks)) (Differs (Treating v (begins by done') tasks')) ds (differs_begun v by done done' tasks tasks') h.0, h.1)

pub apart_ended : (v : Value) (cause : Cause) (tasks tasks' : List Task) (ds : List Doing) → Apart (Treating v (ends cause) tasks ∷ ds) → Apart (Treating v (ends cause) tasks' ∷ ds)
apart_ended v cause tasks tasks' ds h =
    (of_map (Differs (Treating v (ends cause) tasks)) (Differs (Treating v (ends cause) tasks')) ds (differs_ended v cause tasks tasks') h.0, h.1)

-- Parts that have no value, as they are still to be begun, or their object is to cease to exist; and those of them that are still to be finalized before.

-- What is said of an object, if a value names that one.
abbrev pub on : Value → (object count : ℕ) → ℕ
on (Names i) j c = if i.0 == j then c else 0
on v j c = 0

pub on_same : (o c : ℕ) → on (name o) o c ≡ c
on_same o c = ap (λ (b : Bool). if b then c else 0) (eq_self o)

pub on_other : (o j c : ℕ) → o ≢ j → on (name o) j c ≡ 0
on_other o j c ne = ap (λ (b : Bool). if b then c else 0) (eq_not o j ne)

pub on_not : (v : Value) (j c : ℕ) → (v ≡ name j → ⊥) → on v j c ≡ 0
on_not (Names i) j c ne = on_other i.0 j c (λ e. ne (ap name e))
on_not v j c ne = refl

pub on_none : (v : Value) (j : ℕ) → on v j 0 ≡ 0
on_none (Names i) j = go (i.0 == j)
  where
    go : (b : Bool) → (if b then zero else zero) ≡ zero
    go true = refl
    go false = refl
on_none v j = refl

pub on_less : (v : Value) (j c d : ℕ) → c ≤ d → on v j c ≤ on v j d
on_less (Names i) j c d le = go (i.0 == j)
  where
    go : (b : Bool) → (if b then c else 0) ≤ (if b then d else 0)
    go true = le
    go false = omega arith
on_less v j c d le = omega arith

abbrev pub gain : List Shape → (object part : ℕ) → Doing → ℕ
gain shapes j n (Treating v (begins by done) tasks) = on v j (count n (parts_left shapes tasks))
gain shapes j n (Treating v (ends cause) tasks) = 0
gain shapes j n (Ending v) = on v j 1

abbrev pub loss : List Shape → (object part : ℕ) → Doing → ℕ
loss shapes j n (Treating v (begins by done) tasks) = 0
loss shapes j n (Treating v (ends cause) tasks) = on v j (count n (parts_left shapes tasks))
loss shapes j n (Ending v) = 0

abbrev pub gains : List Shape → (object part : ℕ) → List Doing → ℕ
gains shapes j n [] = 0
gains shapes j n (d ∷ ds) = gain shapes j n d + gains shapes j n ds

abbrev pub losses : List Shape → (object part : ℕ) → List Doing → ℕ
losses shapes j n [] = 0
losses shapes j n (d ∷ ds) = loss shapes j n d + losses shapes j n ds

no_gain : (shapes : List Shape) (j n : ℕ) (v : Value) (treatment : Treatment) → gain shapes j n (Treating v treatment []) ≡ 0
no_gain shapes j n v (begins by done) = on_none v j
no_gain shapes j n v (ends cause) = refl

no_loss : (shapes : List Shape) (j n : ℕ) (v : Value) (treatment : Treatment) → loss shapes j n (Treating v treatment []) ≡ 0
no_loss shapes j n v (begins by done) = refl
no_loss shapes j n v (ends cause) = on_none v j

pub fewer_gains : (shapes : List Shape) (j n : ℕ) (ds es : List Doing) → Fewer ds es → gains shapes j n es ≡ gains shapes j n ds
fewer_gains shapes j n ds _ alike = refl
fewer_gains shapes j n (d ∷ ds) (_ ∷ es) (one d' f) = ap (λ (m : ℕ). gain shapes j n d + m) (fewer_gains shapes j n ds es f)
fewer_gains shapes j n (_ ∷ ds) es (none_left v treatment f) =
    let a = no_gain shapes j n v treatment in let b = fewer_gains shapes j n ds es f in omega (arith, a, b)

pub fewer_losses : (shapes : List Shape) (j n : ℕ) (ds es : List Doing) → Fewer ds es → losses shapes j n es ≡ losses shapes j n ds
fewer_losses shapes j n ds _ alike = refl
fewer_losses shapes j n (d ∷ ds) (_ ∷ es) (one d' f) = ap (λ (m : ℕ). loss shapes j n d + m) (fewer_losses shapes j n ds es f)
fewer_losses shapes j n (_ ∷ ds) es (none_left v treatment f) =
    let a = no_loss shapes j n v treatment in let b = fewer_losses shapes j n ds es f in omega (arith, a, b)

-- Nothing waits for a part of this object.
abbrev pub Lasts : (object : ℕ) → Doing → Type 0
Lasts o (Treating v (begins by done) tasks) = v ≡ name o → ⊥
Lasts o (Treating v (ends cause) tasks) = Unit {0}
Lasts o (Ending v) = v ≡ name o → ⊥

lasts_gain : (shapes : List Shape) (o n : ℕ) (d : Doing) → Lasts o d → gain shapes o n d ≡ 0
lasts_gain shapes o n (Treating v (begins by done) tasks) ne = on_not v o (count n (parts_left shapes tasks)) ne
lasts_gain shapes o n (Treating v (ends cause) tasks) h = refl
lasts_gain shapes o n (Ending v) ne = on_not v o 1 ne

pub lasting_gain : (shapes : List Shape) (o n : ℕ) (ds : List Doing) → Of (Lasts o) ds → gains shapes o n ds ≡ 0
lasting_gain shapes o n [] h = refl
lasting_gain shapes o n (d ∷ ds) h = let a = lasts_gain shapes o n d h.0 in let b = lasting_gain shapes o n ds h.1 in omega (arith, a, b)
