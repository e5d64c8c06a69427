-- Lists of values, of which some components are tracked.

use Rattle.std.proofs.Common.{◌≡◌, ◌≢◌, ℕ, zero, suc, ◌+◌, ◌<◌, Bool, true, false, List, [], ◌∷◌, ◌++◌, length, Option, Some, None, refl, sym, ap, ◌∙◌, inl, inr, subst, arith, length-set}
use Rattle.std.specs.Prelude.{◌==◌, if◌then◌else◌}
use Rattle.std.specs.List.{slice_get, slice_set, slice_index_or}
use Rattle.std.proofs.lemmas.Bool.Decides.{eqb_tells}
use Rattle.std.proofs.lemmas.List.{set-set, set_comm, set-append_left, get_or-set_same, get_or-set_other}
use Rattle.ada_meaning.specs.declared.state.Id.{Id}
use Rattle.ada_meaning.specs.declared.state.Mode.{Mode}
use Rattle.ada_meaning.specs.declared.state.Mode.TheVariants.{Running, Raising, Exiting, Returning}
use Rattle.ada_meaning.specs.declared.state.Value.{Value}
use Rattle.ada_meaning.specs.declared.state.Value.TheVariants.{Null}
use Rattle.ada_meaning.specs.Frame.{Frame}
use Rattle.ada_meaning.specs.Frame as frame
use Rattle.ada_meaning.specs.Step.{first_or}
use Rattle.ada_tracked.specs.Frames.{number_at, blank_values, values_at}
use Rattle.ada_tracked.specs.Seen.{IsOther, awaits_holder, HoldersAreOther, AreBelow, IsNoneOf, AreApart, refers, AreNoReferences}
use Rattle.ada_tracked.specs.Looking.{LandsElsewhere}

-- Numbers that are one, or not.
pub same_number : (a : ℕ) → (a == a) ≡ true
same_number a = elim (eqb_tells a a) [ inl h ↦ h.0 | inr h ↦ absurd (h.1 refl) ]

pub is_same : (a b : ℕ) → (a == b) ≡ true → a ≡ b
is_same a b e = elim (eqb_tells a b) [ inl h ↦ h.1 | inr h ↦ absurd (cc) ]

pub is_apart : (a b : ℕ) → (a == b) ≡ false → a ≢ b
is_apart a b e = elim (eqb_tells a b) [ inl h ↦ absurd (cc) | inr h ↦ h.1 ]

pub apart_is : (a b : ℕ) → a ≢ b → (a == b) ≡ false
apart_is a b ne = elim (eqb_tells a b) [ inl h ↦ absurd (ne h.1) | inr h ↦ h.0 ]

pub shifted_same : (base c d : ℕ) → (base + c == base + d) ≡ (c == d)
shifted_same base c d = elim (eqb_tells c d) [ inl h ↦ (ap (λ (n : ℕ). base + n == base + d) h.1 ∙ same_number (base + d) ∙ sym h.0) | inr h ↦ (apart_is (base + c) (base + d) (λ e. h.1 (omega (arith, e))) ∙ sym h.0) ]

-- Entries of a list that changes.
pub set_here : {X : Type 0} (xs : List X) (i : ℕ) (x y : X) → slice_get xs i ≡ Some x → slice_get (slice_set xs i y) i ≡ Some y
set_here [] i x y is = absurd (cc)
set_here (z ∷ xs) zero x y is = refl
set_here (z ∷ xs) (suc i) x y is = set_here xs i x y is

pub set_there : {X : Type 0} (xs : List X) (i j : ℕ) (y : X) → j ≢ i → slice_get (slice_set xs i y) j ≡ slice_get xs j
set_there [] i j y ne = refl
set_there (z ∷ xs) zero zero y ne = absurd (ne refl)
set_there (z ∷ xs) zero (suc j) y ne = refl
set_there (z ∷ xs) (suc i) zero y ne = refl
set_there (z ∷ xs) (suc i) (suc j) y ne = set_there xs i j y (λ e. ne (ap suc e))

pub add_there : {X : Type 0} (xs : List X) (x y : X) (i : ℕ) → slice_get xs i ≡ Some y → slice_get (xs ++ x ∷ []) i ≡ Some y
add_there [] x y i is = absurd (cc)
add_there (z ∷ xs) x y zero is = is
add_there (z ∷ xs) x y (suc i) is = add_there xs x y i is

pub set_add : {X : Type 0} (xs : List X) (x y z : X) (i : ℕ) → slice_get xs i ≡ Some y → slice_set (xs ++ x ∷ []) i z ≡ slice_set xs i z ++ x ∷ []
set_add [] x y z i is = absurd (cc)
set_add (u ∷ xs) x y z zero is = refl
set_add (u ∷ xs) x y z (suc i) is = ap (λ (us : List _). u ∷ us) (set_add xs x y z i is)

pub set_length : {X : Type 0} (xs : List X) (i : ℕ) (y : X) → length (slice_set xs i y) ≡ length xs
set_length xs i y = length-set xs i y

pub read_within : {X : Type 0} (xs : List X) (i : ℕ) (d : X) → i < length xs → slice_get xs i ≡ Some (slice_index_or xs i d)
read_within [] i d lt = absurd (omega (arith, lt))
read_within (x ∷ xs) zero d lt = refl
read_within (x ∷ xs) (suc i) d lt = read_within xs i d (omega (arith, lt))

-- Of a list and one that goes on as it does: what is read and set in its front.
pub read_front : {X : Type 0} (xs ys : List X) (i : ℕ) (d : X) → i < length xs → slice_index_or (xs ++ ys) i d ≡ slice_index_or xs i d
read_front [] ys i d lt = absurd (omega (arith, lt))
read_front (x ∷ xs) ys zero d lt = refl
read_front (x ∷ xs) ys (suc i) d lt = read_front xs ys i d (omega (arith, lt))

pub set_front : {X : Type 0} (xs ys : List X) (i : ℕ) (y : X) → i < length xs → slice_set (xs ++ ys) i y ≡ slice_set xs i y ++ ys
set_front xs ys i y lt = set-append_left xs ys i y lt

read_at_end : {X : Type 0} (xs ys : List X) (y d : X) → slice_index_or (xs ++ y ∷ ys) (length xs) d ≡ y
read_at_end [] ys y d = refl
read_at_end (x ∷ xs) ys y d = read_at_end xs ys y d

set_at_end : {X : Type 0} (xs ys : List X) (y z : X) → slice_set (xs ++ y ∷ ys) (length xs) z ≡ xs ++ z ∷ ys
set_at_end [] ys y z = refl
set_at_end (x ∷ xs) ys y z = ap (λ (us : List _). x ∷ us) (set_at_end xs ys y z)

pushed_length : {X : Type 0} (xs : List X) (x : X) → length (xs ++ x ∷ []) ≡ length xs + 1
pushed_length [] x = refl
pushed_length (y ∷ xs) x = let h = pushed_length xs x in omega (arith, h)

pushed : {X : Type 0} (xs ys : List X) (x : X) → (xs ++ x ∷ []) ++ ys ≡ xs ++ x ∷ ys
pushed [] ys x = refl
pushed (y ∷ xs) ys x = ap (λ (us : List _). y ∷ us) (pushed xs ys x)

-- What waits for the object of a component has another one than this, where no jump is on its way: all that is asked is that this be so where something waits.
holders_other : (o : Id) (k : List (Frame Value)) (vs : List Value) → (awaits_holder k ≡ true → IsOther o (first_or Null vs)) → HoldersAreOther o Running k vs
holders_other o [] vs h = tt
holders_other o (frame.Elaborates ds fs hs ∷ k) vs h = tt
holders_other o (frame.Does fs ∷ k) vs h = tt
holders_other o (frame.Decides fs branches ∷ k) vs h = tt
holders_other o (frame.Repeats condition fs ∷ k) vs h = tt
holders_other o (frame.Turns condition fs ∷ k) vs h = tt
holders_other o (frame.Ranges x fs ∷ k) vs h = tt
holders_other o (frame.Counts x value last fs ∷ k) vs h = tt
holders_other o (frame.Exits ∷ k) vs h = tt
holders_other o (frame.Handles hs ∷ k) vs h = tt
holders_other o (frame.Closes ∷ k) vs h = tt
holders_other o (frame.Leaves mode ∷ k) vs h = tt
holders_other o (frame.Calls procedure b actuals ∷ k) vs h = tt
holders_other o (frame.Returns actuals references ∷ k) vs h = tt
holders_other o (frame.Evaluates right ∷ k) vs h = tt
holders_other o (frame.Computes e ∷ k) vs h = tt
holders_other o (frame.Follows cs ∷ k) vs h = tt
holders_other o (frame.TestsNull equal ∷ k) vs h = tt
holders_other o (frame.Refers p ∷ k) vs h = tt
holders_other o (frame.RefersIn place record_type ∷ k) vs h = tt
holders_other o (frame.Opens path ∷ k) vs h = tt
holders_other o (frame.OpensIn c ∷ k) vs h = tt
holders_other o (frame.Continues links ∷ k) vs h = tt
holders_other o (frame.Applies operator ∷ k) vs h = tt
holders_other o (frame.AppliesAlone operator ∷ k) vs h = tt
holders_other o (frame.Fills items ∷ k) vs h = tt
holders_other o (frame.Copies c record_type ∷ k) vs h = tt
holders_other o (frame.Creates access count ∷ k) vs h = tt
holders_other o (frame.Stores x ∷ k) vs h = tt
holders_other o (frame.Targets c right ∷ k) vs h = h refl
holders_other o (frame.StoresIn v c ∷ k) vs h = tt
holders_other o (frame.TargetsRecord c record_type items ∷ k) vs h = tt
holders_other o (frame.StoresRecord v c count ∷ k) vs h = tt
holders_other o (frame.Assigns record_type ∷ k) vs h = tt
holders_other o (frame.Receives c ∷ k) vs h = h refl
holders_other o (frame.FreesIn access c ∷ k) vs h = h refl
holders_other o (frame.Declares x ∷ k) vs h = tt
holders_other o (frame.DeclaresRecord x record_type ∷ k) vs h = tt
holders_other o (frame.Treats v treatment tasks ∷ k) vs h = tt
holders_other o (frame.Awaits v by done of part tasks ∷ k) vs h = tt
holders_other o (frame.Confines ∷ k) vs h = tt
holders_other o (frame.Resumes mode ∷ k) vs h = tt
holders_other o (frame.Writes ∷ k) vs h = tt
holders_other o (frame.Ends v ∷ k) vs h = tt
holders_other o (frame.GivesBack v cause pool ∷ k) vs h = tt
holders_other o (frame.Clears x ∷ k) vs h = tt
holders_other o (frame.ClearsIn v c ∷ k) vs h = tt

-- So it is where nothing waits, in each mode,
pub clear : (o : Id) (m : Mode) (k : List (Frame Value)) (vs : List Value) → awaits_holder k ≡ false → HoldersAreOther o m k vs
clear o Running k vs calm = holders_other o k vs (λ e. absurd (cc))
clear o (Raising e) k vs calm = tt
clear o Exiting k vs calm = tt
clear o Returning k vs calm = tt

-- and where another object is found for what waits.
pub landed : (o : Id) (k : List (Frame Value)) (v : Value) (vs : List Value) → LandsElsewhere o (awaits_holder k) v → HoldersAreOther o Running k (v ∷ vs)
landed o k v vs lands = holders_other o k (v ∷ vs) (λ e. subst (λ (awaits : Bool). LandsElsewhere o awaits v) e lands)

-- A component that is none of those that are tracked.
not_first : (b : Bool) (n : ℕ) (m : Option ℕ) → (if b then Some n else m) ≡ None → (b ≡ false) × (m ≡ None)
not_first true n m e = absurd (cc)
not_first false n m e = (refl, e)

pub untracked_read : (bs : List ℕ) (n c : ℕ) (vs : List Value) → number_at bs n c ≡ None → slice_get (blank_values bs vs) c ≡ slice_get vs c
untracked_read [] n c vs e = refl
untracked_read (b ∷ bs) n c vs e =
    let h = not_first (c == b) n (number_at bs (n + 1) c) e in
    set_there (blank_values bs vs) b c Null (is_apart c b h.0) ∙ untracked_read bs (n + 1) c vs h.1

pub untracked_set : (bs : List ℕ) (n c : ℕ) (v : Value) (vs : List Value) → number_at bs n c ≡ None → blank_values bs (slice_set vs c v) ≡ slice_set (blank_values bs vs) c v
untracked_set [] n c v vs e = refl
untracked_set (b ∷ bs) n c v vs e =
    let h = not_first (c == b) n (number_at bs (n + 1) c) e in
    ap (λ (us : List Value). slice_set us b Null) (untracked_set bs (n + 1) c v vs h.1) ∙ set_comm (blank_values bs vs) c b v Null (is_apart c b h.0)

pub untracked_values : (bs : List ℕ) (n c : ℕ) (v : Value) (vs : List Value) → number_at bs n c ≡ None → values_at bs (slice_set vs c v) ≡ values_at bs vs
untracked_values [] n c v vs e = refl
untracked_values (b ∷ bs) n c v vs e =
    let h = not_first (c == b) n (number_at bs (n + 1) c) e in
    let one : slice_index_or (slice_set vs c v) b Null ≡ slice_index_or vs b Null = get_or-set_other vs c b v Null (λ q. is_apart c b h.0 (sym q)) in
    let more = untracked_values bs (n + 1) c v vs h.1 in
    cc (one, more)

-- One of them: the first, or one behind it.
first_or_behind : (c b n i : ℕ) (m : Option ℕ) (P : Type 0) → (if c == b then Some n else m) ≡ Some i → (c ≡ b → n ≡ i → P) → ((c == b) ≡ false → m ≡ Some i → P) → P
first_or_behind c b n i m P e at_first after = by_first (c == b) refl e
  where
    by_first : (q : Bool) → (c == b) ≡ q → (if q then Some n else m) ≡ Some i → P
    by_first true t is = at_first (is_same c b t) (cc)
    by_first false t is = after t is

pub tracked_below : (bs : List ℕ) (n c i bound : ℕ) → number_at bs n c ≡ Some i → AreBelow bound bs → c < bound
tracked_below [] n c i bound e below = absurd (cc)
tracked_below (b ∷ bs) n c i bound e below =
    first_or_behind c b n i (number_at bs (n + 1) c) (c < bound) e (λ same here. subst (λ (m : ℕ). m < bound) (sym same) below.0)
    (λ t is. tracked_below bs (n + 1) c i bound is below.1)

pub tracked_read : (bs : List ℕ) (n c i : ℕ) (ps vs : List Value) → length ps ≡ n → number_at bs n c ≡ Some i → slice_index_or (ps ++ values_at bs vs) i Null ≡ slice_index_or vs c Null
tracked_read [] n c i ps vs l e = absurd (cc)
tracked_read (b ∷ bs) n c i ps vs l e =
    let x = slice_index_or vs b Null in
    let len : length (ps ++ x ∷ []) ≡ n + 1 = pushed_length ps x ∙ ap (λ (m : ℕ). m + 1) l in
    first_or_behind c b n i (number_at bs (n + 1) c) (slice_index_or (ps ++ values_at (b ∷ bs) vs) i Null ≡ slice_index_or vs c Null) e
    (λ same here. ap (λ (m : ℕ). slice_index_or (ps ++ values_at (b ∷ bs) vs) m Null) (sym here ∙ sym l)
    ∙ read_at_end ps (values_at bs vs) (slice_index_or vs b Null) Null ∙ ap (λ (m : ℕ). slice_index_or vs m Null) (sym same))
    (λ t is. ap (λ (us : List Value). slice_index_or us i Null) (sym (pushed ps (values_at bs vs) x)) ∙ tracked_read bs (n + 1) c i (ps ++ x ∷ []) vs len is)

-- Others are read as before.
values_apart : (bs : List ℕ) (c : ℕ) (v : Value) (vs : List Value) → IsNoneOf c bs → values_at bs (slice_set vs c v) ≡ values_at bs vs
values_apart [] c v vs none = refl
values_apart (b ∷ bs) c v vs none =
    let one : slice_index_or (slice_set vs c v) b Null ≡ slice_index_or vs b Null = get_or-set_other vs c b v Null (λ q. is_apart c b none.0 (sym q)) in
    let more = values_apart bs c v vs none.1 in
    cc (one, more)

pub tracked_set : (bs : List ℕ) (n c i : ℕ) (v : Value) (ps vs : List Value) → length ps ≡ n → AreApart bs → AreBelow (length vs) bs → number_at bs n c ≡ Some i → slice_set (ps ++ values_at bs vs) i v ≡ ps ++ values_at bs (slice_set vs c v)
tracked_set [] n c i v ps vs l apart below e = absurd (cc)
tracked_set (b ∷ bs) n c i v ps vs l apart below e =
    first_or_behind c b n i (number_at bs (n + 1) c) (slice_set (ps ++ values_at (b ∷ bs) vs) i v ≡ ps ++ values_at (b ∷ bs) (slice_set vs c v)) e
    at_first (λ t is. behind t (tracked_set bs (n + 1) c i v (ps ++ slice_index_or vs b Null ∷ []) vs len apart.1 below.1 is))
  where
    len : length (ps ++ slice_index_or vs b Null ∷ []) ≡ n + 1
    len = pushed_length ps (slice_index_or vs b Null) ∙ ap (λ (m : ℕ). m + 1) l

    at_first : c ≡ b → n ≡ i → slice_set (ps ++ values_at (b ∷ bs) vs) i v ≡ ps ++ values_at (b ∷ bs) (slice_set vs c v)
    at_first here is =
        let lt : c < length vs = subst (λ (m : ℕ). m < length vs) (sym here) below.0 in
        let first : slice_index_or (slice_set vs c v) b Null ≡ v = ap (λ (m : ℕ). slice_index_or (slice_set vs c v) m Null) (sym here) ∙ get_or-set_same vs c v Null lt in
        let none : IsNoneOf c bs = subst (λ (m : ℕ). IsNoneOf m bs) (sym here) apart.0 in
        let more = values_apart bs c v vs none in
        ap (λ (m : ℕ). slice_set (ps ++ values_at (b ∷ bs) vs) m v) (sym is ∙ sym l) ∙ set_at_end ps (values_at bs vs) (slice_index_or vs b Null) v
        ∙ ap (λ (us : List Value). ps ++ us) (ap (λ (u : Value). u ∷ values_at bs vs) (sym first) ∙ ap (λ (us : List Value). slice_index_or (slice_set vs c v) b Null ∷ us) (sym more))

    behind : (c == b) ≡ false → slice_set ((ps ++ slice_index_or vs b Null ∷ []) ++ values_at bs vs) i v ≡ (ps ++ slice_index_or vs b Null ∷ []) ++ values_at bs (slice_set vs c v) → slice_set (ps ++ values_at (b ∷ bs) vs) i v ≡ ps ++ values_at (b ∷ bs) (slice_set vs c v)
    behind t more =
        let x = slice_index_or vs b Null in
        let kept : slice_index_or (slice_set vs c v) b Null ≡ x = get_or-set_other vs c b v Null (λ q. is_apart c b t (sym q)) in
        ap (λ (us : List Value). slice_set us i v) (sym (pushed ps (values_at bs vs) x)) ∙ more ∙ pushed ps (values_at bs (slice_set vs c v)) x
        ∙ ap (λ (u : Value). ps ++ u ∷ values_at bs (slice_set vs c v)) (sym kept)

over_here : (bs : List ℕ) (b d : ℕ) (v u : Value) (vs : List Value) → slice_set (blank_values bs (slice_set vs b v)) b u ≡ slice_set (blank_values bs vs) b u → b ≡ d → slice_set (slice_set (blank_values bs (slice_set vs b v)) d Null) b u ≡ slice_set (slice_set (blank_values bs vs) d Null) b u
over_here bs b d v u vs more same =
    ap (λ (m : ℕ). slice_set (slice_set (blank_values bs (slice_set vs b v)) m Null) b u) (sym same) ∙ set-set (blank_values bs (slice_set vs b v)) b Null u
    ∙ more ∙ sym (set-set (blank_values bs vs) b Null u) ∙ ap (λ (m : ℕ). slice_set (slice_set (blank_values bs vs) m Null) b u) same

over_there : (bs : List ℕ) (b d : ℕ) (v u : Value) (vs : List Value) → slice_set (blank_values bs (slice_set vs b v)) b u ≡ slice_set (blank_values bs vs) b u → b ≢ d → slice_set (slice_set (blank_values bs (slice_set vs b v)) d Null) b u ≡ slice_set (slice_set (blank_values bs vs) d Null) b u
over_there bs b d v u vs more ne =
    set_comm (blank_values bs (slice_set vs b v)) d b Null u (λ q. ne (sym q)) ∙ ap (λ (us : List Value). slice_set us d Null) more
    ∙ set_comm (blank_values bs vs) b d u Null ne

blank_over : (bs : List ℕ) (b : ℕ) (v u : Value) (vs : List Value) → slice_set (blank_values bs (slice_set vs b v)) b u ≡ slice_set (blank_values bs vs) b u
blank_over [] b v u vs = set-set vs b v u
blank_over (d ∷ bs) b v u vs =
    elim (eqb_tells b d) [ inl h ↦ over_here bs b d v u vs (blank_over bs b v u vs) h.1 | inr h ↦ over_there bs b d v u vs (blank_over bs b v u vs) h.1 ]

pub tracked_blank : (bs : List ℕ) (n c i : ℕ) (v : Value) (vs : List Value) → number_at bs n c ≡ Some i → blank_values bs (slice_set vs c v) ≡ blank_values bs vs
tracked_blank [] n c i v vs e = absurd (cc)
tracked_blank (b ∷ bs) n c i v vs e =
    first_or_behind c b n i (number_at bs (n + 1) c) (slice_set (blank_values bs (slice_set vs c v)) b Null ≡ slice_set (blank_values bs vs) b Null) e
    (λ same here. subst (λ (m : ℕ). slice_set (blank_values bs (slice_set vs m v)) b Null ≡ slice_set (blank_values bs vs) b Null) (sym same) (blank_over bs b v Null vs))
    (λ t is. ap (λ (us : List Value). slice_set us b Null) (tracked_blank bs (n + 1) c i v vs is))

-- What a tracked component holds is no reference.
pub tracked_no_reference : (bs : List ℕ) (n c i : ℕ) (vs : List Value) → number_at bs n c ≡ Some i → AreNoReferences (values_at bs vs) → refers (slice_index_or vs c Null) ≡ false
tracked_no_reference [] n c i vs e none = absurd (cc)
tracked_no_reference (b ∷ bs) n c i vs e none =
    first_or_behind c b n i (number_at bs (n + 1) c) (refers (slice_index_or vs c Null) ≡ false) e
    (λ same here. subst (λ (m : ℕ). refers (slice_index_or vs m Null) ≡ false) (sym same) none.0)
    (λ t is. tracked_no_reference bs (n + 1) c i vs is none.1)
