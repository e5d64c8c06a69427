-- What variables get back from a call (6.4.1), and what is left of them where it raises an exception: nothing relies on Integers and Booleans, and a
-- variable that was handed over owns what its formal parameter owns.

use Rattle.std.proofs.Common.{◌≡◌, ◌≢◌, ℕ, zero, suc, ◌+◌, ◌≤◌, Bool, true, false, ◌&&◌, List, [], ◌∷◌, ◌++◌, length, refl, sym, ap, ◌∙◌, ◌⊎◌, inl, inr, arith}
use Rattle.std.specs.Prelude.{Option, Some, None}
use Rattle.std.specs.List.{slice_get, slice_set}
use Rattle.std.proofs.lemmas.Bool.{and_parts}
use Rattle.ada_effects.specs.Effects.{Implicit}
use Rattle.ada_program.specs.declared.program.FormalMode.{FormalMode}
use Rattle.ada_program.specs.declared.program.FormalMode.TheVariants.{In, InOut}
use Rattle.ada_program.specs.declared.program.ScalarType.{ScalarType}
use Rattle.ada_program.specs.declared.program.ScalarType.TheVariants as scalar_type
use Rattle.ada_program.specs.declared.program.VariableKind.{VariableKind}
use Rattle.ada_program.specs.declared.program.VariableKind.TheVariants as variable
use Rattle.ada_program.specs.Form.{PathForm, ActualForm, in_value, in_null, in_access, in_record, in_out_path, in_out_access, in_out_component, in_out_record}
use Rattle.ada_program.specs.ProgramForm.{TypeForm, VariableForm, ProgramForm}
use Rattle.ada_program.specs.WellFormed.{is_type, scalar_of, access_of, variable_kind, root_kind, selectors_kind, stands_alone, actual_fits, actuals_fit, Profile, suits_profile}
use Rattle.ada_flow.specs.declared.rule.Hold.{Hold}
use Rattle.ada_flow.specs.declared.rule.Hold.TheVariants as hold
use Rattle.ada_flow.specs.declared.rule.Region.TheVariants.{Whole}
use Rattle.ada_flow.specs.Flow.{Holds, hold_at, is_as_good, variable_access, left_by_move, handed_back, Keeping, others_kept, first_kept, unless_kept, left_unkept, gives_back, all_give_back, owed_by, owed_from, is_kept}
use Rattle.ada_meaning.specs.declared.state.Value.{Value}
use Rattle.ada_meaning.specs.declared.state.Value.TheVariants.{Null, Names}
use Rattle.ada_meaning.specs.declared.state.Id.{Id}
use Rattle.ada_meaning.specs.Step.{copied_back}
use Rattle.ada_sound.proofs.Values.{read_same, read_other, same_or_not}
use Rattle.ada_sound.proofs.Fits.{IsSaid, IsPlace, IsPlain, plain_by, place_at}
use Rattle.ada_sound.proofs.Activations.{Since}
use Rattle.ada_sound.proofs.Invariant.{Caller, referenced_in, GetLost, KeepsAll, is_kept_at, handed, handed_at, owed_in, Waits, given_in, outer_of}

-- A variable whose value is an Integer or a Boolean has no access type.
plain_root : (types : List TypeForm) (t : ScalarType) (of_record : Bool) (kind : Option VariableKind) (cs : List ℕ) → (is_type t (scalar_of (selectors_kind types (root_kind of_record kind) cs)) && stands_alone cs) ≡ true → access_of kind ≡ None
plain_root types t of_record None cs fits = refl
plain_root types t of_record (Some variable.Integer) cs fits = refl
plain_root types t of_record (Some variable.Boolean) cs fits = refl
plain_root types t of_record (Some (variable.Access access)) (c ∷ cs) fits = absurd (cc (and_parts (is_type t (scalar_of (selectors_kind types (root_kind of_record (Some (variable.Access access))) (c ∷ cs)))) false fits).1)
plain_root types t true (Some (variable.Access access)) [] fits = absurd (cc fits)
plain_root types t false (Some (variable.Access access)) [] fits = absurd (cc fits)
plain_root types t of_record (Some (variable.Record object)) (c ∷ cs) fits = absurd (cc (and_parts (is_type t (scalar_of (selectors_kind types (root_kind of_record (Some (variable.Record object))) (c ∷ cs)))) false fits).1)
plain_root types t true (Some (variable.Record object)) [] fits = absurd (cc fits)
plain_root types t false (Some (variable.Record object)) [] fits = absurd (cc fits)

-- So it is of each Integer and each Boolean that gets something back, and nothing relies on one.
module _ (types : List TypeForm) (variables : List VariableForm) (holds : Holds) (lost : (x : ℕ) → variable_access variables x ≡ None → hold_at holds x ≡ hold.Lost) where
  one_plain : (kind : VariableKind) (path : PathForm) → actual_fits types variables kind (in_out_path path) ≡ true → variable_access variables path.root ≡ None
  one_plain variable.Integer path fits = plain_root types scalar_type.Integer path.of_record (variable_kind variables path.root) path.selectors fits
  one_plain variable.Boolean path fits = plain_root types scalar_type.Boolean path.of_record (variable_kind variables path.root) path.selectors fits
  one_plain (variable.Access access) path fits = absurd (cc fits)
  one_plain (variable.Record object) path fits = absurd (cc fits)

  all_lost : (kinds : List VariableKind) (actuals : List ActualForm) → actuals_fit types variables kinds actuals ≡ true → GetLost actuals holds
  all_lost kinds [] fits = tt
  all_lost [] (a ∷ rest) fits = absurd (cc fits)
  all_lost (kind ∷ kinds) (in_value e ∷ rest) fits = all_lost kinds rest (and_parts _ _ fits).1
  all_lost (kind ∷ kinds) (in_null ∷ rest) fits = all_lost kinds rest (and_parts _ _ fits).1
  all_lost (kind ∷ kinds) (in_access path ∷ rest) fits = all_lost kinds rest (and_parts _ _ fits).1
  all_lost (kind ∷ kinds) (in_record p ∷ rest) fits = all_lost kinds rest (and_parts _ _ fits).1
  all_lost (kind ∷ kinds) (in_out_component path ∷ rest) fits = all_lost kinds rest (and_parts _ _ fits).1
  all_lost (kind ∷ kinds) (in_out_record p ∷ rest) fits = all_lost kinds rest (and_parts _ _ fits).1
  all_lost (kind ∷ kinds) (in_out_path path ∷ rest) fits = (lost path.root (one_plain kind path (and_parts _ _ fits).0), all_lost kinds rest (and_parts _ _ fits).1)
  all_lost (kind ∷ kinds) (in_out_access path ∷ rest) fits = all_lost kinds rest (and_parts _ _ fits).1

  pub given_lost : (profile : Option Profile) (actuals : List ActualForm) → suits_profile types variables profile actuals ≡ true → GetLost actuals holds
  given_lost None actuals suits = absurd (cc suits)
  given_lost (Some profile) actuals suits = all_lost profile.kinds actuals (and_parts _ _ suits).0

-- What is lost stays lost where less is known.
still_lost : (g h : Hold) → is_as_good g h ≡ true → g ≡ hold.Lost → h ≡ hold.Lost
still_lost g hold.Null good lost = absurd (cc (rw lost at good))
still_lost g (hold.Kept r) good lost = absurd (cc (rw lost at good))
still_lost g (hold.Own r) good lost = absurd (cc (rw lost at good))
still_lost g (hold.Alias r) good lost = absurd (cc (rw lost at good))
still_lost g hold.Lost good lost = refl

pub get_less : (actuals : List ActualForm) (holds less : Holds) → ((x : ℕ) → is_as_good (hold_at holds x) (hold_at less x) ≡ true) → GetLost actuals holds → GetLost actuals less
get_less [] holds less good lost = tt
get_less (in_value e ∷ rest) holds less good lost = get_less rest holds less good lost
get_less (in_null ∷ rest) holds less good lost = get_less rest holds less good lost
get_less (in_access path ∷ rest) holds less good lost = get_less rest holds less good lost
get_less (in_record p ∷ rest) holds less good lost = get_less rest holds less good lost
get_less (in_out_component path ∷ rest) holds less good lost = get_less rest holds less good lost
get_less (in_out_record p ∷ rest) holds less good lost = get_less rest holds less good lost
get_less (in_out_path path ∷ rest) holds less good lost = (still_lost (hold_at holds path.root) (hold_at less path.root) (good path.root) lost.0, get_less rest holds less good lost.1)
get_less (in_out_access path ∷ rest) holds less good lost = get_less rest holds less good lost

-- A variable is handed over, or it isn't.
abbrev IsNone : List ActualForm → ℕ → Type 0
IsNone actuals x = (i : ℕ) → handed_at actuals i ≡ Some x → ⊥

abbrev HandedOrNot : List ActualForm → ℕ → Type 0
HandedOrNot actuals x = ((i : ℕ) × (handed_at actuals i ≡ Some x)) ⊎ IsNone actuals x

this_or_not : (h : Option ℕ) (x : ℕ) → (h ≡ Some x) ⊎ (h ≢ Some x)
this_or_not None x = inr (λ e. cc e)
this_or_not (Some y) x = elim (same_or_not y x) [ inl e ↦ inl (ap Some e) | inr ne ↦ inr (λ e. ne (cc e)) ]

none_more : (a : ActualForm) (rest : List ActualForm) (x : ℕ) → handed a ≢ Some x → IsNone rest x → IsNone (a ∷ rest) x
none_more a rest x ne none zero e = ne e
none_more a rest x ne none (suc i) e = none i e

handed_or_not : (actuals : List ActualForm) (x : ℕ) → HandedOrNot actuals x
handed_or_not [] x = inr (λ i e. cc e)
handed_or_not (a ∷ rest) x = go (this_or_not (handed a) x) (handed_or_not rest x)
  where
    go : (handed a ≡ Some x) ⊎ (handed a ≢ Some x) → HandedOrNot rest x → HandedOrNot (a ∷ rest) x
    go (inl e) later = inl (0, e)
    go (inr ne) (inl (i, e)) = inl (suc i, e)
    go (inr ne) (inr none) = inr (none_more a rest x ne none)

-- It is handed over once.
abbrev IsOnce : List ActualForm → ℕ → Type 0
IsOnce actuals x = (i j : ℕ) → handed_at actuals i ≡ Some x → handed_at actuals j ≡ Some x → i ≡ j

once_later : (a : ActualForm) (rest : List ActualForm) (x : ℕ) → IsOnce (a ∷ rest) x → IsOnce rest x
once_later a rest x once i j e f = let same = once (suc i) (suc j) e f in omega (arith, same)

none_later : (a : ActualForm) (rest : List ActualForm) (x : ℕ) → IsOnce (a ∷ rest) x → handed a ≡ Some x → IsNone rest x
none_later a rest x once is j e = let same = once 0 (suc j) is e in absurd (omega (arith, same))

not_here : (path : PathForm) (rest : List ActualForm) (x j : ℕ) → IsOnce (in_out_access path ∷ rest) x → handed_at rest j ≡ Some x → x ≢ path.root
not_here path rest x j once is e = let same = once 0 (suc j) (ap Some (sym e)) is in omega (arith, same)

-- Where an exception is raised: what was not handed over is as it was, and so is what is kept.
abbrev moved_unless : Bool → Hold → Hold
moved_unless true h = h
moved_unless false h = left_by_move h

unless_other : (kept : Bool) (y : ℕ) (holds : Holds) (x : ℕ) → x ≢ y → hold_at (unless_kept kept y holds) x ≡ hold_at holds x
unless_other true y holds x ne = refl
unless_other false y holds x ne = read_other holds y x (left_by_move (hold_at holds y)) hold.Lost ne

moved_here : (holds : Holds) (x : ℕ) → hold_at (slice_set holds x (left_by_move (hold_at holds x))) x ≡ left_by_move (hold_at holds x)
moved_here [] x = refl
moved_here (h ∷ hs) zero = refl
moved_here (h ∷ hs) (suc x) = moved_here hs x

unless_here : (kept : Bool) (holds : Holds) (x : ℕ) → hold_at (unless_kept kept x holds) x ≡ moved_unless kept (hold_at holds x)
unless_here true holds x = refl
unless_here false holds x = moved_here holds x

left_other : (kept : Keeping) (actuals : List ActualForm) (holds : Holds) (x : ℕ) → IsNone actuals x → hold_at (left_unkept kept actuals holds) x ≡ hold_at holds x
left_other kept [] holds x none = refl
left_other kept (in_value e ∷ rest) holds x none = left_other (others_kept kept) rest holds x (λ i is. none (suc i) is)
left_other kept (in_null ∷ rest) holds x none = left_other (others_kept kept) rest holds x (λ i is. none (suc i) is)
left_other kept (in_access path ∷ rest) holds x none = left_other (others_kept kept) rest holds x (λ i is. none (suc i) is)
left_other kept (in_record p ∷ rest) holds x none = left_other (others_kept kept) rest holds x (λ i is. none (suc i) is)
left_other kept (in_out_component path ∷ rest) holds x none = left_other (others_kept kept) rest holds x (λ i is. none (suc i) is)
left_other kept (in_out_record p ∷ rest) holds x none = left_other (others_kept kept) rest holds x (λ i is. none (suc i) is)
left_other kept (in_out_path path ∷ rest) holds x none = left_other (others_kept kept) rest holds x (λ i is. none (suc i) is)
left_other kept (in_out_access path ∷ rest) holds x none =
    left_other (others_kept kept) rest (unless_kept (first_kept kept) path.root holds) x (λ i is. none (suc i) is)
    ∙ unless_other (first_kept kept) path.root holds x (λ e. none 0 (ap Some (sym e)))

first_is : (kept : Keeping) → first_kept kept ≡ is_kept_at kept 0
first_is [] = refl
first_is (b ∷ bs) = refl

others_are : (kept : Keeping) (i : ℕ) → is_kept_at (others_kept kept) i ≡ is_kept_at kept (suc i)
others_are [] i = refl
others_are (b ∷ bs) i = refl

left_here : (kept : Keeping) (actuals : List ActualForm) (holds : Holds) (x i : ℕ) → IsOnce actuals x → handed_at actuals i ≡ Some x → hold_at (left_unkept kept actuals holds) x ≡ moved_unless (is_kept_at kept i) (hold_at holds x)
left_here kept [] holds x i once is = absurd (cc is)
left_here kept (in_value e ∷ rest) holds x zero once is = absurd (cc is)
left_here kept (in_null ∷ rest) holds x zero once is = absurd (cc is)
left_here kept (in_access path ∷ rest) holds x zero once is = absurd (cc is)
left_here kept (in_record p ∷ rest) holds x zero once is = absurd (cc is)
left_here kept (in_out_component path ∷ rest) holds x zero once is = absurd (cc is)
left_here kept (in_out_record p ∷ rest) holds x zero once is = absurd (cc is)
left_here kept (in_out_path path ∷ rest) holds x zero once is = absurd (cc is)
left_here kept (in_out_access path ∷ rest) holds x zero once is =
    let here : path.root ≡ x = cc is in
    left_other (others_kept kept) rest (unless_kept (first_kept kept) path.root holds) x (none_later (in_out_access path) rest x once is)
    ∙ (rw (← first_is kept, here) (unless_here (first_kept kept) holds x))
left_here kept (in_value e ∷ rest) holds x (suc i) once is = rw (← others_are kept i) (left_here (others_kept kept) rest holds x i (once_later (in_value e) rest x once) is)
left_here kept (in_null ∷ rest) holds x (suc i) once is = rw (← others_are kept i) (left_here (others_kept kept) rest holds x i (once_later in_null rest x once) is)
left_here kept (in_access path ∷ rest) holds x (suc i) once is = rw (← others_are kept i) (left_here (others_kept kept) rest holds x i (once_later (in_access path) rest x once) is)
left_here kept (in_record p ∷ rest) holds x (suc i) once is = rw (← others_are kept i) (left_here (others_kept kept) rest holds x i (once_later (in_record p) rest x once) is)
left_here kept (in_out_component path ∷ rest) holds x (suc i) once is = rw (← others_are kept i) (left_here (others_kept kept) rest holds x i (once_later (in_out_component path) rest x once) is)
left_here kept (in_out_record p ∷ rest) holds x (suc i) once is = rw (← others_are kept i) (left_here (others_kept kept) rest holds x i (once_later (in_out_record p) rest x once) is)
left_here kept (in_out_path path ∷ rest) holds x (suc i) once is = rw (← others_are kept i) (left_here (others_kept kept) rest holds x i (once_later (in_out_path path) rest x once) is)
left_here kept (in_out_access path ∷ rest) holds x (suc i) once is =
    let other = unless_other (first_kept kept) path.root holds x (not_here path rest x i once is) in
    rw (← others_are kept i, ← other) (left_here (others_kept kept) rest (unless_kept (first_kept kept) path.root holds) x i (once_later (in_out_access path) rest x once) is)

-- At a normal end: what was not handed over is as it was, and what was is owned, or past the end.
abbrev IsBack : Hold → Type 0
IsBack h = (h ≡ hold.Own Whole) ⊎ (h ≡ hold.Lost)

back_other : (actuals : List ActualForm) (holds : Holds) (x : ℕ) → IsNone actuals x → hold_at (handed_back actuals holds) x ≡ hold_at holds x
back_other [] holds x none = refl
back_other (in_value e ∷ rest) holds x none = back_other rest holds x (λ i is. none (suc i) is)
back_other (in_null ∷ rest) holds x none = back_other rest holds x (λ i is. none (suc i) is)
back_other (in_access path ∷ rest) holds x none = back_other rest holds x (λ i is. none (suc i) is)
back_other (in_record p ∷ rest) holds x none = back_other rest holds x (λ i is. none (suc i) is)
back_other (in_out_component path ∷ rest) holds x none = back_other rest holds x (λ i is. none (suc i) is)
back_other (in_out_record p ∷ rest) holds x none = back_other rest holds x (λ i is. none (suc i) is)
back_other (in_out_path path ∷ rest) holds x none = back_other rest holds x (λ i is. none (suc i) is)
back_other (in_out_access path ∷ rest) holds x none =
    back_other rest (slice_set holds path.root (hold.Own Whole)) x (λ i is. none (suc i) is)
    ∙ read_other holds path.root x (hold.Own Whole) hold.Lost (λ e. none 0 (ap Some (sym e)))

back_here : (actuals : List ActualForm) (holds : Holds) (x i : ℕ) → IsOnce actuals x → handed_at actuals i ≡ Some x → IsBack (hold_at (handed_back actuals holds) x)
back_here [] holds x i once is = absurd (cc is)
back_here (in_value e ∷ rest) holds x zero once is = absurd (cc is)
back_here (in_null ∷ rest) holds x zero once is = absurd (cc is)
back_here (in_access path ∷ rest) holds x zero once is = absurd (cc is)
back_here (in_record p ∷ rest) holds x zero once is = absurd (cc is)
back_here (in_out_component path ∷ rest) holds x zero once is = absurd (cc is)
back_here (in_out_record p ∷ rest) holds x zero once is = absurd (cc is)
back_here (in_out_path path ∷ rest) holds x zero once is = absurd (cc is)
back_here (in_out_access path ∷ rest) holds x zero once is =
    let here : path.root ≡ x = cc is in
    rw (here, back_other rest (slice_set holds x (hold.Own Whole)) x (none_later (in_out_access path) rest x once is)) (read_same holds x (hold.Own Whole) hold.Lost)
back_here (in_value e ∷ rest) holds x (suc i) once is = back_here rest holds x i (once_later (in_value e) rest x once) is
back_here (in_null ∷ rest) holds x (suc i) once is = back_here rest holds x i (once_later in_null rest x once) is
back_here (in_access path ∷ rest) holds x (suc i) once is = back_here rest holds x i (once_later (in_access path) rest x once) is
back_here (in_record p ∷ rest) holds x (suc i) once is = back_here rest holds x i (once_later (in_record p) rest x once) is
back_here (in_out_component path ∷ rest) holds x (suc i) once is = back_here rest holds x i (once_later (in_out_component path) rest x once) is
back_here (in_out_record p ∷ rest) holds x (suc i) once is = back_here rest holds x i (once_later (in_out_record p) rest x once) is
back_here (in_out_path path ∷ rest) holds x (suc i) once is = back_here rest holds x i (once_later (in_out_path path) rest x once) is
back_here (in_out_access path ∷ rest) holds x (suc i) once is = back_here rest (slice_set holds path.root (hold.Own Whole)) x i (once_later (in_out_access path) rest x once) is

-- What a variable that is not lost holds then: what it held, if it was not handed over, or else what its formal parameter holds.
copied_other : (actuals : List ActualForm) (vs places : List Value) (holds : Holds) (x : ℕ) → IsNone actuals x → GetLost actuals holds → hold_at holds x ≢ hold.Lost → place_at (copied_back actuals vs places) x ≡ place_at places x
copied_other [] vs places holds x none lost ne = refl
copied_other (a ∷ rest) [] places holds x none lost ne = refl
copied_other (in_value e ∷ rest) (v ∷ vs) places holds x none lost ne = copied_other rest vs places holds x (λ i is. none (suc i) is) lost ne
copied_other (in_null ∷ rest) (v ∷ vs) places holds x none lost ne = copied_other rest vs places holds x (λ i is. none (suc i) is) lost ne
copied_other (in_access path ∷ rest) (v ∷ vs) places holds x none lost ne = copied_other rest vs places holds x (λ i is. none (suc i) is) lost ne
copied_other (in_record p ∷ rest) (v ∷ vs) places holds x none lost ne = copied_other rest vs places holds x (λ i is. none (suc i) is) lost ne
copied_other (in_out_component path ∷ rest) (v ∷ vs) places holds x none lost ne = copied_other rest vs places holds x (λ i is. none (suc i) is) lost ne
copied_other (in_out_record p ∷ rest) (v ∷ vs) places holds x none lost ne = copied_other rest vs places holds x (λ i is. none (suc i) is) lost ne
copied_other (in_out_path path ∷ rest) (v ∷ vs) places holds x none lost ne =
    copied_other rest vs (slice_set places path.root v) holds x (λ i is. none (suc i) is) lost.1 ne
    ∙ read_other places path.root x v Null (λ e. ne (rw e lost.0))
copied_other (in_out_access path ∷ rest) (v ∷ vs) places holds x none lost ne =
    copied_other rest vs (slice_set places path.root v) holds x (λ i is. none (suc i) is) lost ne
    ∙ read_other places path.root x v Null (λ e. none 0 (ap Some (sym e)))

put_names : (places : List Value) (x : ℕ) (v w : Value) (o : Id) → place_at (slice_set places x v) x ≡ Names o → Some v ≡ Some w → w ≡ Names o
put_names places x v w o names is = go (read_same places x v Null)
  where
    go : (place_at (slice_set places x v) x ≡ v) ⊎ (place_at (slice_set places x v) x ≡ Null) → w ≡ Names o
    go (inl e) = let same : v ≡ w = cc is in sym same ∙ (sym e ∙ names)
    go (inr e) = absurd (cc (e, names))

-- What is written in a place refers to no record, and null refers to none.
put_plain : (places : List Value) (x : ℕ) (v w : Value) → Some v ≡ Some w → IsPlain w → IsPlain (place_at (slice_set places x v) x)
put_plain places x v w is plain = go (read_same places x v Null)
  where
    go : (place_at (slice_set places x v) x ≡ v) ⊎ (place_at (slice_set places x v) x ≡ Null) → IsPlain (place_at (slice_set places x v) x)
    go (inl e) = let same : v ≡ w = cc is in rw (e, same) plain
    go (inr e) = rw e tt

copied_plain : (actuals : List ActualForm) (vs places : List Value) (holds : Holds) (x i : ℕ) (w : Value) → IsOnce actuals x → GetLost actuals holds → hold_at holds x ≢ hold.Lost → handed_at actuals i ≡ Some x → slice_get vs i ≡ Some w → IsPlain w → IsPlain (place_at (copied_back actuals vs places) x)
copied_plain [] vs places holds x i w once lost ne is at plain = absurd (cc is)
copied_plain (a ∷ rest) [] places holds x i w once lost ne is at plain = absurd (cc at)
copied_plain (in_value e ∷ rest) (v ∷ vs) places holds x zero w once lost ne is at plain = absurd (cc is)
copied_plain (in_null ∷ rest) (v ∷ vs) places holds x zero w once lost ne is at plain = absurd (cc is)
copied_plain (in_access path ∷ rest) (v ∷ vs) places holds x zero w once lost ne is at plain = absurd (cc is)
copied_plain (in_record p ∷ rest) (v ∷ vs) places holds x zero w once lost ne is at plain = absurd (cc is)
copied_plain (in_out_component path ∷ rest) (v ∷ vs) places holds x zero w once lost ne is at plain = absurd (cc is)
copied_plain (in_out_record p ∷ rest) (v ∷ vs) places holds x zero w once lost ne is at plain = absurd (cc is)
copied_plain (in_out_path path ∷ rest) (v ∷ vs) places holds x zero w once lost ne is at plain = absurd (cc is)
copied_plain (in_out_access path ∷ rest) (v ∷ vs) places holds x zero w once lost ne is at plain =
    let here : path.root ≡ x = cc is in
    let other = copied_other rest vs (slice_set places path.root v) holds x (none_later (in_out_access path) rest x once is) lost ne in
    rw other (rw here (put_plain places x v w at plain))
copied_plain (in_value e ∷ rest) (v ∷ vs) places holds x (suc i) w once lost ne is at plain = copied_plain rest vs places holds x i w (once_later (in_value e) rest x once) lost ne is at plain
copied_plain (in_null ∷ rest) (v ∷ vs) places holds x (suc i) w once lost ne is at plain = copied_plain rest vs places holds x i w (once_later in_null rest x once) lost ne is at plain
copied_plain (in_access path ∷ rest) (v ∷ vs) places holds x (suc i) w once lost ne is at plain = copied_plain rest vs places holds x i w (once_later (in_access path) rest x once) lost ne is at plain
copied_plain (in_record p ∷ rest) (v ∷ vs) places holds x (suc i) w once lost ne is at plain = copied_plain rest vs places holds x i w (once_later (in_record p) rest x once) lost ne is at plain
copied_plain (in_out_component path ∷ rest) (v ∷ vs) places holds x (suc i) w once lost ne is at plain = copied_plain rest vs places holds x i w (once_later (in_out_component path) rest x once) lost ne is at plain
copied_plain (in_out_record p ∷ rest) (v ∷ vs) places holds x (suc i) w once lost ne is at plain = copied_plain rest vs places holds x i w (once_later (in_out_record p) rest x once) lost ne is at plain
copied_plain (in_out_path path ∷ rest) (v ∷ vs) places holds x (suc i) w once lost ne is at plain =
    copied_plain rest vs (slice_set places path.root v) holds x i w (once_later (in_out_path path) rest x once) lost.1 ne is at plain
copied_plain (in_out_access path ∷ rest) (v ∷ vs) places holds x (suc i) w once lost ne is at plain =
    copied_plain rest vs (slice_set places path.root v) holds x i w (once_later (in_out_access path) rest x once) lost ne is at plain

copied_here : (actuals : List ActualForm) (vs places : List Value) (holds : Holds) (x i : ℕ) (w : Value) (o : Id) → IsOnce actuals x → GetLost actuals holds → hold_at holds x ≢ hold.Lost → handed_at actuals i ≡ Some x → slice_get vs i ≡ Some w → place_at (copied_back actuals vs places) x ≡ Names o → w ≡ Names o
copied_here [] vs places holds x i w o once lost ne is at names = absurd (cc is)
copied_here (a ∷ rest) [] places holds x i w o once lost ne is at names = absurd (cc at)
copied_here (in_value e ∷ rest) (v ∷ vs) places holds x zero w o once lost ne is at names = absurd (cc is)
copied_here (in_null ∷ rest) (v ∷ vs) places holds x zero w o once lost ne is at names = absurd (cc is)
copied_here (in_access path ∷ rest) (v ∷ vs) places holds x zero w o once lost ne is at names = absurd (cc is)
copied_here (in_record p ∷ rest) (v ∷ vs) places holds x zero w o once lost ne is at names = absurd (cc is)
copied_here (in_out_component path ∷ rest) (v ∷ vs) places holds x zero w o once lost ne is at names = absurd (cc is)
copied_here (in_out_record p ∷ rest) (v ∷ vs) places holds x zero w o once lost ne is at names = absurd (cc is)
copied_here (in_out_path path ∷ rest) (v ∷ vs) places holds x zero w o once lost ne is at names = absurd (cc is)
copied_here (in_out_access path ∷ rest) (v ∷ vs) places holds x zero w o once lost ne is at names =
    let here : path.root ≡ x = cc is in
    let other = copied_other rest vs (slice_set places path.root v) holds x (none_later (in_out_access path) rest x once is) lost ne in
    let now : place_at (slice_set places path.root v) x ≡ Names o = sym other ∙ names in
    put_names places x v w o (rw here at now) at
copied_here (in_value e ∷ rest) (v ∷ vs) places holds x (suc i) w o once lost ne is at names = copied_here rest vs places holds x i w o (once_later (in_value e) rest x once) lost ne is at names
copied_here (in_null ∷ rest) (v ∷ vs) places holds x (suc i) w o once lost ne is at names = copied_here rest vs places holds x i w o (once_later in_null rest x once) lost ne is at names
copied_here (in_access path ∷ rest) (v ∷ vs) places holds x (suc i) w o once lost ne is at names = copied_here rest vs places holds x i w o (once_later (in_access path) rest x once) lost ne is at names
copied_here (in_record p ∷ rest) (v ∷ vs) places holds x (suc i) w o once lost ne is at names = copied_here rest vs places holds x i w o (once_later (in_record p) rest x once) lost ne is at names
copied_here (in_out_component path ∷ rest) (v ∷ vs) places holds x (suc i) w o once lost ne is at names = copied_here rest vs places holds x i w o (once_later (in_out_component path) rest x once) lost ne is at names
copied_here (in_out_record p ∷ rest) (v ∷ vs) places holds x (suc i) w o once lost ne is at names = copied_here rest vs places holds x i w o (once_later (in_out_record p) rest x once) lost ne is at names
copied_here (in_out_path path ∷ rest) (v ∷ vs) places holds x (suc i) w o once lost ne is at names =
    copied_here rest vs (slice_set places path.root v) holds x i w o (once_later (in_out_path path) rest x once) lost.1 ne is at names
copied_here (in_out_access path ∷ rest) (v ∷ vs) places holds x (suc i) w o once lost ne is at names =
    copied_here rest vs (slice_set places path.root v) holds x i w o (once_later (in_out_access path) rest x once) lost ne is at names

-- A formal parameter that owes something is one of the body's variables.
nulls : List VariableForm → Holds
nulls [] = []
nulls (v ∷ vs) = hold.Null ∷ nulls vs

null_at : (vs : List VariableForm) (x : ℕ) → suc x ≤ length vs → hold_at (nulls vs) x ≡ hold.Null
unfolding nulls
null_at [] x less = absurd (omega (arith, less))
null_at (v ∷ vs) zero less = refl
null_at (v ∷ vs) (suc x) less = null_at vs x (omega (arith, less))

owed_given : (n : ℕ) (ms : List FormalMode) (vs : List VariableForm) (after : Holds) → ((x : ℕ) → n ≤ x → suc x ≤ n + length vs → gives_back (hold_at after x) ≡ true) → all_give_back (owed_from n ms vs) after ≡ true
owed_given n [] vs after gives = refl
owed_given n (m ∷ ms) [] after gives = refl
owed_given n (m ∷ ms) (v ∷ vs) after gives =
    go m v.kind (gives n (omega (arith)) (omega (arith))) (owed_given (n + 1) ms vs after (λ x low high. gives x (omega (arith, low)) (omega (arith, high))))
  where
    go : (m : FormalMode) (kind : VariableKind) → gives_back (hold_at after n) ≡ true → all_give_back (owed_from (n + 1) ms vs) after ≡ true → all_give_back (owed_by m kind n ++ owed_from (n + 1) ms vs) after ≡ true
    go InOut (variable.Access access) here later = rw here later
    go InOut variable.Integer here later = later
    go InOut variable.Boolean here later = later
    go InOut (variable.Record object) here later = later
    go In kind here later = later

is_variable : (vs : List VariableForm) (x : ℕ) → gives_back (hold_at (nulls vs) x) ≡ true → (kind : VariableKind) × (variable_kind vs x ≡ Some kind)
unfolding nulls
is_variable [] x gives = absurd (cc gives)
is_variable (v ∷ vs) zero gives = (v.kind, refl)
is_variable (v ∷ vs) (suc x) gives = is_variable vs x gives

-- Each variable of a body has a place.
abbrev pub ArePlaced : List VariableForm → List Value → Type 0
ArePlaced variables places = (x : ℕ) (kind : VariableKind) → variable_kind variables x ≡ Some kind → slice_get places x ≡ Some (place_at places x)

-- A hold is null, or lost, or neither.
null_or_not : (h : Hold) → (h ≡ hold.Null) ⊎ (h ≢ hold.Null)
null_or_not hold.Null = inl refl
null_or_not (hold.Kept r) = inr (λ e. cc e)
null_or_not (hold.Own r) = inr (λ e. cc e)
null_or_not (hold.Alias r) = inr (λ e. cc e)
null_or_not hold.Lost = inr (λ e. cc e)

lost_or_not : (h : Hold) → (h ≡ hold.Lost) ⊎ (h ≢ hold.Lost)
lost_or_not hold.Null = inr (λ e. cc e)
lost_or_not (hold.Kept r) = inr (λ e. cc e)
lost_or_not (hold.Own r) = inr (λ e. cc e)
lost_or_not (hold.Alias r) = inr (λ e. cc e)
lost_or_not hold.Lost = inl refl

-- What gives something back is not lost, and what is kept gives something back: what the call gave it.
pub gives_some : (h : Hold) → gives_back h ≡ true → h ≢ hold.Lost
gives_some h gives lost = absurd (cc (rw lost at gives))

kept_gives : (h : Hold) → is_kept h ≡ true → gives_back h ≡ true
kept_gives hold.Null kept = absurd (cc kept)
kept_gives (hold.Kept r) kept = refl
kept_gives (hold.Own r) kept = absurd (cc kept)
kept_gives (hold.Alias r) kept = absurd (cc kept)
kept_gives hold.Lost kept = absurd (cc kept)

kept_is : (given : Value) (h : Hold) (v : Value) → is_kept h ≡ true → IsSaid given h v → v ≡ given
kept_is given hold.Null v kept is = absurd (cc kept)
kept_is given (hold.Kept r) v kept is = is.0
kept_is given (hold.Own r) v kept is = absurd (cc kept)
kept_is given (hold.Alias r) v kept is = absurd (cc kept)
kept_is given hold.Lost v kept is = absurd (cc kept)

-- What is moved says no more.
moved_said : (kept : Bool) (given : Value) (h : Hold) (v : Value) → IsSaid given h v → IsSaid given (moved_unless kept h) v
moved_said true given h v is = is
moved_said false given hold.Null v is = is
moved_said false given (hold.Kept r) v is = tt
moved_said false given (hold.Own r) v is = tt
moved_said false given (hold.Alias r) v is = tt
moved_said false given hold.Lost v is = tt

module _ (implicit : Implicit) (body : ProgramForm) (w : Caller) (ws : List Caller) (waits : Waits implicit body w ws) (places : List Value) (holds : Holds) where
  once : (x : ℕ) → IsOnce w.actuals x
  once x i j is at = waits.hands.once i j x is at

  not_lost : (i x : ℕ) → handed_at w.actuals i ≡ Some x → hold_at w.before x ≢ hold.Lost
  not_lost i x is = gives_some (hold_at w.before x) (waits.hands.owned i x is)

  -- At a normal end.
  module _ (placed : ArePlaced body.variables places) (gave : all_give_back (owed_in body) holds ≡ true) where
    abbrev pub held_back : List Value
    held_back = copied_back w.actuals places w.places

    abbrev pub known_back : Holds
    known_back = handed_back w.actuals w.before

    has_place : (i x : ℕ) → handed_at w.actuals i ≡ Some x → slice_get places i ≡ Some (place_at places i)
    has_place i x is =
        let owed = owed_given 0 body.formals body.variables (nulls body.variables) (λ y low high. rw (null_at body.variables y (omega (arith, high))) refl) in
        let found = is_variable body.variables i (waits.hands.owes i x is (nulls body.variables) owed) in
        placed i found.0 found.1

    pub since_back : (x : ℕ) → Since (outer_of w) body.variables places holds (handed_at w.actuals) held_back known_back x
    since_back x = go (handed_or_not w.actuals x)
      where
        given : (i : ℕ) → handed_at w.actuals i ≡ Some x → IsBack (hold_at known_back x) → Since (outer_of w) body.variables places holds (handed_at w.actuals) held_back known_back x
        given i is (inr lost) = inl lost
        given i is (inl own) = inr (inr (
          i,
          (
            is,
            waits.hands.alike i x is,
            waits.hands.owes i x is holds gave,
            (λ null. cc (own, null)),
            (λ o names. copied_here w.actuals places w.places w.before x i (place_at places i) o (once x) waits.lost (not_lost i x is) is (has_place i x is) names),
          ),
        ))

        other : IsNone w.actuals x → (hold_at w.before x ≡ hold.Lost) ⊎ (hold_at w.before x ≢ hold.Lost) → Since (outer_of w) body.variables places holds (handed_at w.actuals) held_back known_back x
        other none (inl lost) = inl (back_other w.actuals w.before x none ∙ lost)
        other none (inr ne) = inr (inl (
          back_other w.actuals w.before x none ∙ sym (left_other [] w.actuals w.before x none),
          copied_other w.actuals places w.places w.before x none waits.lost ne,
        ))

        go : HandedOrNot w.actuals x → Since (outer_of w) body.variables places holds (handed_at w.actuals) held_back known_back x
        go (inl (i, is)) = given i is (back_here w.actuals w.before x i (once x) is)
        go (inr none) = other none (lost_or_not (hold_at w.before x))

    -- What comes back refers to no record.
    back_plain : ((i x : ℕ) → handed_at w.actuals i ≡ Some x → IsPlain (place_at places i)) → (i x : ℕ) → handed_at w.actuals i ≡ Some x → IsPlain (place_at held_back x)
    back_plain plain i y at = copied_plain w.actuals places w.places w.before y i (place_at places i) (once y) waits.lost (not_lost i y at) at (has_place i y at) (plain i y at)

    pub said_back : ((i x : ℕ) → handed_at w.actuals i ≡ Some x → IsPlain (place_at places i)) → (x : ℕ) → IsSaid (place_at (given_in ws) x) (hold_at known_back x) (place_at held_back x)
    said_back plain x = go (handed_or_not w.actuals x)
      where
        given : (i : ℕ) → handed_at w.actuals i ≡ Some x → IsBack (hold_at known_back x) → IsSaid (place_at (given_in ws) x) (hold_at known_back x) (place_at held_back x)
        given i is (inl own) = rw own (back_plain plain i x is)
        given i is (inr lost) = rw lost tt

        other : IsNone w.actuals x → (hold_at w.before x ≡ hold.Lost) ⊎ (hold_at w.before x ≢ hold.Lost) → IsSaid (place_at (given_in ws) x) (hold_at known_back x) (place_at held_back x)
        other none (inl lost) = rw (back_other w.actuals w.before x none, lost) tt
        other none (inr ne) = rw (back_other w.actuals w.before x none, copied_other w.actuals places w.places w.before x none waits.lost ne) (waits.said x)

        go : HandedOrNot w.actuals x → IsSaid (place_at (given_in ws) x) (hold_at known_back x) (place_at held_back x)
        go (inl (i, is)) = given i is (back_here w.actuals w.before x i (once x) is)
        go (inr none) = other none (lost_or_not (hold_at w.before x))

    pub objects_back : ((i x : ℕ) → handed_at w.actuals i ≡ Some x → IsPlain (place_at places i)) → (x : ℕ) → hold_at known_back x ≢ hold.Lost → IsPlace w.program.types (referenced_in ws) (variable_kind w.program.variables x) (place_at held_back x)
    objects_back plain x ne = go (handed_or_not w.actuals x)
      where
        -- What is handed over is no record object; what comes back there refers to no record.
        given : (i : ℕ) → handed_at w.actuals i ≡ Some x → IsPlace w.program.types (referenced_in ws) (variable_kind w.program.variables x) (place_at held_back x)
        given i at = plain_by w.program.types (referenced_in ws) (variable_kind w.program.variables x) (place_at held_back x) (waits.hands.plain i x at) (back_plain plain i x at)

        go : HandedOrNot w.actuals x → IsPlace w.program.types (referenced_in ws) (variable_kind w.program.variables x) (place_at held_back x)
        go (inl (i, at)) = given i at
        go (inr none) =
            let before = rw (back_other w.actuals w.before x none) at ne in
            rw (copied_other w.actuals places w.places w.before x none waits.lost before) (waits.objects x before)

  -- Where the body raises an exception.
  module _ (keeps : KeepsAll w.kept holds) (told : (x : ℕ) → IsSaid (place_at w.passed x) (hold_at holds x) (place_at places x)) where
    abbrev pub known_left : Holds
    known_left = left_unkept w.kept w.actuals w.before

    pub since_left : (x : ℕ) → Since (outer_of w) body.variables places holds (handed_at w.actuals) w.places known_left x
    since_left x = go (handed_or_not w.actuals x)
      where
        kept : (i : ℕ) → handed_at w.actuals i ≡ Some x → is_kept (hold_at holds i) ≡ true → hold_at known_left x ≡ hold_at w.before x → (hold_at w.before x ≡ hold.Null) ⊎ (hold_at w.before x ≢ hold.Null) → Since (outer_of w) body.variables places holds (handed_at w.actuals) w.places known_left x
        kept i is keeps_it same (inl null) =
            let meanwhile = left_here [] w.actuals w.before x i (once x) is in
            inr (inl (rw (same, meanwhile, null) refl, refl))
        kept i is keeps_it same (inr ne) = inr (inr (
          i,
          (
            is,
            waits.hands.alike i x is,
            kept_gives (hold_at holds i) keeps_it,
            (λ null. ne (sym same ∙ null)),
            (λ o names. kept_is (place_at w.passed i) (hold_at holds i) (place_at places i) keeps_it (told i) ∙ (waits.passes i x is ∙ names)),
          ),
        ))

        given : (i : ℕ) → handed_at w.actuals i ≡ Some x → (b : Bool) → is_kept_at w.kept i ≡ b → hold_at known_left x ≡ moved_unless (is_kept_at w.kept i) (hold_at w.before x) → Since (outer_of w) body.variables places holds (handed_at w.actuals) w.places known_left x
        given i is true at here = kept i is (keeps i at) (rw at at here) (null_or_not (hold_at w.before x))
        given i is false at here = inr (inl (rw at at here ∙ sym (left_here [] w.actuals w.before x i (once x) is), refl))

        go : HandedOrNot w.actuals x → Since (outer_of w) body.variables places holds (handed_at w.actuals) w.places known_left x
        go (inl (i, is)) = given i is (is_kept_at w.kept i) refl (left_here w.kept w.actuals w.before x i (once x) is)
        go (inr none) = inr (inl (left_other w.kept w.actuals w.before x none ∙ sym (left_other [] w.actuals w.before x none), refl))

    pub said_left : (x : ℕ) → IsSaid (place_at (given_in ws) x) (hold_at known_left x) (place_at w.places x)
    said_left x = go (handed_or_not w.actuals x)
      where
        go : HandedOrNot w.actuals x → IsSaid (place_at (given_in ws) x) (hold_at known_left x) (place_at w.places x)
        go (inl (i, is)) = rw (left_here w.kept w.actuals w.before x i (once x) is) (moved_said (is_kept_at w.kept i) (place_at (given_in ws) x) (hold_at w.before x) (place_at w.places x) (waits.said x))
        go (inr none) = rw (left_other w.kept w.actuals w.before x none) (waits.said x)

    pub objects_left : (x : ℕ) → hold_at known_left x ≢ hold.Lost → IsPlace w.program.types (referenced_in ws) (variable_kind w.program.variables x) (place_at w.places x)
    objects_left x ne = go (handed_or_not w.actuals x)
      where
        go : HandedOrNot w.actuals x → IsPlace w.program.types (referenced_in ws) (variable_kind w.program.variables x) (place_at w.places x)
        go (inl (i, at)) = waits.objects x (not_lost i x at)
        go (inr none) = waits.objects x (rw (left_other w.kept w.actuals w.before x none) at ne)
