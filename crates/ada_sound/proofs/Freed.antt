-- What the rules let through: which variables and components are freed, and what is known behind that.

use Rattle.std.proofs.Common.{◌≡◌, ◌≢◌, ℕ, zero, suc, Bool, true, false, ◌||◌, List, [], ◌∷◌, ◌++◌, refl, sym, ◌∙◌, ◌⊎◌, inl, inr}
use Rattle.std.specs.Prelude.{Option, Some, None, ◌==◌}
use Rattle.std.specs.List.{slice_set}
use Rattle.std.proofs.lemmas.Bool.{eq-eqb}
use Rattle.ada_text.specs.declared.spot.Spot.{Spot}
use Rattle.ada_program.specs.declared.program.VariableKind.{VariableKind}
use Rattle.ada_program.specs.Form.{PathForm}
use Rattle.ada_effects.specs.Effects.{path_raises, Implicit}
use Rattle.ada_program.specs.ProgramForm.{TypeForm, VariableForm}
use Rattle.ada_program.specs.WellFormed.{access_of, variable_kind, selected_kind, selectors_kind, path_access, is_this}
use Rattle.ada_flow.specs.declared.rule.Hold.{Hold}
use Rattle.ada_flow.specs.declared.rule.Hold.TheVariants as hold
use Rattle.ada_flow.specs.declared.rule.Region.{Region}
use Rattle.ada_flow.specs.declared.rule.Rule.{Rule}
use Rattle.ada_flow.specs.declared.rule.Rule.TheVariants.{LostValue}
use Rattle.ada_flow.specs.Flow.{Holds, hold_at, faults, goes, raising_if, ends_with, Breach, unless_broken, variable_access, without_alias, freed_behind, Outcome, passes_type, passes_own, passes_reached, formal_reached, way_reached, released_behind, without_aliases, without_freed, is_freed, behind_end, freed, released, frees_seen, finalizes}
use Rattle.ada_flow.specs.Tracking.{no_tracks}
use Rattle.ada_sound.specs.Agreement.{IsOwner}
use Rattle.ada_sound.specs.Owners.{OwnsNothing, RaisedFreeLeavesNoAlias, FreedLiesOffItsWay, LostIsNotFreedBehind, OnlyOwnersAreFreed, FreedOwnsNothing, FreeLeavesNoAlias}
use Rattle.ada_sound.proofs.Values.{read_same, read_other, same_or_not}
use Rattle.ada_sound.proofs.Assigned.{access_from}
use Rattle.ada_sound.proofs.Moves.{set_nothing, loses_through, loses_ended, loses_raised}
use Rattle.ada_owners.specs.Reliance.{Owns}

-- Free (X): only an owner frees.
freed_owner : (variables : List VariableForm) (x : ℕ) (spot : Spot) (holds : Holds) (normal raising : Option Holds) (h : Hold) → released variables x spot holds h ≡ goes normal raising → IsOwner h
freed_owner variables x spot holds normal raising hold.Null e = tt
freed_owner variables x spot holds normal raising (hold.Kept r) e = tt
freed_owner variables x spot holds normal raising (hold.Own r) e = tt
freed_owner variables x spot holds normal raising (hold.Alias r) e = absurd (cc e)
freed_owner variables x spot holds normal raising hold.Lost e = absurd (cc e)

path_owner : (types : List TypeForm) (variables : List VariableForm) (implicit : Implicit) (cs : List ℕ) (path : PathForm) (holds : Holds) (normal raising : Option Holds) → cs ≡ [] → frees_seen types variables no_tracks false implicit cs path holds ≡ goes normal raising → IsOwner (hold_at holds path.root)
path_owner types variables implicit [] path holds normal raising is e = freed_owner variables path.root path.spot holds normal raising (hold_at holds path.root) e
path_owner types variables implicit (c ∷ cs) path holds normal raising is e = absurd (cc is)

-- What ends is finalized, in the midst of which operations may free objects.
finalizes_through : (variables : List VariableForm) (implicit : Implicit) (access : Option ℕ) (o : Outcome) (normal raising : Option Holds) → finalizes variables implicit access o ≡ goes normal raising → (here raised : Option Holds) × (o ≡ goes here raised)
finalizes_through variables implicit None o normal raising e = (normal, raising, e)
finalizes_through variables implicit (Some t) o normal raising e = loses_through variables (implicit.end_frees t) o normal raising e

pub only_owners_freed : OnlyOwnersAreFreed
only_owners_freed types variables access path holds is kept =
    let implicit = kept.0.effects.implicit in
    let through = finalizes_through variables implicit (path_access types variables path) (frees_seen types variables no_tracks false implicit path.selectors path holds) kept.2 kept.3 kept.4 in
    path_owner types variables implicit path.selectors path holds through.0 through.1 is through.2

-- What it comes to its end with; it raises no exception.
freed_goes : (variables : List VariableForm) (x : ℕ) (spot : Spot) (holds : Holds) (normal raising : Option Holds) (h : Hold) → released variables x spot holds h ≡ goes normal raising → (normal ≡ Some (freed variables x holds)) × (raising ≡ None)
freed_goes variables x spot holds normal raising hold.Null e = (cc e, cc e)
freed_goes variables x spot holds normal raising (hold.Kept r) e = (cc e, cc e)
freed_goes variables x spot holds normal raising (hold.Own r) e = (cc e, cc e)
freed_goes variables x spot holds normal raising (hold.Alias r) e = absurd (cc e)
freed_goes variables x spot holds normal raising hold.Lost e = absurd (cc e)

-- What is known where something may raise.
raised_is : (b : Bool) (holds raised : Holds) → raising_if b holds ≡ Some raised → raised ≡ holds
raised_is true holds raised e = cc e
raised_is false holds raised e = absurd (cc e)

-- Free (P.C) comes to its end, and raises, with aliases of its access type lost; and the rules do not refuse it.
record Behind (types : List TypeForm) (variables : List VariableForm) (implicit : Implicit) (path : PathForm) (holds : Holds) (access : Option ℕ) (normal raising : Option Holds) : Type 0 where
  kept : freed_behind (way_reached types variables implicit path (hold_at holds path.root) access) (hold_at holds path.root) path.spot ≡ None
  normal_is : normal ≡ Some (behind_end variables access holds)
  raising_is : (raised : Holds) → raising ≡ Some raised → raised ≡ behind_end variables access holds

behind_goes : (types : List TypeForm) (variables : List VariableForm) (implicit : Implicit) (path : PathForm) (holds : Holds) (access : Option ℕ) (normal raising : Option Holds) → released_behind types variables no_tracks implicit path holds access ≡ goes normal raising → Behind types variables implicit path holds access normal raising
behind_goes types variables implicit path holds access normal raising e = go (freed_behind (way_reached types variables implicit path (hold_at holds path.root) access) (hold_at holds path.root) path.spot) refl e
  where
    after : Holds
    after = behind_end variables access holds

    go : (b : Option Breach) → freed_behind (way_reached types variables implicit path (hold_at holds path.root) access) (hold_at holds path.root) path.spot ≡ b → unless_broken b (ends_with (path_raises path) after after) ≡ goes normal raising → Behind types variables implicit path holds access normal raising
    go None is e' = record { kept = is; normal_is = cc e'; raising_is = λ raised at. raised_is (path_raises path) after raised (let same : raising_if (path_raises path) after ≡ raising = cc e' in same ∙ at) }
    go (Some breach) is e' = absurd (cc e')

path_nothing : (types : List TypeForm) (variables : List VariableForm) (implicit : Implicit) (cs : List ℕ) (path : PathForm) (holds after : Holds) (raising : Option Holds) → cs ≡ [] → frees_seen types variables no_tracks false implicit cs path holds ≡ goes (Some after) raising → OwnsNothing after path.root
path_nothing types variables implicit [] path holds after raising is e =
    let x = path.root in
    let same : freed variables x holds ≡ after = cc ((freed_goes variables x path.spot holds (Some after) raising (hold_at holds x) e).0) in
    rw (← same) (set_nothing (behind_end variables (variable_access variables x) holds) x hold.Null (λ own. own))
path_nothing types variables implicit (c ∷ cs) path holds after raising is e = absurd (cc is)

-- What owns nothing owns nothing where aliases are lost.
alias_nothing : (b : Bool) (h : Hold) → (Owns h → ⊥) → Owns (without_alias b h) → ⊥
alias_nothing false h none own = none own
alias_nothing true hold.Null none own = none own
alias_nothing true (hold.Kept r) none own = none own
alias_nothing true (hold.Own r) none own = none own
alias_nothing true (hold.Alias r) none own = own
alias_nothing true hold.Lost none own = none own

less_nothing : (variables : List VariableForm) (may : ℕ → Bool) (holds : Holds) (x : ℕ) → OwnsNothing holds x → OwnsNothing (without_freed variables may holds) x
less_nothing [] may holds x none own = own
less_nothing (v ∷ vs) may [] x none own = own
less_nothing (v ∷ vs) may (h ∷ hs) zero none own = alias_nothing (is_freed may (access_of (Some v.kind))) h none own
less_nothing (v ∷ vs) may (h ∷ hs) (suc x) none own = less_nothing vs may hs x none own

finalized_nothing : (variables : List VariableForm) (implicit : Implicit) (access : Option ℕ) (o : Outcome) (after : Holds) (raising : Option Holds) (x : ℕ) → finalizes variables implicit access o ≡ goes (Some after) raising → ((before : Holds) (raised : Option Holds) → o ≡ goes (Some before) raised → OwnsNothing before x) → OwnsNothing after x
finalized_nothing variables implicit None o after raising x e none = none after raising e
finalized_nothing variables implicit (Some t) o after raising x e none =
    let less = loses_ended variables (implicit.end_frees t) o after raising e in
    rw less.3 (less_nothing variables (implicit.end_frees t) less.0 x (none less.0 less.1 less.2))

pub freed_owns_nothing : FreedOwnsNothing
freed_owns_nothing types variables access path holds after is ends =
    let implicit = ends.0.effects.implicit in
    finalized_nothing variables implicit (path_access types variables path) (frees_seen types variables no_tracks false implicit path.selectors path holds) after ends.2 path.root ends.3
    (λ before raised e. path_nothing types variables implicit path.selectors path holds before raised is e)

-- Behind it aliases of its access type are lost.
lost_alias : (h : Hold) (r : Region) → without_alias true h ≢ hold.Alias r
lost_alias hold.Null r e = cc e
lost_alias (hold.Kept q) r e = cc e
lost_alias (hold.Own q) r e = cc e
lost_alias (hold.Alias q) r e = cc e
lost_alias hold.Lost r e = cc e

lost_aliases : (variables : List VariableForm) (t : ℕ) (holds : Holds) (x : ℕ) (r : Region) → variable_access variables x ≡ Some t → hold_at (without_aliases variables t holds) x ≢ hold.Alias r
lost_aliases [] t holds x r is e = cc e
lost_aliases (v ∷ vs) t [] x r is e = cc e
lost_aliases (v ∷ vs) t (h ∷ hs) zero r is e = lost_alias h r (rw (is, eq-eqb t t refl) at e)
lost_aliases (v ∷ vs) t (h ∷ hs) (suc x) r is e = lost_aliases vs t hs x r is e

-- No variable of the type holds an alias.
abbrev NoAlias : List VariableForm → (t : ℕ) → Holds → Type 0
NoAlias variables t holds = (x : ℕ) → variable_access variables x ≡ Some t → (r : Region) → hold_at holds x ≢ hold.Alias r

none_behind : (variables : List VariableForm) (t : ℕ) (access : Option ℕ) (holds : Holds) → access ≡ Some t → NoAlias variables t (behind_end variables access holds)
none_behind variables t None holds is x of_type r e = cc is
none_behind variables t (Some u) holds is x of_type r e = let same : u ≡ t = cc is in lost_aliases variables t holds x r of_type (rw same at e)

-- Nor does one that became null then.
none_once_null : (variables : List VariableForm) (t y : ℕ) (holds : Holds) → NoAlias variables t holds → NoAlias variables t (slice_set holds y hold.Null)
none_once_null variables t y holds none x of_type r e = go (same_or_not x y)
  where
    go : (x ≡ y) ⊎ (x ≢ y) → ⊥
    go (inl same) =
        let at_y : hold_at (slice_set holds y hold.Null) y ≡ hold.Alias r = rw same at e in
        elim (read_same holds y hold.Null hold.Lost) [ inl null ↦ cc (null, at_y) | inr lost ↦ cc (lost, at_y) ]
    go (inr ne) = none x of_type r (rw (read_other holds y x hold.Null hold.Lost ne) at e)

none_after : (types : List TypeForm) (variables : List VariableForm) (implicit : Implicit) (t : ℕ) (path : PathForm) (cs : List ℕ) (holds after : Holds) (raising : Option Holds) → path.selectors ≡ cs → frees_seen types variables no_tracks false implicit cs path holds ≡ goes (Some after) raising → path_access types variables path ≡ Some t → NoAlias variables t after
none_after types variables implicit t path [] holds after raising is e own =
    let y = path.root in
    let same : freed variables y holds ≡ after = cc ((freed_goes variables y path.spot holds (Some after) raising (hold_at holds y) e).0) in
    let access : variable_access variables y ≡ Some t = rw is at (access_from types variables path t own) in
    rw (← same) (none_once_null variables t y (behind_end variables (variable_access variables y) holds) (none_behind variables t (variable_access variables y) holds access))
none_after types variables implicit t path (c ∷ cs) holds after raising is e own =
    let access = path_access types variables path in
    let same : behind_end variables access holds ≡ after = cc ((behind_goes types variables implicit path holds access (Some after) raising e).normal_is) in
    rw (← same) (none_behind variables t access holds own)

-- Nor where others are lost.
alias_less : (b : Bool) (h : Hold) (r : Region) → h ≢ hold.Alias r → without_alias b h ≢ hold.Alias r
alias_less false h r none e = none e
alias_less true h r none e = lost_alias h r e

less_aliases : (variables : List VariableForm) (may : ℕ → Bool) (holds : Holds) (x : ℕ) (r : Region) → hold_at holds x ≢ hold.Alias r → hold_at (without_freed variables may holds) x ≢ hold.Alias r
less_aliases [] may holds x r none e = cc e
less_aliases (v ∷ vs) may [] x r none e = cc e
less_aliases (v ∷ vs) may (h ∷ hs) zero r none e = alias_less (is_freed may (access_of (Some v.kind))) h r none e
less_aliases (v ∷ vs) may (h ∷ hs) (suc x) r none e = less_aliases vs may hs x r none e

pub free_leaves_no_alias : FreeLeavesNoAlias
free_leaves_no_alias types variables access t path holds after ends own x of_type r e =
    let implicit = ends.0.effects.implicit in
    let may = implicit.end_frees t in
    let less = loses_ended variables may (frees_seen types variables no_tracks false implicit path.selectors path holds) after ends.2 (rw own at ends.3) in
    less_aliases variables may less.0 x r (none_after types variables implicit t path path.selectors holds less.0 less.1 refl less.2 own x of_type r) (rw less.3 at e)

none_raised : (types : List TypeForm) (variables : List VariableForm) (implicit : Implicit) (t : ℕ) (path : PathForm) (cs : List ℕ) (holds raised : Holds) (normal : Option Holds) → frees_seen types variables no_tracks false implicit cs path holds ≡ goes normal (Some raised) → path_access types variables path ≡ Some t → NoAlias variables t raised
none_raised types variables implicit t path [] holds raised normal e own =
    let never : Some raised ≡ None = (freed_goes variables path.root path.spot holds normal (Some raised) (hold_at holds path.root) e).1 in
    absurd (cc never)
none_raised types variables implicit t path (c ∷ cs) holds raised normal e own =
    let access = path_access types variables path in
    let same : behind_end variables access holds ≡ raised = sym ((behind_goes types variables implicit path holds access normal (Some raised) e).raising_is raised refl) in
    rw (← same) (none_behind variables t access holds own)

pub raised_free_leaves_no_alias : RaisedFreeLeavesNoAlias
raised_free_leaves_no_alias types variables access t path holds raised raises own x of_type r e =
    let implicit = raises.0.effects.implicit in
    let may = implicit.end_frees t in
    let less = loses_raised variables may (frees_seen types variables no_tracks false implicit path.selectors path holds) raised raises.2 (rw own at raises.3) in
    less_aliases variables may less.0 x r (none_raised types variables implicit t path path.selectors holds less.0 less.1 less.2 own x of_type r) (rw less.3 at e)

-- A component's path that the rules let through passes no value of the component's own type.
passes_none : (passes : Bool) (h : Hold) (spot : Spot) → freed_behind passes h spot ≡ None → passes ≡ false
passes_none false h spot e = refl
passes_none true hold.Null spot e = absurd (cc e)
passes_none true (hold.Kept r) spot e = absurd (cc e)
passes_none true (hold.Own r) spot e = absurd (cc e)
passes_none true (hold.Alias r) spot e = absurd (cc e)
passes_none true hold.Lost spot e = absurd (cc e)

neither : (a b : Bool) → (a || b) ≡ false → (a ≡ false) × (b ≡ false)
neither true b e = absurd (cc e)
neither false b e = (refl, e)

is_not : (t : ℕ) (access : Option ℕ) → is_this t access ≡ false → access ≢ Some t
is_not t None e is = cc is
is_not t (Some u) e is =
    let same : u ≡ t = cc is in
    let one : (u == t) ≡ true = eq-eqb u t same in
    cc (one, e)

off_way : (types : List TypeForm) (kind : Option VariableKind) (t c : ℕ) (before behind : List ℕ) → passes_type types kind (before ++ c ∷ behind) t ≡ false → access_of (selectors_kind types kind before) ≢ Some t
off_way types kind t c [] behind e = is_not t (access_of kind) (neither (is_this t (access_of kind)) (passes_type types (selected_kind types kind c) behind t) e).0
off_way types kind t c (b ∷ before) behind e =
    off_way types (selected_kind types kind b) t c before behind
    (neither (is_this t (access_of kind)) (passes_type types (selected_kind types kind b) (before ++ c ∷ behind) t) e).1

-- Something is behind the front of a list.
some_there : (before behind : List ℕ) (c : ℕ) → before ++ c ∷ behind ≢ []
some_there [] behind c e = cc e
some_there (b ∷ before) behind c e = cc e

component_kept : (types : List TypeForm) (variables : List VariableForm) (implicit : Implicit) (cs : List ℕ) (t : ℕ) (path : PathForm) (holds : Holds) (normal raising : Option Holds) → cs ≢ [] → path_access types variables path ≡ Some t → frees_seen types variables no_tracks false implicit cs path holds ≡ goes normal raising → passes_type types (variable_kind variables path.root) path.selectors t ≡ false
component_kept types variables implicit [] t path holds normal raising some own e = absurd (some refl)
component_kept types variables implicit (c ∷ cs) t path holds normal raising some own e =
    let b = behind_goes types variables implicit path holds (Some t) normal raising (rw own at e) in
    let own_way = passes_own types variables path (Some t) in
    let reached = passes_reached types variables implicit path (Some t) in
    let formal = formal_reached types variables implicit path (hold_at holds path.root) (Some t) in
    let safe = passes_none (way_reached types variables implicit path (hold_at holds path.root) (Some t)) (hold_at holds path.root) path.spot b.kept in
    (neither own_way reached (neither (own_way || reached) formal safe).0).0

pub freed_lies_off_its_way : FreedLiesOffItsWay
freed_lies_off_its_way types variables access t c path before behind holds kept own is =
    let some : path.selectors ≢ [] = λ none. some_there before behind c (sym is ∙ none) in
    let implicit = kept.0.effects.implicit in
    let through = finalizes_through variables implicit (path_access types variables path) (frees_seen types variables no_tracks false implicit path.selectors path holds) kept.2 kept.3 kept.4 in
    let passes = component_kept types variables implicit path.selectors t path holds through.0 through.1 some own through.2 in
    off_way types (variable_kind variables path.root) t c before behind (rw is at passes)

-- What is lost is not freed, and nothing behind it.
lost_behind_is : (passes : Bool) (spot : Spot) → freed_behind passes hold.Lost spot ≡ Some (spot, LostValue)
lost_behind_is true spot = refl
lost_behind_is false spot = refl

lost_is_fault : (types : List TypeForm) (variables : List VariableForm) (implicit : Implicit) (cs : List ℕ) (path : PathForm) (holds : Holds) → hold_at holds path.root ≡ hold.Lost → frees_seen types variables no_tracks false implicit cs path holds ≡ faults path.spot LostValue
lost_is_fault types variables implicit [] path holds lost = rw lost refl
lost_is_fault types variables implicit (c ∷ cs) path holds lost =
    rw (lost, lost_behind_is (way_reached types variables implicit path hold.Lost (path_access types variables path)) path.spot) refl

finalizes_fault : (variables : List VariableForm) (implicit : Implicit) (access : Option ℕ) (spot : Spot) (rule : Rule) → finalizes variables implicit access (faults spot rule) ≡ faults spot rule
finalizes_fault variables implicit None spot rule = refl
finalizes_fault variables implicit (Some t) spot rule = refl

pub lost_is_not_freed_behind : LostIsNotFreedBehind
lost_is_not_freed_behind types variables around cleared access path holds lost =
    let implicit = around.effects.implicit in
    rw (lost_is_fault types variables implicit path.selectors path holds lost) (finalizes_fault variables implicit (path_access types variables path) path.spot LostValue)
