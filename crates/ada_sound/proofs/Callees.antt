-- What the rules say of a call: which variables stay as they are, which are lost, and which own what comes back; and of what it gives.

use Rattle.std.proofs.Common.{◌≡◌, ◌≢◌, ℕ, zero, suc, Bool, true, false, ◌&&◌, ◌||◌, List, [], ◌∷◌, ◌++◌, refl, sym, ap, ◌∙◌, ◌⊎◌, inl, inr, subst, arith}
use Rattle.std.specs.Prelude.{Option, Some, None, ◌==◌, if◌then◌else◌}
use Rattle.std.specs.List.{list_any, slice_get, slice_set, slice_index_or}
use Rattle.std.proofs.lemmas.Bool.{and_parts, eqb-true, eq-eqb}
use Rattle.std.proofs.Math.Bool.{or-false}
use Rattle.std.proofs.lemmas.List.Folds.{list_any-append}
use Rattle.ada_text.specs.declared.spot.Spot.{Spot}
use Rattle.ada_program.specs.Form.{PathForm, RecordPathForm, ActualForm, in_value, in_null, in_access, in_record, in_out_path, in_out_access, in_out_component, in_out_record, ExpressionForm, integer, boolean, reads, is_null, applied_to, chained, LinksForm, no_more_links, a_link}
use Rattle.ada_program.specs.declared.program.VariableKind.{VariableKind}
use Rattle.ada_program.specs.ProgramForm.{TypeForm, VariableForm}
use Rattle.ada_program.specs.WellFormed.{access_of, variable_kind, selected_kind, path_access}
use Rattle.ada_effects.specs.Effects.{Effect, actuals_raise, call_raises, call_frees}
use Rattle.ada_flow.specs.declared.rule.Hold.{Hold}
use Rattle.ada_flow.specs.declared.rule.Hold.TheVariants as hold
use Rattle.ada_flow.specs.declared.rule.Region.{Region}
use Rattle.ada_flow.specs.declared.rule.Region.TheVariants.{Whole}
use Rattle.ada_flow.specs.declared.rule.Rule.TheVariants.{LostValue}
use Rattle.ada_flow.specs.declared.rule.Rule.{Rule}
use Rattle.ada_flow.specs.Flow.{Holds, Outcome, goes, faults, hold_at, variable_access, is_freed, without_alias, without_freed, left_by_move, left_by_call, Use, reads_it, compares_it, gives_again, lends_it, hands_it, opens_it, passes_it, uses_in, uses_in_links, is_given, is_begun_with, passes_freed, component_passes, record_passes, names_value, uses_in_actual, uses_in_actuals, handed_back, Keeping, first_kept, others_kept, unless_kept, left_unkept, kept_at, Breach, leftmost, is_left_of, lost_by, lost_behind, given_by_both, lent_by, handed_by, passed_by, taken_by, opened_by_call, broken_in, broken_among, unless_broken, ends_with, called, shares_it}
use Rattle.ada_flow.specs.Tracking.{no_tracks}
use Rattle.ada_owners.specs.Reliance.{Owns}
use Rattle.ada_sound.specs.Agreement.{IsOwner}
use Rattle.ada_sound.specs.Callees.{CallLeavesNoAlias, RaisedCallLeavesNoAlias, IsHandedOver, CallMovesNothing, RaisedCallMovesNothing, OnlyOwnersAreHandedOver, CallHandsBack, UnkeptOwnNothing, CallKeepsOthers, RaisedCallKeepsOthers, has_selector, relies_on, links_rely_on, value_relies_on, begins_with, writes_from, AreGivenApart, IsFollowed, FollowsTo, IsPassedSafely, ArePassedSafely, CallsSpareWhatTheyPass, HandsNoAlias, LostIsNoActual, NoneIsGivenTwice}
use Rattle.ada_sound.proofs.Moves.{kept_uses, ended, set_nothing, left_nothing}
use Rattle.ada_sound.proofs.Followings as followings
use Rattle.ada_sound.proofs.Followings.{kept_apart}
use Rattle.ada_sound.proofs.Values.{read_other}
use Rattle.ada_sound.proofs.Invariant.{NoneBroken}

-- What a call comes to its end with, and what it raises with: what is left by it, where what it handed over comes back, or doesn't. It breaks no rule.
called_as : (types : List TypeForm) (variables : List VariableForm) (effect : Option Effect) (kept : Keeping) (actuals : List ActualForm)
    (holds : Holds) (normal raising : Option Holds)
    → called types variables no_tracks effect kept actuals holds ≡ goes normal raising
    → NoneBroken holds (uses_in_actuals types variables (call_frees effect) [] actuals)
    × (normal ≡ Some (handed_back actuals (left_by_call variables effect holds)))
    × ((raised : Holds) → raising ≡ Some raised → raised ≡ left_unkept kept actuals (left_by_call variables effect holds))
called_as types variables effect kept actuals holds normal raising e =
    let less = left_by_call variables effect holds in
    let may = actuals_raise actuals || call_raises effect (λ e. true) in
    let uses =
    kept_uses (uses_in_actuals types variables (call_frees effect) [] actuals) holds
    (ends_with may (left_unkept kept actuals less) (handed_back actuals less)) normal raising e in
    let ends = ended may (left_unkept kept actuals less) (handed_back actuals less) normal raising uses.1 in
    (uses.0, ends.0, ends.1)

ends_as : (types : List TypeForm) (variables : List VariableForm) (effect : Option Effect) (kept : Keeping) (actuals : List ActualForm)
    (holds after : Holds) (raising : Option Holds)
    → called types variables no_tracks effect kept actuals holds ≡ goes (Some after) raising → after ≡ handed_back actuals (left_by_call variables effect holds)
ends_as types variables effect kept actuals holds after raising e =
    let same : Some after ≡ Some (handed_back actuals (left_by_call variables effect holds)) =
    (called_as types variables effect kept actuals holds (Some after) raising e).1 in
    cc same

raises_as : (types : List TypeForm) (variables : List VariableForm) (effect : Option Effect) (kept : Keeping) (actuals : List ActualForm)
    (holds raised : Holds) (normal : Option Holds)
    → called types variables no_tracks effect kept actuals holds ≡ goes normal (Some raised) → raised ≡ left_unkept kept actuals (left_by_call variables effect holds)
raises_as types variables effect kept actuals holds raised normal e = (called_as types variables effect kept actuals holds normal (Some raised) e).2 raised refl

-- What is said of a hold: of what was written, or of what was there.
written : (P : Hold → Type 0) (holds : Holds) (y x : ℕ) (h : Hold) → (x ≡ y → P h) → P (hold_at holds x) → P (hold_at (slice_set holds y h) x)
written P [] y x h new old = old
written P (g ∷ gs) zero zero h new old = new refl
written P (g ∷ gs) zero (suc x) h new old = old
written P (g ∷ gs) (suc y) zero h new old = old
written P (g ∷ gs) (suc y) (suc x) h new old = written P gs y x h (λ same. new (ap suc same)) old

written_here : (holds : Holds) (x : ℕ) (h : Hold) → hold_at holds x ≢ hold.Lost → hold_at (slice_set holds x h) x ≡ h
written_here [] x h there = absurd (there refl)
written_here (g ∷ gs) zero h there = refl
written_here (g ∷ gs) (suc x) h there = written_here gs x h there

-- Behind a call, where it is said of what comes back.
back_by : (P : Hold → Type 0) (actuals : List ActualForm) (holds : Holds) (x : ℕ) → P (hold.Own Whole) → P (hold_at holds x)
    → P (hold_at (handed_back actuals holds) x)
back_by P [] holds x new old = old
back_by P (in_value e ∷ rest) holds x new old = back_by P rest holds x new old
back_by P (in_null ∷ rest) holds x new old = back_by P rest holds x new old
back_by P (in_access path ∷ rest) holds x new old = back_by P rest holds x new old
back_by P (in_record p ∷ rest) holds x new old = back_by P rest holds x new old
back_by P (in_out_path path ∷ rest) holds x new old = back_by P rest holds x new old
back_by P (in_out_access path ∷ rest) holds x new old =
    back_by P rest (slice_set holds path.root (hold.Own Whole)) x new (written P holds path.root x (hold.Own Whole) (λ same. new) old)
back_by P (in_out_component path ∷ rest) holds x new old = back_by P rest holds x new old
back_by P (in_out_record p ∷ rest) holds x new old = back_by P rest holds x new old

-- Where it raises an exception, and it is said of what was moved.
unless_by : (P : Hold → Type 0) → ((h : Hold) → P h → P (left_by_move h)) → (kept : Bool) (y : ℕ) (holds : Holds) (x : ℕ) → P (hold_at holds x)
    → P (hold_at (unless_kept kept y holds) x)
unless_by P moved true y holds x old = old
unless_by P moved false y holds x old =
    written P holds y x (left_by_move (hold_at holds y)) (λ same. subst (λ z. P (left_by_move (hold_at holds z))) same (moved (hold_at holds x) old)) old

left_by : (P : Hold → Type 0) → ((h : Hold) → P h → P (left_by_move h)) → (kept : Keeping) (actuals : List ActualForm) (holds : Holds) (x : ℕ)
    → P (hold_at holds x) → P (hold_at (left_unkept kept actuals holds) x)
left_by P moved kept [] holds x old = old
left_by P moved kept (in_value e ∷ rest) holds x old = left_by P moved (others_kept kept) rest holds x old
left_by P moved kept (in_null ∷ rest) holds x old = left_by P moved (others_kept kept) rest holds x old
left_by P moved kept (in_access path ∷ rest) holds x old = left_by P moved (others_kept kept) rest holds x old
left_by P moved kept (in_record p ∷ rest) holds x old = left_by P moved (others_kept kept) rest holds x old
left_by P moved kept (in_out_path path ∷ rest) holds x old = left_by P moved (others_kept kept) rest holds x old
left_by P moved kept (in_out_access path ∷ rest) holds x old =
    left_by P moved (others_kept kept) rest (unless_kept (first_kept kept) path.root holds) x (unless_by P moved (first_kept kept) path.root holds x old)
left_by P moved kept (in_out_component path ∷ rest) holds x old = left_by P moved (others_kept kept) rest holds x old
left_by P moved kept (in_out_record p ∷ rest) holds x old = left_by P moved (others_kept kept) rest holds x old

-- A variable that is not handed over is as it was.
not_later : (a : ActualForm) (rest : List ActualForm) (x : ℕ) → (IsHandedOver x (a ∷ rest) → ⊥) → IsHandedOver x rest → ⊥
not_later a rest x none (formal, path, at, is) = none (suc formal, path, at, is)

not_here : (path : PathForm) (rest : List ActualForm) (x : ℕ) → (IsHandedOver x (in_out_access path ∷ rest) → ⊥) → x ≢ path.root
not_here path rest x none is = none (zero, path, refl, sym is)

back_others : (actuals : List ActualForm) (holds : Holds) (x : ℕ) → (IsHandedOver x actuals → ⊥) → hold_at (handed_back actuals holds) x ≡ hold_at holds x
back_others [] holds x none = refl
back_others (in_value e ∷ rest) holds x none = back_others rest holds x (not_later (in_value e) rest x none)
back_others (in_null ∷ rest) holds x none = back_others rest holds x (not_later in_null rest x none)
back_others (in_access path ∷ rest) holds x none = back_others rest holds x (not_later (in_access path) rest x none)
back_others (in_record p ∷ rest) holds x none = back_others rest holds x (not_later (in_record p) rest x none)
back_others (in_out_path path ∷ rest) holds x none = back_others rest holds x (not_later (in_out_path path) rest x none)
back_others (in_out_access path ∷ rest) holds x none =
    back_others rest (slice_set holds path.root (hold.Own Whole)) x (not_later (in_out_access path) rest x none)
    ∙ read_other holds path.root x (hold.Own Whole) hold.Lost (not_here path rest x none)
back_others (in_out_component path ∷ rest) holds x none = back_others rest holds x (not_later (in_out_component path) rest x none)
back_others (in_out_record p ∷ rest) holds x none = back_others rest holds x (not_later (in_out_record p) rest x none)

-- So it is where the call raises an exception, if it is not given up.
first_is : (kept : Keeping) → first_kept kept ≡ slice_index_or kept 0 false
first_is [] = refl
first_is (b ∷ bs) = refl

others_are : (kept : Keeping) (formal : ℕ) → slice_index_or (others_kept kept) formal false ≡ slice_index_or kept (suc formal) false
others_are [] formal = refl
others_are (b ∷ bs) formal = refl

abbrev IsLetGo : Keeping → (x : ℕ) → List ActualForm → Type 0
IsLetGo kept x actuals =
    (formal : ℕ) × (path : PathForm) × (slice_get actuals formal ≡ Some (in_out_access path)) × (path.root ≡ x) × (slice_index_or kept formal false ≡ false)

held_later : (kept : Keeping) (a : ActualForm) (rest : List ActualForm) (x : ℕ) → (IsLetGo kept x (a ∷ rest) → ⊥) → IsLetGo (others_kept kept) x rest → ⊥
held_later kept a rest x none (formal, path, at, root, is) = none (suc formal, path, at, root, sym (others_are kept formal) ∙ is)

held_here : (kept : Keeping) (path : PathForm) (rest : List ActualForm) (x : ℕ) → (IsLetGo kept x (in_out_access path ∷ rest) → ⊥) → x ≡ path.root
    → first_kept kept ≡ false → ⊥
held_here kept path rest x none same is = none (zero, path, refl, sym same, sym (first_is kept) ∙ is)

unless_other : (kept : Bool) (y : ℕ) (holds : Holds) (x : ℕ) → (x ≡ y → kept ≡ false → ⊥) → hold_at (unless_kept kept y holds) x ≡ hold_at holds x
unless_other true y holds x held = refl
unless_other false y holds x held = read_other holds y x (left_by_move (hold_at holds y)) hold.Lost (λ same. held same refl)

left_others : (kept : Keeping) (actuals : List ActualForm) (holds : Holds) (x : ℕ) → (IsLetGo kept x actuals → ⊥)
    → hold_at (left_unkept kept actuals holds) x ≡ hold_at holds x
left_others kept [] holds x none = refl
left_others kept (in_value e ∷ rest) holds x none = left_others (others_kept kept) rest holds x (held_later kept (in_value e) rest x none)
left_others kept (in_null ∷ rest) holds x none = left_others (others_kept kept) rest holds x (held_later kept in_null rest x none)
left_others kept (in_access path ∷ rest) holds x none = left_others (others_kept kept) rest holds x (held_later kept (in_access path) rest x none)
left_others kept (in_record p ∷ rest) holds x none = left_others (others_kept kept) rest holds x (held_later kept (in_record p) rest x none)
left_others kept (in_out_path path ∷ rest) holds x none = left_others (others_kept kept) rest holds x (held_later kept (in_out_path path) rest x none)
left_others kept (in_out_access path ∷ rest) holds x none =
    left_others (others_kept kept) rest (unless_kept (first_kept kept) path.root holds) x (held_later kept (in_out_access path) rest x none)
    ∙ unless_other (first_kept kept) path.root holds x (held_here kept path rest x none)
left_others kept (in_out_component path ∷ rest) holds x none = left_others (others_kept kept) rest holds x (held_later kept (in_out_component path) rest x none)
left_others kept (in_out_record p ∷ rest) holds x none = left_others (others_kept kept) rest holds x (held_later kept (in_out_record p) rest x none)

-- An alias is lost, where its type is one of which an object may be freed.
lost_alias : (h : Hold) (r : Region) → without_alias true h ≢ hold.Alias r
lost_alias hold.Null r e = cc e
lost_alias (hold.Kept q) r e = cc e
lost_alias (hold.Own q) r e = cc e
lost_alias (hold.Alias q) r e = cc e
lost_alias hold.Lost r e = cc e

freed_aliases : (variables : List VariableForm) (may : ℕ → Bool) (holds : Holds) (x t : ℕ) (r : Region) → variable_access variables x ≡ Some t → may t ≡ true
    → hold_at (without_freed variables may holds) x ≢ hold.Alias r
freed_aliases [] may holds x t r of is e = cc of
freed_aliases (v ∷ vs) may [] x t r of is e = cc e
freed_aliases (v ∷ vs) may (h ∷ hs) zero t r of is e = lost_alias h r (rw (of, is) at e)
freed_aliases (v ∷ vs) may (h ∷ hs) (suc x) t r of is e = freed_aliases vs may hs x t r of is e

called_aliases : (variables : List VariableForm) (effect : Option Effect) (holds : Holds) (x t : ℕ) (r : Region) → variable_access variables x ≡ Some t
    → call_frees effect t ≡ true → hold_at (left_by_call variables effect holds) x ≢ hold.Alias r
called_aliases variables None holds x t r of is e = cc is
called_aliases variables (Some effect) holds x t r of is e = freed_aliases variables effect.frees holds x t r of is e

-- What is moved becomes no alias.
moved_alias : (r : Region) (h : Hold) → h ≢ hold.Alias r → left_by_move h ≢ hold.Alias r
moved_alias r hold.Null none e = cc e
moved_alias r (hold.Kept q) none e = cc e
moved_alias r (hold.Own q) none e = cc e
moved_alias r (hold.Alias q) none e = none e
moved_alias r hold.Lost none e = cc e

pub call_leaves_no_alias : CallLeavesNoAlias
call_leaves_no_alias types variables around procedure t actuals holds after ends is x of r e =
    let effect = slice_get around.effects.calls procedure in
    let less = left_by_call variables effect holds in
    back_by (λ (h : Hold). h ≢ hold.Alias r) actuals less x (λ e. cc e) (called_aliases variables effect holds x t r of is)
    (rw (ends_as types variables effect (kept_at around.kept procedure) actuals holds after ends.1 ends.2) at e)

pub raised_call_leaves_no_alias : RaisedCallLeavesNoAlias
raised_call_leaves_no_alias types variables around procedure t actuals holds raised raises is x of r e =
    let effect = slice_get around.effects.calls procedure in
    let kept = kept_at around.kept procedure in
    let less = left_by_call variables effect holds in
    left_by (λ (h : Hold). h ≢ hold.Alias r) (moved_alias r) kept actuals less x (called_aliases variables effect holds x t r of is)
    (rw (raises_as types variables effect kept actuals holds raised raises.1 raises.2) at e)

-- An owner stays one, and so does null.
owner_stays : (b : Bool) (h : Hold) → IsOwner h → without_alias b h ≡ h
owner_stays false h owner = refl
owner_stays true hold.Null owner = refl
owner_stays true (hold.Kept r) owner = refl
owner_stays true (hold.Own r) owner = refl
owner_stays true (hold.Alias r) owner = absurd owner
owner_stays true hold.Lost owner = absurd owner

freed_owners : (variables : List VariableForm) (may : ℕ → Bool) (holds : Holds) (x : ℕ) (v : VariableForm) → slice_get variables x ≡ Some v
    → IsOwner (hold_at holds x) → hold_at (without_freed variables may holds) x ≡ hold_at holds x
freed_owners [] may holds x v is owner = absurd (cc is)
freed_owners (w ∷ ws) may [] x v is owner = refl
freed_owners (w ∷ ws) may (h ∷ hs) zero v is owner = owner_stays (is_freed may (access_of (Some w.kind))) h owner
freed_owners (w ∷ ws) may (h ∷ hs) (suc x) v is owner = freed_owners ws may hs x v is owner

called_owners : (variables : List VariableForm) (effect : Option Effect) (holds : Holds) (x : ℕ) (v : VariableForm)
    → slice_get variables x ≡ Some v → IsOwner (hold_at holds x) → hold_at (left_by_call variables effect holds) x ≡ hold_at holds x
called_owners variables None holds x v is owner = refl
called_owners variables (Some effect) holds x v is owner = freed_owners variables effect.frees holds x v is owner

pub call_moves_nothing : CallMovesNothing
call_moves_nothing types variables around procedure actuals holds after ends x v is owner =
    let effect = slice_get around.effects.calls procedure in
    let less = left_by_call variables effect holds in
    rw (ends_as types variables effect (kept_at around.kept procedure) actuals holds after ends.1 ends.2)
    (back_by (λ (h : Hold). (h ≡ hold_at holds x) ⊎ (h ≡ hold.Own Whole)) actuals less x (inr refl)
    (inl (called_owners variables effect holds x v is owner)))

pub raised_call_moves_nothing : RaisedCallMovesNothing
raised_call_moves_nothing types variables around procedure actuals holds raised raises x v is none owner =
    let effect = slice_get around.effects.calls procedure in
    let kept = kept_at around.kept procedure in
    rw (raises_as types variables effect kept actuals holds raised raises.1 raises.2)
    (left_others kept actuals (left_by_call variables effect holds) x none ∙ called_owners variables effect holds x v is owner)

-- What is handed over breaks no rule where it is an owner, or null.
handed_owner : (again : Bool) (h : Hold) (spot : Spot) → handed_by again h spot ≡ None → IsOwner h
handed_owner again hold.Null spot e = tt
handed_owner again (hold.Kept r) spot e = tt
handed_owner again (hold.Own r) spot e = tt
handed_owner again (hold.Alias r) spot e = absurd (cc e)
handed_owner again hold.Lost spot e = absurd (cc e)

-- What is given is one thing.
same_some : (a b : ActualForm) → Some a ≡ Some b → a ≡ b
same_some a b e = cc e

owner_among : (types : List TypeForm) (variables : List VariableForm) (may : ℕ → Bool) (holds : Holds) (earlier actuals : List ActualForm)
    → NoneBroken holds (uses_in_actuals types variables may earlier actuals) → (formal : ℕ) (path : PathForm)
    → slice_get actuals formal ≡ Some (in_out_access path) → IsOwner (hold_at holds path.root)
owner_among types variables may holds earlier [] kept formal path at = absurd (cc at)
owner_among types variables may holds earlier (a ∷ rest) kept zero path at =
    let again = is_begun_with earlier path.root in
    let two = kept_apart holds (uses_in_actual types variables may earlier a) (uses_in_actuals types variables may (earlier ++ a ∷ []) rest) kept in
    let one = subst (λ (b : ActualForm). NoneBroken holds (uses_in_actual types variables may earlier b)) (same_some a (in_out_access path) at) two.0 in
    handed_owner again (hold_at holds path.root) path.spot (followings.first_kept holds (hands_it again path) [] one).0
owner_among types variables may holds earlier (a ∷ rest) kept (suc formal) path at =
    let two = kept_apart holds (uses_in_actual types variables may earlier a) (uses_in_actuals types variables may (earlier ++ a ∷ []) rest) kept in
    owner_among types variables may holds (earlier ++ a ∷ []) rest two.1 formal path at

handed_owns : (types : List TypeForm) (variables : List VariableForm) (effect : Option Effect) (kept : Keeping) (x : ℕ) (actuals : List ActualForm)
    (holds : Holds) (normal raising : Option Holds)
    → called types variables no_tracks effect kept actuals holds ≡ goes normal raising → IsHandedOver x actuals → IsOwner (hold_at holds x)
handed_owns types variables effect kept x actuals holds normal raising e (formal, path, at, is) =
    subst (λ (y : ℕ). IsOwner (hold_at holds y)) is
    (owner_among types variables (call_frees effect) holds [] actuals (called_as types variables effect kept actuals holds normal raising e).0 formal path at)

pub only_owners_are_handed_over : OnlyOwnersAreHandedOver
only_owners_are_handed_over types variables around cleared procedure x actuals holds normal raising e handed =
    handed_owns types variables (slice_get around.effects.calls procedure) (kept_at around.kept procedure) x actuals holds normal raising e handed

-- So it is not lost, and owns what comes back.
there_is : (h : Hold) → IsOwner h → h ≢ hold.Lost
there_is hold.Null owner e = cc e
there_is (hold.Kept r) owner e = cc e
there_is (hold.Own r) owner e = cc e
there_is (hold.Alias r) owner e = owner
there_is hold.Lost owner e = owner

back_handed : (actuals : List ActualForm) (holds : Holds) (formal : ℕ) (path : PathForm) → slice_get actuals formal ≡ Some (in_out_access path)
    → hold_at holds path.root ≢ hold.Lost → hold_at (handed_back actuals holds) path.root ≡ hold.Own Whole
back_handed [] holds formal path at there = absurd (cc at)
back_handed (in_value e ∷ rest) holds zero path at there = absurd (cc at)
back_handed (in_null ∷ rest) holds zero path at there = absurd (cc at)
back_handed (in_access q ∷ rest) holds zero path at there = absurd (cc at)
back_handed (in_record p ∷ rest) holds zero path at there = absurd (cc at)
back_handed (in_out_path q ∷ rest) holds zero path at there = absurd (cc at)
back_handed (in_out_component q ∷ rest) holds zero path at there = absurd (cc at)
back_handed (in_out_record p ∷ rest) holds zero path at there = absurd (cc at)
back_handed (in_out_access q ∷ rest) holds zero path at there =
    let same : q ≡ path = cc at in
    rw same (back_by (λ (h : Hold). h ≡ hold.Own Whole) rest (slice_set holds path.root (hold.Own Whole)) path.root refl
    (written_here holds path.root (hold.Own Whole) there))
back_handed (in_value e ∷ rest) holds (suc formal) path at there = back_handed rest holds formal path at there
back_handed (in_null ∷ rest) holds (suc formal) path at there = back_handed rest holds formal path at there
back_handed (in_access q ∷ rest) holds (suc formal) path at there = back_handed rest holds formal path at there
back_handed (in_record p ∷ rest) holds (suc formal) path at there = back_handed rest holds formal path at there
back_handed (in_out_path q ∷ rest) holds (suc formal) path at there = back_handed rest holds formal path at there
back_handed (in_out_component q ∷ rest) holds (suc formal) path at there = back_handed rest holds formal path at there
back_handed (in_out_record p ∷ rest) holds (suc formal) path at there = back_handed rest holds formal path at there
back_handed (in_out_access q ∷ rest) holds (suc formal) path at there =
    back_handed rest (slice_set holds q.root (hold.Own Whole)) formal path at
    (written (λ (h : Hold). h ≢ hold.Lost) holds q.root path.root (hold.Own Whole) (λ same e. cc e) there)

pub call_hands_back : CallHandsBack
call_hands_back types variables around procedure x v actuals holds after ends is (formal, path, at, root) =
    let effect = slice_get around.effects.calls procedure in
    let kept = kept_at around.kept procedure in
    let owner = handed_owns types variables effect kept x actuals holds (Some after) ends.1 ends.2 (formal, path, at, root) in
    let stays = called_owners variables effect holds x v is owner in
    let there : hold_at (left_by_call variables effect holds) x ≢ hold.Lost = rw stays (there_is (hold_at holds x) owner) in
    let back = back_handed actuals (left_by_call variables effect holds) formal path at (rw root there) in
    rw (ends_as types variables effect kept actuals holds after ends.1 ends.2, ← root) back

-- What is not kept owns nothing.
moved_nothing : (h : Hold) → (Owns h → ⊥) → Owns (left_by_move h) → ⊥
moved_nothing h none own = left_nothing h own

unkept_here : (kept : Bool) (holds : Holds) (x : ℕ) → kept ≡ false → Owns (hold_at (unless_kept kept x holds) x) → ⊥
unkept_here true holds x is own = absurd (cc is)
unkept_here false holds x is own = set_nothing holds x (left_by_move (hold_at holds x)) (left_nothing (hold_at holds x)) own

unkept_nothing : (kept : Keeping) (actuals : List ActualForm) (holds : Holds) (formal : ℕ) (path : PathForm)
    → slice_get actuals formal ≡ Some (in_out_access path) → slice_index_or kept formal false ≡ false
    → Owns (hold_at (left_unkept kept actuals holds) path.root) → ⊥
unkept_nothing kept [] holds formal path at is = absurd (cc at)
unkept_nothing kept (in_value e ∷ rest) holds zero path at is = absurd (cc at)
unkept_nothing kept (in_null ∷ rest) holds zero path at is = absurd (cc at)
unkept_nothing kept (in_access q ∷ rest) holds zero path at is = absurd (cc at)
unkept_nothing kept (in_record p ∷ rest) holds zero path at is = absurd (cc at)
unkept_nothing kept (in_out_path q ∷ rest) holds zero path at is = absurd (cc at)
unkept_nothing kept (in_out_component q ∷ rest) holds zero path at is = absurd (cc at)
unkept_nothing kept (in_out_record p ∷ rest) holds zero path at is = absurd (cc at)
unkept_nothing kept (in_out_access q ∷ rest) holds zero path at is =
    let same : q ≡ path = cc at in
    rw same (left_by (λ (h : Hold). Owns h → ⊥) moved_nothing (others_kept kept) rest (unless_kept (first_kept kept) path.root holds) path.root
    (unkept_here (first_kept kept) holds path.root (first_is kept ∙ is)))
unkept_nothing kept (in_value e ∷ rest) holds (suc formal) path at is =
    unkept_nothing (others_kept kept) rest holds formal path at (others_are kept formal ∙ is)
unkept_nothing kept (in_null ∷ rest) holds (suc formal) path at is = unkept_nothing (others_kept kept) rest holds formal path at (others_are kept formal ∙ is)
unkept_nothing kept (in_access q ∷ rest) holds (suc formal) path at is =
    unkept_nothing (others_kept kept) rest holds formal path at (others_are kept formal ∙ is)
unkept_nothing kept (in_record p ∷ rest) holds (suc formal) path at is =
    unkept_nothing (others_kept kept) rest holds formal path at (others_are kept formal ∙ is)
unkept_nothing kept (in_out_path q ∷ rest) holds (suc formal) path at is =
    unkept_nothing (others_kept kept) rest holds formal path at (others_are kept formal ∙ is)
unkept_nothing kept (in_out_component q ∷ rest) holds (suc formal) path at is =
    unkept_nothing (others_kept kept) rest holds formal path at (others_are kept formal ∙ is)
unkept_nothing kept (in_out_record p ∷ rest) holds (suc formal) path at is =
    unkept_nothing (others_kept kept) rest holds formal path at (others_are kept formal ∙ is)
unkept_nothing kept (in_out_access q ∷ rest) holds (suc formal) path at is =
    unkept_nothing (others_kept kept) rest (unless_kept (first_kept kept) q.root holds) formal path at (others_are kept formal ∙ is)

pub unkept_own_nothing : UnkeptOwnNothing
unkept_own_nothing types variables around procedure x actuals holds raised raises (formal, path, at, root, is) own =
    let effect = slice_get around.effects.calls procedure in
    let kept = kept_at around.kept procedure in
    let here = rw (raises_as types variables effect kept actuals holds raised raises.1 raises.2) at own in
    unkept_nothing kept actuals (left_by_call variables effect holds) formal path at is (rw root here)

-- A variable of another type stays as it is.
freed_others : (variables : List VariableForm) (may : ℕ → Bool) (holds : Holds) (x : ℕ) (v : VariableForm) → slice_get variables x ≡ Some v
    → is_freed may (variable_access variables x) ≡ false → hold_at (without_freed variables may holds) x ≡ hold_at holds x
freed_others [] may holds x v is none = absurd (cc is)
freed_others (w ∷ ws) may [] x v is none = refl
freed_others (w ∷ ws) may (h ∷ hs) zero v is none = rw none refl
freed_others (w ∷ ws) may (h ∷ hs) (suc x) v is none = freed_others ws may hs x v is none

called_others : (variables : List VariableForm) (effect : Option Effect) (holds : Holds) (x : ℕ) (v : VariableForm) → slice_get variables x ≡ Some v
    → is_freed (call_frees effect) (variable_access variables x) ≡ false → hold_at (left_by_call variables effect holds) x ≡ hold_at holds x
called_others variables None holds x v is none = refl
called_others variables (Some effect) holds x v is none = freed_others variables effect.frees holds x v is none

pub call_keeps_others : CallKeepsOthers
call_keeps_others types variables around procedure actuals holds after ends x v is none other =
    let effect = slice_get around.effects.calls procedure in
    rw (ends_as types variables effect (kept_at around.kept procedure) actuals holds after ends.1 ends.2)
    (back_others actuals (left_by_call variables effect holds) x other ∙ called_others variables effect holds x v is none)

pub raised_call_keeps_others : RaisedCallKeepsOthers
raised_call_keeps_others types variables around procedure actuals holds raised raises x v is none other =
    let effect = slice_get around.effects.calls procedure in
    let kept = kept_at around.kept procedure in
    rw (raises_as types variables effect kept actuals holds raised raises.1 raises.2)
    (left_others kept actuals (left_by_call variables effect holds) x other ∙ called_others variables effect holds x v is none)

-- Does a use rely on a variable?
abbrev relies_by : (x : ℕ) → Use → Bool
relies_by x (reads_it path) = (path.root == x) && has_selector path.selectors
relies_by x (gives_again path) = (path.root == x) && has_selector path.selectors
relies_by x (compares_it path) = path.root == x
relies_by x (lends_it again path) = path.root == x
relies_by x (hands_it again path) = path.root == x
relies_by x (opens_it owning unsafe path) = path.root == x
relies_by x (passes_it unsafe path) = path.root == x
relies_by x u = false

-- The uses of an expression rely on what it relies on.
mutual
  unfolding uses_in

  relies_as : (x : ℕ) (e : ExpressionForm) → list_any (relies_by x) (uses_in e) ≡ relies_on x e
  relies_as x (integer value) = refl
  relies_as x (boolean value) = refl
  relies_as x (reads path) = or-false (relies_on x (reads path))
  relies_as x (is_null equal path) = or-false (relies_on x (is_null equal path))
  relies_as x (applied_to operator e) = relies_as x e
  relies_as x (chained e links) = rw (list_any-append (relies_by x) (uses_in e) (uses_in_links links), relies_as x e, links_as x links) refl

  links_as : (x : ℕ) (links : LinksForm) → list_any (relies_by x) (uses_in_links links) ≡ links_rely_on x links
  links_as x no_more_links = refl
  links_as x (a_link operator e links) = rw (list_any-append (relies_by x) (uses_in e) (uses_in_links links), relies_as x e, links_as x links) refl

-- So do those of an actual parameter.
one_as : (types : List TypeForm) (variables : List VariableForm) (may : ℕ → Bool) (x : ℕ) (earlier : List ActualForm) (a : ActualForm)
    → list_any (relies_by x) (uses_in_actual types variables may earlier a) ≡ value_relies_on x a
one_as types variables may x earlier (in_value e) = relies_as x e
one_as types variables may x earlier in_null = refl
one_as types variables may x earlier (in_access path) = or-false (path.root == x)
one_as types variables may x earlier (in_record p) = or-false (p.object.root == x)
one_as types variables may x earlier (in_out_path path) = go (is_begun_with earlier path.root)
  where
    go : (again : Bool) → list_any (relies_by x) ((if again then gives_again path else reads_it path) ∷ []) ≡ relies_on x (reads path)
    go true = or-false (relies_on x (reads path))
    go false = or-false (relies_on x (reads path))
one_as types variables may x earlier (in_out_access path) = or-false (path.root == x)
one_as types variables may x earlier (in_out_component path) = or-false (path.root == x)
one_as types variables may x earlier (in_out_record p) = or-false (p.object.root == x)

actuals_as : (types : List TypeForm) (variables : List VariableForm) (may : ℕ → Bool) (x : ℕ) (earlier actuals : List ActualForm)
    → list_any (relies_by x) (uses_in_actuals types variables may earlier actuals) ≡ list_any (value_relies_on x) actuals
actuals_as types variables may x earlier [] = refl
actuals_as types variables may x earlier (a ∷ rest) =
    let here = uses_in_actual types variables may earlier a in
    let later = uses_in_actuals types variables may (earlier ++ a ∷ []) rest in
    list_any-append (relies_by x) here later
    ∙ rw (one_as types variables may x earlier a, actuals_as types variables may x (earlier ++ a ∷ []) rest) refl

-- What is given behind other actual parameters, and what these begin with.
grouped : (a b c : Bool) → (a || (b || c)) ≡ ((a || b) || c)
grouped true b c = refl
grouped false b c = refl

given_more : (earlier : List ActualForm) (a : ActualForm) (x : ℕ) → is_given (earlier ++ a ∷ []) x ≡ (is_given earlier x || is_given (a ∷ []) x)
given_more [] a x = refl
given_more (in_value e ∷ rest) a x = given_more rest a x
given_more (in_null ∷ rest) a x = given_more rest a x
given_more (in_access path ∷ rest) a x = given_more rest a x
given_more (in_record p ∷ rest) a x = given_more rest a x
given_more (in_out_path path ∷ rest) a x = rw (given_more rest a x) (grouped (x == path.root) (is_given rest x) (is_given (a ∷ []) x))
given_more (in_out_access path ∷ rest) a x = rw (given_more rest a x) (grouped (x == path.root) (is_given rest x) (is_given (a ∷ []) x))
given_more (in_out_component path ∷ rest) a x = rw (given_more rest a x) (grouped (x == path.root) (is_given rest x) (is_given (a ∷ []) x))
given_more (in_out_record p ∷ rest) a x = rw (given_more rest a x) (grouped (x == p.object.root) (is_given rest x) (is_given (a ∷ []) x))

begun_more : (earlier : List ActualForm) (a : ActualForm) (x : ℕ) → is_begun_with (earlier ++ a ∷ []) x ≡ (is_begun_with earlier x || is_begun_with (a ∷ []) x)
begun_more [] a x = refl
begun_more (in_value e ∷ rest) a x = begun_more rest a x
begun_more (in_null ∷ rest) a x = begun_more rest a x
begun_more (in_access path ∷ rest) a x = rw (begun_more rest a x) (grouped (x == path.root) (is_begun_with rest x) (is_begun_with (a ∷ []) x))
begun_more (in_record p ∷ rest) a x = rw (begun_more rest a x) (grouped (x == p.object.root) (is_begun_with rest x) (is_begun_with (a ∷ []) x))
begun_more (in_out_path path ∷ rest) a x = rw (begun_more rest a x) (grouped (x == path.root) (is_begun_with rest x) (is_begun_with (a ∷ []) x))
begun_more (in_out_access path ∷ rest) a x = rw (begun_more rest a x) (grouped (x == path.root) (is_begun_with rest x) (is_begun_with (a ∷ []) x))
begun_more (in_out_component path ∷ rest) a x = rw (begun_more rest a x) (grouped (x == path.root) (is_begun_with rest x) (is_begun_with (a ∷ []) x))
begun_more (in_out_record p ∷ rest) a x = rw (begun_more rest a x) (grouped (x == p.object.root) (is_begun_with rest x) (is_begun_with (a ∷ []) x))

-- That of one actual parameter.
same_root : (x y : ℕ) → ((x == y) || false) ≡ true → Some y ≡ Some x
same_root x y e = ap Some (sym (eqb-true x y (sym (or-false (x == y)) ∙ e)))

root_same : (x y : ℕ) → Some y ≡ Some x → ((x == y) || false) ≡ true
root_same x y e = let same : x ≡ y = cc e in or-false (x == y) ∙ eq-eqb x y same

given_one : (a : ActualForm) (x : ℕ) → is_given (a ∷ []) x ≡ true → writes_from a ≡ Some x
given_one (in_value e) x is = absurd (cc is)
given_one in_null x is = absurd (cc is)
given_one (in_access path) x is = absurd (cc is)
given_one (in_record p) x is = absurd (cc is)
given_one (in_out_path path) x is = same_root x path.root is
given_one (in_out_access path) x is = same_root x path.root is
given_one (in_out_component path) x is = same_root x path.root is
given_one (in_out_record p) x is = same_root x p.object.root is

one_given : (a : ActualForm) (x : ℕ) → writes_from a ≡ Some x → is_given (a ∷ []) x ≡ true
one_given (in_value e) x is = absurd (cc is)
one_given in_null x is = absurd (cc is)
one_given (in_access path) x is = absurd (cc is)
one_given (in_record p) x is = absurd (cc is)
one_given (in_out_path path) x is = root_same x path.root is
one_given (in_out_access path) x is = root_same x path.root is
one_given (in_out_component path) x is = root_same x path.root is
one_given (in_out_record p) x is = root_same x p.object.root is

begun_one : (a : ActualForm) (x : ℕ) → is_begun_with (a ∷ []) x ≡ true → begins_with a ≡ Some x
begun_one (in_value e) x is = absurd (cc is)
begun_one in_null x is = absurd (cc is)
begun_one (in_access path) x is = same_root x path.root is
begun_one (in_record p) x is = same_root x p.object.root is
begun_one (in_out_path path) x is = same_root x path.root is
begun_one (in_out_access path) x is = same_root x path.root is
begun_one (in_out_component path) x is = same_root x path.root is
begun_one (in_out_record p) x is = same_root x p.object.root is

one_begun : (a : ActualForm) (x : ℕ) → begins_with a ≡ Some x → is_begun_with (a ∷ []) x ≡ true
one_begun (in_value e) x is = absurd (cc is)
one_begun in_null x is = absurd (cc is)
one_begun (in_access path) x is = root_same x path.root is
one_begun (in_record p) x is = root_same x p.object.root is
one_begun (in_out_path path) x is = root_same x path.root is
one_begun (in_out_access path) x is = root_same x path.root is
one_begun (in_out_component path) x is = root_same x path.root is
one_begun (in_out_record p) x is = root_same x p.object.root is

-- Of the actual parameters before one none gives a variable with which it begins, and none begins with one that it gives.
abbrev IsNew : (earlier : List ActualForm) → ActualForm → (x : ℕ) → Type 0
IsNew earlier a x = (begins_with a ≡ Some x → is_given earlier x ≡ true → ⊥) × (writes_from a ≡ Some x → is_begun_with earlier x ≡ true → ⊥)

abbrev AreNew : (earlier actuals : List ActualForm) → Type 0
AreNew earlier actuals = (j x : ℕ) (a : ActualForm) → slice_get actuals j ≡ Some a → IsNew earlier a x

-- Behind one, the others are given apart, and anew.
others_apart : (a : ActualForm) (rest : List ActualForm) → AreGivenApart (a ∷ rest) → AreGivenApart rest
others_apart a rest apart i j x b c at other gives begins = let two = apart (suc i) (suc j) x b c at other gives begins in omega (arith, two)

one_of : (b c : Bool) → (b || c) ≡ true → (b ≡ true) ⊎ (c ≡ true)
one_of true c e = inl refl
one_of false c e = inr e

still_new : (earlier : List ActualForm) (a : ActualForm) (rest : List ActualForm) → AreGivenApart (a ∷ rest) → AreNew earlier (a ∷ rest)
    → AreNew (earlier ++ a ∷ []) rest
still_new earlier a rest apart new j x b at = (
  λ begins given. given_so begins (one_of (is_given earlier x) (is_given (a ∷ []) x) (sym (given_more earlier a x) ∙ given)),
  λ gives begun. begun_so gives (one_of (is_begun_with earlier x) (is_begun_with (a ∷ []) x) (sym (begun_more earlier a x) ∙ begun)),
)
  where
    given_so : begins_with b ≡ Some x → (is_given earlier x ≡ true) ⊎ (is_given (a ∷ []) x ≡ true) → ⊥
    given_so begins (inl e) = (new (suc j) x b at).0 begins e
    given_so begins (inr e) = let two = apart zero (suc j) x a b refl at (given_one a x e) begins in omega (arith, two)

    begun_so : writes_from b ≡ Some x → (is_begun_with earlier x ≡ true) ⊎ (is_begun_with (a ∷ []) x ≡ true) → ⊥
    begun_so gives (inl e) = (new (suc j) x b at).1 gives e
    begun_so gives (inr e) = let two = apart (suc j) zero x b a at refl gives (begun_one a x e) in omega (arith, two)

or_more : (b c : Bool) → c ≡ true → (b || c) ≡ true
or_more true c is = refl
or_more false c is = is

more_or : (b c : Bool) → b ≡ true → (b || c) ≡ true
more_or true c is = refl
more_or false c is = absurd (cc is)

or_on : (b c d : Bool) → (c ≡ true → d ≡ true) → (b || c) ≡ true → (b || d) ≡ true
or_on true c d more is = refl
or_on false c d more is = more is

-- A value of a type of which an object may be freed.
freed_some : (may : ℕ → Bool) (access : Option ℕ) → is_freed may access ≡ true → (t : ℕ) × (may t ≡ true) × (access ≡ Some t)
freed_some may None is = absurd (cc is)
freed_some may (Some t) is = (t, is, refl)

some_freed : (may : ℕ → Bool) (access : Option ℕ) (t : ℕ) → may t ≡ true → access ≡ Some t → is_freed may access ≡ true
some_freed may access t is same = rw same is

-- A path follows one.
passes_some : (types : List TypeForm) (may : ℕ → Bool) (kind : Option VariableKind) (cs : List ℕ) → passes_freed types may kind cs ≡ true
    → (t : ℕ) × (may t ≡ true) × IsFollowed types kind cs t
passes_some types may kind [] is = absurd (cc is)
passes_some types may kind (c ∷ cs) is =
    go (passes_some types may (selected_kind types kind c) cs)
    (one_of (is_freed may (access_of kind)) (passes_freed types may (selected_kind types kind c) cs) is)
  where
    go : (passes_freed types may (selected_kind types kind c) cs ≡ true → (t : ℕ) × (may t ≡ true) × IsFollowed types (selected_kind types kind c) cs t)
        → (is_freed may (access_of kind) ≡ true) ⊎ (passes_freed types may (selected_kind types kind c) cs ≡ true)
        → (t : ℕ) × (may t ≡ true) × IsFollowed types kind (c ∷ cs) t
    go later (inl e) = let one = freed_some may (access_of kind) e in (one.0, one.1, inl one.2)
    go later (inr e) = let one = later e in (one.0, one.1, inr one.2)

some_passes : (types : List TypeForm) (may : ℕ → Bool) (kind : Option VariableKind) (cs : List ℕ) (t : ℕ) → may t ≡ true → IsFollowed types kind cs t
    → passes_freed types may kind cs ≡ true
some_passes types may kind [] t is followed = absurd followed
some_passes types may kind (c ∷ cs) t is (inl same) =
    more_or (is_freed may (access_of kind)) (passes_freed types may (selected_kind types kind c) cs) (some_freed may (access_of kind) t is same)
some_passes types may kind (c ∷ cs) t is (inr later) =
    or_more (is_freed may (access_of kind)) (passes_freed types may (selected_kind types kind c) cs)
    (some_passes types may (selected_kind types kind c) cs t is later)

record_some : (types : List TypeForm) (variables : List VariableForm) (may : ℕ → Bool) (p : RecordPathForm) → record_passes types variables may p ≡ true
    → (t : ℕ) × (may t ≡ true) × FollowsTo types variables p t
record_some types variables may p is =
    go (one_of (component_passes types variables may p.object) (is_freed may (path_access types variables p.object)) is)
  where
    go : (component_passes types variables may p.object ≡ true) ⊎ (is_freed may (path_access types variables p.object) ≡ true)
        → (t : ℕ) × (may t ≡ true) × FollowsTo types variables p t
    go (inl e) = let one = passes_some types may (variable_kind variables p.object.root) p.object.selectors e in (one.0, one.1, inl one.2)
    go (inr e) = let one = freed_some may (path_access types variables p.object) e in (one.0, one.1, inr one.2)

some_record : (types : List TypeForm) (variables : List VariableForm) (may : ℕ → Bool) (p : RecordPathForm) (t : ℕ) → may t ≡ true
    → FollowsTo types variables p t → record_passes types variables may p ≡ true
some_record types variables may p t is (inl followed) =
    more_or (component_passes types variables may p.object) (is_freed may (path_access types variables p.object))
    (some_passes types may (variable_kind variables p.object.root) p.object.selectors t is followed)
some_record types variables may p t is (inr same) =
    or_more (component_passes types variables may p.object) (is_freed may (path_access types variables p.object))
    (some_freed may (path_access types variables p.object) t is same)

-- Neither of two.
neither : (b c : Bool) → (b ≡ true → ⊥) → (c ≡ true → ⊥) → (b || c) ≡ true → ⊥
neither true c first second is = first refl
neither false c first second is = second is

-- A path that has no value of an access type.
none_named : (access : Option ℕ) → access ≡ None → names_value access ≡ true → ⊥
none_named None none is = cc is
none_named (Some t) none is = cc none

not_named : (access : Option ℕ) → (names_value access ≡ true → ⊥) → access ≡ None
not_named None none = refl
not_named (Some t) none = absurd (none refl)

-- What is lost, where actual parameters are given apart, no alias is handed over, and all is passed safely.
module _ (Apart : Type 0) (holds : Holds) where
  -- An actual parameter reads and compares, lends, hands over owners and passes what is safe, and nothing else, but where a variable is given again.
  abbrev IsReading : Use → Type 0
  IsReading (reads_it path) = Unit {0}
  IsReading (compares_it path) = Unit {0}
  IsReading (gives_again path) = Apart → ⊥
  IsReading (lends_it again path) = Apart → again ≡ true → ⊥
  IsReading (hands_it again path) = (Apart → again ≡ true → ⊥) × (Apart → (r : Region) → hold_at holds path.root ≢ hold.Alias r)
  IsReading (opens_it owning unsafe path) = (Apart → owning ≡ true → ⊥) × (Apart → unsafe ≡ true → ⊥)
  IsReading (passes_it unsafe path) = Apart → unsafe ≡ true → ⊥
  IsReading (shares_it p) = Unit {0}
  IsReading u = ⊥

  abbrev AllRead : List Use → Type 0
  AllRead [] = Unit {0}
  AllRead (u ∷ us) = IsReading u × AllRead us

  both_read : (us vs : List Use) → AllRead us → AllRead vs → AllRead (us ++ vs)
  both_read [] vs one other = other
  both_read (u ∷ us) vs one other = (one.0, both_read us vs one.1 other)

  mutual
    unfolding uses_in

    reads_alone : (e : ExpressionForm) → AllRead (uses_in e)
    reads_alone (integer value) = tt
    reads_alone (boolean value) = tt
    reads_alone (reads path) = (tt, tt)
    reads_alone (is_null equal path) = (tt, tt)
    reads_alone (applied_to operator e) = reads_alone e
    reads_alone (chained e links) = both_read (uses_in e) (uses_in_links links) (reads_alone e) (links_alone links)

    links_alone : (links : LinksForm) → AllRead (uses_in_links links)
    links_alone no_more_links = tt
    links_alone (a_link operator e links) = both_read (uses_in e) (uses_in_links links) (reads_alone e) (links_alone links)

  given_alone : (again : Bool) (path : PathForm) → (Apart → again ≡ true → ⊥) → IsReading (if again then gives_again path else reads_it path)
  given_alone true path new = λ apart. new apart refl
  given_alone false path new = tt

  one_alone : (types : List TypeForm) (variables : List VariableForm) (may : ℕ → Bool) (earlier : List ActualForm) (a : ActualForm)
      → (Apart → (x : ℕ) → IsNew earlier a x) → (Apart → IsPassedSafely types variables may a)
      → (Apart → (path : PathForm) (r : Region) → a ≡ in_out_access path → hold_at holds path.root ≢ hold.Alias r)
      → AllRead (uses_in_actual types variables may earlier a)
  one_alone types variables may earlier (in_value e) new safe owner = reads_alone e
  one_alone types variables may earlier in_null new safe owner = tt
  one_alone types variables may earlier (in_access path) new safe owner = (λ apart. (new apart path.root).0 refl, tt)
  one_alone types variables may earlier (in_record p) new safe owner = (
    tt,
    (
      λ apart. neither (is_given earlier p.object.root) (record_passes types variables may p) ((new apart p.object.root).0 refl)
          (λ is. let one = record_some types variables may p is in safe apart one.0 one.1 one.2),
      tt,
    ),
  )
  one_alone types variables may earlier (in_out_path path) new safe owner =
      (given_alone (is_begun_with earlier path.root) path (λ apart. (new apart path.root).1 refl), tt)
  one_alone types variables may earlier (in_out_access path) new safe owner = ((λ apart. (new apart path.root).1 refl, λ apart r. owner apart path r refl), tt)
  one_alone types variables may earlier (in_out_component path) new safe owner = (
    (
      λ apart. none_named (path_access types variables path) (safe apart).0,
      λ apart. neither (is_begun_with earlier path.root) (component_passes types variables may path) ((new apart path.root).1 refl)
          (λ is. let one = passes_some types may (variable_kind variables path.root) path.selectors is in (safe apart).1 one.0 one.1 one.2),
    ),
    tt,
  )
  one_alone types variables may earlier (in_out_record p) new safe owner = (
    tt,
    (
      λ apart. neither (is_begun_with earlier p.object.root) (record_passes types variables may p) ((new apart p.object.root).1 refl)
          (λ is. let one = record_some types variables may p is in safe apart one.0 one.1 one.2),
      tt,
    ),
  )

  actuals_alone : (types : List TypeForm) (variables : List VariableForm) (may : ℕ → Bool) (earlier actuals : List ActualForm)
      → (Apart → AreGivenApart actuals) → (Apart → AreNew earlier actuals) → (Apart → ArePassedSafely types variables may actuals)
      → (Apart → HandsNoAlias actuals holds)
      → AllRead (uses_in_actuals types variables may earlier actuals)
  actuals_alone types variables may earlier [] each new safe owners = tt
  actuals_alone types variables may earlier (a ∷ rest) each new safe owners =
      both_read (uses_in_actual types variables may earlier a) (uses_in_actuals types variables may (earlier ++ a ∷ []) rest)
      (one_alone types variables may earlier a (λ apart x. new apart zero x a refl) (λ apart. safe apart zero a refl)
      (λ apart path r is. owners apart path.root r (zero, path, ap Some is, refl)))
      (actuals_alone types variables may (earlier ++ a ∷ []) rest (λ apart. others_apart a rest (each apart))
      (λ apart. still_new earlier a rest (each apart) (new apart)) (λ apart i b at. safe apart (suc i) b at)
      (λ apart x r handed. owners apart x r (suc handed.0, handed.1, handed.2, handed.3)))

  -- Nothing is broken but by what is lost; and something is.
  abbrev MayBeLost : Option Breach → Type 0
  MayBeLost None = Unit {0}
  MayBeLost (Some breach) = Apart → breach.1 ≡ LostValue

  abbrev IsLost : Option Breach → Type 0
  IsLost None = ⊥
  IsLost (Some breach) = Apart → breach.1 ≡ LostValue

  leftmost_may : (a b : Option Breach) → MayBeLost a → MayBeLost b → MayBeLost (leftmost a b)
  leftmost_may None b m n = n
  leftmost_may (Some a) None m n = m
  leftmost_may (Some a) (Some b) m n = go (is_left_of b.0 a.0)
    where
      go : (c : Bool) → MayBeLost (if c then Some b else Some a)
      go true = n
      go false = m

  first_lost : (a b : Option Breach) → IsLost a → MayBeLost b → IsLost (leftmost a b)
  first_lost None b m n = absurd m
  first_lost (Some a) None m n = m
  first_lost (Some a) (Some b) m n = go (is_left_of b.0 a.0)
    where
      go : (c : Bool) → IsLost (if c then Some b else Some a)
      go true = n
      go false = m

  later_lost : (a b : Option Breach) → MayBeLost a → IsLost b → IsLost (leftmost a b)
  later_lost None b m n = n
  later_lost (Some a) None m n = absurd n
  later_lost (Some a) (Some b) m n = go (is_left_of b.0 a.0)
    where
      go : (c : Bool) → IsLost (if c then Some b else Some a)
      go true = n
      go false = m

  lost_may : (h : Hold) (spot : Spot) → MayBeLost (lost_by h spot)
  lost_may hold.Null spot = tt
  lost_may (hold.Kept r) spot = tt
  lost_may (hold.Own r) spot = tt
  lost_may (hold.Alias r) spot = tt
  lost_may hold.Lost spot = λ apart. refl

  behind_may : (cs : List ℕ) (h : Hold) (spot : Spot) → MayBeLost (lost_behind cs h spot)
  behind_may [] h spot = tt
  behind_may (c ∷ cs) h spot = lost_may h spot

  both_may : (again : Bool) (spot : Spot) → (Apart → again ≡ true → ⊥) → MayBeLost (given_by_both again spot)
  both_may true spot new = λ apart. absurd (new apart refl)
  both_may false spot new = tt

  lent_may : (again : Bool) (h : Hold) (spot : Spot) → (Apart → again ≡ true → ⊥) → MayBeLost (lent_by again h spot)
  lent_may again hold.Null spot new = both_may again spot new
  lent_may again (hold.Kept r) spot new = both_may again spot new
  lent_may again (hold.Own r) spot new = both_may again spot new
  lent_may again (hold.Alias r) spot new = both_may again spot new
  lent_may again hold.Lost spot new = λ apart. refl

  handed_may : (again : Bool) (h : Hold) (spot : Spot) → (Apart → again ≡ true → ⊥) → (Apart → (r : Region) → h ≢ hold.Alias r)
      → MayBeLost (handed_by again h spot)
  handed_may again hold.Null spot new owner = both_may again spot new
  handed_may again (hold.Kept r) spot new owner = both_may again spot new
  handed_may again (hold.Own r) spot new owner = both_may again spot new
  handed_may again (hold.Alias r) spot new owner = λ apart. absurd (owner apart r refl)
  handed_may again hold.Lost spot new owner = λ apart. refl

  passed_may : (unsafe : Bool) (h : Hold) (spot : Spot) → (Apart → unsafe ≡ true → ⊥) → MayBeLost (passed_by unsafe h spot)
  passed_may unsafe hold.Null spot safe = both_may unsafe spot safe
  passed_may unsafe (hold.Kept r) spot safe = both_may unsafe spot safe
  passed_may unsafe (hold.Own r) spot safe = both_may unsafe spot safe
  passed_may unsafe (hold.Alias r) spot safe = both_may unsafe spot safe
  passed_may unsafe hold.Lost spot safe = λ apart. refl

  taken_may : (h : Hold) (spot : Spot) → (Apart → ⊥) → MayBeLost (taken_by false h spot)
  taken_may hold.Null spot none = λ apart. absurd (none apart)
  taken_may (hold.Kept r) spot none = λ apart. absurd (none apart)
  taken_may (hold.Own r) spot none = λ apart. absurd (none apart)
  taken_may (hold.Alias r) spot none = λ apart. absurd (none apart)
  taken_may hold.Lost spot none = λ apart. refl

  opened_may : (owning unsafe : Bool) (h : Hold) (spot : Spot) → (Apart → owning ≡ true → ⊥) → (Apart → unsafe ≡ true → ⊥)
      → MayBeLost (opened_by_call owning unsafe h spot)
  opened_may true unsafe h spot none safe = taken_may h spot (λ apart. none apart refl)
  opened_may false unsafe h spot none safe = passed_may unsafe h spot safe

  use_may : (u : Use) → IsReading u → MayBeLost (broken_in no_tracks holds u)
  use_may (reads_it path) is = behind_may path.selectors (hold_at holds path.root) path.spot
  use_may (compares_it path) is = lost_may (hold_at holds path.root) path.spot
  use_may (gives_again path) is = λ apart. absurd (is apart)
  use_may (lends_it again path) is = lent_may again (hold_at holds path.root) path.spot is
  use_may (hands_it again path) is = handed_may again (hold_at holds path.root) path.spot is.0 is.1
  use_may (opens_it owning unsafe path) is = opened_may owning unsafe (hold_at holds path.root) path.spot is.0 is.1
  use_may (passes_it unsafe path) is = passed_may unsafe (hold_at holds path.root) path.spot is
  use_may (shares_it p) is = tt
  use_may u is = absurd is

  uses_may : (us : List Use) → AllRead us → MayBeLost (broken_among no_tracks holds us)
  uses_may [] all = tt
  uses_may (u ∷ us) all = leftmost_may (broken_in no_tracks holds u) (broken_among no_tracks holds us) (use_may u all.0) (uses_may us all.1)

  behind_lost : (cs : List ℕ) (h : Hold) (spot : Spot) → has_selector cs ≡ true → h ≡ hold.Lost → IsLost (lost_behind cs h spot)
  behind_lost [] h spot is lost = absurd (cc is)
  behind_lost (c ∷ cs) h spot is lost = rw lost (λ apart. refl)

  opened_lost : (owning unsafe : Bool) (spot : Spot) → IsLost (opened_by_call owning unsafe hold.Lost spot)
  opened_lost true unsafe spot = λ apart. refl
  opened_lost false unsafe spot = λ apart. refl

  use_lost : (x : ℕ) (u : Use) → IsReading u → relies_by x u ≡ true → hold_at holds x ≡ hold.Lost → IsLost (broken_in no_tracks holds u)
  use_lost x (reads_it path) reading is lost =
      let parts = and_parts (path.root == x) (has_selector path.selectors) is in
      behind_lost path.selectors (hold_at holds path.root) path.spot parts.1 (rw (eqb-true path.root x parts.0) lost)
  use_lost x (compares_it path) reading is lost = rw (eqb-true path.root x is, lost) (λ apart. refl)
  use_lost x (gives_again path) reading is lost = λ apart. absurd (reading apart)
  use_lost x (lends_it again path) reading is lost = rw (eqb-true path.root x is, lost) (λ apart. refl)
  use_lost x (hands_it again path) reading is lost = rw (eqb-true path.root x is, lost) (λ apart. refl)
  use_lost x (opens_it owning unsafe path) reading is lost = rw (eqb-true path.root x is, lost) (opened_lost owning unsafe path.spot)
  use_lost x (passes_it unsafe path) reading is lost = rw (eqb-true path.root x is, lost) (λ apart. refl)
  use_lost x (shares_it p) reading is lost = absurd (cc is)
  use_lost x u reading is lost = absurd reading

  uses_lost : (x : ℕ) (us : List Use) → AllRead us → list_any (relies_by x) us ≡ true → hold_at holds x ≡ hold.Lost → IsLost (broken_among no_tracks holds us)
  uses_lost x [] all some lost = absurd (cc some)
  uses_lost x (u ∷ us) all some lost = go (relies_by x u) refl some (λ one. uses_lost x us all.1 one lost)
    where
      go : (b : Bool) → relies_by x u ≡ b → (b || list_any (relies_by x) us) ≡ true
          → (list_any (relies_by x) us ≡ true → IsLost (broken_among no_tracks holds us)) → IsLost (broken_among no_tracks holds (u ∷ us))
      go true is one later = first_lost (broken_in no_tracks holds u) (broken_among no_tracks holds us) (use_lost x u all.0 is lost) (uses_may us all.1)
      go false is one later = later_lost (broken_in no_tracks holds u) (broken_among no_tracks holds us) (use_may u all.0) (later one)

  -- So that is the fault.
  lost_faults : (b : Option Breach) (more : Outcome) → IsLost b
      → (spot : Spot) × (rule : Rule) × (unless_broken b more ≡ faults spot rule) × (Apart → rule ≡ LostValue)
  lost_faults None more is = absurd is
  lost_faults (Some breach) more is = (breach.0, breach.1, refl, is)

pub lost_is_no_actual : LostIsNoActual
lost_is_no_actual types variables around cleared procedure x actuals holds some lost =
    let effect = slice_get around.effects.calls procedure in
    let less = left_by_call variables effect holds in
    let may = call_frees effect in
    let apart = AreGivenApart actuals × HandsNoAlias actuals holds × ArePassedSafely types variables may actuals in
    let uses = uses_in_actuals types variables may [] actuals in
    let read =
    actuals_alone apart holds types variables may [] actuals (λ all. all.0) (λ all j x a at. (λ begins given. cc given, λ gives begun. cc begun))
    (λ all. all.2) (λ all. all.1) in
    let fault =
    lost_faults apart holds (broken_among no_tracks holds uses)
    (ends_with (actuals_raise actuals || call_raises effect (λ e. true)) (left_unkept (kept_at around.kept procedure) actuals less) (handed_back actuals less))
    (uses_lost apart holds x uses read (actuals_as types variables may x [] actuals ∙ some) lost) in
    (fault.0, fault.1, fault.2, λ each owners safe. fault.3 (each, owners, safe))

-- Where no rule is broken, no variable is given again, and all is passed safely.
given_begun : (earlier : List ActualForm) (x : ℕ) → is_given earlier x ≡ true → is_begun_with earlier x ≡ true
given_begun [] x is = absurd (cc is)
given_begun (in_value e ∷ rest) x is = given_begun rest x is
given_begun (in_null ∷ rest) x is = given_begun rest x is
given_begun (in_access path ∷ rest) x is = or_more (x == path.root) (is_begun_with rest x) (given_begun rest x is)
given_begun (in_record p ∷ rest) x is = or_more (x == p.object.root) (is_begun_with rest x) (given_begun rest x is)
given_begun (in_out_path path ∷ rest) x is = or_on (x == path.root) (is_given rest x) (is_begun_with rest x) (given_begun rest x) is
given_begun (in_out_access path ∷ rest) x is = or_on (x == path.root) (is_given rest x) (is_begun_with rest x) (given_begun rest x) is
given_begun (in_out_component path ∷ rest) x is = or_on (x == path.root) (is_given rest x) (is_begun_with rest x) (given_begun rest x) is
given_begun (in_out_record p ∷ rest) x is = or_on (x == p.object.root) (is_given rest x) (is_begun_with rest x) (given_begun rest x) is

both_once : (again : Bool) (spot : Spot) → given_by_both again spot ≡ None → again ≡ true → ⊥
both_once true spot e is = cc e
both_once false spot e is = cc is

lent_once : (again : Bool) (h : Hold) (spot : Spot) → lent_by again h spot ≡ None → again ≡ true → ⊥
lent_once again hold.Null spot e is = both_once again spot e is
lent_once again (hold.Kept r) spot e is = both_once again spot e is
lent_once again (hold.Own r) spot e is = both_once again spot e is
lent_once again (hold.Alias r) spot e is = both_once again spot e is
lent_once again hold.Lost spot e is = cc e

handed_once : (again : Bool) (h : Hold) (spot : Spot) → handed_by again h spot ≡ None → again ≡ true → ⊥
handed_once again hold.Null spot e is = both_once again spot e is
handed_once again (hold.Kept r) spot e is = both_once again spot e is
handed_once again (hold.Own r) spot e is = both_once again spot e is
handed_once again (hold.Alias r) spot e is = cc e
handed_once again hold.Lost spot e is = cc e

passed_once : (unsafe : Bool) (h : Hold) (spot : Spot) → passed_by unsafe h spot ≡ None → unsafe ≡ true → ⊥
passed_once unsafe hold.Null spot e is = both_once unsafe spot e is
passed_once unsafe (hold.Kept r) spot e is = both_once unsafe spot e is
passed_once unsafe (hold.Own r) spot e is = both_once unsafe spot e is
passed_once unsafe (hold.Alias r) spot e is = both_once unsafe spot e is
passed_once unsafe hold.Lost spot e is = cc e

taken_once : (h : Hold) (spot : Spot) → taken_by false h spot ≡ None → ⊥
taken_once hold.Null spot e = cc e
taken_once (hold.Kept r) spot e = cc e
taken_once (hold.Own r) spot e = cc e
taken_once (hold.Alias r) spot e = cc e
taken_once hold.Lost spot e = cc e

opened_once : (owning unsafe : Bool) (h : Hold) (spot : Spot) → opened_by_call owning unsafe h spot ≡ None → (owning ≡ true → ⊥) × (unsafe ≡ true → ⊥)
opened_once true unsafe h spot e = absurd (taken_once h spot e)
opened_once false unsafe h spot e = (λ is. cc is, passed_once unsafe h spot e)

given_once : (holds : Holds) (again : Bool) (path : PathForm) → NoneBroken holds ((if again then gives_again path else reads_it path) ∷ []) → again ≡ true → ⊥
given_once holds true path kept is = cc kept
given_once holds false path kept is = cc is

-- Whichever variable it is.
begun_new : (holds : Holds) (earlier : List ActualForm) (root x : ℕ) → (is_begun_with earlier root ≡ true → ⊥) → Some root ≡ Some x
    → (is_given earlier x ≡ true → ⊥) × (is_begun_with earlier x ≡ true → ⊥)
begun_new holds earlier root x none is =
    let same : root ≡ x = cc is in
    (λ given. none (rw same (given_begun earlier x given)), λ begun. none (rw same begun))

one_new : (types : List TypeForm) (variables : List VariableForm) (may : ℕ → Bool) (holds : Holds) (earlier : List ActualForm) (a : ActualForm) (x : ℕ)
    → NoneBroken holds (uses_in_actual types variables may earlier a) → IsNew earlier a x
one_new types variables may holds earlier (in_value e) x kept = (λ is given. cc is, λ is begun. cc is)
one_new types variables may holds earlier in_null x kept = (λ is given. cc is, λ is begun. cc is)
one_new types variables may holds earlier (in_access path) x kept =
    let again = is_given earlier path.root in
    let once = lent_once again (hold_at holds path.root) path.spot (followings.first_kept holds (lends_it again path) [] kept).0 in
    (λ is given. let same : path.root ≡ x = cc is in once (rw same given), λ is begun. cc is)
one_new types variables may holds earlier (in_record p) x kept =
    let unsafe = is_given earlier p.object.root || record_passes types variables may p in
    let once = passed_once unsafe (hold_at holds p.object.root) p.object.spot (followings.first_kept holds (passes_it unsafe p.object) [] kept).0 in (
      λ is given.
          let same : p.object.root ≡ x = cc is in
          once (more_or (is_given earlier p.object.root) (record_passes types variables may p) (rw same given)),
      λ is begun. cc is,
    )
one_new types variables may holds earlier (in_out_path path) x kept =
    let once = given_once holds (is_begun_with earlier path.root) path kept in
    (λ is. (begun_new holds earlier path.root x once is).0, λ is. (begun_new holds earlier path.root x once is).1)
one_new types variables may holds earlier (in_out_access path) x kept =
    let again = is_begun_with earlier path.root in
    let once = handed_once again (hold_at holds path.root) path.spot (followings.first_kept holds (hands_it again path) [] kept).0 in
    (λ is. (begun_new holds earlier path.root x once is).0, λ is. (begun_new holds earlier path.root x once is).1)
one_new types variables may holds earlier (in_out_component path) x kept =
    let owning = names_value (path_access types variables path) in
    let passes = component_passes types variables may path in
    let unsafe = is_begun_with earlier path.root || passes in
    let once = opened_once owning unsafe (hold_at holds path.root) path.spot (followings.first_kept holds (opens_it owning unsafe path) [] kept).0 in
    let new : is_begun_with earlier path.root ≡ true → ⊥ = λ begun. once.1 (more_or (is_begun_with earlier path.root) passes begun) in
    (λ is. (begun_new holds earlier path.root x new is).0, λ is. (begun_new holds earlier path.root x new is).1)
one_new types variables may holds earlier (in_out_record p) x kept =
    let passes = record_passes types variables may p in
    let unsafe = is_begun_with earlier p.object.root || passes in
    let once = passed_once unsafe (hold_at holds p.object.root) p.object.spot (followings.first_kept holds (passes_it unsafe p.object) [] kept).0 in
    let new : is_begun_with earlier p.object.root ≡ true → ⊥ = λ begun. once (more_or (is_begun_with earlier p.object.root) passes begun) in
    (λ is. (begun_new holds earlier p.object.root x new is).0, λ is. (begun_new holds earlier p.object.root x new is).1)

-- What is new behind more is new behind less.
less_new : (earlier : List ActualForm) (a b : ActualForm) (x : ℕ) → IsNew (earlier ++ a ∷ []) b x → IsNew earlier b x
less_new earlier a b x new = (
  λ begins given. new.0 begins (given_more earlier a x ∙ more_or (is_given earlier x) (is_given (a ∷ []) x) given),
  λ gives begun. new.1 gives (begun_more earlier a x ∙ more_or (is_begun_with earlier x) (is_begun_with (a ∷ []) x) begun),
)

kept_new : (types : List TypeForm) (variables : List VariableForm) (may : ℕ → Bool) (holds : Holds) (earlier actuals : List ActualForm)
    → NoneBroken holds (uses_in_actuals types variables may earlier actuals) → AreNew earlier actuals
kept_new types variables may holds earlier [] kept j x b at = absurd (cc at)
kept_new types variables may holds earlier (a ∷ rest) kept zero x b at =
    let two = kept_apart holds (uses_in_actual types variables may earlier a) (uses_in_actuals types variables may (earlier ++ a ∷ []) rest) kept in
    subst (λ (c : ActualForm). IsNew earlier c x) (same_some a b at) (one_new types variables may holds earlier a x two.0)
kept_new types variables may holds earlier (a ∷ rest) kept (suc j) x b at =
    let two = kept_apart holds (uses_in_actual types variables may earlier a) (uses_in_actuals types variables may (earlier ++ a ∷ []) rest) kept in
    less_new earlier a b x (kept_new types variables may holds (earlier ++ a ∷ []) rest two.1 j x b at)

-- The first one is given apart from the others.
first_gives : (earlier : List ActualForm) (a b : ActualForm) (x : ℕ) → IsNew (earlier ++ a ∷ []) b x → writes_from a ≡ Some x → begins_with b ≡ Some x → ⊥
first_gives earlier a b x new gives begins = new.0 begins (given_more earlier a x ∙ or_more (is_given earlier x) (is_given (a ∷ []) x) (one_given a x gives))

first_begins : (earlier : List ActualForm) (a b : ActualForm) (x : ℕ) → IsNew (earlier ++ a ∷ []) b x → begins_with a ≡ Some x → writes_from b ≡ Some x → ⊥
first_begins earlier a b x new begins gives =
    new.1 gives (begun_more earlier a x ∙ or_more (is_begun_with earlier x) (is_begun_with (a ∷ []) x) (one_begun a x begins))

given_apart : (types : List TypeForm) (variables : List VariableForm) (may : ℕ → Bool) (holds : Holds) (earlier actuals : List ActualForm)
    → NoneBroken holds (uses_in_actuals types variables may earlier actuals) → AreGivenApart actuals
given_apart types variables may holds earlier [] kept i j x b c at other gives begins = absurd (cc at)
given_apart types variables may holds earlier (a ∷ rest) kept zero zero x b c at other gives begins = refl
given_apart types variables may holds earlier (a ∷ rest) kept zero (suc j) x b c at other gives begins =
    let two = kept_apart holds (uses_in_actual types variables may earlier a) (uses_in_actuals types variables may (earlier ++ a ∷ []) rest) kept in
    let new = kept_new types variables may holds (earlier ++ a ∷ []) rest two.1 j x c other in
    absurd (first_gives earlier a c x new (ap writes_from (same_some a b at) ∙ gives) begins)
given_apart types variables may holds earlier (a ∷ rest) kept (suc i) zero x b c at other gives begins =
    let two = kept_apart holds (uses_in_actual types variables may earlier a) (uses_in_actuals types variables may (earlier ++ a ∷ []) rest) kept in
    let new = kept_new types variables may holds (earlier ++ a ∷ []) rest two.1 i x b at in
    absurd (first_begins earlier a b x new (ap begins_with (same_some a c other) ∙ begins) gives)
given_apart types variables may holds earlier (a ∷ rest) kept (suc i) (suc j) x b c at other gives begins =
    let two = kept_apart holds (uses_in_actual types variables may earlier a) (uses_in_actuals types variables may (earlier ++ a ∷ []) rest) kept in
    ap suc (given_apart types variables may holds (earlier ++ a ∷ []) rest two.1 i j x b c at other gives begins)

pub none_is_given_twice : NoneIsGivenTwice
none_is_given_twice types variables around cleared procedure actuals holds normal raising goes_on =
    let effect = slice_get around.effects.calls procedure in
    given_apart types variables (call_frees effect) holds [] actuals
    (called_as types variables effect (kept_at around.kept procedure) actuals holds normal raising goes_on).0

-- What is passed, in order.
one_safe : (types : List TypeForm) (variables : List VariableForm) (may : ℕ → Bool) (holds : Holds) (earlier : List ActualForm) (a : ActualForm)
    → NoneBroken holds (uses_in_actual types variables may earlier a) → IsPassedSafely types variables may a
one_safe types variables may holds earlier (in_value e) kept = tt
one_safe types variables may holds earlier in_null kept = tt
one_safe types variables may holds earlier (in_access path) kept = tt
one_safe types variables may holds earlier (in_record p) kept = λ t is followed.
    let given = is_given earlier p.object.root in
    let passes = record_passes types variables may p in
    let one = (followings.first_kept holds (passes_it (given || passes) p.object) [] kept).0 in
    passed_once (given || passes) (hold_at holds p.object.root) p.object.spot one (or_more given passes (some_record types variables may p t is followed))
one_safe types variables may holds earlier (in_out_path path) kept = tt
one_safe types variables may holds earlier (in_out_access path) kept = tt
one_safe types variables may holds earlier (in_out_component path) kept =
    let owning = names_value (path_access types variables path) in
    let begun = is_begun_with earlier path.root in
    let passes = component_passes types variables may path in
    let one = (followings.first_kept holds (opens_it owning (begun || passes) path) [] kept).0 in
    let once = opened_once owning (begun || passes) (hold_at holds path.root) path.spot one in (
      not_named (path_access types variables path) once.0,
      λ t is followed. once.1 (or_more begun passes (some_passes types may (variable_kind variables path.root) path.selectors t is followed)),
    )
one_safe types variables may holds earlier (in_out_record p) kept = λ t is followed.
    let begun = is_begun_with earlier p.object.root in
    let passes = record_passes types variables may p in
    let one = (followings.first_kept holds (passes_it (begun || passes) p.object) [] kept).0 in
    passed_once (begun || passes) (hold_at holds p.object.root) p.object.spot one (or_more begun passes (some_record types variables may p t is followed))

all_safe : (types : List TypeForm) (variables : List VariableForm) (may : ℕ → Bool) (holds : Holds) (earlier actuals : List ActualForm)
    → NoneBroken holds (uses_in_actuals types variables may earlier actuals) → ArePassedSafely types variables may actuals
all_safe types variables may holds earlier [] kept i b at = absurd (cc at)
all_safe types variables may holds earlier (a ∷ rest) kept zero b at =
    let two = kept_apart holds (uses_in_actual types variables may earlier a) (uses_in_actuals types variables may (earlier ++ a ∷ []) rest) kept in
    subst (IsPassedSafely types variables may) (same_some a b at) (one_safe types variables may holds earlier a two.0)
all_safe types variables may holds earlier (a ∷ rest) kept (suc i) b at =
    let two = kept_apart holds (uses_in_actual types variables may earlier a) (uses_in_actuals types variables may (earlier ++ a ∷ []) rest) kept in
    all_safe types variables may holds (earlier ++ a ∷ []) rest two.1 i b at

pub calls_spare_what_they_pass : CallsSpareWhatTheyPass
calls_spare_what_they_pass types variables around cleared procedure actuals holds normal raising goes_on =
    let effect = slice_get around.effects.calls procedure in
    all_safe types variables (call_frees effect) holds [] actuals
    (called_as types variables effect (kept_at around.kept procedure) actuals holds normal raising goes_on).0
