-- What the rules say of operations of controlled types, which are called implicitly: which aliases are lost, and which paths are spared.

use Rattle.std.proofs.Common.{◌≡◌, ◌≢◌, ℕ, zero, suc, ◌<◌, Bool, true, false, ◌&&◌, ◌||◌, List, [], ◌∷◌, ◌++◌, length, refl, sym, ap, ◌∙◌, ◌⊎◌, inl, inr, arith}
use Rattle.std.specs.Prelude.{Option, Some, None, not, if◌then◌else◌}
use Rattle.std.specs.List.{slice_get, slice_set}
use Rattle.std.proofs.lemmas.Bool.{or_left, or_cases, and_parts, eqb-true, false_from_ne_true}
use Rattle.ada_text.specs.declared.spot.Spot.{Spot}
use Rattle.ada_program.specs.declared.program.FormalMode.{FormalMode}
use Rattle.ada_program.specs.declared.program.FormalMode.TheVariants.{In, InOut}
use Rattle.ada_program.specs.declared.program.TypeNo.{TypeNo}
use Rattle.ada_program.specs.declared.program.VariableKind.{VariableKind}
use Rattle.ada_program.specs.declared.program.VariableKind.TheVariants as variable_kinds
use Rattle.ada_program.specs.Form.{PathForm, RecordPathForm, ItemForm, item_of_record, allocates_default, DeclarationForm, creates_pool, collects, declares, declares_record}
use Rattle.ada_program.specs.ProgramForm.{TypeForm, VariableForm}
use Rattle.ada_program.specs.WellFormed.{access_of, designated_type, is_record, is_this, object_in, variable_kind, selected_kind, path_access}
use Rattle.ada_effects.specs.Effects.{Implicit, path_raises, record_path_raises, items_raise, initial_raises, initial_starts, initial_frees, assignment_frees, endings_free}
use Rattle.ada_flow.specs.declared.rule.Hold.{Hold}
use Rattle.ada_flow.specs.declared.rule.Hold.TheVariants as hold
use Rattle.ada_flow.specs.declared.rule.Region.{Region}
use Rattle.ada_flow.specs.declared.rule.Region.TheVariants.{Whole}
use Rattle.ada_flow.specs.declared.rule.Rule.TheVariants.{LoopState}
use Rattle.ada_flow.specs.Flow.{Holds, Outcome, faults, goes, hold_at, is_freed, is_among, if_own, without_alias, without_freed, without_types, without_variables, Gone, gone_with, collected, left, left_option, leaves_block, leaves_finalized, loses, declared_at, gives, gives_seen, frees_seen, waits_for, uses_in_record, uses_in_copy, uses_in_assignment, passes_it, passes_freed, component_passes, record_passes, passes_own, passes_reached, formal_record, formal_reached, way_reached, freed_behind, using_paths, ends_with, unless_broken, is_as_good, are_as_good, unless_worse, exit_of, reaches_part, formal_hold, uses_in_initial, passes_type, object_record, stays_inside, finalizes, released_behind, behind_end, without_freed_option, raising_if, Breach}
use Rattle.ada_flow.specs.Tracking.{no_tracks}
use Rattle.ada_flow.specs.Aliases.{is_alias}
use Rattle.ada_flow.specs.Parts.{has_part}
use Rattle.ada_program.specs.Parts.{has_part_within}
use Rattle.ada_flow.proofs.Parts.{depths_are_enough, designate_is, designate_from}
use Rattle.ada_sound.specs.Callees.{IsFollowed, FollowsTo}
use Rattle.ada_sound.specs.ImplicitCalls.{HaveNoAlias, LeavesNoAlias, FinalizedFreeLeavesNoAlias, MayFreeAtEnd, EndedBlockLeavesNoAlias, ExitsLeaveNoAlias, DeclaredRecordLeavesNoAlias, DeclaredObjectLeavesNoAlias, StartsSpareTheTarget, AssignmentsSpareTheTarget, AssignmentsSpareTheSource, FreesSpareTheWay, LiesInFormal, FreesSpareTheFormal, SafeFreesAreLetThrough, FormalsAreAnothers, DeclaredRecordsAreTheirOwn}
use Rattle.ada_sound.proofs.Invariant.{NoneBroken}
use Rattle.ada_sound.proofs.Followings.{first_kept, kept_apart}
use Rattle.ada_sound.proofs.Handings.{passed_safe}
use Rattle.ada_sound.proofs.Moves.{kept_uses, loses_through, loses_ended, loses_raised}
use Rattle.ada_sound.proofs.Orderings.{AsGood, good_each}
use Rattle.ada_sound.proofs.Values.{read_other, same_or_not, lost_here}

-- Where aliases of a type are lost, no variable of the type holds one.
alias_gone : (h : Hold) (r : Region) → without_alias true h ≢ hold.Alias r
alias_gone hold.Null r e = cc e
alias_gone (hold.Kept q) r e = cc e
alias_gone (hold.Own q) r e = cc e
alias_gone (hold.Alias q) r e = cc e
alias_gone hold.Lost r e = cc e

freed_none : (variables : List VariableForm) (may : ℕ → Bool) (t : ℕ) (holds : Holds) → may t ≡ true → HaveNoAlias variables t (without_freed variables may holds)
freed_none [] may t holds is x of_type r e = cc e
freed_none (v ∷ vs) may t [] is x of_type r e = cc e
freed_none (v ∷ vs) may t (h ∷ hs) is zero of_type r e = alias_gone h r (rw (of_type, is) at e)
freed_none (v ∷ vs) may t (h ∷ hs) is (suc x) of_type r e = freed_none vs may t hs is x of_type r e

loses_none : (variables : List VariableForm) (may : ℕ → Bool) (t : ℕ) (o : Outcome) → may t ≡ true → LeavesNoAlias variables t (loses variables may o)
loses_none variables may t o is = (
  λ after raising e. let less = loses_ended variables may o after raising e in rw less.3 (freed_none variables may t less.0 is),
  λ raised normal e. let less = loses_raised variables may o raised normal e in rw less.3 (freed_none variables may t less.0 is),
)

pub finalized_free_leaves_no_alias : FinalizedFreeLeavesNoAlias
finalized_free_leaves_no_alias types variables around cleared access u t path holds own is =
    let implicit = around.effects.implicit in
    rw own (loses_none variables (implicit.end_frees u) t (frees_seen types variables no_tracks false implicit path.selectors path holds) is)

-- What is left behind blocks holds what it did, where it is not lost.
one_same : (holds : Holds) (y x : ℕ) (g : Hold) → g ≢ hold.Lost → hold_at (slice_set holds y hold.Lost) x ≡ g → hold_at holds x ≡ g
one_same holds y x g there is = go (same_or_not x y)
  where
    go : (x ≡ y) ⊎ (x ≢ y) → hold_at holds x ≡ g
    go (inl same) = absurd (there (sym is ∙ ap (λ z. hold_at (slice_set holds y hold.Lost) z) same ∙ lost_here holds y))
    go (inr ne) = rw (read_other holds y x hold.Lost hold.Lost ne) at is

variables_same : (xs : List ℕ) (holds : Holds) (x : ℕ) (g : Hold) → g ≢ hold.Lost → hold_at (without_variables xs holds) x ≡ g → hold_at holds x ≡ g
variables_same [] holds x g there is = is
variables_same (y ∷ ys) holds x g there is = one_same holds y x g there (variables_same ys (slice_set holds y hold.Lost) x g there is)

own_same : (b : Bool) (h g : Hold) → g ≢ hold.Lost → if_own b h ≡ g → h ≡ g
own_same true h g there is = is
own_same false h g there is = absurd (there (sym is))

types_same : (variables : List VariableForm) (types : List ℕ) (holds : Holds) (x : ℕ) (g : Hold) → g ≢ hold.Lost → hold_at (without_types variables types holds) x ≡ g → hold_at holds x ≡ g
types_same [] types holds x g there is = absurd (there (sym is))
types_same (v ∷ vs) types [] x g there is = absurd (there (sym is))
types_same (v ∷ vs) types (h ∷ hs) zero g there is = own_same (not (is_among types (access_of (Some v.kind)))) h g there is
types_same (v ∷ vs) types (h ∷ hs) (suc x) g there is = types_same vs types hs x g there is

left_same : (variables : List VariableForm) (gone : Gone) (holds : Holds) (x : ℕ) (g : Hold) → g ≢ hold.Lost → hold_at (left variables gone holds) x ≡ g → hold_at holds x ≡ g
left_same variables gone holds x g there is =
    types_same variables gone.types holds x g there (variables_same gone.variables (without_types variables gone.types holds) x g there is)

way_none : (variables : List VariableForm) (gone : Gone) (t : ℕ) (o : Option Holds) (after : Holds) → ((h : Holds) → o ≡ Some h → HaveNoAlias variables t h) → left_option variables gone o ≡ Some after → HaveNoAlias variables t after
way_none variables gone t None after none e x of_type r is = absurd (cc e)
way_none variables gone t (Some h) after none e x of_type r is =
    let same : left variables gone h ≡ after = cc e in
    none h refl x of_type r (left_same variables gone h x (hold.Alias r) (λ lost. cc lost) (rw same is))

block_none : (variables : List VariableForm) (gone : Gone) (t : ℕ) (o : Outcome) → LeavesNoAlias variables t o → LeavesNoAlias variables t (leaves_block variables gone o)
block_none variables gone t (faults spot rule) none = (λ after raising e. absurd (cc e), λ raised normal e. absurd (cc e))
block_none variables gone t (goes normal raising) none = (
  λ after other e. way_none variables gone t normal after (λ h is. none.0 h raising (ap (λ (w : Option Holds). goes w raising) is)) (cc e),
  λ raised other e. way_none variables gone t raising raised (λ h is. none.1 h normal (ap (λ (w : Option Holds). goes normal w) is)) (cc e),
)

-- What a declaration among others may free where it ends, their ends may.
or_more : (b c : Bool) → c ≡ true → (b || c) ≡ true
or_more true c is = refl
or_more false c is = is

more_or : (b c : Bool) → b ≡ true → (b || c) ≡ true
more_or true c is = refl
more_or false c is = absurd (cc is)

first_ends : (implicit : Implicit) (t : ℕ) (d : DeclarationForm) (ds : List DeclarationForm) → MayFreeAtEnd implicit d t → endings_free implicit (collected (d ∷ ds)) t ≡ true
first_ends implicit t (creates_pool pool) ds may = absurd may
first_ends implicit t (collects access) ds may = more_or (implicit.end_frees access t) (endings_free implicit (collected ds) t) may
first_ends implicit t (declares x right) ds may = absurd may
first_ends implicit t (declares_record x object initial) ds may = more_or (implicit.end_frees object t) (endings_free implicit (collected ds) t) may

later_ends : (implicit : Implicit) (t : ℕ) (d : DeclarationForm) (ds : List DeclarationForm) → endings_free implicit (collected ds) t ≡ true → endings_free implicit (collected (d ∷ ds)) t ≡ true
later_ends implicit t (creates_pool pool) ds may = may
later_ends implicit t (collects access) ds may = or_more (implicit.end_frees access t) (endings_free implicit (collected ds) t) may
later_ends implicit t (declares x right) ds may = may
later_ends implicit t (declares_record x object initial) ds may = or_more (implicit.end_frees object t) (endings_free implicit (collected ds) t) may

ends_free : (implicit : Implicit) (t : ℕ) (ds : List DeclarationForm) (i : ℕ) (d : DeclarationForm) → slice_get ds i ≡ Some d → MayFreeAtEnd implicit d t → endings_free implicit (collected ds) t ≡ true
ends_free implicit t [] i d found may = absurd (cc found)
ends_free implicit t (e ∷ ds) zero d found may = let same : e ≡ d = cc found in first_ends implicit t e ds (rw same may)
ends_free implicit t (e ∷ ds) (suc i) d found may = later_ends implicit t e ds (ends_free implicit t ds i d found may)

finalized_none : (variables : List VariableForm) (implicit : Implicit) (gone : Gone) (t : ℕ) (o : Outcome) → endings_free implicit gone.types t ≡ true → LeavesNoAlias variables t (leaves_finalized variables implicit gone o)
finalized_none variables implicit gone t o is =
    let may = endings_free implicit gone.types in
    block_none variables gone t (loses variables may o) (loses_none variables may t o is)

pub ended_block_leaves_no_alias : EndedBlockLeavesNoAlias
ended_block_leaves_no_alias types variables around cleared i t d ds fs hs holds found is =
    finalized_none variables around.effects.implicit (gone_with ds) t _ (ends_free around.effects.implicit t ds i d found is)

-- An exit leaves with what is as good as its loop's start: an alias, or null, which was null before.
alias_or_null : (h : Hold) (r : Region) → is_as_good h (hold.Alias r) ≡ true → (h ≡ hold.Null) ⊎ ((q : Region) × (h ≡ hold.Alias q))
alias_or_null hold.Null r good = inl refl
alias_or_null (hold.Kept q) r good = absurd (cc good)
alias_or_null (hold.Own q) r good = absurd (cc good)
alias_or_null (hold.Alias q) r good = inr (q, refl)
alias_or_null hold.Lost r good = absurd (cc good)

null_alias : (b : Bool) (h : Hold) → without_alias b h ≡ hold.Null → h ≡ hold.Null
null_alias false h is = is
null_alias true hold.Null is = refl
null_alias true (hold.Kept r) is = absurd (cc is)
null_alias true (hold.Own r) is = absurd (cc is)
null_alias true (hold.Alias r) is = absurd (cc is)
null_alias true hold.Lost is = absurd (cc is)

null_before : (variables : List VariableForm) (may : ℕ → Bool) (holds : Holds) (x : ℕ) → hold_at (without_freed variables may holds) x ≡ hold.Null → hold_at holds x ≡ hold.Null
null_before [] may holds x is = absurd (cc is)
null_before (v ∷ vs) may [] x is = absurd (cc is)
null_before (v ∷ vs) may (h ∷ hs) zero is = null_alias (is_freed may (access_of (Some v.kind))) h is
null_before (v ∷ vs) may (h ∷ hs) (suc x) is = null_before vs may hs x is

unworse : (start holds : Holds) (spot : Spot) (o : Outcome) (normal raising : Option Holds) → unless_worse start holds spot o ≡ goes normal raising → AsGood holds start
unworse start holds spot o normal raising e = go (are_as_good holds start) refl e
  where
    go : (b : Bool) → are_as_good holds start ≡ b → (if b then o else faults spot LoopState) ≡ goes normal raising → AsGood holds start
    go true is e' = good_each holds start is
    go false is e' = absurd (cc e')

pub exits_leave_no_alias : ExitsLeaveNoAlias
exits_leave_no_alias types variables around cleared t condition spot start holds normal raising begun may e x of_type r is =
    let frees = endings_free around.effects.implicit around.inside.types in
    let less = without_freed variables frees holds in
    let good = unworse start (left variables around.inside less) spot (exit_of no_tracks condition holds) normal raising (rw begun at e) x in
    let same : (g : Hold) → g ≢ hold.Lost → hold_at (left variables around.inside less) x ≡ g → hold_at less x ≡ g = left_same variables around.inside less x in
    elim (alias_or_null (hold_at (left variables around.inside less) x) r (rw is at good)) [
      | inl null ↦ null_before variables frees holds x (same hold.Null (λ lost. cc lost) null)
      | inr some ↦ absurd (freed_none variables frees t holds may x of_type some.0 (same (hold.Alias some.0) (λ lost. cc lost) some.1))
    ]

pub declared_record_leaves_no_alias : DeclaredRecordLeavesNoAlias
declared_record_leaves_no_alias types variables implicit x object t initial holds is =
    loses_none variables (λ u. initial_frees implicit u object initial) t _ is

pub declared_object_leaves_no_alias : DeclaredObjectLeavesNoAlias
declared_object_leaves_no_alias types variables implicit x access t holds is =
    loses_none variables (implicit.start_frees access) t (gives types variables no_tracks (declared_at variables x) false x (allocates_default access) holds) is

-- A path that follows a value of a type of which an object may be freed passes one.
freed_is : (may : ℕ → Bool) (access : Option ℕ) (t : ℕ) → may t ≡ true → access ≡ Some t → is_freed may access ≡ true
freed_is may access t is same = rw same is

passes : (types : List TypeForm) (may : ℕ → Bool) (kind : Option VariableKind) (cs : List ℕ) (t : ℕ) → may t ≡ true → IsFollowed types kind cs t → passes_freed types may kind cs ≡ true
passes types may kind [] t is followed = absurd followed
passes types may kind (c ∷ cs) t is (inl same) =
    more_or (is_freed may (access_of kind)) (passes_freed types may (selected_kind types kind c) cs) (freed_is may (access_of kind) t is same)
passes types may kind (c ∷ cs) t is (inr later) =
    or_more (is_freed may (access_of kind)) (passes_freed types may (selected_kind types kind c) cs) (passes types may (selected_kind types kind c) cs t is later)

passes_to : (types : List TypeForm) (variables : List VariableForm) (may : ℕ → Bool) (p : RecordPathForm) (t : ℕ) → may t ≡ true → FollowsTo types variables p t → record_passes types variables may p ≡ true
passes_to types variables may p t is (inl followed) =
    more_or (component_passes types variables may p.object) (is_freed may (path_access types variables p.object))
    (passes types may (variable_kind variables p.object.root) p.object.selectors t is followed)
passes_to types variables may p t is (inr same) =
    or_more (component_passes types variables may p.object) (is_freed may (path_access types variables p.object))
    (freed_is may (path_access types variables p.object) t is same)

-- The rules refuse it, where the path is needed.
spared : (holds : Holds) (unsafe : Bool) (path : PathForm) → NoneBroken holds (passes_it unsafe path ∷ []) → unsafe ≡ true → ⊥
spared holds unsafe path kept is =
    let safe = (passed_safe unsafe (hold_at holds path.root) path.spot (first_kept holds (passes_it unsafe path) [] kept).0).0 in
    cc (is, safe)

waits : (types : List TypeForm) (variables : List VariableForm) (may : ℕ → Bool) (cs : List ℕ) (path : PathForm) (holds : Holds) (t : ℕ) → NoneBroken holds (waits_for types variables may cs path) → may t ≡ true → IsFollowed types (variable_kind variables path.root) cs t → IsFollowed types (variable_kind variables path.root) path.selectors t → ⊥
waits types variables may [] path holds t kept is here followed = here
waits types variables may (c ∷ cs) path holds t kept is here followed =
    spared holds (component_passes types variables may path) path kept (passes types may (variable_kind variables path.root) path.selectors t is followed)

pub starts_spare_the_target : StartsSpareTheTarget
starts_spare_the_target types variables around cleared access t target holds normal raising e is followed =
    let may = around.effects.implicit.start_frees access in
    let kept = (kept_uses (waits_for types variables may target.selectors target) holds (loses variables may (gives_seen types variables no_tracks false cleared target.selectors target (allocates_default access) holds)) normal raising e).0 in
    waits types variables may target.selectors target holds t kept is followed followed

-- What an assignment of a record uses.
assigned : (types : List TypeForm) (variables : List VariableForm) (may : ℕ → Bool) (target : RecordPathForm) (items : List ItemForm) (holds : Holds) (normal raising : Option Holds) → loses variables may (using_paths no_tracks (uses_in_assignment types variables may target items) holds (ends_with (record_path_raises target || items_raise items) holds holds)) ≡ goes normal raising → (record_passes types variables may target ≡ true → ⊥) × NoneBroken holds (uses_in_copy types variables may items)
assigned types variables may target items holds normal raising e =
    let used = uses_in_assignment types variables may target items in
    let after = ends_with (record_path_raises target || items_raise items) holds holds in
    let through = loses_through variables may (using_paths no_tracks used holds after) normal raising e in
    let of_record = uses_in_record types target.object.spot target.record_type items in
    let of_copy = uses_in_copy types variables may items in
    let unsafe = record_passes types variables may target in
    let two = kept_apart holds (passes_it unsafe target.object ∷ []) (of_record ++ of_copy) (kept_uses used holds after through.0 through.1 through.2).0 in
    (spared holds unsafe target.object two.0, (kept_apart holds of_record of_copy two.1).1)

pub assignments_spare_the_target : AssignmentsSpareTheTarget
assignments_spare_the_target types variables around cleared t target items holds normal raising e is followed =
    let may : ℕ → Bool = λ u. assignment_frees around.effects.implicit u target.record_type in
    (assigned types variables may target items holds normal raising e).0 (passes_to types variables may target t is followed)

pub assignments_spare_the_source : AssignmentsSpareTheSource
assignments_spare_the_source types variables around cleared t target source holds normal raising e is followed =
    let may : ℕ → Bool = λ u. assignment_frees around.effects.implicit u target.record_type in
    spared holds (record_passes types variables may source) source.object (assigned types variables may target (item_of_record source ∷ []) holds normal raising e).1
    (passes_to types variables may source t is followed)

-- A component is freed only where its path passes nothing that the finalization reaches.
freed_safe : (unsafe : Bool) (h : Hold) (spot : Spot) (o : Outcome) (normal raising : Option Holds) → unless_broken (freed_behind unsafe h spot) o ≡ goes normal raising → unsafe ≡ true → ⊥
freed_safe false h spot o normal raising e is = cc is
freed_safe true hold.Null spot o normal raising e is = cc e
freed_safe true (hold.Kept r) spot o normal raising e is = cc e
freed_safe true (hold.Own r) spot o normal raising e is = cc e
freed_safe true (hold.Alias r) spot o normal raising e is = cc e
freed_safe true hold.Lost spot o normal raising e is = cc e

frees : (types : List TypeForm) (variables : List VariableForm) (implicit : Implicit) (cs : List ℕ) (path : PathForm) (holds : Holds) (u t : ℕ) (normal raising : Option Holds) → path_access types variables path ≡ Some u → frees_seen types variables no_tracks false implicit cs path holds ≡ goes normal raising → implicit.end_reaches u t ≡ true → IsFollowed types (variable_kind variables path.root) cs t → IsFollowed types (variable_kind variables path.root) path.selectors t → ⊥
frees types variables implicit [] path holds u t normal raising own e is here followed = here
frees types variables implicit (c ∷ cs) path holds u t normal raising own e is here followed =
    let own_way = passes_own types variables path (Some u) in
    let reached = passes_reached types variables implicit path (Some u) in
    let formal = formal_reached types variables implicit path (hold_at holds path.root) (Some u) in
    freed_safe (way_reached types variables implicit path (hold_at holds path.root) (Some u)) (hold_at holds path.root) path.spot _ normal raising (rw own at e)
    (or_left (own_way || reached) formal
    (or_more own_way reached (passes types (implicit.end_reaches u) (variable_kind variables path.root) path.selectors t is followed)))

pub frees_spare_the_way : FreesSpareTheWay
frees_spare_the_way types variables around cleared access u t path holds normal raising e own is followed =
    let implicit = around.effects.implicit in
    let through = loses_through variables (implicit.end_frees u) (frees_seen types variables no_tracks false implicit path.selectors path holds) normal raising (rw own at e) in
    frees types variables implicit path.selectors path holds u t through.0 through.1 own through.2 is followed followed

-- A component of a record parameter's own is freed only where the finalization reaches no object in which the parameter may lie.

frees_formal : (types : List TypeForm) (variables : List VariableForm) (implicit : Implicit) (cs : List ℕ) (path : PathForm) (holds : Holds) (u t r whole : ℕ) (normal raising : Option Holds) → cs ≡ path.selectors → path_access types variables path ≡ Some u → frees_seen types variables no_tracks false implicit cs path holds ≡ goes normal raising → LiesInFormal types variables path holds r → implicit.end_reaches u t ≡ true → designated_type types t ≡ Some whole → has_part types r whole ≡ true → ⊥
frees_formal types variables implicit [] path holds u t r whole normal raising same own e lies is at has =
    let (object, kind, of_type, held, (c, stays)) = lies in
    cc (same, stays)
frees_formal types variables implicit (d ∷ ds) path holds u t r whole normal raising same own e lies is at has =
    let (object, kind, of_type, (region, held), (c, stays)) = lies in
    let own_way = passes_own types variables path (Some u) in
    let reached = passes_reached types variables implicit path (Some u) in
    let here : formal_record types variables path (hold_at holds path.root) ≡ Some r = rw (held, stays, kind) of_type in
    let formal : formal_reached types variables implicit path (hold_at holds path.root) (Some u) ≡ true =
    ap (reaches_part types implicit u) here ∙ designate_from types (implicit.end_reaches u) r t whole is at has in
    freed_safe (way_reached types variables implicit path (hold_at holds path.root) (Some u)) (hold_at holds path.root) path.spot _ normal raising (rw own at e)
    (or_more (own_way || reached) (formal_reached types variables implicit path (hold_at holds path.root) (Some u)) formal)

pub frees_spare_the_formal : FreesSpareTheFormal
frees_spare_the_formal types variables around cleared access u t r whole path holds normal raising e own lies is_record is at has =
    let implicit = around.effects.implicit in
    let through = loses_through variables (implicit.end_frees u) (frees_seen types variables no_tracks false implicit path.selectors path holds) normal raising (rw own at e) in
    frees_formal types variables implicit path.selectors path holds u t r whole through.0 through.1 refl own through.2 lies is at
    ((depths_are_enough types r whole is_record).1 has)

-- The record parameters of a body are another's where it begins.

record_formal : (m : FormalMode) (object : TypeNo) → formal_hold m (variable_kinds.Record object) ≡ hold.Alias Whole
record_formal In object = refl
record_formal InOut object = refl

pub formals_are_anothers : FormalsAreAnothers
formals_are_anothers modes [] x object kind = absurd (cc kind)
formals_are_anothers [] (v ∷ vs) zero object kind = ((λ lt. absurd (omega (arith, lt))), (λ le. refl))
formals_are_anothers [] (v ∷ vs) (suc x) object kind =
    let others = formals_are_anothers [] vs x object kind in
    ((λ lt. absurd (omega (arith, lt))), (λ le. others.1 (omega arith)))
formals_are_anothers (m ∷ ms) (v ∷ vs) zero object kind =
    let same : v.kind ≡ variable_kinds.Record object = cc kind in
    ((λ lt. ap (formal_hold m) same ∙ record_formal m object), (λ le. absurd (omega (arith, le))))
formals_are_anothers (m ∷ ms) (v ∷ vs) (suc x) object kind =
    let others = formals_are_anothers ms vs x object kind in
    ((λ lt. others.0 (omega (arith, lt))), (λ le. others.1 (omega (arith, le))))

-- A record object is its own where it is declared.

own_kept : (b : Bool) → without_alias b (hold.Own Whole) ≡ hold.Own Whole
own_kept false = refl
own_kept true = refl

own_there : (variables : List VariableForm) (may : ℕ → Bool) (holds : Holds) (x : ℕ) → x < length holds → x < length variables → hold_at (without_freed variables may (slice_set holds x (hold.Own Whole))) x ≡ hold.Own Whole
own_there [] may holds x lt inside = absurd (omega (arith, inside))
own_there (v ∷ vs) may [] x lt inside = absurd (omega (arith, lt))
own_there (v ∷ vs) may (h ∷ hs) zero lt inside = own_kept (is_freed may (access_of (Some v.kind)))
own_there (v ∷ vs) may (h ∷ hs) (suc x) lt inside = own_there vs may hs x (omega (arith, lt)) (omega (arith, inside))

pub declared_records_are_their_own : DeclaredRecordsAreTheirOwn
declared_records_are_their_own types variables implicit x object initial holds after raising lt inside e =
    let may : ℕ → Bool = λ t. initial_frees implicit t object initial in
    let raises = initial_raises initial || initial_starts implicit (λ e. true) object initial in
    let declared = slice_set holds x (hold.Own Whole) in
    let uses = uses_in_initial types (declared_at variables x) object initial in
    let less = loses_ended variables may (using_paths no_tracks uses holds (ends_with raises holds declared)) after raising e in
    let kept = kept_uses uses holds (ends_with raises holds declared) (Some less.0) less.1 less.2 in
    let same : declared ≡ less.0 = cc kept.1 in
    rw (less.3, ← same) (own_there variables may holds x lt inside)

-- A component is freed where its way is safe.

freed_one : (may : ℕ → Bool) (access : Option ℕ) → is_freed may access ≡ true → (t : ℕ) × (may t ≡ true) × (access ≡ Some t)
freed_one may None is = absurd (cc is)
freed_one may (Some t) is = (t, is, refl)

passes_one : (types : List TypeForm) (may : ℕ → Bool) (kind : Option VariableKind) (cs : List ℕ) → passes_freed types may kind cs ≡ true → (t : ℕ) × (may t ≡ true) × IsFollowed types kind cs t
passes_one types may kind [] is = absurd (cc is)
passes_one types may kind (c ∷ cs) is = elim (or_cases (is_freed may (access_of kind)) (passes_freed types may (selected_kind types kind c) cs) is) [
  | inl here ↦ let (t, known, same) = freed_one may (access_of kind) here in (t, known, inl same)
  | inr later ↦ let (t, known, followed) = passes_one types may (selected_kind types kind c) cs later in (t, known, inr followed)
]

this_one : (t : ℕ) (access : Option ℕ) → is_this t access ≡ true → access ≡ Some t
this_one t None is = absurd (cc is)
this_one t (Some u) is = ap (λ (n : ℕ). Some n) (eqb-true u t is)

passes_this : (types : List TypeForm) (kind : Option VariableKind) (cs : List ℕ) (t : ℕ) → passes_type types kind cs t ≡ true → IsFollowed types kind cs t
passes_this types kind [] t is = absurd (cc is)
passes_this types kind (c ∷ cs) t is = elim (or_cases (is_this t (access_of kind)) (passes_type types (selected_kind types kind c) cs t) is) [
  | inl here ↦ inl (this_one t (access_of kind) here)
  | inr later ↦ inr (passes_this types (selected_kind types kind c) cs t later)
]

alias_is : (h : Hold) → is_alias h ≡ true → (region : Region) × (h ≡ hold.Alias region)
alias_is hold.Null is = absurd (cc is)
alias_is (hold.Kept r) is = absurd (cc is)
alias_is (hold.Own r) is = absurd (cc is)
alias_is (hold.Alias r) is = (r, refl)
alias_is hold.Lost is = absurd (cc is)

one_inside : (cs : List ℕ) (c : ℕ) (ds : List ℕ) → cs ≡ c ∷ ds → stays_inside cs ≡ true → cs ≡ c ∷ []
one_inside [] c ds same is = absurd (cc same)
one_inside (b ∷ []) c ds same is = let first : b ≡ c = cc same in ap (λ (n : ℕ). n ∷ []) first
one_inside (b ∷ d ∷ bs) c ds same is = absurd (cc is)

object_is : (types : List TypeForm) (kind : Option VariableKind) (r : ℕ) → object_record types kind ≡ Some r → (object : TypeNo) × (kind ≡ Some (variable_kinds.Record object)) × (object_in (slice_get types object.0) ≡ Some r)
object_is types None r is = absurd (cc is)
object_is types (Some variable_kinds.Integer) r is = absurd (cc is)
object_is types (Some variable_kinds.Boolean) r is = absurd (cc is)
object_is types (Some (variable_kinds.Access access)) r is = absurd (cc is)
object_is types (Some (variable_kinds.Record object)) r is = (object, refl, is)

formal_is : (types : List TypeForm) (variables : List VariableForm) (path : PathForm) (h : Hold) (r : ℕ) → formal_record types variables path h ≡ Some r → (is_alias h ≡ true) × (stays_inside path.selectors ≡ true) × (object_record types (variable_kind variables path.root) ≡ Some r)
formal_is types variables path h r is = go (is_alias h && stays_inside path.selectors) refl is
  where
    go : (b : Bool) → (is_alias h && stays_inside path.selectors) ≡ b → (if b then object_record types (variable_kind variables path.root) else None) ≡ Some r → (is_alias h ≡ true) × (stays_inside path.selectors ≡ true) × (object_record types (variable_kind variables path.root) ≡ Some r)
    go true both e = let parts = and_parts (is_alias h) (stays_inside path.selectors) both in (parts.0, parts.1, e)
    go false both e = absurd (cc e)

lies_in : (types : List TypeForm) (variables : List VariableForm) (path : PathForm) (holds : Holds) (c : ℕ) (cs : List ℕ) (r : ℕ) → path.selectors ≡ c ∷ cs → formal_record types variables path (hold_at holds path.root) ≡ Some r → LiesInFormal types variables path holds r
lies_in types variables path holds c cs r is formal =
    let (alias, inside, object) = formal_is types variables path (hold_at holds path.root) r formal in
    let (number, kind, of_type) = object_is types (variable_kind variables path.root) r object in
    (number, kind, of_type, alias_is (hold_at holds path.root) alias, (c, one_inside path.selectors c cs is inside))

reaches_one : (types : List TypeForm) (implicit : Implicit) (u : ℕ) (o : Option ℕ) → reaches_part types implicit u o ≡ true → (r t whole : ℕ) × (o ≡ Some r) × (implicit.end_reaches u t ≡ true) × (designated_type types t ≡ Some whole) × (has_part types r whole ≡ true)
reaches_one types implicit u None is = absurd (cc is)
reaches_one types implicit u (Some r) is =
    let (t, whole, known, at, has) = designate_is types (implicit.end_reaches u) r is in
    (r, t, whole, refl, known, at, has)

safe_none : (b : Bool) (h : Hold) (spot : Spot) → b ≡ false → h ≢ hold.Lost → freed_behind b h spot ≡ None
safe_none true h spot safe there = absurd (cc safe)
safe_none false hold.Null spot safe there = refl
safe_none false (hold.Kept r) spot safe there = refl
safe_none false (hold.Own r) spot safe there = refl
safe_none false (hold.Alias r) spot safe there = refl
safe_none false hold.Lost spot safe there = absurd (there refl)

either_no : (a b : Bool) → (a ≡ true → ⊥) → (b ≡ true → ⊥) → (a || b) ≡ true → ⊥
either_no true b no_a no_b is = no_a refl
either_no false b no_a no_b is = no_b is

pub safe_frees_are_let_through : SafeFreesAreLetThrough
safe_frees_are_let_through types variables around cleared access u c cs path holds is own there own_free reached_free formal_free = (
  Some (without_freed variables may after),
  without_freed_option variables may (raising_if (path_raises path) after),
  ap (λ (ds : List ℕ). finalizes variables implicit (path_access types variables path) (frees_seen types variables no_tracks false implicit ds path holds)) is
      ∙ ap (λ (o : Option ℕ). finalizes variables implicit o (released_behind types variables no_tracks implicit path holds o)) own
      ∙ ap (λ (b : Option Breach). loses variables may (unless_broken b (ends_with (path_raises path) after after))) unbroken,
)
  where
    implicit : Implicit
    implicit = around.effects.implicit

    may : ℕ → Bool
    may = implicit.end_frees u

    after : Holds
    after = behind_end variables (Some u) holds

    held : Hold
    held = hold_at holds path.root

    no_own : passes_own types variables path (Some u) ≡ true → ⊥
    no_own h = own_free (passes_this types (variable_kind variables path.root) path.selectors u h)

    no_reached : passes_reached types variables implicit path (Some u) ≡ true → ⊥
    no_reached h =
        let (t, known, followed) = passes_one types (implicit.end_reaches u) (variable_kind variables path.root) path.selectors h in
        reached_free t known followed

    no_formal : formal_reached types variables implicit path held (Some u) ≡ true → ⊥
    no_formal h =
        let (r, t, whole, formal, known, at, has) = reaches_one types implicit u (formal_record types variables path held) h in
        let of_record = (and_parts (is_record types r) (has_part_within types (length types) r whole) has).0 in
        formal_free r t whole (lies_in types variables path holds c cs r is formal) of_record known at ((depths_are_enough types r whole of_record).0 has)

    unbroken : freed_behind (way_reached types variables implicit path held (Some u)) held path.spot ≡ None
    unbroken =
        safe_none (way_reached types variables implicit path held (Some u)) held path.spot
        (false_from_ne_true (way_reached types variables implicit path held (Some u))
        (either_no (passes_own types variables path (Some u) || passes_reached types variables implicit path (Some u)) (formal_reached types variables implicit path held (Some u))
        (either_no (passes_own types variables path (Some u)) (passes_reached types variables implicit path (Some u)) no_own no_reached) no_formal))
        there
