-- What is lost as operations of controlled types are called in the midst of a form: the code loses it once, before it notes where the form raises an exception.

use Rattle.std.proofs.Common.{◌≡◌, ℕ, zero, suc, Bool, true, false, ◌||◌, List, [], ◌∷◌, ◌++◌, Option, Some, None, refl, sym, ap, ◌∙◌}
use Rattle.std.specs.Prelude.{Ok, Err}
use Rattle.std.specs.List.{slice_set}
use Rattle.ada_text.specs.declared.spot.Spot.{Spot}
use Rattle.ada_effects.specs.Effects.{Implicit, assignment_frees, items_raise, path_raises, record_path_raises}
use Rattle.ada_effects.specs.Found.{has_number}
use Rattle.ada_program.specs.declared.program.TypeNo.{TypeNo}
use Rattle.ada_program.specs.declared.program.VariableKind.{VariableKind}
use Rattle.ada_program.specs.Form.{ItemForm, PathForm, RecordPathForm, RightForm, nothing, value_of, allocates, allocates_default, computes}
use Rattle.ada_program.specs.ProgramForm.{TypeForm, VariableForm}
use Rattle.ada_program.specs.WellFormed.{access_of, path_access, selected_kind, variable_kind}
use Rattle.ada_flow.specs.declared.rule.Hold.{Hold}
use Rattle.ada_flow.specs.declared.rule.Hold.TheVariants.{Null, Kept, Own, Alias, Lost}
use Rattle.ada_flow.specs.declared.rule.Region.TheVariants.{Whole}
use Rattle.ada_flow.specs.declared.rule.Rule.{Rule}
use Rattle.ada_flow.specs.Flow.{Breach, Holds, Outcome, Use, goes, faults, behind_end, broken_among, broken_in, ends_with, evaluation_raises, finalizes, freed_behind, gives_value, gives_component, gives_record, hold_at, hold_seen, initializes, is_freed, leftmost, loses, moved_by_right, passes_freed, passes_it, raising_if, record_passes, released_behind, right_hold, unless_broken, uses_in_assignment, uses_in_copy, uses_in_record, uses_in_right, uses_in_target, using_paths, way_reached, without_alias, without_aliases, without_freed, without_values}
use Rattle.ada_flow.specs.Implicit.{frees_either, left_by_ending, left_by_start}
use Rattle.ada_flow.specs.Told.{Noted, also_noted, ending}
use Rattle.ada_flow.proofs.Leftmost.{broken_among_more}
use Rattle.ada_flow.proofs.Noted.{nothing_noted}
use Rattle.ada_flow.specs.Tracking.{Tracks}

-- where a form ends at last, it loses the same before and behind
pub loses_at_ends : (vs : List VariableForm) (may : ℕ → Bool) (b : Bool) (before after : Holds) →
    loses vs may (ends_with b before after) ≡ ends_with b (without_freed vs may before) (without_freed vs may after)
loses_at_ends vs may false before after = refl
loses_at_ends vs may true before after = refl

-- an owner stays
own_stays : (b : Bool) → without_alias b (Own Whole) ≡ Own Whole
own_stays false = refl
own_stays true = refl

-- so it is the same whether a variable gets a new object before or behind
pub freed_behind_own : (vs : List VariableForm) (may : ℕ → Bool) (hs : Holds) (x : ℕ) →
    without_freed vs may (slice_set hs x (Own Whole)) ≡ slice_set (without_freed vs may hs) x (Own Whole)
freed_behind_own [] may hs x = refl
freed_behind_own (v ∷ vs) may [] x = refl
freed_behind_own (v ∷ vs) may (h ∷ hs) zero =
    ap (λ (g : Hold). g ∷ without_freed vs may hs) (own_stays (is_freed may (access_of (Some v.kind))))
freed_behind_own (v ∷ vs) may (h ∷ hs) (suc x) =
    ap (λ (rest : Holds). without_alias (is_freed may (access_of (Some v.kind))) h ∷ rest) (freed_behind_own vs may hs x)

-- a variable gets a value, a new object or another: where no rule is broken, that is all that changes, behind what is lost
gives_at_last : (types : List TypeForm) (tracks : Tracks) (vs : List VariableForm) (implicit : Implicit) (spot : Spot) (borrows cleared : Bool) (target : Option PathForm) (x : ℕ) (right : RightForm) (hs behind : Holds) →
    broken_among tracks hs (uses_in_right types spot borrows cleared target right) ≡ None → behind ≡ left_by_start vs implicit right hs →
    initializes vs implicit right (gives_value types tracks spot borrows cleared target x right hs)
    ≡ ends_with (evaluation_raises right) behind
    (slice_set (without_values (moved_by_right tracks borrows right) behind) x (right_hold tracks borrows right behind))
gives_at_last types tracks vs implicit spot borrows cleared target x nothing hs behind unbroken left =
    ap (λ (at : Holds). ends_with false at (slice_set at x Null)) (sym left)
gives_at_last types tracks vs implicit spot borrows cleared target x (value_of path) hs behind unbroken left =
    ap (λ (b : Option Breach). unless_broken b (ends_with (path_raises path) hs (slice_set (without_values (moved_by_right tracks borrows (value_of path)) hs) x (right_hold tracks borrows (value_of path) hs)))) unbroken
    ∙ ap (λ (at : Holds). ends_with (path_raises path) at (slice_set (without_values (moved_by_right tracks borrows (value_of path)) at) x (right_hold tracks borrows (value_of path) at))) (sym left)
gives_at_last types tracks vs implicit spot borrows cleared target x (allocates access items) hs behind unbroken left =
    ap (λ (b : Option Breach). unless_broken b (ends_with true hs (slice_set (without_values (moved_by_right tracks borrows (allocates access items)) hs) x (Own Whole)))) unbroken
    ∙ ap (λ (at : Holds). ends_with true at (slice_set (without_values (moved_by_right tracks borrows (allocates access items)) at) x (Own Whole))) (sym left)
gives_at_last types tracks vs implicit spot borrows cleared target x (allocates_default access) hs behind unbroken left =
    ap (λ (at : Holds). ends_with true (without_freed vs (implicit.start_frees access) hs) at) (freed_behind_own vs (implicit.start_frees access) hs x)
    ∙ ap (λ (at : Holds). ends_with true at (slice_set at x (Own Whole))) (sym left)
gives_at_last types tracks vs implicit spot borrows cleared target x (computes e) hs behind unbroken left =
    ap (λ (b : Option Breach). unless_broken b (ends_with (evaluation_raises (computes e)) hs (slice_set hs x Lost))) unbroken
    ∙ ap (λ (at : Holds). ends_with (evaluation_raises (computes e)) at (slice_set at x Lost)) (sym left)

-- and where one is broken, that is told
gives_badly : (types : List TypeForm) (tracks : Tracks) (vs : List VariableForm) (implicit : Implicit) (spot : Spot) (borrows cleared : Bool) (target : Option PathForm) (x : ℕ) (right : RightForm) (hs : Holds) (breach : Breach) →
    broken_among tracks hs (uses_in_right types spot borrows cleared target right) ≡ Some breach →
    initializes vs implicit right (gives_value types tracks spot borrows cleared target x right hs) ≡ faults breach.0 breach.1
gives_badly types tracks vs implicit spot borrows cleared target x nothing hs breach broken = cc
gives_badly types tracks vs implicit spot borrows cleared target x (value_of path) hs breach broken =
    ap (λ (b : Option Breach). unless_broken b (ends_with (path_raises path) hs (slice_set (without_values (moved_by_right tracks borrows (value_of path)) hs) x (right_hold tracks borrows (value_of path) hs)))) broken
gives_badly types tracks vs implicit spot borrows cleared target x (allocates access items) hs breach broken =
    ap (λ (b : Option Breach). unless_broken b (ends_with true hs (slice_set (without_values (moved_by_right tracks borrows (allocates access items)) hs) x (Own Whole)))) broken
gives_badly types tracks vs implicit spot borrows cleared target x (allocates_default access) hs breach broken = cc
gives_badly types tracks vs implicit spot borrows cleared target x (computes e) hs breach broken =
    ap (λ (b : Option Breach). unless_broken b (ends_with (evaluation_raises (computes e)) hs (slice_set hs x Lost))) broken

-- how these end
pub gives_ends : (n : Noted) (types : List TypeForm) (tracks : Tracks) (vs : List VariableForm) (implicit : Implicit) (spot : Spot) (borrows cleared : Bool) (target : Option PathForm) (x : ℕ) (right : RightForm) (hs behind : Holds) →
    broken_among tracks hs (uses_in_right types spot borrows cleared target right) ≡ None → behind ≡ left_by_start vs implicit right hs →
    ending n (initializes vs implicit right (gives_value types tracks spot borrows cleared target x right hs))
    ≡ Ok (Some (slice_set (without_values (moved_by_right tracks borrows right) behind) x (right_hold tracks borrows right behind)), also_noted n (raising_if (evaluation_raises right) behind))
gives_ends n types tracks vs implicit spot borrows cleared target x right hs behind unbroken left = ap (ending n) (gives_at_last types tracks vs implicit spot borrows cleared target x right hs behind unbroken left)

pub gives_breaks : (n : Noted) (types : List TypeForm) (tracks : Tracks) (vs : List VariableForm) (implicit : Implicit) (spot : Spot) (borrows cleared : Bool) (target : Option PathForm) (x : ℕ) (right : RightForm) (hs : Holds) (breach : Breach) →
    broken_among tracks hs (uses_in_right types spot borrows cleared target right) ≡ Some breach →
    ending n (initializes vs implicit right (gives_value types tracks spot borrows cleared target x right hs)) ≡ Err breach
gives_breaks n types tracks vs implicit spot borrows cleared target x right hs breach broken = ap (ending n) (gives_badly types tracks vs implicit spot borrows cleared target x right hs breach broken)

-- a component gets a value
component_at_last : (types : List TypeForm) (tracks : Tracks) (vs : List VariableForm) (implicit : Implicit) (cleared : Bool) (path : PathForm) (right : RightForm) (hs behind : Holds) →
    behind ≡ left_by_start vs implicit right hs →
    initializes vs implicit right (ends_with (path_raises path || evaluation_raises right) hs (without_values (moved_by_right tracks false right) hs))
    ≡ ends_with (path_raises path || evaluation_raises right) behind (without_values (moved_by_right tracks false right) behind)
component_at_last types tracks vs implicit cleared path nothing hs behind left = ap (λ (at : Holds). ends_with (path_raises path || false) at at) (sym left)
component_at_last types tracks vs implicit cleared path (value_of from) hs behind left =
    ap (λ (at : Holds). ends_with (path_raises path || path_raises from) at (without_values (moved_by_right tracks false (value_of from)) at)) (sym left)
component_at_last types tracks vs implicit cleared path (allocates access items) hs behind left =
    ap (λ (at : Holds). ends_with (path_raises path || true) at (without_values (moved_by_right tracks false (allocates access items)) at)) (sym left)
component_at_last types tracks vs implicit cleared path (allocates_default access) hs behind left =
    loses_at_ends vs (implicit.start_frees access) (path_raises path || true) hs hs ∙ ap (λ (at : Holds). ends_with (path_raises path || true) at at) (sym left)
component_at_last types tracks vs implicit cleared path (computes e) hs behind left =
    ap (λ (at : Holds). ends_with (path_raises path || evaluation_raises (computes e)) at at) (sym left)

pub component_ends : (n : Noted) (types : List TypeForm) (tracks : Tracks) (vs : List VariableForm) (implicit : Implicit) (cleared : Bool) (path : PathForm) (right : RightForm) (hs behind : Holds) →
    broken_among tracks hs (uses_in_target path ++ uses_in_right types path.spot false cleared (Some path) right) ≡ None → behind ≡ left_by_start vs implicit right hs →
    ending n (initializes vs implicit right (gives_component types tracks cleared path right hs))
    ≡ Ok (Some (without_values (moved_by_right tracks false right) behind), also_noted n (raising_if (path_raises path || evaluation_raises right) behind))
component_ends n types tracks vs implicit cleared path right hs behind unbroken left =
    ap (λ (b : Option Breach). ending n (initializes vs implicit right (unless_broken b (ends_with (path_raises path || evaluation_raises right) hs (without_values (moved_by_right tracks false right) hs))))) unbroken
    ∙ ap (ending n) (component_at_last types tracks vs implicit cleared path right hs behind left)

-- a fault stays one
initializes_fault : (vs : List VariableForm) (implicit : Implicit) (right : RightForm) (spot : Spot) (rule : Rule) →
    initializes vs implicit right (faults spot rule) ≡ faults spot rule
initializes_fault vs implicit nothing spot rule = refl
initializes_fault vs implicit (value_of path) spot rule = refl
initializes_fault vs implicit (allocates access items) spot rule = refl
initializes_fault vs implicit (allocates_default access) spot rule = refl
initializes_fault vs implicit (computes e) spot rule = refl

pub component_breaks : (n : Noted) (types : List TypeForm) (tracks : Tracks) (vs : List VariableForm) (implicit : Implicit) (cleared : Bool) (path : PathForm) (right : RightForm) (hs : Holds) (breach : Breach) →
    broken_among tracks hs (uses_in_target path ++ uses_in_right types path.spot false cleared (Some path) right) ≡ Some breach →
    ending n (initializes vs implicit right (gives_component types tracks cleared path right hs)) ≡ Err breach
component_breaks n types tracks vs implicit cleared path right hs breach broken =
    ap (λ (b : Option Breach). ending n (initializes vs implicit right (unless_broken b (ends_with (path_raises path || evaluation_raises right) hs (without_values (moved_by_right tracks false right) hs))))) broken
    ∙ ap (ending n) (initializes_fault vs implicit right breach.0 breach.1)

pub ruleset giving_steps = (gives_ends, gives_breaks, component_ends, component_breaks)

-- of two access types of which objects may be freed
freed_either : (f g : ℕ → Bool) (access : Option ℕ) → is_freed (λ t. f t || g t) access ≡ (is_freed f access || is_freed g access)
freed_either f g None = refl
freed_either f g (Some t) = refl

-- of four, two and two
two_and_two : (a b c d : Bool) → ((a || b) || (c || d)) ≡ ((a || c) || (b || d))
two_and_two false false c d = refl
two_and_two false true false d = refl
two_and_two false true true d = refl
two_and_two true b c d = refl

-- a path follows a value of one of them
passes_either : (types : List TypeForm) (f g : ℕ → Bool) (kind : Option VariableKind) (cs : List ℕ) →
    passes_freed types (λ t. f t || g t) kind cs ≡ (passes_freed types f kind cs || passes_freed types g kind cs)
passes_either types f g kind [] = refl
passes_either types f g kind (c ∷ cs) =
    ap (λ (b : Bool). b || passes_freed types (λ t. f t || g t) (selected_kind types kind c) cs) (freed_either f g (access_of kind))
    ∙ ap (λ (b : Bool). (is_freed f (access_of kind) || is_freed g (access_of kind)) || b) (passes_either types f g (selected_kind types kind c) cs)
    ∙ two_and_two (is_freed f (access_of kind)) (is_freed g (access_of kind)) (passes_freed types f (selected_kind types kind c) cs) (passes_freed types g (selected_kind types kind c) cs)

pub record_either : (types : List TypeForm) (vs : List VariableForm) (ended adjusted : List TypeNo) (p : RecordPathForm) →
    record_passes types vs (frees_either ended adjusted) p ≡ (record_passes types vs (has_number ended) p || record_passes types vs (has_number adjusted) p)
record_either types vs ended adjusted p =
    let f = has_number ended in
    let g = has_number adjusted in
    let kind = variable_kind vs p.object.root in
    let access = path_access types vs p.object in
    ap (λ (b : Bool). b || is_freed (λ t. f t || g t) access) (passes_either types f g kind p.object.selectors)
    ∙ ap (λ (b : Bool). (passes_freed types f kind p.object.selectors || passes_freed types g kind p.object.selectors) || b) (freed_either f g access)
    ∙ two_and_two (passes_freed types f kind p.object.selectors) (passes_freed types g kind p.object.selectors) (is_freed f access) (is_freed g access)

-- what an assignment to a record breaks, by what its target does, what it is given, and what it is copied from
pub assignment_breaks : (types : List TypeForm) (vs : List VariableForm) (tracks : Tracks) (may : ℕ → Bool) (target : RecordPathForm) (items : List ItemForm) (hs : Holds) (to given source : Option Breach) →
    to ≡ broken_in tracks hs (passes_it (record_passes types vs may target) target.object) → given ≡ broken_among tracks hs (uses_in_record types target.object.spot target.record_type items) →
    source ≡ broken_among tracks hs (uses_in_copy types vs may items) →
    leftmost to (leftmost given source) ≡ broken_among tracks hs (uses_in_assignment types vs may target items)
assignment_breaks types vs tracks may target items hs to given source to_is given_is source_is =
    let first = broken_in tracks hs (passes_it (record_passes types vs may target) target.object) in
    ap (λ (b : Option Breach). leftmost b (leftmost given source)) to_is
    ∙ ap (λ (b : Option Breach). leftmost first (leftmost b source)) given_is
    ∙ ap (λ (b : Option Breach). leftmost first (leftmost (broken_among tracks hs (uses_in_record types target.object.spot target.record_type items)) b)) source_is
    ∙ ap (leftmost first) (sym (broken_among_more tracks hs (uses_in_record types target.object.spot target.record_type items) (uses_in_copy types vs may items)))

-- an alias is lost of either
alias_either : (a b : Bool) (h : Hold) → without_alias b (without_alias a h) ≡ without_alias (a || b) h
alias_either false b h = refl
alias_either true false h = refl
alias_either true true Null = refl
alias_either true true (Kept r) = refl
alias_either true true (Own r) = refl
alias_either true true (Alias r) = refl
alias_either true true Lost = refl

freed_twice : (vs : List VariableForm) (f g : ℕ → Bool) (hs : Holds) → without_freed vs g (without_freed vs f hs) ≡ without_freed vs (λ t. f t || g t) hs
freed_twice [] f g hs = refl
freed_twice (v ∷ vs) f g [] = refl
freed_twice (v ∷ vs) f g (h ∷ hs) =
    ap (λ (i : Hold). i ∷ without_freed vs g (without_freed vs f hs)) (alias_either (is_freed f (access_of (Some v.kind))) (is_freed g (access_of (Some v.kind))) h
    ∙ ap (λ (b : Bool). without_alias b h) (sym (freed_either f g (access_of (Some v.kind)))))
    ∙ ap (λ (rest : Holds). without_alias (is_freed (λ t. f t || g t) (access_of (Some v.kind))) h ∷ rest) (freed_twice vs f g hs)

-- the operations of a record that gets another value, as the code holds what they may free
frees_both : (implicit : Implicit) (u : ℕ) (ended adjusted : List TypeNo) → has_number ended ≡ implicit.end_frees u → has_number adjusted ≡ implicit.adjust_frees u →
    frees_either ended adjusted ≡ (λ (t : ℕ). assignment_frees implicit t u)
frees_both implicit u ended adjusted ends adjusts =
    ap (λ (f : ℕ → Bool). λ (t : ℕ). f t || has_number adjusted t) ends ∙ ap (λ (g : ℕ → Bool). λ (t : ℕ). implicit.end_frees u t || g t) adjusts

-- what is behind both
left_by_both : (vs : List VariableForm) (implicit : Implicit) (u : ℕ) (ended adjusted : List TypeNo) (hs middle behind : Holds) →
    has_number ended ≡ implicit.end_frees u → has_number adjusted ≡ implicit.adjust_frees u →
    middle ≡ without_freed vs (has_number ended) hs → behind ≡ without_freed vs (has_number adjusted) middle →
    behind ≡ without_freed vs (λ (t : ℕ). assignment_frees implicit t u) hs
left_by_both vs implicit u ended adjusted hs middle behind ends adjusts first second =
    second ∙ ap (without_freed vs (has_number adjusted)) first ∙ freed_twice vs (has_number ended) (has_number adjusted) hs
    ∙ ap (λ (may : ℕ → Bool). without_freed vs may hs) (frees_both implicit u ended adjusted ends adjusts)

-- an assignment to a record ends behind what its operations lose
pub record_ends : (n : Noted) (types : List TypeForm) (vs : List VariableForm) (tracks : Tracks) (implicit : Implicit) (target : RecordPathForm) (items : List ItemForm) (ended adjusted : List TypeNo) (hs middle behind : Holds) →
    has_number ended ≡ implicit.end_frees target.record_type → has_number adjusted ≡ implicit.adjust_frees target.record_type →
    broken_among tracks hs (uses_in_assignment types vs (frees_either ended adjusted) target items) ≡ None →
    middle ≡ without_freed vs (has_number ended) hs → behind ≡ without_freed vs (has_number adjusted) middle →
    ending n (gives_record types vs tracks (λ (t : ℕ). assignment_frees implicit t target.record_type) target items hs)
    ≡ Ok (Some behind, also_noted n (raising_if (record_path_raises target || items_raise items) behind))
record_ends n types vs tracks implicit target items ended adjusted hs middle behind ends adjusts unbroken first second =
    let may = λ (t : ℕ). assignment_frees implicit t target.record_type in
    let b = record_path_raises target || items_raise items in
    let same : broken_among tracks hs (uses_in_assignment types vs may target items) ≡ None =
    ap (λ (f : ℕ → Bool). broken_among tracks hs (uses_in_assignment types vs f target items)) (sym (frees_both implicit target.record_type ended adjusted ends adjusts)) ∙ unbroken in
    ap (λ (o : Option Breach). ending n (loses vs may (unless_broken o (ends_with b hs hs)))) same
    ∙ ap (ending n) (loses_at_ends vs may b hs hs)
    ∙ ap (λ (at : Holds). ending n (ends_with b at at)) (sym (left_by_both vs implicit target.record_type ended adjusted hs middle behind ends adjusts first second))

pub record_breaks : (n : Noted) (types : List TypeForm) (vs : List VariableForm) (tracks : Tracks) (implicit : Implicit) (target : RecordPathForm) (items : List ItemForm) (ended adjusted : List TypeNo) (hs : Holds) (breach : Breach) →
    has_number ended ≡ implicit.end_frees target.record_type → has_number adjusted ≡ implicit.adjust_frees target.record_type →
    broken_among tracks hs (uses_in_assignment types vs (frees_either ended adjusted) target items) ≡ Some breach →
    ending n (gives_record types vs tracks (λ (t : ℕ). assignment_frees implicit t target.record_type) target items hs) ≡ Err breach
record_breaks n types vs tracks implicit target items ended adjusted hs breach ends adjusts broken =
    let may = λ (t : ℕ). assignment_frees implicit t target.record_type in
    let b = record_path_raises target || items_raise items in
    let same : broken_among tracks hs (uses_in_assignment types vs may target items) ≡ Some breach =
    ap (λ (f : ℕ → Bool). broken_among tracks hs (uses_in_assignment types vs f target items)) (sym (frees_both implicit target.record_type ended adjusted ends adjusts)) ∙ broken in
    ap (λ (o : Option Breach). ending n (loses vs may (unless_broken o (ends_with b hs hs)))) same

-- a record object is declared
pub creation_ends : (n : Noted) (vs : List VariableForm) (tracks : Tracks) (freed : List TypeNo) (may : ℕ → Bool) (b : Bool) (uses : List Use) (hs behind : Holds) (x : ℕ) →
    has_number freed ≡ may → broken_among tracks hs uses ≡ None → behind ≡ without_freed vs (has_number freed) hs →
    ending n (loses vs may (using_paths tracks uses hs (ends_with b hs (slice_set hs x (Own Whole)))))
    ≡ Ok (Some (slice_set behind x (Own Whole)), also_noted n (raising_if b behind))
creation_ends n vs tracks freed may b uses hs behind x frees unbroken left =
    ap (λ (o : Option Breach). ending n (loses vs may (unless_broken o (ends_with b hs (slice_set hs x (Own Whole)))))) unbroken
    ∙ ap (ending n) (loses_at_ends vs may b hs (slice_set hs x (Own Whole)))
    ∙ ap (λ (at : Holds). ending n (ends_with b (without_freed vs may hs) at)) (freed_behind_own vs may hs x)
    ∙ ap (λ (at : Holds). ending n (ends_with b at (slice_set at x (Own Whole)))) (sym (left ∙ ap (λ (f : ℕ → Bool). without_freed vs f hs) frees))

-- an object that is freed is finalized
pub component_freed : (n : Noted) (types : List TypeForm) (vs : List VariableForm) (tracks : Tracks) (implicit : Implicit) (path : PathForm) (hs behind : Holds) (access : Option ℕ) →
    freed_behind (way_reached types vs implicit path (hold_at hs path.root) access) (hold_seen tracks hs path) path.spot ≡ None →
    behind ≡ left_by_ending vs implicit access (behind_end vs access hs) →
    ending n (finalizes vs implicit access (released_behind types vs tracks implicit path hs access)) ≡ Ok (Some behind, also_noted n (raising_if (path_raises path) behind))
component_freed n types vs tracks implicit path hs behind None unbroken left =
    ap (λ (o : Option Breach). ending n (unless_broken o (ends_with (path_raises path) hs hs))) unbroken ∙ ap (λ (at : Holds). ending n (ends_with (path_raises path) at at)) (sym left)
component_freed n types vs tracks implicit path hs behind (Some t) unbroken left =
    ap (λ (o : Option Breach). ending n (loses vs (implicit.end_frees t) (unless_broken o (ends_with (path_raises path) (without_aliases vs t hs) (without_aliases vs t hs))))) unbroken
    ∙ ap (ending n) (loses_at_ends vs (implicit.end_frees t) (path_raises path) (without_aliases vs t hs) (without_aliases vs t hs))
    ∙ ap (λ (at : Holds). ending n (ends_with (path_raises path) at at)) (sym left)

pub component_freed_badly : (n : Noted) (types : List TypeForm) (vs : List VariableForm) (tracks : Tracks) (implicit : Implicit) (path : PathForm) (hs : Holds) (access : Option ℕ) (breach : Breach) →
    freed_behind (way_reached types vs implicit path (hold_at hs path.root) access) (hold_seen tracks hs path) path.spot ≡ Some breach →
    ending n (finalizes vs implicit access (released_behind types vs tracks implicit path hs access)) ≡ Err breach
component_freed_badly n types vs tracks implicit path hs None breach broken = ap (λ (o : Option Breach). ending n (unless_broken o (ends_with (path_raises path) hs hs))) broken
component_freed_badly n types vs tracks implicit path hs (Some t) breach broken =
    ap (λ (o : Option Breach). ending n (loses vs (implicit.end_frees t) (unless_broken o (ends_with (path_raises path) (without_aliases vs t hs) (without_aliases vs t hs))))) broken

-- so it is behind Free of a variable, which raises nothing
finalized_ends : (n : Noted) (vs : List VariableForm) (implicit : Implicit) (hs : Holds) (access : Option ℕ) →
    ending n (finalizes vs implicit access (goes (Some hs) None)) ≡ Ok (Some (left_by_ending vs implicit access hs), also_noted n None)
finalized_ends n vs implicit hs None = refl
finalized_ends n vs implicit hs (Some t) = refl

pub variable_freed : (n : Noted) (vs : List VariableForm) (implicit : Implicit) (o : Outcome) (hs behind : Holds) (access : Option ℕ) →
    o ≡ goes (Some hs) None → behind ≡ left_by_ending vs implicit access hs → ending n (finalizes vs implicit access o) ≡ Ok (Some behind, n)
variable_freed n vs implicit o hs behind access goes_so left =
    ap (λ (p : Outcome). ending n (finalizes vs implicit access p)) goes_so ∙ finalized_ends n vs implicit hs access
    ∙ ap (λ (at : Holds). Ok (Some at, also_noted n None)) (sym left) ∙ ap (λ (m : Noted). Ok (Some behind, m)) (nothing_noted n)

pub variable_freed_badly : (n : Noted) (vs : List VariableForm) (implicit : Implicit) (o : Outcome) (access : Option ℕ) (spot : Spot) (rule : Rule) →
    o ≡ faults spot rule → ending n (finalizes vs implicit access o) ≡ Err (spot, rule)
variable_freed_badly n vs implicit o None spot rule faults_so = ap (ending n) faults_so
variable_freed_badly n vs implicit o (Some t) spot rule faults_so = ap (λ (p : Outcome). ending n (loses vs (implicit.end_frees t) p)) faults_so

pub ruleset freeing_steps = (component_freed, component_freed_badly, variable_freed, variable_freed_badly)
