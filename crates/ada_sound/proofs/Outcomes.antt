-- What an outcome that breaks no rule says of its parts.

use Rattle.std.proofs.Common.{◌≡◌, ℕ, Bool, true, false, List, refl}
use Rattle.std.specs.Prelude.{if◌then◌else◌, Option, Some, None}
use Rattle.ada_text.specs.declared.spot.Spot.{Spot}
use Rattle.ada_program.specs.declared.program.Exception.{Exception}
use Rattle.ada_program.specs.Form.{ExpressionForm, RightForm, nothing, value_of, allocates, allocates_default, computes}
use Rattle.ada_program.specs.ProgramForm.{VariableForm}
use Rattle.ada_effects.specs.Effects.{expression_raises, Implicit}
use Rattle.ada_flow.specs.declared.rule.Rule.TheVariants.{LoopState, FormalNotOwned}
use Rattle.ada_flow.specs.Flow.{Holds, Outcome, faults, goes, Breach, join, join_option, also_raises, then_flow, raising_if, ends_with, unless_broken, using_paths, uses_in, broken_among, computed, either_of, are_as_good, unless_worse, ends_turn, left_with, without_freed, without_freed_option, loses, initializes, finalizes, Gone, left, left_option, leaves_block, handled, all_give_back, ends_body, return_flow}
use Rattle.ada_flow.specs.Tracking.{no_tracks}
use Rattle.ada_sound.proofs.Orderings.{AsGood, as_good, as_good_then, good_each, join_left, join_right, without_freed_good}
use Rattle.ada_sound.proofs.Invariant.{Known, Control, Rooms, GoesBy, Goes, To, Ways, Raised, MayReturn, NoneBroken, RunsOn, RunsAfter, RaisesAfter, Spares, behind_right, ways}

-- What holds with less known holds with more.
abbrev pub Down : (Holds → Type 0) → Type 0
Down more = (holds less : Holds) → AsGood holds less → more less → more holds

-- It goes on with more.
goes_by : (o : Option Holds) (more other : Holds → Type 0) → ((h : Holds) → more h → other h) → GoesBy o more → GoesBy o other
goes_by None more other f g = g
goes_by (Some h) more other f g = f h g

pub goes_map : (o : Outcome) (more raised other others : Holds → Type 0) → ((h : Holds) → more h → other h) → ((h : Holds) → raised h → others h) → Goes o more raised → Goes o other others
goes_map (faults spot rule) more raised other others f r g = g
goes_map (goes normal raising) more raised other others f r g = (goes_by normal more other f g.0, goes_by raising raised others r g.1)

-- The same, where it is known what the outcome is.
pub goes_with : (o : Outcome) (more raised other others : Holds → Type 0) → ((h : Holds) (raising : Option Holds) → o ≡ goes (Some h) raising → more h → other h) → ((normal : Option Holds) (h : Holds) → o ≡ goes normal (Some h) → raised h → others h) → Goes o more raised → Goes o other others
goes_with (faults spot rule) more raised other others f r g = g
goes_with (goes None None) more raised other others f r g = g
goes_with (goes (Some h) None) more raised other others f r g = (f h None refl g.0, tt)
goes_with (goes None (Some h)) more raised other others f r g = (tt, r None h refl g.1)
goes_with (goes (Some h) (Some i)) more raised other others f r g = (f h (Some i) refl g.0, r (Some h) i refl g.1)

-- Something that runs on with less known does so from where more is known.
pub to_here : (more : Holds → Type 0) (holds : Holds) → more holds → To more holds
to_here more holds m = (holds, as_good holds, m)

pub to_before : (more : Holds → Type 0) → Down (To more)
to_before more holds other good t = (t.0, as_good_then holds other t.0 good t.1, t.2)

pub raised_before : (among : Exception → Bool) (w : Ways) → Down (Raised among w)
raised_before among w holds other good r = λ e is. to_before (w.raised e) holds other good (r e is)

-- Fewer exceptions.
pub raised_less : (among less : Exception → Bool) (w : Ways) → ((e : Exception) → less e ≡ true → among e ≡ true) → (holds : Holds) → Raised among w holds → Raised less w holds
raised_less among less w more holds r = λ e is. r e (more e is)

-- Two ways.
joined_goes : (a b : Option Holds) (more : Holds → Type 0) → Down more → GoesBy (join_option a b) more → GoesBy a more × GoesBy b more
joined_goes None None more down g = (tt, tt)
joined_goes None (Some b) more down g = (tt, g)
joined_goes (Some a) None more down g = (g, tt)
joined_goes (Some a) (Some b) more down g = (down a (join a b) (join_left a b) g, down b (join a b) (join_right a b) g)

pub either_goes : (a b : Outcome) (more raised : Holds → Type 0) → Down more → Down raised → Goes (either_of a b) more raised → Goes a more raised × Goes b more raised
either_goes (faults spot rule) b more raised d e g = absurd g
either_goes (goes normal raising) (faults spot rule) more raised d e g = absurd g
either_goes (goes normal raising) (goes other_normal other_raising) more raised d e g =
    let n = joined_goes normal other_normal more d g.0 in
    let r = joined_goes raising other_raising raised e g.1 in
    ((n.0, r.0), (n.1, r.1))

-- One form after another.
also_goes : (before : Option Holds) (o : Outcome) (more raised : Holds → Type 0) → Down raised → Goes (also_raises before o) more raised → Goes o more raised × GoesBy before raised
also_goes before (faults spot rule) more raised d g = absurd g
also_goes before (goes normal raising) more raised d g = let r = joined_goes before raising raised d g.1 in ((g.0, r.1), r.0)

pub then_goes : (o : Outcome) (next : Holds → Outcome) (more raised : Holds → Type 0) → Down raised → Goes (then_flow o next) more raised → Goes o (λ h. Goes (next h) more raised) raised
then_goes (faults spot rule) next more raised d g = g
then_goes (goes None raising) next more raised d g = g
then_goes (goes (Some h) raising) next more raised d g = also_goes raising (next h) more raised d g

-- Paths that are used: flow goes on only where none breaks a rule.
pub using_goes : (uses : _) (holds : Holds) (after : Outcome) (more raised : Holds → Type 0) → Goes (using_paths no_tracks uses holds after) more raised → NoneBroken holds uses × Goes after more raised
using_goes uses holds after more raised g = go (broken_among no_tracks holds uses) refl g
  where
    go : (o : Option Breach) → broken_among no_tracks holds uses ≡ o → Goes (unless_broken o after) more raised → NoneBroken holds uses × Goes after more raised
    go None is m = (is, m)
    go (Some breach) is m = absurd m

-- Where a form may raise an exception, what it holds there is known.
raising_goes : (b : Bool) (holds : Holds) (raised : Holds → Type 0) → GoesBy (raising_if b holds) raised → b ≡ true → raised holds
raising_goes true holds raised g e = g
raising_goes false holds raised g e = absurd (cc e)

pub ends_goes : (b : Bool) (before after : Holds) (more raised : Holds → Type 0) → Goes (ends_with b before after) more raised → more after × (b ≡ true → raised before)
ends_goes b before after more raised g = (g.0, raising_goes b before raised g.1)

-- An expression changes nothing.
pub computed_goes : (e : ExpressionForm) (holds : Holds) (more raised : Holds → Type 0) → Goes (computed no_tracks e holds) more raised → NoneBroken holds (uses_in e) × more holds × (expression_raises e ≡ true → raised holds)
computed_goes e holds more raised g =
    let u = using_goes (uses_in e) holds (ends_with (expression_raises e) holds holds) more raised g in
    let n = ends_goes (expression_raises e) holds holds more raised u.1 in
    (u.0, n.0, n.1)

-- A loop.
pub worse_goes : (start holds : Holds) (spot : Spot) (o : Outcome) (more raised : Holds → Type 0) → Goes (unless_worse start holds spot o) more raised → (are_as_good holds start ≡ true) × Goes o more raised
worse_goes start holds spot o more raised g = go (are_as_good holds start) refl g
  where
    go : (b : Bool) → are_as_good holds start ≡ b → Goes (if b then o else faults spot LoopState) more raised → (are_as_good holds start ≡ true) × Goes o more raised
    go true is m = (is, m)
    go false is m = absurd m

pub turn_goes : (start : Holds) (spot : Spot) (o : Outcome) (more raised : Holds → Type 0) → Goes (ends_turn start spot o) more raised → Goes o (λ after. AsGood after start) raised
turn_goes start spot (faults other rule) more raised g = g
turn_goes start spot (goes None raising) more raised g = (tt, g.1)
turn_goes start spot (goes (Some h) raising) more raised g = let w = worse_goes start h spot (goes (Some h) raising) more raised g in (good_each h start w.0, w.1.1)

left_some : (leaves : Bool) (start : Holds) (more : Holds → Type 0) → GoesBy (if leaves then Some start else None) more → leaves ≡ true → more start
left_some true start more g e = g
left_some false start more g e = absurd (cc e)

any_goes : (normal : Option Holds) → GoesBy normal (λ h. Unit {0})
any_goes None = tt
any_goes (Some h) = tt

pub left_goes : (leaves : Bool) (start : Holds) (o : Outcome) (more raised : Holds → Type 0) → Goes (left_with leaves start o) more raised → Goes o (λ h. Unit {0}) raised × (leaves ≡ true → more start)
left_goes leaves start (faults spot rule) more raised g = absurd g
left_goes leaves start (goes normal raising) more raised g = ((any_goes normal, g.1), left_some leaves start more g.0)

-- A form in the midst of which operations may free objects: behind it, and where it raises an exception, their aliases are lost.
loses_by : (variables : List VariableForm) (may : ℕ → Bool) (o : Option Holds) (more : Holds → Type 0) → GoesBy (without_freed_option variables may o) more → GoesBy o (λ h. more (without_freed variables may h))
loses_by variables may None more g = g
loses_by variables may (Some h) more g = g

pub loses_goes : (variables : List VariableForm) (may : ℕ → Bool) (o : Outcome) (more raised : Holds → Type 0) → Goes (loses variables may o) more raised → Goes o (λ h. more (without_freed variables may h)) (λ h. raised (without_freed variables may h))
loses_goes variables may (faults spot rule) more raised g = g
loses_goes variables may (goes normal raising) more raised g = (loses_by variables may normal more g.0, loses_by variables may raising raised g.1)

-- What holds with them lost holds with them, too.
pub before_lost : (variables : List VariableForm) (may : ℕ → Bool) (more : Holds → Type 0) → Down more → (h : Holds) → more (without_freed variables may h) → more h
before_lost variables may more down h m = down h (without_freed variables may h) (without_freed_good variables may h) m

pub loses_none : (variables : List VariableForm) (may : ℕ → Bool) (o : Outcome) (more raised : Holds → Type 0) → Down more → Down raised → Goes (loses variables may o) more raised → Goes o more raised
loses_none variables may o more raised down downs g =
    goes_map o (λ h. more (without_freed variables may h)) (λ h. raised (without_freed variables may h)) more raised
    (before_lost variables may more down) (before_lost variables may raised downs) (loses_goes variables may o more raised g)

-- Where something is assigned, its initialization may; where an object ends, its finalization may.
pub initializes_none : (variables : List VariableForm) (implicit : Implicit) (right : RightForm) (o : Outcome) (more raised : Holds → Type 0) → Down more → Down raised → Goes (initializes variables implicit right o) more raised → Goes o more raised
initializes_none variables implicit nothing o more raised down downs g = g
initializes_none variables implicit (value_of path) o more raised down downs g = g
initializes_none variables implicit (allocates access items) o more raised down downs g = g
initializes_none variables implicit (allocates_default access) o more raised down downs g = loses_none variables (implicit.start_frees access) o more raised down downs g
initializes_none variables implicit (computes e) o more raised down downs g = g

pub finalizes_none : (variables : List VariableForm) (implicit : Implicit) (access : Option ℕ) (o : Outcome) (more raised : Holds → Type 0) → Down more → Down raised → Goes (finalizes variables implicit access o) more raised → Goes o more raised
finalizes_none variables implicit None o more raised down downs g = g
finalizes_none variables implicit (Some t) o more raised down downs g = loses_none variables (implicit.end_frees t) o more raised down downs g

-- Something runs on with what is known behind it.
pub loses_to : (variables : List VariableForm) (may : ℕ → Bool) (o : Outcome) (more raised : Holds → Type 0) → Down raised → Goes (loses variables may o) more raised → Goes o (To more) raised
loses_to variables may o more raised downs g =
    goes_map o (λ h. more (without_freed variables may h)) (λ h. raised (without_freed variables may h)) (To more) raised
    (λ h m. (without_freed variables may h, without_freed_good variables may h, m)) (before_lost variables may raised downs) (loses_goes variables may o more raised g)

-- So it does behind what is assigned: where a new object is initialized, no suspended activation has an alias of what that may free (4.8, 7.6).
pub initializes_after : (known : Known) (right : RightForm) (o : Outcome) (k : Control) (rooms : Rooms) (among : Exception → Bool) → ((access : ℕ) → right ≡ allocates_default access → Spares known (known.implicit.start_frees access))
    → Goes (initializes known.program.variables known.implicit right o) (RunsOn known k rooms) (Raised among (ways known k rooms)) → Goes o (RunsAfter known right k rooms) (RaisesAfter known right k rooms among)
initializes_after known nothing o k rooms among spares g = g
initializes_after known (value_of path) o k rooms among spares g = g
initializes_after known (allocates access items) o k rooms among spares g =
    goes_map o (RunsOn known k rooms) (Raised among (ways known k rooms)) (To (RunsOn known k rooms)) (Raised among (ways known k rooms)) (to_here (RunsOn known k rooms)) (λ h r. r) g
initializes_after known (allocates_default access) o k rooms among spares g =
    let variables = known.program.variables in
    let may = known.implicit.start_frees access in
    let raised = Raised among (ways known k rooms) in
    goes_map o (λ h. RunsOn known k rooms (without_freed variables may h)) (λ h. raised (without_freed variables may h)) (RunsAfter known (allocates_default access) k rooms) (RaisesAfter known (allocates_default access) k rooms among)
    (λ h m. (m, spares access refl)) (λ h r. r) (loses_goes variables may o (RunsOn known k rooms) raised g)
initializes_after known (computes e) o k rooms among spares g = g

-- What is known behind what is assigned was known before.
pub behind_good : (known : Known) (right : RightForm) (holds : Holds) → AsGood holds (behind_right known right holds)
behind_good known nothing holds = as_good holds
behind_good known (value_of path) holds = as_good holds
behind_good known (allocates access items) holds = as_good holds
behind_good known (allocates_default access) holds = without_freed_good known.program.variables (known.implicit.start_frees access) holds
behind_good known (computes e) holds = as_good holds

-- A block: it is left both ways.
block_some : (variables : List VariableForm) (gone : Gone) (o : Option Holds) (more : Holds → Type 0) → GoesBy (left_option variables gone o) more → GoesBy o (λ h. more (left variables gone h))
block_some variables gone None more g = g
block_some variables gone (Some h) more g = g

pub block_goes : (variables : List VariableForm) (gone : Gone) (o : Outcome) (more raised : Holds → Type 0) → Goes (leaves_block variables gone o) more raised → Goes o (λ h. more (left variables gone h)) (λ h. raised (left variables gone h))
block_goes variables gone (faults spot rule) more raised g = g
block_goes variables gone (goes normal raising) more raised g = (block_some variables gone normal more g.0, block_some variables gone raising raised g.1)

-- The end of a body: there formal parameters give back what they owe.
owed_goes : (owed : List ℕ) (spot : Spot) (holds : Holds) (raising : Option Holds) (more raised : Holds → Type 0) → Goes (ends_body owed spot (goes (Some holds) raising)) more raised → (more holds × (all_give_back owed holds ≡ true)) × GoesBy raising raised
owed_goes owed spot holds raising more raised g = go (all_give_back owed holds) refl g
  where
    go : (b : Bool) → all_give_back owed holds ≡ b → Goes (if b then goes (Some holds) raising else faults spot FormalNotOwned) more raised → (more holds × (all_give_back owed holds ≡ true)) × GoesBy raising raised
    go true is m = ((m.0, is), m.1)
    go false is m = absurd m

pub body_goes : (owed : List ℕ) (spot : Spot) (o : Outcome) (more raised : Holds → Type 0) → Goes (ends_body owed spot o) more raised → Goes o (λ h. all_give_back owed h ≡ true) raised
body_goes owed spot (faults other rule) more raised g = g
body_goes owed spot (goes None raising) more raised g = g
body_goes owed spot (goes (Some h) raising) more raised g = let e = owed_goes owed spot h raising more raised g in (e.0.1, e.1)

-- A return: there they do, too.
pub return_goes : (variables : List VariableForm) (owed : List ℕ) (within : Gone) (spot : Spot) (holds : Holds) (more raised : Holds → Type 0) → Goes (return_flow variables owed within spot holds) more raised → MayReturn variables owed within holds
return_goes variables owed within spot holds more raised g = go (all_give_back owed (left variables within holds)) refl g
  where
    go : (b : Bool) → all_give_back owed (left variables within holds) ≡ b → Goes (if b then goes None None else faults spot FormalNotOwned) more raised → MayReturn variables owed within holds
    go true is m = is
    go false is m = absurd m

-- Statements with handlers: what is raised comes to these, or passes them.
pub handled_goes : (passes : Bool) (handlers : Holds → Outcome) (o : Outcome) (more raised : Holds → Type 0) → Down more → Down raised → Goes (handled passes handlers o) more raised → Goes o more (λ h. (passes ≡ true → raised h) × Goes (handlers h) more raised)
handled_goes passes handlers (faults spot rule) more raised d e g = g
handled_goes passes handlers (goes normal None) more raised d e g = (g.0, tt)
handled_goes passes handlers (goes normal (Some h)) more raised d e g =
    let two = either_goes (goes normal (raising_if passes h)) (handlers h) more raised d e g in
    (two.0.0, (raising_goes passes h raised two.0.1, two.1))
