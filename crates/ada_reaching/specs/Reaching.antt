-- Bodies run that shun some access types, while some objects are there, the ghosts: objects of these types, and unnamed ones, declared record objects that no
-- value of the bodies names. What is left of the bodies, of the finalizations of what they free, and of the initializations of what they allocate, shuns the
-- types, and refers to no ghost. So does what is left of the record objects that they declare, which their own masters own.

use Rattle.std.specs.Prelude.{◌≡◌, ◌⊎◌, ◌≤◌, ◌<◌, ℕ, Bool, true, false, not, ◌&&◌, ◌||◌, List, [], ◌∷◌, ◌++◌, Option, Some}
use Rattle.std.specs.List.{list_all, slice_get}
use Rattle.ada_program.specs.declared.program.VariableKind.TheVariants as variable
use Rattle.ada_program.specs.ProgramForm.{TypeForm, VariableForm, BodyForm, ProgramForm, seen_in}
use Rattle.ada_program.specs.WellFormed.{is_access, selected_kind, selectors_kind, value_access}
use Rattle.ada_meaning.specs.declared.state.Id.{Id}
use Rattle.ada_meaning.specs.declared.state.Mode.{Mode}
use Rattle.ada_meaning.specs.declared.state.Mode.TheVariants.{Running, Raising, Exiting, Returning}
use Rattle.ada_meaning.specs.declared.state.Value.{Value}
use Rattle.ada_meaning.specs.declared.state.Value.TheVariants.{Null, Names, Scalar, Part}
use Rattle.ada_parts.specs.declared.tasks.Direction.{Direction}
use Rattle.ada_parts.specs.declared.tasks.Direction.TheVariants.{PartsFirst, WholeFirst}
use Rattle.ada_parts.specs.Part as parts
use Rattle.ada_parts.specs.Task.{Task}
use Rattle.ada_meaning.specs.declared.event.Birth.{Birth}
use Rattle.ada_meaning.specs.declared.event.Birth.TheVariants.{Creation, Copy, Adjustment}
use Rattle.ada_meaning.specs.declared.event.Cause.TheVariants.{Assigning}
use Rattle.ada_meaning.specs.Frame.{Frame, Treatment, begins, ends, is_return}
use Rattle.ada_meaning.specs.Frame as frame
use Rattle.ada_meaning.specs.State.{Activation, Owned, declared, collection, record_object, storage_pool, Item, Master, height}
use Rattle.ada_meaning.specs.Step.{first_or, operands_of, older, places_of, procedure_of}
use Rattle.ada_meaning.specs.Named.{Object, State, object_at}
use Rattle.ada_untouched.specs.Untouched.{IsInSight}
use Rattle.ada_reaching.specs.Apart.{Apart, AreBegunIn, AreUndoneIn, IsBegunIn, IsLeftIn, IsLeftOf}
use Rattle.ada_reaching.specs.Forms.{may_fill, may_own, may_replace, may_follow, may_end, may_start, selectors_shun, record_path_shuns, path_shuns, expression_shuns, links_shun, condition_shuns, item_shuns, right_shuns, declarations_shun, statements_shun, branches_shun, handlers_shun, body_shuns}

-- An object is there, and is of an access type that is shunned (3.10).
pub record IsOfShunned (types : List TypeForm) (shuns : ℕ → Bool) (found : Option Object) : Type 0 where
  pub object : Object
  pub there : found ≡ Some object
  pub shunned : shuns object.cell.access ≡ true
  pub accessed : is_access types object.cell.access ≡ true

-- An object is there, and is of no access type: it is a record object that is declared (3.3.1).
pub record IsDeclared (types : List TypeForm) (found : Option Object) : Type 0 where
  pub object : Object
  pub there : found ≡ Some object
  pub declared : is_access types object.cell.access ≡ false

-- A ghost is of a type that is shunned, or declared, if it is unnamed.
abbrev pub IsGhost : List TypeForm → (shuns : ℕ → Bool) → (unnamed : Bool) → Option Object → Type 0
IsGhost types shuns false found = IsOfShunned types shuns found
IsGhost types shuns true found = IsDeclared types found

-- No object is unnamed: each ghost is of a type that is shunned.
abbrev pub none_unnamed : Id → Bool
none_unnamed o = false

-- Where a value refers to a record or to a component of an object (6.2, 6.4.1), that is no ghost. It may name one of a type that is shunned, but no
-- unnamed one.
abbrev pub IsElsewhere : (ghosts unnamed : Id → Bool) → Value → Type 0
IsElsewhere ghosts unnamed Null = Unit {0}
IsElsewhere ghosts unnamed (Names o) = (unnamed o ≡ false)
IsElsewhere ghosts unnamed (Scalar v) = Unit {0}
IsElsewhere ghosts unnamed (Part o place) = (ghosts o ≡ false)

-- So it is with each of these.
abbrev pub AreElsewhere : (ghosts unnamed : Id → Bool) → List Value → Type 0
AreElsewhere ghosts unnamed [] = Unit {0}
AreElsewhere ghosts unnamed (v ∷ vs) = IsElsewhere ghosts unnamed v × AreElsewhere ghosts unnamed vs

-- A frame looks for the object that the newest operand names: to follow selectors (4.1.3), to assign or read to a component (5.2), to assign to a record or
-- copy one (5.2), to free what a component holds (13.11.2), or to refer to a record or a component (6.2, 6.4.1). A record that is assigned to is finalized before
-- the one is copied which the newest operand names (7.6).
abbrev pub is_seeking : Frame Value → Bool
is_seeking (frame.Follows cs) = true
is_seeking (frame.RefersIn place t) = true
is_seeking (frame.OpensIn c) = true
is_seeking (frame.Targets c right) = true
is_seeking (frame.TargetsRecord c t items) = true
is_seeking (frame.Copies c t) = true
is_seeking (frame.Receives c) = true
is_seeking (frame.FreesIn access c) = true
is_seeking (frame.Treats v (ends (Assigning number)) tasks) = true
is_seeking f = false

-- A master is left first, or what is finalized in it ends before (7.6.1).
abbrev pub is_leaving : List (Frame Value) → Bool
is_leaving [] = false
is_leaving (frame.Leaves mode ∷ k) = true
is_leaving (frame.Treats v treatment tasks ∷ k) = is_leaving k
is_leaving (frame.Ends v ∷ k) = is_leaving k
is_leaving (frame.GivesBack v cause pool ∷ k) = is_leaving k
is_leaving (f ∷ k) = false

-- A record is copied next, or the one is finalized to which it is assigned (5.2).
abbrev pub comes_to_copy : List (Frame Value) → Bool
comes_to_copy [] = false
comes_to_copy (frame.Copies c t ∷ k) = true
comes_to_copy (frame.Treats v (ends (Assigning number)) tasks ∷ k) = true
comes_to_copy (f ∷ k) = false

-- What is left to do begins with no frame that looks for an object, nor with the end of a Finalize behind which a record is copied.
abbrev pub seeks_nothing : List (Frame Value) → Bool
seeks_nothing [] = true
seeks_nothing (frame.Confines ∷ k) = not (comes_to_copy k)
seeks_nothing (f ∷ k) = not (is_seeking f)

-- Nor is a master left.
abbrev pub begins_anew : List (Frame Value) → Bool
begins_anew k = seeks_nothing k && not (is_leaving k)

-- A record is copied next.
abbrev pub is_copying : List (Frame Value) → Bool
is_copying [] = false
is_copying (frame.Copies c t ∷ k) = true
is_copying (f ∷ k) = false

-- A frame that looks for an object waits behind one alone that follows selectors, or, where it copies a record, behind what finalizes that to which it is
-- assigned, and the end of a Finalize that this calls; and a master is left behind the end of what has been finalized in it.
abbrev pub IsInFront : Frame Value → (behind : List (Frame Value)) → Type 0
IsInFront (frame.Follows cs) k = is_leaving k ≡ false
IsInFront (frame.Treats v (ends (Assigning number)) tasks) k = is_copying k ≡ true
IsInFront (frame.Treats v (ends cause) tasks) k = seeks_nothing k ≡ true
IsInFront (frame.Ends v) k = seeks_nothing k ≡ true
IsInFront (frame.GivesBack v cause pool) k = seeks_nothing k ≡ true
IsInFront frame.Confines k = (seeks_nothing k || comes_to_copy k) ≡ true
IsInFront f k = begins_anew k ≡ true

-- A jump comes to no master that is being left: it leaves one itself (11.4, 5.7, 6.5).
abbrev pub MayJump : Mode → List (Frame Value) → Type 0
MayJump Running k = Unit {0}
MayJump (Raising e) k = is_leaving k ≡ false
MayJump Exiting k = is_leaving k ≡ false
MayJump Returning k = is_leaving k ≡ false

-- What is left of the initialization of an object is that of one that the bodies may allocate (7.6, 4.8), of which these parts have begun.
pub record StartsApart (apart : Apart) (by : Birth) (done : List parts.Part) (tasks : List Task) : Type 0 where
  pub access : ℕ
  pub may : apart.starts access ≡ true
  pub created : by ≡ Creation
  pub left : IsLeftOf apart.definitions PartsFirst access tasks
  pub begun : AreBegunIn apart.definitions access done

-- What is left of the finalization of an object is that of one that the bodies may free (7.6.1, 13.11.2), or that of what has begun of one that they may
-- allocate.
abbrev pub EndsApart : Apart → List Task → Type 0
EndsApart apart tasks =
    (access : ℕ) × (((apart.ends access ≡ true) × IsLeftOf apart.definitions WholeFirst access tasks)
    ⊎ ((apart.starts access ≡ true) × AreUndoneIn apart.definitions access tasks))

-- A record of a type may be finalized to which another one is assigned, or be adjusted, by the order in which its parts come (5.2, 7.6).
abbrev pub may_treat : Apart → Direction → (record_type : ℕ) → Bool
may_treat apart PartsFirst t = apart.copies t
may_treat apart WholeFirst t = apart.assigns t

-- What is left of the finalization or the adjustment of a record is that of one of which this may be.
pub record AssignsApart (apart : Apart) (direction : Direction) (tasks : List Task) : Type 0 where
  pub record_type : ℕ
  pub may : may_treat apart direction record_type ≡ true
  pub left : IsLeftIn apart.definitions direction record_type tasks

-- A part of a record is adjusted, which gets its value from another one (7.6).
abbrev pub IsAdjusting : Birth → Type 0
IsAdjusting Creation = ⊥
IsAdjusting Copy = Unit {0}
IsAdjusting (Adjustment number) = Unit {0}

-- So it is with what is left of the treatment of an object.
abbrev pub TreatsApart : Apart → Treatment → List Task → Type 0
TreatsApart apart (begins by done) tasks = StartsApart apart by done tasks ⊎ (IsAdjusting by × AssignsApart apart PartsFirst tasks)
TreatsApart apart (ends (Assigning number)) tasks = AssignsApart apart WholeFirst tasks
TreatsApart apart (ends cause) tasks = EndsApart apart tasks

-- The Initialize runs of a part of such an object, behind which this is left.
pub record StartsPart (apart : Apart) (by : Birth) (done : List parts.Part) (of part : ℕ) (tasks : List Task) : Type 0 where
  pub starts : StartsApart apart by done tasks
  pub begins : IsBegunIn apart.definitions starts.access of part

-- The operation runs that begins a part of such an object, or the Adjust of a part of such a record.
abbrev pub AwaitsApart : Apart → Birth → (done : List parts.Part) → (of part : ℕ) → (tasks : List Task) → Type 0
AwaitsApart apart by done of part tasks = StartsPart apart by done of part tasks ⊎ (IsAdjusting by × AssignsApart apart PartsFirst tasks)

-- What a frame holds of a body with these variables shuns the types, and names no ghost where it stores, clears, begins, finalizes, ends or gives back. What is
-- assigned to has no controlled parts, unless it may be assigned to so, and neither has what is created, unless such objects may be.
module _ (types : List TypeForm) (shuns : ℕ → Bool) (apart : Apart) (bodies : List BodyForm) (ghosts : Id → Bool) (variables : List VariableForm) where
  abbrev pub FrameShuns : Frame Value → Type 0
  FrameShuns (frame.Elaborates ds fs hs) =
      (declarations_shun types shuns apart variables ds && statements_shun types shuns apart variables fs && handlers_shun types shuns apart variables hs) ≡ true
  FrameShuns (frame.Does fs) = statements_shun types shuns apart variables fs ≡ true
  FrameShuns (frame.Decides fs branches) = (statements_shun types shuns apart variables fs && branches_shun types shuns apart variables branches) ≡ true
  FrameShuns (frame.Repeats condition fs) = (condition_shuns types shuns apart variables condition && statements_shun types shuns apart variables fs) ≡ true
  FrameShuns (frame.Turns condition fs) = (expression_shuns types shuns apart variables condition && statements_shun types shuns apart variables fs) ≡ true
  FrameShuns (frame.Ranges x fs) = statements_shun types shuns apart variables fs ≡ true
  FrameShuns (frame.Counts x value last fs) = statements_shun types shuns apart variables fs ≡ true
  FrameShuns (frame.Handles hs) = handlers_shun types shuns apart variables hs ≡ true
  FrameShuns (frame.Calls procedure b actuals) = (slice_get bodies procedure ≡ Some b) × (body_shuns types shuns apart b ≡ true)
  FrameShuns (frame.Returns actuals references) = ⊥
  FrameShuns (frame.Evaluates right) = right_shuns types shuns apart variables right ≡ true
  FrameShuns (frame.Computes e) = expression_shuns types shuns apart variables e ≡ true
  FrameShuns (frame.Refers q) = record_path_shuns types shuns apart variables q ≡ true
  FrameShuns (frame.Opens path) = path_shuns types shuns apart variables path ≡ true
  FrameShuns (frame.Continues links) = links_shun types shuns apart variables links ≡ true
  FrameShuns (frame.Fills items) = list_all (item_shuns types shuns apart variables) items ≡ true
  FrameShuns (frame.Copies c t) = Unit {0}
  FrameShuns (frame.Creates access count) = may_start types apart access ≡ true
  FrameShuns (frame.Targets c right) = right_shuns types shuns apart variables right ≡ true
  FrameShuns (frame.StoresIn v c) = IsInSight ghosts v
  FrameShuns (frame.TargetsRecord c t items) = list_all (item_shuns types shuns apart variables) items ≡ true
  FrameShuns (frame.StoresRecord v c count) = IsInSight ghosts v
  FrameShuns (frame.Assigns t) = may_replace apart t ≡ true
  FrameShuns (frame.DeclaresRecord x t) = may_fill types apart t ≡ true
  FrameShuns (frame.Treats v treatment tasks) = IsInSight ghosts v × TreatsApart apart treatment tasks
  FrameShuns (frame.Awaits v by done of part tasks) = IsInSight ghosts v × AwaitsApart apart by done of part tasks
  FrameShuns (frame.Ends v) = IsInSight ghosts v
  FrameShuns (frame.GivesBack v cause pool) = IsInSight ghosts v
  FrameShuns (frame.ClearsIn v c) = IsInSight ghosts v
  FrameShuns f = Unit {0}

-- An item of a master of the bodies' own is a variable, or a record object that they may declare by default, or that has no controlled parts (3.3.1, 7.6).
abbrev pub IsOwnedApart : Apart → Owned → Type 0
IsOwnedApart apart (declared x) = Unit {0}
IsOwnedApart apart (collection access pool) = ⊥
IsOwnedApart apart (record_object t) = may_own apart t ≡ true
IsOwnedApart apart (storage_pool declaration number) = ⊥

-- So is each of these, and is numbered behind the items of the masters that were entered before.
abbrev pub AreOwnedApart : Apart → (lower : List Master) → List Item → Type 0
AreOwnedApart apart lower [] = Unit {0}
AreOwnedApart apart lower (i ∷ is) = (IsOwnedApart apart i.owned × (height lower ≤ i.number)) × AreOwnedApart apart lower is

-- What is left behind a frame, by the masters of the bodies' own, the innermost one first: a frame stands for one that is open or being left, and a variable or
-- a record object is declared in one.
abbrev pub InMasters :
    Apart → (lower : List Master) → Frame Value → (upper : List Master) → (left : List Master → Type 0) → Type 0
InMasters apart lower (frame.Elaborates ds fs hs) [] left = ⊥
InMasters apart lower (frame.Elaborates ds fs hs) (m ∷ ms) left = AreOwnedApart apart lower m.items × left ms
InMasters apart lower frame.Closes [] left = ⊥
InMasters apart lower frame.Closes (m ∷ ms) left = AreOwnedApart apart lower m.items × left ms
InMasters apart lower (frame.Leaves mode) [] left = ⊥
InMasters apart lower (frame.Leaves mode) (m ∷ ms) left = AreOwnedApart apart lower m.items × left ms
InMasters apart lower (frame.Declares x) [] left = ⊥
InMasters apart lower (frame.Declares x) (m ∷ ms) left = left (m ∷ ms)
InMasters apart lower (frame.DeclaresRecord x t) [] left = ⊥
InMasters apart lower (frame.DeclaresRecord x t) (m ∷ ms) left = left (m ∷ ms)
InMasters apart lower f ms left = left ms

-- What refers, where the call of a body ends, to the components that are given for its formal parameters of mode `in out` (6.4.1).
abbrev pub references_at : Frame Value → List Value
references_at (frame.Returns actuals references) = references
references_at f = []

-- The outermost of the bodies ends, and with it the run of an operation (7.6): what is behind comes next.
abbrev pub IsLast : (behind : List (Frame Value)) → Frame Value → List (Frame Value) → Type 0
IsLast behind f k = (f ∷ k ≡ frame.Returns [] [] ∷ behind)

-- A record is copied behind a Finalize that comes to its end (5.2, 7.6): the newest operand that waits, which names the one that is copied, names no ghost.
pub record WaitsToCopy (ghosts : Id → Bool) (f : Frame Value) (k : List (Frame Value)) (suspended : List (Activation Value)) : Type 0 where
  pub ends_operation : f ≡ frame.Returns [] []
  pub rest : List (Frame Value)
  pub is : k ≡ frame.Confines ∷ rest
  pub copies : comes_to_copy rest ≡ true
  pub sees : IsInSight ghosts (first_or Null (operands_of suspended))

-- The call of an inner one ends: what its caller's variables and operands hold, and the references to components, lead elsewhere, and what is left of the
-- caller is so, and begins anew, or copies a record.
pub record IsInner (ghosts unnamed : Id → Bool) (f : Frame Value) (k : List (Frame Value)) (suspended : List (Activation Value)) (left : Type 0) : Type 0 where
  pub references : AreElsewhere ghosts unnamed (references_at f)
  pub places : AreElsewhere ghosts unnamed (places_of suspended)
  pub operands : AreElsewhere ghosts unnamed (operands_of suspended)
  pub anew : (begins_anew k ≡ true) ⊎ WaitsToCopy ghosts f k suspended
  pub others : left

-- What holds where the call of a body ends (6.5), and at each other frame.
abbrev pub AtEnd : (ends : Bool) → (end further : Type 0) → Type 0
AtEnd true end further = end
AtEnd false end further = further

-- What is left of the body of a procedure, which runs, and of those that wait for it, in these masters of their own: each frame is read with the variables of
-- its body, up to the end of the outermost one, where all their masters have been left.
abbrev pub LeftShuns :
    ProgramForm → (shuns : ℕ → Bool) → Apart → (ghosts unnamed : Id → Bool) → (behind : List (Frame Value)) → (lower : List Master) → (procedure : Option ℕ)
    → List (Frame Value) → (upper : List Master) → (suspended : List (Activation Value)) → Type 0
LeftShuns p shuns apart ghosts unnamed behind lower procedure [] ms suspended = ⊥
LeftShuns p shuns apart ghosts unnamed behind lower procedure (f ∷ k) ms suspended =
    AtEnd (is_return f)
    ((IsLast behind f k × (ms ≡ []))
    ⊎ IsInner ghosts unnamed f k suspended
    (LeftShuns p shuns apart ghosts unnamed behind lower (procedure_of suspended) k ms (older suspended)))
    (FrameShuns p.types shuns apart p.bodies ghosts (seen_in procedure p).variables f × IsInFront f k
    × InMasters apart lower f ms (λ (ns : List Master). LeftShuns p shuns apart ghosts unnamed behind lower procedure k ns suspended))

-- What is sought next from an object of an access type: it may be followed then, and from what is selected of it on no value is followed or freed that is
-- shunned, and none freed whose object may not be.
abbrev pub Seeks : List TypeForm → (shuns : ℕ → Bool) → Apart → (may : Bool) → (access : ℕ) → List (Frame Value) → Type 0
Seeks types shuns apart may access [] = Unit {0}
Seeks types shuns apart may access (frame.Follows [] ∷ k) = Seeks types shuns apart may access k
Seeks types shuns apart may access (frame.Follows (c ∷ cs) ∷ k) =
    (may ≡ true)
    × (selectors_shun types shuns (selected_kind types (Some (variable.Access (record { 0 = access }))) c) cs ≡ true)
    × ((u : ℕ) → value_access (selectors_kind types (selected_kind types (Some (variable.Access (record { 0 = access }))) c) cs) ≡ Some u
    → Seeks types shuns apart (not (shuns u)) u k)
Seeks types shuns apart may access (frame.RefersIn place t ∷ k) = (may ≡ true)
Seeks types shuns apart may access (frame.OpensIn c ∷ k) = (may ≡ true)
Seeks types shuns apart may access (frame.Targets c right ∷ k) = (may ≡ true)
Seeks types shuns apart may access (frame.TargetsRecord c t items ∷ k) = (may ≡ true)
Seeks types shuns apart may access (frame.Copies c t ∷ k) = (may ≡ true)
Seeks types shuns apart may access (frame.Treats v (ends (Assigning number)) tasks ∷ k) = (may ≡ true)
Seeks types shuns apart may access (frame.Confines ∷ k) = (comes_to_copy k ≡ true → may ≡ true)
Seeks types shuns apart may access (frame.Receives c ∷ k) = (may ≡ true)
Seeks types shuns apart may access (frame.FreesIn t c ∷ k) =
    (may ≡ true)
    × (may_follow shuns (selected_kind types (Some (variable.Access (record { 0 = access }))) c) ≡ true)
    × (may_end apart (selected_kind types (Some (variable.Access (record { 0 = access }))) c) ≡ true)
Seeks types shuns apart may access (f ∷ k) = Unit {0}

-- So it is from the newest operand, where it names an object and no jump is on its way: no ghost is followed.
abbrev pub OperandSeeks : List TypeForm → (shuns : ℕ → Bool) → Apart → (ghosts : Id → Bool) → List Object → Mode → List (Frame Value) → (operands : List Value) → Type 0
OperandSeeks types shuns apart ghosts heap Running k (Names o ∷ vs) = (x : Object) → object_at heap o ≡ Some x → Seeks types shuns apart (not (ghosts o)) x.cell.access k
OperandSeeks types shuns apart ghosts heap mode k vs = Unit {0}

-- The home of each ghost that is in its collection is an item of the masters that were entered before (7.6.1).
abbrev pub AreLow : (ghosts : Id → Bool) → (lower : List Master) → List Object → Type 0
AreLow ghosts lower heap =
    (o : Id) (x : Object) → ghosts o ≡ true → object_at heap o ≡ Some x → x.listed ≡ true → x.cell.home.item < height lower

-- Such bodies run, while the ghosts are there, some of them unnamed: in masters of their own, which were entered behind these.
pub record IsReaching (p : ProgramForm) (shuns : ℕ → Bool) (apart : Apart) (ghosts unnamed : Id → Bool) (behind : List (Frame Value)) (lower : List Master)
    (s : State) : Type 0 where
  pub ghosts_there : (o : Id) → ghosts o ≡ true → IsGhost p.types shuns (unnamed o) (object_at s.heap o)
  pub are_ghosts : (o : Id) → unnamed o ≡ true → ghosts o ≡ true
  pub low : AreLow ghosts lower s.heap
  pub places : AreElsewhere ghosts unnamed (places_of s.activations)
  pub operands : AreElsewhere ghosts unnamed (operands_of s.activations)
  pub upper : List Master
  pub masters : s.masters ≡ upper ++ lower
  pub control : LeftShuns p shuns apart ghosts unnamed behind lower (procedure_of s.activations) s.control upper (older s.activations)
  pub jumps : MayJump s.mode s.control
  pub seeks : OperandSeeks p.types shuns apart ghosts s.heap s.mode s.control (operands_of s.activations)
