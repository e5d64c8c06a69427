-- What a step of code does to masters and to the heap, and what is left to do then.

use Rattle.std.proofs.Common.{◌≡◌, ℕ, ◌+◌, ◌<◌, Bool, true, List, [], ◌∷◌, ◌++◌, length, map, Some, None, refl, sym, ap, ◌∙◌, subst}
use Rattle.ada_program.specs.Form.{RecordPathForm, ActualForm, in_value, in_null, in_access, in_record, in_out_path, in_out_access, in_out_component, in_out_record, StmtsForm, HandlersForm, DeclarationForm}
use Rattle.ada_program.specs.declared.program.TypeDefinition.{TypeDefinition}
use Rattle.ada_parts.specs.declared.tasks.Direction.TheVariants.{PartsFirst, WholeFirst}
use Rattle.ada_meaning.specs.declared.event.Birth.{Birth}
use Rattle.ada_meaning.specs.declared.event.Birth.TheVariants.{Creation}
use Rattle.ada_meaning.specs.declared.state.Value.{Value}
use Rattle.ada_meaning.specs.declared.state.Value.TheVariants.{Names}
use Rattle.ada_meaning.specs.declared.state.Mode.{Mode}
use Rattle.ada_meaning.specs.declared.event.Cause.TheVariants.{Freeing}
use Rattle.ada_meaning.specs.Event.{Quiet}
use Rattle.ada_meaning.specs.Frame.{begins, ends}
use Rattle.ada_meaning.specs.Frame as frame
use Rattle.ada_meaning.specs.State.{Owned, record_object, Activation, Master, Destination, height, home_of}
use Rattle.ada_meaning.specs.Heap.{Cell, finds}
use Rattle.ada_meaning.specs.Step.{older, new_part, same_pool, all_tasks, treating, owning, stored_from, halts, storing, computing}
use Rattle.ada_meaning.specs.Named.{State, new_object, on_object, parted, Next, named, standing}
use Rattle.ada_meaning.specs.Step.{moves, tells, asks, picks}
use Rattle.ada_meaning.specs.declared.event.Halt.{Halt}
use Rattle.ada_meaning.specs.Law.{HasEnded}
use Rattle.ada_meaning.specs.Run.{Event, Choice, settled, grants, takes, Leads}
use Rattle.ada_meaning.proofs.Activations.{Shape, shape, Keeps}
use Rattle.ada_storage.specs.State as storage
use Rattle.ada_following.specs.Reading.{event_seen}
use Rattle.ada_following.proofs.Heaps.{Heap}
use Rattle.ada_following.proofs.Frames.{Control, IsCreated, Over, more}
use Rattle.ada_following.proofs.Sound.{IsBare}

-- What a step of code does, where these masters are entered, this number is the next one, and these are the heap and the mode: nothing that storage sees; or
-- components of an object get other values; the innermost master owns an item more, or a record object; an object is allocated; a master is entered; an object
-- is freed; or two records are to be found, of which one is assigned to the other.
pub data Work (types : List TypeDefinition) (b : Control) (ms : List Master) (n : ℕ) (h : Heap) (mode : Mode) (e : Event) (t : State) : Type 0 where
  stays : event_seen e ≡ storage.quiet → Over b t.control → t.masters ≡ ms → t.next ≡ n → t.heap ≡ h → Work types b ms n h mode e t
  fills :
      (o : Value) (c : ℕ) (vs : List Value)
      → event_seen e ≡ storage.quiet → Over b t.control → t.masters ≡ ms → t.next ≡ n → t.heap ≡ stored_from named h o c vs → Work types b ms n h mode e t
  owns :
      (what : Owned) → IsBare what
      → event_seen e ≡ storage.quiet → Over b t.control → t.masters ≡ owning (record { number = height ms; owned = what }) ms → t.next ≡ n → t.heap ≡ h → t.mode ≡ mode
      → Work types b ms n h mode e t
  makes :
      (object_type : ℕ) (by : Birth) (cell : Cell Value) (l : Control) (firsts : List ℕ) → IsCreated by → cell.parts ≡ map new_part firsts
      → event_seen e ≡ storage.quiet → t.control ≡ treating (Names (record { 0 = length h })) (begins by []) (all_tasks types cell.access PartsFirst) l → Over b l → t.masters ≡ owning (record { number = height ms; owned = record_object object_type }) ms → t.next ≡ n
      → t.heap ≡ h ++ new_object cell ∷ [] → cell.home.item ≡ height ms → cell.home.pool ≡ None → t.mode ≡ mode
      → Work types b ms n h mode e t
  creates :
      (access : ℕ) (cell : Cell Value) (home : Destination) (l : Control) (firsts : List ℕ) → home_of access ms ≡ Some home → cell.home.item ≡ home.item → cell.home.pool ≡ Some home.pool
      → cell.parts ≡ map new_part firsts
      → event_seen e ≡ storage.quiet → t.control ≡ treating (Names (record { 0 = length h })) (begins Creation []) (all_tasks types cell.access PartsFirst) l → Over b l → t.masters ≡ ms → t.next ≡ n → t.heap ≡ h ++ new_object cell ∷ [] → t.mode ≡ mode
      → Work types b ms n h mode e t
  enters :
      (ds : List DeclarationForm) (fs : StmtsForm) (hs : HandlersForm) (k : Control)
      → event_seen e ≡ storage.quiet → t.control ≡ frame.Elaborates ds fs hs ∷ k → Over b k → t.masters ≡ record { number = n; items = [] } ∷ ms → t.next ≡ n + 1
      → t.heap ≡ h → t.mode ≡ mode
      → Work types b ms n h mode e t
  gives_up :
      (v : Value) (pool : ℕ) (cell : Cell Value) (k : Control) → standing h v ≡ finds cell → same_pool (Some pool) cell.home.pool ≡ true
      → event_seen e ≡ storage.quiet → t.control ≡ treating v (ends (Freeing n)) (all_tasks types cell.access WholeFirst) (frame.Ends v ∷ frame.GivesBack v (Freeing n) (Some pool) ∷ k) → Over b k → t.masters ≡ ms → t.next ≡ n + 1
      → t.heap ≡ on_object parted h v → t.mode ≡ mode
      → Work types b ms n h mode e t
  seeks :
      (target source : RecordPathForm) (record_type : ℕ) (k : Control)
      → event_seen e ≡ storage.quiet → t.control ≡ frame.Refers target ∷ frame.Refers source ∷ frame.Assigns record_type ∷ k → Over b k → t.masters ≡ ms → t.next ≡ n → t.heap ≡ h → t.mode ≡ mode
      → Work types b ms n h mode e t

-- What comes next does so, whatever is answered; and the run has not come to its end.
abbrev pub Does : (Event → State → Type 0) → Next → Type 0
Does D (halts halt) = HasEnded halt → ⊥
Does D (moves e s) = D e s
Does D (tells request e s) = D e s
Does D (asks request answers) = (granted : Bool) → D Quiet (answers granted)
Does D (picks n taking) = (i : ℕ) → i < n → D Quiet (taking i)

-- Code in front: the actual parameters of a call, and the components that get something back behind its body.
pub computing_over : {b : Control} (actuals : List ActualForm) (k : Control) → Over b k → Over b (computing named actuals k)
computing_over [] k p = p
computing_over (in_value e ∷ rest) k p = more tt (computing_over rest k p)
computing_over (in_null ∷ rest) k p = more tt (computing_over rest k p)
computing_over (in_access path ∷ rest) k p = more tt (computing_over rest k p)
computing_over (in_record r ∷ rest) k p = more tt (computing_over rest k p)
computing_over (in_out_path path ∷ rest) k p = more tt (computing_over rest k p)
computing_over (in_out_access path ∷ rest) k p = more tt (computing_over rest k p)
computing_over (in_out_component path ∷ rest) k p = more tt (computing_over rest k p)
computing_over (in_out_record r ∷ rest) k p = more tt (computing_over rest k p)

pub storing_over : {b : Control} (references : List Value) (k : Control) → Over b k → Over b (storing named references k)
storing_over [] k p = p
storing_over (r ∷ rs) k p = more tt (storing_over rs k p)

-- Storage sees nothing of code.
pub work_is_quiet : {types : List TypeDefinition} {b : Control} {ms : List Master} {n : ℕ} {h : Heap} {mode : Mode} {e : Event} {t : State} → Work types b ms n h mode e t → event_seen e ≡ storage.quiet
work_is_quiet (stays q over masters next heap) = q
work_is_quiet (fills o c vs q over masters next heap) = q
work_is_quiet (owns what bare q over masters next heap mode) = q
work_is_quiet (makes t by cell l firsts created new q control over masters next heap at_c from_none mode) = q
work_is_quiet (creates access cell home l firsts found at_c from_pool new q control over masters next heap mode) = q
work_is_quiet (enters ds fs hs k q control over masters next heap mode) = q
work_is_quiet (gives_up v pool cell k found same_one q control over masters next heap mode) = q
work_is_quiet (seeks target source t k q control over masters next heap mode) = q

pub does_map : (D E : Event → State → Type 0) → ((e : Event) (s : State) → D e s → E e s) → (coming : Next) → Does D coming → Does E coming
does_map D E f (halts halt) d = d
does_map D E f (moves e s) d = f e s d
does_map D E f (tells request e s) d = f e s d
does_map D E f (asks request answers) d = λ granted. f Quiet (answers granted) (d granted)
does_map D E f (picks n taking) d = λ i lt. f Quiet (taking i) (d i lt)

-- And the activations behind the running one stay.
pub does_both : (w : Shape) (D : Event → State → Type 0) (coming : Next) → Does D coming → Keeps w coming → Does (λ e y. D e y × (shape y.activations ≡ w)) coming
does_both w D (halts halt) d k = d
does_both w D (moves e s) d k = (d, k)
does_both w D (tells request e s) d k = (d, k)
does_both w D (asks request answers) d k = λ granted. (d granted, k granted)
does_both w D (picks n taking) d k = λ i lt. (d i lt, k i)

abbrev callers_of : Shape → List (Activation Value)
callers_of None = []
callers_of (Some kept) = kept.callers

shape_older : (acts : List (Activation Value)) → callers_of (shape acts) ≡ older acts
shape_older [] = refl
shape_older (a ∷ acts) = refl

pub older_same : (xs ys : List (Activation Value)) → shape ys ≡ shape xs → older ys ≡ older xs
older_same xs ys e = sym (shape_older ys) ∙ ap callers_of e ∙ shape_older xs

-- The same, or nothing is left to do.
abbrev pub DoesOrEnds : Control → (Event → State → Type 0) → Next → Type 0
DoesOrEnds k D (halts halt) = HasEnded halt → k ≡ []
DoesOrEnds k D (moves e s) = D e s
DoesOrEnds k D (tells request e s) = D e s
DoesOrEnds k D (asks request answers) = (granted : Bool) → D Quiet (answers granted)
DoesOrEnds k D (picks n taking) = (i : ℕ) → i < n → D Quiet (taking i)

pub or_ends : (k : Control) (D : Event → State → Type 0) (coming : Next) → Does D coming → DoesOrEnds k D coming
or_ends k D (halts halt) d = λ ended. absurd (d ended)
or_ends k D (moves e s) d = d
or_ends k D (tells request e s) d = d
or_ends k D (asks request answers) d = d
or_ends k D (picks n taking) d = d

pub ends_only : (k : Control) (D : Event → State → Type 0) (coming : Next) (halt : Halt) → DoesOrEnds k D coming → coming ≡ halts halt → HasEnded halt → k ≡ []
ends_only k D coming halt d is ended = subst (DoesOrEnds k D) is d ended

pub never_ends : (D : Event → State → Type 0) (coming : Next) (halt : Halt) → Does D coming → coming ≡ halts halt → HasEnded halt → ⊥
never_ends D coming halt d is ended = subst (Does D) is d ended

pub led : (k : Control) (D : Event → State → Type 0) (coming : Next) (choice : Choice) (e : Event) (after : State) → DoesOrEnds k D coming → Leads coming choice e after → D e after
led k D (halts halt) choice e after d l = absurd l
led k D (moves shown s) settled e after d l = rw (l.0, l.1) d
led k D (moves shown s) (grants granted) e after d l = absurd l
led k D (moves shown s) (takes i) e after d l = absurd l
led k D (tells request shown s) settled e after d l = rw (l.0, l.1) d
led k D (tells request shown s) (grants granted) e after d l = absurd l
led k D (tells request shown s) (takes i) e after d l = absurd l
led k D (asks request answers) settled e after d l = absurd l
led k D (asks request answers) (grants granted) e after d l = rw (l.0, l.1) (d granted)
led k D (asks request answers) (takes i) e after d l = absurd l
led k D (picks n taking) settled e after d l = absurd l
led k D (picks n taking) (grants granted) e after d l = absurd l
led k D (picks n taking) (takes i) e after d l = rw (l.1, l.2) (d i l.0)
