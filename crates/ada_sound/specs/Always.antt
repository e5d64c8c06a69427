-- What holds in every run of a program, whatever its input and whatever is granted and picked.

use Rattle.std.specs.Prelude.{◌≡◌, ◌↔◌, ◌⊎◌, ℕ, suc, ℤ, Bool, true, false, not, ◌&&◌, List, [], ◌∷◌, Option, Some, All, AllPairs}
use Rattle.std.specs.List.{filter}
use Rattle.ada_program.specs.declared.program.Exception.{Exception}
use Rattle.ada_program.specs.declared.program.Program.{Program}
use Rattle.ada_program.specs.declared.program.TypeNo.{TypeNo}
use Rattle.ada_text.specs.declared.spot.Spot.{Spot}
use Rattle.ada_flow.specs.declared.rule.Rule.{Rule}
use Rattle.ada_program.specs.Form.{declaration_forms, stmt_forms, handler_forms}
use Rattle.ada_program.specs.ProgramForm.{ProgramForm, TypeForm, record_of, access_to, object_of, main_body, program_form, seen_in}
use Rattle.ada_program.specs.WellFormed.{IsWellFormed, designated_type, is_access}
use Rattle.ada_program.specs.Nested.{CollectionsNest}
use Rattle.ada_program.specs.Freed.{FreesItsOwn}
use Rattle.ada_deeds.specs.Does.{Does}
use Rattle.ada_deeds.specs.Implicit.{implicit_of}
use Rattle.ada_deeds.specs.declared.deed.Callee.TheVariants as callee
use Rattle.ada_deeds.specs.declared.deed.Deed.TheVariants.{Raises, Follows}
use Rattle.ada_deeds.specs.declared.deed.Operation.TheVariants.{Adjust, Finalize}
use Rattle.ada_effects.specs.Effects.{Implicit, effects_of}
use Rattle.ada_flow.specs.Flow.{Holds, goes, faults, Around, body_around, keeping_of, declarations_flow, stmts_flow, handlers_flow, first_holds, program_flow, types_of, variables_of, ObeysRules}
use Rattle.ada_flow.specs.Tracking.{no_tracks}
use Rattle.ada_operations.specs.Created.{collections_of, is_created_before}
use Rattle.ada_meaning.specs.declared.state.Id.{Id}
use Rattle.ada_meaning.specs.declared.state.Stage.TheVariants.{Existing}
use Rattle.ada_meaning.specs.declared.event.Halt.{Halt}
use Rattle.ada_meaning.specs.declared.event.Halt.TheVariants.{Finished, Erroneous}
use Rattle.ada_meaning.specs.declared.event.Why.{Why}
use Rattle.ada_meaning.specs.Event.{Quiet}
use Rattle.ada_meaning.specs.Beginning.{BeginsStatement}
use Rattle.ada_meaning.specs.Named.{Object, State, object_at}
use Rattle.ada_meaning.specs.Run.{Event, Run, Halts, first_state}
use Rattle.ada_meaning.specs.Law.{IsBackHome, items_of, Falls, MastersFall, GivesBackOf, Happened, IsHoused, HasPool, OwnTwoPools, IsDeclaredPool, IsBack, HasEnded}
use Rattle.ada_sound.specs.Agreement.{Agrees, Place, Turning, IsFlowAt, IsBehind, IsSpokenOf, running_procedure}
use Rattle.ada_sound.specs.StandsFor.{IsBeingLeft, StandsFor}
use Rattle.ada_quiet.specs.Idle.{makes_parts, copies_parts}
use Rattle.ada_quiet.specs.InUse.{operations_are_in_use}

-- Of the events of each run, and the state that it comes to.
abbrev pub InEveryRun : Program → (List Event → State → Type 0) → Type 0
InEveryRun program P = (input : List ℤ) (events : List Event) (last : State) → Run program (first_state program input) events last → P events last

-- The end of an object neither frees objects of its own access type nor follows values of it (7.6.1, 13.11.2, 4.1), and its adjustment frees none, where it is
-- of one.
abbrev pub spares_own_type : Implicit → (type_number : ℕ) → TypeForm → Bool
spares_own_type implicit t (record_of name parts components finalization) = true
spares_own_type implicit t (access_to name designated pool) = not (implicit.end_reaches t t) && not (implicit.adjust_frees t t)
spares_own_type implicit t (object_of record_type) = true

-- So it is with each of these types, from a number on.
abbrev pub spare_own_types : Implicit → (from : ℕ) → List TypeForm → Bool
spare_own_types implicit n [] = true
spare_own_types implicit n (t ∷ ts) = spares_own_type implicit n t && spare_own_types implicit (suc n) ts

-- In a program, the end of an object uses no object of its own access type, and its adjustment frees none: what is used then lies in a collection that was
-- created earlier (7.6.1).
abbrev pub SparesOwn : Program → Type 0
SparesOwn program = spare_own_types (implicit_of (program_form program)) 0 (program_form program).types ≡ true

-- Where an object of an access type ends, what is freed or followed then is of access types whose collections are created before that of its own (7.6.1).
abbrev pub SparesNewer : Program → Type 0
SparesNewer program =
    (t u : ℕ) → is_access (program_form program).types t ≡ true → (implicit_of (program_form program)).end_reaches t u ≡ true
    → is_created_before (collections_of (program_form program)) u t ≡ true

-- Where an object of an access type is adjusted, no value of that type is followed (7.6): none that leads to the object.
abbrev pub SparesAdjusted : ProgramForm → Type 0
SparesAdjusted p = (access : ℕ) (whole : TypeNo) → designated_type p.types access ≡ Some whole.0
    → ¬ (Does p (Follows (record { 0 = access })) (callee.Parts Adjust whole))

-- In a program in which something creates an object with controlled parts, or assigns a record with some, no exception comes out where a record is finalized:
-- out of the Finalize of no part of it. In one in which something copies a record with some, none comes out where one is adjusted (7.6, 7.6.1). In other
-- programs no Finalize, or no Adjust, is called implicitly.
pub record LetsNothingOut (p : ProgramForm) : Type 0 where
  pub finalizes : makes_parts p ≡ true → (e : Exception) (t : TypeNo) → ¬ (Does p (Raises e) (callee.Parts Finalize t))
  pub adjusts : copies_parts p ≡ true → (e : Exception) (t : TypeNo) → ¬ (Does p (Raises e) (callee.Parts Adjust t))

-- A program has passed all checks.
pub record IsChecked (program : Program) : Type 0 where
  -- each number is that of something there, and each form has the types that it wants
  pub well_formed : IsWellFormed (program_form program)
  -- what overrides an operation of a controlled type touches Integers and Booleans alone, and calls nothing, and no exception comes out of such an Adjust or
  -- Finalize by its text (7.6); where operations stand apart, in whatever order collections are created, Initialize and Finalize may also move, follow and
  -- free, declare record objects whose components name objects of the main procedure's collections alone, and call what does so alone, and Initialize may also
  -- allocate; and Adjust of a type that declares components of access types may allocate, move, follow and free, so that these own what they
  -- name, or are null; such an Adjust allocates and frees no object with controlled parts;
  -- where no Adjust is called, a frugal one is in use; and where none is called, each operation is
  pub in_use : operations_are_in_use (program_form program) ≡ true
  -- no object lies in a collection that lasts longer than one in which its components' objects lie (3.10.2, 7.6.1)
  pub nests : CollectionsNest (program_form program)
  -- what is freed is freed by the instance for its own access type (13.11.2)
  pub frees_own : FreesItsOwn (program_form program)
  -- where an object ends, none of its own access type is freed or followed, and where one is adjusted, none is freed (7.6.1)
  pub spares_own : SparesOwn program
  -- what is freed or followed there is of access types whose collections are created before that of its own (7.6.1)
  pub spares_newer : SparesNewer program
  -- where an object is adjusted, no value of its own access type is followed (7.6)
  pub spares_adjusted : SparesAdjusted (program_form program)
  -- no exception comes out where a record is finalized, in a program in which a Finalize may be called, or adjusted, in one in which an Adjust may be (7.6.1)
  pub lets_nothing_out : LetsNothingOut (program_form program)
  -- the flow of values breaks no rule
  pub obeys : ObeysRules program

-- It holds in every run of each program that is accepted.
abbrev pub InEveryCheckedRun : (List Event → State → Type 0) → Type 0
InEveryCheckedRun P = (program : Program) → IsChecked program → InEveryRun program P

-- No run ends so.
abbrev pub NeverHalts : Halt → Program → Type 0
NeverHalts halt program = InEveryRun program (λ events last. Halts program last halt → ⊥)

-- No run comes to an erroneous action of this kind.
abbrev pub NeverErroneous : Why → Program → Type 0
NeverErroneous why program = NeverHalts (Erroneous why) program

-- Flow through the body that runs comes to what is left to do there, each variable of the body holds what flow says, and components own what they name.
abbrev pub AgreesThere : Program → State → Type 0
AgreesThere program s =
    (rest : Place) × (way : List Turning) × (holds : Holds) × IsBehind (running_procedure s) rest
    × IsFlowAt program (running_procedure s) rest way s.control holds
    × Agrees (program_form program).types (seen_in (running_procedure s) (program_form program)).variables s holds

-- So it is with a state that stands for this one, while an operation runs for a member of a collection that is being left (7.6.1): in it objects exist still that
-- have gone with that collection, or with a newer one.
abbrev pub AgreesWhileLeft : Program → State → Type 0
AgreesWhileLeft program s = (access item : ℕ) × (v : State) × IsBeingLeft s access item × StandsFor s v item × AgreesThere program v

-- The words of each object that exists are out: so its collection is open, where flow says that it exists.
abbrev pub WordsAreOut : State → Type 0
WordsAreOut s = (o : Id) (object : Object) → object_at s.heap o ≡ Some object → object.stage ≡ Existing → object.out ≡ true

-- So it is wherever a statement begins, in the main body or in that of a procedure; but, while an operation runs, not in that of a procedure that touches
-- Integers and Booleans alone, nor in that of an Adjust which tracks components.
abbrev pub AgreesWithFlow : Program → Type 0
AgreesWithFlow program =
    InEveryRun program (λ events last. BeginsStatement last → IsSpokenOf program last
    → WordsAreOut last × (AgreesThere program last ⊎ AgreesWhileLeft program last))

-- Any two events, the first before the second.
abbrev pub InPairs : (Event → Event → Type 0) → List Event → State → Type 0
InPairs R events last = AllPairs R events

-- All words that went back went home.
abbrev pub BacksGoHome : List Event → State → Type 0
BacksGoHome events last = All (IsBackHome last.heap) events

-- Numbers fall along the items of the masters that are entered, and along those masters.
abbrev pub ItemNumbersFall : List Event → State → Type 0
ItemNumbersFall events last = AllPairs Falls (items_of last.masters)

-- The numbers of masters fall from the innermost one out.
abbrev pub MasterNumbersFall : List Event → State → Type 0
MasterNumbersFall events last = AllPairs MastersFall last.masters

-- The words of each object are back exactly where an event says so.
abbrev pub BacksAreTold : List Event → State → Type 0
BacksAreTold events last = (o : Id) (object : Object) → object_at last.heap o ≡ Some object → IsBack object ↔ Happened (GivesBackOf o) events

-- The home of each object whose words are out is an item of a master that is entered.
abbrev pub OutsAreHoused : List Event → State → Type 0
OutsAreHoused events last =
    (o : Id) (object : Object) → object_at last.heap o ≡ Some object → object.out ≡ true → IsHoused last.masters object

-- The pool of each object whose words are out exists.
abbrev pub OutsHavePools : List Event → State → Type 0
OutsHavePools events last =
    (o : Id) (object : Object) → object_at last.heap o ≡ Some object → object.out ≡ true → HasPool last.masters object

-- No two pools that exist have one number, and none has that of the standard pool.
abbrev pub PoolNumbersDiffer : List Event → State → Type 0
PoolNumbersDiffer events last = AllPairs OwnTwoPools (items_of last.masters) × All IsDeclaredPool (items_of last.masters)

-- Where a run has come to its end, no master is left over, and the words of each object are back.
abbrev pub EndsClean : Program → Type 0
EndsClean program =
    (input : List ℤ) (events : List Event) (last : State) (halt : Halt) → Run program (first_state program input) events last
    → Halts program last halt → HasEnded halt → (last.masters ≡ []) × All IsBack last.heap

-- There is a run with such events, to such a state.
abbrev pub InSomeRun : Program → (List Event → State → Type 0) → Type 0
InSomeRun program P = (input : List ℤ) × (events : List Event) × (last : State) × Run program (first_state program input) events last × P events last

-- An event that can be seen.
abbrev pub is_seen : Event → Bool
is_seen Quiet = false
is_seen e = true

-- The program gets as far as a statement.
abbrev pub ReachesStatement : Program → Type 0
ReachesStatement program = InSomeRun program (λ events last. BeginsStatement last)

-- A run of the program comes to this end, after these events.
abbrev pub HaltsAfter : List Event → Halt → Program → Type 0
HaltsAfter seen halt program = InSomeRun program (λ events last. Halts program last halt × (filter is_seen events ≡ seen))

-- The program finishes, after these events.
abbrev pub FinishesAfter : List Event → Program → Type 0
FinishesAfter seen program = HaltsAfter seen Finished program

-- The program has passed all other checks, but flow refuses it, first by this rule.
pub record Breaks (rule : Rule) (program : Program) : Type 0 where
  pub well_formed : IsWellFormed (program_form program)
  pub in_use : operations_are_in_use (program_form program) ≡ true
  pub nests : CollectionsNest (program_form program)
  pub frees_own : FreesItsOwn (program_form program)
  pub spares_own : SparesOwn program
  pub spares_newer : SparesNewer program
  pub spares_adjusted : SparesAdjusted (program_form program)
  pub lets_nothing_out : LetsNothingOut (program_form program)
  pub spot : Spot
  pub faults_there : program_flow program ≡ faults spot rule

-- The program has passed all other checks, but it is not well formed.
pub record IsIllFormed (program : Program) : Type 0 where
  pub ill_formed : IsWellFormed (program_form program) → ⊥
  pub in_use : operations_are_in_use (program_form program) ≡ true
  pub nests : CollectionsNest (program_form program)
  pub frees_own : FreesItsOwn (program_form program)
  pub spares_own : SparesOwn program
  pub spares_newer : SparesNewer program
  pub spares_adjusted : SparesAdjusted (program_form program)
  pub lets_nothing_out : LetsNothingOut (program_form program)
  pub obeys : ObeysRules program

-- The program has passed all other checks, but its collections do not nest.
pub record IsIllNested (program : Program) : Type 0 where
  pub well_formed : IsWellFormed (program_form program)
  pub in_use : operations_are_in_use (program_form program) ≡ true
  pub ill_nested : CollectionsNest (program_form program) → ⊥
  pub frees_own : FreesItsOwn (program_form program)
  pub spares_own : SparesOwn program
  pub spares_newer : SparesNewer program
  pub spares_adjusted : SparesAdjusted (program_form program)
  pub lets_nothing_out : LetsNothingOut (program_form program)
  pub obeys : ObeysRules program

-- The program has passed all other checks, but it frees by an instance for another access type.
pub record FreesOthers (program : Program) : Type 0 where
  pub well_formed : IsWellFormed (program_form program)
  pub in_use : operations_are_in_use (program_form program) ≡ true
  pub nests : CollectionsNest (program_form program)
  pub frees_others : FreesItsOwn (program_form program) → ⊥
  pub spares_own : SparesOwn program
  pub spares_newer : SparesNewer program
  pub spares_adjusted : SparesAdjusted (program_form program)
  pub lets_nothing_out : LetsNothingOut (program_form program)
  pub obeys : ObeysRules program

-- The program has passed all other checks, but something that overrides an operation of a controlled type is not in use.
pub record NotInUse (program : Program) : Type 0 where
  pub well_formed : IsWellFormed (program_form program)
  pub not_in_use : operations_are_in_use (program_form program) ≡ false
  pub nests : CollectionsNest (program_form program)
  pub frees_own : FreesItsOwn (program_form program)
  pub spares_own : SparesOwn program
  pub spares_newer : SparesNewer program
  pub spares_adjusted : SparesAdjusted (program_form program)
  pub lets_nothing_out : LetsNothingOut (program_form program)
  pub obeys : ObeysRules program

-- The program has passed all other checks, but an exception may come out where a record is finalized, and a Finalize may be called, or where one is adjusted,
-- and an Adjust may be.
pub record LetsSomeOut (program : Program) : Type 0 where
  pub well_formed : IsWellFormed (program_form program)
  pub in_use : operations_are_in_use (program_form program) ≡ true
  pub nests : CollectionsNest (program_form program)
  pub frees_own : FreesItsOwn (program_form program)
  pub spares_own : SparesOwn program
  pub spares_newer : SparesNewer program
  pub spares_adjusted : SparesAdjusted (program_form program)
  pub lets_some_out : LetsNothingOut (program_form program) → ⊥
  pub obeys : ObeysRules program

-- The program has passed all other checks, but where an object ends, something is freed or followed whose collection is not created before that of its own.
pub record UsesNewer (program : Program) : Type 0 where
  pub well_formed : IsWellFormed (program_form program)
  pub in_use : operations_are_in_use (program_form program) ≡ true
  pub nests : CollectionsNest (program_form program)
  pub frees_own : FreesItsOwn (program_form program)
  pub spares_own : SparesOwn program
  pub uses_newer : SparesNewer program → ⊥
  pub spares_adjusted : SparesAdjusted (program_form program)
  pub lets_nothing_out : LetsNothingOut (program_form program)
  pub obeys : ObeysRules program

-- The program has passed all other checks, but where an object is adjusted, a value of its own access type may be followed.
pub record FollowsAdjusted (program : Program) : Type 0 where
  pub well_formed : IsWellFormed (program_form program)
  pub in_use : operations_are_in_use (program_form program) ≡ true
  pub nests : CollectionsNest (program_form program)
  pub frees_own : FreesItsOwn (program_form program)
  pub spares_own : SparesOwn program
  pub spares_newer : SparesNewer program
  pub follows_adjusted : SparesAdjusted (program_form program) → ⊥
  pub lets_nothing_out : LetsNothingOut (program_form program)
  pub obeys : ObeysRules program

-- The program is well formed, whatever overrides an operation of a controlled type is in use, its collections nest, it frees by the instances for what it
-- frees, and it obeys the rules, but where an object ends, or is adjusted, others of its own access type may be used.
pub record UsesOwn (program : Program) : Type 0 where
  pub well_formed : IsWellFormed (program_form program)
  pub in_use : operations_are_in_use (program_form program) ≡ true
  pub nests : CollectionsNest (program_form program)
  pub frees_own : FreesItsOwn (program_form program)
  pub uses_own : SparesOwn program → ⊥
  pub lets_nothing_out : LetsNothingOut (program_form program)
  pub obeys : ObeysRules program

-- What is known of the operations of a program that are called implicitly (7.6).
abbrev pub implicit_in : Program → Implicit
implicit_in program = implicit_of (program_form program)

-- Where the statements of the main procedure stand.
abbrev pub main_around : Program → Around
main_around program =
    body_around (effects_of (implicit_in program) (program_form program)) (keeping_of (implicit_in program) (program_form program)) no_tracks (main_body (program_form program))

-- Flow knows this of the variables where the statements of the main procedure begin, and again where they come to their end; and handlers
-- that began with it would keep the rules.
abbrev pub IsFineAtEnds : Holds → Program → Type 0
IsFineAtEnds holds program =
    (before within normal raising : Option Holds)
    × (declarations_flow (types_of program) (variables_of program) no_tracks (implicit_in program) (declaration_forms program) (first_holds [] (variables_of program)) ≡ goes (Some holds) before)
    × (stmts_flow (types_of program) (variables_of program) (main_around program) (stmt_forms program) holds ≡ goes (Some holds) within)
    × (handlers_flow (types_of program) (variables_of program) (main_around program) (handler_forms program) holds ≡ goes normal raising)

-- A run of the program comes to this end.
abbrev pub HaltsSomewhere : Halt → Program → Type 0
HaltsSomewhere halt program = InSomeRun program (λ events last. Halts program last halt)
