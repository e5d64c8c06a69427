-- The program of a source, and its first fault. The phases are text, syntax, names, which operations of controlled types call themselves, the rules on what
-- operations do, flow, and which operations are in use. Which operations call themselves is asked of what stands before a fault of the names, too.

use Rattle.std.specs.Prelude.{◌≡◌, ◌≢◌, ℕ, true, List, Option, Some, None}
use Rattle.ada_text.specs.declared.spot.Spot.{Spot}
use Rattle.ada_text.specs.Token.{Lexeme}
use Rattle.ada_text.specs.Reading.{Spells, IsFirstFault as IsFirstTextFault}
use Rattle.ada_tree.specs.Statements.{UnitTree, IsTextOf}
use Rattle.ada_parser.specs.FirstFault.{IsFirstFault as IsFirstSyntaxFault}
use Rattle.ada_program.specs.declared.program.Program.{Program}
use Rattle.ada_program.specs.ProgramForm.{ProgramForm, program_form}
use Rattle.ada_circles.specs.Circles.{IsFirstCircle}
use Rattle.ada_operations.specs.declared.fault.OperationFault.{OperationFault}
use Rattle.ada_operations.specs.declared.fault.OperationFault.TheVariants as operations
use Rattle.ada_operations.specs.Operations.{IsFirstFault as IsFirstOf}
use Rattle.ada_quiet.specs.First.{IsFirstUnused as IsFirstNotInUse}
use Rattle.ada_front.specs.Front.{front_of}
use Rattle.ada_resolve.specs.declared.fault.NameFault.{NameFault}
use Rattle.ada_resolve.specs.declared.fault.NameFault.TheVariants as names
use Rattle.ada_resolve.specs.declared.fault.NameRule.{NameRule}
use Rattle.ada_resolve.specs.Resolution.{IsFirstNameFault, Resolves}
use Rattle.ada_resolve.specs.View.{Faults}
use Rattle.ada_rounds.specs.FirstRound.{IsFirstRound}
use Rattle.ada_flow.specs.Flow.{ObeysRules}
use Rattle.ada_flow.specs.Told.{IsFirstFault as IsFirstFlowFault}
use Rattle.ada_verdict.specs.declared.fault.RoundFault.{RoundFault}
use Rattle.ada_verdict.specs.declared.fault.RoundFault.TheVariants as round
use Rattle.ada_verdict.specs.declared.fault.UnusedFault.{UnusedFault}
use Rattle.ada_verdict.specs.declared.fault.UnusedFault.TheVariants as unused
use Rattle.ada_verdict.specs.declared.fault.Verdict.{Verdict}
use Rattle.ada_verdict.specs.declared.fault.Verdict.TheVariants as verdict
use Rattle.ada_verdict.specs.Refusal.{refusal_of}

-- The source's tokens are those that the tree is written with (10.1.1).
pub record IsSourceOf (source : List ℕ) (tree : UnitTree) : Type 0 where
  pub tokens : List Lexeme
  pub spelled : Spells source tokens
  pub written : IsTextOf tokens tree

-- The program is that of the source.
pub record IsProgramOf (source : List ℕ) (program : Program) : Type 0 where
  pub tree : UnitTree
  pub text : IsSourceOf source tree
  pub resolved : Resolves tree (program_form program)

-- No Initialize and no Adjust of a controlled type calls itself, directly or by way of other procedures and operations (7.6).
abbrev pub NoneCallsItself : Program → Type 0
NoneCallsItself program = IsFirstRound (program_form program) None

-- No operation of a controlled type breaks a rule on what it may do (7.6.1).
abbrev pub OperationsObey : Program → Type 0
OperationsObey program = IsFirstOf (program_form program) None

-- No body leads back to itself by what its own declarations create (7.6, 3.3.1).
abbrev pub NoneLeadsBack : Program → Type 0
NoneLeadsBack program = IsFirstCircle (program_form program) None

-- Each operation is in use: Initialize is plain or, where it may be, frugal, Adjust is quiet, or, of a type that declares a component of an access type, simple,
-- where it may track, and Finalize is quiet or, where it may be, frugal. And what the declarations of bodies create leads back to none of them.
abbrev pub OperationsAreInUse : Program → Type 0
OperationsAreInUse program = IsFirstNotInUse (program_form program) None × NoneLeadsBack program

-- Nothing is wrong with a program, by the phases behind names: no Initialize and no Adjust calls itself, its operations obey their rules, it obeys the rules of
-- flow, where what operations may do that are called implicitly counts, and its operations are in use.
abbrev pub HasNoFault : Program → Type 0
HasNoFault program = NoneCallsItself program × OperationsObey program × ObeysRules program × OperationsAreInUse program

-- The program is that of the source, and nothing is wrong with it.
abbrev pub IsAccepted : List ℕ → Program → Type 0
IsAccepted source program = IsProgramOf source program × HasNoFault program

-- The first Initialize or Adjust of a program that calls itself.
abbrev pub IsFirstCircling : Program → RoundFault → Type 0
IsFirstCircling program (round.CallsItself spot) = IsFirstRound (program_form program) (Some spot)
IsFirstCircling program round.NoMemory = Unit {0}

-- The first fault of the operations of a program.
abbrev pub IsFirstBroken : Program → OperationFault → Type 0
IsFirstBroken program (operations.Broken spot rule) = IsFirstOf (program_form program) (Some (spot, rule))
IsFirstBroken program operations.NoMemory = Unit {0}

-- What is wrong first, where each operation is in use by its own text: a body that leads back to itself.
abbrev pub IsFirstBehindUse : Program → UnusedFault → Type 0
IsFirstBehindUse program (unused.Operation spot) = ⊥
IsFirstBehindUse program (unused.Circle spot) = IsFirstCircle (program_form program) (Some spot)
IsFirstBehindUse program unused.NoMemory = Unit {0}

-- The first operation that is not in use, where the rules of flow are obeyed; or each is in use, but a body leads back to itself.
abbrev pub IsFirstUnused : Program → UnusedFault → Type 0
IsFirstUnused program (unused.Operation spot) = ObeysRules program × IsFirstNotInUse (program_form program) (Some spot)
IsFirstUnused program (unused.Circle spot) = ObeysRules program × IsFirstNotInUse (program_form program) None × IsFirstBehindUse program (unused.Circle spot)
IsFirstUnused program unused.NoMemory = ObeysRules program

-- The first Initialize or Adjust that calls itself by what stands before a fault, or that there is none, where what stands before it is a program (7.6).
abbrev pub IsFirstBefore : (fault : Spot) → UnitTree → Option Spot → Type 0
IsFirstBefore fault tree None = (p : ProgramForm) → Resolves (front_of fault tree) p → IsFirstRound p None
IsFirstBefore fault tree (Some spot) = (p : ProgramForm) × Resolves (front_of fault tree) p × IsFirstRound p (Some spot)

-- The first fault of the names of a tree is told: before it no Initialize and no Adjust calls itself.
abbrev pub IsToldFirst : NameFault → UnitTree → Type 0
IsToldFirst (names.Broken spot rule) tree = IsFirstBefore spot tree None
IsToldFirst names.NoMemory tree = Unit {0}

-- The first Initialize or Adjust of a tree that calls itself by what stands before the first fault of its names.
abbrev pub IsEarlyRound : UnitTree → Spot → Type 0
IsEarlyRound tree spot = (fault : Spot) × (rule : NameRule) × IsFirstNameFault tree fault rule × IsFirstBefore fault tree (Some spot)

-- The first fault of a program, behind names: that of the first phase that has one.
abbrev pub IsFirstIn : Program → Verdict → Type 0
IsFirstIn program (verdict.Text fault) = ⊥
IsFirstIn program (verdict.Syntax fault) = ⊥
IsFirstIn program (verdict.Names fault) = ⊥
IsFirstIn program (verdict.EarlyRound spot) = ⊥
IsFirstIn program (verdict.Rounds fault) = IsFirstCircling program fault
IsFirstIn program (verdict.Operations fault) = NoneCallsItself program × IsFirstBroken program fault
IsFirstIn program (verdict.Unused fault) = NoneCallsItself program × OperationsObey program × IsFirstUnused program fault
IsFirstIn program (verdict.Flow fault) = NoneCallsItself program × OperationsObey program × IsFirstFlowFault program fault

-- The first fault of a source: that of the first phase that has one, of what that phase begins with. An Initialize or an Adjust that calls itself by what
-- stands before the first fault of the names is told instead of that. Want of memory is no fault of a source.
abbrev pub IsFirst : List ℕ → Verdict → Type 0
IsFirst source (verdict.Text fault) = IsFirstTextFault source fault
IsFirst source (verdict.Syntax fault) = (tokens : List Lexeme) × Spells source tokens × IsFirstSyntaxFault tokens fault
IsFirst source (verdict.Names fault) = (tree : UnitTree) × IsSourceOf source tree × Faults fault tree × IsToldFirst fault tree
IsFirst source (verdict.EarlyRound spot) = (tree : UnitTree) × IsSourceOf source tree × IsEarlyRound tree spot
IsFirst source (verdict.Rounds fault) = (program : Program) × IsProgramOf source program × IsFirstIn program (verdict.Rounds fault)
IsFirst source (verdict.Operations fault) = (program : Program) × IsProgramOf source program × IsFirstIn program (verdict.Operations fault)
IsFirst source (verdict.Unused fault) = (program : Program) × IsProgramOf source program × IsFirstIn program (verdict.Unused fault)
IsFirst source (verdict.Flow fault) = (program : Program) × IsProgramOf source program × IsFirstIn program (verdict.Flow fault)

-- The source could not be accepted, or memory ran out.
abbrev pub RefusesRightly : List ℕ → Verdict → Type 0
RefusesRightly source verdict = (program : Program) → IsAccepted source program → refusal_of verdict ≡ None

-- A source has at most one program, wherever that lies in memory.
abbrev pub HasAtMostOneProgram : List ℕ → Type 0
HasAtMostOneProgram source = (p q : Program) → IsProgramOf source p → IsProgramOf source q → program_form p ≡ program_form q

-- A source with a first fault could not be accepted.
abbrev pub HasFaultOrProgram : List ℕ → Type 0
HasFaultOrProgram source = (verdict : Verdict) → IsFirst source verdict → RefusesRightly source verdict

-- A source has at most one first fault.
abbrev pub HasAtMostOneFault : List ℕ → Type 0
HasAtMostOneFault source =
    (v w : Verdict) → IsFirst source v → IsFirst source w → refusal_of v ≢ None → refusal_of w ≢ None → refusal_of v ≡ refusal_of w
