-- Which procedures call themselves, directly or by way of other procedures and of operations (6.4, 7.6), by the text alone: what is behind a jump counts.

use Rattle.std.specs.Prelude.{◌≡◌, ◌↔◌, Bool, true, false, ◌&&◌, ◌==◌, [], length}
use Rattle.ada_deeds.specs.Does.{callee_does}
use Rattle.ada_deeds.specs.Graph.{node_count, IsGraph}
use Rattle.ada_deeds.specs.declared.deed.Callee.{Callee}
use Rattle.ada_deeds.specs.declared.deed.Callee.TheVariants as callee
use Rattle.ada_deeds.specs.declared.deed.Deed.TheVariants as deed
use Rattle.ada_deeds.specs.declared.deed.Operation.{Operation}
use Rattle.ada_deeds.specs.declared.deed.Operation.TheVariants.{Initialize, Adjust, Finalize}
use Rattle.ada_deeds.specs.declared.rounds.Rounds.{Rounds}
use Rattle.ada_program.specs.declared.program.ProcedureNo.{ProcedureNo}
use Rattle.ada_program.specs.ProgramForm.{ProgramForm}
use Rattle.ada_reach.specs.View.{graph_of}

-- Are two operations one?
abbrev pub is_operation : Operation → Operation → Bool
is_operation Initialize Initialize = true
is_operation Initialize Adjust = false
is_operation Initialize Finalize = false
is_operation Adjust Initialize = false
is_operation Adjust Adjust = true
is_operation Adjust Finalize = false
is_operation Finalize Initialize = false
is_operation Finalize Adjust = false
is_operation Finalize Finalize = true

-- Are two callees one?
abbrev pub is_callee : Callee → Callee → Bool
is_callee (callee.Procedure procedure) (callee.Procedure other) = procedure.0 == other.0
is_callee (callee.Procedure procedure) (callee.Parts operation t) = false
is_callee (callee.Parts operation t) (callee.Procedure procedure) = false
is_callee (callee.Parts operation t) (callee.Parts other u) = is_operation operation other && (t.0 == u.0)

-- A callee calls another one (6.4), or does so implicitly (7.6).
abbrev pub CallsOne : ProgramForm → (c other : Callee) → Type 0
CallsOne p c other = callee_does p (is_callee other) deed.Calls c ≡ true

-- It comes to what it calls, and to what is called by what it comes to.
pub data ComesTo (p : ProgramForm) (c : Callee) : (other : Callee) → Type 0 where
  calls : {other : Callee} → CallsOne p c other → ComesTo p c other
  goes_on : {between other : Callee} → ComesTo p c between → CallsOne p between other → ComesTo p c other

-- A procedure calls itself, directly or by way of others.
abbrev pub CallsItself : ProgramForm → (procedure : ProcedureNo) → Type 0
CallsItself p procedure = ComesTo p (callee.Procedure procedure) (callee.Procedure procedure)

-- The test tells callees apart.
abbrev pub CalleesAreToldApart : Type 0
CalleesAreToldApart = (c other : Callee) → (is_callee c other ≡ true) ↔ (c ≡ other)

-- What comes to something comes to what that comes to.
abbrev pub ComingGoesOn : Type 0
ComingGoesOn = (p : ProgramForm) (a b c : Callee) → ComesTo p a b → ComesTo p b c → ComesTo p a c

-- What the code keeps is the graph of calls of a program: none does itself what is asked for.
pub record KnowsCalls (rounds : Rounds) (p : ProgramForm) : Type 0 where
  pub procedures : rounds.nodes.procedures ≡ length p.bodies
  pub types : rounds.nodes.types ≡ length p.types
  pub graph : IsGraph p deed.Calls rounds.nodes.procedures rounds.nodes.types (node_count rounds.nodes.procedures rounds.nodes.types)
      (graph_of rounds.calls.callers.items) []
