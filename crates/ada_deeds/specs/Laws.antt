-- Laws of what does a deed.

use Rattle.std.specs.Prelude.{◌≡◌, ◌⊎◌, ℕ, Bool, true, Some}
use Rattle.std.specs.List.{slice_get}
use Rattle.ada_deeds.specs.Aggregates.{aggregates_suit}
use Rattle.ada_deeds.specs.Does.{callee_does, is_deed_of, Does}
use Rattle.ada_deeds.specs.Implicit.{implicit_of}
use Rattle.ada_deeds.specs.declared.deed.Callee.{Callee}
use Rattle.ada_deeds.specs.declared.deed.Callee.TheVariants as callee
use Rattle.ada_deeds.specs.declared.deed.Deed.{Deed}
use Rattle.ada_deeds.specs.declared.deed.Deed.TheVariants.{Raises, Frees}
use Rattle.ada_effects.specs.Effects.{call_raises, call_frees, effects_of}
use Rattle.ada_program.specs.declared.program.Exception.{Exception}
use Rattle.ada_program.specs.declared.program.Finalization.{Finalization}
use Rattle.ada_program.specs.declared.program.ProcedureNo.{ProcedureNo}
use Rattle.ada_program.specs.Handling.{is_same}
use Rattle.ada_program.specs.ProgramForm.{ProgramForm}
use Rattle.ada_program.specs.WellFormed.{finalization_of, IsWellFormed}

-- Each of some callees is one of others.
abbrev pub IsWithin : (some others : Callee → Bool) → Type 0
IsWithin some others = (c : Callee) → some c ≡ true → others c ≡ true

-- Where more is known to do a deed, more does it.
abbrev pub MoreDoMore : Type 0
MoreDoMore = (p : ProgramForm) (d : Deed) (some others : Callee → Bool) → IsWithin some others →
    (c : Callee) → callee_does p some d c ≡ true → callee_does p others d c ≡ true

-- What calls nothing but what does a deed of the program, and does it then, does it.
abbrev pub IsClosedUnderCalls : Type 0
IsClosedUnderCalls = (p : ProgramForm) (d : Deed) → is_deed_of p d ≡ true → (known : Callee → Bool) → ((c : Callee) → known c ≡ true → Does p d c) →
    (c : Callee) → callee_does p known d c ≡ true → Does p d c

-- A set has each callee that does a deed where this is known of the set.
abbrev pub IsClosed : ProgramForm → Deed → (set : Callee → Bool) → Type 0
IsClosed p d set = (c : Callee) → callee_does p set d c ≡ true → set c ≡ true

-- What does a deed is in each such set.
abbrev pub IsTheLeast : Type 0
IsTheLeast = (p : ProgramForm) (d : Deed) (set : Callee → Bool) → IsClosed p d set → (c : Callee) → Does p d c → set c ≡ true

-- An exception comes out of a procedure.
abbrev pub DoesRaise : ProgramForm → (procedure : ℕ) → Exception → Type 0
DoesRaise p procedure e = Does p (Raises e) (callee.Procedure (record { 0 = procedure }))

-- A procedure frees objects of an access type.
abbrev pub DoesFree : ProgramForm → (procedure access : ℕ) → Type 0
DoesFree p procedure t = Does p (Frees (record { 0 = t })) (callee.Procedure (record { 0 = procedure }))

-- Do effects know of the calls of a procedure that they may raise an exception?
abbrev pub known_to_raise : ProgramForm → (procedure : ℕ) → Exception → Bool
known_to_raise p procedure e = call_raises (slice_get (effects_of (implicit_of p) p).calls procedure) (is_same e)

-- Do they know that these may free objects of an access type?
abbrev pub known_to_free : ProgramForm → (procedure access : ℕ) → Bool
known_to_free p procedure t = call_frees (slice_get (effects_of (implicit_of p) p).calls procedure) t

-- What is known of the calls of a procedure is done: an exception that they may raise comes out of it.
abbrev pub RaisesAreDone : Type 0
RaisesAreDone = (p : ProgramForm) → IsWellFormed p → (procedure : ℕ) (e : Exception) → known_to_raise p procedure e ≡ true → DoesRaise p procedure e

-- So it is with Frees: objects of an access type that they may free are freed by it.
abbrev pub FreesAreDone : Type 0
FreesAreDone = (p : ProgramForm) → IsWellFormed p → (procedure access : ℕ) → known_to_free p procedure access ≡ true → DoesFree p procedure access

-- An exception comes out of no procedure that overrides Adjust or Finalize of a type (7.6, 7.6.1).
abbrev pub KeepsIn : ProgramForm → Exception → Type 0
KeepsIn p e = (t : ℕ) (f : Finalization) (procedure : ProcedureNo) → finalization_of p.types t ≡ Some f →
    (f.operations.adjust ≡ Some procedure) ⊎ (f.operations.finalize ≡ Some procedure) → ¬ DoesRaise p procedure.0 e

-- Conversely, an exception that comes out of a procedure is known, where it comes out of no Adjust and no Finalize: effects leave out what these raise where a
-- record is copied, gets another value or ends.
abbrev pub RaisesAreKnown : Type 0
RaisesAreKnown = (p : ProgramForm) → IsWellFormed p → (e : Exception) → KeepsIn p e →
    (procedure : ℕ) → DoesRaise p procedure e → known_to_raise p procedure e ≡ true

-- So it is with Frees, where no aggregate gives a record a part which its type has not: effects know what is adjusted by the type of the whole record.
abbrev pub FreesAreKnown : Type 0
FreesAreKnown = (p : ProgramForm) → IsWellFormed p → aggregates_suit p ≡ true →
    (procedure access : ℕ) → DoesFree p procedure access → known_to_free p procedure access ≡ true
