-- Nothing does a deed that no body does itself.

use Rattle.std.proofs.Common.{◌≡◌, ℕ, zero, suc, Bool, true, false, ◌||◌, List, [], ◌∷◌, refl, sym, ◌∙◌}
use Rattle.std.proofs.lemmas.Bool.{or_parts, or_from}
use Rattle.std.specs.List.{list_any, slice_get}
use Rattle.std.specs.Prelude.{Option, Some, None}
use Rattle.ada_deeds.specs.Begins.{nothing_does, begins_in, begins}
use Rattle.ada_deeds.specs.Does.{called_does, operations_do, Does}
use Rattle.ada_deeds.specs.Forms.{overriding, overriding_does, own_does, part_does, components_do}
use Rattle.ada_deeds.specs.Graph.{MarksDoers}
use Rattle.ada_deeds.specs.Laws.{IsClosed}
use Rattle.ada_deeds.specs.View.{does_found}
use Rattle.ada_deeds.specs.declared.deed.Callee.{Callee}
use Rattle.ada_deeds.specs.declared.deed.Callee.TheVariants as callee
use Rattle.ada_deeds.specs.declared.deed.Deed.{Deed}
use Rattle.ada_deeds.specs.declared.deed.Deed.TheVariants as deed
use Rattle.ada_deeds.specs.declared.deed.Operation.{Operation}
use Rattle.ada_deeds.specs.declared.found.Found.{Found}
use Rattle.ada_deeds.proofs.More.{least}
use Rattle.ada_program.specs.declared.program.Exception.{Exception}
use Rattle.ada_program.specs.declared.program.Finalization.{Finalization}
use Rattle.ada_program.specs.declared.program.PartKind.{PartKind}
use Rattle.ada_program.specs.declared.program.PartKind.TheVariants as part
use Rattle.ada_program.specs.declared.program.ProcedureNo.{ProcedureNo}
use Rattle.ada_program.specs.ProgramForm.{PartForm, TypeForm, record_of, access_to, object_of, BodyForm, ProgramForm}

-- Where nothing that is called does a deed, what is found does it by itself alone.

none_of : (cs : List Callee) → list_any nothing_does cs ≡ false
none_of [] = refl
none_of (c ∷ cs) = none_of cs

or_none : (b c : Bool) → c ≡ false → (b || c) ≡ b
or_none true c none = refl
or_none false c none = none

pub itself_alone : (f : Found) (e : Exception) → does_found f (deed.Raises e) nothing_does ≡ f.itself
unfolding does_found
itself_alone f e = or_none f.itself (list_any nothing_does f.callees.items) (none_of f.callees.items)

-- No operation of controlled parts does a deed itself.

overriding_none : (procedure : Option ProcedureNo) → overriding_does nothing_does procedure ≡ false
overriding_none None = refl
overriding_none (Some procedure) = refl

own_none : (o : Operation) (f : Option Finalization) → own_does nothing_does o f ≡ false
own_none o None = refl
own_none o (Some f) = overriding_none (overriding o f.operations)

part_none : (o : Operation) (kind : PartKind) → part_does nothing_does o kind ≡ false
part_none o (part.Elementary kind) = refl
part_none o (part.Record t) = refl
part_none o part.Parent = refl

components_none : (o : Operation) (ps : List PartForm) → components_do nothing_does o ps ≡ false
components_none o [] = refl
components_none o (c ∷ cs) = or_from (part_does nothing_does o c.kind) (components_do nothing_does o cs) (part_none o c.kind) (components_none o cs)

operations_none : (o : Operation) (t : Option TypeForm) → operations_do nothing_does o t ≡ false
operations_none o None = refl
operations_none o (Some (record_of name parts components finalization)) =
    or_from (own_does nothing_does o finalization) (components_do nothing_does o parts) (own_none o finalization) (components_none o parts)
operations_none o (Some (access_to name designated pool)) = refl
operations_none o (Some (object_of record_type)) = refl

-- No body does, where none of the bodies does.

called_none : (types : List TypeForm) (d : Deed) (bs : List BodyForm) (n : ℕ) → list_any (begins_in types d) bs ≡ false →
    called_does types nothing_does d (slice_get bs n) ≡ false
called_none types d [] n none = refl
called_none types d (b ∷ bs) zero none = (or_parts (begins_in types d b) (list_any (begins_in types d) bs) none).0
called_none types d (b ∷ bs) (suc n) none = called_none types d bs n (or_parts (begins_in types d b) (list_any (begins_in types d) bs) none).1

-- So the empty set is closed under calls, and nothing does the deed.

closed : (p : ProgramForm) (d : Deed) → begins p d ≡ false → IsClosed p d nothing_does
closed p d none (callee.Procedure procedure) h = sym (called_none p.types d p.bodies procedure.0 none) ∙ h
closed p d none (callee.Parts o t) h = sym (operations_none o (slice_get p.types t.0)) ∙ h

does_not : (p : ProgramForm) (d : Deed) → begins p d ≡ false → (c : Callee) → ¬ Does p d c
does_not p d none c h = let yes : false ≡ true = least p d nothing_does (closed p d none) c h in absurd (cc yes)

-- No mark is wanted.
pub none_is_marked : (p : ProgramForm) (d : Deed) (procedures types : ℕ) → begins p d ≡ false → MarksDoers p d procedures types []
none_is_marked p d procedures types none = record {
  marked = λ c n at h. absurd (does_not p d none c h);
  only = λ c n at h. absurd (cc h);
}
