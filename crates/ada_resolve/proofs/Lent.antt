-- The declaration of a borrower is read as it is written.

use Rattle.std.proofs.Common.{◌≡◌, true, refl, ap, subst, ℕ}
use Rattle.std.specs.Prelude.{Option, Some}
use Rattle.std.specs.List.{slice_get}
use Rattle.ada_tree.specs.Names.{Ident}
use Rattle.ada_tree.specs.Expressions.{path_expression, RightTree}
use Rattle.ada_program.specs.declared.program.TypeNo.{TypeNo}
use Rattle.ada_program.specs.declared.program.VariableKind.{VariableKind}
use Rattle.ada_program.specs.declared.program.VariableKind.TheVariants as variable
use Rattle.ada_program.specs.Form.{value_of}
use Rattle.ada_program.specs.WellFormed.{value_access}
use Rattle.ada_resolve.specs.Known.{Known}
use Rattle.ada_resolve.specs.Naming.{Context, IsRecordNamed}
use Rattle.ada_resolve.specs.Paths.{Meant}
use Rattle.ada_resolve.specs.Reading.{IsBorrowerRead}
use Rattle.ada_resolve.specs.Types.{record_remark}
use Rattle.ada_resolve.proofs.WellFormed.Remarks.{Quiet}
use Rattle.ada_resolve.proofs.WellFormed.Types as types
use Rattle.ada_resolve.proofs.WellFormed.Types.{found_record}
use Rattle.ada_resolve.proofs.WellFormed.Borrowers.{Lent}
use Rattle.ada_resolve.proofs.WellFormed.Forms.{record_stays}
use Rattle.ada_resolve.proofs.WellFormed.Growing.{path_stays}
use Rattle.ada_resolve.proofs.Agreeing.{Readable}
use Rattle.ada_resolve.proofs.Reading.{MeantRead, path_read, type_designated}
use Rattle.ada_resolve.proofs.Written.{FoundRecord, record_read}

-- a record type that a name stands for is there in the program, where the types have ended
record_there : (k : Known) (p : Context) (name : Ident) (t : TypeNo) → Readable k p → FoundRecord k p name (Some t) → types.IsRecordNamed k.types name.text (Some t) → IsRecordNamed p name.text t.0
record_there k p name t w found there =
    let last = record_stays k.types p.types w.ahead.types t.0 name.text there.0 there.1 there.2 there.3 in (found.1, there.0, there.1, last.0, last.1)

-- `B : access T := P;`
pub borrower_read : (k : Known) (p : Context) (name designated : Ident) (initial : Option RightTree) (x : ℕ) → Readable k p → Quiet (record_remark k designated) → (r : Lent k designated initial) → slice_get p.variables x ≡ Some (record { name = name.text; spot = name.spot; kind = variable.Access r.access; borrows = true }) → IsBorrowerRead p name designated initial x (value_of r.path)
borrower_read k p name designated initial x w q r there = record {
  access = r.access;
  t = r.of.0;
  tree = r.tree;
  path = r.path;
  there = there;
  written = r.written;
  starts = refl;
  lent = subst (λ (m : Meant). MeantRead p (path_expression r.tree) m) r.meant (path_read k p r.tree w r.fine);
  typed = ap (λ (o : Option VariableKind). value_access o)
      (path_stays k.types p.types k.variables p.variables w.ahead.types w.ahead.variables r.path (variable.Access r.access) r.typed);
  designates = type_designated k p r.access.0 r.of.0 w.ahead r.designates;
  record_named = record_there k p designated r.of w
      (subst (λ (o : Option TypeNo). FoundRecord k p designated o) r.named (record_read k p designated w.fits w.agrees q))
      (subst (λ (o : Option TypeNo). types.IsRecordNamed k.types designated.text o) r.named (found_record k designated w.fits));
}
