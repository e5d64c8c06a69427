-- A borrower with which nothing is wrong borrows the path of an access value at first, whose type designates the record type that is named.

use Rattle.std.proofs.Common.{◌≡◌, ◌∙◌, true, refl, ap, subst}
use Rattle.std.specs.Prelude.{Option, Some, None}
use Rattle.ada_text.specs.declared.spot.Spot.{Spot}
use Rattle.ada_tree.specs.Names.{Ident, PathTree}
use Rattle.ada_tree.specs.Expressions.{path_expression, RightTree, expression_right}
use Rattle.ada_program.specs.Form.{PathForm, value_of}
use Rattle.ada_program.specs.WellFormed as fits
use Rattle.ada_program.specs.declared.program.TypeNo.{TypeNo}
use Rattle.ada_program.specs.declared.program.VariableKind.TheVariants as variable
use Rattle.ada_resolve.specs.declared.fault.NameRule.TheVariants.{WrongType}
use Rattle.ada_resolve.specs.declared.scope.Entity.{Entity}
use Rattle.ada_resolve.specs.declared.scope.Entity.TheVariants as entity
use Rattle.ada_resolve.specs.Borrowers.{lender_in, lender_wanted, lender_remark, borrower_remark, borrower_created, borrower_known}
use Rattle.ada_resolve.specs.Expressions.{expression_remark}
use Rattle.ada_resolve.specs.Known.{Known, parts, visible}
use Rattle.ada_resolve.specs.Objects.{variable_created}
use Rattle.ada_resolve.specs.Paths.{Meant, access_value, lent_value, path_meant, path_remark, unknown}
use Rattle.ada_resolve.specs.Types.{designates, record_in, record_found, record_remark, record_wanted}
use Rattle.ada_resolve.proofs.WellFormed.Remarks.{Quiet, quiet_unless}
use Rattle.ada_resolve.proofs.WellFormed.Names.{PartsFit}
use Rattle.ada_resolve.proofs.WellFormed.Meanings.{MeantFits, path_fits}
use Rattle.ada_resolve.proofs.WellFormed.Values.{access_designates}

-- the record type of a name is known
record_in_known : (o : Option Entity) (name : Ident) → Quiet (record_wanted o name) → (t : TypeNo) × (record_in o ≡ Some t)
record_in_known (Some (entity.Incomplete t)) name q = (t, refl)
record_in_known (Some (entity.Record t size)) name q = (t, refl)
record_in_known (Some e) name q = absurd q
record_in_known None name q = absurd q

record_known : (k : Known) (name : Ident) → Quiet (record_remark k name) → (t : TypeNo) × (record_found k name ≡ Some t)
unfolding record_found record_remark
record_known k name q = record_in_known (visible k name.text) name q

-- what is borrowed at first: a path, an access value whose type designates the record type
pub record Lent (k : Known) (designated : Ident) (initial : Option RightTree) : Type 0 where
  pub tree : PathTree
  pub written : initial ≡ Some (expression_right (path_expression tree))
  pub fine : Quiet (path_remark k tree)
  pub path : PathForm
  pub access : TypeNo
  pub meant : path_meant k tree ≡ access_value path access
  pub typed : fits.path_kind k.types k.variables path ≡ Some (variable.Access access)
  pub of : TypeNo
  pub named : record_found k designated ≡ Some of
  pub designates : fits.designated_type k.types access.0 ≡ Some of.0

lent_by : (k : Known) (designated : Ident) (tree : PathTree) (of : TypeNo) (spot : Spot) → record_found k designated ≡ Some of → Quiet (path_remark k tree) → (m : Meant) → path_meant k tree ≡ m → MeantFits k.types k.variables m → Quiet (lender_wanted k.types (Some of) m spot) → Lent k designated (Some (expression_right (path_expression tree)))
lent_by k designated tree of spot named q (access_value path t) is f g = record {
  tree = tree;
  written = refl;
  fine = q;
  path = path;
  access = t;
  meant = is;
  typed = f;
  of = of;
  named = named;
  designates = access_designates k.types t.0 of.0 (quiet_unless (designates k.types t.0 of.0) spot WrongType g);
}
lent_by k designated tree of spot named q unknown is f g = absurd f
lent_by k designated tree of spot named q (lent_value t) is f g = absurd f
lent_by k designated tree of spot named q m is f g = absurd g

lent_at : (k : Known) (name designated : Ident) (of : TypeNo) (initial : Option RightTree) → record_found k designated ≡ Some of → PartsFit k.types k.variables (parts k) → Quiet (lender_remark k name (Some of) initial) → Lent k designated initial
unfolding expression_remark
lent_at k name designated of (Some (expression_right (path_expression tree))) named w q =
    lent_by k designated tree of tree.root.spot named q.0.1 (path_meant k tree) refl (path_fits k tree w q.0.1) q.1
lent_at k name designated of (Some other) named w q = absurd q.1
lent_at k name designated of None named w q = absurd q

pub lent_of : (k : Known) (name designated : Ident) (initial : Option RightTree) → PartsFit k.types k.variables (parts k) → Quiet (borrower_remark k name designated initial) → Lent k designated initial
lent_of k name designated initial w q =
    let of = record_known k designated q.1.1.0 in
    lent_at k name designated of.0 initial of.1 w (subst (λ (o : Option TypeNo). Quiet (lender_remark k name o initial)) of.1 q.1.1.1)

-- its type is an access type
pub lent_kind : (k : Known) (designated : Ident) (initial : Option RightTree) → (r : Lent k designated initial) → fits.variable_kind_fits k.types (variable.Access r.access) ≡ true
lent_kind k designated initial r = rw (r.designates) refl

-- the borrower is a variable of that type, which is created with the path
pub borrower_is : (k : Known) (name designated : Ident) (initial : Option RightTree) → (r : Lent k designated initial) → borrower_known k name initial ≡ variable_created k name true (variable.Access r.access) (value_of r.path)
borrower_is k name designated initial r =
    ap (λ (o : Option RightTree). borrower_known k name o) r.written ∙ ap (λ (m : Meant). borrower_created k name (lender_in m)) r.meant
