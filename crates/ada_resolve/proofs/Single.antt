-- Declarations with no others in them.

use Rattle.std.proofs.Common.{◌≡◌, ◌⊎◌, inl, inr, refl}
use Rattle.ada_tree.specs.StatementView.{declaration_of, exception_view, constant_view, pool_view, object_view, borrower_view, incomplete_view, access_view, record_view, derived_view, attribute_clause_view, specification_view, instance_view}
use Rattle.ada_tree.specs.declared.declarations.Declaration.{Declaration}
use Rattle.ada_tree.specs.declared.declarations.Declaration.TheVariants as declaration
use Rattle.ada_resolve.specs.Resolution.{At, declaration_told, single_told}

-- a declaration with no others in it
abbrev pub IsSingle : Declaration → Type 0
IsSingle d =
    ((a : _) × (d ≡ declaration.Exception a)) ⊎
    (((a : _) × (b : _) × (d ≡ declaration.Constant a b)) ⊎
    (((a : _) × (b : _) × (c : _) × (e : _) × (d ≡ declaration.Pool a b c e)) ⊎
    (((a : _) × (b : _) × (c : _) × (d ≡ declaration.Object a b c)) ⊎
    (((a : _) × (b : _) × (c : _) × (d ≡ declaration.Borrower a b c)) ⊎
    (((a : _) × (b : _) × (d ≡ declaration.IncompleteType a b)) ⊎
    (((a : _) × (b : _) × (c : _) × (e : _) × (d ≡ declaration.AccessType a b c e)) ⊎
    (((a : _) × (b : _) × (c : _) × (d ≡ declaration.RecordType a b c)) ⊎
    (((a : _) × (b : _) × (c : _) × (e : _) × (d ≡ declaration.DerivedType a b c e)) ⊎
    (((a : _) × (b : _) × (c : _) × (e : _) × (d ≡ declaration.Clause a b c e)) ⊎
    (((a : _) × (d ≡ declaration.Specification a)) ⊎
    ((a : _) × (b : _) × (c : _) × (e : _) × (f : _) × (d ≡ declaration.Instance a b c e f))))))))))))

-- what comes of it
pub single_so : (d : Declaration) (at : At) → IsSingle d → declaration_told (declaration_of d) at ≡ single_told (declaration_of d) at
single_so d at (inl (a, is)) = rw (is, exception_view a) refl
single_so d at (inr (inl (a, b, is))) = rw (is, constant_view a b) refl
single_so d at (inr (inr (inl (a, b, c, e, is)))) = rw (is, pool_view a b c e) refl
single_so d at (inr (inr (inr (inl (a, b, c, is))))) = rw (is, object_view a b c) refl
single_so d at (inr (inr (inr (inr (inl (a, b, c, is)))))) = rw (is, borrower_view a b c) refl
single_so d at (inr (inr (inr (inr (inr (inl (a, b, is))))))) = rw (is, incomplete_view a b) refl
single_so d at (inr (inr (inr (inr (inr (inr (inl (a, b, c, e, is)))))))) = rw (is, access_view a b c e) refl
single_so d at (inr (inr (inr (inr (inr (inr (inr (inl (a, b, c, is))))))))) = rw (is, record_view a b c) refl
single_so d at (inr (inr (inr (inr (inr (inr (inr (inr (inl (a, b, c, e, is)))))))))) = rw (is, derived_view a b c e) refl
single_so d at (inr (inr (inr (inr (inr (inr (inr (inr (inr (inl (a, b, c, e, is))))))))))) = rw (is, attribute_clause_view a b c e) refl
single_so d at (inr (inr (inr (inr (inr (inr (inr (inr (inr (inr (inl (a, is)))))))))))) = rw (is, specification_view a) refl
single_so d at (inr (inr (inr (inr (inr (inr (inr (inr (inr (inr (inr (a, b, c, e, f, is)))))))))))) = rw (is, instance_view a b c e f) refl
