-- What stays of what is known in the tables of the program, as more is declared.

use Rattle.std.proofs.Common.{◌≡◌, ◌∙◌, ℕ, List, refl, ap}
use Rattle.std.specs.Prelude.{Option, Some, None}
use Rattle.std.specs.List.{slice_get}
use Rattle.ada_program.specs.ProgramForm.{PoolForm, TypeForm, access_to, VariableForm}
use Rattle.ada_resolve.specs.Clauses.{pool_of}
use Rattle.ada_resolve.specs.Known.{Known}
use Rattle.ada_resolve.specs.Paths.{name_of_type}
use Rattle.ada_resolve.specs.Naming.{Context}
use Rattle.ada_resolve.proofs.Standing.{Sound, IsSettled, Keeps, name_bare}
use Rattle.ada_resolve.proofs.WellFormed.Forms.{forms, same_at}
use Rattle.ada_resolve.proofs.Agreeing.{Ahead}

-- the type of a number has the name, whatever type it is
abbrev pub HasName : List TypeForm → List ℕ → ℕ → Type 0
HasName types text t = name_of_type (slice_get types t) ≡ Some text

pub has_name : (types : List TypeForm) (text : List ℕ) (t : ℕ) (form : TypeForm) → slice_get types t ≡ Some form → name_of_type (Some form) ≡ Some text → HasName types text t
has_name types text t form there same = ap (λ (o : Option TypeForm). name_of_type o) there ∙ same

-- what stays in the tables of the program
pub record Lasts (k : Known) (p : Context) : Type 0 where
  pub accesses : (t : ℕ) (name : List ℕ) (d : ℕ) → slice_get (forms k.types) t ≡ Some (access_to name d None) → slice_get (forms p.types) t ≡ Some (access_to name d None)
  pub placed : (t n : ℕ) → pool_of k.types t ≡ Some n → pool_of p.types t ≡ Some n
  pub pools : (n : ℕ) (pool : PoolForm) → slice_get k.pools n ≡ Some pool → slice_get p.pools n ≡ Some pool
  pub type_names : (t : ℕ) (text : List ℕ) → HasName k.types text t → HasName p.types text t
  pub settled : (t : ℕ) (form : TypeForm) → slice_get (forms k.types) t ≡ Some form → IsSettled k t → slice_get (forms p.types) t ≡ Some form
  pub variables : (x : ℕ) (v : VariableForm) → slice_get k.variables x ≡ Some v → slice_get p.variables x ≡ Some v
  pub exceptions : (e : ℕ) (text : List ℕ) → slice_get k.exceptions e ≡ Some text → slice_get p.exceptions e ≡ Some text

pub lasts_ahead : (k : Known) (p : Context) → Ahead k p → Lasts k p
lasts_ahead k p w = record {
  accesses = λ t name d is. w.types t (access_to name d None) is;
  placed = w.placed;
  pools = w.pools;
  type_names = λ t text is. by_form t text (slice_get k.types t) refl is;
  settled = λ t form is done. w.types t form is;
  variables = w.variables;
  exceptions = w.exceptions;
}
  where
    by_form : (t : ℕ) (text : List ℕ) (o : Option TypeForm) → slice_get k.types t ≡ o → name_of_type o ≡ Some text → HasName p.types text t
    by_form t text None there is = absurd (cc is)
    by_form t text (Some form) there is = same_at k.types p.types w.types (λ o. name_of_type o) name_bare t form there ∙ is

pub lasts_on : (k m : Known) (p : Context) → Sound k → Keeps k m → Lasts m p → Lasts k p
lasts_on k m p s f g = record {
  accesses = λ t name d is. g.accesses t name d (f.accesses t name d is);
  placed = λ t n is. g.placed t n (f.placed t n is);
  pools = λ n x is. g.pools n x (f.pools n x is);
  type_names = λ t text is. g.type_names t text (f.type_names t text is);
  settled = λ t form is done. let so = f.types t form is done in g.settled t form so.0 so.1;
  variables = λ x v is. g.variables x v (f.variables x v is);
  exceptions = λ e text is. g.exceptions e text (f.exceptions e text is);
}
