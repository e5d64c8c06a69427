-- What is known at a place, and what the place has bound: each name is bound to what it stands for.

use Rattle.std.proofs.Common.{◌≡◌, ◌∙◌, ℕ, ◌+◌, Bool, true, false, cond, List, [], ◌∷◌, ◌++◌, length, length-append, refl, sym, ap, subst}
use Rattle.std.specs.Prelude.{Option, Some, None, bytes_eq, codes, is_some}
use Rattle.std.specs.List.{slice_get}
use Rattle.ada_tree.specs.Names.{Ident}
use Rattle.ada_program.specs.declared.program.Exception.TheVariants as exception
use Rattle.ada_program.specs.declared.program.VariableKind.TheVariants as variable
use Rattle.ada_program.specs.declared.program.VariableNo.{VariableNo}
use Rattle.ada_program.specs.ProgramForm.{PoolForm, TypeForm, VariableForm, BodyForm}
use Rattle.ada_program.specs.declared.program.VariableKind.{VariableKind}
use Rattle.ada_resolve.specs.declared.fault.NameRule.TheVariants.{DeclaredTwice}
use Rattle.ada_resolve.specs.declared.library.Withs.{Withs}
use Rattle.ada_resolve.specs.declared.primitives.Operation.{Operation}
use Rattle.ada_resolve.specs.declared.primitives.Operation.TheVariants.{Initialize, Adjust, Finalize}
use Rattle.ada_resolve.specs.Instances.{is_among}
use Rattle.ada_resolve.specs.Primitives.{formal_specified, overrider, specified_for}
use Rattle.ada_resolve.specs.declared.scope.Entity.{Entity}
use Rattle.ada_resolve.specs.declared.scope.Entity.TheVariants as entity
use Rattle.ada_resolve.specs.Clauses.{pool_of}
use Rattle.ada_resolve.specs.Known.{Known, Named, Part, Specifications, no_specifications, named, entered, first_named, from_part, named_in, inner_first, outermost, unit_named, visible, parts, with_part, next_variable}
use Rattle.ada_resolve.specs.Library.{predefined, is_library_root, is_taken}
use Rattle.ada_resolve.specs.Remark.{wrong_if}
use Rattle.ada_resolve.specs.Resolution.{with_parameter}
use Rattle.ada_resolve.specs.Naming.{Context, Place, Binding, Meaning, an_incomplete_type, a_type, a_number, an_exception, a_pool, an_instance, a_variable, a_parameter, a_procedure, a_procedure_around, an_outer_object, meaning_among, meaning_at, is_one_of, IsBound, truth_name, IsPredefined, the_integers, the_booleans, a_truth_value, the_constraint_error, the_program_error, the_storage_error, under_ada, under_system, the_pools, the_input}
use Rattle.ada_resolve.specs.Reading.{inside, behind, with_new_constant, formal_among, procedure_among}
use Rattle.ada_resolve.proofs.WellFormed.Forms.{forms}
use Rattle.ada_resolve.proofs.WellFormed.Names.{PartsFit, first_of_two, named_entered, text_same, unit_only}
use Rattle.ada_resolve.proofs.WellFormed.Remarks.{Quiet, quiet_if}

-- what the name of a declared entity is bound to
abbrev pub bound_to : Entity → Option Meaning
bound_to (entity.Incomplete t) = Some (an_incomplete_type t.0)
bound_to (entity.Record t size) = Some (a_type t.0)
bound_to (entity.Access t) = Some (a_type t.0)
bound_to (entity.Number n) = Some (a_number n)
bound_to (entity.Exception (exception.Declared n)) = Some (an_exception n.0)
bound_to (entity.Pool n) = Some (a_pool n.0)
bound_to (entity.Instance t) = Some (an_instance t.0)
bound_to (entity.Variable x kind) = Some (a_variable x.0)
bound_to (entity.Parameter x kind) = Some (a_parameter x.0)
bound_to (entity.Callable n) = Some (a_procedure n.0)
bound_to entity.Procedure = Some a_procedure_around
bound_to (entity.Outer kind role) = Some an_outer_object
bound_to e = None

-- a name is bound to what it stands for
abbrev pub Stands : Option Entity → Option Meaning → Type 0
Stands None m = m ≡ None
Stands (Some e) m = (meaning : Meaning) × (bound_to e ≡ Some meaning) × (m ≡ Some meaning)

-- what is known, and what is bound
pub record Agrees (k : Known) (place : Place) : Type 0 where
  pub here : (text : List ℕ) → Stands (named text k.here.names) (meaning_among text place.here)
  pub outer : (text : List ℕ) → Stands (from_part k.here.around (named_in text k.outer)) (meaning_among text place.outer)
  pub first_type : place.first_type ≡ k.here.first_type
  pub types : place.types ≡ length k.types
  pub pools : place.pools ≡ length k.pools
  pub placed : (t : ℕ) → is_one_of t place.placed ≡ is_some (pool_of k.types t)
  pub bodies : place.bodies ≡ length k.bodies
  pub variables : place.variables ≡ length k.variables
  pub exceptions : place.exceptions ≡ length k.exceptions
  pub texts : place.texts ≡ length k.texts
  pub controlled : place.controlled ≡ k.controlled
  pub limited : (t : ℕ) → is_one_of t place.limited ≡ is_among t k.limited
  pub specified : (o : Operation) (t : ℕ) → formal_among o t place.specified ≡ formal_specified t (specified_for o k.here.specified)
  pub overridden : (o : Operation) (t : ℕ) → overrider o k.types t ≡ procedure_among o t place.overridden
  pub kept : place.keeps_operand ≡ k.here.keeps_operand

-- the tables of what is known are beginnings of those of the program, but that types may get pools
pub record Ahead (k : Known) (p : Context) : Type 0 where
  pub types : (t : ℕ) (form : TypeForm) → slice_get (forms k.types) t ≡ Some form → slice_get (forms p.types) t ≡ Some form
  pub placed : (t n : ℕ) → pool_of k.types t ≡ Some n → pool_of p.types t ≡ Some n
  pub pools : (n : ℕ) (pool : PoolForm) → slice_get k.pools n ≡ Some pool → slice_get p.pools n ≡ Some pool
  pub variables : (x : ℕ) (v : VariableForm) → slice_get k.variables x ≡ Some v → slice_get p.variables x ≡ Some v
  pub exceptions : (e : ℕ) (text : List ℕ) → slice_get k.exceptions e ≡ Some text → slice_get p.exceptions e ≡ Some text
  pub texts : (n : ℕ) (text : List ℕ) → slice_get k.texts n ≡ Some text → slice_get p.texts n ≡ Some text
  pub bodies : (n : ℕ) (b : BodyForm) → slice_get k.bodies n ≡ Some b → slice_get p.bodies n ≡ Some b

-- what names are read by behind the types of a part
pub record Readable (k : Known) (p : Context) : Type 0 where
  pub fits : PartsFit k.types k.variables (parts k)
  pub agrees : Agrees k p.place
  pub ahead : Ahead k p

-- what is bound first among two lists
abbrev first_bound : Option Meaning → Option Meaning → Option Meaning
first_bound (Some m) other = Some m
first_bound None other = other

first_if : (b : Bool) (m : Meaning) (x y : Option Meaning) → cond b (Some m) (first_bound x y) ≡ first_bound (cond b (Some m) x) y
first_if true m x y = refl
first_if false m x y = refl

among_both : (text : List ℕ) (a b : List Binding) → meaning_among text (a ++ b) ≡ first_bound (meaning_among text a) (meaning_among text b)
among_both text [] b = refl
among_both text (x ∷ a) b =
    ap (λ (o : Option Meaning). cond (bytes_eq text x.text) (Some x.meaning) o) (among_both text a b) ∙
    first_if (bytes_eq text x.text) x.meaning (meaning_among text a) (meaning_among text b)

-- what the first of them binds to nothing is bound by the other
pub bound_behind : (text : List ℕ) (a b : List Binding) (m : Meaning) → meaning_among text a ≡ None → meaning_among text b ≡ Some m → meaning_among text (a ++ b) ≡ Some m
bound_behind text a b m none is = among_both text a b ∙ (ap (λ (o : Option Meaning). first_bound o (meaning_among text b)) none ∙ is)

stands_first : (own outer : Option Entity) (m n : Option Meaning) → Stands own m → Stands outer n → Stands (first_named own outer) (first_bound m n)
stands_first None outer m n s t = subst (λ (o : Option Meaning). Stands outer (first_bound o n)) (sym s) t
stands_first (Some e) outer m n s t = (s.0, s.1, ap (λ (o : Option Meaning). first_bound o n) s.2)

pub stands_among : (k : Known) (place : Place) → Agrees k place → (text : List ℕ) → Stands (named_in text (parts k)) (meaning_among text (place.here ++ place.outer))
stands_among k place w text =
    subst (λ (m : Option Meaning). Stands (named_in text (parts k)) m) (sym (among_both text place.here place.outer))
    (stands_first (named text k.here.names) (from_part k.here.around (named_in text k.outer)) (meaning_among text place.here) (meaning_among text place.outer) (w.here text) (w.outer text))

-- what is read of a name that stands for something
abbrev pub EntityRead : Context → List ℕ → Entity → Type 0
EntityRead p text entity.Integer = text ≡ codes "INTEGER"
EntityRead p text entity.Boolean = text ≡ codes "BOOLEAN"
EntityRead p text (entity.Truth b) = text ≡ truth_name b
EntityRead p text (entity.Number n) = IsBound p text (a_number n)
EntityRead p text (entity.Exception exception.ConstraintError) = text ≡ codes "CONSTRAINT_ERROR"
EntityRead p text (entity.Exception exception.ProgramError) = text ≡ codes "PROGRAM_ERROR"
EntityRead p text (entity.Exception exception.StorageError) = text ≡ codes "STORAGE_ERROR"
EntityRead p text (entity.Exception exception.EndError) = ⊥
EntityRead p text (entity.Exception (exception.Declared n)) = IsBound p text (an_exception n.0)
EntityRead p text entity.Procedure = Unit {0}
EntityRead p text entity.LibraryUnit = Unit {0}
EntityRead p text (entity.Incomplete t) = IsBound p text (an_incomplete_type t.0)
EntityRead p text (entity.Record t size) = IsBound p text (a_type t.0)
EntityRead p text (entity.Access t) = IsBound p text (a_type t.0)
EntityRead p text (entity.Pool n) = IsBound p text (a_pool n.0)
EntityRead p text (entity.Instance t) = IsBound p text (an_instance t.0)
EntityRead p text (entity.Variable x kind) = IsBound p text (a_variable x.0)
EntityRead p text (entity.Parameter x kind) = IsBound p text (a_parameter x.0)
EntityRead p text (entity.Callable n) = IsBound p text (a_procedure n.0)
EntityRead p text (entity.Outer kind role) = Unit {0}

-- what is predefined has its own name
standard_read : (p : Context) (text : List ℕ) (x : Entity) (a b c d f g h : Bool) → (a ≡ true → text ≡ codes "INTEGER") → (b ≡ true → text ≡ codes "BOOLEAN") → (c ≡ true → text ≡ codes "TRUE") → (d ≡ true → text ≡ codes "FALSE") → (f ≡ true → text ≡ codes "CONSTRAINT_ERROR") → (g ≡ true → text ≡ codes "PROGRAM_ERROR") → (h ≡ true → text ≡ codes "STORAGE_ERROR") → cond a (Some entity.Integer) (cond b (Some entity.Boolean) (cond c (Some (entity.Truth true)) (cond d (Some (entity.Truth false)) (cond f (Some (entity.Exception exception.ConstraintError)) (cond g (Some (entity.Exception exception.ProgramError)) (cond h (Some (entity.Exception exception.StorageError)) None)))))) ≡ Some x → EntityRead p text x
standard_read p text x true b c d f g h i j m n q r s e = let is : entity.Integer ≡ x = cc e in subst (λ (y : Entity). EntityRead p text y) is (i refl)
standard_read p text x false true c d f g h i j m n q r s e = let is : entity.Boolean ≡ x = cc e in subst (λ (y : Entity). EntityRead p text y) is (j refl)
standard_read p text x false false true d f g h i j m n q r s e = let is : entity.Truth true ≡ x = cc e in subst (λ (y : Entity). EntityRead p text y) is (m refl)
standard_read p text x false false false true f g h i j m n q r s e = let is : entity.Truth false ≡ x = cc e in subst (λ (y : Entity). EntityRead p text y) is (n refl)
standard_read p text x false false false false true g h i j m n q r s e = let is : entity.Exception exception.ConstraintError ≡ x = cc e in subst (λ (y : Entity). EntityRead p text y) is (q refl)
standard_read p text x false false false false false true h i j m n q r s e = let is : entity.Exception exception.ProgramError ≡ x = cc e in subst (λ (y : Entity). EntityRead p text y) is (r refl)
standard_read p text x false false false false false false true i j m n q r s e = let is : entity.Exception exception.StorageError ≡ x = cc e in subst (λ (y : Entity). EntityRead p text y) is (s refl)
standard_read p text x false false false false false false false i j m n q r s e = absurd (cc e)

predefined_read : (p : Context) (text : List ℕ) (x : Entity) → predefined text ≡ Some x → EntityRead p text x
unfolding predefined
predefined_read p text x e =
    standard_read p text x (bytes_eq text (codes "INTEGER")) (bytes_eq text (codes "BOOLEAN")) (bytes_eq text (codes "TRUE")) (bytes_eq text (codes "FALSE"))
    (bytes_eq text (codes "CONSTRAINT_ERROR")) (bytes_eq text (codes "PROGRAM_ERROR")) (bytes_eq text (codes "STORAGE_ERROR"))
    (text_same text (codes "INTEGER")) (text_same text (codes "BOOLEAN")) (text_same text (codes "TRUE")) (text_same text (codes "FALSE"))
    (text_same text (codes "CONSTRAINT_ERROR")) (text_same text (codes "PROGRAM_ERROR")) (text_same text (codes "STORAGE_ERROR")) e

-- a predefined name is declared nowhere
taken : (text : List ℕ) → IsPredefined text → is_taken text ≡ true
unfolding predefined is_library_root
taken text the_integers = refl
taken text the_booleans = refl
taken text (a_truth_value true) = refl
taken text (a_truth_value false) = refl
taken text the_constraint_error = refl
taken text the_program_error = refl
taken text the_storage_error = refl
taken text under_ada = refl
taken text under_system = refl
taken text the_pools = refl
taken text the_input = refl

pub not_predefined : (name : Ident) → Quiet (wrong_if (is_taken name.text) name.spot DeclaredTwice) → IsPredefined name.text → ⊥
not_predefined name q is =
    let on = taken name.text is in let off = quiet_if (is_taken name.text) name.spot DeclaredTwice q in cc (on, off)

-- what is declared is bound
bound_so : (p : Context) (text : List ℕ) (a b : Meaning) → Some a ≡ Some b → meaning_at p.place text ≡ Some b → IsBound p text a
bound_so p text a b same is = is ∙ sym same

declared_read : (p : Context) (text : List ℕ) (e : Entity) (m : Meaning) → bound_to e ≡ Some m → meaning_at p.place text ≡ Some m → EntityRead p text e
declared_read p text (entity.Incomplete t) m same is = bound_so p text (an_incomplete_type t.0) m same is
declared_read p text (entity.Record t size) m same is = bound_so p text (a_type t.0) m same is
declared_read p text (entity.Access t) m same is = bound_so p text (a_type t.0) m same is
declared_read p text (entity.Number n) m same is = bound_so p text (a_number n) m same is
declared_read p text (entity.Exception (exception.Declared n)) m same is = bound_so p text (an_exception n.0) m same is
declared_read p text (entity.Exception exception.ConstraintError) m same is = absurd (cc same)
declared_read p text (entity.Exception exception.ProgramError) m same is = absurd (cc same)
declared_read p text (entity.Exception exception.StorageError) m same is = absurd (cc same)
declared_read p text (entity.Exception exception.EndError) m same is = absurd (cc same)
declared_read p text (entity.Pool n) m same is = bound_so p text (a_pool n.0) m same is
declared_read p text (entity.Instance t) m same is = bound_so p text (an_instance t.0) m same is
declared_read p text (entity.Variable x kind) m same is = bound_so p text (a_variable x.0) m same is
declared_read p text (entity.Parameter x kind) m same is = bound_so p text (a_parameter x.0) m same is
declared_read p text (entity.Callable n) m same is = bound_so p text (a_procedure n.0) m same is
declared_read p text (entity.Outer kind role) m same is = tt
declared_read p text entity.Integer m same is = absurd (cc same)
declared_read p text entity.Boolean m same is = absurd (cc same)
declared_read p text (entity.Truth b) m same is = absurd (cc same)
declared_read p text entity.Procedure m same is = tt
declared_read p text entity.LibraryUnit m same is = absurd (cc same)

stands_read : (p : Context) (text : List ℕ) (e : Entity) → Stands (Some e) (meaning_at p.place text) → EntityRead p text e
stands_read p text e s = declared_read p text e s.0 s.1 s.2

inner_read : (p : Context) (withs : Withs) (text : List ℕ) (x : Entity) (own : Option Entity) (b : Bool) → Stands own (meaning_at p.place text) → inner_first own b (outermost withs text) ≡ Some x → EntityRead p text x
inner_read p withs text x (Some y) b s e = let is : y ≡ x = cc e in subst (λ (z : Entity). EntityRead p text z) is (stands_read p text y s)
inner_read p withs text x None true s e = let is : entity.Procedure ≡ x = cc e in subst (λ (z : Entity). EntityRead p text z) is tt
inner_read p withs text x None false s e =
    first_of_two (EntityRead p text) (predefined text) (unit_named withs text) x (predefined_read p text) (λ y. unit_only (EntityRead p text) withs text y tt) e

-- what is visible is read
pub visible_read : (k : Known) (p : Context) → Agrees k p.place → (text : List ℕ) (x : Entity) → visible k text ≡ Some x → EntityRead p text x
unfolding visible
visible_read k p w text x e = inner_read p k.withs text x (named_in text (parts k)) (bytes_eq text k.procedure) (stands_among k p.place w text) e

-- what is bound to a loop parameter stands for it
parameter_is : (e : Entity) (x : ℕ) → bound_to e ≡ Some (a_parameter x) → (n : VariableNo) × (kind : VariableKind) × (e ≡ entity.Parameter n kind)
parameter_is (entity.Parameter n kind) x same = (n, kind, refl)
parameter_is (entity.Callable n) x same = absurd (cc same)
parameter_is (entity.Outer kind role) x same = absurd (cc same)
parameter_is (entity.Variable n kind) x same = absurd (cc same)
parameter_is (entity.Incomplete t) x same = absurd (cc same)
parameter_is (entity.Record t size) x same = absurd (cc same)
parameter_is (entity.Access t) x same = absurd (cc same)
parameter_is (entity.Number n) x same = absurd (cc same)
parameter_is (entity.Exception (exception.Declared n)) x same = absurd (cc same)
parameter_is (entity.Exception exception.ConstraintError) x same = absurd (cc same)
parameter_is (entity.Exception exception.ProgramError) x same = absurd (cc same)
parameter_is (entity.Exception exception.StorageError) x same = absurd (cc same)
parameter_is (entity.Exception exception.EndError) x same = absurd (cc same)
parameter_is (entity.Pool n) x same = absurd (cc same)
parameter_is (entity.Instance t) x same = absurd (cc same)
parameter_is entity.Integer x same = absurd (cc same)
parameter_is entity.Boolean x same = absurd (cc same)
parameter_is (entity.Truth b) x same = absurd (cc same)
parameter_is entity.Procedure x same = absurd (cc same)
parameter_is entity.LibraryUnit x same = absurd (cc same)

parameter_named : (o : Option Entity) (m : Option Meaning) (x : ℕ) → Stands o m → m ≡ Some (a_parameter x) → (n : VariableNo) × (kind : VariableKind) × (o ≡ Some (entity.Parameter n kind))
parameter_named None m x s is = let no : None ≡ Some (a_parameter x) = sym s ∙ is in absurd (cc no)
parameter_named (Some e) m x s is = let n = parameter_is e x (s.1 ∙ (sym s.2 ∙ is)) in (n.0, n.1, ap (λ (v : Entity). Some v) n.2)

pub parameter_visible : (k : Known) (p : Context) → Agrees k p.place → (text : List ℕ) (x : ℕ) → IsBound p text (a_parameter x) → (n : VariableNo) × (kind : VariableKind) × (visible k text ≡ Some (entity.Parameter n kind))
unfolding visible
parameter_visible k p w text x is =
    let n = parameter_named (named_in text (parts k)) (meaning_at p.place text) x (stands_among k p.place w text) is in
    (n.0, n.1, ap (λ (o : Option Entity). inner_first o (bytes_eq text k.procedure) (outermost k.withs text)) n.2)

-- what is bound to a variable stands for it
variable_is : (e : Entity) (x : ℕ) → bound_to e ≡ Some (a_variable x) → (n : VariableNo) × (kind : VariableKind) × (e ≡ entity.Variable n kind) × (n.0 ≡ x)
variable_is (entity.Variable n kind) x same = (n, kind, refl, cc same)
variable_is (entity.Parameter n kind) x same = absurd (cc same)
variable_is (entity.Callable n) x same = absurd (cc same)
variable_is (entity.Outer kind role) x same = absurd (cc same)
variable_is (entity.Incomplete t) x same = absurd (cc same)
variable_is (entity.Record t size) x same = absurd (cc same)
variable_is (entity.Access t) x same = absurd (cc same)
variable_is (entity.Number n) x same = absurd (cc same)
variable_is (entity.Exception (exception.Declared n)) x same = absurd (cc same)
variable_is (entity.Exception exception.ConstraintError) x same = absurd (cc same)
variable_is (entity.Exception exception.ProgramError) x same = absurd (cc same)
variable_is (entity.Exception exception.StorageError) x same = absurd (cc same)
variable_is (entity.Exception exception.EndError) x same = absurd (cc same)
variable_is (entity.Pool n) x same = absurd (cc same)
variable_is (entity.Instance t) x same = absurd (cc same)
variable_is entity.Integer x same = absurd (cc same)
variable_is entity.Boolean x same = absurd (cc same)
variable_is (entity.Truth b) x same = absurd (cc same)
variable_is entity.Procedure x same = absurd (cc same)
variable_is entity.LibraryUnit x same = absurd (cc same)

variable_named : (o : Option Entity) (m : Option Meaning) (x : ℕ) → Stands o m → m ≡ Some (a_variable x) → (n : VariableNo) × (kind : VariableKind) × (o ≡ Some (entity.Variable n kind)) × (n.0 ≡ x)
variable_named None m x s is = let no : None ≡ Some (a_variable x) = sym s ∙ is in absurd (cc no)
variable_named (Some e) m x s is = let n = variable_is e x (s.1 ∙ (sym s.2 ∙ is)) in (n.0, n.1, ap (λ (v : Entity). Some v) n.2, n.3)

pub variable_visible : (k : Known) (p : Context) → Agrees k p.place → (text : List ℕ) (x : ℕ) → IsBound p text (a_variable x) → (n : VariableNo) × (kind : VariableKind) × (visible k text ≡ Some (entity.Variable n kind)) × (n.0 ≡ x)
unfolding visible
variable_visible k p w text x is =
    let n = variable_named (named_in text (parts k)) (meaning_at p.place text) x (stands_among k p.place w text) is in
    (n.0, n.1, ap (λ (o : Option Entity). inner_first o (bytes_eq text k.procedure) (outermost k.withs text)) n.2, n.3)

-- one more name
pub stands_more : (b : Bool) (e : Entity) (meaning : Meaning) (o : Option Entity) (m : Option Meaning) → bound_to e ≡ Some meaning → Stands o m → Stands (cond b (Some e) o) (cond b (Some meaning) m)
stands_more true e meaning o m own old = (meaning, own, refl)
stands_more false e meaning o m own old = old

pub stands_entered : (ns : List Named) (bs : List Binding) (name : Ident) (e : Entity) (meaning : Meaning) → bound_to e ≡ Some meaning → ((text : List ℕ) → Stands (named text ns) (meaning_among text bs)) → (text : List ℕ) → Stands (named text (entered name.text e ns)) (meaning_among text (record { text = name.text; meaning = meaning } ∷ bs))
stands_entered ns bs name e meaning own old text =
    subst (λ (o : Option Entity). Stands o (meaning_among text (record { text = name.text; meaning = meaning } ∷ bs))) (sym (named_entered ns name.text text e))
    (stands_more (bytes_eq text name.text) e meaning (named text ns) (meaning_among text bs) own (old text))

outer_same : (k m : Known) (place : Place) → m.here.around ≡ k.here.around → m.outer ≡ k.outer → Agrees k place → (text : List ℕ) → Stands (from_part m.here.around (named_in text m.outer)) (meaning_among text place.outer)
outer_same k m place around outer w text =
    subst (λ (a : Option (List VariableForm)). Stands (from_part a (named_in text m.outer)) (meaning_among text place.outer)) (sym around)
    (subst (λ (ps : List Part). Stands (from_part k.here.around (named_in text ps)) (meaning_among text place.outer)) (sym outer) (w.outer text))

-- what a part elaborates is no name
pub agrees_same : (k m : Known) (place : Place) → m.here.names ≡ k.here.names → m.here.first_type ≡ k.here.first_type → m.here.keeps_operand ≡ k.here.keeps_operand → m.here.around ≡ k.here.around → m.outer ≡ k.outer → length m.types ≡ length k.types → length m.bodies ≡ length k.bodies → length m.variables ≡ length k.variables → length m.exceptions ≡ length k.exceptions → length m.texts ≡ length k.texts → length m.pools ≡ length k.pools → ((t : ℕ) → pool_of m.types t ≡ pool_of k.types t) → m.controlled ≡ k.controlled → m.limited ≡ k.limited → m.here.specified ≡ k.here.specified → ((o : Operation) (t : ℕ) → overrider o m.types t ≡ overrider o k.types t) → Agrees k place → Agrees m place
agrees_same k m place names first kept around outer types bodies variables exceptions texts pools placed controlled limited specified overridden w = record {
  here = λ text. subst (λ (ns : List Named). Stands (named text ns) (meaning_among text place.here)) (sym names) (w.here text);
  outer = λ text. outer_same k m place around outer w text;
  bodies = w.bodies ∙ sym bodies;
  first_type = w.first_type ∙ sym first;
  types = w.types ∙ sym types;
  pools = w.pools ∙ sym pools;
  placed = λ t. w.placed t ∙ ap (λ (o : Option ℕ). is_some o) (sym (placed t));
  variables = w.variables ∙ sym variables;
  exceptions = w.exceptions ∙ sym exceptions;
  texts = w.texts ∙ sym texts;
  controlled = w.controlled ∙ sym controlled;
  limited = λ t. w.limited t ∙ ap (λ (ts : List ℕ). is_among t ts) (sym limited);
  specified = λ o t. w.specified o t ∙ ap (λ (ss : Specifications). formal_specified t (specified_for o ss)) (sym specified);
  overridden = λ o t. overridden o t ∙ w.overridden o t;
  kept = w.kept ∙ sym kept;
}

-- nothing is specified at first
pub none_specified : (o : Operation) (t : ℕ) → None ≡ formal_specified t (specified_for o no_specifications)
none_specified Initialize t = refl
none_specified Adjust t = refl
none_specified Finalize t = refl

-- an inner part begins
pub agrees_inside : (k : Known) (place : Place) → Agrees k place → Agrees (with_part k) (inside place)
agrees_inside k place w = record {
  here = λ text. refl;
  outer = stands_among k place w;
  first_type = w.types;
  types = w.types;
  pools = w.pools;
  placed = w.placed;
  bodies = w.bodies;
  variables = w.variables;
  exceptions = w.exceptions;
  texts = w.texts;
  controlled = w.controlled;
  limited = w.limited;
  specified = none_specified;
  overridden = w.overridden;
  kept = w.kept;
}

-- the part of a loop parameter
pub agrees_parameter : (k : Known) (place : Place) (name : Ident) → Agrees k place → Agrees (with_parameter name k) (with_new_constant name (inside place))
agrees_parameter k place name w = record {
  here = stands_entered [] [] name (entity.Parameter (next_variable k) variable.Integer) (a_parameter place.variables) (ap (λ (n : ℕ). Some (a_parameter n)) (sym w.variables)) (λ text. refl);
  outer = stands_among k place w;
  first_type = w.types;
  types = w.types;
  pools = w.pools;
  placed = w.placed;
  bodies = w.bodies;
  variables = ap (λ (n : ℕ). n + 1) w.variables ∙ sym (length-append k.variables (record { name = name.text; spot = name.spot; kind = variable.Integer; borrows = false } ∷ []));
  exceptions = w.exceptions;
  texts = w.texts;
  controlled = w.controlled;
  limited = w.limited;
  specified = none_specified;
  overridden = w.overridden;
  kept = w.kept;
}

-- an inner part ends
pub agrees_behind : (k m z : Known) (place end : Place) → z.here.names ≡ k.here.names → z.here.first_type ≡ k.here.first_type → z.here.keeps_operand ≡ k.here.keeps_operand → z.here.around ≡ k.here.around → z.outer ≡ k.outer → length z.types ≡ length m.types → length z.bodies ≡ length m.bodies → length z.variables ≡ length m.variables → length z.exceptions ≡ length m.exceptions → length z.texts ≡ length m.texts → length z.pools ≡ length m.pools → ((t : ℕ) → pool_of z.types t ≡ pool_of m.types t) → z.controlled ≡ m.controlled → z.limited ≡ m.limited → z.here.specified ≡ k.here.specified → ((o : Operation) (t : ℕ) → overrider o z.types t ≡ overrider o m.types t) → Agrees k place → Agrees m end → Agrees z (behind place end)
agrees_behind k m z place end names first kept around outer types bodies variables exceptions texts pools placed controlled limited specified overridden w v = record {
  here = λ text. subst (λ (ns : List Named). Stands (named text ns) (meaning_among text place.here)) (sym names) (w.here text);
  outer = λ text. outer_same k z place around outer w text;
  bodies = v.bodies ∙ sym bodies;
  first_type = w.first_type ∙ sym first;
  types = v.types ∙ sym types;
  pools = v.pools ∙ sym pools;
  placed = λ t. v.placed t ∙ ap (λ (o : Option ℕ). is_some o) (sym (placed t));
  variables = v.variables ∙ sym variables;
  exceptions = v.exceptions ∙ sym exceptions;
  texts = v.texts ∙ sym texts;
  controlled = v.controlled ∙ sym controlled;
  limited = λ t. v.limited t ∙ ap (λ (ts : List ℕ). is_among t ts) (sym limited);
  specified = λ o t. w.specified o t ∙ ap (λ (ss : Specifications). formal_specified t (specified_for o ss)) (sym specified);
  overridden = λ o t. overridden o t ∙ v.overridden o t;
  kept = w.kept ∙ sym kept;
}
