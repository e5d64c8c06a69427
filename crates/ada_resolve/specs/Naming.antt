-- What the names of a tree are bound to at a place, and what types, numbers and instances are read as: by the declarations before that place,
-- and by the tables of the program. An inner declaration hides the outer ones (8.3); types, variables and exceptions are numbered in the order
-- of the text, and so are the texts that Put_Line writes.

use Rattle.std.specs.List.{list_any}
use Rattle.std.specs.Prelude.{◌≡◌, ◌⊎◌, ℕ, ◌+◌, ◌<◌, ◌≤◌, Bool, true, false, ◌==◌, ◌||◌, if◌then◌else◌, List, [], ◌∷◌, ◌++◌, length, Option, Some, None, slice_get, codes, bytes_eq, ℤ, pos}
use Rattle.ada_tree.specs.Names.{Ident, NameTree}
use Rattle.ada_tree.specs.Declarations.{AspectTree, SizeTree, number_size, named_size}
use Rattle.ada_tree.specs.Records.{StaticTree, plain, minus, named as static_name, ComponentTree}
use Rattle.ada_tree.specs.Statements.{DeclarationTree, access_type, record_type, derived_type}
use Rattle.ada_program.specs.declared.program.ComponentKind.{ComponentKind}
use Rattle.ada_program.specs.declared.program.ComponentKind.TheVariants as component
use Rattle.ada_program.specs.declared.program.Finalization.{Finalization}
use Rattle.ada_program.specs.declared.program.Exception.{Exception}
use Rattle.ada_program.specs.declared.program.Exception.TheVariants as exception
use Rattle.ada_program.specs.declared.program.PartKind.{PartKind}
use Rattle.ada_program.specs.declared.program.PartKind.TheVariants as part
use Rattle.ada_program.specs.declared.program.ProcedureNo.{ProcedureNo}
use Rattle.ada_program.specs.declared.program.VariableKind.{VariableKind}
use Rattle.ada_program.specs.declared.program.VariableKind.TheVariants as variable
use Rattle.ada_program.specs.ProgramForm.{PartForm, PoolForm, TypeForm, record_of, access_to, VariableForm, BodyForm}
use Rattle.ada_program.specs.WellFormed.{parts_within}
use Rattle.ada_resolve.specs.Controlled.{limited_within}
use Rattle.ada_resolve.specs.Derived.{parent_part}
use Rattle.ada_resolve.specs.declared.primitives.Operation.{Operation}
use Rattle.ada_resolve.specs.Library.{library_name}
use Rattle.ada_resolve.specs.declared.library.LibraryName.TheVariants.{UncheckedDeallocation, Controlled, LimitedControlled, FirstFitPool, EndError}
use Rattle.ada_resolve.specs.Pools.{most_words}
use Rattle.ada_resolve.specs.Records.{components_written, kinds_within}
use Rattle.ada_resolve.specs.Statics.{at_most_greatest, integer_of}

-- What a declaration binds its name to: a type that is to be completed (3.10.1), a type, the value of a named number (3.3.2), an exception
-- (11.1), a pool (13.11), an instance for an access type (13.11.2), a variable (3.3.1), a loop parameter or a formal parameter of mode `in`, which are constants
-- (5.5, 6.2), a procedure whose body has ended or has not (6.3), or, seen from the body of a procedure, an object of a body around.
pub data Meaning : Type 0 where
  an_incomplete_type : (t : ℕ) → Meaning
  a_type : (t : ℕ) → Meaning
  a_number : ℤ → Meaning
  an_exception : (e : ℕ) → Meaning
  a_pool : (n : ℕ) → Meaning
  an_instance : (access : ℕ) → Meaning
  a_variable : (x : ℕ) → Meaning
  a_parameter : (x : ℕ) → Meaning
  a_procedure : (n : ℕ) → Meaning
  a_procedure_around : Meaning
  an_outer_object : Meaning

-- A name, and what it is bound to.
pub record Binding : Type 0 where
  pub text : List ℕ
  pub meaning : Meaning

-- A specification of an operation of the type of a number, and the name of its formal parameter (6.1, 7.6).
pub record Specification : Type 0 where
  pub operation : Operation
  pub record_type : ℕ
  pub formal : List ℕ

-- An operation of the type of a number is overridden by a procedure (7.6).
pub record Overriding : Type 0 where
  pub operation : Operation
  pub record_type : ℕ
  pub procedure : ProcedureNo

-- A place in the text: what the innermost declarative part has bound before it, the last first; what the parts around it have bound, the inner
-- ones first; the number of the first type of the part; how many types, pools and exceptions are declared before it, how many variables of its body,
-- and how many bodies of procedures have ended before it; how many texts Put_Line writes before it; the numbers of the types whose pools aspects
-- and clauses before it name; how many record types with controlled parts are complete before it (7.6), and the numbers of those that are derived from
-- Limited_Controlled; the operations that the part has specified before it, the last first; the operations whose bodies have ended before it, the
-- last first; and whether the place is in the body of an operation that keeps its operand (7.6).
pub record Place : Type 0 where
  pub here : List Binding
  pub outer : List Binding
  pub first_type : ℕ
  pub types : ℕ
  pub pools : ℕ
  pub bodies : ℕ
  pub variables : ℕ
  pub exceptions : ℕ
  pub texts : ℕ
  pub placed : List ℕ
  pub controlled : ℕ
  pub limited : List ℕ
  pub specified : List Specification
  pub overridden : List Overriding
  pub keeps_operand : Bool

-- What a tree is read by: a place in it, the tables of the program, and the variables of the body at the place.
pub record Context : Type 0 where
  pub place : Place
  pub types : List TypeForm
  pub pools : List PoolForm
  pub bodies : List BodyForm
  pub variables : List VariableForm
  pub texts : List (List ℕ)
  pub exceptions : List (List ℕ)

-- Whether a number is one of these.
abbrev pub is_one_of : ℕ → List ℕ → Bool
is_one_of t [] = false
is_one_of t (u ∷ us) = u == t || is_one_of t us

-- What a name is bound to first among these.
abbrev pub meaning_among : List ℕ → List Binding → Option Meaning
meaning_among text [] = None
meaning_among text (b ∷ bs) = if bytes_eq text b.text then Some b.meaning else meaning_among text bs

-- What a name is bound to at a place (8.3).
abbrev pub meaning_at : Place → List ℕ → Option Meaning
meaning_at place text = meaning_among text (place.here ++ place.outer)

-- A name is bound to this.
abbrev pub IsBound : Context → List ℕ → Meaning → Type 0
IsBound p text meaning = meaning_at p.place text ≡ Some meaning

-- A name is that of the type of a number, which is not incomplete there (3.10.1).
abbrev pub IsFullTypeNamed : Context → List ℕ → ℕ → Type 0
IsFullTypeNamed p text t = IsBound p text (a_type t)

-- A name is that of the type of a number, which may still have to be completed.
abbrev pub IsTypeNamed : Context → List ℕ → ℕ → Type 0
IsTypeNamed p text t = IsFullTypeNamed p text t ⊎ IsBound p text (an_incomplete_type t)

-- A name is that of a named number, which has the value (3.3.2).
abbrev pub IsNumberNamed : Context → List ℕ → ℤ → Type 0
IsNumberNamed p text n = IsBound p text (a_number n)

-- A name is that of the variable of a number (3.3.1).
abbrev pub IsVariableNamed : Context → List ℕ → ℕ → Type 0
IsVariableNamed p text x = IsBound p text (a_variable x)

-- A name is that of the object of a number (3.3): of a variable, or of a constant, which a loop parameter and a formal parameter of mode `in` are.
abbrev pub IsObjectNamed : Context → List ℕ → ℕ → Type 0
IsObjectNamed p text x = IsVariableNamed p text x ⊎ IsBound p text (a_parameter x)

-- A name is that of an instance, which is for the access type of a number (12.3, 13.11.2).
abbrev pub IsInstanceNamed : Context → List ℕ → ℕ → Type 0
IsInstanceNamed p text t = IsBound p text (an_instance t)

-- A name is that of the procedure of a number, whose body has ended (6.1, 6.3).
abbrev pub IsProcedureNamed : Context → List ℕ → ℕ → Type 0
IsProcedureNamed p text n = IsBound p text (a_procedure n)

-- The value of a static expression (4.9): a number, or that of a named number.
abbrev pub IsStaticRead : Context → StaticTree → ℤ → Type 0
IsStaticRead p (plain spot n) value = value ≡ integer_of false (at_most_greatest n)
IsStaticRead p (minus spot n) value = value ≡ integer_of true (at_most_greatest n)
IsStaticRead p (static_name name) value = IsNumberNamed p name.text value

-- A name is that of the record type of a number (3.8).
abbrev pub IsRecordNamed : Context → List ℕ → ℕ → Type 0
IsRecordNamed p text t =
    IsTypeNamed p text t × (parts : List PartForm) × (components : List ComponentKind) × (finalization : Option Finalization) ×
    (slice_get p.types t ≡ Some (record_of text parts components finalization))

-- A name is that of the record type of a number, which is not incomplete there (3.8, 3.10.1).
abbrev pub IsFullRecordNamed : Context → List ℕ → ℕ → Type 0
IsFullRecordNamed p text t =
    IsFullTypeNamed p text t × (parts : List PartForm) × (components : List ComponentKind) × (finalization : Option Finalization) ×
    (slice_get p.types t ≡ Some (record_of text parts components finalization))

-- A name is that of the access type of a number (3.10).
abbrev pub IsAccessNamed : Context → List ℕ → ℕ → Type 0
IsAccessNamed p text t = IsFullTypeNamed p text t × (designated : ℕ) × (pool : Option ℕ) × (slice_get p.types t ≡ Some (access_to text designated pool))

-- A name is that of the access type of a number, which designates the record type of the other name (3.10).
abbrev pub IsAccessTo : Context → List ℕ → List ℕ → ℕ → Type 0
IsAccessTo p text designated t =
    IsFullTypeNamed p text t × (d : ℕ) × (pool : Option ℕ) × (slice_get p.types t ≡ Some (access_to text d pool)) × IsRecordNamed p designated d

-- How the two truth values are called (3.5.3).
abbrev pub truth_name : Bool → List ℕ
truth_name true = codes "TRUE"
truth_name false = codes "FALSE"

-- A name that means the same everywhere, since no declaration may have it: a name of Standard (A.1), the exceptions of the language among them
-- (11.1), or the name with which those of the library begin (A.2).
pub data IsPredefined : List ℕ → Type 0 where
  the_integers : IsPredefined (codes "INTEGER")
  the_booleans : IsPredefined (codes "BOOLEAN")
  a_truth_value : (b : Bool) → IsPredefined (truth_name b)
  the_constraint_error : IsPredefined (codes "CONSTRAINT_ERROR")
  the_program_error : IsPredefined (codes "PROGRAM_ERROR")
  the_storage_error : IsPredefined (codes "STORAGE_ERROR")
  under_ada : IsPredefined (codes "ADA")
  under_system : IsPredefined (codes "SYSTEM")
  the_pools : IsPredefined (codes "PROFILE_POOLS")
  the_input : IsPredefined (codes "RUN_INPUT")

-- What an elementary component holds, and at first (3.8): an Integer or a Boolean has the value that is written; an access value is null.
abbrev pub IsElementaryRead : Context → ComponentTree → ComponentKind → Type 0
IsElementaryRead p c (component.Integer n) =
    (c.type_name.text ≡ codes "INTEGER") × (value : StaticTree) × (c.initial ≡ Some value) × IsStaticRead p value n
IsElementaryRead p c (component.Boolean b) =
    (c.type_name.text ≡ codes "BOOLEAN") × (value : Ident) × (c.initial ≡ Some (static_name value)) × (value.text ≡ truth_name b)
IsElementaryRead p c (component.Access t) = IsAccessNamed p c.type_name.text t.0 × (c.initial ≡ None)

-- What a component is (3.8): an elementary one, or a record of a type that is complete before. No component is written for a parent part (3.4).
abbrev pub IsKindRead : Context → ComponentTree → PartKind → Type 0
IsKindRead p c (part.Elementary kind) = IsElementaryRead p c kind
IsKindRead p c (part.Record t) = IsFullRecordNamed p c.type_name.text t.0 × (c.initial ≡ None)
IsKindRead p c part.Parent = ⊥

-- Components, one for one: each has its name, and is what is written (3.8).
abbrev pub AreComponentsRead : Context → List ComponentTree → List PartForm → Type 0
AreComponentsRead p [] [] = Unit {0}
AreComponentsRead p [] (d ∷ ds) = ⊥
AreComponentsRead p (c ∷ cs) [] = ⊥
AreComponentsRead p (c ∷ cs) (d ∷ ds) = (d.name ≡ c.name.text) × IsKindRead p c d.kind × AreComponentsRead p cs ds

-- No two of these components have one name (8.3).
abbrev pub AreNamedApart : List PartForm → Type 0
AreNamedApart [] = Unit {0}
AreNamedApart (c ∷ cs) = ((i : ℕ) (d : PartForm) → slice_get cs i ≡ Some d → d.name ≡ c.name → ⊥) × AreNamedApart cs

-- Components lie one behind the other: each begins where those before it end, and the elementary components of all of them, in order, are these.
-- The first of them begins behind as many elementary components.
abbrev pub AreLaidOut : List TypeForm → ℕ → List PartForm → List ComponentKind → Type 0
AreLaidOut types before [] components = components ≡ []
AreLaidOut types before (c ∷ cs) components =
    (c.first ≡ before) × (rest : List ComponentKind) × (components ≡ kinds_within types c.kind ++ rest) ×
    AreLaidOut types (before + length (kinds_within types c.kind)) cs rest

-- Controlled parts lie one behind the other (7.6): those of each component begin where those before it end, and there are as many. The first component
-- stands behind as many of them.
abbrev pub ArePartsInOrder : List TypeForm → (before : ℕ) → List PartForm → (count : ℕ) → Type 0
ArePartsInOrder types before [] count = count ≡ before
ArePartsInOrder types before (c ∷ cs) count = (c.part ≡ before) × ArePartsInOrder types (before + parts_within types c.kind) cs count

-- How the objects of a record type with these components are finalized (7.6), whose parent makes it limited or not: it has as many controlled parts as
-- its components, if any, and it is limited where its parent or one of its components makes it so (7.5). Its number tells how many record types with
-- controlled parts are complete before it.
abbrev pub IsFinalized : List TypeForm → (number : ℕ) → (limited : Bool) → List PartForm → Option Finalization → Type 0
IsFinalized types number limited parts None = ArePartsInOrder types 0 parts 0
IsFinalized types number limited parts (Some f) =
    (f.number.0 ≡ number) × (0 < f.parts) × ArePartsInOrder types 0 parts f.parts ×
    (f.limited ≡ (limited || list_any (λ c. limited_within types c.kind) parts))

-- The parent of a derived type is Controlled or Limited_Controlled (7.6), the second of which makes it limited (7.5).
abbrev pub IsParentRead : NameTree → (limited : Bool) → Type 0
IsParentRead parent false = library_name parent.first.text parent.rest ≡ Controlled
IsParentRead parent true = library_name parent.first.text parent.rest ≡ LimitedControlled

-- A name is that of the pool of a number (13.11).
abbrev pub IsPoolNamed : Context → List ℕ → ℕ → Type 0
IsPoolNamed p text n = IsBound p text (a_pool n)

-- The size of a pool in words (13.11): a number, or that of a named number.
abbrev pub IsSizeRead : Context → SizeTree → (words : ℕ) → Type 0
IsSizeRead p (number_size spot n) words = words ≡ n
IsSizeRead p (named_size name) words = IsNumberNamed p name.text (pos words)

-- The discriminant of a pool, where it is named (3.7.1).
abbrev pub IsLabelRead : Option Ident → Type 0
IsLabelRead None = Unit {0}
IsLabelRead (Some label) = label.text ≡ codes "POOL_SIZE"

-- The next pool of the program is the one that is declared (13.11): a First_Fit_Pool of the name and of the size that is written.
abbrev pub IsPoolRead : Context → Ident → NameTree → Option Ident → SizeTree → Type 0
IsPoolRead p name type_name label size =
    (words : ℕ) × (slice_get p.pools p.place.pools ≡ Some (record { name = name.text; words = words })) ×
    (library_name type_name.first.text type_name.rest ≡ FirstFitPool) × IsLabelRead label × IsSizeRead p size words × (words ≤ most_words)

-- The pool of an access type is that of its aspect, where it has one (13.1.1, 13.11); where it has none, a clause may name it.
abbrev pub IsAspectRead : Context → Option AspectTree → (pool : Option ℕ) → Type 0
IsAspectRead p None pool = Unit {0}
IsAspectRead p (Some aspect) pool =
    (n : ℕ) × (pool ≡ Some n) × (aspect.name.text ≡ codes "STORAGE_POOL") × IsPoolNamed p aspect.value.text n

-- A clause for the access type of a number (13.11), whose name and whose pool have the names that are written: the type is of the innermost part, and
-- no aspect and no other clause names its pool before.
abbrev pub IsClauseRead : Context → (name attribute : Ident) → SizeTree → ℕ → Type 0
IsClauseRead p name attribute (number_size spot n) t = ⊥
IsClauseRead p name attribute (named_size pool) t =
    (attribute.text ≡ codes "STORAGE_POOL") × (d : ℕ) × (n : ℕ) × IsFullTypeNamed p name.text t ×
    (slice_get p.types t ≡ Some (access_to name.text d (Some n))) × IsPoolNamed p pool.text n × (p.place.first_type ≤ t) ×
    (is_one_of t p.place.placed ≡ false)

-- The type of a number is the one that a full type declaration declares (3.2.1): an access type, or a record type with its components, each of
-- which has a name of its own, and with their elementary components and controlled parts. Before the components of a derived type stands its parent part.
abbrev pub IsTypeRead : Context → DeclarationTree → ℕ → Type 0
IsTypeRead p (access_type spot name designated aspect) t =
    (d : ℕ) × (pool : Option ℕ) × (slice_get p.types t ≡ Some (access_to name.text d pool)) × IsRecordNamed p designated.text d ×
    IsAspectRead p aspect pool
IsTypeRead p (record_type spot name definition) t =
    (parts : List PartForm) × (components : List ComponentKind) × (finalization : Option Finalization) ×
    (slice_get p.types t ≡ Some (record_of name.text parts components finalization)) × AreComponentsRead p (components_written definition) parts ×
    AreNamedApart parts × AreLaidOut p.types 0 parts components ×
    IsFinalized p.types p.place.controlled false parts finalization
IsTypeRead p (derived_type spot name parent definition) t =
    (limited : Bool) × (parts : List PartForm) × (components : List ComponentKind) × (finalization : Option Finalization) ×
    (slice_get p.types t ≡ Some (record_of name.text (parent_part ∷ parts) components finalization)) × IsParentRead parent limited ×
    AreComponentsRead p (components_written definition) parts × AreNamedApart (parent_part ∷ parts) ×
    AreLaidOut p.types 0 (parent_part ∷ parts) components ×
    IsFinalized p.types p.place.controlled limited (parent_part ∷ parts) finalization
IsTypeRead p other t = ⊥

-- An instance of Unchecked_Deallocation is for the access type of a number (13.11.2).
abbrev pub IsInstanceRead : Context → NameTree → Ident → Ident → ℕ → Type 0
IsInstanceRead p generic object access t =
    (library_name generic.first.text generic.rest ≡ UncheckedDeallocation) × IsAccessTo p access.text object.text t

-- What a variable is declared to hold (3.3.1): the type has the name that is written, and no more than that. A record object holds no value.
abbrev pub IsKindNamed : Context → NameTree → VariableKind → Type 0
IsKindNamed p name variable.Integer = (name.rest ≡ []) × (name.first.text ≡ codes "INTEGER")
IsKindNamed p name variable.Boolean = (name.rest ≡ []) × (name.first.text ≡ codes "BOOLEAN")
IsKindNamed p name (variable.Access t) = (name.rest ≡ []) × IsAccessNamed p name.first.text t.0
IsKindNamed p name (variable.Record object) = ⊥

-- A name is that of an exception: of a predefined one (11.1), of End_Error in Run_Input, or of one that the program declares.
abbrev pub IsExceptionNamed : Context → NameTree → Exception → Type 0
IsExceptionNamed p name exception.ConstraintError = (name.rest ≡ []) × (name.first.text ≡ codes "CONSTRAINT_ERROR")
IsExceptionNamed p name exception.ProgramError = (name.rest ≡ []) × (name.first.text ≡ codes "PROGRAM_ERROR")
IsExceptionNamed p name exception.StorageError = (name.rest ≡ []) × (name.first.text ≡ codes "STORAGE_ERROR")
IsExceptionNamed p name exception.EndError = library_name name.first.text name.rest ≡ EndError
IsExceptionNamed p name (exception.Declared n) = (name.rest ≡ []) × IsBound p name.first.text (an_exception n.0)
