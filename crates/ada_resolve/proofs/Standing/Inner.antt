-- Parts that begin and end: what is known stays in order.

use Rattle.std.proofs.Common.{◌≡◌, ◌∙◌, ℕ, ◌<◌, ◌≤◌, Bool, true, false, cond, List, [], ◌∷◌, length, refl, sym, ap, subst, arith}
use Rattle.std.specs.Prelude.{Option, Some, None, bytes_eq}
use Rattle.std.specs.List.{slice_get}
use Rattle.ada_program.specs.declared.program.VariableKind.TheVariants as variable
use Rattle.ada_program.specs.ProgramForm.{TypeForm, VariableForm}
use Rattle.ada_program.specs.WellFormed as fits
use Rattle.ada_tree.specs.Names.{Ident}
use Rattle.ada_resolve.specs.declared.scope.Entity.{Entity}
use Rattle.ada_resolve.specs.declared.scope.Entity.TheVariants as entity
use Rattle.ada_resolve.specs.Known.{Known, Part, named, parts, with_part, without_part, next_variable}
use Rattle.ada_resolve.specs.Objects.{with_variable}
use Rattle.ada_resolve.specs.Resolution.{with_parameter}
use Rattle.ada_resolve.proofs.Parts.{left_parts}
use Rattle.ada_resolve.proofs.WellFormed.Exceptions.{PartsRaised}
use Rattle.ada_resolve.proofs.WellFormed.Names.{EntityFits, variables_behind, PartsFit}
use Rattle.ada_resolve.proofs.WellFormed.Tables.{get_more, get_last, get_within}
use Rattle.ada_resolve.proofs.Standing.Order.{IsBefore, PartsBefore, PartsCalled, Sound, Complete, Grows, Keeps, Stays, Inside, grows_on, complete_grows, more_types, more_bodies, more_variables}
use Rattle.ada_resolve.proofs.Standing.Types.{name_sound}
use Rattle.ada_resolve.proofs.Standing.Declared.{variable_sound}

-- an access type is there
access_within : (types : List TypeForm) (t : ℕ) → fits.is_access types t ≡ true → t < length types
access_within types t is = by_form (slice_get types t) refl
  where
    by_form : (o : Option TypeForm) → slice_get types t ≡ o → t < length types
    by_form (Some form) there = get_within types t form there
    by_form None there = let no : fits.is_access types t ≡ false = rw there refl in absurd (cc (no, is))

-- where a part is complete, all its types are before the next one
pub own_before : (k : Known) (text : List ℕ) (e : Entity) → named text k.here.names ≡ Some e → EntityFits k.types k.variables text e → IsBefore (length k.types) e
own_before k text (entity.Incomplete t) is f = get_within k.types t.0 _ f
own_before k text (entity.Record t size) is f = get_within k.types t.0 _ f.3
own_before k text (entity.Access t) is f = get_within k.types t.0 _ f.2
own_before k text (entity.Instance t) is f = access_within k.types t.0 f
own_before k text e is f = tt

before_more : (n m : ℕ) (e : Entity) → n ≤ m → IsBefore n e → IsBefore m e
before_more n m (entity.Incomplete t) le b = omega (arith, le, b)
before_more n m (entity.Record t size) le b = omega (arith, le, b)
before_more n m (entity.Access t) le b = omega (arith, le, b)
before_more n m (entity.Instance t) le b = omega (arith, le, b)
before_more n m e le b = b

pub parts_before : (n m : ℕ) (ps : List Part) → n ≤ m → PartsBefore n ps → PartsBefore m ps
parts_before n m [] le b = tt
parts_before n m (p ∷ ps) le b = (λ text e is. before_more n m e le (b.0 text e is), parts_before n m ps le b.1)

-- a part begins
pub part_sound : (k : Known) → Sound k → Complete k → Sound (with_part k)
part_sound k s c = record {
  types_fit = s.types_fit;
  operations = s.operations;
  variables_fit = s.variables_fit;
  names = (λ text e is. absurd (cc is), s.names);
  exceptions = (λ text e is. absurd (cc is), s.exceptions);
  called = (λ text e is. absurd (cc is), s.called);
  housed = s.housed;
  controlled = s.controlled;
  sized = s.sized;
  bounds = record {
    first = omega arith;
    first_variable = omega arith;
    modes = omega arith;
    first_body = omega arith;
    open_own = λ text t is. absurd (cc is);
    open_unused = λ none text t is. absurd (cc is);
    outer_before = (λ text e is. own_before k text e is (s.names.0 text e is), parts_before k.here.first_type (length k.types) k.outer s.bounds.first s.bounds.outer_before);
  };
}

pub part_complete : (k : Known) → Complete (with_part k)
part_complete k text t is = cc is

pub part_inside : (k : Known) → Sound k → Complete k → Inside k (with_part k)
part_inside k s c = record { sound = part_sound k s c; around = refl; outer = refl; withs = refl; procedure = refl; grows = record { types = λ t x is. is; overridden = λ o t p is. is; overriders = λ o t less. refl; first_type = s.bounds.first; placed = λ t n is. is; pools = λ t x is. is; variables = λ t x is. is; exceptions = λ t x is. is; texts = λ t x is. is; bodies = λ t x is. is } }

-- the part of a loop parameter begins
pub parameter_sound : (name : Ident) (k : Known) → Sound k → Complete k → Sound (with_parameter name k)
parameter_sound name k s c =
    let v : VariableForm = record { name = name.text; spot = name.spot; kind = variable.Integer; borrows = false } in
    let m = with_variable v (with_part k) in
    name_sound m name.text (entity.Parameter (next_variable k) variable.Integer) (variable_sound v (with_part k) (part_sound k s c) refl) ((name.spot, get_last k.variables v), refl) tt tt tt (λ none. tt)

pub parameter_complete : (name : Ident) (k : Known) → Complete (with_parameter name k)
parameter_complete name k text t is = by_text (bytes_eq text name.text) is
  where
    by_text : (b : Bool) → cond b (Some (entity.Parameter (next_variable k) variable.Integer)) None ≡ Some (entity.Incomplete t) → ⊥
    by_text true there = cc there
    by_text false there = cc there

pub parameter_inside : (name : Ident) (k : Known) → Sound k → Complete k → Inside k (with_parameter name k)
parameter_inside name k s c = record {
  sound = parameter_sound name k s c;
  around = refl;
  outer = refl;
  withs = refl;
  procedure = refl;
  grows = record {
    types = λ t x is. is;
    overridden = λ o t p is. is;
    overriders = λ o t less. refl;
    first_type = s.bounds.first;
    placed = λ t n is. is;
    pools = λ t x is. is;
    variables = λ x v is. get_more k.variables (record { name = name.text; spot = name.spot; kind = variable.Integer; borrows = false }) x v is;
    exceptions = λ n x is. is;
    texts = λ n x is. is;
    bodies = λ n x is. is;
  };
}

-- behind statements of the inner part
pub inside_on : (k m z : Known) → Inside k m → Stays m z → Inside k z
inside_on k m z f g = record {
  sound = g.sound;
  around = ap (λ (p : Part). p.around) g.here ∙ f.around;
  outer = g.outer ∙ f.outer;
  withs = g.withs ∙ f.withs;
  procedure = g.procedure ∙ f.procedure;
  grows = grows_on k m z f.grows g.grows;
}

-- behind declarations of the inner part, at which no type of it was incomplete
pub begun_inside : (k m z : Known) → Inside k m → Complete m → Sound z → Keeps m z → Inside k z
begun_inside k m z f c s g = record {
  sound = s;
  around = g.around ∙ f.around;
  outer = g.outer ∙ f.outer;
  withs = g.withs ∙ f.withs;
  procedure = g.procedure ∙ f.procedure;
  grows = grows_on k m z f.grows (complete_grows m z c g);
}

-- the part ends
left_to_parts : (k m : Known) → m.outer ≡ parts k → without_part m ≡ record m { here = k.here; outer = k.outer }
left_to_parts k m outer = left_parts m m.outer k.here k.outer outer

pub outers_fit : (k m : Known) → Sound m → m.outer ≡ parts k → PartsFit m.types (variables_behind m.here.around m.variables) (parts k)
outers_fit k m w outer = subst (λ (ps : List Part). PartsFit m.types (variables_behind m.here.around m.variables) ps) outer w.names.1

pub outers_raised : (k m : Known) → Sound m → m.outer ≡ parts k → PartsRaised m.exceptions (parts k)
outers_raised k m w outer = subst (λ (ps : List Part). PartsRaised m.exceptions ps) outer w.exceptions.1

pub outers_called : (k m : Known) → Sound m → m.outer ≡ parts k → PartsCalled (length m.bodies) (length m.pools) (parts k)
outers_called k m w outer = subst (λ (ps : List Part). PartsCalled (length m.bodies) (length m.pools) ps) outer w.called.1

left_sound : (k m : Known) → Sound k → Complete k → Sound m → m.here.around ≡ None → m.outer ≡ parts k → Grows k m → Sound (record m { here = k.here; outer = k.outer })
left_sound k m s c w around outer g = record {
  types_fit = w.types_fit;
  operations = w.operations;
  variables_fit = w.variables_fit;
  names = subst (λ (a : Option (List VariableForm)). PartsFit m.types (variables_behind a m.variables) (parts k)) around (outers_fit k m w outer);
  exceptions = outers_raised k m w outer;
  called = outers_called k m w outer;
  housed = w.housed;
  controlled = w.controlled;
  sized = w.sized;
  bounds = record {
    first = let a = s.bounds.first in let b = more_types k m g in omega arith;
    first_variable = let a = s.bounds.first_variable in let b = more_variables k m g in omega arith;
    modes = s.bounds.modes;
    first_body = let a = s.bounds.first_body in let b = more_bodies k m g in omega arith;
    open_own = s.bounds.open_own;
    open_unused = λ none text t is. absurd (c text t is);
    outer_before = s.bounds.outer_before;
  };
}

pub leave_sound : (k m : Known) → Sound k → Complete k → Sound m → m.here.around ≡ None → m.outer ≡ parts k → Grows k m → Sound (without_part m)
leave_sound k m s c w around outer g = subst Sound (sym (left_to_parts k m outer)) (left_sound k m s c w around outer g)

pub leave_complete : (k m : Known) → Complete k → m.outer ≡ parts k → Complete (without_part m)
leave_complete k m c outer = subst (λ (z : Known). Complete z) (sym (left_to_parts k m outer)) c

pub leave_stays : (k m : Known) → Sound k → Complete k → Inside k m → Stays k (without_part m)
leave_stays k m s c f = subst (λ (z : Known). Stays k z) (sym (left_to_parts k m f.outer)) (record {
  sound = left_sound k m s c f.sound f.around f.outer f.grows;
  complete = c;
  here = refl;
  outer = refl;
  withs = f.withs;
  procedure = f.procedure;
  grows = record { types = f.grows.types; overridden = f.grows.overridden; overriders = f.grows.overriders; first_type = omega arith; placed = f.grows.placed; pools = f.grows.pools; variables = f.grows.variables; exceptions = f.grows.exceptions; texts = f.grows.texts; bodies = f.grows.bodies };
})
