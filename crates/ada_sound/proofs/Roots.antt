-- What a path begins with: a record object that is not lost is there, so that nothing is raised where the path follows it.

use Rattle.std.proofs.Common.{◌≡◌, ◌≢◌, ℕ, Bool, true, false, List, [], ◌∷◌, refl, sym, ◌∙◌}
use Rattle.std.specs.Prelude.{Option, Some, None}
use Rattle.ada_text.specs.declared.spot.Spot.{Spot}
use Rattle.ada_program.specs.declared.program.VariableKind.{VariableKind}
use Rattle.ada_program.specs.declared.program.VariableKind.TheVariants as variable
use Rattle.ada_program.specs.declared.program.ScalarType.TheVariants as scalar_type
use Rattle.ada_program.specs.declared.program.Exception.TheVariants.{ConstraintError}
use Rattle.ada_program.specs.Form.{PathForm, RightForm, value_of}
use Rattle.ada_program.specs.ProgramForm.{TypeForm, VariableForm}
use Rattle.ada_program.specs.WellFormed.{access_of, variable_kind, selectors_kind, selected_kind, root_kind, path_kind, kind_behind, kind_among, component_kind, value_access, kind_takes, right_fits, is_type, scalar_of, is_this}
use Rattle.ada_program.specs.declared.program.ComponentKind.{ComponentKind}
use Rattle.ada_program.specs.declared.program.ComponentKind.TheVariants as component
use Rattle.std.specs.List.{slice_get}
use Rattle.ada_effects.specs.Effects.{follows_value, is_behind_value}
use Rattle.ada_flow.specs.declared.rule.Hold.{Hold}
use Rattle.ada_flow.specs.declared.rule.Hold.TheVariants as hold
use Rattle.ada_flow.specs.Flow.{Holds, hold_at, lost_by}
use Rattle.ada_meaning.specs.declared.state.Id.{Id}
use Rattle.ada_meaning.specs.declared.state.Value.{Value}
use Rattle.ada_meaning.specs.declared.state.Value.TheVariants.{Null, Names, Scalar, Part}
use Rattle.ada_meaning.specs.Named.{Object, named, whole}
use Rattle.ada_meaning.specs.Step.{before_last, selected}
use Rattle.ada_sound.proofs.Fits.{Outsiders, Reference, IsPlace, Fit, names_object, is_object, place_at}
use Rattle.ada_sound.proofs.Invariant.{Known, Control, Rooms, To, MayRaise, RaisesAt, ways}

-- Nothing is selected behind nothing.
pub none_behind : (types : List TypeForm) (cs : List ℕ) → selectors_kind types None cs ≡ None
none_behind types [] = refl
none_behind types (c ∷ cs) = none_behind types cs

-- A path that leads somewhere, and says that it begins with a record object, does so.
object_kind : (k : Option VariableKind) (from : VariableKind) → root_kind true k ≡ Some from → names_object k ≡ true
object_kind None from is = absurd (cc is)
object_kind (Some variable.Integer) from is = absurd (cc is)
object_kind (Some variable.Boolean) from is = absurd (cc is)
object_kind (Some (variable.Access access)) from is = absurd (cc is)
object_kind (Some (variable.Record object)) from is = refl

object_from : (types : List TypeForm) (k root : Option VariableKind) (cs : List ℕ) (to : VariableKind) → root_kind true k ≡ root → selectors_kind types root cs ≡ Some to → names_object k ≡ true
object_from types k None cs to is leads = let none : None ≡ Some to = sym (none_behind types cs) ∙ leads in absurd (cc none)
object_from types k (Some from) cs to is leads = object_kind k from is

pub root_object : (types : List TypeForm) (variables : List VariableForm) (path : PathForm) (to : VariableKind) → path_kind types variables path ≡ Some to → path.of_record ≡ true → is_object variables path.root ≡ true
root_object types variables path to leads whole =
    object_from types (variable_kind variables path.root) (root_kind true (variable_kind variables path.root)) path.selectors to refl (rw whole at leads)

-- A path that is a variable, and leads to what is no record object, is no record object.
value_kind : (of_record : Bool) (k : Option VariableKind) (t : ℕ) → value_access (root_kind of_record k) ≡ Some t → names_object k ≡ false
value_kind b None t is = absurd (cc is)
value_kind true (Some variable.Integer) t is = absurd (cc is)
value_kind false (Some variable.Integer) t is = refl
value_kind true (Some variable.Boolean) t is = absurd (cc is)
value_kind false (Some variable.Boolean) t is = refl
value_kind true (Some (variable.Access access)) t is = absurd (cc is)
value_kind false (Some (variable.Access access)) t is = refl
value_kind true (Some (variable.Record object)) t is = absurd (cc is)
value_kind false (Some (variable.Record object)) t is = absurd (cc is)

pub value_root : (types : List TypeForm) (variables : List VariableForm) (path : PathForm) (t : ℕ) → path.selectors ≡ [] → value_access (path_kind types variables path) ≡ Some t → is_object variables path.root ≡ false
value_root types variables path t none is = value_kind path.of_record (variable_kind variables path.root) t (rw none at is)

-- What is selected is no record object.
component_no_object : (o : Option ComponentKind) (to : VariableKind) → component_kind o ≡ Some to → names_object (Some to) ≡ false
component_no_object None to is = absurd (cc is)
component_no_object (Some (component.Integer initial)) to is = let one : variable.Integer ≡ to = cc is in rw (← one) refl
component_no_object (Some (component.Boolean initial)) to is = let one : variable.Boolean ≡ to = cc is in rw (← one) refl
component_no_object (Some (component.Access access)) to is = let one : variable.Access access ≡ to = cc is in rw (← one) refl

among_no_object : (found : Option (List ComponentKind)) (c : ℕ) (to : VariableKind) → kind_among found c ≡ Some to → names_object (Some to) ≡ false
among_no_object None c to is = absurd (cc is)
among_no_object (Some components) c to is = component_no_object (slice_get components c) to is

behind_no_object : (types : List TypeForm) (access : Option ℕ) (c : ℕ) (to : VariableKind) → kind_behind types access c ≡ Some to → names_object (Some to) ≡ false
behind_no_object types None c to is = absurd (cc is)
behind_no_object types (Some t) c to is = among_no_object _ c to is

pub selected_no_object : (types : List TypeForm) (from : Option VariableKind) (c : ℕ) (to : VariableKind) → selected_kind types from c ≡ Some to → names_object (Some to) ≡ false
selected_no_object types from c to is = behind_no_object types (access_of from) c to is

-- So does one whose value has an access type, or takes what is assigned, or is of a type.
pub access_leads : (found : Option VariableKind) (t : ℕ) → value_access found ≡ Some t → (to : VariableKind) × (found ≡ Some to)
access_leads None t e = absurd (cc e)
access_leads (Some to) t e = (to, refl)

pub right_leads : (types : List TypeForm) (variables : List VariableForm) (found : Option VariableKind) (right : RightForm) → right_fits types variables found right ≡ true → (to : VariableKind) × (found ≡ Some to)
right_leads types variables None right e = absurd (cc e)
right_leads types variables (Some to) right e = (to, refl)

pub integer_leads : (found : Option VariableKind) → is_type scalar_type.Integer (scalar_of found) ≡ true → (to : VariableKind) × (found ≡ Some to)
integer_leads None e = absurd (cc e)
integer_leads (Some to) e = (to, refl)

-- What is assigned goes to no record object; and a path that is assigned leads somewhere.
pub takes_none : (types : List TypeForm) (variables : List VariableForm) (kind : VariableKind) (right : RightForm) → kind_takes types variables kind right ≡ true → names_object (Some kind) ≡ false
takes_none types variables variable.Integer right takes = refl
takes_none types variables variable.Boolean right takes = refl
takes_none types variables (variable.Access access) right takes = refl
takes_none types variables (variable.Record object) right takes = absurd (cc takes)

this_leads : (found : Option VariableKind) (t : ℕ) → is_this t (value_access found) ≡ true → (to : VariableKind) × (found ≡ Some to)
this_leads None t e = absurd (cc e)
this_leads (Some to) t e = (to, refl)

takes_leads : (types : List TypeForm) (variables : List VariableForm) (kind : VariableKind) (path : PathForm) → kind_takes types variables kind (value_of path) ≡ true → (to : VariableKind) × (path_kind types variables path ≡ Some to)
takes_leads types variables variable.Integer path takes = absurd (cc takes)
takes_leads types variables variable.Boolean path takes = absurd (cc takes)
takes_leads types variables (variable.Access access) path takes = this_leads (path_kind types variables path) access.0 takes
takes_leads types variables (variable.Record object) path takes = absurd (cc takes)

pub takes_object : (types : List TypeForm) (variables : List VariableForm) (kind : VariableKind) (path : PathForm) → kind_takes types variables kind (value_of path) ≡ true → path.of_record ≡ true → is_object variables path.root ≡ true
takes_object types variables kind path takes whole = let h = takes_leads types variables kind path takes in root_object types variables path h.0 h.1 whole

-- A record object that is not lost is there.
pub kept_hold : (h : Hold) (spot : Spot) → lost_by h spot ≡ None → h ≢ hold.Lost
kept_hold hold.Null spot e is = cc is
kept_hold (hold.Kept r) spot e is = cc is
kept_hold (hold.Own r) spot e is = cc is
kept_hold (hold.Alias r) spot e is = cc is
kept_hold hold.Lost spot e is = absurd (cc e)

place_there : (types : List TypeForm) (referenced : List Reference) (kind : Option VariableKind) (v : Value) → names_object kind ≡ true → IsPlace types referenced kind v → whole v ≢ Null
place_there types referenced kind Null is place null = cc (is, place)
place_there types referenced kind (Names o) is place null = cc null
place_there types referenced kind (Scalar n) is place null = cc null
place_there types referenced kind (Part o first) is place null = cc null

pub object_there : {types : List TypeForm} {variables : List VariableForm} {outer : Outsiders} {spared : Id → Bool} {heap : List Object} {places : List Value} {holds : Holds} (x : ℕ) (spot : Spot) → lost_by (hold_at holds x) spot ≡ None → is_object variables x ≡ true → Fit types variables outer spared heap places holds → whole (place_at places x) ≢ Null
object_there {types = types} {variables = variables} {outer = outer} {places = places} {holds = holds} x spot kept is f =
    place_there types outer.referenced (variable_kind variables x) (place_at places x) is (f.objects x (kept_hold (hold_at holds x) spot kept))

-- Where a path may raise Constraint_Error.
module _ (known : Known) (v : Value) (k : Control) (rooms : Rooms) (holds : Holds) where
  -- Null raises it, wherever it is come to.
  pub raises_null : (cs : List ℕ) → RaisesAt known v cs k rooms holds → v ≡ Null → To ((ways known k rooms).raised ConstraintError) holds
  raises_null [] r null = r null
  raises_null (c ∷ cs) r null = r

  pub raises_all : (cs : List ℕ) → To ((ways known k rooms).raised ConstraintError) holds → RaisesAt known v cs k rooms holds
  raises_all [] r = λ null. r
  raises_all (c ∷ cs) r = r

  -- Behind a first selector: as the path says, where a record object is there.
  pub rest_raises : (of_record : Bool) (c : ℕ) (cs : List ℕ) → (of_record ≡ true → v ≢ Null) → MayRaise known (follows_value of_record (c ∷ cs)) ConstraintError k rooms holds → RaisesAt known v cs k rooms holds
  rest_raises false c [] there m = λ null. m refl
  rest_raises false c (d ∷ cs) there m = m refl
  rest_raises true c [] there m = λ null. absurd (there refl null)
  rest_raises true c (d ∷ cs) there m = m refl

  pub front_raises : (of_record : Bool) (c d : ℕ) (cs : List ℕ) → (of_record ≡ true → v ≢ Null) → MayRaise known (follows_value of_record (c ∷ cs)) ConstraintError k rooms holds → RaisesAt known v (before_last d cs) k rooms holds
  front_raises false c d [] there m = λ null. m refl
  front_raises false c d (e ∷ cs) there m = m refl
  front_raises true c d [] there m = λ null. absurd (there refl null)
  front_raises true c d (e ∷ cs) there m = m refl

  -- And up to the object in which a record lies.
  pub record_raises : (of_record : Bool) (cs : List ℕ) → (of_record ≡ true → v ≢ Null) → MayRaise known (is_behind_value of_record cs) ConstraintError k rooms holds → RaisesAt known v cs k rooms holds
  record_raises false [] there m = λ null. m refl
  record_raises true [] there m = λ null. absurd (there refl null)
  record_raises false (c ∷ cs) there m = m refl
  record_raises true (c ∷ cs) there m = m refl

-- It makes no difference where the first selector leads.
pub selected_raises : (known : Known) (u v : Value) (cs : List ℕ) (k : Control) (rooms : Rooms) (holds : Holds) → RaisesAt known v cs k rooms holds → RaisesAt known v (selected named u cs) k rooms holds
selected_raises known u v [] k rooms holds r = r
selected_raises known u v (c ∷ cs) k rooms holds r = r

-- What follows a value further on raises more.
pub raises_next : (known : Known) (v w : Value) (c : ℕ) (cs : List ℕ) (k : Control) (rooms : Rooms) (holds : Holds) → RaisesAt known v (c ∷ cs) k rooms holds → RaisesAt known w cs k rooms holds
raises_next known v w c cs k rooms holds r = raises_all known w k rooms holds cs r
