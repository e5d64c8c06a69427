-- What is relied on while a new object is made: of a variable that gets it, all but what its items move; of a component, also not the component itself,
-- whose value an item may move.

use Rattle.std.proofs.Common.{◌≡◌, ◌≢◌, ℕ, Bool, true, false, List, [], ◌∷◌, refl, sym, ap, ◌∙◌}
use Rattle.std.proofs.lemmas.Bool.{eq-eqb}
use Rattle.std.specs.Prelude.{Option, Some, None, ◌==◌, ◌&&◌, ◌||◌}
use Rattle.std.specs.List.{slice_get}
use Rattle.ada_program.specs.Form.{PathForm}
use Rattle.ada_flow.specs.declared.rule.Hold.{Hold}
use Rattle.ada_flow.specs.declared.rule.Hold.TheVariants as hold
use Rattle.ada_program.specs.Nested.{is_one_of}
use Rattle.ada_flow.specs.Flow.{Holds, hold_at, is_target, without_values}
use Rattle.ada_meaning.specs.declared.state.Id.{Id}
use Rattle.ada_meaning.specs.declared.state.Value.{Value}
use Rattle.ada_meaning.specs.declared.state.Value.TheVariants.{Names}
use Rattle.ada_meaning.specs.Heap.{Found, on_null, on_gone, on_other, finds}
use Rattle.ada_meaning.specs.Step.{before_last, last_of, selected}
use Rattle.ada_meaning.specs.Named.{Object, object_at, named, inside}
use Rattle.ada_owners.specs.Places.{is_there, Place, variable, component, elsewhere, value_at}
use Rattle.ada_owners.specs.Reliance.{Owns, component_hold, hold_of, with_lent}
use Rattle.ada_owners.specs.Walks.{then_found, behind, walk}
use Rattle.ada_sound.proofs.Fits.{Outsiders, stacked, none_spared, hold_in, place_at, as_reliance, component_value}
use Rattle.ada_sound.proofs.Invariant.{begun, along, front, final, LeadsTo}
use Rattle.ada_sound.proofs.Filled.{Lends, hold_left, without_is, target_is, paths_are}
use Rattle.ada_sound.proofs.Walks.{passes}

-- A walk is one to the last selector but one, and then one by the last.
split_found : (heap : List Object) (f : Found Value) (d : ℕ) (ds : List ℕ) → ((w : Value) → walk heap w (d ∷ ds) ≡ then_found (walk heap w (before_last d ds)) (λ u. walk heap u (last_of d ds ∷ []))) → then_found f (λ w. walk heap w (d ∷ ds)) ≡ then_found (then_found f (λ w. walk heap w (before_last d ds))) (λ u. walk heap u (last_of d ds ∷ []))
split_found heap on_null d ds more = refl
split_found heap on_gone d ds more = refl
split_found heap on_other d ds more = refl
split_found heap (finds w) d ds more = more w

walk_split : (heap : List Object) (v : Value) (c : ℕ) (cs : List ℕ) → walk heap v (c ∷ cs) ≡ then_found (walk heap v (before_last c cs)) (λ u. walk heap u (last_of c cs ∷ []))
walk_split heap v c [] = refl
walk_split heap v c (d ∷ ds) = split_found heap (behind heap v c) d ds (λ w. walk_split heap w d ds)

split_at : (heap : List Object) (v u : Value) (c : ℕ) (cs : List ℕ) (d : ℕ) → walk heap v (before_last c cs) ≡ finds u → last_of c cs ≡ d → walk heap v (c ∷ cs) ≡ walk heap u (d ∷ [])
split_at heap v u c cs d first last =
    walk_split heap v c cs ∙ (ap (λ (f : Found Value). then_found f (λ w. walk heap w (last_of c cs ∷ []))) first ∙ ap (λ (e : ℕ). walk heap u (e ∷ [])) last)

-- The value of a component that a path leads to.
component_found : (heap : List Object) (places : List Value) (path : PathForm) (cs : List ℕ) (o : Id) (object : Object) (d : ℕ) (v : Value) → path.selectors ≡ cs → object_at heap o ≡ Some object → is_there object.stage ≡ true → LeadsTo heap places (Names o) [] d path → walk heap (begun places path) (selected named (place_at places path.root) cs) ≡ finds v → value_at heap [] (component o d) ≡ v
component_found heap places path [] o object d v whole found listed leads walks = let e = ap (λ (ds : List ℕ). final (selected named (place_at places path.root) ds)) (sym whole) ∙ leads.1 in absurd (cc e)
component_found heap places path (c ∷ cs) o object d v whole found listed leads walks =
    let e = inside (place_at places path.root) c in
    let first : walk heap (begun places path) (before_last e cs) ≡ finds (Names o) = ap (λ (ds : List ℕ). walk heap (begun places path) (front (selected named (place_at places path.root) ds))) (sym whole) ∙ leads.0 in
    let last : last_of e cs ≡ d = let same = ap (λ (ds : List ℕ). final (selected named (place_at places path.root) ds)) (sym whole) ∙ leads.1 in cc same in
    let at_last : walk heap (Names o) (d ∷ []) ≡ finds v = sym (split_at heap (begun places path) (Names o) e cs d first last) ∙ walks in
    let p = passes heap d [] v (Names o) at_last in
    let same : p.o ≡ o = let n = p.names in cc n in
    let one : p.object ≡ object = let at = p.at in cc (rw same at at, found) in
    let value : p.w ≡ v = let e = p.goes_on in cc e in
    component_value heap [] o object d v found listed (ap (λ (x : Object). slice_get x.cell.values d) (sym one) ∙ (p.holds ∙ ap Some value))

-- What owned something before it was moved.
left_owns : (b : Bool) (h : Hold) → Owns (hold_left b h) → (b ≡ false) × Owns h
left_owns false h own = (refl, own)
left_owns true hold.Null own = absurd own
left_owns true (hold.Kept r) own = absurd own
left_owns true (hold.Own r) own = absurd own
left_owns true (hold.Alias r) own = absurd own
left_owns true hold.Lost own = absurd own

variable_before : (xs : List ℕ) (holds : Holds) (x : ℕ) → Owns (hold_at (without_values xs holds) x) → (is_one_of xs x ≡ false) × Owns (hold_at holds x)
variable_before xs holds x own = left_owns (is_one_of xs x) (hold_at holds x) (rw (without_is xs holds x) at own)

variable_gone : (xs : List ℕ) (holds : Holds) (x : ℕ) → is_one_of xs x ≡ true → Owns (hold_at (without_values xs holds) x) → ⊥
variable_gone xs holds x is own = let before = (variable_before xs holds x own).0 in cc (is, before)

-- Where a variable gets the object, no component is an item.
pub lends_none : (outer : Outsiders) (heap : List Object) (places : List Value) (holds : Holds) (target : Option PathForm) (xs : List ℕ) → target ≡ None → Lends outer heap places holds target xs (hold_in outer none_spared (without_values xs holds))
lends_none outer heap places holds target xs none = record {
  h = record { 0 = 0 };
  d = 0;
  worse = worse;
  moved_gone = λ x is own. variable_gone xs holds x is own;
  lent_gone = λ path is own. nowhere path is;
  leads = λ path v o is ne walks names. absurd (nowhere path is);
}
  where
    nowhere : (path : PathForm) → is_target target path ≡ true → ⊥
    nowhere path is = cc (rw none at is)

    worse : (q : Place) → Owns (hold_in outer none_spared (without_values xs holds) q) → Owns (hold_in outer none_spared holds q)
    worse (variable x) own = (variable_before xs holds x own).1
    worse (component k c) own = own
    worse (elsewhere d x) own = own

-- Where a component gets it, that component is lent.
lent_owns : (o : Id) (d : ℕ) → Owns (component_hold ((((o.0 == o.0) && (d == d)) || false))) → ⊥
lent_owns o d own = rw (eq-eqb o.0 o.0 refl, eq-eqb d d refl) at own

pub lends_some : (outer : Outsiders) (heap : List Object) (places : List Value) (holds : Holds) (target : Option PathForm) (xs : List ℕ) (o : Id) (object : Object) (d : ℕ) → object_at heap o ≡ Some object → is_there object.stage ≡ true → ((path : PathForm) → target ≡ Some path → LeadsTo heap places (Names o) [] d path) → Lends outer heap places holds target xs (hold_of (with_lent o d (as_reliance outer (without_values xs holds))))
lends_some outer heap places holds target xs o object d found listed into = record {
  h = o;
  d = d;
  worse = worse;
  moved_gone = λ x is own. variable_gone xs holds x is own;
  lent_gone = λ path is own. lent_owns o d own;
  leads = leads;
}
  where
    worse : (q : Place) → Owns (hold_of (with_lent o d (as_reliance outer (without_values xs holds))) q) → Owns (hold_in outer none_spared holds q)
    worse (variable x) own = (variable_before xs holds x own).1
    worse (component k c) own = tt
    worse (elsewhere e x) own = own

    leads : (path : PathForm) (v : Value) (p : Id) → is_target target path ≡ true → path.selectors ≢ [] → walk heap (begun places path) (along places path) ≡ finds v → v ≡ Names p → value_at heap (stacked places outer) (component o d) ≡ Names p
    leads path v p is ne walks names =
        let t = target_is target path is in
        let same = paths_are t.0 path t.2 in
        component_found heap places t.0 t.0.selectors o object d v refl found listed (into t.0 t.1) (rw (same.0, same.1) walks) ∙ names
