use Rattle.std.proofs.Common.{◌≡◌, ◌+◌, ◌<◌, ℕ, List, [], ◌∷◌, ◌++◌, Bool, true, false, sym, ap, ◌∙◌, subst, length}
use Rattle.std.specs.Prelude.{is_ok, if◌then◌else◌}
use Rattle.std.specs.List.{All, sum_by}
use Rattle.ada_parts.specs.declared.shapes.Entry.{Entry}
use Rattle.ada_parts.specs.Shape.{Shape, own_parts, parts_of}
use Rattle.ada_parts.specs.View.{Counts, IsCounted, shape_in, table_of}
use Rattle.ada_parts.proofs.Held.{counted_push}
use Rattle.ada_parts.proofs.shapes.Shapes.push.Goals as goal

either : (b : Bool) (after before more : List Entry) → after ≡ (if b then more else before) → IsCounted before → IsCounted more → IsCounted after
either true after before more e old new = subst IsCounted (sym e) new
either false after before more e old new = subst IsCounted (sym e) old

pub invariant_of-self : goal.invariant_of-self
invariant_of-self c =
    let entries = c.self.inside.entries.items in
    let e : Entry = record { controlled = c.args.controlled; components = c.args.components; parts = c.parts_with-parts.result } in
    let sums =
    ap (λ (ts : List ℕ). own_parts (record { controlled = c.args.controlled; components = ts }) + sum_by (parts_of c.args.self.now) ts) c.deref.ensures.value
    ∙ ap (λ (t : List Shape). own_parts (shape_in e) + sum_by (parts_of t) e.components.items) (sym c.self.view_is) in
    let parts : Counts e.parts (own_parts (shape_in e) + sum_by (parts_of (table_of entries)) e.components.items) = subst (λ (n : ℕ). Counts e.parts n) sums c.parts_with-parts.ensures in
    let all = subst (λ (t : List Shape). All (λ c. (c < length t) × (0 < parts_of t c)) e.components.items) (sym c.self.view_is) c.requires in
    either (is_ok c.push.result) c.push.new.self.items entries (entries ++ e ∷ []) c.push.ensures.items c.self.invariant (counted_push entries e c.self.invariant all parts)
