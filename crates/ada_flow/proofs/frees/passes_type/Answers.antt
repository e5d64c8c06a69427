use Rattle.std.proofs.Common.{◌≡◌, ℕ, ◌+◌, ◌<◌, Bool, true, ◌||◌, List, get_or, length, map, drop, Option, sym, ap, ◌∙◌, arith}
use Rattle.std.proofs.lemmas.List.{at_drop_more}
use Rattle.ada_program.specs.declared.program.ComponentNo.{ComponentNo}
use Rattle.ada_program.specs.declared.program.VariableKind.{VariableKind}
use Rattle.ada_program.specs.Form.{component_number}
use Rattle.ada_program.specs.ProgramForm.{TypeForm, type_form}
use Rattle.ada_program.specs.WellFormed.{access_of, is_this, selected_kind}
use Rattle.ada_flow.specs.Flow.{passes_type}
use Rattle.ada_flow.proofs.frees.passes_type.Goals as goal

-- a path that follows a value of the type passes it
passes_here : (types : List TypeForm) (kind : Option VariableKind) (cs : List ComponentNo) (i t : ℕ) → i < length cs →
    is_this t (access_of kind) ≡ true → passes_type types kind (map component_number (drop i cs)) t ≡ true
passes_here types kind cs i t inside here =
    let first : ComponentNo = record { 0 = 0 } in
    at_drop_more (λ (ds : List ComponentNo). passes_type types kind (map component_number ds) t) cs i first inside
    ∙ ap (λ (b : Bool). b || passes_type types (selected_kind types kind (get_or cs i first).0) (map component_number (drop (i + 1) cs)) t) here

pub returns-then-is_this : goal.returns-then-is_this
returns-then-is_this c =
    let here : is_this c.args.access (access_of c.selectors.kind) ≡ true = ap (is_this c.args.access) (sym c.access_of.ensures) ∙ sym c.is_this.ensures ∙ c.if-is_this.true in
    let inside : c.selectors.component-index < length c.args.path.now.selectors.items = omega (arith, ap length c.deref-component-items.ensures.value) in
    sym (passes_here (map type_form c.args.types.now) c.selectors.kind c.args.path.now.selectors.items c.selectors.component-index c.args.access inside here)
    ∙ c.selectors.invariant
