-- The record itself comes before its components, if it is controlled.
use Rattle.std.proofs.Common.{◌≡◌, ◌++◌, List, map, refl, sym, ap, ◌∙◌, append_assoc}
use Rattle.std.proofs.lemmas.List.{map-append, append-nil}
use Rattle.ada_meaning.specs.Heap.{PartState}
use Rattle.ada_interpreter.specs.Treatment.{part_form}
use Rattle.ada_interpreter.specs.Loaded.{parts_within}
use Rattle.ada_interpreter.proofs.LayoutLemmas.{own_parts, none_laid, laid}
use Rattle.ada_interpreter.proofs.loaded.Loaded.+parts.Goals as goal
use Rattle.ada_interpreter.proofs.loaded.Loaded.+parts.Goals.{then-layout+in_ok-push, else-layout}

pub returns-in_default : goal.returns-in_default
returns-in_default t c =
    let self = c.args.self.now in
    let past = c.in_default.ensures.lookup.3 in
    let none = none_laid self.program.now.types.items self.layouts.items self.laid_out c.args.base c.args.number (rw c.deref.ensures.value at past) in
    sym (ap (λ (ps : List PartState). map part_form c.args.parts.now.items ++ ps) none ∙ append-nil (map part_form c.args.parts.now.items))

pub loop-inner-init : goal.loop-inner-init
loop-inner-init t c =
    let self = c.args.self.now in
    let types = self.program.now.types.items in
    let layout = c.in-Some.layout.now in
    let less = rw c.deref.ensures.value at c.in-Some.ensures.lookup.3.0 in
    let here = rw c.deref.ensures.value at c.in-Some.ensures.lookup.1 in
    let all = laid types self.layouts.items self.laid_out c.args.base c.args.number layout less here in
    let own : map part_form c.if-layout.parts.items ≡ map part_form c.args.parts.now.items ++ own_parts layout.controlled c.args.base = elim c.if-layout.branch [
      | then-layout+in_ok-push w ↦ rw (w.parts-is, w.in_ok-push.ensures.items, map-append, w.new.ensures, w.if-layout.true) refl
      | else-layout w ↦ rw (w.parts-is, w.if-layout.false) (sym (append-nil (map part_form c.args.parts.now.items)))
    ] in
    rw (c.as_slice-inner-items.ensures.value, own)
    (append_assoc (map part_form c.args.parts.now.items) (own_parts layout.controlled c.args.base) (parts_within types c.args.base c.args.number layout.inner.items)
    ∙ ap (λ (ps : List PartState). map part_form c.args.parts.now.items ++ ps) all)
