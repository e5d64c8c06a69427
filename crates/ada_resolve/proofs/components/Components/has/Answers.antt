-- A component is found exactly where one has the name.
use Rattle.std.proofs.Common.{◌∙◌, ap, ℕ}
use Rattle.std.specs.Prelude.{Option, is_some}
use Rattle.ada_resolve.specs.declared.components.KnownComponent.{KnownComponent}
use Rattle.ada_resolve.specs.Kept.{forms_of}
use Rattle.ada_resolve.specs.Records.{is_component}
use Rattle.ada_resolve.proofs.ComponentLists.{named_is_component, parts_kept}
use Rattle.ada_resolve.proofs.components.Components.has.Goals as goal

pub returns : goal.returns
returns c =
    c.is_some.ensures ∙
    (ap (λ (found : Option (ℕ × KnownComponent)). is_some found) c.named.ensures ∙
    (named_is_component 0 c.args.text.now (forms_of c.args.self.now) ∙ ap (is_component c.args.text.now) (parts_kept c.args.self.now)))
