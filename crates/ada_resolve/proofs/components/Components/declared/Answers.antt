-- What the components are, as they are declared.
use Rattle.std.proofs.Common.{◌∙◌, List, map, ap, sym}
use Rattle.ada_resolve.specs.declared.components.KnownComponent.{KnownComponent}
use Rattle.ada_resolve.specs.Kept.{forms_of, kind_of_known}
use Rattle.ada_resolve.proofs.ComponentLists.{kinds_as_kept}
use Rattle.ada_resolve.proofs.components.Components.declared.Goals as goal

pub returns : goal.returns
unfolding forms_of
returns c = ap (λ (cs : List KnownComponent). map kind_of_known cs) (c.as_slice.ensures ∙ c.values.ensures.rest) ∙ sym (kinds_as_kept c.args.self.now.entries.entries)
