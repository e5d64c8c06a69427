-- An object that has left its collection is gone.
use Rattle.std.proofs.Common.{map, ap, ◌∙◌, List}
use Rattle.ada_meaning.specs.Named.{Object, object_at, changed}
use Rattle.ada_interpreter.specs.Objects.{all_of, kept_of, gone}
use Rattle.ada_interpreter.proofs.MemberLemmas.{gone_shelved, finished_is}
use Rattle.ada_interpreter.proofs.objects.Objects.finish.Goals as goal

pub invariant_of-self : goal.invariant_of-self
invariant_of-self c = rw c.set_gone.ensures (gone_shelved (all_of c.self.inside.objects) (map kept_of c.self.inside.shelves.items) c.args.o c.self.invariant)

pub returns : goal.returns
returns c = c.set_gone.ensures ∙ ap (λ (xs : List Object). changed gone (object_at xs c.args.o) xs c.args.o) (c.self.view_is ∙ c.part.ensures) ∙ finished_is c.args.self.now c.args.o
