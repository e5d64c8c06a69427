-- What is left of the entries are the members among them.
use Rattle.std.proofs.Common.{rules}
use Rattle.std.proofs.lemmas.Fn.{filter_same}
use Rattle.ada_interpreter.specs.Objects.{all_of}
use Rattle.ada_interpreter.proofs.MemberLemmas.{members_left}
use Rattle.ada_interpreter.proofs.objects.keep_members.Goals as goal

pub returns : goal.returns
returns c = members_left (all_of c.args.objects.now) c.args.item _ _ (filter_same _ _ _ (λ x b f' k. search rules) _ _ c.retain.ensures.filtered)
