use Rattle.std.proofs.Common.{refl}
use Rattle.ada_effects.specs.Taken.{set_of}
use Rattle.ada_effects.proofs.Sets.{left_of_all}
use Rattle.ada_effects.proofs.effect.raised_by.Goals as goal

-- nothing is taken around a body, and nothing is found before it
pub returns : goal.returns
returns c = λ among.
    let all = left_of_all (set_of c.new-taken.result) among c.new-taken.ensures in
    rw (
      c.into_list.ensures,
      c.in_ok-find_in_handlers.ensures.found among,
      c.in_ok-find_handled.ensures.kept,
      c.in_ok-find_handled.ensures.found among,
      c.in_ok-find_in_declarations.ensures among,
      c.nothing-found.ensures among,
      all,
      c.deref.ensures.value,
      c.deref-2.ensures.value,
      c.deref-3.ensures.value,
      c.deref-4.ensures.value,
    ) refl
