use Rattle.std.proofs.Common.{◌≡◌, drop}
use Rattle.ada_effects.specs.Taken.{set_of, with_choices, without}
use Rattle.ada_effects.proofs.taken.Taken.join_choices.Given as goal

-- what is left joins as all do, and those that joined so far leave again
abbrev pub invariant-choices : goal.invariant-choices
invariant-choices l = record {
  joined : with_choices (drop l.choice-index l.choices) (set_of l.self) ≡ with_choices l.choices (set_of l.fn.self);
  listed : without l.joined.items (set_of l.self) ≡ without l.fn.joined.items (set_of l.fn.self);
}
