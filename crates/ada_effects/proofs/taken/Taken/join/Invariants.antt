use Rattle.std.proofs.Common.{◌≡◌, drop}
use Rattle.ada_effects.specs.Taken.{set_of, with_handlers, without}
use Rattle.ada_program.specs.Form.{handlers_form}
use Rattle.ada_effects.proofs.taken.Taken.join.Given as goal

-- what is left joins as all do, and those that joined so far leave again
abbrev pub invariant-handlers : goal.invariant-handlers
invariant-handlers l = record {
  joined : with_handlers (handlers_form (drop l.handler-index l.handlers)) (set_of l.self) ≡ with_handlers (handlers_form l.handlers) (set_of l.fn.self);
  listed : without l.joined.items (set_of l.self) ≡ set_of l.fn.self;
}
