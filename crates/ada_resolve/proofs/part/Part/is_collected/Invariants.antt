use Rattle.std.proofs.Common.{◌≡◌, map, drop}
use Rattle.ada_program.specs.Form.{declaration_form}
use Rattle.ada_resolve.specs.Instances.{is_collected}
use Rattle.ada_resolve.proofs.part.Part.is_collected.Given as goal

-- what is left decides
abbrev pub invariant-loop-declaration : goal.invariant-loop-declaration
invariant-loop-declaration l =
    is_collected l.number.0 (map declaration_form (drop l.declaration-index l.self.declarations.items)) ≡ is_collected l.number.0 (map declaration_form l.self.declarations.items)
