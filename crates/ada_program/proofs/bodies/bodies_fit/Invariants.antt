use Rattle.std.proofs.Common.{◌≡◌, [], map, take, drop}
use Rattle.ada_program.specs.Kept.{profiles_in, texts_in, types_in}
use Rattle.ada_program.specs.ProgramForm.{body_form}
use Rattle.ada_program.specs.WellFormed.{bodies_fit}
use Rattle.ada_program.proofs.bodies.bodies_fit.Given as goal

-- what is left, behind the procedures before it, tells of all
abbrev pub invariant-loop-number : goal.invariant-loop-number
invariant-loop-number l =
    bodies_fit (types_in l.types) (texts_in l.texts) (texts_in l.exceptions) (profiles_in (take l.number l.procedures)) (map body_form (drop l.number l.procedures))
    ≡ bodies_fit (types_in l.types) (texts_in l.texts) (texts_in l.exceptions) [] (map body_form l.procedures)
