use Rattle.std.proofs.Common.{◌≡◌, map, drop}
use Rattle.ada_flow.specs.Flow.{declarations_flow}
use Rattle.ada_flow.specs.Told.{ending, implicit_around, noted, tracks_around, types_in, variables_in}
use Rattle.ada_program.specs.Form.{declaration_form}
use Rattle.ada_flow.proofs.analysis.declare.Given as goal

-- what is left, from what the variables hold now, ends as all end
abbrev pub invariant-declarations : goal.invariant-declarations
invariant-declarations l =
    ending (noted l.raised) (declarations_flow (types_in l.around) (variables_in l.around) (tracks_around l.around) (implicit_around l.around) (map declaration_form (drop l.one-index l.declarations)) l.known.holds.items)
    ≡ ending (noted l.fn.raised) (declarations_flow (types_in l.around) (variables_in l.around) (tracks_around l.around) (implicit_around l.around) (map declaration_form l.declarations) l.fn.known.holds.items)
