use Rattle.std.proofs.Common.{◌≡◌, ◌∷◌, cond, drop}
use Rattle.ada_text.specs.Identifier.{underscores_stand_alone}
use Rattle.ada_text.proofs.identifier.underscores_stand_alone.Given as goal

-- the rest decides, with the underscore that was passed last in front of it
abbrev pub invariant-loop-byte : goal.invariant-loop-byte
invariant-loop-byte l =
    let rest = drop l.byte-index l.word in
    cond l.after_underscore (underscores_stand_alone (95 ∷ rest)) (underscores_stand_alone rest) ≡ underscores_stand_alone l.word
