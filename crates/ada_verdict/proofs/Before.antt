-- What is told before a fault of the names, by what the code finds of the front.

use Rattle.std.proofs.Common.{◌≡◌, ℕ, List, Option, Some, None, refl, sym, ap, subst, ◌∙◌}
use Rattle.ada_text.specs.declared.spot.Spot.{Spot}
use Rattle.ada_tree.specs.Statements.{UnitTree}
use Rattle.ada_program.specs.ProgramForm.{ProgramForm}
use Rattle.ada_front.specs.Front.{front_of}
use Rattle.ada_resolve.specs.declared.fault.NameFault.{NameFault}
use Rattle.ada_resolve.specs.declared.fault.NameFault.TheVariants as names
use Rattle.ada_resolve.specs.declared.fault.NameRule.{NameRule}
use Rattle.ada_resolve.specs.Resolution.{IsFirstNameFault, Resolves, resolution}
use Rattle.ada_rounds.specs.FirstRound.{IsFirstRound}
use Rattle.ada_verdict.specs.declared.fault.Verdict.TheVariants as verdict
use Rattle.ada_verdict.specs.First.{IsFirst, IsFirstBefore, IsSourceOf}
use Rattle.ada_verdict.proofs.Firsts.{gives_none, gives_one}

-- The front is a program, and this is its first operation that calls itself, or it has none.
pub first_in_front : (fault : Spot) (tree front : UnitTree) (p : ProgramForm) (o : Option Spot) → front ≡ front_of fault tree → Resolves front p → IsFirstRound p o
    → IsFirstBefore fault tree o
first_in_front fault tree front p None is resolved none =
    λ q other. subst (λ (form : ProgramForm). IsFirstRound form None) (gives_one p q (sym resolved ∙ ap resolution is ∙ other)) none
first_in_front fault tree front p (Some spot) is resolved round = (p, ap resolution (sym is) ∙ resolved, round)

-- The front is no program.
pub none_in_front : (fault : Spot) (tree front : UnitTree) (spot : Spot) (rule : NameRule) → front ≡ front_of fault tree → IsFirstNameFault front spot rule
    → IsFirstBefore fault tree None
none_in_front fault tree front spot rule is broken = λ q other. gives_none spot rule q (sym broken ∙ ap resolution is ∙ other)

-- Memory ran out while the front was looked at.
pub memory_told : (source : List ℕ) (tree : UnitTree) (why : NameFault) → why ≡ names.NoMemory → IsSourceOf source tree → IsFirst source (verdict.Names why)
memory_told source tree why is text = subst (λ (w : NameFault). IsFirst source (verdict.Names w)) (sym is) (tree, text, tt, tt)
