-- Laws of bodies that lead back to themselves.

use Rattle.ada_quiet.proofs.Unused.{one_first}
use Rattle.ada_circles.specs.Circles.{leads, leads_on, HasCircle}
use Rattle.ada_circles.specs.Laws.{OneIsFirst, LeadingGoesOn}

-- Two first ones are one.
pub one_is_first : OneIsFirst
one_is_first p = one_first (HasCircle p)

-- What leads to something leads on.
pub goes_on : LeadingGoesOn
goes_on p a b other before (leads one) = leads_on before one
goes_on p a b other before (leads_on {between} more one) = leads_on (goes_on p a b between before more) one
