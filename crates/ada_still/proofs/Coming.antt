-- What holds of each state that may come next, whatever is answered.

use Rattle.std.proofs.Common.{ℕ, Bool}
use Rattle.ada_meaning.specs.Step.{halts, moves, tells, asks, picks}
use Rattle.ada_meaning.specs.Named.{State, Next}
use Rattle.ada_meaning.specs.Run.{Event, Choice, settled, grants, takes, Leads}

-- It holds of each of them, and of the members that are there to be picked, and of others.
abbrev pub AllNext : (State → Type 0) → Next → Type 0
AllNext P (halts halt) = Unit {0}
AllNext P (moves e s) = P s
AllNext P (tells request e s) = P s
AllNext P (asks request answers) = (granted : Bool) → P (answers granted)
AllNext P (picks n taking) = (i : ℕ) → P (taking i)

-- What follows from it holds, too.
pub all_next : (P Q : State → Type 0) → ((s : State) → P s → Q s) → (coming : Next) → AllNext P coming → AllNext Q coming
all_next P Q follows (halts halt) all = tt
all_next P Q follows (moves e s) all = follows s all
all_next P Q follows (tells request e s) all = follows s all
all_next P Q follows (asks request answers) all = λ granted. follows (answers granted) (all granted)
all_next P Q follows (picks n taking) all = λ i. follows (taking i) (all i)

-- It holds where a choice leads.
pub led_next : (P : State → Type 0) (coming : Next) (choice : Choice) (e : Event) (after : State) → AllNext P coming → Leads coming choice e after → P after
led_next P (halts halt) choice e after all leads = absurd leads
led_next P (moves shown s) settled e after all leads = rw (leads.1) all
led_next P (tells request shown s) settled e after all leads = rw (leads.1) all
led_next P (asks request answers) (grants granted) e after all leads = rw (leads.1) (all granted)
led_next P (picks n taking) (takes i) e after all leads = rw (leads.2) (all i)
led_next P (moves shown s) (grants granted) e after all leads = absurd leads
led_next P (moves shown s) (takes i) e after all leads = absurd leads
led_next P (tells request shown s) (grants granted) e after all leads = absurd leads
led_next P (tells request shown s) (takes i) e after all leads = absurd leads
led_next P (asks request answers) settled e after all leads = absurd leads
led_next P (asks request answers) (takes i) e after all leads = absurd leads
led_next P (picks n taking) settled e after all leads = absurd leads
led_next P (picks n taking) (grants granted) e after all leads = absurd leads
