-- What holds of all that may come next.

use Rattle.std.proofs.Common.{ℕ, ◌<◌, Bool}
use Rattle.ada_meaning.specs.Event.{Quiet}
use Rattle.ada_meaning.specs.Step.{halts, moves, tells, asks, picks}
use Rattle.ada_meaning.specs.Named.{State, Next}
use Rattle.ada_meaning.specs.Run.{Event, Choice, settled, grants, takes, Leads}

-- What comes next leads there, whatever is answered.
abbrev pub Leading : (Event → State → Type 0) → Next → Type 0
Leading P (halts halt) = Unit {0}
Leading P (moves e s) = P e s
Leading P (tells request e s) = P e s
Leading P (asks request answers) = (granted : Bool) → P Quiet (answers granted)
Leading P (picks n taking) = (i : ℕ) → i < n → P Quiet (taking i)

pub leading_map : (P Q : Event → State → Type 0) (n : Next) → ((e : Event) (s : State) → P e s → Q e s) → Leading P n → Leading Q n
leading_map P Q (halts halt) f h = tt
leading_map P Q (moves e s) f h = f e s h
leading_map P Q (tells request e s) f h = f e s h
leading_map P Q (asks request answers) f h = λ granted. f Quiet (answers granted) (h granted)
leading_map P Q (picks n taking) f h = λ i lt. f Quiet (taking i) (h i lt)

-- So each step does.
pub led : (P : Event → State → Type 0) (n : Next) (choice : Choice) (e : Event) (after : State) → Leading P n → Leads n choice e after → P e after
led P (halts halt) choice e after d l = absurd l
led P (moves shown u) settled e after d l = rw (l.0, l.1) d
led P (moves shown u) (grants granted) e after d l = absurd l
led P (moves shown u) (takes i) e after d l = absurd l
led P (tells request shown u) settled e after d l = rw (l.0, l.1) d
led P (tells request shown u) (grants granted) e after d l = absurd l
led P (tells request shown u) (takes i) e after d l = absurd l
led P (asks request answers) settled e after d l = absurd l
led P (asks request answers) (grants granted) e after d l = rw (l.0, l.1) (d granted)
led P (asks request answers) (takes i) e after d l = absurd l
led P (picks n taking) settled e after d l = absurd l
led P (picks n taking) (grants granted) e after d l = absurd l
led P (picks n taking) (takes i) e after d l = rw (l.1, l.2) (d i l.0)

pub leading_both : (P Q : Event → State → Type 0) (n : Next) → Leading P n → Leading Q n → Leading (λ e s. P e s × Q e s) n
leading_both P Q (halts halt) a b = tt
leading_both P Q (moves e s) a b = (a, b)
leading_both P Q (tells request e s) a b = (a, b)
leading_both P Q (asks request answers) a b = λ granted. (a granted, b granted)
leading_both P Q (picks n taking) a b = λ i lt. (a i lt, b i lt)
