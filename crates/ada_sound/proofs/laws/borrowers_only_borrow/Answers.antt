-- By what suits a borrower.
use Rattle.ada_sound.proofs.Borrowing as borrowing
use Rattle.ada_sound.proofs.laws.borrowers_only_borrow.Goals as goal

pub returns-clause-moves_nothing : goal.returns-clause-moves_nothing
returns-clause-moves_nothing c = borrowing.borrowers_move_nothing

pub returns-clause-owns_nothing : goal.returns-clause-owns_nothing
returns-clause-owns_nothing c = borrowing.borrowers_own_nothing

pub returns-clause-moves_nothing_declared : goal.returns-clause-moves_nothing_declared
returns-clause-moves_nothing_declared c = borrowing.declared_borrowers_move_nothing

pub returns-clause-owns_nothing_declared : goal.returns-clause-owns_nothing_declared
returns-clause-owns_nothing_declared c = borrowing.declared_borrowers_own_nothing

pub returns-clause-lost_is_refused : goal.returns-clause-lost_is_refused
returns-clause-lost_is_refused c = borrowing.lost_is_not_borrowed
