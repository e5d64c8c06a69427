-- Where nothing stands behind the fault, nothing is cut.

use Rattle.std.proofs.Common.{◌≡◌, Bool, true, false, None, refl, ap, ◌∙◌}
use Rattle.std.specs.Prelude.{if◌then◌else◌}
use Rattle.ada_text.specs.declared.spot.Spot.{Spot}
use Rattle.ada_tree.specs.Statements.{DeclarationsTree, StatementsTree, HandlersTree, SequenceTree, a_sequence, begin_of}
use Rattle.ada_front.specs.Front.{declarations_before, handlers_before, handlers_start, part_before, sequence_before, settled_all, stands_before, statements_before}
use Rattle.ada_front.specs.Example.{LeavesWhatStandsBefore}
use Rattle.ada_front.specs.Spots.{declaration_start, statement_start}
use Rattle.ada_front.specs.Laws.{IsOver, WholeBehind}

if_true : {A : Type 0} (b : Bool) (x y : A) → b ≡ true → (if b then x else y) ≡ x
if_true true x y e = refl
if_true false x y e = absurd (cc e)

if_false : {A : Type 0} (b : Bool) (x y : A) → b ≡ false → (if b then x else y) ≡ y
if_false true x y e = absurd (cc e)
if_false false x y e = refl

-- A sequence that is over stays.
sequence_over : (fault : Spot) (body : SequenceTree) → IsOver fault body → sequence_before fault body ≡ body
unfolding sequence_before
sequence_over fault (a_sequence start ss hs last) over =
    ap (λ (left : StatementsTree). a_sequence start left (if stands_before fault last then handlers_before fault hs else hs) last)
    (if_false (stands_before fault (handlers_start hs last)) (statements_before fault ss) ss over.1) ∙
    ap (λ (left : HandlersTree). a_sequence start ss left last) (if_false (stands_before fault last) (handlers_before fault hs) hs over.2)

-- The declarations before it stay.
part_over : (fault : Spot) (body : SequenceTree) (ds : DeclarationsTree) → IsOver fault body → part_before fault (begin_of body) ds ≡ ds
part_over fault (a_sequence start ss hs last) ds over =
    if_true (stands_before start fault) ds (settled_all (if stands_before fault start then declarations_before fault ds else ds)) over.0

pub whole_behind : WholeBehind
whole_behind fault tree over =
    ap (λ (left : DeclarationsTree). record tree { declarations = left; body = sequence_before fault tree.body; end_name = None })
    (part_over fault tree.body tree.declarations over) ∙
    ap (λ (left : SequenceTree). record tree { body = left; end_name = None }) (sequence_over fault tree.body over)

pub left_before : LeavesWhatStandsBefore
unfolding declarations_before declaration_start statement_start
left_before = refl
