-- Sequences by what they are made of.

use Rattle.std.proofs.Common.{◌≡◌, map, ap, sym, ◌∙◌}
use Rattle.ada_tree.specs.declared.statements.Sequence.{Sequence, out-Sequence, roll-out-Sequence}
use Rattle.ada_tree.specs.Statements.{a_sequence, begin_of, handlers_from}
use Rattle.ada_tree.specs.StatementView.{handler_of, sequence_of, sequence_view, statements_of}

-- a sequence
pub body_view : (body : Sequence) → sequence_of body ≡ a_sequence (out-Sequence body).begin (statements_of (out-Sequence body).statements.items) (handlers_from (map handler_of (out-Sequence body).handlers.items)) (out-Sequence body).«end»
body_view body =
    ap sequence_of (sym (roll-out-Sequence body)) ∙
    sequence_view (out-Sequence body).begin (out-Sequence body).statements (out-Sequence body).handlers (out-Sequence body).«end»

-- where its `begin` stands
pub begin_view : (body : Sequence) → begin_of (sequence_of body) ≡ (out-Sequence body).begin
begin_view body = ap begin_of (body_view body)
