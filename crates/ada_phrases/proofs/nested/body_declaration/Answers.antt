use Rattle.std.proofs.Common.{ap, ◌∙◌}
use Rattle.ada_tree.specs.Names.{optional_ident_of}
use Rattle.ada_tree.specs.Declarations.{head_of}
use Rattle.ada_tree.specs.Statements.{body_declaration}
use Rattle.ada_tree.specs.StatementView.{body_view, declarations_of, sequence_of}
use Rattle.ada_phrases.proofs.Built.{built_declaration}
use Rattle.ada_phrases.proofs.nested.body_declaration.Goals as goal

pub returns : goal.returns
returns c =
    built_declaration _ c.held_declaration.result _ c.held_declaration.ensures
    (body_view c.args.head c.args.declarations c.into_inner-body.result c.args.end_name ∙
    ap (λ body. body_declaration (head_of c.args.head) (declarations_of c.args.declarations.items) (sequence_of body) (optional_ident_of c.args.end_name)) c.into_inner-body.ensures)
