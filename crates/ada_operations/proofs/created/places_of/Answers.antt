use Rattle.std.proofs.Common.{◌≡◌, List, length, map, ap, ◌∙◌, arith}
use Rattle.std.specs.Prelude.{Option, flat_map}
use Rattle.ada_operations.specs.Created.{stmts_collections, handlers_collections, body_collections, collections_of}
use Rattle.ada_operations.specs.View.{with_part, with_parts}
use Rattle.ada_operations.specs.declared.places.Place.{Place}
use Rattle.ada_operations.proofs.Table.{built, all_placed, all_sized}
use Rattle.ada_program.specs.declared.program.Declaration.{Declaration}
use Rattle.ada_program.specs.declared.program.Handler.{Handler}
use Rattle.ada_program.specs.declared.program.Procedure.{Procedure}
use Rattle.ada_program.specs.declared.program.Program.{Program}
use Rattle.ada_program.specs.declared.program.Stmt.{Stmt}
use Rattle.ada_program.specs.Form.{declaration_form, handlers_form, stmts_form}
use Rattle.ada_program.specs.Nested.{collected}
use Rattle.ada_program.specs.ProgramForm.{body_form, program_form}
use Rattle.ada_operations.proofs.created.places_of.Goals as goal

-- the parts of a program, one after another
all_parts : (p : Program) (ds : List Declaration) (fs : List Stmt) (hs : List Handler) (bs : List Procedure) (t0 t1 t2 t3 t4 : List (Option Place)) →
    ds ≡ p.declarations.items → fs ≡ p.statements.items → hs ≡ p.handlers.items → bs ≡ p.procedures.items →
    t1 ≡ with_part (collected (map declaration_form ds)) t0 → t2 ≡ with_parts (stmts_collections (stmts_form fs)) t1 →
    t3 ≡ with_parts (handlers_collections (handlers_form hs)) t2 → t4 ≡ with_parts (flat_map body_collections (map body_form bs)) t3 →
    t4 ≡ with_parts (collections_of (program_form p)) t0
all_parts p ds fs hs bs t0 t1 t2 t3 t4 one two three four a b c d =
    built (collected (map declaration_form p.declarations.items)) (stmts_collections (stmts_form p.statements.items)) (handlers_collections (handlers_form p.handlers.items))
    (flat_map body_collections (map body_form p.procedures.items)) t0 t1 t2 t3 t4
    (a ∙ ap (λ (xs : List Declaration). with_part (collected (map declaration_form xs)) t0) one)
    (b ∙ ap (λ (xs : List Stmt). with_parts (stmts_collections (stmts_form xs)) t1) two)
    (c ∙ ap (λ (xs : List Handler). with_parts (handlers_collections (handlers_form xs)) t2) three)
    (d ∙ ap (λ (xs : List Procedure). with_parts (flat_map body_collections (map body_form xs)) t3) four)

pub returns-clause-size : goal.returns-clause-size
returns-clause-size c =
    let p = c.args.program.now in
    let parts = collections_of (program_form p) in
    let size : c.len.result ≡ length p.types.items = omega (arith, c.len.ensures, p.types.ok.0) in
    all_sized parts c.len.result c.add_bodies.new.places.table.items
    (all_parts p c.deref.result.now c.deref-2.result.now c.deref-3.result.now c.deref-4.result.now c.in_ok-places.places.table.items c.add_part.new.places.table.items
    c.add_statements.new.places.table.items c.add_handlers.new.places.table.items c.add_bodies.new.places.table.items c.deref.ensures.value c.deref-2.ensures.value
    c.deref-3.ensures.value c.deref-4.ensures.value c.add_part.ensures c.add_statements.ensures c.add_handlers.ensures c.add_bodies.ensures
    ∙ ap (with_parts parts) c.in_ok-places.ensures)
    ∙ size

pub returns-clause-places : goal.returns-clause-places
returns-clause-places c = λ t lt.
    let p = c.args.program.now in
    let parts = collections_of (program_form p) in
    let size : c.len.result ≡ length p.types.items = omega (arith, c.len.ensures, p.types.ok.0) in
    all_placed parts c.len.result c.add_bodies.new.places.table.items
    (all_parts p c.deref.result.now c.deref-2.result.now c.deref-3.result.now c.deref-4.result.now c.in_ok-places.places.table.items c.add_part.new.places.table.items
    c.add_statements.new.places.table.items c.add_handlers.new.places.table.items c.add_bodies.new.places.table.items c.deref.ensures.value c.deref-2.ensures.value
    c.deref-3.ensures.value c.deref-4.ensures.value c.add_part.ensures c.add_statements.ensures c.add_handlers.ensures c.add_bodies.ensures
    ∙ ap (with_parts parts) c.in_ok-places.ensures)
    t (omega (arith, size, lt))
