use Rattle.std.specs.Global.{Vec}
use Rattle.std.specs.Prelude.{Result, Ok, Err, IfOk, Bool}
use Rattle.std.proofs.Common.{◌≡◌, length, sym, ◌∙◌}
use Rattle.std.proofs.lemmas.List.{length-map}
use Rattle.ada_deeds.specs.Graph.{MarksReached, MarksDoers}
use Rattle.ada_deeds.specs.declared.deed.Deed.TheVariants as deed
use Rattle.ada_deeds.proofs.Calling.{reached_are_doers}
use Rattle.ada_program.specs.ProgramForm.{program_form, body_form, type_form}
use Rattle.ada_reach.specs.View.{graph_of}
use Rattle.ada_deeds.proofs.raisers.raisers_of.Goals as goal

if_ok : {X E : Type 0} (r : Result X E) (P Q : X → Type 0) → ((x : X) → P x → Q x) → IfOk r P → IfOk r Q
if_ok (Ok x) P Q f h = f x h
if_ok (Err e) P Q f h = h

-- what is reached from what it comes out of itself are all
pub returns : goal.returns
returns c =
    let p = program_form c.args.program.now in
    let calls = c.in_ok-calls.calls in
    let d = deed.Raises c.args.exception in
    let ps : c.args.nodes.procedures ≡ length p.bodies = c.requires.procedures ∙ sym (length-map c.args.program.now.procedures.items body_form) in
    let ts : c.args.nodes.types ≡ length p.types = c.requires.types ∙ sym (length-map c.args.program.now.types.items type_form) in
    if_ok c.doers.result (λ (marks : Vec Bool). MarksReached (graph_of calls.callers.items) calls.itself.items marks.items)
    (λ (marks : Vec Bool). MarksDoers p d c.args.nodes.procedures c.args.nodes.types marks.items)
    (λ marks reached. reached_are_doers p d c.args.nodes.procedures c.args.nodes.types (graph_of calls.callers.items) calls.itself.items marks.items ps ts c.requires.deed
    (c.in_ok-calls.ensures.graph deed.Allocates c.requires.deed) reached)
    c.doers.ensures
