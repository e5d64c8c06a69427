use Rattle.std.specs.Prelude.{Result, Ok, Err, OnOk}
use Rattle.std.proofs.Common.{◌≡◌, ◌+◌, List, length, sym, ◌∙◌, subst}
use Rattle.std.proofs.lemmas.List.{length-map}
use Rattle.ada_deeds.specs.Graph.{AddsCalls, AddsStarts, IsSearched}
use Rattle.ada_deeds.specs.declared.calls.Calls.{Calls}
use Rattle.ada_deeds.specs.declared.deed.Callee.{Callee}
use Rattle.ada_deeds.proofs.Calling.{idle_searched, one_more_searched}
use Rattle.ada_program.specs.declared.program.TypeNo.{TypeNo}
use Rattle.ada_program.specs.ProgramForm.{program_form, type_form}
use Rattle.ada_reach.specs.View.{graph_of}
use Rattle.ada_deeds.proofs.calls.Calls.add.Goals as goal

at_last : {X E : Type 0} (r : Result X E) (P Q : Type 0) → (P → Q) → OnOk r P → OnOk r Q
at_last (Ok u) P Q f h = f h
at_last (Err e) P Q f h = h

-- the callee of the node does nothing
pub returns-then-is_idle : goal.returns-then-is_idle
returns-then-is_idle c =
    idle_searched (program_form c.args.program.now) c.args.search c.args.nodes.procedures c.args.nodes.types c.args.node c.args.self.now c.callee-callee.result
    c.requires.graph c.callee-callee.ensures (c.is_idle.ensures c.if-is_idle.true)

-- the callee of the node has its edges, and the node is a start where the callee does a deed itself
pub returns : goal.returns
returns c =
    let p = program_form c.args.program.now in
    let ps = c.args.nodes.procedures in
    let ts = c.args.nodes.types in
    let f = c.in_ok-found.found in
    let before = c.args.self.now in
    let after : Calls = record {
      callers = c.add_calls.new.lists;
      itself = c.add_start.new.starts;
      freeing = c.add_starts.new.lists;
      following = c.add_starts-2.new.lists;
    } in
    let types : ts ≡ length p.types = c.requires.types ∙ sym (length-map c.args.program.now.types.items type_form) in
    let calls : AddsCalls ps ts c.args.node f.callees.items (graph_of before.callers.items) (graph_of after.callers.items) =
    subst (λ (cs : List Callee). AddsCalls ps ts c.args.node cs (graph_of before.callers.items) (graph_of after.callers.items)) c.deref.ensures.value c.in_ok-add_calls.ensures in
    let freed : AddsStarts f.freed.items c.args.node (graph_of before.freeing.items) (graph_of after.freeing.items) =
    subst (λ (xs : List TypeNo). AddsStarts xs c.args.node (graph_of before.freeing.items) (graph_of after.freeing.items)) c.deref-2.ensures.value c.in_ok-add_starts.ensures in
    at_last c.add_starts-2.result (AddsStarts c.deref-3.result.now c.args.node (graph_of before.following.items) (graph_of after.following.items))
    (IsSearched p c.args.search ps ts (c.args.node + 1) after)
    (λ h. one_more_searched p c.args.search ps ts c.args.node before after c.callee-callee.result f types c.requires.graph c.callee-callee.ensures c.in_ok-found.ensures calls c.in_ok-add_start.ensures freed
    (subst (λ (xs : List TypeNo). AddsStarts xs c.args.node (graph_of before.following.items) (graph_of after.following.items)) c.deref-3.ensures.value h))
    c.add_starts-2.ensures
