use Rattle.std.proofs.Common.{◌≡◌, ℕ, nat_lt, length, refl, sym, ap, ◌∙◌, arith}
use Rattle.std.proofs.lemmas.List.{length-map}
use Rattle.std.proofs.lemmas.Grind.{common_steps}
use Rattle.ada_deeds.specs.Does.{is_deed_of}
use Rattle.ada_deeds.specs.declared.deed.Deed.{Deed}
use Rattle.ada_deeds.specs.declared.deed.Deed.TheVariants as deed
use Rattle.ada_deeds.specs.declared.deeds.Deeds.{Deeds}
use Rattle.ada_deeds.proofs.Calling.{none_reached, reached_are_doers}
use Rattle.ada_deeds.proofs.Exact.{exact, is_counted, numbered_exact}
use Rattle.ada_program.specs.declared.program.Exception.TheVariants.{Declared}
use Rattle.ada_program.specs.ProgramForm.{program_form, body_form, type_form}
use Rattle.ada_reach.specs.View.{graph_of}
use Rattle.ada_deeds.proofs.deeds.Deeds.new.Goals as goal

abbrev raising : ℕ → Deed
raising n = deed.Raises (Declared (record { 0 = n }))

abbrev freeing : ℕ → Deed
freeing n = deed.Frees (record { 0 = n })

abbrev following : ℕ → Deed
following n = deed.Follows (record { 0 = n })

-- each row marks what does its deed
pub returns : goal.returns
returns c =
    let p = program_form c.args.program.now in
    let n = c.in_ok-nodes.nodes in
    let ps : n.procedures ≡ length p.bodies = c.in_ok-nodes.ensures.procedures ∙ sym (length-map c.args.program.now.procedures.items body_form) in
    let ts : n.types ≡ length p.types = c.in_ok-nodes.ensures.types ∙ sym (length-map c.args.program.now.types.items type_form) in
    let es : c.len-exceptions.result ≡ length p.exceptions = grind (arith, common_steps) in
    let all : c.len-types.result ≡ length p.types = grind (arith, common_steps) in
    let calls = c.in_ok-calls.calls in
    let graph = graph_of calls.callers.items in
    let searched = c.in_ok-calls.ensures in
    let deeds : Deeds = record {
      nodes = c.in_ok-nodes.nodes;
      constraint_error = c.in_ok-constraint_error.constraint_error;
      program_error = c.in_ok-program_error.program_error;
      storage_error = c.in_ok-storage_error.storage_error;
      end_error = c.in_ok-end_error.end_error;
      allocates = c.in_ok-allocates.allocates;
      declared = c.in_ok-declared.declared;
      frees = c.in_ok-frees.frees;
      follows = c.in_ok-follows.follows;
    } in
    let frees_are : (m : ℕ) → is_deed_of p (freeing m) ≡ nat_lt m c.len-types.result = λ m. ap (nat_lt m) (sym all) in
    let follows_are : (m : ℕ) → is_deed_of p (following m) ≡ nat_lt m c.len-types.result = λ m. ap (nat_lt m) (sym all) in
    exact deeds p (record {
      procedures = ps;
      types = ts;
      constraint_error = c.in_ok-constraint_error.ensures;
      program_error = c.in_ok-program_error.ensures;
      storage_error = c.in_ok-storage_error.ensures;
      end_error = c.in_ok-end_error.ensures;
      allocates = reached_are_doers p deed.Allocates n.procedures n.types graph _ _ ps ts refl (searched.graph deed.Allocates refl) c.in_ok-allocates.ensures;
      calls = reached_are_doers p deed.Calls n.procedures n.types graph _ _ ps ts refl (searched.graph deed.Calls refl) (none_reached graph);
      declared = numbered_exact p raising n.procedures n.types c.len-exceptions.result deeds.declared.items ps ts (λ m. ap (nat_lt m) (sym es)) c.in_ok-declared.ensures.size c.in_ok-declared.ensures.rows;
      frees = numbered_exact p freeing n.procedures n.types c.len-types.result deeds.frees.items ps ts frees_are c.in_ok-frees.ensures.size
          (λ m lt. let of = is_counted p freeing c.len-types.result m (frees_are m) lt in
          reached_are_doers p (freeing m) n.procedures n.types graph _ _ ps ts of (searched.graph (freeing m) of) (c.in_ok-frees.ensures.rows m lt));
      follows = numbered_exact p following n.procedures n.types c.len-types.result deeds.follows.items ps ts follows_are c.in_ok-follows.ensures.size
          (λ m lt. let of = is_counted p following c.len-types.result m (follows_are m) lt in
          reached_are_doers p (following m) n.procedures n.types graph _ _ ps ts of (searched.graph (following m) of) (c.in_ok-follows.ensures.rows m lt));
    })
