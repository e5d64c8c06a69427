-- The next procedure is told as its body is, by what is known of those before it.
use Rattle.std.proofs.Common.{arith, ◌≡◌, ℕ, ◌+◌, ◌<◌, Bool, false, List, [], ◌∷◌, ◌++◌, length, get_or, map, drop, sym, ap, ◌∙◌, subst}
use Rattle.std.proofs.lemmas.List.{at_drop_more}
use Rattle.ada_program.specs.declared.program.Procedure.{Procedure}
use Rattle.ada_program.specs.declared.program.TypeDefinition.{TypeDefinition}
use Rattle.ada_program.specs.Kept.{types_in}
use Rattle.ada_program.specs.ProgramForm.{body_form}
use Rattle.ada_quiet.specs.Apart.{leave_access}
use Rattle.ada_quiet.specs.Calm.{unadjusted_types, unfinalized_types}
use Rattle.ada_quiet.specs.Frugal.{Thrift, is_frugal_body, frugal_from}
use Rattle.ada_quiet.proofs.frugal.frugal_by.Goals as goal

-- what a body with so many formal parameters goes by that is called, where this is known of the types, and of the procedures before it
abbrev called_by : List TypeDefinition → (unadjusted unfinalized : List Bool) → (untracked : Bool) → (frugal : List Bool) → (formals : ℕ) → Thrift
called_by types unadjusted unfinalized untracked frugal formals = record {
  types = types_in types;
  unadjusted = unadjusted;
  unfinalized = unfinalized;
  untracked = untracked;
  procedures = frugal;
  operation = false;
  formals = formals;
}

-- what is known of one more, and what is left behind it, tell of all
next : (types : List TypeDefinition) (frugal more : List Bool) (here : Bool) (ps : List Procedure) (n : ℕ) (b : Procedure)
    (all : List Bool) → n < length ps → b ≡ get_or ps n b
    → here ≡ is_frugal_body (called_by types (unadjusted_types (types_in types)) (unfinalized_types (types_in types)) (leave_access (types_in types)) frugal (length b.formals.items)) (body_form b)
    → more ≡ frugal ++ here ∷ []
    → frugal_from (types_in types) frugal (map body_form (drop n ps)) ≡ all
    → frugal_from (types_in types) more (map body_form (drop (n + 1) ps)) ≡ all
next types frugal more here ps n b all inside there is grown before =
    let rest = drop (n + 1) ps in
    ap (λ (marks : List Bool). frugal_from (types_in types) marks (map body_form rest)) (grown ∙ ap (λ (told : Bool). frugal ++ told ∷ []) is)
    ∙ ap (λ (q : Procedure). frugal_from (types_in types) frugal (map body_form (q ∷ rest))) there
    ∙ sym (at_drop_more (λ qs. frugal_from (types_in types) frugal (map body_form qs)) ps n b inside)
    ∙ before

pub procedures-preserved : goal.procedures-preserved
procedures-preserved c =
    let program = c.args.program.now in
    let index = c.procedures.procedure-index in
    let frugal = c.procedures.frugal.items in
    let b = c.procedure-item.result in
    let inside = subst (λ (ps : List Procedure). index < length ps) c.deref-procedure-items.ensures.value c.procedures-test.true in
    let there = subst (λ (ps : List Procedure). b ≡ get_or ps index b) c.deref-procedure-items.ensures.value c.procedure-item.is in
    let formals = length b.formals.items in
    let size : c.len.result ≡ formals = omega (arith, c.len.ensures, b.formals.ok.0) in
    let is = c.is_frugal_body-is_frugal.ensures
    ∙ ap (λ (count : ℕ). is_frugal_body (called_by c.deref.result.now c.args.unadjusted.now c.args.unfinalized.now c.args.untracked c.deref-in-procedures.result.now count) (body_form b)) size
    ∙ ap (λ (types : List TypeDefinition). is_frugal_body (called_by types c.args.unadjusted.now c.args.unfinalized.now c.args.untracked c.deref-in-procedures.result.now formals) (body_form b))
    c.deref.ensures.value
    ∙ ap (λ (marks : List Bool). is_frugal_body (called_by program.types.items c.args.unadjusted.now c.args.unfinalized.now c.args.untracked marks formals) (body_form b))
    c.deref-in-procedures.ensures.value
    ∙ ap (λ (told : List Bool). is_frugal_body (called_by program.types.items told c.args.unfinalized.now c.args.untracked frugal formals) (body_form b)) c.requires.adjusted
    ∙ ap (λ (told : List Bool). is_frugal_body (called_by program.types.items (unadjusted_types (types_in program.types.items)) told c.args.untracked frugal formals) (body_form b))
    c.requires.finalized
    ∙ ap (λ (told : Bool). is_frugal_body (called_by program.types.items (unadjusted_types (types_in program.types.items)) (unfinalized_types (types_in program.types.items)) told frugal formals) (body_form b))
    c.requires.tracked in
    next program.types.items frugal c.push.new.self.items c.is_frugal_body-is_frugal.result program.procedures.items index b _ inside there is
    c.in_ok-push.ensures.items c.procedures.invariant
