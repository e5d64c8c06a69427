-- Collections nest: no object lies in a collection that lasts longer than one in which its components' objects lie.

-- which collections are open at a place
pub mod Open
-- calls of procedures
pub mod Callees
-- the procedures that may be called at a place
pub mod Calls
-- statements with no others in them
pub mod Simple
-- declarations
pub mod Declared
-- the end of the types of a part
pub mod Collected
-- where the types of a part have ended
pub mod Later
-- statements, declarations and bodies
pub mod Stated
use Rattle.std.proofs.Common.{◌≡◌, ◌∙◌, ℕ, ◌+◌, true, false, List, [], ◌∷◌, ◌++◌, refl, sym, subst}
use Rattle.std.proofs.lemmas.List.{append-nil}
use Rattle.ada_tree.specs.Statements.{UnitTree}
use Rattle.ada_program.specs.Nested.{collected, part_nests, statements_nest, handlers_nest, callees_from, CollectionsNest}
use Rattle.ada_program.specs.ProgramForm.{TypeForm, ProgramForm}
use Rattle.ada_resolve.specs.declared.library.Withs.{Withs}
use Rattle.ada_resolve.specs.Known.{Known}
use Rattle.ada_resolve.specs.Resolution.{SequenceForm, known_first, program_of, Resolves}
use Rattle.ada_resolve.proofs.Nesting.Later.{State, early}
use Rattle.ada_resolve.proofs.Nesting.Stated.{SequenceNests, part_nested}
use Rattle.ada_resolve.proofs.Standing.{body_done, before_sound}
use Rattle.ada_resolve.proofs.WellFormed.{first_ended}
use Rattle.ada_resolve.proofs.WellFormed.Elaborated.{InOrder, first_order}
use Rattle.ada_resolve.proofs.WellFormed.Lasting.{Ended}

-- nothing is declared at first
first_state : (types : List TypeForm) (withs : Withs) (procedure : List ℕ) → State types [] (known_first withs procedure)
first_state types withs procedure = early (record {
  lies = record {
    before = λ a e. absurd (cc e);
    outer = tt;
    own = λ text e is. absurd (cc is);
    forms = λ t form behind is. absurd (cc is);
    objects = λ o e. absurd (cc e);
  };
  calls = (λ text e is. absurd (cc is), tt);
  fresh = λ a behind. refl;
})

-- a program in whose parts the collections nest
program_nests : (z : Known) (body : SequenceForm) → SequenceNests z.types [] z body → CollectionsNest (program_of z body.0 body.1)
program_nests z body h =
    let all : collected z.here.elaborated ++ [] ≡ collected z.here.elaborated = append-nil (collected z.here.elaborated) in
    record {
      declarations = h.0;
      statements = subst (λ around. statements_nest z.types (callees_from z.types [] z.bodies) around body.0 ≡ true) all (h.1 z.bodies (λ i x is. is));
      handlers = subst (λ around. handlers_nest z.types (callees_from z.types [] z.bodies) around body.1 ≡ true) all (h.2 z.bodies (λ i x is. is));
    }

-- the collections of the program that a tree means nest
pub collections_nest : (tree : UnitTree) (program : ProgramForm) → Resolves tree program → CollectionsNest program
collections_nest tree program e =
    let b = body_done tree program e in
    let z = b.done.1.0 in
    let order : InOrder b.first.0 = subst InOrder (sym b.first_known) (first_order b.withs tree.name.text) in
    let ended : Ended b.first.0 = subst Ended (sym b.first_known) (first_ended b.withs tree.name.text) in
    let state : State z.types [] b.first.0 = subst (λ v. State z.types [] v) (sym b.first_known) (first_state z.types b.withs tree.name.text) in
    subst CollectionsNest (sym b.form)
    (program_nests z b.done.0
    (part_nested z.types false tree.declarations tree.body [] b.first b.behind b.done (before_sound tree program b) order ended state (λ i x is. is) b.declared b.told))
