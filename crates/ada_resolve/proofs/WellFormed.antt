-- The program of a tree is well formed: what is known stays in order from declaration to declaration and from statement to statement.

-- where no fault is noted, nothing is wrong
pub mod Remarks
-- types but for their pools
pub mod Forms
-- what stays of lists and types as more of them are declared
pub mod Tables
-- what overrides operations of controlled types
pub mod Operations
-- the components of record types lie one behind the other
pub mod Laid
-- record types that have controlled parts are numbered, and say how many
pub mod Numbered
-- records with controlled parts are found in others
pub mod Walked
-- records that lie in others lie there still as types are added
mod Containing
-- what names stand for is there
pub mod Names
-- types that get pools
pub mod Placed
-- types that get operations
pub mod Overridden
-- exceptions, and what names stand for them
pub mod Exceptions
-- what the names of types stand for
pub mod Types
-- the types of expressions
mod Typing
-- what stays as more is declared
pub mod Growing
-- what frees by the instances for the very types, as more is declared
pub mod Freed
-- what is selected behind a variable
pub mod Selected
-- what an expression means
pub mod Meanings
-- components lie where they say
pub mod ComponentsLie
-- the items of aggregates
pub mod Items
-- what is assigned
pub mod Values
-- what a borrower borrows at first
pub mod Borrowers
-- calls of procedures
pub mod Called
-- statements with no others in them
pub mod Statements
-- what is created from one place to another
pub mod Created
-- how many collections an access type has
pub mod Counts
-- what a part elaborates
pub mod Elaborated
-- objects
pub mod Objects
-- declarations, and what they elaborate
pub mod Elaborating
-- the bodies that have ended
pub mod Lasting
-- what declarations leave as it was
pub mod Alike
-- bodies of procedures
pub mod Bodies
-- what each kind of statement does
pub mod Doing
-- statements, with those in them
pub mod Stated
use Rattle.std.proofs.Common.{◌≡◌, ◌∙◌, ℕ, ◌+◌, Bool, true, false, List, [], ◌∷◌, ◌++◌, length, refl, sym, ap, subst, arith, eq-eqb}
use Rattle.std.specs.Prelude.{Some, None, ◌&&◌, ◌==◌}
use Rattle.std.specs.List.{list_all, slice_get}
use Rattle.std.proofs.lemmas.List.{append-nil}
use Rattle.ada_tree.specs.Statements.{UnitTree}
use Rattle.ada_program.specs.Freed.{FreesItsOwn}
use Rattle.ada_program.specs.ProgramForm.{TypeForm, VariableForm, ProgramForm}
use Rattle.ada_program.specs.WellFormed.{IsWellFormed, has_known_pool, creates_known_pool, creations, created_in_all, Creation, creates_from, has_collections, collections_first, collection_fits, initial_fits}
use Rattle.ada_resolve.specs.declared.library.Withs.{Withs}
use Rattle.ada_resolve.specs.Known.{Known, parts}
use Rattle.ada_resolve.specs.Resolution.{SequenceForm, known_first, program_of, Resolves}
use Rattle.ada_resolve.proofs.Standing.{Sound, Complete, Keeps, first_sound, declarations_keep, sequence_stays, BodyDone, body_done, before_sound, behind_sound}
use Rattle.ada_resolve.proofs.WellFormed.Forms.{forms}
use Rattle.ada_resolve.proofs.WellFormed.Names.{laid_in}
use Rattle.ada_resolve.proofs.WellFormed.ComponentsLie.{components_lie}
use Rattle.ada_resolve.proofs.WellFormed.Operations.{all_have, callables}
use Rattle.ada_resolve.proofs.WellFormed.Tables.{all_more, both_parts, first_part, second_part}
use Rattle.ada_resolve.proofs.WellFormed.Created.{accesses, bodies_collect, collected_both, Creates, has_each}
use Rattle.ada_resolve.proofs.WellFormed.Elaborated.{InOrder, first_order}
use Rattle.ada_resolve.proofs.WellFormed.Lasting.{Ended, ended_all, ended_free}
use Rattle.ada_resolve.proofs.WellFormed.Doing.{SequenceFits}
use Rattle.ada_resolve.proofs.WellFormed.Stated.{declarations_ordered, sequence_fit}

-- what is created in all, where there are neither types nor variables at first
all_in_order : (k z : Known) (cs : List Creation) → k.variables ≡ [] → Creates k z cs → creates_from (length z.variables) 0 cs ≡ true
all_in_order k z cs none c =
    let n = length z.variables in
    let all : creates_from n (length k.variables) (cs ++ []) ≡ (n == n) = c.in_order n [] in
    let first : length k.variables ≡ 0 = ap (λ (vs : List VariableForm). length vs) none in
    sym (ap (λ v. creates_from n v cs) first) ∙ (sym (ap (λ es. creates_from n (length k.variables) es) (append-nil cs)) ∙ (all ∙ eq-eqb n n refl))

-- each access type has one collection, where its declaration stands: in a body, or in the main part or a block of it
each_collected : (k z : Known) (cs : List Creation) → k.types ≡ [] → k.bodies ≡ [] → Creates k z cs → has_collections (created_in_all z.bodies ++ cs) 0 z.types ≡ true
each_collected k z cs none empty c =
    has_each (created_in_all z.bodies ++ cs) z.types
    (λ a.
    let all = c.collections a in
    let first : accesses k.types a ≡ 0 = ap (λ (ts : List TypeForm). accesses ts a) none in
    let bodies : bodies_collect k.bodies a ≡ 0 = ap (λ bs. bodies_collect bs a) empty in
    let both = collected_both a (created_in_all z.bodies) cs in
    omega (arith, all, first, bodies, both))

-- no body has ended at first
pub first_ended : (withs : Withs) (procedure : List ℕ) → Ended (known_first withs procedure)
first_ended withs procedure = record { fit = λ ts laid w. refl; below = λ a past. refl; frees = λ ts w. refl; pools = refl }

-- a program whose parts fit
program_fits : (k m z : Known) (body : SequenceForm) → k.types ≡ [] → k.variables ≡ [] → k.bodies ≡ [] → m.here.first_type ≡ length k.types → m.here.first_variable ≡ length k.variables → m.here.first_body ≡ length k.bodies → Sound z → Complete z → Ended z → SequenceFits m z false body → IsWellFormed (program_of z body.0 body.1)
program_fits k m z body no_types no_variables no_bodies first_type first_variable first_body w c e f =
    let p = program_of z body.0 body.1 in
    let known = creates_known_pool (length z.pools) in
    let es = z.here.elaborated in
    let front = collections_first es && list_all (collection_fits z.types) es in
    let initials = list_all (initial_fits z.types z.variables) es in
    let both : front ≡ true = first_part front initials f.declares in
    let creates : Creates k z (creations p) =
    f.creates k (λ i x is. absurd (not_there (forms k.types) i x (ap (λ ts. forms ts) no_types) is)) (λ i x is. absurd (not_there k.bodies i x no_bodies is)) first_type first_variable first_body in
    record {
      types_fit = w.types_fit;
      components_lie = components_lie z.types (laid_in z.types z.variables (parts z) w.names);
      operations_fit = all_have z.types (callables z.bodies) w.operations;
      pools_fit = both_parts (list_all (has_known_pool (length z.pools)) z.types) (list_all known (created_in_all z.bodies ++ creations p)) w.housed
          (all_more known (created_in_all z.bodies) (creations p) e.pools creates.pools);
      variables_fit = w.variables_fit;
      creates_in_order = all_in_order k z (creations p) no_variables creates;
      collections_first = first_part (collections_first es) (list_all (collection_fits z.types) es) both;
      collections_fit = second_part (collections_first es) (list_all (collection_fits z.types) es) both;
      has_one_each = each_collected k z (creations p) no_types no_bodies creates;
      initials_fit = second_part front initials f.declares;
      statements_fit = f.own;
      handlers_fit = f.handled;
      bodies_fit = ended_all z w e;
    }
  where
    not_there : {X : Type 0} (xs : List X) (i : ℕ) (x : X) → xs ≡ [] → slice_get xs i ≡ Some x → ⊥
    not_there xs i x none is = let no : slice_get xs i ≡ None = ap (λ ys. slice_get ys i) none in cc (no, is)

-- what is known where the main procedure of a program ends
record AtEnd (tree : UnitTree) (program : ProgramForm) (b : BodyDone tree program) : Type 0 where
  keeps : Keeps b.first.0 b.behind.0
  sound : Sound b.done.1.0
  complete : Complete b.done.1.0
  ended : Ended b.done.1.0
  fits : SequenceFits b.behind.0 b.done.1.0 false b.done.0

at_end : (tree : UnitTree) (program : ProgramForm) (b : BodyDone tree program) → AtEnd tree program b
at_end tree program b =
    let first = before_sound tree program b in
    let sound = behind_sound tree program b in
    let order : InOrder b.first.0 = subst InOrder (sym b.first_known) (first_order b.withs tree.name.text) in
    let o = declarations_ordered tree.declarations b.first b.behind first order b.declared in
    let f = sequence_fit false tree.body b.behind b.done sound o.order b.told in
    let stays = (sequence_stays false tree.body b.behind b.done sound b.told).stays in
    record {
      keeps = declarations_keep tree.declarations b.first b.behind first b.declared;
      sound = stays.sound;
      complete = stays.complete;
      ended = f.follows.ended (o.follows.ended (subst Ended (sym b.first_known) (first_ended b.withs tree.name.text)));
      fits = f;
    }

-- the program that a tree means is well formed
pub well_formed : (tree : UnitTree) (program : ProgramForm) → Resolves tree program → IsWellFormed program
well_formed tree program e =
    let b = body_done tree program e in
    let a = at_end tree program b in
    subst IsWellFormed (sym b.form)
    (program_fits (known_first b.withs tree.name.text) b.behind.0 b.done.1.0 b.done.0 refl refl refl (a.keeps.first_type ∙ ap (λ (v : Known). v.here.first_type) b.first_known)
    (a.keeps.first_variable ∙ ap (λ (v : Known). v.here.first_variable) b.first_known) (a.keeps.first_body ∙ ap (λ (v : Known). v.here.first_body) b.first_known) a.sound a.complete a.ended a.fits)

-- and it frees each object by the instance for its very type
pub frees_own : (tree : UnitTree) (program : ProgramForm) → Resolves tree program → FreesItsOwn program
frees_own tree program e =
    let b = body_done tree program e in
    let a = at_end tree program b in
    let p = program_of b.done.1.0 b.done.0.0 b.done.0.1 in
    let free : FreesItsOwn p = record { statements = a.fits.own_frees; handlers = a.fits.handled_frees; bodies = ended_free b.done.1.0 a.ended } in
    subst FreesItsOwn (sym b.form) free
