-- The parts of a program, where one is given.

use Rattle.std.proofs.Common.{◌≡◌, false, sym, subst}
use Rattle.ada_program.specs.ProgramForm.{ProgramForm}
use Rattle.ada_tree.specs.Statements.{UnitTree}
use Rattle.ada_resolve.specs.declared.library.Withs.{Withs}
use Rattle.ada_resolve.specs.Reading.{IsEndName}
use Rattle.ada_resolve.specs.Remark.{noted}
use Rattle.ada_resolve.specs.Resolution.{gives, settled, At, clauses_told, no_units, alone_remark, known_first, no_notes, declarations_told, SequenceForm, sequence_told, program_of, end_told, statements_part, part_told, procedure_told, Resolves}
use Rattle.ada_resolve.proofs.WellFormed.Remarks.{Quiet, settled_quiet}
use Rattle.ada_resolve.proofs.Standing.Order.{Sound, first_sound}
use Rattle.ada_resolve.proofs.Standing.Given.{gone_on, same_gives, same_end}
use Rattle.ada_resolve.proofs.Standing.Stated.{declarations_sound}

-- a program, up to its statements
pub record BodyDone (tree : UnitTree) (p : ProgramForm) : Type 0 where
  pub withs : Withs
  pub clauses : clauses_told tree.clauses no_units ≡ gives withs
  pub quiet_name : Quiet (alone_remark tree.name tree.spot)
  pub first : At
  pub first_known : first.0 ≡ known_first withs tree.name.text
  pub behind : At
  pub declared : declarations_told tree.declarations first ≡ gives behind
  pub done : SequenceForm × At
  pub told : sequence_told false tree.body behind ≡ gives done
  pub form : p ≡ program_of done.1.0 done.0.0 done.0.1
  pub end_so : IsEndName tree.name.text tree.end_name

pub body_done : (tree : UnitTree) (p : ProgramForm) → Resolves tree p → BodyDone tree p
body_done tree p e =
    let withs = gone_on (clauses_told tree.clauses no_units) (procedure_told tree) p e in
    let start = known_first withs.0 tree.name.text in
    let first = gone_on (settled (noted (alone_remark tree.name tree.spot) no_notes) start) (part_told tree) p withs.2 in
    let name = settled_quiet (alone_remark tree.name tree.spot) no_notes start first.0 first.1 in
    let behind = gone_on (declarations_told tree.declarations first.0) (statements_part tree) p first.2 in
    let done = gone_on (sequence_told false tree.body behind.0) (end_told tree) p behind.2 in
    let program = program_of done.0.1.0 done.0.0.0 done.0.0.1 in
    record {
      withs = withs.0;
      clauses = withs.1;
      quiet_name = name.0;
      first = first.0;
      first_known = name.1;
      behind = behind.0;
      declared = behind.1;
      done = done.0;
      told = done.1;
      form = sym (same_gives tree.name.text tree.end_name program p done.2);
      end_so = same_end tree.name.text tree.end_name program p done.2;
    }

-- where its declarations begin
pub before_sound : (tree : UnitTree) (p : ProgramForm) (b : BodyDone tree p) → Sound b.first.0
before_sound tree p b = subst Sound (sym b.first_known) (first_sound b.withs tree.name.text)

-- behind its declarations
pub behind_sound : (tree : UnitTree) (p : ProgramForm) (b : BodyDone tree p) → Sound b.behind.0
behind_sound tree p b = declarations_sound tree.declarations b.first b.behind (before_sound tree p b) b.declared
