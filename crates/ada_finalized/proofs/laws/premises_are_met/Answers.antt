-- By a program and a run of it, each.
use Rattle.ada_finalized.specs.Example.{outer_operations, outer_finalizes}
use Rattle.ada_finalized.proofs.Example as example
use Rattle.ada_finalized.proofs.OperationExamples as examples
use Rattle.ada_finalized.proofs.NestedExample as nested
use Rattle.ada_finalized.proofs.laws.premises_are_met.Goals as goal

pub returns-clause-finalized : goal.returns-clause-finalized
returns-clause-finalized c = (example.program, example.shapes, example.form, example.finishes)

pub returns-clause-undone : goal.returns-clause-undone
returns-clause-undone c = (examples.program, examples.shapes, examples.operations, examples.bodies, examples.form, examples.ends)

pub returns-clause-called : goal.returns-clause-called
returns-clause-called c = (
  examples.calling,
  examples.calling_shapes,
  examples.calling_operations,
  examples.calling_bodies,
  examples.calling_form,
  examples.begins_alone,
  examples.treats_alone,
  examples.begins_within,
)

pub returns-clause-assigns : goal.returns-clause-assigns
returns-clause-assigns c = (
  examples.assigning,
  examples.assigning_shapes,
  examples.assigning_operations,
  examples.assigning_bodies,
  examples.assigning_form,
  examples.treats_twice,
)

pub returns-clause-initialize_frees : goal.returns-clause-initialize_frees
returns-clause-initialize_frees c = (
  examples.freeing outer_operations,
  examples.freeing_shapes outer_operations,
  examples.freeing_operations outer_operations,
  examples.freeing_bodies outer_operations,
  examples.freeing_form outer_operations,
  examples.initialize_stands,
  examples.initialize_treats,
)

pub returns-clause-finalize_frees : goal.returns-clause-finalize_frees
returns-clause-finalize_frees c = (
  examples.freeing outer_finalizes,
  examples.freeing_shapes outer_finalizes,
  examples.freeing_operations outer_finalizes,
  examples.freeing_bodies outer_finalizes,
  examples.freeing_form outer_finalizes,
  examples.finalize_stands,
  examples.finalize_treats,
)

pub returns-clause-initialize_assigns : goal.returns-clause-initialize_assigns
returns-clause-initialize_assigns c = (
  examples.assigning_inside outer_operations,
  examples.inside_shapes outer_operations,
  examples.inside_operations outer_operations,
  examples.inside_bodies outer_operations,
  examples.inside_form outer_operations,
  examples.initialize_inner,
  examples.initialize_ends,
)

pub returns-clause-finalize_assigns : goal.returns-clause-finalize_assigns
returns-clause-finalize_assigns c = (
  examples.assigning_inside outer_finalizes,
  examples.inside_shapes outer_finalizes,
  examples.inside_operations outer_finalizes,
  examples.inside_bodies outer_finalizes,
  examples.inside_form outer_finalizes,
  examples.finalize_inner,
  examples.finalize_ends,
)

pub returns-clause-assignments_nest : goal.returns-clause-assignments_nest
returns-clause-assignments_nest c = (
  nested.program,
  nested.shapes,
  nested.inner_operations,
  nested.outer_operations,
  nested.bodies,
  nested.form,
  nested.treats_innermost,
  nested.finishes,
)
