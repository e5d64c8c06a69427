-- What stands as more is declared and done: what is known is in order, and what is there stays.

-- what is known is in order, and what of it stays
pub mod Order
-- what was given on the way
pub mod Given
-- the pools of access types
pub mod Housed
-- types that are declared or completed
pub mod Types
-- what of the tables stays
pub mod Kept
-- a declaration that is looked at
pub mod Declared
-- declarations, one after another, and their end
pub mod Declarations
-- parts that begin and end
pub mod Inner
-- bodies of procedures that begin and end
pub mod Procedures
-- bodies of operations
pub mod Operands
-- statements
pub mod Stated
-- the parts of a program
pub mod Body
pub use Rattle.ada_resolve.proofs.Standing.Order.{IsBefore, AllBefore, PartsBefore, IsCalled, AllCalled, PartsCalled, AllSized, IsBounded, Sound, Complete, Grows, IsSettled, IsSettledEntity, Keeps, Stays, Inside, grows_same, grows_on, keeps_same, keeps_on, stays_same, stays_on, longer, longer_types, sound_laid, more_types, more_pools, more_bodies, more_variables, complete_grows, known_settled, object_settled, outer_settled, record_settled, visible_settled, first_sound, first_complete}
pub use Rattle.ada_resolve.proofs.Standing.Given.{gone_on, made_gives, made_from, known_gives, first_same, second_same, node_done, ConditionDone, condition_done, HeadIs, HeadDone, head_done, SimpleDone, simple_done, IfDone, if_done, LoopDone, loop_done, BlockDone, block_done, same_gives, same_end, ProcedureDone, procedure_done, SingleDone, single_done, DeclarationsDone, declarations_done, DeclareDone, declare_done, SequenceDone, sequence_done, StatementsDone, statements_done, BranchDone, branch_done, HandlerDone, handler_done}
pub use Rattle.ada_resolve.proofs.Standing.Kept.{IsSlot, new_slot, slot_of, old_name, keeps_name, keeps_defined, defined_there, keeps_elaborated, keeps_object_type, keeps_variable, keeps_exception, keeps_pool, keeps_frozen, keeps_placed, OverridesSame, keeps_specified, keeps_limited, name_bare}
pub use Rattle.ada_resolve.proofs.Standing.Housed.{called_later, housed_later}
pub use Rattle.ada_resolve.proofs.Standing.Declared.{no_pool, storage_quiet, none_ended, elaborated_sound, specified_sound, retyped_sound, record_made_keeps, variable_sound, ended_sound, ended_keeps, declaration_sound, declaration_keeps}
pub use Rattle.ada_resolve.proofs.Standing.Declarations.{gives_same, begin_open, begin_complete}
pub use Rattle.ada_resolve.proofs.Standing.Inner.{part_sound, part_complete, part_inside, parameter_sound, parameter_complete, parameter_inside, inside_on, begun_inside, leave_sound, leave_complete, leave_stays}
pub use Rattle.ada_resolve.proofs.Standing.Procedures.{get_front, IsFormal, FormalsSound, AllObjects, head_formals, head_objects, around_body, around_sound, InBody, head_in_body, types_keep, left_body, longer_bodies, closed_body, operand_at, ended_is, IsNewBody, IsOpen, body_ended_sound, body_ended_names, body_ended_some, body_ended_keeps}
pub use Rattle.ada_resolve.proofs.Standing.Operands.{head_new, head_is_new, head_opens, operand_ends, is_open}
pub use Rattle.ada_resolve.proofs.Standing.Stated.{SequenceStays, sequence_inside, BodyStays, sequence_stays, body_stays, told_sound, told_keeps, declarations_sound, declarations_keep, OthersStay, texts_stay, simple_stays, head_sound, head_complete, loop_stays, statement_stays, statements_stay, branches_stay, handlers_stay}
pub use Rattle.ada_resolve.proofs.Standing.Body.{BodyDone, body_done, before_sound, behind_sound}
