-- a list that is kept oldest first, and read newest first
pub mod StackLemmas
-- the members of collections, as objects are created, leave their collections and change
pub mod MemberLemmas
-- masters, as items come and go on their one stack
pub mod MasterLemmas
-- all objects that there ever were, as some are kept and some are forgotten
pub mod RememberedLemmas
-- one element that changes, in what the list is seen as
pub mod ChangeLemmas
-- turns that leave nothing open, and treatments that go on
pub mod TurnLemmas
-- quiet steps, one after another
pub mod CommonStepLemmas
-- the last component of a path, and those before it
pub mod ComponentLemmas
-- components of one object that get their values one after another
pub mod RecordLemmas
-- activations with the places of all of them behind one another
pub mod ActivationLemmas
-- actual parameters that are evaluated one after another
pub mod CallLemmas
-- what formal parameters give back to components
pub mod OperandLemmas
-- values that expressions have at once
pub mod AtOnceLemmas
-- what operators give of two numbers
pub mod NumberLemmas
-- where controlled parts lie
pub mod LayoutLemmas
