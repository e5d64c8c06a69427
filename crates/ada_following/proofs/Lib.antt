-- forests of parts
pub mod Forests
-- items, their numbers, and collections
pub mod Places
-- heaps that change
pub mod Heaps
-- controlled parts in a heap, and in storage
pub mod PartTables
-- parts that are left to be finalized
pub mod PartsLeft
-- what each state keeps of masters and of the heap
pub mod Sound
-- what a step finds
pub mod Heads
-- steps of storage
pub mod Goings
-- what is left of a treatment
pub mod Groups
-- its steps in storage
pub mod Treating
-- what is left to do, as storage sees it
pub mod Frames
-- how that changes where objects join, leave and end
pub mod Readings
-- what is left to do at a step's beginning and end
pub mod Stands
-- how that is read
pub mod Seen
-- a step that is followed
pub mod Follows
-- what a step of code does
pub mod Deeds
-- each step of code does so
pub mod Works
-- new objects
pub mod Creating
-- steps of code are followed where no object is freed
pub mod Coding
-- a part of an object changes, and operations are called
pub mod Treated
-- a record that is assigned, in storage
pub mod Assigning
-- each step of an initialization, and of an adjustment, is followed
pub mod Beginning
-- and of a finalization
pub mod Finishing
-- what is read behind an object that ends
pub mod Passing
-- each step of an object that is left or freed is followed
pub mod Ends
-- and of one that is undone
pub mod Undoing
-- and of an assignment
pub mod Assignments
-- and of an assignment that fails
pub mod Failing
-- the records of an assignment are found
pub mod Finding
-- it begins
pub mod Assigned
-- a Free, and each step of code
pub mod Freeing
-- each step at the leaving of a master
pub mod Leaving
-- each step
pub mod Steps
-- whole runs
pub mod Runs
-- examples
pub mod Example
