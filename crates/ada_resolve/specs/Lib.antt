-- What the resolver answers, in the order in which it is read.

-- what is wrong with a tree, and which fault is the first
pub mod Remark
-- where a construct begins
pub mod Spots
-- the library's names, and those that are predefined (A.1, A.2)
pub mod Library
-- what is known at a place in the procedure, and what names stand for there (8.3)
pub mod Known
-- pools, and the names of them (13.11)
pub mod Pools
-- incomplete types and access types (3.10)
pub mod Types
-- static values, and named numbers (3.3.2, 4.9)
pub mod Statics
-- record types (3.8)
pub mod Records
-- types that are derived from one of Ada.Finalization (3.4, 7.6)
pub mod Derived
-- instances of Unchecked_Deallocation (12.3, 13.11.2)
pub mod Instances
-- the operations of controlled types (7.6)
pub mod Primitives
-- attribute clauses (13.3)
pub mod Clauses
-- paths where a value is wanted (4.1)
pub mod Paths
-- controlled parts of records (7.6)
pub mod Controlled
-- operators (4.5)
pub mod Operators
-- the items of aggregates (4.3.1)
pub mod Items
-- expressions (4.4), aggregates among them (4.7)
pub mod Expressions
-- chains of operators, one operator after another (4.5)
pub mod Chains
-- allocators (4.8)
pub mod Allocators
-- what is assigned (5.2)
pub mod Rights
-- assignments (5.2)
pub mod Assignments
-- object declarations (3.3.1)
pub mod Objects
-- declarations of borrowers (3.10)
pub mod Borrowers
-- the arguments of a call (6.4)
pub mod Arguments
-- Put_Line (A.10.7)
pub mod Lines
-- calls of procedures, and their actual parameters (6.4.1)
pub mod Actuals
-- calls (6.4, 13.11.2)
pub mod Calls
-- exceptions, and the choices of handlers (11.1, 11.2)
pub mod Exceptions
-- procedures, and their formal parameters (6.1, 6.3)
pub mod Procedures
-- specifications of operations (7.6, 6.1)
pub mod Specifications
-- statements (5.1)
pub mod Statements
-- the program of a tree, or its first fault
pub mod Resolution
-- what the names of types, numbers and instances are read as
pub mod Naming
-- a program read back as its tree
pub mod Reading
-- the first fault, told by what is remarked alone
pub mod First
-- types as the code keeps them while names are looked up
pub mod Kept
-- what the code keeps, in these words
pub mod View
-- what the methods of the resolver promise, in a word each
pub mod Method
-- what a look at each part of a tree gives
pub mod Look
