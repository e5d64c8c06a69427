-- for whose objects an operation may be called that touches storage, where a master is left
pub mod Ahead
-- what is relied on in a run
pub mod Fits
-- what objects are after a step
pub mod Objects
-- items and masters
pub mod Items
-- what a call and its return do
pub mod Activations
-- bodies that track no components
pub mod Untracked
-- records that are copied, or get items
pub mod Gathered
-- procedures, and what is known of their calls
pub mod Bodies
-- what procedures keep
pub mod Keepings
-- objects and their homes
pub mod Stored
-- where a Free gives words back to
pub mod Homes
-- what the laws of finalization leave of a step
pub mod Standing
-- pools that exist
pub mod Pools
-- back from a heap in which a component was written
pub mod Awaiting
pub mod Back
-- values and holds
pub mod Values
-- what is known of variables, from most to least
pub mod Orderings
-- what a step does to objects
pub mod Alters
-- which records a treatment speaks of
pub mod InsideRecords
-- records with one controlled part
pub mod OnlyParts
-- where such a part lies
pub mod OnlyPlaces
-- types whose components stand in the order of what is declared
pub mod OnlyRows
-- records that are copied with components of access types
pub mod CopiedOwners
-- heaps in which nothing is hidden
pub mod NoneHidden
-- what is left of their adjustment, as parts are picked and called
pub mod CopyParts
-- where the records lie whose Adjusts are called
pub mod Placed
-- components of access types that Adjusts see to
pub mod SeenOwners
-- where the parts lie that are left
pub mod PartsApart
-- where a record is copied from another one of its object
pub mod CopiedApart
-- what every step keeps
pub mod Invariant
-- objects are stored in each state
pub mod StoredStates
-- what is left of the program
pub mod Ready
-- masters and the collections that they may own
pub mod Rooms
-- paths that are used
pub mod Followings
-- outcomes of flow
pub mod Outcomes
-- which exceptions may be raised
pub mod Raising
-- what is known behind a block
pub mod Leavings
-- the same where its objects are finalized
pub mod LeftFinalized
-- what a call gives to formal parameters
pub mod Handings
-- what a call passes by reference
pub mod References
-- actual parameters of access types
pub mod Passed
-- what a path begins with, and where it may raise an exception
pub mod Roots
-- where paths begin, and what they lead to from there
pub mod Begins
-- expressions
pub mod Expressions
-- how paths are walked
pub mod Walks
-- what typing says of what is assigned
pub mod Assigned
-- values that are moved
pub mod Taken
-- what the items of an allocator give
pub mod Filled
-- where records that are copied come from
pub mod Originals
-- records that are copied as items
pub mod Copied
-- what is relied on while a new object is made
pub mod Lendings
-- allocators
pub mod Allocators
-- allocators without items
pub mod Defaults
-- what is assigned
pub mod Evaluations
-- what Free does
pub mod Frees
-- statements in which others nest
pub mod Nestings
-- components that are assigned to
pub mod Targets
-- what ends
pub mod Endings
-- a variable that is freed, while a Finalize runs that touches storage
pub mod Emptying
-- an exception comes out of an initialization
pub mod Undone
-- an object changes whose parts are adjusted
pub mod AdjustsKept
-- controlled parts are initialized and finalized
pub mod Treatments
-- an Integer or a Boolean goes into an object that is treated
pub mod Written
-- what waits for a body
pub mod Waiting
-- the body of an operation runs
pub mod Operating
-- where none does
pub mod Calm
-- frugal bodies, and what they may free
pub mod Allowance
-- a frugal body of a Finalize runs
pub mod FrugalBodies
mod OperationNests
-- simple bodies of an Adjust
pub mod SimpleBodies
-- they are of the forms of which the laws on tracked components speak
pub mod OrderlyBodies
-- bodies that reach no more than their record
pub mod ConfinedBodies
-- states in which components hold null are typed
pub mod TypedAside
-- no exception comes out of an Adjust, as it is judged
pub mod JudgedAdjusts
-- procedures that track stand apart
pub mod Trackers
-- so no copy leaves two owners
pub mod TracksWell
-- what overrides an operation is plain, or quiet
pub mod QuietOperations
-- what comes out of the initialization of an object
pub mod Started
-- what forms raise where nothing is called
pub mod Uncalled
-- procedures that track stand apart in what is left to do
pub mod CallsApart
-- whatever the next step is
pub mod CallsApartSteps
-- in whole runs: what tracks is never called
pub mod CallsApartRuns
-- the body of an operation begins and ends
pub mod OperationCalls
pub mod OperationStarts
pub mod OperationBegins
-- it takes a step
pub mod OperationSteps
pub mod OperationStatements
pub mod OperationFrames
pub mod OperationRuns
pub mod OperationLaw
-- what it raises
pub mod FrugalControl
pub mod FrugalFrees
pub mod FrugalFrames
pub mod FrugalSteps
-- what goes with the newest item, where one of them is left
pub mod HousesIts
-- the masters that it leaves
pub mod FrugalLeaves
-- inert records, and what the bodies of operations assign
pub mod Inert
pub mod AssignsInside
-- where a Finalize may be frugal
pub mod FrugalUseParts
pub mod FrugalUseEnds
pub mod OperationsLet
mod FrugalUseFrees
-- no object of its own access type is freed where an object ends, or is adjusted
pub mod SparesOwn
-- no object of a newer collection of a master is reached there
pub mod SparesNewer
-- what is freed next is among what the running body may free
pub mod FreesCovered
-- what is finalized at an assignment
pub mod AssignedParts
-- the object in which such a component lies
pub mod Holders
-- what Free of a component does
pub mod Releases
-- what is freed next
pub mod FreedInside
-- record objects are declared
pub mod Records
-- records to which others are copied that own something
pub mod HiddenOwners
-- records are copied and assigned to as wholes
pub mod Wholes
-- what an Adjust sees to, wherever its record lies
pub mod CoveredOwners
-- records with controlled parts that are assigned to
pub mod RecordAssignments
-- record objects that are declared as copies
pub mod DeclaredOwners
-- what variables get back from a call
pub mod GivenBack
-- calls begin
pub mod CallStatements
-- declarations and statements
pub mod Statements
-- jumps on their way
pub mod Jumps
-- the body of a Finalize that touches storage
pub mod Touched
-- what it is called for is held while it runs
pub mod Held
-- no object of an outer master has a component of the type of a collection of the innermost one
pub mod HeldOutside
pub mod Touching
-- a body runs that touches no storage, around which such a one may be under way
pub mod Operates
-- what waits for operations that touch storage stays as it is known
pub mod Pauses
-- a body that tracks components, as it is judged
pub mod Judged
-- the forms of such a body are of the kinds that are wanted
pub mod JudgedKinds
-- it may free and raise what the body may
pub mod JudgedForms
-- it calls no procedure that tracks
pub mod JudgedApart
-- it is typed where it begins, and after each step
pub mod JudgedTyped
-- it runs from its beginning
pub mod JudgedRuns
-- no two of the components that an Adjust tracks are one
pub mod TracksApart
-- the object exists whose components it tracks, and its formal parameter refers to the record there
pub mod WatchedBy
-- what its paths find, where they follow no value of the object's access type
pub mod SparingPaths
-- where it looks then
pub mod SparingLooks
-- what is sought next
pub mod SparingSteps
-- it looks at that object by its formal parameter alone
pub mod Sparing
-- what it copies out of that object has no component of an access type
pub mod CopiedBare
-- its body follows and frees no value of the object's access type
pub mod ShunsAround
-- its formal parameter stays
pub mod FormalStays
-- heaps in which the components that it tracks hold null
pub mod Blanked
-- the variables that stand for these, where the body begins
pub mod BlankedBegins
-- and where it comes to its end
pub mod BlankedEnds
-- such a body runs
pub mod Adjusting
-- it begins
pub mod AdjustingBegins
-- where the Adjust of a copy is called: which components it tracks, and what waits for it
pub mod AdjustingEnters
-- which Adjust that is
pub mod TracksAs
-- what the next operation of a copy sees to
pub mod CopySteps
-- what that may free
mod AdjustedParts
-- so its body begins in a sound state
pub mod AdjustingStarts
-- what the state that stands for the real one has of it
mod AdjustingSeen
-- the core lemma for such a body, as it is judged
mod AdjustingCore
-- what a step keeps of what waits for it, and tells
mod AdjustingKept
-- each step but its end
mod AdjustingSteps
-- its end
pub mod AdjustingEnds
-- each step, its end included
pub mod AdjustingGoes
-- states in which components of an object are put aside
mod PutAside
-- what is put aside meanwhile names what is there
pub mod CopiedNames
-- each step of such a body, where other parts of the copy are adjusted later
pub mod AdjustingCopies
-- what each step rests on
pub mod Grounds
-- a collection goes for whose objects operations may be called that touch storage, and a state that stands for the real one
pub mod Departing
-- what is there in such a state
pub mod SeenStates
-- what steps rest on there
pub mod SeenGrounds
-- what the steps of the collection lead to
pub mod DepartingGoes
-- where it begins to go
pub mod DepartingBegins
-- no place is relied on to name what it has lost
pub mod DepartingGhosts
-- a member ends, and gives back its words
pub mod DepartingEnds
-- the next member is taken, or the collection has gone
pub mod DepartingLeaves
-- a member is treated
pub mod DepartingTreats
-- what is behind the bodies that run for a member
pub mod DepartingBehind
-- their steps
pub mod DepartingBodies
-- what flow speaks of meanwhile
pub mod DepartingSights
-- the first state
pub mod Starts
-- one step
pub mod Steps
-- what holds of each state that may come next
pub mod Coming
-- what goes where a master is left: no component names it of what an operation that touches storage may be called for later
pub mod InOrder
-- of which records a treatment speaks
pub mod Operated
-- what is behind its object, where it is called
pub mod TouchingRests
-- bodies that shun access types: frugal ones have their shape
pub mod Shunning
-- what an operation of a record does not do, no procedure does that is called for a part of it
pub mod LeftSpares
-- and that of a Finalize shuns what the end of its object does not reach
pub mod ShunningEnds
-- where its body begins
pub mod TouchingBegins
-- what is initialized is owned outside of the bodies that run inside
pub mod BegunOutside
pub mod WatchedBegins
-- the Adjust of a part of a copy begins, where nothing in it tracks
pub mod Unmixed
pub mod TouchingCopies
pub mod TouchingStarts
-- what a body sees
pub mod Sees
-- what stands while its body runs
pub mod TouchingStands
-- while it leaves a master of its own
pub mod TouchingLeaves
-- its end
pub mod TouchingEnds
-- what is watched while it runs
pub mod TouchingWatched
-- an object is treated next
pub mod Treating
-- whatever runs while such an operation is under way goes on
pub mod TouchingGoes
-- the operation begins of an object that it frees, or ends
pub mod TouchingTreats
pub mod TouchingReturns
-- its steps, the end included
pub mod TouchingSteps
-- states that runs come to have what steps rest on
pub mod Grounded
-- steps where no operation runs, and those of the bodies of operations
pub mod OrdinarySteps
-- whole runs
pub mod Runs
-- the laws of order
pub mod Order
-- the laws of finalization
pub mod Finalization
-- nothing relies on Integers and Booleans
pub mod Scalars
-- what the rules let through: what is moved
pub mod Moves
-- what items move
pub mod ItemMoves
-- what borrowers hold
pub mod Borrowing
-- what is freed
pub mod Freed
-- what is copied as a whole
pub mod Plain
-- what calls leave
pub mod Callees
-- what operations leave that are called implicitly
pub mod ImplicitCalls
-- runs by their choices
pub mod Choices
-- what callers rely on
pub mod Below
-- no exit leads out of a body
pub mod Exits
-- bodies that have called one another
pub mod Callers
-- the end of a call
pub mod Returns
-- its beginning
pub mod Calls
-- and its body
pub mod CallBegins
-- bodies run
pub mod BodyRuns
-- programs that meet the premises, and that need the rules
pub mod Example
-- the same with exceptions, handlers, blocks and counting loops
pub mod ExampleBlocks
-- the same with components that are assigned to
pub mod ExampleTargets
-- the same with components that own
pub mod ExampleOwners
-- the same with borrowers
pub mod ExampleBorrowers
-- the same with components that get new objects, or are freed
pub mod ExampleFrees
-- the same with records that are copied as wholes
pub mod ExampleRecords
-- the same with procedures
pub mod ExampleCalls
-- and those that declare pools
pub mod ExamplePools
-- and one with controlled record types
pub mod ExampleControlled
-- and those that override operations of controlled types
pub mod ExampleOperations
pub mod ExampleUndone
pub mod ExampleTidying
-- one that allocates objects with such a Finalize
pub mod ExampleBoxing
pub mod ExampleOverwriting
pub mod ExampleEmptying
-- one in which a component frees such an object
pub mod ExampleReleasing
-- the same by a component of a formal parameter
pub mod ExampleUnshelving
-- a list is left whose nodes free what they own
pub mod ExampleLeaving
-- one whose Finalize frees an object whose Finalize frees, too
pub mod ExampleNesting
-- one whose Initialize allocates an object with controlled parts
pub mod ExampleHousing
-- one whose Initialize allocates an object whose Initialize allocates, too
pub mod ExampleStocking
pub mod ExampleAllocating
pub mod ExampleUndoing
-- one whose Initialize allocates for what an allocator makes
pub mod ExampleFilling
-- one whose Initialize allocates an object with operations of its own
pub mod ExampleEquipping
-- one whose Initialize declares such an object, and allocates one
pub mod ExampleTagging
-- one whose Finalize declares such an object
pub mod ExampleMetering
-- and those whose Adjust allocates
pub mod ExampleDuplicating
pub mod ExamplePairing
pub mod ExampleCopying
-- one whose Finalize frees what lies in a newer collection
pub mod ExampleNewer
-- one whose Adjust follows a value that names the object which is adjusted
pub mod ExampleCrossing
-- where flow is not agreed with
pub mod ExampleInside
-- where a statement begins
pub mod Agreeing
-- what effects cover
pub mod CoveredBy
pub mod Covered
-- the laws
pub mod Headline
-- objects without controlled parts
pub mod BareObjects
-- what lies in calm records
pub mod CalmTypes
-- objects for which no operation is called that touches storage, where they begin or end
pub mod CalmObjects
-- what exists has its words out
pub mod WordsOut
