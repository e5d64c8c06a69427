-- A statement begins exactly where `begins` says so.

use Rattle.std.proofs.Common.{◌≡◌, ◌↔◌, true, List, [], ◌∷◌, refl, ap, ◌∙◌}
use Rattle.ada_program.specs.Form.{no_stmts, a_stmt}
use Rattle.ada_meaning.specs.declared.state.Value.{Value}
use Rattle.ada_meaning.specs.declared.state.Mode.{Mode}
use Rattle.ada_meaning.specs.declared.state.Mode.TheVariants.{Running, Raising, Exiting, Returning}
use Rattle.ada_meaning.specs.Frame.{Frame, begins_by}
use Rattle.ada_meaning.specs.Frame as frame
use Rattle.ada_meaning.specs.State.{begins, begins_in, begins_among}
use Rattle.ada_meaning.specs.Named.{State}
use Rattle.ada_meaning.specs.Beginning.{BeginsStatement}

by_frame : (f : Frame Value) (k : List (Frame Value)) (s : State) → s.mode ≡ Running → s.control ≡ f ∷ k → begins_by f ≡ true → BeginsStatement s
by_frame (frame.Does (a_stmt stmt later)) k s runs is h = record { stmt = stmt; later = later; outer = k; runs = runs; first = is }
by_frame (frame.Does no_stmts) k s runs is h = absurd (cc)
by_frame (frame.Elaborates ds fs hs) k s runs is h = absurd (cc)
by_frame (frame.Decides fs branches) k s runs is h = absurd (cc)
by_frame (frame.Repeats condition fs) k s runs is h = absurd (cc)
by_frame (frame.Turns condition fs) k s runs is h = absurd (cc)
by_frame (frame.Ranges x fs) k s runs is h = absurd (cc)
by_frame (frame.Counts x value last fs) k s runs is h = absurd (cc)
by_frame frame.Exits k s runs is h = absurd (cc)
by_frame (frame.Handles hs) k s runs is h = absurd (cc)
by_frame frame.Closes k s runs is h = absurd (cc)
by_frame (frame.Leaves mode) k s runs is h = absurd (cc)
by_frame (frame.Calls procedure b actuals) k s runs is h = absurd (cc)
by_frame (frame.Returns actuals references) k s runs is h = absurd (cc)
by_frame (frame.Evaluates right) k s runs is h = absurd (cc)
by_frame (frame.Computes e) k s runs is h = absurd (cc)
by_frame (frame.Follows cs) k s runs is h = absurd (cc)
by_frame (frame.TestsNull equal) k s runs is h = absurd (cc)
by_frame (frame.Refers p) k s runs is h = absurd (cc)
by_frame (frame.RefersIn place t) k s runs is h = absurd (cc)
by_frame (frame.Opens path) k s runs is h = absurd (cc)
by_frame (frame.OpensIn c) k s runs is h = absurd (cc)
by_frame (frame.Continues links) k s runs is h = absurd (cc)
by_frame (frame.Applies operator) k s runs is h = absurd (cc)
by_frame (frame.AppliesAlone operator) k s runs is h = absurd (cc)
by_frame (frame.Fills items) k s runs is h = absurd (cc)
by_frame (frame.Copies first t) k s runs is h = absurd (cc)
by_frame (frame.Creates access count) k s runs is h = absurd (cc)
by_frame (frame.Stores x) k s runs is h = absurd (cc)
by_frame (frame.Targets c right) k s runs is h = absurd (cc)
by_frame (frame.StoresIn object c) k s runs is h = absurd (cc)
by_frame (frame.TargetsRecord first t items) k s runs is h = absurd (cc)
by_frame (frame.StoresRecord object first count) k s runs is h = absurd (cc)
by_frame (frame.Assigns t) k s runs is h = absurd (cc)
by_frame (frame.Receives c) k s runs is h = absurd (cc)
by_frame (frame.FreesIn access c) k s runs is h = absurd (cc)
by_frame (frame.Declares x) k s runs is h = absurd (cc)
by_frame (frame.DeclaresRecord x t) k s runs is h = absurd (cc)
by_frame (frame.Treats v treatment tasks) k s runs is h = absurd (cc)
by_frame (frame.Awaits v by done of part tasks) k s runs is h = absurd (cc)
by_frame frame.Confines k s runs is h = absurd (cc)
by_frame (frame.Resumes mode) k s runs is h = absurd (cc)
by_frame frame.Writes k s runs is h = absurd (cc)
by_frame (frame.Ends v) k s runs is h = absurd (cc)
by_frame (frame.GivesBack v cause pool) k s runs is h = absurd (cc)
by_frame (frame.Clears x) k s runs is h = absurd (cc)
by_frame (frame.ClearsIn object c) k s runs is h = absurd (cc)

by_control : (k : List (Frame Value)) (s : State) → s.mode ≡ Running → s.control ≡ k → begins_among k ≡ true → BeginsStatement s
by_control [] s runs is h = absurd (cc)
by_control (f ∷ k) s runs is h = by_frame f k s runs is h

by_mode : (mode : Mode) (s : State) → s.mode ≡ mode → begins_in mode s.control ≡ true → BeginsStatement s
by_mode Running s runs h = by_control s.control s runs refl h
by_mode (Raising e) s runs h = absurd (cc)
by_mode Exiting s runs h = absurd (cc)
by_mode Returning s runs h = absurd (cc)

begun : (s : State) → BeginsStatement s → begins s ≡ true
begun s h = ap (λ (mode : Mode). begins_in mode s.control) h.runs ∙ ap (λ (k : List (Frame Value)). begins_among k) h.first

pub statements_begin : (s : State) → (begins s ≡ true) ↔ BeginsStatement s
statements_begin s = (λ h. by_mode s.mode s refl h, begun s)
