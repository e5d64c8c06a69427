-- What is marked is what tracks, so bodies and types stand apart from the one as from the other.
use Rattle.std.proofs.Common.{◌≡◌, ℕ, Bool, List, Some, ◌&&◌, ap, ◌∙◌}
use Rattle.std.specs.List.{list_all}
use Rattle.std.proofs.Math.Path.{fun_ext}
use Rattle.ada_program.specs.ProgramForm.{ProgramForm, main_body, program_form}
use Rattle.ada_program.specs.WellFormed.{finalization_in}
use Rattle.ada_quiet.specs.Apart.{is_tracker, body_calls_apart, operations_apart, operations_stand_apart}
use Rattle.ada_quiet.specs.Known.{is_marked}
use Rattle.ada_quiet.specs.Quiet.{has_access}
use Rattle.ada_quiet.proofs.apart.operations_stand_apart.Goals as goal

-- all of a program stands apart from these procedures
abbrev stands_apart : ProgramForm → (tracks : ℕ → Bool) → Bool
stands_apart p tracks =
    body_calls_apart p.types tracks (main_body p) && list_all (body_calls_apart p.types tracks) p.bodies
    && list_all (λ t. operations_apart tracks (has_access (Some t)) (finalization_in (Some t))) p.types

-- from those that are marked as from those that track
as_marked : (p : ProgramForm) (marks : List Bool) → ((n : ℕ) → is_marked marks n ≡ is_tracker p n) → stands_apart p (is_marked marks) ≡ operations_stand_apart p
as_marked p marks same = ap (stands_apart p) (fun_ext same)

pub returns : goal.returns
returns c =
    let marked = ap (λ (marks : List Bool). stands_apart (program_form c.args.program.now) (is_marked marks)) c.deref.ensures.value in
    c.marked_stand_apart.ensures ∙ marked ∙ as_marked (program_form c.args.program.now) c.in_ok-marks.marks.items c.in_ok-marks.ensures
