-- The laws, from what every step keeps.

use Rattle.std.proofs.Common.{◌≡◌, List, refl}
use Rattle.std.specs.Prelude.{ℤ, Option, Some}
use Rattle.std.specs.List.{All, AllPairs}
use Rattle.ada_program.specs.declared.program.Program.{Program}
use Rattle.ada_program.specs.Form.{DeclarationForm, StmtsForm, BranchesForm, HandlersForm}
use Rattle.ada_program.specs.ProgramForm.{TypeForm, VariableForm}
use Rattle.ada_flow.specs.Flow.{Holds, Outcome, goes, Around}
use Rattle.ada_meaning.specs.declared.event.Why.{Why}
use Rattle.ada_meaning.specs.Named.{State}
use Rattle.ada_meaning.specs.Run.{Event, Run, first_state}
use Rattle.ada_meaning.specs.Law.{BackTwoObjects, FinalizedTwoValues, FollowedBeforeBack, InReverseOrder, IsBackHome, items_of, Falls, MastersFall}
use Rattle.ada_meaning.specs.Safe.{Safe}
use Rattle.ada_sound.specs.Agreement.{Turning, Comes, here, behind, in_branches, in_body, in_count, in_enclosed, ComesBy, in_others, in_this, in_next, ComesTo, to_this, to_next, ComesInside, in_statements, in_handlers, Place, OneFlow}
use Rattle.ada_sound.specs.Always.{IsChecked, InEveryRun, NeverErroneous, AgreesWithFlow, BacksAreTold, OutsAreHoused, OutsHavePools, PoolNumbersDiffer, EndsClean}
use Rattle.ada_typed.proofs.Runs as typed
use Rattle.ada_sound.proofs.Items as items
use Rattle.ada_sound.proofs.Pools.{pool_exists}
use Rattle.ada_sound.proofs.Starts.{Sound, sound_first}
use Rattle.ada_sound.proofs.Runs as runs
use Rattle.ada_sound.proofs.Order as order
use Rattle.ada_sound.proofs.Finalization as finalization
use Rattle.ada_sound.proofs.Agreeing.{agrees_at}

-- Every run of a program that is accepted keeps the invariant.
module _ (program : Program) (accepted : IsChecked program) where
  first : (input : List ℤ) → Sound program (first_state program input)
  first input = sound_first program input accepted.well_formed accepted.in_use accepted.nests accepted.frees_own accepted.spares_own accepted.spares_newer accepted.spares_adjusted accepted.lets_nothing_out accepted.obeys

  sound_last : (input : List ℤ) (events : List Event) (last : State) → Run program (first_state program input) events last → Sound program last
  sound_last input events last run = runs.sound_run run (first input)

  pub agrees : AgreesWithFlow program
  agrees input events last run begins none = agrees_at program last (sound_last input events last run) begins none

  pub never : (why : Why) → NeverErroneous why program
  never why input events last run halted = runs.none_is_next program last why (sound_last input events last run) halted

  pub back_once : InEveryRun program (λ events last. AllPairs BackTwoObjects events)
  back_once input events last run = runs.back_once run (first input)

  pub finalized_once : InEveryRun program (λ events last. AllPairs FinalizedTwoValues events)
  finalized_once input events last run = finalization.finalized_once program input events last run

  pub followed_before_back : InEveryRun program (λ events last. AllPairs FollowedBeforeBack events)
  followed_before_back input events last run = runs.followed_before_back run (first input)

  pub in_reverse : InEveryRun program (λ events last. AllPairs InReverseOrder events)
  in_reverse input events last run = order.in_reverse program input events last run

  pub back_home : InEveryRun program (λ events last. All (IsBackHome last.heap) events)
  back_home input events last run = runs.back_home run (first input)

  pub back_is_told : InEveryRun program BacksAreTold
  back_is_told input events last run = runs.back_is_told refl run (first input)

  pub items_fall : InEveryRun program (λ events last. AllPairs Falls (items_of last.masters))
  items_fall input events last run = order.items_fall program input events last run

  pub masters_fall : InEveryRun program (λ events last. AllPairs MastersFall last.masters)
  masters_fall input events last run = order.masters_fall program input events last run

  pub housed : InEveryRun program OutsAreHoused
  housed input events last run o x found out =
      let i = items.contains_item x.cell.home.item x.cell.access x.cell.home.pool (items_of last.masters) (runs.housed program last (sound_last input events last run) o x found out) in
      (i.0, i.1, i.2, i.4)

  pub pooled : InEveryRun program OutsHavePools
  pooled input events last run o x found out =
      pool_exists program.types.items (items_of last.masters) x.cell.home.item x.cell.access x.cell.home.pool (order.pools_last program input events last run)
      (runs.housed program last (sound_last input events last run) o x found out)

  pub pools_differ : InEveryRun program PoolNumbersDiffer
  pools_differ input events last run = order.pools_differ program input events last run

  pub ends_clean : EndsClean program
  ends_clean input events last halt run halted ended = runs.ends_clean program last halt (sound_last input events last run) halted ended

  pub safe : Safe program
  safe = record {
    never_erroneous = λ input events last why run halted. never why input events last run halted;
    never_stuck = typed.never_stuck program accepted.well_formed;
    nothing_escapes = λ input events last e run halted. runs.nothing_escapes program last e (sound_last input events last run) halted;
    keeps = λ input events last run. record {
      back_once = back_once input events last run;
      finalized_once = finalized_once input events last run;
      followed_before_back = followed_before_back input events last run;
      in_reverse = in_reverse input events last run;
      back_home = back_home input events last run;
      back_is_told = back_is_told input events last run;
      items_fall = items_fall input events last run;
      masters_fall = masters_fall input events last run;
      housed = housed input events last run;
      pooled = pooled input events last run;
      pools_differ = pools_differ input events last run;
    };
    finalizes = λ input events last run. finalization.finalizes program input events last run;
    stands = λ input events last run. finalization.stands program input events last run;
    ends = ends_clean;
    inner_first = order.inner_first program;
  }

-- A way through statements leads to one place, and flow says one thing there.
one_end : {o : Outcome} (mid other : Holds) (raising others : Option Holds) → o ≡ goes (Some mid) raising → o ≡ goes (Some other) others → mid ≡ other
one_end mid other raising others a b = cc (a, b)

mutual
  one_way : {types : List TypeForm} {variables : List VariableForm} {around : Around} {outer place others : Place} {fs : StmtsForm} {from holds other : Holds} {way : List Turning} → Comes types variables around outer fs from way place holds → Comes types variables around outer fs from way others other → (place ≡ others) × (holds ≡ other)
  one_way here here = (refl, refl)
  one_way (behind mid is a) (behind mid' is' b) = let same : mid ≡ mid' = cc (is, is') in one_way (rw same at a) b
  one_way (in_branches a) (in_branches b) = one_way_by a b
  one_way (in_body mid is a) (in_body mid' is' b) = let same : mid ≡ mid' = cc (is, is') in one_way (rw same at a) b
  one_way (in_count mid is a) (in_count mid' is' b) = let same : mid ≡ mid' = cc (is, is') in one_way (rw same at a) b
  one_way (in_enclosed a) (in_enclosed b) = one_way_inside a b

  one_way_by : {types : List TypeForm} {variables : List VariableForm} {around : Around} {outer place others : Place} {branches : BranchesForm} {from holds other : Holds} {way : List Turning} → ComesBy types variables around outer branches from way place holds → ComesBy types variables around outer branches from way others other → (place ≡ others) × (holds ≡ other)
  one_way_by (in_others a) (in_others b) = one_way a b
  one_way_by (in_this mid is a) (in_this mid' is' b) = let same : mid ≡ mid' = cc (is, is') in one_way (rw same at a) b
  one_way_by (in_next mid is a) (in_next mid' is' b) = let same : mid ≡ mid' = cc (is, is') in one_way_by (rw same at a) b

  one_way_to : {types : List TypeForm} {variables : List VariableForm} {around : Around} {outer place others : Place} {hs : HandlersForm} {from holds other : Holds} {way : List Turning} → ComesTo types variables around outer hs from way place holds → ComesTo types variables around outer hs from way others other → (place ≡ others) × (holds ≡ other)
  one_way_to (to_this a) (to_this b) = one_way a b
  one_way_to (to_next a) (to_next b) = one_way_to a b

  one_way_inside : {types : List TypeForm} {variables : List VariableForm} {around : Around} {outer place others : Place} {ds : List DeclarationForm} {fs : StmtsForm} {hs : HandlersForm} {from holds other : Holds} {way : List Turning} → ComesInside types variables around outer ds fs hs from way place holds → ComesInside types variables around outer ds fs hs from way others other → (place ≡ others) × (holds ≡ other)
  one_way_inside (in_statements mid is a) (in_statements mid' is' b) = let same : mid ≡ mid' = cc (is, is') in one_way (rw same at a) b
  one_way_inside (in_handlers mid raised is at a) (in_handlers mid' raised' is' at' b) =
      let same : mid ≡ mid' = cc (is, is') in
      let here' : raised ≡ raised' = cc (same, at, at') in
      one_way_to (rw here' at a) b

pub one_flow : OneFlow
one_flow program procedure rest way place others holds other a b = one_way_inside a b
