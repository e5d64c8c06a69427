use Rattle.std.proofs.Common.{◌≡◌, length, take, replicate, Some}
use Rattle.pool_region.proofs.region.Region.new.Given as goal

abbrev pub invariant-loop-place : goal.invariant-loop-place
invariant-loop-place l = record {
  here : l.cells.at ≡ l.base.ptr;
  long : length l.cells.slots ≡ l.words;
  zeros : take l.place l.cells.slots ≡ replicate l.place (Some 0);
}
