-- The places passed have what is left, the others 0.
use Rattle.std.proofs.Common.{◌≡◌, ℕ, ◌-◌, ◌<◌, length, get_or}
use Rattle.rules.specs.Limits.{max_resources}
use Rattle.station.proofs.ceilings.left.Given as goal

abbrev pub invariant-loop-r : goal.invariant-loop-r
invariant-loop-r l = record {
  all : length l.free ≡ max_resources;
  passed : (k : ℕ) → k < l.r → get_or l.free k 0 ≡ get_or l.units k 0 - get_or l.held k 0;
}
