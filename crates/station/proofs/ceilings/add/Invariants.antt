-- The places passed have the sum, the others what they had.
use Rattle.std.proofs.Common.{◌≡◌, ℕ, ◌+◌, ◌<◌, length, get_or, ◌≤◌}
use Rattle.rules.specs.Limits.{max_resources}
use Rattle.station.proofs.ceilings.add.Given as goal

abbrev pub invariant-loop-r : goal.invariant-loop-r
invariant-loop-r l = record {
  all : length l.held ≡ max_resources;
  passed : (k : ℕ) → k < l.r → get_or l.held k 0 ≡ get_or l.fn.held k 0 + get_or l.more k 0;
  left : (k : ℕ) → l.r ≤ k → get_or l.held k 0 ≡ get_or l.fn.held k 0;
}
