-- So many frames, each of two bytes, add up to less than 2^32.
use Rattle.std.proofs.Common.{◌≤◌, arith, rules, tests}
use Rattle.std.specs.List.{All}
use Rattle.std.proofs.lemmas.Grind.{get_or_default_zero}
use Rattle.std.proofs.lemmas.Iterator.{YieldsList-from_slice, YieldsList-from_map}
use Rattle.std.proofs.lemmas.Iterator.Consumers.{fits_by_from_yields_list}
use Rattle.std.proofs.lemmas.List.Sums.{sum_by-le}
use Rattle.rules.specs.Limits.{max_bytes}
use Rattle.table.proofs.worst.added_up.Goals as goal

pub sum-requires-clause-fits : goal.sum-requires-clause-fits
sum-requires-clause-fits c =
    let frames = c.args.frames.now in
    let each : All (λ x. x ≤ max_bytes) frames = λ k d l. rw (get_or_default_zero frames k d l) (omega (arith, c.fits-frames k)) in
    fits_by_from_yields_list (λ x. x) frames c.map.result _
    (YieldsList-from_map _ (λ x. x) (YieldsList-from_slice frames cc) c.map.ensures.closure (λ x r q k. search (rules, tests)))
    (omega (arith, sum_by-le (λ x. x) max_bytes frames each))
