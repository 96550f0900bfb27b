-- A station that is made is fresh, so it is well formed.
use Rattle.std.proofs.Common.{ap, sym, ◌∙◌, rules}
use Rattle.table.specs.Judging.{judged_number}
use Rattle.station.proofs.Moments.{fresh_formed}
use Rattle.station.proofs.work.Station.new.Goals as goal

pub invariant_of-result : goal.invariant_of-result
invariant_of-result c =
    let g = sym c.fresh-fresh.ensures.made ∙ ap judged_number c.in_ok-fresh.was in
    record {
      formed = fresh_formed c.args.table (record { units = search rules; jobs = search rules }) g c.fresh-fresh.result.state c.fresh-fresh.ensures.state;
      known = c.ceiling_now-ceiling.ensures;
    }
