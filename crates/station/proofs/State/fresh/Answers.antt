-- Demand 3 of the fresh state, where one is made.
use Rattle.std.proofs.Common.{sym, ◌∙◌, rules}
use Rattle.station.proofs.Demand.{demand_3_of, fresh_is, refused_not_made}
use Rattle.station.proofs.State.fresh.Goals as goal

pub returns-then-is_ok-clause-demand_3 : goal.returns-then-is_ok-clause-demand_3
returns-then-is_ok-clause-demand_3 c =
    λ made. let g = sym c.judge-made.ensures ∙ made in
    demand_3_of c.args.table (record { units = search rules; jobs = search rules }) g _ (fresh_is c.args.table g c.default-state.result c.default-state.ensures)

pub returns-else-is_ok-clause-demand_3 : goal.returns-else-is_ok-clause-demand_3
returns-else-is_ok-clause-demand_3 c = λ made. absurd (refused_not_made c.judge-made.result (sym c.is_ok.ensures.value ∙ c.if-is_ok.false) made)
