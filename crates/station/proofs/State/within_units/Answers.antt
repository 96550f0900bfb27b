-- The chain tests what is held of each resource against its units.
use Rattle.std.specs.Prelude.{◌≡◌, ℕ, length, take, leb}
use Rattle.std.proofs.Common.{arith, rules, tests}
use Rattle.std.proofs.lemmas.Iterator.{YieldsList-from_slice, YieldsList-from_zip}
use Rattle.std.proofs.lemmas.Iterator.Search.{all_from_yields_List}
use Rattle.rules.specs.Limits.{max_resources}
use Rattle.table.specs.Arrays.{table_of}
use Rattle.table.proofs.Fit.{few_resources_listed}
use Rattle.station.specs.Arrays.{state_of}
use Rattle.station.proofs.Parts.{tested_fit}
use Rattle.station.proofs.Formed.{by_units}
use Rattle.station.proofs.State.within_units.Goals as goal

pub returns : goal.returns
returns c =
    let s = c.args.self.now in
    let places : length c.held.result ≡ max_resources = search rules in
    by_units (table_of s.table) (state_of s).stack c.held.result c.all.result (omega (arith, few_resources_listed s.table (tested_fit s c.requires))) c.held.ensures
    (all_from_yields_List (λ (p : ℕ × ℕ). leb p.0 p.1) c.all.new.self _ c.all.result c.all.ensures.ran
    (YieldsList-from_zip (YieldsList-from_slice c.held.result cc) (YieldsList-from_slice (take s.table.resource_count s.table.units) cc))
    (λ x b q k. search (rules, tests)))
