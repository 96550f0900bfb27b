-- A table was read, so its fresh state is stored.
use Rattle.std.proofs.Common.{ap, ◌∙◌}
use Rattle.station.specs.declared.State.{State}
use Rattle.state_form.specs.Form.{put_out}
use Rattle.driver.proofs.Fresh.{fresh_stored}
use Rattle.driver.proofs.tables.urzalinda_fresh.Goals as goal

pub returns-clause-state : goal.returns-clause-state
returns-clause-state c =
    let old = c.args.state.now in
    fresh_stored c.args.table.now c.read_table-read.result old c.put_state.new.out c.read_table-read.ensures c.in_default.not-Err
    (c.put_state.ensures.bytes ∙ ap (λ (s : State). put_out s old) c.fresh-fresh.ensures.state)
