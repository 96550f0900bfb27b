-- The buffer is as long as the state's bytes, so they are all that it holds, and are read back as the state.
use Rattle.std.proofs.Common.{◌∙◌, ap, List, ℕ, rules}
use Rattle.state_form.specs.Form.{get_answer}
use Rattle.state_form.proofs.Stored.{all_stored, all_over}
use Rattle.state_form.proofs.ReadBack.{get_written}
use Rattle.state_form.proofs.write.put_state.Goals as goal

pub returns-clause-bytes : goal.returns-clause-bytes
returns-clause-bytes c = all_over c.args.state.now c.args.out.now c.put_all.new.out (search rules) c.put_all.ensures.width c.put_all.ensures.bytes

pub returns-clause-back : goal.returns-clause-back
returns-clause-back c done =
    let all = all_stored c.args.state.now c.args.out.now c.put_all.new.out (search rules) c.put_all.ensures.width c.put_all.ensures.bytes in
    ap (λ (b : List ℕ). get_answer b) all ∙ get_written c.args.state.now c.put_all.ensures.full
