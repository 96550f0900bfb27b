-- The fresh state of a table that was read is what the definitions store: the table could be written, so its fresh state is no state of zeros.
use Rattle.std.specs.Prelude.{◌≡◌, refl, List, ℕ, Result, Ok, Err, eqb}
use Rattle.std.proofs.Common.{ap, sym, ◌∙◌, arith}
use Rattle.rules.specs.Choice.{pick}
use Rattle.rules.specs.State.{fresh}
use Rattle.table.specs.declared.RefusedAt.{RefusedAt}
use Rattle.table.specs.declared.Table.{Table}
use Rattle.table.specs.Arrays as T
use Rattle.table.specs.Judging.{table_judged}
use Rattle.tagged_table.specs.declared.TableRead.{TableRead}
use Rattle.tagged_table.specs.Form.{Reading, table_reading}
use Rattle.tagged_table.specs.Answers.{end_said, Answers}
use Rattle.station.specs.declared.State.{State}
use Rattle.station.specs.Arrays.{arrays_of, fresh_state, state_of_zeros}
use Rattle.state_form.specs.Form.{put_out}
use Rattle.tagged_table.proofs.Arrays.{read_judged}
use Rattle.driver.specs.Answers.{fresh_out}

-- The fresh state of a table that could be written.
fresh_of : (t : Table) → table_judged t ≡ 0 → fresh_state t ≡ arrays_of t fresh
fresh_of t j = ap (λ (i : ℕ). pick (eqb i 0) (arrays_of t fresh) state_of_zeros) j

pub fresh_stored : (s : List ℕ) (r : TableRead) (old new : List ℕ) → Answers r (table_reading s) → ((e : RefusedAt) → r.end ≡ Err e → ⊥)
    → new ≡ put_out (fresh_state r.table) old → new ≡ fresh_out (table_reading s) old
fresh_stored s r old new a n h = go (table_reading s) refl a
  where
    ended : (x : ℕ × ℕ) (y : Result ℕ RefusedAt) → y ≡ r.end → end_said y ≡ Err x → ⊥
    ended x (Ok k) e f = grind (arith, f)
    ended x (Err y) e f = n y (sym e)

    go : (x : Reading) → table_reading s ≡ x → Answers r x → new ≡ fresh_out x old
    go (Ok x) q b =
        h
        ∙ ap (λ (t : Table). put_out (fresh_state t) old) b.table
        ∙ ap (λ (i : State). put_out i old) (fresh_of (T.arrays_of x.1) (read_judged s x.0 x.1 q))
    go (Err x) q b = absurd (ended x r.end refl b.end)
