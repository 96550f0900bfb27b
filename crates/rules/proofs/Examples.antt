-- The thirteen rows of the rules' example, release all given back at once, a start's clearing and equal levels: both sides of each
-- compute to the same value.
use Rattle.std.specs.Prelude.{◌≡◌, refl, [], ◌∷◌, get_or, take}
use Rattle.std.proofs.Math.Option.{some}
use Rattle.rules.specs.Choice.{first_bad}
use Rattle.rules.specs.Counting.{max_below, sum_below, total, every, none_above, contains}
use Rattle.rules.specs.Table.{worst, table_refusal}
use Rattle.rules.specs.State.{fresh, held_in}
use Rattle.rules.specs.Ceilings.{ceiling, resource_ceiling, system_ceiling}
use Rattle.rules.specs.Waiting.{sooner, insert, waiting_word}
use Rattle.rules.specs.Start.{starts, start_test}
use Rattle.rules.specs.Events.{arrive, release_all, refusal, applied, after, starts_after, started_by}
use Rattle.rules.specs.Run.{run, line, lines}
use Rattle.rules.specs.Memory.{frame_start, memory_after}
use Rattle.rules.specs.Examples.{examples, AllAsSaid, no_line, pair, pair_log, shared}

pub the_examples : AllAsSaid examples
unfolding first_bad max_below sum_below total every none_above contains worst table_refusal held_in ceiling resource_ceiling system_ceiling sooner insert waiting_word starts start_test refusal applied after starts_after started_by line lines
the_examples = (refl, (refl, (refl, (refl, (refl, (refl, (refl, (refl, (refl, (refl, (refl, (refl, (refl, tt)))))))))))))

-- Job 2 starts once both are given back, so job 1 starts when it finishes. With a start test after the first of two single releases job 2
-- would start halfway, the second unit would stay held, and job 1 would go on waiting.
pub release_all_at_once : get_or (lines pair fresh pair_log) 6 no_line ≡ record { answer = 0; started = some 1; runs = some 1; ceiling = 20; waiting = 0; word = 0 }
unfolding first_bad max_below sum_below total contains held_in ceiling resource_ceiling system_ceiling sooner insert waiting_word starts start_test refusal applied after starts_after started_by line lines
release_all_at_once = refl

-- Job 2 starts above job 0, whose frame is byte 0: byte 1 becomes zero, the others stay.
pub start_clears : memory_after pair (run pair fresh (take 5 pair_log)) (release_all 0) (7 ∷ 7 ∷ 7 ∷ []) ≡ 7 ∷ 0 ∷ 7 ∷ []
unfolding first_bad max_below total contains held_in ceiling resource_ceiling system_ceiling sooner insert starts start_test refusal applied after starts_after run frame_start memory_after
start_clears = refl

-- Of two jobs at one level only the larger frame counts in the worst stack: 30 + 40.
pub shared_worst : worst shared ≡ 70
unfolding max_below sum_below worst
shared_worst = refl

-- Of two jobs at one level the one that arrived first stands first: job 2, then job 1.
pub shared_order : (run shared fresh (arrive 0 ∷ arrive 2 ∷ arrive 1 ∷ [])).waiting ≡ record { who = 2 } ∷ record { who = 1 } ∷ []
unfolding first_bad max_below contains held_in ceiling resource_ceiling system_ceiling sooner insert starts start_test refusal applied after run
shared_order = refl
