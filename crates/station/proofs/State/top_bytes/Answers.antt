-- The lemmas of RunningFrame, at each return.
use Rattle.std.proofs.Common.{arith}
use Rattle.station.proofs.RunningFrame.{nothing_runs, frame_within, frame_is, frames_within}
use Rattle.station.proofs.State.top_bytes.Goals as goal

pub returns-in_default-clause-part : goal.returns-in_default-clause-part
returns-in_default-clause-part c = nothing_runs c.args.self.now c.started.result.now c.started.ensures (rw c.in_default.is at c.last.ensures.value)

pub overflow_sub-result : goal.overflow_sub-result
overflow_sub-result c =
    rw (c.from.ensures, c.frame_of.ensures, c.frames-end.ensures)
    (frame_within c.args.self.now c.started.result.now c.in-Some.running.now c.started.ensures (rw c.in-Some.is at c.last.ensures.value))

pub returns-clause-within : goal.returns-clause-within
returns-clause-within c = (
  omega arith,
  rw c.frames-end.ensures
      (frames_within c.args.self.now c.started.result.now c.in-Some.running.now c.started.ensures (rw c.in-Some.is at c.last.ensures.value) c.requires),
)

pub returns-clause-part : goal.returns-clause-part
returns-clause-part c =
    rw (c.from.ensures, c.frame_of.ensures, c.frames-end.ensures)
    (frame_is c.args.self.now c.started.result.now c.in-Some.running.now c.started.ensures (rw c.in-Some.is at c.last.ensures.value))
