-- The flag says of all outputs so far whether they may stand there; each turn judges one more.
use Rattle.std.proofs.Common.{◌≡◌, ◌+◌}
use Rattle.records.specs.Record.{all, later}
use Rattle.records.proofs.later_idle.Given as goal

abbrev pub invariant-loop-b : goal.invariant-loop-b
invariant-loop-b l = l.idle ≡ all (l.n + l.b-index) (later l.n l.outputs)
