-- The flag says of the inputs passed whether their outputs are fine, and what was seen is just their ports.
use Rattle.std.proofs.Common.{◌≡◌, ◌&&◌}
use Rattle.records.specs.Record.{all, inside, new}
use Rattle.records.proofs.Fine.{Seen}
use Rattle.records.proofs.told_fine.Given as goal

abbrev pub invariant-loop-b : goal.invariant-loop-b
invariant-loop-b l =
    let i = l.b-index in
    Seen l.n l.outputs i l.seen × (l.fine ≡ (all i (inside l.n l.outputs) && all i (new l.outputs)))
