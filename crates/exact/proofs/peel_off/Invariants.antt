-- Each turn takes the first record off what is left, which is counted and, where it is to be written, laid behind those before it.
use mathlib.Core.Path.{◌≡◌}
use mathlib.Core.List.{map}
use Prim.Native.Nat.{ℕ, ◌+◌, ◌*◌, ◌≤◌}
use lib.ListN.{length}
use Rattle.rules.specs.Doubled.{stretch}
use Rattle.records.proofs.Filling.{Filling}
use Rattle.peel.specs.Standing.{left, rest, Standing}
use Rattle.exact.proofs.peel_off.Given as goal

abbrev pub invariant-loop-remains : goal.invariant-loop-remains
invariant-loop-remains l = Standing l.job.n l.work l.rows l.pairs.by l.pairs.out l.seats × (l.remains ≡ left l.job.n l.work) × (l.records + l.remains ≤ l.job.longest) × (left l.job.n l.work * l.job.unit ≤ 65535)
    × (length l.work ≡ length l.initial.work) × ((W : ℕ) → l.job.n ≤ W → W ≤ 128 → l.records + length (rest W l.job.n l.work) ≡ length (rest W l.job.n l.initial.work))
    × Filling l.job.writes l.job.edition l.job.n (map (stretch l.job.unit) (rest l.job.width l.job.n l.initial.work)) l.initial.plan l.job.at (map (stretch l.job.unit) (rest l.job.width l.job.n l.work)) l.plan l.next

abbrev pub decreases-loop-remains : goal.decreases-loop-remains
decreases-loop-remains l = l.remains
