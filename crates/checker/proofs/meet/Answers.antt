-- No cell before k is granted less than asked, so what the scan from cell 0 finds is what the scan from cell k finds; and up to k the slots
-- granted beyond what is asked are summed, each below 2^32, so that 16,384 of them cannot wrap.
use mathlib.Core.Path.{◌≡◌, sym, ap, ◌∙◌}
use Prim.Native.Nat.{ℕ, ◌*◌, ◌-◌}
use native.Mathlib.Omega.{arith}
use lib.ListN.{get_or}
use Rattle.counting.specs.Sum.{sum}
use Rattle.counting.proofs.Sum.{sum-zero, sum-next}
use Rattle.switch.specs.Demand.{cell}
use Rattle.demand.proofs.Lines.{over-here, over-next, over-end, over-start}
use Rattle.grants.proofs.Grant.{cell-index}
use Rattle.checker.specs.Check.{missing, uncovered}
use Rattle.switch.proofs.Empty.{beyond-cells}
use Rattle.checker.proofs.Cover.{missing-some, missing-none, meeting-misses, meeting-meets}
use Rattle.checker.proofs.meet.Goals as goal

pub loop-k-init : goal.loop-k-init
unfolding uncovered
loop-k-init c = (over-start 0 (missing c.args.n (cell c.args.n c.args.cells.now) (cell c.args.n c.args.grants.now)) _, sym (sum-zero _), omega arith)

pub returns-then-grants-k : goal.returns-then-grants-k
returns-then-grants-k c =
    let a = c.args in
    let l = c.loop-k in
    meeting-misses a.n _ _ l.k
    (l.invariant.0 ∙ over-here _ _ _ _ (omega arith) (missing-some a.n _ _ l.k (omega (arith, cell-index a.n a.cells.now l.k, cell-index a.n a.grants.now l.k))))
    (omega arith)

pub loop-k-preserved : goal.loop-k-preserved
loop-k-preserved c =
    let a = c.args in
    let l = c.loop-k in (
      l.invariant.0 ∙ over-next _ _ _ _ (omega arith) (missing-none a.n _ _ l.k (omega (arith, cell-index a.n a.cells.now l.k, cell-index a.n a.grants.now l.k))),
      omega (arith, l.invariant.1, sum-next l.k (λ x. get_or a.grants.now x 0 - get_or a.cells.now x 0)),
      omega arith,
    )

pub returns : goal.returns
returns c =
    let a = c.args in
    let l = c.loop-k in
    let e : l.k ≡ a.n * a.n = omega arith in
    meeting-meets a.n _ _ (omega (arith, l.invariant.0, over-end 0 (missing a.n (cell a.n a.cells.now) (cell a.n a.grants.now)) (a.n * a.n) l.k (omega arith))) _
    (l.invariant.1 ∙ ap (λ (m : ℕ). sum m (λ x. get_or a.grants.now x 0 - get_or a.cells.now x 0)) e ∙ beyond-cells a.n a.cells.now a.grants.now)
