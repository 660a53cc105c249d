-- Row by row the count grows by a row's.
use mathlib.Core.Path.{◌≡◌, sym, ap, ◌∙◌}
use Prim.Native.Nat.{ℕ, ◌≤◌}
use native.Mathlib.Omega.{arith}
use lib.Dec.{ltb}
use Rattle.counting.specs.Sum.{sum}
use Rattle.counting.specs.Count.{count}
use Rattle.counting.proofs.Sum.{sum-zero, sum-next}
use Rattle.switch.specs.Demand.{cell}
use Rattle.rules.proofs.Ports.{count-le}
use Rattle.quiet_rule.specs.Quiet.{pairs}
use Rattle.quiet.proofs.asked_pairs.Goals as goal

pub loop-i-init : goal.loop-i-init
loop-i-init c = (omega arith, sym (sum-zero _), omega arith)

pub asked_of-asked-requires : goal.asked_of-asked-requires
asked_of-asked-requires c = (c.requires, c.loop-i-test.true)

pub overflow_add-asked : goal.overflow_add-asked
overflow_add-asked c = let few : c.asked_of-asked.result ≤ 128 = let a = c.args in omega (arith, c.asked_of-asked.ensures, count-le a.n (λ b. ltb 0 (cell a.n a.cells.now c.loop-i.i b)), c.requires.few) in
    omega (arith, few, c.requires.few)

pub loop-i-preserved : goal.loop-i-preserved
loop-i-preserved c =
    let few : c.asked_of-asked.result ≤ 128 = let a = c.args in omega (arith, c.asked_of-asked.ensures, count-le a.n (λ b. ltb 0 (cell a.n a.cells.now c.loop-i.i b)), c.requires.few) in
    let a = c.args in
    let l = c.loop-i in
    (omega arith, omega (arith, c.asked_of-asked.ensures, l.invariant.1, sum-next l.i (λ x. count a.n (λ b. ltb 0 (cell a.n a.cells.now x b)))), omega (arith, few))

pub returns : goal.returns
unfolding pairs
returns c =
    let a = c.args in
    let l = c.loop-i in
    let e : l.i ≡ a.n = omega arith in
    l.invariant.1 ∙ ap (λ (m : ℕ). sum m (λ x. count a.n (λ b. ltb 0 (cell a.n a.cells.now x b)))) e
