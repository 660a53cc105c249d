-- After k turns the count is that of the first k cells.
use mathlib.Core.Path.{◌≡◌, refl, ap, ◌∙◌}
use mathlib.Core.Bool.{Bool, not}
use Prim.Native.Nat.{ℕ}
use native.Mathlib.Omega.{arith}
use lib.Dec.{eqb}
use lib.ListN.{length, take}
use lib.Seq.{take_all}
use borrow.Author.Tests.{eq-eqb, ne_eqb}
use Rattle.std.specs.List.{count_by}
use Rattle.std.proofs.lemmas.List.Sums.{count_by_more_no, count_by_more_yes}
use Rattle.shop.proofs.count_tasks.Goals as goal
use Rattle.shop.proofs.count_tasks.Goals.{then-cells-k-ne0, else-cells-k-ne0}

abbrev some : ℕ → Bool
some x = not (eqb x 0)

pub loop-k-init : goal.loop-k-init
loop-k-init c = (omega arith, refl, omega arith, refl)

pub loop-k-preserved : goal.loop-k-preserved
loop-k-preserved c =
    let a = c.args in
    let l = c.loop-k in
    elim c.if-cells-k-ne0.branch [
      | then-cells-k-ne0 x ↦ (
        omega arith,
        refl,
        omega (arith, x.count-is),
        omega (arith, x.count-is, l.invariant.3, count_by_more_yes some a.cells.now l.k 0 (omega arith) (ap not (ne_eqb _ 0 x.if-cells-k-ne0.true))),
      )
      | else-cells-k-ne0 x ↦ (
        omega arith,
        refl,
        omega (arith, x.count-is),
        omega (arith, x.count-is, l.invariant.3, count_by_more_no some a.cells.now l.k 0 (omega arith) (ap not (eq-eqb _ 0 x.if-cells-k-ne0.false))),
      )
    ]

pub returns : goal.returns
returns c =
    let w = c.args.cells.now in
    let l = c.loop-k in
    let e : l.k ≡ length w = omega arith in
    l.invariant.3 ∙ ap (λ (m : ℕ). count_by some (take m w)) e ∙ ap (count_by some) (take_all (length w) w (omega arith))
