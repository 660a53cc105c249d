-- What the demand is refused for by itself comes first, then T, and then what is left to the room.
use Rattle.std.proofs.lemmas.Result.{err_from_is_err_and}
use mathlib.Core.Path.{refl, sym, ◌∙◌}
use Prim.Native.Nat.{ℕ}
use native.Mathlib.Omega.{arith}
use lib.ListN.{replicate, length-replicate}
use Rattle.labels.specs.Ports.{Outputs}
use Rattle.quick.proofs.Planning.{gives-fault, gives-longest, lends}
use Rattle.quick.proofs.plan_for.Goals as goal

pub whole_as_slice-copy_checked : goal.whole_as_slice-copy_checked
whole_as_slice-copy_checked g c = omega (arith, c.requires.few)

pub returns-in_err-longest : goal.returns-in_err-longest
returns-in_err-longest g c =
    let a = c.args in
    let p = err_from_is_err_and c.from_residual.result c.from_residual.ensures.1 in
    rw (p.1, p.2) (gives-fault a.e a.n a.cells.now a.plan.now _ (sym c.in_err-longest.ensures.checked))

pub returns-then-longest-gt-MOST_QUICK : goal.returns-then-longest-gt-MOST_QUICK
returns-then-longest-gt-MOST_QUICK g c =
    let a = c.args in
    gives-longest a.e a.n a.cells.now a.plan.now c.in_ok-longest.longest (sym c.in_ok-longest.ensures.checked) (omega arith)

pub whole_as_slice-plan_checked : goal.whole_as_slice-plan_checked
whole_as_slice-plan_checked g c = omega (arith, c.requires.few)

pub whole_as_front-plan_checked : goal.whole_as_front-plan_checked
whole_as_front-plan_checked g c =
    let a = c.args in
    let lent = lends a.e a.n c.in_ok-longest.longest g.row.PORTS g.row.CELLS a.cells.now c.copy_checked.new.work (replicate g.row.PORTS c.none-rows.result) (replicate g.row.PORTS 255)
    c.requires (sym c.in_ok-longest.ensures.checked) (c.copy_checked.auto.work ∙ length-replicate {A = ℕ} g.row.CELLS 0) (length-replicate {A = Outputs} g.row.PORTS c.none-rows.result) (length-replicate {A = ℕ} g.row.PORTS 255) in
    (omega (arith, lent.0, length-replicate {A = Outputs} g.row.PORTS c.none-rows.result), omega (arith, c.requires.wide, c.requires.bounded.width))

pub plan_checked-requires : goal.plan_checked-requires
plan_checked-requires g c =
    let a = c.args in
    let lent = lends a.e a.n c.in_ok-longest.longest g.row.PORTS g.row.CELLS a.cells.now c.copy_checked.new.work (replicate g.row.PORTS c.none-rows.result) (replicate g.row.PORTS 255)
    c.requires (sym c.in_ok-longest.ensures.checked) (c.copy_checked.auto.work ∙ length-replicate {A = ℕ} g.row.CELLS 0) (length-replicate {A = Outputs} g.row.PORTS c.none-rows.result) (length-replicate {A = ℕ} g.row.PORTS 255) in (
      record {
        bounded = c.requires.bounded;
        fine = sym c.in_ok-longest.ensures.checked;
        small = omega arith;
        copied = c.in_ok-longest.ensures.copied _ refl;
      },
      lent.1,
      length-replicate {A = ℕ} g.row.PORTS 255 ∙ c.requires.wide,
    )
