-- What the demand is refused for by itself comes first, then a limit of 0, and then what is left to the room.
use Rattle.std.proofs.lemmas.Result.{err_from_is_err_and}
use mathlib.Core.Path.{sym}
use Prim.Native.Nat.{ℕ}
use native.Mathlib.Omega.{arith}
use lib.ListN.{replicate, length-replicate}
use Rattle.labels.specs.Ports.{Outputs}
use Rattle.quiet.proofs.Planning.{gives-fault, gives-limit, lends}
use Rattle.quiet.proofs.quiet_plan.Goals as goal

pub returns-in_err-longest : goal.returns-in_err-longest
returns-in_err-longest c =
    let a = c.args in
    let p = err_from_is_err_and c.from_residual.result c.from_residual.ensures.1 in
    rw (p.1, p.2) (gives-fault a.n a.cells.now a.limit a.plan.now _ (sym c.in_err-longest.ensures))

pub returns-then-limit-eq0 : goal.returns-then-limit-eq0
returns-then-limit-eq0 c = let a = c.args in gives-limit a.n a.cells.now a.limit a.plan.now c.in_ok-longest.longest (sym c.in_ok-longest.ensures) (omega (arith, c.if-limit-eq0.true))

pub slice_bounds-rows-end : goal.slice_bounds-rows-end
slice_bounds-rows-end c =
    let lent = lends c.args.n c.in_ok-longest.longest c.args.cells.now (sym c.in_ok-longest.ensures) (replicate 4096 0) (replicate 64 c.none-rows.result) (length-replicate {A = ℕ} 4096 0) (length-replicate {A = Outputs} 64 c.none-rows.result) in
    lent.0

pub slice_bounds-plan_fine-end-2 : goal.slice_bounds-plan_fine-end-2
slice_bounds-plan_fine-end-2 c =
    let lent = lends c.args.n c.in_ok-longest.longest c.args.cells.now (sym c.in_ok-longest.ensures) (replicate 4096 0) (replicate 64 c.none-rows.result) (length-replicate {A = ℕ} 4096 0) (length-replicate {A = Outputs} 64 c.none-rows.result) in
    sym lent.1.each

pub plan_fine-requires : goal.plan_fine-requires
plan_fine-requires c =
    let lent = lends c.args.n c.in_ok-longest.longest c.args.cells.now (sym c.in_ok-longest.ensures) (replicate 4096 0) (replicate 64 c.none-rows.result) (length-replicate {A = ℕ} 4096 0) (length-replicate {A = Outputs} 64 c.none-rows.result) in
    (omega (arith, c.if-limit-eq0.false), sym c.in_ok-longest.ensures, lent.1)
