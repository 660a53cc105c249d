-- A row is n cells side by side and a column n cells n apart, all of them among the n × n.
use mathlib.Core.Path.{◌∙◌}
use Prim.Native.Nat.{◌+◌, ◌*◌, ◌-◌}
use native.Mathlib.Omega.{arith}
use lib.Arith.{digits_lt}
use Rattle.switch.proofs.Demand.{index-small}
use lib.ListN.{get_or}
use Rattle.demand.proofs.Lines.{range-small, row-strided, col-strided}
use Rattle.demand.proofs.line_sum.Goals as goal

pub overflow_mul-k : goal.overflow_mul-k
overflow_mul-k c =
    let a = c.args in
    omega (arith, index-small a.n a.k c.requires.0.few c.if-k-n.true)

pub sum_of-requires : goal.sum_of-requires
sum_of-requires c =
    let a = c.args in
    let p = c.requires.0 in record {
      inside = λ b l. omega (arith, p.room, digits_lt {q = a.k} {m = a.n} {r = b} {c = a.n} c.if-k-n.true l);
      fits = omega (arith, p.few, range-small (λ b. get_or a.cells.now (a.k * a.n + b * 1) 0) a.n 4294967295 (λ b l. omega (arith, c.type_inv.cells (a.k * a.n + b * 1))));
    }

pub returns-then-k-n : goal.returns-then-k-n
returns-then-k-n c = c.sum_of.ensures ∙ row-strided _ _ _ c.if-k-n.true

pub sum_of-requires-2 : goal.sum_of-requires-2
sum_of-requires-2 c =
    let a = c.args in
    let p = c.requires.0 in record {
      inside = λ b l. omega (arith, p.room, digits_lt {q = b} {m = a.n} {r = a.k - a.n} {c = a.n} l (omega arith));
      fits = omega (arith, p.few, range-small (λ b. get_or a.cells.now (a.k - a.n + b * a.n) 0) a.n 4294967295 (λ b l. omega (arith, c.type_inv.cells (a.k - a.n + b * a.n))));
    }

pub returns : goal.returns
returns c = c.sum_of-2.ensures ∙ col-strided _ _ _ c.if-k-n.false
