-- Each return is the case of the definition whose tests led there.
use mathlib.Core.Path.{◌∙◌}
use Prim.Native.Nat.{◌≤◌}
use native.Mathlib.Omega.{arith}
use native.Mathlib.Nat.{mul-le-mul}
use Rattle.switch.proofs.Check.{no-ports, many-ports, some-ports}
use Rattle.demand.proofs.Check.{bad-ports, bad-cells, lines_left}
use Rattle.demand.proofs.check_demand.Goals as goal

pub returns-then-n-eq0 : goal.returns-then-n-eq0
returns-then-n-eq0 c = bad-ports _ _ _ (no-ports _ _ c.if-n-eq0.true)

pub returns-then-most-n : goal.returns-then-most-n
returns-then-most-n c = bad-ports _ _ _ (many-ports _ _ c.if-most-n.true)

pub overflow_mul-square : goal.overflow_mul-square
overflow_mul-square c = let l : c.args.n ≤ 128 = omega arith in omega (arith, mul-le-mul l l)

pub returns-then-cells-square : goal.returns-then-cells-square
returns-then-cells-square c = bad-cells _ _ _ (some-ports _ _ (omega arith) c.if-most-n.false) c.if-cells-square.true

pub returns : goal.returns
returns c = c.check_lines.ensures ∙ lines_left _ _ _ (some-ports _ _ (omega arith) c.if-most-n.false) c.if-cells-square.false
