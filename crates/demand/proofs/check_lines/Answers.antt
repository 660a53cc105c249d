-- The first line over the limit is told by its side; where there is none, the largest of all 2n lines is T.
use Rattle.std.specs.Prelude.{Err, Ok}
use mathlib.Core.Path.{◌≡◌, refl, sym, ap, ◌∙◌}
use Prim.Native.Nat.{ℕ, ◌+◌, ◌<◌}
use native.Mathlib.Omega.{arith}
use Rattle.counting.specs.Sum.{most}
use Rattle.counting.proofs.Most.{most-zero, most-next, most-at}
use Rattle.switch.specs.Demand.{cell, line, longest}
use Rattle.switch.proofs.Demand.{longest-is}
use Rattle.switch.specs.declared.Side.{Side}
use Rattle.switch.specs.declared.Refusal.TheVariants.{Line}
use Rattle.demand.specs.Checked.{Checked}
use Rattle.demand.specs.Lines.{line_side, line_over}
use Rattle.demand.proofs.Lines.{over-start, over-here, over-next}
use Rattle.demand.proofs.Check.{lines_long, lines-fine}
use Rattle.demand.proofs.check_lines.Goals as goal

pub loop-k-init : goal.loop-k-init
loop-k-init c = record { end = refl; past = omega arith; longest = sym (most-zero _); small = omega arith; first = over-start _ _ _ }

pub returns-then-sum-gt-LONGEST : goal.returns-then-sum-gt-LONGEST
unfolding line_over
returns-then-sum-gt-LONGEST c =
    let a = c.args in
    let l = c.loop-k in
    let f = line a.n a.cells.now in
    let over : 65535 < f l.k = omega (arith, c.line_sum-sum.ensures) in
    let long : 65535 < longest a.n (cell a.n a.cells.now) = omega (arith, over, most-at (a.n + a.n) f l.k c.loop-k-test.true, longest-is a.n a.cells.now) in
    ap {B = Checked} (λ (s : Side). Err (Line s)) (c.side_of.ensures ∙ ap (line_side a.n) (sym (l.invariant.first ∙ over-here 65535 f (a.n + a.n) l.k c.loop-k-test.true over)))
    ∙ lines_long a.n a.cells.now long

pub loop-k-preserved : goal.loop-k-preserved
loop-k-preserved c =
    let a = c.args in
    let l = c.loop-k in
    let f = line a.n a.cells.now in
    record {
      end = refl;
      past = omega arith;
      longest = omega (arith, l.invariant.longest, c.line_sum-sum.ensures, c.max-longest.ensures, most-next l.k f);
      small = omega (arith, l.invariant.small, c.max-longest.ensures);
      first = l.invariant.first ∙ over-next 65535 f (a.n + a.n) l.k c.loop-k-test.true (omega (arith, c.line_sum-sum.ensures));
    }

pub returns : goal.returns
returns c =
    let a = c.args in
    let l = c.loop-k in
    let e : l.k ≡ a.n + a.n = omega arith in
    let is : l.longest ≡ longest a.n (cell a.n a.cells.now) = l.invariant.longest ∙ ap (λ (x : ℕ). most x (line a.n a.cells.now)) e ∙ longest-is a.n a.cells.now in
    ap {B = Checked} (λ (t : ℕ). Ok t) is ∙ lines-fine a.n a.cells.now (omega (arith, is, l.invariant.small))
