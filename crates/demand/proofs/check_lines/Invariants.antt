-- None of the first k lines is over the limit, and the largest of them is kept; so what a scan from line 0 finds is what one from line k finds.
use mathlib.Core.Path.{◌≡◌}
use Prim.Native.Nat.{◌+◌, ◌-◌, ◌≤◌}
use Rattle.counting.specs.Sum.{most}
use Rattle.switch.specs.Demand.{line}
use Rattle.demand.specs.Lines.{over}
use Rattle.demand.proofs.check_lines.Given as goal

abbrev pub invariant-loop-k : goal.invariant-loop-k
invariant-loop-k l = record {
  end : l.k-end ≡ l.n + l.n;
  past : l.k ≤ l.n + l.n;
  longest : l.longest ≡ most l.k (line l.n l.cells);
  small : l.longest ≤ 65535;
  first : over 65535 (line l.n l.cells) (l.n + l.n) 0 ≡ over 65535 (line l.n l.cells) (l.n + l.n - l.k) l.k;
}
