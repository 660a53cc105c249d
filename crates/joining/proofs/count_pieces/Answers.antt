-- Each sum becomes so many records as its hold has parts of 65,535, rounded up.
use mathlib.Core.Path.{◌≡◌, sym, ◌∙◌}
use Rattle.std.specs.List.{sum_by}
use Rattle.std.proofs.Common.{rules}
use Rattle.joining.proofs.Sums.{count, cut-count}
use Rattle.joining.proofs.count_pieces.Goals as goal

pub returns : goal.returns
returns c = λ W plan. let e : c.sum.result ≡ sum_by count c.args.table.now = search rules in e ∙ sym (cut-count W plan c.args.table.now)
