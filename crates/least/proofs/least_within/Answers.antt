-- What the demand is refused for by itself comes first, then a limit of 0.
use mathlib.Core.Path.{sym, ◌∙◌}
use native.Mathlib.Nat.{le_of_eq}
use native.Mathlib.Omega.{arith}
use Rattle.std.proofs.lemmas.Result.{err_from_is_err_and}
use Rattle.demand.proofs.Check.{fine-asked}
use Rattle.least.proofs.Answer.{least-fault, least-limit, least-told, rounded_up}
use Rattle.least.proofs.least_within.Goals as goal

pub returns-in_err-longest : goal.returns-in_err-longest
returns-in_err-longest c =
    let p = err_from_is_err_and c.from_residual.result c.from_residual.ensures.1 in
    let a = c.args in
    rw (p.1, p.2) (least-fault a.n a.cells.now a.limit _ (sym c.check_demand.ensures ∙ c.in_err-longest.was))

pub returns-then-limit-eq0 : goal.returns-then-limit-eq0
returns-then-limit-eq0 c =
    let a = c.args in
    least-limit a.n a.cells.now a.limit _ (sym c.check_demand.ensures ∙ c.in_ok-longest.was) c.if-limit-eq0.true

pub busiest_sum-requires : goal.busiest_sum-requires
busiest_sum-requires c =
    let k = fine-asked 64 _ _ _ (sym c.check_demand.ensures ∙ c.in_ok-longest.was) in
    record { few = omega (arith, k.few); room = le_of_eq (sym k.size) }

pub returns : goal.returns
returns c =
    let a = c.args in
    least-told a.n a.cells.now a.limit _ (sym c.check_demand.ensures ∙ c.in_ok-longest.was) (omega (arith, c.if-limit-eq0.false)) _ _ _
    c.busiest_sum.ensures (c.div_ceil-shared.ensures ∙ rounded_up _ _ (omega (arith, c.if-limit-eq0.false))) c.max.ensures
