-- What is refused coming in changes nothing; else the stock is taken, and what is left decides.
use mathlib.Core.Path.{refl}
use native.Mathlib.Omega.{arith}
use Rattle.std.proofs.lemmas.Result.{err_from_is_err_and}
use Rattle.rescue.proofs.Order.{saves-as, saves-refusal, rescuing-faulty}
use Rattle.rescue.proofs.Taking.{rescuing-taken}
use Rattle.rescue.proofs.rescued_or_refused.Goals as goal

pub returns-in_err-longest : goal.returns-in_err-longest
returns-in_err-longest g c =
    let p = err_from_is_err_and c.from_residual.result c.from_residual.ensures.1 in
    rw (p.1, p.2) (saves-refusal (rescuing-faulty _ _ _ _ _ _ c.in_err-longest.ensures) refl)

pub write_or_refuse-requires : goal.write_or_refuse-requires
write_or_refuse-requires g c = (omega (arith, c.requires.2), (c.take_stock-stock.ensures.stock, c.requires.2))

pub returns : goal.returns
returns g c =
    saves-as (rescuing-taken _ _ _ _ _ _ _ _ _ c.in_ok-longest.ensures c.take_stock-stock.ensures) c.write_or_refuse.ensures
