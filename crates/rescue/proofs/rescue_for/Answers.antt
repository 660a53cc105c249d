-- A refusal that was passed on counts nothing.
use Rattle.rescue.proofs.Order.{saves-told}
use Rattle.rescue.proofs.rescue_for.Goals as goal

pub returns : goal.returns
returns g c = saves-told _ c.unwrap_or_else.ensures c.rescued_or_refused.ensures
