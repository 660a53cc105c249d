-- The space, and the digits behind it.
use mathlib.Core.List.{[], ◌∷◌}
use native.Mathlib.Omega.{arith}
use Rattle.text.specs.Decimal.{decimal}
use Rattle.text.specs.Line.{space}
use Rattle.text.proofs.Put.{second-room, put_two}
use Rattle.text.proofs.put_number.Goals as goal

pub put_decimal-requires : goal.put_decimal-requires
put_decimal-requires c =
    let a = c.args in
    second-room (space ∷ []) (decimal a.number) a.text.now a.at (omega arith) _ _ c.put_bytes-after.ensures

pub returns : goal.returns
returns c =
    let a = c.args in
    put_two (space ∷ []) (decimal a.number) a.text.now a.at (omega arith) _ _ c.put_bytes-after.ensures _ _ c.put_decimal.ensures
