-- The word, and its number behind it.
use mathlib.Core.List.{◌∷◌}
use Rattle.text.specs.Decimal.{decimal}
use Rattle.text.specs.Line.{space}
use native.Mathlib.Omega.{arith}
use Rattle.text.proofs.Put.{first-room, second-room, put_two}
use Rattle.text.proofs.put_field.Goals as goal

pub put_bytes-after-requires : goal.put_bytes-after-requires
put_bytes-after-requires c =
    first-room c.args.word.now (space ∷ decimal c.args.number) c.args.text.now c.args.at c.requires

pub put_number-requires : goal.put_number-requires
put_number-requires c =
    omega (arith, second-room c.args.word.now (space ∷ decimal c.args.number) c.args.text.now c.args.at c.requires _ _ c.put_bytes-after.ensures)

pub returns : goal.returns
returns c =
    put_two c.args.word.now (space ∷ decimal c.args.number) c.args.text.now c.args.at c.requires _ _ c.put_bytes-after.ensures _ _ c.put_number.ensures
