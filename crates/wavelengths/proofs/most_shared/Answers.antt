-- The counts start at 0, are those of the record's wavelengths after it, and the largest is taken.
use mathlib.Core.Path.{sym, ◌∙◌}
use native.Mathlib.Omega.{arith}
use lib.Seq.{length-take-le}
use Rattle.switch.proofs.Demand.{blank-zeros}
use Rattle.wavelengths.proofs.Shared.{most-counted}
use Rattle.wavelengths.proofs.most_shared.Goals as goal

pub count_inputs-requires : goal.count_inputs-requires
count_inputs-requires c =
    let p = c.requires in
    let z = blank-zeros 128 in
    (p.0, p.1, p.2, record { room = omega (arith, p.1, z.room); clear = z.clear })

pub slice_bounds-largest-end : goal.slice_bounds-largest-end
slice_bounds-largest-end c = sym (length-take-le _ _ c.count_inputs.ensures.room)

pub returns : goal.returns
returns c = c.largest.ensures ∙ most-counted _ _ _ c.count_inputs.ensures
