-- The fields from an output on are that of the output and those behind it.
use mathlib.Core.Path.{refl}
use mathlib.Core.List.{◌∷◌}
use Prim.Native.Nat.{◌+◌}
use native.Mathlib.Omega.{arith}
use lib.ListN.{get_or}
use Rattle.text.specs.Line.{space}
use Rattle.text.specs.Text.{output_field}
use Rattle.text.proofs.Put.{all_left, left_as, room, put_next, put_all}
use Rattle.text.proofs.Text.{fields_from, fields-next, fields-end}
use Rattle.text.proofs.put_outputs.Goals as goal

pub loop-output-init : goal.loop-output-init
loop-output-init c = (refl, all_left _ _ _ (omega arith))

pub put_output-to-requires : goal.put_output-to-requires
put_output-to-requires c =
    let l = c.loop-output in
    let o = c.args.outputs.now in
    omega (arith, room _ _ _ _ _ (space ∷ output_field (get_or o l.output-index 0)) (fields_from o (l.output-index + 1)) (left_as (fields-next o l.output-index (omega arith)) l.invariant.1))

pub loop-output-preserved : goal.loop-output-preserved
loop-output-preserved c =
    let l = c.loop-output in
    let o = c.args.outputs.now in
    (omega arith, put_next _ _ _ _ _ (space ∷ output_field (get_or o l.output-index 0)) (fields_from o (l.output-index + 1)) _ _ (left_as (fields-next o l.output-index (omega arith)) l.invariant.1) c.put_output-to.ensures)

pub returns : goal.returns
returns c =
    let l = c.loop-output in
    put_all _ _ _ _ _ (left_as (fields-end c.args.outputs.now l.output-index (omega arith)) l.invariant.1)
