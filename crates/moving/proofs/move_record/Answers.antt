-- The first outputs are laid over idle ones, and of those as many as a record of the edition has are written.
use mathlib.Core.Path.{◌∙◌}
use native.Mathlib.Omega.{arith}
use Rattle.moving.proofs.Laying.{first-laid, part-size, laid-moved}
use Rattle.moving.proofs.move_record.Goals as goal

pub slice_bounds-put_record-end : goal.slice_bounds-put_record-end
slice_bounds-put_record-end c =
    let a = c.args in
    let p = c.requires in
    part-size a.to p.0 a.n a.rec.now p.1 p.2 _ (first-laid _ a.n a.rec.now p.2 _ c.copy_from_slice.ensures.after)

pub put_record-requires : goal.put_record-requires
put_record-requires c =
    let a = c.args in
    let p = c.requires in
    (omega (arith, p.1, p.0.width), omega (arith, p.3, part-size a.to p.0 a.n a.rec.now p.1 p.2 _ (first-laid _ a.n a.rec.now p.2 _ c.copy_from_slice.ensures.after)))

pub returns : goal.returns
returns c =
    let a = c.args in
    let p = c.requires in
    c.put_record.ensures
    ∙ laid-moved a.to p.0 a.n a.rec.now p.1 p.2 _ (first-laid _ a.n a.rec.now p.2 _ c.copy_from_slice.ensures.after) a.moved.now a.at _ c.hold_of.ensures
