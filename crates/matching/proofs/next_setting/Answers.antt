-- As many inputs in front as can be keep their outputs; the others are seated around them and settled.
use native.Mathlib.Omega.{arith}
use lib.ListN.{length}
use Rattle.labels.specs.Ports.{outputs_of, inputs_of}
use Rattle.search.specs.Tables.{tried_of, Allowed}
use Rattle.matching.proofs.Firm.{firm-start, firm-place, all_held, firm-before, firm-settles, firm-gives, firm-less, firm-ends, behind}
use Rattle.matching.proofs.next_setting.Goals as goal

pub first_of-firm-requires : goal.first_of-firm-requires
first_of-firm-requires c = λ m x. (c.requires.1.seating.idle m x).0

pub loop-pairs-init : goal.loop-pairs-init
loop-pairs-init c =
    let a = c.args in
    firm-start 128 (length a.rows.now) (Allowed a.rows.now) a.pairs.now.by a.pairs.now.out (outputs_of a.seats.held) (inputs_of a.seats.waiting) c.first_of-firm.result c.requires.1 c.first_of-firm.ensures.1

pub fixed_below-fixed-requires : goal.fixed_below-fixed-requires
fixed_below-fixed-requires c =
    let a = c.args in
    let k = c.first_of-firm.result in
    let few = c.first_of-firm.ensures.0 in
    let clear = c.first_of-firm.ensures.1 in
    let l = c.loop-pairs in
    (omega (arith, l.invariant.short, few, c.requires.0.few, l.invariant.seating.good.outputs), firm-place 128 (length a.rows.now) (Allowed a.rows.now) a.pairs.now.by a.pairs.now.out (outputs_of a.seats.held) (inputs_of a.seats.waiting) k c.requires.1 few clear l.pairs.by l.pairs.out (outputs_of l.now.held) (inputs_of l.now.waiting) l.firm l.invariant)

pub complete-requires : goal.complete-requires
complete-requires c =
    let a = c.args in
    let k = c.first_of-firm.result in
    let few = c.first_of-firm.ensures.0 in
    let clear = c.first_of-firm.ensures.1 in
    let l = c.loop-pairs in
    (c.requires.0, l.invariant.seating, all_held 128 (length a.rows.now) (Allowed a.rows.now) a.pairs.now.by a.pairs.now.out (outputs_of a.seats.held) (inputs_of a.seats.waiting) k c.requires.1 few clear l.pairs.by l.pairs.out (outputs_of l.now.held) (inputs_of l.now.waiting) l.firm l.invariant (tried_of c.fixed_below-fixed.result) c.fixed_below-fixed.ensures)

pub settle_from-requires : goal.settle_from-requires
settle_from-requires c =
    let a = c.args in
    let k = c.first_of-firm.result in
    let few = c.first_of-firm.ensures.0 in
    let clear = c.first_of-firm.ensures.1 in
    let l = c.loop-pairs in (
      c.requires.0,
      omega (arith, l.invariant.short, few),
      firm-settles 128 (length a.rows.now) (Allowed a.rows.now) a.pairs.now.by a.pairs.now.out (outputs_of a.seats.held) (inputs_of a.seats.waiting) k c.requires.1 few clear l.pairs.by l.pairs.out (outputs_of l.now.held) (inputs_of l.now.waiting) l.firm l.invariant (tried_of c.fixed_below-fixed.result) c.fixed_below-fixed.ensures c.complete.new.pairs.by c.complete.new.pairs.out (outputs_of c.complete.new.seats.held) (inputs_of c.complete.new.seats.waiting) c.complete.result c.complete.ensures c.in-Ok.is,
      behind 128 (length a.rows.now) (Allowed a.rows.now) a.pairs.now.by a.pairs.now.out (outputs_of a.seats.held) (inputs_of a.seats.waiting) c.past-last.result c.requires.1 c.past-last.ensures,
      firm-before 128 (length a.rows.now) (Allowed a.rows.now) a.pairs.now.by a.pairs.now.out (outputs_of a.seats.held) (inputs_of a.seats.waiting) k c.requires.1 few clear l.pairs.by l.pairs.out (outputs_of l.now.held) (inputs_of l.now.waiting) l.firm l.invariant (tried_of c.fixed_below-fixed.result) c.fixed_below-fixed.ensures,
    )

pub returns-in-Ok : goal.returns-in-Ok
returns-in-Ok c =
    let a = c.args in
    let k = c.first_of-firm.result in
    let few = c.first_of-firm.ensures.0 in
    let clear = c.first_of-firm.ensures.1 in
    let l = c.loop-pairs in
    firm-ends 128 (length a.rows.now) (Allowed a.rows.now) a.pairs.now.by a.pairs.now.out (outputs_of a.seats.held) (inputs_of a.seats.waiting) k c.requires.1 few clear l.pairs.by l.pairs.out (outputs_of l.now.held) (inputs_of l.now.waiting) l.firm l.invariant (tried_of c.fixed_below-fixed.result) c.fixed_below-fixed.ensures c.complete.new.pairs.by c.complete.new.pairs.out (outputs_of c.complete.new.seats.held) (inputs_of c.complete.new.seats.waiting) c.complete.result c.complete.ensures c.settle_from.new.pairs.by c.settle_from.new.pairs.out c.settle_from.ensures

pub give_way-firm-requires : goal.give_way-firm-requires
give_way-firm-requires c =
    let a = c.args in
    let k = c.first_of-firm.result in
    let few = c.first_of-firm.ensures.0 in
    let clear = c.first_of-firm.ensures.1 in
    let l = c.loop-pairs in
    (c.requires.0, firm-gives 128 (length a.rows.now) (Allowed a.rows.now) a.pairs.now.by a.pairs.now.out (outputs_of a.seats.held) (inputs_of a.seats.waiting) k c.requires.1 few clear l.pairs.by l.pairs.out (outputs_of l.now.held) (inputs_of l.now.waiting) l.firm l.invariant (tried_of c.fixed_below-fixed.result) c.fixed_below-fixed.ensures c.complete.new.pairs.by c.complete.new.pairs.out (outputs_of c.complete.new.seats.held) (inputs_of c.complete.new.seats.waiting) c.complete.result c.complete.ensures (omega (arith, few, c.requires.0.few)) _ c.in-Err.is)

pub loop-pairs-smaller : goal.loop-pairs-smaller
loop-pairs-smaller c = c.give_way-firm.ensures.less

pub loop-pairs-preserved : goal.loop-pairs-preserved
loop-pairs-preserved c =
    let a = c.args in
    let k = c.first_of-firm.result in
    let few = c.first_of-firm.ensures.0 in
    let clear = c.first_of-firm.ensures.1 in
    let l = c.loop-pairs in
    firm-less 128 (length a.rows.now) (Allowed a.rows.now) a.pairs.now.by a.pairs.now.out (outputs_of a.seats.held) (inputs_of a.seats.waiting) k c.requires.1 few clear l.pairs.by l.pairs.out (outputs_of l.now.held) (inputs_of l.now.waiting) l.firm l.invariant (tried_of c.fixed_below-fixed.result) c.fixed_below-fixed.ensures c.complete.new.pairs.by c.complete.new.pairs.out (outputs_of c.complete.new.seats.held) (inputs_of c.complete.new.seats.waiting) c.complete.result c.complete.ensures c.give_way-firm.result c.give_way-firm.ensures.less
