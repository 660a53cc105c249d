-- Each turn of the loop does one of the slots still to come, and its record goes behind those before it.
use mathlib.Core.Path.{◌≡◌, refl, ap}
use mathlib.Core.List.{[], ◌∷◌}
use Prim.Native.Nat.{◌+◌}
use native.Mathlib.Omega.{arith}
use lib.ListN.{length}
use Rattle.slot.specs.Filled.{leftover}
use Rattle.quick.proofs.Standing.{left-few, leftover-short, standing-end, standing-more, standing-next}
use Rattle.records.proofs.Filling.{filling-none, filling-all, filling-room, filling-next}
use Rattle.quick.proofs.fill_slots.Goals as goal

pub load-rest-requires : goal.load-rest-requires
load-rest-requires c = let p = c.requires in (p.0, p.1.sized.some, p.1.each)

pub loop-rest-init : goal.loop-rest-init
loop-rest-init c =
    let a = c.args in
    record {
      standing = record { copy = c.load-rest.ensures; seats = c.requires.1.seats; wide = refl };
      filling = filling-none a.writes a.edition a.n _ _ 0 (λ w. omega (arith, c.requires.2 w));
      count = omega arith;
    }

pub fill_slot-rest-requires : goal.fill_slot-rest-requires
fill_slot-rest-requires c =
    let g = c.loop-rest.invariant.standing in
    (g.copy, g.seats, omega (arith, c.loop-rest-test.true))

pub put_if-at-requires : goal.put_if-at-requires
put_if-at-requires c =
    let more : leftover (length c.args.out.now) c.args.n c.loop-rest.s c.loop-rest.work ≡ record { hold = 1; outputs = c.fill_slot-rest.new.out } ∷ leftover (length c.args.out.now) c.args.n (c.loop-rest.s + 1) c.fill_slot-rest.new.work = standing-more _ _ _ _ _ _ c.loop-rest.invariant.standing _ _ _ _ _ c.fill_slot-rest.ensures c.fill_slot-rest.auto.out in
    let l = c.loop-rest in
    (omega (arith, l.invariant.standing.copy.sized.few), filling-room _ _ _ _ _ _ _ _ _ l.invariant.filling 1 _ _ (λ _. more))

pub overflow_add-s : goal.overflow_add-s
overflow_add-s c =
    let more : leftover (length c.args.out.now) c.args.n c.loop-rest.s c.loop-rest.work ≡ record { hold = 1; outputs = c.fill_slot-rest.new.out } ∷ leftover (length c.args.out.now) c.args.n (c.loop-rest.s + 1) c.fill_slot-rest.new.work = standing-more _ _ _ _ _ _ c.loop-rest.invariant.standing _ _ _ _ _ c.fill_slot-rest.ensures c.fill_slot-rest.auto.out in
    let a = c.args in
    let l = c.load-rest.ensures in
    omega (arith, left-few a.n a.work.now c.requires.0, leftover-short (length a.out.now) a.n 0 a.work.now l.sized, c.loop-rest.invariant.count, ap length more)

pub loop-rest-smaller : goal.loop-rest-smaller
loop-rest-smaller c = let more : leftover (length c.args.out.now) c.args.n c.loop-rest.s c.loop-rest.work ≡ record { hold = 1; outputs = c.fill_slot-rest.new.out } ∷ leftover (length c.args.out.now) c.args.n (c.loop-rest.s + 1) c.fill_slot-rest.new.work = standing-more _ _ _ _ _ _ c.loop-rest.invariant.standing _ _ _ _ _ c.fill_slot-rest.ensures c.fill_slot-rest.auto.out in
    omega (arith, ap length more)

pub loop-rest-preserved : goal.loop-rest-preserved
loop-rest-preserved c =
    let more : leftover (length c.args.out.now) c.args.n c.loop-rest.s c.loop-rest.work ≡ record { hold = 1; outputs = c.fill_slot-rest.new.out } ∷ leftover (length c.args.out.now) c.args.n (c.loop-rest.s + 1) c.fill_slot-rest.new.work = standing-more _ _ _ _ _ _ c.loop-rest.invariant.standing _ _ _ _ _ c.fill_slot-rest.ensures c.fill_slot-rest.auto.out in
    let l = c.loop-rest in
    record {
      standing = standing-next _ _ _ _ _ _ l.invariant.standing _ _ _ _ _ c.fill_slot-rest.ensures c.fill_slot-rest.auto.out;
      filling = filling-next _ _ _ _ _ _ _ _ _ l.invariant.filling 1 _ _ (λ _. more) c.put_if-at.new.plan c.put_if-at.result c.put_if-at.auto.plan c.put_if-at.ensures;
      count = omega (arith, l.invariant.count, ap length more);
    }

pub returns : goal.returns
returns c =
    let l = c.loop-rest in
    let none : leftover (length c.args.out.now) c.args.n l.s l.work ≡ [] = standing-end _ _ _ _ _ _ l.invariant.standing l.s c.loop-rest-test.false in
    (omega (arith, l.invariant.count, ap length none), filling-all _ _ _ _ _ _ _ _ _ l.invariant.filling none)
