-- Each turn counts one setting's records and adds its hold, whichever the settings are: the bounds are those of any one choice of them.
use mathlib.Core.Path.{◌≡◌, sym, ap, ◌∙◌}
use Prim.Native.Nat.{ℕ, ◌<◌, ◌≤◌}
use native.Mathlib.Omega.{arith}
use lib.ListN.{length, get_or, take}
use lib.Seq.{length-take-le, get_or-take}
use Rattle.rules.specs.Doubled.{held}
use Rattle.turns.proofs.Turns.{counted_none, counted_next, counted-all, one_at_most}
use Rattle.turns.proofs.measure.Goals as goal

pub loop-hold-init : goal.loop-hold-init
loop-hold-init c = λ τ. counted_none τ _ _

pub overflow_add-records : goal.overflow_add-records
overflow_add-records c =
    let l = c.loop-hold in
    omega (arith, c.requires.0, length-take-le c.args.n c.args.holds.now c.requires.1, (l.invariant (λ _ i. i)).few, one_at_most _ _ c.records_of-records.ensures)

pub overflow_add-total : goal.overflow_add-total
overflow_add-total c =
    let l = c.loop-hold in
    omega (arith, c.requires.0, length-take-le c.args.n c.args.holds.now c.requires.1, (l.invariant (λ _ i. i)).small, c.from-total.ensures)

pub loop-hold-preserved : goal.loop-hold-preserved
loop-hold-preserved c =
    let l = c.loop-hold in
    let inside : l.hold-index < c.args.n = omega (arith, c.loop-hold-test.true, length-take-le c.args.n c.args.holds.now c.requires.1) in
    let is : get_or (take c.args.n c.args.holds.now) l.hold-index 0 ≡ get_or c.args.holds.now l.hold-index 0 = get_or-take c.args.n c.args.holds.now l.hold-index 0 inside in
    λ τ. counted_next (l.invariant τ) inside (c.from-total.ensures ∙ is) (omega (arith, c.from-total.ensures, is, c.type_inv.holds l.hold-index)) (λ W o. c.records_of-records.ensures W o ∙ ap (λ (x : ℕ). length (held W x o)) (sym c.from-total.ensures))

pub returns : goal.returns
returns c =
    let l = c.loop-hold in
    let q = l.invariant (λ _ i. i) in
    let size : length (take c.args.n c.args.holds.now) ≡ c.args.n = length-take-le c.args.n c.args.holds.now c.requires.1 in
    let done : c.args.n ≤ l.hold-index = omega (arith, c.loop-hold-test.false, size) in
    record {
      few = omega (arith, q.few, size, c.loop-hold.auto.hold-index-end);
      small = omega (arith, q.small, size, c.loop-hold.auto.hold-index-end);
      count = λ W τ. (counted-all (l.invariant τ) done W).0;
      held = λ W τ. (counted-all (l.invariant τ) done W).1;
    }
