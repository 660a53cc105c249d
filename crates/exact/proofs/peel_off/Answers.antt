-- Each turn takes the first record off what is left, which is counted and, where it is to be written, laid behind those before it.
use mathlib.Core.Path.{◌≡◌, refl, sym, ap, ◌∙◌, subst}
use mathlib.Core.List.{List, map}
use Prim.Native.Nat.{ℕ, ◌+◌, ◌*◌, ◌≤◌}
use native.Mathlib.Omega.{arith}
use mir.Facts.{Fits-le, Fits-lit}
use lib.ListN.{length}
use Rattle.switch.specs.Plan.{Record}
use Rattle.switch.specs.Demand.{cell}
use Rattle.rules.specs.Doubled.{stretch}
use Rattle.rules.proofs.ExactFrom.{exact-end}
use Rattle.records.specs.Bytes.{bytes}
use Rattle.records.specs.Laying.{laid_if}
use Rattle.records.proofs.Filling.{filling-none, filling-all, filling-room, filling-next}
use Rattle.peel.specs.Standing.{left}
use Rattle.peel.proofs.Starting.{standing}
use Rattle.exact.proofs.Turn.{parts-small, turn-within, turn-left, turn_small, turn-most, turn-less, turn-counted, one_fewer, goes-room, more-stretched}
use Rattle.exact.proofs.peel_off.Goals as goal

pub start-requires : goal.start-requires
start-requires c = let p = c.requires in (p.0, p.1.each)

pub nobody-seats-requires : goal.nobody-seats-requires
nobody-seats-requires c = c.requires.0.few

pub loop-remains-init : goal.loop-remains-init
loop-remains-init c =
    let a = c.args.job in
    let p = c.requires in
    let b = c.start.ensures in
    let s = standing _ _ _ _ _ _ _ _ b p.1.free p.1.idle c.nobody-seats.ensures.0 in (
      s.1,
      s.0,
      omega arith,
      subst (λ (t : ℕ). t * a.unit ≤ 65535) s.0 p.2.fits,
      refl,
      λ W _ _. omega arith,
      filling-none _ _ _ _ _ _
          (λ w. subst (λ (q : List Record). a.at + length (bytes a.edition a.n (map (stretch a.unit) q)) ≤ length c.args.plan.now) (sym (b.plan a.width)) (goes-room p.0 p.2 a.edition w)),
    )

pub take_off-s-requires : goal.take_off-s-requires
take_off-s-requires c = let l = c.loop-remains in (l.invariant.0, omega (arith, l.invariant.1))

pub overflow_cast-remains : goal.overflow_cast-remains
overflow_cast-remains c = let l = c.loop-remains in turn_small _ _ _ _ l.invariant.1 c.take_off-s.ensures.falls _ _ l.invariant.2 c.requires.0.small

pub overflow_sub-remains : goal.overflow_sub-remains
overflow_sub-remains c = turn-within _ _ _ _ c.loop-remains.invariant.1 c.take_off-s.ensures.falls

pub overflow_mul-hold : goal.overflow_mul-hold
overflow_mul-hold c = Fits-le (parts-small _ _ _ c.args.job.unit _ c.take_off-s.ensures.falls c.loop-remains.invariant.3).1 (Fits-lit tt)

pub overflow_cast-hold : goal.overflow_cast-hold
overflow_cast-hold c = Fits-le (parts-small _ _ _ c.args.job.unit _ c.take_off-s.ensures.falls c.loop-remains.invariant.3).1 (Fits-lit tt)

pub slice_bounds-put_if-end : goal.slice_bounds-put_if-end
slice_bounds-put_if-end c = omega (arith, c.requires.2.narrow, c.take_off-s.ensures.standing.seating.good.outputs)

pub put_if-next-requires : goal.put_if-next-requires
put_if-next-requires c =
    let a = c.args.job in
    let p = c.requires in
    let s = c.take_off-s.ensures in
    (omega (arith, p.0.few), filling-room _ _ _ _ _ _ _ _ _ c.loop-remains.invariant.6 _ _ _ (λ w. more-stretched a.unit a.width a.n _ _ _ _ (s.more _ (p.2.wide w) p.2.narrow)))

pub overflow_add-records : goal.overflow_add-records
overflow_add-records c = turn-counted _ _ _ c.loop-remains.invariant.2 c.requires.0.small

pub loop-remains-smaller : goal.loop-remains-smaller
loop-remains-smaller c = turn-less _ _ c.take_off-s.ensures.some c.loop-remains-test.true

pub loop-remains-preserved : goal.loop-remains-preserved
loop-remains-preserved c =
    let a = c.args.job in
    let p = c.requires in
    let l = c.loop-remains in
    let s = c.take_off-s.ensures in (
      s.standing,
      turn-left _ _ _ _ l.invariant.1 s.falls,
      turn-most _ _ _ _ l.invariant.1 s.falls _ _ l.invariant.2 s.some,
      (parts-small _ _ _ a.unit _ s.falls l.invariant.3).0,
      c.take_off-s.auto.work ∙ l.invariant.4,
      λ W wide narrow. omega (arith, l.invariant.5 W wide narrow, one_fewer (s.more W wide narrow)),
      filling-next _ _ _ _ _ _ _ _ _ l.invariant.6 _ _ _ (λ w. more-stretched a.unit a.width a.n _ _ _ _ (s.more _ (p.2.wide w) p.2.narrow)) _ _ c.put_if-next.auto.plan c.put_if-next.ensures,
    )

pub returns : goal.returns
returns c =
    let a = c.args.job in
    let l = c.loop-remains in
    let b = c.start.ensures.plan in
    let z : left a.n l.work ≡ 0 = omega (arith, l.invariant.1) in (
      λ W wide narrow. omega (arith, l.invariant.5 W wide narrow, ap length (exact-end W a.n (cell a.n l.work) z), ap length (b W)),
      filling-all _ _ _ _ _ _ _ _ _ l.invariant.6 (ap (map (stretch a.unit)) (exact-end a.width a.n (cell a.n l.work) z))
          ∙ ap (λ (q : List Record). laid_if a.writes c.args.plan.now a.at (bytes a.edition a.n (map (stretch a.unit) q))) (b a.width),
    )
