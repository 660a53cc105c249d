-- Each turn lays one record behind those before it, its hold multiplied by u.
use mathlib.Core.Path.{◌≡◌, ap, ap₂, ◌∙◌}
use mathlib.Core.List.{List}
use Prim.Native.Nat.{ℕ, ◌+◌, ◌*◌, ◌-◌, ◌≤◌, ◌<◌}
use native.Mathlib.Omega.{arith}
use native.Mathlib.Nat.{mul-le-mul_right}
use lib.ListN.{length, take, drop}
use Rattle.records.specs.Record.{hold, outputs}
use Rattle.records.specs.Bytes.{record_at, laid, encode}
use Rattle.grating.specs.Parts.{First}
use Rattle.grating.proofs.First.{part-outputs, record-long, longer-small, laying-none, laying-room, laying-next, laying-all}
use Rattle.grating.proofs.lay_first.Goals as goal

-- the record that is read, and the hold that is multiplied
module _ {W u : ℕ} {first : List ℕ} {m sum : ℕ} (f : First W u first m sum) (k : ℕ) (l : k < m) {rec : List ℕ} (is : rec ≡ record_at W first k) where
  long : length rec ≡ W + 4
  long = ap length is ∙ record-long f k l

  outs : take (length rec - 4) (drop 4 rec) ≡ outputs (record_at W first k)
  outs = part-outputs rec ∙ ap outputs is

  longer-is : {h : ℕ} → h ≡ hold rec → h * u ≡ hold (record_at W first k) * u
  longer-is e = ap (λ (x : ℕ). x * u) (e ∙ ap hold is)

  fits : {h : ℕ} → h ≡ hold rec → h * u ≤ 65535
  fits e = omega (arith, longer-is e, longer-small f k l)

  inside : {room : ℕ} → m * (W + 4) ≤ room → k * (W + 4) ≤ room
  inside r = omega (arith, r, mul-le-mul_right (W + 4) (let h : k ≤ m = omega arith in h))

pub loop-k-init : goal.loop-k-init
loop-k-init c = (omega arith, laying-none c.requires.2 c.args.e.byte c.args.n c.args.plan.now c.requires.3)

pub record_at-rec-requires : goal.record_at-rec-requires
record_at-rec-requires c = let p = c.requires in (p.1, omega (arith, p.2.room))

pub hold_of-requires : goal.hold_of-requires
hold_of-requires c = omega (arith, long c.requires.2 _ c.loop-k-test.true c.record_at-rec.ensures)

pub overflow_mul-hold : goal.overflow_mul-hold
overflow_mul-hold c = omega (arith, fits c.requires.2 _ c.loop-k-test.true c.record_at-rec.ensures c.hold_of.ensures)

pub overflow_add-width : goal.overflow_add-width
overflow_add-width c = omega (arith, c.requires.1)

pub overflow_mul-k : goal.overflow_mul-k
overflow_mul-k c =
    let p = c.requires in
    omega (arith, inside p.2 _ c.loop-k-test.true c.record_at-rec.ensures p.3)

pub overflow_cast-hold-in-loop-k : goal.overflow_cast-hold-in-loop-k
overflow_cast-hold-in-loop-k c = omega (arith, fits c.requires.2 _ c.loop-k-test.true c.record_at-rec.ensures c.hold_of.ensures)

pub slice_bounds-put_record-count : goal.slice_bounds-put_record-count
slice_bounds-put_record-count c = omega (arith, long c.requires.2 _ c.loop-k-test.true c.record_at-rec.ensures)

pub put_record-requires : goal.put_record-requires
put_record-requires c =
    let f = c.requires.2 in
    let l = c.loop-k in
    let t = c.loop-k-test.true in
    let o = outs f l.k t c.record_at-rec.ensures in
    (omega (arith, c.requires.0, c.requires.1), omega (arith, ap length o, laying-room f c.args.e.byte c.args.n c.args.plan.now l.invariant.1 t))

pub loop-k-preserved : goal.loop-k-preserved
loop-k-preserved c =
    let f = c.requires.2 in
    let l = c.loop-k in
    let t = c.loop-k-test.true in
    let is = c.record_at-rec.ensures in
    let h = longer-is f l.k t is c.hold_of.ensures in
    let put = c.put_record.ensures ∙ ap₂ (λ (x : ℕ) (o : List ℕ). laid l.plan (l.k * (c.args.e.width + 4)) (encode c.args.e.byte x c.args.n o)) h (outs f l.k t is) in
    (omega arith, laying-next f c.args.e.byte c.args.n c.args.plan.now l.invariant.1 t put)

pub returns : goal.returns
returns c = laying-all c.requires.2 c.args.e.byte c.args.n c.args.plan.now c.loop-k.invariant.1 (omega arith)
