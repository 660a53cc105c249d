-- The cells are the demand of the records passed, beginning with zeros.
use native.Mathlib.Omega.{arith}
use native.Mathlib.Nat.{le_refl}
use mathlib.Core.Path.{◌≡◌, sym, ◌∙◌, ap}
use Prim.Native.Nat.{ℕ}
use lib.ListN.{replicate}
use Rattle.wishes.specs.Wishes.{demand_of}
use Rattle.wishes.proofs.Faults.{all_sound}
use Rattle.wishes.proofs.Cells.{demand-none, demand-next, demand-length}
use Rattle.wishes.proofs.fill.Goals as goal

pub loop-k-init : goal.loop-k-init
loop-k-init c =
    (omega arith, c.fill.ensures.after (λ y e. e) ∙ ap (λ (m : ℕ). replicate m 0) c.requires.2 ∙ sym (demand-none _ _))

pub put-requires : goal.put-requires
put-requires c =
    let sound = all_sound _ _ _ _ c.requires.3 c.loop-k-test.true in
    (c.requires.1, rw (c.loop-k.invariant.1, demand-length) (le_refl _), rw c.record_at.ensures sound.formed, rw c.record_at.ensures sound.given)

pub loop-k-preserved : goal.loop-k-preserved
loop-k-preserved c =
    let l = c.loop-k in
    (omega arith, c.put.ensures ∙ rw (c.record_at.ensures, l.invariant.1, demand-next))

pub returns : goal.returns
returns c =
    let l = c.loop-k in
    let e : l.k ≡ c.args.count = omega arith in
    l.invariant.1 ∙ ap (demand_of _ _) e
