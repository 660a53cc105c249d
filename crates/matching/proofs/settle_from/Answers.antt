-- Every input that is passed is settled, and stays so; where the inputs passed have the outputs of before among them, the others take theirs again.
use mathlib.Core.Path.{subst}
use Prim.Native.Nat.{ℕ, ◌+◌}
use native.Mathlib.Nat.{le_antisymm}
use native.Mathlib.Omega.{arith}
use lib.ListN.{length}
use Rattle.search.specs.Tables.{tried_of, Allowed}
use Rattle.matching.specs.Chosen.{SettledPost}
use Rattle.matching.proofs.Completing.{fixed_more}
use Rattle.matching.proofs.Settling.{settled-start, settled-more, settled-all, dead-start}
use Rattle.matching.proofs.Behind.{behind-settles}
use Rattle.matching.proofs.settle_from.Goals as goal

pub loop-i-init : goal.loop-i-init
loop-i-init c =
    let a = c.args in
    (c.requires.1, settled-start 128 (length a.rows.now) (Allowed a.rows.now) a.pairs.now.by a.pairs.now.out (tried_of a.fixed) a.from c.requires.2, dead-start (Allowed a.rows.now) a.pairs.now.by (tried_of a.fixed), λ _ _ _. c.requires.4)

pub restore-requires : goal.restore-requires
restore-requires c =
    let l = c.loop-i in
    let t = c.loop-i-test.true in
    let b = c.requires.3 in
    let g = l.invariant.1.settled.good in
    (g.holders, g.outputs, c.requires.0.few, l.invariant.0, (b.former l.i (c.as_before.ensures c.if-as_before.true).0 t).full)

pub returns-then-as_before : goal.returns-then-as_before
returns-then-as_before c =
    let a = c.args in
    let l = c.loop-i in
    let t = c.loop-i-test.true in
    let y = c.as_before.ensures c.if-as_before.true in
    behind-settles 128 (length a.rows.now) (Allowed a.rows.now) a.before.now l.pairs.by l.pairs.out a.last (tried_of l.firm.fixed) (tried_of l.was) l.i t y.0 c.requires.3 l.invariant.1.settled (l.invariant.3 l.i y.0 t) y.1 y.2 c.restore.new.pairs.by c.restore.new.pairs.out c.restore.ensures a.pairs.now.out l.invariant.1.beyond

pub settle-firm-requires : goal.settle-firm-requires
settle-firm-requires c =
    let l = c.loop-i in
    (c.requires.0, c.loop-i-test.true, l.invariant.1.settled, l.invariant.2)

pub was_too-was-requires : goal.was_too-was-requires
was_too-was-requires c = omega (arith, c.loop-i-test.true, c.requires.0.few, c.requires.3.size)

pub loop-i-smaller : goal.loop-i-smaller
loop-i-smaller c = omega (arith, c.loop-i-test.true)

pub loop-i-preserved : goal.loop-i-preserved
loop-i-preserved c =
    let a = c.args in
    let l = c.loop-i in
    let t = c.loop-i-test.true in (
      omega (arith, t),
      settled-more 128 (length a.rows.now) (Allowed a.rows.now) a.pairs.now.out l.pairs.by l.pairs.out c.settle-firm.new.pairs.by c.settle-firm.new.pairs.out (tried_of l.firm.fixed) l.i (tried_of c.settle-firm.result.fixed) (l.i + 1) l.invariant.1 c.settle-firm.ensures.0,
      c.settle-firm.ensures.1,
      λ m h k. fixed_more a.before.now l.i (tried_of l.was) (tried_of c.was_too-was.result) (l.invariant.3 m h k) (c.was_too-was.ensures (omega (arith, (c.requires.3.former m h k).full.inside l.i t, c.requires.0.few))),
    )

pub returns : goal.returns
returns c =
    let a = c.args in
    let l = c.loop-i in
    settled-all 128 (length a.rows.now) (Allowed a.rows.now) a.pairs.now.out l.pairs.by l.pairs.out (tried_of l.firm.fixed) (subst (λ (i : ℕ). SettledPost 128 (length a.rows.now) (Allowed a.rows.now) a.pairs.now.out l.pairs.by l.pairs.out (tried_of l.firm.fixed) i) (le_antisymm l.invariant.0 c.loop-i-test.false) l.invariant.1)
