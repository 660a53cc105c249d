-- Its output only becomes lower, and where no lower one can be had they are in a closed set: the one it has is the best.
use mathlib.Core.Path.{sym, subst}
use Prim.Native.Nat.{ℕ}
use lib.ListN.{length}
use native.Mathlib.Nat.{lt_of_lt_of_le}
use native.Mathlib.Omega.{arith}
use Rattle.sets.specs.Label.{In}
use Rattle.labels.specs.Ports.{outputs_of}
use Rattle.search.specs.Tables.{tried_of, Allowed}
use Rattle.matching.specs.Chosen.{Lowered}
use Rattle.search.proofs.Search.{lowest-at, none_left}
use Rattle.matching.proofs.Settling.{own_in, lower-start, lower-own, lower-may, lower-again, lower-more, lower-ends}
use Rattle.matching.proofs.settle.Goals as goal

pub row_of-row-requires : goal.row_of-row-requires
row_of-row-requires c = c.requires.1

pub output_of-own-requires : goal.output_of-own-requires
output_of-own-requires c = lt_of_lt_of_le c.requires.1 c.requires.0.few

pub dead_for-dead-requires : goal.dead_for-dead-requires
dead_for-dead-requires c =
    let a = c.args in
    own_in 128 (length a.rows.now) (Allowed a.rows.now) a.pairs.now.by a.pairs.now.out (tried_of a.firm.fixed) a.i.0 c.output_of-own.result.0 c.requires.2 c.requires.1 c.output_of-own.ensures

pub loop-lowest-init : goal.loop-lowest-init
loop-lowest-init c =
    let a = c.args in
    lower-start 128 (length a.rows.now) (Allowed a.rows.now) a.pairs.now.by a.pairs.now.out (tried_of a.firm.fixed) (tried_of a.firm.dead) (tried_of c.dead_for-dead.result) c.output_of-own.result.0 a.i.0 c.requires.2 c.requires.1 c.output_of-own.ensures c.requires.3 c.dead_for-dead.ensures

pub below-lower-requires : goal.below-lower-requires
below-lower-requires c =
    let a = c.args in
    let l = c.loop-lowest in
    lower-own 128 (length a.rows.now) (Allowed a.rows.now) a.pairs.now.out l.pairs.by l.pairs.out (tried_of a.firm.fixed) (tried_of l.dead) l.own.0 a.i.0 c.requires.1 l.invariant

pub mark-requires : goal.mark-requires
mark-requires c =
    let a = c.args in
    let l = c.loop-lowest in
    lower-own 128 (length a.rows.now) (Allowed a.rows.now) a.pairs.now.out l.pairs.by l.pairs.out (tried_of a.firm.fixed) (tried_of l.dead) l.own.0 a.i.0 c.requires.1 l.invariant

pub mark-requires-in_default : goal.mark-requires-in_default
mark-requires-in_default c =
    let a = c.args in
    let l = c.loop-lowest in
    lower-own 128 (length a.rows.now) (Allowed a.rows.now) a.pairs.now.out l.pairs.by l.pairs.out (tried_of a.firm.fixed) (tried_of l.dead) l.own.0 a.i.0 c.requires.1 l.invariant

pub returns-in_default : goal.returns-in_default
returns-in_default c =
    let a = c.args in
    let l = c.loop-lowest in
    lower-ends 128 (length a.rows.now) (Allowed a.rows.now) a.pairs.now.out l.pairs.by l.pairs.out (tried_of a.firm.fixed) (tried_of l.dead) l.own.0 a.i.0 c.requires.1 l.invariant (outputs_of c.row_of-row.result) (outputs_of c.below-lower.result) c.below-lower.ensures (tried_of c.mark.result) (tried_of c.mark-in_default.result) (λ k e. subst (λ (y : ℕ). In y k) (sym c.row_of-row.ensures) e)
    (none_left 128 (outputs_of c.below-lower.result) (tried_of l.dead) c.next.result c.next.ensures c.in_default.is) c.mark.ensures c.mark-in_default.ensures

pub lowest_or_all-some-requires : goal.lowest_or_all-some-requires
lowest_or_all-some-requires c =
    let l = c.loop-lowest in
    let low = lowest-at 128 (outputs_of c.below-lower.result) (tried_of l.dead) c.next.result c.in-Some.lowest c.next.ensures c.in-Some.is in
    (low.small, c.but.ensures.kept _ low.here low.new)

pub ask_lower-requires : goal.ask_lower-requires
ask_lower-requires c =
    let a = c.args in
    let l = c.loop-lowest in
    (c.requires.0, lower-may 128 (length a.rows.now) (Allowed a.rows.now) a.pairs.now.out l.pairs.by l.pairs.out (tried_of a.firm.fixed) (tried_of l.dead) l.own.0 a.i.0 c.requires.1 l.invariant (outputs_of c.row_of-row.result) (outputs_of c.below-lower.result) c.below-lower.ensures (outputs_of c.lowest_or_all-some.result) (outputs_of c.but.result) _ c.but.ensures c.lowest_or_all-some.ensures.0 c.lowest_or_all-some.ensures.1 (λ k e. subst (λ (y : ℕ). In y k) c.row_of-row.ensures e))

pub loop-lowest-smaller-in-Stuck : goal.loop-lowest-smaller-in-Stuck
loop-lowest-smaller-in-Stuck c =
    let a = c.args in
    let l = c.loop-lowest in
    let low = lowest-at 128 (outputs_of c.below-lower.result) (tried_of l.dead) c.next.result c.in-Some.lowest c.next.ensures c.in-Some.is in
    omega (arith, (lower-more 128 (length a.rows.now) (Allowed a.rows.now) a.pairs.now.out l.pairs.by l.pairs.out (tried_of a.firm.fixed) (tried_of l.dead) l.own.0 a.i.0 c.requires.1 l.invariant (outputs_of c.row_of-row.result) (outputs_of c.below-lower.result) c.below-lower.ensures (outputs_of c.lowest_or_all-some.result) c.in-Some.lowest.0 c.ask_lower.new.pairs.by c.ask_lower.new.pairs.out c.in-Stuck.seen c.lowest_or_all-some.ensures.1 low.small low.new (subst (Lowered 128 (length a.rows.now) (Allowed a.rows.now) l.pairs.by l.pairs.out (tried_of l.dead) (outputs_of c.lowest_or_all-some.result) l.own.0 a.i.0 c.ask_lower.new.pairs.by c.ask_lower.new.pairs.out) c.in-Stuck.is c.ask_lower.ensures)).1)

pub loop-lowest-preserved-in-Stuck : goal.loop-lowest-preserved-in-Stuck
loop-lowest-preserved-in-Stuck c =
    let a = c.args in
    let l = c.loop-lowest in
    let low = lowest-at 128 (outputs_of c.below-lower.result) (tried_of l.dead) c.next.result c.in-Some.lowest c.next.ensures c.in-Some.is in
    (lower-more 128 (length a.rows.now) (Allowed a.rows.now) a.pairs.now.out l.pairs.by l.pairs.out (tried_of a.firm.fixed) (tried_of l.dead) l.own.0 a.i.0 c.requires.1 l.invariant (outputs_of c.row_of-row.result) (outputs_of c.below-lower.result) c.below-lower.ensures (outputs_of c.lowest_or_all-some.result) c.in-Some.lowest.0 c.ask_lower.new.pairs.by c.ask_lower.new.pairs.out c.in-Stuck.seen c.lowest_or_all-some.ensures.1 low.small low.new (subst (Lowered 128 (length a.rows.now) (Allowed a.rows.now) l.pairs.by l.pairs.out (tried_of l.dead) (outputs_of c.lowest_or_all-some.result) l.own.0 a.i.0 c.ask_lower.new.pairs.by c.ask_lower.new.pairs.out) c.in-Stuck.is c.ask_lower.ensures)).0

pub loop-lowest-smaller : goal.loop-lowest-smaller
loop-lowest-smaller c =
    let a = c.args in
    let l = c.loop-lowest in
    omega (arith, (lower-again 128 (length a.rows.now) (Allowed a.rows.now) a.pairs.now.out l.pairs.by l.pairs.out (tried_of a.firm.fixed) (tried_of l.dead) l.own.0 a.i.0 c.requires.1 l.invariant (outputs_of c.row_of-row.result) (outputs_of c.below-lower.result) c.below-lower.ensures (outputs_of c.lowest_or_all-some.result) c.ask_lower.new.pairs.by c.ask_lower.new.pairs.out c.in-Freed.g c.in-Freed.field-1 (λ k z. c.but.ensures.less k (c.lowest_or_all-some.ensures.0 k z)) (subst (Lowered 128 (length a.rows.now) (Allowed a.rows.now) l.pairs.by l.pairs.out (tried_of l.dead) (outputs_of c.lowest_or_all-some.result) l.own.0 a.i.0 c.ask_lower.new.pairs.by c.ask_lower.new.pairs.out) c.in-Freed.is c.ask_lower.ensures)).1)

pub loop-lowest-preserved : goal.loop-lowest-preserved
loop-lowest-preserved c =
    let a = c.args in
    let l = c.loop-lowest in
    (lower-again 128 (length a.rows.now) (Allowed a.rows.now) a.pairs.now.out l.pairs.by l.pairs.out (tried_of a.firm.fixed) (tried_of l.dead) l.own.0 a.i.0 c.requires.1 l.invariant (outputs_of c.row_of-row.result) (outputs_of c.below-lower.result) c.below-lower.ensures (outputs_of c.lowest_or_all-some.result) c.ask_lower.new.pairs.by c.ask_lower.new.pairs.out c.in-Freed.g c.in-Freed.field-1 (λ k z. c.but.ensures.less k (c.lowest_or_all-some.ensures.0 k z)) (subst (Lowered 128 (length a.rows.now) (Allowed a.rows.now) l.pairs.by l.pairs.out (tried_of l.dead) (outputs_of c.lowest_or_all-some.result) l.own.0 a.i.0 c.ask_lower.new.pairs.by c.ask_lower.new.pairs.out) c.in-Freed.is c.ask_lower.ensures)).0
