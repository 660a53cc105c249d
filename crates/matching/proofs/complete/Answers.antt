-- Each turn seats the first that waits and leaves the others where they are, until nobody waits or one is refused.
use mathlib.Core.Path.{subst}
use mathlib.Core.Bool.{false≢true}
use Rattle.std.specs.Result.{IsErr}
use native.Mathlib.Omega.{arith}
use lib.ListN.{length}
use Rattle.sets.specs.Label.{Lowest, LowestAt}
use Rattle.labels.specs.Ports.{outputs_of, inputs_of, input_found}
use Rattle.std.specs.declared.option.Option.{Option}
use Rattle.switch.specs.declared.InputPort.{InputPort}
use Rattle.sets.proofs.Digits.{fewer}
use Rattle.search.specs.Tables.{tried_of, Allowed}
use Rattle.search.proofs.Search.{around-same, around-through}
use Rattle.matching.proofs.Completing.{ok-err, seats-next, seats-more, none-through}
use Rattle.matching.proofs.complete.Goals as goal

pub loop-i-init : goal.loop-i-init
loop-i-init c = let a = c.args in (c.requires.1, λ k x. x, around-same (length a.rows.now) a.pairs.now.by a.pairs.now.out (tried_of a.fixed))

pub returns : goal.returns
returns c =
    let l = c.loop-i in
    record {
      seating = l.invariant.0;
      fewer = l.invariant.1;
      around = l.invariant.2;
      all = λ _. subst (λ (f : (Option InputPort)). Lowest 128 (inputs_of l.seats.waiting) (input_found f)) c.in_default.is c.lowest.ensures;
      none = λ m e. absurd (ok-err e);
    }

pub seat-requires : goal.seat-requires
seat-requires c =
    let low : LowestAt 128 (inputs_of c.loop-i.seats.waiting) c.in-Some.i.0 = subst (λ (f : (Option InputPort)). Lowest 128 (inputs_of c.loop-i.seats.waiting) (input_found f)) c.in-Some.is c.lowest.ensures in
    let a = c.args in
    let l = c.loop-i in
    (c.requires.0, seats-next 128 (length a.rows.now) (Allowed a.rows.now) a.pairs.now.by a.pairs.now.out l.pairs.by l.pairs.out (outputs_of l.seats.held) (tried_of a.fixed) (inputs_of l.seats.waiting) _ c.requires.2 l.invariant.2 l.invariant.0 low.here)

pub returns-in_err-seats : goal.returns-in_err-seats
returns-in_err-seats c =
    let a = c.args in
    let l = c.loop-i in
    let m = c.in_err-seats.ensures in
    rw (m.0, m.1) (record {
      seating = l.invariant.0;
      fewer = l.invariant.1;
      around = l.invariant.2;
      all = λ e. absurd (false≢true (subst IsErr e c.from_residual.ensures.0));
      none = λ _ _. none-through (length a.rows.now) (Allowed a.rows.now) a.pairs.now.by a.pairs.now.out l.pairs.by l.pairs.out (tried_of a.fixed) l.invariant.2 m.2;
    })

pub loop-i-smaller : goal.loop-i-smaller
loop-i-smaller c = let low : LowestAt 128 (inputs_of c.loop-i.seats.waiting) c.in-Some.i.0 = subst (λ (f : (Option InputPort)). Lowest 128 (inputs_of c.loop-i.seats.waiting) (input_found f)) c.in-Some.is c.lowest.ensures in
    let q = low in omega (arith, fewer 128 _ _ _ q.small q.here (c.without_lowest-seats.ensures.cleared _ q.here q.past))

pub loop-i-preserved : goal.loop-i-preserved
loop-i-preserved c =
    let low : LowestAt 128 (inputs_of c.loop-i.seats.waiting) c.in-Some.i.0 = subst (λ (f : (Option InputPort)). Lowest 128 (inputs_of c.loop-i.seats.waiting) (input_found f)) c.in-Some.is c.lowest.ensures in
    let a = c.args in
    let l = c.loop-i in
    let h = low in
    let k = c.without_lowest-seats.ensures.cleared c.in-Some.i.0 h.here h.past in
    let m = c.in_ok-seats.ensures in (
      seats-more 128 (length a.rows.now) (Allowed a.rows.now) l.pairs.by l.pairs.out (outputs_of l.seats.held) (tried_of a.fixed) (inputs_of l.seats.waiting) c.in-Some.i.0 l.invariant.0 c.seat.new.pairs.by c.seat.new.pairs.out _ _ m.0 m.1 m.2 k,
      λ j x. l.invariant.1 j (k.less j x),
      around-through (length a.rows.now) (tried_of a.fixed) a.pairs.now.by a.pairs.now.out l.pairs.by l.pairs.out c.seat.new.pairs.by c.seat.new.pairs.out l.invariant.2 m.2.around,
    )
