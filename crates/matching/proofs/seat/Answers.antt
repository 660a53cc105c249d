-- An output that is not held is there to be taken; where there is none, the input has to ask.
use mathlib.Core.Path.{sym, subst}
use Prim.Native.Nat.{ℕ}
use native.Mathlib.Nat.{lt_of_lt_of_le}
use lib.ListN.{length}
use Rattle.sets.specs.Label.{In}
use Rattle.labels.specs.Ports.{outputs_of}
use Rattle.search.specs.Tables.{tried_of, Allowed}
use Rattle.search.proofs.Search.{lowest-at, none_left, spare-moved}
use Rattle.matching.proofs.Completing.{seat-asks, seat-taken}
use Rattle.matching.proofs.seat.Goals as goal

pub row_of-row-requires : goal.row_of-row-requires
row_of-row-requires c = c.requires.1.here

pub seat_around-requires : goal.seat_around-requires
seat_around-requires c =
    let a = c.args in
    (c.requires.0, c.requires.1, λ k x. none_left 128 (outputs_of c.row_of-row.result) (outputs_of a.held) c.lowest_untried.result c.lowest_untried.ensures c.in-None.is k (subst (λ (y : ℕ). In y k) (sym c.row_of-row.ensures) x))

pub join-requires : goal.join-requires
join-requires c =
    let a = c.args in
    (lt_of_lt_of_le c.requires.1.here c.requires.0.few, (lowest-at 128 (outputs_of c.row_of-row.result) (outputs_of a.held) c.lowest_untried.result c.in-Some.spare c.lowest_untried.ensures c.in-Some.is).small)

pub mark-requires : goal.mark-requires
mark-requires c =
    let a = c.args in
    (lowest-at 128 (outputs_of c.row_of-row.result) (outputs_of a.held) c.lowest_untried.result c.in-Some.spare c.lowest_untried.ensures c.in-Some.is).small

pub returns-in-None : goal.returns-in-None
returns-in-None c = c.seat_around.ensures

pub returns-in-Some : goal.returns-in-Some
returns-in-Some c =
    let a = c.args in
    let p = seat-asks 128 (length a.rows.now) (Allowed a.rows.now) a.pairs.now.by a.pairs.now.out (outputs_of a.held) (tried_of a.fixed) a.i.0 c.requires.1 in
    let m = spare-moved 128 (length a.rows.now) (Allowed a.rows.now) a.pairs.now.by a.pairs.now.out (outputs_of a.held) (tried_of a.fixed) p (outputs_of c.row_of-row.result) c.in-Some.spare.0 (lowest-at 128 (outputs_of c.row_of-row.result) (outputs_of a.held) c.lowest_untried.result c.in-Some.spare c.lowest_untried.ensures c.in-Some.is) in
    seat-taken 128 (length a.rows.now) (Allowed a.rows.now) a.pairs.now.by a.pairs.now.out (outputs_of a.held) (tried_of a.fixed) a.i.0 c.requires.1 (outputs_of c.row_of-row.result) (λ k e. subst (λ (y : ℕ). In y k) c.row_of-row.ensures e) (λ k e. subst (λ (y : ℕ). In y k) (sym c.row_of-row.ensures) e)
    c.in-Some.spare.0 c.in-Some.spare.0 (outputs_of c.mark.result) a.pairs.now.by a.pairs.now.out c.join.new.self.by c.join.new.self.out c.requires.0.few m c.mark.ensures c.join.ensures.0 c.join.ensures.1
