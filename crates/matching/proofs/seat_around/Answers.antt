-- Outputs that are not fixed are a wave, and what comes of asking them is what comes of asking all that the input may take.
use mathlib.Core.Path.{sym, subst}
use Prim.Native.Nat.{ℕ}
use native.Mathlib.Nat.{lt_of_lt_of_le}
use lib.ListN.{length}
use Rattle.sets.specs.Label.{In, Sub}
use Rattle.labels.specs.Ports.{outputs_of}
use Rattle.search.specs.Tables.{tried_of, Allowed}
use Rattle.search.specs.Search.{AskPost}
use Rattle.search.proofs.Search.{lowest-at, none_left, wave-of, wave-post, tried-unmoved}
use Rattle.matching.proofs.Completing.{seat-asks, seat-stuck, seat-taken}
use Rattle.matching.proofs.seat_around.Goals as goal

pub row_of-row-requires : goal.row_of-row-requires
row_of-row-requires c = c.requires.1.here

pub returns-in_default : goal.returns-in_default
returns-in_default c =
    let a = c.args in
    let p = seat-asks 128 (length a.rows.now) (Allowed a.rows.now) a.pairs.now.by a.pairs.now.out (outputs_of a.held) (tried_of a.fixed) a.i.0 c.requires.1 in
    let n = none_left 128 (outputs_of c.row_of-row.result) (tried_of a.fixed) c.next.result c.next.ensures c.in_default.is in
    seat-stuck 128 (length a.rows.now) (Allowed a.rows.now) a.pairs.now.by a.pairs.now.out (outputs_of a.held) (tried_of a.fixed) a.i.0 c.requires.1 (outputs_of c.row_of-row.result) (λ k e. subst (λ (y : ℕ). In y k) c.row_of-row.ensures e) (λ k e. subst (λ (y : ℕ). In y k) (sym c.row_of-row.ensures) e) a.pairs.now.by a.pairs.now.out (tried_of a.fixed)
    (tried-unmoved 128 (length a.rows.now) (Allowed a.rows.now) a.pairs.now.by a.pairs.now.out (outputs_of a.held) (tried_of a.fixed) p (outputs_of c.row_of-row.result) n)

pub ask_outputs-requires : goal.ask_outputs-requires
ask_outputs-requires c =
    let a = c.args in
    let p = seat-asks 128 (length a.rows.now) (Allowed a.rows.now) a.pairs.now.by a.pairs.now.out (outputs_of a.held) (tried_of a.fixed) a.i.0 c.requires.1 in
    let known : Sub (outputs_of c.row_of-row.result) (outputs_of a.held) = λ k x. c.requires.2 k (subst (λ (y : ℕ). In y k) c.row_of-row.ensures x) in
    (c.requires.0, p, wave-of 128 (length a.rows.now) (Allowed a.rows.now) a.pairs.now.by a.pairs.now.out (outputs_of a.held) (tried_of a.fixed) p (outputs_of c.row_of-row.result) (outputs_of c.but.result) _ known (lowest-at 128 (outputs_of c.row_of-row.result) (tried_of a.fixed) c.next.result _ c.next.ensures c.in-Some.is) c.but.ensures)

pub join-requires : goal.join-requires
join-requires c =
    let post : let a = c.args in AskPost 128 (length a.rows.now) (Allowed a.rows.now) a.pairs.now.by a.pairs.now.out (tried_of a.fixed) (outputs_of c.row_of-row.result) c.ask_outputs.new.pairs.by c.ask_outputs.new.pairs.out c.ask_outputs.result = let a = c.args in
    wave-post 128 (length a.rows.now) (Allowed a.rows.now) a.pairs.now.by a.pairs.now.out (outputs_of a.held) (tried_of a.fixed) (seat-asks 128 (length a.rows.now) (Allowed a.rows.now) a.pairs.now.by a.pairs.now.out (outputs_of a.held) (tried_of a.fixed) a.i.0 c.requires.1) (outputs_of c.row_of-row.result) (outputs_of c.but.result) c.ask_outputs.new.pairs.by c.ask_outputs.new.pairs.out c.ask_outputs.result c.but.ensures c.ask_outputs.ensures.0 in
    let a = c.args in
    let m = subst (AskPost 128 (length a.rows.now) (Allowed a.rows.now) a.pairs.now.by a.pairs.now.out (tried_of a.fixed) (outputs_of c.row_of-row.result) c.ask_outputs.new.pairs.by c.ask_outputs.new.pairs.out) c.in-Freed.is post in
    (lt_of_lt_of_le c.requires.1.here c.requires.0.few, m.here)

pub mark-requires : goal.mark-requires
mark-requires c =
    let post : let a = c.args in AskPost 128 (length a.rows.now) (Allowed a.rows.now) a.pairs.now.by a.pairs.now.out (tried_of a.fixed) (outputs_of c.row_of-row.result) c.ask_outputs.new.pairs.by c.ask_outputs.new.pairs.out c.ask_outputs.result = let a = c.args in
    wave-post 128 (length a.rows.now) (Allowed a.rows.now) a.pairs.now.by a.pairs.now.out (outputs_of a.held) (tried_of a.fixed) (seat-asks 128 (length a.rows.now) (Allowed a.rows.now) a.pairs.now.by a.pairs.now.out (outputs_of a.held) (tried_of a.fixed) a.i.0 c.requires.1) (outputs_of c.row_of-row.result) (outputs_of c.but.result) c.ask_outputs.new.pairs.by c.ask_outputs.new.pairs.out c.ask_outputs.result c.but.ensures c.ask_outputs.ensures.0 in
    let a = c.args in
    let m = subst (AskPost 128 (length a.rows.now) (Allowed a.rows.now) a.pairs.now.by a.pairs.now.out (tried_of a.fixed) (outputs_of c.row_of-row.result) c.ask_outputs.new.pairs.by c.ask_outputs.new.pairs.out) c.in-Freed.is post in
    m.last

pub returns-in-Stuck : goal.returns-in-Stuck
returns-in-Stuck c =
    let post : let a = c.args in AskPost 128 (length a.rows.now) (Allowed a.rows.now) a.pairs.now.by a.pairs.now.out (tried_of a.fixed) (outputs_of c.row_of-row.result) c.ask_outputs.new.pairs.by c.ask_outputs.new.pairs.out c.ask_outputs.result = let a = c.args in
    wave-post 128 (length a.rows.now) (Allowed a.rows.now) a.pairs.now.by a.pairs.now.out (outputs_of a.held) (tried_of a.fixed) (seat-asks 128 (length a.rows.now) (Allowed a.rows.now) a.pairs.now.by a.pairs.now.out (outputs_of a.held) (tried_of a.fixed) a.i.0 c.requires.1) (outputs_of c.row_of-row.result) (outputs_of c.but.result) c.ask_outputs.new.pairs.by c.ask_outputs.new.pairs.out c.ask_outputs.result c.but.ensures c.ask_outputs.ensures.0 in
    let a = c.args in
    let m = subst (AskPost 128 (length a.rows.now) (Allowed a.rows.now) a.pairs.now.by a.pairs.now.out (tried_of a.fixed) (outputs_of c.row_of-row.result) c.ask_outputs.new.pairs.by c.ask_outputs.new.pairs.out) c.in-Stuck.is post in
    seat-stuck 128 (length a.rows.now) (Allowed a.rows.now) a.pairs.now.by a.pairs.now.out (outputs_of a.held) (tried_of a.fixed) a.i.0 c.requires.1 (outputs_of c.row_of-row.result) (λ k e. subst (λ (y : ℕ). In y k) c.row_of-row.ensures e) (λ k e. subst (λ (y : ℕ). In y k) (sym c.row_of-row.ensures) e) c.ask_outputs.new.pairs.by c.ask_outputs.new.pairs.out _ m

pub returns-in-Freed : goal.returns-in-Freed
returns-in-Freed c =
    let post : let a = c.args in AskPost 128 (length a.rows.now) (Allowed a.rows.now) a.pairs.now.by a.pairs.now.out (tried_of a.fixed) (outputs_of c.row_of-row.result) c.ask_outputs.new.pairs.by c.ask_outputs.new.pairs.out c.ask_outputs.result = let a = c.args in
    wave-post 128 (length a.rows.now) (Allowed a.rows.now) a.pairs.now.by a.pairs.now.out (outputs_of a.held) (tried_of a.fixed) (seat-asks 128 (length a.rows.now) (Allowed a.rows.now) a.pairs.now.by a.pairs.now.out (outputs_of a.held) (tried_of a.fixed) a.i.0 c.requires.1) (outputs_of c.row_of-row.result) (outputs_of c.but.result) c.ask_outputs.new.pairs.by c.ask_outputs.new.pairs.out c.ask_outputs.result c.but.ensures c.ask_outputs.ensures.0 in
    let a = c.args in
    let m = subst (AskPost 128 (length a.rows.now) (Allowed a.rows.now) a.pairs.now.by a.pairs.now.out (tried_of a.fixed) (outputs_of c.row_of-row.result) c.ask_outputs.new.pairs.by c.ask_outputs.new.pairs.out) c.in-Freed.is post in
    seat-taken 128 (length a.rows.now) (Allowed a.rows.now) a.pairs.now.by a.pairs.now.out (outputs_of a.held) (tried_of a.fixed) a.i.0 c.requires.1 (outputs_of c.row_of-row.result) (λ k e. subst (λ (y : ℕ). In y k) c.row_of-row.ensures e) (λ k e. subst (λ (y : ℕ). In y k) (sym c.row_of-row.ensures) e)
    c.in-Freed.g.output.0 c.in-Freed.g.spent.0 (outputs_of c.mark.result) c.ask_outputs.new.pairs.by c.ask_outputs.new.pairs.out c.join.new.self.by c.join.new.self.out c.requires.0.few m c.mark.ensures c.join.ensures.0 c.join.ensures.1
