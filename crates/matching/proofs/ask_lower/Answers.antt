-- Its own is spare once it is given up, and the one output that can be had at once; it takes it again where it is stuck.
use mathlib.Core.Path.{subst}
use native.Mathlib.Nat.{lt_of_lt_of_le}
use lib.ListN.{length}
use Rattle.labels.specs.Ports.{outputs_of}
use Rattle.search.specs.Tables.{tried_of, Allowed}
use Rattle.search.specs.Search.{AskPost}
use Rattle.matching.proofs.Settling.{own-place, lower-asks, lower-wave, lower-taken, lower-back}
use Rattle.matching.proofs.ask_lower.Goals as goal

pub release-requires : goal.release-requires
release-requires c =
    let a = c.args in
    own-place 128 (length a.rows.now) (Allowed a.rows.now) a.pairs.now.by a.pairs.now.out (tried_of a.dead) (outputs_of a.lower) a.own.0 a.i.0 c.requires.1

pub without-held-requires : goal.without-held-requires
without-held-requires c =
    let a = c.args in
    own-place 128 (length a.rows.now) (Allowed a.rows.now) a.pairs.now.by a.pairs.now.out (tried_of a.dead) (outputs_of a.lower) a.own.0 a.i.0 c.requires.1

pub ask_outputs-requires : goal.ask_outputs-requires
ask_outputs-requires c =
    let a = c.args in (
      c.requires.0,
      rw (c.release.ensures.0, c.release.ensures.1) (lower-asks 128 (length a.rows.now) (Allowed a.rows.now) a.pairs.now.by a.pairs.now.out (tried_of a.dead) (outputs_of a.lower) a.own.0 a.i.0 c.requires.1 (outputs_of c.every.result) (outputs_of c.without-held.result) c.every.ensures c.without-held.ensures),
      lower-wave 128 (length a.rows.now) (Allowed a.rows.now) a.pairs.now.by a.pairs.now.out (tried_of a.dead) (outputs_of a.lower) a.own.0 a.i.0 c.requires.1 (outputs_of c.every.result) (outputs_of c.without-held.result) c.every.ensures c.without-held.ensures,
    )

pub join-requires : goal.join-requires
join-requires c =
    let a = c.args in
    (lt_of_lt_of_le c.requires.1.here c.requires.0.few, own-place 128 (length a.rows.now) (Allowed a.rows.now) a.pairs.now.by a.pairs.now.out (tried_of a.dead) (outputs_of a.lower) a.own.0 a.i.0 c.requires.1)

pub join-requires-in-Freed : goal.join-requires-in-Freed
join-requires-in-Freed c =
    let a = c.args in
    let m = subst (AskPost 128 (length a.rows.now) (Allowed a.rows.now) c.release.new.self.by a.pairs.now.out (tried_of a.dead) (outputs_of a.lower) c.ask_outputs.new.pairs.by c.ask_outputs.new.pairs.out) c.in-Freed.is (rw c.release.ensures.1 at c.ask_outputs.ensures.0) in
    (lt_of_lt_of_le c.requires.1.here c.requires.0.few, m.here)

pub returns-in-Stuck : goal.returns-in-Stuck
returns-in-Stuck c =
    let a = c.args in
    let m = subst (AskPost 128 (length a.rows.now) (Allowed a.rows.now) c.release.new.self.by a.pairs.now.out (tried_of a.dead) (outputs_of a.lower) c.ask_outputs.new.pairs.by c.ask_outputs.new.pairs.out) c.in-Stuck.is (rw c.release.ensures.1 at c.ask_outputs.ensures.0) in
    lower-back 128 (length a.rows.now) (Allowed a.rows.now) a.pairs.now.by a.pairs.now.out (tried_of a.dead) (outputs_of a.lower) a.own.0 a.i.0 c.requires.1 c.release.new.self.by c.release.ensures.0 c.ask_outputs.new.pairs.by c.ask_outputs.new.pairs.out c.join.new.self.by c.join.new.self.out (tried_of c.in-Stuck.seen) m c.join.ensures.0 c.join.ensures.1

pub returns-in-Freed : goal.returns-in-Freed
returns-in-Freed c =
    let a = c.args in
    let m = subst (AskPost 128 (length a.rows.now) (Allowed a.rows.now) c.release.new.self.by a.pairs.now.out (tried_of a.dead) (outputs_of a.lower) c.ask_outputs.new.pairs.by c.ask_outputs.new.pairs.out) c.in-Freed.is (rw c.release.ensures.1 at c.ask_outputs.ensures.0) in
    lower-taken 128 (length a.rows.now) (Allowed a.rows.now) a.pairs.now.by a.pairs.now.out (tried_of a.dead) (outputs_of a.lower) a.own.0 a.i.0 c.requires.1 c.release.new.self.by c.release.ensures.0 c.in-Freed.g.output.0 c.in-Freed.g.spent.0 c.ask_outputs.new.pairs.by c.ask_outputs.new.pairs.out c.join-in-Freed.new.self.by c.join-in-Freed.new.self.out c.requires.0.few m c.join-in-Freed.ensures.0 c.join-in-Freed.ensures.1
