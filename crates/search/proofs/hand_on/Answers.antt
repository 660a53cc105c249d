-- The output is given up before its holder takes the other, so that nobody holds two.
use native.Mathlib.Nat.{lt_of_lt_of_le}
use native.Mathlib.Omega.{arith}
use Rattle.labels.specs.Ports.{outputs_of}
use Rattle.search.specs.Tables.{Allowed}
use Rattle.search.proofs.Tables.{held_in}
use Rattle.search.proofs.Waves.{holder-port, handed}
use Rattle.search.proofs.hand_on.Goals as goal

pub mover-j-requires : goal.mover-j-requires
mover-j-requires c = c.requires

pub bounds-pairs-k : goal.bounds-pairs-k
bounds-pairs-k c = omega (arith, c.requires.2.ports.holders, held_in c.args.pairs.now.by c.mover-j.result.0 c.mover-j.ensures.1.0 c.mover-j.ensures.1.1)

pub release-requires : goal.release-requires
release-requires c = omega (arith, c.requires.2.ports.holders, held_in c.args.pairs.now.by c.mover-j.result.0 c.mover-j.ensures.1.0 c.mover-j.ensures.1.1)

pub overflow_sub-v : goal.overflow_sub-v
overflow_sub-v c = omega (arith, c.mover-j.ensures.1.1)

pub join-requires : goal.join-requires
join-requires c =
    let a = c.args in
    (lt_of_lt_of_le (holder-port 128 _ (Allowed a.rows.now) a.pairs.now.by (outputs_of a.wave) a.wanted.0 c.requires.2 c.mover-j.result.0 c.mover-j.ensures.0) c.requires.0.few, c.requires.1)

pub returns : goal.returns
returns c =
    let a = c.args in
    let r = c.release.new.self in
    let q = c.join.new.self in
    handed 128 _ (Allowed a.rows.now) a.pairs.now.by (outputs_of a.wave) a.wanted.0 c.requires.2 c.mover-j.result.0 c.mover-j.ensures.0 a.pairs.now.out r.by r.out q.by q.out c.mover-j.ensures c.release.ensures.0 c.release.ensures.1 c.join.ensures.0 c.join.ensures.1
