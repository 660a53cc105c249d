-- A setting that is not held lays nothing; one that is held lays its one record.
use mathlib.Core.Path.{sym, ap, ◌∙◌}
use mathlib.Core.List.{List}
use Prim.Native.Nat.{ℕ, ◌<◌}
use native.Mathlib.Omega.{arith}
use lib.ListN.{length}
use Rattle.records.specs.Bytes.{laid, encode}
use Rattle.records.proofs.Laid.{laid_none}
use Rattle.turns.specs.Second.{turn}
use Rattle.turns.proofs.Turns.{held-no-bytes, held_bytes, held-size}
use Rattle.turns.proofs.lay_one.Goals as goal

pub returns-then-hold-eq0 : goal.returns-then-hold-eq0
returns-then-hold-eq0 c =
    let a = c.args in
    let z = held-no-bytes a.edition a.n (length a.out.now) a.hold (turn a.way a.n a.k) c.if-hold-eq0.true in
    (omega (arith, ap length z), sym (laid_none a.plan.now a.at) ∙ ap (laid a.plan.now a.at) (sym z))

pub put_record-requires : goal.put_record-requires
put_record-requires c =
    let a = c.args in
    let size = held-size a.edition a.n (length a.out.now) a.hold (turn a.way a.n a.k) (omega (arith, c.if-hold-eq0.false)) in
    (omega (arith, c.requires.1), omega (arith, c.requires.3, size, c.fill_outputs.auto.out))

pub overflow_add-result-2 : goal.overflow_add-result-2
overflow_add-result-2 c =
    let a = c.args in
    let size = held-size a.edition a.n (length a.out.now) a.hold (turn a.way a.n a.k) (omega (arith, c.if-hold-eq0.false)) in
    omega (arith, c.requires.3, size, c.fill_outputs.auto.out)

pub returns : goal.returns
returns c =
    let a = c.args in
    let l : 0 < a.hold = omega (arith, c.if-hold-eq0.false) in
    let W = length a.out.now in (
      omega (arith, held-size a.edition a.n W a.hold (turn a.way a.n a.k) l, c.fill_outputs.auto.out),
      c.put_record.ensures
          ∙ ap (λ (o : List ℕ). laid a.plan.now a.at (encode a.edition a.hold a.n o)) c.fill_outputs.ensures
          ∙ ap (laid a.plan.now a.at) (sym (held_bytes a.edition a.n W a.hold (turn a.way a.n a.k) l)),
    )
