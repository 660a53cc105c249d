-- Room for the first part's total and the rotations is room for both parts; else they are counted, and the quotients made again.
use mathlib.Core.Path.{refl, sym, ap, ◌∙◌}
use Prim.Native.Nat.{ℕ, ◌+◌}
use native.Mathlib.Omega.{arith}
use Rattle.rules.proofs.Doubled.{length-divide}
use lib.ListN.{length}
use Rattle.doubled.proofs.Divided.{first-few}
use Rattle.doubled.proofs.Room.{needs-surely, needs-counted}
use Rattle.doubled.proofs.needed.Goals as goal

pub overflow_add-most : goal.overflow_add-most
overflow_add-most c = let p = c.requires in omega (arith, p.0.small, p.0.few, p.3)

pub returns-then-most-room : goal.returns-then-most-room
returns-then-most-room c =
    let a = c.args in
    let p = c.requires in
    (refl, λ W wide narrow. needs-surely _ _ _ (omega (arith, first-few W _ _ _ p.0 wide)) c.if-most-room.true)

pub count-requires : goal.count-requires
count-requires c = c.requires.0

pub overflow_add-need : goal.overflow_add-need
overflow_add-need c =
    let a = c.args in
    let p = c.requires in
    omega (arith, c.count.ensures a.n (omega arith) p.0.few, first-few a.n _ _ _ p.0 (omega arith), p.0.small, p.0.few, p.3)

pub quotients-requires : goal.quotients-requires
quotients-requires c =
    let a = c.args in
    let p = c.requires in
    (omega (arith, c.count.auto.work, ap length p.1, length-divide a.unit a.cells.now), p.2)

pub returns : goal.returns
returns c =
    let a = c.args in
    let p = c.requires in
    (c.quotients.ensures ∙ sym p.1, λ W wide narrow. needs-counted _ _ _ (ap (λ (k : ℕ). k + a.turns) (c.count.ensures W wide narrow)))
