-- No record passed has a fault, and the pairs that those records name are marked; so the next record is judged as the definition judges it.
use native.Mathlib.Omega.{arith}
use mathlib.Core.Path.{◌≡◌, refl, sym, ◌∙◌, ap}
use Prim.Native.Nat.{◌+◌, ◌*◌, ◌≤◌}
use lib.ListN.{length}
use Rattle.std.proofs.lemmas.Result.{err_from_is_err_and}
use Rattle.wishes.specs.Fault.{first_fault}
use Rattle.wishes.proofs.Faults.{Inside, sound, inside, fault-none, fault-next, fault-stays}
use Rattle.wishes.proofs.Pairs.{seen_none, seen_more, judged}
use Rattle.wishes.proofs.first_fault.Goals as goal

pub loop-k-init : goal.loop-k-init
loop-k-init c = (omega arith, refl, seen_none _ _ _ c.requires.2, fault-none _ _)

pub fault_of-requires : goal.fault_of-requires
fault_of-requires c = let room : (let n = c.args.n in n * n ≤ 64 * length c.loop-k.marks) = rw c.loop-k.invariant.1 c.requires.2.room in
    (c.requires.1, room)

pub returns-in_err-fault_of : goal.returns-in_err-fault_of
returns-in_err-fault_of c =
    let found : (let a = c.args in c.fault_of.result ≡ first_fault a.n a.list.now (c.loop-k.k + 1)) = let l = c.loop-k in
    c.fault_of.ensures ∙ judged _ _ _ _ c.record_at-wanted.ensures _ l.invariant.2 ∙ sym (fault-next _ _ _ l.invariant.3) in
    let l = c.loop-k in
    let p = err_from_is_err_and c.from_residual.result c.from_residual.ensures.1 in
    rw (p.1, p.2) (sym (fault-stays _ _ _ (l.k + 1) _ (omega arith) (sym found ∙ c.in_err-fault_of.was)))

pub mark-requires : goal.mark-requires
mark-requires c =
    let room : (let n = c.args.n in n * n ≤ 64 * length c.loop-k.marks) = rw c.loop-k.invariant.1 c.requires.2.room in
    let passed : Inside c.args.n c.record_at-wanted.result = inside _ _ (sound _ _ _ _ (sym c.fault_of.ensures ∙ c.in_ok-fault_of.was)).formed in
    let i = passed in
    (c.requires.1, i.input, i.output, room)

pub loop-k-preserved : goal.loop-k-preserved
loop-k-preserved c =
    let found : (let a = c.args in c.fault_of.result ≡ first_fault a.n a.list.now (c.loop-k.k + 1)) = let l = c.loop-k in
    c.fault_of.ensures ∙ judged _ _ _ _ c.record_at-wanted.ensures _ l.invariant.2 ∙ sym (fault-next _ _ _ l.invariant.3) in
    let passed : Inside c.args.n c.record_at-wanted.result = inside _ _ (sound _ _ _ _ (sym c.fault_of.ensures ∙ c.in_ok-fault_of.was)).formed in
    let m = c.mark.ensures in (
      omega arith,
      m.size ∙ c.loop-k.invariant.1,
      seen_more _ _ _ _ c.record_at-wanted.ensures _ c.loop-k.invariant.2 _ passed m,
      sym found ∙ c.in_ok-fault_of.was,
    )

pub returns : goal.returns
returns c =
    let l = c.loop-k in
    let e : l.k ≡ c.args.count = omega arith in
    sym (ap (first_fault _ _) (sym e) ∙ l.invariant.3)
