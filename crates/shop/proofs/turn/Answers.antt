-- The lowest idle input of the output's set is what the rule gives it; its task is written, and what is kept follows.
use mathlib.Core.Path.{subst}
use Prim.Native.Nat.{◌+◌, ◌*◌, ◌<◌, ◌≤◌}
use native.Mathlib.Omega.{arith}
use lib.ListN.{length, get_or, length-set}
use Rattle.shop.specs.Sets.{numbers_of, CommonAt, LowestCommon}
use Rattle.shop.proofs.Follows.{turn-running, turn-nothing, turned_none, turned-starts, pair-in, pair-cell}
use Rattle.sets.specs.declared.Label.{Label}
use Rattle.sets.specs.Label.{Cleared}
use Rattle.shop.proofs.Scans.{lowest-common}
use Rattle.shop.proofs.turn.Goals as goal

-- ---- an input was found

-- ---- the needs

pub returns-then-clock-outs : goal.returns-then-clock-outs
returns-then-clock-outs c =
    let a = c.args in
    turned_none a.clock.n a.cells.now a.clock.d a.clock.t a.j.0 a.so _ _ _ _
    (λ x h b. turn-running a.clock.n c.requires.few a.cells.now a.clock.d a.clock.t a.j.0 c.requires.place x _ _ _ h _ b c.if-clock-outs.true)

pub returns-in_default : goal.returns-in_default
returns-in_default c =
    let a = c.args in
    let none = subst (LowestCommon (get_or a.waiting.now a.j.0 0) (numbers_of a.so.idle)) c.in_default.is (lowest-common c.of-asks.ensures c.common-both.ensures _ c.lowest-found.ensures) in
    turned_none a.clock.n a.cells.now a.clock.d a.clock.t a.j.0 a.so _ _ _ _
    (λ x h b. turn-nothing a.clock.n c.requires.few a.cells.now a.clock.d a.clock.t a.j.0 c.requires.place x _ _ _ h _ b c.if-clock-outs.false none)

pub overflow_mul-end : goal.overflow_mul-end
overflow_mul-end c = let found : CommonAt (get_or c.args.waiting.now c.args.j.0 0) (numbers_of c.args.so.idle) c.in-Some.i.0 = subst (LowestCommon (get_or c.args.waiting.now c.args.j.0 0) (numbers_of c.args.so.idle)) c.in-Some.is (lowest-common c.of-asks.ensures c.common-both.ensures _ c.lowest-found.ensures) in
    let inside : (c.in-Some.i.0 * c.args.clock.n + c.args.j.0 < length c.args.cells.now) × (c.in-Some.i.0 * c.args.clock.n + c.args.j.0 < 16384) = pair-in c.args.clock.n c.in-Some.i.0 c.args.j.0 c.args.cells.now c.requires.few c.requires.sized (c.requires.small c.in-Some.i.0 found.left) c.requires.place in
    omega (arith, inside)

pub overflow_add-end : goal.overflow_add-end
overflow_add-end c = let found : CommonAt (get_or c.args.waiting.now c.args.j.0 0) (numbers_of c.args.so.idle) c.in-Some.i.0 = subst (LowestCommon (get_or c.args.waiting.now c.args.j.0 0) (numbers_of c.args.so.idle)) c.in-Some.is (lowest-common c.of-asks.ensures c.common-both.ensures _ c.lowest-found.ensures) in
    let inside : (c.in-Some.i.0 * c.args.clock.n + c.args.j.0 < length c.args.cells.now) × (c.in-Some.i.0 * c.args.clock.n + c.args.j.0 < 16384) = pair-in c.args.clock.n c.in-Some.i.0 c.args.j.0 c.args.cells.now c.requires.few c.requires.sized (c.requires.small c.in-Some.i.0 found.left) c.requires.place in
    omega (arith, inside)

pub offset_bounds-cells-input : goal.offset_bounds-cells-input
offset_bounds-cells-input c = let found : CommonAt (get_or c.args.waiting.now c.args.j.0 0) (numbers_of c.args.so.idle) c.in-Some.i.0 = subst (LowestCommon (get_or c.args.waiting.now c.args.j.0 0) (numbers_of c.args.so.idle)) c.in-Some.is (lowest-common c.of-asks.ensures c.common-both.ensures _ c.lowest-found.ensures) in
    let inside : (c.in-Some.i.0 * c.args.clock.n + c.args.j.0 < length c.args.cells.now) × (c.in-Some.i.0 * c.args.clock.n + c.args.j.0 < 16384) = pair-in c.args.clock.n c.in-Some.i.0 c.args.j.0 c.args.cells.now c.requires.few c.requires.sized (c.requires.small c.in-Some.i.0 found.left) c.requires.place in
    omega (arith, inside)

pub bounds-cells-input : goal.bounds-cells-input
bounds-cells-input c = let found : CommonAt (get_or c.args.waiting.now c.args.j.0 0) (numbers_of c.args.so.idle) c.in-Some.i.0 = subst (LowestCommon (get_or c.args.waiting.now c.args.j.0 0) (numbers_of c.args.so.idle)) c.in-Some.is (lowest-common c.of-asks.ensures c.common-both.ensures _ c.lowest-found.ensures) in
    let inside : (c.in-Some.i.0 * c.args.clock.n + c.args.j.0 < length c.args.cells.now) × (c.in-Some.i.0 * c.args.clock.n + c.args.j.0 < 16384) = pair-in c.args.clock.n c.in-Some.i.0 c.args.j.0 c.args.cells.now c.requires.few c.requires.sized (c.requires.small c.in-Some.i.0 found.left) c.requires.place in
    inside.0

pub overflow_add-end-2 : goal.overflow_add-end-2
overflow_add-end-2 c = let found : CommonAt (get_or c.args.waiting.now c.args.j.0 0) (numbers_of c.args.so.idle) c.in-Some.i.0 = subst (LowestCommon (get_or c.args.waiting.now c.args.j.0 0) (numbers_of c.args.so.idle)) c.in-Some.is (lowest-common c.of-asks.ensures c.common-both.ensures _ c.lowest-found.ensures) in
    let ends : c.args.clock.t + (c.args.clock.d + get_or c.args.cells.now (c.in-Some.i.0 * c.args.clock.n + c.args.j.0) 0) < 4294967296 = omega (arith, c.requires.time c.in-Some.i.0 found.left, pair-cell c.args.clock.n c.in-Some.i.0 c.args.j.0 c.args.cells.now) in
    omega (arith, ends)

pub overflow_add-end-3 : goal.overflow_add-end-3
overflow_add-end-3 c = let found : CommonAt (get_or c.args.waiting.now c.args.j.0 0) (numbers_of c.args.so.idle) c.in-Some.i.0 = subst (LowestCommon (get_or c.args.waiting.now c.args.j.0 0) (numbers_of c.args.so.idle)) c.in-Some.is (lowest-common c.of-asks.ensures c.common-both.ensures _ c.lowest-found.ensures) in
    let ends : c.args.clock.t + (c.args.clock.d + get_or c.args.cells.now (c.in-Some.i.0 * c.args.clock.n + c.args.j.0) 0) < 4294967296 = omega (arith, c.requires.time c.in-Some.i.0 found.left, pair-cell c.args.clock.n c.in-Some.i.0 c.args.j.0 c.args.cells.now) in
    omega (arith, ends)

pub put_task-requires : goal.put_task-requires
put_task-requires c = let found : CommonAt (get_or c.args.waiting.now c.args.j.0 0) (numbers_of c.args.so.idle) c.in-Some.i.0 = subst (LowestCommon (get_or c.args.waiting.now c.args.j.0 0) (numbers_of c.args.so.idle)) c.in-Some.is (lowest-common c.of-asks.ensures c.common-both.ensures _ c.lowest-found.ensures) in
    let room : c.args.so.begun.records * 12 + 12 ≤ length c.args.tasks.now = c.requires.room c.in-Some.i.0 found.left in
    (room, omega (arith, found.small), omega (arith, c.requires.place, c.requires.few))

pub without-rest-requires : goal.without-rest-requires
without-rest-requires c = let found : CommonAt (get_or c.args.waiting.now c.args.j.0 0) (numbers_of c.args.so.idle) c.in-Some.i.0 = subst (LowestCommon (get_or c.args.waiting.now c.args.j.0 0) (numbers_of c.args.so.idle)) c.in-Some.is (lowest-common c.of-asks.ensures c.common-both.ensures _ c.lowest-found.ensures) in
    found.small

pub offset_bounds-waiting-output-2 : goal.offset_bounds-waiting-output-2
offset_bounds-waiting-output-2 c = omega (arith, c.requires.place, c.requires.few)

pub bounds-waiting-output-2 : goal.bounds-waiting-output-2
bounds-waiting-output-2 c = let output-in : (c.args.j.0 < length c.args.waiting.now) × (c.args.j.0 < length c.args.outs.now) = let p = c.requires in
    (omega (arith, p.place, p.few, p.waiting-size), omega (arith, p.place, p.few, p.outs-size)) in
    output-in.0

pub offset_bounds-ins-input : goal.offset_bounds-ins-input
offset_bounds-ins-input c = let found : CommonAt (get_or c.args.waiting.now c.args.j.0 0) (numbers_of c.args.so.idle) c.in-Some.i.0 = subst (LowestCommon (get_or c.args.waiting.now c.args.j.0 0) (numbers_of c.args.so.idle)) c.in-Some.is (lowest-common c.of-asks.ensures c.common-both.ensures _ c.lowest-found.ensures) in
    omega (arith, found.small)

pub bounds-ins-input : goal.bounds-ins-input
bounds-ins-input c = let found : CommonAt (get_or c.args.waiting.now c.args.j.0 0) (numbers_of c.args.so.idle) c.in-Some.i.0 = subst (LowestCommon (get_or c.args.waiting.now c.args.j.0 0) (numbers_of c.args.so.idle)) c.in-Some.is (lowest-common c.of-asks.ensures c.common-both.ensures _ c.lowest-found.ensures) in
    let input-in : c.in-Some.i.0 < length c.args.ins.now = omega (arith, found.small, c.requires.ins-size) in
    input-in

pub offset_bounds-outs-output-2 : goal.offset_bounds-outs-output-2
offset_bounds-outs-output-2 c = omega (arith, c.requires.place, c.requires.few)

pub bounds-outs-output-2 : goal.bounds-outs-output-2
bounds-outs-output-2 c = let output-in : (c.args.j.0 < length c.args.waiting.now) × (c.args.j.0 < length c.args.outs.now) = let p = c.requires in
    (omega (arith, p.place, p.few, p.waiting-size), omega (arith, p.place, p.few, p.outs-size)) in
    output-in.1

pub without-requires : goal.without-requires
without-requires c = let found : CommonAt (get_or c.args.waiting.now c.args.j.0 0) (numbers_of c.args.so.idle) c.in-Some.i.0 = subst (LowestCommon (get_or c.args.waiting.now c.args.j.0 0) (numbers_of c.args.so.idle)) c.in-Some.is (lowest-common c.of-asks.ensures c.common-both.ensures _ c.lowest-found.ensures) in
    found.small

pub one_more-requires : goal.one_more-requires
one_more-requires c = c.requires.started

pub returns : goal.returns
returns c =
    let found : CommonAt (get_or c.args.waiting.now c.args.j.0 0) (numbers_of c.args.so.idle) c.in-Some.i.0 = subst (LowestCommon (get_or c.args.waiting.now c.args.j.0 0) (numbers_of c.args.so.idle)) c.in-Some.is (lowest-common c.of-asks.ensures c.common-both.ensures _ c.lowest-found.ensures) in
    let room : c.args.so.begun.records * 12 + 12 ≤ length c.args.tasks.now = c.requires.room c.in-Some.i.0 found.left in
    let input-in : c.in-Some.i.0 < length c.args.ins.now = omega (arith, found.small, c.requires.ins-size) in
    let output-in : (c.args.j.0 < length c.args.waiting.now) × (c.args.j.0 < length c.args.outs.now) = let p = c.requires in
    (omega (arith, p.place, p.few, p.waiting-size), omega (arith, p.place, p.few, p.outs-size)) in
    let a = c.args in
    record {
      waiting-size = simp length-set;
      ins-size = simp length-set;
      outs-size = simp length-set;
      kept = turned-starts a.clock.n c.requires.few a.cells.now a.clock.d a.clock.t a.j.0 c.requires.place _ _ _ a.tasks.now _ a.so.begun
          c.in-Some.i.0 found c.if-clock-outs.false _ (subst (λ (s : Label). Cleared s.0 c.in-Some.i.0 c.without-rest.result.numbers.0) c.of-asks.ensures c.without-rest.ensures) output-in.0 input-in output-in.1
          _ (omega (arith, pair-cell a.clock.n c.in-Some.i.0 a.j.0 a.cells.now)) _ c.without.ensures room _ c.put_task.ensures _ c.one_more.ensures;
    }
