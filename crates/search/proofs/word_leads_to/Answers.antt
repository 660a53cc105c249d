-- Each output of the word is met in turn; its holder is there, since it is not free, and its row is added.
use mathlib.Core.Path.{refl, sym, subst}
use Prim.Native.Nat.{ℕ, ◌+◌, ◌-◌}
use native.Mathlib.Omega.{arith}
use lib.ListN.{get_or}
use Rattle.sets.specs.Label.{In, Lowest, LowestAt}
use Rattle.labels.specs.Ports.{outputs_of}
use Rattle.sets.proofs.Digits.{fewer}
use Rattle.search.specs.Tables.{Allowed}
use Rattle.search.proofs.Search.{one_up}
use Rattle.search.proofs.Waves.{part-start, part-more, part_end}
use Rattle.search.proofs.word_leads_to.Goals as goal

pub loop-j-init : goal.loop-j-init
loop-j-init c = part-start _ _ _ _ _

pub returns : goal.returns
returns c =
    let a = c.args in
    let l = c.loop-j in
    part_end (Allowed a.rows.now) a.pairs.now.by a.word.0 a.base (outputs_of a.before) l.rest.0 (outputs_of l.outputs) l.invariant
    (subst (Lowest 64 l.rest.0) c.in_default.is c.lowest.ensures)

pub overflow_add-k : goal.overflow_add-k
overflow_add-k c = let low : LowestAt 64 c.loop-j.rest.0 c.in-Some.j = subst (Lowest 64 c.loop-j.rest.0) c.in-Some.is c.lowest.ensures in
    omega (arith, low.small, c.requires.2)

pub bounds-pairs-k : goal.bounds-pairs-k
bounds-pairs-k c = let low : LowestAt 64 c.loop-j.rest.0 c.in-Some.j = subst (Lowest 64 c.loop-j.rest.0) c.in-Some.is c.lowest.ensures in
    let p = c.requires in omega (arith, low.small, p.2, p.1.holders)

pub returns-then-v-eq-FREE : goal.returns-then-v-eq-FREE
returns-then-v-eq-FREE c =
    let low : LowestAt 64 c.loop-j.rest.0 c.in-Some.j = subst (Lowest 64 c.loop-j.rest.0) c.in-Some.is c.lowest.ensures in
    let l = low in
    (c.in-Some.j, c.loop-j.invariant.less c.in-Some.j l.here, refl, omega (arith, l.small), c.if-v-eq-FREE.true)

pub row_of-requires : goal.row_of-requires
row_of-requires c =
    let k = c.args.base + c.in-Some.j in
    let v = get_or c.args.pairs.now.by k 0 in
    let h = c.requires.1.port k (v - 1) (one_up v c.if-v-eq-FREE.false) in
    h

pub loop-j-smaller : goal.loop-j-smaller
loop-j-smaller c = let low : LowestAt 64 c.loop-j.rest.0 c.in-Some.j = subst (Lowest 64 c.loop-j.rest.0) c.in-Some.is c.lowest.ensures in
    let l = low in fewer 64 _ _ _ l.small l.here (c.without_lowest-rest.ensures.cleared _ l.here l.past)

pub loop-j-preserved : goal.loop-j-preserved
loop-j-preserved c =
    let low : LowestAt 64 c.loop-j.rest.0 c.in-Some.j = subst (Lowest 64 c.loop-j.rest.0) c.in-Some.is c.lowest.ensures in
    let a = c.args in
    let l = c.loop-j in
    let m = low in
    let v = get_or a.pairs.now.by (a.base + c.in-Some.j) 0 in
    part-more (Allowed a.rows.now) a.pairs.now.by a.word.0 a.base (outputs_of a.before) l.rest.0 (outputs_of l.outputs) (outputs_of c.row_of.result) c.without_lowest-rest.result.0 (outputs_of c.with-outputs.result) c.in-Some.j (v - 1)
    l.invariant m.here (c.without_lowest-rest.ensures.cleared c.in-Some.j m.here m.past) c.with-outputs.ensures (one_up v c.if-v-eq-FREE.false)
    (λ k e. subst (λ (q : ℕ). In q k) (sym c.row_of.ensures) e) (λ k e. subst (λ (q : ℕ). In q k) c.row_of.ensures e)
