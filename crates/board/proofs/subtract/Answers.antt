-- After i turns the inputs below i have given up the hold, the labels are in step, and those are told whose cell that emptied.
use mathlib.Core.Path.{◌≡◌, sym, ap, subst, ◌∙◌}
use mathlib.Core.List.{List}
use Prim.Native.Nat.{ℕ, ◌+◌, ◌*◌, ◌-◌}
use native.Mathlib.Omega.{arith}
use lib.ListN.{set}
use lib.Dec.{eqb}
use borrow.Author.Tests.{eqb-true, eqb-false}
use Rattle.switch.specs.Demand.{cell}
use Rattle.labels.specs.Ports.{Inputs, inputs_of}
use Rattle.rules.specs.Peel.{peel_to}
use Rattle.rules.proofs.Peel.{peel_to-zero}
use Rattle.board.specs.Level.{Uses, out_of}
use Rattle.board.specs.Labelled.{Emptied}
use Rattle.board.proofs.Cells.{get_d_any, peel_to-next, peeled-sized, still-whole}
use Rattle.board.proofs.Labels.{emptied-start, emptied-not, emptied-more}
use Rattle.board.proofs.subtract.Goals as goal
use Rattle.board.proofs.subtract.Goals.{then-empties, else-empties}

pub loop-i-init : goal.loop-i-init
loop-i-init c = (omega arith, peel_to-zero _ _ _ _, c.requires.labels, emptied-start _ _ _ _ c.none-emptied.ensures)

pub bounds-out-i : goal.bounds-out-i
bounds-out-i c = omega (arith, c.requires.uses.long)

pub empties-requires : goal.empties-requires
empties-requires c =
    let a = c.args in
    let p = c.requires in
    let l = c.loop-i in
    let t = c.loop-i-test.true in
    let e = get_d_any a.out.now l.i 0 255 (omega (arith, p.uses.long)) in
    record {
      sized = peeled-sized _ _ _ _ p.uses _ _ l.invariant.1;
      labels = l.invariant.2;
      input = t;
      output = omega (arith, p.uses.inside l.i t);
      enough = omega (arith, still-whole _ _ _ _ p.uses _ _ l.invariant.1 t, p.enough l.i t, ap (cell a.n l.cells l.i) e);
    }

pub mark-emptied-requires : goal.mark-emptied-requires
mark-emptied-requires c = omega (arith, c.loop-i-test.true, c.requires.uses.sized.few)

pub loop-i-smaller : goal.loop-i-smaller
loop-i-smaller c = omega arith

pub loop-i-preserved : goal.loop-i-preserved
loop-i-preserved c =
    let a = c.args in
    let p = c.requires in
    let l = c.loop-i in
    let s = c.empties.ensures in
    let t = c.loop-i-test.true in
    let e = get_d_any a.out.now l.i 0 255 (omega (arith, p.uses.long)) in
    let f = s.0.taken ∙ ap (λ (j : ℕ). set l.cells (l.i * a.n + j) (cell a.n l.cells l.i j - a.hold)) e in (
      omega arith,
      f ∙ peel_to-next a.n a.hold (out_of a.out.now) a.cells.now l.cells l.i (p.uses.inside l.i t) l.invariant.1,
      s.0.labels,
      subst (λ (x : List ℕ). Emptied a.n x a.out.now (inputs_of c.if-empties.emptied) (l.i + 1)) (sym f) (let i = l.i in
          let v = cell a.n l.cells i (out_of a.out.now i) - a.hold in
          let u : Uses a.n l.cells a.out.now = record { sized = peeled-sized _ _ _ _ p.uses _ _ l.invariant.1; long = p.uses.long; inside = p.uses.inside } in
          let g = c.empties.ensures.1 ∙ ap (λ (j : ℕ). eqb (cell a.n l.cells i j - a.hold) 0) e in
          elim c.if-empties.branch [
            | then-empties x ↦ subst (λ (q : Inputs). Emptied a.n (set l.cells (i * a.n + out_of a.out.now i) v) a.out.now (inputs_of q) (i + 1)) (sym x.emptied-is)
                (emptied-more a.n l.cells a.out.now i v (inputs_of l.emptied) u t l.invariant.3 _ (eqb-true v 0 (sym g ∙ x.if-empties.true)) x.mark-emptied.ensures)
            | else-empties y ↦ subst (λ (q : Inputs). Emptied a.n (set l.cells (i * a.n + out_of a.out.now i) v) a.out.now (inputs_of q) (i + 1)) (sym y.emptied-is)
                (emptied-not a.n l.cells a.out.now i v (inputs_of l.emptied) u t l.invariant.3 (let z = eqb-false v 0 (sym g ∙ y.if-empties.false) in omega (arith, z)))
          ]),
    )

pub returns : goal.returns
returns c =
    let a = c.args in
    let l = c.loop-i in
    let e : l.i ≡ a.n = omega arith in
    (record { taken = l.invariant.1 ∙ ap (peel_to a.n a.hold (out_of a.out.now) a.cells.now) e; labels = l.invariant.2 }, subst (Emptied a.n l.cells a.out.now (inputs_of l.emptied)) e l.invariant.3)
