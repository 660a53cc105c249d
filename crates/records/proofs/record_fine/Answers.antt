-- Each return is the test that decides.
use mathlib.Core.Path.{ap}
use Rattle.records.specs.Record.{outputs_fine}
use Prim.Native.Nat.{ℕ, ◌-◌}
use mathlib.Core.List.{List}
use lib.Seq.{take_all}
use lib.ListN.{length, take, drop, length-drop}
use mathlib.Core.Path.{◌≡◌, sym, ◌∙◌}
use native.Mathlib.Omega.{arith}
use Rattle.records.proofs.Fine.{no-hold, bad-ports, bad-edition, outputs-decide}
use Rattle.records.proofs.record_fine.Goals as goal

pub returns-then-hold_of-eq0 : goal.returns-then-hold_of-eq0
returns-then-hold_of-eq0 c = sym (no-hold _ _ _ _ (sym c.hold_of.ensures ∙ c.if-hold_of-eq0.true))

pub returns-then-from-n : goal.returns-then-from-n
returns-then-from-n c = sym (bad-ports _ _ _ _ (λ q. c.if-from-n.true (c.from.ensures ∙ q)))

pub returns-then-rec-edition : goal.returns-then-rec-edition
returns-then-rec-edition c = sym (bad-edition _ _ _ _ c.if-rec-edition.true)

pub returns : goal.returns
returns c =
    let b = c.args.rec.now in
    let n = c.args.n in
    let part : take (length b - 4) (drop 4 b) ≡ drop 4 b = take_all (length b - 4) (drop 4 b) (rw length-drop (omega arith)) in
    c.outputs_fine.ensures
    ∙ ap (λ (o : List ℕ). outputs_fine (length o) n o) part
    ∙ ap (λ (w : ℕ). outputs_fine w n (drop 4 b)) (length-drop 4 b)
    ∙ sym (outputs-decide _ _ n b
    (λ q. c.if-hold_of-eq0.false (c.hold_of.ensures ∙ q))
    (sym c.from.ensures ∙ c.if-from-n.false)
    c.if-rec-edition.false)
