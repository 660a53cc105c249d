-- Each return is the first test that fails.
use mathlib.Core.Path.{sym, ◌∙◌}
use Prim.Native.Nat.{◌-◌, ◌<◌, ◌≤◌}
use native.Mathlib.Omega.{arith}
use lib.ListN.{length}
use Rattle.records.specs.Record.{hold, outputs_fine}
use Rattle.records.proofs.Fine.{outputs-decide}
use Rattle.rescue_rule.proofs.Reason.{reason-none, reason-hold, reason-ports, reason-spare, reason-outputs}
use Rattle.rescue_rule.specs.Reason.{outputs_reason}
use Rattle.rescue_rule.proofs.Read.{part-size, part_says}
use Rattle.dropping.proofs.reason_of.Goals as goal

pub returns-then-record_fine : goal.returns-then-record_fine
returns-then-record_fine c = sym (reason-none _ _ _ _ (sym c.record_fine.ensures ∙ c.if-record_fine.true))

pub returns-then-hold_of-eq0 : goal.returns-then-hold_of-eq0
returns-then-hold_of-eq0 c = sym (reason-hold _ _ _ _ (sym c.hold_of.ensures ∙ c.if-hold_of-eq0.true))

pub returns-then-from-n : goal.returns-then-from-n
returns-then-from-n c = sym (reason-ports _ _ _ c.args.rec.now (omega (arith, c.hold_of.ensures, c.if-hold_of-eq0.false)) (λ q. c.if-from-n.true (c.from.ensures ∙ q)))

pub returns-then-rec-edition : goal.returns-then-rec-edition
returns-then-rec-edition c = sym (reason-spare _ _ _ c.args.rec.now (omega (arith, c.hold_of.ensures, c.if-hold_of-eq0.false)) (sym c.from.ensures ∙ c.if-from-n.false) c.if-rec-edition.true)

pub outputs_reason-requires : goal.outputs_reason-requires
outputs_reason-requires c =
    let rec = c.args.rec.now in
    let long : 4 ≤ length rec = omega (arith, c.requires.1) in (
      c.requires.0,
      omega (arith, c.requires.1, part-size rec long),
      part_says rec long (λ w o. outputs_fine w c.args.n o)
          ∙ sym (outputs-decide (length rec - 4) c.args.edition c.args.n rec (λ q. c.if-hold_of-eq0.false (c.hold_of.ensures ∙ q)) (sym c.from.ensures ∙ c.if-from-n.false) c.if-rec-edition.false)
          ∙ sym c.record_fine.ensures ∙ c.if-record_fine.false,
    )

pub returns : goal.returns
returns c =
    let rec = c.args.rec.now in
    let long : 4 ≤ length rec = omega (arith, c.requires.1) in
    let held : 0 < hold rec = omega (arith, c.hold_of.ensures, c.if-hold_of-eq0.false) in
    c.outputs_reason.ensures
    ∙ part_says rec long (λ w o. outputs_reason w c.args.n o)
    ∙ sym (reason-outputs (length rec - 4) c.args.edition c.args.n rec (record { held = held; ports = sym c.from.ensures ∙ c.if-from-n.false; edition = c.if-rec-edition.false }))
