-- A record in force is one of its plan.
use mathlib.Core.Path.{◌≡◌, sym, ap, ◌∙◌, subst}
use native.Mathlib.Omega.{arith}
use Rattle.records.specs.Bytes.{whole}
use Rattle.switch.specs.declared.Edition.{Edition}
use Rattle.switch.specs.Editions.{first_edition}
use Rattle.switch.proofs.Editions.{first-bounded}
use Rattle.lookup.specs.Lookup.{in_tonight, in_standby, spot_of, Inside}
use Rattle.lookup.proofs.Lookup.{spot-inside}
use Rattle.lookup.proofs.part_in_force.Goals as goal

pub record_at-requires : goal.record_at-requires
record_at-requires c =
    let a = c.args in
    let at : c.spot_of.result ≡ in_tonight c.in-Ok-Tonight.k = cc (c.in-Ok-Tonight.is, c.in-Ok-Tonight.field-0-is) in
    let found = c.spot_of.ensures ∙ ap (λ (e : Edition). spot_of e a.n a.tonight.now a.standby.now a.slot) c.first_edition.ensures in (
      omega arith,
      subst (Inside (whole 64 a.tonight.now) (whole 64 a.standby.now)) (sym found ∙ at) (spot-inside first_edition a.n a.tonight.now a.standby.now a.slot first-bounded),
    )

pub record_at-requires-in-Ok-Standby : goal.record_at-requires-in-Ok-Standby
record_at-requires-in-Ok-Standby c =
    let a = c.args in
    let at : c.spot_of.result ≡ in_standby c.in-Ok-Standby.k = cc (c.in-Ok-Standby.is, c.in-Ok-Standby.field-0-is) in
    let found = c.spot_of.ensures ∙ ap (λ (e : Edition). spot_of e a.n a.tonight.now a.standby.now a.slot) c.first_edition.ensures in (
      omega arith,
      subst (Inside (whole 64 a.tonight.now) (whole 64 a.standby.now)) (sym found ∙ at) (spot-inside first_edition a.n a.tonight.now a.standby.now a.slot first-bounded),
    )
