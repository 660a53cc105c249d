-- A record in force is one of a plan's, so that its place does not wrap.
use mathlib.Core.Path.{sym, ap, ◌∙◌, subst}
use Rattle.switch.specs.declared.Edition.{Edition}
use Rattle.switch.specs.Editions.{first_edition, Bounded}
use Rattle.switch.proofs.Editions.{first-bounded}
use Rattle.lookup.specs.Lookup.{spot_of, Inside}
use Rattle.lookup.proofs.Lookup.{spot-few}
use Rattle.lookup.proofs.find.Goals as goal

pub found_of-requires : goal.found_of-requires
found_of-requires c =
    let a = c.args in
    let found = c.spot_of.ensures ∙ ap (λ (e : Edition). spot_of e a.n a.tonight.now a.standby.now a.slot) c.first_edition-e.ensures in
    let e = sym c.first_edition-e.ensures in (
      subst Bounded e first-bounded,
      subst (λ (E : Edition). Inside E.records E.records c.spot_of.result) e
          (subst (Inside 8192 8192) (sym found) (spot-few first_edition a.n a.tonight.now a.standby.now a.slot first-bounded)),
    )
