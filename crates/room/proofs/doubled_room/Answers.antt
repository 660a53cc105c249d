-- The first edition is one of those that the promise is for.
use mathlib.Core.Path.{ap, ◌∙◌}
use Rattle.switch.specs.declared.Edition.{Edition}
use Rattle.switch.proofs.Editions.{first-bounded}
use Rattle.room.specs.declared.Planner.TheVariants.{Doubled}
use Rattle.room.specs.Room.{roomed}
use Rattle.room.proofs.doubled_room.Goals as goal

pub room_for-requires : goal.room_for-requires
room_for-requires c = rw c.first_edition.ensures first-bounded

pub returns : goal.returns
returns c =
    let a = c.args in
    c.room_for.ensures ∙ ap (λ (e : Edition). roomed e Doubled a.n a.longest) c.first_edition.ensures
