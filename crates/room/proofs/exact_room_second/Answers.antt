-- The second edition is one of those that the promise is for.
use mathlib.Core.Path.{ap, ◌∙◌}
use Rattle.switch.specs.declared.Edition.{Edition}
use Rattle.room.specs.declared.Planner.TheVariants.{Exact}
use Rattle.room.specs.Room.{roomed}
use Rattle.switch.proofs.Editions.{second-bounded}
use Rattle.room.proofs.exact_room_second.Goals as goal

pub room_for-requires : goal.room_for-requires
room_for-requires c = rw c.second_edition.ensures second-bounded

pub returns : goal.returns
returns c =
    let a = c.args in
    c.room_for.ensures ∙ ap (λ (e : Edition). roomed e Exact a.n a.longest) c.second_edition.ensures
