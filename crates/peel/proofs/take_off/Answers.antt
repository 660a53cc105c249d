-- The next setting is the first over the cells; its smallest cell is taken off, and the pairs that this empties are released.
use Rattle.peel.proofs.Left.{few, ready, uses, hold-below, giving, taken}
use Rattle.peel.proofs.take_off.Goals as goal

pub next_setting-requires : goal.next_setting-requires
next_setting-requires c = let p = c.requires in (few _ _ _ _ _ _ p.0 p.1, ready _ _ _ _ _ _ p.0 p.1)

pub smallest-hold-requires : goal.smallest-hold-requires
smallest-hold-requires c = uses _ _ _ _ _ _ c.requires.0 _ _ c.next_setting.ensures

pub subtract-emptied-requires : goal.subtract-emptied-requires
subtract-emptied-requires c =
    let s = c.requires.0 in
    let n = c.next_setting.ensures in
    record { uses = uses _ _ _ _ _ _ s _ _ n; labels = s.labels; enough = hold-below _ _ _ _ _ _ s _ _ n _ c.smallest-hold.ensures }

pub release_all-held-requires : goal.release_all-held-requires
release_all-held-requires c = let e = c.subtract-emptied.ensures in giving _ _ _ _ _ _ c.requires.0 _ _ c.next_setting.ensures _ c.smallest-hold.ensures _ _ e.0 _ e.1

pub returns : goal.returns
returns c = let e = c.subtract-emptied.ensures in let r = c.release_all-held.ensures in rw r.1 (taken _ _ _ _ _ _ c.requires.0 _ _ c.next_setting.ensures _ c.smallest-hold.ensures _ _ e.0 _ _ e.1 r.0)
