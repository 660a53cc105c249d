-- The rows are labelled, and the cells summed; any input may ask.
use Rattle.switch.specs.Empty.{all_slots}
use Rattle.slot.specs.Filled.{left_in}
use Rattle.quick.proofs.load.Goals as goal

pub returns : goal.returns
unfolding left_in all_slots
returns c =
    let p = c.requires in
    let u = c.first.ensures in
    record {
      sized = record { some = p.1; few = p.0.sized.few; room = p.0.sized.room };
      labels = c.label_rows.ensures;
      all = c.asked_slots.ensures;
      inside = u.only;
      others = λ k q n j _. absurd (n (u.all k q));
    }
