-- What is read fits the tape, which has the length that it was made with.
use Rattle.std.proofs.Common.{ℕ, sym}
use Rattle.std.proofs.lemmas.List.{length-replicate}
use Rattle.vectors.proofs.main.Goals as goal

pub slice_bounds-read_full-end : goal.slice_bounds-read_full-end
slice_bounds-read_full-end c = sym (length-replicate {A = ℕ} 1572864 0)

pub slice_bounds-tape-end : goal.slice_bounds-tape-end
slice_bounds-tape-end c = c.in_ok-size.ensures.within.0

pub slice_bounds-run_all-end : goal.slice_bounds-run_all-end
slice_bounds-run_all-end c = c.in_ok-size.ensures.within.1
