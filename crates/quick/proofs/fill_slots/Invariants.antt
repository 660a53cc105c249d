-- Each turn of the loop does one of the slots still to come, and its record goes behind those before it.
use mathlib.Core.Path.{◌≡◌}
use Prim.Native.Nat.{◌+◌}
use lib.ListN.{length}
use Rattle.slot.specs.Filled.{leftover}
use Rattle.quick.proofs.Standing.{Standing}
use Rattle.records.proofs.Filling.{Filling}
use Rattle.quick.proofs.fill_slots.Given as goal

abbrev pub invariant-loop-rest : goal.invariant-loop-rest
invariant-loop-rest l = record {
  standing : Standing (length l.initial.out) l.n l.work l.rows l.out l.rest;
  filling : Filling l.writes l.edition l.n (leftover (length l.initial.out) l.n 0 l.initial.work) l.initial.plan 0 (leftover (length l.initial.out) l.n l.s l.work) l.plan l.at;
  count : l.s + length (leftover (length l.initial.out) l.n l.s l.work) ≡ length (leftover (length l.initial.out) l.n 0 l.initial.work);
}

abbrev pub decreases-loop-rest : goal.decreases-loop-rest
decreases-loop-rest l = length (leftover (length l.initial.out) l.n l.s l.work)
