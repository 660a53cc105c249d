-- Record by record: what is done and what is still to come are always the whole plan, until the hold is 0.
use Rattle.labels.specs.Ports.{Outputs}
use mathlib.Core.Path.{◌≡◌, ap, subst}
use mathlib.Core.List.{List, []}
use Prim.Native.Nat.{ℕ, ◌+◌, ◌≤◌, ◌<◌}
use native.Mathlib.Nat.{mul-le-mul}
use native.Mathlib.Omega.{arith}
use lib.ListN.{length}
use Rattle.switch.specs.Demand.{cell}
use Rattle.switch.specs.Plan.{Record, total}
use Rattle.records.specs.Bytes.{bytes, laid, encode}
use Rattle.records.proofs.Written.{Written, written_none, written_all, written-room, written_next}
use Rattle.quiet_rule.proofs.Hold.{pairs-le}
use Rattle.quiet_rule.proofs.Quiet.{quiet_short}
use Rattle.quiet.specs.Taking.{Ready, Took, leftover, Short}

-- so many records of p₀ are done
pub record Running (N L : ℕ) (p₀ : List Record) (w : List ℕ) (rows : List Outputs) (done : ℕ) : Type 0 where
  pub ready : Ready N L w rows
  pub few : length p₀ ≤ 4096
  pub count : done + length (leftover N L w) ≡ length p₀

pub running-first : (N L : ℕ) (w : List ℕ) (rows : List Outputs) → Ready N L w rows → Running N L (leftover N L w) w rows 0
running-first N L w rows r = record {
  ready = r;
  few = omega (arith, quiet_short 64 N r.few (omega (arith, r.few)) L r.limit (cell N w), pairs-le N (cell N w), mul-le-mul r.few r.few);
  count = omega arith;
}

module _ (N L : ℕ) (p₀ : List Record) (w : List ℕ) (rows : List Outputs) (done : ℕ) (g : Running N L p₀ w rows done) (w' : List ℕ) (rows' : List Outputs) (out' : List ℕ) (hold : ℕ)
    (s : Took N L w w' rows' out' hold) where
  pub running-less : length (leftover N L w') < length (leftover N L w)
  running-less = omega (arith, ap length s.more)

  pub running-small : done + 1 ≤ 4096
  running-small = omega (arith, g.count, g.few, ap length s.more)

  pub running-next : Running N L p₀ w' rows' (done + 1)
  running-next = record {
    ready = record { copy = s.copy; limit = g.ready.limit; few = g.ready.few };
    few = g.few;
    count = omega (arith, g.count, ap length s.more);
  }

pub running-last : (N L : ℕ) (p₀ : List Record) (w : List ℕ) (rows : List Outputs) (done : ℕ) → Running N L p₀ w rows done → leftover N L w ≡ [] → done ≡ length p₀
running-last N L p₀ w rows done g e = omega (arith, g.count, ap length e)

-- and they are laid over plan₀ up to `at`, and held for so long together
pub record Laying (N L : ℕ) (p₀ : List Record) (plan₀ w plan : List ℕ) (done at held : ℕ) : Type 0 where
  pub written : Written 0 N p₀ plan₀ 0 (leftover N L w) plan done at
  pub holds : held + total (leftover N L w) ≡ total p₀
  pub small : total p₀ < 4294967296
  pub cells : (i j : ℕ) → i < N → j < N → cell N w i j ≤ 65535

pub laying-first : (N L : ℕ) (plan w : List ℕ) → Short N w (leftover N L w) → length (bytes 0 N (leftover N L w)) ≤ length plan → Laying N L (leftover N L w) plan w plan 0 0 0
laying-first N L plan w s l = record {
  written = written_none 0 N (leftover N L w) plan 0 (omega arith);
  holds = omega arith;
  small = s.holds;
  cells = s.cells;
}

module _ (N L : ℕ) (p₀ : List Record) (plan₀ w plan : List ℕ) (done at held : ℕ) (g : Laying N L p₀ plan₀ w plan done at held) where
  pub laying-last : leftover N L w ≡ [] → (held ≡ total p₀) × (plan ≡ laid plan₀ 0 (bytes 0 N p₀))
  unfolding total
  laying-last z = (omega (arith, g.holds, ap total z), (written_all 0 N p₀ plan₀ 0 (leftover N L w) plan done at g.written z).1)

  module _ (w' : List ℕ) (rows' : List Outputs) (out' : List ℕ) (hold : ℕ) (s : Took N L w w' rows' out' hold) where
    pub laying-hold : hold ≤ 65535
    laying-hold = (s.fits 65535 g.cells).0

    pub laying-room : at + (length out' + 4) ≤ length plan
    laying-room = written-room 0 N p₀ plan₀ 0 (leftover N L w) plan done at g.written (record { hold = hold; outputs = out' }) (leftover N L w') s.more

    pub laying-small : held + hold < 4294967296
    unfolding total
    laying-small = omega (arith, g.holds, g.small, ap total s.more)

    pub laying-next : length out' ≡ 64 → (plan' : List ℕ) → plan' ≡ laid plan at (encode 0 hold N out') → Laying N L p₀ plan₀ w' plan' (done + 1) (at + 68) (held + hold)
    unfolding total
    laying-next long plan' l = record {
      written = subst (Written 0 N p₀ plan₀ 0 (leftover N L w') plan' (done + 1)) (let e : at + (length out' + 4) ≡ at + 68 = omega (arith, long) in e)
          (written_next 0 N p₀ plan₀ 0 (leftover N L w) plan done at g.written (record { hold = hold; outputs = out' }) (leftover N L w') s.more plan' l);
      holds = omega (arith, g.holds, ap total s.more);
      small = g.small;
      cells = (s.fits 65535 g.cells).1;
    }
