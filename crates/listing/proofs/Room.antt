-- The exact plan for at most 16 ports has at most 226 records, each line of it at most 54 bytes; so the text fits.
use mathlib.Core.Path.{sym, ap}
use mathlib.Core.List.{List}
use Prim.Native.Nat.{ℕ, zero, suc, ◌+◌, ◌*◌, ◌<◌, ◌≤◌}
use native.Mathlib.Nat.{suc-mul, mul-suc, mul-le-mul, le_of_eq}
use native.Mathlib.Omega.{arith}
use lib.ListN.{length, length-append}
use Rattle.switch.specs.Answer.{demand_counts}
use Rattle.switch.specs.Demand.{cell}
use Rattle.switch.specs.Plan.{Record, total}
use Rattle.switch.specs.Empty.{empty_slots}
use Rattle.demand.specs.Check.{Asked}
use Rattle.switch.specs.Sound.{Each, OfWidth}
use Rattle.rules.specs.Peel.{Peels, none, more}
use Rattle.rules.specs.Exact.{exact_plan}
use Rattle.rules.proofs.Exact.{exact-peels, exact-total, exact-records}
use Rattle.rules.proofs.Empty.{exact-empty-slots}
use Rattle.text.specs.Text.{first_line, record_line, record_lines, plan_text}
use Rattle.text.proofs.Size.{record-size, first-size}
use Rattle.listing.specs.Listing.{counted_text}

-- N² - 2N + 2 is at most 226
few-records : (N : ℕ) → 0 < N → N ≤ 16 → N * N ≤ 224 + 2 * N
few-records zero z l = omega arith
few-records (suc n) z l = let h : n ≤ 15 = omega arith in omega (arith, suc-mul n (suc n), mul-suc n n, mul-le-mul h h)

-- each record's line, and its width
lines-size : {W N : ℕ} {M : ℕ → ℕ → ℕ} {p : List Record} → Peels W N M p → N ≤ 16 → total p ≤ 65535 → length (record_lines N p) ≤ length p * 54
unfolding total record_lines
lines-size (none c) l t = omega arith
lines-size {W} {N} (more {r = r} {p = p} f y h s) l t =
    omega (arith, length-append (record_line N r) (record_lines N p), record-size N r (omega arith) (λ i b. omega (arith, f.fits.full.inside i b)), lines-size s l (omega arith))

widths : {W N : ℕ} {M : ℕ → ℕ → ℕ} {p : List Record} → Peels W N M p → Each (OfWidth W) p
widths (none c) = Each.none
widths (more f y h s) = Each.more y.size (widths s)

module _ (N T : ℕ) (d : List ℕ) (small : N ≤ 16) (asked : Asked 64 N T d) where
  cells : N * N ≤ length d
  cells = le_of_eq (sym asked.size)

  pub exact-few : length (exact_plan 64 N d) ≤ 226
  exact-few = omega (arith, exact-records 64 N asked.some asked.few d cells, few-records N asked.some small)

  pub exact-width : Each (OfWidth 64) (exact_plan 64 N d)
  exact-width = widths (exact-peels 64 N asked.some asked.few d cells)

  -- at most 16 × 65,535 slots are empty
  few-empty : empty_slots N (cell N d) (exact_plan 64 N d) ≤ 1048560
  few-empty = omega (arith, exact-empty-slots 64 N asked.some asked.few d cells, asked.longest-is, mul-le-mul small asked.small, ap (λ (t : ℕ). N * t) asked.longest-is)

  pub text-fits : length (counted_text N T d (exact_plan 64 N d)) ≤ 16384
  unfolding plan_text
  text-fits =
      let p = exact_plan 64 N d in
      let c = demand_counts (length p) T (total p) (empty_slots N (cell N d) p) in
      let t : total p ≤ 65535 = omega (arith, exact-total 64 N asked.some asked.few d cells, asked.longest-is, asked.small) in
      omega (arith, length-append (first_line N c) (record_lines N p), exact-few, asked.small, lines-size (exact-peels 64 N asked.some asked.few d cells) small t, first-size N c (omega arith) (omega (arith, asked.small)) (omega (arith, exact-few)) (omega arith) (omega (arith, few-empty)))
