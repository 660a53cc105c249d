-- The bytes of a report stand at the buffer's start, so each byte written is what it says of its record, and the later ones are as they were.
use Rattle.std.specs.Prelude.{Ok}
use mathlib.Core.Path.{◌≡◌, sym, ap, ◌∙◌, subst}
use mathlib.Core.List.{List, ◌++◌}
use Prim.Native.Nat.{ℕ, ◌+◌, ◌-◌, ◌<◌, ◌≤◌}
use native.Mathlib.Omega.{arith}
use lib.ListN.{length, get_or, drop, get_or-append}
use lib.Seq.{get_or-append-add, get_or-drop}
use Rattle.switch.specs.declared.Counts.{Counts}
use Rattle.records.specs.Record.{decoded}
use Rattle.records.specs.Bytes.{record_at, plan_of, whole, laid}
use Rattle.switch.specs.Result.{Result}
use Rattle.records.proofs.Laid.{length-laid}
use Rattle.switch.specs.declared.Edition.{Edition}
use Rattle.switch.specs.Editions.{Bounded}
use Rattle.plans.specs.Read.{checking}
use Rattle.plans.proofs.Plans.{checked}
use Rattle.wavelengths.specs.Shared.{most_shared, grating_report, MostShared}
use Rattle.wavelengths.specs.Report.{reported}
use Rattle.wavelengths.proofs.Shared.{most-shared}
use Rattle.wavelengths.proofs.Report.{report-done, length-report, report-at}

-- a list laid at the start
module _ (d s : List ℕ) where
  pub laid-at : (k : ℕ) → k < length s → get_or (laid d 0 s) k 0 ≡ get_or s k 0
  unfolding laid
  laid-at k l = get_or-append s (drop (0 + length s) d) 0 k l

  laid-past : (k : ℕ) → length s ≤ k → get_or (laid d 0 s) k 0 ≡ get_or d k 0
  unfolding laid
  laid-past k l =
      ap (λ (i : ℕ). get_or (s ++ drop (0 + length s) d) i 0) (let e : k ≡ length s + (k - length s) = omega arith in e)
      ∙ get_or-append-add s (drop (0 + length s) d) (k - length s) 0 ∙ get_or-drop (0 + length s) d (k - length s) 0
      ∙ ap (λ (i : ℕ). get_or d i 0) (let e : 0 + length s + (k - length s) ≡ k = omega arith in e)

-- where nothing is refused
module _ (E : Edition) (bounds : Bounded E) (N : ℕ) (plan buf : List ℕ) {c : Counts} (fine : Ok c ≡ checking E N plan) (room : c.records ≤ length buf) where
  abbrev report : List ℕ
  report = grating_report N (plan_of E.width plan)

  count : length report ≡ c.records
  count = length-report E.width N plan 0 (whole E.width plan) ∙ ap (λ (x : Counts). x.records) (sym (checked E N plan bounds c fine).counts)

  written : (reported E N plan buf).bytes ≡ laid buf 0 report
  written = ap (λ (w : Result). w.bytes) (sym (report-done E N plan buf fine room))

  -- byte k: some wavelength has that many inputs of record k, and none has more
  pub says : (k : ℕ) → k < c.records → MostShared N (decoded (record_at E.width plan k)) (get_or (reported E N plan buf).bytes k 0)
  says k l = subst (MostShared N (decoded (record_at E.width plan k))) (sym at) (most-shared N (decoded (record_at E.width plan k)))
    where
      at : get_or (reported E N plan buf).bytes k 0 ≡ most_shared N (decoded (record_at E.width plan k))
      at = ap (λ (b : List ℕ). get_or b k 0) written ∙ laid-at buf report k (omega (arith, count))
          ∙ report-at E.width N plan 0 (whole E.width plan) k (omega (arith, count, length-report E.width N plan 0 (whole E.width plan)))
          ∙ ap (λ (i : ℕ). most_shared N (decoded (record_at E.width plan i))) (let e : 0 + k ≡ k = omega arith in e)

  -- later bytes stay untouched
  pub later-untouched : (k : ℕ) → c.records ≤ k → get_or (reported E N plan buf).bytes k 0 ≡ get_or buf k 0
  later-untouched k l = ap (λ (b : List ℕ). get_or b k 0) written ∙ laid-past buf report k (omega (arith, count))

  pub same_size : length (reported E N plan buf).bytes ≡ length buf
  same_size = ap length written ∙ length-laid buf 0 report (omega (arith, count))
