-- The rescued plan laid: the kept records and, behind them, what is added.
use mathlib.Core.Path.{◌≡◌, sym, ap, ap₂, ◌∙◌}
use mathlib.Core.List.{List, ◌++◌, map}
use Prim.Native.Nat.{ℕ, ◌+◌, ◌*◌, ◌≤◌}
use native.Mathlib.Nat.{add-mul}
use native.Mathlib.Omega.{arith}
use lib.ListN.{length}
use Rattle.switch.specs.declared.Edition.{Edition}
use Rattle.switch.specs.Plan.{Record}
use Rattle.switch.proofs.Sound.{each_width}
use Rattle.rules.specs.Exact.{exact_plan}
use Rattle.rules.specs.Doubled.{stretch}
use Rattle.records.specs.Bytes.{whole, bytes, laid}
use Rattle.records.proofs.Bytes.{bytes-size, bytes-append}
use Rattle.records.proofs.Laid.{length-laid, laid_more}
use Rattle.plans.specs.Reading.{Readable}
use Rattle.peel.specs.Standing.{Cells}
use Rattle.exact.specs.Laying.{Place}
use Rattle.exact.proofs.Fitting.{stretch-once}
use Rattle.rescue_rule.specs.Rescue.{kept}
use Rattle.rescue_rule.proofs.Kept.{kept-sound}
use Rattle.rescue_rule.proofs.Read.{ports-fit}

module _ (E : Edition) (N T k : ℕ) (damaged w d₀ : List ℕ) (r : Readable E N damaged (whole E.width damaged)) (cells : Cells N T w)
    (is : k ≡ length (kept E.width E.byte N damaged)) (room : (k + length (exact_plan E.width N w)) * (E.width + 4) ≤ length d₀) where
  abbrev first : List ℕ
  first = bytes E.byte N (kept E.width E.byte N damaged)

  ports : (N ≤ E.width) × (N ≤ 128)
  ports = ports-fit E N damaged (whole E.width damaged) r

  first-size : length first ≡ k * (E.width + 4)
  first-size =
      bytes-size E.byte N E.width (each_width E.width N (kept-sound E.width E.byte N damaged ports.0 (omega (arith, ports.1)) (whole E.width damaged) (omega arith)))
      ∙ ap (λ (x : ℕ). x * (E.width + 4)) (sym is)

  both-room : k * (E.width + 4) + length (exact_plan E.width N w) * (E.width + 4) ≤ length d₀
  both-room = omega (arith, room, add-mul k (length (exact_plan E.width N w)) (E.width + 4))

  pub kept-fits : length first ≤ length d₀
  kept-fits = omega (arith, first-size, both-room)

  pub place-small : k * (E.width + 4) ≤ length d₀
  place-small = omega (arith, both-room)

  -- room behind them
  pub place-behind : (d : List ℕ) → d ≡ laid d₀ 0 first → Place N T 1 E.width (k * (E.width + 4)) (exact_plan E.width N w) d
  place-behind d e = record {
    wide = ports.0;
    narrow = r.bounded.width;
    fits = omega (arith, cells.small);
    room = omega (arith, both-room, ap length e, length-laid d₀ 0 first (omega (arith, kept-fits)));
  }

  pub both-laid : (d d' : List ℕ) → d ≡ laid d₀ 0 first → d' ≡ laid d (k * (E.width + 4)) (bytes E.byte N (map (stretch 1) (exact_plan E.width N w)))
      → d' ≡ laid d₀ 0 (bytes E.byte N (kept E.width E.byte N damaged ++ exact_plan E.width N w))
  both-laid d d' e f =
      f ∙ ap (λ (p : List Record). laid d (k * (E.width + 4)) (bytes E.byte N p)) (stretch-once (exact_plan E.width N w))
      ∙ ap₂ (λ (x : List ℕ) (y : ℕ). laid x y (bytes E.byte N (exact_plan E.width N w))) e (let q : k * (E.width + 4) ≡ 0 + length first = omega (arith, first-size) in q)
      ∙ laid_more d₀ 0 first (omega (arith, kept-fits)) (bytes E.byte N (exact_plan E.width N w))
      ∙ ap (laid d₀ 0) (sym (bytes-append E.byte N (kept E.width E.byte N damaged) (exact_plan E.width N w)))
