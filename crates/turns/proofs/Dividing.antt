-- The quotients are stored one after the other.
use mathlib.Core.Path.{◌≡◌, sym, ap, ◌∙◌}
use mathlib.Core.List.{List}
use Prim.Native.Nat.{ℕ, ◌+◌, ◌/◌, ◌≤◌, ◌<◌}
use native.Mathlib.Omega.{arith}
use native.Mathlib.Nat.{zero-div}
use lib.ListN.{length, get_or, set, take, get_or-map}
use Rattle.rules.specs.Doubled.{divide}
use Rattle.rules.proofs.Doubled.{length-divide}
use Rattle.records.specs.Bytes.{laid}
use Rattle.records.proofs.Laid.{copy-start-more, copy-whole}

module _ (u : ℕ) (d w : List ℕ) (size : length w ≡ length d) where
  pub quotient-store : (p : List ℕ) (k v : ℕ) → k < length d → v ≡ get_or d k 0 / u → p ≡ laid w 0 (take k (divide u d))
      → set p k v ≡ laid w 0 (take (k + 1) (divide u d))
  quotient-store p k v l q e = ap (set p k) (q ∙ sym there) ∙ copy-start-more w (divide u d) p k (omega arith) (omega (arith, length-divide u d)) e
    where
      there : get_or (divide u d) k 0 ≡ get_or d k 0 / u
      there = unfold divide in ap (get_or (divide u d) k) (sym (zero-div u)) ∙ get_or-map (λ x. x / u) d k 0

  pub quotients-whole : (p : List ℕ) (k : ℕ) → length d ≤ k → p ≡ laid w 0 (take k (divide u d)) → p ≡ divide u d
  quotients-whole p k l e = copy-whole w (divide u d) p k (length-divide u d ∙ sym size) (omega (arith, length-divide u d)) e
