-- A record empties a cell that it uses, which no later record can use; so the bound on such settings holds, and each record takes 1 of the total.
use mathlib.Core.Path.{◌≡◌, ap}
use mathlib.Core.Logic.{◌≢◌}
use mathlib.Core.List.{List, [], ◌∷◌}
use Prim.Native.Nat.{ℕ, zero, suc, ◌+◌, ◌*◌, ◌≤◌, ◌<◌}
use native.Mathlib.Omega.{arith}
use lib.ListN.{get_or, length}
use Rattle.switch.specs.Plan.{Full, Record, output, total, Plan}
use Rattle.rules.specs.Peel.{peel, Peels, none, more}
use Rattle.rules.proofs.Peel.{peel-at}
use Rattle.rules.proofs.Bound.{Own, settings-bound}

-- the setting of record k
unfoldable nth : List Record → ℕ → ℕ → ℕ
nth p k = output (get_or p k (record { hold = 0; outputs = [] }))

peel-zero : (h : ℕ) (o : ℕ → ℕ) (M : ℕ → ℕ → ℕ) (a b : ℕ) → M a b ≡ 0 → peel h o M a b ≡ 0
unfolding peel
peel-zero h o M a b e = omega arith

peel-met : (h : ℕ) (o : ℕ → ℕ) (M : ℕ → ℕ → ℕ) (a : ℕ) → M a (o a) ≡ h → peel h o M a (o a) ≡ 0
peel-met h o M a e = omega (arith, peel-at h o M a)

module _ (N : ℕ) where
  nth-full : {W : ℕ} {M : ℕ → ℕ → ℕ} {p : List Record} → Peels W N M p → (k : ℕ) → k < length p → Full N (nth p k)
  unfolding nth
  nth-full (none c) k l = absurd (omega arith)
  nth-full (more f t h s) zero l = f.fits.full
  nth-full (more f t h s) (suc k) l = nth-full s k (omega arith)

  -- a cell that is 0 is not used any more
  unused : {W : ℕ} {M : ℕ → ℕ → ℕ} {p : List Record} → Peels W N M p → (a b : ℕ) → a < N → M a b ≡ 0 → (k : ℕ) → k < length p → nth p k a ≢ b
  unfolding nth
  unused (none c) a b l z k q e = omega arith
  unused {M} (more {r = r} f t h s) a b l z zero q e =
      omega (arith, f.fits.used a l, ap (λ x. M a x) e)
  unused {M} (more {r = r} f t h s) a b l z (suc k) q e =
      unused s a b l (peel-zero r.hold (output r) M a b z) k (omega arith) e

  own : {W : ℕ} {M : ℕ → ℕ → ℕ} {p : List Record} → Peels W N M p → (k : ℕ) → k < length p → Own N (length p) (nth p) k
  unfolding nth
  own (none c) k l = absurd (omega arith)
  own {M} (more {r = r} {p = p} f t h s) zero l = record {
    place = h.place;
    inside = h.inside;
    later = later;
  }
    where
      later : (l : ℕ) → 0 < l → l < length (r ∷ p) → nth (r ∷ p) l h.place ≢ nth (r ∷ p) 0 h.place
      later zero a b e = omega arith
      later (suc l) a b e = unused s h.place (output r h.place) h.inside (peel-met r.hold (output r) M h.place h.met) l (omega arith) e
  own {M} (more {r = r} {p = p} f t h s) (suc k) l = shift (own s k (omega arith))
    where
      shift : Own N (length p) (nth p) k → Own N (length (r ∷ p)) (nth (r ∷ p)) (suc k)
      shift w = record { place = w.place; inside = w.inside; later = later }
        where
          later : (l : ℕ) → suc k < l → l < length (r ∷ p) → nth (r ∷ p) l w.place ≢ nth (r ∷ p) (suc k) w.place
          later zero a b e = omega arith
          later (suc l) a b e = w.later l (omega arith) (omega arith) e

-- at most N² - 2N + 2 records
pub peels-room : (N : ℕ) → 0 < N → {W : ℕ} {M : ℕ → ℕ → ℕ} {p : List Record} → Peels W N M p → length p + 2 * N ≤ N * N + 2
peels-room zero z s = absurd (omega arith)
peels-room (suc n) z {p = p} s = omega (arith, settings-bound n (length p) (nth p) (nth-full (suc n) s) (own (suc n) s))

-- a plan of any kind has no more records than slots, each record being held at least one
pub length-le-total : {N : ℕ} {p : List Record} → Plan N p → length p ≤ total p
unfolding total
length-le-total Plan.none = omega arith
length-le-total (Plan.more h s ss) = omega (arith, length-le-total ss)
