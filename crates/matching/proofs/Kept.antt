-- Cells only become zero, so the first setting of before is still the best as far as it can be kept, and its matching stays one where the emptied pairs are released.
use mathlib.Core.Path.{◌≡◌, refl, sym, subst}
use mathlib.Core.Logic.{⊎_elim}
use mathlib.Core.List.{List}
use Prim.Native.Nat.{ℕ, zero, suc, ◌<◌}
use lib.ListN.{length, get_or, replicate, length-replicate}
use Rattle.rules.specs.First.{First}
use Rattle.rules.proofs.First.{not_lower}
use Rattle.search.specs.Tables.{joined, Matching}
use Rattle.matching.specs.Chosen.{Former}
use Rattle.search.proofs.Tables.{held-not-free}

pub nobody-holds : (v k : ℕ) → ◌≡◌ {A = ℕ} (get_or (replicate v 0) k 0) 0
nobody-holds zero k = refl
nobody-holds (suc v) zero = refl
nobody-holds (suc v) (suc k) = nobody-holds v k

-- nobody holds anything: any pairs may be allowed, and nothing is kept
pub fresh : (w n : ℕ) (E : ℕ → ℕ → Type 0) (out : List ℕ) → length out ≡ w → Matching w n E (replicate w 0) out
fresh w n E out l = record {
  holders = length-replicate w 0;
  outputs = l;
  port = λ j i e. absurd (held-not-free (replicate w 0) j i e (nobody-holds w j));
  edge = λ j i e. absurd (held-not-free (replicate w 0) j i e (nobody-holds w j));
  paired = λ j i e. absurd (held-not-free (replicate w 0) j i e (nobody-holds w j));
}

-- the first setting of more pairs: with fewer pairs allowed, and its own, no full setting comes before it
pub first-former : (n : ℕ) (E₀ E : ℕ → ℕ → Type 0) (out : List ℕ) → ((i j : ℕ) → i < n → j < n → E i j → E₀ i j) → First n E₀ (joined out) → Former n E out
first-former n E₀ E out h f = record { full = f.fits.full; best = λ o full u. not_lower n E₀ (joined out) o f (record { full = full; used = λ k l. ⊎_elim (h k (o k) l (full.inside k l)) (λ e. subst (E₀ k) (sym e) (f.fits.used k l)) (u k l) }) }
