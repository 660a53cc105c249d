-- A record whose inputs are all idle is well formed: 255 is idle for each of the first N and what is asked of each later one.
use mathlib.Core.Path.{◌≡◌}
use mathlib.Core.Bool.{true}
use mathlib.Core.Logic.{inr, dite}
use Prim.Native.Nat.{ℕ, ◌<◌, ◌≤◌}
use native.Mathlib.Decide.{dec_lt}
use native.Mathlib.Omega.{arith}
use lib.ListN.{replicate, length-replicate, get_or-replicate, get_or-eq_default}
use Rattle.switch.specs.Plan.{Record, output}
use Rattle.switch.specs.Sound.{Sound}
use Rattle.records.specs.Record.{well_formed}
use Rattle.records.specs.Bytes.{encode}
use Rattle.records.proofs.Meaning.{encode-sound}

-- W idle inputs, held for h
abbrev pub idles : ℕ → ℕ → Record
idles W h = record { hold = h; outputs = replicate W 255 }

idle-at : (W h i : ℕ) → output (idles W h) i ≡ 255
unfolding output
idle-at W h i = dite (dec_lt i W) (get_or-replicate W i 255 255)
    (λ g. get_or-eq_default (replicate W 255) 255 (omega (arith, g, length-replicate {A = ℕ} W 255)))

pub idle-sound : (W N h : ℕ) → N ≤ 255 → 0 < h → Sound W N (idles W h)
idle-sound W N h small some = record {
  held = some;
  size = length-replicate W 255;
  inside = λ i _. inr (idle-at W h i);
  setting = record { once = λ i k _ _ b _. absurd (omega (arith, idle-at W h i)) };
  later = λ i _ _. idle-at W h i;
}

-- all idle is well formed, of any width and for any N that it has room for
pub idle-well-formed : (W e N h : ℕ) → N ≤ W → N ≤ 255 → 0 < h → well_formed W e N (encode e h N (replicate W 255)) ≡ true
idle-well-formed W e N h few small some = encode-sound W e N (idles W h) few small (idle-sound W N h small some)
