-- A moved setting joins what it joined: the outputs of the N inputs are the same, and all others are idle in either width.
use mathlib.Core.Path.{◌≡◌, refl, sym, ap, ◌∙◌}
use mathlib.Core.Logic.{dite, ⊎_elim, inl, inr}
use mathlib.Core.List.{List, [], ◌∷◌, ◌++◌}
use Prim.Native.Nat.{ℕ, zero, suc, ◌+◌, ◌-◌, ◌≤◌}
use native.Mathlib.Decide.{dec_lt}
use native.Mathlib.Omega.{arith}
use lib.ListN.{length, get_or, take, replicate, length-append, length-take, length-replicate, length-map, get_or-append, get_or-eq_default}
use lib.Seq.{get_or-take, get_or-append-add, ext_get_or}
use Rattle.switch.specs.Plan.{Record, output, grant, total}
use Rattle.switch.specs.Sound.{Sound, Each, none, more}
use Rattle.moving.specs.Move.{moved_record, moved_plan}

idle-past : (m i : ℕ) → get_or {A = ℕ} (replicate m 255) i 255 ≡ 255
idle-past zero i = refl
idle-past (suc m) zero = refl
idle-past (suc m) (suc i) = idle-past m i

pub moved-hold : (W N : ℕ) (r : Record) → (moved_record W N r).hold ≡ r.hold
unfolding moved_record
moved-hold W N r = refl

-- the first N outputs, and the width of what is moved
module _ (W N : ℕ) (r : Record) (long : N ≤ length r.outputs) where
  first : length (take N r.outputs) ≡ N
  first = rw length-take (omega arith)

  pub moved-width : N ≤ W → length (moved_record W N r).outputs ≡ W
  unfolding moved_record
  moved-width few = omega (arith, length-append (take N r.outputs) (replicate (W - N) 255), first, length-replicate {A = ℕ} (W - N) 255)

-- a sound record of W₀ outputs, moved to W
module _ (W₀ W N : ℕ) (here : N ≤ W₀) (there : N ≤ W) (r : Record) (s : Sound W₀ N r) where
  -- input i of the N, or one past them
  past : (i : ℕ) → N ≤ i → output r i ≡ 255
  unfolding output
  past i l = dite (dec_lt i W₀) (λ k. s.later i l k) (λ g. get_or-eq_default r.outputs 255 (omega (arith, g, s.size)))

  long : N ≤ length r.outputs
  long = omega (arith, s.size)

  pub moved-output : (i : ℕ) → output (moved_record W N r) i ≡ output r i
  unfolding output moved_record
  moved-output i =
      dite (dec_lt i N)
      (λ l. get_or-append (take N r.outputs) (replicate (W - N) 255) 255 i (omega (arith, first W N r long)) ∙ get_or-take N r.outputs i 255 l)
      (λ g. behind (i - N) (omega (arith, g)) ∙ sym (past i (omega (arith, g))))
    where
      behind : (k : ℕ) → i ≡ N + k → get_or (take N r.outputs ++ replicate (W - N) 255) i 255 ≡ 255
      behind k e =
          ap (λ (j : ℕ). get_or (take N r.outputs ++ replicate (W - N) 255) j 255) (e ∙ ap (λ (n : ℕ). n + k) (sym (first W N r long)))
          ∙ get_or-append-add (take N r.outputs) (replicate (W - N) 255) k 255 ∙ idle-past (W - N) k

  pub moved-size : length (moved_record W N r).outputs ≡ W
  moved-size = moved-width W N r long there

  pub moved-sound : Sound W N (moved_record W N r)
  moved-sound = record {
    held = rw (moved-hold W N r) s.held;
    size = moved-size;
    inside = λ i l. ⊎_elim (λ b. inl (omega (arith, moved-output i))) (λ e. inr (moved-output i ∙ e)) (s.inside i l);
    setting = record { once = λ i k li lk b e. s.setting.once i k li lk (omega (arith, moved-output i)) (sym (moved-output i) ∙ e ∙ moved-output k) };
    later = λ i l _. moved-output i ∙ past i l;
  }

-- moved to W and back to W₀
module _ (W₀ W N : ℕ) (here : N ≤ W₀) (there : N ≤ W) (r : Record) (s : Sound W₀ N r) where
  same-outputs : (moved_record W₀ N (moved_record W N r)).outputs ≡ r.outputs
  unfolding output
  same-outputs =
      let m = moved-sound W₀ W N here there r s in
      ext_get_or 255 _ _ (moved-size W W₀ N there here _ m ∙ sym s.size)
      (λ i _. moved-output W W₀ N there here (moved_record W N r) m i ∙ moved-output W₀ W N here there r s i)

  pub moved_back : moved_record W₀ N (moved_record W N r) ≡ r
  unfolding moved_record
  moved_back = ap {B = Record} (λ (o : List ℕ). record { hold = r.hold; outputs = o }) same-outputs

-- ---- whole plans

pub length_moved : (W N : ℕ) (p : List Record) → length (moved_plan W N p) ≡ length p
unfolding moved_plan
length_moved W N p = length-map p (moved_record W N)

pub total-moved : (W N : ℕ) (p : List Record) → total (moved_plan W N p) ≡ total p
unfolding total moved_plan moved_record
total-moved W N [] = refl
total-moved W N (r ∷ p) = ap (λ (t : ℕ). r.hold + t) (total-moved W N p)

module _ (W₀ W N : ℕ) (here : N ≤ W₀) (there : N ≤ W) where
  pub plan-sound : {p : List Record} → Each (Sound W₀ N) p → Each (Sound W N) (moved_plan W N p)
  unfolding moved_plan
  plan-sound none = none
  plan-sound (more {r = r} s t) = more (moved-sound W₀ W N here there r s) (plan-sound t)

  -- there and back
  pub plan-back : {p : List Record} → Each (Sound W₀ N) p → moved_plan W₀ N (moved_plan W N p) ≡ p
  unfolding moved_plan
  plan-back none = refl
  plan-back (more {r = r} {p = p} s t) = λ i. moved_back W₀ W N here there r s i ∷ plan-back t i

  -- every pair is granted what it was granted
  pub plan-grants : {p : List Record} → Each (Sound W₀ N) p → (i j : ℕ) → grant (moved_plan W N p) i j ≡ grant p i j
  unfolding grant moved_plan
  plan-grants none i j = refl
  plan-grants (more {r = r} {p = p} s t) i j = cc (moved-hold W N r, moved-output W₀ W N here there r s i, plan-grants t i j)
