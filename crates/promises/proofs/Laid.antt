-- What a call laid at the start of a lent buffer stands there, and behind it the buffer is as it was.
use mathlib.Core.Path.{◌≡◌, ap, ◌∙◌}
use mathlib.Core.List.{List}
use Prim.Native.Nat.{ℕ, ◌+◌, ◌*◌}
use native.Mathlib.Omega.{arith}
use lib.ListN.{length, take, drop}
use lib.Seq.{take_at, drop_at}
use Rattle.switch.specs.Plan.{Record}
use Rattle.switch.specs.Sound.{Each, OfWidth}
use Rattle.records.specs.Bytes.{laid, bytes, plan_of}
use Rattle.records.proofs.Bytes.{bytes-size}
use Rattle.records.proofs.Round.{plan_of-bytes}

module _ (buf s : List ℕ) (k : ℕ) (size : length s ≡ k) where
  pub laid-front : take k (laid buf 0 s) ≡ s
  unfolding laid
  laid-front = take_at s (drop (0 + length s) buf) k size

  pub laid-behind : drop k (laid buf 0 s) ≡ drop k buf
  unfolding laid
  laid-behind = drop_at s (drop (0 + length s) buf) k size ∙ ap (λ (n : ℕ). drop n buf) (let e : 0 + length s ≡ k = omega arith in e)

-- a plan's records read back as the plan
module _ (e N W : ℕ) {p : List Record} (widths : Each (OfWidth W) p) (buf : List ℕ) where
  pub plan-front : take (length p * (W + 4)) (laid buf 0 (bytes e N p)) ≡ bytes e N p
  plan-front = laid-front buf (bytes e N p) (length p * (W + 4)) (bytes-size e N W widths)

  pub plan-reads : plan_of W (take (length p * (W + 4)) (laid buf 0 (bytes e N p))) ≡ p
  plan-reads = ap (plan_of W) plan-front ∙ plan_of-bytes e N W widths

  pub plan-behind : drop (length p * (W + 4)) (laid buf 0 (bytes e N p)) ≡ drop (length p * (W + 4)) buf
  plan-behind = laid-behind buf (bytes e N p) (length p * (W + 4)) (bytes-size e N W widths)
