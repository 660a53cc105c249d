-- What is asked of a wish's answer (§4.2 to §4.4), without saying how it is computed. Definitions only.
use Rattle.std.specs.Prelude.{ℕ, ◌*◌, ◌<◌, ◌≤◌, Bool, true, false, ◌≡◌, ℤ, pos, Float}
use Rattle.std.specs.Float.{nan, inf, fin}
use Rattle.std.specs.Float.Ieee.{up, down, lt}
use Rattle.std.specs.Prelude.{Ok, Err}
use Rattle.wish.specs.Wish.{Wish, most_slots, worth}
use Rattle.wish.specs.declared.Unfit.TheVariants.{NotFinite, BelowZero, AboveMost}

-- k is the wish num / den rounded up: not below it, and no smaller whole number is (§4.3)
pub record LeastNotBelow (num den k : ℕ) : Type 0 where
  pub enough : num ≤ k * den
  pub least : (j : ℕ) → j < k → j * den < num

-- the wish x is to be answered w
pub data Answers : Float → Wish → Type 0 where
  a-nan : Answers nan (Err NotFinite)
  an-infinity : {s : Bool} → Answers (inf s) (Err NotFinite)
  below-zero : {m : ℕ} {e : ℤ} → 0 < m * up e → Answers (fin true m e) (Err BelowZero)
  above_most : {m : ℕ} {e : ℤ} → most_slots * down e < m * up e → Answers (fin false m e) (Err AboveMost)
  its-slots : {s : Bool} {m : ℕ} {e : ℤ} {k : ℕ} → (s ≡ true → m * up e ≡ 0) → LeastNotBelow (m * up e) (down e) k → k ≤ most_slots → Answers (fin s m e) (Ok (worth k))

-- the wish x is above zero, as binary32 compares: zero and minus zero are not, and neither is a NaN
abbrev pub AboveZero : (x : Float) → Type 0
AboveZero x = lt (fin false 0 (pos 0)) x ≡ true
