-- Success and refusal are two constructors, so one is never the other, and what is counted is told by the success.
use Rattle.std.specs.Prelude.{Err, Ok}
use mathlib.Core.Path.{◌≡◌, ap}
use Prim.Native.Nat.{ℕ}
use native.Mathlib.Omega.{arith}
use Rattle.switch.specs.Outcome.{Outcome}
use Rattle.switch.specs.declared.Refusal.{Refusal}
use Rattle.switch.specs.declared.Counts.{Counts}
use Rattle.switch.specs.Answer.{code_of}

pub never : {c : Counts} {r : Refusal} {A : Type 0} → Err r ≡ Ok c → A
never e = let z : ◌≡◌ {A = ℕ} 0 1 = cc in absurd (let f : ⊥ = omega arith in f)

pub same-counts : {a b : Counts} → ◌≡◌ {A = Outcome} (Ok a) (Ok b) → a ≡ b
same-counts e = cc

pub same-refusal : {a b : Refusal} → ◌≡◌ {A = Outcome} (Err a) (Err b) → a ≡ b
same-refusal e = cc

-- an outcome that is no success is never done
pub not-zero : {o : Outcome} → (code_of o ≡ 0 → ⊥) → (c : Counts) → o ≡ Ok c → ⊥
not-zero n c e = n (ap code_of e)
