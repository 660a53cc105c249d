-- A result is given by the case of its definition that holds, and there is one.
use mathlib.Core.Path.{◌≡◌, sym, ap, ◌∙◌}
use mathlib.Core.List.{List}
use Prim.Native.Nat.{ℕ}
use Rattle.switch.specs.Outcome.{Outcome}
use Rattle.switch.specs.Result.{Result, Gives}
use Rattle.switch.proofs.Answer.{determined}

pub gives : {given x : Result} → given ≡ x → {r : Outcome} {after : List ℕ} → r ≡ x.outcome → after ≡ x.bytes → Gives given r after
gives q o b = record { outcome = o ∙ ap (λ (y : Result). y.outcome) (sym q); bytes = b ∙ ap (λ (y : Result). y.bytes) (sym q) }

-- the same where another call gives it
pub gives_as : {given x : Result} → given ≡ x → {r : Outcome} {after : List ℕ} → Gives x r after → Gives given r after
gives_as q g = gives q g.outcome g.bytes

pub gives_one : {given : Result} {r s : Outcome} {after later : List ℕ} → Gives given r after → Gives given s later → (r ≡ s) × (after ≡ later)
gives_one {given} p q = (determined _ _ given.outcome p.outcome q.outcome, determined _ _ given.bytes p.bytes q.bytes)
