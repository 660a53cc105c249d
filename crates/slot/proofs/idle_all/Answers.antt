-- Every output becomes idle, and past the list's end it is so by definition.
use mathlib.Core.Path.{◌≡◌, ap, ◌∙◌}
use mathlib.Core.List.{List}
use Prim.Native.Nat.{ℕ, ◌<◌}
use native.Mathlib.Decide.{dec_lt}
use native.Mathlib.Omega.{arith}
use lib.ListN.{length, get_or, replicate, get_or-eq_default}
use Rattle.std.proofs.lemmas.List.{get_or-replicate}
use Rattle.slot.proofs.idle_all.Goals as goal

all-idle : (out : List ℕ) (n : ℕ) → out ≡ replicate n 255 → length out ≡ n → (i : ℕ) → get_or out i 255 ≡ 255
all-idle out n e l i = go (dec_lt i n)
  where
    go : Dec (i < n) → get_or out i 255 ≡ 255
    go (yes h) = ap (λ (o : List ℕ). get_or o i 255) e ∙ get_or-replicate n i 255 255 h
    go (no h) = get_or-eq_default out 255 (omega arith)

pub returns : goal.returns
returns c = all-idle _ _ (c.fill.ensures.after (λ y e. e)) c.fill.ensures.len
