-- The four bytes of an entry in the place of those that were there.
use mathlib.Core.Path.{◌≡◌, ap, ap₂, ◌∙◌}
use mathlib.Core.List.{List, [], ◌∷◌}
use Prim.Native.Nat.{ℕ, ◌+◌, ◌-◌, ◌/◌, ◌%◌}
use native.Mathlib.Omega.{arith}
use lib.ListN.{get_or}
use Rattle.rescue_rule.specs.Rescue.{entry_bytes}
use Rattle.dropping.proofs.Listing.{entry-laid}
use Rattle.dropping.proofs.put_entry.Goals as goal

pub returns : goal.returns
unfolding entry_bytes
returns c =
    let k = c.args.k in
    let high : k / 256 % 256 ≡ k / 256 = omega (arith, c.requires.0) in
    let size : c.args.at + 4 - c.args.at ≡ 4 = omega arith in
    let is = c.copy_from_slice.ensures.after ∙ ap (λ (b : List ℕ). get_or b 0 0 ∷ get_or b 1 0 ∷ c.number.result ∷ 0 ∷ []) c.to_le_bytes.ensures
    ∙ ap₂ (λ (x y : ℕ). k % 256 ∷ x ∷ y ∷ 0 ∷ []) high c.number.ensures in
    entry-laid _ _ _ _ _ size is
