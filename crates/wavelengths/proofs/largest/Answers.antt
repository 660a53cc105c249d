-- The largest is one of them, and none is above it.
use mathlib.Core.Path.{◌≡◌, ◌∙◌}
use Prim.Native.Nat.{ℕ, ◌≤◌, ◌<◌}
use lib.ListN.{length, get_or}
use Rattle.std.proofs.Common.{rules}
use Rattle.std.specs.Option.{MatchOption}
use Rattle.wavelengths.proofs.Shared.{largest-most}
use Rattle.wavelengths.proofs.largest.Goals as goal

pub returns : goal.returns
returns c =
    let s = c.args.numbers.now in
    let no_more : MatchOption c.max.result (length s ≡ 0) (λ m. (k : ℕ) → k < length s → get_or s k 0 ≤ m) = search rules in
    let one : MatchOption c.max.result (length s ≡ 0) (λ m. (k : ℕ) × (k < length s) × (get_or s k 0 ≡ m)) = search rules in
    c.unwrap_or.ensures ∙ largest-most (length s) (λ k. get_or s k 0) c.max.result no_more one
