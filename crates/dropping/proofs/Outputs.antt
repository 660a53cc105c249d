-- Each output told by itself tells of all; and the check of a setting fails or holds for range and repeats at once, so with the range known it tells of the repeats alone.
use mathlib.Core.Path.{◌≡◌, refl, sym, ◌∙◌}
use mathlib.Core.Bool.{Bool, true, false, ◌&&◌}
use mathlib.Core.Bool.{true≢false}
use mathlib.Core.Logic.{dite, ◌⊎◌, inl, inr, ⊎_elim, ◌↔◌}
use mathlib.Core.List.{List}
use Prim.Native.Nat.{ℕ, ◌<◌, ◌≤◌}
use native.Mathlib.Decide.{ℕ_discrete, dec_lt}
use native.Mathlib.Omega.{arith}
use lib.ListN.{length, get_or, take}
use lib.Seq.{length-take-le}
use Rattle.std.proofs.lemmas.List.{get_or-take}
use Rattle.std.specs.List.{EachIndex}
use Rattle.records.proofs.Every.{all-intro, all-at}
use Rattle.records.proofs.Fine.{inside-below, inside-idle, inside-fails}
use Rattle.records.specs.Record.{all, inside, new, later, outputs_fine}
use Rattle.rescue_rule.specs.Reason.{outputs_reason}
use Rattle.rescue_rule.proofs.Reason.{outputs-twice, outputs-past}

-- an output's test, in the words of the library
abbrev pub Each : (N : ℕ) (o : List ℕ) → Type 0
Each N o = EachIndex (take N o) (λ k. (get_or (take N o) k 0 < N) ⊎ (get_or (take N o) k 0 ≡ 255))

pub each-told : (N : ℕ) (o : List ℕ) → N ≤ length o → (r : Bool) → (r ≡ true ↔ Each N o) → r ≡ all N (inside N o)
each-told N o l r h = by r (all N (inside N o)) h refl
  where
    at : (k : ℕ) → k < N → get_or (take N o) k 0 ≡ get_or o k 0
    at k b = get_or-take N o k 0 b

    long : length (take N o) ≡ N
    long = length-take-le N o l

    inwards : Each N o → all N (inside N o) ≡ true
    inwards e = all-intro N (inside N o) (λ k b. ⊎_elim (λ x. inside-below N o k (omega (arith, at k b))) (λ x. inside-idle N o k (sym (at k b) ∙ x)) (e k (omega (arith, long))))

    outwards : all N (inside N o) ≡ true → Each N o
    outwards a k b =
        let b' : k < N = omega (arith, long) in
        dite (dec_lt (get_or (take N o) k 0) N) (λ y. inl y)
        (λ g. dite (ℕ_discrete (get_or (take N o) k 0) 255) (λ q. inr q)
        (λ ne. absurd (true≢false (sym (all-at N (inside N o) a k b') ∙ inside-fails N o k (omega (arith, g, at k b')) (λ q. ne (at k b' ∙ q))))))

    by : (r a : Bool) → (r ≡ true ↔ Each N o) → all N (inside N o) ≡ a → r ≡ all N (inside N o)
    by true a h q = sym (inwards (h.0 refl))
    by false true h q = h.1 (outwards q) ∙ sym q
    by false false h q = sym q

module _ (W N : ℕ) (o : List ℕ) (r : all N (inside N o) ≡ true) where
  pub twice-first : (all N (inside N o) && all N (new o)) ≡ false → outputs_reason W N o ≡ 5
  twice-first q = let z : all N (new o) ≡ false = rw r at q in outputs-twice W N o r z

  pub past_first : (all N (inside N o) && all N (new o)) ≡ true → outputs_fine W N o ≡ false → outputs_reason W N o ≡ 6
  unfolding outputs_fine
  past_first q f =
      let z : all N (new o) ≡ true = rw r at q in
      let w : all W (later N o) ≡ false = rw (r, z) at f in
      outputs-past W N o r z w
