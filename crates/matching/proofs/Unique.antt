-- The contract of the next setting determines both tables: the first setting is the only one, and who holds an output is told by it.
use mathlib.Core.Path.{◌≡◌, refl, sym, subst, ◌∙◌}
use mathlib.Core.List.{List}
use Prim.Native.Nat.{ℕ, zero, suc, ◌<◌}
use native.Mathlib.Decide.{dec_lt}
use native.Mathlib.Numerals.{add-one}
use native.Mathlib.Omega.{arith}
use lib.ListN.{get_or}
use lib.Seq.{ext_get_or}
use Rattle.rules.proofs.First.{first-unique}
use Rattle.search.specs.Tables.{Held, joined}
use Rattle.matching.specs.Chosen.{Chosen}

module _ (w n : ℕ) (E : ℕ → ℕ → Type 0) (out : List ℕ) where
  same-setting : (b o b' o' : List ℕ) → Chosen w n E out b o → Chosen w n E out b' o' → (i : ℕ) → joined o i ≡ joined o' i
  same-setting b o b' o' c d i = go (dec_lt i n)
    where
      go : Dec (i < n) → joined o i ≡ joined o' i
      go (yes l) = first-unique n E (joined o) (joined o') c.first d.first n (omega arith) i l
      go (no l) = c.beyond i (omega arith) ∙ sym (d.beyond i (omega arith))

  same-holder : (b o b' o' : List ℕ) → Chosen w n E out b o → Chosen w n E out b' o' → (j i : ℕ) → Held b j i → Held b' j i
  same-holder b o b' o' c d j i h =
      let e : joined o' i ≡ j = sym (same-setting b o b' o' c d i) ∙ c.good.paired j i h in
      subst (λ (k : ℕ). Held b' k i) e (d.held i (c.good.port j i h))

  -- any two results are equal
  pub chosen-unique : (b o b' o' : List ℕ) → Chosen w n E out b o → Chosen w n E out b' o' → (b ≡ b') × (o ≡ o')
  chosen-unique b o b' o' c d = (
    ext_get_or 0 b b' (c.good.holders ∙ sym d.good.holders) (λ j l. holder (get_or b j 0) (get_or b' j 0) j refl refl),
    ext_get_or 255 o o' (c.good.outputs ∙ sym d.good.outputs) (λ i l. same-setting b o b' o' c d i),
  )
    where
      holder : (v v' j : ℕ) → get_or b j 0 ≡ v → get_or b' j 0 ≡ v' → get_or b j 0 ≡ get_or b' j 0
      holder zero zero j e f = e ∙ sym f
      holder (suc i) v' j e f = e ∙ sym (add-one i) ∙ sym (same-holder b o b' o' c d j i (e ∙ sym (add-one i)))
      holder zero (suc i) j e f = same-holder b' o' b o d c j i (f ∙ sym (add-one i)) ∙ add-one i ∙ sym f
