-- A sum in pieces: records of 65,535 and what is left, so their number, total and grants are those of the sum, by counting the records of 65,535.
use mathlib.Core.Path.{◌≡◌, refl, sym, ap, ap₂, ◌∙◌}
use mathlib.Core.List.{List, [], ◌∷◌, ◌++◌}
use Prim.Native.Nat.{ℕ, zero, suc, ◌+◌, ◌*◌, ◌-◌, ◌/◌, ◌%◌, ◌<◌, ◌≤◌, min}
use native.Mathlib.Nat.{add-mul}
use native.Mathlib.Decide.{dec_lt}
use native.Mathlib.Omega.{arith}
use lib.ListN.{length, replicate, length-append, length-replicate}
use Rattle.counting.specs.Count.{δ}
use Rattle.switch.specs.Plan.{Record, output, grant, total}
use Rattle.switch.proofs.Append.{total-append, grant-append}
use Rattle.switch.specs.Sound.{Each, none, more}
use Rattle.joining.specs.Join.{held, rest, pieces, cut}

-- ---- the next piece

module _ (o : List ℕ) where
  pub pieces_none : pieces 0 o ≡ []
  unfolding pieces rest
  pieces_none = refl

  piece-last : (h : ℕ) → 0 < h → h < 65535 → pieces h o ≡ held h o ∷ []
  unfolding pieces rest
  piece-last h l s =
      let q : h / 65535 ≡ 0 = omega arith in
      let r : h % 65535 ≡ suc (h - 1) = omega arith in
      let e : suc (h - 1) ≡ h = omega arith in
      rw (q, r, e)

  piece-full : (h : ℕ) → 65535 ≤ h → pieces h o ≡ held 65535 o ∷ pieces (h - 65535) o
  unfolding pieces
  piece-full h l =
      let q : h / 65535 ≡ suc ((h - 65535) / 65535) = omega arith in
      let r : h % 65535 ≡ (h - 65535) % 65535 = omega arith in
      rw (q, r)

  -- the smaller of 65,535 and what is left of the sum comes first
  pub pieces_more : (h : ℕ) → 0 < h → pieces h o ≡ held (min h 65535) o ∷ pieces (h - min h 65535) o
  pieces_more h l = by (dec_lt h 65535)
    where
      by : Dec (h < 65535) → pieces h o ≡ held (min h 65535) o ∷ pieces (h - min h 65535) o
      by (yes s) =
          let m : h ≡ min h 65535 = omega arith in
          let z : 0 ≡ h - min h 65535 = omega arith in
          piece-last h l s ∙ ap₂ (λ (x : ℕ) (q : List Record). held x o ∷ q) m (sym pieces_none ∙ ap (λ (x : ℕ). pieces x o) z)
      by (no s) =
          let m : 65535 ≡ min h 65535 = omega (arith, s) in
          piece-full h (omega (arith, s)) ∙ ap (λ (x : ℕ). held x o ∷ pieces (h - x) o) m

  -- as the code takes it
  pub next-piece : (left : ℕ) → 0 < left → (h : ℕ) → h ≡ min left 65535 → pieces left o ≡ held h o ∷ pieces (left - h) o
  next-piece left l h e = pieces_more left l ∙ ap (λ (x : ℕ). held x o ∷ pieces (left - x) o) (sym e)

  rest-length : (h : ℕ) → length (rest h o) ≡ min h 1
  unfolding rest
  rest-length zero = refl
  rest-length (suc h) = omega arith

  pub pieces-length : (h : ℕ) → length (pieces h o) ≡ (h + 65534) / 65535
  unfolding pieces
  pieces-length h =
      omega (arith, length-append (replicate (h / 65535) (held 65535 o)) (rest (h % 65535) o), length-replicate (h / 65535) (held 65535 o), rest-length (h % 65535))

  -- ---- total and grants

  rest-total : (h : ℕ) → total (rest h o) ≡ h
  unfolding rest total
  rest-total zero = refl
  rest-total (suc h) = omega arith

  full-total : (n : ℕ) → total (replicate n (held 65535 o)) ≡ 65535 * n
  unfolding total
  full-total zero = refl
  full-total (suc n) = omega (arith, full-total n)

  pub pieces-total : (h : ℕ) → total (pieces h o) ≡ h
  unfolding pieces
  pieces-total h = omega (arith, total-append (replicate (h / 65535) (held 65535 o)) (rest (h % 65535) o), full-total (h / 65535), rest-total (h % 65535))

  module _ (i j : ℕ) where
    -- the pair's share of a hold
    abbrev share : ℕ
    share = δ (output (held 0 o) i) j

    rest-grant : (h : ℕ) → grant (rest h o) i j ≡ h * share
    unfolding rest grant output
    rest-grant zero = omega arith
    rest-grant (suc h) = omega arith

    full-grant : (n : ℕ) → grant (replicate n (held 65535 o)) i j ≡ 65535 * n * share
    unfolding grant output
    full-grant zero = omega arith
    full-grant (suc n) = omega (arith, full-grant n, add-mul 65535 (65535 * n) share, ap (λ (x : ℕ). x * share) (let e : 65535 * suc n ≡ 65535 + 65535 * n = omega arith in e))

    pieces-grant : (h : ℕ) → grant (pieces h o) i j ≡ h * share
    unfolding pieces
    pieces-grant h =
        omega (
          arith,
          grant-append (replicate (h / 65535) (held 65535 o)) (rest (h % 65535) o) i j,
          full-grant (h / 65535),
          rest-grant (h % 65535),
          add-mul (65535 * (h / 65535)) (h % 65535) share,
          ap (λ (x : ℕ). x * share) (let e : 65535 * (h / 65535) + h % 65535 ≡ h = omega arith in e),
        )

  -- ---- what holds of every piece

  module _ (P : Record → Type 0) (fits : (h : ℕ) → 0 < h → h ≤ 65535 → P (held h o)) where
    rest-each : (h : ℕ) → h ≤ 65535 → Each P (rest h o)
    unfolding rest
    rest-each zero l = none
    rest-each (suc h) l = more (fits (suc h) (omega arith) l) none

    full-each : (n : ℕ) {q : List Record} → Each P q → Each P (replicate n (held 65535 o) ++ q)
    full-each zero t = t
    full-each (suc n) t = more (fits 65535 (omega arith) (omega arith)) (full-each n t)

    pub pieces-each : (h : ℕ) → Each P (pieces h o)
    unfolding pieces
    pieces-each h = full-each (h / 65535) (rest-each (h % 65535) (omega arith))

-- ---- all sums

pub total-cut : (q : List Record) → total (cut q) ≡ total q
unfolding cut total
total-cut [] = refl
total-cut (s ∷ q) = omega (arith, total-append (pieces s.hold s.outputs) (cut q), pieces-total s.outputs s.hold, total-cut q)

pub grant-cut : (q : List Record) (i j : ℕ) → grant (cut q) i j ≡ grant q i j
unfolding cut grant output
grant-cut [] i j = refl
grant-cut (s ∷ q) i j = omega (arith, grant-append (pieces s.hold s.outputs) (cut q) i j, pieces-grant s.outputs i j s.hold, grant-cut q i j)

pub length_cut : (s : Record) (q : List Record) → length (cut (s ∷ q)) ≡ (s.hold + 65534) / 65535 + length (cut q)
unfolding cut
length_cut s q = omega (arith, length-append (pieces s.hold s.outputs) (cut q), pieces-length s.outputs s.hold)

each_append : {P : Record → Type 0} {p q : List Record} → Each P p → Each P q → Each P (p ++ q)
each_append none t = t
each_append (more x s) t = more x (each_append s t)

-- what holds of a record however it is held, from 1 to 65,535, holds of every piece
pub each-cut : (P Q : Record → Type 0) → ((r : Record) (h : ℕ) → Q r → 0 < h → h ≤ 65535 → P (held h r.outputs)) → {q : List Record} → Each Q q → Each P (cut q)
unfolding cut
each-cut P Q f none = none
each-cut P Q f (more {r = r} x t) = each_append (pieces-each r.outputs P (λ h a b. f r h x a b) r.hold) (each-cut P Q f t)
