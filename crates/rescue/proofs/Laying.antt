-- Laying the kept records one after the other: record k is laid behind those kept before it, or nothing is.
use mathlib.Core.Path.{◌≡◌, sym, ap, ap₂, ◌∙◌}
use mathlib.Core.Bool.{Bool, true, false, not, cond}
use mathlib.Core.List.{List, [], ◌∷◌, ◌++◌, append-nil}
use Prim.Native.Nat.{ℕ, ◌+◌, ◌-◌, ◌<◌, ◌≤◌}
use native.Mathlib.Omega.{arith}
use lib.ListN.{length}
use borrow.Author.Tests.{not-true, not-false}
use Rattle.switch.specs.declared.Edition.{Edition}
use Rattle.records.specs.Record.{hold, outputs, decoded, well_formed}
use Rattle.records.specs.Bytes.{encode, record_at, bytes, laid}
use Rattle.records.proofs.Bytes.{bytes-none, bytes-more, bytes-append, encode-size}
use Rattle.records.proofs.Laid.{laid_none}
use Rattle.plans.specs.Reading.{Readable}
use Rattle.rescue_rule.specs.Rescue.{fine, kept_to, kept_at}
use Rattle.rescue_rule.proofs.Those.{those-none, those-next}
use Rattle.rescue_rule.proofs.Read.{read-size, same, part, part-outputs, part-size}

module _ (W e N : ℕ) (plan : List ℕ) where
  pub no_bytes : bytes e N (kept_to W e N plan 0) ≡ []
  no_bytes = ap (bytes e N) (those-none (fine W e N plan) (λ k. decoded (record_at W plan k))) ∙ bytes-none e N

  -- where record k is not kept, nothing is laid
  pub at_none : (k : ℕ) → fine W e N plan k ≡ false → bytes e N (kept_at W e N plan k) ≡ []
  unfolding kept_at
  at_none k f = rw f (bytes-none e N)

  -- and where it is, its bytes
  pub at_one : (k : ℕ) → fine W e N plan k ≡ true → bytes e N (kept_at W e N plan k) ≡ encode e (hold (record_at W plan k)) N (outputs (record_at W plan k))
  unfolding kept_at
  at_one k f = rw f (bytes-more e N (decoded (record_at W plan k)) [] ∙ ap (λ (t : List ℕ). encode e (hold (record_at W plan k)) N (outputs (record_at W plan k)) ++ t) (bytes-none e N)
      ∙ append-nil (encode e (hold (record_at W plan k)) N (outputs (record_at W plan k))))

  -- the bytes of one record more
  pub next-bytes : (k : ℕ) → bytes e N (kept_to W e N plan (k + 1)) ≡ bytes e N (kept_to W e N plan k) ++ bytes e N (kept_at W e N plan k)
  unfolding kept_at
  next-bytes k = ap (bytes e N) (those-next (fine W e N plan) (λ k. decoded (record_at W plan k)) k) ∙ bytes-append e N (kept_to W e N plan k) (cond (fine W e N plan k) (decoded (record_at W plan k) ∷ []) [])

-- ---- record k, as it is read

module _ (E : Edition) (N : ℕ) (plan : List ℕ) (m : ℕ) (r : Readable E N plan m) (k : ℕ) (l : k < m) (b : List ℕ) (is : b ≡ record_at E.width plan k)
    (found : Bool) (tells : found ≡ well_formed (length b - 4) E.byte N b) where
  abbrev piece : List ℕ
  piece = bytes E.byte N (kept_at E.width E.byte N plan k)

  told : {c : Bool} → found ≡ c → fine E.width E.byte N plan k ≡ c
  told f = sym (same E N plan m r k l b is) ∙ sym tells ∙ f

  -- not well formed
  pub lay-skip : not found ≡ true → (d : List ℕ) (next : ℕ) → (next ≡ next + length piece) × (d ≡ laid d next piece)
  lay-skip n d next =
      let z = at_none E.width E.byte N plan k (told (not-true found n)) in
      (omega (arith, ap length z), sym (ap (laid d next) z ∙ laid_none d next))

  pub read-long : 4 ≤ length b
  read-long = omega (arith, read-size E N plan m r k l b is)

  -- well formed, with the hold h
  module _ (n : not found ≡ false) (h : ℕ) (q : h ≡ hold b) where
    pub lay-is : encode E.byte h N (part b read-long) ≡ piece
    lay-is =
        ap₂ (λ (x : ℕ) (o : List ℕ). encode E.byte x N o) q (part-outputs b read-long)
        ∙ ap (λ (x : List ℕ). encode E.byte (hold x) N (outputs x)) is
        ∙ sym (at_one E.width E.byte N plan k (told (not-false found n)))

    pub lay-size : length piece ≡ E.width + 4
    lay-size = sym (ap length lay-is) ∙ encode-size E.byte h N E.width (part b read-long) (omega (arith, part-size b read-long, read-size E N plan m r k l b is))
