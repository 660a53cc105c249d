-- Laying records one after the other: what is laid and what is left to lay make up the whole, so that where nothing is left the whole is laid.
use mathlib.Core.Path.{◌≡◌, refl, sym, ap, ◌∙◌}
use mathlib.Core.List.{List, [], ◌∷◌, ◌++◌}
use Prim.Native.Nat.{ℕ, ◌+◌, ◌≤◌}
use native.Mathlib.Omega.{arith}
use lib.ListN.{length, length-append}
use Rattle.switch.specs.Plan.{Record}
use Rattle.records.specs.Bytes.{encode, bytes, laid}
use Rattle.records.proofs.Laid.{length-laid, laid_more, laid_none}
use Rattle.records.proofs.Bytes.{bytes-none, bytes-append, turn-size, turn-room, turn-length, turn-fits, turn-laid}

-- of the records p, to be laid over d₀ from `at` on, q are left; d is what the buffer holds, and `next` the place of the first of q
pub record Laying (e N : ℕ) (d₀ : List ℕ) (at : ℕ) (p : List Record) (d : List ℕ) (next : ℕ) (q : List Record) : Type 0 where
  pub size : length d ≡ length d₀
  pub fits : next + length (bytes e N q) ≤ length d
  pub ends : next + length (bytes e N q) ≡ at + length (bytes e N p)
  pub whole : laid d next (bytes e N q) ≡ laid d₀ at (bytes e N p)

module _ (e N : ℕ) (d₀ : List ℕ) (at : ℕ) (p : List Record) where
  pub laying-none : at + length (bytes e N p) ≤ length d₀ → Laying e N d₀ at p d₀ at p
  laying-none l = record { size = refl; fits = l; ends = refl; whole = refl }

  module _ (d : List ℕ) (next : ℕ) where
    pub laying-end : Laying e N d₀ at p d next [] → (next ≡ at + length (bytes e N p)) × (d ≡ laid d₀ at (bytes e N p))
    laying-end k =
        let z = bytes-none e N in
        (omega (arith, k.ends, ap length z), sym (laid_none d next) ∙ ap (laid d next) (sym z) ∙ k.whole)

    -- one record laid
    module _ (r : Record) (q : List Record) (k : Laying e N d₀ at p d next (r ∷ q)) where
      pub laying-room : next + (length r.outputs + 4) ≤ length d
      laying-room = turn-room e N d next r q k.fits

      pub laying-more : (d' : List ℕ) → d' ≡ laid d next (encode e r.hold N r.outputs) → Laying e N d₀ at p d' (next + (length r.outputs + 4)) q
      laying-more d' w = record {
        size = turn-length e N d next r q k.fits d' w ∙ k.size;
        fits = turn-fits e N d next r q k.fits d' w;
        ends = omega (arith, turn-size e N d next r q k.fits, k.ends);
        whole = turn-laid e N d next r q k.fits d' w ∙ k.whole;
      }

    -- several records laid at once
    module _ (s q : List Record) (k : Laying e N d₀ at p d next (s ++ q)) where
      both : length (bytes e N (s ++ q)) ≡ length (bytes e N s) + length (bytes e N q)
      both = ap length (bytes-append e N s q) ∙ length-append (bytes e N s) (bytes e N q)

      pub laying-room-all : next + length (bytes e N s) ≤ length d
      laying-room-all = omega (arith, both, k.fits)

      pub laying-all : (d' : List ℕ) → d' ≡ laid d next (bytes e N s) → (next' : ℕ) → next' ≡ next + length (bytes e N s) → Laying e N d₀ at p d' next' q
      laying-all d' w next' a =
          let size : length d' ≡ length d = ap length w ∙ length-laid d next (bytes e N s) laying-room-all in
          rw a (record {
            size = size ∙ k.size;
            fits = omega (arith, size, both, k.fits);
            ends = omega (arith, both, k.ends);
            whole = ap (λ (x : List ℕ). laid x (next + length (bytes e N s)) (bytes e N q)) w ∙ laid_more d next (bytes e N s) laying-room-all (bytes e N q)
                ∙ ap (laid d next) (sym (bytes-append e N s q)) ∙ k.whole;
          })
