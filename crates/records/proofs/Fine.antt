-- The tests of a record one by one, and the outputs that the check has seen: just those of the inputs passed.
use mathlib.Core.Path.{◌≡◌, refl, sym, ap, ap₂, ◌∙◌}
use mathlib.Core.Bool.{Bool, true, false, not, ◌&&◌, ◌||◌, and-false, and-true, or-true, or-false}
use mathlib.Core.Logic.{dite}
use mathlib.Core.List.{List}
use Prim.Native.Nat.{ℕ, zero, suc, ◌+◌, ◌<◌, ◌≤◌}
use native.Mathlib.Decide.{ℕ_discrete}
use native.Mathlib.Omega.{arith}
use lib.Dec.{ltb, eqb}
use lib.ListN.{length, get_or, set, replicate, length-set, length-replicate}
use lib.Seq.{get_or-set_same, get_or-set_other}
use borrow.Author.Tests.{lt-ltb, le-ltb, eq-eqb, ne_eqb}
use Rattle.records.specs.Record.{all, any, hold, outputs, idle, inside, new, later, outputs_fine, well_formed}
use Rattle.apart.specs.Fine.{Fine}
use Rattle.records.proofs.Every.{all-intro, all-step, any-more, any_none}

-- the output of input i
module _ (N : ℕ) (o : List ℕ) (i : ℕ) where
  pub later-holds : get_or o i 0 ≡ 255 → later N o i ≡ true
  unfolding later
  later-holds e = rw (eq-eqb _ _ e, or-true)

  pub later-early : i < N → later N o i ≡ true
  unfolding later
  later-early l = rw (lt-ltb _ _ l)

  pub later-fails : N ≤ i → (get_or o i 0 ≡ 255 → ⊥) → later N o i ≡ false
  unfolding later
  later-fails l ne = rw (le-ltb _ _ l, ne_eqb _ _ ne)

  pub inside-below : get_or o i 0 < N → inside N o i ≡ true
  unfolding inside
  inside-below l = rw (lt-ltb _ _ l)

  pub inside-idle : get_or o i 0 ≡ 255 → inside N o i ≡ true
  unfolding inside
  inside-idle e = rw (eq-eqb _ _ e, or-true)

  pub inside-fails : N ≤ get_or o i 0 → (get_or o i 0 ≡ 255 → ⊥) → inside N o i ≡ false
  unfolding inside
  inside-fails l ne = rw (le-ltb _ _ l, ne_eqb _ _ ne)

-- an input before i has output v
abbrev pub earlier : List ℕ → ℕ → ℕ → Bool
earlier o i v = any i (λ j. eqb (get_or o j 0) v)

module _ (o : List ℕ) (i : ℕ) where
  pub new-idle : get_or o i 0 ≡ 255 → new o i ≡ true
  unfolding new
  new-idle e = rw (eq-eqb _ _ e)

  pub new-first : earlier o i (get_or o i 0) ≡ false → new o i ≡ true
  unfolding new
  new-first f = rw (f, or-true)

  pub new-fails : (get_or o i 0 ≡ 255 → ⊥) → earlier o i (get_or o i 0) ≡ true → new o i ≡ false
  unfolding new
  new-fails ne f = rw (ne_eqb _ _ ne, f)

-- the outputs below N that the first i inputs have, as a test for each byte
pub record Seen (N : ℕ) (o : List ℕ) (i : ℕ) (s : List Bool) : Type 0 where
  pub size : length s ≡ 256
  pub is : (v : ℕ) → get_or s v false ≡ (ltb v N && earlier o i v)

get_or-none : (n v : ℕ) → get_or (replicate n false) v false ≡ false
get_or-none zero v = refl
get_or-none (suc n) zero = refl
get_or-none (suc n) (suc v) = get_or-none n v

pub seen_none : (N : ℕ) (o : List ℕ) → Seen N o 0 (replicate 256 false)
unfolding any
seen_none N o = record { size = length-replicate 256 false; is = λ v. get_or-none 256 v ∙ sym (and-false (ltb v N)) }

-- a byte is fine where it is a port that no earlier input has, or idle
one_of : (port idles before : Bool) → ((port && not (port && before)) || idles) ≡ ((port || idles) && (idles || not before))
one_of true true before = or-true (not before)
one_of true false before = or-false (not before)
one_of false true before = refl
one_of false false before = refl

both : (a b c d : Bool) → ((a && b) && (c && d)) ≡ ((a && c) && (b && d))
both true true c d = refl
both true false c d = sym (and-false c)
both false b c d = refl

module _ (N : ℕ) (o : List ℕ) (i v : ℕ) (e : v ≡ get_or o i 0) (s : List Bool) (seen : Seen N o i s) where
  pub seen_more : v < 256 → Seen N o (i + 1) (set s v (ltb v N))
  seen_more l = record { size = rw length-set seen.size; is = λ w. dite (ℕ_discrete w v) (same w) (other w) }
    where
      same : (w : ℕ) → w ≡ v → get_or (set s v (ltb v N)) w false ≡ (ltb w N && earlier o (i + 1) w)
      same w q = rw (q, get_or-set_same s v (ltb v N) false (omega (arith, seen.size)), any-more, eq-eqb (get_or o i 0) v (sym e), or-true, and-true)

      other : (w : ℕ) → (w ≡ v → ⊥) → get_or (set s v (ltb v N)) w false ≡ (ltb w N && earlier o (i + 1) w)
      other w ne = rw (get_or-set_other s v w (ltb v N) false ne, any-more, ne_eqb (get_or o i 0) w (λ q. ne (sym (e ∙ q))), or-false) (seen.is w)

  -- what the loop asks of a byte is what is asked of an output
  judged : ((ltb v N && not (get_or s v false)) || idle o i) ≡ (inside N o i && new o i)
  unfolding inside new
  judged =
      ap (λ (t : Bool). (ltb v N && not t) || idle o i) (seen.is v)
      ∙ one_of (ltb v N) (idle o i) (earlier o i v)
      ∙ ap (λ (x : ℕ). (ltb x N || idle o i) && (idle o i || not (earlier o i x))) e

  pub fine_more : (fine : Bool) → fine ≡ (all i (inside N o) && all i (new o))
      → (fine && ((ltb v N && not (get_or s v false)) || idle o i)) ≡ (all (i + 1) (inside N o) && all (i + 1) (new o))
  fine_more fine q =
      ap₂ ◌&&◌ q judged ∙ both (all i (inside N o)) (all i (new o)) (inside N o i) (new o i) ∙ sym (ap₂ ◌&&◌ (all-step i (inside N o)) (all-step i (new o)))

-- outputs that are told to be fine are so
pub told : (N : ℕ) (o : List ℕ) → Fine N o → (all N (inside N o) && all N (new o)) ≡ true
told N o f = rw (all-intro N (inside N o) (λ i l. in-range i l (ℕ_discrete (get_or o i 0) 255)), all-intro N (new o) (λ i l. first i l (ℕ_discrete (get_or o i 0) 255)))
  where
    in-range : (i : ℕ) → i < N → Dec (get_or o i 0 ≡ 255) → inside N o i ≡ true
    in-range i l (yes e) = inside-idle N o i e
    in-range i l (no ne) = inside-below N o i (f.ports i l ne)

    first : (i : ℕ) → i < N → Dec (get_or o i 0 ≡ 255) → new o i ≡ true
    first i l (yes e) = new-idle o i e
    first i l (no ne) = new-first o i (any_none i _ (λ j g. ne_eqb (get_or o j 0) (get_or o i 0) (f.apart i j l g ne)))

-- an output from N on is fine where it is idle
pub later_more : (N : ℕ) (o : List ℕ) (i : ℕ) → N ≤ i → (idles : Bool) → idles ≡ all i (later N o) → (idles && idle o i) ≡ all (i + 1) (later N o)
unfolding later
later_more N o i l idles q = ap₂ ◌&&◌ q (let past : idle o i ≡ (ltb i N || idle o i) = rw (le-ltb i N l) in past) ∙ sym (all-step i (later N o))

-- the outputs from N on decide, where the first N are fine
module _ (W N : ℕ) (o : List ℕ) where
  pub outputs-bad : (all N (inside N o) && all N (new o)) ≡ false → outputs_fine W N o ≡ false
  unfolding outputs_fine
  outputs-bad e = rw e

  pub later-decide : (all N (inside N o) && all N (new o)) ≡ true → outputs_fine W N o ≡ all W (later N o)
  unfolding outputs_fine
  later-decide e = rw e

-- the tests of a record in the order in which the check makes them
module _ (W e N : ℕ) (b : List ℕ) where
  pub no-hold : hold b ≡ 0 → well_formed W e N b ≡ false
  unfolding well_formed
  no-hold q = rw (le-ltb 0 (hold b) (omega arith))

  pub bad-ports : (get_or b 2 0 ≡ N → ⊥) → well_formed W e N b ≡ false
  unfolding well_formed
  bad-ports q = simp (ne_eqb _ _ q, and-false)

  pub bad-edition : (get_or b 3 0 ≡ e → ⊥) → well_formed W e N b ≡ false
  unfolding well_formed
  bad-edition q = simp (ne_eqb _ _ q, and-false)

  pub outputs-decide : (hold b ≡ 0 → ⊥) → get_or b 2 0 ≡ N → get_or b 3 0 ≡ e → well_formed W e N b ≡ outputs_fine W N (outputs b)
  unfolding well_formed
  outputs-decide h p s = rw (lt-ltb 0 (hold b) (omega arith), eq-eqb _ _ p, eq-eqb _ _ s)
