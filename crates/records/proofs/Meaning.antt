-- What `well_formed` computes is what §5.2 says in plain statements, both ways: each test is told by its own statement.
use mathlib.Core.Path.{◌≡◌, refl, sym, ◌∙◌}
use mathlib.Core.Bool.{true, not, ◌&&◌}
use mathlib.Core.Logic.{⊎_elim, dite, ◌⊎◌, inl, inr}
use mathlib.Core.List.{List, [], ◌∷◌}
use Prim.Native.Nat.{ℕ, zero, suc, ◌+◌, ◌<◌, ◌≤◌}
use native.Mathlib.Nat.{le_of_suc-le-suc, not-suc-le-zero}
use native.Mathlib.Decide.{dec_lt}
use native.Mathlib.Omega.{arith}
use lib.Dec.{eqb, ltb}
use lib.ListN.{length, get_or, length-drop}
use lib.Seq.{get_or-drop}
use borrow.Author.Tests.{le-ltb, ne_eqb, ltb-true, eqb-true, eqb-false, not-true}
use Rattle.switch.specs.Plan.{Record, output}
use Rattle.switch.specs.Sound.{Sound}
use Rattle.records.specs.Record.{all, hold, outputs, inside, new, later, outputs_fine, well_formed, decoded, WellFormed}
use Rattle.records.specs.Bytes.{encode}
use Rattle.records.proofs.Every.{and_l, and_r, all-intro, all-at, any_none, any_at}
use Rattle.records.proofs.Write.{encode-fine}
use Rattle.records.proofs.Fine.{later-holds, later-early, inside-below, inside-idle, earlier, new-idle, new-first, outputs-decide}

-- inside a list it does not matter what is read past its end
get_or-inside : (l : List ℕ) (i a b : ℕ) → i < length l → get_or l i a ≡ get_or l i b
get_or-inside [] i a b h = absurd (not-suc-le-zero h)
get_or-inside (x ∷ l) zero a b h = refl
get_or-inside (x ∷ l) (suc i) a b h = get_or-inside l i a b (le_of_suc-le-suc h)

-- the output of input i stands i bytes behind the head of four
pub output-byte : (b : List ℕ) (i : ℕ) → i + 4 < length b → output (decoded b) i ≡ get_or b (4 + i) 0
unfolding output
output-byte b i l = get_or-drop 4 b i 255 ∙ get_or-inside b (4 + i) 255 0 (omega arith)

-- what each test says
module _ (N : ℕ) (o : List ℕ) (i : ℕ) where
  inside-says : inside N o i ≡ true → (get_or o i 0 < N) ⊎ (get_or o i 0 ≡ 255)
  unfolding inside
  inside-says e = dite (dec_lt (get_or o i 0) N) (λ l. inl l) (λ g. inr (eqb-true _ _ (rw (le-ltb (get_or o i 0) N (omega (arith, g))) at e)))

  new-says : new o i ≡ true → (get_or o i 0 ≡ 255 → ⊥) → (j : ℕ) → j < i → get_or o j 0 ≡ get_or o i 0 → ⊥
  unfolding new
  new-says e ne j l =
      let f : not (earlier o i (get_or o i 0)) ≡ true = rw (ne_eqb _ _ ne) at e in
      eqb-false _ _ (any_at i (λ k. eqb (get_or o k 0) (get_or o i 0)) (not-true _ f) j l)

  later-says : N ≤ i → later N o i ≡ true → get_or o i 0 ≡ 255
  unfolding later
  later-says l e = eqb-true _ _ (rw (le-ltb _ _ l) at e)

-- an output below N that is nowhere new twice has one input
once-of : (N : ℕ) (o : List ℕ) → N ≤ 255 → ((i : ℕ) → i < N → new o i ≡ true) → (i k : ℕ) → i < N → k < N → get_or o i 0 < N → get_or o i 0 ≡ get_or o k 0 → i ≡ k
once-of N o small once i k li lk b q =
    dite (dec_lt i k) (λ l. absurd (new-says N o k (once k lk) (λ z. omega arith) i l q))
    (λ g. dite (dec_lt k i) (λ l. absurd (new-says N o i (once i li) (λ z. omega arith) k l (sym q))) (λ h. omega (arith, g, h)))

-- the outputs of a record r, of which there are W
module _ (W N : ℕ) (r : Record) (size : length r.outputs ≡ W) (few : N ≤ W) (small : N ≤ 255) where
  at : (i : ℕ) → i < W → output r i ≡ get_or r.outputs i 0
  unfolding output
  at i l = get_or-inside r.outputs i 255 0 (omega arith)

  pub sound-of : 0 < r.hold → outputs_fine W N r.outputs ≡ true → Sound W N r
  unfolding outputs_fine
  sound-of held e =
      let o = r.outputs in
      let first = and_l (all N (inside N o) && all N (new o)) (all W (later N o)) e in
      let in-range : (i : ℕ) → i < N → inside N o i ≡ true = all-at N (inside N o) (and_l (all N (inside N o)) (all N (new o)) first) in
      let once : (i : ℕ) → i < N → new o i ≡ true = all-at N (new o) (and_r (all N (inside N o)) (all N (new o)) first) in
      let past : (i : ℕ) → i < W → later N o i ≡ true = all-at W (later N o) (and_r (all N (inside N o) && all N (new o)) (all W (later N o)) e) in
      record {
        held = held;
        size = size;
        inside = λ i l. rw (at i (omega arith)) (inside-says N o i (in-range i l));
        setting = record { once = λ i k li lk b q. once-of N o small once i k li lk (omega (arith, at i (omega arith))) (sym (at i (omega arith)) ∙ q ∙ at k (omega arith)) };
        later = λ i n l. at i l ∙ later-says N o i n (past i l);
      }

  new-of : Sound W N r → (i : ℕ) → i < N → new r.outputs i ≡ true
  new-of s i l =
      ⊎_elim
      (λ b. new-first r.outputs i (any_none i _ (λ j ji. ne_eqb _ _ (λ q.
      let same : output r j ≡ output r i = at j (omega arith) ∙ q ∙ sym (at i (omega arith)) in
      let k : j ≡ i = s.setting.once j i (omega arith) l (omega arith) same in omega arith))))
      (λ q. new-idle r.outputs i (sym (at i (omega arith)) ∙ q))
      (s.inside i l)

  pub fine_of : Sound W N r → outputs_fine W N r.outputs ≡ true
  unfolding outputs_fine
  fine_of s =
      rw (
        all-intro N (inside N r.outputs) (λ i l. ⊎_elim (λ b. inside-below N r.outputs i (omega (arith, at i (omega arith)))) (λ q. inside-idle N r.outputs i (sym (at i (omega arith)) ∙ q)) (s.inside i l)),
        all-intro N (new r.outputs) (new-of s),
        all-intro W (later N r.outputs) (λ i l. dite (dec_lt i N) (λ b. later-early N r.outputs i b) (λ g. later-holds N r.outputs i (sym (at i l) ∙ s.later i (omega (arith, g)) l))),
      )

-- a record's bytes
module _ (W e N : ℕ) (b : List ℕ) (size : length b ≡ W + 4) (few : N ≤ W) (small : N ≤ 255) where
  width : length (outputs b) ≡ W
  width = rw length-drop (omega arith)

  pub means : well_formed W e N b ≡ true → WellFormed W e N b
  unfolding well_formed
  means f =
      let f₃ = and_l (ltb 0 (hold b) && eqb (get_or b 2 0) N && eqb (get_or b 3 0) e) (outputs_fine W N (outputs b)) f in
      let f₂ = and_l (ltb 0 (hold b) && eqb (get_or b 2 0) N) (eqb (get_or b 3 0) e) f₃ in
      record {
        ports = eqb-true _ _ (and_r (ltb 0 (hold b)) (eqb (get_or b 2 0) N) f₂);
        edition = eqb-true _ _ (and_r (ltb 0 (hold b) && eqb (get_or b 2 0) N) (eqb (get_or b 3 0) e) f₃);
        sound = sound-of W N (decoded b) width few small (ltb-true _ _ (and_l (ltb 0 (hold b)) (eqb (get_or b 2 0) N) f₂))
            (and_r (ltb 0 (hold b) && eqb (get_or b 2 0) N && eqb (get_or b 3 0) e) (outputs_fine W N (outputs b)) f);
      }

  pub meant : WellFormed W e N b → well_formed W e N b ≡ true
  meant w = outputs-decide W e N b (λ z. omega (arith, w.sound.held)) w.ports w.edition ∙ fine_of W N (decoded b) width few small w.sound

-- the bytes of a sound record are well formed
pub encode-sound : (W e N : ℕ) (r : Record) → N ≤ W → N ≤ 255 → Sound W N r → well_formed W e N (encode e r.hold N r.outputs) ≡ true
encode-sound W e N r few small s =
    encode-fine W e r.hold N r.outputs (λ z. omega (arith, s.held)) ∙ fine_of W N r s.size few small s
