-- An input's label has the outputs with slots left for it, so its lowest that is neither taken nor full is what the rule gives the input.
use mathlib.Core.Path.{◌≡◌, refl, sym, ap, ◌∙◌, subst}
use mathlib.Core.Logic.{◌≢◌, ◌⊎◌, inl, inr}
use mathlib.Core.Bool.{Bool, true, false}
use mathlib.Core.List.{List}
use Prim.Native.Nat.{ℕ, ◌+◌, ◌-◌, ◌%◌, ◌≤◌, ◌<◌}
use native.Mathlib.Decide.{ℕ_discrete, dec_le}
use native.Mathlib.Nat.{mod-lt}
use native.Mathlib.Omega.{arith}
use lib.ListN.{length, get_or, set, length-set}
use lib.Seq.{get_or-set_same, get_or-set_other}
use lib.Dec.{T, leb}
use borrow.Author.Tests.{eq-eqb, ne_eqb, le-leb, lt-leb}
use Rattle.counting.proofs.Count.{δ-same, δ-other}
use Rattle.labels.specs.Ports.{Outputs}
use Rattle.labels.specs.Rows.{row_of}
use Rattle.sets.specs.declared.Label.{Label}
use Rattle.sets.specs.Label.{digit, In, is_in, Marked, Union, But, LowestAt}
use Rattle.sets.proofs.Digits.{digit_lt}
use Rattle.wavelengths.specs.Shared.{wavelength}
use Rattle.wavelengths.proofs.Shared.{wavelength-leads}
use Rattle.rules.specs.Search.{put}
use Rattle.rules.specs.Quick.{lowest, Slot, seat}
use Rattle.rules.proofs.Ports.{put_same, put_other}
use Rattle.rules.proofs.Slot.{lowest-at, lowest-none, may-yes, may-is}
use Rattle.quiet_rule.specs.Limit.{lit}
use Rattle.quiet_rule.specs.Quiet.{may_within, served, quiet_setting}
use Rattle.quiet_rule.proofs.Limit.{lights-idle, lights-joined, lit-put, lit-le, lit-none}
use Rattle.quiet_rule.proofs.Setting.{within-is, within-yes, served-idle}
use Rattle.quiet_rule.proofs.QuietFrom.{served-zero, served-next}
use Rattle.quiet_setting.specs.declared.Busy.{Busy}
use Rattle.quiet_setting.specs.Choosing.{FirstWord, MarkedIf, Around, asks, Rows, FullFor, Choosing}
use Rattle.quiet_setting.proofs.Turning.{wavelength-next}

-- ---- sets and tests

none_has : (l : ℕ) → ((k : ℕ) → In l k → ⊥) → (j : ℕ) → is_in l j ≡ false
none_has l none j = ne_eqb (digit l j) 1 (none j)

-- where j is marked, it is in the set besides
marked-has : (l j r : ℕ) → Marked l j r → (b : ℕ) → is_in r b ≡ put (is_in l) j true b
marked-has l j r m b = go (ℕ_discrete b j) (ℕ_discrete (digit l b) 1)
  where
    go : Dec (b ≡ j) → Dec (In l b) → is_in r b ≡ put (is_in l) j true b
    go (yes e) d = rw (e, put_same (is_in l) j true) (eq-eqb (digit r j) 1 m.put)
    go (no e) (yes d) = eq-eqb (digit r b) 1 (m.more b d) ∙ sym (put_other (is_in l) j true b e ∙ eq-eqb (digit l b) 1 d)
    go (no e) (no d) = ne_eqb (digit r b) 1 (λ h. elim (m.only b h) [ inl x ↦ d x | inr x ↦ e x ]) ∙ sym (put_other (is_in l) j true b e ∙ ne_eqb (digit l b) 1 d)

-- ---- the outputs whose wavelength is full

-- the same counts, the same set
full-as : (N L : ℕ) (o p : ℕ → ℕ) (v l : ℕ) → ((w : ℕ) → lit N p w ≡ lit N o w) → FullFor N L o v l → FullFor N L p v l
full-as N L o p v l e f = record {
  inside = f.inside;
  full = λ j lj h. omega (arith, f.full j lj h, e (wavelength N v j));
  has_room = λ j lj h. omega (arith, f.has_room j lj h, e (wavelength N v j));
}

-- one input on
full-turned : (N L : ℕ) (o : ℕ → ℕ) (v l r : ℕ) → v < N → FullFor N L o v l → Around N l r → FullFor N L o (v + 1) r
full-turned N L o v l r lv f a = record {
  inside = a.inside;
  full = λ j lj h. omega (arith, f.full ((j + (N - 1)) % N) (before j) (sym (a.turns j lj) ∙ h), ap (lit N o) (wavelength-next N v j lv));
  has_room = λ j lj h. omega (arith, f.has_room ((j + (N - 1)) % N) (before j) (λ e. h (a.turns j lj ∙ e)), ap (lit N o) (wavelength-next N v j lv));
}
  where
    before : (j : ℕ) → (j + (N - 1)) % N < N
    before j = mod-lt (j + (N - 1)) (omega arith)

-- a set marked below N has nothing past N
pub marked-inside : (N : ℕ) (yes : Bool) (l j r : ℕ) → ((k : ℕ) → In l k → k < N) → j < N → MarkedIf yes l j r → (k : ℕ) → In r k → k < N
marked-inside N true l j r inside lj m k h = elim ((m.marked refl).only k h) [ inl x ↦ inside k x | inr x ↦ rw x lj ]
marked-inside N false l j r inside lj m k h = inside k (subst (λ (x : ℕ). In x k) (m.same refl) h)

-- input v takes output j, whose wavelength had room
module _ (N L : ℕ) (o : ℕ → ℕ) (v l j : ℕ) (lv : v < N) (lj : j < N) (idle : N ≤ o v) (f : FullFor N L o v l) (new : In l j → ⊥) where
  -- its own wavelength is used once more
  own : lit N (put o v j) (wavelength N v j) ≡ lit N o (wavelength N v j) + 1
  own = omega (arith, lit-put N o v j (wavelength N v j) lv idle, lights-joined N (wavelength N v j) v j lj, δ-same (wavelength N v j))

  -- and no other
  others : (w : ℕ) → w ≢ wavelength N v j → lit N (put o v j) w ≡ lit N o w
  others w ne = omega (arith, lit-put N o v j w lv idle, lights-joined N w v j lj, δ-other (wavelength N v j) w (λ e. ne (sym e)))

  apart : (k : ℕ) → k < N → k ≢ j → wavelength N v k ≢ wavelength N v j
  apart k lk ne e = ne (sym (wavelength-leads N v k lv lk) ∙ ap (λ (w : ℕ). (v + w) % N) e ∙ wavelength-leads N v j lv lj)

  full-marked : (used r : ℕ) → used ≡ lit N o (wavelength N v j) + 1 → MarkedIf (leb L used) l j r → FullFor N L (put o v j) v r
  full-marked used r e m = go (dec_le L used)
    where
      go : Dec (L ≤ used) → FullFor N L (put o v j) v r
      go (yes q) = record { inside = marked-inside N (leb L used) l j r f.inside lj m; full = full; has_room = has_room }
        where
          k : Marked l j r
          k = m.marked (le-leb L used q)

          full : (b : ℕ) → b < N → In r b → L ≤ lit N (put o v j) (wavelength N v b)
          full b lb h = two (ℕ_discrete b j) (k.only b h)
            where
              two : Dec (b ≡ j) → In l b ⊎ (b ≡ j) → L ≤ lit N (put o v j) (wavelength N v b)
              two (yes x) d = rw x (omega (arith, own, e))
              two (no x) (inl d) = omega (arith, f.full b lb d, others (wavelength N v b) (apart b lb x))
              two (no x) (inr d) = absurd (x d)

          has_room : (b : ℕ) → b < N → (In r b → ⊥) → lit N (put o v j) (wavelength N v b) < L
          has_room b lb h = two (ℕ_discrete b j)
            where
              two : Dec (b ≡ j) → lit N (put o v j) (wavelength N v b) < L
              two (yes x) = absurd (h (rw x k.put))
              two (no x) = omega (arith, f.has_room b lb (λ d. h (k.more b d)), others (wavelength N v b) (apart b lb x))
      go (no q) = rw (m.same (lt-leb L used (omega arith))) (record { inside = f.inside; full = full; has_room = has_room })
        where
          full : (b : ℕ) → b < N → In l b → L ≤ lit N (put o v j) (wavelength N v b)
          full b lb h = two (ℕ_discrete b j)
            where
              two : Dec (b ≡ j) → L ≤ lit N (put o v j) (wavelength N v b)
              two (yes x) = absurd (new (rw x at h))
              two (no x) = omega (arith, f.full b lb h, others (wavelength N v b) (apart b lb x))

          has_room : (b : ℕ) → b < N → (In l b → ⊥) → lit N (put o v j) (wavelength N v b) < L
          has_room b lb h = two (ℕ_discrete b j)
            where
              two : Dec (b ≡ j) → lit N (put o v j) (wavelength N v b) < L
              two (yes x) = rw x (omega (arith, own, e, q))
              two (no x) = omega (arith, f.has_room b lb h, others (wavelength N v b) (apart b lb x))

-- ---- a turn

asked_in : (rows : List Outputs) (i j : ℕ) → 0 < asks rows i j → In (row_of rows i) j
unfolding asks
asked_in rows i j p = omega (arith, digit_lt (row_of rows i) j)

in-asked : (rows : List Outputs) (i j : ℕ) → In (row_of rows i) j → 0 < asks rows i j
unfolding asks
in-asked rows i j e = omega (arith, e)

-- the slot in the making, in whatever way it is written
chosen : (N L : ℕ) (rows : List Outputs) (v : ℕ) (out counts : List ℕ) (busy : Busy) (y : Slot) → served N L (asks rows) v ≡ y → N ≤ length out → N ≤ length counts
    → ((i : ℕ) → get_or out i 255 ≡ y.outputs i) → ((w : ℕ) → w < N → get_or counts w 0 ≡ lit N y.outputs w) → ((j : ℕ) → j < N → is_in busy.taken.0 j ≡ y.taken j)
    → FullFor N L y.outputs v busy.full.0 → Choosing N L rows v out counts busy
chosen N L rows v out counts busy y e wide room outputs counted taken full = record {
  wide = wide;
  room = room;
  outputs = λ i. outputs i ∙ ap (λ (s : Slot). s.outputs i) (sym e);
  counted = λ w lw. counted w lw ∙ ap (λ (s : Slot). lit N s.outputs w) (sym e);
  taken = λ j lj. taken j lj ∙ ap (λ (s : Slot). s.taken j) (sym e);
  full = subst (λ (s : Slot). FullFor N L s.outputs v busy.full.0) (sym e) full;
}

-- nobody is visited
pub visit-first : (N L : ℕ) (rows : List Outputs) (out counts : List ℕ) (busy : Busy) → 0 < L → N ≤ 64 → N ≤ length out → N ≤ length counts → ((i : ℕ) → get_or out i 255 ≡ 255) → ((w : ℕ) → get_or counts w 0 ≡ 0)
    → ((k : ℕ) → In busy.taken.0 k → ⊥) → ((k : ℕ) → In busy.full.0 k → ⊥) → Choosing N L rows 0 out counts busy
visit-first N L rows out counts busy limit few wide room outputs counted taken full =
    chosen N L rows 0 out counts busy (record { outputs = λ _. 255; taken = λ _. false }) (served-zero N L (asks rows)) wide room outputs
    (λ w _. counted w ∙ sym (none w)) (λ j _. none_has busy.taken.0 taken j)
    (record { inside = λ j h. absurd (full j h); full = λ j _ h. absurd (full j h); has_room = λ j _ _. omega (arith, none (wavelength N 0 j)) })
  where
    none : (w : ℕ) → lit N (λ _. 255) w ≡ 0
    none w = lit-none N (λ _. 255) (λ i _. omega arith) w

-- all are visited
pub visit-last : (N L : ℕ) (rows : List Outputs) (out counts : List ℕ) (busy : Busy) (v : ℕ) → v ≡ N → Choosing N L rows v out counts busy → (i : ℕ) → get_or out i 255 ≡ quiet_setting N L (asks rows) i
unfolding quiet_setting
visit-last N L rows out counts busy v e g i = g.outputs i ∙ ap (λ (k : ℕ). (served N L (asks rows) k).outputs i) e

module _ (N L : ℕ) (rows : List Outputs) (v : ℕ) (out counts : List ℕ) (busy : Busy) (lv : v < N) (ask : Rows N rows) (g : Choosing N L rows v out counts busy) where
  abbrev x : Slot
  x = served N L (asks rows) v

  abbrev M : ℕ → ℕ → ℕ
  M = asks rows

  idle-v : x.outputs v ≡ 255
  idle-v = served-idle N (omega (arith, ask.few)) L M v (omega arith) v (omega arith)

  is-taken : (j : ℕ) → j < N → In busy.taken.0 j → T (x.taken j)
  is-taken j lj e = subst T (g.taken j lj) (rw (eq-eqb (digit busy.taken.0 j) 1 e) tt)

  taken_in : (j : ℕ) → j < N → T (x.taken j) → In busy.taken.0 j
  taken_in j lj t = go (ℕ_discrete (digit busy.taken.0 j) 1)
    where
      go : Dec (In busy.taken.0 j) → In busy.taken.0 j
      go (yes e) = e
      go (no e) = absurd (subst T (sym (g.taken j lj) ∙ ne_eqb (digit busy.taken.0 j) 1 e) t)

  -- free has the outputs of the input's label that are neither taken nor full
  module _ (u free : ℕ) (both : Union busy.taken.0 busy.full.0 u) (row : ℕ) (word : FirstWord (row_of rows v) row) (rest : But row u free) where
    -- what the rule allows is among them
    allowed : (y : ℕ) → y < N → T (may_within N L M x v y) → In free y
    allowed y ly t =
        let r = within-is N L M x v y t in
        let p = may-is M x.taken v y r.0 in
        rest.kept y (sym (word y (omega (arith, ask.few))) ∙ asked_in rows v y p.0) (λ h. elim (both.only y h) [ inl d ↦ p.1 (is-taken y ly d) | inr d ↦ omega (arith, g.full.full y ly d, r.1) ])

    pub given-none : ((k : ℕ) → In free k → ⊥) → lowest N 0 (may_within N L M x v) ≡ 255
    given-none s = lowest-none N 0 (may_within N L M x v) (λ y _ l t. s y (allowed y (omega arith) t))

    module _ (j : ℕ) (m : LowestAt 64 free j) where
      asked : In (row_of rows v) j
      asked = word j m.small ∙ rest.less j m.here

      pub given-in : j < N
      given-in = ask.inside v j lv m.small asked

      pub not_full : In busy.full.0 j → ⊥
      not_full h = rest.gone j m.here (both.right j h)

      pub given-at : lowest N 0 (may_within N L M x v) ≡ j
      given-at = lowest-at N 0 (may_within N L M x v) j (omega arith) (omega (arith, given-in))
          (within-yes N L M x v j (may-yes M x.taken v j (in-asked rows v j asked) (λ t. rest.gone j m.here (both.left j (taken_in j given-in t)))) (g.full.has_room j given-in not_full))
          (λ y _ l t. m.past y l (allowed y (below y l given-in) t))
        where
          below : (y : ℕ) → y < j → j < N → y < N
          below y l k = omega arith

  next : (j : ℕ) → lowest N 0 (may_within N L M x v) ≡ j → served N L M (v + 1) ≡ seat x v j
  next j e = served-next N L M v ∙ ap (seat x v) e

  small : N ≤ 255
  small = omega (arith, ask.few)

  -- nothing is free: the input stays idle
  pub visit-none : lowest N 0 (may_within N L M x v) ≡ 255 → (busy' : Busy) → busy'.taken ≡ busy.taken → Around N busy.full.0 busy'.full.0 → Choosing N L rows (v + 1) out counts busy'
  unfolding seat
  visit-none e busy' t a =
      chosen N L rows (v + 1) out counts busy' (seat x v 255) (next 255 e) g.wide g.room (λ i. g.outputs i ∙ sym (stays i)) (λ w lw. g.counted w lw ∙ sym (same w))
      (λ j lj. ap (λ (b : Label). is_in b.0 j) t ∙ g.taken j lj ∙ sym (put_other x.taken 255 true j (omega (arith, small))))
      (full-as N L x.outputs (put x.outputs v 255) (v + 1) busy'.full.0 same (full-turned N L x.outputs v busy.full.0 busy'.full.0 lv g.full a))
    where
      stays : (i : ℕ) → put x.outputs v 255 i ≡ x.outputs i
      stays i = go (ℕ_discrete i v)
        where
          go : Dec (i ≡ v) → put x.outputs v 255 i ≡ x.outputs i
          go (yes q) = rw q (put_same x.outputs v 255 ∙ sym idle-v)
          go (no q) = put_other x.outputs v 255 i q

      same : (w : ℕ) → lit N (put x.outputs v 255) w ≡ lit N x.outputs w
      same w = omega (arith, lit-put N x.outputs v 255 w lv (omega (arith, idle-v, small)), lights-idle N w v 255 small)

  -- output j, by wavelength w
  module _ (w : ℕ) (lw : w < N) where
    pub count_small : get_or counts w 0 ≤ 64
    count_small = omega (arith, g.counted w lw, lit-le N x.outputs w, ask.few)

  module _ (j w : ℕ) (lw : w < N) (lj : j < N) (new : In busy.full.0 j → ⊥) (e : lowest N 0 (may_within N L M x v) ≡ j) (ew : w ≡ wavelength N v j) where
    idle : N ≤ x.outputs v
    idle = omega (arith, idle-v, small)

    pub visit-at : (busy' : Busy) (l : ℕ) → Marked busy.taken.0 j busy'.taken.0 → MarkedIf (leb L (get_or counts w 0 + 1)) busy.full.0 j l → Around N l busy'.full.0
        → Choosing N L rows (v + 1) (set out v j) (set counts w (get_or counts w 0 + 1)) busy'
    unfolding seat
    visit-at busy' l mt mf a =
        chosen N L rows (v + 1) (set out v j) (set counts w (get_or counts w 0 + 1)) busy' (seat x v j) (next j e)
        (omega (arith, g.wide, length-set out v j)) (omega (arith, g.room, length-set counts w (get_or counts w 0 + 1))) outputs counted
        (λ b lb. marked-has busy.taken.0 j busy'.taken.0 mt b ∙ at b lb)
        (full-turned N L (put x.outputs v j) v l busy'.full.0 lv
        (full-marked N L x.outputs v busy.full.0 j lv lj idle g.full new (get_or counts w 0 + 1) l (omega (arith, g.counted w lw, ap (lit N x.outputs) ew)) mf) a)
      where
        outputs : (i : ℕ) → get_or (set out v j) i 255 ≡ put x.outputs v j i
        outputs i = go (ℕ_discrete i v)
          where
            go : Dec (i ≡ v) → get_or (set out v j) i 255 ≡ put x.outputs v j i
            go (yes q) = rw q (get_or-set_same out v j 255 (omega (arith, g.wide)) ∙ sym (put_same x.outputs v j))
            go (no q) = get_or-set_other out v i j 255 q ∙ g.outputs i ∙ sym (put_other x.outputs v j i q)

        counted : (z : ℕ) → z < N → get_or (set counts w (get_or counts w 0 + 1)) z 0 ≡ lit N (put x.outputs v j) z
        counted z lz = go (ℕ_discrete z w)
          where
            go : Dec (z ≡ w) → get_or (set counts w (get_or counts w 0 + 1)) z 0 ≡ lit N (put x.outputs v j) z
            go (yes q) = rw q (omega (
              arith,
              get_or-set_same counts w (get_or counts w 0 + 1) 0 (omega (arith, g.room)),
              g.counted w lw,
              ap (lit N x.outputs) ew,
              ap (lit N (put x.outputs v j)) ew,
              own N L x.outputs v busy.full.0 j lv lj idle g.full new,
            ))
            go (no q) = get_or-set_other counts w z (get_or counts w 0 + 1) 0 q ∙ g.counted z lz
                ∙ sym (others N L x.outputs v busy.full.0 j lv lj idle g.full new z (λ y. q (y ∙ sym ew)))

        at : (b : ℕ) → b < N → put (is_in busy.taken.0) j true b ≡ put x.taken j true b
        at b lb = go (ℕ_discrete b j)
          where
            go : Dec (b ≡ j) → put (is_in busy.taken.0) j true b ≡ put x.taken j true b
            go (yes q) = rw q (put_same (is_in busy.taken.0) j true ∙ sym (put_same x.taken j true))
            go (no q) = put_other (is_in busy.taken.0) j true b q ∙ g.taken b lb ∙ sym (put_other x.taken j true b q)
