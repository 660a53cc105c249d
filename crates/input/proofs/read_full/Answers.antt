-- What comes next is read behind what came.
use Rattle.std.proofs.Common.{◌≡◌, refl, sym, ap, ◌∙◌, ◌+◌, ◌-◌, ◌≤◌, ℕ, List, ◌++◌, length, take, drop, append_assoc, arith, rules}
use Rattle.std.specs.Prelude.{None, Some}
use Rattle.std.specs.declared.option.Option.{Option}
use Rattle.std.specs.Io.KnownBytes.{Consumes}
use Rattle.std.proofs.lemmas.List.{take-append-le, length-take-le}
use Rattle.std.proofs.lemmas.Slice.{put_mid-paste}
use Rattle.std.proofs.Math.Seq.{take-append-add, take_all}
use borrow.Rule.Slice.PartMut.{put_mid}
use Rattle.input.proofs.read_full.Goals as goal

consumes-more : (a b c : Option (List ℕ)) (s t : List ℕ) → Consumes a b s → Consumes b c t → Consumes a c (s ++ t)
consumes-more None b c s t p q = p
consumes-more (Some x) None c s t p q = absurd p
consumes-more (Some x) (Some y) None s t p q = q
consumes-more (Some x) (Some y) (Some z) s t p q = rw (p, q) (sym (append_assoc s t z))

behind : (a k n : ℕ) (xs ys : List ℕ) → a ≤ length xs → n ≤ length ys → length ys ≡ k → take (a + n) (put_mid a k xs ys) ≡ take a xs ++ take n ys
behind a k n xs ys la ln e =
    ap (take (a + n)) (put_mid-paste a k xs ys ys (length ys) refl e refl ∙ ap (λ (l : List ℕ). take a xs ++ l ++ drop (a + length ys) xs) (take_all (length ys) ys (omega arith)))
    ∙ ap (λ (i : ℕ). take (i + n) (take a xs ++ ys ++ drop (a + length ys) xs)) (sym (length-take-le a xs la))
    ∙ ap (take (length (take a xs) + n)) (append_assoc (take a xs) ys (drop (a + length ys) xs))
    ∙ take-append-add (take a xs) (ys ++ drop (a + length ys) xs) n ∙ ap (λ (l : List ℕ). take a xs ++ l) (take-append-le n ys (drop (a + length ys) xs) ln)

pub loop-size-preserved : goal.loop-size-preserved
loop-size-preserved g c =
    let l = c.loop-size in
    (search rules, search rules, rw (behind l.size (length l.buf - l.size) c.in_ok-n.n l.buf c.read_some.new.buf (omega arith) c.in_ok-n.ensures.within (omega arith)) (consumes-more _ _ _ _ _ l.invariant.2 c.in_ok-n.ensures.bytes.0))
