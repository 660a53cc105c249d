-- A copy, cell by cell.
use mathlib.Core.Path.{◌≡◌, sym, ap, ◌∙◌}
use mathlib.Core.List.{List, ◌++◌}
use Prim.Native.Nat.{ℕ, ◌+◌, ◌<◌}
use native.Mathlib.Omega.{arith}
use native.Mathlib.Nat.{zero-add}
use native.Mathlib.Numerals.{add-one}
use lib.ListN.{length, get_or, set, drop}
use lib.Seq.{paste, paste-suc, take-length}

pub copy-next : (d s p : List ℕ) (k : ℕ) → k < length d → k < length s → p ≡ paste d 0 s k → set p k (get_or s k 0) ≡ paste d 0 s (k + 1)
copy-next d s p k hd hs e =
    ap (λ (l : List ℕ). set l k (get_or s k 0)) e
    ∙ ap (λ (m : ℕ). set (paste d 0 s k) m (get_or s k 0)) (sym (zero-add k))
    ∙ paste-suc d 0 s k 0 (omega arith) hs ∙ ap (paste d 0 s) (sym (add-one k))

pub copy-all : (d s : List ℕ) (k : ℕ) → k ≡ length s → paste d 0 s k ≡ s ++ drop (length s) d
copy-all d s k e =
    ap (paste d 0 s) e
    ∙ ap (λ (l : List ℕ). l ++ drop (0 + length s) d) (take-length s)
    ∙ ap (λ (m : ℕ). s ++ drop m d) (zero-add (length s))
