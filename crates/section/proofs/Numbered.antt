-- The subsections of a kind in a list, each at the place of its number.
use Rattle.std.proofs.Common.{◌≡◌, ℕ, ◌<◌, List, length, map, get_or, sym, ap, ◌∙◌, zero-add, arith}
use Rattle.std.specs.List.{range_with_len}
use Rattle.std.proofs.lemmas.List.{length-map, get_or-map}
use Rattle.std.proofs.lemmas.List.FromFn.{length-range_with_len, get_or-range_with_len}

-- there is one for each number
pub how_many : {A : Type 0} (f : A → ℕ) (xs : List A) (n : ℕ) → map f xs ≡ range_with_len 0 n → length xs ≡ n
how_many f xs n e = sym (length-map xs f) ∙ ap length e ∙ length-range_with_len 0 n

-- the one at place i has number i, which is one of the numbers
pub at_place :
    {A : Type 0} (f : A → ℕ) (xs : List A) (n : ℕ) {i : ℕ} {x : A} → map f xs ≡ range_with_len 0 n → i < length xs
    → x ≡ get_or xs i x → (f x ≡ i) × (i < n)
at_place f xs n {i} {x} e h is =
    let below : i < n = omega (arith, how_many f xs n e) in
    let there = sym (get_or-map f xs i x 0 h) ∙ ap (λ (ks : List ℕ). get_or ks i 0) e ∙ get_or-range_with_len 0 n i 0 below in
    (ap f is ∙ there ∙ zero-add i, below)
