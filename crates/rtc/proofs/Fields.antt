-- The first field in which two bodies differ: none in a body and itself, and none in what they begin with alike.
use Rattle.std.proofs.Common.{◌≡◌, ℕ, suc, ◌+◌, ◌≤◌, true, List, [], ◌∷◌, ◌++◌, length, take, drop, None, sym, refl, ap, ◌∙◌, add-zero, add-suc, suc-add, arith}
use Rattle.std.proofs.lemmas.List.{length-drop, take-append-le, drop-append-le}
use Rattle.std.proofs.lemmas.Bool.Decides.{nat_tests}
use Rattle.device.specs.Bytes.{same, total}
use Rattle.device.specs.Format.{differ_from}

same_self : (xs : List ℕ) → same xs xs ≡ true
same_self [] = refl
same_self (x ∷ xs) = grind (arith, nat_tests, same_self xs)

pub differ_self : (k : ℕ) (ns xs : List ℕ) → differ_from k ns xs xs ≡ None
differ_self k [] xs = refl
differ_self k (n ∷ ns) xs = rw (same_self (take n xs)) (differ_self (suc k) ns (drop n xs))

pub differ-after :
    (k : ℕ) (ns ms ws xs ys : List ℕ) → length ws ≡ total ns
    → differ_from k (ns ++ ms) (ws ++ xs) (ws ++ ys) ≡ differ_from (k + length ns) ms xs ys
differ-after k [] ms [] xs ys e = rw add-zero
differ-after k [] ms (w ∷ ws) xs ys e = absurd (omega arith)
differ-after k (n ∷ ns) ms ws xs ys e =
    let l : n ≤ length ws = omega arith in
    let m : length (drop n ws) ≡ total ns = simp length-drop (omega arith) in
    rw (
      take-append-le n ws xs l,
      take-append-le n ws ys l,
      drop-append-le n ws xs l,
      drop-append-le n ws ys l,
      same_self (take n ws),
    )
    (differ-after (suc k) ns ms (drop n ws) xs ys m
    ∙ ap (λ (j : ℕ). differ_from j ms xs ys) (suc-add k (length ns) ∙ sym (add-suc k (length ns))))
