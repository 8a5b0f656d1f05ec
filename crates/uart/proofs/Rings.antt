-- How many bytes stand in a ring and which, what a byte written after them adds, and what is left without the first.
use Rattle.std.proofs.Common.{◌≡◌, ℕ, zero, suc, ◌+◌, ◌%◌, ◌<◌, ◌≤◌, ◌≢◌, List, [], ◌∷◌, ◌++◌, length, get_or, set, sym, refl, ap, ◌∙◌, add-one, arith, get_or-set_other, get_or-set_same}
use Rattle.std.proofs.lemmas.List.{get_or_past}
use Rattle.uart.specs.Ring.{around}

pub around-length : (xs : List ℕ) (h n : ℕ) → length (around xs h n) ≡ n
around-length xs h zero = refl
around-length xs h (suc n) = ap suc (around-length xs ((h + 1) % 16) n)

module _ (xs : List ℕ) (b : ℕ) (all : length xs ≡ 16) where
  -- i is the place after the n bytes from h on
  push_at : (h n i : ℕ) → h < 16 → n < 16 → i ≡ (h + n) % 16 → around (set xs i b) h (suc n) ≡ around xs h n ++ b ∷ []
  push_at h zero i p q e =
      let here : i ≡ h = omega arith in
      let fits : h < length xs = omega arith in
      rw here (ap (λ x. x ∷ []) (get_or-set_same xs h b 0 fits))
  push_at h (suc n) i p q e =
      let other : h ≢ i = omega arith in
      let rest = push_at ((h + 1) % 16) n i (omega arith) (omega arith) (omega arith) in
      λ j. get_or-set_other xs i h b 0 other j ∷ rest j

  pub around-push : (h n : ℕ) → h < 16 → n < 16 → around (set xs ((h + n) % 16) b) h (n + 1) ≡ around xs h n ++ b ∷ []
  around-push h n p q = rw add-one (push_at h n ((h + n) % 16) p q refl)

module _ (xs : List ℕ) where
  pub around-at : (h n i : ℕ) → h < 16 → i < n → get_or xs ((h + i) % 16) 0 ≡ get_or (around xs h n) i 0
  around-at h zero i p q = absurd (omega arith)
  around-at h (suc n) zero p q = ap (λ k. get_or xs k 0) (omega arith)
  around-at h (suc n) (suc i) p q =
      let e : (h + suc i) % 16 ≡ ((h + 1) % 16 + i) % 16 = omega arith in
      ap (λ k. get_or xs k 0) e ∙ around-at ((h + 1) % 16) n i (omega arith) (omega arith)

  pub around-past : (h n i : ℕ) → n ≤ i → 0 ≡ get_or (around xs h n) i 0
  around-past h n i p = sym (get_or_past (around xs h n) i 0 (omega (arith, around-length xs h n)))
