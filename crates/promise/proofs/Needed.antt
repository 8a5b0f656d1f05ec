-- The list of the subsections that a state needs.
use Rattle.std.proofs.Common.{◌≡◌, ℕ, zero, suc, ◌+◌, ◌<◌, ◌≤◌, Bool, true, false, cond, ◌⊎◌, List, [], ◌∷◌, sym, refl, ap, ◌∙◌, subst, inl, inr, arith}
use Rattle.std.specs.List.{AllByRecursion}
use Rattle.std.proofs.lemmas.Bool.{cases_eq, both_ways}
use Rattle.device.specs.Format.{Format, Ascending, count, needs, needed_from}
use Rattle.reading.proofs.Subs.{Unknowns, unknown}

module _ {S : Type 0} (f : Format S) (s : S) where
  -- the needed ones of the n from number k on, if k's need is b
  abbrev from : Bool → ℕ → ℕ → List (ℕ × List ℕ)
  from b k n = cond b ((k, f.sub k s) ∷ needed_from f s (suc k) n) (needed_from f s (suc k) n)

  lower : (k : ℕ) (ps : List (ℕ × List ℕ)) → Ascending f (suc k) ps → Ascending f k ps
  lower k [] h = tt
  lower k (p ∷ ps) h = (omega arith, h.1, h.2)

  pub needed-order : (k n : ℕ) → k + n ≤ count f → Ascending f k (needed_from f s k n)
  needed-order k zero h = tt
  needed-order k (suc n) h = go (needs f s k) (needed-order (suc k) n (omega arith))
    where
      go : (b : Bool) → Ascending f (suc k) (needed_from f s (suc k) n) → Ascending f k (from b k n)
      go true later = (omega arith, omega arith, later)
      go false later = lower k (needed_from f s (suc k) n) later

  -- what holds of each needed subsection holds of the list, and back
  pub all-needed :
      (P : ℕ × List ℕ → Type 0) (k n : ℕ)
      → ((j : ℕ) → k ≤ j → j < k + n → needs f s j ≡ true → P (j, f.sub j s)) → AllByRecursion P (needed_from f s k n)
  all-needed P k zero h = tt
  all-needed P k (suc n) h = go (needs f s k) refl (all-needed P (suc k) n (λ j l m. h j (omega arith) (omega arith)))
    where
      go : (b : Bool) → needs f s k ≡ b → AllByRecursion P (needed_from f s (suc k) n) → AllByRecursion P (from b k n)
      go true need later = (h k (omega arith) (omega arith) need, later)
      go false need later = later

  pub in-needed :
      (P : ℕ × List ℕ → Type 0) (k n j : ℕ) → k ≤ j → j < k + n → needs f s j ≡ true → AllByRecursion P (needed_from f s k n)
      → P (j, f.sub j s)
  in-needed P k zero j low high need h = absurd (omega arith)
  in-needed P k (suc n) j low high need h =
      go (needs f s k) refl (cases_eq k j) (λ l. in-needed P (suc k) n j l (omega arith) need) h
    where
      go :
          (b : Bool) → needs f s k ≡ b → (k ≡ j) ⊎ (k ≡ j → ⊥)
          → (suc k ≤ j → AllByRecursion P (needed_from f s (suc k) n) → P (j, f.sub j s)) → AllByRecursion P (from b k n) → P (j, f.sub j s)
      go true is (inl same) later g = subst (λ (m : ℕ). P (m, f.sub m s)) same g.0
      go true is (inr other) later g = later (omega arith) g.1
      go false is (inl same) later g = absurd (both_ways (needs f s j) (ap (needs f s) (sym same) ∙ is) need)
      go false is (inr other) later g = later (omega arith) g

  -- j is the first needed subsection of the n from number k on that is not known
  pub record IsFirst (knows : ℕ → Bool) (k n j : ℕ) : Type 0 where
    pub high : j < k + n
    pub needed : needs f s j ≡ true
    pub unknown : knows j ≡ false
    pub first : (i : ℕ) → k ≤ i → i < j → needs f s i ≡ true → knows i ≡ true

  module _ (knows : ℕ → Bool) where
    not_first :
        (k n j : ℕ) → (needs f s k ≡ true → knows k ≡ true) → IsFirst knows (suc k) n j → IsFirst knows k (suc n) j
    not_first k n j here r =
        record {
          high = let h = r.high in omega arith;
          needed = r.needed;
          unknown = r.unknown;
          first = λ i l h need. at i l h need (cases_eq k i);
        }
      where
        at : (i : ℕ) → k ≤ i → i < j → needs f s i ≡ true → (k ≡ i) ⊎ (k ≡ i → ⊥) → knows i ≡ true
        at i l h need (inl same) = subst (λ (m : ℕ). needs f s m ≡ true → knows m ≡ true) same here need
        at i l h need (inr other) = r.first i (omega arith) h need

    pub is-first :
        (k n : ℕ) (un : Unknowns knows (needed_from f s k n)) → IsFirst knows k n (unknown knows (needed_from f s k n) un)
    is-first k zero un = absurd un
    is-first k (suc n) un = go (needs f s k) refl (is-first (suc k) n) un
      where
        rest : List (ℕ × List ℕ)
        rest = needed_from f s (suc k) n

        go :
            (b : Bool) → needs f s k ≡ b → ((u : Unknowns knows rest) → IsFirst knows (suc k) n (unknown knows rest u))
            → (u : Unknowns knows (from b k n)) → IsFirst knows k (suc n) (unknown knows (from b k n) u)
        go true is more (inl u) =
            record { high = omega arith; needed = is; unknown = u; first = λ i l h. absurd (omega arith) }
        go true is more (inr u) = not_first k n (unknown knows rest u.1) (λ need. u.0) (more u.1)
        go false is more u =
            not_first k n (unknown knows rest u) (λ need. absurd (both_ways (needs f s k) is need)) (more u)
