-- Which numbers are found by their codes.
use Rattle.std.proofs.Common.{◌≡◌, ℕ, zero, suc, ◌+◌, ◌*◌, ◌/◌, ◌%◌, ◌<◌, ◌≤◌, Bool, true, false, cond, Some, None, sym, refl, ap, ◌∙◌, inl, inr, arith}
use Rattle.std.specs.Bool.{then_some}
use Rattle.std.proofs.lemmas.Bool.{cases_Bool, eq-eqb, ne_eqb, cases_eq}
use Rattle.rtc.specs.Rtc.{code, find}

-- the number that a byte is the code of, if of any
abbrev pub number : Bool → ℕ → ℕ
number binary b = cond binary b (10 * (b / 16) + b % 16)

pub number-code : (binary : Bool) (n : ℕ) → number binary (code binary n) ≡ n
number-code true n = refl
number-code false n = omega arith

-- a code of the span is found
pub found : (binary : Bool) (k n m : ℕ) → k ≤ m → m < k + n → find binary k n (code binary m) ≡ Some m
unfolding find
found binary k zero m l h = absurd (omega arith)
found binary k (suc n) m l h =
    elim (cases_eq m k) [
      | inl e ↦ rw e (rw (eq-eqb (code binary k) (code binary k) refl))
      | inr ne ↦
          let d : code binary m ≡ code binary k → ⊥ =
          λ e. ne (sym (number-code binary m) ∙ ap (number binary) e ∙ number-code binary k) in
          rw (ne_eqb (code binary m) (code binary k) d) (found binary (suc k) n m (omega (arith, ne)) (omega arith))
    ]

-- any other byte is not
pub not_found :
    (binary : Bool) (k n b : ℕ) → ((m : ℕ) → k ≤ m → m < k + n → b ≡ code binary m → ⊥) → find binary k n b ≡ None
unfolding find
not_found binary k zero b h = refl
not_found binary k (suc n) b h =
    rw (ne_eqb b (code binary k) (h k (omega arith) (omega arith)))
    (not_found binary (suc k) n b (λ m l g. h m (omega arith) (omega arith)))

-- the number that a byte is the code of, if a test of it decides that it is in the span
pub decided :
    (binary : Bool) (k n b m : ℕ) (t : Bool) → m ≡ number binary b → (t ≡ true → (k ≤ m) × (m < k + n) × (code binary m ≡ b))
    → (t ≡ false → k ≤ m → m < k + n → code binary m ≡ b → ⊥) → then_some t m ≡ find binary k n b
decided binary k n b m t is found-by missed-by =
    elim (cases_Bool t) [
      | inl e ↦
          let h = found-by e in
          rw e (sym (ap (find binary k n) (sym h.2) ∙ found binary k n m h.0 h.1))
      | inr e ↦
          rw e (sym (not_found binary k n b (λ j l g q.
          let same : m ≡ j = is ∙ ap (number binary) q ∙ number-code binary j in
          missed-by e (omega arith) (omega arith) (ap (code binary) same ∙ sym q))))
    ]

-- nor is a code past the span
pub past-not-found : (binary : Bool) (n m : ℕ) → n ≤ m → find binary 0 n (code binary m) ≡ None
past-not-found binary n m h =
    not_found binary 0 n (code binary m) (λ k _ l e.
    let q : m ≡ k = sym (number-code binary m) ∙ ap (number binary) e ∙ number-code binary k in
    omega arith)
