-- The number of a subsection by its name.
use Rattle.std.proofs.Common.{◌≡◌, ℕ, zero, suc, ◌+◌, ◌<◌, Bool, true, false, cond, List, [], ◌∷◌, length, get_or, Some, None, Option, sym, refl, ap, ◌∙◌, subst, arith}
use Rattle.std.proofs.lemmas.Bool.{cond-true, cond-false}
use Rattle.device.specs.Bytes.{same}
use Rattle.device.specs.Format.{Format, Subsection, count, title}
use Rattle.reading.specs.Reading.{find_from, known, numbered}
use Rattle.section.proofs.Comparing.{same-decides}

abbrev none : Subsection
none = record { title = []; fields = [] }

none-some : (k : ℕ) → None ≡ Some k → ⊥
none-some k h = let z : ◌≡◌ {A = ℕ} 0 1 = cc in omega arith

same-apart : (xs ys : List ℕ) → (xs ≡ ys → ⊥) → same xs ys ≡ false
same-apart xs ys h = go (same xs ys) refl
  where
    go : (b : Bool) → same xs ys ≡ b → b ≡ false
    go true e = absurd (h ((same-decides xs ys).0 e))
    go false e = refl

-- ---- in a table

-- a name that stands in the table, and not before, is found at its number
found :
    (j : ℕ) (ss : List Subsection) (k : ℕ) → k < length ss
    → ((i : ℕ) → i < k → (get_or ss i none).title ≡ (get_or ss k none).title → ⊥)
    → find_from j ss (get_or ss k none).title ≡ Some (j + k)
found j [] k h apart = absurd (omega arith)
found j (s ∷ ss) zero h apart =
    cond-true (same s.title s.title) (Some j) (find_from (suc j) ss s.title) ((same-decides s.title s.title).1 refl)
    ∙ ap {B = Option ℕ} Some (omega arith)
found j (s ∷ ss) (suc k) h apart =
    let name = (get_or ss k none).title in
    let other = same-apart name s.title (λ p. apart 0 (omega arith) (sym p)) in
    cond-false (same name s.title) (Some j) (find_from (suc j) ss name) other
    ∙ found (suc j) ss k (omega arith) (λ i l. apart (suc i) (omega arith))
    ∙ ap {B = Option ℕ} Some (omega arith)

record Found (j : ℕ) (ss : List Subsection) (name : List ℕ) (k : ℕ) : Type 0 where
  index : ℕ
  is : k ≡ j + index
  low : index < length ss
  named : name ≡ (get_or ss index none).title

found_at : (j : ℕ) (ss : List Subsection) (name : List ℕ) (k : ℕ) → find_from j ss name ≡ Some k → Found j ss name k
found_at j [] name k h = absurd (none-some k h)
found_at j (s ∷ ss) name k h = go (same name s.title) refl (found_at (suc j) ss name k) h
  where
    go :
        (b : Bool) → same name s.title ≡ b → (find_from (suc j) ss name ≡ Some k → Found (suc j) ss name k)
        → cond b (Some j) (find_from (suc j) ss name) ≡ Some k → Found j (s ∷ ss) name k
    go true e later g =
        let p : j ≡ k = cc in
        record { index = 0; is = omega arith; low = omega arith; named = (same-decides name s.title).0 e }
    go false e later g =
        let r = later g in
        record { index = suc r.index; is = omega arith; low = omega arith; named = r.named }

known_is : (knows : ℕ → Bool) (o : Option ℕ) (k : ℕ) → known knows o ≡ Some k → (o ≡ Some k) × (knows k ≡ true)
known_is knows None k h = absurd (none-some k h)
known_is knows (Some j) k h = go (knows j) refl h
  where
    go : (b : Bool) → knows j ≡ b → cond b (Some j) None ≡ Some k → (Some j ≡ Some k) × (knows k ≡ true)
    go true t g = let p : j ≡ k = cc in (g, ap knows (sym p) ∙ t)
    go false t g = absurd (none-some k g)

-- ---- at an edition

-- no two subsections have one name
abbrev pub Apart : {S : Type 0} → Format S → Type 0
Apart f = (j k : ℕ) → j < k → k < count f → title f j ≡ title f k → ⊥

module _ {S : Type 0} (f : Format S) (e : ℕ) where
  -- what a subsection's name is read as
  pub numbered-title :
      Apart f → (k : ℕ) → k < count f → numbered f e (title f k) ≡ cond ((f.edition e).knows k) (Some k) None
  numbered-title apart k low =
      ap (known (f.edition e).knows)
      (found 0 f.subsections k low (λ i l. apart i k l low) ∙ ap {B = Option ℕ} Some (omega arith))

  -- a name that is read as number k
  pub record Named (name : List ℕ) (k : ℕ) : Type 0 where
    pub low : k < count f
    pub is : name ≡ title f k
    pub knows : (f.edition e).knows k ≡ true

  pub numbered-named : (name : List ℕ) (k : ℕ) → numbered f e name ≡ Some k → Named name k
  numbered-named name k h =
      let known = known_is (f.edition e).knows (find_from 0 f.subsections name) k h in
      let place = found_at 0 f.subsections name k known.0 in
      let index : place.index ≡ k = omega arith in
      record {
        low = subst (λ (m : ℕ). m < count f) index place.low;
        is = place.named ∙ ap (title f) index;
        knows = known.1;
      }
