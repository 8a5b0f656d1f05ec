-- The subsections of a section by their numbers: what stands for one, and that they are those that a state needs.
use Rattle.std.proofs.Common.{◌≡◌, ℕ, zero, suc, ◌+◌, ◌<◌, ◌≤◌, true, cond, eqb, List, [], ◌∷◌, sym, refl, ap, ◌∙◌, subst, ⊎_elim, arith}
use Rattle.std.specs.List.{AllByRecursion}
use Rattle.std.proofs.ByRecursion.{All-weaker}
use Rattle.std.proofs.lemmas.Bool.{cond-true, cond-false, cond_both, cases_eq, eq-eqb, ne_eqb, eqb-true}
use Rattle.device.specs.Bytes.{differs}
use Rattle.device.specs.Format.{Format, Section, count, needs, needed_from, needed, Ascending, Passes}
use Rattle.uart.specs.Stream.{present}
use Rattle.uart.proofs.Fields.{differs-not, differs_false}

abbrev Listed : Type 0
Listed = List (ℕ × List ℕ)

-- what holds of each subsection and of the default holds of what stands for number k
pub present-holds :
    (P : ℕ → List ℕ → Type 0) (k : ℕ) (ps : Listed) (d : List ℕ)
    → AllByRecursion (λ p. P p.0 p.1) ps → P k d → P k (present k ps d)
present-holds P k [] d h q = q
present-holds P k (p ∷ ps) d h q =
    cond_both (eqb p.0 k) p.1 (present k ps d) (P k)
    (λ e. subst (λ n. P n p.1) (eqb-true p.0 k e) h.0)
    (λ e. present-holds P k ps d h.1 q)

here : (j k : ℕ) (x y : List ℕ) → j ≡ k → cond (eqb j k) x y ≡ x
here j k x y e = cond-true (eqb j k) x y (eq-eqb j k e)

elsewhere : (j k : ℕ) (x y : List ℕ) → (j ≡ k → ⊥) → cond (eqb j k) x y ≡ y
elsewhere j k x y n = cond-false (eqb j k) x y (ne_eqb j k n)

-- ## The subsections of a state, where they are looked up

module _ {S : Type 0} (f : Format S) (s : S) where
  abbrev by_default : ℕ → List ℕ
  by_default k = f.default k (f.body f.last s)

  passed :
      (k j n : ℕ) (x : List ℕ) → (j ≡ k → ⊥)
      → present k (needed_from f s j (suc n)) x ≡ present k (needed_from f s (suc j) n) x
  passed k j n x ne =
      cond_both (needs f s j) _ _ (λ ps. present k ps x ≡ present k (needed_from f s (suc j) n) x)
      (λ t. elsewhere j k (f.sub j s) _ ne)
      (λ t. refl)

  before : (k j n : ℕ) (x : List ℕ) → k < j → present k (needed_from f s j n) x ≡ x
  before k j zero x h = refl
  before k j (suc n) x h = passed k j n x (λ e. omega arith) ∙ before k (suc j) n x (omega arith)

  reached : (k n : ℕ) → present k (needed_from f s k (suc n)) (by_default k) ≡ f.sub k s
  reached k n =
      cond_both (needs f s k) _ _ (λ ps. present k ps (by_default k) ≡ f.sub k s)
      (λ t. here k k (f.sub k s) _ refl)
      (λ t. before k (suc k) n (by_default k) (omega arith) ∙ sym (differs_false (f.sub k s) (by_default k) t))

  found : (k j n : ℕ) → j ≤ k → k < j + n → present k (needed_from f s j n) (by_default k) ≡ f.sub k s
  found k j zero l h = absurd (omega arith)
  found k j (suc n) l h =
      ⊎_elim
      (λ e. subst (λ m. present k (needed_from f s m (suc n)) (by_default k) ≡ f.sub k s) (sym e) (reached k n))
      (λ ne. passed k j n (by_default k) ne ∙ found k (suc j) n (omega arith) (omega arith))
      (cases_eq j k)

  -- a needed subsection stands for itself, and the default for any other
  pub present-needed : (k : ℕ) → k < count f → present k (needed f s) (by_default k) ≡ f.sub k s
  present-needed k h = found k 0 (count f) (omega arith) (omega arith)

-- ## The subsections of a section that passes, and the state that has them

module _ {S : Type 0} (f : Format S) where
  above : (k n : ℕ) (ps : Listed) (d : List ℕ) → Ascending f n ps → k < n → present k ps d ≡ d
  above k n [] d a h = refl
  above k n (p ∷ ps) d a h =
      elsewhere p.0 k p.1 (present k ps d) (λ e. omega (arith, a.0))
      ∙ above k (suc p.0) ps d a.2 (omega (arith, a.0))

  module _ (s : S) (b : List ℕ) (same_body : f.body f.last s ≡ b) where
    needs-by : (k : ℕ) → needs f s k ≡ differs (f.sub k s) (f.default k b)
    needs-by k = ap (λ z. differs (f.sub k s) (f.default k z)) same_body

    skipped :
        (j n : ℕ) (ps : Listed) → f.sub j s ≡ f.default j b → needed_from f s (suc j) n ≡ ps
        → needed_from f s j (suc n) ≡ ps
    skipped j n ps e rest =
        cond-false (needs f s j) _ _ (needs-by j ∙ differs-not (f.sub j s) (f.default j b) e) ∙ rest

    joined :
        (j n : ℕ) (p : ℕ × List ℕ) (ps : Listed) → p.0 ≡ j → f.sub j s ≡ p.1
        → differs p.1 (f.default p.0 b) ≡ true → needed_from f s (suc j) n ≡ ps
        → needed_from f s j (suc n) ≡ p ∷ ps
    joined j n p ps e own far rest =
        cond-true (needs f s j) _ _ (needs-by j ∙ (λ i. differs (own i) (f.default (sym e i) b)) ∙ far)
        ∙ (λ i. (sym e i, own i) ∷ rest i)

    listed :
        (n j : ℕ) (ps : Listed) → j + n ≡ count f → Ascending f j ps
        → AllByRecursion (λ p. differs p.1 (f.default p.0 b) ≡ true) ps
        → ((k : ℕ) → j ≤ k → k < count f → f.sub k s ≡ present k ps (f.default k b))
        → needed_from f s j n ≡ ps
    listed zero j [] c a h g = refl
    listed zero j (p ∷ ps) c a h g = absurd (omega (arith, a.0, a.1))
    listed (suc n) j [] c a h g =
        skipped j n [] (g j (omega arith) (omega arith))
        (listed n (suc j) [] (omega arith) tt tt (λ k l m. g k (omega arith) m))
    listed (suc n) j (p ∷ ps) c a h g =
        let own = g j (omega arith) (omega arith) in
        ⊎_elim
        (λ e. joined j n p ps e (own ∙ here p.0 j p.1 _ e) h.0
        (listed n (suc j) ps (omega arith) (subst (λ m. Ascending f (suc m) ps) e a.2) h.1
        (λ k l m. g k (omega arith) m ∙ elsewhere p.0 k p.1 _ (λ q. omega arith))))
        (λ ne. let order : Ascending f (suc j) (p ∷ ps) = (omega (arith, a.0), a.1, a.2) in
        skipped j n (p ∷ ps) (own ∙ above j (suc j) (p ∷ ps) (f.default j b) order (omega arith))
        (listed n (suc j) (p ∷ ps) (omega arith) order h (λ k l m. g k (omega arith) m)))
        (cases_eq p.0 j)

  -- a state with the complete body and the subsections of a section that passes needs just these
  pub needed-again :
      (s : S) (x : Section) → Passes f x → f.body f.last s ≡ f.complete x.version x.body
      → ((k : ℕ) → k < count f → f.sub k s ≡ present k x.subs (f.default k (f.complete x.version x.body)))
      → needed f s ≡ x.subs
  needed-again s x p e g =
      listed s (f.complete x.version x.body) e (count f) 0 x.subs (omega arith) p.order
      (All-weaker _ _ (λ q h. h.needed) x.subs p.subs)
      (λ k l m. g k m)
