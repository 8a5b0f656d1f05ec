-- The needed subsections, one after another.
use Rattle.std.proofs.Common.{◌≡◌, ℕ, zero, suc, ◌+◌, ◌-◌, ◌<◌, ◌≤◌, Bool, true, false, cond, List, [], ◌∷◌, ◌++◌, length, sym, refl, ap, ◌∙◌, append_assoc, add-zero, add-one, arith}
use Rattle.std.proofs.lemmas.List.{append-nil, length-append}
use Rattle.std.proofs.lemmas.Bool.{cond-true, cond-false}
use Rattle.device.specs.Bytes.{four}
use Rattle.device.specs.Format.{Format, title, needs, needed_from}
use Rattle.section.specs.Layout.{subsections}

module _ {S : Type 0} (f : Format S) where
  subsections-append :
      (ps qs : List (ℕ × List ℕ)) → subsections f (ps ++ qs) ≡ subsections f ps ++ subsections f qs
  subsections-append [] qs = refl
  subsections-append (p ∷ ps) qs =
      let t = title f p.0 in
      ap (λ (bs : List ℕ). 5 ∷ length t ∷ t ++ (four 1 ++ (p.1 ++ bs))) (subsections-append ps qs)
      ∙ sym (simp append_assoc)

  module _ (s : S) where
    -- subsection k alone
    abbrev pub one : ℕ → List (ℕ × List ℕ)
    one k = (k, f.sub k s) ∷ []

    -- subsection k, if it is needed
    abbrev own : ℕ → List (ℕ × List ℕ)
    own k = cond (needs f s k) (one k) []

    from_more : (k n i : ℕ) → i ≡ k + n → needed_from f s k (suc n) ≡ needed_from f s k n ++ own i
    from_more k zero i e = let same : i ≡ k = omega arith in sym (ap own same)
    from_more k (suc n) i e =
        let same : i ≡ suc k + n = omega arith in
        case (needs f s k) (from_more (suc k) n i same)
      where
        case :
            (b : Bool) → needed_from f s (suc k) (suc n) ≡ needed_from f s (suc k) n ++ own i
            → cond b ((k, f.sub k s) ∷ needed_from f s (suc k) (suc n)) (needed_from f s (suc k) (suc n))
            ≡ cond b ((k, f.sub k s) ∷ needed_from f s (suc k) n) (needed_from f s (suc k) n) ++ own i
        case true rest = ap (λ (ps : List (ℕ × List ℕ)). (k, f.sub k s) ∷ ps) rest
        case false rest = rest

    -- the bytes of the needed subsections below number k
    abbrev pub below : ℕ → List ℕ
    below k = subsections f (needed_from f s 0 k)

    below_more : (k : ℕ) → below (k + 1) ≡ below k ++ subsections f (own k)
    below_more k =
        ap below (add-one k) ∙ ap (subsections f) (from_more 0 k k (omega arith))
        ∙ subsections-append (needed_from f s 0 k) (own k)

    pub below-needed : (k : ℕ) → needs f s k ≡ true → below k ++ subsections f (one k) ≡ below (k + 1)
    below-needed k h =
        ap (λ (ps : List (ℕ × List ℕ)). below k ++ subsections f ps) (sym (cond-true (needs f s k) (one k) [] h))
        ∙ sym (below_more k)

    pub below_other : (k : ℕ) → needs f s k ≡ false → below k ≡ below (k + 1)
    below_other k h =
        sym (append-nil (below k))
        ∙ ap (λ (ps : List (ℕ × List ℕ)). below k ++ subsections f ps) (sym (cond-false (needs f s k) (one k) [] h))
        ∙ sym (below_more k)

    pub length-one : (k : ℕ) → length (subsections f (one k)) ≡ 6 + length (title f k) + length (f.sub k s)
    length-one k = simp length-append (omega arith)

    grows : (k n : ℕ) → length (below k) ≤ length (below (k + n))
    grows k zero = rw add-zero (omega arith)
    grows k (suc n) =
        let e : k + suc n ≡ k + n + 1 = omega arith in
        let more = ap length (below_more (k + n)) in
        let parts = length-append (below (k + n)) (subsections f (own (k + n))) in
        omega (arith, ap (λ m. length (below m)) e, grows k n)

    -- a needed subsection has its place among the others
    pub has_room :
        (k n : ℕ) → k < n → needs f s k ≡ true
        → length (below k) + (6 + length (title f k) + length (f.sub k s)) ≤ length (below n)
    has_room k n h t =
        let e : n ≡ k + 1 + (n - (k + 1)) = omega arith in
        let more = ap length (below-needed k t) in
        let parts = length-append (below k) (subsections f (one k)) in
        omega (arith, ap (λ m. length (below m)) e, grows (k + 1) (n - (k + 1)), length-one k)
