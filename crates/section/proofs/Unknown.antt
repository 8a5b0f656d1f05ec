-- The first needed subsection that an edition does not know, found in a list.
use Rattle.std.proofs.Common.{◌≡◌, ℕ, zero, suc, ◌+◌, Bool, true, false, cond, not, ◌&&◌, List, [], ◌∷◌, length, map, Some, None, Option, sym, refl, ap, ◌∙◌, add-one, arith}
use Rattle.std.specs.List.{range_with_len, find}
use Rattle.std.specs.Option.{option_map}
use Rattle.device.specs.Format.{Format, needs, unknown_from}

module _ {S A : Type 0} (f : Format S) (e : ℕ) (s : S) (number : A → ℕ) where
  abbrev pub bars : A → Bool
  bars x = needs f s (number x) && not ((f.edition e).knows (number x))

  first : (b : Bool) (x : A) (k : ℕ) (o : Option A) (r : Option ℕ) → number x ≡ k → option_map number o ≡ r → option_map number (cond b (Some x) o) ≡ cond b (Some k) r
  first true x k o r h rest = ap Some h
  first false x k o r h rest = rest

  pub find-unknown :
      (k n : ℕ) (xs : List A) → map number xs ≡ range_with_len k n → option_map number (find bars xs) ≡ unknown_from f e s k n
  find-unknown k zero [] h = refl
  find-unknown k (suc n) [] h = let l = ap length h in absurd (omega arith)
  find-unknown k zero (x ∷ xs) h = let l = ap length h in absurd (omega arith)
  find-unknown k (suc n) (x ∷ xs) h =
      let head : number x ≡ k = cc in
      let next : map number xs ≡ range_with_len (k + 1) n = cc in
      let tail = next ∙ ap (λ j. range_with_len j n) (add-one k) in
      ap (λ j. option_map number (cond (needs f s j && not ((f.edition e).knows j)) (Some x) (find bars xs))) head
      ∙ first _ x k _ _ head (find-unknown (suc k) n xs tail)
