-- Flags as bytes, lists that are the same, and fields that have passed a check.
use Rattle.std.proofs.Common.{◌≡◌, ℕ, zero, suc, ◌+◌, ◌≤◌, Bool, true, false, cond, not, eqb, leb, List, [], ◌∷◌, length, get_or, replicate, Some, None, Option, sym, refl, ap, ◌∙◌, arith}
use mir.Val.{bool_byte}
use Rattle.std.specs.List.{position, position_from}
use Rattle.std.specs.Option.{option_map}
use Rattle.std.proofs.lemmas.Iterator.Adapters.{position_from-zero}
use Rattle.std.proofs.lemmas.Bool.{false≢true, and_from, and_parts, eq-eqb, eqb-true, leb-true, not-false}
use Rattle.std.proofs.lemmas.Bool.Decides.{nat_tests}
use Rattle.std.proofs.lemmas.Slice.Eq.{bytes_eq-Decides}
use Rattle.device.specs.Bytes.{flag, same, differs}
use Rattle.uart.specs.Stream.{within, zeros}

pub flag_one : (b : Bool) → eqb (flag b) 1 ≡ b
flag_one true = refl
flag_one false = refl

pub flag-le : (b : Bool) → leb (flag b) 1 ≡ true
flag-le true = refl
flag-le false = refl

pub flag-byte : (b : Bool) → bool_byte b ≡ flag b
flag-byte true = refl
flag-byte false = refl

pub one-flag : (n : ℕ) → n ≤ 1 → flag (eqb n 1) ≡ n
one-flag n h = grind (arith, nat_tests)

pub differs-not : (xs ys : List ℕ) → xs ≡ ys → differs xs ys ≡ false
differs-not xs ys e = ap not ((bytes_eq-Decides xs ys).1 e)

pub differs_false : (xs ys : List ℕ) → differs xs ys ≡ false → xs ≡ ys
differs_false xs ys h = (bytes_eq-Decides xs ys).0 (not-false (same xs ys) h)

-- a field that is passed, and what comes after it
chosen : (ok : Bool) (k : ℕ) (rest : Option ℕ) → cond ok rest (Some k) ≡ None → (ok ≡ true) × (rest ≡ None)
chosen true k rest h = (refl, h)
chosen false k rest h = let z : ◌≡◌ {A = ℕ} 0 1 = cc in absurd (omega arith)

pub within-passed : (x : List ℕ) (k top : ℕ) (rest : Option ℕ) → within x k top rest ≡ None → (get_or x k 0 ≤ top) × (rest ≡ None)
within-passed x k top rest h =
    let p = chosen (leb (get_or x k 0) top) k rest h in
    (leb-true (get_or x k 0) top p.0, p.1)

pub zeros-none : (k n : ℕ) → zeros k (replicate n 0) ≡ None
zeros-none k zero = refl
zeros-none k (suc n) = zeros-none (k + 1) n

pub zeros-all : (k : ℕ) (xs : List ℕ) → zeros k xs ≡ None → xs ≡ replicate (length xs) 0
zeros-all k [] h = refl
zeros-all k (x ∷ xs) h =
    let p = chosen (eqb x 0) k (zeros (k + 1) xs) h in
    λ i. eqb-true x 0 p.0 i ∷ zeros-all (k + 1) xs p.1 i

-- the first that is not 0, by its place
places : (k i : ℕ) (xs : List ℕ) → option_map (λ j. k + j) (position_from (λ x. not (eqb x 0)) i xs) ≡ zeros (k + i) xs
places k i [] = refl
places k i (x ∷ xs) =
    let rest : option_map (λ j. k + j) (position_from (λ y. not (eqb y 0)) (i + 1) xs) ≡ zeros (k + i + 1) xs =
    places k (i + 1) xs ∙ ap (λ n. zeros n xs) (omega arith) in
    elim (eqb x 0) as (λ t. option_map (λ j. k + j) (cond (not t) (Some i) (position_from (λ y. not (eqb y 0)) (i + 1) xs)) ≡ cond t (zeros (k + i + 1) xs) (Some (k + i))) [
      | true ↦ rest
      | false ↦ refl
    ]

pub zeros-place :
    (k : ℕ) (xs : List ℕ) (found : Option ℕ) → found ≡ position (λ x. not (eqb x 0)) xs → option_map (λ j. k + j) found ≡ zeros k xs
zeros-place k xs found e =
    ap (option_map (λ j. k + j)) (e ∙ position_from-zero (λ x. not (eqb x 0)) xs) ∙ places k 0 xs ∙ ap (λ n. zeros n xs) (omega arith)
