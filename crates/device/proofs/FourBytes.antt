-- Numbers of four bytes: a number is the value of its bytes, and bytes are those of their value.
use Rattle.std.proofs.Common.{◌≡◌, ℕ, ◌+◌, ◌*◌, ◌/◌, ◌%◌, ◌^◌, ◌<◌, List, [], ◌∷◌, length, get_or, ap, ◌∙◌, arith}
use Rattle.std.proofs.lemmas.Nat.{from_be_bytes-to_be_bytes_4}
use Rattle.device.specs.Bytes.{Bytes, four, value}

value-is : (a b c d : ℕ) → value (a ∷ b ∷ c ∷ d ∷ []) ≡ a * 16777216 + b * 65536 + c * 256 + d
value-is a b c d = omega arith

-- what holds of every four numbers holds of a list of length four
fours :
    (P : List ℕ → Type 0) → ((a b c d : ℕ) → P (a ∷ b ∷ c ∷ d ∷ [])) → (xs : List ℕ) → length xs ≡ 4 → P xs
fours P h [] e = absurd (omega arith)
fours P h (a ∷ []) e = absurd (omega arith)
fours P h (a ∷ b ∷ []) e = absurd (omega arith)
fours P h (a ∷ b ∷ c ∷ []) e = absurd (omega arith)
fours P h (a ∷ b ∷ c ∷ d ∷ []) e = h a b c d
fours P h (a ∷ b ∷ c ∷ d ∷ f ∷ xs) e = absurd (omega arith)

pub value-at :
    (xs : List ℕ) → length xs ≡ 4
    → value xs ≡ get_or xs 0 0 * 16777216 + get_or xs 1 0 * 65536 + get_or xs 2 0 * 256 + get_or xs 3 0
value-at =
    fours (λ xs. value xs ≡ get_or xs 0 0 * 16777216 + get_or xs 1 0 * 65536 + get_or xs 2 0 * 256 + get_or xs 3 0) value-is

pub ruleset values = (value-at)

pub value-four : (n : ℕ) → n < 2 ^ 32 → value (four n) ≡ n
value-four n h = value-is _ _ _ _ ∙ from_be_bytes-to_be_bytes_4 n h

four-value-is : (a b c d : ℕ) → Bytes (a ∷ b ∷ c ∷ d ∷ []) → four (value (a ∷ b ∷ c ∷ d ∷ [])) ≡ a ∷ b ∷ c ∷ d ∷ []
four-value-is a b c d h =
    let n = a * 16777216 + b * 65536 + c * 256 + d in
    let p : (n / 16777216) % 256 ≡ a = omega arith in
    let q : (n / 65536) % 256 ≡ b = omega arith in
    let r : (n / 256) % 256 ≡ c = omega arith in
    let s : n % 256 ≡ d = omega arith in
    ap four (value-is a b c d) ∙ (cc)

pub four-value : (xs : List ℕ) → length xs ≡ 4 → Bytes xs → four (value xs) ≡ xs
four-value = fours (λ xs. Bytes xs → four (value xs) ≡ xs) four-value-is
