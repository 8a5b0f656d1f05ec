-- Bits, bytes and the numbers that bytes stand for.
use Rattle.std.specs.Prelude.{ℕ, ◌+◌, ◌*◌, ◌/◌, ◌%◌, ◌^◌, ◌<◌, Bool, true, false, cond, not, ◌&&◌, List, [], ◌∷◌, ◌==◌}
use Rattle.std.specs.List.{AllByRecursion}
use Rattle.std.specs.Str.{bytes_eq}

-- bit k of a number, bit 0 the lowest
abbrev pub bit : ℕ → ℕ → Bool
bit k n = n / 2 ^ k % 2 == 1

-- a flag as a number
abbrev pub flag : Bool → ℕ
flag b = cond b 1 0

-- each number of a list is a byte
abbrev pub Bytes : List ℕ → Type 0
Bytes bs = AllByRecursion (λ b. b < 256) bs

-- a number as four bytes, the highest first
abbrev pub four : ℕ → List ℕ
four n = (n / 16777216) % 256 ∷ (n / 65536) % 256 ∷ (n / 256) % 256 ∷ n % 256 ∷ []

-- the number that bytes stand for after those that stand for n, the highest first
abbrev pub value_from : ℕ → List ℕ → ℕ
value_from n [] = n
value_from n (b ∷ bs) = value_from (n * 256 + b) bs

-- the number that bytes stand for, the highest first
abbrev pub value : List ℕ → ℕ
value bs = value_from 0 bs

-- whether two lists have the same numbers
abbrev pub same : List ℕ → List ℕ → Bool
same = bytes_eq

abbrev pub differs : List ℕ → List ℕ → Bool
differs xs ys = not (same xs ys)

-- the sum of sizes
abbrev pub total : List ℕ → ℕ
total [] = 0
total (n ∷ ns) = n + total ns
