-- The lines of a tree, of which a number of sixteen bits shows the first sixteen.
use Rattle.std.proofs.Common.{◌≡◌, ℕ, ◌+◌, ◌-◌, ◌*◌, ◌/◌, ◌%◌, ◌^◌, ◌<◌, ◌≤◌, min, Bool, true, false, sym, ap, ◌∙◌, mul-le-mul_right, mod-eq_of_lt, mul_assoc, mul_comm, add-mul, one-mul, arith, lit<, pow_mono, pow-add}
use native.Mathlib.Nat.{mod-add-div', add-mul-mod_self_right}
use native.Mathlib.Nat.{mod-add-mod, add-mod-mod}
use Rattle.std.proofs.lemmas.Nat.{mul-mod_first, mul-add-lt}
use Rattle.device.specs.Bytes.{flag}
use Rattle.tree.specs.Tree.{Tree, leaf, bus, State, leaves, lines}

-- both trees' lines, the right tree's behind the n leaves of the left, where k of them fit
pub joined : (l r n k : ℕ) → k ≡ min n 18446744073709551615 → k < 16 → (l % 65536 + (r % 65536 * 2 ^ k) % 65536) % 65536 ≡ (l + r * 2 ^ n) % 65536
joined l r n k e h =
    let n-is : k ≡ n = omega arith in
    ap (λ x. (l % 65536 + x) % 65536) (mul-mod_first r (2 ^ k) 65536)
    ∙ mod-add-mod l 65536 ((r * 2 ^ k) % 65536)
    ∙ add-mod-mod l (r * 2 ^ k) 65536
    ∙ ap (λ x. (l + r * 2 ^ x) % 65536) n-is

-- sixteen leaves and more on the left leave no place for the right tree's lines
pub left_alone : (l r n k : ℕ) → k ≡ min n 18446744073709551615 → 16 ≤ k → l % 65536 ≡ (l + r * 2 ^ n) % 65536
left_alone l r n k e h =
    let whole : n - 16 + 16 ≡ n = omega arith in
    let factor : r * 2 ^ n ≡ r * 2 ^ (n - 16) * 65536 = ap (λ x. r * 2 ^ x) (sym whole) ∙ ap (λ x. r * x) (pow-add 2 (n - 16) 16) ∙ sym (mul_assoc r (2 ^ (n - 16)) 65536) in
    sym (add-mul-mod_self_right l (r * 2 ^ (n - 16)) 65536) ∙ ap (λ x. (l + x) % 65536) (sym factor)

-- two numbers of m and n bits, side by side
side_by_side : (a b m n : ℕ) → a < 2 ^ m → b < 2 ^ n → a + b * 2 ^ m < 2 ^ (m + n)
side_by_side a b m n p q =
    omega (arith, pow-add 2 m n, mul-add-lt b (2 ^ m) a (2 ^ n) q p)

flag_small : (b : Bool) → flag b < 2
flag_small true = lit< tt
flag_small false = lit< tt

-- a tree has a line for each leaf
lines-few : (t : Tree) (s : State t) → lines t s < 2 ^ leaves t
lines-few (leaf k f) s = flag_small (k.line s)
lines-few (bus l r) s = side_by_side (lines l s.0) (lines r s.1) (leaves l) (leaves r) (lines-few l s.0) (lines-few r s.1)

-- sixteen bits show the lines of sixteen leaves
pub all_shown : (t : Tree) (s : State t) → leaves t ≤ 16 → lines t s % 65536 ≡ lines t s
all_shown t s h = mod-eq_of_lt (omega (arith, lines-few t s, pow_mono h))
