-- Trees of devices: a device, or a bus of two trees. Leaves count from 0, left to right.
use Rattle.std.specs.Prelude.{ℕ, ◌+◌, ◌-◌, ◌*◌, ◌^◌, Bool, cond, nat_lt}
use Rattle.device.specs.Bytes.{flag}
use Rattle.device.specs.Kind.{Kind}
use Rattle.device.specs.Format.{Format, Carries}
use Rattle.device.specs.Obligations.{Obligations}

pub data Tree : Type 1 where
  leaf : {S : Type 0} → Kind S → Format S → Tree
  bus : Tree → Tree → Tree

-- the states of a tree: one for each leaf
abbrev pub State : Tree → Type 0
State (leaf {S} k f) = S
State (bus l r) = State l × State r

-- every leaf is in a sound state
abbrev pub Sound : (t : Tree) → State t → Type 0
Sound (leaf k f) s = k.Sound s
Sound (bus l r) s = Sound l s.0 × Sound r s.1

-- every leaf meets its obligations
abbrev pub Lawful : Tree → Type 0
Lawful (leaf k f) = Obligations k f
Lawful (bus l r) = Lawful l × Lawful r

-- edition e carries the state of every leaf
abbrev pub Carried : (t : Tree) → ℕ → State t → Type 0
Carried (leaf k f) e s = Carries f e s
Carried (bus l r) e s = Carried l e s.0 × Carried r e s.1

-- every leaf fresh
abbrev pub fresh : (t : Tree) → State t
fresh (leaf k f) = k.fresh
fresh (bus l r) = (fresh l, fresh r)

-- the addresses are the numbers below
abbrev pub width : Tree → ℕ
width (leaf k f) = k.width
width (bus l r) = width l + width r

abbrev pub leaves : Tree → ℕ
leaves (leaf k f) = 1
leaves (bus l r) = leaves l + leaves r

-- The leaf that an address belongs to, and the offset inside it: below the left tree's width it is the left tree's, else
-- the right tree's, less that width.
abbrev pub route : Tree → ℕ → ℕ × ℕ
route (leaf k f) a = (0, a)
route (bus l r) a = cond (nat_lt a (width l)) (route l a) (leaves l + (route r (a - width l)).0, (route r (a - width l)).1)

-- whether the leaf at an address has an input
abbrev pub has_input : Tree → ℕ → Bool
has_input (leaf k f) a = k.input
has_input (bus l r) a = cond (nat_lt a (width l)) (has_input l a) (has_input r (a - width l))

-- the sum of line × 2^k over the leaves k
abbrev pub lines : (t : Tree) → State t → ℕ
lines (leaf k f) s = flag (k.line s)
lines (bus l r) s = lines l s.0 + lines r s.1 * 2 ^ leaves l
