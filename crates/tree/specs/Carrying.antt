-- Why an edition does not carry the state of a tree.
use Rattle.std.specs.Prelude.{ℕ, ◌+◌, Some, None, Option}
use Rattle.fault.specs.declared.Fault.{Fault}
use Rattle.section.specs.Carrying.{refusal}
use Rattle.tree.specs.Tree.{Tree, leaf, bus, State, leaves}

abbrev pub first : {A : Type 0} → Option A → Option A → Option A
first (Some a) b = Some a
first None b = b

-- the refusal of the first leaf whose state edition e does not carry; n leaves stand before the tree
abbrev pub uncarried : (t : Tree) → ℕ → ℕ → State t → Option Fault
uncarried (leaf k f) n e s = refusal f n e s
uncarried (bus l r) n e s = first (uncarried l n e s.0) (uncarried r (n + leaves l) e s.1)
