-- What the calls of a guest do to a tree. They stand apart from the tree, so that a node of its own kind can have others.
use Rattle.std.specs.Prelude.{◌≡◌, ℕ, ◌-◌, ◌<◌, ◌≤◌, true, cond, Option, nat_lt}
use Rattle.device.specs.Kind.{Kind}
use Rattle.device.specs.Format.{Format}
use Rattle.tree.specs.Tree.{Tree, leaf, bus, State, Sound, fresh, width, has_input}

-- each answer and next state, from the present state and the call; read, write and feed take an address
pub record Calls (t : Tree) : Type 0 where
  pub read : State t → ℕ → ℕ × State t
  pub write : State t → ℕ → ℕ → Option ℕ × State t
  pub feed : State t → ℕ → ℕ → State t
  pub tick : State t → ℕ → State t

-- a leaf's calls are its device's
abbrev pub leaf_calls : {S : Type 0} (k : Kind S) (f : Format S) → Calls (leaf k f)
leaf_calls k f = record { read = k.read; write = k.write; feed = λ s a b. k.feed s b; tick = k.tick }

-- an answer and the next state of one side of a bus, the other as it was
abbrev pub from_left : {A L R : Type 0} → A × L → R → A × (L × R)
from_left p r = (p.0, (p.1, r))

abbrev pub from_right : {A L R : Type 0} → L → A × R → A × (L × R)
from_right l p = (p.0, (l, p.1))

-- a bus's calls: an address below the left tree's width goes left, any other right, less that width; a tick goes both ways
abbrev pub bus_calls : (l r : Tree) → Calls l → Calls r → Calls (bus l r)
bus_calls l r c d = record {
  read = λ s a.
      cond (nat_lt a (width l)) (from_left (c.read s.0 a) s.1) (from_right s.0 (d.read s.1 (a - width l)));
  write = λ s a b.
      cond (nat_lt a (width l)) (from_left (c.write s.0 a b) s.1) (from_right s.0 (d.write s.1 (a - width l) b));
  feed = λ s a b. cond (nat_lt a (width l)) (c.feed s.0 a b, s.1) (s.0, d.feed s.1 (a - width l) b);
  tick = λ s n. (c.tick s.0 n, d.tick s.1 n);
}

-- A fresh tree is sound, and every call that reaches a tree leaves it sound.
pub record Keeps (t : Tree) (c : Calls t) : Type 0 where
  pub fresh : Sound t (fresh t)
  pub read : (s : State t) (a : ℕ) → a < width t → Sound t s → Sound t (c.read s a).1
  pub write : (s : State t) (a b : ℕ) → a < width t → b < 256 → Sound t s → Sound t (c.write s a b).1
  pub feed : (s : State t) (a b : ℕ) → a < width t → has_input t a ≡ true → b < 256 → Sound t s → Sound t (c.feed s a b)
  pub tick : (s : State t) (n : ℕ) → 1 ≤ n → n ≤ 65535 → Sound t s → Sound t (c.tick s n)
