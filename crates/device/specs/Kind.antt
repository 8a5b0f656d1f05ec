-- A kind of device, as its guest sees it.
use Rattle.std.specs.Prelude.{◌≡◌, ℕ, ◌<◌, ◌≤◌, Bool, true, List, Option}

-- The rules of a kind over its states S: each answer and next state, from the present state and the call alone.
pub record Kind (S : Type 0) : Type 1 where
  pub name : List ℕ  -- the letters of its name
  pub width : ℕ  -- its offsets are the numbers below
  pub input : Bool  -- whether bytes can be fed to it
  pub fresh : S
  pub read : S → ℕ → ℕ × S  -- state and offset; the byte answered, and the next state
  pub write : S → ℕ → ℕ → Option ℕ × S  -- state, offset and byte; the byte that leaves the panel, or none
  pub feed : S → ℕ → S
  pub tick : S → ℕ → S
  pub line : S → Bool
  pub Sound : S → Type 0  -- the states that the calls can reach and a load can give

-- Every call that reaches a device leaves a sound state sound.
pub record Closed {S : Type 0} (kind : Kind S) : Type 0 where
  pub fresh : kind.Sound kind.fresh
  pub read : (s : S) (o : ℕ) → o < kind.width → kind.Sound s → kind.Sound (kind.read s o).1
  pub write : (s : S) (o b : ℕ) → o < kind.width → b < 256 → kind.Sound s → kind.Sound (kind.write s o b).1
  pub feed : (s : S) (b : ℕ) → kind.input ≡ true → b < 256 → kind.Sound s → kind.Sound (kind.feed s b)
  pub tick : (s : S) (n : ℕ) → 1 ≤ n → n ≤ 65535 → kind.Sound s → kind.Sound (kind.tick s n)
