-- Worked boards: what the rules come to on the base board in some cases that can be followed by hand.
use Rattle.std.specs.Prelude.{◌≡◌, ℕ, ◌≤◌, List, [], ◌∷◌, length, Ok, Err}
use Rattle.fault.specs.declared.Fault.TheVariants.{SubsectionNotCarried}
use Rattle.tree.specs.Tree.{State, fresh}
use Rattle.board.specs.Guest.{reading, writing, feeding}
use Rattle.board.specs.Saving.{saving, answer_of}
use Rattle.base.specs.Base.{base, calls}
use Rattle.rtc.specs.Worked.{Midnight}

-- the devices after bytes are fed to the serial port, one after the other
abbrev pub fed : State base → List ℕ → State base
fed s [] = s
fed s (b ∷ bs) = fed (feeding calls s 0 b).1 bs

-- a fresh board with the FIFO enabled, after these bytes came in
abbrev pub received : List ℕ → State base
received bs = fed (writing calls (fresh base) 2 1).1 bs

-- a save at edition e answers n bytes, into any buffer that holds them
abbrev pub Saves : State base → ℕ → ℕ → Type 0
Saves s e n = (buffer : List ℕ) → n ≤ length buffer → answer_of (saving base s e buffer) ≡ Ok n

-- the transmitter's interrupt enabled, and then read away
abbrev pub enabled : State base
enabled = (writing calls (fresh base) 1 0x02).1

abbrev pub acknowledged : State base
acknowledged = (reading calls enabled 2).1

pub record Worked : Type 0 where
  -- the transmitter's interrupt is pending as soon as it is enabled
  pub pending : (reading calls enabled 2).0 ≡ Ok 0x02
  -- seventeen bytes are one too many: a first read of the line status shows the overrun, a second does not
  pub overrun : (bs : List ℕ) → length bs ≡ 17 → (reading calls (received bs) 5).0 ≡ Ok 0x63
  pub cleared : (bs : List ℕ) → length bs ≡ 17 → (reading calls (reading calls (received bs) 5).1 5).0 ≡ Ok 0x61
  -- an update at 23:59:59 gives 00:00:00 and sets the update flag
  pub midnight : Midnight
  -- the streams of a fresh board
  pub fresh-1 : Saves (fresh base) 1 138
  pub fresh-2 : Saves (fresh base) 2 138
  pub fresh-3 : Saves (fresh base) 3 139
  -- an enabled interrupt that is pending needs no latch; once it is read away, edition 1 does not carry it
  pub enabled-1 : Saves enabled 1 138
  pub acknowledged-1 : (buffer : List ℕ) → answer_of (saving base acknowledged 1 buffer) ≡ Err (SubsectionNotCarried 0 1)
  pub acknowledged-2 : Saves acknowledged 2 155
