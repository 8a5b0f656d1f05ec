-- The bytes that a queue holds, and how they are written out.
use Rattle.std.specs.Prelude.{ℕ, zero, suc, ◌+◌, ◌-◌, ◌%◌, List, [], ◌∷◌, ◌++◌, length, replicate, slice_index}
use Rattle.uart.specs.declared.queue.Queue.TheInside.{Inside}

-- the n bytes from place h of 16 on; after the last place comes the first
abbrev pub around : List ℕ → ℕ → ℕ → List ℕ
around bytes h zero = []
around bytes h (suc n) = slice_index bytes h ∷ around bytes ((h + 1) % 16) n

-- the bytes that wait, the oldest first
abbrev pub held : Inside → List ℕ
held q = around q.bytes q.head q.count

-- a queue in 16 bytes, the oldest first, 0 beyond them
abbrev pub padded : List ℕ → List ℕ
padded q = q ++ replicate (16 - length q) 0
