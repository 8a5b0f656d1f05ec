-- What holds of each subsection's number, one by one.
use Rattle.std.proofs.Common.{ℕ, zero, suc, ◌<◌, arith}
use Rattle.device.specs.Format.{count}
use Rattle.uart.specs.Stream.{format}

pub numbers : (P : ℕ → Type 0) → P 0 → P 1 → (k : ℕ) → k < count format → P k
numbers P fifo latch zero h = fifo
numbers P fifo latch (suc zero) h = latch
numbers P fifo latch (suc (suc k)) h = absurd (omega arith)
