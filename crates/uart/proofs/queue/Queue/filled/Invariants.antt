use Rattle.std.proofs.Common.{◌≡◌, take}
use Rattle.uart.proofs.queue.Queue.filled.Given as goal

abbrev pub invariant-loop-byte : goal.invariant-loop-byte
invariant-loop-byte l = l.queue ≡ take l.byte-index l.bytes
