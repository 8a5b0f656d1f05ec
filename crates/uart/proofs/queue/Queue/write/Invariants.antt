use Rattle.std.proofs.Common.{◌≡◌, take}
use Rattle.uart.specs.Ring.{padded}
use Rattle.uart.proofs.queue.Queue.write.Given as goal

abbrev pub invariant-loop-place : goal.invariant-loop-place
invariant-loop-place l = take l.place l.out ≡ take l.place (padded l.self)
