use Rattle.std.proofs.Common.{lit≤}
use Rattle.rtc.specs.Rtc.{ticks_per_second}
use Rattle.rtc.proofs.Moves.{obligations}
use Rattle.rtc.proofs.stream.RtcMovable.lawful.Goals as goal

pub returns : goal.returns
returns c = obligations ticks_per_second (lit≤ tt)
