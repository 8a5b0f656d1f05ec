use Rattle.std.proofs.Common.{lit≤}
use Rattle.rtc.specs.Rtc.{ticks_per_second}
use Rattle.rtc.proofs.Soundness as sound
use Rattle.rtc.proofs.RtcDevice.closed.Goals as goal

pub returns : goal.returns
returns c = sound.closed ticks_per_second (lit≤ tt)
