use Rattle.rtc.proofs.DayTime.{keeps_time}
use Rattle.rtc.proofs.keeps_time.Goals as goal

pub returns : goal.returns
returns c = keeps_time
