use Rattle.rtc.proofs.Worked as worked
use Rattle.rtc.proofs.midnight.Goals as goal

pub returns : goal.returns
returns c = worked.midnight
