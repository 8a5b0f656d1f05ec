use Rattle.sample.proofs.Dials.{dial-obligations}
use Rattle.sample.proofs.stream.DialMovable.lawful.Goals as goal

pub returns : goal.returns
returns c = dial-obligations
