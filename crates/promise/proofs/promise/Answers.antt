use Rattle.promise.proofs.Promised.{promise}
use Rattle.promise.proofs.promise.Goals as goal

pub returns : goal.returns
returns g c = promise g.N.Node.model g.N.Node.calls c.lawful.ensures c.closed.ensures
