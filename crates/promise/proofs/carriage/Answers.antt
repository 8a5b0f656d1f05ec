use Rattle.promise.proofs.Carrying.{carriage}
use Rattle.promise.proofs.carriage.Goals as goal

pub returns : goal.returns
returns g c = carriage g.N.Node.model c.lawful.ensures
