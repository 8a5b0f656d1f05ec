use Rattle.reading.proofs.Whole.{accepts, returns as returning}
use Rattle.reading.proofs.Fitting.{fits}
use Rattle.reading.proofs.streams.Goals as goal

pub returns : goal.returns
returns g c =
    let t = g.N.Node.model in
    let lawful = c.lawful.ensures in
    record { accepts = accepts t lawful; returns = returning t lawful; fits = fits t lawful }
