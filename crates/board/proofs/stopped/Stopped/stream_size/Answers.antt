use Rattle.std.proofs.Common.{arith}
use Rattle.board.proofs.Streams.{length-stream}
use Rattle.board.proofs.stopped.Stopped.stream_size.Goals as goal

pub returns : goal.returns
returns g c =
    let size = length-stream g.T.Node.model c.args.edition (g.T.Node.state c.args.self.now.tree) in
    record { value = omega arith; parts = omega arith }
