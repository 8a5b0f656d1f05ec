use Rattle.board.proofs.Judging.{judged}
use Rattle.board.proofs.stopped.Stopped.save.Goals as goal

pub returns : goal.returns
returns g c =
    let board = c.args.self.now in
    let s = g.T.Node.state board.tree in
    let answer = c.save_stream.ensures.answer in
    record {
      answer = answer;
      buffer = c.save_stream.ensures.buffer;
      judged = judged g.T.Node.model s c.args.edition c.args.buffer.now c.save_stream.result answer c.lawful.ensures
          (g.met.T.Node.sound board.tree);
    }
