use Rattle.std.proofs.Common.{[], ◌∷◌, refl, ap, arith}
use Rattle.section.proofs.Writes.{start, step}
use Rattle.tree.specs.Stream.{header, configuration, layout, written}
use Rattle.board.proofs.stopped.Stopped.write_stream.Goals as goal

pub returns : goal.returns
returns g c =
    let t = g.T.Node.model in
    let x = written t c.args.edition (g.T.Node.state c.args.self.now.tree) in
    let is = ap (λ names. layout t names x) c.none-before.ensures in
    let head = start c.args.out.now header refl c.put-n.ensures.count (omega arith) c.put-n.ensures.buffer in
    let conf = step configuration refl head c.put-n-2.ensures.count (omega arith) c.put-n-2.ensures.buffer in
    let body = step (layout t [] x) is conf c.write_sections-n.ensures.count (omega arith)
    c.write_sections-n.ensures.buffer in
    let end = step (0 ∷ []) refl body c.put-n-3.ensures.count (omega arith) c.put-n-3.ensures.buffer in
    record { count = end.count; buffer = end.value }
