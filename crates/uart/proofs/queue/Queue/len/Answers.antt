use Rattle.std.proofs.Common.{length, sym, ap, ◌∙◌}
use Rattle.uart.proofs.Rings.{around-length}
use Rattle.uart.proofs.queue.Queue.len.Goals as goal

pub returns : goal.returns
returns c =
    let q = c.self.inside in
    sym (around-length q.bytes q.head q.count) ∙ ap length c.self.view_is
