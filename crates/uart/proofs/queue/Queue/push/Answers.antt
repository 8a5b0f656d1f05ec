use Rattle.std.proofs.Common.{◌<◌, ◌∷◌, [], ◌++◌, length, ap, ◌∙◌, arith, rules}
use Rattle.uart.proofs.Rings.{around-length, around-push}
use Rattle.uart.proofs.queue.Queue.push.Goals as goal

pub returns : goal.returns
returns c =
    let q = c.self.inside in
    let held = around-length q.bytes q.head q.count in
    let waiting = ap length c.self.view_is in
    let room : q.count < 16 = omega arith in
    around-push q.bytes c.args.byte (search rules) q.head q.count c.self.invariant.0 room
    ∙ ap (λ bytes. bytes ++ c.args.byte ∷ []) c.self.view_is
