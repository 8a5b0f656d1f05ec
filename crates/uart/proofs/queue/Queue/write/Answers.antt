use Rattle.std.proofs.Common.{◌≡◌, ◌<◌, ◌≤◌, length, get_or, ap, ◌∙◌, arith}
use Rattle.uart.proofs.Padded.{written-more, written_all}
use Rattle.uart.proofs.Rings.{around-length, around-at, around-past}
use Rattle.uart.proofs.queue.Queue.write.Goals as goal
use Rattle.uart.proofs.queue.Queue.write.Goals.{then-place-self, else-place-self}

pub loop-place-preserved : goal.loop-place-preserved
loop-place-preserved c =
    let q = c.self.inside in
    let i = c.loop-place.place in
    let size = around-length q.bytes q.head q.count in
    let waiting = ap length c.self.view_is in
    let few : length c.args.self.now ≤ 16 = omega arith in
    let room : length c.loop-place.out ≡ 16 = omega arith in
    let inside : i < 16 = omega arith in
    let seen = ap (λ bytes. get_or bytes i 0) c.self.view_is in
    let byte : c.if-place-self.byte ≡ get_or c.args.self.now i 0 = elim c.if-place-self.branch [
      | then-place-self w ↦ w.byte-is ∙ around-at q.bytes q.head q.count i c.self.invariant.0 w.if-place-self.true ∙ seen
      | else-place-self w ↦ w.byte-is ∙ around-past q.bytes q.head q.count i w.if-place-self.false ∙ seen
    ] in
    written-more c.args.self.now c.loop-place.out few room i _ inside byte c.loop-place.invariant

pub returns : goal.returns
returns c =
    let q = c.self.inside in
    let size = around-length q.bytes q.head q.count in
    let waiting = ap length c.self.view_is in
    let few : length c.args.self.now ≤ 16 = omega arith in
    let room : length c.loop-place.out ≡ 16 = omega arith in
    let over : 16 ≤ c.loop-place.place = omega arith in
    written_all c.args.self.now c.loop-place.out few room c.loop-place.place over c.loop-place.invariant
