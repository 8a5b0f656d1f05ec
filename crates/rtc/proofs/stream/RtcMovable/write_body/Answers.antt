use Rattle.std.proofs.Common.{◌≡◌, length, take, sym, ap, ◌∙◌, ap₂, rules}
use Rattle.rtc.proofs.Bodies.{begins}
use Rattle.rtc.proofs.stream.RtcMovable.write_body.Goals as goal

pub returns : goal.returns
returns c =
    let n : length c.body.result ≡ 68 = search rules in
    let is = c.body.ensures in
    c.copy_from_slice.ensures.after ∙ ap₂ take c.size.ensures is
    ∙ begins c.args.version c.args.self.now.state (ap length (sym is) ∙ n)
