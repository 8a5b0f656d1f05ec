use Rattle.std.proofs.Common.{sym, ◌∙◌}
use Rattle.rtc.proofs.Bodies.{off-default}
use Rattle.rtc.proofs.stream.RtcMovable.off_default.Goals as goal

pub returns : goal.returns
returns c =
    let d = c.args.self.now in
    c.left_out.ensures ∙ sym (off-default c.args.version d.state d.sound.1)
