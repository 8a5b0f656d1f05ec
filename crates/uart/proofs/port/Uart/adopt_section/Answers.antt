use Rattle.std.proofs.Common.{length, refl, ap, ◌∙◌}
use Rattle.device.specs.Table.{standing}
use Rattle.uart.specs.Stream.{present}
use Rattle.uart.proofs.Places.{given}
use Rattle.uart.proofs.port.Uart.adopt_section.Goals as goal

pub returns : goal.returns
returns c =
    let subs = standing 0 c.args.subsections.now in
    let g = given _ _ refl (ap length c.latch_default-default.ensures) c.args.subsections.now c.requires in
    let fifo = ap (λ x. x.now) c.unwrap_or-fifo.ensures ∙ g.fifo in
    let latch = ap (λ x. x.now) c.unwrap_or-latch.ensures ∙ g.latch ∙ ap (present 1 subs) c.latch_default-default.ensures in
    let e = c.adopt_parts.ensures in
    cc
