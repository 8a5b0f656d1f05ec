use Rattle.std.proofs.Common.{◌∷◌, ◌∙◌}
use Rattle.uart.proofs.Fields.{flag-byte}
use Rattle.uart.proofs.Padded.{headed}
use Rattle.uart.proofs.port.Uart.write_fifo.Goals as goal

pub returns : goal.returns
returns c =
    let flags = c.from.ensures ∙ flag-byte c.args.self.now.state.fe in
    headed c.args.out.now c.write.new.out c.from.result c.len.result c.requires
    ∙ (λ i. flags i ∷ c.len.ensures i ∷ c.write.ensures i)
