use Rattle.uart.proofs.Lawful.{obligations}
use Rattle.uart.proofs.port.stream.UartMovable.lawful.Goals as goal

pub returns : goal.returns
returns c = obligations
