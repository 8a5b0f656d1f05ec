use Rattle.uart.proofs.Closure.{closed}
use Rattle.uart.proofs.port.guest.UartDevice.closed.Goals as goal

pub returns : goal.returns
returns c = closed
