-- The state that a serial port is in.
use Rattle.uart.specs.declared.port.Uart.{Uart}
use Rattle.uart.specs.declared.state.UartState.{UartState}

abbrev pub view : Uart → UartState
view u = u.state
