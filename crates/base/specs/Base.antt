-- The base board: a bus of a serial port, at addresses 0 to 7, and a clock, at 8 and 9.
use Rattle.board.specs.declared.running.Running.{Running}
use Rattle.tree.specs.Tree.{Tree, leaf, bus, State}
use Rattle.tree.specs.declared.bus.Bus.{Bus}
use Rattle.tree.specs.declared.leaf.Leaf.{Leaf}
use Rattle.tree.specs.Calls.{Calls, leaf_calls, bus_calls}
use Rattle.uart.specs.Uart as uart
use Rattle.uart.specs.Stream as uart-stream
use Rattle.uart.specs.View.{view}
use Rattle.uart.specs.declared.port.Uart.{Uart}
use Rattle.rtc.specs.Rtc as rtc
use Rattle.rtc.specs.Stream as rtc-stream
use Rattle.rtc.specs.declared.Rtc.{Rtc}

abbrev pub port : Tree
port = leaf uart.kind uart-stream.format

abbrev pub clock : Tree
clock = leaf (rtc.kind rtc.ticks_per_second) (rtc-stream.format rtc.ticks_per_second)

abbrev pub base : Tree
base = bus port clock

abbrev pub calls : Calls base
calls =
    bus_calls port clock (leaf_calls uart.kind uart-stream.format)
    (leaf_calls (rtc.kind rtc.ticks_per_second) (rtc-stream.format rtc.ticks_per_second))

-- the state of the devices of a running base board
abbrev pub devices : Running (Bus (Leaf Uart) (Leaf Rtc)) → State base
devices b = (view b.tree.left.device, b.tree.right.device.state)
