-- The 16550A serial port as its guest sees it: its state, its registers, its kind.
use Rattle.std.specs.Prelude.{ℕ, ◌+◌, ◌%◌, ◌<◌, ◌≤◌, Bool, true, false, cond, not, ◌&&◌, ◌||◌, [], ◌∷◌, ◌++◌, length, drop, is_some, Some, None, codes, Option, ◌==◌, nat_lt, slice_index}
use Rattle.device.specs.Bytes.{bit, flag}
use Rattle.device.specs.Kind.{Kind}
use Rattle.uart.specs.Parts.{state, with_divisor, with_interrupts, with_controls, with_receiver}
use Rattle.uart.specs.declared.state.UartState.{UartState}
use Rattle.uart.specs.declared.state.Register.{Register}
use Rattle.uart.specs.declared.state.Register.TheVariants.{Data, InterruptEnable, DivisorLow, DivisorHigh, Identification}
use Rattle.uart.specs.declared.state.Register.TheVariants.{LineControl, ModemControl, LineStatus, ModemStatus, Scratch}
use Rattle.uart.specs.declared.state.Interrupt.{Interrupt}
use Rattle.uart.specs.declared.state.Interrupt.TheVariants.{Overrun, Received, TransmitterEmpty}

-- ## State

abbrev pub fresh : UartState
fresh = state 0 0 0 0 0 0 false false false []

-- how many bytes the queue holds, by FE
abbrev pub capacity : Bool → ℕ
capacity fe = cond fe 16 1

pub record Sound (s : UartState) : Type 0 where
  pub ier : s.ier < 16
  pub mcr : s.mcr < 32
  pub queue : length s.queue ≤ capacity s.fe

abbrev pub waiting : UartState → Bool
waiting s = nat_lt 0 (length s.queue)

-- ## Interrupts

-- of the enabled interrupts, the one that comes first
abbrev pub pending : UartState → Option Interrupt
pending s =
    cond (bit 2 s.ier && s.oe) (Some Overrun)
    (cond (bit 0 s.ier && waiting s) (Some Received)
    (cond (bit 1 s.ier && s.ti) (Some TransmitterEmpty)
    None))

-- the number that a guest reads for the pending interrupt
abbrev pub identification : Option Interrupt → ℕ
identification (Some Overrun) = 6
identification (Some Received) = 4
identification (Some TransmitterEmpty) = 2
identification None = 1

-- TI once the identification has been read: to read that of the transmitter's interrupt clears it
abbrev pub acknowledged : Option Interrupt → Bool → Bool
acknowledged (Some Overrun) ti = ti
acknowledged (Some Received) ti = ti
acknowledged (Some TransmitterEmpty) ti = false
acknowledged None ti = ti

abbrev pub line : UartState → Bool
line s = is_some (pending s)

-- ## Registers

-- while it is set, offsets 0 and 1 reach the divisor
abbrev pub divisor_access : UartState → Bool
divisor_access s = bit 7 s.lcr

-- what an offset reaches, by the divisor access bit
abbrev pub register : Bool → ℕ → Register
register access o =
    cond (o == 0) (cond access DivisorLow Data)
    (cond (o == 1) (cond access DivisorHigh InterruptEnable)
    (cond (o == 2) Identification
    (cond (o == 3) LineControl
    (cond (o == 4) ModemControl
    (cond (o == 5) LineStatus
    (cond (o == 6) ModemStatus
    Scratch))))))

-- reading takes the oldest byte, 0 if none waits
abbrev pub read_data : UartState → ℕ × UartState
read_data s = (slice_index s.queue 0, with_receiver s s.oe s.fe (drop 1 s.queue))

abbrev pub read_identification : UartState → ℕ × UartState
read_identification s =
    (identification (pending s) + cond s.fe 0xC0 0, with_interrupts s s.ier (acknowledged (pending s) s.ti))

-- reading clears OE
abbrev pub read_line_status : UartState → ℕ × UartState
read_line_status s = (0x60 + flag (waiting s) + cond s.oe 2 0, with_receiver s false s.fe s.queue)

abbrev pub read_register : Register → UartState → ℕ × UartState
read_register Data s = read_data s
read_register InterruptEnable s = (s.ier, s)
read_register DivisorLow s = (s.dll, s)
read_register DivisorHigh s = (s.dlm, s)
read_register Identification s = read_identification s
read_register LineControl s = (s.lcr, s)
read_register ModemControl s = (s.mcr, s)
read_register LineStatus s = read_line_status s
read_register ModemStatus s = (0xB0, s)
read_register Scratch s = (s.scr, s)

abbrev pub read : UartState → ℕ → ℕ × UartState
read s o = read_register (register (divisor_access s) o) s

-- enabling the transmitter's interrupt sets TI
abbrev pub write_enable : UartState → ℕ → UartState
write_enable s b = with_interrupts s (b % 16) (s.ti || (not (bit 1 s.ier) && bit 1 b))

-- two flags are not the same
abbrev pub differ : Bool → Bool → Bool
differ a b = cond a (not b) b

-- bit 0 becomes FE; a change of it, or bit 1 beside bit 0, empties the queue
abbrev pub write_control : UartState → ℕ → UartState
write_control s b =
    with_receiver s s.oe (bit 0 b) (cond (differ s.fe (bit 0 b) || (bit 0 b && bit 1 b)) [] s.queue)

-- a byte that is written to the data register leaves at once, and the transmitter is empty again
abbrev pub write_register : Register → UartState → ℕ → Option ℕ × UartState
write_register Data s b = (Some b, with_interrupts s s.ier true)
write_register InterruptEnable s b = (None, write_enable s b)
write_register DivisorLow s b = (None, with_divisor s b s.dlm)
write_register DivisorHigh s b = (None, with_divisor s s.dll b)
write_register Identification s b = (None, write_control s b)
write_register LineControl s b = (None, with_controls s b s.mcr s.scr)
write_register ModemControl s b = (None, with_controls s s.lcr (b % 32) s.scr)
write_register LineStatus s b = (None, s)
write_register ModemStatus s b = (None, s)
write_register Scratch s b = (None, with_controls s s.lcr s.mcr b)

abbrev pub write : UartState → ℕ → ℕ → Option ℕ × UartState
write s o b = write_register (register (divisor_access s) o) s b

-- ## Input

-- at a full queue OE is set; the byte is lost with FE set, and replaces the old one with FE clear
abbrev pub feed : UartState → ℕ → UartState
feed s b =
    cond (nat_lt (length s.queue) (capacity s.fe))
    (with_receiver s s.oe s.fe (s.queue ++ b ∷ []))
    (with_receiver s true s.fe (cond s.fe s.queue (b ∷ [])))

-- ## Kind

abbrev pub kind : Kind UartState
kind = record {
  name = codes "uart";
  width = 8;
  input = true;
  fresh = fresh;
  read = read;
  write = write;
  feed = feed;
  tick = λ s n. s;
  line = line;
  Sound = Sound;
}
