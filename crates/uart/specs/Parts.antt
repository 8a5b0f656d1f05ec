-- A state of the serial port with some of its parts replaced.
use Rattle.std.specs.Prelude.{ℕ, Bool, List}
use Rattle.uart.specs.declared.state.UartState.{UartState}

abbrev pub state : ℕ → ℕ → ℕ → ℕ → ℕ → ℕ → Bool → Bool → Bool → List ℕ → UartState
state dll dlm ier lcr mcr scr oe fe ti queue =
    record { dll = dll; dlm = dlm; ier = ier; lcr = lcr; mcr = mcr; scr = scr; oe = oe; fe = fe; ti = ti; queue = queue }

module _ (s : UartState) where
  -- DLL and DLM
  abbrev pub with_divisor : ℕ → ℕ → UartState
  with_divisor dll dlm =
      state dll dlm s.ier s.lcr s.mcr s.scr s.oe s.fe s.ti s.queue

  -- IER and TI
  abbrev pub with_interrupts : ℕ → Bool → UartState
  with_interrupts ier ti =
      state s.dll s.dlm ier s.lcr s.mcr s.scr s.oe s.fe ti s.queue

  -- LCR, MCR and SCR
  abbrev pub with_controls : ℕ → ℕ → ℕ → UartState
  with_controls lcr mcr scr =
      state s.dll s.dlm s.ier lcr mcr scr s.oe s.fe s.ti s.queue

  -- OE, FE and the receive queue
  abbrev pub with_receiver : Bool → Bool → List ℕ → UartState
  with_receiver oe fe queue =
      state s.dll s.dlm s.ier s.lcr s.mcr s.scr oe fe s.ti queue
