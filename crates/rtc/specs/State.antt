-- A state of the clock with one part changed.
use Rattle.std.specs.Prelude.{ℕ, Bool, List}
use Rattle.rtc.specs.declared.state.RtcState.{RtcState}

abbrev pub with_index : RtcState → ℕ → RtcState
with_index s i = record { index = i; registers = s.registers; phase = s.phase; updated = s.updated }

abbrev pub with_registers : RtcState → List ℕ → RtcState
with_registers s rs = record { index = s.index; registers = rs; phase = s.phase; updated = s.updated }

abbrev pub with_phase : RtcState → ℕ → RtcState
with_phase s p = record { index = s.index; registers = s.registers; phase = p; updated = s.updated }

abbrev pub with_updated : RtcState → Bool → RtcState
with_updated s u = record { index = s.index; registers = s.registers; phase = s.phase; updated = u }
