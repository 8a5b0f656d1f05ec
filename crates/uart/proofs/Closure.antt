-- Every call leaves a serial port's state sound.
use Rattle.std.proofs.Common.{ℕ, ◌≤◌, Bool, true, false, cond, ◌&&◌, ◌||◌, ltb, List, [], ◌∷◌, length, arith}
use Rattle.std.proofs.lemmas.List.{length-drop, length_push}
use Rattle.std.proofs.lemmas.Bool.{ltb-true, cond_both}
use Rattle.std.proofs.lemmas.Bool.Decides.{nat_tests}
use Rattle.device.specs.Bytes.{bit}
use Rattle.device.specs.Kind.{Closed}
use Rattle.uart.specs.Uart.{kind, capacity, Sound, register, divisor_access, read_register, write_register, feed, differ}
use Rattle.uart.specs.declared.state.UartState.{UartState}
use Rattle.uart.specs.declared.state.Register.{Register}
use Rattle.uart.specs.declared.state.Register.TheVariants.{Data, InterruptEnable, DivisorLow, DivisorHigh, Identification}
use Rattle.uart.specs.declared.state.Register.TheVariants.{LineControl, ModemControl, LineStatus, ModemStatus, Scratch}

module _ (s : UartState) (h : Sound s) where
  read-sound : (r : Register) → Sound (read_register r s).1
  read-sound r = grind (arith, nat_tests, length-drop)

  write-sound : (r : Register) (b : ℕ) → Sound (write_register r s b).1
  write-sound r b = grind (arith, nat_tests)

  feed-sound : (b : ℕ) → Sound (feed s b)
  feed-sound b = grind (arith, nat_tests, length_push)

pub closed : Closed kind
closed = record {
  fresh = record { ier = omega arith; mcr = omega arith; queue = omega arith };
  read = λ s o w h. read-sound s h (register (divisor_access s) o);
  write = λ s o b w l h. write-sound s h (register (divisor_access s) o) b;
  feed = λ s b i l h. feed-sound s h b;
  tick = λ s n l m h. h;
}
