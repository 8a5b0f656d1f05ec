-- What the serial port owes so that its states can be moved.
use Rattle.std.proofs.Common.{arith}
use Rattle.device.specs.Format.{latest}
use Rattle.device.specs.Obligations.{Obligations}
use Rattle.uart.specs.Uart.{kind}
use Rattle.uart.specs.Stream.{numbered, format, state_of, standing}
use Rattle.uart.proofs.Form.{formed}
use Rattle.uart.proofs.Written.{body-passes, sub-passes, returns}
use Rattle.uart.proofs.Adopted.{adopted}
use Rattle.uart.proofs.Editions.{stays-known, fresh-carried, all-carried}

pub obligations : Obligations kind format
obligations = record {
  formed = formed;
  body-passes = λ e e' s w w' h c t. body-passes s h;
  sub-passes = λ e e' k s w w' h c t l n m. sub-passes s h (numbered k);
  returns = λ e s w h c. returns s h 1;
  adopts = λ e x w t o p. (state_of x.body (standing x 0) (standing x 1), adopted x p);
  takes-own = λ e l h. record { low = omega arith; high = omega arith };
  stays-known = λ e k l h n. stays-known e (numbered k);
  fresh-carried = λ e l h. fresh-carried e;
  latest-carries = λ s h. all-carried latest s (omega arith);
}
