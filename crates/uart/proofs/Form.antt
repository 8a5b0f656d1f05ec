-- The form of the serial port: its name, its subsections' names, the sizes of what it writes.
use Rattle.std.proofs.Common.{◌≡◌, ℕ, zero, suc, ◌<◌, ◌≤◌, Bool, true, ◌&&◌, ltb, leb, List, length, refl, ap, arith, rules}
use Rattle.std.specs.List.{AllByRecursion, list_all}
use Rattle.std.proofs.lemmas.List.Elements.{All-weaker, recursion_from_All}
use Rattle.std.proofs.lemmas.List.Sums.{AllPass-from_list_all}
use Rattle.std.proofs.lemmas.Bool.{and_parts, ltb-true, leb-true}
use Rattle.device.specs.Bytes.{Bytes}
use Rattle.device.specs.Format.{count, title, sub_size}
use Rattle.device.specs.Obligations.{Formed}
use Rattle.uart.specs.Uart.{kind, Sound}
use Rattle.uart.specs.Stream.{numbered, sub, default, format}
use Rattle.uart.specs.declared.state.UartState.{UartState}
use Rattle.uart.proofs.Numbers.{numbers}
use Rattle.uart.proofs.Padded.{capacity-le, padded-size}

-- the two names are of different lengths
apart : (j k : ℕ) → j < k → k < count format → title format j ≡ title format k → ⊥
apart zero (suc zero) h l e = omega (arith, ap length e)
apart zero zero h l e = omega arith
apart zero (suc (suc k)) h l e = omega arith
apart (suc j) zero h l e = omega arith
apart (suc j) (suc k) h l e = omega arith

sub-size : (s : UartState) → Sound s → (k : ℕ) → k < count format → length (sub (numbered k) s) ≡ sub_size format k
sub-size s h =
    numbers (λ k. length (sub (numbered k) s) ≡ sub_size format k)
    (ap (λ n. suc (suc n)) (padded-size s.queue (omega (arith, h.queue, capacity-le s.fe))))
    refl

default-size : (b : List ℕ) (k : ℕ) → k < count format → length (default (numbered k) b) ≡ sub_size format k
default-size b = numbers (λ k. length (default (numbered k) b) ≡ sub_size format k) refl refl

pub formed : Formed kind format
formed = record {
  name-length = (omega arith, omega arith);
  name-letters = search rules;
  width = (omega arith, omega arith);
  few = omega arith;
  title-length =
      numbers (λ k. (1 ≤ length (title format k)) × (length (title format k) ≤ 32))
      (omega arith, omega arith) (omega arith, omega arith);
  title-bytes = numbers (λ k. Bytes (title format k)) (search rules) (search rules);
  apart = apart;
  since = (omega arith, omega arith);
  last = omega arith;
  written = λ e w. omega arith;
  taken = λ e w. omega arith;
  body-small = λ v. omega arith;
  sub_small = numbers (λ k. sub_size format k ≤ 1024) (omega arith) (omega arith);
  body-size = λ v s h. refl;
  sub-size = λ k s l h. sub-size s h k l;
  complete-size = λ v b l. l;
  default-size = λ k b l n. default-size b k l;
}
