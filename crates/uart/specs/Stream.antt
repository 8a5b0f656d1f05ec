-- How the states of the serial port travel: its body, its subsections, its editions.
use Rattle.std.specs.Prelude.{ℕ, ◌+◌, Bool, cond, not, ◌&&◌, List, [], ◌∷◌, length, take, drop, replicate, is_some, Some, None, codes, Option, ◌==◌, nat_le, slice_index}
use Rattle.device.specs.Bytes.{bit, flag}
use Rattle.device.specs.Format.{Edition, Section, Subsection, Format}
use Rattle.uart.specs.Ring.{padded}
use Rattle.uart.specs.Uart.{capacity}
use Rattle.uart.specs.declared.state.UartState.{UartState}
use Rattle.uart.specs.declared.state.UartSubsection.{UartSubsection}
use Rattle.uart.specs.declared.state.UartSubsection.TheVariants.{Fifo, Latch}

-- ## The body

-- DLL, DLM, IER, LCR, MCR, SCR, OE
abbrev pub body : UartState → List ℕ
body s = s.dll ∷ s.dlm ∷ s.ier ∷ s.lcr ∷ s.mcr ∷ s.scr ∷ flag s.oe ∷ []

-- every version has every field
abbrev pub complete : ℕ → List ℕ → List ℕ
complete v b = b

-- field k is at most `top`, or it is refused before the rest is looked at
abbrev pub within : List ℕ → ℕ → ℕ → Option ℕ → Option ℕ
within x k top rest = cond (nat_le (slice_index x k) top) rest (Some k)

-- the first refused field of a complete body: IER, MCR and OE have spans of their own
abbrev pub check_body : List ℕ → Option ℕ
check_body b =
    within b 2 15
    (within b 4 31
    (within b 6 1
    None))

-- ## The subsections

-- a subsection by its number, and its number
abbrev pub numbered : ℕ → UartSubsection
numbered k = cond (k == 0) Fifo Latch

abbrev pub number : UartSubsection → ℕ
number Fifo = 0
number Latch = 1

abbrev pub subsections : List Subsection
subsections =
    record { title = codes "uart/fifo"; fields = replicate 18 1 }
    ∷ record { title = codes "uart/latch"; fields = 1 ∷ [] }
    ∷ []

-- FE, count, bytes; TI
abbrev pub sub : UartSubsection → UartState → List ℕ
sub Fifo s = flag s.fe ∷ length s.queue ∷ padded s.queue
sub Latch s = flag s.ti ∷ []

-- an empty queue with FE clear; TI as IER bit 1
abbrev pub default : UartSubsection → List ℕ → List ℕ
default Fifo b = replicate 18 0
default Latch b = flag (bit 1 (slice_index b 2)) ∷ []

-- the fields are 0, or the first that is not is refused; k is the first one's number
abbrev pub zeros : ℕ → List ℕ → Option ℕ
zeros k [] = None
zeros k (x ∷ xs) = cond (x == 0) (zeros (k + 1) xs) (Some k)

-- the count is at most what the queue holds, and the bytes beyond it are 0
abbrev pub check_sub : UartSubsection → List ℕ → Option ℕ
check_sub Fifo x =
    within x 0 1
    (within x 1 (capacity (slice_index x 0 == 1))
    (zeros (2 + slice_index x 1) (drop (2 + slice_index x 1) x)))
check_sub Latch x = within x 0 1 None

-- ## Adopting

-- of subsections with their numbers, the one of number k, or else x
abbrev pub present : ℕ → List (ℕ × List ℕ) → List ℕ → List ℕ
present k [] x = x
present k (p ∷ ps) x = cond (p.0 == k) p.1 (present k ps x)

-- the state of a complete body and the two subsections
abbrev pub state_of : List ℕ → List ℕ → List ℕ → UartState
state_of b fifo latch = record {
  dll = slice_index b 0;
  dlm = slice_index b 1;
  ier = slice_index b 2;
  lcr = slice_index b 3;
  mcr = slice_index b 4;
  scr = slice_index b 5;
  oe = (slice_index b 6 == 1);
  fe = (slice_index fifo 0 == 1);
  ti = (slice_index latch 0 == 1);
  queue = take (slice_index fifo 1) (drop 2 fifo);
}

abbrev pub passing : List ℕ → List ℕ → List ℕ → Bool
passing b fifo latch =
    not (is_some (check_body b)) && (not (is_some (check_sub Fifo fifo)) && not (is_some (check_sub Latch latch)))

-- adopting fails where the check does
abbrev pub adopt_parts : List ℕ → List ℕ → List ℕ → Option UartState
adopt_parts b fifo latch = cond (passing b fifo latch) (Some (state_of b fifo latch)) None

-- what a section says of subsection k: its own bytes, or the default
abbrev pub standing : Section → ℕ → List ℕ
standing x k = present k x.subs (default (numbered k) (complete x.version x.body))

abbrev pub adopt : Section → Option UartState
adopt x = adopt_parts (complete x.version x.body) (standing x 0) (standing x 1)

-- ## Editions

-- the first edition that knows a subsection
abbrev pub known_from : UartSubsection → ℕ
known_from Fifo = 1
known_from Latch = 2

-- every edition writes and takes version 1
abbrev pub edition : ℕ → Edition
edition e = record {
  writes = 1;
  lowest = 1;
  highest = 1;
  knows = λ k. nat_le (known_from (numbered k)) e;
}

-- ## Format

abbrev pub format : Format UartState
format = record {
  since = 1;
  last = 1;
  fields = λ v. replicate 7 1;
  subsections = subsections;
  edition = edition;
  body = λ v s. body s;
  sub = λ k s. sub (numbered k) s;
  complete = complete;
  default = λ k b. default (numbered k) b;
  check = λ v b. check_body (complete v b);
  check_sub = λ v b k x. check_sub (numbered k) x;
  adopt = adopt;
}
