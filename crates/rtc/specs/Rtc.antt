-- The clock chip MC146818, as its guest sees it.
use Rattle.std.specs.Prelude.{◌≡◌, ℕ, zero, suc, ◌+◌, ◌-◌, ◌*◌, ◌/◌, ◌%◌, ◌<◌, ◌≤◌, Bool, true, false, cond, ◌&&◌, ◌||◌, List, ◌∷◌, length, replicate, Some, None, codes, Option, ◌==◌, bit_and, bit_or, nat_lt, slice_index, slice_set}
use Rattle.device.specs.Bytes.{bit}
use Rattle.device.specs.Kind.{Kind}
use Rattle.rtc.specs.State.{with_index, with_registers, with_phase, with_updated}
use Rattle.rtc.specs.declared.state.RtcState.{RtcState}
use Rattle.rtc.specs.declared.state.Counter.{Counter}

-- ---- registers

-- the control registers A to D
abbrev pub reg_a : ℕ
reg_a = 10

abbrev pub reg_b : ℕ
reg_b = 11

abbrev pub reg_c : ℕ
reg_c = 12

abbrev pub reg_d : ℕ
reg_d = 13

-- where a register stands in the list of those that hold something: C and D are left out
abbrev pub slot : ℕ → ℕ
slot r = cond (nat_lt r reg_c) r (r - 2)

abbrev pub register : RtcState → ℕ → ℕ
register s r = slice_index s.registers (slot r)

-- what a write to B stores: the bits of 0xB4, with bit 1 set, and bit 4 cleared if bit 7 is set
abbrev pub stored_b : ℕ → ℕ
stored_b v = bit_or (bit_and v (cond (bit 7 v) 0xA4 0xB4)) 0x02

-- what a write to a register stores
abbrev pub stored : ℕ → ℕ → ℕ
stored r v = cond (r == reg_a) (v % 128) (cond (r == reg_b) (stored_b v) v)

-- B bit 7 holds updates off
abbrev pub held : RtcState → Bool
held s = bit 7 (register s reg_b)

-- B bit 2 makes codes binary
abbrev pub binary : RtcState → Bool
binary s = bit 2 (register s reg_b)

-- the interrupt: an update ran, and B bit 4 asks for one
abbrev pub line : RtcState → Bool
line s = s.updated && bit 4 (register s reg_b)

-- register C without its highest bit
abbrev pub flags : RtcState → ℕ
flags s = cond s.updated 0x10 0

-- reading C clears the update flag
abbrev pub read_register : RtcState → ℕ → ℕ × RtcState
read_register s r =
    cond (r == reg_c) (flags s + cond (line s) 0x80 0, with_updated s false)
    (cond (r == reg_d) (0x80, s) (register s r, s))

-- writes to C and D change nothing
abbrev pub write_register : RtcState → ℕ → ℕ → RtcState
write_register s r v =
    cond (r == reg_c || r == reg_d) s (with_registers s (slice_set s.registers (slot r) (stored r v)))

-- offset 0 is the index, offset 1 the indexed register
abbrev pub read : RtcState → ℕ → ℕ × RtcState
read s o = cond (o == 0) (s.index, s) (read_register s s.index)

abbrev pub write : RtcState → ℕ → ℕ → RtcState
write s o v = cond (o == 0) (with_index s (v % 64)) (write_register s s.index v)

-- ---- codes

-- the code of a number: its own byte, or 16 × tens + units
abbrev pub code : Bool → ℕ → ℕ
code bin n = cond bin n (16 * (n / 10) + n % 10)

-- the number whose code a byte is, among the n numbers from k on
unfoldable pub find : Bool → ℕ → ℕ → ℕ → Option ℕ
find bin k zero b = None
find bin k (suc n) b = cond (b == code bin k) (Some k) (find bin (suc k) n b)

-- ---- update

-- what follows a number that was found, and whether that carries
abbrev pub following : Bool → ℕ → Option ℕ → ℕ × Bool
following bin first (Some n) = (code bin (n + 1), false)
following bin first None = (code bin first, true)

-- What follows a byte: the code of a number from the first on but below the last goes to the next; any other byte goes to
-- the first, and carries.
abbrev pub next : Bool → ℕ → ℕ → ℕ → ℕ × Bool
next bin first last b = following bin first (find bin first (last - first) b)

-- the registers that count
abbrev pub second : Counter
second = record { at = 0; first = 0; last = 59 }

abbrev pub minute : Counter
minute = record { at = 2; first = 0; last = 59 }

abbrev pub hour : Counter
hour = record { at = 4; first = 0; last = 23 }

-- the byte that follows in a counter's register, and whether that carries
abbrev pub next_in : Bool → Counter → List ℕ → ℕ × Bool
next_in bin c rs = next bin c.first c.last (slice_index rs c.at)

-- the registers with a counter moved on
abbrev pub moved : Bool → Counter → List ℕ → List ℕ
moved bin c rs = slice_set rs c.at (next_in bin c rs).0

-- a counter moved on and, where it carries, what it carries to
abbrev pub carrying : Bool → Counter → (List ℕ → List ℕ) → List ℕ → List ℕ
carrying bin c onward rs = cond (next_in bin c rs).1 (onward (moved bin c rs)) (moved bin c rs)

-- a second carries to the minute, that to the hour, and that nowhere
abbrev pub advanced : Bool → List ℕ → List ℕ
advanced bin = carrying bin second (carrying bin minute (moved bin hour))

abbrev pub update : RtcState → RtcState
update s = with_updated (with_registers s (advanced (binary s) s.registers)) true

-- ---- tick

-- the ticks of a second
abbrev pub ticks_per_second : ℕ
ticks_per_second = 1193182

-- a second ends: an update runs unless it is held off
abbrev pub ended : RtcState → RtcState
ended s = cond (held s) s (update s)

-- n ticks, fewer than a second has, at a rate of ticks per second: from the rate on, the second ends
abbrev pub tick : ℕ → RtcState → ℕ → RtcState
tick rate s n =
    cond (nat_lt (s.phase + n) rate) (with_phase s (s.phase + n)) (ended (with_phase s (s.phase + n - rate)))

-- ---- the kind

abbrev pub fresh : RtcState
fresh = record {
  index = 0;
  registers = 0 ∷ 0 ∷ 0 ∷ 0 ∷ 0 ∷ 0 ∷ 1 ∷ 1 ∷ 1 ∷ 0 ∷ 0x26 ∷ 0x02 ∷ replicate 50 0;
  phase = 0;
  updated = false;
}

-- index, count of registers, A, B as a write can leave it, phase
abbrev pub Sound : ℕ → RtcState → Type 0
Sound rate s =
    (s.index ≤ 63) × (length s.registers ≡ 62) × (register s reg_a ≤ 127) × (stored_b (register s reg_b) ≡ register s reg_b)
    × (s.phase < rate)

-- a clock of a rate
abbrev pub kind : ℕ → Kind RtcState
kind rate = record {
  name = codes "rtc";
  width = 2;
  input = false;
  fresh = fresh;
  read = read;
  write = λ s o v. (None, write s o v);
  feed = λ s v. s;
  tick = tick rate;
  line = line;
  Sound = Sound rate;
}
