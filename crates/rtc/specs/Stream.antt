-- How the clock's states travel.
use Rattle.std.specs.Prelude.{ℕ, ◌+◌, Bool, false, cond, ◌&&◌, ◌||◌, List, [], ◌∷◌, ◌++◌, take, drop, replicate, Some, None, Option, ◌==◌, nat_le, nat_lt, slice_index}
use Rattle.device.specs.Bytes.{four, value}
use Rattle.device.specs.Format.{Edition, Format}
use Rattle.rtc.specs.Rtc.{reg_a, reg_b, register, stored_b, flags}
use Rattle.rtc.specs.declared.state.RtcState.{RtcState}

-- ---- what is written

-- what version 2 adds
abbrev pub from2 : ℕ → List ℕ → List ℕ
from2 v bs = cond (nat_le 2 v) bs []

-- sizes: field 0 is the index, 1 to 62 are the registers, 63 is the phase and, from version 2 on, 64 the flags
abbrev pub fields : ℕ → List ℕ
fields v = replicate 63 1 ++ (4 ∷ from2 v (1 ∷ []))

abbrev pub body : ℕ → RtcState → List ℕ
body v s = s.index ∷ s.registers ++ (four s.phase ++ from2 v (flags s ∷ []))

-- absent flags are 0
abbrev pub complete : ℕ → List ℕ → List ℕ
complete v bs = cond (nat_le 2 v) bs (bs ++ (0 ∷ []))

-- the field that version v leaves out, if it is off its default
abbrev pub left_out : ℕ → RtcState → Option ℕ
left_out v s = cond (nat_lt v 2 && s.updated) (Some 64) None

-- ---- what is read, from a complete body

abbrev pub flags_of : List ℕ → ℕ
flags_of bs = slice_index bs 67

abbrev pub state_of : List ℕ → RtcState
state_of bs = record {
  index = slice_index bs 0;
  registers = take 62 (drop 1 bs);
  phase = value (take 4 (drop 63 bs));
  updated = (flags_of bs == 0x10);
}

-- the fields that can be refused, and whether they pass in a state and its flags: index, A, B as a write can leave it,
-- phase, flags
abbrev pub checks : ℕ → RtcState → ℕ → List (ℕ × Bool)
checks rate s f =
    (0, nat_le s.index 63)
    ∷ (1 + reg_a, nat_le (register s reg_a) 127)
    ∷ (1 + reg_b, (stored_b (register s reg_b) == register s reg_b))
    ∷ (63, nat_lt s.phase rate)
    ∷ (64, (f == 0) || f == 0x10)
    ∷ []

-- the first field that does not pass
abbrev pub first_refused : List (ℕ × Bool) → Option ℕ
first_refused [] = None
first_refused (p ∷ ps) = cond p.1 (first_refused ps) (Some p.0)

-- the first refused field of a complete body
abbrev pub refused : ℕ → List ℕ → Option ℕ
refused rate bs = first_refused (checks rate (state_of bs) (flags_of bs))

-- a state, unless a field was refused
abbrev pub unless : Option ℕ → RtcState → Option RtcState
unless None s = Some s
unless (Some k) s = None

abbrev pub adopted : ℕ → List ℕ → Option RtcState
adopted rate bs = unless (refused rate bs) (state_of bs)

-- ---- editions

-- the version that an edition writes: 1, and from edition 3 on 2
abbrev pub writes : ℕ → ℕ
writes e = cond (nat_le 3 e) 2 1

-- an edition takes the versions from 1 to the one that it writes
abbrev pub edition : ℕ → Edition
edition e = record { writes = writes e; lowest = 1; highest = writes e; knows = λ k. false }

-- ---- the format of a clock of a rate

abbrev pub format : ℕ → Format RtcState
format rate = record {
  since = 1;
  last = 2;
  fields = fields;
  subsections = [];
  edition = edition;
  body = body;
  sub = λ k s. [];
  complete = complete;
  default = λ k bs. [];
  check = λ v bs. refused rate (complete v bs);
  check_sub = λ v bs k own. None;
  adopt = λ x. adopted rate (complete x.version x.body);
}
