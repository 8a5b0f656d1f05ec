-- A dial: a small device with two versions and a subsection.
use Rattle.std.specs.Prelude.{ℕ, ◌%◌, ◌<◌, Bool, true, false, cond, List, [], ◌∷◌, ◌++◌, Some, None, Option, ◌==◌, nat_lt, slice_index}
use Rattle.device.specs.Bytes.{bit, flag}
use Rattle.device.specs.Kind.{Kind}
use Rattle.device.specs.Format.{Format, Subsection}
use Rattle.sample.specs.declared.state.DialState.{DialState}

-- A write turns the dial to the byte mod 64 and raises the line for good; a tick sets the latch.
abbrev pub dial : Kind DialState
dial = record {
  name = 0x64 ∷ 0x69 ∷ 0x61 ∷ 0x6c ∷ [];
  width = 1;
  input = false;
  fresh = record { index = 0; turned = false; latch = false };
  read = λ s o. (s.index, s);
  write = λ s o b. (None, record { index = b % 64; turned = true; latch = s.latch });
  feed = λ s b. s;
  tick = λ s n. record { index = s.index; turned = s.turned; latch = true };
  line = λ s. s.turned;
  Sound = λ s. s.index < 64;
}

-- editions 1 and 2 write version 1, later ones version 2
abbrev pub version : ℕ → ℕ
version e = cond (nat_lt e 3) 1 2

-- version 1 has the index; version 2 has whether the dial was turned, too
abbrev pub body : ℕ → DialState → List ℕ
body v s = cond (nat_lt v 2) (s.index ∷ []) (s.index ∷ flag s.turned ∷ [])

-- by default the dial was not turned
abbrev pub complete : ℕ → List ℕ → List ℕ
complete v b = cond (nat_lt v 2) (b ++ 0 ∷ []) b

-- dial/latch, a byte
abbrev pub subsections : List Subsection
subsections = record {
  title = 0x64 ∷ 0x69 ∷ 0x61 ∷ 0x6c ∷ 0x2f ∷ 0x6c ∷ 0x61 ∷ 0x74 ∷ 0x63 ∷ 0x68 ∷ [];
  fields = 1 ∷ [];
} ∷ []

-- the first refused field of a complete body: the index is below 64, the flag 0 or 1
abbrev pub refused : List ℕ → Option ℕ
refused b = cond (nat_lt (slice_index b 0) 64) (cond (nat_lt (slice_index b 1) 2) None (Some 1)) (Some 0)

-- the latch by default: the lowest bit of the index
abbrev pub usual : List ℕ → Bool
usual b = bit 0 (slice_index b 0)

-- the latch that subsections give, else its default
abbrev pub latch_of : List (ℕ × List ℕ) → Bool → Bool
latch_of [] d = d
latch_of (p ∷ ps) d = slice_index p.1 0 == 1

-- a state, unless a field is refused
abbrev pub passed : Option ℕ → DialState → Option DialState
passed None s = Some s
passed (Some field) s = None

-- the state that a complete body and subsections give
abbrev pub adopted : List ℕ → List (ℕ × List ℕ) → Option DialState
adopted b ss =
    passed (refused b) (record { index = slice_index b 0; turned = (slice_index b 1 == 1); latch = latch_of ss (usual b) })

-- the subsection is known from edition 2 on
abbrev pub dial_format : Format DialState
dial_format = record {
  since = 1;
  last = 2;
  fields = λ v. cond (nat_lt v 2) (1 ∷ []) (1 ∷ 1 ∷ []);
  subsections = subsections;
  edition = λ e. record { writes = version e; lowest = 1; highest = version e; knows = λ k. nat_lt 1 e };
  body = body;
  sub = λ k s. flag s.latch ∷ [];
  complete = complete;
  default = λ k b. flag (usual b) ∷ [];
  check = λ v b. refused (complete v b);
  check_sub = λ v b k own. cond (nat_lt (slice_index own 0) 2) None (Some 0);
  adopt = λ x. adopted (complete x.version x.body) x.subs;
}
