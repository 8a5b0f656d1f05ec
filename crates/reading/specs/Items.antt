-- What reading gives, and the items of a stream.
use Rattle.std.specs.Prelude.{ℕ, ◌+◌, Bool, true, false, cond, List, [], ◌∷◌, length, take, drop, Some, None, Option, ◌==◌, nat_lt}
use Rattle.device.specs.Bytes.{same, value}
use Rattle.fault.specs.declared.Fault.{Fault}
use Rattle.fault.specs.declared.Fault.TheVariants as fault
use Rattle.tree.specs.Stream.{header, configuration}

-- ---- what reading gives

-- a refusal, or a value with the place that comes next and the bytes from there on
pub data Out (A : Type 0) : Type 0 where
  refused : Fault → Out A
  got : A → ℕ → List ℕ → Out A

abbrev pub then : {A B : Type 0} → Out A → (A → ℕ → List ℕ → Out B) → Out B
then (refused F) k = refused F
then (got a at rest) k = k a at rest

-- a condition, or else a refusal
abbrev pub unless : {A : Type 0} → Bool → Fault → Out A → Out A
unless true F o = o
unless false F o = refused F

-- a check that names no field, or else a refusal of the field
abbrev pub passes : {A : Type 0} → Option ℕ → (ℕ → Fault) → Out A → Out A
passes None F o = o
passes (Some field) F o = refused (F field)

-- ---- items, each due in a section and a subsection

-- n bytes
abbrev pub item : ℕ → Option ℕ → Option ℕ → ℕ → List ℕ → Out (List ℕ)
item n section subsection at bytes =
    cond (nat_lt (length bytes) n) (refused (fault.EndOfStream section subsection at)) (got (take n bytes) (at + n) (drop n bytes))

-- one byte
abbrev pub byte : Option ℕ → Option ℕ → ℕ → List ℕ → Out ℕ
byte section subsection at [] = refused (fault.EndOfStream section subsection at)
byte section subsection at (b ∷ rest) = got b (at + 1) rest

-- a number of four bytes
abbrev pub word : Option ℕ → Option ℕ → ℕ → List ℕ → Out ℕ
word section subsection at bytes = then (item 4 section subsection at bytes) λ w at₁ rest. got (value w) at₁ rest

-- the header
abbrev pub heading : ℕ → List ℕ → Out (Unit {0})
heading at bytes =
    then (item 8 None None at bytes) λ own at₁ rest.
    unless (same own header) fault.Header (got tt at₁ rest)

-- the configuration
abbrev pub configured : ℕ → List ℕ → Out (Unit {0})
configured at bytes =
    then (item 10 None None at bytes) λ own at₁ rest.
    unless (same own configuration) fault.Configuration (got tt at₁ rest)

-- ---- type and tag bytes

-- the byte that is due: the type of leaf n's section, a tag inside it, or the type of the end
pub data Due : Type 0 where
  TypeOf : ℕ → Due
  TagOf : ℕ → Due
  LastType : Due

-- the section that it is due in
abbrev pub within : Due → Option ℕ
within (TypeOf n) = Some n
within (TagOf n) = Some n
within LastType = None

-- what such a byte begins or ends; a subsection's name stands with its place
pub data Token : Type 0 where
  Opened : Token
  Named : List ℕ → ℕ → Token
  Closed : Token
  Ended : Token

-- a subsection's name behind its length
abbrev pub name : ℕ → ℕ → List ℕ → Out Token
name n at bytes =
    then (byte (Some n) None at bytes) λ size at₁ rest.
    then (item size (Some n) None at₁ rest) λ text at₂ rest₂.
    got (Named text at₁) at₂ rest₂

-- what byte b is, where it stands at place `at`
abbrev pub token : Due → ℕ → ℕ → ℕ → List ℕ → Out Token
token (TypeOf n) b at at₁ rest = unless (b == 4) (fault.SectionType (Some n) at b) (got Opened at₁ rest)
token (TagOf n) b at at₁ rest =
    cond (b == 5) (name n at₁ rest) (unless (b == 0x7e) (fault.Tag n at b) (got Closed at₁ rest))
token LastType b at at₁ rest = unless (b == 0) (fault.SectionType None at b) (got Ended at₁ rest)

abbrev pub next : Due → ℕ → List ℕ → Out Token
next due at bytes = then (byte (within due) None at bytes) λ b at₁ rest. token due b at at₁ rest

-- nothing follows the end
abbrev pub ended : ℕ → List ℕ → Out (Unit {0})
ended at [] = got tt at []
ended at (b ∷ rest) = refused (fault.TrailingBytes at)
