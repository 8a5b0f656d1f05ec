-- Why a save is refused for a leaf.
use Rattle.std.specs.Prelude.{ℕ, Some, None, Ok, Err, Option, Result}
use Rattle.device.specs.Format.{Format, off_default, unknown}
use Rattle.fault.specs.declared.Fault.{Fault}
use Rattle.fault.specs.declared.Fault.TheVariants as fault

-- leaf n's refusal: by a field, else by a subsection
abbrev pub lacking : ℕ → Option ℕ → Option ℕ → Option Fault
lacking n (Some field) sub = Some (fault.FieldNotCarried n field)
lacking n None (Some k) = Some (fault.SubsectionNotCarried n k)
lacking n None None = None

-- Why edition e does not carry state s of leaf n: the first field off its default that is absent from the version that e
-- writes, else the first needed subsection that e does not know.
abbrev pub refusal : {S : Type 0} → Format S → ℕ → ℕ → S → Option Fault
refusal f n e s = lacking n (off_default f (f.edition e).writes s) (unknown f e s)

-- a refusal, or none, as the result of a test
abbrev pub result_of : Option Fault → Result (Unit {0}) Fault
result_of (Some F) = Err F
result_of None = Ok tt
