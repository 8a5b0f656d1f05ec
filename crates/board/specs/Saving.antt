-- What a save answers, and what refuses it.
use Rattle.std.specs.Prelude.{◌≡◌, ℕ, ◌<◌, ◌≤◌, min, Bool, cond, ◌↔◌, List, ◌++◌, length, drop, Some, None, Ok, Err, Option, Result, nat_le}
use Rattle.device.specs.Format.{latest, Served, is_served}
use Rattle.fault.specs.declared.Fault.{Fault}
use Rattle.fault.specs.declared.Fault.TheVariants as fault
use Rattle.fault.specs.Numbers.{numbers_of}
use Rattle.tree.specs.Carrying.{uncarried}
use Rattle.tree.specs.Stream.{stream}
use Rattle.tree.specs.Tree.{Tree, State, Carried, leaves}

-- a test, or else a refusal
abbrev pub tested : {A : Type 0} → Bool → Fault → Result A Fault → Result A Fault
tested b F r = cond b r (Err F)

-- a board has at most 16 leaves
abbrev pub sized : {A : Type 0} → Tree → Result A Fault → Result A Fault
sized t r = tested (nat_le (leaves t) 16) (fault.TooManyLeaves (min (leaves t) 255)) r

abbrev pub served : {A : Type 0} → ℕ → Result A Fault → Result A Fault
served e r = tested (is_served e) (fault.NoEdition e) r

abbrev pub barred : {A : Type 0} → Option Fault → Result A Fault → Result A Fault
barred (Some F) r = Err F
barred None r = r

-- bytes written to a buffer's front: their number, and the buffer after
abbrev pub put : List ℕ → List ℕ → Result (ℕ × List ℕ) Fault
put buffer bytes =
    tested (nat_le (length bytes) (length buffer)) (fault.ShortBuffer (length bytes))
    (Ok (length bytes, bytes ++ drop (length bytes) buffer))

-- the length of the stream that a save writes to a buffer, and the buffer after
abbrev pub saving : (t : Tree) → State t → ℕ → List ℕ → Result (ℕ × List ℕ) Fault
saving t s e buffer = sized t (served e (barred (uncarried t 0 e s) (put buffer (stream t e s))))

-- what a save answers
abbrev pub answer_of : Result (ℕ × List ℕ) Fault → Result ℕ Fault
answer_of (Ok p) = Ok p.0
answer_of (Err F) = Err F

-- the buffer after a save, which a refusal leaves as it was
abbrev pub buffer_of : List ℕ → Result (ℕ × List ℕ) Fault → List ℕ
buffer_of buffer (Ok p) = p.1
buffer_of buffer (Err F) = buffer

-- a save is refused because the edition does not carry the state: fault 5
abbrev pub NotCarried : Result ℕ Fault → Type 0
NotCarried r = (F : Fault) × (r ≡ Err F) × ((numbers_of F).number ≡ 5)

module _ (t : Tree) (s : State t) (e : ℕ) (buffer : List ℕ) (r : Result ℕ Fault) where
  -- a save is refused by a short buffer only
  pub record OnlyRoom : Type 0 where
    pub fits : length (stream t e s) ≤ length buffer → r ≡ Ok (length (stream t e s))
    pub short : length buffer < length (stream t e s) → r ≡ Err (fault.ShortBuffer (length (stream t e s)))

  -- What answer r of a save at edition e says of state s, on a board of at most 16 leaves.
  pub record Judged : Type 0 where
    -- a state that the edition carries is refused by a short buffer only
    pub carried : Served e → Carried t e s → OnlyRoom
    -- fault 5 is answered exactly where the edition does not carry the state
    pub refused : Served e → NotCarried r ↔ (Carried t e s → ⊥)
    -- the highest edition carries every state
    pub highest : e ≡ latest → OnlyRoom
