-- Which streams are accepted, what they are adopted as, and how long a stream is.
use Rattle.std.specs.Prelude.{◌≡◌, ℕ, ◌+◌, ◌*◌, ◌≤◌, true, ◌↔◌, List, [], length, Some, None, Option}
use Rattle.std.specs.List.{AllByRecursion}
use Rattle.device.specs.Bytes.{Bytes}
use Rattle.device.specs.Format.{Format, Served, Section, Takes, Passes, section_at}
use Rattle.tree.specs.Tree.{Tree, leaf, bus, State, Sound, leaves}
use Rattle.tree.specs.Stream.{Sections, framed, stream}
use Rattle.reading.specs.Items.{got}
use Rattle.reading.specs.Reading.{whole}

-- what edition e admits: a version that it takes, subsections that it knows, and a body and subsections that pass
pub record Admits {S : Type 0} (f : Format S) (e : ℕ) (x : Section) : Type 0 where
  pub takes : Takes f e x.version
  pub knows : AllByRecursion (λ p. (f.edition e).knows p.0 ≡ true) x.subs
  pub passes : Passes f x

abbrev pub Admitted : (t : Tree) → ℕ → Sections t → Type 0
Admitted (leaf k f) e x = Admits f e x
Admitted (bus l r) e x = Admitted l e x.0 × Admitted r e x.1

-- A stream is accepted exactly where it is laid out as sections that the edition admits.
abbrev pub Accepts : Tree → Type 0
Accepts t =
    (e : ℕ) (bytes : List ℕ) (x : Sections t) → Served e → Bytes bytes →
    (whole t e bytes ≡ got x (length bytes) []) ↔ ((bytes ≡ framed t x) × Admitted t e x)

abbrev pub both : {A B : Type 0} → Option A → Option B → Option (A × B)
both None b = None
both (Some a) None = None
both (Some a) (Some b) = Some (a, b)

-- the state that sections give, each leaf adopting its own
abbrev pub adopted : (t : Tree) → Sections t → Option (State t)
adopted (leaf k f) x = f.adopt x
adopted (bus l r) x = both (adopted l x.0) (adopted r x.1)

-- the sections of a state, each at the version of a section given
abbrev pub rewritten : (t : Tree) → Sections t → State t → Sections t
rewritten (leaf k f) x s = section_at f x.version s
rewritten (bus l r) x s = (rewritten l x.0 s.0, rewritten r x.1 s.1)

-- State s is what a stream of sections x is adopted as: written again at their versions, it is that stream.
pub record AdoptedFrom (t : Tree) (bytes : List ℕ) (x : Sections t) (s : State t) : Type 0 where
  pub adopts : adopted t x ≡ Some s
  pub sound : Sound t s
  pub sections : rewritten t x s ≡ x
  pub again : framed t (rewritten t x s) ≡ bytes

-- What is accepted is adopted.
abbrev pub Returns : Tree → Type 0
Returns t =
    (e n : ℕ) (bytes rest : List ℕ) (x : Sections t) → Served e → Bytes bytes → whole t e bytes ≡ got x n rest →
    (s : State t) × AdoptedFrom t bytes x s

-- A stream has at most 9,555 bytes for each leaf beside the 19 around them.
abbrev pub Fits : Tree → Type 0
Fits t = (e : ℕ) (s : State t) → Sound t s → length (stream t e s) ≤ 19 + 9555 * leaves t

-- What holds of the streams of a tree; a board has at most 16 leaves.
pub record Streams (t : Tree) : Type 0 where
  pub accepts : leaves t ≤ 16 → Accepts t
  pub returns : leaves t ≤ 16 → Returns t
  pub fits : Fits t
