-- What a load answers, and what refuses it.
use Rattle.std.specs.Prelude.{ℕ, ◌+◌, List, [], ◌++◌, length, Some, None, Ok, Err, Option, Result}
use Rattle.fault.specs.declared.Fault.{Fault}
use Rattle.fault.specs.declared.Fault.TheVariants as fault
use Rattle.section.specs.Layout.{identity}
use Rattle.tree.specs.Stream.{Sections, names, layout}
use Rattle.tree.specs.Tree.{Tree, leaf, bus, State}
use Rattle.board.specs.Saving.{sized, served}
use Rattle.reading.specs.Items.{Out, refused, got}
use Rattle.reading.specs.Reading.{whole}

abbrev pub or_else : {A : Type 0} → Fault → Option A → Result A Fault
or_else F (Some a) = Ok a
or_else F None = Err F

abbrev pub pair : {A B : Type 0} → Result A Fault → Result B Fault → Result (A × B) Fault
pair (Err F) b = Err F
pair (Ok a) (Err F) = Err F
pair (Ok a) (Ok b) = Ok (a, b)

-- Each leaf adopts its section, the first of which stands at place `at`; or the first that fails is named with the place of
-- its body.
abbrev pub adopting_from : (t : Tree) → List (List ℕ) → ℕ → Sections t → Result (State t) Fault
adopting_from (leaf k f) before at x =
    or_else (fault.NotAdopted (length before) (at + 5 + length (identity before k.name))) (f.adopt x)
adopting_from (bus l r) before at x =
    pair (adopting_from l before at x.0)
    (adopting_from r (before ++ names l) (at + length (layout l before x.0)) x.1)

-- what was read is adopted; the first section stands behind the header and the configuration
abbrev pub taking : (t : Tree) → Out (Sections t) → Result (State t) Fault
taking t (refused F) = Err F
taking t (got x at rest) = adopting_from t [] 18 x

-- the state that a stream is loaded as
abbrev pub loading : (t : Tree) → ℕ → List ℕ → Result (State t) Fault
loading t e bytes = sized t (served e (taking t (whole t e bytes)))
