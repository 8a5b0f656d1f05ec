-- The stream that a tree's state is written as.
use Rattle.std.specs.Prelude.{ℕ, ◌+◌, List, [], ◌∷◌, ◌++◌}
use Rattle.device.specs.Format.{Section, section_by}
use Rattle.section.specs.Layout as section
use Rattle.tree.specs.Tree.{Tree, leaf, bus, State}

abbrev pub header : List ℕ
header = 0x51 ∷ 0x45 ∷ 0x56 ∷ 0x4d ∷ 0 ∷ 0 ∷ 0 ∷ 3 ∷ []

abbrev pub configuration : List ℕ
configuration = 7 ∷ 0 ∷ 0 ∷ 0 ∷ 5 ∷ 0x70 ∷ 0x61 ∷ 0x6e ∷ 0x65 ∷ 0x6c ∷ []

-- the names of a tree's leaves
abbrev pub names : Tree → List (List ℕ)
names (leaf k f) = k.name ∷ []
names (bus l r) = names l ++ names r

-- a section for each leaf
abbrev pub Sections : Tree → Type 0
Sections (leaf k f) = Section
Sections (bus l r) = Sections l × Sections r

-- the sections that edition e writes of a tree's state
abbrev pub written : (t : Tree) → ℕ → State t → Sections t
written (leaf k f) e s = section_by f e s
written (bus l r) e s = (written l e s.0, written r e s.1)

-- the bytes of sections, one after the other; leaves with the names before come first
abbrev pub layout : (t : Tree) → List (List ℕ) → Sections t → List ℕ
layout (leaf k f) before x = section.laid k f before x
layout (bus l r) before x = layout l before x.0 ++ layout r (before ++ names l) x.1

-- how many bytes sections have, whatever leaves come before
abbrev pub size : (t : Tree) → Sections t → ℕ
size (leaf k f) x = section.size k f x
size (bus l r) x = size l x.0 + size r x.1

-- a whole stream of sections
abbrev pub framed : (t : Tree) → Sections t → List ℕ
framed t x = header ++ (configuration ++ (layout t [] x ++ (0 ∷ [])))

-- the stream that edition e saves a tree's state as
abbrev pub stream : (t : Tree) → ℕ → State t → List ℕ
stream t e s = framed t (written t e s)
