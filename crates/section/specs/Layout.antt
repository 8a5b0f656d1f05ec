-- The bytes of a leaf's section.
use Rattle.std.specs.Prelude.{ℕ, suc, ◌+◌, cond, List, [], ◌∷◌, ◌++◌, length, drop}
use Rattle.device.specs.Bytes.{four, same}
use Rattle.device.specs.Kind.{Kind}
use Rattle.device.specs.Format.{Format, Section, title}

-- a buffer after bytes were written to its front
abbrev pub over : List ℕ → List ℕ → List ℕ
over bytes buffer = bytes ++ drop (length bytes) buffer

-- how often a name stands in a list of names
abbrev pub times : List ℕ → List (List ℕ) → ℕ
times n [] = 0
times n (m ∷ ms) = cond (same n m) (suc (times n ms)) (times n ms)

-- A leaf's identity, after the leaves with the names before: its number, its name behind the name's length, and how many
-- leaves of that name come before it.
abbrev pub identity : List (List ℕ) → List ℕ → List ℕ
identity before name = four (length before) ++ (length name ∷ name ++ four (times name before))

-- subsections, each behind a tag, its name's length, its name and its version
abbrev pub subsections : {S : Type 0} → Format S → List (ℕ × List ℕ) → List ℕ
subsections f [] = []
subsections f (p ∷ ps) = 5 ∷ length (title f p.0) ∷ title f p.0 ++ (four 1 ++ (p.1 ++ subsections f ps))

-- a section: type, identity, version, body, subsections, closing tag and leaf number
abbrev pub laid : {S : Type 0} → Kind S → Format S → List (List ℕ) → Section → List ℕ
laid k f before x =
    4 ∷ identity before k.name
    ++ (four x.version ++ (x.body ++ (subsections f x.subs ++ (0x7e ∷ four (length before)))))

-- how many bytes a section has, whatever leaves come before
abbrev pub size : {S : Type 0} → Kind S → Format S → Section → ℕ
size k f x = 19 + length k.name + length x.body + length (subsections f x.subs)
