-- The lengths of identities and sections.
use Rattle.std.proofs.Common.{◌≡◌, ℕ, ◌+◌, List, length, arith}
use Rattle.std.proofs.lemmas.List.{length-append}
use Rattle.device.specs.Kind.{Kind}
use Rattle.device.specs.Format.{Format, Section}
use Rattle.section.specs.Layout.{identity, laid, size}

pub length-identity : (before : List (List ℕ)) (name : List ℕ) → length (identity before name) ≡ 9 + length name
length-identity before name = simp length-append (omega arith)

pub ruleset lengths = (length-identity)

pub length-laid :
    {S : Type 0} (k : Kind S) (f : Format S) (before : List (List ℕ)) (x : Section) → length (laid k f before x) ≡ size k f x
length-laid k f before x = simp length-append (omega arith)
