-- The lengths of names and of sections.
use Rattle.std.proofs.Common.{◌≡◌, ℕ, List, ◌++◌, length, arith}
use Rattle.std.proofs.lemmas.List.{length-append}
use Rattle.section.proofs.Sizes.{length-laid}
use Rattle.tree.specs.Stream.{names, Sections, layout, size}
use Rattle.tree.specs.Tree.{Tree, leaf, bus, leaves}

pub length-names : (t : Tree) → length (names t) ≡ leaves t
length-names (leaf k f) = omega arith
length-names (bus l r) = omega (arith, length-append (names l) (names r), length-names l, length-names r)

pub length-layout : (t : Tree) (before : List (List ℕ)) (x : Sections t) → length (layout t before x) ≡ size t x
length-layout (leaf k f) before x = length-laid k f before x
length-layout (bus l r) before x =
    let left = length-layout l before x.0 in
    let right = length-layout r (before ++ names l) x.1 in
    omega (arith, length-append (layout l before x.0) (layout r (before ++ names l) x.1))
