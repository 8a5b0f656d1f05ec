-- The length of a stream.
use Rattle.std.proofs.Common.{◌≡◌, ℕ, ◌+◌, [], ◌∷◌, length, arith}
use Rattle.std.proofs.lemmas.List.{length-append}
use Rattle.tree.specs.Stream.{layout, written, size, stream}
use Rattle.tree.specs.Tree.{Tree, State}
use Rattle.tree.proofs.Sections.{length-layout}

pub length-stream : (t : Tree) (e : ℕ) (s : State t) → length (stream t e s) ≡ 19 + size t (written t e s)
length-stream t e s =
    let end = length-append (layout t [] (written t e s)) (0 ∷ []) in
    omega (arith, length-layout t [] (written t e s))
