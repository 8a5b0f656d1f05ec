-- How long a saved stream can be.
use Rattle.std.proofs.Common.{ℕ, zero, suc, ◌+◌, ◌*◌, ◌≤◌, Bool, true, false, cond, List, [], ◌∷◌, ◌++◌, length, arith, length-append}
use Rattle.device.specs.Bytes.{four}
use Rattle.device.specs.Kind.{Kind}
use Rattle.device.specs.Format.{Format, count, title, needs, needed_from, needed, section_at}
use Rattle.device.specs.Obligations.{Obligations}
use Rattle.tree.specs.Tree.{Tree, leaf, bus, State, Sound, Lawful, leaves}
use Rattle.section.specs.Layout.{times, identity, subsections, laid}
use Rattle.tree.specs.Stream.{names, written, layout}
use Rattle.reading.specs.Accepting.{Fits}

module _ {S : Type 0} (kind : Kind S) (f : Format S) (ob : Obligations kind f) (s : S) (sound : kind.Sound s) where
  short-identity : (before : List (List ℕ)) → length (identity before kind.name) ≤ 25
  short-identity before =
      let name = kind.name in
      let short = ob.formed.name-length in
      omega (arith, length-append name (four (times name before)))

  short-subs : (k n : ℕ) → k + n ≤ count f → length (subsections f (needed_from f s k n)) ≤ 1062 * n
  short-subs k zero h = omega arith
  short-subs k (suc n) h = go (needs f s k) (short-subs (suc k) n (omega arith))
    where
      later : List (ℕ × List ℕ)
      later = needed_from f s (suc k) n

      go :
          (b : Bool) → length (subsections f later) ≤ 1062 * n
          → length (subsections f (cond b ((k, f.sub k s) ∷ later) later)) ≤ 1062 * suc n
      go false rest = omega arith
      go true rest =
          let name = ob.formed.title-length k (omega arith) in
          let long = ob.formed.sub-size k s (omega arith) sound in
          let most = ob.formed.sub_small k (omega arith) in
          let more = subsections f later in
          omega (arith, length-append (title f k) (four 1 ++ (f.sub k s ++ more)), length-append (f.sub k s) more)

  short-section : (before : List (List ℕ)) (v : ℕ) → length (laid kind f before (section_at f v s)) ≤ 9555
  short-section before v =
      let id = identity before kind.name in
      let body = f.body v s in
      let subs = subsections f (needed f s) in
      let end = 0x7e ∷ four (length before) in
      let front = short-identity before in
      let long = ob.formed.body-size v s sound in
      let most = ob.formed.body-small v in
      let few = ob.formed.few in
      let back = short-subs 0 (count f) (omega arith) in
      omega (
        arith,
        length-append id (four v ++ (body ++ (subs ++ end))),
        length-append body
            (subs ++ end),
        length-append subs end,
      )

short-tree :
    (t : Tree) → Lawful t → (before : List (List ℕ)) (e : ℕ) (s : State t) → Sound t s
    → length (layout t before (written t e s)) ≤ 9555 * leaves t
short-tree (leaf k f) lawful before e s sound =
    let most = short-section k f lawful s sound before (f.edition e).writes in omega arith
short-tree (bus l r) lawful before e s sound =
    let a = layout l before (written l e s.0) in
    let b = layout r (before ++ names l) (written r e s.1) in
    let left = short-tree l lawful.0 before e s.0 sound.0 in
    let right = short-tree r lawful.1 (before ++ names l) e s.1 sound.1 in
    omega (arith, length-append a b)

pub fits : (t : Tree) → Lawful t → Fits t
fits t lawful e s sound =
    let most = short-tree t lawful [] e s sound in
    omega (arith, length-append (layout t [] (written t e s)) (0 ∷ []))
