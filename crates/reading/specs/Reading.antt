-- How a stream is read for a tree, left to right, and what refuses it.
use Rattle.std.specs.Prelude.{ℕ, zero, suc, Bool, cond, List, [], ◌∷◌, ◌++◌, length, Some, None, Option, ◌==◌, nat_le}
use Rattle.device.specs.Bytes.{same}
use Rattle.device.specs.Kind.{Kind}
use Rattle.device.specs.Format.{Format, Subsection, Section, count, body_size, sub_size, taken, is_needed}
use Rattle.tree.specs.Tree.{Tree, leaf, bus}
use Rattle.fault.specs.declared.Fault.TheVariants as fault
use Rattle.section.specs.Layout.{identity}
use Rattle.tree.specs.Stream.{names, Sections}
use Rattle.reading.specs.Items.{Out, refused, got, then, unless, passes, item, word, heading, configured, ended}
use Rattle.reading.specs.Items.{TypeOf, TagOf, LastType, Token, Opened, Named, Closed, Ended, next}

-- the number of a name in a table whose first number is k
abbrev pub find_from : ℕ → List Subsection → List ℕ → Option ℕ
find_from k [] name = None
find_from k (s ∷ ss) name = cond (same name s.title) (Some k) (find_from (suc k) ss name)

abbrev pub known : (ℕ → Bool) → Option ℕ → Option ℕ
known knows None = None
known knows (Some k) = cond (knows k) (Some k) None

-- the number of a subsection by its name, if edition e knows it
abbrev pub numbered : {S : Type 0} → Format S → ℕ → List ℕ → Option ℕ
numbered f e name = known (f.edition e).knows (find_from 0 f.subsections name)

-- ---- the subsections of section n

-- the number of a name that stands at place `at`, which must not come before `least`
abbrev pub in_order : ℕ → ℕ → ℕ → List ℕ → Option ℕ → ℕ → List ℕ → Out ℕ
in_order n least at name None at₁ rest = refused (fault.UnknownSubsection n at (length name))
in_order n least at name (Some k) at₁ rest = unless (nat_le least k) (fault.SubsectionOrder n k at (length name)) (got k at₁ rest)

-- the version and the body of subsection k, beside a body of version v
abbrev pub sub_body : {S : Type 0} → Format S → ℕ → ℕ → List ℕ → ℕ → ℕ → List ℕ → Out (List ℕ)
sub_body f n v body k at bytes =
    then (word (Some n) (Some k) at bytes) λ w at₁ rest.
    unless (w == 1) (fault.Version n (Some k) at w)
    (then (item (sub_size f k) (Some n) (Some k) at₁ rest) λ own at₂ rest₂.
    passes (f.check_sub v body k own) (λ field. fault.Field n (Some k) at₁ field)
    (unless (is_needed f v body k own) (fault.NotNeeded n k at₁) (got own at₂ rest₂)))

module _ {S : Type 0} (f : Format S) (e n v : ℕ) (body : List ℕ) where
  -- the subsection that a tag opens, of a number from `least` on, or none at the closing tag
  abbrev pub entered : ℕ → Token → ℕ → List ℕ → Out (Option (ℕ × List ℕ))
  entered least (Named name at) at₁ rest =
      then (in_order n least at name (numbered f e name) at₁ rest) λ k at₂ rest₂.
      then (sub_body f n v body k at₂ rest₂) λ own at₃ rest₃.
      got (Some (k, own)) at₃ rest₃
  entered least Closed at₁ rest = got None at₁ rest
  entered least Opened at₁ rest = got None at₁ rest
  entered least Ended at₁ rest = got None at₁ rest

  abbrev pub entry : ℕ → ℕ → List ℕ → Out (Option (ℕ × List ℕ))
  entry least at bytes = then (next (TagOf n) at bytes) λ token at₁ rest. entered least token at₁ rest

  -- the subsections up to the closing tag; each has a greater number than the one before, so `fuel` bounds them
  abbrev pub subs : ℕ → ℕ → ℕ → List ℕ → Out (List (ℕ × List ℕ))
  subs zero least at bytes = refused (fault.UnknownSubsection n at 0)
  subs (suc fuel) least at bytes =
      then (entry least at bytes) λ o at₁ rest.
      elim o [
        | None ↦ got [] at₁ rest
        | Some p ↦ then (subs fuel (suc p.0) at₁ rest) λ more at₂ rest₂. got (p ∷ more) at₂ rest₂
      ]

-- ---- sections

-- the identity of the leaf of a name that comes after those with the names before
abbrev pub identified : List (List ℕ) → List ℕ → ℕ → List ℕ → Out (Unit {0})
identified before name at bytes =
    then (item (length (identity before name)) (Some (length before)) None at bytes) λ own at₁ rest.
    unless (same own (identity before name)) (fault.Identity (length before) at) (got tt at₁ rest)

-- the version and the body of section n
abbrev pub start : {S : Type 0} → Format S → ℕ → ℕ → ℕ → List ℕ → Out (ℕ × List ℕ)
start f e n at bytes =
    then (word (Some n) None at bytes) λ v at₁ rest.
    unless (taken f e v) (fault.Version n None at v)
    (then (item (body_size f v) (Some n) None at₁ rest) λ body at₂ rest₂.
    passes (f.check v body) (λ field. fault.Field n None at₁ field) (got (v, body) at₂ rest₂))

-- the leaf number that closes section n
abbrev pub closing : ℕ → ℕ → List ℕ → Out (Unit {0})
closing n at bytes =
    then (word (Some n) None at bytes) λ found at₁ rest.
    unless (found == n) (fault.ClosingLeaf n at found) (got tt at₁ rest)

-- the section of the leaf that comes after those with the names before
abbrev pub section : {S : Type 0} → Kind S → Format S → List (List ℕ) → ℕ → ℕ → List ℕ → Out Section
section k f before e at bytes =
    let n = length before in
    then (next (TypeOf n) at bytes) λ _ at₁ r₁.
    then (identified before k.name at₁ r₁) λ _ at₂ r₂.
    then (start f e n at₂ r₂) λ b at₃ r₃.
    then (subs f e n b.0 b.1 (suc (count f)) 0 at₃ r₃) λ ss at₄ r₄.
    then (closing n at₄ r₄) λ _ at₅ r₅.
    got (record { version = b.0; body = b.1; subs = ss }) at₅ r₅

abbrev pub sections : (t : Tree) → List (List ℕ) → ℕ → ℕ → List ℕ → Out (Sections t)
sections (leaf k f) before e at bytes = section k f before e at bytes
sections (bus l r) before e at bytes =
    then (sections l before e at bytes) λ a at₁ rest.
    then (sections r (before ++ names l) e at₁ rest) λ b at₂ rest₂.
    got (a, b) at₂ rest₂

-- the sections of a whole stream, at edition e
abbrev pub whole : (t : Tree) → ℕ → List ℕ → Out (Sections t)
whole t e bytes =
    then (heading 0 bytes) λ _ at₁ r₁.
    then (configured at₁ r₁) λ _ at₂ r₂.
    then (sections t [] e at₂ r₂) λ x at₃ r₃.
    then (next LastType at₃ r₃) λ _ at₄ r₄.
    then (ended at₄ r₄) λ _ at₅ r₅.
    got x at₅ r₅
