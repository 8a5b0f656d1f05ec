-- The sections of a tree, by induction on the tree: laid out, they are read; read, they are laid out, and adopted.
use Rattle.std.proofs.Common.{◌≡◌, ℕ, ◌+◌, ◌<◌, List, ◌++◌, length, Some, Option, sym, ap, ◌∙◌, append_assoc, arith, length-append}
use Rattle.device.specs.Bytes.{Bytes}
use Rattle.device.specs.Kind.{Kind}
use Rattle.device.specs.Format.{Format, Served, Takes, OfBytes}
use Rattle.device.specs.Obligations.{Obligations}
use Rattle.tree.specs.Tree.{Tree, leaf, bus, State, Sound, Lawful, leaves}
use Rattle.tree.specs.Stream.{names, Sections, layout}
use Rattle.tree.proofs.Sections.{length-names}
use Rattle.reading.specs.Items.{got}
use Rattle.reading.specs.Reading.{sections}
use Rattle.reading.specs.Accepting.{Admitted, both, adopted, rewritten}
use Rattle.reading.proofs.Steps.{on_then, Gives, gives-got, gives-last, gives_then}
use Rattle.reading.proofs.Framed.{on-section, gives-section}

-- a version that an edition takes fits in four bytes
pub small : {S : Type 0} (k : Kind S) (f : Format S) → Obligations k f → (e v : ℕ) → Served e → Takes f e v → v < 4294967296
small k f ob e v served takes =
    let highest = ob.formed.taken e served in
    let last = ob.formed.last in
    omega arith

-- there is room for the numbers of a bus's right leaves too
pub more_room :
    (l r : Tree) (before : List (List ℕ)) → length before + leaves (bus l r) < 4294967296
    → length (before ++ names l) + leaves r < 4294967296
more_room l r before room = omega (arith, length-append before (names l), length-names l)

-- ---- reading

pub on-tree :
    (t : Tree) (lawful : Lawful t) (before : List (List ℕ)) (e at : ℕ) (rest : List ℕ) (x : Sections t)
    → length before + leaves t < 4294967296 → Served e → Admitted t e x
    → sections t before e at (layout t before x ++ rest) ≡ got x (at + length (layout t before x)) rest
on-tree (leaf k f) lawful before e at rest x room served ad =
    on-section k f lawful.formed.apart before (omega arith) e x at rest
    (small k f lawful e x.version served ad.takes) ad
on-tree (bus l r) lawful before e at rest x room served ad =
    let a = layout l before x.0 in
    let b = layout r (before ++ names l) x.1 in
    let place : at + length a + length b ≡ at + length (a ++ b) = omega (arith, length-append a b) in
    let right = more_room l r before room in
    ap (sections (bus l r) before e at) (append_assoc a b rest)
    ∙ on_then _ _ (on-tree l lawful.0 before e at (b ++ rest) x.0 (omega arith) served ad.0)
    (on_then _ _ (on-tree r lawful.1 (before ++ names l) e (at + length a) rest x.1 right served ad.1)
    (ap (λ (m : ℕ). got x m rest) place))

-- every section is of bytes
abbrev AllOfBytes : (t : Tree) → Sections t → Type 0
AllOfBytes (leaf k f) x = OfBytes x
AllOfBytes (bus l r) x = AllOfBytes l x.0 × AllOfBytes r x.1

-- sections that were read are laid out so
pub record ReadTree (t : Tree) (before : List (List ℕ)) (e : ℕ) (source : List ℕ) (x : Sections t) (rest : List ℕ) : Type 0 where
  pub whole : source ≡ layout t before x ++ rest
  pub admitted : Admitted t e x
  pub bytes : AllOfBytes t x
  pub left : Bytes rest

pub gives-tree :
    (t : Tree) (lawful : Lawful t) (before : List (List ℕ)) (e at : ℕ) (bytes : List ℕ)
    → length before + leaves t < 4294967296 → Bytes bytes → Gives (ReadTree t before e bytes) (sections t before e at bytes)
gives-tree (leaf k f) lawful before e at bytes room bs =
    gives-last _ (gives-section k f lawful.formed.apart before (omega arith) e at bytes bs) λ x rest c.
    record { whole = c.whole; admitted = c.admits; bytes = c.bytes; left = c.left }
gives-tree (bus l r) lawful before e at bytes room bs =
    gives_then _ _ (gives-tree l lawful.0 before e at bytes (omega arith) bs) λ x at₁ r₁ i₁.
    gives_then _ _ (gives-tree r lawful.1 (before ++ names l) e at₁ r₁ (more_room l r before room) i₁.left) λ y at₂ r₂ i₂.
    let a = layout l before x in
    let b = layout r (before ++ names l) y in
    gives-got (x, y) at₂ r₂ (record {
      whole = i₁.whole ∙ ap (λ (z : List ℕ). a ++ z) i₂.whole ∙ sym (append_assoc a b r₂);
      admitted = (i₁.admitted, i₂.admitted);
      bytes = (i₁.bytes, i₂.bytes);
      left = i₂.left;
    })

-- ---- adopting

pub both_some : {A B : Type 0} (x : Option A) (y : Option B) (a : A) (b : B) → x ≡ Some a → y ≡ Some b → both x y ≡ Some (a, b)
both_some x y a b p q = λ i. both (p i) (q i)

-- what sections are adopted as
pub record Adoption (t : Tree) (x : Sections t) : Type 0 where
  pub state : State t
  pub adopts : adopted t x ≡ Some state
  pub sound : Sound t state
  pub again : rewritten t x state ≡ x

pub adopts-tree :
    (t : Tree) (lawful : Lawful t) (e : ℕ) (x : Sections t) → Served e → AllOfBytes t x → Admitted t e x → Adoption t x
adopts-tree (leaf k f) lawful e x served bytes ad =
    let r = lawful.adopts e x served ad.takes bytes ad.passes in
    record { state = r.0; adopts = r.1.adopts; sound = r.1.sound; again = r.1.again }
adopts-tree (bus l r) lawful e x served bytes ad =
    let a = adopts-tree l lawful.0 e x.0 served bytes.0 ad.0 in
    let b = adopts-tree r lawful.1 e x.1 served bytes.1 ad.1 in
    record {
      state = (a.state, b.state);
      adopts = both_some (adopted l x.0) (adopted r x.1) a.state b.state a.adopts b.adopts;
      sound = (a.sound, b.sound);
      again = λ i. (a.again i, b.again i);
    }
