-- What editions carry, and where the section that one edition writes is at odds with another.
use Rattle.std.specs.Prelude.{◌≡◌, ℕ, zero, suc, ◌<◌, ◌≤◌, true, false, ◌⊎◌, List, [], ◌∷◌, ◌++◌, length}
use Rattle.device.specs.Format.{Format, latest, Served, Takes, count, title, needs}
use Rattle.tree.specs.Tree.{Tree, leaf, bus, State, Sound, Carried, fresh}
use Rattle.fault.specs.declared.Fault.{Fault}
use Rattle.fault.specs.declared.Numbers.{Numbers}
use Rattle.fault.specs.Numbers.{numbers_of}

-- a leaf in its state
pub record Placed : Type 1 where
  pub States : Type 0
  pub format : Format States
  pub state : States

-- the leaves of a tree, left to right
abbrev pub placed : (t : Tree) → State t → List Placed
placed (leaf {S} k f) s = record { States = S; format = f; state = s } ∷ []
placed (bus l r) s = placed l s.0 ++ placed r s.1

-- Edition e writes, and edition e' reads; m are the numbers of a fault.
module _ (e e' : ℕ) where
  -- e' takes the version that e writes, and knows each subsection that the state needs
  pub record Agrees {S : Type 0} (f : Format S) (s : S) : Type 0 where
    pub takes : Takes f e' (f.edition e).writes
    pub knows : (k : ℕ) → k < count f → needs f s k ≡ true → (f.edition e').knows k ≡ true

  -- e' doesn't take the version that e writes
  pub record OddVersion {S : Type 0} (f : Format S) (s : S) (m : Numbers) : Type 0 where
    pub odd : Takes f e' (f.edition e).writes → ⊥
    pub number : m.number ≡ 12
    pub subsection : m.subsection ≡ 255
    pub detail : m.detail ≡ (f.edition e).writes

  -- it does, but doesn't know k, the first such subsection that the state needs
  pub record OddSubsection {S : Type 0} (f : Format S) (s : S) (m : Numbers) : Type 0 where
    pub takes : Takes f e' (f.edition e).writes
    pub k : ℕ
    pub low : k < count f
    pub needed : needs f s k ≡ true
    pub unknown : (f.edition e').knows k ≡ false
    pub first : (j : ℕ) → j < k → needs f s j ≡ true → (f.edition e').knows j ≡ true
    pub number : m.number ≡ 13
    pub subsection : m.subsection ≡ 254
    pub detail : m.detail ≡ length (title f k)

  -- a leaf's section is at odds with e'
  abbrev pub AtOdds : {S : Type 0} → Format S → S → Numbers → Type 0
  AtOdds f s m = OddVersion f s m ⊎ OddSubsection f s m

  -- no leaf's is
  abbrev pub Agree : List Placed → Type 0
  Agree [] = Unit {0}
  Agree (x ∷ xs) = Agrees x.format x.state × Agree xs

  -- e' takes the version of each leaf
  abbrev pub AllTake : List Placed → Type 0
  AllTake [] = Unit {0}
  AllTake (x ∷ xs) = Takes x.format e' (x.format.edition e).writes × AllTake xs

  -- leaf n is the first whose section is at odds
  abbrev pub FirstAtOdds : List Placed → ℕ → Numbers → Type 0
  FirstAtOdds [] n m = ⊥
  FirstAtOdds (x ∷ xs) zero m = AtOdds x.format x.state m
  FirstAtOdds (x ∷ xs) (suc n) m = Agrees x.format x.state × FirstAtOdds xs n m

  -- a fault of the first section at odds
  pub record NamesOdds (xs : List Placed) (F : Fault) : Type 0 where
    pub layer : (numbers_of F).layer ≡ 3
    pub first : FirstAtOdds xs (numbers_of F).section (numbers_of F)

-- edition e serves every kind of the tree
abbrev pub ServesAll : Tree → ℕ → Type 0
ServesAll (leaf k f) e = f.since ≤ e
ServesAll (bus l r) e = ServesAll l e × ServesAll r e

-- What editions carry: an edition takes what it wrote itself, and a later one is at odds by a version only.
pub record Carriage (t : Tree) : Type 0 where
  pub new : (e : ℕ) → ServesAll t e → e ≤ latest → Carried t e (fresh t)
  pub every : (s : State t) → Sound t s → Carried t latest s
  pub home : (e : ℕ) (s : State t) → ServesAll t e → e ≤ latest → Carried t e s → Agree e e (placed t s)
  pub onward :
      (e e' : ℕ) (s : State t) → Served e → Served e' → e ≤ e' → Carried t e s → AllTake e e' (placed t s)
      → Agree e e' (placed t s)
