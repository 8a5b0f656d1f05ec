-- The subsections of a section as a program holds them: a table with a place for each number.
use Rattle.std.specs.Prelude.{◌≡◌, ℕ, suc, List, [], ◌∷◌, length, Some, None, Ok, Err, Option, Result}
use Rattle.std.specs.Borrow.{Bor}
use Rattle.device.specs.Format.{Format, Section, count, sub_size}
use Rattle.device.specs.declared.adoption.NotAdopted.{NotAdopted}

-- the subsections that stand in a table, with their numbers, of which the first is k
abbrev pub standing : ℕ → List (Option (Bor (List ℕ))) → List (ℕ × List ℕ)
standing k [] = []
standing k (None ∷ os) = standing (suc k) os
standing k (Some x ∷ os) = (k, x.now) ∷ standing (suc k) os

-- each of them has its size
abbrev pub Sized : {S : Type 0} → Format S → ℕ → List (Option (Bor (List ℕ))) → Type 0
Sized f k [] = Unit {0}
Sized f k (None ∷ os) = Sized f (suc k) os
Sized f k (Some x ∷ os) = (length x.now ≡ sub_size f k) × Sized f (suc k) os

-- a table has a place for each subsection of the format, and what stands there has its size
pub record Table {S : Type 0} (f : Format S) (os : List (Option (Bor (List ℕ)))) : Type 0 where
  pub places : length os ≡ count f
  pub sizes : Sized f 0 os

-- the section of a body and a table
abbrev pub section_of : ℕ → List ℕ → List (Option (Bor (List ℕ))) → Section
section_of v body os = record { version = v; body = body; subs = standing 0 os }

-- what a device in state s answers to a section that gives a state, or none; and its state after
abbrev pub adopting : {S : Type 0} → Option S → S → Result (Unit {0}) NotAdopted × S
adopting None s = (Err (record {}), s)
adopting (Some t) s = (Ok tt, t)
