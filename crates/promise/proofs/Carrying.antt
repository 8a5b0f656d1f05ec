-- What editions carry, for every lawful tree.
use Rattle.std.proofs.Common.{◌≡◌, ℕ, ◌+◌, ◌-◌, ◌<◌, ◌≤◌, true, List, [], ◌∷◌, ◌++◌, subst, arith}
use Rattle.device.specs.Kind.{Kind}
use Rattle.device.specs.Format.{Format, Served, count}
use Rattle.device.specs.Obligations.{Obligations}
use Rattle.tree.specs.Tree.{Tree, leaf, bus, Lawful}
use Rattle.promise.specs.Editions.{Placed, placed, AllTake, Carriage}
use Rattle.promise.proofs.Leaves.{still-known}
use Rattle.promise.proofs.Odds.{agree-append}

take_split : (e e' : ℕ) (xs ys : List Placed) → AllTake e e' (xs ++ ys) → AllTake e e' xs × AllTake e e' ys
take_split e e' [] ys h = (tt, h)
take_split e e' (x ∷ xs) ys h = let r = take_split e e' xs ys h.1 in ((h.0, r.0), r.1)

module _ {S : Type 0} (kind : Kind S) (f : Format S) (ob : Obligations kind f) where
  -- what an edition knows, a later one knows
  onward-known :
      (e e' k : ℕ) → Served e → Served e' → e ≤ e' → k < count f → (f.edition e).knows k ≡ true
      → (f.edition e').knows k ≡ true
  onward-known e e' k served reads le low h =
      let later : e + (e' - e) ≡ e' = omega arith in
      let most = reads.high in
      subst (λ (m : ℕ). (f.edition m).knows k ≡ true) later (still-known kind f ob (e' - e) e k served (omega arith) low h)

pub carriage : (t : Tree) → Lawful t → Carriage t
carriage (leaf kind f) lawful =
    record {
      new = lawful.fresh-carried;
      every = lawful.latest-carries;
      home = λ e s since high carried. (record { takes = lawful.takes-own e since high; knows = carried.knows }, tt);
      onward = λ e e' s served reads le carried takes.
          let still = λ (k : ℕ). onward-known kind f lawful e e' k served reads le in
          (record { takes = takes.0; knows = λ k low need. still k low (carried.knows k low need) }, tt);
    }
carriage (bus l r) lawful =
    let a = carriage l lawful.0 in
    let b = carriage r lawful.1 in
    record {
      new = λ e since high. (a.new e since.0 high, b.new e since.1 high);
      every = λ s sound. (a.every s.0 sound.0, b.every s.1 sound.1);
      home = λ e s since high carried.
          let left = a.home e s.0 since.0 high carried.0 in
          let right = b.home e s.1 since.1 high carried.1 in
          agree-append e e (placed l s.0) (placed r s.1) left right;
      onward = λ e e' s served reads le carried takes.
          let p = take_split e e' (placed l s.0) (placed r s.1) takes in
          let left = a.onward e e' s.0 served reads le carried.0 p.0 in
          let right = b.onward e e' s.1 served reads le carried.1 p.1 in
          agree-append e e' (placed l s.0) (placed r s.1) left right;
    }
