-- A whole stream that one edition writes and another reads: it is accepted as the state, or refused for the first section at
-- odds.
use Rattle.std.proofs.Common.{◌≡◌, ℕ, zero, suc, ◌≤◌, ◌⊎◌, List, [], ◌∷◌, ◌++◌, length, Some, ◌∙◌, subst, inl, inr, arith}
use Rattle.std.proofs.lemmas.Bool.{both_ways}
use Rattle.device.specs.Format.{Format}
use Rattle.tree.specs.Tree.{Tree, State, leaves}
use Rattle.fault.specs.declared.Fault.{Fault}
use Rattle.fault.specs.declared.Numbers.{Numbers}
use Rattle.fault.specs.Numbers.{numbers_of}
use Rattle.tree.specs.Stream.{written, layout, stream}
use Rattle.reading.specs.Items.{refused, got}
use Rattle.reading.specs.Reading.{whole}
use Rattle.reading.specs.Accepting.{adopted}
use Rattle.reading.proofs.Steps.{off-then}
use Rattle.reading.proofs.Whole.{to-sections, on-whole}
use Rattle.promise.specs.Editions.{Placed, placed, Agrees, Agree, AtOdds, FirstAtOdds, NamesOdds}
use Rattle.promise.proofs.Leaves.{Sending}
use Rattle.promise.proofs.Odds.{admitted-written, FirstOdd, judge, adopted-written}

module _ (e e' : ℕ) where
  -- ---- leaves at odds

  odds-number : {S : Type 0} (f : Format S) (s : S) (m : Numbers) → AtOdds e e' f s m → (m.number ≡ 12) ⊎ (m.number ≡ 13)
  odds-number f s m (inl o) = inl o.number
  odds-number f s m (inr o) = inr o.number

  pub first-number :
      (xs : List Placed) (n : ℕ) (m : Numbers) → FirstAtOdds e e' xs n m → (m.number ≡ 12) ⊎ (m.number ≡ 13)
  first-number [] n m h = absurd h
  first-number (x ∷ xs) zero m h = odds-number x.format x.state m h
  first-number (x ∷ xs) (suc n) m h = first-number xs n m h.1

  odds-apart : {S : Type 0} (f : Format S) (s : S) (m : Numbers) → AtOdds e e' f s m → Agrees e e' f s → ⊥
  odds-apart f s m (inl o) a = o.odd a.takes
  odds-apart f s m (inr o) a = both_ways ((f.edition e').knows o.k) o.unknown (a.knows o.k o.low o.needed)

  first-apart : (xs : List Placed) (n : ℕ) (m : Numbers) → FirstAtOdds e e' xs n m → Agree e e' xs → ⊥
  first-apart [] n m h a = h
  first-apart (x ∷ xs) zero m h a = odds-apart x.format x.state m h a.0
  first-apart (x ∷ xs) (suc n) m h a = first-apart xs n m h.1 a.1

  -- ---- streams

  pub record Accepted (t : Tree) (s : State t) : Type 0 where
    pub agree : Agree e e' (placed t s)
    pub is : whole t e' (stream t e s) ≡ got (written t e s) (length (stream t e s)) []
    pub adopts : adopted t (written t e s) ≡ Some s

  pub record Refused (t : Tree) (s : State t) : Type 0 where
    pub apart : Agree e e' (placed t s) → ⊥
    pub fault : Fault
    pub is : whole t e' (stream t e s) ≡ refused fault
    pub odds : NamesOdds e e' (placed t s) fault

  pub moves : (t : Tree) (s : State t) → leaves t ≤ 16 → Sending t e e' s → Accepted t s ⊎ Refused t s
  moves t s few sending = go (judge t [] e e' 18 (0 ∷ []) s (omega arith) sending)
    where
      go : Agree e e' (placed t s) ⊎ FirstOdd t e e' s [] 18 (0 ∷ []) → Accepted t s ⊎ Refused t s
      go (inl a) =
          let admitted = admitted-written t e e' s sending a in
          inl (record {
            agree = a;
            is = on-whole t sending.lawful few e' (written t e s) sending.reads admitted;
            adopts = adopted-written t e e' s sending;
          })
      go (inr j) =
          let m = numbers_of j.fault in
          let leaf : j.leaf ≡ m.section = let p = j.section in omega arith in
          inr (record {
            apart = first-apart (placed t s) j.leaf m j.first;
            fault = j.fault;
            is = to-sections t e' (layout t [] (written t e s) ++ (0 ∷ [])) ∙ off-then _ _ j.is;
            odds = record {
              layer = j.layer;
              first = subst (λ (n : ℕ). FirstAtOdds e e' (placed t s) n m) leaf j.first;
            };
          })
