-- The sections of a tree that one edition writes and another reads: no leaf is at odds, or they are refused for the first
-- that is.
use Rattle.std.proofs.Common.{◌≡◌, ℕ, zero, suc, ◌+◌, ◌<◌, ◌⊎◌, List, [], ◌∷◌, ◌++◌, length, Some, refl, ap, ◌∙◌, subst, inl, inr, append_assoc, arith, length-append}
use Rattle.tree.specs.Tree.{Tree, leaf, bus, State, leaves}
use Rattle.fault.specs.declared.Fault.{Fault}
use Rattle.fault.specs.declared.Numbers.{Numbers}
use Rattle.fault.specs.Numbers.{numbers_of}
use Rattle.tree.specs.Stream.{names, written, layout}
use Rattle.tree.proofs.Sections.{length-names}
use Rattle.reading.specs.Items.{refused}
use Rattle.reading.specs.Reading.{sections}
use Rattle.reading.specs.Accepting.{Admitted, adopted}
use Rattle.reading.proofs.Steps.{on_then, off-then}
use Rattle.reading.proofs.Trees.{more_room, on-tree, both_some}
use Rattle.promise.specs.Editions.{Placed, placed, Agrees, Agree, FirstAtOdds}
use Rattle.promise.proofs.Leaves.{Sending, admits-written, Refused, judge-leaf}

count-placed : (t : Tree) (s : State t) → length (placed t s) ≡ leaves t
count-placed (leaf k f) s = refl
count-placed (bus l r) s =
    length-append (placed l s.0) (placed r s.1) ∙ (λ i. count-placed l s.0 i + count-placed r s.1 i)

-- ---- the leaves as a list

module _ (e e' : ℕ) where
  pub agree-append : (xs ys : List Placed) → Agree e e' xs → Agree e e' ys → Agree e e' (xs ++ ys)
  agree-append [] ys h k = k
  agree-append (x ∷ xs) ys h k = (h.0, agree-append xs ys h.1 k)

  agree-split : (xs ys : List Placed) → Agree e e' (xs ++ ys) → Agree e e' xs × Agree e e' ys
  agree-split [] ys h = (tt, h)
  agree-split (x ∷ xs) ys h = let r = agree-split xs ys h.1 in ((h.0, r.0), r.1)

  first-left : (xs ys : List Placed) (i : ℕ) (m : Numbers) → FirstAtOdds e e' xs i m → FirstAtOdds e e' (xs ++ ys) i m
  first-left [] ys i m h = absurd h
  first-left (x ∷ xs) ys zero m h = h
  first-left (x ∷ xs) ys (suc i) m h = (h.0, first-left xs ys i m h.1)

  first-right :
      (xs ys : List Placed) (i : ℕ) (m : Numbers) → Agree e e' xs → FirstAtOdds e e' ys i m
      → FirstAtOdds e e' (xs ++ ys) (length xs + i) m
  first-right [] ys i m h k = let p : i ≡ 0 + i = omega arith in subst (λ (n : ℕ). FirstAtOdds e e' ys n m) p k
  first-right (x ∷ xs) ys i m h k =
      let p : suc (length xs + i) ≡ suc (length xs) + i = omega arith in
      subst (λ (n : ℕ). FirstAtOdds e e' (x ∷ (xs ++ ys)) n m) p (h.0, first-right xs ys i m h.1 k)

-- ---- the sides of a bus

module _ (l r : Tree) (e e' : ℕ) (s : State (bus l r)) (sending : Sending (bus l r) e e' s) where
  on-left : Sending l e e' s.0
  on-left =
      record {
        lawful = sending.lawful.0;
        writes = sending.writes;
        reads = sending.reads;
        sound = sending.sound.0;
        carried = sending.carried.0;
      }

  on-right : Sending r e e' s.1
  on-right =
      record {
        lawful = sending.lawful.1;
        writes = sending.writes;
        reads = sending.reads;
        sound = sending.sound.1;
        carried = sending.carried.1;
      }

-- ---- what is read of what was written

pub admitted-written :
    (t : Tree) (e e' : ℕ) (s : State t) → Sending t e e' s → Agree e e' (placed t s) → Admitted t e' (written t e s)
admitted-written (leaf k f) e e' s sending h = admits-written k f e e' s sending h.0
admitted-written (bus l r) e e' s sending h =
    let p = agree-split e e' (placed l s.0) (placed r s.1) h in (
      admitted-written l e e' s.0 (on-left l r e e' s sending) p.0,
      admitted-written r e e' s.1 (on-right l r e e' s sending) p.1,
    )

-- the sections are refused for the first leaf that is at odds
pub record FirstOdd (t : Tree) (e e' : ℕ) (s : State t) (before : List (List ℕ)) (at : ℕ) (rest : List ℕ) : Type 0 where
  pub leaf : ℕ
  pub fault : Fault
  pub first : FirstAtOdds e e' (placed t s) leaf (numbers_of fault)
  pub is : sections t before e' at (layout t before (written t e s) ++ rest) ≡ refused fault
  pub layer : (numbers_of fault).layer ≡ 3
  pub section : (numbers_of fault).section ≡ length before + leaf

pub judge :
    (t : Tree) (before : List (List ℕ)) (e e' at : ℕ) (rest : List ℕ) (s : State t) → length before + leaves t < 4294967296
    → Sending t e e' s → Agree e e' (placed t s) ⊎ FirstOdd t e e' s before at rest
judge (leaf k f) before e e' at rest s room sending = go (judge-leaf k f e e' s sending before at rest (omega arith))
  where
    go :
        Agrees e e' f s ⊎ Refused k f e e' s sending before at rest
        → Agree e e' (placed (leaf k f) s) ⊎ FirstOdd (leaf k f) e e' s before at rest
    go (inl a) = inl (a, tt)
    go (inr r) =
        inr (record {
          leaf = 0;
          fault = r.fault;
          first = r.odds;
          is = r.is;
          layer = r.layer;
          section = r.section ∙ omega arith;
        })
judge (bus l r) before e e' at rest s room sending =
    go (judge l before e e' at (b ++ rest) s.0 (omega arith) (on-left l r e e' s sending))
    (judge r (before ++ names l) e e' (at + length a) rest s.1 (more_room l r before room) (on-right l r e e' s sending))
  where
    xs : List Placed
    xs = placed l s.0

    ys : List Placed
    ys = placed r s.1

    a : List ℕ
    a = layout l before (written l e s.0)

    b : List ℕ
    b = layout r (before ++ names l) (written r e s.1)

    go :
        Agree e e' xs ⊎ FirstOdd l e e' s.0 before at (b ++ rest)
        → Agree e e' ys ⊎ FirstOdd r e e' s.1 (before ++ names l) (at + length a) rest
        → Agree e e' (placed (bus l r) s) ⊎ FirstOdd (bus l r) e e' s before at rest
    go (inl x) (inl y) = inl (agree-append e e' xs ys x y)
    go (inr j) y =
        inr (record {
          leaf = j.leaf;
          fault = j.fault;
          first = first-left e e' xs ys j.leaf (numbers_of j.fault) j.first;
          is = ap (sections (bus l r) before e' at) (append_assoc a b rest) ∙ off-then _ _ j.is;
          layer = j.layer;
          section = j.section;
        })
    go (inl x) (inr j) =
        let left = admitted-written l e e' s.0 (on-left l r e e' s sending) x in
        inr (record {
          leaf = length xs + j.leaf;
          fault = j.fault;
          first = first-right e e' xs ys j.leaf (numbers_of j.fault) x j.first;
          is =
              ap (sections (bus l r) before e' at) (append_assoc a b rest)
              ∙ on_then _ _
              (on-tree l sending.lawful.0 before e' at (b ++ rest) (written l e s.0) (omega arith) sending.reads left)
              (off-then _ _ j.is);
          layer = j.layer;
          section =
              j.section ∙ omega (arith, length-append before (names l), length-names l, count-placed l s.0);
        })

pub adopted-written : (t : Tree) (e e' : ℕ) (s : State t) → Sending t e e' s → adopted t (written t e s) ≡ Some s
adopted-written (leaf k f) e e' s sending = sending.lawful.returns e s sending.writes sending.sound sending.carried
adopted-written (bus l r) e e' s sending =
    both_some (adopted l (written l e s.0)) (adopted r (written r e s.1)) s.0 s.1
    (adopted-written l e e' s.0 (on-left l r e e' s sending))
    (adopted-written r e e' s.1 (on-right l r e e' s sending))
