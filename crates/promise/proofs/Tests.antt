-- What a save and a load come to, test by test.
use Rattle.std.proofs.Common.{◌≡◌, ℕ, ◌+◌, ◌≤◌, Bool, true, false, leb, List, [], ◌++◌, length, take, drop, Some, None, Ok, Err, Option, Result, sym, refl, ap, ◌∙◌, arith}
use lib.Seq.{take-append_seam}
use Rattle.std.proofs.lemmas.Bool.{cond-true, cond-false, le-leb, leb-true, and_from, and_parts}
use Rattle.device.specs.Format.{latest, Served, is_served}
use Rattle.tree.specs.Tree.{Tree, leaf, bus, State, Carried, leaves}
use Rattle.fault.specs.declared.Fault.{Fault}
use Rattle.fault.specs.declared.Fault.TheVariants as fault
use Rattle.tree.specs.Stream.{Sections, names, layout, stream}
use Rattle.tree.specs.Carrying.{uncarried}
use Rattle.tree.proofs.Carrying.{carried_none}
use Rattle.board.specs.Saving.{tested, sized, served, barred, put, saving}
use Rattle.reading.specs.Items.{refused, got}
use Rattle.reading.specs.Reading.{whole}
use Rattle.reading.specs.Accepting.{both, adopted}
use Rattle.promise.specs.Loading.{or_else, pair, adopting_from, taking, loading}
use Rattle.promise.specs.Board.{Saved, saved}

-- ---- the edition

pub served-is : (e : ℕ) → is_served e ≡ true → Served e
served-is e h =
    let p = and_parts (leb 1 e) (leb e latest) h in
    record { low = leb-true 1 e p.0; high = leb-true e latest p.1 }

is-served : (e : ℕ) → Served e → is_served e ≡ true
is-served e s = and_from (leb 1 e) (leb e latest) (le-leb 1 e s.low) (le-leb e latest s.high)

not-served : (e : ℕ) → (Served e → ⊥) → is_served e ≡ false
not-served e h = go (is_served e) refl
  where
    go : (b : Bool) → is_served e ≡ b → b ≡ false
    go true is = absurd (h (served-is e is))
    go false is = refl

-- ---- tests

err-ok : {A : Type 0} (F : Fault) (a : A) → Err F ≡ Ok a → ⊥
err-ok F a h = let z : ◌≡◌ {A = ℕ} 0 1 = cc in omega arith

module _ {A : Type 0} where
  tested-ok : (b : Bool) (F : Fault) (r : Result A Fault) (a : A) → tested b F r ≡ Ok a → (b ≡ true) × (r ≡ Ok a)
  tested-ok true F r a h = (refl, h)
  tested-ok false F r a h = absurd (err-ok F a h)

  barred-ok : (o : Option Fault) (r : Result A Fault) (a : A) → barred o r ≡ Ok a → (o ≡ None) × (r ≡ Ok a)
  barred-ok None r a h = (refl, h)
  barred-ok (Some F) r a h = absurd (err-ok F a h)

  past-size : (t : Tree) (r : Result A Fault) → leaves t ≤ 16 → sized t r ≡ r
  past-size t r few = cond-true (leb (leaves t) 16) r _ (le-leb (leaves t) 16 few)

  -- at an edition that is served
  past-tests : (t : Tree) (e : ℕ) (r : Result A Fault) → leaves t ≤ 16 → Served e → sized t (served e r) ≡ r
  past-tests t e r few is = past-size t (served e r) few ∙ cond-true (is_served e) r _ (is-served e is)

  -- and at another
  pub no-edition :
      (t : Tree) (e : ℕ) (r : Result A Fault) → leaves t ≤ 16 → (Served e → ⊥)
      → sized t (served e r) ≡ Err (fault.NoEdition e)
  no-edition t e r few other = past-size t (served e r) few ∙ cond-false (is_served e) r _ (not-served e other)

-- ---- saving

saved-ok :
    (buffer : List ℕ) (r : Result (ℕ × List ℕ) Fault) (n : ℕ) (after : List ℕ) → saved buffer r ≡ Saved n after
    → r ≡ Ok (n, after)
saved-ok buffer (Ok r) n after h =
    let p : r.0 ≡ n = cc in
    let q : r.1 ≡ after = cc in
    λ i. Ok (p i, q i)
saved-ok buffer (Err F) n after h = cc

put_front : (buffer bytes : List ℕ) (n : ℕ) (after : List ℕ) → put buffer bytes ≡ Ok (n, after) → take n after ≡ bytes
put_front buffer bytes n after h =
    let new : ℕ × List ℕ = (length bytes, bytes ++ drop (length bytes) buffer) in
    let put : Ok new ≡ Ok (n, after) = (tested-ok (leb (length bytes) (length buffer)) _ (Ok new) (n, after) h).1 in
    let is : (n, after) ≡ new = cc in
    ap (λ (r : ℕ × List ℕ). take r.0 r.1) is ∙ take-append_seam bytes (drop (length bytes) buffer)

-- a save wrote the stream of a state
pub record Wrote (t : Tree) (s : State t) (e n : ℕ) (after : List ℕ) : Type 0 where
  pub edition : Served e
  pub none : uncarried t 0 e s ≡ None
  pub front : take n after ≡ stream t e s

pub wrote :
    (t : Tree) (s : State t) (e n : ℕ) (buffer after : List ℕ) → saved buffer (saving t s e buffer) ≡ Saved n after
    → Wrote t s e n after
wrote t s e n buffer after h =
    let p = tested-ok (leb (leaves t) 16) _ _ (n, after) (saved-ok buffer (saving t s e buffer) n after h) in
    let q = tested-ok (is_served e) _ _ (n, after) p.1 in
    let r = barred-ok (uncarried t 0 e s) _ (n, after) q.1 in
    record { edition = served-is e q.0; none = r.0; front = put_front buffer (stream t e s) n after r.1 }

-- a save that no test before the buffer's refuses
pub comes-to-put :
    (t : Tree) (s : State t) (e : ℕ) (buffer : List ℕ) → leaves t ≤ 16 → Served e → Carried t e s
    → saving t s e buffer ≡ put buffer (stream t e s)
comes-to-put t s e buffer few is carried =
    past-tests t e _ few is
    ∙ ap (λ (o : Option Fault). barred o (put buffer (stream t e s))) (carried_none t 0 e s carried)

-- ---- loading

some-none : {A : Type 0} (a : A) → Some a ≡ None → ⊥
some-none a h = let z : ◌≡◌ {A = ℕ} 0 1 = cc in omega arith

both-parts :
    {A B : Type 0} (x : Option A) (y : Option B) (p : A × B) → both x y ≡ Some p
    → (x ≡ Some p.0) × (y ≡ Some p.1)
both-parts None y p h = absurd (some-none p (sym h))
both-parts (Some a) None p h = absurd (some-none p (sym h))
both-parts {A} {B} (Some a) (Some b) p h =
    let q : A × B = (a, b) in
    let same : q ≡ p = cc in
    (ap (λ (o : A × B). Some o.0) same, ap (λ (o : A × B). Some o.1) same)

pub adopting-some :
    (t : Tree) (before : List (List ℕ)) (at : ℕ) (x : Sections t) (s : State t) → adopted t x ≡ Some s
    → adopting_from t before at x ≡ Ok s
adopting-some (leaf k f) before at x s h = ap (or_else _) h
adopting-some (bus l r) before at x s h =
    let p = both-parts (adopted l x.0) (adopted r x.1) s h in
    let a = adopting-some l before at x.0 s.0 p.0 in
    let b = adopting-some r (before ++ names l) (at + length (layout l before x.0)) x.1 s.1 p.1 in
    λ i. pair (a i) (b i)

module _ (t : Tree) (e : ℕ) (few : leaves t ≤ 16) (is : Served e) (bytes : List ℕ) where
  pub load-takes :
      (x : Sections t) (n : ℕ) (rest : List ℕ) (s : State t) → whole t e bytes ≡ got x n rest → adopted t x ≡ Some s
      → loading t e bytes ≡ Ok s
  load-takes x n rest s reads adopts =
      past-tests t e _ few is ∙ ap (taking t) reads ∙ adopting-some t [] 18 x s adopts

  pub load-refuses : (F : Fault) → whole t e bytes ≡ refused F → loading t e bytes ≡ Err F
  load-refuses F reads = past-tests t e _ few is ∙ ap (taking t) reads
