-- An edition carries a tree's state exactly where no leaf is refused; the highest edition carries every sound state.
use Rattle.std.proofs.Common.{◌≡◌, ℕ, zero, suc, ◌+◌, ◌<◌, ◌≤◌, Bool, true, false, cond, not, ◌&&◌, List, [], ◌∷◌, ◌++◌, length, take, drop, Some, None, Option, sym, refl, ap, ◌∙◌, subst, ⊎_elim, arith, length-drop, take-append-drop}
use Rattle.std.proofs.lemmas.Bool.{cond-true, cases_Bool, cases_eq, and_cases, and_left, and_right, cond-false, not_from_true, not-false, both_ways}
use Rattle.std.proofs.lemmas.Bool.Decides.{nat_tests}
use Rattle.std.proofs.lemmas.Option.{none-some}
use Rattle.std.proofs.lemmas.List.{nil_from_length}
use Rattle.device.specs.Bytes.{same, total}
use Rattle.device.specs.Format.{Format, latest, count, needs, differ_from, off_default, unknown, unknown_from}
use Rattle.fault.specs.declared.Fault.{Fault}
use Rattle.fault.specs.declared.Fault.TheVariants.{FieldNotCarried, SubsectionNotCarried}
use Rattle.fault.specs.Numbers.{numbers_of}
use Rattle.section.specs.Carrying.{lacking}
use Rattle.section.proofs.Comparing.{same-decides}
use Rattle.tree.specs.Carrying.{first, uncarried}
use Rattle.tree.specs.Tree.{Tree, leaf, bus, State, Sound, Lawful, Carried, leaves}

-- ---- fields off their defaults

differ_same : (k : ℕ) (ns xs : List ℕ) → differ_from k ns xs xs ≡ None
differ_same k [] xs = refl
differ_same k (n ∷ ns) xs =
    cond-true (same (take n xs) (take n xs)) _ (Some k) ((same-decides (take n xs) (take n xs)).1 refl)
    ∙ differ_same (suc k) ns (drop n xs)

-- bodies with fields of these sizes that differ in none are equal
differ-none :
    (k : ℕ) (ns xs ys : List ℕ) → length xs ≡ total ns → length ys ≡ total ns → differ_from k ns xs ys ≡ None → xs ≡ ys
differ-none k [] xs ys p q h = nil_from_length xs p ∙ sym (nil_from_length ys q)
differ-none k (n ∷ ns) xs ys p q h =
    let p' : length (drop n xs) ≡ total ns = omega (arith, length-drop n xs) in
    let q' : length (drop n ys) ≡ total ns = omega (arith, length-drop n ys) in
    go (same (take n xs) (take n ys)) refl (differ-none (suc k) ns (drop n xs) (drop n ys) p' q') h
  where
    go :
        (b : Bool) → same (take n xs) (take n ys) ≡ b
        → (differ_from (suc k) ns (drop n xs) (drop n ys) ≡ None → drop n xs ≡ drop n ys)
        → cond b (differ_from (suc k) ns (drop n xs) (drop n ys)) (Some k) ≡ None → xs ≡ ys
    go true e later g =
        let front = (same-decides (take n xs) (take n ys)).0 e in
        let back = later g in
        sym (take-append-drop n xs) ∙ (λ i. front i ++ back i) ∙ take-append-drop n ys
    go false e later g = absurd (none-some k (sym g))

-- ---- unknown subsections

module _ {S : Type 0} (f : Format S) (e : ℕ) (s : S) where
  abbrev knows : ℕ → Bool
  knows = (f.edition e).knows

  -- subsection k bars the state from the edition
  abbrev bars : ℕ → Bool
  bars k = needs f s k && not (knows k)

  bars-not : (k : ℕ) → (needs f s k ≡ true → knows k ≡ true) → bars k ≡ false
  bars-not k h = grind (arith, nat_tests)

  not-bars : (k : ℕ) → bars k ≡ false → needs f s k ≡ true → knows k ≡ true
  not-bars k h need = grind (arith, nat_tests)

  all_none :
      (k n : ℕ) → ((j : ℕ) → k ≤ j → j < k + n → needs f s j ≡ true → knows j ≡ true) → unknown_from f e s k n ≡ None
  all_none k zero h = refl
  all_none k (suc n) h =
      cond-false (bars k) (Some k) (unknown_from f e s (suc k) n) (bars-not k (h k (omega arith) (omega arith)))
      ∙ all_none (suc k) n (λ j low high. h j (omega arith) (omega arith))

  none-all :
      (k n : ℕ) → unknown_from f e s k n ≡ None → (j : ℕ) → k ≤ j → j < k + n → needs f s j ≡ true → knows j ≡ true
  none-all k zero is j low high need = absurd (omega arith)
  none-all k (suc n) is j low high need = go (bars k) refl (λ l g. none-all (suc k) n g j l (omega arith) need) is
    where
      go :
          (b : Bool) → bars k ≡ b → (suc k ≤ j → unknown_from f e s (suc k) n ≡ None → knows j ≡ true)
          → cond b (Some k) (unknown_from f e s (suc k) n) ≡ None → knows j ≡ true
      go true u later g = absurd (none-some k (sym g))
      go false u later g =
          ⊎_elim (λ same. subst (λ (i : ℕ). needs f s i ≡ true → knows i ≡ true) same (not-bars k u) need)
          (λ other. later (omega arith) g) (cases_eq k j)

-- ---- leaves and trees

lacking-none : (n : ℕ) (a b : Option ℕ) → lacking n a b ≡ None → (a ≡ None) × (b ≡ None)
lacking-none n a b h = grind (arith, nat_tests)

first-none : (a b : Option Fault) → first a b ≡ None → (a ≡ None) × (b ≡ None)
first-none a b h = grind (arith, nat_tests)

pub carried_none : (t : Tree) (n e : ℕ) (s : State t) → Carried t e s → uncarried t n e s ≡ None
carried_none (leaf k f) n e s c =
    let fields = f.fields f.last in
    let last = f.body f.last s in
    let body = ap (λ (b : List ℕ). differ_from 0 fields b last) c.absent ∙ differ_same 0 fields last in
    let subs = all_none f e s 0 (count f) (λ j low high. c.knows j (omega arith)) in
    λ i. lacking n (body i) (subs i)
carried_none (bus l r) n e s c =
    ap (λ (o : Option Fault). first o (uncarried r (n + leaves l) e s.1)) (carried_none l n e s.0 c.0)
    ∙ carried_none r (n + leaves l) e s.1 c.1

pub none-carried : (t : Tree) → Lawful t → (n e : ℕ) (s : State t) → Sound t s → uncarried t n e s ≡ None → Carried t e s
none-carried (leaf k f) lawful n e s sound h =
    let v = (f.edition e).writes in
    let own = lawful.formed in
    let both = lacking-none n (off_default f v s) (unknown f e s) h in
    record {
      knows = λ j high need. none-all f e s 0 (count f) both.1 j (omega arith) (omega arith) need;
      absent =
          differ-none 0 (f.fields f.last) (f.complete v (f.body v s)) (f.body f.last s)
          (own.complete-size v (f.body v s) (own.body-size v s sound)) (own.body-size f.last s sound) both.0;
    }
none-carried (bus l r) lawful n e s sound h =
    let both = first-none (uncarried l n e s.0) (uncarried r (n + leaves l) e s.1) h in
    let left = none-carried l lawful.0 n e s.0 sound.0 both.0 in
    let right = none-carried r lawful.1 (n + leaves l) e s.1 sound.1 both.1 in
    (left, right)

pub latest-carried : (t : Tree) (s : State t) → Lawful t → Sound t s → Carried t latest s
latest-carried (leaf k f) s lawful sound = lawful.latest-carries s sound
latest-carried (bus l r) s lawful sound =
    (latest-carried l s.0 lawful.0 sound.0, latest-carried r s.1 lawful.1 sound.1)

-- ---- the number of a refusal

some_is : {A : Type 0} (a b : A) → Some a ≡ Some b → a ≡ b
some_is a b h = cc

-- what a refusal is, where there is one, has number 5
abbrev Fives : Option Fault → Type 0
Fives o = (F : Fault) → o ≡ Some F → (numbers_of F).number ≡ 5

fives : (G : Fault) → (numbers_of G).number ≡ 5 → Fives (Some G)
fives G five F h = ap (λ (x : Fault). (numbers_of x).number) (some_is F G (sym h)) ∙ five

lacking-fives : (n : ℕ) (a b : Option ℕ) → Fives (lacking n a b)
lacking-fives n None None F h = absurd (none-some F h)
lacking-fives n None (Some k) F h = fives (SubsectionNotCarried n k) refl F h
lacking-fives n (Some field) b F h = fives (FieldNotCarried n field) refl F h

first-fives : (a b : Option Fault) → Fives a → Fives b → Fives (first a b)
first-fives None b p q = q
first-fives (Some x) b p q = p

-- a state that is not carried is fault 5
pub uncarried-fives : (t : Tree) (n e : ℕ) (s : State t) (F : Fault) → uncarried t n e s ≡ Some F → (numbers_of F).number ≡ 5
uncarried-fives (leaf k f) n e s = lacking-fives n (off_default f (f.edition e).writes s) (unknown f e s)
uncarried-fives (bus l r) n e s =
    first-fives (uncarried l n e s.0) (uncarried r (n + leaves l) e s.1)
    (uncarried-fives l n e s.0) (uncarried-fives r (n + leaves l) e s.1)
