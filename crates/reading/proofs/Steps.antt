-- One step of the reader: what it comes to where it goes on or refuses, and what is known of what it gives.
use Rattle.std.proofs.Common.{◌≡◌, ℕ, ◌+◌, ◌<◌, Bool, true, false, cond, ltb, List, [], ◌∷◌, ◌++◌, length, take, drop, Some, None, Option, sym, refl, ap, ◌∙◌, subst, arith, length-append, take-append-drop}
use Rattle.std.specs.List.{AllByRecursion}
use Rattle.std.proofs.lemmas.Bool.{ltb-false, le-ltb, cond-false}
use Rattle.std.proofs.lemmas.List.{take_at, drop_at, length-take-le}
use Rattle.device.specs.Bytes.{Bytes, four, value}
use Rattle.fault.specs.declared.Fault.{Fault}
use Rattle.reading.specs.Items.{Out, refused, got, then, unless, passes, item, byte, word}
use Rattle.device.proofs.FourBytes.{value-four, four-value}

-- ---- forwards

module _ {A : Type 0} where
  -- a step that went on leads to what comes after it
  pub on_then :
      {B : Type 0} (o : Out A) (k : A → ℕ → List ℕ → Out B) {a : A} {at : ℕ} {rest : List ℕ} {r : Out B}
      → o ≡ got a at rest → k a at rest ≡ r → then o k ≡ r
  on_then o k p q = ap (λ (x : Out A). then x k) p ∙ q

  pub on-unless : (b : Bool) (F : Fault) (o : Out A) {r : Out A} → b ≡ true → o ≡ r → unless b F o ≡ r
  on-unless b F o p q = ap (λ (x : Bool). unless x F o) p ∙ q

  pub on-passes : (c : Option ℕ) (F : ℕ → Fault) (o : Out A) {r : Out A} → c ≡ None → o ≡ r → passes c F o ≡ r
  on-passes c F o p q = ap (λ (x : Option ℕ). passes x F o) p ∙ q

  -- a step that refuses
  pub off-then :
      {B : Type 0} (o : Out A) (k : A → ℕ → List ℕ → Out B) {F : Fault} → o ≡ refused F → then o k ≡ refused F
  off-then o k p = ap (λ (x : Out A). then x k) p

  pub off-unless : (b : Bool) (F : Fault) (o : Out A) → b ≡ false → unless b F o ≡ refused F
  off-unless b F o p = ap (λ (x : Bool). unless x F o) p

-- an item that is there is read
pub on-item :
    {B : Type 0} (n : ℕ) (section subsection : Option ℕ) (at : ℕ) (own rest : List ℕ) (k : List ℕ → ℕ → List ℕ → Out B)
    {r : Out B} → length own ≡ n → k own (at + length own) rest ≡ r
    → then (item n section subsection at (own ++ rest)) k ≡ r
on-item n section subsection at own rest k long next =
    let bytes = own ++ rest in
    let enough = le-ltb (length bytes) n (omega (arith, length-append own rest)) in
    let place = ap (λ (m : ℕ). at + m) (sym long) in
    on_then (item n section subsection at bytes) k
    (cond-false (ltb (length bytes) n) (refused _) (got (take n bytes) (at + n) (drop n bytes)) enough
    ∙ (λ i. got (take_at own rest n long i) (place i) (drop_at own rest n long i))) next

pub on_word :
    (n : ℕ) (section subsection : Option ℕ) (at : ℕ) (rest : List ℕ) → n < 4294967296
    → word section subsection at (four n ++ rest) ≡ got n (at + 4) rest
on_word n section subsection at rest small =
    on-item 4 section subsection at (four n) rest _ refl (ap (λ (m : ℕ). got m (at + 4) rest) (value-four n small))

-- ---- backwards

abbrev Holds : {A : Type 0} → (A → List ℕ → Type 0) → Out A → Type 0
Holds P (refused F) = Unit {0}
Holds P (got a at rest) = P a rest

-- what a reading gives, if it gives anything, is P of the value and of the bytes left
pub record Gives {A : Type 0} (P : A → List ℕ → Type 0) (o : Out A) : Type 0 where
  holds : Holds P o

module _ {A : Type 0} {P : A → List ℕ → Type 0} where
  pub given : (o : Out A) (a : A) (at : ℕ) (rest : List ℕ) → o ≡ got a at rest → Gives P o → P a rest
  given o a at rest is h = subst (Holds P) is h.holds

  pub gives-got : (a : A) (at : ℕ) (rest : List ℕ) → P a rest → Gives P (got a at rest)
  gives-got a at rest h = record { holds = h }

  pub gives-refused : (F : Fault) → Gives P (refused F)
  gives-refused F = record { holds = tt }

  pub gives_then :
      {B : Type 0} {Q : B → List ℕ → Type 0} (o : Out A) (k : A → ℕ → List ℕ → Out B) → Gives P o
      → ((a : A) (at : ℕ) (rest : List ℕ) → P a rest → Gives Q (k a at rest)) → Gives Q (then o k)
  gives_then (refused F) k h next = record { holds = tt }
  gives_then (got a at rest) k h next = next a at rest h.holds

  -- the last step
  pub gives-last :
      {Q : A → List ℕ → Type 0} (o : Out A) → Gives P o → ((a : A) (rest : List ℕ) → P a rest → Q a rest) → Gives Q o
  gives-last (refused F) h next = record { holds = tt }
  gives-last (got a at rest) h next = record { holds = next a rest h.holds }

  pub gives-unless : (b : Bool) (F : Fault) (o : Out A) → (b ≡ true → Gives P o) → Gives P (unless b F o)
  gives-unless true F o h = h refl
  gives-unless false F o h = gives-refused F

  pub gives-passes : (c : Option ℕ) (F : ℕ → Fault) (o : Out A) → (c ≡ None → Gives P o) → Gives P (passes c F o)
  gives-passes None F o h = h refl
  gives-passes (Some field) F o h = gives-refused (F field)

  pub gives-cond : (b : Bool) (x y : Out A) → (b ≡ true → Gives P x) → (b ≡ false → Gives P y) → Gives P (cond b x y)
  gives-cond true x y p q = p refl
  gives-cond false x y p q = q refl

all_split : {X : Type 0} (P : X → Type 0) (xs ys : List X) → AllByRecursion P (xs ++ ys) → AllByRecursion P xs × AllByRecursion P ys
all_split P [] ys h = (tt, h)
all_split P (x ∷ xs) ys h = let r = all_split P xs ys h.1 in ((h.0, r.0), r.1)

-- an item of n bytes that was read
pub record Item (n : ℕ) (source own rest : List ℕ) : Type 0 where
  pub long : length own ≡ n
  pub whole : source ≡ own ++ rest
  pub bytes : Bytes own
  pub left : Bytes rest

pub gives-item :
    (n : ℕ) (section subsection : Option ℕ) (at : ℕ) (bytes : List ℕ) → Bytes bytes
    → Gives (Item n bytes) (item n section subsection at bytes)
gives-item n section subsection at bytes bs =
    gives-cond (ltb (length bytes) n) _ _ (λ short. gives-refused _)
    λ enough.
    let whole = sym (take-append-drop n bytes) in
    let parts = all_split (λ b. b < 256) (take n bytes) (drop n bytes) (subst Bytes whole bs) in
    gives-got (take n bytes) (at + n) (drop n bytes)
    (record {
      long = length-take-le n bytes (ltb-false (length bytes) n enough);
      whole = whole;
      bytes = parts.0;
      left = parts.1;
    })

-- a byte, or a number of four bytes, that was read
pub record Number (source own rest : List ℕ) : Type 0 where
  pub whole : source ≡ own ++ rest
  pub left : Bytes rest

pub gives-byte :
    (section subsection : Option ℕ) (at : ℕ) (bytes : List ℕ) → Bytes bytes
    → Gives (λ b. Number bytes (b ∷ [])) (byte section subsection at bytes)
gives-byte section subsection at [] bs = gives-refused _
gives-byte section subsection at (b ∷ rest) bs = gives-got b (at + 1) rest (record { whole = refl; left = bs.1 })

pub gives-word :
    (section subsection : Option ℕ) (at : ℕ) (bytes : List ℕ) → Bytes bytes
    → Gives (λ n. Number bytes (four n)) (word section subsection at bytes)
gives-word section subsection at bytes bs =
    gives_then _ _ (gives-item 4 section subsection at bytes bs) λ own at₁ rest i.
    let back = ap (λ (x : List ℕ). x ++ rest) (sym (four-value own i.long i.bytes)) in
    gives-got (value own) at₁ rest (record { whole = i.whole ∙ back; left = i.left })
