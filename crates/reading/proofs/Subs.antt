-- The subsections of one section: laid out, they are read, or refused at the first that is not known; read, they are laid out.
use Rattle.std.proofs.Common.{◌≡◌, ℕ, zero, suc, ◌+◌, ◌<◌, ◌≤◌, Bool, true, false, eqb, leb, ◌⊎◌, List, [], ◌∷◌, ◌++◌, length, Some, None, Option, sym, refl, ap, ◌∙◌, subst, inl, inr, append_assoc, arith, length-append}
use Rattle.std.specs.List.{AllByRecursion}
use Rattle.std.proofs.lemmas.Bool.{cond-true, cond-false, le-leb, leb-true, eqb-true, cases_Bool}
use Rattle.device.specs.Bytes.{Bytes, four}
use Rattle.device.specs.Format.{Format, count, title, sub_size, SubPasses, Ascending}
use Rattle.fault.specs.declared.Fault.{Fault}
use Rattle.fault.specs.declared.Fault.TheVariants as fault
use Rattle.section.specs.Layout.{subsections}
use Rattle.reading.specs.Items.{Out, refused, got, then, TagOf, Token, Opened, Named, Closed, Ended, next}
use Rattle.reading.specs.Reading.{numbered, in_order, sub_body, entered, entry, subs}
use Rattle.reading.proofs.Steps.{on_then, on-unless, on-passes, off-then, on-item, on_word}
use Rattle.reading.proofs.Steps.{Gives, gives-got, gives-refused, gives_then, gives-unless, gives-passes, gives-cond}
use Rattle.reading.proofs.Steps.{gives-item, gives-byte, gives-word}
use Rattle.reading.proofs.Titles.{Apart, numbered-title, numbered-named}

-- each subsection of a list is known
abbrev pub AllKnown : (ℕ → Bool) → List (ℕ × List ℕ) → Type 0
AllKnown knows ss = AllByRecursion (λ p. knows p.0 ≡ true) ss

-- some subsection is not
abbrev pub Unknowns : (ℕ → Bool) → List (ℕ × List ℕ) → Type 0
Unknowns knows [] = ⊥
Unknowns knows (p ∷ ps) = (knows p.0 ≡ false) ⊎ ((knows p.0 ≡ true) × Unknowns knows ps)

pub all_known : (knows : ℕ → Bool) (ss : List (ℕ × List ℕ)) → AllKnown knows ss ⊎ Unknowns knows ss
all_known knows [] = inl tt
all_known knows (p ∷ ps) = go (cases_Bool (knows p.0)) (all_known knows ps)
  where
    go :
        (knows p.0 ≡ true) ⊎ (knows p.0 ≡ false) → AllKnown knows ps ⊎ Unknowns knows ps
        → AllKnown knows (p ∷ ps) ⊎ Unknowns knows (p ∷ ps)
    go (inl y) (inl ys) = inl (y, ys)
    go (inl y) (inr u) = inr (inr (y, u))
    go (inr n) r = inr (inl n)

-- the first of them
abbrev pub unknown : (knows : ℕ → Bool) (ss : List (ℕ × List ℕ)) → Unknowns knows ss → ℕ
unknown knows [] u = elim u [ ]
unknown knows (p ∷ ps) (inl u) = p.0
unknown knows (p ∷ ps) (inr u) = unknown knows ps u.1

-- a refusal at some place
pub record Off {A : Type 0} (o : Out A) (F : ℕ → Fault) : Type 0 where
  pub place : ℕ
  pub is : o ≡ refused (F place)

module _ {S : Type 0} (f : Format S) (apart : Apart f) (e n v : ℕ) (body : List ℕ) where
  abbrev knows : ℕ → Bool
  knows = (f.edition e).knows

  -- subsection p passes
  abbrev Pass : ℕ × List ℕ → Type 0
  Pass p = SubPasses f v body p.0 p.1

  -- a subsection and its tag, before the bytes that follow
  abbrev tagged : ℕ × List ℕ → List ℕ → List ℕ
  tagged p rest = 5 ∷ length (title f p.0) ∷ title f p.0 ++ (four 1 ++ (p.1 ++ rest))

  regrouped :
      (p : ℕ × List ℕ) (ss : List (ℕ × List ℕ)) (rest : List ℕ)
      → subsections f (p ∷ ss) ++ rest ≡ tagged p (subsections f ss ++ rest)
  regrouped p ss rest =
      let name = title f p.0 in
      let more = subsections f ss in
      ap (λ (x : List ℕ). 5 ∷ length name ∷ x)
      (append_assoc name (four 1 ++ (p.1 ++ more)) rest
      ∙ ap (λ (x : List ℕ). name ++ (four 1 ++ x)) (append_assoc p.1 more rest))

  -- how many bytes a subsection has with its tag
  abbrev long : ℕ × List ℕ → ℕ
  long p = length (subsections f (p ∷ []))

  longer : (p : ℕ × List ℕ) (ss : List (ℕ × List ℕ)) → length (subsections f (p ∷ ss)) ≡ long p + length (subsections f ss)
  longer p ss =
      let name = title f p.0 in
      let own = p.1 in
      let more = subsections f ss in
      let all = length-append name (four 1 ++ (own ++ more)) in
      let one = length-append name (four 1 ++ (own ++ [])) in
      omega (arith, all, one, length-append own more, length-append own [])

  -- ---- forwards

  -- past a tag, to the number of the name
  to_number :
      (p : ℕ × List ℕ) (least at : ℕ) (rest : List ℕ)
      → let name = title f p.0 in
      let at₁ = at + 1 + 1 in
      entry f e n v body least at (tagged p rest)
      ≡ then (in_order n least at₁ name (numbered f e name) (at₁ + length name) (four 1 ++ (p.1 ++ rest))) λ k at₂ r₂.
      then (sub_body f n v body k at₂ r₂) λ own at₃ r₃.
      got (Some (k, own)) at₃ r₃
  to_number p least at rest =
      let name = title f p.0 in
      on_then _ _ (on-item (length name) (Some n) None (at + 1 + 1) name (four 1 ++ (p.1 ++ rest)) _ refl refl) refl

  on-body :
      (k at : ℕ) (own rest : List ℕ) → SubPasses f v body k own
      → sub_body f n v body k at (four 1 ++ (own ++ rest)) ≡ got own (at + 4 + length own) rest
  on-body k at own rest h =
      on_then _ _ (on_word 1 (Some n) (Some k) at (own ++ rest) (omega arith))
      (on-item (sub_size f k) (Some n) (Some k) (at + 4) own rest _ h.long
      (on-passes _ _ _ h.checked (on-unless _ _ _ h.needed refl)))

  on-entry :
      (p : ℕ × List ℕ) (least at : ℕ) (rest : List ℕ) → least ≤ p.0 → p.0 < count f → knows p.0 ≡ true → Pass p
      → entry f e n v body least at (tagged p rest) ≡ got (Some p) (at + long p) rest
  on-entry p least at rest le low known pass =
      let k = p.0 in
      let name = title f k in
      let at₁ = at + 1 + 1 in
      let after = four 1 ++ (p.1 ++ rest) in
      let number = numbered-title f e apart k low ∙ cond-true (knows k) (Some k) None known in
      let one = length-append name (four 1 ++ (p.1 ++ [])) in
      let place : at₁ + length name + 4 + length p.1 ≡ at + long p = omega (arith, one, length-append p.1 []) in
      to_number p least at rest
      ∙ on_then _ _
      (ap (λ (o : Option ℕ). in_order n least at₁ name o (at₁ + length name) after) number
      ∙ on-unless (leb least k) _ _ (le-leb least k le) refl)
      (on_then _ _ (on-body k (at₁ + length name) p.1 rest pass) (ap (λ (m : ℕ). got (Some p) m rest) place))

  off-entry :
      (p : ℕ × List ℕ) (least at : ℕ) (rest : List ℕ) → p.0 < count f → knows p.0 ≡ false
      → entry f e n v body least at (tagged p rest)
      ≡ refused (fault.UnknownSubsection n (at + 1 + 1) (length (title f p.0)))
  off-entry p least at rest low unknown =
      let k = p.0 in
      let name = title f k in
      let at₁ = at + 1 + 1 in
      let number = numbered-title f e apart k low ∙ cond-false (knows k) (Some k) None unknown in
      to_number p least at rest
      ∙ off-then _ _ (ap (λ (o : Option ℕ). in_order n least at₁ name o (at₁ + length name) (four 1 ++ (p.1 ++ rest))) number)

  -- `fuel` suffices for subsections from number `least` on
  abbrev Enough : ℕ → ℕ → Type 0
  Enough fuel least = (least ≤ count f) × (count f < fuel + least)

  pub on-subs :
      (ss : List (ℕ × List ℕ)) (fuel least at : ℕ) (rest : List ℕ)
      → Ascending f least ss → AllKnown knows ss → AllByRecursion Pass ss → Enough fuel least
      → subs f e n v body fuel least at (subsections f ss ++ (0x7e ∷ rest)) ≡ got ss (at + length (subsections f ss) + 1) rest
  on-subs [] zero least at rest asc known pass enough = absurd (omega arith)
  on-subs [] (suc fuel) least at rest asc known pass enough =
      let place : at + 1 ≡ at + 0 + 1 = omega arith in
      ap (λ (m : ℕ). got [] m rest) place
  on-subs (p ∷ ss) zero least at rest asc known pass enough = absurd (omega arith)
  on-subs (p ∷ ss) (suc fuel) least at rest asc known pass enough =
      let after = subsections f ss ++ (0x7e ∷ rest) in
      let sum = longer p ss in
      let place : at + long p + length (subsections f ss) + 1 ≡ at + length (subsections f (p ∷ ss)) + 1 = omega arith in
      ap (subs f e n v body (suc fuel) least at) (regrouped p ss (0x7e ∷ rest))
      ∙ on_then _ _ (on-entry p least at after asc.0 asc.1 known.0 pass.0)
      (on_then _ _ (on-subs ss fuel (suc p.0) (at + long p) rest asc.2 known.1 pass.1 (asc.1, omega arith))
      (ap (λ (m : ℕ). got (p ∷ ss) m rest) place))

  -- up to the first that is not known
  pub off-subs :
      (ss : List (ℕ × List ℕ)) (fuel least at : ℕ) (rest : List ℕ)
      → Ascending f least ss → (un : Unknowns knows ss) → AllByRecursion (λ p. knows p.0 ≡ true → Pass p) ss → Enough fuel least
      → Off (subs f e n v body fuel least at (subsections f ss ++ (0x7e ∷ rest)))
      (λ place. fault.UnknownSubsection n place (length (title f (unknown knows ss un))))
  off-subs [] fuel least at rest asc un pass enough = absurd un
  off-subs (p ∷ ss) zero least at rest asc un pass enough = absurd (omega arith)
  off-subs (p ∷ ss) (suc fuel) least at rest asc (inl un) pass enough =
      record {
        place = at + 1 + 1;
        is =
            ap (subs f e n v body (suc fuel) least at) (regrouped p ss (0x7e ∷ rest))
            ∙ off-then _ _ (off-entry p least at (subsections f ss ++ (0x7e ∷ rest)) asc.1 un);
      }
  off-subs (p ∷ ss) (suc fuel) least at rest asc (inr un) pass enough =
      let after = subsections f ss ++ (0x7e ∷ rest) in
      let later = off-subs ss fuel (suc p.0) (at + long p) rest asc.2 un.1 pass.1 (asc.1, omega arith) in
      record {
        place = later.place;
        is =
            ap (subs f e n v body (suc fuel) least at) (regrouped p ss (0x7e ∷ rest))
            ∙ on_then _ _ (on-entry p least at after asc.0 asc.1 un.0 (pass.0 un.0))
            (off-then _ _ later.is);
      }

  -- ---- backwards

  -- what a tag that was read begins or ends
  abbrev Tagged : List ℕ → Token → List ℕ → Type 0
  Tagged source (Named text at) rest = (source ≡ 5 ∷ length text ∷ text ++ rest) × Bytes rest
  Tagged source Closed rest = (source ≡ 0x7e ∷ rest) × Bytes rest
  Tagged source Opened rest = ⊥
  Tagged source Ended rest = ⊥

  gives-tag : (at : ℕ) (bytes : List ℕ) → Bytes bytes → Gives (Tagged bytes) (next (TagOf n) at bytes)
  gives-tag at bytes bs =
      gives_then _ _ (gives-byte (Some n) None at bytes bs) λ b at₁ r₁ i₁.
      gives-cond (eqb b 5) _ _
      (λ opens.
      gives_then _ _ (gives-byte (Some n) None at₁ r₁ i₁.left) λ size at₂ r₂ i₂.
      gives_then _ _ (gives-item size (Some n) None at₂ r₂ i₂.left) λ text at₃ r₃ i₃.
      let sized = i₂.whole ∙ (λ j. sym i₃.long j ∷ i₃.whole j) in
      gives-got (Named text at₂) at₃ r₃ (i₁.whole ∙ (λ j. eqb-true b 5 opens j ∷ sized j), i₃.left))
      λ other.
      gives-unless _ _ _ λ closes.
      gives-got Closed at₁ r₁ (i₁.whole ∙ ap (λ (x : ℕ). x ∷ r₁) (eqb-true b 0x7e closes), i₁.left)

  -- the number of a name, in order
  record Ordered (least : ℕ) (o : Option ℕ) (source : List ℕ) (k : ℕ) (rest : List ℕ) : Type 0 where
    number : o ≡ Some k
    order : least ≤ k
    whole : source ≡ rest

  gives-order :
      (least at : ℕ) (name : List ℕ) (o : Option ℕ) (at₁ : ℕ) (rest : List ℕ)
      → Gives (Ordered least o rest) (in_order n least at name o at₁ rest)
  gives-order least at name None at₁ rest = gives-refused _
  gives-order least at name (Some k) at₁ rest =
      gives-unless (leb least k) _ _ λ le.
      gives-got k at₁ rest (record { number = refl; order = leb-true least k le; whole = refl })

  -- the version and the body of a subsection that were read
  record ReadBody (k : ℕ) (source own rest : List ℕ) : Type 0 where
    whole : source ≡ four 1 ++ (own ++ rest)
    pass : SubPasses f v body k own
    bytes : Bytes own
    left : Bytes rest

  gives-body : (k at : ℕ) (bytes : List ℕ) → Bytes bytes → Gives (ReadBody k bytes) (sub_body f n v body k at bytes)
  gives-body k at bytes bs =
      gives_then _ _ (gives-word (Some n) (Some k) at bytes bs) λ w at₁ r₁ i₁.
      gives-unless _ _ _ λ version.
      gives_then _ _ (gives-item (sub_size f k) (Some n) (Some k) at₁ r₁ i₁.left) λ own at₂ r₂ i₂.
      gives-passes _ _ _ λ checked.
      gives-unless _ _ _ λ needed.
      gives-got own at₂ r₂ (record {
        whole = i₁.whole ∙ (λ j. four (eqb-true w 1 version j) ++ i₂.whole j);
        pass = record { long = i₂.long; checked = checked; needed = needed };
        bytes = i₂.bytes;
        left = i₂.left;
      })

  -- a subsection that was read
  record ReadSub (least : ℕ) (source : List ℕ) (p : ℕ × List ℕ) (rest : List ℕ) : Type 0 where
    whole : source ≡ tagged p rest
    order : least ≤ p.0
    low : p.0 < count f
    known : knows p.0 ≡ true
    pass : Pass p
    bytes : Bytes p.1
    left : Bytes rest

  abbrev Entered : ℕ → List ℕ → Option (ℕ × List ℕ) → List ℕ → Type 0
  Entered least source None rest = (source ≡ 0x7e ∷ rest) × Bytes rest
  Entered least source (Some p) rest = ReadSub least source p rest

  gives-entered :
      (least : ℕ) (bytes : List ℕ) (token : Token) (at : ℕ) (rest : List ℕ) → Tagged bytes token rest
      → Gives (Entered least bytes) (entered f e n v body least token at rest)
  gives-entered least bytes Opened at rest h = absurd h
  gives-entered least bytes Ended at rest h = absurd h
  gives-entered least bytes Closed at rest h = gives-got None at rest h
  gives-entered least bytes (Named text place) at rest h =
      gives_then _ _ (gives-order least place text (numbered f e text) at rest) λ k at₁ r₁ i₁.
      gives_then _ _ (gives-body k at₁ r₁ (subst Bytes i₁.whole h.1)) λ own at₂ r₂ i₂.
      let named = numbered-named f e text k i₁.number in
      let after = i₁.whole ∙ i₂.whole in
      gives-got (Some (k, own)) at₂ r₂ (record {
        whole = h.0 ∙ (λ j. 5 ∷ length (named.is j) ∷ named.is j ++ after j);
        order = i₁.order;
        low = named.low;
        known = named.knows;
        pass = i₂.pass;
        bytes = i₂.bytes;
        left = i₂.left;
      })

  -- subsections that were read are laid out so, are known and pass
  pub record ReadSubs (least : ℕ) (source : List ℕ) (ss : List (ℕ × List ℕ)) (rest : List ℕ) : Type 0 where
    pub whole : source ≡ subsections f ss ++ (0x7e ∷ rest)
    pub order : Ascending f least ss
    pub known : AllKnown knows ss
    pub pass : AllByRecursion Pass ss
    pub bytes : AllByRecursion (λ p. Bytes p.1) ss
    pub left : Bytes rest

  pub gives-subs :
      (fuel least at : ℕ) (bytes : List ℕ) → Bytes bytes → Gives (ReadSubs least bytes) (subs f e n v body fuel least at bytes)
  gives-subs zero least at bytes bs = gives-refused _
  gives-subs (suc fuel) least at bytes bs =
      gives_then _ _ (gives_then _ _ (gives-tag at bytes bs) (gives-entered least bytes)) (more (gives-subs fuel))
    where
      more :
          ((least at : ℕ) (bytes : List ℕ) → Bytes bytes → Gives (ReadSubs least bytes) (subs f e n v body fuel least at bytes))
          → (o : Option (ℕ × List ℕ)) (at₁ : ℕ) (r₁ : List ℕ) → Entered least bytes o r₁
          → Gives (ReadSubs least bytes) (elim o [
            | None ↦ got [] at₁ r₁
            | Some p ↦ then (subs f e n v body fuel (suc p.0) at₁ r₁) λ more at₂ r₂. got (p ∷ more) at₂ r₂
          ])
      more later None at₁ r₁ i =
          gives-got [] at₁ r₁ (record { whole = i.0; order = tt; known = tt; pass = tt; bytes = tt; left = i.1 })
      more later (Some p) at₁ r₁ i =
          gives_then _ _ (later (suc p.0) at₁ r₁ i.left) λ ss at₂ r₂ i₂.
          gives-got (p ∷ ss) at₂ r₂ (record {
            whole = i.whole ∙ ap (tagged p) i₂.whole ∙ sym (regrouped p ss (0x7e ∷ r₂));
            order = (i.order, i.low, i₂.order);
            known = (i.known, i₂.known);
            pass = (i.pass, i₂.pass);
            bytes = (i.bytes, i₂.bytes);
            left = i₂.left;
          })
