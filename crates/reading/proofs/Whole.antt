-- Whole streams: which are accepted, and what they are adopted as.
use Rattle.std.proofs.Common.{◌≡◌, ℕ, ◌+◌, ◌≤◌, List, [], ◌∷◌, ◌++◌, length, None, sym, refl, ap, ◌∙◌, subst, arith, length-append}
use Rattle.std.proofs.lemmas.Bool.{eqb-true}
use Rattle.device.specs.Bytes.{Bytes, same}
use Rattle.device.specs.Format.{Served}
use Rattle.tree.specs.Tree.{Tree, Lawful, leaves}
use Rattle.fault.specs.declared.Fault.{Fault}
use Rattle.fault.specs.declared.Fault.TheVariants as fault
use Rattle.tree.specs.Stream.{header, configuration, Sections, layout, framed}
use Rattle.reading.specs.Items.{Out, got, then, unless, item, LastType, next, ended}
use Rattle.reading.specs.Reading.{sections, whole}
use Rattle.reading.specs.Accepting.{Admitted, Accepts, Returns}
use Rattle.section.proofs.Comparing.{same-decides}
use Rattle.reading.proofs.Steps.{on_then, on-item, Number, Gives, given, gives-got, gives-refused, gives_then, gives-last}
use Rattle.reading.proofs.Steps.{gives-unless, gives-item, gives-byte}
use Rattle.reading.proofs.Trees.{on-tree, gives-tree, Adoption, adopts-tree}

-- the end of a stream, after its sections
abbrev end : {A : Type 0} → A → ℕ → List ℕ → Out A
end x at bytes =
    then (next LastType at bytes) λ _ at₁ r₁.
    then (ended at₁ r₁) λ _ at₂ r₂.
    got x at₂ r₂

-- past the header and the configuration
pub to-sections :
    (t : Tree) (e : ℕ) (bytes : List ℕ)
    → whole t e (header ++ (configuration ++ bytes)) ≡ then (sections t [] e 18 bytes) end
to-sections t e bytes =
    on_then _ _ (on-item 8 None None 0 header (configuration ++ bytes) _ refl refl)
    (on_then _ _ (on-item 10 None None 8 configuration bytes _ refl refl) refl)

-- an item that has to be these bytes
abbrev exactly : ℕ → List ℕ → Fault → ℕ → List ℕ → Out (Unit {0})
exactly n own F at bytes = then (item n None None at bytes) λ found at₁ rest. unless (same found own) F (got tt at₁ rest)

gives-exactly :
    (n : ℕ) (own : List ℕ) (F : Fault) (at : ℕ) (bytes : List ℕ) → Bytes bytes
    → Gives (λ _. Number bytes own) (exactly n own F at bytes)
gives-exactly n own F at bytes bs =
    gives_then _ _ (gives-item n None None at bytes bs) λ found at₁ rest i.
    gives-unless _ _ _ λ is.
    gives-got tt at₁ rest (record {
      whole = i.whole ∙ ap (λ (x : List ℕ). x ++ rest) ((same-decides found own).0 is);
      left = i.left;
    })

gives-type : (at : ℕ) (bytes : List ℕ) → Bytes bytes → Gives (λ token. Number bytes (0 ∷ [])) (next LastType at bytes)
gives-type at bytes bs =
    gives_then _ _ (gives-byte None None at bytes bs) λ b at₁ rest i.
    gives-unless _ _ _ λ ends.
    gives-got _ at₁ rest (record { whole = i.whole ∙ ap (λ (x : ℕ). x ∷ rest) (eqb-true b 0 ends); left = i.left })

gives-ended : (at : ℕ) (bytes : List ℕ) → Gives (λ _ rest. bytes ≡ []) (ended at bytes)
gives-ended at [] = gives-got tt at [] refl
gives-ended at (b ∷ rest) = gives-refused _

gives-end :
    {A : Type 0} (x : A) (at : ℕ) (bytes : List ℕ) → Bytes bytes
    → Gives (λ y rest. (x ≡ y) × (bytes ≡ 0 ∷ [])) (end x at bytes)
gives-end x at bytes bs =
    gives_then _ _ (gives-type at bytes bs) λ _ at₁ r₁ i₁.
    gives_then _ _ (gives-ended at₁ r₁) λ _ at₂ r₂ last.
    gives-got x at₂ r₂ (refl, i₁.whole ∙ ap (λ (z : List ℕ). 0 ∷ z) last)

module _ (t : Tree) (lawful : Lawful t) (few : leaves t ≤ 16) where
  pub on-whole :
      (e : ℕ) (x : Sections t) → Served e → Admitted t e x → whole t e (framed t x) ≡ got x (length (framed t x)) []
  on-whole e x served ad =
      let a = layout t [] x in
      let place : 18 + length a + 1 ≡ length (framed t x) = omega (arith, length-append a (0 ∷ [])) in
      to-sections t e (a ++ (0 ∷ []))
      ∙ on_then (sections t [] e 18 (a ++ (0 ∷ []))) end (on-tree t lawful [] e 18 (0 ∷ []) x (omega arith) served ad)
      (ap (λ (m : ℕ). got x m []) place)

  -- sections that a whole stream was read as
  record ReadWhole (e : ℕ) (source : List ℕ) (x : Sections t) : Type 0 where
    laid : source ≡ framed t x
    admitted : Admitted t e x
    adoption : Adoption t x

  gives_whole : (e : ℕ) (bytes : List ℕ) → Served e → Bytes bytes → Gives (λ x rest. ReadWhole e bytes x) (whole t e bytes)
  gives_whole e bytes served bs =
      gives_then _ _ (gives-exactly 8 header fault.Header 0 bytes bs) λ _ at₁ r₁ i₁.
      gives_then _ _ (gives-exactly 10 configuration fault.Configuration at₁ r₁ i₁.left) λ _ at₂ r₂ i₂.
      gives_then _ _ (gives-tree t lawful [] e at₂ r₂ (omega arith) i₂.left) λ x at₃ r₃ i₃.
      gives-last _ (gives-end x at₃ r₃ i₃.left) λ y rest last.
      let sections = i₃.whole ∙ ap (λ (z : List ℕ). layout t [] x ++ z) last.1 in
      let front = i₂.whole ∙ ap (λ (z : List ℕ). configuration ++ z) sections in
      subst (ReadWhole e bytes) last.0 (record {
        laid = i₁.whole ∙ ap (λ (z : List ℕ). header ++ z) front;
        admitted = i₃.admitted;
        adoption = adopts-tree t lawful e x served i₃.bytes i₃.admitted;
      })

  pub accepts : Accepts t
  accepts e bytes x served bs = (
    λ h. let r = given (whole t e bytes) x (length bytes) [] h (gives_whole e bytes served bs) in (r.laid, r.admitted),
    λ h. subst (λ (b : List ℕ). whole t e b ≡ got x (length b) []) (sym h.0) (on-whole e x served h.1),
  )

  pub returns : Returns t
  returns e n bytes rest x served bs h =
      let r = given (whole t e bytes) x n rest h (gives_whole e bytes served bs) in
      let a = r.adoption in (
        a.state,
        record {
          adopts = a.adopts;
          sound = a.sound;
          sections = a.again;
          again = ap (framed t) a.again
              ∙ sym r.laid;
        },
      )
