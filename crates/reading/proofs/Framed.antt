-- One section: laid out, it is read or refused as its edition says; read, it is laid out.
use Rattle.std.proofs.Common.{◌≡◌, ℕ, suc, ◌+◌, ◌<◌, Bool, true, false, leb, List, [], ◌∷◌, ◌++◌, length, Some, None, sym, refl, ap, ◌∙◌, append_assoc, arith, length-append}
use Rattle.std.specs.List.{AllByRecursion}
use Rattle.std.proofs.lemmas.Bool.{le-leb, leb-true, eqb-true, eq-eqb, and_from, and_parts}
use Rattle.device.specs.Bytes.{Bytes, four}
use Rattle.device.specs.Kind.{Kind}
use Rattle.device.specs.Format.{Format, Section, OfBytes, count, title, body_size, Takes, taken, SubPasses, Ascending}
use Rattle.fault.specs.declared.Fault.TheVariants as fault
use Rattle.section.specs.Layout.{identity, subsections, laid}
use Rattle.reading.specs.Items.{refused, got, then, TypeOf, next}
use Rattle.reading.specs.Reading.{subs, identified, start, closing, section}
use Rattle.reading.specs.Accepting.{Admits}
use Rattle.section.proofs.Comparing.{same-decides}
use Rattle.reading.proofs.Steps.{on_then, on-unless, on-passes, off-then, off-unless, on-item, on_word}
use Rattle.reading.proofs.Steps.{Number, Gives, gives-got, gives_then, gives-unless, gives-passes}
use Rattle.reading.proofs.Steps.{gives-item, gives-byte, gives-word}
use Rattle.reading.proofs.Titles.{Apart}
use Rattle.reading.proofs.Subs.{Unknowns, unknown, Off, on-subs, off-subs, gives-subs}

-- ---- versions taken

module _ {S : Type 0} (f : Format S) (e v : ℕ) where
  pub takes-taken : Takes f e v → taken f e v ≡ true
  takes-taken h =
      let low = le-leb (f.edition e).lowest v h.low in
      let high = le-leb v (f.edition e).highest h.high in
      and_from (leb (f.edition e).lowest v) (leb v (f.edition e).highest) low high

  pub taken-takes : taken f e v ≡ true → Takes f e v
  taken-takes h =
      let p = and_parts (leb (f.edition e).lowest v) (leb v (f.edition e).highest) h in
      record { low = leb-true (f.edition e).lowest v p.0; high = leb-true v (f.edition e).highest p.1 }

module _
    {S : Type 0} (kind : Kind S) (f : Format S) (apart : Apart f)
    (before : List (List ℕ)) (few : length before < 4294967296) (e : ℕ)
  where
    abbrev n : ℕ
    n = length before

    abbrev id : List ℕ
    id = identity before kind.name

    abbrev knows : ℕ → Bool
    knows = (f.edition e).knows

    -- what follows the body of a section
    abbrev after : Section → List ℕ → List ℕ
    after x rest = subsections f x.subs ++ (0x7e ∷ four n ++ rest)

    regrouped :
        (x : Section) (rest : List ℕ)
        → laid kind f before x ++ rest ≡ 4 ∷ id ++ (four x.version ++ (x.body ++ after x rest))
    regrouped x rest =
        ap (λ (b : List ℕ). 4 ∷ b)
        (regroup id (four x.version) x.body (subsections f x.subs) (0x7e ∷ four n) rest)
      where
        regroup :
            (id w body ss end rest : List ℕ)
            → (id ++ (w ++ (body ++ (ss ++ end)))) ++ rest ≡ id ++ (w ++ (body ++ (ss ++ (end ++ rest))))
        regroup id w body ss end rest = simp append_assoc

    -- ---- forwards

    on-start :
        (x : Section) (at : ℕ) (rest : List ℕ) → x.version < 4294967296 → Takes f e x.version
        → length x.body ≡ body_size f x.version → f.check x.version x.body ≡ None
        → start f e n at (four x.version ++ (x.body ++ rest))
        ≡ got (x.version, x.body) (at + 4 + length x.body) rest
    on-start x at rest small takes long checked =
        on_then _ _ (on_word x.version (Some n) None at (x.body ++ rest) small)
        (on-unless _ _ _ (takes-taken f e x.version takes)
        (on-item (body_size f x.version) (Some n) None (at + 4) x.body rest _ long (on-passes _ _ _ checked refl)))

    off-start :
        (x : Section) (at : ℕ) (rest : List ℕ) → x.version < 4294967296 → taken f e x.version ≡ false
        → start f e n at (four x.version ++ rest) ≡ refused (fault.Version n None at x.version)
    off-start x at rest small other =
        on_then _ _ (on_word x.version (Some n) None at rest small) (off-unless _ _ _ other)

    on-closing : (at : ℕ) (rest : List ℕ) → closing n at (four n ++ rest) ≡ got tt (at + 4) rest
    on-closing at rest =
        on_then _ _ (on_word n (Some n) None at rest few) (on-unless _ _ _ (eq-eqb n n refl) refl)

    -- past the type and the identity of a section that is laid out
    to_start :
        (x : Section) (at : ℕ) (rest : List ℕ)
        → section kind f before e at (laid kind f before x ++ rest)
        ≡ then (start f e n (at + 1 + length id) (four x.version ++ (x.body ++ after x rest))) λ b at₃ r₃.
        then (subs f e n b.0 b.1 (suc (count f)) 0 at₃ r₃) λ ss at₄ r₄.
        then (closing n at₄ r₄) λ _ at₅ r₅.
        got (record { version = b.0; body = b.1; subs = ss }) at₅ r₅
    to_start x at rest =
        let more = four x.version ++ (x.body ++ after x rest) in
        ap (section kind f before e at) (regrouped x rest)
        ∙ on_then _ _ (on-item (length id) (Some n) None (at + 1) id more _ refl (on-unless _ _ _ ((same-decides id id).1 refl) refl)) refl

    pub on-section :
        (x : Section) (at : ℕ) (rest : List ℕ) → x.version < 4294967296 → Admits f e x
        → section kind f before e at (laid kind f before x ++ rest) ≡ got x (at + length (laid kind f before x)) rest
    on-section x at rest small h =
        let v = x.version in
        let body = x.body in
        let ss = subsections f x.subs in
        let end = 0x7e ∷ four n in
        let at₁ = at + 1 + length id in
        let at₂ = at₁ + 4 + length body in
        let sizes = length-append id (four v ++ (body ++ (ss ++ end))) in
        let place : at₂ + length ss + 1 + 4 ≡ at + length (laid kind f before x) =
        omega (arith, sizes, length-append body (ss ++ end), length-append ss end) in
        let pass = h.passes in
        to_start x at rest
        ∙ on_then _ _ (on-start x at₁ (after x rest) small h.takes pass.long pass.checked)
        (on_then _ _
        (on-subs f apart e n v body x.subs (suc (count f)) 0 at₂ (four n ++ rest) pass.order h.knows pass.subs
        (omega arith, omega arith))
        (on_then _ _ (on-closing (at₂ + length ss + 1) rest) (ap (λ (m : ℕ). got x m rest) place)))

    pub off-version :
        (x : Section) (at : ℕ) (rest : List ℕ) → x.version < 4294967296 → taken f e x.version ≡ false
        → Off (section kind f before e at (laid kind f before x ++ rest)) (λ place. fault.Version n None place x.version)
    off-version x at rest small other =
        let at₁ = at + 1 + length id in
        record {
          place = at₁;
          is = to_start x at rest ∙ off-then _ _ (off-start x at₁ (x.body ++ after x rest) small other);
        }

    pub off-section :
        (x : Section) (at : ℕ) (rest : List ℕ) → x.version < 4294967296 → Takes f e x.version
        → length x.body ≡ body_size f x.version → f.check x.version x.body ≡ None → Ascending f 0 x.subs
        → (un : Unknowns knows x.subs)
        → AllByRecursion (λ p. knows p.0 ≡ true → SubPasses f x.version x.body p.0 p.1) x.subs
        → Off (section kind f before e at (laid kind f before x ++ rest))
        (λ place. fault.UnknownSubsection n place (length (title f (unknown knows x.subs un))))
    off-section x at rest small takes long checked order un pass =
        let at₁ = at + 1 + length id in
        let at₂ = at₁ + 4 + length x.body in
        let o =
        off-subs f apart e n x.version x.body x.subs (suc (count f)) 0 at₂ (four n ++ rest) order un pass
        (omega arith, omega arith) in
        record {
          place = o.place;
          is =
              to_start x at rest
              ∙ on_then _ _ (on-start x at₁ (after x rest) small takes long checked) (off-then _ _ o.is);
        }

    -- ---- backwards

    gives-type : (at : ℕ) (bytes : List ℕ) → Bytes bytes → Gives (λ token. Number bytes (4 ∷ [])) (next (TypeOf n) at bytes)
    gives-type at bytes bs =
        gives_then _ _ (gives-byte (Some n) None at bytes bs) λ b at₁ rest i.
        gives-unless _ _ _ λ opens.
        gives-got _ at₁ rest (record { whole = i.whole ∙ ap (λ (x : ℕ). x ∷ rest) (eqb-true b 4 opens); left = i.left })

    gives-identity :
        (at : ℕ) (bytes : List ℕ) → Bytes bytes → Gives (λ _. Number bytes id) (identified before kind.name at bytes)
    gives-identity at bytes bs =
        gives_then _ _ (gives-item (length id) (Some n) None at bytes bs) λ own at₁ rest i.
        gives-unless _ _ _ λ is.
        gives-got tt at₁ rest (record {
          whole = i.whole ∙ ap (λ (x : List ℕ). x ++ rest) ((same-decides own id).0 is);
          left = i.left;
        })

    -- a version and a body that were read
    record ReadStart (source : List ℕ) (b : ℕ × List ℕ) (rest : List ℕ) : Type 0 where
      whole : source ≡ four b.0 ++ (b.1 ++ rest)
      takes : Takes f e b.0
      long : length b.1 ≡ body_size f b.0
      checked : f.check b.0 b.1 ≡ None
      bytes : Bytes b.1
      left : Bytes rest

    gives-start : (at : ℕ) (bytes : List ℕ) → Bytes bytes → Gives (ReadStart bytes) (start f e n at bytes)
    gives-start at bytes bs =
        gives_then _ _ (gives-word (Some n) None at bytes bs) λ v at₁ r₁ i₁.
        gives-unless _ _ _ λ takes.
        gives_then _ _ (gives-item (body_size f v) (Some n) None at₁ r₁ i₁.left) λ body at₂ r₂ i₂.
        gives-passes _ _ _ λ checked.
        gives-got (v, body) at₂ r₂ (record {
          whole = i₁.whole ∙ ap (λ (x : List ℕ). four v ++ x) i₂.whole;
          takes = taken-takes f e v takes;
          long = i₂.long;
          checked = checked;
          bytes = i₂.bytes;
          left = i₂.left;
        })

    gives-closing : (at : ℕ) (bytes : List ℕ) → Bytes bytes → Gives (λ _. Number bytes (four n)) (closing n at bytes)
    gives-closing at bytes bs =
        gives_then _ _ (gives-word (Some n) None at bytes bs) λ found at₁ rest i.
        gives-unless _ _ _ λ closes.
        let is = ap (λ (m : ℕ). four m ++ rest) (eqb-true found n closes) in
        gives-got tt at₁ rest (record { whole = i.whole ∙ is; left = i.left })

    -- a section that was read
    pub record ReadSection (source : List ℕ) (x : Section) (rest : List ℕ) : Type 0 where
      pub whole : source ≡ laid kind f before x ++ rest
      pub admits : Admits f e x
      pub bytes : OfBytes x
      pub left : Bytes rest

    pub gives-section : (at : ℕ) (bytes : List ℕ) → Bytes bytes → Gives (ReadSection bytes) (section kind f before e at bytes)
    gives-section at bytes bs =
        gives_then _ _ (gives-type at bytes bs) λ _ at₁ r₁ i₁.
        gives_then _ _ (gives-identity at₁ r₁ i₁.left) λ _ at₂ r₂ i₂.
        gives_then _ _ (gives-start at₂ r₂ i₂.left) λ b at₃ r₃ i₃.
        gives_then _ _ (gives-subs f apart e n b.0 b.1 (suc (count f)) 0 at₃ r₃ i₃.left) λ ss at₄ r₄ i₄.
        gives_then _ _ (gives-closing at₄ r₄ i₄.left) λ _ at₅ r₅ i₅.
        let x : Section = record { version = b.0; body = b.1; subs = ss } in
        let end = i₄.whole ∙ ap (λ (z : List ℕ). subsections f ss ++ (0x7e ∷ z)) i₅.whole in
        let content = i₃.whole ∙ ap (λ (z : List ℕ). four b.0 ++ (b.1 ++ z)) end in
        let all = i₁.whole ∙ ap (λ (z : List ℕ). 4 ∷ z) (i₂.whole ∙ ap (λ (z : List ℕ). id ++ z) content) in
        gives-got x at₅ r₅ (record {
          whole = all ∙ sym (regrouped x r₅);
          admits = record {
            takes = i₃.takes;
            knows = i₄.known;
            passes = record { long = i₃.long; checked = i₃.checked; order = i₄.order; subs = i₄.pass };
          };
          bytes = record { body = i₃.bytes; subs = i₄.bytes };
          left = i₅.left;
        })
