-- How the states of a kind travel: bodies by version, subsections by number, and what each edition does with them.
use Rattle.std.specs.Prelude.{◌≡◌, ℕ, zero, suc, ◌<◌, ◌≤◌, Bool, true, cond, not, ◌&&◌, List, [], ◌∷◌, length, take, drop, Some, None, Option, nat_le, slice_index_or}
use Rattle.std.specs.List.{AllByRecursion}
use Rattle.device.specs.Bytes.{Bytes, same, differs, total}

-- the highest edition
abbrev pub latest : ℕ
latest = 3

-- the editions that there are
pub record Served (e : ℕ) : Type 0 where
  pub low : 1 ≤ e
  pub high : e ≤ latest

-- whether an edition is one of them
abbrev pub is_served : ℕ → Bool
is_served e = nat_le 1 e && nat_le e latest

-- what an edition does with a kind: the version that it writes, the versions that it takes, the subsections that it knows
pub record Edition : Type 0 where
  pub writes : ℕ
  pub lowest : ℕ
  pub highest : ℕ
  pub knows : ℕ → Bool

-- a subsection: its name, and the sizes of its fields
pub record Subsection : Type 0 where
  pub title : List ℕ
  pub fields : List ℕ

-- what a section says of its device: a body of a version, and subsections with their numbers
pub record Section : Type 0 where
  pub version : ℕ
  pub body : List ℕ
  pub subs : List (ℕ × List ℕ)

-- The stream's side of a kind. A body or a subsection is its bytes, field after field.
pub record Format (S : Type 0) : Type 0 where
  pub since : ℕ  -- the first edition that serves the kind
  pub last : ℕ  -- the version whose body has every field
  pub fields : ℕ → List ℕ  -- the sizes of a body's fields, by version
  pub subsections : List Subsection  -- by number
  pub edition : ℕ → Edition
  pub body : ℕ → S → List ℕ  -- a state's body, by version
  pub sub : ℕ → S → List ℕ  -- a state's subsection, by number
  pub complete : ℕ → List ℕ → List ℕ  -- a body of a version as one of the last, absent fields at their defaults
  pub default : ℕ → List ℕ → List ℕ  -- a subsection at its default, by number, from a complete body
  pub check : ℕ → List ℕ → Option ℕ  -- the first refused field of a body of a version
  pub check_sub : ℕ → List ℕ → ℕ → List ℕ → Option ℕ  -- the same of a subsection beside a body of a version
  pub adopt : Section → Option S  -- the state that a section gives

-- the first field, counted from k, in which two bodies with fields of these sizes differ
abbrev pub differ_from : ℕ → List ℕ → List ℕ → List ℕ → Option ℕ
differ_from k [] xs ys = None
differ_from k (n ∷ ns) xs ys =
    cond (same (take n xs) (take n ys)) (differ_from (suc k) ns (drop n xs) (drop n ys)) (Some k)

module _ {S : Type 0} (f : Format S) where
  -- how many subsections there are
  abbrev pub count : ℕ
  count = length f.subsections

  -- subsection k of the table
  abbrev pub subsection : ℕ → Subsection
  subsection k = slice_index_or f.subsections k (record { title = []; fields = [] })

  abbrev pub title : ℕ → List ℕ
  title k = (subsection k).title

  -- how many bytes a body of version v has
  abbrev pub body_size : ℕ → ℕ
  body_size v = total (f.fields v)

  -- how many bytes subsection k has
  abbrev pub sub_size : ℕ → ℕ
  sub_size k = total (subsection k).fields

  -- subsection k is needed: its fields differ from their defaults
  abbrev pub needs : S → ℕ → Bool
  needs s k = differs (f.sub k s) (f.default k (f.body f.last s))

  -- the needed ones of the n subsections from number k on
  abbrev pub needed_from : S → ℕ → ℕ → List (ℕ × List ℕ)
  needed_from s k zero = []
  needed_from s k (suc n) = cond (needs s k) ((k, f.sub k s) ∷ needed_from s (suc k) n) (needed_from s (suc k) n)

  -- the subsections that a state needs, in the order of their numbers
  abbrev pub needed : S → List (ℕ × List ℕ)
  needed s = needed_from s 0 count

  -- the section of a state at version v
  abbrev pub section_at : ℕ → S → Section
  section_at v s = record { version = v; body = f.body v s; subs = needed s }

  -- the section that edition e writes of a state
  abbrev pub section_by : ℕ → S → Section
  section_by e s = section_at (f.edition e).writes s

  -- the first field absent from version v that is off its default
  abbrev pub off_default : ℕ → S → Option ℕ
  off_default v s = differ_from 0 (f.fields f.last) (f.complete v (f.body v s)) (f.body f.last s)

  -- the first needed subsection that edition e does not know, of the n from number k on
  abbrev pub unknown_from : ℕ → S → ℕ → ℕ → Option ℕ
  unknown_from e s k zero = None
  unknown_from e s k (suc n) =
      cond (needs s k && not ((f.edition e).knows k)) (Some k) (unknown_from e s (suc k) n)

  -- the first needed subsection that edition e does not know
  abbrev pub unknown : ℕ → S → Option ℕ
  unknown e s = unknown_from e s 0 count

  -- Edition e carries a state: it knows every needed subsection, and each field absent from the version that it writes is at its default.
  pub record Carries (e : ℕ) (s : S) : Type 0 where
    pub knows : (k : ℕ) → k < count → needs s k ≡ true → (f.edition e).knows k ≡ true
    pub absent : f.complete (f.edition e).writes (f.body (f.edition e).writes s) ≡ f.body f.last s

  -- edition e takes version v
  pub record Takes (e v : ℕ) : Type 0 where
    pub low : (f.edition e).lowest ≤ v
    pub high : v ≤ (f.edition e).highest

  -- whether edition e takes version v
  abbrev pub taken : ℕ → ℕ → Bool
  taken e v = nat_le (f.edition e).lowest v && nat_le v (f.edition e).highest

  -- whether bytes are not the default of subsection k beside a body of version v
  abbrev pub is_needed : ℕ → List ℕ → ℕ → List ℕ → Bool
  is_needed v body k own = differs own (f.default k (f.complete v body))

  -- subsection k beside a body of version v: it has its size, passes the check and is needed
  pub record SubPasses (v : ℕ) (body : List ℕ) (k : ℕ) (own : List ℕ) : Type 0 where
    pub long : length own ≡ sub_size k
    pub checked : f.check_sub v body k own ≡ None
    pub needed : is_needed v body k own ≡ true

  -- subsections of the table in the order of their numbers, none below n
  abbrev pub Ascending : ℕ → List (ℕ × List ℕ) → Type 0
  Ascending n [] = Unit {0}
  Ascending n (p ∷ ps) = (n ≤ p.0) × (p.0 < count) × Ascending (suc p.0) ps

  -- a section with a body and needed subsections that pass
  pub record Passes (x : Section) : Type 0 where
    pub long : length x.body ≡ body_size x.version
    pub checked : f.check x.version x.body ≡ None
    pub order : Ascending 0 x.subs
    pub subs : AllByRecursion (λ p. SubPasses x.version x.body p.0 p.1) x.subs

-- a section is of bytes
pub record OfBytes (x : Section) : Type 0 where
  pub body : Bytes x.body
  pub subs : AllByRecursion (λ p. Bytes p.1) x.subs
