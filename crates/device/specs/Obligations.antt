-- What a device owes so that its states can be moved between editions.
use Rattle.std.specs.Prelude.{◌≡◌, ℕ, suc, ◌<◌, ◌≤◌, true, List, length, Some, None, ◌≢◌}
use Rattle.std.specs.List.{AllByRecursion}
use Rattle.device.specs.Bytes.{Bytes}
use Rattle.device.specs.Kind.{Kind}
use Rattle.device.specs.Format.{latest, Served, Section, Format, count, title, body_size, sub_size, needs, section_at, section_by, Carries, Takes, Passes, OfBytes}

module _ {S : Type 0} (kind : Kind S) (f : Format S) where
  -- The form of a device: its name and width, its table of subsections, its versions, and the sizes of what it writes.
  pub record Formed : Type 0 where
    pub name-length : (1 ≤ length kind.name) × (length kind.name ≤ 16)
    pub name-letters : AllByRecursion (λ c. (0x61 ≤ c) × (c ≤ 0x7a)) kind.name
    pub width : (1 ≤ kind.width) × (kind.width ≤ 256)
    pub few : count f ≤ 8
    pub title-length : (k : ℕ) → k < count f → (1 ≤ length (title f k)) × (length (title f k) ≤ 32)
    pub title-bytes : (k : ℕ) → k < count f → Bytes (title f k)
    pub apart : (j k : ℕ) → j < k → k < count f → title f j ≢ title f k
    pub since : (1 ≤ f.since) × (f.since ≤ latest)
    pub last : f.last < 4294967296
    pub written : (e : ℕ) → Served e → (f.edition e).writes ≤ f.last
    pub taken : (e : ℕ) → Served e → (f.edition e).highest ≤ f.last
    pub body-small : (v : ℕ) → body_size f v ≤ 1024
    pub sub_small : (k : ℕ) → k < count f → sub_size f k ≤ 1024
    pub body-size : (v : ℕ) (s : S) → kind.Sound s → length (f.body v s) ≡ body_size f v
    pub sub-size : (k : ℕ) (s : S) → k < count f → kind.Sound s → length (f.sub k s) ≡ sub_size f k
    pub complete-size : (v : ℕ) (b : List ℕ) → length b ≡ body_size f v → length (f.complete v b) ≡ body_size f f.last
    pub default-size : (k : ℕ) (b : List ℕ) → k < count f → length b ≡ body_size f f.last → length (f.default k b) ≡ sub_size f k

  -- State s is what section x is adopted as: absent fields are at their defaults, and s is written as x at x's version.
  pub record AdoptedAs (x : Section) (s : S) : Type 0 where
    pub sound : kind.Sound s
    pub adopts : f.adopt x ≡ Some s
    pub defaults : f.body f.last s ≡ f.complete x.version x.body
    pub again : section_at f x.version s ≡ x

  pub record Obligations : Type 0 where
    pub formed : Formed
    -- What an edition writes of a state that it carries passes the check, the body wherever its version is taken, a
    -- subsection wherever it is also known; and it is adopted as that state.
    pub body-passes :
        (e e' : ℕ) (s : S) → Served e → Served e' → kind.Sound s → Carries f e s → Takes f e' (f.edition e).writes
        → f.check (f.edition e).writes (f.body (f.edition e).writes s) ≡ None
    pub sub-passes :
        (e e' k : ℕ) (s : S) → Served e → Served e' → kind.Sound s → Carries f e s → Takes f e' (f.edition e).writes
        → k < count f → needs f s k ≡ true → (f.edition e').knows k ≡ true
        → f.check_sub (f.edition e).writes (f.body (f.edition e).writes s) k (f.sub k s) ≡ None
    pub returns : (e : ℕ) (s : S) → Served e → kind.Sound s → Carries f e s → f.adopt (section_by f e s) ≡ Some s
    -- A body and needed subsections that pass are adopted, at any version taken, absent fields at their defaults, and are
    -- exactly what the adopted state writes at that version.
    pub adopts :
        (e : ℕ) (x : Section) → Served e → Takes f e x.version → OfBytes x → Passes f x → (s : S) × AdoptedAs x s
    -- An edition that serves the kind takes the version that it writes and carries the fresh state; a known subsection
    -- stays known; the highest edition carries every state.
    pub takes-own : (e : ℕ) → f.since ≤ e → e ≤ latest → Takes f e (f.edition e).writes
    pub stays-known :
        (e k : ℕ) → 1 ≤ e → e < latest → k < count f → (f.edition e).knows k ≡ true → (f.edition (suc e)).knows k ≡ true
    pub fresh-carried : (e : ℕ) → f.since ≤ e → e ≤ latest → Carries f e kind.fresh
    pub latest-carries : (s : S) → kind.Sound s → Carries f latest s
