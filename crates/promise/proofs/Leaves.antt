-- A leaf's section, as one edition writes it and another reads it.
use Rattle.std.proofs.Common.{◌≡◌, ℕ, zero, suc, ◌+◌, ◌<◌, ◌≤◌, Bool, true, false, ◌⊎◌, List, ◌++◌, length, None, refl, ap, ◌∙◌, subst, inl, inr, arith}
use Rattle.std.proofs.lemmas.Bool.{cases_Bool, both_ways}
use Rattle.device.specs.Bytes.{differs}
use Rattle.device.specs.Kind.{Kind}
use Rattle.device.specs.Format.{Format, Section, latest, Served, Takes, taken, SubPasses, count, title, needs, needed, section_by}
use Rattle.device.specs.Obligations.{Obligations}
use Rattle.tree.specs.Tree.{Tree, leaf, State, Sound, Lawful, Carried}
use Rattle.fault.specs.declared.Fault.{Fault}
use Rattle.fault.specs.declared.Fault.TheVariants as fault
use Rattle.fault.specs.Numbers.{numbers_of}
use Rattle.section.specs.Layout.{laid}
use Rattle.reading.specs.Items.{refused}
use Rattle.reading.specs.Reading.{section}
use Rattle.reading.specs.Accepting.{Admits}
use Rattle.reading.proofs.Subs.{AllKnown, Unknowns, unknown, all_known}
use Rattle.reading.proofs.Framed.{takes-taken, taken-takes, off-version, off-section}
use Rattle.promise.specs.Editions.{Agrees, AtOdds}
use Rattle.promise.proofs.Needed.{needed-order, all-needed, in-needed, is-first}

-- edition e writes a sound state that it carries, and edition e' reads it
pub record Sending (t : Tree) (e e' : ℕ) (s : State t) : Type 0 where
  pub lawful : Lawful t
  pub writes : Served e
  pub reads : Served e'
  pub sound : Sound t s
  pub carried : Carried t e s

-- a known subsection stays known
pub still-known :
    {S : Type 0} (kind : Kind S) (f : Format S) → Obligations kind f → (d e k : ℕ) → Served e → e + d ≤ latest → k < count f
    → (f.edition e).knows k ≡ true → (f.edition (e + d)).knows k ≡ true
still-known kind f ob zero e k served room low h =
    let p : e ≡ e + 0 = omega arith in
    subst (λ (m : ℕ). (f.edition m).knows k ≡ true) p h
still-known kind f ob (suc d) e k served room low h =
    let p : suc (e + d) ≡ e + suc d = omega arith in
    let from = served.low in
    let known = still-known kind f ob d e k served (omega arith) low h in
    subst (λ (m : ℕ). (f.edition m).knows k ≡ true) p (ob.stays-known (e + d) k (omega arith) (omega arith) low known)

module _ {S : Type 0} (kind : Kind S) (f : Format S) (e e' : ℕ) (s : S) (sending : Sending (leaf kind f) e e' s) where
  abbrev ob : Obligations kind f
  ob = sending.lawful

  -- the version and the section that e writes
  abbrev v : ℕ
  v = (f.edition e).writes

  abbrev x : Section
  x = section_by f e s

  -- what e' knows
  abbrev knows : ℕ → Bool
  knows = (f.edition e').knows

  -- subsection p passes beside the body
  abbrev Pass : ℕ × List ℕ → Type 0
  Pass p = SubPasses f v (f.body v s) p.0 p.1

  small : v < 4294967296
  small =
      let most = ob.formed.written e sending.writes in
      let last = ob.formed.last in
      omega arith

  checked : Takes f e' v → f.check v (f.body v s) ≡ None
  checked = ob.body-passes e e' s sending.writes sending.reads sending.sound sending.carried

  sub-passes : Takes f e' v → (k : ℕ) → k < count f → needs f s k ≡ true → knows k ≡ true → Pass (k, f.sub k s)
  sub-passes takes k low need know =
      record {
        long = ob.formed.sub-size k s low sending.sound;
        checked =
            ob.sub-passes e e' k s sending.writes sending.reads sending.sound sending.carried takes low need know;
        needed = ap (λ (b : List ℕ). differs (f.sub k s) (f.default k b)) sending.carried.absent ∙ need;
      }

  pub admits-written : Agrees e e' f s → Admits f e' x
  admits-written h =
      record {
        takes = h.takes;
        knows = all-needed f s (λ p. knows p.0 ≡ true) 0 (count f) (λ j l m. h.knows j (omega arith));
        passes = record {
          long = ob.formed.body-size v s sending.sound;
          checked = checked h.takes;
          order = needed-order f s 0 (count f) (omega arith);
          subs =
              all-needed f s Pass 0 (count f)
              (λ j l m need. sub-passes h.takes j (omega arith) need (h.knows j (omega arith) need));
        };
      }

  -- the section is refused, as it is at odds with e'
  pub record Refused (before : List (List ℕ)) (at : ℕ) (rest : List ℕ) : Type 0 where
    pub fault : Fault
    pub is : section kind f before e' at (laid kind f before x ++ rest) ≡ refused fault
    pub layer : (numbers_of fault).layer ≡ 3
    pub section : (numbers_of fault).section ≡ length before
    pub odds : AtOdds e e' f s (numbers_of fault)

  module _ (before : List (List ℕ)) (at : ℕ) (rest : List ℕ) (few : length before < 4294967296) where
    odd-version : taken f e' v ≡ false → Refused before at rest
    odd-version other =
        let o = off-version kind f ob.formed.apart before few e' x at rest small other in
        let odd : Takes f e' v → ⊥ = λ t. both_ways (taken f e' v) other (takes-taken f e' v t) in
        record {
          fault = fault.Version (length before) None o.place v;
          is = o.is;
          layer = refl;
          section = refl;
          odds = inl (record { odd = odd; number = refl; subsection = refl; detail = refl });
        }

    odd-subsection : Takes f e' v → Unknowns knows (needed f s) → Refused before at rest
    odd-subsection takes un =
        let k = unknown knows (needed f s) un in
        let u = is-first f s knows 0 (count f) un in
        let passes =
        all-needed f s (λ p. knows p.0 ≡ true → Pass p) 0 (count f) (λ j l m need. sub-passes takes j (omega arith) need) in
        let o =
        off-section kind f ob.formed.apart before few e' x at rest small takes
        (ob.formed.body-size v s sending.sound) (checked takes) (needed-order f s 0 (count f) (omega arith)) un passes in
        record {
          fault = fault.UnknownSubsection (length before) o.place (length (title f k));
          is = o.is;
          layer = refl;
          section = refl;
          odds = inr (record {
            takes = takes;
            k = k;
            low = let l = u.high in omega arith;
            needed = u.needed;
            unknown = u.unknown;
            first = λ j l. u.first j (omega arith) l;
            number = refl;
            subsection = refl;
            detail = refl;
          });
        }

    -- a leaf agrees with e', or its section is refused
    pub judge-leaf : Agrees e e' f s ⊎ Refused before at rest
    judge-leaf = go (cases_Bool (taken f e' v)) (all_known knows (needed f s))
      where
        go :
            (taken f e' v ≡ true) ⊎ (taken f e' v ≡ false) → AllKnown knows (needed f s) ⊎ Unknowns knows (needed f s)
            → Agrees e e' f s ⊎ Refused before at rest
        go (inr other) r = inr (odd-version other)
        go (inl takes) (inr un) = inr (odd-subsection (taken-takes f e' v takes) un)
        go (inl takes) (inl all) =
            inl (record {
              takes = taken-takes f e' v takes;
              knows = λ k low need.
                  in-needed f s (λ p. knows p.0 ≡ true) 0 (count f) k (omega arith) (omega arith) need all;
            })
