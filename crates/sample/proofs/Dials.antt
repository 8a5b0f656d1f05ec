-- The dial meets its obligations.
use Rattle.std.proofs.Common.{◌≡◌, ℕ, zero, suc, ◌<◌, ◌≤◌, Bool, true, false, cond, not, eqb, ltb, List, [], ◌∷◌, get_or, Some, None, Option, sym, refl, ap, ◌∙◌, subst, arith, rules, length-append}
use Rattle.std.specs.List.{AllByRecursion}
use Rattle.std.proofs.lemmas.Bool.{false≢true, lt-ltb, ltb-true, eqb-true, eq-eqb, and_parts, and_from, cond-true}
use Rattle.std.proofs.lemmas.Bool.Decides.{nat_tests}
use Rattle.device.specs.Bytes.{Bytes, bit, flag, differs, same}
use Rattle.device.specs.Format.{title, Section, Served, Takes, SubPasses, Ascending, Passes, OfBytes, needed, section_at}
use Rattle.device.specs.Obligations.{AdoptedAs, Formed, Obligations}
use Rattle.sample.specs.declared.state.DialState.{DialState}
use Rattle.sample.specs.Dial.{dial, dial_format, refused, latch_of, passed, version}

-- ---- versions are 1 and 2: at each, the format computes

at-version : (P : ℕ → Type 0) → P 1 → P 2 → (e : ℕ) → P (version e)
at-version P a b e = elim (ltb e 3) as (λ x. P (cond x 1 2)) [ true ↦ a | false ↦ b ]

at-taken : (P : ℕ → Type 0) → P 1 → P 2 → (e v : ℕ) → Takes dial_format e v → P v
at-taken P a b e v t =
    go v t.low (let h = t.high in let l = at-version (λ w. w ≤ 2) (omega arith) (omega arith) e in omega arith)
  where
    go : (v : ℕ) → 1 ≤ v → v ≤ 2 → P v
    go zero l h = absurd (omega arith)
    go (suc zero) l h = a
    go (suc (suc zero)) l h = b
    go (suc (suc (suc v))) l h = absurd (omega arith)

title-bytes : Bytes (title dial_format 0)
title-bytes = search rules

dial-formed : Formed dial dial_format
dial-formed =
    record {
      name-length = (omega arith, omega arith);
      name-letters = search rules;
      width = (omega arith, omega arith);
      few = omega arith;
      title-length = elim [ zero ↦ λ h. (omega arith, omega arith) | suc k ↦ λ h. absurd (omega arith) ];
      title-bytes = elim [ zero ↦ λ h. title-bytes | suc k ↦ λ h. absurd (omega arith) ];
      apart = λ j k l h p. omega arith;
      since = (omega arith, omega arith);
      last = omega arith;
      written = λ e h. grind (arith, nat_tests);
      taken = λ e h. grind (arith, nat_tests);
      body-small = λ v. grind (arith, nat_tests);
      sub_small = elim [ zero ↦ λ h. omega arith | suc k ↦ λ h. absurd (omega arith) ];
      body-size = λ v s i. grind (arith, nat_tests);
      sub-size = elim [ zero ↦ λ s h i. refl | suc k ↦ λ s h i. absurd (omega arith) ];
      complete-size = λ v b l. grind (arith, nat_tests, length-append);
      default-size = elim [ zero ↦ λ b h l. refl | suc k ↦ λ b h l. absurd (omega arith) ];
    }

-- ---- flags as bytes

flag-low : (b : Bool) → flag b < 2
flag-low b = grind (arith, nat_tests)

flag-back : (b : Bool) → eqb (flag b) 1 ≡ b
flag-back true = refl
flag-back false = refl

byte-back : (n : ℕ) → n < 2 → flag (eqb n 1) ≡ n
byte-back n h = grind (arith, nat_tests)

-- ---- the check

check-none : (i n : ℕ) → i < 64 → n < 2 → refused (i ∷ n ∷ []) ≡ None
check-none i n h l = grind (arith, nat_tests)

checked : (i n : ℕ) → refused (i ∷ n ∷ []) ≡ None → (i < 64) × (n < 2)
checked i n h = grind (arith, nat_tests)

checked-latch : (l : ℕ) → dial_format.check_sub 1 [] 0 (l ∷ []) ≡ None → l < 2
checked-latch l h = grind (arith, nat_tests)

-- ---- the needed subsections give the latch back

latch-back : (s : DialState) → latch_of (needed dial_format s) (bit 0 s.index) ≡ s.latch
latch-back s = go (same own usual) refl
  where
    own : List ℕ
    own = flag s.latch ∷ []

    usual : List ℕ
    usual = flag (bit 0 s.index) ∷ []

    go : (b : Bool) → same own usual ≡ b → latch_of (cond (not b) ((0, own) ∷ []) []) (bit 0 s.index) ≡ s.latch
    go true p =
        let q = eqb-true (flag s.latch) (flag (bit 0 s.index)) (and_parts _ true p).0 in
        sym (flag-back (bit 0 s.index)) ∙ ap (λ (n : ℕ). eqb n 1) (sym q) ∙ flag-back s.latch
    go false p = flag-back s.latch

-- a state that version v carries is adopted again
abbrev Returns : DialState → ℕ → Type 0
Returns s v =
    s.index < 64 → dial_format.complete v (dial_format.body v s) ≡ dial_format.body 2 s
    → dial_format.adopt (section_at dial_format v s) ≡ Some s

returns-1 : (s : DialState) → Returns s 1
returns-1 s small carried =
    let p : 0 ≡ flag s.turned = cc in
    let q : false ≡ s.turned = ap (λ (n : ℕ). eqb n 1) p ∙ flag-back s.turned in
    λ i. passed (check-none s.index 0 small (omega arith) i) (record { index = s.index; turned = q i; latch = latch-back s i })

returns-2 : (s : DialState) → Returns s 2
returns-2 s small carried i =
    passed (check-none s.index (flag s.turned) small (flag-low s.turned) i)
    (record { index = s.index; turned = flag-back s.turned i; latch = latch-back s i })

-- ---- adopting what passes

-- what can stand beside a body with index i
data Subs (i : ℕ) : List (ℕ × List ℕ) → Type 0 where
  nothing : Subs i []
  latch : (l : ℕ) → l < 2 → differs (l ∷ []) (flag (bit 0 i) ∷ []) ≡ true → Subs i ((0, l ∷ []) ∷ [])

module _ (v i : ℕ) (b : List ℕ) (front : get_or (dial_format.complete v b) 0 0 ≡ i) where
  one-sub : (own : List ℕ) → SubPasses dial_format v b 0 own → Subs i ((0, own) ∷ [])
  one-sub [] h = absurd (let l = h.long in omega arith)
  one-sub (l ∷ []) h =
      latch l (checked-latch l h.checked)
      (ap (λ (m : ℕ). differs (l ∷ []) (flag (bit 0 m) ∷ [])) (sym front) ∙ h.needed)
  one-sub (l ∷ m ∷ own) h = absurd (let l = h.long in omega arith)

  all-subs :
      (ss : List (ℕ × List ℕ)) → Ascending dial_format 0 ss → AllByRecursion (λ p. SubPasses dial_format v b p.0 p.1) ss
      → Subs i ss
  all-subs [] asc h = nothing
  all-subs (p ∷ []) asc h =
      let q : p.0 ≡ 0 = let l = asc.1 in omega arith in
      subst (λ (k : ℕ). SubPasses dial_format v b k p.1 → Subs i ((k, p.1) ∷ [])) (sym q) (one-sub p.1) h.0
  all-subs (p ∷ q ∷ ss) asc h = absurd (let l = asc.2.0 in let m = asc.2.1 in omega arith)

-- the state of what was read needs what was read
needed-back :
    (i : ℕ) (turned : Bool) {ss : List (ℕ × List ℕ)} → Subs i ss
    → needed dial_format (record { index = i; turned = turned; latch = latch_of ss (bit 0 i) }) ≡ ss
needed-back i turned nothing =
    let usual = flag (bit 0 i) in
    ap (λ (t : Bool). cond (not t) ((0, usual ∷ []) ∷ []) []) (and_from (eqb usual usual) true (eq-eqb usual usual refl) refl)
needed-back i turned (latch l small differ) =
    ap (λ (m : ℕ). cond (differs (m ∷ []) (flag (bit 0 i) ∷ [])) ((0, m ∷ []) ∷ []) []) (byte-back l small)
    ∙ ap (λ (t : Bool). cond t ((0, l ∷ []) ∷ []) []) differ

Adopts : Section → Type 0
Adopts x = Passes dial_format x → (s : DialState) × AdoptedAs dial dial_format x s

adopts-1 : (b : List ℕ) (ss : List (ℕ × List ℕ)) → Adopts (record { version = 1; body = b; subs = ss })
unfolding Adopts
adopts-1 [] ss h = absurd (let l = h.long in omega arith)
adopts-1 (i ∷ []) ss h =
    let n = needed-back i false (all-subs 1 i (i ∷ []) refl ss h.order h.subs) in (
      record { index = i; turned = false; latch = latch_of ss (bit 0 i) },
      record {
        sound = (checked i 0 h.checked).0;
        adopts = ap (λ (o : Option ℕ). passed o (record { index = i; turned = false; latch = latch_of ss (bit 0 i) })) h.checked;
        defaults = refl;
        again = λ j. record { version = 1; body = i ∷ []; subs = n j };
      },
    )
adopts-1 (i ∷ k ∷ b) ss h = absurd (let l = h.long in omega arith)

adopts-2 : (b : List ℕ) (ss : List (ℕ × List ℕ)) → Adopts (record { version = 2; body = b; subs = ss })
unfolding Adopts
adopts-2 [] ss h = absurd (let l = h.long in omega arith)
adopts-2 (i ∷ []) ss h = absurd (let l = h.long in omega arith)
adopts-2 (i ∷ m ∷ []) ss h =
    let c = checked i m h.checked in
    let p = byte-back m c.1 in
    let n = needed-back i (eqb m 1) (all-subs 2 i (i ∷ m ∷ []) refl ss h.order h.subs) in (
      record { index = i; turned = eqb m 1; latch = latch_of ss (bit 0 i) },
      record {
        sound = c.0;
        adopts = ap (λ (o : Option ℕ). passed o (record { index = i; turned = eqb m 1; latch = latch_of ss (bit 0 i) })) h.checked;
        defaults = λ j. i ∷ p j ∷ [];
        again = λ j. record { version = 2; body = i ∷ p j ∷ []; subs = n j };
      },
    )
adopts-2 (i ∷ m ∷ k ∷ b) ss h = absurd (let l = h.long in omega arith)

dial-adopts :
    (e : ℕ) (x : Section) → Served e → Takes dial_format e x.version → OfBytes x → Passes dial_format x
    → (s : DialState) × AdoptedAs dial dial_format x s
unfolding Adopts
dial-adopts e x served takes bytes =
    at-taken (λ v. Adopts (record { version = v; body = x.body; subs = x.subs })) (adopts-1 x.body x.subs)
    (adopts-2 x.body x.subs) e x.version takes

pub dial-obligations : Obligations dial dial_format
dial-obligations =
    record {
      formed = dial-formed;
      body-passes = λ e e' s h h' i c t.
          at-version (λ v. dial_format.check v (dial_format.body v s) ≡ None) (check-none s.index 0 i (omega arith))
          (check-none s.index (flag s.turned) i (flag-low s.turned)) e;
      sub-passes = λ e e' k s h h' i c t n need know.
          cond-true {A = Option ℕ} (ltb (flag s.latch) 2) None (Some 0) (lt-ltb (flag s.latch) 2 (flag-low s.latch));
      returns = λ e s h i c. at-version (Returns s) (returns-1 s) (returns-2 s) e i c.absent;
      adopts = dial-adopts;
      takes-own = λ e since high. record { low = at-version (λ v. 1 ≤ v) (omega arith) (omega arith) e; high = omega arith };
      stays-known = λ e k low high n know. lt-ltb 1 (suc e) (let m = ltb-true 1 e know in omega arith);
      fresh-carried = λ e since high. record {
        knows = λ k l need. absurd (false≢true need);
        absent = at-version (λ v. dial_format.complete v (dial_format.body v dial.fresh) ≡ 0 ∷ 0 ∷ []) refl refl e;
      };
      latest-carries = λ s i. record { knows = λ k l need. refl; absent = refl };
    }
