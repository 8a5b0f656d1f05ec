-- Bodies of the clock: their sizes, and that a complete body and the state that it stands for determine each other.
use Rattle.std.proofs.Common.{◌≡◌, ℕ, ◌^◌, ◌<◌, ◌≤◌, Bool, true, false, cond, ◌||◌, eqb, leb, List, [], ◌∷◌, ◌++◌, length, get_or, take, drop, replicate, Some, None, sym, refl, ap, ◌∙◌, ap₂, inl, inr, arith}
use Rattle.std.proofs.ByRecursion.{All-take, All-drop, All-push}
use Rattle.std.proofs.lemmas.List.{append_assoc, length-append, length-drop, length-take-le, take_all, take_at, drop_at, drop-drop, drop_all, drop_more, get_or-append_right, take-append-drop, same_from_push}
use Rattle.std.proofs.lemmas.Bool.{cases_lt, le-leb, lt-leb, le-ltb, lt-ltb}
use Rattle.std.proofs.lemmas.Bool.Decides.{nat_tests}
use Rattle.device.specs.Bytes.{Bytes, four, value, total}
use Rattle.device.specs.Format.{differ_from}
use Rattle.rtc.specs.Rtc.{flags}
use Rattle.rtc.specs.Stream.{from2, fields, body, complete, left_out, flags_of, state_of}
use Rattle.rtc.specs.declared.state.RtcState.{RtcState}
use Rattle.device.proofs.FourBytes.{value-four, four-value}
use Rattle.rtc.proofs.Fields.{differ_self, differ-after}

-- ---- versions: from 2 on, and below

module _ (v : ℕ) (h : 2 ≤ v) where
  on : leb 2 v ≡ true
  on = le-leb 2 v h

  from2-on : (bs : List ℕ) → from2 v bs ≡ bs
  from2-on bs = rw on

  complete-on : (bs : List ℕ) → complete v bs ≡ bs
  complete-on bs = rw on

module _ (v : ℕ) (h : v < 2) where
  off : leb 2 v ≡ false
  off = lt-leb 2 v h

  from2-off : (bs : List ℕ) → from2 v bs ≡ []
  from2-off bs = rw off

  complete-off : (bs : List ℕ) → complete v bs ≡ bs ++ (0 ∷ [])
  complete-off bs = rw off

-- ---- sizes

size-on : (v : ℕ) → 2 ≤ v → total (fields v) ≡ 68
size-on v h = grind (arith, nat_tests)

size-off : (v : ℕ) → v < 2 → total (fields v) ≡ 67
size-off v h = grind (arith, nat_tests)

pub size_small : (v : ℕ) → total (fields v) ≤ 68
size_small v = grind (arith, nat_tests)

pub body-size : (v : ℕ) (s : RtcState) → length s.registers ≡ 62 → length (body v s) ≡ total (fields v)
body-size v s n = grind (arith, nat_tests, length-append)

pub complete-size : (v : ℕ) (bs : List ℕ) → length bs ≡ total (fields v) → length (complete v bs) ≡ 68
complete-size v bs n = grind (arith, nat_tests, length-append)

pub complete-bytes : (v : ℕ) (bs : List ℕ) → Bytes bs → Bytes (complete v bs)
complete-bytes v bs b =
    elim (cases_lt v 2) [
      | inl h ↦ rw (complete-off v h bs) (All-push (λ x. x < 256) bs 0 b (omega arith))
      | inr h ↦ rw (complete-on v h bs) b
    ]

-- ---- a state, written and read again

module _ (s : RtcState) (n : length s.registers ≡ 62) where
  pub flags-back : flags_of (body 2 s) ≡ flags s
  flags-back = get_or-append_right s.registers (four s.phase ++ (flags s ∷ [])) 62 66 0 n (omega arith)

  flag-code : (u : Bool) → eqb (cond u 0x10 0) 0x10 ≡ u
  flag-code true = refl
  flag-code false = refl

  pub state-back : s.phase < 2 ^ 32 → state_of (body 2 s) ≡ s
  state-back h =
      let rest = four s.phase ++ (flags s ∷ []) in
      let r : take 62 (s.registers ++ rest) ≡ s.registers = take_at s.registers rest 62 n in
      let p : value (take 4 (drop 62 (s.registers ++ rest))) ≡ s.phase =
      rw (drop_at s.registers rest 62 n) (value-four s.phase h) in
      let u : eqb (flags_of (body 2 s)) 0x10 ≡ s.updated = rw flags-back (flag-code s.updated) in
      λ i. record { index = s.index; registers = r i; phase = p i; updated = u i }

-- ---- a complete body, read and written again

flag-value : (x : ℕ) → (eqb x 0 || eqb x 0x10) ≡ true → cond (eqb x 0x10) 0x10 0 ≡ x
flag-value x e = grind (arith, nat_tests)

pub body_back :
    (bs : List ℕ) → length bs ≡ 68 → Bytes bs → (eqb (flags_of bs) 0 || eqb (flags_of bs) 0x10) ≡ true
    → body 2 (state_of bs) ≡ bs
body_back [] n b e = absurd (omega arith)
body_back (x ∷ bs) n b e =
    let ph = take 4 (drop 62 bs) in
    let k : length ph ≡ 4 = length-take-le 4 (drop 62 bs) (simp length-drop (omega arith)) in
    let p : four (state_of (x ∷ bs)).phase ≡ ph =
    four-value ph k (All-take (λ y. y < 256) 4 (drop 62 bs) (All-drop (λ y. y < 256) 62 bs b.1)) in
    let f : flags (state_of (x ∷ bs)) ≡ get_or bs 66 0 = flag-value (get_or bs 66 0) e in
    let d : drop 66 bs ≡ get_or bs 66 0 ∷ [] =
    drop_more bs 66 0 (omega arith) ∙ ap (λ (l : List ℕ). get_or bs 66 0 ∷ l) (drop_all 67 bs (omega arith)) in
    let t : drop 62 bs ≡ ph ++ (get_or bs 66 0 ∷ []) =
    sym (take-append-drop 4 (drop 62 bs)) ∙ ap (λ (l : List ℕ). ph ++ l) (drop-drop 4 62 bs ∙ d) in
    ap (λ (l : List ℕ). x ∷ take 62 bs ++ (l ++ (flags (state_of (x ∷ bs)) ∷ []))) p
    ∙ ap (λ (y : ℕ). x ∷ take 62 bs ++ (ph ++ (y ∷ []))) f
    ∙ ap (λ (l : List ℕ). x ∷ take 62 bs ++ l) (sym t)
    ∙ ap (λ (l : List ℕ). x ∷ l) (take-append-drop 62 bs)

-- ---- the bodies of all versions

-- what every version has
abbrev front : RtcState → List ℕ
front s = s.index ∷ s.registers ++ four s.phase

last-is : (s : RtcState) → body 2 s ≡ front s ++ (flags s ∷ [])
last-is s = ap (λ (l : List ℕ). s.index ∷ l) (sym (append_assoc s.registers (four s.phase) (flags s ∷ [])))

body-on : (v : ℕ) (s : RtcState) → 2 ≤ v → body v s ≡ body 2 s
body-on v s h = ap (λ (l : List ℕ). s.index ∷ s.registers ++ (four s.phase ++ l)) (from2-on v h (flags s ∷ []))

body-off : (v : ℕ) (s : RtcState) → v < 2 → body v s ≡ front s
body-off v s h = ap (λ (l : List ℕ). s.index ∷ s.registers ++ (four s.phase ++ l)) (from2-off v h (flags s ∷ []))

-- a state that writes what a body was completed to writes that body
pub older : (v : ℕ) (s : RtcState) (bs : List ℕ) → body 2 s ≡ complete v bs → body v s ≡ bs
older v s bs e =
    elim (cases_lt v 2) [
      | inl h ↦
          let joined : front s ++ (flags s ∷ []) ≡ bs ++ (0 ∷ []) = sym (last-is s) ∙ e ∙ complete-off v h bs in
          body-off v s h ∙ (same_from_push (front s) bs (flags s) 0 joined).0
      | inr h ↦ body-on v s h ∙ e ∙ complete-on v h bs
    ]

-- a version that leaves nothing out completes to all of a state
pub completed-on : (v : ℕ) (s : RtcState) → 2 ≤ v → complete v (body v s) ≡ body 2 s
completed-on v s h = complete-on v h (body v s) ∙ body-on v s h

-- one that leaves the flags out completes with their default
completed-off : (v : ℕ) (s : RtcState) → v < 2 → complete v (body v s) ≡ front s ++ (0 ∷ [])
completed-off v s h = complete-off v h (body v s) ∙ ap (λ (l : List ℕ). l ++ (0 ∷ [])) (body-off v s h)

-- where that is what they are, any version completes to all of a state
pub completed : (v : ℕ) (s : RtcState) → flags s ≡ 0 → complete v (body v s) ≡ body 2 s
completed v s z =
    elim (cases_lt v 2) [
      | inl h ↦ completed-off v s h ∙ ap (λ (f : ℕ). front s ++ (f ∷ [])) (sym z) ∙ sym (last-is s)
      | inr h ↦ completed-on v s h
    ]

last-field : (u : Bool) → differ_from 64 (1 ∷ []) (0 ∷ []) (cond u 0x10 0 ∷ []) ≡ cond u (Some 64) None
last-field true = refl
last-field false = refl

-- a body with every field begins with that of any version
pub begins : (v : ℕ) (s : RtcState) → length (body 2 s) ≡ 68 → take (total (fields v)) (body 2 s) ≡ body v s
begins v s n =
    elim (cases_lt v 2) [
      | inl h ↦
          let m : length (front s) ≡ 67 = simp length-append (omega (arith, simp length-append at n)) in
          ap₂ take (size-off v h) (last-is s) ∙ take_at (front s) (flags s ∷ []) 67 m ∙ sym (body-off v s h)
      | inr h ↦
          ap (λ (k : ℕ). take k (body 2 s)) (size-on v h) ∙ take_all 68 (body 2 s) (omega arith) ∙ sym (body-on v s h)
    ]

-- only the flags can be left out and off their default
pub off-default :
    (v : ℕ) (s : RtcState) → length s.registers ≡ 62
    → differ_from 0 (fields 2) (complete v (body v s)) (body 2 s) ≡ left_out v s
off-default v s n =
    elim (cases_lt v 2) [
      | inl h ↦
          let m : length (front s) ≡ 67 = simp length-append (omega arith) in
          ap₂ (differ_from 0 (fields 2)) (completed-off v s h) (last-is s)
          ∙ differ-after 0 (replicate 63 1 ++ (4 ∷ [])) (1 ∷ []) (front s) (0 ∷ []) (flags s ∷ []) m
          ∙ last-field s.updated ∙ rw (lt-ltb v 2 h)
      | inr h ↦
          ap (λ (bs : List ℕ). differ_from 0 (fields 2) bs (body 2 s)) (completed-on v s h)
          ∙ differ_self 0 (fields 2) (body 2 s) ∙ rw (le-ltb v 2 h)
    ]
