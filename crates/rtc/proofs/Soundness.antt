-- The calls keep a clock of any rate sound, as long as one tick call brings less than a second.
use Rattle.std.proofs.Common.{◌≡◌, ℕ, zero, suc, ◌+◌, ◌-◌, ◌<◌, ◌≤◌, Bool, true, ◌&&◌, ◌||◌, eqb, ltb, List, length, get_or, set, sym, refl, ◌∙◌, subst, inl, inr, arith, lit≤}
use Rattle.std.proofs.lemmas.List.{length-set, get_or-set_same, get_or-set_other}
use Rattle.std.proofs.lemmas.Bool.{cases_eq, cond_both, eqb-false, ltb-true, ltb-false, or_parts}
use Rattle.std.proofs.lemmas.Bool.Decides.{Decides-below_and, Decides-eqb, nat_tests}
use Rattle.device.specs.Kind.{Closed}
use Rattle.rtc.specs.State.{with_registers, with_phase}
use Rattle.rtc.specs.Rtc.{reg_c, reg_d, slot, stored_b, stored, held, binary, read, write}
use Rattle.rtc.specs.Rtc.{second, minute, hour, moved, carrying, advanced, ended, tick, Sound, kind}
use Rattle.rtc.specs.declared.state.RtcState.{RtcState}
use Rattle.rtc.specs.declared.state.Counter.{Counter}

-- ---- B: what is stored once is stored as it is, by a test of every byte

abbrev settles : ℕ → Bool
settles v = eqb (stored_b (stored_b v)) (stored_b v)

abbrev settle_below : ℕ → Bool
settle_below zero = true
settle_below (suc n) = settles n && settle_below n

stored_b-stored : (v : ℕ) → v < 256 → stored_b (stored_b v) ≡ stored_b v
stored_b-stored =
    (Decides-below_and settles (λ v. stored_b (stored_b v) ≡ stored_b v) settle_below
    (λ v. Decides-eqb (stored_b (stored_b v)) (stored_b v)) refl (λ _. refl) 256).0 refl

-- ---- the registers' part of soundness

abbrev Kept : List ℕ → Type 0
Kept rs = (length rs ≡ 62) × (get_or rs 10 0 ≤ 127) × (stored_b (get_or rs 11 0) ≡ get_or rs 11 0)

-- what holds at a place after a write to a place
at_set :
    (P : ℕ → Type 0) (rs : List ℕ) (k j x : ℕ) → j < length rs → P (get_or rs j 0) → (k ≡ j → P x)
    → P (get_or (set rs k x) j 0)
at_set P rs k j x h old new =
    elim (cases_eq k j) [
      | inl e ↦
          subst (λ (i : ℕ). P (get_or (set rs i x) j 0)) (sym e) (subst P (sym (get_or-set_same rs j x 0 h)) (new e))
      | inr ne ↦ subst P (sym (get_or-set_other rs k j x 0 (λ e. ne (sym e)))) old
    ]

set-kept : (rs : List ℕ) (k x : ℕ) → Kept rs → (k ≡ 10 → x ≤ 127) → (k ≡ 11 → stored_b x ≡ x) → Kept (set rs k x)
set-kept rs k x h a b = (
  length-set rs k x ∙ h.0,
  at_set (λ y. y ≤ 127) rs k 10 x (omega arith) h.1 a,
  at_set (λ y. stored_b y ≡ y) rs k 11 x (omega arith) h.2 b,
)

abbrev Keeps : (List ℕ → List ℕ) → Type 0
Keeps f = (rs : List ℕ) → Kept rs → Kept (f rs)

moved_keeps : (b : Bool) (c : Counter) → c.at < 10 → Keeps (moved b c)
moved_keeps b c l rs h = set-kept rs c.at _ h (λ e. absurd (omega arith)) (λ e. absurd (omega arith))

carrying-keeps : (b : Bool) (c : Counter) (onward : List ℕ → List ℕ) → c.at < 10 → Keeps onward → Keeps (carrying b c onward)
carrying-keeps b c onward l keeps rs h =
    cond_both _ (onward (moved b c rs)) (moved b c rs) Kept (λ _. keeps _ (moved_keeps b c l rs h))
    (λ _. moved_keeps b c l rs h)

advanced-keeps : (b : Bool) → Keeps (advanced b)
advanced-keeps b =
    carrying-keeps b second _ (lit≤ tt) (carrying-keeps b minute _ (lit≤ tt) (moved_keeps b hour (lit≤ tt)))

-- ---- the calls

stored-slot : (r v : ℕ) → (r ≡ reg_c → ⊥) → (r ≡ reg_d → ⊥) → stored (slot r) v ≡ stored r v
stored-slot r v c d = grind (arith, nat_tests)

stored-a : (k v : ℕ) → k ≡ 10 → stored k v ≤ 127
stored-a k v e = rw e (omega arith)

stored-b : (k v : ℕ) → v < 256 → k ≡ 11 → stored_b (stored k v) ≡ stored k v
stored-b k v l e = rw e (stored_b-stored v l)

module _ (rate : ℕ) where
  kept : (s : RtcState) → Sound rate s → Kept s.registers
  kept s h = (h.1, h.2, h.3)

  holding-sound : (s : RtcState) (rs : List ℕ) → Sound rate s → Kept rs → Sound rate (with_registers s rs)
  holding-sound s rs h k = (h.0, k.0, k.1, k.2, h.4)

  read-sound : (s : RtcState) (o : ℕ) → Sound rate s → Sound rate (read s o).1
  read-sound s o h = grind (arith, nat_tests)

  pub storing-sound :
      (s : RtcState) (k v : ℕ) → v < 256 → Sound rate s → Sound rate (with_registers s (set s.registers k (stored k v)))
  storing-sound s k v l h =
      holding-sound s _ h (set-kept s.registers k (stored k v) (kept s h) (stored-a k v) (stored-b k v l))

  pub write-sound : (s : RtcState) (o v : ℕ) → v < 256 → Sound rate s → Sound rate (write s o v)
  write-sound s o v l h =
      let r = s.index in
      cond_both (eqb o 0) _ _ (Sound rate) (λ _. (omega arith, h.1, h.2, h.3, h.4))
      (λ _. cond_both (eqb r reg_c || eqb r reg_d) _ _ (Sound rate) (λ _. h)
      (λ e.
      let ns = or_parts (eqb r reg_c) (eqb r reg_d) e in
      let is = stored-slot r v (eqb-false r reg_c ns.0) (eqb-false r reg_d ns.1) in
      subst (λ (x : ℕ). Sound rate (with_registers s (set s.registers (slot r) x))) is (storing-sound s (slot r) v l h)))

  ended-sound : (s : RtcState) → Sound rate s → Sound rate (ended s)
  ended-sound s h =
      cond_both (held s) _ _ (Sound rate) (λ _. h)
      (λ _. holding-sound s _ h (advanced-keeps (binary s) s.registers (kept s h)))

  module _ (slow : 65535 ≤ rate) where
    pub tick-sound : (s : RtcState) (n : ℕ) → n ≤ 65535 → Sound rate s → Sound rate (tick rate s n)
    tick-sound s n l h =
        let p = s.phase + n in
        cond_both (ltb p rate) _ _ (Sound rate) (λ e. (h.0, h.1, h.2, h.3, ltb-true p rate e))
        (λ e. ended-sound (with_phase s (p - rate)) (h.0, h.1, h.2, h.3, omega (arith, ltb-false p rate e)))

    pub closed : Closed (kind rate)
    closed =
        record {
          fresh = (lit≤ tt, refl, lit≤ tt, refl, omega arith);
          read = λ s o _ h. read-sound s o h;
          write = λ s o b _ l h. write-sound s o b l h;
          feed = λ s b _ _ h. h;
          tick = λ s n _ l h. tick-sound s n l h;
        }
