-- An update moves the time of day on by a second, and spares every other register.
use Rattle.std.proofs.Common.{◌≡◌, ℕ, ◌+◌, ◌*◌, ◌%◌, ◌<◌, Bool, List, [], ◌∷◌, length, get_or, sym, refl, ap, ◌∙◌, inl, inr, arith}
use Rattle.std.proofs.lemmas.List.{get_or-set_other}
use Rattle.std.proofs.lemmas.Bool.{cases_lt, cond_both}
use Rattle.std.proofs.lemmas.Bool.Decides.{nat_tests}
use Rattle.device.specs.Bytes.{bit}
use Rattle.rtc.specs.Rtc.{slot, binary, code, second, minute, hour, moved, carrying, advanced, update}
use Rattle.rtc.specs.Time.{Shows, KeepsTime}
use Rattle.rtc.specs.declared.state.RtcState.{RtcState}
use Rattle.rtc.specs.declared.state.Counter.{Counter}
use Rattle.rtc.proofs.Codes.{found, past-not-found}

-- ---- registers that do not count

abbrev Spares : ℕ → (List ℕ → List ℕ) → Type 0
Spares j f = (rs : List ℕ) → get_or (f rs) j 0 ≡ get_or rs j 0

moved-spares : (j : ℕ) (b : Bool) (c : Counter) → (j ≡ c.at → ⊥) → Spares j (moved b c)
moved-spares j b c ne rs = get_or-set_other rs c.at j _ 0 ne

carrying-spares :
    (j : ℕ) (b : Bool) (c : Counter) (onward : List ℕ → List ℕ) → (j ≡ c.at → ⊥) → Spares j onward
    → Spares j (carrying b c onward)
carrying-spares j b c onward ne spares rs =
    cond_both _ (onward (moved b c rs)) (moved b c rs) (λ (xs : List ℕ). get_or xs j 0 ≡ get_or rs j 0)
    (λ _. spares (moved b c rs) ∙ moved-spares j b c ne rs) (λ _. moved-spares j b c ne rs)

advanced-spares :
    (j : ℕ) (b : Bool) → (j ≡ hour.at → ⊥) → (j ≡ minute.at → ⊥) → (j ≡ second.at → ⊥) → Spares j (advanced b)
advanced-spares j b h m s =
    carrying-spares j b second _ s (carrying-spares j b minute _ m (moved-spares j b hour h))

-- ---- registers that count

-- a list of registers shows the time of day t
record Reads (bin : Bool) (rs : List ℕ) (t : ℕ) : Type 0 where
  h : ℕ
  m : ℕ
  sec : ℕ
  time : 3600 * h + 60 * m + sec ≡ t
  spans : (h < 24) × (m < 60) × (sec < 60)
  hours : get_or rs 4 0 ≡ code bin h
  minutes : get_or rs 2 0 ≡ code bin m
  seconds : get_or rs 0 0 ≡ code bin sec

module _ (bin : Bool) (b d : ℕ) (rest : List ℕ) where
  -- registers with codes of numbers in the places that count
  abbrev shown : ℕ → ℕ → ℕ → List ℕ
  shown h m sec = code bin sec ∷ b ∷ code bin m ∷ d ∷ code bin h ∷ rest

  reads :
      (h m sec t : ℕ) → 3600 * h + 60 * m + sec ≡ t → (h < 24) × (m < 60) × (sec < 60) → Reads bin (shown h m sec) t
  reads h m sec t e w =
      record { h = h; m = m; sec = sec; time = e; spans = w; hours = refl; minutes = refl; seconds = refl }

  -- one second more, by how far it carries
  step :
      (h m sec : ℕ) → (h < 24) × (m < 60) × (sec < 60)
      → Reads bin (advanced bin (shown h m sec)) ((3600 * h + 60 * m + sec + 1) % 86400)
  step h m sec w =
      elim (cases_lt sec 59) [
        | inl l ↦
            rw (found bin 0 59 sec (omega arith) l) (reads h m (sec + 1) _ (omega arith) (omega arith))
        | inr l ↦
            elim (cases_lt m 59) [
              | inl k ↦
                  rw (past-not-found bin 59 sec l, found bin 0 59 m (omega arith) k)
                  (reads h (m + 1) 0 _ (omega arith) (omega arith))
              | inr k ↦
                  elim (cases_lt h 23) [
                    | inl i ↦
                        rw (past-not-found bin 59 sec l, past-not-found bin 59 m k, found bin 0 23 h (omega arith) i)
                        (reads (h + 1) 0 0 _ (omega arith) (omega arith))
                    | inr i ↦
                        rw (past-not-found bin 59 sec l, past-not-found bin 59 m k, past-not-found bin 23 h i)
                        (reads 0 0 0 _ (omega arith) (omega arith))
                  ]
            ]
      ]

reads-next :
    (bin : Bool) (rs : List ℕ) (t : ℕ) → length rs ≡ 62 → Reads bin rs t → Reads bin (advanced bin rs) ((t + 1) % 86400)
reads-next bin [] t n k = absurd (omega arith)
reads-next bin (a ∷ []) t n k = absurd (omega arith)
reads-next bin (a ∷ b ∷ []) t n k = absurd (omega arith)
reads-next bin (a ∷ b ∷ c ∷ []) t n k = absurd (omega arith)
reads-next bin (a ∷ b ∷ c ∷ d ∷ []) t n k = absurd (omega arith)
reads-next bin (a ∷ b ∷ c ∷ d ∷ e ∷ rest) t n k =
    rw (k.seconds, k.minutes, k.hours, ← k.time) (step bin b d rest k.h k.m k.sec k.spans)

-- ---- states

binary-kept : (s : RtcState) → binary (update s) ≡ binary s
binary-kept s =
    ap (bit 2)
    (advanced-spares 11 (binary s) (λ e. omega arith) (λ e. omega arith) (λ e. omega arith) s.registers)

-- what a state shows, its registers read
shows-reads : (s : RtcState) (t : ℕ) → Shows s t → Reads (binary s) s.registers t
shows-reads s t k =
    record {
      h = k.h;
      m = k.m;
      sec = k.sec;
      time = k.time;
      spans = k.spans;
      hours = k.hours;
      minutes = k.minutes;
      seconds = k.seconds;
    }

-- and back, in a coding that is the state's
reads-shows : (s : RtcState) (bin : Bool) (t : ℕ) → binary s ≡ bin → Reads bin s.registers t → Shows s t
reads-shows s bin t e r =
    record {
      h = r.h;
      m = r.m;
      sec = r.sec;
      time = r.time;
      spans = r.spans;
      hours = r.hours ∙ ap (λ (x : Bool). code x r.h) (sym e);
      minutes = r.minutes ∙ ap (λ (x : Bool). code x r.m) (sym e);
      seconds = r.seconds ∙ ap (λ (x : Bool). code x r.sec) (sym e);
    }

pub keeps_time : KeepsTime
keeps_time s n =
    record {
      time = λ t k.
          reads-shows (update s) (binary s) ((t + 1) % 86400) (binary-kept s)
          (reads-next (binary s) s.registers t n (shows-reads s t k));
      flag = refl;
      registers = λ r h m z.
          let a : slot r ≡ 4 → ⊥ = λ e. h (grind (arith, nat_tests)) in
          let b : slot r ≡ 2 → ⊥ = λ e. m (grind (arith, nat_tests)) in
          let c : slot r ≡ 0 → ⊥ = λ e. z (grind (arith, nat_tests)) in
          advanced-spares (slot r) (binary s) a b c s.registers;
      index = refl;
      phase = refl;
    }
