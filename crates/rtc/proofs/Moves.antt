-- A clock whose second has at most 2^32 ticks meets its obligations.
use Rattle.std.proofs.Common.{◌≡◌, ℕ, ◌^◌, ◌≤◌, Bool, true, false, cond, ◌||◌, eqb, List, [], ◌∷◌, length, drop, Some, None, Option, refl, ap, ◌∙◌, inl, inr, le_refl, arith, rules, lit≤}
use Rattle.std.specs.List.{AllByRecursion}
use Rattle.std.proofs.lemmas.List.{length-take-le, length-drop}
use Rattle.std.proofs.lemmas.Bool.{cases_Bool, le-leb, lt-ltb, eq-eqb, leb-true, ltb-true, eqb-true}
use Rattle.std.proofs.lemmas.Bool.Decides.{nat_tests}
use Rattle.device.specs.Format.{latest, Section, Carries, Ascending, Passes, OfBytes}
use Rattle.device.specs.Obligations.{Formed, AdoptedAs, Obligations}
use Rattle.rtc.specs.Rtc.{reg_a, reg_b, register, stored_b, flags, fresh, Sound, kind}
use Rattle.rtc.specs.Stream.{body, complete, flags_of, state_of, checks, first_refused, refused, unless, writes, format}
use Rattle.rtc.specs.declared.state.RtcState.{RtcState}
use Rattle.rtc.proofs.Bodies.{size_small, body-size, complete-size, complete-bytes, flags-back, state-back, body_back}
use Rattle.rtc.proofs.Bodies.{older, completed, completed-on}

-- ---- the check: nothing is refused exactly if every row passes

abbrev AllPass : List (ℕ × Bool) → Type 0
AllPass = AllByRecursion (λ p. p.1 ≡ true)

none-refused : (ps : List (ℕ × Bool)) → AllPass ps → first_refused ps ≡ None
none-refused [] h = refl
none-refused (p ∷ ps) h = rw h.0 (none-refused ps h.1)

all_pass : (ps : List (ℕ × Bool)) → first_refused ps ≡ None → AllPass ps
all_pass [] e = tt
all_pass (p ∷ ps) e =
    elim (cases_Bool p.1) [
      | inl t ↦ (t, all_pass ps (rw t at e))
      | inr t ↦ let some : ◌≡◌ {A = Option ℕ} (Some p.0) None = rw t at e in cc
    ]

flags-pass : (u : Bool) → (eqb (cond u 0x10 0) 0 || eqb (cond u 0x10 0) 0x10) ≡ true
flags-pass true = refl
flags-pass false = refl

no-subs : (rate : ℕ) (subs : List (ℕ × List ℕ)) → Ascending (format rate) 0 subs → [] ≡ subs
no-subs rate [] h = refl
no-subs rate (p ∷ ps) h = absurd (omega (arith, h.1))

-- ---- editions

writes-span : (e : ℕ) → (1 ≤ writes e) × (writes e ≤ 2)
writes-span e = grind (arith, nat_tests)

writes_later : (e : ℕ) → 3 ≤ e → 2 ≤ writes e
writes_later e h = grind (arith, nat_tests)

module _ (rate : ℕ) (fits : rate ≤ 2 ^ 32) where
  carries : (e : ℕ) (s : RtcState) → complete (writes e) (body (writes e) s) ≡ body 2 s → Carries (format rate) e s
  carries e s a = record { knows = λ k l _. absurd (omega arith); absent = a }

  -- ---- what a state writes passes, and is adopted as that state

  sound-passes : (s : RtcState) (f : ℕ) → Sound rate s → (eqb f 0 || eqb f 0x10) ≡ true → AllPass (checks rate s f)
  sound-passes s f h u = (
    le-leb s.index 63 h.0,
    (
      le-leb (register s reg_a) 127 h.2,
      (
        eq-eqb (stored_b (register s reg_b)) (register s reg_b) h.3,
        (lt-ltb s.phase rate h.4, (u, tt)),
      ),
    ),
  )

  module _ (s : RtcState) (h : Sound rate s) where
    back : state_of (body 2 s) ≡ s
    back = state-back s h.1 (omega arith)

    complete-passes : refused rate (body 2 s) ≡ None
    complete-passes =
        ap (λ (x : RtcState). first_refused (checks rate x (flags_of (body 2 s)))) back
        ∙ ap (λ (f : ℕ). first_refused (checks rate s f)) (flags-back s h.1)
        ∙ none-refused (checks rate s (flags s)) (sound-passes s (flags s) h (flags-pass s.updated))

    complete-returns : unless (refused rate (body 2 s)) (state_of (body 2 s)) ≡ Some s
    complete-returns = ap (λ (o : Option ℕ). unless o (state_of (body 2 s))) complete-passes ∙ ap Some back

  -- ---- what passes is adopted as a state that writes it

  passed-sound : (bs : List ℕ) → length bs ≡ 68 → refused rate bs ≡ None → Sound rate (state_of bs)
  passed-sound bs n e =
      let s = state_of bs in
      let p = all_pass (checks rate s (flags_of bs)) e in (
        leb-true s.index 63 p.0,
        length-take-le 62 (drop 1 bs) (simp length-drop (omega arith)),
        leb-true (register s reg_a) 127 p.1.0,
        eqb-true (stored_b (register s reg_b)) (register s reg_b) p.1.1.0,
        ltb-true s.phase rate p.1.1.1.0,
      )

  adopts :
      (x : Section) → OfBytes x → Passes (format rate) x → (s : RtcState) × AdoptedAs (kind rate) (format rate) x s
  adopts x b p =
      let v = x.version in
      let bs = complete v x.body in
      let n = complete-size v x.body p.long in
      let rows = all_pass (checks rate (state_of bs) (flags_of bs)) p.checked in
      let full : body 2 (state_of bs) ≡ bs = body_back bs n (complete-bytes v x.body b.body) rows.1.1.1.1.0 in
      let own : body v (state_of bs) ≡ x.body = older v (state_of bs) x.body full in
      let none = no-subs rate x.subs p.order in (
        state_of bs,
        record {
          sound = passed-sound bs n p.checked;
          adopts = ap (λ (o : Option ℕ). unless o (state_of bs)) p.checked;
          defaults = full;
          again = λ i. record { version = v; body = own i; subs = none i };
        },
      )

  formed : Formed (kind rate) (format rate)
  formed =
      record {
        name-length = (lit≤ tt, lit≤ tt);
        name-letters = search rules;
        width = (lit≤ tt, lit≤ tt);
        few = lit≤ tt;
        title-length = λ k l. absurd (omega arith);
        title-bytes = λ k l. absurd (omega arith);
        apart = λ j k _ l. absurd (omega arith);
        since = (lit≤ tt, lit≤ tt);
        last = lit≤ tt;
        written = λ e _. (writes-span e).1;
        taken = λ e _. (writes-span e).1;
        body-small = λ v. omega (arith, size_small v);
        sub_small = λ k l. absurd (omega arith);
        body-size = λ v s h. body-size v s h.1;
        sub-size = λ k s l. absurd (omega arith);
        complete-size = complete-size;
        default-size = λ k b l. absurd (omega arith);
      }

  pub obligations : Obligations (kind rate) (format rate)
  obligations =
      record {
        formed = formed;
        body-passes = λ e _ s _ _ h c _. ap (refused rate) c.absent ∙ complete-passes s h;
        sub-passes = λ e e' k s _ _ _ _ _ l. absurd (omega arith);
        returns = λ e s _ h c.
            ap (λ (bs : List ℕ). unless (refused rate bs) (state_of bs)) c.absent ∙ complete-returns s h;
        adopts = λ e x _ _. adopts x;
        takes-own = λ e _ _. record { low = (writes-span e).0; high = le_refl (writes e) };
        stays-known = λ e k _ _ _ t. t;
        fresh-carried = λ e _ _. carries e fresh (completed (writes e) fresh refl);
        latest-carries = λ s _. carries latest s (completed-on (writes latest) s (writes_later latest (lit≤ tt)));
      }
