-- What passes the check is adopted, as a sound state that is written as what was adopted.
use Rattle.std.proofs.Common.{◌≡◌, ℕ, suc, ◌+◌, ◌<◌, ◌≤◌, eqb, List, [], ◌∷◌, length, get_or, take, drop, None, refl, ap, arith}
use Rattle.std.proofs.ByRecursion.{All-weaker}
use Rattle.std.proofs.lemmas.List.{length-take-le, length-drop}
use Rattle.device.specs.Format.{Section, Passes, sub_size}
use Rattle.device.specs.Obligations.{AdoptedAs}
use Rattle.uart.specs.Uart.{kind, capacity, Sound}
use Rattle.uart.specs.Stream.{body, check_body, numbered, sub, default, zeros, check_sub, state_of, standing, format}
use Rattle.uart.specs.declared.state.UartState.{UartState}
use Rattle.uart.specs.declared.state.UartSubsection.TheVariants.{Fifo, Latch}
use Rattle.uart.proofs.Fields.{flag-le, one-flag, within-passed, zeros-all}
use Rattle.uart.proofs.Numbers.{numbers}
use Rattle.uart.proofs.Padded.{capacity-le, padded-back}
use Rattle.uart.proofs.Subsections.{present-holds, needed-again}

-- ## The fields that have passed

body-passed : (b : List ℕ) → check_body b ≡ None → (get_or b 2 0 ≤ 15) × (get_or b 4 0 ≤ 31) × (get_or b 6 0 ≤ 1)
body-passed b h =
    let p = within-passed b 2 15 _ h in
    let q = within-passed b 4 31 _ p.1 in
    let r = within-passed b 6 1 _ q.1 in
    (p.0, q.0, r.0)

record FifoPassed (x : List ℕ) : Type 0 where
  enabled : get_or x 0 0 ≤ 1
  count : get_or x 1 0 ≤ capacity (eqb (get_or x 0 0) 1)
  beyond : zeros (2 + get_or x 1 0) (drop (2 + get_or x 1 0) x) ≡ None

fifo-passed : (x : List ℕ) → check_sub Fifo x ≡ None → FifoPassed x
fifo-passed x h =
    let p = within-passed x 0 1 _ h in
    let q = within-passed x 1 (capacity (eqb (get_or x 0 0) 1)) _ p.1 in
    record { enabled = p.0; count = q.0; beyond = q.1 }

-- ## What is written of the state that they give

body_back : (b x y : List ℕ) → length b ≡ 7 → check_body b ≡ None → body (state_of b x y) ≡ b
body_back (b₀ ∷ b₁ ∷ b₂ ∷ b₃ ∷ b₄ ∷ b₅ ∷ b₆ ∷ []) x y l h =
    ap (λ g. b₀ ∷ b₁ ∷ b₂ ∷ b₃ ∷ b₄ ∷ b₅ ∷ g ∷ []) (one-flag b₆ (body-passed (b₀ ∷ b₁ ∷ b₂ ∷ b₃ ∷ b₄ ∷ b₅ ∷ b₆ ∷ []) h).2)
body_back [] x y l h = absurd (omega arith)
body_back (b₀ ∷ []) x y l h = absurd (omega arith)
body_back (b₀ ∷ b₁ ∷ []) x y l h = absurd (omega arith)
body_back (b₀ ∷ b₁ ∷ b₂ ∷ []) x y l h = absurd (omega arith)
body_back (b₀ ∷ b₁ ∷ b₂ ∷ b₃ ∷ []) x y l h = absurd (omega arith)
body_back (b₀ ∷ b₁ ∷ b₂ ∷ b₃ ∷ b₄ ∷ []) x y l h = absurd (omega arith)
body_back (b₀ ∷ b₁ ∷ b₂ ∷ b₃ ∷ b₄ ∷ b₅ ∷ []) x y l h = absurd (omega arith)
body_back (b₀ ∷ b₁ ∷ b₂ ∷ b₃ ∷ b₄ ∷ b₅ ∷ b₆ ∷ b₇ ∷ bs) x y l h = absurd (omega arith)

fifo-back : (b x y : List ℕ) → length x ≡ 18 → check_sub Fifo x ≡ None → sub Fifo (state_of b x y) ≡ x
fifo-back b [] y l h = absurd (omega arith)
fifo-back b (a ∷ []) y l h = absurd (omega arith)
fifo-back b (a ∷ n ∷ q) y l h =
    let p = fifo-passed (a ∷ n ∷ q) h in
    let few : n ≤ 16 = omega (arith, p.count, capacity-le (eqb a 1)) in
    let e : 2 + n ≡ suc (suc n) = omega arith in
    let z : zeros (2 + n) (drop (2 + n) (a ∷ n ∷ q)) ≡ None = p.beyond in
    let rest = zeros-all (suc (suc n)) (drop n q) (rw e at z) in
    let flags = one-flag a p.enabled in
    let counts : length (take n q) ≡ n = length-take-le n q (omega arith) in
    let bytes = padded-back n q few (omega arith) rest in
    λ i. flags i ∷ counts i ∷ bytes i

latch-back : (b x y : List ℕ) → length y ≡ 1 → check_sub Latch y ≡ None → sub Latch (state_of b x y) ≡ y
latch-back b x [] l h = absurd (omega arith)
latch-back b x (t ∷ []) l h = ap (λ g. g ∷ []) (one-flag t (within-passed (t ∷ []) 0 1 None h).0)
latch-back b x (t ∷ u ∷ ys) l h = absurd (omega arith)

parts-sound : (b x y : List ℕ) → length x ≡ 18 → check_body b ≡ None → check_sub Fifo x ≡ None → Sound (state_of b x y)
parts-sound b x y l h k =
    let p = body-passed b h in
    let q = fifo-passed x k in
    let g : length (take (get_or x 1 0) (drop 2 x)) ≡ get_or x 1 0 =
    length-take-le (get_or x 1 0) (drop 2 x) (rw length-drop (omega (arith, q.count, capacity-le (eqb (get_or x 0 0) 1)))) in
    record { ier = omega (arith, p.0); mcr = omega (arith, p.1); queue = rw g q.count }

-- ## The section

-- a subsection of its size that passes
abbrev Good : ℕ → List ℕ → Type 0
Good k own = (length own ≡ sub_size format k) × (check_sub (numbered k) own ≡ None)

default-good : (b : List ℕ) (k : ℕ) → k < 2 → Good k (default (numbered k) b)
default-good b = numbers (λ k. Good k (default (numbered k) b)) (refl, refl) (refl, simp flag-le)

module _ (x : Section) (p : Passes format x) where
  standing-good : (k : ℕ) → k < 2 → Good k (standing x k)
  standing-good k h =
      present-holds Good k x.subs _ (All-weaker _ _ (λ q g. (g.long, g.checked)) x.subs p.subs)
      (default-good x.body k h)

  abbrev given : UartState
  given = state_of x.body (standing x 0) (standing x 1)

  body-again : body given ≡ x.body
  body-again = body_back x.body (standing x 0) (standing x 1) p.long p.checked

  sub-again : (k : ℕ) → k < 2 → sub (numbered k) given ≡ standing x k
  sub-again =
      let fifo = standing-good 0 (omega arith) in
      let latch = standing-good 1 (omega arith) in
      numbers (λ k. sub (numbered k) given ≡ standing x k)
      (fifo-back x.body (standing x 0) (standing x 1) fifo.0 fifo.1)
      (latch-back x.body (standing x 0) (standing x 1) latch.0 latch.1)

  pub adopted : AdoptedAs kind format x given
  adopted =
      let body-passes = p.checked in
      let fifo = standing-good 0 (omega arith) in
      let fifo-passes = fifo.1 in
      let latch-passes = (standing-good 1 (omega arith)).1 in
      let subs = needed-again format given x p body-again sub-again in
      record {
        sound = parts-sound x.body (standing x 0) (standing x 1) fifo.0 body-passes fifo-passes;
        adopts = simp (body-passes, fifo-passes, latch-passes);
        defaults = body-again;
        again = λ i. record { version = x.version; body = body-again i; subs = subs i };
      }
