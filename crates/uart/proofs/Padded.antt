-- A queue in 16 bytes: their number, that they give the queue back, how they are written, when they are off their default.
use Rattle.std.proofs.Common.{◌≡◌, ℕ, zero, suc, ◌+◌, ◌-◌, ◌<◌, ◌≤◌, Bool, true, false, ltb, List, [], ◌∷◌, ◌++◌, length, get_or, take, drop, set, replicate, sym, refl, ap, ◌∙◌, arith}
use borrow.Rule.Slice.PartMut.{put_mid}
use lib.Dec.{eqb-suc-zero}
use Rattle.std.proofs.lemmas.List.{append-nil, take-append-drop, take_all, take_more, take_more_set, drop_all, length-take-le, length-drop, length-append, length-replicate}
use Rattle.std.proofs.lemmas.Bool.{both_ways, lt-ltb}
use Rattle.device.specs.Bytes.{flag, differs}
use Rattle.uart.specs.Ring.{padded}
use Rattle.uart.specs.Uart.{capacity}

pub capacity-le : (fe : Bool) → capacity fe ≤ 16
capacity-le true = omega arith
capacity-le false = omega arith

pub padded-size : (q : List ℕ) → length q ≤ 16 → length (padded q) ≡ 16
padded-size q h = simp (length-append, length-replicate) (omega arith)

pub padded-back :
    (n : ℕ) (q : List ℕ) → n ≤ 16 → length q ≡ 16 → drop n q ≡ replicate (length (drop n q)) 0 → padded (take n q) ≡ q
padded-back n q h l z =
    let m : 16 - length (take n q) ≡ length (drop n q) = simp length-drop (omega (arith, length-take-le n q (omega arith))) in
    ap (λ k. take n q ++ replicate k 0) m ∙ ap (λ r. take n q ++ r) (sym z) ∙ take-append-drop n q

copies_at : (n i d : ℕ) → get_or (replicate n d) i d ≡ d
copies_at zero i d = refl
copies_at (suc n) zero d = refl
copies_at (suc n) (suc i) d = copies_at n i d

padded-at : (q : List ℕ) (n i : ℕ) → get_or (q ++ replicate n 0) i 0 ≡ get_or q i 0
padded-at [] n i = copies_at n i 0
padded-at (x ∷ q) n zero = refl
padded-at (x ∷ q) n (suc i) = padded-at q n i

-- a queue that is written out byte by byte
module _ (q out : List ℕ) (few : length q ≤ 16) (room : length out ≡ 16) (i : ℕ) where
  abbrev Written : List ℕ → ℕ → Type 0
  Written bytes n = take n bytes ≡ take n (padded q)

  pub written-more : (b : ℕ) → i < 16 → b ≡ get_or q i 0 → Written out i → Written (set out i b) (i + 1)
  written-more b h e w =
      let byte : b ≡ get_or (padded q) i 0 = e ∙ sym (padded-at q (16 - length q) i) in
      take_more_set out i b (omega arith)
      ∙ (λ j. w j ++ byte j ∷ [])
      ∙ sym (take_more (padded q) i 0 (omega (arith, padded-size q few)))

  pub written_all : 16 ≤ i → Written out i → out ≡ padded q
  written_all h w =
      sym (take_all i out (omega arith)) ∙ w ∙ take_all i (padded q) (omega (arith, padded-size q few))

-- with FE clear, a queue is off its default where a byte waits
pub waiting-needs :
    (fe : Bool) (q : List ℕ) → fe ≡ false → ltb 0 (length q) ≡ differs (flag fe ∷ length q ∷ padded q) (replicate 18 0)
waiting-needs true q e = absurd (both_ways true e refl)
waiting-needs false [] e = refl
waiting-needs false (x ∷ xs) e = simp (eqb-suc-zero, lt-ltb 0 (suc (length xs)) (omega arith))

-- two fields, and what is written after them
pub headed :
    (out w : List ℕ) (a b : ℕ) → length out ≡ 18
    → put_mid 2 (length (set (set out 0 a) 1 b) - 2) (set (set out 0 a) 1 b) w ≡ a ∷ b ∷ w
headed [] w a b l = absurd (omega arith)
headed (x ∷ []) w a b l = absurd (omega arith)
headed (x ∷ y ∷ zs) w a b l =
    ap (λ r. a ∷ b ∷ (w ++ r)) (drop_all (suc (suc (length zs)) - 2) zs (omega arith)) ∙ ap (λ r. a ∷ b ∷ r) (append-nil w)
