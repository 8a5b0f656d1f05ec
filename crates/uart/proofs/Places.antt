-- The two places of a table of subsections: what stands there, or else x and y.
use Rattle.std.proofs.Common.{◌≡◌, ℕ, List, [], ◌∷◌, length, get_or, Some, None, Option, unwrap_or, refl, arith, Bor}
use Rattle.device.specs.Table.{standing, Sized, Table}
use Rattle.uart.specs.Stream.{format, present}

abbrev Places : Type 0
Places = List (Option (Bor (List ℕ)))

pub record Given (os : Places) (x y : Bor (List ℕ)) : Type 0 where
  pub fifo : (unwrap_or (get_or os 0 None) x).now ≡ present 0 (standing 0 os) x.now
  pub latch : (unwrap_or (get_or os 1 None) y).now ≡ present 1 (standing 0 os) y.now
  pub fifo-size : length (unwrap_or (get_or os 0 None) x).now ≡ 18
  pub latch-size : length (unwrap_or (get_or os 1 None) y).now ≡ 1

module _ (x y : Bor (List ℕ)) (m : length x.now ≡ 18) (n : length y.now ≡ 1) where
  sized : (os : Places) → length os ≡ 2 → Sized format 0 os → Given os x y
  sized [] l h = absurd (omega arith)
  sized (o ∷ []) l h = absurd (omega arith)
  sized (None ∷ None ∷ []) l h = record { fifo = refl; latch = refl; fifo-size = m; latch-size = n }
  sized (None ∷ Some b ∷ []) l h = record { fifo = refl; latch = refl; fifo-size = m; latch-size = h.0 }
  sized (Some a ∷ None ∷ []) l h = record { fifo = refl; latch = refl; fifo-size = h.0; latch-size = n }
  sized (Some a ∷ Some b ∷ []) l h = record { fifo = refl; latch = refl; fifo-size = h.0; latch-size = h.1.0 }
  sized (o ∷ p ∷ q ∷ os) l h = absurd (omega arith)

  pub given : (os : Places) → Table format os → Given os x y
  given os t = sized os t.places t.sizes
