-- One write after another by a writer.
use Rattle.std.proofs.Common.{◌≡◌, ℕ, ◌+◌, List, [], ◌++◌, length, take, drop, refl, ap, ◌∙◌, append_assoc, add_assoc, add-zero, arith}
use Rattle.std.proofs.lemmas.Grind.{common_steps}
use Rattle.std.proofs.lemmas.List.{length-append, length-take, length-drop, drop-drop, take-append-drop}
use Rattle.section.specs.declared.buffer.Writer.{Writer}
use Rattle.section.specs.Layout.{over}
use Rattle.section.specs.Writer.{HasRoom, with_bytes}

pub with_bytes-nothing : (w : Writer) → with_bytes w [] ≡ w
unfolding with_bytes
with_bytes-nothing w = rw (take-append-drop, add-zero) refl

module _ (w : Writer) (a : List ℕ) where
  pub written-with_bytes : (with_bytes w a).written ≡ w.written + length a
  unfolding with_bytes
  written-with_bytes = refl

  pub name-with_bytes : (with_bytes w a).out.ghost_name ≡ w.out.ghost_name
  unfolding with_bytes
  name-with_bytes = refl

  pub length-with_bytes : HasRoom w (length a) → length (with_bytes w a).out.now ≡ length w.out.now
  unfolding with_bytes
  length-with_bytes h = simp (length-append, length-take, length-drop) (omega arith)

  pub first-with_bytes : w.written ≡ 0 → (with_bytes w a).out.now ≡ over a w.out.now
  unfolding with_bytes
  first-with_bytes e = simp e

  pub with_bytes-with_bytes : (b : List ℕ) → with_bytes (with_bytes w a) b ≡ with_bytes w (a ++ b)
  unfolding with_bytes
  with_bytes-with_bytes b =
      let n = w.written in
      let front = take n w.out.now in
      let behind = drop (length a) (drop n w.out.now) in
      let written : take (n + length a) (front ++ (a ++ behind)) ≡ front ++ a = grind (arith, common_steps) in
      let left : drop (n + length a) (front ++ (a ++ behind)) ≡ behind = grind (arith, common_steps) in
      rw (written, left) (simp (append_assoc, drop-drop, length-append, add_assoc))

-- one write, and then another
pub then :
    (u : Writer) (a b : List ℕ) {v w : Writer} → v ≡ with_bytes u a → w ≡ with_bytes v b → w ≡ with_bytes u (a ++ b)
then u a b p q = q ∙ ap (λ (x : Writer). with_bytes x b) p ∙ with_bytes-with_bytes u a b

pub ruleset writes =
    (with_bytes-nothing, written-with_bytes, name-with_bytes, length-with_bytes, first-with_bytes, with_bytes-with_bytes)
