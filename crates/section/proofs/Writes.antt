-- One write after another into what is left of a buffer.
use Rattle.std.proofs.Common.{◌≡◌, ℕ, ◌+◌, ◌-◌, ◌≤◌, List, [], ◌++◌, length, take, drop, sym, ap, ◌∙◌, append_assoc, arith}
use borrow.Rule.Slice.PartMut.{put_mid}
use Rattle.std.proofs.lemmas.List.{append-nil, length-append, length-drop, take_at, drop_at, drop-drop, drop_all, take_rest}
use Rattle.section.specs.Layout.{over}

-- xs is the buffer with these bytes at its front, of which there are n
pub record Wrote (bytes : List ℕ) (n : ℕ) (buffer xs : List ℕ) : Type 0 where
  pub count : n ≡ length bytes
  pub room : n ≤ length buffer
  pub value : xs ≡ over bytes buffer

-- the first write, of bytes that are known to be b
pub start :
    {xs c : List ℕ} {n : ℕ} (buffer b : List ℕ) → c ≡ b → n ≡ length c → n ≤ length buffer → xs ≡ over c buffer
    → Wrote b n buffer xs
start buffer b e k h v = record { count = k ∙ ap length e; room = h; value = v ∙ ap (λ bs. over bs buffer) e }

-- a write of such bytes into what is left
pub step :
    {a buffer xs ys c : List ℕ} {n m : ℕ} (b : List ℕ) → c ≡ b → Wrote a n buffer xs → m ≡ length c → n + m ≤ length buffer
    → ys ≡ over c (take (length xs - n) (drop n xs)) → Wrote (a ++ b) (n + m) buffer (put_mid n (length xs - n) xs ys)
step {a} {buffer} {xs} {ys} {c} {n} {m} b e w k h v =
    let front : take n xs ≡ a = ap (take n) w.value ∙ take_at a (drop (length a) buffer) n (sym w.count) in
    let rest : drop n xs ≡ drop (length a) buffer =
    ap (drop n) w.value ∙ drop_at a (drop (length a) buffer) n (sym w.count) in
    let part : take (length xs - n) (drop n xs) ≡ drop (length a) buffer = take_rest xs n ∙ rest in
    let post : drop (length xs - n) (drop n xs) ≡ [] =
    drop_all (length xs - n) (drop n xs) (simp length-drop (omega arith)) in
    record {
      count = simp length-append (omega (arith, w.count, k, ap length e));
      room = h;
      value = simp (front, v, e, part, post, append-nil, append_assoc, length-append, drop-drop);
    }

-- the same bytes, count and buffer in another form
pub regroup :
    {a buffer xs ys : List ℕ} {n m : ℕ} (b : List ℕ) → Wrote a n buffer xs → m ≡ n → ys ≡ xs → a ≡ b → Wrote b m buffer ys
regroup {buffer = buffer} b w n v e =
    record {
      count = n ∙ w.count ∙ ap length e;
      room = omega (arith, n, w.room);
      value = v ∙ w.value ∙ ap (λ bs. over bs buffer) e;
    }
