-- The worked boards, computed.
use Rattle.std.proofs.Common.{◌≡◌, ℕ, zero, suc, ◌≤◌, true, leb, List, [], ◌∷◌, length, None, Ok, refl, arith}
use Rattle.std.proofs.lemmas.Bool.{le-leb}
use Rattle.device.specs.Format.{is_served}
use Rattle.tree.specs.Tree.{Tree, State, leaves, fresh}
use Rattle.tree.specs.Carrying.{uncarried}
use Rattle.tree.specs.Stream.{stream}
use Rattle.board.specs.Guest.{reading}
use Rattle.board.specs.Saving.{saving, answer_of}
use Rattle.base.specs.Base.{base, calls}
use Rattle.rtc.proofs.Worked.{midnight}
use Rattle.worked.specs.Worked.{received, enabled, acknowledged, Worked}

-- P of every list of n numbers, number by number
abbrev Each : ℕ → (List ℕ → Type 0) → Type 0
Each zero P = P []
Each (suc n) P = (b : ℕ) → Each n (λ bs. P (b ∷ bs))

each : (n : ℕ) (P : List ℕ → Type 0) → Each n P → (bs : List ℕ) → length bs ≡ n → P bs
each zero P p [] l = p
each zero P p (b ∷ bs) l = absurd (omega arith)
each (suc n) P p [] l = absurd (omega arith)
each (suc n) P p (b ∷ bs) l = each n (λ cs. P (b ∷ cs)) (p b) bs (omega arith)

-- a save of a state that the edition carries, into a buffer that holds the stream
saves :
    (t : Tree) (s : State t) (e : ℕ) (buffer : List ℕ) → leb (leaves t) 16 ≡ true → is_served e ≡ true
    → uncarried t 0 e s ≡ None → length (stream t e s) ≤ length buffer → answer_of (saving t s e buffer) ≡ Ok (length (stream t e s))
saves t s e buffer few served carried room =
    let fits : leb (length (stream t e s)) (length buffer) ≡ true = le-leb _ _ room in
    rw (few, served, carried, fits)

pub worked : Worked
worked = record {
  pending = refl;
  overrun = each 17 (λ bs. (reading calls (received bs) 5).0 ≡ Ok 0x63) (λ a b c d e f g h i j k l m n o p q. refl);
  cleared = each 17 (λ bs. (reading calls (reading calls (received bs) 5).1 5).0 ≡ Ok 0x61) (λ a b c d e f g h i j k l m n o p q. refl);
  midnight = midnight;
  fresh-1 = λ buffer. saves base (fresh base) 1 buffer refl refl refl;
  fresh-2 = λ buffer. saves base (fresh base) 2 buffer refl refl refl;
  fresh-3 = λ buffer. saves base (fresh base) 3 buffer refl refl refl;
  enabled-1 = λ buffer. saves base enabled 1 buffer refl refl refl;
  acknowledged-1 = λ buffer. refl;
  acknowledged-2 = λ buffer. saves base acknowledged 2 buffer refl refl refl;
}
