-- What a save says of the state: it is refused for its state exactly where the edition does not carry it.
use Rattle.std.proofs.Common.{◌≡◌, ℕ, ◌≤◌, Bool, true, false, leb, ◌↔◌, List, length, Some, None, Ok, Err, Option, Result, sym, refl, ap, ◌∙◌, subst, arith}
use Rattle.std.proofs.lemmas.Bool.{cond-true, cond-false, le-leb, lt-leb, and_from}
use Rattle.std.proofs.lemmas.Bool.Decides.{nat_tests}
use Rattle.device.specs.Format.{latest, Served, is_served}
use Rattle.fault.specs.declared.Fault.{Fault}
use Rattle.fault.specs.declared.Fault.TheVariants.{ShortBuffer}
use Rattle.fault.specs.Numbers.{numbers_of}
use Rattle.tree.specs.Carrying.{uncarried}
use Rattle.tree.specs.Stream.{stream}
use Rattle.tree.specs.Tree.{Tree, State, Sound, Lawful, Carried, leaves}
use Rattle.tree.proofs.Carrying.{carried_none, none-carried, latest-carried, uncarried-fives}
use Rattle.board.specs.Saving.{tested, barred, put, saving, answer_of, NotCarried, OnlyRoom, Judged}

-- what putting bytes answers is not fault 5
put_other :
    (b : Bool) (n : ℕ) (p : ℕ × List ℕ) (F : Fault) → answer_of (tested b (ShortBuffer n) (Ok p)) ≡ Err F
    → (numbers_of F).number ≡ 5 → ⊥
put_other b n p F h five = grind (arith, nat_tests)

module _
    (t : Tree) (s : State t) (e : ℕ) (buffer : List ℕ) (r : Result ℕ Fault) (answer : r ≡ answer_of (saving t s e buffer))
    (few : leaves t ≤ 16)
  where
    -- past the tests of leaves and edition
    past : Served e → r ≡ answer_of (barred (uncarried t 0 e s) (put buffer (stream t e s)))
    past is =
        let edition = and_from (leb 1 e) (leb e latest) (le-leb 1 e is.low) (le-leb e latest is.high) in
        answer
        ∙ ap answer_of (cond-true (leb (leaves t) 16) _ _ (le-leb (leaves t) 16 few) ∙ cond-true (is_served e) _ _ edition)

    -- past the test of the state, of which o is known
    tested-by : (o : Option Fault) → uncarried t 0 e s ≡ o → Served e → r ≡ answer_of (barred o (put buffer (stream t e s)))
    tested-by o h is = past is ∙ ap (λ (x : Option Fault). answer_of (barred x (put buffer (stream t e s)))) h

    whole : Served e → Carried t e s → r ≡ answer_of (put buffer (stream t e s))
    whole is c = tested-by None (carried_none t 0 e s c) is

    carried : Served e → Carried t e s → OnlyRoom t s e buffer r
    carried is c =
        let n = length (stream t e s) in
        record {
          fits = λ h. whole is c ∙ ap answer_of (cond-true (leb n (length buffer)) _ _ (le-leb n (length buffer) h));
          short = λ h. whole is c ∙ ap answer_of (cond-false (leb n (length buffer)) _ _ (lt-leb n (length buffer) h));
        }

    barred-by : (o : Option Fault) → uncarried t 0 e s ≡ o → Lawful t → Sound t s → Served e → (Carried t e s → ⊥) → NotCarried r
    barred-by None h lawful sound is other = absurd (other (none-carried t lawful 0 e s sound h))
    barred-by (Some F) h lawful sound is other = (F, tested-by (Some F) h is, uncarried-fives t 0 e s F h)

    refused : Lawful t → Sound t s → Served e → NotCarried r ↔ (Carried t e s → ⊥)
    refused lawful sound is =
        let room = leb (length (stream t e s)) (length buffer) in (
          λ not c. put_other room _ _ not.0 (sym (whole is c) ∙ not.1) not.2,
          barred-by (uncarried t 0 e s) refl lawful sound is,
        )

    highest : Lawful t → Sound t s → e ≡ latest → OnlyRoom t s e buffer r
    highest lawful sound top =
        let all = subst (λ (n : ℕ). Carried t n s) (sym top) (latest-carried t s lawful sound) in
        carried (record { low = omega arith; high = omega arith }) all

pub judged :
    (t : Tree) (s : State t) (e : ℕ) (buffer : List ℕ) (r : Result ℕ Fault) → r ≡ answer_of (saving t s e buffer) → Lawful t
    → Sound t s → leaves t ≤ 16 → Judged t s e buffer r
judged t s e buffer r answer lawful sound few =
    record {
      carried = carried t s e buffer r answer few;
      refused = refused t s e buffer r answer few lawful sound;
      highest = highest t s e buffer r answer few lawful sound;
    }
