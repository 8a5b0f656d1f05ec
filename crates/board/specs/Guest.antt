-- What a running board answers to its guest, and the state of its devices after. A refusal leaves them as they were.
use Rattle.std.specs.Prelude.{ℕ, ◌%◌, min, cond, ◌&&◌, Ok, Err, Option, Result, nat_le, nat_lt}
use Rattle.fault.specs.declared.Fault.{Fault}
use Rattle.fault.specs.declared.Fault.TheVariants.{NoAddress, NoInput, TickCount, TooManyLeaves}
use Rattle.tree.specs.Tree.{Tree, State, leaves, width, fresh, route, has_input, lines}
use Rattle.tree.specs.Calls.{Calls}
use Rattle.board.specs.declared.call.Call.{Call}
use Rattle.board.specs.declared.call.Call.TheVariants.{Read, Write, Feed, Tick, Lines}
use Rattle.board.specs.declared.call.Answer.{Answer}
use Rattle.board.specs.declared.call.Answer.TheVariants as answer

-- the state of a board's devices as it is made of a tree of at most 16 leaves: fresh
abbrev pub making : (t : Tree) → Result (State t) Fault
making t = cond (nat_le (leaves t) 16) (Ok (fresh t)) (Err (TooManyLeaves (min (leaves t) 255)))

-- a result by what its two cases stand for
abbrev pub mapped : {X Y A B : Type 0} → (X → A) → (Y → B) → Result X Y → Result A B
mapped f g (Ok x) = Ok (f x)
mapped f g (Err y) = Err (g y)

-- whether a tree has an address
abbrev pub Addressed : Tree → ℕ → Result (Unit {0}) Fault
Addressed t a = cond (nat_lt a (width t)) (Ok tt) (Err (NoAddress a))

-- an answer and the devices after, or a refusal
abbrev pub Outcome : Type 0 → Tree → Type 0
Outcome A t = Result A Fault × State t

module _ {t : Tree} (c : Calls t) (s : State t) where
  abbrev pub served : {A : Type 0} → A × State t → Outcome A t
  served p = (Ok p.0, p.1)

  abbrev pub refused : {A : Type 0} → Fault → Outcome A t
  refused f = (Err f, s)

  -- a call at an address that the board has
  abbrev pub at : {A : Type 0} → ℕ → Outcome A t → Outcome A t
  at a there = cond (nat_lt a (width t)) there (refused (NoAddress a))

  abbrev pub reading : ℕ → Outcome ℕ t
  reading a = at a (served (c.read s a))

  abbrev pub writing : ℕ → ℕ → Outcome (Option ℕ) t
  writing a b = at a (served (c.write s a b))

  abbrev pub feeding : ℕ → ℕ → Outcome (Unit {0}) t
  feeding a b = at a (cond (has_input t a) (served (tt, c.feed s a b)) (refused (NoInput (route t a).0)))

  abbrev pub ticking : ℕ → Outcome (Unit {0}) t
  ticking n = cond (nat_le 1 n && nat_le n 65535) (served (tt, c.tick s n)) (refused (TickCount n))

  -- the lines of the first sixteen leaves, which are all that a board has
  abbrev pub lining : ℕ
  lining = lines t s % 65536

  -- the same outcome, as an answer to a call
  abbrev pub answered : {A : Type 0} → (A → Answer) → Result A Fault → Result Answer Fault
  answered f (Ok a) = Ok (f a)
  answered f (Err e) = Err e

  abbrev pub answering : {A : Type 0} → (A → Answer) → Outcome A t → Outcome Answer t
  answering f o = (answered f o.0, o.1)

  -- what a call of the guest comes to
  abbrev pub performing : Call → Outcome Answer t
  performing (Read a) = answering answer.Byte (reading a)
  performing (Write a b) = answering answer.Written (writing a b)
  performing (Feed a b) = answering (λ _. answer.Done) (feeding a b)
  performing (Tick n) = answering (λ _. answer.Done) (ticking n)
  performing Lines = (Ok (answer.Lines lining), s)
