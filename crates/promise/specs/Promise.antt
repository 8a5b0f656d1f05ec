-- What boards of a tree promise about moving, over runs of calls.
use Rattle.std.specs.Prelude.{◌≡◌, ℕ, ◌<◌, ◌≤◌, true, ◌⊎◌, ◌↔◌, List, ◌∷◌, ◌++◌, length, take, drop, ◌≢◌}
use Rattle.std.specs.List.{AllByRecursion}
use Rattle.device.specs.Format.{latest, Served}
use Rattle.tree.specs.Tree.{Tree, State, Sound, fresh, leaves}
use Rattle.tree.specs.Calls.{Calls}
use Rattle.fault.specs.declared.Fault.{Fault}
use Rattle.fault.specs.declared.Numbers.{Numbers}
use Rattle.fault.specs.Numbers.{six, numbers_of}
use Rattle.tree.specs.Stream.{stream}
use Rattle.promise.specs.Board.{Board, running, stopped, incoming, sent, Call, OfStopped, Save, Load, Answer, Done, Saved}
use Rattle.promise.specs.Board.{NotSaved, Refused, step, run, admitted, BringsBytes, refuses}
use Rattle.promise.specs.Editions.{placed, Agree, NamesOdds}

-- a board as it is made of a tree, which has at most 16 leaves: running or incoming, its devices fresh
pub record Made (t : Tree) (b : Board t) : Type 0 where
  pub few : leaves t ≤ 16
  pub as-made : (b ≡ running (fresh t)) ⊎ (b ≡ incoming)

-- the devices of a board are in a sound state
abbrev pub SoundOn : (t : Tree) → Board t → Type 0
SoundOn t (running s) = Sound t s
SoundOn t (stopped s) = Sound t s
SoundOn t incoming = Unit {0}
SoundOn t (sent s) = Sound t s

-- a refusal by a fault of these numbers
abbrev pub RefusedBy : Answer → Numbers → Type 0
RefusedBy a m = (F : Fault) × (a ≡ Refused F) × (numbers_of F ≡ m)

-- the same of a save, whose buffer is as it was
abbrev pub NotSavedBy : Answer → List ℕ → Numbers → Type 0
NotSavedBy a buffer m = (F : Fault) × (a ≡ NotSaved F buffer) × (numbers_of F ≡ m)

module _ (t : Tree) (c : Calls t) where
  -- the answer to a call and to a list of calls, and the board after
  abbrev pub answer : Board t → Call → Answer
  answer b call = (step t c b call).0

  abbrev pub next : Board t → Call → Board t
  next b call = (step t c b call).1

  abbrev pub answers : Board t → List Call → List Answer
  answers b calls = (run t c b calls).0

  abbrev pub left : Board t → List Call → Board t
  left b calls = (run t c b calls).1

  -- admitted calls on a board made of the tree, which leave it stopped in state s
  pub record Stops (b : Board t) (calls : List Call) (s : State t) : Type 0 where
    pub made : Made t b
    pub bytes : AllByRecursion BringsBytes calls
    pub turns : admitted t c b calls ≡ true
    pub stops : left b calls ≡ stopped s

  -- A save at the latest edition is refused only where the buffer is too short for the stream.
  pub record Saves (s : State t) (buffer : List ℕ) : Type 0 where
    pub saved :
        length (stream t latest s) ≤ length buffer
        → answer (stopped s) (OfStopped (Save latest buffer))
        ≡ Saved (length (stream t latest s)) (stream t latest s ++ drop (length (stream t latest s)) buffer)
    pub short :
        length buffer < length (stream t latest s)
        → NotSavedBy (answer (stopped s) (OfStopped (Save latest buffer))) buffer
        (six 6 1 255 255 0 (length (stream t latest s)))

  -- More calls after an accepted load, resume the first or not: they are admitted and answered as they are on the board
  -- that was saved, and leave the same board.
  pub record Alike (b : Board t) (calls : List Call) (save load : Call) (saved : Answer) (more : List Call) : Type 0 where
    pub turns : admitted t c incoming (load ∷ more) ≡ admitted t c b (calls ++ (save ∷ more))
    pub ends : left incoming (load ∷ more) ≡ left b (calls ++ (save ∷ more))
    pub after : List Answer
    pub here : answers b (calls ++ (save ∷ more)) ≡ answers b calls ++ (saved ∷ after)
    pub there : answers incoming (load ∷ more) ≡ Done ∷ after

  -- A load of state s, saved at e, is refused at e' by fault F: it names the first section at odds, and the board is as it
  -- was.
  pub record Turned (s : State t) (e e' : ℕ) (load : Call) (F : Fault) : Type 0 where
    pub refused : answer incoming load ≡ Refused F
    pub number : ((numbers_of F).number ≡ 12) ⊎ ((numbers_of F).number ≡ 13)
    pub odds : NamesOdds e e' (placed t s) F
    pub still : next incoming load ≡ incoming

  -- What edition e saved of state s, loaded at edition e'.
  pub record Moves (b : Board t) (calls : List Call) (s : State t) (e e' : ℕ) (save load : Call) (saved : Answer) : Type 0 where
    -- it is accepted exactly where e' takes each section's version and knows each subsection sent
    pub accepted : (answer incoming load ≡ Done) ↔ Agree e e' (placed t s)
    pub alike : answer incoming load ≡ Done → (more : List Call) → Alike b calls save load saved more
    pub turned : (answer incoming load ≢ Done) → (F : Fault) × Turned s e e' load F

  pub record Promise : Type 0 where
    -- a refused call leaves the board as it was, and a buffer too
    pub unchanged : (b : Board t) (call : Call) → refuses (answer b call) ≡ true → next b call ≡ b
    pub untouched :
        (b : Board t) (e : ℕ) (buffer after : List ℕ) (F : Fault)
        → answer b (OfStopped (Save e buffer)) ≡ NotSaved F after → after ≡ buffer
    -- calls keep the devices sound
    pub sound : (b : Board t) (calls : List Call) → Made t b → AllByRecursion BringsBytes calls → SoundOn t (left b calls)
    -- no other editions are served
    pub editions :
        (s : State t) (e : ℕ) (bytes : List ℕ) → leaves t ≤ 16 → (Served e → ⊥)
        → NotSavedBy (answer (stopped s) (OfStopped (Save e bytes))) bytes (six 4 1 255 255 0 e)
        × RefusedBy (answer incoming (Load e bytes)) (six 4 1 255 255 0 e)
    -- what can be stopped can be saved, and what is saved moves
    pub saves : (b : Board t) (calls : List Call) (s : State t) → Stops b calls s → (buffer : List ℕ) → Saves s buffer
    pub moves :
        (b : Board t) (calls : List Call) (s : State t) → Stops b calls s
        → (e e' n : ℕ) (buffer after : List ℕ) → answer (stopped s) (OfStopped (Save e buffer)) ≡ Saved n after → Served e'
        → Moves b calls s e e' (OfStopped (Save e buffer)) (Load e' (take n after)) (Saved n after)
