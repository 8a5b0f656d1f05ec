-- A board, what each call does to it, and what a list of calls does.
use Rattle.std.specs.Prelude.{ℕ, ◌<◌, Bool, true, false, ◌&&◌, List, [], ◌∷◌, Ok, Err, Result}
use Rattle.device.specs.Bytes.{Bytes}
use Rattle.fault.specs.declared.Fault.{Fault}
use Rattle.tree.specs.Tree.{Tree, State}
use Rattle.tree.specs.Calls.{Calls}
use Rattle.board.specs.declared.call.Call.{Call as GuestCall}
use Rattle.board.specs.declared.call.Call.TheVariants as guest
use Rattle.board.specs.declared.call.Answer.{Answer as GuestAnswer}
use Rattle.board.specs.Guest.{Outcome, performing}
use Rattle.board.specs.Saving.{saving}
use Rattle.promise.specs.Loading.{loading}

-- a board with the state of its devices; those of an incoming board are fresh
pub data Board (t : Tree) : Type 0 where
  running : State t → Board t
  stopped : State t → Board t
  incoming : Board t
  sent : State t → Board t

-- ---- calls, by the state that names them; a sent board's names none

pub data RunningCall : Type 0 where
  Guest : GuestCall → RunningCall
  Stop : RunningCall

pub data StoppedCall : Type 0 where
  Save : ℕ → List ℕ → StoppedCall  -- edition, buffer
  Resume : StoppedCall
  HandOver : StoppedCall

pub data Call : Type 0 where
  OfRunning : RunningCall → Call
  OfStopped : StoppedCall → Call
  Load : ℕ → List ℕ → Call  -- edition, stream; an incoming board's one call

pub data Answer : Type 0 where
  ToGuest : GuestAnswer → Answer
  Done : Answer  -- the board is stopped, runs, is sent or was loaded
  Saved : ℕ → List ℕ → Answer  -- the stream's length, and the buffer after
  NotSaved : Fault → List ℕ → Answer
  Refused : Fault → Answer
  OutOfTurn : Call → Answer  -- the board's state does not name the call: it is given back

-- whether a board's state names a call
abbrev pub named : {t : Tree} → Board t → Call → Bool
named (running s) (OfRunning call) = true
named (running s) (OfStopped call) = false
named (running s) (Load e bytes) = false
named (stopped s) (OfRunning call) = false
named (stopped s) (OfStopped call) = true
named (stopped s) (Load e bytes) = false
named incoming (OfRunning call) = false
named incoming (OfStopped call) = false
named incoming (Load e bytes) = true
named (sent s) call = false

-- ---- what the calls do

abbrev pub told : Result GuestAnswer Fault → Answer
told (Ok a) = ToGuest a
told (Err F) = Refused F

-- what a guest's call comes to on a board
abbrev pub serving : {t : Tree} → Outcome GuestAnswer t → Answer × Board t
serving o = (told o.0, running o.1)

abbrev pub saved : List ℕ → Result (ℕ × List ℕ) Fault → Answer
saved buffer (Ok r) = Saved r.0 r.1
saved buffer (Err F) = NotSaved F buffer

abbrev pub loaded : (t : Tree) → Result (State t) Fault → Answer × Board t
loaded t (Ok s) = (Done, stopped s)
loaded t (Err F) = (Refused F, incoming)

abbrev pub out_of_turn : {t : Tree} → Board t → Call → Answer × Board t
out_of_turn b call = (OutOfTurn call, b)

module _ (t : Tree) (c : Calls t) where
  abbrev pub on_running : State t → RunningCall → Answer × Board t
  on_running s (Guest call) = serving (performing c s call)
  on_running s Stop = (Done, stopped s)

  abbrev pub on_stopped : State t → StoppedCall → Answer × Board t
  on_stopped s (Save e buffer) = (saved buffer (saving t s e buffer), stopped s)
  on_stopped s Resume = (Done, running s)
  on_stopped s HandOver = (Done, sent s)

  -- the answer to a call, and the board after
  abbrev pub step : Board t → Call → Answer × Board t
  step (running s) (OfRunning call) = on_running s call
  step (running s) (OfStopped call) = out_of_turn (running s) (OfStopped call)
  step (running s) (Load e bytes) = out_of_turn (running s) (Load e bytes)
  step (stopped s) (OfRunning call) = out_of_turn (stopped s) (OfRunning call)
  step (stopped s) (OfStopped call) = on_stopped s call
  step (stopped s) (Load e bytes) = out_of_turn (stopped s) (Load e bytes)
  step incoming (OfRunning call) = out_of_turn incoming (OfRunning call)
  step incoming (OfStopped call) = out_of_turn incoming (OfStopped call)
  step incoming (Load e bytes) = loaded t (loading t e bytes)
  step (sent s) call = out_of_turn (sent s) call

  -- the answers, call by call, and the board at the end
  abbrev pub run : Board t → List Call → List Answer × Board t
  run b [] = ([], b)
  run b (call ∷ calls) =
      let r = step b call in
      let more = run r.1 calls in
      (r.0 ∷ more.0, more.1)

  -- each call is named at the state that those before it left
  abbrev pub admitted : Board t → List Call → Bool
  admitted b [] = true
  admitted b (call ∷ calls) = named b call && admitted (step b call).1 calls

-- ---- what is said of calls and answers

abbrev pub GuestBytes : GuestCall → Type 0
GuestBytes (guest.Read a) = Unit {0}
GuestBytes (guest.Write a b) = b < 256
GuestBytes (guest.Feed a b) = b < 256
GuestBytes (guest.Tick n) = Unit {0}
GuestBytes guest.Lines = Unit {0}

-- the bytes that a call brings in are bytes
abbrev pub BringsBytes : Call → Type 0
BringsBytes (OfRunning (Guest call)) = GuestBytes call
BringsBytes (OfRunning Stop) = Unit {0}
BringsBytes (OfStopped call) = Unit {0}
BringsBytes (Load e bytes) = Bytes bytes

-- whether an answer refuses its call: it names a fault, or gives the call back
abbrev pub refuses : Answer → Bool
refuses (ToGuest a) = false
refuses Done = false
refuses (Saved n buffer) = false
refuses (NotSaved F buffer) = true
refuses (Refused F) = true
refuses (OutOfTurn call) = true
