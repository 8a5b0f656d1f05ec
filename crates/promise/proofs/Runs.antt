-- What calls leave as it was, what they keep sound, and one list of calls after another.
use Rattle.std.proofs.Common.{◌≡◌, ℕ, ◌≤◌, Bool, true, false, cond, ◌&&◌, ltb, leb, ◌⊎◌, List, [], ◌∷◌, ◌++◌, Ok, Err, Result, sym, refl, ap, ◌∙◌, subst, inl, inr}
use Rattle.std.specs.List.{AllByRecursion}
use Rattle.std.proofs.lemmas.Bool.{false≢true, ltb-true, leb-true, and_parts}
use Rattle.device.specs.Bytes.{Bytes}
use Rattle.device.specs.Format.{Served, is_served}
use Rattle.fault.specs.declared.Fault.{Fault}
use Rattle.tree.specs.Tree.{Tree, State, Sound, Lawful, fresh, width, leaves, has_input}
use Rattle.tree.specs.Calls.{Calls, Keeps}
use Rattle.tree.specs.Stream.{Sections}
use Rattle.board.specs.declared.call.Call.{Call as GuestCall}
use Rattle.board.specs.declared.call.Call.TheVariants as guest
use Rattle.board.specs.declared.call.Answer.{Answer as GuestAnswer}
use Rattle.board.specs.declared.call.Answer.TheVariants as answer
use Rattle.board.specs.Guest.{Outcome, answered, performing}
use Rattle.board.specs.Saving.{tested, saving}
use Rattle.reading.specs.Items.{Out, refused, got}
use Rattle.reading.specs.Reading.{whole}
use Rattle.reading.proofs.Whole.{returns}
use Rattle.promise.specs.Loading.{taking, loading}
use Rattle.promise.specs.Board.{Board, running, stopped, incoming, sent, RunningCall, Guest, Stop}
use Rattle.promise.specs.Board.{StoppedCall, Save, Resume, HandOver, Call, OfRunning, OfStopped, Load, Answer, NotSaved}
use Rattle.promise.specs.Board.{named, told, saved, loaded, on_running, on_stopped, step, run, admitted}
use Rattle.promise.specs.Board.{GuestBytes, BringsBytes, refuses}
use Rattle.promise.specs.Promise.{Made, SoundOn}
use Rattle.promise.proofs.Tests.{served-is, adopting-some}

-- ---- a refused call

saved-refused :
    (buffer after : List ℕ) (F : Fault) (r : Result (ℕ × List ℕ) Fault) → saved buffer r ≡ NotSaved F after
    → after ≡ buffer
saved-refused buffer after F (Ok r) h = cc
saved-refused buffer after F (Err e) h = cc

-- what holds of both sides of a test holds of it
either : {A : Type 0} (P : A → Type 0) (b : Bool) {x y : A} → (b ≡ true → P x) → (b ≡ false → P y) → P (cond b x y)
either P true h k = h refl
either P false h k = k refl

module _ (t : Tree) (c : Calls t) where
  -- where an outcome is a refusal, it leaves the devices as they were
  abbrev Still : {A : Type 0} → State t → (A → GuestAnswer) → Outcome A t → Type 0
  Still s f o = refuses (told (answered c s f o.0)) ≡ true → o.1 ≡ s

  guest-refused :
      (s : State t) (call : GuestCall) → refuses (told (performing c s call).0) ≡ true → (performing c s call).1 ≡ s
  guest-refused s (guest.Read a) h =
      either (Still s answer.Byte) (ltb a (width t)) (λ _ served. absurd (false≢true served)) (λ _ _. refl) h
  guest-refused s (guest.Write a b) h =
      either (Still s answer.Written) (ltb a (width t)) (λ _ served. absurd (false≢true served)) (λ _ _. refl) h
  guest-refused s (guest.Feed a b) h =
      either (Still s (λ _. answer.Done)) (ltb a (width t))
      (λ _.
      either (Still s (λ _. answer.Done)) (has_input t a) (λ _ served. absurd (false≢true served)) (λ _ _. refl))
      (λ _ _. refl) h
  guest-refused s (guest.Tick n) h =
      either (Still s (λ _. answer.Done)) (leb 1 n && leb n 65535) (λ _ served. absurd (false≢true served)) (λ _ _. refl) h
  guest-refused s guest.Lines h = refl

  loaded-refused : (r : Result (State t) Fault) → refuses (loaded t r).0 ≡ true → (loaded t r).1 ≡ incoming
  loaded-refused (Ok s) h = absurd (false≢true h)
  loaded-refused (Err F) h = refl

  running-refused :
      (s : State t) (call : RunningCall) → refuses (on_running t c s call).0 ≡ true
      → (on_running t c s call).1 ≡ running s
  running-refused s (Guest call) h = ap running (guest-refused s call h)
  running-refused s Stop h = absurd (false≢true h)

  stopped-refused :
      (s : State t) (call : StoppedCall) → refuses (on_stopped t c s call).0 ≡ true
      → (on_stopped t c s call).1 ≡ stopped s
  stopped-refused s (Save e buffer) h = refl
  stopped-refused s Resume h = absurd (false≢true h)
  stopped-refused s HandOver h = absurd (false≢true h)

  pub unchanged : (b : Board t) (call : Call) → refuses (step t c b call).0 ≡ true → (step t c b call).1 ≡ b
  unchanged (running s) (OfRunning call) h = running-refused s call h
  unchanged (running s) (OfStopped call) h = refl
  unchanged (running s) (Load e bytes) h = refl
  unchanged (stopped s) (OfRunning call) h = refl
  unchanged (stopped s) (OfStopped call) h = stopped-refused s call h
  unchanged (stopped s) (Load e bytes) h = refl
  unchanged incoming (OfRunning call) h = refl
  unchanged incoming (OfStopped call) h = refl
  unchanged incoming (Load e bytes) h = loaded-refused (loading t e bytes) h
  unchanged (sent s) call h = refl

  pub untouched :
      (b : Board t) (e : ℕ) (buffer after : List ℕ) (F : Fault)
      → (step t c b (OfStopped (Save e buffer))).0 ≡ NotSaved F after → after ≡ buffer
  untouched (running s) e buffer after F h = cc
  untouched (stopped s) e buffer after F h = saved-refused buffer after F (saving t s e buffer) h
  untouched incoming e buffer after F h = cc
  untouched (sent s) e buffer after F h = cc

-- ---- sound states

-- what a result gives, if anything, is P
abbrev Gives : {A : Type 0} → (A → Type 0) → Result A Fault → Type 0
Gives P (Ok a) = P a
Gives P (Err F) = Unit {0}

gives-tested :
    {A : Type 0} (P : A → Type 0) (b : Bool) (F : Fault) (r : Result A Fault) → (b ≡ true → Gives P r)
    → Gives P (tested b F r)
gives-tested P b F r h = go b refl
  where
    go : (x : Bool) → b ≡ x → Gives P (tested x F r)
    go true is = h is
    go false is = tt

module _ (t : Tree) (c : Calls t) (lawful : Lawful t) (keeps : Keeps t c) where
  loaded-sound : (r : Result (State t) Fault) → Gives (Sound t) r → SoundOn t (loaded t r).1
  loaded-sound (Ok s) h = h
  loaded-sound (Err F) h = tt

  taking-sound : (e : ℕ) (bytes : List ℕ) → leaves t ≤ 16 → Served e → Bytes bytes → Gives (Sound t) (taking t (whole t e bytes))
  taking-sound e bytes few served bs = go (whole t e bytes) refl
    where
      go : (o : Out (Sections t)) → whole t e bytes ≡ o → Gives (Sound t) (taking t o)
      go (refused F) is = tt
      go (got x n rest) is =
          let r = returns t lawful few e n bytes rest x served bs is in
          subst (Gives (Sound t)) (sym (adopting-some t [] 18 x r.0 r.1.adopts)) r.1.sound

  loading-sound : (e : ℕ) (bytes : List ℕ) → Bytes bytes → Gives (Sound t) (loading t e bytes)
  loading-sound e bytes bs =
      gives-tested (Sound t) (leb (leaves t) 16) _ _ λ few.
      gives-tested (Sound t) (is_served e) _ _ λ served.
      taking-sound e bytes (leb-true (leaves t) 16 few) (served-is e served) bs

  -- the devices are sound after an outcome
  abbrev SoundAfter : {A : Type 0} → Outcome A t → Type 0
  SoundAfter o = Sound t o.1

  guest-sound : (s : State t) (call : GuestCall) → GuestBytes call → Sound t s → Sound t (performing c s call).1
  guest-sound s (guest.Read a) w h =
      either SoundAfter (ltb a (width t)) (λ low. keeps.read s a (ltb-true a (width t) low) h) (λ _. h)
  guest-sound s (guest.Write a b) w h =
      either SoundAfter (ltb a (width t)) (λ low. keeps.write s a b (ltb-true a (width t) low) w h) (λ _. h)
  guest-sound s (guest.Feed a b) w h =
      either SoundAfter (ltb a (width t))
      (λ low.
      either SoundAfter (has_input t a) (λ input. keeps.feed s a b (ltb-true a (width t) low) input w h) (λ _. h))
      (λ _. h)
  guest-sound s (guest.Tick n) w h =
      either SoundAfter (leb 1 n && leb n 65535)
      (λ span.
      let p = and_parts (leb 1 n) (leb n 65535) span in
      keeps.tick s n (leb-true 1 n p.0) (leb-true n 65535 p.1) h)
      (λ _. h)
  guest-sound s guest.Lines w h = h

  stopped-sound : (s : State t) (call : StoppedCall) → Sound t s → SoundOn t (on_stopped t c s call).1
  stopped-sound s (Save e buffer) h = h
  stopped-sound s Resume h = h
  stopped-sound s HandOver h = h

  step-sound : (b : Board t) (call : Call) → BringsBytes call → SoundOn t b → SoundOn t (step t c b call).1
  step-sound (running s) (OfRunning (Guest call)) w h = guest-sound s call w h
  step-sound (running s) (OfRunning Stop) w h = h
  step-sound (running s) (OfStopped call) w h = h
  step-sound (running s) (Load e bytes) w h = h
  step-sound (stopped s) (OfRunning call) w h = h
  step-sound (stopped s) (OfStopped call) w h = stopped-sound s call h
  step-sound (stopped s) (Load e bytes) w h = h
  step-sound incoming (OfRunning call) w h = h
  step-sound incoming (OfStopped call) w h = h
  step-sound incoming (Load e bytes) w h = loaded-sound (loading t e bytes) (loading-sound e bytes w)
  step-sound (sent s) call w h = h

  run_sound : (b : Board t) (calls : List Call) → AllByRecursion BringsBytes calls → SoundOn t b → SoundOn t (run t c b calls).1
  run_sound b [] w h = h
  run_sound b (call ∷ calls) w h = run_sound (step t c b call).1 calls w.1 (step-sound b call w.0 h)

  pub sound : (b : Board t) (calls : List Call) → Made t b → AllByRecursion BringsBytes calls → SoundOn t (run t c b calls).1
  sound b calls made w = run_sound b calls w (go made.as-made)
    where
      go : (b ≡ running (fresh t)) ⊎ (b ≡ incoming) → SoundOn t b
      go (inl is) = subst (SoundOn t) (sym is) keeps.fresh
      go (inr is) = subst (SoundOn t) (sym is) tt

-- ---- one list of calls after another

and_assoc : (x y z : Bool) → (x && (y && z)) ≡ ((x && y) && z)
and_assoc true y z = refl
and_assoc false y z = refl

module _ (t : Tree) (c : Calls t) where
  pub answers-append :
      (b : Board t) (xs ys : List Call) → (run t c b (xs ++ ys)).0 ≡ (run t c b xs).0 ++ (run t c (run t c b xs).1 ys).0
  answers-append b [] ys = refl
  answers-append b (call ∷ xs) ys = ap (λ (l : List Answer). (step t c b call).0 ∷ l) (answers-append (step t c b call).1 xs ys)

  pub left-append : (b : Board t) (xs ys : List Call) → (run t c b (xs ++ ys)).1 ≡ (run t c (run t c b xs).1 ys).1
  left-append b [] ys = refl
  left-append b (call ∷ xs) ys = left-append (step t c b call).1 xs ys

  pub admitted-append :
      (b : Board t) (xs ys : List Call)
      → admitted t c b (xs ++ ys) ≡ (admitted t c b xs && admitted t c (run t c b xs).1 ys)
  admitted-append b [] ys = refl
  admitted-append b (call ∷ xs) ys =
      ap (λ (x : Bool). named b call && x) (admitted-append (step t c b call).1 xs ys)
      ∙ and_assoc (named b call) (admitted t c (step t c b call).1 xs) (admitted t c (run t c b (call ∷ xs)).1 ys)
