-- The promise of boards, for every lawful tree whose calls keep it sound.
use Rattle.std.proofs.Common.{◌≡◌, ℕ, ◌≤◌, Bool, ◌&&◌, leb, ◌⊎◌, List, ◌∷◌, ◌++◌, length, take, Result, sym, refl, ap, ◌∙◌, subst, inl, inr, arith}
use Rattle.std.proofs.lemmas.Bool.{cond-true, cond-false, le-leb, lt-leb}
use Rattle.device.specs.Format.{latest, Served}
use Rattle.tree.specs.Tree.{Tree, State, Sound, Lawful, Carried, leaves}
use Rattle.tree.specs.Calls.{Calls, Keeps}
use Rattle.fault.specs.declared.Fault.{Fault}
use Rattle.fault.specs.declared.Fault.TheVariants as fault
use Rattle.fault.specs.Numbers.{numbers_of}
use Rattle.tree.specs.Stream.{written, stream}
use Rattle.promise.specs.Loading.{loading}
use Rattle.promise.specs.Board.{Board, stopped, incoming, Call, OfStopped, Save, Load, Answer, Done, Saved, Refused}
use Rattle.promise.specs.Board.{saved, loaded, step, admitted}
use Rattle.promise.specs.Editions.{placed}
use Rattle.promise.specs.Promise.{SoundOn, answer, answers, left, Stops, Saves, Alike, Moves, Promise}
use Rattle.promise.proofs.Leaves.{Sending}
use Rattle.promise.proofs.Moving.{first-number, Accepted, Refused as TurnedAway, moves}
use Rattle.tree.proofs.Carrying.{none-carried}
use Rattle.promise.proofs.Carrying.{carriage}
use Rattle.promise.proofs.Tests.{no-edition, Wrote, wrote, comes-to-put, load-takes, load-refuses}
use Rattle.promise.proofs.Runs.{unchanged, untouched, sound, answers-append, left-append, admitted-append}

saves-at : (t : Tree) (c : Calls t) (s : State t) (buffer : List ℕ) → leaves t ≤ 16 → Carried t latest s → Saves t c s buffer
saves-at t c s buffer few carried =
    let bytes = stream t latest s in
    let put = comes-to-put t s latest buffer few (record { low = omega arith; high = omega arith }) carried in
    let fits = le-leb (length bytes) (length buffer) in
    let lacks = lt-leb (length bytes) (length buffer) in
    record {
      saved = λ room. ap (saved buffer) (put ∙ cond-true (leb (length bytes) (length buffer)) _ _ (fits room));
      short = λ lack. (
        fault.ShortBuffer (length bytes),
        ap (saved buffer) (put ∙ cond-false (leb (length bytes) (length buffer)) _ _ (lacks lack)),
        refl,
      );
    }

refused-done : (F : Fault) → Refused F ≡ Done → ⊥
refused-done F h = let z : ◌≡◌ {A = ℕ} 0 1 = cc in omega arith

module _ (t : Tree) (c : Calls t) (lawful : Lawful t) (keeps : Keeps t c) where
  stopped-sound : (b : Board t) (calls : List Call) (s : State t) → Stops t c b calls s → Sound t s
  stopped-sound b calls s h = subst (SoundOn t) h.stops (sound t c lawful keeps b calls h.made h.bytes)

  -- a stopped board saved its state as the first n bytes of a buffer, which are offered to edition e'
  module _
      (b : Board t) (calls : List Call) (s : State t) (stops : Stops t c b calls s) (e e' n : ℕ) (buffer after : List ℕ)
      (is : answer t c (stopped s) (OfStopped (Save e buffer)) ≡ Saved n after) (reads : Served e')
    where
      abbrev save : Call
      save = OfStopped (Save e buffer)

      abbrev load : Call
      load = Load e' (take n after)

      did : Wrote t s e n after
      did = wrote t s e n buffer after is

      few : leaves t ≤ 16
      few = stops.made.few

      sending : Sending t e e' s
      sending =
          let good = stopped-sound b calls s stops in
          record {
            lawful = lawful;
            writes = did.edition;
            reads = reads;
            sound = good;
            carried = none-carried t lawful 0 e s good did.none;
          }

      same_load : loading t e' (take n after) ≡ loading t e' (stream t e s)
      same_load = ap (loading t e') did.front

      alike : step t c incoming load ≡ (Done, stopped s) → (more : List Call) → Alike t c b calls save load (Saved n after) more
      alike took more =
          record {
            turns =
                ap (λ (o : Answer × Board t). admitted t c o.1 more) took
                ∙ sym (admitted-append t c b calls (save ∷ more)
                ∙ ap (λ (x : Bool). x && admitted t c (left t c b calls) (save ∷ more)) stops.turns
                ∙ ap (λ (d : Board t). admitted t c d (save ∷ more)) stops.stops);
            ends =
                ap (λ (o : Answer × Board t). left t c o.1 more) took
                ∙ sym (left-append t c b calls (save ∷ more) ∙ ap (λ (d : Board t). left t c d (save ∷ more)) stops.stops);
            after = answers t c (stopped s) more;
            here =
                answers-append t c b calls (save ∷ more)
                ∙ ap (λ (d : Board t). answers t c b calls ++ answers t c d (save ∷ more)) stops.stops
                ∙ ap (λ (a : Answer). answers t c b calls ++ (a ∷ answers t c (stopped s) more)) is;
            there = ap (λ (o : Answer × Board t). o.0 ∷ answers t c o.1 more) took;
          }

      was-taken : Accepted e e' t s → Moves t c b calls s e e' save load (Saved n after)
      was-taken r =
          let state = load-takes t e' few reads (stream t e s) (written t e s) _ _ s r.is r.adopts in
          let took : step t c incoming load ≡ (Done, stopped s) = ap (loaded t) (same_load ∙ state) in
          let done : answer t c incoming load ≡ Done = ap (λ (o : Answer × Board t). o.0) took in
          record { accepted = (λ _. r.agree, λ _. done); alike = λ _. alike took; turned = λ not. absurd (not done) }

      was-turned : TurnedAway e e' t s → Moves t c b calls s e e' save load (Saved n after)
      was-turned r =
          let F = r.fault in
          let refusal = load-refuses t e' few reads (stream t e s) F r.is in
          let met : step t c incoming load ≡ (Refused F, incoming) = ap (loaded t) (same_load ∙ refusal) in
          let refused : answer t c incoming load ≡ Refused F = ap (λ (o : Answer × Board t). o.0) met in
          let never : answer t c incoming load ≡ Done → ⊥ = λ h. refused-done F (sym refused ∙ h) in
          record {
            accepted = (λ h. absurd (never h), λ a. absurd (r.apart a));
            alike = λ h. absurd (never h);
            turned = λ _. (
              F,
              record {
                refused = refused;
                number = first-number e e' (placed t s) (numbers_of F).section (numbers_of F) r.odds.first;
                odds = r.odds;
                still = ap (λ (o : Answer × Board t). o.1) met;
              },
            );
          }

      moves-on : Moves t c b calls s e e' save load (Saved n after)
      moves-on = go (moves e e' t s few sending)
        where
          go : Accepted e e' t s ⊎ TurnedAway e e' t s → Moves t c b calls s e e' save load (Saved n after)
          go (inl r) = was-taken r
          go (inr r) = was-turned r

  pub promise : Promise t c
  promise =
      record {
        unchanged = unchanged t c;
        untouched = untouched t c;
        sound = sound t c lawful keeps;
        editions = λ s e bytes few other. (
          (fault.NoEdition e, ap (saved bytes) (no-edition t e _ few other), refl),
          (fault.NoEdition e, ap (λ (r : Result (State t) Fault). (loaded t r).0) (no-edition t e _ few other), refl),
        );
        saves = λ b calls s stops buffer.
            saves-at t c s buffer stops.made.few ((carriage t lawful).every s (stopped-sound b calls s stops));
        moves = moves-on;
      }
