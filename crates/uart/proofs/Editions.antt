-- What the editions know and carry: a subsection stays known, a fresh state needs none, and from edition 2 on all are known.
use Rattle.std.proofs.Common.{◌≡◌, ℕ, suc, ◌<◌, ◌≤◌, true, false, leb, sym, refl, ◌∙◌, arith}
use Rattle.std.proofs.lemmas.Bool.{false≢true, le-leb, leb-true}
use Rattle.device.specs.Format.{count, needs, Carries}
use Rattle.uart.specs.Uart.{fresh}
use Rattle.uart.specs.Stream.{known_from, numbered, format}
use Rattle.uart.specs.declared.state.UartState.{UartState}
use Rattle.uart.specs.declared.state.UartSubsection.{UartSubsection}
use Rattle.uart.specs.declared.state.UartSubsection.TheVariants.{Fifo, Latch}
use Rattle.uart.proofs.Numbers.{numbers}

pub stays-known : (e : ℕ) (u : UartSubsection) → leb (known_from u) e ≡ true → leb (known_from u) (suc e) ≡ true
stays-known e u h = le-leb (known_from u) (suc e) (omega (arith, leb-true (known_from u) e h))

fresh-needs : (k : ℕ) → k < count format → needs format fresh k ≡ false
fresh-needs = numbers (λ k. needs format fresh k ≡ false) refl refl

pub fresh-carried : (e : ℕ) → Carries format e fresh
fresh-carried e = record { knows = λ k l n. absurd (false≢true (sym (fresh-needs k l) ∙ n)); absent = refl }

known : (e : ℕ) → 2 ≤ e → (u : UartSubsection) → leb (known_from u) e ≡ true
known e h Fifo = le-leb 1 e (omega arith)
known e h Latch = le-leb 2 e h

pub all-carried : (e : ℕ) (s : UartState) → 2 ≤ e → Carries format e s
all-carried e s h = record { knows = λ k l n. known e h (numbered k); absent = refl }
