-- What is written of a sound state passes the check, and is adopted as that state.
use Rattle.std.proofs.Common.{◌≡◌, ℕ, suc, ◌+◌, ◌-◌, true, leb, length, drop, replicate, Some, None, refl, ap, ◌∙◌, arith}
use Rattle.std.proofs.lemmas.List.{take_at, drop_at}
use Rattle.std.proofs.lemmas.Bool.{le-leb}
use Rattle.device.specs.Format.{section_at}
use Rattle.uart.specs.Parts.{state}
use Rattle.uart.specs.Uart.{capacity, Sound}
use Rattle.uart.specs.Stream.{body, check_body, sub, check_sub, state_of, adopt_parts, format}
use Rattle.uart.specs.declared.state.UartState.{UartState}
use Rattle.uart.specs.declared.state.UartSubsection.{UartSubsection}
use Rattle.uart.specs.declared.state.UartSubsection.TheVariants.{Fifo, Latch}
use Rattle.uart.proofs.Fields.{flag_one, flag-le, zeros-none}
use Rattle.uart.proofs.Subsections.{present-needed}

module _ (s : UartState) (h : Sound s) where
  pub body-passes : check_body (body s) ≡ None
  body-passes =
      let i : leb s.ier 15 ≡ true = le-leb s.ier 15 (omega (arith, h.ier)) in
      let m : leb s.mcr 31 ≡ true = le-leb s.mcr 31 (omega (arith, h.mcr)) in
      simp (i, m, flag-le)

  beyond : drop (2 + length s.queue) (sub Fifo s) ≡ replicate (16 - length s.queue) 0
  beyond =
      let e : 2 + length s.queue ≡ suc (suc (length s.queue)) = omega arith in
      rw e (drop_at s.queue _ (length s.queue) refl)

  pub sub-passes : (u : UartSubsection) → check_sub u (sub u s) ≡ None
  sub-passes Fifo =
      let n : leb (length s.queue) (capacity s.fe) ≡ true = le-leb (length s.queue) (capacity s.fe) h.queue in
      simp (flag-le, flag_one, n, beyond, zeros-none)
  sub-passes Latch = simp flag-le

  back : state_of (body s) (sub Fifo s) (sub Latch s) ≡ s
  back = λ i.
      state s.dll s.dlm s.ier s.lcr s.mcr s.scr (flag_one s.oe i) (flag_one s.fe i) (flag_one s.ti i)
      (take_at s.queue (replicate (16 - length s.queue) 0) (length s.queue) refl i)

  pub returns : (v : ℕ) → format.adopt (section_at format v s) ≡ Some s
  returns v =
      let fifo = sub-passes Fifo in
      let latch = sub-passes Latch in
      (λ i. adopt_parts (body s) (present-needed format s 0 (omega arith) i) (present-needed format s 1 (omega arith) i))
      ∙ simp (body-passes, fifo, latch) (ap Some back)
