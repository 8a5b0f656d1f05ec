use Rattle.std.proofs.Common.{ℕ, set, sym, subst, arith}
use Rattle.rtc.specs.Rtc.{Sound, ticks_per_second}
use Rattle.rtc.specs.State.{with_registers}
use Rattle.rtc.proofs.Soundness.{storing-sound}
use Rattle.rtc.proofs.RtcDevice.write.Goals as goal

pub invariant_of-self-in-Held : goal.invariant_of-self-in-Held
invariant_of-self-in-Held c =
    let d = c.args.self.now in
    let k = c.in-Held.place in
    record {
      sound = subst (λ (x : ℕ). Sound ticks_per_second (with_registers d.state (set d.state.registers k x))) (sym c.stored.ensures)
          (storing-sound ticks_per_second d.state k c.args.byte (omega arith) d.sound);
    }
