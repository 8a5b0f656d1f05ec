-- The worked cases.
use Rattle.std.proofs.Common.{◌≡◌, ℕ, Bool, true, false, sym, refl, ap, ◌∙◌, arith, lit≤}
use Rattle.device.specs.Bytes.{bit}
use Rattle.rtc.specs.Rtc.{binary, code, update}
use Rattle.rtc.specs.Time.{Shows}
use Rattle.rtc.specs.Worked.{Midnight}
use Rattle.rtc.proofs.DayTime.{keeps_time}

code-zero : (b : Bool) (n : ℕ) → n ≡ 0 → code b n ≡ 0
code-zero true n e = e
code-zero false n e = omega arith

pub midnight : Midnight
midnight s n b t =
    let mode : false ≡ binary s = sym (ap (bit 2) b) in
    let shows : Shows s 86399 =
    record {
      h = 23;
      m = 59;
      sec = 59;
      time = refl;
      spans = (lit≤ tt, lit≤ tt, lit≤ tt);
      hours = ap (λ (x : ℕ × ℕ × ℕ). x.0) t ∙ ap (λ (x : Bool). code x 23) mode;
      minutes = ap (λ (x : ℕ × ℕ × ℕ). x.1) t ∙ ap (λ (x : Bool). code x 59) mode;
      seconds = ap (λ (x : ℕ × ℕ × ℕ). x.2) t ∙ ap (λ (x : Bool). code x 59) mode;
    } in
    let later = keeps_time s n in
    let z : Shows (update s) 0 = later.time 86399 shows in
    let c = binary (update s) in
    let hours = z.hours ∙ code-zero c z.h (omega (arith, z.time)) in
    let minutes = z.minutes ∙ code-zero c z.m (omega (arith, z.time)) in
    let seconds = z.seconds ∙ code-zero c z.sec (omega (arith, z.time)) in
    (λ i. (hours i, minutes i, seconds i), later.flag)
