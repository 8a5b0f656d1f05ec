-- A worked case of the rules.
use Rattle.std.specs.Prelude.{◌≡◌, ℕ, true, length}
use Rattle.rtc.specs.Rtc.{register, reg_b, second, minute, hour, fresh, update}
use Rattle.rtc.specs.declared.state.RtcState.{RtcState}

-- the hour, minute and second that a state shows, as codes
abbrev pub time : RtcState → ℕ × ℕ × ℕ
time s = (register s hour.at, register s minute.at, register s second.at)

-- with the fresh B, an update at 23:59:59 gives 00:00:00 and sets the update flag
abbrev pub Midnight : Type 0
Midnight =
    (s : RtcState) → length s.registers ≡ 62 → register s reg_b ≡ register fresh reg_b → time s ≡ (0x23, 0x59, 0x59)
    → (time (update s) ≡ (0, 0, 0)) × ((update s).updated ≡ true)
