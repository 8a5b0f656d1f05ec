-- What an update does to the time of day.
use Rattle.std.specs.Prelude.{◌≡◌, ℕ, ◌+◌, ◌*◌, ◌%◌, ◌<◌, true, length, ◌≢◌}
use Rattle.rtc.specs.Rtc.{register, binary, code, second, minute, hour, update}
use Rattle.rtc.specs.declared.state.RtcState.{RtcState}

-- The clock shows the time of day t, in seconds since midnight: hour, minute and second stand in their registers as codes.
pub record Shows (s : RtcState) (t : ℕ) : Type 0 where
  pub h : ℕ
  pub m : ℕ
  pub sec : ℕ
  pub time : 3600 * h + 60 * m + sec ≡ t
  pub spans : (h < 24) × (m < 60) × (sec < 60)
  pub hours : register s hour.at ≡ code (binary s) h
  pub minutes : register s minute.at ≡ code (binary s) m
  pub seconds : register s second.at ≡ code (binary s) sec

-- State s' is a second later than s: it shows the next second of the day, the update flag is set, and all else is the same.
pub record SecondLater (s s' : RtcState) : Type 0 where
  pub time : (t : ℕ) → Shows s t → Shows s' ((t + 1) % 86400)
  pub flag : s'.updated ≡ true
  pub registers :
      (r : ℕ) → (r ≢ hour.at) → (r ≢ minute.at) → (r ≢ second.at) → register s' r ≡ register s r
  pub index : s'.index ≡ s.index
  pub phase : s'.phase ≡ s.phase

-- an update moves the clock on by a second, in either coding
abbrev pub KeepsTime : Type 0
KeepsTime = (s : RtcState) → length s.registers ≡ 62 → SecondLater s (update s)
