use Rattle.std.proofs.Common.{◌≡◌, ◌+◌, ◌-◌, ◌<◌, ◌≤◌, true, false, ◌∙◌, rules}
use Rattle.rtc.specs.Rtc.{code}
use Rattle.rtc.proofs.Codes.{decided}
use Rattle.rtc.proofs.time.Coding.find.Goals as goal

pub returns-clause-is : goal.returns-clause-is
returns-clause-is c =
    let b = c.args.self.binary in
    let k = c.args.range.start in
    let n = c.args.range.end - k in
    let m = c.if-self.n in
    let t = c.if-contains.then_some in
    let yes : t ≡ true → (k ≤ m) × (m < k + n) × (code b m ≡ c.args.byte) = search rules in
    let no : t ≡ false → k ≤ m → m < k + n → code b m ≡ c.args.byte → ⊥ = search rules in
    c.then_some.ensures ∙ decided b k n c.args.byte m t (search rules) yes no
