-- `same` answers whether two lists are equal.
use Rattle.std.proofs.Common.{◌≡◌, ℕ, List, Decides, rules}
use Rattle.std.proofs.lemmas.Slice.Eq.{compares_Decides}
use Rattle.device.specs.Bytes.{same}

pub same-decides : (xs ys : List ℕ) → Decides (same xs ys) (xs ≡ ys)
same-decides = compares_Decides same (search rules)
