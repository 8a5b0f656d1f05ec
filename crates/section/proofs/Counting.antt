-- Counting the leaves of a name.
use Rattle.std.proofs.Common.{◌≡◌, ℕ, suc, Bool, cond, List, map, Decides, arith, ◌+◌, sym, refl, ap, ◌∙◌, ⊎_elim}
use Rattle.std.specs.Borrow.{Bor}
use Rattle.std.specs.List.{count_by}
use Rattle.std.proofs.lemmas.List.Recursion.{is_count_by}
use Rattle.std.proofs.lemmas.Bool.{cases_Bool, both_ways}
use Rattle.device.specs.Bytes.{same}
use Rattle.section.specs.Layout.{times}
use Rattle.section.proofs.Comparing.{same-decides}

-- a test that decides whether two lists are equal answers as `same` does
pub decides-same : (xs ys : List ℕ) (r : Bool) → Decides r (ys ≡ xs) → same xs ys ≡ r
decides-same xs ys r d =
    let e = same-decides xs ys in
    ⊎_elim
    (λ t. e.1 (sym (d.0 t)) ∙ sym t)
    (λ f. ⊎_elim (λ t. absurd (both_ways r f (d.1 (sym (e.0 t))))) (λ g. g ∙ sym f) (cases_Bool (same xs ys)))
    (cases_Bool r)

-- the names that are that name, counted as they stand in a program
pub times-counted :
    (name : List ℕ) (names : List (Bor (List ℕ)))
    → count_by (λ known. same name known.now) names ≡ times name (map (λ known. known.now) names)
times-counted name names =
    let F : List (Bor (List ℕ)) → ℕ = λ ns. times name (map (λ n. n.now) ns) in
    let one : (m : ℕ) → suc m ≡ 1 + m = λ m. omega arith in
    sym (is_count_by F (λ n. same name n.now) refl (λ n ns. ap (λ m. cond (same name n.now) m (F ns)) (one (F ns))) names)
