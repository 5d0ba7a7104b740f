-- A prefix of a list is a prefix of a longer one.
use Rattle.std.proofs.Common.{◌≡◌, ℕ, List, ◌++◌, length, take, inl, inr, ◌∙◌, sym, arith}
use Rattle.std.proofs.lemmas.Bool.{cases_lt}
use Rattle.std.proofs.lemmas.List.{take_all, take-append-le}

pub front_of : (few rest : List ℕ) (k : ℕ) → (j : ℕ) × (take k few ≡ take j (few ++ rest))
front_of few rest k = elim (cases_lt k (length few)) [
  | inl lt ↦ (k, sym (take-append-le k few rest (omega (arith, lt))))
  | inr ge ↦ (length few, take_all k few ge ∙ sym (take_all (length few) few (omega arith)) ∙ sym (take-append-le (length few) few rest (omega arith)))
]
