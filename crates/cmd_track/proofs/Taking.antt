-- A symbol taken whole, and whether one is then given.
use Rattle.std.proofs.Common.{◌≡◌, ◌+◌, ◌-◌, ◌*◌, ◌≤◌, ◌++◌, ◌≢◌, refl, ℕ, Bool, true, false, List, [], length, take, inl, inr, ap, ap₂, sym, ◌∙◌, arith}
use Rattle.std.specs.Prelude.{◌↔◌, IsTrue, min, nat_le}
use Rattle.std.proofs.lemmas.Bool.{cases_lt, le-leb, lt-leb}
use Rattle.std.proofs.lemmas.List.{take_all}
use Rattle.qam_map.specs.declared.cell.Cell.{Cell}
use Rattle.frame_build.specs.Symbol.{cells_from, weights_from}
use Rattle.cmd_track.specs.Working.{symbol_in}

-- if nothing was taken before, a whole symbol is taken unchanged
all_taken : (k : ℕ) (old bytes : List ℕ) (count : ℕ) (new : List ℕ) → old ≡ [] → length bytes ≡ 5 * k → count ≡ min (length bytes) (5 * k - length old) → new ≡ old ++ take count bytes → new ≡ bytes
all_taken k old bytes count new empty whole counted taken =
    let none : length old ≡ 0 = ap length empty in
    let all : length bytes ≤ count = omega (arith, none, whole, counted) in
    taken ∙ ap (λ (l : List ℕ). l ++ take count bytes) empty ∙ take_all count bytes all

-- and these are its cells and weights
pub symbol_is : (k : ℕ) (old bytes : List ℕ) (count : ℕ) (new : List ℕ) (cells : List Cell) (weights : List ℕ) → old ≡ [] → length bytes ≡ 5 * k → count ≡ min (length bytes) (5 * k - length old) → new ≡ old ++ take count bytes
    → cells ≡ cells_from new k → weights ≡ weights_from new k → record { cells = cells; weights = weights } ≡ symbol_in bytes k
symbol_is k old bytes count new cells weights empty whole counted taken are weigh =
    let same = all_taken k old bytes count new empty whole counted taken in
    ap₂ (λ (c : List Cell) (w : List ℕ). record { cells = c; weights = w }) (are ∙ ap (λ (b : List ℕ). cells_from b k) same) (weigh ∙ ap (λ (b : List ℕ). weights_from b k) same)

falsified : (b : Bool) → b ≢ true → b ≡ false
falsified true = λ no. absurd (no refl)
falsified false = λ no. refl

-- a symbol is given from the eighth one on
pub given_is : (given : Bool) (before now : ℕ) → now ≡ before + 1 → (IsTrue given ↔ 8 ≤ now) → given ≡ nat_le 7 before
given_is given before now next when = elim (cases_lt before 7) [
  | inl few ↦ falsified given (λ t. let eight = when.0 t in absurd (omega (arith, eight, next, few))) ∙ sym (lt-leb 7 before few)
  | inr many ↦ when.1 (omega (arith, next, many)) ∙ sym (le-leb 7 before many)
]
