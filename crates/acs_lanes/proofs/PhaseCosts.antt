-- The costs of the steps in each phase.
use Rattle.std.proofs.Common.{◌≡◌, ℕ, ◌<◌, Bool, true, false, List, [], ◌∷◌, ◌++◌, length, get_or, refl, sym, ap, ◌∙◌, subst, arith, eqb, lit<}
use Rattle.code_paths.specs.declared.costs.CostPair.{CostPair}
use Rattle.code_paths.specs.Paths.{parity_x, parity_y}
use Rattle.code_paths.proofs.Registers.{all_below}
use Rattle.acs_lanes.specs.Lanes.{AreSteps, four}
use Rattle.acs_lanes.specs.Phases.{AreCostsIn, all_sums, way_in}
use Rattle.acs_lanes.proofs.Costs16.{code_at, codes_small, lanes_of}
use Rattle.acs_lanes.proofs.LaneLaws.{at_map, bits_at, four_at, four_small}
use Rattle.acs_lanes.proofs.Laid.{same_below}
use Rattle.acs_lanes.proofs.PhaseTables.{way_in_small}

-- ---- the costs of steps by their codes

steps_in : (p : ℕ) → p < 6 → (pair : CostPair) (codes : List ℕ) (parity : ℕ) (input : Bool) → length codes ≡ 32 → all_below (λ k. eqb (get_or codes (way_in p k) 0) (code_at parity input k)) 32 ≡ true
    → (k : ℕ) → k < 32 → AreSteps pair parity input k (get_or (lanes_of (four pair) codes) (way_in p k) 0)
steps_in p in6 pair codes parity input n t k l =
    let f =
    at_map (λ j. get_or (four pair) j 0) codes (way_in p k) (omega (arith, n, way_in_small p in6 k l)) ∙ ap (λ j. get_or (four pair) j 0) (same_below 32 (λ k. get_or codes (way_in p k) 0) (code_at parity input) t k l)
    ∙ four_at pair (parity_x (bits_at parity input k)) (parity_y (bits_at parity input k)) in
    record { is = f; small = omega (arith, f, four_small pair (parity_x (bits_at parity input k)) (parity_y (bits_at parity input k))) }

-- the costs in one phase, by the codes of the first and of the last vectors
abbrev by_codes : ℕ → CostPair → List ℕ → List ℕ → List ℕ → List ℕ → Type 0
by_codes p pair za oa zb ob = AreCostsIn p pair (lanes_of (four pair) za) (lanes_of (four pair) oa) (lanes_of (four pair) zb) (lanes_of (four pair) ob)

abbrev za0 : List ℕ
za0 = 0 ∷ 3 ∷ 0 ∷ 3 ∷ 1 ∷ 2 ∷ 1 ∷ 2 ∷ 2 ∷ 1 ∷ 2 ∷ 1 ∷ 3 ∷ 0 ∷ 3 ∷ 0 ∷ []

abbrev oa0 : List ℕ
oa0 = 3 ∷ 0 ∷ 3 ∷ 0 ∷ 2 ∷ 1 ∷ 2 ∷ 1 ∷ 1 ∷ 2 ∷ 1 ∷ 2 ∷ 0 ∷ 3 ∷ 0 ∷ 3 ∷ []

abbrev zb0 : List ℕ
zb0 = 3 ∷ 0 ∷ 3 ∷ 0 ∷ 2 ∷ 1 ∷ 2 ∷ 1 ∷ 1 ∷ 2 ∷ 1 ∷ 2 ∷ 0 ∷ 3 ∷ 0 ∷ 3 ∷ []

abbrev ob0 : List ℕ
ob0 = 0 ∷ 3 ∷ 0 ∷ 3 ∷ 1 ∷ 2 ∷ 1 ∷ 2 ∷ 2 ∷ 1 ∷ 2 ∷ 1 ∷ 3 ∷ 0 ∷ 3 ∷ 0 ∷ []

costs_0 : (pair : CostPair) → by_codes 0 pair za0 oa0 zb0 ob0
costs_0 pair = record {
  zero_first_len = refl;
  one_first_len = refl;
  zero_last_len = refl;
  one_last_len = refl;
  zero_first_small = codes_small pair za0 refl;
  one_first_small = codes_small pair oa0 refl;
  zero_last_small = codes_small pair zb0 refl;
  one_last_small = codes_small pair ob0 refl;
  even_zero = steps_in 0 (lit< tt) pair (za0 ++ zb0) 0 false refl refl;
  odd_one = steps_in 0 (lit< tt) pair (za0 ++ zb0) 1 true refl refl;
  even_one = steps_in 0 (lit< tt) pair (oa0 ++ ob0) 0 true refl refl;
  odd_zero = steps_in 0 (lit< tt) pair (oa0 ++ ob0) 1 false refl refl;
}

abbrev za1 : List ℕ
za1 = 0 ∷ 2 ∷ 0 ∷ 2 ∷ 1 ∷ 3 ∷ 1 ∷ 3 ∷ 3 ∷ 1 ∷ 3 ∷ 1 ∷ 2 ∷ 0 ∷ 2 ∷ 0 ∷ []

abbrev oa1 : List ℕ
oa1 = 3 ∷ 1 ∷ 3 ∷ 1 ∷ 2 ∷ 0 ∷ 2 ∷ 0 ∷ 0 ∷ 2 ∷ 0 ∷ 2 ∷ 1 ∷ 3 ∷ 1 ∷ 3 ∷ []

abbrev zb1 : List ℕ
zb1 = 3 ∷ 1 ∷ 3 ∷ 1 ∷ 2 ∷ 0 ∷ 2 ∷ 0 ∷ 0 ∷ 2 ∷ 0 ∷ 2 ∷ 1 ∷ 3 ∷ 1 ∷ 3 ∷ []

abbrev ob1 : List ℕ
ob1 = 0 ∷ 2 ∷ 0 ∷ 2 ∷ 1 ∷ 3 ∷ 1 ∷ 3 ∷ 3 ∷ 1 ∷ 3 ∷ 1 ∷ 2 ∷ 0 ∷ 2 ∷ 0 ∷ []

costs_1 : (pair : CostPair) → by_codes 1 pair za1 oa1 zb1 ob1
costs_1 pair = record {
  zero_first_len = refl;
  one_first_len = refl;
  zero_last_len = refl;
  one_last_len = refl;
  zero_first_small = codes_small pair za1 refl;
  one_first_small = codes_small pair oa1 refl;
  zero_last_small = codes_small pair zb1 refl;
  one_last_small = codes_small pair ob1 refl;
  even_zero = steps_in 1 (lit< tt) pair (za1 ++ zb1) 0 false refl refl;
  odd_one = steps_in 1 (lit< tt) pair (za1 ++ zb1) 1 true refl refl;
  even_one = steps_in 1 (lit< tt) pair (oa1 ++ ob1) 0 true refl refl;
  odd_zero = steps_in 1 (lit< tt) pair (oa1 ++ ob1) 1 false refl refl;
}

abbrev za2 : List ℕ
za2 = 0 ∷ 2 ∷ 3 ∷ 1 ∷ 1 ∷ 3 ∷ 2 ∷ 0 ∷ 3 ∷ 1 ∷ 0 ∷ 2 ∷ 2 ∷ 0 ∷ 1 ∷ 3 ∷ []

abbrev oa2 : List ℕ
oa2 = 3 ∷ 1 ∷ 0 ∷ 2 ∷ 2 ∷ 0 ∷ 1 ∷ 3 ∷ 0 ∷ 2 ∷ 3 ∷ 1 ∷ 1 ∷ 3 ∷ 2 ∷ 0 ∷ []

abbrev zb2 : List ℕ
zb2 = 0 ∷ 2 ∷ 3 ∷ 1 ∷ 1 ∷ 3 ∷ 2 ∷ 0 ∷ 3 ∷ 1 ∷ 0 ∷ 2 ∷ 2 ∷ 0 ∷ 1 ∷ 3 ∷ []

abbrev ob2 : List ℕ
ob2 = 3 ∷ 1 ∷ 0 ∷ 2 ∷ 2 ∷ 0 ∷ 1 ∷ 3 ∷ 0 ∷ 2 ∷ 3 ∷ 1 ∷ 1 ∷ 3 ∷ 2 ∷ 0 ∷ []

costs_2 : (pair : CostPair) → by_codes 2 pair za2 oa2 zb2 ob2
costs_2 pair = record {
  zero_first_len = refl;
  one_first_len = refl;
  zero_last_len = refl;
  one_last_len = refl;
  zero_first_small = codes_small pair za2 refl;
  one_first_small = codes_small pair oa2 refl;
  zero_last_small = codes_small pair zb2 refl;
  one_last_small = codes_small pair ob2 refl;
  even_zero = steps_in 2 (lit< tt) pair (za2 ++ zb2) 0 false refl refl;
  odd_one = steps_in 2 (lit< tt) pair (za2 ++ zb2) 1 true refl refl;
  even_one = steps_in 2 (lit< tt) pair (oa2 ++ ob2) 0 true refl refl;
  odd_zero = steps_in 2 (lit< tt) pair (oa2 ++ ob2) 1 false refl refl;
}

abbrev za3 : List ℕ
za3 = 0 ∷ 2 ∷ 3 ∷ 1 ∷ 3 ∷ 1 ∷ 0 ∷ 2 ∷ 0 ∷ 2 ∷ 3 ∷ 1 ∷ 3 ∷ 1 ∷ 0 ∷ 2 ∷ []

abbrev oa3 : List ℕ
oa3 = 3 ∷ 1 ∷ 0 ∷ 2 ∷ 0 ∷ 2 ∷ 3 ∷ 1 ∷ 3 ∷ 1 ∷ 0 ∷ 2 ∷ 0 ∷ 2 ∷ 3 ∷ 1 ∷ []

abbrev zb3 : List ℕ
zb3 = 1 ∷ 3 ∷ 2 ∷ 0 ∷ 2 ∷ 0 ∷ 1 ∷ 3 ∷ 1 ∷ 3 ∷ 2 ∷ 0 ∷ 2 ∷ 0 ∷ 1 ∷ 3 ∷ []

abbrev ob3 : List ℕ
ob3 = 2 ∷ 0 ∷ 1 ∷ 3 ∷ 1 ∷ 3 ∷ 2 ∷ 0 ∷ 2 ∷ 0 ∷ 1 ∷ 3 ∷ 1 ∷ 3 ∷ 2 ∷ 0 ∷ []

costs_3 : (pair : CostPair) → by_codes 3 pair za3 oa3 zb3 ob3
costs_3 pair = record {
  zero_first_len = refl;
  one_first_len = refl;
  zero_last_len = refl;
  one_last_len = refl;
  zero_first_small = codes_small pair za3 refl;
  one_first_small = codes_small pair oa3 refl;
  zero_last_small = codes_small pair zb3 refl;
  one_last_small = codes_small pair ob3 refl;
  even_zero = steps_in 3 (lit< tt) pair (za3 ++ zb3) 0 false refl refl;
  odd_one = steps_in 3 (lit< tt) pair (za3 ++ zb3) 1 true refl refl;
  even_one = steps_in 3 (lit< tt) pair (oa3 ++ ob3) 0 true refl refl;
  odd_zero = steps_in 3 (lit< tt) pair (oa3 ++ ob3) 1 false refl refl;
}

abbrev za4 : List ℕ
za4 = 0 ∷ 2 ∷ 3 ∷ 1 ∷ 3 ∷ 1 ∷ 0 ∷ 2 ∷ 1 ∷ 3 ∷ 2 ∷ 0 ∷ 2 ∷ 0 ∷ 1 ∷ 3 ∷ []

abbrev oa4 : List ℕ
oa4 = 3 ∷ 1 ∷ 0 ∷ 2 ∷ 0 ∷ 2 ∷ 3 ∷ 1 ∷ 2 ∷ 0 ∷ 1 ∷ 3 ∷ 1 ∷ 3 ∷ 2 ∷ 0 ∷ []

abbrev zb4 : List ℕ
zb4 = 0 ∷ 2 ∷ 3 ∷ 1 ∷ 3 ∷ 1 ∷ 0 ∷ 2 ∷ 1 ∷ 3 ∷ 2 ∷ 0 ∷ 2 ∷ 0 ∷ 1 ∷ 3 ∷ []

abbrev ob4 : List ℕ
ob4 = 3 ∷ 1 ∷ 0 ∷ 2 ∷ 0 ∷ 2 ∷ 3 ∷ 1 ∷ 2 ∷ 0 ∷ 1 ∷ 3 ∷ 1 ∷ 3 ∷ 2 ∷ 0 ∷ []

costs_4 : (pair : CostPair) → by_codes 4 pair za4 oa4 zb4 ob4
costs_4 pair = record {
  zero_first_len = refl;
  one_first_len = refl;
  zero_last_len = refl;
  one_last_len = refl;
  zero_first_small = codes_small pair za4 refl;
  one_first_small = codes_small pair oa4 refl;
  zero_last_small = codes_small pair zb4 refl;
  one_last_small = codes_small pair ob4 refl;
  even_zero = steps_in 4 (lit< tt) pair (za4 ++ zb4) 0 false refl refl;
  odd_one = steps_in 4 (lit< tt) pair (za4 ++ zb4) 1 true refl refl;
  even_one = steps_in 4 (lit< tt) pair (oa4 ++ ob4) 0 true refl refl;
  odd_zero = steps_in 4 (lit< tt) pair (oa4 ++ ob4) 1 false refl refl;
}

abbrev za5 : List ℕ
za5 = 0 ∷ 3 ∷ 3 ∷ 0 ∷ 0 ∷ 3 ∷ 3 ∷ 0 ∷ 1 ∷ 2 ∷ 2 ∷ 1 ∷ 1 ∷ 2 ∷ 2 ∷ 1 ∷ []

abbrev oa5 : List ℕ
oa5 = 3 ∷ 0 ∷ 0 ∷ 3 ∷ 3 ∷ 0 ∷ 0 ∷ 3 ∷ 2 ∷ 1 ∷ 1 ∷ 2 ∷ 2 ∷ 1 ∷ 1 ∷ 2 ∷ []

abbrev zb5 : List ℕ
zb5 = 2 ∷ 1 ∷ 1 ∷ 2 ∷ 2 ∷ 1 ∷ 1 ∷ 2 ∷ 3 ∷ 0 ∷ 0 ∷ 3 ∷ 3 ∷ 0 ∷ 0 ∷ 3 ∷ []

abbrev ob5 : List ℕ
ob5 = 1 ∷ 2 ∷ 2 ∷ 1 ∷ 1 ∷ 2 ∷ 2 ∷ 1 ∷ 0 ∷ 3 ∷ 3 ∷ 0 ∷ 0 ∷ 3 ∷ 3 ∷ 0 ∷ []

costs_5 : (pair : CostPair) → by_codes 5 pair za5 oa5 zb5 ob5
costs_5 pair = record {
  zero_first_len = refl;
  one_first_len = refl;
  zero_last_len = refl;
  one_last_len = refl;
  zero_first_small = codes_small pair za5 refl;
  one_first_small = codes_small pair oa5 refl;
  zero_last_small = codes_small pair zb5 refl;
  one_last_small = codes_small pair ob5 refl;
  even_zero = steps_in 5 (lit< tt) pair (za5 ++ zb5) 0 false refl refl;
  odd_one = steps_in 5 (lit< tt) pair (za5 ++ zb5) 1 true refl refl;
  even_one = steps_in 5 (lit< tt) pair (oa5 ++ ob5) 0 true refl refl;
  odd_zero = steps_in 5 (lit< tt) pair (oa5 ++ ob5) 1 false refl refl;
}

pub costs_of_0 : (p : ℕ) → p ≡ 0 → (pair : CostPair) (s : List ℕ) → s ≡ all_sums pair
    → AreCostsIn p pair (lanes_of (s ++ s) (0 ∷ 3 ∷ 0 ∷ 3 ∷ 1 ∷ 2 ∷ 1 ∷ 2 ∷ 10 ∷ 9 ∷ 10 ∷ 9 ∷ 11 ∷ 8 ∷ 11 ∷ 8 ∷ [])) (lanes_of (s ++ s) (3 ∷ 0 ∷ 3 ∷ 0 ∷ 2 ∷ 1 ∷ 2 ∷ 1 ∷ 9 ∷ 10 ∷ 9 ∷ 10 ∷ 8 ∷ 11 ∷ 8 ∷ 11 ∷ []))
    (lanes_of (s ++ s) (3 ∷ 0 ∷ 3 ∷ 0 ∷ 2 ∷ 1 ∷ 2 ∷ 1 ∷ 9 ∷ 10 ∷ 9 ∷ 10 ∷ 8 ∷ 11 ∷ 8 ∷ 11 ∷ [])) (lanes_of (s ++ s) (0 ∷ 3 ∷ 0 ∷ 3 ∷ 1 ∷ 2 ∷ 1 ∷ 2 ∷ 10 ∷ 9 ∷ 10 ∷ 9 ∷ 11 ∷ 8 ∷ 11 ∷ 8 ∷ []))
costs_of_0 p q pair s e =
    subst
    (λ s. AreCostsIn p pair (lanes_of (s ++ s) (0 ∷ 3 ∷ 0 ∷ 3 ∷ 1 ∷ 2 ∷ 1 ∷ 2 ∷ 10 ∷ 9 ∷ 10 ∷ 9 ∷ 11 ∷ 8 ∷ 11 ∷ 8 ∷ [])) (lanes_of (s ++ s) (3 ∷ 0 ∷ 3 ∷ 0 ∷ 2 ∷ 1 ∷ 2 ∷ 1 ∷ 9 ∷ 10 ∷ 9 ∷ 10 ∷ 8 ∷ 11 ∷ 8 ∷ 11 ∷ []))
    (lanes_of (s ++ s) (3 ∷ 0 ∷ 3 ∷ 0 ∷ 2 ∷ 1 ∷ 2 ∷ 1 ∷ 9 ∷ 10 ∷ 9 ∷ 10 ∷ 8 ∷ 11 ∷ 8 ∷ 11 ∷ [])) (lanes_of (s ++ s) (0 ∷ 3 ∷ 0 ∷ 3 ∷ 1 ∷ 2 ∷ 1 ∷ 2 ∷ 10 ∷ 9 ∷ 10 ∷ 9 ∷ 11 ∷ 8 ∷ 11 ∷ 8 ∷ [])))
    (sym e) (subst (λ p. by_codes p pair za0 oa0 zb0 ob0) (sym q) (costs_0 pair))

pub costs_of_1 : (p : ℕ) → p ≡ 1 → (pair : CostPair) (s : List ℕ) → s ≡ all_sums pair
    → AreCostsIn p pair (lanes_of (s ++ s) (0 ∷ 2 ∷ 0 ∷ 2 ∷ 1 ∷ 3 ∷ 1 ∷ 3 ∷ 11 ∷ 9 ∷ 11 ∷ 9 ∷ 10 ∷ 8 ∷ 10 ∷ 8 ∷ [])) (lanes_of (s ++ s) (3 ∷ 1 ∷ 3 ∷ 1 ∷ 2 ∷ 0 ∷ 2 ∷ 0 ∷ 8 ∷ 10 ∷ 8 ∷ 10 ∷ 9 ∷ 11 ∷ 9 ∷ 11 ∷ []))
    (lanes_of (s ++ s) (3 ∷ 1 ∷ 3 ∷ 1 ∷ 2 ∷ 0 ∷ 2 ∷ 0 ∷ 8 ∷ 10 ∷ 8 ∷ 10 ∷ 9 ∷ 11 ∷ 9 ∷ 11 ∷ [])) (lanes_of (s ++ s) (0 ∷ 2 ∷ 0 ∷ 2 ∷ 1 ∷ 3 ∷ 1 ∷ 3 ∷ 11 ∷ 9 ∷ 11 ∷ 9 ∷ 10 ∷ 8 ∷ 10 ∷ 8 ∷ []))
costs_of_1 p q pair s e =
    subst
    (λ s. AreCostsIn p pair (lanes_of (s ++ s) (0 ∷ 2 ∷ 0 ∷ 2 ∷ 1 ∷ 3 ∷ 1 ∷ 3 ∷ 11 ∷ 9 ∷ 11 ∷ 9 ∷ 10 ∷ 8 ∷ 10 ∷ 8 ∷ [])) (lanes_of (s ++ s) (3 ∷ 1 ∷ 3 ∷ 1 ∷ 2 ∷ 0 ∷ 2 ∷ 0 ∷ 8 ∷ 10 ∷ 8 ∷ 10 ∷ 9 ∷ 11 ∷ 9 ∷ 11 ∷ []))
    (lanes_of (s ++ s) (3 ∷ 1 ∷ 3 ∷ 1 ∷ 2 ∷ 0 ∷ 2 ∷ 0 ∷ 8 ∷ 10 ∷ 8 ∷ 10 ∷ 9 ∷ 11 ∷ 9 ∷ 11 ∷ [])) (lanes_of (s ++ s) (0 ∷ 2 ∷ 0 ∷ 2 ∷ 1 ∷ 3 ∷ 1 ∷ 3 ∷ 11 ∷ 9 ∷ 11 ∷ 9 ∷ 10 ∷ 8 ∷ 10 ∷ 8 ∷ [])))
    (sym e) (subst (λ p. by_codes p pair za1 oa1 zb1 ob1) (sym q) (costs_1 pair))

pub costs_of_2 : (p : ℕ) → p ≡ 2 → (pair : CostPair) (s : List ℕ) → s ≡ all_sums pair
    → AreCostsIn p pair (lanes_of (s ++ s) (0 ∷ 2 ∷ 3 ∷ 1 ∷ 1 ∷ 3 ∷ 2 ∷ 0 ∷ 11 ∷ 9 ∷ 8 ∷ 10 ∷ 10 ∷ 8 ∷ 9 ∷ 11 ∷ [])) (lanes_of (s ++ s) (3 ∷ 1 ∷ 0 ∷ 2 ∷ 2 ∷ 0 ∷ 1 ∷ 3 ∷ 8 ∷ 10 ∷ 11 ∷ 9 ∷ 9 ∷ 11 ∷ 10 ∷ 8 ∷ []))
    (lanes_of (s ++ s) (0 ∷ 2 ∷ 3 ∷ 1 ∷ 1 ∷ 3 ∷ 2 ∷ 0 ∷ 11 ∷ 9 ∷ 8 ∷ 10 ∷ 10 ∷ 8 ∷ 9 ∷ 11 ∷ [])) (lanes_of (s ++ s) (3 ∷ 1 ∷ 0 ∷ 2 ∷ 2 ∷ 0 ∷ 1 ∷ 3 ∷ 8 ∷ 10 ∷ 11 ∷ 9 ∷ 9 ∷ 11 ∷ 10 ∷ 8 ∷ []))
costs_of_2 p q pair s e =
    subst
    (λ s. AreCostsIn p pair (lanes_of (s ++ s) (0 ∷ 2 ∷ 3 ∷ 1 ∷ 1 ∷ 3 ∷ 2 ∷ 0 ∷ 11 ∷ 9 ∷ 8 ∷ 10 ∷ 10 ∷ 8 ∷ 9 ∷ 11 ∷ [])) (lanes_of (s ++ s) (3 ∷ 1 ∷ 0 ∷ 2 ∷ 2 ∷ 0 ∷ 1 ∷ 3 ∷ 8 ∷ 10 ∷ 11 ∷ 9 ∷ 9 ∷ 11 ∷ 10 ∷ 8 ∷ []))
    (lanes_of (s ++ s) (0 ∷ 2 ∷ 3 ∷ 1 ∷ 1 ∷ 3 ∷ 2 ∷ 0 ∷ 11 ∷ 9 ∷ 8 ∷ 10 ∷ 10 ∷ 8 ∷ 9 ∷ 11 ∷ [])) (lanes_of (s ++ s) (3 ∷ 1 ∷ 0 ∷ 2 ∷ 2 ∷ 0 ∷ 1 ∷ 3 ∷ 8 ∷ 10 ∷ 11 ∷ 9 ∷ 9 ∷ 11 ∷ 10 ∷ 8 ∷ [])))
    (sym e) (subst (λ p. by_codes p pair za2 oa2 zb2 ob2) (sym q) (costs_2 pair))

pub costs_of_3 : (p : ℕ) → p ≡ 3 → (pair : CostPair) (s : List ℕ) → s ≡ all_sums pair
    → AreCostsIn p pair (lanes_of (s ++ s) (0 ∷ 2 ∷ 3 ∷ 1 ∷ 3 ∷ 1 ∷ 0 ∷ 2 ∷ 8 ∷ 10 ∷ 11 ∷ 9 ∷ 11 ∷ 9 ∷ 8 ∷ 10 ∷ [])) (lanes_of (s ++ s) (3 ∷ 1 ∷ 0 ∷ 2 ∷ 0 ∷ 2 ∷ 3 ∷ 1 ∷ 11 ∷ 9 ∷ 8 ∷ 10 ∷ 8 ∷ 10 ∷ 11 ∷ 9 ∷ []))
    (lanes_of (s ++ s) (1 ∷ 3 ∷ 2 ∷ 0 ∷ 2 ∷ 0 ∷ 1 ∷ 3 ∷ 9 ∷ 11 ∷ 10 ∷ 8 ∷ 10 ∷ 8 ∷ 9 ∷ 11 ∷ [])) (lanes_of (s ++ s) (2 ∷ 0 ∷ 1 ∷ 3 ∷ 1 ∷ 3 ∷ 2 ∷ 0 ∷ 10 ∷ 8 ∷ 9 ∷ 11 ∷ 9 ∷ 11 ∷ 10 ∷ 8 ∷ []))
costs_of_3 p q pair s e =
    subst
    (λ s. AreCostsIn p pair (lanes_of (s ++ s) (0 ∷ 2 ∷ 3 ∷ 1 ∷ 3 ∷ 1 ∷ 0 ∷ 2 ∷ 8 ∷ 10 ∷ 11 ∷ 9 ∷ 11 ∷ 9 ∷ 8 ∷ 10 ∷ [])) (lanes_of (s ++ s) (3 ∷ 1 ∷ 0 ∷ 2 ∷ 0 ∷ 2 ∷ 3 ∷ 1 ∷ 11 ∷ 9 ∷ 8 ∷ 10 ∷ 8 ∷ 10 ∷ 11 ∷ 9 ∷ []))
    (lanes_of (s ++ s) (1 ∷ 3 ∷ 2 ∷ 0 ∷ 2 ∷ 0 ∷ 1 ∷ 3 ∷ 9 ∷ 11 ∷ 10 ∷ 8 ∷ 10 ∷ 8 ∷ 9 ∷ 11 ∷ [])) (lanes_of (s ++ s) (2 ∷ 0 ∷ 1 ∷ 3 ∷ 1 ∷ 3 ∷ 2 ∷ 0 ∷ 10 ∷ 8 ∷ 9 ∷ 11 ∷ 9 ∷ 11 ∷ 10 ∷ 8 ∷ [])))
    (sym e) (subst (λ p. by_codes p pair za3 oa3 zb3 ob3) (sym q) (costs_3 pair))

pub costs_of_4 : (p : ℕ) → p ≡ 4 → (pair : CostPair) (s : List ℕ) → s ≡ all_sums pair
    → AreCostsIn p pair (lanes_of (s ++ s) (0 ∷ 2 ∷ 3 ∷ 1 ∷ 3 ∷ 1 ∷ 0 ∷ 2 ∷ 9 ∷ 11 ∷ 10 ∷ 8 ∷ 10 ∷ 8 ∷ 9 ∷ 11 ∷ [])) (lanes_of (s ++ s) (3 ∷ 1 ∷ 0 ∷ 2 ∷ 0 ∷ 2 ∷ 3 ∷ 1 ∷ 10 ∷ 8 ∷ 9 ∷ 11 ∷ 9 ∷ 11 ∷ 10 ∷ 8 ∷ []))
    (lanes_of (s ++ s) (0 ∷ 2 ∷ 3 ∷ 1 ∷ 3 ∷ 1 ∷ 0 ∷ 2 ∷ 9 ∷ 11 ∷ 10 ∷ 8 ∷ 10 ∷ 8 ∷ 9 ∷ 11 ∷ [])) (lanes_of (s ++ s) (3 ∷ 1 ∷ 0 ∷ 2 ∷ 0 ∷ 2 ∷ 3 ∷ 1 ∷ 10 ∷ 8 ∷ 9 ∷ 11 ∷ 9 ∷ 11 ∷ 10 ∷ 8 ∷ []))
costs_of_4 p q pair s e =
    subst
    (λ s. AreCostsIn p pair (lanes_of (s ++ s) (0 ∷ 2 ∷ 3 ∷ 1 ∷ 3 ∷ 1 ∷ 0 ∷ 2 ∷ 9 ∷ 11 ∷ 10 ∷ 8 ∷ 10 ∷ 8 ∷ 9 ∷ 11 ∷ [])) (lanes_of (s ++ s) (3 ∷ 1 ∷ 0 ∷ 2 ∷ 0 ∷ 2 ∷ 3 ∷ 1 ∷ 10 ∷ 8 ∷ 9 ∷ 11 ∷ 9 ∷ 11 ∷ 10 ∷ 8 ∷ []))
    (lanes_of (s ++ s) (0 ∷ 2 ∷ 3 ∷ 1 ∷ 3 ∷ 1 ∷ 0 ∷ 2 ∷ 9 ∷ 11 ∷ 10 ∷ 8 ∷ 10 ∷ 8 ∷ 9 ∷ 11 ∷ [])) (lanes_of (s ++ s) (3 ∷ 1 ∷ 0 ∷ 2 ∷ 0 ∷ 2 ∷ 3 ∷ 1 ∷ 10 ∷ 8 ∷ 9 ∷ 11 ∷ 9 ∷ 11 ∷ 10 ∷ 8 ∷ [])))
    (sym e) (subst (λ p. by_codes p pair za4 oa4 zb4 ob4) (sym q) (costs_4 pair))

pub costs_of_5 : (p : ℕ) → p ≡ 5 → (pair : CostPair) (s : List ℕ) → s ≡ all_sums pair
    → AreCostsIn p pair (lanes_of (s ++ s) (0 ∷ 3 ∷ 3 ∷ 0 ∷ 0 ∷ 3 ∷ 3 ∷ 0 ∷ 9 ∷ 10 ∷ 10 ∷ 9 ∷ 9 ∷ 10 ∷ 10 ∷ 9 ∷ [])) (lanes_of (s ++ s) (3 ∷ 0 ∷ 0 ∷ 3 ∷ 3 ∷ 0 ∷ 0 ∷ 3 ∷ 10 ∷ 9 ∷ 9 ∷ 10 ∷ 10 ∷ 9 ∷ 9 ∷ 10 ∷ []))
    (lanes_of (s ++ s) (2 ∷ 1 ∷ 1 ∷ 2 ∷ 2 ∷ 1 ∷ 1 ∷ 2 ∷ 11 ∷ 8 ∷ 8 ∷ 11 ∷ 11 ∷ 8 ∷ 8 ∷ 11 ∷ [])) (lanes_of (s ++ s) (1 ∷ 2 ∷ 2 ∷ 1 ∷ 1 ∷ 2 ∷ 2 ∷ 1 ∷ 8 ∷ 11 ∷ 11 ∷ 8 ∷ 8 ∷ 11 ∷ 11 ∷ 8 ∷ []))
costs_of_5 p q pair s e =
    subst
    (λ s. AreCostsIn p pair (lanes_of (s ++ s) (0 ∷ 3 ∷ 3 ∷ 0 ∷ 0 ∷ 3 ∷ 3 ∷ 0 ∷ 9 ∷ 10 ∷ 10 ∷ 9 ∷ 9 ∷ 10 ∷ 10 ∷ 9 ∷ [])) (lanes_of (s ++ s) (3 ∷ 0 ∷ 0 ∷ 3 ∷ 3 ∷ 0 ∷ 0 ∷ 3 ∷ 10 ∷ 9 ∷ 9 ∷ 10 ∷ 10 ∷ 9 ∷ 9 ∷ 10 ∷ []))
    (lanes_of (s ++ s) (2 ∷ 1 ∷ 1 ∷ 2 ∷ 2 ∷ 1 ∷ 1 ∷ 2 ∷ 11 ∷ 8 ∷ 8 ∷ 11 ∷ 11 ∷ 8 ∷ 8 ∷ 11 ∷ [])) (lanes_of (s ++ s) (1 ∷ 2 ∷ 2 ∷ 1 ∷ 1 ∷ 2 ∷ 2 ∷ 1 ∷ 8 ∷ 11 ∷ 11 ∷ 8 ∷ 8 ∷ 11 ∷ 11 ∷ 8 ∷ [])))
    (sym e) (subst (λ p. by_codes p pair za5 oa5 zb5 ob5) (sym q) (costs_5 pair))
