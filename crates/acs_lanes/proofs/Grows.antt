-- What a step adds at most.
use Rattle.std.proofs.Common.{◌≡◌, ℕ, ◌+◌, ◌-◌, ◌*◌, ◌<◌, ◌≤◌, min, List, ap, arith, get_or, ◌⊎◌, inl, inr, true, false}
use Rattle.std.proofs.Math.Nat.{min-le_left}
use Rattle.std.proofs.lemmas.Bool.{cases_lt}
use Rattle.std.specs.Prelude.{slice_index}
use Rattle.code_paths.specs.declared.costs.CostPair.{CostPair}
use Rattle.acs_lanes.specs.Lanes.{IsLaneStep}
use Rattle.acs_lanes.specs.Lanes16.{joined, laid, place, state_at}
use Rattle.acs_lanes.proofs.LaneLaws.{from_small}
use Rattle.acs_lanes.proofs.Laid.{at_place, laid_at, place_small, state_small}

pub lesser : (new old cost other most bound : ℕ) → new ≡ min (old + cost) other → old ≤ most → cost ≤ bound → new ≤ most + bound
lesser new old cost other most bound e l s = omega (arith, e, min-le_left (old + cost) other, l, s)

module _ (a b c d e f g h : List ℕ) (pair : CostPair) (low high most : ℕ) (s : IsLaneStep pair (laid a b c d) (laid e f g h) low high) (few : (n : ℕ) → n < 64 → slice_index (joined a b c d) n ≤ most) where
  before : (n : ℕ) → n < 64 → slice_index (laid a b c d) n ≤ most
  before n l = omega (arith, laid_at a b c d n l, few (place n) (place_small n l))

  pub grown : (p : ℕ) → p < 64 → slice_index (joined e f g h) p ≤ most + 8190
  grown p l = each (cases_lt (state_at p) 32)
    where
      each : (state_at p < 32) ⊎ (32 ≤ state_at p) → slice_index (joined e f g h) p ≤ most + 8190
      each (inl m) =
          let k = state_at p in
          omega (arith, at_place e f g h p l, lesser _ _ _ _ most 8190 (s.low_cost k m) (before (2 * k) (omega (arith, m))) (from_small pair 0 false k))
      each (inr m) =
          let k = state_at p - 32 in
          let n : k < 32 = omega (arith, state_small p l, m) in
          let there : k + 32 ≡ state_at p = omega (arith, m) in
          omega (arith, at_place e f g h p l, ap (λ n. get_or (laid e f g h) n 0) there, lesser _ _ _ _ most 8190 (s.high_cost k n) (before (2 * k) (omega (arith, n))) (from_small pair 0 true k))
