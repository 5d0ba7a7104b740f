-- The least path is unique.
use Rattle.std.proofs.Common.{◌≡◌, Bool, List, length, inl, inr, sym, arith}
use Rattle.std.specs.declared.option.Option.{Option}
use Rattle.code_paths.specs.declared.costs.CostPair.{CostPair}
use Rattle.code_paths.specs.Paths.{LeastTo, Least}
use Rattle.code_paths.proofs.Order.{weight_same, NotAfter, not_after}

-- two paths neither of which is after the other
both_first : (c : List CostPair) (p q : List Bool) → length p ≡ length q → NotAfter c p q → NotAfter c q p → p ≡ q
both_first c p q l (inl h) (inl k) = absurd (omega arith)
both_first c p q l (inl h) (inr k) = absurd (omega (arith, k.0))
both_first c p q l (inr h) (inl k) = absurd (omega (arith, h.0))
both_first c p q l (inr h) (inr k) = weight_same p q l (omega (arith, h.1, k.1))

pub least_to_unique : (a : Option (List Bool)) (c : List CostPair) (e p q : List Bool) → LeastTo a c e p → LeastTo a c e q → p ≡ q
least_to_unique a c e p q h k =
    let l : length p ≡ length q = omega (arith, h.path.long, k.path.long) in
    both_first c p q l (not_after c p q l (h.first q k.path k.ends)) (not_after c q p (sym l) (k.first p h.path h.ends))

pub least_unique : (a : Option (List Bool)) (c : List CostPair) (p q : List Bool) → Least a c p → Least a c q → p ≡ q
least_unique a c p q h k =
    let l : length p ≡ length q = omega (arith, h.path.long, k.path.long) in
    both_first c p q l (not_after c p q l (h.first q k.path)) (not_after c q p (sym l) (k.first p h.path))
