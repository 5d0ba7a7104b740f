use Rattle.std.proofs.Common.{◌≡◌, ◌<◌, ◌∙◌, ℕ, List, map, length, ap, ap₂, sym, subst, arith}
use Rattle.std.specs.Prelude.{slice_index}
use Rattle.std.proofs.lemmas.List.{length-map}
use Rattle.soft_metric.specs.Squares.{IsSmallPair, lane_zero, lane_one, lane_pair}
use Rattle.soft_metric.specs.Weights.{weighted}
use Rattle.soft_metric.proofs.Lanes16.{lane_at, lane_small, two}
use Rattle.soft_metric.proofs.Fifteenths.{weighed_at}
use Rattle.soft_metric.proofs.Turning.{turn, turn_small, turn_twice}
use Rattle.soft_metric.proofs.planes.write_lanes.Goals as goal

long : (f : ℕ → ℕ) (vs zs : List ℕ) → length vs ≡ 16 → zs ≡ map f vs → length zs ≡ 16
long f vs zs n e = ap length e ∙ length-map vs f ∙ n

small_here : (vs zs os ls : List ℕ) (a k : ℕ) → length vs ≡ 16 → k < 16 → a < 3 → zs ≡ map (lane_zero ls a) vs → os ≡ map (lane_one ls a) vs → IsSmallPair (two (slice_index zs k) (slice_index os k))
small_here vs zs os ls a k n l axis ez eo = subst IsSmallPair (sym (lane_at vs zs os ls a k n l ez eo)) (lane_small ls (slice_index vs k) a axis)

-- lanes that were turned, turned back
back : (xs ys : List ℕ) → ((k : ℕ) → k < 16 → slice_index ys k ≡ slice_index xs (turn k)) → (k : ℕ) → k < 16 → slice_index ys (turn k) ≡ slice_index xs k
back xs ys e k l = e (turn k) (turn_small k l) ∙ ap (slice_index xs) (turn_twice k l)

pub weighed_by-requires-clause-costs : goal.weighed_by-requires-clause-costs
weighed_by-requires-clause-costs g c = λ k l. (small_here c.turned-lane_values.result _ _ c.args.levels c.args.axis k c.turned-lane_values.ensures.long l c.requires.axis c.lane_costs.ensures.zero c.lane_costs.ensures.one).0

pub weighed_by-requires-2-clause-costs : goal.weighed_by-requires-2-clause-costs
weighed_by-requires-2-clause-costs g c = λ k l. (small_here c.turned-lane_values.result _ _ c.args.levels c.args.axis k c.turned-lane_values.ensures.long l c.requires.axis c.lane_costs.ensures.zero c.lane_costs.ensures.one).1

pub returns-clause-here : goal.returns-clause-here
returns-clause-here g c = λ k l.
    let vs = c.turned-lane_values.result in
    let ws = c.turned-lane_weights.result in
    let n : length vs ≡ 16 = c.turned-lane_values.ensures.long in
    let o : length ws ≡ 16 = c.turned-lane_weights.ensures.long in
    let at : turn k < 16 = turn_small k l in
    let light : slice_index ws (turn k) ≡ slice_index c.args.weights k = back c.args.weights ws c.turned-lane_weights.ensures.lanes k l in
    let value : slice_index vs (turn k) ≡ slice_index c.args.values k = back c.args.values vs c.turned-lane_values.ensures.lanes k l in
    c.put_pairs.ensures.here k l
    ∙ ap₂ two (c.turned.ensures.lanes k l) (c.turned-2.ensures.lanes k l)
    ∙ weighed_at c.lane_costs.result.0 c.lane_costs.result.1 ws c.weighed_by.result c.weighed_by-2.result (turn k) (long _ vs _ n c.lane_costs.ensures.zero) (long _ vs _ n c.lane_costs.ensures.one) o at
    (small_here vs _ _ c.args.levels c.args.axis (turn k) n at c.requires.axis c.lane_costs.ensures.zero c.lane_costs.ensures.one) (omega (arith, light, c.requires.weights k l)) c.weighed_by.ensures c.weighed_by-2.ensures
    ∙ ap (λ z. weighted z (slice_index ws (turn k))) (lane_at vs _ _ c.args.levels c.args.axis (turn k) n at c.lane_costs.ensures.zero c.lane_costs.ensures.one)
    ∙ ap₂ (λ v w. weighted (lane_pair c.args.levels c.args.axis v) w) value light
