-- Cost pairs of known cells, computed.
use Rattle.std.proofs.Common.{◌≡◌, ℕ, List, [], ◌∷◌, refl}
use Rattle.std.specs.Prelude.{pos, neg_ℤ, replicate}
use Rattle.spec_words.specs.Words.{numbers}
use Rattle.code_paths.specs.declared.costs.CostPair.{CostPair}
use Rattle.mode_set.specs.declared.modes.Stream.TheVariants.{Hp, Lp}
use Rattle.mode_set.specs.declared.modes.Rate.TheVariants.{R3of4}
use Rattle.symbol_interleave.specs.Carried.{h, words_from}
use Rattle.pilots.specs.Carriers.{payload_carriers, is_payload, is_continual, is_scattered, is_tps, tps_carriers}
use Rattle.soft_metric.specs.Costs.{cost}
use Rattle.inner_chain.specs.CostPairs.{costs_on, weighted_costs_on}
use Rattle.inner_chain.specs.PairLists.{pair_of}
use Rattle.reception.proofs.Base.{midst, layered}

abbrev four : CostPair → List ℕ
four c = c.x0 ∷ c.x1 ∷ c.y0 ∷ c.y1 ∷ []

-- all cells are (0, 11585)
upper : four (pair_of midst (replicate 1705 (record { re = pos 0; im = pos 11585 })) (replicate 1705 15) 0 Hp 0) ≡ 511 ∷ 511 ∷ 0 ∷ 2047 ∷ []
unfolding pair_of weighted_costs_on costs_on cost payload_carriers is_payload is_continual is_scattered is_tps tps_carriers h words_from numbers
upper = refl

-- with the least weight above 0, and with weight 0
least : four (pair_of midst (replicate 1705 (record { re = pos 0; im = pos 11585 })) (replicate 1705 1) 0 Hp 0) ≡ 34 ∷ 34 ∷ 0 ∷ 136 ∷ []
unfolding pair_of weighted_costs_on costs_on cost payload_carriers is_payload is_continual is_scattered is_tps tps_carriers h words_from numbers
least = refl

none : four (pair_of midst (replicate 1705 (record { re = pos 0; im = pos 11585 })) (replicate 1705 0) 0 Hp 0) ≡ 0 ∷ 0 ∷ 0 ∷ 0 ∷ []
unfolding pair_of weighted_costs_on costs_on cost payload_carriers is_payload is_continual is_scattered is_tps tps_carriers h words_from numbers
none = refl

-- LP at 3/4: all cells are the outer level and the inner one; X of step 1 is punctured
lower_0 : four (pair_of (layered R3of4) (replicate 1705 (record { re = pos 14654; im = neg_ℤ (pos 7327) })) (replicate 1705 15) 1 Lp 0) ≡ 0 ∷ 204 ∷ 204 ∷ 0 ∷ []
unfolding pair_of weighted_costs_on costs_on cost payload_carriers is_payload is_continual is_scattered is_tps tps_carriers h words_from numbers
lower_0 = refl

lower_1 : four (pair_of (layered R3of4) (replicate 1705 (record { re = pos 14654; im = neg_ℤ (pos 7327) })) (replicate 1705 15) 1 Lp 1) ≡ 0 ∷ 0 ∷ 0 ∷ 204 ∷ []
unfolding pair_of weighted_costs_on costs_on cost payload_carriers is_payload is_continual is_scattered is_tps tps_carriers h words_from numbers
lower_1 = refl
