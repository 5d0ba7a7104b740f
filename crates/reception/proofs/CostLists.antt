-- The costs of longer bytes.
use Rattle.std.proofs.Common.{◌≡◌, ℕ, zero, suc, ◌+◌, ◌-◌, ◌*◌, ◌/◌, ◌%◌, ◌<◌, ◌≤◌, List, [], ◌∷◌, ◌++◌, length, get_or, map, refl, sym, ap, ap₂, ◌∙◌, arith, length-append}
use Rattle.std.specs.Prelude.{flat_map}
use Rattle.std.proofs.lemmas.Bool.{true≢false}
use Rattle.std.proofs.lemmas.List.{length-map}
use Rattle.std.proofs.lemmas.List.FromFn.{get_or-map-range_with_len}
use Rattle.spec_words.specs.Words.{numbers}
use Rattle.spec_words.proofs.Counting.{length-numbers}
use Rattle.code_paths.specs.declared.costs.CostPair.{CostPair}
use Rattle.mode_set.specs.StreamTable.{carriers}
use Rattle.mode_set.specs.declared.modes.Stream.{Stream}
use Rattle.mode_set.specs.declared.settings.Settings.{Settings}
use Rattle.qam_map.specs.declared.cell.Cell.{Cell}
use Rattle.symbol_parameters.specs.Spans.{settings_at, steps_of, steps_before}
use Rattle.symbol_parameters.specs.Laws.{NoSteps, StepsOfOneMore, StepsGrow, StepsAreOfAStream}
use Rattle.symbol_parameters.proofs.Parts.{parts_long, part_is}
use Rattle.inner_chain.specs.PairLists.{pair_of}
use Rattle.reception.specs.Cells.{symbols, symbol_cells, symbol_weights}
use Rattle.reception.specs.Costs.{symbol_costs, costs}
use Rattle.reception.specs.Laws.{CostsGrow, SameCosts, NextCosts, NoCosts, CostsAreSteps, CostOfStep, NoCostsWithout}
use Rattle.reception.proofs.Symbols.{more_count, no_count, same_symbols, one_symbol_more, cells_stay, weights_stay}
use Rattle.reception.proofs.Numbered.{parts_end, no_parts, same_parts, more_parts, empty_parts}

symbol_costs_stay : (s : Settings) (bytes more : List ℕ) (σ : Stream) (m : ℕ) → m < symbols s bytes → symbol_costs s (bytes ++ more) σ m ≡ symbol_costs s bytes σ m
unfolding symbol_costs
symbol_costs_stay s bytes more σ m h = ap₂ (λ (z : List Cell) (w : List ℕ). map (pair_of (settings_at s m) z w (m % 68) σ) (numbers (steps_of s σ m))) (cells_stay s bytes more m h) (weights_stay s bytes more m h)

costs_before : (s : Settings) (bytes more : List ℕ) (σ : Stream) → flat_map (symbol_costs s (bytes ++ more) σ) (numbers (symbols s bytes)) ≡ flat_map (symbol_costs s bytes σ) (numbers (symbols s bytes))
costs_before s bytes more σ = same_parts (symbol_costs s (bytes ++ more) σ) (symbol_costs s bytes σ) (symbols s bytes) (λ m l. symbol_costs_stay s bytes more σ m l)

pub costs_grow : CostsGrow
unfolding costs
costs_grow s bytes more σ =
    let n = symbols s bytes in
    let l = symbols s (bytes ++ more) in
    let f = symbol_costs s (bytes ++ more) σ in
    let counts : n ≤ l = omega (arith, more_count s.mode (length bytes) (length more), ap (λ k. k / (5 * carriers s.mode)) (length-append bytes more)) in
    let r = more_parts f n (l - n) in
    let e : l ≡ l - n + n = omega (arith, counts) in
    (r.0, ap (λ k. flat_map f (numbers k)) e ∙ r.1 ∙ ap (λ z. z ++ r.0) (costs_before s bytes more σ))

pub same_costs : SameCosts
unfolding costs
same_costs s bytes more σ h = ap (λ k. flat_map (symbol_costs s (bytes ++ more) σ) (numbers k)) (same_symbols s bytes more h) ∙ costs_before s bytes more σ

pub next_costs : NextCosts
unfolding costs
next_costs s bytes more σ h =
    let f = symbol_costs s (bytes ++ more) σ in
    let n = symbols s bytes in
    let e : n + 1 ≡ suc n = omega arith in
    ap (λ k. flat_map f (numbers k)) ((one_symbol_more s bytes more h).0 ∙ e) ∙ parts_end f n ∙ ap (λ z. z ++ f n) (costs_before s bytes more σ)

pub no_costs : NoCosts
unfolding costs
no_costs s σ = ap (λ k. flat_map (symbol_costs s [] σ) (numbers k)) (no_count s.mode) ∙ no_parts (symbol_costs s [] σ)

symbol_costs_long : (s : Settings) (bytes : List ℕ) (σ : Stream) (m : ℕ) → length (symbol_costs s bytes σ m) ≡ steps_of s σ m
unfolding symbol_costs
symbol_costs_long s bytes σ m = length-map (numbers (steps_of s σ m)) (pair_of (settings_at s m) (symbol_cells s bytes m) (symbol_weights s bytes m) (m % 68) σ) ∙ length-numbers (steps_of s σ m)

-- the known facts on the steps of symbols
pub record AreSteps : Type 0 where
  pub none : NoSteps
  pub more : StepsOfOneMore
  pub grow : StepsGrow

between : AreSteps → (s : Settings) (bytes : List ℕ) (σ : Stream) (m : ℕ) → length (symbol_costs s bytes σ m) ≡ steps_before s σ (m + 1) - steps_before s σ m
between steps s bytes σ m = let e = symbol_costs_long s bytes σ m in let f = steps.more s σ m in omega (arith, e, f)

pub costs_are_steps : AreSteps → CostsAreSteps
unfolding costs
costs_are_steps steps s bytes σ = parts_long (symbol_costs s bytes σ) (steps_before s σ) (between steps s bytes σ) (steps.grow s σ) (symbols s bytes) (steps.none s σ)

cost_in_symbol : (s : Settings) (bytes : List ℕ) (σ : Stream) (m t : ℕ) (d : CostPair) → t < steps_of s σ m → get_or (symbol_costs s bytes σ m) t d ≡ pair_of (settings_at s m) (symbol_cells s bytes m) (symbol_weights s bytes m) (m % 68) σ t
unfolding symbol_costs numbers
cost_in_symbol s bytes σ m t d l = let e : 0 + t ≡ t = omega arith in get_or-map-range_with_len (pair_of (settings_at s m) (symbol_cells s bytes m) (symbol_weights s bytes m) (m % 68) σ) 0 (steps_of s σ m) t t d l e

pub cost_of_step : AreSteps → CostOfStep
unfolding costs
cost_of_step steps s bytes σ m t d l w =
    let i : ℕ = t - steps_before s σ m in
    let place : t ≡ steps_before s σ m + i = (let f = w.from in omega (arith, f)) in
    let few : i < steps_of s σ m = (let e = steps.more s σ m in let f = w.from in let g = w.to in omega (arith, e, f, g)) in
    let within : i < length (symbol_costs s bytes σ m) = (let e = symbol_costs_long s bytes σ m in omega (arith, few, e)) in
    ap (λ (z : ℕ). get_or (costs s bytes σ) z d) place
    ∙ part_is (symbol_costs s bytes σ) (steps_before s σ) (between steps s bytes σ) (steps.grow s σ) d (symbols s bytes) m i (steps.none s σ) l within
    ∙ cost_in_symbol s bytes σ m i d few

-- a stream without steps has no costs
empty_list : (xs : List CostPair) → length xs ≡ 0 → xs ≡ []
empty_list [] e = refl
empty_list (x ∷ xs) e = absurd (omega (arith, e))

pub no_costs_without : StepsAreOfAStream → NoCostsWithout
unfolding costs
no_costs_without streams s bytes σ none = empty_parts (symbol_costs s bytes σ) (symbols s bytes) (λ m. empty_list (symbol_costs s bytes σ m) (symbol_costs_long s bytes σ m ∙ zero_of m (steps_of s σ m) refl))
  where
    zero_of : (m n : ℕ) → steps_of s σ m ≡ n → n ≡ 0
    zero_of m zero e = refl
    zero_of m (suc n) e = absurd (true≢false (sym (streams s σ (m / 272) (omega (arith, e))).whole ∙ none))
