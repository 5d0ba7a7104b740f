-- No symbol has more pairs of a stream than there is space for.
use Rattle.std.proofs.Common.{◌≡◌, ℕ, zero, suc, ◌-◌, ◌*◌, ◌/◌, ◌≤◌, Bool, true, false, List, ◌++◌, drop, length, map, take, refl, sym, ap, ◌∙◌, subst, arith}
use Rattle.std.specs.Prelude.{if◌then◌else◌}
use Rattle.std.proofs.lemmas.Bool.{true≢false}
use Rattle.std.proofs.lemmas.List.{length-map}
use Rattle.std.proofs.Math.Seq.{take-append_seam}
use Rattle.spec_words.specs.Words.{numbers}
use Rattle.spec_words.proofs.Counting.{length-numbers}
use Rattle.code_paths.specs.declared.costs.CostPair.{CostPair}
use Rattle.mode_set.specs.Entries.{with_entry}
use Rattle.mode_set.specs.Kept.{is_flat}
use Rattle.mode_set.specs.StreamTable.{payload, label_bits, coded, need, rate, steps_in_period, sent_in_period}
use Rattle.mode_set.specs.declared.entry.Entry.{Entry}
use Rattle.mode_set.specs.declared.modes.Mode.{Mode}
use Rattle.mode_set.specs.declared.modes.Mode.TheVariants.{M2k, M8k}
use Rattle.mode_set.specs.declared.modes.Rate.{Rate}
use Rattle.mode_set.specs.declared.modes.Rate.TheVariants.{R1of2, R2of3, R3of4, R5of6, R7of8}
use Rattle.mode_set.specs.declared.modes.Shape.{Shape}
use Rattle.mode_set.specs.declared.modes.Shape.TheVariants.{Qpsk, Qam16, Qam64}
use Rattle.mode_set.specs.declared.modes.Stream.{Stream}
use Rattle.mode_set.specs.declared.modes.Stream.TheVariants.{Hp, Lp}
use Rattle.mode_set.specs.declared.settings.Settings.{Settings}
use Rattle.qam_map.specs.declared.cell.Cell.{Cell}
use Rattle.inner_chain.specs.PairLists.{pair_of, BeginsWithPairs}
use Rattle.symbol_parameters.specs.Laws.{ModeStays, StepsAreOfAStream}
use Rattle.symbol_parameters.specs.Spans.{settings_in, settings_at, exists_in}
use Rattle.inner_receiver.specs.Rooms.{most_steps, most_pairs}

-- no rate is above 7/8
part : (r : Rate) (c : ℕ) → 8 * (c * steps_in_period r / sent_in_period r) ≤ 7 * c
part R1of2 c = omega arith
part R2of3 c = omega arith
part R3of4 c = omega arith
part R5of6 c = omega arith
part R7of8 c = omega arith

hp_bits : (flat : Bool) (shape : Shape) → (if flat then label_bits shape else 2) ≤ 6
hp_bits true Qpsk = omega arith
hp_bits true Qam16 = omega arith
hp_bits true Qam64 = omega arith
hp_bits false shape = omega arith

lp_bits : (flat : Bool) (shape : Shape) → (if flat then 0 else label_bits shape - 2) ≤ 4
lp_bits true shape = omega arith
lp_bits false Qpsk = omega arith
lp_bits false Qam16 = omega arith
lp_bits false Qam64 = omega arith

hp_few : (m : Mode) (bits n : ℕ) → bits ≤ 6 → 8 * n ≤ 7 * (payload m * bits) → n ≤ most_steps m Hp
hp_few M2k bits n l h = omega (arith, l, h)
hp_few M8k bits n l h = omega (arith, l, h)

lp_few : (m : Mode) (bits n : ℕ) → bits ≤ 4 → 8 * n ≤ 7 * (payload m * bits) → n ≤ most_steps m Lp
lp_few M2k bits n l h = omega (arith, l, h)
lp_few M8k bits n l h = omega (arith, l, h)

few_steps : (s : Settings) (σ : Stream) → need s σ ≤ most_steps s.mode σ
few_steps s Hp = hp_few s.mode (if is_flat s.hierarchy then label_bits s.shape else 2) (need s Hp) (hp_bits (is_flat s.hierarchy) s.shape) (part (rate s Hp) (coded s Hp))
few_steps s Lp = lp_few s.mode (if is_flat s.hierarchy then 0 else label_bits s.shape - 2) (need s Lp) (lp_bits (is_flat s.hierarchy) s.shape) (part (rate s Lp) (coded s Lp))

pub few_pairs : ModeStays → StepsAreOfAStream → (s : Settings) (j : ℕ) (σ : Stream) → need (settings_in s j) σ ≤ most_pairs s σ
few_pairs mode streams s j σ = go (exists_in s σ) refl
  where
    none : (n : ℕ) → need (settings_in s j) σ ≡ n → exists_in s σ ≡ false → n ≤ 0
    none zero e absent = omega arith
    none (suc n) e absent = absurd (true≢false (sym (streams s σ j (omega (arith, e))).whole ∙ absent))

    go : (b : Bool) → exists_in s σ ≡ b → need (settings_in s j) σ ≤ (if b then most_steps s.mode σ else 0)
    go true e = subst (λ (m : Mode). need (settings_in s j) σ ≤ most_steps m σ) (mode s j) (few_steps (settings_in s j) σ)
    go false e = none (need (settings_in s j) σ) refl e

-- the settings of a symbol, from its parameters
pub told : (s t x : Settings) (e : Entry) → t ≡ s → with_entry s e ≡ x → with_entry t e ≡ x
told s t x e same is = ap (λ (z : Settings). with_entry z e) same ∙ is

pub fits : ModeStays → StepsAreOfAStream → (s t : Settings) (e : Entry) (m : ℕ) (σ : Stream) → t ≡ s → with_entry s e ≡ settings_at s m → need (with_entry t e) σ ≤ most_pairs s σ
fits mode streams s t e m σ same is = subst (λ (z : Settings). need z σ ≤ most_pairs s σ) (sym (told s t (settings_at s m) e same is)) (few_pairs mode streams s (m / 272) σ)

-- the first pairs of a list that was written over as a whole
pub front_is : (s x : Settings) (cells : List Cell) (weights : List ℕ) (l : ℕ) (σ : Stream) (n len : ℕ) (old new behind : List CostPair) → s ≡ x → n ≡ need s σ → len ≡ length new → BeginsWithPairs s cells weights l σ old new
    → take n (take len (new ++ behind)) ≡ map (pair_of x cells weights l σ) (numbers (need x σ))
front_is s x cells weights l σ n len old new behind same count size is = subst (λ (z : Settings). take n (take len (new ++ behind)) ≡ map (pair_of z cells weights l σ) (numbers (need z σ))) same (within ∙ front)
  where
    ps : List CostPair
    ps = map (pair_of s cells weights l σ) (numbers (need s σ))

    long : length ps ≡ need s σ
    long = length-map (numbers (need s σ)) (pair_of s cells weights l σ) ∙ length-numbers (need s σ)

    within : take n (take len (new ++ behind)) ≡ take n new
    within = ap (λ (z : List CostPair). take n z) (ap (λ (k : ℕ). take k (new ++ behind)) size ∙ take-append_seam new behind)

    front : take n new ≡ ps
    front = ap (λ (z : List CostPair). take n z) is ∙ ap (λ (k : ℕ). take k (ps ++ drop (need s σ) old)) (count ∙ sym long) ∙ take-append_seam ps (drop (need s σ) old)
