-- Spans of some transmissions, computed.
use Rattle.std.proofs.Common.{◌≡◌, [], ◌∷◌, map, refl, arith}
use Rattle.std.specs.Prelude.{Some, None}
use Rattle.spec_words.specs.Words.{numbers}
use Rattle.mode_set.specs.Kept.{IsKept}
use Rattle.mode_set.specs.Plans.{no_plan}
use Rattle.mode_set.specs.declared.modes.Mode.TheVariants.{M2k}
use Rattle.mode_set.specs.declared.modes.Shape.TheVariants.{Qpsk, Qam16}
use Rattle.mode_set.specs.declared.modes.Hierarchy.TheVariants.{Flat, Alpha4}
use Rattle.mode_set.specs.declared.modes.Rate.TheVariants.{R1of2, R3of4}
use Rattle.mode_set.specs.declared.modes.Guard.TheVariants.{G1of32}
use Rattle.mode_set.specs.declared.modes.Start.TheVariants.{Zero}
use Rattle.mode_set.specs.declared.modes.Stream.TheVariants.{Hp, Lp}
use Rattle.mode_set.specs.declared.settings.Settings.{Settings}
use Rattle.symbol_parameters.specs.Spans.{settings_in, steps_before, words_before}

kept_base : IsKept Qpsk Flat None 1 1000000
kept_base = record { qpsk = λ _. refl; lp = refl; some_worker = omega arith; few_workers = omega arith; some_symbol = omega arith }

kept_layered : IsKept Qam16 Alpha4 (Some R3of4) 1 1000
kept_layered = record { qpsk = λ q. q; lp = refl; some_worker = omega arith; few_workers = omega arith; some_symbol = omega arith }

-- 2K, QPSK, 1/2
abbrev base : Settings
base = record { mode = M2k; shape = Qpsk; hierarchy = Flat; rate_hp = R1of2; rate_lp = None; guard = G1of32; cell_id = None; start = Zero; workers = 1; max_symbols = 1000000; plan = no_plan; kept = kept_base }

-- 2K, 16-QAM, α = 4, 1/2 and 3/4
abbrev layered : Settings
layered = record { mode = M2k; shape = Qam16; hierarchy = Alpha4; rate_hp = R1of2; rate_lp = Some R3of4; guard = G1of32; cell_id = None; start = Zero; workers = 1; max_symbols = 1000; plan = no_plan; kept = kept_layered }

-- a symbol of QPSK at 1/2 has 1512 steps, and a super-frame 252 words
steps : map (steps_before base Hp) (0 ∷ 1 ∷ 2 ∷ 272 ∷ []) ≡ 0 ∷ 1512 ∷ 3024 ∷ 411264 ∷ []
unfolding settings_in steps_before numbers
steps = refl

words : map (words_before base Hp) (0 ∷ 1 ∷ 2 ∷ []) ≡ 0 ∷ 252 ∷ 504 ∷ []
unfolding settings_in words_before numbers
words = refl

-- LP at 3/4 has 2268 steps a symbol, and none without a hierarchy
lp_steps : map (steps_before layered Lp) (1 ∷ 2 ∷ 3 ∷ []) ≡ 2268 ∷ 4536 ∷ 6804 ∷ []
unfolding settings_in steps_before numbers
lp_steps = refl

lp_words : map (words_before layered Lp) (1 ∷ 2 ∷ []) ≡ 378 ∷ 756 ∷ []
unfolding settings_in words_before numbers
lp_words = refl

no_lp : map (words_before base Lp) (1 ∷ 2 ∷ []) ≡ 0 ∷ 0 ∷ []
unfolding settings_in words_before numbers
no_lp = refl
