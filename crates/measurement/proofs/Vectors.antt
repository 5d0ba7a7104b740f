-- Worked values of the definitions.
use Rattle.std.proofs.Common.{◌≡◌, ◌-◌, ◌++◌, true, false, [], ◌∷◌, map, refl, arith}
use Rattle.std.specs.Prelude.{codes, replicate, None}
use Rattle.std.specs.Fmt.{digits}
use Rattle.std.specs.List.{concat}
use Rattle.spec_words.specs.Words.{numbers}
use Rattle.mode_set.specs.declared.modes.Stream.TheVariants.{Hp}
use Rattle.mode_set.specs.Kept.{IsKept}
use Rattle.mode_set.specs.Plans.{no_plan}
use Rattle.mode_set.specs.declared.modes.Mode.TheVariants.{M2k}
use Rattle.mode_set.specs.declared.modes.Shape.TheVariants.{Qpsk}
use Rattle.mode_set.specs.declared.modes.Hierarchy.TheVariants.{Flat}
use Rattle.mode_set.specs.declared.modes.Rate.TheVariants.{R1of2}
use Rattle.mode_set.specs.declared.modes.Guard.TheVariants.{G1of32}
use Rattle.mode_set.specs.declared.modes.Start.{Start}
use Rattle.mode_set.specs.declared.modes.Start.TheVariants.{Zero, Any}
use Rattle.mode_set.specs.declared.settings.Settings.{Settings}
use Rattle.symbol_parameters.specs.Spans.{settings_in, steps_before, words_before}
use Rattle.measure_report.specs.Text.{lines}
use Rattle.measurement.specs.Known.{is_compared}
use Rattle.measurement.specs.SuperFrames.{bits_apart}
use Rattle.measurement.specs.Lines.{defined_by, begun_by}

kept_flat : IsKept Qpsk Flat None 1 1000000
kept_flat = record { qpsk = λ _. refl; lp = refl; some_worker = omega arith; few_workers = omega arith; some_symbol = omega arith }

-- QPSK at 1/2 in the 2K mode, from a start
abbrev from_start : Start → Settings
from_start start = record { mode = M2k; shape = Qpsk; hierarchy = Flat; rate_hp = R1of2; rate_lp = None; guard = G1of32; cell_id = None; start = start; workers = 1; max_symbols = 1000000; plan = no_plan; kept = kept_flat }

abbrev base : Settings
base = from_start Zero

abbrev midst : Settings
midst = from_start Any

-- the lines of a super-frame of null packets in QPSK at 1/2 in the 2K mode
null_super_frame : concat (lines (record {
  number = 0;
  symbols = 272;
  cells = 411264;
  muted = 0;
  power = 110393313004800;
  error = 0;
  tps_read = 4;
  tps_bad = 0;
  hp = record { bits = 822528; wrong = 0; words = 241; clean = 241; corrected = 0; bad = 0; unphased = 0; unmerged = 0; repaired = 0 };
  lp = None;
})) ≡ codes "superframe 0 symbols 272 cells 411264 muted 0 power 110393313004800 error 0 tps read 4 bad 0\nhp bits 822528 wrong 0 words 241 clean 241 corrected 0 bad 0 unphased 0 unmerged 0 repaired 0\n"
unfolding digits
null_super_frame = refl

-- its words: 252 less the eleven of the start-up
null_words : words_before base Hp 1 - 11 ≡ 241
unfolding words_before settings_in numbers
null_words = refl

-- lines appear after 275, 547 and 819 symbols, and at the end those of each super-frame begun
defined : map defined_by (0 ∷ 274 ∷ 275 ∷ 546 ∷ 547 ∷ 818 ∷ 819 ∷ 1088 ∷ []) ≡ 0 ∷ 0 ∷ 1 ∷ 1 ∷ 2 ∷ 2 ∷ 3 ∷ 3 ∷ []
defined = refl

begun : map begun_by (0 ∷ 1 ∷ 272 ∷ 273 ∷ 274 ∷ 275 ∷ 1088 ∷ []) ≡ 0 ∷ 1 ∷ 1 ∷ 2 ∷ 2 ∷ 2 ∷ 4 ∷ []
begun = refl

-- a symbol of 1512 steps is compared once all of them are known, but for start any the first one is not
all_known : is_compared base 0 (λ σ. replicate 1512 false) ≡ true
unfolding is_compared steps_before settings_in numbers
all_known = refl

one_unknown : is_compared base 0 (λ σ. replicate 1511 false) ≡ false
unfolding is_compared steps_before settings_in numbers
one_unknown = refl

any_start : is_compared midst 0 (λ σ. replicate 3024 false) ≡ false
unfolding is_compared steps_before settings_in numbers
any_start = refl

second_symbol : is_compared midst 1 (λ σ. replicate 3024 false) ≡ true
unfolding is_compared steps_before settings_in numbers
second_symbol = refl

-- three bits of one byte, and none
repaired : bits_apart (replicate 203 0 ++ 7 ∷ []) (replicate 204 0) ∷ bits_apart (replicate 204 71) (replicate 204 71) ∷ [] ≡ 3 ∷ 0 ∷ []
unfolding numbers
repaired = refl
