-- The lines of a place: the position of the frame, and the parameters announced in its TPS word (EN 300 744, 4.6.2), as
-- the settings file names them.
use Rattle.std.specs.Prelude.{◌≡◌, ℕ, List, [], ◌++◌, codes, Some, if◌then◌else◌}
use Rattle.mode_set.specs.Kept.{is_flat}
use Rattle.mode_set.specs.Values.{chosen, guard_words, hierarchy_words, rate_words, shape_words}
use Rattle.mode_set.specs.declared.modes.Shape.{Shape}
use Rattle.mode_set.specs.declared.modes.Shape.TheVariants.{Qpsk, Qam16, Qam64}
use Rattle.mode_set.specs.declared.modes.Hierarchy.{Hierarchy}
use Rattle.mode_set.specs.declared.modes.Hierarchy.TheVariants.{Flat, Alpha1, Alpha2, Alpha4}
use Rattle.mode_set.specs.declared.modes.Rate.{Rate}
use Rattle.mode_set.specs.declared.modes.Rate.TheVariants.{R1of2, R2of3, R3of4, R5of6, R7of8}
use Rattle.mode_set.specs.declared.modes.Guard.{Guard}
use Rattle.mode_set.specs.declared.modes.Guard.TheVariants.{G1of32, G1of16, G1of8, G1of4}
use Rattle.tune_search.specs.Searching.{place_line}
use Rattle.tps_word.specs.declared.word.TpsWord.{TpsWord}
use Rattle.tune_in.specs.declared.frame.Found.{Found}

-- the name of a constellation
abbrev pub shape_word : Shape → List ℕ
shape_word Qpsk = codes "qpsk"
shape_word Qam16 = codes "16qam"
shape_word Qam64 = codes "64qam"

-- the name of a hierarchy
abbrev pub hierarchy_word : Hierarchy → List ℕ
hierarchy_word Flat = codes "none"
hierarchy_word Alpha1 = codes "1"
hierarchy_word Alpha2 = codes "2"
hierarchy_word Alpha4 = codes "4"

-- the name of a code rate
abbrev pub rate_word : Rate → List ℕ
rate_word R1of2 = codes "1/2"
rate_word R2of3 = codes "2/3"
rate_word R3of4 = codes "3/4"
rate_word R5of6 = codes "5/6"
rate_word R7of8 = codes "7/8"

-- the name of a guard interval
abbrev pub guard_word : Guard → List ℕ
guard_word G1of32 = codes "1/32"
guard_word G1of16 = codes "1/16"
guard_word G1of8 = codes "1/8"
guard_word G1of4 = codes "1/4"

-- Each name selects the same value in a settings file.
pub record AreSettingsWords : Type 0 where
  pub shape : (x : Shape) → chosen shape_words (shape_word x) ≡ Some x
  pub hierarchy : (x : Hierarchy) → chosen hierarchy_words (hierarchy_word x) ≡ Some x
  pub rate : (x : Rate) → chosen rate_words (rate_word x) ≡ Some x
  pub guard : (x : Guard) → chosen guard_words (guard_word x) ≡ Some x

-- the rate of LP, if the word has a hierarchy
abbrev pub low_rate : TpsWord → List ℕ
low_rate word = if is_flat word.hierarchy then [] else codes " rate_lp " ++ rate_word word.rate_lp

-- the line of the announced parameters
abbrev pub announced_line : TpsWord → List ℕ
announced_line word =
    codes "announced constellation " ++ shape_word word.shape ++ codes " hierarchy " ++ hierarchy_word word.hierarchy
    ++ codes " rate_hp " ++ rate_word word.rate_hp ++ low_rate word ++ codes " guard " ++ guard_word word.guard
    ++ codes "\n"

-- the lines printed at the last symbol of a place
abbrev pub found_lines : Found → List ℕ
found_lines found = place_line found ++ announced_line found.word
