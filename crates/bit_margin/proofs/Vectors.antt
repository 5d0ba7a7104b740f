-- Worked values of the definitions.
use Rattle.std.proofs.Common.{◌≡◌, ◌/◌, ◌%◌, Bool, true, false, List, [], ◌∷◌, ◌++◌, length, take, replicate, refl, sym, ap, ap₂, ◌∙◌, arith}
use Rattle.std.proofs.lemmas.List.{take_all, take_more}
use Rattle.std.specs.declared.option.Option.TheVariants.{None, Some}
use Rattle.spec_words.specs.Bits.{bit}
use Rattle.code_paths.specs.declared.costs.CostPair.{CostPair}
use Rattle.code_paths.specs.Paths.{total}
use Rattle.bit_margin.specs.Margin.{IsMargin, window, window_start}

-- X costs 0 or 5, Y costs 0 or 7
abbrev pair : CostPair
pair = record { x0 = 0; x1 = 5; y0 = 0; y1 = 7; small = record { x0_small = omega arith; x1_small = omega arith; y0_small = omega arith; y1_small = omega arith } }

abbrev zeros : List Bool
zeros = false ∷ false ∷ false ∷ false ∷ false ∷ false ∷ []

whole : (q : List Bool) (b : Bool) → length q ≡ 7 → take 6 q ≡ zeros → bit q 6 ≡ b → q ≡ zeros ++ b ∷ []
whole q b l s e = sym (take_all 7 q (omega (arith, l))) ∙ take_more q 6 false (omega (arith, l)) ∙ ap₂ (λ (z : List Bool) (h : Bool). z ++ h ∷ []) s e

-- from 000000 the step on 0 costs 0, and that on 1 costs 5 and 7
from_zero : IsMargin (Some zeros) (pair ∷ []) 0 12
from_zero = record {
  with_zero = 0;
  with_one = 12;
  zero = record { path = zeros ++ false ∷ []; is_path = record { long = refl; start = refl }; has = refl; is = refl; least = λ q i e. omega arith };
  one = record {
    path = zeros ++ true ∷ [];
    is_path = record { long = refl; start = refl };
    has = refl;
    is = refl;
    least = λ q i e. let f : total (pair ∷ []) q ≡ 12 = ap (total (pair ∷ [])) (whole q true i.long i.start e) in omega (arith, f);
  };
  is = refl;
}

-- from any register both may cost 0: on 1 from the register whose only one is the oldest bit
from_any : IsMargin None (pair ∷ []) 0 0
from_any = record {
  with_zero = 0;
  with_one = 0;
  zero = record { path = zeros ++ false ∷ []; is_path = record { long = refl; start = tt }; has = refl; is = refl; least = λ q i e. omega arith };
  one = record { path = true ∷ false ∷ false ∷ false ∷ false ∷ false ∷ true ∷ []; is_path = record { long = refl; start = tt }; has = refl; is = refl; least = λ q i e. omega arith };
  is = refl;
}

-- the windows of 1300 steps: a block of 1024 with 256 more, and the remaining 276
first_window : length (window (replicate 1300 pair) 0) ≡ 1280
first_window = refl

last_window : length (window (replicate 1300 pair) 1) ≡ 276
last_window = refl

-- a known start applies only to the first block
first_start : window_start (Some zeros) (1023 / 1024) ≡ Some zeros
first_start = refl

later_start : window_start (Some zeros) (1024 / 1024) ≡ None
later_start = refl

place_in_block : 1300 % 1024 ≡ 276
place_in_block = refl
