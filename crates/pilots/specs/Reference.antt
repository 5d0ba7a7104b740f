-- The reference sequence (EN 300 744, 4.5.2).
use Rattle.std.specs.Prelude.{ℕ, zero, suc, Bool, true, List, [], ◌∷◌, ◌++◌, replicate, drop}
use Rattle.spec_words.specs.Bits.{bit, xor}

-- w_k to w_(k+10): initially eleven ones; each new last one is the sum of those 11 and 9 places before
unfoldable pub eleven_from : ℕ → List Bool
eleven_from zero = replicate 11 true
eleven_from (suc k) = drop 1 (eleven_from k) ++ xor (bit (eleven_from k) 0) (bit (eleven_from k) 2) ∷ []

-- w_k
unfoldable pub reference : ℕ → Bool
reference k = bit (eleven_from k) 0
