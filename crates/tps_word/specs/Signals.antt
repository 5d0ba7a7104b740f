-- The fields that bits with a few errors signal (this project's choice: two errors are corrected, as many as EN 300
-- 744, 4.6.2.11 allows).
use Rattle.std.specs.Prelude.{◌≡◌, ◌≤◌, Bool, List, length}
use Rattle.tps_bch.specs.Bch.{IsTpsWord, bit_distance}
use Rattle.tps_word.specs.Tps.{tps_word, IsValid}
use Rattle.tps_word.specs.declared.word.TpsWord.{TpsWord}

-- the bits are within two errors of the word of these fields, which is a word of the code and valid
pub record Signals (bits : List Bool) (fields : TpsWord) : Type 0 where
  pub is_word : IsTpsWord (tps_word fields)
  pub close : bit_distance bits (tps_word fields) ≤ 2
  pub valid : IsValid fields

-- 67 bits signal at most one set of fields
abbrev pub OneSignalled : Type 0
OneSignalled = (bits : List Bool) (fields other : TpsWord) → length bits ≡ 67 → Signals bits fields → Signals bits other
    → fields ≡ other
