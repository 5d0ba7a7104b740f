-- From the bits of a stream to known bits and words.
use Rattle.std.specs.Prelude.{◌≡◌, ℕ, ◌+◌, ◌/◌, ◌<◌, Bool, List, ◌++◌, All, length, take, drop}
use Rattle.bit_pack.specs.Queue.{bits_of_bytes}
use Rattle.inner_decoder.specs.Running.{BranchState}
use Rattle.measure_known_bits.specs.Seen.{KnownState}
use Rattle.measure_words.specs.Seen.{WordsState}
use Rattle.measure_words.specs.Counted.{Measures}

-- Whole bytes of these bits went to the words; the rest is part of a byte.
pub record HasBits (part : List Bool) (words : WordsState) (bits : List Bool) (done from limit : ℕ) : Type 0 where
  pub bytes : List ℕ
  pub is : bits ≡ bits_of_bytes bytes ++ part
  pub small : All (λ b. b < 256) bytes
  pub measures : Measures words bytes done from limit

-- the first n pending bits of the decoder were passed on
pub record Takes (n : ℕ) (old_branch : BranchState) (old_known : KnownState) (old_part : List Bool)
    (old_words : WordsState) (branch : BranchState) (known : KnownState) (part : List Bool) (words : WordsState) : Type
    0 where
  pub wait : branch ≡ record old_branch { wait = drop n old_branch.wait }
  pub known_more : known ≡ record old_known { waiting = old_known.waiting ++ take n old_branch.wait }
  pub few : length part < 8
  pub all : words.all ≡ old_words.all
  pub bits : (bits : List Bool) (done from limit : ℕ) → HasBits old_part old_words bits done from limit
      → HasBits part words (bits ++ take n old_branch.wait) done from limit

-- with n more bits fewer than 24 words wait to be decoded
pub record HasRoom (part : List Bool) (words : WordsState) (n : ℕ) : Type 0 where
  pub bits : List Bool
  pub done : ℕ
  pub from : ℕ
  pub limit : ℕ
  pub has : HasBits part words bits done from limit
  pub few : (length bits + n) / 1632 < 35 + done
