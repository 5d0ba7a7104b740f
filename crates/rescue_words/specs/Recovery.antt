-- The recovery of a received word by the margins of its bytes (EN 300 744, 4.3.2; erasing the eight bytes of least
-- margin is this project's profile).
use Rattle.std.specs.Prelude.{ℕ, List, Option, Some, None}
use Rattle.bit_margin.specs.Places.{AreLeast}
use Rattle.rs_erasure.specs.Outside.{IsOutside, IsFarOutside}
use Rattle.outer_chain.specs.Words.{IsNear}

-- the nearest codeword, a codeword found by erasures, or none
pub data Recovery : Type 0 where
  Nearest : List ℕ → Recovery
  Rescued : List ℕ → Recovery
  Lost : Recovery

-- c is the codeword close to the word outside its eight positions of least margin
pub record IsSaved (word margins c : List ℕ) : Type 0 where
  pub erased : List ℕ
  pub least : AreLeast margins 204 erased
  pub apart : ℕ
  pub outside : IsOutside word erased apart c

-- no codeword is close to it outside these positions
pub record IsLost (word margins : List ℕ) : Type 0 where
  pub erased : List ℕ
  pub least : AreLeast margins 204 erased
  pub far : IsFarOutside word erased

-- the nearest codeword, if there is one; otherwise the one close outside the eight positions of least margin, if there
-- is one
abbrev pub IsRecovery : List ℕ → List ℕ → Recovery → Type 0
IsRecovery word margins (Nearest c) = IsNear word (Some c)
IsRecovery word margins (Rescued c) = IsNear word None × IsSaved word margins c
IsRecovery word margins Lost = IsNear word None × IsLost word margins

-- the codeword, if there is one
abbrev pub codeword_of : Recovery → Option (List ℕ)
codeword_of (Nearest c) = Some c
codeword_of (Rescued c) = Some c
codeword_of Lost = None
