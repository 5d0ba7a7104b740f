-- The laws of the code. Each is the clause of a public function of module laws.
use Rattle.std.specs.Prelude.{◌≡◌, ◌≢◌, ℕ, ◌≤◌, List, length, take}
use Rattle.rs204.specs.Codes.{AreBytes, IsCodeword, codeword, distance}

-- two different codewords differ in at least 17 positions
abbrev pub CodewordsApart : Type 0
CodewordsApart = (v w : List ℕ) → IsCodeword v → IsCodeword w → v ≢ w → 17 ≤ distance v w

-- so at most one codeword is within distance 8 of a word
abbrev pub OneIsNear : Type 0
OneIsNear = (word v w : List ℕ) → length word ≡ 204 → IsCodeword v → IsCodeword w → distance word v ≤ 8
    → distance word w ≤ 8 → v ≡ w

-- the codeword of a message is a codeword that begins with it
pub record IsCodewordOf (message word : List ℕ) : Type 0 where
  pub code : IsCodeword word
  pub begins : take 188 word ≡ message

-- every message of 188 bytes has a codeword
abbrev pub MessageHasCodeword : Type 0
MessageHasCodeword = (message : List ℕ) → length message ≡ 188 → AreBytes message
    → IsCodewordOf message (codeword message)

-- and it is the only one
abbrev pub CodewordIsOne : Type 0
CodewordIsOne = (message word : List ℕ) → IsCodewordOf message word → word ≡ codeword message
