-- The meaning of a decoded word.
use Rattle.std.specs.Prelude.{◌≡◌, ℕ, ◌<◌, ◌≤◌, List}
use Rattle.rs204.specs.Codes.{IsCodeword, distance}
use Rattle.rs204.specs.declared.outcome.Outcome.{Outcome}
use Rattle.rs204.specs.declared.outcome.Outcome.TheVariants.{Clean, Corrected, Bad}

-- no codeword is within distance 8 of the word
abbrev pub IsFar : List ℕ → Type 0
IsFar word = (c : List ℕ) → IsCodeword c → 8 < distance word c

-- the received word, the word after decoding, and the outcome
abbrev pub Decoded : List ℕ → List ℕ → Outcome → Type 0
Decoded old new Clean = IsCodeword old × (new ≡ old)
Decoded old new (Corrected n) = IsCodeword new × (distance old new ≡ n) × (1 ≤ n) × (n ≤ 8)
Decoded old new Bad = (new ≡ old) × IsFar old

-- a codeword at distance n from the word, n being 1 to 8
pub record IsNearBy (word : List ℕ) (n : ℕ) (c : List ℕ) : Type 0 where
  pub code : IsCodeword c
  pub apart : distance word c ≡ n
  pub some : 1 ≤ n
  pub few : n ≤ 8
