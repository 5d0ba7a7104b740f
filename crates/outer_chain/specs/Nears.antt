-- What the decoding of a word shows.
use Rattle.std.specs.Prelude.{◌≡◌, ℕ, ◌↔◌, true, Option, Some, None, List, length}
use Rattle.rs204.specs.Codes.{IsCodeword}
use Rattle.rs204.specs.Decoded.{Decoded}
use Rattle.rs204.specs.declared.outcome.Outcome.{Outcome}
use Rattle.rs204.specs.declared.outcome.Outcome.TheVariants.{Clean, Corrected, Bad}
use Rattle.outer_chain.specs.Words.{IsNear, packet_of, is_clean}

-- the decoded word, if it is a codeword
abbrev pub near_of : Outcome → List ℕ → Option (List ℕ)
near_of Clean word = Some word
near_of (Corrected n) word = Some word
near_of Bad word = None

-- decoding a word finds its nearest codeword
abbrev pub DecodedIsNear : Type 0
DecodedIsNear = (old new : List ℕ) (outcome : Outcome) → length old ≡ 204 → Decoded old new outcome
    → IsNear old (near_of outcome new)

-- and the decoded word gives the same packet as the received word
abbrev pub DecodedPacket : Type 0
DecodedPacket = (old new : List ℕ) (outcome : Outcome) (phase : ℕ) → Decoded old new outcome
    → packet_of phase new (near_of outcome new) ≡ packet_of phase old (near_of outcome new)

-- a word counts as clean exactly if it is a codeword
abbrev pub CleanIsCodeword : Type 0
CleanIsCodeword = (word : List ℕ) (near : Option (List ℕ)) → length word ≡ 204 → IsNear word near
    → (is_clean word near ≡ true) ↔ IsCodeword word
