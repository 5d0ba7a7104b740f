-- The laws of rescued words. Each is the clause of a public function of module laws.
use Rattle.std.specs.Prelude.{◌≡◌, ℕ, ◌%◌, ◌⊎◌, List, [], ◌++◌, length, take}
use Rattle.rescue_words.specs.ByteMargins.{byte_margins}
use Rattle.rescue_words.specs.Recovery.{Recovery, IsRecovery}
use Rattle.rescue_words.specs.Rescued.{RescueTally, Rescues}
use Rattle.rescue_words.specs.Running.{WordsState, Stands}

-- the margins of bits that follow whole bytes
abbrev pub MoreByteMargins : Type 0
MoreByteMargins = (ms more : List ℕ) → length ms % 8 ≡ 0 → byte_margins (ms ++ more) ≡ byte_margins ms
    ++ byte_margins more

-- the recovery of a word is unique
abbrev pub OneRecovery : Type 0
OneRecovery = (word margins : List ℕ) (r q : Recovery) → length word ≡ 204 → IsRecovery word margins r
    → IsRecovery word margins q → r ≡ q

-- bytes and margins give one list of packets and one tally
abbrev pub OneRescue : Type 0
OneRescue = (bytes margins out other : List ℕ) (tally count : RescueTally) → Rescues bytes margins out tally
    → Rescues bytes margins other count → (out ≡ other) × (tally ≡ count)

-- more bytes and margins leave the packets already written
abbrev pub MoreRescued : Type 0
MoreRescued = (bytes margins more_bytes more_margins out longer : List ℕ) (tally count : RescueTally)
    → Rescues bytes margins out tally → Rescues (bytes ++ more_bytes) (margins ++ more_margins) longer count
    → take (length out) longer ≡ out

-- the output for bytes and as many margins does not change if more of one of them follow
abbrev pub AllRescued : Type 0
AllRescued = (s : WordsState) (bytes margins more_bytes more_margins out : List ℕ) (tally : RescueTally)
    → Stands s bytes margins out tally → (more_bytes ≡ []) ⊎ (more_margins ≡ [])
    → Rescues (bytes ++ more_bytes) (margins ++ more_margins) out tally
