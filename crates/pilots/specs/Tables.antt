-- The contents of the code's tables, as sets and lists of carriers within a period of 1704.
use Rattle.std.specs.Prelude.{ℕ, ◌+◌, ◌*◌, ◌/◌, ◌%◌, ◌==◌, ◌||◌, Bool, not, List, [], slice_index, get_or, count_by}
use Rattle.spec_words.specs.Words.{numbers}
use Rattle.spec_words.specs.Bits.{is_set}
use Rattle.pilots.specs.declared.sets.TheConstants.{CONTINUAL, TPS, PAYLOAD, BELOW}
use Rattle.pilots.specs.declared.sequence.TheConstants.{BITS}
use Rattle.pilots.specs.declared.payload_carriers.TheConstants.{PAYLOAD_CARRIERS}

-- whether a carrier is in a set kept as the bits of words
unfoldable pub in_set : List ℕ → ℕ → Bool
in_set words place = is_set (slice_index words (place / 64)) (place % 64)

-- the set of the continual pilots
unfoldable pub continual_set : List ℕ
continual_set = CONTINUAL

-- the set of the TPS carriers
unfoldable pub tps_set : List ℕ
tps_set = TPS

-- the sets of the payload carriers, by symbol number modulo 4
unfoldable pub payload_set : ℕ → List ℕ
payload_set symbol = get_or PAYLOAD symbol []

-- the number of payload carriers below each word of such a set
unfoldable pub below_words : ℕ → List ℕ
below_words symbol = get_or BELOW symbol []

-- the payload carriers of a period
unfoldable pub payload_places : ℕ → List ℕ
payload_places symbol = get_or PAYLOAD_CARRIERS symbol []

-- the number of members of a set below a carrier
unfoldable pub rank : List ℕ → List ℕ → ℕ → ℕ
rank set below place = slice_index below (place / 64) + count_by (is_set (slice_index set (place / 64))) (numbers
    (place % 64))

-- whether a carrier is neither a pilot nor a TPS carrier
unfoldable pub is_free : ℕ → ℕ → Bool
is_free symbol place = not (in_set continual_set place || place % 12 == 3 * symbol || in_set tps_set place)

-- the bits of the reference sequence
unfoldable pub reference_words : List ℕ
reference_words = BITS
