-- A measurement compares received cells with those remade from the decoded bits. If decoding was right, these are the
-- cells sent.
use Rattle.std.specs.Prelude.{◌≡◌, ℕ, ◌+◌, ◌*◌, ◌<◌, ◌≤◌, IsTrue, if◌then◌else◌, Bool, List, length, map, sum_by}
use Rattle.spec_words.specs.Words.{numbers}
use Rattle.mode_set.specs.StreamTable.{payload}
use Rattle.mode_set.specs.declared.modes.Stream.{Stream}
use Rattle.mode_set.specs.declared.settings.Settings.{Settings}
use Rattle.outer_chain.specs.Bits.{bit_of_stream}
use Rattle.outer_chain.specs.Sent.{outer_byte}
use Rattle.transmission.specs.Transmission.{Inputs, tx_cell}
use Rattle.measure_report.specs.declared.sums.SuperFrame.{SuperFrame}
use Rattle.measure_sums.specs.Comparing.{Comparison, carrier_at, received, remade, squared_distance, over_counted}
use Rattle.measurement.specs.Known.{is_present, is_compared, comparison}
use Rattle.measurement.specs.SuperFrames.{Knowns, symbols_of, AreSums}

-- the first n bits sent for a stream's packets and the null packets after them
abbrev pub first_bits : List (List ℕ) → ℕ → List Bool
first_bits packets n = map (bit_of_stream (outer_byte packets)) (numbers n)

-- these bits are the first ones sent
abbrev pub AreFirstSent : List (List ℕ) → List Bool → Type 0
AreFirstSent packets bits = bits ≡ first_bits packets (length bits)

-- the known bits of each stream that exists in symbol m are the first ones sent
abbrev pub AreSentIn : Settings → Inputs → ℕ → (Stream → List Bool) → Type 0
AreSentIn s inputs m known = (σ : Stream) → IsTrue (is_present s m σ) → AreFirstSent (inputs σ) (known σ)

-- then the remade cells of a compared symbol are the cells sent, for either start
abbrev pub RemadeAreSent : Type 0
RemadeAreSent = (s : Settings) (inputs : Inputs) (bytes : List ℕ) (m : ℕ) (known : Stream → List Bool) (q : ℕ)
    → IsTrue (is_compared s m known) → AreSentIn s inputs m known → q < payload s.mode
    → remade (comparison s bytes known m) q ≡ tx_cell s inputs m (carrier_at (comparison s bytes known m) q)

-- the squared distances of the received cells of symbol m from the cells sent, over the carriers that count
abbrev pub sent_error : Settings → Inputs → ℕ → Comparison → ℕ
sent_error s inputs m x = over_counted x (λ q. squared_distance (received x q) (tx_cell s inputs m (carrier_at x q)))

-- their sum over the compared symbols of super-frame j
abbrev pub sent_error_in : Settings → Inputs → List ℕ → Knowns → ℕ → ℕ
sent_error_in s inputs bytes known j = sum_by (λ m. if is_compared s m (known m) then sent_error s inputs m
    (comparison s bytes (known m) m) else 0) (symbols_of j)

-- the known bits of all compared symbols of super-frame j are the bits sent
abbrev pub AreAllSent : Settings → Inputs → Knowns → ℕ → Type 0
AreAllSent s inputs known j = (m : ℕ) → 272 * j ≤ m → m < 272 * (j + 1) → IsTrue (is_compared s m (known m))
    → AreSentIn s inputs m (known m)

-- then the error of the super-frame is the error against the cells sent, whatever was received
abbrev pub ErrorIsFromSent : Type 0
ErrorIsFromSent = (s : Settings) (inputs : Inputs) (bytes : List ℕ) (j : ℕ) (f : SuperFrame) (a : AreSums s bytes j f)
    → AreAllSent s inputs a.known j → f.error ≡ sent_error_in s inputs bytes a.known j
