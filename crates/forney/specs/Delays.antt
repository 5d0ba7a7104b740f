-- The contents of twelve delay lines.
use Rattle.std.specs.Prelude.{◌≡◌, ℕ, ◌+◌, ◌-◌, ◌*◌, ◌%◌, ◌<◌, List, [], length, slice_index_or}
use Rattle.circular_buffer.specs.Buffer.{Buffer, buffer}
use Rattle.forney.specs.Values.{values, stream_of}
use Rattle.forney.specs.Interleaving.{delayed}

-- twelve delay lines, and the branch of the next byte
pub record Delays : Type 0 where
  pub lines : List (Buffer ℕ)
  pub next : ℕ

-- the twelve delay lines, and the branch of the next byte
abbrev pub delays : List (Buffer ℕ) → ℕ → Delays
delays lines next = record { lines = lines; next = next }

-- the delay of a branch at the sender, in words
abbrev pub rising : ℕ → ℕ
rising branch = branch

-- the delay of a branch at the receiver, in words
abbrev pub falling : ℕ → ℕ
falling branch = 11 - branch

-- byte p of a stream, with these delays of the branches
abbrev pub branched_at : (ℕ → ℕ) → (ℕ → ℕ) → ℕ → ℕ
branched_at delay stream p = delayed stream p (204 * delay (p % 12))

-- the position of the next byte of a branch, after n bytes
abbrev pub next_of : ℕ → ℕ → ℕ
next_of n branch = n + (branch + 12 - n % 12) % 12

-- the contents of the line of a branch with a delay of d words
abbrev pub waiting : ℕ → List ℕ → ℕ → List ℕ
waiting d bytes branch = values (λ k. delayed (stream_of bytes) (next_of (length bytes) branch + 12 * k) (204 * d)) 0
    (17 * d)

-- the delay line of a branch
abbrev pub line : List (Buffer ℕ) → ℕ → Buffer ℕ
line lines branch = slice_index_or lines branch (buffer [] 0)

-- the lines after these bytes, with these delays of the branches
pub record StandsFor (delay : ℕ → ℕ) (delays : Delays) (bytes : List ℕ) : Type 0 where
  pub twelve : length delays.lines ≡ 12
  pub turn : delays.next ≡ length bytes % 12
  pub holds : (branch : ℕ) → branch < 12 → line delays.lines branch
      ≡ buffer (waiting (delay branch) bytes branch) (17 * delay branch)

-- an interleaver after these coded bytes
abbrev pub Interleaves : Delays → List ℕ → Type 0
Interleaves delays coded = StandsFor rising delays coded

-- a deinterleaver after these interleaved bytes
abbrev pub Deinterleaves : Delays → List ℕ → Type 0
Deinterleaves delays bytes = StandsFor falling delays bytes
