-- The interleaved and the deinterleaved stream (EN 300 744, 4.3.2: convolutional interleaver of depth 12, cells of 17
-- bytes). The delay lines start full of zeros.
use Rattle.std.specs.Prelude.{ℕ, ◌-◌, ◌*◌, ◌%◌, ltb, cond, List, length}
use Rattle.forney.specs.Values.{values, stream_of}

-- byte p - d of a stream, 0 before its start
abbrev pub delayed : (ℕ → ℕ) → ℕ → ℕ → ℕ
delayed stream p d = cond (ltb p d) 0 (stream (p - d))

-- byte p of the interleaved stream: branch p mod 12 delays by p mod 12 words of 204 bytes
abbrev pub interleaved : (ℕ → ℕ) → ℕ → ℕ
interleaved coded p = delayed coded p (204 * (p % 12))

-- byte p of the deinterleaved stream
abbrev pub deinterleaved : (ℕ → ℕ) → ℕ → ℕ
deinterleaved bytes p = delayed bytes p (204 * (11 - p % 12))

-- the interleaved bytes of a finite list, as many as it has
unfoldable pub interleaved_bytes : List ℕ → List ℕ
interleaved_bytes coded = values (interleaved (stream_of coded)) 0 (length coded)
