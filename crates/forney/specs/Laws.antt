-- The laws of both interleavers. Each is the clause of a public function.
use Rattle.std.specs.Prelude.{◌≡◌, ℕ, ◌<◌, List, length}
use Rattle.forney.specs.Values.{values, stream_of}
use Rattle.forney.specs.Interleaving.{delayed, interleaved, deinterleaved, interleaved_bytes}

-- interleaver and deinterleaver together delay by eleven words of 204 bytes
abbrev pub ElevenWords : Type 0
ElevenWords = (coded : ℕ → ℕ) (p : ℕ) → deinterleaved (interleaved coded) p ≡ delayed coded p 2244

-- the same for a list of bytes
abbrev pub ElevenWordsOfBytes : Type 0
ElevenWordsOfBytes = (coded : List ℕ) (p : ℕ) → p < length coded → deinterleaved (stream_of (interleaved_bytes coded)) p
    ≡ delayed (stream_of coded) p 2244

-- the first n interleaved bytes depend only on the first n bytes
abbrev pub FirstInterleaved : Type 0
FirstInterleaved = (coded : ℕ → ℕ) (n : ℕ) → interleaved_bytes (values coded 0 n) ≡ values (interleaved coded) 0 n

-- deinterleaved byte p depends on no byte after byte p
abbrev pub FirstDeinterleaved : Type 0
FirstDeinterleaved = (bytes : ℕ → ℕ) (n p : ℕ) → p < n → deinterleaved (stream_of (values bytes 0 n)) p
    ≡ deinterleaved bytes p
