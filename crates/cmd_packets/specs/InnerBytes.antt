-- Bytes after the inner code (EN 300 744, 4.3.3).
use Rattle.std.specs.Prelude.{ℕ, ◌*◌, Bool, false, List, ◌++◌, length, replicate}
use Rattle.mode_set.specs.declared.modes.Rate.{Rate}
use Rattle.forney.specs.Values.{stream_of}
use Rattle.outer_chain.specs.Bits.{bytes_of}
use Rattle.puncture.specs.SentBits.{path_of, sent_bits}
use Rattle.puncture.specs.Steps.{sent_before}

-- the bits sent for six zeros and then the bits of these bytes, one step for each of the latter
abbrev pub inner_bits : Rate → List ℕ → List Bool
inner_bits r bytes = sent_bits r (path_of (stream_of bytes)) 0 (sent_before r (8 * length bytes))

-- bits followed by seven zeros, which fill the last byte if it is not whole
abbrev pub filled : List Bool → List Bool
filled bits = bits ++ replicate 7 false

-- the whole bytes of those bits, and the same with the last byte filled with zeros
abbrev pub inner_bytes : Rate → List ℕ → List ℕ
inner_bytes r bytes = bytes_of (inner_bits r bytes)

-- the same, with the last byte filled with zeros
abbrev pub filled_inner_bytes : Rate → List ℕ → List ℕ
filled_inner_bytes r bytes = bytes_of (filled (inner_bits r bytes))
