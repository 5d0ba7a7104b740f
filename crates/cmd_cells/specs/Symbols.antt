-- Bytes of cells, divided into symbols of `size` bytes.
use Rattle.std.specs.Prelude.{ℕ, ◌*◌, ◌/◌, ◌%◌, List, length, take}

-- the number of whole symbols in the bytes
abbrev pub symbols : ℕ → List ℕ → ℕ
symbols size bytes = length bytes / size

-- the number of bytes after them
abbrev pub tail : ℕ → List ℕ → ℕ
tail size bytes = length bytes % size

-- the bytes of at most `most` symbols
abbrev pub within_limit : ℕ → ℕ → List ℕ → List ℕ
within_limit most size bytes = take (most * size) bytes
