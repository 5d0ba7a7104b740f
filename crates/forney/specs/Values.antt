-- Streams and their prefixes. A stream gives byte p for every p.
use Rattle.std.specs.Prelude.{ℕ, zero, suc, List, [], ◌∷◌, slice_index}

-- the n values of f from index i on
unfoldable pub values : (ℕ → ℕ) → ℕ → ℕ → List ℕ
values f i zero = []
values f i (suc n) = f i ∷ values f (suc i) n

-- a list of bytes as a stream, 0 past its end
abbrev pub stream_of : List ℕ → ℕ → ℕ
stream_of bytes p = slice_index bytes p
