-- The capacity of a buffer.
use Rattle.std.specs.Prelude.{ℕ, length, Option, None, Some}
use Rattle.std.specs.Global.{Vec}

-- the bytes that memory was found for
abbrev pub room_of : Option (Vec ℕ) → ℕ
room_of None = 0
room_of (Some memory) = length memory.items
