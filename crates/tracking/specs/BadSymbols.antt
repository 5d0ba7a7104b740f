-- Bad symbols, for example hit by an impulse: they differ from their neighbours far more than the symbols around them.
use Rattle.std.specs.Prelude.{ℕ, ◌+◌, ◌-◌, ◌*◌, min, nat_lt, Bool, if◌then◌else◌, List, map}
use Rattle.track_arithmetic.specs.Middle.{middle_of}
use Rattle.tracking.specs.Comb.{Comb, change, window, window_end}

-- the change from symbol t to its nearer neighbour in the window of symbol m; 0 without neighbours
unfoldable pub lesser_change : Comb → ℕ → ℕ → ℕ
lesser_change c m t =
    if nat_lt (m - 7) t then if nat_lt (t + 1) (window_end c m) then min (change c t) (change c (t + 1)) else change c t
    else if nat_lt (t + 1) (window_end c m) then change c (t + 1) else 0

-- the median of these changes over the window
unfoldable pub middle : Comb → ℕ → ℕ
middle c m = middle_of (map (lesser_change c m) (window c m))

-- whether symbol t in the window of symbol m is bad
unfoldable pub is_bad : Comb → ℕ → ℕ → Bool
is_bad c m t = nat_lt (4 * middle c m) (lesser_change c m t)
