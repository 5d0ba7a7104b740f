-- Where bytes stand among twelve words that are being filled.
use Rattle.std.proofs.Common.{◌≡◌, ◌≢◌, ℕ, ◌+◌, ◌-◌, ◌*◌, ◌%◌, ◌<◌, ◌≤◌, arith}
use Rattle.outer_chain.specs.Receiving.{place_of}

-- each place is 203 less than the one before, counted round the twelve words
pub place_line : (p : ℕ) → place_of p ≡ (2244 + 2245 * p) % 2448
place_line p = omega arith

line_next : (p : ℕ) → ((2244 + 2245 * p) % 2448 + 2245) % 2448 ≡ (2244 + 2245 * (p + 1)) % 2448
line_next p = omega arith

pub place_next : (p next after : ℕ) → next ≡ place_of p → after ≡ (next + 2245) % 2448 → after ≡ place_of (p + 1)
place_next p next after h e = omega (arith, h, e, place_line p, line_next p, place_line (p + 1))

pub place_apart : (p n : ℕ) → p < n → n < p + 2448 → place_of p ≢ place_of n
place_apart p n l m e = omega (arith, l, m, e, place_line p, place_line n)

-- where byte j of word w stands, the words of the start-up counted, by the byte of the stream that it is
pub place_within : (w j : ℕ) → j < 204 → 11 ≤ w → place_of (204 * (w - 11 + j % 12) + j) ≡ 204 * (w % 12) + j
place_within w j l m = omega (arith, l, m)

-- places of a run that does not pass the first of the twelve words
pub fallen : (next i : ℕ) → 203 * i ≤ next → next < 2448 → (next + 2245 * i) % 2448 ≡ next - 203 * i
fallen next i l m = omega (arith, l, m)

pub fallen_on : (next i : ℕ) → 203 * i ≤ next → next < 2448 → (next + 2245 * (i + 1)) % 2448 ≡ (next - 203 * i + 2245) % 2448
fallen_on next i l m = omega (arith, l, m)
