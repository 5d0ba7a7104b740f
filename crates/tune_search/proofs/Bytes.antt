-- The bytes from the next super-frame on, and how many symbols they are.
use Rattle.std.proofs.Common.{◌≡◌, ℕ, ◌+◌, ◌-◌, ◌*◌, ◌/◌, ◌%◌, ◌<◌, ◌≤◌, List, [], ◌++◌, length, take, ◌∙◌, ap, arith, length-drop, length-take-le}
use Rattle.std.proofs.lemmas.List.{drop_all, drop-append-le, length-append}
use Rattle.mode_set.specs.StreamTable.{carriers}
use Rattle.mode_set.specs.declared.modes.Mode.{Mode}
use Rattle.mode_set.specs.declared.modes.Mode.TheVariants.{M2k, M8k}
use Rattle.mode_set.specs.declared.settings.Settings.{Settings}
use Rattle.reception.specs.Cells.{symbol_length, symbols, tail}
use Rattle.tune_in.specs.OfBytes.{rest}
use Rattle.tune_in.specs.Places.{begin}
use Rattle.tune_in.specs.declared.frame.Found.{Found}

-- ---- by the mode: whole symbols of n bytes

reached : (m : Mode) (n b : ℕ) → b ≤ n / (5 * carriers m) → b * (5 * carriers m) ≤ n
reached M2k n b l = omega (arith, l)
reached M8k n b l = omega (arith, l)

short_of : (m : Mode) (n k b : ℕ) → n % (5 * carriers m) ≡ 0 → n / (5 * carriers m) + 1 ≤ b → k ≤ 5 * carriers m → n + k ≤ b * (5 * carriers m)
short_of M2k n k b whole l few = omega (arith, whole, l, few)
short_of M8k n k b whole l few = omega (arith, whole, l, few)

shorter : (m : Mode) (n b : ℕ) → n / (5 * carriers m) + 1 ≤ b → n ≤ b * (5 * carriers m)
shorter M2k n b l = omega (arith, l)
shorter M8k n b l = omega (arith, l)

whole_within : (m : Mode) (n b : ℕ) → n % (5 * carriers m) ≡ 0 → n / (5 * carriers m) ≤ b → n ≤ b * (5 * carriers m)
whole_within M2k n b whole l = omega (arith, whole, l)
whole_within M8k n b whole l = omega (arith, whole, l)

whole_behind : (m : Mode) (n b : ℕ) → n % (5 * carriers m) ≡ 0 → (n - b * (5 * carriers m)) % (5 * carriers m) ≡ 0
whole_behind M2k n b whole = omega (arith, whole)
whole_behind M8k n b whole = omega (arith, whole)

tail_behind : (m : Mode) (n b : ℕ) → b * (5 * carriers m) ≤ n → (n - b * (5 * carriers m)) % (5 * carriers m) ≡ n % (5 * carriers m)
tail_behind M2k n b l = omega (arith, l)
tail_behind M8k n b l = omega (arith, l)

fewer_behind : (m : Mode) (n b : ℕ) → (n - b * (5 * carriers m)) / (5 * carriers m) ≤ n / (5 * carriers m)
fewer_behind M2k n b = omega arith
fewer_behind M8k n b = omega arith

grows : (m : Mode) (a b : ℕ) → a ≤ b → a / (5 * carriers m) ≤ b / (5 * carriers m)
grows M2k a b l = omega (arith, l)
grows M8k a b l = omega (arith, l)

-- the symbols of bytes of that many symbols
limited : (m : Mode) (n most : ℕ) → most < n / (5 * carriers m) → (most * (5 * carriers m) ≤ n) × ((most * (5 * carriers m)) / (5 * carriers m) ≡ most)
limited M2k n most l = (omega (arith, l), omega arith)
limited M8k n most l = (omega (arith, l), omega arith)

-- ---- the bytes after a place

pub symbols_grow : (s : Settings) (taken left : List ℕ) → symbols s taken ≤ symbols s (taken ++ left)
symbols_grow s taken left = grows s.mode (length taken) (length (taken ++ left)) (omega (arith, length-append taken left))

-- bytes of more symbols than the limit hold those within it
pub symbols_limited : (s : Settings) (bytes : List ℕ) → s.max_symbols < symbols s bytes → symbols s (take (s.max_symbols * symbol_length s) bytes) ≡ s.max_symbols
symbols_limited s bytes past =
    let l = limited s.mode (length bytes) s.max_symbols past in
    ap (λ (n : ℕ). n / symbol_length s) (length-take-le (s.max_symbols * symbol_length s) bytes l.0) ∙ l.1

pub same_length : (a s : Settings) → a.mode ≡ s.mode → symbol_length a ≡ symbol_length s
same_length a s same = ap (λ (m : Mode). 5 * carriers m) same

pub same_symbols : (a s : Settings) (bytes : List ℕ) → a.mode ≡ s.mode → symbols a bytes ≡ symbols s bytes
same_symbols a s bytes same = ap (λ (m : Mode). length bytes / (5 * carriers m)) same

pub same_tail : (a s : Settings) (bytes : List ℕ) → a.mode ≡ s.mode → tail a bytes ≡ tail s bytes
same_tail a s bytes same = ap (λ (m : Mode). length bytes % (5 * carriers m)) same

module _ (s : Settings) (found : Found) where
  abbrev pub start : ℕ
  start = begin found * symbol_length s

  length_rest : (bytes : List ℕ) → length (rest s bytes found) ≡ length bytes - start
  length_rest bytes = length-drop start bytes

  -- if the bytes reach the super-frame, more bytes follow
  pub more_rest : (bytes more : List ℕ) → begin found ≤ symbols s bytes → rest s (bytes ++ more) found ≡ rest s bytes found ++ more
  more_rest bytes more l = drop-append-le start bytes more (reached s.mode (length bytes) (begin found) l)

  -- if they do not, there is none
  pub no_rest : (bytes : List ℕ) → symbols s bytes + 1 ≤ begin found → rest s bytes found ≡ []
  no_rest bytes l = drop_all start bytes (shorter s.mode (length bytes) (begin found) l)

  pub no_rest_whole : (bytes : List ℕ) → tail s bytes ≡ 0 → symbols s bytes ≤ begin found → rest s bytes found ≡ []
  no_rest_whole bytes whole l = drop_all start bytes (whole_within s.mode (length bytes) (begin found) whole l)

  pub no_rest_yet : (bytes piece : List ℕ) → tail s bytes ≡ 0 → symbols s bytes + 1 ≤ begin found → length piece ≤ symbol_length s → rest s (bytes ++ piece) found ≡ []
  no_rest_yet bytes piece whole l few =
      drop_all start (bytes ++ piece) (let m = short_of s.mode (length bytes) (length piece) (begin found) whole l few in omega (arith, m, length-append bytes piece))

  pub rest_whole : (bytes : List ℕ) → tail s bytes ≡ 0 → tail s (rest s bytes found) ≡ 0
  rest_whole bytes whole = ap (λ (n : ℕ). n % symbol_length s) (length_rest bytes) ∙ whole_behind s.mode (length bytes) (begin found) whole

  pub rest_tail : (bytes : List ℕ) → begin found ≤ symbols s bytes → tail s (rest s bytes found) ≡ tail s bytes
  rest_tail bytes l = ap (λ (n : ℕ). n % symbol_length s) (length_rest bytes) ∙ tail_behind s.mode (length bytes) (begin found) (reached s.mode (length bytes) (begin found) l)

  pub rest_fewer : (bytes : List ℕ) → symbols s (rest s bytes found) ≤ symbols s bytes
  rest_fewer bytes = let e : symbols s (rest s bytes found) ≡ (length bytes - start) / symbol_length s = ap (λ (n : ℕ). n / symbol_length s) (length_rest bytes) in
      let f = fewer_behind s.mode (length bytes) (begin found) in omega (arith, e, f)
