-- The aligned cells of bytes, and of bytes that continue.
use Rattle.std.proofs.Common.{◌≡◌, ℕ, ◌+◌, ◌-◌, ◌*◌, ◌%◌, ◌<◌, ◌≤◌, List, [], ◌++◌, ◌⊎◌, inl, inr, length, take, drop, ◌∙◌, sym, ap, arith, append_assoc, take-append-drop, length-take-le}
use Rattle.std.proofs.lemmas.Bool.{cases_lt}
use Rattle.std.proofs.lemmas.List.{length-append, take_all, take-append-le}
use Rattle.std.proofs.lemmas.Nat.{div-add-mod', mul-le}
use Rattle.std.proofs.Math.Nat.{div-mul-le_self, mod-lt}
use Rattle.std.proofs.Math.Seq.{take-append-add}
use Rattle.cmd_cells.proofs.Counting as counting
use Rattle.mode_set.specs.StreamTable.{carriers}
use Rattle.mode_set.specs.declared.modes.Mode.{Mode}
use Rattle.mode_set.specs.declared.modes.Mode.TheVariants.{M2k, M8k}
use Rattle.mode_set.specs.declared.settings.Settings.{Settings}
use Rattle.reception.specs.Cells.{symbol_length, symbols, tail}
use Rattle.reception.specs.Laws.{EndsSymbol, IsWithin, OneSymbolMore, SameSymbols}
use Rattle.reception.specs.WholeSymbols.{whole_symbols}
use Rattle.tune_in.specs.OfBytes.{rest}
use Rattle.tune_in.specs.Places.{begin}
use Rattle.tune_in.specs.declared.frame.Found.{Found}
use Rattle.tune_search.proofs.Bytes.{more_rest, no_rest, no_rest_yet, rest_tail, rest_whole, symbols_grow}
use Rattle.tune_search.proofs.Held.{some_bytes}
use Rattle.cmd_align.specs.Aligned.{within_limit}

-- ---- whole symbols

module _ (s : Settings) where
  abbrev size : ℕ
  size = symbol_length s

  cut : (bytes : List ℕ) → symbols s bytes * size + tail s bytes ≡ length bytes
  cut bytes = div-add-mod' (length bytes) size

  length_whole : (bytes : List ℕ) → length (whole_symbols s bytes) ≡ symbols s bytes * size
  length_whole bytes = length-take-le (symbols s bytes * size) bytes (div-mul-le_self (length bytes) size)

  -- whole symbols are all there is
  pub whole_all : (bytes : List ℕ) → tail s bytes ≡ 0 → whole_symbols s bytes ≡ bytes
  whole_all bytes none = take_all (symbols s bytes * size) bytes (omega (arith, cut bytes, none))

  pub whole_none : whole_symbols s [] ≡ []
  whole_none = take_all (symbols s [] * size) [] (omega arith)

  -- bytes that do not complete a symbol add none
  whole_part : SameSymbols → (bytes more : List ℕ) → IsWithin s bytes more → whole_symbols s (bytes ++ more) ≡ whole_symbols s bytes
  whole_part same bytes more within =
      ap (λ (n : ℕ). take (n * size) (bytes ++ more)) (same s bytes more within) ∙ take-append-le (symbols s bytes * size) bytes more (omega (arith, cut bytes))

  -- and more bytes only add some
  whole_grows : (bytes more : List ℕ) → (others : List ℕ) × (whole_symbols s (bytes ++ more) ≡ whole_symbols s bytes ++ others)
  whole_grows bytes more =
      let w : List ℕ = whole_symbols s bytes in
      let a : List ℕ = drop (symbols s bytes * size) bytes in
      let most : ℕ = symbols s (bytes ++ more) * size in
      let d : ℕ = most - length w in
      let enough : symbols s bytes * size ≤ most = mul-le (symbols s bytes) size (symbols s (bytes ++ more)) size (symbols_grow s bytes more) (omega arith) in
      let split : most ≡ length w + d = omega (arith, length_whole bytes, enough) in
      let is : bytes ++ more ≡ w ++ (a ++ more) = ap (λ (l : List ℕ). l ++ more) (sym (take-append-drop (symbols s bytes * size) bytes)) ∙ append_assoc w a more in
      (take d (a ++ more), ap (λ (n : ℕ). take n (bytes ++ more)) split ∙ ap (take (length w + d)) is ∙ take-append-add w (a ++ more) d)

-- part of a symbol after whole ones
part_behind : (m : Mode) (n k : ℕ) → n % (5 * carriers m) ≡ 0 → k < 5 * carriers m → (n + k) % (5 * carriers m) ≡ k
part_behind M2k n k none few = omega (arith, none, few)
part_behind M8k n k none few = omega (arith, none, few)

tail_of : (s : Settings) (bytes more : List ℕ) → tail s bytes ≡ 0 → length more < symbol_length s → tail s (bytes ++ more) ≡ length more
tail_of s bytes more none few = ap (λ (n : ℕ). n % symbol_length s) (length-append bytes more) ∙ part_behind s.mode (length bytes) (length more) none few

-- ---- the cells from the next super-frame on

module _ (s : Settings) (found : Found) where
  abbrev cells : List ℕ → List ℕ
  cells bytes = whole_symbols s (rest s bytes found)

  -- one more whole symbol
  pub next_symbol : OneSymbolMore → (bytes piece : List ℕ) → tail s bytes ≡ 0 → begin found ≤ symbols s bytes → length piece ≡ symbol_length s
      → (cells (bytes ++ piece) ≡ cells bytes ++ piece) × (symbols s (rest s (bytes ++ piece) found) ≡ symbols s (rest s bytes found) + 1) × (tail s (rest s (bytes ++ piece) found) ≡ 0) × (tail s (rest s bytes found) ≡ 0)
  next_symbol more bytes piece none reached long =
      let r : List ℕ = rest s bytes found in
      let r_whole : tail s r ≡ 0 = rest_whole s found bytes none in
      let is : rest s (bytes ++ piece) found ≡ r ++ piece = more_rest s found bytes piece reached in
      let ends : EndsSymbol s r piece = omega (arith, r_whole, long) in
      let next = more s r piece ends in (
        ap (whole_symbols s) is ∙ whole_all s (r ++ piece) next.1 ∙ ap (λ (l : List ℕ). l ++ piece) (sym (whole_all s r r_whole)),
        ap (symbols s) is ∙ next.0,
        ap (tail s) is ∙ next.1,
        r_whole,
      )

  -- before it there are none
  pub before_it : (bytes piece : List ℕ) → tail s bytes ≡ 0 → symbols s bytes + 1 ≤ begin found → length piece ≤ symbol_length s → rest s (bytes ++ piece) found ≡ rest s bytes found
  before_it bytes piece none l few = no_rest_yet s found bytes piece none l few ∙ sym (no_rest s found bytes l)

  -- bytes that do not complete a symbol
  pub part_symbol : SameSymbols → (bytes more : List ℕ) → IsWithin s bytes more → cells (bytes ++ more) ≡ cells bytes
  part_symbol same bytes more within = go (cases_lt (symbols s bytes) (begin found))
    where
      go : (symbols s bytes < begin found) ⊎ (begin found ≤ symbols s bytes) → cells (bytes ++ more) ≡ cells bytes
      go (inl before) =
          let none = no_rest s found bytes (omega (arith, before)) in
          let still = no_rest s found (bytes ++ more) (let e = same s bytes more within in omega (arith, before, e)) in
          ap (whole_symbols s) (still ∙ sym none)
      go (inr reached) =
          let within' : IsWithin s (rest s bytes found) more = (let t = rest_tail s found bytes reached in omega (arith, within, t)) in
          ap (whole_symbols s) (more_rest s found bytes more reached) ∙ whole_part s same (rest s bytes found) more within'

  pub part_tail : SameSymbols → (bytes more : List ℕ) → tail s bytes ≡ 0 → begin found ≤ symbols s bytes → length more < symbol_length s
      → (symbols s (rest s (bytes ++ more) found) ≡ symbols s (rest s bytes found)) × (tail s (rest s (bytes ++ more) found) ≡ length more)
  part_tail same bytes more none reached few =
      let r : List ℕ = rest s bytes found in
      let r_whole : tail s r ≡ 0 = rest_whole s found bytes none in
      let is : rest s (bytes ++ more) found ≡ r ++ more = more_rest s found bytes more reached in
      let within : IsWithin s r more = omega (arith, r_whole, few) in
      (ap (symbols s) is ∙ same s r more within, ap (tail s) is ∙ tail_of s r more r_whole few)

  -- more bytes add to them
  pub grows : (taken left : List ℕ) → (others : List ℕ) × (cells (taken ++ left) ≡ cells taken ++ others)
  grows taken left = go (cases_lt (symbols s taken) (begin found))
    where
      go : (symbols s taken < begin found) ⊎ (begin found ≤ symbols s taken) → (others : List ℕ) × (cells (taken ++ left) ≡ cells taken ++ others)
      go (inl before) = (cells (taken ++ left), ap (λ (l : List ℕ). l ++ cells (taken ++ left)) (sym (ap (whole_symbols s) (no_rest s found taken (omega (arith, before))) ∙ whole_none s)))
      go (inr reached) =
          let g = whole_grows s (rest s taken found) left in
          (g.0, ap (whole_symbols s) (more_rest s found taken left reached) ∙ g.1)

  -- also those within the limit
  pub grows_limited : SameSymbols → (taken left : List ℕ) → symbols s taken ≤ s.max_symbols → s.max_symbols < symbols s (taken ++ left)
      → (others : List ℕ) × (cells (within_limit s (taken ++ left)) ≡ cells taken ++ others)
  grows_limited same taken left few past =
      let file : List ℕ = taken ++ left in
      let t : List ℕ = whole_symbols s taken in
      let u : List ℕ = drop (symbols s taken * symbol_length s) taken in
      let q : ℕ = s.max_symbols * symbol_length s in
      let v : List ℕ = take (q - length t) (u ++ left) in
      let joined : t ++ u ≡ taken = take-append-drop (symbols s taken * symbol_length s) taken in
      let file_is : file ≡ t ++ (u ++ left) = ap (λ (l : List ℕ). l ++ left) (sym joined) ∙ append_assoc t u left in
      let long : length t ≤ q = omega (arith, length_whole s taken, mul-le (symbols s taken) (symbol_length s) s.max_symbols (symbol_length s) few (omega arith)) in
      let split : q ≡ length t + (q - length t) = omega (arith, long) in
      let within : within_limit s file ≡ t ++ v = ap (λ (n : ℕ). take n file) split ∙ ap (take (length t + (q - length t))) file_is ∙ take-append-add t (u ++ left) (q - length t) in
      let none : tail s t ≡ 0 = counting.no_tail (symbol_length s) (some_bytes s) t (symbols s taken) (length_whole s taken) in
      let less : tail s taken < symbol_length s = mod-lt (length taken) (some_bytes s) in
      let sum : length t + length u ≡ length taken = sym (length-append t u) ∙ ap length joined in
      let is_within : IsWithin s t u = omega (arith, none, less, sum, cut s taken, length_whole s taken) in
      let same_cells : cells taken ≡ cells t = ap cells (sym joined) ∙ part_symbol same t u is_within in
      let g = grows t v in
      (g.0, ap cells within ∙ g.1 ∙ ap (λ (l : List ℕ). l ++ g.0) (sym same_cells))
