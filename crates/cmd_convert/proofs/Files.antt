-- The new file of old cells, and of old cells that continue.
use Rattle.std.proofs.Common.{◌≡◌, ℕ, zero, suc, ◌+◌, ◌-◌, ◌*◌, ◌/◌, ◌%◌, ◌<◌, ◌≤◌, List, [], ◌∷◌, ◌++◌, length, take, drop, refl, ◌∙◌, sym, ap, arith, append_assoc}
use Rattle.std.specs.Prelude.{flat_map}
use Rattle.std.proofs.Math.Nat.{add-mul, div-eq_of_lt}
use Rattle.std.proofs.lemmas.Nat.{div-add-mod', div-mul-add, mod-mul-add, le-div}
use Rattle.std.proofs.lemmas.List.{append-nil, drop-append-le, take-append-le, take_all, length-drop, length-take-le, length-append, take-append-drop}
use Rattle.std.proofs.lemmas.List.Concat.{flat_map-append}
use Rattle.std.proofs.Math.Seq.{drop-append-add}
use Rattle.spec_words.specs.Words.{numbers}
use Rattle.spec_words.proofs.Counting.{numbers_end}
use Rattle.cmd_cells.specs.Symbols.{symbols, tail}
use Rattle.cmd_cells.proofs.Counting.{longer, no_tail, one_more, symbols_are}
use Rattle.cmd_convert.specs.Conversion.{Conversion, new_file, new_symbols, old_symbol}

pub no_symbols : (c : Conversion) (bytes : List ℕ) → new_symbols c 0 bytes ≡ []
unfolding new_symbols numbers
no_symbols c bytes = refl

-- one more symbol
pub one_symbol : (c : Conversion) (n : ℕ) (bytes : List ℕ) → new_symbols c (n + 1) bytes ≡ new_symbols c n bytes ++ c.new_symbol n (old_symbol c.size bytes n)
unfolding new_symbols
one_symbol c n bytes =
    ap (flat_map (λ k. c.new_symbol k (old_symbol c.size bytes k))) (numbers_end n)
    ∙ flat_map-append (λ k. c.new_symbol k (old_symbol c.size bytes k)) (numbers n) (n ∷ [])
    ∙ ap (λ (l : List ℕ). flat_map (λ k. c.new_symbol k (old_symbol c.size bytes k)) (numbers n) ++ l) (append-nil (c.new_symbol n (old_symbol c.size bytes n)))

-- a symbol of a prefix, and the one after whole symbols
symbol_before : (size n : ℕ) (bytes more : List ℕ) → (n + 1) * size ≤ length bytes → old_symbol size (bytes ++ more) n ≡ old_symbol size bytes n
symbol_before size n bytes more l =
    let next : (n + 1) * size ≡ n * size + size = one_more n size in
    let long : length (drop (n * size) bytes) ≡ length bytes - n * size = length-drop (n * size) bytes in
    ap (take size) (drop-append-le (n * size) bytes more (omega (arith, l, next))) ∙ take-append-le size (drop (n * size) bytes) more (omega (arith, l, next, long))

symbol_behind : (size n : ℕ) (bytes piece : List ℕ) → length bytes ≡ n * size → length piece ≡ size → old_symbol size (bytes ++ piece) n ≡ piece
symbol_behind size n bytes piece e l =
    let place : n * size ≡ length bytes + 0 = omega (arith, e) in
    ap (λ (z : ℕ). take size (drop z (bytes ++ piece))) place ∙ ap (take size) (drop-append-add bytes piece 0) ∙ take_all size piece (omega (arith, l))

-- the symbols of a prefix
pub symbols_before : (c : Conversion) (bytes more : List ℕ) (n : ℕ) → n * c.size ≤ length bytes → new_symbols c n (bytes ++ more) ≡ new_symbols c n bytes
symbols_before c bytes more zero l = no_symbols c (bytes ++ more) ∙ sym (no_symbols c bytes)
symbols_before c bytes more (suc n) l =
    let next : suc n ≡ n + 1 = omega arith in
    let size : suc n * c.size ≡ (n + 1) * c.size = ap (λ (z : ℕ). z * c.size) next in
    let step : (n + 1) * c.size ≡ n * c.size + c.size = one_more n c.size in
    ap (λ (z : ℕ). new_symbols c z (bytes ++ more)) next
    ∙ one_symbol c n (bytes ++ more)
    ∙ ap (λ (s : List ℕ). s ++ c.new_symbol n (old_symbol c.size (bytes ++ more) n)) (symbols_before c bytes more n (omega (arith, l, size, step)))
    ∙ ap (λ (s : List ℕ). new_symbols c n bytes ++ c.new_symbol n s) (symbol_before c.size n bytes more (omega (arith, l, size)))
    ∙ sym (one_symbol c n bytes)
    ∙ ap (λ (z : ℕ). new_symbols c z bytes) (sym next)

-- first symbols are a prefix of more symbols
symbols_begin : (c : Conversion) (bytes : List ℕ) (n k : ℕ) → (rest : List ℕ) × (new_symbols c (n + k) bytes ≡ new_symbols c n bytes ++ rest)
symbols_begin c bytes n zero = let none : n + 0 ≡ n = omega arith in ([], ap (λ (z : ℕ). new_symbols c z bytes) none ∙ sym (append-nil (new_symbols c n bytes)))
symbols_begin c bytes n (suc k) =
    let next : n + suc k ≡ n + k + 1 = omega arith in
    let b = symbols_begin c bytes n k in (
      b.0 ++ c.new_symbol (n + k) (old_symbol c.size bytes (n + k)),
      ap (λ (z : ℕ). new_symbols c z bytes) next
          ∙ one_symbol c (n + k) bytes
          ∙ ap (λ (s : List ℕ). s ++ c.new_symbol (n + k) (old_symbol c.size bytes (n + k))) b.1
          ∙ append_assoc (new_symbols c n bytes) b.0 (c.new_symbol (n + k) (old_symbol c.size bytes (n + k))),
    )

module _ (c : Conversion) (some : 0 < c.size) where
  abbrev size : ℕ
  size = c.size

  -- ---- numbers of symbols
  cut : (bytes : List ℕ) → symbols size bytes * size + tail size bytes ≡ length bytes
  cut bytes = div-add-mod' (length bytes) size

  at_least : (bytes : List ℕ) → symbols size bytes * size ≤ length bytes
  at_least bytes = omega (arith, cut bytes)

  no_fewer : (bytes more : List ℕ) → symbols size bytes ≤ symbols size (bytes ++ more)
  no_fewer bytes more = let sum = length-append bytes more in le-div (symbols size bytes) (length (bytes ++ more)) size some (omega (arith, at_least bytes, sum))

  more_whole : (bytes : List ℕ) (n : ℕ) → n < symbols size bytes → (n + 1) * size ≤ length bytes
  more_whole bytes n past =
      let rest : ℕ = symbols size bytes - (n + 1) in
      let sum : symbols size bytes ≡ n + 1 + rest = omega (arith, past) in
      let split : symbols size bytes * size ≡ (n + 1) * size + rest * size = ap (λ (z : ℕ). z * size) sum ∙ add-mul (n + 1) rest size in
      omega (arith, split, at_least bytes)

  -- ---- the files
  pub none : (symbols size [] ≡ 0) × (tail size [] ≡ 0) × (new_file c [] ≡ c.new_header)
  none =
      let nought : symbols size [] ≡ 0 = div-eq_of_lt some in
      let no_rest : tail size [] ≡ 0 = no_tail size some [] 0 (omega arith) in (
        nought,
        no_rest,
        ap (λ (z : ℕ). c.new_header ++ new_symbols c z []) nought ∙ ap (λ (s : List ℕ). c.new_header ++ s) (no_symbols c []) ∙ append-nil c.new_header,
      )

  -- bytes that do not complete a symbol
  pub part : (bytes more : List ℕ) → tail size bytes + length more < size
      → (symbols size (bytes ++ more) ≡ symbols size bytes) × (tail size (bytes ++ more) ≡ tail size bytes + length more) × (new_file c (bytes ++ more) ≡ new_file c bytes)
  part bytes more l =
      let n : ℕ = symbols size bytes in
      let rest : ℕ = tail size bytes + length more in
      let sum : length (bytes ++ more) ≡ n * size + rest = omega (arith, cut bytes, length-append bytes more) in
      let same : symbols size (bytes ++ more) ≡ n = ap (λ (z : ℕ). z / size) sum ∙ div-mul-add n size rest l in (
        same,
        ap (λ (z : ℕ). z % size) sum ∙ mod-mul-add n size rest l,
        ap (λ (z : ℕ). c.new_header ++ new_symbols c z (bytes ++ more)) same ∙ ap (λ (s : List ℕ). c.new_header ++ s) (symbols_before c bytes more n (at_least bytes)),
      )

  -- a whole symbol
  pub symbol : (bytes piece : List ℕ) → tail size bytes ≡ 0 → length piece ≡ size
      → (symbols size (bytes ++ piece) ≡ symbols size bytes + 1) × (tail size (bytes ++ piece) ≡ 0) × (new_file c (bytes ++ piece) ≡ new_file c bytes ++ c.new_symbol (symbols size bytes) piece)
  symbol bytes piece e l =
      let n : ℕ = symbols size bytes in
      let whole : length bytes ≡ n * size = omega (arith, cut bytes, e) in
      let long : length (bytes ++ piece) ≡ (n + 1) * size = longer size some bytes piece n whole l in
      let more : symbols size (bytes ++ piece) ≡ n + 1 = symbols_are size some (bytes ++ piece) (n + 1) long in (
        more,
        no_tail size some (bytes ++ piece) (n + 1) long,
        ap (λ (z : ℕ). c.new_header ++ new_symbols c z (bytes ++ piece)) more
            ∙ ap (λ (s : List ℕ). c.new_header ++ s) (one_symbol c n (bytes ++ piece))
            ∙ ap (λ (s : List ℕ). c.new_header ++ (s ++ c.new_symbol n (old_symbol size (bytes ++ piece) n))) (symbols_before c bytes piece n (at_least bytes))
            ∙ ap (λ (s : List ℕ). c.new_header ++ (new_symbols c n bytes ++ c.new_symbol n s)) (symbol_behind size n bytes piece whole l)
            ∙ sym (append_assoc c.new_header (new_symbols c n bytes) (c.new_symbol n piece)),
      )

  -- n symbols of a prefix are a prefix of those of more bytes
  from_first : (taken rest : List ℕ) (n : ℕ) → symbols size taken ≤ n → (more : List ℕ) × (c.new_header ++ new_symbols c n (taken ++ rest) ≡ new_file c taken ++ more)
  from_first taken rest n few =
      let m : ℕ = symbols size taken in
      let sum : n ≡ m + (n - m) = omega (arith, few) in
      let b = symbols_begin c (taken ++ rest) m (n - m) in (
        b.0,
        ap (λ (z : ℕ). c.new_header ++ new_symbols c z (taken ++ rest)) sum
            ∙ ap (λ (s : List ℕ). c.new_header ++ s) b.1
            ∙ ap (λ (s : List ℕ). c.new_header ++ (s ++ b.0)) (symbols_before c taken rest m (at_least taken))
            ∙ sym (append_assoc c.new_header (new_symbols c m taken) b.0),
      )

  -- the file of a prefix is a prefix of the file of more bytes
  pub begins : (bytes more : List ℕ) → (rest : List ℕ) × (new_file c (bytes ++ more) ≡ new_file c bytes ++ rest)
  begins bytes more = from_first bytes more (symbols size (bytes ++ more)) (no_fewer bytes more)

  -- and of the file of the symbols within a limit, if the prefix is within it
  pub begins_limited : (taken rest : List ℕ) (most : ℕ) → symbols size taken ≤ most → most < symbols size (taken ++ rest) → (more : List ℕ) × (new_file c (take (most * size) (taken ++ rest)) ≡ new_file c taken ++ more)
  begins_limited taken rest most few past =
      let file : List ℕ = taken ++ rest in
      let first : List ℕ = take (most * size) file in
      let more : (most + 1) * size ≡ most * size + size = one_more most size in
      let enough : (most + 1) * size ≤ length file = more_whole file most past in
      let long : length first ≡ most * size = length-take-le (most * size) file (omega (arith, enough, more)) in
      let held : symbols size first ≡ most = symbols_are size some first most long in
      let joined : first ++ drop (most * size) file ≡ file = take-append-drop (most * size) file in
      let same : new_symbols c most first ≡ new_symbols c most file = sym (symbols_before c first (drop (most * size) file) most (omega (arith, long))) ∙ ap (new_symbols c most) joined in
      let b = from_first taken rest most few in
      (b.0, ap (λ (z : ℕ). c.new_header ++ new_symbols c z first) held ∙ ap (λ (s : List ℕ). c.new_header ++ s) same ∙ b.1)
