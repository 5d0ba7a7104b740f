-- Whole symbols, and bytes that do not complete one.
use Rattle.std.proofs.Common.{◌≡◌, ℕ, ◌+◌, ◌*◌, ◌/◌, ◌%◌, ◌<◌, ◌≤◌, true, false, List, ◌++◌, inl, inr, length, take, ◌∙◌, sym, ap, arith, length-append}
use Rattle.std.specs.Prelude.{◌==◌}
use Rattle.std.proofs.lemmas.Bool.{cases_lt, eq-eqb, eqb-true, true≢false}
use Rattle.std.proofs.lemmas.List.{length-take}
use Rattle.std.proofs.Math.Nat.{mul-div_cancel, mul-mod_left, div-lt_iff_lt-mul, add-mul}
use Rattle.cmd_cells.specs.Symbols.{symbols, tail}

pub one_more : (n k : ℕ) → (n + 1) * k ≡ n * k + k
one_more n k = add-mul n 1 k ∙ (let e : n * k + 1 * k ≡ n * k + k = omega arith in e)

-- a piece of a symbol is the whole of it, or shorter
pub whole_or_less : (k l : ℕ) → k ≤ l → ((k == l) ≡ true → k ≡ l) × ((k == l) ≡ false → k < l)
whole_or_less k l le = (
  (λ e. eqb-true k l e),
  (λ e. elim (cases_lt k l) [
    | inl lt ↦ lt
    | inr ge ↦ let same : k ≡ l = omega (arith, le, ge) in absurd (true≢false (sym (eq-eqb k l same) ∙ e))
  ]),
)

module _ (size : ℕ) (some : 0 < size) where
  -- n symbols are n symbols, with no byte after them
  pub symbols_are : (bytes : List ℕ) (n : ℕ) → length bytes ≡ n * size → symbols size bytes ≡ n
  symbols_are bytes n e = ap (λ (k : ℕ). k / size) e ∙ mul-div_cancel n some

  pub no_tail : (bytes : List ℕ) (n : ℕ) → length bytes ≡ n * size → tail size bytes ≡ 0
  no_tail bytes n e = ap (λ (k : ℕ). k % size) e ∙ mul-mod_left n size

  -- one more symbol, and less than one more
  pub longer : (bytes piece : List ℕ) (n : ℕ) → length bytes ≡ n * size → length piece ≡ size → length (bytes ++ piece) ≡ (n + 1) * size
  longer bytes piece n e p = length-append bytes piece ∙ (λ i. e i + p i) ∙ sym (one_more n size)

  pub not_longer : (bytes piece : List ℕ) (n : ℕ) → length bytes ≡ n * size → length piece < size → symbols size (bytes ++ piece) ≤ n
  not_longer bytes piece n e l =
      let sum : length (bytes ++ piece) ≡ length bytes + length piece = length-append bytes piece in
      let more : (n + 1) * size ≡ n * size + size = one_more n size in
      let below : length (bytes ++ piece) < (n + 1) * size = omega (arith, sum, more, e, l) in
      let few : length (bytes ++ piece) / size < n + 1 = (div-lt_iff_lt-mul {k = size} {x = length (bytes ++ piece)} {y = n + 1} some).1 below in
      omega (arith, few)

  pub little_longer : (bytes piece : List ℕ) (n : ℕ) → length bytes ≡ n * size → length piece ≤ size → symbols size (bytes ++ piece) ≤ n + 1
  little_longer bytes piece n e l =
      let sum : length (bytes ++ piece) ≡ length bytes + length piece = length-append bytes piece in
      let more : (n + 1) * size ≡ n * size + size = one_more n size in
      let most : ((n + 1) + 1) * size ≡ (n + 1) * size + size = one_more (n + 1) size in
      let below : length (bytes ++ piece) < ((n + 1) + 1) * size = omega (arith, sum, more, most, e, l, some) in
      let few : length (bytes ++ piece) / size < (n + 1) + 1 = (div-lt_iff_lt-mul {k = size} {x = length (bytes ++ piece)} {y = (n + 1) + 1} some).1 below in
      omega (arith, few)

  -- one more piece stays within a limit if it is no whole symbol past it
  pub within_limit : (bytes piece : List ℕ) (n most : ℕ) → length bytes ≡ n * size → length piece ≤ size → n ≤ most → (n ≡ most → length piece < size) → symbols size (bytes ++ piece) ≤ most
  within_limit bytes piece n most e l le past = elim (cases_lt n most) [
    | inl lt ↦ let few : symbols size (bytes ++ piece) ≤ n + 1 = little_longer bytes piece n e l in omega (arith, few, lt)
    | inr ge ↦
        let same : n ≡ most = omega (arith, le, ge) in
        let few : symbols size (bytes ++ piece) ≤ n = not_longer bytes piece n e (past same) in
        omega (arith, few, le)
  ]

  pub at_least : (bytes : List ℕ) (n : ℕ) → (n + 1) * size ≤ length bytes → n < symbols size bytes
  at_least bytes n le = elim (cases_lt (symbols size bytes) (n + 1)) [
    | inl few ↦
        let below : length bytes < (n + 1) * size = (div-lt_iff_lt-mul {k = size} {x = length bytes} {y = n + 1} some).0 few in
        absurd (omega (arith, below, le))
    | inr more ↦ omega (arith, more)
  ]

  -- the bytes within a limit have at most that many symbols
  pub few_within : (most : ℕ) (bytes : List ℕ) → symbols size (take (most * size) bytes) ≤ most
  few_within most bytes =
      let few : length (take (most * size) bytes) ≤ most * size = omega (arith, length-take (most * size) bytes) in
      let more : (most + 1) * size ≡ most * size + size = one_more most size in
      let below : length (take (most * size) bytes) < (most + 1) * size = omega (arith, few, more, some) in
      let less : length (take (most * size) bytes) / size < most + 1 = (div-lt_iff_lt-mul {k = size} {x = length (take (most * size) bytes)} {y = most + 1} some).1 below in
      omega (arith, less)
