-- The number that `parse` reads is that of the argument.
use Rattle.std.proofs.Common.{◌≡◌, ◌≢◌, ℕ, ◌<◌, ◌≤◌, ◌^◌, ◌&&◌, Bool, true, false, cond, List, [], ◌∷◌, length, get_or, refl, sym, ap, arith}
use Rattle.std.specs.Prelude.{None, Some, Result, Ok, Err, nat_le}
use Rattle.std.specs.Result.{OkIff, result_ok}
use Rattle.std.specs.Str.{all_ascii_digits}
use Rattle.std.specs.Str.Parse.{digits_value, ParsesUnsigned}
use Rattle.std.proofs.lemmas.Bool.{leb-true, le-leb, and_parts}
use Rattle.std.proofs.lemmas.Str.Parse.{IsNumeralModel, numerals_by_value, tells_all_ascii_digits, parse_plain}
use Rattle.dvbt_top.specs.Number.{is_numeral, number_of}

own : IsNumeralModel (λ ds. all_ascii_digits ds ≡ true) (digits_value 10)
own = numerals_by_value _ tells_all_ascii_digits

-- an argument that `parse` reads, or rejects
read : (word : List ℕ) (x : ℕ) → all_ascii_digits word ≡ true → 0 < length word → length word ≤ 10 → digits_value 10 word < 2 ^ 32 → x ≡ digits_value 10 word → Some x ≡ number_of word
unfolding number_of
read word x digits some few small is =
    let least : nat_le 1 (length word) ≡ true = le-leb 1 (length word) (omega arith) in
    let most : nat_le (length word) 10 ≡ true = le-leb (length word) 10 few in
    let fits : nat_le (digits_value 10 word) 4294967295 ≡ true = le-leb (digits_value 10 word) 4294967295 (omega arith) in
    rw (least, most, digits, fits, is) refl

-- the test of `number_of`, part by part
parts : (word : List ℕ) → (is_numeral word && nat_le (digits_value 10 word) 4294967295) ≡ true
    → (0 < length word) × (length word ≤ 10) × (all_ascii_digits word ≡ true) × (digits_value 10 word < 2 ^ 32)
parts word all =
    let outer = and_parts (is_numeral word) (nat_le (digits_value 10 word) 4294967295) all in
    let inner = and_parts (nat_le 1 (length word) && nat_le (length word) 10) (all_ascii_digits word) outer.0 in
    let bounds = and_parts (nat_le 1 (length word)) (nat_le (length word) 10) inner.0 in
    let least : 1 ≤ length word = leb-true 1 (length word) bounds.0 in
    let most : length word ≤ 10 = leb-true (length word) 10 bounds.1 in
    let fits : digits_value 10 word ≤ 4294967295 = leb-true (digits_value 10 word) 4294967295 outer.1 in
    (omega arith, most, inner.1, omega arith)

none_where : (word : List ℕ) (test : Bool) → test ≡ (is_numeral word && nat_le (digits_value 10 word) 4294967295)
    → ((is_numeral word && nat_le (digits_value 10 word) 4294967295) ≡ true → ⊥) → None ≡ number_of word
unfolding number_of
none_where word true is not = absurd (not (sym is))
none_where word false is not = ap (λ (b : Bool). cond b (Some (digits_value 10 word)) None) is

-- no number: too long, with a plus, or rejected
pub none_of : (word : List ℕ) → ((is_numeral word && nat_le (digits_value 10 word) 4294967295) ≡ true → ⊥) → None ≡ number_of word
none_of word not = none_where word _ refl not

pub too_long : (word : List ℕ) → 10 < length word → None ≡ number_of word
too_long word long = none_of word (λ all. omega (arith, (parts word all).1))

digit_first : (word : List ℕ) → all_ascii_digits word ≡ true → get_or word 0 0 ≡ 43 → ⊥
digit_first [] all is = absurd (omega (arith, is))
digit_first (x ∷ xs) all is =
    let here : (nat_le 48 x && nat_le x 57) ≡ true = (and_parts (nat_le 48 x && nat_le x 57) (all_ascii_digits xs) all).0 in
    let least : 48 ≤ x = leb-true 48 x (and_parts (nat_le 48 x) (nat_le x 57) here).0 in
    omega (arith, is, least)

pub with_plus : (word : List ℕ) → get_or word 0 0 ≡ 43 → None ≡ number_of word
with_plus word is = none_of word (λ all. digit_first word (parts word all).2 is)

-- the result of `parse` for an argument of at most ten bytes without a plus
pub parsed : {E : Type 0} (word : List ℕ) (r : Result ℕ E) → ParsesUnsigned 32 10 word r → length word ≤ 10 → get_or word 0 0 ≢ 43 → result_ok r ≡ number_of word
parsed {E} word r h few plain = by_cases word r (parse_plain own 32 word r h plain) few
  where
    by_cases : {E : Type 0} (word : List ℕ) (r : Result ℕ E) → OkIff r ((all_ascii_digits word ≡ true) × (0 < length word) × (digits_value 10 word < 2 ^ 32)) (digits_value 10 word) → length word ≤ 10 → result_ok r ≡ number_of word
    by_cases word (Ok x) p few = read word x p.0.0 p.0.1 few p.0.2 p.1
    by_cases word (Err e) refused few = none_of word (λ all. let q = parts word all in refused (q.2, q.0, q.3))
