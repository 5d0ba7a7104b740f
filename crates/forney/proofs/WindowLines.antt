-- The last twelve words as the delay lines of an interleaver.
use Rattle.std.proofs.Common.{◌≡◌, ℕ, ◌+◌, ◌-◌, ◌*◌, ◌/◌, ◌%◌, ◌<◌, ◌≤◌, inl, inr, true, List, [], ◌++◌, length, get_or, refl, sym, ◌∙◌, ap, arith, length-append, length-take-le, replicate, take}
use Rattle.std.specs.Prelude.{slice_index, eqb}
use Rattle.std.proofs.lemmas.Bool.{cases_lt, eqb-true, agree_below_at}
use Rattle.std.proofs.lemmas.List.{get_or-map, get_or-append-add, get_or-replicate, get_or-take, length-replicate}
use Rattle.std.proofs.Math.ListN.{get_or-eq_default}
use Rattle.std.proofs.lemmas.Slice.{take-put_mid, take-put_mid_below}
use borrow.Rule.Slice.PartMut.{put_mid}
use Rattle.circular_buffer.specs.Buffer.{Buffer, buffer}
use Rattle.forney.specs.Values.{values, stream_of}
use Rattle.forney.specs.Interleaving.{interleaved}
use Rattle.forney.specs.Delays.{StandsFor, delays, line, rising, waiting, next_of}
use Rattle.forney.specs.Window.{HasTaken, branches, window_byte, window_line, window_lines}
use Rattle.forney.proofs.ValueLists.{values_same, values_of, get_or-values}
use Rattle.forney.proofs.DelayLines.{delayed, delayed_append, delayed_none, above}

branch_at : (b : ℕ) → b < 12 → get_or branches b 0 ≡ b
branch_at b l = eqb-true _ _ (agree_below_at (λ b. eqb (get_or branches b 0) b) (λ b. true) 12 b refl l)

line_at : (window : List ℕ) (b : ℕ) → b < 12 → line (window_lines window) b ≡ window_line window b
unfolding window_lines
line_at window b l = get_or-map (window_line window) branches b 0 (buffer [] 0) l ∙ ap (window_line window) (branch_at b l)

-- byte k of the line of branch b after these bytes
abbrev line_byte : List ℕ → ℕ → ℕ → ℕ
line_byte s b k = delayed s (length s + b + 12 * k) (204 * b)

-- what a window holds after bytes
pub record Holds (window s : List ℕ) : Type 0 where
  pub turn : length s % 12 ≡ 0
  pub at : (b k : ℕ) → b < 12 → k < 17 * b → window_byte window b k ≡ line_byte s b k

waiting_byte : (s : List ℕ) (b k : ℕ) → length s % 12 ≡ 0 → b < 12 → delayed s (next_of (length s) b + 12 * k) (204 * rising b) ≡ line_byte s b k
waiting_byte s b k turn l = ap (λ n. delayed s (n + 12 * k) (204 * b)) (let e : next_of (length s) b ≡ length s + b = omega arith in e)

pub stands_holds : (window s : List ℕ) → StandsFor rising (delays (window_lines window) 0) s → Holds window s
stands_holds window s h =
    let turn : length s % 12 ≡ 0 = sym h.turn in
    record {
      turn = turn;
      at = λ b k l m.
          let same : window_line window b ≡ buffer (waiting (rising b) s b) (17 * rising b) = sym (line_at window b l) ∙ h.holds b l in
          let e : 0 + k ≡ k = omega arith in
          sym (get_or-values (window_byte window b) 0 (17 * b) k m ∙ ap (window_byte window b) e)
          ∙ ap (λ (x : Buffer ℕ). get_or x.items k 0) same
          ∙ get_or-values (λ k. delayed s (next_of (length s) b + 12 * k) (204 * rising b)) 0 (17 * b) k m
          ∙ ap (λ k. delayed s (next_of (length s) b + 12 * k) (204 * rising b)) e
          ∙ waiting_byte s b k turn l;
    }

pub holds_stands : (window s : List ℕ) → Holds window s → StandsFor rising (delays (window_lines window) 0) s
unfolding window_lines
holds_stands window s h = record {
  twelve = refl;
  turn = sym h.turn;
  holds = λ b l. line_at window b l ∙ ap (λ x. buffer x (17 * b)) (values_same (window_byte window b) (λ k. delayed s (next_of (length s) b + 12 * k) (204 * rising b)) 0 0 (17 * b)
      (λ k m. let e : 0 + k ≡ k = omega arith in ap (window_byte window b) e ∙ h.at b k l m ∙ sym (waiting_byte s b k h.turn l)
      ∙ sym (ap (λ k. delayed s (next_of (length s) b + 12 * k) (204 * rising b)) e)));
}

-- a byte of the word that was taken last
in_word : (s word : List ℕ) (p d j : ℕ) → d ≤ p → p - d ≡ length s + j → delayed (s ++ word) p d ≡ slice_index word j
in_word s word p d j l e = above (s ++ word) p d l ∙ ap (λ n. get_or (s ++ word) n 0) e ∙ get_or-append-add s word j 0

pub holds_more : (old word new s : List ℕ) → length word ≡ 204 → HasTaken old word new → Holds old s → Holds new (s ++ word)
holds_more old word new s size taken h =
    let long : length (s ++ word) ≡ length s + 204 = omega (arith, length-append s word, size) in
    record {
      turn = omega (arith, long, h.turn);
      at = λ b k l m. elim (cases_lt (k + 17) (17 * b)) [
        | inl lt ↦
            let i = 2448 + b + 12 * k - 204 * b in
            let place : i + 204 ≡ 2448 + b + 12 * (k + 17) - 204 * b = omega arith in
            taken.kept i (omega arith) ∙ ap (slice_index old) place ∙ h.at b (k + 17) l lt
            ∙ sym (delayed_append s word (length s + b + 12 * (k + 17)) (204 * b) (omega arith))
            ∙ ap (λ n. delayed (s ++ word) n (204 * b)) (let e : length s + b + 12 * (k + 17) ≡ length (s ++ word) + b + 12 * k = omega (arith, long) in e)
        | inr ge ↦
            let j = b + 12 * k + 204 - 204 * b in
            let place : 2448 + b + 12 * k - 204 * b ≡ 2244 + j = omega arith in
            ap (slice_index new) place ∙ taken.taken j (omega arith)
            ∙ sym (in_word s word (length (s ++ word) + b + 12 * k) (204 * b) j (omega (arith, long)) (omega (arith, long)))
      ];
    }

pub byte_given : (old word new s : List ℕ) (j : ℕ) → HasTaken old word new → Holds old s → j < 204 → interleaved (stream_of (s ++ word)) (length s + j) ≡ slice_index new (2244 + j - 204 * (j % 12))
byte_given old word new s j taken h l =
    let b = j % 12 in
    let k = j / 12 in
    let rest : (length s + j) % 12 ≡ b = omega (arith, h.turn) in
    ap (λ n. delayed (s ++ word) (length s + j) (204 * n)) rest
    ∙ elim (cases_lt 0 b) [
      | inl lt ↦
          let i = 2244 + j - 204 * b in
          let place : i + 204 ≡ 2448 + b + 12 * k - 204 * b = omega arith in
          let p : length s + j ≡ length s + b + 12 * k = omega arith in
          delayed_append s word (length s + j) (204 * b) (omega arith) ∙ ap (λ n. delayed s n (204 * b)) p
          ∙ sym (taken.kept i (omega arith) ∙ ap (slice_index old) place ∙ h.at b k (omega arith) (omega arith))
      | inr ge ↦
          let place : 2244 + j - 204 * b ≡ 2244 + j = omega arith in
          in_word s word (length s + j) (204 * b) j (omega arith) (omega arith) ∙ sym (ap (slice_index new) place ∙ taken.taken j l)
    ]

pub word_given : (old word new out s : List ℕ) → length word ≡ 204 → length out ≡ 204 → HasTaken old word new → Holds old s
    → ((j : ℕ) → j < 204 → slice_index out j ≡ slice_index new (2244 + j - 204 * (j % 12)))
    → out ≡ values (interleaved (stream_of (s ++ word))) (length s) (length word)
word_given old word new out s size long taken h at =
    sym (values_of out (interleaved (stream_of (s ++ word))) (length s) (length word) (size ∙ sym long)
    (λ k l. byte_given old word new s k taken h (omega (arith, size)) ∙ sym (at k (omega (arith, size)))))

-- a window of zeros, before the first byte
pub zeros_hold : (window : List ℕ) → ((i : ℕ) → slice_index window i ≡ 0) → Holds window []
zeros_hold window zero = record {
  turn = refl;
  at = λ b k l m. zero (2448 + b + 12 * k - 204 * b) ∙ sym (delayed_none (0 + b + 12 * k) (204 * b));
}

-- the bytes of one more row
pub row_more : (window old new : List ℕ) (row : ℕ) → ((j : ℕ) → j < 12 * row → slice_index old j ≡ slice_index window (2244 + j - 204 * (j % 12)))
    → ((j : ℕ) → j < 12 * row → slice_index new j ≡ slice_index old j)
    → ((b : ℕ) → b < 12 → slice_index new (12 * row + b) ≡ slice_index window (2244 + 12 * row + b - 204 * b))
    → (j : ℕ) → j < 12 * (row + 1) → slice_index new j ≡ slice_index window (2244 + j - 204 * (j % 12))
row_more window old new row was before here j l = elim (cases_lt j (12 * row)) [
  | inl lt ↦ before j lt ∙ was j lt
  | inr ge ↦
      let b = j - 12 * row in
      let place : j ≡ 12 * row + b = omega arith in
      let from : 2244 + 12 * row + b - 204 * b ≡ 2244 + j - 204 * (j % 12) = omega arith in
      ap (slice_index new) place ∙ here b (omega arith) ∙ ap (slice_index window) from
]

-- what the code shows of zeros
pub zeros_stand : (window : List ℕ) → window ≡ replicate 2448 0 → StandsFor rising (delays (window_lines window) 0) []
zeros_stand window e = holds_stands window [] (zeros_hold window (λ i. ap (λ xs. slice_index xs i) e ∙ zero_at i))
  where
    zero_at : (i : ℕ) → slice_index (replicate 2448 0) i ≡ 0
    zero_at i = elim (cases_lt i 2448) [
      | inl lt ↦ get_or-replicate 2448 i 0 0 lt
      | inr ge ↦ get_or-eq_default (replicate 2448 0) 0 {n = i} (omega (arith, ge, length-replicate {A = ℕ} 2448 0))
    ]

-- a window behind the write of its last word
pub put_kept : (k : ℕ) (xs ys : List ℕ) (i : ℕ) → length xs ≡ 2448 → i < 2244 → slice_index (put_mid 2244 k xs ys) i ≡ slice_index xs i
put_kept k xs ys i size l =
    sym (get_or-take 2244 (put_mid 2244 k xs ys) i 0 l)
    ∙ ap (λ (z : List ℕ). get_or z i 0) (take-put_mid_below 2244 k xs ys 2244 (omega arith) (omega (arith, size)))
    ∙ get_or-take 2244 xs i 0 l

pub put_taken : (k : ℕ) (xs ys : List ℕ) (j : ℕ) → length xs ≡ 2448 → length ys ≡ 204 → j < 204 → slice_index (put_mid 2244 k xs ys) (2244 + j) ≡ slice_index ys j
put_taken k xs ys j size few l =
    let front : length (take 2244 xs) ≡ 2244 = length-take-le 2244 xs (omega (arith, size)) in
    sym (get_or-take 2448 (put_mid 2244 k xs ys) (2244 + j) 0 (omega arith))
    ∙ ap (λ (z : List ℕ). get_or z (2244 + j) 0) (take-put_mid 2244 k xs ys 2448 (omega (arith, few)) (omega (arith, size)))
    ∙ ap (λ (n : ℕ). get_or (take 2244 xs ++ ys) (n + j) 0) (sym front)
    ∙ get_or-append-add (take 2244 xs) ys j 0
