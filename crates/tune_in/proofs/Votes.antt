-- The last votes, symbol by symbol.
use Rattle.std.proofs.Common.{◌≡◌, ℕ, zero, suc, ◌+◌, ◌-◌, ◌<◌, ◌≤◌, ◌^◌, Bool, false, inl, inr, ◌⊎◌, List, [], ◌∷◌, ◌++◌, length, take, map, get_or, refl, sym, ap, ap₂, ◌∙◌, subst, arith, length-drop}
use Rattle.std.specs.Prelude.{min}
use Rattle.std.specs.List.{range_with_len}
use Rattle.std.proofs.lemmas.Bool.{cases_lt}
use Rattle.std.proofs.lemmas.List.{get_or_push, get_or_append_left, get_or-drop, ext_get_or, length_push}
use Rattle.std.proofs.lemmas.List.FromFn.{length-map-range_with_len, get_or-map-range_with_len}
use Rattle.circular_buffer.specs.Buffer.{keep_last}
use Rattle.spec_words.specs.Words.{numbers}
use Rattle.mode_set.specs.declared.modes.Mode.{Mode}
use Rattle.pilots.specs.Carriers.{tps_carriers}
use Rattle.qam_map.specs.declared.cell.Cell.{Cell}
use Rattle.tps_word.specs.Vote.{vote, bit_from, bits_from}
use Rattle.tune_in.specs.Tuning.{TunerState, Keeps, IsTuning}

-- the list of the last 67 items, and one more
kept_length : (xs : List Bool) (b : Bool) (n : ℕ) → 0 < n → length xs ≡ min 67 (n - 1) → length (keep_last 67 (xs ++ b ∷ [])) ≡ min 67 n
kept_length xs b n some l = length-drop (length (xs ++ b ∷ []) - 67) (xs ++ b ∷ []) ∙ omega (arith, length_push xs b, l, some)

-- the last of the votes before symbol n, and that of symbols n - 1 and n
kept_votes : (cells : ℕ → List Cell) (n : ℕ) (xs : List Bool) (b : Bool) → 0 < n → length xs ≡ min 67 (n - 1) → b ≡ vote (cells (n - 1)) (cells n)
    → ((k : ℕ) → k < length xs → get_or xs k false ≡ bit_from cells (n - 1 - length xs) k)
    → (k : ℕ) → k < length (keep_last 67 (xs ++ b ∷ [])) → get_or (keep_last 67 (xs ++ b ∷ [])) k false ≡ bit_from cells (n - length (keep_last 67 (xs ++ b ∷ []))) k
kept_votes cells n xs b some l e h k less =
    let from : ℕ = length (xs ++ b ∷ []) - 67 in
    let all : length (xs ++ b ∷ []) ≡ length xs + 1 = length_push xs b in
    let rest : length (keep_last 67 (xs ++ b ∷ [])) ≡ length (xs ++ b ∷ []) - from = length-drop from (xs ++ b ∷ []) in
    get_or-drop from (xs ++ b ∷ []) k false ∙ go k (omega (arith, all, rest, less)) (omega (arith, all, rest, l, some)) (cases_lt (from + k) (length xs))
  where
    go : (k : ℕ) → length (xs ++ b ∷ []) - 67 + k < length xs + 1 → n - length (keep_last 67 (xs ++ b ∷ [])) ≡ n - 1 - length xs + (length (xs ++ b ∷ []) - 67)
        → (length (xs ++ b ∷ []) - 67 + k < length xs) ⊎ (length xs ≤ length (xs ++ b ∷ []) - 67 + k)
        → get_or (xs ++ b ∷ []) (length (xs ++ b ∷ []) - 67 + k) false ≡ bit_from cells (n - length (keep_last 67 (xs ++ b ∷ []))) k
    go k near base (inl before) =
        let at : n - 1 - length xs + (length (xs ++ b ∷ []) - 67 + k) ≡ n - length (keep_last 67 (xs ++ b ∷ [])) + k = omega (arith, base) in
        get_or_append_left xs (b ∷ []) false (length (xs ++ b ∷ []) - 67 + k) before ∙ h (length (xs ++ b ∷ []) - 67 + k) before ∙ ap (λ z. vote (cells z) (cells (z + 1))) at
    go k near base (inr behind) =
        let last : length xs ≡ length (xs ++ b ∷ []) - 67 + k = omega (arith, near, behind) in
        let at : n - 1 ≡ n - length (keep_last 67 (xs ++ b ∷ [])) + k = omega (arith, base, last, l, some) in
        let next : n ≡ n - length (keep_last 67 (xs ++ b ∷ [])) + k + 1 = omega (arith, at, some) in
        get_or_push xs b false (length (xs ++ b ∷ []) - 67 + k) last ∙ e ∙ ap₂ (λ i j. vote (cells i) (cells j)) at next

-- a tuner that has had n symbols takes symbol n
pub noted : (mode : Mode) (x y : TunerState) (cells : ℕ → List Cell) (n : ℕ) → y.symbols ≡ x.symbols + 1 → take (length (tps_carriers mode)) y.before ≡ cells n
    → (x.symbols ≡ 0 → y.votes ≡ x.votes) → (0 < x.symbols → y.votes ≡ keep_last 67 (x.votes ++ vote (take (length (tps_carriers mode)) x.before) (take (length (tps_carriers mode)) y.before) ∷ []))
    → Keeps mode x cells n → Keeps mode y cells (n + 1)
noted mode x y cells zero s now first later h = let none : y.votes ≡ x.votes = first h.number in record {
  number = s ∙ omega (arith, h.number);
  last = λ l. now;
  long = ap length none ∙ h.long;
  votes = λ k l. absurd (omega (arith, l, ap length none, h.long));
}
noted mode x y cells (suc n) s now first later h =
    let has : y.votes ≡ keep_last 67 (x.votes ++ vote (take (length (tps_carriers mode)) x.before) (take (length (tps_carriers mode)) y.before) ∷ []) = later (omega (arith, h.number)) in
    let bit : vote (take (length (tps_carriers mode)) x.before) (take (length (tps_carriers mode)) y.before) ≡ vote (cells (suc n - 1)) (cells (suc n)) = ap₂ vote (h.last (omega arith)) now in
    let same : suc n + 1 - 1 ≡ suc n = omega arith in
    record {
      number = s ∙ omega (arith, h.number);
      last = λ l. now ∙ ap cells (sym same);
      long = ap length has ∙ kept_length x.votes _ (suc n) (omega arith) h.long ∙ ap (min 67) (sym same);
      votes = subst (λ (z : ℕ). (k : ℕ) → k < length y.votes → get_or y.votes k false ≡ bit_from cells (z - length y.votes) k) (sym same)
          (subst (λ (v : List Bool). (k : ℕ) → k < length v → get_or v k false ≡ bit_from cells (suc n - length v) k) (sym has) (kept_votes cells (suc n) x.votes _ (omega arith) h.long bit h.votes));
    }

pub no_votes : (mode : Mode) (t : TunerState) (cells : ℕ → List Cell) → t.symbols ≡ 0 → t.votes ≡ [] → Keeps mode t cells 0
no_votes mode t cells s v = record { number = s; last = λ l. absurd (omega (arith, l)); long = ap length v; votes = λ k l. absurd (omega (arith, l, ap length v)) }

-- 67 votes are the bits of the frame that began 68 symbols ago
pub whole_frame : (mode : Mode) (t : TunerState) (cells : ℕ → List Cell) (n : ℕ) → length t.votes ≡ 67 → Keeps mode t cells n → t.votes ≡ bits_from cells (n - 68)
unfolding bits_from numbers
whole_frame mode t cells n full h =
    ext_get_or false t.votes (map (bit_from cells (n - 68)) (range_with_len 0 67)) (full ∙ sym (length-map-range_with_len (bit_from cells (n - 68)) 0 67))
    (λ i l.
    let base : n - 1 - length t.votes ≡ n - 68 = omega (arith, full) in
    let place : 0 + i ≡ i = omega arith in
    h.votes i l ∙ ap (λ z. bit_from cells z i) base ∙ sym (get_or-map-range_with_len (bit_from cells (n - 68)) 0 67 i i false (omega (arith, l, full)) place))

-- only the cells of the frame's symbols matter
pub bits_agree : (f g : ℕ → List Cell) (n i : ℕ) → i + 68 ≤ n → ((m : ℕ) → m < n → f m ≡ g m) → bits_from f i ≡ bits_from g i
unfolding bits_from numbers
bits_agree f g n i held same =
    ext_get_or false (map (bit_from f i) (range_with_len 0 67)) (map (bit_from g i) (range_with_len 0 67)) (length-map-range_with_len (bit_from f i) 0 67 ∙ sym (length-map-range_with_len (bit_from g i) 0 67))
    (λ k l.
    let few : k < 67 = omega (arith, l, length-map-range_with_len (bit_from f i) 0 67) in
    let place : 0 + k ≡ k = omega arith in
    get_or-map-range_with_len (bit_from f i) 0 67 k k false few place
    ∙ ap₂ vote (same (i + k) (omega (arith, few, held))) (same (i + k + 1) (omega (arith, few, held)))
    ∙ sym (get_or-map-range_with_len (bit_from g i) 0 67 k k false few place))

pub keeps_agree : (mode : Mode) (t : TunerState) (f g : ℕ → List Cell) (n : ℕ) → ((m : ℕ) → m < n → f m ≡ g m) → Keeps mode t f n → Keeps mode t g n
keeps_agree mode t f g n same h = record {
  number = h.number;
  last = λ l. h.last l ∙ same (n - 1) (omega (arith, l));
  long = h.long;
  votes = λ k l. h.votes k l ∙ ap₂ vote (same (n - 1 - length t.votes + k) (omega (arith, l, h.long))) (same (n - 1 - length t.votes + k + 1) (omega (arith, l, h.long)));
}

-- the number of votes kept after one more
pub goes_on : (old new : List Bool) (b : Bool) (capacity symbols : ℕ) → (symbols ≡ 0 → new ≡ old) → (0 < symbols → new ≡ keep_last capacity (old ++ b ∷ [])) → symbols < 2 ^ 32 → IsTuning old capacity symbols → IsTuning new capacity (symbols + 1)
goes_on old new b capacity zero first later few h = record { room = h.room; long = ap length (first refl) ∙ h.long; few = omega arith }
goes_on old new b capacity (suc n) first later few h = record {
  room = h.room;
  long = ap length (later (omega arith) ∙ ap (λ k. keep_last k (old ++ b ∷ [])) h.room) ∙ kept_length old b (suc n) (omega arith) h.long ∙ (let e : suc n ≡ suc n + 1 - 1 = omega arith in ap (min 67) e);
  few = omega (arith, few);
}
