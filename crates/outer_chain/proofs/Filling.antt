-- A word that is filled byte by byte.
use Rattle.std.proofs.Common.{◌≡◌, ℕ, ◌+◌, ◌-◌, ◌*◌, ◌/◌, ◌%◌, ◌<◌, ◌≤◌, List, [], ◌∷◌, ◌++◌, length, take, set, refl, sym, ◌∙◌, ap, ap₂, arith, length-append, length-set}
use Rattle.std.proofs.lemmas.List.{take_more_set, take_all}
use Rattle.forney.specs.Values.{values, stream_of}
use Rattle.forney.specs.Interleaving.{deinterleaved}
use Rattle.forney.proofs.ValueLists.{values_same, values_push}
use Rattle.forney.proofs.DelayLines.{delayed_append}
use Rattle.outer_chain.specs.Words.{word_at, word_count}

pub none_yet : (f : ℕ → ℕ) (i : ℕ) → [] ≡ values f i 0
unfolding values
none_yet f i = refl

-- one byte more
pub word_grows : (word bytes : List ℕ) (filled z byte : ℕ) → length word ≡ 204 → filled < 204 → filled ≡ length bytes % 204
    → take filled word ≡ values (deinterleaved (stream_of bytes)) (204 * (length bytes / 204)) filled → z ≡ deinterleaved (stream_of (bytes ++ byte ∷ [])) (length bytes)
    → take (filled + 1) (set word filled z) ≡ values (deinterleaved (stream_of (bytes ++ byte ∷ []))) (204 * (length bytes / 204)) (filled + 1)
word_grows word bytes filled z byte long small e h g =
    let base = 204 * (length bytes / 204) in
    let place : length bytes ≡ base + filled = omega arith in
    let same : values (deinterleaved (stream_of bytes)) base filled ≡ values (deinterleaved (stream_of (bytes ++ byte ∷ []))) base filled =
    values_same _ _ base base filled (λ t l. sym (delayed_append bytes (byte ∷ []) (base + t) (204 * (11 - (base + t) % 12)) (omega arith))) in
    take_more_set word filled z (omega arith)
    ∙ ap₂ (λ (a : List ℕ) (b : ℕ). a ++ b ∷ []) (h ∙ same) (g ∙ ap (deinterleaved (stream_of (bytes ++ byte ∷ []))) place)
    ∙ sym (values_push (deinterleaved (stream_of (bytes ++ byte ∷ []))) base filled)

-- within the word
pub word_goes_on : (word bytes : List ℕ) (filled z byte : ℕ) → length word ≡ 204 → filled < 203 → filled ≡ length bytes % 204
    → take filled word ≡ values (deinterleaved (stream_of bytes)) (204 * (length bytes / 204)) filled → z ≡ deinterleaved (stream_of (bytes ++ byte ∷ [])) (length bytes)
    → take (filled + 1) (set word filled z) ≡ values (deinterleaved (stream_of (bytes ++ byte ∷ []))) (204 * (length (bytes ++ byte ∷ []) / 204)) (filled + 1)
word_goes_on word bytes filled z byte long small e h g =
    let same : length bytes / 204 ≡ length (bytes ++ byte ∷ []) / 204 = omega (arith, length-append bytes (byte ∷ [])) in
    word_grows word bytes filled z byte long (omega arith) e h g ∙ ap (λ n. values (deinterleaved (stream_of (bytes ++ byte ∷ []))) (204 * n) (filled + 1)) same

-- the whole word
pub word_whole : (word bytes : List ℕ) (filled z byte start : ℕ) → length word ≡ 204 → filled < 204 → 203 ≤ filled → filled ≡ length bytes % 204 → start ≡ 11 - length bytes / 204 → start ≤ 0
    → take filled word ≡ values (deinterleaved (stream_of bytes)) (204 * (length bytes / 204)) filled → z ≡ deinterleaved (stream_of (bytes ++ byte ∷ [])) (length bytes)
    → set word filled z ≡ word_at (bytes ++ byte ∷ []) (word_count (bytes ++ byte ∷ []) - 1)
unfolding word_at
word_whole word bytes filled z byte start long small last e s none h g =
    let all : filled + 1 ≡ 204 = omega arith in
    let number : length bytes / 204 ≡ word_count (bytes ++ byte ∷ []) - 1 + 11 = omega (arith, length-append bytes (byte ∷ [])) in
    sym (take_all (filled + 1) (set word filled z) (omega (arith, length-set word filled z)))
    ∙ word_grows word bytes filled z byte long small e h g
    ∙ ap₂ (λ m n. values (deinterleaved (stream_of (bytes ++ byte ∷ []))) (204 * m) n) number all
