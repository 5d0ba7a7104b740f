-- A receiver that takes some bytes of a word.
use Rattle.std.proofs.Common.{◌≡◌, ℕ, ◌+◌, ◌-◌, ◌*◌, ◌/◌, ◌%◌, ◌<◌, ◌≤◌, inl, inr, ◌⊎◌, List, [], ◌∷◌, ◌++◌, length, get_or, take, drop, set, refl, sym, ◌∙◌, ap, subst, arith, append_assoc, length-append, length-take-le, length-drop, ext_get_or}
use Rattle.std.proofs.Math.Seq.{take-append_seam, take-add}
use Rattle.std.specs.Prelude.{Option, None}
use Rattle.std.proofs.lemmas.Bool.{cases_lt}
use Rattle.std.proofs.lemmas.List.{get_or-take, get_or-drop, take_more, take_all}
use Rattle.forney.specs.Values.{values, stream_of}
use Rattle.forney.specs.Interleaving.{deinterleaved}
use Rattle.forney.proofs.ValueLists.{length-values, get_or-values}
use Rattle.forney.proofs.DelayLines.{above}
use Rattle.outer_chain.specs.declared.slot.WordSlot.{WordSlot}
use Rattle.outer_chain.specs.Words.{word_at, word_count}
use Rattle.outer_chain.specs.Receiving.{Receives, Holds, EndsWord, place_of, undecoded}
use Rattle.outer_chain.proofs.Places.{place_within}
use Rattle.outer_chain.proofs.Taking.{made_of, filled_is, stands_more, slot_of}

-- one byte
holds_byte : (words : List ℕ) (next after byte : ℕ) (bytes : List ℕ) → next < 2448 → after ≡ (next + 2245) % 2448 → Holds words next bytes → Holds (set words next byte) after (bytes ++ byte ∷ [])
holds_byte words next after byte bytes small e h =
    let r = stands_more words next after (11 - length bytes / 204) (11 - length (bytes ++ byte ∷ []) / 204) byte None bytes small e refl (record { twelve = h.twelve; next = h.next_is; holds = h.holds; start = refl }) in
    record { twelve = r.twelve; next_is = r.next; holds = r.holds }

pub holds_run : (words : List ℕ) (next after i : ℕ) (before bytes : List ℕ) → next < 2448 → i < length bytes → after ≡ (next + 2245) % 2448 → Holds words next (before ++ take i bytes) → Holds (set words next (get_or bytes i 0)) after (before ++ take (i + 1) bytes)
holds_run words next after i before bytes small l e h =
    let byte = get_or bytes i 0 in
    subst (Holds (set words next byte) after) (append_assoc before (take i bytes) (byte ∷ []) ∙ ap (λ z. before ++ z) (sym (take_more bytes i 0 l)))
    (holds_byte words next after byte (before ++ take i bytes) small e h)

-- some bytes, and then the next ones or all others
pub holds_part : (words : List ℕ) (place n more all : ℕ) (before bytes : List ℕ) → n + more ≡ all → Holds words place ((before ++ take n bytes) ++ take more (drop n bytes)) → Holds words place (before ++ take all bytes)
holds_part words place n more all before bytes e =
    subst (Holds words place) (append_assoc before (take n bytes) (take more (drop n bytes)) ∙ ap (λ z. before ++ z) (sym (take-add n more bytes)) ∙ ap (λ m. before ++ take m bytes) e)

pub holds_rest : (words : List ℕ) (place n more : ℕ) (before bytes : List ℕ) → n + more ≡ length bytes → Holds words place ((before ++ take n bytes) ++ take more (drop n bytes)) → Holds words place (before ++ bytes)
holds_rest words place n more before bytes e h =
    subst (λ z. Holds words place (before ++ z)) (take_all (length bytes) bytes (omega arith)) (holds_part words place n more (length bytes) before bytes e h)

pub length_part : (n more : ℕ) (bytes : List ℕ) → n + more ≤ length bytes → length (take more (drop n bytes)) ≡ more
length_part n more bytes l = length-take-le more (drop n bytes) (omega (arith, l, length-drop n bytes))

-- the bytes of a vector that a slice of its length was written over
pub written_over : (items bytes : List ℕ) (len : ℕ) → length bytes ≡ len → take len (bytes ++ drop (length bytes) items) ≡ bytes
written_over items bytes len e = ap (λ n. take n (bytes ++ drop (length bytes) items)) (sym e) ∙ take-append_seam bytes (drop (length bytes) items)

-- within a word, and at its end
pub run_goes_on : (words more : List ℕ) (next after start : ℕ) (phase : Option ℕ) (before bytes : List ℕ) → next % 204 + length bytes < 204 → Holds more after (before ++ bytes) → Receives (made_of words next start phase) before → Receives (made_of more after start phase) (before ++ bytes)
run_goes_on words more next after start phase before bytes l k h = record {
  twelve = k.twelve;
  next = k.next_is;
  holds = k.holds;
  start = omega (arith, l, h.start, length-append before bytes, filled_is words next start phase before h);
}

pub run_no_word : (words : List ℕ) (next start : ℕ) (phase : Option ℕ) (before bytes : List ℕ) → 0 < length bytes → next % 204 + length bytes < 204 → Receives (made_of words next start phase) before → EndsWord (before ++ bytes) → ⊥
run_no_word words next start phase before bytes some l h e = omega (arith, some, l, length-append before bytes, filled_is words next start phase before h, e.0)

pub run_begins : (words more : List ℕ) (next after start : ℕ) (phase : Option ℕ) (before bytes : List ℕ) → next % 204 + length bytes ≡ 204 → Holds more after (before ++ bytes) → Receives (made_of words next start phase) before → Receives (made_of more after (start - 1) phase) (before ++ bytes)
run_begins words more next after start phase before bytes l k h = record {
  twelve = k.twelve;
  next = k.next_is;
  holds = k.holds;
  start = omega (arith, l, h.start, length-append before bytes, filled_is words next start phase before h);
}

run_starting : (words : List ℕ) (next start : ℕ) (phase : Option ℕ) (before bytes : List ℕ) → next % 204 + length bytes ≡ 204 → 0 < start → Receives (made_of words next start phase) before → EndsWord (before ++ bytes) → ⊥
run_starting words next start phase before bytes l some h e =
    omega (arith, l, some, length-append before bytes, filled_is words next start phase before h, h.start, e.1)

run_ends : (words : List ℕ) (next start : ℕ) (phase : Option ℕ) (before bytes : List ℕ) → next % 204 + length bytes ≡ 204 → start ≤ 0 → Receives (made_of words next start phase) before → EndsWord (before ++ bytes)
run_ends words next start phase before bytes l none h =
    let long = length-append before bytes in
    let count = filled_is words next start phase before h in
    (omega (arith, long, l, count), omega (arith, long, l, count, h.start, none))

-- the word that ends with these bytes is where the next byte will be
holds_word : (words : List ℕ) (next : ℕ) (bytes : List ℕ) → Holds words next bytes → EndsWord bytes → take 204 (drop next words) ≡ word_at bytes (word_count bytes - 1)
unfolding word_at
holds_word words next bytes h ends =
    ext_get_or 0 _ _ (size ∙ sym (length-values (deinterleaved (stream_of bytes)) (204 * (word_count bytes - 1 + 11)) 204)) (λ j l. each j (subst (λ n. j < n) size l))
  where
    w : ℕ
    w = length bytes / 204 - 1

    eleven : 11 ≤ length bytes / 204 - 1
    eleven = omega (arith, ends.1)

    end : length bytes ≡ 204 * (length bytes / 204 - 1) + 204
    end = omega (arith, ends.0, ends.1)

    begin : next ≡ 204 * ((length bytes / 204 - 1) % 12)
    begin = omega (arith, h.next_is, ends.0, ends.1)

    size : length (take 204 (drop next words)) ≡ 204
    size = length-take-le 204 (drop next words) (omega (arith, begin, length-drop next words, h.twelve))

    each : (j : ℕ) → j < 204 → get_or (take 204 (drop next words)) j 0 ≡ get_or (values (deinterleaved (stream_of bytes)) (204 * (word_count bytes - 1 + 11)) 204) j 0
    each j l =
        let w = length bytes / 204 - 1 in
        let p = 204 * (w - 11 + j % 12) + j in
        let place : next + j ≡ place_of p = omega (arith, place_within w j l eleven, begin) in
        let number : word_count bytes - 1 + 11 ≡ w = omega (arith, ends.1) in
        get_or-take 204 (drop next words) j 0 l ∙ get_or-drop next words j 0
        ∙ ap (λ q. get_or words q 0) place ∙ h.holds p (omega (arith, end, eleven, l)) (omega (arith, end, eleven, l))
        ∙ ap (λ q. get_or bytes q 0) (let e : p ≡ 204 * w + j - 204 * (11 - (204 * w + j) % 12) = omega (arith, eleven, l) in e)
        ∙ sym (above bytes (204 * w + j) (204 * (11 - (204 * w + j) % 12)) (omega (arith, eleven, l)))
        ∙ sym (get_or-values (deinterleaved (stream_of bytes)) (204 * w) 204 j l)
        ∙ ap (λ v. get_or (values (deinterleaved (stream_of bytes)) (204 * v) 204) j 0) (sym number)

-- ---- what is put behind the slots

pub run_puts_word : (words more : List ℕ) (next after start : ℕ) (phase : Option ℕ) (before bytes : List ℕ) (slots all : List WordSlot) → next % 204 + length bytes ≡ 204 → Holds more after (before ++ bytes) → Receives (made_of words next start phase) before
    → (start ≡ 0 → all ≡ slots ++ slot_of (take 204 (drop after more)) ∷ []) → EndsWord (before ++ bytes)
    → all ≡ slots ++ undecoded (before ++ bytes) (word_count (before ++ bytes) - 1) ∷ []
run_puts_word words more next after start phase before bytes slots all l k h put e = go (cases_lt 0 start)
  where
    go : (0 < start) ⊎ (start ≤ 0) → all ≡ slots ++ undecoded (before ++ bytes) (word_count (before ++ bytes) - 1) ∷ []
    go (inl some) = absurd (run_starting words next start phase before bytes l some h e)
    go (inr none) = put (omega (arith, none)) ∙ ap (λ (w : List ℕ). slots ++ slot_of w ∷ []) (holds_word more after (before ++ bytes) k e)

pub run_puts_none : (words : List ℕ) (next start : ℕ) (phase : Option ℕ) (before bytes : List ℕ) (slots all : List WordSlot) → next % 204 + length bytes ≡ 204 → Receives (made_of words next start phase) before
    → (0 < start → all ≡ slots) → (EndsWord (before ++ bytes) → ⊥) → all ≡ slots
run_puts_none words next start phase before bytes slots all l h none n = go (cases_lt 0 start)
  where
    go : (0 < start) ⊎ (start ≤ 0) → all ≡ slots
    go (inl some) = none some
    go (inr at_end) = absurd (n (run_ends words next start phase before bytes l at_end h))
