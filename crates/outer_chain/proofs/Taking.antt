-- A receiver that takes one byte more.
use Rattle.std.proofs.Common.{◌≡◌, ℕ, ◌+◌, ◌-◌, ◌*◌, ◌/◌, ◌%◌, ◌<◌, ◌≤◌, inl, inr, ◌⊎◌, List, [], ◌∷◌, ◌++◌, length, get_or, take, drop, set, sym, ◌∙◌, ap, subst, arith, length-append, length-take-le, length-drop, length-set, ext_get_or, get_or-set_same, get_or-set_other}
use Rattle.std.specs.Prelude.{Option}
use Rattle.std.proofs.lemmas.Bool.{cases_lt}
use Rattle.std.proofs.lemmas.List.{get_or-take, get_or-drop, get_or_append_left}
use Rattle.std.proofs.Math.Seq.{get_or-append_seam}
use Rattle.forney.specs.Values.{values, stream_of}
use Rattle.forney.specs.Interleaving.{deinterleaved}
use Rattle.forney.proofs.ValueLists.{length-values, get_or-values}
use Rattle.forney.proofs.DelayLines.{above}
use Rattle.rs204.specs.declared.outcome.Outcome.TheVariants.{Bad}
use Rattle.outer_chain.specs.declared.slot.WordSlot.{WordSlot}
use Rattle.outer_chain.specs.Words.{word_at, word_count}
use Rattle.outer_chain.specs.Receiving.{Receiver, Receives, EndsWord, place_of, undecoded}
use Rattle.outer_chain.proofs.Places.{place_next, place_apart, place_within}

-- a receiver by its parts
abbrev pub made_of : List ℕ → ℕ → ℕ → Option ℕ → Receiver
made_of words next start phase = record { words = words; next = next; start = start; phase = phase }

pub filled_is : (words : List ℕ) (next start : ℕ) (phase : Option ℕ) (bytes : List ℕ) → Receives (made_of words next start phase) bytes → next % 204 ≡ length bytes % 204
filled_is words next start phase bytes h = omega (arith, h.next)

-- the last bytes, with one more
pub holds_more : (words : List ℕ) (next start byte : ℕ) (phase : Option ℕ) (bytes : List ℕ) → next < 2448 → Receives (made_of words next start phase) bytes
    → (p : ℕ) → p < length (bytes ++ byte ∷ []) → length (bytes ++ byte ∷ []) ≤ p + 2448 → get_or (set words next byte) (place_of p) 0 ≡ get_or (bytes ++ byte ∷ []) p 0
holds_more words next start byte phase bytes small h p l m = go (cases_lt p (length bytes))
  where
    long : length (bytes ++ byte ∷ []) ≡ length bytes + 1
    long = length-append bytes (byte ∷ [])

    go : (p < length bytes) ⊎ (length bytes ≤ p) → get_or (set words next byte) (place_of p) 0 ≡ get_or (bytes ++ byte ∷ []) p 0
    go (inl k) =
        get_or-set_other words next (place_of p) byte 0 (λ e. place_apart p (length bytes) k (omega (arith, m, long)) (e ∙ h.next))
        ∙ h.holds p k (omega (arith, m, long)) ∙ sym (get_or_append_left bytes (byte ∷ []) 0 p k)
    go (inr k) =
        let e : p ≡ length bytes = omega (arith, l, k, long) in
        ap (λ q. get_or (set words next byte) (place_of q) 0) e ∙ ap (λ q. get_or (set words next byte) q 0) (sym h.next)
        ∙ get_or-set_same words next byte 0 (omega (arith, h.twelve, small)) ∙ sym (get_or-append_seam bytes byte [] 0) ∙ ap (λ q. get_or (bytes ++ byte ∷ []) q 0) (sym e)

-- within a word, and at its end
pub stands_more : (words : List ℕ) (next after start later byte : ℕ) (phase : Option ℕ) (bytes : List ℕ) → next < 2448 → after ≡ (next + 2245) % 2448 → later ≡ 11 - length (bytes ++ byte ∷ []) / 204 → Receives (made_of words next start phase) bytes
    → Receives (made_of (set words next byte) after later phase) (bytes ++ byte ∷ [])
stands_more words next after start later byte phase bytes small e f h = record {
  twelve = length-set words next byte ∙ h.twelve;
  next = place_next (length bytes) next after h.next e ∙ ap place_of (sym (length-append bytes (byte ∷ [])));
  holds = holds_more words next start byte phase bytes small h;
  start = f;
}

pub goes_on : (words : List ℕ) (next after start byte : ℕ) (phase : Option ℕ) (bytes : List ℕ) → next < 2448 → next % 204 < 203 → after ≡ (next + 2245) % 2448 → Receives (made_of words next start phase) bytes
    → Receives (made_of (set words next byte) after start phase) (bytes ++ byte ∷ [])
goes_on words next after start byte phase bytes small l e h =
    stands_more words next after start start byte phase bytes small e (omega (arith, l, h.start, length-append bytes (byte ∷ []), filled_is words next start phase bytes h)) h

pub no_word_yet : (words : List ℕ) (next start byte : ℕ) (phase : Option ℕ) (bytes : List ℕ) → next % 204 < 203 → Receives (made_of words next start phase) bytes → EndsWord (bytes ++ byte ∷ []) → ⊥
no_word_yet words next start byte phase bytes l h e =
    omega (arith, l, length-append bytes (byte ∷ []), filled_is words next start phase bytes h, e.0)

pub begins_anew : (words : List ℕ) (next after start byte : ℕ) (phase : Option ℕ) (bytes : List ℕ) → next < 2448 → 203 ≤ next % 204 → after ≡ (next + 2245) % 2448 → Receives (made_of words next start phase) bytes
    → Receives (made_of (set words next byte) after (start - 1) phase) (bytes ++ byte ∷ [])
begins_anew words next after start byte phase bytes small l e h =
    stands_more words next after start (start - 1) byte phase bytes small e (omega (arith, l, h.start, length-append bytes (byte ∷ []), filled_is words next start phase bytes h)) h

pub still_starting : (words : List ℕ) (next start byte : ℕ) (phase : Option ℕ) (bytes : List ℕ) → 203 ≤ next % 204 → 0 < start → Receives (made_of words next start phase) bytes → EndsWord (bytes ++ byte ∷ []) → ⊥
still_starting words next start byte phase bytes last some h e =
    omega (arith, last, some, length-append bytes (byte ∷ []), filled_is words next start phase bytes h, h.start, e.1)

pub word_ends : (words : List ℕ) (next start byte : ℕ) (phase : Option ℕ) (bytes : List ℕ) → 203 ≤ next % 204 → start ≤ 0 → Receives (made_of words next start phase) bytes → EndsWord (bytes ++ byte ∷ [])
word_ends words next start byte phase bytes last none h =
    let l = length-append bytes (byte ∷ []) in
    let count = filled_is words next start phase bytes h in
    (omega (arith, l, last, count), omega (arith, l, last, count, h.start, none))

-- the word that stands where its last byte was put
pub word_is : (words : List ℕ) (next start byte : ℕ) (phase : Option ℕ) (bytes : List ℕ) → next < 2448 → 203 ≤ next % 204 → start ≤ 0 → Receives (made_of words next start phase) bytes
    → take 204 (drop (next - 203) (set words next byte)) ≡ word_at (bytes ++ byte ∷ []) (word_count (bytes ++ byte ∷ []) - 1)
unfolding word_at
word_is words next start byte phase bytes small last none h =
    ext_get_or 0 _ _ (size ∙ sym (length-values (deinterleaved (stream_of (bytes ++ byte ∷ []))) (204 * (word_count (bytes ++ byte ∷ []) - 1 + 11)) 204)) (λ j l. each j (subst (λ n. j < n) size l))
  where
    size : length (take 204 (drop (next - 203) (set words next byte))) ≡ 204
    size = length-take-le 204 (drop (next - 203) (set words next byte)) (omega (arith, small, last, length-drop (next - 203) (set words next byte), length-set words next byte, h.twelve))

    each : (j : ℕ) → j < 204 → get_or (take 204 (drop (next - 203) (set words next byte))) j 0 ≡ get_or (values (deinterleaved (stream_of (bytes ++ byte ∷ []))) (204 * (word_count (bytes ++ byte ∷ []) - 1 + 11)) 204) j 0
    each j l =
        let longer = bytes ++ byte ∷ [] in
        let long : length longer ≡ length bytes + 1 = length-append bytes (byte ∷ []) in
        let ends = word_ends words next start byte phase bytes last none h in
        let w = length bytes / 204 in
        let p = 204 * (w - 11 + j % 12) + j in
        let eleven : 11 ≤ w = omega (arith, h.start, none) in
        let end : length bytes ≡ 204 * w + 203 = omega (arith, last, filled_is words next start phase bytes h) in
        let place : next - 203 + j ≡ place_of p = omega (arith, place_within w j l eleven, h.next, end, place_within w 203 (omega arith) eleven) in
        let number : word_count longer - 1 + 11 ≡ w = omega (arith, long, ends.0, ends.1, end) in
        get_or-take 204 (drop (next - 203) (set words next byte)) j 0 l ∙ get_or-drop (next - 203) (set words next byte) j 0
        ∙ ap (λ q. get_or (set words next byte) q 0) place ∙ holds_more words next start byte phase bytes small h p (omega (arith, long, end, eleven, l)) (omega (arith, long, end, eleven, l))
        ∙ ap (λ q. get_or longer q 0) (let e : p ≡ 204 * w + j - 204 * (11 - (204 * w + j) % 12) = omega (arith, eleven, l) in e)
        ∙ sym (above longer (204 * w + j) (204 * (11 - (204 * w + j) % 12)) (omega (arith, eleven, l)))
        ∙ sym (get_or-values (deinterleaved (stream_of longer)) (204 * w) 204 j l)
        ∙ ap (λ v. get_or (values (deinterleaved (stream_of longer)) (204 * v) 204) j 0) (sym number)

-- ---- what is put behind the slots

abbrev pub slot_of : List ℕ → WordSlot
slot_of word = record { word = word; outcome = Bad }

pub puts_word : (words : List ℕ) (next start byte : ℕ) (phase : Option ℕ) (bytes : List ℕ) (before after : List WordSlot) → next < 2448 → 203 ≤ next % 204 → Receives (made_of words next start phase) bytes
    → (start ≡ 0 → after ≡ before ++ slot_of (take 204 (drop (next - 203) (set words next byte))) ∷ []) → EndsWord (bytes ++ byte ∷ [])
    → after ≡ before ++ undecoded (bytes ++ byte ∷ []) (word_count (bytes ++ byte ∷ []) - 1) ∷ []
puts_word words next start byte phase bytes before after small last h put e = go (cases_lt 0 start)
  where
    go : (0 < start) ⊎ (start ≤ 0) → after ≡ before ++ undecoded (bytes ++ byte ∷ []) (word_count (bytes ++ byte ∷ []) - 1) ∷ []
    go (inl some) = absurd (still_starting words next start byte phase bytes last some h e)
    go (inr none) = put (omega (arith, none)) ∙ ap (λ (w : List ℕ). before ++ slot_of w ∷ []) (word_is words next start byte phase bytes small last none h)

pub puts_none : (words : List ℕ) (next start byte : ℕ) (phase : Option ℕ) (bytes : List ℕ) (before after : List WordSlot) → 203 ≤ next % 204 → Receives (made_of words next start phase) bytes
    → (0 < start → after ≡ before) → (EndsWord (bytes ++ byte ∷ []) → ⊥) → after ≡ before
puts_none words next start byte phase bytes before after last h none n = go (cases_lt 0 start)
  where
    go : (0 < start) ⊎ (start ≤ 0) → after ≡ before
    go (inl some) = none some
    go (inr at_end) = absurd (n (word_ends words next start byte phase bytes last at_end h))
