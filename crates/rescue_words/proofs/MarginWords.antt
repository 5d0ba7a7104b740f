-- The margins of a word, filled margin by margin.
use Rattle.std.proofs.Common.{◌≡◌, ℕ, ◌+◌, ◌*◌, ◌/◌, ◌%◌, ◌<◌, ◌≤◌, Bool, true, false, refl, List, [], ◌∷◌, ◌++◌, length, take, set, sym, ◌∙◌, ap, arith, length-append, length-take-le, length-set}
use Rattle.std.proofs.lemmas.List.{take_all}
use Rattle.std.specs.Prelude.{IsTrue, IsFalse}
use Rattle.forney.specs.Values.{values, stream_of}
use Rattle.forney.specs.Interleaving.{deinterleaved}
use Rattle.forney.proofs.ValueLists.{length-values}
use Rattle.outer_chain.proofs.Filling.{none_yet, word_grows, word_goes_on}
use Rattle.rescue_words.specs.Carrying.{MarginDelays, Carries, Holds, made_of}

pub filled_is : (lines : MarginDelays) (word : List ℕ) (filled : ℕ) (margins : List ℕ) → length word ≡ 204 → filled < 204 → Holds (made_of lines word filled) margins → filled ≡ length margins % 204
filled_is lines word filled margins long small h =
    sym (length-take-le filled word (omega (arith, long, small))) ∙ ap length h.begun ∙ length-values (deinterleaved (stream_of margins)) (204 * (length margins / 204)) (length margins % 204)

filling : (lines : MarginDelays) (word : List ℕ) (filled : ℕ) (margins : List ℕ) → length word ≡ 204 → filled < 204 → Holds (made_of lines word filled) margins
    → take filled word ≡ values (deinterleaved (stream_of margins)) (204 * (length margins / 204)) filled
filling lines word filled margins long small h =
    h.begun ∙ ap (values (deinterleaved (stream_of margins)) (204 * (length margins / 204))) (sym (filled_is lines word filled margins long small h))

-- within a word
pub goes_on : (old new : MarginDelays) (word : List ℕ) (filled z m : ℕ) (margins : List ℕ) → length word ≡ 204 → filled < 203 → Holds (made_of old word filled) margins
    → Carries new (margins ++ m ∷ []) → z ≡ deinterleaved (stream_of (margins ++ m ∷ [])) (length margins) → Holds (made_of new (set word filled z) (filled + 1)) (margins ++ m ∷ [])
goes_on old new word filled z m margins long small h d g =
    let l = length-append margins (m ∷ []) in
    let count = filled_is old word filled margins long (omega (arith, small)) h in
    record {
      carries = d;
      begun = word_goes_on word margins filled z m long small count (filling old word filled margins long (omega (arith, small)) h) g
          ∙ ap (values (deinterleaved (stream_of (margins ++ m ∷ []))) (204 * (length (margins ++ m ∷ []) / 204))) (let e : filled + 1 ≡ length (margins ++ m ∷ []) % 204 = omega (arith, l, count, small) in e);
    }

pub not_yet : (old : MarginDelays) (word : List ℕ) (filled m : ℕ) (margins : List ℕ) → length word ≡ 204 → filled < 203 → Holds (made_of old word filled) margins → length (margins ++ m ∷ []) % 204 ≡ 0 → ⊥
not_yet old word filled m margins long small h e = omega (arith, length-append margins (m ∷ []), filled_is old word filled margins long (omega (arith, small)) h, e, small)

-- at the end of a word
pub begins_anew : (old new : MarginDelays) (word longer : List ℕ) (filled m : ℕ) (margins : List ℕ) → length word ≡ 204 → filled < 204 → 203 ≤ filled → Holds (made_of old word filled) margins
    → Carries new (margins ++ m ∷ []) → Holds (made_of new longer 0) (margins ++ m ∷ [])
begins_anew old new word longer filled m margins long small last h d =
    let l = length-append margins (m ∷ []) in
    let count = filled_is old word filled margins long small h in
    record {
      carries = d;
      begun = none_yet (deinterleaved (stream_of (margins ++ m ∷ []))) (204 * (length (margins ++ m ∷ []) / 204))
          ∙ ap (values (deinterleaved (stream_of (margins ++ m ∷ []))) (204 * (length (margins ++ m ∷ []) / 204))) (let e : 0 ≡ length (margins ++ m ∷ []) % 204 = omega (arith, l, count, small, last) in e);
    }

pub ends_here : (old : MarginDelays) (word : List ℕ) (filled m : ℕ) (margins : List ℕ) → length word ≡ 204 → filled < 204 → 203 ≤ filled → Holds (made_of old word filled) margins → length (margins ++ m ∷ []) % 204 ≡ 0
ends_here old word filled m margins long small last h = omega (arith, length-append margins (m ∷ []), filled_is old word filled margins long small h, last, small)

pub word_is : (old : MarginDelays) (word : List ℕ) (filled z m : ℕ) (margins : List ℕ) → length word ≡ 204 → filled < 204 → 203 ≤ filled → Holds (made_of old word filled) margins
    → z ≡ deinterleaved (stream_of (margins ++ m ∷ [])) (length margins) → set word filled z ≡ values (deinterleaved (stream_of (margins ++ m ∷ []))) (204 * (length margins / 204)) 204
word_is old word filled z m margins long small last h g =
    let all : filled + 1 ≡ 204 = omega (arith, small, last) in
    sym (take_all (filled + 1) (set word filled z) (omega (arith, length-set word filled z, long, all)))
    ∙ word_grows word margins filled z m long small (filled_is old word filled margins long small h) (filling old word filled margins long small h) g
    ∙ ap (values (deinterleaved (stream_of (margins ++ m ∷ []))) (204 * (length margins / 204))) all

-- at most 188 bytes for every 204 margins
pub fill_amount : (known : Bool) (word longer : List ℕ) (filled next : ℕ) → length word ≡ 204 → length longer ≡ 204 → filled < 204 → next < 204 → (IsFalse known → next ≡ filled + 1) → (IsTrue known → (filled ≡ 203) × (next ≡ 0))
    → (n m : ℕ) → m ≤ n + 188 → (IsFalse known → m ≡ n) → 204 * m + 188 * length (take next longer) ≤ 204 * n + 188 * (length (take filled word) + 1)
fill_amount true word longer filled next lw ll lf ln f t n m few same =
    omega (arith, length-take-le filled word (omega (arith, lw, lf)), length-take-le next longer (omega (arith, ll, ln)), (t refl).0, (t refl).1, few)
fill_amount false word longer filled next lw ll lf ln f t n m few same =
    omega (arith, length-take-le filled word (omega (arith, lw, lf)), length-take-le next longer (omega (arith, ll, ln)), f refl, same refl)
