-- The known bits of a stream and its encoder.
use Rattle.std.proofs.Common.{◌≡◌, ℕ, ◌+◌, ◌-◌, ◌<◌, ◌≤◌, ◌⊎◌, inl, inr, Bool, false, List, [], ◌++◌, length, take, drop, get_or, replicate, refl, sym, ap, ◌∙◌, arith, length-drop, length-take-le}
use Rattle.std.specs.Prelude.{min}
use Rattle.std.proofs.lemmas.Bool.{cases_lt}
use Rattle.std.proofs.lemmas.List.{get_or-take, get_or-drop, get_or_append_left, get_or-append_right, ext_get_or, drop_all}
use Rattle.std.proofs.lemmas.List.FromFn.{length-map-range_with_len, get_or-map-range_with_len}
use Rattle.spec_words.specs.Bits.{bit}
use Rattle.mode_set.specs.declared.modes.Stream.{Stream}
use Rattle.mode_set.specs.declared.settings.Settings.{Settings}
use Rattle.puncture.specs.SentBits.{bits_from}
use Rattle.measurement.specs.Known.{known_path}
use Rattle.measure_known_bits.specs.Seen.{KnownState}
use Rattle.measure_known_bits.specs.Passing.{passed, HasPassed, Skips, IsSettled}
use Rattle.measure_known_bits.proofs.Taking.{left_more}

-- known bits are those of the path, six places on
pub bits_known : (known : List Bool) (p n : ℕ) → p + n ≤ length known → take n (drop p known) ≡ bits_from (known_path known) (p + 6) n
bits_known known p n l =
    ext_get_or false (take n (drop p known)) (bits_from (known_path known) (p + 6) n) (long ∙ sym (length-map-range_with_len (known_path known) (p + 6) n)) each
  where
    long : length (take n (drop p known)) ≡ n
    long = length-take-le n (drop p known) (omega (arith, l, length-drop p known))

    each : (i : ℕ) → i < length (take n (drop p known)) → get_or (take n (drop p known)) i false ≡ get_or (bits_from (known_path known) (p + 6) n) i false
    each i m =
        let below : i < n = omega (arith, m, long) in
        let there : p + 6 + i ≡ p + i + 6 = omega arith in
        let back : p + i + 6 - 6 ≡ p + i = omega arith in
        let far : 6 ≤ p + i + 6 = omega arith in
        get_or-take n (drop p known) i false below ∙ get_or-drop p known i false
        ∙ sym (get_or-map-range_with_len (known_path known) (p + 6) n i (p + i + 6) false below there ∙ get_or-append_right (replicate 6 false) known 6 (p + i + 6) false refl far ∙ ap (λ (z : ℕ). get_or known z false) back)

-- a register of six bits and what waits behind it are those of a path
pub path_begins : (register waiting : List Bool) → length register ≡ 6 → register ≡ bits_from (bit (register ++ waiting)) 0 6
path_begins register waiting l = ext_get_or false register (bits_from (bit (register ++ waiting)) 0 6) (l ∙ sym (length-map-range_with_len (bit (register ++ waiting)) 0 6)) each
  where
    each : (i : ℕ) → i < length register → get_or register i false ≡ get_or (bits_from (bit (register ++ waiting)) 0 6) i false
    each i m =
        let below : i < 6 = omega (arith, m, l) in
        let there : 0 + i ≡ i = omega arith in
        sym (get_or-map-range_with_len (bit (register ++ waiting)) 0 6 i i false below there ∙ get_or_append_left register waiting false i m)

pub path_goes_on : (register waiting : List Bool) (n : ℕ) → length register ≡ 6 → n ≤ length waiting → take n waiting ≡ bits_from (bit (register ++ waiting)) 6 n
path_goes_on register waiting n l few = ext_get_or false (take n waiting) (bits_from (bit (register ++ waiting)) 6 n) (long ∙ sym (length-map-range_with_len (bit (register ++ waiting)) 6 n)) each
  where
    long : length (take n waiting) ≡ n
    long = length-take-le n waiting few

    each : (i : ℕ) → i < length (take n waiting) → get_or (take n waiting) i false ≡ get_or (bits_from (bit (register ++ waiting)) 6 n) i false
    each i m =
        let below : i < n = omega (arith, m, long) in
        let there : 6 + i ≡ i + 6 = omega arith in
        let back : i + 6 - 6 ≡ i = omega arith in
        let far : 6 ≤ i + 6 = omega arith in
        get_or-take n waiting i false below
        ∙ sym (get_or-map-range_with_len (bit (register ++ waiting)) 6 n i (i + 6) false below there ∙ get_or-append_right register waiting 6 (i + 6) false l far ∙ ap (λ (z : ℕ). get_or waiting z false) back)

pub stays_long : (waiting left register after : List Bool) (count : ℕ) → count ≤ length waiting → length register ≡ 6 → Skips waiting left register after count → length after ≡ 6
stays_long waiting left register after count c l k =
    ap length (k.register (bit (register ++ waiting)) 0 (path_begins register waiting l) (path_goes_on register waiting count l c))
    ∙ length-map-range_with_len (bit (register ++ waiting)) (0 + count) 6

-- the encoder passes what is known of the steps before the symbol
pub passes : (s : Settings) (σ : Stream) (m : ℕ) (old : KnownState) (left register after known : List Bool) (count : ℕ) → count ≡ min old.lag (length old.waiting) → Skips old.waiting left register after count
    → HasPassed s σ m old register known → HasPassed s σ m (record { waiting = left; lag = old.lag - count; before = old.before }) after known
passes s σ m old left register after known count c k h =
    let on : old.before - (old.lag - count) ≡ passed old + count = omega (arith, c, h.lag) in
    let long : length old.waiting ≡ length known - passed old = ap length h.waiting ∙ length-drop (passed old) known in
    let within : passed old + count ≤ length known = omega (arith, c, long, h.within) in
    record {
      before = h.before;
      lag = omega (arith, h.lag);
      within = omega (arith, on, within);
      waiting = left_more known old.waiting left (passed old) count (old.before - (old.lag - count)) (sym on) h.waiting k.waiting;
      register_is = k.register (known_path known) (passed old) h.register_is (ap (take count) h.waiting ∙ bits_known known (passed old) count within) ∙ ap (λ (z : ℕ). bits_from (known_path known) z 6) (sym on);
    }

pub settles : (waiting left : List Bool) (lag count before : ℕ) → count ≡ min lag (length waiting) → left ≡ drop count waiting → IsSettled (record { waiting = left; lag = lag - count; before = before })
settles waiting left lag count before c d = go (cases_lt (length waiting) lag)
  where
    go : (length waiting < lag) ⊎ (lag ≤ length waiting) → ◌⊎◌ (lag - count ≡ 0) (left ≡ [])
    go (inl l) = inr (d ∙ drop_all count waiting (omega (arith, c, l)))
    go (inr l) = inl (omega (arith, c, l))
