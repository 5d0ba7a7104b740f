-- Known bits that were sent give the labels, and so the cells, that were sent.
use Rattle.std.proofs.Common.{◌≡◌, ℕ, zero, suc, ◌+◌, ◌-◌, ◌*◌, ◌/◌, ◌%◌, ◌<◌, ◌≤◌, Bool, true, false, cond, not, ◌&&◌, ◌||◌, List, [], ◌∷◌, ◌++◌, length, map, refl, sym, ap, ap₂, ◌∙◌, subst, arith}
use Rattle.std.specs.Prelude.{IsTrue, nat_lt, nat_le, slice_index}
use Rattle.std.proofs.lemmas.Bool.{and_parts, le-ltb, leb-true}
use Rattle.std.proofs.lemmas.List.{map-append}
use Rattle.std.proofs.lemmas.List.FromFn.{get_or-map-range_with_len}
use Rattle.spec_words.specs.Bits.{is_set}
use Rattle.spec_words.specs.Words.{numbers}
use Rattle.spec_words.proofs.Counting.{numbers_end}
use Rattle.mode_set.specs.StreamTable.{payload, label_bits, has_stream}
use Rattle.mode_set.specs.declared.modes.Mode.{Mode}
use Rattle.mode_set.specs.declared.modes.Shape.{Shape}
use Rattle.mode_set.specs.declared.modes.Shape.TheVariants.{Qpsk, Qam16, Qam64}
use Rattle.mode_set.specs.declared.modes.Hierarchy.{Hierarchy}
use Rattle.mode_set.specs.declared.modes.Hierarchy.TheVariants.{Flat, Alpha1, Alpha2, Alpha4}
use Rattle.mode_set.specs.declared.modes.Stream.{Stream}
use Rattle.mode_set.specs.declared.modes.Stream.TheVariants.{Hp, Lp}
use Rattle.mode_set.specs.declared.settings.Settings.{Settings}
use Rattle.symbol_parameters.specs.Spans.{settings_at, steps_before}
use Rattle.symbol_parameters.specs.Laws.{ModeStays, StepsOfOneMore}
use Rattle.puncture.specs.SentBits.{path_of}
use Rattle.puncture.specs.Laws.{SentBitsHaveSteps}
use Rattle.bit_interleave.specs.Place.{stream_at, EachBitIsFound}
use Rattle.symbol_interleave.specs.Carried.{carried, is_odd, HIsAPermutation, PlacesAndWordsAgree}
use Rattle.pilots.specs.Carriers.{payload_carriers}
use Rattle.qam_map.specs.Points.{value_of, map_cell}
use Rattle.qam_map.specs.declared.cell.Cell.{Cell}
use Rattle.outer_chain.specs.Bits.{bit_of_stream}
use Rattle.outer_chain.specs.Sent.{outer_byte}
use Rattle.inner_chain.specs.Labels.{label_bit, number_at}
use Rattle.transmission.specs.Transmission.{Inputs, paths_at, tx_label, tx_cell}
use Rattle.measure_sums.specs.Comparing.{Comparison, carrier_at, counts, received, remade, squared_distance, error_in}
use Rattle.measure_sums.proofs.Counting.{sum_same}
use Rattle.measurement.specs.Known.{known_path, known_paths, is_present, is_zero, suffices, is_compared, remade_bit, comparison}
use Rattle.measurement.proofs.Lists.{range_same}
use Rattle.law_link.specs.Counted.{AreCounted}
use Rattle.law_link.proofs.Cells.{carrier_of, point_is}
use Rattle.law_measurement.specs.Remade.{first_bits, AreFirstSent, AreSentIn, RemadeAreSent, sent_error, ErrorIsFromSent}
use Rattle.law_measurement.proofs.Places.{word_within, number_within, same_coded_bit}

-- the known facts on the coding of a symbol
pub record IsCoding : Type 0 where
  pub counts : (m : Mode) (l : ℕ) → AreCounted m l
  pub stays : ModeStays
  pub more : StepsOfOneMore
  pub found : EachBitIsFound
  pub permutation : HIsAPermutation
  pub agree : PlacesAndWordsAgree
  pub steps : SentBitsHaveSteps

-- ---- the path of known bits

behind : (bytes : ℕ → ℕ) (j : ℕ) → path_of bytes (6 + j) ≡ bit_of_stream bytes j
behind bytes j =
    let test : nat_lt (6 + j) 6 ≡ false = le-ltb (6 + j) 6 (omega arith) in
    let same : 6 + j - 6 ≡ j = omega arith in
    ap (λ (b : Bool). cond b false (is_set (bytes ((6 + j - 6) / 8)) (7 - (6 + j - 6) % 8))) test ∙ ap (bit_of_stream bytes) same

pub first_path : (packets : List (List ℕ)) (n k : ℕ) → k < 6 + n → known_path (first_bits packets n) k ≡ path_of (outer_byte packets) k
unfolding numbers
first_path packets n zero l = refl
first_path packets n (suc zero) l = refl
first_path packets n (suc (suc zero)) l = refl
first_path packets n (suc (suc (suc zero))) l = refl
first_path packets n (suc (suc (suc (suc zero)))) l = refl
first_path packets n (suc (suc (suc (suc (suc zero))))) l = refl
first_path packets n (suc (suc (suc (suc (suc (suc j)))))) l =
    let place : 0 + j ≡ j = omega arith in
    let next : 6 + j ≡ suc (suc (suc (suc (suc (suc j))))) = omega arith in
    get_or-map-range_with_len (bit_of_stream (outer_byte packets)) 0 n j j false (omega (arith, l)) place ∙ sym (behind (outer_byte packets) j) ∙ ap (path_of (outer_byte packets)) next

known_is_sent : (packets : List (List ℕ)) (bits : List Bool) (k : ℕ) → AreFirstSent packets bits → k < 6 + length bits → known_path bits k ≡ path_of (outer_byte packets) k
known_is_sent packets bits k sent l = ap (λ (z : List Bool). known_path z k) sent ∙ first_path packets (length bits) k l

-- ---- the facts on a compared symbol

-- the stream of a label bit exists
pub stream_there : (h : Hierarchy) (e : ℕ) → IsTrue (has_stream h (stream_at h e))
stream_there Flat e = refl
stream_there Alpha1 e = go (nat_lt e 2)
  where
    go : (b : Bool) → IsTrue (has_stream Alpha1 (cond b Hp Lp))
    go true = refl
    go false = refl
stream_there Alpha2 e = go (nat_lt e 2)
  where
    go : (b : Bool) → IsTrue (has_stream Alpha2 (cond b Hp Lp))
    go true = refl
    go false = refl
stream_there Alpha4 e = go (nat_lt e 2)
  where
    go : (b : Bool) → IsTrue (has_stream Alpha4 (cond b Hp Lp))
    go true = refl
    go false = refl

of_compared : (s : Settings) (m : ℕ) (known : Stream → List Bool) (σ : Stream) → IsTrue (is_compared s m known) → suffices s m known σ ≡ true
unfolding is_compared
of_compared s m known Hp c = (and_parts (suffices s m known Hp) (suffices s m known Lp) c).0
of_compared s m known Lp c = (and_parts (suffices s m known Hp) (suffices s m known Lp) c).1

when_present : (p a b : Bool) → (not p || (a && b)) ≡ true → IsTrue p → a ≡ true
when_present true a b h p = (and_parts a b h).0
when_present false a b h p = absurd (cc p)

-- its known bits reach its end
pub reaches : (s : Settings) (m : ℕ) (known : Stream → List Bool) (σ : Stream) → IsTrue (is_compared s m known) → IsTrue (is_present s m σ) → steps_before s σ (m + 1) ≤ length (known σ)
reaches s m known σ c p =
    leb-true (steps_before s σ (m + 1)) (length (known σ))
    (when_present (is_present s m σ) (nat_le (steps_before s σ (m + 1)) (length (known σ))) (is_zero s.start || nat_le 6 (steps_before s σ m)) (of_compared s m known σ c) p)

-- ---- labels

pub same_bit : IsCoding → (s : Settings) (inputs : Inputs) (m : ℕ) (known : Stream → List Bool) (q e : ℕ) → IsTrue (is_compared s m known) → AreSentIn s inputs m known → q < payload (settings_at s m).mode → e < label_bits (settings_at s m).shape
    → remade_bit s known m q e ≡ tx_label s inputs m q e
unfolding remade_bit tx_label label_bit
same_bit coding s inputs m known q e c sent lq le =
    same_coded_bit coding.steps z σ (number_at z e w) (known_paths s known m σ) (paths_at s inputs m σ)
    (number_within coding.found z e w le (word_within coding.permutation coding.agree z.mode (is_odd m) q lq))
    (λ i l. known_is_sent (inputs σ) (known σ) (steps_before s σ m + i) (sent σ there) (omega (arith, l, coding.more s σ m, reaches s m known σ c there)))
  where
    z : Settings
    z = settings_at s m

    σ : Stream
    σ = stream_at z.hierarchy e

    w : ℕ
    w = carried z.mode (is_odd m) q

    there : IsTrue (is_present s m σ)
    there = stream_there z.hierarchy e

-- ---- cells

map_same : {A : Type 0} (f g : ℕ → A) (n : ℕ) → ((k : ℕ) → k < n → f k ≡ g k) → map f (numbers n) ≡ map g (numbers n)
unfolding numbers
map_same f g zero h = refl
map_same f g (suc n) h =
    let e : suc n ≡ n + 1 = omega arith in
    ap (λ (z : ℕ). map f (numbers z)) e ∙ ap (map f) (numbers_end n) ∙ map-append f (numbers n) (n ∷ [])
    ∙ ap₂ (λ x y. x ++ y ∷ []) (map_same f g n (λ k l. h k (omega (arith, l)))) (h n (omega arith))
    ∙ sym (ap (λ (z : ℕ). map g (numbers z)) e ∙ ap (map g) (numbers_end n) ∙ map-append g (numbers n) (n ∷ []))

real_place : (s : Shape) (i : ℕ) → i < label_bits s / 2 → 2 * i < label_bits s
real_place Qpsk i l = omega (arith, l)
real_place Qam16 i l = omega (arith, l)
real_place Qam64 i l = omega (arith, l)

imaginary_place : (s : Shape) (i : ℕ) → i < label_bits s / 2 → 2 * i + 1 < label_bits s
imaginary_place Qpsk i l = omega (arith, l)
imaginary_place Qam16 i l = omega (arith, l)
imaginary_place Qam64 i l = omega (arith, l)

abbrev cell_by : Shape → Hierarchy → List Bool → List Bool → Cell
cell_by s h r i = record { re = value_of s h r; im = value_of s h i }

map_cell_same : (s : Shape) (h : Hierarchy) (u v : ℕ → Bool) → ((e : ℕ) → e < label_bits s → u e ≡ v e) → map_cell s h u ≡ map_cell s h v
map_cell_same s h u v same =
    ap₂ (cell_by s h)
    (map_same (λ i. u (2 * i)) (λ i. v (2 * i)) (label_bits s / 2) (λ i l. same (2 * i) (real_place s i l)))
    (map_same (λ i. u (2 * i + 1)) (λ i. v (2 * i + 1)) (label_bits s / 2) (λ i l. same (2 * i + 1) (imaginary_place s i l)))

pub remade_are_sent : IsCoding → RemadeAreSent
unfolding comparison
remade_are_sent coding s inputs bytes m known q c sent l =
    map_cell_same z.shape z.hierarchy (remade_bit s known m q) (tx_label s inputs m q) (λ e le. same_bit coding s inputs m known q e c sent within le)
    ∙ sym (point_is s inputs m q (slice_index (payload_carriers z.mode (m % 68)) q) (carrier_of z m q (coding.counts z.mode (m % 68)) within).kind_is)
  where
    z : Settings
    z = settings_at s m

    within : q < payload (settings_at s m).mode
    within = subst (λ (y : Mode). q < payload y) (sym (coding.stays s (m / 272))) l

-- ---- the error

pub mode_of : IsCoding → (s : Settings) (bytes : List ℕ) (known : Stream → List Bool) (m : ℕ) → (comparison s bytes known m).settings.mode ≡ s.mode
unfolding comparison
mode_of coding s bytes known m = coding.stays s (m / 272)

symbol_error : IsCoding → (s : Settings) (inputs : Inputs) (bytes : List ℕ) (m : ℕ) (known : Stream → List Bool) → IsTrue (is_compared s m known) → AreSentIn s inputs m known → error_in (comparison s bytes known m) ≡ sent_error s inputs m (comparison s bytes known m)
symbol_error coding s inputs bytes m known c sent =
    sum_same (λ q. cond (counts x q) (squared_distance (received x q) (remade x q)) 0) (λ q. cond (counts x q) (squared_distance (received x q) (tx_cell s inputs m (carrier_at x q))) 0) (payload x.settings.mode)
    (λ q l. ap (λ (p : Cell). cond (counts x q) (squared_distance (received x q) p) 0) (remade_are_sent coding s inputs bytes m known q c sent (subst (λ (y : Mode). q < payload y) (mode_of coding s bytes known m) l)))
  where
    x : Comparison
    x = comparison s bytes known m

if_same : (b : Bool) (x y : ℕ) → (IsTrue b → x ≡ y) → cond b x 0 ≡ cond b y 0
if_same true x y h = h refl
if_same false x y h = refl

pub error_is_from_sent : IsCoding → ErrorIsFromSent
error_is_from_sent coding s inputs bytes j f a sent =
    a.error
    ∙ range_same (λ m. cond (is_compared s m (a.known m)) (error_in (comparison s bytes (a.known m) m)) 0) (λ m. cond (is_compared s m (a.known m)) (sent_error s inputs m (comparison s bytes (a.known m) m)) 0) (272 * j) 272
    (λ m p q. if_same (is_compared s m (a.known m)) (error_in (comparison s bytes (a.known m) m)) (sent_error s inputs m (comparison s bytes (a.known m) m))
    (λ c. symbol_error coding s inputs bytes m (a.known m) c (sent m p (omega (arith, q)) c)))
