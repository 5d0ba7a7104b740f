-- The position of a coded bit: the label bit sent there is this bit of its stream.
use Rattle.std.proofs.Common.{◌≡◌, ℕ, ◌+◌, ◌-◌, ◌*◌, ◌/◌, ◌%◌, ◌<◌, ◌≤◌, refl, sym, ap, ◌∙◌, arith, Bool, true, false, cond}
use Rattle.std.specs.Prelude.{slice_index, nat_lt, ◌==◌}
use Rattle.std.proofs.lemmas.Bool.{lt-ltb, le-ltb}
use Rattle.spec_words.specs.Words.{first_below}
use Rattle.mode_set.specs.StreamTable.{payload, label_bits, width, coded}
use Rattle.mode_set.specs.declared.modes.Mode.{Mode}
use Rattle.mode_set.specs.declared.modes.Mode.TheVariants.{M2k, M8k}
use Rattle.mode_set.specs.declared.modes.Shape.{Shape}
use Rattle.mode_set.specs.declared.modes.Shape.TheVariants.{Qpsk, Qam16, Qam64}
use Rattle.mode_set.specs.declared.modes.Hierarchy.{Hierarchy}
use Rattle.mode_set.specs.declared.modes.Hierarchy.TheVariants.{Flat, Alpha1, Alpha2, Alpha4}
use Rattle.mode_set.specs.declared.modes.Stream.{Stream}
use Rattle.mode_set.specs.declared.modes.Stream.TheVariants.{Hp, Lp}
use Rattle.mode_set.specs.declared.settings.Settings.{Settings}
use Rattle.bit_interleave.specs.Place.{place_in_label, word_of_bit, offset, stands_at, stream_at, IsSent, EachBitIsFound}
use Rattle.symbol_interleave.specs.Carried.{h, carried, place_of_word, is_odd, HIsAPermutation, PlacesAndWordsAgree}
use Rattle.inner_chain.specs.Labels.{number_at, label_bit, coded_bits}
use Rattle.inner_chain.specs.CostPairs.{payload_place}
use Rattle.symbol_parameters.specs.Spans.{settings_at}
use Rattle.transmission.specs.Transmission.{Inputs, paths_at, tx_label}

-- ---- the bit of the label, and the word a bit of a stream with n bits a label, from label bit f on
abbrev place_from : ℕ → ℕ → ℕ → ℕ
place_from n f d = d % n / (n / 2) + 2 * (d % n % (n / 2)) + f

place_2 : (f d : ℕ) → (f ≤ place_from 2 f d) × (place_from 2 f d < f + 2)
place_2 f d = (omega arith, omega arith)

place_4 : (f d : ℕ) → (f ≤ place_from 4 f d) × (place_from 4 f d < f + 4)
place_4 f d = (omega arith, omega arith)

place_6 : (f d : ℕ) → (f ≤ place_from 6 f d) × (place_from 6 f d < f + 6)
place_6 f d = (omega arith, omega arith)

word_small : (m : Mode) (i o : ℕ) → i < payload m → 126 * (i / 126) + (i + 126 - o) % 126 < payload m
word_small M2k i o l = omega (arith, l)
word_small M8k i o l = omega (arith, l)

index_2 : (p d : ℕ) → d < p * 2 → d / 2 < p
index_2 p d l = omega (arith, l)

index_4 : (p d : ℕ) → d < p * 4 → d / 4 < p
index_4 p d l = omega (arith, l)

index_6 : (p d : ℕ) → d < p * 6 → d / 6 < p
index_6 p d l = omega (arith, l)

-- bit d of a stream is at a label bit of the stream, in one of the words of the symbol
pub record IsPlaced (c : Shape) (hi : Hierarchy) (σ : Stream) (m : Mode) (d : ℕ) : Type 0 where
  pub place : place_in_label c hi σ d < label_bits c
  pub word : word_of_bit c hi σ d < payload m
  pub stream : stream_at hi (place_in_label c hi σ d) ≡ σ

-- LP's label bits are those from 2 on
low : (e : ℕ) → e < 2 → cond (nat_lt e 2) Hp Lp ≡ Hp
low e l = let t : nat_lt e 2 ≡ true = lt-ltb e 2 l in rw t refl

high : (e : ℕ) → 2 ≤ e → cond (nat_lt e 2) Hp Lp ≡ Lp
high e l = let t : nat_lt e 2 ≡ false = le-ltb e 2 l in rw t refl

pub placed : (c : Shape) (hi : Hierarchy) (σ : Stream) (m : Mode) (d : ℕ) → IsSent c hi σ → d < payload m * width c hi σ → IsPlaced c hi σ m d
placed Qpsk Flat Hp m d sent l = record { place = (place_2 0 d).1; word = word_small m (d / 2) (offset (place_from 2 0 d)) (index_2 (payload m) d l); stream = refl }
placed Qpsk Flat Lp m d sent l = absurd (cc (sent.exists))
placed Qpsk Alpha1 σ m d sent l = absurd (cc (sent.qpsk refl))
placed Qpsk Alpha2 σ m d sent l = absurd (cc (sent.qpsk refl))
placed Qpsk Alpha4 σ m d sent l = absurd (cc (sent.qpsk refl))
placed Qam16 Flat Hp m d sent l = record { place = (place_4 0 d).1; word = word_small m (d / 4) (offset (place_from 4 0 d)) (index_4 (payload m) d l); stream = refl }
placed Qam16 Flat Lp m d sent l = absurd (cc (sent.exists))
placed Qam64 Flat Hp m d sent l = record { place = (place_6 0 d).1; word = word_small m (d / 6) (offset (place_from 6 0 d)) (index_6 (payload m) d l); stream = refl }
placed Qam64 Flat Lp m d sent l = absurd (cc (sent.exists))
placed Qam16 Alpha1 Hp m d sent l =
    let p = place_2 0 d in
    record { place = omega (arith, p.1); word = word_small m (d / 2) (offset (place_from 2 0 d)) (index_2 (payload m) d l); stream = low (place_from 2 0 d) p.1 }
placed Qam16 Alpha1 Lp m d sent l =
    let p = place_2 2 d in
    record { place = p.1; word = word_small m (d / 2) (offset (place_from 2 2 d)) (index_2 (payload m) d l); stream = high (place_from 2 2 d) p.0 }
placed Qam16 Alpha2 Hp m d sent l =
    let p = place_2 0 d in
    record { place = omega (arith, p.1); word = word_small m (d / 2) (offset (place_from 2 0 d)) (index_2 (payload m) d l); stream = low (place_from 2 0 d) p.1 }
placed Qam16 Alpha2 Lp m d sent l =
    let p = place_2 2 d in
    record { place = p.1; word = word_small m (d / 2) (offset (place_from 2 2 d)) (index_2 (payload m) d l); stream = high (place_from 2 2 d) p.0 }
placed Qam16 Alpha4 Hp m d sent l =
    let p = place_2 0 d in
    record { place = omega (arith, p.1); word = word_small m (d / 2) (offset (place_from 2 0 d)) (index_2 (payload m) d l); stream = low (place_from 2 0 d) p.1 }
placed Qam16 Alpha4 Lp m d sent l =
    let p = place_2 2 d in
    record { place = p.1; word = word_small m (d / 2) (offset (place_from 2 2 d)) (index_2 (payload m) d l); stream = high (place_from 2 2 d) p.0 }
placed Qam64 Alpha1 Hp m d sent l =
    let p = place_2 0 d in
    record { place = omega (arith, p.1); word = word_small m (d / 2) (offset (place_from 2 0 d)) (index_2 (payload m) d l); stream = low (place_from 2 0 d) p.1 }
placed Qam64 Alpha1 Lp m d sent l =
    let p = place_4 2 d in
    record { place = p.1; word = word_small m (d / 4) (offset (place_from 4 2 d)) (index_4 (payload m) d l); stream = high (place_from 4 2 d) p.0 }
placed Qam64 Alpha2 Hp m d sent l =
    let p = place_2 0 d in
    record { place = omega (arith, p.1); word = word_small m (d / 2) (offset (place_from 2 0 d)) (index_2 (payload m) d l); stream = low (place_from 2 0 d) p.1 }
placed Qam64 Alpha2 Lp m d sent l =
    let p = place_4 2 d in
    record { place = p.1; word = word_small m (d / 4) (offset (place_from 4 2 d)) (index_4 (payload m) d l); stream = high (place_from 4 2 d) p.0 }
placed Qam64 Alpha4 Hp m d sent l =
    let p = place_2 0 d in
    record { place = omega (arith, p.1); word = word_small m (d / 2) (offset (place_from 2 0 d)) (index_2 (payload m) d l); stream = low (place_from 2 0 d) p.1 }
placed Qam64 Alpha4 Lp m d sent l =
    let p = place_4 2 d in
    record { place = p.1; word = word_small m (d / 4) (offset (place_from 4 2 d)) (index_4 (payload m) d l); stream = high (place_from 4 2 d) p.0 }

-- ---- the payload carrier of a word
pub place_within : HIsAPermutation → (m : Mode) (odd : Bool) (w : ℕ) → PlacesAndWordsAgree → w < payload m → place_of_word m odd w < payload m
place_within perm m false w agree l = (perm m).below w l
place_within perm m true w agree l =
    let found = (perm m).each w l in
    let back : place_of_word m true (slice_index (h m) found.0) ≡ found.0 = (agree m true found.0 found.1).0 in
    let here : place_of_word m true w ≡ found.0 = ap (place_of_word m true) (sym found.2) ∙ back in
    below_at (place_of_word m true w) found.0 (payload m) here found.1
  where
    below_at : (a b n : ℕ) → a ≡ b → b < n → a < n
    below_at a b n e k = omega (arith, e, k)

-- symbols 68 apart are both even or both odd
same_odd : (m : ℕ) → is_odd (m % 68) ≡ is_odd m
same_odd m = let e : m % 68 % 2 ≡ m % 2 = omega arith in ap (λ (z : ℕ). z == 1) e

-- ---- the label bit
number_is : (s : Settings) (e w : ℕ) (σ : Stream) (d : ℕ) → stream_at s.hierarchy e ≡ σ → IsSent s.shape s.hierarchy σ → place_in_label s.shape s.hierarchy σ d ≡ e → word_of_bit s.shape s.hierarchy σ d ≡ w
    → d < coded s σ → EachBitIsFound → number_at s e w ≡ d
unfolding number_at
number_is s e w σ d eσ sent ep ew l found =
    ap (λ (τ : Stream). first_below (coded s τ) (stands_at s.shape s.hierarchy τ e w)) eσ
    ∙ ap (λ (z : ℕ). first_below (coded s σ) (stands_at s.shape s.hierarchy σ z w)) (sym ep)
    ∙ ap (λ (z : ℕ). first_below (coded s σ) (stands_at s.shape s.hierarchy σ (place_in_label s.shape s.hierarchy σ d) z)) (sym ew)
    ∙ found s.shape s.hierarchy σ (coded s σ) d sent l

-- the label bit at the position of coded bit d is this bit
label_bit_is : EachBitIsFound → PlacesAndWordsAgree → (s : Settings) (bits : Stream → ℕ → Bool) (m : ℕ) (σ : Stream) (d : ℕ) → IsSent s.shape s.hierarchy σ → d < coded s σ → IsPlaced s.shape s.hierarchy σ s.mode d
    → label_bit s (is_odd m) bits (payload_place s (m % 68) σ d) (place_in_label s.shape s.hierarchy σ d) ≡ bits σ d
unfolding label_bit
label_bit_is found agree s bits m σ d sent l p =
    ap (λ (z : ℕ). bits (stream_at s.hierarchy e) (number_at s e z)) (carried_back ∙ refl)
    ∙ ap (bits (stream_at s.hierarchy e)) (number_is s e w σ d p.stream sent refl refl l found)
    ∙ ap (λ (τ : Stream). bits τ d) p.stream
  where
    e : ℕ
    e = place_in_label s.shape s.hierarchy σ d

    w : ℕ
    w = word_of_bit s.shape s.hierarchy σ d

    carried_back : carried s.mode (is_odd m) (payload_place s (m % 68) σ d) ≡ w
    carried_back = ap (λ (b : Bool). carried s.mode (is_odd m) (place_of_word s.mode b w)) (same_odd m) ∙ (agree s.mode (is_odd m) w p.word).1

-- with the settings of its symbol
pub label_is : EachBitIsFound → PlacesAndWordsAgree → (s : Settings) (inputs : Inputs) (m : ℕ) (σ : Stream) (d : ℕ) → let z = settings_at s m in IsSent z.shape z.hierarchy σ → d < coded z σ → IsPlaced z.shape z.hierarchy σ z.mode d
    → tx_label s inputs m (payload_place z (m % 68) σ d) (place_in_label z.shape z.hierarchy σ d) ≡ coded_bits z (paths_at s inputs m) σ d
unfolding tx_label
label_is found agree s inputs m σ d sent l p = label_bit_is found agree (settings_at s m) (coded_bits (settings_at s m) (paths_at s inputs m)) m σ d sent l p
