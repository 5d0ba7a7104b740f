-- A symbol's parities and labels, along the paths of both streams.
use Rattle.std.proofs.Common.{◌≡◌, ℕ, zero, suc, ◌+◌, ◌-◌, ◌*◌, ◌/◌, ◌%◌, ◌^◌, ◌<◌, ◌≤◌, Bool, List, [], ◌∷◌, ◌++◌, length, take, map, refl, sym, ap, ◌∙◌, subst, arith}
use Rattle.std.specs.Prelude.{slice_index}
use Rattle.std.specs.List.{range_with_len}
use Rattle.spec_words.specs.Bits.{is_set}
use Rattle.mode_set.specs.StreamTable.{payload, label_bits, need}
use Rattle.mode_set.specs.declared.modes.Shape.{Shape}
use Rattle.mode_set.specs.declared.modes.Shape.TheVariants.{Qpsk, Qam16, Qam64}
use Rattle.mode_set.specs.declared.modes.Stream.{Stream}
use Rattle.mode_set.specs.declared.modes.Stream.TheVariants.{Hp, Lp}
use Rattle.mode_set.specs.declared.settings.Settings.{Settings}
use Rattle.puncture.specs.SentBits.{bits_from}
use Rattle.bit_interleave.specs.Place.{stream_at}
use Rattle.symbol_interleave.specs.Carried.{carried}
use Rattle.inner_chain.specs.Labels.{Paths, from_step, behind, input_bits, coded_bits, parity_at, number_at, label_bit, AppendsLabels}
use Rattle.inner_chain.specs.Tables.{first_step, read_bit, AreParities, AreAllParities, AreWithin, IsEntry, AreEntries, AreEntriesOf, AppendsGathered, most_steps}
use Rattle.inner_chain.proofs.Entering.{few_steps, in_all_steps}

range_from : (path : ℕ → Bool) (n t u k : ℕ) → n + t ≡ u → map (from_step path n) (range_with_len t k) ≡ map path (range_with_len u k)
range_from path n t u zero e = refl
range_from path n t u (suc k) e =
    let next : n + (t + 1) ≡ u + 1 = omega (arith, e) in
    ap (λ (z : Bool). z ∷ map (from_step path n) (range_with_len (t + 1) k)) (ap path e) ∙ ap (λ (z : List Bool). path u ∷ z) (range_from path n (t + 1) (u + 1) k next)

pub bits_from_step : (path : ℕ → Bool) (n t u k : ℕ) → n + t ≡ u → bits_from (from_step path n) t k ≡ bits_from path u k
bits_from_step path n t u k e = range_from path n t u k e

-- ---- parities of both streams
pub code_parities : (s : Settings) (paths : Paths) (n1 n2 : ℕ) (xs1 xs2 : List Bool) → n1 ≡ need s Hp → n2 ≡ need s Lp
    → AreParities (paths Hp) 0 n1 xs1 → AreParities (paths Lp) n1 n2 xs2 → ((k : ℕ) → k < 2 * n1 → read_bit xs2 k ≡ read_bit xs1 k)
    → AreAllParities s paths xs2
code_parities s paths n1 n2 xs1 xs2 e1 e2 hp lp before = record { at = at }
  where
    at : (σ : Stream) (t k : ℕ) → t < need s σ → k < 2 → read_bit xs2 (2 * (first_step s σ + t) + k) ≡ parity_at k (paths σ) t
    at Hp t k l two =
        let here : t < n1 = omega (arith, l, e1) in
        let place : 2 * (0 + t) + k < 2 * n1 = omega (arith, here, two) in
        before (2 * (0 + t) + k) place ∙ hp.at t k here two
    at Lp t k l two =
        let here : t < n2 = omega (arith, l, e2) in
        ap (λ (z : ℕ). read_bit xs2 (2 * (z + t) + k)) (sym e1) ∙ lp.at t k here two

pub input_is : (s : Settings) (paths : Paths) (σ : Stream) (n : ℕ) (waiting : List Bool) → n ≡ need s σ → take (need s σ) waiting ≡ input_bits s paths σ → take n waiting ≡ bits_from (paths σ) 6 n
input_is s paths σ n waiting e taken = ap (λ (z : ℕ). take z waiting) e ∙ taken ∙ ap (λ (z : ℕ). bits_from (paths σ) 6 z) (sym e)

pub register_next : (s : Settings) (paths : Paths) (σ : Stream) (n : ℕ) (register : List Bool) → n ≡ need s σ → register ≡ bits_from (paths σ) n 6 → register ≡ bits_from (behind s paths σ) 0 6
register_next s paths σ n register e is = let same : need s σ + 0 ≡ n = omega (arith, e) in is ∙ sym (bits_from_step (paths σ) (need s σ) 0 n 6 same)

-- ---- labels
row_and_rest : (c : Shape) (n k : ℕ) → k < n * label_bits c → (k / label_bits c < n) × (k % label_bits c < label_bits c) × (k / label_bits c * label_bits c + k % label_bits c ≡ k)
row_and_rest Qpsk n k l = (omega (arith, l), omega arith, omega arith)
row_and_rest Qam16 n k l = (omega (arith, l), omega arith, omega arith)
row_and_rest Qam64 n k l = (omega (arith, l), omega arith, omega arith)

stream_below : (s : Settings) (σ : Stream) (n : ℕ) → first_step s σ ≤ n → n < first_step s σ + need s σ → n < need s Hp + need s Lp
stream_below s σ n l m = omega (arith, l, m, in_all_steps s σ (n - first_step s σ) (omega (arith, l, m)))

pub entries_within : (s : Settings) (word : ℕ → ℕ) (entries : List ℕ) (len : ℕ) → AreEntriesOf s word entries → 2 * most_steps s.mode ≤ len → AreWithin entries len
entries_within s word entries len a e = record { at = at }
  where
    at : (k : ℕ) → k < length entries → slice_index entries k < len
    at k l =
        let r = row_and_rest s.shape (payload s.mode) k (omega (arith, l, a.long)) in
        let here : IsEntry s (k % label_bits s.shape) (word (k / label_bits s.shape)) (slice_index entries k) =
        subst (λ (z : ℕ). IsEntry s (k % label_bits s.shape) (word (k / label_bits s.shape)) (slice_index entries z)) r.2 (a.at (k / label_bits s.shape) (k % label_bits s.shape) r.0 r.1) in
        omega (arith, e, few_steps s, stream_below s (stream_at s.hierarchy (k % label_bits s.shape)) (slice_index entries k / 2) here.from here.to)

pub label_is : (s : Settings) (odd : Bool) (bits : Stream → ℕ → Bool) (q e : ℕ) → label_bit s odd bits q e ≡ bits (stream_at s.hierarchy e) (number_at s e (carried s.mode odd q))
unfolding label_bit
label_is s odd bits q e = refl

pub labels_are : (s : Settings) (odd : Bool) (paths : Paths) (entries : List ℕ) (ps : List Bool) (old new : List ℕ) (number count : ℕ) → AreEntries s odd entries → number ≡ payload s.mode → count ≡ label_bits s.shape
    → AreAllParities s paths ps → AppendsGathered ps entries number count old new → AppendsLabels s odd (coded_bits s paths) old new
labels_are s odd paths entries ps old new number count a en ec all g =
    record { labels = g.labels; are = record { long = g.long ∙ en; small = small; bit = bit }; is = g.is }
  where
    small : (q : ℕ) → q < payload s.mode → slice_index g.labels q < 2 ^ label_bits s.shape
    small q l = subst (λ (z : ℕ). slice_index g.labels q < 2 ^ z) ec (g.at q (omega (arith, l, en))).small

    bit : (q e : ℕ) → q < payload s.mode → e < label_bits s.shape → is_set (slice_index g.labels q) e ≡ label_bit s odd (coded_bits s paths) q e
    bit q e l le = read ∙ sym (label_is s odd (coded_bits s paths) q e)
      where
        σ : Stream
        σ = stream_at s.hierarchy e

        n : ℕ
        n = slice_index entries (q * label_bits s.shape + e)

        entry : IsEntry s e (carried s.mode odd q) n
        entry = a.at q e l le

        t : ℕ
        t = n / 2 - first_step s σ

        gathered : is_set (slice_index g.labels q) e ≡ read_bit ps n
        gathered = (g.at q (omega (arith, l, en))).bit e (omega (arith, le, ec)) ∙ ap (λ (z : ℕ). read_bit ps (slice_index entries (q * z + e))) ec

        place : 2 * (first_step s σ + t) + n % 2 ≡ n
        place = omega (arith, entry.from)

        read : is_set (slice_index g.labels q) e ≡ coded_bits s paths σ (number_at s e (carried s.mode odd q))
        read =
            gathered
            ∙ ap (read_bit ps) (sym place)
            ∙ all.at σ t (n % 2) (omega (arith, entry.from, entry.to)) (omega arith)
            ∙ sym (entry.reads (paths σ))

-- a list that was written over as a whole
take_front : {A : Type 0} (xs ys : List A) → take (length xs) (xs ++ ys) ≡ xs
take_front [] ys = refl
take_front (x ∷ xs) ys = ap (λ zs. x ∷ zs) (take_front xs ys)

pub written_over : {A : Type 0} (n : ℕ) (xs ys : List A) → n ≡ length xs → take n (xs ++ ys) ≡ xs
written_over n xs ys e = ap (λ (z : ℕ). take z (xs ++ ys)) e ∙ take_front xs ys
