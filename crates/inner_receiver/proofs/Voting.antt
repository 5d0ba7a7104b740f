-- The bits of a frame, symbol by symbol, and the words counted.
use Rattle.std.proofs.Common.{◌≡◌, ℕ, zero, suc, ◌+◌, ◌-◌, ◌*◌, ◌/◌, ◌%◌, ◌<◌, ◌≤◌, Bool, false, cond, eqb, inl, inr, ◌⊎◌, List, length, take, drop, set, map, get_or, refl, sym, ap, ap₂, ◌∙◌, subst, arith, length-drop}
use Rattle.std.specs.Prelude.{◌↔◌, IsTrue}
use Rattle.std.specs.List.{range_with_len}
use Rattle.std.proofs.lemmas.Bool.{cases_lt, ne_eqb, eq-eqb}
use Rattle.std.proofs.lemmas.List.{get_or-set_same, get_or-set_other, get_or-drop, ext_get_or}
use Rattle.std.proofs.lemmas.List.FromFn.{length-map-range_with_len, get_or-map-range_with_len}
use Rattle.spec_words.specs.Words.{numbers}
use Rattle.outer_chain.specs.Words.{count}
use Rattle.mode_set.specs.declared.modes.Mode.{Mode}
use Rattle.pilots.specs.Carriers.{tps_carriers}
use Rattle.qam_map.specs.declared.cell.Cell.{Cell}
use Rattle.tps_word.specs.Vote.{vote, bits_from}
use Rattle.reception.specs.Frames.{frame_bit, frame_bits, IsReadable, CountsWords}
use Rattle.inner_receiver.specs.Framing.{FrameStands, IsVoted}
use Rattle.inner_receiver.specs.declared.frames.FrameReader.{FrameReader}

-- ---- counts

count_same : (f g : ℕ → Bool) (n : ℕ) → ((k : ℕ) → k < n → f k ≡ g k) → count f n ≡ count g n
unfolding count
count_same f g zero h = refl
count_same f g (suc n) h = ap₂ (λ (b : Bool) (k : ℕ). cond b 1 0 + k) (h n (omega arith)) (count_same f g n (λ k l. h k (omega (arith, l))))

abbrev with_test : (ℕ → Bool) → ℕ → Bool → ℕ → Bool
with_test f n b k = cond (eqb k n) b (f k)

others : (f : ℕ → Bool) (n : ℕ) (b : Bool) (k : ℕ) → k < n → with_test f n b k ≡ f k
others f n b k l = ap (λ e. cond e b (f k)) (ne_eqb k n (λ e. absurd (omega (arith, l, e))))

this : (f : ℕ → Bool) (n : ℕ) (b : Bool) → with_test f n b n ≡ b
this f n b = ap (λ e. cond e b (f n)) (eq-eqb n n refl)

count_with : (f : ℕ → Bool) (n : ℕ) (b : Bool) → count (with_test f n b) (n + 1) ≡ cond b 1 0 + count f n
unfolding count
count_with f n b =
    ap (count (with_test f n b)) (let e : n + 1 ≡ suc n = omega arith in e)
    ∙ ap₂ (λ (b : Bool) (k : ℕ). cond b 1 0 + k) (this f n b) (count_same (with_test f n b) f n (others f n b))

-- one more word
word_more : (word : ℕ → List Bool) (n read bad more_read more_bad : ℕ) (b : Bool) → more_read ≡ cond b 1 0 + read → more_read + more_bad ≡ read + bad + 1 → (IsTrue b ↔ IsReadable (word n)) → CountsWords word n read bad → CountsWords word (n + 1) more_read more_bad
word_more word n read bad more_read more_bad b r t is h = record {
  is_read = with_test h.is_read n b;
  reads = λ f l. go f l (cases_lt f n);
  read_is = r ∙ ap (λ k. cond b 1 0 + k) h.read_is ∙ sym (count_with h.is_read n b);
  all = t ∙ ap (λ k. k + 1) h.all;
}
  where
    go : (f : ℕ) → f < n + 1 → (f < n) ⊎ (n ≤ f) → IsTrue (with_test h.is_read n b f) ↔ IsReadable (word f)
    go f l (inl s) = subst (λ (z : Bool). IsTrue z ↔ IsReadable (word f)) (sym (others h.is_read n b f s)) (h.reads f s)
    go f l (inr s) = let e : n ≡ f = omega (arith, l, s) in subst (λ k. IsTrue (with_test h.is_read n b k) ↔ IsReadable (word k)) e (subst (λ (z : Bool). IsTrue z ↔ IsReadable (word n)) (sym (this h.is_read n b)) is)

pub no_frames : (mode : Mode) (x : FrameReader) (cells : ℕ → List Cell) → x.symbol ≡ 0 → x.read ≡ 0 → x.bad ≡ 0 → FrameStands mode x cells 0
unfolding count
no_frames mode x cells s r b = record {
  symbol = s;
  before = λ l. absurd (omega (arith, l));
  bits = λ i l. absurd (omega (arith, l));
  counts = record { is_read = λ f. false; reads = λ f l. absurd (omega (arith, l)); read_is = r; all = omega (arith, r, b) };
}

-- ---- a vote

pub noted : (mode : Mode) (x y : FrameReader) (cells : ℕ → List Cell) (n : ℕ) (bit : Bool) → length x.bits ≡ 68 → x.symbol < 68 → y.bits ≡ set x.bits x.symbol bit → y.symbol ≡ x.symbol → y.read ≡ x.read → y.bad ≡ x.bad
    → take (length (tps_carriers mode)) y.before ≡ cells n → bit ≡ vote (take (length (tps_carriers mode)) x.before) (take (length (tps_carriers mode)) y.before) → FrameStands mode x cells n → IsVoted mode y cells n
noted mode x y cells n bit long small set_is s r b now v h = record {
  symbol = s ∙ h.symbol;
  before = now;
  bits = λ i l. go i l (cases_lt (i + 1) (n % 68));
  counts = subst (λ k. CountsWords (frame_bits cells) (n / 68) k y.bad) (sym r) (subst (λ k. CountsWords (frame_bits cells) (n / 68) x.read k) (sym b) h.counts);
}
  where
    go : (i : ℕ) → i + 1 ≤ n % 68 → (i + 1 < n % 68) ⊎ (n % 68 ≤ i + 1) → get_or y.bits (i + 1) false ≡ frame_bit cells (n / 68) i
    go i l (inl k) = ap (λ (z : List Bool). get_or z (i + 1) false) set_is ∙ get_or-set_other x.bits x.symbol (i + 1) bit false (λ e. absurd (omega (arith, k, e, h.symbol))) ∙ h.bits i k
    go i l (inr k) =
        let here : i + 1 ≡ x.symbol = omega (arith, l, k, h.symbol) in
        let first : 68 * (n / 68) + i ≡ n - 1 = omega (arith, l, k) in
        let second : 68 * (n / 68) + i + 1 ≡ n = omega (arith, l, k) in
        ap₂ (λ (z : List Bool) (j : ℕ). get_or z j false) set_is here ∙ get_or-set_same x.bits x.symbol bit false (omega (arith, small, long))
        ∙ v ∙ ap₂ vote (h.before (omega (arith, l)) ∙ ap cells (sym first)) (now ∙ ap cells (sym second))

-- ---- the next symbol

pub goes_on : (mode : Mode) (x y : FrameReader) (cells : ℕ → List Cell) (n : ℕ) → x.symbol < 67 → y.symbol ≡ x.symbol + 1 → y.before ≡ x.before → y.bits ≡ x.bits → y.read ≡ x.read → y.bad ≡ x.bad → IsVoted mode x cells n → FrameStands mode y cells (n + 1)
goes_on mode x y cells n small s c b r d h =
    let same : (n + 1) / 68 ≡ n / 68 = omega (arith, small, h.symbol) in
    let next : (n + 1) % 68 ≡ n % 68 + 1 = omega (arith, small, h.symbol) in
    let last : n + 1 - 1 ≡ n = omega arith in
    record {
      symbol = omega (arith, s, h.symbol, next);
      before = λ l. ap (take (length (tps_carriers mode))) c ∙ h.before ∙ ap cells (sym last);
      bits = λ i l. ap (λ (z : List Bool). get_or z (i + 1) false) b ∙ h.bits i (omega (arith, l, next)) ∙ ap (λ k. frame_bit cells k i) (sym same);
      counts = subst (λ k. CountsWords (frame_bits cells) ((n + 1) / 68) k y.bad) (sym r) (subst (λ k. CountsWords (frame_bits cells) ((n + 1) / 68) x.read k) (sym d) (subst (λ k. CountsWords (frame_bits cells) k x.read x.bad) (sym same) h.counts));
    }

-- the word of a whole frame
whole_word : (mode : Mode) (x : FrameReader) (cells : ℕ → List Cell) (n : ℕ) → length x.bits ≡ 68 → 67 ≤ n % 68 → IsVoted mode x cells n → drop 1 x.bits ≡ frame_bits cells (n / 68)
unfolding frame_bits bits_from numbers
whole_word mode x cells n long last h =
    let size : length (drop 1 x.bits) ≡ 67 = length-drop 1 x.bits ∙ (omega (arith, long)) in
    ext_get_or false (drop 1 x.bits) (map (frame_bit cells (n / 68)) (range_with_len 0 67)) (size ∙ sym (length-map-range_with_len (frame_bit cells (n / 68)) 0 67))
    (λ i l.
    let place : 0 + i ≡ i = omega arith in
    let next : 1 + i ≡ i + 1 = omega arith in
    get_or-drop 1 x.bits i false ∙ ap (λ k. get_or x.bits k false) next ∙ h.bits i (omega (arith, l, size, last)) ∙ sym (get_or-map-range_with_len (frame_bit cells (n / 68)) 0 67 i i false (omega (arith, l, size)) place))

pub ends_frame : (mode : Mode) (x y : FrameReader) (cells : ℕ → List Cell) (n : ℕ) (word : List Bool) (b : Bool) → length x.bits ≡ 68 → x.symbol < 68 → 67 ≤ x.symbol → y.symbol ≡ 0 → word ≡ drop 1 x.bits → (IsTrue b ↔ IsReadable word)
    → y.read ≡ cond b 1 0 + x.read → y.read + y.bad ≡ x.read + x.bad + 1 → IsVoted mode x cells n → FrameStands mode y cells (n + 1)
ends_frame mode x y cells n word b long small last s w is r t h =
    let next : (n + 1) / 68 ≡ n / 68 + 1 = omega (arith, small, last, h.symbol) in
    let first : (n + 1) % 68 ≡ 0 = omega (arith, small, last, h.symbol) in
    let whole : word ≡ frame_bits cells (n / 68) = w ∙ whole_word mode x cells n long (omega (arith, last, h.symbol)) h in
    record {
      symbol = s ∙ sym first;
      before = λ l. absurd (omega (arith, l, first));
      bits = λ i l. absurd (omega (arith, l, first));
      counts = subst (λ k. CountsWords (frame_bits cells) k y.read y.bad) (sym next) (word_more (frame_bits cells) (n / 68) x.read x.bad y.read y.bad b r t (subst (λ (z : List Bool). IsTrue b ↔ IsReadable z) whole is) h.counts);
    }
