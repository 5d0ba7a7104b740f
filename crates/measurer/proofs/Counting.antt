-- The TPS words of the frames of a super-frame.
use Rattle.std.proofs.Common.{◌≡◌, ℕ, zero, suc, ◌+◌, ◌-◌, ◌*◌, ◌/◌, ◌<◌, ◌≤◌, Bool, true, false, cond, List, ◌++◌, refl, sym, ap, ap₂, ◌∙◌, subst, arith}
use Rattle.std.specs.Prelude.{◌↔◌, IsTrue}
use Rattle.mode_set.specs.declared.modes.Mode.{Mode}
use Rattle.mode_set.specs.declared.settings.Settings.{Settings}
use Rattle.outer_chain.specs.Words.{count}
use Rattle.qam_map.specs.declared.cell.Cell.{Cell}
use Rattle.tps_word.specs.Vote.{vote}
use Rattle.reception.specs.Cells.{symbols}
use Rattle.reception.specs.Frames.{tps_cells, frame_bits, IsReadable, CountsWords}
use Rattle.reception.specs.Laws.{TpsCellsStay, BitsOfCells}
use Rattle.inner_receiver.specs.Framing.{FrameStands}
use Rattle.inner_receiver.specs.declared.frames.FrameReader.{FrameReader}

same_test : (b c : Bool) → (IsTrue b → IsTrue c) → (IsTrue c → IsTrue b) → b ≡ c
same_test true c f g = sym (f refl)
same_test false true f g = g refl
same_test false false f g = refl

count_on : (p : ℕ → Bool) (a n : ℕ) → count p (a + n) ≡ count p a + count (λ i. p (a + i)) n
unfolding count
count_on p a zero = let e : a + 0 ≡ a = omega arith in ap (count p) e ∙ (omega arith)
count_on p a (suc n) =
    let e : a + suc n ≡ suc (a + n) = omega arith in
    let rest = count_on p a n in
    ap (count p) e ∙ (omega (arith, rest))

count_alike : (p q : ℕ → Bool) (n : ℕ) → ((k : ℕ) → k < n → p k ≡ q k) → count p n ≡ count q n
unfolding count
count_alike p q zero h = refl
count_alike p q (suc n) h = ap₂ (λ (b : Bool) (k : ℕ). cond b 1 0 + k) (h n (omega arith)) (count_alike p q n (λ k l. h k (omega (arith, l))))

count_few : (p : ℕ → Bool) (n : ℕ) → count p n ≤ n
unfolding count
count_few p zero = omega arith
count_few p (suc n) = go (p n) (count_few p n)
  where
    go : (b : Bool) → count p n ≤ n → cond b 1 0 + count p n ≤ suc n
    go true l = omega (arith, l)
    go false l = omega (arith, l)

-- the words after the first n, as many as there are
pub record FollowOn (word : ℕ → List Bool) (n k read bad read1 bad1 : ℕ) : Type 0 where
  pub read_before : read ≤ read1
  pub bad_before : bad ≤ bad1
  pub counts : CountsWords (λ i. word (n + i)) k (read1 - read) (bad1 - bad)

pub words_follow : (word : ℕ → List Bool) (n k read bad read1 bad1 : ℕ) → CountsWords word n read bad → CountsWords word (n + k) read1 bad1 → FollowOn word n k read bad read1 bad1
words_follow word n k read bad read1 bad1 x y =
    let alike : count x.is_read n ≡ count y.is_read n = count_alike x.is_read y.is_read n
    (λ f l. same_test (x.is_read f) (y.is_read f) (λ t. (y.reads f (omega (arith, l))).1 ((x.reads f l).0 t)) (λ t. (x.reads f l).1 ((y.reads f (omega (arith, l))).0 t))) in
    let split : count y.is_read (n + k) ≡ count y.is_read n + count (λ i. y.is_read (n + i)) k = count_on y.is_read n k in
    let few : count (λ i. y.is_read (n + i)) k ≤ k = count_few (λ i. y.is_read (n + i)) k in
    record {
      read_before = omega (arith, alike, split, x.read_is, y.read_is);
      bad_before = omega (arith, alike, split, few, x.read_is, y.read_is, x.all, y.all);
      counts = record {
        is_read = λ i. y.is_read (n + i);
        reads = λ i l. y.reads (n + i) (omega (arith, l));
        read_is = omega (arith, alike, split, x.read_is, y.read_is);
        all = omega (arith, alike, split, few, x.read_is, y.read_is, x.all, y.all);
      };
    }

-- more bytes leave the words of whole frames
pub words_stay : TpsCellsStay → BitsOfCells → (s : Settings) (bytes more : List ℕ) (n read bad : ℕ) → 68 * n ≤ symbols s bytes → CountsWords (frame_bits (tps_cells s bytes)) n read bad → CountsWords (frame_bits (tps_cells s (bytes ++ more))) n read bad
words_stay tps bits s bytes more n read bad l c = record {
  is_read = c.is_read;
  reads = λ f k. subst (λ (w : List Bool). IsTrue (c.is_read f) ↔ IsReadable w) (sym (bits (tps_cells s bytes) (tps_cells s (bytes ++ more)) f (λ m h. tps s bytes more m (omega (arith, h, k, l))))) (c.reads f k);
  read_is = c.read_is;
  all = c.all;
}

-- no word
pub no_words : (word : ℕ → List Bool) → CountsWords word 0 0 0
unfolding count
no_words word = record { is_read = λ i. false; reads = λ f l. absurd (omega (arith, l)); read_is = refl; all = refl }

-- the reader of TPS words needs the cells of the symbols that it had, and no others
pub frames_alike : BitsOfCells → (mode : Mode) (x : FrameReader) (cells longer : ℕ → List Cell) (n : ℕ) → ((m : ℕ) → m < n → longer m ≡ cells m) → FrameStands mode x cells n → FrameStands mode x longer n
frames_alike bits mode x cells longer n same h = record {
  symbol = h.symbol;
  before = λ l. h.before l ∙ sym (same (n - 1) (omega (arith, l)));
  bits = λ i l. h.bits i l ∙ ap₂ vote (sym (same (68 * (n / 68) + i) (omega (arith, l)))) (sym (same (68 * (n / 68) + i + 1) (omega (arith, l))));
  counts = record {
    is_read = h.counts.is_read;
    reads = λ f l. subst (λ (z : List Bool). IsTrue (h.counts.is_read f) ↔ IsReadable z) (sym (bits cells longer f (λ m k. same m (omega (arith, k, l))))) (h.counts.reads f l);
    read_is = h.counts.read_is;
    all = h.counts.all;
  };
}
