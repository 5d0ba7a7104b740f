-- Bytes have one reception at a moment, and longer bytes only add to it.
use Rattle.std.proofs.Common.{◌≡◌, ℕ, zero, suc, ◌+◌, ◌-◌, ◌*◌, ◌/◌, ◌<◌, ◌≤◌, Bool, true, false, cond, List, [], ◌∷◌, ◌++◌, length, take, drop, refl, sym, ap, ap₂, ◌∙◌, subst, arith, length-append, take-append-drop}
use Rattle.std.specs.Prelude.{IsTrue}
use Rattle.std.proofs.lemmas.List.Concat.{flat_map_single}
use Rattle.spec_words.specs.Words.{numbers}
use Rattle.code_paths.specs.Streams.{IsPrefix, Given, Reports}
use Rattle.code_paths.specs.Laws.{GivenOnce, EndedOnce, ReportsOnce, GivenGrows, ReportsGrow, GivenBeginsEnded}
use Rattle.mode_set.specs.StreamTable.{carriers}
use Rattle.mode_set.specs.declared.modes.Stream.{Stream}
use Rattle.mode_set.specs.declared.settings.Settings.{Settings}
use Rattle.outer_chain.specs.Bits.{bytes_of, MoreBits}
use Rattle.outer_chain.specs.Words.{Packets, Tallies, count}
use Rattle.outer_chain.specs.Laws.{OnePackets, OneTally, MorePackets}
use Rattle.tps_word.specs.Vote.{vote, bits_from}
use Rattle.reception.specs.Cells.{symbols}
use Rattle.reception.specs.Costs.{costs}
use Rattle.reception.specs.Frames.{tps_cells, frame_bit, frame_bits, IsReadable, CountsWords, CountsFrames}
use Rattle.reception.specs.Streams.{memory, start_of}
use Rattle.reception.specs.Laws.{OneLive, OneFinal, LiveGrows, FinalEndsLive, BitsOfCells}
use Rattle.reception.proofs.Numbered.{same_parts}
use Rattle.reception.proofs.Symbols.{more_count, tps_cells_stay}
use Rattle.reception.proofs.CostLists.{costs_grow}

-- ---- counts of frames

same_test : (b c : Bool) → (IsTrue b → IsTrue c) → (IsTrue c → IsTrue b) → b ≡ c
same_test true c f g = sym (f refl)
same_test false true f g = g refl
same_test false false f g = refl

count_same : (f g : ℕ → Bool) (n : ℕ) → ((k : ℕ) → k < n → f k ≡ g k) → count f n ≡ count g n
unfolding count
count_same f g zero h = refl
count_same f g (suc n) h = ap₂ (λ (b : Bool) (k : ℕ). cond b 1 0 + k) (h n (omega arith)) (count_same f g n (λ k l. h k (omega (arith, l))))

count_step : (f : ℕ → Bool) (n : ℕ) → (count f n ≤ count f (suc n)) × (count f (suc n) ≤ 1 + count f n)
unfolding count
count_step f n = go (f n)
  where
    go : (b : Bool) → (count f n ≤ cond b 1 0 + count f n) × (cond b 1 0 + count f n ≤ 1 + count f n)
    go true = (omega arith, omega arith)
    go false = (omega arith, omega arith)

count_more : (f : ℕ → Bool) (n d : ℕ) → (count f n ≤ count f (d + n)) × (count f (d + n) ≤ d + count f n)
count_more f n zero = let e : count f (0 + n) ≡ count f n = ap (count f) (let e : 0 + n ≡ n = omega arith in e) in (omega (arith, e), omega (arith, e))
count_more f n (suc d) =
    let e : count f (suc d + n) ≡ count f (suc (d + n)) = ap (count f) (let e : suc d + n ≡ suc (d + n) = omega arith in e) in
    let r = count_more f n d in
    let s = count_step f (d + n) in
    (omega (arith, e, r.0, s.0), omega (arith, e, r.1, s.1))

-- the frames of longer bytes that are readable, and those that are not
counted : (word longer : ℕ → List Bool) (n m read bad more_read more_bad : ℕ) → n ≤ m → ((f : ℕ) → f < n → longer f ≡ word f) → CountsWords word n read bad → CountsWords longer m more_read more_bad
    → (read ≤ more_read) × (more_read ≤ read + (m - n)) × (read + bad ≡ n) × (more_read + more_bad ≡ m)
counted word longer n m read bad more_read more_bad l same x y =
    let alike : count y.is_read n ≡ count x.is_read n = count_same y.is_read x.is_read n (λ f k. same_test (y.is_read f) (x.is_read f)
    (λ t. (x.reads f k).1 (subst IsReadable (same f k) ((y.reads f (omega (arith, k, l))).0 t)))
    (λ t. (y.reads f (omega (arith, k, l))).1 (subst IsReadable (sym (same f k)) ((x.reads f k).0 t)))) in
    let e : count y.is_read (m - n + n) ≡ count y.is_read m = ap (count y.is_read) (let e : m - n + n ≡ m = omega (arith, l) in e) in
    let r = count_more y.is_read n (m - n) in
    (omega (arith, x.read_is, y.read_is, alike, e, r.0), omega (arith, x.read_is, y.read_is, alike, e, r.1), x.all, y.all)

frames_once : (s : Settings) (bytes : List ℕ) (read bad more_read more_bad : ℕ) → CountsFrames s bytes read bad → CountsFrames s bytes more_read more_bad → (read ≡ more_read) × (bad ≡ more_bad)
frames_once s bytes read bad more_read more_bad x y =
    let r = counted (frame_bits (tps_cells s bytes)) (frame_bits (tps_cells s bytes)) (symbols s bytes / 68) (symbols s bytes / 68) read bad more_read more_bad (omega arith) (λ f l. refl) x y in
    (omega (arith, r.0, r.1), omega (arith, r.0, r.1, r.2, r.3))

-- the bits of a frame depend only on its cells
pub same_bits : BitsOfCells
unfolding frame_bits bits_from
same_bits cells longer f h =
    sym (flat_map_single (frame_bit longer f) (numbers 67))
    ∙ same_parts (λ i. frame_bit longer f i ∷ []) (λ i. frame_bit cells f i ∷ []) 67 (λ i l. ap₂ (λ x y. vote x y ∷ []) (h (68 * f + i) (omega (arith, l))) (h (68 * f + i + 1) (omega (arith, l))))
    ∙ flat_map_single (frame_bit cells f) (numbers 67)

more_symbols : (s : Settings) (bytes more : List ℕ) → symbols s bytes ≤ symbols s (bytes ++ more)
more_symbols s bytes more = subst (λ n. symbols s bytes ≤ n / (5 * carriers s.mode)) (sym (length-append bytes more)) (more_count s.mode (length bytes) (length more))

frames_grow : (s : Settings) (bytes more : List ℕ) (read bad more_read more_bad : ℕ) → CountsFrames s bytes read bad → CountsFrames s (bytes ++ more) more_read more_bad → (read ≤ more_read) × (bad ≤ more_bad)
frames_grow s bytes more read bad more_read more_bad x y =
    let n = symbols s bytes in
    let l = more_symbols s bytes more in
    let r = counted (frame_bits (tps_cells s bytes)) (frame_bits (tps_cells s (bytes ++ more))) (n / 68) (symbols s (bytes ++ more) / 68) read bad more_read more_bad (omega (arith, l))
    (λ f k. same_bits (tps_cells s bytes) (tps_cells s (bytes ++ more)) f (λ m j. tps_cells_stay s bytes more m (omega (arith, j, k)))) x y in
    (r.0, omega (arith, r.0, r.1, r.2, r.3, l))

-- ---- one reception

pub one_live : GivenOnce → ReportsOnce → OnePackets → OneTally → OneLive
one_live given reports packets tally s bytes r q x y =
    let same : (σ : Stream) → bytes_of (x.bits σ) ≡ bytes_of (y.bits σ) = λ σ. ap bytes_of (given memory (start_of s.start) (costs s bytes σ) (x.bits σ) (y.bits σ) (x.decoded σ) (y.decoded σ)) in
    let frames = frames_once s bytes r.read r.bad q.read q.bad x.frames y.frames in
    record {
      packets = λ σ. packets (bytes_of (y.bits σ)) (r.packets σ) (q.packets σ) (subst (λ z. Packets z (r.packets σ)) (same σ) (x.packets σ)) (y.packets σ);
      reports = λ σ. reports memory (start_of s.start) (costs s bytes σ) (r.reports σ) (q.reports σ) (x.reports σ) (y.reports σ);
      tally = λ σ. tally (bytes_of (y.bits σ)) (r.tally σ) (q.tally σ) (subst (λ z. Tallies z (r.tally σ)) (same σ) (x.tally σ)) (y.tally σ);
      read = frames.0;
      bad = frames.1;
    }

pub one_final : EndedOnce → ReportsOnce → OnePackets → OneTally → OneFinal
one_final ended reports packets tally s bytes r q x y =
    let same : (σ : Stream) → bytes_of (x.bits σ) ≡ bytes_of (y.bits σ) = λ σ. ap bytes_of (ended memory (start_of s.start) (costs s bytes σ) (x.bits σ) (y.bits σ) (x.decoded σ) (y.decoded σ)) in
    let frames = frames_once s bytes r.read r.bad q.read q.bad x.frames y.frames in
    record {
      packets = λ σ. packets (bytes_of (y.bits σ)) (r.packets σ) (q.packets σ) (subst (λ z. Packets z (r.packets σ)) (same σ) (x.packets σ)) (y.packets σ);
      reports = λ σ. reports memory (start_of s.start) (costs s bytes σ) (r.reports σ) (q.reports σ) (x.reports σ) (y.reports σ);
      tally = λ σ. tally (bytes_of (y.bits σ)) (r.tally σ) (q.tally σ) (subst (λ z. Tallies z (r.tally σ)) (same σ) (x.tally σ)) (y.tally σ);
      read = frames.0;
      bad = frames.1;
    }

-- ---- more bytes

-- more bits give more packets
packets_grow : MoreBits → MorePackets → (bits longer : List Bool) (out more : List ℕ) → IsPrefix bits longer → Packets (bytes_of bits) out → Packets (bytes_of longer) more → (rest : List ℕ) × (more ≡ out ++ rest)
packets_grow bits packets b longer out more h x y =
    let r = bits b h.rest in
    let e : bytes_of longer ≡ bytes_of b ++ r.0 = ap bytes_of h.is ∙ r.1 in
    let front : take (length out) more ≡ out = packets (bytes_of b) r.0 out more x (subst (λ z. Packets z more) e y) in
    (drop (length out) more, sym (take-append-drop (length out) more) ∙ ap (λ z. z ++ drop (length out) more) front)

pub live_grows : GivenGrows → ReportsGrow → MoreBits → MorePackets → LiveGrows
live_grows given reports bits packets s bytes more r q x y =
    let frames = frames_grow s bytes more r.read r.bad q.read q.bad x.frames y.frames in
    record {
      packets = λ σ. let g = costs_grow s bytes more σ in
          packets_grow bits packets (x.bits σ) (y.bits σ) (r.packets σ) (q.packets σ)
          (given memory (start_of s.start) (costs s bytes σ) g.0 (x.bits σ) (y.bits σ) (x.decoded σ) (subst (λ z. Given memory (start_of s.start) z (y.bits σ)) g.1 (y.decoded σ))) (x.packets σ) (y.packets σ);
      reports = λ σ. let g = costs_grow s bytes more σ in
          reports memory (start_of s.start) (costs s bytes σ) g.0 (r.reports σ) (q.reports σ) (x.reports σ) (subst (λ z. Reports memory (start_of s.start) z (q.reports σ)) g.1 (y.reports σ));
      read = frames.0;
      bad = frames.1;
    }

pub final_ends_live : GivenBeginsEnded → ReportsOnce → MoreBits → MorePackets → FinalEndsLive
final_ends_live begins reports bits packets s bytes r q x y =
    let frames = frames_once s bytes q.read q.bad r.read r.bad y.frames x.frames in
    record {
      packets = λ σ. packets_grow bits packets (x.bits σ) (y.bits σ) (r.packets σ) (q.packets σ) (begins memory (start_of s.start) (costs s bytes σ) (x.bits σ) (y.bits σ) (x.decoded σ) (y.decoded σ)) (x.packets σ) (y.packets σ);
      reports = λ σ. reports memory (start_of s.start) (costs s bytes σ) (q.reports σ) (r.reports σ) (y.reports σ) (x.reports σ);
      read = frames.0;
      bad = frames.1;
    }
