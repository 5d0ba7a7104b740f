-- Whole symbols have the reception of the bytes that begin with them.
use Rattle.std.proofs.Common.{◌≡◌, ℕ, ◌+◌, ◌*◌, ◌/◌, ◌%◌, ◌<◌, Bool, List, ◌++◌, length, drop, ◌∙◌, sym, ap, subst, arith, length-take-le, take-append-drop}
use Rattle.std.specs.Prelude.{IsTrue, ◌↔◌, flat_map}
use Rattle.std.proofs.Math.Nat.{div-mul-le_self}
use Rattle.code_paths.specs.declared.costs.CostPair.{CostPair}
use Rattle.code_paths.specs.Streams.{Ended, Reports}
use Rattle.mode_set.specs.StreamTable.{carriers}
use Rattle.mode_set.specs.declared.modes.Mode.{Mode}
use Rattle.mode_set.specs.declared.modes.Mode.TheVariants.{M2k, M8k}
use Rattle.mode_set.specs.declared.modes.Stream.{Stream}
use Rattle.mode_set.specs.declared.settings.Settings.{Settings}
use Rattle.outer_chain.specs.Words.{count}
use Rattle.rx_report.specs.Text.{event_line}
use Rattle.reception.specs.Cells.{symbol_length, symbols, tail}
use Rattle.reception.specs.Costs.{costs}
use Rattle.reception.specs.Frames.{tps_cells, frame_bits, IsReadable, CountsFrames}
use Rattle.reception.specs.Lines.{counts_of, events}
use Rattle.reception.specs.Streams.{memory, start_of, Reception, Final}
use Rattle.reception.specs.Laws.{IsWithin, SameSymbols, SameCosts, TailIsUnfinished, TpsCellsStay, BitsOfCells}
use Rattle.reception.specs.WholeSymbols.{AreReceivedAlike, WholeSymbolsAlike, whole_symbols}

-- ---- by the mode: n bytes divided into symbols

many : (m : Mode) (n : ℕ) → (n * (5 * carriers m)) / (5 * carriers m) ≡ n
many M2k n = omega arith
many M8k n = omega arith

none_left : (m : Mode) (n : ℕ) → (n * (5 * carriers m)) % (5 * carriers m) ≡ 0
none_left M2k n = omega arith
none_left M8k n = omega arith

part_of : (m : Mode) (n : ℕ) → n % (5 * carriers m) < 5 * carriers m
part_of M2k n = omega arith
part_of M8k n = omega arith

before_frame_end : (n f m : ℕ) → f < n / 68 → m < 68 * f + 68 → m < n
before_frame_end n f m l k = omega (arith, l, k)

-- ---- a reception from cells with the same costs, symbols and words

same_frames : (s : Settings) (a b : List ℕ) (read bad : ℕ) → symbols s a ≡ symbols s b → ((f : ℕ) → f < symbols s b / 68 → frame_bits (tps_cells s b) f ≡ frame_bits (tps_cells s a) f) → CountsFrames s a read bad → CountsFrames s b read bad
same_frames s a b read bad is word frames = record {
  is_read = frames.is_read;
  reads = λ f l. subst (λ (w : List Bool). IsTrue (frames.is_read f) ↔ IsReadable w) (sym (word f l)) (frames.reads f (subst (λ (q : ℕ). f < q / 68) (sym is) l));
  read_is = frames.read_is ∙ ap (λ (q : ℕ). count frames.is_read (q / 68)) is;
  all = frames.all ∙ ap (λ (q : ℕ). q / 68) is;
}

same_final : (s : Settings) (a b : List ℕ) (r : Reception) → symbols s a ≡ symbols s b → ((σ : Stream) → costs s a σ ≡ costs s b σ) → ((f : ℕ) → f < symbols s b / 68 → frame_bits (tps_cells s b) f ≡ frame_bits (tps_cells s a) f)
    → Final s a r → Final s b r
same_final s a b r is cost word final = record {
  bits = final.bits;
  decoded = λ σ. subst (λ (c : List CostPair). Ended memory (start_of s.start) c (final.bits σ)) (cost σ) (final.decoded σ);
  packets = final.packets;
  tally = final.tally;
  reports = λ σ. subst (λ (c : List CostPair). Reports memory (start_of s.start) c (r.reports σ)) (cost σ) (final.reports σ);
  frames = same_frames s a b r.read r.bad is word final.frames;
}

module _ (same : SameSymbols) (same_costs : SameCosts) (unfinished : TailIsUnfinished) (tps : TpsCellsStay) (bits : BitsOfCells) (s : Settings) (bytes : List ℕ) where
  abbrev n : ℕ
  n = symbols s bytes

  abbrev whole : List ℕ
  whole = whole_symbols s bytes

  abbrev after : List ℕ
  after = drop (n * symbol_length s) bytes

  joined : whole ++ after ≡ bytes
  joined = take-append-drop (n * symbol_length s) bytes

  long : length whole ≡ n * symbol_length s
  long = length-take-le (n * symbol_length s) bytes (div-mul-le_self (length bytes) (symbol_length s))

  count_is : symbols s whole ≡ n
  count_is = ap (λ (k : ℕ). k / symbol_length s) long ∙ many s.mode n

  no_tail : tail s whole ≡ 0
  no_tail = ap (λ (k : ℕ). k % symbol_length s) long ∙ none_left s.mode n

  within : IsWithin s whole after
  within = omega (arith, no_tail, unfinished s bytes, part_of s.mode (length bytes))

  cost : (σ : Stream) → costs s bytes σ ≡ costs s whole σ
  cost σ = ap (λ (l : List ℕ). costs s l σ) (sym joined) ∙ same_costs s whole after σ within

  word : (f : ℕ) → f < n / 68 → frame_bits (tps_cells s bytes) f ≡ frame_bits (tps_cells s whole) f
  word f l = bits (tps_cells s whole) (tps_cells s bytes) f
      (λ m k. ap (λ (l : List ℕ). tps_cells s l m) (sym joined) ∙ tps s whole after m (subst (λ (q : ℕ). m < q) (sym count_is) (before_frame_end n f m l k)))

  pub alike : AreReceivedAlike s bytes whole
  alike = record {
    final = λ r. (
      same_final s bytes whole r (sym count_is) cost (λ f l. sym (word f (subst (λ (q : ℕ). f < q / 68) count_is l))),
      same_final s whole bytes r count_is (λ σ. sym (cost σ)) word,
    );
    events = λ r. ap (λ (k : ℕ). flat_map event_line (events s k r.reports)) count_is;
    counts = λ r. ap (λ (k : ℕ). record (counts_of s bytes r) { symbols = k; tail = tail s whole }) count_is ∙ ap (λ (k : ℕ). record (counts_of s bytes r) { tail = k }) no_tail;
  }

pub whole_symbols_alike : SameSymbols → SameCosts → TailIsUnfinished → TpsCellsStay → BitsOfCells → WholeSymbolsAlike
whole_symbols_alike same same_costs unfinished tps bits s bytes = alike same same_costs unfinished tps bits s bytes
