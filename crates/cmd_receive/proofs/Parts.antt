-- Whole symbols, and bytes that do not complete one.
use Rattle.std.proofs.Common.{◌≡◌, ℕ, ◌+◌, ◌*◌, ◌/◌, ◌<◌, Bool, List, ◌++◌, length, ◌∙◌, sym, ap, subst, arith}
use Rattle.std.specs.Prelude.{IsTrue, ◌↔◌}
use Rattle.cmd_cells.proofs.Counting as counting
use Rattle.code_paths.specs.declared.costs.CostPair.{CostPair}
use Rattle.code_paths.specs.Streams.{Given, Reports}
use Rattle.mode_set.specs.StreamTable.{carriers}
use Rattle.mode_set.specs.declared.modes.Mode.{Mode}
use Rattle.mode_set.specs.declared.modes.Mode.TheVariants.{M2k, M8k}
use Rattle.mode_set.specs.declared.settings.Settings.{Settings}
use Rattle.outer_chain.specs.Words.{count}
use Rattle.reception.specs.Cells.{symbol_length, symbols, tail}
use Rattle.reception.specs.Frames.{tps_cells, frame_bits, IsReadable, CountsFrames}
use Rattle.reception.specs.Streams.{memory, start_of, Reception, Live}
use Rattle.reception.specs.Laws.{IsWithin, SameSymbols, SameCosts, TpsCellsStay, BitsOfCells}

pub some_bytes : (s : Settings) → 0 < symbol_length s
some_bytes s = go s.mode
  where
    go : (m : Mode) → 0 < 5 * carriers m
    go M2k = omega arith
    go M8k = omega arith

-- n symbols are n symbols, with no byte after them
pub symbols_are : (s : Settings) (bytes : List ℕ) (n : ℕ) → length bytes ≡ n * symbol_length s → symbols s bytes ≡ n
symbols_are s = counting.symbols_are (symbol_length s) (some_bytes s)

pub no_tail : (s : Settings) (bytes : List ℕ) (n : ℕ) → length bytes ≡ n * symbol_length s → tail s bytes ≡ 0
no_tail s = counting.no_tail (symbol_length s) (some_bytes s)

before_frame_end : (n f m : ℕ) → f < n / 68 → m < 68 * f + 68 → m < n
before_frame_end n f m l k = omega (arith, l, k)

-- bytes that do not complete a symbol add no output
pub part_live : SameSymbols → SameCosts → TpsCellsStay → BitsOfCells → (s : Settings) (bytes more : List ℕ) (r : Reception) → IsWithin s bytes more → Live s bytes r → Live s (bytes ++ more) r
part_live same costs_are tps bits s bytes more r within live = record {
  bits = live.bits;
  decoded = λ σ. subst (λ (c : List CostPair). Given memory (start_of s.start) c (live.bits σ)) (sym (costs_are s bytes more σ within)) (live.decoded σ);
  packets = live.packets;
  tally = live.tally;
  reports = λ σ. subst (λ (c : List CostPair). Reports memory (start_of s.start) c (r.reports σ)) (sym (costs_are s bytes more σ within)) (live.reports σ);
  frames = frames;
}
  where
    n : ℕ
    n = symbols s bytes

    n' : ℕ
    n' = symbols s (bytes ++ more)

    is : n' ≡ n
    is = same s bytes more within

    word : (f : ℕ) → f < n' / 68 → frame_bits (tps_cells s (bytes ++ more)) f ≡ frame_bits (tps_cells s bytes) f
    word f l = bits (tps_cells s bytes) (tps_cells s (bytes ++ more)) f
        (λ m k. tps s bytes more m (before_frame_end n f m (subst (λ (q : ℕ). f < q / 68) is l) k))

    frames : CountsFrames s (bytes ++ more) r.read r.bad
    frames = record {
      is_read = live.frames.is_read;
      reads = λ f l. subst (λ (w : List Bool). IsTrue (live.frames.is_read f) ↔ IsReadable w) (sym (word f l)) (live.frames.reads f (subst (λ (q : ℕ). f < q / 68) is l));
      read_is = live.frames.read_is ∙ ap (λ (q : ℕ). count live.frames.is_read (q / 68)) (sym is);
      all = live.frames.all ∙ ap (λ (q : ℕ). q / 68) (sym is);
    }
