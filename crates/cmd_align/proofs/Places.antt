-- The state of the work, with a place found or not; and the place of a prefix.
use Rattle.std.proofs.Common.{◌≡◌, ℕ, ◌+◌, List, [], ◌++◌, Option, Some, None, inl, ◌∙◌, sym, ap, subst, arith}
use Rattle.mode_set.specs.declared.settings.Settings.{Settings}
use Rattle.reception.specs.Cells.{symbols, tail}
use Rattle.reception.specs.Laws.{IsWithin, SameSymbols, TpsCellsStay}
use Rattle.cmd_cells.specs.Work.{Written}
use Rattle.cmd_convert.specs.Working.{written_at}
use Rattle.tune_in.specs.OfBytes.{FoundStaysInBytes, HasNoPlace, rest}
use Rattle.tune_in.specs.Places.{begin}
use Rattle.tune_in.specs.declared.frame.Found.{Found}
use Rattle.tune_search.specs.Searching.{IsAtPlace}
use Rattle.tune_search.proofs.Bytes.{no_rest_whole}
use Rattle.tune_search.proofs.Held.{none_more, symbols_none, tail_none}
use Rattle.reception.specs.WholeSymbols.{whole_symbols}
use Rattle.cmd_align.specs.Aligned.{aligned_cells, lines_at}
use Rattle.frame_build.specs.CellFile.{header}
use Rattle.cmd_align.specs.Working.{AligningStands, FirstGive, GivesAt, IsCopying, PlaceIs}
use Rattle.cmd_align.specs.declared.copying.Copying.{Copying}
use Rattle.cmd_align.proofs.Cells.{part_symbol, whole_none}

-- ---- with a place found or not

module _ (searching : Settings → List ℕ → Type 0) (s : Settings) (bytes : List ℕ) (given : Written) where
  pub searching_stands : (copying : Option Copying) → copying ≡ None → searching s bytes → HasNoPlace s bytes → GivesAt s bytes None given → AligningStands searching s copying bytes given
  searching_stands None e a b c = (a, b, c)
  searching_stands (Some c) e a b d = cc

  pub stands_searching : (copying : Option Copying) → copying ≡ None → AligningStands searching s copying bytes given → searching s bytes × HasNoPlace s bytes × GivesAt s bytes None given
  stands_searching None e stands = stands
  stands_searching (Some c) e stands = cc

  pub copying_stands : (copying : Option Copying) (c : Copying) → copying ≡ Some c → AligningStands searching s (Some c) bytes given → AligningStands searching s copying bytes given
  copying_stands copying c e stands = subst (λ (o : Option Copying). AligningStands searching s o bytes given) (sym e) stands

  pub stands_copying : (copying : Option Copying) (c : Copying) → copying ≡ Some c → AligningStands searching s copying bytes given → AligningStands searching s (Some c) bytes given
  stands_copying copying c e stands = subst (λ (o : Option Copying). AligningStands searching s o bytes given) e stands

-- ---- the output from the cells only

-- the same cells are the same file
pub same_gives : (s : Settings) (bytes longer : List ℕ) (place : Option Found) (given : Written) → aligned_cells s longer place ≡ aligned_cells s bytes place → GivesAt s bytes place given → GivesAt s longer place given
same_gives s bytes longer place given same gives port = gives port ∙ ap (λ (l : List ℕ). written_at (header s.mode ++ l) (lines_at place) port) (sym same)

-- ---- at a place

-- none of the bytes are after the start of the next super-frame
pub none_behind : (s : Settings) (bytes : List ℕ) (found : Found) → IsAtPlace s bytes found → rest s bytes found ≡ []
none_behind s bytes found at = no_rest_whole s found bytes at.whole (let v = at.valid in omega (arith, at.last, v.last, v.first))

pub none_aligned : (s : Settings) (bytes : List ℕ) (found : Found) → IsAtPlace s bytes found → aligned_cells s bytes (Some found) ≡ []
none_aligned s bytes found at = ap (whole_symbols s) (none_behind s bytes found at) ∙ whole_none s

pub begins_copying : (s : Settings) (bytes : List ℕ) (found : Found) (c : Copying) → IsAtPlace s bytes found → c.skip + (found.place + 68) ≡ begin found → c.symbols ≡ 0 → c.tail ≡ 0 → IsCopying s found bytes c
begins_copying s bytes found c at skip none no_tail =
    let empty = none_behind s bytes found at in
    record {
      counts = inl (omega (arith, skip, at.last));
      copied = none ∙ sym (ap (symbols s) empty ∙ symbols_none s);
      after = no_tail ∙ sym (ap (tail s) empty ∙ tail_none s);
    }

-- ---- bytes that do not complete a symbol

pub part_gives : SameSymbols → TpsCellsStay → FoundStaysInBytes → (s : Settings) (bytes more : List ℕ) (given : Written) → IsWithin s bytes more → FirstGive s bytes given → FirstGive s (bytes ++ more) given
part_gives same tps stays s bytes more given within gives = go gives.0 gives.1 gives.2
  where
    go : (place : Option Found) → PlaceIs s bytes place → GivesAt s bytes place given → FirstGive s (bytes ++ more) given
    go None is at = (None, none_more same tps s bytes more within is, at)
    go (Some found) is at = (Some found, stays s bytes more found is, same_gives s bytes (bytes ++ more) (Some found) given (part_symbol s found same bytes more within) at)
