-- The least place in the symbols of a file, by exhaustive search (EN 300 744, 4.6.2).
use Rattle.std.specs.Prelude.{◌≡◌, ℕ, suc, ◌-◌, ◌==◌, min, nat_le, Bool, true, false, not, ◌&&◌, ◌||◌, List, [], ◌∷◌}
use Rattle.std.specs.Prelude.{Option, Some, None, if◌then◌else◌}
use Rattle.std.specs.Option.{option_map, option_or}
use Rattle.spec_words.specs.Words.{numbers}
use Rattle.mode_set.specs.Kept.{is_flat, is_qpsk}
use Rattle.mode_set.specs.declared.modes.Mode.{Mode}
use Rattle.mode_set.specs.declared.modes.Shape.{Shape}
use Rattle.mode_set.specs.declared.modes.Shape.TheVariants.{Qpsk, Qam16, Qam64}
use Rattle.mode_set.specs.declared.modes.Hierarchy.{Hierarchy}
use Rattle.mode_set.specs.declared.modes.Hierarchy.TheVariants.{Flat, Alpha1, Alpha2, Alpha4}
use Rattle.mode_set.specs.declared.modes.Rate.{Rate}
use Rattle.mode_set.specs.declared.modes.Rate.TheVariants.{R1of2, R2of3, R3of4, R5of6, R7of8}
use Rattle.mode_set.specs.declared.modes.Guard.{Guard}
use Rattle.mode_set.specs.declared.modes.Guard.TheVariants.{G1of32, G1of16, G1of8, G1of4}
use Rattle.mode_set.specs.declared.settings.Settings.{Settings}
use Rattle.tps_bch.specs.Bch.{bit_distance}
use Rattle.tps_word.specs.Tps.{tps_word}
use Rattle.tps_word.specs.Vote.{bits_from}
use Rattle.tps_word.specs.declared.word.TpsWord.{TpsWord}
use Rattle.reception.specs.Cells.{symbols}
use Rattle.reception.specs.Frames.{tps_cells}
use Rattle.tune_in.specs.Places.{IsFound, NoPlace}
use Rattle.tune_in.specs.declared.frame.Found.{Found}

-- the first answer for an item of a list
abbrev pub first_answer : {A B : Type 0} → List A → (A → Option B) → Option B
first_answer [] answer = None
first_answer (x ∷ xs) answer = option_or (answer x) (first_answer xs answer)

-- both values of a flag
abbrev pub bools : List Bool
bools = true ∷ false ∷ []

-- all constellations
abbrev pub shapes : List Shape
shapes = Qpsk ∷ Qam16 ∷ Qam64 ∷ []

-- all hierarchies
abbrev pub hierarchies : List Hierarchy
hierarchies = Flat ∷ Alpha1 ∷ Alpha2 ∷ Alpha4 ∷ []

-- all code rates
abbrev pub rates : List Rate
rates = R1of2 ∷ R2of3 ∷ R3of4 ∷ R5of6 ∷ R7of8 ∷ []

-- all guard intervals
abbrev pub guards : List Guard
guards = G1of32 ∷ G1of16 ∷ G1of8 ∷ G1of4 ∷ []

-- the code rate is 1/2
abbrev pub is_half : Rate → Bool
is_half R1of2 = true
is_half R2of3 = false
is_half R3of4 = false
is_half R5of6 = false
is_half R7of8 = false

-- fields of a frame from 1 to 4 and a byte below 256 that are valid
abbrev pub fit_together : TpsWord → Bool
fit_together t = (not (is_qpsk t.shape) || is_flat t.hierarchy)
    && ((not (is_flat t.hierarchy) || is_half t.rate_lp) && (t.with_cell || (t.cell_byte == 0)))

-- the bits are within two errors of the word of these valid fields
unfoldable pub is_signalled : List Bool → TpsWord → Bool
is_signalled bits t = fit_together t && nat_le (bit_distance bits (tps_word t)) 2

-- the fields of this mode that the bits signal, if any
unfoldable pub fields_of : Mode → List Bool → Option TpsWord
fields_of mode bits =
    first_answer (numbers 4) (λ f. first_answer bools (λ with_cell. first_answer shapes
    (λ shape. first_answer hierarchies (λ hierarchy.
    first_answer rates (λ rate_hp. first_answer rates (λ rate_lp. first_answer guards
    (λ guard. first_answer (numbers 256) (λ cell_byte.
    let t : TpsWord = record {
      frame = suc f;
      with_cell = with_cell;
      shape = shape;
      hierarchy = hierarchy;
      rate_hp
          = rate_hp;
      rate_lp = rate_lp;
      guard = guard;
      mode = mode;
      cell_byte = cell_byte;
    } in
    if is_signalled bits t then Some t else None))))))))

-- the symbols of the bytes within the limit of the settings
abbrev pub held : Settings → List ℕ → ℕ
held s bytes = min (symbols s bytes) s.max_symbols

-- the least place among them, if any; 67 symbols follow it
unfoldable pub place_of : Settings → List ℕ → Option Found
place_of s bytes = first_answer (numbers (held s bytes - 67))
    (λ i. option_map (λ w. record { place = i; word = w }) (fields_of s.mode (bits_from (tps_cells s bytes) i)))

-- the symbols within the limit hold this least place
abbrev pub HoldsPlace : Settings → List ℕ → Found → Type 0
HoldsPlace s bytes found = IsFound s.mode (tps_cells s bytes) (held s bytes) found

-- the symbols within the limit hold no place
abbrev pub HoldsNone : Settings → List ℕ → Type 0
HoldsNone s bytes = NoPlace s.mode (tps_cells s bytes) (held s bytes)

-- The search finds the least place within the limit, and nothing exactly if there is none.
pub record Searches (s : Settings) (bytes : List ℕ) : Type 0 where
  pub finds : (found : Found) → HoldsPlace s bytes found → place_of s bytes ≡ Some found
  pub found : (found : Found) → place_of s bytes ≡ Some found → HoldsPlace s bytes found
  pub none : place_of s bytes ≡ None → HoldsNone s bytes
