-- The bits known for a symbol, and the bits that its decoders have given.
use Rattle.std.proofs.Common.{◌≡◌, ℕ, ◌+◌, ◌-◌, ◌*◌, ◌/◌, ◌%◌, ◌<◌, ◌≤◌, Bool, List, ◌++◌, take, drop, length, ◌⊎◌, inl, inr, refl, sym, ap, ◌∙◌, subst, arith, length-append}
use Rattle.std.proofs.lemmas.Bool.{cases_lt}
use Rattle.std.proofs.lemmas.List.{take-append-drop, take-append-le, length-take-le, length-drop}
use Rattle.code_paths.specs.declared.costs.CostPair.{CostPair}
use Rattle.code_paths.specs.Streams.{Given}
use Rattle.code_paths.specs.Laws.{GivenOnce, EndedOnce}
use Rattle.code_paths.specs.Uniqueness.{IsStart, SomeAreGiven, SomeAreEnded}
use Rattle.mode_set.specs.StreamTable.{carriers}
use Rattle.mode_set.specs.declared.modes.Mode.{Mode}
use Rattle.mode_set.specs.declared.modes.Mode.TheVariants.{M2k, M8k}
use Rattle.mode_set.specs.declared.modes.Start.{Start}
use Rattle.mode_set.specs.declared.modes.Start.TheVariants.{Zero, Any}
use Rattle.mode_set.specs.declared.modes.Stream.{Stream}
use Rattle.mode_set.specs.declared.settings.Settings.{Settings}
use Rattle.reception.specs.Cells.{symbol_length, symbols}
use Rattle.reception.specs.Costs.{costs}
use Rattle.reception.specs.Laws.{IsWithin, SameCosts}
use Rattle.reception.specs.Streams.{memory, start_of, Moment, so_far, at_end, IsDecoded}
use Rattle.measurement.specs.Known.{first_symbols, IsKnown}
use Rattle.measurer.specs.Steps.{IsDue}

within_length : (m : Mode) (n len : ℕ) → n ≤ len / (5 * carriers m) → n * (5 * carriers m) ≤ len
within_length M2k n len l = omega (arith, l)
within_length M8k n len l = omega (arith, l)

more_count : (m : Mode) (a b : ℕ) → a / (5 * carriers m) ≤ (a + b) / (5 * carriers m)
more_count M2k a b = omega arith
more_count M8k a b = omega arith

more_symbols : (s : Settings) (bytes more : List ℕ) → symbols s bytes ≤ symbols s (bytes ++ more)
more_symbols s bytes more = subst (λ (n : ℕ). symbols s bytes ≤ n / (5 * carriers s.mode)) (sym (length-append bytes more)) (more_count s.mode (length bytes) (length more))

first_stay : (s : Settings) (bytes more : List ℕ) (n : ℕ) → n ≤ symbols s bytes → first_symbols s n (bytes ++ more) ≡ first_symbols s n bytes
first_stay s bytes more n l = take-append-le (n * symbol_length s) bytes more (within_length s.mode n (length bytes) l)

rest_within : (m : Mode) (len k a b : ℕ) → k ≡ len / (5 * carriers m) → a ≡ k * (5 * carriers m) → b ≡ len - k * (5 * carriers m) → a % (5 * carriers m) + b < 5 * carriers m
rest_within M2k len k a b e f g = omega (arith, e, f, g)
rest_within M8k len k a b e f g = omega (arith, e, f, g)

-- the costs are those of the whole symbols
whole_costs : SameCosts → (s : Settings) (bytes : List ℕ) (σ : Stream) (k : ℕ) → k ≡ symbols s bytes → costs s (first_symbols s k bytes) σ ≡ costs s bytes σ
whole_costs same s bytes σ k e =
    let n = k * symbol_length s in
    let first = take n bytes in
    let rest = drop n bytes in
    let long : length first ≡ n = length-take-le n bytes (within_length s.mode k (length bytes) (omega (arith, e))) in
    let w : IsWithin s first rest = rest_within s.mode (length bytes) k (length first) (length rest) e long (length-drop n bytes) in
    sym (same s first rest σ w) ∙ ap (λ (z : List ℕ). costs s z σ) (take-append-drop n bytes)

-- symbol m is the fourth last of n, or at the end one of the last three or none of them
abbrev pub HasLast : Moment → ℕ → ℕ → Type 0
HasLast so_far n m = n ≡ m + 4
HasLast at_end n m = n < m + 4

-- what the decoder of a stream has given is what is known for such a symbol
pub last_known : SameCosts → (moment : Moment) (s : Settings) (bytes : List ℕ) (σ : Stream) (m : ℕ) (bits : List Bool) → IsDecoded moment (start_of s.start) (costs s bytes σ) bits → HasLast moment (symbols s bytes) m → IsKnown s bytes σ m bits
last_known same so_far s bytes σ m bits d e = record {
  so_far = λ h. subst (λ (z : List CostPair). Given memory (start_of s.start) z bits) (sym (whole_costs same s bytes σ (m + 4) (sym e))) d;
  at_end = λ h. absurd (omega (arith, h, e));
}
last_known same at_end s bytes σ m bits d e = record {
  so_far = λ h. absurd (omega (arith, h, e));
  at_end = λ h. d;
}

due_last : (moment : Moment) (n m : ℕ) → IsDue moment n m → HasLast moment n m
due_last so_far n m e = e
due_last at_end n m e = e.1

-- so it is of the symbol that is due
pub due_known : SameCosts → (moment : Moment) (s : Settings) (bytes : List ℕ) (σ : Stream) (m : ℕ) (bits : List Bool) → IsDecoded moment (start_of s.start) (costs s bytes σ) bits → IsDue moment (symbols s bytes) m → IsKnown s bytes σ m bits
due_known same moment s bytes σ m bits d e = last_known same moment s bytes σ m bits d (due_last moment (symbols s bytes) m e)

-- bits that are known for a symbol of more bytes
pub known_back : (s : Settings) (bytes more : List ℕ) (σ : Stream) (m : ℕ) (bits : List Bool) → m + 4 ≤ symbols s bytes → IsKnown s (bytes ++ more) σ m bits → IsKnown s bytes σ m bits
known_back s bytes more σ m bits l k = record {
  so_far = λ h. subst (λ (z : List ℕ). Given memory (start_of s.start) (costs s z σ) bits) (first_stay s bytes more (m + 4) l) (k.so_far (omega (arith, l, more_symbols s bytes more)));
  at_end = λ h. absurd (omega (arith, h, l));
}

-- known bits are one list
pub known_once : GivenOnce → EndedOnce → (s : Settings) (bytes : List ℕ) (σ : Stream) (m : ℕ) (a b : List Bool) → IsKnown s bytes σ m a → IsKnown s bytes σ m b → a ≡ b
known_once given ended s bytes σ m a b x y = go (cases_lt (symbols s bytes) (m + 4))
  where
    go : (symbols s bytes < m + 4) ⊎ (m + 4 ≤ symbols s bytes) → a ≡ b
    go (inl l) = ended memory (start_of s.start) (costs s bytes σ) a b (x.at_end l) (y.at_end l)
    go (inr l) = given memory (start_of s.start) (costs s (first_symbols s (m + 4) bytes) σ) a b (x.so_far l) (y.so_far l)

is_start : (start : Start) → IsStart (start_of start)
is_start Zero = refl
is_start Any = tt

-- there are some
pub some_known : SomeAreGiven → SomeAreEnded → (s : Settings) (bytes : List ℕ) (σ : Stream) (m : ℕ) → (bits : List Bool) × IsKnown s bytes σ m bits
some_known given ended s bytes σ m = go (cases_lt (symbols s bytes) (m + 4))
  where
    go : (symbols s bytes < m + 4) ⊎ (m + 4 ≤ symbols s bytes) → (bits : List Bool) × IsKnown s bytes σ m bits
    go (inl l) =
        let e = ended memory (start_of s.start) (costs s bytes σ) (is_start s.start) in
        (e.0, record { so_far = λ h. absurd (omega (arith, h, l)); at_end = λ h. e.1 })
    go (inr l) =
        let g = given memory (start_of s.start) (costs s (first_symbols s (m + 4) bytes) σ) (is_start s.start) in
        (g.0, record { so_far = λ h. g.1; at_end = λ h. absurd (omega (arith, h, l)) })
