-- The bits known for a symbol are a prefix of those known for later ones, and of those at the end.
use Rattle.std.proofs.Common.{◌≡◌, ℕ, ◌+◌, ◌*◌, ◌<◌, ◌≤◌, Bool, List, [], ◌++◌, take, drop, ◌⊎◌, inl, inr, refl, sym, ap, ◌∙◌, subst, arith, append_assoc, append-nil}
use Rattle.std.proofs.lemmas.Bool.{cases_lt}
use Rattle.std.proofs.lemmas.List.{take-append-drop, take-take}
use Rattle.std.proofs.lemmas.Nat.{mul-le}
use Rattle.code_paths.specs.declared.costs.CostPair.{CostPair}
use Rattle.code_paths.specs.Streams.{IsPrefix, Given, Ended}
use Rattle.code_paths.specs.Laws.{GivenGrows, GivenOnce, EndedOnce, GivenBeginsEnded}
use Rattle.code_paths.specs.Uniqueness.{IsStart, SomeAreGiven, SomeAreEnded}
use Rattle.mode_set.specs.declared.modes.Start.{Start}
use Rattle.mode_set.specs.declared.modes.Start.TheVariants.{Zero, Any}
use Rattle.mode_set.specs.declared.modes.Stream.{Stream}
use Rattle.mode_set.specs.declared.settings.Settings.{Settings}
use Rattle.reception.specs.Cells.{symbol_length, symbols}
use Rattle.reception.specs.Costs.{costs}
use Rattle.reception.specs.Laws.{CostsGrow}
use Rattle.reception.specs.Streams.{memory, start_of}
use Rattle.measurement.specs.Known.{first_symbols, IsKnown}

pub is_start : (start : Start) → IsStart (start_of start)
is_start Zero = refl
is_start Any = tt

pub prefix_of : (a b c : List Bool) → IsPrefix a b → IsPrefix b c → IsPrefix a c
prefix_of a b c p q = record { rest = p.rest ++ q.rest; is = q.is ∙ ap (λ (z : List Bool). z ++ q.rest) p.is ∙ append_assoc a p.rest q.rest }

same_prefix : (a b : List Bool) → a ≡ b → IsPrefix a b
same_prefix a b e = record { rest = []; is = sym e ∙ sym (append-nil a) }

-- the known facts on decoding
pub record IsDecoding : Type 0 where
  pub some_given : SomeAreGiven
  pub some_ended : SomeAreEnded
  pub given_once : GivenOnce
  pub ended_once : EndedOnce
  pub grows : GivenGrows
  pub begins : GivenBeginsEnded
  pub costs : CostsGrow

-- known bits exist ..
pub some_known : IsDecoding → (s : Settings) (bytes : List ℕ) (σ : Stream) (m : ℕ) → (bits : List Bool) × IsKnown s bytes σ m bits
some_known laws s bytes σ m = go (cases_lt (symbols s bytes) (m + 4))
  where
    go : (symbols s bytes < m + 4) ⊎ (m + 4 ≤ symbols s bytes) → (bits : List Bool) × IsKnown s bytes σ m bits
    go (inl l) =
        let e = laws.some_ended memory (start_of s.start) (costs s bytes σ) (is_start s.start) in
        (e.0, record { so_far = λ h. absurd (omega (arith, h, l)); at_end = λ h. e.1 })
    go (inr l) =
        let g = laws.some_given memory (start_of s.start) (costs s (first_symbols s (m + 4) bytes) σ) (is_start s.start) in
        (g.0, record { so_far = λ h. g.1; at_end = λ h. absurd (omega (arith, h, l)) })

-- .. and are unique
pub known_once : IsDecoding → (s : Settings) (bytes : List ℕ) (σ : Stream) (m : ℕ) (a b : List Bool) → IsKnown s bytes σ m a → IsKnown s bytes σ m b → a ≡ b
known_once laws s bytes σ m a b x y = go (cases_lt (symbols s bytes) (m + 4))
  where
    go : (symbols s bytes < m + 4) ⊎ (m + 4 ≤ symbols s bytes) → a ≡ b
    go (inl l) = laws.ended_once memory (start_of s.start) (costs s bytes σ) a b (x.at_end l) (y.at_end l)
    go (inr l) = laws.given_once memory (start_of s.start) (costs s (first_symbols s (m + 4) bytes) σ) a b (x.so_far l) (y.so_far l)

-- the bits given for a prefix are a prefix of those for more bytes, and of those at the end
given_on : IsDecoding → (s : Settings) (bytes more : List ℕ) (σ : Stream) (a b : List Bool) → Given memory (start_of s.start) (costs s bytes σ) a → Given memory (start_of s.start) (costs s (bytes ++ more) σ) b → IsPrefix a b
given_on laws s bytes more σ a b x y =
    let g = laws.costs s bytes more σ in
    laws.grows memory (start_of s.start) (costs s bytes σ) g.0 a b x (subst (λ (z : List CostPair). Given memory (start_of s.start) z b) g.1 y)

given_ends : IsDecoding → (s : Settings) (bytes more : List ℕ) (σ : Stream) (a b : List Bool) → Given memory (start_of s.start) (costs s bytes σ) a → Ended memory (start_of s.start) (costs s (bytes ++ more) σ) b → IsPrefix a b
given_ends laws s bytes more σ a b x y =
    let g = laws.some_given memory (start_of s.start) (costs s (bytes ++ more) σ) (is_start s.start) in
    prefix_of a g.0 b (given_on laws s bytes more σ a g.0 x g.1) (laws.begins memory (start_of s.start) (costs s (bytes ++ more) σ) g.0 b g.1 y)

-- the known bits of a symbol are a prefix of those at the end
pub known_begins : IsDecoding → (s : Settings) (bytes : List ℕ) (σ : Stream) (m : ℕ) (a last : List Bool) → IsKnown s bytes σ m a → Ended memory (start_of s.start) (costs s bytes σ) last → IsPrefix a last
known_begins laws s bytes σ m a last x e = go (cases_lt (symbols s bytes) (m + 4))
  where
    n : ℕ
    n = (m + 4) * symbol_length s

    go : (symbols s bytes < m + 4) ⊎ (m + 4 ≤ symbols s bytes) → IsPrefix a last
    go (inl l) = same_prefix a last (laws.ended_once memory (start_of s.start) (costs s bytes σ) a last (x.at_end l) e)
    go (inr l) =
        given_ends laws s (take n bytes) (drop n bytes) σ a last (x.so_far l)
        (subst (λ (z : List ℕ). Ended memory (start_of s.start) (costs s z σ) last) (sym (take-append-drop n bytes)) e)

-- and those of a later symbol
pub known_grows : IsDecoding → (s : Settings) (bytes : List ℕ) (σ : Stream) (m k : ℕ) (a b : List Bool) → m ≤ k → IsKnown s bytes σ m a → IsKnown s bytes σ k b → IsPrefix a b
known_grows laws s bytes σ m k a b le x y = go (cases_lt (symbols s bytes) (k + 4))
  where
    n : ℕ
    n = (m + 4) * symbol_length s

    first : List ℕ
    first = first_symbols s (k + 4) bytes

    shorter : take n first ≡ first_symbols s (m + 4) bytes
    shorter = take-take n ((k + 4) * symbol_length s) bytes (mul-le (m + 4) (symbol_length s) (k + 4) (symbol_length s) (omega (arith, le)) (omega arith))

    go : (symbols s bytes < k + 4) ⊎ (k + 4 ≤ symbols s bytes) → IsPrefix a b
    go (inl l) = known_begins laws s bytes σ m a b x (y.at_end l)
    go (inr l) =
        given_on laws s (take n first) (drop n first) σ a b
        (subst (λ (z : List ℕ). Given memory (start_of s.start) (costs s z σ) a) (sym shorter) (x.so_far (omega (arith, l, le))))
        (subst (λ (z : List ℕ). Given memory (start_of s.start) (costs s z σ) b) (sym (take-append-drop n first)) (y.so_far l))
