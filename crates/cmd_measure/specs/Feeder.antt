-- A function that feeds a measurer like `Measurer::feed_gated`, with any gate.
use Rattle.std.specs.Prelude.{◌≡◌, ℕ, ◌-◌, ◌^◌, ◌<◌, ◌++◌, min, false, List, length, take}
use Rattle.std.specs.List.{concat}
use denote.Ref.{Bor, MutBor}
use denote.Param.Members.{Shared}
use Rattle.reception.specs.Cells.{symbol_length}
use Rattle.reception.specs.Streams.{so_far}
use Rattle.measurer.specs.Seen.{MeasurerState}
use Rattle.measurer.specs.Standing.{StandsFor}

-- a measurer of symbols of this size was fed a piece, of which n bytes were taken
pub record IsFed (size : ℕ) (old : MeasurerState) (piece : List ℕ) (new : MeasurerState) (lines : List (List ℕ)) (n : ℕ)
    : Type 0 where
  pub settings : new.settings ≡ old.settings
  pub count : n ≡ min (length piece) (size - length old.rest)
  pub fed : (bytes given : List ℕ) → StandsFor so_far old bytes given
      → StandsFor so_far new (bytes ++ take n piece) (given ++ concat lines)

-- f may feed every measurer that has not ended and has had fewer than 2^32 symbols, and does so
module _ {F T : Type 0} (size : ℕ) (state : T → MeasurerState)
    (g : Shared F (MutBor T × (Bor (List ℕ) × (MutBor (List (List ℕ)) × Unit {0})))
    (ℕ × (MutBor T × (MutBor (List (List ℕ)) × Unit {0})))) (f : F) where
  pub record IsFeeder : Type 0 where
    pub may : (x : MutBor T) (piece : Bor (List ℕ)) (out : MutBor (List (List ℕ))) → (state x.now).ended ≡ false
        → (state x.now).taken < 2 ^ 32 → g.pre f (x, (piece, (out, tt)))
    pub feeds : (x y : MutBor T) (piece : Bor (List ℕ)) (out made : MutBor (List (List ℕ))) (n : ℕ)
        → g.post f (x, (piece, (out, tt))) (n, (y, (made, tt)))
        → IsFed size (state x.now) piece.now (state y.now) made.now n

  -- the measurer x, fed by f, has had these bytes and has given these lines
  abbrev pub FedStands : T → List ℕ → List ℕ → Type 0
  FedStands x bytes given = StandsFor so_far (state x) bytes given × IsFeeder
      × (symbol_length (state x).settings ≡ size)
