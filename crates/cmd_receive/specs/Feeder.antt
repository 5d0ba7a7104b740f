-- A function that feeds a receiver like `Receiver::feed_gated`, with any gate.
use Rattle.std.specs.Prelude.{◌≡◌, ℕ, ◌^◌, ◌<◌, false, List}
use denote.Ref.{Bor, MutBor}
use denote.Param.Members.{Shared}
use Rattle.reception.specs.Streams.{so_far, Reception}
use Rattle.reception.specs.Feeds.{Feeds, Output}
use Rattle.receiver.specs.Seen.{ReceiverState}
use Rattle.receiver.specs.Standing.{StandsFor}

-- a receiver was fed a piece, of which n bytes were taken
pub record IsFed (old : ReceiverState) (piece : List ℕ) (new : ReceiverState) (out : Output) (n : ℕ) : Type 0 where
  pub settings : new.settings ≡ old.settings
  pub fed : (bytes : List ℕ) (r : Reception) → StandsFor so_far old bytes r
      → Feeds (StandsFor so_far new) old.settings bytes piece r n out

-- f may feed every receiver that has not ended and has had fewer than 2^32 symbols, and does so
module _ {F T : Type 0} (state : T → ReceiverState) (g : Shared F
    (MutBor T × (Bor (List ℕ) × (MutBor Output × Unit {0}))) (ℕ × (MutBor T × (MutBor Output × Unit {0}))))
    (f : F) where
  pub record IsFeeder : Type 0 where
    pub may : (x : MutBor T) (piece : Bor (List ℕ)) (out : MutBor Output) → (state x.now).ended ≡ false
        → (state x.now).taken < 2 ^ 32 → g.pre f (x, (piece, (out, tt)))
    pub feeds : (x y : MutBor T) (piece : Bor (List ℕ)) (out made : MutBor Output) (n : ℕ)
        → g.post f (x, (piece, (out, tt))) (n, (y, (made, tt))) → IsFed (state x.now) piece.now (state y.now) made.now n

  -- the receiver x, fed by f, has had these bytes and has given this reception
  abbrev pub FedStands : T → List ℕ → Reception → Type 0
  FedStands x bytes r = StandsFor so_far (state x) bytes r × IsFeeder
