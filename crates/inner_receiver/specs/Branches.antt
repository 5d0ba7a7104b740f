-- The state of a stream's decoder, from symbol to symbol.
use Rattle.std.specs.Prelude.{◌≡◌, ℕ, ◌+◌, Bool, true, false, List, [], ◌++◌, Option, length}
use Rattle.code_paths.specs.declared.costs.CostPair.{CostPair}
use Rattle.code_paths.specs.Streams.{Reports}
use Rattle.inner_decoder.specs.Events.{ats}
use Rattle.inner_decoder.specs.Seen.{DecoderState}
use Rattle.inner_decoder.specs.Running.{BranchState}
use Rattle.inner_decoder.specs.Tracking.{Stands, StandsEnded}
use Rattle.reception.specs.Streams.{memory, Moment, so_far, at_end, IsDecoded}

-- A running decoder matches the costs and the bits given. An ended one matches the costs and the bits at the end: no
-- bit is pending, and the one alive state is the last six bits of the path.
abbrev pub DecoderStands : Moment → DecoderState → Option (List Bool) → List CostPair → List Bool → Type 0
DecoderStands so_far d a c bits = (d.ended ≡ false) × Stands memory d a c bits
DecoderStands at_end d a c bits = (d.ended ≡ true) × StandsEnded memory d a c bits

-- The decoder of a stream matches a start, the costs received, the bits given, which are those of the definitions, and
-- its reports. Each step's bit was given or is pending in the decoder.
pub record HasGiven (moment : Moment) (d : DecoderState) (a : Option (List Bool)) (c : List CostPair) (bits : List Bool)
    (steps : List ℕ) : Type 0 where
  pub decoder : DecoderStands moment d a c bits
  pub decoded : IsDecoded moment a c bits
  pub reports : Reports memory a c steps
  pub amount : length bits + d.waiting ≡ length c

-- it gave more bits, which follow the pending ones
pub record GaveMore (moment : Moment) (old new : BranchState) (a : Option (List Bool)) (c : List CostPair)
    (bits : List Bool) (steps : List ℕ) : Type 0 where
  pub more : List Bool
  pub appended : new.wait ≡ old.wait ++ more
  pub given : HasGiven moment new.decoder a c (bits ++ more) steps

-- it made a step for each of these pairs, and gave all shared bits
pub record HasTaken (pairs : List CostPair) (old new : BranchState) : Type 0 where
  pub going : new.decoder.ended ≡ false
  pub loaded : new.loaded ≡ []
  pub most : new.most ≡ old.most
  pub steps : new.decoder.steps ≡ old.decoder.steps + length pairs
  pub gave : (a : Option (List Bool)) (c : List CostPair) (bits : List Bool) (steps : List ℕ)
      → HasGiven so_far old.decoder a c bits steps → GaveMore so_far old new a (c ++ pairs) bits (steps ++ ats
      new.events)

-- it gave the remaining bits of its least path, and has ended
pub record HasEnded (old new : BranchState) : Type 0 where
  pub ended : new.decoder.ended ≡ true
  pub loaded : new.loaded ≡ []
  pub steps : new.decoder.steps ≡ old.decoder.steps
  pub most : new.most ≡ old.most
  pub gave : (a : Option (List Bool)) (c : List CostPair) (bits : List Bool) (steps : List ℕ)
      → HasGiven so_far old.decoder a c bits steps → GaveMore at_end old new a c bits steps
