-- The state of an inner coder of bytes.
use Rattle.std.specs.Prelude.{◌≡◌, ℕ, ◌*◌, Bool, List, ◌∷◌, length}
use Rattle.mode_set.specs.declared.modes.Rate.{Rate}
use Rattle.forney.specs.Values.{stream_of}
use Rattle.puncture.specs.SentBits.{path_of}
use Rattle.puncture.specs.Steps.{Coder, IsAtPath}
use Rattle.cmd_packets.specs.InnerBytes.{inner_bits}

-- the bits after the whole bytes of these bits
unfoldable pub rest_of : List Bool → List Bool
rest_of (a ∷ b ∷ c ∷ d ∷ e ∷ f ∷ g ∷ h ∷ rest) = rest_of rest
rest_of bits = bits

-- a coder: the encoder with its puncturer, and the pending bits
pub record InnerState : Type 0 where
  pub coder : Coder
  pub waiting : List Bool

-- a coder of this rate after these bytes
pub record IsAfter (state : InnerState) (r : Rate) (bytes : List ℕ) : Type 0 where
  pub at : IsAtPath state.coder r (path_of (stream_of bytes)) (8 * length bytes)
  pub waiting : state.waiting ≡ rest_of (inner_bits r bytes)
