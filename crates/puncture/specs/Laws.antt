-- The laws of puncturing.
use Rattle.std.specs.Prelude.{◌≡◌, ℕ, ◌+◌, ◌-◌, ◌*◌, ◌<◌, ◌≤◌, Bool, true, false, ◌||◌, if◌then◌else◌, List, ◌++◌, drop}
use Rattle.std.specs.Prelude.{length, get_or, Some, None, option_map}
use Rattle.code_paths.specs.Paths.{parity_x, parity_y}
use Rattle.mode_set.specs.StreamTable.{steps_in_period, sent_in_period}
use Rattle.mode_set.specs.declared.modes.Rate.{Rate}
use Rattle.spec_words.specs.Bits.{bit, spelled}
use Rattle.puncture.specs.SentBits.{Coded, X, Y, path_of, window, bits_from, sent_bit, sent_bits}
use Rattle.puncture.specs.Steps.{is_sent, number_of, sent_before, sent_as, kind_of, step_of, bits_of_step}

-- step t of a path sends the bits that follow those of the earlier steps
abbrev pub StepsSendInOrder : Type 0
StepsSendInOrder = (r : Rate) (path : ℕ → Bool) (t : ℕ)
    → bits_of_step r t (parity_x (window path t)) (parity_y (window path t))
    ≡ sent_bits r path (sent_before r t) (sent_before r (t + 1))

-- the numbers of the sent bits of step t, and how many there are
pub record IsNumbered (r : Rate) (t : ℕ) : Type 0 where
  pub x : number_of r X t ≡ (if is_sent r X t then Some (sent_before r t) else None)
  pub y : number_of r Y t ≡ (if is_sent r Y t then Some (sent_before r t + (if is_sent r X t then 1 else 0)) else None)
  pub grows : sent_before r (t + 1) ≡ sent_before r t + (if is_sent r X t then 1 else 0)
      + (if is_sent r Y t then 1 else 0)
  pub some : (is_sent r X t || is_sent r Y t) ≡ true

-- every step has its sent bits numbered so
abbrev pub StepsAreNumbered : Type 0
StepsAreNumbered = (r : Rate) (t : ℕ) → IsNumbered r t

-- whole periods before a step shift its numbers by the bits of those periods
pub record IsShifted (r : Rate) (q t : ℕ) : Type 0 where
  pub before : sent_before r (q * steps_in_period r + t) ≡ q * sent_in_period r + sent_before r t
  pub numbers : (xy : ℕ → Coded) → number_of r xy (q * steps_in_period r + t)
      ≡ option_map (λ n. q * sent_in_period r + n) (number_of r xy t)

-- the puncturing pattern repeats after each period
abbrev pub PeriodsShift : Type 0
PeriodsShift = (r : Rate) (q t : ℕ) → IsShifted r q t

-- the coded bit at the start of a window
abbrev pub parity_of : Coded → List Bool → Bool
parity_of (X j) w = parity_x w
parity_of (Y j) w = parity_y w

-- sent bit n is a coded bit of its step, with number n there
pub record HasStep (r : Rate) (n : ℕ) : Type 0 where
  pub number : number_of r (kind_of (sent_as r n)) (step_of r n) ≡ Some n
  pub bit : (path : ℕ → Bool) → sent_bit r path n ≡ parity_of (sent_as r n) (window path (step_of r n))

-- every sent bit has its step
abbrev pub SentBitsHaveSteps : Type 0
SentBitsHaveSteps = (r : Rate) (n : ℕ) → HasStep r n

-- runs of sent bits: how they join and split, their length, and the bit at each index
pub record RunsAreLists (r : Rate) (path : ℕ → Bool) : Type 0 where
  pub joined : (a b c : ℕ) → a ≤ b → b ≤ c → sent_bits r path a b ++ sent_bits r path b c ≡ sent_bits r path a c
  pub long : (a b : ℕ) → length (sent_bits r path a b) ≡ b - a
  pub split : (a b : ℕ) (front rest : List Bool) → front ++ rest ≡ sent_bits r path a b
      → (front ≡ sent_bits r path a (a + length front)) × (rest ≡ sent_bits r path (a + length front) b)
  pub here : (a b k : ℕ) → k < b - a → get_or (sent_bits r path a b) k false ≡ sent_bit r path (a + k)

-- the sent bits of every path form such runs
abbrev pub SentBitsAreRuns : Type 0
SentBitsAreRuns = (r : Rate) (path : ℕ → Bool) → RunsAreLists r path

-- the coded bits of a list are those of any path that begins with it
pub record ListIsPath (p : List Bool) (t : ℕ) : Type 0 where
  pub x : parity_x (drop t p) ≡ parity_x (window (bit p) t)
  pub y : parity_y (drop t p) ≡ parity_y (window (bit p) t)

-- every list of bits has the coded bits of its paths
abbrev pub ListsArePaths : Type 0
ListsArePaths = (p : List Bool) (t : ℕ) → ListIsPath p t

-- byte m of a stream is on its path, after the six zeros and the earlier bytes
abbrev pub BytesArePaths : Type 0
BytesArePaths = (bytes : ℕ → ℕ) (m : ℕ) → spelled 8 (bytes m) ≡ bits_from (path_of bytes) (8 * m + 6) 8
