-- The state of a decoder after a stream of costs.
use Rattle.std.specs.Prelude.{◌≡◌, ℕ, ◌+◌, ◌<◌, ◌≤◌, Bool, false, List, [], ◌∷◌, ◌++◌, length, drop, slice_index}
use Rattle.std.specs.Prelude.{IsTrue, ◌↔◌}
use Rattle.std.specs.declared.option.Option.{Option}
use Rattle.std.specs.Option.{option_to_list, IfSome}
use Rattle.code_paths.specs.declared.costs.CostPair.{CostPair}
use Rattle.acs_plain.specs.declared.sums.Sums.{Sums}
use Rattle.code_paths.specs.Paths.{LeastTo, Unreached, total}
use Rattle.code_paths.specs.States.{register}
use Rattle.acs_plain.specs.Steps.{alive, SomeAlive}
use Rattle.code_paths.specs.Streams.{Part, IsCut, IsPrefix, bits_of, Reports, Given, Ended}
use Rattle.inner_decoder.specs.Seen.{DecoderState, row_of}
use Rattle.inner_decoder.specs.Metrics.{NeverWrap}

-- The alive states are those that a path of the open part reaches. The metrics are the totals of the least paths, less
-- one number, and never wrap. The bits of these paths are the bits of the part already given, then the pending ones.
pub record Tracks (b : Option (List Bool)) (d : List CostPair) (gave : List Bool) (sums : Sums) (waits : ℕ → List Bool)
    (waiting : ℕ) : Type 0 where
  pub less : ℕ
  pub path : ℕ → List Bool
  pub long : length gave + waiting ≡ length d
  pub least : (n : ℕ) → n < 64 → IsTrue (alive sums n) → LeastTo b d (register n) (path n)
  pub cost : (n : ℕ) → n < 64 → IsTrue (alive sums n) → slice_index sums.cost n + less ≡ total d (path n)
  pub bits : (n : ℕ) → n < 64 → IsTrue (alive sums n) → drop 6 (path n) ≡ gave ++ waits n
  pub none : (n : ℕ) → n < 64 → alive sums n ≡ false → Unreached b d (register n)
  pub bounded : NeverWrap b (length d) sums

-- Metrics, pending bits and a number of steps match the costs c from start a, after the bits g were given.
pub record StandsBy (most : ℕ) (sums : Sums) (waits : ℕ → List Bool) (waiting steps : ℕ) (a : Option (List Bool))
    (c : List CostPair) (g : List Bool) : Type 0 where
  pub parts : List Part
  pub start : Option (List Bool)
  pub costs : List CostPair
  pub gave : List Bool
  pub cut : IsCut most a c parts start costs
  pub tracks : Tracks start costs gave sums waits waiting
  pub some : SomeAlive sums
  pub few : waiting ≤ most
  pub counts : steps ≡ length c
  pub is : g ≡ bits_of parts ++ gave

-- The decoder d matches the start a, the costs c it took, and the bits g it appended.
abbrev pub Stands : ℕ → DecoderState → Option (List Bool) → List CostPair → List Bool → Type 0
Stands most d a c g = StandsBy most d.sums (row_of d.rows) d.waiting d.steps a c g

-- The decoder after a step on x. Bits are appended; all bits so far are a prefix of the bits given. r is a report
-- exactly if the defined reports have one more, and then exactly the bits given are appended.
pub record Stepped (most : ℕ) (d : DecoderState) (a : Option (List Bool)) (c : List CostPair) (g : List Bool)
    (x : CostPair) (old new : List Bool) (r : Option ℕ) : Type 0 where
  pub more : List Bool
  pub appended : new ≡ old ++ more
  pub stands : Stands most d a (c ++ x ∷ []) (g ++ more)
  pub begins : (h : List Bool) → Given most a (c ++ x ∷ []) h → IsPrefix (g ++ more) h
  pub reports : (rs : List ℕ) → Reports most a c rs → Reports most a (c ++ x ∷ []) (rs ++ option_to_list r)
  pub whole : IfSome r (λ _. Given most a (c ++ x ∷ []) (g ++ more))

-- the decoder after a call that appends all shared bits: exactly the bits given
pub record Gave (most : ℕ) (d : DecoderState) (a : Option (List Bool)) (c : List CostPair) (g : List Bool)
    (old new : List Bool) : Type 0 where
  pub more : List Bool
  pub appended : new ≡ old ++ more
  pub stands : Stands most d a c (g ++ more)
  pub whole : Given most a c (g ++ more)

-- The decoder d has ended. It matches the start a, the costs c it took, and the bits g it appended: exactly the bits at
-- the end. No bit is pending. One state is alive: the last six bits of the path.
pub record StandsEnded (most : ℕ) (d : DecoderState) (a : Option (List Bool)) (c : List CostPair) (g : List Bool) : Type
    0 where
  pub bits : Ended most a c g
  pub steps : d.steps ≡ length c
  pub waiting : d.waiting ≡ 0
  pub lives : (n : ℕ) → n < 64 → IsTrue (alive d.sums n) ↔ (register n ≡ drop (length bits.costs) bits.path)

-- the decoder after the last call
pub record Finished (most : ℕ) (d : DecoderState) (a : Option (List Bool)) (c : List CostPair) (g : List Bool)
    (old new : List Bool) : Type 0 where
  pub more : List Bool
  pub appended : new ≡ old ++ more
  pub stands : StandsEnded most d a c (g ++ more)
