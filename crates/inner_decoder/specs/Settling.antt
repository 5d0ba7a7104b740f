-- What a decoder does after a step, in terms of the survivors' lists.
use Rattle.std.specs.Prelude.{◌≡◌, ℕ, ◌+◌, ◌^◌, Bool, List, [], ◌∷◌, ◌++◌, slice_index}
use Rattle.std.specs.declared.option.Option.{Option}
use Rattle.std.specs.Option.{option_to_list, IfSome}
use Rattle.code_paths.specs.declared.costs.CostPair.{CostPair}
use Rattle.acs_plain.specs.declared.sums.Sums.{Sums}
use Rattle.acs_plain.specs.Steps.{IsStep, SomeAlive}
use Rattle.survivor_ring.specs.Survivors.{IsPushed, AreAllPushed}
use Rattle.code_paths.specs.Streams.{Reports, Given}
use Rattle.inner_decoder.specs.Metrics.{IsBest}
use Rattle.inner_decoder.specs.Tracking.{StandsBy}

-- metrics and pending bits after a step on x
pub record SteppedBy (most : ℕ) (sums : Sums) (waits : ℕ → List Bool) (waiting steps : ℕ) (a : Option (List Bool))
    (c : List CostPair) (g : List Bool) (x : CostPair) (old new : List Bool) (r : Option ℕ) : Type 0 where
  pub more : List Bool
  pub appended : new ≡ old ++ more
  pub stands : StandsBy most sums waits waiting steps a (c ++ x ∷ []) (g ++ more)
  pub reports : (rs : List ℕ) → Reports most a c rs → Reports most a (c ++ x ∷ []) (rs ++ option_to_list r)
  pub whole : IfSome r (λ _. Given most a (c ++ x ∷ []) (g ++ more))

-- Whatever step produced these metrics and lists, if it was step number `steps`, the rest of the call completes it.
pub record Settles (most : ℕ) (mid : Sums) (pushed : ℕ → List Bool) (count : ℕ) (new : Sums) (waits : ℕ → List Bool)
    (waiting steps : ℕ) (from to : List Bool) (r : Option ℕ) : Type 0 where
  pub each : (old : Sums) (lists : ℕ → List Bool) (before : ℕ) (n : ℕ) (x : CostPair) (answer : ℕ)
      → IsStep old x mid answer → SomeAlive mid → IsPushed lists answer mid.alive pushed → count ≡ before + 1 → steps
      ≡ n + 1
      → (a : Option (List Bool)) (c : List CostPair) (g : List Bool) → StandsBy most old lists before n a c g
      → SteppedBy most new waits waiting steps a c g x from to r

-- The same of many steps with all states alive and these decision words: `lists` are the survivors' lists after them.
pub record SettlesAll (most : ℕ) (waits : ℕ → List Bool) (words : List ℕ) (mid : Sums) (count : ℕ) (new : Sums)
    (less : ℕ → List Bool) (left steps : ℕ) (from to : List Bool) (r : Option ℕ) : Type 0 where
  pub lists : ℕ → List Bool
  pub push : AreAllPushed waits words lists
  pub settles : Settles most mid lists count new less left steps from to r

-- the bits of the least path are given, and only its last state stays alive
pub record IsForced (old : Sums) (lists : ℕ → List Bool) (new : Sums) (waits : ℕ → List Bool) (from to : List Bool)
    : Type 0 where
  pub state : ℕ
  pub best : IsBest old state
  pub given : to ≡ from ++ lists state
  pub lives : new.alive ≡ 2 ^ state
  pub cost : slice_index new.cost state ≡ 0
  pub none : waits state ≡ []
