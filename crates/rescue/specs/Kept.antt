-- The invariant of a rescuing receiver.
use Rattle.std.specs.Prelude.{◌≡◌, ℕ, ◌*◌, ◌^◌, ◌≤◌, Bool, false, List, Option, vec_capacity}
use Rattle.code_paths.specs.declared.costs.CostPair.{CostPair}
use Rattle.reception.specs.Streams.{so_far}
use Rattle.rescue_words.specs.Rescued.{RescueTally}
use Rattle.inner_decoder.specs.Running.{BranchState}
use Rattle.inner_receiver.specs.Branches.{HasTaken}
use Rattle.rescue.specs.Seen.{StreamState}
use Rattle.rescue.specs.Standing.{StreamStands}
use Rattle.rescue.specs.declared.stream.StreamRx.{StreamRx}

-- the visible state of a stream's receiver
abbrev pub seen : StreamRx → StreamState
seen x = record {
  branch = x.branch;
  margins = x.margins;
  bytes = x.bytes.items;
  byte_margins
      = x.byte_margins.items;
  words = x.words;
  unmerged = x.unmerged;
}

-- there is space for all that a symbol adds
pub record HasRoom (x : StreamRx) : Type 0 where
  pub block : 1279 ≤ vec_capacity x.block
  pub bytes : 4608 ≤ vec_capacity x.bytes
  pub byte_margins : 4608 ≤ vec_capacity x.byte_margins

-- a stream in a valid state
pub record StandsForSome (x : StreamState) : Type 0 where
  pub a : Option (List Bool)
  pub c : List CostPair
  pub given : List ℕ
  pub tally : RescueTally
  pub steps : List ℕ
  pub stands : StreamStands so_far x a c given tally steps

-- a stream whose decoder has run these pairs from a valid state
pub record RanFrom (pairs : List CostPair) (x : StreamRx) : Type 0 where
  pub before : BranchState
  pub taken : HasTaken pairs before x.branch
  pub some : StandsForSome (record (seen x) { branch = before })

-- no count is above n
pub record AreFew (x : StreamState) (n : ℕ) : Type 0 where
  pub words : x.words.counts.words ≤ n
  pub unmerged : x.unmerged ≤ n

-- a stream between two symbols, before it has ended
pub record IsReady (x : StreamRx) : Type 0 where
  pub going : x.branch.decoder.ended ≡ false
  pub margins : x.margins.ended ≡ false
  pub room : HasRoom x
  pub some : StandsForSome (seen x)

-- a stream after `taken` symbols, each of at most 31,752 steps, before it has ended
pub record IsKeptStream (x : StreamRx) (taken : ℕ) : Type 0 where
  pub ready : IsReady x
  pub steps_were : x.branch.decoder.steps ≤ 31752 * taken
  pub counts : AreFew (seen x) (4400 * taken)

-- until the end both streams have had the symbols taken
pub record IsRescuing (taken : ℕ) (hp lp : StreamRx) (ended : Bool) : Type 0 where
  pub hp_kept : ended ≡ false → IsKeptStream hp taken
  pub lp_kept : ended ≡ false → IsKeptStream lp taken
  pub few_taken : taken ≤ 2 ^ 32
