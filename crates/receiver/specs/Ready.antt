-- A stream between two symbols.
use Rattle.std.specs.Prelude.{◌≡◌, ℕ, ◌*◌, ◌<◌, ◌≤◌, false, [], length, vec_capacity}
use Rattle.receiver.specs.Seen.{StreamState}
use Rattle.receiver.specs.Words.{Started, AreFew}
use Rattle.receiver.specs.declared.stream.StreamRx.{StreamRx}

-- the visible state of a stream's receiver
abbrev pub seen : StreamRx → StreamState
seen x = record { branch = x.branch; outer = x.outer; counts = x.counts }

-- no pair is loaded, fewer than eight bits are pending, and all words are finished
pub record IsReady (x : StreamRx) : Type 0 where
  pub going : x.branch.decoder.ended ≡ false
  pub loaded : x.branch.loaded ≡ []
  pub wait : length x.branch.wait < 8
  pub none : x.slots.items ≡ []
  pub slots : 24 ≤ vec_capacity x.slots
  pub started : Started x.outer

-- a stream whose decoder has run a symbol: no pair is loaded, and all words are finished except those of the pending
-- bits
pub record MayGive (x : StreamRx) : Type 0 where
  pub going : x.branch.decoder.ended ≡ false
  pub loaded : x.branch.loaded ≡ []
  pub none : x.slots.items ≡ []
  pub slots : 24 ≤ vec_capacity x.slots
  pub started : Started x.outer

-- a stream after `taken` symbols, each of at most 31,752 steps, before it has ended
pub record IsKeptStream (x : StreamRx) (taken : ℕ) : Type 0 where
  pub ready : IsReady x
  pub steps_were : x.branch.decoder.steps ≤ 31752 * taken
  pub counts : AreFew x.counts (40 * taken)
