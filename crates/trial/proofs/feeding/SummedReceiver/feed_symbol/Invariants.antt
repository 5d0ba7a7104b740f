-- Pieces of the symbol were fed.
use Rattle.std.proofs.Common.{◌≡◌, ◌≤◌, ◌-◌, ◌++◌, ℕ, List, length, take, false}
use Rattle.reception.specs.Cells.{tail}
use Rattle.trial.specs.Feeding.{HasGiven}
use Rattle.trial.proofs.PieceSteps.{IsFeeding}
use Rattle.trial.proofs.feeding.SummedReceiver.feed_symbol.Given as goal

abbrev pub invariant-loop-fed : goal.invariant-loop-fed
invariant-loop-fed g l = record {
  within : l.fed ≤ length l.symbol;
  settings : l.self.receiver.settings ≡ l.initial.self.receiver.settings;
  going : l.self.receiver.ended ≡ false;
  feeding : IsFeeding l.initial.load l.load l.fed (length l.symbol);
  given : (bytes : List ℕ) → tail l.initial.self.receiver.settings bytes ≡ 0
      → HasGiven l.initial.self.receiver bytes l.initial.self.hp l.initial.self.lp → HasGiven l.self.receiver (bytes ++ take l.fed l.symbol) l.self.hp l.self.lp;
}

-- the bytes not yet fed
abbrev pub decreases-loop-fed : goal.decreases-loop-fed
decreases-loop-fed g l = length l.symbol - l.fed
