-- Rescue as a kind of reception: its laws, the output for a piece, and the effect of part of a symbol.
use Rattle.std.proofs.Common.{◌≡◌, ℕ, ◌+◌, ◌≤◌, List, ◌++◌, length, sym, subst}
use Rattle.code_paths.specs.declared.costs.CostPair.{CostPair}
use Rattle.code_paths.specs.Streams.{Given, Reports}
use Rattle.mode_set.specs.declared.settings.Settings.{Settings}
use Rattle.reception.specs.Cells.{symbol_length, tail}
use Rattle.reception.specs.Feeds.{Output}
use Rattle.reception.specs.Laws.{IsWithin, NoEvents, SameCosts, TailIsUnfinished}
use Rattle.reception.specs.Streams.{memory, start_of}
use Rattle.rescue.specs.Laws.{AreSame, NothingSoFar, OneAtEnd, OneSoFar, SomeSoFar, SomeAtEnd, SoFarBeginsSoFar, SoFarBeginsAtEnd, WholeSymbolsGive}
use Rattle.rescue.specs.Feeds.{Feeds}
use Rattle.rescue.specs.Known.{AreSettled}
use Rattle.rescue.specs.Streams.{Rescue, RescuesSoFar, nothing}
use Rattle.cmd_receive.specs.Kinds.{TakesAs}
use Rattle.cmd_receive.proofs.OfKinds.{KindLaws}
use Rattle.cmd_receive.proofs.Taking.{took_as}
use Rattle.cmd_rescue.specs.Working.{rescuing}

-- equal rescue outputs are one
pub one_of : {r q : Rescue} → AreSame r q → r ≡ q
one_of a = λ i. record { packets = λ σ. a.packets σ i; reports = λ σ. a.reports σ i; tally = λ σ. a.tally σ i }

abbrev pub rescue_laws : SomeSoFar → SomeAtEnd → OneSoFar → OneAtEnd → SoFarBeginsSoFar → SoFarBeginsAtEnd → WholeSymbolsGive → TailIsUnfinished → NothingSoFar → NoEvents → KindLaws rescuing
rescue_laws some_so_far some_at_end one_so_far one_at_end so_far at_end whole unfinished none no_events = record {
  some_live = some_so_far;
  some_final = some_at_end;
  one_live = λ s bytes r q is are. one_of (one_so_far s bytes r q is are);
  one_final = λ s bytes r q is are. one_of (one_at_end s bytes r q is are);
  live = λ s bytes more r q is are. let b = so_far s bytes more r q is are in record { packets = b.packets; lines = b.lines };
  last = λ s bytes more r q is are. let b = at_end s bytes more r q is are in record { packets = b.packets; lines = b.lines };
  whole = whole;
  unfinished = unfinished;
  none = nothing;
  none_live = none;
  no_events = no_events;
}

-- a piece that does not exceed the symbol is taken whole
pub took : (s : Settings) (bytes piece : List ℕ) (before : Rescue) (n : ℕ) (out : Output) (standing : List ℕ → Rescue → Type 0)
    → tail s bytes + length piece ≤ symbol_length s → Feeds standing s bytes piece before n out → TakesAs rescuing standing s bytes piece before out
took s bytes piece before n out standing fits f = took_as rescuing s bytes piece before f.after n out standing fits f.count f.stands f.live f.follows.packets f.follows.events_are

-- bytes that do not complete a symbol add no output
pub part : SameCosts → (s : Settings) (bytes more : List ℕ) (r : Rescue) → IsWithin s bytes more → RescuesSoFar s bytes r → RescuesSoFar s (bytes ++ more) r
part costs_same s bytes more r within is = record {
  bits = is.bits;
  decoded = λ σ. subst (λ (c : List CostPair). Given memory (start_of s.start) c (is.bits σ)) (sym (costs_same s bytes more σ within)) (is.decoded σ);
  margins = is.margins;
  known = λ σ. subst (λ (c : List CostPair). AreSettled (start_of s.start) c (is.margins σ)) (sym (costs_same s bytes more σ within)) (is.known σ);
  rescues = is.rescues;
  reports = λ σ. subst (λ (c : List CostPair). Reports memory (start_of s.start) c (r.reports σ)) (sym (costs_same s bytes more σ within)) (is.reports σ);
}
