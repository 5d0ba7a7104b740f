-- A piece that does not exceed the symbol is taken whole.
use Rattle.std.proofs.Common.{◌≡◌, ℕ, ◌+◌, ◌≤◌, List, ◌++◌, length, take, subst, arith}
use Rattle.std.proofs.lemmas.List.{take_all}
use Rattle.mode_set.specs.declared.settings.Settings.{Settings}
use Rattle.mode_set.specs.declared.modes.Stream.{Stream}
use Rattle.reception.specs.Cells.{symbol_length, symbols, tail}
use Rattle.reception.specs.Lines.{events}
use Rattle.reception.specs.Streams.{Reception}
use Rattle.reception.specs.Feeds.{Feeds, Output, packets_of, taken}
use Rattle.cmd_receive.specs.Kinds.{Kind, TakesAs}
use Rattle.cmd_receive.specs.Working.{Takes, plain}

pub took_as : (k : Kind) (s : Settings) (bytes piece : List ℕ) (before after : k.Received) (n : ℕ) (out : Output) (standing : List ℕ → k.Received → Type 0)
    → tail s bytes + length piece ≤ symbol_length s → n ≡ taken s bytes piece → standing (bytes ++ take n piece) after → k.Live s (bytes ++ take n piece) after
    → ((σ : Stream) → k.packets after σ ≡ k.packets before σ ++ packets_of out σ)
    → events s (symbols s (bytes ++ take n piece)) (k.reports after) ≡ events s (symbols s bytes) (k.reports before) ++ out.events
    → TakesAs k standing s bytes piece before out
took_as k s bytes piece before after n out standing fits count stands live packets events_are =
    let all : length piece ≤ n = omega (arith, count, fits) in
    let whole : take n piece ≡ piece = take_all n piece all in
    record {
      after = after;
      stands = subst (λ (l : List ℕ). standing (bytes ++ l) after) whole stands;
      live = subst (λ (l : List ℕ). k.Live s (bytes ++ l) after) whole live;
      packets = packets;
      events_are = subst (λ (l : List ℕ). events s (symbols s (bytes ++ l)) (k.reports after) ≡ events s (symbols s bytes) (k.reports before) ++ out.events) whole events_are;
    }

pub took : (s : Settings) (bytes piece : List ℕ) (before : Reception) (n : ℕ) (out : Output) (standing : List ℕ → Reception → Type 0)
    → tail s bytes + length piece ≤ symbol_length s → Feeds standing s bytes piece before n out → Takes standing s bytes piece before out
took s bytes piece before n out standing fits f = took_as plain s bytes piece before f.after n out standing fits f.count f.stands f.live f.follows.packets f.follows.events_are

-- a fact that stays true along with the state
pub kept_feeds : (Kept : Type 0) (standing : List ℕ → Reception → Type 0) (s : Settings) (bytes piece : List ℕ) (before : Reception) (n : ℕ) (out : Output)
    → Kept → Feeds standing s bytes piece before n out → Feeds (λ b r. standing b r × Kept) s bytes piece before n out
kept_feeds Kept standing s bytes piece before n out k f = record { after = f.after; count = f.count; stands = (f.stands, k); live = f.live; follows = f.follows }
