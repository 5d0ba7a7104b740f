-- What a call of the work gave, by what a call below it gave.
use Rattle.std.proofs.Common.{◌≡◌, ℕ, List, [], ◌++◌, Result, Ok, Err, ◌∙◌, sym, ap, append_assoc}
use Rattle.std.proofs.lemmas.List.{append-nil}
use Rattle.station_core.specs.Meaning.{Meaning, sink_at}
use Rattle.station_core.specs.declared.ports.OutPort.{OutPort}
use Rattle.cmd_base.specs.declared.refusal.Refusal.{Refusal}
use Rattle.cmd_cells.specs.declared.run_error.RunError.{RunError}
use Rattle.cmd_cells.specs.declared.run_error.RunError.TheVariants.{ReadFault, WriteFault, Limit}
use Rattle.cmd_cells.specs.declared.run_error.RunError.TheVariants as stops
use Rattle.cmd_cells.specs.Work.{Does, Written}

-- the same output by another statement
pub does_as : (S S' I I' : Written → Type 0) (Its Its' : Refusal → Type 0) (before : Written) (m m' : Meaning) (result : Result (Unit {0}) RunError)
    → ((after : Written) → S after → I after → S' after) → ((after : Written) → I after → I' after) → ((r : Refusal) → Its r → Its' r)
    → Does S I Its before m m' result → Does S' I' Its' before m m' result
does_as S S' I I' Its Its' before m m' (Ok u) stands gives its d = record { after = d.after; more = d.more; is = (stands d.after d.is.0 d.is.1, gives d.after d.is.1); follows = d.follows; written = d.written }
does_as S S' I I' Its Its' before m m' (Err WriteFault) stands gives its d = record { after = d.after; more = d.more; is = gives d.after d.is; follows = d.follows; written = d.written }
does_as S S' I I' Its Its' before m m' (Err (stops.Work r)) stands gives its d = (its r d.0, d.1)
does_as S S' I I' Its Its' before m m' (Err ReadFault) stands gives its d = absurd d
does_as S S' I I' Its Its' before m m' (Err Limit) stands gives its d = absurd d

-- what was given comes after what was written first
pub does_behind : (first : Written) (S S' I I' : Written → Type 0) (Its Its' : Refusal → Type 0) (before given : Written) (m m' : Meaning) (result : Result (Unit {0}) RunError)
    → ((port : OutPort) → given port ≡ first port ++ before port)
    → ((after : Written) → S after → S' (λ port. first port ++ after port)) → ((after : Written) → I after → I' (λ port. first port ++ after port)) → ((r : Refusal) → Its r → Its' r)
    → Does S I Its before m m' result → Does S' I' Its' given m m' result
does_behind first S S' I I' Its Its' before given m m' result is stands gives its d = go result d
  where
    follows : (after more : Written) → ((port : OutPort) → after port ≡ before port ++ more port) → (port : OutPort) → first port ++ after port ≡ given port ++ more port
    follows after more f port =
        ap (λ (l : List ℕ). first port ++ l) (f port) ∙ sym (append_assoc (first port) (before port) (more port)) ∙ ap (λ (l : List ℕ). l ++ more port) (sym (is port))

    go : (result : Result (Unit {0}) RunError) → Does S I Its before m m' result → Does S' I' Its' given m m' result
    go (Ok u) d = record { after = λ port. first port ++ d.after port; more = d.more; is = (stands d.after d.is.0, gives d.after d.is.1); follows = follows d.after d.more d.follows; written = d.written }
    go (Err WriteFault) d = record { after = λ port. first port ++ d.after port; more = d.more; is = gives d.after d.is; follows = follows d.after d.more d.follows; written = d.written }
    go (Err (stops.Work r)) d = (its r d.0, d.1)
    go (Err ReadFault) d = absurd d
    go (Err Limit) d = absurd d

-- nothing was given, and nothing written
pub does_nothing : (S I : Written → Type 0) (Its : Refusal → Type 0) (before : Written) (m : Meaning) → S before → I before → Does S I Its before m m (Ok tt)
does_nothing S I Its before m stands gives = record {
  after = before;
  more = λ port. [];
  is = (stands, gives);
  follows = λ port. sym (append-nil (before port));
  written = λ t port. sym (append-nil (sink_at port m).written);
}
