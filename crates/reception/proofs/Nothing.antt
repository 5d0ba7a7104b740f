-- The output for no bytes.
use Rattle.std.proofs.Common.{◌≡◌, ℕ, ◌/◌, Bool, false, List, [], length, drop, inl, refl, sym, ap, subst, arith, length-append}
use Rattle.std.specs.Prelude.{Option, None, replicate}
use Rattle.std.proofs.lemmas.List.{length-take}
use Rattle.code_paths.specs.declared.costs.CostPair.{CostPair}
use Rattle.code_paths.specs.Paths.{LeastTo}
use Rattle.code_paths.specs.Streams.{IsPrefix, IsQuiet, Shared, Given, Reports}
use Rattle.mode_set.specs.declared.modes.Start.{Start}
use Rattle.mode_set.specs.declared.modes.Start.TheVariants.{Zero, Any}
use Rattle.mode_set.specs.declared.settings.Settings.{Settings}
use Rattle.outer_chain.specs.Bits.{bytes_of}
use Rattle.outer_chain.specs.Words.{Packets, Tallies, packets_to, count}
use Rattle.reception.specs.Cells.{symbols}
use Rattle.reception.specs.Frames.{CountsFrames}
use Rattle.reception.specs.Streams.{memory, start_of}
use Rattle.reception.specs.Laws.{no_words, NothingGiven, NothingLive}
use Rattle.reception.proofs.Symbols.{no_count}
use Rattle.reception.proofs.CostLists.{no_costs}

abbrev zeros : List Bool
zeros = replicate 6 false

quiet : (most : ℕ) (a : Option (List Bool)) → IsQuiet most a [] 1
quiet most a t l o = omega (arith, o.over, length-take {A = CostPair} t [])

-- the path of no steps from six zeros
least_to : (start : Start) → LeastTo (start_of start) [] zeros zeros
least_to Zero = record { path = record { long = refl; start = refl }; ends = refl; first = λ q i d. inl (sym d) }
least_to Any = record { path = record { long = refl; start = tt }; ends = refl; first = λ q i d. inl (sym d) }

shared : (start : Start) → Shared (start_of start) [] []
shared start = record {
  common = λ e p h. record { rest = drop 6 p; is = refl };
  longest = λ r h. let p : IsPrefix r [] = h zeros zeros (least_to start) in omega (arith, ap length p.is, length-append r p.rest);
}

pub nothing_given : NothingGiven
nothing_given most start = record { parts = []; start = start_of start; costs = []; shared = []; cut = (refl, refl, quiet most (start_of start)); is_shared = shared start; is = refl }

pub nothing_reported : (most : ℕ) (a : Option (List Bool)) → Reports most a [] []
nothing_reported most a = record { parts = []; start = a; costs = []; cut = (refl, refl, quiet most a); is = refl }

packets : Packets (bytes_of []) []
unfolding packets_to bytes_of
packets = record { near = λ n. None; is_near = λ n l. absurd (omega (arith, l)); is = refl }

tally : Tallies (bytes_of []) no_words
unfolding count bytes_of
tally = record { near = λ n. None; is_near = λ n l. absurd (omega (arith, l)); is = refl }

frames : (s : Settings) → CountsFrames s [] 0 0
unfolding count
frames s =
    let none : symbols s [] ≡ 0 = no_count s.mode in
    record { is_read = λ f. false; reads = λ f l. absurd (omega (arith, l, none)); read_is = ap (λ n. count (λ f. false) (n / 68)) (sym none); all = omega (arith, none) }

pub nothing_live : NothingLive
nothing_live s = record {
  bits = λ σ. [];
  decoded = λ σ. subst (λ z. Given memory (start_of s.start) z []) (sym (no_costs s σ)) (nothing_given memory s.start);
  packets = λ σ. packets;
  tally = λ σ. tally;
  reports = λ σ. subst (λ z. Reports memory (start_of s.start) z []) (sym (no_costs s σ)) (nothing_reported memory (start_of s.start));
  frames = frames s;
}
