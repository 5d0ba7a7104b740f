-- The state of a decoder after running a symbol's pairs, and at its end.
use Rattle.std.proofs.Common.{◌≡◌, ℕ, ◌+◌, ◌<◌, Bool, true, false, List, [], ◌∷◌, ◌++◌, length, take, get_or, map, sym, ap, ◌∙◌, subst, arith, length-append}
use Rattle.std.specs.Prelude.{Option}
use Rattle.std.proofs.lemmas.List.{take_more, map-append}
use Rattle.code_paths.specs.declared.costs.CostPair.{CostPair}
use Rattle.code_paths.specs.Streams.{Reports}
use Rattle.mode_set.specs.declared.modes.Start.{Start}
use Rattle.mode_set.specs.declared.modes.Stream.{Stream}
use Rattle.inner_decoder.specs.Events.{ats}
use Rattle.inner_decoder.specs.declared.decoder.Unmerged.{Unmerged}
use Rattle.inner_decoder.specs.Seen.{DecoderState}
use Rattle.inner_decoder.specs.Tracking.{Stands}
use Rattle.inner_decoder.specs.Tracking as tracking
use Rattle.inner_decoder.specs.Running.{BranchState}
use Rattle.reception.specs.Laws.{NothingGiven}
use Rattle.reception.specs.Lines.{event_at}
use Rattle.reception.specs.Streams.{memory, start_of, so_far}
use Rattle.word_workers.specs.Symbols.{HasRunOver}
use Rattle.inner_receiver.specs.Branches.{HasGiven, GaveMore, HasTaken, HasEnded}

pub events_more : (σ : Stream) (reports : List Unmerged) (i : ℕ) (r : Unmerged) → i < length reports → r ≡ get_or reports i r
    → map (event_at σ) (ats (take (i + 1) reports)) ≡ map (event_at σ) (ats (take i reports)) ++ event_at σ r.at ∷ []
events_more σ reports i r l e =
    ap (λ z. map (event_at σ) (ats z)) (take_more reports i r l)
    ∙ ap (map (event_at σ)) (map-append (λ (u : Unmerged). u.at) (take i reports) (get_or reports i r ∷ []))
    ∙ map-append (event_at σ) (ats (take i reports)) (ats (get_or reports i r ∷ []))
    ∙ ap (λ (u : Unmerged). map (event_at σ) (ats (take i reports)) ++ event_at σ u.at ∷ []) (sym e)

-- one more symbol
ran : (old new : BranchState) (xs : List CostPair) → HasRunOver xs old new → (a : Option (List Bool)) (c : List CostPair) (bits : List Bool) (steps : List ℕ) → HasGiven so_far old.decoder a c bits steps → GaveMore so_far old new a (c ++ xs) bits (steps ++ ats new.events)
ran old new xs h a c bits steps s =
    let r = h.ran a c bits s.decoder.1 in
    record {
      more = r.more;
      appended = r.appended;
      given = record {
        decoder = (h.going, r.stands);
        decoded = r.whole;
        reports = r.reports steps s.reports;
        amount = omega (arith, h.amount, s.amount, ap length r.appended, length-append old.wait r.more, length-append bits r.more, length-append c xs);
      };
    }

pub has_taken : (old new : BranchState) (xs : List CostPair) → HasRunOver xs old new → HasTaken xs old new
has_taken old new xs h = record { going = h.going; loaded = h.loaded; most = h.most; steps = h.steps; gave = ran old new xs h }

-- the end
pub has_ended : (old new : BranchState) → old.loaded ≡ [] → new ≡ record old { decoder = new.decoder; wait = new.wait } → new.decoder.ended ≡ true → new.decoder.steps ≡ old.decoder.steps → length new.wait ≡ length old.wait + old.decoder.waiting
    → ((a : Option (List Bool)) (c : List CostPair) (g : List Bool) → Stands memory old.decoder a c g → tracking.Finished memory new.decoder a c g old.wait new.wait) → HasEnded old new
has_ended old new none kept ended steps amount finish = record {
  ended = ended;
  loaded = ap (λ (z : BranchState). z.loaded) kept ∙ none;
  steps = steps;
  most = ap (λ (z : BranchState). z.most) kept;
  gave = λ a c bits reports s.
      let f = finish a c bits s.decoder.1 in
      record {
        more = f.more;
        appended = f.appended;
        given = record {
          decoder = (ended, f.stands);
          decoded = f.stands.bits;
          reports = s.reports;
          amount = omega (arith, amount, s.amount, f.stands.waiting, ap length f.appended, length-append old.wait f.more, length-append bits f.more);
        };
      };
}

-- at the start
pub begun : NothingGiven → (d : DecoderState) (start : Start) (a : Option (List Bool)) → a ≡ start_of start → d.ended ≡ false → Stands memory d a [] [] → d.waiting ≡ 0 → Reports memory a [] [] → HasGiven so_far d (start_of start) [] [] []
begun none d start a is going stands waiting reports = record {
  decoder = (going, subst (λ z. Stands memory d z [] []) is stands);
  decoded = none memory start;
  reports = subst (λ z. Reports memory z [] []) is reports;
  amount = omega (arith, waiting);
}
