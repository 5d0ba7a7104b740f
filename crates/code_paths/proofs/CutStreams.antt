-- A stream of costs divides into parts, so bits and reports exist.
use Rattle.std.proofs.Common.{ℕ, Bool, List, [], ◌∷◌, ◌++◌, length, drop, inl, inr, refl}
use Rattle.std.specs.declared.option.Option.{Option}
use Rattle.std.specs.declared.option.Option.TheVariants.{Some}
use Rattle.code_paths.specs.declared.costs.CostPair.{CostPair}
use Rattle.code_paths.specs.Streams.{IsOverdue, Part, IsCut, bits_of, ends_of}
use Rattle.code_paths.proofs.Cuts.{cut_more, cut_end, quiet_none}
use Rattle.code_paths.specs.Uniqueness.{IsStart, SomeAreGiven, SomeAreEnded, SomeAreReported}
use Rattle.code_paths.proofs.Deciding.{Decided, from_end}
use Rattle.code_paths.proofs.LeastPaths.{least_is, length_end}
use Rattle.code_paths.proofs.SharedBits.{shared_is, is_overdue}

record CutOf (most : ℕ) (a : Option (List Bool)) (c : List CostPair) : Type 0 where
  parts : List Part
  start : Option (List Bool)
  costs : List CostPair
  cut : IsCut most a c parts start costs
  starts : IsStart start

cut_next : (most : ℕ) (a : Option (List Bool)) (c : List CostPair) (x : CostPair) → CutOf most a c → CutOf most a (c ++ x ∷ [])
cut_next most a c x h = go (is_overdue h.start (h.costs ++ x ∷ []) most h.starts)
  where
    go : Decided (IsOverdue most h.start (h.costs ++ x ∷ [])) → CutOf most a (c ++ x ∷ [])
    go (inr n) = record { parts = h.parts; start = h.start; costs = h.costs ++ x ∷ []; cut = cut_more most a c x h.parts h.start h.costs h.cut n; starts = h.starts }
    go (inl o) =
        let d = h.costs ++ x ∷ [] in
        let p = least_is h.start d h.starts in
        record {
          parts = h.parts ++ (record { costs = d; path = p.0 }) ∷ [];
          start = Some (drop (length d) p.0);
          costs = [];
          cut = cut_end most a c x h.parts h.start h.costs p.0 h.cut o p.1;
          starts = length_end h.start d p.0 p.1.path;
        }

cut_is : (most : ℕ) (a : Option (List Bool)) (c : List CostPair) → IsStart a → CutOf most a c
cut_is most a c s =
    from_end (CutOf most a) (record { parts = []; start = a; costs = []; cut = (refl, refl, quiet_none most a); starts = s }) (cut_next most a) c

pub some_given : SomeAreGiven
some_given most a c s =
    let h = cut_is most a c s in
    let r = shared_is h.start h.costs h.starts in
    (bits_of h.parts ++ r.0, record { parts = h.parts; start = h.start; costs = h.costs; shared = r.0; cut = h.cut; is_shared = r.1; is = refl })

pub some_ended : SomeAreEnded
some_ended most a c s =
    let h = cut_is most a c s in
    let p = least_is h.start h.costs h.starts in
    (bits_of h.parts ++ drop 6 p.0, record { parts = h.parts; start = h.start; costs = h.costs; path = p.0; cut = h.cut; least = p.1; is = refl })

pub some_reported : SomeAreReported
some_reported most a c s =
    let h = cut_is most a c s in
    (ends_of 0 h.parts, record { parts = h.parts; start = h.start; costs = h.costs; cut = h.cut; is = refl })
