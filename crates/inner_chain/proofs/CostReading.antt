-- Cost pairs, one after another.
use Rattle.std.proofs.Common.{◌≡◌, ℕ, ◌+◌, ◌<◌, ◌≤◌, ◌⊎◌, inl, inr, List, [], ◌∷◌, ◌++◌, append_assoc, length, refl, sym, ap, ◌∙◌, subst, arith}
use Rattle.std.specs.Prelude.{slice_index_or, slice_set}
use Rattle.std.proofs.lemmas.Bool.{cases_lt}
use Rattle.std.proofs.lemmas.List.{append-nil, get_or_append_left, get_or_push, length_push, get_or-set_same, get_or-set_other}
use Rattle.code_paths.specs.declared.costs.CostPair.{CostPair}
use Rattle.mode_set.specs.StreamTable.{need}
use Rattle.mode_set.specs.declared.modes.Stream.{Stream}
use Rattle.mode_set.specs.declared.settings.Settings.{Settings}
use Rattle.qam_map.specs.declared.cell.Cell.{Cell}
use Rattle.inner_chain.specs.CostPairs.{IsPairOf, AppendsPairs}
use Rattle.inner_chain.specs.CostTables.{IsRead, AppendsFirst}

-- ---- one more pair is written
pub here_more : (costs : List (ℕ × ℕ)) (entries : List ℕ) (first n : ℕ) (list : List CostPair) (c : CostPair) → first + n < length list → IsRead costs entries n c
    → ((t : ℕ) (d : CostPair) → t < n → IsRead costs entries t (slice_index_or list (first + t) d)) → (t : ℕ) (d : CostPair) → t < n + 1 → IsRead costs entries t (slice_index_or (slice_set list (first + n) c) (first + t) d)
here_more costs entries first n list c within read all t d m = go (cases_lt t n)
  where
    go : (t < n) ⊎ (n ≤ t) → IsRead costs entries t (slice_index_or (slice_set list (first + n) c) (first + t) d)
    go (inl less) = subst (IsRead costs entries t) (sym (get_or-set_other list (first + n) (first + t) c d (λ same. absurd (omega (arith, less, same))))) (all t d less)
    go (inr more) =
        let same : n ≡ t = omega (arith, m, more) in
        subst (λ (z : ℕ). IsRead costs entries z (slice_index_or (slice_set list (first + n) c) (first + z) d)) same (subst (IsRead costs entries n) (sym (get_or-set_same list (first + n) c d within)) read)

pub before_more : (first n : ℕ) (list old : List CostPair) (c : CostPair) → ((k : ℕ) (d : CostPair) → k < first → slice_index_or list k d ≡ slice_index_or old k d) → (k : ℕ) (d : CostPair) → k < first
    → slice_index_or (slice_set list (first + n) c) k d ≡ slice_index_or old k d
before_more first n list old c all k d m = get_or-set_other list (first + n) k c d (λ same. absurd (omega (arith, m, same))) ∙ all k d m

-- ---- one more pair is appended
pub none_appended : (s : Settings) (cells : List Cell) (weights : List ℕ) (l : ℕ) (σ : Stream) (old : List CostPair) → AppendsFirst s cells weights l σ 0 old old
none_appended s cells weights l σ old = record { pairs = []; long = refl; at = λ t d m. absurd (omega (arith, m)); is = sym (append-nil old) }

pub append_more : (s : Settings) (cells : List Cell) (weights : List ℕ) (l : ℕ) (σ : Stream) (n : ℕ) (old mid new : List CostPair) (c : CostPair) → AppendsFirst s cells weights l σ n old mid → IsPairOf s cells weights l σ n c → new ≡ mid ++ c ∷ []
    → AppendsFirst s cells weights l σ (n + 1) old new
append_more s cells weights l σ n old mid new c a is e = record {
  pairs = a.pairs ++ c ∷ [];
  long = length_push a.pairs c ∙ ap (λ (z : ℕ). z + 1) a.long;
  at = at;
  is = e ∙ ap (λ (zs : List CostPair). zs ++ c ∷ []) a.is ∙ append_assoc old a.pairs (c ∷ []);
}
  where
    at : (t : ℕ) (d : CostPair) → t < n + 1 → IsPairOf s cells weights l σ t (slice_index_or (a.pairs ++ c ∷ []) t d)
    at t d m = go (cases_lt t n)
      where
        go : (t < n) ⊎ (n ≤ t) → IsPairOf s cells weights l σ t (slice_index_or (a.pairs ++ c ∷ []) t d)
        go (inl less) = subst (IsPairOf s cells weights l σ t) (sym (get_or_append_left a.pairs (c ∷ []) d t (omega (arith, less, a.long)))) (a.at t d less)
        go (inr more) =
            let same : n ≡ t = omega (arith, m, more) in
            subst (λ (z : ℕ). IsPairOf s cells weights l σ z (slice_index_or (a.pairs ++ c ∷ []) t d)) same (subst (IsPairOf s cells weights l σ n) (sym (get_or_push a.pairs c d t (a.long ∙ same))) is)

pub all_appended : (s : Settings) (cells : List Cell) (weights : List ℕ) (l : ℕ) (σ : Stream) (n : ℕ) (old new : List CostPair) → n ≡ need s σ → AppendsFirst s cells weights l σ n old new → AppendsPairs s cells weights l σ old new
all_appended s cells weights l σ n old new e a = record { pairs = a.pairs; long = a.long ∙ e; at = λ t d m. a.at t d (omega (arith, m, e)); is = a.is }
