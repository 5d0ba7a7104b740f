-- The packets for n symbols.
use Rattle.std.proofs.Common.{◌≡◌, ℕ, ◌+◌, ◌*◌, ◌<◌, ◌≤◌, sym, ap, ◌∙◌, arith, false}
use Rattle.std.proofs.lemmas.Bool.{cases_lt}
use Rattle.std.specs.Prelude.{◌⊎◌}
use Rattle.std.proofs.Common.{inl, inr}
use Rattle.spec_words.specs.Words.{rounded_up}
use Rattle.mode_set.specs.declared.modes.Stream.{Stream}
use Rattle.symbol_parameters.specs.Spans.{steps_before, words_before}
use Rattle.symbol_parameters.specs.Laws.{NoSteps, StepsGrow, SpansHaveWholeWords}
use Rattle.transmission.specs.SuperFrames.{packets_for}
use Rattle.transmission.specs.Laws.{ThePacketsAreLeast, NoPackets, PacketsGrow, PacketsOfSuperFrames}
use Rattle.transmission.specs.AgendaLaws.{SentAtFault}
use Rattle.transmission.proofs.Rounding.{enough, least}

enough_words : (a : ℕ) → a ≤ 1632 * rounded_up a 1632
enough_words a = let l : a ≤ rounded_up a 1632 * 1632 = enough a 1632 (omega arith) in omega (arith, l)

least_words : (a k : ℕ) → a ≤ 1632 * k → rounded_up a 1632 ≤ k
least_words a k l = let m : a ≤ k * 1632 = omega (arith, l) in least a 1632 k (omega arith) m

pub the_packets_are_least : ThePacketsAreLeast
the_packets_are_least s σ n = record { enough = enough_words (steps_before s σ n); least = λ k l. least_words (steps_before s σ n) k l }

none_for : (a : ℕ) → a ≡ 0 → rounded_up a 1632 ≡ 0
none_for a e = omega (arith, e)

pub no_packets : NoSteps → NoPackets
no_packets none s σ = none_for (steps_before s σ 0) (none s σ)

more_for : (a b : ℕ) → a ≤ b → rounded_up a 1632 ≤ rounded_up b 1632
more_for a b l = let all : b ≤ 1632 * rounded_up b 1632 = enough_words b in least_words a (rounded_up b 1632) (go a b (1632 * rounded_up b 1632) l all)
  where
    go : (a b c : ℕ) → a ≤ b → b ≤ c → a ≤ c
    go a b c x y = omega (arith, x, y)

pub packets_grow : StepsGrow → PacketsGrow
packets_grow grow s σ m n l = more_for (steps_before s σ m) (steps_before s σ n) (grow s σ m n l)

whole_words : (x : ℕ) → rounded_up (1632 * x) 1632 ≡ x
whole_words x = omega arith

pub packets_of_super_frames : SpansHaveWholeWords → PacketsOfSuperFrames
packets_of_super_frames whole s σ n = ap (λ (z : ℕ). rounded_up z 1632) (sym (whole s σ n)) ∙ whole_words (words_before s σ n)

pub sent_at_fault : PacketsGrow → SentAtFault
sent_at_fault grow s taken ended m σ all lasts few = record { enough = all; most = most }
  where
    most : (k : ℕ) → ((τ : Stream) → ended τ ≡ false → packets_for s τ k ≤ taken τ) → k ≤ m
    most k h = go (cases_lt m k)
      where
        go_on : (a b c : ℕ) → a ≤ b → b ≤ c → c < a → k ≤ m
        go_on a b c x y z = absurd (omega (arith, x, y, z))

        go : (m < k) ⊎ (k ≤ m) → k ≤ m
        go (inr l) = l
        go (inl l) =
            let next : m + 1 ≤ k = omega (arith, l) in
            go_on (packets_for s σ (m + 1)) (packets_for s σ k) (taken σ) (grow s σ (m + 1) k next) (h σ lasts) few
