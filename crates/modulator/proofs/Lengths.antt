-- The number of super-frames is the greater of those of the streams.
use Rattle.std.proofs.Common.{◌≡◌, ℕ, ◌+◌, ◌<◌, ◌≤◌, ◌⊎◌, inl, inr, true, false, sym, ap, ◌∙◌, arith, max}
use Rattle.std.specs.Prelude.{None}
use Rattle.std.proofs.Math.Nat.{le-max_left, le-max_right, max-le}
use Rattle.std.proofs.lemmas.Bool.{cases_lt, true≢false}
use Rattle.mode_set.specs.Entries.{has_lp}
use Rattle.mode_set.specs.declared.modes.Stream.{Stream}
use Rattle.mode_set.specs.declared.modes.Stream.TheVariants.{Hp, Lp}
use Rattle.mode_set.specs.declared.settings.Settings.{Settings}
use Rattle.symbol_parameters.specs.Spans.{words_before}
use Rattle.symbol_parameters.specs.Laws.{HpExists, LpExists, NoWords, WordsGrow}
use Rattle.transmission.specs.SuperFrames.{AreSuperFrames, IsLength, Suffices}
use Rattle.modulator.specs.Carrying.{AreLeastFor}

pub record AreKnown : Type 0 where
  pub none : NoWords
  pub grow : WordsGrow
  pub hp : HpExists
  pub lp : LpExists

module _ (known : AreKnown) (s : Settings) (counts : Stream → ℕ) where
  some_frame : (n : ℕ) → counts Hp + 11 ≤ words_before s Hp n → 1 ≤ n
  some_frame n l = go (cases_lt n 1)
    where
      go : (n < 1) ⊎ (1 ≤ n) → 1 ≤ n
      go (inr m) = m
      go (inl m) = let e : n ≡ 0 = omega (arith, m) in let none = ap (words_before s Hp) e ∙ known.none s Hp in absurd (omega (arith, l, none))

  pub one_stream : (n : ℕ) → has_lp s ≡ false → AreLeastFor s Hp (counts Hp + 11) n → AreSuperFrames s counts n
  one_stream n flat are = record { some = some_frame n are.enough; suffices = all; least = λ k some each. are.least k (each Hp (known.hp s)) }
    where
      all : Suffices s counts n
      all Hp exists = are.enough
      all Lp exists = absurd (true≢false (sym exists ∙ known.lp s ∙ flat))

  pub two_streams : (n m k : ℕ) → has_lp s ≡ true → k ≡ max n m → AreLeastFor s Hp (counts Hp + 11) n → AreLeastFor s Lp (counts Lp + 11) m → AreSuperFrames s counts k
  two_streams n m k both e hp lp = record {
    some = (let some = some_frame n hp.enough in let l = le-max_left n m in omega (arith, some, l, e));
    suffices = all;
    least = λ j some each. let most = max-le (hp.least j (each Hp (known.hp s))) (lp.least j (each Lp (known.lp s ∙ both))) in omega (arith, most, e);
  }
    where
      all : Suffices s counts k
      all Hp exists = let l = le-max_left n m in let up = known.grow s Hp n k (omega (arith, l, e)) in let some = hp.enough in omega (arith, some, up)
      all Lp exists = let l = le-max_right n m in let up = known.grow s Lp m k (omega (arith, l, e)) in let some = lp.enough in omega (arith, some, up)

  pub never_hp : ((n : ℕ) → counts Hp + 11 ≤ words_before s Hp n → ⊥) → IsLength s counts None
  never_hp none n some each = none n (each Hp (known.hp s))

  pub never_lp : has_lp s ≡ true → ((n : ℕ) → counts Lp + 11 ≤ words_before s Lp n → ⊥) → IsLength s counts None
  never_lp both none n some each = none n (each Lp (known.lp s ∙ both))
