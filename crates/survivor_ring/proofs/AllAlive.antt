-- Steps on many words, with all states alive.
use Rattle.std.proofs.Common.{◌≡◌, ℕ, ◌<◌, ◌||◌, Bool, true, List, [], ◌∷◌, ◌++◌, refl, sym, ap, ap₂, ◌∙◌, append_assoc, append-nil, arith}
use Rattle.std.proofs.lemmas.Bool.{agree_below_at}
use Rattle.spec_words.specs.Bits.{is_set}
use Rattle.code_paths.specs.States.{even_of, before}
use Rattle.std.specs.Prelude.{take}
use Rattle.survivor_ring.specs.Survivors.{IsPushed, IsFollowed, AreAllPushed, IsAlike, GivesAway, all_pushed}
use Rattle.survivor_ring.specs.Ring.{root, trace}
use Rattle.survivor_ring.proofs.RowSteps.{before_below}
use Rattle.survivor_ring.proofs.Walks.{trace_push, root_push, trace_append}

pub all_alive : (n : ℕ) → n < 64 → is_set 18446744073709551615 n ≡ true
all_alive n l = agree_below_at (λ n. is_set 18446744073709551615 n) (λ n. true) 64 n refl l

-- all states follow all, for any word
pub all_followed : (old word : ℕ) → old ≡ 18446744073709551615 → IsFollowed old word 18446744073709551615
all_followed old word e = record {
  lives = λ n l. all_alive n l ∙ sym (ap₂ (λ a b. a || b) (ap (λ z. is_set z (even_of n)) e ∙ all_alive (even_of n) (omega arith)) refl);
  chose = λ n l t. ap (λ z. is_set z (before word n)) e ∙ all_alive (before word n) (before_below word n l);
}

pub none_pushed : (old : ℕ → List Bool) → AreAllPushed old [] old
none_pushed old = record { each = λ n l. sym (append-nil (old n)) }

-- one more word
pub all_pushed_more : (old : ℕ → List Bool) (words : List ℕ) (mid : ℕ → List Bool) (word : ℕ) (new : ℕ → List Bool) → AreAllPushed old words mid → IsPushed mid word 18446744073709551615 new → AreAllPushed old (words ++ word ∷ []) new
all_pushed_more old words mid word new h p = record {
  each = λ n l.
      p.each n l (all_alive n l)
      ∙ ap (λ z. z ++ is_set n 5 ∷ []) (h.each (before word n) (before_below word n l))
      ∙ append_assoc (old (root words (before word n))) (trace words (before word n)) (is_set n 5 ∷ [])
      ∙ sym (ap₂ (λ k z. old k ++ z) (root_push words word n) (trace_push words word n));
}

-- words after words
pub traces_extended : (ws ds new : List ℕ) → new ≡ ws ++ ds → AreAllPushed (trace ws) ds (trace new)
traces_extended ws ds new e = record { each = λ n l. ap (λ z. trace z n) e ∙ trace_append ws ds n }

-- ---- the same lists under another name

pub alike_as : (live : ℕ) (f g : ℕ → List Bool) (count k : ℕ) → ((n : ℕ) → n < 64 → g n ≡ f n) → IsAlike live f count k → IsAlike live g count k
alike_as live f g count k h i = record {
  within = i.within;
  alike = λ m n x y t u. ap (take k) (h m x) ∙ i.alike m n x y t u ∙ sym (ap (take k) (h n y));
  most = λ j w a. i.most j w (λ m n x y t u. sym (ap (take j) (h m x)) ∙ a m n x y t u ∙ ap (take j) (h n y));
}

pub gives_as : (live : ℕ) (f g : ℕ → List Bool) (k : ℕ) (old new : List Bool) → ((n : ℕ) → n < 64 → g n ≡ f n) → GivesAway live f k old new → GivesAway live g k old new
gives_as live f g k old new h v n l t = v n l t ∙ ap (λ z. old ++ take k z) (sym (h n l))

-- the bits after more words are those of all words
pub all_traces : (ws ds : List ℕ) (n : ℕ) → all_pushed (trace ws) ds n ≡ trace (ws ++ ds) n
all_traces ws ds n = sym (trace_append ws ds n)
