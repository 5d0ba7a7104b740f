-- Each word is recovered or lost, so packets and counts exist.
use Rattle.std.proofs.Common.{◌≡◌, ℕ, zero, suc, ◌<◌, ◌≤◌, List, [], ◌∷◌, take, ◌⊎◌, inl, inr, refl, subst, arith, length-take-le}
use Rattle.std.specs.Prelude.{Option, Some, None}
use Rattle.std.proofs.lemmas.Bool.{cases_lt}
use Rattle.rs204.specs.Codes.{AreBytes, codeword}
use Rattle.rs204.specs.Laws.{MessageHasCodeword, CodewordIsOne}
use Rattle.rs_erasure.specs.Outside.{distance_outside, IsFarOutside}
use Rattle.outer_chain.specs.Words.{word_at, IsNear, packets_to}
use Rattle.code_paths.proofs.Deciding.{Decided}
use Rattle.reception.proofs.Searching.{Bytes, find_bytes, at_most}
use Rattle.reception.proofs.NearWords.{near_of}
use Rattle.bit_margin.specs.Laws.{SomeAreLeast}
use Rattle.bit_margin.specs.Places.{AreLeast}
use Rattle.rescue_words.specs.ByteMargins.{margins_at}
use Rattle.rescue_words.specs.Recovery.{Recovery, IsRecovery}
use Rattle.rescue_words.specs.Recovery.Recovery.{Nearest, Rescued, Lost}
use Rattle.rescue_words.specs.Rescued.{RescueTally, Rescues, codewords, tally_to, known_words}

-- the first bytes of a list of bytes
take_bytes : (n : ℕ) (xs : List ℕ) → AreBytes xs → AreBytes (take n xs)
take_bytes zero xs s = tt
take_bytes (suc n) [] s = tt
take_bytes (suc n) (x ∷ xs) s = (s.0, take_bytes n xs s.1)

module _ (has : MessageHasCodeword) (one : CodewordIsOne) (places : SomeAreLeast) where
  -- a message whose codeword is close outside the erasures
  abbrev Found : List ℕ → List ℕ → Type 0
  Found word erased = Bytes 188 (λ m. distance_outside erased word (codeword m) ≤ 4)

  far : (word erased : List ℕ) → (Found word erased → ⊥) → IsFarOutside word erased
  far word erased none c code = go (cases_lt 4 (distance_outside erased word c))
    where
      go : (4 < distance_outside erased word c) ⊎ (distance_outside erased word c ≤ 4) → 4 < distance_outside erased word c
      go (inl l) = l
      go (inr l) =
          let is : c ≡ codeword (take 188 c) = one (take 188 c) c (record { code = code; begins = refl }) in
          absurd (none (record {
            bytes = take 188 c;
            long = length-take-le 188 c (omega (arith, code.long));
            are = take_bytes 188 c code.bytes;
            holds = subst (λ z. distance_outside erased word z ≤ 4) is l;
          }))

  outside : (word margins : List ℕ) → IsNear word None → (erased : List ℕ) → AreLeast margins 204 erased → Decided (Found word erased) → (r : Recovery) × IsRecovery word margins r
  outside word margins none erased least (inl f) = (
    Rescued (codeword f.bytes),
    (
      none,
      record {
        erased = erased;
        least = least;
        apart = distance_outside erased word (codeword f.bytes);
        outside = record { code = (has f.bytes f.long f.are).code; apart = refl; few = f.holds };
      },
    ),
  )
  outside word margins none erased least (inr n) = (Lost, (none, record { erased = erased; least = least; far = far word erased n }))

  some_recovery : (word margins : List ℕ) → (r : Recovery) × IsRecovery word margins r
  some_recovery word margins = let n = near_of has one word in go n.0 n.1
    where
      go : (near : Option (List ℕ)) → IsNear word near → (r : Recovery) × IsRecovery word margins r
      go (Some c) h = (Nearest c, h)
      go None h =
          let p = places margins 204 (omega arith) in
          outside word margins h p.0 p.1 (find_bytes 188 (λ m. distance_outside p.0 word (codeword m) ≤ 4) (λ m l a. at_most (distance_outside p.0 word (codeword m)) 4))

  recovery_at : List ℕ → List ℕ → ℕ → Recovery
  recovery_at bytes margins n = (some_recovery (word_at bytes n) (margins_at margins n)).0

  is_recovery_at : (bytes margins : List ℕ) (n : ℕ) → IsRecovery (word_at bytes n) (margins_at margins n) (recovery_at bytes margins n)
  unfolding recovery_at
  is_recovery_at bytes margins n = (some_recovery (word_at bytes n) (margins_at margins n)).1

  pub some_rescue : (bytes margins : List ℕ) → (out : List ℕ) × (tally : RescueTally) × Rescues bytes margins out tally
  some_rescue bytes margins =
      let r = recovery_at bytes margins in
      let n = known_words bytes margins in
      (packets_to (codewords r) (word_at bytes) n, tally_to r (word_at bytes) n, record { recovery = r; is_recovery = λ k l. is_recovery_at bytes margins k; packets = refl; counts = refl })
