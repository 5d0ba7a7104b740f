-- Each word has a nearest codeword or none, so packets and a tally exist.
use Rattle.std.proofs.Common.{◌≡◌, ℕ, zero, suc, ◌<◌, ◌≤◌, List, [], ◌∷◌, length, take, ◌⊎◌, inl, inr, refl, sym, subst, arith, length-take-le}
use Rattle.std.specs.Prelude.{Option, Some, None}
use Rattle.std.proofs.lemmas.Bool.{cases_lt}
use Rattle.rs204.specs.Codes.{AreBytes, IsCodeword, codeword, distance}
use Rattle.rs204.specs.Laws.{MessageHasCodeword, CodewordIsOne}
use Rattle.outer_chain.specs.Words.{word_count, word_at, IsNear, packets_to, tally_to, Packets, Tally, Tallies}
use Rattle.code_paths.proofs.Deciding.{Decided, same_list}
use Rattle.reception.proofs.Searching.{Bytes, find_bytes, same_number, at_most, both}

bytes_taken : (n : ℕ) (c : List ℕ) → AreBytes c → AreBytes (take n c)
bytes_taken zero c a = tt
bytes_taken (suc n) [] a = tt
bytes_taken (suc n) (b ∷ c) a = (a.0, bytes_taken n c a.1)

module _ (has : MessageHasCodeword) (one : CodewordIsOne) where
  -- a codeword is the codeword of its message
  is_code : (c : List ℕ) → length c ≡ 204 → AreBytes c → Decided (IsCodeword c)
  is_code c l a = go (same_list same_number c (codeword (take 188 c)))
    where
      go : Decided (c ≡ codeword (take 188 c)) → Decided (IsCodeword c)
      go (inl e) = inl (subst IsCodeword (sym e) (has (take 188 c) (length-take-le 188 c (omega (arith, l))) (bytes_taken 188 c a)).code)
      go (inr n) = inr (λ k. n (one (take 188 c) c (record { code = k; begins = refl })))

  pub near_of : (word : List ℕ) → (near : Option (List ℕ)) × IsNear word near
  near_of word = go (find_bytes 204 (λ c. IsCodeword c × (distance word c ≤ 8)) (λ c l a. both (is_code c l a) (at_most (distance word c) 8)))
    where
      far : (Bytes 204 (λ c. IsCodeword c × (distance word c ≤ 8)) → ⊥) → (c : List ℕ) → IsCodeword c → (8 < distance word c) ⊎ (distance word c ≤ 8) → 8 < distance word c
      far n c k (inl l) = l
      far n c k (inr l) = absurd (n (record { bytes = c; long = k.long; are = k.bytes; holds = (k, l) }))

      go : Decided (Bytes 204 (λ c. IsCodeword c × (distance word c ≤ 8))) → (near : Option (List ℕ)) × IsNear word near
      go (inl f) = (Some f.bytes, f.holds)
      go (inr n) = (None, λ c k. far n c k (cases_lt 8 (distance word c)))

  -- the nearest codeword of each word of these bytes
  near_at : List ℕ → ℕ → Option (List ℕ)
  near_at bytes n = (near_of (word_at bytes n)).0

  is_near_at : (bytes : List ℕ) (n : ℕ) → IsNear (word_at bytes n) (near_at bytes n)
  unfolding near_at
  is_near_at bytes n = (near_of (word_at bytes n)).1

  pub some_packets : (bytes : List ℕ) → (out : List ℕ) × Packets bytes out
  some_packets bytes = (packets_to (near_at bytes) (word_at bytes) (word_count bytes), record { near = near_at bytes; is_near = λ n l. is_near_at bytes n; is = refl })

  pub some_tally : (bytes : List ℕ) → (tally : Tally) × Tallies bytes tally
  some_tally bytes = (tally_to (near_at bytes) (word_at bytes) (word_count bytes), record { near = near_at bytes; is_near = λ n l. is_near_at bytes n; is = refl })
