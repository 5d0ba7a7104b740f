-- If one more packet only adds output, the output of fewer packets is a prefix of that of more.
use Rattle.std.proofs.Common.{◌≡◌, ℕ, zero, suc, ◌≤◌, List, [], ◌∷◌, ◌++◌, length, take, inl, inr, ◌∙◌, sym, ap, arith, append_assoc}
use Rattle.std.specs.Prelude.{min}
use Rattle.std.proofs.lemmas.List.{append-nil}
use Rattle.std.proofs.lemmas.Bool.{cases_lt}
use Rattle.cmd_base.specs.Packets.{file_packet, first_packets}

-- one more packet only adds output
abbrev pub Grows : (List (List ℕ) → List ℕ) → Type 0
Grows coded = (packets : List (List ℕ)) (p : List ℕ) → (rest : List ℕ) × (coded (packets ++ p ∷ []) ≡ coded packets ++ rest)

-- and so does the end
abbrev pub Ends : (List (List ℕ) → List ℕ) → (List (List ℕ) → List ℕ) → Type 0
Ends coded ended = (packets : List (List ℕ)) → (rest : List ℕ) × (ended packets ≡ coded packets ++ rest)

-- a prefix of a list is a prefix of a longer one
pub front_of : (few rest : List ℕ) (k : ℕ) → (j : ℕ) × (take k few ≡ take j (few ++ rest))
front_of few rest k = (min k (length few), front few rest k)
  where
    front : (few rest : List ℕ) (k : ℕ) → take k few ≡ take (min k (length few)) (few ++ rest)
    front [] rest zero = ap (λ (n : ℕ). take n rest) (let e : 0 ≡ min 0 0 = omega arith in e)
    front [] rest (suc k) = ap (λ (n : ℕ). take n rest) (let e : 0 ≡ min (suc k) 0 = omega arith in e)
    front (x ∷ few) rest zero = ap (λ (n : ℕ). take n (x ∷ (few ++ rest))) (let e : 0 ≡ min 0 (suc (length few)) = omega arith in e)
    front (x ∷ few) rest (suc k) = ap (λ (l : List ℕ). x ∷ l) (front few rest k) ∙ ap (λ (n : ℕ). take n (x ∷ (few ++ rest))) (let e : suc (min k (length few)) ≡ min (suc k) (suc (length few)) = omega arith in e)

module _ (coded : List (List ℕ) → List ℕ) (grows : Grows coded) where
  one_more : (m : ℕ) (input : List ℕ) → (rest : List ℕ) × (coded (first_packets (suc m) input) ≡ coded (first_packets m input) ++ rest)
  unfolding first_packets
  one_more m input = grows (first_packets m input) (file_packet input m)

  longer : (m n : ℕ) (input : List ℕ) → n ≤ m → (rest : List ℕ) × (coded (first_packets m input) ≡ coded (first_packets n input) ++ rest)
  longer zero n input le = ([], ap (λ (k : ℕ). coded (first_packets k input)) (let e : zero ≡ n = omega arith in e) ∙ sym (append-nil (coded (first_packets n input))))
  longer (suc m) n input le = elim (cases_lt m n) [
    | inl lt ↦ ([], ap (λ (k : ℕ). coded (first_packets k input)) (let e : suc m ≡ n = omega arith in e) ∙ sym (append-nil (coded (first_packets n input))))
    | inr ge ↦
        let before = longer m n input ge in
        let more = one_more m input in (
          before.0 ++ more.0,
          more.1 ∙ ap (λ (l : List ℕ). l ++ more.0) before.1 ∙ append_assoc (coded (first_packets n input)) before.0 more.0,
        )
  ]

  -- so a prefix of the one is a prefix of the other
  pub fronts : (input : List ℕ) (n m : ℕ) → n ≤ m → (k : ℕ) → (j : ℕ) × (take k (coded (first_packets n input)) ≡ take j (coded (first_packets m input)))
  fronts input n m le k =
      let more = longer m n input le in
      let front = front_of (coded (first_packets n input)) more.0 k in
      (front.0, front.1 ∙ ap (take front.0) (sym more.1))
