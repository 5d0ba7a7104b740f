-- The kinds of the carriers by their positions in a period of 1704 carriers.
use Rattle.std.proofs.Common.{◌≡◌, ℕ, zero, suc, ◌+◌, ◌*◌, ◌/◌, ◌%◌, ◌<◌, ◌≤◌, List, [], ◌∷◌, length, refl, sym, ap, ◌∙◌, subst, arith, Bool, true, false, not, cond, ◌||◌, filter, count_by, get_or}
use Rattle.std.specs.Prelude.{◌==◌, if◌then◌else◌, slice_index}
use Rattle.std.specs.Bool.{beq}
use Rattle.std.proofs.lemmas.Bool.{eqb-true, eq-eqb}
use Rattle.std.proofs.lemmas.List.Sums.{length-filter}
use Rattle.spec_words.specs.Words.{numbers}
use Rattle.mode_set.specs.StreamTable.{carriers, payload}
use Rattle.mode_set.specs.declared.modes.Mode.{Mode}
use Rattle.mode_set.specs.declared.modes.Mode.TheVariants.{M2k, M8k}
use Rattle.pilots.specs.declared.carrier_kind.CarrierKind.{CarrierKind}
use Rattle.pilots.specs.declared.carrier_kind.CarrierKind.TheVariants.{Continual, Scattered, Tps, Payload}
use Rattle.pilots.specs.Carriers.{is_continual, is_tps, is_scattered, is_payload, kind, payload_carriers, AreNumbered}
use Rattle.pilots.specs.Tables.{in_set, continual_set, tps_set, payload_places, is_free}
use Rattle.pilots.proofs.Ranges.{all_pass-at, same_below, one_period, none_below, less_below, at_count, at_number}
use Rattle.pilots.proofs.Checked.{same_continual, same_tps, walked}
use Rattle.pilots.proofs.Walks.{below, rank_is, count_of_walk, list_is}

pub same_bools : (a b : Bool) → beq a b ≡ true → a ≡ b
same_bools true true e = refl
same_bools true false e = cc
same_bools false true e = cc
same_bools false false e = refl

pub continual_is : (m : Mode) (k : ℕ) → k < carriers m → is_continual m k ≡ in_set continual_set (k % 1704)
continual_is m k l =
    let same : is_continual m (0 + k) ≡ in_set continual_set ((0 + k) % 1704) = same_bools _ _ (all_pass-at (λ z. beq (is_continual m z) (in_set continual_set (z % 1704))) 0 (carriers m) k (same_continual m) l) in
    let here : 0 + k ≡ k = omega arith in
    subst (λ (z : ℕ). is_continual m z ≡ in_set continual_set (z % 1704)) here same

pub tps_is : (m : Mode) (k : ℕ) → k < carriers m → is_tps m k ≡ in_set tps_set (k % 1704)
tps_is m k l =
    let same : is_tps m (0 + k) ≡ in_set tps_set ((0 + k) % 1704) = same_bools _ _ (all_pass-at (λ z. beq (is_tps m z) (in_set tps_set (z % 1704))) 0 (carriers m) k (same_tps m) l) in
    let here : 0 + k ≡ k = omega arith in
    subst (λ (z : ℕ). is_tps m z ≡ in_set tps_set (z % 1704)) here same

pub scattered_is : (l k : ℕ) → is_scattered l k ≡ (k % 1704 % 12 == 3 * (l % 4))
unfolding is_scattered
scattered_is l k = let same : k % 12 ≡ k % 1704 % 12 = omega arith in ap (λ (z : ℕ). z == 3 * (l % 4)) same

pub payload_is : (m : Mode) (l k : ℕ) → k < carriers m → is_payload m l k ≡ is_free (l % 4) (k % 1704)
unfolding is_payload is_free
payload_is m l k lt = rw (continual_is m k lt, tps_is m k lt, scattered_is l k)

module _ (symbol : ℕ) (few : symbol < 4) where
  -- by the position in the period only
  abbrev free_at : ℕ → Bool
  free_at k = is_free symbol (k % 1704)

  again : (k : ℕ) → free_at (1704 + k) ≡ free_at k
  again k = let same : (1704 + k) % 1704 ≡ k % 1704 = omega arith in ap (is_free symbol) same

  within_one : (r : ℕ) → r ≤ 1704 → count_by free_at (numbers r) ≡ count_by (is_free symbol) (numbers r)
  within_one r l = same_below free_at (is_free symbol) r (λ i less. let same : i % 1704 ≡ i = omega arith in ap (is_free symbol) same)

  in_one : count_by (is_free symbol) (numbers 1704) ≡ 1512
  in_one = count_of_walk symbol 1704 (payload_places symbol) (walked symbol few)

  in_many : (b r : ℕ) → count_by free_at (numbers (1704 * b + r)) ≡ 1512 * b + count_by free_at (numbers r)
  in_many zero r = let none : 1704 * 0 + r ≡ r = omega arith in ap (λ (z : ℕ). count_by free_at (numbers z)) none ∙ omega arith
  in_many (suc b) r =
      let split : 1704 * suc b + r ≡ 1704 + (1704 * b + r) = omega arith in
      let parts : count_by free_at (numbers (1704 * suc b + r)) ≡ count_by free_at (numbers 1704) + count_by free_at (numbers (1704 * b + r)) =
      ap (λ (z : ℕ). count_by free_at (numbers z)) split ∙ one_period free_at 1704 (1704 * b + r) again in
      let one : count_by free_at (numbers 1704) ≡ 1512 = within_one 1704 (omega arith) ∙ in_one in
      omega (arith, parts, one, in_many b r)

  -- by the tables
  below_is : (r : ℕ) → r < 1704 → below symbol r ≡ count_by (is_free symbol) (numbers r)
  below_is r l = rank_is symbol 1704 (payload_places symbol) (walked symbol few) r l

  counts : (k : ℕ) → count_by free_at (numbers k) ≡ k / 1704 * 1512 + below symbol (k % 1704)
  counts k =
      let split : k ≡ 1704 * (k / 1704) + k % 1704 = omega arith in
      ap (λ (z : ℕ). count_by free_at (numbers z)) split ∙ in_many (k / 1704) (k % 1704)
      ∙ omega (arith, within_one (k % 1704) (omega arith), below_is (k % 1704) (omega arith))

below_symbol : (l : ℕ) → l % 4 < 4
below_symbol l = omega arith

-- the payload carriers below a carrier
pub count_is : (m : Mode) (l k : ℕ) → k ≤ carriers m → count_by (is_payload m l) (numbers k) ≡ k / 1704 * 1512 + below (l % 4) (k % 1704)
count_is m l k le =
    same_below (is_payload m l) (λ z. is_free (l % 4) (z % 1704)) k (λ i less. payload_is m l i (omega (arith, less, le)))
    ∙ counts (l % 4) (below_symbol l) k

-- carrier 0 is a pilot
taken : (symbol : ℕ) → is_free symbol 0 ≡ false
unfolding is_free in_set continual_set
taken symbol = refl

at_1 : (symbol : ℕ) → symbol < 4 → below symbol 1 ≡ 0
at_1 symbol few = below_is symbol few 1 (omega arith) ∙ none_below (is_free symbol) (taken symbol)

-- each symbol has exactly as many payload carriers as the mode says
pub many : (m : Mode) (l : ℕ) → length (payload_carriers m l) ≡ payload m
unfolding payload_carriers
many M2k l = length-filter (is_payload M2k l) (numbers 1705) ∙ count_is M2k l 1705 (omega arith) ∙ omega (arith, at_1 (l % 4) (below_symbol l))
many M8k l = length-filter (is_payload M8k l) (numbers 6817) ∙ count_is M8k l 6817 (omega arith) ∙ omega (arith, at_1 (l % 4) (below_symbol l))

total : (m : Mode) (l : ℕ) → count_by (is_payload m l) (numbers (carriers m)) ≡ payload m
unfolding payload_carriers
total m l = sym (length-filter (is_payload m l) (numbers (carriers m))) ∙ many m l

-- the choice of a kind
abbrev pub chosen : Bool → Bool → Bool → ℕ → CarrierKind
chosen a b t c = if a then Continual else if b then Scattered else if t then Tps else Payload c

chosen_payload : (a b t : Bool) (c q : ℕ) → chosen a b t c ≡ Payload q → (not (a || b || t) ≡ true) × (c ≡ q)
chosen_payload true b t c q e = cc
chosen_payload false true t c q e = cc
chosen_payload false false true c q e = cc
chosen_payload false false false c q e = (refl, cc)

payload_chosen : (a b t : Bool) (c : ℕ) → not (a || b || t) ≡ true → chosen a b t c ≡ Payload c
payload_chosen true true true c e = cc
payload_chosen true true false c e = cc
payload_chosen true false true c e = cc
payload_chosen true false false c e = cc
payload_chosen false true true c e = cc
payload_chosen false true false c e = cc
payload_chosen false false true c e = cc
payload_chosen false false false c e = refl

pub payload_of_kind : (m : Mode) (l k q : ℕ) → kind m l k ≡ Payload q → (is_payload m l k ≡ true) × (count_by (is_payload m l) (numbers k) ≡ q)
unfolding kind is_payload
payload_of_kind m l k q e = chosen_payload (is_continual m k) (is_scattered l k) (is_tps m k) _ q e

pub kind_of_payload : (m : Mode) (l k : ℕ) → is_payload m l k ≡ true → kind m l k ≡ Payload (count_by (is_payload m l) (numbers k))
unfolding kind is_payload
kind_of_payload m l k e = payload_chosen (is_continual m k) (is_scattered l k) (is_tps m k) _ e

-- kinds by the tables
pub kind_is : (m : Mode) (l k : ℕ) → k < carriers m → kind m l k ≡ chosen (in_set continual_set (k % 1704)) (k % 1704 % 12 == 3 * (l % 4)) (in_set tps_set (k % 1704)) (k / 1704 * 1512 + below (l % 4) (k % 1704))
unfolding kind
kind_is m l k lt = rw (continual_is m k lt, tps_is m k lt, scattered_is l k, count_is m l k (omega (arith, lt)))

-- each kind from the tables
differs : (a b : ℕ) → (a ≡ b → ⊥) → (a == b) ≡ false
differs a b ne = from (a == b) refl
  where
    from : (c : Bool) → (a == b) ≡ c → c ≡ false
    from true e = absurd (ne (eqb-true a b e))
    from false e = refl

pub as_continual : (m : Mode) (l k : ℕ) → k < carriers m → in_set continual_set (k % 1704) ≡ true → Continual ≡ kind m l k
as_continual m l k lt e = sym (kind_is m l k lt ∙ ap (λ (b : Bool). chosen b (k % 1704 % 12 == 3 * (l % 4)) (in_set tps_set (k % 1704)) (k / 1704 * 1512 + below (l % 4) (k % 1704))) e)

pub as_scattered : (m : Mode) (l k : ℕ) → k < carriers m → in_set continual_set (k % 1704) ≡ false → k % 1704 % 12 ≡ 3 * (l % 4) → Scattered ≡ kind m l k
as_scattered m l k lt e f =
    let yes_it_is : (k % 1704 % 12 == 3 * (l % 4)) ≡ true = eq-eqb _ _ f in
    sym (kind_is m l k lt ∙ ap (λ (b : Bool). chosen b (k % 1704 % 12 == 3 * (l % 4)) (in_set tps_set (k % 1704)) (k / 1704 * 1512 + below (l % 4) (k % 1704))) e
    ∙ ap (λ (b : Bool). chosen false b (in_set tps_set (k % 1704)) (k / 1704 * 1512 + below (l % 4) (k % 1704))) yes_it_is)

neither : (m : Mode) (l k : ℕ) → k < carriers m → in_set continual_set (k % 1704) ≡ false → (k % 1704 % 12 ≡ 3 * (l % 4) → ⊥) → (t : Bool) → in_set tps_set (k % 1704) ≡ t → kind m l k ≡ chosen false false t (k / 1704 * 1512 + below (l % 4) (k % 1704))
neither m l k lt e f t g =
    kind_is m l k lt ∙ ap (λ (b : Bool). chosen b (k % 1704 % 12 == 3 * (l % 4)) (in_set tps_set (k % 1704)) (k / 1704 * 1512 + below (l % 4) (k % 1704))) e
    ∙ ap (λ (b : Bool). chosen false b (in_set tps_set (k % 1704)) (k / 1704 * 1512 + below (l % 4) (k % 1704))) (differs _ _ f)
    ∙ ap (λ (b : Bool). chosen false false b (k / 1704 * 1512 + below (l % 4) (k % 1704))) g

pub as_tps : (m : Mode) (l k : ℕ) → k < carriers m → in_set continual_set (k % 1704) ≡ false → (k % 1704 % 12 ≡ 3 * (l % 4) → ⊥) → in_set tps_set (k % 1704) ≡ true → Tps ≡ kind m l k
as_tps m l k lt e f g = sym (neither m l k lt e f true g)

pub as_payload : (m : Mode) (l k : ℕ) → k < carriers m → in_set continual_set (k % 1704) ≡ false → (k % 1704 % 12 ≡ 3 * (l % 4) → ⊥) → in_set tps_set (k % 1704) ≡ false → Payload (k / 1704 * 1512 + below (l % 4) (k % 1704)) ≡ kind m l k
as_payload m l k lt e f g = sym (neither m l k lt e f false g)

pub few : (m : Mode) (l k q : ℕ) → k < carriers m → kind m l k ≡ Payload q → q < payload m
few m l k q lt e = let h = payload_of_kind m l k q e in omega (arith, less_below (is_payload m l) (carriers m) k lt h.0, h.1, total m l)

pub are_numbered : (m : Mode) (l : ℕ) → AreNumbered m l
unfolding payload_carriers
are_numbered m l k q lt = (forth, back)
  where
    forth : kind m l k ≡ Payload q → (q < payload m) × (slice_index (payload_carriers m l) q ≡ k)
    forth e =
        let h = payload_of_kind m l k q e in
        let at : slice_index (payload_carriers m l) (count_by (is_payload m l) (numbers k)) ≡ k = at_count (is_payload m l) (carriers m) k lt h.0 in
        (few m l k q lt e, ap (slice_index (payload_carriers m l)) (sym h.1) ∙ at)

    back : (q < payload m) × (slice_index (payload_carriers m l) q ≡ k) → kind m l k ≡ Payload q
    back h =
        let found = at_number (is_payload m l) (carriers m) q (omega (arith, h.0, many m l)) in
        let same : found.0 ≡ k = sym found.1.at ∙ h.1 in
        subst (λ (z : ℕ). kind m l z ≡ Payload q) same (kind_of_payload m l found.0 found.1.passes ∙ ap Payload found.1.count)

in_mode : (m : Mode) (b t q : ℕ) {k : ℕ} → b ≡ q / 1512 → t < 1704 → q < payload m → k ≡ 1704 * b + t → k < carriers m
in_mode M2k b t q e small lt is = omega (arith, e, small, lt, is)
in_mode M8k b t q e small lt is = omega (arith, e, small, lt, is)

-- the carrier in the table
pub named : (m : Mode) (l q : ℕ) → q < payload m → let k = 1704 * (q / 1512) + slice_index (payload_places (l % 4)) (q % 1512) in (k < carriers m) × (kind m l k ≡ Payload q)
named m l q lt =
    let symbol = l % 4 in
    let list : payload_places symbol ≡ filter (is_free symbol) (numbers 1704) = list_is symbol 1704 (payload_places symbol) (walked symbol (below_symbol l)) in
    let size : length (filter (is_free symbol) (numbers 1704)) ≡ 1512 = length-filter (is_free symbol) (numbers 1704) ∙ in_one symbol (below_symbol l) in
    let found = at_number (is_free symbol) 1704 (q % 1512) (omega (arith, size)) in
    let t : ℕ = found.0 in
    let read : slice_index (payload_places symbol) (q % 1512) ≡ t = ap (λ (zs : List ℕ). get_or zs (q % 1512) 0) list ∙ found.1.at in
    let small : t < 1704 = found.1.within in
    let k : ℕ = 1704 * (q / 1512) + slice_index (payload_places symbol) (q % 1512) in
    let place : k % 1704 ≡ t = omega (arith, read, small) in
    let block : k / 1704 ≡ q / 1512 = omega (arith, read, small) in
    let within : k < carriers m = in_mode m (q / 1512) t q (omega arith) small lt (omega (arith, read)) in
    let passes : is_payload m l k ≡ true = payload_is m l k within ∙ ap (is_free symbol) place ∙ found.1.passes in
    let count : count_by (is_payload m l) (numbers k) ≡ q = count_is m l k (omega (arith, within)) ∙ ap (λ (z : ℕ). k / 1704 * 1512 + below symbol z) place ∙ omega (arith, block, below_is symbol (below_symbol l) t small, found.1.count) in
    (within, kind_of_payload m l k passes ∙ ap Payload count)

-- kinds repeat after four symbols
same_scattered : (l k : ℕ) → is_scattered l k ≡ is_scattered (l % 4) k
unfolding is_scattered
same_scattered l k = let same : l % 4 ≡ l % 4 % 4 = omega arith in ap (λ (z : ℕ). k % 12 == 3 * z) same

same_payload : (m : Mode) (l k : ℕ) → is_payload m l k ≡ is_payload m (l % 4) k
unfolding is_payload
same_payload m l k = ap (λ (b : Bool). not (is_continual m k || b || is_tps m k)) (same_scattered l k)

pub same_kind : (m : Mode) (l k : ℕ) → kind m l k ≡ kind m (l % 4) k
unfolding kind
same_kind m l k =
    ap (λ (b : Bool). chosen (is_continual m k) b (is_tps m k) (count_by (is_payload m l) (numbers k))) (same_scattered l k)
    ∙ ap (λ (c : ℕ). chosen (is_continual m k) (is_scattered (l % 4) k) (is_tps m k) c) (same_below (is_payload m l) (is_payload m (l % 4)) k (λ i less. same_payload m l i))

same_filter : (p q : ℕ → Bool) → ((k : ℕ) → p k ≡ q k) → (xs : List ℕ) → filter p xs ≡ filter q xs
same_filter p q same [] = refl
same_filter p q same (x ∷ xs) = ap (λ (b : Bool). cond b (x ∷ filter p xs) (filter p xs)) (same x) ∙ ap (λ (ys : List ℕ). cond (q x) (x ∷ ys) ys) (same_filter p q same xs)

pub same_carriers : (m : Mode) (l : ℕ) → payload_carriers m l ≡ payload_carriers m (l % 4)
unfolding payload_carriers
same_carriers m l = same_filter (is_payload m l) (is_payload m (l % 4)) (same_payload m l) (numbers (carriers m))
