-- The number of accepted packets of an input, and the refusal of the next one.
use Rattle.std.proofs.Common.{◌≡◌, ℕ, ◌<◌, ◌≤◌, Bool, true, false, not, List, refl, ◌∙◌, ap, arith, None, Some, inl, inr, ◌⊎◌}
use Rattle.std.specs.Prelude.{◌&&◌, nat_lt, ◌==◌, if◌then◌else◌}
use Rattle.std.proofs.lemmas.Bool.{lt-ltb, le-ltb, eq-eqb, eqb-true}
use Rattle.spec_words.proofs.Counting.{first_is, first_from}
use Rattle.mode_set.specs.declared.modes.Stream.TheVariants.{Hp}
use Rattle.cmd_base.specs.declared.refusal.Refusal.TheVariants.{NotSync, Limit}
use Rattle.cmd_base.specs.Packets.{whole_packets, is_sync, is_accepted, accepted, AcceptsFirst, packet_refusal}

-- all of the first n are accepted and the next is not, or there is none
pub accepted_is : (limit : ℕ) (input : List ℕ) (n : ℕ) → n ≤ whole_packets input → AcceptsFirst limit input n
    → (n < whole_packets input → is_accepted limit input n ≡ false) → accepted limit input ≡ n
unfolding accepted
accepted_is limit input n within all next =
    first_is (whole_packets input) n (λ i. not (is_accepted limit input i)) within (λ k l. ap not (all k l)) (λ l. ap not (next l))

-- at least the first n are accepted
pub accepted_from : (limit : ℕ) (input : List ℕ) (n : ℕ) → n ≤ whole_packets input → AcceptsFirst limit input n → n ≤ accepted limit input
unfolding accepted
accepted_from limit input n within all = first_from (whole_packets input) n (λ i. not (is_accepted limit input i)) within (λ k l. ap not (all k l))

pub same_number : (n : ℕ) → (n == n) ≡ true
same_number n = eq-eqb n n refl

pub other_number : (m n : ℕ) → m < n → (m == n) ≡ false
other_number m n lt = go (m == n) refl
  where
    go : (b : Bool) → (m == n) ≡ b → b ≡ false
    go true e = let same : m ≡ n = eqb-true m n e in absurd (omega arith)
    go false e = refl

not_below : (m n : ℕ) → n ≤ m → nat_lt m n ≡ false
not_below m n ge = le-ltb m n ge

refused_at : (limit : ℕ) (input : List ℕ) (n : ℕ) (b : Bool) → accepted limit input ≡ n → n < whole_packets input → nat_lt n limit ≡ b
    → packet_refusal limit input ≡ (if b then Some (NotSync Hp n) else Some (Limit limit))
refused_at limit input n b is within lt =
    ap (λ (m : ℕ). if m == whole_packets input then None else if nat_lt m limit then Some (NotSync Hp m) else Some (Limit limit)) is
    ∙ ap (λ (x : Bool). if x then None else if nat_lt n limit then Some (NotSync Hp n) else Some (Limit limit)) (other_number n (whole_packets input) within)
    ∙ ap (λ (x : Bool). if x then Some (NotSync Hp n) else Some (Limit limit)) lt

pub all_accepted : (limit : ℕ) (input : List ℕ) → AcceptsFirst limit input (whole_packets input) → accepted limit input ≡ whole_packets input
all_accepted limit input all = accepted_is limit input (whole_packets input) (omega arith) all (λ l. absurd (omega arith))

pub no_refusal : (limit : ℕ) (input : List ℕ) → AcceptsFirst limit input (whole_packets input) → packet_refusal limit input ≡ None
no_refusal limit input all =
    let n = whole_packets input in
    ap (λ (m : ℕ). if m == n then None else if nat_lt m limit then Some (NotSync Hp m) else Some (Limit limit)) (all_accepted limit input all)
    ∙ ap (λ (x : Bool). if x then None else if nat_lt n limit then Some (NotSync Hp n) else Some (Limit limit)) (same_number n)

not_accepted : (limit n : ℕ) (input : List ℕ) → (nat_lt n limit ≡ false) ⊎ (is_sync input n ≡ false) → is_accepted limit input n ≡ false
not_accepted limit n input (inl e) = ap (λ (b : Bool). b && is_sync input n) e
not_accepted limit n input (inr e) = go (nat_lt n limit) (is_sync input n) e
  where
    go : (a b : Bool) → b ≡ false → (a && b) ≡ false
    go true b e = e
    go false b e = refl

pub not_sync_at : (limit : ℕ) (input : List ℕ) (n : ℕ) → AcceptsFirst limit input n → n < whole_packets input → is_sync input n ≡ false → accepted limit input ≡ n
not_sync_at limit input n all within sync = accepted_is limit input n (omega arith) all (λ l. not_accepted limit n input (inr sync))

pub not_sync : (limit : ℕ) (input : List ℕ) (n : ℕ) → AcceptsFirst limit input n → n < whole_packets input → n < limit → is_sync input n ≡ false → packet_refusal limit input ≡ Some (NotSync Hp n)
not_sync limit input n all within lt sync = refused_at limit input n true (not_sync_at limit input n all within sync) within (lt-ltb n limit lt)

pub past_limit_at : (limit : ℕ) (input : List ℕ) → AcceptsFirst limit input limit → limit < whole_packets input → accepted limit input ≡ limit
past_limit_at limit input all within = accepted_is limit input limit (omega arith) all (λ l. not_accepted limit limit input (inl (not_below limit limit (omega arith))))

pub past_limit : (limit : ℕ) (input : List ℕ) → AcceptsFirst limit input limit → limit < whole_packets input → packet_refusal limit input ≡ Some (Limit limit)
past_limit limit input all within = refused_at limit input limit false (past_limit_at limit input all within) within (not_below limit limit (omega arith))
