-- Whole bytes of bits, and the bits after them.
use Rattle.std.proofs.Common.{◌≡◌, ℕ, ◌+◌, ◌≤◌, ◌<◌, Bool, List, [], ◌∷◌, ◌++◌, length, refl, ◌∙◌, sym, ap, arith, append_assoc}
use Rattle.std.proofs.lemmas.List.{append-nil}
use Rattle.spec_words.specs.Bits.{spelled}
use Rattle.outer_chain.specs.Bits.{digit, bytes_of, ByteOfBits}
use Rattle.cmd_packets.specs.Inner.{rest_of}

-- the whole bytes of bits and more bits
pub bytes_after : (xs ys : List Bool) → bytes_of (xs ++ ys) ≡ bytes_of xs ++ bytes_of (rest_of xs ++ ys)
unfolding bytes_of rest_of
bytes_after [] ys = refl
bytes_after (a ∷ []) ys = refl
bytes_after (a ∷ b ∷ []) ys = refl
bytes_after (a ∷ b ∷ c ∷ []) ys = refl
bytes_after (a ∷ b ∷ c ∷ d ∷ []) ys = refl
bytes_after (a ∷ b ∷ c ∷ d ∷ e ∷ []) ys = refl
bytes_after (a ∷ b ∷ c ∷ d ∷ e ∷ f ∷ []) ys = refl
bytes_after (a ∷ b ∷ c ∷ d ∷ e ∷ f ∷ g ∷ []) ys = refl
bytes_after (a ∷ b ∷ c ∷ d ∷ e ∷ f ∷ g ∷ h ∷ rest) ys =
    ap (λ (l : List ℕ). (digit a 128 + digit b 64 + digit c 32 + digit d 16 + digit e 8 + digit f 4 + digit g 2 + digit h 1) ∷ l) (bytes_after rest ys)

pub rest_after : (xs ys : List Bool) → rest_of (xs ++ ys) ≡ rest_of (rest_of xs ++ ys)
unfolding rest_of
rest_after [] ys = refl
rest_after (a ∷ []) ys = refl
rest_after (a ∷ b ∷ []) ys = refl
rest_after (a ∷ b ∷ c ∷ []) ys = refl
rest_after (a ∷ b ∷ c ∷ d ∷ []) ys = refl
rest_after (a ∷ b ∷ c ∷ d ∷ e ∷ []) ys = refl
rest_after (a ∷ b ∷ c ∷ d ∷ e ∷ f ∷ []) ys = refl
rest_after (a ∷ b ∷ c ∷ d ∷ e ∷ f ∷ g ∷ []) ys = refl
rest_after (a ∷ b ∷ c ∷ d ∷ e ∷ f ∷ g ∷ h ∷ rest) ys = rest_after rest ys

-- fewer than eight bits hold no byte
pub short : (xs : List Bool) → length xs ≤ 7 → (bytes_of xs ≡ []) × (rest_of xs ≡ xs)
unfolding bytes_of rest_of
short [] few = (refl, refl)
short (a ∷ []) few = (refl, refl)
short (a ∷ b ∷ []) few = (refl, refl)
short (a ∷ b ∷ c ∷ []) few = (refl, refl)
short (a ∷ b ∷ c ∷ d ∷ []) few = (refl, refl)
short (a ∷ b ∷ c ∷ d ∷ e ∷ []) few = (refl, refl)
short (a ∷ b ∷ c ∷ d ∷ e ∷ f ∷ []) few = (refl, refl)
short (a ∷ b ∷ c ∷ d ∷ e ∷ f ∷ g ∷ []) few = (refl, refl)
short (a ∷ b ∷ c ∷ d ∷ e ∷ f ∷ g ∷ h ∷ rest) few = absurd (omega arith)

-- one whole byte moves from the bits to the piece
pub one_gives : ByteOfBits → (piece : List ℕ) (byte : ℕ) (rest bits : List Bool) → byte < 256 → bits ≡ spelled 8 byte ++ rest
    → (piece ++ byte ∷ []) ++ bytes_of rest ≡ piece ++ bytes_of bits
one_gives law piece byte rest bits small is =
    append_assoc piece (byte ∷ []) (bytes_of rest) ∙ ap (λ (l : List ℕ). piece ++ l) (sym (ap bytes_of is ∙ law byte rest small))

pub one_rest : (byte : ℕ) (rest bits : List Bool) → bits ≡ spelled 8 byte ++ rest → rest_of rest ≡ rest_of bits
unfolding rest_of
one_rest byte rest bits is = sym (ap rest_of is)

-- all whole bytes have moved to the piece
pub all_gives : (piece piece' : List ℕ) (bits rest : List Bool) → length rest ≤ 7 → piece' ++ bytes_of rest ≡ piece ++ bytes_of bits → piece' ≡ piece ++ bytes_of bits
all_gives piece piece' bits rest few is = sym (append-nil piece') ∙ ap (λ (l : List ℕ). piece' ++ l) (sym (short rest few).0) ∙ is

pub all_rest : (bits rest : List Bool) → length rest ≤ 7 → rest_of rest ≡ rest_of bits → rest ≡ rest_of bits
all_rest bits rest few is = sym (short rest few).1 ∙ is

-- whole bytes follow the earlier output
pub behind : (before piece more whole whole' : List ℕ) → whole ≡ before ++ piece → whole' ≡ whole ++ more → whole' ≡ before ++ (piece ++ more)
behind before piece more whole whole' is is' = is' ∙ ap (λ (l : List ℕ). l ++ more) is ∙ append_assoc before piece more
