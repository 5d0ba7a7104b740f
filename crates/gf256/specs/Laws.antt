-- The laws of the field. Each is the clause of a public function of module laws.
use Rattle.std.specs.Prelude.{◌≡◌, ◌≢◌, ℕ, ◌+◌, ◌<◌, ◌⊎◌, bit_xor}
use Rattle.gf256.specs.Field.{mul, power}

-- an element is a number below 256
abbrev pub IsElement : ℕ → Type 0
IsElement a = a < 256

-- addition

-- a sum of elements is an element
abbrev pub SumIsElement : Type 0
SumIsElement = (a b : ℕ) → IsElement a → IsElement b → IsElement (bit_xor a b)

-- addition is commutative
abbrev pub SumCommutes : Type 0
SumCommutes = (a b : ℕ) → bit_xor a b ≡ bit_xor b a

-- addition is associative
abbrev pub SumAssociates : Type 0
SumAssociates = (a b c : ℕ) → bit_xor (bit_xor a b) c ≡ bit_xor a (bit_xor b c)

-- adding 0 changes nothing
abbrev pub ZeroAddsNothing : Type 0
ZeroAddsNothing = (a : ℕ) → bit_xor a 0 ≡ a

-- each element is its own opposite
abbrev pub SumWithItself : Type 0
SumWithItself = (a : ℕ) → bit_xor a a ≡ 0

-- multiplication

-- a product of elements is an element
abbrev pub ProductIsElement : Type 0
ProductIsElement = (a b : ℕ) → IsElement a → IsElement b → IsElement (mul a b)

-- multiplication is commutative
abbrev pub ProductCommutes : Type 0
ProductCommutes = (a b : ℕ) → IsElement a → IsElement b → mul a b ≡ mul b a

-- multiplication is associative
abbrev pub ProductAssociates : Type 0
ProductAssociates = (a b c : ℕ) → IsElement a → IsElement b → IsElement c → mul (mul a b) c ≡ mul a (mul b c)

-- multiplying by 1 changes nothing
abbrev pub OneChangesNothing : Type 0
OneChangesNothing = (a : ℕ) → IsElement a → mul 1 a ≡ a

-- multiplying by 0 gives 0
abbrev pub ZeroTakesAll : Type 0
ZeroTakesAll = (a : ℕ) → mul 0 a ≡ 0

-- a product is 0 only if a factor is 0
abbrev pub NoZeroDivisors : Type 0
NoZeroDivisors = (a b : ℕ) → IsElement a → IsElement b → mul a b ≡ 0 → (a ≡ 0) ⊎ (b ≡ 0)

-- multiplication distributes over addition
abbrev pub ProductDistributes : Type 0
ProductDistributes = (a b c : ℕ) → mul (bit_xor a b) c ≡ bit_xor (mul a c) (mul b c)

-- powers

-- every nonzero element is one of the 255 powers of λ
abbrev pub EachIsPower : Type 0
EachIsPower = (a : ℕ) → IsElement a → a ≢ 0 → (i : ℕ) × (i < 255) × (power i ≡ a)

-- the first 255 powers of λ are different
abbrev pub PowersDiffer : Type 0
PowersDiffer = (i j : ℕ) → i < 255 → j < 255 → power i ≡ power j → i ≡ j

-- a product of powers adds the exponents
abbrev pub PowersAdd : Type 0
PowersAdd = (i j : ℕ) → power (i + j) ≡ mul (power i) (power j)

-- power 255 of λ is 1, so the powers repeat
abbrev pub PowersRepeat : Type 0
PowersRepeat = power 255 ≡ 1
