-- The number of bits given, and at the end, and of their bytes.
use Rattle.std.proofs.Common.{◌≡◌, ℕ, ◌+◌, ◌/◌, ◌<◌, ◌≤◌, Bool, List, [], ◌∷◌, length, drop, take, ◌⊎◌, inl, inr, sym, ap, ◌∙◌, subst, arith, length-append}
use Rattle.std.proofs.lemmas.Bool.{cases_lt}
use Rattle.std.proofs.lemmas.List.{length-drop}
use Rattle.std.proofs.Math.Seq.{take-length}
use Rattle.std.specs.declared.option.Option.{Option}
use Rattle.std.specs.declared.option.Option.TheVariants.{Some}
use Rattle.code_paths.specs.declared.costs.CostPair.{CostPair}
use Rattle.code_paths.specs.Streams.{Part, end_of, IsCut, IsOverdue, bits_of, Given, Ended}
use Rattle.outer_chain.specs.Bits.{bytes_of}

-- each step of an ended part has a bit
cut_long : (most : ℕ) (a : Option (List Bool)) (c : List CostPair) (parts : List Part) (b : Option (List Bool)) (d : List CostPair) → IsCut most a c parts b d → length c ≡ length (bits_of parts) + length d
cut_long most a c [] b d cut = sym (ap length cut.1) ∙ (omega arith)
cut_long most a c (part ∷ parts) b d cut =
    let rest = cut_long most (Some (end_of part)) cut.0 parts b d cut.3 in
    let path = cut.2.least.path.long in
    omega (arith, rest, path, ap length cut.1, length-append part.costs cut.0, length-append (drop 6 part.path) (bits_of parts), length-drop 6 part.path)

-- at the end each step has one
pub ended_long : (most : ℕ) (a : Option (List Bool)) (c : List CostPair) (bits : List Bool) → Ended most a c bits → length bits ≡ length c
ended_long most a c bits e =
    let cut = cut_long most a c e.parts e.start e.costs e.cut in
    omega (arith, cut, e.least.path.long, ap length e.is, length-append (bits_of e.parts) (drop 6 e.path), length-drop 6 e.path)

-- the open part of a stream is not overdue
cut_open : (most : ℕ) (a : Option (List Bool)) (c : List CostPair) (parts : List Part) (b : Option (List Bool)) (d : List CostPair) → IsCut most a c parts b d → IsOverdue most b d → ⊥
cut_open most a c [] b d cut o =
    cut.2 (length c) (omega arith)
    (subst (λ (z : Option (List Bool)). IsOverdue most z (take (length c) c)) cut.0 (subst (IsOverdue most b) (cut.1 ∙ sym (take-length c)) o))
cut_open most a c (part ∷ parts) b d cut o = cut_open most (Some (end_of part)) cut.0 parts b d cut.3 o

-- at most as many steps as the path memory holds have no bit yet
pub given_long : (most : ℕ) (a : Option (List Bool)) (c : List CostPair) (bits : List Bool) → Given most a c bits → length c ≤ length bits + most
given_long most a c bits g = go (cases_lt (most + length g.shared) (length g.costs))
  where
    go : (most + length g.shared < length g.costs) ⊎ (length g.costs ≤ most + length g.shared) → length c ≤ length bits + most
    go (inl l) = absurd (cut_open most a c g.parts g.start g.costs g.cut (record { shared = g.shared; is_shared = g.is_shared; over = l }))
    go (inr l) =
        let cut = cut_long most a c g.parts g.start g.costs g.cut in
        omega (arith, cut, l, ap length g.is, length-append (bits_of g.parts) g.shared)

-- eight bits make a byte
pub length-bytes_of : (bits : List Bool) → length (bytes_of bits) ≡ length bits / 8
unfolding bytes_of
length-bytes_of (a ∷ b ∷ c ∷ d ∷ e ∷ f ∷ g ∷ h ∷ rest) = let r = length-bytes_of rest in omega (arith, r)
length-bytes_of bits = omega arith
