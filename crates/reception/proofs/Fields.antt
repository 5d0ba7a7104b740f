-- A search through the fields of a TPS word.
use Rattle.std.proofs.Common.{ℕ, ◌<◌, Bool, true, false, List, [], ◌∷◌, ◌⊎◌, inl, inr}
use Rattle.std.specs.List.{AllByRecursion}
use Rattle.mode_set.specs.declared.modes.Mode.{Mode}
use Rattle.mode_set.specs.declared.modes.Mode.TheVariants.{M2k, M8k}
use Rattle.mode_set.specs.declared.modes.Shape.{Shape}
use Rattle.mode_set.specs.declared.modes.Shape.TheVariants.{Qpsk, Qam16, Qam64}
use Rattle.mode_set.specs.declared.modes.Hierarchy.{Hierarchy}
use Rattle.mode_set.specs.declared.modes.Hierarchy.TheVariants.{Flat, Alpha1, Alpha2, Alpha4}
use Rattle.mode_set.specs.declared.modes.Rate.{Rate}
use Rattle.mode_set.specs.declared.modes.Rate.TheVariants.{R1of2, R2of3, R3of4, R5of6, R7of8}
use Rattle.mode_set.specs.declared.modes.Guard.{Guard}
use Rattle.mode_set.specs.declared.modes.Guard.TheVariants.{G1of32, G1of16, G1of8, G1of4}
use Rattle.tps_word.specs.declared.word.TpsWord.{TpsWord}
use Rattle.code_paths.proofs.Deciding.{Decided}
use Rattle.reception.proofs.Searching.{Below, find_below, find_in}

-- what holds of no element of a list with every value holds of none
listed : {A : Type 0} (P : A → Type 0) (xs : List A) → (AllByRecursion (λ x. P x → ⊥) xs → (x : A) → P x → ⊥) → ((x : A) × P x) ⊎ AllByRecursion (λ x. P x → ⊥) xs → Decided ((x : A) × P x)
listed P xs all (inl f) = inl f
listed P xs all (inr none) = inr (λ f. all none f.0 f.1)

find_bit : (P : Bool → Type 0) → ((x : Bool) → Decided (P x)) → Decided ((x : Bool) × P x)
find_bit P d = listed P (true ∷ false ∷ []) all (find_in P d (true ∷ false ∷ []))
  where
    all : AllByRecursion (λ x. P x → ⊥) (true ∷ false ∷ []) → (x : Bool) → P x → ⊥
    all n true p = n.0 p
    all n false p = n.1.0 p

find_mode : (P : Mode → Type 0) → ((x : Mode) → Decided (P x)) → Decided ((x : Mode) × P x)
find_mode P d = listed P (M2k ∷ M8k ∷ []) all (find_in P d (M2k ∷ M8k ∷ []))
  where
    all : AllByRecursion (λ x. P x → ⊥) (M2k ∷ M8k ∷ []) → (x : Mode) → P x → ⊥
    all n M2k p = n.0 p
    all n M8k p = n.1.0 p

find_shape : (P : Shape → Type 0) → ((x : Shape) → Decided (P x)) → Decided ((x : Shape) × P x)
find_shape P d = listed P (Qpsk ∷ Qam16 ∷ Qam64 ∷ []) all (find_in P d (Qpsk ∷ Qam16 ∷ Qam64 ∷ []))
  where
    all : AllByRecursion (λ x. P x → ⊥) (Qpsk ∷ Qam16 ∷ Qam64 ∷ []) → (x : Shape) → P x → ⊥
    all n Qpsk p = n.0 p
    all n Qam16 p = n.1.0 p
    all n Qam64 p = n.1.1.0 p

find_hierarchy : (P : Hierarchy → Type 0) → ((x : Hierarchy) → Decided (P x)) → Decided ((x : Hierarchy) × P x)
find_hierarchy P d = listed P (Flat ∷ Alpha1 ∷ Alpha2 ∷ Alpha4 ∷ []) all (find_in P d (Flat ∷ Alpha1 ∷ Alpha2 ∷ Alpha4 ∷ []))
  where
    all : AllByRecursion (λ x. P x → ⊥) (Flat ∷ Alpha1 ∷ Alpha2 ∷ Alpha4 ∷ []) → (x : Hierarchy) → P x → ⊥
    all n Flat p = n.0 p
    all n Alpha1 p = n.1.0 p
    all n Alpha2 p = n.1.1.0 p
    all n Alpha4 p = n.1.1.1.0 p

find_rate : (P : Rate → Type 0) → ((x : Rate) → Decided (P x)) → Decided ((x : Rate) × P x)
find_rate P d = listed P (R1of2 ∷ R2of3 ∷ R3of4 ∷ R5of6 ∷ R7of8 ∷ []) all (find_in P d (R1of2 ∷ R2of3 ∷ R3of4 ∷ R5of6 ∷ R7of8 ∷ []))
  where
    all : AllByRecursion (λ x. P x → ⊥) (R1of2 ∷ R2of3 ∷ R3of4 ∷ R5of6 ∷ R7of8 ∷ []) → (x : Rate) → P x → ⊥
    all n R1of2 p = n.0 p
    all n R2of3 p = n.1.0 p
    all n R3of4 p = n.1.1.0 p
    all n R5of6 p = n.1.1.1.0 p
    all n R7of8 p = n.1.1.1.1.0 p

find_guard : (P : Guard → Type 0) → ((x : Guard) → Decided (P x)) → Decided ((x : Guard) × P x)
find_guard P d = listed P (G1of32 ∷ G1of16 ∷ G1of8 ∷ G1of4 ∷ []) all (find_in P d (G1of32 ∷ G1of16 ∷ G1of8 ∷ G1of4 ∷ []))
  where
    all : AllByRecursion (λ x. P x → ⊥) (G1of32 ∷ G1of16 ∷ G1of8 ∷ G1of4 ∷ []) → (x : Guard) → P x → ⊥
    all n G1of32 p = n.0 p
    all n G1of16 p = n.1.0 p
    all n G1of8 p = n.1.1.0 p
    all n G1of4 p = n.1.1.1.0 p

-- ---- all fields, nested

module _ (P : TpsWord → Type 0) (decide : (t : TpsWord) → Decided (P t)) where
  abbrev fields : ℕ → Bool → Shape → Hierarchy → Rate → Rate → Guard → Mode → ℕ → TpsWord
  fields frame with_cell shape hierarchy rate_hp rate_lp guard mode cell_byte = record { frame = frame; with_cell = with_cell; shape = shape; hierarchy = hierarchy; rate_hp = rate_hp; rate_lp = rate_lp; guard = guard; mode = mode; cell_byte = cell_byte }

  abbrev InBytes : ℕ → Bool → Shape → Hierarchy → Rate → Rate → Guard → Mode → Type 0
  InBytes f w s h r q g m = Below 256 (λ b. P (fields f w s h r q g m b))

  abbrev InModes : ℕ → Bool → Shape → Hierarchy → Rate → Rate → Guard → Type 0
  InModes f w s h r q g = (m : Mode) × (InBytes f w s h r q g m)

  abbrev InGuards : ℕ → Bool → Shape → Hierarchy → Rate → Rate → Type 0
  InGuards f w s h r q = (g : Guard) × (InModes f w s h r q g)

  abbrev InLowRates : ℕ → Bool → Shape → Hierarchy → Rate → Type 0
  InLowRates f w s h r = (q : Rate) × (InGuards f w s h r q)

  abbrev InRates : ℕ → Bool → Shape → Hierarchy → Type 0
  InRates f w s h = (r : Rate) × (InLowRates f w s h r)

  abbrev InHierarchies : ℕ → Bool → Shape → Type 0
  InHierarchies f w s = (h : Hierarchy) × (InRates f w s h)

  abbrev InShapes : ℕ → Bool → Type 0
  InShapes f w = (s : Shape) × (InHierarchies f w s)

  abbrev InBits : ℕ → Type 0
  InBits f = (w : Bool) × (InShapes f w)

  in_bytes : (f : ℕ) (w : Bool) (s : Shape) (h : Hierarchy) (r q : Rate) (g : Guard) (m : Mode) → Decided (InBytes f w s h r q g m)
  in_bytes f w s h r q g m = find_below 256 (λ b. P (fields f w s h r q g m b)) (λ b l. decide (fields f w s h r q g m b))

  in_guards : (f : ℕ) (w : Bool) (s : Shape) (h : Hierarchy) (r q : Rate) → Decided (InGuards f w s h r q)
  in_guards f w s h r q = find_guard (InModes f w s h r q) (λ g. find_mode (InBytes f w s h r q g) (in_bytes f w s h r q g))

  in_hierarchies : (f : ℕ) (w : Bool) (s : Shape) → Decided (InHierarchies f w s)
  in_hierarchies f w s = find_hierarchy (InRates f w s) (λ h. find_rate (InLowRates f w s h) (λ r. find_rate (InGuards f w s h r) (in_guards f w s h r)))

  in_bits : (f : ℕ) → Decided (InBits f)
  in_bits f = find_bit (InShapes f) (λ w. find_shape (InHierarchies f w) (in_hierarchies f w))

  -- fields whose frame and byte are small
  pub find_fields : ((t : TpsWord) → P t → (t.frame < 5) × (t.cell_byte < 256)) → Decided ((t : TpsWord) × P t)
  find_fields small = go (find_below 5 InBits (λ f l. in_bits f))
    where
      back : (f : ℕ) → InBits f → (t : TpsWord) × P t
      back f (w, (s, (h, (r, (q, (g, (m, b))))))) = (fields f w s h r q g m b.number, b.holds)

      go : Decided (Below 5 InBits) → Decided ((t : TpsWord) × P t)
      go (inl f) = inl (back f.number f.holds)
      go (inr n) = inr (λ x.
          let t = x.0 in
          let l = small t x.1 in
          n (record { number = t.frame; is_below = l.0; holds = (t.with_cell, (t.shape, (t.hierarchy, (t.rate_hp, (t.rate_lp, (t.guard, (t.mode, (record { number = t.cell_byte; is_below = l.1; holds = x.1 })))))))) }))
