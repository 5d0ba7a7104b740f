-- Bytes have one rescue output at a moment, and longer bytes only add to it.
use Rattle.std.proofs.Common.{◌≡◌, ℕ, Bool, List, [], ◌++◌, length, take, drop, refl, sym, ap, ◌∙◌, subst, arith, take-append-drop, append-nil, append_assoc}
use Rattle.std.specs.Prelude.{Option}
use Rattle.code_paths.specs.declared.costs.CostPair.{CostPair}
use Rattle.code_paths.specs.Streams.{IsPrefix, Given, Reports}
use Rattle.code_paths.specs.Laws.{GivenOnce, EndedOnce, ReportsOnce, GivenGrows, ReportsGrow, GivenBeginsEnded}
use Rattle.code_paths.specs.Uniqueness.{IsStart, SomeAreGiven}
use Rattle.mode_set.specs.declared.modes.Start.{Start}
use Rattle.mode_set.specs.declared.modes.Start.TheVariants.{Zero, Any}
use Rattle.mode_set.specs.declared.modes.Stream.{Stream}
use Rattle.mode_set.specs.declared.settings.Settings.{Settings}
use Rattle.symbol_parameters.specs.Laws.{StepsGrow}
use Rattle.forney.specs.Values.{values}
use Rattle.outer_chain.specs.Bits.{bytes_of, MoreBits}
use Rattle.outer_chain.specs.Words.{packets_to, count}
use Rattle.bit_margin.specs.Laws.{MarginsOnce, MarginsStay}
use Rattle.rescue_words.specs.ByteMargins.{byte_margins}
use Rattle.rescue_words.specs.Laws.{MoreByteMargins, OneRescue, MoreRescued}
use Rattle.rescue_words.specs.Recovery.Recovery.{Lost}
use Rattle.rescue_words.specs.Rescued.{RescueTally, Rescues}
use Rattle.reception.specs.Costs.{costs}
use Rattle.reception.specs.Streams.{memory, start_of, Moment, so_far, at_end, IsDecoded}
use Rattle.reception.specs.Laws.{CostsGrow, CostsAreSteps, SameCosts, NewReportsAreLater, NothingGiven, NoCosts}
use Rattle.reception.proofs.Nothing.{nothing_reported}
use Rattle.reception.proofs.Beginnings.{lines_begin}
use Rattle.rescue.specs.Known.{AreSettled}
use Rattle.rescue.specs.Streams.{Rescue, RescuesAt, RescuesSoFar, no_words}
use Rattle.rescue.specs.Laws.{AreSame, OneSoFar, OneAtEnd, AtEndEndsSoFar, NothingSoFar, Begins, SoFarBeginsSoFar, SoFarBeginsAtEnd, WholeSymbolsGive}
use Rattle.rescue.proofs.Marks.{known_once, marks_begin}

pub is_start : (start : Start) → IsStart (start_of start)
is_start Zero = refl
is_start Any = tt

-- ---- one output

decoded_once : GivenOnce → EndedOnce → (moment : Moment) (a : Option (List Bool)) (c : List CostPair) (g h : List Bool) → IsDecoded moment a c g → IsDecoded moment a c h → g ≡ h
decoded_once given ended so_far a c g h x y = given memory a c g h x y
decoded_once given ended at_end a c g h x y = ended memory a c g h x y

one_output : GivenOnce → EndedOnce → ReportsOnce → MarginsOnce → OneRescue → (moment : Moment) (s : Settings) (bytes : List ℕ) (r q : Rescue) → RescuesAt moment s bytes r → RescuesAt moment s bytes q → AreSame r q
one_output given ended reports margins one moment s bytes r q x y =
    record { packets = λ σ. (same σ).0; reports = λ σ. reports memory (start_of s.start) (costs s bytes σ) (r.reports σ) (q.reports σ) (x.reports σ) (y.reports σ); tally = λ σ. (same σ).1 }
  where
    same : (σ : Stream) → (r.packets σ ≡ q.packets σ) × (r.tally σ ≡ q.tally σ)
    same σ =
        let bits : bytes_of (x.bits σ) ≡ bytes_of (y.bits σ) = ap bytes_of (decoded_once given ended moment (start_of s.start) (costs s bytes σ) (x.bits σ) (y.bits σ) (x.decoded σ) (y.decoded σ)) in
        let marks : byte_margins (x.margins σ) ≡ byte_margins (y.margins σ) = ap byte_margins (known_once margins moment (start_of s.start) (costs s bytes σ) (x.margins σ) (y.margins σ) (x.known σ) (y.known σ)) in
        one (bytes_of (y.bits σ)) (byte_margins (y.margins σ)) (r.packets σ) (q.packets σ) (r.tally σ) (q.tally σ)
        (subst (λ z. Rescues z (byte_margins (y.margins σ)) (r.packets σ) (r.tally σ)) bits (subst (λ z. Rescues (bytes_of (x.bits σ)) z (r.packets σ) (r.tally σ)) marks (x.rescues σ))) (y.rescues σ)

pub one_so_far : GivenOnce → EndedOnce → ReportsOnce → MarginsOnce → OneRescue → OneSoFar
one_so_far given ended reports margins one s bytes r q x y = one_output given ended reports margins one so_far s bytes r q x y

pub one_at_end : GivenOnce → EndedOnce → ReportsOnce → MarginsOnce → OneRescue → OneAtEnd
one_at_end given ended reports margins one s bytes r q x y = one_output given ended reports margins one at_end s bytes r q x y

-- ---- more bits and margins

-- the output for first bits and margins is a prefix of that for more of both
packets_begin : MoreBits → MoreRescued → (bits longer : List Bool) (ms ns out more : List ℕ) (tally count : RescueTally) → IsPrefix bits longer → (rest : List ℕ) × (byte_margins ns ≡ byte_margins ms ++ rest)
    → Rescues (bytes_of bits) (byte_margins ms) out tally → Rescues (bytes_of longer) (byte_margins ns) more count → (rest : List ℕ) × (more ≡ out ++ rest)
packets_begin bits rescued b longer ms ns out more tally count h k x y =
    let r = bits b h.rest in
    let e : bytes_of longer ≡ bytes_of b ++ r.0 = ap bytes_of h.is ∙ r.1 in
    let front : take (length out) more ≡ out = rescued (bytes_of b) (byte_margins ms) r.0 k.0 out more tally count x (subst (λ z. Rescues z (byte_margins ms ++ k.0) more count) e (subst (λ z. Rescues (bytes_of longer) z more count) k.1 y)) in
    (drop (length out) more, sym (take-append-drop (length out) more) ∙ ap (λ z. z ++ drop (length out) more) front)

pub at_end_ends_so_far : GivenBeginsEnded → ReportsOnce → MoreBits → MarginsStay → MoreByteMargins → MoreRescued → AtEndEndsSoFar
at_end_ends_so_far begins reports bits stay marks rescued s bytes r q x y = record {
  packets = λ σ. let c = costs s bytes σ in
      packets_begin bits rescued (x.bits σ) (y.bits σ) (x.margins σ) (y.margins σ) (r.packets σ) (q.packets σ) (r.tally σ) (q.tally σ)
      (begins memory (start_of s.start) c (x.bits σ) (y.bits σ) (x.decoded σ) (y.decoded σ))
      (marks_begin stay marks at_end (start_of s.start) c [] c (x.margins σ) (y.margins σ) (sym (append-nil c)) (x.known σ) (y.known σ)) (x.rescues σ) (y.rescues σ);
  reports = λ σ. reports memory (start_of s.start) (costs s bytes σ) (q.reports σ) (r.reports σ) (y.reports σ) (x.reports σ);
}

-- the bits given are a prefix of those for longer costs
bits_begin : GivenGrows → GivenBeginsEnded → SomeAreGiven → (moment : Moment) (start : Start) (c d w : List CostPair) (g h : List Bool) → w ≡ c ++ d → Given memory (start_of start) c g → IsDecoded moment (start_of start) w h → IsPrefix g h
bits_begin grows begins some so_far start c d w g h e x y = grows memory (start_of start) c d g h x (subst (λ z. Given memory (start_of start) z h) e y)
bits_begin grows begins some at_end start c d w g h e x y =
    let m = some memory (start_of start) w (is_start start) in
    let p : IsPrefix g m.0 = grows memory (start_of start) c d g m.0 x (subst (λ z. Given memory (start_of start) z m.0) e m.1) in
    let q : IsPrefix m.0 h = begins memory (start_of start) w m.0 h m.1 y in
    record { rest = p.rest ++ q.rest; is = q.is ∙ ap (λ z. z ++ q.rest) p.is ∙ append_assoc g p.rest q.rest }

module _ (grows : GivenGrows) (ends : GivenBeginsEnded) (some : SomeAreGiven) (reports : ReportsGrow) (bits : MoreBits) (stay : MarginsStay) (marks : MoreByteMargins) (rescued : MoreRescued)
    (first : StepsGrow) (grow : CostsGrow) (steps : CostsAreSteps) (later : NewReportsAreLater) where
  begins : (moment : Moment) (s : Settings) (bytes more : List ℕ) (r q : Rescue) → RescuesSoFar s bytes r → RescuesAt moment s (bytes ++ more) q → Begins s bytes (bytes ++ more) r q
  begins moment s bytes more r q x y = record {
    packets = λ σ. let g = grow s bytes more σ in
        packets_begin bits rescued (x.bits σ) (y.bits σ) (x.margins σ) (y.margins σ) (r.packets σ) (q.packets σ) (r.tally σ) (q.tally σ)
        (bits_begin grows ends some moment s.start (costs s bytes σ) g.0 (costs s (bytes ++ more) σ) (x.bits σ) (y.bits σ) g.1 (x.decoded σ) (y.decoded σ))
        (marks_begin stay marks moment (start_of s.start) (costs s bytes σ) g.0 (costs s (bytes ++ more) σ) (x.margins σ) (y.margins σ) g.1 (x.known σ) (y.known σ)) (x.rescues σ) (y.rescues σ);
    reports = more_reports;
    lines = lines_begin later grow steps first s bytes more r.reports q.reports x.reports y.reports more_reports;
  }
    where
      more_reports : (σ : Stream) → (rest : List ℕ) × (q.reports σ ≡ r.reports σ ++ rest)
      more_reports σ = let g = grow s bytes more σ in
          reports memory (start_of s.start) (costs s bytes σ) g.0 (r.reports σ) (q.reports σ) (x.reports σ) (subst (λ z. Reports memory (start_of s.start) z (q.reports σ)) g.1 (y.reports σ))

  pub so_far_begins_so_far : SoFarBeginsSoFar
  so_far_begins_so_far s bytes more r q x y = begins so_far s bytes more r q x y

  pub so_far_begins_at_end : SoFarBeginsAtEnd
  so_far_begins_at_end s bytes more r q x y = begins at_end s bytes more r q x y

-- ---- whole symbols

pub whole_symbols_give : SameCosts → WholeSymbolsGive
whole_symbols_give same s bytes more r within x = record {
  bits = x.bits;
  decoded = λ σ. subst (λ (c : List CostPair). Given memory (start_of s.start) c (x.bits σ)) (same s bytes more σ within) (x.decoded σ);
  margins = x.margins;
  known = λ σ. subst (λ (c : List CostPair). AreSettled (start_of s.start) c (x.margins σ)) (same s bytes more σ within) (x.known σ);
  rescues = x.rescues;
  reports = λ σ. subst (λ (c : List CostPair). Reports memory (start_of s.start) c (r.reports σ)) (same s bytes more σ within) (x.reports σ);
}

-- ---- no bytes

none_known : (a : Option (List Bool)) → AreSettled a [] []
none_known a = record { long = refl; each = λ t l. absurd (omega (arith, l)) }

none_rescued : Rescues (bytes_of []) (byte_margins []) [] no_words
unfolding bytes_of byte_margins values packets_to count
none_rescued = record { recovery = λ n. Lost; is_recovery = λ n l. absurd (omega (arith, l)); packets = refl; counts = refl }

pub nothing_so_far : NothingGiven → NoCosts → NothingSoFar
nothing_so_far given none s = record {
  bits = λ σ. [];
  decoded = λ σ. subst (λ (c : List CostPair). Given memory (start_of s.start) c []) (sym (none s σ)) (given memory s.start);
  margins = λ σ. [];
  known = λ σ. subst (λ (c : List CostPair). AreSettled (start_of s.start) c []) (sym (none s σ)) (none_known (start_of s.start));
  rescues = λ σ. none_rescued;
  reports = λ σ. subst (λ (c : List CostPair). Reports memory (start_of s.start) c []) (sym (none s σ)) (nothing_reported memory (start_of s.start));
}
