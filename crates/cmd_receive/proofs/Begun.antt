-- The output of a prefix of the cells is a prefix of the output.
use Rattle.std.proofs.Common.{◌≡◌, ℕ, ◌+◌, ◌-◌, ◌*◌, ◌<◌, ◌≤◌, List, [], ◌++◌, ◌⊎◌, inl, inr, length, take, drop, refl, ◌∙◌, sym, ap, subst, arith, append_assoc, take-append-drop, length-take-le}
use Rattle.std.specs.Prelude.{flat_map}
use Rattle.std.proofs.lemmas.Bool.{cases_lt}
use Rattle.std.proofs.lemmas.List.{append-nil}
use Rattle.std.proofs.lemmas.Nat.{mul-le}
use Rattle.std.proofs.Math.Nat.{div-mul-le_self, mod-lt}
use Rattle.std.proofs.Math.Seq.{take-append-add}
use Rattle.mode_set.specs.declared.modes.Stream.{Stream}
use Rattle.mode_set.specs.declared.settings.Settings.{Settings as TheSettings}
use Rattle.rx_report.specs.Text.{event_line}
use Rattle.reception.specs.Cells.{symbol_length, symbols, tail}
use Rattle.reception.specs.Lines.{events}
use Rattle.reception.specs.Laws.{IsWithin}
use Rattle.cmd_receive.specs.Kinds.{Kind, lines_of}
use Rattle.cmd_receive.specs.Received.{IsAll, IsCutOff, within_limit}
use Rattle.cmd_receive.proofs.OfKinds.{IsReceived, KindLaws, LinesCome}
use Rattle.cmd_receive.proofs.Parts.{no_tail, some_bytes, symbols_are}

-- This is the output for a prefix of the cells: as if more might follow or, if the prefix is all of them, at the end.
pub record ReceivedUpTo (k : Kind) (s : TheSettings) (bytes : List ℕ) (r : k.Received) : Type 0 where
  pub taken : List ℕ
  pub rest : List ℕ
  pub are : bytes ≡ taken ++ rest
  pub within : symbols s taken ≤ s.max_symbols
  pub gives : k.Live s taken r ⊎ ((rest ≡ []) × k.Final s taken r)

-- the lines of a report up to there
abbrev pub lines_up_to : (k : Kind) (s : TheSettings) (taken rest : List ℕ) (r : k.Received) → (k.Live s taken r ⊎ ((rest ≡ []) × k.Final s taken r)) → List ℕ
lines_up_to k s taken rest r (inl live) = lines_of k s taken r
lines_up_to k s taken rest r (inr final) = lines_of k s taken r ++ k.closing s taken r

-- the cells give packets and lines that begin with these
pub record Continues (k : Kind) (s : TheSettings) (file : List ℕ) (given : k.Received) (lines : List ℕ) : Type 0 where
  pub all : k.Received
  pub received : IsReceived k s file all
  pub packets : (σ : Stream) → (rest : List ℕ) × (k.packets all σ ≡ k.packets given σ ++ rest)
  pub printed : List ℕ
  pub prints : LinesCome k s file printed
  pub lines_are : (rest : List ℕ) × (printed ≡ lines ++ rest)

module _ {k : Kind} (laws : KindLaws k) (s : TheSettings) where
  abbrev size : ℕ
  size = symbol_length s

  -- the whole symbols of bytes, and the bytes after them
  abbrev pub whole_of : List ℕ → List ℕ
  whole_of taken = take (symbols s taken * size) taken

  abbrev pub after : List ℕ → List ℕ
  after taken = drop (symbols s taken * size) taken

  pub length_whole : (taken : List ℕ) → length (whole_of taken) ≡ symbols s taken * size
  length_whole taken = length-take-le (symbols s taken * size) taken (div-mul-le_self (length taken) size)

  pub is_within : (taken : List ℕ) → IsWithin s (whole_of taken) (after taken)
  is_within taken =
      let none = no_tail s (whole_of taken) (symbols s taken) (length_whole taken) in
      let few : tail s taken < size = mod-lt (length taken) (some_bytes s) in
      omega (arith, none, laws.unfinished s taken, few)

  -- past the limit, the output of a prefix within it is a prefix of the output for all symbols within it
  past_by : (taken rest : List ℕ) (given : k.Received) → symbols s taken ≤ s.max_symbols → k.Live s taken given → s.max_symbols < symbols s (taken ++ rest) → Continues k s (taken ++ rest) given (lines_of k s taken given)
  past_by taken rest given few live past =
      let file : List ℕ = taken ++ rest in
      let t : List ℕ = whole_of taken in
      let u : List ℕ = after taken in
      let q : ℕ = s.max_symbols * size in
      let v : List ℕ = take (q - length t) (u ++ rest) in
      let joined : t ++ u ≡ taken = take-append-drop (symbols s taken * size) taken in
      let file_is : file ≡ t ++ (u ++ rest) = ap (λ (l : List ℕ). l ++ rest) (sym joined) ∙ append_assoc t u rest in
      let long : length t ≤ q = omega (arith, length_whole taken, mul-le (symbols s taken) size s.max_symbols size few (omega arith)) in
      let split : q ≡ length t + (q - length t) = omega (arith, long) in
      let within : within_limit s file ≡ t ++ v = ap (λ (n : ℕ). take n file) split ∙ ap (take (length t + (q - length t))) file_is ∙ take-append-add t (u ++ rest) (q - length t) in
      let begun : k.Live s t given = laws.whole s t u given (is_within taken) (subst (λ (l : List ℕ). k.Live s l given) (sym joined) live) in
      let r = laws.some_live s (within_limit s file) in
      let b = laws.live s t v given r.0 begun (subst (λ (l : List ℕ). k.Live s l r.0) within r.1) in
      let same : symbols s t ≡ symbols s taken = symbols_are s t (symbols s taken) (length_whole taken) in
      let lines : lines_of k s t given ≡ lines_of k s taken given = ap (λ (n : ℕ). flat_map event_line (events s n (k.reports given))) same in
      let cut : IsCutOff k.Live s file r.0 = record { past = past; live = r.1 } in
      record {
        all = r.0;
        received = inr cut;
        packets = b.packets;
        printed = lines_of k s (within_limit s file) r.0;
        prints = (r.0, inr (cut, refl));
        lines_are = (b.lines.0, ap (λ (l : List ℕ). lines_of k s l r.0) within ∙ b.lines.1 ∙ ap (λ (l : List ℕ). l ++ b.lines.0) lines);
      }

  -- within the limit, it is a prefix of the final output for all cells
  within_by : (taken rest : List ℕ) (given : k.Received) → k.Live s taken given → symbols s (taken ++ rest) ≤ s.max_symbols → Continues k s (taken ++ rest) given (lines_of k s taken given)
  within_by taken rest given live within =
      let file : List ℕ = taken ++ rest in
      let r = laws.some_final s file in
      let b = laws.last s taken rest given r.0 live r.1 in
      let closing : List ℕ = k.closing s file r.0 in
      let all : IsAll k.Final s file r.0 = record { within = within; final = r.1 } in
      record {
        all = r.0;
        received = inl all;
        packets = b.packets;
        printed = lines_of k s file r.0 ++ closing;
        prints = (r.0, inl (all, refl));
        lines_are = (b.lines.0 ++ closing, ap (λ (l : List ℕ). l ++ closing) b.lines.1 ∙ append_assoc (lines_of k s taken given) b.lines.0 closing);
      }

  -- the output for all bytes is exactly this
  whole_by : (taken : List ℕ) (given : k.Received) → symbols s taken ≤ s.max_symbols → k.Final s taken given → Continues k s taken given (lines_of k s taken given ++ k.closing s taken given)
  whole_by taken given few final =
      let all : IsAll k.Final s taken given = record { within = few; final = final } in
      record {
        all = given;
        received = inl all;
        packets = λ σ. ([], sym (append-nil (k.packets given σ)));
        printed = lines_of k s taken given ++ k.closing s taken given;
        prints = (given, inl (all, refl));
        lines_are = ([], sym (append-nil (lines_of k s taken given ++ k.closing s taken given)));
      }

  pub begun : (file : List ℕ) (given : k.Received) (up : ReceivedUpTo k s file given) → Continues k s file given (lines_up_to k s up.taken up.rest given up.gives)
  begun file given up = go up.taken up.rest up.are up.within up.gives
    where
      live_by : (taken rest : List ℕ) → symbols s taken ≤ s.max_symbols → k.Live s taken given → (s.max_symbols < symbols s (taken ++ rest)) ⊎ (symbols s (taken ++ rest) ≤ s.max_symbols) → Continues k s (taken ++ rest) given (lines_of k s taken given)
      live_by taken rest few live (inl past) = past_by taken rest given few live past
      live_by taken rest few live (inr within) = within_by taken rest given live within

      go : (taken rest : List ℕ) → file ≡ taken ++ rest → symbols s taken ≤ s.max_symbols → (gives : k.Live s taken given ⊎ ((rest ≡ []) × k.Final s taken given)) → Continues k s file given (lines_up_to k s taken rest given gives)
      go taken rest are few (inl live) =
          subst (λ (l : List ℕ). Continues k s l given (lines_of k s taken given)) (sym are) (live_by taken rest few live (cases_lt s.max_symbols (symbols s (taken ++ rest))))
      go taken rest are few (inr final) =
          let same : file ≡ taken = are ∙ ap (λ (l : List ℕ). taken ++ l) final.0 ∙ append-nil taken in
          subst (λ (l : List ℕ). Continues k s l given (lines_of k s taken given ++ k.closing s taken given)) (sym same) (whole_by taken given few final.1)
