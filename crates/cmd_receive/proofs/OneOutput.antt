-- The output of every kind of reception is unique.
use Rattle.std.proofs.Common.{◌≡◌, ◌⊎◌, inl, inr, ℕ, ◌<◌, ◌≤◌, List, ◌++◌, Some, refl, ◌∙◌, sym, ap, subst, arith}
use Rattle.std.proofs.lemmas.Bool.{cases_lt}
use Rattle.std.proofs.lemmas.List.{append_cancel_right}
use Rattle.station_core.specs.declared.ports.OutPort.{OutPort}
use Rattle.mode_set.specs.declared.settings.Settings.{Settings}
use Rattle.reception.specs.Cells.{symbols}
use Rattle.cmd_receive.specs.Kinds.{Kind, lines_of}
use Rattle.cmd_receive.specs.OneOutput.{AtMostOne, ExactlyOne, IsOneOutput}
use Rattle.cmd_receive.specs.Received.{cells_in, IsSoFar, packets_at, within_limit}
use Rattle.cmd_receive.proofs.OfKinds.{IsReceived, KindLaws, LinesCome, LinesSoFar, OutputComes, OutputSoFar}

module _ {k : Kind} (laws : KindLaws k) (s : Settings) (file : List ℕ) where
  abbrev bytes : List ℕ
  bytes = cells_in file

  -- ---- all of it, or the part within the limit
  received_once : (r q : k.Received) → IsReceived k s bytes r → IsReceived k s bytes q → q ≡ r
  received_once r q (inl a) (inl b) = laws.one_final s bytes q r b.final a.final
  received_once r q (inl a) (inr b) = absurd (omega (arith, a.within, b.past))
  received_once r q (inr a) (inl b) = absurd (omega (arith, b.within, a.past))
  received_once r q (inr a) (inr b) = laws.one_live s (within_limit s bytes) q r b.live a.live

  received : (s.max_symbols < symbols s bytes) ⊎ (symbols s bytes ≤ s.max_symbols) → (r : k.Received) × IsReceived k s bytes r
  received (inl past) = let r = laws.some_live s (within_limit s bytes) in (r.0, inr (record { past = past; live = r.1 }))
  received (inr within) = let r = laws.some_final s bytes in (r.0, inl (record { within = within; final = r.1 }))

  output_once : (port : OutPort) → ExactlyOne (OutputComes k s bytes port)
  output_once port =
      let r = received (cases_lt s.max_symbols (symbols s bytes)) in (
        packets_at port (k.packets r.0),
        (r.0, r.1, refl),
        (λ other c. c.2 ∙ ap (λ (x : k.Received). packets_at port (k.packets x)) (received_once r.0 c.0 r.1 c.1)),
      )

  -- ---- the lines
  lines_same : (a b : List ℕ) → LinesCome k s bytes a → LinesCome k s bytes b → b ≡ a
  lines_same a b (r, inl p) (q, inl u) = u.1 ∙ ap (λ (x : k.Received). lines_of k s bytes x ++ k.closing s bytes x) (laws.one_final s bytes q r u.0.final p.0.final) ∙ sym p.1
  lines_same a b (r, inl p) (q, inr u) = absurd (omega (arith, p.0.within, u.0.past))
  lines_same a b (r, inr p) (q, inl u) = absurd (omega (arith, u.0.within, p.0.past))
  lines_same a b (r, inr p) (q, inr u) = u.1 ∙ ap (λ (x : k.Received). lines_of k s (within_limit s bytes) x) (laws.one_live s (within_limit s bytes) q r u.0.live p.0.live) ∙ sym p.1

  printed : (r : k.Received) → IsReceived k s bytes r → (l : List ℕ) × LinesCome k s bytes l
  printed r (inl all) = (lines_of k s bytes r ++ k.closing s bytes r, (r, inl (all, refl)))
  printed r (inr cut) = (lines_of k s (within_limit s bytes) r, (r, inr (cut, refl)))

  lines_once : ExactlyOne (LinesCome k s bytes)
  lines_once = let r = received (cases_lt s.max_symbols (symbols s bytes)) in let l = printed r.0 r.1 in (l.0, l.1, (λ other c. lines_same l.0 other l.1 c))

  -- ---- up to a failed read
  taken_same : (left : List ℕ) (r q : k.Received) (a : IsSoFar k.Live s file left r) (b : IsSoFar k.Live s file left q) → b.taken ≡ a.taken
  taken_same left r q a b = append_cancel_right b.taken a.taken left (sym b.are ∙ a.are)

  so_far_once : (left : List ℕ) (r q : k.Received) → IsSoFar k.Live s file left r → IsSoFar k.Live s file left q → q ≡ r
  so_far_once left r q a b = laws.one_live s (cells_in a.taken) q r (subst (λ (l : List ℕ). k.Live s (cells_in l) q) (taken_same left r q a b) b.live) a.live

  output_so_far_once : (left : List ℕ) (port : OutPort) → AtMostOne (OutputSoFar k s file left port)
  output_so_far_once left port one other a b = b.2 ∙ ap (λ (x : k.Received). packets_at port (k.packets x)) (so_far_once left a.0 b.0 a.1 b.1) ∙ sym a.2

  lines_so_far_once : (left : List ℕ) → AtMostOne (LinesSoFar k (Some s) file left)
  lines_so_far_once left one other a b =
      b.2 ∙ ap (λ (x : k.Received). lines_of k s (cells_in b.1.taken) x) (so_far_once left a.0 b.0 a.1 b.1)
      ∙ ap (λ (l : List ℕ). lines_of k s (cells_in l) a.0) (taken_same left a.0 b.0 a.1 b.1) ∙ sym a.2

  pub one_output : IsOneOutput (OutputComes k s bytes) (LinesCome k s bytes) (OutputSoFar k s file) (LinesSoFar k (Some s) file)
  one_output = record { outputs = output_once; lines = lines_once; outputs_so_far = output_so_far_once; lines_so_far = lines_so_far_once }
