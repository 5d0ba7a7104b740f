-- The start and the end of the work.
use Rattle.std.proofs.Common.{◌≡◌, ℕ, ◌+◌, ◌*◌, ◌<◌, ◌≤◌, true, List, [], ◌++◌, inl, inr, length, drop, refl, ◌∙◌, sym, ap, subst, arith, Result, Ok, Err}
use Rattle.std.proofs.lemmas.List.{append-nil, drop-drop, drop_at}
use Rattle.std.proofs.lemmas.Nat.{mul-le}
use Rattle.station_core.specs.Meaning.{Meaning, sink_at}
use Rattle.cmd_cells.specs.declared.run_error.RunError.{RunError}
use Rattle.cmd_cells.specs.declared.run_error.RunError.TheVariants.{ReadFault, WriteFault, Limit}
use Rattle.cmd_cells.specs.declared.run_error.RunError.TheVariants as stops
use Rattle.cmd_cells.specs.Symbols.{symbols}
use Rattle.cmd_cells.specs.Work.{Finishes, Gave, Holds, Takes, Work, WritesOnly, Written, none_written}
use Rattle.cmd_cells.specs.Cells.{IsWhole, IsWorking, Stopped, TakesAtMost, Works}
use Rattle.cmd_cells.proofs.Counting.{one_more, symbols_are}
use Rattle.cmd_cells.proofs.Steps.{fails, goes_on, holds_front, holds_more}

module _ (w : Work) (most : ℕ) (standing' : List ℕ → Written → Type 0) (m m' : Meaning) (writes : WritesOnly m m') where
  held : m.tells ≡ true → Holds m m none_written
  held t port = sym (append-nil (sink_at port m).written)

  -- the work has begun, or has not
  pub begun : (g : Gave (λ after. standing' [] after × w.Gives [] after) none_written m m') → IsWorking w standing' m.cells.left m m' [] g.after
  begun g = goes_on w most m.cells.left [] none_written standing' m m m m' 0 (λ t. refl) held refl [] (λ t. refl) writes g

  pub not_begun : 0 < w.size → (stop : RunError) → Takes w standing' [] [] none_written m m' (Err stop) → m'.tells ≡ true → Stopped w most m.cells.left m m' stop
  not_begun some stop takes =
      let none : symbols w.size [] ≡ 0 = symbols_are w.size some [] 0 (let e : 0 ≡ 0 * w.size = omega arith in e) in
      fails w most m.cells.left [] none_written standing' m m m m' 0 (λ t. refl) held refl [] (λ t. refl) writes stop (omega (arith, none)) takes

-- after the cells the work has ended, or has not
module _ (w : Work) (most : ℕ) (file bytes : List ℕ) (given : Written) (standing : List ℕ → Written → Type 0) (start m m' : Meaning)
    (was : IsWorking w standing file start m bytes given) (few : symbols w.size bytes ≤ most) (left : m.tells ≡ true → m.cells.left ≡ []) (writes : WritesOnly m m') where
  before : m'.tells ≡ true → m.tells ≡ true
  before t = sym (ap (λ (x : Meaning). x.tells) writes) ∙ t

  nothing_left : m'.tells ≡ true → m'.cells.left ≡ []
  nothing_left t = ap (λ (x : Meaning). x.cells.left) writes ∙ left (before t)

  all : m'.tells ≡ true → file ≡ bytes
  all t = was.are (before t) ∙ ap (λ (l : List ℕ). bytes ++ l) (left (before t)) ∙ append-nil bytes

  whole_by : (result : Result (Unit {0}) RunError) → Finishes w bytes given m m' result → Works w most bytes start m' result
  whole_by (Ok u) f = λ t. (nothing_left t, few, record { given = f.after; ends = f.is.1; holds = holds_more start m m' given _ (was.holds (before t)) (before t) f })
  whole_by (Err ReadFault) f = λ t. absurd f
  whole_by (Err WriteFault) f = λ t. record {
    given = f.after;
    up = inl (record { taken = bytes; rest = []; are = sym (append-nil bytes); within = few; gives = inr (refl, f.is) });
    holds = holds_front start m m' given _ (was.holds (before t)) (before t) f;
  }
  whole_by (Err Limit) f = λ t. absurd f
  whole_by (Err (stops.Work r)) f = λ t. record {
    taken = bytes;
    given = given;
    are = sym (append-nil bytes) ∙ ap (λ (l : List ℕ). bytes ++ l) (sym (nothing_left t));
    within = few;
    refuses = subst (λ (l : List ℕ). w.Refuses bytes l given r) (sym (nothing_left t)) f.0;
    holds = λ port. f.1 (before t) port ∙ was.holds (before t) port;
  }

  pub ended : (result : Result (Unit {0}) RunError) → Finishes w bytes given m m' result → Works w most file start m' result
  ended (Ok u) f = λ t. subst (λ (l : List ℕ). (m'.cells.left ≡ []) × (symbols w.size l ≤ most) × IsWhole w l start m') (sym (all t)) (whole_by (Ok u) f t)
  ended (Err stop) f = λ t. subst (λ (l : List ℕ). Stopped w most l start m' stop) (sym (all t)) (whole_by (Err stop) f t)

-- ---- the number of bytes taken of the cells

-- after n symbols within the limit, at most one more was taken
pub few_more : (n l most : ℕ) (bytes : List ℕ) (m m' m'' : Meaning) → m'.tells ≡ m.tells → (m'.tells ≡ true → m.cells.left ≡ bytes ++ m'.cells.left) → length bytes ≡ n * l → n ≤ most
    → TakesAtMost l m' m'' → TakesAtMost ((most + 1) * l) m m''
few_more n l most bytes m m' m'' tells are size within takes t =
    let t' : m'.tells ≡ true = tells ∙ t in
    let k = takes t' in
    let left : m'.cells.left ≡ drop (length bytes) m.cells.left = sym (drop_at bytes m'.cells.left (length bytes) refl) ∙ ap (drop (length bytes)) (sym (are t')) in (
      length bytes + k.0,
      omega (arith, size, k.1, mul-le n l most l within (omega arith), one_more most l),
      k.2 ∙ ap (drop k.0) left ∙ drop-drop k.0 (length bytes) m.cells.left,
    )
