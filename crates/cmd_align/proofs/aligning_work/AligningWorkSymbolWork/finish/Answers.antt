use Rattle.std.proofs.Common.{◌≡◌, ℕ, List, [], ◌++◌, Some, refl, ◌∙◌, sym, ap, ap₂}
use Rattle.std.proofs.lemmas.List.{append-nil}
use Rattle.station_core.specs.Meaning.{Meaning}
use Rattle.mode_set.specs.declared.settings.Settings.{Settings}
use Rattle.cmd_base.specs.declared.refusal.Refusal.{Refusal}
use Rattle.cmd_cells.specs.Work.{Written}
use Rattle.cmd_convert.specs.Conversion.{counts_line}
use Rattle.cmd_convert.specs.Working.{written_at}
use Rattle.cmd_convert.proofs.Calls.{wrote_line}
use Rattle.tune_search.specs.Searching.{IsSearching}
use Rattle.cmd_align.specs.Announcement.{found_lines}
use Rattle.cmd_align.specs.Aligned.{aligned_file, closing_at}
use Rattle.cmd_align.specs.Working.{AllGive, RefusesAligning}
use Rattle.cmd_align.proofs.Calls.{follow}
use Rattle.cmd_align.proofs.Places.{stands_copying, stands_searching}
use Rattle.cmd_align.proofs.aligning_work.AligningWorkSymbolWork.finish.Goals as goal

pub returns-in-Some-clause-finishes : goal.returns-in-Some-clause-finishes
returns-in-Some-clause-finishes g c = λ bytes before stood gives.
    let m : Meaning = g.S.Station.meaning c.args.station.now in
    let m' : Meaning = g.S.Station.meaning c.write_some.new.station in
    let s : Settings = c.args.self.now.settings in
    let st = stands_copying (λ s. IsSearching s c.args.self.now.search.tuner c.args.self.now.search.symbol) s bytes before c.args.self.now.copying c.in-Some.copying c.in-Some.is stood.1 in
    let found = st.0 in
    let text : List ℕ = c.as_bytes.result.now in
    let is : text ≡ closing_at s bytes (Some found) = c.as_bytes.ensures.value ∙ c.as_str.ensures.value ∙ c.line_of_counts-line.ensures ∙ ap₂ counts_line st.2.copied st.2.after in
    let cells : List ℕ = aligned_file s bytes (Some found) in
    let lines : List ℕ = found_lines found ++ text in
    let after : Written = written_at cells lines in
    wrote_line (λ given. Unit {0}) (AllGive s bytes) (λ (r : Refusal). RefusesAligning s bytes [] before r) before after tt
    (found, st.1, (λ port. ap (λ (l : List ℕ). written_at cells (found_lines found ++ l) port) is)) m m' text
    (follow cells [] (found_lines found) text cells lines before st.3 (sym (append-nil cells)) refl) c.write_some.result c.write_some.ensures.writes

pub returns-in-None-clause-finishes : goal.returns-in-None-clause-finishes
returns-in-None-clause-finishes g c = λ bytes before stood gives.
    let s : Settings = c.args.self.now.settings in
    let st = stands_searching (λ s. IsSearching s c.args.self.now.search.tuner c.args.self.now.search.symbol) s bytes before c.args.self.now.copying c.in-None.is stood.1 in
    ((refl, refl, st.1, st.2), (λ t port. refl))
