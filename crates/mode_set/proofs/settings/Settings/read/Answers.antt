-- The first reason, and its cause, of the table's members.
use Rattle.toml.specs.View.{table_view}
use Rattle.mode_set.proofs.Reasons.{cause_of}
use Rattle.mode_set.proofs.Stated.{recorded}
use Rattle.mode_set.proofs.settings.Settings.read.Goals as goal

pub returns-clause-record : goal.returns-clause-record
returns-clause-record c = recorded _ (table_view c.in_ok-table.table) c.settings_of.result c.in_ok-table.ensures.ok c.settings_of.ensures.states

pub returns-clause-not_toml : goal.returns-clause-not_toml
returns-clause-not_toml c = λ is. absurd (cause_of (table_view c.in_ok-table.table) c.settings_of.result _ c.settings_of.ensures.reason is)

pub returns-clause-unknown : goal.returns-clause-unknown
returns-clause-unknown c = λ n is. rw c.in_ok-table.ensures.ok (cause_of (table_view c.in_ok-table.table) c.settings_of.result _ c.settings_of.ensures.reason is)

pub returns-clause-missing : goal.returns-clause-missing
returns-clause-missing c = λ k is. rw c.in_ok-table.ensures.ok (cause_of (table_view c.in_ok-table.table) c.settings_of.result _ c.settings_of.ensures.reason is)

pub returns-clause-value : goal.returns-clause-value
returns-clause-value c = λ k is. rw c.in_ok-table.ensures.ok (cause_of (table_view c.in_ok-table.table) c.settings_of.result _ c.settings_of.ensures.reason is)

pub returns-clause-clash : goal.returns-clause-clash
returns-clause-clash c = λ k is. rw c.in_ok-table.ensures.ok (cause_of (table_view c.in_ok-table.table) c.settings_of.result _ c.settings_of.ensures.reason is)
