-- The words of clauses, from one place.
pub use Rattle.rpm_outside.specs.Logs.{reopened_files}
pub use Rattle.rpm_outside.specs.declared.disk.File.TheVariants.{Pkg}
pub use Rattle.rpm_pkgdb.specs.Store.{store}
pub use Rattle.rpm_effects.specs.Endings.{status_of}
pub use Rattle.rpm_commit.specs.Stages.{Streams}
pub use Rattle.rpm_effects.specs.Answers.{ClosingEnding}
pub use Rattle.rpm_command.specs.Asked.{always_keyed, asks, request_of}
pub use Rattle.rpm_effects.specs.Classes.{IsOfPrint, is_foreign, is_of_opening}
pub use Rattle.rpm_print.specs.Closing.{closing}
pub use Rattle.rpm_outside.specs.Frame.{DiskFault, OnlyReads}
pub use Rattle.rpm_db.specs.Asked.{IsAskable}
pub use Rattle.rpm_print.specs.Frame.{OnlyReadsPackages, pkg_read}
pub use Rattle.rpm_effects.specs.Hands.{EndHands}
pub use Rattle.rpm_effects.specs.Shown.{outs, shown_outputs}
pub use Rattle.rpm_report.specs.Requirements.{why_of_report}
pub use Rattle.rpm_commit.specs.laws.Words.{StoreAnswer}
pub use Rattle.rpm_tool.specs.Requests.{PlainAnswer, query_cost}
pub use Rattle.rpm_tool.specs.inner.Words.{PlainProgress}
pub use Rattle.rpm_tool.specs.Keyed.{OpenedAnswer}
pub use Rattle.rpm_tool.specs.Theorem.{Answers, AnswersKeyed, AnswersWords, Causes, Laws, ran, setting_at}
