-- The words of clauses, from one place.
pub use Rattle.std.specs.Int.{w16, w32}
pub use Rattle.rpm_header.specs.Bytes.{number_at}
pub use Rattle.rpm_header.specs.Header.{Header, Item, header, is_region_tag, max_blob}
pub use Rattle.rpm_outside.specs.Browses.{Browses, bytes_left}
pub use Rattle.rpm_outside.specs.Causes.{HasCause, HasCauseAt}
pub use Rattle.rpm_file.specs.Answers.{AnswersBy, AnswersNext, AnswersNextIn, TakesAtMost}
pub use Rattle.rpm_file.specs.List.{body_length, header_extent, size_in}
pub use Rattle.rpm_file.specs.Merging.{and_entries, AreStamps, is_null, joins_as, merged_header, stamp_items}
pub use Rattle.rpm_file.specs.Merging.{header_with_entries}
pub use Rattle.rpm_file.specs.Package.{behind_lead, behind_padding, early_fault, extent_behind}
pub use Rattle.rpm_file.specs.Package.{fault_in}
pub use Rattle.rpm_file.specs.Package.{headed_with, package_extent, package_header, package_with, padding_of}
pub use Rattle.rpm_file.specs.Package.{read_again}
pub use Rattle.rpm_file.specs.declared.fault.FileFault.TheVariants.{Main}
pub use Rattle.rpm_file.specs.inner.Chain.{behind_signature, is_lead}
pub use Rattle.rpm_file.specs.inner.Filling.{Appends, Extends, Fills, IsOutsideList}
pub use Rattle.rpm_file.specs.inner.Joining.{dribbles, HasIndexBytes, HasTags, JoinsUnder, made_fault}
pub use Rattle.rpm_file.specs.inner.Parts.{AnswersBehind, AnswersBytes, AnswersIntro, AnswersMade, AnswersPart}
pub use Rattle.rpm_file.specs.inner.Parts.{AnswersSkip, AnswersTake}
