-- The words of proofs, from one place.
pub use Rattle.rpm_file.specs.Answers.{AnswersBy, AnswersNextIn, IsFileFault, IsListFault, TakesAtMost}
pub use Rattle.rpm_file.specs.List.{body_length, BlobAndRest, list_head}
unfoldable pub use Rattle.rpm_file.specs.List.{front_header, header_extent, size_in}
pub use Rattle.rpm_file.specs.Merging.{and_entries, is_null, joins_as, stamp_items, header_with_entries}
unfoldable pub use Rattle.rpm_file.specs.Merging.{dribble, merged_header}
pub use Rattle.rpm_file.specs.Package.{early_fault, entries_or_none, HeaderAndRest, headed_with}
pub use Rattle.rpm_file.specs.Package.{extent_after, main_extent, signature_extent}
pub use Rattle.rpm_file.specs.Package.{package_with, padding_of, read_again}
unfoldable pub use Rattle.rpm_file.specs.Package.{behind_lead, behind_padding, extent_behind, headed_part, package_extent, package_header}
pub use Rattle.rpm_file.specs.declared.fault.FileFault.{FileFault}
pub use Rattle.rpm_file.specs.declared.fault.FileFault.TheVariants.{Signature}
pub use Rattle.rpm_file.specs.declared.fault.HeaderKind.{HeaderKind}
pub use Rattle.rpm_file.specs.declared.fault.ListFault.{ListFault}
pub use Rattle.rpm_file.specs.inner.Chain.{after_signature, headed_of, is_lead, joined_by, lead_magic, main_at, or_fault_in, signature_at, with_rest}
unfoldable pub use Rattle.rpm_file.specs.inner.Chain.{behind_signature}
pub use Rattle.rpm_file.specs.inner.Filling.{Extends, Fills}
pub use Rattle.rpm_file.specs.inner.Joining.{dribble_as, dribbles, has_tag, HasIndexBytes, HasTags, JoinsUnder, made_fault, passes_limits}
pub use Rattle.rpm_file.specs.inner.Parts.{AnswersBehind, AnswersBytes, AnswersMade, AnswersSkip, AnswersTake, IsMadeFault}
pub use Rattle.rpm_file.proofs.laws.Lists.{found_of_size, some_found}
pub use Rattle.rpm_header.specs.Build.{with_tag}
unfoldable pub use Rattle.rpm_header.specs.Bytes.{are_ended, number_at, numbers, texts}
pub use Rattle.rpm_header.specs.Digest.{magic}
pub use Rattle.rpm_header.specs.Dribbles.{dribbled_data}
unfoldable pub use Rattle.rpm_header.specs.Dribbles.{dribbled_blob}
pub use Rattle.rpm_header.specs.Header.{Header, Item, Numbers, Texts}
unfoldable pub use Rattle.rpm_header.specs.Header.{entries, entry_of, fault_at, header, header_of}
unfoldable pub use Rattle.rpm_header.specs.Laid.{entry_bytes, data_from, index_bytes, index_from, offset_of}
pub use Rattle.rpm_header.specs.declared.form.Form.{Form}
pub use Rattle.rpm_header.specs.declared.form.HeaderFault.{HeaderFault}
pub use Rattle.rpm_header.specs.declared.laying.BuildFault.{BuildFault}
pub use Rattle.rpm_header.proofs.laws.Longer.{number_longer}
unfoldable pub use Rattle.rpm_header.specs.laws.Words.{entry_fault}
pub use Rattle.rpm_outside.specs.Browses.{Browses, bytes_left, Takes}
pub use Rattle.rpm_outside.proofs.laws.Browsing.{browses_then, reads_one, takes_then}
pub use Rattle.std.specs.Cmp.Lexicographic.{pointwise}
pub use Rattle.std.specs.Int.{w16, w32}
pub use Rattle.std.specs.List.{filter_map}
pub use Rattle.std.specs.Result.{IsErrAnd, MatchResult}
