-- The words of proofs, from one place.
pub use Rattle.rpm_header.specs.Build.{AllFit, bin_item, is_text_list, IsText, numbers_item, with_tag, text_item, texts_item}
pub use Rattle.rpm_header.specs.Bytes.{is_zero}
unfoldable pub use Rattle.rpm_header.specs.Bytes.{are_ended, number_at, numbers, texts}
pub use Rattle.rpm_header.specs.Digest.{magic, region_in_file}
unfoldable pub use Rattle.rpm_header.specs.Digest.{immutable_digest}
pub use Rattle.rpm_header.specs.Dribbles.{dribbled_data}
unfoldable pub use Rattle.rpm_header.specs.Dribbles.{dribbled_blob}
pub use Rattle.rpm_header.specs.Header.{alignment, Bytes, element_fault, first, form_fault, form_of, form_or_null, has_numbers, has_texts}
pub use Rattle.rpm_header.specs.Header.{Header, index_entry, index_entry_at, is_bad_count, is_region_tag, IsOwn, IsEntryWhole, Item, last_of, Nothing, Numbers}
pub use Rattle.rpm_header.specs.Header.{numbers_of, region_fault, section_of, Texts, texts_of, Values, values, width}
unfoldable pub use Rattle.rpm_header.specs.Header.{entries, entry_of, fault_at, header, header_of}
pub use Rattle.rpm_header.specs.Laid.{blob_of, data_of, joined_texts, kind_of, lengths_of, region_item, trailer}
pub use Rattle.rpm_header.specs.Laid.{with_region}
unfoldable pub use Rattle.rpm_header.specs.Laid.{entry_bytes, data_from, index_bytes, index_from, laid_out, offset_of}
pub use Rattle.rpm_header.specs.Parts.{own_data, own_index}
pub use Rattle.rpm_header.specs.declared.form.Form.{Form}
pub use Rattle.rpm_header.specs.declared.form.HeaderFault.{HeaderFault}
pub use Rattle.rpm_header.specs.declared.form.HeaderFault.TheVariants.{BadCount, BadOffset, BadRegion, NoEnd, Short, TooManyEntries, TooMuchData}
pub use Rattle.rpm_header.specs.declared.index.IndexEntry.{IndexEntry}
pub use Rattle.rpm_header.specs.declared.laying.Lengths.{Lengths}
pub use Rattle.rpm_header.specs.inner.Checked.{HasElements, IsCutAsSaid, IsInside, IsBlobSound}
pub use Rattle.rpm_header.proofs.laws.Longer.{number_longer}
pub use Rattle.rpm_header.specs.laws.Words.{begins_with, counts_back, dribbled_index, each_below, end_of_data, entry_in_index, header_in_file, index_of}
pub use Rattle.rpm_header.specs.laws.Words.{region_entries, region_entry, trailer_entry, unless}
unfoldable pub use Rattle.rpm_header.specs.laws.Words.{entry_fault}
pub use Rattle.rpm_header.specs.inner.Packed.{IsJoined, IsPacked, IsStored, item_at, ReadsBack}
pub use Rattle.rpm_header.specs.inner.Splits.{Splits}
unfoldable pub use Rattle.rpm_header.specs.inner.Zeros.{after_texts, zeros}
pub use Rattle.sha2.specs.Sha256.{sha256}
pub use Rattle.std.specs.Int.{byte_len, from_be_bytes, next_multiple_of, to_be_bytes, w16, w32, w64, w8, Width}
pub use Rattle.std.specs.Int.Count.{count_trailing_zeros, trailing_of_zero}
pub use Rattle.std.specs.List.{after_first, AllByRecursion, before_first, flat_map, list_all, list_any, position, position_or_len, range_with_len}
pub use Rattle.std.specs.Option.{option_map, option_or}
