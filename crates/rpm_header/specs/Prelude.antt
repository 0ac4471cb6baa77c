-- The words of clauses, from one place.
pub use Rattle.std.specs.Int.{byte_len, next_multiple_of, to_be_bytes, w16, w32, w64}
pub use Rattle.std.specs.Iterator.{YieldsFirstRef, item_count}
pub use Rattle.std.specs.List.{AllByRecursion, after_first, before_first, position}
pub use Rattle.sha2.specs.Sha256.{sha256}
pub use Rattle.rpm_header.specs.Build.{AllFit, IsText, bin_item, is_text_list, numbers_item, with_tag, text_item}
pub use Rattle.rpm_header.specs.Build.{texts_item}
pub use Rattle.rpm_header.specs.Bytes.{are_ended, is_zero, number_at, texts}
pub use Rattle.rpm_header.specs.Digest.{immutable_digest, region_in_file}
pub use Rattle.rpm_header.specs.Dribbles.{dribbled_blob, dribbled_data}
pub use Rattle.rpm_header.specs.Header.{Header, IsOwn, IsEntryWhole, Item, alignment, bin_bytes}
pub use Rattle.rpm_header.specs.Header.{element_fault}
pub use Rattle.rpm_header.specs.Header.{entries, entry_of, fault_at, form_fault, form_of, has_numbers, has_texts}
pub use Rattle.rpm_header.specs.Header.{header, header_of, index_entry, index_entry_at, is_bad_count, is_region_tag}
pub use Rattle.rpm_header.specs.Header.{last_of, main_region, max_blob, max_data, max_entries, numbers_of}
pub use Rattle.rpm_header.specs.Header.{region_fault, section_of, texts_of, values, width}
pub use Rattle.rpm_header.specs.Laid.{entry_bytes, data_from, data_of, index_bytes, index_from}
pub use Rattle.rpm_header.specs.Laid.{joined_texts, kind_of}
pub use Rattle.rpm_header.specs.Laid.{laid_out, lengths_of, region_item, trailer, with_region}
pub use Rattle.rpm_header.specs.Parts.{own_data, own_index}
pub use Rattle.rpm_header.specs.inner.Checked.{HasElements, IsCutAsSaid, IsInside, IsBlobSound}
pub use Rattle.rpm_header.specs.inner.Packed.{IsJoined, IsPacked, IsStored, ReadsBack, item_at}
pub use Rattle.rpm_header.specs.inner.Placed.{AreTextsPlaced}
pub use Rattle.rpm_header.specs.inner.Splits.{Splits}
pub use Rattle.rpm_header.specs.inner.Zeros.{AreCounted, HasZeroFrom, IsSummed, after_texts, zeros}
pub use Rattle.rpm_header.specs.laws.Words.{begins_with, counts_back, entry_in_index, header_in_file}
