-- The words of clauses, from one place.
pub use Rattle.std.specs.Iterator.{YieldsFirst, YieldsFirstBy, YieldsFirstRef, item_count}
pub use Rattle.std.specs.List.{concat, list_all, list_any, suffix_len, zip}
pub use Rattle.std.specs.Option.{option_copied, option_map}
pub use Rattle.std.specs.Str.{str_eq_ignore_ascii_case}
pub use Rattle.rpm_header.specs.Header.{max_data}
pub use Rattle.rpm_tags.specs.Keys.{key_list, keys, number_key}
pub use Rattle.rpm_tags.specs.Kinds.{code_and_tag, code_of}
pub use Rattle.rpm_tags.specs.Table.{is_tag, name_in, name_of, tag_in, tag_of}
pub use Rattle.rpm_tags.specs.Value.{Elements, arch_parts, blob_elements, class_of, count_of, epoch_parts, evr_text}
pub use Rattle.rpm_tags.specs.Value.{file_names, filenames, first_number, first_text, label, number_list, numbers_in}
pub use Rattle.rpm_tags.specs.Value.{stored_value, text_list, texts_in, value}
pub use Rattle.rpm_tags.specs.Wanted.{Need, base_name, beside, counts_for, dependencies, first_or, has_file}
pub use Rattle.rpm_tags.specs.Wanted.{list_or_empty}
pub use Rattle.rpm_tags.specs.inner.KeysLeft.{KeysHavePlaces, key_bytes, keys_left, placed_keys}
pub use Rattle.rpm_tags.specs.inner.Labels.{name_parts, release_parts}
pub use Rattle.rpm_tags.specs.inner.Left.{IsPartLeft, texts_left}
pub use Rattle.rpm_tags.specs.inner.NamesLeft.{NamesHavePlaces}
pub use Rattle.rpm_tags.specs.inner.Paths.{are_matched, file_name, is_slash}
pub use Rattle.rpm_tags.specs.inner.Rows.{AreAsked}
pub use Rattle.rpm_tags.specs.inner.Source.{elements, stored_elements}
pub use Rattle.rpm_tags.specs.inner.SourceElements.{source_elements}
pub use Rattle.rpm_tags.specs.inner.TagRows.{as_table, plain}
