-- The words of proofs, from one place.
pub use Rattle.rpm_tags.specs.Table.{is_tag, name_of, tag_of}
unfoldable pub use Rattle.rpm_tags.specs.Table.{name_in, table, tag_in}
unfoldable pub use Rattle.rpm_tags.specs.Value.{file_names}
pub use Rattle.rpm_tags.specs.Wanted.{base_name, beside, counts_for, first_or, list_or_empty}
pub use Rattle.rpm_tags.specs.declared.joined.TextPart.{TextPart}
pub use Rattle.rpm_tags.specs.declared.tag.Row.{Row}
pub use Rattle.rpm_tags.specs.declared.tag.Tag.{Tag}
pub use Rattle.rpm_tags.specs.declared.tag.Tag.TheVariants.{Dbinstance, Epochnum, Evr, Filenames, Nevra, Nvr, Nvra, Stored}
pub use Rattle.rpm_tags.specs.inner.Left.{IsPartLeft}
pub use Rattle.rpm_tags.specs.inner.Parts.{bytes_of_parts, IsInParts, IsPart, parts_of}
pub use Rattle.rpm_tags.specs.inner.Paths.{are_matched, file_name, text_at}
pub use Rattle.rpm_tags.specs.inner.Recent.{IsDirectoryRead}
pub use Rattle.rpm_tags.specs.inner.Rows.{AreAsked, AreLeft}
pub use Rattle.rpm_tags.specs.inner.TagRows.{as_table, plain}
pub use Rattle.std.specs.Fmt.{decimal}
pub use Rattle.std.specs.List.{concat, list_all, list_any, zip}
pub use Rattle.std.specs.Option.{option_copied, option_map}
pub use Rattle.std.specs.Str.{bytes_eq, str_eq_ignore_ascii_case}
