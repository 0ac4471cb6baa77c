-- The words of proofs, from one place.
pub use Rattle.base64.specs.Engines.{standard}
pub use Rattle.base64.specs.Rfc4648.{padding_len}
unfoldable pub use Rattle.base64.specs.Rfc4648.{encode_symbols}
pub use Rattle.hex.specs.Hex.{lower_digits}
unfoldable pub use Rattle.hex.specs.Hex.{encode_with}
pub use Rattle.jiff_core.specs.Calendar.{IsCivilDate}
unfoldable pub use Rattle.jiff_core.specs.Calendar.{day_count, days_from_civil, days_of_months, days_of_years, weekday_number}
pub use Rattle.jiff_core.specs.Date.{epoch_day}
unfoldable pub use Rattle.jiff_core.specs.DateTime.{civil_nanos}
pub use Rattle.jiff_core.specs.Time.{time_nanos, time_seconds}
pub use Rattle.jiff_core.specs.declared.civil.date.Date.{Date}
pub use Rattle.rpm_header.specs.Header.{Header, Numbers, Texts}
pub use Rattle.rpm_outside.specs.SinkFrame.{Writes}
pub use Rattle.rpm_outside.proofs.laws.Upto.{both, first_stops, Upto, upto_done, upto_last, upto_more, upto_start, upto_stop}
pub use Rattle.rpm_qfeval.specs.Dates.{day_number, four, last_begun, month_name, spaced_number, two, weekday_name, weekday_names}
unfoldable pub use Rattle.rpm_qfeval.specs.Dates.{day_of, HasDate, month_of, year_of}
pub use Rattle.rpm_qfeval.specs.Formatters.{blob_text, number_text, or_none, shown_element, text_text}
pub use Rattle.rpm_qfeval.specs.Meaning.{counts, different, direct, meaning, part_bytes, part_sizes, rounds, text_or_none}
unfoldable pub use Rattle.rpm_qfeval.specs.Meaning.{bytes, sizes}
pub use Rattle.rpm_qfeval.specs.Numbers.{has, bit_letters}
pub use Rattle.rpm_qfeval.specs.Padded.{padded_text}
pub use Rattle.rpm_qfeval.specs.Texts.{base64_text, escaped_byte, escaped_text, hex_text}
pub use Rattle.rpm_qfeval.specs.declared.ready.Ready.{Ready}
pub use Rattle.rpm_qfeval.specs.inner.Columns.{AreValues}
pub use Rattle.rpm_qfeval.specs.inner.Proper.{AreProper, PartIsProper}
pub use Rattle.rpm_qfeval.specs.inner.Reached.{IsReadTo}
pub use Rattle.rpm_qfeval.specs.inner.Ready.{IsPlain, StandReady, StandsReady}
pub use Rattle.rpm_qfparse.specs.Law.{IsProper}
pub use Rattle.rpm_qfparse.specs.Shape.{load, parts_of_tree, tree_of}
pub use Rattle.rpm_qfparse.specs.Tree.{Bracket, Condition, End, Tagged, Text, Tree, weight}
pub use Rattle.rpm_qfparse.specs.declared.tree.Part.{Part}
pub use Rattle.rpm_qfparse.specs.declared.tree.Role.{Role}
pub use Rattle.rpm_qfparse.specs.declared.tree.Show.{Show}
pub use Rattle.rpm_qfparse.specs.declared.tree.TagPart.{TagPart}
pub use Rattle.rpm_qfparse.specs.laws.Falls.{whole_tree}
pub use Rattle.rpm_tags.specs.Value.{count_of, Elements, NumberList, OneBlob, text_list, TextList, value}
unfoldable pub use Rattle.rpm_tags.specs.Value.{numbers_in, stored_value, texts_in}
pub use Rattle.rpm_tags.specs.declared.tag.Tag.{Tag}
pub use Rattle.rpm_tags.specs.declared.tag.Tag.TheVariants.{Dbinstance, Stored}
pub use Rattle.std.specs.Fmt.{digit_glyph, digits_onto}
unfoldable pub use Rattle.std.specs.Fmt.{digits}
pub use Rattle.std.specs.Int.{Width}
pub use Rattle.std.specs.Iterator.{YieldsFirstBy}
pub use Rattle.std.specs.List.{concat, position_or_len, range_with_len}
pub use Rattle.std.specs.Option.{option_and_then, option_map, option_or}
