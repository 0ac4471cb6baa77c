-- The words of clauses, from one place.
pub use Rattle.std.specs.Fmt.{digit_glyph, digits}
pub use Rattle.std.specs.List.{concat, position}
pub use Rattle.std.specs.Option.{option_copied, option_map}
pub use Rattle.jiff.specs.Words.{epoch_day}
pub use Rattle.jiff_core.specs.Time.{time_seconds}
pub use Rattle.jiff_core.specs.Weekday.{monday_zero}
pub use Rattle.rpm_header.specs.Header.{Header}
pub use Rattle.rpm_outside.specs.SinkFrame.{Writes}
pub use Rattle.rpm_tags.specs.Value.{Elements, TextList, class_of, count_of, value}
pub use Rattle.rpm_qfeval.specs.Dates.{date_text, day_number, day_of, day_text, four, HasDate, month_name, month_of}
pub use Rattle.rpm_qfeval.specs.Dates.{spaced_number}
pub use Rattle.rpm_qfeval.specs.Dates.{two, weekday_name, weekday_names, year_of}
pub use Rattle.rpm_qfeval.specs.Formatters.{blob_text, number_text, or_none, text_text}
pub use Rattle.rpm_qfeval.specs.Meaning.{bracket_bytes, bytes, counts, different, direct, element_text, found_text}
pub use Rattle.rpm_qfeval.specs.Meaning.{is_present, meaning, part_bytes, part_sizes, rounds, sizes, tag_text}
pub use Rattle.rpm_qfeval.specs.Meaning.{value_text}
pub use Rattle.rpm_qfeval.specs.Numbers.{fstate, has, kind_letter, letter_if, bit_letters, perms, third_letter}
pub use Rattle.rpm_qfeval.specs.Padded.{in_width, padded_text}
pub use Rattle.rpm_qfeval.specs.Printed.{Prints, ending, eval_ending}
pub use Rattle.rpm_qfeval.specs.Texts.{base64_text, escaped_text, hex_text, in_quotes, quoted_text}
pub use Rattle.rpm_qfeval.specs.declared.columns.Found.{Found}
pub use Rattle.rpm_qfeval.specs.inner.Columns.{AreValues, IsColumn, IsOfTag, IsValue}
pub use Rattle.rpm_qfeval.specs.inner.Pieces.{piece_text}
pub use Rattle.rpm_qfeval.specs.inner.Proper.{AreProper, PartIsProper}
pub use Rattle.rpm_qfeval.specs.inner.Reached.{IsReadTo}
pub use Rattle.rpm_qfeval.specs.inner.Ready.{AreFiles, StandReady, StandsReady}
