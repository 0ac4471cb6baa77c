-- The words of proofs, from one place.
pub use Rattle.rpm_qfparse.specs.Format.{behind_part, behind_second, between, bracket, Branches, branches_by, condition, ends, Gives, in_bracket, in_condition}
pub use Rattle.rpm_qfparse.specs.Format.{in_first, in_second, literal, one, next_step, stops, tag, two, with_byte}
unfoldable pub use Rattle.rpm_qfparse.specs.Format.{format, reading}
pub use Rattle.rpm_qfparse.specs.Law.{BeginsApart, IsFormat, IsProper, Reads}
pub use Rattle.rpm_qfparse.specs.Moves.{Asks, close, Ends, Literal, Move, Opens, percent, second_follows, Shows, Stops}
unfoldable pub use Rattle.rpm_qfparse.specs.Moves.{move_of}
pub use Rattle.rpm_qfparse.specs.Shape.{onto, parts_of_tree}
pub use Rattle.rpm_qfparse.specs.Tag.{begins, Faulty, formatter, name_and_show, named_tag, Reading, role, split_once, tag_inside, width_in, ◌>>=◌}
unfoldable pub use Rattle.rpm_qfparse.specs.Tag.{after_number, number_of, formatter_table, tag_part}
pub use Rattle.rpm_qfparse.specs.Tree.{Bracket, Condition, End, Tagged, Text, Tree}
pub use Rattle.rpm_qfparse.specs.declared.fault.FormatFault.{FormatFault}
pub use Rattle.rpm_qfparse.specs.declared.fault.FormatKind.{FormatKind}
pub use Rattle.rpm_qfparse.specs.declared.fault.FormatKind.TheVariants.{BarExpected, BraceExpected, EmptyTag, MissingClose, MissingOpen, NestedBracket}
pub use Rattle.rpm_qfparse.specs.declared.fault.FormatKind.TheVariants.{NoMemory, QuestionExpected, TooDeep, TooLong, UnexpectedBrace, UnexpectedBracket}
pub use Rattle.rpm_qfparse.specs.declared.fault.FormatKind.TheVariants.{UnknownFormatter, UnknownTag, WidthTooLarge}
pub use Rattle.rpm_qfparse.specs.declared.fault.Stop.{Stop}
pub use Rattle.rpm_qfparse.specs.declared.moves.Context.{Context}
pub use Rattle.rpm_qfparse.specs.declared.tag.Row.{Row}
pub use Rattle.rpm_qfparse.specs.declared.tree.Part.{Part}
pub use Rattle.rpm_qfparse.specs.declared.tree.Role.{Role}
pub use Rattle.rpm_qfparse.specs.declared.tree.Role.TheVariants.{Count, Element, First}
pub use Rattle.rpm_qfparse.specs.declared.tree.Show.{Show}
pub use Rattle.rpm_qfparse.specs.declared.tree.Show.TheVariants.{Hex, Plain}
pub use Rattle.rpm_qfparse.specs.declared.tree.TagPart.{TagPart}
pub use Rattle.rpm_qfparse.specs.inner.Bare.{bare_fault, bare_rows}
pub use Rattle.rpm_qfparse.specs.inner.Steps.{at_end, escaped_move, show_of, side}
unfoldable pub use Rattle.rpm_qfparse.specs.inner.Steps.{show_in}
pub use Rattle.rpm_qfparse.proofs.Pieces.{asked_tag, asks_tag, digit_count, is_bracket, is_branch, placed_result, shows}
pub use Rattle.rpm_qfparse.specs.inner.Draft.{in_front_of, in_front, IsNoText, Meets, FailsAs, with_draft_text}
pub use Rattle.rpm_qfparse.specs.laws.Falls.{lighter, seen_parts}
pub use Rattle.rpm_tags.specs.Table.{tag_of}
pub use Rattle.rpm_tags.specs.declared.tag.Tag.{Tag}
pub use Rattle.rpm_tags.specs.declared.tag.Tag.TheVariants.{Stored}
pub use Rattle.std.specs.Char.{digit_value, is_ascii_digit}
pub use Rattle.std.specs.Cmp.Lexicographic.{pointwise}
pub use Rattle.std.specs.List.{position_or_len}
pub use Rattle.std.specs.Option.{ok_or, option_map}
pub use Rattle.std.specs.Str.Parse.{digits_value_after}
