-- The words of proofs, from one place.
pub use Rattle.rpm_version.specs.Capability.{capability}
pub use Rattle.rpm_words.specs.Ask.{argument_in, AskParts, HasNumbers, IsFit, IsCommandSound, meant_parts, mode_of}
unfoldable pub use Rattle.rpm_words.specs.Ask.{arguments, asked_by}
pub use Rattle.rpm_words.specs.Broken.{argument_fault, is_awaiting, is_bad_number, is_misplaced, lacks_option, misplaced_in}
pub use Rattle.rpm_words.specs.Broken.{token_fault, too_few, too_many}
unfoldable pub use Rattle.rpm_words.specs.Broken.{bad_argument, early_word_fault, first_broken, first_misplaced}
pub use Rattle.rpm_words.specs.Command.{chosen_of, command_of, is_other}
pub use Rattle.rpm_words.specs.Fault.{earliest, fault, is_before}
unfoldable pub use Rattle.rpm_words.specs.Number.{number}
pub use Rattle.rpm_words.specs.Place.{folder_in, own_place}
unfoldable pub use Rattle.rpm_words.specs.Place.{folder}
pub use Rattle.rpm_words.specs.Purpose.{is_cluster, is_equals, spelled_purpose, takes_value}
unfoldable pub use Rattle.rpm_words.specs.Purpose.{long_purpose, own_purpose, purpose_behind}
pub use Rattle.rpm_words.specs.Seen.{after_in, exercise_in, is_nofiles, is_noindex, printed_in}
unfoldable pub use Rattle.rpm_words.specs.Seen.{seen}
unfoldable pub use Rattle.rpm_words.specs.Switch.{long_switch, rpm_options, rpmdb_options, short_switch}
pub use Rattle.rpm_words.specs.Takes.{checked_arguments, expected_form, fewest, most, takes}
pub use Rattle.rpm_words.specs.Token.{says, token_at}
unfoldable pub use Rattle.rpm_words.specs.Token.{said_tokens, said_behind}
pub use Rattle.rpm_words.specs.Words.{word_at}
pub use Rattle.rpm_words.specs.declared.fault.WordsFault.{WordsFault}
pub use Rattle.rpm_words.specs.declared.fault.WordsKind.{WordsKind}
pub use Rattle.rpm_words.specs.declared.fault.WordsKind.TheVariants.{ExtraArgument, Misplaced, MissingArgument, NoMemory, NoMode}
pub use Rattle.rpm_words.specs.declared.purpose.Purpose.{Purpose}
pub use Rattle.rpm_words.specs.declared.purpose.Purpose.TheVariants.{Awaits, Cluster, Ends, Inline, Name, Plain, Rest, Unknown, Value, Whole}
pub use Rattle.rpm_words.specs.declared.seen.Printed.{Printed}
pub use Rattle.rpm_words.specs.declared.seen.Printed.TheVariants.{By, Files}
pub use Rattle.rpm_words.specs.declared.seen.Seen.{Seen}
pub use Rattle.rpm_words.specs.declared.switch.Chosen.{Chosen}
pub use Rattle.rpm_words.specs.declared.switch.Chosen.TheVariants.{Label}
pub use Rattle.rpm_words.specs.declared.switch.Command.{Command}
pub use Rattle.rpm_words.specs.declared.switch.Command.TheVariants.{Exercise, Query}
pub use Rattle.rpm_words.specs.declared.switch.Program.{Program}
pub use Rattle.rpm_words.specs.declared.switch.Spelling.{Spelling}
pub use Rattle.rpm_words.specs.declared.switch.Switch.{Switch}
pub use Rattle.rpm_words.specs.declared.switch.Switch.TheVariants.{After, Choose, Folder, Format, Lists, Mode, Nofiles, Noindex}
pub use Rattle.rpm_words.specs.declared.takes.Expected.{Expected}
pub use Rattle.rpm_words.specs.declared.takes.Expected.TheVariants.{Capability, Number, Text}
pub use Rattle.rpm_words.specs.declared.token.Said.{Said}
pub use Rattle.rpm_words.specs.declared.token.Said.TheVariants.{Argument, Gives, Refused, Sets}
pub use Rattle.rpm_words.specs.declared.token.Token.{Token}
pub use Rattle.rpm_words.specs.declared.words.Span.{Span}
pub use Rattle.rpm_words.specs.inner.Folder.{folder_behind, IsSpelled}
pub use Rattle.rpm_words.proofs.laws.Given.{command_word, fault_or, first_told, fit_asked}
pub use Rattle.rpm_words.proofs.Numbered.{numbers_asked}
pub use Rattle.rpm_words.proofs.Pieces.{argument_said, exercise_said, format_printed, has_equals, is_refused, misplaced_said, option_at, printed_said}
pub use Rattle.rpm_words.proofs.Pieces.{within_exercise}
pub use Rattle.rpm_words.specs.inner.Spellings.{as_spellings}
unfoldable pub use Rattle.rpm_words.specs.inner.Spellings.{switch_in}
pub use Rattle.rpm_words.specs.inner.Steps.{inline, letters, lone, no_mode, no_value, seen_with}
pub use Rattle.std.specs.Char.{is_ascii_digit}
pub use Rattle.std.specs.List.{All, AllByRecursion, before_first, best_of, cons_option, filter_map, last_or, list_all, list_any, position_or_len, slice_get}
pub use Rattle.std.specs.Option.{IfSome, option_map, option_map_or, option_or, option_to_list}
pub use Rattle.std.specs.Result.{is_err, OkIff, result_ok}
pub use Rattle.std.specs.Str.{all_ascii_digits, bytes_eq, IsUtf8}
pub use Rattle.std.specs.Str.Parse.{digits_value, ParsesUnsigned}
