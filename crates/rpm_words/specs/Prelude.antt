-- The words of clauses, from one place.
pub use Rattle.std.specs.Char.{is_ascii_digit}
pub use Rattle.std.specs.List.{AllByRecursion, after_first, list_all}
pub use Rattle.std.specs.Option.{is_some, option_map_or}
pub use Rattle.std.specs.Str.{bytes_eq}
pub use Rattle.rpm_words.specs.Ask.{AskParts, HasNumbers, IsFit, IsCommandSound, argument_in, arguments, ask, asked_by}
pub use Rattle.rpm_words.specs.Ask.{mode_of}
pub use Rattle.rpm_words.specs.Broken.{argument_fault, bad_argument, early_word_fault, first_broken, is_awaiting}
pub use Rattle.rpm_words.specs.Broken.{is_bad_number, is_misplaced, lacks_option, first_misplaced, misplaced_in}
pub use Rattle.rpm_words.specs.Broken.{token_fault, too_few, too_many}
pub use Rattle.rpm_words.specs.Command.{chosen_of, command_of, is_other}
pub use Rattle.rpm_words.specs.Fault.{fault, is_before, fault_rank}
pub use Rattle.rpm_words.specs.Number.{exercise_number, number}
pub use Rattle.rpm_words.specs.Place.{folder, place, program_of}
pub use Rattle.rpm_words.specs.Purpose.{is_cluster, is_equals, long_purpose, own_purpose}
pub use Rattle.rpm_words.specs.Purpose.{purpose_behind, takes_value}
pub use Rattle.rpm_words.specs.Seen.{after_in, exercise_in, is_nofiles, is_noindex, printed_in, seen}
pub use Rattle.rpm_words.specs.Switch.{long_switch, short_switch}
pub use Rattle.rpm_words.specs.Takes.{checked_arguments, expected_form, fewest, most, query_takes, takes}
pub use Rattle.rpm_words.specs.Token.{said_tokens, says}
pub use Rattle.rpm_words.specs.Words.{bytes_from, word_at}
pub use Rattle.rpm_words.specs.declared.fault.WordsKind.TheVariants.{NoMemory}
pub use Rattle.rpm_words.specs.declared.purpose.Purpose.TheVariants.{Unknown}
pub use Rattle.rpm_words.specs.inner.Folder.{IsSpelled, folder_behind}
pub use Rattle.rpm_words.specs.inner.Spellings.{as_spellings, switch_in}
pub use Rattle.rpm_words.specs.inner.Steps.{ask_parts, earlier, inline, is_same_chosen, is_same_command}
pub use Rattle.rpm_words.specs.inner.Steps.{letters, lone, no_mode, no_value, seen_with}
