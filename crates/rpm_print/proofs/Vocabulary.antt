-- The words of proofs, from one place.
pub use Rattle.rpm_effects.specs.Steps.{bearer, ToErr, ToOut}
pub use Rattle.rpm_db.specs.State.{Bad, Good, package_of}
pub use Rattle.rpm_db.specs.laws.Parts.{read_as}
unfoldable pub use Rattle.rpm_header.specs.Bytes.{are_ended, number_at, numbers, texts}
pub use Rattle.rpm_header.specs.Header.{Header, Texts}
unfoldable pub use Rattle.rpm_header.specs.Header.{entry_of, fault_at, header, header_of}
pub use Rattle.rpm_header.specs.declared.form.HeaderFault.TheVariants.{BadType}
unfoldable pub use Rattle.rpm_header.specs.laws.Words.{entry_fault}
pub use Rattle.rpm_outside.specs.Buffered.{buffer_sink, inner}
pub use Rattle.rpm_outside.specs.Files.{Units, units_of}
pub use Rattle.rpm_outside.proofs.laws.Flushed.{flushed, stopped}
pub use Rattle.rpm_pkgdb.specs.Blobs.{blob_in, frame_of}
unfoldable pub use Rattle.rpm_pkgdb.specs.Blobs.{is_head, is_tail}
unfoldable pub use Rattle.rpm_pkgdb.specs.Damages.{head_reason, own_reason, shared_reason}
pub use Rattle.rpm_pkgdb.specs.Slots.{slot_of}
unfoldable pub use Rattle.rpm_pkgdb.specs.Words.{word}
pub use Rattle.rpm_pkgdb.specs.declared.slot.Reason.{Reason}
pub use Rattle.rpm_pkgdb.specs.declared.slot.Reason.TheVariants.{BadMagic, BadPages, BadRange, BadSlot, Overlap, SameNumber}
unfoldable pub use Rattle.rpm_command.specs.Asked.{asks_format, label_format, list_format}
unfoldable pub use Rattle.rpm_print.specs.Closing.{closing, fault_text, rule_text, usage_line}
pub use Rattle.rpm_print.specs.Printed.{printed_step, step_of}
unfoldable pub use Rattle.rpm_print.specs.Printed.{sizes_line}
pub use Rattle.rpm_qfeval.specs.Meaning.{meaning}
unfoldable pub use Rattle.rpm_qfeval.specs.Meaning.{bytes, sizes}
unfoldable pub use Rattle.rpm_qfparse.specs.Format.{format, reading}
unfoldable pub use Rattle.rpm_qfparse.specs.Moves.{condition, move_of}
unfoldable pub use Rattle.rpm_qfparse.specs.Tag.{after_number, number_of, formatter_table, tag_part}
pub use Rattle.rpm_qfparse.specs.Tree.{Bracket, Condition, End, Tagged, Text, Tree}
pub use Rattle.rpm_qfparse.specs.declared.fault.FormatKind.TheVariants.{MissingClose}
pub use Rattle.rpm_qfparse.specs.declared.tree.Role.TheVariants.{Element}
pub use Rattle.rpm_qfparse.specs.declared.tree.Show.TheVariants.{Plain}
pub use Rattle.rpm_qfparse.specs.declared.tree.TagPart.{TagPart}
unfoldable pub use Rattle.rpm_tags.specs.Value.{first_text, numbers_in, stored_value, texts_in}
pub use Rattle.rpm_tags.specs.declared.tag.Tag.{Tag}
pub use Rattle.rpm_tags.specs.declared.tag.Tag.TheVariants.{Filenames, Nvra, Stored}
unfoldable pub use Rattle.rpm_words.specs.Ask.{arguments, ask, asked_by}
unfoldable pub use Rattle.rpm_words.specs.Broken.{bad_argument, early_word_fault, first_broken, first_misplaced}
pub use Rattle.rpm_words.specs.Fault.{fault}
unfoldable pub use Rattle.rpm_words.specs.Place.{program_of}
unfoldable pub use Rattle.rpm_words.specs.Purpose.{is_cluster, long_purpose, own_purpose, purpose_behind}
unfoldable pub use Rattle.rpm_words.specs.Seen.{seen}
unfoldable pub use Rattle.rpm_words.specs.Switch.{long_switch, rpm_options, short_switch}
unfoldable pub use Rattle.rpm_words.specs.Token.{said_tokens, said_behind}
pub use Rattle.rpm_words.specs.declared.fault.WordsKind.TheVariants.{NoMode, UnknownOption}
unfoldable pub use Rattle.std.specs.Fmt.{digits}
pub use Rattle.std.specs.Option.{option_map}
