-- The words of clauses, from one place.
pub use Rattle.std.specs.Cmp.Lexicographic.{pointwise}
pub use Rattle.std.specs.List.{position}
pub use Rattle.std.specs.Option.{ForSome, option_map}
pub use Rattle.rpm_qfparse.specs.Format.{Branches, Gives, format, with_byte}
pub use Rattle.rpm_qfparse.specs.Law.{IsFormat, IsProper, Reads}
pub use Rattle.rpm_qfparse.specs.Moves.{close, condition, escape, move_of, percent, second_follows}
pub use Rattle.rpm_qfparse.specs.Shape.{load, parts_of_tree}
pub use Rattle.rpm_qfparse.specs.Tag.{begins, formatter, name_and_show, named_tag, role, split_once}
pub use Rattle.rpm_qfparse.specs.Tag.{tag_inside, tag_part, width_in}
pub use Rattle.rpm_qfparse.specs.Tree.{End, Tree, weight}
pub use Rattle.rpm_qfparse.specs.declared.fault.FormatFault.{FormatFault}
pub use Rattle.rpm_qfparse.specs.declared.fault.FormatKind.TheVariants.{NoMemory}
pub use Rattle.rpm_qfparse.specs.inner.Bare.{bare_cut, bare_move, bare_name, bare_part, bare_reading, bare_rest}
pub use Rattle.rpm_qfparse.specs.inner.Bare.{bare_rows}
pub use Rattle.rpm_qfparse.specs.inner.Coding.{tree_code}
pub use Rattle.rpm_qfparse.specs.inner.Draft.{IsFlushed, IsNoText, MayOpen, Meets, in_front_of, in_front}
pub use Rattle.rpm_qfparse.specs.inner.Steps.{at_end, escaped_move, show_in, show_of, side}
