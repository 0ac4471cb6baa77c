-- The words of clauses, from one place.
pub use Rattle.std.specs.BTreeMap.{get, insert_entry}
pub use Rattle.std.specs.FinMap.{find, put}
pub use Rattle.std.specs.List.{concat, flat_map, list_all}
pub use Rattle.std.specs.Option.{option_copied}
pub use Rattle.std.specs.Ordering.{nat_cmp}
pub use Rattle.rpm_db.specs.Database.{package_cost, packages_cost}
pub use Rattle.rpm_db.specs.Frame.{IsStoreKept, packages_in}
pub use Rattle.rpm_db.specs.State.{package_of}
pub use Rattle.rpm_tags.specs.Value.{class_of, numbers_in, text_list, texts_in}
pub use Rattle.rpm_tags.specs.Wanted.{first_or, list_or_empty}
pub use Rattle.rpm_filecheck.specs.Conflicts.{IsReport, conflict_label, told_label}
pub use Rattle.rpm_filecheck.specs.Files.{beside_facts, columns, files, first_facts, rest_of}
pub use Rattle.rpm_filecheck.specs.Frame.{FileQuestion}
pub use Rattle.rpm_filecheck.specs.Owners.{conflicts_on, is_directory, is_ghost, may_share}
pub use Rattle.rpm_filecheck.specs.inner.Parts.{conflicts_with}
pub use Rattle.rpm_filecheck.specs.inner.Alike.{agrees, is_alike}
pub use Rattle.rpm_filecheck.specs.inner.Gathered.{owners_with, joined_to, key_order, last_from, no_files, with_bad}
pub use Rattle.rpm_filecheck.specs.inner.Gathered.{with_files, with_header, with_owner, with_package, with_packages}
pub use Rattle.rpm_filecheck.specs.inner.Gathered.{with_some}
