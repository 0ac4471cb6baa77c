-- The words of proofs, from one place.
pub use Rattle.rpm_db.proofs.laws.Above.{all_above_zero, both_true, is_below, next_above, none_below, none_is, nothing_above}
pub use Rattle.rpm_db.specs.Database.{package_cost, packages_cost, packages_cost_to, Database, IsNext, Keeps}
pub use Rattle.rpm_db.specs.Database.{store_of}
pub use Rattle.rpm_db.proofs.laws.Own.{header-own}
pub use Rattle.rpm_db.proofs.laws.PackageLaws.{cost_more, cost_some, is_there}
pub use Rattle.rpm_db.specs.State.{above, Bad, Good, Package, package_of, packages}
pub use Rattle.rpm_db.specs.laws.Parts.{read_as}
pub use Rattle.rpm_filecheck.specs.Conflicts.{files_of, IsReport, conflict_label, label_at, label_of, label_read}
pub use Rattle.rpm_filecheck.specs.inner.Parts.{all_paths, as_owner, bad_of, files_read, own_paths}
pub use Rattle.rpm_filecheck.specs.Conflicts.{owners}
pub use Rattle.rpm_filecheck.specs.inner.Parts.{owner_of, path_order}
unfoldable pub use Rattle.rpm_filecheck.specs.Conflicts.{bad, conflicts, owned_paths}
pub use Rattle.rpm_filecheck.specs.Files.{beside_facts, Facts, files, OwnFile, said_of}
pub use Rattle.rpm_filecheck.specs.Owners.{Conflict, conflicts_on, is_conflict, is_directory, is_ghost, may_share, Owner}
pub use Rattle.rpm_filecheck.specs.inner.Parts.{conflicts_with}
pub use Rattle.rpm_filecheck.specs.inner.Alike.{agrees, is_alike}
pub use Rattle.rpm_filecheck.specs.inner.Gathered.{GatheredFiles, owners_with, joined_to, key_order, Labels}
pub use Rattle.rpm_filecheck.specs.inner.Gathered.{last_from, no_files, OwnedPaths, with_files, with_header}
pub use Rattle.rpm_filecheck.specs.inner.Gathered.{with_owner, with_package, with_packages, with_read, with_some}
pub use Rattle.rpm_header.specs.Header.{Header, header}
pub use Rattle.rpm_header.specs.declared.form.HeaderFault.{HeaderFault}
pub use Rattle.rpm_outside.specs.Files.{Files, Units}
pub use Rattle.rpm_outside.specs.Looks.{OnlyReads}
pub use Rattle.rpm_outside.specs.declared.disk.File.TheVariants.{Pkg}
pub use Rattle.rpm_outside.proofs.laws.Looking.{looks_more, looks_none, looks_then}
pub use Rattle.std.specs.BTreeMap.{insert_entry, is_at}
pub use Rattle.std.specs.Cmp.{unsigned_tied}
pub use Rattle.std.specs.Cmp.Lexicographic.{nat_list_cmp_total}
pub use Rattle.std.specs.FinMap.{find, is_sorted, nat_cmp-IsAntisymmetric, put, slice_cmp-IsAntisymmetric}
pub use Rattle.std.specs.FinMap.Entries.{below_all, by_order, find-put, is_sorted-put, same_entries}
pub use Rattle.std.specs.List.{concat, flat_map, list_all, list_any}
pub use Rattle.std.specs.Map.{lookup}
pub use Rattle.std.specs.Option.{option_and_then, option_map}
pub use Rattle.std.specs.Ordering.{eq_by_cmp, is_eq, is_lt, match_ordering, nat_cmp}
pub use Rattle.std.specs.Str.{bytes_eq}
pub use Rattle.std.specs.declared.alloc.Global.{Global}
pub use Rattle.std.specs.declared.cmp.Ordering.{Ordering}
