use Rattle.std.proofs.Common.{◌≡◌, ◌++◌, drop}
use Rattle.rpm_header.proofs.Vocabulary.{AllFit, flat_map, to_be_bytes, width}
use Rattle.rpm_header.proofs.packed.PackedEntry.numbers.Given as goal

abbrev pub invariant-loop-value : goal.invariant-loop-value
invariant-loop-value l = record {
  written : l.bytes.items ++ flat_map (to_be_bytes (width l.form)) (drop l.value-index l.values) ≡ flat_map (to_be_bytes (width l.form)) l.values;
  fit : AllFit l.form (drop l.value-index l.values);
}
