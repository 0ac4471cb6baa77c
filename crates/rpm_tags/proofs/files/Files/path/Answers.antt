use Rattle.std.proofs.Common.{◌∙◌, sym, ap, length, arith, Some}
use Rattle.rpm_tags.proofs.Paths.{length_files, path_at, same_length, index_below}
use Rattle.rpm_tags.proofs.files.Files.path.Goals as goal

pub text-base-requires : goal.text-base-requires
text-base-requires c =
    omega (
      arith,
      length_files c.self.inside.dirs c.self.inside.indexes c.self.inside.bases c.self.invariant,
      same_length c.self.inside.dirs c.self.inside.indexes c.self.inside.bases c.self.invariant,
      ap length c.self.view_is,
    )

pub number-index-requires : goal.number-index-requires
number-index-requires c =
    omega (
      arith,
      length_files c.self.inside.dirs c.self.inside.indexes c.self.inside.bases c.self.invariant,
      same_length c.self.inside.dirs c.self.inside.indexes c.self.inside.bases c.self.invariant,
      ap length c.self.view_is,
    )

pub path_of-requires : goal.path_of-requires
path_of-requires c = record {
  below = index_below c.self.inside.dirs c.self.inside.indexes c.self.inside.bases c.args.i c.number-index.result c.self.invariant c.number-index.ensures;
  short = c.text-base.ensures.short;
}

pub returns : goal.returns
returns c =
    rw (← c.self.view_is) (path_at c.self.inside.dirs c.self.inside.indexes c.self.inside.bases c.args.i _ _ c.number-index.ensures
    c.text-base.ensures.value ∙ ap Some (sym c.path_of.ensures))
