use Rattle.std.proofs.Common.{◌∙◌, ap}
use Rattle.std.proofs.lemmas.Result.{on_ok_weaker}
use Rattle.rpm_filecheck.proofs.Vocabulary.{OwnedPaths, with_owner}
use Rattle.rpm_filecheck.proofs.Joining.{seen, seen-joined}
use Rattle.rpm_filecheck.proofs.owned.Owned.add.Goals as goal

pub returns : goal.returns
returns c = on_ok_weaker c.join_in.result (λ is.
    ap seen is ∙ seen-joined c.args.path c.args.owner c.self.inside.paths.entries
    ∙ ap (λ (es : OwnedPaths). with_owner c.args.path.items c.args.owner es) c.self.view_is) c.join_in.ensures
