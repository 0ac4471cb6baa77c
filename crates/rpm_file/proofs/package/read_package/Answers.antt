use Rattle.std.proofs.Common.{[]}
use Rattle.rpm_file.proofs.Vocabulary.{bytes_left, package_header, package_with}
use Rattle.rpm_file.proofs.Joined.{none_with, whole_answers}
use Rattle.rpm_file.proofs.package.read_package.Goals as goal

pub returns-clause-answers : goal.returns-clause-answers
returns-clause-answers g c = λ told.
    let old = g.S.Shelf.rest c.args.shelf.now in
    whole_answers (package_with []) package_header old old (g.S.Shelf.rest c.read_package_with.new.shelf) c.read_package_with.result
    (none_with (bytes_left old)) (c.read_package_with.ensures.answers told)
