use Rattle.std.proofs.Common.{◌∙◌, ◌++◌, ap, []}
use Rattle.rpm_header.proofs.Vocabulary.{sha256}
use Rattle.rpm_header.proofs.Hashed.{message}
use Rattle.rpm_header.proofs.digest.digest_of.Goals as goal

pub returns : goal.returns
returns c =
    let a = c.as_slice.result.now in
    let b = c.as_slice-2.result.now in
    let d = c.as_slice-3.result.now in
    let first = c.update.ensures [] c.new-hasher.ensures in
    let second = c.update-2.ensures ([] ++ a) first in
    let third = c.update-3.ensures ([] ++ a ++ b) second in
    let fourth = c.update-4.ensures ([] ++ a ++ b ++ d) third in
    let fifth = c.update-5.ensures ([] ++ a ++ b ++ d ++ c.args.index.now) fourth in
    c.finalize.ensures ([] ++ a ++ b ++ d ++ c.args.index.now ++ c.args.section.now) fifth
    ∙ ap sha256 (message a b d c.args.index.now c.args.section.now c.args.entries c.args.size c.as_slice.ensures (c.as_slice-2.ensures
    ∙ c.to_be_bytes.ensures) (c.as_slice-3.ensures ∙ c.to_be_bytes-2.ensures))
