use Rattle.std.proofs.Common.{◌+◌, length}
use Rattle.rpm_header.proofs.Vocabulary.{dribbled_data}
use Rattle.rpm_header.proofs.LaidParts.{is_within}
use Rattle.rpm_header.proofs.Opened.{opened}
use Rattle.rpm_header.proofs.Dribbled.{dribbled_pieces, dribbled_written}
use Rattle.rpm_header.proofs.Kept.{digest_written}
use Rattle.rpm_header.proofs.dribbles.lay_out.Goals as goal

pub returns-clause-laid : goal.returns-clause-laid
returns-clause-laid c =
    let h = c.args.view.now in
    let more = c.args.extra.now in
    let within = is_within (length h.entries + length more) (length (dribbled_data h more)) c.args.lengths c.requires in
    dribbled_pieces h more c.args.lengths c.in_ok-out.out.items c.extend_from_slice.new.self.items c.append_index.new.out.items
    c.extend_from_slice-2.new.self.items c.append_data.new.out.items _ _ c.entries.result.now c.entries-2.result.now within c.in_ok-out.ensures
    c.parts_of.ensures.index c.parts_of.ensures.data c.entries.ensures.value c.entries-2.ensures.value c.in_ok-extend_from_slice.ensures.items
    c.in_ok-append_index.ensures c.in_ok-extend_from_slice-2.ensures.items c.in_ok-append_data.ensures

pub returns-clause-again : goal.returns-clause-again
returns-clause-again c =
    let h = c.args.view.now in
    let more = c.args.extra.now in
    let within = is_within (length h.entries + length more) (length (dribbled_data h more)) c.args.lengths c.requires in
    dribbled_written h more c.args.lengths c.append_data.new.out.items (opened h c.parts_of.ensures.again) c.entries.ensures.again within
    (returns-clause-laid c)

pub returns-clause-digest : goal.returns-clause-digest
returns-clause-digest c = λ read told.
    let h = c.args.view.now in
    let more = c.args.extra.now in
    let within = is_within (length h.entries + length more) (length (dribbled_data h more)) c.args.lengths c.requires in
    digest_written h read more c.args.lengths c.append_data.new.out.items (opened h c.parts_of.ensures.again) c.entries.ensures.again within
    (returns-clause-laid c) told
