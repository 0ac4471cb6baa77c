use Rattle.std.proofs.Common.{◌∙◌, ◌++◌, ap, List, length}
use Rattle.rpm_header.proofs.Vocabulary.{data_from, data_of, index_from, Item, with_region}
use Rattle.rpm_header.proofs.LaidParts.{is_within, room_for_trailer, laid_parts, written}
use Rattle.rpm_header.proofs.builder.Builder.lay_out.Goals as goal

pub append_region_entry-requires : goal.append_region_entry-requires
append_region_entry-requires c is =
    let es = c.args.self.now in
    room_for_trailer c.args.region es c.args.lengths (is_within (length (with_region c.args.region es))
    (length (data_of c.args.region es)) c.args.lengths c.requires) is

pub returns-clause-laid : goal.returns-clause-laid
returns-clause-laid c =
    let es = c.args.self.now in
    let within = is_within (length (with_region c.args.region es)) (length (data_of c.args.region es)) c.args.lengths c.requires in
    let index = c.in_ok-append_index.ensures ∙ ap (λ (l : List Item). c.append_region_entry.new.out.items ++ index_from 0 l) c.entries.ensures.value in
    let stored = c.in_ok-append_data.ensures ∙ ap (λ (l : List Item). c.append_index.new.out.items ++ data_from 0 l) c.entries-2.ensures.value in
    laid_parts c.args.region es c.args.lengths c.in_ok-blob.blob.items c.append_region_entry.new.out.items c.append_index.new.out.items
    c.append_data.new.out.items c.append_trailer.new.out.items within c.in_ok-blob.ensures c.in_ok-append_region_entry.ensures index stored
    c.in_ok-append_trailer.ensures

pub returns-clause-again : goal.returns-clause-again
returns-clause-again c =
    let es = c.args.self.now in
    let within = is_within (length (with_region c.args.region es)) (length (data_of c.args.region es)) c.args.lengths c.requires in
    written c.args.region es c.args.lengths c.append_trailer.new.out.items c.entries.ensures.again within (returns-clause-laid c)
