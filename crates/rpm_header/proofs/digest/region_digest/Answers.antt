use Rattle.std.proofs.Common.{◌∙◌, ◌+◌, ◌-◌, ◌*◌, ◌/◌, ◌^◌, ap, sym, arith, length, refl}
use Rattle.std.proofs.lemmas.List.{length-take-le}
use Rattle.rpm_header.proofs.Vocabulary.{sha256}
use Rattle.rpm_header.proofs.Opened.{opened}
use Rattle.rpm_header.proofs.Hashed.{region_fits, reads_region}
use Rattle.rpm_header.proofs.digest.region_digest.Goals as goal

pub index_entry_at-region-requires : goal.index_entry_at-region-requires
index_entry_at-region-requires c =
    let fits = region_fits c.args.view.now (opened c.args.view.now c.parts_of.ensures.again) c.requires in
    omega (arith, fits.some, ap length c.parts_of.ensures.index)

pub index_entry_at-trailer-requires : goal.index_entry_at-trailer-requires
index_entry_at-trailer-requires c =
    let fits = region_fits c.args.view.now (opened c.args.view.now c.parts_of.ensures.again) c.requires in
    let told =
    reads_region c.args.view.now c.parts_of.result.0.now c.parts_of.result.1.now c.index_entry_at-region.result _ c.parts_of.ensures.index
    c.parts_of.ensures.data c.index_entry_at-region.ensures refl in
    omega (arith, fits.trailer, ap length c.parts_of.ensures.data, told.offset)

pub overflow_add-size : goal.overflow_add-size
overflow_add-size c =
    let fits = region_fits c.args.view.now (opened c.args.view.now c.parts_of.ensures.again) c.requires in
    let told =
    reads_region c.args.view.now c.parts_of.result.0.now c.parts_of.result.1.now c.index_entry_at-region.result c.index_entry_at-trailer.result
    c.parts_of.ensures.index c.parts_of.ensures.data c.index_entry_at-region.ensures c.index_entry_at-trailer.ensures in
    omega (arith, fits.trailer, c.parts_of.ensures.small, ap length c.parts_of.ensures.data, told.offset)

pub slice_bounds-digest_of-end : goal.slice_bounds-digest_of-end
slice_bounds-digest_of-end c =
    let fits = region_fits c.args.view.now (opened c.args.view.now c.parts_of.ensures.again) c.requires in
    let told =
    reads_region c.args.view.now c.parts_of.result.0.now c.parts_of.result.1.now c.index_entry_at-region.result c.index_entry_at-trailer.result
    c.parts_of.ensures.index c.parts_of.ensures.data c.index_entry_at-region.ensures c.index_entry_at-trailer.ensures in
    sym (length-take-le (16 * ((2 ^ 32 - c.index_entry_at-trailer.result.offset) / 16)) c.parts_of.result.0.now
    (omega (arith, fits.few, told.entries, c.parts_of.ensures.whole)))

pub slice_bounds-digest_of-end-2 : goal.slice_bounds-digest_of-end-2
slice_bounds-digest_of-end-2 c =
    let fits = region_fits c.args.view.now (opened c.args.view.now c.parts_of.ensures.again) c.requires in
    let told =
    reads_region c.args.view.now c.parts_of.result.0.now c.parts_of.result.1.now c.index_entry_at-region.result c.index_entry_at-trailer.result
    c.parts_of.ensures.index c.parts_of.ensures.data c.index_entry_at-region.ensures c.index_entry_at-trailer.ensures in
    sym (length-take-le (c.index_entry_at-region.result.offset + 16) c.parts_of.result.1.now
    (omega (arith, fits.trailer, told.offset, ap length c.parts_of.ensures.data)))

pub returns : goal.returns
returns c =
    let told =
    reads_region c.args.view.now c.parts_of.result.0.now c.parts_of.result.1.now c.index_entry_at-region.result c.index_entry_at-trailer.result
    c.parts_of.ensures.index c.parts_of.ensures.data c.index_entry_at-region.ensures c.index_entry_at-trailer.ensures in
    c.digest_of.ensures ∙ ap sha256 told.hashed
