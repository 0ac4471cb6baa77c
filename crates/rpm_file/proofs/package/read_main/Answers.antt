use Rattle.std.proofs.Common.{ap, sym, ◌∙◌, arith}
use Rattle.rpm_file.proofs.Vocabulary.{and_entries, behind_padding, behind_signature, browses_then, headed_part, headed_with, header, bytes_left, merged_header, stamp_items}
use Rattle.std.proofs.lemmas.Result.{err_from_is_err_and}
use Rattle.rpm_file.specs.declared.fault.HeaderKind.TheVariants as part
use Rattle.rpm_file.proofs.Extents.{padding_alone, padding_then}
use Rattle.rpm_file.proofs.Joined.{passed, padding_fault, main_fault, main_bad, main_good, made_answers, made_reads, with_layer}
use Rattle.rpm_file.proofs.Layers.{has_index}
use Rattle.rpm_file.proofs.package.read_main.Goals as goal

pub returns-in_err-skip_padding-clause-answers : goal.returns-in_err-skip_padding-clause-answers
returns-in_err-skip_padding-clause-answers g c = λ told.
    let s = c.args.signature.now in
    let more = stamp_items c.args.stamps.now in
    let bytes = bytes_left (g.S.Shelf.rest c.args.shelf.now) in
    let p = err_from_is_err_and c.from_residual.result c.from_residual.ensures.1 in
    let a = rw c.blob.ensures.value at c.in_err-skip_padding.ensures.answers told in
    rw (p.1, p.2) (passed (behind_padding s.blob bytes) (headed_with more (behind_signature s bytes)) c.in_err-skip_padding.field-0.0
    (λ f is. ap (headed_with more) (padding_fault s bytes f is)) a)

pub returns-in_err-blob-clause-answers : goal.returns-in_err-blob-clause-answers
returns-in_err-blob-clause-answers g c = λ told.
    let s = c.args.signature.now in
    let more = stamp_items c.args.stamps.now in
    let bytes = bytes_left (g.S.Shelf.rest c.args.shelf.now) in
    let mid = bytes_left (g.S.Shelf.rest c.skip_padding.new.shelf) in
    let p = err_from_is_err_and c.from_residual-in_err-blob.result c.from_residual-in_err-blob.ensures.1 in
    let skipped = rw c.blob.ensures.value at c.in_ok-skip_padding.ensures.answers told in
    rw (p.1, p.2) (passed (headed_part part.Main mid) (headed_with more (behind_signature s bytes)) c.in_err-blob.field-0.0
    (λ f is. ap (headed_with more) (main_fault s bytes mid f skipped is))
    (c.in_err-blob.ensures.answers told))

pub returns-in_err-blob-clause-browses : goal.returns-in_err-blob-clause-browses
returns-in_err-blob-clause-browses g c = browses_then g.S.Shelf
    c.args.shelf.now c.skip_padding.new.shelf c.read_part.new.shelf c.skip_padding.ensures.browses c.read_part.ensures.browses

pub returns-in_err-main-clause-answers : goal.returns-in_err-main-clause-answers
returns-in_err-main-clause-answers g c = λ told.
    let s = c.args.signature.now in
    let more = stamp_items c.args.stamps.now in
    let bytes = bytes_left (g.S.Shelf.rest c.args.shelf.now) in
    let mid = bytes_left (g.S.Shelf.rest c.skip_padding.new.shelf) in
    let rest = bytes_left (g.S.Shelf.rest c.read_part.new.shelf) in
    let p = err_from_is_err_and c.from_residual-in_err-main.result c.from_residual-in_err-main.ensures.1 in
    let skipped = rw c.blob.ensures.value at c.in_ok-skip_padding.ensures.answers told in
    rw (p.1, p.2) (ap (headed_with more) (main_bad s bytes mid c.in_ok-blob.blob.items rest skipped (c.in_ok-blob.ensures.answers told)
    c.in_err-main.field-0.0 (c.in_err-main.ensures.value ∙ ap header c.deref.ensures.value)))

pub returns-in_err-main-clause-browses : goal.returns-in_err-main-clause-browses
returns-in_err-main-clause-browses g c = browses_then g.S.Shelf
    c.args.shelf.now c.skip_padding.new.shelf c.read_part.new.shelf c.skip_padding.ensures.browses c.read_part.ensures.browses

pub returns-clause-answers : goal.returns-clause-answers
returns-clause-answers g c = λ told.
    let s = c.args.signature.now in
    let more = stamp_items c.args.stamps.now in
    let old = g.S.Shelf.rest c.args.shelf.now in
    let mid = g.S.Shelf.rest c.skip_padding.new.shelf in
    let new = g.S.Shelf.rest c.read_part.new.shelf in
    let skipped = rw c.blob.ensures.value at c.in_ok-skip_padding.ensures.answers told in
    let front = c.in_ok-blob.ensures.answers told in
    let whole = main_good s (bytes_left old) (bytes_left mid) c.in_ok-blob.blob.items (bytes_left new) skipped front c.in_ok-main.main
    (c.in_ok-main.ensures.value
    ∙ ap header c.deref.ensures.value) in
    let made = merged_header s.entries c.in_ok-main.main in
    made_answers (λ bytes. headed_with more (behind_signature s bytes)) (and_entries more made) old new c.joined.result
    (ap (headed_with more) whole ∙ with_layer more made (bytes_left new)) c.joined.ensures

pub returns-clause-browses : goal.returns-clause-browses
returns-clause-browses g c = browses_then g.S.Shelf c.args.shelf.now
    c.skip_padding.new.shelf c.read_part.new.shelf c.skip_padding.ensures.browses c.read_part.ensures.browses

pub returns-clause-cause : goal.returns-clause-cause
returns-clause-cause g c = record {
  later = omega (arith, c.skip_padding.ensures.cause.later, c.read_part.ensures.cause.later);
  rose = λ e. absurd (made_reads (and_entries (stamp_items c.args.stamps.now) (merged_header c.args.signature.now.entries c.in_ok-main.main))
      c.joined.result c.joined.ensures e);
}

pub joined-requires-clause-index : goal.joined-requires-clause-index
joined-requires-clause-index g c = has_index c.in_ok-blob.blob.items c.in_ok-main.main (sym (c.in_ok-main.ensures.value ∙ ap header c.deref.ensures.value))

pub returns-in_err-skip_padding-clause-extent : goal.returns-in_err-skip_padding-clause-extent
returns-in_err-skip_padding-clause-extent g c = λ told.
    padding_alone c.args.signature.now (g.S.Shelf.rest c.args.shelf.now) (g.S.Shelf.rest c.skip_padding.new.shelf)
    (rw c.blob.ensures.value at c.skip_padding.ensures.extent told)

pub returns-in_err-blob-clause-extent : goal.returns-in_err-blob-clause-extent
returns-in_err-blob-clause-extent g c = λ told.
    padding_then c.args.signature.now (g.S.Shelf.rest c.args.shelf.now) (g.S.Shelf.rest c.skip_padding.new.shelf) (g.S.Shelf.rest c.read_part.new.shelf)
    (rw c.blob.ensures.value at c.skip_padding.ensures.extent told) (rw c.blob.ensures.value at c.in_ok-skip_padding.ensures.answers told)
    (c.read_part.ensures.extent told)

pub returns-in_err-main-clause-extent : goal.returns-in_err-main-clause-extent
returns-in_err-main-clause-extent g c = λ told.
    padding_then c.args.signature.now (g.S.Shelf.rest c.args.shelf.now) (g.S.Shelf.rest c.skip_padding.new.shelf) (g.S.Shelf.rest c.read_part.new.shelf)
    (rw c.blob.ensures.value at c.skip_padding.ensures.extent told) (rw c.blob.ensures.value at c.in_ok-skip_padding.ensures.answers told)
    (c.read_part.ensures.extent told)

pub returns-clause-extent : goal.returns-clause-extent
returns-clause-extent g c = λ told.
    padding_then c.args.signature.now (g.S.Shelf.rest c.args.shelf.now) (g.S.Shelf.rest c.skip_padding.new.shelf) (g.S.Shelf.rest c.read_part.new.shelf)
    (rw c.blob.ensures.value at c.skip_padding.ensures.extent told) (rw c.blob.ensures.value at c.in_ok-skip_padding.ensures.answers told)
    (c.read_part.ensures.extent told)
