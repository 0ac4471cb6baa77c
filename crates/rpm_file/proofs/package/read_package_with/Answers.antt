use Rattle.std.proofs.Common.{◌≡◌, Result, Ok, Err, ap, ◌∙◌, refl, sym}
use Rattle.rpm_file.proofs.Vocabulary.{behind_lead, behind_signature, browses_then, FileFault, headed_part, headed_with, Header, header, HeaderFault, IsErrAnd, bytes_left, MatchResult, package_with}
use Rattle.rpm_file.proofs.Vocabulary.{Signature, stamp_items}
use Rattle.std.proofs.lemmas.Result.{err_from_is_err_and}
use Rattle.rpm_file.specs.declared.fault.HeaderKind.TheVariants as part
use Rattle.rpm_file.proofs.Extents.{lead_alone, lead_then, main_then}
use Rattle.rpm_file.proofs.Joined.{headed_is, passed, lead_fault, signature_fault, signature_bad, signature_good, whole_answers}
use Rattle.rpm_file.proofs.package.read_package_with.Goals as goal

-- what was parsed, before its fault was named
abbrev Named : Result Header HeaderFault → Result Header FileFault → Type 0
Named parsed named = MatchResult parsed (λ x. named ≡ Ok x) (λ e. IsErrAnd named (λ f. f ≡ Signature e))

ok_before : (parsed : Result Header HeaderFault) (named : Result Header FileFault) → Named parsed named → (h : Header) → named ≡ Ok h
    → parsed ≡ Ok h
ok_before (Ok x) named is h was = cc
ok_before (Err e) named is h was = let p = err_from_is_err_and named is in cc

err_before : (parsed : Result Header HeaderFault) (named : Result Header FileFault) → Named parsed named → (f : FileFault) → named ≡ Err f
    → (e : HeaderFault) × (parsed ≡ Err e) × (f ≡ Signature e)
err_before (Ok x) named is f was = cc
err_before (Err e) named is f was = let p = err_from_is_err_and named is in (e, refl, cc)

pub returns-in_err-skip_lead-clause-answers : goal.returns-in_err-skip_lead-clause-answers
returns-in_err-skip_lead-clause-answers g c = λ told.
    let bytes = bytes_left (g.S.Shelf.rest c.args.shelf.now) in
    let more = stamp_items c.args.stamps.now in
    let p = err_from_is_err_and c.from_residual.result c.from_residual.ensures.1 in
    rw (p.1, p.2) (passed (behind_lead bytes) (package_with more bytes) c.in_err-skip_lead.field-0.0
    (λ f is. ap (headed_with more) (lead_fault bytes f is)) (c.in_err-skip_lead.ensures.answers told))

pub returns-in_err-blob-clause-answers : goal.returns-in_err-blob-clause-answers
returns-in_err-blob-clause-answers g c = λ told.
    let bytes = bytes_left (g.S.Shelf.rest c.args.shelf.now) in
    let more = stamp_items c.args.stamps.now in
    let mid = bytes_left (g.S.Shelf.rest c.skip_lead.new.shelf) in
    let p = err_from_is_err_and c.from_residual-in_err-blob.result c.from_residual-in_err-blob.ensures.1 in
    let lead = c.in_ok-skip_lead.ensures.answers told in
    rw (p.1, p.2) (passed (headed_part part.Signature mid) (package_with more bytes) c.in_err-blob.field-0.0
    (λ f is. ap (headed_with more) (signature_fault bytes mid f lead is))
    (c.in_err-blob.ensures.answers told))

pub returns-in_err-blob-clause-browses : goal.returns-in_err-blob-clause-browses
returns-in_err-blob-clause-browses g c = browses_then g.S.Shelf
    c.args.shelf.now c.skip_lead.new.shelf c.read_part.new.shelf c.skip_lead.ensures.browses c.read_part.ensures.browses

pub returns-in_err-signature-clause-answers : goal.returns-in_err-signature-clause-answers
returns-in_err-signature-clause-answers g c = λ told.
    let bytes = bytes_left (g.S.Shelf.rest c.args.shelf.now) in
    let more = stamp_items c.args.stamps.now in
    let mid = bytes_left (g.S.Shelf.rest c.skip_lead.new.shelf) in
    let rest = bytes_left (g.S.Shelf.rest c.read_part.new.shelf) in
    let p = err_from_is_err_and c.from_residual-in_err-signature.result c.from_residual-in_err-signature.ensures.1 in
    let q = err_before c.parse.result c.map_err.result c.map_err.ensures.cases c.in_err-signature.field-0.0 c.in_err-signature.was in
    rw (p.1, p.2, q.2) (ap (headed_with more) (signature_bad bytes mid c.in_ok-blob.blob.items rest (c.in_ok-skip_lead.ensures.answers told)
    (c.in_ok-blob.ensures.answers told) q.0 (sym q.1 ∙ c.parse.ensures.value ∙ ap header c.deref.ensures.value)))

pub returns-in_err-signature-clause-browses : goal.returns-in_err-signature-clause-browses
returns-in_err-signature-clause-browses g c = browses_then g.S.Shelf
    c.args.shelf.now c.skip_lead.new.shelf c.read_part.new.shelf c.skip_lead.ensures.browses c.read_part.ensures.browses

pub returns-clause-answers : goal.returns-clause-answers
returns-clause-answers g c = λ told.
    let more = stamp_items c.args.stamps.now in
    let old = g.S.Shelf.rest c.args.shelf.now in
    let lead = g.S.Shelf.rest c.skip_lead.new.shelf in
    let mid = g.S.Shelf.rest c.read_part.new.shelf in
    let new = g.S.Shelf.rest c.read_main.new.shelf in
    let parsed = ok_before c.parse.result c.map_err.result c.map_err.ensures.cases c.in_ok-signature.signature c.in_ok-signature.was in
    let whole = signature_good (bytes_left old) (bytes_left lead) c.in_ok-blob.blob.items (bytes_left mid) (c.in_ok-skip_lead.ensures.answers told)
    (c.in_ok-blob.ensures.answers told) c.in_ok-signature.signature (sym parsed ∙ c.parse.ensures.value ∙ ap header c.deref.ensures.value) in
    whole_answers (λ bytes. headed_with more (behind_signature c.in_ok-signature.signature bytes)) (package_with more) old mid new c.read_main.result
    (ap (headed_with more) whole) (c.read_main.ensures.answers told)

pub returns-clause-browses : goal.returns-clause-browses
returns-clause-browses g c =
    let first = browses_then g.S.Shelf c.args.shelf.now c.skip_lead.new.shelf
    c.read_part.new.shelf c.skip_lead.ensures.browses c.read_part.ensures.browses in
    browses_then g.S.Shelf c.args.shelf.now c.read_part.new.shelf
    c.read_main.new.shelf first c.read_main.ensures.browses

pub returns-in_err-skip_lead-clause-extent : goal.returns-in_err-skip_lead-clause-extent
returns-in_err-skip_lead-clause-extent g c = λ told.
    lead_alone (g.S.Shelf.rest c.args.shelf.now) (g.S.Shelf.rest c.skip_lead.new.shelf) (c.skip_lead.ensures.extent told)

pub returns-in_err-blob-clause-extent : goal.returns-in_err-blob-clause-extent
returns-in_err-blob-clause-extent g c = λ told.
    lead_then (g.S.Shelf.rest c.args.shelf.now) (g.S.Shelf.rest c.skip_lead.new.shelf) (g.S.Shelf.rest c.read_part.new.shelf)
    (c.skip_lead.ensures.extent told) (c.in_ok-skip_lead.ensures.answers told) (c.read_part.ensures.extent told)

pub returns-in_err-signature-clause-extent : goal.returns-in_err-signature-clause-extent
returns-in_err-signature-clause-extent g c = λ told.
    lead_then (g.S.Shelf.rest c.args.shelf.now) (g.S.Shelf.rest c.skip_lead.new.shelf) (g.S.Shelf.rest c.read_part.new.shelf)
    (c.skip_lead.ensures.extent told) (c.in_ok-skip_lead.ensures.answers told) (c.read_part.ensures.extent told)

pub returns-clause-extent : goal.returns-clause-extent
returns-clause-extent g c = λ told.
    let old = g.S.Shelf.rest c.args.shelf.now in
    let lead = g.S.Shelf.rest c.skip_lead.new.shelf in
    let mid = g.S.Shelf.rest c.read_part.new.shelf in
    let s = c.in_ok-signature.signature in
    let skipped = c.in_ok-skip_lead.ensures.answers told in
    let parsed = ok_before c.parse.result c.map_err.result c.map_err.ensures.cases s c.in_ok-signature.was in
    let found = headed_is part.Signature (bytes_left lead) c.in_ok-blob.blob.items (bytes_left mid) (Ok s) (c.in_ok-blob.ensures.answers told)
    (sym parsed ∙ c.parse.ensures.value ∙ ap header c.deref.ensures.value) in
    main_then old lead mid (g.S.Shelf.rest c.read_main.new.shelf) s (c.skip_lead.ensures.extent told) skipped (c.read_part.ensures.extent told) found
    (c.read_main.ensures.extent told)
