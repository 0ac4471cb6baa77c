use Rattle.rpm_pkgdb.proofs.Vocabulary.{is_blank, IsFirstPage, IsDurable, MakesTo, Pkg, with_units, SameOutside, Torn, unit_at, Units}
use Rattle.std.proofs.Common.{◌≡◌, ℕ, List, [], ◌∷◌, sym, ap, ◌∙◌, subst, true, arith, IsTrue}
use Rattle.rpm_pkgdb.proofs.Changing.{map_ok, both_ok, writes_weaker, writes_then, writes_failed, crashes_while, crashes_next}
use Rattle.rpm_pkgdb.proofs.ClearLaws.{put_elsewhere, torn_outside, outside_then, outside_wider}
use Rattle.rpm_pkgdb.proofs.Makes.{says_blank, blank_after, while_first, while_headed, new_keeps, new_quiet}
use Rattle.rpm_pkgdb.proofs.make.write_new.Goals as goal

pub returns-in_err-write_first_page-clause-images : goal.returns-in_err-write_first_page-clause-images
returns-in_err-write_first_page-clause-images g c = λ told value none quiet.
    crashes_while g.D.Disk told MakesTo c.write_first_page.ensures.writes
    (λ from image was same. while_first from.pkg image.pkg (says_blank from.pkg value (quiet from was).keeps none) same)

pub returns-clause-images : goal.returns-clause-images
returns-clause-images g c = λ told value none quiet.
    let first = c.write_first_page.ensures.writes in
    crashes_next g.D.Disk told MakesTo first
    (crashes_while g.D.Disk told MakesTo first
    (λ from image was same. while_first from.pkg image.pkg (says_blank from.pkg value (quiet from was).keeps none) same))
    (crashes_while g.D.Disk told MakesTo c.write_one.ensures.writes
    (λ from image was torn.
    let past = first.changes.now told from was in
    let blank : is_blank from.pkg ≡ true = blank_after past.from.pkg from.pkg (says_blank past.from.pkg value (quiet past.from past.was).keeps none) past.pkg in
    let page : IsFirstPage from.pkg =
    subst IsFirstPage (sym (c.in_ok-write_first_page.ensures.durable told from was)) (c.in_ok-write_first_page.ensures.page told) in
    while_headed value c.head_unit.result c.head_unit.ensures from.pkg image.pkg blank page torn))

pub returns-clause-keeps : goal.returns-clause-keeps
returns-clause-keeps g c =
    let D = g.D.Disk in
    let mid = (D.files c.write_first_page.new.disk).pkg in
    let next = (D.files c.write_one.new.disk).pkg in
    map_ok c.write_one.result (λ (written : IsTrue D.tells
    → next ≡ with_units 0 (c.head_unit.result ∷ []) mid) told value. new_keeps value c.head_unit.result c.head_unit.ensures mid next
    (c.in_ok-write_first_page.ensures.page told) (written told)) c.write_one.ensures.written

pub returns-clause-quiet : goal.returns-clause-quiet
returns-clause-quiet g c =
    let D = g.D.Disk in
    let mid = (D.files c.write_first_page.new.disk).pkg in
    let next = D.files c.write_one.new.disk in
    let images = D.left_since c.write_one.new.disk (D.moment c.write_one.new.disk) in
    both_ok c.write_one.result (λ (written : IsTrue D.tells → next.pkg ≡ with_units 0 (c.head_unit.result ∷ []) mid) (durable : IsTrue D.tells
    → IsDurable Pkg next images) told value.
    new_quiet value c.head_unit.result c.head_unit.ensures next images
    (new_keeps value c.head_unit.result c.head_unit.ensures mid next.pkg (c.in_ok-write_first_page.ensures.page told) (written told)) (durable told))
    c.write_one.ensures.written c.write_one.ensures.durable

-- the page but for unit 0, and then unit 0
first_page : (x y : Units) → SameOutside 1 255 x y → SameOutside 0 256 x y
first_page x y same = outside_wider 1 255 0 256 x y (omega arith) (omega arith) same

then_head : (unit : List ℕ) (x y z : Units) → SameOutside 1 255 x y → Torn 0 (unit ∷ []) y z → SameOutside 0 256 x z
then_head unit x y z same torn =
    outside_then 0 256 x y z (first_page x y same) (outside_wider 0 1 0 256 y z (omega arith) (omega arith) (torn_outside 0 (unit ∷ []) y z torn))

pub returns-in_err-write_first_page-clause-writes : goal.returns-in_err-write_first_page-clause-writes
returns-in_err-write_first_page-clause-writes g c =
    writes_failed g.D.Disk (writes_weaker g.D.Disk c.in_err-write_first_page.ensures.writes (omega arith) first_page)

pub returns-clause-writes : goal.returns-clause-writes
returns-clause-writes g c =
    writes_then g.D.Disk g.met.D.Disk.follows_trans c.write_first_page.ensures.writes c.write_one.ensures.writes (omega arith) first_page
    (then_head c.head_unit.result)

pub returns-clause-next : goal.returns-clause-next
returns-clause-next g c =
    let D = g.D.Disk in
    let unit = c.head_unit.result in
    let mid = (D.files c.write_first_page.new.disk).pkg in
    let next = (D.files c.write_one.new.disk).pkg in
    map_ok c.write_one.result (λ (written : IsTrue D.tells → next ≡ with_units 0 (unit ∷ []) mid) told. ap (λ (u : Units). unit_at u 1) (written told)
    ∙ put_elsewhere 0 unit mid 1 (omega arith) ∙ (c.in_ok-write_first_page.ensures.page told).next) c.write_one.ensures.written
