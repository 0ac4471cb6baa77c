use Rattle.std.proofs.Common.{◌≡◌, ℕ, ◌≤◌, ◌<◌, [], length, get_or, drop, refl, ap, ◌∙◌, arith}
use Rattle.rpm_graph.proofs.Vocabulary.{Listing, row_lists, with_item, with_items, with_link}
use Rattle.std.proofs.lemmas.List.{length-map, take_at, get_or_default}
use Rattle.rpm_graph.proofs.Sets.{insert_kept, insert_only, insert_there, pair_total, pair_exact}
use Rattle.rpm_graph.proofs.Settling.{row_below, first_read, waits_underway, waits_keeps, waits_placed, ready_underway, ready_keeps, ready_placed}
use Rattle.rpm_graph.proofs.Steps.{row_read}
use Rattle.rpm_graph.proofs.listing.Listing.settle.Goals as goal

pub first_unlisted-at-requires : goal.first_unlisted-at-requires
first_unlisted-at-requires c =
    let ends = row_lists c.args.ends.now in
    let u = c.requires.underway in
    let long = length-map c.args.ends.now (λ r. r.items) in
    let row : c.deref-row.result.now ≡ get_or ends c.args.class []
    = c.deref-row.ensures.value ∙ row_read c.args.ends.now c.args.class c.index-ends-class.result c.requires.inside c.index-ends-class.is in
    let inside : c.args.class < length c.args.self.now.checked.items = omega (arith, c.requires.inside, u.checked_long, long) in
    record {
      within = λ i lt.
          let below = row_below ends c.requires.falls c.args.class i (omega (arith, lt, ap length row)) in
          omega (arith, below, ap (λ l. get_or l i 0) row, ap length c.deref.ensures.value, u.listed_long, c.requires.inside, long);
      inside = omega (
        arith,
        c.index.ensures,
        get_or_default c.args.self.now.checked.items c.args.class c.index.result.now 0 inside,
        u.checked_in c.args.class,
        ap length row,
      );
    }

pub push_link-requires : goal.push_link-requires
push_link-requires c =
    let ends = row_lists c.args.ends.now in
    let at = c.first_unlisted-at.result in
    let row : c.deref-row.result.now ≡ get_or ends c.args.class []
    = c.deref-row.ensures.value ∙ row_read c.args.ends.now c.args.class c.index-ends-class.result c.requires.inside c.index-ends-class.is in
    let below = row_below ends c.requires.falls c.args.class at (omega (arith, c.if-at-row.true, ap length row)) in
    omega (
      arith,
      below,
      ap (λ l. get_or l at 0) row,
      ap length c.deref_mut.ensures.value,
      c.requires.underway.waiting_long,
      c.requires.inside,
      length-map c.args.ends.now (λ r. r.items),
    )

pub returns-in_ok-push_link : goal.returns-in_ok-push_link
returns-in_ok-push_link c =
    let ends = row_lists c.args.ends.now in
    let leasts = c.args.leasts.now in
    let s = c.args.self.now in
    let u = c.requires.underway in
    let class = c.args.class in
    let at = c.first_unlisted-at.result in
    let row : c.deref-row.result.now ≡ get_or ends class []
    = c.deref-row.ensures.value ∙ row_read c.args.ends.now class c.index-ends-class.result c.requires.inside c.index-ends-class.is in
    let inside : class < length ends = omega (arith, c.requires.inside, length-map c.args.ends.now (λ r. r.items)) in
    let first = first_read (get_or ends class []) c.deref-row.result.now s.listed.items c.deref.result.now s.checked.items class c.index.result.now at
    row c.deref.ensures.value (omega (arith, inside, u.checked_long)) c.index.ensures c.first_unlisted-at.ensures in
    let short : at < length (get_or ends class []) = omega (arith, c.if-at-row.true, ap length row) in
    let next = c.push_link.new.rows in
    let waiting = ap row_lists (take_at next (drop (length next) s.waiting.items) s.waiting.len (c.push_link.auto.rows ∙ c.deref_mut.ensures.len))
    ∙ c.in_ok-push_link.ensures ∙ ap (λ l. with_link (row_lists l) (get_or c.deref-row.result.now at 0) class) c.deref_mut.ensures.value
    ∙ ap (λ l. with_link (row_lists s.waiting.items) (get_or l at 0) class) row in
    let t : Listing = record { checked = with_item s.checked class at; waiting = with_items s.waiting next; listed = s.listed; ready = s.ready } in
    record {
      underway = waits_underway ends leasts c.requires.falls s u class inside c.requires.unlisted at first short t refl waiting refl refl;
      same = refl;
      keeps = waits_keeps ends leasts c.requires.falls s u class inside c.requires.unlisted at first short t refl waiting refl refl;
      placed = waits_placed ends leasts c.requires.falls s u class inside c.requires.unlisted at first short t refl waiting refl refl;
    }

pub returns-in_ok-insert : goal.returns-in_ok-insert
returns-in_ok-insert c =
    let ends = row_lists c.args.ends.now in
    let leasts = c.args.leasts.now in
    let s = c.args.self.now in
    let u = c.requires.underway in
    let class = c.args.class in
    let at = c.first_unlisted-at.result in
    let row : c.deref-row.result.now ≡ get_or ends class []
    = c.deref-row.ensures.value ∙ row_read c.args.ends.now class c.index-ends-class.result c.requires.inside c.index-ends-class.is in
    let inside : class < length ends = omega (arith, c.requires.inside, length-map c.args.ends.now (λ r. r.items)) in
    let first = first_read (get_or ends class []) c.deref-row.result.now s.listed.items c.deref.result.now s.checked.items class c.index.result.now at
    row c.deref.ensures.value (omega (arith, inside, u.checked_long)) c.index.ensures c.first_unlisted-at.ensures in
    let long : length (get_or ends class []) ≤ at = omega (arith, c.if-at-row.false, ap length row) in
    let key : ℕ × ℕ = (get_or leasts class 0, class) in
    let more = c.insert.new.self in
    let up = c.in_ok-insert.ensures.updates in
    let there = insert_there pair_total pair_exact s.ready more key up in
    let kept = insert_kept pair_total pair_exact s.ready more key up in
    let only = insert_only pair_total pair_exact s.ready more key up in
    let t : Listing = record { checked = with_item s.checked class at; waiting = s.waiting; listed = s.listed; ready = more } in
    record {
      underway = ready_underway ends leasts c.requires.falls s u class inside c.requires.unlisted at first long t refl refl refl there kept only;
      same = refl;
      keeps = ready_keeps ends leasts c.requires.falls s u class inside c.requires.unlisted at first long t refl refl refl there kept only;
      placed = ready_placed ends leasts c.requires.falls s u class inside c.requires.unlisted at first long t refl refl refl there kept only;
    }
