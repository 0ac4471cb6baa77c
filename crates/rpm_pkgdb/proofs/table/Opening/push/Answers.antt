use Rattle.std.proofs.Common.{◌≡◌, ℕ, List, length, true, false, sym, subst, ◌∙◌}
use Rattle.rpm_pkgdb.proofs.Vocabulary.{MapWithOne, get, HasPlaces, HasRanges, is_used, nat_cmp, Slot}
use Rattle.rpm_pkgdb.proofs.Known.{places_push, places_push_free, ranges_push, ranges_push_free, AreNumbered, numbered_push}
use Rattle.rpm_pkgdb.proofs.Sound.{fresh_blocks, fresh_number, is_free, is_taken}
use Rattle.rpm_pkgdb.proofs.table.Opening.push.Goals as goal

pub returns-then-slot-eq0-clause-known : goal.returns-then-slot-eq0-clause-known
returns-then-slot-eq0-clause-known c =
    let o = c.args.self.now in
    let unused : is_used c.args.slot ≡ false = is_free c.args.slot c.if-slot-eq0.true in
    let numbers : ℕ → _ = λ (q : ℕ). get nat_cmp o.numbers q in
    let ranges : ℕ → _ = λ (q : ℕ). get nat_cmp o.ranges q in
    record {
      places =
          subst (λ (xs : List Slot). HasPlaces numbers xs) (sym c.in_ok-push.ensures.items)
          (places_push_free numbers o.slots.items c.args.slot c.requires.can.known.places unused);
      ranges =
          subst (λ (xs : List Slot). HasRanges ranges xs) (sym c.in_ok-push.ensures.items)
          (ranges_push_free ranges o.slots.items c.args.slot c.requires.can.known.ranges unused);
      numbered =
          subst (λ (xs : List Slot). AreNumbered xs) (sym c.in_ok-push.ensures.items)
          (numbered_push o.slots.items c.args.slot c.requires.can.known.numbered c.requires.can.number);
    }

pub returns-clause-known : goal.returns-clause-known
returns-clause-known c =
    let o = c.args.self.now in
    let slot = c.args.slot in
    let used : is_used slot ≡ true = is_taken slot c.if-slot-eq0.false in
    let numbers : ℕ → _ = λ (q : ℕ). get nat_cmp o.numbers q in
    let ranges : ℕ → _ = λ (q : ℕ). get nat_cmp o.ranges q in
    let numbers_after : ℕ → _ = λ (q : ℕ). get nat_cmp c.put.new.map q in
    let ranges_after : ℕ → _ = λ (q : ℕ). get nat_cmp c.put-2.new.map q in
    let place : c.len.result ≡ length o.slots.items = c.len.ensures ∙ o.slots.ok.0 in
    let added : MapWithOne numbers numbers_after slot.number (length o.slots.items) =
    subst (λ (k : ℕ). MapWithOne numbers numbers_after slot.number k) place c.in_ok-put.ensures in
    record {
      places =
          subst (λ (xs : List Slot). HasPlaces numbers_after xs) (sym c.in_ok-push-2.ensures.items)
          (places_push numbers numbers_after o.slots.items slot c.requires.can.known.places added used (fresh_number o.slots.items slot c.requires.fresh used));
      ranges = subst (λ (xs : List Slot). HasRanges ranges_after xs) (sym c.in_ok-push-2.ensures.items)
          (ranges_push ranges ranges_after o.slots.items slot c.requires.can.known.ranges c.in_ok-put-2.ensures used (c.requires.can.some used)
          (fresh_blocks o.slots.items slot c.requires.fresh used));
      numbered =
          subst (λ (xs : List Slot). AreNumbered xs) (sym c.in_ok-push-2.ensures.items)
          (numbered_push o.slots.items slot c.requires.can.known.numbered c.requires.can.number);
    }
