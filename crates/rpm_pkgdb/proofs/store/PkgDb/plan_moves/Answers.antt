use Rattle.std.proofs.Common.{◌≡◌, ℕ, ◌+◌, ◌*◌, ◌<◌, List, [], ap, sym, subst, ◌∙◌, arith, Err}
use Rattle.rpm_pkgdb.proofs.Vocabulary.{after_moves, AllMoved, AreBehind, AreMoves, CantMove, count_before, HasPlacesBefore, IsFirstBefore}
use Rattle.rpm_pkgdb.proofs.Vocabulary.{IsPlanning, next_end, Page, Slot, Store, StoreFull, vec_len}
use Rattle.std.proofs.lemmas.List.{nil_from_length}
use Rattle.rpm_pkgdb.proofs.Changing.{err_given}
use Rattle.rpm_pkgdb.proofs.PageLaws.{cant_move, all_moved, fewer_before}
use Rattle.rpm_pkgdb.proofs.store.PkgDb.plan_moves.Goals as goal

-- no moves yet
planning_none : (slots : List Slot) (end : ℕ) (page : Page) → vec_len page.moves ≡ 0 → page.slots.items ≡ slots → IsPlanning slots end page
planning_none slots end page none same =
    let empty : page.moves.items ≡ [] = nil_from_length page.moves.items (omega (arith, none)) in
    record { moves = subst (AreMoves slots end) (sym empty) tt; slots_are = same ∙ ap (after_moves slots) (sym empty) }

pub returns-in_err-add_move-clause-full : goal.returns-in_err-add_move-clause-full
returns-in_err-add_move-clause-full c =
    let st = c.args.self.now in
    let l = c.loop-place in
    let end = 256 * (c.self.inside.pages + 1) in
    let same : end ≡ next_end st = ap (λ (v : Store). next_end v) c.self.view_is in
    let given = c.from_residual-in_err-add_move in
    err_given (λ r. r ≡ Err StoreFull → CantMove st.slots (next_end st)) _ given.result given.ensures (λ full.
    let fault : c.in_err-add_move.field-0.0 ≡ StoreFull = cc in
    subst (CantMove st.slots) same
    (cant_move st.slots end l.page l.invariant.planning c.in-Some.place
    (subst (λ (s : List Slot). IsFirstBefore s end c.in-Some.place) c.deref-in-loop-place.ensures.value c.in-Some.ensures)
    (c.in_err-add_move.ensures.full (ap Err fault))))

pub loop-place-smaller : goal.loop-place-smaller
loop-place-smaller c =
    let end = 256 * (c.self.inside.pages + 1) in
    let slots = c.loop-place.page.slots.items in
    let m = c.in_ok-add_move.ensures.moved in
    subst (λ (l : List Slot). count_before end l < count_before end slots) (sym m.2)
    (fewer_before slots end c.in-Some.place m.0 (subst (λ (l : List Slot). IsFirstBefore l end c.in-Some.place) c.deref-in-loop-place.ensures.value
    c.in-Some.ensures) m.1)

pub returns-clause-page : goal.returns-clause-page
returns-clause-page c =
    let st = c.args.self.now in
    let l = c.loop-place in
    let end = 256 * (c.self.inside.pages + 1) in
    let same : end ≡ next_end st = ap (λ (v : Store). next_end v) c.self.view_is in
    subst (λ (n : ℕ). AllMoved st.slots n l.page) same
    (all_moved st.slots end l.page l.invariant.planning (subst (λ (s : List Slot). AreBehind s end) c.deref-in-loop-place.ensures.value
    c.in_default.ensures))

pub loop-place-init : goal.loop-place-init
loop-place-init c = record {
  ranged = c.in_ok-page.ensures.ranged;
  planning = planning_none c.args.self.now.slots (256 * (c.self.inside.pages + 1)) c.in_ok-page.page c.in_ok-page.ensures.none c.in_ok-page.ensures.slots;
  places =
      let same = c.deref.ensures.value ∙ (ap (λ (v : Store). v.slots) c.self.view_is ∙ sym c.in_ok-page.ensures.slots) in
      subst (λ (s : List Slot). HasPlacesBefore s (256 * (c.self.inside.pages + 1)) c.in_ok-places.places.items) same c.in_ok-places.ensures;
}
