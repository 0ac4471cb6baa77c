-- The first slot that meets an earlier one: over two lists, over one slot more, and where there is none.
use Rattle.std.proofs.Common.{◌≡◌, ℕ, suc, ◌+◌, ◌<◌, List, [], ◌∷◌, ◌++◌, length, take, drop, Option, None, refl, sym, ap, ◌∙◌, subst, arith, append_assoc, take-append-drop}
use Rattle.rpm_pkgdb.proofs.Vocabulary.{AllApart, AreSlotsApart, AreBounded, AreOwn, Damage, damage_at, Damaged, DiskFault, free, is_used, first_shared_fault, NoMemory}
use Rattle.rpm_pkgdb.proofs.Vocabulary.{OpenFault, option_map, option_or, option_or-assoc, Reason, run, SaysHere, shared_fault, shared_reason, Slot, slot_at}
use Rattle.rpm_pkgdb.proofs.Vocabulary.{slot_fault, slot_of, slots_in, Units}
use Rattle.std.proofs.Math.Seq.{get_or-append_seam}
use Rattle.std.proofs.lemmas.List.{append-nil, get_or_append_left, take_more}
use Rattle.rpm_pkgdb.proofs.Pairwise.{shared_none}
use Rattle.rpm_pkgdb.proofs.Steps.{or_else_none}

meeting-append : (earlier xs ys : List Slot) → first_shared_fault earlier (xs ++ ys)
    ≡ option_or (first_shared_fault earlier xs) (first_shared_fault (earlier ++ xs) ys)
meeting-append earlier [] ys = ap (λ (e : List Slot). first_shared_fault e ys) (sym (append-nil earlier))
meeting-append earlier (s ∷ ss) ys =
    let next = earlier ++ s ∷ [] in
    ap (λ (r : Option Damage). option_or (shared_fault earlier s) r) (meeting-append next ss ys)
    ∙ ap (λ (e : List Slot). option_or (shared_fault earlier s) (option_or (first_shared_fault next ss) (first_shared_fault e ys)))
    (append_assoc earlier (s ∷ []) ss)
    ∙ sym (option_or-assoc (shared_fault earlier s) (first_shared_fault next ss) (first_shared_fault (earlier ++ s ∷ ss) ys))

-- of units that are right by themselves it is the first fault
pub run_meeting : (pages units : ℕ) (earlier : List Slot) (us : Units) → AreOwn pages units us (length us)
    → run pages units earlier us ≡ first_shared_fault earlier (slots_in us)
unfolding slots_in
run_meeting pages units earlier [] own = refl
run_meeting pages units earlier (u ∷ us) own =
    let s = slot_of u in
    let here : slot_fault pages units earlier u ≡ shared_fault earlier s =
    ap (λ (o : Option Reason). option_map (damage_at (2 + length earlier)) (option_or o (shared_reason earlier s))) (own 0 (omega arith)) in
    ap (λ (o : Option Damage). option_or o (run pages units (earlier ++ s ∷ []) us)) here
    ∙ ap (λ (r : Option Damage). option_or (shared_fault earlier s) r)
    (run_meeting pages units (earlier ++ s ∷ []) us (λ k below. own (suc k) (omega (arith, below))))

pub meeting_none : (earlier ss : List Slot) → AllApart (earlier ++ ss) → AreBounded (earlier ++ ss) → first_shared_fault earlier ss ≡ None
meeting_none earlier [] apart bounded = refl
meeting_none earlier (s ∷ ss) apart bounded =
    let at : slot_at (earlier ++ s ∷ ss) (length earlier) ≡ s = get_or-append_seam earlier s ss free in
    let shared : shared_reason earlier s ≡ None = shared_none earlier s (λ used j below used_j.
    let was : slot_at (earlier ++ s ∷ ss) j ≡ slot_at earlier j = get_or_append_left earlier (s ∷ ss) free j below in
    let both = apart j (length earlier) (omega (arith, below)) (ap is_used was ∙ used_j) (ap is_used at ∙ used) in
    subst (λ (t : Slot). AreSlotsApart (slot_at earlier j) t) at
    (subst (λ (t : Slot). AreSlotsApart t (slot_at (earlier ++ s ∷ ss) (length earlier))) was both))
    (λ used. subst (λ (t : Slot). 0 < t.count) at (bounded (length earlier) (ap is_used at ∙ used)).0) in
    let same = append_assoc earlier (s ∷ []) ss in
    let rest = meeting_none (earlier ++ s ∷ []) ss (subst AllApart (sym same) apart) (subst AreBounded (sym same) bounded) in
    ap (λ (o : Option Reason). option_or (option_map (damage_at (2 + length earlier)) o) (first_shared_fault (earlier ++ s ∷ []) ss)) shared ∙ rest

module _ (slots now : List Slot) (k : ℕ) (below : k < length slots) (is : now ≡ take k slots) (none : first_shared_fault [] (take k slots) ≡ None) where
  here : first_shared_fault [] (take (k + 1) slots) ≡ shared_fault now (slot_at slots k)
  here =
      let s = slot_at slots k in
      ap (first_shared_fault []) (take_more slots k free below)
      ∙ meeting-append [] (take k slots) (s ∷ [])
      ∙ ap (λ (o : Option Damage). option_or o (first_shared_fault (take k slots) (s ∷ []))) none
      ∙ or_else_none (shared_fault (take k slots) s)
      ∙ ap (λ (ss : List Slot). shared_fault ss s) (sym is)

  pub meeting_more : shared_fault now (slot_at slots k) ≡ None → first_shared_fault [] (take (k + 1) slots) ≡ None
  meeting_more fault = here ∙ fault

  pub meeting_says : (e : OpenFault) → SaysHere e (shared_fault now (slot_at slots k)) → SaysHere e (first_shared_fault [] slots)
  meeting_says (Damaged d) fault =
      let rest = drop (k + 1) slots in
      ap (first_shared_fault []) (sym (take-append-drop (k + 1) slots))
      ∙ meeting-append [] (take (k + 1) slots) rest
      ∙ ap (λ (o : Option Damage). option_or o (first_shared_fault (take (k + 1) slots) rest)) (here ∙ fault)
  meeting_says DiskFault fault = fault
  meeting_says NoMemory fault = tt
