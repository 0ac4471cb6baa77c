-- A file whose units were changed in place.
use Rattle.std.proofs.Common.{◌≡◌, ℕ, suc, ◌+◌, ◌/◌, ◌<◌, ◌≤◌, max, List, [], ◌∷◌, ◌++◌, length, take, eqb, refl, sym, ap, ◌∙◌, arith, inl, inr}
use Rattle.std.proofs.lemmas.List.{take_more}
use Rattle.std.proofs.lemmas.Bool.{cases_Bool, eqb-true, cond-true, cond-false}
use Rattle.rpm_hindex.proofs.Vocabulary.{after_tail, after_units, ArePatches, KeepsIndexValue, length-cut_up, length-put, Patch, patch_at, Patches, with_units, put_before}
use Rattle.rpm_hindex.proofs.Vocabulary.{put_inside, IndexState, unit_at, Units, units_of}

pub after_push : (ps : List Patch) (p : Patch) (file : Units) → after_units (ps ++ p ∷ []) file ≡ with_units p.unit (p.words ∷ []) (after_units ps file)
after_push [] p file = refl
after_push (q ∷ ps) p file = after_push ps p (with_units q.unit (q.words ∷ []) file)

pub after_next : (ps : List Patch) (k : ℕ) (file : Units) → k < length ps → after_units (take (k + 1) ps) file ≡ with_units (patch_at ps k).unit
    ((patch_at ps k).words ∷ []) (after_units (take k ps) file)
after_next ps k file lt = ap (λ (qs : List Patch). after_units qs file) (take_more ps k (record { unit = 0; words = [] }) lt) ∙ after_push (take k ps)
    (patch_at ps k) file

abbrev pub Within : ℕ → List Patch → Type 0
Within end ps = (k : ℕ) → k < length ps → (1 ≤ (patch_at ps k).unit) × ((patch_at ps k).unit < end)

pub units_front : (end : ℕ) (ps : List Patch) (file : Units) → Within end ps → unit_at (after_units ps file) 0 ≡ unit_at file 0
units_front end [] file each = refl
units_front end (p ∷ ps) file each =
    units_front end ps (with_units p.unit (p.words ∷ []) file) (λ k lt. each (suc k) (omega arith))
    ∙ put_before p.unit (p.words ∷ []) file 0 ((each 0 (omega arith)).0)

pub units_long : (end : ℕ) (ps : List Patch) (file : Units) → Within end ps → end ≤ length file → length (after_units ps file) ≡ length file
units_long end [] file each le = refl
units_long end (p ∷ ps) file each le =
    let one : length (with_units p.unit (p.words ∷ []) file) ≡ length file = omega (arith, length-put p.unit (p.words ∷ []) file, each 0 (omega arith)) in
    units_long end ps (with_units p.unit (p.words ∷ []) file) (λ k lt. each (suc k) (omega arith)) (omega arith) ∙ one

pub tail_front : (used : ℕ) (tail : List ℕ) (file : Units) → 1 ≤ used → unit_at (after_tail used tail file) 0 ≡ unit_at file 0
tail_front used tail file from = elim (cases_Bool (eqb (length tail) 0)) [
  | inl none ↦ ap (λ (f : Units). unit_at f 0) (cond-true (eqb (length tail) 0) file (with_units used (units_of tail) file) none)
  | inr some ↦ ap (λ (f : Units). unit_at f 0) (cond-false (eqb (length tail) 0) file (with_units used (units_of tail) file) some) ∙ put_before used
      (units_of tail) file 0 from
]

pub tail_long : (used : ℕ) (tail : List ℕ) (file : Units) → used ≤ length file → length (after_tail used tail file) ≡ max (length file)
    (used + length tail / 16)
tail_long used tail file le = elim (cases_Bool (eqb (length tail) 0)) [
  | inl none ↦
      let e = eqb-true (length tail) 0 none in
      let is : length (after_tail used tail file) ≡ length file = ap length
      (cond-true (eqb (length tail) 0) file (with_units used (units_of tail) file) none) in
      omega arith
  | inr some ↦
      let is : length (after_tail used tail file) ≡ length (with_units used (units_of tail) file) = ap length (cond-false (eqb (length tail) 0) file
      (with_units used (units_of tail) file) some) in
      omega (arith, length-put used (units_of tail) file, length-cut_up (length tail / 16) tail)
]

pub patched_kept : (p : Patches) (s : IndexState) (units pending : ℕ) (old new : Units) → ArePatches s.units p → KeepsIndexValue old s
    → new ≡ with_units 1 (p.second ∷ [])
    (after_tail p.used p.tail.items (after_units p.units.items old))
    → units ≡ max s.units (p.used + length p.tail.items / 16) → KeepsIndexValue new
    (record { first = s.first; second = p.second; units = units; pending = pending })
patched_kept p s units pending old new are keeps is long =
    let mid = after_units p.units.items old in
    let late = after_tail p.used p.tail.items mid in
    let size = units_long p.used p.units.items old are.each (omega (arith, are.fits, keeps.units)) in
    let grown = tail_long p.used p.tail.items mid (omega (arith, size, are.fits, keeps.units)) in
    let front : unit_at new 0 ≡ unit_at old 0 =
    ap (λ (f : Units). unit_at f 0) is ∙ put_before 1 (p.second ∷ []) late 0 (omega arith)
    ∙ tail_front p.used p.tail.items mid (omega (arith, are.from)) ∙ units_front p.used p.units.items old are.each in
    record {
      first = keeps.first ∙ sym front;
      second = sym (ap (λ (f : Units). unit_at f 1) is ∙ put_inside 1 (p.second ∷ []) late 0 (omega arith));
      units = omega (arith, long, keeps.units, ap length is, length-put 1 (p.second ∷ []) late, grown, size, are.from, are.fits);
    }
