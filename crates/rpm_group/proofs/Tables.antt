-- What is held in a table of which one page was put, and units that are held page by page.
use Rattle.std.proofs.Common.{◌≡◌, ◌⊎◌, inl, inr, ⊎_elim, ℕ, ◌+◌, ◌-◌, ◌*◌, ◌/◌, ◌%◌, ◌<◌, ◌≤◌, List, [], ◌∷◌, ◌++◌, length, take, drop, map, get_or, set, sym, ap, ◌∙◌, arith, get_or-set_same, get_or-set_other}
use Rattle.std.specs.Prelude.{Option, Some, None, Box, is_some}
use Rattle.rpm_group.proofs.Vocabulary.{Global, held_at, HoldsUnits, in_paged, KeepsPages, Leaf, LeafKeeps, LeafSame, LeafWrote, Page, page_at, page_in}
use Rattle.rpm_group.proofs.Vocabulary.{SameHeld, SamePages, Table, unit_in}
use Rattle.std.proofs.lemmas.List.{length-take, length-drop, length-map, map-append, map-set, get_or-map, get_or_append_left, get_or_past, length_push, get_or_push, get_or-take, get_or-drop, same_lists}
use Rattle.std.proofs.lemmas.Bool.{cases_lt, cases_eq, cases_order}

pub push_default : {A : Type 0} (xs : List A) (d : A) (i : ℕ) → get_or (xs ++ d ∷ []) i d ≡ get_or xs i d
push_default xs d i = elim (cases_order i (length xs)) [
  | inl same ↦ get_or_push xs d d i (sym same) ∙ sym (get_or_past xs i d (omega (arith, same)))
  | inr other ↦ elim other [
    | inl below ↦ get_or_append_left xs (d ∷ []) d i below
    | inr past ↦ get_or_past (xs ++ d ∷ []) i d (omega (arith, length_push xs d)) ∙ sym (get_or_past xs i d (omega arith))
  ]
]

abbrev items : Leaf → List (Option (Box Page Global))
items leaf = leaf.items

-- a page of a leaf that was read, and one of a leaf that isn't there
pub page_read : (table : Table) (q : ℕ) (leaf : Leaf) → q / 256 < length table → leaf ≡ get_or table (q / 256) leaf → page_at table q ≡ page_in leaf (q % 256)
page_read table q leaf below is = ap (λ (pages : List (Option (Box Page Global))). get_or pages (q % 256) None)
    (get_or-map items table (q / 256) leaf [] below ∙ sym (ap items is))

pub page_past : (table : Table) (q : ℕ) → length table ≤ q / 256 → page_at table q ≡ None
page_past table q past = ap (λ (pages : List (Option (Box Page Global))). get_or pages (q % 256) None)
    (get_or_past (map items table) (q / 256) [] (omega (arith, past, length-map table items)))

pub leaf_pushed : (table : Table) (leaf : Leaf) → leaf.items ≡ [] → SamePages table (table ++ leaf ∷ [])
leaf_pushed table leaf empty q = ap (λ (pages : List (Option (Box Page Global))). get_or pages (q % 256) None)
    (ap (λ (all : List (List (Option (Box Page Global)))). get_or all (q / 256) []) (map-append items table (leaf ∷ [])
    ∙ ap (λ (last : List (Option (Box Page Global))). map items table ++ last ∷ []) empty)
    ∙ push_default (map items table) [] (q / 256))

pub same_held : (old new : Table) → SamePages old new → SameHeld old new
unfolding held_at
same_held old new same i = ap (λ (p : Option (Box Page Global)). in_paged p (i % 256)) (same (i / 256))

pub held_here : (table : Table) (q i : ℕ) → i / 256 ≡ q → held_at table i ≡ in_paged (page_at table q) (i % 256)
unfolding held_at
held_here table q i is = ap (λ (p : ℕ). in_paged (page_at table p) (i % 256)) is

-- a leaf in place of another
module _ (table : Table) (g : ℕ) (old new : Leaf) (below : g < length table) (is : old ≡ get_or table g old) where
  pub page_set_here : (q : ℕ) → q / 256 ≡ g → page_at (set table g new) q ≡ page_in new (q % 256)
  page_set_here q here = ap (λ (pages : List (Option (Box Page Global))). get_or pages (q % 256) None)
      (ap (λ (i : ℕ). get_or (map items (set table g new)) i []) here
      ∙ ap (λ (all : List (List (Option (Box Page Global)))). get_or all g []) (map-set items table g new)
      ∙ get_or-set_same (map items table) g new.items [] (omega (arith, below, length-map table items)))

  page_was_here : (q : ℕ) → q / 256 ≡ g → page_at table q ≡ page_in old (q % 256)
  page_was_here q here = ap (λ (pages : List (Option (Box Page Global))). get_or pages (q % 256) None)
      (ap (λ (i : ℕ). get_or (map items table) i []) here ∙ get_or-map items table g old [] below ∙ sym (ap items is))

  page_set_other : (q : ℕ) → (q / 256 ≡ g → ⊥) → page_at (set table g new) q ≡ page_at table q
  page_set_other q other = ap (λ (pages : List (Option (Box Page Global))). get_or pages (q % 256) None)
      (ap (λ (all : List (List (Option (Box Page Global)))). get_or all (q / 256) []) (map-set items table g new)
      ∙ get_or-set_other (map items table) g (q / 256) new.items [] other)

  pub same_set : LeafSame old new → SameHeld table (set table g new)
  unfolding held_at
  same_set same i = elim (cases_eq (i / 256 / 256) g) [
    | inl here ↦
        ap (λ (p : Option (Box Page Global)). in_paged p (i % 256)) (page_set_here (i / 256) here)
        ∙ same (i / 256 % 256) (i % 256)
        ∙ sym (ap (λ (p : Option (Box Page Global)). in_paged p (i % 256)) (page_was_here (i / 256) here))
    | inr other ↦ ap (λ (p : Option (Box Page Global)). in_paged p (i % 256)) (page_set_other (i / 256) other)
  ]

  pub keeps_set : LeafKeeps old new → KeepsPages table (set table g new)
  keeps_set keeps q there = elim (cases_eq (q / 256) g) [
    | inl here ↦ ap is_some (page_set_here q here) ∙ keeps (q % 256) (sym (ap is_some (page_was_here q here)) ∙ there)
    | inr other ↦ ap is_some (page_set_other q other) ∙ there
  ]

  module _ (q at : ℕ) (bytes : List ℕ) (here : q / 256 ≡ g) (wrote : LeafWrote (q % 256) at bytes old new) where
    other_page : (i : ℕ) → (i / 256 ≡ q → ⊥) → held_at (set table g new) i ≡ held_at table i
    unfolding held_at
    other_page i differs = ap (λ (p : Option (Box Page Global)). in_paged p (i % 256)) (elim (cases_eq (i / 256 / 256) g) [
      | inl near ↦
          page_set_here (i / 256) near
          ∙ wrote.other (i / 256 % 256) (λ e. differs (omega (arith, e, near, here)))
          ∙ sym (page_was_here (i / 256) near)
      | inr far ↦ page_set_other (i / 256) far
    ])

  pub wrote_set : (q at : ℕ) (bytes : List ℕ) → q / 256 ≡ g → at + length bytes / 16 ≤ 256 → LeafWrote (q % 256) at bytes old new
      → HoldsUnits (256 * q + at) bytes table (set table g new)
  wrote_set q at bytes here within wrote = record { inside = inside; outside = outside }
    where
      inside : (k : ℕ) → k < length bytes / 16 → held_at (set table g new) (256 * q + at + k) ≡ Some (unit_in bytes k)
      inside k less =
          let place : (256 * q + at + k) / 256 ≡ q = omega arith in
          let rest : (256 * q + at + k) % 256 ≡ at + k = omega arith in
          held_here (set table g new) q (256 * q + at + k) place
          ∙ ap (λ (p : Option (Box Page Global)). in_paged p ((256 * q + at + k) % 256)) (page_set_here q here)
          ∙ ap (λ (j : ℕ). in_paged (page_in new (q % 256)) j) rest
          ∙ wrote.inside k less

      outside : (i : ℕ) → (i < 256 * q + at) ⊎ (256 * q + at + length bytes / 16 ≤ i) → held_at (set table g new) i ≡ held_at table i
      outside i out = elim (cases_eq (i / 256) q) [
        | inl same ↦
            held_here (set table g new) q i same
            ∙ ap (λ (p : Option (Box Page Global)). in_paged p (i % 256)) (page_set_here q here)
            ∙ wrote.outside (i % 256) (⊎_elim (λ before. inl (omega (arith, before, same))) (λ past. inr (omega (arith, past, same))) out)
            ∙ sym (ap (λ (p : Option (Box Page Global)). in_paged p (i % 256)) (page_was_here q here))
            ∙ sym (held_here table q i same)
        | inr differs ↦ other_page q at bytes here wrote i differs
      ]

-- ---- one part after another

pub unit_in_part : (bytes : List ℕ) (from n size k : ℕ) → size ≡ 16 * n → k < n → unit_in (take size (drop (16 * from) bytes)) k ≡ unit_in bytes (from + k)
unit_in_part bytes from n size k is below = same_lists (unit_in (take size (drop (16 * from) bytes)) k) (unit_in bytes (from + k))
    (omega (
      arith,
      length-take 16 (drop (16 * k) (take size (drop (16 * from) bytes))),
      length-drop (16 * k) (take size (drop (16 * from) bytes)),
      length-take size (drop (16 * from) bytes),
      length-drop (16 * from) bytes,
      length-take 16 (drop (16 * (from + k)) bytes),
      length-drop
          (16 * (from + k)) bytes,
    ))
    (λ b d less.
    let short : b < 16 = omega (arith, length-take 16 (drop (16 * k) (take size (drop (16 * from) bytes)))) in
    let place : 16 * from + (16 * k + b) ≡ 16 * (from + k) + b = omega arith in
    get_or-take 16 (drop (16 * k) (take size (drop (16 * from) bytes))) b d short
    ∙ get_or-drop (16 * k) (take size (drop (16 * from) bytes)) b d
    ∙ get_or-take size (drop (16 * from) bytes) (16 * k + b) d (omega arith)
    ∙ get_or-drop (16 * from) bytes (16 * k + b) d
    ∙ ap (λ (i : ℕ). get_or bytes i d) place
    ∙ sym (get_or-drop (16 * (from + k)) bytes b d)
    ∙ sym (get_or-take 16 (drop (16 * (from + k)) bytes) b d short))

module _ (unit done n : ℕ) (bytes part : List ℕ) (first now next : Table) (long : length part / 16 ≡ n) (same : (k : ℕ) → k < n
    → unit_in part k ≡ unit_in bytes (done + k)) (place : ℕ) (is_place : place ≡ unit + done) (holds : HoldsUnits place part now next) where
  pub inside_more : ((k : ℕ) → k < done → held_at now (unit + k) ≡ Some (unit_in bytes k)) → (k : ℕ) → k < done + n
      → held_at next (unit + k) ≡ Some (unit_in bytes k)
  inside_more so_far k below = elim (cases_lt k done) [
    | inl before ↦ holds.outside (unit + k) (inl (omega arith)) ∙ so_far k before
    | inr from ↦
        let j : ℕ = k - done in
        let here : unit + k ≡ place + j = omega arith in
        let back : done + j ≡ k = omega arith in
        ap (λ (i : ℕ). held_at next i) here
        ∙ holds.inside j (omega arith)
        ∙ ap Some (same j (omega arith) ∙ ap (λ (i : ℕ). unit_in bytes i) back)
  ]

  pub outside_more : ((i : ℕ) → (i < unit) ⊎ (unit + done ≤ i) → held_at now i ≡ held_at first i) → (i : ℕ) → (i < unit) ⊎ (unit + (done + n) ≤ i)
      → held_at next i ≡ held_at first i
  outside_more so_far i out = ⊎_elim
      (λ before. holds.outside i (inl (omega (arith, before))) ∙ so_far i (inl before))
      (λ past. holds.outside i (inr (omega (arith, past))) ∙ so_far i (inr (omega (arith, past))))
      out

-- what is held of one page
pub held_in_page : (table : Table) (q k : ℕ) (page : Option (Box Page Global)) → k < 256 → page_at table q ≡ page
    → held_at table (256 * q + k) ≡ in_paged page k
held_in_page table q k page below is =
    let place : (256 * q + k) / 256 ≡ q = omega arith in
    let rest : (256 * q + k) % 256 ≡ k = omega arith in
    held_here table q (256 * q + k) place
    ∙ ap (λ (p : Option (Box Page Global)). in_paged p ((256 * q + k) % 256)) is
    ∙ ap (λ (j : ℕ). in_paged page j) rest
