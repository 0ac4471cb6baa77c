-- Items that are looked up one after the other.
use Rattle.std.proofs.Common.{◌≡◌, ℕ, suc, ◌+◌, ◌<◌, ◌≤◌, Bool, true, false, cond, List, [], ◌∷◌, ◌++◌, length, take, drop, map, get_or, Option, Some, None, sym, ap, ◌∙◌, add-one, arith, drop-cons, take-append-drop}
use Rattle.std.proofs.lemmas.List.{drop-drop, take-append-le, take_all, length-take-le, nil_from_length}
use Rattle.std.proofs.lemmas.Option.{slice_get-get_or}
use Rattle.std.proofs.lemmas.Map.Text.{is_eq-slice_cmp}
use Rattle.std.specs.Prelude.{string_bytes}
use Rattle.rpm_outside.proofs.Vocabulary.{bytes_at, bytes_eq, bytes_in, entry_of_item, find, get-from_entries, Item, nat_cmp, option_map, paths_of, slice_cmp}
use Rattle.rpm_outside.proofs.Vocabulary.{TakesFront}
use Rattle.std.proofs.lemmas.Cmp.{nat_list_cmp_total}

abbrev pub find_in : List ℕ → List Item → Option (List ℕ)
find_in path items = find (slice_cmp nat_cmp) path (map entry_of_item items)

pub paths_find : (path : List ℕ) (items : List Item) → bytes_at (paths_of items) path ≡ find_in path items
paths_find path items = get-from_entries nat_list_cmp_total (map entry_of_item items) path

module _ (path : List ℕ) (items : List Item) (i : ℕ) (item : Item) (below : i < length items) (is : item ≡ get_or items i item) where
  step : find_in path (drop i items) ≡ cond (bytes_eq path (string_bytes item.path)) (Some item.bytes.items) (find_in path (drop (suc i) items))
  step =
      ap (find_in path) (drop-cons items i item below ∙ ap (λ (x : Item). x ∷ drop (suc i) items) (sym is))
      ∙ ap (λ (t : Bool). cond t (Some item.bytes.items) (find_in path (drop (suc i) items))) (is_eq-slice_cmp path (string_bytes item.path))

  pub bytes_here : bytes_in items i ≡ Some item.bytes.items
  bytes_here = ap (option_map (λ (x : Item). x.bytes.items)) (slice_get-get_or items i item below ∙ ap Some (sym is))

  -- the item is the one that is looked for
  pub found : bytes_eq path (string_bytes item.path) ≡ true → find_in path (drop i items) ≡ Some item.bytes.items
  found same = step ∙ ap (λ (t : Bool). cond t (Some item.bytes.items) (find_in path (drop (suc i) items))) same

  -- it is another
  pub passed : bytes_eq path (string_bytes item.path) ≡ false → find_in path (drop (i + 1) items) ≡ find_in path (drop i items)
  passed other =
      ap (λ (k : ℕ). find_in path (drop k items)) (add-one i)
      ∙ sym (step ∙ ap (λ (t : Bool). cond t (Some item.bytes.items) (find_in path (drop (suc i) items))) other)

-- the first bytes of what is left are taken, and at least one where there is one and there is room
pub record TakesFirst (left into given : List ℕ) (count : ℕ) : Type 0 where
  pub there : count ≤ length left
  pub room : count ≤ length into
  pub one : count ≡ 0 → length left ≡ 0
  pub given_is : given ≡ take count left ++ drop count into

reads_of : (bytes left into given : List ℕ) (at count : ℕ) → left ≡ drop at bytes → TakesFirst left into given count
    → (left ≡ take count given ++ drop (at + count) bytes) × (take count given ≡ [] → left ≡ [])
reads_of bytes left into given at count is_left t =
    let long : length (take count left) ≡ count = length-take-le count left t.there in
    let taken : take count given ≡ take count left = ap (take count) t.given_is ∙ take-append-le count (take count left) (drop count into)
    (omega arith) ∙ take_all count (take count left) (omega arith) in
    let rest : drop count left ≡ drop (at + count) bytes = ap (drop count) is_left ∙ drop-drop count at bytes in
    let whole : left ≡ take count given ++ drop (at + count) bytes = sym (take-append-drop count left) ∙ ap (λ (xs : List ℕ). xs ++ drop count left)
    (sym taken) ∙ ap (λ (xs : List ℕ). take count given ++ xs) rest in (
      whole,
      λ none.
          let nothing : count ≡ 0 = omega (arith, ap length (sym taken ∙ none)) in
          nil_from_length left (t.one nothing),
    )

pub reads_first : (held : Option (List ℕ)) (left into given : List ℕ) (at count : ℕ) → option_map (drop at) held ≡ Some left → TakesFirst left into given count
    → TakesFront (option_map (drop at) held) (option_map (drop (at + count)) held) (take count given)
reads_first None left into given at count is_left t = cc
reads_first (Some bytes) left into given at count is_left t =
    let here : left ≡ drop at bytes = cc in
    let both = reads_of bytes left into given at count here t in
    (sym here ∙ both.0, λ none. sym here ∙ both.1 none)
