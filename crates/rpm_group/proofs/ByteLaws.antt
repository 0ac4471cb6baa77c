-- The units in bytes of which a part was written.
use Rattle.std.proofs.Common.{◌≡◌, ◌⊎◌, ⊎_elim, ℕ, ◌+◌, ◌-◌, ◌*◌, ◌<◌, ◌≤◌, List, ◌++◌, length, take, drop, get_or, sym, ap, ◌∙◌, arith, length-append}
use Rattle.std.proofs.lemmas.List.{length-take, length-drop, get_or-take, get_or-drop, get_or_append_left, get_or-append_right, same_lists}
use Rattle.std.specs.Prelude.{if◌then◌else◌, Bool, true, false, Some, None}
use borrow.Rule.Slice.PartMut.{put_mid}
use Rattle.rpm_group.proofs.Vocabulary.{unit_in}

-- where two lists have the same unit
same_unit : (xs ys : List ℕ) (i j : ℕ) → 16 * i + 16 ≤ length xs → 16 * j + 16 ≤ length ys
    → ((b d : ℕ) → b < 16 → get_or xs (16 * i + b) d ≡ get_or ys (16 * j + b) d) → unit_in xs i ≡ unit_in ys j
same_unit xs ys i j long longer same =
    same_lists (unit_in xs i) (unit_in ys j)
    (omega (arith, length-take 16 (drop (16 * i) xs), length-drop (16 * i) xs, length-take 16 (drop (16 * j) ys), length-drop (16 * j) ys))
    (λ b d below.
    let short : b < 16 = omega (arith, length-take 16 (drop (16 * i) xs)) in
    get_or-take 16 (drop (16 * i) xs) b d short
    ∙ get_or-drop (16 * i) xs b d
    ∙ same b d short
    ∙ sym (get_or-drop (16 * j) ys b d)
    ∙ sym (get_or-take 16 (drop (16 * j) ys) b d short))

-- equal lists as far as one unit, past the end too
same_unit_past : (xs ys : List ℕ) (i : ℕ) → length xs ≡ length ys → ((k d : ℕ) → 16 * i ≤ k → k < 16 * i + 16 → get_or xs k d ≡ get_or ys k d)
    → unit_in xs i ≡ unit_in ys i
same_unit_past xs ys i long same =
    same_lists (unit_in xs i) (unit_in ys i)
    (omega (arith, length-take 16 (drop (16 * i) xs), length-drop (16 * i) xs, length-take 16 (drop (16 * i) ys), length-drop (16 * i) ys))
    (λ b d below.
    let short : b < 16 = omega (arith, length-take 16 (drop (16 * i) xs)) in
    get_or-take 16 (drop (16 * i) xs) b d short
    ∙ get_or-drop (16 * i) xs b d
    ∙ same (16 * i + b) d (omega arith) (omega arith)
    ∙ sym (get_or-drop (16 * i) ys b d)
    ∙ sym (get_or-take 16 (drop (16 * i) ys) b d short))

module _ (a n : ℕ) (xs ys : List ℕ) (long : length ys ≡ n) (within : a + n ≤ length xs) where
  abbrev rest : List ℕ
  rest = drop n (drop a xs)

  front : length (take a xs) ≡ a
  front = omega (arith, length-take a xs)

  pub length-put_mid : length (put_mid a n xs ys) ≡ length xs
  length-put_mid = omega (arith, length-append (take a xs) (ys ++ rest), length-append ys rest, front, length-drop n (drop a xs), length-drop a xs)

  pub get_or_put_below : (i d : ℕ) → i < a → get_or (put_mid a n xs ys) i d ≡ get_or xs i d
  get_or_put_below i d below = get_or_append_left (take a xs) (ys ++ rest) d i (omega (arith, front)) ∙ get_or-take a xs i d below

  pub get_or_put_inside : (i d : ℕ) → i < n → get_or (put_mid a n xs ys) (a + i) d ≡ get_or ys i d
  get_or_put_inside i d below =
      let less : a + i - a ≡ i = omega arith in
      get_or-append_right (take a xs) (ys ++ rest) a (a + i) d front (omega arith)
      ∙ ap (λ (k : ℕ). get_or (ys ++ rest) k d) less
      ∙ get_or_append_left ys rest d i (omega (arith, long))

  pub get_or_put_past : (i d : ℕ) → a + n ≤ i → get_or (put_mid a n xs ys) i d ≡ get_or xs i d
  get_or_put_past i d past =
      let place : a + (n + (i - a - n)) ≡ i = omega arith in
      get_or-append_right (take a xs) (ys ++ rest) a i d front (omega arith)
      ∙ get_or-append_right ys rest n (i - a) d long (omega arith)
      ∙ get_or-drop n (drop a xs) (i - a - n) d
      ∙ get_or-drop a xs (n + (i - a - n)) d
      ∙ ap (λ (k : ℕ). get_or xs k d) place

-- whole units written from unit `at` on
module _ (at a n count : ℕ) (xs ys : List ℕ) (is_a : a ≡ 16 * at) (is_n : n ≡ 16 * count) (long : length ys ≡ n) (within : a + n ≤ length xs) where
  pub unit_put_inside : (k : ℕ) → k < count → unit_in (put_mid a n xs ys) (at + k) ≡ unit_in ys k
  unit_put_inside k below =
      same_unit (put_mid a n xs ys) ys (at + k) k (omega (arith, length-put_mid a n xs ys long within)) (omega arith)
      (λ b d short.
      let place : 16 * (at + k) + b ≡ a + (16 * k + b) = omega arith in
      ap (λ (i : ℕ). get_or (put_mid a n xs ys) i d) place ∙ get_or_put_inside a n xs ys long within (16 * k + b) d (omega arith))

  pub unit_put_outside : (k : ℕ) → (k < at) ⊎ (at + count ≤ k) → unit_in (put_mid a n xs ys) k ≡ unit_in xs k
  unit_put_outside k out =
      same_unit_past (put_mid a n xs ys) xs k (length-put_mid a n xs ys long within)
      (λ i d from below.
      ⊎_elim
      (λ before. get_or_put_below a n xs ys long within i d (omega (arith, before)))
      (λ past. get_or_put_past a n xs ys long within i d (omega (arith, past)))
      out)

pub marked : (mark : Bool) (unit : List ℕ) → mark ≡ true → (if mark then Some unit else None) ≡ Some unit
marked mark unit is = ap (λ (b : Bool). if b then Some unit else None) is

pub unmarked : (mark : Bool) (unit : List ℕ) → mark ≡ false → (if mark then Some unit else None) ≡ None
unmarked mark unit is = ap (λ (b : Bool). if b then Some unit else None) is

pub same_mark : (old new : Bool) (a b : List ℕ) → new ≡ old → b ≡ a → (if new then Some b else None) ≡ (if old then Some a else None)
same_mark old new a b m u = ap (λ (x : Bool). if x then Some b else None) m ∙ ap (λ (x : List ℕ). if old then Some x else None) u
