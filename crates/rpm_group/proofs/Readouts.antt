-- Units that were read, and zeros after them.
use Rattle.std.proofs.Common.{◌≡◌, inl, inr, ℕ, ◌+◌, ◌-◌, ◌*◌, ◌/◌, ◌<◌, ◌≤◌, min, List, ◌++◌, length, take, drop, get_or, replicate, refl, sym, ap, ◌∙◌, arith, length-append, Result, Ok, Err}
use Rattle.std.specs.Prelude.{OnOk, Option, Some, None, is_some, unwrap_or, false}
use Rattle.std.proofs.lemmas.List.{length-take, length-drop, get_or-take, get_or-drop, get_or_append_left, get_or-append_right, get_or-replicate, get_or_past, length-replicate, same_lists}
use Rattle.std.proofs.lemmas.Bool.{cases_lt}
use borrow.Rule.Slice.PartMut.{put_mid}
use Rattle.rpm_group.proofs.Vocabulary.{blank, IsHeldBelow, held_at, laid_units, LaysOver, length-cut_up, same_units, Table, unit_at, unit_in, Units, units_of}
use Rattle.rpm_group.proofs.ByteLaws.{length-put_mid, get_or_put_inside}
use Rattle.rpm_group.proofs.Laids.{unit_of_bytes, unit_at-laid}

pub on_ok_map : {T E : Type 0} {A B : Type 0} (r : Result T E) → OnOk r A → (A → B) → OnOk r B
on_ok_map (Ok x) a f = f a
on_ok_map (Err e) a f = tt

length-blank : length blank ≡ 16
unfolding blank
length-blank = refl

get_or-blank : (b d : ℕ) → b < 16 → get_or blank b d ≡ 0
unfolding blank
get_or-blank b d below = get_or-replicate 16 b 0 d below

-- the first t units were read into `front`, and the rest of `into` was made zeros before
module _ (file : Units) (unit t n a size : ℕ) (into front zeros : List ℕ) (is_t : t ≡ min (length file - unit) n) (long : length into ≡ 16 * n)
    (is_a : a ≡ 16 * t) (is_size : size ≡ 16 * n - 16 * t) (zero : zeros ≡ replicate size 0) (front_long : length front ≡ 16 * t)
    (read : units_of front ≡ take t (drop unit file)) where
  abbrev mid : List ℕ
  mid = put_mid a size into zeros

  abbrev all : List ℕ
  all = front ++ drop a mid

  zeros_long : length zeros ≡ size
  zeros_long = ap length zero ∙ length-replicate size 0

  mid_long : length mid ≡ 16 * n
  mid_long = length-put_mid a size into zeros zeros_long (omega arith) ∙ long

  all_long : length all ≡ 16 * n
  all_long = omega (arith, length-append front (drop a mid), length-drop a mid, mid_long)

  first : (k : ℕ) → k < t → unit_in all k ≡ unit_at file (unit + k)
  first k below =
      same_lists (unit_in all k) (unit_in front k)
      (omega (arith, length-take 16 (drop (16 * k) all), length-drop (16 * k) all, all_long, length-take 16 (drop (16 * k) front), length-drop (16 * k) front))
      (λ b d less.
      let short : b < 16 = omega (arith, length-take 16 (drop (16 * k) all)) in
      get_or-take 16 (drop (16 * k) all) b d short
      ∙ get_or-drop (16 * k) all b d
      ∙ get_or_append_left front (drop a mid) d (16 * k + b) (omega arith)
      ∙ sym (get_or-drop (16 * k) front b d)
      ∙ sym (get_or-take 16 (drop (16 * k) front) b d short))
      ∙ sym (unit_of_bytes front k (omega (arith, front_long)))
      ∙ ap (λ (us : Units). unit_at us k) read
      ∙ get_or-take t (drop unit file) k blank below
      ∙ get_or-drop unit file k blank

  last : (k : ℕ) → t ≤ k → k < n → unit_in all k ≡ unit_at file (unit + k)
  last k from below =
      same_lists (unit_in all k) blank
      (omega (arith, length-take 16 (drop (16 * k) all), length-drop (16 * k) all, all_long, length-blank))
      (λ b d less.
      let short : b < 16 = omega (arith, length-take 16 (drop (16 * k) all)) in
      let past : 16 * t ≤ 16 * k + b = omega arith in
      let place : a + (16 * k + b - 16 * t) ≡ a + (16 * k + b - 16 * t) = refl in
      get_or-take 16 (drop (16 * k) all) b d short
      ∙ get_or-drop (16 * k) all b d
      ∙ get_or-append_right front (drop a mid) (16 * t) (16 * k + b) d front_long past
      ∙ get_or-drop a mid (16 * k + b - 16 * t) d
      ∙ get_or_put_inside a size into zeros zeros_long (omega arith) (16 * k + b - 16 * t) d (omega arith)
      ∙ ap (λ (zs : List ℕ). get_or zs (16 * k + b - 16 * t) d) zero
      ∙ get_or-replicate size (16 * k + b - 16 * t) 0 d (omega arith)
      ∙ sym (get_or-blank b d short))
      ∙ sym (get_or_past file (unit + k) blank (omega arith))

  pub read_units : (k : ℕ) → k < n → unit_in all k ≡ unit_at file (unit + k)
  read_units k below = elim (cases_lt k t) [ inl before ↦ first k before | inr past ↦ last k past below ]

-- what is held laid over what was read
pub read_laid : (table : Table) (end : ℕ) (file : Units) (unit n : ℕ) (read into : List ℕ) → IsHeldBelow table end → n ≡ length into / 16
    → length read ≡ length into → unit + n ≤ length (laid_units table end file)
    → ((k : ℕ) → k < n → is_some (held_at table (unit + k)) ≡ false → unit_in read k ≡ unit_at file (unit + k)) → LaysOver unit table read into
    → units_of into ≡ take n (drop unit (laid_units table end file))
read_laid table end file unit n read into past is_n same_long within units lays = same_units (units_of into) (take n (drop unit (laid_units table end file)))
    (omega (arith, length-cut_up (length into / 16) into, length-take n (drop unit (laid_units table end file)), length-drop unit (laid_units table end file)))
    (λ k. elim (cases_lt k n) [
      | inl below ↦
          unit_of_bytes into k (omega arith)
          ∙ lays k (omega (arith, same_long))
          ∙ either (held_at table (unit + k)) (unit_in read k) (unit_at file (unit + k)) (units k below)
          ∙ sym (unit_at-laid table end file past (unit + k))
          ∙ sym (get_or-drop unit (laid_units table end file) k blank)
          ∙ sym (get_or-take n (drop unit (laid_units table end file)) k blank below)
      | inr out ↦
          get_or_past (units_of into) k blank (omega (arith, length-cut_up (length into / 16) into))
          ∙ sym (get_or_past (take n (drop unit (laid_units table end file))) k blank (omega (arith, length-take n (drop unit (laid_units table end file)))))
    ])
  where
    either : (o : Option (List ℕ)) (a b : List ℕ) → (is_some o ≡ false → a ≡ b) → unwrap_or o a ≡ unwrap_or o b
    either None a b same = same refl
    either (Some u) a b same = refl
