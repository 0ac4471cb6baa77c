-- A blob that is written in three parts.
use Rattle.std.proofs.Common.{◌≡◌, ℕ, ◌+◌, ◌-◌, ◌*◌, ◌/◌, ◌%◌, ◌≤◌, List, ◌++◌, length, take, drop, sym, ap, ◌∙◌, arith, append_assoc, length-append, take-append-drop}
use Rattle.std.proofs.lemmas.List.{length-take}
use Rattle.rpm_pkgdb.proofs.Vocabulary.{adler, blocks_for, framed_blob, head_of, length-cut_up, padding, with_units, SameOutside, tail_of, Torn, Units, units_of}
use Rattle.rpm_pkgdb.proofs.FramingLaws.{length-head_of}
use Rattle.rpm_pkgdb.proofs.ClearLaws.{torn_outside, outside_then, outside_wider}
use Rattle.rpm_pkgdb.proofs.PutParts.{put_append, units_of-append}

module _ (n g : ℕ) (b : List ℕ) (head front last : List ℕ) (is_head : head ≡ head_of n g (length b)) (is_front : front ≡ take (16 * (length b / 16)) b)
    (is_last : last ≡ (drop (16 * (length b / 16)) b ++ padding (length b)) ++ tail_of (adler (head ++ (b ++ padding (length b)))) (length b)) where
  abbrev size : ℕ
  size = length b

  abbrev whole : ℕ
  whole = size / 16

  length-front : length front ≡ 16 * whole
  length-front = omega (arith, ap length is_front, length-take (16 * whole) b)

  pub count-head : length (units_of head) ≡ 1
  count-head = omega (arith, length-cut_up (length head / 16) head, ap length is_head, length-head_of n g size)

  pub count-front : length (units_of front) ≡ whole
  count-front = omega (arith, length-cut_up (length front / 16) front, length-front)

  all_bytes : (head ++ front) ++ last ≡ framed_blob n g b
  all_bytes =
      let t : List ℕ = tail_of (adler (head ++ (b ++ padding size))) size in
      let r : List ℕ = drop (16 * whole) b in
      let together : front ++ r ≡ b = ap (λ (x : List ℕ). x ++ r) is_front ∙ take-append-drop (16 * whole) b in
      ap (λ (x : List ℕ). (head ++ front) ++ x) is_last
      ∙ sym (append_assoc (head ++ front) (r ++ padding size) t)
      ∙ ap (λ (x : List ℕ). x ++ t) (append_assoc head front (r ++ padding size)
      ∙ ap (λ (x : List ℕ). head ++ x) (sym (append_assoc front r (padding size)) ∙ ap (λ (x : List ℕ). x ++ padding size) together))
      ∙ ap (λ (h : List ℕ). (h ++ (b ++ padding size)) ++ tail_of (adler (h ++ (b ++ padding size))) size) is_head

  all_units : (units_of head ++ units_of front) ++ units_of last ≡ units_of (framed_blob n g b)
  all_units =
      let w : length head % 16 ≡ 0 = omega (arith, ap length is_head, length-head_of n g size) in
      let v : length (head ++ front) % 16 ≡ 0 = omega (arith, length-append head front, length-front, ap length is_head, length-head_of n g size) in
      ap (λ (us : Units). us ++ units_of last) (sym (units_of-append head front w)) ∙ sym (units_of-append (head ++ front) last v) ∙ ap units_of all_bytes

  -- the three writes are one
  pub parts_written : (start : ℕ) (F0 F1 F2 F3 : Units) → F1 ≡ with_units start (units_of head) F0 → F2 ≡ with_units (start + 1) (units_of front) F1
      → F3 ≡ with_units (start + 1 + whole) (units_of last) F2 → F3 ≡ with_units start (units_of (framed_blob n g b)) F0
  parts_written start F0 F1 F2 F3 one two three =
      let H = units_of head in
      let M = units_of front in
      let L = units_of last in
      let at_1 : start + 1 ≡ start + length H = omega (arith, count-head) in
      let at_2 : start + 1 + whole ≡ start + length (H ++ M) = omega (arith, length-append H M, count-head, count-front) in
      let both : F2 ≡ with_units start (H ++ M) F0 = two ∙ ap (λ (k : ℕ). with_units k M F1) at_1 ∙ ap (with_units (start + length H) M) one
      ∙ put_append start H M F0 in
      three ∙ ap (λ (k : ℕ). with_units k L F2) at_2 ∙ ap (with_units (start + length (H ++ M)) L) both ∙ put_append start (H ++ M) L F0
      ∙ ap (λ (us : Units). with_units start us F0) all_units

  module _ (start : ℕ) (few : size ≤ 68157432) where
    abbrev Within : Units → Units → Type 0
    Within x y = SameOutside start (blocks_for size) x y

    pub head_within : (x y : Units) → Torn start (units_of head) x y → Within x y
    head_within x y torn =
        outside_wider start (length (units_of head)) start (blocks_for size) x y (omega arith) (omega (arith, count-head))
        (torn_outside start (units_of head) x y torn)

    pub front_within : (x y z : Units) → Within x y → SameOutside (start + 1) (length front / 16) y z → Within x z
    front_within x y z so_far next =
        outside_then start (blocks_for size) x y z so_far (outside_wider (start + 1) (length front / 16) start (blocks_for size) y z (omega arith)
        (omega (arith, length-front)) next)

    pub last_within : (x y z : Units) → length last ≡ 16 * (blocks_for size - 1 - whole) → Within x y → Torn (start + 1 + whole) (units_of last) y z
        → Within x z
    last_within x y z long so_far torn =
        let m : length (units_of last) ≡ blocks_for size - 1 - whole = omega (arith, length-cut_up (length last / 16) last, long) in
        outside_then start (blocks_for size) x y z so_far (outside_wider (start + 1 + whole) (length (units_of last)) start (blocks_for size) y z
        (omega arith) (omega (arith, m)) (torn_outside (start + 1 + whole) (units_of last) y z torn))
