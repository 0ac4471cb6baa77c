-- Entries that are written one after another.
use Rattle.std.proofs.Common.{◌≡◌, inl, inr, ℕ, suc, ◌+◌, ◌<◌, ◌≤◌, List, [], ◌∷◌, ◌++◌, length, take, drop, true, false, refl, sym, ap, subst, ◌∙◌, arith, append_assoc}
use Rattle.rpm_outside.specs.declared.disk.Disk as disk
use Rattle.std.proofs.lemmas.List.{append-nil, length-take, length-drop}
use Rattle.std.proofs.lemmas.Bool.{cases_eq}
use Rattle.rpm_group.proofs.Vocabulary.{before, Closed, Covers, Entry, entry_at, entry_units, File, file_of, Files, HasUnit, Head, head_parts, HeadIs, heads}
use Rattle.rpm_group.proofs.Vocabulary.{heads_done, heads_more, heads_right, heads_wrong, is_log_head, leaves_then, leaves_weaker, CrashChanges, CrashLeavesOnly}
use Rattle.rpm_group.proofs.Vocabulary.{LogState, Malformed, Open, with_units, unit_at, Units, WasChanged, WasWithin, with_entries, with_entry, with_file}
use Rattle.rpm_group.proofs.Vocabulary.{within_changed, word}

pub with_entries-append : (es fs : List Entry) (files : Files) → with_entries (es ++ fs) files ≡ with_entries fs (with_entries es files)
with_entries-append [] fs files = refl
with_entries-append (e ∷ es) fs files = with_entries-append es fs (with_entry e files)

pub covers_middle : (done : List Entry) (entry : Entry) (rest : List Entry) (file : File) (i : ℕ) → HasUnit entry file i → Covers (done ++ entry ∷ rest) file i
covers_middle [] entry rest file i w = inl w
covers_middle (e ∷ done) entry rest file i w = inr (covers_middle done entry rest file i w)

-- the heads that are left where the next one is right
pub record Left (p last : ℕ) (log : Units) (left : ℕ) (rest : List Entry) : Type 0 where
  pub more : List Entry
  pub is : rest ≡ entry_at p log ∷ more
  pub next : heads left (p + 1 + word 2 (unit_at log p)) last log ≡ Open more

before_is : (p last : ℕ) (log : Units) (left : ℕ) (rest : List Entry) (state : LogState) → heads left (p + 1 + word 2 (unit_at log p)) last log
    ≡ state → before (entry_at p log) state ≡ Open rest → Left p last log left rest
before_is p last log left rest Closed is e = absurd (let f : Closed ≡ Open rest = e in cc)
before_is p last log left rest (Malformed unit) is e = absurd (let f : Malformed unit ≡ Open rest = e in cc)
before_is p last log left rest (Open more) is e =
    record { more = more; is = (let f : Open (entry_at p log ∷ more) ≡ Open rest = e in let g : entry_at p log ∷ more ≡ rest = cc in sym g); next = is }

pub left_right : (n p last : ℕ) (log : Units) (left : ℕ) (rest : List Entry) → n ≡ suc left → heads n p last log ≡ Open rest
    → is_log_head last p (unit_at log p) ≡ true → Left p last log left rest
left_right n p last log left rest is_n is right =
    before_is p last log left rest (heads left (p + 1 + word 2 (unit_at log p)) last log) refl
    (sym (heads_right p last log left right) ∙ ap (λ (k : ℕ). heads k p last log) (sym is_n) ∙ is)

pub left_wrong : (n p last : ℕ) (log : Units) (left : ℕ) (rest : List Entry) → n ≡ suc left → heads n p last log ≡ Open rest
    → is_log_head last p (unit_at log p) ≡ false → ⊥
left_wrong n p last log left rest is_n is wrong =
    let e : Malformed p ≡ Open rest = sym (heads_wrong p last log left wrong) ∙ ap (λ (k : ℕ). heads k p last log) (sym is_n) ∙ is in
    cc

pub left_none : (n p last : ℕ) (log : Units) (rest : List Entry) → n ≡ 0 → heads n p last log ≡ Open rest → rest ≡ []
left_none n p last log rest is_n is = elim (cases_eq p (last + 1)) [
  | inl same ↦
      let e : Open [] ≡ Open rest = sym (heads_done p last log same) ∙ ap (λ (k : ℕ). heads k p last log) (sym is_n) ∙ is in
      let f : [] ≡ rest = cc in
      sym f
  | inr other ↦
      let e : Malformed p ≡ Open rest = sym (heads_more p last log other) ∙ ap (λ (k : ℕ). heads k p last log) (sym is_n) ∙ is in
      absurd cc
]

-- so many entries are written, and the others are left
pub record Done (entries : List Entry) (n p last : ℕ) (log : Units) (old now : Files) : Type 0 where
  pub done : List Entry
  pub rest : List Entry
  pub all : entries ≡ done ++ rest
  pub heads_left : heads n p last log ≡ Open rest
  pub files : now ≡ with_entries done old

module _ (entries : List Entry) (n p last : ℕ) (log : Units) (old mid new : Files) (left : ℕ) (head : Head)
    (so_far : Done entries n p last log old mid) (is_n : n ≡ suc left) (says : HeadIs last p log head) (within : last < length log) where
  abbrev entry : Entry
  entry = entry_at p log

  here : Left p last log left so_far.rest
  here = left_right n p last log left so_far.rest is_n so_far.heads_left says.right

  long_units : length entry.units ≡ head.count
  long_units =
      let parts = head_parts last p (unit_at log p) says.right in
      omega (arith, ap length (entry_units p log), length-take (word 2 (unit_at log p)) (drop (p + 1) log), length-drop (p + 1) log, says.count, parts.within)

  all_here : entries ≡ so_far.done ++ entry ∷ here.more
  all_here = so_far.all ∙ ap (λ (es : List Entry). so_far.done ++ es) here.is

  pub head_covers : (i : ℕ) → head.first ≤ i → i < head.first + head.count → Covers entries head.file i
  head_covers i from below =
      subst (λ (es : List Entry). Covers es head.file i) (sym all_here)
      (covers_middle so_far.done entry here.more head.file i (record {
        there = sym says.file;
        from = omega (arith, from, says.first);
        before =
            omega (arith, below, says.first, long_units);
      }))

  pub done_more : (m next : ℕ) (source : Units) → m ≡ left → next ≡ p + 1 + word 2 (unit_at log p) → source ≡ log
      → new ≡ with_file head.file (with_units head.first (take head.count (drop (p + 1) source)) (file_of head.file mid)) mid
      → Done entries m next last log old new
  done_more m next source is_m is_next same written = record {
    done = so_far.done ++ entry ∷ [];
    rest = here.more;
    all = all_here ∙ sym (append_assoc so_far.done (entry ∷ []) here.more);
    heads_left = ap (λ (k : ℕ). heads k next last log) is_m ∙ ap (λ (k : ℕ). heads left k last log) is_next ∙ here.next;
    files =
        written
        ∙ ap (λ (us : Units). with_file head.file (with_units head.first (take head.count (drop (p + 1) us)) (file_of head.file mid)) mid) same
        ∙ ap (λ (k : ℕ). with_file head.file (with_units head.first (take k (drop (p + 1) log)) (file_of head.file mid)) mid) says.count
        ∙ ap (λ (us : Units). with_file head.file (with_units head.first us (file_of head.file mid)) mid) (sym (entry_units p log))
        ∙ ap (λ (k : ℕ). with_file head.file (with_units k entry.units (file_of head.file mid)) mid) says.first
        ∙ ap (λ (f : File). with_file f (with_units entry.first entry.units (file_of f mid)) mid) says.file
        ∙ ap (λ (f : Files). with_entry entry f) so_far.files
        ∙ sym (with_entries-append so_far.done (entry ∷ []) old);
  }

pub done_all : (entries : List Entry) (n p last : ℕ) (log : Units) (old now : Files) → n ≡ 0 → Done entries n p last log old now
    → now ≡ with_entries entries old
done_all entries n p last log old now none d =
    d.files ∙ ap (λ (es : List Entry). with_entries es old) (sym (append-nil d.done)
    ∙ ap (λ (es : List Entry). d.done ++ es) (sym (left_none n p last log d.rest none d.heads_left)) ∙ sym d.all)

-- what a crash leaves while they are written
module _ {D : Type 0} (g : disk.Ghosts D) where
  pub within_more : (entries : List Entry) (file : File) (first end : ℕ) (old mid new : D) → first < end
      → ((i : ℕ) → first ≤ i → i < end → Covers entries file i)
      → ((image : Files) → g.left_since mid (g.moment mid) image → g.left_since mid (g.moment old) image)
      → CrashLeavesOnly g old mid (WasWithin entries (g.left_since old (g.moment old))) → CrashChanges g file first end mid new
      → CrashLeavesOnly g old new (WasWithin entries (g.left_since old (g.moment old)))
  within_more entries file first end old mid new some covers earlier one two =
      leaves_then g old mid new (WasWithin entries (g.left_since old (g.moment old))) one
      (leaves_weaker g mid new (WasChanged file first end (g.left_since mid (g.moment mid))) (WasWithin entries (g.left_since old (g.moment old)))
      (λ image was.
      let so_far = one.each was.0 (earlier was.0 was.1) in
      (so_far.0, so_far.1, within_changed entries so_far.0 was.0 image file first end some covers so_far.2 was.2))
      two)
