-- An entry of the index is read again.
use Rattle.std.proofs.Common.{◌≡◌, ℕ, ◌+◌, ◌^◌, ◌<◌, List, ◌++◌, drop, Some, refl, sym, ap, ◌∙◌, arith}
use Rattle.rpm_header.proofs.Vocabulary.{Form, form_of, from_be_bytes, index_bytes, index_entry_at, IndexEntry, kind_of, number_at, to_be_bytes, w32}
use Rattle.std.proofs.lemmas.Nat.{from_be_bytes-to_be_bytes_4}
use Rattle.std.proofs.lemmas.List.{drop-drop}
use Rattle.rpm_header.specs.declared.form.Form.TheVariants as form

pub read_front : (n : ℕ) (bytes rest : List ℕ) (at : ℕ) → n < 2 ^ 32 → drop at bytes ≡ to_be_bytes w32 n ++ rest → number_at w32 bytes at ≡ n
unfolding number_at
read_front n bytes rest at lt e = ap (from_be_bytes w32) e ∙ from_be_bytes-to_be_bytes_4 n lt

skip_front : (n : ℕ) (bytes rest : List ℕ) (at next : ℕ) → next ≡ at + 4 → drop at bytes ≡ to_be_bytes w32 n ++ rest → drop next bytes ≡ rest
skip_front n bytes rest at next is e = rw is (sym (drop-drop 4 at bytes) ∙ ap (drop 4) e)

-- four numbers of four bytes
pub record Fits (i : IndexEntry) : Type 0 where
  pub tag : i.tag < 2 ^ 32
  pub kind : i.kind < 2 ^ 32
  pub offset : i.offset < 2 ^ 32
  pub count : i.count < 2 ^ 32

pub index_front : (bytes rest : List ℕ) (at : ℕ) (i : IndexEntry) → Fits i → drop at bytes ≡ index_bytes i ++ rest
    → (index_entry_at bytes at ≡ i) × (drop (at + 16) bytes ≡ rest)
unfolding index_bytes
index_front bytes rest at i fits e0 =
    let e4 = skip_front i.tag bytes _ at (at + 4) refl e0 in
    let e8 = skip_front i.kind bytes _ (at + 4) (at + 8) (omega arith) e4 in
    let e12 = skip_front i.offset bytes _ (at + 8) (at + 12) (omega arith) e8 in
    let e16 = skip_front i.count bytes rest (at + 12) (at + 16) (omega arith) e12 in (
      rw (
        read_front i.tag bytes _ at fits.tag e0,
        read_front i.kind bytes _ (at + 4) fits.kind e4,
        read_front i.offset bytes _ (at + 8) fits.offset e8,
        read_front i.count bytes _ (at + 12) fits.count e12,
      ) refl,
      e16,
    )

pub form_again : (f : Form) → form_of (kind_of f) ≡ Some f
form_again form.Null = refl
form_again form.Char = refl
form_again form.Int8 = refl
form_again form.Int16 = refl
form_again form.Int32 = refl
form_again form.Int64 = refl
form_again form.Text = refl
form_again form.Bin = refl
form_again form.Texts = refl
form_again form.I18n = refl

pub kind_small : (f : Form) → kind_of f < 2 ^ 32
kind_small form.Null = omega arith
kind_small form.Char = omega arith
kind_small form.Int8 = omega arith
kind_small form.Int16 = omega arith
kind_small form.Int32 = omega arith
kind_small form.Int64 = omega arith
kind_small form.Text = omega arith
kind_small form.Bin = omega arith
kind_small form.Texts = omega arith
kind_small form.I18n = omega arith
