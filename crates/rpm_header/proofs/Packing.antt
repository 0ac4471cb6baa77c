-- The entries that a builder keeps are read again from their bytes.
use Rattle.std.proofs.Common.{◌≡◌, ℕ, ◌*◌, ◌^◌, ◌<◌, ◌≤◌, List, [], ◌++◌, length, take, true, false, None, refl, sym, subst, ap, ◌∙◌, length-append, arith, eqb, ne_eqb, le-ltb}
use Rattle.std.specs.Prelude.{IsTrue}
use Rattle.rpm_header.proofs.Vocabulary.{alignment, AllFit, bin_item, Bytes, entry_bytes, element_fault, flat_map, Form, has_numbers, is_region_tag, IsPacked}
use Rattle.rpm_header.proofs.Vocabulary.{Item, Numbers, numbers_item, ReadsBack, to_be_bytes, Values, values, width}
use Rattle.std.proofs.lemmas.List.{append-nil, take_at, take_all}
use Rattle.rpm_header.specs.declared.form.Form.TheVariants as form
use Rattle.rpm_header.proofs.NumbersAgain.{numbers_again, few_numbers, length-numbers_bytes}

-- the entry of these parts
abbrev pub item_of : ℕ → Form → ℕ → Values → Item
item_of tag f count vs = record { tag = tag; form = f; count = count; values = vs }

pub not_zero : (n : ℕ) → 0 < n → eqb n 0 ≡ false
not_zero n some = ne_eqb n 0 (λ e. omega arith)

-- ---- numbers

numbers_sound : (f : Form) (i count : ℕ) (bytes : List ℕ) → IsTrue (has_numbers f) → 0 < count → count * alignment f ≤ length bytes
    → element_fault f i count bytes ≡ None
numbers_sound form.Char i count bytes t some room = rw (not_zero count some, le-ltb (length bytes) (count * alignment form.Char) room) refl
numbers_sound form.Int8 i count bytes t some room = rw (not_zero count some, le-ltb (length bytes) (count * alignment form.Int8) room) refl
numbers_sound form.Int16 i count bytes t some room = rw (not_zero count some, le-ltb (length bytes) (count * alignment form.Int16) room) refl
numbers_sound form.Int32 i count bytes t some room = rw (not_zero count some, le-ltb (length bytes) (count * alignment form.Int32) room) refl
numbers_sound form.Int64 i count bytes t some room = rw (not_zero count some, le-ltb (length bytes) (count * alignment form.Int64) room) refl
numbers_sound form.Null i count bytes t some room = absurd cc
numbers_sound form.Text i count bytes t some room = absurd cc
numbers_sound form.Bin i count bytes t some room = absurd cc
numbers_sound form.Texts i count bytes t some room = absurd cc
numbers_sound form.I18n i count bytes t some room = absurd cc

pub numbers_packed : (f : Form) (ns : List ℕ) (count : ℕ) (bytes : List ℕ) → IsTrue (has_numbers f) → AllFit f ns → count ≡ length ns
    → bytes ≡ flat_map (to_be_bytes (width f)) ns
    → (values f count bytes ≡ Numbers ns) × IsPacked f count bytes
numbers_packed f ns count bytes t fit number stored =
    let same : values f count bytes ≡ Numbers ns = rw (number, stored, ← append-nil (flat_map (to_be_bytes (width f)) ns)) (numbers_again f ns [] t fit) in
    (same, record { stored = rw same (sym stored); few = omega (arith, few_numbers f ns, ap length stored) })

not_null : (f : Form) → IsTrue (has_numbers f) → f ≡ form.Null → ⊥
not_null f t e =
    let h : has_numbers form.Null ≡ true = subst (λ (g : Form). has_numbers g ≡ true) e t in
    cc

pub numbers_read_back : (tag : ℕ) (f : Form) (ns : List ℕ) → tag < 2 ^ 32 → is_region_tag tag ≡ false → IsTrue (has_numbers f) → 0 < length ns → AllFit f ns
    → ReadsBack (numbers_item tag f ns)
unfolding entry_bytes
numbers_read_back tag f ns small region t some fit = record {
  tag = small;
  few = few_numbers f ns;
  no_region = region;
  no_null = not_null f t;
  again = λ rest. numbers_again f ns rest t fit;
  sound =
      λ i rest. numbers_sound f i (length ns) (flat_map (to_be_bytes (width f)) ns ++ rest) t some
      (omega (arith, length-append (flat_map (to_be_bytes (width f)) ns) rest, length-numbers_bytes f ns));
}

-- ---- bytes

pub bin_packed : (bs : List ℕ) (count : ℕ) (bytes : List ℕ) → count ≡ length bs → bytes ≡ bs
    → (values form.Bin count bytes ≡ Bytes bs) × IsPacked form.Bin count bytes
bin_packed bs count bytes number stored =
    let same : take count bytes ≡ bytes = take_all count bytes (omega (arith, ap length stored)) in
    (ap Bytes (same ∙ stored), record { stored = same; few = omega (arith, ap length stored) })

pub bin_read_back : (tag : ℕ) (bs : List ℕ) → tag < 2 ^ 32 → is_region_tag tag ≡ false → 0 < length bs → ReadsBack (bin_item tag bs)
unfolding entry_bytes
bin_read_back tag bs small region some = record {
  tag = small;
  few = omega arith;
  no_region = region;
  no_null = λ h. cc;
  again = λ rest. ap Bytes (take_at bs rest (length bs) refl);
  sound = λ i rest. rw (not_zero (length bs) some, le-ltb (length (bs ++ rest)) (length bs * alignment form.Bin) (omega (arith, length-append bs rest))) refl;
}
