-- The number field while it is written.
use Rattle.std.proofs.Common.{◌≡◌, ◌⊎◌, inl, inr, ℕ, ◌+◌, ◌≤◌, List, [], ◌∷◌, length, Option, Some, None, refl, sym, ap, ◌∙◌, subst, arith}
use Rattle.rpm_pkgdb.proofs.Vocabulary.{AreSound, BlobTorn, FieldPut, FieldTorn, IsHeadUnit, IsLawfulCount, IsMade, IsSlotUnit, length-put, with_units, SameBlocks}
use Rattle.rpm_pkgdb.proofs.Vocabulary.{SameOutside, slot_at, RepresentsStore, Store, unit_at, Units, with_next, word}
use Rattle.rpm_pkgdb.proofs.Made.{made, from_made}
use Rattle.rpm_pkgdb.proofs.ClearLaws.{torn_one, put_here, put_elsewhere, put_length, page_blocks}
use Rattle.rpm_pkgdb.proofs.Erases.{blocks_then}

module _ (file : Units) (st : Store) (m : IsMade file st) where
  field_made : (unit : List ℕ) (next : ℕ) → word 0 unit ≡ next → IsMade (with_units 1 (unit ∷ []) file) (record st { field = next })
  field_made unit next is =
      let long = put_length 1 unit file (omega (arith, m.lawful.some, m.lawful.inside)) in
      record {
        lawful = subst (λ (n : ℕ). IsLawfulCount n st.pages) (sym long) m.lawful;
        head = subst (λ (u : List ℕ). IsHeadUnit u st.generation st.pages) (sym (put_elsewhere 1 unit file 0 (omega arith))) m.head;
        field = ap (word 0) (put_here 1 unit file) ∙ is;
        count = m.count;
        each = λ j lt. subst (λ (u : List ℕ). IsSlotUnit u (slot_at st.slots j)) (sym (put_elsewhere 1 unit file (2 + j) (omega arith))) (m.each j lt);
        sound = subst (λ (n : ℕ). AreSound st.pages n st.slots) (sym long) m.sound;
      }

  field_blocks : (unit : List ℕ) → SameBlocks st.slots file (with_units 1 (unit ∷ []) file)
  field_blocks unit = page_blocks file st m 1 unit st.slots (omega (arith, m.lawful.some)) (λ k used. (m.sound.placed k used).behind)

field_put_stands : (st : Store) (file from : Units) (unit : List ℕ) (next : ℕ) → 1 ≤ st.pages → word 0 unit ≡ next → RepresentsStore st file from
    → RepresentsStore (record st { field = next }) file (with_units 1 (unit ∷ []) from)
field_put_stands st file from unit next some is stands =
    let m = made from st stands.keeps some in
    record {
      keeps = from_made (with_units 1 (unit ∷ []) from) (record st { field = next }) (field_made from st m unit next is);
      blocks = blocks_then st.slots file from (with_units 1 (unit ∷ []) from) stands.blocks (field_blocks from st m unit);
    }

-- a crash while the number field is written
pub field_torn_stands : (st : Store) (file from image : Units) (field : Option ℕ) → 1 ≤ st.pages → RepresentsStore st file from → FieldTorn field from image
    → RepresentsStore st file image ⊎ RepresentsStore (with_next field st) file image
field_torn_stands st file from image None some stands same = inl (subst (RepresentsStore st file) (sym same) stands)
field_torn_stands st file from image (Some next) some stands (inl same) = inl (subst (RepresentsStore st file) (sym same) stands)
field_torn_stands st file from image (Some next) some stands (inr (unit, is, torn)) =
    let m = made from st stands.keeps some in
    elim (torn_one 1 unit from image (omega (arith, m.lawful.some, m.lawful.inside)) torn) [
      | inl same ↦ inl (subst (RepresentsStore st file) (sym same) stands)
      | inr new ↦ inr (subst (RepresentsStore (record st { field = next }) file) (sym new) (field_put_stands st file from unit next some is stands))
    ]

pub field_stands : (st : Store) (file from image : Units) (field : Option ℕ) → 1 ≤ st.pages → RepresentsStore st file from → FieldPut field from image
    → RepresentsStore (with_next field st) file image
field_stands st file from image None some stands same = subst (RepresentsStore st file) (sym same) stands
field_stands st file from image (Some next) some stands (unit, is, new) =
    subst (RepresentsStore (record st { field = next }) file) (sym new) (field_put_stands st file from unit next some is stands)

-- units from 2 on stay
pub field_keeps : (field : Option ℕ) (a b : Units) → FieldPut field a b → (i : ℕ) → 2 ≤ i → unit_at b i ≡ unit_at a i
field_keeps None a b same i low = ap (λ (u : Units). unit_at u i) same
field_keeps (Some next) a b (unit, is, new) i low = ap (λ (u : Units). unit_at u i) new ∙ put_elsewhere 1 unit a i (omega arith)

pub field_longer : (field : Option ℕ) (a b : Units) → FieldPut field a b → length a ≤ length b
field_longer None a b same = omega (arith, ap length same)
field_longer (Some next) a b (unit, is, new) = omega (arith, ap length new, length-put 1 (unit ∷ []) a)

pub field_same : (field : Option ℕ) (a : Units) → FieldTorn field a a
field_same None a = refl
field_same (Some next) a = inl refl

-- blocks alone changed, or the number field after them
pub blocks_torn : (at n : ℕ) (field : Option ℕ) (a b : Units) → SameOutside at n a b → BlobTorn at n field a b
blocks_torn at n field a b same = record { mid = b; blocks = same; field_torn = field_same field b }

pub then_field : (at n : ℕ) (field : Option ℕ) (a b c : Units) → SameOutside at n a b → FieldTorn field b c → BlobTorn at n field a c
then_field at n field a b c same torn = record { mid = b; blocks = same; field_torn = torn }
