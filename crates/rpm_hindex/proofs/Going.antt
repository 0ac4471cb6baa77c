-- A change that can go on.
use Rattle.std.proofs.Common.{◌≡◌, ℕ, ◌+◌, ◌*◌, ◌/◌, ◌%◌, ◌^◌, ◌<◌, ◌≤◌, List, [], ◌∷◌, map, zero, suc, length, BTreeMap, refl, sym, ap, ◌∙◌, arith, subst, inl, inr}
use Rattle.std.specs.Prelude.{Option}
use Rattle.rpm_hindex.proofs.Vocabulary.{bucket_unit, CanGo, Change, Contains, first_record, get, IsBehind, IsStrictlySortedBy, keys, nat_cmp, Patch}
use Rattle.rpm_hindex.proofs.Vocabulary.{patch_at, patch_of, Puts, PutsWithin}
use Rattle.std.proofs.lemmas.Cmp.{nat_cmp_total}
use Rattle.std.proofs.lemmas.Map.Lookups.{CmpEqualImpliesEq}
use Rattle.std.proofs.lemmas.Map.Views.{btree_map_get_iff}
use Rattle.std.proofs.lemmas.Bool.Decides.{nat_tests}
use Rattle.std.proofs.lemmas.Bool.{cases_eq}

pub still_behind : {X : Type 0} (used : ℕ) (old new : ℕ → Option X) → IsBehind used old → PutsWithin used old new → IsBehind used new
still_behind used old new behind (key, some, lt, (value, put)) k v is = elim (cases_eq k key) [
  | inl here ↦ (omega (arith, some, here), omega (arith, lt, here))
  | inr other ↦ behind k v (sym (put.others k other) ∙ is)
]

pub go_on : (c d : Change) → CanGo c → d.extent ≡ c.extent → PutsWithin c.extent.used (λ q. get nat_cmp c.units q) (λ q. get nat_cmp d.units q)
    → length d.tail.items % 16 ≡ 0 → c.extent.used + length d.tail.items / 16 ≤ 2 ^ 28 → first_record c.extent.buckets + d.live ≤ c.extent.used +
    length d.tail.items / 16 → d.records ≤ 2 * c.extent.buckets → CanGo d
go_on c d go extent put whole room live records =
    let B : d.extent.buckets ≡ c.extent.buckets = ap (λ (e : _). e.buckets) extent in
    let U : d.extent.used ≡ c.extent.used = ap (λ (e : _). e.used) extent in
    record {
      fours = ap (λ (n : ℕ). n % 4) B ∙ go.fours;
      some = omega (arith, go.some, B);
      few = omega (arith, go.few, B);
      front = omega (arith, go.front, ap (λ (n : ℕ). n / 4) B, U);
      units = subst (λ (n : ℕ). IsBehind n (λ q. get nat_cmp d.units q)) (sym U) (still_behind c.extent.used _ _ go.units put);
      whole = whole;
      room = omega (arith, room, U);
      live = omega (arith, live, U, ap (λ (n : ℕ). n / 4) B);
      records = omega (arith, records, B);
    }

pub bucket_within : (c : Change) → CanGo c → (bucket : ℕ) → bucket < c.extent.buckets → (new : ℕ → Option (List ℕ)) (w : List ℕ)
    → Puts (λ q. get nat_cmp c.units q) new (bucket_unit bucket) w → PutsWithin c.extent.used (λ q. get nat_cmp c.units q) new
bucket_within c go bucket lt new w put = (bucket_unit bucket, omega arith, omega (arith, lt, go.fours, go.front), (w, put))

pub nat_exact : CmpEqualImpliesEq nat_cmp
nat_exact x y e = grind (arith, nat_tests)

entries_behind : (used : ℕ) (es : List (ℕ × List ℕ)) → ((e : ℕ × List ℕ) → Contains es e → (1 ≤ e.0) × (e.0 < used)) → (k : ℕ) → k
    < length (map patch_of es) → (1 ≤ (patch_at (map patch_of es) k).unit) × ((patch_at (map patch_of es) k).unit < used)
entries_behind used [] each k lt = absurd (omega arith)
entries_behind used (e ∷ es) each zero lt = each e (0, omega arith, refl)
entries_behind used (e ∷ es) each (suc k) lt = entries_behind used es (λ f (j, below, is). each f (suc j, omega arith, is)) k (omega arith)

-- what is written of a change's units stands where they do
pub patches_behind : (used : ℕ) (m : BTreeMap ℕ (List ℕ)) → IsStrictlySortedBy nat_cmp (keys m) → IsBehind used (λ q. get nat_cmp m q)
    → (items : List Patch) → items ≡ map patch_of m.entries
    → (k : ℕ) → k < length items → (1 ≤ (patch_at items k).unit) × ((patch_at items k).unit < used)
patches_behind used m ordered behind items is =
    subst (λ (ps : List Patch). (k : ℕ) → k < length ps → (1 ≤ (patch_at ps k).unit) × ((patch_at ps k).unit < used)) (sym is)
    (entries_behind used m.entries (λ e c. behind e.0 e.1 ((btree_map_get_iff nat_cmp_total nat_exact m ordered e.0 e.1).1 c)))
