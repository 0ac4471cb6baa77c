-- What a store is, by its unit 0.
use Rattle.std.proofs.Common.{◌≡◌, ℕ, ◌*◌, ◌≤◌, inl, inr, List, [], ◌∷◌, length, true, false, not, Option, Some, None, Result, Ok, Err, IfOk, IfErr, refl, sym, ap, subst, ◌∙◌, arith}
use Rattle.rpm_pkgdb.proofs.Vocabulary.{blank, blank_store, Damage, damage_at, head_cost, head_reason, in_file, is_blank, is_nonzero, KeepsStore, list_any}
use Rattle.rpm_pkgdb.proofs.Vocabulary.{made_or_damaged, NoMemory, OpenFault, opening_cost, OpenIs, Reason, Store, store, store_of_pages, unit_at, Units, word}
use Rattle.rpm_pkgdb.proofs.Kept.{lawful}
use Rattle.std.proofs.lemmas.Bool.{cases_Bool}

pub store_empty : (file : Units) → length file ≡ 0 → store file ≡ Ok blank_store
unfolding store blank
store_empty [] e = refl
store_empty (u ∷ us) e = absurd (omega arith)

module _ (file : Units) (units : ℕ) (head : List ℕ) (long : units ≡ length file) (is : head ≡ unit_at file 0) where
  pub store_blank : not (list_any is_nonzero head) ≡ true → store file ≡ Ok blank_store
  unfolding store
  store_blank zeros = let e : not (list_any is_nonzero (unit_at file 0)) ≡ true = ap (λ (u : List ℕ). not (list_any is_nonzero u)) (sym is) ∙ zeros in rw e refl

  other : not (list_any is_nonzero head) ≡ false → store file ≡ made_or_damaged (head_reason units head) file
  unfolding store
  other some =
      let e : not (list_any is_nonzero (unit_at file 0)) ≡ false = ap (λ (u : List ℕ). not (list_any is_nonzero u)) (sym is) ∙ some in
      rw e (ap (λ (u : List ℕ). made_or_damaged (head_reason (length file) u) file) (sym is)
      ∙ ap (λ (n : ℕ). made_or_damaged (head_reason n head) file) (sym long))

  pub store_damaged : not (list_any is_nonzero head) ≡ false → (r : Reason) → head_reason units head ≡ Some r → store file ≡ Err (damage_at 0 r)
  store_damaged some r fault = other some ∙ ap (λ (o : Option Reason). made_or_damaged o file) fault

  pub store_made : not (list_any is_nonzero head) ≡ false → head_reason units head ≡ None → store file ≡ store_of_pages (word 3 head) file
  store_made some none = other some ∙ ap (λ (o : Option Reason). made_or_damaged o file) none ∙ ap (λ (u : List ℕ). store_of_pages (word 3 u) file) (sym is)

pub ok_keeps : (T : Type 0) (said : Result Store Damage) (r : Result Store OpenFault) → (T → OpenIs said r) → IfOk r (λ db. db ≡ in_file db)
    → IfOk r (λ db. T → said ≡ Ok (in_file db))
ok_keeps T said (Ok db) is fresh = λ told. is told ∙ ap Ok fresh
ok_keeps T said (Err e) is fresh = tt

-- a blank file, or want of memory
pub blank_opens : (file : Units) (r : Result Store OpenFault) → IfOk r (λ db. db ≡ blank_store) → IfErr r (λ e. e ≡ NoMemory) → store file ≡ Ok blank_store
    → OpenIs (store file) r
blank_opens file (Ok db) is err said = said ∙ ap Ok (sym is)
blank_opens file (Err e) is err said = subst (λ (x : OpenFault). OpenIs (store file) (Err x)) (sym err) tt

pub blank_keeps : (T : Type 0) (file : Units) (r : Result Store OpenFault) → IfOk r (λ db. db ≡ blank_store) → (T → store file ≡ Ok blank_store)
    → IfOk r (λ db. T → KeepsStore file db)
blank_keeps T file (Ok db) is said = λ told. said told ∙ ap Ok (sym (ap in_file is))
blank_keeps T file (Err e) is said = tt

-- ---- what opening reads

head_cost_least : (units : ℕ) (head : List ℕ) (o : Option Reason) → head_reason units head ≡ o → 16 ≤ head_cost o head
head_cost_least units head (Some r) is = omega arith
head_cost_least units head None is = omega (arith, (lawful units head is).some)

pub opening_cost_least : (file : Units) → 16 ≤ opening_cost file
opening_cost_least file = elim (cases_Bool (is_blank file)) [
  | inl blank ↦ rw blank (omega arith)
  | inr other ↦ rw other (head_cost_least (length file) (unit_at file 0) (head_reason (length file) (unit_at file 0)) refl)
]

pub opening_cost_made : (file : Units) (units : ℕ) (head : List ℕ) → units ≡ length file → head ≡ unit_at file 0 → not (list_any is_nonzero head) ≡ false
    → head_reason units head ≡ None → opening_cost file ≡ 4096 * word 3 head
opening_cost_made file units head long is some none =
    let other : is_blank file ≡ false = ap (λ (u : List ℕ). not (list_any is_nonzero u)) (sym is) ∙ some in
    rw other (ap (λ (u : List ℕ). head_cost (head_reason (length file) u) u) (sym is) ∙ ap (λ (n : ℕ). head_cost (head_reason n head) head) (sym long)
    ∙ ap (λ (o : Option Reason). head_cost o head) none)
