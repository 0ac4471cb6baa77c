-- A question picks by its text, wherever the text lies.
use Rattle.std.proofs.Common.{◌≡◌, ℕ, Bool, true, false, List, [], ◌∷◌, map, Bor, Option, Result, Ok, Err, ◌&&◌, refl, ap, ◌∙◌}
use Rattle.rpm_query.proofs.Vocabulary.{argument_reach, Bad, candidates, Chosen, filter, Good, has_header_key, has_key_in, Header, header, HeaderFault, is_candidate}
use Rattle.rpm_query.proofs.Vocabulary.{is_picked, IsOfChain, keys_asked, Kind, lent, list_any, nat_cmp, Package, picked_packages, picked_by, picks}
use Rattle.rpm_query.proofs.Vocabulary.{question_of, reach, Reach, Selection, Halt, takes_bad, takes_header, takes_read, These, unindexed_reach, Units}
use Rattle.std.specs.Prelude.{IfErr}
use Rattle.rpm_select.specs.Candidates.{has_keys}
use Rattle.rpm_select.specs.Reach.{IsFaultOfOne}
use Rattle.std.specs.FinMap as finite
use Rattle.std.specs.Option.{MatchOption, option_map_or}
use Rattle.rpm_words.specs.declared.switch.Chosen.TheVariants as by
use Rattle.rpm_select.specs.declared.selection.Selection.TheVariants as question
use Rattle.rpm_effects.specs.declared.tally.Halt.TheVariants as halt

filter_same : {X : Type 0} (p q : X → Bool) → ((x : X) → p x ≡ q x) → (xs : List X) → filter p xs ≡ filter q xs
filter_same p q same [] = refl
filter_same p q same (x ∷ xs) = rw (same x, filter_same p q same xs) refl

module _ (s t : Selection) (header_same : (n : ℕ) (h : Header) → takes_header s n h ≡ takes_header t n h) (bad_same : (n : ℕ)
    → takes_bad s n ≡ takes_bad t n) where
  read_same : (n : ℕ) (r : Result Header HeaderFault) → takes_read s n r ≡ takes_read t n r
  read_same n (Ok h) = header_same n h
  read_same n (Err fault) = refl

  picked_alike : (e : ℕ × Package) → is_picked s e ≡ is_picked t e
  picked_alike (n, Good bytes) = read_same n (header bytes)
  picked_alike (n, Bad) = bad_same n

  picks_same : (map : finite.FinMap nat_cmp Package) → picks map s ≡ picks map t
  unfolding picks
  picks_same map = filter_same (is_picked s) (is_picked t) picked_alike (finite.entries map)

picked_same : (map : finite.FinMap nat_cmp Package) (chosen : Chosen) (x : Bor (List ℕ))
    → picked_packages map chosen x.now ≡ picked_by map (question_of chosen x)
unfolding picked_packages takes_header
picked_same map by.Label x = picks_same (question.Label (lent x.now)) (question.Label x) (λ n h. refl) (λ n. refl) map
picked_same map by.All x = picks_same (question.Pattern (lent x.now)) (question.Pattern x) (λ n h. refl) (λ n. refl) map
picked_same map by.Path x = picks_same (question.Path (lent x.now)) (question.Path x) (λ n h. refl) (λ n. refl) map
picked_same map by.Group x = picks_same (question.Group (lent x.now)) (question.Group x) (λ n h. refl) (λ n. refl) map
picked_same map by.Trigger x = picks_same (question.Trigger (lent x.now)) (question.Trigger x) (λ n h. refl) (λ n. refl) map
picked_same map by.Directory x = picks_same (question.Directory (lent x.now)) (question.Directory x) (λ n h. refl) (λ n. refl) map
picked_same map others x = refl

-- ---- and asks an index so

abbrev numbers_of : List (ℕ × Package) → List ℕ
numbers_of es = map (λ e. e.0) es

module _ (s t : Selection) (keys : keys_asked s ≡ keys_asked t) where
  key_same : (r : Result Header HeaderFault) → has_key_in s r ≡ has_key_in t r
  key_same (Ok h) = ap (λ (ks : List (Kind × List ℕ)). list_any (has_header_key h) ks) keys
  key_same (Err fault) = refl

  candidate_alike : (e : ℕ × Package) → is_candidate s e ≡ is_candidate t e
  candidate_alike (n, Good bytes) = key_same (header bytes)
  candidate_alike (n, Bad) = refl

  candidates_same : (map : finite.FinMap nat_cmp Package) → candidates map s ≡ candidates map t
  unfolding candidates
  candidates_same map = filter_same (is_candidate s) (is_candidate t) candidate_alike (finite.entries map)

  reach_alike : unindexed_reach s ≡ unindexed_reach t → (asked : Bool) (map : finite.FinMap nat_cmp Package) → reach asked s map ≡ reach asked t map
  reach_alike same true map = ap (λ (es : List (ℕ × Package)). These (numbers_of es)) (candidates_same map)
  reach_alike same false map = same

-- what a question goes over, with an index or without; an argument that is none goes over nothing
abbrev reach_of_question : Bool → finite.FinMap nat_cmp Package → Option Selection → Reach
reach_of_question indexed packages asked = option_map_or (λ sel. reach (has_keys sel && indexed) sel packages) asked (These [])

reach_same : (indexed : Bool) (map : finite.FinMap nat_cmp Package) (chosen : Chosen) (x : Bor (List ℕ))
    → argument_reach indexed map chosen x.now ≡ reach_of_question indexed map (question_of chosen x)
unfolding argument_reach keys_asked
reach_same indexed map by.Label x = reach_alike (question.Label (lent x.now)) (question.Label x) refl refl indexed map
reach_same indexed map by.Path x = reach_alike (question.Path (lent x.now)) (question.Path x) refl refl indexed map
reach_same indexed map by.Group x = reach_alike (question.Group (lent x.now)) (question.Group x) refl refl indexed map
reach_same indexed map by.Trigger x = reach_alike (question.Trigger (lent x.now)) (question.Trigger x) refl refl indexed map
reach_same indexed map by.Directory x = reach_alike (question.Directory (lent x.now)) (question.Directory x) refl refl indexed map
reach_same indexed map others x = refl

-- a unit has the fault of the chain of a key that a question asks
abbrev IsFaultOfChain : Option Selection → Units → ℕ → Type 0
IsFaultOfChain asked idx unit = MatchOption asked ⊥ (λ sel. IsFaultOfOne (keys_asked sel) idx unit)

pub fault_same : (chosen : Chosen) (x : Bor (List ℕ)) (idx : Units) (unit : ℕ) → IsFaultOfChain (question_of chosen x) idx unit
    → IsFaultOfChain (question_of chosen (lent x.now)) idx unit
unfolding keys_asked
fault_same by.Label x idx unit is = is
fault_same others x idx unit is = is

pub chain_same : (chosen : Chosen) (x : Bor (List ℕ)) (idx : Units) (r : Result Bool Halt) → IfErr r (IsOfChain (question_of chosen x) idx)
    → IfErr r (IsOfChain (question_of chosen (lent x.now)) idx)
chain_same chosen x idx (Ok o) is = tt
chain_same chosen x idx (Err (halt.BadIndex unit)) is = fault_same chosen x idx unit is
chain_same chosen x idx (Err others) is = tt

-- by the question that it is
module _ (map : finite.FinMap nat_cmp Package) (chosen : Chosen) (x : Bor (List ℕ)) {asked : Option Selection} (is : question_of chosen x ≡ asked) where
  pub picked_is : picked_packages map chosen x.now ≡ picked_by map asked
  picked_is = picked_same map chosen x ∙ ap (picked_by map) is

  pub reach_is : (indexed : Bool) → argument_reach indexed map chosen x.now ≡ reach_of_question indexed map asked
  reach_is indexed = reach_same indexed map chosen x ∙ ap (reach_of_question indexed map) is
