-- The arguments of a command, one after the other.
use Rattle.rpm_query.proofs.Vocabulary.{argument_part, argument_reach, Bearer, Chosen, Course, Database, Files, Halt, HasIndexRows, is_indexed, Outputs}
use Rattle.rpm_query.proofs.Vocabulary.{outputs, packages, PartIs, Portion, Reach, reach_all, reach_before, reach_sum, reached_by, ReadsOf, store_of, Tree}
use Rattle.rpm_query.proofs.Vocabulary.{CommandProgress, why_of_halt}
use Rattle.std.proofs.Common.{◌≡◌, ℕ, ◌+◌, ◌≤◌, Bool, true, false, if◌then◌else◌, List, ◌++◌, map, drop, Result, Ok, Err, Some, refl, ap}
use Rattle.std.proofs.Common.{subst, arith}
use Rattle.std.specs.Prelude.{slice_get}
use Rattle.rpm_effects.specs.Portions.{before_others, parts_in_turn}
use Rattle.rpm_effects.proofs.laws.Parts.{drop_get, went_stop}
use Rattle.rpm_print.proofs.laws.Reached.{rows_at}
use Rattle.rpm_effects.proofs.laws.Reaching.{StepsSoFar, goes_start, goes_more, goes_stop}
use Rattle.rpm_effects.proofs.laws.Stopping.{reached_reads}
use Rattle.rpm_query.proofs.laws.Sums.{reads_by, before_next, before_some, get_map}

-- ---- what is done for them

abbrev counted : Bool → ℕ
counted b = if b then 1 else 0

pub few_more : (fails : Bool) (failed k : ℕ) → failed ≤ k → failed + counted fails ≤ k + 1
few_more true failed k le = omega (arith, le)
few_more false failed k le = omega (arith, le)

-- those before a place were gone through, and so many of them failed
pub record Turned (ot et : Bool) (each : ℕ → List ℕ → Portion) (f : ℕ → List ℕ) (args : List ℕ) (k failed : ℕ) (o e o' e' : List ℕ) : Type 0 where
  pub goes : StepsSoFar ot et (parts_in_turn each 0 (map f args)).steps (parts_in_turn each k (map f (drop k args))).steps o e o' e'
  pub count : (parts_in_turn each 0 (map f args)).failed ≡ failed + (parts_in_turn each k (map f (drop k args))).failed

pub turned_none : {ot et : Bool} {each : ℕ → List ℕ → Portion} {f : ℕ → List ℕ} {args o e : List ℕ} → Turned ot et each f args 0 0 o e o e
turned_none {ot = ot} {et = et} {each = each} {f = f} {args = args} {o = o} {e = e} = record {
  goes = goes_start ot et (parts_in_turn each 0 (map f args)).steps (parts_in_turn each 0 (map f args)).steps o e refl;
  count = omega arith;
}

module _ {each : ℕ → List ℕ → Portion} {f : ℕ → List ℕ} {args : List ℕ} {k failed : ℕ} {ot et : Bool} {o o' e e' : List ℕ}
    (far : Turned ot et each f args k failed o e o' e') where
  module _ {word : ℕ} (here : slice_get args k ≡ Some word) where
    abbrev rest : Course
    rest = parts_in_turn each (k + 1) (map f (drop (k + 1) args))

    split : parts_in_turn each k (map f (drop k args)) ≡ before_others (each k (f word)) rest
    split = ap (λ (ws : List ℕ). parts_in_turn each k (map f ws)) (drop_get args k word here)

    turn_steps : (parts_in_turn each k (map f (drop k args))).steps ≡ (each k (f word)).steps ++ rest.steps
    turn_steps = ap (λ (c : Course). c.steps) split

    pub turned_more : {o'' e'' : List ℕ} {P : Bearer → Type 0} {fails : Bool}
        → PartIs (each k (f word)) (Ok fails) (outputs ot o' et e') (outputs ot o'' et e'') P
        → Turned ot et each f args (k + 1) (failed + counted fails) o e o'' e''
    turned_more {o'' = o''} {e'' = e''} {fails = fails} part = record {
      goes = goes_more ot et (parts_in_turn each 0 (map f args)).steps (parts_in_turn each k (map f (drop k args))).steps (each k (f word)).steps rest.steps
          o o' o'' e e' e'' turn_steps far.goes part.steps;
      count =
          let parts : (parts_in_turn each k (map f (drop k args))).failed ≡ counted (each k (f word)).fails + rest.failed =
          ap (λ (c : Course). c.failed) split in
          let one : counted (each k (f word)).fails ≡ counted fails = ap counted part.fails in
          omega (arith, far.count, parts, one);
    }

    pub turned_stop : {o'' e'' : List ℕ} {P : Bearer → Type 0} (Q : Bearer → Type 0) {what : Halt} → ((b : Bearer) → P b → Q b)
        → PartIs (each k (f word)) (Err what) (outputs ot o' et e') (outputs ot o'' et e'') P
        → CommandProgress (parts_in_turn each 0 (map f args)) (why_of_halt what) (outputs ot o et e) (outputs ot o'' et e'') Q
    turned_stop {o'' = o''} {e'' = e''} {P = P} Q {what = what} so part =
        let all = parts_in_turn each 0 (map f args) in
        went_stop Bool all what (outputs ot o et e) (outputs ot o'' et e'') Q
        (goes_stop ot et all.steps (parts_in_turn each k (map f (drop k args))).steps (each k (f word)).steps rest.steps o o' o'' e e' e'' turn_steps far.goes
        Bool Bool what Q (reached_reads {T = Bool} (each k (f word)).steps (Err what) (outputs ot o' et e') (outputs ot o'' et e'') P Q so part.steps))

-- ---- what is said of one of them, and read for it

-- what is said of the files as they read is said of the files as they were
module _ (chosen : Chosen) (text : List ℕ) (db : Database) (between now : ℕ) {f f' : Files} (same : f ≡ f') where
  abbrev over : Files → Reach
  over g = argument_reach (is_indexed db) (packages g.pkg (store_of db)) chosen text

  pub part_here : (tree : Tree) (after k : ℕ) {r : Result Bool Halt} {old new : Outputs}
      → (HasIndexRows db f.pkg f.idx → PartIs (argument_part tree (packages f.pkg (store_of db)) chosen after k text) r old new
      (ReadsOf k (over f) db between now))
      → HasIndexRows db f'.pkg f'.idx
      → PartIs (argument_part tree (packages f'.pkg (store_of db)) chosen after k text) r old new (ReadsOf k (over f') db between now)
  part_here tree after k {r = r} {old = old} {new = new} part rows =
      subst (λ (g : Files). PartIs (argument_part tree (packages g.pkg (store_of db)) chosen after k text) r old new (ReadsOf k (over g) db between now)) same
      (part (rows_at db f f' same rows))

  pub reads_here : (HasIndexRows db f.pkg f.idx → now ≤ between + reach_all (over f) db) → HasIndexRows db f'.pkg f'.idx
      → now ≤ between + reach_all (over f') db
  reads_here read rows = subst (λ (g : Files). now ≤ between + reach_all (over g) db) same (read (rows_at db f f' same rows))

-- with those before
module _ (over : List ℕ → Reach) (f : ℕ → List ℕ) (db : Database) (args : List ℕ) (start k between : ℕ) {word : ℕ} (here : slice_get args k ≡ Some word)
    (first : between ≤ start + reach_before (map over (map f args)) db k) where
  there : slice_get (map over (map f args)) k ≡ Some (over (f word))
  there = get_map over (map f args) k (f word) (get_map f args k word here)

  pub read_more : {now : ℕ} → now ≤ between + reach_all (over (f word)) db → now ≤ start + reach_before (map over (map f args)) db (k + 1)
  read_more one = omega (arith, first, one, before_next (map over (map f args)) db k (over (f word)) there)

  pub read_sum : {now : ℕ} → now ≤ between + reach_all (over (f word)) db → now ≤ start + reach_sum (map over (map f args)) db
  read_sum one = omega (arith, read_more one, before_some (map over (map f args)) db (k + 1))

  pub read_by : {now : ℕ} (b : Bearer) → ReadsOf k (over (f word)) db between now b → now ≤ start + reached_by (map over (map f args)) db b
  read_by {now = now} b read = reads_by (map over (map f args)) db k (over (f word)) start between now b there first read
