-- The limits of a command that changes packages, from the opening to its end.
use Rattle.std.proofs.Common.{◌≡◌, ℕ, ◌^◌, ◌<◌, ◌≤◌, ◌&&◌, if◌then◌else◌, Bool, true, false, List, Option, Some, None}
use Rattle.std.proofs.Common.{Result, Ok, Err, refl, sym, ap}
use Rattle.std.proofs.Common.{◌∙◌, subst}
use Rattle.std.specs.Prelude.{nat_lt}
use Rattle.rpm_change.specs.Limits.{limit_of_command, limit_of_changes, is_limit, MeetsLimit}
use Rattle.rpm_effects.specs.Steps.{Course}
use Rattle.rpm_effects.specs.declared.tally.Halt.{Halt}
use Rattle.rpm_db.specs.Changes.{Change}
use Rattle.rpm_outside.specs.Files.{Files, Units}
use Rattle.rpm_pkgdb.specs.declared.slot.Damage.{Damage}
use Rattle.rpm_commit.specs.Limits.{MeetsFirst}
use Rattle.rpm_commit.specs.laws.Words.{command_limit, LimitsOn}
use Rattle.rpm_commit.specs.Reaches.{begun_store}
use Rattle.rpm_commit.specs.Working.{done_why, OpensBy, OpensIn}
use Rattle.rpm_change.proofs.laws.LimitLaws.{makes_large, makes_small, never_bad_made, stops_unasked}
use Rattle.rpm_db.specs.Openings.{must_rebuild}
use Rattle.rpm_db.specs.Rows.{rows}
use Rattle.rpm_db.specs.State.{State, state}
use Rattle.rpm_commit.specs.laws.Words.{is_rebuilt}
use Rattle.rpm_effects.specs.declared.tally.Tally.{Tally}
use Rattle.rpm_hindex.specs.Sizes.{units_for}
use Rattle.rpm_pkgdb.specs.Store.{Store, store}
use Rattle.rpm_effects.specs.Endings.{why_of_halt}
use Rattle.rpm_effects.specs.declared.answer.Why.{Why}
use Rattle.rpm_effects.specs.declared.tally.Halt.TheVariants as halt
use Rattle.rpm_commit.proofs.laws.Standing.{if_ok}
use Rattle.rpm_commit.proofs.laws.ByEnding.{by_opening}
use Rattle.rpm_commit.proofs.laws.Outcomes.{by_done_why}

-- ---- not opened

large_command : (indexed made : Bool) (s : State) (v : Store) (changes : List Change) (told : ℕ) → made ≡ true
    → 2 ^ 28 < told
    → told ≡ units_for (rows s.packages) → indexed ≡ true
    → command_limit indexed made s v changes ≡ Some (halt.IndexFull told)
large_command false made s v changes told is more same asked = absurd cc
large_command true made s v changes told is more same asked =
    ap (λ (b : Bool). limit_of_command b s v changes) is ∙ makes_large s v changes told more same

-- an index that must be made is made
more_makes : (anew : Bool) (idx : Units) (s : Store) → must_rebuild idx (Ok s) ≡ true → is_rebuilt anew idx s ≡ true
more_makes true idx s must = refl
more_makes false idx s must = must

module _ (indexed made making : Bool) (more : making ≡ true → made ≡ true) (s : State) (v : Store)
    (changes : List Change) (t : State) (new : Files) where
  abbrev first_ending : Option Halt
  first_ending = command_limit indexed made s v changes

  limits_in : (w : Why) → OpensIn making (units_for (rows s.packages)) t new (Err w) → MeetsFirst indexed first_ending w
  limits_in w opens =
      by_opening making (units_for (rows s.packages)) t new (λ (given : Why). MeetsFirst indexed first_ending given)
      (λ u full asked. large_command indexed made s v changes u (more full.0)
      (subst (λ (n : ℕ). 2 ^ 28 < n) (sym full.2) full.1) full.2 asked) tt tt w opens

pub limits_unopened : (indexed anew : Bool) (course : State → Course) (old new : Files) (w : Why)
    → OpensBy old (store old.pkg) new (Err w)
    → LimitsOn indexed anew course old w
limits_unopened indexed anew course old new w opens = if_ok (store old.pkg)
    (λ s is. limits_in indexed (is_rebuilt anew old.idx s) (must_rebuild old.idx (Ok s)) (more_makes anew old.idx s)
    (state old.pkg s) (begun_store s)
    (course (state old.pkg s)).changes (state old.pkg s) new w
    (subst (λ (sr : Result Store Damage). OpensBy old sr new (Err w)) is opens))

-- ---- stopped later, or done

bad_command : (indexed made : Bool) (s : State) (v : Store) (changes : List Change) (u : ℕ)
    → (indexed ≡ true → command_limit indexed made s v changes ≡ Some (halt.BadIndex u)) → indexed ≡ false
bad_command false made s v changes u stops = refl
bad_command true made s v changes u stops = absurd (never_bad_made made changes s v u (stops refl))

module _ (indexed made : Bool) (s : State) (v : Store) (changes : List Change) where
  abbrev meets_limit : Option Halt
  meets_limit = command_limit indexed made s v changes

  pub limits_halt : (h : Halt) → MeetsLimit indexed meets_limit (Err h) → MeetsFirst indexed meets_limit (why_of_halt h)
  limits_halt halt.NumbersSpent stops = stops refl
  limits_halt halt.GenerationSpent stops = stops refl
  limits_halt halt.StoreFull stops = stops refl
  limits_halt (halt.IndexFull u) stops = stops
  limits_halt (halt.BadIndex u) stops = bad_command indexed made s v changes u stops
  limits_halt others stops = tt

pub limits_done : (indexed : Bool) (first : Option Halt) (k : ℕ) → first ≡ None → MeetsFirst indexed first (done_why k)
limits_done indexed first k none = by_done_why (MeetsFirst indexed first) k (λ zero. none) (λ some. none)

pub none_done : (indexed : Bool) (first : Option Halt) (k : ℕ) → MeetsFirst indexed first (done_why k) → first ≡ None
none_done indexed first k =
    by_done_why (λ (w : Why). MeetsFirst indexed first w → first ≡ None) k (λ zero meets. meets) (λ some meets. meets)

-- an index that is made has room, so the first change that is refused decides
pub small_command : (indexed made : Bool) (s : State) (v : Store) (changes : List Change)
    → (made ≡ true → units_for (rows s.packages) ≤ 2 ^ 28)
    → command_limit indexed made s v changes ≡ limit_of_changes indexed s v changes
small_command true made s v changes fits = makes_small made s v changes fits
small_command false made s v changes fits = refl

-- ---- an index that is rebuilt

limit_asked : (h : Halt) → is_limit false h ≡ true → is_limit true h ≡ true
limit_asked halt.DiskFault is = is
limit_asked halt.ShelfFault is = is
limit_asked halt.OutFault is = is
limit_asked halt.ErrFault is = is
limit_asked halt.NoMemory is = is
limit_asked others is = refl

unasked_by : (b : Bool) (n : ℕ) (s : State) (v : Store) (changes : List Change) (r : Result Tally Halt)
    → MeetsLimit true (if b then Some (halt.IndexFull n) else limit_of_changes true s v changes) r
    → MeetsLimit false (limit_of_changes false s v changes) r
unasked_by false n s v changes r stops = stops_unasked s v changes r stops
unasked_by true n s v changes (Ok tally) stops = absurd cc
unasked_by true n s v changes (Err h) stops = λ limit. absurd
    (let same : Some (halt.IndexFull n) ≡ Some h = stops (limit_asked h limit) in
    let is : h ≡ halt.IndexFull n = cc in
    let wrong : is_limit false h ≡ false = ap (is_limit false) is in cc)

pub made_stops : (indexed made : Bool) (s : State) (v : Store) (changes : List Change) (r : Result Tally Halt)
    → MeetsLimit true (limit_of_command made s v changes) r
    → MeetsLimit indexed (command_limit indexed made s v changes) r
made_stops true made s v changes r stops = stops
made_stops false made s v changes r stops =
    unasked_by (made && nat_lt (2 ^ 28) (units_for (rows s.packages))) (units_for (rows s.packages)) s v changes r stops
