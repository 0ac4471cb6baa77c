-- What a command does with the database that it opens: where nothing was done, and how it ends.
use Rattle.std.proofs.Common.{◌≡◌, ℕ, Bool, true, false, List, [], refl}
use Rattle.rpm_tool.proofs.Vocabulary.{always_keyed, Anywhere, AskParts, Bearer, check_files, Course, Request, request_of, RequestProgress, export, graph_of}
use Rattle.rpm_tool.proofs.Vocabulary.{is_done_or_outside, is_foreign, is_query, Mode, order_part, Outputs, packages, query, Store, Through, Tree}
use Rattle.rpm_tool.proofs.Vocabulary.{Units, unless_starved, unsatisfied_part, verify, CommandProgress, Why}
use Rattle.rpm_words.specs.declared.ask.Mode.TheVariants as mode
use Rattle.rpm_effects.specs.declared.answer.Why.TheVariants as why
use Rattle.rpm_command.specs.declared.reading.Request.TheVariants as request
use Rattle.rpm_commit.proofs.laws.ByEnding.{by_starved}
use Rattle.rpm_effects.specs.Portions.{before_others}
use Rattle.rpm_effects.specs.Steps.{idle}
use Rattle.rpm_tool.proofs.Loading.{went_reads}
use Rattle.rpm_report.proofs.laws.Reporting.{none_listed}
use Rattle.rpm_effects.proofs.laws.Reaching.{not_begun}

-- and neither is a query
pub query_request : (m : Mode) → is_query m ≡ true → always_keyed (request_of m) ≡ false
query_request mode.Query is = refl
query_request others is = absurd cc

went_outside : (c : Course) (w : Why) (old new : Outputs) (reads_to : Bearer → Type 0) → is_foreign w ≡ false → CommandProgress c w old new reads_to
    → is_done_or_outside w ≡ true
went_outside c why.Done old new reads_to own went = refl
went_outside c (why.Failed n) old new reads_to own went = refl
went_outside c (why.Usage f) old new reads_to own went = absurd cc
went_outside c (why.BadFormat f) old new reads_to own went = absurd cc
went_outside c why.DiskFault old new reads_to own went = refl
went_outside c why.ShelfFault old new reads_to own went = absurd cc
went_outside c why.OutFault old new reads_to own went = refl
went_outside c why.ErrFault old new reads_to own went = refl
went_outside c why.NoMemory old new reads_to own went = refl
went_outside c others old new reads_to own went = absurd went

module _ (tree : Tree) (file : Units) (s : Store) (words : List (List ℕ)) (a : AskParts) where
  -- where nothing was done
  module _ (reads_to : Bearer → Type 0) (x : Outputs) (none : Through [] x x) where
    pub does_fault : (d : Request) → RequestProgress d tree file s words a reads_to why.DiskFault x x
    does_fault request.Print = not_begun none
    does_fault request.Export = not_begun none
    does_fault request.Verify = not_begun none
    does_fault request.CheckFiles = not_begun none
    does_fault request.Unmet = not_begun none
    does_fault request.Order = ([], none_listed (graph_of (packages file s)), not_begun none)

  module _ (reads_to : Bearer → Type 0) (old new : Outputs) where
    -- want of memory says the same as a fault of the disk
    memory_does : (d : Request) → RequestProgress d tree file s words a reads_to why.DiskFault old new
        → RequestProgress d tree file s words a reads_to why.NoMemory old new
    memory_does request.Print does = does
    memory_does others does = does

    pub does_starved : (d : Request) (starved : Bool) (w : Why) → RequestProgress d tree file s words a reads_to w old new
        → RequestProgress d tree file s words a reads_to (unless_starved starved w) old new
    does_starved d starved w = by_starved
        (λ (was given : Why). RequestProgress d tree file s words a reads_to was old new → RequestProgress d tree file s words a reads_to given old new)
        (λ was does. does)
        (memory_does d) starved w

    pub does_unbroken : (d : Request) (unit : ℕ) → RequestProgress d tree file s words a reads_to (why.BadIndex unit) old new → ⊥
    does_unbroken request.Order unit does = does.2
    does_unbroken others unit does = does

    pub does_outside : (d : Request) (w : Why) → is_foreign w ≡ false → RequestProgress d tree file s words a reads_to w old new → is_done_or_outside w ≡ true
    does_outside request.Print w own does = went_outside (query tree (packages file s) words a) w old new reads_to own does
    does_outside request.Export w own does = went_outside (export (packages file s)) w old new reads_to own does
    does_outside request.Verify w own does = went_outside (verify file s) w old new reads_to own does
    does_outside request.CheckFiles w own does = went_outside (check_files (packages file s)) w old new reads_to own does
    does_outside request.Unmet w own does = went_outside (before_others (unsatisfied_part (packages file s)) idle) w old new Anywhere own does
    does_outside request.Order w own does = went_outside (before_others (order_part (packages file s) does.0) idle) w old new Anywhere own does.2

  pub does_memory : (reads_to : Bearer → Type 0) (x : Outputs) → Through [] x x → (d : Request)
      → RequestProgress d tree file s words a reads_to why.NoMemory x x
  does_memory reads_to x none d = memory_does reads_to x x d (does_fault reads_to x none d)

  pub does_reads : (d : Request) (P Q : Bearer → Type 0) → ((for : Bearer) → P for → Q for) → (w : Why) (old new : Outputs)
      → RequestProgress d tree file s words a P w old new → RequestProgress d tree file s words a Q w old new
  does_reads request.Print P Q so w old new does = went_reads (query tree (packages file s) words a) w old new P Q so does
  does_reads request.Export P Q so w old new does = went_reads (export (packages file s)) w old new P Q so does
  does_reads request.Verify P Q so w old new does = went_reads (verify file s) w old new P Q so does
  does_reads request.CheckFiles P Q so w old new does = went_reads (check_files (packages file s)) w old new P Q so does
  does_reads request.Unmet P Q so w old new does = does
  does_reads request.Order P Q so w old new does = does
