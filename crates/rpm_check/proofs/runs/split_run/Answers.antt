use Rattle.std.proofs.Common.{◌+◌, ◌∷◌, rules, subst, sym, ap, ◌∙◌, take}
use Rattle.std.specs.List.Sorted.{IsSorted}
use Rattle.std.proofs.lemmas.List.Sorted.{IsPartitionPoint-from_clause}
use Rattle.rpm_version.specs.Evr.{evr, evr_order}
use Rattle.rpm_check.proofs.Running.{alike_parted, alike_run}
use Rattle.rpm_check.specs.inner.Kinds.{offer_kind, offer_order}
use Rattle.rpm_check.specs.inner.Runs.{is_of_standing, IsRunOf}
use Rattle.rpm_check.proofs.runs.split_run.Goals as goal

pub returns-clause-run : goal.returns-clause-run
returns-clause-run c = λ sorted.
    let x = c.in-Some.first.now in
    let xs = c.in-Some.others.now in
    let n = c.partition_point.result in
    let flags = c.args.needed.now.flags in
    let version = c.args.needed.now.evr in
    let all : IsSorted offer_order (x ∷ xs) = subst (IsSorted offer_order) c.in-Some.ensures.cases.0 sorted in
    let point = IsPartitionPoint-from_clause (is_of_standing (offer_kind x) (evr_order (evr x.version.items) (evr version)) (evr version)) xs n
    c.partition_point.ensures.partitioned (alike_parted x xs (evr version) all) (λ a r f called. search rules) in
    subst (IsRunOf flags version) (sym (c.split_at.ensures.front ∙ ap (take (1 + n)) c.in-Some.ensures.cases.0))
    (alike_run x xs flags version n c.partition_point.ensures.bound point.0)
