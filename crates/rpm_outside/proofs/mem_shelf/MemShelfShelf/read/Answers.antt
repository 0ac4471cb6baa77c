use Rattle.std.proofs.Common.{◌≡◌, Some, List, ℕ, ◌+◌, ◌++◌, take, drop, sym, ap, subst, Option, arith}
use Rattle.rpm_outside.proofs.Vocabulary.{bytes_in, left_in, rest_of_item, TakesFront}
use Rattle.rpm_outside.proofs.Shelving.{TakesFirst, reads_first}
use Rattle.rpm_outside.proofs.mem_shelf.MemShelfShelf.read.Goals as goal

pub returns-clause-taken : goal.returns-clause-taken
returns-clause-taken c = λ told.
    let items = c.args.self.now.items.items in
    let at = c.in-Some.opened.at in
    let count = c.min-count.result in
    let left = c.in-Some-left_in.left.now in
    let into = c.args.into.now in
    let given = c.copy_from_slice.new.self ++ drop count into in
    let held = bytes_in items c.in-Some.opened.item in
    let is_left = subst (λ (xs : List _). left_in xs c.in-Some.opened ≡ Some left) c.deref.ensures.value c.in-Some-left_in.ensures in
    let takes : TakesFirst left into given count = record {
      there = omega (arith, c.min.ensures, c.min-count.ensures);
      room = omega (arith, c.min.ensures, c.min-count.ensures);
      one = λ nothing. omega (arith, c.min.ensures, c.min-count.ensures, c.requires);
      given_is = ap (λ (xs : List ℕ). xs ++ drop count into) c.copy_from_slice.ensures.after;
    } in
    let first = reads_first held left into given at count is_left takes in
    subst (λ (old : Option (List ℕ)). TakesFront old (left_in items (record { item = c.in-Some.opened.item; at = at + count })) (take count given))
    (sym (ap (rest_of_item items) c.in-Some.is)) first
