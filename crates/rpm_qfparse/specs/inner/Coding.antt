-- A code of the tree, by which it may be the value that contracts see.
use Rattle.std.specs.Prelude.{◌≡◌, refl}
use Rattle.std.proofs.Common.{ap}
use Rattle.std.specs.Coded.{Coded, coded_ℕ, coded_list}
use base.Stored.{Gv, gnil, gnum, gcons}
use Rattle.rpm_tags.specs.declared.tag.Tag.{Tag}
use Rattle.rpm_tags.specs.contracts.tag.Tag as tag
use Rattle.rpm_qfparse.specs.declared.tree.TagPart.{TagPart}
use Rattle.rpm_qfparse.specs.contracts.tree.TagPart as tagpart
use Rattle.rpm_qfparse.specs.Tree.{Tree, End, Text, Tagged, Bracket, Condition}

abbrev pub tag_code : Coded Tag
tag_code = tag.the_row.coded

abbrev pub part_code : Coded TagPart
part_code = tagpart.the_row.coded

abbrev pub coded_tree : Tree → Gv
coded_tree End = gnum 0
coded_tree (Text b rest) = gcons (gnum 1) (gcons ((coded_list coded_ℕ).code b) (coded_tree rest))
coded_tree (Tagged t rest) = gcons (gnum 2) (gcons (part_code.code t) (coded_tree rest))
coded_tree (Bracket inner rest) = gcons (gnum 3) (gcons (coded_tree inner) (coded_tree rest))
coded_tree (Condition t first second rest) =
    gcons (gnum 4) (gcons (gcons (tag_code.code t) (coded_tree first)) (gcons (coded_tree second) (coded_tree rest)))

abbrev code_head : Gv → Gv
code_head gnil = gnil
code_head (gnum n) = gnil
code_head (gcons a b) = a

abbrev code_tail : Gv → Gv
code_tail gnil = gnil
code_tail (gnum n) = gnil
code_tail (gcons a b) = b

pub same_tree : (x y : Tree) → coded_tree x ≡ coded_tree y → x ≡ y
same_tree End End p = refl
same_tree (Text b r) (Text c s) p = λ i. Text ((coded_list coded_ℕ).inj b c (ap (λ g. code_head (code_tail g)) p) i)
    (same_tree r s (ap (λ g. code_tail (code_tail g)) p) i)
same_tree (Tagged t r) (Tagged u s) p =
    λ i. Tagged (part_code.inj t u (ap (λ g. code_head (code_tail g)) p) i)
    (same_tree r s (ap (λ g. code_tail (code_tail g)) p) i)
same_tree (Bracket a r) (Bracket b s) p =
    λ i. Bracket (same_tree a b (ap (λ g. code_head (code_tail g)) p) i)
    (same_tree r s (ap (λ g. code_tail (code_tail g)) p) i)
same_tree (Condition t a b r) (Condition u c d s) p =
    λ i. Condition (tag_code.inj t u (ap (λ g. code_head (code_head (code_tail g))) p) i)
    (same_tree a c (ap (λ g. code_tail (code_head (code_tail g))) p) i)
    (same_tree b d (ap (λ g. code_head (code_tail (code_tail g))) p) i)
    (same_tree r s (ap (λ g. code_tail (code_tail (code_tail g))) p) i)
same_tree x y p = cc

abbrev pub tree_code : Coded Tree
tree_code = record { code = coded_tree; inj = same_tree }
