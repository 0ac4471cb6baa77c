use Rattle.std.proofs.Common.{◌≡◌, ℕ, List, [], ◌∷◌, ◌++◌, ◌/◌, ◌%◌, get_or, codes, refl, ◌∙◌, rules}
use Rattle.rpm_qfeval.proofs.Vocabulary.{day_of, four, month_name, month_of, spaced_number, two, weekday_name, year_of}
use Rattle.rpm_qfeval.proofs.Lists.{three}
use Rattle.rpm_qfeval.proofs.dates.date.Goals as goal

abbrev pieces : List ℕ → List ℕ → List ℕ → List ℕ → List ℕ → List ℕ
pieces w m d c y = w ++ codes " " ++ m ++ codes " " ++ d ++ codes " " ++ c ++ codes " " ++ y

abbrev hands : List ℕ → List ℕ → List ℕ → List ℕ
hands h m s = h ++ codes ":" ++ m ++ codes ":" ++ s

pair : (n m : ℕ) (xs : List ℕ) → xs ≡ two n → n ≡ m → (get_or xs 0 0 ∷ get_or xs 1 0 ∷ []) ≡ two m
pair n m xs e same = rw (e, same) refl

pub returns : goal.returns
returns c =
    let m = c.moment-moment.result in
    let is = c.moment-moment.ensures in
    let weekday : (get_or m.weekday 0 0 ∷ get_or m.weekday 1 0 ∷ get_or m.weekday 2 0 ∷ []) ≡ weekday_name (c.args.second / 86400) = three m.weekday
    (search rules) ∙ is.weekday in
    let month : (get_or m.month 0 0 ∷ get_or m.month 1 0 ∷ get_or m.month 2 0 ∷ []) ≡ month_name (month_of (c.args.second / 86400)) = three m.month
    (search rules) ∙ is.month in
    let day : (get_or c.spaced.result 0 0 ∷ get_or c.spaced.result 1 0 ∷ []) ≡ spaced_number (day_of (c.args.second / 86400)) =
    rw (c.spaced.ensures, is.day) refl in
    let hour = pair m.hour (c.args.second % 86400 / 3600) c.two.result c.two.ensures is.hour in
    let minute = pair m.minute (c.args.second % 86400 / 60 % 60) c.two-2.result c.two-2.ensures is.minute in
    let second = pair m.second (c.args.second % 86400 % 60) c.two-3.result c.two-3.ensures is.second in
    let year : (get_or c.four.result 0 0 ∷ get_or c.four.result 1 0 ∷ get_or c.four.result 2 0 ∷ get_or c.four.result 3 0 ∷ [])
    ≡ four (year_of (c.args.second / 86400)) = rw (c.four.ensures, is.year) refl in
    λ i. pieces (weekday i) (month i) (day i) (hands (hour i) (minute i) (second i)) (year i)
