use Rattle.std.proofs.Common.{◌≡◌, ℕ, ◌≤◌, ◌<◌, ◌^◌, ◌/◌, pos, ℤ, unsigned_abs, ap, ◌∙◌, sym, arith, w8, w16, of_z, to_z, rules}
use Rattle.rpm_qfeval.proofs.Vocabulary.{Date, month_name, Width, year_of}
use Rattle.jiff_core.proofs.SignedLemmas.{back_small}
use Rattle.rpm_qfeval.proofs.Calendar.{Found, found}
use Rattle.rpm_qfeval.proofs.dates.moment.Goals as goal
use mir.Val.{hbits}

few : (n : ℕ) → n < 2 ^ 32 → n / 86400 ≤ 49_710
few n h = omega arith

back : (w : Width) (z : ℤ) (n : ℕ) → z ≡ pos n → n < 2 ^ hbits w → to_z w (of_z w z) ≡ pos n
back w z n e h = rw e (back_small w (pos n) h)

year : (d : Date) (day : ℕ) (z : ℤ) → Found d day → z ≡ d.year → to_z w16 (of_z w16 z) ≡ pos (year_of day)
year d day z f e = rw f.of_year (back w16 z f.year (e ∙ f.is) (omega (arith, f.high)))

pub overflow_cast-result-2 : goal.overflow_cast-result-2
overflow_cast-result-2 c =
    let f = found c.datetime-datetime.result.date (c.args.second / 86400) c.datetime-datetime.ensures.day (few c.args.second c.ranges.second.fits) in
    let high : year_of (c.args.second / 86400) ≤ 2106 = omega (arith, f.of_year, f.high) in
    rw (year c.datetime-datetime.result.date (c.args.second / 86400) c.year.result f (c.year.ensures ∙ ap (λ d. d.year) c.date-date.ensures)) (search rules)

pub returns-clause-month : goal.returns-clause-month
returns-clause-month c =
    let f = found c.datetime-datetime.result.date (c.args.second / 86400) c.datetime-datetime.ensures.day (few c.args.second c.ranges.second.fits) in
    c.month_name.ensures
    ∙ ap (λ z. month_name (unsigned_abs z)) (back w8 c.month.result c.date-date.result.month c.month.ensures (omega (arith, c.date-date.result.month_in.1)))
    ∙ ap month_name (ap (λ d. d.month) c.date-date.ensures ∙ sym f.of_month)

pub returns-clause-day : goal.returns-clause-day
returns-clause-day c =
    let f = found c.datetime-datetime.result.date (c.args.second / 86400) c.datetime-datetime.ensures.day (few c.args.second c.ranges.second.fits) in
    let small : c.date-date.result.day < 128 = rw c.day.ensures at c.day.type_inv in
    ap unsigned_abs (back w8 c.day.result c.date-date.result.day c.day.ensures small) ∙ ap (λ d. d.day) c.date-date.ensures ∙ sym f.of_day

pub returns-clause-year : goal.returns-clause-year
returns-clause-year c =
    let f = found c.datetime-datetime.result.date (c.args.second / 86400) c.datetime-datetime.ensures.day (few c.args.second c.ranges.second.fits) in
    ap unsigned_abs (year c.datetime-datetime.result.date (c.args.second / 86400) c.year.result f (c.year.ensures ∙ ap (λ d. d.year) c.date-date.ensures))
