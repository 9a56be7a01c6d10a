-- Books of calls, each with the answer that the rules give after the calls before it.
use Rattle.std.specs.Prelude.{◌≡◌, ℕ, cond, List, [], ◌∷◌, map, pos, ◌==◌}
use Rattle.margin.specs.declared.Kind.TheVariants.{Shortable, OffList}
use Rattle.margin.specs.declared.Piece.{Piece}
use Rattle.margin.specs.Sheets.{Sheet}
use Rattle.rules.specs.Calls.{Entry, put_back, Call, Answer, open_portfolio, pay_in, pay_out, deliver_in, deliver_out, fill, cancel, figures, take_notice, record_paper, put_in_force, accepted, given, refused}
use Rattle.rules.specs.Histories.{opened_with, journal, History, asked}
use Rattle.rules.specs.Rules.{ruled}
use Rattle.rules.specs.Samples.{stepped, instrument, posted_sheet, sheet, opened, minus, paper, tells, roubles, dollars, buy, sell}

-- a register as it was opened, and calls with their answers
pub record Book : Type 0 where
  pub begun : History
  pub rows : List (Call × Answer)

-- the history that the rows make
abbrev pub after : History → List (Call × Answer) → History
after h [] = h
after h (r ∷ rs) = after (asked h r.0 r.1) rs

abbrev pub played : Book → History
played b = after b.begun b.rows

-- what the rules answer to each call, after the rows before it
abbrev pub answers : History → List (Call × Answer) → List Answer
answers h [] = []
answers h (r ∷ rs) = ruled h r.0 ∷ answers (asked h r.0 r.1) rs

-- each row's answer is the rules'
abbrev pub Answered : Book → Type 0
Answered b = answers b.begun b.rows ≡ map (λ r. r.1) b.rows

-- ---- orders: placed, refused for margin, filled in parts, cancelled
abbrev pub orders_book : Book
orders_book = record {
  begun = opened (sheet 10000);
  rows =
      (open_portfolio 1, accepted)
      ∷ (pay_in 1 643 100000, accepted)
      ∷ (open_portfolio 2, accepted)
      ∷ (pay_in 2 643 100000, accepted)
      ∷ (open_portfolio 3, accepted)
      ∷ (pay_in 3 643 100000, accepted)
      ∷ (open_portfolio 4, accepted)
      ∷ (pay_in 4 643 100000, accepted)
      ∷ (buy 11 1 1001 51 10000, refused 24)
      ∷ (buy 11 1 1001 50 10000, accepted)
      ∷ (figures 1, tells (pos 100000) (pos 0) (pos 0) (pos 100000) (pos 100000) (pos 0))
      ∷ (sell 12 1 1001 41 10000, refused 24)
      ∷ (sell 12 1 1001 40 10000, accepted)
      ∷ (figures 1, tells (pos 100000) (pos 0) (pos 0) (pos 100000) (pos 100000) (pos 0))
      ∷ (buy 11 2 1001 1 10000, refused 17)
      ∷ (buy 21 2 1001 10 11000, accepted)
      ∷ (figures 2, tells (pos 100000) (pos 0) (pos 0) (pos 100000) (pos 100000) (pos 70000))
      ∷ (buy 31 3 1001 10 9000, accepted)
      ∷ (figures 3, tells (pos 100000) (pos 0) (pos 0) (pos 100000) (pos 100000) (pos 80000))
      ∷ (fill 11 51 10000, refused 19)
      ∷ (fill 11 20 10001, refused 20)
      ∷ (fill 11 20 9990, accepted)
      ∷ (figures 1, tells (pos 100200) (pos 40000) (pos 20000) (pos 60200) (pos 80200) (pos 200))
      ∷ (fill 12 40 9999, refused 20)
      ∷ (fill 12 40 10005, accepted)
      ∷ (figures 1, tells (pos 100400) (pos 50000) (pos 25000) (pos 50400) (pos 75400) (pos 50400))
      ∷ (cancel 12, refused 18)
      ∷ (cancel 11, accepted)
      ∷ (figures 1, tells (pos 100400) (pos 50000) (pos 25000) (pos 50400) (pos 75400) (pos 50400))
      ∷ (sell 41 4 1002 1 5000, refused 21)
      ∷ (deliver_in 4 1002 5, accepted)
      ∷ (sell 41 4 1002 5 5000, accepted)
      ∷ (deliver_out 4 1002 1, refused 21)
      ∷ (fill 41 5 5200, accepted)
      ∷ (figures 4, tells (pos 2440000) (pos 234000) (pos 117000) (pos 2206000) (pos 2323000) (pos 2206000))
      ∷ (pay_out 4 840 26000, accepted)
      ∷ (pay_out 4 840 1, accepted)
      ∷ (figures 4, tells (pos 99910) (pos 90) (pos 45) (pos 99820) (pos 99865) (pos 99820))
      ∷ [];
}

-- ---- dollars: a second currency, and the limit of the gross
abbrev pub dollars_book : Book
dollars_book = record {
  begun = opened (sheet 10000);
  rows =
      (open_portfolio 7, accepted)
      ∷ (pay_in 7 840 100000, accepted)
      ∷ (deliver_in 7 1002 10, accepted)
      ∷ (figures 7, tells (pos 13500000) (pos 2565000) (pos 1282500) (pos 10935000) (pos 12217500) (pos 10935000))
      ∷ (open_portfolio 8, accepted)
      ∷ (pay_in 8 643 1000, accepted)
      ∷ (pay_out 8 840 1, accepted)
      ∷ (figures 8, tells (pos 910) (pos 90) (pos 45) (pos 820) (pos 865) (pos 820))
      ∷ (pay_in 9 840 1, refused 14)
      ∷ (pay_in 8 978 1, refused 16)
      ∷ (pay_in 8 643 200000000000, refused 23)
      ∷ (pay_in 8 643 199999998999, accepted)
      ∷ (figures 8, tells (pos 199999999909) (pos 90) (pos 45) (pos 199999999819) (pos 199999999864) (pos 199999999819))
      ∷ [];
}

-- ---- sheets: a price falls, a notice is taken and recorded, and sheets that do not fit are refused
abbrev one_currency : Sheet
one_currency = posted_sheet (roubles ∷ []) (instrument 1001 643 Shortable 9000 ∷ [])

abbrev no_instruments : Sheet
no_instruments = posted_sheet (roubles ∷ dollars ∷ []) []

abbrev share_in_dollars : Sheet
share_in_dollars = posted_sheet (roubles ∷ dollars ∷ []) (instrument 1001 840 Shortable 9000 ∷ [])

abbrev share_off_list : Sheet
share_off_list = posted_sheet (roubles ∷ dollars ∷ []) (instrument 1001 643 OffList 9000 ∷ [])

abbrev pub sheets_book : Book
sheets_book = record {
  begun = opened (sheet 10000);
  rows =
      (open_portfolio 1, accepted)
      ∷ (pay_in 1 643 100000, accepted)
      ∷ (buy 1 1 1001 50 10000, accepted)
      ∷ (fill 1 50 10000, accepted)
      ∷ (figures 1, tells (pos 100000) (pos 100000) (pos 50000) (pos 0) (pos 50000) (pos 0))
      ∷ (take_notice 1, refused 25)
      ∷ (put_in_force (sheet 9000), accepted)
      ∷ (figures 1, tells (pos 50000) (pos 90000) (pos 45000) (minus 40000) (pos 5000) (minus 40000))
      ∷ (sell 2 1 1001 50 7199, refused 24)
      ∷ (sell 2 1 1001 50 7200, accepted)
      ∷ (figures 1, tells (pos 50000) (pos 90000) (pos 45000) (minus 40000) (pos 5000) (minus 40000))
      ∷ (cancel 2, accepted)
      ∷ (sell 3 1 1001 91 9000, refused 24)
      ∷ (sell 3 1 1001 90 9000, accepted)
      ∷ (figures 1, tells (pos 50000) (pos 90000) (pos 45000) (minus 40000) (pos 5000) (minus 40000))
      ∷ (take_notice 1, given (paper 1 (pos 50000) (pos 90000) (pos 45000)))
      ∷ (record_paper (paper 1 (pos 50000) (pos 90000) (pos 45000)) 1700000000, accepted)
      ∷ (take_notice 1, refused 25)
      ∷ (pay_out 1 643 1, refused 24)
      ∷ (cancel 3, accepted)
      ∷ (pay_in 1 643 500000, accepted)
      ∷ (figures 1, tells (pos 550000) (pos 90000) (pos 45000) (pos 460000) (pos 505000) (pos 460000))
      ∷ (put_in_force one_currency, refused 13)
      ∷ (put_in_force no_instruments, refused 13)
      ∷ (put_in_force share_in_dollars, refused 13)
      ∷ (put_in_force share_off_list, accepted)
      ∷ (figures 1, tells (pos 100000) (pos 0) (pos 0) (pos 100000) (pos 100000) (pos 100000))
      ∷ (take_notice 1, refused 25)
      ∷ [];
}

-- ---- stepped rates
abbrev stepped_rates : ℕ → List Piece
stepped_rates c = cond (c == 1001) (stepped 2000 3000 5000 10 20) (cond (c == 1002) (stepped 10000 10000 10000 0 4294967295) [])

abbrev pub stepped_book : Book
stepped_book = record {
  begun = opened record { currencies = roubles ∷ []; instruments = instrument 1001 643 Shortable 10000 ∷ instrument 1002 643 Shortable 10000 ∷ []; pieces = stepped_rates };
  rows =
      (open_portfolio 1, accepted)
      ∷ (deliver_in 1 1001 25, accepted)
      ∷ (figures 1, tells (pos 250000) (pos 75000) (pos 37500) (pos 175000) (pos 212500) (pos 175000))
      ∷ (open_portfolio 2, accepted)
      ∷ (pay_in 2 643 400000, accepted)
      ∷ (sell 1 2 1001 15 10000, accepted)
      ∷ (fill 1 15 10000, accepted)
      ∷ (figures 2, tells (pos 400000) (pos 35000) (pos 17500) (pos 365000) (pos 382500) (pos 365000))
      ∷ (sell 2 2 1001 20 10000, accepted)
      ∷ (figures 2, tells (pos 400000) (pos 35000) (pos 17500) (pos 365000) (pos 382500) (pos 275000))
      ∷ (deliver_in 2 1002 3, accepted)
      ∷ (figures 2, tells (pos 430000) (pos 65000) (pos 32500) (pos 365000) (pos 397500) (pos 275000))
      ∷ [];
}

-- ---- ranges: the ends of each
abbrev pub ranges_book : Book
ranges_book = record {
  begun = opened (sheet 10000);
  rows =
      (open_portfolio 65536, refused 4)
      ∷ (open_portfolio 65535, accepted)
      ∷ (pay_in 65535 0 1, refused 4)
      ∷ (pay_in 65535 1 1, refused 16)
      ∷ (pay_in 65535 999 1, refused 16)
      ∷ (pay_in 65535 1000 1, refused 4)
      ∷ (pay_in 65535 643 0, refused 4)
      ∷ (pay_in 65535 643 200000000001, refused 4)
      ∷ (pay_in 65535 643 200000000000, accepted)
      ∷ (pay_out 65535 643 200000000001, refused 4)
      ∷ (pay_out 65535 643 199999900000, accepted)
      ∷ (deliver_in 65535 999 1, refused 4)
      ∷ (deliver_in 65535 1000 1, refused 16)
      ∷ (deliver_in 65535 65535 1, refused 16)
      ∷ (deliver_in 65535 65536 1, refused 4)
      ∷ (deliver_in 65535 1003 1000000000, refused 16)
      ∷ (deliver_in 65535 1003 1000000001, refused 4)
      ∷ (deliver_out 65535 65536 1, refused 4)
      ∷ (deliver_out 65535 1003 1000000001, refused 4)
      ∷ (buy 0 65535 1001 1 1, refused 4)
      ∷ (buy 4294967296 65535 1001 1 1, refused 4)
      ∷ (buy 1 65536 1001 1 1, refused 4)
      ∷ (buy 1 65535 65536 1 1, refused 4)
      ∷ (buy 1 65535 1001 0 1, refused 4)
      ∷ (buy 1 65535 1001 1000000001 1, refused 4)
      ∷ (buy 1 65535 1001 1 0, refused 4)
      ∷ (buy 1 65535 1001 1 1000000001, refused 4)
      ∷ (buy 4294967295 65535 1001 1 1, accepted)
      ∷ (fill 4294967296 1 1, refused 4)
      ∷ (fill 4294967295 0 1, refused 4)
      ∷ (fill 4294967295 1000000001 1, refused 4)
      ∷ (fill 4294967295 1 0, refused 4)
      ∷ (fill 4294967295 1 1000000001, refused 4)
      ∷ (fill 4294967295 1 1, accepted)
      ∷ (cancel 4294967296, refused 4)
      ∷ (figures 65536, refused 4)
      ∷ (figures 65535, tells (pos 109999) (pos 2000) (pos 1000) (pos 107999) (pos 108999) (pos 107999))
      ∷ (take_notice 65536, refused 4)
      ∷ [];
}

-- ---- first failing: where two checks fail, the earlier one answers; one place of each
abbrev one_place : History
one_place = opened_with (sheet 10000) record { portfolios = 1; lines = 1; orders = 1; journal = 1 }

abbrev pub first_failing_book : Book
first_failing_book = record {
  begun = one_place;
  rows =
      (open_portfolio 0, refused 4)
      ∷ (open_portfolio 1, accepted)
      ∷ (open_portfolio 65536, refused 4)
      ∷ (open_portfolio 1, refused 15)
      ∷ (open_portfolio 2, refused 22)
      ∷ (pay_in 2 1000 1, refused 4)
      ∷ (pay_in 2 978 200000000001, refused 4)
      ∷ (pay_in 2 978 1, refused 14)
      ∷ (pay_in 1 978 1, refused 16)
      ∷ (pay_in 1 643 1000, accepted)
      ∷ (pay_in 1 643 200000000000, refused 23)
      ∷ (pay_out 2 978 0, refused 4)
      ∷ (pay_out 2 978 1, refused 14)
      ∷ (pay_out 1 978 1, refused 16)
      ∷ (pay_out 1 840 1, accepted)
      ∷ (pay_out 1 840 200000000000, refused 23)
      ∷ (pay_out 1 643 1000, refused 24)
      ∷ (deliver_in 2 999 1, refused 4)
      ∷ (deliver_in 2 1003 1000000001, refused 4)
      ∷ (deliver_in 2 1003 1, refused 14)
      ∷ (deliver_in 1 1003 1, refused 16)
      ∷ (deliver_in 1 1001 100000000, refused 23)
      ∷ (deliver_in 1 1001 5, accepted)
      ∷ (deliver_in 1 1003 1, refused 16)
      ∷ (deliver_in 1 1002 1000000000, refused 22)
      ∷ (deliver_out 2 1003 0, refused 4)
      ∷ (deliver_out 2 1003 1, refused 14)
      ∷ (deliver_out 1 1003 1, refused 16)
      ∷ (pay_out 1 643 40000, accepted)
      ∷ (deliver_out 1 1001 6, refused 21)
      ∷ (deliver_out 1 1001 5, refused 24)
      ∷ (sell 0 2 1003 1 1, refused 4)
      ∷ (sell 1 2 1003 1 1, refused 14)
      ∷ (sell 1 1 1003 1 1, refused 16)
      ∷ (sell 1 1 1001 1 10000, accepted)
      ∷ (sell 1 1 1003 1 1, refused 16)
      ∷ (sell 1 1 1002 1 1, refused 17)
      ∷ (sell 2 1 1002 1 1, refused 21)
      ∷ (buy 2 1 1002 1 1, refused 22)
      ∷ (buy 2 1 1001 1000000000 1000000000, refused 22)
      ∷ (fill 0 2 9999, refused 4)
      ∷ (fill 9 2 9999, refused 18)
      ∷ (fill 1 2 9999, refused 19)
      ∷ (fill 1 1 9999, refused 20)
      ∷ (cancel 0, refused 4)
      ∷ (cancel 2, refused 18)
      ∷ (cancel 1, accepted)
      ∷ (buy 2 1 1002 1 1, refused 22)
      ∷ (buy 2 1 1001 1000000000 1000000000, refused 23)
      ∷ (buy 2 1 1001 300 1000000000, refused 23)
      ∷ (buy 2 1 1001 1000 10000, refused 24)
      ∷ (figures 0, refused 4)
      ∷ (figures 2, refused 14)
      ∷ (take_notice 0, refused 4)
      ∷ (take_notice 2, refused 14)
      ∷ (take_notice 1, refused 25)
      ∷ (record_paper (paper 1 (pos 1) (pos 2) (pos 3)) 7, accepted)
      ∷ (record_paper (paper 2 (pos 1) (pos 2) (pos 3)) 8, refused 14)
      ∷ (record_paper (paper 1 (pos 1) (pos 2) (pos 3)) 8, refused 26)
      ∷ (pay_in 1 643 10000000, accepted)
      ∷ (deliver_in 1 1001 300, accepted)
      ∷ (buy 3 1 1001 300 10000, accepted)
      ∷ (fill 3 300 1000000000, refused 20)
      ∷ (cancel 3, accepted)
      ∷ (sell 4 1 1001 300 1, accepted)
      ∷ (fill 4 300 1000000000, refused 23)
      ∷ (cancel 4, accepted)
      ∷ (put_in_force (posted_sheet (roubles ∷ []) (instrument 1001 643 Shortable 1000000000 ∷ [])), refused 13)
      ∷ (put_in_force (sheet 1000000000), refused 23)
      ∷ [];
}

-- ---- places: those that are freed are used again
abbrev pub places_book : Book
places_book = record {
  begun = one_place;
  rows =
      (open_portfolio 1, accepted)
      ∷ (pay_in 1 643 100000, accepted)
      ∷ (deliver_in 1 1001 5, accepted)
      ∷ (deliver_in 1 1002 1, refused 22)
      ∷ (deliver_out 1 1001 5, accepted)
      ∷ (deliver_in 1 1002 1, accepted)
      ∷ (buy 1 1 1001 1 10000, refused 22)
      ∷ (deliver_out 1 1002 1, accepted)
      ∷ (buy 1 1 1001 1 10000, accepted)
      ∷ (deliver_in 1 1002 1, refused 22)
      ∷ (buy 2 1 1001 1 10000, refused 22)
      ∷ (fill 1 1 10000, accepted)
      ∷ (deliver_in 1 1002 1, refused 22)
      ∷ (buy 2 1 1001 1 10000, accepted)
      ∷ (cancel 2, accepted)
      ∷ (sell 2 1 1001 1 10000, accepted)
      ∷ (fill 2 1 10000, accepted)
      ∷ (deliver_in 1 1002 1, accepted)
      ∷ [];
}

-- ---- roundings: worths and conversions toward minus infinity, half of an odd margin up
abbrev pub roundings_book : Book
roundings_book = record {
  begun = opened (posted_sheet (roubles ∷ record { code = 840; fx = 905555 } ∷ []) (instrument 1001 643 Shortable 5 ∷ []));
  rows =
      (open_portfolio 1, accepted)
      ∷ (pay_in 1 643 100, accepted)
      ∷ (deliver_in 1 1001 1, accepted)
      ∷ (figures 1, tells (pos 105) (pos 1) (pos 1) (pos 104) (pos 104) (pos 104))
      ∷ (sell 1 1 1001 3 5, accepted)
      ∷ (fill 1 3 5, accepted)
      ∷ (figures 1, tells (pos 105) (pos 3) (pos 2) (pos 102) (pos 103) (pos 102))
      ∷ (pay_in 1 840 3, accepted)
      ∷ (figures 1, tells (pos 376) (pos 93) (pos 47) (pos 283) (pos 329) (pos 283))
      ∷ (pay_out 1 840 4, refused 24)
      ∷ (pay_in 1 643 1000, accepted)
      ∷ (pay_out 1 840 4, accepted)
      ∷ (figures 1, tells (pos 1014) (pos 94) (pos 47) (pos 920) (pos 967) (pos 920))
      ∷ [];
}

-- ---- notices: owed at a fall and once, taken, put back, recorded while there is room
abbrev pub notices_book : Book
notices_book = record {
  begun = one_place;
  rows =
      (open_portfolio 1, accepted)
      ∷ (pay_in 1 643 100000, accepted)
      ∷ (buy 1 1 1001 50 10000, accepted)
      ∷ (fill 1 50 10000, accepted)
      ∷ (put_in_force (sheet 9000), accepted)
      ∷ (put_in_force (sheet 10000), accepted)
      ∷ (put_in_force (sheet 8000), accepted)
      ∷ (take_notice 1, given (paper 1 (pos 50000) (pos 90000) (pos 45000)))
      ∷ (take_notice 1, refused 25)
      ∷ (put_in_force (sheet 10000), accepted)
      ∷ (put_in_force (sheet 9500), accepted)
      ∷ (take_notice 1, given (paper 1 (pos 75000) (pos 95000) (pos 47500)))
      ∷ (put_in_force (sheet 10000), accepted)
      ∷ (put_in_force (sheet 9000), accepted)
      ∷ (put_back (paper 1 (pos 75000) (pos 95000) (pos 47500)), accepted)
      ∷ (take_notice 1, given (paper 1 (pos 75000) (pos 95000) (pos 47500)))
      ∷ (record_paper (paper 1 (pos 75000) (pos 95000) (pos 47500)) 1700000000, accepted)
      ∷ (record_paper (paper 1 (pos 50000) (pos 90000) (pos 45000)) 1700000001, refused 26)
      ∷ (put_back (paper 1 (pos 50000) (pos 90000) (pos 45000)), accepted)
      ∷ (take_notice 1, given (paper 1 (pos 50000) (pos 90000) (pos 45000)))
      ∷ (put_back (paper 2 (pos 1) (pos 2) (pos 3)), accepted)
      ∷ (take_notice 2, refused 14)
      ∷ [];
}

abbrev one_entry : List Entry
one_entry = record { serial = 1; portfolio = 1; notice = record { value = pos 75000; initial = pos 95000; minimum = pos 47500 }; time = 1700000000 } ∷ []

pub record BooksAnswered : Type 0 where
  pub orders : Answered orders_book
  pub dollars : Answered dollars_book
  pub sheets : Answered sheets_book
  pub stepped : Answered stepped_book
  pub ranges : Answered ranges_book
  pub first_failing : Answered first_failing_book
  pub places : Answered places_book
  pub roundings : Answered roundings_book
  pub notices : Answered notices_book
  pub recorded : journal (played notices_book) ≡ one_entry
