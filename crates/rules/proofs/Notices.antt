-- Notices and the journal.
use Rattle.std.proofs.Common.{◌≡◌, ℕ, ◌+◌, Bool, true, false, not, ◌&&◌, eqb, ◌⊎◌, List, [], ◌∷◌, ◌++◌, length, ℤ, pos, ◌≤ℤ◌, ◌<ℤ◌, Some, None, Option, refl, ap, ◌∙◌, inl, inr, arith}
use lib.Signed.{lt_z}
use Rattle.std.proofs.lemmas.Int.{ints}
use Rattle.std.proofs.lemmas.Bool.{and_right, and_left, and_from, eq-eqb, cond-true, both_ways}
use Rattle.margin.specs.Numbers.{below}
use Rattle.rules.specs.Calls.{Notice, Paper, Entry, Call, Answer, open_portfolio, pay_in, pay_out, deliver_in, deliver_out, place, fill, cancel, figures, take_notice, record_paper, put_back, put_in_force, done, accepted, told, given, refused}
use Rattle.rules.specs.Histories.{fell, History, opened_with, asked, is_open, ratio_now, or_owed, notice, enters, journal}
use Rattle.rules.specs.Rules.{then, Ruled}
use Rattle.rules.specs.Laws.{SoundNotices, NoticesSound, NoticesTaken, NoticesPutBack, CountsFrom, JournalNumbered}
use Rattle.margin.proofs.Integers.{less_test}
use Rattle.rules.proofs.Moments.{at_moment}
use Rattle.rules.proofs.Untouched.{sets_left, not_fallen, owed_left, ratio_left}

not_below : (z : ℤ) → pos 0 ≤ℤ z → lt_z z (pos 0) ≡ false
not_below z l = grind (arith, ints)

module _ (h : History) (c : Call) (j : ℕ) where
  abbrev falls : Bool
  falls = is_open h j && fell (ratio_now h j) (ratio_now (then h c) j)

  owed : is_open h j ≡ true → pos 0 ≤ℤ ratio_now h j → ratio_now (then h c) j <ℤ pos 0 → falls ≡ true
  owed o a b = and_from _ _ o (and_from _ _ (ap not (not_below _ a)) (less_test _ _ b))

  not_owed : (ratio_now h j <ℤ pos 0) ⊎ (pos 0 ≤ℤ ratio_now (then h c) j) → falls ≡ false
  not_owed (inl a) = and_right (is_open h j) _ (and_left _ _ (ap not (less_test _ _ a)))
  not_owed (inr b) = and_right (is_open h j) _ (and_right (not (below (ratio_now h j) (pos 0))) _ (not_below _ b))

or_none : (w : Option Notice) (b : Bool) (n : Notice) → w ≡ None → b ≡ true → or_owed w b n ≡ Some n
or_none w b n e f = rw (e, f)

or_some : (w : Option Notice) (b : Bool) (m n : Notice) → w ≡ Some m → or_owed w b n ≡ Some m
or_some w b m n e = rw e

done_sound : (h : History) (c : Call) → SoundNotices h c accepted
done_sound h c = record {
  owed_at_a_fall = λ j d o n s a b. or_none _ _ _ (sets_left h c j (notice h j) s ∙ n) (owed h c j o a b);
  only_at_a_fall = λ j n s f. owed_left _ _ _ (not_owed h c j f) ∙ sets_left h c j (notice h j) s ∙ n;
  first_stands = λ j n e s. or_some _ _ _ _ (sets_left h c j (notice h j) s ∙ e);
}

sound : (h : History) (c : Call) (a : Answer) → SoundNotices h c a
sound h c accepted = done_sound h c
sound h c (told f) = record { owed_at_a_fall = (done_sound h c).owed_at_a_fall; only_at_a_fall = (done_sound h c).only_at_a_fall; first_stands = (done_sound h c).first_stands }
sound h c (given w) = record { owed_at_a_fall = (done_sound h c).owed_at_a_fall; only_at_a_fall = (done_sound h c).only_at_a_fall; first_stands = (done_sound h c).first_stands }
sound h c (refused n) = record {
  owed_at_a_fall = λ j d o n s a b. absurd (both_ways false refl d);
  only_at_a_fall = λ j n s f. n;
  first_stands = λ j n e s. e;
}

pub notices_sound : (h : History) → NoticesSound h
notices_sound h q c a m = sound q c a

-- ---- taken, and put back
taken : (h : History) (p : ℕ) → Ruled h → notice (then h (take_notice p)) p ≡ None
taken h p R =
    owed_left _ _ _ (ap (λ r. is_open h p && fell (ratio_now h p) r) (ratio_left h (figures 0) p R refl) ∙ not_fallen (is_open h p) (ratio_now h p))
    ∙ cond-true (eqb p p) _ _ (eq-eqb p p refl)

taken_by : (h : History) (p : ℕ) (a : Answer) → Ruled h → done a ≡ true → notice (asked h (take_notice p) a) p ≡ None
taken_by h p accepted R d = taken h p R
taken_by h p (told f) R d = taken h p R
taken_by h p (given w) R d = taken h p R
taken_by h p (refused n) R d = absurd (both_ways false refl d)

pub notices_taken : (h : History) → Ruled h → NoticesTaken h
notices_taken h R q p a m d = taken_by q p a (at_moment _ m R).0 d

back : (h : History) (w : Paper) → is_open h w.portfolio ≡ true → notice (then h (put_back w)) w.portfolio ≡ Some w.notice
back h w o = or_some _ _ _ _ (cond-true (eqb w.portfolio w.portfolio && is_open h w.portfolio) _ _ (and_from _ _ (eq-eqb w.portfolio w.portfolio refl) o))

pub notices_put_back : (h : History) → Ruled h → NoticesPutBack h
notices_put_back h R q w a m o = by a (at_moment _ m R).1
  where
    by : (a : Answer) → a ≡ accepted → notice (asked q (put_back w) a) w.portfolio ≡ Some w.notice
    by accepted e = back q w o
    by (told f) e = back q w o
    by (given v) e = back q w o
    by (refused n) e = let z : ◌≡◌ {A = ℕ} 0 1 = cc in absurd (omega arith)

-- ---- the journal's serials
counts_on : (n : ℕ) (es : List Entry) (e : Entry) → CountsFrom n es → e.serial ≡ n + length es → CountsFrom n (es ++ e ∷ [])
counts_on n [] e k s = (s ∙ omega arith, tt)
counts_on n (d ∷ es) e k s = (k.0, counts_on (n + 1) es e k.1 (s ∙ omega arith))

numbered_step : (c : Call) (es : List Entry) → CountsFrom 1 es → CountsFrom 1 (enters c es)
numbered_step (record_paper w t) es k = counts_on 1 es _ k (omega arith)
numbered_step (open_portfolio p) es k = k
numbered_step (pay_in p c x) es k = k
numbered_step (pay_out p c x) es k = k
numbered_step (deliver_in p c q) es k = k
numbered_step (deliver_out p c q) es k = k
numbered_step (place o) es k = k
numbered_step (fill n q x) es k = k
numbered_step (cancel n) es k = k
numbered_step (figures p) es k = k
numbered_step (take_notice p) es k = k
numbered_step (put_back w) es k = k
numbered_step (put_in_force t) es k = k

numbered : (h : History) → CountsFrom 1 (journal h)
numbered (opened_with s n) = tt
numbered (asked h c (refused n)) = numbered h
numbered (asked h c accepted) = numbered_step c (journal h) (numbered h)
numbered (asked h c (told f)) = numbered_step c (journal h) (numbered h)
numbered (asked h c (given w)) = numbered_step c (journal h) (numbered h)

pub journal_numbered : (h : History) → JournalNumbered h
journal_numbered h q m = numbered q
