-- Eight elements, one by one.
use Rattle.std.proofs.Common.{◌≡◌, List, [], ◌∷◌, length, get_or, Some, refl, arith}
use Rattle.margin.specs.declared.Instrument.{Instrument}
use Rattle.valuation.specs.declared.line.Line.{Line}
use Rattle.measuring.specs.declared.units.Units.{Units}
use Rattle.measuring.specs.Units.{instrument_of, IsLine}
use Rattle.measuring.specs.Placed.{eight_of, AreLines}

by_eight : {X : Type 0} (P : List X → Type 0) → ((a b c d e f g h : X) → P (a ∷ b ∷ c ∷ d ∷ e ∷ f ∷ g ∷ h ∷ [])) → (xs : List X) → length xs ≡ 8 → P xs
by_eight P p [] l = absurd (omega arith)
by_eight P p (a ∷ []) l = absurd (omega arith)
by_eight P p (a ∷ b ∷ []) l = absurd (omega arith)
by_eight P p (a ∷ b ∷ c ∷ []) l = absurd (omega arith)
by_eight P p (a ∷ b ∷ c ∷ d ∷ []) l = absurd (omega arith)
by_eight P p (a ∷ b ∷ c ∷ d ∷ e ∷ []) l = absurd (omega arith)
by_eight P p (a ∷ b ∷ c ∷ d ∷ e ∷ f ∷ []) l = absurd (omega arith)
by_eight P p (a ∷ b ∷ c ∷ d ∷ e ∷ f ∷ g ∷ []) l = absurd (omega arith)
by_eight P p (a ∷ b ∷ c ∷ d ∷ e ∷ f ∷ g ∷ h ∷ []) l = p a b c d e f g h
by_eight P p (a ∷ b ∷ c ∷ d ∷ e ∷ f ∷ g ∷ h ∷ i ∷ xs) l = absurd (omega arith)

module _ (z : Units) where
  pub instruments_are : (us : List Units) (i j k l m n o p : Instrument) → length us ≡ 8 →
      i ≡ instrument_of 1000 (get_or us 0 z) → j ≡ instrument_of 1001 (get_or us 1 z) → k ≡ instrument_of 1002 (get_or us 2 z) → l ≡ instrument_of 1003 (get_or us 3 z) →
      m ≡ instrument_of 1004 (get_or us 4 z) → n ≡ instrument_of 1005 (get_or us 5 z) → o ≡ instrument_of 1006 (get_or us 6 z) → p ≡ instrument_of 1007 (get_or us 7 z) →
      Some (i ∷ j ∷ k ∷ l ∷ m ∷ n ∷ o ∷ p ∷ []) ≡ eight_of us
  instruments_are us i j k l m n o p len =
      by_eight
      (λ us.
      i ≡ instrument_of 1000 (get_or us 0 z) → j ≡ instrument_of 1001 (get_or us 1 z) → k ≡ instrument_of 1002 (get_or us 2 z) → l ≡ instrument_of 1003 (get_or us 3 z) →
      m ≡ instrument_of 1004 (get_or us 4 z) → n ≡ instrument_of 1005 (get_or us 5 z) → o ≡ instrument_of 1006 (get_or us 6 z) → p ≡ instrument_of 1007 (get_or us 7 z) →
      Some (i ∷ j ∷ k ∷ l ∷ m ∷ n ∷ o ∷ p ∷ []) ≡ eight_of us)
      (λ a b c d e f g h s t u v w x y q. rw (s, t, u, v, w, x, y, q) refl)
      us len

  pub lines_are : (us : List Units) (i j k l m n o p : Line) → length us ≡ 8 →
      IsLine 1000 (get_or us 0 z) (Some i) → IsLine 1001 (get_or us 1 z) (Some j) → IsLine 1002 (get_or us 2 z) (Some k) → IsLine 1003 (get_or us 3 z) (Some l) →
      IsLine 1004 (get_or us 4 z) (Some m) → IsLine 1005 (get_or us 5 z) (Some n) → IsLine 1006 (get_or us 6 z) (Some o) → IsLine 1007 (get_or us 7 z) (Some p) →
      AreLines us (Some (i ∷ j ∷ k ∷ l ∷ m ∷ n ∷ o ∷ p ∷ []))
  lines_are us i j k l m n o p len =
      by_eight
      (λ us.
      IsLine 1000 (get_or us 0 z) (Some i) → IsLine 1001 (get_or us 1 z) (Some j) → IsLine 1002 (get_or us 2 z) (Some k) → IsLine 1003 (get_or us 3 z) (Some l) →
      IsLine 1004 (get_or us 4 z) (Some m) → IsLine 1005 (get_or us 5 z) (Some n) → IsLine 1006 (get_or us 6 z) (Some o) → IsLine 1007 (get_or us 7 z) (Some p) →
      AreLines us (Some (i ∷ j ∷ k ∷ l ∷ m ∷ n ∷ o ∷ p ∷ [])))
      (λ a b c d e f g h s t u v w x y q. (rw (s.0, t.0, u.0, v.0, w.0, x.0, y.0, q.0) refl, (s.1, s.2, (t.1, t.2, (u.1, u.2, (v.1, v.2, (w.1, w.2, (x.1, x.2, (y.1, y.2, (q.1, q.2, tt))))))))))
      us len
