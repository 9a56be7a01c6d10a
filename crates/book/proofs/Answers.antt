-- An answer is that of the first check that fails.
use Rattle.std.proofs.Common.{◌≡◌, Bool, true, false, cond, Err, Result, sym, ◌∙◌}
use Rattle.std.proofs.lemmas.Bool.{cond-true, cond-false}

module _ {X F : Type 0} (b : Bool) (f : F) (rest : Result X F) where
  -- the check fails
  pub fails : b ≡ true → Err f ≡ cond b (Err f) rest
  fails e = sym (cond-true b (Err f) rest e)

  -- the check passes, and the later ones give the answer
  pub passes : (r : Result X F) → b ≡ false → r ≡ rest → r ≡ cond b (Err f) rest
  passes r e h = h ∙ sym (cond-false b (Err f) rest e)
