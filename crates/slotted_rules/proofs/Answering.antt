-- What holds of what a call answers.
use Rattle.std.proofs.Common.{◌≡◌, sym, subst}
use Rattle.std.specs.Prelude.{Result, Ok, Err, IfOk, IfErr, IsErrAnd, OnOk, OnErr}

module _ {A E : Type 0} where
  -- of a copy holds what holds of what is copied
  pub ok-copied : (r : Result A E) (P : A → Type 0) (a : A) → IfOk r (λ c. c ≡ a) → P a → IfOk r P
  ok-copied (Ok c) P a e h = subst P (sym e) h
  ok-copied (Err x) P a e h = tt

  pub err-then : (r : Result A E) {P : Type 0} → P → OnErr r P
  err-then (Ok c) h = tt
  err-then (Err x) h = h

  -- three facts of an answer make one
  pub ok-added : (r : Result A E) (P Q S : A → Type 0) (T : Type 0) → IfOk r Q → IfOk r S → OnOk r T → ((a : A) → Q a → S a → T → P a) → IfOk r P
  ok-added (Ok a) P Q S T q s t made = made a q s t
  ok-added (Err x) P Q S T q s t made = tt

  pub err-mapped : (r : Result A E) {P Q : Type 0} → OnErr r P → (P → Q) → OnErr r Q
  err-mapped (Ok c) h f = tt
  err-mapped (Err x) h f = f h

  pub ok-mapped : (r : Result A E) {P Q : A → Type 0} → IfOk r P → ((a : A) → P a → Q a) → IfOk r Q
  ok-mapped (Ok a) h f = f a h
  ok-mapped (Err x) h f = tt

  pub ok-with : (r : Result A E) {Q : Type 0} {P R : A → Type 0} → OnOk r Q → IfOk r P → ((a : A) → Q → P a → R a) → IfOk r R
  ok-with (Ok a) k h f = f a k h
  ok-with (Err x) k h f = tt

  pub if-err-mapped : (r : Result A E) {P Q : E → Type 0} → IfErr r P → ((e : E) → P e → Q e) → IfErr r Q
  if-err-mapped (Ok a) h f = tt
  if-err-mapped (Err x) h f = f x h

  pub err-handed : (r : Result A E) (e : E) (Q : E → Type 0) → IsErrAnd r (λ x. x ≡ e) → Q e → IfErr r Q
  err-handed (Ok a) e Q h k = tt
  err-handed (Err x) e Q h k = subst Q (sym h) k
