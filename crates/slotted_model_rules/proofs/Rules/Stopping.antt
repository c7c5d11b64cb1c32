-- Why runs stop: the first cause that holds.
use Rattle.std.proofs.Common.{◌≡◌, ℕ, ◌*◌, [], ◌∷◌, Option, Some, None, Bool, true, false, sym, ap, refl, subst}
use Rattle.std.specs.Prelude.{not}
use Rattle.std.proofs.Math.Dec.{ltb}
use Rattle.std.proofs.lemmas.Bool.{lt-ltb, ltb-true, le-ltb, ltb-false}
use Rattle.slotted_lists.proofs.Options.{Some-same}
use Rattle.slotted_model.proofs.Data.Options.{None-Some}
use Rattle.slotted_model_rules.specs.Runners.{Stop, saturated, iteration_limit, time_limit, node_limit, other, Limits, hook_or, runner_stop, second, eqsat_stop}
use Rattle.slotted_model_rules.specs.RunnerClaims.{IsRunnerCause, RunnersStopForTheFirst, IsEqsatCause, EqsatStopsForTheFirst}

module _ (T : Type 0) where
  -- the causes of the runner, by the answers of their tests
  abbrev stop_by : Option T → Bool → Bool → Bool → Bool → Option (Stop T)
  stop_by hook a b c same = hook_or hook ((a, iteration_limit) ∷ (b, node_limit) ∷ (c, time_limit) ∷ (same, saturated) ∷ [])

  abbrev IsCause : Option T → Bool → Bool → Bool → Bool → Stop T → Type 0
  IsCause hook a b c same (other t) = hook ≡ Some t
  IsCause hook a b c same iteration_limit = (hook ≡ None) × (a ≡ true)
  IsCause hook a b c same node_limit = (hook ≡ None) × (a ≡ false) × (b ≡ true)
  IsCause hook a b c same time_limit = (hook ≡ None) × (a ≡ false) × (b ≡ false) × (c ≡ true)
  IsCause hook a b c same saturated = (hook ≡ None) × (a ≡ false) × (b ≡ false) × (c ≡ false) × (same ≡ true)

  cause-there : (hook : Option T) (a b c same : Bool) (reason : Stop T) → stop_by hook a b c same ≡ Some reason → IsCause hook a b c same reason
  cause-there (Some t) a b c same reason e = subst (IsCause (Some t) a b c same) (Some-same (other t) reason e) refl
  cause-there None true b c same reason e = subst (IsCause None true b c same) (Some-same iteration_limit reason e) (refl, refl)
  cause-there None false true c same reason e = subst (IsCause None false true c same) (Some-same node_limit reason e) (refl, refl, refl)
  cause-there None false false true same reason e = subst (IsCause None false false true same) (Some-same time_limit reason e) (refl, refl, refl, refl)
  cause-there None false false false true reason e = subst (IsCause None false false false true) (Some-same saturated reason e) (refl, refl, refl, refl, refl)
  cause-there None false false false false reason e = absurd (None-Some reason e)

  none-there : (hook : Option T) (a b c same : Bool) → stop_by hook a b c same ≡ None → (hook ≡ None) × (a ≡ false) × (b ≡ false) × (c ≡ false) × (same ≡ false)
  none-there (Some t) a b c same e = absurd (None-Some (other t) (sym e))
  none-there None true b c same e = absurd (None-Some iteration_limit (sym e))
  none-there None false true c same e = absurd (None-Some node_limit (sym e))
  none-there None false false true same e = absurd (None-Some time_limit (sym e))
  none-there None false false false true e = absurd (None-Some saturated (sym e))
  none-there None false false false false e = (refl, refl, refl, refl, refl)

  -- the tests as they are answered
  answered : (hook hook' : Option T) (a a' b b' c c' same same' : Bool) → hook ≡ hook' → a ≡ a' → b ≡ b' → c ≡ c' → same ≡ same' → stop_by hook a b c same ≡ stop_by hook' a' b' c' same'
  answered hook hook' a a' b b' c c' same same' h p q r s = λ i. stop_by (h i) (p i) (q i) (r i) (s i)

  there : (limits : Limits) (hook : Option T) (stored nodes elapsed : ℕ) (same : Bool) (reason : Stop T) →
      IsCause hook (ltb limits.iterations stored) (ltb limits.nodes nodes) (ltb limits.time elapsed) same reason → IsRunnerCause limits hook stored nodes elapsed same reason
  there limits hook stored nodes elapsed same (other t) c = c
  there limits hook stored nodes elapsed same iteration_limit c = (c.0, ltb-true limits.iterations stored c.1)
  there limits hook stored nodes elapsed same node_limit c = (c.0, ltb-false limits.iterations stored c.1, ltb-true limits.nodes nodes c.2)
  there limits hook stored nodes elapsed same time_limit c = (c.0, ltb-false limits.iterations stored c.1, ltb-false limits.nodes nodes c.2, ltb-true limits.time elapsed c.3)
  there limits hook stored nodes elapsed same saturated c = (c.0, ltb-false limits.iterations stored c.1, ltb-false limits.nodes nodes c.2, ltb-false limits.time elapsed c.3, c.4)

  back : (limits : Limits) (hook : Option T) (stored nodes elapsed : ℕ) (same : Bool) (reason : Stop T) →
      IsRunnerCause limits hook stored nodes elapsed same reason → runner_stop limits hook stored nodes elapsed same ≡ Some reason
  back limits hook stored nodes elapsed same (other t) c =
      ap (λ h. runner_stop limits h stored nodes elapsed same) c
  back limits hook stored nodes elapsed same iteration_limit c =
      answered hook None (ltb limits.iterations stored) true (ltb limits.nodes nodes) _ (ltb limits.time elapsed) _ same same c.0 (lt-ltb limits.iterations stored c.1) refl refl refl
  back limits hook stored nodes elapsed same node_limit c =
      answered hook None (ltb limits.iterations stored) false (ltb limits.nodes nodes) true (ltb limits.time elapsed) _ same same c.0 (le-ltb limits.iterations stored c.1) (lt-ltb limits.nodes nodes c.2) refl refl
  back limits hook stored nodes elapsed same time_limit c =
      answered hook None (ltb limits.iterations stored) false (ltb limits.nodes nodes) false (ltb limits.time elapsed) true same same c.0 (le-ltb limits.iterations stored c.1) (le-ltb limits.nodes nodes c.2)
      (lt-ltb limits.time elapsed c.3) refl
  back limits hook stored nodes elapsed same saturated c =
      answered hook None (ltb limits.iterations stored) false (ltb limits.nodes nodes) false (ltb limits.time elapsed) false same true c.0 (le-ltb limits.iterations stored c.1) (le-ltb limits.nodes nodes c.2)
      (le-ltb limits.time elapsed c.3) c.4

  pub runner-first : RunnersStopForTheFirst T
  runner-first limits hook stored nodes elapsed same = (
    λ reason. (
      λ e. there limits hook stored nodes elapsed same reason (cause-there hook (ltb limits.iterations stored) (ltb limits.nodes nodes) (ltb limits.time elapsed) same reason e),
      back limits hook stored nodes elapsed same reason,
    ),
    (
      λ e.
          let c = none-there hook (ltb limits.iterations stored) (ltb limits.nodes nodes) (ltb limits.time elapsed) same e in
          (c.0, ltb-false limits.iterations stored c.1, ltb-false limits.nodes nodes c.2, ltb-false limits.time elapsed c.3, c.4),
      λ c. answered hook None (ltb limits.iterations stored) false (ltb limits.nodes nodes) false (ltb limits.time elapsed) false same false c.0 (le-ltb limits.iterations stored c.1) (le-ltb limits.nodes nodes c.2)
          (le-ltb limits.time elapsed c.3) c.4,
    ),
  )

  -- those of `run_eqsat`
  abbrev eqsat_by : Option T → Bool → Bool → Bool → Option (Stop T)
  eqsat_by hook same a b = hook_or hook ((same, saturated) ∷ (not a, iteration_limit) ∷ (not b, time_limit) ∷ [])

  abbrev IsOne : Option T → Bool → Bool → Bool → Stop T → Type 0
  IsOne hook same a b (other t) = hook ≡ Some t
  IsOne hook same a b saturated = (hook ≡ None) × (same ≡ true)
  IsOne hook same a b iteration_limit = (hook ≡ None) × (same ≡ false) × (a ≡ false)
  IsOne hook same a b time_limit = (hook ≡ None) × (same ≡ false) × (a ≡ true) × (b ≡ false)
  IsOne hook same a b node_limit = ⊥

  one-there : (hook : Option T) (same a b : Bool) (reason : Stop T) → eqsat_by hook same a b ≡ Some reason → IsOne hook same a b reason
  one-there (Some t) same a b reason e = subst (IsOne (Some t) same a b) (Some-same (other t) reason e) refl
  one-there None true a b reason e = subst (IsOne None true a b) (Some-same saturated reason e) (refl, refl)
  one-there None false false b reason e = subst (IsOne None false false b) (Some-same iteration_limit reason e) (refl, refl, refl)
  one-there None false true false reason e = subst (IsOne None false true false) (Some-same time_limit reason e) (refl, refl, refl, refl)
  one-there None false true true reason e = absurd (None-Some reason e)

  no-one : (hook : Option T) (same a b : Bool) → eqsat_by hook same a b ≡ None → (hook ≡ None) × (same ≡ false) × (a ≡ true) × (b ≡ true)
  no-one (Some t) same a b e = absurd (None-Some (other t) (sym e))
  no-one None true a b e = absurd (None-Some saturated (sym e))
  no-one None false false b e = absurd (None-Some iteration_limit (sym e))
  no-one None false true false e = absurd (None-Some time_limit (sym e))
  no-one None false true true e = (refl, refl, refl, refl)

  told : (hook hook' : Option T) (same same' a a' b b' : Bool) → hook ≡ hook' → same ≡ same' → a ≡ a' → b ≡ b' → eqsat_by hook same a b ≡ eqsat_by hook' same' a' b'
  told hook hook' same same' a a' b b' h p q r = λ i. eqsat_by (h i) (p i) (q i) (r i)

  one : (iterations seconds : ℕ) (hook : Option T) (same : Bool) (counted elapsed : ℕ) (reason : Stop T) → IsOne hook same (ltb counted iterations) (ltb elapsed (seconds * second)) reason →
      IsEqsatCause iterations seconds hook same counted elapsed reason
  one iterations seconds hook same counted elapsed (other t) c = c
  one iterations seconds hook same counted elapsed saturated c = c
  one iterations seconds hook same counted elapsed iteration_limit c = (c.0, c.1, ltb-false counted iterations c.2)
  one iterations seconds hook same counted elapsed time_limit c = (c.0, c.1, ltb-true counted iterations c.2, ltb-false elapsed (seconds * second) c.3)
  one iterations seconds hook same counted elapsed node_limit c = absurd c

  from-one : (iterations seconds : ℕ) (hook : Option T) (same : Bool) (counted elapsed : ℕ) (reason : Stop T) → IsEqsatCause iterations seconds hook same counted elapsed reason →
      eqsat_stop iterations seconds hook same counted elapsed ≡ Some reason
  from-one iterations seconds hook same counted elapsed (other t) c = ap (λ h. eqsat_stop iterations seconds h same counted elapsed) c
  from-one iterations seconds hook same counted elapsed saturated c = told hook None same true (ltb counted iterations) _ (ltb elapsed (seconds * second)) _ c.0 c.1 refl refl
  from-one iterations seconds hook same counted elapsed iteration_limit c =
      told hook None same false (ltb counted iterations) false (ltb elapsed (seconds * second)) _ c.0 c.1 (le-ltb counted iterations c.2) refl
  from-one iterations seconds hook same counted elapsed time_limit c =
      told hook None same false (ltb counted iterations) true (ltb elapsed (seconds * second)) false c.0 c.1 (lt-ltb counted iterations c.2) (le-ltb elapsed (seconds * second) c.3)
  from-one iterations seconds hook same counted elapsed node_limit c = absurd c

  pub eqsat-first : EqsatStopsForTheFirst T
  eqsat-first iterations seconds hook same counted elapsed = (
    λ reason. (
      λ e. one iterations seconds hook same counted elapsed reason (one-there hook same (ltb counted iterations) (ltb elapsed (seconds * second)) reason e),
      from-one iterations seconds hook same counted elapsed reason,
    ),
    (
      λ e.
          let c = no-one hook same (ltb counted iterations) (ltb elapsed (seconds * second)) e in
          (c.0, c.1, ltb-true counted iterations c.2, ltb-true elapsed (seconds * second) c.3),
      λ c. told hook None same false (ltb counted iterations) true (ltb elapsed (seconds * second)) true c.0 c.1 (lt-ltb counted iterations c.2) (lt-ltb elapsed (seconds * second) c.3),
    ),
  )
