-- Runs of turns: how they end, how many turns they have, what is read and kept, and that they are there.
use Rattle.std.proofs.Common.{◌≡◌, ℕ, suc, zero, ◌+◌, ◌-◌, ◌*◌, ◌<◌, ◌≤◌, List, [], ◌∷◌, ◌++◌, length, length-append, append_assoc, Option, Some, None, Bool, sym, ◌∙◌, ap, refl, inl, inr, arith}
use Rattle.std.specs.Prelude.{◌⊎◌}
use Rattle.std.proofs.lemmas.List.{append-nil}
use Rattle.slotted_lists.proofs.Options.{Some-same}
use Rattle.slotted_theory.specs.Decided.{numbers_eq}
use Rattle.slotted_model.proofs.Data.Options.{None-Some}
use Rattle.slotted_model_rules.specs.Runners.{SearchesAll, none_searched, one_searched, AppliesAll, none_applied, one_applied, AppliesRules, Stop, saturated, iteration_limit, time_limit, node_limit, other, Limits, runner_stop, eqsat_stop, Measures, Iteration, Report, last_finish, after_check, RunnerTurn, RunnerRuns, stops_now, goes_on, RunnerRefuses, refused_now, refused_later, Runner, runner_report, RunnerAnswers, again, starts, takes_up, after_time, EqsatTurn, EqsatRuns, eqsat_stops, eqsat_goes_on}
use Rattle.slotted_model_rules.specs.RunnerClaims.{unread, EachExtends}
use Rattle.slotted_model_rules.proofs.Rules.Stopping.{runner-first, eqsat-first}

-- one more stands last
longer : {D : Type 0} → (stored : List (Iteration D)) (kept : Iteration D) → length (stored ++ kept ∷ []) ≡ suc (length stored)
longer stored kept = let e : length (stored ++ kept ∷ []) ≡ length stored + 1 = length-append stored (kept ∷ []) in omega arith

last-of : {D : Type 0} → (stored : List (Iteration D)) (kept : Iteration D) → last_finish (stored ++ kept ∷ []) ≡ kept.finish_time
last-of [] kept = refl
last-of (i ∷ []) kept = refl
last-of (i ∷ j ∷ more) kept = last-of (j ∷ more) kept

-- a cause is there or not
there-or-not : {T : Type 0} → (v : Option (Stop T)) → (v ≡ None) ⊎ ((reason : Stop T) × (v ≡ Some reason))
there-or-not None = inl refl
there-or-not (Some reason) = inr (reason, refl)

module _ (S T D : Type 0) (step : S → S → Type 0) (hooks : S → ℕ → S → Option T → Type 0) (m : Measures S D) (limits : Limits) (clock : ℕ → ℕ) (start : ℕ) where
  abbrev Turn : ℕ → ℕ → S → S → Option (Stop T) → Iteration D → ℕ → Type 0
  Turn = RunnerTurn step hooks m limits clock start

  abbrev Run : List (Iteration D) → ℕ → S → List (Iteration D) → ℕ → S → Stop T → Type 0
  Run = RunnerRuns step hooks m limits clock start

  pub last-turn : {stored all : List (Iteration D)} {k last : ℕ} {g h : S} {reason : Stop T} → Run stored k g all last h reason →
      (earlier : List (Iteration D)) × (kept : Iteration D) × (f : S) × (j : ℕ) × (all ≡ earlier ++ kept ∷ []) × Turn (length earlier) j f h (Some reason) kept last
  last-turn {stored} {all} {k} {last} {g} (stops_now {kept = kept} t) = (stored, kept, g, k, refl, t)
  last-turn (goes_on t r) = last-turn r

  pub bounded : {stored all : List (Iteration D)} {k last : ℕ} {g h : S} {reason : Stop T} → Run stored k g all last h reason → length stored ≤ suc limits.iterations →
      (length all ≤ suc (suc limits.iterations)) × (reason ≡ iteration_limit → length all ≡ suc (suc limits.iterations))
  bounded {stored} {all} {k} {last} {g} {h} {reason} (stops_now {kept = kept} t) l =
      let e : length (stored ++ kept ∷ []) ≡ suc (length stored) = longer stored kept in (
        omega arith,
        λ is.
            let c = ((runner-first T limits t.answer (length stored) (m.nodes h) (clock k - start) (numbers_eq (m.progress g) (m.progress t.applied))).0 iteration_limit).0 (t.stops ∙ ap (λ r. Some r) is) in
            omega (arith, c.1),
      )
  bounded {stored} {all} {k} {last} {g} {h} {reason} (goes_on {f = f} {kept = kept} t r) l =
      let e : length (stored ++ kept ∷ []) ≡ suc (length stored) = longer stored kept in
      let c = (runner-first T limits t.answer (length stored) (m.nodes f) (clock k - start) (numbers_eq (m.progress g) (m.progress t.applied))).1.0 t.stops in
      bounded r (omega (arith, c.1))

  -- what a turn reads
  reads-stopped : (answer : Option T) (stored nodes elapsed : ℕ) (same : Bool) (reason : Stop T) (k : ℕ) → runner_stop limits answer stored nodes elapsed same ≡ Some reason →
      suc (after_check answer k) + unread reason ≡ k + 2
  reads-stopped (Some t) stored nodes elapsed same reason k e = let u : unread reason ≡ 1 = ap unread (sym (Some-same (other t) reason e)) in omega arith
  reads-stopped None stored nodes elapsed same (other t) k e =
      let c : None ≡ Some t = ((runner-first T limits None stored nodes elapsed same).0 (other t)).0 e in absurd (None-Some t c)
  reads-stopped None stored nodes elapsed same saturated k e = omega arith
  reads-stopped None stored nodes elapsed same iteration_limit k e = omega arith
  reads-stopped None stored nodes elapsed same time_limit k e = omega arith
  reads-stopped None stored nodes elapsed same node_limit k e = omega arith

  reads-on : (answer : Option T) (stored nodes elapsed : ℕ) (same : Bool) (k : ℕ) → runner_stop limits answer stored nodes elapsed same ≡ None → suc (after_check answer k) ≡ k + 2
  reads-on answer stored nodes elapsed same k e =
      let c = (runner-first T limits answer stored nodes elapsed same).1.0 e in
      let u : after_check answer k ≡ suc k = ap (λ a. after_check a k) c.0 in omega arith

  pub read-twice : {stored all : List (Iteration D)} {k last : ℕ} {g h : S} {reason : Stop T} → Run stored k g all last h reason → last + unread reason + 2 * length stored ≡ k + 2 * length all
  read-twice {stored} {all} {k} {last} {g} {h} {reason} (stops_now {kept = kept} t) =
      let e : length (stored ++ kept ∷ []) ≡ suc (length stored) = longer stored kept in
      let n : last ≡ suc (after_check t.answer k) = t.reads in
      let u : suc (after_check t.answer k) + unread reason ≡ k + 2 = reads-stopped t.answer (length stored) (m.nodes h) (clock k - start) (numbers_eq (m.progress g) (m.progress t.applied)) reason k t.stops in
      omega arith
  read-twice {stored} {all} {k} {last} {g} {h} {reason} (goes_on {next = next} {f = f} {kept = kept} t r) =
      let e : length (stored ++ kept ∷ []) ≡ suc (length stored) = longer stored kept in
      let n : next ≡ suc (after_check t.answer k) = t.reads in
      let u : suc (after_check t.answer k) ≡ k + 2 = reads-on t.answer (length stored) (m.nodes f) (clock k - start) (numbers_eq (m.progress g) (m.progress t.applied)) k t.stops in
      let i : last + unread reason + 2 * length (stored ++ kept ∷ []) ≡ next + 2 * length all = read-twice r in
      omega arith

  pub last-reported : {stored all : List (Iteration D)} {k last : ℕ} {g h : S} {reason : Stop T} → Run stored k g all last h reason →
      (earlier : List (Iteration D)) × (kept : Iteration D) × (final : ℕ)
      × (all ≡ earlier ++ kept ∷ []) × (kept.num_nodes ≡ m.nodes h) × (kept.made ≡ m.made h (length earlier)) × (last ≡ suc final) × (last_finish all ≡ Some (clock final))
  last-reported r =
      let l = last-turn r in
      let t = l.5 in (
        l.0,
        l.1,
        after_check t.answer l.3,
        l.4,
        ap (λ (i : Iteration D). i.num_nodes) t.keeps,
        ap (λ (i : Iteration D). i.made) t.keeps,
        t.reads,
        ap last_finish l.4 ∙ (last-of l.0 l.1 ∙ ap (λ (i : Iteration D). i.finish_time) t.keeps),
      )

  module _ (steps : (g : S) → (h : S) × step g h) (calls : (g : S) (n : ℕ) → (h : S) × (answer : Option T) × hooks g n h answer) where
    -- a turn is there
    abbrev turn-kept : ℕ → ℕ → S → Iteration D
    turn-kept stored k g =
        record {
          made = m.made (calls (steps g).0 stored).0 stored;
          num_nodes = m.nodes (calls (steps g).0 stored).0;
          finish_time = Some (clock (after_check (calls (steps g).0 stored).1 k));
        }

    abbrev turn-stop : ℕ → ℕ → S → Option (Stop T)
    turn-stop stored k g =
        runner_stop limits (calls (steps g).0 stored).1 stored (m.nodes (calls (steps g).0 stored).0) (clock k - start) (numbers_eq (m.progress g) (m.progress (steps g).0))

    a-turn : (stored k : ℕ) (g : S) (v : Option (Stop T)) → turn-stop stored k g ≡ v →
        Turn stored k g (calls (steps g).0 stored).0 v (turn-kept stored k g) (suc (after_check (calls (steps g).0 stored).1 k))
    a-turn stored k g v e = record {
      applied = (steps g).0;
      by_rules = (steps g).1;
      answer = (calls (steps g).0 stored).1;
      by_hook = (calls (steps g).0 stored).2;
      stops = e;
      keeps = refl;
      reads = refl;
    }

    -- a turn that goes on has met no limit
    went-on : (stored k : ℕ) (g : S) → turn-stop stored k g ≡ None → ((calls (steps g).0 stored).1 ≡ None) × (stored ≤ limits.iterations)
    went-on stored k g e =
        let c = (runner-first T limits (calls (steps g).0 stored).1 stored (m.nodes (calls (steps g).0 stored).0) (clock k - start) (numbers_eq (m.progress g) (m.progress (steps g).0))).1.0 e in
        (c.0, c.1)

    abbrev ARun : List (Iteration D) → ℕ → S → Type 0
    ARun stored k g = (all : List (Iteration D)) × (last : ℕ) × (h : S) × (reason : Stop T) × Run stored k g all last h reason

    a-run_by : (n : ℕ) (stored : List (Iteration D)) (k : ℕ) (g : S) → suc limits.iterations ≤ length stored + n → ARun stored k g
    a-run_by zero stored k g l = elim (there-or-not (turn-stop (length stored) k g)) [
      | inr e ↦ (stored ++ turn-kept (length stored) k g ∷ [], _, _, e.0, stops_now (a-turn (length stored) k g (Some e.0) e.1))
      | inl e ↦ absurd (omega (arith, (went-on (length stored) k g e).1))
    ]
    a-run_by (suc n) stored k g l = elim (there-or-not (turn-stop (length stored) k g)) [
      | inr e ↦ (stored ++ turn-kept (length stored) k g ∷ [], _, _, e.0, stops_now (a-turn (length stored) k g (Some e.0) e.1))
      | inl e ↦
          let o : length (stored ++ turn-kept (length stored) k g ∷ []) ≡ suc (length stored) = longer stored (turn-kept (length stored) k g) in
          let r = a-run_by n (stored ++ turn-kept (length stored) k g ∷ []) (suc (after_check (calls (steps g).0 (length stored)).1 k)) (calls (steps g).0 (length stored)).0 (omega arith) in
          (r.0, r.1, r.2, r.3, goes_on (a-turn (length stored) k g None e) r.4)
    ]

    pub a-run : (stored : List (Iteration D)) (k : ℕ) (g : S) → ARun stored k g
    a-run stored k g = a-run_by (suc limits.iterations) stored k g (omega arith)

module _ (S T D : Type 0) (step : S → S → Type 0) (hooks : S → ℕ → S → Option T → Type 0) (m : Measures S D) (limits : Limits) (clock : ℕ → ℕ) where
  abbrev Answers : ℕ → Runner S T D → Runner S T D → Report T → Type 0
  Answers = RunnerAnswers step hooks m limits clock

  again-alone : {k : ℕ} {r later : Runner S T D} {report : Report T} (reason : Stop T) → r.stop_reason ≡ Some reason → Answers k r later report → (later ≡ r) × (report ≡ runner_report m r reason)
  again-alone {k} {r} reason e (again other_reason f) = (refl, ap (runner_report m r) (Some-same other_reason reason (sym f ∙ e)))
  again-alone reason e (starts f s run) = absurd (None-Some reason (sym f ∙ e))
  again-alone reason e (takes_up f s run) = absurd (None-Some reason (sym f ∙ e))

  pub reports-again : {k : ℕ} {r after : Runner S T D} {report : Report T} → Answers k r after report →
      (after.stop_reason ≡ Some report.stop_reason) × (report ≡ runner_report m after report.stop_reason)
      × ((j : ℕ) (later : Runner S T D) (next : Report T) → Answers j after later next → (later ≡ after) × (next ≡ report))
  reports-again (again reason e) = (e, refl, λ j later next a. again-alone reason e a)
  reports-again (starts {reason = reason} e s run) = (refl, refl, λ j later next a. again-alone reason refl a)
  reports-again (takes_up {reason = reason} e s run) = (refl, refl, λ j later next a. again-alone reason refl a)

module _ (S T : Type 0) (step : S → S → Type 0) (hooks : S → ℕ → S → Option T → Type 0) (progress : S → List ℕ) (iterations seconds : ℕ) (clock : ℕ → ℕ) (start : ℕ) where
  abbrev Eqsat : ℕ → ℕ → S → ℕ → ℕ → S → Stop T → Type 0
  Eqsat = EqsatRuns step hooks progress iterations seconds clock start

  pub eqsat-bounded : {counted k total last : ℕ} {g h : S} {reason : Stop T} → Eqsat counted k g total last h reason → counted ≤ iterations → (total ≤ iterations) × (reason ≡ iteration_limit → total ≡ iterations)
  eqsat-bounded {counted} {k} {total} {last} {g} {h} {reason} (eqsat_stops t) l = (
    l,
    λ is.
        let c = ((eqsat-first T iterations seconds t.answer (numbers_eq (progress g) (progress t.applied)) counted (clock k - start)).0 iteration_limit).0 (t.stops ∙ ap (λ r. Some r) is) in
        omega (arith, c.2),
  )
  eqsat-bounded {counted} {k} {total} {last} {g} {h} {reason} (eqsat_goes_on t r) l =
      let c = (eqsat-first T iterations seconds t.answer (numbers_eq (progress g) (progress t.applied)) counted (clock k - start)).1.0 t.stops in
      eqsat-bounded r c.2

  pub eqsat-last : {counted k total last : ℕ} {g h : S} {reason : Stop T} → Eqsat counted k g total last h reason →
      (f : S) × (j : ℕ) × EqsatTurn step hooks progress iterations seconds clock start total j f h (Some reason) last
  eqsat-last {counted} {k} {total} {last} {g} (eqsat_stops t) = (g, k, t)
  eqsat-last (eqsat_goes_on t r) = eqsat-last r

  module _ (steps : (g : S) → (h : S) × step g h) (calls : (g : S) (n : ℕ) → (h : S) × (answer : Option T) × hooks g n h answer) where
    abbrev eqsat-answer : ℕ → S → Option T
    eqsat-answer counted g = (calls (steps g).0 counted).1

    abbrev same-progress : S → Bool
    same-progress g = numbers_eq (progress g) (progress (steps g).0)

    abbrev eqsat-stop : ℕ → ℕ → S → Option (Stop T)
    eqsat-stop counted k g = eqsat_stop iterations seconds (eqsat-answer counted g) (same-progress g) counted (clock k - start)

    an-eqsat_turn : (counted k : ℕ) (g : S) (v : Option (Stop T)) → eqsat-stop counted k g ≡ v →
        EqsatTurn step hooks progress iterations seconds clock start counted k g (calls (steps g).0 counted).0 v (after_time iterations (eqsat-answer counted g) (same-progress g) counted k)
    an-eqsat_turn counted k g v e = record {
      applied = (steps g).0;
      by_rules = (steps g).1;
      answer = (calls (steps g).0 counted).1;
      by_hook = (calls (steps g).0 counted).2;
      stops = e;
      reads = refl;
    }

    counts-on : (counted k : ℕ) (g : S) → eqsat-stop counted k g ≡ None → counted < iterations
    counts-on counted k g e = ((eqsat-first T iterations seconds (eqsat-answer counted g) (same-progress g) counted (clock k - start)).1.0 e).2

    abbrev AnEqsat : ℕ → ℕ → S → Type 0
    AnEqsat counted k g = (total : ℕ) × (last : ℕ) × (h : S) × (reason : Stop T) × Eqsat counted k g total last h reason

    an-eqsat_by : (n counted k : ℕ) (g : S) → iterations ≤ counted + n → AnEqsat counted k g
    an-eqsat_by zero counted k g l = elim (there-or-not (eqsat-stop counted k g)) [
      | inr e ↦ (counted, _, _, e.0, eqsat_stops (an-eqsat_turn counted k g (Some e.0) e.1))
      | inl e ↦ absurd (omega (arith, counts-on counted k g e))
    ]
    an-eqsat_by (suc n) counted k g l = elim (there-or-not (eqsat-stop counted k g)) [
      | inr e ↦ (counted, _, _, e.0, eqsat_stops (an-eqsat_turn counted k g (Some e.0) e.1))
      | inl e ↦
          let r = an-eqsat_by n (suc counted) (after_time iterations (eqsat-answer counted g) (same-progress g) counted k) (calls (steps g).0 counted).0 (omega arith) in
          (r.0, r.1, r.2, r.3, eqsat_goes_on (an-eqsat_turn counted k g None e) r.4)
    ]

    pub an-eqsat : (counted k : ℕ) (g : S) → AnEqsat counted k g
    an-eqsat counted k g = an-eqsat_by iterations counted k g (omega arith)

-- a refused turn is not stored
module _ (S T D : Type 0) (step : S → S → Type 0) (hooks : S → ℕ → S → Option T → Type 0) (refuses : S → ℕ → S → Type 0) (m : Measures S D) (limits : Limits) (clock : ℕ → ℕ) (start : ℕ) where
  pub not-stored : {stored all : List (Iteration D)} {k : ℕ} {g h : S} → RunnerRefuses step hooks refuses m limits clock start stored k g all h →
      (more : List (Iteration D)) × (f : S) × (all ≡ stored ++ more) × refuses f (length all) h
  not-stored {stored} {all} {k} {g} (refused_now r) = ([], g, sym (append-nil stored), r)
  not-stored {stored} {all} (refused_later {kept = kept} t r) = let k = not-stored r in (kept ∷ k.0, k.1, k.2 ∙ append_assoc stored (kept ∷ []) k.0, k.3)

-- what each step keeps is kept
module _ (S T D F Q : Type 0) (searches : Q → S → F → S → Type 0) (applies : Q → F → S → S → Type 0) (hooks : S → ℕ → S → Option T → Type 0) (refuses : S → ℕ → S → Type 0) (extends : S → S → Type 0)
    (each : EachExtends S T D F Q searches applies hooks refuses extends) where
  searches-extend : {rules : List Q} {found : List F} {g h : S} → SearchesAll searches rules g found h → extends g h
  searches-extend {rules} {found} {g} none_searched = each.same g
  searches-extend {rules} {found} {g} {h} (one_searched {rule = rule} {f = f} {found = x} s more) = each.joined g f h (each.by_search rule g f x s) (searches-extend more)

  applies-extend : {rules : List Q} {found : List F} {g h : S} → AppliesAll applies rules found g h → extends g h
  applies-extend {rules} {found} {g} none_applied = each.same g
  applies-extend {rules} {found} {g} {h} (one_applied {rule = rule} {f = f} {found = x} s more) = each.joined g f h (each.by_apply rule x g f s) (applies-extend more)

  pub rules-extend : (rules : List Q) (g h : S) → AppliesRules searches applies rules g h → extends g h
  rules-extend rules g h r = each.joined g r.searched h (searches-extend r.by_searches) (applies-extend r.by_applies)

  pub run-extends : (rules : List Q) (m : Measures S D) (limits : Limits) (clock : ℕ → ℕ) (start : ℕ) {stored all : List (Iteration D)} {k last : ℕ} {g h : S} {reason : Stop T} →
      RunnerRuns (AppliesRules searches applies rules) hooks m limits clock start stored k g all last h reason → extends g h
  run-extends rules m limits clock start {stored} {all} {k} {last} {g} {h} (stops_now t) =
      each.joined g t.applied h (rules-extend rules g t.applied t.by_rules) (each.by_hook t.applied h (length stored) t.answer t.by_hook)
  run-extends rules m limits clock start {stored} {all} {k} {last} {g} {h} (goes_on {f = f} t r) =
      each.joined g f h (each.joined g t.applied f (rules-extend rules g t.applied t.by_rules) (each.by_hook t.applied f (length stored) t.answer t.by_hook)) (run-extends rules m limits clock start r)

  pub eqsat-extends : (rules : List Q) (progress : S → List ℕ) (iterations seconds : ℕ) (clock : ℕ → ℕ) (start : ℕ) {counted k total last : ℕ} {g h : S} {reason : Stop T} →
      EqsatRuns (AppliesRules searches applies rules) hooks progress iterations seconds clock start counted k g total last h reason → extends g h
  eqsat-extends rules progress iterations seconds clock start {counted} {k} {total} {last} {g} {h} (eqsat_stops t) =
      each.joined g t.applied h (rules-extend rules g t.applied t.by_rules) (each.by_hook t.applied h counted t.answer t.by_hook)
  eqsat-extends rules progress iterations seconds clock start {counted} {k} {total} {last} {g} {h} (eqsat_goes_on {f = f} t r) =
      each.joined g f h (each.joined g t.applied f (rules-extend rules g t.applied t.by_rules) (each.by_hook t.applied f counted t.answer t.by_hook)) (eqsat-extends rules progress iterations seconds clock start r)

  pub refusals-extend : (rules : List Q) (m : Measures S D) (limits : Limits) (clock : ℕ → ℕ) (start : ℕ) {stored all : List (Iteration D)} {k : ℕ} {g h : S} →
      RunnerRefuses (AppliesRules searches applies rules) hooks refuses m limits clock start stored k g all h → extends g h
  refusals-extend rules m limits clock start {stored} {all} {k} {g} {h} (refused_now r) = each.by_refusal g h (length stored) r
  refusals-extend rules m limits clock start {stored} {all} {k} {g} {h} (refused_later {f = f} t r) =
      each.joined g f h (each.joined g t.applied f (rules-extend rules g t.applied t.by_rules) (each.by_hook t.applied f (length stored) t.answer t.by_hook)) (refusals-extend rules m limits clock start r)
