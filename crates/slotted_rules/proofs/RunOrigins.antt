-- Each explicit entry that a run leaves comes from one of its rules, entered in a call of the hook, or entered in the edits after the rules.
use Rattle.std.proofs.Common.{◌≡◌, ◌<◌, ◌≤◌, ℕ, List, length, ap, sym, subst, inl, inr, arith}
use Rattle.std.specs.Prelude.{◌⊎◌, Bool, Option}
use Rattle.std.proofs.lemmas.Bool.{cases_lt}
use Rattle.slotted_slots.specs.declared.error.Error.{Error}
use Rattle.slotted_slots.specs.Error.{IsShortage}
use Rattle.slotted_nodes.specs.Form.{Form}
use Rattle.slotted_model.specs.ProofList.{explicit, step_at}
use Rattle.slotted_model_rules.specs.Conditions.{Values}
use Rattle.slotted_model_rules.specs.Runners.{EqsatAnswers, EqsatRuns, Iteration, Limits, Measures, RunnerAnswers, RunnerRefuses, RunnerRuns, Stop}
use Rattle.slotted_model_rules.specs.Runners.{again, eqsat_goes_on, eqsat_stops, goes_on, refused_later, refused_now, starts, stops_now, takes_up}
use Rattle.slotted_model_rules.specs.Runners as model
use Rattle.slotted_operations.specs.Graph.{Graph}
use Rattle.slotted_graph.specs.Extension.{ExtendsTo}
use Rattle.slotted_graph.proofs.Extending.{extends-itself, extends-then}
use Rattle.slotted_rules.specs.declared.rewrite.Rewrite.{Rewrite}
use Rattle.slotted_rules.specs.Applying.{RefusesRules}
use Rattle.slotted_rules.specs.Counting.{AppliesRule, BreaksRule, SearchesRule}
use Rattle.slotted_rules.specs.RuleOrigins.{AreFromRules, ComesFromEdits}
use Rattle.slotted_rules.proofs.RuleOrigins.{Came, came-wider, edits-wider, refused-came, step-before, then-came, then-extends}
use Rattle.slotted_rules.specs.Eqsat.{EqsatRefuses, HasRefusedEqsat, eqsat_refused_later, eqsat_refused_now}
use Rattle.slotted_rules.specs.RunOrigins.{ComesFromHook, HaveOrigins}
use Rattle.slotted_rules.specs.Turning.{Calls, RefusesTurn, RulesOnce, data_refused, hook_refused, no_room, reading_in, rules_refused}

module _ {L C H T : Type 0} (form : L → Form) (holds : C → Values → Graph → Bool → Type 0) (rules : List (Rewrite L C)) (after : Graph → Graph → Type 0) (modified : (g h : Graph) → after g h → ExtendsTo g h)
    (leaves : H → Graph → ℕ → H → Graph → Option T → Type 0) (extends : (k l : H) (g h : Graph) (n : ℕ) (stop : Option T) → leaves k g n l h stop → ExtendsTo g h) where
  abbrev rules_once : Graph × H → Graph × H → Type 0
  rules_once = RulesOnce (SearchesRule form) (AppliesRule form holds) after rules

  abbrev From : Graph → Graph → ℕ → Type 0
  From g h n = Came form holds rules g h n ⊎ ComesFromHook leaves g h n ⊎ ComesFromEdits after g h n

  hook-wider : (g f h i : Graph) → ExtendsTo g f → ExtendsTo h i → (n : ℕ) → ComesFromHook leaves f h n → ComesFromHook leaves g i n
  hook-wider g f h i first later n c = record {
    before = c.before;
    after = c.after;
    hook_before = c.hook_before;
    hook_after = c.hook_after;
    turns = c.turns;
    stop = c.stop;
    called = c.called;
    start = extends-then g f c.before first c.start;
    end = extends-then c.after h i c.end later;
    past = c.past;
    within = c.within;
  }

  from-wider : (g f h i : Graph) → ExtendsTo g f → ExtendsTo h i → (n : ℕ) → n < length h.image.entries → From f h n → From g i n
  from-wider g f h i first later n lt (inl c) = inl (came-wider form holds rules g f h i first later n lt c)
  from-wider g f h i first later n lt (inr (inl c)) = inr (inl (hook-wider g f h i first later n c))
  from-wider g f h i first later n lt (inr (inr c)) = inr (inr (edits-wider after g f h i first later n c))

  -- the rules once and then the hook, from s over the graph m to h
  module _ (s m t : Graph × H) (turns : ℕ) (stop : Option T) (by_rules : rules_once s m) (by_hook : Calls leaves m turns t stop) where
    rules_extend : ExtendsTo s.0 m.0
    rules_extend = then-extends form holds after modified rules s.0 m.0 by_rules.0

    hook_extends : ExtendsTo m.0 t.0
    hook_extends = extends m.1 t.1 m.0 t.0 turns stop by_hook

    pub turn-extends : ExtendsTo s.0 t.0
    turn-extends = extends-then s.0 m.0 t.0 rules_extend hook_extends

    pub turn-from : (n : ℕ) → length s.0.image.entries ≤ n → n < length t.0.image.entries → step_at t.0.image.entries n ≡ explicit → From s.0 t.0 n
    turn-from n past lt new = elim (cases_lt n (length m.0.image.entries)) [
      | inl before ↦ elim (then-came form holds after modified rules s.0 m.0 by_rules.0 n past before (step-before m.0 t.0 hook_extends n before new)) [
        | inl came ↦ inl (came-wider form holds rules s.0 s.0 m.0 t.0 (extends-itself s.0) hook_extends n before came)
        | inr edited ↦ inr (inr (edits-wider after s.0 s.0 m.0 t.0 (extends-itself s.0) hook_extends n edited))
      ]
      | inr past_it ↦ inr (inl (record {
        before = m.0;
        after = t.0;
        hook_before = m.1;
        hook_after = t.1;
        turns = turns;
        stop = stop;
        called = by_hook;
        start = rules_extend;
        end = extends-itself t.0;
        past = past_it;
        within = lt;
      }))
    ]

  -- a stretch from s to t, and one from t to u
  both-from : (s t u : Graph) → ExtendsTo s t → ExtendsTo t u → ((n : ℕ) → length s.image.entries ≤ n → n < length t.image.entries → step_at t.image.entries n ≡ explicit → From s t n) →
      ((n : ℕ) → length t.image.entries ≤ n → n < length u.image.entries → step_at u.image.entries n ≡ explicit → From t u n) →
      (n : ℕ) → length s.image.entries ≤ n → n < length u.image.entries → step_at u.image.entries n ≡ explicit → From s u n
  both-from s t u first later one two n past lt new = elim (cases_lt n (length t.image.entries)) [
    | inl before ↦ from-wider s s t u (extends-itself s) later n before (one n past before (step-before t u later n before new))
    | inr past_it ↦ from-wider s t u u first (extends-itself u) n lt (two n past_it lt new)
  ]

  abbrev IsFrom : Graph → Graph → Type 0
  IsFrom g h = ExtendsTo g h × ((n : ℕ) → length g.image.entries ≤ n → n < length h.image.entries → step_at h.image.entries n ≡ explicit → From g h n)

  runs-from : {D : Type 0} (m : Measures (Graph × H) D) (limits : Limits) (clock : ℕ → ℕ) (start : ℕ) {stored all : List (Iteration D)} {k last : ℕ} {s t : Graph × H} {reason : Stop T} →
      RunnerRuns rules_once (Calls leaves) m limits clock start stored k s all last t reason → IsFrom s.0 t.0
  runs-from m limits clock start (stops_now {stored = stored} {g = s} {h = t} turn) =
      (turn-extends s turn.applied t (length stored) turn.answer turn.by_rules turn.by_hook, turn-from s turn.applied t (length stored) turn.answer turn.by_rules turn.by_hook)
  runs-from m limits clock start (goes_on {stored = stored} {g = s} {f = t} {h = u} turn more) =
      let later = runs-from m limits clock start more in
      let first : ExtendsTo s.0 t.0 = turn-extends s turn.applied t (length stored) turn.answer turn.by_rules turn.by_hook in
      (extends-then s.0 t.0 u.0 first later.0, both-from s.0 t.0 u.0 first later.0 (turn-from s turn.applied t (length stored) turn.answer turn.by_rules turn.by_hook) later.1)

  eqsat-from : (progress : Graph × H → List ℕ) (iterations seconds : ℕ) (clock : ℕ → ℕ) (start : ℕ) {counted k total last : ℕ} {s t : Graph × H} {reason : Stop T} →
      EqsatRuns rules_once (Calls leaves) progress iterations seconds clock start counted k s total last t reason → IsFrom s.0 t.0
  eqsat-from progress iterations seconds clock start (eqsat_stops {counted = counted} {g = s} {h = t} turn) =
      (turn-extends s turn.applied t counted turn.answer turn.by_rules turn.by_hook, turn-from s turn.applied t counted turn.answer turn.by_rules turn.by_hook)
  eqsat-from progress iterations seconds clock start (eqsat_goes_on {counted = counted} {g = s} {f = t} {h = u} turn more) =
      let later = eqsat-from progress iterations seconds clock start more in
      let first : ExtendsTo s.0 t.0 = turn-extends s turn.applied t counted turn.answer turn.by_rules turn.by_hook in
      (extends-then s.0 t.0 u.0 first later.0, both-from s.0 t.0 u.0 first later.0 (turn-from s turn.applied t counted turn.answer turn.by_rules turn.by_hook) later.1)

  answers-from : {D : Type 0} (m : Measures (Graph × H) D) (limits : Limits) (clock : ℕ → ℕ) {k : ℕ} {p q : model.Runner (Graph × H) T D} {report : model.Report T} →
      RunnerAnswers rules_once (Calls leaves) m limits clock k p q report → IsFrom p.graph.0 q.graph.0
  answers-from m limits clock (again {r = r} reason is) = (extends-itself r.graph.0, λ n past lt new. absurd (omega (arith, past, lt)))
  answers-from m limits clock (starts {k = k} not_stopped not_begun runs) = runs-from m limits clock (clock k) runs
  answers-from m limits clock (takes_up {start = start} not_stopped begun runs) = runs-from m limits clock start runs

  so : (g h : Graph) → IsFrom g h → HaveOrigins form holds rules after leaves g h
  so g h from n past lt new = elim (from.1 n past lt new) [
    | inl c ↦ inl c.0
    | inr c ↦ inr c
  ]

  -- what a runner's `run` answers says where its entries come from
  pub run-origins : {D : Type 0} (m : Measures (Graph × H) D) (limits : Limits) (clock : ℕ → ℕ) {k : ℕ} {p q : model.Runner (Graph × H) T D} {report : model.Report T} →
      RunnerAnswers rules_once (Calls leaves) m limits clock k p q report → HaveOrigins form holds rules after leaves p.graph.0 q.graph.0
  run-origins m limits clock {k} {p} {q} answers = so p.graph.0 q.graph.0 (answers-from m limits clock answers)

  -- and so does what `run_eqsat` answers
  pub eqsat-origins : {D : Type 0} (m : Measures (Graph × H) D) (iterations seconds : ℕ) (clock : ℕ → ℕ) (k : ℕ) (s t : Graph × H) (report : model.Report T) →
      EqsatAnswers rules_once (Calls leaves) m iterations seconds clock k s t report → HaveOrigins form holds rules after leaves s.0 t.0
  eqsat-origins m iterations seconds clock k s t report answers = so s.0 t.0 (eqsat-from m.progress iterations seconds clock (clock k) answers.runs)

  -- a turn is refused by one of the rules, or by the hook, which leaves the graph then
  module _ (refuses : C → Values → Graph → Error → Type 0) (gives_up : H → Graph → ℕ → H → Graph → Error → Type 0) (still : (k l : H) (g h : Graph) (n : ℕ) (e : Error) → gives_up k g n l h e → h ≡ g) (kept : Error → Type 0) (e : Error) (well : ¬ IsShortage e) where
    abbrev Refuses : Graph × H → ℕ → Graph × H → Type 0
    Refuses s n t = RefusesTurn (RefusesRules (SearchesRule form) (λ _ _ _ _. ⊥) (AppliesRule form holds) (BreaksRule form holds refuses) rules) rules_once gives_up (Calls leaves) kept s n t e

    refused-turn : (s t : Graph × H) (n : ℕ) → Refuses s n t → IsFrom s.0 t.0
    refused-turn s t n (no_room short spoils) = absurd (well short)
    refused-turn s t n (rules_refused refused same) =
        let c = refused-came form holds refuses rules s.0 t.0 e refused in
        (c.0, λ i past lt new. inl (c.1 i past lt new))
    refused-turn s t n (hook_refused m by_rules gone) = subst (λ (x : Graph). IsFrom s.0 x) (sym (still m.1 t.1 m.0 t.0 n e gone)) (
      then-extends form holds after modified rules s.0 m.0 by_rules.0,
      λ i past lt new. elim (then-came form holds after modified rules s.0 m.0 by_rules.0 i past lt new) [
        | inl c ↦ inl c
        | inr c ↦ inr (inr c)
      ],
    )
    refused-turn s t n (data_refused m stop by_rules by_hook refused) = (turn-extends s m t n stop by_rules by_hook, turn-from s m t n stop by_rules by_hook)

    refused-from : {D : Type 0} (m : Measures (Graph × H) D) (limits : Limits) (clock : ℕ → ℕ) (start : ℕ) {stored all : List (Iteration D)} {k : ℕ} {s t : Graph × H} → RunnerRefuses rules_once (Calls leaves) Refuses m limits clock start stored k s all t → IsFrom s.0 t.0
    refused-from m limits clock start (refused_now {stored = stored} {g = s} {h = t} refused) = refused-turn s t (length stored) refused
    refused-from m limits clock start (refused_later {stored = stored} {g = s} {f = t} {h = u} turn more) =
        let later = refused-from m limits clock start more in
        let first : ExtendsTo s.0 t.0 = turn-extends s turn.applied t (length stored) turn.answer turn.by_rules turn.by_hook in
        (extends-then s.0 t.0 u.0 first later.0, both-from s.0 t.0 u.0 first later.0 (turn-from s turn.applied t (length stored) turn.answer turn.by_rules turn.by_hook) later.1)

    -- so what a refused run of a runner leaves says where its entries come from
    pub refused-run-origins : {D : Type 0} (m : Measures (Graph × H) D) (limits : Limits) (clock : ℕ → ℕ) (start : ℕ) (stored all : List (Iteration D)) (k : ℕ) (s t : Graph × H) →
        RunnerRefuses rules_once (Calls leaves) Refuses m limits clock start stored k s all t → HaveOrigins form holds rules after leaves s.0 t.0
    refused-run-origins m limits clock start stored all k s t refused = so s.0 t.0 (refused-from m limits clock start refused)

    broken-from : {K : Type 0} (tells : K → ℕ → K → Type 0) (iterations seconds : ℕ) (clock : ℕ → ℕ) (start : ℕ) {counted k total : ℕ} {s t : Graph × H} → EqsatRefuses tells rules_once (Calls leaves) iterations seconds Refuses clock start counted k s total t → IsFrom s.0 t.0
    broken-from tells iterations seconds clock start (eqsat_refused_now {counted = counted} {s = s} {t = t} refused) = refused-turn s t counted refused
    broken-from tells iterations seconds clock start (eqsat_refused_later {counted = counted} {s = s} {t = t} {u = u} turn more) =
        let later = broken-from tells iterations seconds clock start more in
        let first : ExtendsTo s.0 t.0 = turn-extends s turn.applied t counted turn.answer turn.by_rules turn.by_hook in
        (extends-then s.0 t.0 u.0 first later.0, both-from s.0 t.0 u.0 first later.0 (turn-from s turn.applied t counted turn.answer turn.by_rules turn.by_hook) later.1)

    -- and so does what a refused `run_eqsat` leaves
    pub refused-eqsat-origins : {K : Type 0} (tells : K → ℕ → K → Type 0) (iterations seconds : ℕ) (s t : Graph × H) (k l : K) → HasRefusedEqsat tells rules_once (Calls leaves) iterations seconds (λ u n v x. RefusesTurn (RefusesRules (SearchesRule form) (λ _ _ _ _. ⊥)
        (AppliesRule form holds) (BreaksRule form holds refuses) rules) rules_once gives_up (Calls leaves) kept u n v x) s k t l e → HaveOrigins form holds rules after leaves s.0 t.0
    refused-eqsat-origins tells iterations seconds s t k l refused = so s.0 t.0 (broken-from tells iterations seconds (reading_in refused.readings) (reading_in refused.readings 0) refused.by_turns)

  -- if the hook and the edits change no graph, all come from the rules
  pub rules-alone : (g h : Graph) → ((k l : H) (a b : Graph) (n : ℕ) (stop : Option T) → leaves k a n l b stop → b ≡ a) → ((a b : Graph) → after a b → b ≡ a) → HaveOrigins form holds rules after leaves g h → AreFromRules form holds rules g h
  rules-alone g h still unmodified origins n past lt new = elim (origins n past lt new) [
    | inl c ↦ c
    | inr (inl c) ↦
        let same : length c.after.image.entries ≡ length c.before.image.entries = ap (λ (x : Graph). length x.image.entries) (still c.hook_before c.hook_after c.before c.after c.turns c.stop c.called) in
        absurd (omega (arith, c.past, c.within, same))
    | inr (inr c) ↦
        let same : length c.left.image.entries ≡ length c.before.image.entries = ap (λ (x : Graph). length x.image.entries) (unmodified c.before c.left c.by_edits) in
        absurd (omega (arith, c.past, c.within, same))
  ]
