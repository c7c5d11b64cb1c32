-- Runners that have stopped, or that a turn was refused to.
use Rattle.std.proofs.Common.{◌≡◌, ◌∙◌, ℕ, ◌+◌, ◌*◌, [], ◌++◌, length, length-append, Option, Some, None, ap, refl, sym, subst, arith}
use Rattle.std.specs.Prelude.{false}
use Rattle.slotted_slots.specs.declared.error.Error.{Error}
use Rattle.slotted_operations.specs.Graph.{Graph}
use Rattle.slotted_graph.specs.Extension.{ExtendsTo}
use Rattle.slotted_graph.proofs.Extending.{extends-itself}
use Rattle.slotted_model_rules.specs.Runners.{Measures, Runner, RunnerAnswers, RunnerRefuses, RunnerRuns, Stop, again, runner_report, starts, takes_up}
use Rattle.slotted_model_rules.specs.RunnerClaims.{unread}
use Rattle.slotted_model_rules.proofs.Rules.Turns.{read-twice}
use Rattle.slotted_rules.specs.RunLoops.{HasRefused, HasStopped, HasTaken, IsBegun, Leads}
use Rattle.slotted_rules.specs.Runs.{CountsReadings, HasRefusedTurn}
use Rattle.slotted_rules.specs.Seen.{Parts, seen}
use Rattle.slotted_rules.specs.Turning.{IsStart, ReadsFrom, reading_in}
use Rattle.slotted_rules.proofs.Readings.{more-readings, reads-back, reads-front, reads-itself, tells-then}

abbrev record_of : {D T H K : Type 0} → Parts D T H K → ℕ → Stop T → Runner (Graph × H) T D
record_of q start reason = record { graph = (q.graph, q.hook); stored = q.iterations; start = Some start; stop_reason = Some reason }

module _ {H T D K : Type 0} (tells : K → ℕ → K → Type 0) (applies : Graph × H → Graph × H → Type 0) (hooks : Graph × H → ℕ → Graph × H → Option T → Type 0) (m : Measures (Graph × H) D) where
  -- one that had stopped before
  pub stopped-before : (p : Parts D T H K) (reason : Stop T) → p.stop_reason ≡ Some reason → p.graph.failed ≡ false → HasStopped tells applies hooks m p p
  stopped-before p reason is well = record {
    reason = reason;
    stopped = is;
    run = record {
      readings = [];
      by_clock = refl;
      by_turns = again reason is;
      count = subst (λ o. CountsReadings o p.start (length p.iterations) (length p.iterations) reason 0) (sym is) refl;
      roots = refl;
      limits = refl;
    };
    well = well;
    extends = extends-itself p.graph;
  }

  answers-from : (p q : Parts D T H K) (clock : ℕ → ℕ) (start n last : ℕ) (reason : Stop T) (begun : Option ℕ) → p.start ≡ begun → IsStart begun clock start n → p.stop_reason ≡ None →
      RunnerRuns applies hooks m p.limits clock start p.iterations n (p.graph, p.hook) q.iterations last (q.graph, q.hook) reason → q.start ≡ Some start → q.stop_reason ≡ Some reason →
      RunnerAnswers applies hooks m p.limits clock 0 (seen p) (seen q) (runner_report m (seen q) reason)
  answers-from p q clock start n last reason None is s none runs began stopped =
      let same : record_of q (clock 0) reason ≡ seen q = λ i. record { graph = (q.graph, q.hook); stored = q.iterations; start = (ap (λ x. Some x) (sym s.0) ∙ sym began) i; stop_reason = sym stopped i } in
      subst (λ (r : Runner (Graph × H) T D). RunnerAnswers applies hooks m p.limits clock 0 (seen p) r (runner_report m r reason)) same
      (starts none is (subst (λ x. RunnerRuns applies hooks m p.limits clock x p.iterations 1 (p.graph, p.hook) q.iterations last (q.graph, q.hook) reason) s.0
      (subst (λ k. RunnerRuns applies hooks m p.limits clock start p.iterations k (p.graph, p.hook) q.iterations last (q.graph, q.hook) reason) s.1 runs)))
  answers-from p q clock start n last reason (Some begun) is s none runs began stopped =
      let same : record_of q begun reason ≡ seen q = λ i. record { graph = (q.graph, q.hook); stored = q.iterations; start = (ap (λ x. Some x) (sym s.0) ∙ sym began) i; stop_reason = sym stopped i } in
      subst (λ (r : Runner (Graph × H) T D). RunnerAnswers applies hooks m p.limits clock 0 (seen p) r (runner_report m r reason)) same
      (takes_up none is (subst (λ x. RunnerRuns applies hooks m p.limits clock x p.iterations 0 (p.graph, p.hook) q.iterations last (q.graph, q.hook) reason) s.0
      (subst (λ k. RunnerRuns applies hooks m p.limits clock start p.iterations k (p.graph, p.hook) q.iterations last (q.graph, q.hook) reason) s.1 runs)))

  counts : (stopped : Option (Stop T)) → stopped ≡ None → (begun : Option ℕ) (clock : ℕ → ℕ) (start n stored all last : ℕ) (reason : Stop T) → IsStart begun clock start n → last + unread reason + 2 * stored ≡ n + 2 * all →
      CountsReadings stopped begun stored all reason last
  counts stopped none None clock start n stored all last reason s e = subst (λ o. CountsReadings o None stored all reason last) (sym none) (let f : n ≡ 1 = s.1 in omega arith)
  counts stopped none (Some begun) clock start n stored all last reason s e = subst (λ o. CountsReadings o (Some begun) stored all reason last) (sym none) (let f : n ≡ 0 = s.1 in omega arith)

  module _ (p b q : Parts D T H K) (start : ℕ) (begun : IsBegun tells p b start) (had_not : p.stop_reason ≡ None) where
    -- one that stops now
    pub stopped-now : HasTaken tells applies hooks m b.limits start b q → (reason : Stop T) → q.stop_reason ≡ Some reason → HasStopped tells applies hooks m p q
    stopped-now taken reason stopped =
        let all = begun.readings ++ taken.readings in
        let read = reads-itself all in
        let s = begun.starts (reading_in all) (reads-front (reading_in all) 0 begun.readings taken.readings read) in
        let zero : 0 + length begun.readings ≡ length begun.readings = omega arith in
        let back = subst (λ n. ReadsFrom (reading_in all) n taken.readings) zero (reads-back (reading_in all) 0 begun.readings taken.readings read) in
        let last = length begun.readings + length taken.readings in
        let led = subst (Leads tells applies hooks m b.limits start (reading_in all) b.iterations (length begun.readings) (b.graph, b.hook) q.iterations last (q.graph, q.hook)) stopped
        (taken.leads (reading_in all) (length begun.readings) back) in
        let runs = subst (λ (x : Parts D T H K). RunnerRuns applies hooks m x.limits (reading_in all) start x.iterations (length begun.readings) (x.graph, x.hook) q.iterations last (q.graph, q.hook) reason) begun.rest led in
        let total : last ≡ length all = sym (ap (λ n. n + length taken.readings) zero) ∙ (sym (more-readings 0 begun.readings taken.readings) ∙ omega arith) in
        record {
          reason = reason;
          stopped = stopped;
          run = record {
            readings = all;
            by_clock = tells-then tells begun.readings taken.readings p.clock b.clock q.clock begun.told taken.told;
            by_turns = answers-from p q (reading_in all) start (length begun.readings) last reason p.start refl s had_not runs
                (ap (λ (x : Parts D T H K). x.start) taken.rest ∙ ap (λ (x : Parts D T H K). x.start) begun.rest) stopped;
            count = subst (CountsReadings p.stop_reason p.start (length p.iterations) (length q.iterations) reason) total
                (counts p.stop_reason had_not p.start (reading_in all) start (length begun.readings) (length p.iterations) (length q.iterations) last reason s
                (read-twice (Graph × H) T D applies hooks m p.limits (reading_in all) start runs));
            roots = ap (λ (x : Parts D T H K). x.roots) taken.rest ∙ ap (λ (x : Parts D T H K). x.roots) begun.rest;
            limits = ap (λ (x : Parts D T H K). x.limits) taken.rest ∙ ap (λ (x : Parts D T H K). x.limits) begun.rest;
          };
          well = taken.well;
          extends = subst (λ (x : Parts D T H K). ExtendsTo x.graph q.graph) begun.rest taken.extends;
        }

    -- or a turn is refused
    pub refused-now : (refuses : Graph × H → ℕ → Graph × H → Error → Type 0) (e : Error) → HasRefused tells applies hooks m b.limits start refuses b q e → HasRefusedTurn tells applies hooks m refuses p q e
    refused-now refuses e refused =
        let all = begun.readings ++ refused.readings in
        let read = reads-itself all in
        let zero : 0 + length begun.readings ≡ length begun.readings = omega arith in
        let back = subst (λ n. ReadsFrom (reading_in all) n refused.readings) zero (reads-back (reading_in all) 0 begun.readings refused.readings read) in
        record {
          readings = all;
          by_clock = tells-then tells begun.readings refused.readings p.clock b.clock q.clock begun.told refused.told;
          start = start;
          first = length begun.readings;
          starts = begun.starts (reading_in all) (reads-front (reading_in all) 0 begun.readings refused.readings read);
          by_turns = subst (λ (x : Parts D T H K). RunnerRefuses applies hooks (λ s i t. refuses s i t e) m x.limits (reading_in all) start x.iterations (length begun.readings) (x.graph, x.hook) q.iterations (q.graph, q.hook)) begun.rest
              (refused.refused (reading_in all) (length begun.readings) back);
          count =
              let same : length b.iterations ≡ length p.iterations = ap (λ (x : Parts D T H K). length x.iterations) begun.rest in
              let least = refused.count in
              omega (arith, same, least, length-append begun.readings refused.readings);
          had_not_stopped = had_not;
          rest = λ i. record q {
            roots = (ap (λ (x : Parts D T H K). x.roots) refused.rest ∙ ap (λ (x : Parts D T H K). x.roots) begun.rest) i;
            limits = (ap (λ (x : Parts D T H K). x.limits) refused.rest ∙ ap (λ (x : Parts D T H K). x.limits) begun.rest) i;
            stop_reason = (ap (λ (x : Parts D T H K). x.stop_reason) refused.rest ∙ ap (λ (x : Parts D T H K). x.stop_reason) begun.rest) i;
            start = (ap (λ (x : Parts D T H K). x.start) refused.rest ∙ ap (λ (x : Parts D T H K). x.start) begun.rest) i;
          };
        }
