-- The clock is read once, where the hook does not stop the run.
use Rattle.std.proofs.Common.{◌≡◌, ◌∙◌, ◌+◌, ◌-◌, suc, [], ◌∷◌, length, None, ap, refl, sym, arith}
use Rattle.std.specs.Prelude.{not}
use Rattle.slotted_model_rules.specs.Runners.{after_check, runner_stop}
use Rattle.slotted_rules.specs.Seen.{limits_of}
use Rattle.slotted_rules.proofs.turning.reason.Goals as goal

pub returns-in-None : goal.returns-in-None
returns-in-None g c =
    let limits = limits_of c.args.limits.now in
    let same = not c.args.changed in
    record {
      readings = c.now.result ∷ [];
      told = (c.now.new.self, c.now.ensures, refl);
      stops = λ clock n r.
          ap (λ a. runner_stop limits a c.args.stored c.args.nodes (clock n - c.args.start) same) c.in-None.is
          ∙ (ap (λ t. runner_stop limits None c.args.stored c.args.nodes (t - c.args.start) same) r.0
          ∙ (ap (λ e. runner_stop limits None c.args.stored c.args.nodes e same) (sym c.saturating_sub-elapsed.ensures)
          ∙ sym c.limit_met.ensures));
      reads = λ n. let e : n + length (c.now.result ∷ []) ≡ suc n = omega arith in e ∙ ap (λ a. after_check a n) (sym c.in-None.is);
    }
