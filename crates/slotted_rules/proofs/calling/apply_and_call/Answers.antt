-- The hook is called in the graph that the rules leave.
use Rattle.std.specs.Prelude.{◌⊎◌, IsTrue}
use Rattle.std.proofs.Common.{◌≡◌, false, refl, inl, inr}
use Rattle.slotted_lists.proofs.Booleans.{unless-true}
use Rattle.slotted_graph.specs.Extension.{ExtendsTo}
use Rattle.slotted_graph.proofs.Extending.{extends-then}
use Rattle.slotted_rules.proofs.AppliedRules.{ok-well, not-failed, shortage_of}
use Rattle.slotted_rules.proofs.Lowering.{later-lowers}
use Rattle.slotted_languages.proofs.HandedOn.{handed_err}
use Rattle.slotted_rules.specs.Applying.{AreModified, AreRefusedBy, RefusesRules}
use Rattle.slotted_rules.specs.Turning.{Calls, RefusesTurn, RulesOnce, hook_refused, no_room, rules_refused}
use Rattle.slotted_slots.specs.declared.error.Error.{Error}
use Rattle.slotted_slots.specs.Error.{IsShortage}
use Rattle.slotted_rules.proofs.Beside.{same-progress}
use Rattle.slotted_rules.proofs.calling.apply_and_call.Goals as goal

pub returns-in_err-stop-clause-extends : goal.returns-in_err-stop-clause-extends
returns-in_err-stop-clause-extends g c =
    let f = c.apply_rewrites.new.graph in
    let well : f.failed ≡ false = ok-well _ f.failed c.apply_rewrites.result c.in_ok-changed.changed c.in_ok-changed.was c.apply_rewrites.ensures.fails.0 in
    elim c.call_hook.ensures.extends [
      | inl failed ↦ inl failed
      | inr more ↦ inr (extends-then c.args.graph.now f c.call_hook.new.graph (unless-true {P = ExtendsTo c.args.graph.now c.apply_rewrites.new.graph} c.apply_rewrites.new.graph.failed well c.apply_rewrites.ensures.extends) more)
    ]

pub returns-clause-ok : goal.returns-clause-ok
returns-clause-ok g c = record {
  applied = (c.apply_rewrites.new.graph, c.args.hook.now);
  by_rules = (c.in_ok-changed.ensures.modified, refl);
  by_hook = c.in_ok-stop.ensures.ok;
  same_is = same-progress c.args.graph.now.image c.apply_rewrites.new.graph.image c.in_ok-changed.changed c.in_ok-changed.ensures.changed;
}

pub returns-clause-extends : goal.returns-clause-extends
returns-clause-extends g c =
    let f = c.apply_rewrites.new.graph in
    let well : f.failed ≡ false = ok-well _ f.failed c.apply_rewrites.result c.in_ok-changed.changed c.in_ok-changed.was c.apply_rewrites.ensures.fails.0 in
    elim c.call_hook.ensures.extends [
      | inl failed ↦ inl failed
      | inr more ↦ inr (extends-then c.args.graph.now f c.call_hook.new.graph (unless-true {P = ExtendsTo c.args.graph.now c.apply_rewrites.new.graph} c.apply_rewrites.new.graph.failed well c.apply_rewrites.ensures.extends) more)
    ]

pub returns-in_err-stop-clause-lowers : goal.returns-in_err-stop-clause-lowers
returns-in_err-stop-clause-lowers g c =
    let f = c.apply_rewrites.new.graph in
    let well : f.failed ≡ false = ok-well _ f.failed c.apply_rewrites.result c.in_ok-changed.changed c.in_ok-changed.was c.apply_rewrites.ensures.fails.0 in
    later-lowers g.N.Analysis.codes g.N.Analysis.meaning g.met.N.Analysis.is_merge c.args.graph.now f c.call_hook.new.graph (unless-true f.failed well c.apply_rewrites.ensures.extends) (unless-true f.failed well c.apply_rewrites.ensures.lowers) c.call_hook.ensures.lowers

pub returns-clause-lowers : goal.returns-clause-lowers
returns-clause-lowers g c =
    let f = c.apply_rewrites.new.graph in
    let well : f.failed ≡ false = ok-well _ f.failed c.apply_rewrites.result c.in_ok-changed.changed c.in_ok-changed.was c.apply_rewrites.ensures.fails.0 in
    later-lowers g.N.Analysis.codes g.N.Analysis.meaning g.met.N.Analysis.is_merge c.args.graph.now f c.call_hook.new.graph (unless-true f.failed well c.apply_rewrites.ensures.extends) (unless-true f.failed well c.apply_rewrites.ensures.lowers) c.call_hook.ensures.lowers

pub returns-in_err-changed-clause-refused : goal.returns-in_err-changed-clause-refused
returns-in_err-changed-clause-refused g c =
    let e = c.in_err-changed.field-0.0 in
    let f = c.apply_rewrites.new.graph in
    let other = not-failed c.apply_rewrites.result e c.in_err-changed.was c.args.graph.now.failed c.requires.well c.apply_rewrites.ensures.failed in
    let Refused : Error → Type 0 = RefusesTurn (RefusesRules g.Q.RewriteT.searches g.Q.RewriteT.gives_up g.Q.RewriteT.applies g.Q.RewriteT.breaks_off c.args.rules.now) (RulesOnce g.Q.RewriteT.searches g.Q.RewriteT.applies (AreModified g.N.Analysis.codes g.N.Analysis.meaning g.N.Analysis.may_ask g.N.Analysis.modifies) c.args.rules.now) g.H.Hook.gives_up (Calls g.H.Hook.leaves) (λ _. ⊥) (c.args.graph.now, c.args.hook.now) c.args.iterations (f, c.args.hook.now) in
    let turn : Refused e = elim c.in_err-changed.ensures.refused [
      | inl failed ↦ no_room (shortage_of c.apply_rewrites.result e c.in_err-changed.was other (c.apply_rewrites.ensures.fails.0 failed)) (inl failed)
      | inr refused ↦ rules_refused refused refl
    ] in
    handed_err c.from_residual.result e c.from_residual.ensures.1 Refused turn

pub returns-in_err-stop-clause-refused : goal.returns-in_err-stop-clause-refused
returns-in_err-stop-clause-refused g c =
    let e = c.in_err-stop.field-0.0 in
    let f = c.apply_rewrites.new.graph in
    let h = c.call_hook.new.graph in
    let well : f.failed ≡ false = ok-well _ f.failed c.apply_rewrites.result c.in_ok-changed.changed c.in_ok-changed.was c.apply_rewrites.ensures.fails.0 in
    let left : IsTrue h.failed ⊎ ExtendsTo c.args.graph.now h = elim c.call_hook.ensures.extends [
      | inl failed ↦ inl failed
      | inr more ↦ inr (extends-then c.args.graph.now f h (unless-true {P = ExtendsTo c.args.graph.now f} f.failed well c.apply_rewrites.ensures.extends) more)
    ] in
    let Refused : Error → Type 0 = RefusesTurn (RefusesRules g.Q.RewriteT.searches g.Q.RewriteT.gives_up g.Q.RewriteT.applies g.Q.RewriteT.breaks_off c.args.rules.now) (RulesOnce g.Q.RewriteT.searches g.Q.RewriteT.applies (AreModified g.N.Analysis.codes g.N.Analysis.meaning g.N.Analysis.may_ask g.N.Analysis.modifies) c.args.rules.now) g.H.Hook.gives_up (Calls g.H.Hook.leaves) (λ _. ⊥) (c.args.graph.now, c.args.hook.now) c.args.iterations (h, c.call_hook.new.hook) in
    let turn : Refused e = elim c.in_err-stop.ensures.refused [
      | inl short ↦ no_room short left
      | inr gone ↦ hook_refused (f, c.args.hook.now) (c.in_ok-changed.ensures.modified, refl) gone
    ] in
    handed_err c.from_residual-in_err-stop.result e c.from_residual-in_err-stop.ensures.1 Refused turn

pub returns-in_err-changed-clause-err : goal.returns-in_err-changed-clause-err
returns-in_err-changed-clause-err g c =
    let e = c.in_err-changed.field-0.0 in
    let other = not-failed c.apply_rewrites.result e c.in_err-changed.was c.args.graph.now.failed c.requires.well c.apply_rewrites.ensures.failed in
    handed_err c.from_residual.result e c.from_residual.ensures.1 (λ x. IsShortage x ⊎ AreRefusedBy g.Q.RewriteT.refuses c.args.rules.now x ⊎ g.H.Hook.refuses x)
    (elim c.in_err-changed.ensures.err [
      | inl failed ↦ absurd (other failed)
      | inr refused ↦ elim refused [
        | inl short ↦ inl short
        | inr rule ↦ inr (inl rule)
      ]
    ])

pub returns-in_err-stop-clause-err : goal.returns-in_err-stop-clause-err
returns-in_err-stop-clause-err g c =
    handed_err c.from_residual-in_err-stop.result c.in_err-stop.field-0.0 c.from_residual-in_err-stop.ensures.1 (λ x. IsShortage x ⊎ AreRefusedBy g.Q.RewriteT.refuses c.args.rules.now x ⊎ g.H.Hook.refuses x)
    (elim c.in_err-stop.ensures.err [
      | inl short ↦ inl short
      | inr hook ↦ inr (inr hook)
    ])
