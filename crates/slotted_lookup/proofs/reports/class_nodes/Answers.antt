-- One source after another.
use Rattle.std.proofs.Common.{◌≡◌, ◌∙◌, ◌++◌, ◌∷◌, [], true, false, refl, ap, sym}
use Rattle.std.specs.Prelude.{Bool, is_some, nat_eq, ◌&&◌}
use Rattle.std.proofs.lemmas.Bool.{and_from, eq-eqb, ne_eqb}
use Rattle.slotted_model.specs.Find.{find_class}
use Rattle.slotted_classes.specs.Kept.{entries_of}
use Rattle.slotted_hashcons.specs.Filed.{filed_of}
use Rattle.slotted_lookup.specs.Reports.{is_source}
use Rattle.slotted_lookup.proofs.ReportLists.{next-fails, next-passes}
use Rattle.slotted_lookup.proofs.reports.class_nodes.Goals.{then-is_filed+then-find_class-class+in_ok-push, else-is_filed, else-is_filed-via-then-is_filed+else-find_class-class, else-is_filed-via-else-is_filed}
use Rattle.slotted_lookup.proofs.reports.class_nodes.Goals as goal

second-fails : (a b : Bool) → b ≡ false → (a && b) ≡ false
second-fails true b e = e
second-fails false b e = refl

first-fails : (a b : Bool) → a ≡ false → (a && b) ≡ false
first-fails a b e = ap (λ x. x && b) e

pub loop-source-preserved : goal.loop-source-preserved
loop-source-preserved g c =
    let r = c.args.nodes.now in
    let found = entries_of c.args.store.now in
    let class = c.args.class in
    let i = c.loop-source.source in
    let test = is_source c.args.store.now r class in
    let filed = sym c.is_filed.ensures in
    elim c.if-is_filed.branch [
      | then-is_filed+then-find_class-class+in_ok-push w ↦
          (λ j. (w.sources-is j).items)
          ∙ (w.in_ok-push.ensures.items
          ∙ (ap (λ xs. xs ++ i ∷ []) c.loop-source.invariant
          ∙ next-passes test i (and_from (is_some (filed_of r.filed i)) (nat_eq (find_class found i) class) (filed ∙ w.if-is_filed.true) (eq-eqb (find_class found i) class (sym w.find_class.ensures.class ∙ w.if-find_class-class.true)))))
      | else-is_filed w ↦ (λ j. (w.sources-is j).items) ∙ (c.loop-source.invariant ∙ next-fails test i (elim w.else-is_filed.branch [
        | else-is_filed-via-then-is_filed+else-find_class-class v ↦
            second-fails (is_some (filed_of r.filed i)) (nat_eq (find_class found i) class) (ne_eqb (find_class found i) class (λ e. v.if-find_class-class.false (v.find_class.ensures.class ∙ e)))
        | else-is_filed-via-else-is_filed v ↦ first-fails (is_some (filed_of r.filed i)) (nat_eq (find_class found i) class) (filed ∙ v.if-is_filed.false)
      ]))
    ]
