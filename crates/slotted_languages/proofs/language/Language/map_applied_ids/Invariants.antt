use Rattle.std.proofs.Common.{◌≡◌, length}
use Rattle.std.specs.List.{FoldsTo}
use Rattle.slotted_languages.specs.Children.{Replaced, below}
use Rattle.slotted_nodes.specs.Form.{children}
use Rattle.slotted_languages.proofs.language.Language.map_applied_ids.Given as goal

abbrev pub invariant-loop-k : goal.invariant-loop-k
invariant-loop-k g l =
    let form = g.Self.LanguageChildren.form in
    record {
      callable : goal.F-IsAlwaysCallable g l.f;
      replaced : FoldsTo (Replaced (goal.F-step g)) (l.initial.f, form l.self) (below l.k) (l.f, form l.node);
      as_many : length (children (form l.node).tree) ≡ length (children (form l.self).tree);
    }
