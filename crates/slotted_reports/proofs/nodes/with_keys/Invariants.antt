use Rattle.std.proofs.Common.{◌≡◌, map, take}
use Rattle.std.specs.Prelude.{All}
use Rattle.slotted_reports.specs.Nodes.{HasKeyOf}
use Rattle.slotted_reports.proofs.nodes.with_keys.Given as goal

-- the sources so far, each with its key
abbrev pub invariant-loop-i : goal.invariant-loop-i
invariant-loop-i g l = record {
  sources : map (λ p. p.1) l.pairs.items ≡ take l.i l.sources;
  keys : All (HasKeyOf g.L.LanguageChildren.form l.nodes.filed) l.pairs.items;
}
