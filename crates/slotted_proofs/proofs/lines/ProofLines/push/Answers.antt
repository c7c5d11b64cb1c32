use Rattle.std.proofs.Common.{◌≡◌, ℕ, List, [], ◌∷◌, ◌++◌, Bool, false, cond, ap, ◌∙◌}
use Rattle.std.specs.Prelude.{nat_eq}
use Rattle.indexmap.specs.IndexSet.{insert_key}
use Rattle.slotted_proofs.specs.Lines.{has_line}
use Rattle.slotted_proofs.proofs.lines.ProofLines.push.Goals as goal

-- a new entry goes last
goes_last : (lines : List ℕ) (p : ℕ) → has_line lines p ≡ false → insert_key nat_eq lines p ≡ lines ++ p ∷ []
goes_last lines p h = ap (λ (b : Bool). cond b lines (lines ++ p ∷ [])) h

pub returns-clause-ok : goal.returns-clause-ok
returns-clause-ok c = c.in_ok-insert.ensures.keys ∙ (ap (λ ks. insert_key nat_eq ks c.args.p) c.self.view_is ∙ goes_last c.args.self.now c.args.p c.requires)
