-- The program of a node: its step, and then those of its child patterns from the left.
use Rattle.std.proofs.Common.{◌≡◌, ℕ, suc, ◌+◌, List, [], ◌∷◌, ◌++◌, length, take, drop, Bool, true, false, refl, sym, ap, ◌∙◌, subst, arith, inl, inr, append_assoc, length-append, length-drop, length-take, Some, None, Vec}
use Rattle.std.specs.Prelude.{◌==◌, if◌then◌else◌}
use Rattle.std.proofs.lemmas.Bool.{eqb-true}
use Rattle.std.specs.declared.alloc.Global.{Global}
use Rattle.std.proofs.lemmas.List.{append-nil, take-append-drop}
use Rattle.slotted_nodes.specs.Form.{Form, Tree, leaf, own, child, bind, scopes, children}
use Rattle.slotted_patterns.specs.Tree.{PatternTree}
use Rattle.slotted_model_rules.specs.Patterns.{Pattern, variable}
use Rattle.slotted_rule_patterns.specs.PatternCode.{filled_pattern, pattern_over}
use Rattle.slotted_rule_patterns.proofs.Parts.{node_of}
use Rattle.slotted_match_machine.specs.declared.program.Source.{Source}
use Rattle.slotted_match_machine.specs.declared.program.Step.{Step}
use Rattle.slotted_match_machine.specs.declared.program.Step.TheVariants.{Node, Variable}
use Rattle.slotted_match_machine.specs.Programs.{IsProgramFor, ends, compares, takes, enters, child_patterns, placed, root}
use Rattle.slotted_languages.specs.Outline.{skeleton_form}
use Rattle.slotted_matching.specs.Skeletons.{IsPlaceOf}
use Rattle.slotted_matching.specs.Compiled.{Adds, AddsPattern, Compiling, nothing, Enters, Goal, IsCompiled, IsPlaceOutline, Numbers, pattern_names}
use Rattle.slotted_matching.proofs.OwnSlots.{own-common}

module _ (S : List Form) where
  pub adds-nothing : (c : Compiling) → Adds S c c []
  adds-nothing c = record { more = []; steps = sym (append-nil c.steps); finds = λ variables rest others is. is }

  pub adds-then : (c d e : Compiling) (xs ys : List Goal) → Adds S c d xs → Adds S d e ys → Adds S c e (xs ++ ys)
  adds-then c d e xs ys a b = record {
    more = a.more ++ b.more;
    steps = b.steps ∙ (ap (λ l. l ++ b.more) a.steps ∙ append_assoc c.steps a.more b.more);
    finds = λ variables rest others is.
        subst (λ l. IsProgramFor (IsPlaceOutline S) variables c.next c.seen l ((xs ++ ys) ++ others)) (sym (append_assoc a.more b.more rest))
        (subst (IsProgramFor (IsPlaceOutline S) variables c.next c.seen (a.more ++ (b.more ++ rest))) (sym (append_assoc xs ys others))
        (a.finds variables (b.more ++ rest) (ys ++ others) (b.finds variables rest others is)));
  }

  -- a variable
  pub adds-variable : (c d : Compiling) (v : List ℕ) (k : ℕ) (from : Source) → Numbers c.seen d.seen v k → d.next ≡ c.next → d.steps ≡ c.steps ++ Variable k from ∷ [] → Adds S c d ((variable v, from) ∷ [])
  adds-variable c d v k from (inl n) next steps = record {
    more = Variable k from ∷ [];
    steps = steps;
    finds = λ variables rest others is. compares n.1 n.2 (subst (λ m. IsProgramFor (IsPlaceOutline S) variables m c.seen rest others) next (subst (λ s. IsProgramFor (IsPlaceOutline S) variables d.next s rest others) n.0 is));
  }
  adds-variable c d v k from (inr n) next steps = record {
    more = Variable k from ∷ [];
    steps = steps;
    finds = λ variables rest others is. takes n.1 n.2 (subst (λ m. IsProgramFor (IsPlaceOutline S) variables m (c.seen ++ v ∷ []) rest others) next (subst (λ s. IsProgramFor (IsPlaceOutline S) variables d.next s rest others) n.0 is));
  }

-- the child patterns of a node are the patterns that were given
pub children-filled : (u : Tree) (xs : List ℕ) (ps : List Pattern) → length ps ≡ length (children u) → child_patterns (filled_pattern u xs ps) ≡ ps
children-filled leaf xs [] n = refl
children-filled leaf xs (p ∷ ps) n = absurd (omega (arith, n))
children-filled (own r) xs ps n = children-filled r (drop 1 xs) ps n
children-filled (child i ks r) xs [] n = absurd (omega (arith, n))
children-filled (child i ks r) xs (p ∷ ps) n = ap (λ l. p ∷ l) (children-filled r (drop (length ks) xs) ps (omega (arith, n)))
children-filled (bind u r) xs ps n =
    let m = length (scopes u) in
    let k = length (children u) in
    let total : length ps ≡ k + length (children r) = n ∙ length-append (children u) (children r) in
    (λ j. children-filled u (take m (drop 1 xs)) (take k ps) (omega (arith, total, length-take k ps)) j
    ++ children-filled r (drop m (drop 1 xs)) (drop k ps) (omega (arith, total, length-drop k ps)) j)
    ∙ take-append-drop k ps

-- whether the node f is over the patterns ps
over-parts : (f : Form) (ps : List Pattern) (p : Pattern) → pattern_over f ps ≡ Some p → (length ps ≡ length (children f.tree)) × (p ≡ node_of f ps)
over-parts f ps p e = by (length ps == length (children f.tree)) refl e
  where
    by : (b : Bool) → (length ps == length (children f.tree)) ≡ b → (if b then Some (node_of f ps) else None) ≡ Some p → (length ps ≡ length (children f.tree)) × (p ≡ node_of f ps)
    by true t e = (eqb-true (length ps) (length (children f.tree)) t, cc)
    by false t e = absurd (cc)

module _ (S : List Form) where
  -- a node, of which the step is added
  pub enters-node : (c d : Compiling) (f : Form) (from : Source) (outline : ℕ) (slots : Vec ℕ Global) → IsPlaceOf S (skeleton_form f) outline → slots.items ≡ pattern_names f
      → d.seen ≡ c.seen → d.next ≡ c.next + 1 → d.steps ≡ c.steps ++ Node outline slots from ∷ [] → Enters S c d f from c.next
  enters-node c d f from outline slots place names seen next steps = record {
    seen = seen;
    register_is = refl;
    next = next ∙ omega arith;
    finds = λ ps p over e later adds.
        let o = over-parts f ps p over in
        record {
          more = Node outline slots from ∷ adds.more;
          steps = adds.steps ∙ (ap (λ l. l ++ adds.more) steps ∙ append_assoc c.steps (Node outline slots from ∷ []) adds.more);
          finds = λ variables rest others is.
              let goals = placed c.next 0 ps ++ (later ++ others) in
              let after : IsProgramFor (IsPlaceOutline S) variables d.next d.seen (adds.more ++ rest) goals =
              subst (IsProgramFor (IsPlaceOutline S) variables d.next d.seen (adds.more ++ rest)) (append_assoc (placed c.next 0 ps) later others) (adds.finds variables rest others is) in
              let here : IsProgramFor (IsPlaceOutline S) variables (suc c.next) c.seen (adds.more ++ rest) goals =
              subst (λ n. IsProgramFor (IsPlaceOutline S) variables n c.seen (adds.more ++ rest) goals) (next ∙ omega arith)
              (subst (λ s. IsProgramFor (IsPlaceOutline S) variables d.next s (adds.more ++ rest) goals) seen after) in
              subst (λ q. IsProgramFor (IsPlaceOutline S) variables c.next c.seen (Node outline slots from ∷ (adds.more ++ rest)) ((q, from) ∷ (later ++ others))) (sym o.1)
              (enters (f, ps, over ∙ ap Some o.1, place) (names ∙ own-common f.tree f.names ps o.0)
              (subst (λ qs. IsProgramFor (IsPlaceOutline S) variables (suc c.next) c.seen (adds.more ++ rest) (placed c.next 0 qs ++ (later ++ others))) (sym (children-filled f.tree f.names ps o.0)) here));
        };
  }

-- all steps of a pattern
pub compiled : (S : List Form) (c d : Compiling) (steps : List Step) (variables : List (List ℕ)) (t : PatternTree) → c ≡ nothing → steps ≡ d.steps → variables ≡ d.seen → AddsPattern S c d t root → IsCompiled S t steps variables
compiled S c d steps variables t start s v adds p is =
    let a : Adds S nothing d ((p, root) ∷ []) = subst (λ b. Adds S b d ((p, root) ∷ [])) start (adds p is) in
    subst (λ l. IsProgramFor (IsPlaceOutline S) variables 1 [] l ((p, root) ∷ [])) (append-nil a.more ∙ sym (s ∙ a.steps))
    (a.finds variables [] [] (subst (λ w. IsProgramFor (IsPlaceOutline S) variables d.next w [] []) v ends))
