-- What holds of a pattern holds of its parts: known names, variables with values, and the right number of child patterns at each node.
use Rattle.std.proofs.Common.{◌≡◌, ◌∙◌, ap, refl, sym, ℕ, zero, suc, ◌<◌, List, [], ◌∷◌, ◌++◌, length, arith}
use Rattle.std.specs.Prelude.{All, Option, Some, None, IsSome, is_some, true, slice_index_or}
use Rattle.std.proofs.lemmas.Bool.{false≢true}
use Rattle.slotted_lists.proofs.Each.{Each-from_All, Each-append, All-from_Each}
use Rattle.slotted_slots.specs.Table.{KnowsMore, Table, AllKnown}
use Rattle.slotted_nodes.specs.Form.{Form, children}
use Rattle.slotted_patterns.specs.Known.{AreKnown, HasKnownNames, HaveKnownNames}
use Rattle.slotted_patterns.specs.Tree.{PatternTree, enode, pvar, substitution, PatternRow, no_more, one_more, row_of}
use Rattle.slotted_model_rules.specs.Conditions.{Values}
use Rattle.slotted_model_rules.specs.Patterns.{Pattern, variable}
use Rattle.slotted_rule_patterns.specs.PatternCode.{pattern_in, patterns_in}
use Rattle.slotted_rule_patterns.specs.Variables.{has_value, variables_of, variables_of_row}
use Rattle.slotted_rule_patterns.proofs.Whole.{length-patterns}
use Rattle.slotted_rule_patterns.proofs.Parts.{node-parts, replacing-parts, first-parts}
use Rattle.slotted_rules.specs.Stacked.{IsReady}

-- the pattern with this number
abbrev pub pattern_at : List PatternTree → ℕ → PatternTree
pattern_at qs k = slice_index_or qs k (pvar [])

-- known names

pub all-known : (t : Table) (xs : List ℕ) → AreKnown t xs → AllKnown t xs
all-known t [] h k d l = absurd (omega arith)
all-known t (x ∷ xs) h zero d l = h.0
all-known t (x ∷ xs) h (suc k) d l = all-known t xs h.1 k d (omega arith)

module _ (t u : Table) (more : KnowsMore t u) where
  names-later : (xs : List ℕ) → AreKnown t xs → AreKnown u xs
  names-later [] h = tt
  names-later (x ∷ xs) h = (more x h.0, names-later xs h.1)

  mutual
    pub known-later : (q : PatternTree) → HasKnownNames t q → HasKnownNames u q
    known-later (enode f row) h = (names-later f.names h.0, row-later row h.1)
    known-later (pvar v) h = tt
    known-later (substitution b x v) h = (known-later b h.0, known-later x h.1, known-later v h.2)

    row-later : (row : PatternRow) → HaveKnownNames t row → HaveKnownNames u row
    row-later no_more h = tt
    row-later (one_more q rest) h = (known-later q h.0, row-later rest h.1)

-- values

Has : Values → List ℕ → Type 0
Has s v = has_value s v ≡ true

pub values-left : (s : Values) (vs ws : List (List ℕ)) → All (λ v. has_value s v ≡ true) (vs ++ ws) → All (λ v. has_value s v ≡ true) vs
values-left s vs ws h = All-from_Each (λ v. has_value s v ≡ true) vs (Each-append (λ v. has_value s v ≡ true) vs ws (Each-from_All (λ v. has_value s v ≡ true) (vs ++ ws) h)).0

pub values-right : (s : Values) (vs ws : List (List ℕ)) → All (λ v. has_value s v ≡ true) (vs ++ ws) → All (λ v. has_value s v ≡ true) ws
values-right s vs ws h = All-from_Each (λ v. has_value s v ≡ true) ws (Each-append (λ v. has_value s v ≡ true) vs ws (Each-from_All (λ v. has_value s v ≡ true) (vs ++ ws) h)).1

-- whole patterns

pub some-of : {A : Type 0} (o : Option A) → IsSome o → (a : A) × (o ≡ Some a)
some-of None h = absurd (false≢true h)
some-of (Some a) h = (a, refl)

pub some-is : {A : Type 0} (o : Option A) (a : A) → o ≡ Some a → IsSome o
some-is o a e = ap is_some e

pub part-at : (qs : List PatternTree) (ps : List Pattern) → patterns_in (row_of qs) ≡ Some ps → (k : ℕ) → k < length qs → pattern_in (pattern_at qs k) ≡ Some (slice_index_or ps k (variable []))
part-at [] ps e k l = absurd (omega arith)
part-at (q ∷ qs) ps e zero l =
    let n = first-parts q (row_of qs) ps e in
    n.first_is ∙ ap (λ z. Some (slice_index_or z 0 (variable []))) (sym n.is)
part-at (q ∷ qs) ps e (suc k) l =
    let n = first-parts q (row_of qs) ps e in
    part-at qs n.others n.others_are k (omega arith) ∙ ap (λ z. Some (slice_index_or z (suc k) (variable []))) (sym n.is)

pub record IsReadyNode (t : Table) (s : Values) (f : Form) (qs : List PatternTree) : Type 0 where
  pub own : AreKnown t f.names
  pub row : HaveKnownNames t (row_of qs)
  pub given : All (λ v. has_value s v ≡ true) (variables_of_row (row_of qs))
  pub patterns : List Pattern
  pub are : patterns_in (row_of qs) ≡ Some patterns
  pub count : length patterns ≡ length (children f.tree)

pub ready-node : (t : Table) (s : Values) (f : Form) (qs : List PatternTree) → IsReady t s (enode f (row_of qs)) → IsReadyNode t s f qs
ready-node t s f qs r =
    let p = some-of (pattern_in (enode f (row_of qs))) r.whole in
    let n = node-parts f (row_of qs) p.0 p.1 in
    record { own = r.known.0; row = r.known.1; given = r.given; patterns = n.patterns; are = n.are; count = n.count }

pub ready-count : (t : Table) (s : Values) (f : Form) (qs : List PatternTree) → IsReadyNode t s f qs → length qs ≡ length (children f.tree)
ready-count t s f qs r = sym (length-patterns qs r.patterns r.are) ∙ r.count

-- so it is asked of its parts, later too

pub record AreReady (u : Table) (s : Values) (b x v : PatternTree) : Type 0 where
  pub body : IsReady u s b
  pub part : IsReady u s x
  pub value : IsReady u s v

pub ready-parts : (t u : Table) (s : Values) (b x v : PatternTree) → KnowsMore t u → IsReady t s (substitution b x v) → AreReady u s b x v
ready-parts t u s b x v more r =
    let p = some-of (pattern_in (substitution b x v)) r.whole in
    let n = replacing-parts b x v p.0 p.1 in
    let later = values-right s (variables_of b) (variables_of x ++ variables_of v) r.given in
    record {
      body = record { known = known-later t u more b r.known.0; whole = some-is (pattern_in b) n.body n.body_is; given = values-left s (variables_of b) (variables_of x ++ variables_of v) r.given };
      part = record { known = known-later t u more x r.known.1; whole = some-is (pattern_in x) n.part n.part_is; given = values-left s (variables_of x) (variables_of v) later };
      value = record { known = known-later t u more v r.known.2; whole = some-is (pattern_in v) n.value n.value_is; given = values-right s (variables_of x) (variables_of v) later };
    }
